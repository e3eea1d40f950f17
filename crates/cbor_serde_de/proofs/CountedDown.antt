-- What a step counted.
use Rattle.std.proofs.Common.{◌≡◌, suc, List, ℕ, Ok, Some, refl, sym, subst}
use Rattle.cbor_model.specs.Refusal.{Refusal}
use Rattle.cbor_model.specs.Reader.{next_at}
use Rattle.cbor_decode.specs.Heads.{remaining_of}
use Rattle.cbor_decode.specs.declared.cursor.Remaining.{Remaining}
use Rattle.cbor_decode.specs.declared.cursor.Remaining.TheVariants.{Counted}
use Rattle.cbor_decode.proofs.facts.Steps.{step_same}
use Rattle.cbor_serde_de.specs.AtHand.{CountsDown}
use Rattle.cbor_serde_de.specs.Given.{Counts}
use Rattle.cbor_serde_de.specs.Places.{input_of}
use Rattle.cbor_serde_de.specs.declared.cbor.Cbor.{Cbor}

next_counted : (why : Refusal) (r : Remaining) (left : ℕ) (bs : List ℕ) → r ≡ Counted (suc left) → next_at why (remaining_of r) bs ≡ Ok (Some (remaining_of (Counted left)), bs)
unfolding next_at
next_counted why r left bs due = rw due refl

-- a part that was counted down comes
pub counted_down : (why : Refusal) (old new : Cbor) → CountsDown old new → Counts why old new
counted_down why old new h =
    subst (Counts why old) (sym h.counted)
    (record {
      comes = step_same (input_of old) (λ l bs rest. next_at why (remaining_of old.innermost.remaining) bs ≡ Ok (Some (remaining_of (Counted h.left)), rest)) (λ l bs. next_counted why old.innermost.remaining h.left bs h.due);
      kept = record { around = refl; settings = record { levels = refl; formats = refl } };
    })
