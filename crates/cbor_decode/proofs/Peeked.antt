-- Whether another part comes, by the byte that is peeked.
use Rattle.std.proofs.Common.{◌≡◌, ℕ, Bool, List, [], ◌∷◌, ◌++◌, take, Option, Some, None, Ok, IfSome, MatchOption, sym, ap, subst, ◌∙◌, refl}
use Rattle.std.proofs.lemmas.Bool.{ne_eqb}
use Rattle.cbor_model.specs.Refusal.{Refusal}
use Rattle.cbor_model.specs.Reader.{next_at, to_break}
use Rattle.cbor_io.specs.declared.read_error.ReadError.{ReadError}
use Rattle.cbor_io.specs.declared.read_error.ReadErrorCode.{ReadErrorCode}
use Rattle.cbor_read.specs.Source.{Input, TookKept, Stays, NextDoes}
use Rattle.cbor_decode.specs.declared.refusal.Refused.{Refused}
use Rattle.cbor_decode.specs.declared.refusal.Refused.TheVariants as refused
use Rattle.cbor_decode.specs.declared.cursor.Collection.{Collection}
use Rattle.cbor_decode.specs.Gives.{Limits, Step, Stopped, IsAt}
use Rattle.cbor_decode.specs.Heads.{end_of, end_code}
use Rattle.cbor_decode.proofs.Steps.{step_then, kept_step, none_step}
use Rattle.cbor_decode.proofs.SourceCalls.{end_stops, reports_end}

-- what is said of the byte at the front
abbrev Front : Input → Option ℕ → Type 0
Front s o = MatchOption o (IfSome s.to_come (λ bs. bs ≡ [])) (λ b. IfSome s.to_come (λ bs. take 1 bs ≡ b ∷ []))

stays_step : (s t : Input) → Stays s t → Step s t (λ l bs rest. bs ≡ rest)
stays_step s t h = none_step s t h.bytes h.count h.room

discarded : (t u : Input) (p o : Option ℕ) (b : ℕ) → p ≡ o → o ≡ Some b → IfSome p (λ b. TookKept t u (b ∷ [])) → TookKept t u (b ∷ [])
discarded t u p o b is some h = subst (λ (x : Option ℕ). IfSome x (λ b. TookKept t u (b ∷ []))) (is ∙ some) h

-- the byte at the front was seen, and then taken
pub peeked_step : (s t u : Input) (p o : Option ℕ) (b : ℕ) (P : Limits → List ℕ → List ℕ → Type 0) → ((l : Limits) (rest : List ℕ) → P l (b ∷ rest) rest) → p ≡ o → o ≡ Some b → Stays s t → IfSome p (λ b. TookKept t u (b ∷ [])) → Step s u P
peeked_step s t u p o b P holds peeked some stays took =
    step_then s t u (λ l bs rest. bs ≡ rest) (λ l bs rest. bs ≡ (b ∷ []) ++ rest) P
    (λ l bs mid rest same front. subst (λ (x : List ℕ). P l x rest) (sym (same ∙ front)) (holds l rest)) (stays_step s t stays) (kept_step t u (b ∷ []) (discarded t u p o b peeked some took))

-- ---- the break

break_here : (w : Refusal) (b : ℕ) (rest : List ℕ) → b ≡ 255 → next_at w to_break (b ∷ rest) ≡ Ok (None, rest)
unfolding next_at
break_here w b rest is = rw is refl

pub break_taken : (s t u : Input) (p o : Option ℕ) (b : ℕ) (w : Refusal) → b ≡ 255 → p ≡ o → o ≡ Some b → Stays s t → IfSome p (λ b. TookKept t u (b ∷ [])) → Step s u (λ l bs rest. next_at w to_break bs ≡ Ok (None, rest))
break_taken s t u p o b w is =
    peeked_step s t u p o b (λ l bs rest. next_at w to_break bs ≡ Ok (None, rest)) (λ l rest. break_here w b rest is)

-- ---- another part

one_is : (x y : ℕ) → x ∷ [] ≡ y ∷ [] → x ≡ y
one_is x y e = cc

other_here : (w : Refusal) (b : ℕ) (bs : List ℕ) → (b ≡ 255 → ⊥) → take 1 bs ≡ b ∷ [] → next_at w to_break bs ≡ Ok (Some to_break, bs)
unfolding next_at
other_here w b [] other e = absurd cc
other_here w b (c ∷ bs) other e = rw (ne_eqb c 255 (λ is. other (sym (one_is c b e) ∙ is))) refl

front_is : (s : Input) (o : Option ℕ) (b : ℕ) (bs : List ℕ) → o ≡ Some b → s.to_come ≡ Some bs → Front s o → take 1 bs ≡ b ∷ []
front_is s o b bs some is h =
    let h' : IfSome s.to_come (λ bs. take 1 bs ≡ b ∷ []) = subst (Front s) some h in
    subst (λ (x : Option (List ℕ)). IfSome x (λ bs. take 1 bs ≡ b ∷ [])) is h'

pub part_stands : (s t : Input) (o : Option ℕ) (b : ℕ) (w : Refusal) → (b ≡ 255 → ⊥) → o ≡ Some b → Stays s t → Front s o → Step s t (λ l bs rest. next_at w to_break bs ≡ Ok (Some to_break, rest))
part_stands s t o b w other some stays front =
    let step = stays_step s t stays in
    record {
      took = step.took;
      reported = λ bs reports.
          let got = step.reported bs reports in
          let here = other_here w b bs other (front_is s o b bs some reports.is front) in
          record { rest = got.rest; reports = got.reports; total = got.total; holds = here ∙ ap (λ (x : List ℕ). Ok (Some to_break, x)) got.holds };
    }

-- ---- the end of input

none_does : (allowed : ReadErrorCode → Bool) (s t : Input) (o : Option ℕ) → o ≡ None → Stays s t → Front s o → NextDoes allowed s t (Ok None)
none_does allowed s t o none stays front = (stays, subst (Front s) none front)

pub no_part : (allowed : ReadErrorCode → Bool) (s t : Input) (o : Option ℕ) (of : Collection) (k : ReadErrorCode) (kept : ReadError) (r : Refused)
    → k ≡ end_code of → r ≡ refused.Kept → IsAt k t.offset kept → o ≡ None → Stays s t → Front s o → Stopped allowed (λ l. next_at (end_of of) to_break) s t kept r
unfolding next_at
no_part allowed s t o of k kept r is refused keeps none stays front =
    end_stops allowed s t None (λ l. next_at (end_of of) to_break) kept r k (end_of of) (λ at end r h. rw is (reports_end _ of at end r h)) (λ l. refl) refused keeps refl (none_does allowed s t o none stays front)
