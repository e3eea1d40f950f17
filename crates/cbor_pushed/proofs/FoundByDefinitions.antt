-- What is found of the bytes, by the definitions.
use Rattle.std.proofs.Common.{◌≡◌, ◌⊎◌, ◌<◌, ◌+◌, ◌-◌, ◌^◌, ℕ, List, length, drop, None, Ok, Err, refl, ap, subst, arith, inl, inr}
use Rattle.std.proofs.lemmas.List.{length-append, length-drop}
use Rattle.cbor_model.specs.Allowed.{IsFirstRefusal}
use Rattle.cbor_model.specs.Plain.{Val}
use Rattle.cbor_model.specs.Raw.{AreBytes}
use Rattle.cbor_model.specs.Spelling.{spell}
use Rattle.cbor_model.specs.Reader.{Fault, Reads, item_at}
use Rattle.cbor_model.proofs.facts.Refusals.{refused_first}
use Rattle.cbor_io.specs.declared.error.Error.{Error}
use Rattle.cbor_io.specs.declared.error.ErrorCode.{ErrorCode}
use Rattle.cbor_io.specs.declared.error.ErrorCode.TheVariants as code
use Rattle.cbor_io.specs.Error.{IsOutOfMemory, code_of, offset_of}
use Rattle.cbor_read.specs.Source.{start_of_slice}
use Rattle.cbor_decode.specs.FirstRefusal.{ReportsFirst}
use Rattle.cbor_decode.specs.Gives.{Fails, FailsBy}
use Rattle.cbor_decode.specs.Heads.{passed}
use Rattle.cbor_decode.proofs.facts.FirstRefusal.{item_first}
use Rattle.cbor_pushed.specs.ItemAtFront.{HasItem, HasNoItem, IsRefused, IsUnfinished, item_limits}
use Rattle.cbor_pushed.specs.Rests.{reading}
use Rattle.cbor_pushed.specs.Scanned.{HasFault, IsCut, IsWhole, item_of}
use Rattle.cbor_pushed.proofs.ForGood.{for_good}
use Rattle.cbor_pushed.proofs.ScannedBytes.{stopped_by}
use Rattle.cbor_pushed.proofs.ScanSteps.{passed_again, stands_there}

not_both : (r : Reads Val) (f : Fault) (rest : List ℕ) → r ≡ Err f → passed r ≡ Ok (tt, rest) → ⊥
not_both (Ok x) f rest is other = absurd cc
not_both (Err d) f rest is other = absurd cc

module _ (levels : ℕ) (front : List ℕ) (fits : AreBytes front) (short : length front < 2 ^ 64) where
  pub whole : (end : ℕ) → IsWhole levels front end → HasItem levels front end
  whole end is =
      let there = stands_there levels (length front) front (drop end front) fits is.1 in
      record {
        item = there.0;
        rest = drop end front;
        begins = there.1;
        ends = omega (arith, is.0, ap length there.1.spelled, length-append (spell there.0) (drop end front), length-drop end front);
      }

  none_there : (f : Fault) → item_of levels front ≡ Err f → HasNoItem levels front
  none_there f is item rest begins =
      not_both (item_of levels front) f rest is (passed_again levels (length front) front rest item short (omega arith) begins)

  pub unfinished : IsCut levels front → IsUnfinished levels front
  unfinished c =
      let total = length front in
      let f : Fault = record { why = c.why; left = c.left } in
      let got = refused_first None total levels front f (omega arith) fits (rw c.stops refl) in
      let start : total - length front ≡ 0 = omega arith in
      record {
        why = c.why;
        offset = got.0;
        ends = c.ends;
        first = subst (λ (n : ℕ). IsFirstRefusal (record { start = n; levels = levels; scratch = None }) front c.why got.0) start got.2;
        no_item = none_there f c.stops;
      }

  -- memory ran out, or the error is the first refusal
  pub first_told : (e : Error) → Fails (length front) e (item_of levels front) → IsOutOfMemory e ⊎ ReportsFirst (item_limits levels) front e
  first_told e h =
      let P : ℕ → Type 0 = λ n. FailsBy ⊥ (code_of e) n (offset_of e) (item_at (reading n) levels front) in
      let n : length front ≡ 0 + length front = omega arith in
      elim (item_first levels (start_of_slice front None) front fits e ⊥ (subst P n h)) [
        | inl memory ↦ inl memory
        | inr others ↦ elim others [ inl device ↦ absurd device.0 | inr first ↦ inr first ]
      ]

  -- and no item is there
  stopped : (e : Error) → HasFault levels front e → IsOutOfMemory e ⊎ (ReportsFirst (item_limits levels) front e × HasNoItem levels front)
  stopped e h =
      elim (first_told e h.0) [
        | inl memory ↦ inl memory
        | inr first ↦ by_fault first (stopped_by (code_of e) (length front) (offset_of e) (item_of levels front) h.0)
      ]
    where
      by_fault : ReportsFirst (item_limits levels) front e → (code_of e ≡ code.OutOfMemory) ⊎ ((f : Fault) × (item_of levels front ≡ Err f))
          → IsOutOfMemory e ⊎ (ReportsFirst (item_limits levels) front e × HasNoItem levels front)
      by_fault first (inl memory) = inl (memory, subst (λ (k : ErrorCode). FailsBy ⊥ k (length front) (offset_of e) (item_of levels front)) memory h.0)
      by_fault first (inr fault) = inr (first, none_there fault.0 fault.1)

  -- whatever is added
  pub refused : (e : Error) → HasFault levels front e → IsOutOfMemory e ⊎ IsRefused levels front e
  refused e h =
      elim (stopped e h) [
        | inl memory ↦ inl memory
        | inr other ↦ inr (record { first = other.0; no_end = h.1; for_good = for_good levels front e other.0 h.1 other.1 })
      ]
