-- The end of an array or a map.
use Rattle.std.proofs.Common.{◌≡◌, ℕ, zero, suc, ◌+◌, Bool, List, ◌∷◌, length, Option, Some, None, Ok, Err, sym, subst, refl, arith}
use Rattle.std.proofs.lemmas.Bool.{ne_eqb}
use Rattle.cbor_model.specs.Refusal.{Refusal, trailing_data}
use Rattle.cbor_model.specs.Reader.{before, to_break}
use Rattle.cbor_io.specs.declared.read_error.ReadError.{ReadError}
use Rattle.cbor_io.specs.declared.read_error.ReadErrorCode.{ReadErrorCode}
use Rattle.cbor_io.specs.declared.read_error.ReadErrorCode.TheVariants as reading
use Rattle.cbor_io.specs.ReadError.{place, error_code}
use Rattle.cbor_read.specs.Source.{Input, NextDoes}
use Rattle.cbor_decode.specs.declared.refusal.Refused.{Refused}
use Rattle.cbor_decode.specs.declared.refusal.Refused.TheVariants as refused
use Rattle.cbor_decode.specs.declared.cursor.Collection.{Collection}
use Rattle.cbor_decode.specs.declared.cursor.Remaining.{Remaining}
use Rattle.cbor_decode.specs.declared.cursor.Remaining.TheVariants.{Counted}
use Rattle.cbor_decode.specs.Cursor.{ended_at}
use Rattle.cbor_decode.specs.Gives.{FailsBy, Step, ReportsIo, Stops, Stopped, IsAt}
use Rattle.cbor_decode.specs.Heads.{end_of, end_code, remaining_of}
use Rattle.cbor_decode.proofs.Steps.{step_same}
use Rattle.cbor_decode.proofs.SourceCalls.{next_took, next_step, kept_stops, end_stops, fault_stops, reports_end}

-- ---- a declared count

none_left : (w : Refusal) (r : Remaining) (n : ℕ) (bs : List ℕ) → r ≡ Counted n → n ≡ 0 → ended_at w (remaining_of r) bs ≡ Ok (tt, bs)
unfolding ended_at
none_left w r n bs is none = rw (is, none) refl

pub count_ends : (s : Input) (w : Refusal) (r : Remaining) (n : ℕ) → r ≡ Counted n → n ≡ 0 → Step s s (λ l bs rest. ended_at w (remaining_of r) bs ≡ Ok (tt, rest))
count_ends s w r n is none = step_same s (λ l bs rest. ended_at w (remaining_of r) bs ≡ Ok (tt, rest)) (λ l bs. none_left w r n bs is none)

some_left : (w : Refusal) (r : Remaining) (n : ℕ) (bs : List ℕ) → r ≡ Counted n → (n ≡ 0 → ⊥) → ended_at w (remaining_of r) bs ≡ Err (before trailing_data bs)
unfolding ended_at
some_left w r zero bs is some = absurd (some refl)
some_left w r (suc n) bs is some = rw is refl

pub count_stops : (allowed : ReadErrorCode → Bool) (s : Input) (w : Refusal) (r : Remaining) (n : ℕ) (kept : ReadError) (why : Refused)
    → r ≡ Counted n → (n ≡ 0 → ⊥) → why ≡ refused.Kept → IsAt reading.TrailingData s.offset kept → Stopped allowed (λ l. ended_at w (remaining_of r)) s s kept why
count_stops allowed s w r n kept why is some refused keeps =
    fault_stops allowed s (λ l. ended_at w (remaining_of r)) kept why reading.TrailingData trailing_data (λ at end r h. h) (λ l bs. some_left w r n bs is some) refused keeps

-- ---- a break

break_here : (w : Refusal) (b : ℕ) (rest : List ℕ) → b ≡ 255 → ended_at w to_break (b ∷ rest) ≡ Ok (tt, rest)
unfolding ended_at
break_here w b rest is = rw is refl

pub break_ends : (allowed : ReadErrorCode → Bool) (s t : Input) (o : Option ℕ) (b : ℕ) (w : Refusal) → b ≡ 255 → o ≡ Some b → NextDoes allowed s t (Ok o) → Step s t (λ l bs rest. ended_at w to_break bs ≡ Ok (tt, rest))
break_ends allowed s t o b w is = next_step allowed s t o b (λ l bs rest. ended_at w to_break bs ≡ Ok (tt, rest)) (λ l rest. break_here w b rest is)

other_here : (w : Refusal) (b : ℕ) (bs rest : List ℕ) → (b ≡ 255 → ⊥) → bs ≡ b ∷ rest → ended_at w to_break bs ≡ Err (before trailing_data rest)
unfolding ended_at
other_here w b bs rest other is = rw (is, ne_eqb b 255 other) refl

pub other_stops : (allowed : ReadErrorCode → Bool) (s t : Input) (o : Option ℕ) (b : ℕ) (w : Refusal) (kept : ReadError) (r : Refused)
    → (b ≡ 255 → ⊥) → r ≡ refused.Kept → IsAt reading.TrailingData t.offset kept → o ≡ Some b → NextDoes allowed s t (Ok o) → Stopped allowed (λ l. ended_at w to_break) s t kept r
other_stops allowed s t o b w kept r other is keeps some h = kept_stops allowed s (λ l. ended_at w to_break) kept r (IsAt reading.TrailingData t.offset) here (next_took allowed s t o b some h) is keeps
  where
    here : (e : ReadError) → IsAt reading.TrailingData t.offset e → Stops allowed (λ l. ended_at w to_break) s e
    here e at = record {
      reported = λ bs reports.
          let step = next_step allowed s t o b (λ l bs rest. bs ≡ b ∷ rest) (λ l rest. refl) some h in
          let got = step.reported bs reports in
          let end : place e + length got.rest ≡ s.offset + length bs = omega (arith, at.1, got.total) in
          subst (λ (c : ReadErrorCode). FailsBy (ReportsIo allowed) (error_code c) (s.offset + length bs) (place e) (ended_at w to_break bs)) (sym at.0) (length got.rest, end, other_here w b bs got.rest other got.holds);
    }

pub no_break_stops : (allowed : ReadErrorCode → Bool) (s t : Input) (o : Option ℕ) (of : Collection) (k : ReadErrorCode) (kept : ReadError) (r : Refused)
    → k ≡ end_code of → r ≡ refused.Kept → IsAt k t.offset kept → o ≡ None → NextDoes allowed s t (Ok o) → Stopped allowed (λ l. ended_at (end_of of) to_break) s t kept r
unfolding ended_at
no_break_stops allowed s t o of k kept r is refused keeps none h =
    end_stops allowed s t o (λ l. ended_at (end_of of) to_break) kept r k (end_of of) (λ at end r h. rw is (reports_end _ of at end r h)) (λ l. refl) refused keeps none h
