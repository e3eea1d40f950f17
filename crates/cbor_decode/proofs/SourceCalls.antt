-- What the calls of a source are in the reference reader.
use Rattle.std.proofs.Common.{◌≡◌, ℕ, suc, ◌+◌, Bool, List, [], ◌∷◌, ◌++◌, length, take, slice_get, Option, Some, None, Ok, Err, IfSome, sym, ap, subst, ◌∙◌, refl, arith}
use Rattle.std.specs.Int.{Width, byte_len}
use Rattle.std.proofs.lemmas.Bool.{ne_eqb, lt-ltb}
use Rattle.cbor_model.specs.Refusal.{Refusal, trailing_data}
use Rattle.cbor_model.specs.Reader.{Reads, byte_at, bytes_at, number_at, next_at, to_break}
use Rattle.cbor_io.specs.declared.read_error.ReadError.{ReadError}
use Rattle.cbor_io.specs.declared.read_error.ReadErrorCode.{ReadErrorCode}
use Rattle.cbor_io.specs.declared.read_error.ReadErrorCode.TheVariants as reading
use Rattle.cbor_io.specs.ReadError.{why, place, error_code}
use Rattle.cbor_read.specs.Source.{Input, TookKept, TookSome, Stays, RefusedInto, RefusedByte, NextDoes, or_memory}
use Rattle.cbor_read.proofs.facts.Sources.{kept_some}
use Rattle.cbor_decode.specs.declared.refusal.Refused.{Refused}
use Rattle.cbor_decode.specs.declared.refusal.Refused.TheVariants as refused
use Rattle.cbor_decode.specs.Gives.{FailsAs, FailsBy, Limits, limits, Step, ReportsIo, Stops, ReportsWhy, Stopped, IsAt, end_at}
use Rattle.cbor_decode.specs.Heads.{first_at, end_of, end_code}
use Rattle.cbor_decode.specs.declared.cursor.Collection.{Collection}
use Rattle.cbor_decode.specs.declared.cursor.Collection.TheVariants.{Array, Map}
use Rattle.cbor_decode.proofs.Steps.{took_none, took_stays, step_map, kept_step, none_step, refused_stops, byte_refused, at_end}

-- ---- one byte

next_some : (allowed : ReadErrorCode → Bool) (s t : Input) (o : Option ℕ) (b : ℕ) → o ≡ Some b → NextDoes allowed s t (Ok o) → TookKept s t (b ∷ [])
next_some allowed s t None b e h = absurd cc
next_some allowed s t (Some c) b e h = subst (λ (n : ℕ). TookKept s t (n ∷ [])) (some_is c b e) h
  where
    some_is : (x y : ℕ) → Some x ≡ Some y → x ≡ y
    some_is x y e = cc

pub next_took : (allowed : ReadErrorCode → Bool) (s t : Input) (o : Option ℕ) (b : ℕ) → o ≡ Some b → NextDoes allowed s t (Ok o) → TookSome s t
next_took allowed s t o b is h = kept_some s t (b ∷ []) (next_some allowed s t o b is h)

next_none : (allowed : ReadErrorCode → Bool) (s t : Input) (o : Option ℕ) → o ≡ None → NextDoes allowed s t (Ok o) → Stays s t × IfSome s.to_come (λ bs. bs ≡ [])
next_none allowed s t None e h = h
next_none allowed s t (Some c) e h = absurd cc

-- the first byte was taken, of which more is known
pub next_step : (allowed : ReadErrorCode → Bool) (s t : Input) (o : Option ℕ) (b : ℕ) (P : Limits → List ℕ → List ℕ → Type 0) → ((l : Limits) (rest : List ℕ) → P l (b ∷ rest) rest) → o ≡ Some b → NextDoes allowed s t (Ok o) → Step s t P
next_step allowed s t o b P holds e h =
    step_map s t (λ l bs rest. bs ≡ (b ∷ []) ++ rest) P (λ l bs rest is. subst (λ (x : List ℕ). P l x rest) (sym is) (holds l rest)) (kept_step s t (b ∷ []) (next_some allowed s t o b e h))

-- the first byte at hand was taken
pub hand_step : (s t : Input) (hand : List ℕ) (b : ℕ) → slice_get hand 0 ≡ Some b → TookKept s t (take 1 hand) → Step s t (λ l bs rest. byte_at bs ≡ Ok (b, rest))
unfolding byte_at
hand_step s t [] b is took = absurd cc
hand_step s t (x ∷ xs) b is took =
    step_map s t (λ l bs rest. bs ≡ (b ∷ []) ++ rest) (λ l bs rest. byte_at bs ≡ Ok (b, rest)) (λ l bs rest front. ap byte_at front)
    (kept_step s t (b ∷ []) (subst (λ (n : ℕ). TookKept s t (n ∷ [])) (some_is x b is) took))
  where
    some_is : (x y : ℕ) → Some x ≡ Some y → x ≡ y
    some_is x y e = cc

-- nothing was to come
pub end_step : (allowed : ReadErrorCode → Bool) (s t : Input) (o : Option ℕ) (P : Limits → List ℕ → List ℕ → Type 0) → ((l : Limits) → P l [] []) → o ≡ None → NextDoes allowed s t (Ok o) → Step s t P
end_step allowed s t o P holds e h =
    let none = next_none allowed s t o e h in
    let step = none_step s t none.0.bytes none.0.count none.0.room in
    record {
      took = step.took;
      reported = λ bs reports.
          let got = step.reported bs reports in
          let empty = at_end s bs reports none.1 in
          record { rest = got.rest; reports = got.reports; total = got.total; holds = subst (λ (x : List ℕ). P (limits s bs) bs x) got.holds (subst (λ (x : List ℕ). P (limits s bs) x x) (sym empty) (holds (limits s bs))) };
    }

-- ---- refusals

-- what is kept reports of a reading
pub kept_reports : {A : Type 0} (allowed : ReadErrorCode → Bool) (s : Input) (read : Limits → List ℕ → Reads A) (kept : ReadError) (r : Refused) (P : ReadError → Type 0)
    → ((e : ReadError) → P e → Stops allowed read s e) → r ≡ refused.Kept → P kept → ReportsWhy allowed read s kept r
kept_reports allowed s read kept refused.OutOfMemory P on is h = absurd cc
kept_reports allowed s read kept refused.Kept P on is h = on kept h

-- what is kept stops a reading
pub kept_stops : {A : Type 0} {t : Input} (allowed : ReadErrorCode → Bool) (s : Input) (read : Limits → List ℕ → Reads A) (kept : ReadError) (r : Refused) (P : ReadError → Type 0)
    → ((e : ReadError) → P e → Stops allowed read s e) → TookSome s t → r ≡ refused.Kept → P kept → Stopped allowed read s t kept r
kept_stops allowed s read kept r P on took is keeps = record { took = took; reported = kept_reports allowed s read kept r P on is keeps }

-- so does a refusal of the source that is kept
pub source_stops : {A : Type 0} {t : Input} (allowed : ReadErrorCode → Bool) (s : Input) (read : Limits → List ℕ → Reads A) (kept : ReadError) (r : Refused) (e : ReadError)
    → r ≡ refused.Kept → kept ≡ e → TookSome s t → Stops allowed read s e → Stopped allowed read s t kept r
source_stops allowed s read kept r e is keeps took h = kept_stops allowed s read kept r (Stops allowed read s) (λ e h. h) took is (subst (Stops allowed read s) (sym keeps) h)

pub next_stops : {A : Type 0} (allowed : ReadErrorCode → Bool) (s t : Input) (read : Limits → List ℕ → Reads A) (kept : ReadError) (r : Refused) (e : ReadError)
    → r ≡ refused.Kept → kept ≡ e → RefusedByte allowed s t e → Stopped allowed read s t kept r
next_stops allowed s t read kept r e is keeps h = source_stops allowed s read kept r e is keeps h.refused.moved (byte_refused allowed s t e read h)

-- a fault at the end of input
pub end_stops : {A : Type 0} (allowed : ReadErrorCode → Bool) (s t : Input) (o : Option ℕ) (read : Limits → List ℕ → Reads A) (kept : ReadError) (r : Refused) (k : ReadErrorCode) (w : Refusal)
    → ((offset end : ℕ) (r : Reads A) → FailsAs w end offset r → FailsBy (ReportsIo allowed) (error_code k) end offset r)
    → ((l : Limits) → read l [] ≡ Err (record { why = w; left = 0 })) → r ≡ refused.Kept → IsAt k t.offset kept → o ≡ None → NextDoes allowed s t (Ok o) → Stopped allowed read s t kept r
end_stops {A} allowed s t o read kept r k w reports_as stops is keeps n h = kept_stops allowed s read kept r (IsAt k t.offset) here (took_stays s t (next_none allowed s t o n h).0) is keeps
  where
    here : (e : ReadError) → IsAt k t.offset e → Stops allowed read s e
    here e at = record {
      reported = λ bs reports.
          let none = next_none allowed s t o n h in
          let empty = at_end s bs reports none.1 in
          let r = read (limits s bs) bs in
          let same : r ≡ Err (record { why = w; left = 0 }) = ap (λ (x : List ℕ). read (limits s bs) x) empty ∙ stops (limits s bs) in
          let end : place e + 0 ≡ s.offset + length bs = omega (arith, at.1, none.0.count, ap length empty) in
          subst (λ (c : ReadErrorCode). FailsBy (ReportsIo allowed) (error_code c) (s.offset + length bs) (place e) r) (sym at.0) (reports_as (place e) (s.offset + length bs) r (0, end, same));
    }

-- a byte after all that was wanted
pub trailing_stops : (allowed : ReadErrorCode → Bool) (s t : Input) (o : Option ℕ) (b : ℕ) (kept : ReadError) (r : Refused)
    → r ≡ refused.Kept → IsAt reading.TrailingData t.offset kept → o ≡ Some b → NextDoes allowed s t (Ok o) → Stopped allowed (λ l. end_at) s t kept r
trailing_stops allowed s t o b kept r is keeps some h = kept_stops allowed s (λ l. end_at) kept r (IsAt reading.TrailingData t.offset) here (next_took allowed s t o b some h) is keeps
  where
    here : (e : ReadError) → IsAt reading.TrailingData t.offset e → Stops allowed (λ l. end_at) s e
    here e at = record {
      reported = λ bs reports.
          let step = next_step allowed s t o b (λ l bs rest. bs ≡ b ∷ rest) (λ l rest. refl) some h in
          let got = step.reported bs reports in
          let end : place e + length got.rest ≡ s.offset + length bs = omega (arith, at.1, got.total) in
          let behind : end_at bs ≡ Err (record { why = trailing_data; left = length got.rest }) = ap end_at got.holds in
          subst (λ (c : ReadErrorCode). FailsBy (ReportsIo allowed) (error_code c) (s.offset + length bs) (place e) (end_at bs)) (sym at.0) (length got.rest, end, behind);
    }

-- a fault before the bytes to come
pub fault_stops : {A : Type 0} (allowed : ReadErrorCode → Bool) (s : Input) (read : Limits → List ℕ → Reads A) (kept : ReadError) (r : Refused) (k : ReadErrorCode) (w : Refusal)
    → ((offset end : ℕ) (r : Reads A) → FailsAs w end offset r → FailsBy (ReportsIo allowed) (error_code k) end offset r)
    → ((l : Limits) (bs : List ℕ) → read l bs ≡ Err (record { why = w; left = length bs })) → r ≡ refused.Kept → IsAt k s.offset kept → Stopped allowed read s s kept r
fault_stops {A} allowed s read kept r k w reports_as stops is keeps = kept_stops allowed s read kept r (IsAt k s.offset) here (took_none s) is keeps
  where
    here : (e : ReadError) → IsAt k s.offset e → Stops allowed read s e
    here e at = record {
      reported = λ bs reports.
          let r = read (limits s bs) bs in
          let end : place e + length bs ≡ s.offset + length bs = omega (arith, at.1) in
          subst (λ (c : ReadErrorCode). FailsBy (ReportsIo allowed) (error_code c) (s.offset + length bs) (place e) r) (sym at.0) (reports_as (place e) (s.offset + length bs) r (length bs, end, stops (limits s bs) bs));
    }

-- a fault before the byte that was taken last, after a step of which P holds
pub first_stops : {A : Type 0} (allowed : ReadErrorCode → Bool) (s t : Input) (read : Limits → List ℕ → Reads A) (kept : ReadError) (r : Refused) (k : ReadErrorCode) (w : Refusal)
    → ((offset end : ℕ) (r : Reads A) → FailsAs w end offset r → FailsBy (ReportsIo allowed) (error_code k) end offset r)
    → (P : Limits → List ℕ → List ℕ → Type 0) → ((l : Limits) (bs mid : List ℕ) → P l bs mid → read l bs ≡ Err (record { why = w; left = suc (length mid) }))
    → Step s t P → r ≡ refused.Kept → (why kept ≡ k) × (place kept + 1 ≡ t.offset) → Stopped allowed read s t kept r
first_stops {A} allowed s t read kept r k w reports_as P stops step is keeps = kept_stops allowed s read kept r (λ e. (why e ≡ k) × (place e + 1 ≡ t.offset)) here step.took is keeps
  where
    here : (e : ReadError) → (why e ≡ k) × (place e + 1 ≡ t.offset) → Stops allowed read s e
    here e at = record {
      reported = λ bs reports.
          let got = step.reported bs reports in
          let r = read (limits s bs) bs in
          let end : place e + suc (length got.rest) ≡ s.offset + length bs = omega (arith, at.1, got.total) in
          subst (λ (c : ReadErrorCode). FailsBy (ReportsIo allowed) (error_code c) (s.offset + length bs) (place e) r) (sym at.0) (reports_as (place e) (s.offset + length bs) r (suc (length got.rest), end, stops (limits s bs) bs got.rest got.holds));
    }

-- ---- numbers and strings

number_refused : (allowed : ReadErrorCode → Bool) (s t : Input) (w : Width) (e : ReadError) → RefusedInto allowed s t (byte_len w) e → Stops allowed (λ l. number_at w) s e
number_refused allowed s t w e h = refused_stops allowed s t (byte_len w) e (λ l. number_at w) (λ l bs short. rw (lt-ltb (length bs) (byte_len w) short) refl) h.room h.refused

-- no number could be taken
pub number_stops : (allowed : ReadErrorCode → Bool) (s t : Input) (w : Width) (kept : ReadError) (r : Refused) → r ≡ refused.Kept → RefusedInto allowed s t (byte_len w) kept → Stopped allowed (λ l. number_at w) s t kept r
number_stops allowed s t w kept r is h = kept_stops allowed s (λ l. number_at w) kept r (RefusedInto allowed s t (byte_len w)) (λ e. number_refused allowed s t w e) h.refused.moved is h

-- not so many bytes could be taken
pub bytes_stop : (allowed : ReadErrorCode → Bool) (s t : Input) (n : ℕ) (kept : ReadError) (r : Refused) (e : ReadError) → r ≡ refused.Kept → kept ≡ e → RefusedInto (or_memory allowed) s t n e → Stopped allowed (λ l. bytes_at n) s t kept r
bytes_stop allowed s t n kept r e is keeps h =
    let stops = refused_stops (or_memory allowed) s t n e (λ l. bytes_at n) (λ l bs short. rw (lt-ltb (length bs) n short) refl) h.room h.refused in
    source_stops allowed s (λ l. bytes_at n) kept r e is keeps h.refused.moved (record { reported = stops.reported })

-- ---- the next part

-- the first byte of another part
another : (w : Refusal) (b : ℕ) (rest : List ℕ) → (b ≡ 255 → ⊥) → first_at w to_break (b ∷ rest) ≡ Ok (Some (to_break, b), rest)
unfolding next_at byte_at
another w b rest other = rw (ne_eqb b 255 other) refl

pub another_step : (allowed : ReadErrorCode → Bool) (s t : Input) (o : Option ℕ) (b : ℕ) (w : Refusal) → (b ≡ 255 → ⊥) → o ≡ Some b → NextDoes allowed s t (Ok o) → Step s t (λ l bs rest. first_at w to_break bs ≡ Ok (Some (to_break, b), rest))
another_step allowed s t o b w other = next_step allowed s t o b (λ l bs rest. first_at w to_break bs ≡ Ok (Some (to_break, b), rest)) (λ l rest. another w b rest other)

last : (w : Refusal) (b : ℕ) (rest : List ℕ) → b ≡ 255 → first_at w to_break (b ∷ rest) ≡ Ok (None, rest)
unfolding next_at
last w b rest is = rw is refl

pub last_step : (allowed : ReadErrorCode → Bool) (s t : Input) (o : Option ℕ) (b : ℕ) (w : Refusal) → b ≡ 255 → o ≡ Some b → NextDoes allowed s t (Ok o) → Step s t (λ l bs rest. first_at w to_break bs ≡ Ok (None, rest))
last_step allowed s t o b w is = next_step allowed s t o b (λ l bs rest. first_at w to_break bs ≡ Ok (None, rest)) (λ l rest. last w b rest is)

-- the code reports the fault
pub reports_end : {A : Type 0} (D : Type 0) (of : Collection) (at end : ℕ) (r : Reads A) → FailsAs (end_of of) end at r → FailsBy D (error_code (end_code of)) end at r
reports_end D Array at end r h = h
reports_end D Map at end r h = h

-- no break came, nor another part
pub no_break : (allowed : ReadErrorCode → Bool) (s t : Input) (o : Option ℕ) (of : Collection) (w : Refusal) (k : ReadErrorCode) (kept : ReadError) (r : Refused)
    → k ≡ end_code of → w ≡ end_of of → r ≡ refused.Kept → IsAt k t.offset kept → o ≡ None → NextDoes allowed s t (Ok o) → Stopped allowed (λ l. first_at w to_break) s t kept r
unfolding next_at
no_break allowed s t o of w k kept r is ends refused keeps none h =
    end_stops allowed s t o (λ l. first_at w to_break) kept r k w (λ at end r h. rw is (reports_end _ of at end r (subst (λ (v : Refusal). FailsAs v end at r) ends h))) (λ l. refl) refused keeps none h
