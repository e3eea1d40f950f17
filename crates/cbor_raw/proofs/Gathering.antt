-- The bytes of an item, taken one by one.
use Rattle.std.proofs.Common.{◌≡◌, ◌∙◌, ◌⊎◌, ◌+◌, ◌<◌, ◌^◌, ℕ, Bool, true, List, [], ◌∷◌, ◌++◌, length, Option, Some, None, IfSome, Ok, Err, is_some, refl, sym, ap, subst, arith, inl, inr, append-nil, length-append}
use Rattle.std.proofs.KnownBytes.{Consumes-trans}
use Rattle.cbor_model.specs.Allowed.{IsEnd}
use Rattle.cbor_model.specs.Formats.{Formats}
use Rattle.cbor_model.specs.Raw.{AreBytes}
use Rattle.cbor_model.specs.Reader.{item_at}
use Rattle.cbor_io.specs.declared.error.Error.{Error}
use Rattle.cbor_io.specs.declared.error.ErrorCode.{ErrorCode}
use Rattle.cbor_io.specs.declared.read_error.ReadErrorCode.{ReadErrorCode}
use Rattle.cbor_io.specs.Error.{HasNoOffset, IsOutOfMemory, category_of, code_of, offset_of}
use Rattle.cbor_read.specs.Source.{Input, Stays, TookKept, TookSome}
use Rattle.cbor_read.proofs.facts.Sources.{kept_some, some_then}
use Rattle.cbor_decode.specs.Gives.{Limits, Reports, ReportsIo, limits}
use Rattle.cbor_decode.proofs.facts.Steps.{taken_step, took_same, took_stays}
use Rattle.cbor_decode_as.specs.RawItems.{FindsEnd}
use Rattle.cbor_decode_as.specs.Takes.{ExcusedBy, IsNotRead, Refuses, raws}
use Rattle.cbor_pushed.specs.ItemAtFront.{FindsItem, HasItem, HasNoItem, IsRefused, IsUnfinished}
use Rattle.cbor_pushed.specs.Scanned.{Follows}
use Rattle.cbor_pushed.specs.declared.scan.Scan.{Scan}
use Rattle.cbor_pushed.proofs.facts.Scans.{end_category, ends_last, follows_more}
use Rattle.cbor_raw.specs.Gathered.{GathersNone, GathersUnread, IsBytesOf, IsExcused, IsGathered, ReadsNone, TakesByte, TakesMore}
use Rattle.cbor_raw.proofs.Kept.{none_gathered}
use Rattle.cbor_raw.proofs.NotReadFurther.{none_behind, none_here}

-- a byte came behind these
module _ (t u : Input) (old new : List ℕ) (came : TakesByte t u old new true) where
  pub took_more : (s : Input) → TookKept s t old → TookKept s u new
  took_more s h =
      let b = came.0 in
      let w = came.1.0 in
      subst (TookKept s u) (sym came.1.1) (record {
        bytes = Consumes-trans s.to_come t.to_come u.to_come old (b ∷ []) h.bytes w.bytes;
        count = omega (arith, length-append old (b ∷ []), h.count, w.count);
        room = w.room ∙ h.room;
        kept = w.kept ∙ h.kept;
      })

  -- and is seen
  module _ (front : List ℕ) (seen : front ≡ new) where
    pub scan_follows : (levels : ℕ) (scan : Scan) → Follows levels scan old → Follows levels scan front
    scan_follows levels scan h = subst (Follows levels scan) (sym (seen ∙ came.1.1)) (follows_more levels scan old (came.0 ∷ []) h)

    -- it makes an item whole
    ends_whole : (levels end : ℕ) → HasNoItem levels old → HasItem levels front end → HasItem levels new (length new)
    ends_whole levels end none found =
        let all = subst (λ (l : List ℕ). HasItem levels l end) (seen ∙ came.1.1) found in
        let last = ends_last levels came.0 end old none all in
        let item = subst (λ (l : List ℕ). HasItem levels l end) seen found in
        subst (HasItem levels new) (last ∙ ap length (sym came.1.1)) item

    -- or not
    pub takes_more : (levels : ℕ) (o : Option ℕ) → HasNoItem levels old → FindsItem levels front (Ok o) → TakesMore levels t u old new (is_some o)
    takes_more levels None none found = record { took = came; item = subst (IsUnfinished levels) seen found }
    takes_more levels (Some end) none found = record { took = came; item = ends_whole levels end none found }

-- memory ran out; the error is the same, further on
excused_memory : (allowed : ReadErrorCode → Bool) (found e : Error) → IsOutOfMemory found → (HasNoOffset (code_of found) → e ≡ found) → ExcusedBy (ReportsIo allowed) (code_of e) (offset_of e)
excused_memory allowed found e memory stays =
    let same : found ≡ e = sym (stays (subst HasNoOffset (sym memory.0) tt)) in
    let excused = subst (λ (k : ErrorCode). ExcusedBy (ReportsIo allowed) k (offset_of found)) (sym memory.0) memory.1 in
    subst (λ (e : Error). ExcusedBy (ReportsIo allowed) (code_of e) (offset_of e)) same excused

-- these bytes came, and no other was had, or none is wanted
module _ (allowed : ReadErrorCode → Bool) (levels : ℕ) (s t u : Input) (bytes : List ℕ) (took : TookKept s t bytes) where
  -- after what was taken, of which no more is known than that it is the front of what was to come
  pub behind : (N : Limits → List ℕ → Type 0) (e : Error) → TookSome t u
      → ((rest : List ℕ) → Reports t rest → length (bytes ++ rest) < 2 ^ 64 → ExcusedBy (ReportsIo allowed) (code_of e) (offset_of e) ⊎ N (limits s (bytes ++ rest)) (bytes ++ rest))
      → Refuses allowed s u (code_of e) (offset_of e) N
  behind N e more none = record {
    took = some_then s t u (kept_some s t bytes took) more;
    reported = λ bs reports.
        let got = (taken_step s t bytes took.bytes took.count took.room).reported bs reports in
        let short : length (bytes ++ got.rest) < 2 ^ 64 = omega (arith, reports.short, ap length got.holds) in
        subst (λ (l : List ℕ). ExcusedBy (ReportsIo allowed) (code_of e) (offset_of e) ⊎ N (limits s l) l) (sym got.holds) (none got.rest got.reports short);
  }

  -- the next byte wasn't had
  pub excused_behind : (N : Limits → List ℕ → Type 0) (e : Error) → IsExcused allowed t u e → Refuses allowed s u (code_of e) (offset_of e) N
  excused_behind N e h = behind N e h.took (λ rest reports short. elim (h.reported rest reports) [ inl excused ↦ inl excused | inr none ↦ absurd none ])

  -- the bytes have a fault, or memory ran out for finding it; the error is the same, further on
  module _ (found e : Error) (here : u ≡ t) (refused : IsOutOfMemory found ⊎ IsRefused levels bytes found) (stays : HasNoOffset (code_of found) → e ≡ found) where
    faulty : (N : Limits → List ℕ → Type 0) → (IsRefused levels bytes found → (rest : List ℕ) → length (bytes ++ rest) < 2 ^ 64 → N (limits s (bytes ++ rest)) (bytes ++ rest))
        → Refuses allowed s u (code_of e) (offset_of e) N
    faulty N none = by_cause refused
      where
        by_cause : IsOutOfMemory found ⊎ IsRefused levels bytes found → Refuses allowed s u (code_of e) (offset_of e) N
        by_cause (inl memory) = behind N e (took_same here) (λ rest reports short. inl (excused_memory allowed found e memory stays))
        by_cause (inr cause) = behind N e (took_same here) (λ rest reports short. inr (none cause rest short))

    pub refused_behind : GathersNone allowed levels s u e
    refused_behind = faulty (λ l bs. HasNoItem levels bs) (λ cause rest short. cause.for_good rest short)

    pub unread_behind : AreBytes bytes → GathersUnread allowed levels s u e
    unread_behind fits = faulty (ReadsNone levels) (λ cause rest short f most x left is.
        let first = cause.first in
        let other : IsEnd first.why → ⊥ = λ end. cause.no_end (ap category_of first.code ∙ end_category first.why end) in
        let alone = subst (HasNoItem levels) (append-nil bytes) (cause.for_good [] (omega (arith, length-append bytes rest, length-append {A = ℕ} bytes [], short))) in
        none_behind levels bytes fits alone first.why first.offset other first.first f s.offset (s.offset + length (bytes ++ rest)) most rest refl x left is)

  -- the source has no other byte
  pub ended_behind : (e : Error) → AreBytes bytes → HasNoItem levels bytes → Stays t u → IfSome t.to_come (λ bs. bs ≡ []) → GathersUnread allowed levels s u e
  ended_behind e fits none stays ends =
      behind (ReadsNone levels) e (took_stays t u stays) (λ rest reports short. inr (λ f most x left is.
      let nothing : rest ≡ [] = subst (λ (o : Option (List ℕ)). IfSome o (λ bs. bs ≡ [])) reports.is ends in
      none_here levels bytes fits none f (s.offset + length (bytes ++ rest)) most (bytes ++ rest) (ap (λ (l : List ℕ). bytes ++ l) nothing ∙ append-nil bytes) x left is))

-- what was gathered isn't of these formats, or has longer strings in chunks; or memory ran out
pub refused_within : (allowed : ReadErrorCode → Bool) (f : Formats) (levels : ℕ) (s t : Input) (bytes : List ℕ) → IsGathered levels s t bytes → AreBytes bytes → length bytes < 2 ^ 64
    → (found e : Error) → FindsEnd f levels s.room bytes (Err found) → (HasNoOffset (code_of found) → e ≡ found)
    → Refuses allowed s t (code_of e) (offset_of e) (λ l bs. IsNotRead IsBytesOf (item_at (raws f l) levels bs))
refused_within allowed f levels s t bytes got fits short found e none stays =
    behind allowed levels s t t bytes got.took (λ l bs. IsNotRead IsBytesOf (item_at (raws f l) levels bs)) e (took_same refl)
    (λ rest reports all. elim none [
      | inl memory ↦ inl (excused_memory allowed found e memory stays)
      | inr none ↦ inr (none_gathered levels bytes short got.item f s fits none rest (omega (arith, reports.short, got.took.count, length-append bytes rest)))
    ])
