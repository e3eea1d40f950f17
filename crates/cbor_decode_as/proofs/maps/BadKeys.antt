-- That the next key may not begin as it does is reported.
use Rattle.std.proofs.Common.{◌≡◌, ◌⊎◌, ◌+◌, ◌∙◌, refl, length, arith, ℕ, Bool, true, false, if◌then◌else◌, List, [], ◌∷◌, Option, Some, Ok, Err, inl, inr, sym, ap, subst}
use Rattle.cbor_model.specs.Refusal.{end_in_map, wrong_struct_format}
use Rattle.cbor_model.specs.Formats.{Formats, may_begin_key}
use Rattle.cbor_model.specs.Raw.{Raw}
use Rattle.cbor_model.specs.Reader.{Fault, Reads, before, item_at, key_at, next_at, pair_at, parts_by}
use Rattle.cbor_model.specs.Reader as reader
use Rattle.cbor_model.proofs.facts.Reader.{ok_is}
use Rattle.cbor_read.specs.Source.{Input}
use Rattle.cbor_io.specs.Error.{code_of, offset_of}
use Rattle.cbor_io.specs.declared.error.Error.{Error}
use Rattle.cbor_io.specs.declared.error.ErrorCode.{ErrorCode}
use Rattle.cbor_io.specs.declared.error.ErrorCode.TheVariants as code
use Rattle.cbor_io.specs.declared.read_error.ReadError.{ReadError}
use Rattle.cbor_io.specs.declared.read_error.ReadErrorCode.{ReadErrorCode}
use Rattle.cbor_decode.specs.declared.refusal.Refused.{Refused}
use Rattle.cbor_decode.specs.Gives.{FailsAs, FailsBy, IsErrorOf, Limits, ReportsIo, Step, Stopped}
use Rattle.cbor_decode.specs.declared.cursor.Remaining.{Remaining}
use Rattle.cbor_decode.specs.Heads.{remaining_of}
use Rattle.cbor_decode.specs.Cursor.{behind_next}
use Rattle.cbor_decode_as.specs.Cases.{IsBadKey, ReportsBadKey}
use Rattle.cbor_decode_as.specs.MapAccesses.{Comes, key_front, pairs_at}
use Rattle.cbor_decode_as.specs.Collections.{IsHeadOf, one_of}
use Rattle.cbor_decode_as.specs.TaggedHeads.{in_tags}
use Rattle.cbor_decode_as.specs.Takes.{ExcusedBy, raws}
use Rattle.cbor_decode_as.proofs.maps.PairsRead.{PairsSoFar, with_pairs}
use Rattle.cbor_decode_as.proofs.numbers.Scalars.{excused_or, reported_by}
use Rattle.cbor_decode.specs.declared.cursor.Collection.TheVariants as collection

-- ---- faults

not_both : {A : Type 0} (x : A × List ℕ) (f : Fault) → ◌≡◌ {A = Reads A} (Ok x) (Err f) → ⊥
not_both x f e = absurd cc

fault_is : {A : Type 0} (x y : Fault) → ◌≡◌ {A = Reads A} (Err x) (Err y) → x ≡ y
fault_is x y e = cc

-- what is read is the key rule's fault
abbrev BreaksRule : {A : Type 0} → ℕ → Reads A → Type 0
BreaksRule left read = read ≡ Err (record { why = wrong_struct_format; left = left })

-- that fault is reported by no other code
other_fault : {A : Type 0} (why : _) (end at left : ℕ) (read : Reads A) → (wrong_struct_format ≡ why → ⊥) → BreaksRule left read → FailsAs why end at read → ⊥
other_fault why end at left read other is h = other (ap (λ (f : Fault). f.why) (fault_is (record { why = wrong_struct_format; left = left }) (record { why = why; left = h.0 }) (sym is ∙ h.2)))

-- that fault is reported by its code, or the error is excused
rule_reported : {A : Type 0} (D : Type 0) (k : ErrorCode) (end at left : ℕ) (read : Reads A) → BreaksRule left read → FailsBy D k end at read → ExcusedBy D k at ⊎ ((k ≡ code.WrongStructFormat) × (at + left ≡ end))
rule_reported D (code.Message s) end at left read is h = absurd h
rule_reported D (code.Io e) end at left read is h = inl h
rule_reported D code.ScratchTooSmall end at left read is h = absurd (other_fault _ end at left read (λ e. absurd cc) is h)
rule_reported D code.EofWhileParsingValue end at left read is h = absurd (other_fault _ end at left read (λ e. absurd cc) is h)
rule_reported D code.EofWhileParsingArray end at left read is h = absurd (other_fault _ end at left read (λ e. absurd cc) is h)
rule_reported D code.EofWhileParsingMap end at left read is h = absurd (other_fault _ end at left read (λ e. absurd cc) is h)
rule_reported D code.LengthOutOfRange end at left read is h = absurd (other_fault _ end at left read (λ e. absurd cc) is h)
rule_reported D code.InvalidUtf8 end at left read is h = absurd (other_fault _ end at left read (λ e. absurd cc) is h)
rule_reported D code.UnassignedCode end at left read is h = absurd (other_fault _ end at left read (λ e. absurd cc) is h)
rule_reported D code.UnexpectedCode end at left read is h = absurd (other_fault _ end at left read (λ e. absurd cc) is h)
rule_reported D code.TrailingData end at left read is h = absurd (other_fault _ end at left read (λ e. absurd cc) is h)
rule_reported D code.ArrayTooShort end at left read is h = absurd h
rule_reported D code.ArrayTooLong end at left read is h = absurd h
rule_reported D code.RecursionLimitExceeded end at left read is h = absurd (other_fault _ end at left read (λ e. absurd cc) is h)
rule_reported D code.WrongEnumFormat end at left read is h = absurd h
rule_reported D code.WrongStructFormat end at left read is h =
    let same : left ≡ h.0 = ap (λ (f : Fault). f.left) (fault_is (record { why = wrong_struct_format; left = left }) (record { why = wrong_struct_format; left = h.0 }) (sym is ∙ h.2)) in
    inr (refl, subst (λ (n : ℕ). at + n ≡ end) (sym same) h.1)
rule_reported D code.NotCanonical end at left read is h = absurd h
rule_reported D code.OutOfMemory end at left read is h = inl h

-- ---- the next key

module _ (allowed : ReadErrorCode → Bool) (f : Formats) (remaining : Remaining) (s : Input) where
  -- it couldn't be known whether a pair comes
  pub bad_key_first : {w : Input} (kept : ReadError) (r : Refused) → Stopped allowed (λ l. next_at end_in_map (remaining_of remaining)) s w kept r → (e : Error) → IsErrorOf kept r e → ReportsBadKey allowed f remaining s e
  bad_key_first kept r h e made = λ bs reports at bad.
      elim (excused_or (ReportsIo allowed) (code_of e) (s.offset + length bs) (offset_of e) (next_at end_in_map (remaining_of remaining) bs) (reported_by allowed (λ l. next_at end_in_map (remaining_of remaining)) s kept r e made h bs reports)) [
        | inl excused ↦ inl excused
        | inr failed ↦ absurd (not_both (Some bad.behind, bad.key) failed.0 (sym bad.comes ∙ failed.1))
      ]

  module _ (behind : Remaining) (a : Input) where
    -- a pair came whose key may not begin as it does
    bad_key_here : {w : Input} → Step s a (λ l bs rest. next_at end_in_map (remaining_of remaining) bs ≡ Ok (Some (remaining_of behind), rest)) → (kept : ReadError) (r : Refused) → Stopped allowed (λ l. key_front f) a w kept r → (e : Error) → IsErrorOf kept r e → ReportsBadKey allowed f remaining s e
    bad_key_here step kept r h e made = λ bs reports at bad.
        let one = step.reported bs reports in
        let same : bad.key ≡ one.rest = ap (λ (p : Option reader.Remaining × List ℕ). p.1) (ok_is (Some bad.behind, bad.key) (Some (remaining_of behind), one.rest) (sym bad.comes ∙ one.holds)) in
        let rule = subst (λ (bs : List ℕ). BreaksRule bad.refused.0 (key_front f bs)) same bad.refused.2 in
        elim (rule_reported (ReportsIo allowed) (code_of e) (a.offset + length one.rest) (offset_of e) bad.refused.0 (key_front f one.rest) rule (reported_by allowed (λ l. key_front f) a kept r e made h one.rest one.reports)) [
          | inl excused ↦ inl excused
          | inr reported ↦ inr (reported.0, omega (arith, reported.1, one.total, bad.refused.1))
        ]

    -- a pair came whose key may begin as it does
    pub bad_key_later : (e : Error) → Step s a (λ l bs rest. Comes f (remaining_of remaining) (remaining_of behind) true bs rest) → ReportsBadKey allowed f remaining s e
    bad_key_later e step = λ bs reports at bad.
        let one = step.reported bs reports in
        let same : bad.key ≡ one.rest = ap (λ (p : Option reader.Remaining × List ℕ). p.1) (ok_is (Some bad.behind, bad.key) (Some (remaining_of behind), one.rest) (sym bad.comes ∙ one.holds.0)) in
        let rule = subst (λ (bs : List ℕ). BreaksRule bad.refused.0 (key_front f bs)) same bad.refused.2 in
        absurd (not_both (tt, one.rest) (record { why = wrong_struct_format; left = bad.refused.0 }) (sym one.holds.1 ∙ rule))

-- the key's first byte was looked at
pub bad_key_reported : {w : Input} (allowed : ReadErrorCode → Bool) (f g : Formats) (remaining behind : Remaining) (more : Bool) (s a : Input) (kept : ReadError) (r : Refused) → g ≡ f → more ≡ true
    → Step s a (λ l bs rest. next_at end_in_map (remaining_of remaining) bs ≡ Ok (behind_next behind more, rest)) → Stopped allowed (λ l. key_front g) a w kept r → (e : Error) → IsErrorOf kept r e → ReportsBadKey allowed f remaining s e
bad_key_reported allowed f g remaining behind false s a kept r same comes step h e made = absurd cc
bad_key_reported {w = w} allowed f g remaining behind true s a kept r same comes step h e made =
    bad_key_here allowed f remaining s behind a step kept r (subst (λ (k : Formats). Stopped allowed (λ l. key_front k) a w kept r) same h) e made

-- ---- the whole map

-- what stops the key before it is read
key_stops : (f : Formats) (p : List ℕ → Reads Raw) (key : List ℕ) (d : Fault) → key_front f key ≡ Err d → key_at (may_begin_key f) p key ≡ Err d
unfolding key_at
key_stops f p [] d e = ap (λ (f : Fault). Err f) (fault_is _ d e)
key_stops f p (b ∷ key) d e = by_first (may_begin_key f b) (tt, b ∷ key) (p (b ∷ key)) (before wrong_struct_format (b ∷ key)) e
  where
    by_first : {A B : Type 0} (c : Bool) (x : A × List ℕ) (read : Reads B) (g : Fault) → (if c then Ok x else Err g) ≡ Err d → (if c then read else Err g) ≡ Err d
    by_first true x read g e = absurd (not_both x d e)
    by_first false x read g e = ap (λ (f : Fault). Err f) (fault_is g d e)

-- the pairs that remain aren't read where the first key may not begin as it does
pairs_stop : (f : Formats) (l : Limits) (levels : ℕ) (r : reader.Remaining) (bs : List ℕ) (at : ℕ) → IsBadKey f r l bs at → FailsAs wrong_struct_format l.total at (pairs_at f l levels r bs)
unfolding parts_by pair_at
pairs_stop f l levels r bs at bad =
    (bad.refused.0, bad.refused.1, rw (bad.comes, key_stops f (item_at (raws f l) levels) bad.key _ bad.refused.2) refl)

-- nor is the map, of which some pairs were read
pub map_stops : (P : List (Raw × Raw) → Type 0) (f : Formats) (l : Limits) (levels left : ℕ) (all r : Remaining) (bs mid rest : List ℕ) (at : ℕ)
    → IsHeadOf collection.Map f l (item_at (raws f l) levels bs) left all mid → PairsSoFar P f left (remaining_of all) (remaining_of r) l mid rest → IsBadKey f (remaining_of r) l rest at → FailsAs wrong_struct_format l.total at (item_at (raws f l) levels bs)
map_stops P f l levels left all r bs mid rest at head so bad =
    let stops = pairs_stop f l left (remaining_of r) rest at bad in
    let whole = sym so.same ∙ ap (with_pairs so.front) stops.2 in
    (stops.0, stops.1, head.is ∙ ap (λ (pairs : _). in_tags head.tags (one_of collection.Map head.len pairs)) whole)
