-- Where a refusal of an enum, up to its identifier, asked for memory.
use Rattle.std.proofs.Common.{◌≡◌, ◌≢◌, ◌∙◌, ◌+◌, arith, ℕ, Bool, List, [], ◌∷◌, Option, Some, None, Ok, Err, refl, sym, ap, ap₂, subst}
use Rattle.cbor_model.specs.Formats.{Formats}
use Rattle.cbor_model.specs.Head.{HeadWidth}
use Rattle.cbor_model.specs.Raw.{Raw}
use Rattle.cbor_model.specs.Readable.{PassesTags}
use Rattle.cbor_model.specs.Refusal.{end_in_array}
use Rattle.cbor_model.specs.Reader.{Reads, byte_at, item_at, next_at}
use Rattle.cbor_model.proofs.facts.Reader.{ok_is}
use Rattle.cbor_read.specs.Source.{Asks, Input}
use Rattle.cbor_io.specs.Error.{code_of}
use Rattle.cbor_io.specs.declared.error.Error.{Error}
use Rattle.cbor_io.specs.declared.error.ErrorCode.TheVariants.{OutOfMemory}
use Rattle.cbor_io.specs.declared.read_error.ReadError.{ReadError}
use Rattle.cbor_io.specs.declared.read_error.ReadErrorCode.{ReadErrorCode}
use Rattle.cbor_decode.specs.Gives.{IsErrorOf, Limits, limits, Reports, ReportsNoMemory, Step}
use Rattle.cbor_decode.specs.Heads.{head_at, remaining_of}
use Rattle.cbor_decode.specs.declared.cursor.Remaining.{Remaining}
use Rattle.cbor_decode.specs.declared.head.Head.{Head}
use Rattle.cbor_decode.specs.declared.head.Head.TheVariants as head
use Rattle.cbor_decode.specs.declared.refusal.Refused.{Refused}
use Rattle.cbor_decode_as.specs.Begins.{Begins, MemoryForOther, OtherBegins}
use Rattle.cbor_decode_as.specs.BeginsEnum.{AsksForIdentifier, AtIdentifier, MemoryForForm, MemoryForFormOf, MemoryForIdentifier, MemoryForVariant, NamedIn}
use Rattle.cbor_decode_as.specs.Enums.{IsName}
use Rattle.cbor_decode_as.specs.Identifiers.{AsksAtHead, AsksForName, IsIdentifier, IsMadeBy, IsNoName, NamesFront, NamesOnly}
use Rattle.cbor_decode_as.specs.Kinds.{head_kind}
use Rattle.cbor_decode_as.specs.Kinds as kind
use Rattle.cbor_decode_as.specs.Strings.{IsAskedString}
use Rattle.cbor_decode_as.specs.TaggedHeads.{HasHead}
use Rattle.cbor_decode_as.specs.Tags.{passed_at}
use Rattle.cbor_decode_as.specs.Takes.{IsRead, raws}
use Rattle.cbor_decode_as.specs.Variants.{HasShape, IsShaped, pair_head_at}
use Rattle.cbor_decode_as.specs.declared.identifier.Why.{Why}
use Rattle.cbor_decode_as.specs.declared.identifier.Why.TheVariants as unnamed
use Rattle.cbor_decode_as.specs.declared.variant.Shape.{Shape}
use Rattle.cbor_decode_as.specs.declared.variant.Shape.TheVariants as shape
use Rattle.cbor_decode_as.proofs.enums.VariantHeads.{array_byte, array_kind_at}
use Rattle.cbor_decode_as.proofs.enums.Variants.{not_named}
use Rattle.cbor_decode_as.proofs.heads.ItemsBehind.{head_stands}
use Rattle.cbor_decode_as.proofs.heads.Openings.{opened_here, opened_stops}
use Rattle.cbor_decode_as.proofs.texts.MemoryAsked.{error_only}
use Rattle.cbor_decode_as.proofs.texts.NamedFaults.{no_memory}
use Rattle.cbor_decode_as.proofs.texts.NamedItems.{names_memory, no_variant_read}

-- ---- the identifier

-- such a head is no break
head_is : (P : Head → Type 0) (levels : ℕ) (bs : List ℕ) → (P head.Break → ⊥) → HasHead P levels bs → HasHead (λ h. h ≢ head.Break) levels bs
head_is P levels bs none h = record { left = h.left; head = h.head; rest = h.rest; is = h.is; holds = λ broken. none (subst P broken h.holds) }

module _ (allowed : ReadErrorCode → Bool) (levels : ℕ) (s : Input) (kept : ReadError) (e : Error) (names : List (List ℕ)) (a : Asks) (f : Formats) where
  name_stands : (w : Why) → IsMadeBy kept w e → NamesOnly (AsksForName a levels s) kept w → NamesFront IsNoName allowed levels s kept w → code_of e ≡ OutOfMemory → (bs : List ℕ) → Reports s bs → HasHead (λ h. h ≢ head.Break) levels bs
  name_stands (unnamed.Refused r) made only front out bs reports = head_is (AsksAtHead a) levels bs (λ h. h) ((error_only (AsksForName a levels s) kept r e made only out).string bs reports)
  name_stands unnamed.Other made only front out bs reports = head_is IsNoName levels bs (λ h. h) (front bs reports)

  -- nothing was named
  pub unnamed_memory : (w : Why) → IsMadeBy kept w e → NamesOnly (AsksForName a levels s) kept w → NamesFront IsNoName allowed levels s kept w → MemoryForIdentifier (IsAskedString a) f names levels s e
  unnamed_memory w made only front = λ out bs reports. record {
    head = name_stands w made only front out bs reports;
    asked = λ i rest got. names_memory IsNoName allowed levels s kept e (IsName names) (no_variant_read names) a f w made only front out bs reports i rest got;
  }

-- the item names no place
pub unknown_memory : (asks : Raw → Type 0) (names : List (List ℕ)) (f : Formats) (levels : ℕ) (s t : Input) (e : Error) → Step s t (λ l bs rest. IsRead (PassesTags (IsIdentifier names)) (item_at (raws f l) levels bs) None rest) → MemoryForIdentifier asks f names levels s e
unknown_memory asks names f levels s t e step out bs reports =
    let none = step.reported bs reports in
    record {
      head = head_stands f (limits s bs) levels bs none.rest none.holds.item none.holds.is;
      asked = λ i rest got. absurd (not_named names f (limits s bs) levels bs none.rest none.holds i rest got);
    }

-- ---- an array

array_of_kind : (h : Head) → head_kind h ≡ kind.array → (r : Remaining) × (h ≡ head.Array r)
array_of_kind (head.Unsigned n) is = absurd cc
array_of_kind (head.Negative n) is = absurd cc
array_of_kind (head.Bytes n) is = absurd cc
array_of_kind (head.Text n) is = absurd cc
array_of_kind (head.Array r) is = (r, refl)
array_of_kind (head.Map r) is = absurd cc
array_of_kind (head.Tag n) is = absurd cc
array_of_kind (head.Bool b) is = absurd cc
array_of_kind head.Null is = absurd cc
array_of_kind head.Undefined is = absurd cc
array_of_kind (head.Float x) is = absurd cc
array_of_kind head.Break is = absurd cc

-- where an array's first byte stands no other head does
no_other : (levels : ℕ) (bs : List ℕ) → HasShape shape.Array bs → OtherBegins head.Array levels bs → ⊥
unfolding byte_at
no_other levels [] shaped o = shaped
no_other levels (b ∷ mid) shaped o = by (head_at b mid) refl
  where
    by : (read : Reads (HeadWidth × Head)) → head_at b mid ≡ read → ⊥
    by (Ok x) at =
        let byte = array_byte b shaped.0 in
        let four = array_kind_at b mid x.1 x.0.0 x.0.1 (omega (arith, byte)) at in
        let one = array_of_kind x.0.1 four in
        let opened = opened_here levels (b ∷ mid) x.1 x.0.0 x.0.1 (λ tag. (let no : kind.array ≡ kind.tag = sym four ∙ tag in absurd cc)) at in
        let same = ap (λ (p : (ℕ × Head) × List ℕ). p.0.1) (ok_is ((o.left, o.head), o.rest) ((levels, x.0.1), x.1) (sym o.is ∙ opened)) in
        o.other one.0 (same ∙ one.1)
    by (Err d) at = not_both (sym (opened_stops levels (b ∷ mid) d at) ∙ o.is)
      where
        not_both : ◌≡◌ {A = Reads (ℕ × Head)} (Err d) (Ok ((o.left, o.head), o.rest)) → ⊥
        not_both both = absurd cc

module _ (asks : Raw → Type 0) (f : Formats) (names : List (List ℕ)) (levels : ℕ) (s : Input) (e : Error) where
  pub array_head_memory : MemoryForOther head.Array levels s e → MemoryForFormOf shape.Array asks f names levels s e
  array_head_memory h out bs reports shaped = absurd (no_other levels bs shaped (h out bs reports))

  pub no_form_memory : (x : Shape) → code_of e ≢ OutOfMemory → MemoryForFormOf x asks f names levels s e
  no_form_memory x other out = absurd (other out)

  pub first_memory : (a b : Input) (left : ℕ) (all behind : Remaining) → Step s a (λ l bs rest. Begins head.Array levels left all bs rest) → Step a b (λ l bs rest. next_at end_in_array (remaining_of all) bs ≡ Ok (Some (remaining_of behind), rest))
      → MemoryForIdentifier asks f names left b e → MemoryForFormOf shape.Array asks f names levels s e
  first_memory a b left all behind begins next h out bs reports shaped =
      let one = begins.reported bs reports in
      let two = next.reported one.rest one.reports in
      let same : limits a one.rest ≡ limits s bs = ap₂ (λ (n : ℕ) (r : Option ℕ). record { total = n; room = r }) one.total begins.took.room in
      let also : limits b two.rest ≡ limits a one.rest = ap₂ (λ (n : ℕ) (r : Option ℕ). record { total = n; room = r }) two.total next.took.room in
      record {
        left = left;
        all = all;
        items = one.rest;
        head = one.holds;
        first = record {
          behind = remaining_of behind;
          start = two.rest;
          next = two.holds;
          holds = subst (λ (l : Limits). AsksForIdentifier asks f names l left two.rest) (also ∙ same) (h out two.rest two.reports);
        };
      }

  -- ---- a map of one pair

  pub pair_memory : (kept : ReadError) (r : Refused) → IsErrorOf kept r e → ReportsNoMemory kept r → MemoryForFormOf shape.Map asks f names levels s e
  pair_memory kept r made none out = absurd (error_only ⊥ kept r e made (no_memory ⊥ kept r none) out)

  pub key_memory : (a : Input) (left : ℕ) → levels ≡ left + 1 → Step s a (λ l bs rest. pair_head_at f levels bs ≡ Ok (tt, rest)) → MemoryForIdentifier asks f names left a e → MemoryForFormOf shape.Map asks f names levels s e
  key_memory a left level head h out bs reports shaped =
      let one = head.reported bs reports in
      let same : limits a one.rest ≡ limits s bs = ap₂ (λ (n : ℕ) (r : Option ℕ). record { total = n; room = r }) one.total head.took.room in
      record {
        left = left;
        level = level;
        key = one.rest;
        head = one.holds;
        holds = subst (λ (l : Limits). AsksForIdentifier asks f names l left one.rest) same (h out one.rest one.reports);
      }

  -- ---- an identifier alone

  pub alone_memory : MemoryForIdentifier asks f names levels s e → MemoryForFormOf shape.Alone asks f names levels s e
  alone_memory h out bs reports shaped = h out bs reports

  -- ---- the whole enum

  pub unasked_memory : code_of e ≢ OutOfMemory → MemoryForForm asks f names levels s e
  unasked_memory other out = absurd (other out)

  pub unassigned_memory : (kept : ReadError) (r : Refused) → IsErrorOf kept r e → ReportsNoMemory kept r → MemoryForForm asks f names levels s e
  unassigned_memory kept r made none out = absurd (error_only ⊥ kept r e made (no_memory ⊥ kept r none) out)

  named_here : (x : Shape) (l : Limits) (bs : List ℕ) → HasShape x bs → NamedIn x f (AsksForIdentifier asks f names l) levels bs → AtIdentifier f (AsksForIdentifier asks f names l) levels bs
  named_here x l [] shaped h = absurd shaped
  named_here x l (b ∷ bs) shaped h = subst (λ (y : Shape). NamedIn y f (AsksForIdentifier asks f names l) levels (b ∷ bs)) (sym shaped.0) h

  pub shaped_memory : (x : Shape) (a : Input) → Step s a (λ l bs rest. IsShaped x bs rest) → MemoryForFormOf x asks f names levels a e → MemoryForForm asks f names levels s e
  shaped_memory x a shaped h out bs reports =
      let one = shaped.reported bs reports in
      let same : limits a one.rest ≡ limits s bs = ap₂ (λ (n : ℕ) (r : Option ℕ). record { total = n; room = r }) one.total shaped.took.room in
      let there = h out one.rest one.reports (subst (HasShape x) (sym one.holds.1) one.holds.0) in
      let here = subst (λ (from : List ℕ). NamedIn x f (AsksForIdentifier asks f names (limits a one.rest)) levels from) one.holds.1 there in
      named_here x (limits s bs) bs one.holds.0 (subst (λ (l : Limits). NamedIn x f (AsksForIdentifier asks f names l) levels bs) same here)

  pub tags_memory : (kept : ReadError) (r : Refused) → IsErrorOf kept r e → ReportsNoMemory kept r → MemoryForVariant asks f names levels s e
  tags_memory kept r made none out = absurd (error_only ⊥ kept r e made (no_memory ⊥ kept r none) out)

  pub tagged_memory : (a : Input) (left : ℕ) → Step s a (λ l bs rest. passed_at levels bs ≡ Ok (left, rest)) → MemoryForForm asks f names left a e → MemoryForVariant asks f names levels s e
  tagged_memory a left tags h out bs reports =
      let one = tags.reported bs reports in
      let same : limits a one.rest ≡ limits s bs = ap₂ (λ (n : ℕ) (r : Option ℕ). record { total = n; room = r }) one.total tags.took.room in
      record {
        left = left;
        rest = one.rest;
        tags = one.holds;
        holds = subst (λ (l : Limits). AtIdentifier f (AsksForIdentifier asks f names l) left one.rest) same (h out one.rest one.reports);
      }
