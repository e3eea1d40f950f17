-- For which items memory is asked to read an enum: by its head, or by its content.
use Rattle.std.proofs.Common.{inl, inr, ◌≡◌, ◌∙◌, ℕ, zero, suc, ◌-◌, Bool, true, IfErr, List, Option, Some, Result, Ok, Err, refl, sym, ap, ap₂, subst, arith}
use Rattle.cbor_model.specs.Formats.{Formats, all_formats}
use Rattle.cbor_model.specs.Head.{no_bytes, one_byte, two_bytes, four_bytes, eight_bytes}
use Rattle.cbor_model.specs.Raw as raw
use Rattle.cbor_model.specs.Raw.{Raw, Raws, no_raws, no_raw_pairs, raw_pair, definite, indefinite}
use Rattle.cbor_model.specs.Readable.{IsUnit, PassesTags, untagged}
use Rattle.cbor_model.specs.Refusal.{end_in_array}
use Rattle.cbor_model.specs.Reader.{Reads, ◌>>=◌, item_at, next_at}
use Rattle.cbor_model.specs.Reader as reader
use Rattle.cbor_model.proofs.facts.Reader.{bind_ok, ok_is}
use Rattle.cbor_read.specs.Source.{Asks, Input}
use Rattle.cbor_io.specs.declared.error.Error.{Error}
use Rattle.cbor_decode.specs.Gives.{Limits, limits, Step}
use Rattle.cbor_decode.specs.Heads.{remaining_of}
use Rattle.cbor_decode.specs.declared.cursor.Remaining.{Remaining}
use Rattle.cbor_decode_as.specs.Accesses.{items_at}
use Rattle.cbor_decode_as.specs.BeginsEnum.{MemoryForVariant}
use Rattle.cbor_decode_as.specs.Contents.{MemoryForNull, MemoryForPart}
use Rattle.cbor_decode_as.specs.Enums.{Content, alone, one, parts, AreParts, IsEnum, IsNothing, IsPart, IsVariant, reads_names}
use Rattle.cbor_decode_as.specs.Identifiers.{IsIdentifier}
use Rattle.cbor_decode_as.specs.Strings.{IsAskedString}
use Rattle.cbor_decode_as.specs.Takes.{MemoryFor, raws}
use Rattle.cbor_decode_as.specs.Variants.{IsContent, IsVariantHead, content_at}
use Rattle.cbor_decode_as.specs.declared.variant.Form.{Form}
use Rattle.cbor_decode_as.specs.declared.variant.Form.TheVariants as form
use Rattle.cbor_decode_as.proofs.facts.Enums.{identifier_one, name_one}
use Rattle.cbor_de.proofs.facts.Enums.{has_items}
use Rattle.cbor_described.specs.EnumMemory.{AsksForEnum, AsksForPart, AsksForParts, AsksNone, MemoryForContent, asks_either}
use Rattle.cbor_described.specs.OneOfs.{either}
use Rattle.cbor_described.specs.declared.variant_list.OneOf.{OneOf}
use Rattle.cbor_described.specs.declared.variant_list.OneOf.TheVariants.{This, Other}
use Rattle.cbor_described.proofs.VariantNames.{enum_named, first_item}

-- ---- one variant

module _ (f : Formats) (names : List (List ℕ)) where
  same_variant : (v w : ℕ × Content) → v.0 ≡ w.0 → v.1 ≡ w.1 → v ≡ w
  same_variant v w i c = ap₂ (λ (i : ℕ) (c : Content). (i, c)) i c

  some_is : (i j : ℕ) → Some i ≡ Some j → i ≡ j
  some_is i j e = cc

  alone_one : (r : Raw) (v w : ℕ × Content) → (reads_names f ≡ true) × IsIdentifier names r (Some v.0) × (v.1 ≡ alone) → (reads_names f ≡ true) × IsIdentifier names r (Some w.0) × (w.1 ≡ alone) → v ≡ w
  alone_one r v w h k = same_variant v w (some_is v.0 w.0 (identifier_one names r (Some v.0) (Some w.0) h.1 k.1)) (h.2 ∙ sym k.2)

  -- an item is one variant
  variant_one : (r : Raw) (v w : ℕ × Content) → IsVariant f names r v → IsVariant f names r w → v ≡ w
  variant_one (raw.array l (raw.raw r rs)) v w h k = same_variant v w (name_one names r v.0 w.0 h.1 k.1) (h.2 ∙ sym k.2)
  variant_one (raw.map (definite no_bytes) (raw_pair a x no_raw_pairs)) v w h k = same_variant v w (name_one names a v.0 w.0 h.1 k.1) (h.2 ∙ sym k.2)
  variant_one (raw.unsigned x n) v w h k = alone_one (raw.unsigned x n) v w h k
  variant_one (raw.negative x n) v w h k = alone_one (raw.negative x n) v w h k
  variant_one (raw.bytes c) v w h k = alone_one (raw.bytes c) v w h k
  variant_one (raw.text c) v w h k = alone_one (raw.text c) v w h k
  variant_one (raw.bytes_chunks cs) v w h k = alone_one (raw.bytes_chunks cs) v w h k
  variant_one (raw.text_chunks cs) v w h k = alone_one (raw.text_chunks cs) v w h k
  variant_one (raw.simple s) v w h k = alone_one (raw.simple s) v w h k
  variant_one (raw.float x bits) v w h k = alone_one (raw.float x bits) v w h k
  variant_one (raw.tag x n r) v w h k = alone_one (raw.tag x n r) v w h k
  variant_one (raw.array l no_raws) v w h k = alone_one (raw.array l no_raws) v w h k
  variant_one (raw.map indefinite ps) v w h k = alone_one (raw.map indefinite ps) v w h k
  variant_one (raw.map (definite one_byte) ps) v w h k = alone_one (raw.map (definite one_byte) ps) v w h k
  variant_one (raw.map (definite two_bytes) ps) v w h k = alone_one (raw.map (definite two_bytes) ps) v w h k
  variant_one (raw.map (definite four_bytes) ps) v w h k = alone_one (raw.map (definite four_bytes) ps) v w h k
  variant_one (raw.map (definite eight_bytes) ps) v w h k = alone_one (raw.map (definite eight_bytes) ps) v w h k
  variant_one (raw.map (definite no_bytes) no_raw_pairs) v w h k = alone_one (raw.map (definite no_bytes) no_raw_pairs) v w h k
  variant_one (raw.map (definite no_bytes) (raw_pair a x (raw_pair m y ps))) v w h k = alone_one (raw.map (definite no_bytes) (raw_pair a x (raw_pair m y ps))) v w h k

  -- whatever formats are read
  variant_any : (r : Raw) (v : ℕ × Content) → IsVariant f names r v → IsVariant all_formats names r v
  variant_any (raw.array l (raw.raw r rs)) v h = (refl, h.1, h.2)
  variant_any (raw.map (definite no_bytes) (raw_pair a x no_raw_pairs)) v h = (refl, h.1, h.2)
  variant_any (raw.unsigned x n) v h = (refl, h.1, h.2)
  variant_any (raw.negative x n) v h = (refl, h.1, h.2)
  variant_any (raw.bytes c) v h = (refl, h.1, h.2)
  variant_any (raw.text c) v h = (refl, h.1, h.2)
  variant_any (raw.bytes_chunks cs) v h = (refl, h.1, h.2)
  variant_any (raw.text_chunks cs) v h = (refl, h.1, h.2)
  variant_any (raw.simple s) v h = (refl, h.1, h.2)
  variant_any (raw.float x bits) v h = (refl, h.1, h.2)
  variant_any (raw.tag x n r) v h = (refl, h.1, h.2)
  variant_any (raw.array l no_raws) v h = (refl, h.1, h.2)
  variant_any (raw.map indefinite ps) v h = (refl, h.1, h.2)
  variant_any (raw.map (definite one_byte) ps) v h = (refl, h.1, h.2)
  variant_any (raw.map (definite two_bytes) ps) v h = (refl, h.1, h.2)
  variant_any (raw.map (definite four_bytes) ps) v h = (refl, h.1, h.2)
  variant_any (raw.map (definite eight_bytes) ps) v h = (refl, h.1, h.2)
  variant_any (raw.map (definite no_bytes) no_raw_pairs) v h = (refl, h.1, h.2)
  variant_any (raw.map (definite no_bytes) (raw_pair a x (raw_pair m y ps))) v h = (refl, h.1, h.2)

-- ---- contents

abbrev put : {A : Type 0} → (A → Content) → Reads A → Reads Content
put of read = read >>= (λ x. Ok (of x.0, x.1))

-- what is made of what was read
record Made {A : Type 0} (of : A → Content) (read : Reads A) (c : Content) (rest : List ℕ) : Type 0 where
  made : A
  is : read ≡ Ok (made, rest)
  same : c ≡ of made

made_of : {A : Type 0} (of : A → Content) (read : Reads A) (c : Content) (rest : List ℕ) → put of read ≡ Ok (c, rest) → Made of read c rest
made_of of (Ok x) c rest is =
    let both = ok_is (of x.0, x.1) (c, rest) is in
    record { made = x.0; is = ap (λ (p : Content × List ℕ). Ok (x.0, p.1)) both; same = sym (ap (λ (p : Content × List ℕ). p.0) both) }
made_of of (Err e) c rest is = absurd cc

module _ (f : Formats) (left : ℕ) (s : Input) (e : Error) where
  -- of what means something else
  pub content_as : {A B : Type 0} (k : Form) (asks : Content → Type 0) (means : Content → A → Type 0) (also : Content → B → Type 0) → ((c : Content) (y : B) → also c y → (x : A) × means c x) → MemoryForContent asks f means left k s e → MemoryForContent asks f also left k s e
  content_as k asks means also back h out bs reports y rest got =
      let x = back got.content y got.meaning in
      h out bs reports x.0 rest (record { content = got.content; is = got.is; meaning = x.1 })

  module _ {A : Type 0} (asks : Raw → Type 0) (reads : Raw → A → Type 0) where
    -- the first item that remains of an array
    first_asks : (l : Limits) (all : Remaining) (bs : List ℕ) (behind : reader.Remaining) (start rest : List ℕ) (rs : Raws) (x : A) → items_at f l left (remaining_of all) bs ≡ Ok (rs, rest) → next_at end_in_array (remaining_of all) bs ≡ Ok (Some behind, start)
        → ((r : Raw) (more : List ℕ) → item_at (raws f l) left start ≡ Ok (r, more) → reads r x → asks r) → IsPart reads (parts rs) x → AsksForPart asks (parts rs)
    first_asks l all bs behind start rest no_raws x is next on means = absurd means
    first_asks l all bs behind start rest (raw.raw r rs) x is next on means =
        let first = first_item f l left (remaining_of all) behind bs start rest r rs is next in
        on r first.0 first.1 means.0

    -- one part
    pub part_memory : (k : Form) → MemoryForPart asks f reads left k s e → MemoryForContent (AsksForPart asks) f (IsPart reads) left k s e
    part_memory (form.Array all) h out bs reports x rest got =
        let comes = h out bs reports in
        let made = made_of (λ (rs : Raws). parts rs) (items_at f (limits s bs) left (remaining_of all) bs) got.content rest got.is in
        subst (λ (c : Content). AsksForPart asks c) (sym made.same)
        (first_asks (limits s bs) all bs comes.behind comes.start rest made.made x made.is comes.next (λ r more is means. comes.holds x more (record { item = r; is = is; means = means })) (subst (λ (c : Content). IsPart reads c x) made.same got.meaning))
    part_memory form.Map h out bs reports x rest got =
        let made = made_of (λ (r : Raw). one r) (item_at (raws f (limits s bs)) left bs) got.content rest got.is in
        subst (λ (c : Content). AsksForPart asks c) (sym made.same) (h out bs reports x rest (record { item = made.made; is = made.is; means = subst (λ (c : Content). IsPart reads c x) made.same got.meaning }))
    part_memory form.Alone h out bs reports x rest got =
        absurd (subst (λ (c : Content). IsPart reads c x) (sym (ap (λ (p : Content × List ℕ). p.0) (ok_is (alone, bs) (got.content, rest) got.is))) got.meaning)

  -- no part
  abbrev Null : Raw → Unit {0} → Type 0
  Null = PassesTags IsUnit

  none_asks : (c : Content) → AsksForPart (λ r. ⊥) c → ⊥
  none_asks alone h = h
  none_asks (one r) h = h
  none_asks (parts no_raws) h = h
  none_asks (parts (raw.raw r rs)) h = h

  pub nothing_memory : (k : Form) → MemoryForNull f left k s e → MemoryForContent AsksNone f IsNothing left k s e
  nothing_memory (form.Array all) h out bs reports u rest got =
      let made = made_of (λ (rs : Raws). parts rs) (items_at f (limits s bs) left (remaining_of all) bs) got.content rest got.is in
      none_asks got.content (part_memory (λ r. ⊥) Null (form.Array all) h out bs reports u rest (record { content = got.content; is = got.is; meaning = subst (λ (c : Content). IsPart Null c u) (sym made.same) (subst (λ (c : Content). IsNothing c u) made.same got.meaning) }))
  nothing_memory form.Map h out bs reports u rest got =
      let made = made_of (λ (r : Raw). one r) (item_at (raws f (limits s bs)) left bs) got.content rest got.is in
      none_asks got.content (part_memory (λ r. ⊥) Null form.Map h out bs reports u rest (record { content = got.content; is = got.is; meaning = subst (λ (c : Content). IsPart Null c u) (sym made.same) (subst (λ (c : Content). IsNothing c u) made.same got.meaning) }))
  nothing_memory form.Alone h out bs reports u rest got = absurd (h out)

  -- several parts
  pub parts_memory : {A B : Type 0} (k : Form) (items : Raws → A → Type 0) (of : B → A) → MemoryForContent AsksForParts f (λ c y. AreParts items c (of y)) left k s e
  parts_memory k items of out bs reports y rest got = has_items items got.content (of y) got.meaning

  -- one of the variants
  module _ {V W : Type 0} (this : Content → V → Type 0) (those : ℕ → Content → W → Type 0) (asks : Content → Type 0) (others : ℕ → Content → Type 0) where
    needs_this : (c : Content) (y : OneOf V W) → either this those 0 c y → (x : V) × this c x
    needs_this c (This v) h = (v, h)
    needs_this c (Other w) h = absurd h

    needs_other : (i : ℕ) (c : Content) (y : OneOf V W) → either this those (suc i) c y → (x : W) × those i c x
    needs_other i c (This v) h = absurd h
    needs_other i c (Other w) h = (w, h)

    pub this_memory : (k : Form) → MemoryForContent asks f this left k s e → MemoryForContent (asks_either asks others 0) f (either this those 0) left k s e
    this_memory k = content_as k asks this (either this those 0) needs_this

    pub other_memory : (k : Form) (i : ℕ) → (i ≡ 0 → ⊥) → MemoryForContent (others (i - 1)) f (those (i - 1)) left k s e → MemoryForContent (asks_either asks others i) f (either this those i) left k s e
    other_memory k zero some h = absurd (some refl)
    other_memory k (suc i) some h =
        let before : suc i - 1 ≡ i = omega arith in
        content_as k (others i) (those i) (either this those (suc i)) (needs_other i) (subst (λ (i : ℕ). MemoryForContent (others i) f (those i) left k s e) before h)

-- ---- the enum

module _ {E : Type 0} (names : List (List ℕ)) (means : ℕ → Content → E → Type 0) (a : Asks) (asks : ℕ → Content → Type 0) (f : Formats) (levels : ℕ) (s : Input) (e : Error) where
  abbrev Enum : Raw → E → Type 0
  Enum = PassesTags (IsEnum f names means)

  -- by its head
  pub head_memory : MemoryForVariant (IsAskedString a) f names levels s e → MemoryFor (AsksForEnum names a asks) f Enum levels s e
  head_memory h out bs reports x rest got = record {
    index = got.means.index;
    content = got.means.content;
    variant = variant_any f names (untagged got.item) (got.means.index, got.means.content) got.means.variant;
    asked = inl (enum_named f (limits s bs) (IsAskedString a) names levels bs rest got.item (got.means.index, got.means.content) got.is (h out bs reports) got.means.variant);
  }

  -- by its content
  pub content_memory : (t : Input) (left i : ℕ) (k : Form) → Step s t (λ l bs rest. IsVariantHead f names l (item_at (raws f l) levels bs) left i k rest) → MemoryForContent (asks i) f (means i) left k t e → MemoryFor (AsksForEnum names a asks) f Enum levels s e
  content_memory t left i k head h out bs reports x rest got =
      let begun = head.reported bs reports in
      let l = limits s bs in
      let same : limits t begun.rest ≡ l = ap₂ (λ (n : ℕ) (r : Option ℕ). record { total = n; room = r }) begun.total head.took.room in
      let c = bind_ok (content_at f l left k begun.rest) (λ c. Ok (begun.holds.whole c.0, c.1)) (got.item, rest) (sym begun.holds.is ∙ got.is) in
      let item : begun.holds.whole c.0.0 ≡ got.item = ap (λ (p : Raw × List ℕ). p.0) (ok_is (begun.holds.whole c.0.0, c.0.1) (got.item, rest) c.2) in
      let here : IsVariant f names (untagged got.item) (i, c.0.0) = subst (λ (r : Raw). IsVariant f names (untagged r) (i, c.0.0)) item (begun.holds.variant c.0.0 c.0.1 c.1) in
      let only = variant_one f names (untagged got.item) (got.means.index, got.means.content) (i, c.0.0) got.means.variant here in
      let meaning : means i c.0.0 x = subst (λ (v : ℕ × Content). means v.0 v.1 x) only got.means.meaning in
      let read = subst (λ (l : Limits). content_at f l left k begun.rest ≡ Ok (c.0.0, c.0.1)) (sym same) c.1 in
      record {
        index = i;
        content = c.0.0;
        variant = variant_any f names (untagged got.item) (i, c.0.0) here;
        asked = inr (h out begun.rest begun.reports x c.0.1 (record { content = c.0.0; is = read; meaning = meaning }));
      }

-- as the call on the content answers
pub enum_asked : {E A : Type 0} (names : List (List ℕ)) (means : ℕ → Content → E → Type 0) (a : Asks) (asks : ℕ → Content → Type 0) (f : Formats) (levels left i : ℕ) (k : Form) (s t : Input) (r : Result A Error) → Step s t (λ l bs rest. IsVariantHead f names l (item_at (raws f l) levels bs) left i k rest)
    → IfErr r (MemoryForContent (asks i) f (means i) left k t) → IfErr r (MemoryFor (AsksForEnum names a asks) f (PassesTags (IsEnum f names means)) levels s)
enum_asked names means a asks f levels left i k s t (Ok x) head h = tt
enum_asked names means a asks f levels left i k s t (Err e) head h = content_memory names means a asks f levels s e t left i k head h
