-- An enum, from its variant to the end of its content: what each call adds.
use Rattle.std.proofs.Common.{◌≡◌, ℕ, Bool, true, List, [], ◌∷◌, ◌++◌, Some, Result, Ok, Err, IsErrAnd, refl, sym, ap, ap₂, subst, ◌∙◌}
use Rattle.cbor_model.specs.Formats as model
use Rattle.cbor_model.specs.Head.{no_bytes, one_byte, two_bytes, four_bytes, eight_bytes}
use Rattle.cbor_model.specs.Raw as raw
use Rattle.cbor_model.specs.Raw.{Raw, Raws, no_raws, no_raw_pairs, raw_pair, definite, indefinite}
use Rattle.cbor_model.specs.Readable.{PassesTags, untagged}
use Rattle.cbor_model.specs.Refusal.{end_in_array}
use Rattle.cbor_model.specs.Reader.{Reads, ◌>>=◌, item_at}
use Rattle.cbor_model.proofs.facts.Reader.{ok_is}
use Rattle.cbor_read.specs.Source.{Input, TookSome}
use Rattle.cbor_io.specs.Error.{code_of, offset_of}
use Rattle.cbor_io.specs.declared.error.Error.{Error}
use Rattle.cbor_io.specs.declared.error.ErrorCode.{ErrorCode}
use Rattle.cbor_io.specs.declared.read_error.ReadErrorCode.{ReadErrorCode}
use Rattle.cbor_decode.specs.Cursor.{ended_at}
use Rattle.cbor_decode.specs.Gives.{Limits, Step}
use Rattle.cbor_decode.specs.Heads.{remaining_of}
use Rattle.cbor_decode.specs.declared.cursor.Remaining.{Remaining}
use Rattle.cbor_decode.specs.declared.formats.Formats.{Formats}
use Rattle.cbor_decode.proofs.facts.Steps.{step_then}
use Rattle.cbor_decode_as.specs.Accesses.{items_at, IsEnd, IsNextItem}
use Rattle.cbor_decode_as.specs.Collections.{TakesEndOf}
use Rattle.cbor_decode_as.specs.Arrays.{AsArray}
use Rattle.cbor_decode_as.specs.Enums.{Content, alone, one, parts, IsVariant, IsEnum, IsNothing, IsPart, AreParts, reads_names, unit, newtype, tuple, part_then, no_part}
use Rattle.cbor_decode_as.specs.Identifiers.{IsIdentifier}
use Rattle.cbor_decode_as.specs.Takes.{formats_of, raws, IsRead, IsNotRead, Refuses, TakesItem, WhateverTaken}
use Rattle.cbor_decode_as.specs.Variants.{content_at, IsVariantHead, RefusesVariant, RefusesParts, IsContent, IsNoContent, IsItemsOf, IsPartsHead}
use Rattle.cbor_decode_as.specs.declared.variant.Form.{Form}
use Rattle.cbor_decode_as.proofs.facts.Arrays.{NoPart}
use Rattle.cbor_decode_as.proofs.facts.Readings.{refuses_map, refuses_then}
use Rattle.cbor_decode_as.proofs.facts.Arrays.{append, append-push, SoFar, is_done, MustFollow}
use Rattle.cbor_decode_as.proofs.facts.Enums.{identifier_one, name_one}
use Rattle.cbor_decode_as.proofs.facts.Arrays.{NoItems, end_step, loop_begins, part_goes_on, part_lacks, end_lacks}
use Rattle.cbor_decode.specs.declared.cursor.Collection.TheVariants as collection

-- ---- one variant

module _ (f : model.Formats) (names : List (List ℕ)) where
  same_variant : (v w : ℕ × Content) → v.0 ≡ w.0 → v.1 ≡ w.1 → v ≡ w
  same_variant v w i c = ap₂ (λ (i : ℕ) (c : Content). (i, c)) i c

  some_is : (i j : ℕ) → Some i ≡ Some j → i ≡ j
  some_is i j e = cc

  alone_one : (r : Raw) (v w : ℕ × Content) → (reads_names f ≡ true) × IsIdentifier names r (Some v.0) × (v.1 ≡ alone) → (reads_names f ≡ true) × IsIdentifier names r (Some w.0) × (w.1 ≡ alone) → v ≡ w
  alone_one r v w h k = same_variant v w (some_is v.0 w.0 (identifier_one names r (Some v.0) (Some w.0) h.1 k.1)) (h.2 ∙ sym k.2)

  -- an item is one variant
  pub variant_one : (r : Raw) (v w : ℕ × Content) → IsVariant f names r v → IsVariant f names r w → v ≡ w
  variant_one (raw.unsigned x n) v w h k = alone_one (raw.unsigned x n) v w h k
  variant_one (raw.negative x n) v w h k = alone_one (raw.negative x n) v w h k
  variant_one (raw.bytes c) v w h k = alone_one (raw.bytes c) v w h k
  variant_one (raw.text c) v w h k = alone_one (raw.text c) v w h k
  variant_one (raw.bytes_chunks cs) v w h k = alone_one (raw.bytes_chunks cs) v w h k
  variant_one (raw.text_chunks cs) v w h k = alone_one (raw.text_chunks cs) v w h k
  variant_one (raw.simple s) v w h k = alone_one (raw.simple s) v w h k
  variant_one (raw.float x bits) v w h k = alone_one (raw.float x bits) v w h k
  variant_one (raw.tag x n r) v w h k = alone_one (raw.tag x n r) v w h k
  variant_one (raw.array l no_raws) v w h k = alone_one (raw.array l no_raws) v w h k
  variant_one (raw.array l (raw.raw r rs)) v w h k = same_variant v w (name_one names r v.0 w.0 h.1 k.1) (h.2 ∙ sym k.2)
  variant_one (raw.map indefinite ps) v w h k = alone_one (raw.map indefinite ps) v w h k
  variant_one (raw.map (definite one_byte) ps) v w h k = alone_one (raw.map (definite one_byte) ps) v w h k
  variant_one (raw.map (definite two_bytes) ps) v w h k = alone_one (raw.map (definite two_bytes) ps) v w h k
  variant_one (raw.map (definite four_bytes) ps) v w h k = alone_one (raw.map (definite four_bytes) ps) v w h k
  variant_one (raw.map (definite eight_bytes) ps) v w h k = alone_one (raw.map (definite eight_bytes) ps) v w h k
  variant_one (raw.map (definite no_bytes) no_raw_pairs) v w h k = alone_one (raw.map (definite no_bytes) no_raw_pairs) v w h k
  variant_one (raw.map (definite no_bytes) (raw_pair a x (raw_pair m y ps))) v w h k = alone_one (raw.map (definite no_bytes) (raw_pair a x (raw_pair m y ps))) v w h k
  variant_one (raw.map (definite no_bytes) (raw_pair a x no_raw_pairs)) v w h k = same_variant v w (name_one names a v.0 w.0 h.1 k.1) (h.2 ∙ sym k.2)

-- ---- what is made of what was read

abbrev put : {A B : Type 0} → (A → B) → Reads A → Reads B
put of read = read >>= (λ x. Ok (of x.0, x.1))

module _ {A : Type 0} (whole : A → Raw) where
  record Made (read : Reads A) (r : Raw) (rest : List ℕ) : Type 0 where
    made : A
    is : read ≡ Ok (made, rest)
    same : r ≡ whole made

  made_of : (read : Reads A) (r : Raw) (rest : List ℕ) → put whole read ≡ Ok (r, rest) → Made read r rest
  made_of (Ok x) r rest is =
      let both = ok_is (whole x.0, x.1) (r, rest) is in
      record { made = x.0; is = ap (λ (p : Raw × List ℕ). Ok (x.0, p.1)) both; same = sym (ap (λ (p : Raw × List ℕ). p.0) both) }
  made_of (Err e) r rest is = absurd cc

made_twice : {A B : Type 0} (inner : A → B) (outer : B → Raw) (read : Reads A) → put outer (put inner read) ≡ put (λ x. outer (inner x)) read
made_twice inner outer (Ok x) = refl
made_twice inner outer (Err e) = refl

-- ---- the items of a content

module _ {A : Type 0} (items : Raws → A → Type 0) where
  array_items : (r : Raw) (y : A) → AsArray items r y → (rs : Raws) × AsArray (λ (qs : Raws) (rs : Raws). qs ≡ rs) r rs
  array_items (raw.unsigned w n) y h = absurd h
  array_items (raw.negative w n) y h = absurd h
  array_items (raw.bytes c) y h = absurd h
  array_items (raw.text c) y h = absurd h
  array_items (raw.bytes_chunks cs) y h = absurd h
  array_items (raw.text_chunks cs) y h = absurd h
  array_items (raw.array l rs) y h = (rs, refl)
  array_items (raw.map l ps) y h = absurd h
  array_items (raw.tag w n r) y h = absurd h
  array_items (raw.simple s) y h = absurd h
  array_items (raw.float w bits) y h = absurd h

  -- a content of parts has items
  pub has_items : (c : Content) (y : A) → AreParts items c y → (rs : Raws) × IsItemsOf c rs
  has_items alone y h = absurd h
  has_items (one r) y h = array_items (untagged r) y h
  has_items (parts rs) y h = (rs, refl)

  array_read : (r : Raw) (rs : Raws) (y : A) → AsArray (λ (qs : Raws) (rs : Raws). qs ≡ rs) r rs → AsArray items r y → items rs y
  array_read (raw.unsigned w n) rs y is h = absurd h
  array_read (raw.negative w n) rs y is h = absurd h
  array_read (raw.bytes c) rs y is h = absurd h
  array_read (raw.text c) rs y is h = absurd h
  array_read (raw.bytes_chunks cs) rs y is h = absurd h
  array_read (raw.text_chunks cs) rs y is h = absurd h
  array_read (raw.array l qs) rs y is h = subst (λ (rs : Raws). items rs y) is h
  array_read (raw.map l ps) rs y is h = absurd h
  array_read (raw.tag w n r) rs y is h = absurd h
  array_read (raw.simple s) rs y is h = absurd h
  array_read (raw.float w bits) rs y is h = absurd h

  -- the parts are its items
  pub items_read : (c : Content) (rs : Raws) (y : A) → IsItemsOf c rs → AreParts items c y → items rs y
  items_read alone rs y is h = absurd h
  items_read (one r) rs y is h = array_read (untagged r) rs y is h
  items_read (parts qs) rs y is h = subst (λ (rs : Raws). items rs y) is h

  array_made : (r : Raw) (rs : Raws) (y : A) → AsArray (λ (qs : Raws) (rs : Raws). qs ≡ rs) r rs → items rs y → AsArray items r y
  array_made (raw.unsigned w n) rs y is h = absurd is
  array_made (raw.negative w n) rs y is h = absurd is
  array_made (raw.bytes c) rs y is h = absurd is
  array_made (raw.text c) rs y is h = absurd is
  array_made (raw.bytes_chunks cs) rs y is h = absurd is
  array_made (raw.text_chunks cs) rs y is h = absurd is
  array_made (raw.array l qs) rs y is h = subst (λ (rs : Raws). items rs y) (sym is) h
  array_made (raw.map l ps) rs y is h = absurd is
  array_made (raw.tag w n r) rs y is h = absurd is
  array_made (raw.simple s) rs y is h = absurd is
  array_made (raw.float w bits) rs y is h = absurd is

  pub items_made : (c : Content) (rs : Raws) (y : A) → IsItemsOf c rs → items rs y → AreParts items c y
  items_made alone rs y is h = absurd is
  items_made (one r) rs y is h = array_made (untagged r) rs y is h
  items_made (parts qs) rs y is h = subst (λ (rs : Raws). items rs y) (sym is) h

-- ---- the parts so far

-- After these items others follow, of which all are made.
pub record Before {A B : Type 0} (items : Raws → A → Type 0) (others : Raws → B → Type 0) (all_of : B → A) (front : List Raw) : Type 0 where
  pub needs : (more : Raws) (y : A) → items (append front more) y → (z : B) × others more z
  pub makes : (more : Raws) (z : B) → others more z → items (append front more) (all_of z)

before_none : {A : Type 0} (items : Raws → A → Type 0) → Before items items (λ y. y) []
before_none items = record { needs = λ more y h. (y, h); makes = λ more z h. h }

module _ {A B C : Type 0} (items : Raws → A → Type 0) (reads : Raw → C → Type 0) (others : Raws → B → Type 0) (all_of : C × B → A) where
  -- after one more
  before_more : (x : C) (front : List Raw) (r : Raw) → Before items (part_then reads others) all_of front → reads r x → Before items others (λ z. all_of (x, z)) (front ++ r ∷ [])
  before_more x front r h m = record {
    needs = λ more y k.
        let here = subst (λ (rs : Raws). items rs y) (append-push front r more) k in
        let w = h.needs (raw.raw r more) y here in
        (w.0.1, w.1.1);
    makes = λ more z k. subst (λ (rs : Raws). items rs (all_of (x, z))) (sym (append-push front r more)) (h.makes (raw.raw r more) (x, z) (m, k));
  }

  part_follows : (more : Raws) (z : C × B) → part_then reads others more z → MustFollow reads more
  part_follows no_raws z h = absurd h
  part_follows (raw.raw r rs) z h = (z.0, h.0)

-- ---- enums

module _ {E : Type 0} (names : List (List ℕ)) (means : ℕ → Content → E → Type 0) where
  -- What a call that reads the enum took of its source.
  abbrev pub TakesEnum : (ReadErrorCode → Bool) → Formats → ℕ → Input → Input → Result E Error → Type 0
  TakesEnum allowed f outer s t r = TakesItem allowed (formats_of f) (PassesTags (IsEnum (formats_of f) names means)) outer s t r

  -- An enum is at s, and is read as x.
  abbrev pub ReadsEnum : Input → Input → Formats → ℕ → E → Type 0
  ReadsEnum s t f outer x = Step s t (λ l bs rest. IsRead (PassesTags (IsEnum (formats_of f) names means)) (item_at (raws (formats_of f) l) outer bs) x rest)

  -- No enum is at s.
  abbrev pub NoEnum : (ReadErrorCode → Bool) → Input → Input → Formats → ℕ → ErrorCode → ℕ → Type 0
  NoEnum allowed s t f outer k at = Refuses allowed s t k at (λ l bs. IsNotRead (PassesTags (IsEnum (formats_of f) names means)) (item_at (raws (formats_of f) l) outer bs))

  -- the exit of a `?` where none is
  pub enum_stops : {w : Input} (allowed : ReadErrorCode → Bool) (f : Formats) (outer : ℕ) (s t : Input) (e : Error) (r : Result E Error) → NoEnum allowed s w f outer (code_of e) (offset_of e) → IsErrAnd r (λ x. x ≡ e) → t ≡ w → TakesEnum allowed f outer s t r
  enum_stops allowed f outer s t e (Ok x) h given same = absurd given
  enum_stops {w} allowed f outer s t e (Err x) h given same =
      subst (λ (t : Input). NoEnum allowed s t f outer (code_of x) (offset_of x)) (sym same) (subst (λ (e : Error). NoEnum allowed s w f outer (code_of e) (offset_of e)) (sym given) h)

  -- no variant is there
  pub variant_unread : {allowed : ReadErrorCode → Bool} (f : Formats) (outer : ℕ) {s : Input} (t : Input) (e : Error) (r : Result E Error) → WhateverTaken s (RefusesVariant allowed (formats_of f) names outer s) e → IsErrAnd r (λ x. x ≡ e) → TookSome s t → TakesEnum allowed f outer s t r
  variant_unread {allowed} f outer {s} t e r h given took = enum_stops allowed f outer s t e r
      (refuses_map allowed s (code_of e) (offset_of e) (λ l bs. IsNotRead (PassesTags (IsVariant (formats_of f) names)) (item_at (raws (formats_of f) l) outer bs)) (λ l bs. IsNotRead (PassesTags (IsEnum (formats_of f) names means)) (item_at (raws (formats_of f) l) outer bs))
      (λ l bs none x rest got. none (got.means.index, got.means.content) rest (record { item = got.item; is = got.is; means = got.means.variant })) (h t took)) given refl

  -- What is read makes an item, which is the variant in this place.
  pub record IsWhole {C : Type 0} (f : model.Formats) (i : ℕ) (content : C → Content) (read : Reads Raw) (inner : Reads C) : Type 0 where
    pub whole : C → Raw
    pub is : read ≡ (inner >>= (λ c. Ok (whole c.0, c.1)))
    pub variant : (c : C) (rest : List ℕ) → inner ≡ Ok (c, rest) → IsVariant f names (untagged (whole c)) (i, content c)

  module _ {C : Type 0} (f : model.Formats) (i : ℕ) (content : C → Content) (read : Reads Raw) (inner : Reads C) (h : IsWhole f i content read inner) where
    whole_read : (c : C) (rest : List ℕ) (x : E) → inner ≡ Ok (c, rest) → means i (content c) x → IsRead (PassesTags (IsEnum f names means)) read x rest
    whole_read c rest x is m = record {
      item = h.whole c;
      is = h.is ∙ ap (put h.whole) is;
      means = record { index = i; content = content c; variant = h.variant c rest is; meaning = m };
    }

    record Meant (x : E) (rest : List ℕ) : Type 0 where
      found : C
      is : inner ≡ Ok (found, rest)
      meaning : means i (content found) x

    whole_meant : (x : E) (rest : List ℕ) → IsRead (PassesTags (IsEnum f names means)) read x rest → Meant x rest
    whole_meant x rest got =
        let m = made_of h.whole inner got.item rest (sym h.is ∙ got.is) in
        let here = h.variant m.made rest m.is in
        let there : IsVariant f names (untagged (h.whole m.made)) (got.means.index, got.means.content) = subst (λ (r : Raw). IsVariant f names (untagged r) (got.means.index, got.means.content)) m.same got.means.variant in
        let same = variant_one f names (untagged (h.whole m.made)) (got.means.index, got.means.content) (i, content m.made) there here in
        record { found = m.made; is = m.is; meaning = subst (λ (v : ℕ × Content). means v.0 v.1 x) same got.means.meaning }

  -- What is read makes the parts of the variant in this place.
  pub record ArePartsOf (f : model.Formats) (i : ℕ) (read : Reads Raw) (inner : Reads Raws) : Type 0 where
    pub content : Raws → Content
    pub made : IsWhole f i content read inner
    pub items : (rs : Raws) → IsItemsOf (content rs) rs

  -- What is known of an enum after its identifier, which is that of the i-th variant. Its item begins at
  -- s, in these formats and with so many levels outside of it; its content begins at t.
  pub record VariantSoFar (i : ℕ) (s : Input) (f : Formats) (outer : ℕ) (t : Input) (g : Formats) (left : ℕ) (form : Form) : Type 0 where
    pub head : Step s t (λ l bs rest. IsVariantHead (formats_of f) names l (item_at (raws (formats_of f) l) outer bs) left i form rest)
    pub formats : g ≡ f

  pub variant_is : {s : Input} {f : Formats} {outer : ℕ} {t : Input} {g : Formats} {left index : ℕ} {form : Form} (i : ℕ)
      → Step s t (λ l bs rest. IsVariantHead (formats_of f) names l (item_at (raws (formats_of f) l) outer bs) left index form rest) → g ≡ f → index ≡ i → VariantSoFar i s f outer t g left form
  variant_is {s} {f} {outer} {t} {g} {left} {index} {form} i head formats is = record {
    head = subst (λ (i : ℕ). Step s t (λ l bs rest. IsVariantHead (formats_of f) names l (item_at (raws (formats_of f) l) outer bs) left i form rest)) is head;
    formats = formats;
  }

  -- What is known of a variant of several parts. Its item begins at s, in these formats and with so many
  -- levels outside of it; the parts that remain begin at t, with so many levels inside.
  pub record PartsSoFar {A B : Type 0} (items : Raws → A → Type 0) (make : A → E) (others : Raws → B → Type 0) (all_of : B → A) (i : ℕ) (s : Input) (f : Formats) (outer : ℕ) (t : Input) (g : Formats) (levels : ℕ) (r : Remaining) : Type 0 where
    pub first : Input
    pub deep : ℕ
    pub all : Remaining
    pub needs : (c : Content) (x : E) → means i c x → tuple items make c x
    pub makes : (c : Content) (x : E) → tuple items make c x → means i c x
    pub head : Step s first (λ l bs rest. ArePartsOf (formats_of f) i (item_at (raws (formats_of f) l) outer bs) (items_at (formats_of f) l deep (remaining_of all) rest))
    pub so_far : Step first t (SoFar (Before items others all_of) (formats_of f) deep (remaining_of all) (remaining_of r))
    pub formats : g ≡ f
    pub inside : levels ≡ deep

module _ {E : Type 0} {names : List (List ℕ)} {means : ℕ → Content → E → Type 0} {i : ℕ} {s : Input} {f : Formats} {outer : ℕ} {a : Input} {g : Formats} {left : ℕ} {form : Form} (so : VariantSoFar names means i s f outer a g left form) where
  abbrev Head : Limits → List ℕ → List ℕ → Type 0
  Head l bs rest = IsVariantHead (formats_of f) names l (item_at (raws (formats_of f) l) outer bs) left i form rest

  whole_here : (l : Limits) (bs mid : List ℕ) → Head l bs mid → IsWhole names means (formats_of f) i (λ c. c) (item_at (raws (formats_of f) l) outer bs) (content_at (formats_of f) l left form mid)
  whole_here l bs mid h = record {
    whole = h.whole;
    is = h.is;
    variant = λ c rest is. h.variant c rest is;
  }

  meant : (m : Content → E → Type 0) → means i ≡ m → (c : Content) (x : E) → means i c x → m c x
  meant m same c x h = subst (λ (m : Content → E → Type 0). m c x) same h

  means_so : (m : Content → E → Type 0) → means i ≡ m → (c : Content) (x : E) → m c x → means i c x
  means_so m same c x h = subst (λ (m : Content → E → Type 0). m c x) (sym same) h

  module _ {A : Type 0} (of : Formats → Content → A → Type 0) where
    -- the content was read, which makes x of this variant
    pub content_read : (y : A) (x : E) → ((c : Content) → of f c y → means i c x) → {b t : Input} → Step a b (λ l bs rest. IsContent (of g) (content_at (formats_of g) l left form bs) y rest) → t ≡ b → ReadsEnum names means s t f outer x
    content_read y x on {b} {t} step same =
        let all = step_then s a b Head (λ l bs rest. IsContent (of g) (content_at (formats_of g) l left form bs) y rest) (λ l bs rest. IsRead (PassesTags (IsEnum (formats_of f) names means)) (item_at (raws (formats_of f) l) outer bs) x rest)
        (λ l bs mid rest h c.
        let here = subst (λ (g : Formats). IsContent (of g) (content_at (formats_of g) l left form mid) y rest) so.formats c in
        whole_read names means (formats_of f) i (λ c. c) (item_at (raws (formats_of f) l) outer bs) (content_at (formats_of f) l left form mid) (whole_here l bs mid h) here.content rest x here.is (on here.content here.meaning)) so.head step in
        subst (λ (t : Input). ReadsEnum names means s t f outer x) (sym same) all

    -- the content isn't read that this variant needs
    pub content_unread : {w : Input} → ((c : Content) (x : E) → means i c x → (y : A) × of f c y) → {allowed : ReadErrorCode → Bool} (t : Input) (e : Error) (r : Result E Error)
        → Refuses allowed a w (code_of e) (offset_of e) (λ l bs. IsNoContent (of g) (content_at (formats_of g) l left form bs)) → IsErrAnd r (λ x. x ≡ e) → t ≡ w → TakesEnum names means allowed f outer s t r
    content_unread needs {allowed} t e r none =
        enum_stops names means allowed f outer s t e r
        (refuses_then allowed s (code_of e) (offset_of e) a Head (λ l bs. IsNoContent (of g) (content_at (formats_of g) l left form bs)) (λ l bs. IsNotRead (PassesTags (IsEnum (formats_of f) names means)) (item_at (raws (formats_of f) l) outer bs))
        (λ l bs mid h none x rest got.
        let here = subst (λ (g : Formats). IsNoContent (of g) (content_at (formats_of g) l left form mid)) so.formats none in
        let m = whole_meant names means (formats_of f) i (λ c. c) (item_at (raws (formats_of f) l) outer bs) (content_at (formats_of f) l left form mid) (whole_here l bs mid h) x rest got in
        let y = needs m.found x m.meaning in
        here y.0 rest (record { content = m.found; is = m.is; meaning = y.1 })) so.head none)

  -- a variant of no part was read, or wasn't
  pub unit_read : (x : E) → means i ≡ unit x → {b t : Input} → Step a b (λ l bs rest. IsContent IsNothing (content_at (formats_of g) l left form bs) tt rest) → t ≡ b → ReadsEnum names means s t f outer x
  unit_read x same = content_read (λ f. IsNothing) tt x (λ c h. means_so (unit x) same c x (h, refl))

  pub unit_unread : {w : Input} (x : E) → means i ≡ unit x → {allowed : ReadErrorCode → Bool} (t : Input) (e : Error) (r : Result E Error)
      → Refuses allowed a w (code_of e) (offset_of e) (λ l bs. IsNoContent IsNothing (content_at (formats_of g) l left form bs)) → IsErrAnd r (λ x. x ≡ e) → t ≡ w → TakesEnum names means allowed f outer s t r
  unit_unread x same = content_unread (λ f. IsNothing) (λ c y h. (tt, (meant (unit x) same c y h).0))

  module _ {A : Type 0} (reads : Formats → Raw → A → Type 0) (make : A → E) (same : means i ≡ newtype (reads f) make) where
    -- a variant of one part was read, or wasn't
    pub newtype_read : (y : A) {b t : Input} → Step a b (λ l bs rest. IsContent (IsPart (reads g)) (content_at (formats_of g) l left form bs) y rest) → t ≡ b → ReadsEnum names means s t f outer (make y)
    newtype_read y = content_read (λ f. IsPart (reads f)) y (make y) (λ c h. means_so (newtype (reads f) make) same c (make y) (y, h, refl))

    pub newtype_unread : {w : Input} {allowed : ReadErrorCode → Bool} (t : Input) (e : Error) (r : Result E Error)
        → Refuses allowed a w (code_of e) (offset_of e) (λ l bs. IsNoContent (IsPart (reads g)) (content_at (formats_of g) l left form bs)) → IsErrAnd r (λ x. x ≡ e) → t ≡ w → TakesEnum names means allowed f outer s t r
    newtype_unread = content_unread (λ f. IsPart (reads f)) (λ c x h. let m = meant (newtype (reads f) make) same c x h in (m.0, m.1))

  module _ {A : Type 0} (items : Raws → A → Type 0) (make : A → E) (same : means i ≡ tuple items make) where
    -- the content has no parts
    pub tuple_unread : {allowed : ReadErrorCode → Bool} (t : Input) (e : Error) (r : Result E Error)
        → WhateverTaken a (RefusesParts allowed (formats_of g) left form a) e → IsErrAnd r (λ x. x ≡ e) → TookSome a t → TakesEnum names means allowed f outer s t r
    tuple_unread t e r h given took = content_unread (λ f. IsItemsOf) (λ c x h. let p = meant (tuple items make) same c x h in has_items items c p.0 p.1) t e r (h t took) given refl

    parts_whole : (l : Limits) (bs mid rest : List ℕ) (inner : ℕ) (all : Remaining) → Head l bs mid → IsPartsHead (formats_of f) l (content_at (formats_of f) l left form mid) inner all rest
        → ArePartsOf names means (formats_of f) i (item_at (raws (formats_of f) l) outer bs) (items_at (formats_of f) l inner (remaining_of all) rest)
    parts_whole l bs mid rest inner all h p =
        let w = whole_here l bs mid h in
        record {
          content = p.whole;
          made = record {
            whole = λ rs. w.whole (p.whole rs);
            is = w.is ∙ ap (put w.whole) p.is ∙ made_twice p.whole w.whole (items_at (formats_of f) l inner (remaining_of all) rest);
            variant = λ rs after is. w.variant (p.whole rs) after (p.is ∙ ap (put p.whole) is);
          };
          items = p.items;
        }

    -- the parts begin
    pub tuple_begins : {t : Input} {h : Formats} {inner : ℕ} {all : Remaining} → Step a t (λ l bs rest. IsPartsHead (formats_of g) l (content_at (formats_of g) l left form bs) inner all rest) → h ≡ g → PartsSoFar names means items make items (λ y. y) i s f outer t h inner all
    tuple_begins {t} {h} {inner} {all} step here = record {
      first = t;
      deep = inner;
      all = all;
      needs = λ c x h. meant (tuple items make) same c x h;
      makes = λ c x h. means_so (tuple items make) same c x h;
      head = step_then s a t Head (λ l bs rest. IsPartsHead (formats_of g) l (content_at (formats_of g) l left form bs) inner all rest) (λ l bs rest. ArePartsOf names means (formats_of f) i (item_at (raws (formats_of f) l) outer bs) (items_at (formats_of f) l inner (remaining_of all) rest))
          (λ l bs mid rest h p. parts_whole l bs mid rest inner all h (subst (λ (g : Formats). IsPartsHead (formats_of g) l (content_at (formats_of g) l left form mid) inner all rest) so.formats p)) so.head step;
      so_far = loop_begins t (Before items items (λ y. y)) f f inner inner refl refl all (before_none items);
      formats = here ∙ so.formats;
      inside = refl;
    }

-- ---- one part after the other

module _ {E : Type 0} {names : List (List ℕ)} {means : ℕ → Content → E → Type 0} where
  module _ {A B : Type 0} {items : Raws → A → Type 0} {make : A → E} {others : Raws → B → Type 0} {all_of : B → A} {i : ℕ} {s : Input} {f : Formats} {outer : ℕ} {t : Input} {g : Formats} {levels : ℕ} {r : Remaining} (so : PartsSoFar names means items make others all_of i s f outer t g levels r) where
    -- the exit of a `?` where the items are no parts of the variant
    parts_stop : {w : Input} (allowed : ReadErrorCode → Bool) (u : Input) (e : Error) (q : Result E Error) → Refuses allowed so.first w (code_of e) (offset_of e) (NoItems items (formats_of f) so.deep (remaining_of so.all)) → IsErrAnd q (λ x. x ≡ e) → u ≡ w → TakesEnum names means allowed f outer s u q
    parts_stop allowed u e q none =
        enum_stops names means allowed f outer s u e q
        (refuses_then allowed s (code_of e) (offset_of e) so.first (λ l bs rest. ArePartsOf names means (formats_of f) i (item_at (raws (formats_of f) l) outer bs) (items_at (formats_of f) l so.deep (remaining_of so.all) rest)) (NoItems items (formats_of f) so.deep (remaining_of so.all)) (λ l bs. IsNotRead (PassesTags (IsEnum (formats_of f) names means)) (item_at (raws (formats_of f) l) outer bs))
        (λ l bs mid h none x rest got.
        let m = whole_meant names means (formats_of f) i h.content (item_at (raws (formats_of f) l) outer bs) (items_at (formats_of f) l so.deep (remaining_of so.all) mid) h.made x rest got in
        let y = so.needs (h.content m.found) x m.meaning in
        none m.found rest y.0 m.is (items_read items (h.content m.found) m.found y.0 (h.items m.found) y.1)) so.head none)

  module _ {A B C : Type 0} (reads : Formats → Raw → C → Type 0) (others : Raws → B → Type 0) {items : Raws → A → Type 0} {make : A → E} {all_of : C × B → A} {i : ℕ} {s : Input} {f : Formats} {outer : ℕ} {t : Input} {g : Formats} {levels : ℕ} {r : Remaining} (so : PartsSoFar names means items make (part_then (reads f) others) all_of i s f outer t g levels r) where
    -- the next part was read
    pub part_read : (x : C) {u : Input} {h : Formats} {n : ℕ} {new : Remaining} → Step t u (IsNextItem (reads g) (formats_of g) levels (remaining_of r) (remaining_of new) x) → h ≡ g → n ≡ levels → PartsSoFar names means items make others (λ z. all_of (x, z)) i s f outer u h n new
    part_read x {u} {h} {n} {new} step formats inside = record {
      first = so.first;
      deep = so.deep;
      all = so.all;
      needs = so.needs;
      makes = so.makes;
      head = so.head;
      so_far = part_goes_on so.first (Before items (part_then (reads f) others) all_of) f g so.deep levels so.formats so.inside so.all reads r t (Before items others (λ z. all_of (x, z))) new u x (λ front q h m. before_more items (reads f) others all_of x front q h m) so.so_far step;
      formats = formats ∙ so.formats;
      inside = inside ∙ so.inside;
    }

    -- the next part isn't read
    pub part_unread : {w : Input} {allowed : ReadErrorCode → Bool} (u : Input) (e : Error) (q : Result E Error) → Refuses allowed t w (code_of e) (offset_of e) (NoPart (reads g) (formats_of g) levels (remaining_of r)) → IsErrAnd q (λ x. x ≡ e) → u ≡ w → TakesEnum names means allowed f outer s u q
    part_unread {allowed} u e q none =
        parts_stop so allowed u e q
        (part_lacks so.first (Before items (part_then (reads f) others) all_of) f g so.deep levels so.formats so.inside so.all reads r t items allowed (code_of e) (offset_of e)
        (λ front more y h means. let z = h.needs more y means in part_follows items (reads f) others all_of more z.0 z.1) so.so_far none)

  module _ {A : Type 0} {items : Raws → A → Type 0} {make : A → E} {all_of : Unit {0} → A} {i : ℕ} {s : Input} {f : Formats} {outer : ℕ} {t : Input} {g : Formats} {levels : ℕ} {r : Remaining} (so : PartsSoFar names means items make no_part all_of i s f outer t g levels r) where
    -- items are left where the end is due
    pub parts_left : {w : Input} (allowed : ReadErrorCode → Bool) (u : Input) (e : Error) (q : Result E Error) → TakesEndOf collection.Array allowed r t w (Err e) → IsErrAnd q (λ x. x ≡ e) → u ≡ w → TakesEnum names means allowed f outer s u q
    parts_left {w} allowed u e q h =
        parts_stop so allowed u e q
        (end_lacks so.first (Before items no_part all_of) f g so.deep levels so.formats so.inside so.all items allowed r t w e (λ front more y h means. (h.needs more y means).1) so.so_far h)

    -- all parts were read
    pub parts_read : {u w : Input} → Step t u (λ l bs rest. ended_at end_in_array (remaining_of r) bs ≡ Ok (tt, rest)) → w ≡ u → ReadsEnum names means s w f outer (make (all_of tt))
    parts_read {u} {w} step same =
        let P = Before items no_part all_of in
        let done = step_then so.first t u (SoFar P (formats_of f) so.deep (remaining_of so.all) (remaining_of r)) (IsEnd (remaining_of r)) (λ l bs rest. (rs : Raws) × (items_at (formats_of f) l so.deep (remaining_of so.all) bs ≡ Ok (rs, rest)) × items rs (all_of tt))
        (λ l bs mid rest h e.
        let d = is_done P (formats_of f) so.deep (remaining_of so.all) (remaining_of r) l bs mid rest h e in
        (append d.front no_raws, d.is, d.holds.makes no_raws tt tt)) so.so_far (end_step r t u step) in
        let all = step_then s so.first u (λ l bs rest. ArePartsOf names means (formats_of f) i (item_at (raws (formats_of f) l) outer bs) (items_at (formats_of f) l so.deep (remaining_of so.all) rest)) (λ l bs rest. (rs : Raws) × (items_at (formats_of f) l so.deep (remaining_of so.all) bs ≡ Ok (rs, rest)) × items rs (all_of tt)) (λ l bs rest. IsRead (PassesTags (IsEnum (formats_of f) names means)) (item_at (raws (formats_of f) l) outer bs) (make (all_of tt)) rest)
        (λ l bs mid rest h d.
        whole_read names means (formats_of f) i h.content (item_at (raws (formats_of f) l) outer bs) (items_at (formats_of f) l so.deep (remaining_of so.all) mid) h.made d.0 rest (make (all_of tt)) d.1
        (so.makes (h.content d.0) (make (all_of tt)) (all_of tt, items_made items (h.content d.0) d.0 (all_of tt) (h.items d.0) d.2, refl))) so.head done in
        subst (λ (w : Input). ReadsEnum names means s w f outer (make (all_of tt))) (sym same) all
