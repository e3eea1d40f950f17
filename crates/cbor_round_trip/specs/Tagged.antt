-- What is read back is so within a tag, and without one unless it has a tag of its own.
use Rattle.std.proofs.Common.{◌≡◌, ℕ, Bool, true, false, pos, negsuc, Option, Some, None, refl, sym, ap, ap₂, ◌∙◌}
use Rattle.std.specs.Prelude.{◌↔◌}
use Rattle.cbor_model.specs.Document.{Doc, null, bool, integer, float, bytes, text, sequence, mapping, structure, unit_variant, newtype_variant, tuple_variant, struct_variant, tagged, encoded, raw_of}
use Rattle.cbor_model.specs.Formats.{all_formats}
use Rattle.cbor_model.specs.Raw as raw
use Rattle.cbor_model.specs.Raw.{Raw}
use Rattle.cbor_model.specs.Readable.{Context}
use Rattle.cbor_read.specs.Source.{Lends}
use Rattle.cbor_decode_as.specs.Takes.{lending}
use Rattle.cbor_convert.specs.Tagged.{tagged_document, IsTagged}
use Rattle.cbor_round_trip.specs.ReadBack.{IsReadBack}

-- no tag is outermost
abbrev pub IsUntagged : Raw → Type 0
IsUntagged (raw.tag w n r) = ⊥
IsUntagged r = Unit {0}

-- without a tag of its own
abbrev pub HasNoTag : Doc → Type 0
HasNoTag (tagged n d) = ⊥
HasNoTag (encoded r) = IsUntagged r
HasNoTag d = Unit {0}

-- a value that is within no tag has none of its own
abbrev pub IsToldApart : Option ℕ → Doc → Type 0
IsToldApart (Some n) d = Unit {0}
IsToldApart None d = HasNoTag d

module _ {A : Type 0} (reads : Raw → A → Type 0) (tag : Option ℕ) (x : A) where
  no_tag : (d : Doc) (p g : Bool) → HasNoTag d
      → IsTagged reads (raw_of d p g) tag x ↔ ((tag ≡ None) × reads (raw_of d p g) x)
  unfolding raw_of
  no_tag null p g h = ((λ is. is), (λ is. is))
  no_tag (bool true) p g h = ((λ is. is), (λ is. is))
  no_tag (bool false) p g h = ((λ is. is), (λ is. is))
  no_tag (integer (pos n)) p g h = ((λ is. is), (λ is. is))
  no_tag (integer (negsuc n)) p g h = ((λ is. is), (λ is. is))
  no_tag (float w bits) p g h = ((λ is. is), (λ is. is))
  no_tag (bytes b) p g h = ((λ is. is), (λ is. is))
  no_tag (text b) p g h = ((λ is. is), (λ is. is))
  no_tag (sequence l ds) p g h = ((λ is. is), (λ is. is))
  no_tag (mapping l ps) p g h = ((λ is. is), (λ is. is))
  no_tag (structure fs) p g h = ((λ is. is), (λ is. is))
  no_tag (unit_variant i n) false g h = ((λ is. is), (λ is. is))
  no_tag (unit_variant i n) true g h = ((λ is. is), (λ is. is))
  no_tag (newtype_variant i n d) p false h = ((λ is. is), (λ is. is))
  no_tag (newtype_variant i n d) p true h = ((λ is. is), (λ is. is))
  no_tag (tuple_variant i n ds) p false h = ((λ is. is), (λ is. is))
  no_tag (tuple_variant i n ds) p true h = ((λ is. is), (λ is. is))
  no_tag (struct_variant i n fs) p false h = ((λ is. is), (λ is. is))
  no_tag (struct_variant i n fs) p true h = ((λ is. is), (λ is. is))
  no_tag (tagged n d) p g h = absurd h
  no_tag (encoded (raw.unsigned w n)) p g h = ((λ is. is), (λ is. is))
  no_tag (encoded (raw.negative w n)) p g h = ((λ is. is), (λ is. is))
  no_tag (encoded (raw.bytes c)) p g h = ((λ is. is), (λ is. is))
  no_tag (encoded (raw.text c)) p g h = ((λ is. is), (λ is. is))
  no_tag (encoded (raw.bytes_chunks cs)) p g h = ((λ is. is), (λ is. is))
  no_tag (encoded (raw.text_chunks cs)) p g h = ((λ is. is), (λ is. is))
  no_tag (encoded (raw.array l rs)) p g h = ((λ is. is), (λ is. is))
  no_tag (encoded (raw.map l ps)) p g h = ((λ is. is), (λ is. is))
  no_tag (encoded (raw.simple s)) p g h = ((λ is. is), (λ is. is))
  no_tag (encoded (raw.float w bits)) p g h = ((λ is. is), (λ is. is))
  no_tag (encoded (raw.tag w n r)) p g h = absurd h

-- the outermost tag of an item, if it has one, and the item within it
abbrev outermost : Raw → Option ℕ
outermost (raw.tag w n r) = Some n
outermost _ = None

abbrev within_tag : Raw → Raw
within_tag (raw.tag w n r) = r
within_tag r = r

-- what is read with a tag is shown by these
by_tag : {A : Type 0} (reads : Raw → A → Type 0) (r : Raw) (tag : Option ℕ) (x : A) → IsTagged reads r tag x
    → (tag ≡ outermost r) × reads (within_tag r) x
by_tag reads (raw.unsigned w n) tag x h = h
by_tag reads (raw.negative w n) tag x h = h
by_tag reads (raw.bytes c) tag x h = h
by_tag reads (raw.text c) tag x h = h
by_tag reads (raw.bytes_chunks cs) tag x h = h
by_tag reads (raw.text_chunks cs) tag x h = h
by_tag reads (raw.array l rs) tag x h = h
by_tag reads (raw.map l ps) tag x h = h
by_tag reads (raw.tag w n r) tag x h = h
by_tag reads (raw.simple s) tag x h = h
by_tag reads (raw.float w bits) tag x h = h

module _ {A : Type 0} {document : A → Doc} {reads : Context → Raw → A → Type 0} {fits : A → Type 0} {determined : Type 0} (law : IsReadBack document reads fits determined) where
  tagged_itself : (tag : Option ℕ) (x : A) → IsToldApart tag (document x) → fits x → (l : Lends) (p g : Bool)
      → IsTagged (reads (lending all_formats l)) (raw_of (tagged_document tag (document x)) p g) tag x
  unfolding raw_of
  tagged_itself (Some n) x apart fit l p g = (refl, law.itself x fit l p g)
  tagged_itself None x apart fit l p g =
      (no_tag (reads (lending all_formats l)) None x (document x) p g apart).1 (refl, law.itself x fit l p g)

  tagged_alone : (tag other : Option ℕ) (x y : A) → IsToldApart tag (document x) → fits x → (l : Lends) (p g : Bool)
      → IsTagged (reads (lending all_formats l)) (raw_of (tagged_document tag (document x)) p g) other y
      → tagged_document other (document y) ≡ tagged_document tag (document x)
  unfolding raw_of
  tagged_alone (Some n) other x y apart fit l p g h = ap₂ tagged_document h.0 (law.alone x y fit l p g h.1)
  tagged_alone None other x y apart fit l p g h =
      let is = (no_tag (reads (lending all_formats l)) other y (document x) p g apart).0 h in
      ap₂ tagged_document is.0 (law.alone x y fit l p g is.1)

  tagged_one : determined → (c : Context) (r : Raw) (tag other : Option ℕ) (x y : A)
      → IsTagged (reads c) r tag x → IsTagged (reads c) r other y
      → tagged_document tag (document x) ≡ tagged_document other (document y)
  tagged_one d c r tag other x y h k =
      let both = (by_tag (reads c) r tag x h) in
      let same = (by_tag (reads c) r other y k) in
      ap₂ tagged_document (both.0 ∙ sym same.0) (law.single d c (within_tag r) x y both.1 same.1)

  pub tagged_back : {T : Type 0} {tag : T → Option ℕ} {inner : T → A}
      → IsReadBack (λ t. tagged_document (tag t) (document (inner t)))
      (λ c r t. IsTagged (reads c) r (tag t) (inner t))
      (λ t. IsToldApart (tag t) (document (inner t)) × fits (inner t)) determined
  tagged_back {tag = tag} {inner = inner} = record {
    itself = λ t fit l p g. tagged_itself (tag t) (inner t) fit.0 fit.1 l p g;
    alone = λ t u fit l p g h. tagged_alone (tag t) (tag u) (inner t) (inner u) fit.0 fit.1 l p g h;
    single = λ d c r t u h k. tagged_one d c r (tag t) (tag u) (inner t) (inner u) h k;
  }

  -- within the one tag that has to be there
  pub required_back : {T : Type 0} {n : ℕ} {inner : T → A}
      → IsReadBack (λ t. tagged n (document (inner t)))
      (λ c r t. IsTagged (reads c) r (Some n) (inner t)) (λ t. fits (inner t)) determined
  unfolding raw_of
  required_back {n = n} {inner = inner} = record {
    itself = λ t fit l p g. (refl, law.itself (inner t) fit l p g);
    alone = λ t u fit l p g h. ap (tagged n) (law.alone (inner t) (inner u) fit l p g h.1);
    single = λ d c r t u h k. tagged_one d c r (Some n) (Some n) (inner t) (inner u) h k;
  }
