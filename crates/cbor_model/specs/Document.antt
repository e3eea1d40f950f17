-- Documents: what a typed value says before a serializer's settings choose how names and enums are
-- spelled, and the raw item of a document.
use Rattle.std.specs.Prelude.{◌≡◌, ℕ, suc, ◌^◌, ◌<◌, List, [], ◌∷◌, Bool, true, false, ℤ}
use Rattle.std.specs.Prelude.{pos, negsuc, refl, codes, IsUtf8}
use Rattle.cbor_model.specs.Head.{least, one_byte}
use Rattle.cbor_model.specs.Raw as raw
use Rattle.cbor_model.specs.Raw.{Raw, Raws, no_raws, RawPairs, no_raw_pairs, raw_pair, FloatWidth}
use Rattle.cbor_model.specs.Raw.{float_limit, null_item, definite, indefinite, count, pair_count}
use Rattle.cbor_model.specs.Raw.{IsWellFormed, EachText}
use Rattle.cbor_model.specs.Plain as plain
use Rattle.cbor_model.specs.Plain.{Val, Vals, no_vals, val, Pairs, no_pairs, pair}
use Rattle.cbor_model.specs.Canonical.{chunk_of, canonical_bool, canonical_integer, canon}
use Rattle.cbor_model.specs.Canonical.{IsStorableInteger}
use Rattle.cbor_model.specs.Spelling.{spell}
use Rattle.cbor_model.specs.InMemory.{IsByteString, IsTextString}

-- whether the length of a sequence or a map is declared before its items
pub data Length : Type 0 where
  declared : Length
  undeclared : Length

-- Fields and variants have a number and a name. A struct and a tuple struct declare their lengths,
-- a newtype struct is the document within, and a unit struct is null. What was encoded elsewhere is
-- an item, which stays as it is.
mutual
  pub data Doc : Type 0 where
    null : Doc
    bool : Bool → Doc
    integer : ℤ → Doc
    float : FloatWidth → ℕ → Doc
    bytes : List ℕ → Doc
    text : List ℕ → Doc
    sequence : Length → Docs → Doc
    mapping : Length → DocPairs → Doc
    structure : Fields → Doc
    unit_variant : ℕ → List ℕ → Doc
    newtype_variant : ℕ → List ℕ → Doc → Doc
    tuple_variant : ℕ → List ℕ → Docs → Doc
    struct_variant : ℕ → List ℕ → Fields → Doc
    tagged : ℕ → Doc → Doc
    encoded : Raw → Doc

  pub data Docs : Type 0 where
    no_docs : Docs
    doc : Doc → Docs → Docs

  pub data DocPairs : Type 0 where
    no_doc_pairs : DocPairs
    doc_pair : Doc → Doc → DocPairs → DocPairs

  -- the number of a field, its name, and what it holds
  pub data Fields : Type 0 where
    no_fields : Fields
    field : ℕ → List ℕ → Doc → Fields → Fields

-- Each integer in the document is one that CBOR stores.
abbrev mutual
  pub IsStorableDocument : Doc → Type 0
  IsStorableDocument (integer z) = IsStorableInteger z
  IsStorableDocument (sequence l ds) = AreStorableDocuments ds
  IsStorableDocument (mapping l ps) = AreStorableDocumentPairs ps
  IsStorableDocument (structure fs) = AreStorableFields fs
  IsStorableDocument (newtype_variant i n d) = IsStorableDocument d
  IsStorableDocument (tuple_variant i n ds) = AreStorableDocuments ds
  IsStorableDocument (struct_variant i n fs) = AreStorableFields fs
  IsStorableDocument (tagged n d) = IsStorableDocument d
  IsStorableDocument _ = Unit {0}

  pub AreStorableDocuments : Docs → Type 0
  AreStorableDocuments no_docs = Unit {0}
  AreStorableDocuments (doc d ds) = IsStorableDocument d × AreStorableDocuments ds

  pub AreStorableDocumentPairs : DocPairs → Type 0
  AreStorableDocumentPairs no_doc_pairs = Unit {0}
  AreStorableDocumentPairs (doc_pair k v ps) =
      IsStorableDocument k × IsStorableDocument v × AreStorableDocumentPairs ps

  pub AreStorableFields : Fields → Type 0
  AreStorableFields no_fields = Unit {0}
  AreStorableFields (field i n d fs) = IsStorableDocument d × AreStorableFields fs

abbrev pub doc_count : Docs → ℕ
doc_count no_docs = 0
doc_count (doc d ds) = suc (doc_count ds)

abbrev pub doc_pair_count : DocPairs → ℕ
doc_pair_count no_doc_pairs = 0
doc_pair_count (doc_pair k v ps) = suc (doc_pair_count ps)

abbrev pub field_count : Fields → ℕ
field_count no_fields = 0
field_count (field i n d fs) = suc (field_count fs)

-- a declared count is below 2^64
abbrev pub FitsCount : Length → ℕ → Type 0
FitsCount declared n = n < 2 ^ 64
FitsCount undeclared n = Unit {0}

-- Lengths, declared counts and the numbers of tags, fields and variants are below 2^64, a float's
-- bits fit its width, strings hold bytes, and texts and names are UTF-8. An item that was encoded
-- elsewhere is well formed, with texts that are UTF-8. The document of what a program holds always
-- is in range.
abbrev mutual
  pub IsDocumentInRange : Doc → Type 0
  IsDocumentInRange (float w bits) = bits < float_limit w
  IsDocumentInRange (bytes b) = IsByteString b
  IsDocumentInRange (text b) = IsTextString b
  IsDocumentInRange (sequence l ds) = FitsCount l (doc_count ds) × AreDocumentsInRange ds
  IsDocumentInRange (mapping l ps) = FitsCount l (doc_pair_count ps) × AreDocumentPairsInRange ps
  IsDocumentInRange (structure fs) = (field_count fs < 2 ^ 64) × AreFieldsInRange fs
  IsDocumentInRange (unit_variant i n) = (i < 2 ^ 64) × IsTextString n
  IsDocumentInRange (newtype_variant i n d) =
      (i < 2 ^ 64) × IsTextString n × IsDocumentInRange d
  IsDocumentInRange (tuple_variant i n ds) =
      (i < 2 ^ 64) × IsTextString n × (suc (doc_count ds) < 2 ^ 64) × AreDocumentsInRange ds
  IsDocumentInRange (struct_variant i n fs) =
      (i < 2 ^ 64) × IsTextString n × (field_count fs < 2 ^ 64) × AreFieldsInRange fs
  IsDocumentInRange (tagged n d) = (n < 2 ^ 64) × IsDocumentInRange d
  IsDocumentInRange (encoded r) = IsWellFormed r × EachText IsUtf8 r
  IsDocumentInRange _ = Unit {0}

  pub AreDocumentsInRange : Docs → Type 0
  AreDocumentsInRange no_docs = Unit {0}
  AreDocumentsInRange (doc d ds) = IsDocumentInRange d × AreDocumentsInRange ds

  pub AreDocumentPairsInRange : DocPairs → Type 0
  AreDocumentPairsInRange no_doc_pairs = Unit {0}
  AreDocumentPairsInRange (doc_pair k v ps) =
      IsDocumentInRange k × IsDocumentInRange v × AreDocumentPairsInRange ps

  pub AreFieldsInRange : Fields → Type 0
  AreFieldsInRange no_fields = Unit {0}
  AreFieldsInRange (field i n d fs) =
      (i < 2 ^ 64) × IsTextString n × IsDocumentInRange d × AreFieldsInRange fs

-- the length of an array or a map with this many items
abbrev pub length_of : Length → ℕ → raw.Length
length_of declared n = definite (least n)
length_of undeclared n = indefinite

abbrev pub array_of : Length → Raws → Raw
array_of l rs = raw.array (length_of l (count rs)) rs

abbrev pub map_of : Length → RawPairs → Raw
map_of l ps = raw.map (length_of l (pair_count ps)) ps

abbrev pub name_of : List ℕ → Raw
name_of name = raw.text (chunk_of name)

-- a field or a variant: its name, or its number where the format is packed
abbrev pub identifier : Bool → ℕ → List ℕ → Raw
identifier false number name = name_of name
identifier true number name = raw.unsigned (least number) number

-- A variant that holds something: the map {key: content}, or in the legacy form the array of its
-- identifier and its parts.
abbrev pub variant_of : Bool → Raw → Raw → Raw → Raws → Raw
variant_of false key content id parts = map_of declared (raw_pair key content no_raw_pairs)
variant_of true key content id parts = array_of declared (raw.raw id parts)

-- The raw item: least widths, and definite where the length is declared, else indefinite. A struct
-- variant alone has its number as the key of the map form where the format is packed. An item that
-- was encoded elsewhere is that item.
unfoldable mutual
  pub raw_of : Doc → Bool → Bool → Raw
  raw_of null packed legacy = raw.simple null_item
  raw_of (bool b) packed legacy = raw.simple (canonical_bool b)
  raw_of (integer z) packed legacy = canonical_integer z
  raw_of (float w bits) packed legacy = raw.float w bits
  raw_of (bytes b) packed legacy = raw.bytes (chunk_of b)
  raw_of (text b) packed legacy = raw.text (chunk_of b)
  raw_of (sequence l ds) packed legacy = array_of l (raws_of ds packed legacy)
  raw_of (mapping l ps) packed legacy = map_of l (raw_pairs_of ps packed legacy)
  raw_of (structure fs) packed legacy = map_of declared (raw_fields_of fs packed legacy)
  raw_of (unit_variant i n) packed legacy = identifier packed i n
  raw_of (newtype_variant i n d) packed legacy =
      variant_of legacy (name_of n) (raw_of d packed legacy) (identifier packed i n) (raw.raw (raw_of d packed legacy) no_raws)
  raw_of (tuple_variant i n ds) packed legacy =
      variant_of legacy (name_of n) (array_of declared (raws_of ds packed legacy)) (identifier packed i n) (raws_of ds packed legacy)
  raw_of (struct_variant i n fs) packed legacy =
      variant_of legacy (identifier packed i n) (map_of declared (raw_fields_of fs packed legacy))
      (identifier packed i n) (raw.raw (map_of declared (raw_fields_of fs packed legacy)) no_raws)
  raw_of (tagged n d) packed legacy = raw.tag (least n) n (raw_of d packed legacy)
  raw_of (encoded r) packed legacy = r

  pub raws_of : Docs → Bool → Bool → Raws
  raws_of no_docs packed legacy = no_raws
  raws_of (doc d ds) packed legacy = raw.raw (raw_of d packed legacy) (raws_of ds packed legacy)

  pub raw_pairs_of : DocPairs → Bool → Bool → RawPairs
  raw_pairs_of no_doc_pairs packed legacy = no_raw_pairs
  raw_pairs_of (doc_pair k v ps) packed legacy =
      raw_pair (raw_of k packed legacy) (raw_of v packed legacy) (raw_pairs_of ps packed legacy)

  pub raw_fields_of : Fields → Bool → Bool → RawPairs
  raw_fields_of no_fields packed legacy = no_raw_pairs
  raw_fields_of (field i n d fs) packed legacy =
      raw_pair (identifier packed i n) (raw_of d packed legacy) (raw_fields_of fs packed legacy)

-- The bytes of a document, under the settings `packed` and `legacy`.
unfoldable pub document_bytes : Doc → Bool → Bool → List ℕ
document_bytes d packed legacy = spell (raw_of d packed legacy)

-- The document of a value: each length is declared.
unfoldable mutual
  pub document_of : Val → Doc
  document_of plain.null = null
  document_of (plain.bool b) = bool b
  document_of (plain.integer z) = integer z
  document_of (plain.float w bits) = float w bits
  document_of (plain.bytes b) = bytes b
  document_of (plain.text b) = text b
  document_of (plain.array vs) = sequence declared (documents_of vs)
  document_of (plain.map ps) = mapping declared (document_pairs_of ps)
  document_of (plain.tag n v) = tagged n (document_of v)

  pub documents_of : Vals → Docs
  documents_of no_vals = no_docs
  documents_of (val v vs) = doc (document_of v) (documents_of vs)

  pub document_pairs_of : Pairs → DocPairs
  document_pairs_of no_pairs = no_doc_pairs
  document_pairs_of (pair k v ps) = doc_pair (document_of k) (document_of v) (document_pairs_of ps)

-- The bytes of a value's document are its canonical spelling, whatever the settings.
abbrev pub DocumentIsCanonical : Val → Type 0
DocumentIsCanonical v =
    (packed legacy : Bool) → document_bytes (document_of v) packed legacy ≡ canon v

-- ---- the documents of lists

abbrev pub docs : {A : Type 0} → (A → Doc) → List A → Docs
docs document [] = no_docs
docs document (x ∷ xs) = doc (document x) (docs document xs)

abbrev pub doc_pairs : {K V : Type 0} → (K → Doc) → (V → Doc) → List (K × V) → DocPairs
doc_pairs key value [] = no_doc_pairs
doc_pairs key value (e ∷ es) = doc_pair (key e.0) (value e.1) (doc_pairs key value es)

-- ---- examples

-- 55799(true)
described : document_bytes (tagged 55799 (bool true)) false false ≡ 0xd9 ∷ 0xd9 ∷ 0xf7 ∷ 0xf5 ∷ []
unfolding document_bytes raw_of spell
described = refl

-- [-5, [_ null]]
open_within : document_bytes (sequence declared (doc (integer (negsuc 4)) (doc (sequence undeclared (doc null no_docs)) no_docs))) false false
    ≡ 0x82 ∷ 0x24 ∷ 0x9f ∷ 0xf6 ∷ 0xff ∷ []
unfolding document_bytes raw_of spell
open_within = refl

-- [1], whose number was encoded in two bytes
kept_width : document_bytes (sequence declared (doc (encoded (raw.unsigned one_byte 1)) no_docs)) false false
    ≡ 0x81 ∷ 0x18 ∷ 0x01 ∷ []
unfolding document_bytes raw_of spell
kept_width = refl

-- a struct of the fields a and c, of which the field b between them is left out
abbrev skipping : Doc
skipping = structure (field 0 (codes "a") (bool true) (field 2 (codes "c") null no_fields))

-- {"a": true, "c": null}
skipping_named : document_bytes skipping false false ≡ 0xa2 ∷ 0x61 ∷ 0x61 ∷ 0xf5 ∷ 0x61 ∷ 0x63 ∷ 0xf6 ∷ []
unfolding document_bytes raw_of spell
skipping_named = refl

-- {0: true, 2: null}
skipping_packed : document_bytes skipping true false ≡ 0xa2 ∷ 0x00 ∷ 0xf5 ∷ 0x02 ∷ 0xf6 ∷ []
unfolding document_bytes raw_of spell
skipping_packed = refl

-- the newtype variant number 1, N(true)
abbrev newtype : Doc
newtype = newtype_variant 1 (codes "N") (bool true)

-- {"N": true}, packed or not
newtype_packed : document_bytes newtype true false ≡ 0xa1 ∷ 0x61 ∷ 0x4e ∷ 0xf5 ∷ []
unfolding document_bytes raw_of spell
newtype_packed = refl

-- ["N", true]
newtype_legacy : document_bytes newtype false true ≡ 0x82 ∷ 0x61 ∷ 0x4e ∷ 0xf5 ∷ []
unfolding document_bytes raw_of spell
newtype_legacy = refl

-- the struct variant number 3, P { x: 5 }
abbrev point : Doc
point = struct_variant 3 (codes "P") (field 0 (codes "x") (integer (pos 5)) no_fields)

-- {3: {0: 5}}
point_packed : document_bytes point true false ≡ 0xa1 ∷ 0x03 ∷ 0xa1 ∷ 0x00 ∷ 0x05 ∷ []
unfolding document_bytes raw_of spell
point_packed = refl

-- [3, {0: 5}]
point_packed_legacy : document_bytes point true true ≡ 0x82 ∷ 0x03 ∷ 0xa1 ∷ 0x00 ∷ 0x05 ∷ []
unfolding document_bytes raw_of spell
point_packed_legacy = refl

-- the tuple variant number 2, T(true, null)
abbrev flag : Doc
flag = tuple_variant 2 (codes "T") (doc (bool true) (doc null no_docs))

-- {"T": [true, null]}
flag_named : document_bytes flag false false ≡ 0xa1 ∷ 0x61 ∷ 0x54 ∷ 0x82 ∷ 0xf5 ∷ 0xf6 ∷ []
unfolding document_bytes raw_of spell
flag_named = refl

-- ["T", true, null]
flag_legacy : document_bytes flag false true ≡ 0x83 ∷ 0x61 ∷ 0x54 ∷ 0xf5 ∷ 0xf6 ∷ []
unfolding document_bytes raw_of spell
flag_legacy = refl
