-- The parts of a document, as a serializer's calls write them one after the other.
use Rattle.std.specs.Prelude.{ℕ, suc, ◌^◌, ◌<◌, List, [], ◌∷◌, ◌++◌, Bool, true, false}
use Rattle.std.specs.Prelude.{Option, Some, None}
use Rattle.cbor_model.specs.Head.{short}
use Rattle.cbor_model.specs.InMemory.{IsTextString}
use Rattle.cbor_model.specs.Spelling.{spell, break}
use Rattle.cbor_model.specs.Document.{Doc, Docs, DocPairs, Fields, Length, declared, undeclared}
use Rattle.cbor_model.specs.Document.{sequence, mapping, structure, newtype_variant, tuple_variant}
use Rattle.cbor_model.specs.Document.{struct_variant, tagged, no_docs, doc, no_doc_pairs, doc_pair}
use Rattle.cbor_model.specs.Document.{no_fields, field, identifier, name_of, document_bytes}
use Rattle.cbor_model.specs.Document.{IsStorableDocument, IsDocumentInRange, doc_count}
use Rattle.cbor_model.specs.Document.{doc_pair_count, field_count}

-- What one call appends. `item` is a whole document, `key` the name or the number of a field.
pub data Part : Type 0 where
  nothing : Part
  item : Doc → Part
  array_head : Option ℕ → Part
  map_head : Option ℕ → Part
  ending : Option ℕ → Part
  tag_head : ℕ → Part
  newtype_head : ℕ → List ℕ → Part
  tuple_head : ℕ → List ℕ → ℕ → Part
  struct_head : ℕ → List ℕ → Part
  field_part : ℕ → List ℕ → Doc → Part
  in_turn : Part → Part → Part

-- What precedes the parts of a variant (of a struct variant, the map of its fields), by the settings `packed` and `legacy`
abbrev pub newtype_start : ℕ → List ℕ → Bool → Bool → List ℕ
newtype_start number name packed false = short 5 1 ++ spell (name_of name)
newtype_start number name packed true = short 4 2 ++ spell (identifier packed number name)

abbrev pub tuple_start : ℕ → List ℕ → ℕ → Bool → Bool → List ℕ
tuple_start number name n packed false = short 5 1 ++ (spell (name_of name) ++ short 4 n)
tuple_start number name n packed true = short 4 (suc n) ++ spell (identifier packed number name)

abbrev pub struct_start : ℕ → List ℕ → Bool → Bool → List ℕ
struct_start number name packed false = short 5 1 ++ spell (identifier packed number name)
struct_start number name packed true = short 4 2 ++ spell (identifier packed number name)

-- a count that is declared, or None
abbrev pub array_start : Option ℕ → List ℕ
array_start (Some n) = short 4 n
array_start None = 0x9f ∷ []

abbrev pub map_start : Option ℕ → List ℕ
map_start (Some n) = short 5 n
map_start None = 0xbf ∷ []

-- what ends an array or a map, of which so many are left of a declared count
abbrev pub end_of : Option ℕ → List ℕ
end_of (Some left) = []
end_of None = break

-- The bytes of a part, by the settings `packed` and `legacy`.
unfoldable pub part_bytes : Part → Bool → Bool → List ℕ
part_bytes nothing packed legacy = []
part_bytes (item d) packed legacy = document_bytes d packed legacy
part_bytes (array_head n) packed legacy = array_start n
part_bytes (map_head n) packed legacy = map_start n
part_bytes (ending left) packed legacy = end_of left
part_bytes (tag_head n) packed legacy = short 6 n
part_bytes (newtype_head i n) packed legacy = newtype_start i n packed legacy
part_bytes (tuple_head i n len) packed legacy = tuple_start i n len packed legacy
part_bytes (struct_head i n) packed legacy = struct_start i n packed legacy
part_bytes (field_part i n d) packed legacy =
    spell (identifier packed i n) ++ document_bytes d packed legacy
part_bytes (in_turn p q) packed legacy = part_bytes p packed legacy ++ part_bytes q packed legacy

-- Each integer in the part is one that CBOR stores.
abbrev pub IsStorablePart : Part → Type 0
IsStorablePart (item d) = IsStorableDocument d
IsStorablePart (field_part i n d) = IsStorableDocument d
IsStorablePart (in_turn p q) = IsStorablePart p × IsStorablePart q
IsStorablePart _ = Unit {0}

-- The numbers that the part says fit, and its names are texts, as those of its document are.
abbrev pub IsPartInRange : Part → Type 0
IsPartInRange (item d) = IsDocumentInRange d
IsPartInRange (array_head (Some n)) = n < 2 ^ 64
IsPartInRange (map_head (Some n)) = n < 2 ^ 64
IsPartInRange (tag_head n) = n < 2 ^ 64
IsPartInRange (newtype_head i n) = (i < 2 ^ 64) × IsTextString n
IsPartInRange (tuple_head i n len) = (i < 2 ^ 64) × IsTextString n × (suc len < 2 ^ 64)
IsPartInRange (struct_head i n) = (i < 2 ^ 64) × IsTextString n
IsPartInRange (field_part i n d) = (i < 2 ^ 64) × IsTextString n × IsDocumentInRange d
IsPartInRange (in_turn p q) = IsPartInRange p × IsPartInRange q
IsPartInRange _ = Unit {0}

-- the items of a sequence, the keys and values of a map, the fields of a struct, and then its end
abbrev pub items : Docs → Part → Part
items no_docs end = end
items (doc d ds) end = in_turn (item d) (items ds end)

abbrev pub pairs : DocPairs → Part → Part
pairs no_doc_pairs end = end
pairs (doc_pair k v ps) end = in_turn (item k) (in_turn (item v) (pairs ps end))

abbrev pub fields : Fields → Part
fields no_fields = nothing
fields (field i n d fs) = in_turn (field_part i n d) (fields fs)

-- what is said of a count, and of what is left of it at the end
abbrev pub said : Length → ℕ → Option ℕ
said declared n = Some n
said undeclared n = None

-- The parts of a document: a head, what it holds, and its end. Others have none but themselves.
abbrev pub parts : Doc → Part
parts (sequence l ds) = in_turn (array_head (said l (doc_count ds))) (items ds (ending (said l 0)))
parts (mapping l ps) = in_turn (map_head (said l (doc_pair_count ps))) (pairs ps (ending (said l 0)))
parts (structure fs) = in_turn (map_head (Some (field_count fs))) (fields fs)
parts (newtype_variant i n d) = in_turn (newtype_head i n) (item d)
parts (tuple_variant i n ds) = in_turn (tuple_head i n (doc_count ds)) (items ds (ending (Some 0)))
parts (struct_variant i n fs) =
    in_turn (in_turn (struct_head i n) (map_head (Some (field_count fs)))) (fields fs)
parts (tagged n d) = in_turn (tag_head n) (item d)
parts d = item d
