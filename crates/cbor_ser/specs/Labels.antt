-- Structs whose keys are integers, their labels: one for each field, whatever is left out.
use Rattle.std.specs.Prelude.{◌≡◌, ℕ, ℤ, zero, suc, pos, negsuc, List, [], ◌∷◌, refl, codes}
use Rattle.std.specs.Prelude.{false, true, Option, Some, None}
use Rattle.cbor_model.specs.Spelling.{spell}
use Rattle.cbor_model.specs.Document.{Doc, DocPairs, no_doc_pairs, doc_pair, Fields, no_fields, field}
use Rattle.cbor_model.specs.Document.{integer, bytes, mapping, declared, structure}
use Rattle.cbor_model.specs.Document.{document_bytes, raw_of}
use Rattle.cbor_model.specs.Parts as part
use Rattle.cbor_model.specs.Parts.{Part, item, field_part, in_turn, pairs, ending}

-- the first of these labels, and the others
abbrev pub first_label : List ℤ → ℤ
first_label [] = pos 0
first_label (l ∷ labels) = l

abbrev pub other_labels : List ℤ → List ℤ
other_labels [] = []
other_labels (l ∷ labels) = labels

-- the label in this place
abbrev pub label_in : List ℤ → ℕ → ℤ
label_in labels zero = first_label labels
label_in labels (suc i) = label_in (other_labels labels) i

-- each field by its label
abbrev pub labelled_pairs : List ℤ → Fields → DocPairs
labelled_pairs labels no_fields = no_doc_pairs
labelled_pairs labels (field i n d fs) =
    doc_pair (integer (label_in labels i)) d (labelled_pairs labels fs)

-- A struct whose fields have these labels: a map of them, packed or not.
abbrev pub labelled : List ℤ → Fields → Doc
labelled labels fs = mapping declared (labelled_pairs labels fs)

-- ---- by names, or where there are labels, by these

-- a field
abbrev pub keyed_part : Option (List ℤ) → ℕ → List ℕ → Doc → Part
keyed_part None i n d = field_part i n d
keyed_part (Some labels) i n d = in_turn (item (integer (label_in labels i))) (item d)

-- the fields of a struct, behind its head
abbrev pub keyed_fields : Option (List ℤ) → Fields → Part
keyed_fields None fs = part.fields fs
keyed_fields (Some labels) fs = pairs (labelled_pairs labels fs) (ending (Some 0))

-- a struct
abbrev pub keyed_document : Option (List ℤ) → Fields → Doc
keyed_document None fs = structure fs
keyed_document (Some labels) fs = labelled labels fs

-- ---- examples

-- what a key holds, its number, its identifier, and its algorithm (RFC 9052, section 7)
abbrev key_labels : List ℤ
key_labels = negsuc 0 ∷ pos 1 ∷ pos 2 ∷ pos 3 ∷ []

abbrev key_bytes : List ℕ
key_bytes = 0x23 ∷ 0x1f ∷ 0x4c ∷ 0x4d ∷ 0x4d ∷ 0x30 ∷ 0x51 ∷ 0xfd
    ∷ 0xc2 ∷ 0xec ∷ 0x0a ∷ 0x38 ∷ 0x51 ∷ 0xd5 ∷ 0xb3 ∷ 0x83 ∷ []

-- {-1: h'231f4c4d4d3051fdc2ec0a3851d5b383', 1: 4, 2: 'Symmetric128', 3: 10} (RFC 8392, section A.2.1)
abbrev symmetric_key : Doc
symmetric_key = labelled key_labels (field 0 (codes "k") (bytes key_bytes)
    (field 1 (codes "kty") (integer (pos 4))
    (field 2 (codes "kid") (bytes (codes "Symmetric128"))
    (field 3 (codes "alg") (integer (pos 10)) no_fields))))

symmetric : document_bytes symmetric_key false false
    ≡ 0xa4 ∷ 0x20 ∷ 0x50 ∷ 0x23 ∷ 0x1f ∷ 0x4c ∷ 0x4d ∷ 0x4d ∷ 0x30 ∷ 0x51 ∷ 0xfd
    ∷ 0xc2 ∷ 0xec ∷ 0x0a ∷ 0x38 ∷ 0x51 ∷ 0xd5 ∷ 0xb3 ∷ 0x83 ∷ 0x01 ∷ 0x04 ∷ 0x02 ∷ 0x4c
    ∷ 0x53 ∷ 0x79 ∷ 0x6d ∷ 0x6d ∷ 0x65 ∷ 0x74 ∷ 0x72 ∷ 0x69 ∷ 0x63 ∷ 0x31 ∷ 0x32 ∷ 0x38
    ∷ 0x03 ∷ 0x0a ∷ []
unfolding document_bytes raw_of spell
symmetric = refl

symmetric_packed : document_bytes symmetric_key true false ≡ document_bytes symmetric_key false false
unfolding document_bytes raw_of spell
symmetric_packed = refl

-- {1: 4, 3: 10}, of which the fields between and before are left out
skipping : document_bytes (labelled key_labels (field 1 (codes "kty") (integer (pos 4))
    (field 3 (codes "alg") (integer (pos 10)) no_fields))) false false
    ≡ 0xa2 ∷ 0x01 ∷ 0x04 ∷ 0x03 ∷ 0x0a ∷ []
unfolding document_bytes raw_of spell
skipping = refl
