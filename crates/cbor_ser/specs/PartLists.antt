-- The names of fields and variants, and fields that may be left out.
use Rattle.std.specs.Prelude.{ℕ, zero, suc, List, [], ◌∷◌, Option, Some, None}
use Rattle.cbor_model.specs.Document.{Doc, Fields, field}

-- the first of these names, and the others
abbrev pub first_name : List (List ℕ) → List ℕ
first_name [] = []
first_name (n ∷ names) = n

abbrev pub other_names : List (List ℕ) → List (List ℕ)
other_names [] = []
other_names (n ∷ names) = names

-- the name in this place
abbrev pub name_in : List (List ℕ) → ℕ → List ℕ
name_in names zero = first_name names
name_in names (suc i) = name_in (other_names names) i

-- the document of what may be absent
abbrev pub document_if : {A : Type 0} → (A → Doc) → Option A → Option Doc
document_if document None = None
document_if document (Some x) = Some (document x)

-- a field, where it has a document, and those after it
abbrev pub field_if : ℕ → List ℕ → Option Doc → Fields → Fields
field_if i n None others = others
field_if i n (Some d) others = field i n d others
