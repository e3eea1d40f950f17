-- The documents of the standard library's types, and of what identifies a field or a variant.
use Rattle.std.specs.Prelude.{ℕ, List, Bool, true, false, pos, Option, Some, None}
use Rattle.cbor_model.specs.Document.{Doc, null, integer, text}

-- null, or the document of what is there
abbrev pub option_document : {A : Type 0} → (A → Doc) → Option A → Doc
option_document document None = null
option_document document (Some x) = document x

-- a name, or the number in its place
abbrev pub key_document : Bool → ℕ → List ℕ → Doc
key_document false number name = text name
key_document true number name = integer (pos number)
