-- Records, what they are read from, and what is written of them.
use Rattle.std.specs.Prelude.{◌≡◌, ℕ, Bool, false, List, [], ◌∷◌, String, Vec, map, codes, pos}
use Rattle.std.specs.String.{string_bytes}
use Rattle.std.specs.declared.alloc.Global.{Global}
use Rattle.serde_cbor.specs.Arrays.{AsArray, AreRead}
use Rattle.serde_cbor.specs.Document as document
use Rattle.serde_cbor.specs.Document.{Doc, structure, sequence, declared, text, integer, bool, no_fields}
use Rattle.serde_cbor.specs.Formats.{all_formats}
use Rattle.serde_cbor.specs.Document.{document_bytes, docs}
use Rattle.serde_cbor.specs.Raw.{Raw}
use Rattle.serde_cbor.specs.Readable.{SpellsAs, PassesTags, IsFromZero, IsText, IsBool}
use Rattle.serde_cbor.specs.Structs.{FieldOf, IsStruct, field}
use Rattle.cbor_bench.specs.declared.record.TheConstants.{NAMES}
use Rattle.cbor_bench.specs.declared.record.Record.{Record}

-- the names of a record's fields, in their order
abbrev pub names : List (List ℕ)
names = map (λ n. n.now) NAMES.now

-- a number of 32 bits
abbrev pub IsNumber : Raw → ℕ → Type 0
IsNumber = PassesTags (IsFromZero 4294967295)

-- a text, or a byte string that is UTF-8
abbrev pub IsWord : Raw → String Global → Type 0
IsWord = PassesTags (λ r s. IsText r (string_bytes s))

abbrev pub AreWords : Raw → Vec (String Global) Global → Type 0
AreWords = PassesTags (AsArray (λ rs v. AreRead IsWord rs v.items))

-- the values of a record's fields, in the order of their names: four, and the two after them
abbrev pub Values : Type 0
Values = ℕ × String Global × String Global × ℕ × (Vec (String Global) Global × (Bool × Unit {0}))

abbrev pub values : Record → Values
values r = (r.id, r.name, r.email, r.created, (r.tags, (r.active, tt)))

-- as what each of them is read
abbrev pub fields : List (FieldOf Values)
fields =
    field IsNumber (λ v. v.0) ∷
    field IsWord (λ v. v.1) ∷
    field IsWord (λ v. v.2) ∷
    field IsNumber (λ v. v.3) ∷
    field AreWords (λ v. v.4.0) ∷
    field (PassesTags IsBool) (λ v. v.4.1.0) ∷
    []

-- a map of these fields, in any order, which have the record's values
abbrev pub IsRecord : Raw → Record → Type 0
IsRecord r x = IsStruct names fields r (values x)

-- an array of records
abbrev pub AreRecords : Raw → Vec Record Global → Type 0
AreRecords = PassesTags (AsArray (λ rs v. AreRead IsRecord rs v.items))

abbrev pub text_of : String Global → Doc
text_of s = text (string_bytes s)

-- a record's document
abbrev pub record_document : Record → Doc
record_document r = structure
    (document.field 0 (codes "id") (integer (pos r.id))
    (document.field 1 (codes "name") (text_of r.name)
    (document.field 2 (codes "email") (text_of r.email)
    (document.field 3 (codes "created") (integer (pos r.created))
    (document.field 4 (codes "tags") (sequence declared (docs text_of r.tags.items))
    (document.field 5 (codes "active") (bool r.active)
    no_fields))))))

-- the bytes spell these records, in names or numbers
abbrev pub SpellsTheRecords : List ℕ → Vec Record Global → Type 0
SpellsTheRecords = SpellsAs all_formats AreRecords

-- the bytes spell an array that is read as records
abbrev pub SpellsRecords : List ℕ → Type 0
SpellsRecords bytes = (records : Vec Record Global) × SpellsTheRecords bytes records

-- these are the bytes of a document of the records that the bytes spell
abbrev pub AreRewritten : (bytes written : List ℕ) → Type 0
AreRewritten bytes written = (records : Vec Record Global) × SpellsTheRecords bytes records
    × (written ≡ document_bytes (sequence declared (docs record_document records.items)) false false)
