-- What the steps of a run do.
use Rattle.std.specs.Prelude.{◌≡◌, ◌≢◌, ℕ, ◌+◌, ◌<◌, List, [], ◌∷◌, ◌++◌, length, All, Option, Some}
use Rattle.std.specs.Prelude.{None, codes}
use Rattle.std.specs.Io.KnownBytes.{Consumes, Keeps, IsAtEnd}
use Rattle.cbor_tool.specs.Answer.{Answered, Answers, IsHexOfCanonical, IsRefusalText}
use Rattle.cbor_tool.specs.Answer.{IsAnsweredByRules}
use Rattle.cbor_tool.specs.Answer.{IsStrictRefusalText}
use Rattle.cbor_diagnostic.specs.Notation.{IsNotation, pretty}
use Rattle.serde_cbor.specs.declared.error.ErrorCode.{ErrorCode}
use Rattle.serde_cbor.specs.declared.error.ErrorCode.TheVariants.{Io, OutOfMemory, LengthOutOfRange}
use Rattle.serde_cbor.specs.declared.error.Error.{Error}
use Rattle.serde_cbor.specs.Error.{code_of, offset_of}
use Rattle.cbor_model.specs.Plain.{Val}
use Rattle.cbor_model.specs.Allowed.{limits_of}
use Rattle.cbor_model.specs.Laws.{SpellsValue}
use Rattle.serde_cbor.specs.FirstRefusal.{ReportsFirst}
use Rattle.serde_cbor.specs.Strict.{SpellsCanonically}
use Rattle.serde_cbor.specs.StrictAnswers.{ReportsFirstStrictly}
use Rattle.cbor_tool.specs.declared.program.Mode.{Mode}
use Rattle.cbor_tool.specs.declared.program.Mode.TheVariants.{Lenient, Strict, Diagnose}
use Rattle.cbor_tool.specs.declared.program.Mode.TheVariants.{DiagnosePretty, ByRules}
use Rattle.cbor_tool.specs.declared.program.Preset.{Preset}
use Rattle.cbor_tool.specs.declared.program.Preset.TheVariants.{Deterministic, LengthFirst}
use Rattle.cbor_tool.specs.declared.program.Preset.TheVariants.{Ctap2, Dcbor, UniqueKeys}
use Rattle.serde_cbor.specs.Presets as presets
use Rattle.cbor_rules.specs.declared.settings.Rules.{Rules}
use Rattle.cbor_tool.specs.declared.program.End.{End}
use Rattle.cbor_tool.specs.declared.sequence.Form.{Form}
use Rattle.cbor_tool.specs.declared.sequence.Form.TheVariants.{Canonical, Notation}
use Rattle.cbor_tool.specs.declared.sequence.Form.TheVariants.{PrettyNotation}
use Rattle.cbor_tool.specs.declared.program.End.TheVariants.{Newline, Input}
use Rattle.cbor_tool.specs.Run.{AppendsUpTo, max_offset}

-- ---- reading, where `count` bytes come before and `count'` in all

-- the next byte, or the end
abbrev pub IsNext : Option ℕ → (count count' : ℕ) (reader reader' : Option (List ℕ)) → Type 0
IsNext (Some b) count count' reader reader' = (count < max_offset) × (count' ≡ count + 1)
    × Consumes reader reader' (b ∷ [])
IsNext None count count' reader reader' = (count' ≡ count) × Consumes reader reader' []
    × IsAtEnd reader'

-- no byte of the line ends it
abbrev pub IsInLine : List ℕ → Type 0
IsInLine line = All (λ b. b ≢ 0x0a) line

-- the line, up to what ended it
abbrev pub IsNextLine : End → List ℕ → (count count' : ℕ) (reader reader' : Option (List ℕ))
    → Type 0
IsNextLine Newline line count count' reader reader' = IsInLine line × (count < max_offset)
    × (count' ≡ count + (length line + 1)) × Consumes reader reader' (line ++ 0x0a ∷ [])
IsNextLine Input line count count' reader reader' = IsInLine line × Consumes reader reader' line
    × IsAtEnd reader'

-- the reader failed after some of the line
pub record LosesReader (reader reader' : Option (List ℕ)) : Type 0 where
  pub line : List ℕ
  pub in_line : IsInLine line
  pub consumed : Consumes reader reader' line

-- memory ran out once some bytes of the line were taken
pub record BreaksLine (reader reader' : Option (List ℕ)) : Type 0 where
  pub line : List ℕ
  pub in_line : IsInLine line
  pub begun : line ≢ []
  pub consumed : Consumes reader reader' line

-- one byte too many was taken after some of the line
pub record PassesMax (count : ℕ) (reader reader' : Option (List ℕ)) : Type 0 where
  pub line : List ℕ
  pub past : ℕ
  pub in_line : IsInLine line
  pub sum : count + length line ≡ max_offset
  pub consumed : Consumes reader reader' (line ++ past ∷ [])

abbrev pub StopsReadingBy : ErrorCode → ℕ → (count : ℕ) (reader reader' : Option (List ℕ)) → Type 0
StopsReadingBy (Io fault) offset count reader reader' = (offset ≡ 0) × LosesReader reader reader'
StopsReadingBy OutOfMemory offset count reader reader' = (offset ≡ 0) × BreaksLine reader reader'
StopsReadingBy LengthOutOfRange offset count reader reader' = (offset ≡ max_offset)
    × PassesMax count reader reader'
StopsReadingBy _ offset count reader reader' = ⊥

abbrev pub StopsReading : Error → (count : ℕ) (reader reader' : Option (List ℕ)) → Type 0
StopsReading e = StopsReadingBy (code_of e) (offset_of e)

abbrev pub StopsAtByteBy : ErrorCode → ℕ → (count : ℕ) (reader reader' : Option (List ℕ)) → Type 0
StopsAtByteBy (Io fault) offset count reader reader' = (offset ≡ 0) × Keeps reader reader'
StopsAtByteBy LengthOutOfRange offset count reader reader' = (offset ≡ max_offset)
    × (count ≡ max_offset) × ((past : ℕ) × Consumes reader reader' (past ∷ []))
StopsAtByteBy _ offset count reader reader' = ⊥

abbrev pub StopsAtByte : Error → (count : ℕ) (reader reader' : Option (List ℕ)) → Type 0
StopsAtByte e = StopsAtByteBy (code_of e) (offset_of e)

-- ---- answering

-- the rules of each form
abbrev pub rules_of : Preset → Rules
rules_of Deterministic = presets.deterministic
rules_of LengthFirst = presets.length_first
rules_of Ctap2 = presets.ctap2
rules_of Dcbor = presets.dcbor
rules_of UniqueKeys = presets.unique_keys

-- the bytes spell the value, as it is read in each mode
abbrev pub SpellsIn : Mode → List ℕ → Val → Type 0
SpellsIn Strict = SpellsCanonically
SpellsIn _ = SpellsValue

-- what is shown of a value in each mode
abbrev pub ShowsIn : Mode → Val → List ℕ → Type 0
ShowsIn Diagnose = IsNotation None
ShowsIn DiagnosePretty = IsNotation pretty
ShowsIn _ = IsHexOfCanonical

-- the text of the first refusal that the bytes allow
abbrev pub IsRefusalIn : Mode → List ℕ → List ℕ → Type 0
IsRefusalIn Strict = IsStrictRefusalText
IsRefusalIn _ = IsRefusalText

-- the error reports that refusal
abbrev pub ReportsIn : Mode → List ℕ → Error → Type 0
ReportsIn Strict = ReportsFirstStrictly
ReportsIn _ = ReportsFirst (limits_of None)

-- what is shown in each mode of the value that bytes spell, or why they spell none
abbrev pub shown_in : Mode → Answered
shown_in mode bytes = Answers (SpellsIn mode bytes) (ShowsIn mode) (IsRefusalIn mode bytes)

-- what bytes are answered in each mode
abbrev pub answered_in : Mode → Answered
answered_in (ByRules preset) = IsAnsweredByRules (rules_of preset)
answered_in mode = shown_in mode

abbrev pub StopsAnsweringBy : Answered → ErrorCode → ℕ → List ℕ → (writer writer' : Option (List ℕ))
    → Type 0
StopsAnsweringBy answered (Io fault) offset line writer writer' = (offset ≡ 0)
    × AppendsUpTo answered [] line writer writer'
StopsAnsweringBy answered OutOfMemory offset line writer writer' = (offset ≡ 0)
    × Keeps writer writer'
StopsAnsweringBy answered _ offset line writer writer' = ⊥

-- why the line's answer was not written whole, and how much of it was
abbrev pub StopsAnswering : Answered → Error → List ℕ → (writer writer' : Option (List ℕ)) → Type 0
StopsAnswering answered e = StopsAnsweringBy answered (code_of e) (offset_of e)

-- ---- the words after the program's name

-- the words that choose a mode
abbrev pub words_of : Mode → List (List ℕ)
words_of Lenient = []
words_of Strict = codes "strict" ∷ []
words_of Diagnose = codes "diagnose" ∷ []
words_of DiagnosePretty = codes "diagnose" ∷ codes "--pretty" ∷ []
words_of (ByRules Deterministic) = codes "deterministic" ∷ []
words_of (ByRules LengthFirst) = codes "length-first" ∷ []
words_of (ByRules Ctap2) = codes "ctap2" ∷ []
words_of (ByRules Dcbor) = codes "dcbor" ∷ []
words_of (ByRules UniqueKeys) = codes "unique-keys" ∷ []

-- the mode of these words, or none where they are no mode's
abbrev pub Chooses : List (List ℕ) → Option Mode → Type 0
Chooses words (Some mode) = words ≡ words_of mode
Chooses words None = (mode : Mode) → words ≢ words_of mode

-- the words that choose how a sequence is answered
abbrev pub form_words : Form → List (List ℕ)
form_words Canonical = codes "raw" ∷ []
form_words Notation = codes "diagnose" ∷ codes "raw" ∷ []
form_words PrettyNotation = codes "diagnose" ∷ codes "--pretty" ∷ codes "raw" ∷ []

-- the form of these words, or none where they are no form's
abbrev pub ChoosesForm : List (List ℕ) → Option Form → Type 0
ChoosesForm words (Some form) = words ≡ form_words form
ChoosesForm words None = (form : Form) → words ≢ form_words form
