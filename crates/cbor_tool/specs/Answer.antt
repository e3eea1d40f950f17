-- What the program answers to the lines that it reads.
use Rattle.std.specs.Prelude.{◌≡◌, ℕ, ◌+◌, ◌/◌, ◌%◌, List, [], ◌∷◌, ◌++◌, map, flat_map, codes}
use Rattle.std.specs.Prelude.{None, nat_lt, ◌==◌, if◌then◌else◌, refl}
use Rattle.std.specs.Char.{to_ascii_lowercase}
use Rattle.cbor_model.specs.Raw.{AreBytes}
use Rattle.cbor_model.specs.Plain.{Val}
use Rattle.cbor_model.specs.Canonical.{canon}
use Rattle.cbor_model.specs.Laws.{SpellsValue}
use Rattle.cbor_model.specs.Refusal.{Refusal, words, at_offset}
use Rattle.cbor_model.specs.Allowed.{limits_of, IsFirstRefusal}
use Rattle.serde_cbor.specs.Strict.{SpellsCanonically}
use Rattle.serde_cbor.specs.StrictRefusals.{StrictRefusal, ordinary, not_canonical}
use Rattle.serde_cbor.specs.StrictRefusals.{IsFirstStrictRefusal}
use Rattle.serde_cbor.specs.Rules.{Keeps, only}
use Rattle.serde_cbor.specs.Answers.{SpellsDeparting}
use Rattle.cbor_rules.specs.Texts.{departure_text}
use Rattle.cbor_rules.specs.declared.answers.Departure.{Departure}
use Rattle.cbor_rules.specs.declared.settings.Rules.{Rules}

-- ---- lines

-- a line's first byte, before the lines that follow without it
abbrev pub begin_line : ℕ → List (List ℕ) → List (List ℕ)
begin_line b [] = (b ∷ []) ∷ []
begin_line b (line ∷ lines) = (b ∷ line) ∷ lines

-- A line ends with the byte 0a. A last line without it counts unless it is empty.
abbrev pub lines : List ℕ → List (List ℕ)
lines [] = []
lines (b ∷ bs) = if b == 0x0a then [] ∷ lines bs else begin_line b (lines bs)

-- ---- hexadecimal

abbrev pub hex_digit : ℕ → ℕ
hex_digit n = if nat_lt n 10 then 48 + n else 87 + n

-- two digits a byte, in lower case
abbrev pub hex : List ℕ → List ℕ
hex bytes = flat_map (λ b. hex_digit (b / 16) ∷ hex_digit (b % 16) ∷ []) bytes

-- the line is the hexadecimal of these bytes, in digits of either case
pub record IsHexOf (line bytes : List ℕ) : Type 0 where
  pub are_bytes : AreBytes bytes
  pub digits : map to_ascii_lowercase line ≡ hex bytes

-- ---- what bytes are answered

-- The text of the first refusal that these bytes allow: its words, and its offset where it isn't 0.
pub record IsRefusalText (bytes text : List ℕ) : Type 0 where
  pub why : Refusal
  pub offset : ℕ
  pub first : IsFirstRefusal (limits_of None) bytes why offset
  pub is : text ≡ words why ++ at_offset offset

-- What is shown of the value that bytes spell, or why they spell none.
pub data Answers (Spells : Val → Type 0) (Shows : Val → List ℕ → Type 0)
    (IsRefusal : List ℕ → Type 0) (answer : List ℕ) : Type 0 where
  shown : (v : Val) → Spells v → Shows v answer → Answers Spells Shows IsRefusal answer
  refused : (text : List ℕ) → ((v : Val) → Spells v → ⊥) → IsRefusal text
      → answer ≡ codes "error: " ++ text → Answers Spells Shows IsRefusal answer

-- the canonical spelling, in hexadecimal
abbrev pub IsHexOfCanonical : Val → List ℕ → Type 0
IsHexOfCanonical v answer = answer ≡ hex (canon v)

-- The canonical spelling of the value that the bytes spell, or why they spell none.
abbrev pub IsAnswered : List ℕ → List ℕ → Type 0
IsAnswered bytes = Answers (SpellsValue bytes) IsHexOfCanonical (IsRefusalText bytes)

-- ---- what they are answered strictly

-- the words of a refusal
abbrev pub strict_words : StrictRefusal → List ℕ
strict_words (ordinary why) = words why
strict_words not_canonical = codes "not canonical"

-- the text of the first refusal that these bytes allow
pub record IsStrictRefusalText (bytes text : List ℕ) : Type 0 where
  pub why : StrictRefusal
  pub offset : ℕ
  pub first : IsFirstStrictRefusal bytes why offset
  pub is : text ≡ strict_words why ++ at_offset offset

-- The bytes themselves, which are a canonical spelling, or why they aren't one.
abbrev pub IsAnsweredStrictly : List ℕ → List ℕ → Type 0
IsAnsweredStrictly bytes =
    Answers (SpellsCanonically bytes) IsHexOfCanonical (IsStrictRefusalText bytes)

-- ---- what they are answered by rules

-- The bytes themselves, which encode an acceptable item that keeps the rules; or its first departure;
-- or why they encode none.
pub data IsAnsweredByRules (rules : Rules) (bytes answer : List ℕ) : Type 0 where
  kept : (v : Val) (spelt : SpellsValue bytes v) → Keeps (only rules) spelt.item
      → answer ≡ hex bytes → IsAnsweredByRules rules bytes answer
  departing : (d : Departure) → SpellsDeparting (only rules) bytes d
      → answer ≡ codes "error: " ++ departure_text d → IsAnsweredByRules rules bytes answer
  unread : (text : List ℕ) → ((v : Val) → SpellsValue bytes v → ⊥) → IsRefusalText bytes text
      → answer ≡ codes "error: " ++ text → IsAnsweredByRules rules bytes answer

-- ---- answers to lines

-- what bytes are answered
abbrev pub Answered : Type 1
Answered = List ℕ → List ℕ → Type 0

-- The answer to a line is that to the bytes of which it is the hexadecimal.
pub data IsAnswer (answered : Answered) (line answer : List ℕ) : Type 0 where
  hexadecimal : (bytes : List ℕ) → IsHexOf line bytes → answered bytes answer
      → IsAnswer answered line answer
  not_hexadecimal : ((bytes : List ℕ) → IsHexOf line bytes → ⊥)
      → answer ≡ codes "error: not hexadecimal" → IsAnswer answered line answer

-- The output is one answer for each of the lines, in their order, each ended by 0a.
abbrev pub AreAnswers : Answered → List (List ℕ) → List ℕ → Type 0
AreAnswers answered [] output = output ≡ []
AreAnswers answered (line ∷ lines) output = (answer others : List ℕ) × IsAnswer answered line answer
    × (output ≡ answer ++ (0x0a ∷ others)) × AreAnswers answered lines others

-- A line has no two answers.
abbrev pub OneAnswer : Answered → Type 0
OneAnswer answered = (line a b : List ℕ) → IsAnswer answered line a → IsAnswer answered line b
    → a ≡ b

-- ---- examples

two_lines : lines (0x31 ∷ 0x0a ∷ 0x32 ∷ []) ≡ (0x31 ∷ []) ∷ (0x32 ∷ []) ∷ []
two_lines = refl

empty_line : lines (0x0a ∷ []) ≡ [] ∷ []
empty_line = refl

digits : hex (0x2a ∷ 0x0f ∷ []) ≡ codes "2a0f"
digits = refl
