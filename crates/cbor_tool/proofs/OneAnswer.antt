-- Hexadecimal has one reading, and a line one answer.
use Rattle.std.proofs.Common.{◌≡◌, ℕ, suc, ◌-◌, ◌/◌, ◌%◌, ◌<◌, List, [], ◌∷◌, ◌++◌, Option, Some, None, refl, sym}
use Rattle.std.proofs.Common.{ap, ◌∙◌, subst, arith}
use Rattle.std.specs.Prelude.{codes}
use Rattle.std.proofs.lemmas.Bool.Decides.{nat_tests}
use Rattle.std.proofs.lemmas.List.{append-nil}
use Rattle.cbor_model.specs.Raw.{Raw, AreBytes}
use Rattle.cbor_model.specs.Spelling.{spell}
use Rattle.cbor_model.specs.Acceptable.{IsAcceptable}
use Rattle.cbor_model.specs.Value.{value}
use Rattle.cbor_model.specs.Canonical.{canon}
use Rattle.cbor_model.specs.Plain.{Val}
use Rattle.cbor_model.specs.Laws.{SpellsValue}
use Rattle.cbor_model.specs.Refusal.{Refusal, words, at_offset}
use Rattle.cbor_model.specs.Allowed.{limits_of}
use Rattle.cbor_tool.specs.Answer.{hex_digit, hex, IsHexOf, IsRefusalText, IsStrictRefusalText}
use Rattle.cbor_tool.specs.Answer.{strict_words, Answered, IsAnswered, IsAnsweredStrictly, OneAnswer}
use Rattle.cbor_tool.specs.Answer.{Answers, IsHexOfCanonical, shown, refused}
use Rattle.cbor_tool.specs.Answer.{hexadecimal, not_hexadecimal}
use Rattle.cbor_tool.specs.Answer.{IsAnsweredByRules, kept, departing, unread}
use Rattle.serde_cbor.specs.Answers.{SpellsDeparting}
use Rattle.serde_cbor.specs.Rules.{Keeps, only, first_departure, NoneWhereKept}
use Rattle.cbor_rules.specs.Texts.{departure_text}
use Rattle.cbor_rules.specs.declared.answers.Departure.{Departure}
use Rattle.cbor_rules.specs.declared.settings.Rules.{Rules}
use Rattle.serde_cbor.specs.Strict.{SpellsCanonically}
use Rattle.serde_cbor.specs.StrictRefusals.{StrictRefusal}
use Rattle.cbor_model.proofs.facts.Laws.{one_spelling}
use Rattle.cbor_model.proofs.facts.Refusals.{one_first}
use Rattle.serde_cbor.proofs.facts.Strict.{one_first_strict}

-- ---- hexadecimal

hex_digit_unique : (n k : ℕ) → n < 16 → k < 16 → hex_digit n ≡ hex_digit k → n ≡ k
hex_digit_unique n k small small' same = grind (arith, nat_tests)

byte_unique : (x y : ℕ) → x < 256 → y < 256 → hex_digit (x / 16) ≡ hex_digit (y / 16)
    → hex_digit (x % 16) ≡ hex_digit (y % 16) → x ≡ y
byte_unique x y small small' high low =
    let high_same : x / 16 ≡ y / 16 =
    hex_digit_unique (x / 16) (y / 16) (omega arith) (omega arith) high in
    let low_same : x % 16 ≡ y % 16 =
    hex_digit_unique (x % 16) (y % 16) (omega arith) (omega arith) low in
    omega arith

bytes_unique : (a b : List ℕ) → AreBytes a → AreBytes b → hex a ≡ hex b → a ≡ b
bytes_unique [] [] fits fits' same = refl
bytes_unique [] (y ∷ b) fits fits' same = absurd cc
bytes_unique (x ∷ a) [] fits fits' same = absurd cc
bytes_unique (x ∷ a) (y ∷ b) fits fits' same =
    let high : hex_digit (x / 16) ≡ hex_digit (y / 16) = cc in
    let low : hex_digit (x % 16) ≡ hex_digit (y % 16) = cc in
    let others : hex a ≡ hex b = cc in
    let first : x ≡ y = byte_unique x y (fits 0) (fits' 0) high low in
    let more : a ≡ b = bytes_unique a b (λ k. fits (suc k)) (λ k. fits' (suc k)) others in
    cc

pub hex_unique : (line a b : List ℕ) → IsHexOf line a → IsHexOf line b → a ≡ b
hex_unique line a b one other =
    bytes_unique a b one.are_bytes other.are_bytes (sym one.digits ∙ other.digits)

-- ---- what bytes are answered

-- items of one spelling are one
same_item : (r s : Raw) → IsAcceptable r → IsAcceptable s → spell r ≡ spell s → r ≡ s
same_item r s good good' same =
    (one_spelling r s [] good.fits good'.fits (append-nil (spell r) ∙ same)).0

-- bytes have one first refusal, and so one text
refusal_unique : (bytes text text' : List ℕ) → IsRefusalText bytes text → IsRefusalText bytes text'
    → text ≡ text'
refusal_unique bytes text text' one other =
    let first = one_first (limits_of None) bytes one.why other.why one.offset other.offset one.first other.first in
    one.is ∙ ap (λ (w : Refusal). words w ++ at_offset one.offset) first.0
    ∙ ap (λ (n : ℕ). words other.why ++ at_offset n) first.1 ∙ sym other.is

strict_refusal_unique : (bytes text text' : List ℕ) → IsStrictRefusalText bytes text
    → IsStrictRefusalText bytes text' → text ≡ text'
strict_refusal_unique bytes text text' one other =
    let first = one_first_strict bytes one.why other.why one.offset other.offset one.first other.first in
    one.is ∙ ap (λ (w : StrictRefusal). strict_words w ++ at_offset one.offset) first.0
    ∙ ap (λ (n : ℕ). strict_words other.why ++ at_offset n) first.1 ∙ sym other.is

-- bytes have no two answers
abbrev IsUnique : Answered → Type 0
IsUnique A = (bytes a b : List ℕ) → A bytes a → A bytes b → a ≡ b

-- What is read of bytes is shown in one way, and a refusal reported in one way: so is the answer.
unique_of : (Spells : List ℕ → Val → Type 0) (Shows : Val → List ℕ → Type 0)
    (IsRefusal : List ℕ → List ℕ → Type 0)
    → ((bytes : List ℕ) (v w : Val) (a b : List ℕ) → Spells bytes v → Spells bytes w → Shows v a
    → Shows w b → a ≡ b)
    → ((bytes a b : List ℕ) → IsRefusal bytes a → IsRefusal bytes b → a ≡ b)
    → IsUnique (λ bytes. Answers (Spells bytes) Shows (IsRefusal bytes))
unique_of Spells Shows IsRefusal one_shown one_refusal bytes a b (shown v spelt is) (shown w spelt' is') =
    one_shown bytes v w a b spelt spelt' is is'
unique_of Spells Shows IsRefusal one_shown one_refusal bytes a b (shown v spelt is) (refused text none why is') =
    absurd (none v spelt)
unique_of Spells Shows IsRefusal one_shown one_refusal bytes a b (refused text none why is) (shown v spelt is') =
    absurd (none v spelt)
unique_of Spells Shows IsRefusal one_shown one_refusal bytes a b (refused text none why is) (refused text' none' why' is') =
    is ∙ ap (λ (t : List ℕ). codes "error: " ++ t) (one_refusal bytes text text' why why') ∙ sym is'

-- bytes spell one value
same_shown : (bytes : List ℕ) (v w : Val) (a b : List ℕ) → SpellsValue bytes v → SpellsValue bytes w
    → IsHexOfCanonical v a → IsHexOfCanonical w b → a ≡ b
same_shown bytes v w a b one other is is' =
    let same = same_item one.item other.item one.acceptable other.acceptable (one.spelled ∙ sym other.spelled) in
    is ∙ ap (λ (x : Val). hex (canon x)) (one.valued ∙ ap value same ∙ sym other.valued) ∙ sym is'

same_shown_strictly : (bytes : List ℕ) (v w : Val) (a b : List ℕ) → SpellsCanonically bytes v
    → SpellsCanonically bytes w → IsHexOfCanonical v a → IsHexOfCanonical w b → a ≡ b
same_shown_strictly bytes v w a b one other is is' =
    is ∙ ap hex (one.spelled ∙ sym other.spelled) ∙ sym is'

answered_unique : IsUnique IsAnswered
answered_unique = unique_of SpellsValue IsHexOfCanonical IsRefusalText same_shown refusal_unique

answered_strictly_unique : IsUnique IsAnsweredStrictly
answered_strictly_unique =
    unique_of SpellsCanonically IsHexOfCanonical IsStrictRefusalText same_shown_strictly strict_refusal_unique

-- ---- answers to lines

one_of : (A : Answered) → IsUnique A → OneAnswer A
one_of A unique line a b (hexadecimal bytes digits is) (hexadecimal bytes' digits' is') =
    unique bytes' a b
    (subst (λ (c : List ℕ). A c a) (hex_unique line bytes bytes' digits digits') is) is'
one_of A unique line a b (hexadecimal bytes digits is) (not_hexadecimal none is') =
    absurd (none bytes digits)
one_of A unique line a b (not_hexadecimal none is) (hexadecimal bytes digits is') =
    absurd (none bytes digits)
one_of A unique line a b (not_hexadecimal none is) (not_hexadecimal none' is') = is ∙ sym is'

pub one_answer : OneAnswer IsAnswered
one_answer = one_of IsAnswered answered_unique

pub one_strict_answer : OneAnswer IsAnsweredStrictly
one_strict_answer = one_of IsAnsweredStrictly answered_strictly_unique

-- ---- by rules

module _ (none : NoneWhereKept) (rules : Rules) where
  one_departure : (bytes : List ℕ) (d e : Departure) → SpellsDeparting (only rules) bytes d
      → SpellsDeparting (only rules) bytes e → departure_text d ≡ departure_text e
  one_departure bytes d e one other =
      let same = same_item one.spelt.item other.spelt.item one.spelt.acceptable
      other.spelt.acceptable (one.spelt.spelled ∙ sym other.spelt.spelled) in
      let is : Some d ≡ Some e =
      sym one.departs ∙ ap (first_departure (only rules)) same ∙ other.departs in
      ap text_of is
    where
      text_of : Option Departure → List ℕ
      text_of None = []
      text_of (Some d) = departure_text d

  keeps_or_departs : (bytes : List ℕ) (v : Val) (spelt : SpellsValue bytes v) (d : Departure)
      → Keeps (only rules) spelt.item → SpellsDeparting (only rules) bytes d → ⊥
  keeps_or_departs bytes v spelt d keeps other =
      let same = same_item spelt.item other.spelt.item spelt.acceptable other.spelt.acceptable
      (spelt.spelled ∙ sym other.spelt.spelled) in
      let no = sym ((none (only rules) spelt.item).1 keeps)
      ∙ ap (first_departure (only rules)) same ∙ other.departs in cc

  by_rules_unique : IsUnique (IsAnsweredByRules rules)
  by_rules_unique bytes a b (kept v spelt keeps is) (kept w spelt' keeps' is') = is ∙ sym is'
  by_rules_unique bytes a b (kept v spelt keeps is) (departing d departs is') =
      absurd (keeps_or_departs bytes v spelt d keeps departs)
  by_rules_unique bytes a b (kept v spelt keeps is) (unread text none why is') = absurd (none v spelt)
  by_rules_unique bytes a b (departing d departs is) (kept v spelt keeps is') =
      absurd (keeps_or_departs bytes v spelt d keeps departs)
  by_rules_unique bytes a b (departing d departs is) (departing e departs' is') =
      is ∙ ap (λ (t : List ℕ). codes "error: " ++ t) (one_departure bytes d e departs departs') ∙ sym is'
  by_rules_unique bytes a b (departing d departs is) (unread text none why is') =
      absurd (none departs.tree departs.spelt)
  by_rules_unique bytes a b (unread text none why is) (kept v spelt keeps is') = absurd (none v spelt)
  by_rules_unique bytes a b (unread text none why is) (departing d departs is') =
      absurd (none departs.tree departs.spelt)
  by_rules_unique bytes a b (unread text none why is) (unread text' none' why' is') =
      is ∙ ap (λ (t : List ℕ). codes "error: " ++ t) (refusal_unique bytes text text' why why') ∙ sym is'

  pub one_answer_by_rules : OneAnswer (IsAnsweredByRules rules)
  one_answer_by_rules = one_of (IsAnsweredByRules rules) by_rules_unique
