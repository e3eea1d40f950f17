-- What a rule and a departure print.
use Rattle.std.specs.Prelude.{ℕ, List, ◌++◌, codes, Option, None}
use Rattle.std.specs.Fmt.{decimal}
use Rattle.cbor_io.specs.Error.{error_text, styled_error_text}
use Rattle.cbor_rules.specs.declared.settings.Rule.{Rule}
use Rattle.cbor_rules.specs.declared.settings.Rule.TheVariants.{ShortestHeads, DefiniteLengths}
use Rattle.cbor_rules.specs.declared.settings.Rule.TheVariants.{PlainKeys, AscendingKeys, OneNan}
use Rattle.cbor_rules.specs.declared.settings.Rule.TheVariants.{UniqueKeys, ReducedNumbers}
use Rattle.cbor_rules.specs.declared.settings.Rule.TheVariants.{ShortestFloats, NoUndefined, NoTags}
use Rattle.cbor_rules.specs.declared.settings.Rule.TheVariants.{MostItems, MostPairs, MostBytes}
use Rattle.cbor_rules.specs.declared.answers.Departure.{Departure}
use Rattle.cbor_rules.specs.declared.answers.Refusal.{Refusal}
use Rattle.cbor_rules.specs.declared.answers.Refusal.TheVariants.{Unread, Departs}

-- how a rule is broken
abbrev pub rule_text : Rule → List ℕ
rule_text ShortestHeads = codes "head not the shortest"
rule_text DefiniteLengths = codes "indefinite length"
rule_text PlainKeys = codes "array, map or tag as a key"
rule_text AscendingKeys = codes "key out of order"
rule_text UniqueKeys = codes "duplicate key"
rule_text ReducedNumbers = codes "number not reduced"
rule_text ShortestFloats = codes "float not the shortest"
rule_text OneNan = codes "NaN other than f97e00"
rule_text NoUndefined = codes "undefined"
rule_text NoTags = codes "tag not allowed"
rule_text MostItems = codes "array too long"
rule_text MostPairs = codes "map too long"
rule_text MostBytes = codes "string too long"

abbrev pub departure_text : Departure → List ℕ
departure_text d = rule_text d.rule ++ (codes " at offset " ++ decimal d.offset)

abbrev pub refusal_text : Refusal → List ℕ
refusal_text (Unread e) = error_text e
refusal_text (Departs d) = departure_text d

-- What it prints under the options of a hole, as `{:>40}`, of which it says what an error says.
abbrev pub styled_refusal_text : Refusal → Option (List ℕ)
styled_refusal_text (Unread e) = styled_error_text e
styled_refusal_text (Departs d) = None
