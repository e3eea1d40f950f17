-- Floats, by their numbers.
use Rattle.std.specs.Prelude.{◌≡◌, ℕ, ◌<◌, Bool, true, List, ◌++◌, length, codes, Some}
use Rattle.std.specs.Float.{binary64, nan, inf, fin}
use Rattle.std.specs.Float.Ieee as ieee
use Rattle.std.specs.Fmt.{sign_text}
use Rattle.ryu.specs.Parse.{parse_float}
use Rattle.ryu.specs.Plain.{text_with}
use Rattle.fast_float.specs.Text.{Parts, IsWellFormed}

-- A numeral in decimal, with digits before and after its point, perhaps a minus in front, and
-- perhaps an exponent with its sign, which reads as this number.
pub record IsNumeralOf (x : ieee.Float) (text : List ℕ) : Type 0 where
  pub negative : Bool
  pub parts : Parts
  pub is : text ≡ sign_text negative ++ text_with true parts
  pub well_formed : IsWellFormed parts
  pub whole : 0 < length parts.whole
  pub point : parts.point ≡ true
  pub fraction : 0 < length parts.fraction
  pub reads : parse_float binary64 text ≡ Some x

-- such a numeral, or the words for what is no number in decimal
abbrev pub IsFloatNotation : ieee.Float → List ℕ → Type 0
IsFloatNotation nan text = text ≡ codes "NaN"
IsFloatNotation (inf negative) text = text ≡ sign_text negative ++ codes "Infinity"
IsFloatNotation (fin negative m e) text = IsNumeralOf (fin negative m e) text
