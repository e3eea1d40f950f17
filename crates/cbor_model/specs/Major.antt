-- The major types (RFC 7049, section 2.1), which the upper three bits of a first byte say.
use Rattle.std.specs.Prelude.{◌≡◌, ℕ, List, [], ◌∷◌, get_or, refl}

pub data Major : Type 0 where
  unsigned : Major
  negative : Major
  bytes : Major
  text : Major
  array : Major
  map : Major
  tag : Major
  simple : Major

-- major types 0 to 7
abbrev pub majors : List Major
majors = unsigned ∷ negative ∷ bytes ∷ text ∷ array ∷ map ∷ tag ∷ simple ∷ []

-- that of a number below 8; no byte says another
abbrev pub major_of : ℕ → Major
major_of n = get_or majors n tag

-- ---- examples

text_of_3 : major_of 3 ≡ text
text_of_3 = refl
