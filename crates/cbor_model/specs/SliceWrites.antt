-- What a slice of fixed length holds of pieces that are written one after the other.
use Rattle.std.specs.Prelude.{◌≡◌, ℕ, ◌-◌, List, [], ◌∷◌, ◌++◌, length, nat_lt, flat_map}
use Rattle.std.specs.Prelude.{if◌then◌else◌, refl}

-- all of each piece that fits, up to the first that doesn't
abbrev pub held : ℕ → List (List ℕ) → List ℕ
held room [] = []
held room (p ∷ ps) = if nat_lt room (length p) then [] else p ++ held (room - length p) ps

abbrev pub whole : List (List ℕ) → List ℕ
whole ps = flat_map (λ p. p) ps

-- ---- an example

-- a head and a text of six bytes, where there is room for three
foobar : held 3 ((0x66 ∷ []) ∷ (0x66 ∷ 0x6f ∷ 0x6f ∷ 0x62 ∷ 0x61 ∷ 0x72 ∷ []) ∷ []) ≡ 0x66 ∷ []
foobar = refl
