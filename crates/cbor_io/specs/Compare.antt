-- Bytes as a number, the first of them the highest digit.
use Rattle.std.specs.Prelude.{ℕ, ◌+◌, ◌*◌, List, [], ◌∷◌}

-- the number n, and after its digits those of the bytes
abbrev pub big_endian_after : ℕ → List ℕ → ℕ
big_endian_after n [] = n
big_endian_after n (b ∷ bs) = big_endian_after (n * 256 + b) bs

abbrev pub big_endian : List ℕ → ℕ
big_endian = big_endian_after 0
