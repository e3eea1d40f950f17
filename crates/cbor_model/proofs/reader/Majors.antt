-- Major types by their numbers.
use Rattle.std.proofs.Common.{◌≡◌, ℕ, zero, suc, ◌<◌, arith, refl}
use Rattle.cbor_model.specs.Major.{Major, unsigned, negative, bytes, text, array, map, tag, simple}
use Rattle.cbor_model.specs.Major.{major_of}

-- what holds of each number and its major type
module _ (P : ℕ → Major → Type 0) (a : P 0 unsigned) (b : P 1 negative) (c : P 2 bytes)
    (d : P 3 text) (e : P 4 array) (f : P 5 map) (g : P 6 tag) (h : P 7 simple)
  where
    pub each_major : (k : ℕ) → k < 8 → P k (major_of k)
    each_major zero below = a
    each_major (suc zero) below = b
    each_major (suc (suc zero)) below = c
    each_major (suc (suc (suc zero))) below = d
    each_major (suc (suc (suc (suc zero)))) below = e
    each_major (suc (suc (suc (suc (suc zero))))) below = f
    each_major (suc (suc (suc (suc (suc (suc zero)))))) below = g
    each_major (suc (suc (suc (suc (suc (suc (suc zero))))))) below = h
    each_major (suc (suc (suc (suc (suc (suc (suc (suc k)))))))) below = absurd (omega (arith, below))

-- only that of 7 is simple
pub simple_number : (k : ℕ) → major_of k ≡ simple → k ≡ 7
simple_number zero is = absurd cc
simple_number (suc zero) is = absurd cc
simple_number (suc (suc zero)) is = absurd cc
simple_number (suc (suc (suc zero))) is = absurd cc
simple_number (suc (suc (suc (suc zero)))) is = absurd cc
simple_number (suc (suc (suc (suc (suc zero))))) is = absurd cc
simple_number (suc (suc (suc (suc (suc (suc zero)))))) is = absurd cc
simple_number (suc (suc (suc (suc (suc (suc (suc zero))))))) is = refl
simple_number (suc (suc (suc (suc (suc (suc (suc (suc k)))))))) is = absurd cc
