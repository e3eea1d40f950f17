-- The last of some bytes.
use Rattle.std.proofs.Common.{◌≡◌, ◌+◌, ◌-◌, ◌≤◌, ℕ, List, [], ◌∷◌, length, take, drop, ◌∙◌, refl, sym, ap, arith}
use Rattle.std.proofs.lemmas.List.{get_or-drop, length-drop}
use Rattle.std.proofs.Math.Seq.{take-length}
use Rattle.cbor_model.specs.Raw.{AreBytes}
use Rattle.cbor_pushed.specs.Scanned.{last}

pub last_all : (bs : List ℕ) → bs ≡ last (length bs) bs
last_all bs = let none : length bs - length bs ≡ 0 = omega arith in sym (ap (λ (n : ℕ). drop n bs) none)

pub length-last : (n : ℕ) (bs : List ℕ) → n ≤ length bs → length (last n bs) ≡ n
length-last n bs le = omega (arith, length-drop (length bs - n) bs)

pub empty_list : (bs : List ℕ) → length bs ≡ 0 → bs ≡ []
empty_list [] none = refl
empty_list (b ∷ bs) none = absurd (omega (arith, none))

-- the bytes from a place up to the end
pub all_taken : (at : ℕ) (bs : List ℕ) → take (length bs - at) (drop at bs) ≡ drop at bs
all_taken at bs = ap (λ (n : ℕ). take n (drop at bs)) (sym (length-drop at bs)) ∙ take-length (drop at bs)

pub bytes_from : (at : ℕ) (bs : List ℕ) → AreBytes bs → AreBytes (drop at bs)
bytes_from at bs fits i = rw get_or-drop (fits (at + i))
