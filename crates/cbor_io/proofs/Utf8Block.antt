-- Sixteen bytes that are compared at once.
use Rattle.std.proofs.Common.{◌≡◌, ℕ, zero, suc, ◌+◌, ◌*◌, ◌%◌, ◌^◌, ◌<◌, ◌≤◌, Bool, true, false}
use Rattle.std.proofs.Common.{cond, leb, List, [], ◌∷◌, map, length, get_or, replicate, sym, ap}
use Rattle.std.proofs.Common.{◌∙◌, arith, leb-false, w8}
use Rattle.std.proofs.lemmas.Simd.{tops_compared, mask_l-mod, length-zip2}
use lib.Lanes.{zip2, mask_l, top}

low : (n : ℕ) (xs : List ℕ) → mask_l (zip2 leb (replicate n 128) xs) ≡ 0 → (i : ℕ)
    → length xs ≤ n → get_or xs i 0 < 128
low n [] e i l = omega arith
low zero (x ∷ xs) e i l = absurd (omega arith)
low (suc n) (x ∷ xs) e zero l = by (leb 128 x) refl' e
  where
    refl' : leb 128 x ≡ leb 128 x
    refl' = λ _. leb 128 x

    by : (t : Bool) → leb 128 x ≡ t
        → cond t 1 zero + 2 * mask_l (zip2 leb (replicate n 128) xs) ≡ 0 → x < 128
    by true q h = absurd (omega arith)
    by false q h = leb-false _ _ q
low (suc n) (x ∷ xs) e (suc i) l = low n xs (omega (arith, e)) i (omega arith)

pub low_from_mask : (xs : List ℕ) → length xs ≡ 16
    → mask_l (map (top 7) (zip2 (λ (a b : ℕ). cond (leb a b) 255 0) (replicate 16 128) xs))
    % 2 ^ 64 ≡ 0 → (i : ℕ) → get_or xs i 0 < 128
low_from_mask xs long e i =
    let t = tops_compared w8 leb (replicate 16 128) xs in
    let short = mask_l-mod (zip2 leb (replicate 16 128) xs) 64
    (omega (arith, length-zip2 leb (replicate 16 128) xs (sym long))) in
    low 16 xs (sym short ∙ ap (λ m. mask_l m % 2 ^ 64) (sym t) ∙ e) i (omega arith)
