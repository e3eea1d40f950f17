-- Blanks.
use Rattle.std.proofs.Common.{◌≡◌, ℕ, zero, suc, ◌+◌, Bool, true, false, List, [], ◌∷◌, ◌++◌, Option, Some, None, refl, ap, add-one, codes}
use Rattle.cbor_diagnostic.specs.Layout.{blanks, comma}

blanks_then : (n : ℕ) → blanks n ++ (32 ∷ 32 ∷ []) ≡ 32 ∷ 32 ∷ blanks n
blanks_then zero = refl
blanks_then (suc n) = ap (λ (bs : List ℕ). 32 ∷ 32 ∷ bs) (blanks_then n)

-- one step more
pub blanks_more : (n : ℕ) → blanks n ++ (32 ∷ 32 ∷ []) ≡ blanks (n + 1)
blanks_more n = rw add-one (blanks_then n)

-- what parts two items
pub comma_on_one_line : (indent : Option ℕ) (is_first : Bool) → is_first ≡ false → indent ≡ None → codes ", " ≡ comma indent is_first
comma_on_one_line indent true first none = cc
comma_on_one_line None false first none = refl
comma_on_one_line (Some n) false first none = cc

pub comma_over_lines : (indent : Option ℕ) (is_first : Bool) (n : ℕ) → is_first ≡ false → indent ≡ Some n → codes "," ≡ comma indent is_first
comma_over_lines indent true n first some = cc
comma_over_lines None false n first some = cc
comma_over_lines (Some m) false n first some = refl
