-- The name of an integer.
use Rattle.std.proofs.Common.{◌≡◌, ℕ, ℤ, true, List, sym, subst}
use Rattle.std.specs.Prelude.{Bool}
use Rattle.std.specs.Fmt.{signed_decimal}
use Rattle.serde.specs.Names.{Finds}
use Rattle.serde.specs.declared.name.Name.{Name}
use Rattle.cbor_serde_de.specs.PickedNames.{PicksInteger}

-- its decimal text was found
pub by_decimal : (integer_keys : Bool) (names : List Name) (z : ℤ) (key : List ℕ) (at : ℕ) → integer_keys ≡ true → key ≡ signed_decimal z → Finds names key at → PicksInteger integer_keys names z at
by_decimal integer_keys names z key at chosen is h =
    subst (λ b. PicksInteger b names z at) (sym chosen) (subst (λ k. Finds names k at) is h)
