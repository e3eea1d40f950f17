-- A map that was filled from a list.
use Rattle.std.specs.Prelude.{◌≡◌, ◌↔◌, List, Option, Some}
use Rattle.std.specs.List.{Contains}

-- The map has the content of each of these under its key, and nothing else.
abbrev pub HasJust : {K X A : Type 0} → (A → K) → (A → X) → (K → Option X) → List A → Type 0
HasJust {K} {X} {A} key content map list = (k : K) (x : X)
    → (map k ≡ Some x) ↔ ((a : A) × Contains list a × (k ≡ key a) × (x ≡ content a))
