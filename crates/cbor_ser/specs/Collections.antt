-- What is left of a collection of declared length.
use Rattle.std.specs.Prelude.{◌≡◌, ℕ, ◌-◌, ◌<◌, Option, Some, None}

-- one fewer is due, where a length was declared
abbrev pub one_less : Option ℕ → Option ℕ
one_less None = None
one_less (Some n) = Some (n - 1)

-- one more is due
abbrev pub IsDue : Option ℕ → Type 0
IsDue None = Unit {0}
IsDue (Some n) = 0 < n

-- no more is due
abbrev pub IsDone : Option ℕ → Type 0
IsDone None = Unit {0}
IsDone (Some n) = n ≡ 0
