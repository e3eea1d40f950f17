-- What a sink was given that goes to a writer by blocks.
use Rattle.std.specs.Prelude.{ℕ, ◌-◌, List, ◌∷◌, ◌++◌, length, Option}
use Rattle.std.specs.Option.{option_map}

-- Of a writer that has these bytes, so many of them by the sink, while others are held: first how
-- many it had before, which stays, and then all of them. So it is told that what it had it has still.
abbrev pub given : Option (List ℕ) → ℕ → List ℕ → Option (List ℕ)
given contents sent unsent =
    option_map (λ has. (length has - sent) ∷ (has ++ unsent)) contents
