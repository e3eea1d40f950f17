-- Where lines are broken. An indent is `None` where all stands on one line, and otherwise how many
-- steps of two blanks a line begins with.
use Rattle.std.specs.Prelude.{ℕ, zero, suc, ◌+◌, Bool, true, false, List, [], ◌∷◌, ◌++◌, codes}
use Rattle.std.specs.Prelude.{Option, Some, None}

-- so many steps of blanks
abbrev pub blanks : ℕ → List ℕ
blanks zero = []
blanks (suc n) = 32 ∷ 32 ∷ blanks n

-- the indent of what lies inside
abbrev pub inner_indent : Option ℕ → Option ℕ
inner_indent None = None
inner_indent (Some n) = Some (n + 1)

-- the line break, and the blanks
abbrev pub line_start : Option ℕ → List ℕ
line_start None = []
line_start (Some n) = 10 ∷ blanks n

-- what parts an item from the one before it
abbrev pub comma : Option ℕ → Bool → List ℕ
comma indent true = []
comma None false = codes ", "
comma (Some n) false = codes ","

-- what stands before an item
abbrev pub lead : Option ℕ → Bool → List ℕ
lead indent is_first = comma indent is_first ++ line_start indent

-- what stands before the closing bracket
abbrev pub closing : Option ℕ → Bool → List ℕ
closing indent true = []
closing indent false = line_start indent
