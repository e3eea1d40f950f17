-- Which items are acceptable.
use Rattle.std.specs.Prelude.{ℕ, ◌≤◌, IsUtf8, Option, None, Some}
use Rattle.cbor_model.specs.Raw.{Raw, IsWellFormed, depth, EachText, longest_joined}

-- Acceptable within so many levels: well formed, not nested deeper, and each text is UTF-8.
pub record IsAcceptableWithin (levels : ℕ) (r : Raw) : Type 0 where
  pub fits : IsWellFormed r
  pub nests : depth r ≤ levels
  pub texts : EachText IsUtf8 r

-- the nesting limit
abbrev pub max_depth : ℕ
max_depth = 127

abbrev pub IsAcceptable : Raw → Type 0
IsAcceptable = IsAcceptableWithin max_depth

-- The longest of the item's strings in chunks, joined, fits a scratch of this length; any does
-- where there is no such limit.
abbrev pub FitsScratch : Option ℕ → Raw → Type 0
FitsScratch None r = Unit {0}
FitsScratch (Some room) r = longest_joined r ≤ room
