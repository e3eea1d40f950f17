-- What was written, where a value has more than one text.
use Rattle.std.specs.Prelude.{ℕ, List}
use Rattle.std.specs.Fmt.{WritesInCalls, HasWritten}
use Rattle.std.specs.declared.fmt.Formatter.{Formatter}

-- A text of this kind was written, and nothing else. `took` says what one call of the writer does.
pub record Prints {W : Type 0} (took : W → List ℕ → W → Type 0) (IsOne : List ℕ → Type 0)
    (old new : W) : Type 0 where
  pub text : List ℕ
  pub is : IsOne text
  pub wrote : WritesInCalls took old text new

-- The same of a formatter that writes as `{}` does.
pub record Shows {W : Type 0} (took : W → List ℕ → W → Type 0) (IsOne : List ℕ → Type 0)
    (old new : Formatter W) : Type 0 where
  pub text : List ℕ
  pub is : IsOne text
  pub wrote : HasWritten took old text new
