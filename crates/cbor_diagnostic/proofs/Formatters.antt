-- What a formatter wrote that writes as `{}` does.
use Rattle.std.proofs.Common.{◌≡◌, ℕ, List, [], ◌∷◌, subst}
use Rattle.std.proofs.Output.{writes_in_calls_nil, has_written_append}
use Rattle.std.specs.Fmt.{HasWritten, IsPlainFormatter}
use Rattle.std.specs.List.{FoldsTo, concat}
use Rattle.std.specs.declared.fmt.Formatter.{Formatter}
use Rattle.cbor_diagnostic.specs.Prints.{Prints, Shows}

module _ {W : Type 0} (took : W → List ℕ → W → Type 0) where
  abbrev PlainTook : Formatter W → List ℕ → Formatter W → Type 0
  PlainTook f bs g = IsPlainFormatter f → HasWritten took f bs g

  plain_calls : (f : Formatter W) (xs : List (List ℕ)) (g : Formatter W) → IsPlainFormatter f → FoldsTo PlainTook f xs g → HasWritten took f (concat xs) g
  plain_calls f [] g plain p = subst (λ (x : Formatter W). HasWritten took f [] x) p (record { wrote = writes_in_calls_nil took f.writer; plain = plain })
  plain_calls f (x ∷ xs) g plain p = let first = p.1 plain in has_written_append took f x p.0 (concat xs) g first (plain_calls p.0 xs g first.plain p.2)

  pub shown : (IsOne : List ℕ → Type 0) (f g : Formatter W) → IsPlainFormatter f → Prints PlainTook IsOne f g → Shows took IsOne f g
  shown IsOne f g plain p = record {
    text = p.text;
    is = p.is;
    wrote = subst (λ (bs : List ℕ). HasWritten took f bs g) p.wrote.whole (plain_calls f p.wrote.parts g plain p.wrote.calls);
  }
