use Rattle.std.proofs.Common.{◌≡◌, ℕ, List, ◌++◌, string_bytes, sym, ◌∙◌, subst, rules}
use Rattle.std.proofs.lemmas.Fmt.{contents_after_writes}
use Rattle.cbor_value.specs.View.{view}
use Rattle.cbor_diagnostic.specs.Notation.{IsNotation}
use Rattle.cbor_diagnostic.proofs.notation.to_text.Goals as goal

pub returns-in-Ok-clause-notation : goal.returns-in-Ok-clause-notation
returns-in-Ok-clause-notation c =
    let printed = c.in-Ok.ensures in
    let whole = contents_after_writes _ string_bytes (λ _ _ _ t. t) _ _ _ printed.wrote in
    let empty : string_bytes c.new-text.result ++ printed.text ≡ printed.text = search rules in
    subst (IsNotation c.args.indent (view c.args.value.now)) (sym (whole ∙ empty)) printed.is
