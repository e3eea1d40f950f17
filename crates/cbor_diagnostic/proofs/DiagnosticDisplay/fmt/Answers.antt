use Rattle.std.proofs.Common.{◌≡◌, ℕ, Option, None, subst}
use Rattle.std.proofs.lemmas.Result.{on_ok_weaker}
use Rattle.cbor_value.specs.View.{view}
use Rattle.cbor_diagnostic.specs.Notation.{IsNotation}
use Rattle.cbor_diagnostic.specs.Prints.{Shows}
use Rattle.cbor_diagnostic.proofs.Formatters.{shown}
use Rattle.cbor_diagnostic.proofs.DiagnosticDisplay.fmt.Goals as goal
use Rattle.cbor_diagnostic.proofs.DiagnosticDisplay.fmt.Goals.{then-alternate, else-alternate}

pub returns-clause-notation : goal.returns-clause-notation
returns-clause-notation g c = λ plain.
    let v = view c.args.self.now.0.now in
    let on_one_line : c.if-alternate.indent ≡ None = elim c.if-alternate.branch [
      | then-alternate w ↦ let no_lines = c.alternate.ensures.plain plain in let lines = w.if-alternate.true in cc
      | else-alternate w ↦ w.indent-is
    ] in
    on_ok_weaker c.write_value.result
    (λ h. subst (λ (i : Option ℕ). Shows g.W.Write.write_str_gives (IsNotation i v) c.args.f.now c.write_value.new.out) on_one_line
    (shown g.W.Write.write_str_gives (IsNotation c.if-alternate.indent v) c.args.f.now c.write_value.new.out plain h))
    c.write_value.ensures
