use Rattle.std.specs.Fmt.{decimal}
use Rattle.std.specs.Prelude.{codes}
use Rattle.std.proofs.Common.{◌++◌, List, ℕ, Some, ap, append_assoc, subst, sym}
use Rattle.cbor_io.specs.Error.{IsMessageOf, code_of}
use Rattle.cbor_de.proofs.sequence.invalid_length.Goals as goal

pub returns-in-Ok-clause-text : goal.returns-in-Ok-clause-text
returns-in-Ok-clause-text c =
    let same = ap (λ (x : List ℕ). codes "invalid length " ++ x) (sym (append_assoc (decimal c.args.found) (codes ", expected ") (decimal c.args.expected))) in
    subst (λ (t : List ℕ). IsMessageOf (Some t) (code_of c.message.result)) same (rw c.in-Ok.ensures.ok at c.message.ensures.code)
