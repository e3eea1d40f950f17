use Rattle.std.proofs.Common.{◌⊎◌, IfSome, inl, inr, subst, sym}
use Rattle.cbor_serde_de.specs.Fronts.{IsItem, IsOwn, MayRefuse}
use Rattle.cbor_serde_de.proofs.Items.{fault_given, found_of, refused_of, unread_given, whole_given}
use Rattle.cbor_serde_de.proofs.from.from_reader_with.Goals as goal

pub returns-in-Ok-clause-found : goal.returns-in-Ok-clause-found
returns-in-Ok-clause-found g c =
    let remaining = g.R.Read.remaining in
    let levels = c.args.options.levels in
    let whole = whole_given remaining levels c.new-kept.result c.only_item.new.self c.new-kept.ensures.bytes c.in-Ok.ensures in
    found_of c.from_bytes.result (IfSome (remaining c.args.reader) (IsItem levels)) (subst (λ r. IfSome (remaining r) (IsItem levels)) c.new-kept.ensures.reader whole)

pub returns-in-Ok-clause-refused : goal.returns-in-Ok-clause-refused
returns-in-Ok-clause-refused g c =
    let remaining = g.R.Read.remaining in
    let levels = c.args.options.levels in
    let whole = whole_given remaining levels c.new-kept.result c.only_item.new.self c.new-kept.ensures.bytes c.in-Ok.ensures in
    refused_of c.from_bytes.result (λ e. IsOwn e ⊎ IfSome (remaining c.args.reader) (λ bytes. MayRefuse levels bytes e))
    (λ e. inr (subst (λ r. IfSome (remaining r) (λ bytes. MayRefuse levels bytes e)) c.new-kept.ensures.reader (unread_given remaining levels c.new-kept.result c.only_item.new.self e whole)))

pub returns-clause-refused : goal.returns-clause-refused
returns-clause-refused g c =
    let remaining = g.R.Read.remaining in
    let levels = c.args.options.levels in
    let given = fault_given remaining levels c.new-kept.result c.only_item.new.self c.in-Err.fault c.new-kept.ensures.bytes c.in-Err.ensures in
    let refused = subst (λ r. IsOwn c.in-Err.fault ⊎ IfSome (remaining r) (λ bytes. MayRefuse levels bytes c.in-Err.fault)) c.new-kept.ensures.reader given in
    elim c.first_fault.ensures [
      | inl own ↦ inl own
      | inr same ↦ subst (λ e. IsOwn e ⊎ IfSome (remaining c.args.reader) (λ bytes. MayRefuse levels bytes e)) (sym same) refused
    ]
