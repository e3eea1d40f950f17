use Rattle.serde_cbor.specs.Takes.{formats_of}
use Rattle.serde_cbor.proofs.facts.Values.{value_made, no_value}
use Rattle.samples.specs.Trees.{IsTree}
use Rattle.samples.proofs.tree.TreeDeserialize.deserialize.Goals as goal

pub returns-in_err-value-clause-read : goal.returns-in_err-value-clause-read
returns-in_err-value-clause-read g c =
    let d = c.args.de.now.decoder in
    no_value IsTree g.R.Source.refusals (formats_of d.formats) d.levels (g.R.Source.source d.source) _ _ _ c.in_err-value.ensures.fault c.from_residual.ensures.1 c.in_err-value.ensures.read.took

pub returns-clause-read : goal.returns-clause-read
returns-clause-read g c =
    let d = c.args.de.now.decoder in
    value_made IsTree g.R.Source.refusals (formats_of d.formats) d.levels (g.R.Source.source d.source) _ _ _ c.in_ok-value.ensures.read c.tree_of.ensures.tree c.tree_of.ensures.none
