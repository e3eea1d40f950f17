use Rattle.std.proofs.Common.{refl}
use Rattle.cbor_value.specs.View.{view}
use Rattle.cbor_forms.proofs.Encoding.{memory_alone}
use Rattle.cbor_forms.proofs.length_first.append_leaf.Goals as goal

pub returns-clause-written : goal.returns-clause-written
returns-clause-written c =
    (c.to_writer.ensures.canonical (view c.args.value.now) refl).written.ok

pub returns-clause-memory : goal.returns-clause-memory
returns-clause-memory c =
    memory_alone c.to_writer.result (view c.args.value.now) c.requires c.to_writer.ensures.refused
