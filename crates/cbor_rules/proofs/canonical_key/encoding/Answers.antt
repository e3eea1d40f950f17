use Rattle.cbor_value.specs.View.{view}
use Rattle.cbor_rules.proofs.CanonicalKeys.{only_memory}
use Rattle.cbor_rules.proofs.canonical_key.encoding.Goals as goal

pub returns-in-Err-clause-memory : goal.returns-in-Err-clause-memory
returns-in-Err-clause-memory c = only_memory (view c.args.value.now) c.in-Err.e c.in-Err.ensures.refused
