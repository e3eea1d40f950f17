use Rattle.std.specs.Prelude.{⊤}
use Rattle.cbor_de.specs.Whole.{from_slice_asks}
use Rattle.cbor_de.specs.declared.types.ignored.IgnoredAny.{IgnoredAny}
use Rattle.cbor_decode.specs.HasChunks.{AsksWhere, HasChunks}
use Rattle.cbor_model.specs.Raw.{Raw}
use Rattle.cbor_rules.proofs.CanonicalKeys.{canonical_read, canonical_taken, none_asked}
use Rattle.cbor_rules.proofs.canonical_key.is_canonical.Goals as goal

pub returns-clause-itself : goal.returns-clause-itself
returns-clause-itself c =
    let read = c.from_slice_canonical_as in
    canonical_read _ c.args.key.now read.result c.is_ok.result c.are_bytes.ensures.short read.ensures.answers.found c.is_ok.ensures.value

pub returns-clause-each : goal.returns-clause-each
returns-clause-each c =
    let read = c.from_slice_canonical_as in
    canonical_taken (λ (r : Raw) (x : IgnoredAny). ⊤) (λ (r : Raw). AsksWhere from_slice_asks (HasChunks r)) c.args.key.now read.result c.is_ok.result (record {}) (λ r. tt) none_asked
    (read.ensures.answers.accepted (record {})) (read.ensures.answers.memory (record {})) c.is_ok.ensures.value
