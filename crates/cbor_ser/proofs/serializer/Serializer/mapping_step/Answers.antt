use Rattle.std.proofs.Common.{◌≡◌, ◌∙◌, ap, Some, length, rules}
use Rattle.cbor_model.specs.Document.{doc_pairs}
use Rattle.cbor_model.specs.Parts.{in_turn, ending, map_head, pairs}
use Rattle.cbor_ser.proofs.Lists.{count_doc_pairs}
use Rattle.cbor_ser.proofs.WriteSteps.{step_by_parts, step_then, step_stops, same_step}
use Rattle.cbor_ser.proofs.serializer.Serializer.mapping_step.Goals as goal

pub returns-in_err-map_step : goal.returns-in_err-map_step
returns-in_err-map_step g c =
    let entries = c.args.map.now.entries in
    let len : c.len.result ≡ length entries = search rules in
    let rest = pairs (doc_pairs g.K.Serialize.document g.V.Serialize.document entries) (ending (Some 0)) in
    step_by_parts (same_step (ap (λ n. in_turn (map_head (Some n)) rest) (len ∙ count_doc_pairs g.K.Serialize.document g.V.Serialize.document entries)) (step_stops rest c.from_residual.ensures.0 c.in_err-map_step.ensures.err))

pub returns : goal.returns
returns g c =
    let entries = c.args.map.now.entries in
    let len : c.len.result ≡ length entries = search rules in
    let rest = pairs (doc_pairs g.K.Serialize.document g.V.Serialize.document entries) (ending (Some 0)) in
    step_by_parts (same_step (ap (λ n. in_turn (map_head (Some n)) rest) (len ∙ count_doc_pairs g.K.Serialize.document g.V.Serialize.document entries)) (step_then c.in_ok-map_step.ensures.ok c.entries_step.ensures))
