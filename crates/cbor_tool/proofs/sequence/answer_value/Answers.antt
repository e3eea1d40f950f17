use Rattle.std.proofs.Common.{inl}
use Rattle.std.proofs.lemmas.Result.{err_from_is_err_and}
use Rattle.std.proofs.KnownBytes.{Keeps-refl}
use Rattle.cbor_tool.proofs.Sequences.{memory_excuses}
use Rattle.cbor_tool.proofs.sequence.answer_value.Goals as goal

pub returns-in_err-answer-clause-err : goal.returns-in_err-answer-clause-err
returns-in_err-answer-clause-err g c =
    let p = err_from_is_err_and c.from_residual.result c.from_residual.ensures.1 in
    rw (p.1, p.2) (λ stored. record { why = memory_excuses c.in_err-answer.field-0.0 (c.in_err-answer.ensures.err stored); written = inl (Keeps-refl (g.W.Write.contents c.args.writer.now)) })
