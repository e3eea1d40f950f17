use Rattle.std.proofs.lemmas.Result.{err_from_is_err_and}
use Rattle.std.specs.Int.{w32}
use Rattle.cbor_decode.proofs.SourceCalls.{number_stops}
use Rattle.cbor_decode.proofs.Decoder.number_of_4.Goals as goal

pub returns-in_err-fill-clause-read : goal.returns-in_err-fill-clause-read
returns-in_err-fill-clause-read g c =
    let passed = err_from_is_err_and c.from_residual.result c.from_residual.ensures.1 in
    rw (passed.1, passed.2) (number_stops g.R.Source.refusals _ _ w32 _ _ c.in_err-fill.ensures.refused c.in_err-fill.ensures.kept)
