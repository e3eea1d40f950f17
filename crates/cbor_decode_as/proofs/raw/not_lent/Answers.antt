use Rattle.std.proofs.Common.{◌≡◌, Some, codes}
use Rattle.cbor_io.specs.Error.{code_of}
use Rattle.cbor_io.specs.declared.error.ErrorCode.TheVariants.{OutOfMemory}
use Rattle.cbor_decode.specs.Decoder.{formats_of}
use Rattle.cbor_decode_as.specs.Takes.{any_item}
use Rattle.cbor_decode_as.proofs.RawFaults.{passed_told}
use Rattle.cbor_decode_as.proofs.RawItems.{refused_lent}
use Rattle.cbor_decode_as.proofs.refused.Faults.{said_if_any}
use Rattle.cbor_decode_as.proofs.raw.not_lent.Goals as goal

pub returns-in-Ok-clause-read : goal.returns-in-Ok-clause-read
returns-in-Ok-clause-read g c =
    let d = c.args.decoder.now in
    let other : code_of c.args.error ≡ OutOfMemory → ⊥ = λ is. let all = c.is_memory.ensures.1 is in cc in
    refused_lent (formats_of d.formats) d.levels g.R.Source.lends (g.R.Source.source d.source) (g.R.Source.at_hand d.source) c.requires.shows g.R.Source.refusals c.args.error c.requires.found c.message.result (g.R.Source.source c.skip.new.self.source) other c.in-Ok.ensures.read.took

pub returns-clause-read : goal.returns-clause-read
returns-clause-read g c =
    let d = c.args.decoder.now in
    let other : code_of c.args.error ≡ OutOfMemory → ⊥ = λ is. let all = c.is_memory.ensures.1 is in cc in
    rw c.error.ensures.source (refused_lent (formats_of d.formats) d.levels g.R.Source.lends (g.R.Source.source d.source) (g.R.Source.at_hand d.source) c.requires.shows g.R.Source.refusals c.args.error c.requires.found c.error.result (g.R.Source.source c.skip.new.self.source) other c.in-Err.ensures.read.took)

pub returns-in-Ok-clause-fault : goal.returns-in-Ok-clause-fault
returns-in-Ok-clause-fault g c =
    let d = c.args.decoder.now in
    said_if_any g.R.Source.refusals (g.R.Source.source d.source) c.message.result (any_item d.levels) (Some (codes "invalid type: expected an item that the input lends")) c.message.ensures.code c.message.ensures.offset

pub returns-clause-fault : goal.returns-clause-fault
returns-clause-fault g c =
    let d = c.args.decoder.now in
    passed_told g.R.Source.refusals d.levels (g.R.Source.source d.source) c.error.result {t = g.R.Source.source c.skip.new.self.source} (formats_of d.formats) c.skip.new.self.refusal c.in-Err.refused c.error.ensures.reports c.in-Err.ensures.read
