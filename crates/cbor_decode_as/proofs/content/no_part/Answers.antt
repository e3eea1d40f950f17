use Rattle.std.proofs.lemmas.Result.{IfErr-weaker}
use Rattle.cbor_decode_as.specs.Contents.{ContentFault}
use Rattle.cbor_decode_as.specs.Takes.{RefusesWhole, formats_of}
use Rattle.cbor_decode_as.specs.declared.variant.Form.TheVariants as form
use Rattle.cbor_decode_as.proofs.enums.ContentFaults.{map_content}
use Rattle.cbor_decode_as.proofs.refused.Faults.{whole_if_any}
use Rattle.cbor_decode_as.proofs.enums.VariantParts.{nothing_in_array, nothing_in_map}
use Rattle.cbor_decode_as.proofs.content.no_part.Goals as goal

pub returns-in-Array-clause-read : goal.returns-in-Array-clause-read
returns-in-Array-clause-read g c =
    let old = c.args.decoder.now in
    rw c.in-Array.is (nothing_in_array (formats_of old.formats) old.levels (g.R.Source.source old.source) (g.R.Source.source c.only_null.new.decoder.source) g.R.Source.refusals c.in-Array.remaining c.only_null.result c.only_null.ensures.read)

pub returns-in-Map-clause-read : goal.returns-in-Map-clause-read
returns-in-Map-clause-read g c =
    let old = c.args.decoder.now in
    rw c.in-Map.is (nothing_in_map (formats_of old.formats) old.levels (g.R.Source.source old.source) (g.R.Source.source c.read_unit.new.decoder.source) g.R.Source.refusals c.read_unit.result c.read_unit.ensures.read)

-- ---- the fault, and memory

pub returns-in-Array-clause-fault : goal.returns-in-Array-clause-fault
returns-in-Array-clause-fault g c = rw c.in-Array.is c.only_null.ensures.fault

pub returns-in-Map-clause-fault : goal.returns-in-Map-clause-fault
returns-in-Map-clause-fault g c =
    let old = c.args.decoder.now in
    let s = g.R.Source.source old.source in
    rw c.in-Map.is (IfErr-weaker c.read_unit.result (RefusesWhole g.R.Source.refusals old.levels s) (ContentFault g.R.Source.refusals old.levels form.Map s)
    (λ e h. map_content g.R.Source.refusals old.levels s e (whole_if_any g.R.Source.refusals s e old.levels h)) c.read_unit.ensures.fault)

pub returns-in-Array-clause-memory : goal.returns-in-Array-clause-memory
returns-in-Array-clause-memory g c = rw c.in-Array.is c.only_null.ensures.memory

pub returns-in-Map-clause-memory : goal.returns-in-Map-clause-memory
returns-in-Map-clause-memory g c = rw c.in-Map.is c.read_unit.ensures.memory
