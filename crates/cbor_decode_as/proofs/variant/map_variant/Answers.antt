use Rattle.std.proofs.Common.{Ok, Err, ap, subst}
use Rattle.std.proofs.lemmas.Result.{err_from_is_err_and}
use Rattle.cbor_model.specs.Formats.{Formats}
use Rattle.cbor_decode_as.specs.Enums.{IsName}
use Rattle.cbor_decode_as.specs.Identifiers.{texts}
use Rattle.cbor_decode_as.specs.Takes.{formats_of, TakesItem}
use Rattle.cbor_decode_as.proofs.enums.VariantPairs.{map_taken, map_not_named, map_head_refused}
use Rattle.cbor_decode_as.proofs.enums.VariantForms.{pair_refused, key_refused, map_begun}
use Rattle.cbor_read.specs.Source.{asks_for}
use Rattle.cbor_decode_as.specs.BeginsEnum.{MemoryForIdentifier}
use Rattle.cbor_decode_as.specs.Strings.{IsAskedString}
use Rattle.cbor_decode_as.proofs.enums.VariantFaults.{pair_fault, pair_key_fault}
use Rattle.cbor_decode_as.proofs.enums.VariantMemory.{key_memory, pair_memory}
use Rattle.cbor_decode_as.proofs.variant.map_variant.Goals as goal

pub returns-in_err-index-clause-read : goal.returns-in_err-index-clause-read
returns-in_err-index-clause-read g c =
    let passed = err_from_is_err_and c.from_residual.result c.from_residual.ensures.1 in
    let old = c.args.decoder.now in
    let mid = c.pair_head.new.decoder in
    let a = g.R.Source.source mid.source in
    let t = g.R.Source.source c.variant_name.new.decoder.source in
    let e = c.in_err-index.field-0.0 in
    let names = texts c.args.names.now in
    let read = subst (λ (f : Formats). TakesItem g.R.Source.refusals f (IsName names) mid.levels a t (Err e)) (ap formats_of c.in-Ok.ensures.formats) c.in_err-index.ensures.read in
    rw (passed.1, passed.2) (map_not_named (formats_of old.formats) names old.levels mid.levels c.in-Ok.ensures.inside (g.R.Source.source old.source) a c.in-Ok.ensures.read g.R.Source.refusals e read)

pub returns-clause-read : goal.returns-clause-read
returns-clause-read g c =
    let old = c.args.decoder.now in
    let mid = c.pair_head.new.decoder in
    let new = c.variant_name.new.decoder in
    let a = g.R.Source.source mid.source in
    let t = g.R.Source.source new.source in
    let i = c.in_ok-index.index in
    let names = texts c.args.names.now in
    let read = subst (λ (f : Formats). TakesItem g.R.Source.refusals f (IsName names) mid.levels a t (Ok i)) (ap formats_of c.in-Ok.ensures.formats) c.in_ok-index.ensures.read in
    map_taken (formats_of old.formats) names old.levels mid.levels c.in-Ok.ensures.inside (g.R.Source.source old.source) a c.in-Ok.ensures.read t new.levels i c.in_ok-index.ensures.settings.levels c.requires read

pub returns-in-Err-clause-read : goal.returns-in-Err-clause-read
returns-in-Err-clause-read g c =
    let old = c.args.decoder.now in
    rw c.error.ensures.source (map_head_refused (formats_of old.formats) (texts c.args.names.now) old.levels (g.R.Source.source old.source) g.R.Source.refusals c.pair_head.new.decoder.refusal c.in-Err.refused c.error.result c.error.ensures.reports c.in-Err.ensures.read)

-- ---- whatever follows

pub returns-in_err-index-clause-opened : goal.returns-in_err-index-clause-opened
returns-in_err-index-clause-opened g c =
    let passed = err_from_is_err_and c.from_residual.result c.from_residual.ensures.1 in
    let old = c.args.decoder.now in
    let mid = c.pair_head.new.decoder in
    let a = g.R.Source.source mid.source in
    let t = g.R.Source.source c.variant_name.new.decoder.source in
    let e = c.in_err-index.field-0.0 in
    let names = texts c.args.names.now in
    let read = subst (λ (f : Formats). TakesItem g.R.Source.refusals f (IsName names) mid.levels a t (Err e)) (ap formats_of c.in-Ok.ensures.formats) c.in_err-index.ensures.read in
    rw (passed.1, passed.2) (key_refused (formats_of old.formats) names old.levels (g.R.Source.source old.source) a mid.levels c.in-Ok.ensures.inside c.in-Ok.ensures.read g.R.Source.refusals e read)

pub returns-clause-opened : goal.returns-clause-opened
returns-clause-opened g c =
    let old = c.args.decoder.now in
    let mid = c.pair_head.new.decoder in
    let new = c.variant_name.new.decoder in
    let a = g.R.Source.source mid.source in
    let t = g.R.Source.source new.source in
    let i = c.in_ok-index.index in
    let names = texts c.args.names.now in
    let read = subst (λ (f : Formats). TakesItem g.R.Source.refusals f (IsName names) mid.levels a t (Ok i)) (ap formats_of c.in-Ok.ensures.formats) c.in_ok-index.ensures.read in
    map_begun (formats_of old.formats) names old.levels (g.R.Source.source old.source) a mid.levels c.in-Ok.ensures.inside c.in-Ok.ensures.read t new.levels i c.in_ok-index.ensures.settings.levels c.requires read

pub returns-in-Err-clause-opened : goal.returns-in-Err-clause-opened
returns-in-Err-clause-opened g c =
    let old = c.args.decoder.now in
    rw c.error.ensures.source (pair_refused (formats_of old.formats) (texts c.args.names.now) old.levels (g.R.Source.source old.source) g.R.Source.refusals c.pair_head.new.decoder.refusal c.in-Err.refused c.error.result c.error.ensures.reports c.in-Err.ensures.read)

-- ---- the fault, and memory

pub returns-in_err-index-clause-fault : goal.returns-in_err-index-clause-fault
returns-in_err-index-clause-fault g c =
    let passed = err_from_is_err_and c.from_residual.result c.from_residual.ensures.1 in
    let old = c.args.decoder.now in
    let mid = c.pair_head.new.decoder in
    rw (passed.1, passed.2) (pair_key_fault g.R.Source.refusals old.levels (g.R.Source.source old.source) c.in_err-index.field-0.0 (formats_of old.formats) (g.R.Source.source mid.source) mid.levels c.in-Ok.ensures.inside c.in-Ok.ensures.read c.in_err-index.ensures.fault)

pub returns-in-Err-clause-fault : goal.returns-in-Err-clause-fault
returns-in-Err-clause-fault g c =
    let old = c.args.decoder.now in
    pair_fault g.R.Source.refusals old.levels (g.R.Source.source old.source) c.error.result (formats_of old.formats) c.pair_head.new.decoder.refusal c.in-Err.refused c.error.ensures.reports c.in-Err.ensures.read

pub returns-in_err-index-clause-memory : goal.returns-in_err-index-clause-memory
returns-in_err-index-clause-memory g c =
    let passed = err_from_is_err_and c.from_residual.result c.from_residual.ensures.1 in
    let old = c.args.decoder.now in
    let mid = c.pair_head.new.decoder in
    let a = g.R.Source.source mid.source in
    let e = c.in_err-index.field-0.0 in
    let names = texts c.args.names.now in
    let asks = IsAskedString (asks_for g.R.Source.refusals g.R.Source.lends) in
    let here = subst (λ (f : Formats). MemoryForIdentifier asks f names mid.levels a e) (ap formats_of c.in-Ok.ensures.formats) c.in_err-index.ensures.memory in
    rw (passed.1, passed.2) (key_memory asks (formats_of old.formats) names old.levels (g.R.Source.source old.source) e a mid.levels c.in-Ok.ensures.inside c.in-Ok.ensures.read here)

pub returns-in-Err-clause-memory : goal.returns-in-Err-clause-memory
returns-in-Err-clause-memory g c =
    let old = c.args.decoder.now in
    pair_memory (IsAskedString (asks_for g.R.Source.refusals g.R.Source.lends)) (formats_of old.formats) (texts c.args.names.now) old.levels (g.R.Source.source old.source) c.error.result c.pair_head.new.decoder.refusal c.in-Err.refused c.error.ensures.reports c.in-Err.ensures.memory
