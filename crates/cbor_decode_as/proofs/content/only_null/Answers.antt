use Rattle.std.proofs.Common.{ℕ, Ok, Err, subst}
use Rattle.std.proofs.lemmas.Result.{err_from_is_err_and}
use Rattle.cbor_model.specs.Readable.{PassesTags, IsUnit}
use Rattle.cbor_decode.specs.declared.formats.Formats.{Formats}
use Rattle.cbor_decode_as.specs.Takes.{formats_of, TakesItem}
use Rattle.cbor_decode_as.proofs.enums.VariantParts.{none_comes, item_lacks, end_left, only_taken}
use Rattle.cbor_decode_as.specs.Takes.{ItemFault, MemoryFor}
use Rattle.cbor_decode_as.proofs.enums.ContentFaults.{end_content, end_there, first_content, first_memory, too_long_content, unasked_content}
use Rattle.cbor_decode_as.proofs.refused.Faults.{whole_if_any}
use Rattle.cbor_decode_as.proofs.content.only_null.Goals as goal

pub returns-in_err-expect_item-clause-read : goal.returns-in_err-expect_item-clause-read
returns-in_err-expect_item-clause-read g c =
    let passed = err_from_is_err_and c.from_residual.result c.from_residual.ensures.1 in
    let old = c.args.decoder.now in
    rw (passed.1, passed.2) (none_comes (PassesTags IsUnit) (formats_of old.formats) old.levels c.args.remaining c.args.remaining g.R.Source.refusals (g.R.Source.source old.source) c.in_err-expect_item.field-0.0 c.in_err-expect_item.ensures.read)

pub returns-in_err-read_unit-clause-read : goal.returns-in_err-read_unit-clause-read
returns-in_err-read_unit-clause-read g c =
    let passed = err_from_is_err_and c.from_residual-in_err-read_unit.result c.from_residual-in_err-read_unit.ensures.1 in
    let old = c.args.decoder.now in
    let mid = c.expect_item.new.decoder in
    let s = g.R.Source.source old.source in
    let a = g.R.Source.source mid.source in
    let e = c.in_err-read_unit.field-0.0 in
    let at = subst (λ (f : Formats). TakesItem g.R.Source.refusals (formats_of f) (PassesTags IsUnit) mid.levels a (g.R.Source.source c.read_unit.new.decoder.source) (Err e)) c.in_ok-expect_item.ensures.settings.formats c.in_err-read_unit.ensures.read in
    let here = subst (λ (n : ℕ). TakesItem g.R.Source.refusals (formats_of old.formats) (PassesTags IsUnit) n a (g.R.Source.source c.read_unit.new.decoder.source) (Err e)) c.in_ok-expect_item.ensures.settings.levels at in
    rw (passed.1, passed.2) (item_lacks (PassesTags IsUnit) (formats_of old.formats) old.levels c.args.remaining c.expect_item.new.remaining g.R.Source.refusals s e a c.in_ok-expect_item.ensures.read here)

pub returns-in_err-end-clause-read : goal.returns-in_err-end-clause-read
returns-in_err-end-clause-read g c =
    let passed = err_from_is_err_and c.from_residual-in_err-end.result c.from_residual-in_err-end.ensures.1 in
    let old = c.args.decoder.now in
    let mid = c.expect_item.new.decoder in
    let s = g.R.Source.source old.source in
    let a = g.R.Source.source mid.source in
    let b = g.R.Source.source c.read_unit.new.decoder.source in
    let x = tt in
    let at = subst (λ (f : Formats). TakesItem g.R.Source.refusals (formats_of f) (PassesTags IsUnit) mid.levels a b (Ok x)) c.in_ok-expect_item.ensures.settings.formats c.in_ok-read_unit.ensures.read in
    let here = subst (λ (n : ℕ). TakesItem g.R.Source.refusals (formats_of old.formats) (PassesTags IsUnit) n a b (Ok x)) c.in_ok-expect_item.ensures.settings.levels at in
    rw (passed.1, passed.2) (end_left (PassesTags IsUnit) old.formats old.levels c.args.remaining c.expect_item.new.remaining g.R.Source.refusals s a b (g.R.Source.source c.end.new.decoder.source) x c.in_err-end.field-0.0 c.in_ok-expect_item.ensures.read here c.in_err-end.ensures.read)

pub returns-clause-read : goal.returns-clause-read
returns-clause-read g c =
    let old = c.args.decoder.now in
    let mid = c.expect_item.new.decoder in
    let s = g.R.Source.source old.source in
    let a = g.R.Source.source mid.source in
    let b = g.R.Source.source c.read_unit.new.decoder.source in
    let x = tt in
    let at = subst (λ (f : Formats). TakesItem g.R.Source.refusals (formats_of f) (PassesTags IsUnit) mid.levels a b (Ok x)) c.in_ok-expect_item.ensures.settings.formats c.in_ok-read_unit.ensures.read in
    let here = subst (λ (n : ℕ). TakesItem g.R.Source.refusals (formats_of old.formats) (PassesTags IsUnit) n a b (Ok x)) c.in_ok-expect_item.ensures.settings.levels at in
    only_taken (PassesTags IsUnit) (formats_of old.formats) old.levels c.args.remaining c.expect_item.new.remaining s a b (g.R.Source.source c.end.new.decoder.source) x c.in_ok-expect_item.ensures.read here c.in_ok-end.ensures.read

-- ---- the fault

pub returns-in_err-expect_item-clause-fault : goal.returns-in_err-expect_item-clause-fault
returns-in_err-expect_item-clause-fault g c =
    let passed = err_from_is_err_and c.from_residual.result c.from_residual.ensures.1 in
    let old = c.args.decoder.now in
    rw (passed.1, passed.2) (too_long_content g.R.Source.refusals old.levels (g.R.Source.source old.source) c.in_err-expect_item.field-0.0 c.args.remaining c.in_err-expect_item.ensures.fault)

pub returns-in_err-read_unit-clause-fault : goal.returns-in_err-read_unit-clause-fault
returns-in_err-read_unit-clause-fault g c =
    let passed = err_from_is_err_and c.from_residual-in_err-read_unit.result c.from_residual-in_err-read_unit.ensures.1 in
    let old = c.args.decoder.now in
    let mid = c.expect_item.new.decoder in
    let s = g.R.Source.source old.source in
    let a = g.R.Source.source mid.source in
    let e = c.in_err-read_unit.field-0.0 in
    let there = whole_if_any g.R.Source.refusals a e mid.levels c.in_err-read_unit.ensures.fault in
    let here = subst (λ (n : ℕ). ItemFault g.R.Source.refusals n a e) c.in_ok-expect_item.ensures.settings.levels there in
    rw (passed.1, passed.2) (first_content g.R.Source.refusals old.levels s e c.args.remaining a c.expect_item.new.remaining c.in_ok-expect_item.ensures.read here)

pub returns-in_err-end-clause-fault : goal.returns-in_err-end-clause-fault
returns-in_err-end-clause-fault g c =
    let passed = err_from_is_err_and c.from_residual-in_err-end.result c.from_residual-in_err-end.ensures.1 in
    let old = c.args.decoder.now in
    let mid = c.expect_item.new.decoder in
    let s = g.R.Source.source old.source in
    let a = g.R.Source.source mid.source in
    let b = g.R.Source.source c.read_unit.new.decoder.source in
    let e = c.in_err-end.field-0.0 in
    let x = tt in
    let at = subst (λ (f : Formats). TakesItem g.R.Source.refusals (formats_of f) (PassesTags IsUnit) mid.levels a b (Ok x)) c.in_ok-expect_item.ensures.settings.formats c.in_ok-read_unit.ensures.read in
    let here = subst (λ (n : ℕ). TakesItem g.R.Source.refusals (formats_of old.formats) (PassesTags IsUnit) n a b (Ok x)) c.in_ok-expect_item.ensures.settings.levels at in
    rw (passed.1, passed.2) (end_content g.R.Source.refusals old.levels s e c.args.remaining (PassesTags IsUnit) (formats_of old.formats)
    (end_there g.R.Source.refusals old.levels s e c.args.remaining a c.expect_item.new.remaining c.in_ok-expect_item.ensures.read (PassesTags IsUnit) (formats_of old.formats) b x here c.in_err-end.ensures.read.1))

-- ---- memory

pub returns-in_err-expect_item-clause-memory : goal.returns-in_err-expect_item-clause-memory
returns-in_err-expect_item-clause-memory g c =
    let passed = err_from_is_err_and c.from_residual.result c.from_residual.ensures.1 in
    let old = c.args.decoder.now in
    rw (passed.1, passed.2) (unasked_content g.R.Source.refusals old.levels (g.R.Source.source old.source) c.in_err-expect_item.field-0.0 c.args.remaining (λ r. ⊥) (formats_of old.formats) (PassesTags IsUnit) c.in_err-expect_item.ensures.memory)

pub returns-in_err-read_unit-clause-memory : goal.returns-in_err-read_unit-clause-memory
returns-in_err-read_unit-clause-memory g c =
    let passed = err_from_is_err_and c.from_residual-in_err-read_unit.result c.from_residual-in_err-read_unit.ensures.1 in
    let old = c.args.decoder.now in
    let mid = c.expect_item.new.decoder in
    let s = g.R.Source.source old.source in
    let a = g.R.Source.source mid.source in
    let e = c.in_err-read_unit.field-0.0 in
    let there = subst (λ (f : Formats). MemoryFor (λ r. ⊥) (formats_of f) (PassesTags IsUnit) mid.levels a e) c.in_ok-expect_item.ensures.settings.formats c.in_err-read_unit.ensures.memory in
    let here = subst (λ (n : ℕ). MemoryFor (λ r. ⊥) (formats_of old.formats) (PassesTags IsUnit) n a e) c.in_ok-expect_item.ensures.settings.levels there in
    rw (passed.1, passed.2) (first_memory g.R.Source.refusals old.levels s e c.args.remaining a c.expect_item.new.remaining c.in_ok-expect_item.ensures.read (λ r. ⊥) (formats_of old.formats) (PassesTags IsUnit) here)

pub returns-in_err-end-clause-memory : goal.returns-in_err-end-clause-memory
returns-in_err-end-clause-memory g c =
    let passed = err_from_is_err_and c.from_residual-in_err-end.result c.from_residual-in_err-end.ensures.1 in
    let old = c.args.decoder.now in
    rw (passed.1, passed.2) (unasked_content g.R.Source.refusals old.levels (g.R.Source.source old.source) c.in_err-end.field-0.0 c.args.remaining (λ r. ⊥) (formats_of old.formats) (PassesTags IsUnit) c.in_err-end.ensures.memory)
