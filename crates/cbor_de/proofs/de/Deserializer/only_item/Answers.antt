use Rattle.std.proofs.Common.{ℕ, Ok, Err, inl, inr, subst}
use Rattle.std.proofs.lemmas.Result.{err_from_is_err_and}
use Rattle.cbor_decode.specs.declared.formats.Formats.{Formats}
use Rattle.cbor_decode_as.specs.Takes.{context, formats_of, TakesItem}
use Rattle.cbor_decode_as.proofs.facts.Enums.{none_comes, item_lacks, end_left, only_taken}
use Rattle.cbor_de.proofs.refusals.Forms.{later_in, none_reported}
use Rattle.cbor_read.specs.Source.{asks_for}
use Rattle.cbor_decode_as.specs.Takes.{MemoryFor}
use Rattle.cbor_decode_as.proofs.facts.Enums.{end_there, first_memory, unasked_content}
use Rattle.cbor_de.specs.Access.{TypeFault}
use Rattle.cbor_de.proofs.de.Deserializer.only_item.Goals as goal

pub returns-in_err-expect_item-clause-read : goal.returns-in_err-expect_item-clause-read
returns-in_err-expect_item-clause-read g c =
    let passed = err_from_is_err_and c.from_residual.result c.from_residual.ensures.1 in
    let old = c.args.self.now in
    let reads = g.T.Readable.reads (context old.decoder.formats g.R.Source.lends) in
    rw (passed.1, passed.2) (none_comes reads (formats_of old.decoder.formats) old.decoder.levels c.args.remaining c.args.remaining g.R.Source.refusals (g.R.Source.source old.decoder.source) c.in_err-expect_item.field-0.0 c.in_err-expect_item.ensures.read)

pub returns-in_err-item-clause-read : goal.returns-in_err-item-clause-read
returns-in_err-item-clause-read g c =
    let passed = err_from_is_err_and c.from_residual-in_err-item.result c.from_residual-in_err-item.ensures.1 in
    let old = c.args.self.now in
    let mid = c.expect_item.new.decoder in
    let s = g.R.Source.source old.decoder.source in
    let a = g.R.Source.source mid.source in
    let reads = λ (f : Formats). g.T.Readable.reads (context f g.R.Source.lends) in
    let e = c.in_err-item.field-0.0 in
    let at = subst (λ (f : Formats). TakesItem g.R.Source.refusals (formats_of f) (reads f) mid.levels a (g.R.Source.source c.deserialize.new.de.decoder.source) (Err e)) c.in_ok-expect_item.ensures.settings.formats c.in_err-item.ensures.read in
    let here = subst (λ (n : ℕ). TakesItem g.R.Source.refusals (formats_of old.decoder.formats) (reads old.decoder.formats) n a (g.R.Source.source c.deserialize.new.de.decoder.source) (Err e)) c.in_ok-expect_item.ensures.settings.levels at in
    rw (passed.1, passed.2) (item_lacks (reads old.decoder.formats) (formats_of old.decoder.formats) old.decoder.levels c.args.remaining c.expect_item.new.remaining g.R.Source.refusals s e a c.in_ok-expect_item.ensures.read here)

pub returns-in_err-end-clause-read : goal.returns-in_err-end-clause-read
returns-in_err-end-clause-read g c =
    let passed = err_from_is_err_and c.from_residual-in_err-end.result c.from_residual-in_err-end.ensures.1 in
    let old = c.args.self.now in
    let mid = c.expect_item.new.decoder in
    let s = g.R.Source.source old.decoder.source in
    let a = g.R.Source.source mid.source in
    let b = g.R.Source.source c.deserialize.new.de.decoder.source in
    let reads = λ (f : Formats). g.T.Readable.reads (context f g.R.Source.lends) in
    let x = c.in_ok-item.item in
    let at = subst (λ (f : Formats). TakesItem g.R.Source.refusals (formats_of f) (reads f) mid.levels a b (Ok x)) c.in_ok-expect_item.ensures.settings.formats c.in_ok-item.ensures.read in
    let here = subst (λ (n : ℕ). TakesItem g.R.Source.refusals (formats_of old.decoder.formats) (reads old.decoder.formats) n a b (Ok x)) c.in_ok-expect_item.ensures.settings.levels at in
    rw (passed.1, passed.2) (end_left (reads old.decoder.formats) old.decoder.formats old.decoder.levels c.args.remaining c.expect_item.new.remaining g.R.Source.refusals s a b (g.R.Source.source c.end.new.decoder.source) x c.in_err-end.field-0.0 c.in_ok-expect_item.ensures.read here c.in_err-end.ensures.read)

pub returns-clause-read : goal.returns-clause-read
returns-clause-read g c =
    let old = c.args.self.now in
    let mid = c.expect_item.new.decoder in
    let s = g.R.Source.source old.decoder.source in
    let a = g.R.Source.source mid.source in
    let b = g.R.Source.source c.deserialize.new.de.decoder.source in
    let reads = λ (f : Formats). g.T.Readable.reads (context f g.R.Source.lends) in
    let x = c.in_ok-item.item in
    let at = subst (λ (f : Formats). TakesItem g.R.Source.refusals (formats_of f) (reads f) mid.levels a b (Ok x)) c.in_ok-expect_item.ensures.settings.formats c.in_ok-item.ensures.read in
    let here = subst (λ (n : ℕ). TakesItem g.R.Source.refusals (formats_of old.decoder.formats) (reads old.decoder.formats) n a b (Ok x)) c.in_ok-expect_item.ensures.settings.levels at in
    only_taken (reads old.decoder.formats) (formats_of old.decoder.formats) old.decoder.levels c.args.remaining c.expect_item.new.remaining s a b (g.R.Source.source c.end.new.decoder.source) x c.in_ok-expect_item.ensures.read here c.in_ok-end.ensures.read

-- ---- a wrong form

pub returns-in_err-expect_item-clause-form : goal.returns-in_err-expect_item-clause-form
returns-in_err-expect_item-clause-form g c =
    let passed = err_from_is_err_and c.from_residual.result c.from_residual.ensures.1 in
    let e = c.in_err-expect_item.field-0.0 in
    rw (passed.1, passed.2) (none_reported g.T.Readable.wrong_forms (formats_of c.args.self.now.decoder.formats) c.args.remaining (g.R.Source.source c.args.self.now.decoder.source) e c.in_err-expect_item.ensures.none)

pub returns-in_err-item-clause-form : goal.returns-in_err-item-clause-form
returns-in_err-item-clause-form g c =
    let passed = err_from_is_err_and c.from_residual-in_err-item.result c.from_residual-in_err-item.ensures.1 in
    let e = c.in_err-item.field-0.0 in
    rw (passed.1, passed.2) (inl (later_in g.T.Readable.wrong_forms c.args.self.now.decoder.formats c.expect_item.new.decoder.formats _ _ e c.in_ok-expect_item.ensures.settings.formats c.in_ok-expect_item.ensures.read.took c.in_err-item.ensures.form))

-- ---- the fault

pub returns-in_err-expect_item-clause-fault : goal.returns-in_err-expect_item-clause-fault
returns-in_err-expect_item-clause-fault g c =
    let passed = err_from_is_err_and c.from_residual.result c.from_residual.ensures.1 in
    rw (passed.1, passed.2) (inl c.in_err-expect_item.ensures.fault)

pub returns-in_err-item-clause-fault : goal.returns-in_err-item-clause-fault
returns-in_err-item-clause-fault g c =
    let passed = err_from_is_err_and c.from_residual-in_err-item.result c.from_residual-in_err-item.ensures.1 in
    let old = c.args.self.now in
    let mid = c.expect_item.new.decoder in
    let a = g.R.Source.source mid.source in
    let e = c.in_err-item.field-0.0 in
    let told = TypeFault g.T.Readable.passes_over g.T.Readable.total g.T.Readable.reports_faults g.R.Source.refusals in
    let at = subst (λ (f : Formats). told (formats_of f) mid.levels a e) c.in_ok-expect_item.ensures.settings.formats (c.in_err-item.ensures.fault, c.in_err-item.ensures.own_fault) in
    let here = subst (λ (n : ℕ). told (formats_of old.decoder.formats) n a e) c.in_ok-expect_item.ensures.settings.levels at in
    rw (passed.1, passed.2) (inr (inl (record { behind = c.expect_item.new.remaining; place = a; step = c.in_ok-expect_item.ensures.read; holds = here })))

pub returns-in_err-end-clause-fault : goal.returns-in_err-end-clause-fault
returns-in_err-end-clause-fault g c =
    let passed = err_from_is_err_and c.from_residual-in_err-end.result c.from_residual-in_err-end.ensures.1 in
    let old = c.args.self.now in
    let mid = c.expect_item.new.decoder in
    let s = g.R.Source.source old.decoder.source in
    let a = g.R.Source.source mid.source in
    let b = g.R.Source.source c.deserialize.new.de.decoder.source in
    let reads = λ (f : Formats). g.T.Readable.reads (context f g.R.Source.lends) in
    let x = c.in_ok-item.item in
    let at = subst (λ (f : Formats). TakesItem g.R.Source.refusals (formats_of f) (reads f) mid.levels a b (Ok x)) c.in_ok-expect_item.ensures.settings.formats c.in_ok-item.ensures.read in
    let here = subst (λ (n : ℕ). TakesItem g.R.Source.refusals (formats_of old.decoder.formats) (reads old.decoder.formats) n a b (Ok x)) c.in_ok-expect_item.ensures.settings.levels at in
    rw (passed.1, passed.2) (inr (inr (end_there g.R.Source.refusals old.decoder.levels s c.in_err-end.field-0.0 c.args.remaining a c.expect_item.new.remaining c.in_ok-expect_item.ensures.read (reads old.decoder.formats) (formats_of old.decoder.formats) b x here c.in_err-end.ensures.read.1)))

-- ---- memory

pub returns-in_err-expect_item-clause-memory : goal.returns-in_err-expect_item-clause-memory
returns-in_err-expect_item-clause-memory g c =
    let passed = err_from_is_err_and c.from_residual.result c.from_residual.ensures.1 in
    let old = c.args.self.now in
    rw (passed.1, passed.2) (unasked_content g.R.Source.refusals old.decoder.levels (g.R.Source.source old.decoder.source) c.in_err-expect_item.field-0.0 c.args.remaining (g.T.Readable.asks_memory (asks_for g.R.Source.refusals g.R.Source.lends)) (formats_of old.decoder.formats) (g.T.Readable.reads (context old.decoder.formats g.R.Source.lends)) c.in_err-expect_item.ensures.memory)

pub returns-in_err-item-clause-memory : goal.returns-in_err-item-clause-memory
returns-in_err-item-clause-memory g c =
    let passed = err_from_is_err_and c.from_residual-in_err-item.result c.from_residual-in_err-item.ensures.1 in
    let old = c.args.self.now in
    let mid = c.expect_item.new.decoder in
    let s = g.R.Source.source old.decoder.source in
    let a = g.R.Source.source mid.source in
    let asks = g.T.Readable.asks_memory (asks_for g.R.Source.refusals g.R.Source.lends) in
    let reads = λ (f : Formats). g.T.Readable.reads (context f g.R.Source.lends) in
    let e = c.in_err-item.field-0.0 in
    let at = subst (λ (f : Formats). MemoryFor asks (formats_of f) (reads f) mid.levels a e) c.in_ok-expect_item.ensures.settings.formats c.in_err-item.ensures.memory in
    let here = subst (λ (n : ℕ). MemoryFor asks (formats_of old.decoder.formats) (reads old.decoder.formats) n a e) c.in_ok-expect_item.ensures.settings.levels at in
    rw (passed.1, passed.2) (first_memory g.R.Source.refusals old.decoder.levels s e c.args.remaining a c.expect_item.new.remaining c.in_ok-expect_item.ensures.read asks (formats_of old.decoder.formats) (reads old.decoder.formats) here)

pub returns-in_err-end-clause-memory : goal.returns-in_err-end-clause-memory
returns-in_err-end-clause-memory g c =
    let passed = err_from_is_err_and c.from_residual-in_err-end.result c.from_residual-in_err-end.ensures.1 in
    let old = c.args.self.now in
    rw (passed.1, passed.2) (unasked_content g.R.Source.refusals old.decoder.levels (g.R.Source.source old.decoder.source) c.in_err-end.field-0.0 c.args.remaining (g.T.Readable.asks_memory (asks_for g.R.Source.refusals g.R.Source.lends)) (formats_of old.decoder.formats) (g.T.Readable.reads (context old.decoder.formats g.R.Source.lends)) c.in_err-end.ensures.memory)
