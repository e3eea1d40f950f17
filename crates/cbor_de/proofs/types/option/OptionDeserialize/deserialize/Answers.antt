use Rattle.std.proofs.Common.{◌≡◌, ℕ, Ok, Bool, false, subst}
use Rattle.cbor_model.specs.Reader.{item_at}
use Rattle.cbor_io.specs.Error.{code_of, offset_of}
use Rattle.cbor_decode.specs.Gives.{Step}
use Rattle.cbor_read.specs.Source.{asks_for}
use Rattle.cbor_decode_as.specs.Nulls.{null_at}
use Rattle.cbor_decode_as.specs.Takes.{raws, context, formats_of, IsRead, IsNotRead, MemoryFor, Refuses, RefusesWhole, WhereTotal}
use Rattle.cbor_decode.specs.declared.formats.Formats.{Formats}
use Rattle.cbor_decode_as.proofs.facts.Nulls.{option_none, option_some, option_refused, option_memory, option_whole, unseen_whole}
use Rattle.cbor_decode_as.proofs.facts.Refusals.{always, item_only, item_passes, whole_if_any}
use Rattle.cbor_de.proofs.refusals.Faults.{where_map}
use Rattle.cbor_de.proofs.refusals.Forms.{later_in}
use Rattle.cbor_de.specs.Calls.{reports_any}
use Rattle.cbor_de.proofs.refusals.OwnFaults.{item_fault, item_unless_null}
use Rattle.cbor_de.proofs.types.option.OptionDeserialize.deserialize.Goals as goal

pub returns-in-Ok-true-clause-read : goal.returns-in-Ok-true-clause-read
returns-in-Ok-true-clause-read g c =
    let de = c.args.de.now in
    let s = g.R.Source.source de.decoder.source in
    let t = g.R.Source.source c.take_null.new.decoder.source in
    let step = subst (λ (b : Bool). Step s t (λ l bs rest. null_at bs ≡ Ok (b, rest))) c.in-Ok-true.field-0-test c.in-Ok-true.ensures.read in
    option_none g.R.Source.refusals (formats_of de.decoder.formats) (g.T.Readable.reads (context de.decoder.formats g.R.Source.lends)) de.decoder.levels s t step

pub returns-in-Ok-clause-read : goal.returns-in-Ok-clause-read
returns-in-Ok-clause-read g c =
    let de = c.args.de.now in
    let s = g.R.Source.source de.decoder.source in
    let m = g.R.Source.source c.take_null.new.decoder.source in
    let t = g.R.Source.source c.deserialize.new.de.decoder.source in
    let step = subst (λ (b : Bool). Step s m (λ l bs rest. null_at bs ≡ Ok (b, rest))) c.in-Ok-false.field-0-test c.in-Ok-false.ensures.read in
    let x = c.in-Ok.value in
    let taken = subst (λ (n : ℕ). Step m t (λ l bs rest. IsRead (g.T.Readable.reads (context de.decoder.formats g.R.Source.lends)) (item_at (raws (formats_of de.decoder.formats) l) n bs) x rest)) c.in-Ok-false.ensures.settings.levels
    (subst (λ (k : Formats). Step m t (λ l bs rest. IsRead (g.T.Readable.reads (context k g.R.Source.lends)) (item_at (raws (formats_of k) l) c.take_null.new.decoder.levels bs) x rest)) c.in-Ok-false.ensures.settings.formats c.in-Ok.ensures.read) in
    option_some g.R.Source.refusals (formats_of de.decoder.formats) (g.T.Readable.reads (context de.decoder.formats g.R.Source.lends)) de.decoder.levels s m t x step taken

pub returns-in-Err-deserialize-clause-read : goal.returns-in-Err-deserialize-clause-read
returns-in-Err-deserialize-clause-read g c =
    let de = c.args.de.now in
    let s = g.R.Source.source de.decoder.source in
    let m = g.R.Source.source c.take_null.new.decoder.source in
    let t = g.R.Source.source c.deserialize.new.de.decoder.source in
    let step = subst (λ (b : Bool). Step s m (λ l bs rest. null_at bs ≡ Ok (b, rest))) c.in-Ok-false.field-0-test c.in-Ok-false.ensures.read in
    let k = code_of c.in-Err-deserialize.e in
    let at = offset_of c.in-Err-deserialize.e in
    let stops = subst (λ (n : ℕ). Refuses g.R.Source.refusals m t k at (λ l bs. IsNotRead (g.T.Readable.reads (context de.decoder.formats g.R.Source.lends)) (item_at (raws (formats_of de.decoder.formats) l) n bs))) c.in-Ok-false.ensures.settings.levels
    (subst (λ (f : Formats). Refuses g.R.Source.refusals m t k at (λ l bs. IsNotRead (g.T.Readable.reads (context f g.R.Source.lends)) (item_at (raws (formats_of f) l) c.take_null.new.decoder.levels bs))) c.in-Ok-false.ensures.settings.formats c.in-Err-deserialize.ensures.read) in
    option_refused g.R.Source.refusals (formats_of de.decoder.formats) (g.T.Readable.reads (context de.decoder.formats g.R.Source.lends)) de.decoder.levels s m k at step stops

pub returns-in-Err-deserialize-clause-memory : goal.returns-in-Err-deserialize-clause-memory
returns-in-Err-deserialize-clause-memory g c =
    let de = c.args.de.now in
    let s = g.R.Source.source de.decoder.source in
    let m = g.R.Source.source c.take_null.new.decoder.source in
    let step = subst (λ (b : Bool). Step s m (λ l bs rest. null_at bs ≡ Ok (b, rest))) c.in-Ok-false.field-0-test c.in-Ok-false.ensures.read in
    let e = c.in-Err-deserialize.e in
    let asks = g.T.Readable.asks_memory (asks_for g.R.Source.refusals g.R.Source.lends) in
    let reads = λ (f : Formats). g.T.Readable.reads (context f g.R.Source.lends) in
    let behind = subst (λ (n : ℕ). MemoryFor asks (formats_of de.decoder.formats) (reads de.decoder.formats) n m e) c.in-Ok-false.ensures.settings.levels
    (subst (λ (f : Formats). MemoryFor asks (formats_of f) (reads f) c.take_null.new.decoder.levels m e) c.in-Ok-false.ensures.settings.formats c.in-Err-deserialize.ensures.memory) in
    option_memory g.R.Source.refusals (formats_of de.decoder.formats) (reads de.decoder.formats) de.decoder.levels s asks m e step behind

pub returns-in-Err-clause-fault : goal.returns-in-Err-clause-fault
returns-in-Err-clause-fault g c =
    let de = c.args.de.now in
    let levels = de.decoder.levels in
    let s = g.R.Source.source de.decoder.source in
    let f = formats_of de.decoder.formats in
    let e = c.error.result in
    let whole = unseen_whole g.R.Source.refusals levels s c.take_null.new.decoder.refusal c.in-Err.refused e c.in-Err.ensures.read c.error.ensures.reports in
    item_only g.T.Readable.passes_over false g.R.Source.refusals f levels s e (always g.T.Readable.passes_over whole)

pub returns-in-Err-deserialize-clause-fault : goal.returns-in-Err-deserialize-clause-fault
returns-in-Err-deserialize-clause-fault g c =
    let de = c.args.de.now in
    let levels = de.decoder.levels in
    let s = g.R.Source.source de.decoder.source in
    let f = formats_of de.decoder.formats in
    let mid = c.take_null.new.decoder in
    let m = g.R.Source.source mid.source in
    let step = subst (λ (b : Bool). Step s m (λ l bs rest. null_at bs ≡ Ok (b, rest))) c.in-Ok-false.field-0-test c.in-Ok-false.ensures.read in
    let e = c.in-Err-deserialize.e in
    let passes = g.T.Readable.passes_over in
    let there = item_passes passes g.T.Readable.total g.R.Source.refusals (formats_of mid.formats) mid.levels m e c.in-Err-deserialize.ensures.fault in
    let here = subst (λ (n : ℕ). WhereTotal passes (RefusesWhole g.R.Source.refusals n m e)) c.in-Ok-false.ensures.settings.levels there in
    item_only passes false g.R.Source.refusals f levels s e (where_map passes (option_whole g.R.Source.refusals levels s m e step) here)

pub returns-in-Err-deserialize-clause-form : goal.returns-in-Err-deserialize-clause-form
returns-in-Err-deserialize-clause-form g c =
    later_in g.T.Readable.wrong_forms c.args.de.now.decoder.formats c.take_null.new.decoder.formats _ _ c.in-Err-deserialize.e c.in-Ok-false.ensures.settings.formats c.in-Ok-false.ensures.read.took c.in-Err-deserialize.ensures.form

pub returns-in-Err-clause-own_fault : goal.returns-in-Err-clause-own_fault
returns-in-Err-clause-own_fault g c =
    let de = c.args.de.now in
    let levels = de.decoder.levels in
    let s = g.R.Source.source de.decoder.source in
    let t = g.T.Readable in
    let e = c.error.result in
    let whole = unseen_whole g.R.Source.refusals levels s c.take_null.new.decoder.refusal c.in-Err.refused e c.in-Err.ensures.read c.error.ensures.reports in
    always (reports_any t.passes_over t.total t.reports_faults) (whole_if_any g.R.Source.refusals s e levels whole)

pub returns-in-Err-deserialize-clause-own_fault : goal.returns-in-Err-deserialize-clause-own_fault
returns-in-Err-deserialize-clause-own_fault g c =
    let de = c.args.de.now in
    let s = g.R.Source.source de.decoder.source in
    let mid = c.take_null.new.decoder in
    let m = g.R.Source.source mid.source in
    let step = subst (λ (b : Bool). Step s m (λ l bs rest. null_at bs ≡ Ok (b, rest))) c.in-Ok-false.field-0-test c.in-Ok-false.ensures.read in
    let e = c.in-Err-deserialize.e in
    let t = g.T.Readable in
    where_map (reports_any t.passes_over t.total t.reports_faults) (item_unless_null g.R.Source.refusals de.decoder.levels mid.levels c.in-Ok-false.ensures.settings.levels s m e step)
    (item_fault g.R.Source.refusals m e mid.levels (formats_of mid.formats) t.passes_over t.total t.reports_faults c.in-Err-deserialize.ensures.fault c.in-Err-deserialize.ensures.own_fault)
