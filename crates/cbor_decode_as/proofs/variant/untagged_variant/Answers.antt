use Rattle.std.proofs.Common.{ℕ, Err, ap, subst}
use Rattle.std.proofs.lemmas.Result.{err_from_is_err_and}
use Rattle.cbor_model.specs.Formats.{Formats}
use Rattle.cbor_decode.specs.Gives.{Step}
use Rattle.cbor_decode.proofs.facts.Steps.{took_same, some_then}
use Rattle.cbor_decode_as.specs.Identifiers.{texts}
use Rattle.cbor_decode_as.specs.Takes.{formats_of}
use Rattle.cbor_decode_as.specs.Variants.{TakesShaped, HasShape, IsAlone, IsShaped}
use Rattle.cbor_decode_as.specs.declared.variant.Shape.{Shape}
use Rattle.cbor_decode_as.specs.declared.variant.Shape.TheVariants as shape
use Rattle.cbor_decode_as.proofs.enums.VariantShapes.{shaped_then, no_shape, unassigned_shape}
use Rattle.cbor_decode_as.specs.BeginsEnum.{TakesFormOf}
use Rattle.cbor_decode_as.proofs.enums.VariantForms.{form_refused, form_then, unassigned_form}
use Rattle.std.proofs.lemmas.Result.{IfErr-weaker}
use Rattle.cbor_read.specs.Source.{asks_for}
use Rattle.cbor_decode_as.specs.Strings.{IsAskedString}
use Rattle.cbor_decode_as.specs.BeginsEnum.{FaultOfForm, MemoryForForm, MemoryForFormOf}
use Rattle.cbor_decode_as.specs.Takes.{ItemFault}
use Rattle.cbor_decode_as.proofs.enums.VariantFaults.{shaped_fault, unassigned_fault}
use Rattle.cbor_decode_as.proofs.enums.VariantMemory.{shaped_memory, unasked_memory, unassigned_memory}
use Rattle.cbor_decode_as.proofs.variant.untagged_variant.Goals as goal

pub returns-in_err-enum_shape-clause-read : goal.returns-in_err-enum_shape-clause-read
returns-in_err-enum_shape-clause-read g c =
    let passed = err_from_is_err_and c.from_residual.result c.from_residual.ensures.1 in
    let old = c.args.decoder.now in
    rw (passed.1, passed.2) (no_shape (formats_of old.formats) (texts c.args.names.now) g.R.Source.refusals old.levels (g.R.Source.source old.source) c.in_err-enum_shape.field-0.0 c.in_err-enum_shape.ensures.read)

pub returns-in-Array-clause-read : goal.returns-in-Array-clause-read
returns-in-Array-clause-read g c =
    let old = c.args.decoder.now in
    let mid = c.enum_shape.new.decoder in
    let new = c.array_variant.new.decoder in
    let s = g.R.Source.source old.source in
    let a = g.R.Source.source mid.source in
    let t = g.R.Source.source new.source in
    let names = texts c.args.names.now in
    let shaped = subst (λ (x : Shape). Step s a (λ l bs rest. IsShaped x bs rest)) c.in-Array.is c.in_ok-enum_shape.ensures.read.0 in
    let read = subst (λ (f : Formats). TakesShaped (HasShape shape.Array) g.R.Source.refusals f names mid.levels a t new.levels c.array_variant.result) (ap formats_of c.in_ok-enum_shape.ensures.settings.formats) c.array_variant.ensures.read in
    let here = subst (λ (n : ℕ). TakesShaped (HasShape shape.Array) g.R.Source.refusals (formats_of old.formats) names n a t new.levels c.array_variant.result) c.in_ok-enum_shape.ensures.settings.levels read in
    shaped_then (formats_of old.formats) names old.levels g.R.Source.refusals s a shape.Array (HasShape shape.Array) (λ bs none is. is) shaped t new.levels c.array_variant.result here

pub returns-in-Map-clause-read : goal.returns-in-Map-clause-read
returns-in-Map-clause-read g c =
    let old = c.args.decoder.now in
    let mid = c.enum_shape.new.decoder in
    let new = c.map_variant.new.decoder in
    let s = g.R.Source.source old.source in
    let a = g.R.Source.source mid.source in
    let t = g.R.Source.source new.source in
    let names = texts c.args.names.now in
    let shaped = subst (λ (x : Shape). Step s a (λ l bs rest. IsShaped x bs rest)) c.in-Map.is c.in_ok-enum_shape.ensures.read.0 in
    let read = subst (λ (f : Formats). TakesShaped (HasShape shape.Map) g.R.Source.refusals f names mid.levels a t new.levels c.map_variant.result) (ap formats_of c.in_ok-enum_shape.ensures.settings.formats) c.map_variant.ensures.read in
    let here = subst (λ (n : ℕ). TakesShaped (HasShape shape.Map) g.R.Source.refusals (formats_of old.formats) names n a t new.levels c.map_variant.result) c.in_ok-enum_shape.ensures.settings.levels read in
    shaped_then (formats_of old.formats) names old.levels g.R.Source.refusals s a shape.Map (HasShape shape.Map) (λ bs none is. is) shaped t new.levels c.map_variant.result here

pub returns-in-Alone-clause-read : goal.returns-in-Alone-clause-read
returns-in-Alone-clause-read g c =
    let old = c.args.decoder.now in
    let mid = c.enum_shape.new.decoder in
    let new = c.name_alone.new.decoder in
    let s = g.R.Source.source old.source in
    let a = g.R.Source.source mid.source in
    let t = g.R.Source.source new.source in
    let names = texts c.args.names.now in
    let shaped = subst (λ (x : Shape). Step s a (λ l bs rest. IsShaped x bs rest)) c.in-Alone.is c.in_ok-enum_shape.ensures.read.0 in
    let read = subst (λ (f : Formats). TakesShaped IsAlone g.R.Source.refusals f names mid.levels a t new.levels c.name_alone.result) (ap formats_of c.in_ok-enum_shape.ensures.settings.formats) c.name_alone.ensures.read in
    let here = subst (λ (n : ℕ). TakesShaped IsAlone g.R.Source.refusals (formats_of old.formats) names n a t new.levels c.name_alone.result) c.in_ok-enum_shape.ensures.settings.levels read in
    shaped_then (formats_of old.formats) names old.levels g.R.Source.refusals s a shape.Alone IsAlone (λ bs none is. (none, is)) shaped t new.levels c.name_alone.result here

pub returns-in-Unassigned-clause-read : goal.returns-in-Unassigned-clause-read
returns-in-Unassigned-clause-read g c =
    let old = c.args.decoder.now in
    let new = c.error.new.self in
    let s = g.R.Source.source old.source in
    let a = g.R.Source.source c.enum_shape.new.decoder.source in
    let t = g.R.Source.source new.source in
    let names = texts c.args.names.now in
    let took = some_then _ _ _ c.unassigned_byte-refused.ensures.read.took (took_same (ap g.R.Source.source c.error.ensures.source)) in
    let shaped = subst (λ (x : Shape). Step s a (λ l bs rest. IsShaped x bs rest)) c.in-Unassigned.is c.in_ok-enum_shape.ensures.read.0 in
    shaped_then (formats_of old.formats) names old.levels g.R.Source.refusals s a shape.Unassigned (HasShape shape.Unassigned) (λ bs none is. is) shaped t new.levels (Err c.error.result)
    (unassigned_shape (formats_of old.formats) names g.R.Source.refusals old.levels a t c.error.result took)

-- ---- whatever follows

pub returns-in_err-enum_shape-clause-opened : goal.returns-in_err-enum_shape-clause-opened
returns-in_err-enum_shape-clause-opened g c =
    let passed = err_from_is_err_and c.from_residual.result c.from_residual.ensures.1 in
    let old = c.args.decoder.now in
    let s = g.R.Source.source old.source in
    rw (passed.1, passed.2) (form_refused g.R.Source.refusals (formats_of old.formats) (texts c.args.names.now) old.levels s (g.R.Source.source c.enum_shape.new.decoder.source) c.in_err-enum_shape.field-0.0 c.in_err-enum_shape.ensures.read)

pub returns-in-Array-clause-opened : goal.returns-in-Array-clause-opened
returns-in-Array-clause-opened g c =
    let old = c.args.decoder.now in
    let mid = c.enum_shape.new.decoder in
    let new = c.array_variant.new.decoder in
    let s = g.R.Source.source old.source in
    let a = g.R.Source.source mid.source in
    let t = g.R.Source.source new.source in
    let names = texts c.args.names.now in
    let shaped = subst (λ (x : Shape). Step s a (λ l bs rest. IsShaped x bs rest)) c.in-Array.is c.in_ok-enum_shape.ensures.read.0 in
    let read = subst (λ (f : Formats). TakesFormOf shape.Array g.R.Source.refusals f names mid.levels a t new.levels c.array_variant.result) (ap formats_of c.in_ok-enum_shape.ensures.settings.formats) c.array_variant.ensures.opened in
    let here = subst (λ (n : ℕ). TakesFormOf shape.Array g.R.Source.refusals (formats_of old.formats) names n a t new.levels c.array_variant.result) c.in_ok-enum_shape.ensures.settings.levels read in
    form_then g.R.Source.refusals (formats_of old.formats) names old.levels s a shape.Array shaped t new.levels c.array_variant.result here

pub returns-in-Map-clause-opened : goal.returns-in-Map-clause-opened
returns-in-Map-clause-opened g c =
    let old = c.args.decoder.now in
    let mid = c.enum_shape.new.decoder in
    let new = c.map_variant.new.decoder in
    let s = g.R.Source.source old.source in
    let a = g.R.Source.source mid.source in
    let t = g.R.Source.source new.source in
    let names = texts c.args.names.now in
    let shaped = subst (λ (x : Shape). Step s a (λ l bs rest. IsShaped x bs rest)) c.in-Map.is c.in_ok-enum_shape.ensures.read.0 in
    let read = subst (λ (f : Formats). TakesFormOf shape.Map g.R.Source.refusals f names mid.levels a t new.levels c.map_variant.result) (ap formats_of c.in_ok-enum_shape.ensures.settings.formats) c.map_variant.ensures.opened in
    let here = subst (λ (n : ℕ). TakesFormOf shape.Map g.R.Source.refusals (formats_of old.formats) names n a t new.levels c.map_variant.result) c.in_ok-enum_shape.ensures.settings.levels read in
    form_then g.R.Source.refusals (formats_of old.formats) names old.levels s a shape.Map shaped t new.levels c.map_variant.result here

pub returns-in-Alone-clause-opened : goal.returns-in-Alone-clause-opened
returns-in-Alone-clause-opened g c =
    let old = c.args.decoder.now in
    let mid = c.enum_shape.new.decoder in
    let new = c.name_alone.new.decoder in
    let s = g.R.Source.source old.source in
    let a = g.R.Source.source mid.source in
    let t = g.R.Source.source new.source in
    let names = texts c.args.names.now in
    let shaped = subst (λ (x : Shape). Step s a (λ l bs rest. IsShaped x bs rest)) c.in-Alone.is c.in_ok-enum_shape.ensures.read.0 in
    let read = subst (λ (f : Formats). TakesFormOf shape.Alone g.R.Source.refusals f names mid.levels a t new.levels c.name_alone.result) (ap formats_of c.in_ok-enum_shape.ensures.settings.formats) c.name_alone.ensures.opened in
    let here = subst (λ (n : ℕ). TakesFormOf shape.Alone g.R.Source.refusals (formats_of old.formats) names n a t new.levels c.name_alone.result) c.in_ok-enum_shape.ensures.settings.levels read in
    form_then g.R.Source.refusals (formats_of old.formats) names old.levels s a shape.Alone shaped t new.levels c.name_alone.result here

pub returns-in-Unassigned-clause-opened : goal.returns-in-Unassigned-clause-opened
returns-in-Unassigned-clause-opened g c =
    let old = c.args.decoder.now in
    let new = c.error.new.self in
    let s = g.R.Source.source old.source in
    let a = g.R.Source.source c.enum_shape.new.decoder.source in
    let t = g.R.Source.source new.source in
    let f = formats_of old.formats in
    let names = texts c.args.names.now in
    let took = some_then _ _ _ c.unassigned_byte-refused.ensures.read.took (took_same (ap g.R.Source.source c.error.ensures.source)) in
    let shaped = subst (λ (x : Shape). Step s a (λ l bs rest. IsShaped x bs rest)) c.in-Unassigned.is c.in_ok-enum_shape.ensures.read.0 in
    form_then g.R.Source.refusals f names old.levels s a shape.Unassigned shaped t new.levels (Err c.error.result) (unassigned_form g.R.Source.refusals f names old.levels a t new.levels c.error.result took)

-- ---- the fault

pub returns-in_err-enum_shape-clause-fault : goal.returns-in_err-enum_shape-clause-fault
returns-in_err-enum_shape-clause-fault g c =
    let passed = err_from_is_err_and c.from_residual.result c.from_residual.ensures.1 in
    rw (passed.1, passed.2) c.in_err-enum_shape.ensures.fault

pub returns-in-Array-clause-fault : goal.returns-in-Array-clause-fault
returns-in-Array-clause-fault g c =
    let old = c.args.decoder.now in
    let mid = c.enum_shape.new.decoder in
    let s = g.R.Source.source old.source in
    let a = g.R.Source.source mid.source in
    let shaped = subst (λ (x : Shape). Step s a (λ l bs rest. IsShaped x bs rest)) c.in-Array.is c.in_ok-enum_shape.ensures.read.0 in
    IfErr-weaker c.array_variant.result (FaultOfForm shape.Array g.R.Source.refusals mid.levels a) (ItemFault g.R.Source.refusals old.levels s)
    (λ e h. shaped_fault g.R.Source.refusals old.levels s e shape.Array a shaped (subst (λ (n : ℕ). FaultOfForm shape.Array g.R.Source.refusals n a e) c.in_ok-enum_shape.ensures.settings.levels h)) c.array_variant.ensures.fault

pub returns-in-Map-clause-fault : goal.returns-in-Map-clause-fault
returns-in-Map-clause-fault g c =
    let old = c.args.decoder.now in
    let mid = c.enum_shape.new.decoder in
    let s = g.R.Source.source old.source in
    let a = g.R.Source.source mid.source in
    let shaped = subst (λ (x : Shape). Step s a (λ l bs rest. IsShaped x bs rest)) c.in-Map.is c.in_ok-enum_shape.ensures.read.0 in
    IfErr-weaker c.map_variant.result (FaultOfForm shape.Map g.R.Source.refusals mid.levels a) (ItemFault g.R.Source.refusals old.levels s)
    (λ e h. shaped_fault g.R.Source.refusals old.levels s e shape.Map a shaped (subst (λ (n : ℕ). FaultOfForm shape.Map g.R.Source.refusals n a e) c.in_ok-enum_shape.ensures.settings.levels h)) c.map_variant.ensures.fault

pub returns-in-Alone-clause-fault : goal.returns-in-Alone-clause-fault
returns-in-Alone-clause-fault g c =
    let old = c.args.decoder.now in
    let mid = c.enum_shape.new.decoder in
    let s = g.R.Source.source old.source in
    let a = g.R.Source.source mid.source in
    let shaped = subst (λ (x : Shape). Step s a (λ l bs rest. IsShaped x bs rest)) c.in-Alone.is c.in_ok-enum_shape.ensures.read.0 in
    IfErr-weaker c.name_alone.result (FaultOfForm shape.Alone g.R.Source.refusals mid.levels a) (ItemFault g.R.Source.refusals old.levels s)
    (λ e h. shaped_fault g.R.Source.refusals old.levels s e shape.Alone a shaped (subst (λ (n : ℕ). FaultOfForm shape.Alone g.R.Source.refusals n a e) c.in_ok-enum_shape.ensures.settings.levels h)) c.name_alone.ensures.fault

pub returns-in-Unassigned-clause-fault : goal.returns-in-Unassigned-clause-fault
returns-in-Unassigned-clause-fault g c =
    let old = c.args.decoder.now in
    let mid = c.enum_shape.new.decoder in
    let s = g.R.Source.source old.source in
    let a = g.R.Source.source mid.source in
    let shaped = subst (λ (x : Shape). Step s a (λ l bs rest. IsShaped x bs rest)) c.in-Unassigned.is c.in_ok-enum_shape.ensures.read.0 in
    shaped_fault g.R.Source.refusals old.levels s c.error.result shape.Unassigned a shaped (unassigned_fault g.R.Source.refusals old.levels a c.error.result c.unassigned_byte-refused.new.decoder.refusal c.unassigned_byte-refused.result c.error.ensures.reports c.unassigned_byte-refused.ensures.read)

-- ---- memory

pub returns-in_err-enum_shape-clause-memory : goal.returns-in_err-enum_shape-clause-memory
returns-in_err-enum_shape-clause-memory g c =
    let passed = err_from_is_err_and c.from_residual.result c.from_residual.ensures.1 in
    let old = c.args.decoder.now in
    rw (passed.1, passed.2) (unasked_memory (IsAskedString (asks_for g.R.Source.refusals g.R.Source.lends)) (formats_of old.formats) (texts c.args.names.now) old.levels (g.R.Source.source old.source) c.in_err-enum_shape.field-0.0 c.in_err-enum_shape.ensures.memory)

pub returns-in-Array-clause-memory : goal.returns-in-Array-clause-memory
returns-in-Array-clause-memory g c =
    let old = c.args.decoder.now in
    let mid = c.enum_shape.new.decoder in
    let s = g.R.Source.source old.source in
    let a = g.R.Source.source mid.source in
    let f = formats_of old.formats in
    let names = texts c.args.names.now in
    let asks = IsAskedString (asks_for g.R.Source.refusals g.R.Source.lends) in
    let shaped = subst (λ (x : Shape). Step s a (λ l bs rest. IsShaped x bs rest)) c.in-Array.is c.in_ok-enum_shape.ensures.read.0 in
    let formats = ap formats_of c.in_ok-enum_shape.ensures.settings.formats in
    IfErr-weaker c.array_variant.result (MemoryForFormOf shape.Array asks (formats_of mid.formats) names mid.levels a) (MemoryForForm asks f names old.levels s)
    (λ e h. shaped_memory asks f names old.levels s e shape.Array a shaped (subst (λ (n : ℕ). MemoryForFormOf shape.Array asks f names n a e) c.in_ok-enum_shape.ensures.settings.levels (subst (λ (f : Formats). MemoryForFormOf shape.Array asks f names mid.levels a e) formats h))) c.array_variant.ensures.memory

pub returns-in-Map-clause-memory : goal.returns-in-Map-clause-memory
returns-in-Map-clause-memory g c =
    let old = c.args.decoder.now in
    let mid = c.enum_shape.new.decoder in
    let s = g.R.Source.source old.source in
    let a = g.R.Source.source mid.source in
    let f = formats_of old.formats in
    let names = texts c.args.names.now in
    let asks = IsAskedString (asks_for g.R.Source.refusals g.R.Source.lends) in
    let shaped = subst (λ (x : Shape). Step s a (λ l bs rest. IsShaped x bs rest)) c.in-Map.is c.in_ok-enum_shape.ensures.read.0 in
    let formats = ap formats_of c.in_ok-enum_shape.ensures.settings.formats in
    IfErr-weaker c.map_variant.result (MemoryForFormOf shape.Map asks (formats_of mid.formats) names mid.levels a) (MemoryForForm asks f names old.levels s)
    (λ e h. shaped_memory asks f names old.levels s e shape.Map a shaped (subst (λ (n : ℕ). MemoryForFormOf shape.Map asks f names n a e) c.in_ok-enum_shape.ensures.settings.levels (subst (λ (f : Formats). MemoryForFormOf shape.Map asks f names mid.levels a e) formats h))) c.map_variant.ensures.memory

pub returns-in-Alone-clause-memory : goal.returns-in-Alone-clause-memory
returns-in-Alone-clause-memory g c =
    let old = c.args.decoder.now in
    let mid = c.enum_shape.new.decoder in
    let s = g.R.Source.source old.source in
    let a = g.R.Source.source mid.source in
    let f = formats_of old.formats in
    let names = texts c.args.names.now in
    let asks = IsAskedString (asks_for g.R.Source.refusals g.R.Source.lends) in
    let shaped = subst (λ (x : Shape). Step s a (λ l bs rest. IsShaped x bs rest)) c.in-Alone.is c.in_ok-enum_shape.ensures.read.0 in
    let formats = ap formats_of c.in_ok-enum_shape.ensures.settings.formats in
    IfErr-weaker c.name_alone.result (MemoryForFormOf shape.Alone asks (formats_of mid.formats) names mid.levels a) (MemoryForForm asks f names old.levels s)
    (λ e h. shaped_memory asks f names old.levels s e shape.Alone a shaped (subst (λ (n : ℕ). MemoryForFormOf shape.Alone asks f names n a e) c.in_ok-enum_shape.ensures.settings.levels (subst (λ (f : Formats). MemoryForFormOf shape.Alone asks f names mid.levels a e) formats h))) c.name_alone.ensures.memory

pub returns-in-Unassigned-clause-memory : goal.returns-in-Unassigned-clause-memory
returns-in-Unassigned-clause-memory g c =
    let old = c.args.decoder.now in
    unassigned_memory (IsAskedString (asks_for g.R.Source.refusals g.R.Source.lends)) (formats_of old.formats) (texts c.args.names.now) old.levels (g.R.Source.source old.source) c.error.result c.unassigned_byte-refused.new.decoder.refusal c.unassigned_byte-refused.result c.error.ensures.reports c.unassigned_byte-refused.ensures.memory
