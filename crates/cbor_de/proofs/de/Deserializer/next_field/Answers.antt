use Rattle.std.proofs.Common.{rules, ◌≡◌, true}
use Rattle.std.proofs.lemmas.Result.{err_from_is_err_and}
use Rattle.cbor_io.specs.Error.{code_of, offset_of}
use Rattle.cbor_decode.specs.Heads.{remaining_of}
use Rattle.cbor_decode.specs.declared.formats.Formats.{Formats}
use Rattle.cbor_parts.specs.Keys.{keys_of}
use Rattle.cbor_de.specs.Structs.{IsKeyed}
use Rattle.cbor_decode_as.specs.Takes.{formats_of}
use Rattle.cbor_decode_as.proofs.facts.Places.{bad_key_later}
use Rattle.cbor_decode_as.proofs.facts.Maps.{none_is_key, there, key_refused, key_next}
use Rattle.cbor_read.specs.Source.{asks_for}
use Rattle.cbor_decode_as.specs.Strings.{IsAskedString}
use Rattle.cbor_decode_as.proofs.facts.Maps.{key_asks}
use Rattle.cbor_decode_as.proofs.facts.Names.{no_memory}
use Rattle.cbor_decode_as.proofs.facts.Refusals.{error_only}
use Rattle.std.proofs.Common.{inl, inr}
use Rattle.cbor_decode_as.specs.MapAccesses.{pair_front}
use Rattle.cbor_decode_as.proofs.facts.Refusals.{reported_why}
use Rattle.cbor_de.proofs.refusals.AccessFaults.{name_comes}
use Rattle.cbor_de.proofs.de.Deserializer.next_field.Goals as goal

pub returns-in_err-more_pairs-clause-read : goal.returns-in_err-more_pairs-clause-read
returns-in_err-more_pairs-clause-read g c =
    let passed = err_from_is_err_and c.from_residual.result c.from_residual.ensures.1 in
    let old = c.args.self.now.decoder in
    rw (passed.1, passed.2) (λ e made. none_is_key (IsKeyed (keys_of c.args.keys.now)) (formats_of old.formats) old.levels (remaining_of c.args.remaining.now)
    g.R.Source.refusals (g.R.Source.source old.source) (code_of e) (offset_of e) (c.in_err-more_pairs.ensures.read e made))

pub returns-in_err-field-clause-read : goal.returns-in_err-field-clause-read
returns-in_err-field-clause-read g c =
    let passed = err_from_is_err_and c.from_residual-in_err-field.result c.from_residual-in_err-field.ensures.1 in
    let old = c.args.self.now.decoder in
    let now = c.more_pairs.new.decoder in
    let s = g.R.Source.source old.source in
    let m = g.R.Source.source now.source in
    let reads = λ (f : Formats). IsKeyed (keys_of c.args.keys.now) in
    let remaining = c.args.remaining.now in
    let new = c.more_pairs.new.remaining in
    let more = c.in_ok-more_pairs.field-0 in
    let comes : more ≡ true = search rules in
    rw (passed.1, passed.2) (λ e made. key_refused s m remaining new more reads old.formats now.formats old.levels now.levels c.more_pairs.ensures.settings.formats c.more_pairs.ensures.settings.levels
    g.R.Source.refusals (code_of e) (offset_of e) (there s m remaining new more old.formats comes c.in_ok-more_pairs.ensures.read) (c.in_err-field.ensures.read e made))

pub returns-clause-read : goal.returns-clause-read
returns-clause-read g c =
    let old = c.args.self.now.decoder in
    let now = c.more_pairs.new.decoder in
    let s = g.R.Source.source old.source in
    let m = g.R.Source.source now.source in
    let t = g.R.Source.source c.keyed.new.self.decoder.source in
    let reads = λ (f : Formats). IsKeyed (keys_of c.args.keys.now) in
    let remaining = c.args.remaining.now in
    let new = c.more_pairs.new.remaining in
    let more = c.in_ok-more_pairs.field-0 in
    let comes : more ≡ true = search rules in
    key_next s m remaining new more reads old.formats now.formats old.levels now.levels c.more_pairs.ensures.settings.formats c.more_pairs.ensures.settings.levels t c.in_ok-field.field
    (there s m remaining new more old.formats comes c.in_ok-more_pairs.ensures.read) c.in_ok-field.ensures.read

-- ---- a key that may not begin as it does

pub returns-in_err-more_pairs-clause-bad_key : goal.returns-in_err-more_pairs-clause-bad_key
returns-in_err-more_pairs-clause-bad_key g c =
    let passed = err_from_is_err_and c.from_residual.result c.from_residual.ensures.1 in
    rw (passed.1, passed.2) (λ e made. c.in_err-more_pairs.ensures.bad_key e made)

pub returns-in_err-field-clause-bad_key : goal.returns-in_err-field-clause-bad_key
returns-in_err-field-clause-bad_key g c =
    let passed = err_from_is_err_and c.from_residual-in_err-field.result c.from_residual-in_err-field.ensures.1 in
    let old = c.args.self.now.decoder in
    let s = g.R.Source.source old.source in
    let m = g.R.Source.source c.more_pairs.new.decoder.source in
    let remaining = c.args.remaining.now in
    let new = c.more_pairs.new.remaining in
    let more = c.in_ok-more_pairs.field-0 in
    let comes : more ≡ true = search rules in
    rw (passed.1, passed.2) (λ e made. bad_key_later g.R.Source.refusals (formats_of old.formats) remaining s new m e
    (there s m remaining new more old.formats comes c.in_ok-more_pairs.ensures.read))

-- ---- memory

pub returns-in_err-field-clause-memory : goal.returns-in_err-field-clause-memory
returns-in_err-field-clause-memory g c =
    let passed = err_from_is_err_and c.from_residual-in_err-field.result c.from_residual-in_err-field.ensures.1 in
    let old = c.args.self.now.decoder in
    let now = c.more_pairs.new.decoder in
    let s = g.R.Source.source old.source in
    let m = g.R.Source.source now.source in
    let reads = λ (f : Formats). IsKeyed (keys_of c.args.keys.now) in
    let remaining = c.args.remaining.now in
    let new = c.more_pairs.new.remaining in
    let more = c.in_ok-more_pairs.field-0 in
    let comes : more ≡ true = search rules in
    rw (passed.1, passed.2) (λ e made. key_asks s m remaining new more reads old.formats now.formats old.levels now.levels c.more_pairs.ensures.settings.formats c.more_pairs.ensures.settings.levels
    (IsAskedString (asks_for g.R.Source.refusals g.R.Source.lends)) e (there s m remaining new more old.formats comes c.in_ok-more_pairs.ensures.read) (c.in_err-field.ensures.memory e made))

pub returns-in_err-more_pairs-clause-memory : goal.returns-in_err-more_pairs-clause-memory
returns-in_err-more_pairs-clause-memory g c =
    let passed = err_from_is_err_and c.from_residual.result c.from_residual.ensures.1 in
    let kept = c.more_pairs.new.decoder.refusal in
    rw (passed.1, passed.2) (λ e made out bs reports. absurd (error_only ⊥ kept _ e made (no_memory ⊥ kept _ c.in_err-more_pairs.ensures.memory) out))

-- ---- the fault

pub returns-in_err-more_pairs-clause-fault : goal.returns-in_err-more_pairs-clause-fault
returns-in_err-more_pairs-clause-fault g c =
    let passed = err_from_is_err_and c.from_residual.result c.from_residual.ensures.1 in
    let old = c.args.self.now.decoder in
    rw (passed.1, passed.2) (λ e made. inl (reported_why g.R.Source.refusals (λ l. pair_front (formats_of old.formats) (remaining_of c.args.remaining.now)) (g.R.Source.source old.source) c.more_pairs.new.decoder.refusal _ e made c.in_err-more_pairs.ensures.fault))

pub returns-in_err-field-clause-fault : goal.returns-in_err-field-clause-fault
returns-in_err-field-clause-fault g c =
    let passed = err_from_is_err_and c.from_residual-in_err-field.result c.from_residual-in_err-field.ensures.1 in
    let old = c.args.self.now.decoder in
    let now = c.more_pairs.new.decoder in
    let s = g.R.Source.source old.source in
    let m = g.R.Source.source now.source in
    let remaining = c.args.remaining.now in
    let new = c.more_pairs.new.remaining in
    let more = c.in_ok-more_pairs.field-0 in
    let comes : more ≡ true = search rules in
    rw (passed.1, passed.2) (λ e made. inr (name_comes g.R.Source.refusals (formats_of old.formats) remaining new s m old.levels now.levels e c.more_pairs.ensures.settings.levels
    (there s m remaining new more old.formats comes c.in_ok-more_pairs.ensures.read) (c.in_err-field.ensures.fault e made)))
