use Rattle.std.proofs.Common.{◌≡◌, ℕ, Ok, Bool, false, subst}
use Rattle.cbor_model.specs.Reader.{item_at}
use Rattle.cbor_decode.specs.Gives.{Step}
use Rattle.cbor_decode_as.specs.Nulls.{null_at}
use Rattle.cbor_decode_as.specs.Takes.{raws, context, formats_of, IsRead}
use Rattle.cbor_decode.specs.declared.formats.Formats.{Formats}
use Rattle.cbor_decode_as.proofs.facts.Nulls.{option_none, option_some}
use Rattle.cbor_de.proofs.types.option.OptionReadable.at_hand.Goals as goal

pub returns-in-Some-true-clause-read : goal.returns-in-Some-true-clause-read
returns-in-Some-true-clause-read g c =
    let de = c.args.de.now in
    let s = g.R.Source.source de.decoder.source in
    let t = g.R.Source.source c.null_at_hand.new.decoder.source in
    let step = subst (λ (b : Bool). Step s t (λ l bs rest. null_at bs ≡ Ok (b, rest))) c.in-Some-true.field-0-test c.in-Some-true.ensures.read in
    option_none g.R.Source.refusals (formats_of de.decoder.formats) (g.T.Readable.reads (context de.decoder.formats g.R.Source.lends)) de.decoder.levels s t step

pub returns-in-Some-clause-read : goal.returns-in-Some-clause-read
returns-in-Some-clause-read g c =
    let de = c.args.de.now in
    let s = g.R.Source.source de.decoder.source in
    let m = g.R.Source.source c.null_at_hand.new.decoder.source in
    let t = g.R.Source.source c.at_hand.new.de.decoder.source in
    let step = subst (λ (b : Bool). Step s m (λ l bs rest. null_at bs ≡ Ok (b, rest))) c.in-Some-false.field-0-test c.in-Some-false.ensures.read in
    let x = c.in-Some.value in
    let taken = subst (λ (n : ℕ). Step m t (λ l bs rest. IsRead (g.T.Readable.reads (context de.decoder.formats g.R.Source.lends)) (item_at (raws (formats_of de.decoder.formats) l) n bs) x rest)) c.in-Some-false.ensures.settings.levels
    (subst (λ (k : Formats). Step m t (λ l bs rest. IsRead (g.T.Readable.reads (context k g.R.Source.lends)) (item_at (raws (formats_of k) l) c.null_at_hand.new.decoder.levels bs) x rest)) c.in-Some-false.ensures.settings.formats c.in-Some.ensures.read) in
    option_some g.R.Source.refusals (formats_of de.decoder.formats) (g.T.Readable.reads (context de.decoder.formats g.R.Source.lends)) de.decoder.levels s m t x step taken
