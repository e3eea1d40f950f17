use Rattle.std.proofs.Common.{IfErr, subst}
use Rattle.std.specs.Cow.{cow_str_bytes}
use Rattle.std.specs.Global.{Global}
use Rattle.std.specs.declared.borrow.CowStr.{CowStr}
use Rattle.cbor_model.specs.Raw.{Raw}
use Rattle.cbor_model.specs.Readable.{PassesTags, IsText}
use Rattle.cbor_model.specs.Reader.{item_at}
use Rattle.cbor_decode_as.specs.Strings.{IsNoKey, LendsText, LendsWhole}
use Rattle.cbor_decode_as.specs.Takes.{raws, context, formats_of, IsNotRead}
use Rattle.cbor_decode_as.proofs.facts.Strings.{made_refuses, made_whole, none_of}
use Rattle.cbor_de.specs.Cows.{IsCowText}
use Rattle.cbor_de.proofs.types.strings.CowStrDeserialize.deserialize.Goals as goal

pub returns-in-Err-clause-read : goal.returns-in-Err-clause-read
returns-in-Err-clause-read g c =
    let de = c.args.de.now in
    let f = formats_of de.decoder.formats in
    let levels = de.decoder.levels in
    let s = g.R.Source.source de.decoder.source in
    let t = g.R.Source.source c.read_text.follows.lender-at-none.decoder.source in
    let ctx = context de.decoder.formats g.R.Source.lends in
    let reads : (Raw → CowStr Global → Type 0) = λ r x. IsCowText ctx r x in
    let lacks = subst (λ r. LendsText g.R.Source.refusals ctx levels s t r) c.in-Err.is c.read_text.follows.holds-at-none.2 in
    rw c.unread.ensures.source (made_refuses g.R.Source.refusals s (λ l bs. IsNotRead (PassesTags IsText) (item_at (raws f l) levels bs)) (λ l bs. IsNotRead (PassesTags reads) (item_at (raws f l) levels bs)) c.in-Err.why c.unread.result
    (λ l bs none. none_of reads IsText cow_str_bytes (item_at (raws f l) levels bs) (λ r x is. is.0) none) c.unread.ensures.made lacks)

pub returns-in-Err-clause-form : goal.returns-in-Err-clause-form
returns-in-Err-clause-form g c =
    c.unread.ensures.no_form (subst (λ r. IfErr r IsNoKey) c.in-Err.is c.read_text.follows.holds-at-none.3)

pub returns-in-Err-clause-fault : goal.returns-in-Err-clause-fault
returns-in-Err-clause-fault g c =
    let de = c.args.de.now in
    let levels = de.decoder.levels in
    let s = g.R.Source.source de.decoder.source in
    let whole = subst (λ r. LendsWhole g.R.Source.refusals levels s r) c.in-Err.is c.read_text.follows.holds-at-none.5 in
    made_whole g.R.Source.refusals levels s c.in-Err.why c.unread.result c.unread.ensures.made whole
