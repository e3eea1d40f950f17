use Rattle.std.proofs.Common.{IfErr, subst}
use Rattle.cbor_value.specs.declared.bytes.ByteArray.{ByteArray}
use Rattle.cbor_model.specs.Raw.{Raw}
use Rattle.cbor_model.specs.Readable.{PassesTags}
use Rattle.cbor_model.specs.Reader.{item_at}
use Rattle.cbor_read.specs.Source.{asks_for}
use Rattle.cbor_decode_as.specs.Strings.{AsksForBytes, AsksForString, AsksToLend, IsByteArray, IsByteString, IsNoKey, LendsBytes, UnreadOnly}
use Rattle.cbor_decode_as.specs.Takes.{raws, context, formats_of, IsNotRead}
use Rattle.cbor_decode_as.proofs.facts.Strings.{made_memory, made_refuses, none_of}
use Rattle.cbor_de.proofs.values.ByteStrings.{array_memory, array_takes}
use Rattle.cbor_decode_as.specs.Strings.{LendsWhole}
use Rattle.cbor_decode_as.proofs.facts.Strings.{made_whole}
use Rattle.cbor_decode_as.proofs.facts.Refusals.{stands_err}
use Rattle.cbor_de.proofs.types.byte_strings.ByteArrayDeserialize.deserialize.Goals as goal

pub returns-in-Ok-clause-read : goal.returns-in-Ok-clause-read
returns-in-Ok-clause-read g c =
    let de = c.args.de.now in
    let f = formats_of de.decoder.formats in
    let levels = de.decoder.levels in
    let s = g.R.Source.source de.decoder.source in
    let t = g.R.Source.source c.read_byte_string.follows.lender-at-none.decoder.source in
    let ctx = context de.decoder.formats g.R.Source.lends in
    let lent = subst (λ r. LendsBytes g.R.Source.refusals ctx levels s t r) c.in-Ok.is c.read_byte_string.follows.holds-at-none.2 in
    array_takes g.R.Source.refusals f g.R.Source.lends levels s t c.in-Ok.part g.row.N c.array_of.result lent c.array_of.ensures.read

pub returns-in-Err-clause-read : goal.returns-in-Err-clause-read
returns-in-Err-clause-read g c =
    let de = c.args.de.now in
    let f = formats_of de.decoder.formats in
    let levels = de.decoder.levels in
    let s = g.R.Source.source de.decoder.source in
    let t = g.R.Source.source c.read_byte_string.follows.lender-at-none.decoder.source in
    let ctx = context de.decoder.formats g.R.Source.lends in
    let reads : (Raw → ByteArray g.row.N → Type 0) = λ r x. IsByteArray g.row.N r x.0 in
    let lacks = subst (λ r. LendsBytes g.R.Source.refusals ctx levels s t r) c.in-Err.is c.read_byte_string.follows.holds-at-none.2 in
    rw c.unread.ensures.source (made_refuses g.R.Source.refusals s (λ l bs. IsNotRead (PassesTags IsByteString) (item_at (raws f l) levels bs)) (λ l bs. IsNotRead (PassesTags reads) (item_at (raws f l) levels bs)) c.in-Err.why c.unread.result
    (λ l bs none. none_of reads IsByteString (λ x. x.0) (item_at (raws f l) levels bs) (λ r x is. is.0) none) c.unread.ensures.made lacks)

pub returns-in-Err-clause-memory : goal.returns-in-Err-clause-memory
returns-in-Err-clause-memory g c =
    let de = c.args.de.now in
    let f = formats_of de.decoder.formats in
    let levels = de.decoder.levels in
    let s = g.R.Source.source de.decoder.source in
    let t = g.R.Source.source c.read_byte_string.follows.lender-at-none.decoder.source in
    let ctx = context de.decoder.formats g.R.Source.lends in
    let reads : (Raw → ByteArray g.row.N → Type 0) = λ r x. IsByteArray g.row.N r x.0 in
    let asks = asks_for g.R.Source.refusals g.R.Source.lends in
    let lacks = subst (λ r. LendsBytes g.R.Source.refusals ctx levels s t r) c.in-Err.is c.read_byte_string.follows.holds-at-none.2 in
    let only = subst (λ r. IfErr r (UnreadOnly (AsksToLend AsksForBytes asks f levels s))) c.in-Err.is c.read_byte_string.follows.holds-at-none.4 in
    made_memory g.R.Source.refusals f reads IsByteString (λ x. x.0) levels s t AsksForBytes asks (AsksForString asks) c.in-Err.why c.unread.result (λ r x is. is.0) (λ r x is asks b string. asks x.0 is.0) c.unread.ensures.made only lacks

pub returns-in-Ok-clause-memory : goal.returns-in-Ok-clause-memory
returns-in-Ok-clause-memory g c =
    let de = c.args.de.now in
    let f = formats_of de.decoder.formats in
    let levels = de.decoder.levels in
    let s = g.R.Source.source de.decoder.source in
    let t = g.R.Source.source c.read_byte_string.follows.lender-at-none.decoder.source in
    let ctx = context de.decoder.formats g.R.Source.lends in
    let lent = subst (λ r. LendsBytes g.R.Source.refusals ctx levels s t r) c.in-Ok.is c.read_byte_string.follows.holds-at-none.2 in
    array_memory g.R.Source.refusals f g.R.Source.lends levels s t c.in-Ok.part g.row.N (AsksForString (asks_for g.R.Source.refusals g.R.Source.lends)) c.array_of.result lent c.array_of.ensures.read

pub returns-in-Err-clause-form : goal.returns-in-Err-clause-form
returns-in-Err-clause-form g c =
    c.unread.ensures.no_form (subst (λ r. IfErr r IsNoKey) c.in-Err.is c.read_byte_string.follows.holds-at-none.3)

pub returns-in-Err-clause-fault : goal.returns-in-Err-clause-fault
returns-in-Err-clause-fault g c =
    let de = c.args.de.now in
    let levels = de.decoder.levels in
    let s = g.R.Source.source de.decoder.source in
    let whole = subst (λ r. LendsWhole g.R.Source.refusals levels s r) c.in-Err.is c.read_byte_string.follows.holds-at-none.5 in
    made_whole g.R.Source.refusals levels s c.in-Err.why c.unread.result c.unread.ensures.made whole

pub returns-in-Ok-clause-fault : goal.returns-in-Ok-clause-fault
returns-in-Ok-clause-fault g c =
    let de = c.args.de.now in
    let levels = de.decoder.levels in
    let s = g.R.Source.source de.decoder.source in
    let stands = subst (λ r. LendsWhole g.R.Source.refusals levels s r) c.in-Ok.is c.read_byte_string.follows.holds-at-none.5 in
    stands_err g.R.Source.refusals levels s c.array_of.result c.array_of.ensures.message stands
