use Rattle.std.proofs.Common.{◌≡◌, ◌+◌, ◌-◌, refl, arith}
use Rattle.cbor_decode.specs.declared.cursor.Remaining.TheVariants.{Counted}
use Rattle.cbor_decode_as.specs.Collections.{head_of}
use Rattle.cbor_decode_as.specs.Takes.{formats_of}
use Rattle.cbor_decode_as.proofs.collections.Heads.{head_taken}
use Rattle.cbor_decode_as.proofs.collections.Kinds.{not_tag}
use Rattle.cbor_decode_as.proofs.arrays.Begins.{begins}
use Rattle.cbor_decode_as.proofs.heads.Opened.{head_opens}
use Rattle.cbor_decode_as.proofs.heads.Openings.{head_opened}
use Rattle.cbor_decode_as.proofs.collection.head_at_hand.Goals as goal

pub returns-in-Some-clause-read : goal.returns-in-Some-clause-read
returns-in-Some-clause-read g c =
    let old = c.args.decoder.now in
    let f = formats_of old.formats in
    let here = c.in-Some.ensures in
    let u = c.short.new.decoder in
    let s = g.R.Source.source old.source in
    let t = g.R.Source.source u.source in
    let h = head_of c.args.of (Counted c.in-Some.n) in
    let inner : old.levels ≡ (u.levels - 1) + 1 = omega (arith, here.settings.levels, c.if-decoder-eq0.false) in
    let opens = head_opens f s t old.levels old.levels h (not_tag c.args.of (Counted c.in-Some.n)) refl here.read in
    head_taken c.args.of g.R.Source.refusals f old.levels s t old.levels (u.levels - 1) h (Counted c.in-Some.n) refl inner opens

pub returns-in-Some-clause-opened : goal.returns-in-Some-clause-opened
returns-in-Some-clause-opened g c =
    let old = c.args.decoder.now in
    let here = c.in-Some.ensures in
    let u = c.short.new.decoder in
    let s = g.R.Source.source old.source in
    let t = g.R.Source.source u.source in
    let h = head_of c.args.of (Counted c.in-Some.n) in
    let inner : old.levels ≡ (u.levels - 1) + 1 = omega (arith, here.settings.levels, c.if-decoder-eq0.false) in
    let opened = head_opened s t old.levels old.levels h (not_tag c.args.of (Counted c.in-Some.n)) refl here.read in
    begins (head_of c.args.of) g.R.Source.refusals old.levels s t old.levels (u.levels - 1) h (Counted c.in-Some.n) refl inner opened
