use Rattle.std.proofs.Common.{◌≡◌, ◌∷◌, [], List, ℕ, take, slice_index, refl, subst}
use Rattle.cbor_read.specs.Source.{TookKept}
use Rattle.cbor_decode_as.specs.Takes.{formats_of}
use Rattle.cbor_decode_as.proofs.texts.Characters.{ascii_taken, front_two}
use Rattle.cbor_decode_as.proofs.character.ascii_at_hand.Goals as goal

pub returns-clause-read : goal.returns-clause-read
returns-clause-read g c =
    let old = c.args.decoder.now in
    let s = g.R.Source.source old.source in
    let t = g.R.Source.source c.advance.new.self in
    let shown = c.ahead-ahead.result.now in
    let b = slice_index shown 1 in
    let front : take 2 (g.R.Source.at_hand old.source) ≡ 0x61 ∷ b ∷ [] =
    subst (λ (x : List ℕ). take 2 x ≡ 0x61 ∷ b ∷ []) c.ahead-ahead.ensures.bytes (front_two shown 0x61 b c.if-ahead-lt2.false c.if-ahead-ne-ONE_BYTE.false refl) in
    ascii_taken g.R.Source.refusals (formats_of old.formats) old.levels old.refusal s t b c.if-byte-ge128.false
    (subst (TookKept s t) front c.advance.ensures.took) c.advance.ensures.counted
