use Rattle.std.proofs.Common.{drop, sym, subst}
use Rattle.cbor_model.specs.Readable.{IsText}
use Rattle.cbor_model.specs.Refusal.{end_in_map}
use Rattle.cbor_serde_de.specs.PickedNames.{PicksItem, PicksText}
use Rattle.cbor_serde_de.specs.declared.cbor.Cbor.{Cbor}
use Rattle.cbor_serde_de.proofs.Decoded.{reads_also}
use Rattle.cbor_serde_de.proofs.PickedTexts.{text_picks}
use Rattle.cbor_serde_de.proofs.ShortTexts.{still_at_hand, text_read}
use Rattle.cbor_serde_de.proofs.CountedDown.{counted_down}
use Rattle.cbor_serde_de.proofs.cbor.Cbor.key_at_hand.Goals as goal

pub returns : goal.returns
returns c =
    let old = c.args.self.now in
    let mid = c.is_counted_down.new.self in
    let names = c.args.names.now in
    let key = c.in_ok-key.key.now in
    let at = c.in_ok-place.place in
    let source = c.advance.new.self in
    let new : Cbor = record mid { decoder = record mid.decoder { source = source } } in
    let hand = drop mid.decoder.source.taken mid.decoder.source.slice.now in
    let stays = still_at_hand old mid c.is_counted_down.result c.ahead.result.now c.is_counted_down.ensures c.ahead.ensures.bytes in
    let picks = subst (λ b. PicksText b names key at) (sym c.if-self.false) c.in_ok-place.ensures.found in
    record {
      key = mid;
      comes = counted_down end_in_map old mid c.if-not-is_counted_down.ensures;
      named = reads_also IsText (PicksItem old.options.integer_keys names) mid new key at (text_picks old.options.integer_keys names key at picks)
          (text_read mid source hand c.ahead.result.now key c.in_ok-key.ensures c.in_ok-place.ensures.utf8 stays c.advance.ensures.took);
    }
