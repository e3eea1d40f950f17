use Rattle.cbor_decode_as.proofs.tags.+pass_tags.Given as goal

abbrev pub decreases-pass_tags : goal.decreases-pass_tags
decreases-pass_tags g l = l.decoder.now.levels
