use Rattle.std.proofs.Common.{sym, ap₂, ◌∙◌, nat_cmp}
use Rattle.cbor_io.proofs.CompareWords.{words}
use Rattle.cbor_io.proofs.compare.compare_words.Goals as goal

pub returns : goal.returns
returns c =
    let x = c.word.ensures in
    let y = c.word-2.ensures in
    c.cmp.ensures ∙ ap₂ nat_cmp x.value y.value
    ∙ words _ _ (c.requires.0 ∙ sym c.requires.1) x.bytes y.bytes
