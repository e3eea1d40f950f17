use Rattle.std.proofs.Common.{◌≡◌, ◌+◌, ◌-◌, length, sym, ap₂, ◌∙◌, arith}
use Rattle.std.proofs.lemmas.List.{take_rest}
use Rattle.cbor_io.proofs.CompareWords.{lex, unequal, equal, settled, equal_on, last_word}
use Rattle.cbor_io.proofs.compare.compare.Goals as goal

pub returns-then-is_ne : goal.returns-then-is_ne
returns-then-is_ne c =
    let wide : c.loop-at.at + 8 - c.loop-at.at ≡ 8 = omega arith in
    let found = rw wide at c.compare_words-found.ensures in
    settled _ c.args.a.now c.args.b.now _ c.requires c.loop-at.invariant.1 found
    (unequal _ (sym c.is_ne.ensures ∙ c.if-is_ne.true))

pub loop-at-preserved : goal.loop-at-preserved
loop-at-preserved c =
    let wide : c.loop-at.at + 8 - c.loop-at.at ≡ 8 = omega arith in
    let found = rw wide at c.compare_words-found.ensures in
    let same = sym found ∙ equal _ (sym c.is_ne.ensures ∙ c.if-is_ne.false) in
    (omega arith, equal_on _ _ _ c.requires c.loop-at.invariant.1 same)

pub returns : goal.returns
returns c =
    let a = c.args.a.now in
    let b = c.args.b.now in
    let last = length a - 8 in
    c.compare_words.ensures ∙ ap₂ lex (take_rest a last) (take_rest b last)
    ∙ last_word last c.loop-at.at a b c.requires c.loop-at-test.false c.loop-at.invariant.1
