use Rattle.cbor_tool.proofs.WordLists.{is_word, one_word, two_words, three_words}
use Rattle.cbor_tool.proofs.arguments.form.Goals as goal

pub returns-in-len1 : goal.returns-in-len1
returns-in-len1 c = one_word c.args.words.now c.raw-item.result _ c.in-len1.len_at_least c.in-len1.len_below c.raw-item.is
    (is_word c.raw-item.result _ _ _ c.as_str.ensures.value c.eq.ensures c.if-eq.true)

pub returns-in-len2 : goal.returns-in-len2
returns-in-len2 c = two_words c.args.words.now c.word-item.result c.raw-item-then-words-lt3.result _ _ c.in-len2.len_at_least c.in-len2.len_below
    c.word-item.is c.raw-item-then-words-lt3.is
    (is_word c.word-item.result _ _ _ c.as_str-then-words-lt3.ensures.value c.eq-then-words-lt3.ensures c.if-eq-2.true)
    (is_word c.raw-item-then-words-lt3.result _ _ _ c.as_str-then-eq-2.ensures.value c.eq-then-eq-2.ensures c.if-eq-3.true)

pub returns-in-len3 : goal.returns-in-len3
returns-in-len3 c = three_words c.args.words.now c.word-item-then-words-lt4.result c.option-item.result c.raw-item-then-words-lt4.result _ _ _ c.in-len3.len_at_least c.in-len3.len_below
    c.word-item-then-words-lt4.is c.option-item.is c.raw-item-then-words-lt4.is
    (is_word c.word-item-then-words-lt4.result _ _ _ c.as_str-then-words-lt4.ensures.value c.eq-then-words-lt4.ensures c.if-eq-4.true)
    (is_word c.option-item.result _ _ _ c.as_str-then-eq-4.ensures.value c.eq-then-eq-4.ensures c.if-eq-5.true)
    (is_word c.raw-item-then-words-lt4.result _ _ _ c.as_str-then-eq-5.ensures.value c.eq-then-eq-5.ensures c.if-eq-6.true)
