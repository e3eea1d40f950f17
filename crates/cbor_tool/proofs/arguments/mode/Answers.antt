use Rattle.cbor_tool.proofs.WordLists.{is_word, one_word, two_words}
use Rattle.cbor_tool.proofs.arguments.mode.Goals as goal

pub returns-in-len1 : goal.returns-in-len1
returns-in-len1 c = one_word c.args.words.now c.word-item.result _ c.in-len1.len_at_least c.in-len1.len_below c.word-item.is
    (is_word c.word-item.result _ _ _ c.as_str.ensures.value c.eq.ensures c.if-eq.true)

pub returns-in-len1-2 : goal.returns-in-len1-2
returns-in-len1-2 c = one_word c.args.words.now c.word-item-then-words-lt2.result _ c.in-len1.len_at_least c.in-len1.len_below c.word-item-then-words-lt2.is
    (is_word c.word-item-then-words-lt2.result _ _ _ c.as_str-then-words-lt2.ensures.value c.eq-then-words-lt2.ensures c.if-eq-2.true)

pub returns-in-len2 : goal.returns-in-len2
returns-in-len2 c = two_words c.args.words.now c.word-item-then-words-lt3.result c.option-item.result _ _ c.in-len2.len_at_least c.in-len2.len_below
    c.word-item-then-words-lt3.is c.option-item.is
    (is_word c.word-item-then-words-lt3.result _ _ _ c.as_str-then-words-lt3.ensures.value c.eq-then-words-lt3.ensures c.if-eq-8.true)
    (is_word c.option-item.result _ _ _ c.as_str-then-eq-8.ensures.value c.eq-then-eq-8.ensures c.if-eq-9.true)

pub returns-in-len1-3 : goal.returns-in-len1-3
returns-in-len1-3 c = one_word c.args.words.now c.word-item-then-words-lt2-2.result _ c.in-len1.len_at_least c.in-len1.len_below c.word-item-then-words-lt2-2.is
    (is_word c.word-item-then-words-lt2-2.result _ _ _ c.as_str-then-words-lt2-2.ensures.value c.eq-then-words-lt2-2.ensures c.if-eq-3.true)

pub returns-in-len1-4 : goal.returns-in-len1-4
returns-in-len1-4 c = one_word c.args.words.now c.word-item-then-words-lt2-3.result _ c.in-len1.len_at_least c.in-len1.len_below c.word-item-then-words-lt2-3.is
    (is_word c.word-item-then-words-lt2-3.result _ _ _ c.as_str-then-words-lt2-3.ensures.value c.eq-then-words-lt2-3.ensures c.if-eq-4.true)

pub returns-in-len1-5 : goal.returns-in-len1-5
returns-in-len1-5 c = one_word c.args.words.now c.word-item-then-words-lt2-4.result _ c.in-len1.len_at_least c.in-len1.len_below c.word-item-then-words-lt2-4.is
    (is_word c.word-item-then-words-lt2-4.result _ _ _ c.as_str-then-words-lt2-4.ensures.value c.eq-then-words-lt2-4.ensures c.if-eq-5.true)

pub returns-in-len1-6 : goal.returns-in-len1-6
returns-in-len1-6 c = one_word c.args.words.now c.word-item-then-words-lt2-5.result _ c.in-len1.len_at_least c.in-len1.len_below c.word-item-then-words-lt2-5.is
    (is_word c.word-item-then-words-lt2-5.result _ _ _ c.as_str-then-words-lt2-5.ensures.value c.eq-then-words-lt2-5.ensures c.if-eq-6.true)

pub returns-in-len1-7 : goal.returns-in-len1-7
returns-in-len1-7 c = one_word c.args.words.now c.word-item-then-words-lt2-6.result _ c.in-len1.len_at_least c.in-len1.len_below c.word-item-then-words-lt2-6.is
    (is_word c.word-item-then-words-lt2-6.result _ _ _ c.as_str-then-words-lt2-6.ensures.value c.eq-then-words-lt2-6.ensures c.if-eq-7.true)
