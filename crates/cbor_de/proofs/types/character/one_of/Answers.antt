use Rattle.std.proofs.Common.{◌≡◌, ◌∙◌, ◌++◌, sym, arith}
use Rattle.std.specs.Char.{encode_utf8}
use Rattle.std.specs.Str.Iter.{chars_rest}
use Rattle.cbor_de.proofs.values.Characters.{not_all, none_of_empty}
use Rattle.cbor_de.proofs.types.character.one_of.Goals as goal

pub returns-else-len_utf8-text-clause-read : goal.returns-else-len_utf8-text-clause-read
returns-else-len_utf8-text-clause-read c =
    let first = c.in-Some.first in
    let front : c.args.text.now ≡ encode_utf8 first ++ chars_rest c.next.new.self = sym c.chars.ensures.rest ∙ c.in-Some.ensures.steps.0 in
    not_all first c.args.text.now (chars_rest c.next.new.self) front (λ same. c.if-len_utf8-text.false (c.len_utf8.ensures.len ∙ same))

pub returns-in-None-clause-read : goal.returns-in-None-clause-read
returns-in-None-clause-read c = none_of_empty c.args.text.now (omega (arith, c.in-None.ensures.steps.0, c.chars.ensures.len))
