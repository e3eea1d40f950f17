use Rattle.std.proofs.Common.{◌≡◌, ◌++◌, ◌∷◌, arith}
use Rattle.std.proofs.lemmas.Result.{on_ok_weaker}
use Rattle.std.proofs.lemmas.Str.Pattern.{contains_char, split_after}
use Rattle.cbor_diagnostic.specs.Numerals.{IsNumeralOf}
use Rattle.cbor_diagnostic.proofs.Printing.{last_call, same_text, prints_text}
use Rattle.cbor_diagnostic.proofs.Numerals.{Has, pointed, unpointed}
use Rattle.cbor_diagnostic.proofs.scalars.write_finite.Goals as goal

pub returns-then-contains : goal.returns-then-contains
returns-then-contains g c =
    let numeral = c.format_finite_with_plus-numeral in
    let found = contains_char 46 numeral.result.now c.contains.result c.contains.ensures.cases (omega arith) in
    prints_text g.W.Write.write_str_gives _ _ (IsNumeralOf c.args.x) numeral.result.now c.write_str.result
    (pointed c.args.x numeral.result.now _ _ numeral.ensures.layout numeral.ensures.parses (found.0 c.if-contains.true))
    (last_call g.W.Write.write_str_gives _ _ _ c.write_str.result c.write_str.ensures.ok)

pub unreachable-requires : goal.unreachable-requires
unreachable-requires g c =
    let numeral = c.format_finite_with_plus-numeral in
    let found = contains_char 46 numeral.result.now c.contains.result c.contains.ensures.cases (omega arith) in
    let missing : Has 46 numeral.result.now → ⊥ = λ h. let there = found.1 h.0 h.1 h.2 in cc in
    let cut = unpointed c.args.x numeral.result.now _ _ numeral.ensures.layout numeral.ensures.parses missing in
    rw c.in-None.is at (split_after 101 numeral.result.now cut.0 cut.1 c.split_once.result c.split_once.ensures.cases (omega arith) cut.2.at cut.2.first)

pub returns : goal.returns
returns g c =
    let numeral = c.format_finite_with_plus-numeral in
    let found = contains_char 46 numeral.result.now c.contains.result c.contains.ensures.cases (omega arith) in
    let missing : Has 46 numeral.result.now → ⊥ = λ h. let there = found.1 h.0 h.1 h.2 in cc in
    let cut = unpointed c.args.x numeral.result.now _ _ numeral.ensures.layout numeral.ensures.parses missing in
    let split = rw c.in-Some.is at (split_after 101 numeral.result.now cut.0 cut.1 c.split_once.result c.split_once.ensures.cases (omega arith) cut.2.at cut.2.first) in
    prints_text g.W.Write.write_str_gives _ _ (IsNumeralOf c.args.x) (cut.0 ++ (46 ∷ 48 ∷ 101 ∷ cut.1)) c.write_with_point.result cut.2.made
    (on_ok_weaker c.write_with_point.result (λ h. same_text (λ i. split.0 i ++ (46 ∷ 48 ∷ 101 ∷ split.1 i)) h) c.write_with_point.ensures)
