use Rattle.std.proofs.Common.{length, rules, arith}
use Rattle.cbor_rules.specs.Rules.{first_departure, under}
use Rattle.cbor_rules.specs.declared.walk.Walk.TheVariants.{Departed}
use Rattle.cbor_rules.proofs.MetKeys.{key_of_item}
use Rattle.cbor_rules.proofs.Shown.{shows}
use Rattle.cbor_rules.proofs.WalkReports.{answered, reported, untold}
use Rattle.cbor_rules.proofs.Walking.{had_memory}
use Rattle.cbor_rules.proofs.walk.first_departure.Goals as goal

pub returns-in-Departed-clause-first : goal.returns-in-Departed-clause-first
returns-in-Departed-clause-first c = λ r fits is.
    let bs = c.args.bytes.now in
    reported (length bs) (first_departure (under c.args.rules c.args.tags.now) r) c.in-Departed.rule c.in-Departed.left
    (answered (under c.args.rules c.args.tags.now) bs r (Departed c.in-Departed.rule c.in-Departed.left) fits is c.in-Departed.ensures.walks tt)

pub returns-in-Departed-clause-shown : goal.returns-in-Departed-clause-shown
returns-in-Departed-clause-shown c = λ r more fits is.
    let bs = c.args.bytes.now in
    let terms = under c.args.rules c.args.tags.now in
    shows terms (length bs) bs c.in-Departed.rule c.in-Departed.left (c.in-Departed.ensures.walks tt (length bs) (omega arith)) r more fits is

pub returns-in_default-clause-first : goal.returns-in_default-clause-first
returns-in_default-clause-first c = λ r fits is.
    let bs = c.args.bytes.now in
    untold (length bs) bs (first_departure (under c.args.rules c.args.tags.now) r) c.item.result c.in_default.not-Departed
    (answered (under c.args.rules c.args.tags.now) bs r c.item.result fits is c.item.ensures.walks (had_memory c.item.result c.in_default.not-NoMemory))

pub returns-in-NoMemory-clause-key : goal.returns-in-NoMemory-clause-key
returns-in-NoMemory-clause-key c = λ r fits is.
    search (rules, key_of_item c.args.bytes.now r fits is c.in-NoMemory.ensures.memory.1)
