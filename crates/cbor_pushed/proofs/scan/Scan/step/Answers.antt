use Rattle.std.proofs.Common.{◌≡◌, ◌≤◌, ◌+◌, ◌∷◌, length, drop, sym, arith}
use Rattle.std.proofs.lemmas.Grind.{common_steps}
use Rattle.cbor_pushed.proofs.ScannedBytes.{cut_here}
use Rattle.cbor_pushed.proofs.GoesOn.{over}
use Rattle.cbor_pushed.proofs.ScanSteps.{broken_place, left_stands, left_steps}
use Rattle.cbor_pushed.proofs.scan.Scan.step.Goals as goal

pub returns-then-is_over-clause-stands : goal.returns-then-is_over-clause-stands
returns-then-is_over-clause-stands c =
    let s = c.args.self.now in
    left_stands c.args.levels s c.leave.new.self c.args.front.now c.requires s.at c.requires.within (λ total more. over total _ s.innermost _ (sym c.if-is_over.ensures))
    c.leave.result c.leave.ensures

pub returns-then-is_over-clause-steps : goal.returns-then-is_over-clause-steps
returns-then-is_over-clause-steps c =
    let s = c.args.self.now in
    left_steps c.args.levels s c.leave.new.self c.args.front.now c.requires s.at c.requires.within (λ total more. over total _ s.innermost _ (sym c.if-is_over.ensures))
    (omega arith) (omega arith) c.leave.result c.leave.ensures

pub returns-in_default-clause-steps : goal.returns-in_default-clause-steps
returns-in_default-clause-steps c =
    let s = c.args.self.now in
    let last : length c.args.front.now ≤ s.at = grind (arith, common_steps) in
    cut_here c.args.levels s.at s.chunks s.innermost s.around.items c.args.front.now c.requires (omega arith) (sym c.if-is_over.ensures) last

pub returns-then-ends_by-clause-stands : goal.returns-then-ends_by-clause-stands
returns-then-ends_by-clause-stands c =
    let s = c.args.self.now in
    let b = c.in-Some.first in
    let front = c.args.front.now in
    let within : s.at + 1 ≤ length front = grind (arith, common_steps) in
    let byte : drop s.at front ≡ b ∷ drop (s.at + 1) front = grind (arith, common_steps) in
    left_stands c.args.levels s c.leave-then-ends_by.new.self front c.requires (s.at + 1) within (broken_place c.args.levels s front b c.requires byte (sym c.if-ends_by.ensures))
    c.leave-then-ends_by.result c.leave-then-ends_by.ensures

pub returns-then-ends_by-clause-steps : goal.returns-then-ends_by-clause-steps
returns-then-ends_by-clause-steps c =
    let s = c.args.self.now in
    let b = c.in-Some.first in
    let front = c.args.front.now in
    let within : s.at + 1 ≤ length front = grind (arith, common_steps) in
    let byte : drop s.at front ≡ b ∷ drop (s.at + 1) front = grind (arith, common_steps) in
    left_steps c.args.levels s c.leave-then-ends_by.new.self front c.requires (s.at + 1) within (broken_place c.args.levels s front b c.requires byte (sym c.if-ends_by.ensures))
    (omega arith) (omega arith) c.leave-then-ends_by.result c.leave-then-ends_by.ensures
