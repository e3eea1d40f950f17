use Rattle.std.proofs.Common.{◌≡◌, ◌∙◌, ◌∷◌, ◌++◌, [], ◌+◌, ◌<◌, ℕ, List, length, ap, sym, subst, arith}
use Rattle.cbor_pushed.specs.Rests.{behind}
use Rattle.cbor_pushed.specs.Scanned.{HasHead, HasScanned}
use Rattle.cbor_pushed.specs.declared.rest.Rest.{Rest}
use Rattle.cbor_pushed.proofs.Lasts.{all_taken}
use Rattle.cbor_pushed.proofs.ScanSteps.{entered}
use Rattle.cbor_pushed.proofs.scan.Scan.item.Goals as goal

pub returns-in-Some-clause-stands : goal.returns-in-Some-clause-stands
returns-in-Some-clause-stands c =
    let s = c.args.self.now in
    let front = c.args.front.now in
    let around = s.around.items in
    let due = c.requires.due.1 in
    let n = c.in-Some.n in
    let rest = c.in-Some.rest in
    let opens = subst (λ (l : List ℕ). HasHead l rest n) (all_taken s.at front) c.in-Some.ensures in
    let deeper : length around < c.args.levels = omega arith in
    let pushed : c.push.new.self.items ≡ around ++ (c.behind.result ∷ []) = c.in_default-push.ensures.items in
    let after : c.push.new.self.items ≡ around ++ (behind s.innermost ∷ []) = pushed ∙ ap (λ (r : Rest). around ++ (r ∷ [])) c.behind.ensures in
    subst (λ (l : List Rest). HasScanned c.args.levels (s.at + n) 0 rest l front) (sym after)
    (entered c.args.levels s.at s.chunks s.innermost around front c.requires.follows c.requires.due.0 due.tail due.byte due.goes_on due.no_end rest n deeper opens)
