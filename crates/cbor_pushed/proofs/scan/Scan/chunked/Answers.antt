use Rattle.std.proofs.Common.{◌≡◌, ◌/◌, ℕ, max, List, drop, sym, subst, arith}
use Rattle.cbor_pushed.specs.Scanned.{ChunksEnd, InChunks}
use Rattle.cbor_pushed.proofs.Chunked.{in_chunks}
use Rattle.cbor_pushed.proofs.ScannedBytes.{cut_chunks}
use Rattle.cbor_pushed.proofs.Lasts.{all_taken}
use Rattle.cbor_pushed.proofs.scan.Scan.chunked.Goals as goal

pub pass_chunks-requires : goal.pass_chunks-requires
pass_chunks-requires c =
    let s = c.args.self.now in
    let front = c.args.front.now in
    let due = c.requires.due in
    let b = c.args.first in
    let most : c.max.result ≡ max s.chunks 1 = c.max.ensures in
    subst (λ (l : List ℕ). InChunks (b / 32) c.max.result l) (sym (all_taken s.at front))
    (subst (λ (n : ℕ). InChunks (b / 32) n (drop s.at front)) (sym most) (in_chunks b (drop s.at front) due.tail due.byte c.requires.begins s.chunks c.requires.follows.passed_chunks))

pub returns-in-Some-clause-steps : goal.returns-in-Some-clause-steps
returns-in-Some-clause-steps c =
    let s = c.args.self.now in
    let front = c.args.front.now in
    let due = c.requires.due in
    let b = c.args.first in
    let n = c.in-Some.passed in
    let ends = subst (λ (l : List ℕ). ChunksEnd (b / 32) l n) (all_taken s.at front) c.in-Some.ensures in
    cut_chunks c.args.levels s.at s.chunks s.innermost s.around.items front c.requires.follows (omega arith) b due.tail due.byte due.goes_on due.no_end (b / 32) n ends
