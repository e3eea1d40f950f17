use Rattle.std.proofs.Common.{◌≡◌, ◌-◌, ℕ, false, true, length, drop, Ok, refl, sym, subst, arith}
use Rattle.cbor_model.specs.Reader.{item_at}
use Rattle.cbor_io.specs.Error.{code_of, offset_of}
use Rattle.cbor_decode.specs.Gives.{Fails}
use Rattle.cbor_decode.specs.Heads.{passed}
use Rattle.cbor_pushed.specs.Rests.{reading}
use Rattle.cbor_pushed.specs.Scanned.{HasScanned}
use Rattle.cbor_pushed.specs.declared.rest.Rest.{Rest}
use Rattle.cbor_pushed.proofs.ScannedBytes.{due_fails, cut_by}
use Rattle.cbor_pushed.proofs.Lasts.{bytes_from}
use Rattle.cbor_pushed.proofs.ScanSteps.{item_passed}
use Rattle.cbor_pushed.proofs.scan.Scan.leaf.Goals as goal

pub returns-in-Ok-clause-stands : goal.returns-in-Ok-clause-stands
returns-in-Ok-clause-stands c =
    let s = c.args.self.now in
    let front = c.args.front.now in
    let around = s.around.items in
    let due = c.requires.due.1 in
    let end = c.in-Ok.end in
    let left : c.args.levels - c.len.result ≡ c.args.levels - length around = omega arith in
    let is = subst (λ (n : ℕ). passed (item_at (reading (length front)) n (drop s.at front)) ≡ Ok (tt, drop end front)) left c.in-Ok.ensures.2 in
    let fits = bytes_from s.at front (λ i. omega (arith, c.type_inv.front i)) in
    subst (λ (r : Rest). HasScanned c.args.levels end 0 r around front) (sym c.behind-self.ensures)
    (item_passed c.args.levels s.at s.chunks s.innermost around front c.requires.follows c.requires.due.0 due.tail due.byte due.goes_on due.no_end end fits c.in-Ok.ensures.1 is)

pub returns-in-Err-clause-steps : goal.returns-in-Err-clause-steps
returns-in-Err-clause-steps c =
    let s = c.args.self.now in
    let front = c.args.front.now in
    let around = s.around.items in
    let due = c.requires.due.1 in
    let e = c.in-Err.error in
    let left : c.args.levels - c.len.result ≡ c.args.levels - length around = omega arith in
    let fails = subst (λ (n : ℕ). Fails (length front) e (item_at (reading (length front)) n (drop s.at front))) left c.in-Err.ensures in
    cut_by c.args.levels front (code_of e) (offset_of e) (c.if-is_eof.ensures.0 refl)
    (due_fails c.args.levels s.at s.chunks s.innermost around front c.requires.follows (omega arith) c.requires.due.0 due.tail due.byte due.goes_on due.no_end e fails)

pub returns-in-Err-2-clause-steps : goal.returns-in-Err-2-clause-steps
returns-in-Err-2-clause-steps c =
    let s = c.args.self.now in
    let front = c.args.front.now in
    let around = s.around.items in
    let due = c.requires.due.1 in
    let e = c.in-Err.error in
    let left : c.args.levels - c.len.result ≡ c.args.levels - length around = omega arith in
    let fails = subst (λ (n : ℕ). Fails (length front) e (item_at (reading (length front)) n (drop s.at front))) left c.in-Err.ensures in (
      due_fails c.args.levels s.at s.chunks s.innermost around front c.requires.follows (omega arith) c.requires.due.0 due.tail due.byte due.goes_on due.no_end e fails,
      λ eof. let t : false ≡ true = c.if-is_eof.ensures.1 eof in absurd cc,
    )
