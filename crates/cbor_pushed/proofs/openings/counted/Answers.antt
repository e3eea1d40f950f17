use Rattle.std.proofs.Common.{◌∷◌, ◌-◌, ◌+◌, length, sym, subst, arith}
use Rattle.cbor_model.specs.Raw.{AreBytes}
use Rattle.cbor_pushed.specs.Scanned.{HasHead}
use Rattle.cbor_pushed.specs.declared.rest.Rest.{Rest}
use Rattle.cbor_pushed.proofs.Opened.{counted_array, counted_map, counted_tag}
use Rattle.cbor_pushed.proofs.openings.counted.Goals as goal
use Rattle.cbor_pushed.proofs.openings.counted.Goals.{in-4, in-5, in-6}

pub returns : goal.returns
returns c =
    let b = c.args.first in
    let bs = c.args.behind.now in
    let n = c.in_ok-n.n in
    let left = c.in_ok-n.left in
    let fits : AreBytes bs = λ i. omega (arith, c.type_inv.behind i) in
    let P = λ (rest : Rest). HasHead (b ∷ bs) rest (length bs - left + 1) in
    elim c.match-first-div32.branch [
      | in-4 w ↦ subst P (sym w.rest-is) (counted_array b bs n left fits (c.in_ok-n.ensures) w.in-4.is)
      | in-5 w ↦ subst P (sym w.rest-is) (counted_map b bs n left fits (c.in_ok-n.ensures) w.in-5.is)
      | in-6 w ↦ subst P (sym w.rest-is) (counted_tag b bs n left fits (c.in_ok-n.ensures) w.in-6.is)
    ]
