use Rattle.std.proofs.Common.{◌≡◌, ◌-◌, ◌∙◌, length, sym, subst, arith}
use Rattle.cbor_strict.proofs.Departed.{departed_shows, shown_departs}
use Rattle.cbor_strict.specs.Strict.{IsFirstShown}
use Rattle.cbor_strict.proofs.Walking.{undeparted}
use Rattle.cbor_strict.proofs.walk.first_departure.Goals as goal

pub returns-in-Departed : goal.returns-in-Departed
returns-in-Departed c =
    let bs = c.args.bytes.now in
    let left = c.in-Departed.left in
    let walks = c.in-Departed.ensures in
    let d = departed_shows bs left (λ i. (c.type_inv.bytes i).fits) (walks.walks (length bs) (omega arith)) in
    let place : d.0 ≡ length bs - left = omega (arith, d.1) in
    subst (IsFirstShown bs) place d.2

pub returns-in_default : goal.returns-in_default
returns-in_default c = λ j shows.
    let bs = c.args.bytes.now in
    let d = shown_departs bs j shows in
    undeparted bs c.item.result d.0 (sym (c.item.ensures.walks (length bs) (omega arith)) ∙ d.1) c.in_default.not-Departed
