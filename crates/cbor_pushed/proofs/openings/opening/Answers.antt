use Rattle.std.proofs.Common.{◌∙◌, ◌∷◌, ℕ, List, sym, ap, subst}
use Rattle.cbor_decode.specs.declared.cursor.Remaining.TheVariants.{ToBreak}
use Rattle.cbor_pushed.specs.Scanned.{HasHead}
use Rattle.cbor_pushed.specs.declared.rest.Rest.TheVariants.{Items, Pairs}
use Rattle.cbor_pushed.proofs.Opened.{endless_array, endless_map}
use Rattle.cbor_pushed.proofs.openings.opening.Goals as goal

pub returns-in-159 : goal.returns-in-159
returns-in-159 c =
    let bs = c.in_ok-first.behind.now in
    let is = c.in_ok-first.ensures.cases.0 ∙ ap (λ (b : ℕ). b ∷ bs) c.in-159.is in
    subst (λ (l : List ℕ). HasHead l (Items ToBreak) 1) (sym is) (endless_array bs)

pub returns-in-191 : goal.returns-in-191
returns-in-191 c =
    let bs = c.in_ok-first.behind.now in
    let is = c.in_ok-first.ensures.cases.0 ∙ ap (λ (b : ℕ). b ∷ bs) c.in-191.is in
    subst (λ (l : List ℕ). HasHead l (Pairs ToBreak) 1) (sym is) (endless_map bs)
