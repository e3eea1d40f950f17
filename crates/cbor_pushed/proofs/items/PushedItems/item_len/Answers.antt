use Rattle.std.proofs.Common.{◌≡◌, ◌∙◌, ◌-◌, ◌<◌, ◌^◌, ℕ, List, length, take, drop, ap, subst, arith}
use Rattle.std.proofs.lemmas.List.{length-drop}
use Rattle.cbor_model.specs.Acceptable.{max_depth}
use Rattle.cbor_pushed.specs.ItemAtFront.{FindsItem}
use Rattle.cbor_pushed.proofs.Lasts.{all_taken}
use Rattle.cbor_pushed.proofs.Pushed.{found_within}
use Rattle.cbor_pushed.proofs.items.PushedItems.item_len.Goals as goal

pub returns-clause-within : goal.returns-clause-within
returns-clause-within c =
    let n = c.self.inside.taken in
    let all = c.self.inside.pushed.items in
    let bytes : List ℕ = c.deref.result.now in
    let view : drop n all ≡ c.args.self.now = c.self.view_is in
    let same : take (length bytes - n) (drop n bytes) ≡ c.args.self.now = all_taken n bytes ∙ ap (λ (l : List ℕ). drop n l) c.deref.ensures.value ∙ view in
    let short : length c.args.self.now < 2 ^ 64 = omega (arith, ap length view, length-drop n all, ap length c.deref.ensures.value) in
    found_within max_depth c.args.self.now c.find.result short (subst (λ (l : List ℕ). FindsItem max_depth l c.find.result) same c.find.ensures.found)
