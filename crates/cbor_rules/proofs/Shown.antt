-- A departure that the front of an item's bytes shows is the item's first.
use Rattle.std.proofs.Common.{◌≡◌, ℕ, suc, ◌+◌, ◌-◌, ◌∙◌, List, [], ◌++◌, length, Some, sym, ap, subst, arith}
use Rattle.std.proofs.lemmas.List.{append-nil, length-append}
use Rattle.cbor_model.specs.Raw.{Raw, IsWellFormed, depth}
use Rattle.cbor_model.specs.Spelling.{spell}
use Rattle.cbor_rules.specs.Features.{features}
use Rattle.cbor_rules.specs.Rules.{Terms, first_departure}
use Rattle.cbor_rules.specs.Walk.{Walk, departure_from, departed, walk}
use Rattle.cbor_rules.specs.declared.settings.Rule.{Rule}
use Rattle.cbor_rules.proofs.Extended.{Extends, walk_extends}
use Rattle.cbor_rules.proofs.WalkReports.{found_departure, reported}
use Rattle.cbor_rules.proofs.Walked.{Answers, found_in, walked}

-- whatever follows the front, and with any fuel
pub shows : (terms : Terms) (fuel : ℕ) (front : List ℕ) (rule : Rule) (left : ℕ) → walk (departure_from terms) fuel front ≡ departed rule left
    → (r : Raw) (more : List ℕ) → IsWellFormed r → spell r ≡ front ++ more → first_departure terms r ≡ Some (record { rule = rule; offset = length front - left })
unfolding first_departure
shows terms fuel front rule left shown r more fits spelled =
    let sought = departure_from terms in
    let whole = front ++ more in
    let total = length whole in
    let far = fuel + suc (suc (depth r)) in
    let is : spell r ++ [] ≡ whole = append-nil (spell r) ∙ spelled in
    let goes_on : walk sought far whole ≡ departed rule (left + length more) = subst (λ (w : Walk). Extends more w (walk sought far whole)) shown (walk_extends sought fuel far front more (omega arith)) in
    let reports = walked sought r far 0 [] total fits (omega arith) (omega (arith, ap length is)) in
    let over_whole = subst (λ (bs : List ℕ). Answers total [] (found_in sought (features 0 r)) (walk sought far bs)) is reports in
    let answers = subst (λ (w : Walk). Answers total [] (found_in sought (features 0 r)) w) goes_on over_whole in
    let counted : total - (left + length more) ≡ length front - left = omega (arith, length-append front more) in
    sym (found_departure terms (features 0 r))
    ∙ sym (reported total (found_in sought (features 0 r)) rule (left + length more) answers)
    ∙ ap (λ (at : ℕ). Some (record { rule = rule; offset = at })) counted
