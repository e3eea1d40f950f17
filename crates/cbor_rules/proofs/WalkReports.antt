-- What a walk over all of an item's bytes reports.
use Rattle.std.proofs.Common.{◌≡◌, ℕ, suc, ◌+◌, ◌-◌, ◌≤◌, List, [], ◌∷◌, ◌++◌, length, Option, Some, None, refl, ap, ap₂, subst, ◌∙◌, arith}
use Rattle.std.proofs.lemmas.List.{append-nil}
use Rattle.cbor_model.specs.Raw.{Raw, IsWellFormed, depth}
use Rattle.cbor_model.specs.Spelling.{spell}
use Rattle.cbor_rules.specs.Rules.{Terms, broken, departure_or, departure_in, first_departure}
use Rattle.cbor_rules.specs.Features.{Place, features}
use Rattle.cbor_rules.specs.Walk as model
use Rattle.cbor_rules.specs.Walk.{Sought, departure_from, passed, departed, stopped}
use Rattle.cbor_rules.specs.Walks.{walk_view, HadMemory, Walks}
use Rattle.cbor_rules.specs.declared.settings.Rule.{Rule}
use Rattle.cbor_rules.specs.declared.settings.Rule.TheVariants.{ShortestHeads}
use Rattle.cbor_rules.specs.declared.answers.Departure.{Departure}
use Rattle.cbor_rules.specs.declared.walk.Walk.{Walk}
use Rattle.cbor_rules.specs.declared.walk.Walk.TheVariants.{Passed, Departed, Stopped, NoMemory}
use Rattle.cbor_rules.proofs.Walked.{Answers, found_in, walked}

-- of all of the bytes of an item, with some fuel
pub item_answers : (sought : Sought) (bs : List ℕ) (r : Raw) → IsWellFormed r → spell r ≡ bs → (fuel : ℕ) × (length bs ≤ fuel) × Answers (length bs) [] (found_in sought (features 0 r)) (model.walk sought fuel bs)
item_answers sought bs r fits is =
    let fuel = length bs + suc (suc (depth r)) in
    let whole : spell r ++ [] ≡ bs = append-nil (spell r) ∙ is in
    let reports = walked sought r fuel 0 [] (length bs) fits (omega arith) (omega (arith, ap length whole)) in (
      fuel,
      omega arith,
      subst (λ (t : List ℕ). Answers (length bs) [] (found_in sought (features 0 r)) (model.walk sought fuel t)) whole reports,
    )

-- the first of the places that is looked for is the first departure
pub found_departure : (terms : Terms) (ps : List Place) → found_in (departure_from terms) ps ≡ departure_in terms ps
found_departure terms [] = refl
found_departure terms (p ∷ ps) = ap (λ (o : Option Departure). departure_or p.offset o (broken terms p.feature)) (found_departure terms ps)

pub answered : (terms : Terms) (bs : List ℕ) (r : Raw) (w : Walk) → IsWellFormed r → spell r ≡ bs → Walks bs (model.walk (departure_from terms)) w → HadMemory w → Answers (length bs) [] (first_departure terms r) (walk_view bs w)
unfolding first_departure
answered terms bs r w fits is walks had =
    let answers = item_answers (departure_from terms) bs r fits is in
    subst (λ (o : Option Departure). Answers (length bs) [] o (walk_view bs w)) (found_departure terms (features 0 r))
    (subst (Answers (length bs) [] (found_in (departure_from terms) (features 0 r))) (walks had answers.0 answers.1) answers.2)

rule_of : model.Walk → Rule
rule_of (passed bs) = ShortestHeads
rule_of (departed rule left) = rule
rule_of stopped = ShortestHeads

left_of : model.Walk → ℕ
left_of (passed bs) = 0
left_of (departed rule left) = left
left_of stopped = 0

pub reported : (total : ℕ) (o : Option Departure) (rule : Rule) (left : ℕ) → Answers total [] o (departed rule left) → Some (record { rule = rule; offset = total - left }) ≡ o
unfolding rule_of left_of
reported total None rule left answers = absurd cc
reported total (Some d) rule left answers =
    let one : rule ≡ d.rule = ap rule_of answers.2 in
    let same : left ≡ answers.0 = ap left_of answers.2 in
    let other : total - left ≡ d.offset = omega (arith, answers.1, same) in
    ap₂ (λ (r : Rule) (o : ℕ). Some (record { rule = r; offset = o })) one other

pub untold : (total : ℕ) (bs : List ℕ) (o : Option Departure) (w : Walk) → ((rule : Rule) (left : ℕ) → w ≡ Departed rule left → ⊥) → Answers total [] o (walk_view bs w) → None ≡ o
untold total bs None w none answers = refl
untold total bs (Some d) (Passed left) none answers = absurd (let is = answers.2 in cc)
untold total bs (Some d) (Departed rule left) none answers = absurd (none rule left refl)
untold total bs (Some d) Stopped none answers = absurd (let is = answers.2 in cc)
untold total bs (Some d) NoMemory none answers = absurd (let is = answers.2 in cc)
