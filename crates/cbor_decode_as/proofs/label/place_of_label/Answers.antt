use Rattle.std.proofs.Common.{rules, ℤ, pos, FitsSigned, sym, subst, ◌∙◌, ◌+◌, ◌≡◌, ◌≢◌, slice_index_or}
use Rattle.std.proofs.lemmas.Int.{to_z-of_z}
use Rattle.std.specs.Int.{w64, w128}
use Rattle.cbor_decode_as.proofs.texts.Identifiers.{NoneBefore, label_here, no_more_labels, no_label}
use Rattle.cbor_decode_as.proofs.label.place_of_label.Goals as goal

pub returns-then-is_number-clause-place : goal.returns-then-is_number-clause-place
returns-then-is_number-clause-place c =
    let fits : FitsSigned w128 c.args.label = search rules in
    let same = to_z-of_z w128 c.args.label fits in
    let before = subst (λ (z : ℤ). NoneBefore c.args.labels.now z c.labels.i) same c.labels.invariant.before in
    let is : slice_index_or c.args.labels.now c.labels.i (pos 0) ≡ c.args.label = search (rules, c.is_number.ensures, c.if-is_number.true, same) in
    label_here c.args.label (pos 0) c.args.labels.now c.labels.i before (search rules) is

pub labels-preserved : goal.labels-preserved
labels-preserved c =
    let fits : FitsSigned w128 c.args.label = search rules in
    let same = to_z-of_z w128 c.args.label fits in
    let before = subst (λ (z : ℤ). NoneBefore c.args.labels.now z c.labels.i) same c.labels.invariant.before in
    let here : FitsSigned w64 (slice_index_or c.args.labels.now c.labels.i (pos 0)) = search rules in
    let other : slice_index_or c.args.labels.now c.labels.i (pos 0) ≢ c.args.label = λ is. (rw c.if-is_number.false at c.is_number.ensures) (to_z-of_z w64 _ here ∙ is ∙ sym same) in
    record {
      below = search rules;
      before = subst (λ (z : ℤ). NoneBefore c.args.labels.now z (c.labels.i + 1)) (sym same) (no_more_labels c.args.label (pos 0) c.args.labels.now c.labels.i before (search rules) other);
    }

pub returns-clause-place : goal.returns-clause-place
returns-clause-place c =
    let fits : FitsSigned w128 c.args.label = search rules in
    let before = subst (λ (z : ℤ). NoneBefore c.args.labels.now z c.labels.i) (to_z-of_z w128 c.args.label fits) c.labels.invariant.before in
    no_label c.args.labels.now c.args.label c.labels.i before (search rules)
