use Rattle.std.proofs.Common.{[], ◌∷◌, ap, ◌∙◌}
use Rattle.std.proofs.lemmas.Bool.Decides.{Decides-eqb}
use Rattle.std.proofs.lemmas.Slice.Eq.{strip_prefix_is}
use Rattle.cbor_value.specs.Pointer.{unescape}
use Rattle.cbor_value.proofs.Pointers.{unescape-plain}
use Rattle.cbor_value.proofs.pointer.first_unescaped.Goals as goal

pub returns-in-Some-clause-first : goal.returns-in-Some-clause-first
unfolding unescape
returns-in-Some-clause-first c =
    let t = c.args.token.now in
    let r = c.strip_prefix in
    let slash = rw c.in-Some.is at
    (strip_prefix_is Decides-eqb t (126 ∷ 49 ∷ []) r.result r.ensures.cases) in
    ap unescape slash

pub returns-in-Some-strip_prefix-clause-first : goal.returns-in-Some-strip_prefix-clause-first
unfolding unescape
returns-in-Some-strip_prefix-clause-first c =
    let t = c.args.token.now in
    let r = c.strip_prefix-2 in
    let tilde = rw c.in-Some-strip_prefix.is at
    (strip_prefix_is Decides-eqb t (126 ∷ 48 ∷ []) r.result r.ensures.cases) in
    ap unescape tilde

pub returns-clause-first : goal.returns-clause-first
returns-clause-first c =
    let t = c.args.token.now in
    let r = c.strip_prefix in
    let q = c.strip_prefix-2 in
    let no_slash = rw c.in_default.is at
    (strip_prefix_is Decides-eqb t (126 ∷ 49 ∷ []) r.result r.ensures.cases) in
    let no_tilde = rw c.in_default-strip_prefix.is at
    (strip_prefix_is Decides-eqb t (126 ∷ 48 ∷ []) q.result q.ensures.cases) in
    let first = c.in_ok-first.ensures.cases.0 in
    ap unescape first
    ∙ unescape-plain _ _ (λ ys is. no_slash ys (first ∙ is)) (λ ys is. no_tilde ys (first ∙ is))
