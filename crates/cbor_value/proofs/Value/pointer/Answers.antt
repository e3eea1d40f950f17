use Rattle.std.proofs.Common.{◌≡◌, None, option_and_then, sym, ap, ◌∙◌, arith, rules}
use Rattle.std.proofs.lemmas.Str.Pattern.{strip_prefix_char, split_parts}
use Rattle.cbor_value.specs.Pointer.{tokens, walk}
use Rattle.cbor_value.specs.View.{view}
use Rattle.cbor_value.proofs.Pointers.{walk-first, walk-last, pointer-nowhere}
use Rattle.cbor_value.proofs.Value.pointer.Goals as goal

pub returns-in_err-rest-clause-found : goal.returns-in_err-rest-clause-found
returns-in_err-rest-clause-found c =
    let path = c.args.path.now in
    let gone : c.from_residual.result ≡ None = grind arith in
    let other = rw c.in_err-rest.was at
    (strip_prefix_char 47 path c.strip_prefix.result c.strip_prefix.ensures.cases (omega arith)) in
    λ ordered. rw gone (sym (pointer-nowhere path (view c.args.self.now) (grind arith) other))

pub returns-in_err-target-clause-found : goal.returns-in_err-target-clause-found
returns-in_err-target-clause-found c =
    let l = c.tokens in
    let v = view l.target.now in
    let cut = rw c.in-Some.is at
    (split_parts 47 l.rest.now c.split_once.result c.split_once.ensures.cases (omega arith)) in
    let gone : c.from_residual-in_err-target.result ≡ None = grind arith in
    λ ordered.
    let step = c.in_err-target.ensures.found (l.invariant.ordered ordered) in
    rw gone (sym (l.invariant.same ordered
    ∙ ap (λ s. walk (tokens s) v) cut.0
    ∙ walk-first _ _ v cut.1
    ∙ ap (option_and_then (walk (tokens c.in-Some.more.now))) (sym step)))

pub tokens-preserved : goal.tokens-preserved
tokens-preserved c =
    let l = c.tokens in
    let v = view l.target.now in
    let cut = rw c.in-Some.is at
    (split_parts 47 l.rest.now c.split_once.result c.split_once.ensures.cases (omega arith)) in
    record {
      ordered = λ ordered. c.in_ok-target.ensures.ordered (l.invariant.ordered ordered);
      same = λ ordered.
          let step = c.in_ok-target.ensures.found (l.invariant.ordered ordered) in
          l.invariant.same ordered
          ∙ ap (λ s. walk (tokens s) v) cut.0
          ∙ walk-first _ _ v cut.1
          ∙ ap (option_and_then (walk (tokens c.in-Some.more.now))) (sym step);
      utf8 = search rules;
    }

pub returns-clause-found : goal.returns-clause-found
returns-clause-found c =
    let l = c.tokens in
    let none = rw c.in_default.is at
    (split_parts 47 l.rest.now c.split_once.result c.split_once.ensures.cases (omega arith)) in
    λ ordered.
    c.step-2.ensures.found (l.invariant.ordered ordered)
    ∙ sym (l.invariant.same ordered ∙ walk-last l.rest.now (view l.target.now) none)
