use Rattle.std.proofs.Common.{◌≡◌, length, [], Equal, nat_cmp, refl, ap, ap₂, sym, ◌∙◌, arith}
use Rattle.std.proofs.lemmas.List.{drop_all}
use Rattle.cbor_model.specs.Order.{lex}
use Rattle.cbor_value.specs.Pointer.{unescape}
use Rattle.cbor_value.proofs.pointer.cmp_token.Goals as goal

pub returns : goal.returns
unfolding unescape
returns c =
    let t = c.args.token.now in
    let s = c.args.text.now in
    let ended : unescape c.bytes.rest.now ≡ [] =
    ap unescape c.in_default-first_unescaped.ensures.first in
    let none : length (unescape c.bytes.rest.now) ≡ 0 = ap length ended in
    let lens : nat_cmp (length (unescape t)) (length s) ≡ Equal =
    rw (← c.unescaped_len.ensures) (sym c.cmp.ensures ∙ c.in-Equal.is) in
    let tied : lex (unescape t) s ≡ Equal =
    sym c.bytes.invariant.same ∙ ap₂ lex ended (drop_all c.bytes.i s (omega arith)) in
    rw (lens, tied) refl
