use Rattle.std.proofs.Common.{rules, ◌≡◌, ◌<◌, ◌/◌, ◌^◌, false, T, pos, refl, arith, ◌∙◌, subst, sym, ℕ}
use Rattle.std.proofs.lemmas.Float.{T_from_true}
use Rattle.std.specs.Float.{binary64}
use Rattle.std.specs.Float.Ieee as ieee
use Rattle.std.specs.Float.Ieee.{fits, of_bits, of_int, of_fields, odd, round}
use Rattle.cbor_decode_as.specs.Scalars.{IsWhole}
use Rattle.cbor_decode_as.proofs.numbers.WholeNumbers.{same_zeros, digits_of, exact}
use Rattle.cbor_decode_as.proofs.exact.from_zero.Goals as goal

none : IsWhole (pos 0) (of_bits binary64 0)
unfolding of_bits of_fields odd fits
none = (refl, tt)

of_whole : (n : ℕ) → of_int binary64 (pos n) ≡ round binary64 false n 1
unfolding of_int
of_whole n = refl

pub returns-then-n-eq0 : goal.returns-then-n-eq0
returns-then-n-eq0 c = rw c.if-n-eq0.true none

pub returns-then-n : goal.returns-then-n
returns-then-n c =
    let n = c.args.n in
    let x = c.nearest_u64_to_f64 in
    let some : 0 < n = omega (arith, c.if-n-eq0.false) in
    let small : n < 2 ^ 64 = search rules in
    let few =
    subst (λ (z : ℕ). n / 2 ^ z < 2 ^ 53) (sym (same_zeros 64 n some small)) c.if-n.true in (
      x.ensures ∙ of_whole n ∙ exact false n some (omega (arith, small)) few,
      T_from_true (fits binary64 x.result) x.type_inv,
    )

pub returns-else-n : goal.returns-else-n
returns-else-n c = λ x is.
    let n = c.args.n in
    let some : 0 < n = omega (arith, c.if-n-eq0.false) in
    let small : n < 2 ^ 64 = search rules in
    let held = subst (λ (y : ieee.Float). T (fits binary64 y)) is.0 is.1 in
    let few =
    subst (λ (z : ℕ). n / 2 ^ z < 2 ^ 53) (same_zeros 64 n some small)
    (digits_of false n some held) in
    omega (arith, few, c.if-n.false)
