use Rattle.std.proofs.Common.{◌≡◌, ◌∙◌, ◌-◌, ◌^◌, ◌+◌, suc, negsuc, false, T, ap, refl, arith, sym, subst, ℕ}
use Rattle.std.specs.Float.{binary64}
use Rattle.std.specs.Float.Ieee as ieee
use Rattle.std.specs.Float.Ieee.{fits, of_bits, of_fields, neg, odd}
use lib.Ieee.Fits.{neg-fits}
use Rattle.cbor_decode_as.specs.Scalars.{IsWhole}
use Rattle.cbor_decode_as.proofs.numbers.WholeNumbers.{negated, either_sign}
use Rattle.cbor_decode_as.proofs.exact.below_zero.Goals as goal

least : IsWhole (negsuc (2 ^ 64 - 1)) (neg (of_bits binary64 0x43f0_0000_0000_0000))
unfolding neg of_bits of_fields odd fits
least = (refl, tt)

next : (n : ℕ) → n + 1 ≡ suc n
next n = omega arith

pub returns-then-n-eq18446744073709551615 : goal.returns-then-n-eq18446744073709551615
returns-then-n-eq18446744073709551615 c = rw c.if-n-eq18446744073709551615.true least

pub returns-in-Some : goal.returns-in-Some
returns-in-Some c =
    let n = c.args.n in
    let x = c.in-Some.x in (
      ap neg (c.in-Some.ensures.0 ∙ ap (λ (m : ℕ). odd 65 false m 0 0) (next n)) ∙ negated (suc n),
      neg-fits binary64 x c.in-Some.ensures.1,
    )

pub returns-in-None : goal.returns-in-None
returns-in-None c = λ x is.
    let n = c.args.n in
    let y = odd 65 false (n + 1) 0 0 in
    let held = subst (λ (z : ieee.Float). T (fits binary64 z)) is.0 is.1 in
    c.in-None.ensures y (
      refl,
      subst (λ (m : ℕ). T (fits binary64 (odd 65 false m 0 0))) (sym (next n))
          (either_sign (suc n) held),
    )
