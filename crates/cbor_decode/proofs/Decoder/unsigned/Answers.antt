use Rattle.std.proofs.Common.{rules, ◌≡◌, ◌+◌, ◌-◌, ◌%◌, ◌++◌, ℕ, List, Some, Ok, slice_get, take, drop, length, subst, sym, arith}
use Rattle.cbor_model.specs.Reader.{number_behind}
use Rattle.cbor_io.specs.declared.head.Major.TheVariants.{UnsignedInteger}
use Rattle.cbor_decode.proofs.WholeHeads.{whole_step}
use Rattle.cbor_decode.proofs.Decoder.unsigned.Goals as goal

pub returns-else-n-most-clause-read : goal.returns-else-n-most-clause-read
returns-else-n-most-clause-read g c =
    let first = c.in-Some-0-to-27.first in
    let hand = g.R.Source.at_hand c.args.self.now.source in
    let front : slice_get hand 0 ≡ Some first = search rules in
    let low : first % 32 ≡ first = omega (arith, c.in-Some-0-to-27) in
    let behind = take (length hand - 1) (drop 1 hand) in
    let read : (rest : List ℕ) → number_behind first (take c.in-Some.behind behind ++ rest) ≡ Ok (c.in-Some.n, rest) = search rules in
    whole_step _ _ hand first c.in-Some.n c.in-Some.behind UnsignedInteger (λ e. absurd cc) (λ e. absurd (omega (arith, e, c.in-Some-0-to-27))) (omega (arith, c.in-Some-0-to-27)) front (subst (λ (x : ℕ). (rest : List ℕ) → number_behind x (take c.in-Some.behind behind ++ rest) ≡ Ok (c.in-Some.n, rest)) (sym low) read) c.advance.ensures.took
