use Rattle.std.proofs.Common.{◌≡◌, ℕ, List, ℤ, pos, negsuc, ◌-ℤ◌, refl, ap, subst, arith, rules, unsigned_abs, ◌∙◌, FitsSigned}
use Rattle.std.specs.Int.{w64, w128, FitsUnsigned}
use Rattle.std.proofs.lemmas.Int.{ints, to_z-of_z}
use Rattle.std.proofs.KnownBytes.{Appends-nil}
use Rattle.cbor_model.specs.Head.{short}
use Rattle.cbor_model.specs.Plain.{integer}
use Rattle.cbor_model.specs.Canonical.{canon, canonical}
use Rattle.cbor_model.specs.Spelling.{spell}
use Rattle.cbor_io.specs.Write.{Wrote}
use Rattle.cbor_ser.proofs.items.put_integer.Goals as goal

mirrored_fits : (i : ℤ) → FitsSigned w128 i → FitsSigned w128 (negsuc 0 -ℤ i)
mirrored_fits i fits = search rules

negative_spelled : (i : ℤ) (n : ℕ) → FitsUnsigned w64 (negsuc 0 -ℤ i) → n ≡ unsigned_abs (negsuc 0 -ℤ i) → short 1 n ≡ canon (integer i)
unfolding canon canonical spell
negative_spelled (pos m) n below same = absurd (omega (arith, ints, below.0))
negative_spelled (negsuc m) n below same =
    let mirrored : negsuc 0 -ℤ negsuc m ≡ pos m = omega (arith, ints) in
    ap (short 1) (same ∙ ap unsigned_abs mirrored)

pub returns-in-Ok-try_from-clause-written : goal.returns-in-Ok-try_from-clause-written
returns-in-Ok-try_from-clause-written g c =
    let fits = c.ranges.i in
    let mirrored = mirrored_fits c.args.i fits in
    let found = simp to_z-of_z at c.in-Ok-try_from.ensures in
    let bytes = c.put_head-in-Ok-try_from in
    subst (λ (bs : List ℕ). Wrote (g.W.Write.written c.args.writer.now) bs (g.W.Write.written bytes.new.writer) bytes.result)
    (negative_spelled c.args.i c.in-Ok-try_from.n found.0 found.1) bytes.ensures.written

pub returns-clause-written : goal.returns-clause-written
returns-clause-written g c = record {
  ok = tt;
  err = record { front = _; rest = canon (integer c.args.i); whole = refl; written = Appends-nil (g.W.Write.written c.args.writer.now) };
}
