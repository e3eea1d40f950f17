use Rattle.std.proofs.Common.{length, arith, eqb-true, take_all, ap, ◌∙◌, subst}
use Rattle.std.specs.Str.{IsAscii}
use Rattle.cbor_io.proofs.Utf8Block.{low_from_mask}
use Rattle.cbor_io.proofs.utf8.is_ascii.Goals as goal

pub returns : goal.returns
returns c = λ t.
    let all = take_all 16 c.args.block.now (omega (arith, c.requires)) in
    subst IsAscii all (low_from_mask _ (ap length all ∙ c.requires) (eqb-true _ _ t))
