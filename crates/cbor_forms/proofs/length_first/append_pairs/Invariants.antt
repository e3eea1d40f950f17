use Rattle.std.proofs.Common.{◌≡◌, ◌++◌, drop}
use Rattle.cbor_value.specs.View.{pair_views}
use Rattle.cbor_forms.specs.LengthFirst.{joined}
use Rattle.cbor_forms.proofs.length_first.append_pairs.Given as goal

-- What was written, with what is left, is all of it.
abbrev pub invariant-loop-pair : goal.invariant-loop-pair
invariant-loop-pair l =
    l.out.items ++ joined (pair_views (drop l.pair-index l.pairs))
    ≡ l.fn.out.items ++ joined (pair_views l.pairs)
