use Rattle.cbor_rules.proofs.laws.reduced_has_reduced_numbers.Goals as goal
use Rattle.cbor_rules.proofs.Dcbor as proved

pub returns : goal.returns
returns c =
    proved.all_reduced c.shortened_once.ensures c.reduced_once.ensures
    c.same_number_in_dcbor.ensures.in_range
