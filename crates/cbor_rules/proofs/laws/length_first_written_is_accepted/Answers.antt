use Rattle.cbor_rules.proofs.laws.length_first_written_is_accepted.Goals as goal
use Rattle.cbor_rules.proofs.Deterministic.{apart}
use Rattle.cbor_rules.proofs.LengthFirstItems as proved

pub returns : goal.returns
returns c = record {
  kept = proved.written_is_accepted c.length_first_reads_back.ensures (apart c.same_number_same_float.ensures);
}
