use Rattle.cbor_forms.proofs.ReadBack.{read_back}
use Rattle.cbor_forms.proofs.laws.length_first_reads_back.Goals as goal

pub returns : goal.returns
returns c v stored ordered held nests = read_back v stored ordered held nests
