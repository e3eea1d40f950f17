use Rattle.cbor_tool.proofs.laws.one_strict_answer.Goals as goal
use Rattle.cbor_tool.proofs.OneAnswer as answers

pub returns : goal.returns
returns c = answers.one_strict_answer
