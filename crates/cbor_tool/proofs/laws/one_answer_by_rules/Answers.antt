use Rattle.cbor_tool.proofs.laws.one_answer_by_rules.Goals as goal
use Rattle.cbor_tool.proofs.OneAnswer as proved

pub returns : goal.returns
returns c = proved.one_answer_by_rules c.none_where_kept.ensures
