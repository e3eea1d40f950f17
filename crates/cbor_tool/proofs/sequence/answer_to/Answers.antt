use Rattle.serde_cbor.specs.View.{view}
use Rattle.cbor_tool.proofs.Answers.{err_weaker, out_of_memory}
use Rattle.cbor_tool.proofs.sequence.answer_to.Goals as goal

pub returns-in-Canonical-clause-err : goal.returns-in-Canonical-clause-err
returns-in-Canonical-clause-err c =
    err_weaker c.to_vec.result (λ e h stored. out_of_memory (view c.args.value.now) e stored h) c.to_vec.ensures.refused
