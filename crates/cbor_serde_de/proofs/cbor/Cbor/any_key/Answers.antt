use Rattle.std.proofs.Common.{subst}
use Rattle.std.specs.Prelude.{MatchBool}
use Rattle.cbor_model.specs.Refusal.{end_in_map}
use Rattle.cbor_serde_de.specs.Given.{Closes, CountsPair}
use Rattle.cbor_serde_de.proofs.cbor.Cbor.any_key.Goals as goal

pub returns : goal.returns
returns c =
    let old = c.args.self.now in
    let key = c.more.new.self in
    record {
      key = key;
      comes = subst (λ b. MatchBool b (CountsPair old key) (Closes end_in_map old key)) c.if-not-branch.false c.in_ok-more.ensures;
      named = c.in_ok-place.ensures;
    }
