use Rattle.std.proofs.Common.{inl, inr}
use Rattle.cbor_tags.proofs.time.DateTimeDeserialize.deserialize.Goals as goal

pub returns-in-Err-clause-read : goal.returns-in-Err-clause-read
returns-in-Err-clause-read g c =
    let unread = c.in-Err.ensures.read in
    record {
      took = unread.took;
      reported = λ bs reports. elim (unread.reported bs reports) [
        | inl e ↦ inl e
        | inr none ↦ inr (λ t rest is. none (record { 0 = t.0 }) rest (record { item = is.item; is = is.is; means = is.means }))
      ];
    }
