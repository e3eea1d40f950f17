use Rattle.std.proofs.Common.{Some, inl, inr}
use Rattle.cbor_convert.proofs.required.RequiredDeserialize.deserialize.Goals as goal

pub returns-in-Err-clause-read : goal.returns-in-Err-clause-read
returns-in-Err-clause-read g c =
    let unread = c.in-Err.ensures.read in
    record {
      took = unread.took;
      reported = λ bs reports. elim (unread.reported bs reports) [
        | inl e ↦ inl e
        | inr none ↦ inr (λ x rest is. none (record { tag = Some g.row.N; value = x.0 }) rest (record { item = is.item; is = is.is; means = is.means }))
      ];
    }

pub returns-in-Err-clause-memory : goal.returns-in-Err-clause-memory
returns-in-Err-clause-memory g c = λ out bs reports x rest is.
    c.in-Err.ensures.memory out bs reports (record { tag = Some g.row.N; value = x.0 }) rest (record { item = is.item; is = is.is; means = is.means })
