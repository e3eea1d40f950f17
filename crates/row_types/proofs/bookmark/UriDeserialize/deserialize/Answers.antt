use Rattle.std.proofs.Common.{inl, inr}
use Rattle.std.proofs.lemmas.Result.{err_from_is_err_and}
use Rattle.row_types.proofs.bookmark.UriDeserialize.deserialize.Goals as goal

pub returns-in_err-text-clause-read : goal.returns-in_err-text-clause-read
returns-in_err-text-clause-read g c =
    let passed = err_from_is_err_and c.from_residual.result c.from_residual.ensures.1 in
    let unread = c.in_err-text.ensures.read in
    rw (passed.1, passed.2) (record {
      took = unread.took;
      reported = λ bs reports. elim (unread.reported bs reports) [
        | inl e ↦ inl e
        | inr none ↦ inr (λ u rest is. none (record { tag = is.means.tag; value = u.0 }) rest (record { item = is.item; is = is.is; means = is.means.text }))
      ];
    })
