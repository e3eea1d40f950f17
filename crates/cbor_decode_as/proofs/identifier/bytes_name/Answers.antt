use Rattle.std.proofs.Common.{Result, subst}
use Rattle.cbor_read.specs.Source.{part_bytes}
use Rattle.cbor_read.specs.declared.EitherLifetime.{EitherLifetime}
use Rattle.cbor_decode.specs.declared.head.Head.TheVariants as head
use Rattle.cbor_decode_as.specs.Strings.{Lent}
use Rattle.cbor_decode_as.specs.declared.borrowed.Unread.{Unread}
use Rattle.cbor_decode_as.proofs.texts.Lending.{made_refuses}
use Rattle.std.proofs.Common.{◌≡◌, Bool, true, IfErr}
use Rattle.cbor_read.specs.Source.{asks_for}
use Rattle.cbor_decode_as.specs.Strings.{UnreadBy, UnreadOnly, asks_head, behind_string}
use Rattle.cbor_decode_as.proofs.texts.NamedFaults.{unlent_fault, unlent_memory}
use Rattle.cbor_decode_as.proofs.identifier.bytes_name.Goals as goal

pub returns-in-Ok-clause-read : goal.returns-in-Ok-clause-read
returns-in-Ok-clause-read g c =
    let s = g.R.Source.source c.args.decoder.now.source in
    let t = g.R.Source.source c.bytes_part.follows.lender-at-none.source in
    let lent = subst (λ (r : Result EitherLifetime Unread). Lent g.R.Source.refusals g.R.Source.lends (head.Bytes c.args.n) s t r) c.in-Ok.is c.bytes_part.follows.holds-at-none.2 in
    (part_bytes c.in-Ok.part, c.place_of_part.ensures.place, lent.0)

pub returns-in-Err-clause-read : goal.returns-in-Err-clause-read
returns-in-Err-clause-read g c = λ e made.
    let s = g.R.Source.source c.args.decoder.now.source in
    let t = g.R.Source.source c.bytes_part.follows.lender-at-none.source in
    let lacks = subst (λ (r : Result EitherLifetime Unread). Lent g.R.Source.refusals g.R.Source.lends (head.Bytes c.args.n) s t r) c.in-Err.is c.bytes_part.follows.holds-at-none.2 in
    rw c.kept.ensures.source (made_refuses g.R.Source.refusals s _ _ c.in-Err.unread e (λ l bs none. none) (c.kept.ensures.kept e made) lacks)

pub returns-in-Err-clause-fault : goal.returns-in-Err-clause-fault
returns-in-Err-clause-fault g c =
    let s = g.R.Source.source c.args.decoder.now.source in
    let read = behind_string (head.Bytes c.args.n) in
    let by = subst (λ (r : Result EitherLifetime Unread). IfErr r (UnreadBy g.R.Source.refusals read s)) c.in-Err.is c.bytes_part.follows.holds-at-none.5 in
    unlent_fault g.R.Source.refusals read s c.in-Err.unread c.kept.new.decoder.refusal c.kept.result c.kept.ensures.same by

pub returns-in-Err-clause-memory : goal.returns-in-Err-clause-memory
returns-in-Err-clause-memory g c =
    let P = asks_head (asks_for g.R.Source.refusals g.R.Source.lends) (head.Bytes c.args.n) ≡ true in
    let only = subst (λ (r : Result EitherLifetime Unread). IfErr r (UnreadOnly P)) c.in-Err.is c.bytes_part.follows.holds-at-none.4 in
    unlent_memory P c.in-Err.unread c.kept.new.decoder.refusal c.kept.result c.kept.ensures.same only
