use Rattle.std.proofs.Common.{◌≡◌, Result, Ok, Err, OnOk, ap, ◌∙◌, arith}
use Rattle.std.proofs.lemmas.Grind.{common_steps}
use Rattle.serde.specs.Spelling.{spelled}
use Rattle.serde.proofs.Spellings.{spelled-AsIs}
use Rattle.cbor_serde_ser.proofs.writer.Writer.name.Goals as goal

pub returns-in-AsIs-clause-item : goal.returns-in-AsIs-clause-item
returns-in-AsIs-clause-item c =
    let same : spelled c.args.case c.args.kind c.args.name.now ≡ c.args.name.now = ap (λ k. spelled k c.args.kind c.args.name.now) c.in-AsIs.is ∙ spelled-AsIs c.args.kind c.args.name.now in
    rw same (grind (arith, common_steps))

on_ok : {A : Type 0} {E : Type 0} (r : Result A E) (P : Type 0) → P → OnOk r P
on_ok (Ok x) P h = h
on_ok (Err e) P h = tt

pub returns-in-AsIs-clause-text : goal.returns-in-AsIs-clause-text
returns-in-AsIs-clause-text c =
    let same : spelled c.args.case c.args.kind c.args.name.now ≡ c.args.name.now = ap (λ k. spelled k c.args.kind c.args.name.now) c.in-AsIs.is ∙ spelled-AsIs c.args.kind c.args.name.now in
    rw same (on_ok c.put_name.result _ c.put_name.ensures.content)
