use Rattle.std.proofs.Common.{◌≡◌, ◌∙◌, Ok, refl, sym, ap, arith, rules}
use Rattle.std.proofs.lemmas.Result.{err_from_is_err_and}
use Rattle.std.specs.Int.{w8, w16, w32, w64}
use Rattle.cbor_model.specs.Plain.{Val}
use Rattle.cbor_model.specs.Reader.{number_at, after_first, inside}
use Rattle.cbor_decode.specs.Decoder.{formats_of}
use Rattle.cbor_decode.specs.Gives.{values}
use Rattle.cbor_decode.proofs.Steps.{step_same, step_map, stopped_map}
use Rattle.cbor_decode.proofs.Numbers.{small_at, unsigned_of_1, unsigned_of_2, unsigned_of_4, unsigned_of_8, view_integer}
use Rattle.cbor_decode.proofs.Decoder.unsigned_from.Goals as goal

pub returns-in_err-number_of_1-in-24-clause-read : goal.returns-in_err-number_of_1-in-24-clause-read
returns-in_err-number_of_1-in-24-clause-read g c =
    let passed = err_from_is_err_and c.from_residual.result c.from_residual.ensures.1 in
    let f = formats_of c.args.self.now.formats in
    let levels = c.args.self.now.levels in
    rw (passed.1, passed.2) (stopped_map g.R.Source.refusals (λ l. number_at w8) (λ l. after_first (values f l) (inside (values f l) levels) c.args.first) _ _ _ (λ l bs d is. unsigned_of_1 f l (inside (values f l) levels) c.args.first bs c.in-24.is ∙ rw is refl) c.in_err-number_of_1-in-24.ensures.read)

pub returns-in_ok-number_of_1-in-24-clause-read : goal.returns-in_ok-number_of_1-in-24-clause-read
returns-in_ok-number_of_1-in-24-clause-read g c =
    let f = formats_of c.args.self.now.formats in
    let levels = c.args.self.now.levels in
    let n = c.in_ok-number_of_1-in-24.field-0 in
    let same = sym (view_integer n (omega arith)) in
    step_map _ _ (λ l bs rest. number_at w8 bs ≡ Ok (n, rest)) _ (λ l bs rest is. (unsigned_of_1 f l (inside (values f l) levels) c.args.first bs c.in-24.is ∙ rw is refl) ∙ ap (λ (v : Val). Ok (v, rest)) same) c.in_ok-number_of_1-in-24.ensures.read

pub returns-in_err-number_of_2-in-25-clause-read : goal.returns-in_err-number_of_2-in-25-clause-read
returns-in_err-number_of_2-in-25-clause-read g c =
    let passed = err_from_is_err_and c.from_residual-in_err-number_of_2-in-25.result c.from_residual-in_err-number_of_2-in-25.ensures.1 in
    let f = formats_of c.args.self.now.formats in
    let levels = c.args.self.now.levels in
    rw (passed.1, passed.2) (stopped_map g.R.Source.refusals (λ l. number_at w16) (λ l. after_first (values f l) (inside (values f l) levels) c.args.first) _ _ _ (λ l bs d is. unsigned_of_2 f l (inside (values f l) levels) c.args.first bs c.in-25.is ∙ rw is refl) c.in_err-number_of_2-in-25.ensures.read)

pub returns-in_ok-number_of_2-in-25-clause-read : goal.returns-in_ok-number_of_2-in-25-clause-read
returns-in_ok-number_of_2-in-25-clause-read g c =
    let f = formats_of c.args.self.now.formats in
    let levels = c.args.self.now.levels in
    let n = c.in_ok-number_of_2-in-25.field-0 in
    let same = sym (view_integer n (omega arith)) in
    step_map _ _ (λ l bs rest. number_at w16 bs ≡ Ok (n, rest)) _ (λ l bs rest is. (unsigned_of_2 f l (inside (values f l) levels) c.args.first bs c.in-25.is ∙ rw is refl) ∙ ap (λ (v : Val). Ok (v, rest)) same) c.in_ok-number_of_2-in-25.ensures.read

pub returns-in_err-number_of_4-in-26-clause-read : goal.returns-in_err-number_of_4-in-26-clause-read
returns-in_err-number_of_4-in-26-clause-read g c =
    let passed = err_from_is_err_and c.from_residual-in_err-number_of_4-in-26.result c.from_residual-in_err-number_of_4-in-26.ensures.1 in
    let f = formats_of c.args.self.now.formats in
    let levels = c.args.self.now.levels in
    rw (passed.1, passed.2) (stopped_map g.R.Source.refusals (λ l. number_at w32) (λ l. after_first (values f l) (inside (values f l) levels) c.args.first) _ _ _ (λ l bs d is. unsigned_of_4 f l (inside (values f l) levels) c.args.first bs c.in-26.is ∙ rw is refl) c.in_err-number_of_4-in-26.ensures.read)

pub returns-in_ok-number_of_4-in-26-clause-read : goal.returns-in_ok-number_of_4-in-26-clause-read
returns-in_ok-number_of_4-in-26-clause-read g c =
    let f = formats_of c.args.self.now.formats in
    let levels = c.args.self.now.levels in
    let n = c.in_ok-number_of_4-in-26.field-0 in
    let same = sym (view_integer n (omega arith)) in
    step_map _ _ (λ l bs rest. number_at w32 bs ≡ Ok (n, rest)) _ (λ l bs rest is. (unsigned_of_4 f l (inside (values f l) levels) c.args.first bs c.in-26.is ∙ rw is refl) ∙ ap (λ (v : Val). Ok (v, rest)) same) c.in_ok-number_of_4-in-26.ensures.read

pub returns-in_err-number_of_8-in-27-clause-read : goal.returns-in_err-number_of_8-in-27-clause-read
returns-in_err-number_of_8-in-27-clause-read g c =
    let passed = err_from_is_err_and c.from_residual-in_err-number_of_8-in-27.result c.from_residual-in_err-number_of_8-in-27.ensures.1 in
    let f = formats_of c.args.self.now.formats in
    let levels = c.args.self.now.levels in
    rw (passed.1, passed.2) (stopped_map g.R.Source.refusals (λ l. number_at w64) (λ l. after_first (values f l) (inside (values f l) levels) c.args.first) _ _ _ (λ l bs d is. unsigned_of_8 f l (inside (values f l) levels) c.args.first bs c.in-27.is ∙ rw is refl) c.in_err-number_of_8-in-27.ensures.read)

pub returns-in_ok-number_of_8-in-27-clause-read : goal.returns-in_ok-number_of_8-in-27-clause-read
returns-in_ok-number_of_8-in-27-clause-read g c =
    let f = formats_of c.args.self.now.formats in
    let levels = c.args.self.now.levels in
    let n = c.in_ok-number_of_8-in-27.field-0 in
    let same = sym (view_integer n (omega arith)) in
    step_map _ _ (λ l bs rest. number_at w64 bs ≡ Ok (n, rest)) _ (λ l bs rest is. (unsigned_of_8 f l (inside (values f l) levels) c.args.first bs c.in-27.is ∙ rw is refl) ∙ ap (λ (v : Val). Ok (v, rest)) same) c.in_ok-number_of_8-in-27.ensures.read

pub returns-in_default-clause-read : goal.returns-in_default-clause-read
returns-in_default-clause-read g c =
    let f = formats_of c.args.self.now.formats in
    let levels = c.args.self.now.levels in
    let n = c.args.first in
    step_same _ _ (λ l bs. small_at f l (inside (values f l) levels) n bs (search rules) ∙ ap (λ (v : Val). Ok (v, bs)) (sym (view_integer n (omega arith))))
