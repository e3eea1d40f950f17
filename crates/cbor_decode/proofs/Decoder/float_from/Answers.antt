use Rattle.std.proofs.Common.{◌≡◌, ◌∙◌, Ok, refl, sym, ap, rules}
use Rattle.std.proofs.lemmas.Result.{err_from_is_err_and}
use Rattle.std.specs.Int.{w16, w32, w64}
use Rattle.cbor_model.specs.Plain.{Val}
use Rattle.cbor_model.specs.Reader.{number_at, after_first, inside}
use Rattle.cbor_value.specs.declared.Float.TheVariants.{Half, Single, Double}
use Rattle.cbor_decode.specs.Decoder.{formats_of}
use Rattle.cbor_decode.specs.Gives.{values}
use Rattle.cbor_decode.proofs.Steps.{step_map, stopped_map}
use Rattle.cbor_decode.proofs.Numbers.{float_of_2, float_of_4, float_of_8, view_float}
use Rattle.cbor_decode.proofs.Decoder.float_from.Goals as goal

pub returns-in_err-number_of_2-in-249-clause-read : goal.returns-in_err-number_of_2-in-249-clause-read
returns-in_err-number_of_2-in-249-clause-read g c =
    let passed = err_from_is_err_and c.from_residual.result c.from_residual.ensures.1 in
    let f = formats_of c.args.self.now.formats in
    let levels = c.args.self.now.levels in
    rw (passed.1, passed.2) (stopped_map g.R.Source.refusals (λ l. number_at w16) (λ l. after_first (values f l) (inside (values f l) levels) c.args.first) _ _ _ (λ l bs d is. float_of_2 f l (inside (values f l) levels) c.args.first bs c.in-249.is ∙ rw is refl) c.in_err-number_of_2-in-249.ensures.read)

pub returns-in_ok-number_of_2-in-249-clause-read : goal.returns-in_ok-number_of_2-in-249-clause-read
returns-in_ok-number_of_2-in-249-clause-read g c =
    let f = formats_of c.args.self.now.formats in
    let levels = c.args.self.now.levels in
    let n = c.in_ok-number_of_2-in-249.field-0 in
    let same = sym (view_float (Half n)) in
    step_map _ _ (λ l bs rest. number_at w16 bs ≡ Ok (n, rest)) _ (λ l bs rest is. (float_of_2 f l (inside (values f l) levels) c.args.first bs c.in-249.is ∙ rw is refl) ∙ ap (λ (v : Val). Ok (v, rest)) same) c.in_ok-number_of_2-in-249.ensures.read

pub returns-in_err-number_of_4-in-250-clause-read : goal.returns-in_err-number_of_4-in-250-clause-read
returns-in_err-number_of_4-in-250-clause-read g c =
    let passed = err_from_is_err_and c.from_residual-in_err-number_of_4-in-250.result c.from_residual-in_err-number_of_4-in-250.ensures.1 in
    let f = formats_of c.args.self.now.formats in
    let levels = c.args.self.now.levels in
    rw (passed.1, passed.2) (stopped_map g.R.Source.refusals (λ l. number_at w32) (λ l. after_first (values f l) (inside (values f l) levels) c.args.first) _ _ _ (λ l bs d is. float_of_4 f l (inside (values f l) levels) c.args.first bs c.in-250.is ∙ rw is refl) c.in_err-number_of_4-in-250.ensures.read)

pub returns-in_ok-number_of_4-in-250-clause-read : goal.returns-in_ok-number_of_4-in-250-clause-read
returns-in_ok-number_of_4-in-250-clause-read g c =
    let f = formats_of c.args.self.now.formats in
    let levels = c.args.self.now.levels in
    let n = c.in_ok-number_of_4-in-250.field-0 in
    let same = sym (view_float (Single n)) in
    step_map _ _ (λ l bs rest. number_at w32 bs ≡ Ok (n, rest)) _ (λ l bs rest is. (float_of_4 f l (inside (values f l) levels) c.args.first bs c.in-250.is ∙ rw is refl) ∙ ap (λ (v : Val). Ok (v, rest)) same) c.in_ok-number_of_4-in-250.ensures.read

pub returns-in_err-number_of_8-in_default-clause-read : goal.returns-in_err-number_of_8-in_default-clause-read
returns-in_err-number_of_8-in_default-clause-read g c =
    let passed = err_from_is_err_and c.from_residual-in_err-number_of_8-in_default.result c.from_residual-in_err-number_of_8-in_default.ensures.1 in
    let f = formats_of c.args.self.now.formats in
    let levels = c.args.self.now.levels in
    rw (passed.1, passed.2) (stopped_map g.R.Source.refusals (λ l. number_at w64) (λ l. after_first (values f l) (inside (values f l) levels) c.args.first) _ _ _ (λ l bs d is. float_of_8 f l (inside (values f l) levels) c.args.first bs (search rules) ∙ rw is refl) c.in_err-number_of_8-in_default.ensures.read)

pub returns-in_ok-number_of_8-in_default-clause-read : goal.returns-in_ok-number_of_8-in_default-clause-read
returns-in_ok-number_of_8-in_default-clause-read g c =
    let f = formats_of c.args.self.now.formats in
    let levels = c.args.self.now.levels in
    let n = c.in_ok-number_of_8-in_default.field-0 in
    let same = sym (view_float (Double n)) in
    step_map _ _ (λ l bs rest. number_at w64 bs ≡ Ok (n, rest)) _ (λ l bs rest is. (float_of_8 f l (inside (values f l) levels) c.args.first bs (search rules) ∙ rw is refl) ∙ ap (λ (v : Val). Ok (v, rest)) same) c.in_ok-number_of_8-in_default.ensures.read
