use Rattle.std.proofs.Common.{◌≡◌, ◌∙◌, ◌%◌, ℕ, Option, Some, None, Ok, Err, refl, sym, ap, subst}
use Rattle.std.proofs.lemmas.Result.{err_from_is_err_and}
use Rattle.cbor_model.specs.Refusal.{too_deep}
use Rattle.cbor_model.specs.Reader.{before, number_behind}
use Rattle.cbor_read.specs.Source.{Input}
use Rattle.cbor_io.specs.declared.read_error.ReadErrorCode.TheVariants.{RecursionLimitExceeded}
use Rattle.cbor_decode.specs.Gives.{Step}
use Rattle.cbor_decode.proofs.facts.Steps.{step_map, step_then, stopped_map, stopped_then, fault_stops}
use Rattle.cbor_decode_as.specs.Tags.{tag_first_at, tag_head_at}
use Rattle.cbor_decode_as.proofs.heads.TagHeads.{first_none, first_stops, Numbered, number_stops, no_level, one_entered}
use Rattle.cbor_decode_as.proofs.tags.take_tag.Goals as goal

pub returns-in-Ok-None-clause-read : goal.returns-in-Ok-None-clause-read
returns-in-Ok-None-clause-read g c =
    let s = g.R.Source.source c.args.decoder.now.source in
    let t = g.R.Source.source c.tag_first.new.decoder.source in
    let levels = c.args.decoder.now.levels in
    let h = c.in-Ok-None in
    let none = subst (λ (o : Option ℕ). Step s t (λ l bs rest. tag_first_at bs ≡ Ok (o, rest))) h.field-0-is h.ensures.read in
    step_map s t (λ l bs rest. tag_first_at bs ≡ Ok (None, rest)) (λ l bs rest. tag_head_at levels bs ≡ Ok (None, rest)) (λ l bs rest is. first_none levels bs rest is) none

pub returns-in-Err-clause-read : goal.returns-in-Err-clause-read
returns-in-Err-clause-read g c =
    let s = g.R.Source.source c.args.decoder.now.source in
    let levels = c.args.decoder.now.levels in
    stopped_map g.R.Source.refusals (λ l. tag_first_at) (λ l. tag_head_at levels) s _ _ (λ l bs e is. first_stops levels bs e is) c.in-Err.ensures.read

pub returns-in_err-n-clause-read : goal.returns-in_err-n-clause-read
returns-in_err-n-clause-read g c =
    let is_err = err_from_is_err_and c.from_residual.result c.from_residual.ensures.1 in
    let s = g.R.Source.source c.args.decoder.now.source in
    let t = g.R.Source.source c.tag_first.new.decoder.source in
    let levels = c.args.decoder.now.levels in
    let h = c.in-Ok-Some in
    let b = h.first in
    let first = subst (λ (o : Option ℕ). Step s t (λ l bs rest. tag_first_at bs ≡ Ok (o, rest))) h.field-0-is h.ensures.read in
    rw (is_err.1, is_err.2) (stopped_then g.R.Source.refusals (λ l. number_behind (b % 32)) (λ l. tag_head_at levels) s t _ _ (λ l bs mid. tag_first_at bs ≡ Ok (Some b, mid))
    (λ l bs mid e here stops. number_stops levels b bs mid e here stops) first c.in_err-n.ensures.read)

pub returns-in_err-enter-clause-read : goal.returns-in_err-enter-clause-read
returns-in_err-enter-clause-read g c =
    let is_err = err_from_is_err_and c.from_residual-in_err-enter.result c.from_residual-in_err-enter.ensures.1 in
    let s = g.R.Source.source c.args.decoder.now.source in
    let t = g.R.Source.source c.tag_first.new.decoder.source in
    let u = g.R.Source.source c.argument.new.self.source in
    let levels = c.args.decoder.now.levels in
    let h = c.in-Ok-Some in
    let b = h.first in
    let n = c.in_ok-n.n in
    let first = subst (λ (o : Option ℕ). Step s t (λ l bs rest. tag_first_at bs ≡ Ok (o, rest))) h.field-0-is h.ensures.read in
    let numbered = step_then s t u (λ l bs mid. tag_first_at bs ≡ Ok (Some b, mid)) (λ l mid rest. number_behind (b % 32) mid ≡ Ok (n, rest)) (λ l bs rest. Numbered b n bs rest)
    (λ l bs mid rest here number. record { mid = mid; first = here; number = number }) first c.in_ok-n.ensures.read in
    let e = c.in_err-enter.ensures in
    let none : levels ≡ 0 = sym (c.in_ok-n.ensures.settings.levels ∙ h.ensures.settings.levels) ∙ e.none.0 in
    let stops = fault_stops g.R.Source.refusals u (λ l bs. Err (before too_deep bs)) _ _ RecursionLimitExceeded too_deep (λ at end r h. h) (λ l bs. refl) e.refused e.kept in
    rw (is_err.1, is_err.2, e.source) (stopped_then g.R.Source.refusals (λ l bs. Err (before too_deep bs)) (λ l. tag_head_at levels) s u _ _ (λ l bs rest. Numbered b n bs rest)
    (λ l bs rest d here is. no_level levels b n bs rest none here ∙ is) numbered stops)

pub returns-clause-read : goal.returns-clause-read
returns-clause-read g c =
    let s = g.R.Source.source c.args.decoder.now.source in
    let t = g.R.Source.source c.tag_first.new.decoder.source in
    let u = g.R.Source.source c.argument.new.self.source in
    let v = g.R.Source.source c.enter.new.self.source in
    let levels = c.args.decoder.now.levels in
    let h = c.in-Ok-Some in
    let b = h.first in
    let n = c.in_ok-n.n in
    let first = subst (λ (o : Option ℕ). Step s t (λ l bs rest. tag_first_at bs ≡ Ok (o, rest))) h.field-0-is h.ensures.read in
    let numbered = step_then s t u (λ l bs mid. tag_first_at bs ≡ Ok (Some b, mid)) (λ l mid rest. number_behind (b % 32) mid ≡ Ok (n, rest)) (λ l bs rest. Numbered b n bs rest)
    (λ l bs mid rest here number. record { mid = mid; first = here; number = number }) first c.in_ok-n.ensures.read in
    let one_in = sym (c.in_ok-n.ensures.settings.levels ∙ h.ensures.settings.levels) ∙ c.in_ok-enter.ensures.inside in
    let step = step_map s u (λ l bs rest. Numbered b n bs rest) (λ l bs rest. tag_head_at levels bs ≡ Ok (Some n, rest)) (λ l bs rest here. one_entered levels c.enter.new.self.levels b n bs rest one_in here) numbered in
    subst (λ (x : Input). Step s x (λ l bs rest. tag_head_at levels bs ≡ Ok (Some n, rest))) (sym (ap g.R.Source.source c.in_ok-enter.ensures.source)) step
