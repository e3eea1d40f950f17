use Rattle.std.proofs.Common.{◌≡◌, subst, Some, sym, Result, inl, inr}
use Rattle.cbor_model.specs.Acceptable.{max_depth}
use Rattle.cbor_model.specs.Formats.{Formats, all_formats}
use Rattle.cbor_io.specs.declared.error.Error.{Error}
use Rattle.cbor_decode_as.specs.Takes.{lending}
use Rattle.cbor_de.specs.Streams.{StreamGives, standing, begun}
use Rattle.cbor_de.specs.declared.stream.StreamDeserializer.{StreamDeserializer}
use Rattle.cbor_de.proofs.inputs.StreamAnswers.{yields_along, Begun, begun_is, items_given, item_given, error_given}
use Rattle.cbor_de.proofs.all_items.read_items.Goals as goal

pub returns-clause-found : goal.returns-clause-found
returns-clause-found g c =
    let reads = λ (f : Formats). g.T.Readable.reads (lending f g.R.Source.lends) in
    let at = standing {T = g.row.T.Denot} g.R.Source.source in
    let source = g.R.Source.source c.args.source in
    let all = yields_along (StreamGives g.R.Source.refusals reads g.T.Readable.total) at c.loop-answer.yielded _ _ c.loop-answer.yielded_by in
    let is : at c.new-stream.result ≡ begun source max_depth all_formats = c.new-stream.ensures.begun in
    let new = begun_is source (at c.new-stream.result) is in
    let begins = subst (λ (s : StreamDeserializer g.row.R.Denot g.row.T.Denot). Begun source (at s)) (sym c.into_iter-answer-iterator.ensures.into_iter_gives) new in
    items_given reads g.T.Readable.total g.R.Source.refusals source _ _ _ c.loop-answer.yielded c.loop-answer.items.items begins c.loop-answer.invariant all c.in-None.ensures.steps

pub returns-in-Err-clause-refused : goal.returns-in-Err-clause-refused
returns-in-Err-clause-refused g c =
    let reads = λ (f : Formats). g.T.Readable.reads (lending f g.R.Source.lends) in
    let at = standing {T = g.row.T.Denot} g.R.Source.source in
    let source = g.R.Source.source c.args.source in
    let all = yields_along (StreamGives g.R.Source.refusals reads g.T.Readable.total) at c.loop-answer.yielded _ _ c.loop-answer.yielded_by in
    let is : at c.new-stream.result ≡ begun source max_depth all_formats = c.new-stream.ensures.begun in
    let new = begun_is source (at c.new-stream.result) is in
    let begins = subst (λ (s : StreamDeserializer g.row.R.Denot g.row.T.Denot). Begun source (at s)) (sym c.into_iter-answer-iterator.ensures.into_iter_gives) new in
    let t = at c.loop-answer.answer-iterator in
    let u = at c.next.new.self in
    let error = subst (λ (r : Result g.row.T.Denot Error). StreamGives g.R.Source.refusals reads g.T.Readable.total t (Some r) u) c.in-Err.is c.in-Some.ensures.steps in
    λ bytes rest items reports fits are room. inr (c.loop-answer.items.items, error_given reads g.T.Readable.total g.R.Source.refusals source _ t u c.loop-answer.yielded c.loop-answer.items.items c.in-Err.e begins c.loop-answer.invariant all error bytes rest items reports fits are room)

pub returns-then-is_err-clause-refused : goal.returns-then-is_err-clause-refused
returns-then-is_err-clause-refused g c =
    let reads = λ (f : Formats). g.T.Readable.reads (lending f g.R.Source.lends) in
    let at = standing {T = g.row.T.Denot} g.R.Source.source in
    let source = g.R.Source.source c.args.source in
    let all = yields_along (StreamGives g.R.Source.refusals reads g.T.Readable.total) at c.loop-answer.yielded _ _ c.loop-answer.yielded_by in
    let is : at c.new-stream.result ≡ begun source max_depth all_formats = c.new-stream.ensures.begun in
    let new = begun_is source (at c.new-stream.result) is in
    let begins = subst (λ (s : StreamDeserializer g.row.R.Denot g.row.T.Denot). Begun source (at s)) (sym c.into_iter-answer-iterator.ensures.into_iter_gives) new in
    let t = at c.loop-answer.answer-iterator in
    let u = at c.next.new.self in
    let item = subst (λ (r : Result g.row.T.Denot Error). StreamGives g.R.Source.refusals reads g.T.Readable.total t (Some r) u) c.in-Ok.is c.in-Some.ensures.steps in
    λ bytes rest items reports fits are room. inl (c.from.ensures, item_given reads g.T.Readable.total g.R.Source.refusals source _ t u c.loop-answer.yielded c.loop-answer.items.items c.in-Ok.item begins c.loop-answer.invariant all item bytes rest items reports fits are)
