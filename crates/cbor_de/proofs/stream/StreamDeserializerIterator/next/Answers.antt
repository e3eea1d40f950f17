use Rattle.std.proofs.Common.{◌≡◌, ℕ, List, [], ◌∷◌, Option, IfSome, take, refl, ap, subst}
use Rattle.cbor_decode_as.specs.Takes.{context, formats_of}
use Rattle.cbor_decode_as.proofs.facts.Refusals.{item_total}
use Rattle.cbor_de.proofs.inputs.StreamSteps.{none_before, fault_before, front_is}
use Rattle.cbor_de.proofs.stream.StreamDeserializerIterator.next.Goals as goal

pub returns-in-Err-deserialize-clause-steps : goal.returns-in-Err-deserialize-clause-steps
returns-in-Err-deserialize-clause-steps g c =
    let d = c.args.self.now.de.decoder in
    let f = formats_of d.formats in
    let s = g.R.Source.source d.source in
    let m = g.R.Source.source c.peek.new.self in
    let t = g.R.Source.source c.deserialize.new.de.decoder.source in
    let e = c.in-Err-deserialize.e in
    let h = c.in-Err-deserialize.ensures in
    let stays = c.in-Ok-Some.ensures.stays in
    let b = c.in-Ok-Some.field-0-0 in
    let front = front_is g.R.Source.refusals s c.in-Ok-Some.field-0 b c.in-Ok-Some.field-0-is c.in-Ok-Some.ensures.front in
    record {
      going = c.if-self.false;
      refused = none_before g.R.Source.refusals f (g.T.Readable.reads (context d.formats g.R.Source.lends)) d.levels s m t e b stays front h.read;
      fault = fault_before g.R.Source.refusals g.T.Readable.total f d.levels s m e stays (item_total g.T.Readable.passes_over g.T.Readable.total g.R.Source.refusals f d.levels m e h.fault);
      at_end = λ none out.
          let empty = subst (λ (x : Option (List ℕ)). IfSome x (λ bs. take 1 bs ≡ b ∷ [])) none.is front in
          cc;
      done = refl;
      levels = h.settings.levels;
      formats = ap formats_of h.settings.formats;
    }
