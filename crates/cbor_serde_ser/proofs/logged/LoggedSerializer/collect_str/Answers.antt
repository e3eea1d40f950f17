use Rattle.std.proofs.Common.{◌≡◌, Some, refl, subst, sym}
use Rattle.serde.specs.Event.{text}
use Rattle.cbor_serde_ser.specs.Document.{step}
use Rattle.cbor_serde_ser.specs.State.{state}
use Rattle.cbor_serde_ser.proofs.logged.LoggedSerializer.collect_str.Goals as goal

pub invariant_of-self-2 : goal.invariant_of-self-2
invariant_of-self-2 g c =
    let old = c.args.self.now.writer in
    let printed = subst (λ bs. step old.options (state old) (text bs) ≡ Some (state c.collect_str.new.self)) (sym c.as_str.ensures.value) c.in_default.ensures.step in
    record {
      follows = c.after-self-2.ensures.follows _ _ _ _ c.args.self.now.follows c.collect_str.ensures.options printed;
      known = λ h. c.after-self-2.ensures.known refl (c.args.self.now.known h);
    }
