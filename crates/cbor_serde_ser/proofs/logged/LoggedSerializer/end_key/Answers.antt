use Rattle.std.proofs.Common.{refl}
use Rattle.cbor_serde_ser.proofs.logged.LoggedSerializer.end_key.Goals as goal

pub invariant_of-self-2 : goal.invariant_of-self-2
invariant_of-self-2 c = record {
  follows = c.after-self-2.ensures.follows _ _ _ _ c.args.self.now.follows c.end_key.ensures.options c.in_default.ensures.step;
  known = λ h. c.after-self-2.ensures.known refl (c.args.self.now.known h);
}
