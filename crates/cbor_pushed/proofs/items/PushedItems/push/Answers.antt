use Rattle.std.proofs.Common.{is_ok}
use Rattle.cbor_model.specs.Acceptable.{max_depth}
use Rattle.cbor_pushed.proofs.Pushed.{pushed_stands}
use Rattle.cbor_pushed.proofs.items.PushedItems.push.Goals as goal

pub invariant_of-self : goal.invariant_of-self
invariant_of-self c =
    let p = c.self.inside in
    let s = p.scan in
    pushed_stands max_depth s.at s.chunks s.innermost s.around.items (is_ok c.extend_from_slice.result) p.taken p.pushed.items c.extend_from_slice.new.self.items c.args.piece.now
    c.extend_from_slice.ensures.items c.self.invariant.0 c.self.invariant.1
