use Rattle.std.proofs.Common.{◌≡◌, true, false, length, take, drop, IfOk, IfErr}
use base.Logic.{mono_r}
use contract.Monad.{fact}
use Rattle.cbor_read.specs.Lending.{mut_slice_row}
use Rattle.cbor_read.specs.Source.{MemoryWhere, is_long, part_bytes}
use Rattle.cbor_read.proofs.Lent.{meets_by, rests_less}
use Rattle.cbor_read.proofs.mut_slice_read.MutSliceReadRead.TheImpl.Goals as goal

pub read-meets : goal.read-meets
read-meets g c =
    let u = g.world.𝓤 in
    let s = c.args.self.now in
    meets_by u _ _ _ _ (λ r e.
    mono_r u (fact u (IfOk r (λ p. length (part_bytes p) ≡ c.args.n)))
    (mono_r u (fact u (IfOk r (λ p. part_bytes p ≡ take c.args.n (drop s.taken s.slice.now))))
    (mono_r u (fact u (IfOk r (λ p. is_long p ≡ true)))
    (mono_r u (fact u (IfErr r (MemoryWhere false)))
    (rests_less g.world.𝓛 mut_slice_row c.args.self.ghost_name _ _ (λ v h. h.0))))))

pub take_buffer-meets : goal.take_buffer-meets
take_buffer-meets g c =
    let u = g.world.𝓤 in
    let s = c.args.self.now in
    meets_by u _ _ _ _ (λ r e.
    mono_r u (fact u (part_bytes r ≡ take s.joined (drop s.start s.slice.now)))
    (mono_r u (fact u (is_long r ≡ true))
    (rests_less g.world.𝓛 mut_slice_row c.args.self.ghost_name _ _ (λ v h. h.0))))
