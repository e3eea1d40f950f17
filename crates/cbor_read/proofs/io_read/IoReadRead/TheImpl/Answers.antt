use Rattle.std.proofs.Common.{◌≡◌, true, false, length, take, IfOk, IfErr, IfSome}
use base.Logic.{mono_r}
use contract.Monad.{fact}
use denote.Param.{param}
use Rattle.cbor_read.specs.Source.{MemoryWhere, is_long, part_bytes}
use Rattle.cbor_read.specs.Sources.{input_of_reader}
use Rattle.cbor_read.specs.contracts.io_read.IoRead.{the_row}
use Rattle.cbor_read.proofs.Lent.{meets_by, rests_less}
use Rattle.cbor_read.proofs.io_read.IoReadRead.TheImpl.Goals as goal

pub read-meets : goal.read-meets
read-meets g c =
    let u = g.world.𝓤 in
    let s = input_of_reader g.R.Read.remaining c.args.self.now in
    meets_by u _ _ _ _ (λ r e.
    mono_r u (fact u (IfOk r (λ p. length (part_bytes p) ≡ c.args.n)))
    (mono_r u (fact u (IfOk r (λ p. IfSome s.to_come (λ bs. part_bytes p ≡ take c.args.n bs))))
    (mono_r u (fact u (IfOk r (λ p. is_long p ≡ false)))
    (mono_r u (fact u (IfErr r (MemoryWhere true)))
    (rests_less g.world.𝓛 (the_row (param 0 g.row.R)) c.args.self.ghost_name _ _ (λ v h. h.0))))))

pub take_buffer-meets : goal.take_buffer-meets
take_buffer-meets g c =
    let u = g.world.𝓤 in
    let s = input_of_reader g.R.Read.remaining c.args.self.now in
    meets_by u _ _ _ _ (λ r e.
    mono_r u (fact u (part_bytes r ≡ s.buffer))
    (mono_r u (fact u (is_long r ≡ false))
    (rests_less g.world.𝓛 (the_row (param 0 g.row.R)) c.args.self.ghost_name _ _ (λ v h. h.0))))
