use Rattle.std.proofs.Common.{rules}
use Rattle.cbor_read.proofs.ReaderSteps.{first_taken}
use Rattle.cbor_read.proofs.io_read.IoRead.take_first.Goals as goal

pub returns-in-Some-clause-took : goal.returns-in-Some-clause-took
returns-in-Some-clause-took g c =
    let taken = rw c.in-Some.is at c.in_ok-byte.ensures.does in
    (search rules, first_taken _ _ _ _ c.requires taken, λ q. search rules)
