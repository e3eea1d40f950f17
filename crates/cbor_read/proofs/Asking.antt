-- How far a reader is asked for its bytes by calls one after the other.
use Rattle.std.proofs.Common.{ℕ, ◌+◌, ◌≤◌, arith}
use Rattle.cbor_read.specs.Sources.{AsksFor}
use Rattle.cbor_read.specs.declared.io_read.IoRead.{IoRead}

-- a call that wanted n bytes made one that wanted m of these
pub asks_more : {R : Type 0} (s t u : IoRead R) (m n : ℕ) → t.offset + m ≤ s.offset + n
    → AsksFor n s t → AsksFor m t u → AsksFor n s u
asks_more s t u m n within first more = omega (arith, within, first, more)
