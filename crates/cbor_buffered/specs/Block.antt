-- What a source that reads ahead means.
use Rattle.std.specs.Prelude.{ℕ, ◌+◌, List, take, drop, Option, None}
use Rattle.std.specs.Io.KnownBytes.{prepend_known}
use Rattle.cbor_read.specs.Source.{Input, Stays, RefusedCall, reader_refusals}
use Rattle.cbor_io.specs.declared.read_error.ReadError.{ReadError}
use Rattle.cbor_buffered.specs.declared.buffered_read.BufferedRead.{BufferedRead}

-- the reader that it stands before
abbrev pub held_reader : {R B : Type 0} {g : _} → BufferedRead R B g → R
held_reader s = s.reader

-- the bytes of the block that were read and not taken
abbrev pub read_ahead : {R B : Type 0} {g : _} → BufferedRead R B g → List ℕ
read_ahead {g = g} s = drop s.taken (take s.filled (g.held s.block))

-- those of them that the offset can count
abbrev pub in_block : {R B : Type 0} {g : _} → BufferedRead R B g → List ℕ
in_block {g = g} s = drop s.taken (take s.end (g.held s.block))

-- bytes that were read ahead, and then those that their reader has left
abbrev pub ahead_input : List ℕ → Option (List ℕ) → List ℕ → ℕ → Input
ahead_input ahead remaining buffer offset =
    record {
      to_come = prepend_known ahead remaining;
      buffer = buffer;
      offset = offset;
      room = None;
    }

abbrev pub input_of_buffered : {R B : Type 0} {g : _} → (R → Option (List ℕ))
    → BufferedRead R B g → Input
input_of_buffered remaining s =
    ahead_input (read_ahead s) (remaining s.reader) s.buffer.items (s.start + s.taken)

-- a call that wanted n bytes was refused, and took none
pub record RefusedHere (s t : Input) (n : ℕ) (e : ReadError) : Type 0 where
  pub refused : RefusedCall reader_refusals s t n e
  pub stays : Stays s t
