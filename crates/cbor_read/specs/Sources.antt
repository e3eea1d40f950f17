-- What each source of this crate means.
use Rattle.std.specs.Prelude.{◌≡◌, ℕ, ◌+◌, ◌≤◌, max, List, length, take, drop, Option, None, Some}
use Rattle.std.specs.List.Sorted.{IsPermutation}
use Rattle.cbor_read.specs.Source.{Input, slice_input, reader_input}
use Rattle.cbor_read.specs.declared.io_read.IoRead.{IoRead}
use Rattle.cbor_read.specs.declared.mut_slice_read.MutSliceRead.{MutSliceRead}
use Rattle.cbor_read.specs.declared.slice_read.SliceRead.{SliceRead}
use Rattle.cbor_read.specs.declared.slice_read_fixed.SliceReadFixed.{SliceReadFixed}
use Rattle.cbor_read.specs.declared.vec_read.VecRead.{VecRead}

abbrev pub input_of_slice : SliceRead → Input
input_of_slice s = slice_input s.slice.now s.taken s.buffer.items None

abbrev pub input_of_slice_fixed : SliceReadFixed → Input
input_of_slice_fixed s =
    slice_input s.slice.now s.taken (take s.joined s.scratch.now) (Some (length s.scratch.now))

abbrev pub input_of_mut_slice : MutSliceRead → Input
input_of_mut_slice s =
    record {
      to_come = Some (drop s.taken s.slice.now);
      buffer = take s.joined (drop s.start s.slice.now);
      offset = s.before + s.taken;
      room = None;
    }

-- No byte was lost: up to the offset they stand in another order, and those after it stay.
pub record Rearranged (s t : MutSliceRead) : Type 0 where
  pub before : t.before ≡ s.before
  pub same : IsPermutation (take t.taken s.slice.now) (take t.taken t.slice.now)
  pub behind : drop t.taken t.slice.now ≡ drop t.taken s.slice.now

-- The slice stays as it was.
pub record SameSlice (s t : MutSliceRead) : Type 0 where
  pub before : t.before ≡ s.before
  pub same : t.slice.now ≡ s.slice.now

abbrev pub input_of_vec : VecRead → Input
input_of_vec s = slice_input s.bytes.items s.taken s.buffer.items None

-- a reader, by the bytes that it has left
abbrev pub input_of_reader : {R : Type 0} → (R → Option (List ℕ)) → IoRead R → Input
input_of_reader remaining s = reader_input s.peeked (remaining s.reader) s.buffer.items s.offset

-- how many bytes are peeked
abbrev pub peeked_count : Option ℕ → ℕ
peeked_count None = 0
peeked_count (Some b) = 1

-- up to where the reader was asked for its bytes: those that were handed out, and one that is peeked
abbrev pub asked_to : {R : Type 0} → IoRead R → ℕ
asked_to s = s.offset + peeked_count s.peeked

-- A call that wants so many bytes asks the reader for none behind them.
abbrev pub AsksFor : {R : Type 0} → ℕ → IoRead R → IoRead R → Type 0
AsksFor n s t = asked_to t ≤ max (asked_to s) (s.offset + n)
