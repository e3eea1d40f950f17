-- What a piece leaves in a sink that reports the bytes it was given.
use Rattle.std.specs.Prelude.{◌≡◌, ℕ, ◌+◌, ◌≤◌, List, ◌++◌, Option, Some, None, Result, OnOk, OnErr, IsOk, length, take, drop}
use Rattle.std.specs.Io.KnownBytes.{Appends}
use Rattle.cbor_io.specs.Error.{code_of, offset_of}
use Rattle.cbor_io.specs.declared.error.Error.{Error}
use Rattle.cbor_io.specs.declared.error.ErrorCode.TheVariants.{Io, ScratchTooSmall}
use Rattle.cbor_io.specs.declared.write.io_write.IoWrite.{IoWrite}
use Rattle.cbor_io.specs.declared.write.slice_write.SliceWrite.{SliceWrite}
use Rattle.cbor_io.specs.declared.error.ErrorCode.{ErrorCode}

-- A prefix of the bytes was written, and the rest of them was not.
pub record AppendsBeginning (bytes : List ℕ) (old new : Option (List ℕ)) : Type 0 where
  pub front : List ℕ
  pub rest : List ℕ
  pub whole : front ++ rest ≡ bytes
  pub written : Appends old new front

-- Ok has appended the bytes, and an Err a prefix of them.
pub record Wrote {T E : Type 0} (old : Option (List ℕ)) (bytes : List ℕ) (new : Option (List ℕ))
    (result : Result T E) : Type 0 where
  pub ok : OnOk result (Appends old new bytes)
  pub err : OnErr result (AppendsBeginning bytes old new)

-- There is room for the bytes: with those that the sink was given they are no more than its capacity.
abbrev pub HasRoomFor : Option ℕ → Option (List ℕ) → List ℕ → Type 0
HasRoomFor None old bytes = ⊥
HasRoomFor (Some most) None bytes = ⊥
HasRoomFor (Some most) (Some held) bytes = length held + length bytes ≤ most

-- Bytes for which there is room are written: it is Ok.
pub record TakesWhatFits {T E : Type 0} (capacity : Option ℕ) (old : Option (List ℕ))
    (bytes : List ℕ) (result : Result T E) : Type 0 where
  pub taken : HasRoomFor capacity old bytes → IsOk result

-- a fault that a device reported
abbrev pub IsFaultCode : ErrorCode → Type 0
IsFaultCode (Io fault) = Unit {0}
IsFaultCode _ = ⊥

abbrev pub IsFault : Error → Type 0
IsFault e = IsFaultCode (code_of e) × (offset_of e ≡ 0)

-- the writer that a sink stands before
abbrev pub io_writer : {W : Type 0} → IoWrite W → W
io_writer w = w.writer

-- ---- a slice that is written to

-- the bytes that are written
abbrev pub written_bytes : SliceWrite → List ℕ
written_bytes s = take s.count s.slice.now

-- the rest of the slice
abbrev pub unwritten_bytes : SliceWrite → List ℕ
unwritten_bytes s = drop s.count s.slice.now

-- how many bytes the slice has
abbrev pub slice_capacity : SliceWrite → ℕ
slice_capacity s = length (written_bytes s) + length (unwritten_bytes s)

-- which slice it is, by the name of the reference to it
abbrev pub slice_reference : SliceWrite → ℕ
slice_reference s = s.slice.ghost_name

-- too little room, at the number of bytes written
abbrev pub IsFull : SliceWrite → Error → Type 0
IsFull s e = (code_of e ≡ ScratchTooSmall) × (offset_of e ≡ length (written_bytes s))
