-- What a sink that writes in blocks means.
use Rattle.std.specs.Prelude.{ℕ, List, take, drop, Option}
use Rattle.std.specs.Io.KnownBytes.{append_known}
use Rattle.cbor_writer.specs.declared.buffered_write.BufferedWrite.{BufferedWrite}

-- the writer that it stands before
abbrev pub held_writer : {W : Type 0} → BufferedWrite W → W
held_writer w = w.writer

-- the bytes of the block that its writer doesn't have
abbrev pub unsent_bytes : {W : Type 0} → BufferedWrite W → List ℕ
unsent_bytes w = drop w.sent (take w.held w.block.items)

-- the bytes that its writer has, and then those
abbrev pub buffered_contents : {W : Type 0} → (W → Option (List ℕ)) → BufferedWrite W
    → Option (List ℕ)
buffered_contents contents w = append_known (contents w.writer) (unsent_bytes w)
