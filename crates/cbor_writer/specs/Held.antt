-- What a sink means that goes to a writer by blocks.
use Rattle.std.specs.Prelude.{ℕ, List, take, drop, Option}
use Rattle.cbor_writer.specs.GivenByBlocks.{given}
use Rattle.cbor_writer.specs.declared.blocks.Blocks.{Blocks}

-- which writer it stands before, by the name of the reference to it
abbrev pub reference_of : {W : Type 0} → Blocks W → ℕ
reference_of s = s.writer.ghost_name

-- the bytes that the writer has
abbrev pub contents_of : {W : Type 0} → (W → Option (List ℕ)) → Blocks W → Option (List ℕ)
contents_of contents s = contents s.writer.now

-- the bytes of the block that it doesn't have
abbrev pub unsent_in : {W : Type 0} → Blocks W → List ℕ
unsent_in s = drop s.from (take s.held s.block)

abbrev pub given_to : {W : Type 0} → (W → Option (List ℕ)) → Blocks W → Option (List ℕ)
given_to contents s = given (contents_of contents s) s.sent (unsent_in s)
