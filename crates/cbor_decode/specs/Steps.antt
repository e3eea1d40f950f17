-- The words for a step of a decoder, which is seen before and after it: those of `Gives`, of the inputs
-- that its source stands for.
use Rattle.std.specs.Prelude.{ℕ, Bool, List, Result}
use Rattle.cbor_model.specs.Reader.{Reads}
use Rattle.cbor_io.specs.declared.read_error.ReadErrorCode.{ReadErrorCode}
use Rattle.cbor_read.specs.Source as source
use Rattle.cbor_read.specs.Source.{Input}
use Rattle.cbor_decode.specs.Gives as input
use Rattle.cbor_decode.specs.Gives.{Limits}
use Rattle.cbor_decode.specs.declared.Decoder.{Decoder}
use Rattle.cbor_decode.specs.declared.refusal.Refused.{Refused}

-- what was read, seen by view; or why not, and some bytes were taken
abbrev pub Gives : {R X A : Type 0} → (R → Input) → (ReadErrorCode → Bool) → (X → A)
    → (Limits → List ℕ → Reads A) → Decoder R → Decoder R → Result X Refused → Type 0
Gives seen refusals view read old new result =
    input.Gives refusals view read (seen old.source) (seen new.source) new.refusal result

-- a byte at the least was taken
abbrev pub Advances : {R : Type 0} → (R → Input) → Decoder R → Decoder R → Type 0
Advances seen old new = input.Advances (seen old.source) (seen new.source)

-- some bytes were taken from the front, and counted
abbrev pub TookSome : {R : Type 0} → (R → Input) → Decoder R → Decoder R → Type 0
TookSome seen old new = source.TookSome (seen old.source) (seen new.source)

-- the buffer stays
abbrev pub KeepsBuffer : {R : Type 0} → (R → Input) → Decoder R → Decoder R → Type 0
KeepsBuffer seen old new = input.KeepsBuffer (seen old.source) (seen new.source)
