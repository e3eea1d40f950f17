-- What `read_tag` takes of the bytes to come, by the definitions.
use Rattle.std.specs.Prelude.{◌≡◌, ◌⊎◌, ℕ, ◌+◌, ◌<◌, ◌≤◌, Bool, List, [], ◌∷◌, ◌++◌, length, Option}
use Rattle.std.specs.Prelude.{Some, None, Result, MatchResult}
use Rattle.cbor_model.specs.Head.{HeadWidth, head, limit}
use Rattle.cbor_model.specs.Raw.{AreBytes}
use Rattle.cbor_io.specs.declared.error.Error.{Error}
use Rattle.cbor_io.specs.declared.read_error.ReadErrorCode.{ReadErrorCode}
use Rattle.cbor_io.specs.Error.{code_of, offset_of}
use Rattle.cbor_read.specs.Source.{Input}
use Rattle.cbor_decode.specs.Gives.{ReportsIo, Reports}
use Rattle.cbor_decode_as.specs.Tags.{ReadsTag}
use Rattle.cbor_decode_as.specs.Takes.{ExcusedBy}

-- The bytes are the head of a tag, major type 6 (RFC 7049, section 2.4), of this number, and the rest.
pub record BeginsByTag (n : ℕ) (bytes rest : List ℕ) : Type 0 where
  pub width : HeadWidth
  pub fits : n < limit width
  pub spelled : bytes ≡ head 6 width n ++ rest

-- the first byte is one of such a head: major type 6, with a number of some width
abbrev pub BeginsTag : List ℕ → Type 0
BeginsTag [] = ⊥
BeginsTag (b ∷ bytes) = (0xc0 ≤ b) × (b ≤ 0xdb)

-- A level is left, the source has just the rest to come, and it counted the bytes of the head.
pub record TookTag (levels n : ℕ) (s t : Input) (bytes : List ℕ) : Type 0 where
  pub rest : List ℕ
  pub tagged : BeginsByTag n bytes rest
  pub level : 0 < levels
  pub reports : Reports t rest
  pub count : t.offset + length rest ≡ s.offset + length bytes

-- No tag begins, and the source has all bytes still to come.
pub record TookNoTag (s t : Input) (bytes : List ℕ) : Type 0 where
  pub none : BeginsTag bytes → ⊥
  pub reports : Reports t bytes
  pub count : t.offset ≡ s.offset

abbrev pub TookTagOrNone : ℕ → Input → Input → List ℕ → Option ℕ → Type 0
TookTagOrNone levels s t bytes (Some n) = TookTag levels n s t bytes
TookTagOrNone levels s t bytes None = TookNoTag s t bytes

-- A tag begins, whose head is cut off, or for which no level is left.
pub record LacksTag (levels : ℕ) (bytes : List ℕ) : Type 0 where
  pub begins : BeginsTag bytes
  pub whole : (n : ℕ) (rest : List ℕ) → BeginsByTag n bytes rest → levels ≡ 0

-- Ok took the head of a tag that begins; of an Err it isn't whole or no level is left, or memory ran out,
-- or the device has a fault.
abbrev pub TagTaken : Type 0
TagTaken = (refusals : ReadErrorCode → Bool) (levels : ℕ) (s t : Input) (bytes : List ℕ)
    (r : Result (Option ℕ) Error)
    → Reports s bytes → AreBytes bytes → ReadsTag refusals levels s t r
    → MatchResult r (TookTagOrNone levels s t bytes)
    (λ e. ExcusedBy (ReportsIo refusals) (code_of e) (offset_of e) ⊎ LacksTag levels bytes)
