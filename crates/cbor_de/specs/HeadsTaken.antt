-- What `array`, `map` and `structure` take of the bytes to come, by the definitions.
use Rattle.std.specs.Prelude.{◌≡◌, ◌⊎◌, ℕ, ◌+◌, ◌*◌, ◌<◌, Bool, List, [], ◌∷◌, ◌++◌, length}
use Rattle.std.specs.Prelude.{Result, MatchResult}
use Rattle.cbor_model.specs.Head.{HeadWidth, head, limit}
use Rattle.cbor_model.specs.Raw.{AreBytes}
use Rattle.cbor_io.specs.declared.error.Error.{Error}
use Rattle.cbor_io.specs.declared.read_error.ReadErrorCode.{ReadErrorCode}
use Rattle.cbor_io.specs.Error.{code_of, offset_of}
use Rattle.cbor_read.specs.Source.{Input}
use Rattle.cbor_decode.specs.Gives.{ReportsIo, Reports}
use Rattle.cbor_decode.specs.declared.cursor.Remaining.{Remaining}
use Rattle.cbor_decode.specs.declared.cursor.Remaining.TheVariants.{Counted, ToBreak}
use Rattle.cbor_decode.specs.declared.head.Head.{Head}
use Rattle.cbor_decode_as.specs.Takes.{ExcusedBy}
use Rattle.cbor_decode_as.specs.Begins.{TakesBeginning}

-- the head of so many parts, or the first byte of an indefinite length
abbrev pub parts_head : ℕ → HeadWidth → Remaining → List ℕ
parts_head major w (Counted n) = head major w n
parts_head major w ToBreak = (32 * major + 31) ∷ []

-- the count fits the width
abbrev pub FitsHead : HeadWidth → Remaining → Type 0
FitsHead w (Counted n) = n < limit w
FitsHead w ToBreak = Unit {0}

-- the heads of tags, one after the other
abbrev pub tag_heads : List (HeadWidth × ℕ) → List ℕ
tag_heads [] = []
tag_heads (t ∷ ts) = head 6 t.0 t.1 ++ tag_heads ts

abbrev pub FitTags : List (HeadWidth × ℕ) → Type 0
FitTags [] = Unit {0}
FitTags (t ∷ ts) = (t.1 < limit t.0) × FitTags ts

-- The bytes are the heads of some tags, a head of this major type, which says how much remains, and
-- the rest. Each head is a level further in: of so many levels so many are left.
pub record BeginsBy (major levels left : ℕ) (remaining : Remaining) (bytes rest : List ℕ)
    : Type 0 where
  pub tags : List (HeadWidth × ℕ)
  pub width : HeadWidth
  pub tags_fit : FitTags tags
  pub fits : FitsHead width remaining
  pub spelled : bytes ≡ tag_heads tags ++ (parts_head major width remaining ++ rest)
  pub inside : levels ≡ length tags + (left + 1)

-- The source has just the rest to come, and counted the bytes of these heads.
pub record TookHeads (major levels left : ℕ) (s t : Input) (bytes : List ℕ) (remaining : Remaining)
    : Type 0 where
  pub rest : List ℕ
  pub begins : BeginsBy major levels left remaining bytes rest
  pub reports : Reports t rest
  pub count : t.offset + length rest ≡ s.offset + length bytes

-- no such heads are there
abbrev pub NoHeads : ℕ → ℕ → List ℕ → Type 0
NoHeads major levels bytes = (left : ℕ) (remaining : Remaining) (rest : List ℕ)
    → BeginsBy major levels left remaining bytes rest → ⊥

-- Ok took such heads; of an Err none are there, or memory ran out, or the device has a fault.
abbrev pub HeadsTaken : (Remaining → Head) → ℕ → Type 0
HeadsTaken kind major = (refusals : ReadErrorCode → Bool) (levels left : ℕ) (s t : Input)
    (bytes : List ℕ) (r : Result Remaining Error)
    → Reports s bytes → AreBytes bytes → TakesBeginning kind refusals levels s t left r
    → MatchResult r (TookHeads major levels left s t bytes)
    (λ e. ExcusedBy (ReportsIo refusals) (code_of e) (offset_of e) ⊎ NoHeads major levels bytes)
