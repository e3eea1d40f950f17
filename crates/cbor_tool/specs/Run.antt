-- What a run has taken and written, where the reader and the writer report their bytes.
use Rattle.std.specs.Prelude.{◌≡◌, ℕ, ◌-◌, ◌^◌, List, [], ◌∷◌, ◌++◌, length, ◌==◌, if◌then◌else◌}
use Rattle.std.specs.Prelude.{◌⊎◌, Option, refl}
use Rattle.std.specs.Io.KnownBytes.{Appends, Consumes, IsAtEnd}
use Rattle.cbor_tool.specs.Answer.{lines, Answered, AreAnswers}
use Rattle.serde_cbor.specs.declared.error.ErrorCode.{ErrorCode}
use Rattle.serde_cbor.specs.declared.error.ErrorCode.TheVariants.{Io, OutOfMemory, LengthOutOfRange}
use Rattle.serde_cbor.specs.declared.error.Error.{Error}
use Rattle.serde_cbor.specs.Error.{code_of, offset_of}

-- One answer for each of the lines was written, and nothing else.
abbrev pub AppendsAnswers : Answered → List (List ℕ) → Option (List ℕ) → Option (List ℕ) → Type 0
AppendsAnswers answered lines old new =
    (output : List ℕ) × AreAnswers answered lines output × Appends old new output

-- a prefix of the answer to the line, its 0a counted
pub record BeginsAnswer (answered : Answered) (line begun : List ℕ) : Type 0 where
  pub missing : List ℕ
  pub whole : AreAnswers answered (line ∷ []) (begun ++ missing)

-- One answer for each of the lines before was written, then a prefix of the answer to the last,
-- and nothing else.
pub record AppendsUpTo (answered : Answered) (before : List (List ℕ)) (last : List ℕ)
    (old new : Option (List ℕ)) : Type 0 where
  pub output : List ℕ
  pub begun : List ℕ
  pub answers : AreAnswers answered before output
  pub begins : BeginsAnswer answered last begun
  pub written : Appends old new (output ++ begun)

-- a line's first byte, before the ended lines that follow without it
abbrev pub begin_ended : ℕ → List (List ℕ) → List (List ℕ)
begin_ended b [] = []
begin_ended b (line ∷ lines) = (b ∷ line) ∷ lines

-- The lines whose 0a is among the bytes.
abbrev pub ended_lines : List ℕ → List (List ℕ)
ended_lines [] = []
ended_lines (b ∷ bs) = if b == 0x0a then [] ∷ ended_lines bs else begin_ended b (ended_lines bs)

-- ---- why a run stops before the input's end, and what it has done

-- Memory ran out. All lines that were begun but the last have been answered. A line is begun once
-- its first byte was taken.
pub record StopsInLine (answered : Answered)
    (reader reader' writer writer' : Option (List ℕ)) : Type 0 where
  pub taken : List ℕ
  pub before : List (List ℕ)
  pub last : List ℕ
  pub begun : lines taken ≡ before ++ last ∷ []
  pub consumed : Consumes reader reader' taken
  pub written : AppendsAnswers answered before writer writer'

-- The reader failed. The lines that had ended have been answered.
pub record StopsAtReader (answered : Answered)
    (reader reader' writer writer' : Option (List ℕ)) : Type 0 where
  pub taken : List ℕ
  pub consumed : Consumes reader reader' taken
  pub written : AppendsAnswers answered (ended_lines taken) writer writer'

-- The writer failed, on the answer to a line, of which a beginning was written. All lines before it
-- have been answered. No byte that follows this line was taken.
pub record StopsAtWriter (answered : Answered)
    (reader reader' writer writer' : Option (List ℕ)) : Type 0 where
  pub taken : List ℕ
  pub before : List (List ℕ)
  pub last : List ℕ
  pub begun : lines taken ≡ before ++ last ∷ []
  pub ended : (ended_lines taken ≡ lines taken) ⊎ IsAtEnd reader'
  pub consumed : Consumes reader reader' taken
  pub written : AppendsUpTo answered before last writer writer'

-- the greatest offset, and the greatest length of an input
abbrev pub max_offset : ℕ
max_offset = 2 ^ 64 - 1

-- A byte too many was taken. The lines that ended before it have been answered.
pub record StopsPastMax (answered : Answered)
    (reader reader' writer writer' : Option (List ℕ)) : Type 0 where
  pub taken : List ℕ
  pub past : ℕ
  pub count : length taken ≡ max_offset
  pub consumed : Consumes reader reader' (taken ++ past ∷ [])
  pub written : AppendsAnswers answered (ended_lines taken) writer writer'

abbrev pub IsStoppedBy : Answered → ErrorCode → ℕ
    → (reader reader' writer writer' : Option (List ℕ)) → Type 0
IsStoppedBy answered (Io fault) offset reader reader' writer writer' = (offset ≡ 0)
    × (StopsAtReader answered reader reader' writer writer'
    ⊎ StopsAtWriter answered reader reader' writer writer')
IsStoppedBy answered OutOfMemory offset reader reader' writer writer' = (offset ≡ 0)
    × StopsInLine answered reader reader' writer writer'
IsStoppedBy answered LengthOutOfRange offset reader reader' writer writer' = (offset ≡ max_offset)
    × StopsPastMax answered reader reader' writer writer'
IsStoppedBy answered _ offset reader reader' writer writer' = ⊥

abbrev pub IsStopped : Answered → Error → (reader reader' writer writer' : Option (List ℕ)) → Type 0
IsStopped answered e = IsStoppedBy answered (code_of e) (offset_of e)

-- ---- examples

ended : ended_lines (0x31 ∷ 0x0a ∷ 0x0a ∷ 0x32 ∷ []) ≡ (0x31 ∷ []) ∷ [] ∷ []
ended = refl
