-- What a stream gives of its bytes, from the first call to the last.
use Rattle.std.specs.Prelude.{◌≡◌, ◌≢◌, ◌⊎◌, ◌+◌, ◌-◌, ⊤, ℕ, Bool, false, List, [], ◌∷◌, length, Option, Result, Ok, Err}
use Rattle.std.specs.Iterator.{Drains}
use Rattle.std.specs.List.{AllByRecursion}
use Rattle.cbor_model.specs.Acceptable.{FitsScratch}
use Rattle.cbor_model.specs.Formats.{Formats, all_formats}
use Rattle.cbor_model.specs.Raw.{Raw, AreBytes}
use Rattle.cbor_model.specs.Allowed.{Limits}
use Rattle.cbor_io.specs.declared.error.Error.{Error}
use Rattle.cbor_io.specs.declared.error.ErrorCode.TheVariants.{OutOfMemory}
use Rattle.cbor_io.specs.declared.read_error.ReadErrorCode.{ReadErrorCode}
use Rattle.cbor_io.specs.Error.{code_of, offset_of, IsOutOfMemory}
use Rattle.cbor_decode.specs.FirstRefusal.{ReportsFirst}
use Rattle.cbor_decode.specs.Gives.{Reports, ReportsIo, IsMemoryOrFault}
use Rattle.cbor_decode_as.specs.Takes.{ExcusedBy, WhereTotal}
use Rattle.cbor_de.specs.Items.{AreMostItems}
use Rattle.cbor_de.specs.Streams.{Stream, StreamGives}

-- each item is read so
abbrev pub AreReadAs : {A : Type 0} → (Raw → A → Type 0) → List Raw → List A → Type 0
AreReadAs reads [] [] = ⊤
AreReadAs reads (r ∷ rs) (x ∷ xs) = reads r x × AreReadAs reads rs xs
AreReadAs reads _ _ = ⊥

-- memory ran out, or the device has a fault
abbrev pub IsExcused : Type 0 → Error → Type 0
IsExcused Device e = ExcusedBy Device (code_of e) (offset_of e)

-- the device has a fault
abbrev pub IsFault : Type 0 → Error → Type 0
IsFault Device e = IsExcused Device e × (code_of e ≢ OutOfMemory)

module _ {A : Type 0} (reads : Raw → A → Type 0) (total : Bool) (Device : Type 0)
    (levels end : ℕ) (room : Option ℕ) where
  -- Why an item isn't read: the type doesn't read it, which one that reads every item never does;
  -- or the error is excused.
  pub record Rejected (r : Raw) (e : Error) : Type 0 where
    pub not : IsExcused Device e ⊎ ((x : A) → reads r x → ⊥)
    pub excused : WhereTotal total (IsExcused Device e)

  -- what bounds an item that begins where these bytes do
  abbrev pub limits_at : List ℕ → Limits
  limits_at bytes =
      record { start = end - length bytes; levels = levels; scratch = room }

  -- What is reported where no item stands at the front of bytes: by a type that reads every item the
  -- first refusal that they allow of one.
  abbrev pub Faulty : List ℕ → Error → Type 0
  Faulty bytes e = WhereTotal total
      (IsOutOfMemory e ⊎ (Device × IsMemoryOrFault e) ⊎ ReportsFirst (limits_at bytes) bytes e)

  -- The answers to these items and to the rest after them: what each item is read as, and then
  -- none; or, where something is left, one error. Before that, one may report that an item isn't
  -- read.
  abbrev pub AnswersTo : List Raw → List ℕ → List (Result A Error) → Type 0
  AnswersTo (r ∷ rs) rest (Ok x ∷ answers) = reads r x × AnswersTo rs rest answers
  AnswersTo (r ∷ rs) rest (Err e ∷ []) = Rejected r e
  AnswersTo [] [] [] = ⊤
  AnswersTo [] [] (Err e ∷ []) = IsFault Device e
  AnswersTo [] (b ∷ rest) (Err e ∷ []) = Faulty (b ∷ rest) e
  AnswersTo _ _ _ = ⊥

-- A stream, under all formats, over bytes that its source reports: it answers to the longest list of
-- items at their front, acceptable within its levels, and to what follows those.
abbrev pub StreamAnswers : {A : Type 0} → (Formats → Raw → A → Type 0) → Bool → Type 0
StreamAnswers {A} reads total = (refusals : ReadErrorCode → Bool) (s : Stream) (bytes rest : List ℕ)
    (items : List Raw) (answers : List (Result A Error))
    → s.done ≡ false → s.formats ≡ all_formats
    → Reports s.input bytes → AreBytes bytes
    → AreMostItems s.levels bytes items rest → AllByRecursion (FitsScratch s.input.room) items
    → Drains (StreamGives refusals reads total) s answers
    → AnswersTo (reads all_formats) total (ReportsIo refusals) s.levels
    (s.input.offset + length bytes) s.input.room items rest answers
