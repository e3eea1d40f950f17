-- What a call of a serializer leaves: a part of a document was appended to its sink, or a beginning
-- of that part. `written` gives a sink's bytes, `refuses` its errors, `references` what it writes
-- through, and `capacity` how many bytes it takes, as `Write` has them.
use Rattle.std.specs.Prelude.{◌≡◌, ℕ, List, Option, ◌⊎◌, Bool, Result, OnOk, OnErr, IfErr}
use Rattle.std.specs.Option.{IsSomeAnd}
use Rattle.std.specs.Io.KnownBytes.{Appends}
use Rattle.cbor_model.specs.Plain.{Val}
use Rattle.cbor_model.specs.Canonical.{IsStorable, canon}
use Rattle.cbor_model.specs.InRange.{IsInRange}
use Rattle.cbor_model.specs.Document.{Doc, document_of}
use Rattle.cbor_model.specs.Parts.{Part, part_bytes, IsStorablePart, IsPartInRange}
use Rattle.cbor_model.specs.Unstored.{StandsBefore, StandsBeforeIn}
use Rattle.cbor_io.specs.declared.error.Error.{Error}
use Rattle.cbor_io.specs.Write.{AppendsBeginning, Wrote, HasRoomFor}
use Rattle.cbor_ser.specs.Written.{IsUnstorable, SaysUnstorable}
use Rattle.cbor_ser.specs.Narrowed.{narrowed_part}
use Rattle.cbor_ser.specs.declared.serializer.Settings.{Settings}
use Rattle.cbor_ser.specs.declared.serializer.Serializer.{Serializer}

abbrev pub writer_of : {W : Type 0} → Serializer W → W
writer_of s = s.writer

abbrev pub settings_of : {W : Type 0} → Serializer W → Settings
settings_of s = s.settings

-- the bytes of a part under these settings
abbrev pub bytes_under : Settings → Part → List ℕ
bytes_under s part = part_bytes (narrowed_part s.shortest part) s.packed s.legacy

-- What was appended ends before the first number of the part that isn't stored, under these settings.
abbrev pub StopsBefore : Settings → Part → Option (List ℕ) → Option (List ℕ) → Type 0
StopsBefore s part old new =
    (front : List ℕ) → StandsBeforeIn (narrowed_part s.shortest part) s.packed s.legacy front
    → AppendsBeginning front old new

-- What was appended ends before the first number of the document that isn't stored, whatever
-- `packed` and `legacy`.
abbrev pub EndsBefore : Doc → Option (List ℕ) → Option (List ℕ) → Type 0
EndsBefore d old new = (packed legacy : Bool) (front : List ℕ)
    → StandsBefore d packed legacy front → AppendsBeginning front old new

-- The part was appended, and all its numbers fit.
pub record Added {W : Type 0} (written : W → Option (List ℕ)) (references : W → List ℕ)
    (capacity : W → Option ℕ) (old : Serializer W) (part : Part) (new : Serializer W) : Type 0 where
  pub appended : Appends (written old.writer) (written new.writer) (bytes_under old.settings part)
  pub settings : new.settings ≡ old.settings
  pub same_references : references new.writer ≡ references old.writer
  pub same_capacity : capacity new.writer ≡ capacity old.writer
  pub storable : IsStorablePart part
  pub in_range : IsPartInRange part

-- A prefix of the part was appended, and where the part has a number that isn't stored, a
-- prefix of what stands before the first. The error is one of the sink's, or the part has such a
-- number. A part that has none is stopped only where the sink has no room for it, or no capacity.
pub record Stopped {W : Type 0} (written : W → Option (List ℕ)) (refuses : W → Error → Type 0)
    (references : W → List ℕ) (capacity : W → Option ℕ) (old : Serializer W) (part : Part)
    (new : Serializer W) (e : Error) : Type 0 where
  pub appended : AppendsBeginning (bytes_under old.settings part)
      (written old.writer) (written new.writer)
  pub before : StopsBefore old.settings part (written old.writer) (written new.writer)
  pub settings : new.settings ≡ old.settings
  pub same_references : references new.writer ≡ references old.writer
  pub same_capacity : capacity new.writer ≡ capacity old.writer
  pub refused : refuses new.writer e ⊎ ((IsStorablePart part → ⊥) × SaysUnstorable e)
  pub no_room : IsStorablePart part
      → HasRoomFor (capacity old.writer) (written old.writer) (bytes_under old.settings part) → ⊥

pub record Serialized {T W : Type 0} (written : W → Option (List ℕ)) (refuses : W → Error → Type 0)
    (references : W → List ℕ) (capacity : W → Option ℕ) (old : Serializer W) (part : Part)
    (new : Serializer W) (result : Result T Error) : Type 0 where
  pub ok : OnOk result (Added written references capacity old part new)
  pub err : IfErr result (Stopped written refuses references capacity old part new)

-- The same of a step, which leaves its error with its caller.
pub record Stepped {T E W : Type 0} (written : W → Option (List ℕ)) (refuses : W → Error → Type 0)
    (references : W → List ℕ) (capacity : W → Option ℕ) (old : Serializer W) (part : Part)
    (new : Serializer W) (done : Result T E) (refusal : Option Error) : Type 0 where
  pub ok : OnOk done (Added written references capacity old part new)
  pub err : OnErr done
      (IsSomeAnd refusal (Stopped written refuses references capacity old part new))

-- under these settings the part is spelled so, and all its numbers fit
pub record Spells (s : Settings) (part : Part) (bytes : List ℕ) : Type 0 where
  pub same : bytes_under s part ≡ bytes
  pub storable : IsStorablePart part
  pub in_range : IsPartInRange part

-- one of the sink's errors, or a number in the value that isn't stored
abbrev pub ValueRefused : {W : Type 0} → (W → Error → Type 0) → W → Val → Error → Type 0
ValueRefused refuses w v e = refuses w e ⊎ IsUnstorable v e

-- The value's canonical spelling was appended, or a prefix of it.
pub record WroteValue {T W : Type 0} (written_by : W → Option (List ℕ))
    (refuses : W → Error → Type 0) (old : W) (v : Val) (new : W)
    (result : Result T Error) : Type 0 where
  pub storable : OnOk result (IsStorable v)
  pub in_range : OnOk result (IsInRange v)
  pub written : Wrote (written_by old) (canon v) (written_by new) result
  pub refused : IfErr result (ValueRefused refuses new v)

-- If the document is a value's, what was appended is that value's canonical spelling, or a
-- prefix of it.
abbrev pub WroteValues : {T W : Type 0} → (W → Option (List ℕ)) → (W → Error → Type 0)
    → W → Doc → W → Result T Error → Type 0
WroteValues written refuses old d new result =
    (v : Val) → d ≡ document_of v → WroteValue written refuses old v new result
