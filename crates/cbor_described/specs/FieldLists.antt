-- Lists of fields, of which structs are read.
use Rattle.std.specs.Prelude.{◌≡◌, ℕ, zero, suc, Bool, true, false, List, [], ◌∷◌, Option, Some, ◌⊎◌}
use Rattle.std.specs.Prelude.{Result, Ok, Err}
use Rattle.std.specs.Option.{is_some}
use Rattle.cbor_model.specs.Formats.{Formats}
use Rattle.cbor_model.specs.Raw.{Raw}
use Rattle.cbor_model.specs.Reader.{item_at}
use Rattle.cbor_io.specs.declared.error.Error.{Error}
use Rattle.cbor_io.specs.declared.read_error.ReadErrorCode.{ReadErrorCode}
use Rattle.cbor_io.specs.declared.error.ErrorCode.{ErrorCode}
use Rattle.cbor_io.specs.Error.{IsMessageOf, code_of, offset_of}
use Rattle.cbor_read.specs.Source.{Input}
use Rattle.cbor_decode.specs.Gives.{Step}
use Rattle.cbor_de.specs.Fields.{Slots, Lacks}
use Rattle.cbor_de.specs.Structs.{FieldOf, field_or, IsAny, missing_text}
use Rattle.cbor_decode_as.specs.Takes.{raws, IsRead, IsNotRead, MemoryFor, Refuses}

-- the fields of a T, as those of what a T is a view of
abbrev pub over : {S T : Type 0} → (S → T) → List (FieldOf T) → List (FieldOf S)
over view [] = []
over view (d ∷ fields) = field_or d.reads d.missing (λ x. d.of (view x)) ∷ over view fields

module _ {S : Type 0} where
  -- The first field that wasn't read, and may not be absent, is the one that a message names.
  abbrev pub NamesLacking : (fields : List (FieldOf S)) → List (List ℕ) → Slots fields → ErrorCode
      → Type 0
  NamesLacking [] names slots code = ⊥
  NamesLacking (d ∷ fields) [] slots code = ⊥
  NamesLacking (d ∷ fields) (name ∷ names) slots code =
      (Lacks d.missing slots.0 × IsMessageOf (Some (missing_text name)) code)
      ⊎ ((Lacks d.missing slots.0 → ⊥) × NamesLacking fields names slots.1 code)

  -- the i-th field was read before
  abbrev pub ReadBefore : (fields : List (FieldOf S)) → ℕ → Slots fields → Type 0
  ReadBefore [] i slots = ⊥
  ReadBefore (d ∷ fields) zero slots = is_some slots.0 ≡ true
  ReadBefore (d ∷ fields) (suc i) slots = ReadBefore fields i slots.1

-- empty slots of fields, over what the fields are a view of
abbrev pub slots_over : {S T : Type 0} → (view : S → T) → (fields : List (FieldOf T)) → Slots fields
    → Slots (over view fields)
slots_over view [] slots = slots
slots_over view (d ∷ fields) slots = (slots.0, slots_over view fields slots.1)

-- What a call gave for the value of one field: the value, in a slot that had none; or that the slot has
-- a value, or the value isn't there.
abbrev pub TakesSlot : {A : Type 0} → Formats → ℕ → (ReadErrorCode → Bool) → (Raw → A → Type 0)
    → Option A → Option A → Input → Input → Result (Unit {0}) Error → Type 0
TakesSlot {A} f levels refusals reads old new s t (Ok u) =
    (is_some old ≡ false)
    × ((x : A) × (new ≡ Some x) × Step s t (λ l bs rest. IsRead reads (item_at (raws f l) levels bs) x rest))
TakesSlot f levels refusals reads old new s t (Err e) =
    Refuses refusals s t (code_of e) (offset_of e) (λ l bs. is_some old ≡ false → IsNotRead reads (item_at (raws f l) levels bs))

module _ {S : Type 0} (f : Formats) (levels : ℕ) where
  -- The i-th field, which had no value, was read into its slot. Where the list is shorter, an item was
  -- passed over.
  abbrev pub FieldTaken : (fields : List (FieldOf S)) → ℕ → Slots fields → Slots fields → Input → Input
      → Type 0
  FieldTaken [] i old new s t =
      Step s t (λ l bs rest. IsRead IsAny (item_at (raws f l) levels bs) tt rest)
  FieldTaken (d ∷ fields) zero old new s t =
      (is_some old.0 ≡ false) × (new.1 ≡ old.1)
      × ((x : d.Value) × (new.0 ≡ Some x) × Step s t (λ l bs rest. IsRead d.reads (item_at (raws f l) levels bs) x rest))
  FieldTaken (d ∷ fields) (suc i) old new s t =
      (new.0 ≡ old.0) × FieldTaken fields i old.1 new.1 s t

  -- The i-th field has a value, or its value isn't there.
  abbrev pub FieldRefused : (ReadErrorCode → Bool) → (fields : List (FieldOf S)) → ℕ → Slots fields
      → Input → Input → Error → Type 0
  FieldRefused refusals [] i old s t e = Refuses refusals s t (code_of e) (offset_of e)
      (λ l bs. IsNotRead IsAny (item_at (raws f l) levels bs))
  FieldRefused refusals (d ∷ fields) zero old s t e = Refuses refusals s t (code_of e) (offset_of e)
      (λ l bs. is_some old.0 ≡ false → IsNotRead d.reads (item_at (raws f l) levels bs))
  FieldRefused refusals (d ∷ fields) (suc i) old s t e = FieldRefused refusals fields i old.1 s t e

  -- what a call gave for the value of the i-th field
  abbrev pub TakesField : (ReadErrorCode → Bool) → (fields : List (FieldOf S)) → ℕ → Slots fields
      → Slots fields → Input → Input → Result (Unit {0}) Error → Type 0
  TakesField refusals fields i old new s t (Ok u) = FieldTaken fields i old new s t
  TakesField refusals fields i old new s t (Err e) = FieldRefused refusals fields i old s t e

-- ---- memory

-- Where memory ran out for the value of a field whose slot had none, it is one for which it may be asked.
abbrev pub MemoryForSlot : {A : Type 0} → Formats → ℕ → (Raw → Type 0) → (Raw → A → Type 0) → Option A
    → Input → Error → Type 0
MemoryForSlot f levels asks reads old s e = is_some old ≡ false → MemoryFor asks f reads levels s e

-- The same of the i-th field, where this says of each place for which values it may be asked. Where the
-- list is shorter, an item is passed over.
abbrev pub MemoryForField : {S : Type 0} → Formats → ℕ → (ℕ → Raw → Type 0) → (fields : List (FieldOf S)) → ℕ
    → Slots fields → Input → Error → Type 0
MemoryForField f levels asks [] i old s e = MemoryFor (asks i) f IsAny levels s e
MemoryForField f levels asks (d ∷ fields) zero old s e = MemoryForSlot f levels (asks 0) d.reads old.0 s e
MemoryForField f levels asks (d ∷ fields) (suc i) old s e =
    MemoryForField f levels (λ j. asks (suc j)) fields i old.1 s e
