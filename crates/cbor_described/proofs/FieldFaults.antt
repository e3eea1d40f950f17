-- The faults of the bytes, as the values of fields report them.
use Rattle.std.proofs.Common.{inl, inr, ℕ, zero, suc, Bool, IfErr, List, [], ◌∷◌, Some, Result, Ok, Err}
use Rattle.cbor_model.specs.Formats.{Formats}
use Rattle.cbor_read.specs.Source.{Input}
use Rattle.cbor_io.specs.Error.{IsMessageOf}
use Rattle.cbor_io.specs.declared.error.Error.{Error}
use Rattle.cbor_io.specs.declared.error.ErrorCode.{ErrorCode}
use Rattle.cbor_decode.specs.Gives.{Step}
use Rattle.cbor_decode_as.specs.Takes.{WhereTotal}
use Rattle.cbor_de.specs.Calls.{and_reports}
use Rattle.cbor_de.specs.Fields.{Slots}
use Rattle.cbor_de.specs.Structs.{FieldOf, IsAny}
use Rattle.cbor_de.proofs.facts.Faults.{first_reports, other_reports}
use Rattle.cbor_de.proofs.facts.MapFaults.{AnyRead, item_passes}
use Rattle.cbor_described.specs.FieldLists.{FieldTaken, NamesLacking}

-- of the first field
pub of_first : {A : Type 0} (a b : Bool) (P : Error → Type 0) (r : Result A Error) → IfErr r (λ e. WhereTotal a (P e)) → IfErr r (λ e. WhereTotal (and_reports a b) (P e))
of_first a b P (Ok x) h = h
of_first a b P (Err e) h = first_reports (P e) a b h

-- of the others
pub of_others : {A : Type 0} (a b : Bool) (P : Error → Type 0) (r : Result A Error) → IfErr r (λ e. WhereTotal b (P e)) → IfErr r (λ e. WhereTotal (and_reports a b) (P e))
of_others a b P (Ok x) h = h
of_others a b P (Err e) h = other_reports (P e) a b h

-- what names a missing field is a message
pub names_message : {S : Type 0} (fields : List (FieldOf S)) (names : List (List ℕ)) (slots : Slots fields) (code : ErrorCode) → NamesLacking fields names slots code → (text : List ℕ) × IsMessageOf (Some text) code
names_message [] names slots code h = absurd h
names_message (d ∷ fields) [] slots code h = absurd h
names_message (d ∷ fields) (name ∷ names) slots code (inl h) = (_, h.1)
names_message (d ∷ fields) (name ∷ names) slots code (inr h) = names_message fields names slots.1 code h.1

-- a field that was read is an item that stands there
pub field_passes : {S : Type 0} (f : Formats) (levels : ℕ) (fields : List (FieldOf S)) (i : ℕ) (old new : Slots fields) (s t : Input) → FieldTaken f levels fields i old new s t → Step s t (AnyRead levels)
field_passes f levels [] i old new s t h = item_passes IsAny f levels tt s t h
field_passes f levels (d ∷ fields) zero old new s t h = item_passes d.reads f levels h.2.0 s t h.2.2
field_passes f levels (d ∷ fields) (suc i) old new s t h = field_passes f levels fields i old.1 new.1 s t h.1
