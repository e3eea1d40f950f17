-- What a program knows of a sequence of items that a stream reads, and that may be cut off.
use Rattle.std.proofs.Common.{◌≡◌, ◌∙◌, ◌⊎◌, ◌<◌, ◌^◌, ℕ, true, List, [], ◌∷◌, ◌++◌, length, Option, inl, inr, sym, ap, subst, append-nil}
use Rattle.std.specs.Prelude.{flat_map}
use Rattle.std.specs.Io.KnownBytes.{Appends}
use Rattle.std.specs.List.{AllByRecursion}
use Rattle.cbor_model.specs.Acceptable.{IsAcceptable, max_depth}
use Rattle.cbor_model.specs.Document.{IsStorableDocument, document_of}
use Rattle.cbor_model.specs.Laws.{SpellsValue}
use Rattle.cbor_model.specs.Plain.{Val}
use Rattle.cbor_model.specs.Raw.{Raw}
use Rattle.cbor_model.specs.Spelling.{spell}
use Rattle.cbor_model.specs.Value.{value}
use Rattle.cbor_io.specs.Error.{IsOutOfMemory, code_of}
use Rattle.cbor_io.specs.Write.{AppendsBeginning, IsFault, IsFaultCode}
use Rattle.cbor_io.specs.declared.error.Error.{Error}
use Rattle.cbor_io.specs.declared.error.ErrorCode.{ErrorCode}
use Rattle.cbor_io.specs.declared.error.ErrorCode.TheVariants.{Io}
use Rattle.cbor_read.specs.Source.{reader_refusals}
use Rattle.cbor_ser.specs.Written.{IsNotWritten}
use Rattle.cbor_decode.specs.FirstRefusal.{ReportsFirst}
use Rattle.cbor_decode.specs.Gives.{IsMemoryOrFault, IsMemoryOrFaultBy}
use Rattle.cbor_de.specs.FirstOfItem.{ItemRefusedFirst}
use Rattle.cbor_de.specs.ItemLaws.{OneLongestList}
use Rattle.cbor_de.specs.Items.{AreItems}
use Rattle.cbor_de.specs.Streams.{Stream, GivesError, GivesNone}
use Rattle.cbor_round_trip.specs.CutOff.{IsCutTo, SaysCutOff, bounds_at}
use Rattle.cbor_round_trip.specs.Sequences.{AreBroken, AreWhole, Follows, ItemsUpTo}
use Rattle.cbor_round_trip.specs.StreamedItems.{HasStreamedItems}
use Rattle.cbor_round_trip.proofs.CutOff.{cut_off, excused_no_cut, rest_goes_on, whole_are_most}
use Rattle.cbor_round_trip.proofs.ItemLists.{front_of_items}
use Rattle.cbor_round_trip.proofs.StreamedItems.{all_items_streamed, memory_fault, most_items_streamed}
use Rattle.cbor_round_trip.proofs.Unwritten.{spelled_unwritten_for_memory}

-- ---- what a stream has given

module _ {A : Type 0} {view : A → Val} {bytes : List ℕ} {items : List Raw} {s : Stream} (far : HasStreamedItems view bytes items s) where
  abbrev pub up_to : ItemsUpTo bytes s.input.offset
  up_to = record { items = items; rest = far.given.rest; begin = far.begin; place = far.place }

  module _ {t : Stream} where
    -- at the end
    pub whole_at_end : GivesNone s t → AreWhole up_to
    whole_at_end none = let all = all_items_streamed view bytes far none in record { most = all.1; cut_off = inl all.0 }

    module _ (law : ItemRefusedFirst true) (e : Error) (given : GivesError reader_refusals (λ f r x. view x ≡ value r) true e s t) where
      -- after an error that says that the bytes end within an item
      pub whole_at_cut : SaysCutOff e → AreWhole up_to
      whole_at_cut says = elim (most_items_streamed view bytes far law e given) [
        | inl failed ↦ absurd (excused_no_cut e failed says)
        | inr reports ↦ record { most = reports.0; cut_off = inr (e, says, reports.1) }
      ]

      -- after another error
      pub broken_there : (SaysCutOff e → ⊥) → IsMemoryOrFault e ⊎ ((u : ItemsUpTo bytes s.input.offset) × AreBroken u e)
      broken_there not = elim (most_items_streamed view bytes far law e given) [
        | inl failed ↦ inl failed
        | inr reports ↦ inr (up_to, record { most = reports.0; reports = reports.1; goes_on = not })
      ]

-- ---- a sequence that is cut off

module _ (only : OneLongestList) (items : List Raw) {bytes : List ℕ} (missing : List ℕ) (acceptable : AllByRecursion IsAcceptable items)
    (short : length (flat_map spell items) < 2 ^ 64) (parts : flat_map spell items ≡ bytes ++ missing) {offset : ℕ} (u : ItemsUpTo bytes offset) where
  are : AreItems max_depth (flat_map spell items) items
  are = record { acceptable = acceptable; spelled = sym (append-nil (flat_map spell items)) }

  cut : (whole : List Raw) × (rest : List ℕ) × IsCutTo items bytes whole rest
  cut = cut_off items bytes missing (sym parts)

  -- those before the cut are its whole items
  pub whole_before_cut : AreWhole u → IsCutTo items bytes u.items u.rest
  whole_before_cut are_whole =
      let same = only max_depth bytes u.items cut.0 u.rest cut.1 are_whole.most (whole_are_most are short cut.2) in
      subst (λ (l : List ℕ). IsCutTo items bytes u.items l) (sym same.1) (subst (λ (rs : List Raw). IsCutTo items bytes rs cut.1) (sym same.0) cut.2)

  -- which isn't broken
  pub never_broken : (e : Error) → AreBroken u e → ⊥
  never_broken e broken =
      let same = only max_depth bytes u.items cut.0 u.rest cut.1 broken.most (whole_are_most are short cut.2) in
      rest_goes_on are short cut.2 offset e (subst (λ (l : List ℕ). ReportsFirst (bounds_at offset) l e) same.1 broken.reports) broken.goes_on

-- an item that follows some of those that are cut off is the next of them
pub next_of_items : (items : List Raw) {bytes : List ℕ} (missing : List ℕ) → AllByRecursion IsAcceptable items → flat_map spell items ≡ bytes ++ missing
    → {offset : ℕ} (u : ItemsUpTo bytes offset) (r : Raw) → Follows u r → (more : List Raw) × (items ≡ (u.items ++ r ∷ []) ++ more)
next_of_items items {bytes} missing acceptable parts u r next =
    front_of_items max_depth (u.items ++ r ∷ []) items next.0 missing next.1.acceptable acceptable (ap (λ l. l ++ missing) (sym next.1.spelled) ∙ sym parts)

-- ---- what an error says

fault_code : (code : ErrorCode) → IsFaultCode code → IsMemoryOrFaultBy code
fault_code (Io fault) h = tt
fault_code _ h = absurd h

-- of a value that was read, a refusal says no more than that memory ran out
pub refused_again : {P Q : Type 0} {bytes : List ℕ} {v : Val} (e : Error) → SpellsValue bytes v → P ⊎ IsNotWritten (IsStorableDocument (document_of v)) e
    → P ⊎ (IsOutOfMemory e ⊎ Q)
refused_again e spelt (inl p) = inl p
refused_again e spelt (inr unwritten) = inr (inl (spelled_unwritten_for_memory e spelt unwritten))

-- a value that was read isn't written again where memory runs out or the device fails, alone
pub written_again : {bytes : List ℕ} {v : Val} (e : Error) → SpellsValue bytes v → IsFault e ⊎ IsNotWritten (IsStorableDocument (document_of v)) e
    → IsMemoryOrFault e
written_again e spelt (inl fault) = (fault_code (code_of e) fault.0, fault.1)
written_again e spelt (inr unwritten) = memory_fault e (spelled_unwritten_for_memory e spelt unwritten)

-- ---- what a sink was given

-- the whole is a beginning
pub all_written : {bytes : List ℕ} {old new : Option (List ℕ)} → Appends old new bytes → AppendsBeginning bytes old new
all_written {bytes} wrote = record { front = bytes; rest = []; whole = append-nil bytes; written = wrote }
