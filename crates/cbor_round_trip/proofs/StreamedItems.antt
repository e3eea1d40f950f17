-- What a stream of values over a reader has given, one item after the other.
use Rattle.std.proofs.Common.{◌≡◌, ◌∙◌, ◌⊎◌, ◌+◌, ℕ, true, false, List, [], ◌∷◌, ◌++◌, length, Option, None, Ok, inl, inr, refl, sym, ap, subst, length-append, arith}
use Rattle.std.specs.Prelude.{flat_map}
use Rattle.cbor_model.specs.Acceptable.{IsAcceptable, max_depth}
use Rattle.cbor_model.specs.Formats.{Formats, all_formats}
use Rattle.cbor_model.specs.Plain.{Val}
use Rattle.cbor_model.specs.Raw.{Raw}
use Rattle.cbor_model.specs.Readable.{Context}
use Rattle.cbor_model.specs.Reader.{item_at}
use Rattle.cbor_model.specs.Refusal.{Refusal, end_in_value, end_in_array, end_in_map, length_out_of_range, invalid_utf8}
use Rattle.cbor_model.specs.Refusal.{unassigned_code, unexpected_code, trailing_data, too_deep, scratch_too_small, wrong_struct_format}
use Rattle.cbor_model.specs.Spelling.{spell}
use Rattle.cbor_model.specs.Value.{value}
use Rattle.cbor_model.proofs.facts.Reader.{value_again}
use Rattle.cbor_io.specs.Error.{IsOutOfMemory, code_of, offset_of}
use Rattle.cbor_io.specs.declared.error.Error.{Error}
use Rattle.cbor_io.specs.declared.error.ErrorCode.{ErrorCode}
use Rattle.cbor_io.specs.declared.error.ErrorCode.TheVariants.{EofWhileParsingArray, EofWhileParsingMap, EofWhileParsingValue, InvalidUtf8, Io, LengthOutOfRange, OutOfMemory}
use Rattle.cbor_io.specs.declared.error.ErrorCode.TheVariants.{RecursionLimitExceeded, ScratchTooSmall, TrailingData, UnassignedCode, UnexpectedCode, WrongStructFormat}
use Rattle.cbor_read.specs.Source.{reader_refusals, start_of_reader}
use Rattle.cbor_decode.specs.FirstRefusal.{ReportsFirst, refusal_code}
use Rattle.cbor_decode.specs.Gives.{FailsBy, Gave, IsMemoryOrFault, IsMemoryOrFaultBy, ReportsIo, limits, values}
use Rattle.cbor_decode_as.specs.Takes.{ReportsItem}
use Rattle.cbor_de.specs.FirstOfItem.{ItemRefusedFirst}
use Rattle.cbor_de.specs.ItemTaken.{BeginsAs}
use Rattle.cbor_de.specs.Items.{AreMostItems, ItemsBegin}
use Rattle.cbor_de.specs.Streamed.{ValuesBegin}
use Rattle.cbor_de.specs.Streams.{Stream, GivesError, GivesItem, GivesNone, begun}
use Rattle.cbor_de.proofs.facts.Streams.{none_streamed, one_streamed, all_streamed}
use Rattle.cbor_round_trip.specs.CutOff.{bounds_at}
use Rattle.cbor_round_trip.specs.StreamedItems.{HasStreamedItems}
use Rattle.cbor_round_trip.proofs.ItemLists.{items_joined, longest_items, one_item, same_item, some_bytes}

-- ---- lists of values

module _ {A : Type 0} (reads : Raw → A → Type 0) where
  same_rest : (xs : List A) (bytes u v : List ℕ) → ValuesBegin reads bytes xs u → ValuesBegin reads bytes xs v → u ≡ v
  same_rest [] bytes u v a b = sym a ∙ b
  same_rest (x ∷ xs) bytes u v a b =
      let same = (same_item a.1.item b.1.item a.0 b.0 a.1.begins.acceptable.fits b.1.begins.acceptable.fits (sym a.1.begins.spelled ∙ b.1.begins.spelled)).1 in
      same_rest xs b.0 u v (subst (λ (bs : List ℕ). ValuesBegin reads bs xs u) same a.2) b.2

  last_value : (xs : List A) (x : A) (bytes rest : List ℕ) → ValuesBegin reads bytes (xs ++ x ∷ []) rest
      → (mid : List ℕ) × ValuesBegin reads bytes xs mid × BeginsAs all_formats max_depth reads mid x rest
  last_value [] x bytes rest h = (bytes, refl, subst (λ (r : List ℕ). BeginsAs all_formats max_depth reads bytes x r) h.2 h.1)
  last_value (y ∷ xs) x bytes rest h = let t = last_value xs x h.0 rest h.2 in (t.0, (h.0, h.1, t.1), t.2)

-- ---- what an error reports

-- where memory ran out, it did, or the reader failed
pub memory_fault : (e : Error) → IsOutOfMemory e → IsMemoryOrFault e
memory_fault e h = (subst IsMemoryOrFaultBy (sym h.0) tt, h.1)

no_memory : (why : Refusal) → IsMemoryOrFaultBy (refusal_code why) → ⊥
no_memory end_in_value h = h
no_memory end_in_array h = h
no_memory end_in_map h = h
no_memory length_out_of_range h = h
no_memory invalid_utf8 h = h
no_memory unassigned_code h = h
no_memory unexpected_code h = h
no_memory trailing_data h = h
no_memory too_deep h = h
no_memory scratch_too_small h = h
no_memory wrong_struct_format h = h

-- of an item at the front no error reports more than that memory ran out or the reader failed
no_fault : (code : ErrorCode) (end place : ℕ) (Device : Type 0) (x : Val × List ℕ) → FailsBy Device code end place (Ok x) → IsMemoryOrFaultBy code
no_fault OutOfMemory end place Device x h = tt
no_fault (Io fault) end place Device x h = tt
no_fault EofWhileParsingValue end place Device x h = (let never = h.2 in absurd cc)
no_fault EofWhileParsingArray end place Device x h = (let never = h.2 in absurd cc)
no_fault EofWhileParsingMap end place Device x h = (let never = h.2 in absurd cc)
no_fault LengthOutOfRange end place Device x h = (let never = h.2 in absurd cc)
no_fault InvalidUtf8 end place Device x h = (let never = h.2 in absurd cc)
no_fault UnassignedCode end place Device x h = (let never = h.2 in absurd cc)
no_fault UnexpectedCode end place Device x h = (let never = h.2 in absurd cc)
no_fault TrailingData end place Device x h = (let never = h.2 in absurd cc)
no_fault RecursionLimitExceeded end place Device x h = (let never = h.2 in absurd cc)
no_fault ScratchTooSmall end place Device x h = (let never = h.2 in absurd cc)
no_fault WrongStructFormat end place Device x h = (let never = h.2 in absurd cc)
no_fault _ end place Device x h = absurd h

-- ---- the calls of a stream

module _ {A : Type 0} (view : A → Val) (bytes : List ℕ) where
  abbrev reads : Context → Raw → A → Type 0
  reads c r x = view x ≡ value r

  abbrev read_as : Raw → A → Type 0
  read_as r x = view x ≡ value r

  abbrev by : Formats → Raw → A → Type 0
  by f r x = view x ≡ value r

  place_of : {items : List Raw} {rest : List ℕ} (offset : ℕ) → ItemsBegin max_depth bytes items rest → offset + length rest ≡ length bytes
      → offset ≡ length (flat_map spell items)
  place_of {items} {rest} offset begin place = omega (arith, place, ap length begin.spelled, length-append (flat_map spell items) rest)

  -- before the first
  pub no_item_streamed : (remaining : Option (List ℕ)) → Gave remaining bytes → HasStreamedItems view bytes [] (begun (start_of_reader remaining) max_depth all_formats)
  no_item_streamed remaining gave =
      let none = none_streamed reads bytes remaining gave in
      record { values = []; given = none; begin = record { acceptable = tt; spelled = none.begin }; place = refl }

  module _ {items : List Raw} {s t : Stream} (far : HasStreamedItems view bytes items s) where
    -- after another item
    pub one_item_streamed : (x : A) → GivesItem reader_refusals by x s t → t.input.room ≡ None
        → (r : Raw) × IsAcceptable r × (view x ≡ value r) × HasStreamedItems view bytes (items ++ r ∷ []) t
    one_item_streamed x given room =
        let more = one_streamed reads bytes far.values s t far.given x given room in
        let last = last_value read_as far.values x bytes more.rest more.begin in
        let same = same_rest read_as far.values bytes far.given.rest last.0 far.given.begin last.1 in
        let begin = items_joined max_depth far.begin (one_item max_depth last.2.begins.acceptable (same ∙ last.2.begins.spelled)) in (
          last.2.item,
          last.2.begins.acceptable,
          last.2.means,
          record { values = far.values ++ x ∷ []; given = more; begin = begin; place = place_of t.input.offset begin more.place },
        )

    -- at the end
    pub all_items_streamed : GivesNone s t → (far.given.rest ≡ []) × AreMostItems max_depth bytes items far.given.rest
    all_items_streamed none =
        let end = same_rest read_as far.values bytes far.given.rest [] far.given.begin (all_streamed reads bytes far.values s t far.given none) in (
          end,
          longest_items max_depth far.begin (λ r more acceptable e. some_bytes r more acceptable.fits (sym e ∙ end)),
        )

    module _ (law : ItemRefusedFirst true) (e : Error) (given : GivesError reader_refusals by true e s t) where
      fault : ReportsItem false true reader_refusals all_formats max_depth s.input e
      fault = subst (λ (f : Formats). ReportsItem false true reader_refusals f max_depth s.input e) far.given.formats
          (subst (λ (n : ℕ). ReportsItem false true reader_refusals s.formats n s.input e) far.given.levels given.fault)

      no_item : ReportsFirst (bounds_at s.input.offset) far.given.rest e → (r : Raw) (end : List ℕ) → IsAcceptable r → far.given.rest ≡ spell r ++ end → ⊥
      no_item first r end acceptable is =
          let rest = far.given.rest in
          let total = s.input.offset + length rest in
          let read : item_at (values all_formats (limits s.input rest)) max_depth rest ≡ Ok (value r, end) =
          ap (λ (m : Option ℕ). item_at (values all_formats (record { total = total; room = m })) max_depth rest) far.given.room
          ∙ ap (item_at (values all_formats (record { total = total; room = None })) max_depth) is
          ∙ value_again max_depth total None r end far.given.reports.short (omega (arith, ap length is)) tt acceptable in
          no_memory first.why (subst IsMemoryOrFaultBy first.code (no_fault (code_of e) total (offset_of e) (ReportsIo reader_refusals) (value r, end)
          (subst (FailsBy (ReportsIo reader_refusals) (code_of e) total (offset_of e)) read (fault rest far.given.reports))))

      -- after an error
      pub most_items_streamed : IsMemoryOrFault e ⊎ (AreMostItems max_depth bytes items far.given.rest × ReportsFirst (bounds_at s.input.offset) far.given.rest e)
      most_items_streamed = elim (law reader_refusals max_depth s.input far.given.rest e far.given.reports far.given.are_bytes fault) [
        | inl memory ↦ inl (memory_fault e memory)
        | inr (inl failed) ↦ inl failed.1
        | inr (inr reports) ↦
            let first = subst (λ (m : Option ℕ). ReportsFirst (record { start = s.input.offset; levels = max_depth; scratch = m }) far.given.rest e) far.given.room reports in
            inr (longest_items max_depth far.begin (no_item first), first)
      ]
