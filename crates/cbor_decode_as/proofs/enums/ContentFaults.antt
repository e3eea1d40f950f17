-- Which fault a refusal of a variant's content reports, and where it asked for memory.
use Rattle.std.proofs.Common.{◌≡◌, ◌≢◌, ◌⊎◌, ◌+◌, ◌∙◌, inl, inr, ℕ, Bool, List, length, Option, Some, None, Ok, Err, sym, ap, ap₂, subst}
use Rattle.cbor_model.specs.Formats as model
use Rattle.cbor_model.specs.Formats.{all_formats}
use Rattle.cbor_model.specs.Plain.{Val, Vals}
use Rattle.cbor_model.specs.Raw.{Raw}
use Rattle.cbor_model.specs.Refusal.{end_in_array}
use Rattle.cbor_model.specs.Value.{value}
use Rattle.cbor_model.specs.Reader.{Fault, Reads, item_at, items_of, next_at}
use Rattle.cbor_read.specs.Source.{Input}
use Rattle.cbor_io.specs.Error.{code_of, offset_of, IsMessageOf}
use Rattle.cbor_io.specs.declared.error.Error.{Error}
use Rattle.cbor_io.specs.declared.error.ErrorCode.{ErrorCode}
use Rattle.cbor_io.specs.declared.error.ErrorCode.TheVariants as code
use Rattle.cbor_io.specs.declared.read_error.ReadErrorCode.{ReadErrorCode}
use Rattle.cbor_decode.specs.Cursor.{ended_at}
use Rattle.cbor_decode.specs.Gives.{Limits, limits, ReportsIo, Step, values}
use Rattle.cbor_decode.specs.Heads.{passed, remaining_of}
use Rattle.cbor_decode.specs.declared.cursor.Remaining.{Remaining}
use Rattle.cbor_decode.proofs.facts.Steps.{step_then}
use Rattle.cbor_decode_as.specs.Accesses.{IsNextItem}
use Rattle.cbor_decode_as.specs.BeginsEnum.{BeginsForm, BeginsVariant}
use Rattle.cbor_decode_as.specs.Cases.{NoItemHere}
use Rattle.cbor_decode_as.specs.Contents.{AsksThere, ContentFault, EndFault, MemoryForPart, PartFault, PartsFault, any_content}
use Rattle.cbor_decode_as.specs.Takes.{raws, FaultIfAny, IsRead, ItemFault, MemoryFor, ReportsFault, any_item}
use Rattle.cbor_decode_as.specs.declared.variant.Form.{Form}
use Rattle.cbor_decode_as.specs.declared.variant.Form.TheVariants as form
use Rattle.cbor_decode_as.proofs.heads.AnyFormats.{any_read, any_stops}
use Rattle.cbor_decode_as.proofs.heads.AnyItems.{array_stops, end_stops, item_passed, items_any, next_stops, pair_value_stops, part_stops, tagged_stops}
use Rattle.cbor_decode.proofs.facts.Steps.{passed_stops}
use Rattle.cbor_decode_as.proofs.enums.VariantFaults.{array_head_fault}
use Rattle.cbor_decode_as.proofs.refused.Faults.{message_says_none, if_any_map, if_any_then, if_told_map, if_told_then, reported_if_any}

-- a message of whatever text
pub any_text : (text : Option (List ℕ)) (k : ErrorCode) → IsMessageOf text k → IsMessageOf None k
any_text text (code.Message s) h = tt
any_text text code.OutOfMemory h = tt
any_text None k h = absurd h
any_text (Some t) k h = absurd h

-- of the items that remain of an array
abbrev items : ℕ → Remaining → Limits → List ℕ → Reads Vals
items left remaining l bs = items_any l left (remaining_of remaining) bs

module _ (allowed : ReadErrorCode → Bool) (left : ℕ) (s : Input) (e : Error) where
  -- a fault of some formats' reading
  pub formats_if_any : (f : model.Formats) → ReportsFault allowed (λ l. item_at (values f l) left) s e → ItemFault allowed left s e
  formats_if_any f h = if_told_map allowed s e (λ l. item_at (values f l) left) (any_item left) (λ l bs d told stops. any_stops f l left bs d told.0 stops) (reported_if_any allowed s e (λ l. item_at (values f l) left) h)

  -- ---- the item in a map

  pub map_content : ItemFault allowed left s e → ContentFault allowed left form.Map s e
  map_content = if_any_map allowed s e (any_item left) (any_content left form.Map) (λ l bs d stops. ap (λ (r : Reads Val). passed r) stops)

  -- ---- an array

  module _ (remaining : Remaining) where
    of_items : (l : Limits) (bs : List ℕ) (d : Fault) → items left remaining l bs ≡ Err d → any_content left (form.Array remaining) l bs ≡ Err d
    of_items l bs d stops = ap (λ (r : Reads Vals). passed r) stops

    -- it can't be known whether an item comes
    pub next_content : ReportsFault allowed (λ l. next_at end_in_array (remaining_of remaining)) s e → ContentFault allowed left (form.Array remaining) s e
    next_content h = if_any_map allowed s e (λ l. next_at end_in_array (remaining_of remaining)) (any_content left (form.Array remaining))
        (λ l bs d stops. of_items l bs d (next_stops (items_of (values all_formats l) (any_item left l)) (remaining_of remaining) bs d stops)) (reported_if_any allowed s e (λ l. next_at end_in_array (remaining_of remaining)) h)

    -- no item comes, which a wrong form reports
    coded : (k : ErrorCode) → ((D : Type 0) (end at : ℕ) (read : Reads (Unit {0})) → FaultIfAny D k end at read) → code_of e ≡ k → ContentFault allowed left (form.Array remaining) s e
    coded k whatever is bs reports = subst (λ (c : ErrorCode). FaultIfAny (ReportsIo allowed) c (s.offset + length bs) (offset_of e) (any_content left (form.Array remaining) (limits s bs) bs)) (sym is) (whatever (ReportsIo allowed) (s.offset + length bs) (offset_of e) (any_content left (form.Array remaining) (limits s bs) bs))

    pub too_long_content : ReportsFault allowed (λ l. next_at end_in_array (remaining_of remaining)) s e ⊎ NoItemHere code.ArrayTooLong remaining s e → ContentFault allowed left (form.Array remaining) s e
    too_long_content (inl h) = next_content h
    too_long_content (inr none) = coded code.ArrayTooLong (λ D end at read. tt) none.code

    pub too_short_content : ReportsFault allowed (λ l. next_at end_in_array (remaining_of remaining)) s e ⊎ NoItemHere code.ArrayTooShort remaining s e → ContentFault allowed left (form.Array remaining) s e
    too_short_content (inl h) = next_content h
    too_short_content (inr none) = coded code.ArrayTooShort (λ D end at read. tt) none.code

    pub end_content : {A : Type 0} (reads : Raw → A → Type 0) (f : model.Formats) → EndFault allowed reads f left remaining s e → ContentFault allowed left (form.Array remaining) s e
    end_content reads f h = if_told_then allowed s e h.place (IsNextItem reads f left (remaining_of remaining) (remaining_of h.behind) h.part) (λ l. ended_at end_in_array (remaining_of h.behind)) (any_content left (form.Array remaining))
        (λ l bs mid d told i stops.
        item_passed l left (remaining_of remaining) (remaining_of h.behind) bs i.start mid (value i.item.item) i.next (any_read f l left i.start mid i.item.item i.item.is)
        ∙ ap (λ (r : Reads Vals). passed r) (end_stops (items_of (values all_formats l) (any_item left l)) (remaining_of h.behind) mid d told.1 stops))
        h.step (reported_if_any allowed h.place e (λ l. ended_at end_in_array (remaining_of h.behind)) h.fault)

    module _ (a : Input) (behind : Remaining) where
      abbrev Next : Limits → List ℕ → List ℕ → Type 0
      Next l bs rest = next_at end_in_array (remaining_of remaining) bs ≡ Ok (Some (remaining_of behind), rest)

      module _ (next : Step s a Next) where
        -- the first item
        pub first_content : ItemFault allowed left a e → ContentFault allowed left (form.Array remaining) s e
        first_content = if_any_then allowed s e a Next (any_item left) (any_content left (form.Array remaining))
            (λ l bs mid d next stops. of_items l bs d (part_stops (items_of (values all_formats l) (any_item left l)) (remaining_of remaining) bs (remaining_of behind) mid d next stops)) next

        -- the end behind an item that was read
        pub end_there : {A : Type 0} (reads : Raw → A → Type 0) (f : model.Formats) (b : Input) (x : A) → Step a b (λ l bs rest. IsRead reads (item_at (raws f l) left bs) x rest) → ReportsFault allowed (λ l. ended_at end_in_array (remaining_of behind)) b e → EndFault allowed reads f left remaining s e
        end_there reads f b x item h = record {
          behind = behind;
          part = x;
          place = b;
          step = step_then s a b Next (λ l bs rest. IsRead reads (item_at (raws f l) left bs) x rest) (IsNextItem reads f left (remaining_of remaining) (remaining_of behind) x) (λ l bs mid rest next item. record { start = mid; next = next; item = item }) next item;
          fault = h;
        }

        -- ---- memory

        pub first_memory : {A : Type 0} (asks : Raw → Type 0) (f : model.Formats) (reads : Raw → A → Type 0) → MemoryFor asks f reads left a e → MemoryForPart asks f reads left (form.Array remaining) s e
        first_memory asks f reads h out bs reports =
            let one = next.reported bs reports in
            let same : limits a one.rest ≡ limits s bs = ap₂ (λ (n : ℕ) (r : Option ℕ). record { total = n; room = r }) one.total next.took.room in
            record {
              behind = remaining_of behind;
              start = one.rest;
              next = one.holds;
              holds = subst (λ (l : Limits). AsksThere asks f reads left l one.rest) same (h out one.rest one.reports);
            }

    pub unasked_content : {A : Type 0} (asks : Raw → Type 0) (f : model.Formats) (reads : Raw → A → Type 0) → code_of e ≢ code.OutOfMemory → MemoryForPart asks f reads left (form.Array remaining) s e
    unasked_content asks f reads other out = absurd (other out)

-- ---- the content

-- where the part's refusals report the faults of the bytes
pub part_content : {A : Type 0} (allowed : ReadErrorCode → Bool) (own : Input → Error → Type 0) (reads : Raw → A → Type 0) (f : model.Formats) (left : ℕ) (k : Form) (s : Input) (e : Error) → ((t : Input) → own t e → ItemFault allowed left t e) → PartFault allowed own reads f left k s e → ContentFault allowed left k s e
part_content allowed own reads f left (form.Array r) s e on (inl none) = too_short_content allowed left s e r none
part_content allowed own reads f left (form.Array r) s e on (inr (inl next)) = first_content allowed left s e r next.place next.behind next.step (on next.place next.holds)
part_content allowed own reads f left (form.Array r) s e on (inr (inr end)) = end_content allowed left s e r reads f end
part_content allowed own reads f left form.Map s e on h = map_content allowed left s e (on s h)
part_content allowed own reads f left form.Alone s e on is = message_says_none allowed s e (any_content left form.Alone) is

-- before the parts of several
pub parts_content : (allowed : ReadErrorCode → Bool) (left : ℕ) (k : Form) (s : Input) (e : Error) → PartsFault allowed left k s e → ContentFault allowed left k s e
parts_content allowed left (form.Array r) s e h = absurd h
parts_content allowed left form.Map s e h = map_content allowed left s e (array_head_fault allowed left s e h)
parts_content allowed left form.Alone s e is = message_says_none allowed s e (any_content left form.Alone) is

-- ---- the enum

-- what stops the content stops the enum
pub content_stops : (f : model.Formats) (names : List (List ℕ)) (l : Limits) (levels left i : ℕ) (k : Form) (bs rest : List ℕ) (d : Fault) → BeginsVariant f names l levels left i k bs rest → any_content left k l rest ≡ Err d → any_item levels l bs ≡ Err d
content_stops f names l levels left i k bs rest d begins stops = tagged_stops l levels begins.inner bs begins.start d begins.tags (by k begins.begins stops)
  where
    by : (k : Form) → BeginsForm f names l begins.inner left i k begins.start rest → any_content left k l rest ≡ Err d → any_item begins.inner l begins.start ≡ Err d
    by (form.Array r) h stops =
        let name = any_read f l left h.first rest h.name.item h.name.is in
        array_stops l begins.inner left h.all begins.start h.items d h.head
        (passed_stops (items_any l left (remaining_of h.all) h.items) d (item_passed l left (remaining_of h.all) (remaining_of r) h.items h.first rest (value h.name.item) h.next name ∙ stops))
    by form.Map h stops =
        pair_value_stops l f begins.inner left begins.start h.key rest (value h.name.item) d h.shape h.level h.head (any_read f l left h.key rest h.name.item h.name.is) (passed_stops (any_item left l rest) d stops)
    by form.Alone h stops = absurd cc

-- and its fault is the enum's
pub content_fault : (allowed : ReadErrorCode → Bool) (f : model.Formats) (names : List (List ℕ)) (levels left i : ℕ) (k : Form) (s t : Input) (e : Error) → Step s t (λ l bs rest. BeginsVariant f names l levels left i k bs rest) → ContentFault allowed left k t e → ItemFault allowed levels s e
content_fault allowed f names levels left i k s t e = if_any_then allowed s e t (λ l bs rest. BeginsVariant f names l levels left i k bs rest) (any_content left k) (any_item levels)
    (λ l bs mid d begins stops. content_stops f names l levels left i k bs mid d begins stops)
