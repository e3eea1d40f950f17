-- What the calls of an access take of its source.
use Rattle.std.specs.Prelude.{◌≡◌, ◌⊎◌, ℕ, ◌^◌, ◌-◌, Bool, List, Option, Some, None, Result}
use Rattle.std.specs.Prelude.{Ok, Err}
use Rattle.cbor_model.specs.Formats.{Formats}
use Rattle.cbor_model.specs.Raw.{Raw, Raws, array}
use Rattle.cbor_model.specs.Refusal.{end_in_array}
use Rattle.cbor_model.specs.Reader.{Reads, next_at, parts_at, items_of, item_at}
use Rattle.cbor_model.specs.Reader as reader
use Rattle.cbor_io.specs.declared.error.Error.{Error}
use Rattle.cbor_io.specs.declared.error.ErrorCode.TheVariants.{OutOfMemory}
use Rattle.cbor_io.specs.declared.read_error.ReadErrorCode.{ReadErrorCode}
use Rattle.cbor_io.specs.Error.{code_of, offset_of}
use Rattle.cbor_read.specs.Source.{Input}
use Rattle.cbor_decode.specs.Cursor.{behind_next}
use Rattle.cbor_decode.specs.Gives.{Limits, Reports, Step, limits}
use Rattle.cbor_decode.specs.Heads.{remaining_of}
use Rattle.cbor_decode.specs.declared.cursor.Remaining.{Remaining}
use Rattle.cbor_decode.specs.declared.cursor.Remaining.TheVariants.{Counted, ToBreak}
use Rattle.cbor_decode_as.specs.Takes.{raws, IsRead, Refuses, ReportsFault}

-- the items of an array that remain, where so many levels are left for each
abbrev pub items_at : Formats → Limits → ℕ → reader.Remaining → List ℕ → Reads Raws
items_at f l levels remaining bs =
    parts_at (items_of (raws f l) (item_at (raws f l) levels)) remaining bs

-- ---- one item after the other

-- Another item comes, and it is read as x.
pub record IsNextItem {A : Type 0} (reads : Raw → A → Type 0) (f : Formats) (levels : ℕ) (remaining behind : reader.Remaining) (x : A) (l : Limits) (bs rest : List ℕ) : Type 0 where
  pub start : List ℕ
  pub next : next_at end_in_array remaining bs ≡ Ok (Some behind, start)
  pub item : IsRead reads (item_at (raws f l) levels start) x rest

-- no item comes
abbrev pub IsEnd : reader.Remaining → Limits → List ℕ → List ℕ → Type 0
IsEnd remaining l bs rest = next_at end_in_array remaining bs ≡ Ok (None, rest)

-- the next item is read as x, or none comes
abbrev pub IsNext : {A : Type 0} → (Raw → A → Type 0) → Formats → ℕ → reader.Remaining
    → reader.Remaining → Option A → Limits → List ℕ → List ℕ → Type 0
IsNext reads f levels remaining behind (Some x) l bs rest =
    IsNextItem reads f levels remaining behind x l bs rest
IsNext reads f levels remaining behind None l bs rest = IsEnd remaining l bs rest

-- What a call gave for the next item of an array of which so much remains; or that neither an item is
-- there that is read as something, nor the end.
abbrev pub TakesNext : {A : Type 0} → (ReadErrorCode → Bool) → Formats → (Raw → A → Type 0) → ℕ
    → Remaining → Remaining → Input → Input → Result (Option A) Error → Type 0
TakesNext refusals f reads levels remaining behind s t (Ok next) = Step s t
    (IsNext reads f levels (remaining_of remaining) (remaining_of behind) next)
TakesNext {A} refusals f reads levels remaining behind s t (Err e) =
    Refuses refusals s t (code_of e) (offset_of e)
    (λ l bs. (next : Option A) (after : reader.Remaining) (rest : List ℕ) → IsNext reads f levels (remaining_of remaining) after next l bs rest → ⊥)

-- The next item was read as x; or no item comes that is read as something.
abbrev pub TakesPart : {A : Type 0} → (ReadErrorCode → Bool) → Formats → (Raw → A → Type 0) → ℕ
    → Remaining → Remaining → Input → Input → Result A Error → Type 0
TakesPart refusals f reads levels remaining behind s t (Ok x) = Step s t
    (IsNextItem reads f levels (remaining_of remaining) (remaining_of behind) x)
TakesPart {A} refusals f reads levels remaining behind s t (Err e) =
    Refuses refusals s t (code_of e) (offset_of e)
    (λ l bs. (x : A) (after : reader.Remaining) (rest : List ℕ) → IsNextItem reads f levels (remaining_of remaining) after x l bs rest → ⊥)

-- Where memory ran out, the next item that is read as something is one for which memory may be asked; and
-- it doesn't where none comes.
abbrev pub MemoryForNext : {A : Type 0} → (Raw → Type 0) → Formats → (Raw → A → Type 0) → ℕ
    → Remaining → Input → Error → Type 0
MemoryForNext {A} asks f reads levels remaining s e = code_of e ≡ OutOfMemory
    → (bs : List ℕ) → Reports s bs
    → ((x : A) (after : reader.Remaining) (rest : List ℕ)
    → (next : IsNextItem reads f levels (remaining_of remaining) after x (limits s bs) bs rest)
    → asks next.item.item)
    × ((rest : List ℕ) → IsEnd (remaining_of remaining) (limits s bs) bs rest → ⊥)

-- Another item comes of an array of which so much remains, and P holds of what stands there.
pub record NextComes (remaining : Remaining) (s : Input) (P : Input → Type 0) : Type 0 where
  pub behind : Remaining
  pub place : Input
  pub step : Step s place (λ l bs rest. next_at end_in_array (remaining_of remaining) bs ≡ Ok (Some (remaining_of behind), rest))
  pub holds : P place

-- The error reports that neither an item comes nor the end; or one comes, and it is of that item.
abbrev pub NextFault : (ReadErrorCode → Bool) → (Input → Error → Type 0) → Remaining → Input → Error
    → Type 0
NextFault refusals fault remaining s e =
    ReportsFault refusals (λ l. next_at end_in_array (remaining_of remaining)) s e
    ⊎ NextComes remaining s (λ t. fault t e)

-- how many more items can follow: a loop over them ends
abbrev pub most_left : Remaining → Input → ℕ
most_left (Counted n) s = n
most_left ToBreak s = 2 ^ 64 - s.offset

-- what is left of a declared count
abbrev pub size_of : Remaining → Option ℕ
size_of (Counted n) = Some n
size_of ToBreak = None

-- Whether another item comes, and what remains after it; or that neither an item comes nor the end.
abbrev pub TakesMore : (ReadErrorCode → Bool) → Remaining → Remaining → Input → Input
    → Result Bool Error → Type 0
TakesMore refusals remaining behind s t (Ok more) = Step s t (λ l bs rest. next_at end_in_array (remaining_of remaining) bs ≡ Ok (behind_next behind more, rest))
TakesMore refusals remaining behind s t (Err e) = Refuses refusals s t (code_of e) (offset_of e)
    (λ l bs. (next : Option reader.Remaining) (rest : List ℕ) → next_at end_in_array (remaining_of remaining) bs ≡ Ok (next, rest) → ⊥)
