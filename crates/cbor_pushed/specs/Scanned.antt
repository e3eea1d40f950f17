-- How far the item at the front of bytes was gone through, whatever is added to them; and what
-- steps answer, by what the reference reader makes of the bytes.
use Rattle.std.specs.Prelude.{⊤, ◌≡◌, ◌≢◌, ◌⊎◌, ℕ, suc, ◌+◌, ◌-◌, ◌*◌, ◌^◌, ◌<◌, ◌≤◌, List, []}
use Rattle.std.specs.Prelude.{◌∷◌, ◌++◌, length, drop, false, None, Result, Ok, Err}
use Rattle.cbor_model.specs.Allowed.{IsEnd, IsOfStrings}
use Rattle.cbor_model.specs.Plain.{Val}
use Rattle.cbor_model.specs.Raw.{Chunk}
use Rattle.cbor_model.specs.Reader.{Fault, Reads, chunks_at, ended, exceeds_most, item_at}
use Rattle.cbor_model.specs.Reader.{number_behind}
use Rattle.cbor_model.specs.Refusal.{Refusal}
use Rattle.cbor_io.specs.declared.error.Category.TheVariants as category
use Rattle.cbor_io.specs.declared.error.Error.{Error}
use Rattle.cbor_io.specs.Error.{category_of, code_of}
use Rattle.cbor_decode.specs.Gives.{Fails}
use Rattle.cbor_decode.specs.Heads.{passed}
use Rattle.cbor_pushed.specs.Rests.{all_at, ends_by, is_over, reading, rest_at}
use Rattle.cbor_pushed.specs.declared.chunks.NextChunk.{NextChunk}
use Rattle.cbor_pushed.specs.declared.chunks.NextChunk.TheVariants.{Passed, Unfinished, Other}
use Rattle.cbor_decode.specs.declared.cursor.Remaining.TheVariants.{Counted}
use Rattle.cbor_pushed.specs.declared.rest.Rest.{Rest}
use Rattle.cbor_pushed.specs.declared.rest.Rest.TheVariants.{Items}
use Rattle.cbor_pushed.specs.declared.scan.Scan.{Scan}
use Rattle.cbor_pushed.specs.declared.scan.Step.{Step}
use Rattle.cbor_pushed.specs.declared.scan.Step.TheVariants as step

-- ---- heads

-- the last n of the bytes
abbrev pub last : ℕ → List ℕ → List ℕ
last n bs = drop (length bs - n) bs

-- a number, and how many bytes are left after it
abbrev pub IsNumber : ℕ → List ℕ → ℕ × ℕ → Type 0
IsNumber low bs n = (low < 28) × (number_behind low bs ≡ Ok (n.0, last n.1 bs)) × (n.1 ≤ length bs)

-- none is there: the bytes end before, where one begins
abbrev pub HasNoNumber : ℕ → List ℕ → Type 0
HasNoNumber low bs = low < 28 → number_behind low bs ≡ Err ended

-- The bytes begin with the head of an array, a map or a tag, of so many bytes, after which this is
-- to come, whatever is added.
pub record HasHead (bs : List ℕ) (rest : Rest) (n : ℕ) : Type 0 where
  pub some : 0 < n
  pub within : n ≤ length bs
  pub whole : (total levels : ℕ) (more : List ℕ)
      → passed (item_at (reading total) (suc levels) (bs ++ more))
      ≡ rest_at total levels rest (drop n bs ++ more)

-- ---- strings in chunks

-- the chunks of the major type up to the break, after so many bytes of chunks
abbrev pub chunks_to : ℕ → ℕ → List ℕ → Reads (List Chunk)
chunks_to have major bs = chunks_at (exceeds_most None) have major bs

-- The bytes begin a string in chunks, of which the first so many are whole chunks: what stops the
-- others stops all, whatever is added.
pub record InChunks (major n : ℕ) (bs : List ℕ) : Type 0 where
  pub of_strings : IsOfStrings major
  pub tail : List ℕ
  pub begins : bs ≡ (32 * major + 31) ∷ tail
  pub some : 0 < n
  pub within : n ≤ length bs
  pub have : ℕ
  pub stops : (more : List ℕ) (f : Fault) → chunks_to have major (drop n bs ++ more) ≡ Err f
      → chunks_to 0 major (tail ++ more) ≡ Err f

-- so many, or none
abbrev pub ChunksPassed : ℕ → List ℕ → Type 0
ChunksPassed n bs = (n ≡ 0) ⊎ ((major : ℕ) × InChunks major n bs)

-- The bytes begin with a whole chunk of this many.
pub record HasChunk (major n : ℕ) (bs : List ℕ) : Type 0 where
  pub some : 0 < n
  pub within : n ≤ length bs
  pub size : ℕ
  pub stops : (have : ℕ) (more : List ℕ) (f : Fault)
      → chunks_to (have + size) major (drop n bs ++ more) ≡ Err f
      → chunks_to have major (bs ++ more) ≡ Err f

abbrev pub IsNextChunk : ℕ → List ℕ → NextChunk → Type 0
IsNextChunk major bs (Passed n) = HasChunk major n bs
IsNextChunk major bs Unfinished = (have : ℕ) → chunks_to have major bs ≡ Err ended
IsNextChunk major bs Other = ⊤

-- So many bytes are whole chunks, and the bytes end before the string does.
pub record ChunksEnd (major : ℕ) (bs : List ℕ) (n : ℕ) : Type 0 where
  pub so_far : InChunks major n bs
  pub ends : chunks_to so_far.have major (drop n bs) ≡ Err ended

-- ---- items

-- where the item ends that begins at that place of the bytes; or the fault of reading it
abbrev pub EndsAt : ℕ → List ℕ → ℕ → Result ℕ Error → Type 0
EndsAt levels front at (Ok end) =
    (at < end) × (end ≤ length front)
    × (passed (item_at (reading (length front)) levels (drop at front)) ≡ Ok (tt, drop end front))
EndsAt levels front at (Err e) =
    Fails (length front) e (item_at (reading (length front)) levels (drop at front))

-- What is read of the item at the front is what is to come behind this place, of the innermost and
-- of those around it, whatever is added.
pub record HasScanned (levels at chunks : ℕ) (innermost : Rest) (around : List Rest) (front : List ℕ)
    : Type 0 where
  pub within : at ≤ length front
  pub nested : length around ≤ levels
  pub passed_chunks : ChunksPassed chunks (drop at front)
  pub same : (more : List ℕ) → length (front ++ more) < 2 ^ 64
      → passed (item_at (reading (length (front ++ more))) levels (front ++ more))
      ≡ all_at (length (front ++ more)) levels around innermost (drop at front ++ more)

-- there the scan stands
abbrev pub Follows : ℕ → Scan → List ℕ → Type 0
Follows levels scan front = HasScanned levels scan.at scan.chunks scan.innermost scan.around.items front

-- At the place where the scan stands an item begins, with this byte.
pub record BeginsBy (first : ℕ) (scan : Scan) (front : List ℕ) : Type 0 where
  pub goes_on : is_over scan.innermost ≡ false
  pub no_end : ends_by scan.innermost first ≡ false
  pub tail : List ℕ
  pub byte : drop scan.at front ≡ first ∷ tail

-- with some byte
abbrev pub IsDue : Scan → List ℕ → Type 0
IsDue scan front = (first : ℕ) × BeginsBy first scan front

-- ---- steps

-- The innermost was left for the one around it; or none is, and nothing is to come.
abbrev pub Left : Scan → ℕ → Scan → Step → Type 0
Left old at new step.Went =
    (new.at ≡ at) × (new.chunks ≡ 0)
    × (old.around.items ≡ new.around.items ++ (new.innermost ∷ []))
Left old at new step.Whole =
    (new.at ≡ at) × (new.chunks ≡ 0) × (old.around.items ≡ []) × (new.around.items ≡ [])
    × (new.innermost ≡ Items (Counted 0))
Left old at new step.Unfinished = ⊥

-- the item at the front
abbrev pub item_of : ℕ → List ℕ → Reads Val
item_of levels front = item_at (reading (length front)) levels front

-- it is whole, and ends there
abbrev pub IsWhole : ℕ → List ℕ → ℕ → Type 0
IsWhole levels front end =
    (end ≤ length front) × (passed (item_of levels front) ≡ Ok (tt, drop end front))

-- The bytes end before it does.
pub record IsCut (levels : ℕ) (front : List ℕ) : Type 0 where
  pub why : Refusal
  pub left : ℕ
  pub ends : IsEnd why
  pub stops : item_of levels front ≡ Err (record { why = why; left = left })

-- the error is the fault of reading it, and not that the bytes end
abbrev pub HasFault : ℕ → List ℕ → Error → Type 0
HasFault levels front e =
    Fails (length front) e (item_of levels front) × (category_of (code_of e) ≢ category.Eof)

-- how much is to be done at the most
abbrev pub to_do : List ℕ → Scan → ℕ
to_do front scan = 2 * (length front - scan.at) + length scan.around.items

-- what a step answers
abbrev pub Steps : ℕ → List ℕ → Scan → Scan → Result Step Error → Type 0
Steps levels front old new (Ok step.Went) = to_do front new < to_do front old
Steps levels front old new (Ok step.Whole) = IsWhole levels front new.at
Steps levels front old new (Ok step.Unfinished) = IsCut levels front
Steps levels front old new (Err e) = HasFault levels front e
