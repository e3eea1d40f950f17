-- What the calls of an access to a map take of its source.
use Rattle.std.specs.Prelude.{◌≡◌, ◌⊎◌, ℕ, Bool, true, false, List, Option, Some, None}
use Rattle.std.specs.Prelude.{Result, Ok, Err}
use Rattle.cbor_model.specs.Formats.{Formats, may_begin_key}
use Rattle.cbor_model.specs.Raw.{Raw, RawPairs, map}
use Rattle.cbor_model.specs.Refusal.{end_in_map}
use Rattle.cbor_model.specs.Reader.{Reads, ◌>>=◌, next_at, key_at, parts_at, pairs_of, item_at}
use Rattle.cbor_model.specs.Reader as reader
use Rattle.cbor_io.specs.declared.error.Error.{Error}
use Rattle.cbor_io.specs.declared.error.ErrorCode.TheVariants.{OutOfMemory}
use Rattle.cbor_io.specs.declared.read_error.ReadErrorCode.{ReadErrorCode}
use Rattle.cbor_io.specs.Error.{code_of, offset_of}
use Rattle.cbor_read.specs.Source.{Input}
use Rattle.cbor_decode.specs.Gives.{Limits, Step, Reports, limits}
use Rattle.cbor_decode.specs.Heads.{remaining_of}
use Rattle.cbor_decode.specs.declared.cursor.Remaining.{Remaining}
use Rattle.cbor_decode_as.specs.Takes.{raws, IsRead, Refuses, ReportsFault}

-- the pairs of a map that remain, where so many levels are left for each key and each value
abbrev pub pairs_at : Formats → Limits → ℕ → reader.Remaining → List ℕ → Reads RawPairs
pairs_at f l levels remaining bs =
    parts_at (pairs_of (raws f l) (item_at (raws f l) levels)) remaining bs

-- ---- one pair after the other

-- the key at the front, of which nothing is taken
abbrev pub key_front : Formats → List ℕ → Reads (Unit {0})
key_front f bs = key_at (may_begin_key f) (λ key. Ok (tt, key)) bs

-- Whether another pair comes, and its key, which has to begin as it may.
abbrev pub begun_key : Formats → Option reader.Remaining → List ℕ → Reads (Option reader.Remaining)
begun_key f None bs = Ok (None, bs)
begun_key f (Some behind) bs = key_front f bs >>= (λ u. Ok (Some behind, u.1))

abbrev pub pair_front : Formats → reader.Remaining → List ℕ → Reads (Option reader.Remaining)
pair_front f remaining bs = next_at end_in_map remaining bs >>= (λ next. begun_key f next.0 next.1)

-- Whether another pair comes, whose key may begin as it does.
abbrev pub Comes : Formats → reader.Remaining → reader.Remaining → Bool → List ℕ → List ℕ → Type 0
Comes f remaining behind false bs rest = next_at end_in_map remaining bs ≡ Ok (None, rest)
Comes f remaining behind true bs rest =
    (next_at end_in_map remaining bs ≡ Ok (Some behind, rest)) × (key_front f rest ≡ Ok (tt, rest))

-- Whether another pair comes, and what remains after it; or that neither a key comes that may begin
-- as it does nor the end.
abbrev pub TakesMorePairs : (ReadErrorCode → Bool) → Formats → Remaining → Remaining → Input
    → Input → Result Bool Error → Type 0
TakesMorePairs refusals f remaining behind s t (Ok more) = Step s t
    (λ l bs rest. Comes f (remaining_of remaining) (remaining_of behind) more bs rest)
TakesMorePairs refusals f remaining behind s t (Err e) =
    Refuses refusals s t (code_of e) (offset_of e)
    (λ l bs. (more : Bool) (after : reader.Remaining) (rest : List ℕ)
    → Comes f (remaining_of remaining) after more bs rest → ⊥)

-- Another pair comes, and its key is read as k.
pub record IsNextKey {K : Type 0} (reads : Raw → K → Type 0) (f : Formats) (levels : ℕ) (remaining behind : reader.Remaining) (k : K) (l : Limits) (bs rest : List ℕ) : Type 0 where
  pub start : List ℕ
  pub next : next_at end_in_map remaining bs ≡ Ok (Some behind, start)
  pub key : IsRead reads (key_at (may_begin_key f) (item_at (raws f l) levels) start) k rest

-- no pair comes
abbrev pub IsMapEnd : reader.Remaining → Limits → List ℕ → List ℕ → Type 0
IsMapEnd remaining l bs rest = next_at end_in_map remaining bs ≡ Ok (None, rest)

-- the next key is read as k, or no pair comes
abbrev pub IsKey : {K : Type 0} → (Raw → K → Type 0) → Formats → ℕ → reader.Remaining
    → reader.Remaining → Option K → Limits → List ℕ → List ℕ → Type 0
IsKey reads f levels remaining behind (Some k) l bs rest =
    IsNextKey reads f levels remaining behind k l bs rest
IsKey reads f levels remaining behind None l bs rest = IsMapEnd remaining l bs rest

-- What a call gave for the next key of a map of which so much remains; or that neither a key is there
-- that is read as something, nor the end.
abbrev pub TakesKey : {K : Type 0} → (ReadErrorCode → Bool) → Formats → (Raw → K → Type 0) → ℕ
    → Remaining → Remaining → Input → Input → Result (Option K) Error → Type 0
TakesKey refusals f reads levels remaining behind s t (Ok next) = Step s t
    (IsKey reads f levels (remaining_of remaining) (remaining_of behind) next)
TakesKey {K} refusals f reads levels remaining behind s t (Err e) =
    Refuses refusals s t (code_of e) (offset_of e)
    (λ l bs. (next : Option K) (after : reader.Remaining) (rest : List ℕ)
    → IsKey reads f levels (remaining_of remaining) after next l bs rest → ⊥)

-- Where memory ran out, the next key that is read as something is one for which memory may be asked; and it
-- doesn't where no pair comes.
abbrev pub MemoryForKey : {K : Type 0} → (Raw → Type 0) → Formats → (Raw → K → Type 0) → ℕ
    → Remaining → Input → Error → Type 0
MemoryForKey {K} asks f reads levels remaining s e = code_of e ≡ OutOfMemory
    → (bs : List ℕ) → Reports s bs
    → ((k : K) (after : reader.Remaining) (rest : List ℕ)
    → (next : IsNextKey reads f levels (remaining_of remaining) after k (limits s bs) bs rest)
    → asks next.key.item)
    × ((rest : List ℕ) → IsMapEnd (remaining_of remaining) (limits s bs) bs rest → ⊥)

-- Another pair comes of a map of which so much remains, and P holds of what stands there.
pub record KeyComes (remaining : Remaining) (s : Input) (P : Input → Type 0) : Type 0 where
  pub behind : Remaining
  pub place : Input
  pub step : Step s place (λ l bs rest. next_at end_in_map (remaining_of remaining) bs ≡ Ok (Some (remaining_of behind), rest))
  pub holds : P place

-- The error reports that neither a key comes that may begin as it does nor the end; or one comes, and it is
-- of that key.
abbrev pub KeyFault : (ReadErrorCode → Bool) → (Input → Error → Type 0) → Formats → Remaining → Input
    → Error → Type 0
KeyFault refusals fault f remaining s e =
    ReportsFault refusals (λ l. pair_front f (remaining_of remaining)) s e
    ⊎ KeyComes remaining s (λ t. fault t e)
