-- Arrays and maps as one: how an item that is one of them is read from its head on, and how it ends.
use Rattle.std.specs.Prelude.{◌≡◌, ℕ, Bool, List, Result, Ok, Err}
use Rattle.cbor_model.specs.Formats.{Formats}
use Rattle.cbor_model.specs.Head.{HeadWidth}
use Rattle.cbor_model.specs.Raw as raw
use Rattle.cbor_model.specs.Raw.{Raw, Raws, RawPairs, Length}
use Rattle.cbor_model.specs.Readable.{PassesTags}
use Rattle.cbor_model.specs.Reader.{Reads, ◌>>=◌, item_at}
use Rattle.cbor_model.specs.Reader as reader
use Rattle.cbor_io.specs.declared.error.Error.{Error}
use Rattle.cbor_io.specs.declared.read_error.ReadErrorCode.{ReadErrorCode}
use Rattle.cbor_io.specs.Error.{code_of, offset_of}
use Rattle.cbor_read.specs.Source.{Input, TookSome}
use Rattle.cbor_decode.specs.Cursor.{ended_at}
use Rattle.cbor_decode.specs.Gives.{Limits, Step}
use Rattle.cbor_decode.specs.Heads.{end_of, remaining_of}
use Rattle.cbor_decode.specs.declared.cursor.Collection.{Collection}
use Rattle.cbor_decode.specs.declared.cursor.Collection.TheVariants as collection
use Rattle.cbor_decode.specs.declared.cursor.Remaining.{Remaining}
use Rattle.cbor_decode.specs.declared.head.Head.{Head}
use Rattle.cbor_decode.specs.declared.head.Head.TheVariants as head
use Rattle.cbor_decode_as.specs.Accesses.{items_at}
use Rattle.cbor_decode_as.specs.Arrays.{AsArray}
use Rattle.cbor_decode_as.specs.MapAccesses.{pairs_at}
use Rattle.cbor_decode_as.specs.Maps.{AsMap}
use Rattle.cbor_decode_as.specs.TaggedHeads.{in_tags}
use Rattle.cbor_decode_as.specs.Takes.{raws, IsNotRead, Refuses, ReportsFault}

-- the head of one of which so much follows
abbrev pub head_of : Collection → Remaining → Head
head_of collection.Array = head.Array
head_of collection.Map = head.Map

-- what one holds: items, or pairs
abbrev pub HeldBy : Collection → Type 0
HeldBy collection.Array = Raws
HeldBy collection.Map = RawPairs

-- those that remain, where so many levels are left for each item, key and value
abbrev pub held_at : (of : Collection) → Formats → Limits → ℕ → reader.Remaining → List ℕ
    → Reads (HeldBy of)
held_at collection.Array f l levels remaining bs = items_at f l levels remaining bs
held_at collection.Map f l levels remaining bs = pairs_at f l levels remaining bs

-- the item that is one of this length and holds these
abbrev pub raw_of : (of : Collection) → Length → HeldBy of → Raw
raw_of collection.Array n items = raw.array n items
raw_of collection.Map n pairs = raw.map n pairs

-- the same of what is read
abbrev pub one_of : (of : Collection) → Length → Reads (HeldBy of) → Reads Raw
one_of of n held = held >>= (λ rs. Ok (raw_of of n rs.0, rs.1))

-- The item that is read is one within tags. Of what it holds so much remains, and so many levels are left
-- for each item, key and value.
pub record IsHeadOf (of : Collection) (f : Formats) (l : Limits) (read : Reads Raw) (left : ℕ) (remaining : Remaining) (rest : List ℕ) : Type 0 where
  pub tags : List (HeadWidth × ℕ)
  pub len : Length
  pub is : read ≡ in_tags tags (one_of of len (held_at of f l left (remaining_of remaining) rest))

-- one that is read as this of what it holds
abbrev pub AsOne : (of : Collection) → {A : Type 0} → (HeldBy of → A → Type 0) → Raw → A → Type 0
AsOne collection.Array = AsArray
AsOne collection.Map = AsMap

-- read as what it holds
abbrev pub IsHeld : (of : Collection) → Raw → HeldBy of → Type 0
IsHeld of = AsOne of (λ rs held. rs ≡ held)

-- none is at the front
abbrev pub RefusesHeadOf : Collection → (ReadErrorCode → Bool) → Formats → ℕ → Input → Input → Error
    → Type 0
RefusesHeadOf of refusals f levels s t e = Refuses refusals s t (code_of e) (offset_of e)
    (λ l bs. IsNotRead (PassesTags (IsHeld of)) (item_at (raws f l) levels bs))

-- The head of the one at the front was taken; or none is there.
abbrev pub TakesHeadOf : Collection → (ReadErrorCode → Bool) → Formats → ℕ → Input → Input → ℕ
    → Result Remaining Error → Type 0
TakesHeadOf of refusals f levels s t left (Ok remaining) = Step s t
    (λ l bs rest. IsHeadOf of f l (item_at (raws f l) levels bs) left remaining rest)
TakesHeadOf of refusals f levels s t left (Err e) = RefusesHeadOf of refusals f levels s t e

-- Its end was taken; or the error reports why not, and some bytes were taken.
abbrev pub TakesEndOf : Collection → (ReadErrorCode → Bool) → Remaining → Input → Input
    → Result (Unit {0}) Error → Type 0
TakesEndOf of refusals remaining s t (Ok u) =
    Step s t (λ l bs rest. ended_at (end_of of) (remaining_of remaining) bs ≡ Ok (tt, rest))
TakesEndOf of refusals remaining s t (Err e) =
    TookSome s t × ReportsFault refusals (λ l. ended_at (end_of of) (remaining_of remaining)) s e
