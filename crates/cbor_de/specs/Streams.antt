-- What a stream gives, one call after the other.
use Rattle.std.specs.Prelude.{◌≡◌, ◌≢◌, ◌⊎◌, ◌+◌, ◌-◌, ◌^◌, min, length, ℕ, Bool, true, false, List, [], Option, Some, None, Result, Ok, Err, IfSome, if◌then◌else◌}
use Rattle.std.specs.Iterator.{Count, at_most}
use Rattle.cbor_model.specs.Raw.{Raw}
use Rattle.cbor_model.specs.Formats.{Formats}
use Rattle.cbor_model.specs.Reader.{item_at}
use Rattle.cbor_io.specs.declared.error.Error.{Error}
use Rattle.cbor_io.specs.declared.error.ErrorCode.TheVariants.{OutOfMemory}
use Rattle.cbor_io.specs.declared.read_error.ReadErrorCode.{ReadErrorCode}
use Rattle.cbor_io.specs.Error.{code_of, offset_of}
use Rattle.cbor_read.specs.Source.{Input, Stays}
use Rattle.cbor_decode.specs.Gives.{Advances, Reports}
use Rattle.cbor_decode_as.specs.Takes.{formats_of, raws, IsNotRead, Refuses, TakesItem, ReportsItem}
use Rattle.cbor_de.specs.declared.stream.StreamDeserializer.{StreamDeserializer}

-- Where a stream stands: its source, the levels that are left, the formats that are read, and whether
-- it gives no more.
pub record Stream : Type 0 where
  pub input : Input
  pub levels : ℕ
  pub formats : Formats
  pub done : Bool

-- where a stream stands that gave nothing yet
abbrev pub begun : Input → ℕ → Formats → Stream
begun s levels f = record { input = s; levels = levels; formats = f; done = false }

-- where the stream of the program stands, whose source is such an input
abbrev pub standing : {R T : Type 0} → (R → Input) → StreamDeserializer R T → Stream
standing source s = record {
  input = source s.de.decoder.source;
  levels = s.de.decoder.levels;
  formats = formats_of s.de.decoder.formats;
  done = s.done;
}

-- No item: after an error, or where nothing is to come. The stream stays.
pub record GivesNone (s t : Stream) : Type 0 where
  pub why : (s.done ≡ true) ⊎ IfSome s.input.to_come (λ bs. bs ≡ [])
  pub input : Stays s.input t.input
  pub done : t.done ≡ s.done
  pub levels : t.levels ≡ s.levels
  pub formats : t.formats ≡ s.formats

-- The item at the front, read as x, of which a byte at the least was taken.
pub record GivesItem {A : Type 0} (refusals : ReadErrorCode → Bool) (reads : Formats → Raw → A → Type 0) (x : A) (s t : Stream) : Type 0 where
  pub going : s.done ≡ false
  pub item : TakesItem refusals s.formats (reads s.formats) s.levels s.input t.input (Ok x)
  pub taken : Advances s.input t.input
  pub done : t.done ≡ false
  pub levels : t.levels ≡ s.levels
  pub formats : t.formats ≡ s.formats

-- An error: something is to come, and no such item; or it is excused. No more is given.
pub record GivesError {A : Type 0} (refusals : ReadErrorCode → Bool) (reads : Formats → Raw → A → Type 0) (total : Bool) (e : Error) (s t : Stream) : Type 0 where
  pub going : s.done ≡ false
  pub refused : Refuses refusals s.input t.input (code_of e) (offset_of e) (λ l bs.
      (bs ≢ []) × IsNotRead (reads s.formats) (item_at (raws s.formats l) s.levels bs))
  pub fault : ReportsItem false total refusals s.formats s.levels s.input e
  -- At the end of the input no memory is asked for.
  pub at_end : Reports s.input [] → code_of e ≢ OutOfMemory
  pub done : t.done ≡ true
  pub levels : t.levels ≡ s.levels
  pub formats : t.formats ≡ s.formats

-- what a call of `next` gives
abbrev pub StreamGives : {A : Type 0} → (ReadErrorCode → Bool) → (Formats → Raw → A → Type 0) → Bool
    → Stream → Option (Result A Error) → Stream → Type 0
StreamGives refusals reads total s None t = GivesNone s t
StreamGives refusals reads total s (Some (Ok x)) t = GivesItem refusals reads x s t
StreamGives refusals reads total s (Some (Err e)) t = GivesError refusals reads total e s t

-- No more items come than there are bytes to come, and one error; nor, where the source doesn't report
-- its bytes, than there are offsets left.
abbrev pub most_of : Option (List ℕ) → ℕ → ℕ
most_of None offset = 2 ^ 64 - offset
most_of (Some bs) offset = min (length bs + 1) (2 ^ 64 - offset)

abbrev pub most_items : Stream → Count
most_items s = at_most (if s.done then 0 else most_of s.input.to_come s.input.offset)
