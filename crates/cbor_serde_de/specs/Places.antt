-- Where a reader stands in its slice, and in the arrays and maps that are open.
use Rattle.std.specs.Prelude.{◌≡◌, ◌++◌, ◌∷◌, ◌≤◌, ℕ, List, [], length, take, None}
use Rattle.cbor_read.specs.Source.{Input, TookKept, start_of_slice}
use Rattle.cbor_read.specs.Sources.{input_of_slice}
use Rattle.cbor_decode.specs.Decoder.{SameSettings}
use Rattle.cbor_decode.specs.Gives.{Reports}
use Rattle.cbor_decode.specs.declared.cursor.Remaining.{Remaining}
use Rattle.cbor_serde_options.specs.declared.options.Options.{Options}
use Rattle.cbor_serde_de.specs.declared.cbor.Cbor.{Cbor}
use Rattle.cbor_serde_de.specs.declared.cbor.Mark.{Mark}

abbrev pub input_of : Cbor → Input
input_of c = input_of_slice c.decoder.source

-- the slice is read from its beginning, by these options
pub record Starts (slice : List ℕ) (options : Options) (c : Cbor) : Type 0 where
  pub source : input_of c ≡ start_of_slice slice None
  pub whole : c.whole.now ≡ slice
  pub levels : c.decoder.levels ≡ options.levels
  pub around : c.outer.items ≡ []
  pub chosen : c.options ≡ options

-- nothing is to come
abbrev pub EndsSlice : Cbor → Type 0
EndsSlice c = (bs : List ℕ) → Reports (input_of c) bs → bs ≡ []

-- the place where it stands
abbrev pub mark_of : Cbor → Mark
mark_of c =
    record {
      taken = (input_of c).offset;
      levels = c.decoder.levels;
      innermost = c.innermost;
      depth = length c.outer.items;
    }

-- so many bytes of the slice were taken
abbrev pub IsAt : List ℕ → ℕ → Input → Type 0
IsAt slice taken s = TookKept (start_of_slice slice None) s (take taken slice)

-- ---- what stays

-- The same slice is read, by the same options and in the same formats.
pub record SameReading (old new : Cbor) : Type 0 where
  pub whole : new.whole ≡ old.whole
  pub options : new.options ≡ old.options
  pub formats : new.decoder.formats ≡ old.decoder.formats

-- What is open stays open, with all that remains of it, and as many levels are left.
pub record KeepsOpen (old new : Cbor) : Type 0 where
  pub around : new ≡ record old { decoder = new.decoder }
  pub settings : SameSettings old.decoder new.decoder

-- What is open stays open, but that less remains of what is innermost.
pub record KeepsOuter (old new : Cbor) : Type 0 where
  pub around : new ≡ record old { decoder = new.decoder; innermost = record old.innermost { remaining = new.innermost.remaining } }
  pub settings : SameSettings old.decoder new.decoder

-- It stands at the mark in the slice, and what was open there is open.
pub record Returns (old : Cbor) (mark : Mark) (new : Cbor) : Type 0 where
  pub source : mark.taken ≤ length old.whole.now → IsAt old.whole.now mark.taken (input_of new)
  pub levels : new.decoder.levels ≡ mark.levels
  pub innermost : new.innermost ≡ mark.innermost
  pub around : new.outer.items ≡ take mark.depth old.outer.items
  pub same : SameReading old new

-- What begins is innermost: so much of it remains, and so many levels are left outside of it.
pub record Enters (old : Cbor) (remaining : Remaining) (levels : ℕ) (new : Cbor) : Type 0 where
  pub remains : new.innermost.remaining ≡ remaining
  pub outside : new.innermost.levels ≡ levels
  pub around : new.outer.items ≡ old.outer.items ++ old.innermost ∷ []
  pub decoder : new.decoder ≡ old.decoder
  pub same : SameReading old new

-- What was around the innermost is it, and its levels are left again.
pub record Leaves (old new : Cbor) : Type 0 where
  pub around : old.outer.items ≡ new.outer.items ++ new.innermost ∷ []
  pub levels : new.decoder.levels ≡ old.innermost.levels
  pub source : new.decoder.source ≡ old.decoder.source
  pub same : SameReading old new
