-- What a decoder reads from, how deep it may go, and in which formats.
use Rattle.std.specs.Prelude.{◌≡◌, ℕ}
use Rattle.cbor_model.specs.Formats as model
use Rattle.cbor_model.specs.Plain.{Val, Vals, Pairs}
use Rattle.cbor_model.specs.Reader.{Reading}
use Rattle.cbor_decode.specs.Gives.{Limits, values}
use Rattle.cbor_decode.specs.declared.Decoder.{Decoder}
use Rattle.cbor_decode.specs.declared.formats.Formats.{Formats}

abbrev pub source_of : {R : Type 0} → Decoder R → R
source_of d = d.source

-- how many arrays, maps and tags may still stand inside one another
abbrev pub levels_of : {R : Type 0} → Decoder R → ℕ
levels_of d = d.levels

-- as many levels are left as before, and the same formats are read
pub record SameSettings {R : Type 0} (old new : Decoder R) : Type 0 where
  pub levels : new.levels ≡ old.levels
  pub formats : new.formats ≡ old.formats

abbrev pub formats_of : Formats → model.Formats
formats_of f = record {
  named = f.named;
  packed = f.packed;
  standard_enums = f.standard_enums;
  legacy_enums = f.legacy_enums;
}

-- the reading of values in these formats, within these limits
abbrev pub values_by : Formats → Limits → Reading Val Vals (Pairs → Pairs)
values_by f l = values (formats_of f) l
