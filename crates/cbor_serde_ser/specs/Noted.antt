-- What a `Note` makes of the events so far.
use Rattle.std.specs.Prelude.{Option, Some, None, option_and_then}
use Rattle.serde.specs.Event.{Event, Log, boolean, signed, unsigned, single, double, character, text, octets, nothing, unit_variant, seq_begins, seq_ends, map_begins, map_ends, field_key, variant_key, key_begins, key_ends, flattens}
use Rattle.cbor_serde_ser.specs.Logged.{then}
use Rattle.cbor_serde_ser.specs.declared.log.Note.{Note}
use Rattle.cbor_serde_ser.specs.declared.log.Note.TheVariants as note

abbrev pub event_of : Note → Option Event
event_of (note.Bool b) = Some (boolean b)
event_of (note.I64 z) = Some (signed z)
event_of (note.I128 z) = Some (signed z)
event_of (note.U64 n) = Some (unsigned n)
event_of (note.U128 n) = Some (unsigned n)
event_of (note.Single x) = Some (single x)
event_of (note.Double x) = Some (double x)
event_of (note.Char c) = Some (character c)
event_of (note.Text s) = Some (text s.now)
event_of (note.Bytes s) = Some (octets s.now)
event_of note.Unit = Some nothing
event_of (note.UnitVariant s c) = Some (unit_variant s.now c)
event_of (note.BeginSeq n) = Some (seq_begins n)
event_of note.EndSeq = Some seq_ends
event_of (note.BeginMap n) = Some (map_begins n)
event_of note.EndMap = Some map_ends
event_of (note.FieldKey s c) = Some (field_key s.now c)
event_of (note.VariantKey s c) = Some (variant_key s.now c)
event_of note.BeginKey = Some key_begins
event_of note.EndKey = Some key_ends
event_of note.Flatten = Some flattens
event_of note.Lost = None

abbrev pub noted : Log → Note → Log
noted log n = option_and_then (then log) (event_of n)
