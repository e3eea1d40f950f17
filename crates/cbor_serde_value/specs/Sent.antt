-- The events that a value sends.
use Rattle.std.specs.Prelude.{◌≡◌, ℕ, Some}
use Rattle.std.specs.Float.{binary32, round_to_format}
use Rattle.serde.specs.Event as event
use Rattle.serde.specs.Event.{Event, Log, Logs}
use Rattle.cbor_model.specs.Raw.{FloatWidth, half, single, double}
use Rattle.cbor_model.specs.Plain.{Val, null, bool, integer, float, bytes, text, array, map, tag, Vals, no_vals, val, Pairs, no_pairs, pair, count, pair_count}
use Rattle.cbor_value.specs.Floats.{number}

-- a half as a single
abbrev pub float_event : FloatWidth → ℕ → Event
float_event double bits = event.double (number double bits)
float_event half bits = event.single (round_to_format binary32 (number half bits))
float_event single bits = event.single (round_to_format binary32 (number single bits))

abbrev mutual
  pub SendsValue : Val → Log → Log → Type 0
  SendsValue null old new = Logs old new event.nothing
  SendsValue (bool b) old new = Logs old new (event.boolean b)
  SendsValue (integer z) old new = Logs old new (event.signed z)
  SendsValue (float width bits) old new = Logs old new (float_event width bits)
  SendsValue (bytes bs) old new = Logs old new (event.octets bs)
  SendsValue (text bs) old new = Logs old new (event.text bs)
  SendsValue (array vs) old new = (first last : Log) × Logs old first (event.seq_begins (Some (count vs))) × SendsAll vs first last × Logs last new event.seq_ends
  SendsValue (map ps) old new = (first last : Log) × Logs old first (event.map_begins (Some (pair_count ps))) × SendsPairs ps first last × Logs last new event.map_ends
  SendsValue (tag n v) old new = ⊥

  -- one after the other, a key between its marks
  pub SendsAll : Vals → Log → Log → Type 0
  SendsAll no_vals old new = new ≡ old
  SendsAll (val v vs) old new = (mid : Log) × SendsValue v old mid × SendsAll vs mid new

  pub SendsPairs : Pairs → Log → Log → Type 0
  SendsPairs no_pairs old new = new ≡ old
  SendsPairs (pair k v ps) old new = (a b c mid : Log) × Logs old a event.key_begins × SendsValue k a b × Logs b c event.key_ends × SendsValue v c mid × SendsPairs ps mid new

-- a key between its marks, and then its value
abbrev pub SendsPair : Val → Val → Log → Log → Type 0
SendsPair k v old new = (a b c : Log) × Logs old a event.key_begins × SendsValue k a b × Logs b c event.key_ends × SendsValue v c new
