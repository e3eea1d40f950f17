-- What a value holds, where it is of the kind that is asked for.
use Rattle.std.specs.Prelude.{ℕ, ◌^◌, nat_lt, Bool, true, false, ℤ, pos, negsuc, List}
use Rattle.std.specs.Prelude.{Option, Some, None, if◌then◌else◌}
use Rattle.std.specs.Float.Ieee as ieee
use Rattle.cbor_model.specs.Plain.{Val, null, bool, integer, float, bytes, text, array, map, tag}
use Rattle.cbor_model.specs.Plain.{Vals, Pairs}
use Rattle.cbor_value.specs.Floats.{number}

abbrev pub is_null : Val → Bool
is_null null = true
is_null _ = false

abbrev pub as_bool : Val → Option Bool
as_bool (bool b) = Some b
as_bool _ = None

abbrev pub as_integer : Val → Option ℤ
as_integer (integer z) = Some z
as_integer _ = None

-- from 0 to 2^64 - 1
abbrev pub as_u64 : Val → Option ℕ
as_u64 (integer (pos n)) = if nat_lt n (2 ^ 64) then Some n else None
as_u64 (integer (negsuc n)) = None
as_u64 _ = None

-- from -2^63 to 2^63 - 1
abbrev pub as_i64 : Val → Option ℤ
as_i64 (integer (pos n)) = if nat_lt n (2 ^ 63) then Some (pos n) else None
as_i64 (integer (negsuc n)) = if nat_lt n (2 ^ 63) then Some (negsuc n) else None
as_i64 _ = None

-- the float's number, exactly
abbrev pub as_f64 : Val → Option ieee.Float
as_f64 (float w bits) = Some (number w bits)
as_f64 _ = None

abbrev pub as_bytes : Val → Option (List ℕ)
as_bytes (bytes b) = Some b
as_bytes _ = None

abbrev pub as_text : Val → Option (List ℕ)
as_text (text b) = Some b
as_text _ = None

abbrev pub as_array : Val → Option Vals
as_array (array vs) = Some vs
as_array _ = None

abbrev pub as_map : Val → Option Pairs
as_map (map ps) = Some ps
as_map _ = None

abbrev pub as_tag : Val → Option (ℕ × Val)
as_tag (tag n v) = Some (n, v)
as_tag _ = None
