-- The bytes that each event of serde's is written as.
use Rattle.std.specs.Prelude.{◌≡◌, ℕ, zero, suc, ◌+◌, ◌-◌, ◌^◌, ℤ, pos, negsuc, Bool, true, false, not, ◌&&◌, ◌==◌, nat_lt, if◌then◌else◌, Option, Some, None, option_map, option_and_then, is_some, List, [], ◌∷◌, ◌++◌, length, encode_utf8}
use Rattle.std.specs.Option.{IsSomeAnd}
use Rattle.std.specs.Str.{is_utf8}
use Rattle.std.specs.List.{list_all}
use Rattle.cbor_model.specs.Acceptable.{IsAcceptable, max_depth}
use Rattle.cbor_model.specs.Head.{short}
use Rattle.cbor_model.specs.Raw.{Raw}
use Rattle.cbor_model.specs.Spelling.{spell}
use Rattle.cbor_model.specs.Parts.{array_start, map_start, end_of}
use Rattle.serde.specs.Event.{Event, Log, boolean, signed, unsigned, single, double, character, text, octets, nothing, unit_variant, seq_begins, seq_ends, map_begins, map_ends, field_key, variant_key, key_begins, key_ends, flattens}
use Rattle.serde.specs.Spelling.{spelled}
use Rattle.serde.specs.declared.name.NameKind.TheVariants.{Field, Variant}
use Rattle.cbor_serde_ser.specs.Floats.{single_bytes, double_bytes}
use Rattle.cbor_serde_options.specs.IntegerKeys.{key_number}
use Rattle.cbor_serde_ser.specs.declared.level.Level.{Level}
use Rattle.cbor_serde_options.specs.declared.options.Options.{Options}

-- What is written, and what is due: in the innermost array or map, and in those around it, the
-- nearest first.
pub record State : Type 0 where
  pub bytes : List ℕ
  pub level : Level
  pub outer : List Level
  pub flattens : Bool
  -- the length that a map declares which has begun, if its head waits for what comes first in it
  pub begun : Option (Option ℕ)

-- ---- what is due

abbrev pub opened : Option ℕ → Bool → Level
opened left is_map = record { left = left; is_map = is_map; at_value = false; flat = 0; drops_names = false }

-- an array of a struct's fields, whose names aren't written
abbrev pub fields : Option ℕ → Level
fields left = record { left = left; is_map = false; at_value = false; flat = 0; drops_names = true }

-- the document is one item
abbrev pub start : State
start = record { bytes = []; level = opened (Some 1) false; outer = []; flattens = false; begun = None }

-- one less is to come, where any is
abbrev pub counted_down : Option ℕ → Option (Option ℕ)
counted_down None = Some None
counted_down (Some zero) = None
counted_down (Some (suc n)) = Some (Some n)

-- what is due after an item, where one is due
abbrev pub after_item : Level → Option Level
after_item l =
    if l.at_value then Some (record l { at_value = false })
    else option_map (λ left. record l { left = left; at_value = l.is_map }) (counted_down l.left)

abbrev pub none_left : Option ℕ → Bool
none_left None = true
none_left (Some n) = n == 0

abbrev pub is_full : Level → Bool
is_full l = not l.at_value && none_left l.left

-- ---- bytes

abbrev pub string : ℕ → List ℕ → List ℕ
string major content = short major (length content) ++ content

abbrev pub integer : ℤ → List ℕ
integer (pos n) = short 0 n
integer (negsuc n) = short 1 n

-- the bytes of a number that CBOR stores
abbrev pub stored : ℤ → Option (List ℕ)
stored (pos n) = if nat_lt n (2 ^ 64) then Some (short 0 n) else None
stored (negsuc n) = if nat_lt n (2 ^ 64) then Some (short 1 n) else None

abbrev pub integer_or_text : List ℕ → Option ℤ → List ℕ
integer_or_text s None = string 3 s
integer_or_text s (Some z) = integer z

-- a name, or the integer that it is where that is asked for
abbrev pub name_bytes : Bool → List ℕ → List ℕ
name_bytes as_integer s = integer_or_text s (if as_integer then key_number s else None)

-- these bytes were appended, of a number that CBOR stores
abbrev pub Stored : ℤ → List ℕ → List ℕ → Type 0
Stored z old new = option_map (λ bs. old ++ bs) (stored z) ≡ Some new

-- the head of an array or a map of this level
abbrev pub level_start : Level → List ℕ
level_start l = if l.is_map then map_start l.left else array_start l.left

-- ---- what a program can send

-- the content of a string: bytes, fewer than 2^64
abbrev pub is_bytes : List ℕ → Bool
is_bytes bs = nat_lt (length bs) (2 ^ 64) && list_all (λ b. nat_lt b 256) bs

-- the content of a text, which is UTF-8
abbrev pub is_text : List ℕ → Bool
is_text bs = is_bytes bs && is_utf8 bs

-- a length that is declared
abbrev pub is_count : Option ℕ → Bool
is_count None = true
is_count (Some n) = nat_lt n (2 ^ 64)

-- Strings are bytes, fewer than 2^64, and texts are UTF-8.
abbrev pub may_come : Event → Bool
may_come (character c) = is_text (encode_utf8 c)
may_come (text t) = is_text t
may_come (octets bs) = is_bytes bs
may_come _ = true

-- ---- events

-- a whole item, which is no map, so that it isn't flattened
abbrev pub item : State → List ℕ → Option State
item s bs =
    if s.flattens then None
    else option_map (λ l. record s { level = l; bytes = s.bytes ++ bs }) (after_item s.level)

-- an array or a map begins, of fewer than 2^64 items or pairs, within fewer than 127 others
abbrev pub opens : State → List ℕ → Level → Option State
opens s bs l =
    if is_count l.left && (not s.flattens && nat_lt (length s.outer) max_depth)
    then option_map (λ after. record s { level = l; outer = after ∷ s.outer; bytes = s.bytes ++ bs }) (after_item s.level)
    else None

-- the level around is the innermost again
abbrev pub closed : State → List Level → Option State
closed s [] = None
closed s (l ∷ ls) = Some (record s { bytes = s.bytes ++ end_of s.level.left; level = l; outer = ls })

-- It ends; or a map within it ends whose members are its own.
abbrev pub ends : State → Option State
ends s =
    if s.level.flat == 0 then (if is_full s.level then closed s s.outer else None)
    else Some (record s { level = record s.level { flat = s.level.flat - 1 } })

-- the members of the map that begins are those of the innermost
abbrev pub joined : State → Option State
joined s =
    if nat_lt (s.level.flat + 1) (2 ^ 64)
    then Some (record s { flattens = false; level = record s.level { flat = s.level.flat + 1 } })
    else None

-- a name, which is UTF-8, or the integer that it is where that is asked for
abbrev pub named : Options → State → List ℕ → Option State
named o s name = if is_text name then item s (name_bytes o.integer_keys name) else None

-- ---- structs as arrays

-- a name that is no integer, where names may be integers
abbrev pub is_plain : Bool → List ℕ → Bool
is_plain integer_keys name = not (integer_keys && is_some (key_number name))

-- a field whose name is no integer
abbrev pub is_field : Options → Event → Bool
is_field o (field_key name case) = is_plain o.integer_keys (spelled case Field name)
is_field o _ = false

-- a map that waited is the array of a struct's fields, if such a field comes first
abbrev pub begins : Bool → State → Option (Option ℕ) → Option State
begins is_field s None = Some s
begins true s (Some n) = opens (record s { begun = None }) (array_start n) (fields n)
begins false s (Some n) = opens (record s { begun = None }) (map_start n) (opened n true)

-- a map begins; its head waits where it may be the array of a struct's fields
abbrev pub map_opens : Bool → State → Option ℕ → Option State
map_opens true s n = Some (record s { begun = Some n })
map_opens false s n = opens s (map_start n) (opened n true)

-- ---- what an event makes of it; None where it may not come there

-- where nothing waits, of an event that a program can send
abbrev pub taken : Options → State → Event → Option State
taken o s (boolean b) = item s ((if b then 0xf5 else 0xf4) ∷ [])
taken o s (signed z) = option_and_then (item s) (stored z)
taken o s (unsigned n) = option_and_then (item s) (stored (pos n))
taken o s (single x) = item s (single_bytes o.shortest_floats x)
taken o s (double x) = item s (double_bytes o.shortest_floats x)
taken o s (character c) = item s (string 3 (encode_utf8 c))
taken o s (text t) = item s (string 3 t)
taken o s (octets bs) = item s (string 2 bs)
taken o s nothing = if s.flattens then Some (record s { flattens = false }) else item s (0xf6 ∷ [])
taken o s (unit_variant name case) = named o s (spelled case Variant name)
taken o s (seq_begins n) = opens s (array_start n) (opened n false)
taken o s seq_ends = ends s
taken o s (map_begins n) = if s.flattens then joined s else map_opens o.structs_as_arrays s n
taken o s map_ends = ends s
taken o s (field_key name case) = if s.level.drops_names then Some s else named o s (spelled case Field name)
taken o s (variant_key name case) = named o s (spelled case Variant name)
taken o s key_begins = Some s
taken o s key_ends = Some s
taken o s flattens = if o.structs_as_arrays then None else Some (record s { flattens = true })

abbrev pub then_taken : Options → Event → Option State → Option State
then_taken o e None = None
then_taken o e (Some s) = taken o s e

abbrev pub step : Options → State → Event → Option State
step o s e = if may_come e then then_taken o e (begins (is_field o e) s s.begun) else None

abbrev pub run : Options → State → List Event → Option State
run o s [] = Some s
run o s (e ∷ es) = option_and_then (λ t. run o t es) (step o s e)

abbrev pub left_is_zero : Option ℕ → Bool
left_is_zero None = false
left_is_zero (Some n) = n == 0

abbrev pub is_empty : List Level → Bool
is_empty [] = true
is_empty (l ∷ ls) = false

-- the bytes, where the one item is whole
abbrev pub whole : State → Option (List ℕ)
whole s = if is_empty s.outer && (not s.flattens && (not s.level.at_value && left_is_zero s.level.left)) then Some s.bytes else None

-- the document of the events
unfoldable pub document : Options → List Event → Option (List ℕ)
document o es = option_and_then whole (run o start es)

-- the events are known, and these are the bytes of their document
abbrev pub AreBytesOf : Options → Log → List ℕ → Type 0
AreBytesOf o log bytes = IsSomeAnd log (λ es. document o es ≡ Some bytes)

-- the bytes encode one acceptable item
pub record IsItem (bytes : List ℕ) : Type 0 where
  pub item : Raw
  pub acceptable : IsAcceptable item
  pub spelled : spell item ≡ bytes
