-- The reference reader. It is no definition of the format: it goes through the bytes from left to
-- right, as a program does, and says what is read first or what is at fault first. Laws tie it to
-- the definitions: what it reads is spelled so and acceptable, and what is spelled so it reads.
use Rattle.std.specs.Prelude.{◌≡◌, ℕ, zero, suc, ◌+◌, ◌-◌, ◌/◌, ◌%◌, ◌^◌, Bool, false, List, []}
use Rattle.std.specs.Prelude.{◌∷◌, length, take, drop, pos, negsuc, Result, Ok, Err, Option, Some}
use Rattle.std.specs.Prelude.{None, nat_lt, ◌==◌, ◌&&◌, if◌then◌else◌, refl}
use Rattle.std.specs.Int.{Width, w8, w16, w32, w64, byte_len, from_be_bytes}
use Rattle.std.specs.Str.Lossy.{utf8_valid_len}
use Rattle.cbor_model.specs.Head.{HeadWidth, no_bytes, one_byte, two_bytes, four_bytes, eight_bytes}
use Rattle.cbor_model.specs.Major.{Major, unsigned, negative, bytes, text, array, map, tag, simple}
use Rattle.cbor_model.specs.Major.{major_of}
use Rattle.cbor_model.specs.Raw.{Length, definite, indefinite, Chunk, joined, Simple, false_item}
use Rattle.cbor_model.specs.Raw.{true_item, null_item, undefined_item, FloatWidth, half, single}
use Rattle.cbor_model.specs.Raw.{double}
use Rattle.cbor_model.specs.Acceptable.{max_depth}
use Rattle.cbor_model.specs.Refusal.{Refusal, end_in_value, end_in_array, end_in_map}
use Rattle.cbor_model.specs.Refusal.{length_out_of_range, invalid_utf8, unassigned_code}
use Rattle.cbor_model.specs.Refusal.{unexpected_code, trailing_data, too_deep, scratch_too_small}
use Rattle.cbor_model.specs.Refusal.{wrong_struct_format}
use Rattle.cbor_model.specs.Formats.{Formats, all_formats, may_begin_key}
use Rattle.cbor_model.specs.Plain.{Val, Vals, no_vals, val, Pairs, no_pairs}
use Rattle.cbor_model.specs.Plain as plain
use Rattle.cbor_model.specs.Value.{simple_value, put}

-- A fault: why, and how many bytes were left. Its offset is the input's length less that.
pub record Fault : Type 0 where
  pub why : Refusal
  pub left : ℕ

-- what was read, and the bytes after it; or the fault
abbrev pub Reads : Type 0 → Type 0
Reads A = Result (A × List ℕ) Fault

infixl 10 ◌>>=◌
abbrev pub ◌>>=◌ : {A B : Type 0} → Result A Fault → (A → Result B Fault) → Result B Fault
(Ok x) >>= f = f x
(Err e) >>= f = Err e

-- What is made of the parts that are read, which texts and keys are let pass, and how many bytes of
-- chunks are joined.
pub record Reading (Item Items Pairs : Type 0) : Type 0 where
  pub unsigned : HeadWidth → ℕ → Item
  pub negative : HeadWidth → ℕ → Item
  pub bytes : Chunk → Item
  pub text : Chunk → Item
  pub bytes_chunks : List Chunk → Item
  pub text_chunks : List Chunk → Item
  pub array : Length → Items → Item
  pub map : Length → Pairs → Item
  pub tag : HeadWidth → ℕ → Item → Item
  pub simple : Simple → Item
  pub float : FloatWidth → ℕ → Item
  pub no_items : Items
  pub item : Item → Items → Items
  pub no_pairs : Pairs
  pub pair : Item → Item → Pairs → Pairs
  -- whether a text may have this length, where so many bytes are left
  pub has_room : ℕ → ℕ → Bool
  pub is_text : List ℕ → Bool
  -- whether this is more than can be joined
  pub exceeds : ℕ → Bool
  -- whether a key may begin with this byte
  pub allows : ℕ → Bool

-- more than the most, where there is one
abbrev pub exceeds_most : Option ℕ → ℕ → Bool
exceeds_most None n = false
exceeds_most (Some most) n = nat_lt most n

-- Values of these formats, in an input of this length, where so many bytes of chunks can be joined: a
-- definite text ends before 2^64, and each text is UTF-8. Of pairs it makes what they make of the
-- pairs before them.
abbrev pub values_of : Formats → ℕ → Option ℕ → Reading Val Vals (Pairs → Pairs)
values_of f total most = record {
  unsigned = λ w n. plain.integer (pos n);
  negative = λ w n. plain.integer (negsuc n);
  bytes = λ c. plain.bytes c.bytes;
  text = λ c. plain.text c.bytes;
  bytes_chunks = λ cs. plain.bytes (joined cs);
  text_chunks = λ cs. plain.text (joined cs);
  array = λ l vs. plain.array vs;
  map = λ l ps. plain.map (ps no_pairs);
  tag = λ w n v. plain.tag n v;
  simple = simple_value;
  float = plain.float;
  no_items = no_vals;
  item = val;
  no_pairs = λ earlier. earlier;
  pair = λ k v others earlier. others (put k v earlier);
  has_room = λ left n. nat_lt (total - left + n) (2 ^ 64);
  is_text = λ b. utf8_valid_len b == length b;
  exceeds = exceeds_most most;
  allows = may_begin_key f;
}

-- of all formats
abbrev pub values_in : ℕ → Option ℕ → Reading Val Vals (Pairs → Pairs)
values_in total most = values_of all_formats total most

-- where any number of bytes can be joined
abbrev pub values_within : ℕ → Reading Val Vals (Pairs → Pairs)
values_within total = values_in total None

abbrev pub ended : Fault
ended = record { why = end_in_value; left = 0 }

-- a fault before these bytes
abbrev pub before : Refusal → List ℕ → Fault
before why bs = record { why = why; left = length bs }

unfoldable pub byte_at : List ℕ → Reads ℕ
byte_at [] = Err ended
byte_at (b ∷ bs) = Ok (b, bs)

-- n whole bytes
abbrev pub bytes_at : ℕ → List ℕ → Reads (List ℕ)
bytes_at n bs = if nat_lt (length bs) n then Err ended else Ok (take n bs, drop n bs)

-- a number, the most significant byte first
abbrev pub number_at : Width → List ℕ → Reads ℕ
number_at w bs =
    if nat_lt (length bs) (byte_len w) then Err ended
    else Ok (from_be_bytes w (take (byte_len w) bs), drop (byte_len w) bs)

-- the width that the lower five bits of a first byte say, which are below 28
abbrev pub width_of : ℕ → HeadWidth
width_of low =
    if nat_lt low 24 then no_bytes
    else (if low == 24 then one_byte
    else (if low == 25 then two_bytes
    else (if low == 26 then four_bytes
    else eight_bytes)))

-- the number after a first byte with those lower five bits
unfoldable pub number_behind : ℕ → List ℕ → Reads ℕ
number_behind low bs =
    if nat_lt low 24 then Ok (low, bs)
    else (if low == 24 then number_at w8 bs
    else (if low == 25 then number_at w16 bs
    else (if low == 26 then number_at w32 bs
    else (if low == 27 then number_at w64 bs
    else Err (before unassigned_code bs)))))

-- such a number, and what is read after it
abbrev pub with_number : {A : Type 0} → (HeadWidth → ℕ → List ℕ → Reads A) → ℕ → List ℕ → Reads A
with_number read low bs = number_behind low bs >>= (λ n. read (width_of low) n.0 n.1)

-- a length likewise; or what is read where it is indefinite
abbrev pub with_length : {A : Type 0} → (HeadWidth → ℕ → List ℕ → Reads A) → (List ℕ → Reads A)
    → ℕ → List ℕ → Reads A
with_length read others low bs = if low == 31 then others bs else with_number read low bs

-- a float of that width, of which number_at reads the bits
unfoldable pub float_at : {Item Items Pairs : Type 0} → Reading Item Items Pairs → ℕ → List ℕ
    → Reads Item
float_at m low bs =
    if low == 25 then number_at w16 bs >>= (λ n. Ok (m.float half n.0, n.1))
    else (if low == 26 then number_at w32 bs >>= (λ n. Ok (m.float single n.0, n.1))
    else (if low == 27 then number_at w64 bs >>= (λ n. Ok (m.float double n.0, n.1))
    else Err (before (if low == 31 then unexpected_code else unassigned_code) bs)))

-- what follows a first byte of major type 7
unfoldable pub simple_at : {Item Items Pairs : Type 0} → Reading Item Items Pairs → ℕ → List ℕ
    → Reads Item
simple_at m low bs =
    if low == 20 then Ok (m.simple false_item, bs)
    else (if low == 21 then Ok (m.simple true_item, bs)
    else (if low == 22 then Ok (m.simple null_item, bs)
    else (if low == 23 then Ok (m.simple undefined_item, bs)
    else float_at m low bs)))

unfoldable pub string_at : {Item Items Pairs : Type 0} → Reading Item Items Pairs → HeadWidth → ℕ
    → List ℕ → Reads Item
string_at m w n bs = do
  b ← bytes_at n bs
  Ok (m.bytes (record { width = w; bytes = b.0 }), b.1)

-- a text of these bytes, which others follow; or a fault before the first byte that isn't UTF-8
unfoldable pub checked_text : {Item Items Pairs : Type 0} → Reading Item Items Pairs → Item → List ℕ
    → List ℕ → Reads Item
checked_text m item b bs =
    if m.is_text b then Ok (item, bs)
    else Err (record { why = invalid_utf8; left = length bs + (length b - utf8_valid_len b) })

unfoldable pub text_at : {Item Items Pairs : Type 0} → Reading Item Items Pairs → HeadWidth → ℕ
    → List ℕ → Reads Item
text_at m w n bs =
    if m.has_room (length bs) n then bytes_at n bs >>= (λ b.
    checked_text m (m.text (record { width = w; bytes = b.0 })) b.0 b.1)
    else Err (before length_out_of_range bs)

-- the first byte is that of a definite string of the major type
abbrev pub begins_chunk : ℕ → ℕ → Bool
begins_chunk major b = b / 32 == major && nat_lt (b % 32) 28

-- the content of a chunk, of n bytes, which is joined to what was read
unfoldable pub content_of_chunk : (ℕ → Bool) → HeadWidth → ℕ → List ℕ → Reads Chunk
content_of_chunk exceeds w n bs = bytes_at n bs >>= (λ c.
    if exceeds n then Err (before scratch_too_small bs)
    else Ok (record { width = w; bytes = c.0 }, c.1))

-- what follows the first byte of a chunk
unfoldable pub chunk_at : (ℕ → Bool) → ℕ → ℕ → List ℕ → Reads Chunk
chunk_at exceeds major b bs =
    if begins_chunk major b then with_number (content_of_chunk exceeds) (b % 32) bs
    else Err (before unexpected_code bs)

-- chunks of the major type up to the break, after so many bytes of chunks; they take fewer bytes
-- than fuel
unfoldable pub chunks_by : (ℕ → Bool) → ℕ → ℕ → ℕ → List ℕ → Reads (List Chunk)
chunks_by exceeds have major zero bs = Err ended
chunks_by exceeds have major (suc fuel) bs = byte_at bs >>= (λ b.
    if b.0 == 0xff then Ok ([], b.1)
    else chunk_at (λ n. exceeds (have + n)) major b.0 b.1 >>= (λ c.
    chunks_by exceeds (have + length c.0.bytes) major fuel c.1 >>= (λ cs.
    Ok (c.0 ∷ cs.0, cs.1))))

abbrev pub chunks_at : (ℕ → Bool) → ℕ → ℕ → List ℕ → Reads (List Chunk)
chunks_at exceeds have major bs = chunks_by exceeds have major (suc (length bs)) bs

unfoldable pub string_chunks_at : {Item Items Pairs : Type 0} → Reading Item Items Pairs → List ℕ
    → Reads Item
string_chunks_at m bs = chunks_at m.exceeds 0 2 bs >>= (λ cs. Ok (m.bytes_chunks cs.0, cs.1))

unfoldable pub text_chunks_at : {Item Items Pairs : Type 0} → Reading Item Items Pairs → List ℕ
    → Reads Item
text_chunks_at m bs = do
  cs ← chunks_at m.exceeds 0 3 bs
  checked_text m (m.text_chunks cs.0) (joined cs.0) cs.1

-- What remains of an array or a map: so many parts, or all up to the break. A part is an item of an
-- array, or a pair of a map.
pub data Remaining : Type 0 where
  counted : ℕ → Remaining
  to_break : Remaining

-- What remains after the next part, if one comes. A break that comes is taken; at an end of input
-- in its place the fault is why.
unfoldable pub next_at : Refusal → Remaining → List ℕ → Reads (Option Remaining)
next_at why (counted zero) bs = Ok (None, bs)
next_at why (counted (suc n)) bs = Ok (Some (counted n), bs)
next_at why to_break [] = Err (record { why = why; left = 0 })
next_at why to_break (b ∷ bs) = if b == 0xff then Ok (None, bs) else Ok (Some to_break, b ∷ bs)

-- How the parts are read, and what is made of them.
pub record Parts (Part Whole : Type 0) : Type 0 where
  pub ends : Refusal
  pub part : List ℕ → Reads Part
  pub none : Whole
  pub add : Part → Whole → Whole

-- a part and those after it, where one comes
abbrev pub go_on : {Part Whole : Type 0} → Parts Part Whole → (Remaining → List ℕ → Reads Whole)
    → Option Remaining → List ℕ → Reads Whole
go_on ps others None bs = Ok (ps.none, bs)
go_on ps others (Some remaining) bs = do
  first ← ps.part bs
  rest ← others remaining first.1
  Ok (ps.add first.0 rest.0, rest.1)

-- the parts that remain, each of which takes a byte at the least; they take fewer bytes than fuel
unfoldable pub parts_by : {Part Whole : Type 0} → Parts Part Whole → ℕ → Remaining → List ℕ
    → Reads Whole
parts_by ps zero remaining bs = Err ended
parts_by ps (suc fuel) remaining bs = do
  next ← next_at ps.ends remaining bs
  go_on ps (parts_by ps fuel) next.0 next.1

abbrev pub parts_at : {Part Whole : Type 0} → Parts Part Whole → Remaining → List ℕ → Reads Whole
parts_at ps remaining bs = parts_by ps (suc (length bs)) remaining bs

-- a key, whose first byte is one that it may begin with
unfoldable pub key_at : {Item : Type 0} → (ℕ → Bool) → (List ℕ → Reads Item) → List ℕ → Reads Item
key_at allows p [] = Err ended
key_at allows p (b ∷ bs) =
    if allows b then p (b ∷ bs)
    else Err (before wrong_struct_format (b ∷ bs))

-- a key and a value, each read by p
unfoldable pub pair_at : {Item : Type 0} → (ℕ → Bool) → (List ℕ → Reads Item) → List ℕ
    → Reads (Item × Item)
pair_at allows p bs = do
  k ← key_at allows p bs
  v ← p k.1
  Ok ((k.0, v.0), v.1)

abbrev pub items_of : {Item Items Pairs : Type 0} → Reading Item Items Pairs → (List ℕ → Reads Item)
    → Parts Item Items
items_of m p = record { ends = end_in_array; part = p; none = m.no_items; add = m.item }

abbrev pub pairs_of : {Item Items Pairs : Type 0} → Reading Item Items Pairs → (List ℕ → Reads Item)
    → Parts (Item × Item) Pairs
pairs_of m p = record {
  ends = end_in_map;
  part = pair_at m.allows p;
  none = m.no_pairs;
  add = λ (kv : _) others. m.pair kv.0 kv.1 others;
}

-- what lies one level further in, where one is left
abbrev pub within : {Item A : Type 0} → Option (List ℕ → Reads Item) → List ℕ
    → ((List ℕ → Reads Item) → Reads A) → Reads A
within None bs read = Err (before too_deep bs)
within (Some p) bs read = read p

-- what follows the head of an array, or of a map
unfoldable pub array_at : {Item Items Pairs : Type 0} → Reading Item Items Pairs
    → Option (List ℕ → Reads Item) → Length → Remaining → List ℕ → Reads Item
array_at m inner l remaining bs = do
  items ← within inner bs (λ p. parts_at (items_of m p) remaining bs)
  Ok (m.array l items.0, items.1)

unfoldable pub map_at : {Item Items Pairs : Type 0} → Reading Item Items Pairs
    → Option (List ℕ → Reads Item) → Length → Remaining → List ℕ → Reads Item
map_at m inner l remaining bs = do
  pairs ← within inner bs (λ p. parts_at (pairs_of m p) remaining bs)
  Ok (m.map l pairs.0, pairs.1)

unfoldable pub tag_at : {Item Items Pairs : Type 0} → Reading Item Items Pairs
    → Option (List ℕ → Reads Item) → HeadWidth → ℕ → List ℕ → Reads Item
tag_at m inner w n bs = do
  item ← within inner bs (λ p. p bs)
  Ok (m.tag w n item.0, item.1)

-- what follows a first byte of this major type, with these lower five bits
unfoldable pub content_at : {Item Items Pairs : Type 0} → Reading Item Items Pairs
    → Option (List ℕ → Reads Item) → Major → ℕ → List ℕ → Reads Item
content_at m inner unsigned = with_number (λ w n bs. Ok (m.unsigned w n, bs))
content_at m inner negative = with_number (λ w n bs. Ok (m.negative w n, bs))
content_at m inner bytes = with_length (string_at m) (string_chunks_at m)
content_at m inner text = with_length (text_at m) (text_chunks_at m)
content_at m inner array =
    with_length (λ w n. array_at m inner (definite w) (counted n))
    (array_at m inner indefinite to_break)
content_at m inner map =
    with_length (λ w n. map_at m inner (definite w) (counted n))
    (map_at m inner indefinite to_break)
content_at m inner tag = with_number (tag_at m inner)
content_at m inner simple = simple_at m

-- what follows the first byte b
unfoldable pub after_first : {Item Items Pairs : Type 0} → Reading Item Items Pairs
    → Option (List ℕ → Reads Item) → ℕ → List ℕ → Reads Item
after_first m inner b bs = content_at m inner (major_of (b / 32)) (b % 32) bs

-- an item, where inner reads what lies one level further in if one is left
unfoldable pub item_by : {Item Items Pairs : Type 0} → Reading Item Items Pairs
    → Option (List ℕ → Reads Item) → List ℕ → Reads Item
item_by m inner bs = byte_at bs >>= (λ b. after_first m inner b.0 b.1)

-- an item, where so many levels are left
unfoldable pub item_at : {Item Items Pairs : Type 0} → Reading Item Items Pairs → ℕ → List ℕ
    → Reads Item
item_at m zero = item_by m None
item_at m (suc levels) = item_by m (Some (item_at m levels))

-- the reader of what lies one level further in, where one is left
abbrev pub inside : {Item Items Pairs : Type 0} → Reading Item Items Pairs → ℕ
    → Option (List ℕ → Reads Item)
inside m zero = None
inside m (suc levels) = Some (item_at m levels)

-- nothing follows
abbrev pub whole : {A : Type 0} → Reads A → Result A Fault
whole read = read >>= (λ x.
    if length x.1 == 0 then Ok x.0
    else Err (record { why = trailing_data; left = length x.1 - 1 }))

-- the value that all of the bytes spell, where so many bytes of chunks can be joined
unfoldable pub read_value_in : Option ℕ → List ℕ → Result Val Fault
read_value_in most bs = whole (item_at (values_in (length bs) most) max_depth bs)

-- where any number of bytes can be joined
abbrev pub read_value : List ℕ → Result Val Fault
read_value bs = read_value_in None bs

-- ---- examples

head_not_shortest : read_value (0x18 ∷ 0x17 ∷ []) ≡ Ok (plain.integer (pos 23))
unfolding read_value_in item_at item_by byte_at after_first content_at number_behind
head_not_shortest = refl

trailing : read_value (0xf4 ∷ 0xf4 ∷ 0xf4 ∷ []) ≡ Err (record { why = trailing_data; left = 1 })
unfolding read_value_in item_at item_by byte_at after_first content_at simple_at
trailing = refl

-- bf 00 ff: a break in the place of a value
break_as_value : read_value (0xbf ∷ 0x00 ∷ 0xff ∷ [])
    ≡ Err (record { why = unexpected_code; left = 0 })
unfolding read_value_in item_at item_by byte_at after_first content_at map_at parts_by next_at pair_at key_at number_behind simple_at float_at
break_as_value = refl

-- 9f 01: the break is wanted
break_wanted : read_value (0x9f ∷ 0x01 ∷ []) ≡ Err (record { why = end_in_array; left = 0 })
unfolding read_value_in item_at item_by byte_at after_first content_at array_at parts_by next_at number_behind
break_wanted = refl

-- 7f 61 61 ff: a chunk of one byte is more than a scratch of none holds
chunk_too_long : read_value_in (Some 0) (0x7f ∷ 0x61 ∷ 0x61 ∷ 0xff ∷ [])
    ≡ Err (record { why = scratch_too_small; left = 2 })
unfolding read_value_in item_at item_by byte_at after_first content_at text_chunks_at chunks_by chunk_at content_of_chunk number_behind
chunk_too_long = refl

-- a1 20 01, a1 01 02: -1 as a key where no numbers from 0 are keys, and 1
abbrev no_numbers : Reading Val Vals (Pairs → Pairs)
no_numbers = values_of (record all_formats { packed = false }) 3 None

negative_key : item_at no_numbers 1 (0xa1 ∷ 0x20 ∷ 0x01 ∷ [])
    ≡ Ok (plain.map (plain.pair (plain.integer (negsuc 0)) (plain.integer (pos 1)) no_pairs), [])
unfolding item_at item_by byte_at after_first content_at number_behind map_at parts_by next_at pair_at key_at
negative_key = refl

number_key : item_at no_numbers 1 (0xa1 ∷ 0x01 ∷ 0x02 ∷ [])
    ≡ Err (record { why = wrong_struct_format; left = 2 })
unfolding item_at item_by byte_at after_first content_at number_behind map_at parts_by next_at pair_at key_at
number_key = refl
