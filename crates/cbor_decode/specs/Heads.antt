-- What a head says of the item after it.
use Rattle.std.specs.Prelude.{◌≡◌, ℕ, ◌/◌, ◌%◌, Bool, true, false, List, Option, Some, None, Result}
use Rattle.std.specs.Prelude.{Ok, Err, pos, negsuc, ◌==◌, if◌then◌else◌}
use Rattle.std.specs.Int.{w16, w32, w64}
use Rattle.cbor_model.specs.Formats.{Formats, all_formats}
use Rattle.cbor_model.specs.Head.{HeadWidth, no_bytes}
use Rattle.cbor_model.specs.Major.{Major, major_of, unsigned, negative, bytes, text, array, map}
use Rattle.cbor_model.specs.Major.{tag, simple}
use Rattle.cbor_model.specs.Raw.{Chunk, joined, Length, definite, indefinite, false_item, true_item}
use Rattle.cbor_model.specs.Raw.{null_item, undefined_item, half, single, double}
use Rattle.cbor_model.specs.Refusal.{Refusal, end_in_array, end_in_map, unassigned_code}
use Rattle.cbor_model.specs.Refusal.{unexpected_code}
use Rattle.cbor_model.specs.Plain.{Val, Pairs, no_pairs}
use Rattle.cbor_model.specs.Plain as plain
use Rattle.cbor_model.specs.Reader.{Reads, Reading, ◌>>=◌, before, number_at, with_number}
use Rattle.cbor_model.specs.Reader.{with_length, byte_at, next_at, string_at, string_chunks_at}
use Rattle.cbor_model.specs.Reader.{text_at, text_chunks_at, array_at, map_at, tag_at}
use Rattle.cbor_model.specs.Reader as reader
use Rattle.cbor_value.specs.View.{float_view}
use Rattle.cbor_value.specs.declared.Float.{Float as ValueFloat}
use Rattle.cbor_value.specs.declared.Float.TheVariants.{Half, Single, Double}
use Rattle.cbor_io.specs.declared.read_error.ReadError.{ReadError}
use Rattle.cbor_io.specs.declared.read_error.ReadErrorCode.{ReadErrorCode}
use Rattle.cbor_io.specs.declared.read_error.ReadErrorCode.TheVariants.{EofWhileParsingArray}
use Rattle.cbor_io.specs.declared.read_error.ReadErrorCode.TheVariants.{EofWhileParsingMap}
use Rattle.cbor_read.specs.Source.{Input}
use Rattle.cbor_decode.specs.Gives.{Limits, values, Step, Stopped}
use Rattle.cbor_decode.specs.declared.refusal.Refused.{Refused}
use Rattle.cbor_decode.specs.declared.head.Head.{Head}
use Rattle.cbor_decode.specs.declared.head.Head.TheVariants.{Unsigned, Negative, Bytes, Text, Array}
use Rattle.cbor_decode.specs.declared.head.Head.TheVariants.{Map, Tag, Bool as Boolean, Null, Undefined}
use Rattle.cbor_decode.specs.declared.head.Head.TheVariants.{Float, Break}
use Rattle.cbor_decode.specs.declared.cursor.Remaining.{Remaining}
use Rattle.cbor_decode.specs.declared.cursor.Remaining.TheVariants.{Counted, ToBreak}
use Rattle.cbor_decode.specs.declared.cursor.Collection.{Collection}
use Rattle.cbor_decode.specs.declared.cursor.Collection.TheVariants as collection

-- what remains of an array or a map
abbrev pub remaining_of : Remaining → reader.Remaining
remaining_of (Counted n) = reader.counted n
remaining_of ToBreak = reader.to_break

-- what an input is that ends in this form
abbrev pub end_of : Collection → Refusal
end_of collection.Array = end_in_array
end_of collection.Map = end_in_map

-- its code
abbrev pub end_code : Collection → ReadErrorCode
end_code collection.Array = EofWhileParsingArray
end_code collection.Map = EofWhileParsingMap

-- ---- what a head says

-- a head that says a number, with its width
abbrev pub number_head : (ℕ → Head) → ℕ → List ℕ → Reads (HeadWidth × Head)
number_head make = with_number (λ w n bs. Ok ((w, make n), bs))

-- one that says a length, or that it is indefinite
abbrev pub length_head : (ℕ → Head) → Head → ℕ → List ℕ → Reads (HeadWidth × Head)
length_head make other =
    with_length (λ w n bs. Ok ((w, make n), bs)) (λ bs. Ok ((no_bytes, other), bs))

-- what the lower five bits of a first byte of major type 7 say, with the bits of a float
unfoldable pub simple_head : ℕ → List ℕ → Reads (HeadWidth × Head)
simple_head low bs =
    if low == 20 then Ok ((no_bytes, Boolean false), bs)
    else (if low == 21 then Ok ((no_bytes, Boolean true), bs)
    else (if low == 22 then Ok ((no_bytes, Null), bs)
    else (if low == 23 then Ok ((no_bytes, Undefined), bs)
    else (if low == 25 then number_at w16 bs >>= (λ n. Ok ((no_bytes, Float (Half n.0)), n.1))
    else (if low == 26 then number_at w32 bs >>= (λ n. Ok ((no_bytes, Float (Single n.0)), n.1))
    else (if low == 27 then number_at w64 bs >>= (λ n. Ok ((no_bytes, Float (Double n.0)), n.1))
    else (if low == 31 then Ok ((no_bytes, Break), bs)
    else Err (before unassigned_code bs))))))))

-- the head of this major type with these lower five bits
unfoldable pub head_of : Major → ℕ → List ℕ → Reads (HeadWidth × Head)
head_of unsigned = number_head Unsigned
head_of negative = number_head Negative
head_of bytes = length_head (λ n. Bytes (Some n)) (Bytes None)
head_of text = length_head (λ n. Text (Some n)) (Text None)
head_of array = length_head (λ n. Array (Counted n)) (Array ToBreak)
head_of map = length_head (λ n. Map (Counted n)) (Map ToBreak)
head_of tag = number_head Tag
head_of simple = simple_head

-- that of this first byte
unfoldable pub head_at : ℕ → List ℕ → Reads (HeadWidth × Head)
head_at b bs = head_of (major_of (b / 32)) (b % 32) bs

-- a head, with its width
abbrev pub opening_at : List ℕ → Reads (HeadWidth × Head)
opening_at bs = byte_at bs >>= (λ b. head_at b.0 b.1)

-- a head was read, of some width; or why not
abbrev pub HeadGives : (ReadErrorCode → Bool) → (List ℕ → Reads (HeadWidth × Head)) → Input → Input
    → ReadError → Result Head Refused → Type 0
HeadGives refusals read s t kept (Ok h) =
    Step s t (λ l bs rest. (w : HeadWidth) × (read bs ≡ Ok ((w, h), rest)))
HeadGives refusals read s t kept (Err r) = Stopped refusals (λ l. read) s t kept r

-- ---- what follows a head

-- the length of an array or a map with a head of this width
abbrev pub length_of : HeadWidth → Remaining → Length
length_of w (Counted n) = definite w
length_of w ToBreak = indefinite

abbrev pub float_of : {Item Items Pairs : Type 0} → Reading Item Items Pairs → ValueFloat → Item
float_of m (Half bits) = m.float half bits
float_of m (Single bits) = m.float single bits
float_of m (Double bits) = m.float double bits

-- What follows a head of this width, where inner reads what lies one level further in if one is left.
abbrev pub behind_head : {Item Items Pairs : Type 0} → Reading Item Items Pairs
    → Option (List ℕ → Reads Item) → HeadWidth → Head → List ℕ → Reads Item
behind_head m inner w (Unsigned n) bs = Ok (m.unsigned w n, bs)
behind_head m inner w (Negative n) bs = Ok (m.negative w n, bs)
behind_head m inner w (Bytes (Some n)) bs = string_at m w n bs
behind_head m inner w (Bytes None) bs = string_chunks_at m bs
behind_head m inner w (Text (Some n)) bs = text_at m w n bs
behind_head m inner w (Text None) bs = text_chunks_at m bs
behind_head m inner w (Array remaining) bs =
    array_at m inner (length_of w remaining) (remaining_of remaining) bs
behind_head m inner w (Map remaining) bs =
    map_at m inner (length_of w remaining) (remaining_of remaining) bs
behind_head m inner w (Tag n) bs = tag_at m inner w n bs
behind_head m inner w (Boolean false) bs = Ok (m.simple false_item, bs)
behind_head m inner w (Boolean true) bs = Ok (m.simple true_item, bs)
behind_head m inner w Null bs = Ok (m.simple null_item, bs)
behind_head m inner w Undefined bs = Ok (m.simple undefined_item, bs)
behind_head m inner w (Float f) bs = Ok (float_of m f, bs)
behind_head m inner w Break bs = Err (before unexpected_code bs)

-- A head, read as the value of its item. A width of no bytes stands for every width, since no value
-- depends on it; all formats stand for each in strings.
abbrev pub after_head : Formats → Limits → Option (List ℕ → Reads Val) → Head → List ℕ → Reads Val
after_head f l inner (Unsigned n) bs = Ok (plain.integer (pos n), bs)
after_head f l inner (Negative n) bs = Ok (plain.integer (negsuc n), bs)
after_head f l inner (Bytes (Some n)) bs = string_at (values all_formats l) no_bytes n bs
after_head f l inner (Bytes None) bs = string_chunks_at (values all_formats l) bs
after_head f l inner (Text (Some n)) bs = text_at (values all_formats l) no_bytes n bs
after_head f l inner (Text None) bs = text_chunks_at (values all_formats l) bs
after_head f l inner (Array remaining) bs =
    array_at (values f l) inner indefinite (remaining_of remaining) bs
after_head f l inner (Map remaining) bs =
    map_at (values f l) inner indefinite (remaining_of remaining) bs
after_head f l inner (Tag n) bs = tag_at (values f l) inner no_bytes n bs
after_head f l inner (Boolean b) bs = Ok (plain.bool b, bs)
after_head f l inner Null bs = Ok (plain.null, bs)
after_head f l inner Undefined bs = Ok (plain.null, bs)
after_head f l inner (Float x) bs = Ok (float_view x, bs)
after_head f l inner Break bs = Err (before unexpected_code bs)

-- the first byte of the next part, and what remains after that part; or none
abbrev pub first_behind : Option reader.Remaining → List ℕ → Reads (Option (reader.Remaining × ℕ))
first_behind None bs = Ok (None, bs)
first_behind (Some remaining) bs = byte_at bs >>= (λ b. Ok (Some (remaining, b.0), b.1))

abbrev pub first_at : Refusal → reader.Remaining → List ℕ → Reads (Option (reader.Remaining × ℕ))
first_at why remaining bs = next_at why remaining bs >>= (λ next. first_behind next.0 next.1)

abbrev pub first_of_next : Remaining → Option ℕ → Option (reader.Remaining × ℕ)
first_of_next remaining None = None
first_of_next remaining (Some first) = Some (remaining_of remaining, first)

-- the bytes of the chunks that are read
abbrev pub joined_of : Reads (List Chunk) → Reads (List ℕ)
joined_of read = read >>= (λ cs. Ok (joined cs.0, cs.1))

-- the pairs that are made of those that are read
abbrev pub made_of : Reads (Pairs → Pairs) → Reads Pairs
made_of read = read >>= (λ ps. Ok (ps.0 no_pairs, ps.1))

-- what was read, of which nothing is kept
abbrev pub passed : {A : Type 0} → Reads A → Reads (Unit {0})
passed read = read >>= (λ x. Ok (tt, x.1))
