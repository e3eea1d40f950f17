-- Going through the bytes of an item up to its first departure, or up to its first key, without
-- memory. It is no definition of the format: laws tie it to the features of items.
use Rattle.std.specs.Prelude.{ℕ, zero, suc, ◌+◌, ◌-◌, ◌/◌, ◌%◌, Bool, true, false, List, [], ◌∷◌}
use Rattle.std.specs.Prelude.{length, take, drop, Option, Some, None, Ok, Err, nat_lt, nat_le, ◌==◌}
use Rattle.std.specs.Prelude.{◌&&◌, if◌then◌else◌}
use Rattle.cbor_model.specs.Raw.{FloatWidth, half, single, double, undefined_item}
use Rattle.cbor_model.specs.Reader.{Reads, width_of, number_behind}
use Rattle.cbor_rules.specs.Features.{Feature, number, indefinite_length, simple_item, float_bits, key}
use Rattle.cbor_rules.specs.Features.{nth_item, chunk_to}
use Rattle.cbor_rules.specs.Rules.{Terms, broken}
use Rattle.cbor_rules.specs.declared.settings.Rule.{Rule}
use Rattle.cbor_rules.specs.declared.settings.Rule.TheVariants.{UniqueKeys}

-- What came of it.
pub data Walk : Type 0 where
  -- no departure, and these bytes after it
  passed : List ℕ → Walk
  -- the first departure, and so many bytes after what shows it
  departed : Rule → ℕ → Walk
  -- no departure up to where no item goes on so, or the bytes end
  stopped : Walk

abbrev pub and_then : Walk → (List ℕ → Walk) → Walk
and_then (passed bs) go = go bs
and_then (departed rule left) go = departed rule left
and_then stopped go = stopped

-- past what breaks no rule
abbrev pub unless_broken : Option Rule → ℕ → Walk → Walk
unless_broken None left others = others
unless_broken (Some rule) left others = departed rule left

-- what is looked for in the bytes
pub data Sought : Type 0 where
  departure_from : Terms → Sought
  any_key : Sought

-- the rule that a feature breaks; or where keys are looked for, as if each broke one
abbrev pub found : Sought → Feature → Option Rule
found (departure_from terms) f = broken terms f
found any_key (key earlier k) = Some UniqueKeys
found any_key _ = None

-- past a feature, with so many bytes after it
abbrev pub seen : Sought → Feature → ℕ → Walk → Walk
seen sought f left others = unless_broken (found sought f) left others

-- past n bytes
abbrev pub past : ℕ → List ℕ → Walk
past n bs = if nat_lt (length bs) n then stopped else passed (drop n bs)

-- past a number
abbrev pub with_number : (ℕ → List ℕ → Walk) → Reads ℕ → Walk
with_number go (Ok n) = go n.0 n.1
with_number go (Err e) = stopped

-- what follows a first byte of a float
abbrev pub float_walk : Sought → FloatWidth → ℕ → List ℕ → Walk
float_walk sought w low bs = with_number
    (λ bits rest. seen sought (float_bits w bits) (length rest) (passed rest))
    (number_behind low bs)

-- what follows a first byte of major type 7
unfoldable pub simple_walk : Sought → ℕ → List ℕ → Walk
simple_walk sought low bs =
    if low == 23 then seen sought (simple_item undefined_item) (length bs) (passed bs)
    else (if low == 25 then float_walk sought half low bs
    else (if low == 26 then float_walk sought single low bs
    else (if low == 27 then float_walk sought double low bs
    else passed bs)))

abbrev pub is_break : List ℕ → Bool
is_break [] = false
is_break (b ∷ bs) = b == 0xff

-- n items
unfoldable pub all_walk : (List ℕ → Walk) → ℕ → List ℕ → Walk
all_walk p zero bs = passed bs
all_walk p (suc n) bs = and_then (p bs) (all_walk p n)

-- the items of an indefinite length, n at the most, after so many
unfoldable pub open_walk : Sought → (List ℕ → Walk) → ℕ → ℕ → List ℕ → Walk
open_walk sought p zero earlier bs = stopped
open_walk sought p (suc n) earlier bs =
    if is_break bs then passed (drop 1 bs)
    else and_then (p bs) (λ rest.
    seen sought (nth_item earlier) (length rest) (open_walk sought p n (earlier + 1) rest))

-- what follows the first byte of a chunk, after chunks of so many bytes; behind it, it goes on with
-- how many they are then
abbrev pub chunk_content : Sought → ℕ → ℕ → ℕ → (ℕ → List ℕ → Walk) → List ℕ → Walk
chunk_content sought major low sum go bs = with_number
    (λ n rest. seen sought (number major (width_of low) n) (length rest)
    (and_then (past n rest) (λ more.
    seen sought (chunk_to (sum + n)) (length rest) (go (sum + n) more))))
    (number_behind low bs)

-- a chunk or a break, likewise
abbrev pub chunk_walk : Sought → ℕ → ℕ → (ℕ → List ℕ → Walk) → List ℕ → Walk
chunk_walk sought major sum go [] = stopped
chunk_walk sought major sum go (b ∷ bs) =
    if b == 0xff then passed bs else chunk_content sought major (b % 32) sum go bs

-- the chunks of a string, n at the most
unfoldable pub chunks_walk : Sought → ℕ → ℕ → ℕ → List ℕ → Walk
chunks_walk sought major zero sum bs = stopped
chunks_walk sought major (suc n) sum bs =
    chunk_walk sought major sum (chunks_walk sought major n) bs

-- n pairs, in an indefinite length up to a break and n at the most, after keys of these bytes, the
-- latest first
unfoldable pub pairs_walk : Sought → (List ℕ → Walk) → Bool → ℕ → List (List ℕ) → List ℕ → Walk
pairs_walk sought p is_open zero earlier bs = if is_open then stopped else passed bs
pairs_walk sought p is_open (suc n) earlier bs =
    if is_open && is_break bs then passed (drop 1 bs)
    else and_then (p bs) (λ at_value.
    let k = take (length bs - length at_value) bs in
    seen sought (key earlier k) (length at_value)
    (and_then (p at_value) (pairs_walk sought p is_open n (k ∷ earlier))))

-- what follows a head of this major type, below 7, with its number
unfoldable pub inside_walk : Sought → (List ℕ → Walk) → ℕ → ℕ → List ℕ → Walk
inside_walk sought p major n bs =
    if nat_le major 1 then passed bs
    else (if nat_le major 3 then past n bs
    else (if major == 4 then all_walk p n bs
    else (if major == 5 then pairs_walk sought p false n [] bs
    else p bs)))

-- what follows the first byte of an indefinite length
unfoldable pub indefinite_walk : Sought → (List ℕ → Walk) → ℕ → List ℕ → Walk
indefinite_walk sought p major bs = seen sought indefinite_length (length bs)
    (if major == 5 then pairs_walk sought p true (length bs) [] bs
    else (if major == 4 then open_walk sought p (length bs) 0 bs
    else chunks_walk sought major (length bs) 0 bs))

-- what follows a first byte of this major type, below 7, with its number
abbrev pub head_walk : Sought → (List ℕ → Walk) → ℕ → ℕ → List ℕ → Walk
head_walk sought p major low bs = with_number
    (λ n rest. seen sought (number major (width_of low) n) (length rest)
    (inside_walk sought p major n rest))
    (number_behind low bs)

-- what follows a first byte of this major type, with these lower five bits
unfoldable pub content_walk : Sought → (List ℕ → Walk) → ℕ → ℕ → List ℕ → Walk
content_walk sought p major low bs =
    if major == 7 then simple_walk sought low bs
    else (if low == 31 then indefinite_walk sought p major bs
    else head_walk sought p major low bs)

-- an item, nested less deep than fuel
unfoldable pub walk : Sought → ℕ → List ℕ → Walk
walk sought zero bs = stopped
walk sought (suc fuel) [] = stopped
walk sought (suc fuel) (b ∷ bs) = content_walk sought (walk sought fuel) (b / 32) (b % 32) bs
