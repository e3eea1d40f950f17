-- Going through the bytes of an item up to its first departure, without memory. It is no definition
-- of the format: laws tie it to the departures of items.
use Rattle.std.specs.Prelude.{ℕ, zero, suc, ◌-◌, ◌/◌, ◌%◌, List, [], ◌∷◌, length, take, drop}
use Rattle.std.specs.Prelude.{Ok, Err, nat_lt, ◌==◌, if◌then◌else◌}
use Rattle.cbor_model.specs.Head.{HeadWidth}
use Rattle.cbor_model.specs.Major.{Major, unsigned, negative, bytes, text, array, map, tag, simple}
use Rattle.cbor_model.specs.Major.{major_of}
use Rattle.cbor_model.specs.Order.{lex}
use Rattle.cbor_model.specs.Value.{by_order}
use Rattle.cbor_strict.specs.Departure.{floor}
use Rattle.cbor_model.specs.Reader.{Reads, width_of, number_behind}

-- What came of it.
pub data Walk : Type 0 where
  -- no departure, and these bytes after it
  passed : List ℕ → Walk
  -- the first departure, and so many bytes after what shows it
  departed : ℕ → Walk
  -- no departure up to where no item goes on so, or the bytes end
  stopped : Walk

abbrev pub and_then : Walk → (List ℕ → Walk) → Walk
and_then (passed bs) go = go bs
and_then (departed left) go = departed left
and_then stopped go = stopped

-- past n bytes
abbrev pub past : ℕ → List ℕ → Walk
past n bs = if nat_lt (length bs) n then stopped else passed (drop n bs)

-- past a number that a head says in this width, if the head is the shortest
abbrev pub on_shortest : (ℕ → List ℕ → Walk) → HeadWidth → Reads ℕ → Walk
on_shortest go w (Ok n) = if nat_lt n.0 (floor w) then departed (length n.1) else go n.0 n.1
on_shortest go w (Err e) = stopped

abbrev pub with_shortest : (ℕ → List ℕ → Walk) → ℕ → List ℕ → Walk
with_shortest go low bs = on_shortest go (width_of low) (number_behind low bs)

-- likewise a length, if it isn't indefinite
abbrev pub with_count : (ℕ → List ℕ → Walk) → ℕ → List ℕ → Walk
with_count go low bs = if low == 31 then departed (length bs) else with_shortest go low bs

-- what follows a first byte of an integer, and of a string
abbrev pub integer_walk : ℕ → List ℕ → Walk
integer_walk = with_shortest (λ n bs. passed bs)

abbrev pub string_walk : ℕ → List ℕ → Walk
string_walk = with_count past

-- what follows a first byte of major type 7
unfoldable pub simple_walk : ℕ → List ℕ → Walk
simple_walk low bs =
    if low == 20 then passed bs
    else (if low == 21 then passed bs
    else (if low == 22 then passed bs
    else (if low == 23 then departed (length bs)
    else (if low == 25 then past 2 bs
    else (if low == 26 then past 4 bs
    else (if low == 27 then past 8 bs
    else stopped))))))

-- n items, each past by p
unfoldable pub all_walk : (List ℕ → Walk) → ℕ → List ℕ → Walk
all_walk p zero bs = passed bs
all_walk p (suc n) bs = and_then (p bs) (all_walk p n)

-- what follows a key of these bytes, if it is above the bytes of the key before it
abbrev pub above : List ℕ → List ℕ → ℕ → Walk → Walk
above before key left others = by_order (lex before key) others (departed left) (departed left)

-- n pairs, after a key of these bytes; without one, they are none
unfoldable pub pairs_walk : (List ℕ → Walk) → ℕ → List ℕ → List ℕ → Walk
pairs_walk p zero before bs = passed bs
pairs_walk p (suc n) before bs = and_then (p bs) (λ at_value.
    let key = take (length bs - length at_value) bs in
    above before key (length at_value) (and_then (p at_value) (pairs_walk p n key)))

-- what follows a first byte of this major type, with these lower five bits
unfoldable pub content_walk : (List ℕ → Walk) → Major → ℕ → List ℕ → Walk
content_walk p unsigned = integer_walk
content_walk p negative = integer_walk
content_walk p bytes = string_walk
content_walk p text = string_walk
content_walk p array = with_count (all_walk p)
content_walk p map = with_count (λ n. pairs_walk p n [])
content_walk p tag = with_shortest (λ n. p)
content_walk p simple = simple_walk

-- an item, nested less deep than fuel
unfoldable pub walk : ℕ → List ℕ → Walk
walk zero bs = stopped
walk (suc fuel) [] = stopped
walk (suc fuel) (b ∷ bs) = content_walk (walk fuel) (major_of (b / 32)) (b % 32) bs

-- an item, which is nested less deep than it has bytes
abbrev pub walk_of : List ℕ → Walk
walk_of bs = walk (length bs) bs
