-- What is to come of arrays, maps and tags that have begun, and how the reference reader goes on
-- there.
use Rattle.std.specs.Prelude.{ℕ, ◌-◌, Bool, false, List, [], ◌∷◌, length, None, Ok, ◌==◌}
use Rattle.cbor_model.specs.Plain.{Val, Vals, Pairs}
use Rattle.cbor_model.specs.Reader.{Reads, Reading, ◌>>=◌, item_at, items_of, pairs_of, parts_at}
use Rattle.cbor_model.specs.Reader.{values_in}
use Rattle.cbor_decode.specs.Heads.{passed, remaining_of}
use Rattle.cbor_decode.specs.declared.cursor.Remaining.{Remaining}
use Rattle.cbor_decode.specs.declared.cursor.Remaining.TheVariants.{Counted, ToBreak}
use Rattle.cbor_pushed.specs.declared.rest.Rest.{Rest}
use Rattle.cbor_pushed.specs.declared.rest.Rest.TheVariants.{Items, Pairs as InPairs, Value}

abbrev pub none_left : Remaining → Bool
none_left (Counted n) = n == 0
none_left ToBreak = false

-- nothing is to come
abbrev pub is_over : Rest → Bool
is_over (Items r) = none_left r
is_over (InPairs r) = none_left r
is_over (Value r) = false

abbrev pub is_break : Remaining → ℕ → Bool
is_break (Counted n) b = false
is_break ToBreak b = b == 0xff

-- the byte ends it, where the next item may begin
abbrev pub ends_by : Rest → ℕ → Bool
ends_by (Items r) b = is_break r b
ends_by (InPairs r) b = is_break r b
ends_by (Value r) b = false

abbrev pub fewer : Remaining → Remaining
fewer (Counted n) = Counted (n - 1)
fewer ToBreak = ToBreak

-- what is to come after one item more
abbrev pub behind : Rest → Rest
behind (Items r) = Items (fewer r)
behind (InPairs r) = Value (fewer r)
behind (Value r) = InPairs r

-- the reading of an input of this length
abbrev pub reading : ℕ → Reading Val Vals (Pairs → Pairs)
reading total = values_in total None

-- items that remain, and pairs, which may have so many levels
abbrev pub items_at : ℕ → ℕ → Remaining → List ℕ → Reads (Unit {0})
items_at total levels r bs =
    let m = reading total in
    passed (parts_at (items_of m (item_at m levels)) (remaining_of r) bs)

abbrev pub pairs_at : ℕ → ℕ → Remaining → List ℕ → Reads (Unit {0})
pairs_at total levels r bs =
    let m = reading total in
    passed (parts_at (pairs_of m (item_at m levels)) (remaining_of r) bs)

-- What is to come of one, whose items may have so many levels.
unfoldable pub rest_at : ℕ → ℕ → Rest → List ℕ → Reads (Unit {0})
rest_at total levels (Items r) bs = items_at total levels r bs
rest_at total levels (InPairs r) bs = pairs_at total levels r bs
rest_at total levels (Value r) bs =
    item_at (reading total) levels bs >>= (λ v. pairs_at total levels r v.1)

-- What is to come of each of these, the outermost first, whose items may have so many levels: the
-- innermost goes on first.
unfoldable pub around_at : ℕ → ℕ → List Rest → List ℕ → Reads (Unit {0})
around_at total levels [] bs = Ok (tt, bs)
around_at total levels (r ∷ rs) bs =
    around_at total (levels - 1) rs bs >>= (λ x. rest_at total levels r x.1)

-- the same, of one inside of these
abbrev pub all_at : ℕ → ℕ → List Rest → Rest → List ℕ → Reads (Unit {0})
all_at total levels around innermost bs =
    rest_at total (levels - length around) innermost bs >>= (λ x. around_at total levels around x.1)
