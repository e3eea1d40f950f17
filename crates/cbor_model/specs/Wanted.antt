-- Where an item is wanted: inside arrays, maps and tags that are open, after the whole items that
-- they hold so far (RFC 7049, sections 2.1, 2.2.1 and 2.4).
use Rattle.std.specs.Prelude.{◌≡◌, ℕ, suc, ◌*◌, ◌<◌, List, [], ◌∷◌, ◌++◌, refl}
use Rattle.cbor_model.specs.Head.{HeadWidth, no_bytes, one_byte, limit, head}
use Rattle.cbor_model.specs.Raw as raw
use Rattle.cbor_model.specs.Raw.{Raws, no_raws, RawPairs, raw_pair, no_raw_pairs, count}
use Rattle.cbor_model.specs.Raw.{AreWellFormed, ArePairsWellFormed}
use Rattle.cbor_model.specs.Spelling.{spell, spell_all, spell_pairs}

-- What opens an array, a map or a tag: its head (sections 2.1 and 2.4), or the first byte of an
-- indefinite length (section 2.2.1).
pub data Opening : Type 0 where
  array_head : HeadWidth → ℕ → Opening
  map_head : HeadWidth → ℕ → Opening
  tag_head : HeadWidth → ℕ → Opening
  indefinite_array : Opening
  indefinite_map : Opening

-- its bytes
abbrev pub opening : Opening → List ℕ
opening (array_head w n) = head 4 w n
opening (map_head w n) = head 5 w n
opening (tag_head w n) = head 6 w n
opening indefinite_array = 0x9f ∷ []
opening indefinite_map = 0xbf ∷ []

-- Its argument fits its width. A head of a larger number has the bytes of another head, which would
-- be read as an opening that isn't there (the examples below).
abbrev pub IsOpening : Opening → Type 0
IsOpening (array_head w n) = n < limit w
IsOpening (map_head w n) = n < limit w
IsOpening (tag_head w n) = n < limit w
IsOpening indefinite_array = Unit {0}
IsOpening indefinite_map = Unit {0}

-- After so many items there is a place for another: of n items in an array, of a key and a value
-- for each of n pairs in a map, of one item in a tag, and of any number in an indefinite length.
abbrev pub HasPlace : Opening → ℕ → Type 0
HasPlace (array_head w n) items = items < n
HasPlace (map_head w n) items = items < 2 * n
HasPlace (tag_head w n) items = items < 1
HasPlace indefinite_array items = Unit {0}
HasPlace indefinite_map items = Unit {0}

-- An item is wanted after these bytes, inside so many levels of nesting: at the very beginning; or
-- after bytes where one is wanted, then an opening, then whole items that leave a place.
pub data IsWanted : ℕ → List ℕ → Type 0 where
  at_first : IsWanted 0 []
  inside : (levels : ℕ) (before : List ℕ) (o : Opening) (items : Raws)
      → IsWanted levels before → IsOpening o → AreWellFormed items → HasPlace o (count items)
      → IsWanted (suc levels) (before ++ (opening o ++ spell_all items))

-- The innermost opening is 9f, an array of indefinite length, and whole items follow it: another
-- item or the break is wanted.
pub record StandsInIndefiniteArray (p : List ℕ) : Type 0 where
  pub levels : ℕ
  pub before : List ℕ
  pub items : Raws
  pub wanted : IsWanted levels before
  pub fits : AreWellFormed items
  pub parts : p ≡ before ++ (0x9f ∷ spell_all items)

-- The innermost opening is bf, a map of indefinite length, and whole pairs follow it: another key
-- or the break is wanted.
pub record StandsInIndefiniteMap (p : List ℕ) : Type 0 where
  pub levels : ℕ
  pub before : List ℕ
  pub pairs : RawPairs
  pub wanted : IsWanted levels before
  pub fits : ArePairsWellFormed pairs
  pub parts : p ≡ before ++ (0xbf ∷ spell_pairs pairs)

-- ---- examples

-- 82: an array of two
array_of_two : opening (array_head no_bytes 2) ≡ 0x82 ∷ []
array_of_two = refl

-- 9f 01: an array of indefinite length, as far as its first item, 1
items_so_far : opening indefinite_array ++ spell_all (raw.raw (raw.unsigned no_bytes 1) no_raws)
    ≡ 0x9f ∷ 0x01 ∷ []
unfolding spell
items_so_far = refl

-- bf 01 02: a map of indefinite length, as far as its first pair, 1: 2
pairs_so_far : 0xbf ∷ spell_pairs
    (raw_pair (raw.unsigned no_bytes 1) (raw.unsigned no_bytes 2) no_raw_pairs)
    ≡ 0xbf ∷ 0x01 ∷ 0x02 ∷ []
unfolding spell
pairs_so_far = refl

-- after 9f and bf another item, or another key, or the break
pub after_9f : StandsInIndefiniteArray (0x9f ∷ [])
unfolding spell
after_9f =
    record { levels = 0; before = []; items = no_raws; wanted = at_first; fits = tt; parts = refl }

pub after_bf : StandsInIndefiniteMap (0xbf ∷ [])
unfolding spell
after_bf = record {
  levels = 0;
  before = [];
  pairs = no_raw_pairs;
  wanted = at_first;
  fits = tt;
  parts = refl;
}

-- arguments that don't fit their width: 256 in one byte would be 0, and 24 in the first byte the first
-- byte of another head
head_of_no_items : head 4 one_byte 256 ≡ 0x98 ∷ 0x00 ∷ []
head_of_no_items = refl

head_cut_off : head 4 no_bytes 24 ≡ 0x98 ∷ []
head_cut_off = refl
