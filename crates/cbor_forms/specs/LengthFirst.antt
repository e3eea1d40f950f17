-- The length-first form (RFC 8949, section 4.2.3; RFC 7049, section 3.9): shortest heads, definite
-- lengths, and keys in the order of the lengths of their encodings, and of equal lengths in that of
-- their bytes. That is the order of byte strings among values.
use Rattle.std.specs.Prelude.{◌≡◌, ℕ, List, [], ◌∷◌, ◌++◌, length, pos, negsuc, refl}
use Rattle.std.specs.Ordering.{ordering_then, nat_cmp}
use Rattle.std.specs.declared.cmp.Ordering.{Ordering}
use Rattle.cbor_model.specs.Head.{short}
use Rattle.cbor_model.specs.Plain.{Val, null, integer, bytes, array, map, tag}
use Rattle.cbor_model.specs.Plain.{Vals, no_vals, val, count}
use Rattle.cbor_model.specs.Plain.{Pairs, no_pairs, pair, pair_count}
use Rattle.cbor_model.specs.Order.{lex, flat, val_cmp}
use Rattle.cbor_model.specs.Spelling.{spell}
use Rattle.cbor_model.specs.FiniteMap.{put_all}
use Rattle.cbor_model.specs.Canonical.{canonical, canon}

-- what a byte string holds
abbrev pub content : Val → List ℕ
content (bytes b) = b
content _ = []

-- the contents of pairs of byte strings, one after the other
abbrev pub joined : Pairs → List ℕ
joined no_pairs = []
joined (pair k v ps) = content k ++ (content v ++ joined ps)

-- The encoding. A map's keys and values are encoded as byte strings, which are put in order.
unfoldable mutual
  pub length_first : Val → List ℕ
  length_first (array vs) = short 4 (count vs) ++ all_length_first vs
  length_first (map ps) = short 5 (pair_count ps) ++ joined (put_all (encoded ps) no_pairs)
  length_first (tag n v) = short 6 n ++ length_first v
  length_first v = canon v

  pub all_length_first : Vals → List ℕ
  all_length_first no_vals = []
  all_length_first (val v vs) = length_first v ++ all_length_first vs

  pub encoded : Pairs → Pairs
  encoded no_pairs = no_pairs
  encoded (pair k v ps) = pair (bytes (length_first k)) (bytes (length_first v)) (encoded ps)

-- the order of two encodings: by length, and then by their bytes
abbrev pub by_length : List ℕ → List ℕ → Ordering
by_length a b = ordering_then (nat_cmp (length a) (length b)) (lex a b)

-- ---- examples

-- it is that of byte strings
pub as_byte_strings : (a b : List ℕ) → val_cmp (bytes a) (bytes b) ≡ by_length a b
unfolding flat
as_byte_strings a b = refl

-- {100: null, -1: null} is written as {-1: null, 100: null}
shorter_first : length_first (map
    (pair (integer (pos 100)) null (pair (integer (negsuc 0)) null no_pairs)))
    ≡ 0xa2 ∷ 0x20 ∷ 0xf6 ∷ 0x18 ∷ 0x64 ∷ 0xf6 ∷ []
unfolding length_first flat canon canonical spell
shorter_first = refl
