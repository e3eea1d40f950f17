-- Examples of refusals: one that is allowed for each code, by hand; and the first of some inputs.
use Rattle.std.proofs.Common.{◌≡◌, ℕ, zero, suc, ◌+◌, ◌<◌, Bool, true, false, ltb, ◌&&◌, List, []}
use Rattle.std.proofs.Common.{◌∷◌, ◌++◌, length, take, Option, Some, None, Err, IsUtf8, refl, subst}
use Rattle.std.proofs.Common.{arith, inl, inr}
use Rattle.std.specs.Str.{is_utf8, chars, IsValidUpTo}
use Rattle.std.specs.Str.Lossy.{utf8_valid_len}
use Rattle.std.proofs.lemmas.Bool.{ltb-true}
use Rattle.std.proofs.lemmas.List.{take_all}
use Rattle.std.proofs.lemmas.Str.{is_utf8-from_IsUtf8, IsUtf8-nil}
use Rattle.cbor_model.specs.Head.{no_bytes, eight_bytes}
use Rattle.cbor_model.specs.Raw as raw
use Rattle.cbor_model.specs.Raw.{Raw, no_raws, RawPairs, no_raw_pairs, Chunk, AreBytes, indefinite, null_item}
use Rattle.cbor_model.specs.Raw.{false_item}
use Rattle.cbor_model.specs.Spelling.{spell, spell_all}
use Rattle.cbor_model.specs.Refusal.{Refusal, end_in_value, end_in_array, end_in_map}
use Rattle.cbor_model.specs.Refusal.{length_out_of_range, invalid_utf8, unassigned_code}
use Rattle.cbor_model.specs.Refusal.{unexpected_code, trailing_data, too_deep, scratch_too_small}
use Rattle.cbor_model.specs.Reader.{read_value_in, item_at, item_by, byte_at, after_first, content_at}
use Rattle.cbor_model.specs.Reader.{number_behind, simple_at, float_at, text_at, checked_text}
use Rattle.cbor_model.specs.Reader.{array_at, map_at}
use Rattle.cbor_model.specs.Reader.{parts_by, next_at, pair_at, key_at}
use Rattle.cbor_model.specs.Wanted.{after_9f, after_bf, array_head, indefinite_array, IsWanted, at_first, inside}
use Rattle.cbor_model.specs.Wanted.{StandsInIndefiniteArray, StandsInIndefiniteMap}
use Rattle.cbor_model.specs.Allowed.{limits_of, IsAllowed, IsFirstRefusal}
use Rattle.cbor_model.proofs.refusals.Completion.{nothing_begins}
use Rattle.cbor_model.proofs.refusals.EarlierRefusals.{array_begins, map_begins}
use Rattle.cbor_model.proofs.refusals.FirstRefusal.{refused_at}

-- ---- one for each code

-- nothing is open at the very beginning
not_nil : (x : ℕ) (a b : List ℕ) → [] ≡ a ++ (x ∷ b) → ⊥
not_nil x [] b is = cc
not_nil x (y ∷ a) b is = cc

none_open : StandsInIndefiniteArray [] → ⊥
none_open s = not_nil 0x9f s.before (spell_all s.items) s.parts

none_mapped : StandsInIndefiniteMap [] → ⊥
none_mapped s = not_nil 0xbf s.before (Rattle.cbor_model.specs.Spelling.spell_pairs s.pairs) s.parts

-- no bytes
end_of_nothing : IsAllowed (limits_of None) [] end_in_value 0 0
end_of_nothing = (record { ends = record { whole = refl; begins = nothing_begins }; no_array = none_open; no_map = none_mapped }, refl)

-- 9f
end_in_9f : IsAllowed (limits_of None) (0x9f ∷ []) end_in_array 1 1
end_in_9f = (record { ends = record { whole = refl; begins = array_begins (0x9f ∷ []) after_9f }; stands = after_9f }, refl)

-- bf
end_in_bf : IsAllowed (limits_of None) (0xbf ∷ []) end_in_map 1 1
end_in_bf = (record { ends = record { whole = refl; begins = map_begins (0xbf ∷ []) after_bf }; stands = after_bf }, refl)

-- 7b and eight times ff
far_text : IsAllowed (limits_of None) (0x7b ∷ 0xff ∷ 0xff ∷ 0xff ∷ 0xff ∷ 0xff ∷ 0xff ∷ 0xff ∷ 0xff ∷ []) length_out_of_range 9 9
far_text = (
  record {
    width = eight_bytes;
    n = 18446744073709551615;
    fits = omega arith;
    at = record {
      levels = 0;
      before = [];
      wanted = at_first;
      first = record { rest = []; parts = refl; long = refl };
    };
    far = omega arith;
  },
  refl,
)

-- 82 62 c3 28: after the head of an array of two, a text whose first byte begins no character of UTF-8
no_character : IsValidUpTo (0xc3 ∷ 0x28 ∷ []) 0
unfolding is_utf8 chars lib.Utf8.encode
no_character = record { short = omega arith; front = IsUtf8-nil; longest = longer }
  where
    refuted : (b : List ℕ) → is_utf8 b ≡ false → IsUtf8 b → ⊥
    refuted b fails passes = differ (is_utf8 b) (is_utf8-from_IsUtf8 b passes) fails
      where
        differ : (t : Bool) → t ≡ true → t ≡ false → ⊥
        differ t p q = cc

    longer : (k : ℕ) → 0 < k → IsUtf8 (take k (0xc3 ∷ 0x28 ∷ [])) → ⊥
    longer zero some passes = omega arith
    longer (suc zero) some passes = refuted (0xc3 ∷ []) refl passes
    longer (suc (suc k)) some passes =
        let all : take (suc (suc k)) (0xc3 ∷ 0x28 ∷ []) ≡ 0xc3 ∷ 0x28 ∷ [] = take_all (suc (suc k)) (0xc3 ∷ 0x28 ∷ []) (omega arith) in
        refuted (0xc3 ∷ 0x28 ∷ []) refl (subst IsUtf8 all passes)

behind_82 : IsWanted 1 (0x82 ∷ [])
unfolding spell
behind_82 = inside 0 [] (array_head no_bytes 2) no_raws at_first (omega arith) tt (omega arith)

bad_text : IsAllowed (limits_of None) (0x82 ∷ 0x62 ∷ 0xc3 ∷ 0x28 ∷ []) invalid_utf8 4 2
unfolding spell
bad_text = record {
  item = raw.text (record { width = no_bytes; bytes = 0xc3 ∷ 0x28 ∷ [] });
  text = 0xc3 ∷ 0x28 ∷ [];
  valid = 0;
  fits = (omega arith, small);
  text_is = refl;
  longest = no_character;
  at = record {
    levels = 1;
    before = 0x82 ∷ [];
    wanted = behind_82;
    first = record { rest = []; parts = refl; long = refl };
  };
  offset_is = refl;
}
  where
    small : AreBytes (0xc3 ∷ 0x28 ∷ [])
    small zero = omega arith
    small (suc zero) = omega arith
    small (suc (suc i)) = omega arith

-- 82 f8
no_simple : IsAllowed (limits_of None) (0x82 ∷ 0xf8 ∷ []) unassigned_code 2 2
no_simple = (
  record {
    byte = 0xf8;
    unassigned = inr (inr (inr (inr (inr (inr (inr (inr (inl refl))))))));
    at = record { levels = 1; before = 0x82 ∷ []; wanted = behind_82; first = record { rest = []; parts = refl; long = refl } };
  },
  refl,
)

-- ff, and 7f 7f
stray : IsAllowed (limits_of None) (0xff ∷ []) unexpected_code 1 1
stray = (
  inl (record {
    at = record { levels = 0; before = []; wanted = at_first; first = record { rest = []; parts = refl; long = refl } };
    no_array = none_open;
    no_map = none_mapped;
  }),
  refl,
)

no_chunk : IsAllowed (limits_of None) (0x7f ∷ 0x7f ∷ []) unexpected_code 2 2
no_chunk = (
  inr (record {
    major = 3;
    chunks = [];
    byte = 0x7f;
    of_strings = inr refl;
    fits = tt;
    no_break = λ is. omega (arith, is);
    no_chunk = λ begins. omega (arith, begins);
    at = record {
      levels = 0;
      before = [];
      wanted = at_first;
      first = record { rest = []; parts = refl; long = refl };
    };
  }),
  refl,
)

-- f4 f4
after_false : IsAllowed (limits_of None) (0xf4 ∷ 0xf4 ∷ []) trailing_data 2 2
unfolding spell
after_false = (
  record {
    item = raw.simple false_item;
    byte = 0xf4;
    acceptable = record { fits = tt; nests = omega arith; texts = tt };
    first = record { rest = []; parts = refl; long = refl };
  },
  refl,
)

-- 82 9f, where one level is read
deep_array : IsAllowed (record { start = 0; levels = 1; scratch = None }) (0x82 ∷ 0x9f ∷ []) too_deep 2 2
deep_array = (
  record {
    opens = indefinite_array;
    fits = tt;
    at = record { levels = 1; before = 0x82 ∷ []; wanted = behind_82; first = record { rest = []; parts = refl; long = refl } };
    deep = omega arith;
  },
  refl,
)

-- 7f 61 61, with an empty scratch
over_scratch : IsAllowed (limits_of (Some 0)) (0x7f ∷ 0x61 ∷ 0x61 ∷ []) scratch_too_small 2 2
over_scratch = (
  record {
    major = 3;
    chunks = [];
    next = record { width = no_bytes; bytes = 0x61 ∷ [] };
    rest = [];
    of_strings = inr refl;
    fits = tt;
    next_fits = (omega arith, small);
    over = omega arith;
    at = record {
      levels = 0;
      before = [];
      wanted = at_first;
      first = record { rest = 0x61 ∷ []; parts = refl; long = refl };
    };
    whole = refl;
  },
  refl,
)
  where
    small : AreBytes (0x61 ∷ [])
    small zero = omega arith
    small (suc i) = omega arith

-- ---- the first of an input

abbrev small : List ℕ → Bool
small [] = true
small (b ∷ bs) = ltb b 256 && small bs

both : (p q : Bool) → (p && q) ≡ true → (p ≡ true) × (q ≡ true)
both true q e = (refl, e)
both false q e = absurd cc

are_bytes : (bs : List ℕ) → small bs ≡ true → AreBytes bs
are_bytes [] is i = omega arith
are_bytes (b ∷ bs) is zero = ltb-true b 256 (both (ltb b 256) (small bs) is).0
are_bytes (b ∷ bs) is (suc i) = are_bytes bs (both (ltb b 256) (small bs) is).1 i

row : (room : Option ℕ) (bs : List ℕ) (why : Refusal) (offset left : ℕ) → small bs ≡ true
    → offset + left ≡ length bs → read_value_in room bs ≡ Err (record { why = why; left = left })
    → IsFirstRefusal (limits_of room) bs why offset
row room bs why offset left fits at fails = refused_at room bs why offset left (are_bytes bs fits) at fails

-- 7b and eight times ff: the head comes before the end
row_far : IsFirstRefusal (limits_of None) (0x7b ∷ 0xff ∷ 0xff ∷ 0xff ∷ 0xff ∷ 0xff ∷ 0xff ∷ 0xff ∷ 0xff ∷ []) length_out_of_range 9
unfolding read_value_in item_at item_by byte_at after_first content_at number_behind text_at
row_far = row None _ length_out_of_range 9 0 refl refl refl

-- 82 62 c3 28: the text comes before the end
row_text : IsFirstRefusal (limits_of None) (0x82 ∷ 0x62 ∷ 0xc3 ∷ 0x28 ∷ []) invalid_utf8 2
unfolding read_value_in item_at item_by byte_at after_first content_at number_behind text_at checked_text array_at parts_by next_at is_utf8 chars utf8_valid_len lib.Utf8.encode
row_text = row None _ invalid_utf8 2 2 refl refl refl

-- 82 62 c3 28 1c: and before the byte after it, which begins no item
row_text_first : IsFirstRefusal (limits_of None) (0x82 ∷ 0x62 ∷ 0xc3 ∷ 0x28 ∷ 0x1c ∷ []) invalid_utf8 2
unfolding read_value_in item_at item_by byte_at after_first content_at number_behind text_at checked_text array_at parts_by next_at is_utf8 chars utf8_valid_len lib.Utf8.encode
row_text_first = row None _ invalid_utf8 2 3 refl refl refl

-- bf 61 61 ff: a break in the place of a value
row_value : IsFirstRefusal (limits_of None) (0xbf ∷ 0x61 ∷ 0x61 ∷ 0xff ∷ []) unexpected_code 4
unfolding read_value_in item_at item_by byte_at after_first content_at number_behind text_at checked_text map_at parts_by next_at pair_at key_at simple_at float_at is_utf8 chars utf8_valid_len lib.Utf8.encode
row_value = row None _ unexpected_code 4 0 refl refl refl

-- 9f 01, and bf: an array and a map of indefinite length
row_array : IsFirstRefusal (limits_of None) (0x9f ∷ 0x01 ∷ []) end_in_array 2
unfolding read_value_in item_at item_by byte_at after_first content_at number_behind array_at parts_by next_at
row_array = row None _ end_in_array 2 0 refl refl refl

row_map : IsFirstRefusal (limits_of None) (0xbf ∷ []) end_in_map 1
unfolding read_value_in item_at item_by byte_at after_first content_at map_at parts_by next_at
row_map = row None _ end_in_map 1 0 refl refl refl
