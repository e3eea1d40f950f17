-- What is read is spelled so.
use Rattle.std.proofs.Common.{◌≡◌, ℕ, zero, suc, ◌+◌, ◌*◌, ◌/◌, ◌%◌, ◌<◌, false}
use Rattle.std.proofs.Common.{List, [], ◌∷◌, ◌++◌, length, Option, Some, None}
use Rattle.std.proofs.Common.{Ok, refl, sym, ap, subst, ◌∙◌, arith, inl, inr}
use Rattle.std.specs.Prelude.{flat_map, max}
use Rattle.std.specs.Int.{Width, w16, w32, w64, to_be_bytes}
use Rattle.cbor_model.specs.Head.{HeadWidth, limit, head}
use Rattle.cbor_model.specs.Major.{major_of}
use Rattle.cbor_model.specs.Raw as raw
use Rattle.cbor_model.specs.Raw.{Length, definite, indefinite, Raw, Raws, no_raws, RawPairs}
use Rattle.cbor_model.specs.Raw.{no_raw_pairs, raw_pair, Chunk, joined, Simple, false_item}
use Rattle.cbor_model.specs.Raw.{true_item, null_item, undefined_item, FloatWidth, half, single}
use Rattle.cbor_model.specs.Raw.{double, float_limit, count, pair_count, depth, depth_all}
use Rattle.cbor_model.specs.Raw.{depth_pairs, AreBytes, IsChunk, IsWellFormed, AreWellFormed}
use Rattle.cbor_model.specs.Raw.{ArePairsWellFormed, EachText, EachTextOfAll, EachTextOfPairs}
use Rattle.cbor_model.specs.Raw.{EachKey, EachKeyOfAll, EachKeyOfPairs}
use Rattle.cbor_model.specs.Raw.{longest_joined, longest_joined_all, longest_joined_pairs}
use Rattle.cbor_model.specs.Spelling.{spell, spell_all, spell_pairs, chunk, simple_byte}
use Rattle.cbor_model.specs.Spelling.{float_spelling}
use Rattle.cbor_model.specs.Refusal.{too_deep}
use Rattle.cbor_model.specs.Refusal.{length_out_of_range}
use Rattle.cbor_model.specs.Reader.{Reads, ◌>>=◌, Reading, ended, before, byte_at, bytes_at}
use Rattle.cbor_model.specs.Reader.{number_at, width_of, number_behind, with_number, with_length, float_at, simple_at}
use Rattle.cbor_model.specs.Reader.{string_at, checked_text, text_at}
use Rattle.cbor_model.specs.Reader.{chunks_at}
use Rattle.cbor_model.specs.Reader.{string_chunks_at, text_chunks_at, Remaining, counted, to_break}
use Rattle.cbor_model.specs.Reader.{parts_at, key_at}
use Rattle.cbor_model.specs.Reader.{pair_at, items_of}
use Rattle.cbor_model.specs.Reader.{pairs_of, array_at, map_at, tag_at, content_at}
use Rattle.cbor_model.specs.Reader.{after_first, item_by, item_at}
use Rattle.cbor_model.proofs.reader.MadeItems.{made, made_all, made_pairs}
use Rattle.cbor_model.proofs.reader.ReaderSteps.{AreBytes-rest, bind_ok, chosen, at_number, done, read_as}
use Rattle.cbor_model.proofs.reader.ReaderSteps.{not_ok, bytes_found, IsWide, wide16, wide32, wide64}
use Rattle.cbor_model.proofs.reader.ReaderSteps.{number_found, number_behind_found, first_is}
use Rattle.cbor_model.proofs.reader.ReaderSteps.{key_read}
use Rattle.cbor_model.proofs.reader.FirstBytes.{begun, front_begins}
use Rattle.cbor_model.proofs.reader.Majors.{each_major}
use Rattle.cbor_model.proofs.reader.FoundParts.{MayBeKey, IsItem, AreItems, ArePairs, IsPair, Ended, Finds, FindsInside}
use Rattle.cbor_model.proofs.reader.FoundParts.{two_parts, behind_head, behind_first, both_join, whole_head, chunks_found, parts_found}

module _ {Item Items Pairs : Type 0} (m : Reading Item Items Pairs) (none_fits : m.exceeds 0 ≡ false) where
  -- an item, and those after it
  item_added : (levels n : ℕ) (bs more rest : List ℕ) (first : Item) (others : Items)
      → IsItem m levels bs (first, more) → AreItems m levels n more (others, rest)
      → AreItems m levels (suc n) bs (m.item first others, rest)
  unfolding spell made
  item_added levels n bs more rest first others one all = record {
    items = raw.raw one.item all.items;
    made_is = ap (λ (i : Item). m.item i (made_all m all.items)) one.made_is ∙ ap (m.item first) all.made_is;
    parts = two_parts bs (spell one.item) more (spell_all all.items) rest one.parts all.parts;
    count_is = ap suc all.count_is;
    fits = (one.fits, all.fits);
    nests = omega (arith, one.nests, all.nests);
    texts = (one.texts, all.texts);
    keys = (one.keys, all.keys);
    joins = both_join m.exceeds (longest_joined one.item) (longest_joined_all all.items) one.joins all.joins;
    rest_fits = all.rest_fits;
  }

  -- a pair, and those after it
  pair_added : (levels n : ℕ) (bs at_value more rest : List ℕ) (k v : Item) (others : Pairs)
      → (key : IsItem m levels bs (k, at_value)) → MayBeKey m key.item → IsItem m levels at_value (v, more)
      → ArePairs m levels n more (others, rest)
      → ArePairs m levels (suc n) bs (m.pair k v others, rest)
  unfolding spell made
  pair_added levels n bs at_value more rest k v others key allowed val all = record {
    pairs = raw_pair key.item val.item all.pairs;
    made_is = ap (λ (i : Item). m.pair i (made m val.item) (made_pairs m all.pairs)) key.made_is ∙ ap (λ (i : Item). m.pair k i (made_pairs m all.pairs)) val.made_is ∙ ap (m.pair k v) all.made_is;
    parts = two_parts bs (spell key.item) at_value (spell val.item ++ spell_pairs all.pairs) rest key.parts (two_parts at_value (spell val.item) more (spell_pairs all.pairs) rest val.parts all.parts);
    count_is = ap suc all.count_is;
    fits = (key.fits, val.fits, all.fits);
    nests = omega (arith, key.nests, val.nests, all.nests);
    texts = (key.texts, val.texts, all.texts);
    keys = (allowed, key.keys, val.keys, all.keys);
    joins =
        both_join m.exceeds (max (longest_joined key.item) (longest_joined val.item)) (longest_joined_pairs all.pairs)
        (both_join m.exceeds (longest_joined key.item) (longest_joined val.item) key.joins val.joins)
        all.joins;
    rest_fits = all.rest_fits;
  }

  -- parts, of which so many are read, or those up to the break
  pub pair_found : (p : List ℕ → Reads Item) (levels : ℕ) → Finds m p levels
      → (bs : List ℕ) (x : (Item × Item) × List ℕ) → AreBytes bs → pair_at m.allows p bs ≡ Ok x
      → IsPair m levels bs x
  unfolding pair_at
  pair_found p levels finds bs x fits is =
      let a = bind_ok (key_at m.allows p bs) (λ k. p k.1 >>= λ v. Ok ((k.0, v.0), v.1)) x is in
      let b = bind_ok (p a.0.1) (λ v. Ok ((a.0.0, v.0), v.1)) x a.2 in
      let read = key_read m.allows p bs a.0 a.1 in
      let key = finds bs a.0 fits read.1 in
      let allowed = front_begins m.allows bs (spell key.item) a.0.1 (begun key.item key.fits) key.parts read.0 in
      let val = finds a.0.1 b.0 key.rest_fits b.1 in
      read_as (IsPair m levels bs) ((a.0.0, b.0.0), b.0.1) x b.2 (record { at_value = a.0.1; key = key; allowed = allowed; value = val })

  -- ---- what stands after a head

  -- the content of an item of this head
  abbrev IsContent : ℕ → ℕ → HeadWidth → ℕ → List ℕ → Item × List ℕ → Type 0
  IsContent levels major w n bs x = IsItem m levels (head major w n ++ bs) x

  string_found : (levels : ℕ) (w : HeadWidth) (n : ℕ) (bs : List ℕ) (x : Item × List ℕ)
      → AreBytes bs → n < limit w → string_at m w n bs ≡ Ok x → IsContent levels 2 w n bs x
  unfolding string_at spell made
  string_found levels w n bs x fits small is =
      let step = bind_ok (bytes_at n bs) (λ b. Ok (m.bytes (record { width = w; bytes = b.0 }), b.1)) x is in
      let b = step.0 in
      let got = bytes_found n bs b fits step.1 in
      let long : length b.0 ≡ n = got.long in
      read_as (IsContent levels 2 w n bs) (m.bytes (record { width = w; bytes = b.0 }), b.1) x step.2 (record {
        item = raw.bytes (record { width = w; bytes = b.0 });
        made_is = refl;
        parts = behind_head 2 w n (length b.0) bs b.0 b.1 got.parts long;
        fits = (omega (arith, long, small), got.fits);
        nests = omega arith;
        texts = tt;
        keys = tt;
        joins = none_fits;
        rest_fits = got.rest_fits;
      })

  text_found : (levels : ℕ) (w : HeadWidth) (n : ℕ) (bs : List ℕ) (x : Item × List ℕ) → AreBytes bs
      → n < limit w → text_at m w n bs ≡ Ok x → IsContent levels 3 w n bs x
  unfolding text_at checked_text spell made
  text_found levels w n bs x fits small is =
      elim (chosen (m.has_room (length bs) n) _ _ _ is) [
        | inr out ↦ not_ok (before length_out_of_range bs) x out.1
        | inl room ↦
            let step = bind_ok (bytes_at n bs) (λ b. checked_text m (m.text (record { width = w; bytes = b.0 })) b.0 b.1) x room.1 in
            let b = step.0 in
            let got = bytes_found n bs b fits step.1 in
            let long : length b.0 ≡ n = got.long in
            elim (chosen (m.is_text b.0) _ _ _ step.2) [
              | inr other ↦ not_ok _ x other.1
              | inl passes ↦ read_as (IsContent levels 3 w n bs) (m.text (record { width = w; bytes = b.0 }), b.1) x passes.1 (record {
                item = raw.text (record { width = w; bytes = b.0 });
                made_is = refl;
                parts = behind_head 3 w n (length b.0) bs b.0 b.1 got.parts long;
                fits = (omega (arith, long, small), got.fits);
                nests = omega arith;
                texts = passes.0;
                keys = tt;
                joins = none_fits;
                rest_fits = got.rest_fits;
              })
            ]
      ]

  -- the items of an array, and the pairs of a map
  items_found : (p : List ℕ → Reads Item) (levels : ℕ) → Finds m p levels
      → (remaining : Remaining) (bs : List ℕ) (x : Items × List ℕ) → AreBytes bs
      → parts_at (items_of m p) remaining bs ≡ Ok x → Ended (AreItems m levels) remaining bs x
  unfolding spell made
  items_found p levels finds remaining bs x fits is =
      parts_found (items_of m p) (IsItem m levels) (AreItems m levels) (λ bs x one. one.rest_fits) finds
      (λ bs fits. record { items = no_raws; made_is = refl; parts = refl; count_is = refl; fits = tt; nests = omega arith; texts = tt; keys = tt; joins = none_fits; rest_fits = fits })
      (λ n bs more rest first others one all. item_added levels n bs more rest first others one all)
      (suc (length bs)) remaining bs x fits is

  pairs_found : (p : List ℕ → Reads Item) (levels : ℕ) → Finds m p levels
      → (remaining : Remaining) (bs : List ℕ) (x : Pairs × List ℕ) → AreBytes bs
      → parts_at (pairs_of m p) remaining bs ≡ Ok x → Ended (ArePairs m levels) remaining bs x
  unfolding spell made
  pairs_found p levels finds remaining bs x fits is =
      parts_found (pairs_of m p) (IsPair m levels) (ArePairs m levels) (λ bs x one. one.value.rest_fits) (pair_found p levels finds)
      (λ bs fits. record { pairs = no_raw_pairs; made_is = refl; parts = refl; count_is = refl; fits = tt; nests = omega arith; texts = tt; keys = tt; joins = none_fits; rest_fits = fits })
      (λ n bs more rest first others one all. pair_added levels n bs one.at_value more rest first.0 first.1 others one.key one.allowed one.value all)
      (suc (length bs)) remaining bs x fits is

  array_found : (inner : Option (List ℕ → Reads Item)) (levels : ℕ) → FindsInside m inner levels
      → (w : HeadWidth) (n : ℕ) (bs : List ℕ) (x : Item × List ℕ) → AreBytes bs → n < limit w
      → array_at m inner (definite w) (counted n) bs ≡ Ok x → IsContent levels 4 w n bs x
  unfolding array_at spell made
  array_found None levels finds w n bs x fits small is = not_ok (before too_deep bs) x is
  array_found (Some p) levels finds w n bs x fits small is =
      let step = bind_ok (parts_at (items_of m p) (counted n) bs) (λ items. Ok (m.array (definite w) items.0, items.1)) x is in
      let got = items_found p finds.0 finds.2 (counted n) bs step.0 fits step.1 in
      let many : count got.items ≡ n = got.count_is in
      let rest = step.0.1 in
      read_as (IsContent levels 4 w n bs) (m.array (definite w) step.0.0, rest) x step.2 (record {
        item = raw.array (definite w) got.items;
        made_is = ap (m.array (definite w)) got.made_is;
        parts = behind_head 4 w n (count got.items) bs (spell_all got.items) rest got.parts many;
        fits = (omega (arith, many, small), got.fits);
        nests = omega (arith, got.nests, finds.1);
        texts = got.texts;
        keys = got.keys;
        joins = got.joins;
        rest_fits = got.rest_fits;
      })

  map_found : (inner : Option (List ℕ → Reads Item)) (levels : ℕ) → FindsInside m inner levels
      → (w : HeadWidth) (n : ℕ) (bs : List ℕ) (x : Item × List ℕ) → AreBytes bs → n < limit w
      → map_at m inner (definite w) (counted n) bs ≡ Ok x → IsContent levels 5 w n bs x
  unfolding map_at spell made
  map_found None levels finds w n bs x fits small is = not_ok (before too_deep bs) x is
  map_found (Some p) levels finds w n bs x fits small is =
      let step = bind_ok (parts_at (pairs_of m p) (counted n) bs) (λ pairs. Ok (m.map (definite w) pairs.0, pairs.1)) x is in
      let got = pairs_found p finds.0 finds.2 (counted n) bs step.0 fits step.1 in
      let many : pair_count got.pairs ≡ n = got.count_is in
      let rest = step.0.1 in
      read_as (IsContent levels 5 w n bs) (m.map (definite w) step.0.0, rest) x step.2 (record {
        item = raw.map (definite w) got.pairs;
        made_is = ap (m.map (definite w)) got.made_is;
        parts = behind_head 5 w n (pair_count got.pairs) bs (spell_pairs got.pairs) rest got.parts many;
        fits = (omega (arith, many, small), got.fits);
        nests = omega (arith, got.nests, finds.1);
        texts = got.texts;
        keys = got.keys;
        joins = got.joins;
        rest_fits = got.rest_fits;
      })

  tag_found : (inner : Option (List ℕ → Reads Item)) (levels : ℕ) → FindsInside m inner levels
      → (w : HeadWidth) (n : ℕ) (bs : List ℕ) (x : Item × List ℕ) → AreBytes bs → n < limit w
      → tag_at m inner w n bs ≡ Ok x → IsContent levels 6 w n bs x
  unfolding tag_at spell made
  tag_found None levels finds w n bs x fits small is = not_ok (before too_deep bs) x is
  tag_found (Some p) levels finds w n bs x fits small is =
      let step = bind_ok (p bs) (λ item. Ok (m.tag w n item.0, item.1)) x is in
      let got = finds.2 bs step.0 fits step.1 in
      let rest = step.0.1 in
      read_as (IsContent levels 6 w n bs) (m.tag w n step.0.0, rest) x step.2 (record {
        item = raw.tag w n got.item;
        made_is = ap (m.tag w n) got.made_is;
        parts = behind_head 6 w n n bs (spell got.item) rest got.parts refl;
        fits = (small, got.fits);
        nests = omega (arith, got.nests, finds.1);
        texts = got.texts;
        keys = got.keys;
        joins = got.joins;
        rest_fits = got.rest_fits;
      })

  -- ---- indefinite lengths

  -- an item whose first byte says this major type and no width
  abbrev IsIndefinite : ℕ → ℕ → List ℕ → Item × List ℕ → Type 0
  IsIndefinite levels major bs x = IsItem m levels ((32 * major + 31) ∷ bs) x

  string_chunks_found : (levels : ℕ) (bs : List ℕ) (x : Item × List ℕ) → AreBytes bs
      → string_chunks_at m bs ≡ Ok x → IsIndefinite levels 2 bs x
  unfolding string_chunks_at spell made
  string_chunks_found levels bs x fits is =
      let step = bind_ok (chunks_at m.exceeds 0 2 bs) (λ cs. Ok (m.bytes_chunks cs.0, cs.1)) x is in
      let cs = step.0 in
      let got = chunks_found m.exceeds 0 2 (suc (length bs)) bs cs none_fits fits step.1 in
      let all : length (joined cs.0) ≡ 0 + length (joined cs.0) = omega arith in
      read_as (IsIndefinite levels 2 bs) (m.bytes_chunks cs.0, cs.1) x step.2 (record {
        item = raw.bytes_chunks cs.0;
        made_is = refl;
        parts = behind_first 0x5f bs (flat_map (chunk 2) cs.0) cs.1 got.parts;
        fits = got.fits;
        nests = omega arith;
        texts = tt;
        keys = tt;
        joins = ap m.exceeds all ∙ got.joins;
        rest_fits = got.rest_fits;
      })

  text_chunks_found : (levels : ℕ) (bs : List ℕ) (x : Item × List ℕ) → AreBytes bs
      → text_chunks_at m bs ≡ Ok x → IsIndefinite levels 3 bs x
  unfolding text_chunks_at checked_text spell made
  text_chunks_found levels bs x fits is =
      let step = bind_ok (chunks_at m.exceeds 0 3 bs) (λ cs. checked_text m (m.text_chunks cs.0) (joined cs.0) cs.1) x is in
      let cs = step.0 in
      let got = chunks_found m.exceeds 0 3 (suc (length bs)) bs cs none_fits fits step.1 in
      let all : length (joined cs.0) ≡ 0 + length (joined cs.0) = omega arith in
      elim (chosen (m.is_text (joined cs.0)) _ _ _ step.2) [
        | inr other ↦ not_ok _ x other.1
        | inl passes ↦ read_as (IsIndefinite levels 3 bs) (m.text_chunks cs.0, cs.1) x passes.1 (record {
          item = raw.text_chunks cs.0;
          made_is = refl;
          parts = behind_first 0x7f bs (flat_map (chunk 3) cs.0) cs.1 got.parts;
          fits = got.fits;
          nests = omega arith;
          texts = passes.0;
          keys = tt;
          joins = ap m.exceeds all ∙ got.joins;
          rest_fits = got.rest_fits;
        })
      ]

  indefinite_array_found : (inner : Option (List ℕ → Reads Item)) (levels : ℕ)
      → FindsInside m inner levels → (bs : List ℕ) (x : Item × List ℕ) → AreBytes bs
      → array_at m inner indefinite to_break bs ≡ Ok x → IsIndefinite levels 4 bs x
  unfolding array_at spell made
  indefinite_array_found None levels finds bs x fits is = not_ok (before too_deep bs) x is
  indefinite_array_found (Some p) levels finds bs x fits is =
      let step = bind_ok (parts_at (items_of m p) to_break bs) (λ items. Ok (m.array indefinite items.0, items.1)) x is in
      let got = (items_found p finds.0 finds.2 to_break bs step.0 fits step.1).1 in
      let rest = step.0.1 in
      read_as (IsIndefinite levels 4 bs) (m.array indefinite step.0.0, rest) x step.2 (record {
        item = raw.array indefinite got.items;
        made_is = ap (m.array indefinite) got.made_is;
        parts = behind_first 0x9f bs (spell_all got.items) rest got.parts;
        fits = (tt, got.fits);
        nests = omega (arith, got.nests, finds.1);
        texts = got.texts;
        keys = got.keys;
        joins = got.joins;
        rest_fits = AreBytes-rest 0xff rest got.rest_fits;
      })

  indefinite_map_found : (inner : Option (List ℕ → Reads Item)) (levels : ℕ)
      → FindsInside m inner levels → (bs : List ℕ) (x : Item × List ℕ) → AreBytes bs
      → map_at m inner indefinite to_break bs ≡ Ok x → IsIndefinite levels 5 bs x
  unfolding map_at spell made
  indefinite_map_found None levels finds bs x fits is = not_ok (before too_deep bs) x is
  indefinite_map_found (Some p) levels finds bs x fits is =
      let step = bind_ok (parts_at (pairs_of m p) to_break bs) (λ pairs. Ok (m.map indefinite pairs.0, pairs.1)) x is in
      let got = (pairs_found p finds.0 finds.2 to_break bs step.0 fits step.1).1 in
      let rest = step.0.1 in
      read_as (IsIndefinite levels 5 bs) (m.map indefinite step.0.0, rest) x step.2 (record {
        item = raw.map indefinite got.pairs;
        made_is = ap (m.map indefinite) got.made_is;
        parts = behind_first 0xbf bs (spell_pairs got.pairs) rest got.parts;
        fits = (tt, got.fits);
        nests = omega (arith, got.nests, finds.1);
        texts = got.texts;
        keys = got.keys;
        joins = got.joins;
        rest_fits = AreBytes-rest 0xff rest got.rest_fits;
      })

  -- ---- simple values and floats

  -- an item of major type 7, by its lower five bits
  abbrev IsSpecial : ℕ → ℕ → List ℕ → Item × List ℕ → Type 0
  IsSpecial levels low bs x = IsItem m levels ((32 * 7 + low) ∷ bs) x

  -- a float of one width
  one_float : (f : FloatWidth) (w : Width) (levels low : ℕ) → IsWide w (float_limit f)
      → ((n : ℕ) → float_spelling f n ≡ (224 + low) ∷ to_be_bytes w n)
      → (bs : List ℕ) (x : Item × List ℕ) → AreBytes bs
      → (number_at w bs >>= (λ n. Ok (m.float f n.0, n.1))) ≡ Ok x → IsSpecial levels low bs x
  unfolding spell made
  one_float f w levels low wide spelled bs x fits is =
      let step = bind_ok (number_at w bs) (λ n. Ok (m.float f n.0, n.1)) x is in
      let n = step.0.0 in
      let rest = step.0.1 in
      let got = number_found w (float_limit f) wide bs step.0 fits step.1 in
      read_as (IsSpecial levels low bs) (m.float f n, rest) x step.2 (record {
        item = raw.float f n;
        made_is = refl;
        parts = ap (λ (t : List ℕ). (224 + low) ∷ t) got.parts
            ∙ ap (λ (t : List ℕ). t ++ rest) (sym (spelled n));
        fits = got.fits;
        nests = omega arith;
        texts = tt;
        keys = tt;
        joins = none_fits;
        rest_fits = got.rest_fits;
      })

  float_found : (levels low : ℕ) (bs : List ℕ) (x : Item × List ℕ)
      → AreBytes bs → float_at m low bs ≡ Ok x → IsSpecial levels low bs x
  unfolding float_at
  float_found levels low bs x fits is =
      at_number P low 25 _ _ _ is (one_float half w16 levels 25 wide16 (λ n. refl) bs x fits) (λ not_25 is.
      at_number P low 26 _ _ _ is (one_float single w32 levels 26 wide32 (λ n. refl) bs x fits) (λ not_26 is.
      at_number P low 27 _ _ _ is (one_float double w64 levels 27 wide64 (λ n. refl) bs x fits)
      (λ not_27 none. not_ok _ x none)))
    where
      P : ℕ → Type 0
      P low = IsSpecial levels low bs x

  one_simple : (s : Simple) (levels low : ℕ) → simple_byte s ≡ 224 + low
      → (bs : List ℕ) (x : Item × List ℕ) → AreBytes bs
      → done (m.simple s, bs) ≡ Ok x → IsSpecial levels low bs x
  unfolding spell made
  one_simple s levels low spelled bs x fits is =
      read_as (IsSpecial levels low bs) (m.simple s, bs) x is (record {
        item = raw.simple s;
        made_is = refl;
        parts = ap (λ (b : ℕ). b ∷ bs) (sym spelled);
        fits = tt;
        nests = omega arith;
        texts = tt;
        keys = tt;
        joins = none_fits;
        rest_fits = fits;
      })

  simple_found : (levels low : ℕ) (bs : List ℕ) (x : Item × List ℕ)
      → AreBytes bs → simple_at m low bs ≡ Ok x → IsSpecial levels low bs x
  unfolding simple_at
  simple_found levels low bs x fits is =
      at_number P low 20 _ _ _ is (one_simple false_item levels 20 refl bs x fits) (λ not_20 is.
      at_number P low 21 _ _ _ is (one_simple true_item levels 21 refl bs x fits) (λ not_21 is.
      at_number P low 22 _ _ _ is (one_simple null_item levels 22 refl bs x fits) (λ not_22 is.
      at_number P low 23 _ _ _ is (one_simple undefined_item levels 23 refl bs x fits)
      (λ not_23. float_found levels low bs x fits))))
    where
      P : ℕ → Type 0
      P low = IsSpecial levels low bs x

  -- ---- items

  unsigned_found : (levels : ℕ) (w : HeadWidth) (n : ℕ) (bs : List ℕ) (x : Item × List ℕ)
      → AreBytes bs → n < limit w → done (m.unsigned w n, bs) ≡ Ok x → IsContent levels 0 w n bs x
  unfolding spell made
  unsigned_found levels w n bs x fits small is =
      read_as (IsContent levels 0 w n bs) (m.unsigned w n, bs) x is (record {
        item = raw.unsigned w n;
        made_is = refl;
        parts = refl;
        fits = small;
        nests = omega arith;
        texts = tt;
        keys = tt;
        joins = none_fits;
        rest_fits = fits;
      })

  negative_found : (levels : ℕ) (w : HeadWidth) (n : ℕ) (bs : List ℕ) (x : Item × List ℕ)
      → AreBytes bs → n < limit w → done (m.negative w n, bs) ≡ Ok x → IsContent levels 1 w n bs x
  unfolding spell made
  negative_found levels w n bs x fits small is =
      read_as (IsContent levels 1 w n bs) (m.negative w n, bs) x is (record {
        item = raw.negative w n;
        made_is = refl;
        parts = refl;
        fits = small;
        nests = omega arith;
        texts = tt;
        keys = tt;
        joins = none_fits;
        rest_fits = fits;
      })

  -- a number, and what is found after it
  numbered_found : (levels major low : ℕ) (read : HeadWidth → ℕ → List ℕ → Reads Item)
      → ((w : HeadWidth) (n : ℕ) (bs : List ℕ) (x : Item × List ℕ) → AreBytes bs → n < limit w
      → read w n bs ≡ Ok x → IsContent levels major w n bs x)
      → (bs : List ℕ) (x : Item × List ℕ) → AreBytes bs → with_number read low bs ≡ Ok x
      → IsItem m levels ((32 * major + low) ∷ bs) x
  numbered_found levels major low read each bs x fits is =
      let w = width_of low in
      let step = bind_ok (number_behind low bs) (λ n. read w n.0 n.1) x is in
      let got = number_behind_found low bs step.0 fits step.1 in
      subst (λ (t : List ℕ). IsItem m levels t x) (sym (whole_head major low step.0.0 w bs step.0.1 got.is_low got.parts))
      (each w step.0.0 step.0.1 x got.rest_fits got.fits step.2)

  -- a length, and what is found after it, or after none
  length_found : (levels major low : ℕ) (read : HeadWidth → ℕ → List ℕ → Reads Item)
      (others : List ℕ → Reads Item)
      → ((w : HeadWidth) (n : ℕ) (bs : List ℕ) (x : Item × List ℕ) → AreBytes bs → n < limit w
      → read w n bs ≡ Ok x → IsContent levels major w n bs x)
      → ((bs : List ℕ) (x : Item × List ℕ) → AreBytes bs → others bs ≡ Ok x
      → IsIndefinite levels major bs x)
      → (bs : List ℕ) (x : Item × List ℕ) → AreBytes bs → with_length read others low bs ≡ Ok x
      → IsItem m levels ((32 * major + low) ∷ bs) x
  length_found levels major low read others each none bs x fits is =
      at_number (λ low. IsItem m levels ((32 * major + low) ∷ bs) x) low 31 _ _ _ is (none bs x fits)
      (λ not_31. numbered_found levels major low read each bs x fits)

  content_found : (inner : Option (List ℕ → Reads Item)) (levels : ℕ)
      → FindsInside m inner levels → (major low : ℕ) (bs : List ℕ) (x : Item × List ℕ)
      → AreBytes bs → major < 8 → content_at m inner (major_of major) low bs ≡ Ok x
      → IsItem m levels ((32 * major + low) ∷ bs) x
  unfolding content_at
  content_found inner levels finds major low bs x fits =
      each_major (λ k t. content_at m inner t low bs ≡ Ok x → IsItem m levels ((32 * k + low) ∷ bs) x)
      (numbered_found levels 0 low (λ w n bs. Ok (m.unsigned w n, bs)) (unsigned_found levels) bs x fits)
      (numbered_found levels 1 low (λ w n bs. Ok (m.negative w n, bs)) (negative_found levels) bs x fits)
      (length_found levels 2 low (string_at m) (string_chunks_at m) (string_found levels) (string_chunks_found levels) bs x fits)
      (length_found levels 3 low (text_at m) (text_chunks_at m) (text_found levels) (text_chunks_found levels) bs x fits)
      (length_found levels 4 low (λ w n. array_at m inner (definite w) (counted n)) (array_at m inner indefinite to_break)
      (array_found inner levels finds) (indefinite_array_found inner levels finds) bs x fits)
      (length_found levels 5 low (λ w n. map_at m inner (definite w) (counted n)) (map_at m inner indefinite to_break)
      (map_found inner levels finds) (indefinite_map_found inner levels finds) bs x fits)
      (numbered_found levels 6 low (tag_at m inner) (tag_found inner levels finds) bs x fits)
      (simple_found levels low bs x fits)
      major

  after_first_found : (inner : Option (List ℕ → Reads Item)) (levels : ℕ)
      → FindsInside m inner levels → (b : ℕ) (bs : List ℕ) (x : Item × List ℕ) → AreBytes (b ∷ bs)
      → after_first m inner b bs ≡ Ok x → IsItem m levels (b ∷ bs) x
  unfolding after_first
  after_first_found inner levels finds b bs x fits is =
      let below : b / 32 < 8 = omega (arith, fits 0) in
      subst (λ (c : ℕ). IsItem m levels (c ∷ bs) x) (sym (first_is b))
      (content_found inner levels finds (b / 32) (b % 32) bs x (AreBytes-rest b bs fits) below is)

  item_found : (inner : Option (List ℕ → Reads Item)) (levels : ℕ) → FindsInside m inner levels
      → Finds m (item_by m inner) levels
  unfolding item_by byte_at
  item_found inner levels finds [] x fits is = not_ok ended x is
  item_found inner levels finds (b ∷ bs) x fits is = after_first_found inner levels finds b bs x fits is

  -- what the reader reads is spelled so, whatever is made of it
  pub found : (levels : ℕ) → Finds m (item_at m levels) levels
  unfolding item_at
  found zero = item_found None zero tt
  found (suc levels) = item_found (Some (item_at m levels)) (suc levels) (levels, omega arith, found levels)
