-- An item is read whatever formats its keys are of, and as the same, where it is read in some; and but
-- for the rule of keys the same fault stops it.
use Rattle.std.specs.Prelude.{⊤}
use Rattle.std.proofs.Common.{◌≡◌, ◌≢◌, ◌∙◌, ◌/◌, ◌%◌, ℕ, zero, suc, Bool, true, false, cond, eqb, List, [], ◌∷◌, length, Option, Some, None, Ok, Err, refl, sym, ap, subst}
use Rattle.cbor_model.specs.Formats.{Formats, all_formats, may_begin_key}
use Rattle.cbor_model.specs.Head.{HeadWidth}
use Rattle.cbor_model.specs.Major.{Major, major_of, unsigned, negative, bytes, text, array, map, tag, simple}
use Rattle.cbor_model.specs.Plain.{Val, Vals, Pairs}
use Rattle.cbor_model.specs.Raw.{Raw, Length, definite, indefinite}
use Rattle.cbor_model.specs.Refusal.{Refusal, end_in_array, end_in_map, wrong_struct_format}
use Rattle.cbor_model.specs.Value.{value}
use Rattle.cbor_model.specs.Reader.{Fault, Reads, Reading, Remaining, ◌>>=◌, after_first, array_at, before, byte_at, checked_text, content_at, float_at, go_on, item_at, item_by, items_of, key_at, map_at, next_at, number_behind, pair_at, pairs_of, parts_at, parts_by, simple_at, string_at, string_chunks_at, tag_at, text_at, text_chunks_at, width_of}
use Rattle.cbor_model.specs.Reader as reader
use Rattle.cbor_decode.specs.Gives.{Limits, values}
use Rattle.cbor_decode.proofs.facts.Readings.{along, value_seen}
use Rattle.cbor_decode_as.specs.Takes.{any_item, raws}
use Rattle.cbor_decode_as.proofs.heads.AnyItems.{all_begin}

-- not stopped by the rule of keys
abbrev pub BreaksNoRule : {A : Type 0} → Reads A → Type 0
BreaksNoRule (Ok x) = ⊤
BreaksNoRule (Err d) = d.why ≢ wrong_struct_format

-- What isn't stopped by that rule is read by the other reading too.
abbrev Same : {A : Type 0} → Reads A → Reads A → Type 0
Same read other = BreaksNoRule read → other ≡ read

same_then : {A B : Type 0} (read other : Reads A) (next next' : A × List ℕ → Reads B) → Same read other → ((x : A × List ℕ) → Same (next x) (next' x)) → Same (read >>= next) (other >>= next')
same_then (Ok x) other next next' h on kept = rw (h tt) (on x kept)
same_then (Err d) other next next' h on kept = rw (h kept) refl

-- ---- parts

module _ {Part Whole : Type 0} (ends : Refusal) (none : Whole) (add : Part → Whole → Whole) (part part' : List ℕ → Reads Part) (each : (bs : List ℕ) → Same (part bs) (part' bs)) where
  abbrev ps : reader.Parts Part Whole
  ps = record { ends = ends; part = part; none = none; add = add }

  abbrev qs : reader.Parts Part Whole
  qs = record { ends = ends; part = part'; none = none; add = add }

  gone_on : (others others' : Remaining → List ℕ → Reads Whole) → ((r : Remaining) (bs : List ℕ) → Same (others r bs) (others' r bs)) → (next : Option Remaining) (bs : List ℕ) → Same (go_on ps others next bs) (go_on qs others' next bs)
  gone_on others others' same None bs = λ kept. refl
  gone_on others others' same (Some r) bs =
      same_then (part bs) (part' bs) (λ first. others r first.1 >>= (λ rest. Ok (add first.0 rest.0, rest.1))) (λ first. others' r first.1 >>= (λ rest. Ok (add first.0 rest.0, rest.1))) (each bs)
      (λ first. same_then (others r first.1) (others' r first.1) (λ rest. Ok (add first.0 rest.0, rest.1)) (λ rest. Ok (add first.0 rest.0, rest.1)) (same r first.1) (λ rest kept. refl))

  same_parts : (fuel : ℕ) (remaining : Remaining) (bs : List ℕ) → Same (parts_by ps fuel remaining bs) (parts_by qs fuel remaining bs)
  unfolding parts_by
  same_parts zero remaining bs = λ kept. refl
  same_parts (suc fuel) remaining bs =
      same_then (next_at ends remaining bs) (next_at ends remaining bs) (λ next. go_on ps (parts_by ps fuel) next.0 next.1) (λ next. go_on qs (parts_by qs fuel) next.0 next.1) (λ kept. refl)
      (λ next. gone_on (parts_by ps fuel) (parts_by qs fuel) (same_parts fuel) next.0 next.1)

module _ (f : Formats) where
  same_key : (p p' : List ℕ → Reads Val) → ((bs : List ℕ) → Same (p bs) (p' bs)) → (bs : List ℕ) → Same (key_at (may_begin_key f) p bs) (key_at (may_begin_key all_formats) p' bs)
  unfolding key_at
  same_key p p' inner [] = λ kept. refl
  same_key p p' inner (b ∷ bs) = by (may_begin_key f b)
    where
      by : (may : Bool) → Same (cond may (p (b ∷ bs)) (Err (before wrong_struct_format (b ∷ bs)))) (cond (may_begin_key all_formats b) (p' (b ∷ bs)) (Err (before wrong_struct_format (b ∷ bs))))
      by true kept = rw (all_begin b) (inner (b ∷ bs) kept)
      by false kept = absurd (kept refl)

  same_pair : (p p' : List ℕ → Reads Val) → ((bs : List ℕ) → Same (p bs) (p' bs)) → (bs : List ℕ) → Same (pair_at (may_begin_key f) p bs) (pair_at (may_begin_key all_formats) p' bs)
  unfolding pair_at
  same_pair p p' inner bs =
      same_then (key_at (may_begin_key f) p bs) (key_at (may_begin_key all_formats) p' bs) (λ k. p k.1 >>= (λ v. Ok ((k.0, v.0), v.1))) (λ k. p' k.1 >>= (λ v. Ok ((k.0, v.0), v.1))) (same_key p p' inner bs)
      (λ k. same_then (p k.1) (p' k.1) (λ v. Ok ((k.0, v.0), v.1)) (λ v. Ok ((k.0, v.0), v.1)) (inner k.1) (λ v kept. refl))

  -- ---- items

  module _ (l : Limits) where
    abbrev m : Reading Val Vals (Pairs → Pairs)
    m = values f l

    abbrev n : Reading Val Vals (Pairs → Pairs)
    n = values all_formats l

    -- what lies one level further in
    abbrev SameInside : Option (List ℕ → Reads Val) → Option (List ℕ → Reads Val) → Type 0
    SameInside None None = ⊤
    SameInside None (Some q) = ⊥
    SameInside (Some p) None = ⊥
    SameInside (Some p) (Some q) = (bs : List ℕ) → Same (p bs) (q bs)

    same_array : (i j : Option (List ℕ → Reads Val)) → SameInside i j → (len : Length) (r : Remaining) (bs : List ℕ) → Same (array_at m i len r bs) (array_at n j len r bs)
    unfolding array_at
    same_array None None h len r bs = λ kept. refl
    same_array None (Some q) h len r bs = λ kept. absurd h
    same_array (Some p) None h len r bs = λ kept. absurd h
    same_array (Some p) (Some q) h len r bs =
        same_then (parts_at (items_of m p) r bs) (parts_at (items_of n q) r bs) (λ x. Ok (m.array len x.0, x.1)) (λ x. Ok (n.array len x.0, x.1)) (same_parts end_in_array m.no_items m.item p q h (suc (length bs)) r bs) (λ x kept. refl)

    same_map : (i j : Option (List ℕ → Reads Val)) → SameInside i j → (len : Length) (r : Remaining) (bs : List ℕ) → Same (map_at m i len r bs) (map_at n j len r bs)
    unfolding map_at
    same_map None None h len r bs = λ kept. refl
    same_map None (Some q) h len r bs = λ kept. absurd h
    same_map (Some p) None h len r bs = λ kept. absurd h
    same_map (Some p) (Some q) h len r bs =
        same_then (parts_at (pairs_of m p) r bs) (parts_at (pairs_of n q) r bs) (λ x. Ok (m.map len x.0, x.1)) (λ x. Ok (n.map len x.0, x.1))
        (same_parts end_in_map m.no_pairs (λ (kv : Val × Val) others. m.pair kv.0 kv.1 others) (pair_at (may_begin_key f) p) (pair_at (may_begin_key all_formats) q) (same_pair p q h) (suc (length bs)) r bs) (λ x kept. refl)

    same_tag : (i j : Option (List ℕ → Reads Val)) → SameInside i j → (w : HeadWidth) (k : ℕ) (bs : List ℕ) → Same (tag_at m i w k bs) (tag_at n j w k bs)
    unfolding tag_at
    same_tag None None h w k bs = λ kept. refl
    same_tag None (Some q) h w k bs = λ kept. absurd h
    same_tag (Some p) None h w k bs = λ kept. absurd h
    same_tag (Some p) (Some q) h w k bs = same_then (p bs) (q bs) (λ x. Ok (m.tag w k x.0, x.1)) (λ x. Ok (n.tag w k x.0, x.1)) (h bs) (λ x kept. refl)

    -- a length, or none
    same_length : (low : ℕ) (bs : List ℕ) (sized sized' : HeadWidth → ℕ → List ℕ → Reads Val) (others others' : List ℕ → Reads Val) → ((w : HeadWidth) (k : ℕ) (rest : List ℕ) → Same (sized w k rest) (sized' w k rest)) → Same (others bs) (others' bs)
        → Same (reader.with_length sized others low bs) (reader.with_length sized' others' low bs)
    same_length low bs sized sized' others others' one none = by (eqb low 31)
      where
        by : (c : Bool) → Same (cond c (others bs) (number_behind low bs >>= (λ x. sized (width_of low) x.0 x.1))) (cond c (others' bs) (number_behind low bs >>= (λ x. sized' (width_of low) x.0 x.1)))
        by true = none
        by false = same_then (number_behind low bs) (number_behind low bs) (λ x. sized (width_of low) x.0 x.1) (λ x. sized' (width_of low) x.0 x.1) (λ kept. refl) (λ x. one (width_of low) x.0 x.1)

    same_content : (i j : Option (List ℕ → Reads Val)) → SameInside i j → (major : Major) (low : ℕ) (bs : List ℕ) → Same (content_at m i major low bs) (content_at n j major low bs)
    unfolding checked_text content_at float_at simple_at string_at string_chunks_at text_at text_chunks_at
    same_content i j h unsigned low bs = λ kept. refl
    same_content i j h negative low bs = λ kept. refl
    same_content i j h bytes low bs = λ kept. refl
    same_content i j h text low bs = λ kept. refl
    same_content i j h array low bs = same_length low bs (λ w k. array_at m i (definite w) (reader.counted k)) (λ w k. array_at n j (definite w) (reader.counted k)) (array_at m i indefinite reader.to_break) (array_at n j indefinite reader.to_break)
        (λ w k rest. same_array i j h (definite w) (reader.counted k) rest) (same_array i j h indefinite reader.to_break bs)
    same_content i j h map low bs = same_length low bs (λ w k. map_at m i (definite w) (reader.counted k)) (λ w k. map_at n j (definite w) (reader.counted k)) (map_at m i indefinite reader.to_break) (map_at n j indefinite reader.to_break)
        (λ w k rest. same_map i j h (definite w) (reader.counted k) rest) (same_map i j h indefinite reader.to_break bs)
    same_content i j h tag low bs = same_then (number_behind low bs) (number_behind low bs) (λ x. tag_at m i (width_of low) x.0 x.1) (λ x. tag_at n j (width_of low) x.0 x.1) (λ kept. refl) (λ x. same_tag i j h (width_of low) x.0 x.1)
    same_content i j h simple low bs = λ kept. refl

    same_by : (i j : Option (List ℕ → Reads Val)) → SameInside i j → (bs : List ℕ) → Same (item_by m i bs) (item_by n j bs)
    unfolding item_by after_first
    same_by i j h bs = same_then (byte_at bs) (byte_at bs) (λ b. after_first m i b.0 b.1) (λ b. after_first n j b.0 b.1) (λ kept. refl) (λ b. same_content i j h (major_of (b.0 / 32)) (b.0 % 32) b.1)

    same_item : (levels : ℕ) (bs : List ℕ) → Same (item_at m levels bs) (item_at n levels bs)
    unfolding item_at
    same_item zero bs = same_by None None tt bs
    same_item (suc left) bs = same_by (Some (item_at m left)) (Some (item_at n left)) (same_item left) bs

    -- what stops an item stops it whatever formats its keys are of, but for the rule of keys
    pub any_stops : (levels : ℕ) (bs : List ℕ) (d : Fault) → d.why ≢ wrong_struct_format → item_at (values f l) levels bs ≡ Err d → any_item levels l bs ≡ Err d
    any_stops levels bs d other is = same_item levels bs (subst BreaksNoRule (sym is) other) ∙ is

    -- an item that is read is read whatever formats its keys are of
    pub any_read : (levels : ℕ) (bs rest : List ℕ) (r : Raw) → item_at (raws f l) levels bs ≡ Ok (r, rest) → any_item levels l bs ≡ Ok (value r, rest)
    any_read levels bs rest r is =
        let seen : item_at (values f l) levels bs ≡ Ok (value r, rest) = value_seen f l levels bs ∙ ap (along value) is in
        same_item levels bs (subst BreaksNoRule (sym seen) tt) ∙ seen
