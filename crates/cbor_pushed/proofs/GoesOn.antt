-- How what is to come goes on: by an item, by a break, by none.
use Rattle.std.proofs.Common.{◌≡◌, ◌∙◌, ◌<◌, ◌-◌, ℕ, zero, suc, Bool, true, false, cond, eqb, ltb, List, [], ◌∷◌, length, Some, None, Ok, Err, refl, sym, ap, arith}
use Rattle.std.proofs.lemmas.Bool.{eqb-true}
use Rattle.cbor_model.specs.Allowed.{IsEnd}
use Rattle.cbor_model.specs.Formats.{all_formats, may_begin_key}
use Rattle.cbor_model.specs.Plain.{Val, Vals, Pairs}
use Rattle.cbor_model.specs.Refusal.{Refusal, end_in_array, end_in_map, end_in_value}
use Rattle.cbor_model.specs.Reader.{Fault, Reads, ◌>>=◌, ended, byte_at, Remaining, counted, to_break, next_at, Parts, parts_by, parts_at, key_at, pair_at, items_of, pairs_of, item_by, item_at}
use Rattle.cbor_model.proofs.facts.Reader.{taken, pair_taken, parts_by-fuel}
use Rattle.cbor_decode.specs.Heads.{passed, remaining_of}
use Rattle.cbor_decode.specs.declared.cursor.Remaining.{Remaining as Left}
use Rattle.cbor_decode.specs.declared.cursor.Remaining.TheVariants.{Counted, ToBreak}
use Rattle.cbor_pushed.specs.Rests.{reading, rest_at, is_over, ends_by, behind, fewer, none_left, is_break}
use Rattle.cbor_pushed.specs.declared.rest.Rest.{Rest}
use Rattle.cbor_pushed.specs.declared.rest.Rest.TheVariants.{Items, Pairs as InPairs, Value}

-- what is made of a value that isn't kept
pub passed_map : {A B : Type 0} (read : Reads A) (g : A → B) → passed (read >>= (λ x. Ok (g x.0, x.1))) ≡ passed read
passed_map (Ok x) g = refl
passed_map (Err d) g = refl

-- ---- parts

module _ {Part Whole : Type 0} (ps : Parts Part Whole) (takes : (bs : List ℕ) (x : Part × List ℕ) → ps.part bs ≡ Ok x → length x.1 < length bs) where
  part_then : (left : Remaining) (bs : List ℕ) (r : Reads Part) → ps.part bs ≡ r
      → passed (r >>= (λ first. parts_by ps (length bs) left first.1 >>= (λ rest. Ok (ps.add first.0 rest.0, rest.1)))) ≡ (r >>= (λ x. passed (parts_at ps left x.1)))
  part_then left bs (Ok x) is =
      let less = takes bs x is in
      let fuel = parts_by-fuel ps takes (length bs) (suc (length x.1)) left x.1 less (omega arith) in
      passed_map (parts_by ps (length bs) left x.1) (ps.add x.0) ∙ ap (λ r. passed r) fuel
  part_then left bs (Err d) is = refl

  -- one part, and then the others
  part_due : (remaining left : Remaining) (bs : List ℕ) → next_at ps.ends remaining bs ≡ Ok (Some left, bs)
      → passed (parts_at ps remaining bs) ≡ (ps.part bs >>= (λ x. passed (parts_at ps left x.1)))
  unfolding parts_by
  part_due remaining left bs next = rw next (part_then left bs (ps.part bs) refl)

  none_due : (remaining : Remaining) (bs rest : List ℕ) → next_at ps.ends remaining bs ≡ Ok (None, rest)
      → passed (parts_at ps remaining bs) ≡ Ok (tt, rest)
  unfolding parts_by
  none_due remaining bs rest next = rw next refl

  cut_due : (bs : List ℕ) (d : Fault) → next_at ps.ends to_break bs ≡ Err d → passed (parts_at ps to_break bs) ≡ Err d
  unfolding parts_by
  cut_due bs d next = rw next refl

  cut_part : (n : ℕ) (d : Fault) → ps.part [] ≡ Err d → passed (parts_at ps (counted (suc n)) []) ≡ Err d
  unfolding parts_by next_at
  cut_part n d is = rw is refl

-- ---- keys

-- with all formats each first byte may begin a key
pub all_may_begin : (b : ℕ) → may_begin_key all_formats b ≡ true
all_may_begin b = each (ltb b 28) (ltb b 96) (ltb b 124) (eqb b 127)
  where
    each : (p q r s : Bool) → cond p true (cond q true (cond r true (cond s true true))) ≡ true
    each true q r s = refl
    each false true r s = refl
    each false false true s = refl
    each false false false true = refl
    each false false false false = refl

-- a value after its key
abbrev with_key : Val → Reads Val → Reads (Val × Val)
with_key k r = r >>= (λ v. Ok ((k, v.0), v.1))

pair_then : {B : Type 0} (p : List ℕ → Reads Val) (f : List ℕ → Reads B) (r : Reads Val)
    → ((r >>= (λ k. with_key k.0 (p k.1))) >>= (λ x. f x.1)) ≡ (r >>= (λ k. p k.1 >>= (λ v. f v.1)))
pair_then p f (Ok k) = by_value (p k.1)
  where
    by_value : (r : Reads Val) → (with_key k.0 r >>= (λ x. f x.1)) ≡ (r >>= (λ v. f v.1))
    by_value (Ok v) = refl
    by_value (Err d) = refl
pair_then p f (Err d) = refl

module _ (total levels : ℕ) where
  abbrev item : List ℕ → Reads Val
  item = item_at (reading total) levels

  abbrev items : Parts Val Vals
  items = items_of (reading total) item

  abbrev pairs : Parts (Val × Val) (Pairs → Pairs)
  pairs = pairs_of (reading total) item

  no_item : item [] ≡ Err ended
  unfolding item_at item_by byte_at
  no_item = elim levels as (λ n. item_at (reading total) n [] ≡ Err ended) [ zero ↦ refl | suc n ↦ refl ]

  key : (bs : List ℕ) → key_at (reading total).allows item bs ≡ item bs
  unfolding key_at
  key [] = sym no_item
  key (b ∷ bs) = rw (all_may_begin b) refl

  pair_due : {B : Type 0} (f : List ℕ → Reads B) (bs : List ℕ) → (pairs.part bs >>= (λ x. f x.1)) ≡ (item bs >>= (λ k. item k.1 >>= (λ v. f v.1)))
  unfolding pair_at
  pair_due f bs = rw (key bs) (pair_then item f (item bs))

  no_pair : pairs.part [] ≡ Err ended
  unfolding pair_at key_at
  no_pair = refl

  items_take : (bs : List ℕ) (x : Val × List ℕ) → items.part bs ≡ Ok x → length x.1 < length bs
  items_take = taken (reading total) levels

  pairs_take : (bs : List ℕ) (x : (Val × Val) × List ℕ) → pairs.part bs ≡ Ok x → length x.1 < length bs
  pairs_take = pair_taken (may_begin_key all_formats) item (taken (reading total) levels)

  -- another part comes
  comes : (why : Refusal) (r : Left) (b : ℕ) (bs : List ℕ) → none_left r ≡ false → is_break r b ≡ false
      → next_at why (remaining_of r) (b ∷ bs) ≡ Ok (Some (remaining_of (fewer r)), b ∷ bs)
  unfolding next_at
  comes why (Counted zero) b bs some other = absurd cc
  comes why (Counted (suc n)) b bs some other = let e : suc n - 1 ≡ n = omega arith in rw e refl
  comes why ToBreak b bs some other = rw other refl

  -- one item, and then what is to come behind it
  pub item_due : (r : Rest) (b : ℕ) (bs : List ℕ) → is_over r ≡ false → ends_by r b ≡ false
      → rest_at total levels r (b ∷ bs) ≡ (item (b ∷ bs) >>= (λ x. rest_at total levels (behind r) x.1))
  unfolding rest_at
  item_due (Items r) b bs some other = part_due items items_take (remaining_of r) (remaining_of (fewer r)) (b ∷ bs) (comes end_in_array r b bs some other)
  item_due (InPairs r) b bs some other =
      part_due pairs pairs_take (remaining_of r) (remaining_of (fewer r)) (b ∷ bs) (comes end_in_map r b bs some other)
      ∙ pair_due (λ more. passed (parts_at pairs (remaining_of (fewer r)) more)) (b ∷ bs)
  item_due (Value r) b bs some other = refl

  -- the item of a tag
  pub one : (bs : List ℕ) → rest_at total levels (Items (Counted 1)) bs ≡ passed (item bs)
  unfolding rest_at next_at
  one bs = part_due items items_take (counted 1) (counted 0) bs refl ∙ by_item (item bs)
    where
      by_item : (r : Reads Val) → (r >>= (λ x. passed (parts_at items (counted 0) x.1))) ≡ passed r
      by_item (Ok x) = none_due items items_take (counted 0) x.1 x.1 refl
      by_item (Err d) = refl

  ends_counted : (why : Refusal) (r : Left) (bs : List ℕ) → none_left r ≡ true → next_at why (remaining_of r) bs ≡ Ok (None, bs)
  unfolding next_at
  ends_counted why (Counted zero) bs none = refl
  ends_counted why (Counted (suc n)) bs none = absurd (omega (arith, eqb-true (suc n) 0 none))
  ends_counted why ToBreak bs none = absurd cc

  ends_broken : (why : Refusal) (r : Left) (b : ℕ) (bs : List ℕ) → is_break r b ≡ true → next_at why (remaining_of r) (b ∷ bs) ≡ Ok (None, bs)
  unfolding next_at
  ends_broken why (Counted n) b bs is = absurd cc
  ends_broken why ToBreak b bs is = rw is refl

  -- nothing is to come
  pub over : (r : Rest) (bs : List ℕ) → is_over r ≡ true → rest_at total levels r bs ≡ Ok (tt, bs)
  unfolding rest_at
  over (Items r) bs none = none_due items items_take (remaining_of r) bs bs (ends_counted end_in_array r bs none)
  over (InPairs r) bs none = none_due pairs pairs_take (remaining_of r) bs bs (ends_counted end_in_map r bs none)
  over (Value r) bs none = absurd cc

  -- the break comes
  pub broken : (r : Rest) (b : ℕ) (bs : List ℕ) → ends_by r b ≡ true → rest_at total levels r (b ∷ bs) ≡ Ok (tt, bs)
  unfolding rest_at
  broken (Items r) b bs is = none_due items items_take (remaining_of r) (b ∷ bs) bs (ends_broken end_in_array r b bs is)
  broken (InPairs r) b bs is = none_due pairs pairs_take (remaining_of r) (b ∷ bs) bs (ends_broken end_in_map r b bs is)
  broken (Value r) b bs is = absurd cc

  -- the bytes end
  pub record Cut (r : Rest) : Type 0 where
    pub why : Refusal
    pub ends : IsEnd why
    pub stops : rest_at total levels r [] ≡ Err (record { why = why; left = 0 })

  cut_items : (r : Left) → none_left r ≡ false → Cut (Items r)
  unfolding rest_at next_at
  cut_items (Counted zero) some = absurd cc
  cut_items (Counted (suc n)) some = record { why = end_in_value; ends = tt; stops = cut_part items items_take n ended no_item }
  cut_items ToBreak some = record { why = end_in_array; ends = tt; stops = cut_due items items_take [] (record { why = end_in_array; left = 0 }) refl }

  cut_pairs : (r : Left) → none_left r ≡ false → Cut (InPairs r)
  unfolding rest_at next_at
  cut_pairs (Counted zero) some = absurd cc
  cut_pairs (Counted (suc n)) some = record { why = end_in_value; ends = tt; stops = cut_part pairs pairs_take n ended no_pair }
  cut_pairs ToBreak some = record { why = end_in_map; ends = tt; stops = cut_due pairs pairs_take [] (record { why = end_in_map; left = 0 }) refl }

  cut_value : (r : Left) → rest_at total levels (Value r) [] ≡ Err ended
  unfolding rest_at
  cut_value r = rw no_item refl

  pub cut : (r : Rest) → is_over r ≡ false → Cut r
  cut (Items r) some = cut_items r some
  cut (InPairs r) some = cut_pairs r some
  cut (Value r) some = record { why = end_in_value; ends = tt; stops = cut_value r }
