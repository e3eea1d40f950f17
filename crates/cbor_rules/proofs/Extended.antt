-- Where more bytes follow, a walk passes to the same place, or departs at the same place from the same rule.
use Rattle.std.proofs.Common.{◌≡◌, ℕ, zero, suc, ◌+◌, ◌-◌, ◌/◌, ◌%◌, ◌≤◌, Bool, true, false, cond, ltb, List, [], ◌∷◌, ◌++◌, length, take, drop, Ok, Err, Option, Some, None, refl, sym, ap, subst, arith}
use Rattle.std.specs.Prelude.{◌==◌, nat_le, nat_lt}
use Rattle.std.specs.Int.{Width, w8, w16, w32, w64, byte_len, from_be_bytes}
use Rattle.std.proofs.lemmas.Bool.{le-ltb, ltb-false}
use Rattle.std.proofs.lemmas.List.{length-append, take-append-le, drop-append-le}
use Rattle.cbor_model.specs.Raw.{FloatWidth, half, single, double, undefined_item}
use Rattle.cbor_model.specs.Reader.{Reads, ended, number_at, number_behind, width_of}
use Rattle.cbor_rules.specs.Features.{number, indefinite_length, simple_item, float_bits, key, nth_item, chunk_to}
use Rattle.cbor_rules.specs.Walk.{Sought, found, Walk, passed, departed, stopped, and_then, unless_broken, seen, past, with_number, float_walk, simple_walk, all_walk, open_walk, chunk_content, chunks_walk, pairs_walk, inside_walk, indefinite_walk, head_walk, content_walk, walk}
use Rattle.cbor_rules.specs.declared.settings.Rule.{Rule}

-- what comes of it where these bytes follow: the same, or anything where it stopped
abbrev pub Extends : List ℕ → Walk → Walk → Type 0
Extends more (passed rest) w = w ≡ passed (rest ++ more)
Extends more (departed rule left) w = w ≡ departed rule (left + length more)
Extends more stopped w = Unit {0}

-- where a number is read, the same is read where these bytes follow
abbrev ReadsOn : List ℕ → Reads ℕ → Reads ℕ → Type 0
ReadsOn more (Ok x) r = r ≡ Ok (x.0, x.1 ++ more)
ReadsOn more (Err e) r = Unit {0}

-- how many steps there may be: no fewer up to a break, and else as many
abbrev Steps : Bool → ℕ → ℕ → Type 0
Steps true n m = n ≤ m
Steps false n m = n ≡ m

module _ (more : List ℕ) where
  -- ---- steps

  extends_then : (w u : Walk) (go go' : List ℕ → Walk) → Extends more w u → ((rest : List ℕ) → Extends more (go rest) (go' (rest ++ more))) → Extends more (and_then w go) (and_then u go')
  extends_then (passed rest) u go go' one after = subst (λ (u : Walk). Extends more (go rest) (and_then u go')) (sym one) (after rest)
  extends_then (departed rule left) u go go' one after = ap (λ (u : Walk). and_then u go') one
  extends_then stopped u go go' one after = tt

  extends_unless : (o : Option Rule) (bs : List ℕ) (w u : Walk) → Extends more w u → Extends more (unless_broken o (length bs) w) (unless_broken o (length (bs ++ more)) u)
  extends_unless None bs w u one = one
  extends_unless (Some rule) bs w u one = ap (departed rule) (length-append bs more)

  extends_if : (b : Bool) (w u w' u' : Walk) → Extends more w u → Extends more w' u' → Extends more (cond b w w') (cond b u u')
  extends_if true w u w' u' one other = one
  extends_if false w u w' u' one other = other

  extends_past : (n : ℕ) (bs : List ℕ) → Extends more (past n bs) (past n (bs ++ more))
  extends_past n bs = by (ltb (length bs) n) refl
    where
      by : (b : Bool) → ltb (length bs) n ≡ b → Extends more (cond b stopped (passed (drop n bs))) (past n (bs ++ more))
      by true is = tt
      by false is =
          let enough : n ≤ length bs = ltb-false (length bs) n is in
          let still : n ≤ length (bs ++ more) = omega (arith, enough, length-append bs more) in
          rw (le-ltb (length (bs ++ more)) n still) (ap passed (drop-append-le n bs more enough))

  -- ---- numbers

  number_on : (w : Width) (bs : List ℕ) → ReadsOn more (number_at w bs) (number_at w (bs ++ more))
  number_on w bs = by (ltb (length bs) (byte_len w)) refl
    where
      by : (b : Bool) → ltb (length bs) (byte_len w) ≡ b → ReadsOn more (cond b (Err ended) (Ok (from_be_bytes w (take (byte_len w) bs), drop (byte_len w) bs))) (number_at w (bs ++ more))
      by true is = tt
      by false is =
          let enough : byte_len w ≤ length bs = ltb-false (length bs) (byte_len w) is in
          let still : byte_len w ≤ length (bs ++ more) = omega (arith, enough, length-append bs more) in
          rw (le-ltb (length (bs ++ more)) (byte_len w) still, take-append-le (byte_len w) bs more enough, drop-append-le (byte_len w) bs more enough) refl

  number_if : (b : Bool) (r r' s s' : Reads ℕ) → ReadsOn more r r' → ReadsOn more s s' → ReadsOn more (cond b r s) (cond b r' s')
  number_if true r r' s s' one other = one
  number_if false r r' s s' one other = other

  behind_on : (low : ℕ) (bs : List ℕ) → ReadsOn more (number_behind low bs) (number_behind low (bs ++ more))
  unfolding number_behind
  behind_on low bs =
      number_if (nat_lt low 24) _ _ _ _ refl
      (number_if (low == 24) _ _ _ _ (number_on w8 bs)
      (number_if (low == 25) _ _ _ _ (number_on w16 bs)
      (number_if (low == 26) _ _ _ _ (number_on w32 bs)
      (number_if (low == 27) _ _ _ _ (number_on w64 bs) tt))))

  -- past a number
  extends_number : (go go' : ℕ → List ℕ → Walk) (low : ℕ) (bs : List ℕ) → ((n : ℕ) (rest : List ℕ) → Extends more (go n rest) (go' n (rest ++ more))) → Extends more (with_number go (number_behind low bs)) (with_number go' (number_behind low (bs ++ more)))
  extends_number go go' low bs each = by (number_behind low bs) (number_behind low (bs ++ more)) (behind_on low bs)
    where
      by : (r r' : Reads ℕ) → ReadsOn more r r' → Extends more (with_number go r) (with_number go' r')
      by (Ok x) r' same = subst (λ (r' : Reads ℕ). Extends more (with_number go (Ok x)) (with_number go' r')) (sym same) (each x.0 x.1)
      by (Err e) r' same = tt

  -- ---- keys

  -- it is the same where these bytes follow
  same_key : (bs rest : List ℕ) → take (length bs - length rest) bs ≡ take (length (bs ++ more) - length (rest ++ more)) (bs ++ more)
  same_key bs rest =
      let long : length (bs ++ more) - length (rest ++ more) ≡ length bs - length rest = omega (arith, length-append bs more, length-append rest more) in
      let within : length bs - length rest ≤ length bs = omega arith in
      rw (long, take-append-le (length bs - length rest) bs more within) refl

module _ (sought : Sought) (more : List ℕ) where
  -- ---- simple items, floats and strings

  float_extends : (w : FloatWidth) (low : ℕ) (bs : List ℕ) → Extends more (float_walk sought w low bs) (float_walk sought w low (bs ++ more))
  float_extends w low bs =
      let go = λ (bits : ℕ) (rest : List ℕ). seen sought (float_bits w bits) (length rest) (passed rest) in
      extends_number more go go low bs
      (λ bits rest. extends_unless more (found sought (float_bits w bits)) rest (passed rest) (passed (rest ++ more)) refl)

  simple_extends : (low : ℕ) (bs : List ℕ) → Extends more (simple_walk sought low bs) (simple_walk sought low (bs ++ more))
  unfolding simple_walk
  simple_extends low bs =
      extends_if more (low == 23) _ _ _ _ (extends_unless more (found sought (simple_item undefined_item)) bs (passed bs) (passed (bs ++ more)) refl)
      (extends_if more (low == 25) _ _ _ _ (float_extends half low bs)
      (extends_if more (low == 26) _ _ _ _ (float_extends single low bs)
      (extends_if more (low == 27) _ _ _ _ (float_extends double low bs)
      refl)))

  module _ (major : ℕ) where
    chunk_extends : (low sum : ℕ) (go go' : ℕ → List ℕ → Walk) (bs : List ℕ) → ((sum : ℕ) (bs : List ℕ) → Extends more (go sum bs) (go' sum (bs ++ more))) → Extends more (chunk_content sought major low sum go bs) (chunk_content sought major low sum go' (bs ++ more))
    chunk_extends low sum go go' bs after =
        let behind = λ (go : ℕ → List ℕ → Walk) (n : ℕ) (rest : List ℕ). and_then (past n rest) (λ left. seen sought (chunk_to (sum + n)) (length rest) (go (sum + n) left)) in
        extends_number more
        (λ n rest. seen sought (number major (width_of low) n) (length rest) (behind go n rest))
        (λ n rest. seen sought (number major (width_of low) n) (length rest) (behind go' n rest))
        low bs
        (λ n rest. extends_unless more (found sought (number major (width_of low) n)) rest (behind go n rest) (behind go' n (rest ++ more))
        (extends_then more (past n rest) (past n (rest ++ more)) _ _ (extends_past more n rest)
        (λ left. extends_unless more (found sought (chunk_to (sum + n))) rest (go (sum + n) left) (go' (sum + n) (left ++ more)) (after (sum + n) left))))

    chunks_extend : (n m sum : ℕ) (bs : List ℕ) → n ≤ m → Extends more (chunks_walk sought major n sum bs) (chunks_walk sought major m sum (bs ++ more))
    unfolding chunks_walk
    chunks_extend zero m sum bs le = tt
    chunks_extend (suc n) zero sum bs le = absurd (omega (arith, le))
    chunks_extend (suc n) (suc m) sum [] le = tt
    chunks_extend (suc n) (suc m) sum (b ∷ bs) le =
        extends_if more (b == 0xff) _ _ _ _ refl
        (chunk_extends (b % 32) sum (chunks_walk sought major n) (chunks_walk sought major m) bs (λ sum bs. chunks_extend n m sum bs (omega (arith, le))))

-- ---- pairs

module _ (sought : Sought) (p : List ℕ → Walk) (go : List (List ℕ) → List ℕ → Walk) (earlier : List (List ℕ)) where
  -- past a key of these bytes, over its value and the pairs behind it
  abbrev value_walk : List ℕ → List ℕ → Walk
  value_walk k at_value = seen sought (key earlier k) (length at_value) (and_then (p at_value) (go (k ∷ earlier)))

  abbrev behind_key : List ℕ → List ℕ → Walk
  behind_key bs at_value = value_walk (take (length bs - length at_value) bs) at_value

  abbrev pair_walk : List ℕ → Walk
  pair_walk bs = and_then (p bs) (behind_key bs)

-- ---- what is in arrays, maps and tags, by walks over one item

module _ (sought : Sought) (more : List ℕ) (p q : List ℕ → Walk) (none : p [] ≡ stopped) (each : (bs : List ℕ) → Extends more (p bs) (q (bs ++ more))) where
  all_extends : (n : ℕ) (bs : List ℕ) → Extends more (all_walk p n bs) (all_walk q n (bs ++ more))
  unfolding all_walk
  all_extends zero bs = refl
  all_extends (suc n) bs = extends_then more (p bs) (q (bs ++ more)) (all_walk p n) (all_walk q n) (each bs) (all_extends n)

  open_extends : (n m earlier : ℕ) (bs : List ℕ) → n ≤ m → Extends more (open_walk sought p n earlier bs) (open_walk sought q m earlier (bs ++ more))
  unfolding open_walk
  open_extends zero m earlier bs le = tt
  open_extends (suc n) zero earlier bs le = absurd (omega (arith, le))
  open_extends (suc n) (suc m) earlier [] le = rw none tt
  open_extends (suc n) (suc m) earlier (b ∷ bs) le =
      extends_if more (b == 0xff) _ _ _ _ refl
      (extends_then more (p (b ∷ bs)) (q ((b ∷ bs) ++ more)) _ _ (each (b ∷ bs))
      (λ rest.
      extends_unless more (found sought (nth_item earlier)) rest (open_walk sought p n (earlier + 1) rest) (open_walk sought q m (earlier + 1) (rest ++ more))
      (open_extends n m (earlier + 1) rest (omega (arith, le)))))

  pair_extends : (go go' : List (List ℕ) → List ℕ → Walk) (earlier : List (List ℕ)) (bs : List ℕ) → ((earlier : List (List ℕ)) (rest : List ℕ) → Extends more (go earlier rest) (go' earlier (rest ++ more))) → Extends more (pair_walk sought p go earlier bs) (pair_walk sought q go' earlier (bs ++ more))
  pair_extends go go' earlier bs after =
      extends_then more (p bs) (q (bs ++ more)) (behind_key sought p go earlier bs) (behind_key sought q go' earlier (bs ++ more)) (each bs) (λ at_value.
      let k = take (length bs - length at_value) bs in
      subst (λ (l : List ℕ). Extends more (behind_key sought p go earlier bs at_value) (value_walk sought q go' earlier l (at_value ++ more))) (same_key more bs at_value)
      (extends_unless more (found sought (key earlier k)) at_value (and_then (p at_value) (go (k ∷ earlier))) (and_then (q (at_value ++ more)) (go' (k ∷ earlier)))
      (extends_then more (p at_value) (q (at_value ++ more)) (go (k ∷ earlier)) (go' (k ∷ earlier)) (each at_value) (after (k ∷ earlier)))))

  pairs_extend : (is_open : Bool) (n m : ℕ) (earlier : List (List ℕ)) (bs : List ℕ) → Steps is_open n m → Extends more (pairs_walk sought p is_open n earlier bs) (pairs_walk sought q is_open m earlier (bs ++ more))
  unfolding pairs_walk
  pairs_extend true zero m earlier bs steps = tt
  pairs_extend true (suc n) zero earlier bs steps = absurd (omega (arith, steps))
  pairs_extend true (suc n) (suc m) earlier [] steps = rw none tt
  pairs_extend true (suc n) (suc m) earlier (b ∷ bs) steps =
      extends_if more (b == 0xff) _ _ _ _ refl
      (pair_extends (pairs_walk sought p true n) (pairs_walk sought q true m) earlier (b ∷ bs) (λ earlier rest. pairs_extend true n m earlier rest (omega (arith, steps))))
  pairs_extend false zero zero earlier bs steps = refl
  pairs_extend false zero (suc m) earlier bs steps = absurd (omega (arith, steps))
  pairs_extend false (suc n) zero earlier bs steps = absurd (omega (arith, steps))
  pairs_extend false (suc n) (suc m) earlier bs steps =
      pair_extends (pairs_walk sought p false n) (pairs_walk sought q false m) earlier bs (λ earlier rest. pairs_extend false n m earlier rest (omega (arith, steps)))

  inside_extends : (major n : ℕ) (bs : List ℕ) → Extends more (inside_walk sought p major n bs) (inside_walk sought q major n (bs ++ more))
  unfolding inside_walk
  inside_extends major n bs =
      extends_if more (nat_le major 1) _ _ _ _ refl
      (extends_if more (nat_le major 3) _ _ _ _ (extends_past more n bs)
      (extends_if more (major == 4) _ _ _ _ (all_extends n bs)
      (extends_if more (major == 5) _ _ _ _ (pairs_extend false n n [] bs refl)
      (each bs))))

  indefinite_extends : (major : ℕ) (bs : List ℕ) → Extends more (indefinite_walk sought p major bs) (indefinite_walk sought q major (bs ++ more))
  unfolding indefinite_walk
  indefinite_extends major bs =
      let n = length bs in
      let m = length (bs ++ more) in
      let le : n ≤ m = omega (arith, length-append bs more) in
      extends_unless more (found sought indefinite_length) bs
      (cond (major == 5) (pairs_walk sought p true n [] bs) (cond (major == 4) (open_walk sought p n 0 bs) (chunks_walk sought major n 0 bs)))
      (cond (major == 5) (pairs_walk sought q true m [] (bs ++ more)) (cond (major == 4) (open_walk sought q m 0 (bs ++ more)) (chunks_walk sought major m 0 (bs ++ more))))
      (extends_if more (major == 5) _ _ _ _ (pairs_extend true n m [] bs le)
      (extends_if more (major == 4) _ _ _ _ (open_extends n m 0 bs le)
      (chunks_extend sought more major n m 0 bs le)))

  head_extends : (major low : ℕ) (bs : List ℕ) → Extends more (head_walk sought p major low bs) (head_walk sought q major low (bs ++ more))
  head_extends major low bs =
      extends_number more
      (λ n rest. seen sought (number major (width_of low) n) (length rest) (inside_walk sought p major n rest))
      (λ n rest. seen sought (number major (width_of low) n) (length rest) (inside_walk sought q major n rest))
      low bs
      (λ n rest. extends_unless more (found sought (number major (width_of low) n)) rest (inside_walk sought p major n rest) (inside_walk sought q major n (rest ++ more)) (inside_extends major n rest))

  content_extends : (major low : ℕ) (bs : List ℕ) → Extends more (content_walk sought p major low bs) (content_walk sought q major low (bs ++ more))
  unfolding content_walk
  content_extends major low bs =
      extends_if more (major == 7) _ _ _ _ (simple_extends sought more low bs)
      (extends_if more (low == 31) _ _ _ _ (indefinite_extends major bs)
      (head_extends major low bs))

-- ---- items

-- where there are no bytes, it stops
none_begins : (sought : Sought) (fuel : ℕ) → walk sought fuel [] ≡ stopped
unfolding walk
none_begins sought zero = refl
none_begins sought (suc fuel) = refl

-- a walk over an item, with as much fuel or more
pub walk_extends : (sought : Sought) (fuel more_fuel : ℕ) (bs more : List ℕ) → fuel ≤ more_fuel → Extends more (walk sought fuel bs) (walk sought more_fuel (bs ++ more))
unfolding walk
walk_extends sought zero more_fuel bs more le = tt
walk_extends sought (suc fuel) zero bs more le = absurd (omega (arith, le))
walk_extends sought (suc fuel) (suc more_fuel) [] more le = tt
walk_extends sought (suc fuel) (suc more_fuel) (b ∷ bs) more le =
    content_extends sought more (walk sought fuel) (walk sought more_fuel) (none_begins sought fuel) (λ bs. walk_extends sought fuel more_fuel bs more (omega (arith, le))) (b / 32) (b % 32) bs
