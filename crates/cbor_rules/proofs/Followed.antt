-- Whatever is looked for: where going through the bytes of an item passes, going through them for
-- something else passes to the same place, or departs.
use Rattle.std.proofs.Common.{◌≡◌, ◌⊎◌, ℕ, zero, suc, ◌+◌, ◌-◌, ◌/◌, ◌%◌, Bool, true, false, cond, List, [], ◌∷◌, length, take, drop, Ok, Err, Option, Some, None, inl, inr, refl, sym, subst}
use Rattle.std.specs.Prelude.{◌&&◌, ◌==◌, nat_le}
use Rattle.cbor_model.specs.Raw.{FloatWidth, half, single, double, undefined_item}
use Rattle.cbor_model.specs.Reader.{Reads, number_behind, width_of}
use Rattle.cbor_rules.specs.Features.{number, indefinite_length, simple_item, float_bits, key, nth_item, chunk_to}
use Rattle.cbor_rules.specs.Walk.{Sought, found, Walk, passed, departed, stopped, and_then, unless_broken, seen, past, with_number, float_walk, simple_walk, is_break, all_walk, open_walk, chunk_content, chunks_walk, pairs_walk, inside_walk, indefinite_walk, head_walk, content_walk, walk}
use Rattle.cbor_rules.specs.Walks.{IsDeparted}
use Rattle.cbor_rules.specs.declared.settings.Rule.{Rule}

-- it passes to these bytes, or departs
abbrev pub GoesTo : List ℕ → Walk → Type 0
GoesTo rest w = (w ≡ passed rest) ⊎ IsDeparted w

-- where the one passes, the other goes there
pub record Follows (u w : Walk) : Type 0 where
  pub goes : (rest : List ℕ) → u ≡ passed rest → GoesTo rest w

follows_same : (w : Walk) → Follows w w
follows_same w = record { goes = λ rest is. inl is }

follows_departed : (u w : Walk) → IsDeparted w → Follows u w
follows_departed u w departs = record { goes = λ rest is. inr departs }

departed_follows : (rule : Rule) (left : ℕ) (w : Walk) → Follows (departed rule left) w
departed_follows rule left w = record { goes = λ rest is. absurd cc }

stopped_follows : (w : Walk) → Follows stopped w
stopped_follows w = record { goes = λ rest is. absurd cc }

pub then_departs : (w : Walk) (go : List ℕ → Walk) → IsDeparted w → IsDeparted (and_then w go)
then_departs (passed bs) go departs = absurd departs
then_departs (departed rule left) go departs = tt
then_departs stopped go departs = absurd departs

follows_then : (u w : Walk) (go go' : List ℕ → Walk) → Follows u w → ((rest : List ℕ) → Follows (go rest) (go' rest)) → Follows (and_then u go) (and_then w go')
follows_then (passed rest) w go go' one after = elim (one.goes rest refl) [
  | inl is ↦ subst (λ (w : Walk). Follows (go rest) (and_then w go')) (sym is) (after rest)
  | inr departs ↦ follows_departed (go rest) (and_then w go') (then_departs w go' departs)
]
follows_then (departed rule left) w go go' one after = departed_follows rule left (and_then w go')
follows_then stopped w go go' one after = stopped_follows (and_then w go')

follows_unless : (o o' : Option Rule) (left : ℕ) (u w : Walk) → Follows u w → Follows (unless_broken o left u) (unless_broken o' left w)
follows_unless None None left u w one = one
follows_unless None (Some rule) left u w one = follows_departed u (departed rule left) tt
follows_unless (Some rule) o' left u w one = departed_follows rule left (unless_broken o' left w)

follows_if : (b : Bool) {u v w x : Walk} → Follows u w → Follows v x → Follows (cond b u v) (cond b w x)
follows_if true one other = one
follows_if false one other = other

follows_number : (go go' : ℕ → List ℕ → Walk) (r : Reads ℕ) → ((n : ℕ) (rest : List ℕ) → Follows (go n rest) (go' n rest)) → Follows (with_number go r) (with_number go' r)
follows_number go go' (Ok n) each = each n.0 n.1
follows_number go go' (Err e) each = stopped_follows stopped

module _ (s t : Sought) where
  float_follows : (w : FloatWidth) (low : ℕ) (bs : List ℕ) → Follows (float_walk s w low bs) (float_walk t w low bs)
  float_follows w low bs = follows_number
      (λ bits rest. seen s (float_bits w bits) (length rest) (passed rest))
      (λ bits rest. seen t (float_bits w bits) (length rest) (passed rest))
      (number_behind low bs)
      (λ bits rest. follows_unless (found s (float_bits w bits)) (found t (float_bits w bits)) (length rest) (passed rest) (passed rest) (follows_same (passed rest)))

  simple_follows : (low : ℕ) (bs : List ℕ) → Follows (simple_walk s low bs) (simple_walk t low bs)
  unfolding simple_walk
  simple_follows low bs =
      follows_if (low == 23) (follows_unless (found s (simple_item undefined_item)) (found t (simple_item undefined_item)) (length bs) (passed bs) (passed bs) (follows_same (passed bs)))
      (follows_if (low == 25) (float_follows half low bs)
      (follows_if (low == 26) (float_follows single low bs)
      (follows_if (low == 27) (float_follows double low bs)
      (follows_same (passed bs)))))

  module _ (major : ℕ) where
    content_of_chunk : (low sum : ℕ) (go go' : ℕ → List ℕ → Walk) (bs : List ℕ) → ((sum : ℕ) (bs : List ℕ) → Follows (go sum bs) (go' sum bs)) → Follows (chunk_content s major low sum go bs) (chunk_content t major low sum go' bs)
    content_of_chunk low sum go go' bs after = follows_number
        (λ n rest. seen s (number major (width_of low) n) (length rest) (and_then (past n rest) (λ more. seen s (chunk_to (sum + n)) (length rest) (go (sum + n) more))))
        (λ n rest. seen t (number major (width_of low) n) (length rest) (and_then (past n rest) (λ more. seen t (chunk_to (sum + n)) (length rest) (go' (sum + n) more))))
        (number_behind low bs)
        (λ n rest. follows_unless (found s (number major (width_of low) n)) (found t (number major (width_of low) n)) (length rest)
        (and_then (past n rest) (λ more. seen s (chunk_to (sum + n)) (length rest) (go (sum + n) more)))
        (and_then (past n rest) (λ more. seen t (chunk_to (sum + n)) (length rest) (go' (sum + n) more)))
        (follows_then (past n rest) (past n rest)
        (λ more. seen s (chunk_to (sum + n)) (length rest) (go (sum + n) more))
        (λ more. seen t (chunk_to (sum + n)) (length rest) (go' (sum + n) more))
        (follows_same (past n rest))
        (λ more. follows_unless (found s (chunk_to (sum + n))) (found t (chunk_to (sum + n))) (length rest) (go (sum + n) more) (go' (sum + n) more) (after (sum + n) more))))

    chunks_follow : (n sum : ℕ) (bs : List ℕ) → Follows (chunks_walk s major n sum bs) (chunks_walk t major n sum bs)
    unfolding chunks_walk
    chunks_follow zero sum bs = stopped_follows stopped
    chunks_follow (suc n) sum [] = stopped_follows stopped
    chunks_follow (suc n) sum (b ∷ bs) =
        follows_if (b == 0xff) (follows_same (passed bs))
        (content_of_chunk (b % 32) sum (chunks_walk s major n) (chunks_walk t major n) bs (chunks_follow n))

  module _ (p q : List ℕ → Walk) (each : (bs : List ℕ) → Follows (p bs) (q bs)) where
    all_follows : (n : ℕ) (bs : List ℕ) → Follows (all_walk p n bs) (all_walk q n bs)
    unfolding all_walk
    all_follows zero bs = follows_same (passed bs)
    all_follows (suc n) bs = follows_then (p bs) (q bs) (all_walk p n) (all_walk q n) (each bs) (all_follows n)

    open_follows : (n earlier : ℕ) (bs : List ℕ) → Follows (open_walk s p n earlier bs) (open_walk t q n earlier bs)
    unfolding open_walk
    open_follows zero earlier bs = stopped_follows stopped
    open_follows (suc n) earlier bs =
        follows_if (is_break bs) (follows_same (passed (drop 1 bs)))
        (follows_then (p bs) (q bs)
        (λ rest. seen s (nth_item earlier) (length rest) (open_walk s p n (earlier + 1) rest))
        (λ rest. seen t (nth_item earlier) (length rest) (open_walk t q n (earlier + 1) rest))
        (each bs)
        (λ rest.
        follows_unless (found s (nth_item earlier)) (found t (nth_item earlier)) (length rest)
        (open_walk s p n (earlier + 1) rest) (open_walk t q n (earlier + 1) rest) (open_follows n (earlier + 1) rest)))

    pairs_follow : (is_open : Bool) (n : ℕ) (earlier : List (List ℕ)) (bs : List ℕ) → Follows (pairs_walk s p is_open n earlier bs) (pairs_walk t q is_open n earlier bs)
    unfolding pairs_walk
    pairs_follow is_open zero earlier bs = follows_same (cond is_open stopped (passed bs))
    pairs_follow is_open (suc n) earlier bs =
        follows_if (is_open && is_break bs) (follows_same (passed (drop 1 bs)))
        (follows_then (p bs) (q bs)
        (λ at_value. let k = take (length bs - length at_value) bs in seen s (key earlier k) (length at_value) (and_then (p at_value) (pairs_walk s p is_open n (k ∷ earlier))))
        (λ at_value. let k = take (length bs - length at_value) bs in seen t (key earlier k) (length at_value) (and_then (q at_value) (pairs_walk t q is_open n (k ∷ earlier))))
        (each bs)
        (λ at_value.
        let k = take (length bs - length at_value) bs in
        follows_unless (found s (key earlier k)) (found t (key earlier k)) (length at_value)
        (and_then (p at_value) (pairs_walk s p is_open n (k ∷ earlier))) (and_then (q at_value) (pairs_walk t q is_open n (k ∷ earlier)))
        (follows_then (p at_value) (q at_value) (pairs_walk s p is_open n (k ∷ earlier)) (pairs_walk t q is_open n (k ∷ earlier)) (each at_value) (pairs_follow is_open n (k ∷ earlier)))))

    inside_follows : (major n : ℕ) (bs : List ℕ) → Follows (inside_walk s p major n bs) (inside_walk t q major n bs)
    unfolding inside_walk
    inside_follows major n bs =
        follows_if (nat_le major 1) (follows_same (passed bs))
        (follows_if (nat_le major 3) (follows_same (past n bs))
        (follows_if (major == 4) (all_follows n bs)
        (follows_if (major == 5) (pairs_follow false n [] bs)
        (each bs))))

    indefinite_follows : (major : ℕ) (bs : List ℕ) → Follows (indefinite_walk s p major bs) (indefinite_walk t q major bs)
    unfolding indefinite_walk
    indefinite_follows major bs =
        follows_unless (found s indefinite_length) (found t indefinite_length) (length bs)
        (cond (major == 5) (pairs_walk s p true (length bs) [] bs) (cond (major == 4) (open_walk s p (length bs) 0 bs) (chunks_walk s major (length bs) 0 bs)))
        (cond (major == 5) (pairs_walk t q true (length bs) [] bs) (cond (major == 4) (open_walk t q (length bs) 0 bs) (chunks_walk t major (length bs) 0 bs)))
        (follows_if (major == 5) (pairs_follow true (length bs) [] bs)
        (follows_if (major == 4) (open_follows (length bs) 0 bs)
        (chunks_follow major (length bs) 0 bs)))

    head_follows : (major low : ℕ) (bs : List ℕ) → Follows (head_walk s p major low bs) (head_walk t q major low bs)
    head_follows major low bs = follows_number
        (λ n rest. seen s (number major (width_of low) n) (length rest) (inside_walk s p major n rest))
        (λ n rest. seen t (number major (width_of low) n) (length rest) (inside_walk t q major n rest))
        (number_behind low bs)
        (λ n rest. follows_unless (found s (number major (width_of low) n)) (found t (number major (width_of low) n)) (length rest)
        (inside_walk s p major n rest) (inside_walk t q major n rest) (inside_follows major n rest))

    content_follows : (major low : ℕ) (bs : List ℕ) → Follows (content_walk s p major low bs) (content_walk t q major low bs)
    unfolding content_walk
    content_follows major low bs =
        follows_if (major == 7) (simple_follows low bs)
        (follows_if (low == 31) (indefinite_follows major bs)
        (head_follows major low bs))

  pub walk_follows : (fuel : ℕ) (bs : List ℕ) → Follows (walk s fuel bs) (walk t fuel bs)
  unfolding walk
  walk_follows zero bs = stopped_follows stopped
  walk_follows (suc fuel) [] = stopped_follows stopped
  walk_follows (suc fuel) (b ∷ bs) = content_follows (walk s fuel) (walk t fuel) (walk_follows fuel) (b / 32) (b % 32) bs
