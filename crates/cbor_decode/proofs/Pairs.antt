-- Reading pairs one after the other, as a loop does.
use Rattle.std.proofs.Common.{◌≡◌, ℕ, suc, true, false, ◌<◌, List, ◌∷◌, length, Some, None, Ok, Err, refl, sym, ap, ◌∙◌, arith, inl, inr}
use Rattle.cbor_model.specs.Formats.{Formats, may_begin_key}
use Rattle.cbor_model.specs.Plain.{Val, Pairs, no_pairs}
use Rattle.cbor_model.specs.Value.{put}
use Rattle.cbor_model.specs.Refusal.{end_in_map, wrong_struct_format}
use Rattle.cbor_model.specs.Reader.{Fault, before, Reads, ◌>>=◌, Remaining, next_at, parts_by, parts_at, key_at, pair_at, pairs_of, after_first, item_at, inside}
use Rattle.cbor_model.proofs.facts.Reader.{taken, next_taken, pair_taken, parts_by-fuel}
use Rattle.cbor_decode.specs.Gives.{Limits, values}
use Rattle.cbor_decode.specs.Heads.{first_at, made_of}
use Rattle.cbor_decode.proofs.Items.{item_from, first_some, first_none, first_err}

-- the pairs so far, with those that are still read put in
abbrev pub with_earlier : Pairs → Reads (Pairs → Pairs) → Reads Pairs
with_earlier earlier read = read >>= (λ ps. Ok (ps.0 earlier, ps.1))

put_first : (earlier : Pairs) (k v : Val) (read : Reads (Pairs → Pairs)) → with_earlier earlier (read >>= (λ ps. Ok ((λ (before : Pairs). ps.0 (put k v before)), ps.1))) ≡ with_earlier (put k v earlier) read
put_first earlier k v (Ok x) = refl
put_first earlier k v (Err f) = refl

module _ (f : Formats) (levels : ℕ) (all : Remaining) (earlier : Pairs) where
  -- the pairs that remain
  abbrev pairs_at : Limits → Remaining → List ℕ → Reads (Pairs → Pairs)
  pairs_at l remaining bs = parts_at (pairs_of (values f l) (item_at (values f l) levels)) remaining bs

  -- the pairs so far, and those that remain of all
  abbrev pub PairsSoFar : Remaining → Limits → List ℕ → List ℕ → Type 0
  PairsSoFar remaining l bs rest = with_earlier earlier (pairs_at l remaining rest) ≡ made_of (pairs_at l all bs)

  pub pairs_begin : (l : Limits) (bs : List ℕ) → earlier ≡ no_pairs → PairsSoFar all l bs bs
  pairs_begin l bs none = ap (λ (e : Pairs). with_earlier e (pairs_at l all bs)) none

  -- a key begins with b, after whose pair this remains
  pub record KeyBegun (behind : Remaining) (b : ℕ) (l : Limits) (bs mid : List ℕ) : Type 0 where
    pub remaining : Remaining
    pub rest : List ℕ
    pub so_far : PairsSoFar remaining l bs rest
    pub next : next_at end_in_map remaining rest ≡ Ok (Some behind, b ∷ mid)

  pub key_begins : (remaining behind : Remaining) (b : ℕ) (l : Limits) (bs rest mid : List ℕ) → PairsSoFar remaining l bs rest → first_at end_in_map remaining rest ≡ Ok (Some (behind, b), mid) → KeyBegun behind b l bs mid
  key_begins remaining behind b l bs rest mid so_far first = record { remaining = remaining; rest = rest; so_far = so_far; next = first_some end_in_map remaining behind b rest mid first }

  -- the key was read
  pub record KeyRead (behind : Remaining) (k : Val) (l : Limits) (bs at_value : List ℕ) : Type 0 where
    pub first : ℕ
    pub mid : List ℕ
    pub begun : KeyBegun behind first l bs mid
    pub may : may_begin_key f first ≡ true
    pub key : item_at (values f l) levels (first ∷ mid) ≡ Ok (k, at_value)

  pub key_ends : (behind : Remaining) (b : ℕ) (k : Val) (l : Limits) (bs mid at_value : List ℕ) → KeyBegun behind b l bs mid → may_begin_key f b ≡ true → after_first (values f l) (inside (values f l) levels) b mid ≡ Ok (k, at_value) → KeyRead behind k l bs at_value
  key_ends behind b k l bs mid at_value begun may is = record { first = b; mid = mid; begun = begun; may = may; key = item_from f l levels b mid ∙ is }

  pub pairs_go_on : (behind : Remaining) (k v : Val) (l : Limits) (bs at_value after : List ℕ) → KeyRead behind k l bs at_value → item_at (values f l) levels at_value ≡ Ok (v, after)
      → with_earlier (put k v earlier) (pairs_at l behind after) ≡ made_of (pairs_at l all bs)
  unfolding parts_by pair_at key_at
  pairs_go_on behind k v l bs at_value after read second =
      let m = values f l in
      let p = item_at m levels in
      let ps = pairs_of m p in
      let begun = read.begun in
      let rest = begun.rest in
      let bytes = read.first ∷ read.mid in
      let shorter : length after < length rest = omega (arith, taken m levels bytes (k, at_value) read.key, taken m levels at_value (v, after) second, next_taken end_in_map begun.remaining rest (Some behind, bytes) begun.next) in
      let fuel = parts_by-fuel ps (pair_taken m.allows p (taken m levels)) (length rest) (suc (length after)) behind after shorter (omega arith) in
      let one : with_earlier earlier (pairs_at l begun.remaining rest) ≡ with_earlier (put k v earlier) (pairs_at l behind after) = rw (begun.next, read.may, read.key, second) (put_first earlier k v (parts_by ps (length rest) behind after) ∙ ap (with_earlier (put k v earlier)) fuel) in
      sym one ∙ begun.so_far

  pub key_faulted : (behind : Remaining) (b : ℕ) (l : Limits) (bs mid : List ℕ) (d : Fault) → KeyBegun behind b l bs mid → may_begin_key f b ≡ true → after_first (values f l) (inside (values f l) levels) b mid ≡ Err d → made_of (pairs_at l all bs) ≡ Err d
  unfolding parts_by pair_at key_at
  key_faulted behind b l bs mid d begun may is =
      let h : item_at (values f l) levels (b ∷ mid) ≡ Err d = item_from f l levels b mid ∙ is in
      let one : with_earlier earlier (pairs_at l begun.remaining begun.rest) ≡ Err d = rw (begun.next, may, h) refl in
      sym begun.so_far ∙ one

  -- the key is of a format that isn't read
  pub key_refused : (behind : Remaining) (b : ℕ) (l : Limits) (bs mid : List ℕ) → KeyBegun behind b l bs mid → may_begin_key f b ≡ false → made_of (pairs_at l all bs) ≡ Err (before wrong_struct_format (b ∷ mid))
  unfolding parts_by pair_at key_at
  key_refused behind b l bs mid begun other =
      let one : with_earlier earlier (pairs_at l begun.remaining begun.rest) ≡ Err (before wrong_struct_format (b ∷ mid)) = rw (begun.next, other) refl in
      sym begun.so_far ∙ one

  pub value_faulted : (behind : Remaining) (k : Val) (l : Limits) (bs at_value : List ℕ) (d : Fault) → KeyRead behind k l bs at_value → item_at (values f l) levels at_value ≡ Err d → made_of (pairs_at l all bs) ≡ Err d
  unfolding parts_by pair_at key_at
  value_faulted behind k l bs at_value d read is =
      let one : with_earlier earlier (pairs_at l read.begun.remaining read.begun.rest) ≡ Err d = rw (read.begun.next, read.may, read.key, is) refl in
      sym read.begun.so_far ∙ one

  pub pairs_cut : (remaining : Remaining) (l : Limits) (bs rest : List ℕ) (d : Fault) → PairsSoFar remaining l bs rest → first_at end_in_map remaining rest ≡ Err d → made_of (pairs_at l all bs) ≡ Err d
  unfolding parts_by pair_at key_at
  pairs_cut remaining l bs rest d so_far first = elim (first_err end_in_map remaining rest d first) [
    | inl next ↦
        let one : with_earlier earlier (pairs_at l remaining rest) ≡ Err d = rw next refl in
        sym so_far ∙ one
    | inr w ↦
        let one : with_earlier earlier (pairs_at l remaining rest) ≡ Err d = rw w.1 (ap (λ (g : Fault). Err g) (sym w.2)) in
        sym so_far ∙ one
  ]

  pub pairs_done : (remaining : Remaining) (l : Limits) (bs rest after : List ℕ) → PairsSoFar remaining l bs rest → first_at end_in_map remaining rest ≡ Ok (None, after) → made_of (pairs_at l all bs) ≡ Ok (earlier, after)
  unfolding parts_by
  pairs_done remaining l bs rest after so_far first =
      let next = first_none end_in_map remaining rest after first in
      let one : with_earlier earlier (pairs_at l remaining rest) ≡ Ok (earlier, after) = rw next refl in
      sym so_far ∙ one
