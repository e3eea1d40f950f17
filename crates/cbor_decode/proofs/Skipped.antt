-- Passing over items and pairs one after the other, as a loop does.
use Rattle.std.proofs.Common.{◌≡◌, ℕ, suc, ◌<◌, true, false, List, [], ◌∷◌, length, Some, None, Result, Ok, Err, Bool, refl, sym, ap, ◌∙◌, arith, inl, inr}
use Rattle.cbor_model.specs.Formats.{Formats, may_begin_key}
use Rattle.cbor_model.specs.Head.{no_bytes}
use Rattle.cbor_model.specs.Raw.{indefinite}
use Rattle.cbor_model.specs.Plain.{Val, Vals, Pairs}
use Rattle.cbor_model.specs.Refusal.{wrong_struct_format}
use Rattle.cbor_model.specs.Reader.{Fault, Reads, ◌>>=◌, before, ended, Remaining, next_at, Parts, parts_by, parts_at, key_at, pair_at, items_of, pairs_of, array_at, map_at, tag_at, after_first, item_at, inside}
use Rattle.cbor_model.proofs.facts.Reader.{ok_is, taken, next_taken, pair_taken, parts_by-fuel}
use Rattle.cbor_io.specs.declared.read_error.ReadError.{ReadError}
use Rattle.cbor_io.specs.declared.read_error.ReadErrorCode.{ReadErrorCode}
use Rattle.cbor_read.specs.Source.{Input}
use Rattle.cbor_decode.specs.declared.refusal.Refused.{Refused}
use Rattle.cbor_decode.specs.Gives.{Limits, values, Gives}
use Rattle.cbor_decode.specs.Heads.{first_at, passed}
use Rattle.cbor_decode.proofs.Steps.{step_map, stopped_map}
use Rattle.cbor_decode.proofs.Items.{item_from, item_none, first_some, first_none, first_err}

-- one reading gives what another gives
pub gives_same : {X A : Type 0} (allowed : ReadErrorCode → Bool) (view : X → A) (read read' : Limits → List ℕ → Reads A) (s t : Input) (kept : ReadError) (r : Result X Refused)
    → ((l : Limits) (bs : List ℕ) → read' l bs ≡ read l bs) → Gives allowed view read s t kept r → Gives allowed view read' s t kept r
gives_same allowed view read read' s t kept (Ok x) same given = step_map s t (λ l bs rest. read l bs ≡ Ok (view x, rest)) (λ l bs rest. read' l bs ≡ Ok (view x, rest)) (λ l bs rest is. same l bs ∙ is) given
gives_same allowed view read read' s t kept (Err r) same given = stopped_map allowed read read' s kept r (λ l bs d is. same l bs ∙ is) given

-- what is made of a value that isn't kept
pub passed_map : {A B : Type 0} (read : Reads A) (g : A → B) → passed (read >>= (λ x. Ok (g x.0, x.1))) ≡ passed read
passed_map (Ok x) g = refl
passed_map (Err d) g = refl

-- something was passed over
pub passed_was : {A : Type 0} (read : Reads A) (rest : List ℕ) → passed read ≡ Ok (tt, rest) → (x : A) × (read ≡ Ok (x, rest))
passed_was (Ok x) rest is = (x.0, ap (λ (p : Unit {0} × List ℕ). Ok (x.0, p.1)) (ok_is (tt, x.1) (tt, rest) is))
passed_was (Err d) rest is = absurd cc

pub passed_stops : {A : Type 0} (read : Reads A) (d : Fault) → passed read ≡ Err d → read ≡ Err d
passed_stops (Ok x) d is = absurd cc
passed_stops (Err g) d is = cc

-- ---- parts

module _ {Part Whole : Type 0} (ps : Parts Part Whole) (takes : (bs : List ℕ) (x : Part × List ℕ) → ps.part bs ≡ Ok x → length x.1 < length bs) (remaining : Remaining) (rest : List ℕ) where
  pub part_passed : (behind : Remaining) (more after : List ℕ) (x : Part) → next_at ps.ends remaining rest ≡ Ok (Some behind, more) → ps.part more ≡ Ok (x, after) → passed (parts_at ps remaining rest) ≡ passed (parts_at ps behind after)
  unfolding parts_by
  part_passed behind more after x next is =
      let shorter : length after < length rest = omega (arith, takes more (x, after) is, next_taken ps.ends remaining rest (Some behind, more) next) in
      let fuel = parts_by-fuel ps takes (length rest) (suc (length after)) behind after shorter (omega arith) in
      rw (next, is) (passed_map (parts_by ps (length rest) behind after) (ps.add x) ∙ ap (λ r. passed r) fuel)

  pub part_stops : (behind : Remaining) (more : List ℕ) (d : Fault) → next_at ps.ends remaining rest ≡ Ok (Some behind, more) → ps.part more ≡ Err d → passed (parts_at ps remaining rest) ≡ Err d
  unfolding parts_by
  part_stops behind more d next is = rw (next, is) refl

  pub parts_cut : (d : Fault) → ps.part [] ≡ Err ended → first_at ps.ends remaining rest ≡ Err d → passed (parts_at ps remaining rest) ≡ Err d
  unfolding parts_by
  parts_cut d none first = elim (first_err ps.ends remaining rest d first) [
    | inl next ↦ rw next refl
    | inr w ↦ rw (w.1, none) (ap (λ (g : Fault). Err g) (sym w.2))
  ]

  pub parts_end : (after : List ℕ) → first_at ps.ends remaining rest ≡ Ok (None, after) → passed (parts_at ps remaining rest) ≡ Ok (tt, after)
  unfolding parts_by
  parts_end after first = rw (first_none ps.ends remaining rest after first) refl

-- what remains of all, where the parts before it were passed over
abbrev pub PassedSoFar : {Part Whole : Type 0} → (Limits → Parts Part Whole) → (all remaining : Remaining) → Limits → List ℕ → List ℕ → Type 0
PassedSoFar ps all remaining l bs rest = passed (parts_at (ps l) remaining rest) ≡ passed (parts_at (ps l) all bs)

-- a part begins with b, after which this remains
pub record PartBegun {Part Whole : Type 0} (ps : Limits → Parts Part Whole) (all behind : Remaining) (b : ℕ) (l : Limits) (bs mid : List ℕ) : Type 0 where
  pub remaining : Remaining
  pub rest : List ℕ
  pub so_far : PassedSoFar ps all remaining l bs rest
  pub next : next_at (ps l).ends remaining rest ≡ Ok (Some behind, b ∷ mid)

pub part_begins : {Part Whole : Type 0} (ps : Limits → Parts Part Whole) (all remaining behind : Remaining) (b : ℕ) (l : Limits) (bs rest mid : List ℕ) → PassedSoFar ps all remaining l bs rest → first_at (ps l).ends remaining rest ≡ Ok (Some (behind, b), mid) → PartBegun ps all behind b l bs mid
part_begins ps all remaining behind b l bs rest mid so_far first = record { remaining = remaining; rest = rest; so_far = so_far; next = first_some (ps l).ends remaining behind b rest mid first }

module _ (f : Formats) (levels : ℕ) (all : Remaining) where
  abbrev pub items : Limits → Parts Val Vals
  items l = items_of (values f l) (item_at (values f l) levels)

  abbrev pub pairs : Limits → Parts (Val × Val) (Pairs → Pairs)
  pairs l = pairs_of (values f l) (item_at (values f l) levels)

  abbrev pub ItemsSoFar : Remaining → Limits → List ℕ → List ℕ → Type 0
  ItemsSoFar = PassedSoFar items all

  abbrev pub PairsSoFar : Remaining → Limits → List ℕ → List ℕ → Type 0
  PairsSoFar = PassedSoFar pairs all

  pub item_passed : (behind : Remaining) (b : ℕ) (l : Limits) (bs mid after : List ℕ) → PartBegun items all behind b l bs mid → passed (after_first (values f l) (inside (values f l) levels) b mid) ≡ Ok (tt, after) → ItemsSoFar behind l bs after
  item_passed behind b l bs mid after begun is =
      let one = passed_was (after_first (values f l) (inside (values f l) levels) b mid) after is in
      sym (part_passed (items l) (taken (values f l) levels) begun.remaining begun.rest behind (b ∷ mid) after one.0 begun.next (item_from f l levels b mid ∙ one.1)) ∙ begun.so_far

  pub item_stops : (behind : Remaining) (b : ℕ) (l : Limits) (bs mid : List ℕ) (d : Fault) → PartBegun items all behind b l bs mid → passed (after_first (values f l) (inside (values f l) levels) b mid) ≡ Err d → passed (parts_at (items l) all bs) ≡ Err d
  item_stops behind b l bs mid d begun is =
      sym begun.so_far ∙ part_stops (items l) (taken (values f l) levels) begun.remaining begun.rest behind (b ∷ mid) d begun.next
      (item_from f l levels b mid ∙ passed_stops (after_first (values f l) (inside (values f l) levels) b mid) d is)

  pub items_cut : (remaining : Remaining) (l : Limits) (bs rest : List ℕ) (d : Fault) → ItemsSoFar remaining l bs rest → first_at (items l).ends remaining rest ≡ Err d → passed (parts_at (items l) all bs) ≡ Err d
  items_cut remaining l bs rest d so_far first = sym so_far ∙ parts_cut (items l) (taken (values f l) levels) remaining rest d (item_none f l levels) first

  pub items_end : (remaining : Remaining) (l : Limits) (bs rest after : List ℕ) → ItemsSoFar remaining l bs rest → first_at (items l).ends remaining rest ≡ Ok (None, after) → passed (parts_at (items l) all bs) ≡ Ok (tt, after)
  items_end remaining l bs rest after so_far first = sym so_far ∙ parts_end (items l) (taken (values f l) levels) remaining rest after first

  -- ---- pairs

  -- the key was passed over
  pub record KeyPassed (behind : Remaining) (l : Limits) (bs at_value : List ℕ) : Type 0 where
    pub first : ℕ
    pub mid : List ℕ
    pub begun : PartBegun pairs all behind first l bs mid
    pub may : may_begin_key f first ≡ true
    pub key : Val
    pub is : item_at (values f l) levels (first ∷ mid) ≡ Ok (key, at_value)

  takes : (l : Limits) (bs : List ℕ) (x : (Val × Val) × List ℕ) → (pairs l).part bs ≡ Ok x → length x.1 < length bs
  takes l = pair_taken (may_begin_key f) (item_at (values f l) levels) (taken (values f l) levels)

  pub key_passed : (behind : Remaining) (b : ℕ) (l : Limits) (bs mid at_value : List ℕ) → PartBegun pairs all behind b l bs mid → may_begin_key f b ≡ true → passed (after_first (values f l) (inside (values f l) levels) b mid) ≡ Ok (tt, at_value) → KeyPassed behind l bs at_value
  key_passed behind b l bs mid at_value begun may is =
      let one = passed_was (after_first (values f l) (inside (values f l) levels) b mid) at_value is in
      record { first = b; mid = mid; begun = begun; may = may; key = one.0; is = item_from f l levels b mid ∙ one.1 }

  pair_read : (behind : Remaining) (l : Limits) (bs at_value after : List ℕ) (k : KeyPassed behind l bs at_value) (v : Val) → item_at (values f l) levels at_value ≡ Ok (v, after) → PairsSoFar behind l bs after
  unfolding pair_at key_at
  pair_read behind l bs at_value after k v is =
      let part : (pairs l).part (k.first ∷ k.mid) ≡ Ok ((k.key, v), after) = rw (k.may, k.is, is) refl in
      sym (part_passed (pairs l) (takes l) k.begun.remaining k.begun.rest behind (k.first ∷ k.mid) after (k.key, v) k.begun.next part) ∙ k.begun.so_far

  pub pair_passed : (behind : Remaining) (l : Limits) (bs at_value after : List ℕ) → KeyPassed behind l bs at_value → passed (item_at (values f l) levels at_value) ≡ Ok (tt, after) → PairsSoFar behind l bs after
  unfolding pair_at key_at
  pair_passed behind l bs at_value after k is =
      let one = passed_was (item_at (values f l) levels at_value) after is in
      pair_read behind l bs at_value after k one.0 one.1

  pub key_refused : (behind : Remaining) (b : ℕ) (l : Limits) (bs mid : List ℕ) → PartBegun pairs all behind b l bs mid → may_begin_key f b ≡ false → passed (parts_at (pairs l) all bs) ≡ Err (before wrong_struct_format (b ∷ mid))
  unfolding pair_at key_at
  key_refused behind b l bs mid begun other =
      let part : (pairs l).part (b ∷ mid) ≡ Err (before wrong_struct_format (b ∷ mid)) = rw other refl in
      sym begun.so_far ∙ part_stops (pairs l) (takes l) begun.remaining begun.rest behind (b ∷ mid) (before wrong_struct_format (b ∷ mid)) begun.next part

  pub key_stops : (behind : Remaining) (b : ℕ) (l : Limits) (bs mid : List ℕ) (d : Fault) → PartBegun pairs all behind b l bs mid → may_begin_key f b ≡ true → passed (after_first (values f l) (inside (values f l) levels) b mid) ≡ Err d → passed (parts_at (pairs l) all bs) ≡ Err d
  unfolding pair_at key_at
  key_stops behind b l bs mid d begun may is =
      let h : item_at (values f l) levels (b ∷ mid) ≡ Err d = item_from f l levels b mid ∙ passed_stops (after_first (values f l) (inside (values f l) levels) b mid) d is in
      let part : (pairs l).part (b ∷ mid) ≡ Err d = rw (may, h) refl in
      sym begun.so_far ∙ part_stops (pairs l) (takes l) begun.remaining begun.rest behind (b ∷ mid) d begun.next part

  pub value_stops : (behind : Remaining) (l : Limits) (bs at_value : List ℕ) (d : Fault) → KeyPassed behind l bs at_value → passed (item_at (values f l) levels at_value) ≡ Err d → passed (parts_at (pairs l) all bs) ≡ Err d
  unfolding pair_at key_at
  value_stops behind l bs at_value d k is =
      let part : (pairs l).part (k.first ∷ k.mid) ≡ Err d = rw (k.may, k.is, passed_stops (item_at (values f l) levels at_value) d is) refl in
      sym k.begun.so_far ∙ part_stops (pairs l) (takes l) k.begun.remaining k.begun.rest behind (k.first ∷ k.mid) d k.begun.next part

  no_key : (l : Limits) → (pairs l).part [] ≡ Err ended
  unfolding pair_at key_at
  no_key l = refl

  pub pairs_cut : (remaining : Remaining) (l : Limits) (bs rest : List ℕ) (d : Fault) → PairsSoFar remaining l bs rest → first_at (pairs l).ends remaining rest ≡ Err d → passed (parts_at (pairs l) all bs) ≡ Err d
  pairs_cut remaining l bs rest d so_far first = sym so_far ∙ parts_cut (pairs l) (takes l) remaining rest d (no_key l) first

  pub pairs_end : (remaining : Remaining) (l : Limits) (bs rest after : List ℕ) → PairsSoFar remaining l bs rest → first_at (pairs l).ends remaining rest ≡ Ok (None, after) → passed (parts_at (pairs l) all bs) ≡ Ok (tt, after)
  pairs_end remaining l bs rest after so_far first = sym so_far ∙ parts_end (pairs l) (takes l) remaining rest after first

-- ---- what lies one level further in

one_in : (f : Formats) (l : Limits) (levels left : ℕ) → levels ≡ suc left → inside (values f l) levels ≡ Some (item_at (values f l) left)
one_in f l levels left is = ap (inside (values f l)) is

module _ (f : Formats) (l : Limits) (levels left : ℕ) (is : levels ≡ suc left) where
  pub array_passed : (r : Remaining) (bs : List ℕ) → passed (array_at (values f l) (inside (values f l) levels) indefinite r bs) ≡ passed (parts_at (items_of (values f l) (item_at (values f l) left)) r bs)
  unfolding array_at
  array_passed r bs = rw (one_in f l levels left is) (passed_map (parts_at (items_of (values f l) (item_at (values f l) left)) r bs) ((values f l).array indefinite))

  pub map_passed : (r : Remaining) (bs : List ℕ) → passed (map_at (values f l) (inside (values f l) levels) indefinite r bs) ≡ passed (parts_at (pairs_of (values f l) (item_at (values f l) left)) r bs)
  unfolding map_at
  map_passed r bs = rw (one_in f l levels left is) (passed_map (parts_at (pairs_of (values f l) (item_at (values f l) left)) r bs) ((values f l).map indefinite))

  pub tag_passed : (n : ℕ) (bs : List ℕ) → passed (tag_at (values f l) (inside (values f l) levels) no_bytes n bs) ≡ passed (item_at (values f l) left bs)
  unfolding tag_at
  tag_passed n bs = rw (one_in f l levels left is) (passed_map (item_at (values f l) left bs) ((values f l).tag no_bytes n))
