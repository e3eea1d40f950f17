-- Reading items one after the other, as a loop does.
use Rattle.std.proofs.Common.{◌≡◌, ℕ, zero, suc, ◌<◌, List, [], ◌∷◌, ◌++◌, length, Option, Some, None, Ok, Err, refl, sym, ap, ap₂, ◌∙◌, arith, ◌⊎◌, inl, inr}
use Rattle.cbor_model.specs.Formats.{Formats}
use Rattle.cbor_model.specs.Plain.{Val, Vals, no_vals, val}
use Rattle.cbor_model.specs.Refusal.{Refusal, end_in_array}
use Rattle.cbor_model.specs.Reader.{Fault, Reads, ◌>>=◌, ended, byte_at, Remaining, next_at, parts_by, parts_at, items_of, counted, after_first, item_by, item_at, inside}
use Rattle.cbor_model.proofs.facts.Reader.{ok_is, taken, next_taken, parts_by-fuel}
use Rattle.cbor_value.specs.View.{vals_of}
use Rattle.cbor_decode.specs.Gives.{Limits, values}
use Rattle.cbor_decode.specs.Heads.{first_at, first_behind}

-- ---- the first byte of a part

-- an item begins with its first byte
pub item_from : (f : Formats) (l : Limits) (levels b : ℕ) (bs : List ℕ) → item_at (values f l) levels (b ∷ bs) ≡ after_first (values f l) (inside (values f l) levels) b bs
unfolding item_at item_by byte_at
item_from f l zero b bs = refl
item_from f l (suc levels) b bs = refl

pub item_none : (f : Formats) (l : Limits) (levels : ℕ) → item_at (values f l) levels [] ≡ Err ended
unfolding item_at item_by byte_at
item_none f l zero = refl
item_none f l (suc levels) = refl

none_is_some : (x : Remaining × ℕ) → None ≡ Some x → ⊥
none_is_some x e = absurd cc

some_is : (x y : Remaining × ℕ) → Some x ≡ Some y → x ≡ y
some_is x y e = cc

behind_some : (n : Reads (Option Remaining)) (r : Remaining) (b : ℕ) (mid : List ℕ) → (n >>= (λ next. first_behind next.0 next.1)) ≡ Ok (Some (r, b), mid) → n ≡ Ok (Some r, b ∷ mid)
unfolding byte_at
behind_some (Err f) r b mid e = absurd cc
behind_some (Ok (None, bs)) r b mid e = absurd (none_is_some (r, b) (ap (λ (p : Option (Remaining × ℕ) × List ℕ). p.0) (ok_is (None, bs) (Some (r, b), mid) e)))
behind_some (Ok (Some q, [])) r b mid e = absurd cc
behind_some (Ok (Some q, c ∷ bs)) r b mid e =
    let same = ok_is (Some (q, c), bs) (Some (r, b), mid) e in
    let pair = some_is (q, c) (r, b) (ap (λ (p : Option (Remaining × ℕ) × List ℕ). p.0) same) in
    ap₂ (λ (p : Remaining × ℕ) (l : List ℕ). Ok (Some p.0, p.1 ∷ l)) pair (ap (λ (p : Option (Remaining × ℕ) × List ℕ). p.1) same)

behind_none : (n : Reads (Option Remaining)) (mid : List ℕ) → (n >>= (λ next. first_behind next.0 next.1)) ≡ Ok (None, mid) → n ≡ Ok (None, mid)
unfolding byte_at
behind_none (Err f) mid e = absurd cc
behind_none (Ok (None, bs)) mid e = ap (λ (p : Option (Remaining × ℕ) × List ℕ). Ok (None, p.1)) (ok_is (None, bs) (None, mid) e)
behind_none (Ok (Some q, [])) mid e = absurd cc
behind_none (Ok (Some q, c ∷ bs)) mid e = absurd (none_is_some (q, c) (sym (ap (λ (p : Option (Remaining × ℕ) × List ℕ). p.0) (ok_is (Some (q, c), bs) (None, mid) e))))

behind_err : (n : Reads (Option Remaining)) (f : Fault) → (n >>= (λ next. first_behind next.0 next.1)) ≡ Err f → (n ≡ Err f) ⊎ ((r : Remaining) × (n ≡ Ok (Some r, [])) × (f ≡ ended))
unfolding byte_at
behind_err (Err g) f e = inl cc
behind_err (Ok (None, bs)) f e = absurd cc
behind_err (Ok (Some q, [])) f e = inr (q, refl, cc)
behind_err (Ok (Some q, c ∷ bs)) f e = absurd cc

pub first_some : (why : Refusal) (remaining r : Remaining) (b : ℕ) (bs mid : List ℕ) → first_at why remaining bs ≡ Ok (Some (r, b), mid) → next_at why remaining bs ≡ Ok (Some r, b ∷ mid)
first_some why remaining r b bs mid e = behind_some (next_at why remaining bs) r b mid e

pub first_none : (why : Refusal) (remaining : Remaining) (bs mid : List ℕ) → first_at why remaining bs ≡ Ok (None, mid) → next_at why remaining bs ≡ Ok (None, mid)
first_none why remaining bs mid e = behind_none (next_at why remaining bs) mid e

pub first_err : (why : Refusal) (remaining : Remaining) (bs : List ℕ) (f : Fault) → first_at why remaining bs ≡ Err f → (next_at why remaining bs ≡ Err f) ⊎ ((r : Remaining) × (next_at why remaining bs ≡ Ok (Some r, [])) × (f ≡ ended))
first_err why remaining bs f e = behind_err (next_at why remaining bs) f e

-- ---- items

-- these values, and then those
abbrev pub append : List Val → Vals → Vals
append [] vs = vs
append (v ∷ front) vs = val v (append front vs)

append-push : (front : List Val) (v : Val) (vs : Vals) → append (front ++ v ∷ []) vs ≡ append front (val v vs)
append-push [] v vs = refl
append-push (w ∷ front) v vs = ap (val w) (append-push front v vs)

append-none : (front : List Val) → append front no_vals ≡ vals_of front
append-none [] = refl
append-none (w ∷ front) = ap (val w) (append-none front)

-- what was read before, and what is still read
abbrev pub with_front : List Val → Reads Vals → Reads Vals
with_front front read = read >>= λ x. Ok (append front x.0, x.1)

regroup : (front : List Val) (v : Val) (read : Reads Vals) → with_front front (read >>= λ x. Ok (val v x.0, x.1)) ≡ with_front (front ++ v ∷ []) read
regroup front v (Ok x) = ap (λ (vs : Vals). Ok (vs, x.1)) (sym (append-push front v x.0))
regroup front v (Err f) = refl

-- ---- an item alone

ended_is_ok : (r : Reads Val) (x : Val × List ℕ) → r ≡ Err ended → r ≡ Ok x → ⊥
ended_is_ok r x none is = absurd cc

module _ (f : Formats) (l : Limits) (levels : ℕ) where
  pub one_read : (bs rest : List ℕ) (v : Val) → item_at (values f l) levels bs ≡ Ok (v, rest) → parts_at (items_of (values f l) (item_at (values f l) levels)) (counted 1) bs ≡ Ok (val v no_vals, rest)
  unfolding next_at parts_by
  one_read [] rest v is = absurd (ended_is_ok (item_at (values f l) levels []) (v, rest) (item_none f l levels) is)
  one_read (b ∷ bs) rest v is = rw is refl

  pub one_stops : (bs : List ℕ) (d : Fault) → item_at (values f l) levels bs ≡ Err d → parts_at (items_of (values f l) (item_at (values f l) levels)) (counted 1) bs ≡ Err d
  unfolding next_at parts_by
  one_stops bs d is = rw is refl

module _ (f : Formats) (levels : ℕ) (all : Remaining) (front : List Val) where
  -- the items that remain
  abbrev values_at : Limits → Remaining → List ℕ → Reads Vals
  values_at l remaining bs = parts_at (items_of (values f l) (item_at (values f l) levels)) remaining bs

  -- the items so far, and those that remain of all
  abbrev pub SoFar : Remaining → Limits → List ℕ → List ℕ → Type 0
  SoFar remaining l bs rest = with_front front (values_at l remaining rest) ≡ values_at l all bs

  pub items_begin : (l : Limits) (bs : List ℕ) → front ≡ [] → SoFar all l bs bs
  items_begin l bs none = ap (λ (e : List Val). with_front e (values_at l all bs)) none ∙ nothing (values_at l all bs)
    where
      nothing : (read : Reads Vals) → with_front [] read ≡ read
      nothing (Ok x) = refl
      nothing (Err d) = refl

  -- an item begins with b, after which this remains
  pub record ItemBegun (behind : Remaining) (b : ℕ) (l : Limits) (bs mid : List ℕ) : Type 0 where
    pub remaining : Remaining
    pub rest : List ℕ
    pub so_far : SoFar remaining l bs rest
    pub next : next_at end_in_array remaining rest ≡ Ok (Some behind, b ∷ mid)

  pub item_begins : (remaining behind : Remaining) (b : ℕ) (l : Limits) (bs rest mid : List ℕ) → SoFar remaining l bs rest → first_at end_in_array remaining rest ≡ Ok (Some (behind, b), mid) → ItemBegun behind b l bs mid
  item_begins remaining behind b l bs rest mid so_far first = record { remaining = remaining; rest = rest; so_far = so_far; next = first_some end_in_array remaining behind b rest mid first }

  pub goes_on : (behind : Remaining) (b : ℕ) (l : Limits) (bs mid after : List ℕ) (v : Val) → ItemBegun behind b l bs mid → after_first (values f l) (inside (values f l) levels) b mid ≡ Ok (v, after)
      → with_front (front ++ v ∷ []) (values_at l behind after) ≡ values_at l all bs
  unfolding parts_by
  goes_on behind b l bs mid after v begun is =
      let m = values f l in
      let ps = items_of m (item_at m levels) in
      let rest = begun.rest in
      let remaining = begun.remaining in
      let h : item_at m levels (b ∷ mid) ≡ Ok (v, after) = item_from f l levels b mid ∙ is in
      let shorter : length after < length rest = omega (arith, taken m levels (b ∷ mid) (v, after) h, next_taken end_in_array remaining rest (Some behind, b ∷ mid) begun.next) in
      let fuel = parts_by-fuel ps (taken m levels) (length rest) (suc (length after)) behind after shorter (omega arith) in
      let one : with_front front (values_at l remaining rest) ≡ with_front (front ++ v ∷ []) (values_at l behind after) = rw (begun.next, h) (regroup front v (parts_by ps (length rest) behind after) ∙ ap (with_front (front ++ v ∷ [])) fuel) in
      sym one ∙ begun.so_far

  pub faulted : (behind : Remaining) (b : ℕ) (l : Limits) (bs mid : List ℕ) (d : Fault) → ItemBegun behind b l bs mid → after_first (values f l) (inside (values f l) levels) b mid ≡ Err d → values_at l all bs ≡ Err d
  unfolding parts_by
  faulted behind b l bs mid d begun is =
      let h : item_at (values f l) levels (b ∷ mid) ≡ Err d = item_from f l levels b mid ∙ is in
      let one : with_front front (values_at l begun.remaining begun.rest) ≡ Err d = rw (begun.next, h) refl in
      sym begun.so_far ∙ one

  pub cut : (remaining : Remaining) (l : Limits) (bs rest : List ℕ) (d : Fault) → SoFar remaining l bs rest → first_at end_in_array remaining rest ≡ Err d → values_at l all bs ≡ Err d
  unfolding parts_by
  cut remaining l bs rest d so_far first = elim (first_err end_in_array remaining rest d first) [
    | inl next ↦
        let one : with_front front (values_at l remaining rest) ≡ Err d = rw next refl in
        sym so_far ∙ one
    | inr w ↦
        let none : item_at (values f l) levels [] ≡ Err d = item_none f l levels ∙ ap (λ (g : Fault). Err g) (sym w.2) in
        let one : with_front front (values_at l remaining rest) ≡ Err d = rw (w.1, none) refl in
        sym so_far ∙ one
  ]

  pub is_done : (remaining : Remaining) (l : Limits) (bs rest after : List ℕ) → SoFar remaining l bs rest → first_at end_in_array remaining rest ≡ Ok (None, after) → values_at l all bs ≡ Ok (vals_of front, after)
  unfolding parts_by
  is_done remaining l bs rest after so_far first =
      let next = first_none end_in_array remaining rest after first in
      let one : with_front front (values_at l remaining rest) ≡ Ok (vals_of front, after) = rw next (ap (λ (vs : Vals). Ok (vs, after)) (append-none front)) in
      sym so_far ∙ one
