-- The fault of a map, of which some pairs were taken: what stops the next key, a value or the end stops the
-- whole item, whatever formats its keys are of.
use Rattle.std.proofs.Common.{◌≡◌, ◌==◌, inl, inr, ◌∙◌, ◌+◌, ◌<◌, ℕ, zero, suc, Bool, true, false, cond, eqb, ltb, if◌then◌else◌, List, [], ◌∷◌, length, Option, Some, None, Ok, Err, refl, sym, ap, subst, arith}
use Rattle.cbor_model.specs.Formats.{Formats, all_formats, may_begin_key}
use Rattle.cbor_model.specs.Head.{HeadWidth}
use Rattle.cbor_model.specs.Plain.{Pairs, Val, Vals}
use Rattle.cbor_model.specs.Raw.{Raw}
use Rattle.cbor_model.specs.Refusal.{end_in_map, trailing_data, wrong_struct_format}
use Rattle.cbor_model.specs.Value.{value}
use Rattle.cbor_model.specs.Reader.{Fault, Parts, Reads, Reading, ◌>>=◌, before, byte_at, ended, go_on, inside, item_at, item_by, key_at, map_at, next_at, pair_at, pairs_of, parts_at, parts_by, tag_at}
use Rattle.cbor_model.specs.Reader as reader
use Rattle.cbor_model.proofs.facts.Reader.{key_read, next_taken, ok_is, pair_taken, parts_by-fuel, taken}
use Rattle.cbor_read.specs.Source.{Input}
use Rattle.cbor_io.specs.declared.error.Error.{Error}
use Rattle.cbor_io.specs.declared.read_error.ReadErrorCode.{ReadErrorCode}
use Rattle.cbor_decode.specs.Cursor.{ended_at}
use Rattle.cbor_decode.specs.Gives.{Limits, Step, values}
use Rattle.cbor_decode.specs.Heads.{after_head, behind_head, opening_at, remaining_of}
use Rattle.cbor_decode.specs.declared.cursor.Remaining.{Remaining}
use Rattle.cbor_decode.specs.declared.cursor.Remaining.TheVariants.{Counted}
use Rattle.cbor_decode.specs.declared.head.Head.{Head}
use Rattle.cbor_decode.specs.declared.head.Head.TheVariants as head
use Rattle.cbor_decode.proofs.facts.Heads.{item_opened, value_behind}
use Rattle.cbor_decode.proofs.facts.Steps.{step_map, step_then}
use Rattle.cbor_decode_as.specs.Begins.{Begins}
use Rattle.cbor_decode_as.specs.MapAccesses.{Comes, IsKey, IsNextKey, KeyFault, begun_key, key_front, pair_front}
use Rattle.cbor_decode_as.specs.TaggedHeads.{opened_at, opened_by}
use Rattle.cbor_decode_as.specs.Takes.{IsRead, ItemFault, ReportsFault, WhereTotal, any_item, raws}
use Rattle.cbor_decode_as.proofs.facts.Readings.{any_read}
use Rattle.cbor_de.proofs.refusals.Faults.{where_map}
use Rattle.cbor_de.proofs.refusals.OwnFaults.{IsTold, if_any_then, if_told_then, reported_if_any}

fault_is : {A : Type 0} (x y : Fault) → ◌≡◌ {A = Reads A} (Err x) (Err y) → x ≡ y
fault_is x y e = cc

-- ---- what stops the item behind its head

module _ (l : Limits) where
  abbrev m : Reading Val Vals (Pairs → Pairs)
  m = values all_formats l

  -- what reads the head one level further in
  abbrev below : ℕ → Option (List ℕ → Reads (ℕ × Head))
  below zero = None
  below (suc left) = Some (opened_at left)

  -- what follows the head that is found stops the item
  module _ (left : ℕ) (h : Head) (rest : List ℕ) (d : Fault) (stopped : after_head all_formats l (inside m left) h rest ≡ Err d) where
    here : (levels : ℕ) (w : HeadWidth) (g : Head) (mid : List ℕ) → ◌≡◌ {A = (ℕ × Head) × List ℕ} ((levels, g), mid) ((left, h), rest) → behind_head m (inside m levels) w g mid ≡ Err d
    here levels w g mid same =
        value_behind all_formats l (inside m levels) w g mid
        ∙ subst (λ (o : (ℕ × Head) × List ℕ). after_head all_formats l (inside m o.0.0) o.0.1 o.1 ≡ Err d) (sym same) stopped

    by_head : (levels : ℕ) (w : HeadWidth) (g : Head) (mid : List ℕ) → ((n : ℕ) → opened_by levels (below levels) (head.Tag n) mid ≡ Ok ((left, h), rest) → tag_at m (inside m levels) w n mid ≡ Err d)
        → opened_by levels (below levels) g mid ≡ Ok ((left, h), rest) → behind_head m (inside m levels) w g mid ≡ Err d
    by_head levels w (head.Tag n) mid tag is = tag n is
    by_head levels w g mid tag is = here levels w g mid (ok_is _ _ is)

    by_opening : (levels : ℕ) (o : Reads (HeadWidth × Head)) → ((w : HeadWidth) (n : ℕ) (mid : List ℕ) → opened_by levels (below levels) (head.Tag n) mid ≡ Ok ((left, h), rest) → tag_at m (inside m levels) w n mid ≡ Err d)
        → (o >>= (λ h. opened_by levels (below levels) h.0.1 h.1)) ≡ Ok ((left, h), rest) → (o >>= (λ h. behind_head m (inside m levels) h.0.0 h.0.1 h.1)) ≡ Err d
    by_opening levels (Ok o) tag is = by_head levels o.0.0 o.0.1 o.1 (λ n. tag o.0.0 n o.1) is
    by_opening levels (Err f) tag is = absurd cc

    found_stops : (levels : ℕ) (bs : List ℕ) → opened_at levels bs ≡ Ok ((left, h), rest) → any_item levels l bs ≡ Err d
    unfolding opened_at tag_at
    found_stops zero bs is = item_opened m zero bs ∙ by_opening zero (opening_at bs) (λ w n mid none. absurd cc) is
    found_stops (suc levels) bs is =
        item_opened m (suc levels) bs
        ∙ by_opening (suc levels) (opening_at bs) (λ w n mid found. (let inner = found_stops levels mid found in rw inner refl)) is

-- ---- the pairs that remain

-- any first byte may begin a key of some format
may_begin : (b : ℕ) → may_begin_key all_formats b ≡ true
may_begin b = each (ltb b 28) (ltb b 96) (ltb b 124) (eqb b 127)
  where
    each : (p q r s : Bool) → cond p true (cond q true (cond r true (cond s true true))) ≡ true
    each true q r s = refl
    each false true r s = refl
    each false false true s = refl
    each false false false true = refl
    each false false false false = refl

-- the pairs, where so many levels are left for each key and each value
abbrev pub any_pairs : ℕ → Limits → reader.Remaining → List ℕ → Reads (Pairs → Pairs)
any_pairs left l remaining bs = parts_at (pairs_of (values all_formats l) (any_item left l)) remaining bs

module _ (l : Limits) (left : ℕ) where
  abbrev p : List ℕ → Reads Val
  p = any_item left l

  abbrev ps : Parts (Val × Val) (Pairs → Pairs)
  ps = pairs_of (values all_formats l) p

  abbrev any_key : List ℕ → Reads Val
  any_key = key_at (may_begin_key all_formats) p

  nothing : (n : ℕ) → any_item n l [] ≡ Err ended
  unfolding item_at item_by byte_at
  nothing zero = refl
  nothing (suc n) = refl

  -- a key is any item
  key_is_item : (bs : List ℕ) (v : Val) (rest : List ℕ) → p bs ≡ Ok (v, rest) → any_key bs ≡ Ok (v, rest)
  unfolding key_at
  key_is_item [] v rest is = absurd (let e = nothing left in cc)
  key_is_item (b ∷ bs) v rest is = rw (may_begin b) is

  key_stops : (bs : List ℕ) (d : Fault) → p bs ≡ Err d → any_key bs ≡ Err d
  unfolding key_at
  key_stops [] d is = sym (nothing left) ∙ is
  key_stops (b ∷ bs) d is = rw (may_begin b) is

  module _ (remaining behind : reader.Remaining) (bs start : List ℕ) (next : next_at end_in_map remaining bs ≡ Ok (Some behind, start)) where
    -- the next key stops them
    pub key_stops_pairs : (d : Fault) → p start ≡ Err d → any_pairs left l remaining bs ≡ Err d
    unfolding parts_by pair_at
    key_stops_pairs d is = let key = key_stops start d is in rw (next, key) refl

    module _ (k : Val) (mid : List ℕ) (key : p start ≡ Ok (k, mid)) where
      -- its value does
      value_stops_pairs : (d : Fault) → p mid ≡ Err d → any_pairs left l remaining bs ≡ Err d
      unfolding parts_by pair_at
      value_stops_pairs d is = let named = key_is_item start k mid key in rw (next, named, is) refl

      -- those behind it do
      others_stop_pairs : (v : Val) (after : List ℕ) (d : Fault) → p mid ≡ Ok (v, after) → any_pairs left l behind after ≡ Err d → any_pairs left l remaining bs ≡ Err d
      unfolding parts_by pair_at
      others_stop_pairs v after d is stops =
          let named = key_is_item start k mid key in
          let shorter : length after < length bs = omega (arith, taken (values all_formats l) left start (k, mid) key, taken (values all_formats l) left mid (v, after) is, next_taken end_in_map remaining bs (Some behind, start) next) in
          let fuel = parts_by-fuel ps (pair_taken (may_begin_key all_formats) p (taken (values all_formats l) left)) (length bs) (suc (length after)) behind after shorter (omega arith) in
          let others : parts_by ps (length bs) behind after ≡ Err d = fuel ∙ stops in
          rw (next, named, is, others) refl

  -- neither a key comes nor the end
  module _ (f : Formats) (d : Fault) (told : IsTold d) where
    key_cut : (bs : List ℕ) → key_front f bs ≡ Err d → pair_at (may_begin_key all_formats) p bs ≡ Err d
    unfolding pair_at key_at
    key_cut [] is = ap (λ (f : Fault). Err f) (fault_is ended d is)
    key_cut (b ∷ bs) is = by_first (may_begin_key f b) is
      where
        by_first : (c : Bool) → ◌≡◌ {A = Reads (Unit {0})} (if c then Ok (tt, b ∷ bs) else Err (before wrong_struct_format (b ∷ bs))) (Err d) → pair_at (may_begin_key all_formats) p (b ∷ bs) ≡ Err d
        by_first true is = absurd cc
        by_first false is = absurd (told.0 (ap (λ (f : Fault). f.why) (sym (fault_is (before wrong_struct_format (b ∷ bs)) d is))))

    begun_cut : (behind : reader.Remaining) (read : Reads (Unit {0})) → ◌>>=◌ {B = Option reader.Remaining × List ℕ} read (λ u. Ok (Some behind, u.1)) ≡ Err d → read ≡ Err d
    begun_cut behind (Ok x) is = absurd cc
    begun_cut behind (Err g) is = ap (λ (f : Fault). Err f) (fault_is g d is)

    next_cut : (next : Reads (Option reader.Remaining)) (others : reader.Remaining → List ℕ → Reads (Pairs → Pairs)) → (next >>= (λ n. begun_key f n.0 n.1)) ≡ Err d → (next >>= (λ n. go_on ps others n.0 n.1)) ≡ Err d
    next_cut (Err g) others is = ap (λ (f : Fault). Err f) (fault_is g d is)
    next_cut (Ok (None, bs)) others is = absurd cc
    next_cut (Ok (Some behind, bs)) others is = let part = key_cut bs (begun_cut behind (key_front f bs) is) in rw part refl

    pub front_cut : (remaining : reader.Remaining) (bs : List ℕ) → pair_front f remaining bs ≡ Err d → any_pairs left l remaining bs ≡ Err d
    unfolding parts_by
    front_cut remaining bs is = next_cut (next_at end_in_map remaining bs) (parts_by ps (length bs)) is

  pub end_cut : (remaining : reader.Remaining) (bs : List ℕ) (d : Fault) → IsTold d → ended_at end_in_map remaining bs ≡ Err d → any_pairs left l remaining bs ≡ Err d
  unfolding parts_by next_at ended_at
  end_cut (reader.counted zero) bs d told is = absurd cc
  end_cut (reader.counted (suc n)) bs d told is = absurd (told.1 (ap (λ (f : Fault). f.why) (sym (fault_is (before trailing_data bs) d is))))
  end_cut reader.to_break [] d told is = ap (λ (f : Fault). Err f) (fault_is (record { why = end_in_map; left = 0 }) d is)
  end_cut reader.to_break (b ∷ bs) d told is = by_first (b == 0xff) is
    where
      by_first : (c : Bool) → ◌≡◌ {A = Reads (Unit {0})} (if c then Ok (tt, bs) else Err (before trailing_data bs)) (Err d) → any_pairs left l reader.to_break (b ∷ bs) ≡ Err d
      by_first true is = absurd cc
      by_first false is = absurd (told.1 (ap (λ (f : Fault). f.why) (sym (fault_is (before trailing_data bs) d is))))

-- none does
none_left : (bs : List ℕ) (d : Fault) → ended_at end_in_map (remaining_of (Counted 0)) bs ≡ Err d → ⊥
unfolding ended_at
none_left bs d is = absurd cc

-- ---- the whole map

-- an item stands there, whatever formats its keys are of
abbrev pub AnyRead : ℕ → Limits → List ℕ → List ℕ → Type 0
AnyRead levels l bs rest = (v : Val) × (any_item levels l bs ≡ Ok (v, rest))

-- an item that is read as something is one
pub item_passes : {A : Type 0} (reads : Raw → A → Type 0) (f : Formats) (levels : ℕ) (x : A) (s t : Input) → Step s t (λ l bs rest. IsRead reads (item_at (raws f l) levels bs) x rest) → Step s t (AnyRead levels)
item_passes reads f levels x s t step =
    step_map s t (λ l bs rest. IsRead reads (item_at (raws f l) levels bs) x rest) (AnyRead levels) (λ l bs rest got. (value got.item, any_read f l levels bs rest got.item got.is)) step

module _ (levels left : ℕ) where
  -- What stops the pairs that remain stops the item.
  abbrev pub MapBehind : reader.Remaining → Limits → List ℕ → List ℕ → Type 0
  MapBehind remaining l bs rest = (d : Fault) → any_pairs left l remaining rest ≡ Err d → any_item levels l bs ≡ Err d

  -- What stops the value stops the item; and so does what stops the pairs behind it.
  pub record ValueBehind (behind : reader.Remaining) (l : Limits) (bs rest : List ℕ) : Type 0 where
    pub value : (d : Fault) → any_item left l rest ≡ Err d → any_item levels l bs ≡ Err d
    pub others : (after : List ℕ) → AnyRead left l rest after → MapBehind behind l bs after

  level_in : (l : Limits) → inside (values all_formats l) (left + 1) ≡ Some (any_item left l)
  level_in l = let one : left + 1 ≡ suc left = omega arith in ap (λ (n : ℕ). inside (values all_formats l) n) one

  pairs_stop : (l : Limits) (remaining : Remaining) (rest : List ℕ) (d : Fault) → any_pairs left l (remaining_of remaining) rest ≡ Err d → after_head all_formats l (inside (values all_formats l) (left + 1)) (head.Map remaining) rest ≡ Err d
  unfolding map_at
  pairs_stop l remaining rest d stops = rw (level_in l, stops) refl

  -- behind the head
  pub map_behind : (s t : Input) (remaining : Remaining) → Step s t (λ l bs rest. Begins head.Map levels left remaining bs rest) → Step s t (MapBehind (remaining_of remaining))
  map_behind s t remaining step =
      step_map s t (λ l bs rest. Begins head.Map levels left remaining bs rest) (MapBehind (remaining_of remaining)) (λ l bs rest begins d stops. found_stops l (left + 1) (head.Map remaining) rest d (pairs_stop l remaining rest d stops) levels bs begins) step

  module _ (s t : Input) (remaining : reader.Remaining) (so : Step s t (MapBehind remaining)) where
    -- behind a key
    pub value_behind_key : {K : Type 0} (keys : Raw → K → Type 0) (f : Formats) (behind : reader.Remaining) (k : K) (u : Input) → Step t u (IsNextKey keys f left remaining behind k) → Step s u (ValueBehind behind)
    value_behind_key keys f behind k u key =
        step_then s t u (MapBehind remaining) (IsNextKey keys f left remaining behind k) (ValueBehind behind)
        (λ l bs mid rest so key.
        let named = any_read f l left key.start rest key.key.item (key_read (may_begin_key f) (item_at (raws f l) left) key.start (key.key.item, rest) key.key.is).1 in
        record {
          value = λ d is. so d (value_stops_pairs l left remaining behind mid key.start key.next (value key.key.item) rest named d is);
          others = λ after got d stops. so d (others_stop_pairs l left remaining behind mid key.start key.next (value key.key.item) rest named got.0 after d got.1 stops);
        }) so key

  module _ (allowed : ReadErrorCode → Bool) (e : Error) (s t : Input) (remaining : Remaining) (so : Step s t (MapBehind (remaining_of remaining))) where
    -- the next key
    pub key_fault : (f : Formats) → KeyFault allowed (ItemFault allowed left) f remaining t e → ItemFault allowed levels s e
    key_fault f (inl h) =
        if_told_then allowed s e t (MapBehind (remaining_of remaining)) (λ l. pair_front f (remaining_of remaining)) (any_item levels) (λ l bs mid d told so is. so d (front_cut l left f d told (remaining_of remaining) mid is)) so
        (reported_if_any allowed t e (λ l. pair_front f (remaining_of remaining)) h)
    key_fault f (inr h) =
        if_any_then allowed s e h.place (λ l bs rest. (d : Fault) → any_item left l rest ≡ Err d → any_item levels l bs ≡ Err d) (any_item left) (any_item levels) (λ l bs mid d so is. so d is)
        (step_then s t h.place (MapBehind (remaining_of remaining)) (λ l bs rest. next_at end_in_map (remaining_of remaining) bs ≡ Ok (Some (remaining_of h.behind), rest)) (λ l bs rest. (d : Fault) → any_item left l rest ≡ Err d → any_item levels l bs ≡ Err d)
        (λ l bs mid rest so next d is. so d (key_stops_pairs l left (remaining_of remaining) (remaining_of h.behind) mid rest next d is)) so h.step) h.holds

    -- the end
    pub end_fault : ReportsFault allowed (λ l. ended_at end_in_map (remaining_of remaining)) t e → ItemFault allowed levels s e
    end_fault h =
        if_told_then allowed s e t (MapBehind (remaining_of remaining)) (λ l. ended_at end_in_map (remaining_of remaining)) (any_item levels) (λ l bs mid d told so is. so d (end_cut l left (remaining_of remaining) mid d told is)) so
        (reported_if_any allowed t e (λ l. ended_at end_in_map (remaining_of remaining)) h)

  module _ (s u : Input) (behind : reader.Remaining) (due : Step s u (ValueBehind behind)) where
    -- behind the value
    pub others_behind_value : (w : Input) → Step u w (AnyRead left) → Step s w (MapBehind behind)
    others_behind_value w got = step_then s u w (ValueBehind behind) (AnyRead left) (MapBehind behind) (λ l bs mid rest due got. due.others rest got) due got

    -- the value
    pub value_fault : (allowed : ReadErrorCode → Bool) (e : Error) → ItemFault allowed left u e → ItemFault allowed levels s e
    value_fault allowed e = if_any_then allowed s e u (ValueBehind behind) (any_item left) (any_item levels) (λ l bs mid d due is. due.value d is) due

-- ---- a loop over the pairs

module _ {K : Type 0} (keys : Raw → K → Type 0) (levels left : ℕ) {s t : Input} (r : Remaining) (so : Step s t (MapBehind levels left (remaining_of r)))
    (f : Formats) (next : Option K) (new : Remaining) {u : Input} (key : Step t u (IsKey keys f left (remaining_of r) (remaining_of new) next)) where
  module _ (k : K) (named : next ≡ Some k) where
    value_due : Step s u (ValueBehind levels left (remaining_of new))
    value_due =
        let there = subst (λ (o : Option K). Step t u (IsKey keys f left (remaining_of r) (remaining_of new) o)) named key in
        value_behind_key levels left s t (remaining_of r) so keys f (remaining_of new) k u there

    -- the value was taken
    pub pair_goes_on : {n m : ℕ} {w : Input} → n ≡ left → m ≡ n → Step u w (AnyRead n) → Step s w (MapBehind levels m (remaining_of new))
    pair_goes_on {n} {m} {w} inside same got =
        let here = subst (λ (n : ℕ). Step u w (AnyRead n)) inside got in
        subst (λ (n : ℕ). Step s w (MapBehind levels n (remaining_of new))) (sym (same ∙ inside)) (others_behind_value levels left s u (remaining_of new) value_due w here)

    -- or reports the fault
    pub value_told : {n : ℕ} (allowed : ReadErrorCode → Bool) (e : Error) (reports : Bool) → n ≡ left → WhereTotal reports (ItemFault allowed n u e) → WhereTotal reports (ItemFault allowed levels s e)
    value_told {n} allowed e reports inside h =
        where_map reports (λ fault. value_fault levels left s u (remaining_of new) value_due allowed e (subst (λ (n : ℕ). ItemFault allowed n u e) inside fault)) h

  -- no pair comes, and the end is there
  pub end_told : (allowed : ReadErrorCode → Bool) (e : Error) → new ≡ Counted 0 → ReportsFault allowed (λ l. ended_at end_in_map (remaining_of new)) u e → ItemFault allowed levels s e
  end_told allowed e nothing h =
      if_any_then allowed s e u (λ l bs rest. Unit {0}) (λ l. ended_at end_in_map (remaining_of (Counted 0))) (any_item levels) (λ l bs mid d any is. absurd (none_left mid d is))
      (step_then s t u (MapBehind levels left (remaining_of r)) (IsKey keys f left (remaining_of r) (remaining_of new) next) (λ l bs rest. Unit {0}) (λ l bs mid rest one two. tt) so key)
      (reported_if_any allowed u e (λ l. ended_at end_in_map (remaining_of (Counted 0))) (subst (λ (n : Remaining). ReportsFault allowed (λ l. ended_at end_in_map (remaining_of n)) u e) nothing h))

-- ---- a key, as its type reports its faults

-- what is claimed of the key that comes, where its type's refusals report the faults of the bytes
abbrev pub Own : (ReadErrorCode → Bool) → ℕ → Bool → Input → Error → Type 0
Own allowed left reports t e = WhereTotal reports (ItemFault allowed left t e)

-- of a key that came
pub own_key_comes : (allowed : ReadErrorCode → Bool) (f : Formats) (left : ℕ) (r : Remaining) (s : Input) (e : Error) (reports : Bool) (new : Remaining) (m : Input) (inside : ℕ) → inside ≡ left
    → Step s m (λ l bs rest. Comes f (remaining_of r) (remaining_of new) true bs rest) → WhereTotal reports (ItemFault allowed inside m e) → KeyFault allowed (Own allowed left reports) f r s e
own_key_comes allowed f left r s e reports new m inside same step h = inr (record {
  behind = new;
  place = m;
  step = step_map s m (λ l bs rest. Comes f (remaining_of r) (remaining_of new) true bs rest) (λ l bs rest. next_at end_in_map (remaining_of r) bs ≡ Ok (Some (remaining_of new), rest)) (λ l bs rest comes. comes.0) step;
  holds = subst (λ (n : ℕ). WhereTotal reports (ItemFault allowed n m e)) same h;
})

-- and so of the map
pub key_told : (levels left : ℕ) (allowed : ReadErrorCode → Bool) (e : Error) (s t : Input) (r : Remaining) → Step s t (MapBehind levels left (remaining_of r)) → (f : Formats) (reports : Bool) → KeyFault allowed (Own allowed left reports) f r t e → WhereTotal reports (ItemFault allowed levels s e)
key_told levels left allowed e s t r so f true h = key_fault levels left allowed e s t r so f h
key_told levels left allowed e s t r so f false h = tt
