-- Where a scan stands, step by step.
use Rattle.std.proofs.Common.{◌≡◌, ◌∙◌, ◌<◌, ◌≤◌, ◌+◌, ◌-◌, ◌^◌, ℕ, suc, true, false, List, [], ◌∷◌, ◌++◌, length, drop, None, Ok, Err, refl, sym, ap, subst, arith, inl}
use Rattle.std.proofs.lemmas.List.{append-nil, append_assoc, length-append, length-drop, drop-drop}
use Rattle.cbor_model.specs.Formats.{all_formats}
use Rattle.cbor_model.specs.Plain.{Val}
use Rattle.cbor_model.specs.Raw.{Raw, AreBytes}
use Rattle.cbor_model.specs.RawReader.{Begins}
use Rattle.cbor_model.specs.Spelling.{spell}
use Rattle.cbor_model.specs.Value.{value}
use Rattle.cbor_model.specs.Reader.{Reads, ◌>>=◌, item_at}
use Rattle.cbor_model.proofs.facts.Reader.{item_found, ok_is, value_again}
use Rattle.cbor_decode.specs.Gives.{Limits}
use Rattle.cbor_decode.specs.HasChunks.{raws}
use Rattle.cbor_decode.specs.Heads.{passed}
use Rattle.cbor_decode.specs.declared.cursor.Remaining.TheVariants.{Counted}
use Rattle.cbor_decode.proofs.facts.Readings.{along, value_seen}
use Rattle.cbor_decode.proofs.facts.Steps.{passed_was}
use Rattle.cbor_pushed.specs.Rests.{all_at, around_at, behind, ends_by, is_over, reading, rest_at}
use Rattle.cbor_pushed.specs.Scanned.{Follows, IsWhole, Left, HasHead, HasScanned, Steps}
use Rattle.cbor_pushed.specs.declared.rest.Rest.{Rest}
use Rattle.cbor_pushed.specs.declared.rest.Rest.TheVariants.{Items}
use Rattle.cbor_pushed.specs.declared.scan.Scan.{Scan}
use Rattle.cbor_pushed.specs.declared.scan.Step.{Step}
use Rattle.cbor_pushed.specs.declared.scan.Step.TheVariants.{Went, Whole, Unfinished}
use Rattle.cbor_pushed.proofs.GoesOn.{broken, item_due, one, over}

-- ---- results

unit_then : (r : Reads (Unit {0})) → (r >>= (λ x. Ok (tt, x.1))) ≡ r
unit_then (Ok x) = refl
unit_then (Err d) = refl

assoc : (r : Reads (Unit {0})) (f g : List ℕ → Reads (Unit {0})) → ((r >>= (λ x. f x.1)) >>= (λ x. g x.1)) ≡ (r >>= (λ x. f x.1 >>= (λ y. g y.1)))
assoc (Ok x) f g = refl
assoc (Err d) f g = refl

-- a value that isn't kept, and then more
value_then : (r : Reads Val) (f g : List ℕ → Reads (Unit {0})) → ((r >>= (λ x. f x.1)) >>= (λ x. g x.1)) ≡ (passed r >>= (λ x. f x.1 >>= (λ y. g y.1)))
value_then (Ok x) f g = refl
value_then (Err d) f g = refl

-- ---- items

seen_was : (read : Reads Raw) (v : Val) (rest : List ℕ) → along value read ≡ Ok (v, rest) → (r : Raw) × (read ≡ Ok (r, rest))
seen_was (Ok x) v rest e = (x.0, ap (λ (p : Val × List ℕ). Ok (x.0, p.1)) (ok_is (value x.0, x.1) (v, rest) e))
seen_was (Err f) v rest e = absurd cc

-- an item that is passed over stands at the front
pub stands_there : (levels total : ℕ) (bs rest : List ℕ) → AreBytes bs → passed (item_at (reading total) levels bs) ≡ Ok (tt, rest) → (r : Raw) × Begins levels bs r rest
stands_there levels total bs rest fits is =
    let l : Limits = record { total = total; room = None } in
    let read = passed_was (item_at (reading total) levels bs) rest is in
    let spelt = seen_was (item_at (raws all_formats l) levels bs) read.0 rest (sym (value_seen all_formats l levels bs) ∙ read.1) in
    (spelt.0, (item_found all_formats total None levels bs rest spelt.0 fits spelt.1).0)

-- and is passed over whatever is added
pub passed_again : (levels total : ℕ) (bs rest : List ℕ) (r : Raw) → total < 2 ^ 64 → length bs ≤ total → Begins levels bs r rest → passed (item_at (reading total) levels bs) ≡ Ok (tt, rest)
passed_again levels total bs rest r short within begins =
    let read = value_again levels total None r rest short (omega (arith, ap length begins.spelled)) tt begins.acceptable in
    ap (λ (l : List ℕ). passed (item_at (reading total) levels l)) begins.spelled ∙ ap passed read

item_more : (levels total total' : ℕ) (bs rest more : List ℕ) → AreBytes bs → total' < 2 ^ 64 → length (bs ++ more) ≤ total'
    → passed (item_at (reading total) levels bs) ≡ Ok (tt, rest) → passed (item_at (reading total') levels (bs ++ more)) ≡ Ok (tt, rest ++ more)
item_more levels total total' bs rest more fits short within is =
    let there = stands_there levels total bs rest fits is in
    let r = there.0 in
    let spelled : bs ++ more ≡ spell r ++ (rest ++ more) = ap (λ (l : List ℕ). l ++ more) there.1.spelled ∙ append_assoc (spell r) rest more in
    passed_again levels total' (bs ++ more) (rest ++ more) r short within (record { spelled = spelled; acceptable = there.1.acceptable })

-- ---- those around

around_more : (total levels : ℕ) (around : List Rest) (r : Rest) (bs : List ℕ)
    → around_at total levels (around ++ (r ∷ [])) bs ≡ (rest_at total (levels - length around) r bs >>= (λ x. around_at total levels around x.1))
unfolding around_at
around_more total levels [] r bs =
    let e : levels - 0 ≡ levels = omega arith in
    rw e (sym (unit_then (rest_at total levels r bs)))
around_more total levels (o ∷ os) r bs =
    let e : levels - 1 - length os ≡ levels - suc (length os) = omega arith in
    ap (λ (read : Reads (Unit {0})). read >>= (λ x. rest_at total levels o x.1)) (around_more total (levels - 1) os r bs)
    ∙ assoc (rest_at total (levels - 1 - length os) r bs) (around_at total (levels - 1) os) (rest_at total levels o)
    ∙ ap (λ (n : ℕ). rest_at total n r bs >>= (λ x. around_at total (levels - 1) os x.1 >>= (λ y. rest_at total levels o y.1))) e

-- ---- steps

-- nothing was passed
pub begun : (levels : ℕ) (front : List ℕ) → HasScanned levels 0 0 (Items (Counted 1)) [] front
unfolding around_at
begun levels front = record {
  within = omega arith;
  nested = omega arith;
  passed_chunks = inl refl;
  same = λ more short.
      let total = length (front ++ more) in
      let e : levels - 0 ≡ levels = omega arith in
      rw e (sym (one total levels (front ++ more)) ∙ sym (unit_then (rest_at total levels (Items (Counted 1)) (front ++ more))));
}

module _ (levels at chunks : ℕ) (innermost : Rest) (around : List Rest) (front : List ℕ) (s : HasScanned levels at chunks innermost around front) where
  abbrev left : ℕ
  left = levels - length around

  abbrev total : List ℕ → ℕ
  total more = length (front ++ more)

  abbrev to_come : List ℕ → List ℕ
  to_come more = drop at front ++ more

  -- how much is to come is no more than all
  few : (more : List ℕ) → length (to_come more) ≤ total more
  few more = omega (arith, length-append (drop at front) more, length-append front more, length-drop at front)

  -- the innermost ends, whatever is added
  abbrev pub EndsAtPlace : ℕ → Type 0
  EndsAtPlace end = (total : ℕ) (more : List ℕ) → rest_at total left innermost (to_come more) ≡ Ok (tt, drop end front ++ more)

  pub left_for : (end : ℕ) (r : Rest) (others : List Rest) → end ≤ length front → EndsAtPlace end → around ≡ others ++ (r ∷ []) → HasScanned levels end 0 r others front
  left_for end r others within ends is = record {
    within = within;
    nested = omega (arith, s.nested, ap length is, length-append others (r ∷ []));
    passed_chunks = inl refl;
    same = λ more short.
        s.same more short
        ∙ ap (λ (read : Reads (Unit {0})). read >>= (λ x. around_at (total more) levels around x.1)) (ends (total more) more)
        ∙ ap (λ (rs : List Rest). around_at (total more) levels rs (drop end front ++ more)) is
        ∙ around_more (total more) levels others r (drop end front ++ more);
  }

  pub left_last : (end : ℕ) → end ≤ length front → EndsAtPlace end → around ≡ [] → HasScanned levels end 0 (Items (Counted 0)) [] front
  unfolding around_at
  left_last end within ends is = record {
    within = within;
    nested = omega arith;
    passed_chunks = inl refl;
    same = λ more short.
        s.same more short
        ∙ ap (λ (read : Reads (Unit {0})). read >>= (λ x. around_at (total more) levels around x.1)) (ends (total more) more)
        ∙ ap (λ (rs : List Rest). around_at (total more) levels rs (drop end front ++ more)) is
        ∙ sym (ap (λ (read : Reads (Unit {0})). read >>= (λ x. Ok (tt, x.1))) (over (total more) (levels - 0) (Items (Counted 0)) (drop end front ++ more) refl));
  }

  -- ---- an item is due

  module _ (b : ℕ) (tail : List ℕ) (byte : drop at front ≡ b ∷ tail) (goes_on : is_over innermost ≡ false) (no_end : ends_by innermost b ≡ false) where
    due : (total : ℕ) (more : List ℕ) → rest_at total left innermost (to_come more) ≡ (item_at (reading total) left (to_come more) >>= (λ x. rest_at total left (behind innermost) x.1))
    due total more =
        subst (λ (l : List ℕ). rest_at total left innermost (l ++ more) ≡ (item_at (reading total) left (l ++ more) >>= (λ x. rest_at total left (behind innermost) x.1)))
        (sym byte) (item_due total left innermost b (tail ++ more) goes_on no_end)

    -- what is to come is an item, and then the rest
    then : (more : List ℕ) → length (front ++ more) < 2 ^ 64
        → passed (item_at (reading (total more)) levels (front ++ more))
        ≡ (passed (item_at (reading (total more)) left (to_come more)) >>= (λ x. rest_at (total more) left (behind innermost) x.1 >>= (λ y. around_at (total more) levels around y.1)))
    then more short =
        s.same more short
        ∙ ap (λ (read : Reads (Unit {0})). read >>= (λ x. around_at (total more) levels around x.1)) (due (total more) more)
        ∙ value_then (item_at (reading (total more)) left (to_come more)) (rest_at (total more) left (behind innermost)) (around_at (total more) levels around)

    -- it was passed
    pub item_passed : (end : ℕ) → AreBytes (drop at front) → end ≤ length front → passed (item_at (reading (length front)) left (drop at front)) ≡ Ok (tt, drop end front)
        → HasScanned levels end 0 (behind innermost) around front
    item_passed end fits within is = record {
      within = within;
      nested = s.nested;
      passed_chunks = inl refl;
      same = λ more short.
          then more short
          ∙ ap (λ (read : Reads (Unit {0})). read >>= (λ x. rest_at (total more) left (behind innermost) x.1 >>= (λ y. around_at (total more) levels around y.1)))
          (item_more left (length front) (total more) (drop at front) (drop end front) more fits short (few more) is);
    }

    -- it was entered
    pub entered : (r : Rest) (n : ℕ) → length around < levels → HasHead (drop at front) r n → HasScanned levels (at + n) 0 r (around ++ (behind innermost ∷ [])) front
    entered r n deeper opens = record {
      within = omega (arith, opens.within, length-drop at front);
      nested = omega (arith, length-append around (behind innermost ∷ []));
      passed_chunks = inl refl;
      same = λ more short.
          let inner = levels - length (around ++ (behind innermost ∷ [])) in
          let e : left ≡ suc inner = omega (arith, length-append around (behind innermost ∷ [])) in
          let here = ap (λ (l : List ℕ). l ++ more) (drop-drop n at front) in
          let head = ap (λ (k : ℕ). passed (item_at (reading (total more)) k (to_come more))) e ∙ opens.whole (total more) inner more ∙ ap (rest_at (total more) inner r) here in
          then more short
          ∙ ap (λ (read : Reads (Unit {0})). read >>= (λ x. rest_at (total more) left (behind innermost) x.1 >>= (λ y. around_at (total more) levels around y.1))) head
          ∙ after (total more) inner (drop (at + n) front ++ more);
    }
      where
        after : (total inner : ℕ) (bs : List ℕ)
            → (rest_at total inner r bs >>= (λ x. rest_at total left (behind innermost) x.1 >>= (λ y. around_at total levels around y.1)))
            ≡ (rest_at total inner r bs >>= (λ x. around_at total levels (around ++ (behind innermost ∷ [])) x.1))
        after total inner bs = by_read (rest_at total inner r bs)
          where
            by_read : (read : Reads (Unit {0}))
                → (read >>= (λ x. rest_at total left (behind innermost) x.1 >>= (λ y. around_at total levels around y.1)))
                ≡ (read >>= (λ x. around_at total levels (around ++ (behind innermost ∷ [])) x.1))
            by_read (Ok x) = sym (around_more total levels around (behind innermost) x.1)
            by_read (Err d) = refl

-- ---- what is left

-- the same of equal places
stands_same : (levels at at' chunks chunks' : ℕ) (i i' : Rest) (around around' : List Rest) (front : List ℕ) → at' ≡ at → chunks' ≡ chunks → i' ≡ i → around' ≡ around
    → HasScanned levels at chunks i around front → HasScanned levels at' chunks' i' around' front
stands_same levels at at' chunks chunks' i i' around around' front p q r t s =
    subst (λ (n : ℕ). HasScanned levels n chunks' i' around' front) (sym p)
    (subst (λ (n : ℕ). HasScanned levels at n i' around' front) (sym q)
    (subst (λ (o : Rest). HasScanned levels at chunks o around' front) (sym r)
    (subst (λ (os : List Rest). HasScanned levels at chunks i os front) (sym t) s)))

-- whole, where nothing is to come
pub whole_now : (levels end : ℕ) (front : List ℕ) → length front < 2 ^ 64 → HasScanned levels end 0 (Items (Counted 0)) [] front → IsWhole levels front end
unfolding around_at
whole_now levels end front short s =
    let P : List ℕ → List ℕ → Type 0 = λ all here. passed (item_at (reading (length all)) levels all) ≡ all_at (length all) levels [] (Items (Counted 0)) here in
    let fewer : length (front ++ []) < 2 ^ 64 = omega (arith, length-append {A = ℕ} front []) in
    let now : P front (drop end front) = subst (λ (l : List ℕ). P l (drop end front)) (append-nil front) (subst (λ (l : List ℕ). P (front ++ []) l) (append-nil (drop end front)) (s.same [] fewer)) in
    (s.within, now ∙ ap (λ (read : Reads (Unit {0})). read >>= (λ x. Ok (tt, x.1))) (over (length front) (levels - 0) (Items (Counted 0)) (drop end front) refl))

module _ (levels : ℕ) (old new : Scan) (front : List ℕ) (s : Follows levels old front) (end : ℕ) (within : end ≤ length front) (ends : EndsAtPlace levels old.at old.chunks old.innermost old.around.items front s end) where
  pub left_stands : (did : Step) → Left old end new did → Follows levels new front
  left_stands Went h =
      stands_same levels end new.at 0 new.chunks new.innermost new.innermost new.around.items new.around.items front h.0 h.1 refl refl
      (left_for levels old.at old.chunks old.innermost old.around.items front s end new.innermost new.around.items within ends h.2)
  left_stands Whole h =
      stands_same levels end new.at 0 new.chunks (Items (Counted 0)) new.innermost [] new.around.items front h.0 h.1 h.4 h.3
      (left_last levels old.at old.chunks old.innermost old.around.items front s end within ends h.2)
  left_stands Unfinished h = absurd h

  pub left_steps : length front < 2 ^ 64 → old.at ≤ end → (did : Step) → Left old end new did → Steps levels front old new (Ok did)
  left_steps short further Went h = omega (arith, h.0, further, ap length h.2, length-append new.around.items (new.innermost ∷ []))
  left_steps short further Whole h =
      subst (λ (n : ℕ). IsWhole levels front n) (sym h.0)
      (whole_now levels end front short (left_last levels old.at old.chunks old.innermost old.around.items front s end within ends h.2))
  left_steps short further Unfinished h = absurd h

-- the innermost ends by the byte that comes
pub broken_place : (levels : ℕ) (scan : Scan) (front : List ℕ) (b : ℕ) (s : Follows levels scan front) → drop scan.at front ≡ b ∷ drop (scan.at + 1) front → ends_by scan.innermost b ≡ true
    → EndsAtPlace levels scan.at scan.chunks scan.innermost scan.around.items front s (scan.at + 1)
broken_place levels scan front b s byte ends = λ total more.
    let left = levels - length scan.around.items in
    let rest = drop (scan.at + 1) front in
    ap (λ (l : List ℕ). rest_at total left scan.innermost (l ++ more)) byte ∙ broken total left scan.innermost b (rest ++ more) ends
