-- The reference reader's refusal is the first that the bytes allow.
use Rattle.std.proofs.Common.{◌≡◌, ◌⊎◌, ℕ, zero, suc, ◌+◌, ◌-◌, ◌^◌, ◌<◌, ◌≤◌, Bool, true, false, cond}
use Rattle.std.proofs.Common.{eqb, ltb, List, length, take, Option, Some, None, Result, Ok, Err}
use Rattle.std.proofs.Common.{refl, sym, ap, subst, ◌∙◌, arith, inl, inr}
use Rattle.std.specs.Str.{is_utf8, IsValidUpTo}
use Rattle.std.specs.Str.Lossy.{utf8_valid_len, valid_len_up_to}
use Rattle.std.proofs.lemmas.Bool.{eqb-false, ltb-true, ltb-false, lt-ltb, le-ltb, ne_eqb, cases_lt}
use Rattle.std.proofs.lemmas.Str.{utf8_valid_len-IsValidUpTo, utf8_valid_len_le, is_utf8-from_IsUtf8}
use Rattle.std.proofs.Math.Seq.{take-length}
use Rattle.std.proofs.lemmas.List.{take_all}
use Rattle.cbor_model.specs.Raw.{AreBytes}
use Rattle.cbor_model.specs.Acceptable.{max_depth, FitsScratch}
use Rattle.cbor_model.specs.Plain.{Val}
use Rattle.cbor_model.specs.Refusal.{Refusal, scratch_too_small}
use Rattle.cbor_model.specs.Reader.{Fault, values_in, exceeds_most, item_at, whole, read_value, read_value_in}
use Rattle.cbor_model.specs.Allowed.{Limits, IsOver, IsAllowed, IsFirstRefusal, IsBefore, limits_of}
use Rattle.cbor_model.specs.Laws.{SpellsValue, IsScratchTooSmall}
use Rattle.cbor_model.proofs.reader.FirstBytes.{all_may_begin}
use Rattle.cbor_model.proofs.reader.Texts.{valid_front, IsUtf8-from_valid_len}
use Rattle.cbor_model.proofs.reader.Bytes.{spelled_bytes}
use Rattle.cbor_model.proofs.reader.Whole.{none_fits, found_fits, read_whole}
use Rattle.cbor_model.proofs.refusals.ReadingRules.{Rules}
use Rattle.cbor_model.proofs.reader.Scratch.{same_with_scratch}
use Rattle.cbor_model.proofs.refusals.ReportsFirst as every

-- ---- the longest front that is UTF-8

-- no longer front up to n is
greatest : (bs : List ℕ) (n k : ℕ) → valid_len_up_to bs n < k → k ≤ n → is_utf8 (take k bs) ≡ true → ⊥
greatest bs zero k more few passes = omega arith
greatest bs (suc n) k more few passes = by_test (is_utf8 (take (suc n) bs)) refl more (λ fewer le. greatest bs n k fewer le passes)
  where
    differ : (b : Bool) → b ≡ true → b ≡ false → ⊥
    differ b p q = cc

    by_test : (b : Bool) → is_utf8 (take (suc n) bs) ≡ b → cond b (suc n) (valid_len_up_to bs n) < k → (valid_len_up_to bs n < k → k ≤ n → ⊥) → ⊥
    by_test true is more others = omega (arith, more, few)
    by_test false is more others =
        elim (cases_lt n k) [
          | inr le ↦ others more le
          | inl lt ↦
              let same : k ≡ suc n = omega (arith, lt, few) in
              differ (is_utf8 (take (suc n) bs)) (ap (λ (j : ℕ). is_utf8 (take j bs)) (sym same) ∙ passes) is
        ]

valid_up_to : (bs : List ℕ) → eqb (utf8_valid_len bs) (length bs) ≡ false → IsValidUpTo bs (utf8_valid_len bs)
unfolding utf8_valid_len
valid_up_to bs fails =
    let short : utf8_valid_len bs < length bs = omega (arith, utf8_valid_len_le bs, eqb-false _ _ fails) in
    record {
      short = short;
      front = valid_front bs (length bs);
      longest = λ k more passes. by_length k more (is_utf8-from_IsUtf8 (take k bs) passes) short;
    }
  where
    by_length : (k : ℕ) → valid_len_up_to bs (length bs) < k → is_utf8 (take k bs) ≡ true → valid_len_up_to bs (length bs) < length bs → ⊥
    by_length k more passes short =
        elim (cases_lt (length bs) k) [
          | inr le ↦ greatest bs (length bs) k more le passes
          | inl lt ↦
              let same : take k bs ≡ take (length bs) bs = take_all k bs (omega (arith, lt)) ∙ sym (take-length bs) in
              greatest bs (length bs) (length bs) short (omega arith) (ap is_utf8 (sym same) ∙ passes)
        ]

not_valid : (bs : List ℕ) (n : ℕ) → IsValidUpTo bs n → eqb (utf8_valid_len bs) (length bs) ≡ false
not_valid bs n longest = ne_eqb (utf8_valid_len bs) (length bs) (λ same. omega (arith, longest.short, utf8_valid_len-IsValidUpTo bs n longest, same))

-- ---- the scratch

is_over : (room : Option ℕ) (n : ℕ) → exceeds_most room n ≡ true → IsOver room n
is_over None n exceeds = absurd cc
is_over (Some most) n exceeds = ltb-true most n exceeds

exceeds_over : (room : Option ℕ) (n : ℕ) → IsOver room n → exceeds_most room n ≡ true
exceeds_over None n over = absurd over
exceeds_over (Some most) n over = lt-ltb most n over

-- ---- inputs

-- of bytes at the end of an input of this length
abbrev pub limits_at : Option ℕ → ℕ → ℕ → List ℕ → Limits
limits_at room total levels bs = record { start = total - length bs; levels = levels; scratch = room }

module _ (room : Option ℕ) (total : ℕ) where
  far : (left n : ℕ) → left ≤ total → ltb (total - left + n) (2 ^ 64) ≡ false → 2 ^ 64 ≤ (total - left) + n
  far left n within none = ltb-false _ _ none

  out : (left n : ℕ) → left ≤ total → 2 ^ 64 ≤ (total - left) + n → ltb (total - left + n) (2 ^ 64) ≡ false
  out left n within le = le-ltb _ _ le

  rules : Rules (values_in total room) total room
  rules = record {
    far = far;
    out = out;
    no_text = valid_up_to;
    not_text = not_valid;
    utf8 = IsUtf8-from_valid_len;
    over = is_over room;
    exceeds_over = exceeds_over room;
    none_fits = none_fits room;
    every = all_may_begin;
  }

  -- what the reader refuses of the rest of an input is refused first
  pub refused_first : (levels : ℕ) (bs : List ℕ) (f : Fault) → length bs ≤ total → AreBytes bs → whole (item_at (values_in total room) levels bs) ≡ Err f
      → (offset : ℕ) × (offset + f.left ≡ length bs) × IsFirstRefusal (limits_at room total levels bs) bs f.why offset
  refused_first levels bs f within fits fails =
      let m = values_in total room in (
        length bs - f.left,
        every.left_within m total room rules levels bs f (within, fits) fails,
        every.first_refusal m total room rules levels bs f (within, fits) fails,
      )

  pub none_refused : (levels : ℕ) (bs : List ℕ) (v : Val) → length bs ≤ total → AreBytes bs → whole (item_at (values_in total room) levels bs) ≡ Ok v
      → (why : Refusal) (place offset : ℕ) → IsAllowed (limits_at room total levels bs) bs why place offset → ⊥
  none_refused levels bs v within fits reads =
      every.none_allowed (values_in total room) total room rules levels bs v (within, fits) reads

-- a whole input
same_limits : (room : Option ℕ) (bs : List ℕ) → limits_at room (length bs) max_depth bs ≡ limits_of room
same_limits room bs =
    let none : length bs - length bs ≡ 0 = omega arith in
    ap (λ (k : ℕ). record { start = k; levels = max_depth; scratch = room }) none

pub first_refusal : (room : Option ℕ) (bs : List ℕ) (f : Fault) → AreBytes bs → read_value_in room bs ≡ Err f
    → (offset : ℕ) × (offset + f.left ≡ length bs) × IsFirstRefusal (limits_of room) bs f.why offset
unfolding read_value_in
first_refusal room bs f fits fails =
    subst (λ (l : Limits). (offset : ℕ) × (offset + f.left ≡ length bs) × IsFirstRefusal l bs f.why offset) (same_limits room bs)
    (refused_first room (length bs) max_depth bs f (omega arith) fits fails)

pub none_allowed : (room : Option ℕ) (bs : List ℕ) (v : Val) → AreBytes bs → read_value_in room bs ≡ Ok v
    → (why : Refusal) (place offset : ℕ) → IsAllowed (limits_of room) bs why place offset → ⊥
unfolding read_value_in
none_allowed room bs v fits reads why place offset a =
    none_refused room (length bs) max_depth bs v (omega arith) fits reads why place offset
    (subst (λ (l : Limits). IsAllowed l bs why place offset) (sym (same_limits room bs)) a)

-- bytes that spell an acceptable item
pub spelled_allows_none : (room : Option ℕ) (bs : List ℕ) (v : Val) → length bs < 2 ^ 64 → (spelt : SpellsValue bs v) → FitsScratch room spelt.item
    → (why : Refusal) (place offset : ℕ) → IsAllowed (limits_of room) bs why place offset → ⊥
spelled_allows_none room bs v short spelt fits =
    none_allowed room bs v (subst AreBytes spelt.spelled (spelled_bytes spelt.item spelt.acceptable.fits)) (read_whole room bs v short spelt fits)

-- at the offset of the fault
pub refused_at : (room : Option ℕ) (bs : List ℕ) (why : Refusal) (offset left : ℕ) → AreBytes bs → offset + left ≡ length bs
    → read_value_in room bs ≡ Err (record { why = why; left = left }) → IsFirstRefusal (limits_of room) bs why offset
refused_at room bs why offset left fits at fails =
    let got = first_refusal room bs (record { why = why; left = left }) fits fails in
    let same : got.0 ≡ offset = omega (arith, got.1, at) in
    subst (IsFirstRefusal (limits_of room) bs why) same got.2

-- the same of one item of an input, of which these bytes are to come: its offset is counted from them
pub item_refused_at : (room : Option ℕ) (total levels : ℕ) (bs : List ℕ) (why : Refusal) (offset left : ℕ) → length bs ≤ total → AreBytes bs → offset + left ≡ length bs
    → item_at (values_in total room) levels bs ≡ Err (record { why = why; left = left }) → IsFirstRefusal (limits_at room total levels bs) bs why offset
item_refused_at room total levels bs why offset left within fits at fails =
    let f : Fault = record { why = why; left = left } in
    let got = refused_first room total levels bs f within fits (rw fails refl) in
    let same : got.0 ≡ offset = omega (arith, got.1, at) in
    subst (IsFirstRefusal (limits_at room total levels bs) bs why) same got.2

-- ---- one first

-- of two, both before the other, none is
never_both : (why why' : Refusal) (place place' : ℕ) → IsBefore why place why' place' → IsBefore why' place' why place → ⊥
never_both why why' place place' (inl lt) (inl lt') = omega (arith, lt, lt')
never_both why why' place place' (inl lt) (inr same) = omega (arith, lt, same.0)
never_both why why' place place' (inr same) (inl lt') = omega (arith, lt', same.0)
never_both why why' place place' (inr same) (inr same') = same.1 same'.2

pub one_first : (l : Limits) (bs : List ℕ) (why why' : Refusal) (offset offset' : ℕ) → IsFirstRefusal l bs why offset → IsFirstRefusal l bs why' offset' → (why ≡ why') × (offset ≡ offset')
one_first l bs why why' offset offset' a b =
    elim (a.first why' b.place offset' b.allowed) [
      | inl same ↦ (sym same.0, sym same.2)
      | inr before ↦
          elim (b.first why a.place offset a.allowed) [
            | inl same ↦ (same.0, same.2)
            | inr after ↦ absurd (never_both why why' a.place b.place before after)
          ]
    ]

-- ---- what a scratch changes

pub same_first : (room : ℕ) (bs : List ℕ) (why : Refusal) (offset : ℕ) → AreBytes bs → IsFirstRefusal (limits_of (Some room)) bs why offset
    → (why ≡ scratch_too_small) ⊎ IsFirstRefusal (limits_of None) bs why offset
same_first room bs why offset fits first = by_result (read_value_in (Some room) bs) refl
  where
    without : (f : Fault) (at : ℕ) → at + f.left ≡ length bs → f.why ≡ why → at ≡ offset → read_value bs ≡ Err f → IsFirstRefusal (limits_of None) bs why offset
    without f at is same_why same_at fails =
        subst (λ (k : ℕ). IsFirstRefusal (limits_of None) bs why k) same_at
        (subst (λ (w : Refusal). IsFirstRefusal (limits_of None) bs w at) same_why
        (refused_at None bs f.why at f.left fits is fails))

    by_result : (r : Result Val Fault) → read_value_in (Some room) bs ≡ r → (why ≡ scratch_too_small) ⊎ IsFirstRefusal (limits_of None) bs why offset
    by_result (Ok v) is = absurd (none_allowed (Some room) bs v fits is why first.place offset first.allowed)
    by_result (Err f) is =
        let got = first_refusal (Some room) bs f fits is in
        let one = one_first (limits_of (Some room)) bs f.why why got.0 offset got.2 first in
        elim (same_with_scratch room bs) [
          | inl same ↦ inr (without f got.0 got.1 one.0 one.1 (sym same ∙ is))
          | inr small ↦ inl (sym one.0 ∙ subst (λ (r : Result Val Fault). IsScratchTooSmall r) is small)
        ]

-- ---- each input is read or refused

pub read_or_refused : (room : Option ℕ) (bs : List ℕ) → AreBytes bs
    → ((v : Val) × (spelt : SpellsValue bs v) × FitsScratch room spelt.item) ⊎ ((why : Refusal) × (offset : ℕ) × IsFirstRefusal (limits_of room) bs why offset)
read_or_refused room bs fits = by_result (read_value_in room bs) refl
  where
    by_result : (r : Result Val Fault) → read_value_in room bs ≡ r
        → ((v : Val) × (spelt : SpellsValue bs v) × FitsScratch room spelt.item) ⊎ ((why : Refusal) × (offset : ℕ) × IsFirstRefusal (limits_of room) bs why offset)
    by_result (Ok v) is = let got = found_fits room bs v fits is in inl (v, got.0, got.1)
    by_result (Err f) is = let got = first_refusal room bs f fits is in inr (f.why, got.0, got.2)
