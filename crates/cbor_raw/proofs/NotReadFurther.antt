-- What isn't read of bytes isn't read whatever follows them.
use Rattle.std.proofs.Common.{◌≡◌, ◌⊎◌, ◌∙◌, inl, inr, ℕ, ◌+◌, ◌-◌, ◌<◌, ◌^◌, Bool, true, false, ltb, List, [], ◌++◌, length, Option, None, Ok, Err, refl, sym, ap, subst, arith, append-nil}
use Rattle.std.proofs.lemmas.Bool.{lt-ltb, ltb-true}
use Rattle.std.proofs.lemmas.List.{length-append}
use Rattle.cbor_model.specs.Allowed.{IsEnd, IsFirstRefusal}
use Rattle.cbor_model.specs.Formats.{Formats, all_formats, may_begin_key}
use Rattle.cbor_model.specs.Raw.{Raw, AreBytes}
use Rattle.cbor_model.specs.RawReader.{Begins, raws_in}
use Rattle.cbor_model.specs.Reader.{Reads, exceeds_most, item_at}
use Rattle.cbor_model.specs.Refusal.{Refusal}
use Rattle.cbor_model.specs.Value.{value}
use Rattle.cbor_model.proofs.facts.Reader.{all_allowed, item_again, item_fits, item_found, ok_is}
use Rattle.cbor_model.proofs.facts.Refusals.{one_first, refused_first}
use Rattle.cbor_decode.proofs.facts.Readings.{along, value_seen}
use Rattle.cbor_pushed.specs.ItemAtFront.{HasNoItem, item_limits}
use Rattle.cbor_pushed.proofs.facts.Scans.{all_may_begin}
use Rattle.cbor_decode_as.specs.RawItems.{NoneWithin}
use Rattle.cbor_raw.proofs.Alone.{Alone, Ends, IsSame, item_alone}

-- that a text ends before 2^64 is the same, however its input is counted
module _ (f : Formats) (total base : ℕ) (most : Option ℕ) where
  room : ℕ → ℕ → ℕ → Bool
  room k left n = ltb (((total - k) - base) - left + n) (2 ^ 64)

  has_room : (k left n : ℕ) → (raws_in f total most).has_room (left + k) n ≡ true → room k left n ≡ true
  unfolding room
  has_room k left n is = lt-ltb (((total - k) - base) - left + n) (2 ^ 64) (omega (arith, ltb-true (total - (left + k) + n) (2 ^ 64) is))

-- the reading of the bytes alone
module _ (f : Formats) (base total : ℕ) (most : Option ℕ) (levels : ℕ) (front more : List ℕ) (counts : total ≡ base + length (front ++ more)) where
  abbrev both : Reads Raw
  both = item_at (raws_in f total most) levels (front ++ more)

  same_alone : Alone front more both (item_at (raws_in f (length front) most) levels front)
  unfolding room item_at
  same_alone =
      subst (λ (t : ℕ). Alone front more both (item_at (raws_in f t most) levels front)) (omega (arith, counts, length-append front more))
      (item_alone (raws_in f total most) (room f total base most) (exceeds_most most) (may_begin_key f) (has_room f total base most) (λ n is. is) (λ b is. is) levels front more)

  -- with all formats and no limit of a scratch
  any_alone : Alone front more both (item_at (raws_in all_formats (length front) None) levels front)
  unfolding room item_at
  any_alone =
      subst (λ (t : ℕ). Alone front more both (item_at (raws_in all_formats t None) levels front)) (omega (arith, counts, length-append front more))
      (item_alone (raws_in f total most) (room f total base most) (λ n. false) (may_begin_key all_formats) (has_room f total base most) (λ n is. refl) (λ b is. all_may_begin b) levels front more)

-- the bytes and what they have of those alone
reads_alone : {A : Type 0} (front more : List ℕ) (R r : Reads A) (x : A × List ℕ) → R ≡ Ok x → Alone front more R r
    → IsSame more x r ⊎ (Ends r × (length x.1 < length more))
reads_alone {A = A} front more R r x is h = (subst (λ (R : Reads A). Alone front more R r) is h).1

-- ---- a fault

module _ (levels : ℕ) (front : List ℕ) (fits : AreBytes front) (none : HasNoItem levels front) where
  -- the reading of the bytes alone is no item, and meets no end where another refusal is first
  module _ (why : Refusal) (offset : ℕ) (other : IsEnd why → ⊥) (first : IsFirstRefusal (item_limits levels) front why offset) where
    by_front : (more : List ℕ) (x : Raw × List ℕ) (r : Reads Raw) → item_at (raws_in all_formats (length front) None) levels front ≡ r
        → IsSame more x r ⊎ (Ends r × (length x.1 < length more)) → ⊥
    by_front more x (Ok y) is (inl same) = none y.0 y.1 (item_found all_formats (length front) None levels front y.1 y.0 fits is).0
    by_front more x (Err d) is (inl same) = absurd same
    by_front more x (Ok y) is (inr ends) = absurd ends.0
    by_front more x (Err d) is (inr ends) =
        let seen = value_seen all_formats (record { total = length front; room = None }) levels front ∙ ap (along {A = Raw} value) is in
        let got = refused_first None (length front) levels front d (omega arith) fits (rw seen refl) in
        let start : length front - length front ≡ 0 = omega arith in
        let end = subst (λ (n : ℕ). IsFirstRefusal (record { start = n; levels = levels; scratch = None }) front d.why got.0) start got.2 in
        other (subst IsEnd (one_first (item_limits levels) front d.why why got.0 offset end first).0 ends.0)

    pub none_behind : (f : Formats) (base total : ℕ) (most : Option ℕ) (more : List ℕ) → total ≡ base + length (front ++ more) → (x : Raw) (rest : List ℕ)
        → item_at (raws_in f total most) levels (front ++ more) ≡ Ok (x, rest) → ⊥
    none_behind f base total most more counts x rest is =
        let alone = item_at (raws_in all_formats (length front) None) levels front in
        by_front more (x, rest) alone refl
        (reads_alone front more (item_at (raws_in f total most) levels (front ++ more)) alone (x, rest) is (any_alone f base total most levels front more counts))

  -- nothing follows
  pub none_here : (f : Formats) (total : ℕ) (most : Option ℕ) (bs : List ℕ) → bs ≡ front → (x : Raw) (rest : List ℕ)
      → item_at (raws_in f total most) levels bs ≡ Ok (x, rest) → ⊥
  none_here f total most bs same x rest is =
      none x rest (item_found f total most levels front rest x fits (subst (λ (l : List ℕ). item_at (raws_in f total most) levels l ≡ Ok (x, rest)) same is)).0

-- ---- an item that isn't of these formats, or has longer strings in chunks

module _ (f : Formats) (levels : ℕ) (most : Option ℕ) (front : List ℕ) (fits : AreBytes front) (none : NoneWithin f levels most front) (item : Raw) (begins : Begins levels front item []) where
  -- the item is what is read with all formats and no limit
  read_any : (base total : ℕ) (more : List ℕ) → total ≡ base + length (front ++ more) → total < 2 ^ 64 → (x : Raw) (rest : List ℕ)
      → item_at (raws_in f total most) levels (front ++ more) ≡ Ok (x, rest) → rest ≡ more
  read_any base total more counts short x rest is =
      let bs = front ++ more in
      let whole : total ≡ base + length (bs ++ []) = counts ∙ ap (λ (l : List ℕ). base + length l) (sym (append-nil bs)) in
      let all = item_at (raws_in all_formats (length bs) None) levels bs in
      let read = ap (item_at (raws_in f total most) levels) (append-nil bs) ∙ is in
      let again = item_again all_formats (length bs) None levels bs more item (omega (arith, counts)) (omega arith) tt
      (record { spelled = ap (λ (l : List ℕ). l ++ more) (begins.spelled ∙ append-nil _); acceptable = begins.acceptable }) (all_allowed item) in
      by_all all again (reads_alone bs [] (item_at (raws_in f total most) levels (bs ++ [])) all (x, rest) read (any_alone f base total most levels bs [] whole))
    where
      by_all : (r : Reads Raw) → r ≡ Ok (item, more) → IsSame [] (x, rest) r ⊎ (Ends r × (length rest < 0)) → rest ≡ more
      by_all (Ok y) is (inl same) = let end = ok_is y (item, more) is in same.1 ∙ append-nil y.1 ∙ ap (λ (p : Raw × List ℕ). p.1) end
      by_all (Err d) is h = absurd cc
      by_all (Ok y) is (inr ends) = absurd ends.0

  pub none_within_behind : (base total : ℕ) (more : List ℕ) → total ≡ base + length (front ++ more) → total < 2 ^ 64 → (x : Raw) (rest : List ℕ)
      → item_at (raws_in f total most) levels (front ++ more) ≡ Ok (x, rest) → ⊥
  none_within_behind base total more counts short x rest is =
      let alone = item_at (raws_in f (length front) most) levels front in
      by_front alone refl (reads_alone front more (item_at (raws_in f total most) levels (front ++ more)) alone (x, rest) is (same_alone f base total most levels front more counts))
    where
      by_front : (r : Reads Raw) → item_at (raws_in f (length front) most) levels front ≡ r → IsSame more (x, rest) r ⊎ (Ends r × (length rest < length more)) → ⊥
      by_front (Ok y) read (inl same) =
          let found = item_found f (length front) most levels front y.1 y.0 fits read in
          none y.0 y.1 found.0 found.1 (item_fits f (length front) most levels front y.1 y.0 fits read)
      by_front (Err d) read (inl same) = absurd same
      by_front (Ok y) read (inr ends) = absurd ends.0
      by_front (Err d) read (inr ends) = omega (arith, ends.1, ap length (read_any base total more counts short x rest is))
