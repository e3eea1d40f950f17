-- Items one after the other: what begins the same bytes is one list's front.
use Rattle.std.proofs.Common.{◌≡◌, ◌⊎◌, inl, inr, lit<, ℕ, zero, suc, ◌^◌, ◌<◌, ◌≤◌, List, [], ◌∷◌, ◌++◌, length, None, Ok, Err, refl, sym, ap, subst, ◌∙◌, arith, append_assoc, length-append}
use Rattle.std.specs.Prelude.{flat_map}
use Rattle.std.specs.List.{AllByRecursion}
use Rattle.std.proofs.lemmas.List.{append-nil}
use Rattle.cbor_model.specs.Raw.{Raw, AreBytes}
use Rattle.cbor_model.specs.Spelling.{spell}
use Rattle.cbor_model.specs.Acceptable.{IsAcceptableWithin}
use Rattle.cbor_model.specs.Formats.{all_formats}
use Rattle.cbor_de.specs.Items.{ItemsBegin, AreItems, AreMostItems, HasMostItems}
use Rattle.cbor_de.specs.ItemLaws.{OneListOfItems, OneLongestList, AllAreMost, HasLongestList}
use Rattle.cbor_model.specs.RawReader.{raws_in, Begins}
use Rattle.cbor_model.specs.Reader.{Reads, item_at}
use Rattle.std.proofs.lemmas.Bool.{cases_lt}
use Rattle.cbor_model.proofs.facts.Reader.{all_allowed, item_found, item_again, taken}
use Rattle.cbor_de.proofs.taken.ItemFronts.{same_beginning, behind_bytes}

-- of items that are acceptable within so many levels
module _ (levels : ℕ) where
  -- one list goes on where the other ends
  pub record GoesOn (rs ss : List Raw) (x y : List ℕ) : Type 0 where
    pub more : List Raw
    pub longer : ss ≡ rs ++ more
    pub rest : x ≡ flat_map spell more ++ y
    pub acceptable : AllByRecursion (IsAcceptableWithin levels) more

  -- of two lists that begin the same bytes, the longer goes on where the other ends
  pub goes_on : (rs ss : List Raw) (x y : List ℕ) → AllByRecursion (IsAcceptableWithin levels) rs → AllByRecursion (IsAcceptableWithin levels) ss → flat_map spell rs ++ x ≡ flat_map spell ss ++ y → length rs ≤ length ss → GoesOn rs ss x y
  goes_on [] ss x y a b same short = record { more = ss; longer = refl; rest = same; acceptable = b }
  goes_on (r ∷ rs) [] x y a b same short = absurd (omega arith)
  goes_on (r ∷ rs) (s ∷ ss) x y a b same short =
      let parts : spell r ++ (flat_map spell rs ++ x) ≡ spell s ++ (flat_map spell ss ++ y) =
      sym (append_assoc (spell r) (flat_map spell rs) x) ∙ same ∙ append_assoc (spell s) (flat_map spell ss) y in
      let one = same_beginning r s (flat_map spell rs ++ x) (flat_map spell ss ++ y) a.0.fits b.0.fits parts in
      let others = goes_on rs ss x y a.1 b.1 one.1 (omega arith) in
      record {
        more = others.more;
        longer = ap (λ (t : Raw). t ∷ ss) (sym one.0) ∙ ap (λ (t : List Raw). r ∷ t) others.longer;
        rest = others.rest;
        acceptable = others.acceptable;
      }

  -- no acceptable item begins the bytes
  abbrev pub NoItem : List ℕ → Type 0
  NoItem bytes = (r : Raw) (after : List ℕ) → Begins levels bytes r after → ⊥

  -- an acceptable item at the front is read, and a byte at the least is taken
  read_again : (bytes : List ℕ) (r : Raw) (after : List ℕ) → length bytes < 2 ^ 64 → Begins levels bytes r after → item_at (raws_in all_formats (length bytes) None) levels bytes ≡ Ok (r, after)
  read_again bytes r after short b = item_again all_formats (length bytes) None levels bytes after r short (omega arith) tt b (all_allowed r)

  -- nothing begins no bytes
  pub none_begins : NoItem []
  none_begins r after b =
      let few = taken (raws_in all_formats 0 None) levels [] (r, after) (read_again [] r after (lit< tt) b) in
      absurd (omega (arith, few))

  -- ---- the longest list

  -- what follows a list of which no longer one is there begins with no item
  pub none_behind : (bytes : List ℕ) (items : List Raw) (rest : List ℕ) → AreMostItems levels bytes items rest → NoItem rest
  none_behind bytes items rest are r after b =
      let more : ItemsBegin levels bytes (items ++ r ∷ []) after = record {
        acceptable = acceptable_more items r are.begin.acceptable b.acceptable;
        spelled = are.begin.spelled ∙ ap (λ (t : List ℕ). flat_map spell items ++ t) b.spelled ∙ sym (append_assoc (flat_map spell items) (spell r) after) ∙ ap (λ (t : List ℕ). t ++ after) (spelled_more items r);
      } in
      absurd (omega (arith, are.most (items ++ r ∷ []) after more, length-append items (r ∷ [])))
    where
      acceptable_more : (items : List Raw) (r : Raw) → AllByRecursion (IsAcceptableWithin levels) items → IsAcceptableWithin levels r → AllByRecursion (IsAcceptableWithin levels) (items ++ r ∷ [])
      acceptable_more [] r each last = (last, tt)
      acceptable_more (s ∷ ss) r each last = (each.0, acceptable_more ss r each.1 last)

      spelled_more : (items : List Raw) (r : Raw) → flat_map spell items ++ spell r ≡ flat_map spell (items ++ r ∷ [])
      spelled_more [] r = sym (append-nil (spell r))
      spelled_more (s ∷ ss) r = append_assoc (spell s) (flat_map spell ss) (spell r) ∙ ap (λ (t : List ℕ). spell s ++ t) (spelled_more ss r)

  -- a list after which no item begins is longest
  pub most_before_none : (bytes : List ℕ) (items : List Raw) (rest : List ℕ) → ItemsBegin levels bytes items rest → NoItem rest → AreMostItems levels bytes items rest
  most_before_none bytes items rest begin none = record { begin = begin; most = λ others after b. at_most others after b (cases_lt (length items) (length others)) }
    where
      none_more : (more : List Raw) (after : List ℕ) → AllByRecursion (IsAcceptableWithin levels) more → rest ≡ flat_map spell more ++ after → length more ≤ 0
      none_more [] after each is = omega arith
      none_more (r ∷ rs) after each is = absurd (none r (flat_map spell rs ++ after) (record { spelled = is ∙ append_assoc (spell r) (flat_map spell rs) after; acceptable = each.0 }))

      at_most : (others : List Raw) (after : List ℕ) → ItemsBegin levels bytes others after → (length items < length others) ⊎ (length others ≤ length items) → length others ≤ length items
      at_most others after b (inr h) = h
      at_most others after b (inl h) =
          let on = goes_on items others rest after begin.acceptable b.acceptable (sym begin.spelled ∙ b.spelled) (omega arith) in
          omega (arith, none_more on.more after on.acceptable on.rest, ap length on.longer, length-append items on.more)

  -- ---- one list

  -- lists that begin the same bytes and are as long are equal
  same_lists : (rs ss : List Raw) (x y : List ℕ) → AllByRecursion (IsAcceptableWithin levels) rs → AllByRecursion (IsAcceptableWithin levels) ss → flat_map spell rs ++ x ≡ flat_map spell ss ++ y → length rs ≡ length ss → (rs ≡ ss) × (x ≡ y)
  same_lists rs ss x y a b same long =
      let on = goes_on rs ss x y a b same (omega (arith, long)) in
      let none : on.more ≡ [] = no_more on.more (omega (arith, long, ap length on.longer, length-append rs on.more)) in (
        sym (append-nil rs) ∙ ap (λ (t : List Raw). rs ++ t) (sym none) ∙ sym on.longer,
        on.rest ∙ ap (λ (t : List Raw). flat_map spell t ++ y) none,
      )
    where
      no_more : (more : List Raw) → length more ≡ 0 → more ≡ []
      no_more [] none = refl
      no_more (r ∷ rs) none = absurd (omega arith)

  pub longest_list_is_one : (bytes : List ℕ) (rs ss : List Raw) (x y : List ℕ) → AreMostItems levels bytes rs x → AreMostItems levels bytes ss y → (rs ≡ ss) × (x ≡ y)
  longest_list_is_one bytes rs ss x y a b =
      let long : length rs ≡ length ss = omega (arith, a.most ss y b.begin, b.most rs x a.begin) in
      same_lists rs ss x y a.begin.acceptable b.begin.acceptable (sym a.begin.spelled ∙ b.begin.spelled) long

  pub whole_list_is_most : (bytes : List ℕ) (rs : List Raw) → AreItems levels bytes rs → AreMostItems levels bytes rs []
  whole_list_is_most bytes rs a = most_before_none bytes rs [] a none_begins

  -- what follows an item that is read
  record Behind (bytes : List ℕ) (x : Raw × List ℕ) : Type 0 where
    begins : Begins levels bytes x.0 x.1
    fits : AreBytes x.1
    less : length x.1 < length bytes

  behind : (bytes : List ℕ) (x : Raw × List ℕ) → AreBytes bytes → item_at (raws_in all_formats (length bytes) None) levels bytes ≡ Ok x → Behind bytes x
  behind bytes x fits is =
      let begins = (item_found all_formats (length bytes) None levels bytes x.1 x.0 fits is).0 in
      record {
        begins = begins;
        fits = behind_bytes (spell x.0) x.1 (subst AreBytes begins.spelled fits);
        less = taken (raws_in all_formats (length bytes) None) levels bytes x is;
      }

  -- an item before a longest list
  item_before : (bytes : List ℕ) (r : Raw) (rest : List ℕ) → Begins levels bytes r rest → HasMostItems levels rest → HasMostItems levels bytes
  item_before bytes r rest b has = record {
    items = r ∷ has.items;
    rest = has.rest;
    are = most_before_none bytes (r ∷ has.items) has.rest (record {
      acceptable = (b.acceptable, has.are.begin.acceptable);
      spelled = b.spelled ∙ ap (λ (t : List ℕ). spell r ++ t) has.are.begin.spelled ∙ sym (append_assoc (spell r) (flat_map spell has.items) has.rest);
    }) (none_behind rest has.items has.rest has.are);
  }

  -- one item at a time
  longest_after : (bytes : List ℕ) → AreBytes bytes → length bytes < 2 ^ 64 → ((rest : List ℕ) → length rest < length bytes → AreBytes rest → HasMostItems levels rest) → (read : Reads Raw) → item_at (raws_in all_formats (length bytes) None) levels bytes ≡ read → HasMostItems levels bytes
  longest_after bytes fits short others (Ok x) is =
      let b = behind bytes x fits is in
      item_before bytes x.0 x.1 b.begins (others x.1 b.less b.fits)
  longest_after bytes fits short others (Err e) is = record {
    items = [];
    rest = bytes;
    are = most_before_none bytes [] bytes (record { acceptable = tt; spelled = refl }) (λ r after b.
        let read = sym (read_again bytes r after short b) ∙ is in absurd cc);
  }

  longest_by : (fuel : ℕ) (bytes : List ℕ) → length bytes < fuel → AreBytes bytes → length bytes < 2 ^ 64 → HasMostItems levels bytes
  longest_by zero bytes few fits short = absurd (omega arith)
  longest_by (suc fuel) bytes few fits short =
      longest_after bytes fits short (λ rest less fits. longest_by fuel rest (omega arith) fits (omega arith)) (item_at (raws_in all_formats (length bytes) None) levels bytes) refl

  pub longest_list_of : (bytes : List ℕ) → AreBytes bytes → length bytes < 2 ^ 64 → HasMostItems levels bytes
  longest_list_of bytes fits short = longest_by (suc (length bytes)) bytes (omega arith) fits short

  -- ---- one item after the other

  -- after the first item of a longest list the others are the longest
  pub most_behind : (bytes : List ℕ) (r s : Raw) (rs : List Raw) (rest after : List ℕ) → AreMostItems levels bytes (r ∷ rs) rest → Begins levels bytes s after → (r ≡ s) × AreMostItems levels after rs rest
  most_behind bytes r s rs rest after are b =
      let parts : spell r ++ (flat_map spell rs ++ rest) ≡ spell s ++ after =
      sym (append_assoc (spell r) (flat_map spell rs) rest) ∙ sym are.begin.spelled ∙ b.spelled in
      let one = same_beginning r s (flat_map spell rs ++ rest) after are.begin.acceptable.0.fits b.acceptable.fits parts in (
        one.0,
        most_before_none after rs rest (record { acceptable = are.begin.acceptable.1; spelled = sym one.1 }) (none_behind bytes (r ∷ rs) rest are),
      )

  -- the first item of a list stands at the front
  pub first_begins : (bytes : List ℕ) (r : Raw) (rs : List Raw) (rest : List ℕ) → AreMostItems levels bytes (r ∷ rs) rest → Begins levels bytes r (flat_map spell rs ++ rest)
  first_begins bytes r rs rest are = record {
    spelled = are.begin.spelled ∙ append_assoc (spell r) (flat_map spell rs) rest;
    acceptable = are.begin.acceptable.0;
  }

  -- no bytes are no items
  pub no_items : (items : List Raw) (rest : List ℕ) → AreMostItems levels [] items rest → (items ≡ []) × (rest ≡ [])
  no_items items rest are =
      longest_list_is_one [] items [] rest [] are (whole_list_is_most [] [] (record { acceptable = tt; spelled = refl }))

-- ---- laws

pub one_list_of_items : OneListOfItems
one_list_of_items levels bytes rs ss a b =
    let both = longest_list_is_one levels bytes rs ss [] [] (whole_list_is_most levels bytes rs a) (whole_list_is_most levels bytes ss b) in
    both.0

pub one_longest_list : OneLongestList
one_longest_list = longest_list_is_one

pub all_are_most : AllAreMost
all_are_most = whole_list_is_most

pub has_longest_list : HasLongestList
has_longest_list = longest_list_of
