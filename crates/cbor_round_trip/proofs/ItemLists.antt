-- Lists of items whose encodings, one after the other, bytes begin with.
use Rattle.std.proofs.Common.{◌≡◌, ◌∙◌, ◌≤◌, ◌⊎◌, ℕ, List, [], ◌∷◌, ◌++◌, length, inl, inr, refl, sym, ap, append-nil, append_assoc, arith}
use Rattle.std.specs.Prelude.{flat_map}
use Rattle.std.specs.List.{AllByRecursion}
use Rattle.std.proofs.lemmas.Grind.{flat_map-append}
use Rattle.cbor_model.specs.Acceptable.{IsAcceptableWithin}
use Rattle.cbor_model.specs.Raw as raw
use Rattle.cbor_model.specs.Raw.{Raw, IsWellFormed, null_item}
use Rattle.cbor_model.specs.Spelling.{spell}
use Rattle.cbor_model.proofs.facts.Laws.{one_spelling}
use Rattle.cbor_de.specs.Items.{ItemsBegin, AreItems, AreMostItems}

-- one of two fronts of a list begins the other
pub fronts : (xs ys a b : List ℕ) → xs ++ a ≡ ys ++ b
    → ((m : List ℕ) × (xs ++ m ≡ ys) × (a ≡ m ++ b)) ⊎ ((m : List ℕ) × (ys ++ m ≡ xs) × (b ≡ m ++ a))
fronts [] ys a b e = inl (ys, refl, e)
fronts (x ∷ xs) [] a b e = inr (x ∷ xs, refl, sym e)
fronts (x ∷ xs) (y ∷ ys) a b e =
    let same : x ≡ y = cc in
    let tails : xs ++ a ≡ ys ++ b = cc in
    elim (fronts xs ys a b tails) [
      | inl h ↦ inl (h.0, (let t = h.1 in cc), h.2)
      | inr h ↦ inr (h.0, (let t = h.1 in cc), h.2)
    ]

-- ---- one item

-- bytes begin with one item at most
pub same_item : (q r : Raw) (u v : List ℕ) → IsWellFormed q → IsWellFormed r → spell q ++ u ≡ spell r ++ v → (q ≡ r) × (u ≡ v)
same_item q r u v a b e = elim (fronts (spell q) (spell r) u v e) [
  | inl h ↦ let s = one_spelling q r h.0 a b h.1 in (s.0, h.2 ∙ ap (λ l. l ++ v) s.1)
  | inr h ↦ let s = one_spelling r q h.0 b a h.1 in (sym s.0, sym (h.2 ∙ ap (λ l. l ++ u) s.1))
]

-- no item has no bytes
pub some_bytes : (r : Raw) (more : List ℕ) → IsWellFormed r → spell r ++ more ≡ [] → ⊥
unfolding spell
some_bytes r more fits e =
    let s = one_spelling r (raw.simple null_item) (0xf6 ∷ []) fits tt (ap (λ l. l ++ (0xf6 ∷ [])) (empty (spell r) more e)) in
    let t = s.1 in cc
  where
    empty : (xs ys : List ℕ) → xs ++ ys ≡ [] → xs ≡ []
    empty [] ys h = refl
    empty (x ∷ xs) ys h = absurd cc

-- ---- one list after another, and two that begin the same bytes

module _ (levels : ℕ) where
  pub each_front : (items more : List Raw) → AllByRecursion (IsAcceptableWithin levels) (items ++ more) → AllByRecursion (IsAcceptableWithin levels) items
  each_front [] more each = tt
  each_front (r ∷ items) more each = (each.0, each_front items more each.1)

  pub each_behind : (items more : List Raw) → AllByRecursion (IsAcceptableWithin levels) (items ++ more) → AllByRecursion (IsAcceptableWithin levels) more
  each_behind [] more each = each
  each_behind (r ∷ items) more each = each_behind items more each.1

  pub each_joined : (items more : List Raw) → AllByRecursion (IsAcceptableWithin levels) items → AllByRecursion (IsAcceptableWithin levels) more → AllByRecursion (IsAcceptableWithin levels) (items ++ more)
  each_joined [] more each others = others
  each_joined (r ∷ items) more each others = (each.0, each_joined items more each.1 others)

  -- a list, and another behind it
  pub items_joined : {bytes : List ℕ} {items : List Raw} {mid : List ℕ} {more : List Raw} {rest : List ℕ}
      → ItemsBegin levels bytes items mid → ItemsBegin levels mid more rest → ItemsBegin levels bytes (items ++ more) rest
  items_joined {items = items} {more = more} {rest = rest} a b = record {
    acceptable = each_joined items more a.acceptable b.acceptable;
    spelled = a.spelled ∙ ap (λ l. flat_map spell items ++ l) b.spelled ∙ sym (append_assoc (flat_map spell items) (flat_map spell more) rest)
        ∙ ap (λ l. l ++ rest) (sym (flat_map-append spell items more));
  }

  -- one item
  pub one_item : {bytes : List ℕ} {r : Raw} {rest : List ℕ} → IsAcceptableWithin levels r → bytes ≡ spell r ++ rest → ItemsBegin levels bytes (r ∷ []) rest
  one_item {r = r} {rest = rest} acceptable spelled = record { acceptable = (acceptable, tt); spelled = spelled ∙ ap (λ l. l ++ rest) (sym (append-nil (spell r))) }

  -- the items' bytes alone
  pub items_alone : {bytes : List ℕ} {items : List Raw} {rest : List ℕ} → ItemsBegin levels bytes items rest → AreItems levels (flat_map spell items) items
  items_alone {items = items} a = record { acceptable = a.acceptable; spelled = sym (append-nil (flat_map spell items)) }

  -- no item begins the bytes
  abbrev pub NoItem : List ℕ → Type 0
  NoItem rest = (r : Raw) (end : List ℕ) → IsAcceptableWithin levels r → rest ≡ spell r ++ end → ⊥

  fewer : (items others : List Raw) (rest after : List ℕ) → AllByRecursion (IsAcceptableWithin levels) items → AllByRecursion (IsAcceptableWithin levels) others
      → NoItem rest → flat_map spell items ++ rest ≡ flat_map spell others ++ after → length others ≤ length items
  fewer items [] rest after a b none e = omega arith
  fewer [] (r ∷ others) rest after a b none e =
      absurd (none r (flat_map spell others ++ after) b.0 (e ∙ append_assoc (spell r) (flat_map spell others) after))
  fewer (q ∷ items) (r ∷ others) rest after a b none e =
      let same = same_item q r (flat_map spell items ++ rest) (flat_map spell others ++ after) a.0.fits b.0.fits
      (sym (append_assoc (spell q) (flat_map spell items) rest) ∙ e ∙ append_assoc (spell r) (flat_map spell others) after) in
      let least = fewer items others rest after a.1 b.1 none same.1 in
      omega arith

  -- a list after which no item stands is the longest
  pub longest_items : {bytes : List ℕ} {items : List Raw} {rest : List ℕ} → ItemsBegin levels bytes items rest → NoItem rest → AreMostItems levels bytes items rest
  longest_items {bytes} {items} {rest} begin none = record {
    begin = begin;
    most = λ others after h. fewer items others rest after begin.acceptable h.acceptable none (sym begin.spelled ∙ h.spelled);
  }

  -- a list at the front of bytes is a front of any list that goes on beyond them
  pub front_of_items : (os items : List Raw) (after missing : List ℕ) → AllByRecursion (IsAcceptableWithin levels) os → AllByRecursion (IsAcceptableWithin levels) items
      → (flat_map spell os ++ after) ++ missing ≡ flat_map spell items → (more : List Raw) × (items ≡ os ++ more)
  front_of_items [] items after missing a b e = (items, refl)
  front_of_items (q ∷ os) [] after missing a b e =
      absurd (some_bytes q ((flat_map spell os ++ after) ++ missing) a.0.fits (sym (regroup (spell q) (flat_map spell os) after missing) ∙ e))
    where
      regroup : (x y z w : List ℕ) → ((x ++ y) ++ z) ++ w ≡ x ++ ((y ++ z) ++ w)
      regroup x y z w = simp append_assoc
  front_of_items (q ∷ os) (r ∷ items) after missing a b e =
      let same = same_item q r ((flat_map spell os ++ after) ++ missing) (flat_map spell items) a.0.fits b.0.fits (sym (regroup (spell q) (flat_map spell os) after missing) ∙ e) in
      let others = front_of_items os items after missing a.1 b.1 same.1 in
      (others.0, ap (λ (x : Raw). x ∷ items) (sym same.0) ∙ ap (λ l. q ∷ l) others.1)
    where
      regroup : (x y z w : List ℕ) → ((x ++ y) ++ z) ++ w ≡ x ++ ((y ++ z) ++ w)
      regroup x y z w = simp append_assoc
