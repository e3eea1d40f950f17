-- Names and labels that are told apart, and what means a field or a variant among them.
use Rattle.std.proofs.Common.{◌≡◌, ◌≢◌, ◌<◌, ◌&&◌, ℕ, ℤ, pos, negsuc, zero, suc, Bool, true, false, not, List, [], ◌∷◌, length, Option, Some, None, nat_lt, refl, sym, ap, subst, arith}
use Rattle.std.specs.Prelude.{◌||◌, if◌then◌else◌}
use Rattle.std.specs.Bool.{nat_eq}
use Rattle.std.specs.Ordering.{int_eq}
use Rattle.std.specs.Cmp.Lexicographic.{pointwise}
use Rattle.std.proofs.lemmas.Cmp.{nat_list_eq_equiv, int_eq_equiv}
use Rattle.cbor_model.specs.Canonical.{canonical_integer}
use Rattle.cbor_model.specs.Document.{identifier}
use Rattle.cbor_model.specs.Raw.{Raw}
use Rattle.cbor_model.specs.Readable.{untagged}
use Rattle.cbor_parts.specs.Keys.{Keys, AreKeysOf}
use Rattle.cbor_decode_as.specs.Identifiers.{IsFirst, IsPlace, IsIdentifier, IsLabel}
use Rattle.cbor_de.specs.Structs.{IsKeyed, IsKeyedBy}
use Rattle.cbor_de.specs.declared.field.Field.TheVariants.{Known}
use Rattle.cbor_ser.specs.Labels.{label_in}
use Rattle.cbor_ser.specs.PartLists.{name_in}

-- whether this is one of the names
abbrev pub is_among : List ℕ → List (List ℕ) → Bool
is_among n [] = false
is_among n (m ∷ ms) = pointwise nat_eq m n || is_among n ms

-- whether no two of the names are the same
abbrev pub are_distinct : List (List ℕ) → Bool
are_distinct [] = true
are_distinct (n ∷ ns) = not (is_among n ns) && are_distinct ns

both : (a b : Bool) → (not a && b) ≡ true → (a ≡ false) × (b ≡ true)
both false b h = (refl, h)
both true b h = absurd cc

neither : (a b : Bool) → (a || b) ≡ false → (a ≡ false) × (b ≡ false)
neither false b h = (refl, h)
neither true b h = absurd cc

-- a name that isn't among them is in no place
other_name : (n : List ℕ) (ns : List (List ℕ)) (i : ℕ) → is_among n ns ≡ false → i < length ns
    → name_in ns i ≢ n
other_name n [] i not_there below = absurd (omega (arith, below))
other_name n (m ∷ ms) zero not_there below =
    λ same. absurd (true_is_false (pointwise nat_eq m n) (subst (λ k. pointwise nat_eq m k ≡ true) same (nat_list_eq_equiv.refl m)) (neither _ _ not_there).0)
  where
    true_is_false : (b : Bool) → b ≡ true → b ≡ false → ⊥
    true_is_false true yes_ no_ = absurd cc
    true_is_false false yes_ no_ = absurd cc
other_name n (m ∷ ms) (suc i) not_there below = other_name n ms i (neither _ _ not_there).1 (omega (arith, below))

-- the name in a place is the first of its kind
pub first_in : (ns : List (List ℕ)) (i : ℕ) → are_distinct ns ≡ true → i < length ns → IsFirst ns (name_in ns i) i
first_in [] i distinct below = absurd (omega (arith, below))
first_in (n ∷ ns) zero distinct below = refl
first_in (n ∷ ns) (suc i) distinct below =
    let parts = both (is_among n ns) (are_distinct ns) distinct in
    let less : i < length ns = omega (arith, below) in
    ((λ same. other_name n ns i parts.0 less (sym same)), first_in ns i parts.1 less)

pub one_first : {A : Type 0} (ns : List A) (b : A) (i k : ℕ) → IsFirst ns b i → IsFirst ns b k → i ≡ k
one_first [] b i k one two = absurd one
one_first (n ∷ ns) b zero zero one two = refl
one_first (n ∷ ns) b zero (suc k) one two = absurd (two.0 one)
one_first (n ∷ ns) b (suc i) zero one two = absurd (one.0 two)
one_first (n ∷ ns) b (suc i) (suc k) one two = ap suc (one_first ns b i k one.1 two.1)

-- ---- numbers

place_is : (k n : ℕ) (b : Bool) → nat_lt k n ≡ b → k < n → Some k ≡ (if b then Some k else None)
place_is k n true is below = refl
place_is k n false is below = absurd (grind (arith, is, below))

some_place : (i k : ℕ) (b : Bool) → Some i ≡ (if b then Some k else None) → i ≡ k
some_place i k true e = cc
some_place i k false e = absurd cc

-- ---- identifiers

module _ (names : List (List ℕ)) (distinct : are_distinct names ≡ true) where
  -- the name or the number of a place is read as that place
  pub names_place : (packed : Bool) (k : ℕ) → k < length names
      → IsIdentifier names (untagged (identifier packed k (name_in names k))) (Some k)
  names_place false k below = (name_in names k, refl, first_in names k distinct below)
  names_place true k below = place_is k (length names) (nat_lt k (length names)) refl below

  -- and as no other
  pub one_place : (packed : Bool) (k i : ℕ) → k < length names
      → IsIdentifier names (untagged (identifier packed k (name_in names k))) (Some i) → i ≡ k
  one_place false k i below reported =
      one_first names reported.0 i k reported.2 (subst (λ b. IsFirst names b k) reported.1 (first_in names k distinct below))
  one_place true k i below reported = some_place i k (nat_lt k (length names)) reported

-- ---- labels

-- whether this is one of the labels
abbrev pub is_label_among : ℤ → List ℤ → Bool
is_label_among z [] = false
is_label_among z (l ∷ ls) = int_eq l z || is_label_among z ls

-- whether no two of the labels are the same
abbrev pub are_distinct_labels : List ℤ → Bool
are_distinct_labels [] = true
are_distinct_labels (l ∷ ls) = not (is_label_among l ls) && are_distinct_labels ls

-- a label that isn't among them is in no place
other_label : (z : ℤ) (ls : List ℤ) (i : ℕ) → is_label_among z ls ≡ false → i < length ls → label_in ls i ≢ z
other_label z [] i not_there below = absurd (omega (arith, below))
other_label z (l ∷ ls) zero not_there below =
    λ same. absurd (true_is_false (int_eq l z) (subst (λ k. int_eq l k ≡ true) same (int_eq_equiv.refl l)) (neither _ _ not_there).0)
  where
    true_is_false : (b : Bool) → b ≡ true → b ≡ false → ⊥
    true_is_false true yes_ no_ = absurd cc
    true_is_false false yes_ no_ = absurd cc
other_label z (l ∷ ls) (suc i) not_there below = other_label z ls i (neither _ _ not_there).1 (omega (arith, below))

-- the label in a place is the first of its kind
first_label_in : (ls : List ℤ) (i : ℕ) → are_distinct_labels ls ≡ true → i < length ls → IsFirst ls (label_in ls i) i
first_label_in [] i distinct below = absurd (omega (arith, below))
first_label_in (l ∷ ls) zero distinct below = refl
first_label_in (l ∷ ls) (suc i) distinct below =
    let parts = both (is_label_among l ls) (are_distinct_labels ls) distinct in
    let less : i < length ls = omega (arith, below) in
    ((λ same. other_label l ls i parts.0 less (sym same)), first_label_in ls i parts.1 less)

-- an integer's item is the label that it is
label_is : (ls : List ℤ) (z : ℤ) (place : Option ℕ) → IsPlace ls z place → IsLabel ls (untagged (canonical_integer z)) place
label_is ls (pos n) place at = at
label_is ls (negsuc n) place at = at

is_label : (ls : List ℤ) (z : ℤ) (place : Option ℕ) → IsLabel ls (untagged (canonical_integer z)) place → IsPlace ls z place
is_label ls (pos n) place at = at
is_label ls (negsuc n) place at = at

-- ---- by names, or where there are labels, by these

-- the key of a field
abbrev pub key_of : Option (List ℤ) → Bool → ℕ → List ℕ → Raw
key_of None packed i n = identifier packed i n
key_of (Some labels) packed i n = canonical_integer (label_in labels i)

abbrev pub told_apart : List (List ℕ) → Option (List ℤ) → Bool
told_apart names None = are_distinct names
told_apart names (Some labels) = are_distinct_labels labels

-- whether no two of the keys are the same
abbrev pub are_told_apart : Keys → Bool
are_told_apart keys = told_apart keys.names keys.labels

module _ {n : ℕ} (names : List (List ℕ)) (packed : Bool) (k : ℕ) (below : k < n) where
  place_by : (labels : Option (List ℤ)) → AreKeysOf n (record { names = names; labels = labels }) → told_apart names labels ≡ true
      → IsKeyedBy names labels (key_of labels packed k (name_in names k)) (Known k)
  place_by None as_many told = names_place names told packed k (let c = as_many.0 in omega (arith, below, c))
  place_by (Some labels) as_many told =
      label_is labels (label_in labels k) (Some k) (first_label_in labels k told (let c = as_many.1 in omega (arith, below, c)))

  one_by : (labels : Option (List ℤ)) → AreKeysOf n (record { names = names; labels = labels }) → told_apart names labels ≡ true
      → (i : ℕ) → IsKeyedBy names labels (key_of labels packed k (name_in names k)) (Known i) → i ≡ k
  one_by None as_many told i reported = one_place names told packed k i (let c = as_many.0 in omega (arith, below, c)) reported
  one_by (Some labels) as_many told i reported =
      one_first labels (label_in labels k) i k (is_label labels (label_in labels k) (Some i) reported)
      (first_label_in labels k told (let c = as_many.1 in omega (arith, below, c)))

module _ {n : ℕ} (keys : Keys) (as_many : AreKeysOf n keys) (told : are_told_apart keys ≡ true) (packed : Bool) where
  -- the key of a field means that field
  pub key_place : (k : ℕ) → k < n → IsKeyed keys (key_of keys.labels packed k (name_in keys.names k)) (Known k)
  key_place k below = place_by keys.names packed k below keys.labels as_many told

  -- and no other
  pub one_key : (k i : ℕ) → k < n → IsKeyed keys (key_of keys.labels packed k (name_in keys.names k)) (Known i) → i ≡ k
  one_key k i below reported = one_by keys.names packed k below keys.labels as_many told i reported
