-- Of any value, that with its numbers as in a form is ordered, and stays as it is.
use Rattle.std.proofs.Common.{◌≡◌, ◌∙◌, sym, ap, ap₂, subst, refl, arith, lit<}
use Rattle.std.proofs.lemmas.Bool.{cond_both, ltb-true, leb-true, true≢false}
use Rattle.std.specs.Prelude.{ℕ, zero, suc, ◌*◌, ◌^◌, ℤ, pos, negsuc, Bool, true, false, ltb, leb}
use Rattle.std.specs.Prelude.{T, Option, Some, None, is_some}
use lib.Ieee.{Float as Number, nan, inf, fin, binary64, fits}
use Rattle.cbor_model.specs.Raw.{FloatWidth, half, single, double}
use Rattle.cbor_model.specs.Plain.{Val, null, bool, integer, float, bytes, text, array, map, tag}
use Rattle.cbor_model.specs.Plain.{Vals, no_vals, val, Pairs, no_pairs, pair}
use Rattle.cbor_model.specs.Order.{val_cmp}
use Rattle.cbor_model.specs.Value.{put}
use Rattle.cbor_model.specs.FiniteMap.{put_all}
use Rattle.cbor_model.specs.Canonical.{IsStorable, IsStorableInteger, AreStorable, ArePairsStorable}
use Rattle.cbor_model.specs.Canonical.{IsOrdered, AreOrdered, ArePairsOrdered}
use Rattle.cbor_model.proofs.facts.Maps.{IsOrdered-put, KeysAscend-put_all, put_all-ascending}
use Rattle.cbor_value.proofs.facts.Floats.{number_fits, shortest_cases}
use Rattle.cbor_value.specs.declared.Float.{Float}
use Rattle.cbor_value.specs.declared.Float.TheVariants.{Half, Single, Double}
use Rattle.cbor_value.specs.Floats.{number, number_of}
use Rattle.cbor_value.specs.Shortest.{shortest}
use Rattle.cbor_value.specs.View.{float_view}
use Rattle.cbor_forms.specs.Shortened.{rewritten, all_rewritten, pairs_rewritten, in_form}
use Rattle.cbor_forms.specs.Shortened.{shortened}
use Rattle.cbor_forms.specs.Reduced.{signed, integer_of, integer_or, IsReducedInteger}
use Rattle.cbor_forms.specs.declared.values.Form.{Form}
use Rattle.cbor_forms.specs.declared.values.Form.TheVariants.{Core, Dcbor}
use Rattle.cbor_forms.proofs.DistinctKeys.{by_order-cases}

-- ---- what a number is written as

-- an integer in dCBOR's range, or the shortest float, where it is none
reduced_cases : (P : Val → Type 0) (x : Number) (z : Option ℤ)
    → ((i : ℤ) → z ≡ Some i → P (integer i)) → (z ≡ None → P (shortest x))
    → P (integer_or (shortest x) z)
reduced_cases P x (Some i) whole others = whole i refl
reduced_cases P x None whole others = others refl

form_cases : (P : Val → Type 0) (form : Form) (x : Number) → T (fits binary64 x)
    → ((i : ℤ) → integer_of x ≡ Some i → P (integer i))
    → ((w : FloatWidth) (bits : ℕ) → number w bits ≡ x → P (float w bits)) → P (in_form form x)
form_cases P Core x held whole each = shortest_cases P x held each
form_cases P Dcbor x held whole each =
    reduced_cases P x (integer_of x) whole (λ none. shortest_cases P x held each)

-- ---- integers from -2^63 to 2^64 - 1

from_some : {A : Type 0} → A → Option A → A
from_some a (Some b) = b
from_some a None = a

pub some_same : {A : Type 0} (a b : A) → Some a ≡ Some b → a ≡ b
unfolding from_some
some_same a b e = ap (from_some a) e

pub found : {A : Type 0} (a : A) → Some a ≡ None → ⊥
found a e = true≢false (ap is_some e)

signed_in : (s : Bool) (n : ℕ) (i : ℤ) → signed s n ≡ Some i
    → IsStorableInteger i × IsReducedInteger i
signed_in false n i is =
    cond_both (ltb n (2 ^ 64)) _ _ (λ z. z ≡ Some i → IsStorableInteger i × IsReducedInteger i)
    (λ small e. subst (λ (z : ℤ). IsStorableInteger z × IsReducedInteger z) (some_same _ _ e)
    (ltb-true n (2 ^ 64) small, tt))
    (λ big e. absurd (found i (sym e))) is
signed_in true zero i is =
    subst (λ (z : ℤ). IsStorableInteger z × IsReducedInteger z) (some_same _ _ is)
    (lit< tt, tt)
signed_in true (suc n) i is =
    cond_both (leb (suc n) (2 ^ 63)) _ _
    (λ z. z ≡ Some i → IsStorableInteger i × IsReducedInteger i)
    (λ small e.
    let most = leb-true (suc n) (2 ^ 63) small in
    subst (λ (z : ℤ). IsStorableInteger z × IsReducedInteger z) (some_same _ _ e)
    (omega arith, omega arith))
    (λ big e. absurd (found i (sym e))) is

pub integer_in : (x : Number) (i : ℤ) → integer_of x ≡ Some i
    → IsStorableInteger i × IsReducedInteger i
integer_in nan i is = absurd (found i (sym is))
integer_in (inf s) i is = absurd (found i (sym is))
integer_in (fin s m (pos e)) i is = signed_in s (m * 2 ^ e) i is
integer_in (fin s m (negsuc e)) i is = absurd (found i (sym is))

-- ---- ordered

mutual
  unfolding rewritten

  pub ordered : (form : Form) (v : Val) → IsOrdered (rewritten form v)
  ordered form null = tt
  ordered form (bool b) = tt
  ordered form (integer z) = tt
  ordered form (float w bits) =
      form_cases IsOrdered form (number w bits) (number_fits w bits) (λ i is. tt) (λ w b is. tt)
  ordered form (bytes b) = tt
  ordered form (text b) = tt
  ordered form (array vs) = all_ordered form vs
  ordered form (map ps) = pairs_ordered form ps no_pairs tt
  ordered form (tag n v) = ordered form v

  all_ordered : (form : Form) (vs : Vals) → AreOrdered (all_rewritten form vs)
  all_ordered form no_vals = tt
  all_ordered form (val v vs) = (ordered form v, all_ordered form vs)

  pairs_ordered : (form : Form) (ps before : Pairs) → ArePairsOrdered before
      → ArePairsOrdered (put_all (pairs_rewritten form ps) before)
  pairs_ordered form no_pairs before is = is
  pairs_ordered form (pair k v ps) before is =
      pairs_ordered form ps (put (rewritten form k) (rewritten form v) before)
      (IsOrdered-put (rewritten form k) (rewritten form v) before (ordered form k)
      (ordered form v) is)

-- ---- storable

storable-put : (k v : Val) (ps : Pairs) → IsStorable k → IsStorable v → ArePairsStorable ps
    → ArePairsStorable (put k v ps)
storable-put k v no_pairs key value all = (key, value, tt)
storable-put k v (pair l w ps) key value all =
    by_order-cases ArePairsStorable (val_cmp k l) _ _ _
    (λ less. (key, value, all))
    (λ same. (key, value, all.2))
    (λ more. (all.0, all.1, storable-put k v ps key value all.2))

mutual
  unfolding rewritten

  pub storable : (form : Form) (v : Val) → IsStorable v → IsStorable (rewritten form v)
  storable form null is = tt
  storable form (bool b) is = tt
  storable form (integer z) is = is
  storable form (float w bits) is =
      form_cases IsStorable form (number w bits) (number_fits w bits)
      (λ i whole. (integer_in (number w bits) i whole).0) (λ w b same. tt)
  storable form (bytes b) is = tt
  storable form (text b) is = tt
  storable form (array vs) is = all_storable form vs is
  storable form (map ps) is = pairs_storable form ps no_pairs is tt
  storable form (tag n v) is = storable form v is

  all_storable : (form : Form) (vs : Vals) → AreStorable vs → AreStorable (all_rewritten form vs)
  all_storable form no_vals is = tt
  all_storable form (val v vs) is = (storable form v is.0, all_storable form vs is.1)

  pairs_storable : (form : Form) (ps before : Pairs) → ArePairsStorable ps
      → ArePairsStorable before → ArePairsStorable (put_all (pairs_rewritten form ps) before)
  pairs_storable form no_pairs before is so_far = so_far
  pairs_storable form (pair k v ps) before is so_far =
      pairs_storable form ps (put (rewritten form k) (rewritten form v) before) is.2
      (storable-put (rewritten form k) (rewritten form v) before (storable form k is.0)
      (storable form v is.1) so_far)

-- ---- rewritten once

abbrev StaysIn : Form → Val → Type 0
StaysIn form v = rewritten form v ≡ v

abbrev StayIn : Form → Pairs → Type 0
StayIn form no_pairs = Unit {0}
StayIn form (pair k v ps) = StaysIn form k × StaysIn form v × StayIn form ps

stays-put : (form : Form) (k v : Val) (ps : Pairs) → StaysIn form k → StaysIn form v
    → StayIn form ps → StayIn form (put k v ps)
stays-put form k v no_pairs key value all = (key, value, tt)
stays-put form k v (pair l w ps) key value all =
    by_order-cases (StayIn form) (val_cmp k l) _ _ _
    (λ less. (key, value, all))
    (λ same. (key, value, all.2))
    (λ more. (all.0, all.1, stays-put form k v ps key value all.2))

pairs_same : (form : Form) (ps : Pairs) → StayIn form ps → pairs_rewritten form ps ≡ ps
unfolding rewritten
pairs_same form no_pairs all = refl
pairs_same form (pair k v ps) all =
    ap (λ (x : Val). pair x (rewritten form v) (pairs_rewritten form ps)) all.0
    ∙ ap₂ (λ x qs. pair k x qs) all.1 (pairs_same form ps all.2)

float_once : (form : Form) (x : Number) → T (fits binary64 x) → StaysIn form (in_form form x)
unfolding rewritten
float_once form x held =
    form_cases (λ v. v ≡ in_form form x → StaysIn form v) form x held (λ i is same. refl)
    (λ w b is same. ap (in_form form) is ∙ sym same) refl

mutual
  unfolding rewritten

  pub once : (form : Form) (v : Val) → rewritten form (rewritten form v) ≡ rewritten form v
  once form null = refl
  once form (bool b) = refl
  once form (integer z) = refl
  once form (float w bits) = float_once form (number w bits) (number_fits w bits)
  once form (bytes b) = refl
  once form (text b) = refl
  once form (array vs) = ap array (all_once form vs)
  once form (map ps) =
      let qs = put_all (pairs_rewritten form ps) no_pairs in
      ap (λ (rs : Pairs). map (put_all rs no_pairs))
      (pairs_same form qs (pairs_once form ps no_pairs tt))
      ∙ ap map (put_all-ascending qs (KeysAscend-put_all (pairs_rewritten form ps) no_pairs tt))
  once form (tag n v) = ap (tag n) (once form v)

  all_once : (form : Form) (vs : Vals)
      → all_rewritten form (all_rewritten form vs) ≡ all_rewritten form vs
  all_once form no_vals = refl
  all_once form (val v vs) = ap₂ (λ x xs. val x xs) (once form v) (all_once form vs)

  pairs_once : (form : Form) (ps before : Pairs) → StayIn form before
      → StayIn form (put_all (pairs_rewritten form ps) before)
  pairs_once form no_pairs before all = all
  pairs_once form (pair k v ps) before all =
      pairs_once form ps (put (rewritten form k) (rewritten form v) before)
      (stays-put form (rewritten form k) (rewritten form v) before (once form k) (once form v) all)

-- ---- the same number

abbrev number_in : Val → Number → Type 0
number_in (float w bits) x = number w bits ≡ x
number_in _ x = ⊥

number_at : (x : Number) → T (fits binary64 x) → number_in (shortest x) x
number_at x held = shortest_cases (λ v. number_in v x) x held (λ w b is. is)

pub shortest_apart : (x y : Number) → T (fits binary64 x) → T (fits binary64 y)
    → shortest x ≡ shortest y → x ≡ y
shortest_apart x y fit held same =
    one (shortest y) (subst (λ (v : Val). number_in v x) same (number_at x fit)) (number_at y held)
  where
    one : (v : Val) → number_in v x → number_in v y → x ≡ y
    one (float w bits) p q = sym p ∙ q
    one null p q = absurd p
    one (bool b) p q = absurd p
    one (integer z) p q = absurd p
    one (bytes b) p q = absurd p
    one (text b) p q = absurd p
    one (array vs) p q = absurd p
    one (map ps) p q = absurd p
    one (tag n v) p q = absurd p

of_float : (a : Float) → shortest (number_of a) ≡ shortened (float_view a)
unfolding rewritten
of_float (Half bits) = refl
of_float (Single bits) = refl
of_float (Double bits) = refl

pub held : (a : Float) → T (fits binary64 (number_of a))
held (Half bits) = number_fits half bits
held (Single bits) = number_fits single bits
held (Double bits) = number_fits double bits

pub same_floats : (a b : Float) → number_of a ≡ number_of b
    → shortened (float_view a) ≡ shortened (float_view b)
same_floats a b is = sym (of_float a) ∙ ap shortest is ∙ of_float b

pub same_numbers : (a b : Float) → shortened (float_view a) ≡ shortened (float_view b)
    → number_of a ≡ number_of b
same_numbers a b is =
    shortest_apart (number_of a) (number_of b) (held a) (held b)
    (of_float a ∙ is ∙ sym (of_float b))
