-- What is found under a key of a map, and what the bytes say of it.
use Rattle.std.proofs.Common.{◌≡◌, ◌∙◌, ℕ, List, Option, Some, None, Result, Ok, Err, IfOk, MatchOption, refl, sym, ap, subst, string_bytes}
use Rattle.std.specs.Prelude.{String}
use Rattle.std.specs.Global.{Global}
use Rattle.std.specs.FinMap as finmap
use Rattle.cbor_model.specs.Canonical.{IsOrdered, KeysAscend}
use Rattle.cbor_model.specs.FiniteMap.{finite_map}
use Rattle.cbor_model.specs.Laws.{SpellsValue}
use Rattle.cbor_model.specs.Plain as plain
use Rattle.cbor_model.specs.Plain.{Val, null, bool, integer, float, bytes, array, map, tag}
use Rattle.cbor_model.proofs.facts.Maps.{KeysAscend-from_IsOrdered}
use Rattle.cbor_value.specs.View.{view, map_view}
use Rattle.cbor_value.specs.declared.Map.{Map}
use Rattle.cbor_value.specs.declared.Value.{Value, Map as of_map}
use Rattle.serde_cbor.proofs.facts.Values.{view_map}
use Rattle.test_cbor.specs.Lookup.{HasText, IsText, IsUnder}

is_text : (w : Val) (text : List ℕ) → IsText w text → w ≡ plain.text text
is_text (plain.text b) text is = ap plain.text is
is_text null text is = absurd is
is_text (bool b) text is = absurd is
is_text (integer z) text is = absurd is
is_text (float w bits) text is = absurd is
is_text (bytes b) text is = absurd is
is_text (array vs) text is = absurd is
is_text (map ps) text is = absurd is
is_text (tag n v) text is = absurd is

some_one : {A : Type 0} (x y : A) → Some x ≡ Some y → x ≡ y
some_one x y same = cc

-- ---- in a map that lists its keys in order

module _ (value : Value) (m : Map) (is_map : value ≡ of_map m) where
  same : view value ≡ map (map_view m)
  same = ap view is_map ∙ view_map m

  pub ascends : IsOrdered (view value) → KeysAscend (map_view m)
  ascends ordered = KeysAscend-from_IsOrdered (map_view m) (subst IsOrdered same ordered)

  at : (key : Val) (text : List ℕ) → IsUnder (view value) key text
      → finmap.get (finite_map (map_view m)) key ≡ Some (plain.text text)
  at key text under = subst (λ (v : Val). IsUnder v key text) same under

  -- what the value under the key is, if it is a text
  pub found : {E : Type 0} (key w : Val) (r : Result (Option (String Global)) E)
      → finmap.get (finite_map (map_view m)) key ≡ Some w
      → IfOk r (λ t. MatchOption t ((text : List ℕ) → IsText w text → ⊥) (λ s. IsText w (string_bytes s)))
      → IfOk r (λ t. MatchOption t ((text : List ℕ) → IsUnder (view value) key text → ⊥) (λ s. IsUnder (view value) key (string_bytes s)))
  found key w (Ok None) got h =
      λ text under. h text (subst (λ (v : Val). IsText v text) (sym (some_one w (plain.text text) (sym got ∙ at key text under))) refl)
  found key w (Ok (Some s)) got h =
      subst (λ (v : Val). IsUnder v key (string_bytes s)) (sym same) (got ∙ ap Some (is_text w (string_bytes s) h))
  found key w (Err e) got h = h

  pub not_found : (key : Val) (text : List ℕ) → finmap.get (finite_map (map_view m)) key ≡ None
      → IsUnder (view value) key text → ⊥
  not_found key text none under = let there = sym none ∙ at key text under in absurd cc

-- ---- of bytes that spell one value

pub of_bytes : (bs key : List ℕ) (v k : Val) (t : Option (String Global)) → SpellsValue bs v
    → ((w : Val) → SpellsValue bs w → v ≡ w) → k ≡ plain.text key
    → MatchOption t ((text : List ℕ) → IsUnder v k text → ⊥) (λ s. IsUnder v k (string_bytes s))
    → MatchOption t ((text : List ℕ) → HasText bs key text → ⊥) (λ s. HasText bs key (string_bytes s))
of_bytes bs key v k None spells one same h = λ text has.
    h text (subst (λ (w : Val). IsUnder w k text) (sym (one has.value has.spelled)) (subst (λ (l : Val). IsUnder has.value l text) (sym same) has.found))
of_bytes bs key v k (Some s) spells one same h = record {
  value = v;
  spelled = spells;
  found = subst (λ (l : Val). IsUnder v l (string_bytes s)) same h;
}
