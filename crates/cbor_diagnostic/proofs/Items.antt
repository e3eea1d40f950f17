-- What is written of the items of an array, of the pairs of a map, and round them.
use Rattle.std.proofs.Common.{◌≡◌, ℕ, suc, ◌+◌, ◌<◌, ◌≤◌, ◌==◌, Bool, true, false, List, [], ◌∷◌, ◌++◌, length, drop, get_or, refl, sym, ap, ◌∙◌, subst, arith, add-one, drop-cons, append_assoc, codes, Option}
use Rattle.std.proofs.lemmas.List.{drop_all}
use Rattle.std.specs.Result.{OnOk}
use Rattle.std.specs.Fmt.{WritesInCalls, decimal}
use Rattle.cbor_model.specs.Plain as plain
use Rattle.cbor_model.specs.Plain.{Val, Vals, Pairs, array, map, tag, count, pair_count}
use Rattle.cbor_value.specs.declared.Value.{Value}
use Rattle.cbor_value.specs.View.{view, views, pair_views}
use Rattle.cbor_diagnostic.specs.Layout.{inner_indent, lead, closing}
use Rattle.cbor_diagnostic.specs.Notation.{IsNotation, AreItems, ArePairs, IsPair}
use Rattle.cbor_diagnostic.specs.Prints.{Prints}
use Rattle.cbor_diagnostic.proofs.Printing.{Answer, SoFar, one_call, wrote_then, more, finished}

cons_at : {A : Type 0} → (xs : List A) (i : ℕ) (x : A) → i < length xs → x ≡ get_or xs i x → drop i xs ≡ x ∷ drop (i + 1) xs
cons_at xs i x lt is = rw add-one (drop-cons xs i x lt ∙ ap (λ y. y ∷ drop (suc i) xs) (sym is))

-- ---- one after the other

pub next_item : {W : Type 0} {took : W → List ℕ → W → Type 0} {IsWhole : List ℕ → Type 0} {w a b c : W} (indent : Option ℕ) (is_first : Bool) (vs : List Value) (i : ℕ) (v : Value)
    → i < length vs → v ≡ get_or vs i v → SoFar took IsWhole (AreItems indent is_first (views (drop i vs))) w a
    → WritesInCalls took a (lead indent is_first) b → Prints took (IsNotation indent (view v)) b c
    → SoFar took IsWhole (AreItems indent false (views (drop (i + 1) vs))) w c
next_item indent is_first vs i v lt is so_far led item =
    more (AreItems indent false (views (drop (i + 1) vs))) (lead indent is_first ++ item.text) so_far (wrote_then led item.wrote)
    (λ rest h. subst (λ (xs : List Value). AreItems indent is_first (views xs) ((lead indent is_first ++ item.text) ++ rest)) (sym (cons_at vs i v lt is))
    (item.text, rest, item.is, h, append_assoc (lead indent is_first) item.text rest))

pub no_more_items : {W : Type 0} {took : W → List ℕ → W → Type 0} {IsWhole : List ℕ → Type 0} {w a : W} (indent : Option ℕ) (is_first : Bool) (vs : List Value) (i : ℕ)
    → length vs ≤ i → SoFar took IsWhole (AreItems indent is_first (views (drop i vs))) w a → Prints took IsWhole w a
no_more_items indent is_first vs i past so_far =
    finished so_far (subst (λ (xs : List Value). AreItems indent is_first (views xs) []) (sym (drop_all i vs past)) refl)

pub next_pair : {W : Type 0} {took : W → List ℕ → W → Type 0} {IsWhole : List ℕ → Type 0} {w a b c : W} (indent : Option ℕ) (is_first : Bool) (ps : List (Value × Value)) (i : ℕ) (p : Value × Value)
    → i < length ps → p ≡ get_or ps i p → SoFar took IsWhole (ArePairs indent is_first (pair_views (drop i ps))) w a
    → WritesInCalls took a (lead indent is_first) b → Prints took (IsPair indent (view p.0) (view p.1)) b c
    → SoFar took IsWhole (ArePairs indent false (pair_views (drop (i + 1) ps))) w c
next_pair indent is_first ps i p lt is so_far led pair =
    more (ArePairs indent false (pair_views (drop (i + 1) ps))) (lead indent is_first ++ pair.text) so_far (wrote_then led pair.wrote)
    (λ rest h. subst (λ (xs : List (Value × Value)). ArePairs indent is_first (pair_views xs) ((lead indent is_first ++ pair.text) ++ rest)) (sym (cons_at ps i p lt is)) (
      pair.is.key,
      pair.is.value,
      rest,
      pair.is.of_key,
      pair.is.of_value,
      h,
      append_assoc (lead indent is_first) pair.text rest ∙ ap (λ (t : List ℕ). lead indent is_first ++ (t ++ rest)) pair.is.is,
    ))

pub no_more_pairs : {W : Type 0} {took : W → List ℕ → W → Type 0} {IsWhole : List ℕ → Type 0} {w a : W} (indent : Option ℕ) (is_first : Bool) (ps : List (Value × Value)) (i : ℕ)
    → length ps ≤ i → SoFar took IsWhole (ArePairs indent is_first (pair_views (drop i ps))) w a → Prints took IsWhole w a
no_more_pairs indent is_first ps i past so_far =
    finished so_far (subst (λ (xs : List (Value × Value)). ArePairs indent is_first (pair_views xs) []) (sym (drop_all i ps past)) refl)

-- ---- round them

pub array_printed : {W : Type 0} {took : W → List ℕ → W → Type 0} {w a b c : W} (indent : Option ℕ) (inside : Option ℕ) (vs : Vals) (is_empty : Bool) → inside ≡ inner_indent indent → is_empty ≡ (count vs == 0)
    → took w (codes "[") a → Prints took (AreItems inside true vs) a b → WritesInCalls took b (closing indent is_empty ++ codes "]") c
    → Prints took (IsNotation indent (array vs)) w c
array_printed {took = took} {w = w} {a = a} indent inside vs is_empty within empty opened items closed = record {
  text = codes "[" ++ (items.text ++ (closing indent is_empty ++ codes "]"));
  is = (
    items.text,
    subst (λ (i : Option ℕ). AreItems i true vs items.text) within items.is,
    ap (λ (b : Bool). codes "[" ++ (items.text ++ (closing indent b ++ codes "]"))) empty,
  );
  wrote = wrote_then (one_call took w (codes "[") a opened) (wrote_then items.wrote closed);
}

pub map_printed : {W : Type 0} {took : W → List ℕ → W → Type 0} {w a b c : W} (indent : Option ℕ) (inside : Option ℕ) (ps qs : Pairs) (is_empty : Bool) → qs ≡ ps → inside ≡ inner_indent indent
    → is_empty ≡ (pair_count ps == 0) → took w (codes "{") a → Prints took (ArePairs inside true qs) a b → WritesInCalls took b (closing indent is_empty ++ codes "}") c
    → Prints took (IsNotation indent (map ps)) w c
map_printed {took = took} {w = w} {a = a} indent inside ps qs is_empty listed within empty opened pairs closed = record {
  text = codes "{" ++ (pairs.text ++ (closing indent is_empty ++ codes "}"));
  is = (
    pairs.text,
    subst (λ (i : Option ℕ). ArePairs i true ps pairs.text) within (subst (λ (rs : Pairs). ArePairs inside true rs pairs.text) listed pairs.is),
    ap (λ (b : Bool). codes "{" ++ (pairs.text ++ (closing indent b ++ codes "}"))) empty,
  );
  wrote = wrote_then (one_call took w (codes "{") a opened) (wrote_then pairs.wrote closed);
}

pub tag_printed : {W : Type 0} {took : W → List ℕ → W → Type 0} {w a b c : W} (indent : Option ℕ) (n : ℕ) (v : Val) → WritesInCalls took w (decimal n ++ codes "(") a
    → Prints took (IsNotation indent v) a b → took b (codes ")") c → Prints took (IsNotation indent (tag n v)) w c
tag_printed {took = took} {b = b} {c = c} indent n v opened inside closed = record {
  text = (decimal n ++ codes "(") ++ (inside.text ++ codes ")");
  is = (inside.text, inside.is, append_assoc (decimal n) (codes "(") (inside.text ++ codes ")"));
  wrote = wrote_then opened (wrote_then inside.wrote (one_call took b (codes ")") c closed));
}

pub pair_printed : {W : Type 0} {took : W → List ℕ → W → Type 0} {w a b c : W} (indent : Option ℕ) (k v : Val) → Prints took (IsNotation indent k) w a → took a (codes ": ") b
    → Prints took (IsNotation indent v) b c → Prints took (IsPair indent k v) w c
pair_printed {took = took} {a = a} {b = b} indent k v key colon value = record {
  text = key.text ++ (codes ": " ++ value.text);
  is = record { key = key.text; value = value.text; of_key = key.is; of_value = value.is; is = refl };
  wrote = wrote_then key.wrote (wrote_then (one_call took a (codes ": ") b colon) value.wrote);
}

-- ---- a value by what it is

pub same_view : {W : Type 0} (took : W → List ℕ → W → Type 0) (w c : W) (indent : Option ℕ) (r : Answer) {u v : Val} → u ≡ v → OnOk r (Prints took (IsNotation indent v) w c) → OnOk r (Prints took (IsNotation indent u) w c)
same_view took w c indent r e h = subst (λ (x : Val). OnOk r (Prints took (IsNotation indent x) w c)) (sym e) h
