-- Maps that are filled from a list, one entry after the other.
use Rattle.std.proofs.Common.{◌≡◌, ◌∙◌, ◌⊎◌, ◌↔◌, List, [], ◌∷◌, ◌++◌, Bool, true, false, Option, Some, None, inl, inr, refl, sym, ap, arith}
use Rattle.std.specs.Prelude.{option_map, if◌then◌else◌}
use Rattle.std.specs.List.{Contains}
use Rattle.std.specs.Map.{update}
use Rattle.std.proofs.lemmas.List.Elements.{Contains-append_left, Contains-push, Contains-push_cases}
use Rattle.cbor_round_trip.specs.Filled.{HasJust}

some_is : {X : Type 0} (x y : X) → Some x ≡ Some y → x ≡ y
some_is x y e = cc

none_is : {X : Type 0} (x : X) → None ≡ Some x → ⊥
none_is x e = absurd cc

never : false ≡ true → ⊥
never e = absurd cc

-- what a function makes of what a test picks
pub mapped_pick : {X Y : Type 0} (h : X → Y) (b d : Bool) → b ≡ d → (x : X) (o : Option X)
    → option_map h (if b then Some x else o) ≡ (if d then Some (h x) else option_map h o)
mapped_pick h true d e x o = rw (sym e) refl
mapped_pick h false d e x o = rw (sym e) refl

-- what is there already, put there
pub put_again : {K X : Type 0} (eq : K → K → Bool) → ((k q : K) → (eq k q ≡ true) ↔ (k ≡ q)) → (f : K → Option X) (k : K) (x : X)
    → f k ≡ Some x → (q : K) → f q ≡ update eq f k (Some x) q
put_again {K} {X} eq decides f k x there q = again (eq k q) (decides k q)
  where
    again : (b : Bool) → ((b ≡ true) ↔ (k ≡ q)) → f q ≡ (if b then Some x else f q)
    again true d = ap f (sym (d.0 refl)) ∙ there
    again false d = refl

module _ {K X A : Type 0} (key : A → K) (content : A → X) where
  -- of an empty list
  pub has_none : (f : K → Option X) → ((k : K) → f k ≡ None) → HasJust key content f []
  has_none f empty k x = (λ there. absurd (none_is x (sym (empty k) ∙ there)), λ entry. absurd (omega (arith, entry.1.1)))

  -- of the same list
  pub has_same : (f g : K → Option X) (xs : List A) → ((k : K) → g k ≡ f k) → HasJust key content f xs → HasJust key content g xs
  has_same f g xs same just k x = (λ there. (just k x).0 (sym (same k) ∙ there), λ entry. same k ∙ (just k x).1 entry)

  module _ (f g : K → Option X) (xs : List A) (a : A) (just : HasJust key content f xs) where
    module _ (free : (f (key a) ≡ None) ⊎ (f (key a) ≡ Some (content a))) where
      here : (x : X) → f (key a) ≡ Some x → content a ≡ x
      here x there = elim free [
        | inl none ↦ absurd (none_is x (sym none ∙ there))
        | inr one ↦ some_is (content a) x (sym one ∙ there)
      ]

      more : (k : K) (x : X) (b : Bool) → ((b ≡ true) ↔ (key a ≡ k)) → g k ≡ (if b then Some (content a) else f k)
          → (g k ≡ Some x) ↔ ((o : A) × Contains (xs ++ a ∷ []) o × (k ≡ key o) × (x ≡ content o))
      more k x true d now = (
        λ there. (a, Contains-push xs a, sym (d.0 refl), sym (some_is (content a) x (sym now ∙ there))),
        λ entry. now ∙ ap Some (elim (Contains-push_cases xs a entry.0 entry.1) [
          | inl before ↦ here x (ap f (d.0 refl) ∙ (just k x).1 (entry.0, before, entry.2, entry.3))
          | inr last ↦ ap content last ∙ sym entry.3
        ]),
      )
      more k x false d now = (
        λ there. let e = (just k x).0 (sym now ∙ there) in (e.0, Contains-append_left xs (a ∷ []) e.0 e.1, e.2, e.3),
        λ entry. elim (Contains-push_cases xs a entry.0 entry.1) [
          | inl before ↦ now ∙ (just k x).1 (entry.0, before, entry.2, entry.3)
          | inr last ↦ absurd (never (d.1 (ap key last ∙ sym entry.2)))
        ],
      )

      -- of one more, where nothing else stood at its key
      pub has_more : (eq : K → K → Bool) → ((k q : K) → (eq k q ≡ true) ↔ (k ≡ q))
          → ((k : K) → g k ≡ update eq f (key a) (Some (content a)) k) → HasJust key content g (xs ++ a ∷ [])
      has_more eq decides now k x = more k x (eq (key a) k) (decides (key a) k) (now k)

    -- nothing else stands there, where a map has a list that begins so
    pub none_else : (others : List A) → HasJust key content g ((xs ++ a ∷ []) ++ others) → (f (key a) ≡ None) ⊎ (f (key a) ≡ Some (content a))
    none_else others all = go (f (key a)) refl
      where
        among : (o : A) → Contains (xs ++ a ∷ []) o → g (key o) ≡ Some (content o)
        among o is = (all (key o) (content o)).1 (o, Contains-append_left (xs ++ a ∷ []) others o is, refl, refl)

        go : (o : Option X) → f (key a) ≡ o → (f (key a) ≡ None) ⊎ (f (key a) ≡ Some (content a))
        go None e = inl e
        go (Some x) e =
            let entry = (just (key a) x).0 e in
            inr (e ∙ ap Some entry.3 ∙ sym (among entry.0 (Contains-append_left xs (a ∷ []) entry.0 entry.1)) ∙ ap g (sym entry.2) ∙ among a (Contains-push xs a))
