-- What is refused is refused whatever is added.
use Rattle.std.proofs.Common.{◌≡◌, ◌≢◌, ◌∙◌, ◌-◌, ◌<◌, ◌≤◌, ◌^◌, ℕ, List, [], ◌∷◌, ◌++◌, length, drop, None, refl, sym, ap, subst, arith, inl, inr}
use Rattle.std.proofs.lemmas.Bool.{cases_lt}
use Rattle.std.proofs.lemmas.List.{append-nil, append_assoc, length-append}
use Rattle.cbor_model.specs.Acceptable.{IsAcceptableWithin}
use Rattle.cbor_model.specs.Allowed.{AreFirst, IsAllowed, IsEnd, StandsAt}
use Rattle.cbor_model.specs.Raw.{Raw}
use Rattle.cbor_model.specs.Reader.{item_at, whole}
use Rattle.cbor_model.specs.Refusal.{Refusal, end_in_value, end_in_array, end_in_map}
use Rattle.cbor_model.specs.Refusal.{length_out_of_range, invalid_utf8, unassigned_code}
use Rattle.cbor_model.specs.Refusal.{unexpected_code, trailing_data, too_deep, scratch_too_small}
use Rattle.cbor_model.specs.Refusal.{wrong_struct_format}
use Rattle.cbor_model.specs.Spelling.{spell}
use Rattle.cbor_model.specs.Value.{value}
use Rattle.cbor_model.proofs.facts.Reader.{value_again}
use Rattle.cbor_model.proofs.reader.Bytes.{spelled_bytes}
use Rattle.cbor_model.proofs.refusals.FirstRefusal.{none_refused}
use Rattle.cbor_io.specs.declared.error.Category.TheVariants as category
use Rattle.cbor_io.specs.declared.error.Error.{Error}
use Rattle.cbor_io.specs.Error.{category_of, code_of}
use Rattle.cbor_decode.specs.FirstRefusal.{ReportsFirst, refusal_code}
use Rattle.cbor_pushed.specs.ItemAtFront.{HasNoItem, item_limits}
use Rattle.cbor_pushed.specs.Rests.{reading}

-- ---- lists

first_are : (a x : ℕ) (us xs : List ℕ) → a ∷ us ≡ x ∷ xs → (a ≡ x) × (us ≡ xs)
first_are a x us xs e = (cc, cc)

-- the shorter of two fronts of a list is a front of the other
pub is_front : (us bs xs ys : List ℕ) → us ++ bs ≡ xs ++ ys → length us ≤ length xs → xs ≡ us ++ drop (length us) xs
is_front [] bs xs ys e le = refl
is_front (a ∷ us) bs [] ys e le = absurd (omega arith)
is_front (a ∷ us) bs (x ∷ xs) ys e le =
    let first = first_are a x (us ++ bs) (xs ++ ys) e in
    let others = is_front us bs xs ys first.1 (omega arith) in
    ap (λ (n : ℕ). n ∷ xs) (sym first.0) ∙ ap (λ (l : List ℕ). a ∷ l) others

-- ---- a refusal that is allowed is allowed whatever is added, where it isn't that the bytes end

module _ (bytes more : List ℕ) where
  first_more : (j : ℕ) (front : List ℕ) → AreFirst j bytes front → AreFirst j (bytes ++ more) front
  first_more j front h = record {
    rest = h.rest ++ more;
    parts = ap (λ (l : List ℕ). l ++ more) h.parts ∙ append_assoc front h.rest more;
    long = h.long;
  }

  at_more : (j : ℕ) (here : List ℕ) → StandsAt bytes j here → StandsAt (bytes ++ more) j here
  at_more j here h = record { levels = h.levels; before = h.before; wanted = h.wanted; first = first_more j (h.before ++ here) h.first }

  allowed_more : (levels : ℕ) (why : Refusal) (place offset : ℕ) → (IsEnd why → ⊥) → IsAllowed (item_limits levels) bytes why place offset → IsAllowed (item_limits levels) (bytes ++ more) why place offset
  unfolding at_more
  allowed_more levels end_in_value place offset other h = absurd (other tt)
  allowed_more levels end_in_array place offset other h = absurd (other tt)
  allowed_more levels end_in_map place offset other h = absurd (other tt)
  allowed_more levels length_out_of_range place offset other h =
      let r = h.0 in
      (record { width = r.width; n = r.n; fits = r.fits; at = at_more place _ r.at; far = r.far }, h.1)
  allowed_more levels invalid_utf8 place offset other r = record {
    item = r.item;
    text = r.text;
    valid = r.valid;
    fits = r.fits;
    text_is = r.text_is;
    longest = r.longest;
    at = at_more place (spell r.item) r.at;
    offset_is = r.offset_is;
  }
  allowed_more levels unassigned_code place offset other h =
      let r = h.0 in
      (record { byte = r.byte; unassigned = r.unassigned; at = at_more place (r.byte ∷ []) r.at }, h.1)
  allowed_more levels unexpected_code place offset other (inl r, e) =
      (inl (record { at = at_more place (0xff ∷ []) r.at; no_array = r.no_array; no_map = r.no_map }), e)
  allowed_more levels unexpected_code place offset other (inr r, e) =
      (inr (record { major = r.major; chunks = r.chunks; byte = r.byte; of_strings = r.of_strings; fits = r.fits; no_break = r.no_break; no_chunk = r.no_chunk; at = at_more place _ r.at }), e)
  allowed_more levels trailing_data place offset other h =
      let r = h.0 in
      (record { item = r.item; byte = r.byte; acceptable = r.acceptable; first = first_more place (spell r.item ++ (r.byte ∷ [])) r.first }, h.1)
  allowed_more levels too_deep place offset other h =
      let r = h.0 in
      (record { opens = r.opens; fits = r.fits; at = at_more place _ r.at; deep = r.deep }, h.1)
  allowed_more levels scratch_too_small place offset other h = absurd h.0.over
  allowed_more levels wrong_struct_format place offset other h = absurd h

-- an end has the category
pub end_category : (why : Refusal) → IsEnd why → category_of (refusal_code why) ≡ category.Eof
end_category end_in_value is = refl
end_category end_in_array is = refl
end_category end_in_map is = refl
end_category _ is = absurd is

-- the bytes of an acceptable item allow none
spelled_allows_none : (levels : ℕ) (item : Raw) → IsAcceptableWithin levels item → length (spell item) < 2 ^ 64
    → (why : Refusal) (place offset : ℕ) → IsAllowed (item_limits levels) (spell item) why place offset → ⊥
spelled_allows_none levels item acceptable short why place offset allowed =
    let bs = spell item in
    let total = length bs in
    let within : length (bs ++ []) ≤ total = omega (arith, length-append {A = ℕ} bs []) in
    let read = ap (item_at (reading total) levels) (sym (append-nil bs)) ∙ value_again levels total None item [] short within tt acceptable in
    let start : total - length bs ≡ 0 = omega arith in
    none_refused None total levels bs (value item) (omega arith) (spelled_bytes item acceptable.fits) (ap whole read) why place offset
    (subst (λ (n : ℕ). IsAllowed (record { start = n; levels = levels; scratch = None }) bs why place offset) (sym start) allowed)

-- no acceptable item begins with bytes that allow a refusal other than that they end, where none is
-- at their front
pub for_good : (levels : ℕ) (bytes : List ℕ) (e : Error) → ReportsFirst (item_limits levels) bytes e → category_of (code_of e) ≢ category.Eof
    → HasNoItem levels bytes → (more : List ℕ) → length (bytes ++ more) < 2 ^ 64 → HasNoItem levels (bytes ++ more)
for_good levels bytes e first no_end none more short item rest begins =
    elim (cases_lt (length bytes) (length (spell item))) [
      | inl longer ↦ within longer
      | inr shorter ↦
          none item (drop (length (spell item)) bytes)
          (record { spelled = is_front (spell item) rest bytes more (sym begins.spelled) shorter; acceptable = begins.acceptable })
    ]
  where
    other : IsEnd first.why → ⊥
    other is = no_end (ap category_of first.code ∙ end_category first.why is)

    within : length bytes < length (spell item) → ⊥
    within longer =
        let behind = drop (length bytes) (spell item) in
        let parts : spell item ≡ bytes ++ behind = is_front bytes more (spell item) rest begins.spelled (omega arith) in
        let fits : length (spell item) < 2 ^ 64 = omega (arith, ap length begins.spelled, length-append (spell item) rest) in
        let allowed = allowed_more bytes behind levels first.why first.first.place first.offset other first.first.allowed in
        spelled_allows_none levels item begins.acceptable fits first.why first.first.place first.offset
        (subst (λ (l : List ℕ). IsAllowed (item_limits levels) l first.why first.first.place first.offset) (sym parts) allowed)
