-- What the bytes of an item allow that nests deeper than is read: that refusal alone.
use Rattle.std.proofs.Common.{◌≡◌, ◌∙◌, ◌+◌, ◌-◌, ◌^◌, ◌<◌, ◌≤◌, ℕ, List, [], ◌∷◌, ◌++◌, length, None, refl, sym, ap, inl, inr, arith}
use Rattle.std.proofs.lemmas.List.{append_assoc, length-append}
use Rattle.cbor_model.specs.Acceptable.{IsAcceptableWithin}
use Rattle.cbor_model.specs.Allowed.{AreFirst, Ends, IsAllowed, IsFirstRefusal, IsTrailingData, Limits, StandsAt, limits_of}
use Rattle.cbor_model.specs.Raw.{Raw, AreBytes}
use Rattle.cbor_model.specs.Reader.{whole}
use Rattle.cbor_model.specs.Refusal.{Refusal, end_in_value, end_in_array, end_in_map}
use Rattle.cbor_model.specs.Refusal.{length_out_of_range, invalid_utf8, unassigned_code}
use Rattle.cbor_model.specs.Refusal.{unexpected_code, trailing_data, too_deep, scratch_too_small}
use Rattle.cbor_model.specs.Refusal.{wrong_struct_format}
use Rattle.cbor_model.specs.Spelling.{spell}
use Rattle.cbor_model.proofs.facts.Laws.{one_spelling}
use Rattle.cbor_model.proofs.facts.Reader.{value_again}
use Rattle.cbor_model.proofs.facts.Refusals.{refused_first}

module _ (levels : ℕ) (item : Raw) (good : IsAcceptableWithin levels item) (short : length (spell item) + 1 < 2 ^ 64) (fits : AreBytes (spell item ++ (0 ∷ []))) where
  longer : length (spell item ++ (0 ∷ [])) ≡ length (spell item) + 1
  longer = length-append {A = ℕ} (spell item) (0 ∷ [])

  abbrev deep_limits : Limits
  deep_limits = record { start = length (spell item ++ (0 ∷ [])) - length (spell item ++ (0 ∷ [])); levels = levels; scratch = None }

  -- where as many levels are read as it nests, that byte is refused first
  after : (offset : ℕ) × (offset + 0 ≡ length (spell item ++ (0 ∷ []))) × IsFirstRefusal deep_limits (spell item ++ (0 ∷ [])) trailing_data offset
  after =
      let total = length (spell item ++ (0 ∷ [])) in
      refused_first None total levels (spell item ++ (0 ∷ [])) (record { why = trailing_data; left = 0 }) (omega arith) fits
      (ap whole (value_again levels total None item (0 ∷ []) (omega (arith, longer)) (omega arith) tt good))

  none_more : (why : Refusal) (place offset : ℕ) → IsAllowed deep_limits (spell item ++ (0 ∷ [])) why place offset → place ≤ length (spell item) → ⊥
  none_more why place offset allowed le =
      let first = after.2 in
      elim (first.first why place offset allowed) [
        | inl same ↦ omega (arith, longer, after.1, first.allowed.1, same.1, le)
        | inr (inl before) ↦ omega (arith, longer, after.1, first.allowed.1, before, le)
        | inr (inr at) ↦ omega (arith, longer, after.1, first.allowed.1, at.0, le)
      ]

  -- ---- what the item's bytes allow, they allow with the byte too

  first_more : (j : ℕ) (front : List ℕ) → AreFirst j (spell item) front → AreFirst j (spell item ++ (0 ∷ [])) front
  first_more j front h = record {
    rest = h.rest ++ (0 ∷ []);
    parts = ap (λ (l : List ℕ). l ++ (0 ∷ [])) h.parts ∙ append_assoc front h.rest (0 ∷ []);
    long = h.long;
  }

  place_le : (j : ℕ) (front : List ℕ) → AreFirst j (spell item) front → j ≤ length (spell item)
  place_le j front h = omega (arith, h.long, ap length h.parts, length-append {A = ℕ} front h.rest)

  at_more : (j : ℕ) (here : List ℕ) → StandsAt (spell item) j here → StandsAt (spell item ++ (0 ∷ [])) j here
  at_more j here h = record { levels = h.levels; before = h.before; wanted = h.wanted; first = first_more j (h.before ++ here) h.first }

  -- they are whole
  no_end : (j : ℕ) → Ends (spell item) j → ⊥
  no_end j ends =
      let b = ends.begins.begins in
      ends.begins.more ((one_spelling item b.item b.more good.fits b.fits (sym b.whole)).1)

  -- and nothing follows
  no_trailing : (most j : ℕ) → IsTrailingData most (spell item) j → ⊥
  no_trailing most j h =
      let parts = h.first.parts ∙ append_assoc (spell h.item) (h.byte ∷ []) h.first.rest in
      let none = (one_spelling h.item item (h.byte ∷ h.first.rest) h.acceptable.fits good.fits (sym parts)).1 in
      absurd cc

  pub only_too_deep : (why : Refusal) (place offset : ℕ) → IsAllowed (limits_of None) (spell item) why place offset → why ≡ too_deep
  unfolding at_more
  only_too_deep end_in_value place offset h = absurd (no_end place h.0.ends)
  only_too_deep end_in_array place offset h = absurd (no_end place h.0.ends)
  only_too_deep end_in_map place offset h = absurd (no_end place h.0.ends)
  only_too_deep length_out_of_range place offset h =
      let r = h.0 in
      absurd (none_more length_out_of_range place offset
      (record { width = r.width; n = r.n; fits = r.fits; at = at_more place _ r.at; far = omega (arith, r.far) }, h.1)
      (place_le place _ r.at.first))
  only_too_deep invalid_utf8 place offset r =
      absurd (none_more invalid_utf8 place offset
      (record { item = r.item; text = r.text; valid = r.valid; fits = r.fits; text_is = r.text_is; longest = r.longest; at = at_more place (spell r.item) r.at; offset_is = r.offset_is })
      (place_le place _ r.at.first))
  only_too_deep unassigned_code place offset h =
      let r = h.0 in
      absurd (none_more unassigned_code place offset
      (record { byte = r.byte; unassigned = r.unassigned; at = at_more place (r.byte ∷ []) r.at }, h.1)
      (place_le place _ r.at.first))
  only_too_deep unexpected_code place offset (inl r, e) =
      absurd (none_more unexpected_code place offset
      (inl (record { at = at_more place (0xff ∷ []) r.at; no_array = r.no_array; no_map = r.no_map }), e)
      (place_le place _ r.at.first))
  only_too_deep unexpected_code place offset (inr r, e) =
      absurd (none_more unexpected_code place offset
      (inr (record { major = r.major; chunks = r.chunks; byte = r.byte; of_strings = r.of_strings; fits = r.fits; no_break = r.no_break; no_chunk = r.no_chunk; at = at_more place _ r.at }), e)
      (place_le place _ r.at.first))
  only_too_deep trailing_data place offset h = absurd (no_trailing _ place h.0)
  only_too_deep too_deep place offset h = refl
  only_too_deep scratch_too_small place offset h = absurd h.0.over
  only_too_deep wrong_struct_format place offset h = absurd h
