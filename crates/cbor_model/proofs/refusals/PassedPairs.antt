-- A reader goes through the keys and values of a map that precede a place where one is wanted.
use Rattle.std.proofs.Common.{◌≡◌, ◌⊎◌, ℕ, zero, suc, ◌+◌, ◌*◌, ◌<◌, ◌≤◌, List, [], ◌∷◌, ◌++◌}
use Rattle.std.proofs.Common.{length, Some, Ok, Err, refl, sym, ap, subst, ◌∙◌, append_assoc, arith}
use Rattle.std.proofs.Common.{inl, inr}
use Rattle.std.proofs.lemmas.List.{length-append}
use Rattle.cbor_model.specs.Raw as raw
use Rattle.cbor_model.specs.Raw.{Raws, no_raws, count, AreWellFormed}
use Rattle.cbor_model.specs.Spelling.{spell, spell_all}
use Rattle.cbor_model.specs.Reader.{Fault, Reads, Reading, Remaining, counted, to_break, Parts}
use Rattle.cbor_model.specs.Reader.{go_on, parts_by, key_at, pair_at, pairs_of, item_at}
use Rattle.cbor_model.specs.Wanted.{Opening, array_head, map_head, tag_head, indefinite_array}
use Rattle.cbor_model.specs.Wanted.{indefinite_map, HasPlace}
use Rattle.cbor_model.proofs.reader.ReaderSteps.{key_is}
use Rattle.cbor_model.proofs.reader.FirstBytes.{IsBegun, begun}
use Rattle.cbor_model.proofs.refusals.Wanted.{IsFrame, frame}
use Rattle.cbor_model.proofs.refusals.FaultMeaning.{IsClosed}
use Rattle.cbor_model.proofs.refusals.Faults.{with_last, last-fit, last-count, last-bytes}
use Rattle.cbor_model.proofs.refusals.Passage.{Passage, Out, refused_behind, out_map, first_err, rest_err}
use Rattle.cbor_model.proofs.refusals.Passage.{behind_one, frame-length}
use Rattle.cbor_model.proofs.refusals.InnerFaults.{place_le, front_begun, counted_step, break_step, none_err}

module _ {Item Items Pairs : Type 0} {m : Reading Item Items Pairs} {Cond : ℕ → List ℕ → Type 0}
    {Bad : ℕ → List ℕ → Fault → ℕ → Type 0} (pass : Passage m Cond Bad) (l : ℕ) where
  abbrev p : List ℕ → Reads Item
  p = item_at m l

  key_same : (bs : List ℕ) → key_at m.allows p bs ≡ p bs
  unfolding key_at
  key_same [] = sym (none_err m l)
  key_same (b ∷ bs) = key_is m.allows p (b ∷ bs) (pass.every b)

  key_err : (bs : List ℕ) (f : Fault) → p bs ≡ Err f → pair_at m.allows p bs ≡ Err f
  unfolding pair_at
  key_err bs f is = rw (key_same bs, is) refl

  value_err : (bs more : List ℕ) (k : Item) (f : Fault) → p bs ≡ Ok (k, more) → p more ≡ Err f → pair_at m.allows p bs ≡ Err f
  unfolding pair_at
  value_err bs more k f key is = rw (key_same bs, key, is) refl

  both_ok : (bs at_value more : List ℕ) (k v : Item) → p bs ≡ Ok (k, at_value) → p at_value ≡ Ok (v, more) → pair_at m.allows p bs ≡ Ok ((k, v), more)
  unfolding pair_at
  both_ok bs at_value more k v key val = rw (key_same bs, key, val) refl

  abbrev pub AsksPairs : Opening → Remaining → ℕ → Type 0
  AsksPairs (map_head w k) (counted left) n = n < 2 * left
  AsksPairs indefinite_map to_break n = Unit {0}
  AsksPairs _ _ _ = ⊥

  pairs_step : {Part Whole : Type 0} (ps : Parts Part Whole) (o : Opening) (fuel : ℕ) (remaining : Remaining) (n : ℕ) (bs : List ℕ) → AsksPairs o remaining n → IsBegun bs
      → parts_by ps (suc fuel) remaining bs ≡ go_on ps (parts_by ps fuel) (Some (behind_one remaining)) bs
  pairs_step ps (map_head w k) fuel (counted zero) n bs asks starts = absurd (omega (arith, asks))
  pairs_step ps (map_head w k) fuel (counted (suc left)) n bs asks starts = counted_step ps fuel left bs
  pairs_step ps indefinite_map fuel to_break n bs asks starts = break_step ps fuel bs starts
  pairs_step ps (map_head w k) fuel to_break n bs asks starts = absurd asks
  pairs_step ps (array_head w k) fuel remaining n bs asks starts = absurd asks
  pairs_step ps (tag_head w k) fuel remaining n bs asks starts = absurd asks
  pairs_step ps indefinite_map fuel (counted left) n bs asks starts = absurd asks
  pairs_step ps indefinite_array fuel remaining n bs asks starts = absurd asks

  pairs_less : (o : Opening) (remaining : Remaining) (n : ℕ) → AsksPairs o remaining (suc (suc n)) → AsksPairs o (behind_one remaining) n
  pairs_less (map_head w k) (counted zero) n asks = absurd (omega (arith, asks))
  pairs_less (map_head w k) (counted (suc left)) n asks = omega (arith, asks)
  pairs_less indefinite_map to_break n asks = tt
  pairs_less (map_head w k) to_break n asks = absurd asks
  pairs_less (array_head w k) remaining n asks = absurd asks
  pairs_less (tag_head w k) remaining n asks = absurd asks
  pairs_less indefinite_map (counted left) n asks = absurd asks
  pairs_less indefinite_array remaining n asks = absurd asks

  pub key_last : (o : Opening) (fuel : ℕ) (remaining : Remaining) (j c : ℕ) (bs : List ℕ) (f : Fault) → AsksPairs o remaining 0 → 2 * j ≡ c → IsClosed o c ⊎ IsBegun bs → p bs ≡ Err f → parts_by (pairs_of m p) (suc fuel) remaining bs ≡ Err f
  key_last (map_head w k) fuel (counted zero) j c bs f asks even comes is = absurd (omega (arith, asks))
  key_last (map_head w k) fuel (counted (suc left)) j c bs f asks even comes is = counted_step (pairs_of m p) fuel left bs ∙ first_err (pairs_of m p) fuel (counted left) bs f (key_err bs f is)
  key_last indefinite_map fuel to_break j c bs f asks even (inr starts) is = break_step (pairs_of m p) fuel bs starts ∙ first_err (pairs_of m p) fuel to_break bs f (key_err bs f is)
  key_last indefinite_map fuel to_break j c bs f asks even (inl odd) is = absurd (omega (arith, odd, even))
  key_last (map_head w k) fuel to_break j c bs f asks even comes is = absurd asks
  key_last (array_head w k) fuel remaining j c bs f asks even comes is = absurd asks
  key_last (tag_head w k) fuel remaining j c bs f asks even comes is = absurd asks
  key_last indefinite_map fuel (counted left) j c bs f asks even comes is = absurd asks
  key_last indefinite_array fuel remaining j c bs f asks even comes is = absurd asks

  pub pairs_through : (o : Opening) (bs : List ℕ) (c : ℕ) (Last : Fault → Type 0) → ((fuel : ℕ) (remaining : Remaining) (j : ℕ) (f : Fault) → AsksPairs o remaining 0 → 2 * j ≡ c → Last f → parts_by (pairs_of m p) (suc fuel) remaining bs ≡ Err f)
      → ((j : ℕ) (f : Fault) → suc (2 * j) ≡ c → Last f → p bs ≡ Err f)
      → (fuel : ℕ) (remaining : Remaining) (rs items : Raws) (bytes : List ℕ) (n j : ℕ) → IsFrame o rs → count rs ≡ 2 * j → count rs + count items ≡ c → AreWellFormed items → HasPlace o c → AsksPairs o remaining (count items) → count items < fuel
      → Cond l (spell_all items ++ bs) → frame o rs ++ (spell_all items ++ bs) ≡ bytes → length (frame o rs) + length (spell_all items) ≤ n
      → Out pass l bytes n Last (parts_by (pairs_of m p) fuel remaining (spell_all items ++ bs))
  unfolding spell
  pairs_through o bs c Last asked value zero remaining rs items bytes n j is_frame even all fits place asks enough cond same few = absurd (omega arith)
  pairs_through o bs c Last asked value (suc fuel) remaining rs no_raws bytes n j is_frame even all fits place asks enough cond same few = inr (λ f last. asked fuel remaining j f asks (omega (arith, even, all)) last)
  pairs_through o bs c Last asked value (suc fuel) remaining rs (raw.raw k no_raws) bytes n j is_frame even all fits place asks enough cond same few =
      let assoc = append_assoc (spell k) [] bs in
      let cond' = subst (Cond l) assoc cond in
      let same' : frame o rs ++ (spell k ++ bs) ≡ bytes = ap (λ (t : List ℕ). frame o rs ++ t) (sym assoc) ∙ same in
      let step = pairs_step (pairs_of m p) o fuel remaining 1 (spell k ++ bs) asks (front_begun (spell k) bs (begun k fits.0)) in
      subst (λ (t : List ℕ). Out pass l bytes n Last (parts_by (pairs_of m p) (suc fuel) remaining t)) (sym assoc)
      (elim (pass.passes l k bs fits.0 cond') [
        | inr bad ↦ inl (bad.0, step ∙ first_err (pairs_of m p) fuel (behind_one remaining) (spell k ++ bs) bad.0 (key_err (spell k ++ bs) bad.0 bad.1), refused_behind pass l o rs k bs bytes bad.0 n is_frame bad.2 same' (omega (arith, few, length-append (spell k) [])))
        | inl ok ↦ inr (λ f last. step ∙ first_err (pairs_of m p) fuel (behind_one remaining) (spell k ++ bs) f (value_err (spell k ++ bs) bs ok.0 f ok.1 (value j f (omega (arith, even, all)) last)))
      ])
  pairs_through o bs c Last asked value (suc fuel) remaining rs (raw.raw k (raw.raw v items)) bytes n j is_frame even all fits place asks enough cond same few =
      let more = spell_all items ++ bs in
      let at_value = spell v ++ more in
      let here = spell k ++ at_value in
      let assoc : (spell k ++ (spell v ++ spell_all items)) ++ bs ≡ here = three (spell k) (spell v) (spell_all items) bs in
      let cond' = subst (Cond l) assoc cond in
      let cond_v = pass.rest_cond l (spell k) at_value cond' in
      let same' : frame o rs ++ here ≡ bytes = ap (λ (t : List ℕ). frame o rs ++ t) (sym assoc) ∙ same in
      let step = pairs_step (pairs_of m p) o fuel remaining (suc (suc (count items))) here asks (front_begun (spell k) at_value (begun k fits.0)) in
      let rs1 = with_last rs k in
      let rs2 = with_last rs1 v in
      let c1 : count rs1 ≡ suc (count rs) = last-count rs k in
      let c2 : count rs2 ≡ suc (count rs1) = last-count rs1 v in
      let f1 : IsFrame o rs1 = record { opens = is_frame.opens; fits = last-fit rs k is_frame.fits fits.0; place = place_le o (count rs1) c (omega (arith, c1, all)) place } in
      let f2 : IsFrame o rs2 = record { opens = is_frame.opens; fits = last-fit rs1 v f1.fits fits.1.0; place = place_le o (count rs2) c (omega (arith, c1, c2, all)) place } in
      let len1 : length (frame o rs1) ≡ length (frame o rs) + length (spell k) = frame-length o rs k in
      let len2 : length (frame o rs2) ≡ length (frame o rs1) + length (spell v) = frame-length o rs1 v in
      let few' : length (frame o rs) + (length (spell k) + (length (spell v) + length (spell_all items))) ≤ n = omega (arith, few, length-append (spell k) (spell v ++ spell_all items), length-append (spell v) (spell_all items)) in
      let same1 : frame o rs1 ++ at_value ≡ bytes = last-bytes o rs k at_value ∙ same' in
      subst (λ (t : List ℕ). Out pass l bytes n Last (parts_by (pairs_of m p) (suc fuel) remaining t)) (sym assoc)
      (elim (pass.passes l k at_value fits.0 cond') [
        | inr bad ↦ inl (bad.0, step ∙ first_err (pairs_of m p) fuel (behind_one remaining) here bad.0 (key_err here bad.0 bad.1), refused_behind pass l o rs k at_value bytes bad.0 n is_frame bad.2 same' (omega (arith, few')))
        | inl ok ↦
            elim (pass.passes l v more fits.1.0 cond_v) [
              | inr bad ↦ inl (bad.0, step ∙ first_err (pairs_of m p) fuel (behind_one remaining) here bad.0 (value_err here at_value ok.0 bad.0 ok.1 bad.1), refused_behind pass l o rs1 v more bytes bad.0 n f1 bad.2 same1 (omega (arith, few', len1)))
              | inl ok' ↦
                  out_map pass l bytes n Last (parts_by (pairs_of m p) fuel (behind_one remaining) more) (parts_by (pairs_of m p) (suc fuel) remaining here)
                  (λ f is. step ∙ rest_err (pairs_of m p) fuel (behind_one remaining) here more (ok.0, ok'.0) f (both_ok here at_value more ok.0 ok'.0 ok.1 ok'.1) is)
                  (pairs_through o bs c Last asked value fuel (behind_one remaining) rs2 items bytes n (suc j) f2 (omega (arith, even, c1, c2)) (omega (arith, all, c1, c2)) fits.1.1 place (pairs_less o remaining (count items) asks) (omega (arith, enough)) (pass.rest_cond l (spell v) more cond_v)
                  (last-bytes o rs1 v more ∙ same1) (omega (arith, few', len1, len2)))
            ]
      ])
    where
      three : (a b c d : List ℕ) → (a ++ (b ++ c)) ++ d ≡ a ++ (b ++ (c ++ d))
      three a b c d = simp append_assoc
