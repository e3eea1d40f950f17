-- What the reader reports after a whole item, and at the end of input.
use Rattle.std.proofs.Common.{◌≡◌, ◌⊎◌, ℕ, zero, suc, ◌+◌, ◌-◌, ◌<◌, ◌≤◌}
use Rattle.std.proofs.Common.{false, cond, eqb, List, [], ◌∷◌, ◌++◌, length, Option, Ok, Err, refl}
use Rattle.std.proofs.Common.{sym, ap, subst, ◌∙◌, append_assoc, arith, inl, inr}
use Rattle.std.proofs.lemmas.Bool.{ne_eqb}
use Rattle.std.proofs.lemmas.List.{append-nil, length-append}
use Rattle.cbor_model.specs.Raw as raw
use Rattle.cbor_model.specs.Raw.{Raw, Raws, Chunk, IsChunk, joined, count, AreBytes, IsWellFormed}
use Rattle.cbor_model.specs.Spelling.{spell, spell_all}
use Rattle.cbor_model.specs.Refusal.{Refusal, end_in_value, end_in_array, end_in_map}
use Rattle.cbor_model.specs.Refusal.{length_out_of_range, invalid_utf8, unassigned_code}
use Rattle.cbor_model.specs.Refusal.{unexpected_code, trailing_data, too_deep, scratch_too_small}
use Rattle.cbor_model.specs.Refusal.{wrong_struct_format}
use Rattle.cbor_model.specs.Reader.{Fault, Reads, Reading, before as reported_at, item_at, whole}
use Rattle.cbor_model.specs.Wanted.{indefinite_array, indefinite_map, IsWanted}
use Rattle.cbor_model.specs.Wanted.{StandsInIndefiniteArray, StandsInIndefiniteMap}
use Rattle.cbor_model.specs.Allowed.{IsProperBeginning, chunks_begun, Limits, IsStrayBreak}
use Rattle.cbor_model.specs.Allowed.{IsNoChunk, IsTrailingData, IsEnd, IsAllowed, EndsInValue}
use Rattle.cbor_model.proofs.reader.Found.{found}
use Rattle.cbor_model.proofs.refusals.Wanted.{flat, flat_fit, spell-flat, count-flat}
use Rattle.cbor_model.proofs.refusals.FaultMeaning.{Meaning, IsClosedBreak}
use Rattle.cbor_model.proofs.refusals.LeafFaults.{first-length}
use Rattle.cbor_model.proofs.refusals.NoFronts.{proper_out, IsHard, hard_out}
use Rattle.cbor_model.proofs.refusals.NoFronts.{unassigned_hard, no_chunk_hard, break_hard}
use Rattle.cbor_model.proofs.refusals.InnerFaults.{LastComes, last_comes}
use Rattle.cbor_model.proofs.refusals.InnerFaults.{deep_err}
use Rattle.cbor_model.proofs.refusals.EarlierRefusals.{Special}
use Rattle.cbor_model.proofs.refusals.ReadingRules as passing
use Rattle.cbor_model.proofs.refusals.ReadingRules.{Rules}
use Rattle.cbor_model.proofs.refusals.ReportsAllowed as rows
use Rattle.cbor_model.proofs.refusals.ReportsAllowed.{Precedes}

-- a proper beginning has no front that no spelling has
no_hard : (why : Refusal) (u rest b : List ℕ) → IsProperBeginning b → IsHard why u → b ≡ u ++ rest → ⊥
no_hard why u rest b begins h parts =
    let s = begins.begins.item in
    hard_out why u (rest ++ begins.begins.more) s [] h begins.begins.fits
    (sym (append_assoc u rest begins.begins.more) ∙ ap (λ (t : List ℕ). t ++ begins.begins.more) (sym parts) ∙ sym begins.begins.whole ∙ sym (append-nil (spell s)))

module _ {Item Items Pairs : Type 0} (m : Reading Item Items Pairs) (total : ℕ) (scratch : Option ℕ) (rules : Rules m total scratch) where
  abbrev lim : ℕ → List ℕ → Limits
  lim l bytes = passing.lim m total scratch rules l bytes

  abbrev Cond : ℕ → List ℕ → Type 0
  Cond l bytes = passing.Cond m total scratch rules l bytes

  abbrev Bad : ℕ → List ℕ → Fault → ℕ → Type 0
  Bad l bytes f n = passing.Bad m total scratch rules l bytes f n

  abbrev Refuses : ℕ → List ℕ → ℕ → Type 0
  Refuses L bytes n = passing.Refuses m total scratch rules L bytes n

  abbrev Answers : ℕ → List ℕ → Refusal → ℕ → ℕ → Type 0
  Answers L b why place offset = rows.Answers m total scratch rules L b why place offset

  -- ---- what follows a whole item

  pub whole_trailing : (x : Item) (byte : ℕ) (rest : List ℕ) (r : Reads Item) → r ≡ Ok (x, byte ∷ rest) → whole r ≡ Err (record { why = trailing_data; left = length (byte ∷ rest) - 1 })
  whole_trailing x byte rest r is =
      let some : eqb (length (byte ∷ rest)) 0 ≡ false = ne_eqb (length (byte ∷ rest)) 0 (λ none. omega arith) in
      rw (is, some) refl

  pub answers_trailing : (L : ℕ) (b : List ℕ) (j : ℕ) → Cond L b → IsTrailingData L b j → Answers L b trailing_data j j
  answers_trailing L b j cond r =
      let more = r.byte ∷ r.first.rest in
      let parts : b ≡ spell r.item ++ more = r.first.parts ∙ append_assoc (spell r.item) (r.byte ∷ []) r.first.rest in
      let len = first-length j b (spell r.item ++ (r.byte ∷ [])) r.first in
      elim (passing.passes m total scratch rules L r.item more r.acceptable.fits (subst (Cond L) parts cond)) [
        | inl ok ↦ record {
          fault = record { why = trailing_data; left = length more - 1 };
          is = whole_trailing ok.0 r.byte r.first.rest (item_at m L b) (ap (item_at m L) parts ∙ ok.1);
          how = inl (refl, omega (arith, len));
        }
        | inr bad ↦ record {
          fault = bad.0;
          is = rows.whole_err m total scratch rules (item_at m L b) bad.0 (ap (item_at m L) parts ∙ bad.1);
          how = inr (length (spell r.item), inl (omega (arith, r.first.long, length-append (spell r.item) (r.byte ∷ []))), subst (λ (t : List ℕ). Bad L t bad.0 (length (spell r.item))) (sym parts) bad.2);
        }
      ]

  -- ---- where an array or a map is open

  -- what is reported after a path, at the end
  end_before : (k : ℕ) (p : List ℕ) → IsWanted k p → (L l : ℕ) (here b : List ℕ) (f : Fault) (n : ℕ) (why : Refusal) → IsEnd why → L ≡ k + l → b ≡ p ++ here → n ≤ length here → item_at m L (p ++ here) ≡ Err f → Bad l here f n
      → Answers L b why (length b) (length b)
  end_before k p w L l here b f n why is_end levels parts few is bad = record {
    fault = f;
    is = rows.whole_err m total scratch rules (item_at m L b) f (ap (item_at m L) parts ∙ is);
    how = inr (
      length p + n,
      inr (omega (arith, few, ap length parts, length-append p here), is_end),
      subst (λ (t : List ℕ). Bad L t f (length p + n)) (sym parts) (passing.bad_path m total scratch rules k p w L l here f n levels bad),
    );
  }

  -- the end of input, where it is reached
  end_met : (L : ℕ) (b : List ℕ) (why : Refusal) → item_at m L b ≡ Err (record { why = why; left = 0 }) → Answers L b why (length b) (length b)
  end_met L b why is = record {
    fault = record { why = why; left = 0 };
    is = rows.whole_err m total scratch rules (item_at m L b) (record { why = why; left = 0 }) is;
    how = inl (refl, omega arith);
  }

  -- what lies before is refused
  refused_first : (L : ℕ) (b p here : List ℕ) (why : Refusal) → b ≡ p ++ here → 0 < length here → Refuses L (p ++ here) (length p) → Answers L b why (length b) (length b)
  refused_first L b p here why parts some bad = record {
    fault = bad.fault;
    is = rows.whole_err m total scratch rules (item_at m L b) bad.fault (ap (item_at m L) parts ∙ bad.is);
    how = inr (length p, inl (omega (arith, some, ap length parts, length-append p here)), subst (λ (t : List ℕ). Bad L t bad.fault (length p)) (sym parts) bad.bad);
  }

  pub answers_in_array : (L : ℕ) (b : List ℕ) → Cond L b → StandsInIndefiniteArray b → Answers L b end_in_array (length b) (length b)
  answers_in_array L b cond s =
      elim (passing.goes_through m total scratch rules s.levels s.before s.wanted L here (subst (Cond L) s.parts cond)) [
        | inl bad ↦ refused_first L b s.before here end_in_array s.parts (omega arith) bad
        | inr goes ↦ by_level goes.left goes.levels goes.cond goes.refuses
      ]
    where
      here : List ℕ
      here = 0x9f ∷ spell_all s.items

      begins : LastComes s.wanted here
      begins = last_comes s.wanted here (record { first = 0x9f; others = spell_all s.items; is = refl; no_break = refl })

      by_level : (l : ℕ) → L ≡ s.levels + l → Cond l here → ((f : Fault) → LastComes s.wanted here → item_at m l here ≡ Err f → item_at m L (s.before ++ here) ≡ Err f) → Answers L b end_in_array (length b) (length b)
      by_level zero levels cond' refuses =
          let f = reported_at too_deep (spell_all s.items) in
          end_before s.levels s.before s.wanted L 0 here b f 1 end_in_array tt levels s.parts (omega arith) (refuses f begins (deep_err m indefinite_array (spell_all s.items) tt)) (passing.deep m total scratch rules indefinite_array (spell_all s.items) tt cond')
      by_level (suc l) levels cond' refuses =
          elim (passing.array_end m total scratch rules l s.items s.fits cond') [
            | inl bad ↦ end_before s.levels s.before s.wanted L (suc l) here b bad.0 (length here) end_in_array tt levels s.parts (omega arith) (refuses bad.0 begins bad.1) bad.2
            | inr each ↦
                let f : Fault = record { why = end_in_array; left = 0 } in
                end_met L b end_in_array (ap (item_at m L) s.parts ∙ refuses f begins (each f refl))
          ]

  pub answers_in_map : (L : ℕ) (b : List ℕ) → Cond L b → StandsInIndefiniteMap b → Answers L b end_in_map (length b) (length b)
  answers_in_map L b cond s =
      elim (passing.goes_through m total scratch rules s.levels s.before s.wanted L here (subst (Cond L) parts cond)) [
        | inl bad ↦ refused_first L b s.before here end_in_map parts (omega arith) bad
        | inr goes ↦ by_level goes.left goes.levels goes.cond goes.refuses
      ]
    where
      items : Raws
      items = flat s.pairs

      here : List ℕ
      here = 0xbf ∷ spell_all items

      parts : b ≡ s.before ++ here
      parts = s.parts ∙ ap (λ (t : List ℕ). s.before ++ (0xbf ∷ t)) (sym (spell-flat s.pairs))

      begins : LastComes s.wanted here
      begins = last_comes s.wanted here (record { first = 0xbf; others = spell_all items; is = refl; no_break = refl })

      by_level : (l : ℕ) → L ≡ s.levels + l → Cond l here → ((f : Fault) → LastComes s.wanted here → item_at m l here ≡ Err f → item_at m L (s.before ++ here) ≡ Err f) → Answers L b end_in_map (length b) (length b)
      by_level zero levels cond' refuses =
          let f = reported_at too_deep (spell_all items) in
          end_before s.levels s.before s.wanted L 0 here b f 1 end_in_map tt levels parts (omega arith) (refuses f begins (deep_err m indefinite_map (spell_all items) tt)) (passing.deep m total scratch rules indefinite_map (spell_all items) tt cond')
      by_level (suc l) levels cond' refuses =
          elim (passing.map_end m total scratch rules l (raw.pair_count s.pairs) items (flat_fit s.pairs s.fits) (count-flat s.pairs) cond') [
            | inl bad ↦ end_before s.levels s.before s.wanted L (suc l) here b bad.0 (length here) end_in_map tt levels parts (omega arith) (refuses bad.0 begins bad.1) bad.2
            | inr each ↦
                let f : Fault = record { why = end_in_map; left = 0 } in
                end_met L b end_in_map (ap (item_at m L) parts ∙ refuses f begins (each f refl))
          ]

  -- ---- the end of a value

  pub answers_in_value : (L : ℕ) (b : List ℕ) (j : ℕ) → Cond L b → EndsInValue b j → Answers L b end_in_value (length b) (length b)
  answers_in_value L b j cond r = by_result (item_at m L b) refl
    where
      begins : IsProperBeginning b
      begins = r.ends.begins

      as_special : (why : Refusal) (left : ℕ) → item_at m L b ≡ Err (record { why = why; left = left }) → Special (lim L b) b why left (length b) → Answers L b end_in_value (length b) (length b)
      as_special why left is s = record {
        fault = record { why = why; left = left };
        is = rows.whole_err m total scratch rules (item_at m L b) (record { why = why; left = left }) is;
        how = inr (length b, inr (omega arith, tt), s);
      }

      by_why : (why : Refusal) (left : ℕ) → item_at m L b ≡ Err (record { why = why; left = left }) → Meaning (lim L b) b why left → Answers L b end_in_value (length b) (length b)
      by_why end_in_value left is e = record {
        fault = record { why = end_in_value; left = left };
        is = rows.whole_err m total scratch rules (item_at m L b) (record { why = end_in_value; left = left }) is;
        how = inl (refl, omega (arith, e.0));
      }
      by_why end_in_array left is e = absurd (r.no_array e.1)
      by_why end_in_map left is e = absurd (r.no_map e.1)
      by_why length_out_of_range left is e = as_special length_out_of_range left is (e.0, e.1, omega (arith, e.1), e.2)
      by_why invalid_utf8 left is e = as_special invalid_utf8 left is (e.0, e.1.0, e.1.1, omega (arith, e.1.2.first.long, ap length e.1.2.first.parts, length-append (e.1.2.before ++ spell e.1.2.item) e.1.2.first.rest), e.1.2)
      by_why unassigned_code left is e =
          absurd (no_hard unassigned_code (e.2.before ++ (e.2.byte ∷ [])) e.2.first.rest b begins (unassigned_hard e.2.levels e.2.before e.2.byte e.2.wanted e.2.unassigned) e.2.first.parts)
      by_why unexpected_code left is e = absurd (either e.2)
        where
          either : IsClosedBreak b e.0 ⊎ IsNoChunk b e.0 → ⊥
          either (inl c) = no_hard unexpected_code (c.before ++ (0xff ∷ [])) c.first.rest b begins (break_hard c.before c.closed) c.first.parts
          either (inr c) = no_hard unexpected_code (c.before ++ (chunks_begun c.major c.chunks ++ (c.byte ∷ []))) c.first.rest b begins (no_chunk_hard b e.0 c) c.first.parts
      by_why trailing_data left is e = absurd e
      by_why too_deep left is e = as_special too_deep left is (e.0, e.1, omega (arith, e.1), e.2)
      by_why scratch_too_small left is e = as_special scratch_too_small left is (e.0, e.1, omega (arith, e.1), e.2)
      by_why wrong_struct_format left is e = absurd e

      by_result : (res : Reads Item) → item_at m L b ≡ res → Answers L b end_in_value (length b) (length b)
      by_result (Ok x) is =
          let got = found m rules.none_fits L b x cond.1 is in
          absurd (proper_out b [] got.item x.1 begins got.fits (append-nil b ∙ got.parts) (omega (arith, ap length got.parts, length-append (spell got.item) x.1)))
      by_result (Err f) is = by_why f.why f.left is (passing.reports_err m total scratch rules L b f cond is)

  -- ---- each of them

  at_end : (L : ℕ) (b : List ℕ) (why : Refusal) (place offset : ℕ) → place ≡ length b → offset ≡ place → Answers L b why (length b) (length b) → Answers L b why place offset
  at_end L b why place offset place_is offset_is a =
      subst (λ (k : ℕ). Answers L b why place k) (sym (offset_is ∙ place_is)) (subst (λ (k : ℕ). Answers L b why k (length b)) (sym place_is) a)

  at_place : (L : ℕ) (b : List ℕ) (why : Refusal) (place offset : ℕ) → offset ≡ place → Answers L b why place place → Answers L b why place offset
  at_place L b why place offset offset_is a = subst (λ (k : ℕ). Answers L b why place k) (sym offset_is) a

  pub answers : (L : ℕ) (b : List ℕ) (why : Refusal) (place offset : ℕ) → Cond L b → IsAllowed (lim L b) b why place offset → Answers L b why place offset
  answers L b end_in_value place offset cond a = at_end L b end_in_value place offset a.0.ends.whole a.1 (answers_in_value L b place cond a.0)
  answers L b end_in_array place offset cond a = at_end L b end_in_array place offset a.0.ends.whole a.1 (answers_in_array L b cond a.0.stands)
  answers L b end_in_map place offset cond a = at_end L b end_in_map place offset a.0.ends.whole a.1 (answers_in_map L b cond a.0.stands)
  answers L b length_out_of_range place offset cond a = at_place L b length_out_of_range place offset a.1 (rows.answers_range m total scratch rules L b place cond a.0)
  answers L b invalid_utf8 place offset cond a = rows.answers_utf8 m total scratch rules L b place offset cond a
  answers L b unassigned_code place offset cond a = at_place L b unassigned_code place offset a.1 (rows.answers_unassigned m total scratch rules L b place cond a.0)
  answers L b unexpected_code place offset cond a = at_place L b unexpected_code place offset a.1 (either a.0)
    where
      either : IsStrayBreak b place ⊎ IsNoChunk b place → Answers L b unexpected_code place place
      either (inl s) = rows.answers_stray m total scratch rules L b place cond s
      either (inr c) = rows.answers_no_chunk m total scratch rules L b place cond c
  answers L b trailing_data place offset cond a = at_place L b trailing_data place offset a.1 (answers_trailing L b place cond a.0)
  answers L b too_deep place offset cond a = at_place L b too_deep place offset a.1 (rows.answers_deep m total scratch rules L b place cond a.0)
  answers L b scratch_too_small place offset cond a = at_place L b scratch_too_small place offset a.1 (rows.answers_over m total scratch rules L b place cond a.0)
  answers L b wrong_struct_format place offset cond a = absurd a
