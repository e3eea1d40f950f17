-- For each refusal that the bytes allow, the reader reports it or another that comes before.
use Rattle.std.specs.Prelude.{flat_map}
use Rattle.std.proofs.Common.{◌≡◌, ◌⊎◌, ℕ, zero, suc, ◌+◌, ◌-◌, ◌*◌, ◌/◌, ◌%◌, ◌<◌, ◌≤◌, Bool, true}
use Rattle.std.proofs.Common.{false, cond, List, [], ◌∷◌, ◌++◌, length, Option, Ok, Err, refl}
use Rattle.std.proofs.Common.{sym, ap, subst, ◌∙◌, append_assoc, arith, inl, inr}
use Rattle.std.specs.Str.{IsValidUpTo}
use Rattle.std.specs.Str.Lossy.{utf8_valid_len}
use Rattle.std.proofs.lemmas.List.{append-nil, length-append}
use Rattle.std.proofs.lemmas.Str.{utf8_valid_len-IsValidUpTo}
use Rattle.cbor_model.specs.Head.{head}
use Rattle.cbor_model.specs.Raw as raw
use Rattle.cbor_model.specs.Raw.{Raw, Raws, Chunk, IsChunk, joined, count, AreBytes, IsWellFormed}
use Rattle.cbor_model.specs.Spelling.{spell, break, chunk}
use Rattle.cbor_model.specs.Refusal.{Refusal}
use Rattle.cbor_model.specs.Refusal.{length_out_of_range, invalid_utf8, unassigned_code}
use Rattle.cbor_model.specs.Refusal.{unexpected_code, too_deep, scratch_too_small}
use Rattle.cbor_model.specs.Reader.{Fault, Reads, Reading, item_at, whole, chunks_at}
use Rattle.cbor_model.specs.Reader.{chunks_by, byte_at}
use Rattle.cbor_model.specs.Wanted.{array_head, map_head, tag_head, indefinite_array}
use Rattle.cbor_model.specs.Wanted.{indefinite_map, opening, IsWanted, at_first, inside}
use Rattle.cbor_model.specs.Wanted.{StandsInIndefiniteArray, StandsInIndefiniteMap}
use Rattle.cbor_model.specs.Allowed.{IsOfStrings, chunks_begun, Limits, IsOver, IsLengthOutOfRange}
use Rattle.cbor_model.specs.Allowed.{IsInvalidUtf8, IsTooDeep, IsOverScratch, IsTextOf}
use Rattle.cbor_model.specs.Allowed.{IsUnassignedCode, IsStrayBreak, IsNoChunk, IsEnd}
use Rattle.cbor_model.proofs.reader.FirstBytes.{head_begun, begun, begun-length}
use Rattle.cbor_model.proofs.refusals.Wanted.{paired}
use Rattle.cbor_model.proofs.refusals.LeafFaults.{first-length}
use Rattle.cbor_model.proofs.refusals.NoFronts.{unassigned_begun, chunks_begun-begun}
use Rattle.cbor_model.proofs.refusals.InnerFaults.{LastComes, last_comes, opening_begun, front_begun}
use Rattle.cbor_model.proofs.refusals.InnerFaults.{deep_err}
use Rattle.cbor_model.proofs.refusals.WantedFaults.{unassigned_err, break_err, no_chunk_err, range_err, text_err}
use Rattle.cbor_model.proofs.refusals.WantedFaults.{chunks_err, text_chunks_err, chunks_on, first_over, over_scratch}
use Rattle.cbor_model.proofs.refusals.EarlierRefusals.{Special}
use Rattle.cbor_model.proofs.refusals.ReadingRules as passing
use Rattle.cbor_model.proofs.refusals.ReadingRules.{Rules}

-- nothing is open that a break would end
closed_where : {k : ℕ} {p : List ℕ} (w : IsWanted k p) (bs : List ℕ) → (StandsInIndefiniteArray p → ⊥) → (StandsInIndefiniteMap p → ⊥) → LastComes w bs
unfolding spell
closed_where at_first bs no_array no_map = tt
closed_where (inside k before (array_head w n) items wanted opens fits place) bs no_array no_map = inl tt
closed_where (inside k before (map_head w n) items wanted opens fits place) bs no_array no_map = inl tt
closed_where (inside k before (tag_head w n) items wanted opens fits place) bs no_array no_map = inl tt
closed_where (inside k before indefinite_array items wanted opens fits place) bs no_array no_map =
    absurd (no_array (record { levels = k; before = before; items = items; wanted = wanted; fits = fits; parts = refl }))
closed_where (inside k before indefinite_map items wanted opens fits place) bs no_array no_map = inl (odd (count items % 2) refl (omega arith))
  where
    odd : (r : ℕ) → count items % 2 ≡ r → r < 2 → count items % 2 ≡ 1
    odd zero is small =
        let ps = paired (count items / 2) items fits (omega (arith, is)) in
        absurd (no_map (record { levels = k; before = before; pairs = ps.pairs; wanted = wanted; fits = ps.fits; parts = ap (λ (t : List ℕ). before ++ (0xbf ∷ t)) (sym ps.spelled) }))
    odd (suc zero) is small = is
    odd (suc (suc r)) is small = absurd (omega (arith, small))

-- a place is before another, or the same where the other is an end's
abbrev pub Precedes : ℕ → Refusal → ℕ → Type 0
Precedes n why place = (n < place) ⊎ ((n ≤ place) × IsEnd why)

module _ {Item Items Pairs : Type 0} (m : Reading Item Items Pairs) (total : ℕ) (scratch : Option ℕ) (rules : Rules m total scratch) where
  abbrev lim : ℕ → List ℕ → Limits
  lim l bytes = passing.lim m total scratch rules l bytes

  abbrev Cond : ℕ → List ℕ → Type 0
  Cond l bytes = passing.Cond m total scratch rules l bytes

  abbrev Bad : ℕ → List ℕ → Fault → ℕ → Type 0
  Bad l bytes f n = passing.Bad m total scratch rules l bytes f n

  -- the reader reports the refusal, or one that comes before
  pub record Answers (L : ℕ) (b : List ℕ) (why : Refusal) (place offset : ℕ) : Type 0 where
    pub fault : Fault
    pub is : whole (item_at m L b) ≡ Err fault
    pub how : ((fault.why ≡ why) × (offset + fault.left ≡ length b)) ⊎ ((n : ℕ) × Precedes n why place × Special (lim L b) b fault.why fault.left n)

  pub whole_err : {A : Type 0} (r : Reads A) (f : Fault) → r ≡ Err f → whole r ≡ Err f
  whole_err r f is = rw is refl

  -- what the reader does where an item is wanted
  abbrev Event : ℕ → List ℕ → ℕ → Refusal → ℕ → ℕ → ℕ → Type 0
  Event l here len why place offset left =
      ((k : ℕ) × (item_at m l here ≡ Err (record { why = why; left = k })) × (offset + k ≡ len))
      ⊎ ((k : ℕ) × (item_at m l here ≡ Err (over_scratch k)) × (len < place + k))
      ⊎ ((k : ℕ) × (item_at m l here ≡ Err (record { why = length_out_of_range; left = k })) × (len < place + k))

  answers_at : (k : ℕ) (p : List ℕ) (w : IsWanted k p) (L : ℕ) (here b : List ℕ) (why : Refusal) (place offset : ℕ) → Cond L b → b ≡ p ++ here → length p < place → LastComes w here
      → ((l : ℕ) → L ≡ k + l → Cond l here → Event l here (length b) why place offset 0) → Answers L b why place offset
  answers_at k p w L here b why place offset cond parts few comes event =
      elim (passing.goes_through m total scratch rules k p w L here (subst (Cond L) parts cond)) [
        | inl bad ↦ record {
          fault = bad.fault;
          is = whole_err (item_at m L b) bad.fault (ap (item_at m L) parts ∙ bad.is);
          how = inr (length p, inl few, subst (λ (t : List ℕ). Bad L t bad.fault (length p)) (sym parts) bad.bad);
        }
        | inr goes ↦ by_event goes.left goes.refuses (event goes.left goes.levels goes.cond)
      ]
    where
      by_event : (l : ℕ) → ((f : Fault) → LastComes w here → item_at m l here ≡ Err f → item_at m L (p ++ here) ≡ Err f) → Event l here (length b) why place offset 0 → Answers L b why place offset
      by_event l refuses (inl met) =
          let f : Fault = record { why = why; left = met.0 } in
          record {
            fault = f;
            is = whole_err (item_at m L b) f (ap (item_at m L) parts ∙ refuses f comes met.1);
            how = inl (refl, met.2);
          }
      by_event l refuses (inr (inr earlier)) =
          let f : Fault = record { why = length_out_of_range; left = earlier.0 } in
          let is = ap (item_at m L) parts ∙ refuses f comes earlier.1 in
          let reported = passing.reports_err m total scratch rules L b f cond is in
          record {
            fault = f;
            is = whole_err (item_at m L b) f is;
            how = inr (reported.0, inl (omega (arith, reported.1, earlier.2)), (reported.0, reported.1, omega arith, reported.2));
          }
      by_event l refuses (inr (inl earlier)) =
          let f = over_scratch earlier.0 in
          let is = ap (item_at m L) parts ∙ refuses f comes earlier.1 in
          let reported = passing.reports_err m total scratch rules L b f cond is in
          record {
            fault = f;
            is = whole_err (item_at m L b) f is;
            how = inr (reported.0, inl (omega (arith, reported.1, earlier.2)), (reported.0, reported.1, omega arith, reported.2));
          }

  -- ---- row by row

  pub answers_range : (L : ℕ) (b : List ℕ) (j : ℕ) → Cond L b → IsLengthOutOfRange (total - length b) b j → Answers L b length_out_of_range j j
  answers_range L b j cond r =
      let front = head 3 r.width r.n in
      let rest = r.first.rest in
      let len = first-length j b (r.before ++ front) r.first in
      answers_at r.levels r.before r.wanted L (front ++ rest) b length_out_of_range j j cond
      (r.first.parts ∙ append_assoc r.before front rest)
      (omega (arith, r.first.long, length-append r.before front))
      (last_comes r.wanted (front ++ rest) (front_begun front rest (head_begun 3 r.width r.n _ (omega arith) r.fits)))
      (λ l levels cond'. inl (length rest, range_err m l r.width r.n rest r.fits (rules.out (length rest) r.n (omega (arith, cond.0, len)) (omega (arith, cond.0, len, r.far))), len))

  text_event : (item : Raw) (text : List ℕ) (valid : ℕ) → IsWellFormed item → IsTextOf item text → IsValidUpTo text valid → (l len place offset : ℕ) (rest : List ℕ) → Cond l (spell item ++ rest)
      → offset + (length text - valid) ≡ place → place + length rest ≡ len → Event l (spell item ++ rest) len invalid_utf8 place offset 0
  unfolding spell chunks_by byte_at
  text_event (raw.text c) text valid fits is longest l len place offset rest cond offset_is len_is = by_room (m.has_room (length (c.bytes ++ rest)) (length c.bytes)) refl
    where
      same : utf8_valid_len c.bytes ≡ valid
      same = ap utf8_valid_len is ∙ utf8_valid_len-IsValidUpTo text valid longest

      fails : m.is_text c.bytes ≡ false
      fails = rules.not_text c.bytes valid (subst (λ (t : List ℕ). IsValidUpTo t valid) (sym is) longest)

      by_room : (b : Bool) → m.has_room (length (c.bytes ++ rest)) (length c.bytes) ≡ b → Event l (spell (raw.text c) ++ rest) len invalid_utf8 place offset 0
      by_room true room = inl (
        length rest + (length c.bytes - utf8_valid_len c.bytes),
        text_err m l c rest fits room fails,
        omega (arith, offset_is, len_is, same, ap length is),
      )
      by_room false none = inr (inr (
        length (c.bytes ++ rest),
        ap (item_at m l) (append_assoc (head 3 c.width (length c.bytes)) c.bytes rest) ∙ range_err m l c.width (length c.bytes) (c.bytes ++ rest) fits.0 none,
        omega (arith, len_is, longest.short, ap length is, length-append c.bytes rest),
      ))
  text_event (raw.text_chunks cs) text valid fits is longest l len place offset rest cond offset_is len_is =
      let bs = flat_map (chunk 3) cs ++ (0xff ∷ rest) in
      let assoc : spell (raw.text_chunks cs) ++ rest ≡ 0x7f ∷ bs = ap (λ (t : List ℕ). 0x7f ∷ t) (append_assoc (flat_map (chunk 3) cs) break rest) in
      let same : utf8_valid_len (joined cs) ≡ valid = ap utf8_valid_len is ∙ utf8_valid_len-IsValidUpTo text valid longest in
      let fails = rules.not_text (joined cs) valid (subst (λ (t : List ℕ). IsValidUpTo t valid) (sym is) longest) in
      elim (chunks_on m.exceeds 0 3 (suc (length bs)) cs (0xff ∷ rest) (omega arith) fits (omega arith)) [
        | inl long ↦ inr (inl (long.left, ap (item_at m l) assoc ∙ chunks_err m l 3 bs (over_scratch long.left) (inr refl) long.is, omega (arith, long.behind, len_is)))
        | inr goes ↦
            let all : chunks_at m.exceeds 0 3 bs ≡ Ok (cs, rest) = goes.reads [] rest refl ∙ ap (λ (t : List Chunk). Ok (t, rest)) (append-nil cs) in
            inl (
              length rest + (length (joined cs) - utf8_valid_len (joined cs)),
              ap (item_at m l) assoc ∙ text_chunks_err m l cs bs rest all fails,
              omega (arith, offset_is, len_is, same, ap length is),
            )
      ]
  text_event _ text valid fits is longest l len place offset rest cond offset_is len_is = absurd is

  pub answers_utf8 : (L : ℕ) (b : List ℕ) (place offset : ℕ) → Cond L b → IsInvalidUtf8 b place offset → Answers L b invalid_utf8 place offset
  answers_utf8 L b place offset cond r =
      let rest = r.first.rest in
      let starts = begun r.item r.fits in
      answers_at r.levels r.before r.wanted L (spell r.item ++ rest) b invalid_utf8 place offset cond
      (r.first.parts ∙ append_assoc r.before (spell r.item) rest)
      (omega (arith, r.first.long, length-append r.before (spell r.item), begun-length (spell r.item) starts))
      (last_comes r.wanted (spell r.item ++ rest) (front_begun (spell r.item) rest starts))
      (λ l levels cond'. text_event r.item r.text r.valid r.fits r.text_is r.longest l (length b) place offset rest cond' r.offset_is (first-length place b (r.before ++ spell r.item) r.first))

  pub answers_unassigned : (L : ℕ) (b : List ℕ) (j : ℕ) → Cond L b → IsUnassignedCode b j → Answers L b unassigned_code j j
  answers_unassigned L b j cond r =
      let rest = r.first.rest in
      answers_at r.levels r.before r.wanted L (r.byte ∷ rest) b unassigned_code j j cond
      (r.first.parts ∙ append_assoc r.before (r.byte ∷ []) rest)
      (omega (arith, r.first.long, length-append r.before (r.byte ∷ [])))
      (last_comes r.wanted (r.byte ∷ rest) (unassigned_begun r.byte rest r.unassigned))
      (λ l levels cond'. inl (length rest, unassigned_err m l r.byte rest r.unassigned, first-length j b (r.before ++ (r.byte ∷ [])) r.first))

  pub answers_stray : (L : ℕ) (b : List ℕ) (j : ℕ) → Cond L b → IsStrayBreak b j → Answers L b unexpected_code j j
  answers_stray L b j cond r =
      let rest = r.first.rest in
      answers_at r.levels r.before r.wanted L (0xff ∷ rest) b unexpected_code j j cond
      (r.first.parts ∙ append_assoc r.before (0xff ∷ []) rest)
      (omega (arith, r.first.long, length-append r.before (0xff ∷ [])))
      (closed_where r.wanted (0xff ∷ rest) r.no_array r.no_map)
      (λ l levels cond'. inl (length rest, break_err m l rest, first-length j b (r.before ++ (0xff ∷ [])) r.first))

  pub answers_no_chunk : (L : ℕ) (b : List ℕ) (j : ℕ) → Cond L b → IsNoChunk b j → Answers L b unexpected_code j j
  answers_no_chunk L b j cond r =
      let rest = r.first.rest in
      let begun_chunks = chunks_begun r.major r.chunks in
      let here = begun_chunks ++ (r.byte ∷ rest) in
      let bs = flat_map (chunk r.major) r.chunks ++ (r.byte ∷ rest) in
      let len = first-length j b (r.before ++ (begun_chunks ++ (r.byte ∷ []))) r.first in
      answers_at r.levels r.before r.wanted L here b unexpected_code j j cond
      (r.first.parts ∙ parts r.before begun_chunks (r.byte ∷ []) rest)
      (omega (arith, r.first.long, length-append r.before (begun_chunks ++ (r.byte ∷ [])), length-append begun_chunks (r.byte ∷ [])))
      (last_comes r.wanted here (chunks_begun-begun r.major r.chunks (r.byte ∷ rest) r.of_strings))
      (λ l levels cond'. elim (no_chunk_err m l r.major r.chunks r.byte rest r.of_strings r.fits r.no_break r.no_chunk) [
        | inl long ↦ inr (inl (long.left, chunks_err m l r.major bs (over_scratch long.left) r.of_strings long.is, omega (arith, long.behind, len)))
        | inr is ↦ inl (length rest, is, len)
      ])
    where
      parts : (a b c d : List ℕ) → (a ++ (b ++ c)) ++ d ≡ a ++ (b ++ (c ++ d))
      parts a b c d = simp append_assoc

  pub answers_deep : (L : ℕ) (b : List ℕ) (j : ℕ) → Cond L b → IsTooDeep L b j → Answers L b too_deep j j
  answers_deep L b j cond r =
      let rest = r.first.rest in
      let front = opening r.opens in
      let here = front ++ rest in
      let starts = opening_begun r.opens r.fits in
      answers_at r.levels r.before r.wanted L here b too_deep j j cond
      (r.first.parts ∙ append_assoc r.before front rest)
      (omega (arith, r.first.long, length-append r.before front, begun-length front starts))
      (last_comes r.wanted here (front_begun front rest starts))
      (λ l levels cond'.
      let none : 0 ≡ l = omega (arith, levels, r.deep) in
      inl (length rest, subst (λ (k : ℕ). item_at m k here ≡ Err (record { why = too_deep; left = length rest })) none (deep_err m r.opens rest r.fits), first-length j b (r.before ++ front) r.first))

  pub answers_over : (L : ℕ) (b : List ℕ) (j : ℕ) → Cond L b → IsOverScratch scratch b j → Answers L b scratch_too_small j j
  answers_over L b j cond r =
      let n = length r.next.bytes in
      let front = head r.major r.next.width n in
      let begun_chunks = chunks_begun r.major r.chunks in
      let tail = chunk r.major r.next ++ r.rest in
      let bs = flat_map (chunk r.major) r.chunks ++ tail in
      let here = begun_chunks ++ (front ++ r.first.rest) in
      let len = first-length j b (r.before ++ (begun_chunks ++ front)) r.first in
      let tail_is : front ++ r.first.rest ≡ tail = ap (λ (t : List ℕ). front ++ t) r.whole ∙ sym (append_assoc front r.next.bytes r.rest) in
      let here_is : here ≡ (32 * r.major + 31) ∷ bs = ap (λ (t : List ℕ). begun_chunks ++ t) tail_is in
      let tail_long : length tail ≡ length front + length r.first.rest = sym (ap length tail_is) ∙ length-append front r.first.rest in
      answers_at r.levels r.before r.wanted L here b scratch_too_small j j cond
      (r.first.parts ∙ parts r.before begun_chunks front r.first.rest)
      (omega (arith, r.first.long, length-append r.before (begun_chunks ++ front), length-append begun_chunks front))
      (last_comes r.wanted here (chunks_begun-begun r.major r.chunks (front ++ r.first.rest) r.of_strings))
      (λ l levels cond'. elim (chunks_on m.exceeds 0 r.major (suc (length bs)) r.chunks tail (at_most r.major r.of_strings) r.fits (omega arith)) [
        | inl long ↦ inr (inl (long.left, ap (item_at m l) here_is ∙ chunks_err m l r.major bs (over_scratch long.left) r.of_strings long.is, omega (arith, long.behind, len, tail_long)))
        | inr goes ↦
            let k = length (r.next.bytes ++ r.rest) in
            let zero_add : length (joined r.chunks) + n ≡ (0 + length (joined r.chunks)) + n = omega arith in
            let one = first_over m.exceeds (0 + length (joined r.chunks)) r.major (length tail) r.next r.rest (at_most r.major r.of_strings) r.next_fits (rules.exceeds_over (0 + length (joined r.chunks) + n) (subst (IsOver scratch) zero_add r.over)) in
            inl (k, ap (item_at m l) here_is ∙ chunks_err m l r.major bs (over_scratch k) r.of_strings (goes.refuses (over_scratch k) one), omega (arith, len, ap length r.whole))
      ])
    where
      parts : (a b c d : List ℕ) → (a ++ (b ++ c)) ++ d ≡ a ++ (b ++ (c ++ d))
      parts a b c d = simp append_assoc

      at_most : (major : ℕ) → IsOfStrings major → major ≤ 6
      at_most major (inl two) = omega arith
      at_most major (inr three) = omega arith
