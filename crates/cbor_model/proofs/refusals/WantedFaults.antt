-- What a reader refuses where an item is wanted.
use Rattle.std.specs.Prelude.{flat_map}
use Rattle.std.specs.List.{AllByRecursion}
use Rattle.std.proofs.Common.{◌≡◌, ◌⊎◌, ℕ, zero, suc, ◌+◌, ◌-◌, ◌*◌, ◌/◌, ◌%◌, ◌<◌, ◌≤◌, Bool, true}
use Rattle.std.proofs.Common.{false, eqb, ltb, ◌&&◌, List, [], ◌∷◌, ◌++◌, length, Ok, Err, refl, sym}
use Rattle.std.proofs.Common.{ap, ◌∙◌, append_assoc, arith, inl, inr}
use Rattle.std.specs.Str.Lossy.{utf8_valid_len}
use Rattle.std.proofs.lemmas.Bool.{eqb-true, ltb-true, ne_eqb, eq-eqb, lt-ltb, le-ltb}
use Rattle.std.proofs.lemmas.List.{length-append}
use Rattle.cbor_model.specs.Head.{HeadWidth, limit, info, head, behind}
use Rattle.cbor_model.specs.Major.{major_of}
use Rattle.cbor_model.specs.Raw as raw
use Rattle.cbor_model.specs.Raw.{Chunk, IsChunk, joined, definite, indefinite}
use Rattle.cbor_model.specs.Spelling.{spell, chunk}
use Rattle.cbor_model.specs.Refusal.{unassigned_code, unexpected_code, length_out_of_range}
use Rattle.cbor_model.specs.Refusal.{invalid_utf8, scratch_too_small}
use Rattle.cbor_model.specs.Reader.{Fault, Reads, Reading, before, byte_at, number_behind}
use Rattle.cbor_model.specs.Reader.{with_number, with_length, float_at, simple_at, string_at}
use Rattle.cbor_model.specs.Reader.{checked_text, text_at, begins_chunk, content_of_chunk, chunk_at}
use Rattle.cbor_model.specs.Reader.{chunks_by, chunks_at, string_chunks_at, text_chunks_at, content_at}
use Rattle.cbor_model.specs.Reader.{after_first, item_by, item_at, inside, array_at, map_at, tag_at}
use Rattle.cbor_model.specs.Reader.{counted, to_break}
use Rattle.cbor_model.specs.Allowed.{IsUnassigned, BeginsChunk, IsOfStrings, chunks_begun}
use Rattle.cbor_model.proofs.reader.ReaderSteps.{bytes_again, number_behind_again, info-below, high_of, low_of}
use Rattle.cbor_model.proofs.reader.FirstBytes.{head-no_break}
use Rattle.cbor_model.proofs.reader.Fuel.{chunks_by-fuel}
use Rattle.cbor_model.proofs.reader.Again.{item_at-inside, length_again, chunk_again}
use Rattle.cbor_model.proofs.refusals.InnerFaults.{err_bind}

-- ---- unassigned codes

number_unassigned : (low : ℕ) (bs : List ℕ) → 28 ≤ low → number_behind low bs ≡ Err (before unassigned_code bs)
unfolding number_behind
number_unassigned low bs least =
    let a : ltb low 24 ≡ false = le-ltb low 24 (omega (arith, least)) in
    let b : eqb low 24 ≡ false = ne_eqb low 24 (λ same. omega (arith, least)) in
    let c : eqb low 25 ≡ false = ne_eqb low 25 (λ same. omega (arith, least)) in
    let d : eqb low 26 ≡ false = ne_eqb low 26 (λ same. omega (arith, least)) in
    let e : eqb low 27 ≡ false = ne_eqb low 27 (λ same. omega (arith, least)) in
    rw (a, b, c, d, e) refl

module _ {Item Items Pairs : Type 0} (m : Reading Item Items Pairs) where
  -- past a first byte, the reader is at the content
  item_first : (l b : ℕ) (bs : List ℕ) → item_at m l (b ∷ bs) ≡ content_at m (inside m l) (major_of (b / 32)) (b % 32) bs
  unfolding item_by byte_at after_first
  item_first l b bs = item_at-inside m l (b ∷ bs)

  numbered_unassigned : {A : Type 0} (read : HeadWidth → ℕ → List ℕ → Reads A) (low : ℕ) (bs : List ℕ) → 28 ≤ low → with_number read low bs ≡ Err (before unassigned_code bs)
  numbered_unassigned read low bs least = err_bind (number_behind low bs) _ (before unassigned_code bs) (number_unassigned low bs least)

  length_unassigned : {A : Type 0} (read : HeadWidth → ℕ → List ℕ → Reads A) (others : List ℕ → Reads A) (low : ℕ) (bs : List ℕ) → 28 ≤ low → low ≤ 30 → with_length read others low bs ≡ Err (before unassigned_code bs)
  length_unassigned read others low bs least most =
      let not_31 : eqb low 31 ≡ false = ne_eqb low 31 (λ same. omega (arith, most)) in
      rw not_31 (numbered_unassigned read low bs least)

  simple_unassigned : (low : ℕ) (bs : List ℕ) → (low ≡ 20 → ⊥) → (low ≡ 21 → ⊥) → (low ≡ 22 → ⊥) → (low ≡ 23 → ⊥) → (low ≡ 25 → ⊥) → (low ≡ 26 → ⊥) → (low ≡ 27 → ⊥) → (low ≡ 31 → ⊥)
      → simple_at m low bs ≡ Err (before unassigned_code bs)
  unfolding simple_at float_at
  simple_unassigned low bs a b c d e f g h =
      rw (ne_eqb low 20 a, ne_eqb low 21 b, ne_eqb low 22 c, ne_eqb low 23 d, ne_eqb low 25 e, ne_eqb low 26 f, ne_eqb low 27 g, ne_eqb low 31 h) refl

  at_major : (l b : ℕ) (bs : List ℕ) (major : ℕ) (f : Fault) → b / 32 ≡ major → content_at m (inside m l) (major_of major) (b % 32) bs ≡ Err f → item_at m l (b ∷ bs) ≡ Err f
  at_major l b bs major f is refuses = item_first l b bs ∙ ap (λ (k : ℕ). content_at m (inside m l) (major_of k) (b % 32) bs) is ∙ refuses

  pub unassigned_err : (l b : ℕ) (bs : List ℕ) → IsUnassigned b → item_at m l (b ∷ bs) ≡ Err (before unassigned_code bs)
  unfolding content_at
  unassigned_err l b bs (inl i) = at_major l b bs 0 _ (omega (arith, i)) (numbered_unassigned (λ w n bs. Ok (m.unsigned w n, bs)) (b % 32) bs (omega (arith, i)))
  unassigned_err l b bs (inr (inl i)) = at_major l b bs 1 _ (omega (arith, i)) (numbered_unassigned (λ w n bs. Ok (m.negative w n, bs)) (b % 32) bs (omega (arith, i)))
  unassigned_err l b bs (inr (inr (inl i))) = at_major l b bs 2 _ (omega (arith, i)) (length_unassigned (string_at m) (string_chunks_at m) (b % 32) bs (omega (arith, i)) (omega (arith, i)))
  unassigned_err l b bs (inr (inr (inr (inl i)))) = at_major l b bs 3 _ (omega (arith, i)) (length_unassigned (text_at m) (text_chunks_at m) (b % 32) bs (omega (arith, i)) (omega (arith, i)))
  unassigned_err l b bs (inr (inr (inr (inr (inl i))))) = at_major l b bs 4 _ (omega (arith, i)) (length_unassigned (λ w n. array_at m (inside m l) (definite w) (counted n)) (array_at m (inside m l) indefinite to_break) (b % 32) bs (omega (arith, i)) (omega (arith, i)))
  unassigned_err l b bs (inr (inr (inr (inr (inr (inl i)))))) = at_major l b bs 5 _ (omega (arith, i)) (length_unassigned (λ w n. map_at m (inside m l) (definite w) (counted n)) (map_at m (inside m l) indefinite to_break) (b % 32) bs (omega (arith, i)) (omega (arith, i)))
  unassigned_err l b bs (inr (inr (inr (inr (inr (inr (inl i))))))) = at_major l b bs 6 _ (omega (arith, i)) (numbered_unassigned (tag_at m (inside m l)) (b % 32) bs (omega (arith, i)))
  unassigned_err l b bs (inr (inr (inr (inr (inr (inr (inr (inl i)))))))) = at_major l b bs 7 _ (omega (arith, i)) (below (b % 32) (omega (arith, i)))
    where
      below : (low : ℕ) → low < 20 → simple_at m low bs ≡ Err (before unassigned_code bs)
      below low small = simple_unassigned low bs (λ e. omega arith) (λ e. omega arith) (λ e. omega arith) (λ e. omega arith) (λ e. omega arith) (λ e. omega arith) (λ e. omega arith) (λ e. omega arith)
  unassigned_err l b bs (inr (inr (inr (inr (inr (inr (inr (inr (inl i))))))))) = at_major l b bs 7 _ (omega (arith, i)) (at_24 (b % 32) (omega (arith, i)))
    where
      at_24 : (low : ℕ) → low ≡ 24 → simple_at m low bs ≡ Err (before unassigned_code bs)
      at_24 low is = simple_unassigned low bs (λ e. omega arith) (λ e. omega arith) (λ e. omega arith) (λ e. omega arith) (λ e. omega arith) (λ e. omega arith) (λ e. omega arith) (λ e. omega arith)
  unassigned_err l b bs (inr (inr (inr (inr (inr (inr (inr (inr (inr i))))))))) = at_major l b bs 7 _ (omega (arith, i)) (above (b % 32) (omega (arith, i)) (omega (arith, i)))
    where
      above : (low : ℕ) → 28 ≤ low → low ≤ 30 → simple_at m low bs ≡ Err (before unassigned_code bs)
      above low least most = simple_unassigned low bs (λ e. omega arith) (λ e. omega arith) (λ e. omega arith) (λ e. omega arith) (λ e. omega arith) (λ e. omega arith) (λ e. omega arith) (λ e. omega arith)

  pub break_err : (l : ℕ) (bs : List ℕ) → item_at m l (0xff ∷ bs) ≡ Err (before unexpected_code bs)
  unfolding content_at simple_at float_at
  break_err l bs = item_first l 0xff bs

-- ---- chunks

abbrev pub over_scratch : ℕ → Fault
over_scratch left = record { why = scratch_too_small; left = left }

chunk-bytes : (major : ℕ) (c : Chunk) (rest : List ℕ) → chunk major c ++ rest ≡ (32 * major + info c.width (length c.bytes)) ∷ (behind c.width (length c.bytes) ++ (c.bytes ++ rest))
chunk-bytes major c rest = append_assoc (head major c.width (length c.bytes)) c.bytes rest

-- a chunk that can't be joined
chunk_over : (exceeds : ℕ → Bool) (major : ℕ) (c : Chunk) (rest : List ℕ) → IsChunk c → exceeds (length c.bytes) ≡ true → chunk_at exceeds major (32 * major + info c.width (length c.bytes)) (behind c.width (length c.bytes) ++ (c.bytes ++ rest)) ≡ Err (over_scratch (length (c.bytes ++ rest)))
unfolding chunk_at content_of_chunk
chunk_over exceeds major c rest fits over =
    let w = c.width in
    let n = length c.bytes in
    let below : info w n < 28 = info-below w n fits.0 in
    let small : info w n < 32 = omega arith in
    rw (high_of major (info w n) small, low_of major (info w n) small, eq-eqb major major refl, lt-ltb (info w n) 28 below, number_behind_again w n (c.bytes ++ rest) fits.0, bytes_again c.bytes rest, over) refl

-- the next chunk can't be joined
pub first_over : (exceeds : ℕ → Bool) (have major fuel : ℕ) (c : Chunk) (rest : List ℕ) → major ≤ 6 → IsChunk c → exceeds (have + length c.bytes) ≡ true
    → chunks_by exceeds have major (suc fuel) (chunk major c ++ rest) ≡ Err (over_scratch (length (c.bytes ++ rest)))
unfolding chunks_by byte_at
first_over exceeds have major fuel c rest at_most fits over =
    let no_break = head-no_break major c.width (length c.bytes) at_most fits.0 in
    let one = chunk_over (λ k. exceeds (have + k)) major c rest fits over in
    ap (chunks_by exceeds have major (suc fuel)) (chunk-bytes major c rest) ∙ rw (no_break, one) refl

-- chunks are joined, and what follows them is read or refused after them; or one of them is too long
pub record GoesOnTo (exceeds : ℕ → Bool) (have major fuel : ℕ) (cs : List Chunk) (tail : List ℕ) : Type 0 where
  pub refuses : (f : Fault) → chunks_by exceeds (have + length (joined cs)) major (suc (length tail)) tail ≡ Err f → chunks_by exceeds have major fuel (flat_map (chunk major) cs ++ tail) ≡ Err f
  pub reads : (ds : List Chunk) (rest : List ℕ) → chunks_by exceeds (have + length (joined cs)) major (suc (length tail)) tail ≡ Ok (ds, rest) → chunks_by exceeds have major fuel (flat_map (chunk major) cs ++ tail) ≡ Ok (cs ++ ds, rest)

pub record IsTooLong (exceeds : ℕ → Bool) (have major fuel : ℕ) (cs : List Chunk) (tail : List ℕ) : Type 0 where
  pub left : ℕ
  pub over : (k : ℕ) × (exceeds k ≡ true)
  pub behind : length tail ≤ left
  pub is : chunks_by exceeds have major fuel (flat_map (chunk major) cs ++ tail) ≡ Err (over_scratch left)

pub chunks_on : (exceeds : ℕ → Bool) (have major fuel : ℕ) (cs : List Chunk) (tail : List ℕ) → major ≤ 6 → AllByRecursion IsChunk cs → length (flat_map (chunk major) cs ++ tail) < fuel
    → IsTooLong exceeds have major fuel cs tail ⊎ GoesOnTo exceeds have major fuel cs tail
unfolding chunks_by byte_at
chunks_on exceeds have major zero cs tail at_most fits enough = absurd (omega arith)
chunks_on exceeds have major (suc fuel) [] tail at_most fits enough =
    let none : have + length (joined []) ≡ have = omega arith in
    let same : chunks_by exceeds (have + length (joined [])) major (suc (length tail)) tail ≡ chunks_by exceeds have major (suc fuel) tail =
    ap (λ (n : ℕ). chunks_by exceeds n major (suc (length tail)) tail) none ∙ chunks_by-fuel exceeds have major (suc (length tail)) (suc fuel) tail (omega arith) enough in
    inr (record { refuses = λ f is. sym same ∙ is; reads = λ ds rest is. sym same ∙ is })
chunks_on exceeds have major (suc fuel) (c ∷ cs) tail at_most fits enough =
    let w = c.width in
    let n = length c.bytes in
    let more = flat_map (chunk major) cs ++ tail in
    let parts : flat_map (chunk major) (c ∷ cs) ++ tail ≡ (32 * major + info w n) ∷ (behind w n ++ (c.bytes ++ more)) =
    append_assoc (chunk major c) (flat_map (chunk major) cs) tail ∙ chunk-bytes major c more in
    let no_break = head-no_break major w n at_most fits.0.0 in
    by_test (exceeds (have + n)) refl parts no_break (chunks_on exceeds (have + n) major fuel cs tail at_most fits.1 (shorter enough))
  where
    w : HeadWidth
    w = c.width

    n : ℕ
    n = length c.bytes

    more : List ℕ
    more = flat_map (chunk major) cs ++ tail

    shorter : length (flat_map (chunk major) (c ∷ cs) ++ tail) < suc fuel → length more < fuel
    shorter enough = omega (arith, enough, ap length (append_assoc (chunk major c) (flat_map (chunk major) cs) tail), ap length (chunk-bytes major c more), length-append (behind c.width (length c.bytes)) (c.bytes ++ more), length-append c.bytes more)

    by_test : (b : Bool) → exceeds (have + n) ≡ b → flat_map (chunk major) (c ∷ cs) ++ tail ≡ (32 * major + info w n) ∷ (behind w n ++ (c.bytes ++ more)) → eqb (32 * major + info w n) 0xff ≡ false
        → IsTooLong exceeds (have + n) major fuel cs tail ⊎ GoesOnTo exceeds (have + n) major fuel cs tail
        → IsTooLong exceeds have major (suc fuel) (c ∷ cs) tail ⊎ GoesOnTo exceeds have major (suc fuel) (c ∷ cs) tail
    by_test true over parts no_break others =
        let one = chunk_over (λ k. exceeds (have + k)) major c more fits.0 over in
        inl (record {
          left = length (c.bytes ++ more);
          over = (have + n, over);
          behind = omega (arith, length-append c.bytes more, length-append (flat_map (chunk major) cs) tail);
          is = ap (chunks_by exceeds have major (suc fuel)) parts ∙ rw (no_break, one) refl;
        })
    by_test false joins parts no_break others =
        let one = chunk_again (λ k. exceeds (have + k)) major c more fits.0 joins in
        let long : have + n + length (joined cs) ≡ have + length (joined (c ∷ cs)) = omega (arith, length-append c.bytes (joined cs)) in
        elim others [
          | inl fails ↦ inl (record {
            left = fails.left;
            over = fails.over;
            behind = fails.behind;
            is = ap (chunks_by exceeds have major (suc fuel)) parts ∙ rw (no_break, one, fails.is) refl;
          })
          | inr goes ↦ inr (record {
            refuses = λ f is. let others = goes.refuses f (ap (λ (k : ℕ). chunks_by exceeds k major (suc (length tail)) tail) long ∙ is) in ap (chunks_by exceeds have major (suc fuel)) parts ∙ rw (no_break, one, others) refl;
            reads = λ ds rest is. let others = goes.reads ds rest (ap (λ (k : ℕ). chunks_by exceeds k major (suc (length tail)) tail) long ∙ is) in ap (chunks_by exceeds have major (suc fuel)) parts ∙ rw (no_break, one, others) refl;
          })
        ]

-- ---- strings

module _ {Item Items Pairs : Type 0} (m : Reading Item Items Pairs) where
  -- a text that would end too far
  pub range_err : (l : ℕ) (w : HeadWidth) (n : ℕ) (rest : List ℕ) → n < limit w → m.has_room (length rest) n ≡ false → item_at m l (head 3 w n ++ rest) ≡ Err (before length_out_of_range rest)
  unfolding content_at text_at
  range_err l w n rest small none = item_at-inside m l _ ∙ length_again m (inside m l) 3 (text_at m) _ w n rest small refl ∙ rw none refl

  no_utf8 : List ℕ → List ℕ → Fault
  no_utf8 b rest = record { why = invalid_utf8; left = length rest + (length b - utf8_valid_len b) }

  -- a text that isn't UTF-8
  pub text_err : (l : ℕ) (c : Chunk) (rest : List ℕ) → IsChunk c → m.has_room (length (c.bytes ++ rest)) (length c.bytes) ≡ true → m.is_text c.bytes ≡ false
      → item_at m l (spell (raw.text c) ++ rest) ≡ Err (record { why = invalid_utf8; left = length rest + (length c.bytes - utf8_valid_len c.bytes) })
  unfolding content_at text_at checked_text spell
  text_err l c rest fits room fails =
      ap (item_at m l) (append_assoc (head 3 c.width (length c.bytes)) c.bytes rest)
      ∙ item_at-inside m l _
      ∙ length_again m (inside m l) 3 (text_at m) _ c.width (length c.bytes) (c.bytes ++ rest) fits.0 refl
      ∙ rw (room, bytes_again c.bytes rest, fails) refl

  -- what follows 5f or 7f
  pub chunks_err : (l major : ℕ) (bs : List ℕ) (f : Fault) → IsOfStrings major → chunks_at m.exceeds 0 major bs ≡ Err f → item_at m l ((32 * major + 31) ∷ bs) ≡ Err f
  unfolding content_at string_chunks_at text_chunks_at
  chunks_err l major bs f (inl two) is =
      ap (λ (k : ℕ). item_at m l ((32 * k + 31) ∷ bs)) two ∙ item_first m l 0x5f bs
      ∙ err_bind (chunks_at m.exceeds 0 2 bs) _ f (ap (λ (k : ℕ). chunks_at m.exceeds 0 k bs) (sym two) ∙ is)
  chunks_err l major bs f (inr three) is =
      ap (λ (k : ℕ). item_at m l ((32 * k + 31) ∷ bs)) three ∙ item_first m l 0x7f bs
      ∙ err_bind (chunks_at m.exceeds 0 3 bs) _ f (ap (λ (k : ℕ). chunks_at m.exceeds 0 k bs) (sym three) ∙ is)

  pub text_chunks_err : (l : ℕ) (cs : List Chunk) (bs rest : List ℕ) → chunks_at m.exceeds 0 3 bs ≡ Ok (cs, rest) → m.is_text (joined cs) ≡ false
      → item_at m l (0x7f ∷ bs) ≡ Err (record { why = invalid_utf8; left = length rest + (length (joined cs) - utf8_valid_len (joined cs)) })
  unfolding content_at text_chunks_at checked_text
  text_chunks_err l cs bs rest is fails = item_first m l 0x7f bs ∙ rw (is, fails) refl

  -- after chunks, what is no chunk
  no_chunk_begins : (major byte : ℕ) → (BeginsChunk major byte → ⊥) → begins_chunk major byte ≡ false
  no_chunk_begins major byte none = both (eqb (byte / 32) major) (ltb (byte % 32) 28) refl refl
    where
      both : (p q : Bool) → eqb (byte / 32) major ≡ p → ltb (byte % 32) 28 ≡ q → (p && q) ≡ false
      both false q is is' = refl
      both true false is is' = refl
      both true true is is' = absurd (none (begins (eqb-true _ _ is) (ltb-true _ _ is')))
        where
          begins : byte / 32 ≡ major → byte % 32 < 28 → BeginsChunk major byte
          begins is small = (omega arith, omega arith)

  pub no_chunk_err : (l major : ℕ) (cs : List Chunk) (byte : ℕ) (bs : List ℕ) → IsOfStrings major → AllByRecursion IsChunk cs → (byte ≡ 0xff → ⊥) → (BeginsChunk major byte → ⊥)
      → IsTooLong m.exceeds 0 major (suc (length (flat_map (chunk major) cs ++ (byte ∷ bs)))) cs (byte ∷ bs) ⊎ (item_at m l (chunks_begun major cs ++ (byte ∷ bs)) ≡ Err (before unexpected_code bs))
  unfolding chunks_by byte_at chunk_at
  no_chunk_err l major cs byte bs of_strings fits no_break none =
      let fuel = suc (length (flat_map (chunk major) cs ++ (byte ∷ bs))) in
      let a : eqb byte 0xff ≡ false = ne_eqb byte 0xff no_break in
      let b : begins_chunk major byte ≡ false = no_chunk_begins major byte none in
      elim (chunks_on m.exceeds 0 major fuel cs (byte ∷ bs) (at_most major of_strings) fits (omega arith)) [
        | inl fails ↦ inl fails
        | inr goes ↦ inr (chunks_err l major (flat_map (chunk major) cs ++ (byte ∷ bs)) (before unexpected_code bs) of_strings (goes.refuses (before unexpected_code bs) (rw (a, b) refl)))
      ]
    where
      at_most : (major : ℕ) → IsOfStrings major → major ≤ 6
      at_most major (inl two) = omega arith
      at_most major (inr three) = omega arith
