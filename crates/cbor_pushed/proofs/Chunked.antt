-- Chunks, one after the other.
use Rattle.std.proofs.Common.{◌≡◌, ◌∙◌, ◌<◌, ◌≤◌, ◌+◌, ◌-◌, ◌*◌, ◌/◌, ◌%◌, ℕ, suc, true, false, eqb, ltb, List, [], ◌∷◌, ◌++◌, length, take, drop, None, Ok, Err, ◌⊎◌, max, refl, sym, ap, subst, arith, inl, inr}
use Rattle.std.proofs.lemmas.Bool.{eq-eqb, ne_eqb, lt-ltb, le-ltb}
use Rattle.std.proofs.lemmas.List.{length-append, length-drop, length-take, drop-drop, drop-append-le}
use Rattle.cbor_model.specs.Allowed.{IsOfStrings}
use Rattle.cbor_model.specs.Raw.{AreBytes}
use Rattle.cbor_model.specs.Reader.{Fault, ended, byte_at, number_behind, content_of_chunk, chunk_at, chunks_by, exceeds_most}
use Rattle.cbor_model.proofs.facts.Reader.{chunks_by-fuel}
use Rattle.cbor_pushed.specs.Scanned.{ChunksPassed, IsNumber, HasChunk, InChunks, chunks_to, last}
use Rattle.cbor_pushed.proofs.Opened.{number_more}

pub none_come : (have major : ℕ) → chunks_to have major [] ≡ Err ended
unfolding chunks_by byte_at
none_come have major = refl

module _ (major b : ℕ) (bs : List ℕ) (of_major : b / 32 ≡ major) (small : b % 32 < 28) where
  no_break : eqb b 0xff ≡ false
  no_break = ne_eqb b 0xff (λ e. omega arith)

  major_is : eqb (b / 32) major ≡ true
  major_is = eq-eqb (b / 32) major of_major

  low_is : ltb (b % 32) 28 ≡ true
  low_is = lt-ltb (b % 32) 28 small

  -- the number isn't whole
  pub number_cut : (have : ℕ) → number_behind (b % 32) bs ≡ Err ended → chunks_to have major (b ∷ bs) ≡ Err ended
  unfolding chunks_by byte_at chunk_at
  number_cut have none = rw (no_break, major_is, low_is, none) refl

  module _ (n : ℕ) (rest : List ℕ) (is : number_behind (b % 32) bs ≡ Ok (n, rest)) where
    -- the chunk isn't whole
    pub content_cut : (have : ℕ) → length rest < n → chunks_to have major (b ∷ bs) ≡ Err ended
    unfolding chunks_by byte_at chunk_at content_of_chunk
    content_cut have few =
        let too_few : ltb (length rest) n ≡ true = lt-ltb (length rest) n few in
        rw (no_break, major_is, low_is, is, too_few) refl

    -- what stops the chunks after it
    chunk_read : (have : ℕ) (f : Fault) → n ≤ length rest → length rest ≤ length bs → chunks_to (have + n) major (drop n rest) ≡ Err f → chunks_to have major (b ∷ bs) ≡ Err f
    unfolding chunks_by byte_at chunk_at content_of_chunk
    chunk_read have f enough within stops =
        let there : ltb (length rest) n ≡ false = le-ltb (length rest) n enough in
        let long : length (take n rest) ≡ n = omega (arith, length-take n rest) in
        let fuel = chunks_by-fuel (exceeds_most None) (have + n) major (suc (length bs)) (suc (length (drop n rest))) (drop n rest) (omega (arith, length-drop n rest)) (omega arith) in
        rw (no_break, major_is, low_is, is, there, long, fuel, stops) refl

-- a whole chunk, of which the number leaves so many bytes
module _ (major b : ℕ) (bs : List ℕ) (fits : AreBytes bs) (of_major : b / 32 ≡ major) (n left : ℕ) (is : IsNumber (b % 32) bs (n, left)) (enough : n ≤ left) where
  left_behind : length (b ∷ bs) - (left - n) ≡ suc (length bs - left + n)
  left_behind = omega arith

  behind : drop (length (b ∷ bs) - (left - n)) (b ∷ bs) ≡ drop n (last left bs)
  behind = rw left_behind (sym (drop-drop n (length bs - left) bs))

  stops : (have : ℕ) (more : List ℕ) (f : Fault) → chunks_to (have + n) major (drop (length (b ∷ bs) - (left - n)) (b ∷ bs) ++ more) ≡ Err f → chunks_to have major ((b ∷ bs) ++ more) ≡ Err f
  stops have more f h =
      let rest = last left bs in
      let long : length rest ≡ left = omega (arith, length-drop (length bs - left) bs) in
      let same : drop n (rest ++ more) ≡ drop (length (b ∷ bs) - (left - n)) (b ∷ bs) ++ more = drop-append-le n rest more (omega arith) ∙ ap (λ (l : List ℕ). l ++ more) (sym behind) in
      chunk_read major b (bs ++ more) of_major is.0 n (rest ++ more) (number_more (b % 32) n bs rest more fits is.1) have f
      (omega (arith, length-append rest more)) (omega (arith, length-append rest more, length-append bs more))
      (ap (chunks_to (have + n) major) same ∙ h)

  pub whole_chunk : HasChunk major (length (b ∷ bs) - (left - n)) (b ∷ bs)
  whole_chunk = record {
    some = omega arith;
    within = omega arith;
    size = n;
    stops = stops;
  }

-- one chunk more
pub chunk_more : (major at n : ℕ) (bs : List ℕ) → InChunks major at bs → HasChunk major n (drop at bs) → InChunks major (at + n) bs
chunk_more major at n bs passed next = record {
  of_strings = passed.of_strings;
  tail = passed.tail;
  begins = passed.begins;
  some = omega arith;
  within = omega (arith, length-drop at bs);
  have = passed.have + next.size;
  stops = λ more f h.
      let same = ap (λ (l : List ℕ). l ++ more) (drop-drop n at bs) in
      passed.stops more f (next.stops passed.have more f (ap (chunks_to (passed.have + next.size) major) same ∙ h));
}

-- a string in chunks begins with the byte, of which so many were passed, or none
module _ (b : ℕ) (bs tail : List ℕ) (is : bs ≡ b ∷ tail) (first : (b ≡ 0x5f) ⊎ (b ≡ 0x7f)) where
  of_strings : IsOfStrings (b / 32)
  of_strings = elim first [ inl e ↦ inl (omega (arith, e)) | inr e ↦ inr (omega (arith, e)) ]

  indefinite : b ≡ 32 * (b / 32) + 31
  indefinite = elim first [ inl e ↦ omega (arith, e) | inr e ↦ omega (arith, e) ]

  first_only : InChunks (b / 32) 1 bs
  first_only = record {
    of_strings = of_strings;
    tail = tail;
    begins = is ∙ ap (λ (n : ℕ). n ∷ tail) indefinite;
    some = omega arith;
    within = omega (arith, ap length is);
    have = 0;
    stops = λ more f h. ap (λ (l : List ℕ). chunks_to 0 (b / 32) (l ++ more)) (sym (ap (drop 1) is)) ∙ h;
  }

  head_is : (x y : ℕ) (xs ys : List ℕ) → x ∷ xs ≡ y ∷ ys → x ≡ y
  head_is x y xs ys e = cc

  pub in_chunks : (n : ℕ) → ChunksPassed n bs → InChunks (b / 32) (max n 1) bs
  in_chunks n (inl none) = subst (λ (k : ℕ). InChunks (b / 32) (max k 1) bs) (sym none) first_only
  in_chunks n (inr passed) =
      let byte : b ≡ 32 * passed.0 + 31 = head_is b (32 * passed.0 + 31) tail passed.1.tail (sym is ∙ passed.1.begins) in
      let major : passed.0 ≡ b / 32 = omega (arith, byte) in
      let some : n ≡ max n 1 = omega (arith, passed.1.some) in
      subst (λ (k : ℕ). InChunks (b / 32) k bs) some (subst (λ (k : ℕ). InChunks k n bs) major passed.1)
