-- Heads and strings that the input's end cuts off begin an item.
use Rattle.std.proofs.Common.{◌≡◌, ℕ, zero, suc, ◌+◌, ◌-◌, ◌*◌, ◌<◌, ◌≤◌, List, [], ◌∷◌, ◌++◌, length}
use Rattle.std.proofs.Common.{refl, sym, ap, subst, ◌∙◌, append_assoc, arith, inl, inr}
use Rattle.std.specs.Prelude.{flat_map}
use Rattle.std.specs.List.{AllByRecursion}
use Rattle.std.specs.Int.{Width, byte_len, to_be_bytes, from_be_bytes}
use Rattle.std.proofs.lemmas.List.{append-nil, length-append}
use Rattle.cbor_model.specs.Head.{HeadWidth, limit, info, head, behind}
use Rattle.cbor_model.specs.Raw as raw
use Rattle.cbor_model.specs.Raw.{RawPairs, no_raw_pairs, raw_pair, definite, pair_count, count}
use Rattle.cbor_model.specs.Raw.{ArePairsWellFormed, AreBytes, FloatWidth, float_limit, Chunk, IsChunk, joined}
use Rattle.cbor_model.specs.Spelling.{spell, spell_all, spell_pairs, float_spelling, chunk, break}
use Rattle.cbor_model.specs.Allowed.{IsProperBeginning, IsOfStrings, chunks_begun}
use Rattle.cbor_model.proofs.reader.ReaderSteps.{IsWide}
use Rattle.cbor_model.proofs.reader.Bytes.{AreBytes-append}
use Rattle.cbor_model.proofs.refusals.Wanted.{null, nulls, count-nulls, nulls_fit, GoesOn}

-- ---- zeros

abbrev pub zeros : ℕ → List ℕ
zeros zero = []
zeros (suc n) = 0 ∷ zeros n

pub length-zeros : (n : ℕ) → length (zeros n) ≡ n
length-zeros zero = refl
length-zeros (suc n) = ap suc (length-zeros n)

pub zeros_fit : (n : ℕ) → AreBytes (zeros n)
zeros_fit zero i = omega arith
zeros_fit (suc n) zero = omega arith
zeros_fit (suc n) (suc i) = zeros_fit n i

-- as many as are wanting, and then some
pub no_nothing : (n : ℕ) (more : List ℕ) → 0 < n → zeros n ++ more ≡ [] → ⊥
no_nothing zero more some none = omega arith
no_nothing (suc n) more some none = cc

-- what goes on from a front of the bytes, where more follows, has a proper beginning
pub begun_by : (bs more : List ℕ) → (more ≡ [] → ⊥) → GoesOn (bs ++ more) → IsProperBeginning bs
begun_by bs more some on = record {
  begins = record {
    item = on.item;
    fits = on.fits;
    more = more ++ on.more;
    whole = on.spelled ∙ append_assoc bs more on.more;
  };
  more = λ none. some (front_empty more on.more none);
}
  where
    front_empty : (a c : List ℕ) → a ++ c ≡ [] → a ≡ []
    front_empty [] c e = refl
    front_empty (x ∷ a) c e = absurd cc

-- nothing begins an item
pub nothing_begins : IsProperBeginning []
unfolding spell
nothing_begins = record {
  begins = record { item = null; fits = tt; more = 0xf6 ∷ []; whole = refl };
  more = λ none. cc;
}

-- ---- heads

abbrev null_pairs : ℕ → RawPairs
null_pairs zero = no_raw_pairs
null_pairs (suc n) = raw_pair null null (null_pairs n)

count-null_pairs : (n : ℕ) → pair_count (null_pairs n) ≡ n
count-null_pairs zero = refl
count-null_pairs (suc n) = ap suc (count-null_pairs n)

null_pairs_fit : (n : ℕ) → ArePairsWellFormed (null_pairs n)
null_pairs_fit zero = tt
null_pairs_fit (suc n) = (tt, tt, null_pairs_fit n)

-- an item of each head
pub headed : (major : ℕ) (w : HeadWidth) (n : ℕ) → major ≤ 6 → n < limit w → GoesOn (head major w n)
unfolding spell
headed zero w n at_most fits = record { item = raw.unsigned w n; fits = fits; more = []; spelled = sym (append-nil (head 0 w n)) }
headed (suc zero) w n at_most fits = record { item = raw.negative w n; fits = fits; more = []; spelled = sym (append-nil (head 1 w n)) }
headed (suc (suc zero)) w n at_most fits = record {
  item = raw.bytes (record { width = w; bytes = zeros n });
  fits = (omega (arith, fits, length-zeros n), zeros_fit n);
  more = zeros n;
  spelled = ap (λ (k : ℕ). head 2 w k ++ zeros n) (length-zeros n);
}
headed (suc (suc (suc zero))) w n at_most fits = record {
  item = raw.text (record { width = w; bytes = zeros n });
  fits = (omega (arith, fits, length-zeros n), zeros_fit n);
  more = zeros n;
  spelled = ap (λ (k : ℕ). head 3 w k ++ zeros n) (length-zeros n);
}
headed (suc (suc (suc (suc zero)))) w n at_most fits = record {
  item = raw.array (definite w) (nulls n);
  fits = (omega (arith, fits, count-nulls n), nulls_fit n);
  more = spell_all (nulls n);
  spelled = ap (λ (k : ℕ). head 4 w k ++ spell_all (nulls n)) (count-nulls n);
}
headed (suc (suc (suc (suc (suc zero))))) w n at_most fits = record {
  item = raw.map (definite w) (null_pairs n);
  fits = (omega (arith, fits, count-null_pairs n), null_pairs_fit n);
  more = spell_pairs (null_pairs n);
  spelled = ap (λ (k : ℕ). head 5 w k ++ spell_pairs (null_pairs n)) (count-null_pairs n);
}
headed (suc (suc (suc (suc (suc (suc zero)))))) w n at_most fits = record {
  item = raw.tag w n null;
  fits = (fits, tt);
  more = spell null;
  spelled = refl;
}
headed (suc (suc (suc (suc (suc (suc (suc k))))))) w n at_most fits = absurd (omega (arith, at_most))

-- bytes of a number that end too early
pub record IsCut (w : Width) (bound : ℕ) (bs : List ℕ) : Type 0 where
  pub n : ℕ
  pub below : n < bound
  pub missing : ℕ
  pub some : 0 < missing
  pub bytes : to_be_bytes w n ≡ bs ++ zeros missing

pub number_cut : (w : Width) (bound : ℕ) → IsWide w bound → (bs : List ℕ) → AreBytes bs
    → length bs < byte_len w → IsCut w bound bs
number_cut w bound wide bs fits few =
    let k = byte_len w - length bs in
    let all = bs ++ zeros k in
    let all_fit = AreBytes-append bs (zeros k) fits (zeros_fit k) in
    let long : length all ≡ byte_len w = omega (arith, length-append bs (zeros k), length-zeros k) in
    record {
      n = from_be_bytes w all;
      below = wide.below all all_fit;
      missing = k;
      some = omega (arith, few);
      bytes = wide.back all long all_fit;
    }

-- a number after a first byte with those lower five bits, that ends too early
pub record IsCutBehind (low : ℕ) (bs : List ℕ) : Type 0 where
  pub width : HeadWidth
  pub n : ℕ
  pub below : n < limit width
  pub low_is : low ≡ info width n
  pub missing : ℕ
  pub some : 0 < missing
  pub bytes : behind width n ≡ bs ++ zeros missing

pub cut_behind : (low : ℕ) (h : HeadWidth) (w : Width) → IsWide w (limit h)
    → ((n : ℕ) → behind h n ≡ to_be_bytes w n) → ((n : ℕ) → low ≡ info h n)
    → (bs : List ℕ) → AreBytes bs → length bs < byte_len w → IsCutBehind low bs
cut_behind low h w wide same low_is bs fits few =
    let cut = number_cut w (limit h) wide bs fits few in
    record {
      width = h;
      n = cut.n;
      below = cut.below;
      low_is = low_is cut.n;
      missing = cut.missing;
      some = cut.some;
      bytes = same cut.n ∙ cut.bytes;
    }

missing_some : (k : ℕ) → 0 < k → zeros k ≡ [] → ⊥
missing_some k some none = no_nothing k [] some (append-nil (zeros k) ∙ none)

-- the head of such a number
pub cut_head : (major low : ℕ) (bs : List ℕ) → (cut : IsCutBehind low bs)
    → head major cut.width cut.n ≡ ((32 * major + low) ∷ bs) ++ zeros cut.missing
cut_head major low bs cut =
    ap (λ (i : ℕ). (32 * major + i) ∷ behind cut.width cut.n) (sym cut.low_is)
    ∙ ap (λ (t : List ℕ). (32 * major + low) ∷ t) cut.bytes

pub head_cut : (major low : ℕ) (bs : List ℕ) → major ≤ 6 → IsCutBehind low bs
    → IsProperBeginning ((32 * major + low) ∷ bs)
head_cut major low bs at_most cut =
    begun_by ((32 * major + low) ∷ bs) (zeros cut.missing) (missing_some cut.missing cut.some)
    (subst GoesOn (cut_head major low bs cut) (headed major cut.width cut.n at_most cut.below))

-- a float likewise
pub float_cut : (f : FloatWidth) (w : Width) (first : ℕ) → IsWide w (float_limit f)
    → ((n : ℕ) → float_spelling f n ≡ first ∷ to_be_bytes w n)
    → (bs : List ℕ) → AreBytes bs → length bs < byte_len w → IsProperBeginning (first ∷ bs)
unfolding spell
float_cut f w first wide spelled bs fits few =
    let cut = number_cut w (float_limit f) wide bs fits few in
    begun_by (first ∷ bs) (zeros cut.missing)
    (missing_some cut.missing cut.some)
    (record {
      item = raw.float f cut.n;
      fits = cut.below;
      more = [];
      spelled = spelled cut.n ∙ ap (λ (t : List ℕ). first ∷ t) cut.bytes ∙ sym (append-nil ((first ∷ bs) ++ zeros cut.missing));
    })

-- ---- strings

-- a definite string that ends too early
pub string_cut : (w : HeadWidth) (n : ℕ) (bs : List ℕ) → AreBytes bs → length bs < n → n < limit w
    → IsProperBeginning (head 2 w n ++ bs) × IsProperBeginning (head 3 w n ++ bs)
unfolding spell
string_cut w n bs fits few small =
    let k = n - length bs in
    let b = bs ++ zeros k in
    let long : length b ≡ n = omega (arith, length-append bs (zeros k), length-zeros k) in
    let some = λ (none : zeros k ≡ []). no_nothing k [] (omega (arith, few)) (append-nil (zeros k) ∙ none) in
    let c : raw.Chunk = record { width = w; bytes = b } in
    let fit : raw.IsChunk c = (omega (arith, long, small), AreBytes-append bs (zeros k) fits (zeros_fit k)) in (
      begun_by (head 2 w n ++ bs) (zeros k) some (record {
        item = raw.bytes c;
        fits = fit;
        more = [];
        spelled = ap (λ (j : ℕ). head 2 w j ++ b) long ∙ sym (append_assoc (head 2 w n) bs (zeros k)) ∙ sym (append-nil ((head 2 w n ++ bs) ++ zeros k));
      }),
      begun_by (head 3 w n ++ bs) (zeros k) some (record {
        item = raw.text c;
        fits = fit;
        more = [];
        spelled = ap (λ (j : ℕ). head 3 w j ++ b) long ∙ sym (append_assoc (head 3 w n) bs (zeros k)) ∙ sym (append-nil ((head 3 w n ++ bs) ++ zeros k));
      }),
    )

-- ---- chunks

-- a chunk that ends too early
pub record IsCutChunk (major : ℕ) (bs : List ℕ) : Type 0 where
  pub whole : Chunk
  pub fits : IsChunk whole
  pub more : List ℕ
  pub some : more ≡ [] → ⊥
  pub bytes : chunk major whole ≡ bs ++ more

pub chunk_head_cut : (major low : ℕ) (bs : List ℕ) → IsCutBehind low bs → IsCutChunk major ((32 * major + low) ∷ bs)
chunk_head_cut major low bs cut =
    let b = zeros cut.n in
    record {
      whole = record { width = cut.width; bytes = b };
      fits = (omega (arith, cut.below, length-zeros cut.n), zeros_fit cut.n);
      more = zeros cut.missing ++ b;
      some = no_nothing cut.missing b cut.some;
      bytes = ap (λ (k : ℕ). head major cut.width k ++ b) (length-zeros cut.n) ∙ ap (λ (t : List ℕ). t ++ b) (cut_head major low bs cut) ∙ append_assoc ((32 * major + low) ∷ bs) (zeros cut.missing) b;
    }

pub chunk_content_cut : (major : ℕ) (w : HeadWidth) (n : ℕ) (bs : List ℕ) → AreBytes bs → length bs < n → n < limit w
    → IsCutChunk major (head major w n ++ bs)
chunk_content_cut major w n bs fits few small =
    let k = n - length bs in
    let b = bs ++ zeros k in
    let long : length b ≡ n = omega (arith, length-append bs (zeros k), length-zeros k) in
    record {
      whole = record { width = w; bytes = b };
      fits = (omega (arith, long, small), AreBytes-append bs (zeros k) fits (zeros_fit k));
      more = zeros k;
      some = missing_some k (omega (arith, few));
      bytes = ap (λ (j : ℕ). head major w j ++ b) long ∙ sym (append_assoc (head major w n) bs (zeros k));
    }

-- chunks, and another one
abbrev pub and_then : List Chunk → Chunk → List Chunk
and_then [] c = c ∷ []
and_then (d ∷ cs) c = d ∷ and_then cs c

pub and_then-fit : (cs : List Chunk) (c : Chunk) → AllByRecursion IsChunk cs → IsChunk c → AllByRecursion IsChunk (and_then cs c)
and_then-fit [] c fits fit = (fit, tt)
and_then-fit (d ∷ cs) c fits fit = (fits.0, and_then-fit cs c fits.1 fit)

pub and_then-bytes : (major : ℕ) (cs : List Chunk) (c : Chunk) → flat_map (chunk major) (and_then cs c) ≡ flat_map (chunk major) cs ++ chunk major c
and_then-bytes major [] c = append-nil (chunk major c)
and_then-bytes major (d ∷ cs) c =
    ap (λ (t : List ℕ). chunk major d ++ t) (and_then-bytes major cs c) ∙ sym (append_assoc (chunk major d) (flat_map (chunk major) cs) (chunk major c))

pub and_then-joined : (cs : List Chunk) (c : Chunk) → length (joined (and_then cs c)) ≡ length (joined cs) + length c.bytes
and_then-joined [] c = omega (arith, length-append c.bytes [])
and_then-joined (d ∷ cs) c = omega (arith, length-append d.bytes (joined cs), length-append d.bytes (joined (and_then cs c)), and_then-joined cs c)

-- a string of these chunks
pub chunked : (major : ℕ) (cs : List Chunk) → IsOfStrings major → AllByRecursion IsChunk cs → GoesOn (chunks_begun major cs ++ break)
unfolding spell
chunked major cs (inl is) fits =
    subst (λ (k : ℕ). GoesOn (chunks_begun k cs ++ break)) (sym is)
    (record { item = raw.bytes_chunks cs; fits = fits; more = []; spelled = sym (append-nil (chunks_begun 2 cs ++ break)) })
chunked major cs (inr is) fits =
    subst (λ (k : ℕ). GoesOn (chunks_begun k cs ++ break)) (sym is)
    (record { item = raw.text_chunks cs; fits = fits; more = []; spelled = sym (append-nil (chunks_begun 3 cs ++ break)) })

pub chunks_cut : (major : ℕ) (cs : List Chunk) → IsOfStrings major → AllByRecursion IsChunk cs → IsProperBeginning (chunks_begun major cs ++ [])
chunks_cut major cs of_strings fits =
    subst IsProperBeginning (sym (append-nil (chunks_begun major cs)))
    (begun_by (chunks_begun major cs) break (λ none. cc) (chunked major cs of_strings fits))

pub chunk_cut : (major : ℕ) (cs : List Chunk) (bs : List ℕ) → IsOfStrings major → AllByRecursion IsChunk cs → IsCutChunk major bs → IsProperBeginning (chunks_begun major cs ++ bs)
chunk_cut major cs bs of_strings fits cut =
    let all = and_then cs cut.whole in
    let on = chunked major all of_strings (and_then-fit cs cut.whole fits cut.fits) in
    let bytes : chunks_begun major all ++ break ≡ (chunks_begun major cs ++ bs) ++ (cut.more ++ break) =
    ap (λ (t : List ℕ). ((32 * major + 31) ∷ t) ++ break) (and_then-bytes major cs cut.whole ∙ ap (λ (t : List ℕ). flat_map (chunk major) cs ++ t) cut.bytes)
    ∙ regroup (chunks_begun major cs) bs cut.more break in
    begun_by (chunks_begun major cs ++ bs) (cut.more ++ break) (λ none. no_break cut.more none) (subst GoesOn bytes on)
  where
    regroup : (a b c d : List ℕ) → (a ++ (b ++ c)) ++ d ≡ (a ++ b) ++ (c ++ d)
    regroup a b c d = simp append_assoc

    no_break : (a : List ℕ) → a ++ break ≡ [] → ⊥
    no_break [] e = cc
    no_break (x ∷ a) e = cc
