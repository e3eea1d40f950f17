-- What faults in numbers, strings and simple values say of the bytes.
use Rattle.std.specs.Prelude.{flat_map}
use Rattle.std.specs.List.{AllByRecursion}
use Rattle.std.proofs.Common.{◌≡◌, ◌⊎◌, ℕ, zero, suc, ◌+◌, ◌-◌, ◌*◌, ◌/◌, ◌%◌, ◌^◌, ◌<◌, ◌≤◌, Bool, true}
use Rattle.std.proofs.Common.{false, cond, eqb, ltb, ◌&&◌, List, [], ◌∷◌, ◌++◌, length}
use Rattle.std.proofs.Common.{Option, refl, sym, ap, subst, ◌∙◌, append_assoc, arith, inl, inr}
use Rattle.std.specs.Int.{Width, w8, w16, w32, w64, byte_len}
use Rattle.std.specs.Str.{IsValidUpTo}
use Rattle.std.specs.Str.Lossy.{utf8_valid_len}
use Rattle.std.proofs.lemmas.Bool.{eqb-true, eqb-false, ltb-true, ltb-false, eq-eqb, lt-ltb}
use Rattle.std.proofs.lemmas.List.{length-append}
use Rattle.cbor_model.specs.Head.{HeadWidth, one_byte, two_bytes, four_bytes, eight_bytes}
use Rattle.cbor_model.specs.Head.{limit, head}
use Rattle.cbor_model.specs.Raw as raw
use Rattle.cbor_model.specs.Raw.{Raw, Chunk, IsChunk, joined, AreBytes, IsWellFormed, half, single}
use Rattle.cbor_model.specs.Raw.{double}
use Rattle.cbor_model.specs.Spelling.{spell, chunk}
use Rattle.cbor_model.specs.Refusal.{unassigned_code, unexpected_code}
use Rattle.cbor_model.specs.Refusal.{scratch_too_small}
use Rattle.cbor_model.specs.Reader.{Reading, byte_at, bytes_at, number_at}
use Rattle.cbor_model.specs.Reader.{width_of, number_behind, float_at, simple_at}
use Rattle.cbor_model.specs.Reader.{string_at, checked_text, text_at, begins_chunk, content_of_chunk}
use Rattle.cbor_model.specs.Reader.{chunk_at, chunks_by, chunks_at, string_chunks_at, text_chunks_at}
use Rattle.cbor_model.specs.Wanted.{at_first}
use Rattle.cbor_model.specs.Allowed.{AreFirst, IsProperBeginning, IsUnassigned, IsBetween}
use Rattle.cbor_model.specs.Allowed.{BeginsChunk, IsOfStrings, chunks_begun, IsTextOf, Limits}
use Rattle.cbor_model.specs.Allowed.{IsOver}
use Rattle.cbor_model.proofs.reader.ReaderSteps.{wide8, wide16, wide32, wide64, number_behind_found, bytes_found}
use Rattle.cbor_model.proofs.reader.ReaderSteps.{first_is, AreBytes-rest}
use Rattle.cbor_model.proofs.reader.FoundParts.{whole_head, behind_head, behind_first, chunk_found, chunks_found}
use Rattle.cbor_model.proofs.reader.BytesTaken.{chunk_taken}
use Rattle.cbor_model.proofs.refusals.FaultMeaning.{Meaning, Reports, Reports-bind, Reports-cond}
use Rattle.cbor_model.proofs.refusals.Completion.{IsCutBehind, cut_behind, float_cut, string_cut, IsCutChunk}
use Rattle.cbor_model.proofs.refusals.Completion.{chunk_head_cut, chunk_content_cut, and_then, and_then-fit}
use Rattle.cbor_model.proofs.refusals.Completion.{and_then-bytes, and_then-joined, chunks_cut, chunk_cut}

-- ---- numbers

Reports-number_at : (l : Limits) (bytes : List ℕ) (w : Width) (bs : List ℕ)
    → (length bs < byte_len w → IsProperBeginning bytes) → Reports l bytes (number_at w bs)
Reports-number_at l bytes w bs cut =
    Reports-cond l bytes (ltb (length bs) (byte_len w)) _ _ (λ few. (refl, cut (ltb-true _ _ few))) (λ enough. tt)

Reports-bytes_at : (l : Limits) (bytes : List ℕ) (n : ℕ) (bs : List ℕ)
    → (length bs < n → IsProperBeginning bytes) → Reports l bytes (bytes_at n bs)
Reports-bytes_at l bytes n bs cut =
    Reports-cond l bytes (ltb (length bs) n) _ _ (λ few. (refl, cut (ltb-true _ _ few))) (λ enough. tt)

pub Reports-number_behind : (l : Limits) (bytes : List ℕ) (low : ℕ) (bs : List ℕ) → AreBytes bs
    → (IsCutBehind low bs → IsProperBeginning bytes)
    → (28 ≤ low → Meaning l bytes unassigned_code (length bs))
    → Reports l bytes (number_behind low bs)
unfolding number_behind
Reports-number_behind l bytes low bs fits cut unassigned =
    Reports-cond l bytes (ltb low 24) _ _ (λ small. tt) (λ more.
    Reports-cond l bytes (eqb low 24) _ _ (λ is. Reports-number_at l bytes w8 bs (at 24 is (cut_behind 24 one_byte w8 wide8 (λ n. refl) (λ n. refl) bs fits))) (λ not_24.
    Reports-cond l bytes (eqb low 25) _ _ (λ is. Reports-number_at l bytes w16 bs (at 25 is (cut_behind 25 two_bytes w16 wide16 (λ n. refl) (λ n. refl) bs fits))) (λ not_25.
    Reports-cond l bytes (eqb low 26) _ _ (λ is. Reports-number_at l bytes w32 bs (at 26 is (cut_behind 26 four_bytes w32 wide32 (λ n. refl) (λ n. refl) bs fits))) (λ not_26.
    Reports-cond l bytes (eqb low 27) _ _ (λ is. Reports-number_at l bytes w64 bs (at 27 is (cut_behind 27 eight_bytes w64 wide64 (λ n. refl) (λ n. refl) bs fits))) (λ not_27.
    unassigned (above (ltb-false _ _ more) (eqb-false _ _ not_24) (eqb-false _ _ not_25) (eqb-false _ _ not_26) (eqb-false _ _ not_27)))))))
  where
    at : {n : ℕ} (k : ℕ) → eqb low k ≡ true → (length bs < n → IsCutBehind k bs) → length bs < n → IsProperBeginning bytes
    at k is each few = cut (subst (λ (k : ℕ). IsCutBehind k bs) (sym (eqb-true _ _ is)) (each few))

    above : 24 ≤ low → (low ≡ 24 → ⊥) → (low ≡ 25 → ⊥) → (low ≡ 26 → ⊥) → (low ≡ 27 → ⊥) → 28 ≤ low
    above a b c d e = omega arith

-- ---- unassigned codes

pub unassigned_here : (l : Limits) (b : ℕ) (bs : List ℕ) → IsUnassigned b → Meaning l (b ∷ bs) unassigned_code (length bs)
unassigned_here l b bs is = (
  1,
  omega arith,
  record {
    byte = b;
    unassigned = is;
    at = record {
      levels = 0;
      before = [];
      wanted = at_first;
      first = record { rest = bs; parts = refl; long = refl };
    };
  },
)

-- those of numbers, of tags, and of strings, arrays and maps, which may have no length
pub unassigned_in : (major low : ℕ) → major ≤ 6 → 28 ≤ low → low < 32 → (2 ≤ major → major ≤ 5 → low ≡ 31 → ⊥) → IsUnassigned (32 * major + low)
unassigned_in zero low at_most least most no_31 = inl (omega arith, omega arith)
unassigned_in (suc zero) low at_most least most no_31 = inr (inl (omega arith, omega arith))
unassigned_in (suc (suc zero)) low at_most least most no_31 =
    let not : low ≡ 31 → ⊥ = no_31 (omega arith) (omega arith) in
    inr (inr (inl (omega arith, omega (arith, not))))
unassigned_in (suc (suc (suc zero))) low at_most least most no_31 =
    let not : low ≡ 31 → ⊥ = no_31 (omega arith) (omega arith) in
    inr (inr (inr (inl (omega arith, omega (arith, not)))))
unassigned_in (suc (suc (suc (suc zero)))) low at_most least most no_31 =
    let not : low ≡ 31 → ⊥ = no_31 (omega arith) (omega arith) in
    inr (inr (inr (inr (inl (omega arith, omega (arith, not))))))
unassigned_in (suc (suc (suc (suc (suc zero))))) low at_most least most no_31 =
    let not : low ≡ 31 → ⊥ = no_31 (omega arith) (omega arith) in
    inr (inr (inr (inr (inr (inl (omega arith, omega (arith, not)))))))
unassigned_in (suc (suc (suc (suc (suc (suc zero)))))) low at_most least most no_31 =
    inr (inr (inr (inr (inr (inr (inl (omega arith, omega arith)))))))
unassigned_in (suc (suc (suc (suc (suc (suc (suc k))))))) low at_most least most no_31 = absurd (omega (arith, at_most))

-- those of simple values
simple_unassigned : (low : ℕ) → low < 32 → (low ≡ 20 → ⊥) → (low ≡ 21 → ⊥) → (low ≡ 22 → ⊥) → (low ≡ 23 → ⊥) → (low ≡ 25 → ⊥) → (low ≡ 26 → ⊥) → (low ≡ 27 → ⊥) → (low ≡ 31 → ⊥)
    → IsUnassigned (32 * 7 + low)
simple_unassigned low most a b c d e f g h = inr (inr (inr (inr (inr (inr (inr (either (split low most a b c d e f g h))))))))
  where
    split : (low : ℕ) → low < 32 → (low ≡ 20 → ⊥) → (low ≡ 21 → ⊥) → (low ≡ 22 → ⊥) → (low ≡ 23 → ⊥) → (low ≡ 25 → ⊥) → (low ≡ 26 → ⊥) → (low ≡ 27 → ⊥) → (low ≡ 31 → ⊥)
        → (low < 20) ⊎ ((low ≡ 24) ⊎ ((28 ≤ low) × (low ≤ 30)))
    split low most a b c d e f g h = grind arith

    either : (low < 20) ⊎ ((low ≡ 24) ⊎ ((28 ≤ low) × (low ≤ 30)))
        → IsBetween 0xe0 0xf3 (32 * 7 + low) ⊎ ((32 * 7 + low ≡ 0xf8) ⊎ IsBetween 0xfc 0xfe (32 * 7 + low))
    either (inl small) = inl (omega arith, omega arith)
    either (inr (inl is)) = inr (inl (omega arith))
    either (inr (inr last)) = inr (inr (omega arith, omega arith))

module _ {Item Items Pairs : Type 0} (m : Reading Item Items Pairs) where
  -- ---- simple values and floats

  -- a break where an item is wanted
  break_here : (l : Limits) (bs : List ℕ) → Meaning l (0xff ∷ bs) unexpected_code (length bs)
  break_here l bs = (
    1,
    omega arith,
    inl (record {
      levels = 0;
      before = [];
      wanted = at_first;
      closed = inl refl;
      first = record { rest = bs; parts = refl; long = refl };
    }),
  )

  pub Reports-simple : (l : Limits) (low : ℕ) (bs : List ℕ) → AreBytes bs → low < 32
      → Reports l ((32 * 7 + low) ∷ bs) (simple_at m low bs)
  unfolding simple_at float_at
  Reports-simple l low bs fits small =
      Reports-cond l bytes (eqb low 20) _ _ (λ is. tt) (λ not_20.
      Reports-cond l bytes (eqb low 21) _ _ (λ is. tt) (λ not_21.
      Reports-cond l bytes (eqb low 22) _ _ (λ is. tt) (λ not_22.
      Reports-cond l bytes (eqb low 23) _ _ (λ is. tt) (λ not_23.
      Reports-cond l bytes (eqb low 25) _ _ (λ is. Reports-bind l bytes (number_at w16 bs) _ (Reports-number_at l bytes w16 bs (at 25 is (float_cut half w16 0xf9 wide16 (λ n. refl) bs fits))) (λ n got. tt)) (λ not_25.
      Reports-cond l bytes (eqb low 26) _ _ (λ is. Reports-bind l bytes (number_at w32 bs) _ (Reports-number_at l bytes w32 bs (at 26 is (float_cut single w32 0xfa wide32 (λ n. refl) bs fits))) (λ n got. tt)) (λ not_26.
      Reports-cond l bytes (eqb low 27) _ _ (λ is. Reports-bind l bytes (number_at w64 bs) _ (Reports-number_at l bytes w64 bs (at 27 is (float_cut double w64 0xfb wide64 (λ n. refl) bs fits))) (λ n got. tt)) (λ not_27.
      by_last (eqb low 31) refl (eqb-false _ _ not_20) (eqb-false _ _ not_21) (eqb-false _ _ not_22) (eqb-false _ _ not_23) (eqb-false _ _ not_25) (eqb-false _ _ not_26) (eqb-false _ _ not_27))))))))
    where
      bytes : List ℕ
      bytes = (32 * 7 + low) ∷ bs

      at : {n : ℕ} (k : ℕ) → eqb low k ≡ true → (length bs < n → IsProperBeginning ((32 * 7 + k) ∷ bs)) → length bs < n → IsProperBeginning bytes
      at k is each few = subst (λ (k : ℕ). IsProperBeginning ((32 * 7 + k) ∷ bs)) (sym (eqb-true _ _ is)) (each few)

      by_last : (b : Bool) → eqb low 31 ≡ b → (low ≡ 20 → ⊥) → (low ≡ 21 → ⊥) → (low ≡ 22 → ⊥) → (low ≡ 23 → ⊥) → (low ≡ 25 → ⊥) → (low ≡ 26 → ⊥) → (low ≡ 27 → ⊥)
          → Meaning l bytes (cond b unexpected_code unassigned_code) (length bs)
      by_last true is a b c d e f g = subst (λ (k : ℕ). Meaning l ((32 * 7 + k) ∷ bs) unexpected_code (length bs)) (sym (eqb-true _ _ is)) (break_here l bs)
      by_last false not a b c d e f g = unassigned_here l (32 * 7 + low) bs (simple_unassigned low small a b c d e f g (eqb-false _ _ not))

-- ---- strings

-- how many bytes stand after the first ones
pub first-length : (j : ℕ) (bytes front : List ℕ) → (first : AreFirst j bytes front) → j + length first.rest ≡ length bytes
first-length j bytes front first = omega (arith, first.long, ap length first.parts, length-append front first.rest)

pub joined-le : (major : ℕ) (cs : List Chunk) → length (joined cs) ≤ length (flat_map (chunk major) cs)
joined-le major [] = omega arith
joined-le major (c ∷ cs) =
    omega (arith, joined-le major cs, length-append c.bytes (joined cs), length-append (chunk major c) (flat_map (chunk major) cs), length-append (head major c.width (length c.bytes)) c.bytes)

module _ {Item Items Pairs : Type 0} (m : Reading Item Items Pairs) (total : ℕ) (scratch : Option ℕ)
    (far : (left n : ℕ) → left ≤ total → m.has_room left n ≡ false → 2 ^ 64 ≤ (total - left) + n)
    (no_text : (b : List ℕ) → m.is_text b ≡ false → IsValidUpTo b (utf8_valid_len b))
    (over : (n : ℕ) → m.exceeds n ≡ true → IsOver scratch n)
    (none_fits : m.exceeds 0 ≡ false)
  where
    abbrev pub lim : ℕ → ℕ → Limits
    lim start levels = record { start = start; levels = levels; scratch = scratch }

    pub Reports-string : (l : Limits) (w : HeadWidth) (n : ℕ) (bs : List ℕ) → AreBytes bs → n < limit w
        → Reports l (head 2 w n ++ bs) (string_at m w n bs)
    unfolding string_at
    Reports-string l w n bs fits small =
        Reports-bind l (head 2 w n ++ bs) (bytes_at n bs) _ (Reports-bytes_at l (head 2 w n ++ bs) n bs (λ few. (string_cut w n bs fits few small).0)) (λ b got. tt)

    Reports-checked : (l : Limits) (bytes : List ℕ) (x : Item) (item : Raw) (b rest : List ℕ)
        → bytes ≡ spell item ++ rest → IsWellFormed item → IsTextOf item b → length b ≤ length (spell item)
        → Reports l bytes (checked_text m x b rest)
    unfolding checked_text
    Reports-checked l bytes x item b rest parts fits is few =
        Reports-cond l bytes (m.is_text b) _ _ (λ passes. tt) (λ fails.
        let bad = length b - utf8_valid_len b in
        let place = length (spell item) in (
          place,
          (
            place - bad,
            omega (arith, few, ap length parts, length-append (spell item) rest),
            record {
              item = item;
              text = b;
              valid = utf8_valid_len b;
              fits = fits;
              text_is = is;
              longest = no_text b fails;
              at = record {
                levels = 0;
                before = [];
                wanted = at_first;
                first = record { rest = rest; parts = parts; long = refl };
              };
              offset_is = omega (arith, few);
            },
          ),
        ))

    pub Reports-text : (start levels : ℕ) (w : HeadWidth) (n : ℕ) (bs : List ℕ) → start + length (head 3 w n ++ bs) ≡ total
        → AreBytes bs → n < limit w → Reports (lim start levels) (head 3 w n ++ bs) (text_at m w n bs)
    unfolding text_at spell
    Reports-text start levels w n bs at_total fits small =
        let l = lim start levels in
        let bytes = head 3 w n ++ bs in
        Reports-cond l bytes (m.has_room (length bs) n) _ _ (λ room.
        Reports-bind l bytes (bytes_at n bs) _ (Reports-bytes_at l bytes n bs (λ few. (string_cut w n bs fits few small).1)) (λ b got.
        let taken = bytes_found n bs b fits got in
        let long : length b.0 ≡ n = taken.long in
        Reports-checked l bytes _ (raw.text (record { width = w; bytes = b.0 })) b.0 b.1 (behind_head 3 w n (length b.0) bs b.0 b.1 taken.parts long)
        (omega (arith, long, small), taken.fits) refl (omega (arith, length-append (head 3 w (length b.0)) b.0))))
        (λ none.
        let front = head 3 w n in (
          length front,
          omega (arith, length-append front bs),
          record {
            width = w;
            n = n;
            fits = small;
            at = record {
              levels = 0;
              before = [];
              wanted = at_first;
              first = record { rest = bs; parts = refl; long = refl };
            };
            far = omega (arith, far (length bs) n (omega (arith, at_total, length-append front bs)) none, at_total, length-append front bs);
          },
        ))

    -- ---- chunks

    Reports-chunk : (l : Limits) → l.scratch ≡ scratch → (major have : ℕ) (cs : List Chunk) (b : ℕ) (bs : List ℕ) → IsOfStrings major → AllByRecursion IsChunk cs → have ≡ length (joined cs) → (b ≡ 0xff → ⊥) → AreBytes bs
        → Reports l (chunks_begun major cs ++ (b ∷ bs)) (chunk_at (λ n. m.exceeds (have + n)) major b bs)
    unfolding chunk_at content_of_chunk
    Reports-chunk l same major have cs b bs of_strings cs_fit joined_is no_break fits =
        Reports-cond l bytes (begins_chunk major b) _ _ (λ is.
        let begins = both (eqb (b / 32) major) (ltb low 28) is in
        let is_major : b / 32 ≡ major = eqb-true _ _ begins.0 in
        let small : low < 28 = ltb-true _ _ begins.1 in
        let first : b ≡ 32 * major + low = omega (arith, first_is b, is_major) in
        Reports-bind l bytes (number_behind low bs) _
        (Reports-number_behind l bytes low bs fits
        (λ cut. chunk_cut major cs (b ∷ bs) of_strings cs_fit (subst (λ (k : ℕ). IsCutChunk major (k ∷ bs)) (sym first) (chunk_head_cut major low bs cut)))
        (λ least. absurd (omega (arith, least, small))))
        (λ n got.
        let w = width_of low in
        let found = number_behind_found low bs n fits got in
        let head_is : (b ∷ bs) ≡ head major w n.0 ++ n.1 = ap (λ (k : ℕ). k ∷ bs) first ∙ whole_head major low n.0 w bs n.1 found.is_low found.parts in
        Reports-bind l bytes (bytes_at n.0 n.1) _
        (Reports-bytes_at l bytes n.0 n.1
        (λ few. chunk_cut major cs (b ∷ bs) of_strings cs_fit (subst (IsCutChunk major) (sym head_is) (chunk_content_cut major w n.0 n.1 found.rest_fits few found.fits))))
        (λ c got'.
        let taken = bytes_found n.0 n.1 c found.rest_fits got' in
        Reports-cond l bytes (m.exceeds (have + n.0)) _ _ (λ more. too_long w n c more head_is found.fits taken.long taken.parts taken.fits) (λ enough. tt))))
        (λ other. (
          length (front ++ (b ∷ [])),
          first-length (length (front ++ (b ∷ []))) bytes (front ++ (b ∷ [])) here,
          inr (record {
            major = major;
            chunks = cs;
            byte = b;
            of_strings = of_strings;
            fits = cs_fit;
            no_break = no_break;
            no_chunk = λ begins. neither other begins;
            at = record {
              levels = 0;
              before = [];
              wanted = at_first;
              first = here;
            };
          }),
        ))
      where
        low : ℕ
        low = b % 32

        front : List ℕ
        front = chunks_begun major cs

        bytes : List ℕ
        bytes = front ++ (b ∷ bs)

        both : (p q : Bool) → (p && q) ≡ true → (p ≡ true) × (q ≡ true)
        both true q e = (refl, e)
        both false q e = absurd cc

        here : AreFirst (length (front ++ (b ∷ []))) bytes (front ++ (b ∷ []))
        here = record { rest = bs; parts = sym (append_assoc front (b ∷ []) bs); long = refl }

        neither : (eqb (b / 32) major && ltb (b % 32) 28) ≡ false → BeginsChunk major b → ⊥
        neither not begins =
            let one : eqb (b / 32) major ≡ true = eq-eqb (b / 32) major (omega (arith, begins)) in
            let other : ltb (b % 32) 28 ≡ true = lt-ltb (b % 32) 28 (omega (arith, begins)) in
            absurd (cc (sym not, ap₂' one other))
          where
            ap₂' : eqb (b / 32) major ≡ true → ltb (b % 32) 28 ≡ true → (eqb (b / 32) major && ltb (b % 32) 28) ≡ true
            ap₂' p q = rw (p, q) refl

        too_long : (w : HeadWidth) (n : ℕ × List ℕ) (c : List ℕ × List ℕ) → m.exceeds (have + n.0) ≡ true → (b ∷ bs) ≡ head major w n.0 ++ n.1 → n.0 < limit w → length c.0 ≡ n.0 → n.1 ≡ c.0 ++ c.1 → AreBytes c.0
            → Meaning l bytes scratch_too_small (length n.1)
        too_long w n c more head_is small long parts c_fits =
            let next : Chunk = record { width = w; bytes = c.0 } in
            let front' = front ++ head major w (length c.0) in
            let first : AreFirst (length front') bytes front' = record {
              rest = n.1;
              parts = ap (λ (t : List ℕ). front ++ t) (head_is ∙ ap (λ (k : ℕ). head major w k ++ n.1) (sym long)) ∙ sym (append_assoc front (head major w (length c.0)) n.1);
              long = refl;
            } in
            let sum : have + n.0 ≡ length (joined cs) + length c.0 = omega (arith, joined_is, long) in (
              length front',
              first-length (length front') bytes front' first,
              record {
                major = major;
                chunks = cs;
                next = next;
                rest = c.1;
                of_strings = of_strings;
                fits = cs_fit;
                next_fits = (omega (arith, long, small), c_fits);
                over = subst (λ (o : Option ℕ). IsOver o (length (joined cs) + length c.0)) (sym same) (subst (IsOver scratch) sum (over (have + n.0) more));
                at = record {
                  levels = 0;
                  before = [];
                  wanted = at_first;
                  first = first;
                };
                whole = parts;
              },
            )

    -- chunks, after those that are read
    Reports-chunks : (l : Limits) → l.scratch ≡ scratch → (major have fuel : ℕ) (cs : List Chunk) (bs : List ℕ) → IsOfStrings major → AllByRecursion IsChunk cs → have ≡ length (joined cs) → AreBytes bs → length bs < fuel
        → Reports l (chunks_begun major cs ++ bs) (chunks_by m.exceeds have major fuel bs)
    unfolding chunks_by byte_at
    Reports-chunks l same major have zero cs bs of_strings cs_fit joined_is fits enough = absurd (omega arith)
    Reports-chunks l same major have (suc fuel) cs [] of_strings cs_fit joined_is fits enough = (refl, chunks_cut major cs of_strings cs_fit)
    Reports-chunks l same major have (suc fuel) cs (b ∷ bs) of_strings cs_fit joined_is fits enough =
        let rest_fits = AreBytes-rest b bs fits in
        let ex = λ (n : ℕ). m.exceeds (have + n) in
        let bytes = chunks_begun major cs ++ (b ∷ bs) in
        Reports-cond l bytes (eqb b 0xff) _ _ (λ last. tt) (λ other.
        Reports-bind l bytes (chunk_at ex major b bs) _
        (Reports-chunk l same major have cs b bs of_strings cs_fit joined_is (eqb-false _ _ other) rest_fits)
        (λ c got.
        let found = chunk_found ex major b bs c rest_fits got in
        let fewer : length c.1 ≤ length bs = chunk_taken ex major b bs c got in
        let all = and_then cs c.0 in
        let moved : bytes ≡ chunks_begun major all ++ c.1 =
        ap (λ (t : List ℕ). chunks_begun major cs ++ t) found.parts
        ∙ sym (append_assoc (chunks_begun major cs) (chunk major c.0) c.1)
        ∙ ap (λ (t : List ℕ). ((32 * major + 31) ∷ t) ++ c.1) (sym (and_then-bytes major cs c.0)) in
        Reports-bind l bytes (chunks_by m.exceeds (have + length c.0.bytes) major fuel c.1) _
        (subst (λ (t : List ℕ). Reports l t (chunks_by m.exceeds (have + length c.0.bytes) major fuel c.1)) (sym moved)
        (Reports-chunks l same major (have + length c.0.bytes) fuel all c.1 of_strings (and_then-fit cs c.0 cs_fit found.fits) (omega (arith, joined_is, and_then-joined cs c.0)) found.rest_fits (omega (arith, enough, fewer))))
        (λ others got'. tt)))

    pub Reports-string_chunks : (l : Limits) → l.scratch ≡ scratch → (bs : List ℕ) → AreBytes bs → Reports l (0x5f ∷ bs) (string_chunks_at m bs)
    unfolding string_chunks_at
    Reports-string_chunks l same bs fits =
        Reports-bind l (0x5f ∷ bs) (chunks_at m.exceeds 0 2 bs) _ (Reports-chunks l same 2 0 (suc (length bs)) [] bs (inl refl) tt refl fits (omega arith)) (λ cs got. tt)

    pub Reports-text_chunks : (l : Limits) → l.scratch ≡ scratch → (bs : List ℕ) → AreBytes bs → Reports l (0x7f ∷ bs) (text_chunks_at m bs)
    unfolding text_chunks_at spell
    Reports-text_chunks l same bs fits =
        let bytes = 0x7f ∷ bs in
        Reports-bind l bytes (chunks_at m.exceeds 0 3 bs) _ (Reports-chunks l same 3 0 (suc (length bs)) [] bs (inr refl) tt refl fits (omega arith)) (λ cs got.
        let found = chunks_found m.exceeds 0 3 (suc (length bs)) bs cs none_fits fits got in
        let all = flat_map (chunk 3) cs.0 in
        Reports-checked l bytes _ (raw.text_chunks cs.0) (joined cs.0) cs.1 (behind_first 0x7f bs all cs.1 found.parts) found.fits refl
        (omega (arith, joined-le 3 cs.0, length-append all (0xff ∷ []))))
