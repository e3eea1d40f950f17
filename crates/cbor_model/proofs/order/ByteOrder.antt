-- The order of storable values in range is the byte order of their canonical spellings.
use Rattle.std.proofs.Common.{◌≡◌, ℕ, pred, ◌+◌, ◌*◌, ◌^◌, ◌<◌, Bool, true, false, List, [], ◌∷◌, ◌++◌, length, pos, negsuc, nat_cmp, Ordering, Less, Equal, Greater, refl, sym, ap, ap₂, ◌∙◌, append_assoc, zero-add, arith}
use Rattle.std.specs.Int.{bytes_high_first}
use Rattle.std.specs.Ordering.{ordering_then, MatchOrdering}
use Rattle.std.proofs.Math.Nat.{mod-eq_of_lt}
use Rattle.std.proofs.lemmas.Cmp.{ranked, tied_itself}
use Rattle.std.proofs.lemmas.List.{append-nil}
use Rattle.std.specs.Cmp.Lexicographic.{nat_list_cmp_total}
use Rattle.cbor_model.specs.Head.{info, least, short}
use Rattle.cbor_model.specs.Raw as raw
use Rattle.cbor_model.specs.Raw.{FloatWidth, half, single, double, float_limit}
use Rattle.cbor_model.specs.Spelling.{spell, spell_all, spell_pairs, simple_byte, float_spelling}
use Rattle.cbor_model.specs.Plain.{Val, null, bool, integer, float, bytes, text, array, map, tag, Vals, no_vals, val, Pairs, no_pairs, pair, count, pair_count}
use Rattle.cbor_model.specs.Order.{lex, flat, flat_all, flat_pairs, major_type, body, bool_code, float_code, val_cmp}
use Rattle.cbor_model.specs.Canonical.{IsStorable, AreStorable, ArePairsStorable, canonical, canonical_all, canonical_pairs, canonical_bool, canon}
use Rattle.cbor_model.specs.InRange.{IsInRange, AreInRange, ArePairsInRange}
use Rattle.cbor_model.proofs.reader.ReaderSteps.{info-below}
use Rattle.cbor_model.proofs.values.Canonical.{lt-limit-least}
use Rattle.cbor_model.proofs.values.Counts.{count_canonical, pair_count_canonical}
use Rattle.cbor_model.proofs.order.Same.{flat-is, bool_code-lt, lt-float_code}
use Rattle.cbor_model.proofs.order.Pairs.{same_key}
use Rattle.cbor_model.proofs.order.HeadOrder.{lex-less, lex-same, lex-front, lex-turned, bytes_less, shorts_less}

-- Whatever follows: p and q compare as a and b, and where they tie, what follows decides alike.
abbrev Alike : List ℕ → List ℕ → List ℕ → List ℕ → Type 0
Alike p q a b = (x y s t : List ℕ) → lex x y ≡ lex s t → lex (p ++ x) (q ++ y) ≡ lex (a ++ s) (b ++ t)

Alike-nil : Alike [] [] [] []
Alike-nil x y s t later = later

Alike-append : (p q a b p' q' a' b' : List ℕ) → Alike p q a b → Alike p' q' a' b' → Alike (p ++ p') (q ++ q') (a ++ a') (b ++ b')
Alike-append p q a b p' q' a' b' first second x y s t later =
    ap₂ lex (append_assoc p p' x) (append_assoc q q' y)
    ∙ first (p' ++ x) (q' ++ y) (a' ++ s) (b' ++ t) (second x y s t later)
    ∙ sym (ap₂ lex (append_assoc a a' s) (append_assoc b b' t))

-- bytes that compare as the numbers in front do, and go on alike where these are equal
Alike-first : (n m : ℕ) (p q a b : List ℕ) → (n < m → (s t : List ℕ) → lex (a ++ s) (b ++ t) ≡ Less) → (m < n → (s t : List ℕ) → lex (b ++ t) (a ++ s) ≡ Less) → (n ≡ m → Alike p q a b) → Alike (n ∷ p) (m ∷ q) a b
Alike-first n m p q a b less more same x y s t later = decided (nat_cmp n m) (ranked n m (nat_cmp n m) refl)
  where
    decided : (o : Ordering) → MatchOrdering o (n < m) (n ≡ m) (m < n) → ordering_then o (lex (p ++ x) (q ++ y)) ≡ lex (a ++ s) (b ++ t)
    decided Less lt = sym (less lt s t)
    decided Equal is = same is x y s t later
    decided Greater gt = sym (lex-turned (a ++ s) (b ++ t) (more gt s t))

-- ---- numbers, as what spells them

-- one byte, which is k more than the number
Alike-byte : (k n m : ℕ) (p q a b : List ℕ) → (n ≡ m → Alike p q a b) → Alike (n ∷ p) (m ∷ q) ((k + n) ∷ a) ((k + m) ∷ b)
Alike-byte k n m p q a b same =
    Alike-first n m p q ((k + n) ∷ a) ((k + m) ∷ b)
    (λ lt s t. lex-less (k + n) (k + m) (a ++ s) (b ++ t) (omega arith))
    (λ gt s t. lex-less (k + m) (k + n) (b ++ t) (a ++ s) (omega arith))
    (λ is x y s t later. same is x y s t later ∙ sym (lex-same (k + n) (k + m) (a ++ s) (b ++ t) (ap (λ (i : ℕ). k + i) is)))

-- what a function spells, with what follows it
Alike-spelled : (f : ℕ → List ℕ) (n m : ℕ) (p q a b : List ℕ) → (n < m → (s t : List ℕ) → lex (f n ++ s) (f m ++ t) ≡ Less) → (m < n → (s t : List ℕ) → lex (f m ++ s) (f n ++ t) ≡ Less)
    → (n ≡ m → Alike p q a b) → Alike (n ∷ p) (m ∷ q) (f n ++ a) (f m ++ b)
Alike-spelled f n m p q a b less more same =
    let apart = λ (i j : ℕ) (c d s t : List ℕ). ap₂ lex (append_assoc (f i) c s) (append_assoc (f j) d t) in
    Alike-first n m p q (f n ++ a) (f m ++ b)
    (λ lt s t. apart n m a b s t ∙ less lt (a ++ s) (b ++ t))
    (λ gt s t. apart m n b a t s ∙ more gt (b ++ t) (a ++ s))
    (λ is x y s t later.
    same is x y s t later ∙ sym (lex-front (f n) (a ++ s) (b ++ t)) ∙ ap (λ (i : ℕ). lex (f n ++ (a ++ s)) (f i ++ (b ++ t))) is ∙ sym (apart n m a b s t))

-- with nothing after it
Alike-bare : (p q a b : List ℕ) → Alike p q (a ++ []) (b ++ []) → Alike p q a b
Alike-bare p q a b alike x y s t later = alike x y s t later ∙ ap₂ (λ (c d : List ℕ). lex (c ++ s) (d ++ t)) (append-nil a) (append-nil b)

-- a shortest head, with what follows it
Alike-short : (major n m : ℕ) (p q a b : List ℕ) → n < 2 ^ 64 → m < 2 ^ 64 → (n ≡ m → Alike p q a b) → Alike (n ∷ p) (m ∷ q) (short major n ++ a) (short major m ++ b)
Alike-short major n m p q a b fits fits' same =
    Alike-spelled (short major) n m p q a b (λ lt s t. shorts_less major n m s t fits fits' lt) (λ gt s t. shorts_less major m n s t fits' fits gt) same

Alike-number : (major n m : ℕ) → n < 2 ^ 64 → m < 2 ^ 64 → Alike (n ∷ []) (m ∷ []) (short major n) (short major m)
Alike-number major n m fits fits' = Alike-bare (n ∷ []) (m ∷ []) (short major n) (short major m)
    (Alike-short major n m [] [] [] [] fits fits' (λ is. Alike-nil))

-- the bytes of a number
Alike-bytes : (k n m : ℕ) → n < 256 ^ k → m < 256 ^ k → Alike (n ∷ []) (m ∷ []) (bytes_high_first k n) (bytes_high_first k m)
Alike-bytes k n m fits fits' =
    let small = mod-eq_of_lt fits in
    let small' = mod-eq_of_lt fits' in
    Alike-bare (n ∷ []) (m ∷ []) (bytes_high_first k n) (bytes_high_first k m)
    (Alike-spelled (bytes_high_first k) n m [] [] [] [] (λ lt s t. bytes_less k n m s t (omega arith)) (λ gt s t. bytes_less k m n s t (omega arith)) (λ is. Alike-nil))

-- a string's elements are its bytes
Alike-string : (b c : List ℕ) → length b ≡ length c → Alike b c b c
Alike-string [] [] same = Alike-nil
Alike-string [] (m ∷ c) same = absurd (omega arith)
Alike-string (n ∷ b) [] same = absurd (omega arith)
Alike-string (n ∷ b) (m ∷ c) same =
    let begun = Alike-byte 0 n m b c b c (λ is. Alike-string b c (omega arith)) in
    rw (zero-add n, zero-add m) at begun

-- ---- simple values and floats

bool_is : (b : Bool) → simple_byte (canonical_bool b) ≡ 224 + bool_code b
bool_is false = refl
bool_is true = refl

abbrev float_bytes : FloatWidth → ℕ → List ℕ
float_bytes half n = bytes_high_first 2 n
float_bytes single n = bytes_high_first 4 n
float_bytes double n = bytes_high_first 8 n

float_is : (w : FloatWidth) (n : ℕ) → float_spelling w n ≡ (224 + float_code w) ∷ float_bytes w n
float_is half n = refl
float_is single n = refl
float_is double n = refl

Alike-bits : (w z : FloatWidth) (n m : ℕ) → n < float_limit w → m < float_limit z → float_code w ≡ float_code z → Alike (n ∷ []) (m ∷ []) (float_bytes w n) (float_bytes z m)
Alike-bits half half n m fits fits' same = Alike-bytes 2 n m fits fits'
Alike-bits single single n m fits fits' same = Alike-bytes 4 n m fits fits'
Alike-bits double double n m fits fits' same = Alike-bytes 8 n m fits fits'
Alike-bits w z n m fits fits' same = absurd (omega arith)

-- ---- the first byte: the major type in its upper bits

record IsOpened (v : Val) : Type 0 where
  low : ℕ
  small : low < 32
  others : List ℕ
  is : canon v ≡ (32 * major_type v + low) ∷ others

low_bits : (n : ℕ) → n < 2 ^ 64 → info (least n) n < 32
low_bits n fits = omega (arith, info-below (least n) n (lt-limit-least n fits))

opened : (v : Val) → IsStorable v → IsInRange v → IsOpened v
unfolding canon canonical spell
opened null stored fits = record { low = 22; small = omega arith; others = []; is = refl }
opened (bool false) stored fits = record { low = 20; small = omega arith; others = []; is = refl }
opened (bool true) stored fits = record { low = 21; small = omega arith; others = []; is = refl }
opened (integer (pos n)) stored fits = record { low = info (least n) n; small = low_bits n stored; others = _; is = refl }
opened (integer (negsuc n)) stored fits = record { low = info (least n) n; small = low_bits n stored; others = _; is = refl }
opened (float half n) stored fits = record { low = 25; small = omega arith; others = _; is = refl }
opened (float single n) stored fits = record { low = 26; small = omega arith; others = _; is = refl }
opened (float double n) stored fits = record { low = 27; small = omega arith; others = _; is = refl }
opened (bytes b) stored fits = record { low = info (least (length b)) (length b); small = low_bits (length b) fits; others = _; is = refl }
opened (text b) stored fits = record { low = info (least (length b)) (length b); small = low_bits (length b) fits; others = _; is = refl }
opened (array vs) stored fits =
    let n = raw.count (canonical_all vs) in
    let few : n < 2 ^ 64 = omega (arith, fits.0, count_canonical vs) in
    record { low = info (least n) n; small = low_bits n few; others = _; is = refl }
opened (map ps) stored fits =
    let n = raw.pair_count (canonical_pairs ps) in
    let few : n < 2 ^ 64 = omega (arith, fits.0, pair_count_canonical ps) in
    record { low = info (least n) n; small = low_bits n few; others = _; is = refl }
opened (tag n v) stored fits = record { low = info (least n) n; small = low_bits n fits.0; others = _; is = refl }

-- values of two major types differ in their first byte
Alike-majors : (a b : Val) → IsOpened a → IsOpened b → (major_type a ≡ major_type b → Alike (body a) (body b) (canon a) (canon b)) → Alike (flat a) (flat b) (canon a) (canon b)
Alike-majors a b one other same =
    let begun = λ (s t : List ℕ). ap₂ (λ (c d : List ℕ). lex (c ++ s) (d ++ t)) one.is other.is in
    let turned = λ (s t : List ℕ). ap₂ (λ (c d : List ℕ). lex (d ++ t) (c ++ s)) one.is other.is in
    rw (flat-is a, flat-is b)
    (Alike-first (major_type a) (major_type b) (body a) (body b) (canon a) (canon b)
    (λ lt s t. begun s t ∙ lex-less (32 * major_type a + one.low) (32 * major_type b + other.low) (one.others ++ s) (other.others ++ t) (omega (arith, one.small)))
    (λ gt s t. turned s t ∙ lex-less (32 * major_type b + other.low) (32 * major_type a + one.low) (other.others ++ t) (one.others ++ s) (omega (arith, other.small)))
    same)

-- ---- values

mutual
  unfolding flat canon canonical spell

  bodies_alike : (a b : Val) → IsStorable a → IsStorable b → IsInRange a → IsInRange b → major_type a ≡ major_type b → Alike (body a) (body b) (canon a) (canon b)
  bodies_alike (integer (pos n)) (integer (pos m)) s t f g e = Alike-number 0 n m s t
  bodies_alike (integer (negsuc n)) (integer (negsuc m)) s t f g e = Alike-number 1 n m s t
  bodies_alike (bytes b) (bytes c) s t f g e = Alike-short 2 (length b) (length c) b c b c f g (Alike-string b c)
  bodies_alike (text b) (text c) s t f g e = Alike-short 3 (length b) (length c) b c b c f g (Alike-string b c)
  bodies_alike (array vs) (array ws) s t f g e =
      rw (count_canonical vs, count_canonical ws) (Alike-short 4 (count vs) (count ws) (flat_all vs) (flat_all ws) (spell_all (canonical_all vs)) (spell_all (canonical_all ws)) f.0 g.0 (all_alike vs ws s t f.1 g.1))
  bodies_alike (map ps) (map qs) s t f g e =
      rw (pair_count_canonical ps, pair_count_canonical qs) (Alike-short 5 (pair_count ps) (pair_count qs) (flat_pairs ps) (flat_pairs qs) (spell_pairs (canonical_pairs ps)) (spell_pairs (canonical_pairs qs)) f.0 g.0 (pairs_alike ps qs s t f.1 g.1))
  bodies_alike (tag n v) (tag m w) s t f g e =
      Alike-short 6 n m (flat v) (flat w) (canon v) (canon w) f.0 g.0 (λ same. Alike-majors v w (opened v s f.1) (opened w t g.1) (bodies_alike v w s t f.1 g.1))
  bodies_alike null null s t f g e = Alike-byte 224 22 22 [] [] [] [] (λ same. Alike-nil)
  bodies_alike null (bool c) s t f g e = rw (bool_is c) (Alike-byte 224 22 (bool_code c) [] [] [] [] (λ same. Alike-nil))
  bodies_alike null (float z m) s t f g e = rw (float_is z m) (Alike-byte 224 22 (float_code z) [] (m ∷ []) [] (float_bytes z m) (λ same. absurd (omega (arith, lt-float_code z))))
  bodies_alike (bool b) null s t f g e = rw (bool_is b) (Alike-byte 224 (bool_code b) 22 [] [] [] [] (λ same. Alike-nil))
  bodies_alike (bool b) (bool c) s t f g e = rw (bool_is b, bool_is c) (Alike-byte 224 (bool_code b) (bool_code c) [] [] [] [] (λ same. Alike-nil))
  bodies_alike (bool b) (float z m) s t f g e =
      rw (bool_is b, float_is z m) (Alike-byte 224 (bool_code b) (float_code z) [] (m ∷ []) [] (float_bytes z m) (λ same. absurd (omega (arith, bool_code-lt b, lt-float_code z))))
  bodies_alike (float w n) null s t f g e = rw (float_is w n) (Alike-byte 224 (float_code w) 22 (n ∷ []) [] (float_bytes w n) [] (λ same. absurd (omega (arith, lt-float_code w))))
  bodies_alike (float w n) (bool c) s t f g e =
      rw (float_is w n, bool_is c) (Alike-byte 224 (float_code w) (bool_code c) (n ∷ []) [] (float_bytes w n) [] (λ same. absurd (omega (arith, bool_code-lt c, lt-float_code w))))
  bodies_alike (float w n) (float z m) s t f g e =
      rw (float_is w n, float_is z m) (Alike-byte 224 (float_code w) (float_code z) (n ∷ []) (m ∷ []) (float_bytes w n) (float_bytes z m) (Alike-bits w z n m f g))
  bodies_alike (integer (pos n)) _ s t f g e = absurd (omega arith)
  bodies_alike (integer (negsuc n)) _ s t f g e = absurd (omega arith)
  bodies_alike _ (integer (pos n)) s t f g e = absurd (omega arith)
  bodies_alike _ (integer (negsuc n)) s t f g e = absurd (omega arith)
  bodies_alike _ _ s t f g e = absurd (omega arith)

  all_alike : (vs ws : Vals) → AreStorable vs → AreStorable ws → AreInRange vs → AreInRange ws → count vs ≡ count ws → Alike (flat_all vs) (flat_all ws) (spell_all (canonical_all vs)) (spell_all (canonical_all ws))
  all_alike no_vals no_vals s t f g e = Alike-nil
  all_alike no_vals (val w ws) s t f g e = absurd (omega arith)
  all_alike (val v vs) no_vals s t f g e = absurd (omega arith)
  all_alike (val v vs) (val w ws) s t f g e =
      Alike-append (flat v) (flat w) (canon v) (canon w) (flat_all vs) (flat_all ws) (spell_all (canonical_all vs)) (spell_all (canonical_all ws))
      (Alike-majors v w (opened v s.0 f.0) (opened w t.0 g.0) (bodies_alike v w s.0 t.0 f.0 g.0))
      (all_alike vs ws s.1 t.1 f.1 g.1 (ap pred e))

  pairs_alike : (ps qs : Pairs) → ArePairsStorable ps → ArePairsStorable qs → ArePairsInRange ps → ArePairsInRange qs → pair_count ps ≡ pair_count qs → Alike (flat_pairs ps) (flat_pairs qs) (spell_pairs (canonical_pairs ps)) (spell_pairs (canonical_pairs qs))
  pairs_alike no_pairs no_pairs s t f g e = Alike-nil
  pairs_alike no_pairs (pair l w qs) s t f g e = absurd (omega arith)
  pairs_alike (pair k v ps) no_pairs s t f g e = absurd (omega arith)
  pairs_alike (pair k v ps) (pair l w qs) s t f g e =
      Alike-append (flat k) (flat l) (canon k) (canon l) (flat v ++ flat_pairs ps) (flat w ++ flat_pairs qs) (canon v ++ spell_pairs (canonical_pairs ps)) (canon w ++ spell_pairs (canonical_pairs qs))
      (Alike-majors k l (opened k s.0 f.0) (opened l t.0 g.0) (bodies_alike k l s.0 t.0 f.0 g.0))
      (Alike-append (flat v) (flat w) (canon v) (canon w) (flat_pairs ps) (flat_pairs qs) (spell_pairs (canonical_pairs ps)) (spell_pairs (canonical_pairs qs))
      (Alike-majors v w (opened v s.1 f.1) (opened w t.1 g.1) (bodies_alike v w s.1 t.1 f.1 g.1))
      (pairs_alike ps qs s.2 t.2 f.2 g.2 (ap pred e)))

-- ---- the laws

pub byte_order : (a b : Val) → IsStorable a → IsStorable b → IsInRange a → IsInRange b → val_cmp a b ≡ lex (canon a) (canon b)
byte_order a b stored stored' fits fits' =
    let alike : Alike (flat a) (flat b) (canon a) (canon b) = Alike-majors a b (opened a stored fits) (opened b stored' fits') (bodies_alike a b stored stored' fits fits') in
    sym (ap₂ lex (append-nil (flat a)) (append-nil (flat b)))
    ∙ alike [] [] [] [] refl
    ∙ ap₂ lex (append-nil (canon a)) (append-nil (canon b))

-- values that are spelled alike compare alike, and so are one
pub equal_bytes : (a b : Val) → IsStorable a → IsStorable b → IsInRange a → IsInRange b → canon a ≡ canon b → a ≡ b
equal_bytes a b stored stored' fits fits' same =
    same_key a b (byte_order a b stored stored' fits fits' ∙ ap (λ (c : List ℕ). lex c (canon b)) same ∙ tied_itself nat_list_cmp_total (canon b))
