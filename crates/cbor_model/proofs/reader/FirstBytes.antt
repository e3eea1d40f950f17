-- The first bytes of spellings.
use Rattle.std.proofs.Common.{◌≡◌, ℕ, ◌+◌, ◌*◌, ◌<◌, ◌≤◌, true, false, eqb, List, [], ◌∷◌, ◌++◌, length, refl, sym, ap, subst, ◌∙◌, arith, Bool, ltb, cond}
use Rattle.std.proofs.lemmas.Bool.{ne_eqb, lt-ltb, le-ltb}
use Rattle.cbor_model.specs.Head.{HeadWidth, limit, info}
use Rattle.cbor_model.specs.Raw as raw
use Rattle.cbor_model.specs.Raw.{definite, indefinite, Raw, Raws, no_raws, RawPairs, no_raw_pairs, raw_pair, Simple, false_item, true_item, null_item, undefined_item, FloatWidth, half, single, double, count, pair_count, IsWellFormed, AreWellFormed, ArePairsWellFormed, EachKey, EachKeyOfAll, EachKeyOfPairs}
use Rattle.cbor_model.specs.Spelling.{spell, simple_byte, float_spelling}
use Rattle.cbor_model.specs.Formats.{Formats, all_formats, may_begin_key, IsAllowedKey, HasAllowedKeys}
use Rattle.cbor_model.proofs.reader.ReaderSteps.{info-below, BeginsWith}

-- the bytes begin with one, which isn't the break
pub record IsBegun (bs : List ℕ) : Type 0 where
  pub first : ℕ
  pub others : List ℕ
  pub is : bs ≡ first ∷ others
  pub no_break : eqb first 0xff ≡ false

pub head-no_break : (major : ℕ) (w : HeadWidth) (n : ℕ) → major ≤ 6 → n < limit w → eqb (32 * major + info w n) 0xff ≡ false
head-no_break major w n at_most fits =
    let below = info-below w n fits in
    ne_eqb (32 * major + info w n) 0xff (λ same. omega arith)

pub head_begun : (major : ℕ) (w : HeadWidth) (n : ℕ) (others : List ℕ) → major ≤ 6 → n < limit w → IsBegun ((32 * major + info w n) ∷ others)
head_begun major w n others at_most fits = record { first = 32 * major + info w n; others = others; is = refl; no_break = head-no_break major w n at_most fits }

simple_begun : (s : Simple) → IsBegun (simple_byte s ∷ [])
simple_begun false_item = record { first = 0xf4; others = []; is = refl; no_break = refl }
simple_begun true_item = record { first = 0xf5; others = []; is = refl; no_break = refl }
simple_begun null_item = record { first = 0xf6; others = []; is = refl; no_break = refl }
simple_begun undefined_item = record { first = 0xf7; others = []; is = refl; no_break = refl }

float_begun : (f : FloatWidth) (n : ℕ) → IsBegun (float_spelling f n)
float_begun half n = record { first = 0xf9; others = _; is = refl; no_break = refl }
float_begun single n = record { first = 0xfa; others = _; is = refl; no_break = refl }
float_begun double n = record { first = 0xfb; others = _; is = refl; no_break = refl }

-- no spelling begins with the break
pub begun : (r : Raw) → IsWellFormed r → IsBegun (spell r)
unfolding spell
begun (raw.unsigned w n) fits = head_begun 0 w n _ (omega arith) fits
begun (raw.negative w n) fits = head_begun 1 w n _ (omega arith) fits
begun (raw.bytes c) fits = head_begun 2 c.width (length c.bytes) _ (omega arith) fits.0
begun (raw.text c) fits = head_begun 3 c.width (length c.bytes) _ (omega arith) fits.0
begun (raw.bytes_chunks cs) fits = record { first = 0x5f; others = _; is = refl; no_break = refl }
begun (raw.text_chunks cs) fits = record { first = 0x7f; others = _; is = refl; no_break = refl }
begun (raw.array (definite w) rs) fits = head_begun 4 w (count rs) _ (omega arith) fits.0
begun (raw.array indefinite rs) fits = record { first = 0x9f; others = _; is = refl; no_break = refl }
begun (raw.map (definite w) ps) fits = head_begun 5 w (pair_count ps) _ (omega arith) fits.0
begun (raw.map indefinite ps) fits = record { first = 0xbf; others = _; is = refl; no_break = refl }
begun (raw.tag w n r) fits = head_begun 6 w n _ (omega arith) fits.0
begun (raw.simple s) fits = simple_begun s
begun (raw.float w bits) fits = float_begun w bits

pub begun-length : (bs : List ℕ) → IsBegun bs → 0 < length bs
begun-length bs starts = omega (arith, ap length starts.is)

-- a spelling at the front of the bytes begins as they do
pub front_begins : (allows : ℕ → Bool) (bs a rest : List ℕ) → IsBegun a → bs ≡ a ++ rest → BeginsWith allows bs → BeginsWith allows a
front_begins allows bs a rest starts parts may =
    let is : bs ≡ starts.first ∷ (starts.others ++ rest) = parts ∙ ap (λ (t : List ℕ). t ++ rest) starts.is in
    let first : allows starts.first ≡ true = subst (BeginsWith allows) is may in
    subst (BeginsWith allows) (sym starts.is) first

-- and the bytes as it does
pub begins_front : (allows : ℕ → Bool) (a rest : List ℕ) → BeginsWith allows a → BeginsWith allows (a ++ rest)
begins_front allows [] rest may = absurd may
begins_front allows (b ∷ a) rest may = may

-- ---- the keys of formats

-- a number's first byte, and a text's
number_first : (f : Formats) (low : ℕ) → low < 28 → may_begin_key f (32 * 0 + low) ≡ f.packed
number_first f low below =
    let small : ltb (32 * 0 + low) 28 ≡ true = lt-ltb _ _ (omega (arith, below)) in
    rw small refl

text_first : (f : Formats) (low : ℕ) → low < 28 → may_begin_key f (32 * 3 + low) ≡ f.named
text_first f low below =
    let a : ltb (32 * 3 + low) 28 ≡ false = le-ltb _ _ (omega arith) in
    let b : ltb (32 * 3 + low) 96 ≡ false = le-ltb _ _ (omega arith) in
    let c : ltb (32 * 3 + low) 124 ≡ true = lt-ltb _ _ (omega (arith, below)) in
    rw (a, b, c) refl

-- that of bytes and negative numbers, and that of arrays, maps and tags
low_first : (f : Formats) (b : ℕ) → 28 ≤ b → b < 96 → may_begin_key f b ≡ true
low_first f b least most =
    let below : ltb b 28 ≡ false = le-ltb b 28 least in
    let under : ltb b 96 ≡ true = lt-ltb b 96 most in
    rw (below, under) refl

high_first : (f : Formats) (b : ℕ) → 128 ≤ b → may_begin_key f b ≡ true
high_first f b least =
    let a : ltb b 28 ≡ false = le-ltb b 28 (omega (arith, least)) in
    let d : ltb b 96 ≡ false = le-ltb b 96 (omega (arith, least)) in
    let e : ltb b 124 ≡ false = le-ltb b 124 (omega (arith, least)) in
    let g : eqb b 127 ≡ false = ne_eqb b 127 (λ same. omega (arith, least)) in
    rw (a, d, e, g) refl

-- the key's first byte decides
module _ (f : Formats) where
  abbrev MayBegin : Raw → Type 0
  MayBegin k = BeginsWith (may_begin_key f) (spell k)

  pub key_begins : (k : Raw) → IsWellFormed k → IsAllowedKey f k → MayBegin k
  unfolding spell
  key_begins (raw.unsigned w n) fits may = number_first f (info w n) (info-below w n fits) ∙ may
  key_begins (raw.text c) fits may = text_first f (info c.width (length c.bytes)) (info-below c.width (length c.bytes) fits.0) ∙ may
  key_begins (raw.text_chunks cs) fits may = may
  key_begins (raw.negative w n) fits may = low_first f (32 * 1 + info w n) (omega arith) (omega (arith, info-below w n fits))
  key_begins (raw.bytes c) fits may =
      let n = length c.bytes in
      low_first f (32 * 2 + info c.width n) (omega arith) (omega (arith, info-below c.width n fits.0))
  key_begins (raw.bytes_chunks cs) fits may = refl
  key_begins (raw.array (definite w) rs) fits may = high_first f (32 * 4 + info w (count rs)) (omega arith)
  key_begins (raw.array indefinite rs) fits may = refl
  key_begins (raw.map (definite w) ps) fits may = high_first f (32 * 5 + info w (pair_count ps)) (omega arith)
  key_begins (raw.map indefinite ps) fits may = refl
  key_begins (raw.tag w n r) fits may = high_first f (32 * 6 + info w n) (omega arith)
  key_begins (raw.simple false_item) fits may = refl
  key_begins (raw.simple true_item) fits may = refl
  key_begins (raw.simple null_item) fits may = refl
  key_begins (raw.simple undefined_item) fits may = refl
  key_begins (raw.float half bits) fits may = refl
  key_begins (raw.float single bits) fits may = refl
  key_begins (raw.float double bits) fits may = refl

  pub begun_allows : (k : Raw) → IsWellFormed k → MayBegin k → IsAllowedKey f k
  unfolding spell
  begun_allows (raw.unsigned w n) fits may = sym (number_first f (info w n) (info-below w n fits)) ∙ may
  begun_allows (raw.text c) fits may = sym (text_first f (info c.width (length c.bytes)) (info-below c.width (length c.bytes) fits.0)) ∙ may
  begun_allows (raw.text_chunks cs) fits may = may
  begun_allows _ fits may = tt

-- ---- each key

module _ (P Q : Raw → Type 0) (weaker : (k : Raw) → IsWellFormed k → P k → Q k) where
  mutual
    pub EachKey-map : (r : Raw) → IsWellFormed r → EachKey P r → EachKey Q r
    EachKey-map (raw.array l rs) fits keys = EachKeyOfAll-map rs fits.1 keys
    EachKey-map (raw.map l ps) fits keys = EachKeyOfPairs-map ps fits.1 keys
    EachKey-map (raw.tag w n r) fits keys = EachKey-map r fits.1 keys
    EachKey-map _ fits keys = tt

    EachKeyOfAll-map : (rs : Raws) → AreWellFormed rs → EachKeyOfAll P rs → EachKeyOfAll Q rs
    EachKeyOfAll-map no_raws fits keys = tt
    EachKeyOfAll-map (raw.raw r rs) fits keys = (EachKey-map r fits.0 keys.0, EachKeyOfAll-map rs fits.1 keys.1)

    EachKeyOfPairs-map : (ps : RawPairs) → ArePairsWellFormed ps → EachKeyOfPairs P ps → EachKeyOfPairs Q ps
    EachKeyOfPairs-map no_raw_pairs fits keys = tt
    EachKeyOfPairs-map (raw_pair k v ps) fits keys = (weaker k fits.0 keys.0, EachKey-map k fits.0 keys.1, EachKey-map v fits.1 keys.2, EachKeyOfPairs-map ps fits.2 keys.3)

module _ (P : Raw → Type 0) (each : (k : Raw) → P k) where
  mutual
    pub EachKey-from_each : (r : Raw) → EachKey P r
    EachKey-from_each (raw.array l rs) = EachKeyOfAll-from_each rs
    EachKey-from_each (raw.map l ps) = EachKeyOfPairs-from_each ps
    EachKey-from_each (raw.tag w n r) = EachKey-from_each r
    EachKey-from_each _ = tt

    EachKeyOfAll-from_each : (rs : Raws) → EachKeyOfAll P rs
    EachKeyOfAll-from_each no_raws = tt
    EachKeyOfAll-from_each (raw.raw r rs) = (EachKey-from_each r, EachKeyOfAll-from_each rs)

    EachKeyOfPairs-from_each : (ps : RawPairs) → EachKeyOfPairs P ps
    EachKeyOfPairs-from_each no_raw_pairs = tt
    EachKeyOfPairs-from_each (raw_pair k v ps) = (each k, EachKey-from_each k, EachKey-from_each v, EachKeyOfPairs-from_each ps)

-- where all formats are read, each key is of one
allowed_in_all : (k : Raw) → IsAllowedKey all_formats k
allowed_in_all (raw.text c) = refl
allowed_in_all (raw.text_chunks cs) = refl
allowed_in_all (raw.unsigned w n) = refl
allowed_in_all _ = tt

pub all_allowed : (r : Raw) → HasAllowedKeys all_formats r
all_allowed = EachKey-from_each (IsAllowedKey all_formats) allowed_in_all

-- and each first byte may begin a key
pub all_may_begin : (b : ℕ) → may_begin_key all_formats b ≡ true
all_may_begin b = each (ltb b 28) (ltb b 96) (ltb b 124) (eqb b 127)
  where
    each : (p q r s : Bool) → cond p true (cond q true (cond r true (cond s true true))) ≡ true
    each true q r s = refl
    each false true r s = refl
    each false false true s = refl
    each false false false true = refl
    each false false false false = refl
