-- A spelling consists of bytes.
use Rattle.std.proofs.Common.{ℕ, zero, suc, ◌+◌, ◌*◌, ◌<◌, ◌≤◌, List, [], ◌∷◌, ◌++◌, length, arith}
use Rattle.std.specs.Prelude.{flat_map}
use Rattle.std.specs.List.{AllByRecursion}
use Rattle.std.specs.Int.{byte_at, bytes_high_first}
use Rattle.cbor_model.specs.Head.{HeadWidth, no_bytes, one_byte, two_bytes, four_bytes, eight_bytes}
use Rattle.cbor_model.specs.Head.{limit, behind, head}
use Rattle.cbor_model.specs.Raw as raw
use Rattle.cbor_model.specs.Raw.{Length, definite, indefinite, Raw, Raws, no_raws, RawPairs}
use Rattle.cbor_model.specs.Raw.{no_raw_pairs, raw_pair, Chunk, false_item, true_item, null_item}
use Rattle.cbor_model.specs.Raw.{undefined_item, half, single, double, AreBytes, IsChunk}
use Rattle.cbor_model.specs.Raw.{FitsLength, IsWellFormed, AreWellFormed, ArePairsWellFormed, count}
use Rattle.cbor_model.specs.Raw.{pair_count}
use Rattle.cbor_model.specs.Spelling.{spell, spell_all, spell_pairs, chunk, simple_byte}
use Rattle.cbor_model.specs.Spelling.{float_spelling, break, enclosed}
use Rattle.cbor_model.proofs.reader.ReaderSteps.{info-below}

bytes_cons : (b : ℕ) (bs : List ℕ) → b < 256 → AreBytes bs → AreBytes (b ∷ bs)
bytes_cons b bs fits others zero = fits
bytes_cons b bs fits others (suc i) = others i

bytes_none : AreBytes []
bytes_none i = omega arith

pub AreBytes-append : (a b : List ℕ) → AreBytes a → AreBytes b → AreBytes (a ++ b)
AreBytes-append [] b fits others i = others i
AreBytes-append (x ∷ a) b fits others zero = fits 0
AreBytes-append (x ∷ a) b fits others (suc i) = AreBytes-append a b (λ j. fits (suc j)) others i

-- ---- heads

byte_small : (k n : ℕ) → byte_at k n < 256
byte_small zero n = omega arith
byte_small (suc k) n = omega arith

number_bytes : (k n : ℕ) → AreBytes (bytes_high_first k n)
number_bytes zero n = bytes_none
number_bytes (suc k) n = bytes_cons _ _ (byte_small k n) (number_bytes k n)

behind_bytes : (w : HeadWidth) (n : ℕ) → AreBytes (behind w n)
behind_bytes no_bytes n = bytes_none
behind_bytes one_byte n = number_bytes 1 n
behind_bytes two_bytes n = number_bytes 2 n
behind_bytes four_bytes n = number_bytes 4 n
behind_bytes eight_bytes n = number_bytes 8 n

head_bytes : (major : ℕ) (w : HeadWidth) (n : ℕ) → major ≤ 6 → n < limit w
    → AreBytes (head major w n)
head_bytes major w n at_most fits =
    bytes_cons _ _ (omega (arith, info-below w n fits)) (behind_bytes w n)

-- ---- items

break_bytes : AreBytes break
break_bytes = bytes_cons 0xff [] (omega arith) bytes_none

chunk_bytes : (major : ℕ) (c : Chunk) → major ≤ 6 → IsChunk c → AreBytes (chunk major c)
chunk_bytes major c at_most fits =
    let w = c.width in
    let n = length c.bytes in
    AreBytes-append (head major w n) c.bytes (head_bytes major w n at_most fits.0) fits.1

chunks_bytes : (major : ℕ) (cs : List Chunk) → major ≤ 6 → AllByRecursion IsChunk cs
    → AreBytes (flat_map (chunk major) cs)
chunks_bytes major [] at_most fits = bytes_none
chunks_bytes major (c ∷ cs) at_most fits =
    AreBytes-append (chunk major c) (flat_map (chunk major) cs)
    (chunk_bytes major c at_most fits.0)
    (chunks_bytes major cs at_most fits.1)

-- what stands between a first byte and the break
enclosed_by_break : (first : ℕ) (items : List ℕ) → first < 256 → AreBytes items
    → AreBytes (first ∷ (items ++ break))
enclosed_by_break first items small fits =
    bytes_cons first (items ++ break) small (AreBytes-append items break fits break_bytes)

enclosed_bytes : (major : ℕ) (l : Length) (n : ℕ) (items : List ℕ) → major ≤ 6 → FitsLength n l
    → AreBytes items → AreBytes (enclosed major l n items)
enclosed_bytes major (definite w) n items at_most counted fits =
    AreBytes-append (head major w n) items (head_bytes major w n at_most counted) fits
enclosed_bytes major indefinite n items at_most counted fits =
    enclosed_by_break (32 * major + 31) items (omega arith) fits

simple_bytes : (s : raw.Simple) → AreBytes (simple_byte s ∷ [])
simple_bytes false_item = bytes_cons 0xf4 [] (omega arith) bytes_none
simple_bytes true_item = bytes_cons 0xf5 [] (omega arith) bytes_none
simple_bytes null_item = bytes_cons 0xf6 [] (omega arith) bytes_none
simple_bytes undefined_item = bytes_cons 0xf7 [] (omega arith) bytes_none

float_bytes : (f : raw.FloatWidth) (bits : ℕ) → AreBytes (float_spelling f bits)
float_bytes half bits =
    bytes_cons 0xf9 (bytes_high_first 2 bits) (omega arith) (number_bytes 2 bits)
float_bytes single bits =
    bytes_cons 0xfa (bytes_high_first 4 bits) (omega arith) (number_bytes 4 bits)
float_bytes double bits =
    bytes_cons 0xfb (bytes_high_first 8 bits) (omega arith) (number_bytes 8 bits)

mutual
  unfolding spell

  pub spelled_bytes : (r : Raw) → IsWellFormed r → AreBytes (spell r)
  spelled_bytes (raw.unsigned w n) fits = head_bytes 0 w n (omega arith) fits
  spelled_bytes (raw.negative w n) fits = head_bytes 1 w n (omega arith) fits
  spelled_bytes (raw.bytes c) fits = chunk_bytes 2 c (omega arith) fits
  spelled_bytes (raw.text c) fits = chunk_bytes 3 c (omega arith) fits
  spelled_bytes (raw.bytes_chunks cs) fits =
      let parts = chunks_bytes 2 cs (omega arith) fits in
      enclosed_by_break 0x5f (flat_map (chunk 2) cs) (omega arith) parts
  spelled_bytes (raw.text_chunks cs) fits =
      let parts = chunks_bytes 3 cs (omega arith) fits in
      enclosed_by_break 0x7f (flat_map (chunk 3) cs) (omega arith) parts
  spelled_bytes (raw.array l rs) fits =
      enclosed_bytes 4 l (count rs) (spell_all rs) (omega arith) fits.0 (all_bytes rs fits.1)
  spelled_bytes (raw.map l ps) fits =
      let pairs = pairs_bytes ps fits.1 in
      enclosed_bytes 5 l (pair_count ps) (spell_pairs ps) (omega arith) fits.0 pairs
  spelled_bytes (raw.tag w n r) fits =
      let front = head_bytes 6 w n (omega arith) fits.0 in
      AreBytes-append (head 6 w n) (spell r) front (spelled_bytes r fits.1)
  spelled_bytes (raw.simple s) fits = simple_bytes s
  spelled_bytes (raw.float w bits) fits = float_bytes w bits

  all_bytes : (rs : Raws) → AreWellFormed rs → AreBytes (spell_all rs)
  all_bytes no_raws fits = bytes_none
  all_bytes (raw.raw r rs) fits =
      AreBytes-append (spell r) (spell_all rs) (spelled_bytes r fits.0) (all_bytes rs fits.1)

  pairs_bytes : (ps : RawPairs) → ArePairsWellFormed ps → AreBytes (spell_pairs ps)
  pairs_bytes no_raw_pairs fits = bytes_none
  pairs_bytes (raw_pair k v ps) fits =
      let key = spelled_bytes k fits.0 in
      let val = spelled_bytes v fits.1 in
      let others = pairs_bytes ps fits.2 in
      AreBytes-append (spell k) (spell v ++ spell_pairs ps) key
      (AreBytes-append (spell v) (spell_pairs ps) val others)
