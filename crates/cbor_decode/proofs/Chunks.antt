-- Reading the chunks of a string one after the other, as a loop does.
use Rattle.std.proofs.Common.{◌≡◌, ℕ, suc, ◌+◌, ◌≤◌, Bool, false, eqb, List, [], ◌∷◌, ◌++◌, length, Ok, Err, Result, refl, sym, ap, ap₂, ◌∙◌, append_assoc, length-append, arith}
use Rattle.std.proofs.lemmas.Bool.{ne_eqb}
use Rattle.std.proofs.lemmas.List.{append-nil}
use Rattle.cbor_model.specs.Raw.{Chunk, joined}
use Rattle.cbor_model.specs.Reader.{Fault, Reads, ◌>>=◌, ended, byte_at, chunk_at, chunks_by, chunks_at}
use Rattle.cbor_model.proofs.facts.Reader.{ok_is, chunk_taken, chunks_by-fuel}
use Rattle.cbor_decode.specs.Strings.{content}

-- the bytes so far, and those of the chunks that are still read
abbrev pub with_bytes : List ℕ → Reads (List Chunk) → Reads (List ℕ)
with_bytes front read = read >>= (λ cs. Ok (front ++ joined cs.0, cs.1))

-- a byte was taken
byte_is : (bs after : List ℕ) (b : ℕ) → byte_at bs ≡ Ok (b, after) → bs ≡ b ∷ after
unfolding byte_at
byte_is [] after b e = absurd cc
byte_is (x ∷ bs) after b e =
    let same = ok_is (x, bs) (b, after) e in
    ap₂ (λ (n : ℕ) (l : List ℕ). n ∷ l) (ap (λ (p : ℕ × List ℕ). p.0) same) (ap (λ (p : ℕ × List ℕ). p.1) same)

-- a chunk of these bytes was read
record HasContent (read : Reads Chunk) (some after : List ℕ) : Type 0 where
  chunk : Chunk
  is : read ≡ Ok (chunk, after)
  bytes : chunk.bytes ≡ some

has_content : (read : Reads Chunk) (some after : List ℕ) → content read ≡ Ok (some, after) → HasContent read some after
has_content (Ok x) some after e =
    let same = ok_is (x.0.bytes, x.1) (some, after) e in
    record { chunk = x.0; is = ap (λ (bs : List ℕ). Ok (x.0, bs)) (ap (λ (p : List ℕ × List ℕ). p.1) same); bytes = ap (λ (p : List ℕ × List ℕ). p.0) same }
has_content (Err f) some after e = absurd cc

abbrev failed : {A : Type 0} → Fault → Result A Fault
failed f = Err f

err_is : {A : Type 0} (c d : Fault) → failed {A = A} c ≡ Err d → c ≡ d
err_is c d e = cc

module _ (exceeds : ℕ → Bool) (major : ℕ) where
  chunks_next : (have b : ℕ) (bs : List ℕ) → eqb b 0xff ≡ false → chunks_at exceeds have major (b ∷ bs) ≡ (chunk_at (λ n. exceeds (have + n)) major b bs >>= (λ c. chunks_by exceeds (have + length c.0.bytes) major (suc (length bs)) c.1 >>= (λ cs. Ok (c.0 ∷ cs.0, cs.1))))
  unfolding chunks_by byte_at
  chunks_next have b bs other = rw other refl

  regroup : (front : List ℕ) (c : Chunk) (read : Reads (List Chunk)) → with_bytes front (read >>= (λ cs. Ok (c ∷ cs.0, cs.1))) ≡ with_bytes (front ++ c.bytes) read
  regroup front c (Ok cs) = ap (λ (l : List ℕ). Ok (l, cs.1)) (sym (append_assoc front c.bytes (joined cs.0)))
  regroup front c (Err f) = refl

  -- the bytes so far are those in the buffer
  abbrev pub BytesSoFar : List ℕ → List ℕ → List ℕ → Type 0
  BytesSoFar front bs rest = with_bytes front (chunks_at exceeds (length front) major rest) ≡ with_bytes [] (chunks_at exceeds 0 major bs)

  pub break_ends : (front bs rest after : List ℕ) → byte_at rest ≡ Ok (0xff, after) → BytesSoFar front bs rest → with_bytes [] (chunks_at exceeds 0 major bs) ≡ Ok (front, after)
  unfolding chunks_by byte_at
  break_ends front bs rest after read so_far =
      let is = byte_is rest after 0xff read in
      let one : with_bytes front (chunks_at exceeds (length front) major rest) ≡ Ok (front, after) = ap (λ bs. with_bytes front (chunks_at exceeds (length front) major bs)) is ∙ ap (λ (l : List ℕ). Ok (l, after)) (append-nil front) in
      sym so_far ∙ one

  pub chunk_goes_on : (front some bs rest mid after : List ℕ) (b : ℕ) → (b ≡ 0xff → ⊥) → byte_at rest ≡ Ok (b, mid) → content (chunk_at (λ n. exceeds (length front + n)) major b mid) ≡ Ok (some, after) → BytesSoFar front bs rest → BytesSoFar (front ++ some) bs after
  chunk_goes_on front some bs rest mid after b other first second so_far =
      let ex = λ (n : ℕ). exceeds (length front + n) in
      let is = byte_is rest mid b first in
      let got = has_content (chunk_at ex major b mid) some after second in
      let c = got.chunk in
      let have = length front + length c.bytes in
      let shorter : length after ≤ length mid = chunk_taken ex major b mid (c, after) got.is in
      let fuel = chunks_by-fuel exceeds have major (suc (length mid)) (suc (length after)) after (omega arith) (omega arith) in
      let one : chunks_at exceeds (length front) major rest ≡ (chunks_by exceeds have major (suc (length mid)) after >>= (λ cs. Ok (c ∷ cs.0, cs.1))) = ap (chunks_at exceeds (length front) major) is ∙ chunks_next (length front) b mid (ne_eqb b 0xff other) ∙ ap (λ (r : Reads Chunk). r >>= (λ c. chunks_by exceeds (length front + length c.0.bytes) major (suc (length mid)) c.1 >>= (λ cs. Ok (c.0 ∷ cs.0, cs.1)))) got.is in
      let long : have ≡ length (front ++ c.bytes) = omega (arith, length-append front c.bytes) in
      let moved : with_bytes front (chunks_at exceeds (length front) major rest) ≡ with_bytes (front ++ c.bytes) (chunks_at exceeds (length (front ++ c.bytes)) major after) =
      ap (with_bytes front) one ∙ regroup front c (chunks_by exceeds have major (suc (length mid)) after) ∙ ap (with_bytes (front ++ c.bytes)) (fuel ∙ ap (λ (n : ℕ). chunks_at exceeds n major after) long) in
      ap (λ (b : List ℕ). with_bytes (front ++ b) (chunks_at exceeds (length (front ++ b)) major after)) (sym got.bytes) ∙ sym moved ∙ so_far

  pub byte_faulted : (front bs rest : List ℕ) (f : Fault) → byte_at rest ≡ Err f → BytesSoFar front bs rest → with_bytes [] (chunks_at exceeds 0 major bs) ≡ Err f
  unfolding chunks_by byte_at
  byte_faulted front bs [] f read so_far = sym so_far ∙ ap (λ (g : Fault). Err g) (err_is ended f read)
  byte_faulted front bs (b ∷ rest) f read so_far = absurd cc

  pub chunk_faulted : (front bs rest mid : List ℕ) (b : ℕ) (f : Fault) → (b ≡ 0xff → ⊥) → byte_at rest ≡ Ok (b, mid) → chunk_at (λ n. exceeds (length front + n)) major b mid ≡ Err f → BytesSoFar front bs rest → with_bytes [] (chunks_at exceeds 0 major bs) ≡ Err f
  chunk_faulted front bs rest mid b f other first second so_far =
      let is = byte_is rest mid b first in
      let one : chunks_at exceeds (length front) major rest ≡ Err f = ap (chunks_at exceeds (length front) major) is ∙ chunks_next (length front) b mid (ne_eqb b 0xff other) ∙ ap (λ (r : Reads Chunk). r >>= (λ c. chunks_by exceeds (length front + length c.0.bytes) major (suc (length mid)) c.1 >>= (λ cs. Ok (c.0 ∷ cs.0, cs.1)))) second in
      sym so_far ∙ rw one refl
