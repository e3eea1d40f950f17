-- Steps of going through the chunks of a string.
use Rattle.std.proofs.Common.{◌≡◌, ◌∙◌, ℕ, suc, ◌+◌, ◌-◌, ◌<◌, ◌≤◌, ◌%◌, List, ◌∷◌, length, drop, Ok, Err, Result, refl, sym, ap, subst, arith}
use Rattle.std.proofs.lemmas.Bool.{ne_eqb}
use Rattle.cbor_rules.specs.Walk as model
use Rattle.cbor_rules.specs.Walk.{Sought, chunk_content, chunk_walk, chunks_walk}
use Rattle.cbor_rules.specs.Walks.{last, walk_view, chunk_view, IsChunkWithin, IsWithin}
use Rattle.cbor_rules.specs.declared.walk.Walk.{Walk}
use Rattle.cbor_rules.proofs.Walking.{last-last, view-last}

-- ---- the first byte of a chunk

behind_first : (b : ℕ) (rest : List ℕ) → rest ≡ last (length rest) (b ∷ rest)
behind_first b rest = let one : suc (length rest) - length rest ≡ 1 = omega arith in sym (ap (λ (n : ℕ). drop n (b ∷ rest)) one)

view_first : (b : ℕ) (rest : List ℕ) (go : ℕ → List ℕ → model.Walk) (sum : ℕ) (r : Result (ℕ × ℕ) Walk) → IsChunkWithin sum (length rest) r → chunk_view go rest r ≡ chunk_view go (b ∷ rest) r
view_first b rest go sum (Ok r) within = ap (go r.0) (ap (last r.1) (behind_first b rest) ∙ last-last r.1 (length rest) (b ∷ rest) within.1 (omega arith))
view_first b rest go sum (Err w) within =
    ap (λ (t : List ℕ). walk_view t w) (behind_first b rest) ∙ view-last (length rest) (b ∷ rest) w (omega arith) (subst (λ (t : List ℕ). IsWithin (length t) w) (behind_first b rest) within.0)

pub on_chunk : (sought : Sought) (major sum b : ℕ) (bs rest : List ℕ) (go : ℕ → List ℕ → model.Walk) (r : Result (ℕ × ℕ) Walk) → bs ≡ b ∷ rest → (b ≡ 255 → ⊥) → IsChunkWithin sum (length rest) r
    → chunk_content sought major (b % 32) sum go rest ≡ chunk_view go rest r → chunk_walk sought major sum go bs ≡ chunk_view go bs r
on_chunk sought major sum b bs rest go r is other within walks =
    let none = ne_eqb b 255 other in
    let begins : chunk_walk sought major sum go (b ∷ rest) ≡ chunk_content sought major (b % 32) sum go rest = rw none refl in
    ap (chunk_walk sought major sum go) is ∙ begins ∙ walks ∙ view_first b rest go sum r within ∙ ap (λ (t : List ℕ). chunk_view go t r) (sym is)

-- ---- chunks

one_less : (n i : ℕ) → i < n → n - i ≡ suc (n - (i + 1))
one_less n i lt = omega (arith, lt)

module _ (sought : Sought) (major n i : ℕ) (lt : i < n) (sum : ℕ) (rest : List ℕ) where
  pub chunks_begin : chunks_walk sought major (n - i) sum rest ≡ chunk_walk sought major sum (chunks_walk sought major (n - (i + 1))) rest
  unfolding chunks_walk
  chunks_begin = rw (one_less n i lt) refl

pub chunks_end : (sought : Sought) (major n i sum : ℕ) (rest : List ℕ) → n ≤ i → chunks_walk sought major (n - i) sum rest ≡ model.stopped
unfolding chunks_walk
chunks_end sought major n i sum rest le = let none : n - i ≡ 0 = omega (arith, le) in ap (λ (k : ℕ). chunks_walk sought major k sum rest) none
