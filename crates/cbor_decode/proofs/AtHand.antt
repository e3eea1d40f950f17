-- Floats that are whole at hand: of 32 bits (250), and of 64 (251).
use Rattle.std.proofs.Common.{◌≡◌, ◌∙◌, ◌+◌, ◌-◌, ℕ, suc, List, [], ◌∷◌, ◌++◌, length, take, drop, Some, Ok, slice_get, refl, sym, ap, subst, arith}
use Rattle.std.proofs.lemmas.List.{length-take-le, take_all}
use Rattle.std.specs.Array.{IsFirstChunk}
use Rattle.std.specs.Int.{Width, w32, w64, byte_len, from_be_bytes}
use Rattle.cbor_model.specs.Head.{HeadWidth, no_bytes}
use Rattle.cbor_model.specs.Reader.{◌>>=◌, byte_at, number_at}
use Rattle.cbor_value.specs.declared.Float.TheVariants.{Single, Double}
use Rattle.cbor_read.specs.Source.{Input, TookKept}
use Rattle.cbor_decode.specs.Gives.{Step}
use Rattle.cbor_decode.specs.Heads.{head_at, opening_at, simple_head}
use Rattle.cbor_decode.specs.declared.head.Head.{Head}
use Rattle.cbor_decode.specs.declared.head.Head.TheVariants.{Float}
use Rattle.cbor_decode.proofs.Heads.{first_simple}
use Rattle.cbor_decode.proofs.Steps.{kept_step, step_map}
use Rattle.cbor_decode.proofs.WholeHeads.{number_front}

-- a number of this width follows the byte, which says what it is
abbrev Begins : ℕ → Width → (ℕ → Head) → Type 0
Begins first w says = (bs : List ℕ) → head_at first bs ≡ (number_at w bs >>= (λ n. Ok ((no_bytes, says n.0), n.1)))

pub single_begins : Begins 250 w32 (λ bits. Float (Single bits))
unfolding simple_head
single_begins bs = first_simple 250 bs refl ∙ refl

pub double_begins : Begins 251 w64 (λ bits. Float (Double bits))
unfolding simple_head
double_begins bs = first_simple 251 bs refl ∙ refl

some_is : (a b : ℕ) → Some a ≡ Some b → a ≡ b
some_is a b e = cc

-- the byte and the number were at hand, and taken
pub float_step : (first : ℕ) (w : Width) (says : ℕ → Head) → Begins first w says → (s t : Input) (hand bytes : List ℕ) (n : ℕ) → slice_get hand 0 ≡ Some first
    → IsFirstChunk (take (length hand - 1) (drop 1 hand)) bytes (byte_len w) → n ≡ from_be_bytes w bytes → TookKept s t (take (1 + byte_len w) hand)
    → Step s t (λ l bs rest. (v : HeadWidth) × (opening_at bs ≡ Ok ((v, says n), rest)))
unfolding byte_at
float_step first w says begins s t [] bytes n at chunk number took = absurd cc
float_step first w says begins s t (x ∷ xs) bytes n at chunk number took =
    let k = byte_len w in
    let all : take (length (x ∷ xs) - 1) xs ≡ xs = take_all (length (x ∷ xs) - 1) xs (omega arith) in
    let behind : IsFirstChunk xs bytes k = subst (λ (ys : List ℕ). IsFirstChunk ys bytes k) all chunk in
    let len : length bytes ≡ k = ap length behind.same ∙ length-take-le k xs behind.enough in
    let one : 1 + k ≡ suc k = omega arith in
    let taken : TookKept s t (first ∷ take k xs) = subst (λ (b : ℕ). TookKept s t (b ∷ take k xs)) (some_is x first at) (subst (λ (m : ℕ). TookKept s t (take m (x ∷ xs))) one took) in
    let read : (rest : List ℕ) → number_at w (take k xs ++ rest) ≡ Ok (n, rest) = λ rest. rw (sym behind.same, number) (number_front w bytes rest len) in
    step_map s t (λ l bs rest. bs ≡ (first ∷ take k xs) ++ rest) (λ l bs rest. (v : HeadWidth) × (opening_at bs ≡ Ok ((v, says n), rest)))
    (λ l bs rest front. (no_bytes, rw (front, begins (take k xs ++ rest), read rest) refl)) (kept_step s t (first ∷ take k xs) taken)
