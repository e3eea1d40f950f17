-- Heads that are whole at hand: of numbers with their argument, and of bools.
use Rattle.std.proofs.Common.{◌≡◌, ◌∙◌, ◌≤◌, ◌+◌, ◌-◌, ◌/◌, ◌%◌, ℕ, suc, Bool, true, false, List, [], ◌∷◌, ◌++◌, length, take, drop, slice_get, Some, Ok, refl, sym, ap, subst, arith}
use Rattle.std.proofs.lemmas.Bool.{le-ltb}
use Rattle.std.proofs.lemmas.List.{length-append, length-take-le, take_all}
use Rattle.std.proofs.Math.Seq.{take-append_seam, drop-append_seam}
use Rattle.std.specs.Array.{IsFirstChunk}
use Rattle.std.specs.Int.{Width, w8, w16, w32, w64, byte_len, from_be_bytes}
use Rattle.cbor_model.specs.Head.{HeadWidth, no_bytes}
use Rattle.cbor_model.specs.Reader.{byte_at, number_at, number_behind}
use Rattle.cbor_io.specs.declared.head.Major.{Major}
use Rattle.cbor_io.specs.declared.head.Major.TheVariants.{Simple}
use Rattle.cbor_io.specs.Head.{major_number}
use Rattle.cbor_read.specs.Source.{Input, TookKept}
use Rattle.cbor_decode.specs.Gives.{Step}
use Rattle.cbor_decode.specs.Heads.{opening_at, head_at, simple_head}
use Rattle.cbor_decode.specs.declared.head.Head.TheVariants.{Bool as Boolean}
use Rattle.cbor_decode.proofs.SourceCalls.{hand_step}
use Rattle.cbor_decode.proofs.Heads.{definite_head, first_is, first_simple}
use Rattle.cbor_decode.proofs.Steps.{kept_step, step_map}

-- ---- arguments

module _ (low : ℕ) (bs : List ℕ) where
  pub at_24 : low ≡ 24 → number_behind low bs ≡ number_at w8 bs
  unfolding number_behind
  at_24 is = rw is refl

  pub at_25 : low ≡ 25 → number_behind low bs ≡ number_at w16 bs
  unfolding number_behind
  at_25 is = rw is refl

  pub at_26 : low ≡ 26 → number_behind low bs ≡ number_at w32 bs
  unfolding number_behind
  at_26 is = rw is refl

  pub at_27 : low ≡ 27 → number_behind low bs ≡ number_at w64 bs
  unfolding number_behind
  at_27 is = rw is refl

pub number_front : (w : Width) (p rest : List ℕ) → length p ≡ byte_len w → number_at w (p ++ rest) ≡ Ok (from_be_bytes w p, rest)
number_front w p rest len =
    let enough : byte_len w ≤ length (p ++ rest) = omega (arith, len, length-append p rest) in
    rw (le-ltb (length (p ++ rest)) (byte_len w) enough, sym len, take-append_seam p rest, drop-append_seam p rest) refl

-- an argument of this width in front of other bytes
pub argument_front : (w : Width) (low n : ℕ) (behind bytes : List ℕ) → ((bs : List ℕ) → number_behind low bs ≡ number_at w bs) → IsFirstChunk behind bytes (byte_len w) → n ≡ from_be_bytes w bytes
    → (rest : List ℕ) → number_behind low (take (byte_len w) behind ++ rest) ≡ Ok (n, rest)
argument_front w low n behind bytes is chunk number rest =
    let len : length bytes ≡ byte_len w = ap length chunk.same ∙ length-take-le (byte_len w) behind chunk.enough in
    is (take (byte_len w) behind ++ rest) ∙ rw (sym chunk.same, number) (number_front w bytes rest len)

-- ---- heads

-- a head of this major type, whose argument is in the bytes at hand, was taken
pub whole_step : (s t : Input) (hand : List ℕ) (first n k : ℕ) (major : Major) → (major ≡ Simple → ⊥) → (first % 32 ≡ 31 → ⊥) → major_number major ≡ first / 32 → slice_get hand 0 ≡ Some first
    → ((rest : List ℕ) → number_behind (first % 32) (take k (take (length hand - 1) (drop 1 hand)) ++ rest) ≡ Ok (n, rest)) → TookKept s t (take (1 + k) hand)
    → Step s t (λ l bs rest. (w : HeadWidth) × (opening_at bs ≡ Ok ((w, definite_head major n), rest)))
unfolding byte_at
whole_step s t [] first n k major other short is at number took = absurd cc
whole_step s t (x ∷ xs) first n k major other short is at number took =
    let all : take (length (x ∷ xs) - 1) xs ≡ xs = take_all (length (x ∷ xs) - 1) xs (omega arith) in
    let same : x ≡ first = some_is x first at in
    let one : 1 + k ≡ suc k = omega arith in
    let taken : TookKept s t (first ∷ take k xs) = subst (λ (b : ℕ). TookKept s t (b ∷ take k xs)) same (subst (λ (m : ℕ). TookKept s t (take m (x ∷ xs))) one took) in
    let head : (rest : List ℕ) → (w : HeadWidth) × (head_at first (take k xs ++ rest) ≡ Ok ((w, definite_head major n), rest)) =
    λ rest. first_is first (take k xs ++ rest) rest n major other short is (subst (λ (ys : List ℕ). number_behind (first % 32) (take k ys ++ rest) ≡ Ok (n, rest)) all (number rest)) in
    step_map s t (λ l bs rest. bs ≡ (first ∷ take k xs) ++ rest) (λ l bs rest. (w : HeadWidth) × (opening_at bs ≡ Ok ((w, definite_head major n), rest)))
    (λ l bs rest front. ((head rest).0, rw front (head rest).1)) (kept_step s t (first ∷ take k xs) taken)
  where
    some_is : (a b : ℕ) → Some a ≡ Some b → a ≡ b
    some_is a b e = cc

-- ---- bools

pub false_head : (bs : List ℕ) → head_at 244 bs ≡ Ok ((no_bytes, Boolean false), bs)
unfolding simple_head
false_head bs = first_simple 244 bs refl ∙ refl

pub true_head : (bs : List ℕ) → head_at 245 bs ≡ Ok ((no_bytes, Boolean true), bs)
unfolding simple_head
true_head bs = first_simple 245 bs refl ∙ refl

-- a bool was at hand, and taken
pub bool_step : (s t : Input) (hand : List ℕ) (first : ℕ) (b : Bool) → ((bs : List ℕ) → head_at first bs ≡ Ok ((no_bytes, Boolean b), bs)) → slice_get hand 0 ≡ Some first → TookKept s t (take 1 hand)
    → Step s t (λ l bs rest. (w : HeadWidth) × (opening_at bs ≡ Ok ((w, Boolean b), rest)))
bool_step s t hand first b head is took =
    step_map s t (λ l bs rest. byte_at bs ≡ Ok (first, rest)) (λ l bs rest. (w : HeadWidth) × (opening_at bs ≡ Ok ((w, Boolean b), rest)))
    (λ l bs rest here. (no_bytes, rw here (head rest))) (hand_step s t hand first is took)
