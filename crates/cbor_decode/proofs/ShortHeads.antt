-- Heads whose argument is below 24, which are their first byte.
use Rattle.std.proofs.Common.{◌≡◌, ◌<◌, ◌/◌, ◌%◌, ℕ, List, Some, Ok, take, slice_get, ap, arith, ltb, true}
use Rattle.std.proofs.lemmas.Bool.{lt-ltb}
use Rattle.cbor_model.specs.Head.{HeadWidth}
use Rattle.cbor_model.specs.Reader.{byte_at, number_behind}
use Rattle.cbor_read.specs.Source.{Input, TookKept}
use Rattle.cbor_io.specs.declared.head.Major.{Major}
use Rattle.cbor_io.specs.declared.head.Major.TheVariants.{Simple}
use Rattle.cbor_io.specs.Head.{major_number}
use Rattle.cbor_decode.specs.Gives.{Step}
use Rattle.cbor_decode.specs.Heads.{opening_at, head_at}
use Rattle.cbor_decode.proofs.SourceCalls.{hand_step}
use Rattle.cbor_decode.proofs.Heads.{definite_head, first_is}
use Rattle.cbor_decode.proofs.Steps.{step_map}

module _ (first n : ℕ) (m : Major) (other : m ≡ Simple → ⊥) (major : major_number m ≡ first / 32) (low : first % 32 ≡ n) (short : n < 24) where
  -- what such a byte says
  pub short_head : (bs : List ℕ) → (w : HeadWidth) × (head_at first bs ≡ Ok ((w, definite_head m n), bs))
  unfolding number_behind
  short_head bs =
      let below : ltb (first % 32) 24 ≡ true = lt-ltb (first % 32) 24 (omega (arith, low, short)) in
      first_is first bs bs n m other (λ e. absurd (omega (arith, e, low, short))) major (rw below (ap (λ (k : ℕ). Ok (k, bs)) low))

  -- it was at hand, and taken
  pub short_step : (s t : Input) (hand : List ℕ) → slice_get hand 0 ≡ Some first → TookKept s t (take 1 hand)
      → Step s t (λ l bs rest. (w : HeadWidth) × (opening_at bs ≡ Ok ((w, definite_head m n), rest)))
  short_step s t hand is took =
      step_map s t (λ l bs rest. byte_at bs ≡ Ok (first, rest)) (λ l bs rest. (w : HeadWidth) × (opening_at bs ≡ Ok ((w, definite_head m n), rest)))
      (λ l bs rest here. ((short_head rest).0, rw here (short_head rest).1)) (hand_step s t hand first is took)
