-- The end of an array or a map, where no part comes.
use Rattle.std.proofs.Common.{◌≡◌, ℕ, zero, suc, List, [], ◌∷◌, ◌++◌, false, true, Some, None, Ok, subst, sym, arith}
use Rattle.cbor_model.specs.Refusal.{Refusal, end_in_array, end_in_map}
use Rattle.cbor_model.specs.Formats.{Formats}
use Rattle.cbor_model.specs.Reader.{next_at}
use Rattle.cbor_model.specs.Reader as reader
use Rattle.cbor_read.specs.Source.{Input}
use Rattle.cbor_read.specs.Sources.{input_of_slice}
use Rattle.cbor_read.specs.declared.slice_read.SliceRead.{SliceRead}
use Rattle.cbor_serde_de.specs.Given.{Closes}
use Rattle.cbor_serde_de.specs.Places.{SameReading, input_of}
use Rattle.cbor_serde_de.specs.declared.cbor.Cbor.{Cbor}
use Rattle.cbor_decode.specs.Cursor.{behind_next, ended_at}
use Rattle.cbor_decode.specs.Gives.{Step}
use Rattle.cbor_decode.specs.Heads.{remaining_of}
use Rattle.cbor_decode.specs.declared.cursor.Remaining.{Remaining}
use Rattle.cbor_decode.proofs.facts.Steps.{step_map}
use Rattle.cbor_decode_as.specs.MapAccesses.{Comes}

ended_of_next : (why : Refusal) (r : reader.Remaining) (bs rest : List ℕ)
    → next_at why r bs ≡ Ok (None, rest) → ended_at why r bs ≡ Ok (tt, rest)
unfolding next_at ended_at
ended_of_next why (reader.counted zero) bs rest e = grind arith
ended_of_next why (reader.counted (suc n)) bs rest e = grind arith
ended_of_next why reader.to_break [] rest e = grind arith
ended_of_next why reader.to_break (b ∷ bs) rest e = grind arith

-- no item comes of an array
pub array_ends : (s t : Input) (r behind : Remaining)
    → Step s t (λ l bs rest. next_at end_in_array (remaining_of r) bs ≡ Ok (behind_next behind false, rest))
    → Step s t (λ l bs rest. ended_at end_in_array (remaining_of r) bs ≡ Ok (tt, rest))
array_ends s t r behind h =
    step_map s t
    (λ l bs rest. next_at end_in_array (remaining_of r) bs ≡ Ok (None, rest))
    (λ l bs rest. ended_at end_in_array (remaining_of r) bs ≡ Ok (tt, rest))
    (λ l bs rest. ended_of_next end_in_array (remaining_of r) bs rest) h

-- no pair comes of a map
pub map_ends : (s t : Input) (f : Formats) (r behind : Remaining)
    → Step s t (λ l bs rest. Comes f (remaining_of r) (remaining_of behind) false bs rest)
    → Step s t (λ l bs rest. ended_at end_in_map (remaining_of r) bs ≡ Ok (tt, rest))
map_ends s t f r behind h =
    step_map s t
    (λ l bs rest. next_at end_in_map (remaining_of r) bs ≡ Ok (None, rest))
    (λ l bs rest. ended_at end_in_map (remaining_of r) bs ≡ Ok (tt, rest))
    (λ l bs rest. ended_of_next end_in_map (remaining_of r) bs rest) h

-- a pair comes, whatever its key begins with
pub key_comes : (s t : Input) (f : Formats) (r behind : Remaining)
    → Step s t (λ l bs rest. Comes f (remaining_of r) (remaining_of behind) true bs rest)
    → Step s t (λ l bs rest. next_at end_in_map (remaining_of r) bs ≡ Ok (Some (remaining_of behind), rest))
key_comes s t f r behind h =
    step_map s t
    (λ l bs rest. Comes f (remaining_of r) (remaining_of behind) true bs rest)
    (λ l bs rest. next_at end_in_map (remaining_of r) bs ≡ Ok (Some (remaining_of behind), rest))
    (λ l bs rest comes. comes.0) h

-- what is innermost ended, and was left
pub closes : (why : Refusal) (old new : Cbor) (mid : SliceRead)
    → Step (input_of old) (input_of_slice mid) (λ l bs rest. ended_at why (remaining_of old.innermost.remaining) bs ≡ Ok (tt, rest))
    → new.decoder.source ≡ mid → new.decoder.levels ≡ old.innermost.levels
    → old.outer.items ≡ new.outer.items ++ new.innermost ∷ [] → SameReading old new → Closes why old new
closes why old new mid h same levels around reading = record {
  taken = subst (λ s. Step (input_of old) (input_of_slice s) (λ l bs rest. ended_at why (remaining_of old.innermost.remaining) bs ≡ Ok (tt, rest))) (sym same) h;
  levels = levels;
  around = around;
  same = reading;
}
