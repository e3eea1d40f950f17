-- An item of an array and what comes next.
use Rattle.std.proofs.Common.{◌≡◌, ℕ, Bool, true, false, true≢false, List, Option, Some, None, Ok, ap, ◌∙◌}
use Rattle.cbor_model.specs.Formats.{Formats}
use Rattle.cbor_model.specs.Raw.{Raw}
use Rattle.cbor_model.specs.Refusal.{end_in_array}
use Rattle.cbor_model.specs.Reader.{next_at}
use Rattle.cbor_model.specs.Reader as reader
use Rattle.cbor_read.specs.Source.{Input}
use Rattle.cbor_io.specs.declared.error.ErrorCode.{ErrorCode}
use Rattle.cbor_io.specs.declared.read_error.ReadErrorCode.{ReadErrorCode}
use Rattle.cbor_decode.specs.Cursor.{behind_next, Counts}
use Rattle.cbor_decode.specs.Gives.{Limits, Step}
use Rattle.cbor_decode.specs.Heads.{remaining_of}
use Rattle.cbor_decode.specs.declared.cursor.Remaining.{Remaining}
use Rattle.cbor_decode.specs.declared.cursor.Remaining.TheVariants.{Counted, ToBreak}
use Rattle.cbor_decode.proofs.facts.Steps.{step_map}
use Rattle.cbor_decode_as.specs.Accesses.{IsNext, IsEnd}
use Rattle.cbor_decode_as.proofs.facts.Readings.{refuses_map}
use Rattle.cbor_decode_as.specs.Takes.{Refuses}

-- whether another item comes can't be known
abbrev pub Untold : Remaining → Limits → List ℕ → Type 0
Untold old l bs = (next : Option reader.Remaining) (rest : List ℕ) → next_at end_in_array (remaining_of old) bs ≡ Ok (next, rest) → ⊥

-- neither an item that is read nor the end comes
abbrev pub NoneNext : {A : Type 0} → (Raw → A → Type 0) → Formats → ℕ → Remaining → Limits → List ℕ → Type 0
NoneNext {A} reads f levels old l bs = (next : Option A) (after : reader.Remaining) (rest : List ℕ) → IsNext reads f levels (remaining_of old) after next l bs rest → ⊥

untold_next : {A : Type 0} (reads : Raw → A → Type 0) (f : Formats) (levels : ℕ) (old : Remaining) (l : Limits) (bs : List ℕ) → Untold old l bs → NoneNext reads f levels old l bs
untold_next reads f levels old l bs none None after rest h = none None rest h
untold_next reads f levels old l bs none (Some x) after rest h = none (Some after) h.start h.next

pub untold_refused : {A : Type 0} {w : Input} (reads : Raw → A → Type 0) (f : Formats) (levels : ℕ) (old : Remaining) (allowed : ReadErrorCode → Bool) (s : Input) (k : ErrorCode) (at : ℕ) → Refuses allowed s w k at (Untold old) → Refuses allowed s w k at (NoneNext reads f levels old)
untold_refused reads f levels old allowed s k at h = refuses_map allowed s k at (Untold old) (NoneNext reads f levels old) (untold_next reads f levels old) h

pub comes_not : (s t : Input) (old new : Remaining) (more : Bool) → more ≡ false → Step s t (λ l bs rest. next_at end_in_array (remaining_of old) bs ≡ Ok (behind_next new more, rest)) → Step s t (IsEnd (remaining_of old))
comes_not s t old new more is = step_map s t (λ l bs rest. next_at end_in_array (remaining_of old) bs ≡ Ok (behind_next new more, rest)) (IsEnd (remaining_of old))
    (λ l bs rest h. h ∙ ap (λ (b : Bool). Ok (behind_next new b, rest)) is)

pub nothing_left : (old new : Remaining) (more : Bool) → more ≡ false → Counts old more new → new ≡ Counted 0
nothing_left (Counted n) new true is counts = absurd (true≢false is)
nothing_left (Counted n) new false is counts = counts.1
nothing_left ToBreak new true is counts = absurd (true≢false is)
nothing_left ToBreak new false is counts = counts
