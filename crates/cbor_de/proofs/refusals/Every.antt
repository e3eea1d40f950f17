-- Where a type reads every item, each acceptable item is read.
use Rattle.std.proofs.Common.{◌≡◌, ◌∙◌, ℕ, ◌^◌, ◌<◌, Bool, List, [], length, Result, Ok, Err, IfErr, MatchResult, refl, sym, ap, subst, arith}
use Rattle.std.specs.Prelude.{⊤}
use Rattle.cbor_model.specs.Formats.{all_formats}
use Rattle.cbor_model.specs.Plain.{Val}
use Rattle.cbor_model.specs.Raw.{Raw}
use Rattle.cbor_model.specs.Value.{value}
use Rattle.cbor_model.specs.Acceptable.{max_depth, FitsScratch}
use Rattle.cbor_model.specs.Refusal.{Refusal, end_in_value, end_in_array, end_in_map, length_out_of_range, invalid_utf8, unassigned_code, unexpected_code, trailing_data, too_deep, scratch_too_small, wrong_struct_format}
use Rattle.cbor_model.specs.Laws.{SpellsValue, IsScratchTooSmall}
use Rattle.cbor_model.specs.RawReader.{Begins}
use Rattle.cbor_model.specs.Reader.{Fault, item_at, read_value_in}
use Rattle.cbor_model.proofs.facts.Laws.{reader_accepts}
use Rattle.cbor_model.proofs.facts.Reader.{ok_is, item_again, all_allowed}
use Rattle.std.proofs.lemmas.List.{append-nil}
use Rattle.cbor_io.specs.declared.error.Error.{Error}
use Rattle.cbor_io.specs.declared.error.ErrorCode.{ErrorCode}
use Rattle.cbor_io.specs.declared.error.ErrorCode.TheVariants as code
use Rattle.cbor_io.specs.Error.{code_of, offset_of, IsOutOfMemory}
use Rattle.cbor_read.specs.Source.{Input}
use Rattle.cbor_decode.specs.Gives.{FailsAs, FailsBy, Fails, FailsOrFaults, IsMemoryOrFault, IsMemoryOrFaultBy, IsScratchOrMemory, IsScratchOrMemoryBy, Reports, limits, values, whole_at}
use Rattle.cbor_decode.proofs.facts.Steps.{value_in}
use Rattle.cbor_decode_as.specs.Takes.{WhereTotal}
use Rattle.cbor_de.specs.Whole.{IsWholeRead, ReadsAll}
use Rattle.cbor_de.proofs.refusals.Faults.{where_map}
use Rattle.cbor_decode.proofs.facts.Readings.{along, value_seen}
use Rattle.cbor_io.specs.declared.read_error.ReadErrorCode.{ReadErrorCode}

-- where reading gives a value, only memory fails
only_memory : (D : Type 0) → (D → ⊥) → (k : ErrorCode) (total offset : ℕ) (v : Val) → FailsBy D k total offset (Ok v) → (k ≡ code.OutOfMemory) × (offset ≡ 0)
only_memory D none code.EofWhileParsingValue total offset v h = absurd cc
only_memory D none code.EofWhileParsingArray total offset v h = absurd cc
only_memory D none code.EofWhileParsingMap total offset v h = absurd cc
only_memory D none code.LengthOutOfRange total offset v h = absurd cc
only_memory D none code.InvalidUtf8 total offset v h = absurd cc
only_memory D none code.UnassignedCode total offset v h = absurd cc
only_memory D none code.UnexpectedCode total offset v h = absurd cc
only_memory D none code.TrailingData total offset v h = absurd cc
only_memory D none code.RecursionLimitExceeded total offset v h = absurd cc
only_memory D none code.WrongStructFormat total offset v h = absurd cc
only_memory D none code.ScratchTooSmall total offset v h = absurd cc
only_memory D none (code.Io fault) total offset v h = absurd (none h.0)
only_memory D none code.OutOfMemory total offset v h = (refl, h)
only_memory D none _ total offset v h = absurd h

-- the same of a reader, which can report a fault
memory_or_fault : (D : Type 0) (k : ErrorCode) (total offset : ℕ) (v : Val) → FailsBy D k total offset (Ok v) → IsMemoryOrFaultBy k × (offset ≡ 0)
memory_or_fault D code.EofWhileParsingValue total offset v h = absurd cc
memory_or_fault D code.EofWhileParsingArray total offset v h = absurd cc
memory_or_fault D code.EofWhileParsingMap total offset v h = absurd cc
memory_or_fault D code.LengthOutOfRange total offset v h = absurd cc
memory_or_fault D code.InvalidUtf8 total offset v h = absurd cc
memory_or_fault D code.UnassignedCode total offset v h = absurd cc
memory_or_fault D code.UnexpectedCode total offset v h = absurd cc
memory_or_fault D code.TrailingData total offset v h = absurd cc
memory_or_fault D code.RecursionLimitExceeded total offset v h = absurd cc
memory_or_fault D code.WrongStructFormat total offset v h = absurd cc
memory_or_fault D code.ScratchTooSmall total offset v h = absurd cc
memory_or_fault D (code.Io fault) total offset v h = (tt, h.1)
memory_or_fault D code.OutOfMemory total offset v h = (tt, h)
memory_or_fault D _ total offset v h = absurd h

-- a fault other than a scratch that is too small
not_scratch : (why : Refusal) → (why ≡ scratch_too_small → ⊥) → (offset total : ℕ) (r : Result Val Fault) → IsScratchTooSmall r → FailsAs why total offset r → ⊥
not_scratch why other offset total r small h = other (subst IsScratchTooSmall h.2 small)

scratch_or_memory : (D : Type 0) → (D → ⊥) → (k : ErrorCode) (total offset : ℕ) (r : Result Val Fault) → IsScratchTooSmall r → FailsBy D k total offset r → IsScratchOrMemoryBy k
scratch_or_memory D none code.EofWhileParsingValue total offset r small h = absurd (not_scratch end_in_value (λ e. absurd cc) offset total r small h)
scratch_or_memory D none code.EofWhileParsingArray total offset r small h = absurd (not_scratch end_in_array (λ e. absurd cc) offset total r small h)
scratch_or_memory D none code.EofWhileParsingMap total offset r small h = absurd (not_scratch end_in_map (λ e. absurd cc) offset total r small h)
scratch_or_memory D none code.LengthOutOfRange total offset r small h = absurd (not_scratch length_out_of_range (λ e. absurd cc) offset total r small h)
scratch_or_memory D none code.InvalidUtf8 total offset r small h = absurd (not_scratch invalid_utf8 (λ e. absurd cc) offset total r small h)
scratch_or_memory D none code.UnassignedCode total offset r small h = absurd (not_scratch unassigned_code (λ e. absurd cc) offset total r small h)
scratch_or_memory D none code.UnexpectedCode total offset r small h = absurd (not_scratch unexpected_code (λ e. absurd cc) offset total r small h)
scratch_or_memory D none code.TrailingData total offset r small h = absurd (not_scratch trailing_data (λ e. absurd cc) offset total r small h)
scratch_or_memory D none code.RecursionLimitExceeded total offset r small h = absurd (not_scratch too_deep (λ e. absurd cc) offset total r small h)
scratch_or_memory D none code.WrongStructFormat total offset r small h = absurd (not_scratch wrong_struct_format (λ e. absurd cc) offset total r small h)
scratch_or_memory D none code.ScratchTooSmall total offset r small h = tt
scratch_or_memory D none (code.Io fault) total offset r small h = absurd (none h.0)
scratch_or_memory D none code.OutOfMemory total offset r small h = tt
scratch_or_memory D none _ total offset r small h = absurd h

module _ {A : Type 0} (total : Bool) (allowed : ReadErrorCode → Bool) (reads : Raw → A → Type 0) (s : Input) (bs : List ℕ) (reports : Reports s bs) (zero : s.offset ≡ 0) (short : length bs < 2 ^ 64) (v : Val) (spelt : SpellsValue bs v) (fits : FitsScratch s.room spelt.item) where
  -- the item that is read is the one that the bytes spell
  read_so : (x : A) → IsWholeRead all_formats reads max_depth s bs x → reads spelt.item x
  read_so x got =
      let l = limits s bs in
      let b : Begins max_depth bs spelt.item [] = record { spelled = sym (append-nil _ ∙ spelt.spelled); acceptable = spelt.acceptable } in
      let again = item_again all_formats l.total l.room max_depth bs [] spelt.item reports.short (omega (arith, zero)) fits b (all_allowed spelt.item) in
      let same : got.item ≡ spelt.item = ap (λ (p : Raw × List ℕ). p.0) (ok_is (got.item, []) (spelt.item, []) (sym got.is ∙ again)) in
      subst (λ (r : Raw). reads r x) same got.means

  -- what the reference reader answers to it
  reads_it : (D : Type 0) (k : ErrorCode) (at : ℕ) → FailsBy D k (length bs) at (read_value_in s.room bs) → FailsBy D k (length bs) at (Ok v)
  reads_it D k at h = subst (FailsBy D k (length bs) at) (reader_accepts s.room bs v short spelt fits) h

  pub every : (r : Result A Error) → ReadsAll allowed all_formats reads max_depth s r → IfErr r (λ e. WhereTotal total (Fails (length bs) e (read_value_in s.room bs))) → MatchResult r (reads spelt.item) (λ e. WhereTotal total (IsOutOfMemory e))
  every (Ok x) given h = read_so x (given bs reports)
  every (Err e) given h = where_map total (λ fails. only_memory ⊥ (λ d. d) (code_of e) (length bs) (offset_of e) v (reads_it ⊥ (code_of e) (offset_of e) fails)) h

  pub every_or_fault : (r : Result A Error) → ReadsAll allowed all_formats reads max_depth s r → IfErr r (λ e. WhereTotal total (FailsOrFaults (length bs) e (read_value_in s.room bs))) → MatchResult r (reads spelt.item) (λ e. WhereTotal total (IsMemoryOrFault e))
  every_or_fault (Ok x) given h = read_so x (given bs reports)
  every_or_fault (Err e) given h = where_map total (λ fails. memory_or_fault ⊤ (code_of e) (length bs) (offset_of e) v (reads_it ⊤ (code_of e) (offset_of e) fails)) h

-- ---- a scratch that is too small

-- an input that is read as one item has that item's value
read_is : {A : Type 0} (reads : Raw → A → Type 0) (s : Input) (bs : List ℕ) (x : A) → s.offset ≡ 0 → (got : IsWholeRead all_formats reads max_depth s bs x) → read_value_in s.room bs ≡ Ok (value got.item)
read_is reads s bs x zero got =
    let l = limits s bs in
    let is : item_at (values all_formats l) max_depth bs ≡ Ok (value got.item, []) = value_seen all_formats l max_depth bs ∙ ap (along value) got.is in
    let all : whole_at all_formats max_depth l bs ≡ Ok (value got.item, []) = rw is refl in
    value_in s bs zero (value got.item) [] all

pub small : {A : Type 0} (total : Bool) (allowed : ReadErrorCode → Bool) (reads : Raw → A → Type 0) (s : Input) (bs : List ℕ) → Reports s bs → s.offset ≡ 0 → IsScratchTooSmall (read_value_in s.room bs) → (r : Result A Error)
    → ReadsAll allowed all_formats reads max_depth s r → IfErr r (λ e. WhereTotal total (Fails (length bs) e (read_value_in s.room bs))) → MatchResult r (λ x. ⊥) (λ e. WhereTotal total (IsScratchOrMemory e))
small total allowed reads s bs reports zero stops (Ok x) given fails = subst IsScratchTooSmall (read_is reads s bs x zero (given bs reports)) stops
small total allowed reads s bs reports zero stops (Err e) given fails = where_map total (λ h. scratch_or_memory ⊥ (λ d. d) (code_of e) (length bs) (offset_of e) (read_value_in s.room bs) stops h) fails
