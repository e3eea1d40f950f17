-- The head of an array or a map, whatever follows it.
use Rattle.std.proofs.Common.{◌≡◌, ℕ, ◌+◌, Bool, List, Ok, Err, sym, ap, ap₂, ◌∙◌, arith}
use Rattle.cbor_model.specs.Reader.{Fault, Reads}
use Rattle.cbor_model.proofs.facts.Reader.{ok_is}
use Rattle.cbor_read.specs.Source.{Input}
use Rattle.cbor_io.specs.Error.{code_of, offset_of}
use Rattle.cbor_io.specs.declared.error.Error.{Error}
use Rattle.cbor_io.specs.declared.read_error.ReadError.{ReadError}
use Rattle.cbor_io.specs.declared.read_error.ReadErrorCode.{ReadErrorCode}
use Rattle.cbor_decode.specs.Gives.{Limits, Step, Stopped, IsErrorOf}
use Rattle.cbor_decode.specs.declared.cursor.Remaining.{Remaining}
use Rattle.cbor_decode.specs.declared.head.Head.{Head}
use Rattle.cbor_decode.specs.declared.refusal.Refused.{Refused}
use Rattle.cbor_decode.proofs.facts.Steps.{step_map}
use Rattle.cbor_decode_as.specs.TaggedHeads.{opened_at}
use Rattle.cbor_decode_as.specs.Begins.{Begins, NoneBegins, RefusesBeginning}
use Rattle.cbor_decode_as.proofs.refused.Refusing.{refuses_by, refuses_stopped}

pub fault_read : {A : Type 0} (read : Reads A) (x : A × List ℕ) (f : Fault) → read ≡ Err f → read ≡ Ok x → ⊥
fault_read (Ok y) x f is other = absurd cc
fault_read (Err g) x f is other = absurd cc

-- two readings of one head are one
module _ (levels : ℕ) (bs rest other : List ℕ) (left more : ℕ) (h i : Head) (is : opened_at levels bs ≡ Ok ((left, h), rest)) (also : opened_at levels bs ≡ Ok ((more, i), other)) where
  both : ◌≡◌ {A = (ℕ × Head) × List ℕ} ((left, h), rest) ((more, i), other)
  both = ok_is ((left, h), rest) ((more, i), other) (sym is ∙ also)

  same_left : left ≡ more
  same_left = ap (λ (p : (ℕ × Head) × List ℕ). p.0.0) both

  same_head : h ≡ i
  same_head = ap (λ (p : (ℕ × Head) × List ℕ). p.0.1) both

module _ (kind : Remaining → Head) (allowed : ReadErrorCode → Bool) (levels : ℕ) (s t : Input) where
  abbrev Taken : ℕ → Head → Limits → List ℕ → List ℕ → Type 0
  Taken left h l bs rest = opened_at levels bs ≡ Ok ((left, h), rest)

  pub begins : (left deep : ℕ) (h : Head) (r : Remaining) → h ≡ kind r → left ≡ deep + 1 → Step s t (Taken left h) → Step s t (λ l bs rest. Begins kind levels deep r bs rest)
  begins left deep h r is one = step_map s t (Taken left h) (λ l bs rest. Begins kind levels deep r bs rest)
      (λ l bs rest taken. taken ∙ ap₂ (λ (n : ℕ) (x : Head). Ok ((n, x), rest)) one is)

  pub begins_stopped : {w : Input} (kept : ReadError) (r : Refused) (e : Error) → IsErrorOf kept r e → Stopped allowed (λ l. opened_at levels) s w kept r → RefusesBeginning kind allowed levels s w e
  begins_stopped kept r e = refuses_stopped allowed (λ l. opened_at levels) s kept r e (λ l bs. NoneBegins kind levels bs)
      (λ l bs f stops left r' rest is. fault_read (opened_at levels bs) ((left + 1, kind r'), rest) f stops is)

  pub begins_other : (left : ℕ) (h : Head) (e : Error) → ((r : Remaining) → h ≡ kind r → ⊥) → Step s t (Taken left h) → RefusesBeginning kind allowed levels s t e
  begins_other left h e other = refuses_by allowed s (code_of e) (offset_of e) t (Taken left h) (λ l bs. NoneBegins kind levels bs)
      (λ l bs rest taken more r rest' is. other r (same_head levels bs rest rest' left (more + 1) h (kind r) taken is))

  pub begins_too_deep : (left : ℕ) (h : Head) (e : Error) → left ≡ 0 → Step s t (Taken left h) → RefusesBeginning kind allowed levels s t e
  begins_too_deep left h e none = refuses_by allowed s (code_of e) (offset_of e) t (Taken left h) (λ l bs. NoneBegins kind levels bs)
      (λ l bs rest taken more r rest' is. none_left more (sym none ∙ same_left levels bs rest rest' left (more + 1) h (kind r) taken is))
    where
      none_left : (n : ℕ) → 0 ≡ n + 1 → ⊥
      none_left n e = omega arith
