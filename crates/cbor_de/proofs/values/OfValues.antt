-- A type that is made of a value: an item is read as what its value means.
use Rattle.std.proofs.Common.{◌≡◌, ◌∙◌, ℕ, Bool, false, true, List, Result, Ok, Err, IsErrAnd, ◌⊎◌, inl, inr, rules, sym, ap, subst}
use Rattle.std.specs.Prelude.{ℤ, IfOk, IfErr}
use Rattle.cbor_model.specs.Formats.{Formats}
use Rattle.cbor_model.specs.Plain as plain
use Rattle.cbor_model.specs.Plain.{Val}
use Rattle.cbor_model.specs.Raw.{Raw}
use Rattle.cbor_model.specs.Reader.{Fault, item_at}
use Rattle.cbor_model.specs.Value.{value}
use Rattle.cbor_model.proofs.facts.Reader.{ok_is}
use Rattle.cbor_io.specs.declared.error.Error.{Error}
use Rattle.cbor_io.specs.declared.read_error.ReadErrorCode.{ReadErrorCode}
use Rattle.cbor_io.specs.Error.{code_of, offset_of, IsOutOfMemory}
use Rattle.cbor_read.specs.Source.{Input, TookSome}
use Rattle.cbor_value.specs.declared.Float.{Float}
use Rattle.cbor_value.specs.declared.Value.{Value, Null, Integer, the_lemmas}
use Rattle.cbor_value.specs.declared.Value.{Bool as of_bool, Float as of_float}
use Rattle.cbor_value.specs.View.{view, float_view}
use Rattle.cbor_decode.specs.Gives.{Limits, values}
use Rattle.cbor_decode.proofs.facts.Steps.{step_map}
use Rattle.cbor_decode_as.specs.Takes.{raws, IsRead, IsNotRead, Refuses, TakesItem, ReportsItem}
use Rattle.cbor_de.proofs.refusals.Faults.{AsValue}
use Rattle.cbor_decode.proofs.facts.Readings.{along, value_seen}
use Rattle.cbor_decode_as.proofs.facts.Readings.{refuses_memory, refuses_by, refuses_fault}

-- ---- what a value stands for that holds no other

pub view_null : view Null ≡ plain.null
view_null = search (rules, the_lemmas)

pub view_bool : (b : Bool) → view (of_bool b) ≡ plain.bool b
view_bool b = search (rules, the_lemmas)

pub view_integer : (z : ℤ) → view (Integer z) ≡ plain.integer z
view_integer z = search (rules, the_lemmas)

pub view_float : (x : Float) → view (of_float x) ≡ float_view x
view_float x = search (rules, the_lemmas)

-- ---- what is made of a value

-- an item of this value is another, or none, for what is read at the front
no_fault : (f : Formats) (levels : ℕ) (l : Limits) (bs rest : List ℕ) (r : Raw) (d : Fault) → item_at (values f l) levels bs ≡ Err d → item_at (raws f l) levels bs ≡ Ok (r, rest) → ⊥
no_fault f levels l bs rest r d fails is =
    let read : item_at (values f l) levels bs ≡ Ok (value r, rest) = value_seen f l levels bs ∙ ap (along value) is in
    let both : Ok (value r, rest) ≡ Err d = sym read ∙ fails in
    cc

module _ {A : Type 0} (means : Val → A → Type 0) (allowed : ReadErrorCode → Bool) (f : Formats) (levels : ℕ) (s : Input) where
  abbrev reads : Raw → A → Type 0
  reads r x = means (value r) x

  abbrev None : Limits → List ℕ → Type 0
  None l bs = IsNotRead reads (item_at (raws f l) levels bs)

  abbrev Valued : Value → Limits → List ℕ → List ℕ → Type 0
  Valued v l bs rest = IsRead AsValue (item_at (raws f l) levels bs) v rest

  -- no item is there
  pub no_value : (t : Input) (e : Error) (r : Result A Error) → ReportsItem false true allowed f levels s e → IsErrAnd r (λ x. x ≡ e) → TookSome s t → TakesItem allowed f reads levels s t r
  no_value t e (Ok x) reported given took = absurd given
  no_value t e (Err x) reported given took = subst (λ (y : Error). Refuses allowed s t (code_of y) (offset_of y) None) (sym given)
      (refuses_fault allowed (λ l. item_at (values f l) levels) s e None (λ l bs d fails x rest got. no_fault f levels l bs rest got.item d fails got.is) took reported)

  -- an item that means something means it of the value that was read
  same_meaning : (v : Value) (l : Limits) (bs rest after : List ℕ) (x : A) → Valued v l bs rest → IsRead reads (item_at (raws f l) levels bs) x after → means (view v) x
  same_meaning v l bs rest after x got read =
      let same : read.item ≡ got.item = ap (λ (p : Raw × List ℕ). p.0) (ok_is (read.item, after) (got.item, rest) (sym read.is ∙ got.is)) in
      subst (λ (w : Val). means w x) (ap value same ∙ sym got.means) read.means

  -- A value was read. It means what was made of it; or it means nothing, or memory ran out.
  pub value_made : (t : Input) (v : Value) (r : Result A Error) → TakesItem allowed f AsValue levels s t (Ok v)
      → IfOk r (means (view v)) → IfErr r (λ e. IsOutOfMemory e ⊎ ((x : A) → means (view v) x → ⊥)) → TakesItem allowed f reads levels s t r
  value_made t v (Ok x) step is none = step_map s t (Valued v) (λ l bs rest. IsRead reads (item_at (raws f l) levels bs) x rest)
      (λ l bs rest got. record { item = got.item; is = got.is; means = subst (λ (w : Val). means w x) got.means is }) step
  value_made t v (Err e) step is (inl memory) = refuses_memory allowed s (code_of e) (offset_of e) None memory.0 memory.1 step.took
  value_made t v (Err e) step is (inr none) = refuses_by allowed s (code_of e) (offset_of e) t (Valued v) None
      (λ l bs rest got x after read. none x (same_meaning v l bs rest after x got read)) step
