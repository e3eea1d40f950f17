use Rattle.std.proofs.Common.{◌≡◌, ◌⊎◌, List, ℕ, None, Result, Ok, Err, refl}
use Rattle.std.specs.Prelude.{IfOk, IfErr, MatchResult}
use Rattle.cbor_model.specs.Formats.{all_formats}
use Rattle.cbor_model.specs.Plain.{Val}
use Rattle.cbor_model.specs.Value.{value}
use Rattle.cbor_model.specs.Laws.{SpellsValue}
use Rattle.cbor_model.specs.Readable.{SpellsAs}
use Rattle.serde_cbor.specs.declared.error.Error.{Error}
use Rattle.cbor_value.specs.declared.Value.{Value}
use Rattle.serde_cbor.specs.Error.{IsOutOfMemory}
use Rattle.serde_cbor.specs.View.{view}
use Rattle.serde_cbor.proofs.facts.Values.{spelled_value}
use Rattle.cbor_model.specs.Allowed.{limits_of}
use Rattle.serde_cbor.specs.FirstRefusal.{ReportsFirst}
use Rattle.cbor_tool.specs.declared.program.Mode.{Mode}
use Rattle.cbor_tool.specs.declared.program.Mode.TheVariants.{Lenient, Strict, Diagnose}
use Rattle.cbor_tool.specs.declared.program.Mode.TheVariants.{DiagnosePretty, ByRules}
use Rattle.cbor_tool.specs.RunSteps.{SpellsIn, ReportsIn}
use Rattle.cbor_tool.proofs.program.read.Goals as goal

-- what is read leniently
found : (bs : List ℕ) (r : Result Value Error) → IfOk r (SpellsAs all_formats (λ r x. view x ≡ value r) bs) → IfOk r (λ x. SpellsValue bs (view x))
found bs (Ok x) h = spelled_value bs x h
found bs (Err e) h = tt

accepted : (bs : List ℕ) (r : Result Value Error) → ((v : Val) → (spelt : SpellsValue bs v) → MatchResult r (λ x. view x ≡ value spelt.item) IsOutOfMemory) → (v : Val) → SpellsValue bs v → IfErr r IsOutOfMemory
accepted bs (Ok x) every v spelt = tt
accepted bs (Err e) every v spelt = every v spelt

-- so in each mode but the strict one
found_in : (mode : Mode) (bs : List ℕ) (r : Result Value Error) → (mode ≡ Strict → ⊥) → IfOk r (λ x. SpellsValue bs (view x)) → IfOk r (λ x. SpellsIn mode bs (view x))
found_in Lenient bs r other h = h
found_in Strict bs r other h = absurd (other refl)
found_in Diagnose bs r other h = h
found_in DiagnosePretty bs r other h = h
found_in (ByRules preset) bs r other h = h

accepted_in : (mode : Mode) (bs : List ℕ) (r : Result Value Error) → (mode ≡ Strict → ⊥) → ((v : Val) → SpellsValue bs v → IfErr r IsOutOfMemory) → (v : Val) → SpellsIn mode bs v → IfErr r IsOutOfMemory
accepted_in Lenient bs r other h = h
accepted_in Strict bs r other h = absurd (other refl)
accepted_in Diagnose bs r other h = h
accepted_in DiagnosePretty bs r other h = h
accepted_in (ByRules preset) bs r other h = h

refused_in : (mode : Mode) (bs : List ℕ) (r : Result Value Error) → (mode ≡ Strict → ⊥) → IfErr r (λ e. IsOutOfMemory e ⊎ ReportsFirst (limits_of None) bs e) → IfErr r (λ e. IsOutOfMemory e ⊎ ReportsIn mode bs e)
refused_in Lenient bs r other h = h
refused_in Strict bs r other h = absurd (other refl)
refused_in Diagnose bs r other h = h
refused_in DiagnosePretty bs r other h = h
refused_in (ByRules preset) bs r other h = h

pub returns-in_default-clause-found : goal.returns-in_default-clause-found
returns-in_default-clause-found c = found_in c.args.mode c.args.bytes.now c.from_slice.result c.in_default.not-Strict (found c.args.bytes.now c.from_slice.result c.from_slice.ensures.answers.found)

pub returns-in_default-clause-accepted : goal.returns-in_default-clause-accepted
returns-in_default-clause-accepted c = accepted_in c.args.mode c.args.bytes.now c.from_slice.result c.in_default.not-Strict (accepted c.args.bytes.now c.from_slice.result (λ v spelt. c.from_slice.ensures.answers.every v spelt tt))

pub returns-in_default-clause-refused : goal.returns-in_default-clause-refused
returns-in_default-clause-refused c = refused_in c.args.mode c.args.bytes.now c.from_slice.result c.in_default.not-Strict c.from_slice.ensures.answers.first

pub returns-in-Strict-clause-found : goal.returns-in-Strict-clause-found
returns-in-Strict-clause-found c = rw c.in-Strict.is c.from_slice_canonical.ensures.found

pub returns-in-Strict-clause-accepted : goal.returns-in-Strict-clause-accepted
returns-in-Strict-clause-accepted c = rw c.in-Strict.is c.from_slice_canonical.ensures.accepted

pub returns-in-Strict-clause-refused : goal.returns-in-Strict-clause-refused
returns-in-Strict-clause-refused c = rw c.in-Strict.is c.from_slice_canonical.ensures.refused
