-- Strict reading of any type, at a `Value`.
use Rattle.std.proofs.Common.{◌≡◌, List, ℕ, Result, Ok, Err, sym, subst, ◌∙◌}
use Rattle.std.specs.Prelude.{IfOk, IfErr, MatchResult}
use Rattle.cbor_model.specs.Plain.{Val}
use Rattle.cbor_model.specs.Value.{value}
use Rattle.cbor_model.specs.Canonical.{canonical, canon}
use Rattle.cbor_model.specs.Laws.{SpellsValue}
use Rattle.cbor_model.proofs.values.ReadsBack.{reads_back}
use Rattle.cbor_value.specs.declared.Value.{Value}
use Rattle.cbor_value.specs.View.{view}
use Rattle.cbor_io.specs.declared.error.Error.{Error}
use Rattle.cbor_io.specs.Error.{IsOutOfMemory}
use Rattle.cbor_strict.specs.Strict.{SpellsCanonically, SpellsCanonicallyAs}
use Rattle.cbor_strict.specs.StrictAnswers.{ReportsItsDeparture}
use Rattle.cbor_strict.proofs.Glue.{memory_only}

-- an item is read or refused
abbrev Every : List ℕ → Result Value Error → Type 0
Every bs r = (v : Val) → (spelt : SpellsValue bs v) → MatchResult r (λ x. view x ≡ value spelt.item) (ReportsItsDeparture spelt.item)

pub found : (bs : List ℕ) (r : Result Value Error) → IfOk r (SpellsCanonicallyAs (λ r x. view x ≡ value r) bs) → IfOk r (λ x. SpellsCanonically bs (view x))
found bs (Ok x) c = subst (SpellsCanonically bs) (sym (c.means ∙ reads_back c.tree c.spelt.ordered)) c.spelt
found bs (Err e) c = tt

pub departs : (bs : List ℕ) (r : Result Value Error) → Every bs r → (v : Val) → (spelt : SpellsValue bs v) → IfErr r (ReportsItsDeparture spelt.item)
departs bs (Ok x) every v spelt = tt
departs bs (Err e) every v spelt = every v spelt

pub accepted : (bs : List ℕ) (r : Result Value Error) → Every bs r → (v : Val) → SpellsCanonically bs v → IfErr r IsOutOfMemory
unfolding canon
accepted bs (Ok x) every v c = tt
accepted bs (Err e) every v c = memory_only v e c.ordered (every v (record { item = canonical v; acceptable = c.acceptable; spelled = c.spelled; valued = sym (reads_back v c.ordered) }))
