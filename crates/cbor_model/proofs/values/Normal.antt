-- Reading and writing again and again.
use Rattle.std.proofs.Common.{ℕ, ◌^◌, ◌<◌, List, length, refl, sym, ap, subst, arith}
use Rattle.cbor_model.specs.Spelling.{spell}
use Rattle.cbor_model.specs.Acceptable.{IsAcceptable, max_depth}
use Rattle.cbor_model.specs.Plain.{Val}
use Rattle.cbor_model.specs.Value.{value}
use Rattle.cbor_model.specs.Canonical.{IsOrdered, canonical, canon}
use Rattle.cbor_model.specs.Laws.{SpellsValue}
use Rattle.cbor_model.proofs.values.ReadsBack.{reads_back}
use Rattle.cbor_model.proofs.values.Canonical.{value_is_canonical}

-- the canonical item of an ordered value is one that has the value
pub spells_canon : (v : Val) → IsOrdered v → IsAcceptable (canonical v) → SpellsValue (canon v) v
unfolding canon
spells_canon v ordered good = record { item = canonical v; acceptable = good; spelled = refl; valued = sym (reads_back v ordered) }

pub normalised_once : (bytes : List ℕ) (v : Val) → length bytes < 2 ^ 64 → SpellsValue bytes v → SpellsValue (canon v) v
normalised_once bytes v short spells =
    let r = spells.item in
    let shorter : length (spell r) < 2 ^ 64 = omega (arith, ap length spells.spelled) in
    let good = value_is_canonical max_depth r spells.acceptable shorter in
    subst (λ (w : Val). SpellsValue (canon w) w) (sym spells.valued) (spells_canon (value r) good.1 good.2)
