-- What is read as a value.
use Rattle.std.proofs.Common.{◌≡◌, ℕ, ◌^◌, ◌<◌, List, length, sym, ap, subst, arith}
use Rattle.cbor_model.specs.Acceptable.{max_depth}
use Rattle.cbor_model.specs.Canonical.{IsStorable, IsOrdered}
use Rattle.cbor_model.specs.Formats.{all_formats}
use Rattle.cbor_model.specs.Laws.{SpellsValue}
use Rattle.cbor_model.specs.Plain.{Val}
use Rattle.cbor_model.specs.Readable.{SpellsAs}
use Rattle.cbor_model.specs.Value.{value}
use Rattle.cbor_model.proofs.facts.Laws.{value_is_canonical}
use Rattle.cbor_value.specs.declared.Value.{Value}
use Rattle.cbor_value.specs.View.{view}

-- it is the value of the item that the bytes spell
pub spelled_value : (bs : List ℕ) (x : Value) → SpellsAs all_formats (λ r x. view x ≡ value r) bs x → SpellsValue bs (view x)
spelled_value bs x h = record { item = h.item; acceptable = h.acceptable; spelled = h.spelled; valued = h.means }

-- and storable and ordered
pub is_canonical : (bs : List ℕ) (v : Val) → length bs < 2 ^ 64 → SpellsValue bs v → IsStorable v × IsOrdered v
is_canonical bs v short spells =
    let good = value_is_canonical max_depth spells.item spells.acceptable (omega (arith, ap length spells.spelled)) in
    subst (λ (w : Val). IsStorable w × IsOrdered w) (sym spells.valued) (good.0, good.1)
