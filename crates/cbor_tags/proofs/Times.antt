-- An item that is read as a time is read as a `Value` within its tag.
use Rattle.std.proofs.Common.{◌≡◌, ◌∙◌, ℕ, Some, None, rules, sym, ap}
use Rattle.cbor_model.specs.Plain as plain
use Rattle.cbor_model.specs.Plain.{Val}
use Rattle.cbor_model.specs.Raw as raw
use Rattle.cbor_model.specs.Raw.{Raw}
use Rattle.cbor_model.specs.Value.{value}
use Rattle.cbor_value.specs.View.{view, float_view}
use Rattle.cbor_value.specs.declared.Value.{Value, Integer, the_lemmas}
use Rattle.cbor_value.specs.declared.Value.{Float as of_float}
use Rattle.cbor_convert.specs.Tagged.{IsTagged}
use Rattle.cbor_tags.specs.declared.time.EpochTime.{EpochTime}
use Rattle.cbor_tags.specs.declared.time.EpochTime.TheVariants.{Seconds, Float}
use Rattle.cbor_tags.specs.Times.{IsSeconds}

apart : (n : ℕ) → Some n ≡ None → ⊥
apart n e = cc

-- the same, as a `Value`
abbrev pub value_of : EpochTime → Value
value_of (Seconds s) = Integer s
value_of (Float f) = of_float f

viewed : (v : Val) (t : EpochTime) → IsSeconds v t → view (value_of t) ≡ v
viewed (plain.integer z) (Seconds s) h =
    let is : view (Integer s) ≡ plain.integer s = search (rules, the_lemmas) in
    is ∙ ap plain.integer (sym h.0)
viewed (plain.integer z) (Float f) h = absurd h
viewed (plain.float w bits) (Seconds s) h = absurd h
viewed (plain.float w bits) (Float f) h =
    let is : view (of_float f) ≡ float_view f = search (rules, the_lemmas) in
    is ∙ h
viewed _ t h = absurd h

pub tagged_value : (r : Raw) (t : EpochTime) → IsTagged (λ s x. IsSeconds (value s) x) r (Some 1) t
    → IsTagged (λ s v. view v ≡ value s) r (Some 1) (value_of t)
tagged_value (raw.tag w n r) t h = (h.0, viewed (value r) t h.1)
tagged_value _ t h = absurd (apart 1 h.0)
