-- Why no array or map begins.
use Rattle.std.proofs.Common.{◌≡◌, ℕ, Bool, true, false, List, Option, Some, None, refl}
use Rattle.std.specs.Prelude.{◌&&◌, not, if◌then◌else◌, option_map}
use Rattle.cbor_serde_ser.specs.Document.{State, after_item, item, opens}
use Rattle.cbor_serde_ser.specs.declared.level.Level.{Level}

none_either : (b : Bool) (x : Option State) → x ≡ None → (if b then x else None) ≡ None
none_either true x h = h
none_either false x h = refl

undue : (flat c d : Bool) (x : Option Level) (g h : Level → State) → (if flat then None else option_map g x) ≡ None → (if c && (not flat && d) then option_map h x else None) ≡ None
undue true true d x g h e = refl
undue true false d x g h e = refl
undue false c d None g h e = none_either (c && (true && d)) None refl
undue false c d (Some l) g h e = absurd cc

-- where no item is due
pub opens_not : (s : State) (bytes : List ℕ) (l : Level) → item s bytes ≡ None → opens s bytes l ≡ None
opens_not s bytes l e = undue s.flattens _ _ (after_item s.level) _ _ e
