-- A log that is cut off, as it is opened.
use Rattle.std.proofs.Common.{◌≡◌, ◌<◌, ◌^◌, ℕ, List, ◌++◌, ◌∷◌, [], length, Ok, Err, inl, inr, subst}
use Rattle.std.specs.Prelude.{flat_map}
use Rattle.serde_cbor.specs.Canonical.{canon}
use Rattle.serde_cbor.specs.ItemLaws.{OneLongestList}
use Rattle.serde_cbor.specs.Raw.{Raw}
use Rattle.serde_cbor.specs.Value.{value}
use Rattle.serde_cbor.proofs.facts.Sequences.{never_broken, next_of_items, whole_before_cut}
use Rattle.serde_cbor.proofs.facts.Filled.{none_else}
use Rattle.use_content_store.specs.declared.log.OpenError.TheVariants.{Broken, Collision}
use Rattle.use_content_store.specs.Log.{CutOffAnywhere, HoldsJust}
use Rattle.use_content_store.specs.Store.{address, at}

pub opens_whole : OneLongestList → CutOffAnywhere
opens_whole only items s bytes missing (Ok o) short log parts (u, holds, whole) =
    (u, whole_before_cut only items missing log.0 short parts u whole, (u.begin.acceptable, holds))
opens_whole only items s bytes missing (Err (Broken offset e)) short log parts (inl failed) = failed
opens_whole only items s bytes missing (Err (Broken offset e)) short log parts (inr (u, broken)) =
    absurd (never_broken only items missing log.0 short parts u e broken)
opens_whole only items s bytes missing (Err (Collision offset)) short log parts (u, t, r, holds, next, no_room) =
    let more = next_of_items items missing log.0 parts u r next in
    no_room (none_else (λ q. address (value q)) (λ q. canon (value q)) (at t) (at s) u.items r holds more.0 (subst (HoldsJust s) more.1 log.1))
