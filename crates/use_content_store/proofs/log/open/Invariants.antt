-- The records that were read are those of the store.
use Rattle.std.proofs.Common.{◌≡◌, ℕ, ◌-◌, ◌^◌, List}
use Rattle.serde_cbor.specs.Gives.{Gave}
use Rattle.serde_cbor.specs.Raw.{Raw}
use Rattle.serde_cbor.specs.Sources.{input_of_reader}
use Rattle.serde_cbor.specs.StreamedItems.{HasStreamedItems}
use Rattle.serde_cbor.specs.Streams.{standing}
use Rattle.serde_cbor.specs.View.{view}
use Rattle.use_content_store.specs.Log.{HoldsJust}
use Rattle.use_content_store.proofs.log.open.Given as goal

abbrev pub invariant-records : goal.invariant-records
invariant-records g l = record {
  far : (bytes : List ℕ) → Gave (g.R.Read.remaining l.fn.reader) bytes → (items : List Raw)
      × HasStreamedItems view bytes items (standing (input_of_reader g.R.Read.remaining) l.stream) × HoldsJust l.store items;
  whole : l.whole ≡ (standing (input_of_reader g.R.Read.remaining) l.stream).input.offset;
}

abbrev pub decreases-records : goal.decreases-records
decreases-records g l = 2 ^ 64 - (standing (input_of_reader g.R.Read.remaining) l.stream).input.offset
