-- What bytes say to a device.
use Rattle.std.specs.Prelude.{◌≡◌, ℕ, false, List, [], None}
use Rattle.serde_cbor.specs.Document.{Doc}
use Rattle.serde_cbor.specs.Raw.{Raw}
use Rattle.serde_cbor.specs.Said.{SaysOnlyWithin, SaysWithin}
use Rattle.use_device_config.specs.declared.config.Config.{Config}
use Rattle.use_device_config.specs.declared.config.Mode.TheVariants.{Idle}

-- the configuration of a device that was given none
abbrev pub IsFactorySetting : Config → Type 0
IsFactorySetting c =
    (c.mode ≡ Idle) × (c.channels.items ≡ []) × (c.name ≡ None) × (c.verbose ≡ false)

-- how deep the arrays, maps and tags of a configuration may be nested
abbrev pub most_levels : ℕ
most_levels = 4

-- The bytes are one item, nested no deeper, that is read as the configuration.
abbrev pub Says : {C : Type 0} → (Raw → C → Type 0) → List ℕ → C → Type 0
Says reads bytes config = SaysWithin most_levels reads bytes config

-- The bytes say this configuration, and no other but of the same document. None of their strings is
-- in chunks, so that they need no scratch.
abbrev pub SaysOnly : {C : Type 0} → (C → Doc) → (Raw → C → Type 0) → List ℕ → C → Type 0
SaysOnly document reads bytes config = SaysOnlyWithin most_levels document reads bytes config
