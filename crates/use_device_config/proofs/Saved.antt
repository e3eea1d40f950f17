-- How deep a configuration nests, that it has no string in chunks, and which numbers it has.
use Rattle.std.proofs.Common.{◌≡◌, ◌<◌, refl, ◌^◌, ℕ, Vec, Bool, Option, Some, None, string_bytes, arith}
use Rattle.std.specs.Prelude.{IfSome, String}
use Rattle.std.specs.Global.{Global}
use Rattle.serde_cbor.specs.Document.{IsStorableDocument, text}
use Rattle.serde_cbor.specs.Nesting.{NestsWithin}
use Rattle.serde_cbor.specs.NoChunks.{HasNoChunks}
use Rattle.serde_cbor.specs.PartLists.{document_if}
use Rattle.serde_cbor.specs.Raw.{AreBytes}
use Rattle.serde_cbor.proofs.facts.Documents.{bool_nests, integer_nests, text_nests, unit_variant_nests, newtype_variant_nests, items_nest, sequence_nests}
use Rattle.serde_cbor.proofs.facts.Documents.{no_fields_nest, field_nests, field_if_nests, structure_nests, bytes_fit, bytes_stored, items_unchunked}
use Rattle.use_device_config.specs.Configs.{most_levels}
use Rattle.use_device_config.specs.contracts.config.ConfigSerialize.TheImpl as config
use Rattle.use_device_config.specs.contracts.config.ConfigRoundTrip.TheImpl as law
use Rattle.use_device_config.specs.contracts.config.ModeSerialize.TheImpl as mode
use Rattle.use_device_config.specs.declared.config.Config.{Config}
use Rattle.use_device_config.specs.declared.config.Mode.{Mode}
use Rattle.use_device_config.specs.declared.config.Mode.TheVariants.{Idle, Every}

-- ---- nesting

mode_nests : (m : Mode) → NestsWithin 3 (mode.ghosts.document m)
mode_nests Idle = unit_variant_nests 3 _ _
mode_nests (Every n) = newtype_variant_nests 2 _ _ _ (integer_nests 2 _)

name_nests : (o : Option (String Global)) → IfSome (document_if (λ s. text (string_bytes s)) o) (NestsWithin 3)
name_nests None = tt
name_nests (Some s) = text_nests 3 _

pub config_nests : (c : Config) → NestsWithin most_levels (config.ghosts.document c)
config_nests c = structure_nests 3 _
    (field_nests 3 0 _ _ _ (mode_nests c.mode)
    (field_nests 3 1 _ _ _ (sequence_nests 2 _ _ (items_nest 2 _ c.channels.items (λ x. integer_nests 2 _)))
    (field_if_nests 3 2 _ _ _ (name_nests c.name)
    (field_nests 3 3 _ _ _ (bool_nests 3 c.verbose) (no_fields_nest 3)))))

-- ---- chunks

module _ (channels : Vec ℕ Global) (verbose : Bool) where
  unchunked : (m : Mode) (name : Option (String Global))
      → HasNoChunks (config.ghosts.document (record { mode = m; channels = channels; name = name; verbose = verbose }))
  unchunked Idle None = (tt, (items_unchunked _ channels.items (λ x. tt), (tt, tt)))
  unchunked Idle (Some s) = (tt, (items_unchunked _ channels.items (λ x. tt), (tt, (tt, tt))))
  unchunked (Every n) None = (tt, (items_unchunked _ channels.items (λ x. tt), (tt, tt)))
  unchunked (Every n) (Some s) = (tt, (items_unchunked _ channels.items (λ x. tt), (tt, (tt, tt))))

-- no string that is written is in chunks
pub config_unchunked : (c : Config) → HasNoChunks (config.ghosts.document c)
config_unchunked c = unchunked c.channels c.verbose c.mode c.name

-- ---- ranges

abbrev pub IsInRange : Mode → Type 0
IsInRange Idle = Unit {0}
IsInRange (Every n) = n < 2 ^ 32

pub other_is : (m : Mode) → ((n : ℕ) → m ≡ Every n → ⊥) → IsInRange m
other_is Idle other = tt
other_is (Every n) other = absurd (other n refl)

module _ (channels : Vec ℕ Global) (verbose : Bool) (bytes : AreBytes channels.items) where
  pub fits : (m : Mode) (name : Option (String Global)) → IsInRange m
      → law.ghosts.law.fits (record { mode = m; channels = channels; name = name; verbose = verbose })
  fits Idle None h = (tt, (bytes_fit channels.items bytes, (tt, tt)))
  fits Idle (Some s) h = (tt, (bytes_fit channels.items bytes, (tt, tt)))
  fits (Every n) None h = (omega arith, (bytes_fit channels.items bytes, (tt, tt)))
  fits (Every n) (Some s) h = (omega arith, (bytes_fit channels.items bytes, (tt, tt)))

  pub stored : (m : Mode) (name : Option (String Global)) → IsInRange m
      → IsStorableDocument (config.ghosts.document (record { mode = m; channels = channels; name = name; verbose = verbose }))
  stored Idle None h = (tt, (bytes_stored channels.items bytes, (tt, tt)))
  stored Idle (Some s) h = (tt, (bytes_stored channels.items bytes, (tt, (tt, tt))))
  stored (Every n) None h = (omega arith, (bytes_stored channels.items bytes, (tt, tt)))
  stored (Every n) (Some s) h = (omega arith, (bytes_stored channels.items bytes, (tt, (tt, tt))))
