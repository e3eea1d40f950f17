-- A sequence of items (RFC 8742) that was read up to an offset.
use Rattle.std.specs.Prelude.{◌≡◌, ◌⊎◌, ℕ, List, [], ◌∷◌, ◌++◌, length, flat_map}
use Rattle.cbor_model.specs.Acceptable.{max_depth}
use Rattle.cbor_model.specs.Raw.{Raw}
use Rattle.cbor_model.specs.Spelling.{spell}
use Rattle.cbor_io.specs.declared.error.Error.{Error}
use Rattle.cbor_decode.specs.FirstRefusal.{ReportsFirst}
use Rattle.cbor_de.specs.Items.{AreMostItems, ItemsBegin}
use Rattle.cbor_round_trip.specs.CutOff.{SaysCutOff, bounds_at}

-- The items before the offset, and the bytes from there on.
pub record ItemsUpTo (bytes : List ℕ) (offset : ℕ) : Type 0 where
  pub items : List Raw
  pub rest : List ℕ
  pub begin : ItemsBegin max_depth bytes items rest
  pub place : offset ≡ length (flat_map spell items)

-- This item follows them.
abbrev pub Follows : {bytes : List ℕ} {offset : ℕ} → ItemsUpTo bytes offset → Raw → Type 0
Follows {bytes} u r = (rest : List ℕ) × ItemsBegin max_depth bytes (u.items ++ r ∷ []) rest

-- No longer list of items begins the bytes: what follows these is nothing, or an item that goes on
-- beyond the end.
pub record AreWhole {bytes : List ℕ} {offset : ℕ} (u : ItemsUpTo bytes offset) : Type 0 where
  pub most : AreMostItems max_depth bytes u.items u.rest
  pub cut_off : (u.rest ≡ [])
      ⊎ ((e : Error) × SaysCutOff e × ReportsFirst (bounds_at offset) u.rest e)

-- No longer list of items begins the bytes: what follows these is no beginning of an item, and the
-- error reports why.
pub record AreBroken {bytes : List ℕ} {offset : ℕ} (u : ItemsUpTo bytes offset) (e : Error)
    : Type 0 where
  pub most : AreMostItems max_depth bytes u.items u.rest
  pub reports : ReportsFirst (bounds_at offset) u.rest e
  pub goes_on : ¬ (SaysCutOff e)
