-- Items one after the other, whose bytes are cut off anywhere.
use Rattle.std.specs.Prelude.{◌≡◌, ◌≢◌, ◌⊎◌, ℕ, List, [], ◌∷◌, ◌++◌, flat_map, None}
use Rattle.cbor_model.specs.Acceptable.{max_depth}
use Rattle.cbor_model.specs.Allowed.{Limits}
use Rattle.cbor_model.specs.Raw.{Raw}
use Rattle.cbor_model.specs.Spelling.{spell}
use Rattle.cbor_io.specs.Error.{code_of, category_of}
use Rattle.cbor_io.specs.declared.error.Category.TheVariants.{Eof}
use Rattle.cbor_io.specs.declared.error.Error.{Error}
use Rattle.cbor_io.specs.declared.error.ErrorCode.TheVariants.{LengthOutOfRange}

-- The bytes are a part of the first item's, and not all of them; or there is no item, and no byte.
abbrev pub IsPartOfFirst : List Raw → List ℕ → Type 0
IsPartOfFirst [] rest = rest ≡ []
IsPartOfFirst (r ∷ rs) rest = (missing : List ℕ) × (missing ≢ []) × (rest ++ missing ≡ spell r)

-- The bytes are all those of the items `whole`, and of what follows these a part of the first.
pub record IsCutTo (items : List Raw) (bytes : List ℕ) (whole : List Raw) (rest : List ℕ)
    : Type 0 where
  pub behind : List Raw
  pub are : items ≡ whole ++ behind
  pub parts : bytes ≡ flat_map spell whole ++ rest
  pub part : IsPartOfFirst behind rest

-- The error says that an item goes on beyond the end of the bytes: they end within it, or it names
-- a length that no bytes have.
abbrev pub SaysCutOff : Error → Type 0
SaysCutOff e = (category_of (code_of e) ≡ Eof) ⊎ (code_of e ≡ LengthOutOfRange)

-- what bounds an item of a sequence, at its offset: 127 levels, and no scratch
abbrev pub bounds_at : ℕ → Limits
bounds_at offset = record { start = offset; levels = max_depth; scratch = None }
