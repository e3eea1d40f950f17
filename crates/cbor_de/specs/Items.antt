-- Items that stand one after the other in the bytes: their spellings, joined.
use Rattle.std.specs.Prelude.{◌≡◌, ◌≤◌, ℕ, List, [], ◌∷◌, ◌++◌, length, flat_map, refl}
use Rattle.std.specs.List.{AllByRecursion}
use Rattle.cbor_model.specs.Head.{no_bytes}
use Rattle.cbor_model.specs.Raw.{Raw, unsigned, simple, null_item}
use Rattle.cbor_model.specs.Spelling.{spell}
use Rattle.cbor_model.specs.Acceptable.{IsAcceptableWithin}

-- The spellings of these items, each acceptable within so many levels, are joined a front of the
-- bytes, and the rest follows.
pub record ItemsBegin (levels : ℕ) (bytes : List ℕ) (items : List Raw) (rest : List ℕ) : Type 0 where
  pub acceptable : AllByRecursion (IsAcceptableWithin levels) items
  pub spelled : bytes ≡ flat_map spell items ++ rest

-- Joined, they are the bytes.
abbrev pub AreItems : ℕ → List ℕ → List Raw → Type 0
AreItems levels bytes items = ItemsBegin levels bytes items []

-- No longer list of such items begins the bytes.
pub record AreMostItems (levels : ℕ) (bytes : List ℕ) (items : List Raw) (rest : List ℕ)
    : Type 0 where
  pub begin : ItemsBegin levels bytes items rest
  pub most : (others : List Raw) (after : List ℕ) → ItemsBegin levels bytes others after
      → length others ≤ length items

-- a longest list, and what follows its items
pub record HasMostItems (levels : ℕ) (bytes : List ℕ) : Type 0 where
  pub items : List Raw
  pub rest : List ℕ
  pub are : AreMostItems levels bytes items rest

-- ---- examples

-- 01 f6 is 1 and null
one_and_null : flat_map spell (unsigned no_bytes 1 ∷ simple null_item ∷ []) ≡ 0x01 ∷ 0xf6 ∷ []
unfolding spell
one_and_null = refl
