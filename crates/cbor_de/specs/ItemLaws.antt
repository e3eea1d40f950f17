-- The laws.
use Rattle.std.specs.Prelude.{◌≡◌, ℕ, ◌^◌, ◌<◌, List, [], length}
use Rattle.cbor_model.specs.Raw.{Raw, AreBytes}
use Rattle.cbor_de.specs.Items.{AreItems, AreMostItems, HasMostItems}

-- The bytes are one list's spellings at most.
abbrev pub OneListOfItems : Type 0
OneListOfItems = (levels : ℕ) (bytes : List ℕ) (rs ss : List Raw)
    → AreItems levels bytes rs → AreItems levels bytes ss → rs ≡ ss

-- There is one longest list, and where a list's spellings are all of the bytes it is that.
abbrev pub OneLongestList : Type 0
OneLongestList = (levels : ℕ) (bytes : List ℕ) (rs ss : List Raw) (x y : List ℕ)
    → AreMostItems levels bytes rs x → AreMostItems levels bytes ss y → (rs ≡ ss) × (x ≡ y)

abbrev pub AllAreMost : Type 0
AllAreMost = (levels : ℕ) (bytes : List ℕ) (rs : List Raw)
    → AreItems levels bytes rs → AreMostItems levels bytes rs []

-- Bytes, fewer than 2^64, have a longest list.
abbrev pub HasLongestList : Type 0
HasLongestList = (levels : ℕ) (bytes : List ℕ)
    → AreBytes bytes → length bytes < 2 ^ 64 → HasMostItems levels bytes
