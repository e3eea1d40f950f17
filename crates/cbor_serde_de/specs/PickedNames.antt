-- Which name a key picks.
use Rattle.std.specs.Prelude.{◌≡◌, ◌⊎◌, ◌^◌, ◌-◌, ◌<◌, ◌≤◌, ℕ, ℤ, pos, negsuc, Bool, true, false, not}
use Rattle.std.specs.Prelude.{List, length, take, count_by, HoldsAt, MatchOption}
use Rattle.std.specs.Fmt.{signed_decimal}
use Rattle.std.specs.Str.{IsUtf8}
use Rattle.serde.specs.Names.{Finds}
use Rattle.serde.specs.declared.name.Name.{Name}
use Rattle.cbor_model.specs.Raw.{Raw}
use Rattle.cbor_model.specs.Readable.{IsInteger, IsString}
use Rattle.cbor_serde_options.specs.IntegerKeys.{key_number}

-- what stands for no name
abbrev pub no_place : ℕ
no_place = 2 ^ 64 - 1

-- The name that a text stands for; where names are integers, none that is an integer's text.
abbrev pub PicksText : Bool → List Name → List ℕ → ℕ → Type 0
PicksText false names key at = Finds names key at
PicksText true names key at = MatchOption (key_number key) (Finds names key at) (λ z. at ≡ no_place)

-- the same of bytes; what isn't UTF-8 stands for none
pub record PicksBytes (integer_keys : Bool) (names : List Name) (key : List ℕ) (at : ℕ) : Type 0 where
  pub text : IsUtf8 key → PicksText integer_keys names key at
  pub other : (IsUtf8 key → ⊥) → at ≡ no_place

-- how many of the names are read
abbrev pub count_read : List Name → ℕ
count_read names = count_by (λ n. not n.skipped) names

-- The name that is read and has so many such before it; none, where there are no more.
pub record IsNumbered (names : List Name) (number at : ℕ) : Type 0 where
  pub read : at < length names → HoldsAt (λ n. n.skipped ≡ false) names at
  pub before : at < length names → count_read (take at names) ≡ number
  pub past : length names ≤ at → count_read names ≤ number
  pub place : (at < length names) ⊎ (at ≡ no_place)

-- The name that an integer stands for: its decimal text, where names are integers, and else by its
-- number.
abbrev pub PicksInteger : Bool → List Name → ℤ → ℕ → Type 0
PicksInteger true names z at = Finds names (signed_decimal z) at
PicksInteger false names (pos n) at = IsNumbered names n at
PicksInteger false names (negsuc n) at = at ≡ no_place

-- The name that an item stands for, which is a text, bytes or an integer.
abbrev pub PicksItem : Bool → List Name → Raw → ℕ → Type 0
PicksItem integer_keys names r at =
    ((key : List ℕ) × IsString r key × PicksBytes integer_keys names key at)
    ⊎ ((z : ℤ) × IsInteger r z × PicksInteger integer_keys names z at)
