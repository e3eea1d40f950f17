-- The log of a store: the values that it holds, as a CBOR sequence (RFC 8742), of which a cut may
-- leave only a part.
use Rattle.std.specs.Prelude.{◌≡◌, ◌⊎◌, ℕ, ◌^◌, ◌<◌, List, ◌++◌, length, flat_map}
use Rattle.std.specs.Prelude.{Option, Result, Ok, Err}
use Rattle.std.specs.Io.KnownBytes.{Appends}
use Rattle.std.specs.List.{AllByRecursion}
use Rattle.serde_cbor.specs.Acceptable.{IsAcceptable}
use Rattle.serde_cbor.specs.Canonical.{canon}
use Rattle.serde_cbor.specs.CutOff.{IsCutTo}
use Rattle.serde_cbor.specs.Filled.{HasJust}
use Rattle.serde_cbor.specs.Gives.{IsMemoryOrFault}
use Rattle.serde_cbor.specs.Raw.{Raw}
use Rattle.serde_cbor.specs.Sequences.{AreBroken, AreWhole, Follows, ItemsUpTo}
use Rattle.serde_cbor.specs.Spelling.{spell}
use Rattle.serde_cbor.specs.Value.{value}
use Rattle.use_content_store.specs.declared.log.OpenError.{OpenError}
use Rattle.use_content_store.specs.declared.log.OpenError.TheVariants.{Broken, Collision}
use Rattle.use_content_store.specs.declared.log.Opened.{Opened}
use Rattle.use_content_store.specs.declared.store.Store.{Store}
use Rattle.use_content_store.specs.Store.{HasRoomFor, address, at}

-- The store holds the values of the items, and nothing else.
abbrev pub HoldsJust : Store → List Raw → Type 0
HoldsJust s items = HasJust (λ r. address (value r)) (λ r. canon (value r)) (at s) items

-- The encodings of these items, one after the other, are a log of the store.
abbrev pub IsLog : List Raw → Store → Type 0
IsLog items s = AllByRecursion IsAcceptable items × HoldsJust s items

-- Each log of s, with what was written behind it, is a log of t.
abbrev pub KeepsLog : Store → Store → Option (List ℕ) → Option (List ℕ) → Type 0
KeepsLog s t old new = (items : List Raw) → IsLog items s
    → (more : List Raw) × Appends old new (flat_map spell more) × IsLog (items ++ more) t

-- What is made of the bytes of a log: a store of the values of all whole records, and no other. Else
-- the bytes at an offset are refused: they are no record, nor the beginning of one; or one that has
-- the hash of a record before it, of another value.
abbrev pub Opens : List ℕ → Result Opened OpenError → Type 0
Opens bytes (Ok o) = (u : ItemsUpTo bytes o.whole) × HoldsJust o.store u.items × AreWhole u
Opens bytes (Err (Broken offset e)) =
    IsMemoryOrFault e ⊎ ((u : ItemsUpTo bytes offset) × AreBroken u e)
Opens bytes (Err (Collision offset)) = (u : ItemsUpTo bytes offset) × (s : Store) × (r : Raw)
    × HoldsJust s u.items × Follows u r × (HasRoomFor s (value r) → ⊥)

-- The items that are whole are opened, and no other, unless memory runs out or the reader fails.
abbrev pub OpensCut : List Raw → List ℕ → Result Opened OpenError → Type 0
OpensCut items bytes (Ok o) =
    (u : ItemsUpTo bytes o.whole) × IsCutTo items bytes u.items u.rest × IsLog u.items o.store
OpensCut items bytes (Err (Broken offset e)) = IsMemoryOrFault e
OpensCut items bytes (Err (Collision offset)) = ⊥

-- A log, cut off anywhere, opens with all whole records and no other.
abbrev pub CutOffAnywhere : Type 0
CutOffAnywhere = (items : List Raw) (s : Store) (bytes missing : List ℕ)
    (result : Result Opened OpenError)
    → length (flat_map spell items) < 2 ^ 64 → IsLog items s
    → flat_map spell items ≡ bytes ++ missing
    → Opens bytes result → OpensCut items bytes result
