-- A store of values by their contents.
use Rattle.std.specs.Prelude.{◌≡◌, ◌⊎◌, ℕ, List, [], Option, None, Some, option_map}
use Rattle.std.specs.BTreeMap.{get}
use Rattle.std.specs.Cmp.Lexicographic.{slice_cmp}
use Rattle.std.specs.Map.{update}
use Rattle.std.specs.Ordering.{nat_cmp}
use Rattle.std.specs.Str.{bytes_eq}
use Rattle.sha2.specs.Sha256.{sha256}
use Rattle.serde_cbor.specs.Plain.{Val}
use Rattle.serde_cbor.specs.Canonical.{canon}
use Rattle.use_content_store.specs.declared.store.Put.{Put}
use Rattle.use_content_store.specs.declared.store.Put.TheVariants.{Stored, Collision}
use Rattle.use_content_store.specs.declared.store.Store.{Store}

-- what the store has under a hash
abbrev pub at : Store → List ℕ → Option (List ℕ)
at s hash = option_map (λ b. b.items) (get (slice_cmp nat_cmp) s.entries hash)

-- The address of a value: the SHA-256 (FIPS 180-4) of its canonical encoding.
abbrev pub address : Val → List ℕ
address v = sha256 (canon v)

-- The value is in the store: its canonical encoding stands at its address, and not another one of
-- the same hash. No hash is taken to be free of collisions.
abbrev pub Holds : Store → Val → Type 0
Holds s v = at s (address v) ≡ Some (canon v)

-- The two stores have the same under each hash.
abbrev pub HoldsTheSame : Store → Store → Type 0
HoldsTheSame s t = (hash : List ℕ) → at t hash ≡ at s hash

-- t is s with these bytes put under the hash.
abbrev pub Has : Store → List ℕ → List ℕ → Store → Type 0
Has s hash bytes t = (q : List ℕ) → at t q ≡ update bytes_eq (at s) hash (Some bytes) q

-- Nothing stands at the value's address, or the value does.
abbrev pub HasRoomFor : Store → Val → Type 0
HasRoomFor s v = (at s (address v) ≡ None) ⊎ Holds s v

-- What came of putting the value into s, which is t then.
abbrev pub Puts : Store → Val → Store → Put → Type 0
Puts s v t Stored = HasRoomFor s v × Has s (address v) (canon v) t
Puts s v t Collision = HoldsTheSame s t × (HasRoomFor s v → ⊥)

-- What is written of a value that is put: nothing where something stands at its address.
abbrev pub written : Option (List ℕ) → Val → List ℕ
written None v = canon v
written (Some other) v = []
