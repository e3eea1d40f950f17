-- By which keys the fields of a struct are known.
use Rattle.std.specs.Prelude.{◌≡◌, ℕ, ℤ, List, length, map, Option, Some, None, IfSome}
use Rattle.std.specs.Option.{option_map}
use Rattle.cbor_parts.specs.declared.FieldKeys.{FieldKeys}

-- The names of the fields, and where their keys are integers, these: one for each field, in the
-- same order.
pub record Keys : Type 0 where
  pub names : List (List ℕ)
  pub labels : Option (List ℤ)

abbrev pub named_keys : List (List ℕ) → Keys
named_keys names = record { names = names; labels = None }

abbrev pub labelled_keys : List (List ℕ) → List ℤ → Keys
labelled_keys names labels = record { names = names; labels = Some labels }

-- what is handed over
abbrev pub keys_of : FieldKeys → Keys
keys_of keys = record {
  names = map (λ n. n.now) keys.names.now;
  labels = option_map (λ ls. ls.now) keys.labels;
}

-- they are the keys of so many fields
abbrev pub AreKeysOf : ℕ → Keys → Type 0
AreKeysOf n keys = (length keys.names ≡ n) × IfSome keys.labels (λ ls. length ls ≡ n)
