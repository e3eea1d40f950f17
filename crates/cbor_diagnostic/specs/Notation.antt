-- Diagnostic notation (RFC 8949, section 8): which text stands for a value. It is one text, but for
-- floats, where any numeral will do that reads back.
use Rattle.std.specs.Prelude.{◌≡◌, ℕ, ◌==◌, Bool, true, false, List, [], ◌∷◌, ◌++◌, codes}
use Rattle.std.specs.Prelude.{Option, Some, None, if◌then◌else◌}
use Rattle.std.specs.Fmt.{decimal, signed_decimal}
use Rattle.cbor_model.specs.Plain.{Val, null, bool, integer, float, bytes, text, array, map, tag}
use Rattle.cbor_model.specs.Plain.{Vals, no_vals, val, Pairs, no_pairs, pair, count, pair_count}
use Rattle.cbor_value.specs.Floats.{number}
use Rattle.cbor_diagnostic.specs.Layout.{inner_indent, lead, closing}
use Rattle.cbor_diagnostic.specs.Texts.{byte_string, quoted}
use Rattle.cbor_diagnostic.specs.Numerals.{IsFloatNotation}

-- each item and each pair on a line of its own, from no indent on
abbrev pub pretty : Option ℕ
pretty = Some 0

abbrev mutual
  pub IsNotation : Option ℕ → Val → List ℕ → Type 0
  IsNotation indent null out = out ≡ codes "null"
  IsNotation indent (bool b) out = out ≡ (if b then codes "true" else codes "false")
  IsNotation indent (integer z) out = out ≡ signed_decimal z
  IsNotation indent (float w bits) out = IsFloatNotation (number w bits) out
  IsNotation indent (bytes b) out = out ≡ byte_string b
  IsNotation indent (text t) out = out ≡ quoted t
  IsNotation indent (array vs) out = (items : List ℕ) × AreItems (inner_indent indent) true vs items
      × (out ≡ codes "[" ++ (items ++ (closing indent (count vs == 0) ++ codes "]")))
  IsNotation indent (map ps) out = (pairs : List ℕ) × ArePairs (inner_indent indent) true ps pairs
      × (out ≡ codes "{" ++ (pairs ++ (closing indent (pair_count ps == 0) ++ codes "}")))
  IsNotation indent (tag n v) out = (inside : List ℕ) × IsNotation indent v inside
      × (out ≡ decimal n ++ (codes "(" ++ (inside ++ codes ")")))

  -- items, of which the first of all has no comma before it
  pub AreItems : Option ℕ → Bool → Vals → List ℕ → Type 0
  AreItems indent is_first no_vals out = out ≡ []
  AreItems indent is_first (val v vs) out = (item others : List ℕ) × IsNotation indent v item
      × AreItems indent false vs others × (out ≡ lead indent is_first ++ (item ++ others))

  pub ArePairs : Option ℕ → Bool → Pairs → List ℕ → Type 0
  ArePairs indent is_first no_pairs out = out ≡ []
  ArePairs indent is_first (pair k v ps) out = (key value others : List ℕ)
      × IsNotation indent k key × IsNotation indent v value × ArePairs indent false ps others
      × (out ≡ lead indent is_first ++ ((key ++ (codes ": " ++ value)) ++ others))

-- a key and its value
pub record IsPair (indent : Option ℕ) (k v : Val) (out : List ℕ) : Type 0 where
  pub key : List ℕ
  pub value : List ℕ
  pub of_key : IsNotation indent k key
  pub of_value : IsNotation indent v value
  pub is : out ≡ key ++ (codes ": " ++ value)
