-- The order of values (draft-ietf-cbor-7049bis-04, section 4.10): each value has a list of numbers,
-- and lists are compared at their first difference.
use Rattle.std.specs.Prelude.{◌≡◌, ℕ, List, [], ◌∷◌, ◌++◌, length, Bool, true, false, ℤ, pos}
use Rattle.std.specs.Prelude.{negsuc, refl}
use Rattle.std.specs.Ordering.{nat_cmp}
use Rattle.std.specs.declared.cmp.Ordering.{Ordering}
use Rattle.std.specs.declared.cmp.Ordering.TheVariants.{Less}
use Rattle.std.specs.Cmp.Lexicographic.{slice_cmp}
use Rattle.cbor_model.specs.Raw.{FloatWidth, half, single, double}
use Rattle.cbor_model.specs.Plain.{Val, null, bool, integer, float, bytes, text, array, map, tag}
use Rattle.cbor_model.specs.Plain.{Vals, no_vals, val, Pairs, no_pairs, pair, count, pair_count}

-- Lists of numbers by their first difference, a prefix before what continues it.
abbrev pub lex : List ℕ → List ℕ → Ordering
lex = slice_cmp nat_cmp

-- the major type (RFC 7049, section 2.1)
abbrev pub major_type : Val → ℕ
major_type (integer (pos n)) = 0
major_type (integer (negsuc n)) = 1
major_type (bytes b) = 2
major_type (text b) = 3
major_type (array vs) = 4
major_type (map ps) = 5
major_type (tag n v) = 6
major_type _ = 7

-- an integer below 0 is -1 - n
abbrev pub magnitude : ℤ → ℕ
magnitude (pos n) = n
magnitude (negsuc n) = n

abbrev pub bool_code : Bool → ℕ
bool_code false = 20
bool_code true = 21

abbrev pub float_code : FloatWidth → ℕ
float_code half = 25
float_code single = 26
float_code double = 27

-- What follows the major type: the argument of the shortest head, and the content.
abbrev mutual
  pub body : Val → List ℕ
  body null = 22 ∷ []
  body (bool b) = bool_code b ∷ []
  body (integer z) = magnitude z ∷ []
  body (float w bits) = float_code w ∷ bits ∷ []
  body (bytes b) = length b ∷ b
  body (text b) = length b ∷ b
  body (array vs) = count vs ∷ flat_all vs
  body (map ps) = pair_count ps ∷ flat_pairs ps
  body (tag n v) = n ∷ major_type v ∷ body v

  pub flat_all : Vals → List ℕ
  flat_all no_vals = []
  flat_all (val v vs) = (major_type v ∷ body v) ++ flat_all vs

  pub flat_pairs : Pairs → List ℕ
  flat_pairs no_pairs = []
  flat_pairs (pair k v ps) = (major_type k ∷ body k) ++ ((major_type v ∷ body v) ++ flat_pairs ps)

-- The list of a value: its major type, and then its body.
unfoldable pub flat : Val → List ℕ
flat v = major_type v ∷ body v

-- The order of values.
abbrev pub val_cmp : Val → Val → Ordering
val_cmp a b = lex (flat a) (flat b)

-- ---- examples

-- 0 stands before -1
zero_first : val_cmp (integer (pos 0)) (integer (negsuc 0)) ≡ Less
unfolding flat
zero_first = refl

-- -1 stands before -24
nearer_first : val_cmp (integer (negsuc 0)) (integer (negsuc 23)) ≡ Less
unfolding flat
nearer_first = refl

-- [100] stands before [0, 0]
counts_first : val_cmp (array (val (integer (pos 100)) no_vals))
    (array (val (integer (pos 0)) (val (integer (pos 0)) no_vals)))
    ≡ Less
unfolding flat
counts_first = refl
