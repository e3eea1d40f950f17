-- Numbers after their first byte.
use Rattle.std.proofs.Common.{◌≡◌, ◌≤◌, ◌<◌, ◌/◌, ◌%◌, ℕ, List, Option, Ok, pos, ◌^◌, refl, ap, ◌∙◌, arith, rules, to_z}
use Rattle.std.proofs.lemmas.Bool.{lt-ltb}
use Rattle.std.specs.Int.{w8, w16, w32, w64, w128}
use Rattle.std.specs.Prelude.{ℤ}
use Rattle.std.proofs.lemmas.Int.{to_z_pos}
use Rattle.cbor_value.specs.View.{view, float_view}
use Rattle.cbor_value.specs.declared.Float.{Float}
use Rattle.cbor_value.specs.declared.Value.{the_lemmas}
use Rattle.cbor_value.specs.declared.Value.TheVariants.{Integer}
use Rattle.cbor_value.specs.declared.Value.TheVariants as value
use Rattle.cbor_model.specs.Formats.{Formats}
use Rattle.cbor_model.specs.Raw.{half, single, double}
use Rattle.cbor_model.specs.Plain.{Val}
use Rattle.cbor_model.specs.Plain as plain
use Rattle.cbor_model.specs.Reader.{Reads, ◌>>=◌, number_at, number_behind, float_at, simple_at, content_at, after_first}
use Rattle.cbor_decode.specs.Gives.{Limits, values}

module _ (f : Formats) (l : Limits) (inner : Option (List ℕ → Reads Val)) (first : ℕ) (bs : List ℕ) where
  pub small_at : first ≤ 23 → after_first (values f l) inner first bs ≡ Ok (plain.integer (pos first), bs)
  unfolding after_first number_behind content_at
  small_at small =
      let major : first / 32 ≡ 0 = omega (arith, small) in
      let low : first % 32 ≡ first = omega (arith, small) in
      rw (major, low, lt-ltb first 24 (omega (arith, small))) refl

  pub unsigned_of_1 : first ≡ 24 → after_first (values f l) inner first bs ≡ (number_at w8 bs >>= (λ n. Ok (plain.integer (pos n.0), n.1)))
  unfolding after_first number_behind content_at
  unsigned_of_1 is = rw is refl

  pub unsigned_of_2 : first ≡ 25 → after_first (values f l) inner first bs ≡ (number_at w16 bs >>= (λ n. Ok (plain.integer (pos n.0), n.1)))
  unfolding after_first number_behind content_at
  unsigned_of_2 is = rw is refl

  pub unsigned_of_4 : first ≡ 26 → after_first (values f l) inner first bs ≡ (number_at w32 bs >>= (λ n. Ok (plain.integer (pos n.0), n.1)))
  unfolding after_first number_behind content_at
  unsigned_of_4 is = rw is refl

  pub unsigned_of_8 : first ≡ 27 → after_first (values f l) inner first bs ≡ (number_at w64 bs >>= (λ n. Ok (plain.integer (pos n.0), n.1)))
  unfolding after_first number_behind content_at
  unsigned_of_8 is = rw is refl

  pub float_of_2 : first ≡ 249 → after_first (values f l) inner first bs ≡ (number_at w16 bs >>= (λ n. Ok (plain.float half n.0, n.1)))
  unfolding after_first content_at simple_at float_at
  float_of_2 is = rw is refl

  pub float_of_4 : first ≡ 250 → after_first (values f l) inner first bs ≡ (number_at w32 bs >>= (λ n. Ok (plain.float single n.0, n.1)))
  unfolding after_first content_at simple_at float_at
  float_of_4 is = rw is refl

  pub float_of_8 : first ≡ 251 → after_first (values f l) inner first bs ≡ (number_at w64 bs >>= (λ n. Ok (plain.float double n.0, n.1)))
  unfolding after_first content_at simple_at float_at
  float_of_8 is = rw is refl

-- what the values stand for

pub view_integer : (n : ℕ) → n < 2 ^ 64 → view (Integer (to_z w128 n)) ≡ plain.integer (pos n)
view_integer n fits =
    let whole : view (Integer (pos n)) ≡ plain.integer (pos n) = search (rules, the_lemmas) in
    ap (λ (z : ℤ). view (Integer z)) (to_z_pos w128 n (omega (arith, fits))) ∙ whole

pub view_float : (x : Float) → view (value.Float x) ≡ float_view x
view_float x = search (rules, the_lemmas)
