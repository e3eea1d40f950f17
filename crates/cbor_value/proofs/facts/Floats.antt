-- Published: the number of any float is one of binary64, and the shortest float of such a number is
-- a float of it.
use Rattle.std.proofs.Common.{◌≡◌, ◌∙◌, refl}
use Rattle.std.proofs.lemmas.Bool.{cond_both}
use Rattle.std.proofs.lemmas.Float.{T_from_true}
use Rattle.std.specs.Prelude.{ℕ, T, Option, Some, None}
use lib.Ieee.{Float as Number, binary32, binary64, fits, to_bits}
use lib.Ieee.Bits.{of_bits-fits, of_bits-to_bits}
use lib.Ieee.Fits.{fits_widens}
use Rattle.cbor_model.specs.Plain.{Val, float}
use Rattle.cbor_model.specs.Raw.{FloatWidth, half, single, double}
use Rattle.cbor_value.specs.Floats.{number}
use Rattle.cbor_value.specs.Shortest.{half_of, half_or_single, shortest}
use Rattle.cbor_value.proofs.Halves.{half_is, half_held}

pub number_fits : (w : FloatWidth) (bits : ℕ) → T (fits binary64 (number w bits))
number_fits half bits = fits_widens _ (half_held bits)
number_fits single bits = fits_widens _ (of_bits-fits binary32 bits)
number_fits double bits = of_bits-fits binary64 bits

half_cases : (P : Val → Type 0) (b : ℕ) (h : Option ℕ)
    → ((x : ℕ) → h ≡ Some x → P (float half x)) → P (float single b) → P (half_or_single b h)
half_cases P b (Some x) found none = found x refl
half_cases P b None found none = none

pub shortest_cases : (P : Val → Type 0) (x : Number) → T (fits binary64 x)
    → ((w : FloatWidth) (bits : ℕ) → number w bits ≡ x → P (float w bits)) → P (shortest x)
unfolding shortest
shortest_cases P x held each =
    cond_both (fits binary32 x) _ _ P
    (λ fit. let again = of_bits-to_bits binary32 x (T_from_true (fits binary32 x) fit) in
    half_cases P (to_bits binary32 x) (half_of (to_bits binary32 x))
    (λ h is. each half h (half_is (to_bits binary32 x) h is ∙ again))
    (each single (to_bits binary32 x) again))
    (λ wide. each double (to_bits binary64 x) (of_bits-to_bits binary64 x held))
