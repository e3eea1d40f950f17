-- Floats, as the numbers that they are.
use Rattle.std.proofs.Common.{◌≡◌, ◌∙◌, sym, ap, subst, ℕ, Bool, T, List, refl}
use Rattle.std.specs.Float.{binary32}
use Rattle.std.specs.Float.Ieee as ieee
use Rattle.std.specs.Float.Ieee.{fits}
use Rattle.cbor_model.specs.Raw as raw
use Rattle.cbor_model.specs.Raw.{Raw, FloatWidth}
use Rattle.cbor_model.specs.Readable.{PassesTags}
use Rattle.cbor_model.specs.Reader.{Reads}
use Rattle.cbor_io.specs.declared.read_error.ReadErrorCode.{ReadErrorCode}
use Rattle.cbor_read.specs.Source.{Input}
use Rattle.cbor_value.specs.Floats.{number, number_of}
use Rattle.cbor_value.specs.declared.Float.{Float}
use Rattle.cbor_value.specs.declared.Float.TheVariants.{Half, Single, Double}
use Rattle.cbor_decode.specs.Gives.{Limits, Step}
use Rattle.cbor_decode_as.specs.Scalars.{IsFloatItem, IsFloatOf, IsSingleOf, float_parts}
use Rattle.cbor_decode_as.specs.Takes.{IsRead}
use Rattle.cbor_decode_as.proofs.texts.Lending.{made_read}

by_parts : (f : Float) → number (float_parts f).0 (float_parts f).1 ≡ number_of f
by_parts (Half n) = refl
by_parts (Single n) = refl
by_parts (Double n) = refl

-- a float is one of its number
of_number : (r : Raw) (f : Float) → IsFloatItem r f → IsFloatOf r (number_of f)
of_number (raw.float w n) f is = sym (ap (λ (p : FloatWidth × ℕ). number p.0 p.1) is) ∙ by_parts f
of_number _ f is = absurd is

module _ (allowed : ReadErrorCode → Bool) (read : Limits → List ℕ → Reads Raw) (s : Input) where
  pub double_read : (t : Input) (f : Float) (x : ieee.Float) → x ≡ number_of f
      → Step s t (λ l bs rest. IsRead (PassesTags IsFloatItem) (read l bs) f rest)
      → Step s t (λ l bs rest. IsRead (PassesTags IsFloatOf) (read l bs) x rest)
  double_read t f x same step =
      made_read allowed IsFloatOf IsFloatItem read s t x f
      (λ r is. subst (IsFloatOf r) (sym same) (of_number r f is)) step

  pub single_read : (t : Input) (f : Float) (x : ieee.Float) → x ≡ number_of f
      → T (fits binary32 x)
      → Step s t (λ l bs rest. IsRead (PassesTags IsFloatItem) (read l bs) f rest)
      → Step s t (λ l bs rest. IsRead (PassesTags IsSingleOf) (read l bs) x rest)
  single_read t f x same held step =
      made_read allowed IsSingleOf IsFloatItem read s t x f
      (λ r is. (subst (IsFloatOf r) (sym same) (of_number r f is), held)) step
