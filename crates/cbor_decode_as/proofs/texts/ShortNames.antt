-- A number below 24, or a name of up to 23 bytes, which were at hand with their head.
use Rattle.std.proofs.Common.{◌≡◌, ◌<◌, ◌≤◌, ◌^◌, ◌+◌, ℕ, Bool, List, [], ◌∷◌, Some, inl, inr, length, take, refl, sym, subst, arith}
use Rattle.std.proofs.Math.Seq.{take-length}
use Rattle.std.proofs.lemmas.List.{length-take-le}
use Rattle.std.specs.Str.{IsUtf8}
use Rattle.cbor_model.specs.Formats.{Formats}
use Rattle.cbor_model.specs.Raw as raw
use Rattle.cbor_model.specs.Reader.{item_at}
use Rattle.cbor_io.specs.declared.head.Major.TheVariants.{UnsignedInteger}
use Rattle.cbor_io.specs.declared.read_error.ReadError.{ReadError}
use Rattle.cbor_io.specs.declared.read_error.ReadErrorCode.{ReadErrorCode}
use Rattle.cbor_read.specs.Source.{Input, TookKept}
use Rattle.cbor_decode.specs.Gives.{Step}
use Rattle.cbor_decode.specs.declared.head.Head.TheVariants as head
use Rattle.cbor_decode.proofs.ShortHeads.{short_step}
use Rattle.cbor_decode_as.specs.Enums.{IsName}
use Rattle.cbor_decode_as.specs.Identifiers.{place_of, IsFirst, IsIdentifier, IsPlaceNumber, IsShortName}
use Rattle.cbor_decode_as.specs.Takes.{raws, IsRead}
use Rattle.cbor_decode_as.proofs.heads.Opened.{head_opens}
use Rattle.cbor_decode_as.proofs.numbers.Scalars.{takes_scalar}
use Rattle.cbor_decode_as.proofs.texts.Identifiers.{string_names}
use Rattle.cbor_decode_as.proofs.texts.ShortTexts.{head_and_content, short_text_taken}

-- ---- what the bytes begin with

pub number_first : (names : List (List ℕ)) (bytes behind : List ℕ) (b i : ℕ) → bytes ≡ b ∷ behind → b < 24 → place_of names b ≡ Some i → IsShortName names (take 1 bytes) i
number_first names bytes behind b i is short place = rw is (inl (short, refl, place))

pub text_first : (names : List (List ℕ)) (bytes behind : List ℕ) (n i : ℕ) → bytes ≡ (0x60 + n) ∷ behind → n < 24 → n ≤ length behind → IsUtf8 (take n behind) → IsFirst names (take n behind) i → IsShortName names (take (1 + n) bytes) i
text_first names bytes behind n i is short enough utf8 first =
    let len : length (take n behind) ≡ n = length-take-le n behind enough in
    rw (head_and_content bytes behind (0x60 + n) n is) (inr (omega (arith, len), omega (arith, len, short), utf8, first))

-- ---- what was taken

module _ (names : List (List ℕ)) (allowed : ReadErrorCode → Bool) (f : Formats) (levels : ℕ) (kept : ReadError) (s t : Input) (i : ℕ) where
  abbrev Named : Type 0
  Named = Step s t (λ l bs rest. IsRead (IsName names) (item_at (raws f l) levels bs) i rest)

  number_taken : (b : ℕ) → b < 24 → place_of names b ≡ Some i → TookKept s t (b ∷ []) → Named
  number_taken b short place took =
      let step = short_step b b UnsignedInteger (λ e. absurd cc) (omega (arith, short)) (omega (arith, short)) short s t (b ∷ []) refl took in
      let opens = head_opens f s t levels levels (head.Unsigned b) (λ e. absurd cc) refl step in
      takes_scalar allowed f (λ r k. IsIdentifier names r (Some k)) levels s t kept (head.Unsigned b) i (λ w. raw.unsigned w b) (λ l inner w mid. refl) (λ w. sym place) (levels, opens)

  text_taken : (text : List ℕ) → length text < 24 → IsUtf8 text → IsFirst names text i → TookKept s t ((0x60 + length text) ∷ text) → t.offset < 2 ^ 64 → Named
  text_taken text short utf8 first took below =
      let all : take (length text) text ≡ text = take-length text in
      short_text_taken allowed f (λ r k. IsIdentifier names r (Some k)) levels kept s t (length text) text i short (omega arith)
      (λ r is. string_names (IsPlaceNumber names) names r (take (length text) text) (Some i) is (subst (λ (x : List ℕ). IsFirst names x i) (sym all) first))
      (subst IsUtf8 (sym all) utf8) (subst (λ (x : List ℕ). TookKept s t ((0x60 + length text) ∷ x)) (sym all) took) below

  pub short_name_taken : (p : List ℕ) → IsShortName names p i → TookKept s t p → t.offset < 2 ^ 64 → Named
  short_name_taken [] h took below = absurd h
  short_name_taken (b ∷ bs) (inl h) took below = number_taken b h.0 h.2 (subst (λ (x : List ℕ). TookKept s t (b ∷ x)) h.1 took)
  short_name_taken (b ∷ bs) (inr h) took below = text_taken bs h.1 h.2 h.3 (subst (λ (x : ℕ). TookKept s t (x ∷ bs)) h.0 took) below
