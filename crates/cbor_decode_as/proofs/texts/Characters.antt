-- A text of one ASCII character, whose two bytes were at hand.
use Rattle.std.proofs.Common.{◌≡◌, ◌∙◌, ◌<◌, ◌≤◌, ◌^◌, ℕ, Bool, List, [], ◌∷◌, length, take, slice_index, refl, ap, subst, arith, ltb, true}
use Rattle.std.specs.Char.{IsScalar, encode_utf8}
use Rattle.std.specs.Str.{IsUtf8}
use Rattle.std.proofs.lemmas.Bool.{lt-ltb}
use Rattle.std.proofs.lemmas.Str.{IsUtf8-encode}
use Rattle.cbor_model.specs.Formats.{Formats}
use Rattle.cbor_model.specs.Readable.{PassesTags}
use Rattle.cbor_model.specs.Reader.{item_at}
use Rattle.cbor_io.specs.declared.read_error.ReadError.{ReadError}
use Rattle.cbor_io.specs.declared.read_error.ReadErrorCode.{ReadErrorCode}
use Rattle.cbor_read.specs.Source.{Input, TookKept}
use Rattle.cbor_decode.specs.Gives.{Step}
use Rattle.cbor_decode_as.specs.Strings.{IsCharacter}
use Rattle.cbor_decode_as.specs.Takes.{raws, IsRead}
use Rattle.cbor_decode_as.proofs.texts.ShortTexts.{short_text_taken}

pub front_two : (hand : List ℕ) (a b : ℕ) → 2 ≤ length hand → slice_index hand 0 ≡ a → slice_index hand 1 ≡ b → take 2 hand ≡ a ∷ b ∷ []
front_two [] a b two first second = absurd (omega (arith, two))
front_two (x ∷ []) a b two first second = absurd (omega (arith, two))
front_two (x ∷ y ∷ zs) a b two first second = ap (λ (k : ℕ). k ∷ y ∷ []) first ∙ ap (λ (k : ℕ). a ∷ k ∷ []) second

spelled : (b : ℕ) → b < 128 → encode_utf8 b ≡ b ∷ []
unfolding encode_utf8
spelled b ascii = let below : ltb b 128 ≡ true = lt-ltb b 128 ascii in rw below refl

is_scalar : (b : ℕ) → b < 128 → IsScalar b
is_scalar b ascii = let below : ltb b 0xD800 ≡ true = lt-ltb b 0xD800 (omega (arith, ascii)) in rw below refl

pub ascii_taken : (allowed : ReadErrorCode → Bool) (f : Formats) (levels : ℕ) (kept : ReadError) (s t : Input) (b : ℕ) → b < 128 → TookKept s t (0x61 ∷ b ∷ []) → t.offset < 2 ^ 64
    → Step s t (λ l bs rest. IsRead (PassesTags IsCharacter) (item_at (raws f l) levels bs) b rest)
ascii_taken allowed f levels kept s t b ascii took below =
    let utf8 = subst IsUtf8 (spelled b ascii) (IsUtf8-encode b (is_scalar b ascii)) in
    short_text_taken allowed f IsCharacter levels kept s t 1 (b ∷ []) b (omega arith) (omega arith) (λ r string. (is_scalar b ascii, rw (spelled b ascii) (string, utf8))) utf8 took below
