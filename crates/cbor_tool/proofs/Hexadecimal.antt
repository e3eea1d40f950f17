-- The model's hexadecimal is what the crate `hex` prints, and reads in either case.
use Rattle.std.proofs.Common.{◌≡◌, ℕ, zero, suc, ◌+◌, ◌*◌, ◌/◌, ◌%◌, ◌<◌, ◌==◌, Bool, true, ◌&&◌}
use Rattle.std.proofs.Common.{inl, inr, List, [], ◌∷◌, ◌++◌, length, take, drop, slice_index}
use Rattle.std.proofs.Common.{Option, Some, None, Result, Ok, Err, refl, sym, ap, ◌∙◌, arith}
use Rattle.std.specs.Prelude.{map, is_ok, OnOk}
use Rattle.std.proofs.lemmas.List.{length-map}
use Rattle.std.proofs.lemmas.Bool.{and_parts, cases_lt, eqb-true}
use Rattle.std.proofs.lemmas.Bool.Decides.{nat_tests}
use lib.Seq.{take-append_seam}
use Rattle.std.specs.Char.{to_ascii_lowercase}
use Rattle.hex.specs.Hex.{decode_of, decode_pairs, digit_or_error, encode_lower, encode_with}
use Rattle.hex.specs.Hex.{hex_digit_value, lower_digits, ◌>>=◌}
use Rattle.hex.specs.declared.error.FromHexError.{FromHexError}
use Rattle.hex.proofs.HexLemmas.{decode_of-even, decode_of-ok}
use Rattle.cbor_model.specs.Raw.{AreBytes}
use Rattle.cbor_tool.specs.Answer.{hex_digit, hex, IsHexOf}

-- ---- printing

abbrev same_digit : ℕ → Bool
same_digit d = slice_index lower_digits d == hex_digit d

abbrev same_digits : ℕ → Bool
same_digits zero = true
same_digits (suc n) = same_digit n && same_digits n

same_digits-at : (n d : ℕ) → same_digits n ≡ true → d < n → same_digit d ≡ true
same_digits-at zero d h lt = absurd (omega arith)
same_digits-at (suc n) d h lt =
    let parts = and_parts (same_digit n) (same_digits n) h in
    elim (cases_lt d n) [
      | inl below ↦ same_digits-at n d parts.1 below
      | inr top ↦
          let e : d ≡ n = omega arith in
          rw e parts.0
    ]

digit_of_table : (d : ℕ) → d < 16 → slice_index lower_digits d ≡ hex_digit d
digit_of_table d lt =
    eqb-true (slice_index lower_digits d) (hex_digit d) (same_digits-at 16 d refl lt)

pub encode_lower-hex : (bytes : List ℕ) → AreBytes bytes → encode_lower bytes ≡ hex bytes
unfolding encode_with
encode_lower-hex [] are = refl
encode_lower-hex (b ∷ rest) are =
    let fits : b < 256 = are 0 in
    let high : b / 16 < 16 = omega arith in
    let low : b % 16 < 16 = omega arith in
    let ih = encode_lower-hex rest (λ k. are (suc k)) in
    rw (digit_of_table (b / 16) high, digit_of_table (b % 16) low, ih) refl

-- ---- reading

digit_lower : (c d : ℕ) → hex_digit_value c ≡ Some d → (to_ascii_lowercase c ≡ hex_digit d)
    × (d < 16)
digit_lower c d h = (grind (arith, nat_tests), grind arith)

digit_back : (c d : ℕ) → d < 16 → to_ascii_lowercase c ≡ hex_digit d → hex_digit_value c ≡ Some d
digit_back c d lt h = grind (arith, nat_tests)

-- two digits and what follows, which were decoded
record Decoded (high low : Option ℕ) (others : Result (List ℕ) FromHexError)
    (bytes : List ℕ) : Type 0 where
  h : ℕ
  l : ℕ
  more : List ℕ
  is_high : high ≡ Some h
  is_low : low ≡ Some l
  are_others : others ≡ Ok more
  are : (h * 16 + l) ∷ more ≡ bytes

pair_decoded : (a b i : ℕ) (high low : Option ℕ) (others : Result (List ℕ) FromHexError)
    (bytes : List ℕ)
    → (digit_or_error a i high >>=
    (λ (h : ℕ). digit_or_error b (i + 1) low >>= (λ (l : ℕ). Ok (h * 16 + l)))
    >>= (λ (byte : ℕ). others >>= (λ (more : List ℕ). Ok (byte ∷ more)))) ≡ Ok bytes
    → Decoded high low others bytes
pair_decoded a b i (Some h) (Some l) (Ok more) bytes e =
    record { h = h; l = l; more = more; is_high = refl; is_low = refl; are_others = refl; are = cc }
pair_decoded a b i (Some h) (Some l) (Err d) bytes e = cc e
pair_decoded a b i (Some h) None others bytes e = cc e
pair_decoded a b i None low others bytes e = cc e

decode_pairs-lower : (i : ℕ) (line bytes : List ℕ) → decode_pairs i line ≡ Ok bytes
    → map to_ascii_lowercase line ≡ hex bytes
unfolding decode_pairs
decode_pairs-lower i [] bytes e = let none : [] ≡ bytes = cc in rw (← none) refl
decode_pairs-lower i (a ∷ []) bytes e = cc e
decode_pairs-lower i (a ∷ b ∷ line) bytes e =
    let d = pair_decoded a b i (hex_digit_value a) (hex_digit_value b)
    (decode_pairs (i + 2) line) bytes e in
    let first = digit_lower a d.h d.is_high in
    let second = digit_lower b d.l d.is_low in
    let ih = decode_pairs-lower (i + 2) line d.more d.are_others in
    let small = second.1 in
    let top : (d.h * 16 + d.l) / 16 ≡ d.h = omega arith in
    let bottom : (d.h * 16 + d.l) % 16 ≡ d.l = omega arith in
    rw (← d.are, top, bottom, first.0, second.0, ih) refl

-- a line that decodes is the hexadecimal of what it decodes to
pub IsHexOf-decoded : (line bytes : List ℕ) → decode_of line ≡ Ok bytes → IsHexOf line bytes
IsHexOf-decoded line bytes e =
    let (even, digits, len, are) = decode_of-ok line bytes e in
    record {
      are_bytes = are;
      digits = decode_pairs-lower 0 line bytes (sym (decode_of-even line even) ∙ e);
    }

length-hex : (bytes : List ℕ) → length (hex bytes) ≡ 2 * length bytes
length-hex [] = refl
length-hex (b ∷ bytes) = let e = length-hex bytes in omega (arith, e)

length-of_hex : (line bytes : List ℕ) → map to_ascii_lowercase line ≡ hex bytes
    → length line ≡ 2 * length bytes
length-of_hex line bytes e = sym (length-map line to_ascii_lowercase) ∙ ap length e
    ∙ length-hex bytes

decode_pairs-hex : (i : ℕ) (line bytes : List ℕ) → AreBytes bytes
    → map to_ascii_lowercase line ≡ hex bytes → decode_pairs i line ≡ Ok bytes
unfolding decode_pairs
decode_pairs-hex i [] [] are e = refl
decode_pairs-hex i [] (x ∷ bytes) are e = absurd cc
decode_pairs-hex i (a ∷ []) [] are e = absurd cc
decode_pairs-hex i (a ∷ []) (x ∷ bytes) are e = absurd cc
decode_pairs-hex i (a ∷ b ∷ line) [] are e = absurd cc
decode_pairs-hex i (a ∷ b ∷ line) (x ∷ bytes) are e =
    let fits : x < 256 = are 0 in
    let high : to_ascii_lowercase a ≡ hex_digit (x / 16) = cc in
    let low : to_ascii_lowercase b ≡ hex_digit (x % 16) = cc in
    let others : map to_ascii_lowercase line ≡ hex bytes = cc in
    let ih = decode_pairs-hex (i + 2) line bytes (λ k. are (suc k)) others in
    let first = digit_back a (x / 16) (omega arith) high in
    let second = digit_back b (x % 16) (omega arith) low in
    let whole : x / 16 * 16 + x % 16 ≡ x = omega arith in
    rw (first, second, ih, whole) refl

-- what is hexadecimal of some bytes decodes to them
pub decode_of-hex : (line bytes : List ℕ) → IsHexOf line bytes → decode_of line ≡ Ok bytes
decode_of-hex line bytes h =
    let len = length-of_hex line bytes h.digits in
    decode_of-even line (omega arith) ∙ decode_pairs-hex 0 line bytes h.are_bytes h.digits

-- a front of the whole length that was written is all that is there
pub take-front : (n : ℕ) (front old is : List ℕ) → length front ≡ n → front ≡ is
    → take n (front ++ drop (length front) old) ≡ is
take-front n front old is long same =
    rw (← long, take-append_seam front (drop (length front) old)) same

pub when_ok : {T E : Type 0} (P : Type 0) (r : Result T E) → true ≡ is_ok r → OnOk r P → P
when_ok P (Ok x) is h = h
when_ok P (Err e) is h = cc
