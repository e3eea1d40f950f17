-- A signed record: a COSE_Sign1 message (RFC 9052, section 4.2), canonically encoded.
use Rattle.std.specs.Prelude.{◌≡◌, ◌↔◌, ℕ, ◌^◌, ◌<◌, List, [], ◌∷◌, length, Bool, false, ℤ, pos}
use Rattle.std.specs.Prelude.{Option, Some, option_and_then, codes, refl}
use Rattle.serde_cbor.specs.Plain.{Val, integer, bytes, text, array, map, tag, no_vals, val, Pairs}
use Rattle.serde_cbor.specs.Canonical.{canonical, canon}
use Rattle.serde_cbor.specs.Spelling.{spell}
use Rattle.serde_cbor.specs.Contents.{as_integer}
use Rattle.serde_cbor.specs.Lookup.{value_of}
use Rattle.serde_cbor.specs.Strict.{SpellsCanonically}
use Rattle.serde_cbor.specs.Error.{IsOutOfMemory}
use Rattle.use_signed_record.specs.declared.record.OpenError.{OpenError}
use Rattle.use_signed_record.specs.declared.record.OpenError.TheVariants.{Encoding, Header}
use Rattle.use_signed_record.specs.declared.record.OpenError.TheVariants.{NotARecord}
use Rattle.use_signed_record.specs.declared.record.OpenError.TheVariants.{WrongSignature}

-- 18([protected header, unprotected header, payload, signature]). The protected header is a byte
-- string, which holds an encoded map.
abbrev pub message : List ℕ → Pairs → List ℕ → List ℕ → Val
message protected unprotected payload signature =
    tag 18 (array
    (val (bytes protected) (val (map unprotected) (val (bytes payload) (val (bytes signature)
    no_vals)))))

-- What is signed (section 4.4): the encoding of ["Signature1", protected header, h'', payload].
abbrev pub signed_bytes : List ℕ → List ℕ → List ℕ
signed_bytes protected payload = canon (array
    (val (text (codes "Signature1")) (val (bytes protected) (val (bytes []) (val (bytes payload)
    no_vals)))))

-- The algorithm that a header names, under its label 1 (section 3.1).
abbrev pub algorithm_of : Val → Option ℤ
algorithm_of header = option_and_then as_integer (value_of (integer (pos 1)) header)

-- The input is the canonical encoding of a record with this header, payload and signature, in which
-- the header stands in its own canonical encoding.
pub record IsRecord (input : List ℕ) (algorithm : ℤ) (header : Val)
    (payload signature : List ℕ) : Type 0 where
  pub unprotected : Pairs
  pub whole : SpellsCanonically input (message (canon header) unprotected payload signature)
  pub protected : SpellsCanonically (canon header) header
  pub named : algorithm_of header ≡ Some algorithm

-- what a check says of signed bytes and a signature
abbrev pub Check : Type 1
Check = List ℕ → List ℕ → Bool → Type 0

-- The input is a record with this header and payload, and the check said so of its signed bytes.
pub record IsChecked (check : Check) (input : List ℕ) (algorithm : ℤ) (header : Val)
    (payload : List ℕ) (says : Bool) : Type 0 where
  pub signature : List ℕ
  pub is_record : IsRecord input algorithm header payload signature
  pub said : check (signed_bytes (canon header) payload) signature says

-- the input is no record of the algorithm, or else something is so
abbrev pub UnlessNone : List ℕ → ℤ → Type 0 → Type 0
UnlessNone input algorithm P =
    (header : Val) (payload signature : List ℕ)
    → IsRecord input algorithm header payload signature → P

-- Why nothing is handed out.
abbrev pub IsRefused : Check → List ℕ → ℤ → OpenError → Type 0
IsRefused check input algorithm (Encoding e) = UnlessNone input algorithm (IsOutOfMemory e)
IsRefused check input algorithm (Header e) = UnlessNone input algorithm (IsOutOfMemory e)
IsRefused check input algorithm NotARecord = UnlessNone input algorithm ⊥
IsRefused check input algorithm WrongSignature =
    (header : Val) × (payload : List ℕ) × IsChecked check input algorithm header payload false

-- ---- the law

-- Of two records that are shorter than 2^64 bytes, the same bytes are signed exactly where their
-- headers and their payloads are equal.
abbrev pub ContentIsSigned : Type 0
ContentIsSigned = (one other : List ℕ) (a b : ℤ) (h k : Val) (p q s t : List ℕ)
    → length one < 2 ^ 64 → length other < 2 ^ 64
    → IsRecord one a h p s → IsRecord other b k q t
    → (signed_bytes (canon h) p ≡ signed_bytes (canon k) q) ↔ ((h ≡ k) × (p ≡ q))

-- ---- an example

-- 84 6a "Signature1" 43 a1 01 26, which is {1: -7}, 40 41 61
signed_letter : signed_bytes (0xa1 ∷ 0x01 ∷ 0x26 ∷ []) (codes "a")
    ≡ 0x84 ∷ 0x6a ∷ 0x53 ∷ 0x69 ∷ 0x67 ∷ 0x6e ∷ 0x61 ∷ 0x74 ∷ 0x75 ∷ 0x72 ∷ 0x65 ∷ 0x31
    ∷ 0x43 ∷ 0xa1 ∷ 0x01 ∷ 0x26 ∷ 0x40 ∷ 0x41 ∷ 0x61 ∷ []
unfolding canon canonical spell
signed_letter = refl
