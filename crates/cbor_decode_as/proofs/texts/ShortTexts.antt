-- A text of up to 23 bytes, which were at hand with its head.
use Rattle.std.proofs.Common.{◌≡◌, ◌<◌, ◌≤◌, ◌^◌, ◌+◌, ℕ, suc, Bool, List, [], ◌∷◌, Option, Some, None, length, take, refl, arith}
use Rattle.std.specs.Io.KnownBytes.{Consumes, prepend_known}
use Rattle.std.specs.Str.{IsUtf8}
use Rattle.cbor_model.specs.Formats.{Formats}
use Rattle.cbor_model.specs.Raw.{Raw}
use Rattle.cbor_model.specs.Readable.{PassesTags, IsString}
use Rattle.cbor_model.specs.Reader.{item_at}
use Rattle.cbor_io.specs.declared.head.Major.TheVariants.{TextString}
use Rattle.cbor_io.specs.declared.read_error.ReadError.{ReadError}
use Rattle.cbor_io.specs.declared.read_error.ReadErrorCode.{ReadErrorCode}
use Rattle.cbor_read.specs.Source.{Input, TookKept}
use Rattle.cbor_decode.specs.Gives.{Step}
use Rattle.cbor_decode.proofs.ShortHeads.{short_step}
use Rattle.cbor_decode_as.specs.Takes.{raws, IsRead}
use Rattle.cbor_decode_as.proofs.heads.Opened.{text_opened}
use Rattle.cbor_decode_as.proofs.texts.StringContents.{text_takes}
use Rattle.cbor_decode_as.proofs.texts.Lending.{hand_step}

-- ---- the input between a head of one byte and its content

module _ (s t : Input) (head : ℕ) (content : List ℕ) (took : TookKept s t (head ∷ content)) where
  abbrev pub between : Input
  between = record { to_come = prepend_known content t.to_come; buffer = s.buffer; offset = s.offset + 1; room = s.room }

  first : (x y : Option (List ℕ)) → Consumes x y (head ∷ content) → Consumes x (prepend_known content y) (head ∷ [])
  first None y h = tt
  first (Some xs) None h = h
  first (Some xs) (Some ys) h = h

  others : (y : Option (List ℕ)) → Consumes (prepend_known content y) y content
  others None = tt
  others (Some ys) = refl

  pub head_took : TookKept s between (head ∷ [])
  head_took = record { bytes = first s.to_come t.to_come took.bytes; count = refl; room = refl; kept = refl }

  pub content_took : TookKept between t content
  content_took = record { bytes = others t.to_come; count = omega (arith, took.count); room = took.room; kept = took.kept }

-- ---- the text

pub head_and_content : (hand behind : List ℕ) (head n : ℕ) → hand ≡ head ∷ behind → take (1 + n) hand ≡ head ∷ take n behind
head_and_content hand behind head n is =
    let one_more : 1 + n ≡ suc n = omega arith in
    rw (is, one_more) refl

pub short_text_taken : {A : Type 0} (allowed : ReadErrorCode → Bool) (f : Formats) (reads : Raw → A → Type 0) (levels : ℕ) (kept : ReadError) (s t : Input) (n : ℕ) (behind : List ℕ) (x : A) → n < 24 → n ≤ length behind → ((r : Raw) → IsString r (take n behind) → reads r x)
    → IsUtf8 (take n behind) → TookKept s t ((0x60 + n) ∷ take n behind) → t.offset < 2 ^ 64 → Step s t (λ l bs rest. IsRead (PassesTags reads) (item_at (raws f l) levels bs) x rest)
short_text_taken allowed f reads levels kept s t n behind x short enough means utf8 took below =
    let head = 0x60 + n in
    let text = take n behind in
    let m = between s t head text took in
    let opened = text_opened allowed f s m levels n kept (short_step head n TextString (λ e. absurd cc) (omega (arith, short)) (omega (arith, short)) short s m (head ∷ []) refl (head_took s t head text took)) in
    text_takes allowed f reads levels s m kept (Some n) opened t text x (λ r string utf8 lent. means r string) utf8
    (hand_step m t n behind enough (content_took s t head text took) below)
