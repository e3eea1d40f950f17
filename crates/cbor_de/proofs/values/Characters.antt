-- Texts of one character.
use Rattle.std.proofs.Common.{◌≡◌, ◌∙◌, ℕ, Bool, List, [], ◌∷◌, ◌++◌, length, Result, Ok, Err, IfErr, refl, sym, ap, subst, arith, length-append}
use Rattle.std.specs.Char.{encode_utf8}
use Rattle.std.proofs.lemmas.List.{append-nil}
use Rattle.std.proofs.lemmas.Str.{encode_same, length-encode, len_utf8_bounds}
use Rattle.cbor_model.specs.Formats.{Formats}
use Rattle.cbor_model.specs.Raw.{Raw}
use Rattle.cbor_model.specs.Readable.{PassesTags, IsText}
use Rattle.cbor_model.specs.Reader.{Reads, item_at}
use Rattle.cbor_io.specs.Error.{code_of, offset_of}
use Rattle.cbor_read.specs.Source.{Input, Lends}
use Rattle.cbor_io.specs.declared.error.Error.{Error}
use Rattle.cbor_io.specs.declared.read_error.ReadErrorCode.{ReadErrorCode}
use Rattle.cbor_decode.specs.Gives.{Limits}
use Rattle.cbor_decode_as.specs.Strings.{IsCharacter, IsOneCharacter, IsOneOf, IsLentText, LendsText, text_bytes}
use Rattle.cbor_decode_as.specs.Takes.{raws, lending, MemoryFor, TakesItem}
use Rattle.cbor_decode_as.specs.declared.borrowed.EitherStr.{EitherStr}
use Rattle.cbor_decode_as.proofs.facts.Strings.{same_bytes}
use Rattle.cbor_decode_as.proofs.facts.Strings.{made_read, made_none}
use Rattle.cbor_de.proofs.refusals.UnreadMemory.{unread_memory}

no_more : (xs : List ℕ) → length xs ≡ 0 → xs ≡ []
no_more [] none = refl
no_more (x ∷ xs) none = absurd (omega (arith, none))

-- a text of which the first character is all
pub all_of : (c : ℕ) (b rest : List ℕ) → b ≡ encode_utf8 c ++ rest → length (encode_utf8 c) ≡ length b → b ≡ encode_utf8 c
all_of c b rest front len =
    let none : length rest ≡ 0 = omega (arith, len, ap length front, length-append (encode_utf8 c) rest) in
    front ∙ ap (λ (x : List ℕ). encode_utf8 c ++ x) (no_more rest none) ∙ append-nil (encode_utf8 c)

-- a text of more than its first character
pub not_all : (c : ℕ) (b rest : List ℕ) → b ≡ encode_utf8 c ++ rest → (length (encode_utf8 c) ≡ length b → ⊥) → (d : ℕ) → IsOneCharacter b d → ⊥
not_all c b rest front longer d is =
    let same = encode_same c d rest [] (sym front ∙ is.1 ∙ sym (append-nil (encode_utf8 d))) in
    longer (ap (λ (x : ℕ). length (encode_utf8 x)) same.0 ∙ ap length (sym is.1))

-- no text
pub none_of_empty : (b : List ℕ) → length b ≡ 0 → (d : ℕ) → IsOneCharacter b d → ⊥
none_of_empty b none d is = absurd (omega (arith, none, ap length is.1, length-encode d, (len_utf8_bounds d).0))

module _ (allowed : ReadErrorCode → Bool) (f : Formats) (l : Lends) (levels : ℕ) (s t : Input) (p : EitherStr) where
  abbrev lent : Raw → EitherStr → Type 0
  lent = IsLentText (lending f l)

  abbrev read : Limits → List ℕ → Reads Raw
  read l bs = item_at (raws f l) levels bs

  -- the character of the text that is lent
  pub character_takes : (r : Result ℕ Error) → LendsText allowed (lending f l) levels s t (Ok p) → IsOneOf (text_bytes p) r → TakesItem allowed f (PassesTags IsCharacter) levels s t r
  character_takes (Ok c) step is = made_read allowed IsCharacter lent read s t c p (λ r here. (is.0, subst (IsText r) is.1 here.0)) step
  character_takes (Err e) step none =
      made_none allowed IsCharacter lent read s t (code_of e) (offset_of e) p
      (λ r c here other. none c (other.0, same_bytes r (encode_utf8 c) (text_bytes p) other.1.0 here.0.0)) step

  -- where it isn't one, none is read
  pub character_memory : (asks : Raw → Type 0) (r : Result ℕ Error) → LendsText allowed (lending f l) levels s t (Ok p) → IsOneOf (text_bytes p) r → IfErr r (MemoryFor asks f (PassesTags IsCharacter) levels s)
  character_memory asks (Ok c) step is = tt
  character_memory asks (Err e) step none =
      unread_memory allowed f (PassesTags IsCharacter) levels s asks e
      (λ k at. made_none allowed IsCharacter lent read s t k at p
      (λ r c here other. none c (other.0, same_bytes r (encode_utf8 c) (text_bytes p) other.1.0 here.0.0)) step)
