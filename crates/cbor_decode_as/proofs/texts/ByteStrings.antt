-- Byte strings alone.
use Rattle.std.proofs.Common.{◌≡◌, ◌∙◌, ℕ, Bool, List, Option, Result, Ok, Err, refl, sym, subst}
use Rattle.cbor_model.specs.Formats.{Formats}
use Rattle.cbor_model.specs.Raw as raw
use Rattle.cbor_model.specs.Raw.{Raw}
use Rattle.cbor_model.specs.Reader.{item_at, inside}
use Rattle.cbor_model.specs.Readable.{Context, untagged, PassesTags, IsString, is_lent}
use Rattle.cbor_io.specs.declared.read_error.ReadError.{ReadError}
use Rattle.cbor_io.specs.declared.read_error.ReadErrorCode.{ReadErrorCode}
use Rattle.cbor_read.specs.Source.{Input, Lends, TookSome, part_bytes}
use Rattle.cbor_read.specs.declared.EitherLifetime.{EitherLifetime}
use Rattle.cbor_decode.specs.Gives.{Step}
use Rattle.cbor_decode.specs.declared.head.Head.{Head}
use Rattle.cbor_decode.specs.declared.head.Head.TheVariants as head
use Rattle.cbor_decode.proofs.facts.Steps.{step_then}
use Rattle.cbor_decode_as.specs.Kinds.{kind_of, head_kind}
use Rattle.cbor_decode_as.specs.Kinds as kind
use Rattle.cbor_decode_as.specs.TaggedHeads.{IsTaggedHead, TakesItemHead}
use Rattle.cbor_decode_as.specs.Takes.{raws, lending, IsRead, IsNotRead}
use Rattle.cbor_decode_as.specs.Strings.{content_at, is_lent_head, IsByteString, IsLentBytes, Lent, LendsBytes}
use Rattle.cbor_decode_as.specs.declared.borrowed.Unread.{Unread}
use Rattle.cbor_decode_as.proofs.numbers.Scalars.{refuses_on, opened_read}
use Rattle.cbor_decode_as.proofs.texts.StringContents.{untagged_string, no_bytes, bytes_read, none_at}
use Rattle.cbor_decode_as.proofs.texts.Lending.{lends_bytes, lacks_all, bytes_lacks}

-- a string of the kind of byte strings is one
of_kind : (r : Raw) (b : List ℕ) → IsString r b → kind_of r ≡ kind.bytes → IsByteString r b
of_kind (raw.unsigned w m) b h k = absurd h
of_kind (raw.negative w m) b h k = absurd h
of_kind (raw.bytes c) b h k = h
of_kind (raw.text c) b h k = absurd cc
of_kind (raw.bytes_chunks cs) b h k = h
of_kind (raw.text_chunks cs) b h k = absurd cc
of_kind (raw.array l rs) b h k = absurd h
of_kind (raw.map l ps) b h k = absurd h
of_kind (raw.tag w m r) b h k = absurd h
of_kind (raw.simple s) b h k = absurd h
of_kind (raw.float w bits) b h k = absurd h

-- a byte string has one list of bytes
pub one_byte_string : (r : Raw) (a b : List ℕ) → IsByteString r a → IsByteString r b → b ≡ a
one_byte_string (raw.unsigned w m) a b h k = absurd h
one_byte_string (raw.negative w m) a b h k = absurd h
one_byte_string (raw.bytes c) a b h k = sym k ∙ h
one_byte_string (raw.text c) a b h k = absurd h
one_byte_string (raw.bytes_chunks cs) a b h k = sym k ∙ h
one_byte_string (raw.text_chunks cs) a b h k = absurd h
one_byte_string (raw.array l rs) a b h k = absurd h
one_byte_string (raw.map l ps) a b h k = absurd h
one_byte_string (raw.tag w m r) a b h k = absurd h
one_byte_string (raw.simple s) a b h k = absurd h
one_byte_string (raw.float w bits) a b h k = absurd h

-- an item after a head that is of no byte string isn't one
pub not_bytes : (h : Head) → ((n : Option ℕ) → h ≡ head.Bytes n → ⊥) → (r : Raw) (b : List ℕ)
    → IsByteString (untagged r) b → (kind_of r ≡ kind.tag → ⊥) → kind_of r ≡ head_kind h → ⊥
not_bytes h bytes (raw.unsigned w m) x is tag k = absurd is
not_bytes h bytes (raw.negative w m) x is tag k = absurd is
not_bytes h bytes (raw.bytes c) x is tag k = no_bytes h bytes (sym k)
not_bytes h bytes (raw.text c) x is tag k = absurd is
not_bytes h bytes (raw.bytes_chunks cs) x is tag k = no_bytes h bytes (sym k)
not_bytes h bytes (raw.text_chunks cs) x is tag k = absurd is
not_bytes h bytes (raw.array l rs) x is tag k = absurd is
not_bytes h bytes (raw.map l ps) x is tag k = absurd is
not_bytes h bytes (raw.tag w m r) x is tag k = tag refl
not_bytes h bytes (raw.simple s) x is tag k = absurd is
not_bytes h bytes (raw.float w bits) x is tag k = absurd is

module _ {A : Type 0} (allowed : ReadErrorCode → Bool) (f : Formats) (reads : Raw → A → Type 0) (levels : ℕ) (s m : Input) (kept : ReadError) where
  -- a byte string was taken
  pub byte_string_takes : (n : Option ℕ) → (opened : TakesItemHead allowed f levels s m kept (Ok (head.Bytes n))) → (t : Input) (b : List ℕ) (x : A)
      → ((r : Raw) → IsByteString r b → ((c : Context) → is_lent c r ≡ is_lent_head c (head.Bytes n)) → reads r x)
      → Step m t (λ l bs rest. content_at l (head.Bytes n) bs ≡ Ok (b, rest)) → Step s t (λ l bs rest. IsRead (PassesTags reads) (item_at (raws f l) levels bs) x rest)
  byte_string_takes n opened t b x means taken =
      step_then s m t (λ l bs rest. IsTaggedHead f l (item_at (raws f l) levels bs) opened.0 (head.Bytes n) rest) (λ l bs rest. content_at l (head.Bytes n) bs ≡ Ok (b, rest)) (λ l bs rest. IsRead (PassesTags reads) (item_at (raws f l) levels bs) x rest)
      (λ l bs mid rest o is.
      let r = bytes_read f l (inside (raws f l) opened.0) o.width n mid b rest is in
      let bytes : IsByteString r.item b = of_kind r.item b r.string r.kind in
      opened_read f reads l (item_at (raws f l) levels bs) opened.0 (head.Bytes n) mid o r.item rest x r.is (subst (λ (i : Raw). reads i x) (sym (untagged_string r.item b r.string)) (means r.item bytes r.lent))) opened.1 taken

module _ (allowed : ReadErrorCode → Bool) (f : Formats) (l : Lends) (levels : ℕ) (s m : Input) (kept : ReadError) where
  abbrev c : Context
  c = lending f l

  -- a byte string was lent
  pub bytes_lent : (n : Option ℕ) (t : Input) (r : Result EitherLifetime Unread) → TakesItemHead allowed f levels s m kept (Ok (head.Bytes n)) → Lent allowed l (head.Bytes n) m t r → LendsBytes allowed c levels s t r
  bytes_lent n t (Ok p) opened is =
      byte_string_takes allowed f (IsLentBytes c) levels s m kept n opened t (part_bytes p) p (λ r bytes lent. (bytes, is.1 ∙ lends_bytes allowed f l levels s m kept n ∙ sym (lent c))) is.0
  bytes_lent n t (Err u) opened is = bytes_lacks allowed f l levels s m kept IsByteString n t u opened is

  -- an item of another kind is no byte string
  pub other_bytes : (h : Head) (u : Unread) (t : Input) → ((n : Option ℕ) → h ≡ head.Bytes n → ⊥) → TakesItemHead allowed f levels s m kept (Ok h) → TookSome m t → LendsBytes allowed c levels s t (Err u)
  other_bytes h u t bytes opened more =
      lacks_all allowed s (λ limits bs. IsNotRead (PassesTags IsByteString) (item_at (raws f limits) levels bs)) (λ k at. refuses_on (none_at allowed f IsByteString levels s m kept h k at (λ r b is. not_bytes h bytes r b is) opened) more) u
