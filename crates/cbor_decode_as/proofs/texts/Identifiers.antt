-- The place of a name.
use Rattle.std.proofs.Common.{◌≡◌, ◌≢◌, ◌⊎◌, inl, inr, ℤ, pos, negsuc, ◌+◌, ◌∙◌, ap, refl, Some, None, Option, Ok, Err, Result, if◌then◌else◌, nat_lt, ℕ, zero, suc, ◌<◌, ◌≤◌, Bool, true, false, List, [], ◌∷◌, length, slice_index_or, Bor, subst, sym, arith}
use Rattle.std.specs.Str.{IsUtf8}
use Rattle.std.specs.Cmp.Lexicographic.{pointwise, same_text, other_text}
use Rattle.std.specs.Prelude.{nat_eq}
use Rattle.cbor_model.specs.Raw as raw
use Rattle.cbor_model.specs.Raw.{Raw}
use Rattle.cbor_model.specs.Formats.{Formats}
use Rattle.cbor_model.specs.Readable.{untagged, PassesTags, IsString}
use Rattle.cbor_model.specs.Reader.{item_at, inside}
use Rattle.cbor_read.specs.Source.{Input, Lends}
use Rattle.cbor_io.specs.Error.{code_of, offset_of}
use Rattle.cbor_io.specs.declared.error.Error.{Error}
use Rattle.cbor_io.specs.declared.read_error.ReadError.{ReadError}
use Rattle.cbor_io.specs.declared.read_error.ReadErrorCode.{ReadErrorCode}
use Rattle.cbor_decode.specs.Gives.{Step}
use Rattle.cbor_decode.specs.declared.head.Head.{Head}
use Rattle.cbor_decode.specs.declared.head.Head.TheVariants as head
use Rattle.cbor_decode_as.specs.Identifiers.{texts, place_of, IsFirst, IsPlace, MeansPlace, Content, IsMadeBy, TakesBytesName}
use Rattle.cbor_decode_as.specs.Kinds.{kind_of, head_kind}
use Rattle.cbor_decode_as.specs.Kinds as kind
use Rattle.cbor_decode_as.specs.TaggedHeads.{IsTaggedHead, TakesItemHead}
use Rattle.cbor_decode_as.specs.Scalars.{IsNumber}
use Rattle.cbor_decode_as.specs.Strings.{content_at}
use Rattle.cbor_decode_as.specs.Takes.{raws, IsRead, IsNotRead, Refuses, TakesItem, OnceMade}
use Rattle.cbor_decode_as.specs.declared.identifier.Why.{Why}
use Rattle.cbor_decode_as.proofs.texts.StringContents.{not_string, none_at, string_takes, bytes_takes, text_read}
use Rattle.cbor_decode_as.proofs.texts.Lending.{no_bytes}
use Rattle.cbor_decode_as.proofs.numbers.Nulls.{refuses_behind}
use Rattle.cbor_decode_as.proofs.numbers.Scalars.{takes_scalar, opened_none}

-- none of so many names, or labels, is this one
abbrev pub NoneBefore : {A : Type 0} → List A → A → ℕ → Type 0
NoneBefore ns b zero = Unit {0}
NoneBefore [] b (suc i) = ⊥
NoneBefore (n ∷ ns) b (suc i) = (n ≢ b) × NoneBefore ns b i

module _ (b : List ℕ) (d : Bor (List ℕ)) where
  more : (ns : List (Bor (List ℕ))) (i : ℕ) → NoneBefore (texts ns) b i → i < length ns → ((slice_index_or ns i d).now ≢ b) → NoneBefore (texts ns) b (suc i)
  more [] i h below is = absurd (omega (arith, below))
  more (n ∷ ns) zero h below is = (is, tt)
  more (n ∷ ns) (suc i) h below is = (h.0, more ns i h.1 (omega (arith, below)) is)

  first : (ns : List (Bor (List ℕ))) (i : ℕ) → NoneBefore (texts ns) b i → i < length ns → (slice_index_or ns i d).now ≡ b → IsFirst (texts ns) b i
  first [] i h below is = absurd (omega (arith, below))
  first (n ∷ ns) zero h below is = is
  first (n ∷ ns) (suc i) h below is = (h.0, first ns i h.1 (omega (arith, below)) is)

  pub none_more : (ns : List (Bor (List ℕ))) (i : ℕ) (x : List ℕ) (r : Bool) → NoneBefore (texts ns) b i → i < length ns → x ≡ (slice_index_or ns i d).now → r ≡ pointwise nat_eq x b → r ≡ false → NoneBefore (texts ns) b (i + 1)
  none_more ns i x r h below here eq is =
      let next : suc i ≡ i + 1 = omega arith in
      subst (NoneBefore (texts ns) b) next (more ns i h below (λ e. other_text x b (sym is ∙ eq) (here ∙ e)))

  pub first_here : (ns : List (Bor (List ℕ))) (i : ℕ) (x : List ℕ) (r : Bool) → NoneBefore (texts ns) b i → i < length ns → x ≡ (slice_index_or ns i d).now → r ≡ pointwise nat_eq x b → r ≡ true → IsFirst (texts ns) b i
  first_here ns i x r h below here eq is = first ns i h below (sym here ∙ same_text x b (sym is ∙ eq))

pub none_first : (ns : List (Bor (List ℕ))) (b : List ℕ) (k : ℕ) → NoneBefore (texts ns) b k → length ns ≤ k → (i : ℕ) → IsFirst (texts ns) b i → ⊥
none_first [] b k h past i first = first
none_first (n ∷ ns) b zero h past i first = absurd (omega (arith, past))
none_first (n ∷ ns) b (suc k) h past zero first = h.0 first
none_first (n ∷ ns) b (suc k) h past (suc i) first = none_first ns b k h.1 (omega (arith, past)) i first.1

-- ---- labels

module _ (z : ℤ) (d : ℤ) where
  more_labels : (ls : List ℤ) (i : ℕ) → NoneBefore ls z i → i < length ls → (slice_index_or ls i d ≢ z) → NoneBefore ls z (suc i)
  more_labels [] i h below is = absurd (omega (arith, below))
  more_labels (l ∷ ls) zero h below is = (is, tt)
  more_labels (l ∷ ls) (suc i) h below is = (h.0, more_labels ls i h.1 (omega (arith, below)) is)

  pub label_here : (ls : List ℤ) (i : ℕ) → NoneBefore ls z i → i < length ls → slice_index_or ls i d ≡ z → IsFirst ls z i
  label_here [] i h below is = absurd (omega (arith, below))
  label_here (l ∷ ls) zero h below is = is
  label_here (l ∷ ls) (suc i) h below is = (h.0, label_here ls i h.1 (omega (arith, below)) is)

  pub no_more_labels : (ls : List ℤ) (i : ℕ) → NoneBefore ls z i → i < length ls → (slice_index_or ls i d ≢ z) → NoneBefore ls z (i + 1)
  no_more_labels ls i h below is =
      let next : suc i ≡ i + 1 = omega arith in
      subst (NoneBefore ls z) next (more_labels ls i h below is)

pub no_label : (ls : List ℤ) (z : ℤ) (k : ℕ) → NoneBefore ls z k → length ls ≤ k → (i : ℕ) → IsFirst ls z i → ⊥
no_label [] z k h past i first = first
no_label (l ∷ ls) z zero h past i first = absurd (omega (arith, past))
no_label (l ∷ ls) z (suc k) h past zero first = h.0 first
no_label (l ∷ ls) z (suc k) h past (suc i) first = no_label ls z k h.1 (omega (arith, past)) i first.1

-- ---- numbers

length_texts : (ns : List (Bor (List ℕ))) → length (texts ns) ≡ length ns
length_texts [] = refl
length_texts (n ∷ ns) = ap suc (length_texts ns)

pub number_place : (ns : List (Bor (List ℕ))) (n : ℕ) → place_of (texts ns) n ≡ (if nat_lt n (length ns) then Some n else None)
number_place ns n = ap (λ (k : ℕ). if nat_lt n k then Some n else None) (length_texts ns)

-- ---- identifiers

module _ (numbered : ℤ → Option ℕ → Type 0) (names : List (List ℕ)) where
  abbrev Means : Raw → Option ℕ → Type 0
  Means = MeansPlace numbered names

  -- a string of a name is an identifier
  pub string_names : (r : Raw) (b : List ℕ) (place : Option ℕ) → IsString r b → IsPlace names b place → Means r place
  string_names (raw.unsigned w n) b place is at = absurd is
  string_names (raw.negative w n) b place is at = absurd is
  string_names (raw.bytes c) b place is at = (b, is, at)
  string_names (raw.text c) b place is at = (b, is, at)
  string_names (raw.bytes_chunks cs) b place is at = (b, is, at)
  string_names (raw.text_chunks cs) b place is at = (b, is, at)
  string_names (raw.array l rs) b place is at = absurd is
  string_names (raw.map l ps) b place is at = absurd is
  string_names (raw.tag w n r) b place is at = absurd is
  string_names (raw.simple x) b place is at = absurd is
  string_names (raw.float w bits) b place is at = absurd is

  no_unsigned : (h : Head) → ((n : ℕ) → h ≡ head.Unsigned n → ⊥) → head_kind h ≡ kind.unsigned → ⊥
  no_unsigned (head.Unsigned n) other e = other n refl
  no_unsigned (head.Negative n) other e = absurd cc
  no_unsigned (head.Bytes n) other e = absurd cc
  no_unsigned (head.Text n) other e = absurd cc
  no_unsigned (head.Array r) other e = absurd cc
  no_unsigned (head.Map r) other e = absurd cc
  no_unsigned (head.Tag n) other e = absurd cc
  no_unsigned (head.Bool b) other e = absurd cc
  no_unsigned head.Null other e = absurd cc
  no_unsigned head.Undefined other e = absurd cc
  no_unsigned (head.Float x) other e = absurd cc
  no_unsigned head.Break other e = absurd cc

  no_negative : (h : Head) → ((n : ℕ) → h ≡ head.Negative n → ⊥) → head_kind h ≡ kind.negative → ⊥
  no_negative (head.Unsigned n) other e = absurd cc
  no_negative (head.Negative n) other e = other n refl
  no_negative (head.Bytes n) other e = absurd cc
  no_negative (head.Text n) other e = absurd cc
  no_negative (head.Array r) other e = absurd cc
  no_negative (head.Map r) other e = absurd cc
  no_negative (head.Tag n) other e = absurd cc
  no_negative (head.Bool b) other e = absurd cc
  no_negative head.Null other e = absurd cc
  no_negative head.Undefined other e = absurd cc
  no_negative (head.Float x) other e = absurd cc
  no_negative head.Break other e = absurd cc

  -- the head is no negative number's, or such a number means nothing
  abbrev pub NoNegative : Head → Type 0
  NoNegative h = ((n : ℕ) → h ≡ head.Negative n → ⊥) ⊎ ((n : ℕ) (place : Option ℕ) → numbered (negsuc n) place → ⊥)

  negative_none : (h : Head) (n : ℕ) (place : Option ℕ) → NoNegative h → numbered (negsuc n) place → kind.negative ≡ head_kind h → ⊥
  negative_none h n place (inl other) is k = no_negative h other (sym k)
  negative_none h n place (inr none) is k = none n place is

  -- an item of another kind is none
  not_identifier : (h : Head) → ((n : ℕ) → h ≡ head.Unsigned n → ⊥) → NoNegative h → ((n : Option ℕ) → h ≡ head.Text n → ⊥) → ((n : Option ℕ) → h ≡ head.Bytes n → ⊥)
      → (r : Raw) (place : Option ℕ) → Means (untagged r) place → (kind_of r ≡ kind.tag → ⊥) → kind_of r ≡ head_kind h → ⊥
  not_identifier h u m t b (raw.unsigned w n) place is tag k = no_unsigned h u (sym k)
  not_identifier h u m t b (raw.negative w n) place is tag k = negative_none h n place m is k
  not_identifier h u m t b (raw.bytes c) place is tag k = not_string h t b (raw.bytes c) is.0 is.1 tag k
  not_identifier h u m t b (raw.text c) place is tag k = not_string h t b (raw.text c) is.0 is.1 tag k
  not_identifier h u m t b (raw.bytes_chunks cs) place is tag k = not_string h t b (raw.bytes_chunks cs) is.0 is.1 tag k
  not_identifier h u m t b (raw.text_chunks cs) place is tag k = not_string h t b (raw.text_chunks cs) is.0 is.1 tag k
  not_identifier h u m t b (raw.array l rs) place is tag k = is.1
  not_identifier h u m t b (raw.map l ps) place is tag k = is.1
  not_identifier h u m t b (raw.tag w n r) place is tag k = tag refl
  not_identifier h u m t b (raw.simple x) place is tag k = is.1
  not_identifier h u m t b (raw.float w bits) place is tag k = is.1

  module _ (allowed : ReadErrorCode → Bool) (f : Formats) (l : Lends) (levels : ℕ) (s m : Input) (kept : ReadError) where
    abbrev NotIdentified : Input → Error → Type 0
    NotIdentified t e = Refuses allowed s t (code_of e) (offset_of e) (λ limits bs. IsNotRead (PassesTags Means) (item_at (raws f limits) levels bs))

    abbrev Reads : Input → Option ℕ → Type 0
    Reads t place = Step s t (λ limits bs rest. IsRead (PassesTags Means) (item_at (raws f limits) levels bs) place rest)

    pub negative_names : (n : ℕ) (place : Option ℕ) → numbered (negsuc n) place → TakesItemHead allowed f levels s m kept (Ok (head.Negative n)) → Reads m place
    negative_names n place is = takes_scalar allowed f Means levels s m kept (head.Negative n) place (λ w. raw.negative w n) (λ limits inner w mid. refl) (λ w. is)

    pub number_names : (n : ℕ) (place : Option ℕ) → numbered (pos n) place → TakesItemHead allowed f levels s m kept (Ok (head.Unsigned n)) → Reads m place
    number_names n place is = takes_scalar allowed f Means levels s m kept (head.Unsigned n) place (λ w. raw.unsigned w n) (λ limits inner w mid. refl) (λ w. is)

    -- a number means what it means by its value
    pub integer_names : (h : Head) (z : ℤ) (place : Option ℕ) → IsNumber h z → numbered z place → TakesItemHead allowed f levels s m kept (Ok h) → Reads m place
    integer_names (head.Unsigned n) z place is means opened = number_names n place (subst (λ (x : ℤ). numbered x place) is means) opened
    integer_names (head.Negative n) z place is means opened = negative_names n place (subst (λ (x : ℤ). numbered x place) is means) opened
    integer_names (head.Bytes n) z place is means opened = absurd is
    integer_names (head.Text n) z place is means opened = absurd is
    integer_names (head.Array r) z place is means opened = absurd is
    integer_names (head.Map r) z place is means opened = absurd is
    integer_names (head.Tag n) z place is means opened = absurd is
    integer_names (head.Bool b) z place is means opened = absurd is
    integer_names head.Null z place is means opened = absurd is
    integer_names head.Undefined z place is means opened = absurd is
    integer_names (head.Float x) z place is means opened = absurd is
    integer_names head.Break z place is means opened = absurd is

    pub text_names : (n : Option ℕ) (t : Input) (b : List ℕ) (place : Option ℕ) → IsUtf8 b → IsPlace names b place → TakesItemHead allowed f levels s m kept (Ok (head.Text n)) → Content (head.Text n) m t b → Reads t place
    text_names n t b place utf8 at opened taken =
        string_takes allowed f Means levels s m kept (head.Text n) opened t b place (λ limits w bs rest content. text_read f limits (inside (raws f limits) opened.0) w n bs b rest content utf8)
        (λ r string lent. string_names r b place string at) taken

    bytes_name : (n : Option ℕ) (t : Input) (b : List ℕ) (place : Option ℕ) → IsPlace names b place → TakesItemHead allowed f levels s m kept (Ok (head.Bytes n)) → Content (head.Bytes n) m t b → Reads t place
    bytes_name n t b place at opened taken =
        bytes_takes allowed f Means levels s m kept n opened t b place (λ r string lent. string_names r b place string at) taken

    bytes_refused : {t : Input} (n : Option ℕ) (e : Error) → TakesItemHead allowed f levels s m kept (Ok (head.Bytes n))
        → Refuses allowed m t (code_of e) (offset_of e) (λ limits bs. (b rest : List ℕ) → content_at limits (head.Bytes n) bs ≡ Ok (b, rest) → ⊥) → NotIdentified t e
    bytes_refused n e opened none =
        refuses_behind allowed s m (code_of e) (offset_of e) (λ limits bs rest. IsTaggedHead f limits (item_at (raws f limits) levels bs) opened.0 (head.Bytes n) rest) _ (λ limits bs. IsNotRead (PassesTags Means) (item_at (raws f limits) levels bs))
        (λ limits bs mid o none. opened_none f Means limits (item_at (raws f limits) levels bs) opened.0 (head.Bytes n) mid o (λ r rest x read is. no_bytes allowed f l levels s m kept limits (inside (raws f limits) opened.0) o.width n mid _ refl none (r, rest) read)) opened.1 none

    pub bytes_read : (n : Option ℕ) (t : Input) (later : ReadError) (r : Result (Option ℕ) Why) → TakesItemHead allowed f levels s m kept (Ok (head.Bytes n)) → TakesBytesName allowed names (head.Bytes n) m t later r
        → OnceMade (IsMadeBy later) (TakesItem allowed f (PassesTags Means) levels s t) r
    bytes_read n t later (Ok place) opened is = bytes_name n t is.0 place is.1 opened is.2
    bytes_read n t later (Err why) opened is = λ e made. bytes_refused n e opened (is e made)

    pub other_refused : (h : Head) (e : Error) → ((n : ℕ) → h ≡ head.Unsigned n → ⊥) → NoNegative h → ((n : Option ℕ) → h ≡ head.Text n → ⊥) → ((n : Option ℕ) → h ≡ head.Bytes n → ⊥) → TakesItemHead allowed f levels s m kept (Ok h) → NotIdentified m e
    other_refused h e u n t b opened = none_at allowed f Means levels s m kept h (code_of e) (offset_of e) (not_identifier h u n t b) opened

    -- an item that is no number
    pub no_integer_refused : (h : Head) (e : Error) → ((z : ℤ) → IsNumber h z → ⊥) → ((n : Option ℕ) → h ≡ head.Text n → ⊥) → ((n : Option ℕ) → h ≡ head.Bytes n → ⊥) → TakesItemHead allowed f levels s m kept (Ok h) → NotIdentified m e
    no_integer_refused h e none t b opened =
        let unsigned : (n : ℕ) → h ≡ head.Unsigned n → ⊥ = λ n is. none (pos n) (subst (λ (x : Head). IsNumber x (pos n)) (sym is) refl) in
        let negative : (n : ℕ) → h ≡ head.Negative n → ⊥ = λ n is. none (negsuc n) (subst (λ (x : Head). IsNumber x (negsuc n)) (sym is) refl) in
        other_refused h e unsigned (inl negative) t b opened
