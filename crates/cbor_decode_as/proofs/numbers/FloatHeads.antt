-- Floats and integers as the numbers that floats hold, by their heads.
use Rattle.std.proofs.Common.{◌≡◌, ◌⊎◌, inl, inr, ℕ, Bool, List, Option, Ok, refl, sym, ap, subst, ◌∙◌}
use Rattle.std.specs.Float.Ieee as ieee
use Rattle.cbor_model.specs.Head.{HeadWidth}
use Rattle.cbor_model.specs.Raw as raw
use Rattle.cbor_model.specs.Raw.{Raw, false_item, true_item, null_item, undefined_item}
use Rattle.cbor_model.specs.Formats.{Formats}
use Rattle.cbor_model.specs.Readable.{untagged, PassesTags}
use Rattle.cbor_model.specs.Reader.{Reads, item_at, inside}
use Rattle.cbor_model.proofs.facts.Reader.{ok_is}
use Rattle.cbor_read.specs.Source.{Input}
use Rattle.cbor_io.specs.Error.{code_of, offset_of}
use Rattle.cbor_io.specs.declared.error.Error.{Error}
use Rattle.cbor_io.specs.declared.read_error.ReadError.{ReadError}
use Rattle.cbor_io.specs.declared.read_error.ReadErrorCode.{ReadErrorCode}
use Rattle.cbor_value.specs.declared.Float.TheVariants.{Half, Single, Double}
use Rattle.cbor_decode.specs.Gives.{Limits, limits, Step, Reports}
use Rattle.cbor_decode.specs.Heads.{behind_head}
use Rattle.cbor_decode.specs.declared.head.Head.{Head}
use Rattle.cbor_decode.specs.declared.head.Head.TheVariants as head
use Rattle.cbor_decode_as.specs.Takes.{raws, IsRead, IsNotRead, Refuses}
use Rattle.cbor_decode_as.specs.TaggedHeads.{TakesItemHead}
use Rattle.cbor_decode_as.specs.Kinds.{kind_of, head_kind}
use Rattle.cbor_decode_as.specs.Kinds as kind
use Rattle.cbor_decode_as.specs.Scalars.{IsFloatOf, IsFloatHead}
use Rattle.cbor_decode_as.proofs.heads.OfKind.{kinds}
use Rattle.cbor_decode_as.proofs.numbers.Scalars.{takes_scalar, opened_none}

-- the item behind a head is a number of one of three kinds
float_kinds : (r : Raw) (x : ieee.Float) → IsFloatOf (untagged r) x → (kind_of r ≡ kind.tag → ⊥)
    → (kind_of r ≡ kind.unsigned) ⊎ ((kind_of r ≡ kind.negative) ⊎ (kind_of r ≡ kind.float))
float_kinds (raw.unsigned w m) x h n = inl refl
float_kinds (raw.negative w m) x h n = inr (inl refl)
float_kinds (raw.bytes c) x h n = absurd h
float_kinds (raw.text c) x h n = absurd h
float_kinds (raw.bytes_chunks cs) x h n = absurd h
float_kinds (raw.text_chunks cs) x h n = absurd h
float_kinds (raw.array l rs) x h n = absurd h
float_kinds (raw.map l ps) x h n = absurd h
float_kinds (raw.tag w m r) x h n = absurd (n refl)
float_kinds (raw.simple false_item) x h n = absurd h
float_kinds (raw.simple true_item) x h n = absurd h
float_kinds (raw.simple null_item) x h n = absurd h
float_kinds (raw.simple undefined_item) x h n = absurd h
float_kinds (raw.float w bits) x h n = inr (inr refl)

-- and of no other
no_kind : {A : Type 0} (h : Head) (r : Raw) (x : ieee.Float) → kind_of r ≡ head_kind h
    → (head_kind h ≡ kind.unsigned → ⊥) → (head_kind h ≡ kind.negative → ⊥)
    → (head_kind h ≡ kind.float → ⊥) → (head_kind h ≡ kind.tag → ⊥) → IsFloatOf (untagged r) x → A
no_kind h r x is u n f tag means = elim (float_kinds r x means (λ e. tag (sym is ∙ e))) [
  | inl e ↦ absurd (u (sym is ∙ e))
  | inr other ↦ elim other [
    | inl e ↦ absurd (n (sym is ∙ e))
    | inr e ↦ absurd (f (sym is ∙ e))
  ]
]

abbrev gives : Raw → List ℕ → Reads Raw
gives r rest = Ok (r, rest)

module _ (f : Formats) (l : Limits) (inner : Option (List ℕ → Reads Raw)) (w : HeadWidth) where
  -- what is read is that item
  of_item : (item r : Raw) (bs rest : List ℕ) (x : ieee.Float) → gives item bs ≡ gives r rest
      → IsFloatOf (untagged r) x → IsFloatOf (untagged item) x
  of_item item r bs rest x is means =
      subst (λ (i : Raw). IsFloatOf (untagged i) x)
      (sym (ap (λ (p : Raw × List ℕ). p.0) (ok_is (item, bs) (r, rest) is))) means

  -- an item that is a number has the head of that number
  float_head : (h : Head) (bs rest : List ℕ) (r : Raw) (x : ieee.Float)
      → behind_head (raws f l) inner w h bs ≡ Ok (r, rest) → (head_kind h ≡ kind.tag → ⊥)
      → IsFloatOf (untagged r) x → IsFloatHead h x
  float_head (head.Unsigned n) bs rest r x is tag means =
      of_item (raw.unsigned w n) r bs rest x is means
  float_head (head.Negative n) bs rest r x is tag means =
      of_item (raw.negative w n) r bs rest x is means
  float_head (head.Float (Half n)) bs rest r x is tag means =
      of_item (raw.float raw.half n) r bs rest x is means
  float_head (head.Float (Single n)) bs rest r x is tag means =
      of_item (raw.float raw.single n) r bs rest x is means
  float_head (head.Float (Double n)) bs rest r x is tag means =
      of_item (raw.float raw.double n) r bs rest x is means
  float_head (head.Bytes m) bs rest r x is tag means =
      no_kind (head.Bytes m) r x (kinds f l inner w bs (head.Bytes m) r rest is) (λ e. absurd cc) (λ e. absurd cc)
      (λ e. absurd cc) tag means
  float_head (head.Text m) bs rest r x is tag means =
      no_kind (head.Text m) r x (kinds f l inner w bs (head.Text m) r rest is) (λ e. absurd cc) (λ e. absurd cc)
      (λ e. absurd cc) tag means
  float_head (head.Array m) bs rest r x is tag means =
      no_kind (head.Array m) r x (kinds f l inner w bs (head.Array m) r rest is) (λ e. absurd cc) (λ e. absurd cc)
      (λ e. absurd cc) tag means
  float_head (head.Map m) bs rest r x is tag means =
      no_kind (head.Map m) r x (kinds f l inner w bs (head.Map m) r rest is) (λ e. absurd cc) (λ e. absurd cc)
      (λ e. absurd cc) tag means
  float_head (head.Tag m) bs rest r x is tag means =
      no_kind (head.Tag m) r x (kinds f l inner w bs (head.Tag m) r rest is) (λ e. absurd cc) (λ e. absurd cc)
      (λ e. absurd cc) tag means
  float_head (head.Bool m) bs rest r x is tag means =
      no_kind (head.Bool m) r x (kinds f l inner w bs (head.Bool m) r rest is) (λ e. absurd cc) (λ e. absurd cc)
      (λ e. absurd cc) tag means
  float_head head.Null bs rest r x is tag means =
      no_kind head.Null r x (kinds f l inner w bs head.Null r rest is) (λ e. absurd cc) (λ e. absurd cc)
      (λ e. absurd cc) tag means
  float_head head.Undefined bs rest r x is tag means =
      no_kind head.Undefined r x (kinds f l inner w bs head.Undefined r rest is) (λ e. absurd cc) (λ e. absurd cc)
      (λ e. absurd cc) tag means
  float_head head.Break bs rest r x is tag means =
      no_kind head.Break r x (kinds f l inner w bs head.Break r rest is) (λ e. absurd cc) (λ e. absurd cc)
      (λ e. absurd cc) tag means

-- of one head, one number
pub one_head : (h : Head) (x y : ieee.Float) → IsFloatHead h x → IsFloatHead h y → x ≡ y
one_head (head.Unsigned n) x y a b = a.0 ∙ sym b.0
one_head (head.Negative n) x y a b = a.0 ∙ sym b.0
one_head (head.Float f) x y a b = sym a ∙ b
one_head (head.Bytes m) x y a b = absurd a
one_head (head.Text m) x y a b = absurd a
one_head (head.Array m) x y a b = absurd a
one_head (head.Map m) x y a b = absurd a
one_head (head.Tag m) x y a b = absurd a
one_head (head.Bool m) x y a b = absurd a
one_head head.Null x y a b = absurd a
one_head head.Undefined x y a b = absurd a
one_head head.Break x y a b = absurd a

module _ {X : Type 0} (allowed : ReadErrorCode → Bool) (f : Formats) (reads : Raw → X → Type 0)
    (levels : ℕ) (s t : Input) (kept : ReadError) (number : X → ieee.Float) where
  pub number_read : (h : Head) (x : X)
      → ((r : Raw) → IsFloatOf r (number x) → reads r x) → IsFloatHead h (number x)
      → TakesItemHead allowed f levels s t kept (Ok h)
      → Step s t (λ l bs rest. IsRead (PassesTags reads) (item_at (raws f l) levels bs) x rest)
  number_read (head.Unsigned n) x also is =
      takes_scalar allowed f reads levels s t kept (head.Unsigned n) x (λ w. raw.unsigned w n)
      (λ l inner w mid. refl) (λ w. also (raw.unsigned w n) is)
  number_read (head.Negative n) x also is =
      takes_scalar allowed f reads levels s t kept (head.Negative n) x (λ w. raw.negative w n)
      (λ l inner w mid. refl) (λ w. also (raw.negative w n) is)
  number_read (head.Float (Half n)) x also is =
      takes_scalar allowed f reads levels s t kept (head.Float (Half n)) x
      (λ w. raw.float raw.half n) (λ l inner w mid. refl) (λ w. also (raw.float raw.half n) is)
  number_read (head.Float (Single n)) x also is =
      takes_scalar allowed f reads levels s t kept (head.Float (Single n)) x
      (λ w. raw.float raw.single n) (λ l inner w mid. refl) (λ w. also (raw.float raw.single n) is)
  number_read (head.Float (Double n)) x also is =
      takes_scalar allowed f reads levels s t kept (head.Float (Double n)) x
      (λ w. raw.float raw.double n) (λ l inner w mid. refl) (λ w. also (raw.float raw.double n) is)
  number_read (head.Bytes m) x also is = absurd is
  number_read (head.Text m) x also is = absurd is
  number_read (head.Array m) x also is = absurd is
  number_read (head.Map m) x also is = absurd is
  number_read (head.Tag m) x also is = absurd is
  number_read (head.Bool m) x also is = absurd is
  number_read head.Null x also is = absurd is
  number_read head.Undefined x also is = absurd is
  number_read head.Break x also is = absurd is

  -- what isn't a number of the head isn't read, whatever the error
  pub number_unread : (h : Head)
      → ((r : Raw) (x : X) → reads r x → IsFloatOf r (number x))
      → ((r : Raw) (x : X) → reads r x → IsFloatHead h (number x) → ⊥)
      → TakesItemHead allowed f levels s t kept (Ok h) → (bs : List ℕ) → Reports s bs
      → IsNotRead (PassesTags reads) (item_at (raws f (limits s bs)) levels bs)
  number_unread h is none (left, step) bs reports =
      let l = limits s bs in
      let got = step.reported bs reports in
      let o = got.holds in
      opened_none f reads l (item_at (raws f l) levels bs) left h got.rest o
      (λ r rest x read means.
      none (untagged r) x means
      (float_head f l (inside (raws f l) left) o.width h got.rest rest r (number x) read o.inner
      (is (untagged r) x means)))

  pub number_none : (h : Head) (e : Error)
      → ((r : Raw) (x : X) → reads r x → IsFloatOf r (number x))
      → ((r : Raw) (x : X) → reads r x → IsFloatHead h (number x) → ⊥)
      → TakesItemHead allowed f levels s t kept (Ok h)
      → Refuses allowed s t (code_of e) (offset_of e)
      (λ l bs. IsNotRead (PassesTags reads) (item_at (raws f l) levels bs))
  number_none h e is none opens = record {
    took = opens.1.took;
    reported = λ bs reports. inr (number_unread h is none opens bs reports);
  }
