-- Whole numbers.
use Rattle.std.proofs.Common.{◌≡◌, ◌⊎◌, inl, inr, ℕ, Bool, List, Option, Ok, refl, sym, ap, subst, ◌∙◌}
use Rattle.std.specs.Prelude.{ℤ}
use Rattle.cbor_model.specs.Head.{HeadWidth}
use Rattle.cbor_model.specs.Raw as raw
use Rattle.cbor_model.specs.Raw.{Raw, false_item, true_item, null_item, undefined_item}
use Rattle.cbor_model.specs.Formats.{Formats}
use Rattle.cbor_model.specs.Readable.{untagged, PassesTags, IsInteger}
use Rattle.cbor_model.specs.Reader.{Reads, item_at, inside}
use Rattle.cbor_model.proofs.facts.Reader.{ok_is}
use Rattle.cbor_read.specs.Source.{Input}
use Rattle.cbor_io.specs.Error.{code_of, offset_of}
use Rattle.cbor_io.specs.declared.error.Error.{Error}
use Rattle.cbor_io.specs.declared.read_error.ReadError.{ReadError}
use Rattle.cbor_io.specs.declared.read_error.ReadErrorCode.{ReadErrorCode}
use Rattle.cbor_decode.specs.Gives.{Limits, limits, Step, Reports}
use Rattle.cbor_decode.specs.Heads.{behind_head}
use Rattle.cbor_decode.specs.declared.head.Head.{Head}
use Rattle.cbor_decode.specs.declared.head.Head.TheVariants as head
use Rattle.cbor_decode_as.specs.Takes.{raws, IsRead, IsNotRead, Refuses}
use Rattle.cbor_decode_as.specs.TaggedHeads.{TakesItemHead}
use Rattle.cbor_decode_as.specs.Kinds.{kind_of, head_kind}
use Rattle.cbor_decode_as.specs.Kinds as kind
use Rattle.cbor_decode_as.specs.Scalars.{IsNumber}
use Rattle.cbor_decode_as.proofs.heads.OfKind.{kinds}
use Rattle.cbor_decode_as.proofs.numbers.Scalars.{takes_scalar, opened_none}

number_kind : (r : Raw) (x : ℤ) → IsInteger (untagged r) x → (kind_of r ≡ kind.tag → ⊥) → (kind_of r ≡ kind.unsigned) ⊎ (kind_of r ≡ kind.negative)
number_kind (raw.unsigned w m) x h n = inl refl
number_kind (raw.negative w m) x h n = inr refl
number_kind (raw.bytes c) x h n = absurd h
number_kind (raw.text c) x h n = absurd h
number_kind (raw.bytes_chunks cs) x h n = absurd h
number_kind (raw.text_chunks cs) x h n = absurd h
number_kind (raw.array l rs) x h n = absurd h
number_kind (raw.map l ps) x h n = absurd h
number_kind (raw.tag w m r) x h n = absurd (n refl)
number_kind (raw.simple false_item) x h n = absurd h
number_kind (raw.simple true_item) x h n = absurd h
number_kind (raw.simple null_item) x h n = absurd h
number_kind (raw.simple undefined_item) x h n = absurd h
number_kind (raw.float w bits) x h n = absurd h

-- ---- what is read

-- nor is it of another kind
no_kind : {A : Type 0} (h : Head) (r : Raw) (z : ℤ) → kind_of r ≡ head_kind h → (head_kind h ≡ kind.unsigned → ⊥) → (head_kind h ≡ kind.negative → ⊥) → (head_kind h ≡ kind.tag → ⊥) → IsInteger (untagged r) z → A
no_kind h r z is u n tag means = elim (number_kind r z means (λ e. tag (sym is ∙ e))) [
  | inl e ↦ absurd (u (sym is ∙ e))
  | inr e ↦ absurd (n (sym is ∙ e))
]

-- an item that is a number has the head of that number
number_head : (f : Formats) (l : Limits) (inner : Option (List ℕ → Reads Raw)) (w : HeadWidth) (h : Head) (bs rest : List ℕ) (r : Raw) (z : ℤ) → behind_head (raws f l) inner w h bs ≡ Ok (r, rest) → (head_kind h ≡ kind.tag → ⊥) → IsInteger (untagged r) z → IsNumber h z
number_head f l inner w (head.Unsigned n) bs rest r z is tag means = subst (λ (r : Raw). IsInteger (untagged r) z) (sym (ap (λ (p : Raw × List ℕ). p.0) (ok_is (raw.unsigned w n, bs) (r, rest) is))) means
number_head f l inner w (head.Negative n) bs rest r z is tag means = subst (λ (r : Raw). IsInteger (untagged r) z) (sym (ap (λ (p : Raw × List ℕ). p.0) (ok_is (raw.negative w n, bs) (r, rest) is))) means
number_head f l inner w (head.Bytes m) bs rest r z is tag means = no_kind (head.Bytes m) r z (kinds f l inner w bs (head.Bytes m) r rest is) (λ e. absurd cc) (λ e. absurd cc) tag means
number_head f l inner w (head.Text m) bs rest r z is tag means = no_kind (head.Text m) r z (kinds f l inner w bs (head.Text m) r rest is) (λ e. absurd cc) (λ e. absurd cc) tag means
number_head f l inner w (head.Array m) bs rest r z is tag means = no_kind (head.Array m) r z (kinds f l inner w bs (head.Array m) r rest is) (λ e. absurd cc) (λ e. absurd cc) tag means
number_head f l inner w (head.Map m) bs rest r z is tag means = no_kind (head.Map m) r z (kinds f l inner w bs (head.Map m) r rest is) (λ e. absurd cc) (λ e. absurd cc) tag means
number_head f l inner w (head.Tag m) bs rest r z is tag means = no_kind (head.Tag m) r z (kinds f l inner w bs (head.Tag m) r rest is) (λ e. absurd cc) (λ e. absurd cc) tag means
number_head f l inner w (head.Bool m) bs rest r z is tag means = no_kind (head.Bool m) r z (kinds f l inner w bs (head.Bool m) r rest is) (λ e. absurd cc) (λ e. absurd cc) tag means
number_head f l inner w head.Null bs rest r z is tag means = no_kind head.Null r z (kinds f l inner w bs head.Null r rest is) (λ e. absurd cc) (λ e. absurd cc) tag means
number_head f l inner w head.Undefined bs rest r z is tag means = no_kind head.Undefined r z (kinds f l inner w bs head.Undefined r rest is) (λ e. absurd cc) (λ e. absurd cc) tag means
number_head f l inner w (head.Float m) bs rest r z is tag means = no_kind (head.Float m) r z (kinds f l inner w bs (head.Float m) r rest is) (λ e. absurd cc) (λ e. absurd cc) tag means
number_head f l inner w head.Break bs rest r z is tag means = no_kind head.Break r z (kinds f l inner w bs head.Break r rest is) (λ e. absurd cc) (λ e. absurd cc) tag means

pub number_read : {X : Type 0} (allowed : ReadErrorCode → Bool) (f : Formats) (reads : Raw → X → Type 0) (levels : ℕ) (s t : Input) (kept : ReadError) (h : Head) (z : ℤ) (x : X) → ((r : Raw) → IsInteger r z → reads r x) → IsNumber h z
    → TakesItemHead allowed f levels s t kept (Ok h) → Step s t (λ l bs rest. IsRead (PassesTags reads) (item_at (raws f l) levels bs) x rest)
number_read allowed f reads levels s t kept (head.Unsigned n) z x also is = takes_scalar allowed f reads levels s t kept (head.Unsigned n) x (λ w. raw.unsigned w n) (λ l inner w mid. refl) (λ w. also (raw.unsigned w n) is)
number_read allowed f reads levels s t kept (head.Negative n) z x also is = takes_scalar allowed f reads levels s t kept (head.Negative n) x (λ w. raw.negative w n) (λ l inner w mid. refl) (λ w. also (raw.negative w n) is)
number_read allowed f reads levels s t kept (head.Bytes m) z x also is = absurd is
number_read allowed f reads levels s t kept (head.Text m) z x also is = absurd is
number_read allowed f reads levels s t kept (head.Array m) z x also is = absurd is
number_read allowed f reads levels s t kept (head.Map m) z x also is = absurd is
number_read allowed f reads levels s t kept (head.Tag m) z x also is = absurd is
number_read allowed f reads levels s t kept (head.Bool m) z x also is = absurd is
number_read allowed f reads levels s t kept head.Null z x also is = absurd is
number_read allowed f reads levels s t kept head.Undefined z x also is = absurd is
number_read allowed f reads levels s t kept (head.Float m) z x also is = absurd is
number_read allowed f reads levels s t kept head.Break z x also is = absurd is

-- what isn't a number of the head isn't read, whatever the error
pub number_unread : {X : Type 0} (allowed : ReadErrorCode → Bool) (f : Formats) (reads : Raw → X → Type 0) (levels : ℕ) (s t : Input) (kept : ReadError) (h : Head) (number : X → ℤ) → ((r : Raw) (x : X) → reads r x → IsInteger r (number x)) → ((r : Raw) (x : X) → reads r x → IsNumber h (number x) → ⊥)
    → TakesItemHead allowed f levels s t kept (Ok h) → (bs : List ℕ) → Reports s bs → IsNotRead (PassesTags reads) (item_at (raws f (limits s bs)) levels bs)
number_unread allowed f reads levels s t kept h number is none (left, step) bs reports =
    let l = limits s bs in
    let got = step.reported bs reports in
    let o = got.holds in
    opened_none f reads l (item_at (raws f l) levels bs) left h got.rest o (λ r rest x read means. none (untagged r) x means (number_head f l (inside (raws f l) left) o.width h got.rest rest r (number x) read o.inner (is (untagged r) x means)))

pub number_none : {X : Type 0} (allowed : ReadErrorCode → Bool) (f : Formats) (reads : Raw → X → Type 0) (levels : ℕ) (s t : Input) (kept : ReadError) (h : Head) (e : Error) (number : X → ℤ) → ((r : Raw) (x : X) → reads r x → IsInteger r (number x)) → ((r : Raw) (x : X) → reads r x → IsNumber h (number x) → ⊥)
    → TakesItemHead allowed f levels s t kept (Ok h) → Refuses allowed s t (code_of e) (offset_of e) (λ l bs. IsNotRead (PassesTags reads) (item_at (raws f l) levels bs))
number_none allowed f reads levels s t kept h e number is none opens = record { took = opens.1.took; reported = λ bs reports. inr (number_unread allowed f reads levels s t kept h number is none opens bs reports) }
