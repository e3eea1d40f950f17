-- What a refusal of a name says of the item at the front.
use Rattle.std.specs.Prelude.{⊤}
use Rattle.std.proofs.Common.{◌≡◌, ◌⊎◌, inl, inr, ◌∙◌, ℕ, ℤ, pos, negsuc, Bool, true, List, Option, Some, Ok, refl, sym, ap, subst}
use Rattle.cbor_model.specs.Formats.{Formats}
use Rattle.cbor_model.specs.Raw as raw
use Rattle.cbor_model.specs.Raw.{Raw, joined}
use Rattle.cbor_model.specs.Readable.{IsString, PassesTags, untagged}
use Rattle.cbor_model.specs.Reader.{inside, item_at}
use Rattle.cbor_io.specs.declared.error.Error.{Error}
use Rattle.cbor_io.specs.declared.read_error.ReadError.{ReadError}
use Rattle.cbor_io.specs.declared.read_error.ReadErrorCode.{ReadErrorCode}
use Rattle.cbor_read.specs.Source.{Asks, Input}
use Rattle.cbor_decode.specs.Gives.{Limits, limits}
use Rattle.cbor_decode.specs.declared.head.Head.{Head}
use Rattle.cbor_decode.specs.declared.head.Head.TheVariants as head
use Rattle.cbor_decode_as.specs.Enums.{IsName}
use Rattle.cbor_decode_as.specs.Identifiers.{AsksAtHead, AsksForName, IsIdentifier, IsLabel, IsMadeBy, IsNoLabel, IsNoName, MeansPlace, NamesFront, NamesOnly, RefusesName}
use Rattle.cbor_decode_as.specs.Kinds.{Kind, head_kind, kind_of}
use Rattle.cbor_decode_as.specs.Kinds as kind
use Rattle.cbor_decode_as.specs.Strings.{IsAskedString, asks_head, asks_string}
use Rattle.cbor_decode_as.specs.TaggedHeads.{HasHead}
use Rattle.cbor_decode_as.specs.Takes.{IsNotRead, IsRead, MemoryFor, OfItem, any_item, raws}
use Rattle.cbor_decode_as.specs.declared.identifier.Why.{Why}
use Rattle.cbor_decode_as.specs.declared.identifier.Why.TheVariants.{Refused, Other}
use Rattle.cbor_decode_as.proofs.heads.ItemsBehind.{Behind, item_behind, kind_behind}
use Rattle.cbor_decode_as.proofs.heads.OfKind.{kinds}
use Rattle.cbor_decode_as.proofs.numbers.Scalars.{reported_why}
use Rattle.cbor_decode_as.proofs.texts.MemoryAsked.{bytes_ask, error_only, text_asks}

-- ---- strings

text_is : (r : Raw) → kind_of r ≡ kind.text → (b : List ℕ) × IsString r b
text_is (raw.unsigned w n) is = absurd cc
text_is (raw.negative w n) is = absurd cc
text_is (raw.bytes c) is = (c.bytes, refl)
text_is (raw.text c) is = (c.bytes, refl)
text_is (raw.bytes_chunks cs) is = (joined cs, refl)
text_is (raw.text_chunks cs) is = (joined cs, refl)
text_is (raw.array l rs) is = absurd cc
text_is (raw.map l ps) is = absurd cc
text_is (raw.tag w n r) is = absurd cc
text_is (raw.simple raw.false_item) is = absurd cc
text_is (raw.simple raw.true_item) is = absurd cc
text_is (raw.simple raw.null_item) is = absurd cc
text_is (raw.simple raw.undefined_item) is = absurd cc
text_is (raw.float w bits) is = absurd cc

bytes_are : (r : Raw) → kind_of r ≡ kind.bytes → (b : List ℕ) × IsString r b
bytes_are (raw.unsigned w n) is = absurd cc
bytes_are (raw.negative w n) is = absurd cc
bytes_are (raw.bytes c) is = (c.bytes, refl)
bytes_are (raw.text c) is = (c.bytes, refl)
bytes_are (raw.bytes_chunks cs) is = (joined cs, refl)
bytes_are (raw.text_chunks cs) is = (joined cs, refl)
bytes_are (raw.array l rs) is = absurd cc
bytes_are (raw.map l ps) is = absurd cc
bytes_are (raw.tag w n r) is = absurd cc
bytes_are (raw.simple raw.false_item) is = absurd cc
bytes_are (raw.simple raw.true_item) is = absurd cc
bytes_are (raw.simple raw.null_item) is = absurd cc
bytes_are (raw.simple raw.undefined_item) is = absurd cc
bytes_are (raw.float w bits) is = absurd cc

module _ (a : Asks) (f : Formats) (l : Limits) (levels left : ℕ) (bs mid rest : List ℕ) (r : Raw) where
  asked_behind : (h : Head) → AsksAtHead a h → Behind f l left h mid r rest → kind_of (untagged r) ≡ head_kind h → IsAskedString a r
  asked_behind (head.Text n) asks b of =
      let string = text_is (untagged r) of in
      record { bytes = string.0; string = string.1; asks = ap (asks_string a) b.same ∙ text_asks a f l (inside (raws f l) left) b.width mid n b.item rest b.is ∙ asks }
  asked_behind (head.Bytes n) asks b of =
      let string = bytes_are (untagged r) of in
      record { bytes = string.0; string = string.1; asks = ap (asks_string a) b.same ∙ bytes_ask a f l (inside (raws f l) left) b.width mid n b.item rest b.is ∙ asks }
  asked_behind h asks b of = absurd asks

pub name_asks : (a : Asks) (f : Formats) (levels : ℕ) (s : Input) → AsksForName a levels s → OfItem (IsAskedString a) f levels s
name_asks a f levels s asks bs reports r rest is =
    let l = limits s bs in
    let h = asks.string bs reports in
    asked_behind a f l levels h.left bs h.rest rest r h.head h.holds (item_behind f l levels h.left h.head bs h.rest rest r h.is is) (kind_behind f l levels h.left h.head bs h.rest rest r h.is is)

-- ---- items of another kind

-- the kinds of names, and of labels
abbrev NameKind : Kind → Type 0
NameKind kind.unsigned = ⊤
NameKind kind.bytes = ⊤
NameKind kind.text = ⊤
NameKind k = ⊥

abbrev LabelKind : Kind → Type 0
LabelKind kind.unsigned = ⊤
LabelKind kind.negative = ⊤
LabelKind kind.bytes = ⊤
LabelKind kind.text = ⊤
LabelKind k = ⊥

name_kind : (names : List (List ℕ)) (r : Raw) (place : Option ℕ) → IsIdentifier names r place → NameKind (kind_of r)
name_kind names (raw.unsigned w n) place is = tt
name_kind names (raw.negative w n) place is = absurd is
name_kind names (raw.bytes c) place is = tt
name_kind names (raw.text c) place is = tt
name_kind names (raw.bytes_chunks cs) place is = tt
name_kind names (raw.text_chunks cs) place is = tt
name_kind names (raw.array l rs) place is = absurd is.1
name_kind names (raw.map l ps) place is = absurd is.1
name_kind names (raw.tag w n r) place is = absurd is.1
name_kind names (raw.simple x) place is = absurd is.1
name_kind names (raw.float w bits) place is = absurd is.1

label_kind : (labels : List ℤ) (r : Raw) (place : Option ℕ) → IsLabel labels r place → LabelKind (kind_of r)
label_kind labels (raw.unsigned w n) place is = tt
label_kind labels (raw.negative w n) place is = tt
label_kind labels (raw.bytes c) place is = tt
label_kind labels (raw.text c) place is = tt
label_kind labels (raw.bytes_chunks cs) place is = tt
label_kind labels (raw.text_chunks cs) place is = tt
label_kind labels (raw.array l rs) place is = absurd is.1
label_kind labels (raw.map l ps) place is = absurd is.1
label_kind labels (raw.tag w n r) place is = absurd is.1
label_kind labels (raw.simple x) place is = absurd is.1
label_kind labels (raw.float w bits) place is = absurd is.1

no_name_kind : (h : Head) → IsNoName h → NameKind (head_kind h) → ⊥
no_name_kind (head.Unsigned n) none is = none
no_name_kind (head.Negative n) none is = is
no_name_kind (head.Bytes n) none is = none
no_name_kind (head.Text n) none is = none
no_name_kind (head.Array r) none is = is
no_name_kind (head.Map r) none is = is
no_name_kind (head.Tag n) none is = is
no_name_kind (head.Bool x) none is = is
no_name_kind head.Null none is = is
no_name_kind head.Undefined none is = is
no_name_kind (head.Float x) none is = is
no_name_kind head.Break none is = none

no_label_kind : (h : Head) → IsNoLabel h → LabelKind (head_kind h) → ⊥
no_label_kind (head.Unsigned n) none is = none
no_label_kind (head.Negative n) none is = none
no_label_kind (head.Bytes n) none is = none
no_label_kind (head.Text n) none is = none
no_label_kind (head.Array r) none is = is
no_label_kind (head.Map r) none is = is
no_label_kind (head.Tag n) none is = is
no_label_kind (head.Bool x) none is = is
no_label_kind head.Null none is = is
no_label_kind head.Undefined none is = is
no_label_kind (head.Float x) none is = is
no_label_kind head.Break none is = none

-- What is behind such a head isn't read so.
abbrev pub Excludes : {A : Type 0} → (Head → Type 0) → (Raw → A → Type 0) → Type 0
Excludes P reads = (f : Formats) (l : Limits) (levels : ℕ) (bs : List ℕ) → HasHead P levels bs → IsNotRead reads (item_at (raws f l) levels bs)

pub no_name_read : (names : List (List ℕ)) → Excludes IsNoName (PassesTags (IsIdentifier names))
no_name_read names f l levels bs h place rest got =
    let of = kind_behind f l levels h.left h.head bs h.rest rest got.item h.is got.is in
    no_name_kind h.head h.holds (subst NameKind of (name_kind names (untagged got.item) place got.means))

pub no_variant_read : (names : List (List ℕ)) → Excludes IsNoName (IsName names)
no_variant_read names f l levels bs h i rest got = no_name_read names f l levels bs h (Some i) rest (record { item = got.item; is = got.is; means = got.means })

pub no_label_read : (labels : List ℤ) → Excludes IsNoLabel (PassesTags (IsLabel labels))
no_label_read labels f l levels bs h place rest got =
    let of = kind_behind f l levels h.left h.head bs h.rest rest got.item h.is got.is in
    no_label_kind h.head h.holds (subst LabelKind of (label_kind labels (untagged got.item) place got.means))

-- ---- the error that is made

module _ (P : Head → Type 0) (allowed : ReadErrorCode → Bool) (levels : ℕ) (s : Input) (kept : ReadError) (e : Error) where
  -- Where memory ran out, the item is one for which it was asked.
  pub names_memory : {A : Type 0} (reads : Raw → A → Type 0) → Excludes P reads → (a : Asks) (f : Formats) (w : Why) → IsMadeBy kept w e → NamesOnly (AsksForName a levels s) kept w → NamesFront P allowed levels s kept w → MemoryFor (IsAskedString a) f reads levels s e
  names_memory reads none a f (Refused r) made only front = λ out bs reports x rest got. name_asks a f levels s (error_only (AsksForName a levels s) kept r e made only out) bs reports got.item rest got.is
  names_memory reads none a f Other made only front = λ out bs reports x rest got. absurd (none f (limits s bs) levels bs (front bs reports) x rest got)

  pub names_refuse : (w : Why) → IsMadeBy kept w e → NamesFront P allowed levels s kept w → RefusesName P allowed levels s e
  names_refuse (Refused r) made front = inl (reported_why allowed (any_item levels) s kept r e made front)
  names_refuse Other made front = inr (made, front)
