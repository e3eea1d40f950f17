-- The head of an array or a map.
use Rattle.std.proofs.Common.{◌≡◌, ◌≢◌, ℕ, suc, ◌+◌, Bool, List, Some, Ok, Err, refl, sym, ap, subst, ◌∙◌, arith, length}
use Rattle.cbor_model.specs.Formats.{Formats}
use Rattle.cbor_model.specs.Head.{HeadWidth}
use Rattle.cbor_model.specs.Raw as raw
use Rattle.cbor_model.specs.Raw.{Raw, Length}
use Rattle.cbor_model.specs.Readable.{untagged, PassesTags}
use Rattle.cbor_model.specs.Refusal.{too_deep}
use Rattle.cbor_model.specs.Reader.{Fault, Reads, array_at, map_at, item_at, inside}
use Rattle.cbor_model.proofs.facts.Reader.{ok_is}
use Rattle.cbor_read.specs.Source.{Input}
use Rattle.cbor_io.specs.Error.{code_of, offset_of}
use Rattle.cbor_io.specs.declared.error.Error.{Error}
use Rattle.cbor_io.specs.declared.read_error.ReadError.{ReadError}
use Rattle.cbor_io.specs.declared.read_error.ReadErrorCode.{ReadErrorCode}
use Rattle.cbor_decode.specs.Gives.{Limits, Step, Stopped, IsErrorOf}
use Rattle.cbor_decode.specs.Heads.{behind_head, remaining_of, length_of}
use Rattle.cbor_decode.specs.declared.cursor.Collection.{Collection}
use Rattle.cbor_decode.specs.declared.cursor.Collection.TheVariants as collection
use Rattle.cbor_decode.specs.declared.cursor.Remaining.{Remaining}
use Rattle.cbor_decode.specs.declared.head.Head.{Head}
use Rattle.cbor_decode.specs.declared.refusal.Refused.{Refused}
use Rattle.cbor_decode.proofs.facts.Steps.{step_map}
use Rattle.cbor_decode_as.specs.Begins.{OtherBegins}
use Rattle.cbor_decode_as.specs.Collections.{HeldBy, AsOne, IsHeadOf, IsHeld, RefusesHeadOf, head_of, held_at, one_of, raw_of}
use Rattle.cbor_decode_as.specs.Kinds.{kind_of}
use Rattle.cbor_decode_as.specs.TaggedHeads.{tagged, IsTaggedHead}
use Rattle.cbor_decode_as.specs.Takes.{raws, IsRead, IsNotRead}
use Rattle.cbor_decode_as.proofs.collections.Kinds.{as_one, no_head, one_holds, one_is, one_kind, some_held, untagged_one}
use Rattle.cbor_decode_as.proofs.heads.ItemsBehind.{kind_behind}
use Rattle.cbor_decode_as.proofs.numbers.Scalars.{within_tags, untagged-tagged, other_kind, opened_none}
use Rattle.cbor_decode_as.proofs.numbers.Scalars.{refuses}
use Rattle.cbor_decode_as.proofs.refused.Refusing.{refuses_by}

-- ---- steps

module _ (of : Collection) (allowed : ReadErrorCode → Bool) (f : Formats) (levels : ℕ) (s t : Input) where
  abbrev pub whole : Limits → List ℕ → Reads Raw
  whole l bs = item_at (raws f l) levels bs

  -- one level further in
  inside_is : (l : Limits) (left inner : ℕ) → left ≡ inner + 1 → inside (raws f l) left ≡ Some (item_at (raws f l) inner)
  inside_is l left inner is = ap (λ (n : ℕ). inside (raws f l) n) next
    where
      next : left ≡ suc inner
      next = omega (arith, is)

  pub head_taken : (left inner : ℕ) (h : Head) (r : Remaining) → h ≡ head_of of r → left ≡ inner + 1 → Step s t (λ l bs rest. IsTaggedHead f l (whole l bs) left h rest) → Step s t (λ l bs rest. IsHeadOf of f l (whole l bs) inner r rest)
  unfolding array_at map_at
  head_taken left inner h r is one = step_map s t (λ l bs rest. IsTaggedHead f l (whole l bs) left h rest) (λ l bs rest. IsHeadOf of f l (whole l bs) inner r rest)
      (λ l bs rest o. here of l (whole l bs) rest (subst (λ (h : Head). IsTaggedHead f l (whole l bs) left h rest) is o))
    where
      here : (of : Collection) (l : Limits) (read : Reads Raw) (rest : List ℕ) → IsTaggedHead f l read left (head_of of r) rest → IsHeadOf of f l read inner r rest
      here collection.Array l read rest o = record { tags = o.tags; len = length_of o.width r; is = o.is ∙ rw (inside_is l left inner one) refl }
      here collection.Map l read rest o = record { tags = o.tags; len = length_of o.width r; is = o.is ∙ rw (inside_is l left inner one) refl }

  pub head_stops : {w : Input} (kept : ReadError) (r : Refused) (e : Error) → IsErrorOf kept r e → Stopped allowed whole s w kept r → RefusesHeadOf of allowed f levels s w e
  head_stops kept r e = refuses allowed (PassesTags (IsHeld of)) whole s kept r e

  pub other_head : (left : ℕ) (h : Head) (e : Error) → ((r : Remaining) → h ≢ head_of of r) → Step s t (λ l bs rest. IsTaggedHead f l (whole l bs) left h rest) → RefusesHeadOf of allowed f levels s t e
  other_head left h e other = refuses_by allowed s (code_of e) (offset_of e) t (λ l bs rest. IsTaggedHead f l (whole l bs) left h rest) (λ l bs. IsNotRead (PassesTags (IsHeld of)) (whole l bs))
      (λ l bs rest o. other_kind f (IsHeld of) l (whole l bs) left h rest o
      (λ r x means is. no_head of h other (sym (one_kind of (λ rs held. rs ≡ held) r x means (λ tag. o.inner (sym is ∙ tag))) ∙ is)))

  pub too_deep_head : (left : ℕ) (h : Head) (r : Remaining) (e : Error) → h ≡ head_of of r → left ≡ 0 → Step s t (λ l bs rest. IsTaggedHead f l (whole l bs) left h rest) → RefusesHeadOf of allowed f levels s t e
  unfolding array_at map_at
  too_deep_head left h r e is none = refuses_by allowed s (code_of e) (offset_of e) t (λ l bs rest. IsTaggedHead f l (whole l bs) left h rest) (λ l bs. IsNotRead (PassesTags (IsHeld of)) (whole l bs))
      (λ l bs rest o.
      let o' = subst (λ (h : Head). IsTaggedHead f l (whole l bs) left h rest) is o in
      opened_none f (IsHeld of) l (whole l bs) left (head_of of r) rest o' (λ i after x read means. both _ (i, after) _ read (deep of l o'.width rest)))
    where
      both : (read : Reads Raw) (x : Raw × List ℕ) (g : Fault) → read ≡ Ok x → read ≡ Err g → ⊥
      both (Ok y) x g is other = absurd cc
      both (Err g') x g is other = absurd cc

      deep : (of : Collection) (l : Limits) (w : HeadWidth) (rest : List ℕ) → behind_head (raws f l) (inside (raws f l) left) w (head_of of r) rest ≡ Err (record { why = too_deep; left = length rest })
      deep collection.Array l w rest = rw none refl
      deep collection.Map l w rest = rw none refl

-- ---- the whole

module _ (of : Collection) {A : Type 0} (held : HeldBy of → A → Type 0) (f : Formats) (l : Limits) (read : Reads Raw) (left : ℕ) (r : Remaining) (mid : List ℕ) (h : IsHeadOf of f l read left r mid) where
  pub held_read : (rs : HeldBy of) (rest : List ℕ) (x : A) → held_at of f l left (remaining_of r) mid ≡ Ok (rs, rest) → held rs x → IsRead (PassesTags (AsOne of held)) read x rest
  held_read rs rest x is means = record {
    item = tagged h.tags (raw_of of h.len rs);
    is = h.is ∙ rw is refl;
    means = subst (λ (i : Raw). AsOne of held i x) (sym (untagged-tagged h.tags (raw_of of h.len rs) ∙ untagged_one of h.len rs)) (as_one of held h.len rs x means);
  }

  record Inner (i : Raw) (rest : List ℕ) : Type 0 where
    rs : HeldBy of
    is : held_at of f l left (remaining_of r) mid ≡ Ok (rs, rest)
    same : i ≡ raw_of of h.len rs

  inner : (some : Reads (HeldBy of)) (i : Raw) (rest : List ℕ) → some ≡ held_at of f l left (remaining_of r) mid → one_of of h.len some ≡ Ok (i, rest) → Inner i rest
  inner (Err g) i rest same is = absurd cc
  inner (Ok x) i rest same is =
      let both = ok_is (raw_of of h.len x.0, x.1) (i, rest) is in
      record {
        rs = x.0;
        is = sym same ∙ ap (λ (p : Raw × List ℕ). Ok (x.0, p.1)) both;
        same = sym (ap (λ (p : Raw × List ℕ). p.0) both);
      }

  -- an item that is read from it is the one that holds these
  pub record Holds (i : Raw) (x : A) (rest : List ℕ) : Type 0 where
    pub rs : HeldBy of
    pub is : held_at of f l left (remaining_of r) mid ≡ Ok (rs, rest)
    pub same : untagged i ≡ raw_of of h.len rs
    pub means : held rs x

  pub held_is : (x : A) (rest : List ℕ) (got : IsRead (PassesTags (AsOne of held)) read x rest) → Holds got.item x rest
  held_is x rest got =
      let w = within_tags h.tags (one_of of h.len (held_at of f l left (remaining_of r) mid)) got.item rest (sym h.is ∙ got.is) in
      let a = inner (held_at of f l left (remaining_of r) mid) w.item rest refl w.is in
      let same : untagged got.item ≡ raw_of of h.len a.rs = ap untagged w.wrapped ∙ untagged-tagged h.tags w.item ∙ ap untagged a.same ∙ untagged_one of h.len a.rs in
      record { rs = a.rs; is = a.is; same = same; means = one_holds of held h.len a.rs x (subst (λ (i : Raw). AsOne of held i x) same got.means) }

  pub held_none : ((rs : HeldBy of) (rest : List ℕ) (x : A) → held_at of f l left (remaining_of r) mid ≡ Ok (rs, rest) → held rs x → ⊥) → IsNotRead (PassesTags (AsOne of held)) read
  held_none none x rest got =
      let m = held_is x rest got in
      none m.rs rest x m.is m.means

-- what isn't one isn't read from one
pub none_as_one : (of : Collection) {A : Type 0} (held : HeldBy of → A → Type 0) (read : Reads Raw) → IsNotRead (PassesTags (IsHeld of)) read → IsNotRead (PassesTags (AsOne of held)) read
none_as_one of held read none x rest got =
    let one = some_held of held (untagged got.item) x got.means in
    none one.1 rest (record { item = got.item; is = got.is; means = subst (λ (i : Raw). IsHeld of i one.1) (sym one.2) (as_one of (λ rs held. rs ≡ held) one.0 one.1 one.1 refl) })

-- where a head of another kind stands none is read
pub other_none : (of : Collection) {A : Type 0} (held : HeldBy of → A → Type 0) (f : Formats) (l : Limits) (levels : ℕ) (bs : List ℕ) → OtherBegins (head_of of) levels bs → IsNotRead (PassesTags (AsOne of held)) (item_at (raws f l) levels bs)
other_none of held f l levels bs o x rest got =
    let behind = kind_behind f l levels o.left o.head bs o.rest rest got.item o.is got.is in
    let one = some_held of held (untagged got.item) x got.means in
    no_head of o.head o.other (sym (ap kind_of one.2 ∙ one_is of one.0 one.1) ∙ behind)
