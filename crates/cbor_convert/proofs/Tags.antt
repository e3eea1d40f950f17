-- Items with their outermost tags, as they are read.
use Rattle.std.proofs.Common.{Bool, true, false, ◌≡◌, ◌∙◌, ◌+◌, ℕ, suc, List, length, Option, Some, None, Ok, Err, refl, sym, ap, ap₂, subst, arith}
use Rattle.cbor_model.specs.Formats.{Formats}
use Rattle.cbor_model.specs.Head.{HeadWidth}
use Rattle.cbor_model.specs.Raw as raw
use Rattle.cbor_model.specs.Raw.{Raw}
use Rattle.cbor_model.specs.Reader.{Fault, Reads, ◌>>=◌, item_at, inside, tag_at}
use Rattle.cbor_model.specs.Value.{value}
use Rattle.cbor_model.proofs.facts.Reader.{ok_is}
use Rattle.cbor_read.specs.Source.{Input, TookSome}
use Rattle.cbor_io.specs.declared.error.ErrorCode.{ErrorCode}
use Rattle.cbor_io.specs.declared.read_error.ReadErrorCode.{ReadErrorCode}
use Rattle.cbor_decode.specs.Gives.{FailsBy, Limits, ReportsIo, Step, limits, values}
use Rattle.cbor_decode.proofs.facts.Steps.{passed_on, step_then}
use Rattle.cbor_decode_as.specs.Tags.{TagIs, tag_head_at}
use Rattle.cbor_convert.specs.Tagged.{IsTagged, BeginsNoTag, StandsNoTag, WithinTag}
use Rattle.cbor_io.specs.declared.error.Error.{Error}
use Rattle.cbor_io.specs.Error.{code_of, offset_of}
use Rattle.cbor_decode_as.specs.Takes.{MemoryFor, ReportsFault, ReportsItem, WhereTotal}
use Rattle.cbor_decode_as.proofs.facts.Readings.{refuses_fault, refuses_then}
use Rattle.cbor_convert.proofs.NoTags.{no_tag_item, tag_stops}
use Rattle.cbor_decode_as.specs.Takes.{raws, IsRead, IsNotRead, Refuses}
use Rattle.cbor_de.proofs.facts.Readings.{along, value_seen}

-- what is no tag is read as it is
untagged_read : {A : Type 0} (reads : Raw → A → Type 0) (r : Raw) (x : A) → ((w : HeadWidth) (n : ℕ) (q : Raw) → r ≡ raw.tag w n q → ⊥) → reads r x → IsTagged reads r None x
untagged_read reads (raw.unsigned w n) x other h = (refl, h)
untagged_read reads (raw.negative w n) x other h = (refl, h)
untagged_read reads (raw.bytes c) x other h = (refl, h)
untagged_read reads (raw.text c) x other h = (refl, h)
untagged_read reads (raw.bytes_chunks cs) x other h = (refl, h)
untagged_read reads (raw.text_chunks cs) x other h = (refl, h)
untagged_read reads (raw.array l rs) x other h = (refl, h)
untagged_read reads (raw.map l ps) x other h = (refl, h)
untagged_read reads (raw.tag w n q) x other h = absurd (other w n q refl)
untagged_read reads (raw.simple s) x other h = (refl, h)
untagged_read reads (raw.float w bits) x other h = (refl, h)

-- and what is read without a tag, or within one
read_untagged : {A : Type 0} (reads : Raw → A → Type 0) (r : Raw) (tag : Option ℕ) (x : A) → ((w : HeadWidth) (n : ℕ) (q : Raw) → r ≡ raw.tag w n q → ⊥) → IsTagged reads r tag x → reads r x
read_untagged reads (raw.unsigned w n) tag x other h = h.1
read_untagged reads (raw.negative w n) tag x other h = h.1
read_untagged reads (raw.bytes c) tag x other h = h.1
read_untagged reads (raw.text c) tag x other h = h.1
read_untagged reads (raw.bytes_chunks cs) tag x other h = h.1
read_untagged reads (raw.text_chunks cs) tag x other h = h.1
read_untagged reads (raw.array l rs) tag x other h = h.1
read_untagged reads (raw.map l ps) tag x other h = h.1
read_untagged reads (raw.tag w n q) tag x other h = absurd (other w n q refl)
read_untagged reads (raw.simple s) tag x other h = h.1
read_untagged reads (raw.float w bits) tag x other h = h.1

-- what holds of an item without a tag
within_none : (P : Raw → Type 0) (r : Raw) → ((w : HeadWidth) (n : ℕ) (q : Raw) → r ≡ raw.tag w n q → ⊥) → P r → WithinTag P r
within_none P (raw.unsigned w n) other h = h
within_none P (raw.negative w n) other h = h
within_none P (raw.bytes c) other h = h
within_none P (raw.text c) other h = h
within_none P (raw.bytes_chunks cs) other h = h
within_none P (raw.text_chunks cs) other h = h
within_none P (raw.array l rs) other h = h
within_none P (raw.map l ps) other h = h
within_none P (raw.tag w n q) other h = absurd (other w n q refl)
within_none P (raw.simple s) other h = h
within_none P (raw.float w bits) other h = h

-- what an input sets stays
kept_limits : (s m : Input) (bs rest : List ℕ) → TookSome s m → m.offset + length rest ≡ s.offset + length bs → limits m rest ≡ limits s bs
kept_limits s m bs rest took total = ap₂ (λ (n : ℕ) (r : Option ℕ). record { total = n; room = r }) total took.room

module _ (f : Formats) (levels left n : ℕ) (one : levels ≡ left + 1) where
  abbrev within : HeadWidth → Reads Raw → Reads Raw
  within w (Ok x) = Ok (raw.tag w n x.0, x.1)
  within w (Err e) = Err e

  -- what is read at a tag's head is the tag of what is read after it
  tag_within : (l : Limits) (bs mid : List ℕ) (w : HeadWidth) → item_at (raws f l) levels bs ≡ tag_at (raws f l) (inside (raws f l) levels) w n mid → item_at (raws f l) levels bs ≡ within w (item_at (raws f l) left mid)
  unfolding tag_at
  tag_within l bs mid w is = is ∙ ap (λ (k : ℕ). tag_at (raws f l) (inside (raws f l) k) w n mid) next ∙ by (item_at (raws f l) left mid)
    where
      next : levels ≡ suc left
      next = omega (arith, one)

      by : (read : Reads Raw) → (read >>= (λ x. Ok (raw.tag w n x.0, x.1))) ≡ within w read
      by (Ok x) = refl
      by (Err e) = refl

  module _ {A T : Type 0} (reads : Raw → A → Type 0) (tag_of : T → Option ℕ) (value_of : T → A) where
    abbrev Tags : Raw → T → Type 0
    Tags r t = IsTagged reads r (tag_of t) (value_of t)

    -- a tag, and then what is within
    pub tag_read : (s m t : Input) (x : T) → tag_of x ≡ Some n → TagIs f levels n s m → Step m t (λ l bs rest. IsRead reads (item_at (raws f l) left bs) (value_of x) rest) → Step s t (λ l bs rest. IsRead Tags (item_at (raws f l) levels bs) x rest)
    tag_read s m t x is one two =
        step_then s m t (λ l bs rest. (w : HeadWidth) × (item_at (raws f l) levels bs ≡ tag_at (raws f l) (inside (raws f l) levels) w n rest)) (λ l bs rest. IsRead reads (item_at (raws f l) left bs) (value_of x) rest) (λ l bs rest. IsRead Tags (item_at (raws f l) levels bs) x rest)
        (λ l bs mid rest tag got. record {
          item = raw.tag tag.0 n got.item;
          is = tag_within l bs mid tag.0 tag.1 ∙ ap (within tag.0) got.is;
          means = (is, got.means);
        }) one two

    -- what is within the item that is read, and read as its value
    record Inner (w : HeadWidth) (read : Reads Raw) (r : Raw) (t : T) (rest : List ℕ) : Type 0 where
      item : Raw
      is : read ≡ Ok (item, rest)
      means : reads item (value_of t)
      whole : raw.tag w n item ≡ r

    inner_of : (w : HeadWidth) (read : Reads Raw) (r : Raw) (t : T) (rest : List ℕ) → within w read ≡ Ok (r, rest) → Tags r t → Inner w read r t rest
    inner_of w (Ok x) r t rest is means =
        let both = ok_is (raw.tag w n x.0, x.1) (r, rest) is in
        let whole = ap (λ (p : Raw × List ℕ). p.0) both in
        let here : Tags (raw.tag w n x.0) t = subst (λ (q : Raw). Tags q t) (sym whole) means in
        record { item = x.0; is = ap (λ (z : List ℕ). Ok (x.0, z)) (ap (λ (p : Raw × List ℕ). p.1) both); means = here.1; whole = whole }
    inner_of w (Err e) r t rest is means = absurd cc

    inner_read : (w : HeadWidth) (read : Reads Raw) (r : Raw) (t : T) (rest : List ℕ) → within w read ≡ Ok (r, rest) → Tags r t → IsRead reads read (value_of t) rest
    inner_read w read r t rest is means =
        let inner = inner_of w read r t rest is means in
        record { item = inner.item; is = inner.is; means = inner.means }

    -- a tag, and memory that ran out within
    pub tag_asks : (asks : Raw → Type 0) (s m : Input) (e : Error) → TagIs f levels n s m → MemoryFor asks f reads left m e → MemoryFor (WithinTag asks) f Tags levels s e
    tag_asks asks s m e step memory out bs reports t rest got =
        let first = step.reported bs reports in
        let w = first.holds.0 in
        let inner = inner_of w (item_at (raws f (limits s bs)) left first.rest) got.item t rest (sym (tag_within (limits s bs) bs first.rest w first.holds.1) ∙ got.is) got.means in
        let is = subst (λ (l : Limits). item_at (raws f l) left first.rest ≡ Ok (inner.item, rest)) (sym (kept_limits s m bs first.rest step.took first.total)) inner.is in
        subst (WithinTag asks) inner.whole (memory out first.rest first.reports (value_of t) rest (record { item = inner.item; is = is; means = inner.means }))

    -- a tag, and nothing that is read within
    pub tag_unread : {t : Input} (allowed : ReadErrorCode → Bool) (s m : Input) (k : ErrorCode) (at : ℕ) → TagIs f levels n s m → Refuses allowed m t k at (λ l bs. IsNotRead reads (item_at (raws f l) left bs)) → Refuses allowed s t k at (λ l bs. IsNotRead Tags (item_at (raws f l) levels bs))
    tag_unread allowed s m k at step h =
        refuses_then allowed s k at m (λ l bs rest. (w : HeadWidth) × (item_at (raws f l) levels bs ≡ tag_at (raws f l) (inside (raws f l) levels) w n rest)) (λ l bs. IsNotRead reads (item_at (raws f l) left bs)) (λ l bs. IsNotRead Tags (item_at (raws f l) levels bs))
        (λ l bs mid tag none t rest got. none (value_of t) rest (inner_read tag.0 (item_at (raws f l) left mid) got.item t rest (sym (tag_within l bs mid tag.0 tag.1) ∙ got.is) got.means)) step h

-- ---- without a tag

module _ {A T : Type 0} (reads : Raw → A → Type 0) (tag_of : T → Option ℕ) (value_of : T → A) (f : Formats) (levels : ℕ) where
  abbrev AsTagged : Raw → T → Type 0
  AsTagged r t = IsTagged reads r (tag_of t) (value_of t)

  other_is : (l : Limits) (bs : List ℕ) (r : Raw) (rest : List ℕ) → BeginsNoTag bs → item_at (raws f l) levels bs ≡ Ok (r, rest) → (w : HeadWidth) (n : ℕ) (q : Raw) → r ≡ raw.tag w n q → ⊥
  other_is l bs r rest none is w n q tag = no_tag_item f l levels bs rest w n q none (is ∙ ap (λ (p : Raw). Ok (p, rest)) tag)

  -- what is read where no tag is
  pub untagged_taken : (s m t : Input) (x : T) → tag_of x ≡ None → StandsNoTag s m → Step m t (λ l bs rest. IsRead reads (item_at (raws f l) levels bs) (value_of x) rest) → Step s t (λ l bs rest. IsRead AsTagged (item_at (raws f l) levels bs) x rest)
  untagged_taken s m t x is one two =
      step_then s m t (λ l bs rest. (rest ≡ bs) × BeginsNoTag bs) (λ l bs rest. IsRead reads (item_at (raws f l) levels bs) (value_of x) rest) (λ l bs rest. IsRead AsTagged (item_at (raws f l) levels bs) x rest)
      (λ l bs mid rest none got.
      let here : item_at (raws f l) levels bs ≡ Ok (got.item, rest) = ap (item_at (raws f l) levels) (sym none.0) ∙ got.is in
      record {
        item = got.item;
        is = here;
        means = subst (λ (o : Option ℕ). IsTagged reads got.item o (value_of x)) (sym is) (untagged_read reads got.item (value_of x) (other_is l bs got.item rest none.1 here) got.means);
      }) one two

  -- and nothing that is read
  pub untagged_refused : {t : Input} (allowed : ReadErrorCode → Bool) (s m : Input) (k : ErrorCode) (at : ℕ) → StandsNoTag s m → Refuses allowed m t k at (λ l bs. IsNotRead reads (item_at (raws f l) levels bs)) → Refuses allowed s t k at (λ l bs. IsNotRead AsTagged (item_at (raws f l) levels bs))
  untagged_refused allowed s m k at step h =
      refuses_then allowed s k at m (λ l bs rest. (rest ≡ bs) × BeginsNoTag bs) (λ l bs. IsNotRead reads (item_at (raws f l) levels bs)) (λ l bs. IsNotRead AsTagged (item_at (raws f l) levels bs))
      (λ l bs mid none lacks t rest got. lacks (value_of t) rest (record {
        item = got.item;
        is = ap (item_at (raws f l) levels) none.0 ∙ got.is;
        means = read_untagged reads got.item (tag_of t) (value_of t) (other_is l bs got.item rest none.1 got.is) got.means;
      })) step h

  -- and memory that ran out
  pub untagged_asks : (asks : Raw → Type 0) (s m : Input) (e : Error) → StandsNoTag s m → MemoryFor asks f reads levels m e → MemoryFor (WithinTag asks) f AsTagged levels s e
  untagged_asks asks s m e step memory out bs reports t rest got =
      let first = step.reported bs reports in
      let none = first.holds in
      let other = other_is (limits s bs) bs got.item rest none.1 got.is in
      let there : item_at (raws f (limits s bs)) levels first.rest ≡ Ok (got.item, rest) = ap (item_at (raws f (limits s bs)) levels) none.0 ∙ got.is in
      let is = subst (λ (l : Limits). item_at (raws f l) levels first.rest ≡ Ok (got.item, rest)) (sym (kept_limits s m bs first.rest step.took first.total)) there in
      within_none asks got.item other (memory out first.rest first.reports (value_of t) rest (record { item = got.item; is = is; means = read_untagged reads got.item (tag_of t) (value_of t) other got.means }))

  -- a tag's head that can't be read
  pub head_refused : {t : Input} (allowed : ReadErrorCode → Bool) (s : Input) (e : Error) → TookSome s t → ReportsFault allowed (λ l. tag_head_at levels) s e → Refuses allowed s t (code_of e) (offset_of e) (λ l bs. IsNotRead AsTagged (item_at (raws f l) levels bs))
  head_refused allowed s e took reported =
      refuses_fault allowed (λ l. tag_head_at levels) s e (λ l bs. IsNotRead AsTagged (item_at (raws f l) levels bs))
      (λ l bs fault stops t rest got. differs (sym (tag_stops (raws f l) levels bs fault stops) ∙ got.is)) took reported
    where
      differs : {fault : Fault} {r : Raw} {rest : List ℕ} → ◌≡◌ {A = Reads Raw} (Err fault) (Ok (r, rest)) → ⊥
      differs h = absurd cc

-- ---- the fault that is reported

where_total : {P Q : Type 0} (total : Bool) → (P → Q) → WhereTotal total P → WhereTotal total Q
where_total false f h = tt
where_total true f h = f h

-- what is reported after a step is reported before it, where the one fault is the other
pub reported_then : {A B : Type 0} (allowed : ReadErrorCode → Bool) (read : Limits → List ℕ → Reads A) (read' : Limits → List ℕ → Reads B) (s m : Input) (e : Error) (P : Limits → List ℕ → List ℕ → Type 0)
    → ((l : Limits) (bs mid : List ℕ) (f : Fault) → P l bs mid → read l mid ≡ Err f → read' l bs ≡ Err f) → Step s m P → ReportsFault allowed read m e → ReportsFault allowed read' s e
reported_then allowed read read' s m e P on step reports bs is =
    let one = step.reported bs is in
    let device = ReportsIo allowed in
    let code = code_of e in
    let at = offset_of e in
    let same = kept_limits s m bs one.rest step.took one.total in
    let there = subst (λ (n : ℕ). FailsBy device code n at (read (limits m one.rest) one.rest)) one.total (reports one.rest one.reports) in
    let here = subst (λ (l : Limits). FailsBy device code (s.offset + length bs) at (read l one.rest)) same there in
    passed_on device code (s.offset + length bs) at (read (limits s bs) one.rest) (read' (limits s bs) bs) (λ f. on (limits s bs) bs one.rest f one.holds) here

module _ (total : Bool) (allowed : ReadErrorCode → Bool) (f : Formats) (levels : ℕ) (s m : Input) (e : Error) where
  -- within a tag
  pub tag_reported : (left n : ℕ) → levels ≡ left + 1 → TagIs f levels n s m → ReportsItem false total allowed f left m e → ReportsItem false total allowed f levels s e
  tag_reported left n one step = where_total total (reported_then allowed (λ l. item_at (values f l) left) (λ l. item_at (values f l) levels) s m e
      (λ l bs rest. (w : HeadWidth) × (item_at (raws f l) levels bs ≡ tag_at (raws f l) (inside (raws f l) levels) w n rest))
      (λ l bs mid d tag stops.
      let inner = unseen (item_at (raws f l) left mid) d (sym (value_seen f l left mid) ∙ stops) in
      value_seen f l levels bs ∙ ap (along value) (tag_within f levels left n one l bs mid tag.0 tag.1 ∙ ap (within f levels left n one tag.0) inner)) step)
    where
      unseen : (x : Reads Raw) (d : Fault) → along value x ≡ Err d → x ≡ Err d
      unseen (Ok x) d is = absurd cc
      unseen (Err c) d is = cc

  -- where no tag is
  pub untagged_reported : StandsNoTag s m → ReportsItem false total allowed f levels m e → ReportsItem false total allowed f levels s e
  untagged_reported step = where_total total (reported_then allowed (λ l. item_at (values f l) levels) (λ l. item_at (values f l) levels) s m e
      (λ l bs rest. (rest ≡ bs) × BeginsNoTag bs)
      (λ l bs mid d none stops. ap (item_at (values f l) levels) (sym none.0) ∙ stops) step)

-- a tag's head that can't be read
pub head_reported : (total : Bool) (allowed : ReadErrorCode → Bool) (f : Formats) (levels : ℕ) (s : Input) (e : Error) → ReportsFault allowed (λ l. tag_head_at levels) s e → ReportsItem false total allowed f levels s e
head_reported false allowed f levels s e reported = tt
head_reported true allowed f levels s e reported = λ bs is.
    let l = limits s bs in
    passed_on (ReportsIo allowed) (code_of e) (s.offset + length bs) (offset_of e) (tag_head_at levels bs) (item_at (values f l) levels bs) (tag_stops (values f l) levels bs) (reported bs is)
