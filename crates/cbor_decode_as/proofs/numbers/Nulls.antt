-- Null, by its first byte.
use Rattle.std.proofs.Common.{ap₂, ◌≡◌, ◌/◌, ◌%◌, ℕ, zero, suc, Bool, true, false, cond, eqb, List, [], ◌∷◌, length, ◌+◌, Option, Some, None, Ok, Err, refl, sym, ap, subst, ◌∙◌, arith, inl, inr}
use Rattle.std.proofs.lemmas.Bool.{eqb-true, eqb-false}
use Rattle.std.specs.Int.{w16, w32, w64}
use Rattle.cbor_model.specs.Formats.{Formats}
use Rattle.cbor_model.specs.Head.{HeadWidth, no_bytes}
use Rattle.cbor_model.specs.Major.{Major, major_of}
use Rattle.cbor_model.specs.Major as major
use Rattle.cbor_model.specs.Raw as raw
use Rattle.cbor_model.specs.Raw.{Raw, null_item}
use Rattle.cbor_model.specs.Readable.{IsOptional}
use Rattle.cbor_model.specs.Reader.{Fault, Reads, ◌>>=◌, byte_at, number_at, number_behind, width_of, after_first, content_at, simple_at, item_by, item_at, inside}
use Rattle.cbor_model.proofs.facts.Reader.{ok_is, simple_number}
use Rattle.cbor_read.specs.Source.{Input}
use Rattle.cbor_io.specs.Error.{code_of, offset_of}
use Rattle.cbor_io.specs.declared.error.Error.{Error}
use Rattle.cbor_io.specs.declared.error.ErrorCode.{ErrorCode}
use Rattle.cbor_io.specs.declared.read_error.ReadError.{ReadError}
use Rattle.cbor_io.specs.declared.read_error.ReadErrorCode.{ReadErrorCode}
use Rattle.cbor_value.specs.declared.Float.TheVariants.{Half, Single, Double}
use Rattle.cbor_decode.specs.Gives.{Limits, limits, ReportsIo, Step, Stopped, IsErrorOf}
use Rattle.cbor_decode.specs.Heads.{opening_at, head_at, head_of, number_head, length_head, simple_head, behind_head}
use Rattle.cbor_decode.specs.declared.head.Head.{Head}
use Rattle.cbor_decode.specs.declared.head.Head.TheVariants as head
use Rattle.cbor_decode.specs.declared.cursor.Remaining.TheVariants.{Counted, ToBreak}
use Rattle.cbor_decode.specs.declared.refusal.Refused.{Refused}
use Rattle.cbor_decode.proofs.facts.Steps.{some_then, step_map, step_then, stopped_map, why_map}
use Rattle.cbor_decode_as.specs.Takes.{FaultOrMessage, RefusesWhole, any_item}
use Rattle.cbor_decode_as.proofs.heads.PassedOver.{stopped_whole}
use Rattle.cbor_model.specs.Plain.{Val}
use Rattle.cbor_decode_as.specs.Takes.{raws, IsRead, IsNotRead, MemoryFor, Refuses}
use Rattle.cbor_decode_as.specs.Nulls.{UnlessNull, null_at}
use Rattle.cbor_decode_as.proofs.heads.OfKind.{kinds}
use Rattle.cbor_decode.proofs.facts.Heads.{item_opened}
use Rattle.cbor_decode_as.proofs.numbers.Scalars.{refuses, no_null}

-- ---- a head that isn't null's

-- the head isn't null's
abbrev NotNull : Reads (HeadWidth × Head) → Type 0
NotNull read = (w : HeadWidth) (rest : List ℕ) → read ≡ Ok ((w, head.Null), rest) → ⊥

other_head : (w : HeadWidth) (h : Head) (rest : List ℕ) → (h ≡ head.Null → ⊥) → NotNull (Ok ((w, h), rest))
other_head w h rest other v more is = other (ap (λ (p : (HeadWidth × Head) × List ℕ). p.0.1) (ok_is ((w, h), rest) ((v, head.Null), more) is))

no_head : (e : Fault) → NotNull (Err e)
no_head e v more is = absurd cc

bits_other : {A : Type 0} (read : Reads A) (w : HeadWidth) (make : A → Head) → ((x : A) → make x ≡ head.Null → ⊥) → NotNull (read >>= (λ x. Ok ((w, make x.0), x.1)))
bits_other (Ok x) w make other = other_head w (make x.0) x.1 (other x.0)
bits_other (Err e) w make other = no_head e

either_head : (c : Bool) (x y : Reads (HeadWidth × Head)) → NotNull x → NotNull y → NotNull (cond c x y)
either_head true x y a b = a
either_head false x y a b = b

number_other : (make : ℕ → Head) (low : ℕ) (bs : List ℕ) → ((n : ℕ) → make n ≡ head.Null → ⊥) → NotNull (number_head make low bs)
number_other make low bs = bits_other (number_behind low bs) (width_of low) make

length_other : (make : ℕ → Head) (h : Head) (low : ℕ) (bs : List ℕ) → ((n : ℕ) → make n ≡ head.Null → ⊥) → (h ≡ head.Null → ⊥) → NotNull (length_head make h low bs)
length_other make h low bs other a = either_head (eqb low 31) _ _ (other_head no_bytes h bs a) (number_other make low bs other)

-- the test that leads to null's head
chosen : (c : Bool) (x y : Reads (HeadWidth × Head)) (w : HeadWidth) (rest : List ℕ) → NotNull y → cond c x y ≡ Ok ((w, head.Null), rest) → (c ≡ true) × (x ≡ Ok ((w, head.Null), rest))
chosen true x y w rest other is = (refl, is)
chosen false x y w rest other is = absurd (other w rest is)

beyond : (c : Bool) (x y : Reads (HeadWidth × Head)) (w : HeadWidth) (rest : List ℕ) → NotNull x → cond c x y ≡ Ok ((w, head.Null), rest) → y ≡ Ok ((w, head.Null), rest)
beyond true x y w rest other is = absurd (other w rest is)
beyond false x y w rest other is = is

simple_null : (low : ℕ) (bs rest : List ℕ) (w : HeadWidth) → simple_head low bs ≡ Ok ((w, head.Null), rest) → low ≡ 22
unfolding simple_head
simple_null low bs rest w is =
    let a = beyond (eqb low 20) _ _ w rest (other_head no_bytes (head.Bool false) bs (λ e. absurd cc)) is in
    let b = beyond (eqb low 21) _ _ w rest (other_head no_bytes (head.Bool true) bs (λ e. absurd cc)) a in
    eqb-true low 22 (chosen (eqb low 22) _ _ w rest
    (either_head (eqb low 23) _ _ (other_head no_bytes head.Undefined bs (λ e. absurd cc))
    (either_head (eqb low 25) _ _ (bits_other (number_at w16 bs) no_bytes (λ n. head.Float (Half n)) (λ x e. absurd cc))
    (either_head (eqb low 26) _ _ (bits_other (number_at w32 bs) no_bytes (λ n. head.Float (Single n)) (λ x e. absurd cc))
    (either_head (eqb low 27) _ _ (bits_other (number_at w64 bs) no_bytes (λ n. head.Float (Double n)) (λ x e. absurd cc))
    (either_head (eqb low 31) _ _ (other_head no_bytes head.Break bs (λ e. absurd cc)) (no_head _)))))) b).0

-- null's head is of major type 7
null_simple : (t : Major) (low : ℕ) (bs rest : List ℕ) (w : HeadWidth) → head_of t low bs ≡ Ok ((w, head.Null), rest) → (t ≡ major.simple) × (low ≡ 22)
unfolding head_of
null_simple major.unsigned low bs rest w is = absurd (number_other head.Unsigned low bs (λ n e. absurd cc) w rest is)
null_simple major.negative low bs rest w is = absurd (number_other head.Negative low bs (λ n e. absurd cc) w rest is)
null_simple major.bytes low bs rest w is = absurd (length_other (λ n. head.Bytes (Some n)) (head.Bytes None) low bs (λ n e. absurd cc) (λ e. absurd cc) w rest is)
null_simple major.text low bs rest w is = absurd (length_other (λ n. head.Text (Some n)) (head.Text None) low bs (λ n e. absurd cc) (λ e. absurd cc) w rest is)
null_simple major.array low bs rest w is = absurd (length_other (λ n. head.Array (Counted n)) (head.Array ToBreak) low bs (λ n e. absurd cc) (λ e. absurd cc) w rest is)
null_simple major.map low bs rest w is = absurd (length_other (λ n. head.Map (Counted n)) (head.Map ToBreak) low bs (λ n e. absurd cc) (λ e. absurd cc) w rest is)
null_simple major.tag low bs rest w is = absurd (number_other head.Tag low bs (λ n e. absurd cc) w rest is)
null_simple major.simple low bs rest w is = (refl, simple_null low bs rest w is)

head_null : (b : ℕ) (bs rest : List ℕ) (w : HeadWidth) → head_at b bs ≡ Ok ((w, head.Null), rest) → b ≡ 0xf6
unfolding head_at
head_null b bs rest w is =
    let got = null_simple (major_of (b / 32)) (b % 32) bs rest w is in
    omega (arith, simple_number (b / 32) got.0, got.1)

-- ---- the front

-- null, and nothing that was taken
apart : (bs more : List ℕ) → ◌≡◌ {A = Reads Bool} (Ok (true, bs)) (Ok (false, more)) → ⊥
apart bs more is = differ (ap (λ (p : Bool × List ℕ). p.0) (ok_is (true, bs) (false, more) is))
  where
    differ : true ≡ false → ⊥
    differ e = absurd cc

-- a test's answer
answer_true : (c : Bool) (bs rest more : List ℕ) → cond {A = Reads Bool} c (Ok (true, bs)) (Ok (false, more)) ≡ Ok (true, rest) → (c ≡ true) × (bs ≡ rest)
answer_true true bs rest more is = (refl, ap (λ (p : Bool × List ℕ). p.1) (ok_is (true, bs) (true, rest) is))
answer_true false bs rest more is = absurd (apart rest more (sym is))

answer_false : (c : Bool) (bs rest more : List ℕ) → cond {A = Reads Bool} c (Ok (true, bs)) (Ok (false, more)) ≡ Ok (false, rest) → (c ≡ false) × (more ≡ rest)
answer_false true bs rest more is = absurd (apart bs rest is)
answer_false false bs rest more is = (refl, ap (λ (p : Bool × List ℕ). p.1) (ok_is (false, more) (false, rest) is))

never : (bs : List ℕ) (e : Fault) → null_at bs ≡ Err e → ⊥
never [] e is = absurd cc
never (b ∷ bs) e is = by (eqb b 0xf6) is
  where
    by : (c : Bool) → cond {A = Reads Bool} c (Ok (true, bs)) (Ok (false, b ∷ bs)) ≡ Err e → ⊥
    by true h = absurd cc
    by false h = absurd cc

not_first : (b : ℕ) (bs : List ℕ) → eqb b 0xf6 ≡ false → NotNull (head_at b bs)
not_first b bs other w rest is = eqb-false b 0xf6 other (head_null b bs rest w is)

-- nothing was taken, and null's head isn't there
seen : (bs mid : List ℕ) → null_at bs ≡ Ok (false, mid) → (mid ≡ bs) × NotNull (opening_at bs)
unfolding byte_at
seen [] mid is = (sym (ap (λ (p : Bool × List ℕ). p.1) (ok_is (false, []) (false, mid) is)), no_head _)
seen (b ∷ bs) mid is =
    let other = answer_false (eqb b 0xf6) bs mid (b ∷ bs) is in
    (sym other.1, not_first b bs other.0)

module _ (f : Formats) (l : Limits) where
  no_null_behind : (inner : Option (List ℕ → Reads Raw)) (read : Reads (HeadWidth × Head)) (rest : List ℕ) → NotNull read → (read >>= (λ h. behind_head (raws f l) inner h.0.0 h.0.1 h.1)) ≡ Ok (raw.simple null_item, rest) → ⊥
  no_null_behind inner (Ok h) rest other is = no_null h.0.1 (λ e. other h.0.0 h.1 (ap (λ (k : Head). Ok ((h.0.0, k), h.1)) e)) (kinds f l inner h.0.0 h.1 h.0.1 (raw.simple null_item) rest is)
  no_null_behind inner (Err e) rest other is = absurd cc

  -- an item whose first byte isn't null's isn't null
  not_null : (levels : ℕ) (bs rest : List ℕ) → NotNull (opening_at bs) → item_at (raws f l) levels bs ≡ Ok (raw.simple null_item, rest) → ⊥
  not_null levels bs rest other is = no_null_behind (inside (raws f l) levels) (opening_at bs) rest other (sym (item_opened (raws f l) levels bs) ∙ is)

  null_here : (levels : ℕ) (bs : List ℕ) → item_at (raws f l) levels (0xf6 ∷ bs) ≡ Ok (raw.simple null_item, bs)
  unfolding item_at item_by byte_at after_first content_at simple_at
  null_here zero bs = refl
  null_here (suc levels) bs = refl

  null_read : (levels : ℕ) (bs rest : List ℕ) → null_at bs ≡ Ok (true, rest) → item_at (raws f l) levels bs ≡ Ok (raw.simple null_item, rest)
  null_read levels [] rest is = absurd (apart rest [] (sym is))
  null_read levels (b ∷ bs) rest is =
      let null = answer_true (eqb b 0xf6) bs rest (b ∷ bs) is in
      let first : b ≡ 0xf6 = eqb-true _ _ null.0 in
      ap (λ (x : ℕ). item_at (raws f l) levels (x ∷ bs)) first ∙ null_here levels bs ∙ ap (λ (x : List ℕ). Ok (raw.simple null_item, x)) null.1

-- ---- calls

-- a refusal after a step
pub refuses_behind : {t : Input} (allowed : ReadErrorCode → Bool) (s m : Input) (k : ErrorCode) (at : ℕ) (P : Limits → List ℕ → List ℕ → Type 0) (N N' : Limits → List ℕ → Type 0)
    → ((l : Limits) (bs mid : List ℕ) → P l bs mid → N l mid → N' l bs) → Step s m P → Refuses allowed m t k at N → Refuses allowed s t k at N'
refuses_behind {t = t} allowed s m k at P N N' on step h = record {
  took = some_then s m t step.took h.took;
  reported = λ bs reports.
      let got = step.reported bs reports in
      let same : limits m got.rest ≡ limits s bs = ap₂ (λ (n : ℕ) (r : Option ℕ). record { total = n; room = r }) got.total step.took.room in
      elim (h.reported got.rest got.reports) [
        | inl excused ↦ inl excused
        | inr none ↦ inr (on (limits s bs) bs got.rest got.holds (subst (λ (l : Limits). N l got.rest) same none))
      ];
}

module _ {A : Type 0} (allowed : ReadErrorCode → Bool) (f : Formats) (reads : Raw → A → Type 0) (levels : ℕ) (s : Input) where
  abbrev item : Limits → List ℕ → Reads Raw
  item l bs = item_at (raws f l) levels bs

  abbrev Seen : Bool → Limits → List ℕ → List ℕ → Type 0
  Seen b l bs rest = null_at bs ≡ Ok (b, rest)

  pub option_none : (t : Input) → Step s t (Seen true) → Step s t (λ l bs rest. IsRead (IsOptional reads) (item l bs) None rest)
  option_none t step = step_map s t (Seen true) (λ l bs rest. IsRead (IsOptional reads) (item l bs) None rest)
      (λ l bs rest is. record { item = raw.simple null_item; is = null_read f l levels bs rest is; means = refl }) step

  pub option_some : (m t : Input) (x : A) → Step s m (Seen false) → Step m t (λ l bs rest. IsRead reads (item l bs) x rest) → Step s t (λ l bs rest. IsRead (IsOptional reads) (item l bs) (Some x) rest)
  option_some m t x step taken =
      step_then s m t (Seen false) (λ l bs rest. IsRead reads (item l bs) x rest) (λ l bs rest. IsRead (IsOptional reads) (item l bs) (Some x) rest)
      (λ l bs mid rest is got.
      let front = seen bs mid is in
      let here : item l bs ≡ Ok (got.item, rest) = ap (item l) (sym front.0) ∙ got.is in
      record { item = got.item; is = here; means = (λ e. not_null f l levels bs rest front.1 (here ∙ ap (λ (r : Raw). Ok (r, rest)) e), got.means) }) step taken

  none_there : (l : Limits) (bs mid : List ℕ) → Seen false l bs mid → IsNotRead reads (item l mid) → IsNotRead (IsOptional reads) (item l bs)
  none_there l bs mid is none None rest got =
      let front = seen bs mid is in
      not_null f l levels bs rest front.1 (got.is ∙ ap (λ (r : Raw). Ok (r, rest)) got.means)
  none_there l bs mid is none (Some x) rest got =
      let front = seen bs mid is in
      none x rest (record { item = got.item; is = ap (item l) front.0 ∙ got.is; means = got.means.1 })

  pub option_refused : {t : Input} (m : Input) (k : ErrorCode) (at : ℕ) → Step s m (Seen false) → Refuses allowed m t k at (λ l bs. IsNotRead reads (item l bs)) → Refuses allowed s t k at (λ l bs. IsNotRead (IsOptional reads) (item l bs))
  option_refused m k at step h = refuses_behind allowed s m k at (Seen false) (λ l bs. IsNotRead reads (item l bs)) (λ l bs. IsNotRead (IsOptional reads) (item l bs)) none_there step h

  -- an option takes memory where what is there does, unless it is null
  pub option_memory : (asks : Raw → Type 0) (m : Input) (e : Error) → Step s m (Seen false) → MemoryFor asks f reads levels m e
      → MemoryFor (UnlessNull asks) f (IsOptional reads) levels s e
  option_memory asks m e step h is bs reports None rest got =
      let behind = step.reported bs reports in
      let front = seen bs behind.rest behind.holds in
      absurd (not_null f (limits s bs) levels bs rest front.1 (got.is ∙ ap (λ (r : Raw). Ok (r, rest)) got.means))
  option_memory asks m e step h is bs reports (Some x) rest got =
      let behind = step.reported bs reports in
      let front = seen bs behind.rest behind.holds in
      let same : limits m behind.rest ≡ limits s bs = ap₂ (λ (n : ℕ) (r : Option ℕ). record { total = n; room = r }) behind.total step.took.room in
      (got.means.0, h is behind.rest behind.reports x rest (record { item = got.item; is = ap₂ item same front.0 ∙ got.is; means = got.means.1 }))

  pub option_stops : {t : Input} (kept : ReadError) (r : Refused) (e : Error) → IsErrorOf kept r e → Stopped allowed (λ l. null_at) s t kept r → Refuses allowed s t (code_of e) (offset_of e) (λ l bs. IsNotRead (IsOptional reads) (item l bs))
  option_stops kept r e is stopped = refuses allowed (IsOptional reads) item s kept r e is (stopped_map allowed (λ l. null_at) item s kept r (λ l bs g stops. absurd (never bs g stops)) stopped)

-- ---- the fault

module _ (allowed : ReadErrorCode → Bool) (levels : ℕ) (s : Input) where
  -- a refusal of what is there
  pub option_whole : (m : Input) (e : Error) → Step s m (λ l bs rest. null_at bs ≡ Ok (false, rest)) → RefusesWhole allowed levels m e → RefusesWhole allowed levels s e
  option_whole m e step h bs reports =
      let behind = step.reported bs reports in
      let D = ReportsIo allowed in
      let k = code_of e in
      let at = offset_of e in
      let same : limits m behind.rest ≡ limits s bs = ap₂ (λ (n : ℕ) (r : Option ℕ). record { total = n; room = r }) behind.total step.took.room in
      let here = subst (λ (n : ℕ). FaultOrMessage D k n at (any_item levels (limits m behind.rest) behind.rest)) behind.total (h behind.rest behind.reports) in
      subst (λ (r : Reads Val). FaultOrMessage D k (s.offset + length bs) at r) (ap₂ (any_item levels) same (seen bs behind.rest behind.holds).0) here

  -- the source refused
  pub unseen_whole : {t : Input} (kept : ReadError) (r : Refused) (e : Error) → Stopped allowed (λ l. null_at) s t kept r → IsErrorOf kept r e → RefusesWhole allowed levels s e
  unseen_whole kept r e h is = stopped_whole allowed levels s kept r e (why_map allowed (λ l. null_at) (any_item levels) s kept r (λ l bs g stops. absurd (never bs g stops)) h.reported) is
