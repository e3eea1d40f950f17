-- Strings that are lent.
use Rattle.std.proofs.Common.{◌≡◌, inl, inr, ◌+◌, ◌-◌, ◌^◌, ◌<◌, ◌≤◌, ℕ, Bool, true, false, ltb, List, ◌++◌, length, take, Option, Some, None, Result, Ok, Err, IfErr, OnOk, refl, sym, ap, subst, ◌∙◌, arith, length-append}
use Rattle.std.proofs.Math.Seq.{take-append_seam, drop-append_seam}
use Rattle.std.proofs.lemmas.Bool.{le-ltb, lt-ltb}
use Rattle.std.proofs.lemmas.List.{length-take-le}
use Rattle.std.specs.Str.{IsUtf8}
use Rattle.cbor_model.specs.Formats.{Formats}
use Rattle.cbor_model.specs.Head.{HeadWidth}
use Rattle.cbor_model.specs.Raw.{Raw}
use Rattle.cbor_model.specs.Readable.{Context, untagged, PassesTags, IsString, IsText}
use Rattle.cbor_model.specs.Reader.{Reads, bytes_at, item_at, inside}
use Rattle.cbor_model.proofs.facts.Reader.{ok_is}
use Rattle.cbor_read.specs.Source.{Input, Lends, Took, TookSome, TookKept, KeepsBytes, part_bytes, is_long}
use Rattle.cbor_io.specs.ReadError.{why, place, error_code}
use Rattle.cbor_io.specs.Error.{code_of, offset_of}
use Rattle.cbor_io.specs.declared.error.Error.{Error}
use Rattle.cbor_io.specs.declared.error.ErrorCode.{ErrorCode}
use Rattle.cbor_read.specs.declared.EitherLifetime.{EitherLifetime}
use Rattle.cbor_io.specs.declared.read_error.ReadErrorCode.{ReadErrorCode}
use Rattle.cbor_decode.specs.Gives.{Limits, limits, Advances, Step, ReportsIo}
use Rattle.cbor_decode.specs.declared.head.Head.{Head}
use Rattle.cbor_decode.specs.declared.head.Head.TheVariants as head
use Rattle.cbor_decode.proofs.facts.Steps.{advances_some, step_map, step_then, taken_step, none_step}
use Rattle.cbor_io.specs.declared.read_error.ReadError.{ReadError}
use Rattle.cbor_decode.specs.Heads.{behind_head}
use Rattle.cbor_decode_as.specs.TaggedHeads.{IsTaggedHead, TakesItemHead}
use Rattle.cbor_decode_as.specs.Takes.{raws, lending, IsRead, IsNotRead, ExcusedBy, Refuses}
use Rattle.cbor_decode_as.specs.Strings.{IsNoKey, content_at, is_lent_head, lends_head, Lacks, Lent, LentText, LendsText, LendsString, IsLentText, IsLentString, IsMadeOf, BytesOf, PartText, Utf8Of, text_bytes}
use Rattle.cbor_decode_as.specs.declared.borrowed.EitherStr.{EitherStr}
use Rattle.cbor_decode_as.specs.declared.borrowed.Unread.{Unread}
use Rattle.cbor_decode_as.specs.declared.borrowed.Unread.TheVariants.{Stopped, Other}
use Rattle.cbor_decode_as.proofs.numbers.Scalars.{not_both, refuses_on, opened_none}
use Rattle.cbor_decode_as.proofs.numbers.Nulls.{refuses_behind}
use Rattle.cbor_decode_as.proofs.texts.StringContents.{step_refuses, string_takes, bytes_takes, bytes_bad, bytes_stop, text_read, text_bad, text_stop, not_string, none_at}

-- ---- parts

-- so many bytes at the front
front : (p rest : List ℕ) → bytes_at (length p) (p ++ rest) ≡ Ok (p, rest)
front p rest =
    let enough : ltb (length (p ++ rest)) (length p) ≡ false = le-ltb (length (p ++ rest)) (length p) (omega (arith, length-append p rest)) in
    rw (enough, take-append_seam p rest, drop-append_seam p rest) refl

front_of : (n : ℕ) (p bs rest : List ℕ) → length p ≡ n → bs ≡ p ++ rest → bytes_at n bs ≡ Ok (p, rest)
front_of n p bs rest len is = rw is (subst (λ (k : ℕ). bytes_at k (p ++ rest) ≡ Ok (p, rest)) len (front p rest))

pub read_step : (s t : Input) (n : ℕ) (p : List ℕ) → length p ≡ n → Took s t p → Step s t (λ l bs rest. bytes_at n bs ≡ Ok (p, rest))
read_step s t n p len took =
    step_map s t (λ l bs rest. bs ≡ p ++ rest) (λ l bs rest. bytes_at n bs ≡ Ok (p, rest)) (λ l bs rest is. front_of n p bs rest len is) (taken_step s t p took.bytes took.count took.room)

-- a text for which there is room
pub ends_at : (s : Input) (bs : List ℕ) (n : ℕ) → ltb (s.offset + n) (2 ^ 64) ≡ true → ltb ((limits s bs).total - length bs + n) (2 ^ 64) ≡ true
ends_at s bs n h = subst (λ (k : ℕ). ltb (k + n) (2 ^ 64) ≡ true) (omega arith) h

pub text_step : (s t : Input) (n : ℕ) (p : List ℕ) → ltb (s.offset + n) (2 ^ 64) ≡ true → length p ≡ n → Took s t p → Step s t (λ l bs rest. content_at l (head.Text (Some n)) bs ≡ Ok (p, rest))
text_step s t n p room len took =
    let step = read_step s t n p len took in
    record {
      took = step.took;
      reported = λ bs reports.
          let one = step.reported bs reports in
          record { rest = one.rest; reports = one.reports; total = one.total; holds = rw (ends_at s bs n room) one.holds };
    }

-- n bytes at hand, which were taken
pub hand_step : (s t : Input) (n : ℕ) (hand : List ℕ) → n ≤ length hand → TookKept s t (take n hand) → t.offset < 2 ^ 64 → Step s t (λ l bs rest. content_at l (head.Text (Some n)) bs ≡ Ok (take n hand, rest))
hand_step s t n hand within took below =
    let len = length-take-le n hand within in
    text_step s t n (take n hand) (lt-ltb (s.offset + n) (2 ^ 64) (omega (arith, took.count, len, below))) len
    (record { bytes = took.bytes; count = took.count; room = took.room })

-- chunks that were joined in the buffer, which is lent
pub joined_step : (s m t : Input) (b p : List ℕ) → p ≡ b → KeepsBytes m t → Step s m (λ l bs rest. content_at l (head.Text None) bs ≡ Ok (b, rest)) → Step s t (λ l bs rest. content_at l (head.Text None) bs ≡ Ok (p, rest))
joined_step s m t b p same kept step =
    step_then s m t (λ l bs rest. content_at l (head.Text None) bs ≡ Ok (b, rest)) (λ l bs rest. bs ≡ rest) (λ l bs rest. content_at l (head.Text None) bs ≡ Ok (p, rest))
    (λ l bs mid rest is to. is ∙ ap (λ (x : List ℕ). Ok (x, mid)) (sym same) ∙ ap (λ (x : List ℕ). Ok (p, x)) to) step (none_step m t kept.bytes kept.count kept.room)

-- the text of a part that was lent
pub text_lent : (allowed : ReadErrorCode → Bool) (l : Lends) (h : Head) (s t : Input) (p : EitherLifetime) (end : ℕ) (r : Result EitherStr Unread) → Step s t (λ limits bs rest. content_at limits h bs ≡ Ok (part_bytes p, rest)) → is_long p ≡ lends_head l h → PartText p end r → LentText allowed l h s t r
text_lent allowed l h s t p end (Ok x) step long is = (
  step_map s t (λ limits bs rest. content_at limits h bs ≡ Ok (part_bytes p, rest)) (λ limits bs rest. content_at limits h bs ≡ Ok (text_bytes x, rest)) (λ limits bs rest here. here ∙ ap (λ (b : List ℕ). Ok (b, rest)) (sym is.0)) step,
  subst IsUtf8 (sym is.0) is.1,
  is.2 ∙ long,
)
text_lent allowed l h s t p end (Err (Stopped e)) step long is =
    step_refuses allowed s t (error_code (why e)) (place e) (λ limits bs. (b rest : List ℕ) → content_at limits h bs ≡ Ok (b, rest) → IsUtf8 b → ⊥)
    (step_map s t (λ limits bs rest. content_at limits h bs ≡ Ok (part_bytes p, rest)) (λ limits bs rest. (b after : List ℕ) → content_at limits h bs ≡ Ok (b, after) → IsUtf8 b → ⊥)
    (λ limits bs rest here b after there utf8. is.0 (subst IsUtf8 (ap (λ (q : List ℕ × List ℕ). q.0) (ok_is (b, after) (part_bytes p, rest) (sym there ∙ here))) utf8)) step)
text_lent allowed l h s t p end (Err Other) step long is = absurd is

-- what isn't UTF-8 isn't refused as a key is
pub part_no_key : (p : EitherLifetime) (end : ℕ) (r : Result EitherStr Unread) → PartText p end r → IfErr r IsNoKey
part_no_key p end (Ok x) is = tt
part_no_key p end (Err (Stopped e)) is = λ key. let bad = is.1 in absurd cc
part_no_key p end (Err Other) is = absurd is

pub utf8_no_key : (p : EitherLifetime) (r : Result EitherStr Unread) → Utf8Of p r → IfErr r IsNoKey
utf8_no_key p (Ok x) is = tt
utf8_no_key p (Err u) is = subst IsNoKey (sym is.1) tt

pub bytes_no_key : (t : EitherStr) (r : Result EitherLifetime Unread) → BytesOf t r → IfErr r IsNoKey
bytes_no_key t (Ok p) is = tt
bytes_no_key t (Err u) is = absurd is

-- ---- a byte at the least

pub any_ok : {X W P : Type 0} (r : Result X W) → P → OnOk r P
any_ok (Ok x) h = h
any_ok (Err u) h = tt

pub lent_advances : (allowed : ReadErrorCode → Bool) (l : Lends) (h : Head) (s m t : Input) (r : Result EitherLifetime Unread) → Advances s m → Lent allowed l h m t r → OnOk r (Advances s t)
lent_advances allowed l h s m t (Ok p) first lent = advances_some s m t first lent.0.took
lent_advances allowed l h s m t (Err u) first lent = tt

pub text_advances : (allowed : ReadErrorCode → Bool) (l : Lends) (h : Head) (s m t : Input) (r : Result EitherStr Unread) → Advances s m → LentText allowed l h m t r → OnOk r (Advances s t)
text_advances allowed l h s m t (Ok p) first lent = advances_some s m t first lent.0.took
text_advances allowed l h s m t (Err u) first lent = tt

-- ---- items

-- what lacks after a step
lacks_behind : (allowed : ReadErrorCode → Bool) (s m t : Input) (P : Limits → List ℕ → List ℕ → Type 0) (N N' : Limits → List ℕ → Type 0) → ((l : Limits) (bs mid : List ℕ) → P l bs mid → N l mid → N' l bs) → Step s m P
    → (u : Unread) → Lacks allowed m t N u → Lacks allowed s t N' u
lacks_behind allowed s m t P N N' on step (Stopped e) h = refuses_behind allowed s m (error_code (why e)) (place e) P N N' on step h
lacks_behind allowed s m t P N N' on step Other h = λ k at. refuses_behind allowed s m k at P N N' on step (h k at)

-- what nothing is refused by is lacking
pub lacks_all : {t : Input} (allowed : ReadErrorCode → Bool) (s : Input) (N : Limits → List ℕ → Type 0) → ((k : ErrorCode) (at : ℕ) → Refuses allowed s t k at N) → (u : Unread) → Lacks allowed s t N u
lacks_all allowed s N h (Stopped e) = h (error_code (why e)) (place e)
lacks_all allowed s N h Other = h

module _ (allowed : ReadErrorCode → Bool) (f : Formats) (l : Lends) (levels : ℕ) (s m : Input) (kept : ReadError) where
  abbrev c : Context
  c = lending f l

  lends_text : (n : Option ℕ) → lends_head l (head.Text n) ≡ is_lent_head c (head.Text n)
  lends_text None = refl
  lends_text (Some n) = refl

  pub lends_bytes : (n : Option ℕ) → lends_head l (head.Bytes n) ≡ is_lent_head c (head.Bytes n)
  lends_bytes None = refl
  lends_bytes (Some n) = refl

  -- nothing is read where the content of a text isn't there
  pub no_text : (limits : Limits) (inner : Option (List ℕ → Reads Raw)) (w : HeadWidth) (n : Option ℕ) (bs : List ℕ) (content : Reads (List ℕ)) → content_at limits (head.Text n) bs ≡ content
      → ((b rest : List ℕ) → content_at limits (head.Text n) bs ≡ Ok (b, rest) → IsUtf8 b → ⊥) → (r : Raw × List ℕ) → behind_head (raws f limits) inner w (head.Text n) bs ≡ Ok r → ⊥
  no_text limits inner w n bs (Ok p) is none r read = not_both (behind_head (raws f limits) inner w (head.Text n) bs) r _ read (text_bad f limits inner w n bs p.0 p.1 is (none p.0 p.1 is))
  no_text limits inner w n bs (Err g) is none r read = not_both (behind_head (raws f limits) inner w (head.Text n) bs) r g read (text_stop f limits inner w n bs g is)

  pub no_bytes : (limits : Limits) (inner : Option (List ℕ → Reads Raw)) (w : HeadWidth) (n : Option ℕ) (bs : List ℕ) (content : Reads (List ℕ)) → content_at limits (head.Bytes n) bs ≡ content
      → ((b rest : List ℕ) → content_at limits (head.Bytes n) bs ≡ Ok (b, rest) → ⊥) → (r : Raw × List ℕ) → behind_head (raws f limits) inner w (head.Bytes n) bs ≡ Ok r → ⊥
  no_bytes limits inner w n bs (Ok p) is none r read = none p.0 p.1 is
  no_bytes limits inner w n bs (Err g) is none r read = not_both (behind_head (raws f limits) inner w (head.Bytes n) bs) r g read (bytes_stop f limits inner w n bs g is)

  -- nothing is read of a string whose content isn't there
  pub text_lacks : {X : Type 0} (reads : Raw → X → Type 0) (n : Option ℕ) (t : Input) (u : Unread) → TakesItemHead allowed f levels s m kept (Ok (head.Text n)) → LentText allowed l (head.Text n) m t (Err u) → Lacks allowed s t (λ limits bs. IsNotRead (PassesTags reads) (item_at (raws f limits) levels bs)) u
  text_lacks reads n t u opened is =
      lacks_behind allowed s m t (λ limits bs rest. IsTaggedHead f limits (item_at (raws f limits) levels bs) opened.0 (head.Text n) rest) _ (λ limits bs. IsNotRead (PassesTags reads) (item_at (raws f limits) levels bs))
      (λ limits bs mid o none. opened_none f reads limits (item_at (raws f limits) levels bs) opened.0 (head.Text n) mid o (λ r rest x read text. no_text limits (inside (raws f limits) opened.0) o.width n mid _ refl none (r, rest) read)) opened.1 u is

  pub bytes_lacks : {X : Type 0} (reads : Raw → X → Type 0) (n : Option ℕ) (t : Input) (u : Unread) → TakesItemHead allowed f levels s m kept (Ok (head.Bytes n)) → Lent allowed l (head.Bytes n) m t (Err u) → Lacks allowed s t (λ limits bs. IsNotRead (PassesTags reads) (item_at (raws f limits) levels bs)) u
  bytes_lacks reads n t u opened is =
      lacks_behind allowed s m t (λ limits bs rest. IsTaggedHead f limits (item_at (raws f limits) levels bs) opened.0 (head.Bytes n) rest) _ (λ limits bs. IsNotRead (PassesTags reads) (item_at (raws f limits) levels bs))
      (λ limits bs mid o none. opened_none f reads limits (item_at (raws f limits) levels bs) opened.0 (head.Bytes n) mid o (λ r rest x read text. no_bytes limits (inside (raws f limits) opened.0) o.width n mid _ refl none (r, rest) read)) opened.1 u is

  pub text_refuses : {X : Type 0} {t : Input} (reads : Raw → X → Type 0) (n : Option ℕ) (k : ErrorCode) (at : ℕ) → TakesItemHead allowed f levels s m kept (Ok (head.Text n)) → Refuses allowed m t k at (λ limits bs. (b rest : List ℕ) → content_at limits (head.Text n) bs ≡ Ok (b, rest) → IsUtf8 b → ⊥)
      → Refuses allowed s t k at (λ limits bs. IsNotRead (PassesTags reads) (item_at (raws f limits) levels bs))
  text_refuses reads n k at opened none =
      refuses_behind allowed s m k at (λ limits bs rest. IsTaggedHead f limits (item_at (raws f limits) levels bs) opened.0 (head.Text n) rest) _ (λ limits bs. IsNotRead (PassesTags reads) (item_at (raws f limits) levels bs))
      (λ limits bs mid o none. opened_none f reads limits (item_at (raws f limits) levels bs) opened.0 (head.Text n) mid o (λ r rest x read text. no_text limits (inside (raws f limits) opened.0) o.width n mid _ refl none (r, rest) read)) opened.1 none

  pub text_item : (n : Option ℕ) (t : Input) (r : Result EitherStr Unread) → TakesItemHead allowed f levels s m kept (Ok (head.Text n)) → LentText allowed l (head.Text n) m t r → LendsText allowed c levels s t r
  text_item n t (Ok x) opened is =
      string_takes allowed f (IsLentText c) levels s m kept (head.Text n) opened t (text_bytes x) x (λ limits w bs rest content. text_read f limits (inside (raws f limits) opened.0) w n bs (text_bytes x) rest content is.1)
      (λ r string lent. ((string, is.1), is.2 ∙ lends_text n ∙ sym (lent c))) is.0
  text_item n t (Err u) opened is = text_lacks IsText n t u opened is

  pub bytes_stopped : (n : Option ℕ) (t : Input) (u : Unread) → TakesItemHead allowed f levels s m kept (Ok (head.Bytes n)) → Lent allowed l (head.Bytes n) m t (Err u) → LendsText allowed c levels s t (Err u)
  bytes_stopped n t u opened is = bytes_lacks IsText n t u opened is

  pub bytes_item : (n : Option ℕ) (t : Input) (p : EitherLifetime) (r : Result EitherStr Unread) → TakesItemHead allowed f levels s m kept (Ok (head.Bytes n)) → Lent allowed l (head.Bytes n) m t (Ok p) → Utf8Of p r → LendsText allowed c levels s t r
  bytes_item n t p (Ok x) opened is text =
      bytes_takes allowed f (IsLentText c) levels s m kept n opened t (part_bytes p) x
      (λ r string lent. ((subst (IsString r) (sym text.0) string, subst IsUtf8 (sym text.0) text.1), text.2 ∙ is.1 ∙ lends_bytes n ∙ sym (lent c))) is.0
  bytes_item n t p (Err u) opened is text =
      lacks_all allowed s (λ limits bs. IsNotRead (PassesTags IsText) (item_at (raws f limits) levels bs)) (λ k at. bytes_bad allowed f IsText levels s m kept n opened t (part_bytes p) k at (λ b. b) (λ r b is. is) text.0 is.0) u

  -- an item of another kind is no text
  pub other_item : (h : Head) (u : Unread) (t : Input) → ((n : Option ℕ) → h ≡ head.Text n → ⊥) → ((n : Option ℕ) → h ≡ head.Bytes n → ⊥) → TakesItemHead allowed f levels s m kept (Ok h) → TookSome m t → LendsText allowed c levels s t (Err u)
  other_item h u t text bytes opened more =
      lacks_all allowed s (λ limits bs. IsNotRead (PassesTags IsText) (item_at (raws f limits) levels bs)) (λ k at. refuses_on (none_at allowed f IsText levels s m kept h k at (λ r b is. not_string h text bytes r b is.0) opened) more) u

  -- ---- strings

  pub bytes_string : (n : Option ℕ) (t : Input) (r : Result EitherLifetime Unread) → TakesItemHead allowed f levels s m kept (Ok (head.Bytes n)) → Lent allowed l (head.Bytes n) m t r → LendsString allowed c levels s t r
  bytes_string n t (Ok p) opened is =
      bytes_takes allowed f (IsLentString c) levels s m kept n opened t (part_bytes p) p (λ r string lent. (string, is.1 ∙ lends_bytes n ∙ sym (lent c))) is.0
  bytes_string n t (Err u) opened is = bytes_lacks IsString n t u opened is

  pub text_string : (n : Option ℕ) (t : Input) (x : EitherStr) (r : Result EitherLifetime Unread) → TakesItemHead allowed f levels s m kept (Ok (head.Text n)) → LentText allowed l (head.Text n) m t (Ok x) → BytesOf x r → LendsString allowed c levels s t r
  text_string n t x (Ok p) opened is bytes =
      string_takes allowed f (IsLentString c) levels s m kept (head.Text n) opened t (text_bytes x) p (λ limits w bs rest content. text_read f limits (inside (raws f limits) opened.0) w n bs (text_bytes x) rest content is.1)
      (λ r string lent. (subst (IsString r) (sym bytes.0) string, bytes.1 ∙ is.2 ∙ lends_text n ∙ sym (lent c))) is.0
  text_string n t x (Err u) opened is bytes = absurd bytes

  pub text_stopped : (n : Option ℕ) (t : Input) (u : Unread) → TakesItemHead allowed f levels s m kept (Ok (head.Text n)) → LentText allowed l (head.Text n) m t (Err u) → LendsString allowed c levels s t (Err u)
  text_stopped n t u opened is = text_lacks IsString n t u opened is

  pub other_string : (h : Head) (u : Unread) (t : Input) → ((n : Option ℕ) → h ≡ head.Text n → ⊥) → ((n : Option ℕ) → h ≡ head.Bytes n → ⊥) → TakesItemHead allowed f levels s m kept (Ok h) → TookSome m t → LendsString allowed c levels s t (Err u)
  other_string h u t text bytes opened more =
      lacks_all allowed s (λ limits bs. IsNotRead (PassesTags IsString) (item_at (raws f limits) levels bs)) (λ k at. refuses_on (none_at allowed f IsString levels s m kept h k at (λ r b is. not_string h text bytes r b is) opened) more) u

-- ---- types

-- what a type makes of what is read
module _ {A B : Type 0} (allowed : ReadErrorCode → Bool) (reads : Raw → A → Type 0) (lent : Raw → B → Type 0) (read : Limits → List ℕ → Reads Raw) (s : Input) where
  pub made_read : (t : Input) (x : A) (y : B) → ((r : Raw) → lent r y → reads r x) → Step s t (λ l bs rest. IsRead (PassesTags lent) (read l bs) y rest) → Step s t (λ l bs rest. IsRead (PassesTags reads) (read l bs) x rest)
  made_read t x y means step = step_map s t (λ l bs rest. IsRead (PassesTags lent) (read l bs) y rest) (λ l bs rest. IsRead (PassesTags reads) (read l bs) x rest)
      (λ l bs rest got. record { item = got.item; is = got.is; means = means (untagged got.item) got.means }) step

  -- what is read as y is nothing of the type
  pub made_none : (t : Input) (k : ErrorCode) (at : ℕ) (y : B) → ((r : Raw) (x : A) → lent r y → reads r x → ⊥) → Step s t (λ l bs rest. IsRead (PassesTags lent) (read l bs) y rest) → Refuses allowed s t k at (λ l bs. IsNotRead (PassesTags reads) (read l bs))
  made_none t k at y none step =
      step_refuses allowed s t k at (λ l bs. IsNotRead (PassesTags reads) (read l bs))
      (step_map s t (λ l bs rest. IsRead (PassesTags lent) (read l bs) y rest) (λ l bs rest. IsNotRead (PassesTags reads) (read l bs))
      (λ l bs rest got x after other.
      let same = ap (λ (p : Raw × List ℕ). p.0) (ok_is (other.item, after) (got.item, rest) (sym other.is ∙ got.is)) in
      none (untagged got.item) x got.means (subst (λ (r : Raw). reads (untagged r) x) same other.means)) step)

-- the error of what lacks
pub made_refuses : {t : Input} (allowed : ReadErrorCode → Bool) (s : Input) (N N' : Limits → List ℕ → Type 0) (u : Unread) (e : Error) → ((l : Limits) (bs : List ℕ) → N l bs → N' l bs) → IsMadeOf u e → Lacks allowed s t N u → Refuses allowed s t (code_of e) (offset_of e) N'
made_refuses allowed s N N' (Stopped q) e on made h = record {
  took = h.took;
  reported = λ bs reports. elim (h.reported bs reports) [
    | inl excused ↦ inl (subst (λ (at : ℕ). ExcusedBy (ReportsIo allowed) (code_of e) at) (sym made.1) (subst (λ (k : ErrorCode). ExcusedBy (ReportsIo allowed) k (place q)) (sym made.0) excused))
    | inr none ↦ inr (on (limits s bs) bs none)
  ];
}
made_refuses allowed s N N' Other e on made h = record {
  took = (h (code_of e) (offset_of e)).took;
  reported = λ bs reports. elim ((h (code_of e) (offset_of e)).reported bs reports) [
    | inl excused ↦ inl excused
    | inr none ↦ inr (on (limits s bs) bs none)
  ];
}

-- what isn't read in any way isn't read so
pub none_of : {A B : Type 0} (reads : Raw → A → Type 0) (other : Raw → B → Type 0) (view : A → B) (read : Reads Raw) → ((r : Raw) (x : A) → reads r x → other r (view x)) → IsNotRead (PassesTags other) read → IsNotRead (PassesTags reads) read
none_of reads other view read on none x rest got = none (view x) rest (record { item = got.item; is = got.is; means = on (untagged got.item) x got.means })
