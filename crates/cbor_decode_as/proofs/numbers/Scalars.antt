-- Items that are whole with their head.
use Rattle.std.proofs.Common.{◌≡◌, ◌+◌, length, ◌⊎◌, inl, inr, ℕ, Bool, true, false, List, [], ◌∷◌, Option, Result, Ok, Err, refl, sym, ap, subst, ◌∙◌}
use Rattle.cbor_model.specs.Head.{HeadWidth}
use Rattle.cbor_model.specs.Raw as raw
use Rattle.cbor_model.specs.Raw.{Raw, Simple, false_item, true_item, null_item, undefined_item}
use Rattle.cbor_model.specs.Formats.{Formats}
use Rattle.cbor_model.specs.Readable.{untagged, PassesTags, IsBool, IsUnit}
use Rattle.cbor_model.specs.Reader.{Fault, Reads, item_at, inside}
use Rattle.cbor_model.proofs.facts.Reader.{ok_is}
use Rattle.cbor_read.specs.Source.{Input, TookSome}
use Rattle.cbor_io.specs.Error.{code_of, offset_of}
use Rattle.cbor_io.specs.declared.error.Error.{Error}
use Rattle.cbor_io.specs.declared.error.ErrorCode.{ErrorCode}
use Rattle.cbor_io.specs.declared.error.ErrorCode.TheVariants as code
use Rattle.cbor_io.specs.ReadError.{place}
use Rattle.cbor_io.specs.declared.read_error.ReadError.{ReadError}
use Rattle.cbor_io.specs.declared.read_error.ReadErrorCode.{ReadErrorCode}
use Rattle.cbor_value.specs.declared.Float.{Float}
use Rattle.cbor_value.specs.declared.Float.TheVariants.{Half, Single, Double}
use Rattle.cbor_decode.specs.Gives.{Limits, limits, Reports, Step, ReportsWhy, Stopped, FailsBy, ReportsIo, IsErrorOf}
use Rattle.cbor_decode.specs.Heads.{behind_head}
use Rattle.cbor_decode.specs.declared.head.Head.{Head}
use Rattle.cbor_decode.specs.declared.head.Head.TheVariants as head
use Rattle.cbor_decode.specs.declared.refusal.Refused.{Refused}
use Rattle.cbor_decode.specs.declared.refusal.Refused.TheVariants as refused
use Rattle.cbor_decode.proofs.facts.Steps.{some_then, step_map}
use Rattle.cbor_decode_as.specs.Takes.{raws, IsRead, IsNotRead, ExcusedBy, MemoryFor, Refuses, ReportsFault}
use Rattle.cbor_decode_as.specs.TaggedHeads.{tagged, in_tags, IsTaggedHead, TakesItemHead}
use Rattle.cbor_decode_as.specs.Kinds.{kind_of, head_kind}
use Rattle.cbor_decode_as.specs.Kinds as kind
use Rattle.cbor_decode_as.specs.Scalars.{IsFloatItem}
use Rattle.cbor_decode_as.proofs.heads.OfKind.{kinds}

-- ---- refusals

-- an error that reports a fault is excused, or the reading meets that fault
pub excused_or : {A : Type 0} (D : Type 0) (k : ErrorCode) (end at : ℕ) (read : Result A Fault) → FailsBy D k end at read → ExcusedBy D k at ⊎ ((f : Fault) × (read ≡ Err f))
excused_or D (code.Message s) end at read h = absurd h
excused_or D (code.Io e) end at read h = inl h
excused_or D code.ScratchTooSmall end at read h = inr (_, h.2)
excused_or D code.EofWhileParsingValue end at read h = inr (_, h.2)
excused_or D code.EofWhileParsingArray end at read h = inr (_, h.2)
excused_or D code.EofWhileParsingMap end at read h = inr (_, h.2)
excused_or D code.LengthOutOfRange end at read h = inr (_, h.2)
excused_or D code.InvalidUtf8 end at read h = inr (_, h.2)
excused_or D code.UnassignedCode end at read h = inr (_, h.2)
excused_or D code.UnexpectedCode end at read h = inr (_, h.2)
excused_or D code.TrailingData end at read h = inr (_, h.2)
excused_or D code.ArrayTooShort end at read h = absurd h
excused_or D code.ArrayTooLong end at read h = absurd h
excused_or D code.RecursionLimitExceeded end at read h = inr (_, h.2)
excused_or D code.WrongEnumFormat end at read h = absurd h
excused_or D code.WrongStructFormat end at read h = inr (_, h.2)
excused_or D code.NotCanonical end at read h = absurd h
excused_or D code.OutOfMemory end at read h = inl h

pub not_both : (read : Reads Raw) (x : Raw × List ℕ) (f : Fault) → read ≡ Ok x → read ≡ Err f → ⊥
not_both (Ok y) x f is other = absurd cc
not_both (Err g) x f is other = absurd cc

-- what a fault stops is not read
pub not_read : {A : Type 0} (reads : Raw → A → Type 0) (read : Reads Raw) (fault : Fault) → read ≡ Err fault → IsNotRead reads read
not_read reads read fault is x rest got = not_both read (got.item, rest) fault got.is is

or_none : {A : Type 0} (D : Type 0) (k : ErrorCode) (at : ℕ) (reads : Raw → A → Type 0) (read : Reads Raw) → ExcusedBy D k at ⊎ ((fault : Fault) × (read ≡ Err fault)) → ExcusedBy D k at ⊎ IsNotRead reads read
or_none D k at reads read (inl e) = inl e
or_none D k at reads read (inr h) = inr (not_read reads read h.0 h.1)

-- the error of a refusal reports the fault
pub reported_why : {A : Type 0} (allowed : ReadErrorCode → Bool) (read : Limits → List ℕ → Reads A) (s : Input) (kept : ReadError) (r : Refused) (e : Error) → IsErrorOf kept r e → ReportsWhy allowed read s kept r → ReportsFault allowed read s e
reported_why allowed read s kept refused.OutOfMemory e is h bs reports = subst (λ (k : ErrorCode). FailsBy (ReportsIo allowed) k (s.offset + length bs) (offset_of e) (read (limits s bs) bs)) (sym is.0) is.1
reported_why allowed read s kept refused.Kept e is h bs reports =
    let D = ReportsIo allowed in
    let there = subst (λ (k : ErrorCode). FailsBy D k (s.offset + length bs) (place kept) (read (limits s bs) bs)) (sym is.0) (h.reported bs reports) in
    subst (λ (n : ℕ). FailsBy D (code_of e) (s.offset + length bs) n (read (limits s bs) bs)) (sym is.1) there

pub reported_by : {A : Type 0} {t : Input} (allowed : ReadErrorCode → Bool) (read : Limits → List ℕ → Reads A) (s : Input) (kept : ReadError) (r : Refused) (e : Error) → IsErrorOf kept r e → Stopped allowed read s t kept r → ReportsFault allowed read s e
reported_by allowed read s kept r e is h = reported_why allowed read s kept r e is h.reported

-- an error that is made of a refusal
pub refuses : {A : Type 0} {t : Input} (allowed : ReadErrorCode → Bool) (reads : Raw → A → Type 0) (read : Limits → List ℕ → Reads Raw) (s : Input) (kept : ReadError) (r : Refused) (e : Error)
    → IsErrorOf kept r e → Stopped allowed read s t kept r → Refuses allowed s t (code_of e) (offset_of e) (λ l bs. IsNotRead reads (read l bs))
refuses allowed reads read s kept r e is h = record {
  took = h.took;
  reported = λ bs reports. or_none (ReportsIo allowed) (code_of e) (offset_of e) reads (read (limits s bs) bs) (excused_or (ReportsIo allowed) (code_of e) (s.offset + length bs) (offset_of e) (read (limits s bs) bs) (reported_by allowed read s kept r e is h bs reports));
}

-- further bytes were taken
pub refuses_on : {allowed : ReadErrorCode → Bool} {s t u : Input} {k : ErrorCode} {at : ℕ} {N : Limits → List ℕ → Type 0} → Refuses allowed s t k at N → TookSome t u → Refuses allowed s u k at N
refuses_on {s = s} {t = t} {u = u} h more = record { took = some_then s t u h.took more; reported = h.reported }

-- what isn't excused holds
pub unexcused : {t : Input} (allowed : ReadErrorCode → Bool) (s : Input) (N : Limits → List ℕ → Type 0) → Refuses allowed s t code.TrailingData 0 N → (bs : List ℕ) → Reports s bs → N (limits s bs) bs
unexcused allowed s N h bs reports = elim (h.reported bs reports) [
  | inl excused ↦ absurd excused
  | inr none ↦ none
]

-- where memory didn't run out, any item may be there
pub other_code : {A : Type 0} (asks : Raw → Type 0) (f : Formats) (reads : Raw → A → Type 0) (levels : ℕ) (s : Input) (e : Error) → (code_of e ≡ code.OutOfMemory → ⊥) → MemoryFor asks f reads levels s e
other_code asks f reads levels s e other is = absurd (other is)

-- ---- within tags

pub untagged-tagged : (ts : List (HeadWidth × ℕ)) (r : Raw) → untagged (tagged ts r) ≡ untagged r
untagged-tagged [] r = refl
untagged-tagged (t ∷ ts) r = untagged-tagged ts r

-- what is read within tags
pub record Within (ts : List (HeadWidth × ℕ)) (read : Reads Raw) (r : Raw) (rest : List ℕ) : Type 0 where
  pub item : Raw
  pub is : read ≡ Ok (item, rest)
  pub wrapped : r ≡ tagged ts item

pub within_tags : (ts : List (HeadWidth × ℕ)) (read : Reads Raw) (r : Raw) (rest : List ℕ) → in_tags ts read ≡ Ok (r, rest) → Within ts read r rest
within_tags ts (Ok x) r rest is =
    let both = ok_is (tagged ts x.0, x.1) (r, rest) is in
    record { item = x.0; is = ap (λ (p : Raw × List ℕ). Ok (x.0, p.1)) both; wrapped = sym (ap (λ (p : Raw × List ℕ). p.0) both) }
within_tags ts (Err f) r rest is = absurd cc

module _ {A : Type 0} (f : Formats) (reads : Raw → A → Type 0) (l : Limits) (read : Reads Raw) (left : ℕ) (h : Head) (mid : List ℕ) (o : IsTaggedHead f l read left h mid) where
  abbrev behind : Reads Raw
  behind = behind_head (raws f l) (inside (raws f l) left) o.width h mid

  -- what is read after the head is read of the item
  pub opened_read : (r : Raw) (rest : List ℕ) (x : A) → behind ≡ Ok (r, rest) → reads (untagged r) x → IsRead (PassesTags reads) read x rest
  opened_read r rest x is means = record {
    item = tagged o.tags r;
    is = o.is ∙ ap (in_tags o.tags) is;
    means = subst (λ (i : Raw). reads i x) (sym (untagged-tagged o.tags r)) means;
  }

  -- and what isn't isn't
  pub opened_none : ((r : Raw) (rest : List ℕ) (x : A) → behind ≡ Ok (r, rest) → reads (untagged r) x → ⊥) → IsNotRead (PassesTags reads) read
  opened_none none x rest got =
      let w = within_tags o.tags behind got.item rest (sym o.is ∙ got.is) in
      none w.item rest x w.is
      (subst (λ (i : Raw). reads i x) (untagged-tagged o.tags w.item) (subst (λ (i : Raw). reads (untagged i) x) w.wrapped got.means))

  -- an item of another kind isn't read
  pub other_kind : ((r : Raw) (x : A) → reads (untagged r) x → kind_of r ≡ head_kind h → ⊥) → IsNotRead (PassesTags reads) read
  other_kind none = opened_none (λ r rest x is means. none r x means (kinds f l (inside (raws f l) left) o.width mid h r rest is))

-- ---- calls

pub takes_scalar : {A : Type 0} (allowed : ReadErrorCode → Bool) (f : Formats) (reads : Raw → A → Type 0) (levels : ℕ) (s t : Input) (kept : ReadError) (h : Head) (x : A) (item : HeadWidth → Raw)
    → ((l : Limits) (inner : Option (List ℕ → Reads Raw)) (w : HeadWidth) (mid : List ℕ) → behind_head (raws f l) inner w h mid ≡ Ok (item w, mid)) → ((w : HeadWidth) → reads (untagged (item w)) x)
    → TakesItemHead allowed f levels s t kept (Ok h) → Step s t (λ l bs rest. IsRead (PassesTags reads) (item_at (raws f l) levels bs) x rest)
takes_scalar allowed f reads levels s t kept h x item whole means (left, step) =
    step_map s t (λ l bs rest. IsTaggedHead f l (item_at (raws f l) levels bs) left h rest) (λ l bs rest. IsRead (PassesTags reads) (item_at (raws f l) levels bs) x rest)
    (λ l bs rest o. opened_read f reads l (item_at (raws f l) levels bs) left h rest o (item o.width) rest x (whole l (inside (raws f l) left) o.width rest) (means o.width)) step

-- an item of another kind isn't read, whatever the error
pub scalar_unread : {A : Type 0} (allowed : ReadErrorCode → Bool) (f : Formats) (reads : Raw → A → Type 0) (levels : ℕ) (s t : Input) (kept : ReadError) (h : Head)
    → ((r : Raw) (x : A) → reads (untagged r) x → (kind_of r ≡ kind.tag → ⊥) → kind_of r ≡ head_kind h → ⊥)
    → TakesItemHead allowed f levels s t kept (Ok h) → (bs : List ℕ) → Reports s bs → IsNotRead (PassesTags reads) (item_at (raws f (limits s bs)) levels bs)
scalar_unread allowed f reads levels s t kept h other (left, step) bs reports =
    let l = limits s bs in
    let o = (step.reported bs reports).holds in
    other_kind f reads l (item_at (raws f l) levels bs) left h (step.reported bs reports).rest o (λ r x means is. other r x means (λ tag. o.inner (sym is ∙ tag)) is)

pub none_scalar : {A : Type 0} (allowed : ReadErrorCode → Bool) (f : Formats) (reads : Raw → A → Type 0) (levels : ℕ) (s t : Input) (kept : ReadError) (h : Head) (e : Error)
    → ((r : Raw) (x : A) → reads (untagged r) x → (kind_of r ≡ kind.tag → ⊥) → kind_of r ≡ head_kind h → ⊥)
    → TakesItemHead allowed f levels s t kept (Ok h) → Refuses allowed s t (code_of e) (offset_of e) (λ l bs. IsNotRead (PassesTags reads) (item_at (raws f l) levels bs))
none_scalar allowed f reads levels s t kept h e other opens = record { took = opens.1.took; reported = λ bs reports. inr (scalar_unread allowed f reads levels s t kept h other opens bs reports) }

pub stops_scalar : {A : Type 0} (allowed : ReadErrorCode → Bool) (f : Formats) (reads : Raw → A → Type 0) (levels : ℕ) (s t : Input) (kept : ReadError) (r : Refused) (e : Error)
    → TakesItemHead allowed f levels s t kept (Err r) → IsErrorOf kept r e → Refuses allowed s t (code_of e) (offset_of e) (λ l bs. IsNotRead reads (item_at (raws f l) levels bs))
stops_scalar allowed f reads levels s t kept r e (left, stops) is = refuses allowed reads (λ l. item_at (raws f l) levels) s kept r e is stops

-- ---- kinds

bool_kind : (r : Raw) (x : Bool) → IsBool (untagged r) x → (kind_of r ≡ kind.tag → ⊥) → kind_of r ≡ kind.bool
bool_kind (raw.unsigned w m) x h n = absurd h
bool_kind (raw.negative w m) x h n = absurd h
bool_kind (raw.bytes c) x h n = absurd h
bool_kind (raw.text c) x h n = absurd h
bool_kind (raw.bytes_chunks cs) x h n = absurd h
bool_kind (raw.text_chunks cs) x h n = absurd h
bool_kind (raw.array l rs) x h n = absurd h
bool_kind (raw.map l ps) x h n = absurd h
bool_kind (raw.tag w m r) x h n = absurd (n refl)
bool_kind (raw.simple false_item) x h n = refl
bool_kind (raw.simple true_item) x h n = refl
bool_kind (raw.simple null_item) x h n = absurd h
bool_kind (raw.simple undefined_item) x h n = absurd h
bool_kind (raw.float w bits) x h n = absurd h

float_kind : (r : Raw) (x : Float) → IsFloatItem (untagged r) x → (kind_of r ≡ kind.tag → ⊥) → kind_of r ≡ kind.float
float_kind (raw.unsigned w m) x h n = absurd h
float_kind (raw.negative w m) x h n = absurd h
float_kind (raw.bytes c) x h n = absurd h
float_kind (raw.text c) x h n = absurd h
float_kind (raw.bytes_chunks cs) x h n = absurd h
float_kind (raw.text_chunks cs) x h n = absurd h
float_kind (raw.array l rs) x h n = absurd h
float_kind (raw.map l ps) x h n = absurd h
float_kind (raw.tag w m r) x h n = absurd (n refl)
float_kind (raw.simple false_item) x h n = absurd h
float_kind (raw.simple true_item) x h n = absurd h
float_kind (raw.simple null_item) x h n = absurd h
float_kind (raw.simple undefined_item) x h n = absurd h
float_kind (raw.float w bits) x h n = refl

unit_kind : (r : Raw) (x : Unit {0}) → IsUnit (untagged r) x → (kind_of r ≡ kind.tag → ⊥) → (kind_of r ≡ kind.null) ⊎ (kind_of r ≡ kind.undefined)
unit_kind (raw.unsigned w m) x h n = absurd h
unit_kind (raw.negative w m) x h n = absurd h
unit_kind (raw.bytes c) x h n = absurd h
unit_kind (raw.text c) x h n = absurd h
unit_kind (raw.bytes_chunks cs) x h n = absurd h
unit_kind (raw.text_chunks cs) x h n = absurd h
unit_kind (raw.array l rs) x h n = absurd h
unit_kind (raw.map l ps) x h n = absurd h
unit_kind (raw.tag w m r) x h n = absurd (n refl)
unit_kind (raw.simple false_item) x h n = absurd h
unit_kind (raw.simple true_item) x h n = absurd h
unit_kind (raw.simple null_item) x h n = inl refl
unit_kind (raw.simple undefined_item) x h n = inr refl
unit_kind (raw.float w bits) x h n = absurd h

no_bool : (h : Head) → ((n : Bool) → h ≡ head.Bool n → ⊥) → kind.bool ≡ head_kind h → ⊥
no_bool (head.Unsigned n) other e = absurd cc
no_bool (head.Negative n) other e = absurd cc
no_bool (head.Bytes n) other e = absurd cc
no_bool (head.Text n) other e = absurd cc
no_bool (head.Array n) other e = absurd cc
no_bool (head.Map n) other e = absurd cc
no_bool (head.Tag n) other e = absurd cc
no_bool (head.Bool n) other e = other n refl
no_bool head.Null other e = absurd cc
no_bool head.Undefined other e = absurd cc
no_bool (head.Float n) other e = absurd cc
no_bool head.Break other e = absurd cc

no_float : (h : Head) → ((n : Float) → h ≡ head.Float n → ⊥) → kind.float ≡ head_kind h → ⊥
no_float (head.Unsigned n) other e = absurd cc
no_float (head.Negative n) other e = absurd cc
no_float (head.Bytes n) other e = absurd cc
no_float (head.Text n) other e = absurd cc
no_float (head.Array n) other e = absurd cc
no_float (head.Map n) other e = absurd cc
no_float (head.Tag n) other e = absurd cc
no_float (head.Bool n) other e = absurd cc
no_float head.Null other e = absurd cc
no_float head.Undefined other e = absurd cc
no_float (head.Float n) other e = other n refl
no_float head.Break other e = absurd cc

pub no_null : (h : Head) → (h ≡ head.Null → ⊥) → kind.null ≡ head_kind h → ⊥
no_null (head.Unsigned n) other e = absurd cc
no_null (head.Negative n) other e = absurd cc
no_null (head.Bytes n) other e = absurd cc
no_null (head.Text n) other e = absurd cc
no_null (head.Array n) other e = absurd cc
no_null (head.Map n) other e = absurd cc
no_null (head.Tag n) other e = absurd cc
no_null (head.Bool n) other e = absurd cc
no_null head.Null other e = other refl
no_null head.Undefined other e = absurd cc
no_null (head.Float n) other e = absurd cc
no_null head.Break other e = absurd cc

no_undefined : (h : Head) → (h ≡ head.Undefined → ⊥) → kind.undefined ≡ head_kind h → ⊥
no_undefined (head.Unsigned n) other e = absurd cc
no_undefined (head.Negative n) other e = absurd cc
no_undefined (head.Bytes n) other e = absurd cc
no_undefined (head.Text n) other e = absurd cc
no_undefined (head.Array n) other e = absurd cc
no_undefined (head.Map n) other e = absurd cc
no_undefined (head.Tag n) other e = absurd cc
no_undefined (head.Bool n) other e = absurd cc
no_undefined head.Null other e = absurd cc
no_undefined head.Undefined other e = other refl
no_undefined (head.Float n) other e = absurd cc
no_undefined head.Break other e = absurd cc

pub not_bool : (h : Head) → ((b : Bool) → h ≡ head.Bool b → ⊥) → (r : Raw) (x : Bool) → IsBool (untagged r) x → (kind_of r ≡ kind.tag → ⊥) → kind_of r ≡ head_kind h → ⊥
not_bool h other r x means tag is = no_bool h other (sym (bool_kind r x means tag) ∙ is)

pub not_float : (h : Head) → ((f : Float) → h ≡ head.Float f → ⊥) → (r : Raw) (x : Float) → IsFloatItem (untagged r) x → (kind_of r ≡ kind.tag → ⊥) → kind_of r ≡ head_kind h → ⊥
not_float h other r x means tag is = no_float h other (sym (float_kind r x means tag) ∙ is)

pub not_unit : (h : Head) → (h ≡ head.Null → ⊥) → (h ≡ head.Undefined → ⊥) → (r : Raw) (x : Unit {0}) → IsUnit (untagged r) x → (kind_of r ≡ kind.tag → ⊥) → kind_of r ≡ head_kind h → ⊥
not_unit h n u r x means tag is = elim (unit_kind r x means tag) [
  | inl k ↦ no_null h n (sym k ∙ is)
  | inr k ↦ no_undefined h u (sym k ∙ is)
]

-- ---- whole items

-- false or true
abbrev pub bool_item : Bool → Simple
bool_item false = false_item
bool_item true = true_item

pub bool_read : (allowed : ReadErrorCode → Bool) (f : Formats) (levels : ℕ) (s t : Input) (kept : ReadError) (b : Bool) → TakesItemHead allowed f levels s t kept (Ok (head.Bool b)) → Step s t (λ l bs rest. IsRead (PassesTags IsBool) (item_at (raws f l) levels bs) b rest)
bool_read allowed f levels s t kept false = takes_scalar allowed f IsBool levels s t kept (head.Bool false) false (λ w. raw.simple false_item) (λ l inner w mid. refl) (λ w. refl)
bool_read allowed f levels s t kept true = takes_scalar allowed f IsBool levels s t kept (head.Bool true) true (λ w. raw.simple true_item) (λ l inner w mid. refl) (λ w. refl)

pub float_read : (allowed : ReadErrorCode → Bool) (f : Formats) (levels : ℕ) (s t : Input) (kept : ReadError) (x : Float) → TakesItemHead allowed f levels s t kept (Ok (head.Float x)) → Step s t (λ l bs rest. IsRead (PassesTags IsFloatItem) (item_at (raws f l) levels bs) x rest)
float_read allowed f levels s t kept (Half n) = takes_scalar allowed f IsFloatItem levels s t kept (head.Float (Half n)) (Half n) (λ w. raw.float raw.half n) (λ l inner w mid. refl) (λ w. refl)
float_read allowed f levels s t kept (Single n) = takes_scalar allowed f IsFloatItem levels s t kept (head.Float (Single n)) (Single n) (λ w. raw.float raw.single n) (λ l inner w mid. refl) (λ w. refl)
float_read allowed f levels s t kept (Double n) = takes_scalar allowed f IsFloatItem levels s t kept (head.Float (Double n)) (Double n) (λ w. raw.float raw.double n) (λ l inner w mid. refl) (λ w. refl)

pub null_read : (allowed : ReadErrorCode → Bool) (f : Formats) (levels : ℕ) (s t : Input) (kept : ReadError) → TakesItemHead allowed f levels s t kept (Ok head.Null) → Step s t (λ l bs rest. IsRead (PassesTags IsUnit) (item_at (raws f l) levels bs) tt rest)
null_read allowed f levels s t kept = takes_scalar allowed f IsUnit levels s t kept head.Null tt (λ w. raw.simple null_item) (λ l inner w mid. refl) (λ w. tt)

pub undefined_read : (allowed : ReadErrorCode → Bool) (f : Formats) (levels : ℕ) (s t : Input) (kept : ReadError) → TakesItemHead allowed f levels s t kept (Ok head.Undefined) → Step s t (λ l bs rest. IsRead (PassesTags IsUnit) (item_at (raws f l) levels bs) tt rest)
undefined_read allowed f levels s t kept = takes_scalar allowed f IsUnit levels s t kept head.Undefined tt (λ w. raw.simple undefined_item) (λ l inner w mid. refl) (λ w. tt)
