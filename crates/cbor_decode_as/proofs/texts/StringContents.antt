-- Strings after their heads.
use Rattle.std.proofs.Common.{◌≡◌, ◌⊎◌, inl, inr, ◌+◌, ◌-◌, ℕ, Bool, true, false, cond, eqb, List, length, Option, Some, None, Result, Ok, Err, refl, sym, ap, subst, ◌∙◌}
use Rattle.std.specs.Str.{IsUtf8}
use Rattle.std.specs.Str.Lossy.{utf8_valid_len}
use Rattle.std.proofs.lemmas.Bool.{ne_eqb, eq-eqb}
use Rattle.std.proofs.lemmas.Str.{utf8_valid_len-IsUtf8}
use Rattle.cbor_model.specs.Formats.{Formats}
use Rattle.cbor_model.specs.Head.{HeadWidth}
use Rattle.cbor_model.specs.Raw as raw
use Rattle.cbor_model.specs.Raw.{Raw, Chunk, joined}
use Rattle.cbor_model.specs.Readable.{Context, untagged, PassesTags, IsString, IsText, is_lent}
use Rattle.cbor_model.specs.Refusal.{invalid_utf8}
use Rattle.cbor_model.specs.Reader.{Fault, Reading, Reads, ◌>>=◌, bytes_at, chunks_at, exceeds_most, string_at, checked_text, text_at, string_chunks_at, text_chunks_at, item_at, inside}
use Rattle.cbor_model.proofs.facts.Reader.{ok_is, IsUtf8-from_valid_len}
use Rattle.cbor_read.specs.Source.{Input}
use Rattle.cbor_io.specs.Error.{code_of, offset_of}
use Rattle.cbor_io.specs.declared.error.Error.{Error}
use Rattle.cbor_io.specs.declared.error.ErrorCode.{ErrorCode}
use Rattle.cbor_io.specs.declared.read_error.ReadError.{ReadError}
use Rattle.cbor_io.specs.declared.read_error.ReadErrorCode.{ReadErrorCode}
use Rattle.cbor_io.specs.declared.error.ErrorCode.TheVariants.{InvalidUtf8}
use Rattle.cbor_decode.specs.Gives.{Limits, limits, Step, Stopped, IsErrorOf, ReportsIo, Reports}
use Rattle.cbor_decode.specs.Heads.{behind_head, joined_of}
use Rattle.cbor_decode.specs.declared.head.Head.{Head}
use Rattle.cbor_decode.specs.declared.head.Head.TheVariants as head
use Rattle.cbor_decode.specs.declared.refusal.Refused.{Refused}
use Rattle.cbor_decode.proofs.facts.Steps.{step_map, step_then, stopped_then}
use Rattle.cbor_decode_as.specs.Kinds.{kind_of, head_kind}
use Rattle.cbor_decode_as.specs.Kinds as kind
use Rattle.cbor_decode_as.specs.Takes.{raws, IsRead, IsNotRead, Refuses, ExcusedBy}
use Rattle.cbor_decode_as.specs.TaggedHeads.{in_tags, IsTaggedHead, TakesItemHead}
use Rattle.cbor_decode_as.specs.Strings.{content_at, is_lent_head, KeepsTextOf, TakesText}
use Rattle.cbor_decode_as.proofs.numbers.Scalars.{refuses, opened_read, opened_none, other_kind}

-- ---- items

-- a string isn't a tag
pub untagged_string : (r : Raw) (b : List ℕ) → IsString r b → untagged r ≡ r
untagged_string (raw.unsigned w m) b h = absurd h
untagged_string (raw.negative w m) b h = absurd h
untagged_string (raw.bytes c) b h = refl
untagged_string (raw.text c) b h = refl
untagged_string (raw.bytes_chunks cs) b h = refl
untagged_string (raw.text_chunks cs) b h = refl
untagged_string (raw.array l rs) b h = absurd h
untagged_string (raw.map l ps) b h = absurd h
untagged_string (raw.tag w m r) b h = absurd h
untagged_string (raw.simple s) b h = absurd h
untagged_string (raw.float w bits) b h = absurd h

-- a string has one list of bytes
pub same_bytes : (r : Raw) (a b : List ℕ) → IsString r a → IsString r b → b ≡ a
same_bytes (raw.unsigned w m) a b h k = absurd h
same_bytes (raw.negative w m) a b h k = absurd h
same_bytes (raw.bytes c) a b h k = sym k ∙ h
same_bytes (raw.text c) a b h k = sym k ∙ h
same_bytes (raw.bytes_chunks cs) a b h k = sym k ∙ h
same_bytes (raw.text_chunks cs) a b h k = sym k ∙ h
same_bytes (raw.array l rs) a b h k = absurd h
same_bytes (raw.map l ps) a b h k = absurd h
same_bytes (raw.tag w m r) a b h k = absurd h
same_bytes (raw.simple s) a b h k = absurd h
same_bytes (raw.float w bits) a b h k = absurd h

-- a head that is of no byte string
pub no_bytes : (h : Head) → ((n : Option ℕ) → h ≡ head.Bytes n → ⊥) → head_kind h ≡ kind.bytes → ⊥
no_bytes (head.Unsigned n) other e = absurd cc
no_bytes (head.Negative n) other e = absurd cc
no_bytes (head.Bytes n) other e = other n refl
no_bytes (head.Text n) other e = absurd cc
no_bytes (head.Array r) other e = absurd cc
no_bytes (head.Map r) other e = absurd cc
no_bytes (head.Tag n) other e = absurd cc
no_bytes (head.Bool b) other e = absurd cc
no_bytes head.Null other e = absurd cc
no_bytes head.Undefined other e = absurd cc
no_bytes (head.Float x) other e = absurd cc
no_bytes head.Break other e = absurd cc

no_text : (h : Head) → ((n : Option ℕ) → h ≡ head.Text n → ⊥) → head_kind h ≡ kind.text → ⊥
no_text (head.Unsigned n) other e = absurd cc
no_text (head.Negative n) other e = absurd cc
no_text (head.Bytes n) other e = absurd cc
no_text (head.Text n) other e = other n refl
no_text (head.Array r) other e = absurd cc
no_text (head.Map r) other e = absurd cc
no_text (head.Tag n) other e = absurd cc
no_text (head.Bool b) other e = absurd cc
no_text head.Null other e = absurd cc
no_text head.Undefined other e = absurd cc
no_text (head.Float x) other e = absurd cc
no_text head.Break other e = absurd cc

-- an item after a head that is of no string isn't one
pub not_string : (h : Head) → ((n : Option ℕ) → h ≡ head.Text n → ⊥) → ((n : Option ℕ) → h ≡ head.Bytes n → ⊥) → (r : Raw) (b : List ℕ) → IsString (untagged r) b → (kind_of r ≡ kind.tag → ⊥) → kind_of r ≡ head_kind h → ⊥
not_string h t b (raw.unsigned w m) x is tag k = absurd is
not_string h t b (raw.negative w m) x is tag k = absurd is
not_string h t b (raw.bytes c) x is tag k = no_bytes h b (sym k)
not_string h t b (raw.text c) x is tag k = no_text h t (sym k)
not_string h t b (raw.bytes_chunks cs) x is tag k = no_bytes h b (sym k)
not_string h t b (raw.text_chunks cs) x is tag k = no_text h t (sym k)
not_string h t b (raw.array l rs) x is tag k = absurd is
not_string h t b (raw.map l ps) x is tag k = absurd is
not_string h t b (raw.tag w m r) x is tag k = tag refl
not_string h t b (raw.simple s) x is tag k = absurd is
not_string h t b (raw.float w bits) x is tag k = absurd is

-- ---- after a head

-- chunks whose bytes are read
pub record Chunks (read : Reads (List Chunk)) (b rest : List ℕ) : Type 0 where
  pub all : List Chunk
  pub is : read ≡ Ok (all, rest)
  pub bytes : joined all ≡ b

pub chunks_of : (read : Reads (List Chunk)) (b rest : List ℕ) → joined_of read ≡ Ok (b, rest) → Chunks read b rest
chunks_of (Ok cs) b rest is =
    let both = ok_is (joined cs.0, cs.1) (b, rest) is in
    record { all = cs.0; is = ap (λ (p : List ℕ × List ℕ). Ok (cs.0, p.1)) both; bytes = ap (λ (p : List ℕ × List ℕ). p.0) both }
chunks_of (Err e) b rest is = absurd cc

pub no_chunks : (read : Reads (List Chunk)) (e : Fault) → joined_of read ≡ Err e → read ≡ Err e
no_chunks (Ok cs) e is = absurd cc
no_chunks (Err g) e is = cc

-- what is done with what was read where a test holds
pub picked : {A B : Type 0} (c : Bool) (read : Reads A) (g : Fault) (then : A × List ℕ → Reads B) (x : A × List ℕ) → cond c read (Err g) ≡ Ok x → cond c (read >>= then) (Err g) ≡ then x
picked true (Ok y) g then x is = ap then (ok_is y x is)
picked true (Err e) g then x is = absurd cc
picked false read g then x is = absurd cc

pub none_picked : {A B : Type 0} (c : Bool) (read : Reads A) (g : Fault) (then : A × List ℕ → Reads B) (e : Fault) → cond c read (Err g) ≡ Err e → cond c (read >>= then) (Err g) ≡ Err e
none_picked true (Ok y) g then e is = absurd cc
none_picked true (Err d) g then e is = cc
none_picked false read g then e is = cc

-- ---- texts

-- the fault of a text that isn't UTF-8
abbrev pub bad_text : List ℕ → List ℕ → Fault
bad_text b rest = record { why = invalid_utf8; left = length rest + (length b - utf8_valid_len b) }

module _ {Item Items Pairs : Type 0} (m : Reading Item Items Pairs) (tests : (b : List ℕ) → m.is_text b ≡ eqb (utf8_valid_len b) (length b)) where
  pub passes : (i : Item) (b rest : List ℕ) → IsUtf8 b → checked_text m i b rest ≡ Ok (i, rest)
  unfolding checked_text
  passes i b rest is =
      let all : m.is_text b ≡ true = tests b ∙ eq-eqb _ _ (utf8_valid_len-IsUtf8 b is) in
      rw all refl

  pub stops_at : (i : Item) (b rest : List ℕ) → (IsUtf8 b → ⊥) → checked_text m i b rest ≡ Err (bad_text b rest)
  unfolding checked_text
  stops_at i b rest bad =
      let some : m.is_text b ≡ false = tests b ∙ ne_eqb _ _ (λ same. bad (IsUtf8-from_valid_len b (eq-eqb _ _ same))) in
      rw some refl

module _ (f : Formats) (l : Limits) (inner : Option (List ℕ → Reads Raw)) (w : HeadWidth) where
  abbrev behind : Head → List ℕ → Reads Raw
  behind h bs = behind_head (raws f l) inner w h bs

  -- a string of these bytes is read
  pub record StringRead (h : Head) (bs b rest : List ℕ) : Type 0 where
    pub item : Raw
    pub is : behind h bs ≡ Ok (item, rest)
    pub string : IsString item b
    pub kind : kind_of item ≡ head_kind h
    pub lent : (c : Context) → is_lent c item ≡ is_lent_head c h

  pub bytes_read : (n : Option ℕ) (bs b rest : List ℕ) → content_at l (head.Bytes n) bs ≡ Ok (b, rest) → StringRead (head.Bytes n) bs b rest
  unfolding string_at string_chunks_at
  bytes_read (Some n) bs b rest is = record { item = raw.bytes (record { width = w; bytes = b }); is = rw is refl; string = refl; kind = refl; lent = λ c. refl }
  bytes_read None bs b rest is =
      let cs = chunks_of (chunks_at (exceeds_most l.room) 0 2 bs) b rest is in
      record { item = raw.bytes_chunks cs.all; is = ap (λ (r : Reads (List Chunk)). r >>= (λ cs. Ok (raw.bytes_chunks cs.0, cs.1))) cs.is; string = cs.bytes; kind = refl; lent = λ c. refl }

  pub text_read : (n : Option ℕ) (bs b rest : List ℕ) → content_at l (head.Text n) bs ≡ Ok (b, rest) → IsUtf8 b → StringRead (head.Text n) bs b rest
  unfolding text_at text_chunks_at
  text_read (Some n) bs b rest is utf8 =
      let text = raw.text (record { width = w; bytes = b }) in
      record { item = text; is = picked _ (bytes_at n bs) _ _ (b, rest) is ∙ passes (raws f l) (λ b. refl) text b rest utf8; string = refl; kind = refl; lent = λ c. refl }
  text_read None bs b rest is utf8 =
      let cs = chunks_of (chunks_at (exceeds_most l.room) 0 3 bs) b rest is in
      record { item = raw.text_chunks cs.all; is = ap (λ (r : Reads (List Chunk)). r >>= (λ cs. checked_text (raws f l) (raw.text_chunks cs.0) (joined cs.0) cs.1)) cs.is ∙ passes (raws f l) (λ b. refl) (raw.text_chunks cs.all) (joined cs.all) rest (subst IsUtf8 (sym cs.bytes) utf8); string = cs.bytes; kind = refl; lent = λ c. refl }

  pub text_bad : (n : Option ℕ) (bs b rest : List ℕ) → content_at l (head.Text n) bs ≡ Ok (b, rest) → (IsUtf8 b → ⊥) → behind (head.Text n) bs ≡ Err (bad_text b rest)
  unfolding text_at text_chunks_at
  text_bad (Some n) bs b rest is bad = picked _ (bytes_at n bs) _ _ (b, rest) is ∙ stops_at (raws f l) (λ b. refl) (raw.text (record { width = w; bytes = b })) b rest bad
  text_bad None bs b rest is bad =
      let cs = chunks_of (chunks_at (exceeds_most l.room) 0 3 bs) b rest is in
      rw (cs.is, cs.bytes) (stops_at (raws f l) (λ b. refl) (raw.text_chunks cs.all) b rest bad)

  pub bytes_stop : (n : Option ℕ) (bs : List ℕ) (e : Fault) → content_at l (head.Bytes n) bs ≡ Err e → behind (head.Bytes n) bs ≡ Err e
  unfolding string_at string_chunks_at
  bytes_stop (Some n) bs e is = rw is refl
  bytes_stop None bs e is = rw (no_chunks (chunks_at (exceeds_most l.room) 0 2 bs) e is) refl

  pub text_stop : (n : Option ℕ) (bs : List ℕ) (e : Fault) → content_at l (head.Text n) bs ≡ Err e → behind (head.Text n) bs ≡ Err e
  unfolding text_at text_chunks_at
  text_stop (Some n) bs e is = none_picked _ (bytes_at n bs) _ _ e is
  text_stop None bs e is = rw (no_chunks (chunks_at (exceeds_most l.room) 0 3 bs) e is) refl

-- ---- calls

-- what is known to be no such item
pub step_refuses : (allowed : ReadErrorCode → Bool) (s t : Input) (k : ErrorCode) (at : ℕ) (N : Limits → List ℕ → Type 0) → Step s t (λ l bs rest. N l bs) → Refuses allowed s t k at N
step_refuses allowed s t k at N step = record { took = step.took; reported = λ bs reports. inr (step.reported bs reports).holds }

module _ {A : Type 0} (allowed : ReadErrorCode → Bool) (f : Formats) (reads : Raw → A → Type 0) (levels : ℕ) (s m : Input) (kept : ReadError) (h : Head) (opened : TakesItemHead allowed f levels s m kept (Ok h)) where
  abbrev item : Limits → List ℕ → Reads Raw
  item l bs = item_at (raws f l) levels bs

  abbrev inner : Limits → Option (List ℕ → Reads Raw)
  inner l = inside (raws f l) opened.0

  abbrev Opened : Limits → List ℕ → List ℕ → Type 0
  Opened l bs rest = IsTaggedHead f l (item l bs) opened.0 h rest

  abbrev Taken : List ℕ → Limits → List ℕ → List ℕ → Type 0
  Taken b l bs rest = content_at l h bs ≡ Ok (b, rest)

  -- a string was taken
  pub string_takes : (t : Input) (b : List ℕ) (x : A) → ((l : Limits) (w : HeadWidth) (bs rest : List ℕ) → Taken b l bs rest → StringRead f l (inner l) w h bs b rest)
      → ((r : Raw) → IsString r b → ((c : Context) → is_lent c r ≡ is_lent_head c h) → reads r x) → Step m t (Taken b) → Step s t (λ l bs rest. IsRead (PassesTags reads) (item l bs) x rest)
  string_takes t b x read means taken =
      step_then s m t Opened (Taken b) (λ l bs rest. IsRead (PassesTags reads) (item l bs) x rest)
      (λ l bs mid rest o is.
      let r = read l o.width mid rest is in
      opened_read f reads l (item l bs) opened.0 h mid o r.item rest x r.is (subst (λ (i : Raw). reads i x) (sym (untagged_string r.item b r.string)) (means r.item r.string r.lent))) opened.1 taken

  -- its content couldn't be
  string_stops : {u : Input} (r : Refused) (later : ReadError) (e : Error) → ((l : Limits) (w : HeadWidth) (bs : List ℕ) (g : Fault) → content_at l h bs ≡ Err g → behind_head (raws f l) (inner l) w h bs ≡ Err g)
      → IsErrorOf later r e → Stopped allowed (λ l. content_at l h) m u later r → Refuses allowed s u (code_of e) (offset_of e) (λ l bs. IsNotRead (PassesTags reads) (item l bs))
  string_stops r later e stop is stopped =
      refuses allowed (PassesTags reads) item s later r e is
      (stopped_then allowed (λ l. content_at l h) item s m later r Opened (λ l bs mid g o stops. o.is ∙ ap (in_tags o.tags) (stop l o.width mid g stops)) opened.1 stopped)

  -- it isn't what the type reads
  string_none : (t : Input) (b : List ℕ) → ((l : Limits) (w : HeadWidth) (bs rest after : List ℕ) (r : Raw) (x : A) → Taken b l bs rest → behind_head (raws f l) (inner l) w h bs ≡ Ok (r, after) → reads (untagged r) x → ⊥)
      → Step m t (Taken b) → Step s t (λ l bs rest. IsNotRead (PassesTags reads) (item l bs))
  string_none t b none taken =
      step_then s m t Opened (Taken b) (λ l bs rest. IsNotRead (PassesTags reads) (item l bs))
      (λ l bs mid rest o is. opened_none f reads l (item l bs) opened.0 h mid o (λ r after x read means. none l o.width mid rest after r x is read means)) opened.1 taken

module _ {A : Type 0} (allowed : ReadErrorCode → Bool) (f : Formats) (reads : Raw → A → Type 0) (levels : ℕ) (s m : Input) (kept : ReadError) (n : Option ℕ) where
  abbrev TakesTextHead : Type 0
  TakesTextHead = TakesItemHead allowed f levels s m kept (Ok (head.Text n))

  abbrev TakesBytesHead : Type 0
  TakesBytesHead = TakesItemHead allowed f levels s m kept (Ok (head.Bytes n))

  pub bytes_stops : {u : Input} → TakesBytesHead → (r : Refused) (later : ReadError) (e : Error) → IsErrorOf later r e → Stopped allowed (λ l. content_at l (head.Bytes n)) m u later r → Refuses allowed s u (code_of e) (offset_of e) (λ l bs. IsNotRead (PassesTags reads) (item_at (raws f l) levels bs))
  bytes_stops opened r later e is stopped = string_stops allowed f reads levels s m kept (head.Bytes n) opened r later e (λ l w bs g stops. bytes_stop f l (inside (raws f l) opened.0) w n bs g stops) is stopped

  pub bytes_takes : TakesBytesHead → (t : Input) (b : List ℕ) (x : A) → ((r : Raw) → IsString r b → ((c : Context) → is_lent c r ≡ is_lent_head c (head.Bytes n)) → reads r x)
      → Step m t (λ l bs rest. content_at l (head.Bytes n) bs ≡ Ok (b, rest)) → Step s t (λ l bs rest. IsRead (PassesTags reads) (item_at (raws f l) levels bs) x rest)
  bytes_takes opened t b x means taken = string_takes allowed f reads levels s m kept (head.Bytes n) opened t b x (λ l w bs rest is. bytes_read f l (inside (raws f l) opened.0) w n bs b rest is) means taken

  -- a byte string that isn't UTF-8 is no text
  pub bad_bytes : TakesBytesHead → (t : Input) (b : List ℕ) (view : A → List ℕ) → ((r : Raw) (x : A) → reads r x → IsText r (view x)) → (IsUtf8 b → ⊥)
      → Step m t (λ l bs rest. content_at l (head.Bytes n) bs ≡ Ok (b, rest)) → Step s t (λ l bs rest. IsNotRead (PassesTags reads) (item_at (raws f l) levels bs))
  bad_bytes opened t b view text bad taken = string_none allowed f reads levels s m kept (head.Bytes n) opened t b
      (λ l w bs rest after r x is read means.
      let here = bytes_read f l (inside (raws f l) opened.0) w n bs b rest is in
      let same : here.item ≡ r = ap (λ (p : Raw × List ℕ). p.0) (ok_is (here.item, rest) (r, after) (sym here.is ∙ read)) in
      let string : IsString r b = subst (λ (i : Raw). IsString i b) same here.string in
      let means' : reads r x = subst (λ (i : Raw). reads i x) (untagged_string r b string) means in
      let found = text r x means' in
      bad (subst IsUtf8 (same_bytes r b (view x) string found.0) found.1)) taken

  pub bytes_bad : TakesBytesHead → (t : Input) (b : List ℕ) (k : ErrorCode) (at : ℕ) (view : A → List ℕ) → ((r : Raw) (x : A) → reads r x → IsText r (view x)) → (IsUtf8 b → ⊥)
      → Step m t (λ l bs rest. content_at l (head.Bytes n) bs ≡ Ok (b, rest)) → Refuses allowed s t k at (λ l bs. IsNotRead (PassesTags reads) (item_at (raws f l) levels bs))
  bytes_bad opened t b k at view text bad taken =
      step_refuses allowed s t k at (λ l bs. IsNotRead (PassesTags reads) (item_at (raws f l) levels bs)) (bad_bytes opened t b view text bad taken)

  -- a text was taken
  pub text_takes : TakesTextHead → (t : Input) (b : List ℕ) (x : A) → ((r : Raw) → IsString r b → IsUtf8 b → ((c : Context) → is_lent c r ≡ is_lent_head c (head.Text n)) → reads r x) → IsUtf8 b
      → Step m t (λ l bs rest. content_at l (head.Text n) bs ≡ Ok (b, rest)) → Step s t (λ l bs rest. IsRead (PassesTags reads) (item_at (raws f l) levels bs) x rest)
  text_takes opened t b x means utf8 taken =
      string_takes allowed f reads levels s m kept (head.Text n) opened t b x (λ l w bs rest content. text_read f l (inside (raws f l) opened.0) w n bs b rest content utf8)
      (λ r string lent. means r string utf8 lent) taken

-- bytes that were taken, as a text if they are UTF-8
pub text_checked : {X : Type 0} (allowed : ReadErrorCode → Bool) (view : X → List ℕ) (h : Head) (s t : Input) (b : List ℕ) (end : ℕ) (kept : ReadError) (r : Result X Refused) → Step s t (λ l bs rest. content_at l h bs ≡ Ok (b, rest))
    → KeepsTextOf view b end kept r → TakesText allowed view h s t kept r
text_checked allowed view h s t b end kept (Ok x) step is = (
  subst (λ (q : List ℕ). Step s t (λ l bs rest. content_at l h bs ≡ Ok (q, rest))) (sym is.0) step,
  subst IsUtf8 (sym is.0) is.1,
)
text_checked allowed view h s t b end kept (Err r) step is = λ e made.
    step_refuses allowed s t (code_of e) (offset_of e) (λ l bs. (c rest : List ℕ) → content_at l h bs ≡ Ok (c, rest) → IsUtf8 c → ⊥)
    (step_map s t (λ l bs rest. content_at l h bs ≡ Ok (b, rest)) (λ l bs rest. (c after : List ℕ) → content_at l h bs ≡ Ok (c, after) → IsUtf8 c → ⊥)
    (λ l bs rest here c after there utf8. (is e made).bad (subst IsUtf8 (ap (λ (q : List ℕ × List ℕ). q.0) (ok_is (c, after) (b, rest) (sym there ∙ here))) utf8)) step)

-- an item of another kind
pub other_step : {A : Type 0} (allowed : ReadErrorCode → Bool) (f : Formats) (reads : Raw → A → Type 0) (levels : ℕ) (s t : Input) (kept : ReadError) (h : Head)
    → ((r : Raw) (x : A) → reads (untagged r) x → (kind_of r ≡ kind.tag → ⊥) → kind_of r ≡ head_kind h → ⊥)
    → TakesItemHead allowed f levels s t kept (Ok h) → Step s t (λ l bs rest. IsNotRead (PassesTags reads) (item_at (raws f l) levels bs))
other_step allowed f reads levels s t kept h none opened =
    step_map s t (λ l bs rest. IsTaggedHead f l (item_at (raws f l) levels bs) opened.0 h rest) (λ l bs rest. IsNotRead (PassesTags reads) (item_at (raws f l) levels bs))
    (λ l bs rest o. other_kind f reads l (item_at (raws f l) levels bs) opened.0 h rest o (λ r x means is. none r x means (λ tag. o.inner (sym is ∙ tag)) is)) opened.1

-- what follows is passed over
pub step_over : {N : Limits → List ℕ → Type 0} {P : Limits → List ℕ → List ℕ → Type 0} {s m t : Input} → Step s m (λ l bs rest. N l bs) → Step m t P → Step s t (λ l bs rest. N l bs)
step_over {N = N} {P = P} {s = s} {m = m} {t = t} none over = step_then s m t (λ l bs rest. N l bs) P (λ l bs rest. N l bs) (λ l bs mid rest h k. h) none over

pub none_at : {A : Type 0} (allowed : ReadErrorCode → Bool) (f : Formats) (reads : Raw → A → Type 0) (levels : ℕ) (s t : Input) (kept : ReadError) (h : Head) (k : ErrorCode) (at : ℕ)
    → ((r : Raw) (x : A) → reads (untagged r) x → (kind_of r ≡ kind.tag → ⊥) → kind_of r ≡ head_kind h → ⊥)
    → TakesItemHead allowed f levels s t kept (Ok h) → Refuses allowed s t k at (λ l bs. IsNotRead (PassesTags reads) (item_at (raws f l) levels bs))
none_at allowed f reads levels s t kept h k at none opened =
    step_refuses allowed s t k at (λ l bs. IsNotRead (PassesTags reads) (item_at (raws f l) levels bs)) (other_step allowed f reads levels s t kept h none opened)

-- What is refused by any code isn't there.
pub none_there : {N : Limits → List ℕ → Type 0} {t : Input} (allowed : ReadErrorCode → Bool) (s : Input) → ((k : ErrorCode) (at : ℕ) → Refuses allowed s t k at N) → (bs : List ℕ) → Reports s bs → N (limits s bs) bs
none_there {N} allowed s refused bs reports = unexcused ((refused InvalidUtf8 0).reported bs reports)
  where
    unexcused : ExcusedBy (ReportsIo allowed) InvalidUtf8 0 ⊎ N (limits s bs) bs → N (limits s bs) bs
    unexcused (inl e) = absurd e
    unexcused (inr n) = n
