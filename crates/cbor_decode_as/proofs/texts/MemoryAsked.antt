-- Where memory ran out.
use Rattle.std.proofs.Common.{◌≡◌, inr, inl, ℕ, Bool, true, false, cond, List, Option, Some, None, Result, Ok, Err, IfErr, refl, sym, ap, subst, ◌∙◌}
use Rattle.cbor_model.specs.Formats.{Formats, all_formats}
use Rattle.cbor_model.specs.Head.{HeadWidth}
use Rattle.cbor_model.specs.Raw as raw
use Rattle.cbor_model.specs.Raw.{Chunk, Raw}
use Rattle.cbor_model.specs.Readable.{untagged, IsString, PassesTags, is_lent}
use Rattle.cbor_model.specs.Reader.{Fault, Reads, ◌>>=◌, bytes_at, chunks_at, string_at, checked_text, text_at, string_chunks_at, text_chunks_at, item_at, inside}
use Rattle.cbor_model.proofs.facts.Reader.{ok_is}
use Rattle.cbor_read.specs.Source.{Input, Lends, Asks, asks_part, asks_for}
use Rattle.cbor_read.specs.declared.EitherLifetime.{EitherLifetime}
use Rattle.cbor_io.specs.ReadError.{why, error_code}
use Rattle.cbor_io.specs.Error.{code_of}
use Rattle.cbor_io.specs.declared.error.Error.{Error}
use Rattle.cbor_io.specs.declared.error.ErrorCode.TheVariants as code
use Rattle.cbor_io.specs.declared.read_error.ReadError.{ReadError}
use Rattle.cbor_io.specs.declared.read_error.ReadErrorCode.{ReadErrorCode}
use Rattle.cbor_io.specs.declared.read_error.ReadErrorCode.TheVariants as reading
use Rattle.cbor_decode.specs.Gives.{IsErrorOf, Limits, limits, Step, ReportsNoMemory}
use Rattle.cbor_decode.specs.HasChunks.{AsksWhere, HasChunks}
use Rattle.cbor_decode.specs.Heads.{behind_head}
use Rattle.cbor_decode.specs.Memory.{MemoryOnly}
use Rattle.cbor_decode.specs.declared.head.Head.{Head}
use Rattle.cbor_decode.specs.declared.head.Head.TheVariants as head
use Rattle.cbor_decode.specs.declared.refusal.Refused.{Refused}
use Rattle.cbor_decode.specs.declared.refusal.Refused.TheVariants as refused
use Rattle.cbor_decode_as.specs.TaggedHeads.{AsksBehind, TakesItemHead, opened_at}
use Rattle.cbor_decode_as.specs.Takes.{raws, lending, IsNotRead, MemoryFor, OfItem}
use Rattle.cbor_decode_as.specs.Strings.{AsksForBytes, AsksForString, AsksToLend, BytesOf, IsByteString, IsKept, IsMadeOf, Lacks, PartText, UnreadOnly, Utf8Of, asks_head, asks_string}
use Rattle.cbor_decode_as.specs.declared.borrowed.EitherStr.{EitherStr}
use Rattle.cbor_decode_as.specs.declared.borrowed.Unread.{Unread}
use Rattle.cbor_decode_as.specs.declared.borrowed.Unread.TheVariants.{Stopped, Other}
use Rattle.cbor_decode_as.specs.declared.head.HeadAt.{HeadAt}
use Rattle.cbor_decode_as.proofs.texts.ByteStrings.{not_bytes}
use Rattle.cbor_decode_as.proofs.texts.StringContents.{none_there, not_string}
use Rattle.cbor_decode_as.proofs.heads.PassedMemory.{behind_asks}
use Rattle.cbor_decode_as.proofs.numbers.Scalars.{scalar_unread, untagged-tagged, within_tags}

-- ---- refusals

-- the refusal that was kept
pub kept_only : (P : Type 0) (kept : ReadError) (r : Refused) (e : ReadError) → IsKept kept r e → MemoryOnly P kept r → UnreadOnly P (Stopped e)
kept_only P kept refused.OutOfMemory e is h = λ why_is. h
kept_only P kept refused.Kept e is h = λ why_is. h (ap why (sym is) ∙ why_is)

-- one that isn't for lack of memory
pub kept_none : (P : Type 0) (kept : ReadError) (r : Refused) (e : ReadError) → IsKept kept r e → ReportsNoMemory kept r → UnreadOnly P (Stopped e)
kept_none P kept refused.OutOfMemory e is h = absurd h
kept_none P kept refused.Kept e is h = λ why_is. absurd (h (ap why (sym is) ∙ why_is))

-- one of another code
pub kept_at : (P : Type 0) (kept : ReadError) (r : Refused) (e : ReadError) (Q : ReadError → Type 0) → ((q : ReadError) → Q q → why q ≡ reading.OutOfMemory → ⊥) → r ≡ refused.Kept → Q kept → IsKept kept r e → UnreadOnly P (Stopped e)
kept_at P kept refused.OutOfMemory e Q other keeps h is = absurd cc
kept_at P kept refused.Kept e Q other keeps h is = λ why_is. absurd (other kept h (ap why (sym is) ∙ why_is))

pub unread_on : (P Q : Type 0) (u : Unread) → (P → Q) → UnreadOnly P u → UnreadOnly Q u
unread_on P Q (Stopped e) on h = λ is. on (h is)
unread_on P Q Other on h = tt

pub unread_err : {X : Type 0} (P Q : Type 0) (r : Result X Unread) → (P → Q) → IfErr r (UnreadOnly P) → IfErr r (UnreadOnly Q)
unread_err P Q (Ok x) on h = tt
unread_err P Q (Err u) on h = unread_on P Q u on h

-- what isn't UTF-8 needed no memory
pub part_only : (P : Type 0) (p : EitherLifetime) (end : ℕ) (r : Result EitherStr Unread) → PartText p end r → IfErr r (UnreadOnly P)
part_only P p end (Ok x) is = tt
part_only P p end (Err (Stopped e)) is = λ memory. let bad = is.1 in absurd cc
part_only P p end (Err Other) is = tt

pub utf8_only : (P : Type 0) (p : EitherLifetime) (r : Result EitherStr Unread) → Utf8Of p r → IfErr r (UnreadOnly P)
utf8_only P p (Ok x) is = tt
utf8_only P p (Err u) is = subst (UnreadOnly P) (sym is.1) tt

pub bytes_only : (P : Type 0) (t : EitherStr) (r : Result EitherLifetime Unread) → BytesOf t r → IfErr r (UnreadOnly P)
bytes_only P t (Ok p) is = tt
bytes_only P t (Err u) is = absurd is

-- ---- the item at the front

-- of all that is read, P holds
abbrev pub Always : (Raw → Type 0) → Reads Raw → Type 0
Always P read = (r : Raw) (rest : List ℕ) → read ≡ Ok (r, rest) → P r

module _ (P : Raw → Type 0) where
  ok_always : (r : Raw) (rest : List ℕ) → P r → Always P (Ok (r, rest))
  ok_always r rest h q more is = subst (λ (p : Raw × List ℕ). P p.0) (ok_is (r, rest) (q, more) is) h

  err_always : (f : Fault) → Always P (Err f)
  err_always f q more is = absurd cc

  bind_always : {A : Type 0} (read : Reads A) (f : A × List ℕ → Reads Raw) → ((x : A × List ℕ) → Always P (f x)) → Always P (read >>= f)
  bind_always (Ok x) f h = h x
  bind_always (Err d) f h = err_always d

  cond_always : (c : Bool) (x y : Reads Raw) → Always P x → Always P y → Always P (cond c x y)
  cond_always true x y g h = g
  cond_always false x y g h = h

  -- what is read after the head of a string
  module _ (f : Formats) (l : Limits) (inner : Option (List ℕ → Reads Raw)) (w : HeadWidth) (bs : List ℕ) where
    checked_always : (r : Raw) (c rest : List ℕ) → P r → Always P (checked_text (raws f l) r c rest)
    unfolding checked_text
    checked_always r c rest h = cond_always ((raws f l).is_text c) _ _ (ok_always r rest h) (err_always _)

    text_always : ((c : Chunk) → P (raw.text c)) → (n : ℕ) → Always P (behind_head (raws f l) inner w (head.Text (Some n)) bs)
    unfolding text_at
    text_always h n = cond_always _ _ _ (bind_always (bytes_at n bs) _ (λ x. checked_always (raw.text (record { width = w; bytes = x.0 })) x.0 x.1 (h (record { width = w; bytes = x.0 })))) (err_always _)

    text_chunks_always : ((cs : List Chunk) → P (raw.text_chunks cs)) → Always P (behind_head (raws f l) inner w (head.Text None) bs)
    unfolding text_chunks_at
    text_chunks_always h = bind_always (chunks_at (raws f l).exceeds 0 3 bs) _ (λ x. checked_always (raw.text_chunks x.0) _ x.1 (h x.0))

    bytes_always : ((c : Chunk) → P (raw.bytes c)) → (n : ℕ) → Always P (behind_head (raws f l) inner w (head.Bytes (Some n)) bs)
    unfolding string_at
    bytes_always h n = bind_always (bytes_at n bs) _ (λ x. ok_always (raw.bytes (record { width = w; bytes = x.0 })) x.1 (h (record { width = w; bytes = x.0 })))

    bytes_chunks_always : ((cs : List Chunk) → P (raw.bytes_chunks cs)) → Always P (behind_head (raws f l) inner w (head.Bytes None) bs)
    unfolding string_chunks_at
    bytes_chunks_always h = bind_always (chunks_at (raws f l).exceeds 0 2 bs) _ (λ x. ok_always (raw.bytes_chunks x.0) x.1 (h x.0))

module _ (a : Asks) (f : Formats) (l : Limits) (inner : Option (List ℕ → Reads Raw)) (w : HeadWidth) (bs : List ℕ) where
  -- all that is read after this head is asked for so
  abbrev pub AskAs : Head → Type 0
  AskAs h = Always (λ r. asks_string a (untagged r) ≡ asks_head a h) (behind_head (raws f l) inner w h bs)

  pub text_asks : (n : Option ℕ) → AskAs (head.Text n)
  text_asks (Some n) = text_always (λ r. asks_string a (untagged r) ≡ a.whole) f l inner w bs (λ c. refl) n
  text_asks None = text_chunks_always (λ r. asks_string a (untagged r) ≡ a.joined) f l inner w bs (λ cs. refl)

  pub bytes_ask : (n : Option ℕ) → AskAs (head.Bytes n)
  bytes_ask (Some n) = bytes_always (λ r. asks_string a (untagged r) ≡ a.whole) f l inner w bs (λ c. refl) n
  bytes_ask None = bytes_chunks_always (λ r. asks_string a (untagged r) ≡ a.joined) f l inner w bs (λ cs. refl)

module _ (allowed : ReadErrorCode → Bool) (a : Asks) (f : Formats) (levels : ℕ) (s m : Input) (kept : ReadError)
    (found : HeadAt) (opens : Step s m (λ l bs rest. opened_at levels bs ≡ Ok ((found.levels, found.head), rest))) where
  abbrev Asked : Raw → Type 0
  Asked r = asks_string a (untagged r) ≡ true

  -- the item after a head
  of_head : (h : Head) → ((l : Limits) (inner : Option (List ℕ → Reads Raw)) (w : HeadWidth) (bs : List ℕ) → AskAs a f l inner w bs h)
      → TakesItemHead allowed f levels s m kept (Ok h) → asks_head a h ≡ true → OfItem Asked f levels s
  of_head h all (left, step) asks bs reports r rest is =
      let l = limits s bs in
      let o = (step.reported bs reports).holds in
      let mid = (step.reported bs reports).rest in
      let item = within_tags o.tags (behind_head (raws f l) (inside (raws f l) left) o.width h mid) r rest (sym o.is ∙ is) in
      let same : untagged r ≡ untagged item.item = ap untagged item.wrapped ∙ untagged-tagged o.tags item.item in
      ap (asks_string a) same ∙ all l (inside (raws f l) left) o.width mid item.item rest item.is ∙ asks

  -- a string is passed over as it is lent
  joined_behind : (h : Head) → found.head ≡ h → a.joined ≡ true → ((l : Limits) (inner : Option (List ℕ → Reads Raw)) (w : HeadWidth) (bs : List ℕ) → Always HasChunks (behind_head (raws all_formats l) inner w h bs)) → AsksBehind a found m
  joined_behind h is asks all = inr (
    asks,
    λ w bs reports r rest read.
        let l = limits m bs in
        let inner = inside (raws all_formats l) found.levels in
        all l inner w bs r rest (subst (λ (h : Head). behind_head (raws all_formats l) inner w h bs ≡ Ok (r, rest)) is read),
  )

  text_behind : (n : Option ℕ) → found.head ≡ head.Text n → asks_head a (head.Text n) ≡ true → AsksBehind a found m
  text_behind (Some n) is asks = inl asks
  text_behind None is asks = joined_behind (head.Text None) is asks (λ l inner w bs. text_chunks_always HasChunks all_formats l inner w bs (λ cs. tt))

  bytes_behind : (n : Option ℕ) → found.head ≡ head.Bytes n → asks_head a (head.Bytes n) ≡ true → AsksBehind a found m
  bytes_behind (Some n) is asks = inl asks
  bytes_behind None is asks = joined_behind (head.Bytes None) is asks (λ l inner w bs. bytes_chunks_always HasChunks all_formats l inner w bs (λ cs. tt))

  passed : AsksBehind a found m → OfItem (λ r. AsksWhere a (HasChunks r)) all_formats levels s
  passed = behind_asks a found levels s m opens

  pub of_text : {X : Type 0} (n : Option ℕ) (r : Result X Unread) → found.head ≡ head.Text n → TakesItemHead allowed f levels s m kept (Ok (head.Text n)) → IfErr r (UnreadOnly (asks_head a (head.Text n) ≡ true)) → IfErr r (UnreadOnly (AsksToLend AsksForString a f levels s))
  of_text n r is opened h = unread_err (asks_head a (head.Text n) ≡ true) (AsksToLend AsksForString a f levels s) r
      (λ asks. (λ bs reports i rest read b string. of_head (head.Text n) (λ l inner w bs. text_asks a f l inner w bs n) opened asks bs reports i rest read, passed (text_behind n is asks))) h

  of_bytes_head : (n : Option ℕ) → TakesItemHead allowed f levels s m kept (Ok (head.Bytes n)) → asks_head a (head.Bytes n) ≡ true → OfItem Asked f levels s
  of_bytes_head n = of_head (head.Bytes n) (λ l inner w bs. bytes_ask a f l inner w bs n)

  pub of_bytes : {X : Type 0} (n : Option ℕ) (r : Result X Unread) → found.head ≡ head.Bytes n → TakesItemHead allowed f levels s m kept (Ok (head.Bytes n)) → IfErr r (UnreadOnly (asks_head a (head.Bytes n) ≡ true)) → IfErr r (UnreadOnly (AsksToLend AsksForString a f levels s))
  of_bytes n r is opened h = unread_err (asks_head a (head.Bytes n) ≡ true) (AsksToLend AsksForString a f levels s) r
      (λ asks. (λ bs reports i rest read b string. of_bytes_head n opened asks bs reports i rest read, passed (bytes_behind n is asks))) h

  pub of_byte_string : {X : Type 0} (n : Option ℕ) (r : Result X Unread) → found.head ≡ head.Bytes n → TakesItemHead allowed f levels s m kept (Ok (head.Bytes n)) → IfErr r (UnreadOnly (asks_head a (head.Bytes n) ≡ true)) → IfErr r (UnreadOnly (AsksToLend AsksForBytes a f levels s))
  of_byte_string n r is opened h = unread_err (asks_head a (head.Bytes n) ≡ true) (AsksToLend AsksForBytes a f levels s) r
      (λ asks. (λ bs reports i rest read b string. of_bytes_head n opened asks bs reports i rest read, passed (bytes_behind n is asks))) h

  -- an item of another kind is no string, and is passed over
  pub of_other : (u : Unread) → ((n : Option ℕ) → found.head ≡ head.Text n → ⊥) → ((n : Option ℕ) → found.head ≡ head.Bytes n → ⊥) → TakesItemHead allowed f levels s m kept (Ok found.head) → UnreadOnly (AsksBehind a found m) u → UnreadOnly (AsksToLend AsksForString a f levels s) u
  of_other u text bytes opened = unread_on (AsksBehind a found m) (AsksToLend AsksForString a f levels s) u
      (λ asks. (λ bs reports r rest is b string. absurd (scalar_unread allowed f IsString levels s m kept found.head (λ r b means tag is. not_string found.head text bytes r b means tag is) opened bs reports b rest (record { item = r; is = is; means = string })), passed asks))

  pub of_no_bytes : (u : Unread) → ((n : Option ℕ) → found.head ≡ head.Bytes n → ⊥) → TakesItemHead allowed f levels s m kept (Ok found.head) → UnreadOnly (AsksBehind a found m) u → UnreadOnly (AsksToLend AsksForBytes a f levels s) u
  of_no_bytes u bytes opened = unread_on (AsksBehind a found m) (AsksToLend AsksForBytes a f levels s) u
      (λ asks. (λ bs reports r rest is b string. absurd (scalar_unread allowed f IsByteString levels s m kept found.head (λ r b means tag is. not_bytes found.head bytes r b means tag is) opened bs reports b rest (record { item = r; is = is; means = string })), passed asks))

-- ---- types

memory_code : (k : ReadErrorCode) → error_code k ≡ code.OutOfMemory → k ≡ reading.OutOfMemory
memory_code (reading.Io fault) e = absurd cc
memory_code reading.ScratchTooSmall e = absurd cc
memory_code reading.EofWhileParsingValue e = absurd cc
memory_code reading.EofWhileParsingArray e = absurd cc
memory_code reading.EofWhileParsingMap e = absurd cc
memory_code reading.LengthOutOfRange e = absurd cc
memory_code reading.InvalidUtf8 e = absurd cc
memory_code reading.UnassignedCode e = absurd cc
memory_code reading.UnexpectedCode e = absurd cc
memory_code reading.TrailingData e = absurd cc
memory_code reading.RecursionLimitExceeded e = absurd cc
memory_code reading.WrongStructFormat e = absurd cc
memory_code reading.OutOfMemory e = refl

-- the error of a refusal
pub error_only : (P : Type 0) (kept : ReadError) (r : Refused) (e : Error) → IsErrorOf kept r e → MemoryOnly P kept r → code_of e ≡ code.OutOfMemory → P
error_only P kept refused.OutOfMemory e made h is = h
error_only P kept refused.Kept e made h is = h (memory_code (why kept) (sym made.0 ∙ is))

-- the error of what lacks, where memory ran out
pub made_memory : {A B : Type 0} (allowed : ReadErrorCode → Bool) (f : Formats) (reads : Raw → A → Type 0) (other : Raw → B → Type 0) (view : A → B) (levels : ℕ) (s t : Input) (asks : Asks → Raw → Type 0) (a : Asks) (asked : Raw → Type 0) (u : Unread) (e : Error)
    → ((r : Raw) (x : A) → reads r x → other r (view x)) → ((r : Raw) (x : A) → PassesTags reads r x → asks a r → asked r) → IsMadeOf u e → UnreadOnly (AsksToLend asks a f levels s) u
    → Lacks allowed s t (λ l bs. IsNotRead (PassesTags other) (item_at (raws f l) levels bs)) u → MemoryFor asked f (PassesTags reads) levels s e
made_memory allowed f reads other view levels s t asks a asked (Stopped q) e on more made h lacks is bs reports x rest got =
    more got.item x got.means ((h (memory_code (why q) (sym made.0 ∙ is))).0 bs reports got.item rest got.is)
made_memory allowed f reads other view levels s t asks a asked Other e on more made h lacks is bs reports x rest got =
    absurd (none_there allowed s lacks bs reports (view x) rest (record { item = got.item; is = got.is; means = on (untagged got.item) x got.means }))

-- no memory is asked for what is lent for the input's life
asked_or_lent : (m b : Bool) → b ≡ true → asks_part m b ≡ true → ⊥
asked_or_lent m true is asks = absurd cc
asked_or_lent m false is asks = absurd cc

pub lent_unasked : (allowed : ReadErrorCode → Bool) (f : Formats) (l : Lends) (r : Raw) → is_lent (lending f l) r ≡ true → asks_string (asks_for allowed l) r ≡ true → ⊥
lent_unasked allowed f l (raw.unsigned w m) is asks = asked_or_lent _ l.whole is asks
lent_unasked allowed f l (raw.negative w m) is asks = asked_or_lent _ l.whole is asks
lent_unasked allowed f l (raw.bytes c) is asks = asked_or_lent _ l.whole is asks
lent_unasked allowed f l (raw.text c) is asks = asked_or_lent _ l.whole is asks
lent_unasked allowed f l (raw.bytes_chunks cs) is asks = asked_or_lent _ l.joined is asks
lent_unasked allowed f l (raw.text_chunks cs) is asks = asked_or_lent _ l.joined is asks
lent_unasked allowed f l (raw.array n rs) is asks = asked_or_lent _ l.whole is asks
lent_unasked allowed f l (raw.map n ps) is asks = asked_or_lent _ l.whole is asks
lent_unasked allowed f l (raw.tag w m r) is asks = asked_or_lent _ l.whole is asks
lent_unasked allowed f l (raw.simple s) is asks = asked_or_lent _ l.whole is asks
lent_unasked allowed f l (raw.float w bits) is asks = asked_or_lent _ l.whole is asks
