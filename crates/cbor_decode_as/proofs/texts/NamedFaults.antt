-- What a refusal of a name reports, and where memory was asked for it.
use Rattle.std.proofs.Common.{◌≡◌, ◌∙◌, ◌⊎◌, inl, inr, ◌+◌, ◌-◌, ℕ, Bool, true, List, length, Option, Some, None, Result, Ok, Err, IfErr, refl, sym, ap, subst}
use Rattle.std.specs.Str.{IsUtf8}
use Rattle.std.specs.Str.Lossy.{utf8_valid_len}
use Rattle.cbor_model.specs.Plain.{Val}
use Rattle.cbor_model.specs.Refusal.{unexpected_code}
use Rattle.cbor_model.specs.Reader.{Reads, before}
use Rattle.cbor_read.specs.Source.{Asks, Input}
use Rattle.cbor_io.specs.Error.{code_of, offset_of}
use Rattle.cbor_io.specs.ReadError.{why, place, error_code}
use Rattle.cbor_io.specs.declared.error.Error.{Error}
use Rattle.cbor_io.specs.declared.error.ErrorCode.{ErrorCode}
use Rattle.cbor_io.specs.declared.read_error.ReadError.{ReadError}
use Rattle.cbor_io.specs.declared.read_error.ReadErrorCode.{ReadErrorCode}
use Rattle.cbor_io.specs.declared.read_error.ReadErrorCode.TheVariants as reading
use Rattle.cbor_decode.specs.Gives.{FailsBy, IsAt, IsErrorOf, Limits, limits, ReportsIo, ReportsNoMemory, ReportsWhy, Step, Stops}
use Rattle.cbor_decode.specs.Heads.{passed}
use Rattle.cbor_decode.specs.Memory.{MemoryOnly}
use Rattle.cbor_decode.specs.declared.head.Head.{Head}
use Rattle.cbor_decode.specs.declared.head.Head.TheVariants as head
use Rattle.cbor_decode.specs.declared.refusal.Refused.{Refused as Reason}
use Rattle.cbor_decode.specs.declared.refusal.Refused.TheVariants as refused
use Rattle.cbor_decode.proofs.facts.Steps.{kept_reports}
use Rattle.cbor_decode_as.specs.Identifiers.{AsksAtHead, AsksForName, IsNoLabel, IsNoName, IsWhyOf, IsWhyOfHead, NamesFault, NamesFront, NamesOnly}
use Rattle.cbor_decode_as.specs.Strings.{UnreadBy, UnreadOnly, asks_head, behind_string, content_at}
use Rattle.cbor_decode_as.specs.TaggedHeads.{AtHead, behind_any, opened_at}
use Rattle.cbor_decode_as.specs.Takes.{Refuses, any_item}
use Rattle.cbor_decode_as.specs.declared.borrowed.Unread.{Unread}
use Rattle.cbor_decode_as.specs.declared.borrowed.Unread.TheVariants as unread
use Rattle.cbor_decode_as.specs.declared.head.HeadAt.{HeadAt}
use Rattle.cbor_decode_as.specs.declared.identifier.Why.{Why}
use Rattle.cbor_decode_as.specs.declared.identifier.Why.TheVariants.{Refused, Other}
use Rattle.cbor_decode_as.proofs.heads.PassedOver.{behind_stops}
use Rattle.cbor_decode_as.proofs.texts.PassedStrings.{bad_fails, bytes_stop_item, text_stops}

-- ---- what is kept

-- the refusal itself
pub kept_why : {A : Type 0} (allowed : ReadErrorCode → Bool) (read : Limits → List ℕ → Reads A) (s : Input) (kept q : ReadError) (r : Reason) → kept ≡ q → Stops allowed read s q → ReportsWhy allowed read s kept r
kept_why allowed read s kept q refused.OutOfMemory is h = tt
kept_why allowed read s kept q refused.Kept is h = subst (Stops allowed read s) (sym is) h

pub kept_memory : (P : Type 0) (kept q : ReadError) (r : Reason) → r ≡ refused.Kept → kept ≡ q → (why q ≡ reading.OutOfMemory → P) → MemoryOnly P kept r
kept_memory P kept q refused.OutOfMemory keeps is h = absurd cc
kept_memory P kept q refused.Kept keeps is h = λ memory. h (ap why (sym is) ∙ memory)

-- one that isn't lack of memory
pub other_memory : (P : Type 0) (kept : ReadError) (r : Reason) (k : ReadErrorCode) → r ≡ refused.Kept → why kept ≡ k → (k ≡ reading.OutOfMemory → ⊥) → MemoryOnly P kept r
other_memory P kept refused.OutOfMemory k keeps is other = absurd cc
other_memory P kept refused.Kept k keeps is other = λ memory. absurd (other (sym is ∙ memory))

pub no_memory : (P : Type 0) (kept : ReadError) (r : Reason) → ReportsNoMemory kept r → MemoryOnly P kept r
no_memory P kept refused.OutOfMemory h = absurd h
no_memory P kept refused.Kept h = λ memory. absurd (h memory)

memory_on : (P Q : Type 0) (kept : ReadError) (r : Reason) → (P → Q) → MemoryOnly P kept r → MemoryOnly Q kept r
memory_on P Q kept refused.OutOfMemory on h = on h
memory_on P Q kept refused.Kept on h = λ memory. on (h memory)

-- the error that is made of it
pub kept_refuses : {t : Input} (allowed : ReadErrorCode → Bool) (s : Input) (kept q : ReadError) (r : Reason) (e : Error) (N : Limits → List ℕ → Type 0) → r ≡ refused.Kept → kept ≡ q → IsErrorOf kept r e → Refuses allowed s t (error_code (why q)) (place q) N → Refuses allowed s t (code_of e) (offset_of e) N
kept_refuses allowed s kept q refused.OutOfMemory e N keeps is made h = absurd cc
kept_refuses {t = t} allowed s kept q refused.Kept e N keeps is made h =
    subst (λ (k : ErrorCode). Refuses allowed s t k (offset_of e) N) (ap (λ (x : ReadError). error_code (why x)) (sym is) ∙ sym made.0)
    (subst (λ (n : ℕ). Refuses allowed s t (error_code (why q)) n N) (ap place (sym is) ∙ sym made.1) h)

-- of what is said of a refusal
pub names_err : {X : Type 0} (P Q : Why → Type 0) (r : Result X Why) → ((w : Why) → P w → Q w) → IfErr r P → IfErr r Q
names_err P Q (Ok x) on h = tt
names_err P Q (Err w) on h = on w h

-- ---- texts

-- a text that isn't UTF-8
pub bad_named : (allowed : ReadErrorCode → Bool) (s t : Input) (n : Option ℕ) (b : List ℕ) (back : ℕ) (kept : ReadError) (r : Reason) → Step s t (λ l bs rest. content_at l (head.Text n) bs ≡ Ok (b, rest))
    → (IsUtf8 b → ⊥) × (back ≡ length b - utf8_valid_len b) → (why kept ≡ reading.InvalidUtf8) × (place kept + back ≡ t.offset) → ReportsWhy allowed (behind_string (head.Text n)) s kept r
bad_named allowed s t n b back kept refused.OutOfMemory step bad at = tt
bad_named allowed s t n b back kept refused.Kept step bad at = record {
  reported = λ bs reports.
      subst (λ (k : ReadErrorCode). FailsBy (ReportsIo allowed) (error_code k) (s.offset + length bs) (place kept) (behind_string (head.Text n) (limits s bs) bs)) (sym at.0)
      (bad_fails allowed s t n b (place kept) step bad.0 (subst (λ (k : ℕ). place kept + k ≡ t.offset) bad.1 at.1) bs reports);
}

-- ---- byte strings

-- why no string was lent, as why nothing was named
pub unlent_fault : (allowed : ReadErrorCode → Bool) (read : Limits → List ℕ → Reads Val) (s : Input) (u : Unread) (kept : ReadError) (w : Why) → IsWhyOf u kept w → UnreadBy allowed read s u → NamesFault ⊥ allowed read s kept w
unlent_fault allowed read s (unread.Stopped q) kept w is h = subst (NamesFault ⊥ allowed read s kept) (sym is.0) (subst (Stops allowed read s) (sym is.1) h)
unlent_fault allowed read s unread.Other kept w is h = absurd h

pub unlent_memory : (P : Type 0) (u : Unread) (kept : ReadError) (w : Why) → IsWhyOf u kept w → UnreadOnly P u → NamesOnly P kept w
unlent_memory P (unread.Stopped q) kept w is h = subst (NamesOnly P kept) (sym is.0) (λ memory. h (ap why (sym is.1) ∙ memory))
unlent_memory P unread.Other kept w is h = subst (NamesOnly P kept) (sym is) tt

-- ---- heads

not_name : (h : Head) → ((n : ℕ) → h ≡ head.Unsigned n → ⊥) → ((n : Option ℕ) → h ≡ head.Text n → ⊥) → ((n : Option ℕ) → h ≡ head.Bytes n → ⊥) → (h ≡ head.Break → ⊥) → IsNoName h
not_name (head.Unsigned n) u t b k = u n refl
not_name (head.Negative n) u t b k = tt
not_name (head.Bytes n) u t b k = b n refl
not_name (head.Text n) u t b k = t n refl
not_name (head.Array r) u t b k = tt
not_name (head.Map r) u t b k = tt
not_name (head.Tag n) u t b k = tt
not_name (head.Bool x) u t b k = tt
not_name head.Null u t b k = tt
not_name head.Undefined u t b k = tt
not_name (head.Float x) u t b k = tt
not_name head.Break u t b k = k refl

not_label : (h : Head) → ((n : ℕ) → h ≡ head.Unsigned n → ⊥) → ((n : ℕ) → h ≡ head.Negative n → ⊥) → ((n : Option ℕ) → h ≡ head.Text n → ⊥) → ((n : Option ℕ) → h ≡ head.Bytes n → ⊥) → (h ≡ head.Break → ⊥) → IsNoLabel h
not_label (head.Unsigned n) u m t b k = u n refl
not_label (head.Negative n) u m t b k = m n refl
not_label (head.Bytes n) u m t b k = b n refl
not_label (head.Text n) u m t b k = t n refl
not_label (head.Array r) u m t b k = tt
not_label (head.Map r) u m t b k = tt
not_label (head.Tag n) u m t b k = tt
not_label (head.Bool x) u m t b k = tt
not_label head.Null u m t b k = tt
not_label head.Undefined u m t b k = tt
not_label (head.Float x) u m t b k = tt
not_label head.Break u m t b k = k refl

text_asked : (a : Asks) (n : Option ℕ) → asks_head a (head.Text n) ≡ true → (a.whole ≡ true) ⊎ (a.joined ≡ true)
text_asked a (Some n) is = inl is
text_asked a None is = inr is

bytes_asked : (a : Asks) (n : Option ℕ) → asks_head a (head.Bytes n) ≡ true → (a.whole ≡ true) ⊎ (a.joined ≡ true)
bytes_asked a (Some n) is = inl is
bytes_asked a None is = inr is

-- ---- the item at the front

module _ (allowed : ReadErrorCode → Bool) (found : HeadAt) (levels : ℕ) (s m : Input) (opens : Step s m (λ l bs rest. opened_at levels bs ≡ Ok ((found.levels, found.head), rest))) where
  at_head : (P : Head → Type 0) → P found.head → AtHead P levels s
  at_head P holds bs reports =
      let got = opens.reported bs reports in
      record { left = found.levels; head = found.head; rest = got.rest; is = got.holds; holds = holds }

  pub text_named : (P : Head → Type 0) (n : Option ℕ) (kept : ReadError) (r : Reason) → found.head ≡ head.Text n → ReportsWhy allowed (behind_string (head.Text n)) m kept r → NamesFront P allowed levels s kept (Refused r)
  text_named P n kept r is = text_stops allowed found levels s m opens n kept r is

  pub bytes_named : (P : Head → Type 0) (n : Option ℕ) (kept : ReadError) (w : Why) → found.head ≡ head.Bytes n → NamesFault ⊥ allowed (behind_string (head.Bytes n)) m kept w → NamesFront P allowed levels s kept w
  bytes_named P n kept (Refused r) is h = bytes_stop_item allowed found levels s m opens n kept r is h
  bytes_named P n kept Other is h = absurd h

  pub text_only : (a : Asks) (n : Option ℕ) (kept : ReadError) (r : Reason) → found.head ≡ head.Text n → MemoryOnly (asks_head a (head.Text n) ≡ true) kept r → NamesOnly (AsksForName a levels s) kept (Refused r)
  text_only a n kept r is = memory_on _ (AsksForName a levels s) kept r (λ asks. record {
    asks = text_asked a n asks;
    string = at_head (AsksAtHead a) (subst (AsksAtHead a) (sym is) asks);
  })

  pub bytes_only : (a : Asks) (n : Option ℕ) (kept : ReadError) (w : Why) → found.head ≡ head.Bytes n → NamesOnly (asks_head a (head.Bytes n) ≡ true) kept w → NamesOnly (AsksForName a levels s) kept w
  bytes_only a n kept (Refused r) is = memory_on _ (AsksForName a levels s) kept r (λ asks. record {
    asks = bytes_asked a n asks;
    string = at_head (AsksAtHead a) (subst (AsksAtHead a) (sym is) asks);
  })
  bytes_only a n kept Other is = λ h. tt

  -- a break
  break_passes : (kept : ReadError) (r : Reason) → found.head ≡ head.Break → r ≡ refused.Kept → IsAt reading.UnexpectedCode m.offset kept → ReportsWhy allowed (λ l bs. passed (behind_any found.levels found.head l bs)) m kept r
  break_passes kept r is keeps = kept_reports allowed m (λ l bs. passed (behind_any found.levels found.head l bs)) kept r (IsAt reading.UnexpectedCode m.offset) here keeps
    where
      here : (e : ReadError) → IsAt reading.UnexpectedCode m.offset e → Stops allowed (λ l bs. passed (behind_any found.levels found.head l bs)) m e
      here e at = record {
        reported = λ bs reports.
            let l = limits m bs in
            let there : place e + length bs ≡ m.offset + length bs = ap (λ (k : ℕ). k + length bs) at.1 in
            let stops : passed (behind_any found.levels found.head l bs) ≡ Err (before unexpected_code bs) = rw is refl in
            subst (λ (k : ReadErrorCode). FailsBy (ReportsIo allowed) (error_code k) (m.offset + length bs) (place e) (passed (behind_any found.levels found.head l bs))) (sym at.0) (length bs, there, stops);
      }

  -- an item of another kind, or a break
  other_front : (P : Head → Type 0) (h : Head) (kept : ReadError) (w : Why) → found.head ≡ h → ((h ≡ head.Break → ⊥) → P h) → IsWhyOfHead h m.offset kept w → NamesFront P allowed levels s kept w
  other_front P head.Break kept w is holds why = subst (NamesFront P allowed levels s kept) (sym why.0) (behind_stops allowed found levels s m kept refused.Kept opens (break_passes kept refused.Kept is refl why.1))
  other_front P h kept w is holds why = subst (NamesFront P allowed levels s kept) (sym why) (at_head P (subst P (sym is) (holds (λ k. absurd cc))))

  pub other_only : (P : Type 0) (h : Head) (kept : ReadError) (w : Why) → IsWhyOfHead h m.offset kept w → NamesOnly P kept w
  other_only P head.Break kept w why = subst (NamesOnly P kept) (sym why.0) (λ memory. absurd (let is = why.1.0 in cc))
  other_only P h kept w why = subst (NamesOnly P kept) (sym why) tt

  pub other_name : (kept : ReadError) (w : Why) → ((n : ℕ) → found.head ≡ head.Unsigned n → ⊥) → ((n : Option ℕ) → found.head ≡ head.Text n → ⊥) → ((n : Option ℕ) → found.head ≡ head.Bytes n → ⊥) → IsWhyOfHead found.head m.offset kept w → NamesFront IsNoName allowed levels s kept w
  other_name kept w u t b why = other_front IsNoName found.head kept w refl (λ k. not_name found.head u t b k) why

  pub other_label : (kept : ReadError) (w : Why) → ((n : ℕ) → found.head ≡ head.Unsigned n → ⊥) → ((n : ℕ) → found.head ≡ head.Negative n → ⊥) → ((n : Option ℕ) → found.head ≡ head.Text n → ⊥) → ((n : Option ℕ) → found.head ≡ head.Bytes n → ⊥) → IsWhyOfHead found.head m.offset kept w → NamesFront IsNoLabel allowed levels s kept w
  other_label kept w u n t b why = other_front IsNoLabel found.head kept w refl (λ k. not_label found.head u n t b k) why
