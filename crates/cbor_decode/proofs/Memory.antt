-- Where memory ran out.
use Rattle.std.proofs.Common.{◌≡◌, ℕ, Bool, true, false, cond, List, Option, Some, None, Result, Ok, Err, IfErr, sym, ◌∙◌, ap, subst}
use Rattle.cbor_model.specs.Formats.{Formats, all_formats}
use Rattle.cbor_model.specs.Head.{HeadWidth}
use Rattle.cbor_model.specs.Plain.{Val}
use Rattle.cbor_model.specs.Plain as plain
use Rattle.cbor_model.specs.Reader.{Fault, Reads, ◌>>=◌, byte_at, bytes_at, chunks_at, string_at, checked_text, text_at, string_chunks_at, text_chunks_at, array_at, map_at, tag_at, after_first, item_at, inside}
use Rattle.cbor_model.proofs.facts.Reader.{ok_is}
use Rattle.cbor_io.specs.ReadError.{why}
use Rattle.cbor_io.specs.declared.read_error.ReadError.{ReadError}
use Rattle.cbor_io.specs.declared.read_error.ReadErrorCode.TheVariants.{OutOfMemory}
use Rattle.cbor_read.specs.Source.{Input}
use Rattle.cbor_decode.specs.Gives.{Limits, limits, values, Step, ReportsNoMemory}
use Rattle.cbor_decode.specs.Heads.{after_head, head_at}
use Rattle.cbor_decode.specs.Memory.{MemoryOnly, IsStored, IsStoredHead, ReadsStored}
use Rattle.cbor_decode.specs.declared.head.Head.{Head}
use Rattle.cbor_decode.specs.declared.head.Head.TheVariants as head
use Rattle.cbor_decode.specs.declared.refusal.Refused.{Refused}
use Rattle.cbor_decode.specs.declared.refusal.Refused.TheVariants as refused
use Rattle.cbor_decode.proofs.Steps.{same_limits}
use Rattle.cbor_decode.proofs.Heads.{value_after}
use Rattle.cbor_decode.proofs.Inside.{value_first}

-- a refusal that isn't for lack of memory
pub none_asked : (P : Type 0) (kept : ReadError) (r : Refused) → ReportsNoMemory kept r → MemoryOnly P kept r
none_asked P kept refused.OutOfMemory h = absurd h
none_asked P kept refused.Kept h = λ is. absurd (h is)

-- what follows from what holds where memory ran out
pub asked_on : (P Q : Type 0) (kept : ReadError) (r : Refused) → (P → Q) → MemoryOnly P kept r → MemoryOnly Q kept r
asked_on P Q kept refused.OutOfMemory on h = on h
asked_on P Q kept refused.Kept on h = λ is. on (h is)

-- a refusal of the source that is kept
pub kept_asked : (P : Type 0) (kept : ReadError) (r : Refused) (e : ReadError) → r ≡ refused.Kept → kept ≡ e → (why e ≡ OutOfMemory → P) → MemoryOnly P kept r
kept_asked P kept refused.OutOfMemory e is keeps h = absurd cc
kept_asked P kept refused.Kept e is keeps h = λ why_is. h (ap why (sym keeps) ∙ why_is)

-- another refusal
pub kept_other : (P : Type 0) (kept : ReadError) (r : Refused) (Q : ReadError → Type 0) → ((e : ReadError) → Q e → why e ≡ OutOfMemory → ⊥) → r ≡ refused.Kept → Q kept → MemoryOnly P kept r
kept_other P kept refused.OutOfMemory Q other is h = absurd cc
kept_other P kept refused.Kept Q other is h = λ why_is. absurd (other kept h why_is)

-- what holds holds where memory ran out
pub stored : (P : Type 0) (kept : ReadError) (r : Refused) → P → MemoryOnly P kept r
stored P kept refused.OutOfMemory h = h
stored P kept refused.Kept h = λ is. h

-- what is said of a refusal says more of it
pub on_err : {X : Type 0} (r : Result X Refused) (P Q : Refused → Type 0) → ((e : Refused) → P e → Q e) → IfErr r P → IfErr r Q
on_err (Ok x) P Q on h = tt
on_err (Err e) P Q on h = on e h

-- ---- values

-- all that is read is kept in memory of its own
abbrev AllStored : Reads Val → Type 0
AllStored read = (v : Val) (rest : List ℕ) → read ≡ Ok (v, rest) → IsStored v

ok_stored : (v : Val) (rest : List ℕ) → IsStored v → AllStored (Ok (v, rest))
ok_stored v rest h w more is = subst IsStored (ap (λ (p : Val × List ℕ). p.0) (ok_is (v, rest) (w, more) is)) h

err_stored : (f : Fault) → AllStored (Err f)
err_stored f w more is = absurd cc

bind_stored : {A : Type 0} (read : Reads A) (f : A × List ℕ → Reads Val) → ((x : A × List ℕ) → AllStored (f x)) → AllStored (read >>= f)
bind_stored (Ok x) f h = h x
bind_stored (Err d) f h = err_stored d

cond_stored : (c : Bool) (x y : Reads Val) → AllStored x → AllStored y → AllStored (cond c x y)
cond_stored true x y a b = a
cond_stored false x y a b = b

checked_stored : (l : Limits) (v : Val) (b rest : List ℕ) → IsStored v → AllStored (checked_text (values all_formats l) v b rest)
unfolding checked_text
checked_stored l v b rest h = cond_stored ((values all_formats l).is_text b) _ _ (ok_stored v rest h) (err_stored _)

after_stored : (f : Formats) (l : Limits) (inner : Option (List ℕ → Reads Val)) (h : Head) (bs : List ℕ) → IsStoredHead h → AllStored (after_head f l inner h bs)
unfolding string_at string_chunks_at text_at text_chunks_at array_at map_at tag_at
after_stored f l inner (head.Unsigned n) bs h = absurd h
after_stored f l inner (head.Negative n) bs h = absurd h
after_stored f l inner (head.Bytes (Some n)) bs h = bind_stored (bytes_at n bs) _ (λ x. ok_stored (plain.bytes x.0) x.1 h)
after_stored f l inner (head.Bytes None) bs h = bind_stored (chunks_at (values all_formats l).exceeds 0 2 bs) _ (λ x. ok_stored _ x.1 h)
after_stored f l inner (head.Text (Some n)) bs h = cond_stored _ _ _ (bind_stored (bytes_at n bs) _ (λ x. checked_stored l (plain.text x.0) x.0 x.1 h)) (err_stored _)
after_stored f l inner (head.Text None) bs h = bind_stored (chunks_at (values all_formats l).exceeds 0 3 bs) _ (λ x. checked_stored l _ _ x.1 h)
after_stored f l inner (head.Array r) bs h = bind_stored _ _ (λ x. ok_stored (plain.array x.0) x.1 h)
after_stored f l inner (head.Map r) bs h = bind_stored _ _ (λ x. ok_stored _ x.1 h)
after_stored f l inner (head.Tag n) bs h = bind_stored _ _ (λ x. ok_stored (plain.tag n x.0) x.1 h)
after_stored f l inner (head.Bool b) bs h = absurd h
after_stored f l inner head.Null bs h = absurd h
after_stored f l inner head.Undefined bs h = absurd h
after_stored f l inner (head.Float x) bs h = absurd h
after_stored f l inner head.Break bs h = absurd h

-- a value whose head is one of what is kept in memory of its own
pub head_stored : (f : Formats) (levels first : ℕ) (s t : Input) (h : Head) (kept : ReadError) (r : Refused) → Step s t (λ l bs rest. (w : HeadWidth) × (head_at first bs ≡ Ok ((w, h), rest)))
    → MemoryOnly (IsStoredHead h) kept r → MemoryOnly (ReadsStored (λ l. after_first (values f l) (inside (values f l) levels) first) s) kept r
head_stored f levels first s t h kept r step =
    asked_on (IsStoredHead h) (ReadsStored (λ l. after_first (values f l) (inside (values f l) levels) first) s) kept r (λ is bs reports v rest read.
    let l = limits s bs in
    let one = step.reported bs reports in
    let same = value_after f l (inside (values f l) levels) first one.holds.0 h bs one.rest one.holds.1 in
    after_stored f l (inside (values f l) levels) h one.rest is v rest (sym same ∙ read))

-- a value after its first byte
pub first_stored : (f : Formats) (levels first : ℕ) (s t : Input) (kept : ReadError) (r : Refused) → Step s t (λ l bs mid. byte_at bs ≡ Ok (first, mid))
    → MemoryOnly (ReadsStored (λ l. after_first (values f l) (inside (values f l) levels) first) t) kept r → MemoryOnly (ReadsStored (λ l. item_at (values f l) levels) s) kept r
first_stored f levels first s t kept r step =
    asked_on (ReadsStored (λ l. after_first (values f l) (inside (values f l) levels) first) t) (ReadsStored (λ l. item_at (values f l) levels) s) kept r (λ stores bs reports v rest read.
    let l = limits s bs in
    let one = step.reported bs reports in
    let same = same_limits s t bs one.rest step.took.room one.total in
    let here : after_first (values f l) (inside (values f l) levels) first one.rest ≡ Ok (v, rest) = sym (value_first f l levels first bs one.rest one.holds) ∙ read in
    stores one.rest one.reports v rest (subst (λ (l : Limits). after_first (values f l) (inside (values f l) levels) first one.rest ≡ Ok (v, rest)) (sym same) here))
