-- The head of an item within its tags, whatever follows it.
use Rattle.std.proofs.Common.{◌≡◌, ℕ, suc, zero, ◌+◌, Bool, List, length, Option, Some, None, Result, Ok, Err, refl, sym, ap, subst, ◌∙◌, arith}
use Rattle.cbor_model.specs.Head.{HeadWidth}
use Rattle.cbor_model.specs.Refusal.{too_deep}
use Rattle.cbor_model.specs.Reader.{Fault, Reads}
use Rattle.cbor_read.specs.Source.{Input}
use Rattle.cbor_io.specs.declared.read_error.ReadError.{ReadError}
use Rattle.cbor_io.specs.declared.read_error.ReadErrorCode.{ReadErrorCode}
use Rattle.cbor_decode.specs.Gives.{Step, Stopped, Gives}
use Rattle.cbor_decode.specs.Heads.{opening_at}
use Rattle.cbor_decode.specs.declared.head.Head.{Head}
use Rattle.cbor_decode.specs.declared.head.Head.TheVariants as head
use Rattle.cbor_decode.specs.declared.refusal.Refused.{Refused}
use Rattle.cbor_decode.proofs.facts.Steps.{step_map, step_then, stopped_map, stopped_then}
use Rattle.cbor_decode_as.specs.Kinds.{head_kind}
use Rattle.cbor_decode_as.specs.Kinds as kind
use Rattle.cbor_decode_as.specs.TaggedHeads.{opened_by, opened_from, opened_at, opened_inside}

-- ---- lists of bytes

-- what reads the head one level further in
abbrev pub opened_below : ℕ → Option (List ℕ → Reads (ℕ × Head))
opened_below zero = None
opened_below (suc left) = Some (opened_at left)

pub opened_is : (levels : ℕ) (bs : List ℕ) → opened_at levels bs ≡ opened_from levels (opened_below levels) bs
unfolding opened_at
opened_is zero bs = refl
opened_is (suc left) bs = refl

other_by : (levels : ℕ) (h : Head) (bs : List ℕ) → (head_kind h ≡ kind.tag → ⊥) → opened_by levels (opened_below levels) h bs ≡ Ok ((levels, h), bs)
other_by levels (head.Unsigned n) bs other = refl
other_by levels (head.Negative n) bs other = refl
other_by levels (head.Bytes n) bs other = refl
other_by levels (head.Text n) bs other = refl
other_by levels (head.Array r) bs other = refl
other_by levels (head.Map r) bs other = refl
other_by levels (head.Tag n) bs other = absurd (other refl)
other_by levels (head.Bool b) bs other = refl
other_by levels head.Null bs other = refl
other_by levels head.Undefined bs other = refl
other_by levels (head.Float f) bs other = refl
other_by levels head.Break bs other = refl

tag_by : (levels n : ℕ) (bs : List ℕ) → opened_by levels (opened_below levels) (head.Tag n) bs ≡ opened_inside levels bs
tag_by zero n bs = refl
tag_by (suc left) n bs = refl

pub opened_here : (levels : ℕ) (bs rest : List ℕ) (w : HeadWidth) (h : Head) → (head_kind h ≡ kind.tag → ⊥) → opening_at bs ≡ Ok ((w, h), rest) → opened_at levels bs ≡ Ok ((levels, h), rest)
opened_here levels bs rest w h other is = opened_is levels bs ∙ rw is (other_by levels h rest other)

pub opened_stops : (levels : ℕ) (bs : List ℕ) (e : Fault) → opening_at bs ≡ Err e → opened_at levels bs ≡ Err e
opened_stops levels bs e is = opened_is levels bs ∙ rw is refl

pub opened_in_tag : (levels n : ℕ) (bs mid : List ℕ) (w : HeadWidth) → opening_at bs ≡ Ok ((w, head.Tag n), mid) → opened_at levels bs ≡ opened_inside levels mid
opened_in_tag levels n bs mid w is = opened_is levels bs ∙ rw is (tag_by levels n mid)

pub no_level_inside : (levels : ℕ) (bs : List ℕ) → levels ≡ 0 → opened_inside levels bs ≡ Err (record { why = too_deep; left = length bs })
no_level_inside levels bs none = rw none refl

one_level_inside : (levels left : ℕ) (bs : List ℕ) → levels ≡ left + 1 → opened_inside levels bs ≡ opened_at left bs
one_level_inside levels left bs is = ap (λ (n : ℕ). opened_inside n bs) next
  where
    next : levels ≡ suc left
    next = omega (arith, is)

-- ---- steps

-- the head is no tag's
pub head_opened : (s t : Input) (levels left : ℕ) (h : Head) → (head_kind h ≡ kind.tag → ⊥) → left ≡ levels → Step s t (λ l bs rest. (w : HeadWidth) × (opening_at bs ≡ Ok ((w, h), rest))) → Step s t (λ l bs rest. opened_at levels bs ≡ Ok ((left, h), rest))
head_opened s t levels left h other is = step_map s t (λ l bs rest. (w : HeadWidth) × (opening_at bs ≡ Ok ((w, h), rest))) (λ l bs rest. opened_at levels bs ≡ Ok ((left, h), rest))
    (λ l bs rest p. subst (λ (n : ℕ). opened_at levels bs ≡ Ok ((n, h), rest)) (sym is) (opened_here levels bs rest p.0 h other p.1))

-- no head
pub head_unopened : {t : Input} (allowed : ReadErrorCode → Bool) (s : Input) (levels : ℕ) (kept : ReadError) (r : Refused) → Stopped allowed (λ l. opening_at) s t kept r → Stopped allowed (λ l. opened_at levels) s t kept r
head_unopened allowed s levels kept r = stopped_map allowed (λ l. opening_at) (λ l. opened_at levels) s kept r (λ l bs e is. opened_stops levels bs e is)

-- after a tag's head
pub tag_found : {X : Type 0} (view : X → ℕ × Head) (allowed : ReadErrorCode → Bool) (s t u : Input) (levels n : ℕ) (kept : ReadError) (r : Result X Refused)
    → Step s t (λ l bs rest. (w : HeadWidth) × (opening_at bs ≡ Ok ((w, head.Tag n), rest))) → Gives {X = X} {A = ℕ × Head} allowed view (λ l. opened_inside levels) t u kept r → Gives {X = X} {A = ℕ × Head} allowed view (λ l. opened_at levels) s u kept r
tag_found view allowed s t u levels n kept (Ok x) one two =
    step_then s t u (λ l bs rest. (w : HeadWidth) × (opening_at bs ≡ Ok ((w, head.Tag n), rest))) (λ l bs rest. opened_inside levels bs ≡ Ok (view x, rest)) (λ l bs rest. opened_at levels bs ≡ Ok (view x, rest))
    (λ l bs mid rest p is. opened_in_tag levels n bs mid p.0 p.1 ∙ is) one two
tag_found view allowed s t u levels n kept (Err r) one two =
    stopped_then allowed (λ l. opened_inside levels) (λ l. opened_at levels) s t kept r (λ l bs rest. (w : HeadWidth) × (opening_at bs ≡ Ok ((w, head.Tag n), rest)))
    (λ l bs mid e p is. opened_in_tag levels n bs mid p.0 p.1 ∙ is) one two

pub tag_opened : (allowed : ReadErrorCode → Bool) (s t u : Input) (levels left n : ℕ) (kept : ReadError) (r : Result Head Refused)
    → Step s t (λ l bs rest. (w : HeadWidth) × (opening_at bs ≡ Ok ((w, head.Tag n), rest))) → Gives {X = Head} {A = ℕ × Head} allowed (λ h. (left, h)) (λ l. opened_inside levels) t u kept r → Gives {X = Head} {A = ℕ × Head} allowed (λ h. (left, h)) (λ l. opened_at levels) s u kept r
tag_opened allowed s t u levels left n kept r one two = tag_found (λ (h : Head). (left, h)) allowed s t u levels n kept r one two

-- one level further in
pub inside_opened : (allowed : ReadErrorCode → Bool) (s t u : Input) (levels next left : ℕ) (kept : ReadError) (r : Result Head Refused) → levels ≡ next + 1 → t ≡ s
    → Gives {X = Head} {A = ℕ × Head} allowed (λ h. (left, h)) (λ l. opened_at next) t u kept r → Gives {X = Head} {A = ℕ × Head} allowed (λ h. (left, h)) (λ l. opened_inside levels) s u kept r
inside_opened allowed s t u levels next left kept (Ok h) is at step =
    step_map s u (λ l bs rest. opened_at next bs ≡ Ok ((left, h), rest)) (λ l bs rest. opened_inside levels bs ≡ Ok ((left, h), rest))
    (λ l bs rest o. one_level_inside levels next bs is ∙ o) (subst (λ (x : Input). Step x u (λ l bs rest. opened_at next bs ≡ Ok ((left, h), rest))) at step)
inside_opened allowed s t u levels next left kept (Err r) is at stops =
    stopped_map allowed (λ l. opened_at next) (λ l. opened_inside levels) s kept r (λ l bs e o. one_level_inside levels next bs is ∙ o) (subst (λ (x : Input). Stopped allowed (λ l. opened_at next) x u kept r) at stops)
