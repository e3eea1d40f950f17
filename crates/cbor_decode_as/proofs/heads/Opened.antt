-- The item after a head.
use Rattle.std.proofs.Common.{◌≡◌, ℕ, suc, ◌+◌, Bool, List, [], ◌∷◌, Some, Result, Ok, Err, OnOk, refl, sym, ap, subst, ◌∙◌, arith, length}
use Rattle.cbor_model.specs.Formats.{Formats}
use Rattle.cbor_model.specs.Head.{HeadWidth}
use Rattle.cbor_model.specs.Raw.{Raw}
use Rattle.cbor_model.specs.Refusal.{too_deep}
use Rattle.cbor_model.specs.Reader.{Fault, Reads, byte_at, tag_at, item_at, inside}
use Rattle.cbor_read.specs.Source.{Input}
use Rattle.cbor_io.specs.declared.read_error.ReadError.{ReadError}
use Rattle.cbor_io.specs.declared.read_error.ReadErrorCode.{ReadErrorCode}
use Rattle.cbor_decode.specs.Gives.{Limits, Advances, Step, Stopped}
use Rattle.cbor_decode.specs.Heads.{HeadGives, opening_at, head_at, behind_head}
use Rattle.cbor_decode.specs.declared.head.Head.{Head}
use Rattle.cbor_decode.specs.declared.head.Head.TheVariants as head
use Rattle.cbor_decode.specs.declared.refusal.Refused.{Refused}
use Rattle.cbor_decode.proofs.facts.Heads.{item_opened}
use Rattle.cbor_decode.proofs.facts.Steps.{advances_some, step_map, step_then, stopped_map, stopped_then}
use Rattle.cbor_decode_as.specs.Kinds.{head_kind}
use Rattle.cbor_decode_as.specs.Kinds as kind
use Rattle.cbor_decode_as.specs.Takes.{raws}
use Rattle.cbor_decode_as.specs.TaggedHeads.{in_tags, IsTaggedHead, item_inside, TakesTaggedHead, TakesItemHead}

-- ---- a head, and what is after it

pub untagged_same : (read : Reads Raw) → read ≡ in_tags [] read
untagged_same (Ok r) = refl
untagged_same (Err f) = refl

opens_here : (f : Formats) (l : Limits) (levels : ℕ) (bs rest : List ℕ) (w : HeadWidth) (h : Head) → (head_kind h ≡ kind.tag → ⊥) → opening_at bs ≡ Ok ((w, h), rest) → IsTaggedHead f l (item_at (raws f l) levels bs) levels h rest
opens_here f l levels bs rest w h inner is = record {
  tags = [];
  width = w;
  inner = inner;
  is = item_opened (raws f l) levels bs ∙ rw is (untagged_same (behind_head (raws f l) (inside (raws f l) levels) w h rest));
}

pub head_opens : (f : Formats) (s t : Input) (levels left : ℕ) (h : Head) → (head_kind h ≡ kind.tag → ⊥) → left ≡ levels → Step s t (λ l bs rest. (w : HeadWidth) × (opening_at bs ≡ Ok ((w, h), rest))) → Step s t (λ l bs rest. IsTaggedHead f l (item_at (raws f l) levels bs) left h rest)
head_opens f s t levels left h inner is step = step_map s t (λ l bs rest. (w : HeadWidth) × (opening_at bs ≡ Ok ((w, h), rest))) (λ l bs rest. IsTaggedHead f l (item_at (raws f l) levels bs) left h rest)
    (λ l bs rest p. subst (λ (n : ℕ). IsTaggedHead f l (item_at (raws f l) levels bs) n h rest) (sym is) (opens_here f l levels bs rest p.0 h inner p.1)) step

pub head_stops : {t : Input} (allowed : ReadErrorCode → Bool) (f : Formats) (s : Input) (levels : ℕ) (kept : ReadError) (r : Refused) → Stopped allowed (λ l. opening_at) s t kept r → Stopped allowed (λ l. item_at (raws f l) levels) s t kept r
head_stops allowed f s levels kept r h = stopped_map allowed (λ l. opening_at) (λ l. item_at (raws f l) levels) s kept r (λ l bs e is. item_opened (raws f l) levels bs ∙ rw is refl) h

-- the first byte of a head, and the rest of it
pub head_taken : (allowed : ReadErrorCode → Bool) (s t u : Input) (b : ℕ) (kept : ReadError) (r : Result Head Refused) → Step s t (λ l bs rest. byte_at bs ≡ Ok (b, rest)) → HeadGives allowed (head_at b) t u kept r → HeadGives allowed opening_at s u kept r
head_taken allowed s t u b kept (Ok h) first given =
    step_then s t u (λ l bs rest. byte_at bs ≡ Ok (b, rest)) (λ l bs rest. (w : HeadWidth) × (head_at b bs ≡ Ok ((w, h), rest))) (λ l bs rest. (w : HeadWidth) × (opening_at bs ≡ Ok ((w, h), rest)))
    (λ l bs mid rest here is. (is.0, rw here is.1)) first given
head_taken allowed s t u b kept (Err r) first given =
    stopped_then allowed (λ l. head_at b) (λ l. opening_at) s t kept r (λ l bs rest. byte_at bs ≡ Ok (b, rest)) (λ l bs mid f here is. rw here is) first given

-- a byte at the least is taken of it
pub head_advances : (allowed : ReadErrorCode → Bool) (read : List ℕ → Reads (HeadWidth × Head)) (s t u : Input) (kept : ReadError) (r : Result Head Refused) → Advances s t → HeadGives allowed read t u kept r → OnOk r (Advances s u)
head_advances allowed read s t u kept (Ok h) first step = advances_some s t u first step.took
head_advances allowed read s t u kept (Err r) first h = tt

-- and of what follows it no byte is given back
pub advances_on : {X W : Type 0} (s t u : Input) (r : Result X W) → Advances s t → OnOk r (Advances t u) → OnOk r (Advances s u)
advances_on s t u (Ok x) first h = record { further = omega (arith, first.further, h.further); counted = first.counted }
advances_on s t u (Err w) first h = tt

-- ---- after a tag

-- the item of a tag is the one inside
tag_read : (f : Formats) (l : Limits) (levels n : ℕ) (w : HeadWidth) (bs mid : List ℕ) → opening_at bs ≡ Ok ((w, head.Tag n), mid) → item_at (raws f l) levels bs ≡ in_tags ((w, n) ∷ []) (item_inside f l levels mid)
unfolding tag_at
tag_read f l levels n w bs mid is = item_opened (raws f l) levels bs ∙ rw is refl

pub one_more : (w : HeadWidth) (n : ℕ) (tags : List (HeadWidth × ℕ)) (read : Reads Raw) → in_tags ((w, n) ∷ []) (in_tags tags read) ≡ in_tags ((w, n) ∷ tags) read
one_more w n tags (Ok r) = refl
one_more w n tags (Err f) = refl

tag_opens : (f : Formats) (l : Limits) (levels left n : ℕ) (w : HeadWidth) (h : Head) (bs mid rest : List ℕ) → opening_at bs ≡ Ok ((w, head.Tag n), mid) → IsTaggedHead f l (item_inside f l levels mid) left h rest → IsTaggedHead f l (item_at (raws f l) levels bs) left h rest
tag_opens f l levels left n w h bs mid rest is o = record {
  tags = (w, n) ∷ o.tags;
  width = o.width;
  inner = o.inner;
  is = tag_read f l levels n w bs mid is ∙ rw o.is (one_more w n o.tags (behind_head (raws f l) (inside (raws f l) left) o.width h rest));
}

tag_stops : (f : Formats) (l : Limits) (levels n : ℕ) (w : HeadWidth) (bs mid : List ℕ) (e : Fault) → opening_at bs ≡ Ok ((w, head.Tag n), mid) → item_inside f l levels mid ≡ Err e → item_at (raws f l) levels bs ≡ Err e
tag_stops f l levels n w bs mid e is stops = tag_read f l levels n w bs mid is ∙ rw stops refl

pub behind_tag : (allowed : ReadErrorCode → Bool) (f : Formats) (s t u : Input) (levels left n : ℕ) (kept : ReadError) (r : Result Head Refused)
    → Step s t (λ l bs rest. (w : HeadWidth) × (opening_at bs ≡ Ok ((w, head.Tag n), rest))) → TakesTaggedHead allowed f (λ l. item_inside f l levels) t u left kept r → TakesTaggedHead allowed f (λ l. item_at (raws f l) levels) s u left kept r
behind_tag allowed f s t u levels left n kept (Ok h) one two =
    step_then s t u (λ l bs rest. (w : HeadWidth) × (opening_at bs ≡ Ok ((w, head.Tag n), rest))) (λ l bs rest. IsTaggedHead f l (item_inside f l levels bs) left h rest) (λ l bs rest. IsTaggedHead f l (item_at (raws f l) levels bs) left h rest)
    (λ l bs mid rest p o. tag_opens f l levels left n p.0 h bs mid rest p.1 o) one two
behind_tag allowed f s t u levels left n kept (Err r) one two =
    stopped_then allowed (λ l. item_inside f l levels) (λ l. item_at (raws f l) levels) s t kept r (λ l bs rest. (w : HeadWidth) × (opening_at bs ≡ Ok ((w, head.Tag n), rest)))
    (λ l bs mid e p stops. tag_stops f l levels n p.0 bs mid e p.1 stops) one two

-- ---- one level further in

inside_is : (f : Formats) (l : Limits) (levels left : ℕ) (bs : List ℕ) → levels ≡ left + 1 → item_inside f l levels bs ≡ item_at (raws f l) left bs
inside_is f l levels left bs is = ap (λ (n : ℕ). item_inside f l n bs) next
  where
    next : levels ≡ suc left
    next = omega (arith, is)

pub inside_too_deep : (f : Formats) (l : Limits) (levels : ℕ) (bs : List ℕ) → levels ≡ 0 → item_inside f l levels bs ≡ Err (record { why = too_deep; left = length bs })
inside_too_deep f l levels bs none = rw none refl

pub inside_opens : (allowed : ReadErrorCode → Bool) (f : Formats) (s t u : Input) (levels inner left : ℕ) (kept : ReadError) (r : Result Head Refused) → levels ≡ inner + 1 → t ≡ s
    → TakesTaggedHead allowed f (λ l. item_at (raws f l) inner) t u left kept r → TakesTaggedHead allowed f (λ l. item_inside f l levels) s u left kept r
inside_opens allowed f s t u levels inner left kept (Ok h) is at step =
    step_map s u (λ l bs rest. IsTaggedHead f l (item_at (raws f l) inner bs) left h rest) (λ l bs rest. IsTaggedHead f l (item_inside f l levels bs) left h rest)
    (λ l bs rest o. subst (λ (read : Reads Raw). IsTaggedHead f l read left h rest) (sym (inside_is f l levels inner bs is)) o) (subst (λ (x : Input). Step x u (λ l bs rest. IsTaggedHead f l (item_at (raws f l) inner bs) left h rest)) at step)
inside_opens allowed f s t u levels inner left kept (Err r) is at stops =
    stopped_map allowed (λ l. item_at (raws f l) inner) (λ l. item_inside f l levels) s kept r (λ l bs e stops. inside_is f l levels inner bs is ∙ stops) (subst (λ (x : Input). Stopped allowed (λ l. item_at (raws f l) inner) x u kept r) at stops)

-- ---- kinds

-- a head that is no tag
-- a short text is within no tag
pub text_opened : (allowed : ReadErrorCode → Bool) (f : Formats) (s t : Input) (levels n : ℕ) (kept : ReadError) → Step s t (λ l bs rest. (w : HeadWidth) × (opening_at bs ≡ Ok ((w, head.Text (Some n)), rest))) → TakesItemHead allowed f levels s t kept (Ok (head.Text (Some n)))
text_opened allowed f s t levels n kept step = (levels, head_opens f s t levels levels (head.Text (Some n)) (λ e. absurd cc) refl step)

pub no_tag : (h : Head) → ((n : ℕ) → h ≡ head.Tag n → ⊥) → head_kind h ≡ kind.tag → ⊥
no_tag (head.Unsigned n) other e = absurd cc
no_tag (head.Negative n) other e = absurd cc
no_tag (head.Bytes n) other e = absurd cc
no_tag (head.Text n) other e = absurd cc
no_tag (head.Array r) other e = absurd cc
no_tag (head.Map r) other e = absurd cc
no_tag (head.Tag n) other e = other n refl
no_tag (head.Bool b) other e = absurd cc
no_tag head.Null other e = absurd cc
no_tag head.Undefined other e = absurd cc
no_tag (head.Float f) other e = absurd cc
no_tag head.Break other e = absurd cc
