-- All tags of an item.
use Rattle.std.proofs.Common.{◌≡◌, ◌∙◌, ◌+◌, ◌/◌, ◌%◌, ◌<◌, ℕ, zero, suc, Bool, true, false, cond, List, [], ◌∷◌, Option, Some, None, Result, Ok, Err, refl, sym, ap, arith}
use Rattle.cbor_model.specs.Formats.{Formats}
use Rattle.cbor_model.specs.Head.{HeadWidth}
use Rattle.cbor_model.specs.Refusal.{too_deep}
use Rattle.cbor_model.specs.Reader.{before, Fault, Reads, Reading, ◌>>=◌, number_behind, width_of, item_at, inside, after_first, content_at, tag_at}
use Rattle.cbor_read.specs.Source.{Input}
use Rattle.cbor_io.specs.declared.read_error.ReadError.{ReadError}
use Rattle.cbor_io.specs.declared.read_error.ReadErrorCode.{ReadErrorCode}
use Rattle.cbor_decode.specs.Gives.{Limits, Step, Stopped, Gives}
use Rattle.cbor_decode.specs.declared.refusal.Refused.{Refused}
use Rattle.cbor_decode.proofs.facts.Steps.{step_map, step_then, stopped_map, stopped_then}
use Rattle.cbor_decode_as.specs.TaggedHeads.{in_tags}
use Rattle.cbor_decode_as.specs.Tags.{begins_tag, entered_at, tag_behind, tag_head_at, passed_by, passed_from, passed_at}
use Rattle.cbor_decode_as.specs.Takes.{raws}
use Rattle.cbor_decode_as.specs.Tags.{IsBehindTags, PassesAll}
use Rattle.cbor_decode_as.proofs.heads.Opened.{one_more}
use Rattle.cbor_decode_as.proofs.heads.TagHeads.{tag_is, tag_byte, item_first}

-- ---- a tag that can't be read

module _ {Item Items Pairs : Type 0} (m : Reading Item Items Pairs) where
  -- the head of a tag that isn't read
  tag_first : (inner : Option (List ℕ → Reads Item)) (b : ℕ) (mid : List ℕ) → b / 32 ≡ 6 → b % 32 < 28 → after_first m inner b mid ≡ (number_behind (b % 32) mid >>= (λ n. tag_at m inner (width_of (b % 32)) n.0 n.1))
  unfolding after_first content_at
  tag_first inner b mid six low = rw six refl

  not_entered : (levels : ℕ) (w : HeadWidth) (read : Reads ℕ) (e : Fault) → (read >>= (λ n. entered_at levels n.0 n.1)) ≡ Err e → (read >>= (λ n. tag_at m (inside m levels) w n.0 n.1)) ≡ Err e
  unfolding tag_at
  not_entered zero w (Ok x) e is = err (sym (err_is _ e is))
    where
      err_is : (x y : Fault) → ◌≡◌ {A = Reads (Option ℕ)} (Err x) (Err y) → x ≡ y
      err_is x y h = cc

      err : {x y : Fault} → y ≡ x → ◌≡◌ {A = Reads Item} (Err x) (Err y)
      err h = ap (λ (f : Fault). Err f) (sym h)
  not_entered (suc left) w (Ok x) e is = absurd cc
  not_entered levels w (Err f) e is = ap (λ (f : Fault). Err f) (err_is f e is)
    where
      err_is : (x y : Fault) → ◌≡◌ {A = Reads (Option ℕ)} (Err x) (Err y) → x ≡ y
      err_is x y h = cc

  pub tag_stops : (levels : ℕ) (bs : List ℕ) (e : Fault) → tag_head_at levels bs ≡ Err e → item_at m levels bs ≡ Err e
  tag_stops levels [] e is = absurd cc
  tag_stops levels (b ∷ mid) e is = by (begins_tag b) refl is
    where
      by : (t : Bool) → begins_tag b ≡ t → (cond {A = Reads (Option ℕ)} t (Ok (Some b, mid)) (Ok (None, b ∷ mid)) >>= (λ o. tag_behind levels o.0 o.1)) ≡ Err e → item_at m levels (b ∷ mid) ≡ Err e
      by true begins h =
          let byte = tag_byte b begins in
          item_first m levels b mid ∙ tag_first (inside m levels) b mid byte.0 byte.1 ∙ not_entered levels (width_of (b % 32)) (number_behind (b % 32) mid) e h
      by false begins h = absurd cc

pub tag_refused : {t : Input} (allowed : ReadErrorCode → Bool) (f : Formats) (s : Input) (levels : ℕ) (kept : ReadError) (r : Refused) → Stopped allowed (λ l. tag_head_at levels) s t kept r → Stopped allowed (λ l. item_at (raws f l) levels) s t kept r
tag_refused allowed f s levels kept r = stopped_map allowed (λ l. tag_head_at levels) (λ l. item_at (raws f l) levels) s kept r (λ l bs e is. tag_stops (raws f l) levels bs e is)

-- ---- a tag, and those within

module _ (f : Formats) (levels left n : ℕ) (one : levels ≡ left + 1) where
  abbrev IsTag : Limits → List ℕ → List ℕ → Type 0
  IsTag l bs rest = (w : HeadWidth) × (item_at (raws f l) levels bs ≡ in_tags ((w, n) ∷ []) (item_at (raws f l) left rest))

  tag_here : (l : Limits) (bs rest : List ℕ) (w : HeadWidth) → item_at (raws f l) levels bs ≡ tag_at (raws f l) (inside (raws f l) levels) w n rest → item_at (raws f l) levels bs ≡ in_tags ((w, n) ∷ []) (item_at (raws f l) left rest)
  unfolding tag_at
  tag_here l bs rest w is = is ∙ ap (λ (k : ℕ). tag_at (raws f l) (inside (raws f l) k) w n rest) next
    where
      next : levels ≡ suc left
      next = omega (arith, one)

  tag_step : (s t : Input) → Step s t (λ l bs rest. tag_head_at levels bs ≡ Ok (Some n, rest)) → Step s t IsTag
  tag_step s t step = step_map s t (λ l bs rest. (w : HeadWidth) × (item_at (raws f l) levels bs ≡ tag_at (raws f l) (inside (raws f l) levels) w n rest)) IsTag
      (λ l bs rest h. (h.0, tag_here l bs rest h.0 h.1)) (tag_is f levels s t (Some n) step)

  tags_here : (l : Limits) (inner : ℕ) (bs mid rest : List ℕ) → IsTag l bs mid → IsBehindTags f l (item_at (raws f l) left mid) inner rest → IsBehindTags f l (item_at (raws f l) levels bs) inner rest
  tags_here l inner bs mid rest t h = record {
    tags = (t.0, n) ∷ h.tags;
    is = t.1 ∙ rw h.is (one_more t.0 n h.tags (item_at (raws f l) inner rest));
    none = h.none;
  }

  pub tags_more : (allowed : ReadErrorCode → Bool) (s t u : Input) (inner : ℕ) (kept : ReadError) (r : Result (Unit {0}) Refused)
      → Step s t (λ l bs rest. tag_head_at levels bs ≡ Ok (Some n, rest)) → PassesAll allowed f left t u inner kept r → PassesAll allowed f levels s u inner kept r
  tags_more allowed s t u inner kept (Ok x) step h =
      step_then s t u IsTag (λ l bs rest. IsBehindTags f l (item_at (raws f l) left bs) inner rest) (λ l bs rest. IsBehindTags f l (item_at (raws f l) levels bs) inner rest)
      (λ l bs mid rest t h. tags_here l inner bs mid rest t h) (tag_step s t step) h
  tags_more allowed s t u inner kept (Err r) step h =
      stopped_then allowed (λ l. item_at (raws f l) left) (λ l. item_at (raws f l) levels) s t kept r IsTag
      (λ l bs mid e t stops. t.1 ∙ rw stops refl) (tag_step s t step) h

-- ---- all tags, whatever follows them

-- what is read one level further in
abbrev pub passing : ℕ → List ℕ → Reads ℕ
passing zero bs = Err (before too_deep bs)
passing (suc left) bs = passed_at left bs

abbrev after : ℕ → Reads (Option ℕ) → Reads ℕ
after levels read = read >>= (λ o. passed_by levels (passing levels) o.0 o.1)

pub passed_is : (levels : ℕ) (bs : List ℕ) → passed_at levels bs ≡ passed_from levels (passing levels) bs
unfolding passed_at
passed_is zero bs = refl
passed_is (suc left) bs = refl

one_passed : (levels left : ℕ) (mid : List ℕ) → levels ≡ left + 1 → passing levels mid ≡ passed_at left mid
one_passed levels left mid one = ap (λ (k : ℕ). passing k mid) next
  where
    next : levels ≡ suc left
    next = omega (arith, one)

-- no tag is at the front
pub pass_none : (s t : Input) (levels left : ℕ) → left ≡ levels → Step s t (λ l bs rest. tag_head_at levels bs ≡ Ok (None, rest)) → Step s t (λ l bs rest. passed_at levels bs ≡ Ok (left, rest))
pass_none s t levels left is = step_map s t (λ l bs rest. tag_head_at levels bs ≡ Ok (None, rest)) (λ l bs rest. passed_at levels bs ≡ Ok (left, rest))
    (λ l bs rest none. passed_is levels bs ∙ ap (after levels) none ∙ ap (λ (k : ℕ). Ok (k, rest)) (sym is))

pub pass_stopped : {t : Input} (allowed : ReadErrorCode → Bool) (s : Input) (levels : ℕ) (kept : ReadError) (r : Refused) → Stopped allowed (λ l. tag_head_at levels) s t kept r → Stopped allowed (λ l. passed_at levels) s t kept r
pass_stopped allowed s levels kept r = stopped_map allowed (λ l. tag_head_at levels) (λ l. passed_at levels) s kept r (λ l bs e is. passed_is levels bs ∙ ap (after levels) is)

pub pass_more : (allowed : ReadErrorCode → Bool) (s t u : Input) (levels left n inner : ℕ) (kept : ReadError) (r : Result (Unit {0}) Refused) → levels ≡ left + 1
    → Step s t (λ l bs rest. tag_head_at levels bs ≡ Ok (Some n, rest)) → Gives {X = Unit {0}} {A = ℕ} allowed (λ x. inner) (λ l. passed_at left) t u kept r → Gives {X = Unit {0}} {A = ℕ} allowed (λ x. inner) (λ l. passed_at levels) s u kept r
pass_more allowed s t u levels left n inner kept (Ok x) one step h =
    step_then s t u (λ l bs rest. tag_head_at levels bs ≡ Ok (Some n, rest)) (λ l bs rest. passed_at left bs ≡ Ok (inner, rest)) (λ l bs rest. passed_at levels bs ≡ Ok (inner, rest))
    (λ l bs mid rest tag is. passed_is levels bs ∙ ap (after levels) tag ∙ one_passed levels left mid one ∙ is) step h
pass_more allowed s t u levels left n inner kept (Err r) one step h =
    stopped_then allowed (λ l. passed_at left) (λ l. passed_at levels) s t kept r (λ l bs rest. tag_head_at levels bs ≡ Ok (Some n, rest))
    (λ l bs mid e tag is. passed_is levels bs ∙ ap (after levels) tag ∙ one_passed levels left mid one ∙ is) step h
