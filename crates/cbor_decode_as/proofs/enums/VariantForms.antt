-- The beginning of an enum, whatever follows it.
use Rattle.std.proofs.Common.{◌≡◌, ℕ, ◌+◌, Bool, true, List, [], ◌∷◌, Option, Some, Result, Ok, Err, inr, refl, sym, ap, subst, ◌∙◌, arith}
use Rattle.cbor_model.specs.Formats.{Formats}
use Rattle.cbor_model.specs.Refusal.{end_in_array}
use Rattle.cbor_model.specs.Reader.{next_at, item_at}
use Rattle.cbor_model.specs.Reader as reader
use Rattle.cbor_model.proofs.facts.Reader.{ok_is}
use Rattle.cbor_read.specs.Source.{Input, TookSome}
use Rattle.cbor_io.specs.Error.{code_of, offset_of}
use Rattle.cbor_io.specs.declared.error.Error.{Error}
use Rattle.cbor_io.specs.declared.read_error.ReadError.{ReadError}
use Rattle.cbor_io.specs.declared.read_error.ReadErrorCode.{ReadErrorCode}
use Rattle.cbor_decode.specs.Gives.{Limits, limits, Step, Stopped, IsErrorOf}
use Rattle.cbor_decode.specs.Heads.{remaining_of}
use Rattle.cbor_decode.specs.declared.cursor.Remaining.{Remaining}
use Rattle.cbor_decode.specs.declared.head.Head.{Head}
use Rattle.cbor_decode.specs.declared.head.Head.TheVariants.{Array}
use Rattle.cbor_decode.specs.declared.refusal.Refused.{Refused}
use Rattle.cbor_decode.proofs.facts.Steps.{step_same, step_map, step_then}
use Rattle.cbor_decode_as.specs.Tags.{passed_at}
use Rattle.cbor_decode_as.specs.Takes.{raws, IsRead, IsNotRead, Refuses}
use Rattle.cbor_decode_as.specs.Begins.{Begins, NoneBegins, RefusesBeginning, TakesBeginning}
use Rattle.cbor_decode_as.specs.BeginsEnum.{BeginsInArray, BeginsInMap, BeginsAlone, BeginsForm, NoForm, TakesForm, TakesFormOf, BeginsVariant, NoVariant, RefusesVariantHead, TakesVariantHead, BeginsParts, TakesPartsHead}
use Rattle.cbor_decode_as.specs.Enums.{IsName, reads_names}
use Rattle.cbor_decode_as.specs.Variants.{HasShape, HasNoShape, IsShaped, reads_shape, pair_head_at}
use Rattle.cbor_decode_as.specs.declared.variant.Form.{Form}
use Rattle.cbor_decode_as.specs.declared.variant.Form.TheVariants as form
use Rattle.cbor_decode_as.specs.declared.variant.Shape.{Shape}
use Rattle.cbor_decode_as.specs.declared.variant.Shape.TheVariants as shape
use Rattle.cbor_decode_as.proofs.arrays.Begins.{fault_read}
use Rattle.cbor_decode_as.proofs.refused.Refusing.{refuses_map, refuses_then, refuses_stopped}

-- ---- one shape, one form

other_shape : (x y : Shape) (bs : List ℕ) → HasShape x bs → HasShape y bs → (x ≡ y → ⊥) → ⊥
other_shape x y [] h k differ = h
other_shape x y (b ∷ bs) h k differ = differ (sym h.0 ∙ k.0)

module _ (f : Formats) (names : List (List ℕ)) (l : Limits) (levels : ℕ) (bs : List ℕ) where
  array_only : HasShape shape.Array bs → ((left i : ℕ) (r : Remaining) (rest : List ℕ) → BeginsInArray f names l levels left i r bs rest → ⊥) → NoForm f names l levels bs
  array_only shaped none left i (form.Array r) rest h = none left i r rest h
  array_only shaped none left i form.Map rest h = other_shape shape.Array shape.Map bs shaped h.shape (λ e. cc)
  array_only shaped none left i form.Alone rest h = other_shape shape.Array shape.Alone bs shaped h.shape (λ e. cc)

  map_only : HasShape shape.Map bs → ((left i : ℕ) (rest : List ℕ) → BeginsInMap f names l levels left i bs rest → ⊥) → NoForm f names l levels bs
  map_only shaped none left i (form.Array r) rest h = other_shape shape.Map shape.Array bs shaped h.shape (λ e. cc)
  map_only shaped none left i form.Map rest h = none left i rest h
  map_only shaped none left i form.Alone rest h = other_shape shape.Map shape.Alone bs shaped h.shape (λ e. cc)

  alone_only : HasShape shape.Alone bs → ((left i : ℕ) (rest : List ℕ) → BeginsAlone f names l levels left i bs rest → ⊥) → NoForm f names l levels bs
  alone_only shaped none left i (form.Array r) rest h = other_shape shape.Alone shape.Array bs shaped h.shape (λ e. cc)
  alone_only shaped none left i form.Map rest h = other_shape shape.Alone shape.Map bs shaped h.shape (λ e. cc)
  alone_only shaped none left i form.Alone rest h = none left i rest h

  none_unassigned : HasShape shape.Unassigned bs → NoForm f names l levels bs
  none_unassigned shaped left i (form.Array r) rest h = other_shape shape.Unassigned shape.Array bs shaped h.shape (λ e. cc)
  none_unassigned shaped left i form.Map rest h = other_shape shape.Unassigned shape.Map bs shaped h.shape (λ e. cc)
  none_unassigned shaped left i form.Alone rest h = other_shape shape.Unassigned shape.Alone bs shaped h.shape (λ e. cc)

-- a shape that isn't read
shape_unread : (f : Formats) (x : Shape) (bs : List ℕ) → HasNoShape f bs → HasShape x bs → reads_shape f x ≡ true → ⊥
shape_unread f x [] none shaped reads = shaped
shape_unread f x (b ∷ bs) none shaped reads = none (ap (reads_shape f) shaped.0 ∙ reads)

no_form : (f : Formats) (names : List (List ℕ)) (l : Limits) (levels : ℕ) (bs : List ℕ) → HasNoShape f bs → NoForm f names l levels bs
no_form f names l levels bs none left i (form.Array r) rest h = shape_unread f shape.Array bs none h.shape h.read
no_form f names l levels bs none left i form.Map rest h = shape_unread f shape.Map bs none h.shape h.read
no_form f names l levels bs none left i form.Alone rest h = shape_unread f shape.Alone bs none h.shape h.read

-- ---- an array

-- the head of an array is one
module _ (levels left more : ℕ) (all many : Remaining) (bs items others : List ℕ) (is : Begins Array levels left all bs items) (also : Begins Array levels more many bs others) where
  both : ◌≡◌ {A = (ℕ × Head) × List ℕ} ((left + 1, Array all), items) ((more + 1, Array many), others)
  both = ok_is ((left + 1, Array all), items) ((more + 1, Array many), others) (sym is ∙ also)

  same_left : left ≡ more
  same_left =
      let e = ap (λ (p : (ℕ × Head) × List ℕ). p.0.0) both in
      omega (arith, e)

  same_all : all ≡ many
  same_all = array_is all many (ap (λ (p : (ℕ × Head) × List ℕ). p.0.1) both)
    where
      array_is : (x y : Remaining) → Array x ≡ Array y → x ≡ y
      array_is x y e = cc

  same_items : items ≡ others
  same_items = ap (λ (p : (ℕ × Head) × List ℕ). p.1) both

abbrev NextAt : Remaining → List ℕ → reader.Remaining → List ℕ → Type 0
NextAt all bs behind rest = next_at end_in_array (remaining_of all) bs ≡ Ok (Some behind, rest)

module _ (f : Formats) (names : List (List ℕ)) (levels : ℕ) (s : Input) where
  abbrev NoArray : Limits → List ℕ → Type 0
  NoArray l bs = HasShape shape.Array bs → NoForm f names l levels bs

  pub array_refused : {w : Input} (allowed : ReadErrorCode → Bool) (e : Error) → RefusesBeginning Array allowed levels s w e → Refuses allowed s w (code_of e) (offset_of e) NoArray
  array_refused allowed e = refuses_map allowed s (code_of e) (offset_of e) (λ l bs. NoneBegins Array levels bs) NoArray
      (λ l bs none shaped. array_only f names l levels bs shaped (λ left i r rest h. none left h.all h.items h.head))

  module _ (a : Input) (left : ℕ) (all : Remaining) (head : Step s a (λ l bs rest. Begins Array levels left all bs rest)) where
    pub empty_refused : {w : Input} (allowed : ReadErrorCode → Bool) (e : Error) → Refuses allowed a w (code_of e) (offset_of e) (λ l bs. (behind : reader.Remaining) (rest : List ℕ) → NextAt all bs behind rest → ⊥) → Refuses allowed s w (code_of e) (offset_of e) NoArray
    empty_refused allowed e = refuses_then allowed s (code_of e) (offset_of e) a (λ l bs rest. Begins Array levels left all bs rest) (λ l bs. (behind : reader.Remaining) (rest : List ℕ) → NextAt all bs behind rest → ⊥) NoArray
        (λ l bs mid head none shaped. array_only f names l levels bs shaped (λ more i r rest h.
        let next = subst (λ (x : Remaining). NextAt x h.items (remaining_of r) h.first) (sym (same_all levels left more all h.all bs mid h.items head h.head)) h.next in
        none (remaining_of r) h.first (subst (λ (x : List ℕ). NextAt all x (remaining_of r) h.first) (sym (same_items levels left more all h.all bs mid h.items head h.head)) next))) head

    -- the head, and the first item
    record First (behind : Remaining) (l : Limits) (bs rest : List ℕ) : Type 0 where
      items : List ℕ
      begins : Begins Array levels left all bs items
      next : NextAt all items (remaining_of behind) rest

    module _ (b : Input) (behind : Remaining) (next : Step a b (λ l bs rest. NextAt all bs (remaining_of behind) rest)) where
      to_first : Step s b (First behind)
      to_first = step_then s a b (λ l bs rest. Begins Array levels left all bs rest) (λ l bs rest. NextAt all bs (remaining_of behind) rest) (First behind)
          (λ l bs mid rest head next. record { items = mid; begins = head; next = next }) head next

      unnamed_here : (l : Limits) (bs mid : List ℕ) → First behind l bs mid → IsNotRead (IsName names) (item_at (raws f l) left mid) → NoArray l bs
      unnamed_here l bs mid at none shaped = array_only f names l levels bs shaped (λ more i r rest h.
          let next = subst (λ (x : Remaining). NextAt x h.items (remaining_of r) h.first) (sym (same_all levels left more all h.all bs at.items h.items at.begins h.head)) h.next in
          let here = subst (λ (x : List ℕ). NextAt all x (remaining_of r) h.first) (sym (same_items levels left more all h.all bs at.items h.items at.begins h.head)) next in
          let first = ap (λ (p : Option reader.Remaining × List ℕ). p.1) (ok_is (Some (remaining_of behind), mid) (Some (remaining_of r), h.first) (sym at.next ∙ here)) in
          let name = subst (λ (n : ℕ). IsRead (IsName names) (item_at (raws f l) n h.first) i rest) (sym (same_left levels left more all h.all bs at.items h.items at.begins h.head)) h.name in
          none i rest (subst (λ (x : List ℕ). IsRead (IsName names) (item_at (raws f l) left x) i rest) (sym first) name))

      pub unnamed_refused : {w : Input} (allowed : ReadErrorCode → Bool) (e : Error) → Refuses allowed b w (code_of e) (offset_of e) (λ l bs. IsNotRead (IsName names) (item_at (raws f l) left bs)) → Refuses allowed s w (code_of e) (offset_of e) NoArray
      unnamed_refused allowed e = refuses_then allowed s (code_of e) (offset_of e) b (First behind) (λ l bs. IsNotRead (IsName names) (item_at (raws f l) left bs)) NoArray
          (λ l bs mid at none. unnamed_here l bs mid at none) to_first

      pub array_begun : (t : Input) (outer i : ℕ) → outer ≡ left → f.legacy_enums ≡ true → Step b t (λ l bs rest. IsRead (IsName names) (item_at (raws f l) left bs) i rest)
          → Step s t (λ l bs rest. HasShape shape.Array bs → BeginsForm f names l levels outer i (form.Array behind) bs rest)
      array_begun t outer i same legacy name =
          step_then s b t (First behind) (λ l bs rest. IsRead (IsName names) (item_at (raws f l) left bs) i rest) (λ l bs rest. HasShape shape.Array bs → BeginsForm f names l levels outer i (form.Array behind) bs rest)
          (λ l bs mid rest at name shaped. subst (λ (n : ℕ). BeginsInArray f names l levels n i behind bs rest) (sym same)
          (record { read = legacy; shape = shaped; all = all; items = at.items; head = at.begins; first = mid; next = at.next; name = name })) to_first name

-- ---- a map of one pair, and an identifier alone

module _ (f : Formats) (names : List (List ℕ)) (levels : ℕ) (s : Input) where
  abbrev NoMap : Limits → List ℕ → Type 0
  NoMap l bs = HasShape shape.Map bs → NoForm f names l levels bs

  pub pair_refused : {w : Input} (allowed : ReadErrorCode → Bool) (kept : ReadError) (r : Refused) (e : Error) → IsErrorOf kept r e → Stopped allowed (λ l. pair_head_at f levels) s w kept r → Refuses allowed s w (code_of e) (offset_of e) NoMap
  pair_refused allowed kept r e = refuses_stopped allowed (λ l. pair_head_at f levels) s kept r e NoMap
      (λ l bs fault stops shaped. map_only f names l levels bs shaped (λ left i rest h. fault_read (pair_head_at f levels bs) (tt, h.key) fault stops h.head))

  module _ (a : Input) (left : ℕ) (one : levels ≡ left + 1) (head : Step s a (λ l bs rest. pair_head_at f levels bs ≡ Ok (tt, rest))) where
    key_here : (l : Limits) (bs mid : List ℕ) → pair_head_at f levels bs ≡ Ok (tt, mid) → IsNotRead (IsName names) (item_at (raws f l) left mid) → NoMap l bs
    key_here l bs mid at none shaped = map_only f names l levels bs shaped (λ more i rest h.
        let key = ap (λ (p : Unit {0} × List ℕ). p.1) (ok_is (tt, mid) (tt, h.key) (sym at ∙ h.head)) in
        let level : more ≡ left = omega (arith, one, h.level) in
        let name = subst (λ (n : ℕ). IsRead (IsName names) (item_at (raws f l) n h.key) i rest) level h.name in
        none i rest (subst (λ (x : List ℕ). IsRead (IsName names) (item_at (raws f l) left x) i rest) (sym key) name))

    pub key_refused : {w : Input} (allowed : ReadErrorCode → Bool) (e : Error) → Refuses allowed a w (code_of e) (offset_of e) (λ l bs. IsNotRead (IsName names) (item_at (raws f l) left bs)) → Refuses allowed s w (code_of e) (offset_of e) NoMap
    key_refused allowed e = refuses_then allowed s (code_of e) (offset_of e) a (λ l bs rest. pair_head_at f levels bs ≡ Ok (tt, rest)) (λ l bs. IsNotRead (IsName names) (item_at (raws f l) left bs)) NoMap
        (λ l bs mid at none. key_here l bs mid at none) head

    pub map_begun : (t : Input) (outer i : ℕ) → outer ≡ left → f.standard_enums ≡ true → Step a t (λ l bs rest. IsRead (IsName names) (item_at (raws f l) left bs) i rest)
        → Step s t (λ l bs rest. HasShape shape.Map bs → BeginsForm f names l levels outer i form.Map bs rest)
    map_begun t outer i same standard name =
        step_then s a t (λ l bs rest. pair_head_at f levels bs ≡ Ok (tt, rest)) (λ l bs rest. IsRead (IsName names) (item_at (raws f l) left bs) i rest) (λ l bs rest. HasShape shape.Map bs → BeginsForm f names l levels outer i form.Map bs rest)
        (λ l bs mid rest at name shaped. subst (λ (n : ℕ). BeginsInMap f names l levels n i bs rest) (sym same)
        (record { read = standard; shape = shaped; level = one; key = mid; head = at; name = name })) head name

  pub alone_refused : {w : Input} (allowed : ReadErrorCode → Bool) (e : Error) → Refuses allowed s w (code_of e) (offset_of e) (λ l bs. IsNotRead (IsName names) (item_at (raws f l) levels bs)) → Refuses allowed s w (code_of e) (offset_of e) (λ l bs. HasShape shape.Alone bs → NoForm f names l levels bs)
  alone_refused allowed e = refuses_map allowed s (code_of e) (offset_of e) (λ l bs. IsNotRead (IsName names) (item_at (raws f l) levels bs)) (λ l bs. HasShape shape.Alone bs → NoForm f names l levels bs)
      (λ l bs none shaped. alone_only f names l levels bs shaped (λ left i rest h. none i rest h.name))

  pub alone_begun : (t : Input) (left i : ℕ) → left ≡ levels → reads_names f ≡ true → Step s t (λ l bs rest. IsRead (IsName names) (item_at (raws f l) levels bs) i rest)
      → Step s t (λ l bs rest. HasShape shape.Alone bs → BeginsForm f names l levels left i form.Alone bs rest)
  alone_begun t left i same reads = step_map s t (λ l bs rest. IsRead (IsName names) (item_at (raws f l) levels bs) i rest) (λ l bs rest. HasShape shape.Alone bs → BeginsForm f names l levels left i form.Alone bs rest)
      (λ l bs rest name shaped. record { read = reads; shape = shaped; level = same; name = name })

-- ---- the shape, and the tags before it

module _ (allowed : ReadErrorCode → Bool) (f : Formats) (names : List (List ℕ)) (levels : ℕ) (s a : Input) where
  pub form_refused : (e : Error) → Refuses allowed s a (code_of e) (offset_of e) (λ l bs. HasNoShape f bs) → TakesForm allowed f names levels s a levels (Err e)
  form_refused e = refuses_map allowed s (code_of e) (offset_of e) (λ l bs. HasNoShape f bs) (λ l bs. NoForm f names l levels bs) (λ l bs none. no_form f names l levels bs none)

  pub form_then : (x : Shape) → Step s a (λ l bs rest. IsShaped x bs rest) → (t : Input) (left : ℕ) (r : Result (ℕ × Form) Error) → TakesFormOf x allowed f names levels a t left r → TakesForm allowed f names levels s t left r
  form_then x shaped t left (Ok v) h =
      step_then s a t (λ l bs rest. IsShaped x bs rest) (λ l bs rest. HasShape x bs → BeginsForm f names l levels left v.0 v.1 bs rest) (λ l bs rest. BeginsForm f names l levels left v.0 v.1 bs rest)
      (λ l bs mid rest is h. subst (λ (from : List ℕ). BeginsForm f names l levels left v.0 v.1 from rest) is.1 (h (subst (HasShape x) (sym is.1) is.0))) shaped h
  form_then x shaped t left (Err e) h =
      refuses_then allowed s (code_of e) (offset_of e) a (λ l bs rest. IsShaped x bs rest) (λ l bs. HasShape x bs → NoForm f names l levels bs) (λ l bs. NoForm f names l levels bs)
      (λ l bs mid is h. subst (NoForm f names l levels) is.1 (h (subst (HasShape x) (sym is.1) is.0))) shaped h

  pub unassigned_form : (left : ℕ) (e : Error) → TookSome s a → TakesFormOf shape.Unassigned allowed f names levels s a left (Err e)
  unassigned_form left e took = record { took = took; reported = λ bs reports. inr (none_unassigned f names (limits s bs) levels bs) }

  pub tags_refused : {w : Input} (kept : ReadError) (r : Refused) (e : Error) → IsErrorOf kept r e → Stopped allowed (λ l. passed_at levels) s w kept r → RefusesVariantHead allowed f names levels s w e
  tags_refused kept r e = refuses_stopped allowed (λ l. passed_at levels) s kept r e (λ l bs. NoVariant f names l levels bs)
      (λ l bs fault stops left i form rest h. fault_read (passed_at levels bs) (h.inner, h.start) fault stops h.tags)

  pub variant_then : (inner : ℕ) → Step s a (λ l bs rest. passed_at levels bs ≡ Ok (inner, rest)) → (t : Input) (left : ℕ) (r : Result (ℕ × Form) Error) → TakesForm allowed f names inner a t left r → TakesVariantHead allowed f names levels s t left r
  variant_then inner tags t left (Ok v) h =
      step_then s a t (λ l bs rest. passed_at levels bs ≡ Ok (inner, rest)) (λ l bs rest. BeginsForm f names l inner left v.0 v.1 bs rest) (λ l bs rest. BeginsVariant f names l levels left v.0 v.1 bs rest)
      (λ l bs mid rest tags begins. record { inner = inner; start = mid; tags = tags; begins = begins }) tags h
  variant_then inner tags t left (Err e) h =
      refuses_then allowed s (code_of e) (offset_of e) a (λ l bs rest. passed_at levels bs ≡ Ok (inner, rest)) (λ l bs. NoForm f names l inner bs) (λ l bs. NoVariant f names l levels bs)
      (λ l bs mid tags none left i k rest h.
      let both = ok_is (inner, mid) (h.inner, h.start) (sym tags ∙ h.tags) in
      let level = subst (λ (n : ℕ). BeginsForm f names l n left i k h.start rest) (sym (ap (λ (p : ℕ × List ℕ). p.0) both)) h.begins in
      none left i k rest (subst (λ (x : List ℕ). BeginsForm f names l inner left i k x rest) (sym (ap (λ (p : ℕ × List ℕ). p.1) both)) level)) tags h

-- ---- the parts

-- nothing is taken before the parts of the enum's array
pub parts_begun : (levels : ℕ) (remaining : Remaining) (s : Input) → Step s s (λ l bs rest. BeginsParts levels (form.Array remaining) levels remaining bs rest)
parts_begun levels remaining s = step_same s (λ l bs rest. BeginsParts levels (form.Array remaining) levels remaining bs rest) (λ l bs. (refl, refl, refl))

pub parts_in_map : (allowed : ReadErrorCode → Bool) (levels left : ℕ) (s t : Input) (r : Result Remaining Error) → TakesBeginning Array allowed levels s t left r → TakesPartsHead allowed levels form.Map s t left r
parts_in_map allowed levels left s t (Ok remaining) h = h
parts_in_map allowed levels left s t (Err e) h = h

pub alone_has_none : (allowed : ReadErrorCode → Bool) (levels : ℕ) (s t : Input) (left : ℕ) (e : Error) → TookSome s t → TakesPartsHead allowed levels form.Alone s t left (Err e)
alone_has_none allowed levels s t left e took = record { took = took; reported = λ bs reports. inr (λ left r rest h. h) }
