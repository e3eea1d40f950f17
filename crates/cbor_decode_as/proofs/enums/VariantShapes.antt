-- Which enums are read.
use Rattle.std.proofs.Common.{◌≡◌, ◌∙◌, ◌||◌, ℕ, Bool, true, false, List, [], ◌∷◌, Result, Ok, Err, inr, refl, sym, ap, subst}
use Rattle.cbor_model.specs.Formats.{Formats}
use Rattle.cbor_model.specs.Head.{HeadWidth, no_bytes, one_byte, two_bytes, four_bytes, eight_bytes}
use Rattle.cbor_model.specs.Raw as raw
use Rattle.cbor_model.specs.Raw.{Raw, no_raws, no_raw_pairs, raw_pair, definite, indefinite}
use Rattle.cbor_model.specs.Readable.{untagged, PassesTags}
use Rattle.cbor_model.specs.Refusal.{unassigned_code}
use Rattle.cbor_model.specs.Reader.{Reads, ◌>>=◌, before, ended, byte_at, item_at}
use Rattle.cbor_read.specs.Source.{Input, TookSome}
use Rattle.cbor_io.specs.Error.{code_of, offset_of}
use Rattle.cbor_io.specs.declared.error.Error.{Error}
use Rattle.cbor_io.specs.declared.read_error.ReadErrorCode.{ReadErrorCode}
use Rattle.cbor_io.specs.declared.read_error.ReadError.{ReadError}
use Rattle.cbor_io.specs.declared.read_error.ReadErrorCode.TheVariants as reading
use Rattle.cbor_decode.specs.declared.refusal.Refused.{Refused}
use Rattle.cbor_decode.specs.declared.refusal.Refused.TheVariants as refused
use Rattle.cbor_decode.specs.Gives.{Limits, limits, Step, Stopped, IsAt}
use Rattle.cbor_decode.proofs.facts.Steps.{step_then, stopped_then, fault_stops}
use Rattle.cbor_decode_as.specs.Enums.{IsVariant, Content, reads_names}
use Rattle.cbor_decode_as.specs.Kinds.{kind_of}
use Rattle.cbor_decode_as.specs.Kinds as kind
use Rattle.cbor_decode_as.specs.Takes.{raws, IsNotRead, Refuses}
use Rattle.cbor_decode_as.specs.Variants.{IsVariantHead, HasShape, HasNoShape, HasNoTag, IsShaped, TakesShaped, RefusesShaped, TakesVariant, shape_of, reads_shape, unassigned_at, content_at}
use Rattle.cbor_decode_as.specs.Tags.{IsBehindTags}
use Rattle.cbor_decode_as.specs.declared.variant.Form.{Form}
use Rattle.cbor_decode_as.specs.declared.variant.Shape.{Shape}
use Rattle.cbor_decode_as.specs.declared.variant.Shape.TheVariants as shape
use Rattle.cbor_decode_as.specs.TaggedHeads.{in_tags, tagged}
use Rattle.cbor_decode_as.proofs.numbers.Scalars.{within_tags, untagged-tagged}
use Rattle.cbor_decode.proofs.facts.Heads.{item_opened}
use Rattle.cbor_decode_as.proofs.enums.VariantHeads.{array_first, map_first, unassigned_first}
use Rattle.cbor_decode_as.proofs.refused.Refusing.{refuses_map, refuses_then}

module _ (f : Formats) (names : List (List ℕ)) (levels : ℕ) (allowed : ReadErrorCode → Bool) (s a : Input) where
  module _ (x : Shape) (Where : List ℕ → Type 0) (on : (bs : List ℕ) → HasNoTag bs → HasShape x bs → Where bs) (shaped : Step s a (λ l bs rest. IsShaped x bs rest)) where
    -- after the look at the first byte
    pub shaped_then : (t : Input) (left : ℕ) (r : Result (ℕ × Form) Error) → TakesShaped Where allowed f names levels a t left r → TakesShaped HasNoTag allowed f names levels s t left r
    shaped_then t left (Ok v) h =
        step_then s a t (λ l bs rest. IsShaped x bs rest) (λ l bs rest. Where bs → IsVariantHead f names l (item_at (raws f l) levels bs) left v.0 v.1 rest) (λ l bs rest. HasNoTag bs → IsVariantHead f names l (item_at (raws f l) levels bs) left v.0 v.1 rest)
        (λ l bs mid rest is h none. subst (λ (from : List ℕ). IsVariantHead f names l (item_at (raws f l) levels from) left v.0 v.1 rest) is.1 (h (subst Where (sym is.1) (on bs none is.0)))) shaped h
    shaped_then t left (Err e) h =
        refuses_then allowed s (code_of e) (offset_of e) a (λ l bs rest. IsShaped x bs rest) (λ l bs. Where bs → IsNotRead (PassesTags (IsVariant f names)) (item_at (raws f l) levels bs)) (λ l bs. HasNoTag bs → IsNotRead (PassesTags (IsVariant f names)) (item_at (raws f l) levels bs))
        (λ l bs mid is h none. subst (λ (from : List ℕ). IsNotRead (PassesTags (IsVariant f names)) (item_at (raws f l) levels from)) is.1 (h (subst Where (sym is.1) (on bs none is.0)))) shaped h

-- ---- within tags

module _ (f : Formats) (names : List (List ℕ)) (levels left : ℕ) (s a : Input) (allowed : ReadErrorCode → Bool) (tags : Step s a (λ l bs rest. IsBehindTags f l (item_at (raws f l) levels bs) left rest)) where
  abbrev Tags : Limits → List ℕ → List ℕ → Type 0
  Tags l bs rest = IsBehindTags f l (item_at (raws f l) levels bs) left rest

  tagged_whole : (ts : List (HeadWidth × ℕ)) (read : Reads Content) (whole : Content → Raw) → in_tags ts (read >>= (λ c. Ok (whole c.0, c.1))) ≡ (read >>= (λ c. Ok (tagged ts (whole c.0), c.1)))
  tagged_whole ts (Ok x) whole = refl
  tagged_whole ts (Err e) whole = refl

  tagged_head : (l : Limits) (bs mid rest : List ℕ) (inner i : ℕ) (k : Form) → Tags l bs mid → IsVariantHead f names l (item_at (raws f l) left mid) inner i k rest → IsVariantHead f names l (item_at (raws f l) levels bs) inner i k rest
  tagged_head l bs mid rest inner i k t h = record {
    whole = λ c. tagged t.tags (h.whole c);
    is = t.is ∙ ap (in_tags t.tags) h.is ∙ tagged_whole t.tags (content_at f l inner k rest) h.whole;
    variant = λ c after is. subst (λ (r : Raw). IsVariant f names r (i, c)) (sym (untagged-tagged t.tags (h.whole c))) (h.variant c after is);
  }

  tagged_none : (l : Limits) (bs mid : List ℕ) → Tags l bs mid → IsNotRead (PassesTags (IsVariant f names)) (item_at (raws f l) left mid) → IsNotRead (PassesTags (IsVariant f names)) (item_at (raws f l) levels bs)
  tagged_none l bs mid t none v rest got =
      let w = within_tags t.tags (item_at (raws f l) left mid) got.item rest (sym t.is ∙ got.is) in
      let means : IsVariant f names (untagged (tagged t.tags w.item)) v = subst (λ (i : Raw). IsVariant f names (untagged i) v) w.wrapped got.means in
      none v rest (record { item = w.item; is = w.is; means = subst (λ (i : Raw). IsVariant f names i v) (untagged-tagged t.tags w.item) means })

  has_no_tag : (l : Limits) (bs mid : List ℕ) → Tags l bs mid → HasNoTag mid
  has_no_tag l bs mid t = t.none

  pub tags_then : (t : Input) (inner : ℕ) (r : Result (ℕ × Form) Error) → TakesShaped HasNoTag allowed f names left a t inner r → TakesVariant allowed f names levels s t inner r
  tags_then t inner (Ok v) h =
      step_then s a t Tags (λ l bs rest. HasNoTag bs → IsVariantHead f names l (item_at (raws f l) left bs) inner v.0 v.1 rest) (λ l bs rest. IsVariantHead f names l (item_at (raws f l) levels bs) inner v.0 v.1 rest)
      (λ l bs mid rest g h. tagged_head l bs mid rest inner v.0 v.1 g (h g.none)) tags h
  tags_then t inner (Err e) h =
      refuses_then allowed s (code_of e) (offset_of e) a Tags (λ l bs. HasNoTag bs → IsNotRead (PassesTags (IsVariant f names)) (item_at (raws f l) left bs)) (λ l bs. IsNotRead (PassesTags (IsVariant f names)) (item_at (raws f l) levels bs))
      (λ l bs mid g h. tagged_none l bs mid g (h g.none)) tags h

-- ---- what isn't read

module _ (f : Formats) (names : List (List ℕ)) where
  standard_or : f.standard_enums ≡ true → reads_names f ≡ true
  standard_or is = rw is refl

  legacy_or : (a b : Bool) → b ≡ true → (a || b) ≡ true
  legacy_or true b is = refl
  legacy_or false b is = is

  variant_read : (r : Raw) (v : ℕ × Content) → IsVariant f names r v → reads_names f ≡ true
  variant_read (raw.unsigned w n) v h = h.0
  variant_read (raw.negative w n) v h = h.0
  variant_read (raw.bytes c) v h = h.0
  variant_read (raw.text c) v h = h.0
  variant_read (raw.bytes_chunks cs) v h = h.0
  variant_read (raw.text_chunks cs) v h = h.0
  variant_read (raw.simple s) v h = h.0
  variant_read (raw.float w bits) v h = h.0
  variant_read (raw.tag w n r) v h = h.0
  variant_read (raw.array l no_raws) v h = h.0
  variant_read (raw.array l (raw.raw r rs)) v h = legacy_or f.standard_enums f.legacy_enums h.0
  variant_read (raw.map indefinite ps) v h = h.0
  variant_read (raw.map (definite one_byte) ps) v h = h.0
  variant_read (raw.map (definite two_bytes) ps) v h = h.0
  variant_read (raw.map (definite four_bytes) ps) v h = h.0
  variant_read (raw.map (definite eight_bytes) ps) v h = h.0
  variant_read (raw.map (definite no_bytes) no_raw_pairs) v h = h.0
  variant_read (raw.map (definite no_bytes) (raw_pair k x (raw_pair m y ps))) v h = h.0
  variant_read (raw.map (definite no_bytes) (raw_pair k x no_raw_pairs)) v h = standard_or h.0

  array_read : (r : Raw) (v : ℕ × Content) → kind_of r ≡ kind.array → IsVariant f names (untagged r) v → f.legacy_enums ≡ true
  array_read (raw.unsigned w n) v k h = absurd cc
  array_read (raw.negative w n) v k h = absurd cc
  array_read (raw.bytes c) v k h = absurd cc
  array_read (raw.text c) v k h = absurd cc
  array_read (raw.bytes_chunks cs) v k h = absurd cc
  array_read (raw.text_chunks cs) v k h = absurd cc
  array_read (raw.simple raw.false_item) v k h = absurd cc
  array_read (raw.simple raw.true_item) v k h = absurd cc
  array_read (raw.simple raw.null_item) v k h = absurd cc
  array_read (raw.simple raw.undefined_item) v k h = absurd cc
  array_read (raw.float w bits) v k h = absurd cc
  array_read (raw.tag w n r) v k h = absurd cc
  array_read (raw.map l ps) v k h = absurd cc
  array_read (raw.array l no_raws) v k h = absurd h.1.1
  array_read (raw.array l (raw.raw r rs)) v k h = h.0

  map_read : (r : Raw) (v : ℕ × Content) → kind_of r ≡ kind.map → IsVariant f names (untagged r) v → f.standard_enums ≡ true
  map_read (raw.unsigned w n) v k h = absurd cc
  map_read (raw.negative w n) v k h = absurd cc
  map_read (raw.bytes c) v k h = absurd cc
  map_read (raw.text c) v k h = absurd cc
  map_read (raw.bytes_chunks cs) v k h = absurd cc
  map_read (raw.text_chunks cs) v k h = absurd cc
  map_read (raw.simple raw.false_item) v k h = absurd cc
  map_read (raw.simple raw.true_item) v k h = absurd cc
  map_read (raw.simple raw.null_item) v k h = absurd cc
  map_read (raw.simple raw.undefined_item) v k h = absurd cc
  map_read (raw.float w bits) v k h = absurd cc
  map_read (raw.tag w n r) v k h = absurd cc
  map_read (raw.array l rs) v k h = absurd cc
  map_read (raw.map indefinite ps) v k h = absurd h.1.1
  map_read (raw.map (definite one_byte) ps) v k h = absurd h.1.1
  map_read (raw.map (definite two_bytes) ps) v k h = absurd h.1.1
  map_read (raw.map (definite four_bytes) ps) v k h = absurd h.1.1
  map_read (raw.map (definite eight_bytes) ps) v k h = absurd h.1.1
  map_read (raw.map (definite no_bytes) no_raw_pairs) v k h = absurd h.1.1
  map_read (raw.map (definite no_bytes) (raw_pair a x (raw_pair m y ps))) v k h = absurd h.1.1
  map_read (raw.map (definite no_bytes) (raw_pair a x no_raw_pairs)) v k h = h.0

  nothing_read : (l : Limits) (levels : ℕ) (r : Raw) (rest : List ℕ) → item_at (raws f l) levels [] ≡ Ok (r, rest) → ⊥
  unfolding byte_at
  nothing_read l levels r rest is = by (sym (item_opened (raws f l) levels []) ∙ is)
    where
      by : ◌≡◌ {A = Reads Raw} (Err ended) (Ok (r, rest)) → ⊥
      by e = absurd cc

  no_shape_read : (l : Limits) (levels : ℕ) (bs : List ℕ) → HasNoShape f bs → IsNotRead (PassesTags (IsVariant f names)) (item_at (raws f l) levels bs)
  no_shape_read l levels [] none v rest got = nothing_read l levels got.item rest got.is
  no_shape_read l levels (b ∷ bs) none v rest got = none (by (shape_of b) refl)
    where
      by : (x : Shape) → shape_of b ≡ x → reads_shape f (shape_of b) ≡ true
      by shape.Array is = rw is (array_read got.item v (array_first f l levels b bs rest got.item is got.is) got.means)
      by shape.Map is = rw is (map_read got.item v (map_first f l levels b bs rest got.item is got.is) got.means)
      by shape.Alone is = rw is (variant_read (untagged got.item) v got.means)
      by shape.Unassigned is = rw is refl

  pub no_shape : {w : Input} (allowed : ReadErrorCode → Bool) (levels : ℕ) (s : Input) (e : Error) → Refuses allowed s w (code_of e) (offset_of e) (λ l bs. HasNoShape f bs) → RefusesShaped HasNoTag allowed f names levels s w e
  no_shape allowed levels s e = refuses_map allowed s (code_of e) (offset_of e) (λ l bs. HasNoShape f bs) (λ l bs. HasNoTag bs → IsNotRead (PassesTags (IsVariant f names)) (item_at (raws f l) levels bs))
      (λ l bs none _. no_shape_read l levels bs none)

-- ---- where no item begins

-- a byte was taken that begins no item
pub unassigned_stops : (allowed : ReadErrorCode → Bool) (s a : Input) (b : ℕ) (kept : ReadError) (r : Refused) → r ≡ refused.Kept → IsAt reading.UnassignedCode a.offset kept → Step s a (λ l bs rest. byte_at bs ≡ Ok (b, rest)) → Stopped allowed (λ l. unassigned_at) s a kept r
unassigned_stops allowed s a b kept r is keeps step =
    stopped_then allowed none (λ l. unassigned_at) s a kept r (λ l bs rest. byte_at bs ≡ Ok (b, rest))
    (λ l bs mid f at stop. ap (λ (read : Reads ℕ). read >>= (λ x. Err (before unassigned_code x.1))) at ∙ stop) step
    (fault_stops allowed a none kept r reading.UnassignedCode unassigned_code (λ at end r h. h) (λ l bs. refl) is keeps)
  where
    none : Limits → List ℕ → Reads (Unit {0})
    none l bs = Err (before unassigned_code bs)

module _ (f : Formats) (names : List (List ℕ)) where
  pub unassigned_shape : (allowed : ReadErrorCode → Bool) (levels : ℕ) (s t : Input) (e : Error) → TookSome s t → RefusesShaped (HasShape shape.Unassigned) allowed f names levels s t e
  unassigned_shape allowed levels s t e took = record { took = took; reported = λ bs reports. inr (nothing (limits s bs) bs) }
    where
      nothing : (l : Limits) (bs : List ℕ) → HasShape shape.Unassigned bs → IsNotRead (PassesTags (IsVariant f names)) (item_at (raws f l) levels bs)
      nothing l [] has v rest got = has
      nothing l (b ∷ bs) has v rest got = unassigned_first f l levels b bs rest got.item has.0 got.is
