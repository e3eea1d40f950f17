-- Enums that begin with a short name, alone or in a map of one pair, which were at hand.
use Rattle.std.proofs.Common.{◌≡◌, ◌<◌, ◌^◌, ◌+◌, ℕ, zero, suc, Bool, true, List, [], ◌∷◌, ◌++◌, Ok, inl, inr, take, refl, sym, subst, arith, ltb}
use Rattle.std.proofs.lemmas.Bool.{lt-ltb}
use Rattle.cbor_model.specs.Formats.{Formats, may_begin_key}
use Rattle.cbor_model.specs.Reader.{byte_at, item_at, key_at}
use Rattle.cbor_io.specs.declared.read_error.ReadError.{ReadError}
use Rattle.cbor_io.specs.declared.read_error.ReadErrorCode.{ReadErrorCode}
use Rattle.cbor_read.specs.Source.{Input, TookKept}
use Rattle.cbor_decode.specs.Gives.{Limits, Step}
use Rattle.cbor_decode.proofs.Steps.{kept_step}
use Rattle.cbor_decode.proofs.facts.Steps.{step_map, step_then}
use Rattle.cbor_decode_as.specs.BeginsEnum.{BeginsInMap, BeginsVariant}
use Rattle.cbor_decode_as.specs.Enums.{IsName, reads_names}
use Rattle.cbor_decode_as.specs.Identifiers.{IsShortName}
use Rattle.cbor_decode_as.specs.MapAccesses.{key_front}
use Rattle.cbor_decode_as.specs.Tags.{passed_at}
use Rattle.cbor_decode_as.specs.Takes.{raws, IsRead}
use Rattle.cbor_decode_as.specs.Variants.{IsVariantHead, HasNoTag, HasShape, IsAlone, pair_head_at}
use Rattle.cbor_decode_as.specs.declared.variant.Form.TheVariants as form
use Rattle.cbor_decode_as.specs.declared.variant.Shape.TheVariants as shape
use Rattle.cbor_decode_as.proofs.enums.Variants.{alone_taken}
use Rattle.cbor_decode_as.proofs.enums.VariantPairs.{pair_here}
use Rattle.cbor_decode_as.proofs.texts.ShortNames.{short_name_taken}
use Rattle.cbor_decode_as.proofs.texts.ShortTexts.{between, head_took, content_took}

-- what holds of all that begins with the bytes that were taken
knowing : (s t : Input) (p : List ℕ) (Where : List ℕ → Type 0) (Q : Limits → List ℕ → List ℕ → Type 0) → TookKept s t p → ((rest : List ℕ) → Where (p ++ rest)) → Step s t (λ l bs rest. Where bs → Q l bs rest) → Step s t Q
knowing s t p Where Q took here step = record {
  took = step.took;
  reported = λ bs reports.
      let front = (kept_step s t p took).reported bs reports in
      let got = step.reported bs reports in
      record { rest = got.rest; reports = got.reports; total = got.total; holds = got.holds (subst Where (sym front.holds) (here front.rest)) };
}

-- ---- the tags before it: none

passed_none : (levels : ℕ) (bs : List ℕ) → HasNoTag bs → passed_at levels bs ≡ Ok (levels, bs)
unfolding passed_at
passed_none zero bs none = rw none refl
passed_none (suc left) bs none = rw none refl

-- ---- a name alone

-- Such bytes begin no array, no map and no tag.
record Plain (levels : ℕ) (bs : List ℕ) : Type 0 where
  alone : IsAlone bs
  passed : passed_at levels bs ≡ Ok (levels, bs)

plain_byte : (levels b : ℕ) (bs : List ℕ) → b < 128 → Plain levels (b ∷ bs)
plain_byte levels b bs low =
    let below : ltb b 0x80 ≡ true = lt-ltb b 0x80 low in
    let untagged : ltb b 0xc0 ≡ true = lt-ltb b 0xc0 (omega (arith, low)) in
    let none : HasNoTag (b ∷ bs) = rw untagged refl in
    let shaped : HasShape shape.Alone (b ∷ bs) = (rw below refl, omega (arith, low)) in
    record { alone = (none, shaped); passed = passed_none levels (b ∷ bs) none }

plain_name : (names : List (List ℕ)) (levels i : ℕ) (p : List ℕ) → IsShortName names p i → (rest : List ℕ) → Plain levels (p ++ rest)
plain_name names levels i [] h rest = absurd h
plain_name names levels i (b ∷ bs) (inl h) rest = plain_byte levels b (bs ++ rest) (omega (arith, h.0))
plain_name names levels i (b ∷ bs) (inr h) rest = plain_byte levels b (bs ++ rest) (omega (arith, h.0, h.1))

module _ (f : Formats) (names : List (List ℕ)) (allowed : ReadErrorCode → Bool) (levels : ℕ) (kept : ReadError) (s t : Input) (i : ℕ) (p : List ℕ) (name : IsShortName names p i) (took : TookKept s t p) (below : t.offset < 2 ^ 64) (read : reads_names f ≡ true) where
  pub name_taken : (left : ℕ) → left ≡ levels → Step s t (λ l bs rest. IsVariantHead f names l (item_at (raws f l) levels bs) left i form.Alone rest)
  name_taken left same =
      knowing s t p IsAlone (λ l bs rest. IsVariantHead f names l (item_at (raws f l) levels bs) left i form.Alone rest) took (λ rest. (plain_name names levels i p name rest).alone)
      (alone_taken f names levels left i s t same read (short_name_taken names allowed f levels kept s t i p name took below))

  pub name_begun : (left : ℕ) → left ≡ levels → Step s t (λ l bs rest. BeginsVariant f names l levels left i form.Alone bs rest)
  name_begun left same =
      knowing s t p (Plain levels) (λ l bs rest. BeginsVariant f names l levels left i form.Alone bs rest) took (plain_name names levels i p name)
      (step_map s t (λ l bs rest. IsRead (IsName names) (item_at (raws f l) levels bs) i rest) (λ l bs rest. Plain levels bs → BeginsVariant f names l levels left i form.Alone bs rest)
      (λ l bs rest name plain. record { inner = levels; start = bs; tags = plain.passed; begins = record { read = read; shape = plain.alone.1; level = same; name = name } })
      (short_name_taken names allowed f levels kept s t i p name took below))

-- ---- a map of one pair

-- The key may begin as it does.
abbrev pub MayBegin : Formats → List ℕ → Type 0
MayBegin f [] = ⊥
MayBegin f (b ∷ bs) = may_begin_key f b ≡ true

pub may_take : (f : Formats) (n : ℕ) (key behind : List ℕ) (b : ℕ) → key ≡ b ∷ behind → 0 < n → may_begin_key f b ≡ true → MayBegin f (take n key)
may_take f zero key behind b is some may = absurd (omega (arith, some))
may_take f (suc n) key behind b is some may = rw is may

front_here : (f : Formats) (key rest : List ℕ) → MayBegin f key → key_front f (key ++ rest) ≡ Ok (tt, key ++ rest)
unfolding key_at
front_here f [] rest may = absurd may
front_here f (b ∷ bs) rest may = rw may refl

head_here : (f : Formats) (left : ℕ) (bs : List ℕ) → key_front f bs ≡ Ok (tt, bs) → pair_head_at f (suc left) (0xa1 ∷ bs) ≡ Ok (tt, bs)
unfolding byte_at
head_here f left bs front = front

module _ (f : Formats) (names : List (List ℕ)) (allowed : ReadErrorCode → Bool) (levels left : ℕ) (kept : ReadError) (s t : Input) (i : ℕ) (key : List ℕ) (named : IsShortName names key i) (took : TookKept s t (0xa1 ∷ key)) (below : t.offset < 2 ^ 64) (standard : f.standard_enums ≡ true) (may : MayBegin f key) (one : levels ≡ left + 1) where
  next : levels ≡ suc left
  next = omega (arith, one)

  -- the key, and that it may begin so
  record Keyed (l : Limits) (bs rest : List ℕ) : Type 0 where
    front : key_front f bs ≡ Ok (tt, bs)
    name : IsRead (IsName names) (item_at (raws f l) left bs) i rest

  key_taken : Step (between s t 0xa1 key took) t Keyed
  key_taken =
      let m = between s t 0xa1 key took in
      let behind = content_took s t 0xa1 key took in
      knowing m t key (λ bs. key_front f bs ≡ Ok (tt, bs)) Keyed behind (λ rest. front_here f key rest may)
      (step_map m t (λ l bs rest. IsRead (IsName names) (item_at (raws f l) left bs) i rest) (λ l bs rest. key_front f bs ≡ Ok (tt, bs) → Keyed l bs rest)
      (λ l bs rest name front. record { front = front; name = name }) (short_name_taken names allowed f left kept m t i key named behind below))

  pub pair_taken : Step s t (λ l bs rest. IsVariantHead f names l (item_at (raws f l) levels bs) left i form.Map rest)
  pair_taken =
      let m = between s t 0xa1 key took in
      step_then s m t (λ l bs rest. bs ≡ (0xa1 ∷ []) ++ rest) Keyed (λ l bs rest. IsVariantHead f names l (item_at (raws f l) levels bs) left i form.Map rest)
      (λ l bs mid rest is k. rw (next, is) (pair_here f names l left mid mid rest i standard k.front k.name))
      (kept_step s m (0xa1 ∷ []) (head_took s t 0xa1 key took)) key_taken

  begins_here : (l : Limits) (mid rest : List ℕ) → Keyed l mid rest → BeginsVariant f names l (suc left) left i form.Map (0xa1 ∷ mid) rest
  begins_here l mid rest k =
      let none : HasNoTag (0xa1 ∷ mid) = refl in
      let begins : BeginsInMap f names l (suc left) left i (0xa1 ∷ mid) rest = record { read = standard; shape = (refl, omega arith); level = omega arith; key = mid; head = head_here f left mid k.front; name = k.name } in
      record { inner = suc left; start = 0xa1 ∷ mid; tags = passed_none (suc left) (0xa1 ∷ mid) none; begins = begins }

  pub pair_begun : Step s t (λ l bs rest. BeginsVariant f names l levels left i form.Map bs rest)
  pair_begun =
      let m = between s t 0xa1 key took in
      step_then s m t (λ l bs rest. bs ≡ (0xa1 ∷ []) ++ rest) Keyed (λ l bs rest. BeginsVariant f names l levels left i form.Map bs rest)
      (λ l bs mid rest is k. rw (next, is) (begins_here l mid rest k))
      (kept_step s m (0xa1 ∷ []) (head_took s t 0xa1 key took)) key_taken
