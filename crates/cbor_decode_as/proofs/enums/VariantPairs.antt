-- Enums that are a map of one pair.
use Rattle.std.proofs.Common.{◌≡◌, ◌∙◌, ◌+◌, ℕ, zero, suc, Bool, true, false, List, [], ◌∷◌, Ok, Err, refl, sym, ap, subst, arith}
use Rattle.cbor_model.specs.Formats.{Formats, may_begin_key}
use Rattle.cbor_model.specs.Head.{no_bytes}
use Rattle.cbor_model.specs.Raw as raw
use Rattle.cbor_model.specs.Raw.{Raw, RawPairs, no_raw_pairs, raw_pair, definite}
use Rattle.cbor_model.specs.Readable.{untagged, PassesTags}
use Rattle.cbor_model.specs.Reader.{Fault, Reads, ◌>>=◌, byte_at, number_behind, after_first, content_at, item_at, item_by, map_at, parts_by, pair_at, next_at, key_at}
use Rattle.cbor_model.proofs.facts.Reader.{ok_is}
use Rattle.cbor_read.specs.Source.{Input}
use Rattle.cbor_io.specs.Error.{code_of, offset_of}
use Rattle.cbor_io.specs.declared.error.Error.{Error}
use Rattle.cbor_io.specs.declared.read_error.ReadError.{ReadError}
use Rattle.cbor_io.specs.declared.read_error.ReadErrorCode.{ReadErrorCode}
use Rattle.cbor_decode.specs.Gives.{Limits, Step, Stopped, IsErrorOf}
use Rattle.cbor_decode.specs.declared.refusal.Refused.{Refused}
use Rattle.cbor_decode.proofs.facts.Steps.{step_then}
use Rattle.cbor_decode_as.specs.Enums.{IsVariant, IsName, Content, alone, one, parts}
use Rattle.cbor_decode_as.specs.MapAccesses.{key_front}
use Rattle.cbor_decode_as.specs.Takes.{raws, IsRead, IsNotRead, Refuses}
use Rattle.cbor_decode_as.specs.Variants.{IsVariantHead, HasShape, RefusesShaped, pair_head_at}
use Rattle.cbor_decode_as.specs.declared.variant.Form.TheVariants as form
use Rattle.cbor_decode_as.specs.declared.variant.Shape.TheVariants as shape
use Rattle.cbor_decode_as.proofs.maps.NextKeys.{front_stays, key_behind}
use Rattle.cbor_decode_as.proofs.refused.Refusing.{refuses_then, refuses_stopped}
use Rattle.cbor_decode_as.proofs.enums.VariantHeads.{map_byte}
use Rattle.cbor_decode_as.proofs.enums.VariantParts.{as_one, one_is}

abbrev pair_of : Raw → Raw → Raw
pair_of k v = raw.map (definite no_bytes) (raw_pair k v no_raw_pairs)

-- the value of a key
abbrev with_key : Raw → Raw × List ℕ → Reads Raw
with_key k v = Ok (pair_of k v.0, v.1)

abbrev kept_key : Raw → Raw × List ℕ → Reads (Raw × Raw)
kept_key k v = Ok ((k, v.0), v.1)

abbrev only_pair : Raw × Raw → RawPairs × List ℕ → Reads RawPairs
only_pair p x = Ok (raw_pair p.0 p.1 x.0, x.1)

abbrev in_map : RawPairs × List ℕ → Reads Raw
in_map ps = Ok (raw.map (definite no_bytes) ps.0, ps.1)

abbrev no_more : List ℕ → Reads RawPairs
no_more bs = Ok (no_raw_pairs, bs)

joined_value : (k : Raw) (value : Reads Raw) → (((value >>= kept_key k) >>= (λ first. no_more first.1 >>= only_pair first.0)) >>= in_map) ≡ (value >>= with_key k)
joined_value k (Ok v) = refl
joined_value k (Err e) = refl

joined : (p : List ℕ → Reads Raw) (key : Reads Raw) → (((key >>= (λ k. p k.1 >>= kept_key k.0)) >>= (λ first. no_more first.1 >>= only_pair first.0)) >>= in_map) ≡ (key >>= (λ k. p k.1 >>= with_key k.0))
joined p (Ok k) = joined_value k.0 (p k.1)
joined p (Err e) = refl

module _ (f : Formats) (l : Limits) (left : ℕ) where
  abbrev Item : List ℕ → Reads Raw
  Item = item_at (raws f l) left

  opened : (k : ℕ) (ks : List ℕ) → item_at (raws f l) (suc left) (0xa1 ∷ k ∷ ks) ≡ (((key_at (may_begin_key f) Item (k ∷ ks) >>= (λ k. Item k.1 >>= kept_key k.0)) >>= (λ first. no_more first.1 >>= only_pair first.0)) >>= in_map)
  unfolding item_at item_by byte_at after_first number_behind content_at map_at parts_by next_at pair_at
  opened k ks = refl

  -- the item is its one pair
  pub pair_is : (bs rest : List ℕ) → key_front f bs ≡ Ok (tt, rest) → item_at (raws f l) (suc left) (0xa1 ∷ bs) ≡ (Item bs >>= (λ k. Item k.1 >>= with_key k.0))
  unfolding key_at
  pair_is [] rest front = absurd cc
  pair_is (k ∷ ks) rest front =
      opened k ks
      ∙ ap (λ (key : Reads Raw). ((key >>= (λ k. Item k.1 >>= kept_key k.0)) >>= (λ first. no_more first.1 >>= only_pair first.0)) >>= in_map) (key_behind f Item (k ∷ ks) rest front)
      ∙ joined Item (Item (k ∷ ks))

module _ (f : Formats) (names : List (List ℕ)) (l : Limits) (left : ℕ) where
  map_whole : Raw → Content → Raw
  map_whole k alone = k
  map_whole k (one v) = pair_of k v
  map_whole k (parts rs) = k

  whole_of : (k : Raw) (value : Reads Raw) → (value >>= with_key k) ≡ (as_one value >>= (λ c. Ok (map_whole k c.0, c.1)))
  unfolding map_whole
  whole_of k (Ok v) = refl
  whole_of k (Err e) = refl

  -- the head of the enum, after its key
  pub pair_here : (bs mid rest : List ℕ) (i : ℕ) → f.standard_enums ≡ true → key_front f bs ≡ Ok (tt, mid) → IsRead (IsName names) (item_at (raws f l) left mid) i rest
      → IsVariantHead f names l (item_at (raws f l) (suc left) (0xa1 ∷ bs)) left i form.Map rest
  unfolding map_whole
  pair_here bs mid rest i standard front name =
      let key : item_at (raws f l) left bs ≡ Ok (name.item, rest) = ap (λ (from : List ℕ). item_at (raws f l) left from) (front_stays f bs mid front) ∙ name.is in
      record {
        whole = map_whole name.item;
        is = pair_is f l left bs mid front ∙ ap (λ (k : Reads Raw). k >>= (λ k. item_at (raws f l) left k.1 >>= with_key k.0)) key ∙ whole_of name.item (item_at (raws f l) left rest);
        variant = λ c after is.
            let o = one_is (item_at (raws f l) left rest) c after is in
            let v : IsVariant f names (pair_of name.item o.item) (i, one o.item) = (standard, name.means, refl) in
            subst (λ (c : Content). IsVariant f names (untagged (map_whole name.item c)) (i, c)) (sym o.same) v;
      }

  record Keyed (key : Reads Raw) (r : Raw) : Type 0 where
    item : Raw
    value : Raw
    mid : List ℕ
    is : key ≡ Ok (item, mid)
    same : r ≡ pair_of item value

  keyed_value : (k : Raw) (mid : List ℕ) (value : Reads Raw) (r : Raw) (rest : List ℕ) → (value >>= with_key k) ≡ Ok (r, rest) → Keyed (Ok (k, mid)) r
  keyed_value k mid (Ok v) r rest is = record { item = k; value = v.0; mid = mid; is = refl; same = sym (ap (λ (p : Raw × List ℕ). p.0) (ok_is (pair_of k v.0, v.1) (r, rest) is)) }
  keyed_value k mid (Err e) r rest is = absurd cc

  keyed : (key : Reads Raw) (r : Raw) (rest : List ℕ) → (key >>= (λ k. item_at (raws f l) left k.1 >>= with_key k.0)) ≡ Ok (r, rest) → Keyed key r
  keyed (Ok k) r rest is = keyed_value k.0 k.1 (item_at (raws f l) left k.1) r rest is
  keyed (Err e) r rest is = absurd cc

  -- no name is its key
  pair_none : (bs mid : List ℕ) → key_front f bs ≡ Ok (tt, mid) → IsNotRead (IsName names) (item_at (raws f l) left mid) → IsNotRead (PassesTags (IsVariant f names)) (item_at (raws f l) (suc left) (0xa1 ∷ bs))
  pair_none bs mid front none v rest got =
      let k = keyed (item_at (raws f l) left bs) got.item rest (sym (pair_is f l left bs mid front) ∙ got.is) in
      let means : IsVariant f names (pair_of k.item k.value) v = subst (λ (r : Raw). IsVariant f names (untagged r) v) k.same got.means in
      none v.0 k.mid (record { item = k.item; is = ap (λ (from : List ℕ). item_at (raws f l) left from) (sym (front_stays f bs mid front)) ∙ k.is; means = means.1 })

-- ---- the call

pair_front : (f : Formats) (levels left b : ℕ) (bs mid : List ℕ) → levels ≡ suc left → pair_head_at f levels (b ∷ bs) ≡ Ok (tt, mid) → key_front f bs ≡ Ok (tt, mid)
unfolding byte_at
pair_front f levels left b bs mid is h = rw is at h

module _ (f : Formats) (names : List (List ℕ)) (levels left : ℕ) (entered : levels ≡ left + 1) (s a : Input) (head : Step s a (λ l bs rest. pair_head_at f levels bs ≡ Ok (tt, rest))) where
  next : levels ≡ suc left
  next = omega (arith, entered)

  map_here : (l : Limits) (bs mid rest : List ℕ) (i : ℕ) → f.standard_enums ≡ true → HasShape shape.Map bs → pair_head_at f levels bs ≡ Ok (tt, mid) → IsRead (IsName names) (item_at (raws f l) left mid) i rest → IsVariantHead f names l (item_at (raws f l) levels bs) left i form.Map rest
  map_here l [] mid rest i standard shaped h name = absurd shaped
  map_here l (b ∷ bs) mid rest i standard shaped h name =
      let v = pair_here f names l left bs mid rest i standard (pair_front f levels left b bs mid next h) name in
      rw (next, map_byte b shaped.0) v

  map_none : (l : Limits) (bs mid : List ℕ) → HasShape shape.Map bs → pair_head_at f levels bs ≡ Ok (tt, mid) → IsNotRead (IsName names) (item_at (raws f l) left mid) → IsNotRead (PassesTags (IsVariant f names)) (item_at (raws f l) levels bs)
  map_none l [] mid shaped h none = absurd shaped
  map_none l (b ∷ bs) mid shaped h none =
      let v = pair_none f names l left bs mid (pair_front f levels left b bs mid next h) none in
      rw (next, map_byte b shaped.0) v

  pub map_taken : (t : Input) (outer i : ℕ) → outer ≡ left → f.standard_enums ≡ true → Step a t (λ l bs rest. IsRead (IsName names) (item_at (raws f l) left bs) i rest) → Step s t (λ l bs rest. HasShape shape.Map bs → IsVariantHead f names l (item_at (raws f l) levels bs) outer i form.Map rest)
  map_taken t outer i same standard name =
      step_then s a t (λ l bs rest. pair_head_at f levels bs ≡ Ok (tt, rest)) (λ l bs rest. IsRead (IsName names) (item_at (raws f l) left bs) i rest) (λ l bs rest. HasShape shape.Map bs → IsVariantHead f names l (item_at (raws f l) levels bs) outer i form.Map rest)
      (λ l bs mid rest h name shaped. subst (λ (k : ℕ). IsVariantHead f names l (item_at (raws f l) levels bs) k i form.Map rest) (sym same) (map_here l bs mid rest i standard shaped h name)) head name

  pub map_not_named : {w : Input} (allowed : ReadErrorCode → Bool) (e : Error) → Refuses allowed a w (code_of e) (offset_of e) (λ l bs. IsNotRead (IsName names) (item_at (raws f l) left bs)) → RefusesShaped (HasShape shape.Map) allowed f names levels s w e
  map_not_named allowed e none = refuses_then allowed s (code_of e) (offset_of e) a (λ l bs rest. pair_head_at f levels bs ≡ Ok (tt, rest)) (λ l bs. IsNotRead (IsName names) (item_at (raws f l) left bs)) (λ l bs. HasShape shape.Map bs → IsNotRead (PassesTags (IsVariant f names)) (item_at (raws f l) levels bs))
      (λ l bs mid h none shaped. map_none l bs mid shaped h none) head none

-- ---- a head that is refused

module _ (f : Formats) (l : Limits) where
  no_level : (bs : List ℕ) (r : Raw) (rest : List ℕ) → item_at (raws f l) zero (0xa1 ∷ bs) ≡ Ok (r, rest) → ⊥
  unfolding item_at item_by byte_at after_first number_behind content_at map_at
  no_level bs r rest is = absurd cc

  no_key : (left : ℕ) (r : Raw) (rest : List ℕ) → item_at (raws f l) (suc left) (0xa1 ∷ []) ≡ Ok (r, rest) → ⊥
  unfolding item_at item_by byte_at after_first number_behind content_at map_at parts_by next_at pair_at key_at
  no_key left r rest is = absurd cc

  other_key : (left k : ℕ) (ks : List ℕ) (e : Fault) (r : Raw) (rest : List ℕ) → key_front f (k ∷ ks) ≡ Err e → item_at (raws f l) (suc left) (0xa1 ∷ k ∷ ks) ≡ Ok (r, rest) → ⊥
  unfolding key_at
  other_key left k ks e r rest stops is = by (may_begin_key f k) refl
    where
      by : (t : Bool) → may_begin_key f k ≡ t → ⊥
      by true t = let h = rw t at stops in absurd cc
      by false t = let h = rw t at (sym (opened f l left k ks) ∙ is) in absurd cc

  head_none : (levels b : ℕ) (bs : List ℕ) (e : Fault) (r : Raw) (rest : List ℕ) → b ≡ 0xa1 → pair_head_at f levels (b ∷ bs) ≡ Err e → item_at (raws f l) levels (b ∷ bs) ≡ Ok (r, rest) → ⊥
  unfolding byte_at
  head_none zero b bs e r rest at stops is = no_level bs r rest (subst (λ (n : ℕ). item_at (raws f l) zero (n ∷ bs) ≡ Ok (r, rest)) at is)
  head_none (suc left) b [] e r rest at stops is = no_key left r rest (subst (λ (n : ℕ). item_at (raws f l) (suc left) (n ∷ []) ≡ Ok (r, rest)) at is)
  head_none (suc left) b (k ∷ ks) e r rest at stops is = other_key left k ks e r rest stops (subst (λ (n : ℕ). item_at (raws f l) (suc left) (n ∷ k ∷ ks) ≡ Ok (r, rest)) at is)

  shaped_none : (names : List (List ℕ)) (levels : ℕ) (bs : List ℕ) (e : Fault) → pair_head_at f levels bs ≡ Err e → HasShape shape.Map bs → IsNotRead (PassesTags (IsVariant f names)) (item_at (raws f l) levels bs)
  shaped_none names levels [] e stops shaped v rest got = shaped
  shaped_none names levels (b ∷ bs) e stops shaped v rest got = head_none levels b bs e got.item rest (map_byte b shaped.0) stops got.is

pub map_head_refused : {w : Input} (f : Formats) (names : List (List ℕ)) (levels : ℕ) (s : Input) (allowed : ReadErrorCode → Bool) (kept : ReadError) (r : Refused) (e : Error) → IsErrorOf kept r e → Stopped allowed (λ l. pair_head_at f levels) s w kept r → RefusesShaped (HasShape shape.Map) allowed f names levels s w e
map_head_refused f names levels s allowed kept r e is h = refuses_stopped allowed (λ l. pair_head_at f levels) s kept r e (λ l bs. HasShape shape.Map bs → IsNotRead (PassesTags (IsVariant f names)) (item_at (raws f l) levels bs))
    (λ l bs fault stops. shaped_none f l names levels bs fault stops) is h
