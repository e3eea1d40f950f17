-- Enums that are a map of one pair, or no map of one pair.
use Rattle.std.proofs.Common.{◌≡◌, ◌∙◌, ◌+◌, ℕ, zero, suc, Bool, true, false, cond, List, [], ◌∷◌, length, Option, Some, None, Result, Ok, Err, refl, sym, ap, subst, arith}
use Rattle.cbor_model.specs.Formats.{Formats, may_begin_key}
use Rattle.cbor_model.specs.Head.{HeadWidth, no_bytes, one_byte, two_bytes, four_bytes, eight_bytes}
use Rattle.cbor_model.specs.Raw as raw
use Rattle.cbor_model.specs.Raw.{Raw, RawPairs, Length, no_raw_pairs, raw_pair, definite, indefinite}
use Rattle.cbor_model.specs.Readable.{untagged, PassesTags}
use Rattle.cbor_model.specs.Reader.{Reads, ◌>>=◌, byte_at, item_at, inside, within, map_at, parts_by, pairs_of, pair_at, next_at}
use Rattle.cbor_model.specs.Reader as reader
use Rattle.cbor_model.proofs.facts.Reader.{ok_is}
use Rattle.cbor_read.specs.Source.{Input}
use Rattle.cbor_io.specs.Error.{code_of, offset_of}
use Rattle.cbor_io.specs.declared.error.Error.{Error}
use Rattle.cbor_io.specs.declared.read_error.ReadErrorCode.{ReadErrorCode}
use Rattle.cbor_io.specs.declared.read_error.ReadError.{ReadError}
use Rattle.cbor_decode.specs.declared.refusal.Refused.{Refused}
use Rattle.cbor_decode.proofs.facts.Steps.{step_then, stopped_then}
use Rattle.cbor_decode.specs.Gives.{Limits, Step, Stopped, Gives}
use Rattle.cbor_decode_as.specs.MapAccesses.{key_front}
use Rattle.cbor_decode.specs.Heads.{behind_head}
use Rattle.cbor_decode.specs.declared.head.Head.{Head}
use Rattle.cbor_decode.specs.declared.head.Head.TheVariants as head
use Rattle.cbor_decode.specs.declared.cursor.Remaining.TheVariants.{Counted, ToBreak}
use Rattle.cbor_decode_as.specs.Enums.{IsVariant, IsName, Content}
use Rattle.cbor_decode_as.specs.Kinds.{head_kind}
use Rattle.cbor_decode_as.specs.Kinds as kind
use Rattle.cbor_decode_as.specs.Takes.{raws, IsNotRead, Refuses}
use Rattle.cbor_decode_as.specs.Tags.{begins_tag, tag_first_at}
use Rattle.cbor_decode_as.specs.Variants.{pair_head_at, IsAlone, RefusesShaped}
use Rattle.cbor_decode_as.proofs.heads.OfKind.{kinds}
use Rattle.cbor_decode_as.proofs.refused.Refusing.{refuses_map}
use Rattle.cbor_decode_as.proofs.enums.VariantHeads.{Plain, alone_head, headed}

-- ---- a map of one pair has a count of one

ok_pairs : (ps qs : RawPairs) (a b : List ℕ) → ◌≡◌ {A = Reads RawPairs} (Ok (ps, a)) (Ok (qs, b)) → ps ≡ qs
ok_pairs ps qs a b is = ap (λ (p : RawPairs × List ℕ). p.0) (ok_is (ps, a) (qs, b) is)

-- with this pair before
abbrev pub put_pair : Raw → Raw → RawPairs × List ℕ → Reads RawPairs
put_pair k v x = Ok (raw_pair k v x.0, x.1)

-- the pairs that follow, after the first
behind_first : (k v : Raw) (others : Reads RawPairs) (ps : RawPairs) (rest : List ℕ) → (others >>= put_pair k v) ≡ Ok (ps, rest) → (qs : RawPairs) × (after : List ℕ) × (others ≡ Ok (qs, after)) × (ps ≡ raw_pair k v qs)
behind_first k v (Ok x) ps rest is = (x.0, x.1, refl, sym (ok_pairs (raw_pair k v x.0) ps x.1 rest is))
behind_first k v (Err e) ps rest is = absurd cc

module _ (f : Formats) (l : Limits) (inner : List ℕ → Reads Raw) where
  abbrev pub Pairs : reader.Parts (Raw × Raw) RawPairs
  Pairs = pairs_of (raws f l) inner

  -- a pair at the least is read where some remain
  pub some_read : (fuel n : ℕ) (bs rest : List ℕ) (ps : RawPairs) → parts_by Pairs fuel (reader.counted (suc n)) bs ≡ Ok (ps, rest) → ps ≡ no_raw_pairs → ⊥
  unfolding parts_by next_at
  some_read zero n bs rest ps is none = absurd cc
  some_read (suc fuel) n bs rest ps is none = first (pair_at (may_begin_key f) inner bs) is
    where
      first : (read : Reads (Raw × Raw)) → (read >>= (λ first. parts_by Pairs fuel (reader.counted n) first.1 >>= put_pair first.0.0 first.0.1)) ≡ Ok (ps, rest) → ⊥
      first (Err e) is = absurd cc
      first (Ok x) is =
          let b = behind_first x.0.0 x.0.1 (parts_by Pairs fuel (reader.counted n) x.1) ps rest is in
          differ (sym b.3 ∙ none)
        where
          differ : {qs : RawPairs} → raw_pair x.0.0 x.0.1 qs ≡ no_raw_pairs → ⊥
          differ e = absurd cc

  some_pair : (x y : Raw × Raw) (ps qs : RawPairs) → raw_pair x.0 x.1 ps ≡ raw_pair y.0 y.1 qs → ps ≡ qs
  some_pair x y ps qs e = cc

  -- one pair is read where one remains
  pub one_remains : (fuel n : ℕ) (bs rest : List ℕ) (k v : Raw) → parts_by Pairs (suc fuel) (reader.counted n) bs ≡ Ok (raw_pair k v no_raw_pairs, rest) → n ≡ 1
  unfolding parts_by next_at
  one_remains fuel zero bs rest k v is = absurd (differ (ok_pairs no_raw_pairs (raw_pair k v no_raw_pairs) bs rest is))
    where
      differ : no_raw_pairs ≡ raw_pair k v no_raw_pairs → ⊥
      differ e = absurd cc
  one_remains fuel (suc zero) bs rest k v is = refl
  one_remains fuel (suc (suc n)) bs rest k v is = first (pair_at (may_begin_key f) inner bs) is
    where
      first : (read : Reads (Raw × Raw)) → (read >>= (λ first. parts_by Pairs fuel (reader.counted (suc n)) first.1 >>= put_pair first.0.0 first.0.1)) ≡ Ok (raw_pair k v no_raw_pairs, rest) → suc (suc n) ≡ 1
      first (Err e) is = absurd cc
      first (Ok x) is =
          let b = behind_first x.0.0 x.0.1 (parts_by Pairs fuel (reader.counted (suc n)) x.1) (raw_pair k v no_raw_pairs) rest is in
          absurd (some_read fuel n x.1 b.1 b.0 b.2 (sym (some_pair (k, v) x.0 no_raw_pairs b.0 b.3)))

-- ---- the head of a map, up to its key

pair_key : (f : Formats) (levels left b : ℕ) (bs mid : List ℕ) → levels ≡ suc left → byte_at bs ≡ Ok (b, mid) → pair_head_at f levels bs ≡ key_front f mid
pair_key f levels left b bs mid in_one is = rw (in_one, is) refl

pub pair_headed : (allowed : ReadErrorCode → Bool) (f : Formats) (s a m t : Input) (levels left b : ℕ) (kept : ReadError) (r : Result (Unit {0}) Refused) → levels ≡ left + 1 → m ≡ a
    → Step s a (λ l bs rest. byte_at bs ≡ Ok (b, rest)) → Gives {X = Unit {0}} {A = Unit {0}} allowed (λ u. u) (λ l. key_front f) m t kept r → Gives {X = Unit {0}} {A = Unit {0}} allowed (λ u. u) (λ l. pair_head_at f levels) s t kept r
pair_headed allowed f s a m t levels left b kept (Ok u) in_one same byte key =
    let next : levels ≡ suc left = omega (arith, in_one) in
    step_then s a t (λ l bs rest. byte_at bs ≡ Ok (b, rest)) (λ l bs rest. key_front f bs ≡ Ok (u, rest)) (λ l bs rest. pair_head_at f levels bs ≡ Ok (u, rest))
    (λ l bs mid rest is key. pair_key f levels left b bs mid next is ∙ key) byte (subst (λ (x : Input). Step x t (λ l bs rest. key_front f bs ≡ Ok (u, rest))) same key)
pair_headed allowed f s a m t levels left b kept (Err r) in_one same byte key =
    let next : levels ≡ suc left = omega (arith, in_one) in
    stopped_then allowed (λ l. key_front f) (λ l. pair_head_at f levels) s a kept r (λ l bs rest. byte_at bs ≡ Ok (b, rest))
    (λ l bs mid e is stops. pair_key f levels left b bs mid next is ∙ stops) byte (subst (λ (x : Input). Stopped allowed (λ l. key_front f) x t kept r) same key)

-- ---- an enum that is neither an array nor a map of one pair

plain_array : (w : HeadWidth) (h : Head) → Plain w h → kind.array ≡ head_kind h → ⊥
plain_array w (head.Array r) p e = p
plain_array w (head.Unsigned n) p e = absurd cc
plain_array w (head.Negative n) p e = absurd cc
plain_array w (head.Bytes n) p e = absurd cc
plain_array w (head.Text n) p e = absurd cc
plain_array w (head.Map r) p e = absurd cc
plain_array w (head.Tag n) p e = absurd cc
plain_array w (head.Bool b) p e = absurd cc
plain_array w head.Null p e = absurd cc
plain_array w head.Undefined p e = absurd cc
plain_array w (head.Float x) p e = absurd cc
plain_array w head.Break p e = absurd cc

plain_tag : (w : HeadWidth) (h : Head) → Plain w h → kind.tag ≡ head_kind h → ⊥
plain_tag w (head.Array r) p e = p
plain_tag w (head.Unsigned n) p e = absurd cc
plain_tag w (head.Negative n) p e = absurd cc
plain_tag w (head.Bytes n) p e = absurd cc
plain_tag w (head.Text n) p e = absurd cc
plain_tag w (head.Map r) p e = absurd cc
plain_tag w (head.Tag n) p e = p
plain_tag w (head.Bool b) p e = absurd cc
plain_tag w head.Null p e = absurd cc
plain_tag w head.Undefined p e = absurd cc
plain_tag w (head.Float x) p e = absurd cc
plain_tag w head.Break p e = absurd cc

module _ (f : Formats) (l : Limits) (inner : Option (List ℕ → Reads Raw)) where
  -- the item of a map of one pair
  abbrev pub OnePair : Raw → Raw → Raw
  OnePair k v = raw.map (definite no_bytes) (raw_pair k v no_raw_pairs)

  abbrev pub as_map : Length → RawPairs × List ℕ → Reads Raw
  as_map n ps = Ok (raw.map n ps.0, ps.1)

  record Made (n : Length) (read : Reads RawPairs) (k v : Raw) (rest : List ℕ) : Type 0 where
    len : n ≡ definite no_bytes
    is : read ≡ Ok (raw_pair k v no_raw_pairs, rest)

  made_map : (n : Length) (read : Reads RawPairs) (k v : Raw) (rest : List ℕ) → (read >>= as_map n) ≡ Ok (OnePair k v, rest) → Made n read k v rest
  made_map n (Err e) k v rest is = absurd cc
  made_map n (Ok x) k v rest is =
      let both = ok_is (raw.map n x.0, x.1) (OnePair k v, rest) is in
      let same = ap (λ (p : Raw × List ℕ). p.0) both in
      record { len = len x.0 same; is = ap (λ (p : Raw × List ℕ). Ok (pairs p.0, p.1)) both }
    where
      len : (ps : RawPairs) → raw.map n ps ≡ OnePair k v → n ≡ definite no_bytes
      len ps e = cc

      pairs : Raw → RawPairs
      pairs (raw.map m qs) = qs
      pairs r = no_raw_pairs

  same_width : (w : HeadWidth) → definite w ≡ definite no_bytes → w ≡ no_bytes
  same_width w e = cc

  not_definite : indefinite ≡ definite no_bytes → ⊥
  not_definite e = absurd cc

  other_map : (w : HeadWidth) (h : Head) (mid rest : List ℕ) (k v : Raw) → (kind.map ≡ head_kind h → ⊥) → behind_head (raws f l) inner w h mid ≡ Ok (OnePair k v, rest) → ⊥
  other_map w h mid rest k v other is = other (kinds f l inner w mid h (OnePair k v) rest is)

  within_some : (p : Option (List ℕ → Reads Raw)) (n : ℕ) (mid rest : List ℕ) (k v : Raw) → within p mid (λ p. reader.parts_at (pairs_of (raws f l) p) (reader.counted n) mid) ≡ Ok (raw_pair k v no_raw_pairs, rest) → n ≡ 1
  within_some None n mid rest k v is = absurd cc
  within_some (Some p) n mid rest k v is = one_remains f l p (length mid) n mid rest k v is

  not_one_pair : (w : HeadWidth) (h : Head) (mid rest : List ℕ) (k v : Raw) → Plain w h → behind_head (raws f l) inner w h mid ≡ Ok (OnePair k v, rest) → ⊥
  unfolding map_at
  not_one_pair w (head.Array r) mid rest k v p is = p
  not_one_pair w (head.Tag n) mid rest k v p is = p
  not_one_pair w (head.Map (Counted n)) mid rest k v p is =
      let m = made_map (definite w) (within inner mid (λ p. reader.parts_at (pairs_of (raws f l) p) (reader.counted n) mid)) k v rest is in
      p (same_width w m.len) (within_some inner n mid rest k v m.is)
  not_one_pair w (head.Map ToBreak) mid rest k v p is =
      let m = made_map indefinite (within inner mid (λ p. reader.parts_at (pairs_of (raws f l) p) reader.to_break mid)) k v rest is in
      not_definite m.len
  not_one_pair w (head.Unsigned n) mid rest k v p is = other_map w (head.Unsigned n) mid rest k v (λ e. absurd cc) is
  not_one_pair w (head.Negative n) mid rest k v p is = other_map w (head.Negative n) mid rest k v (λ e. absurd cc) is
  not_one_pair w (head.Bytes n) mid rest k v p is = other_map w (head.Bytes n) mid rest k v (λ e. absurd cc) is
  not_one_pair w (head.Text n) mid rest k v p is = other_map w (head.Text n) mid rest k v (λ e. absurd cc) is
  not_one_pair w (head.Bool b) mid rest k v p is = other_map w (head.Bool b) mid rest k v (λ e. absurd cc) is
  not_one_pair w head.Null mid rest k v p is = other_map w head.Null mid rest k v (λ e. absurd cc) is
  not_one_pair w head.Undefined mid rest k v p is = other_map w head.Undefined mid rest k v (λ e. absurd cc) is
  not_one_pair w (head.Float x) mid rest k v p is = other_map w (head.Float x) mid rest k v (λ e. absurd cc) is
  not_one_pair w head.Break mid rest k v p is = other_map w head.Break mid rest k v (λ e. absurd cc) is

no_tag_byte : (b : ℕ) (bs : List ℕ) → tag_first_at (b ∷ bs) ≡ Ok (None, b ∷ bs) → begins_tag b ≡ false
no_tag_byte b bs is = by (begins_tag b) is
  where
    some_none : Some b ≡ None → ⊥
    some_none e = absurd cc

    by : (t : Bool) → cond {A = Reads (Option ℕ)} t (Ok (Some b, bs)) (Ok (None, b ∷ bs)) ≡ Ok (None, b ∷ bs) → t ≡ false
    by false h = refl
    by true h = absurd (some_none (ap (λ (p : Option ℕ × List ℕ). p.0) (ok_is (Some b, bs) (None, b ∷ bs) h)))

module _ (f : Formats) (names : List (List ℕ)) (l : Limits) (inner : Option (List ℕ → Reads Raw)) where
  -- a variant after such a head is its identifier alone
  plain_name : (w : HeadWidth) (h : Head) (mid rest : List ℕ) → Plain w h → (r : Raw) (v : ℕ × Content) → behind_head (raws f l) inner w h mid ≡ Ok (r, rest) → IsVariant f names (untagged r) v → IsName names r v.0
  plain_name w h mid rest p (raw.unsigned x n) v is means = means.1
  plain_name w h mid rest p (raw.negative x n) v is means = means.1
  plain_name w h mid rest p (raw.bytes c) v is means = means.1
  plain_name w h mid rest p (raw.text c) v is means = means.1
  plain_name w h mid rest p (raw.bytes_chunks cs) v is means = means.1
  plain_name w h mid rest p (raw.text_chunks cs) v is means = means.1
  plain_name w h mid rest p (raw.simple s) v is means = means.1
  plain_name w h mid rest p (raw.float x bits) v is means = means.1
  plain_name w h mid rest p (raw.array n rs) v is means = absurd (plain_array w h p (kinds f l inner w mid h (raw.array n rs) rest is))
  plain_name w h mid rest p (raw.tag x n r) v is means = absurd (plain_tag w h p (kinds f l inner w mid h (raw.tag x n r) rest is))
  plain_name w h mid rest p (raw.map indefinite ps) v is means = means.1
  plain_name w h mid rest p (raw.map (definite one_byte) ps) v is means = means.1
  plain_name w h mid rest p (raw.map (definite two_bytes) ps) v is means = means.1
  plain_name w h mid rest p (raw.map (definite four_bytes) ps) v is means = means.1
  plain_name w h mid rest p (raw.map (definite eight_bytes) ps) v is means = means.1
  plain_name w h mid rest p (raw.map (definite no_bytes) no_raw_pairs) v is means = means.1
  plain_name w h mid rest p (raw.map (definite no_bytes) (raw_pair k x (raw_pair m y ps))) v is means = means.1
  plain_name w h mid rest p (raw.map (definite no_bytes) (raw_pair k x no_raw_pairs)) v is means = absurd (not_one_pair f l inner w h mid rest k x p is)

alone_name : (f : Formats) (names : List (List ℕ)) (l : Limits) (levels : ℕ) (bs rest : List ℕ) (r : Raw) (v : ℕ × Content) → IsAlone bs → item_at (raws f l) levels bs ≡ Ok (r, rest) → IsVariant f names (untagged r) v → IsName names r v.0
alone_name f names l levels [] rest r v here is means = absurd here.1
alone_name f names l levels (b ∷ bs) rest r v here is means =
    let h = headed f l levels b bs r rest is in
    let p = alone_head b bs here.1.1 here.1.0 (no_tag_byte b bs here.0) h.width h.head h.mid h.at in
    plain_name f names l (inside (raws f l) levels) h.width h.head h.mid rest p r v h.is means

pub none_alone : {w : Input} (f : Formats) (names : List (List ℕ)) (allowed : ReadErrorCode → Bool) (levels : ℕ) (s : Input) (e : Error) → Refuses allowed s w (code_of e) (offset_of e) (λ l bs. IsNotRead (IsName names) (item_at (raws f l) levels bs)) → RefusesShaped IsAlone allowed f names levels s w e
none_alone f names allowed levels s e = refuses_map allowed s (code_of e) (offset_of e) (λ l bs. IsNotRead (IsName names) (item_at (raws f l) levels bs)) (λ l bs. IsAlone bs → IsNotRead (PassesTags (IsVariant f names)) (item_at (raws f l) levels bs))
    (λ l bs none here v rest got. none v.0 rest (record { item = got.item; is = got.is; means = alone_name f names l levels bs rest got.item v here got.is got.means }))
