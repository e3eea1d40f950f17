-- A struct, from its map's head to its end: what a loop over its fields knows, and what each call adds.
use Rattle.std.proofs.Common.{◌≡◌, ℕ, Bool, true, false, List, [], ◌∷◌, ◌++◌, Option, Some, None, Ok, Err, refl, sym, ap, subst, ◌∙◌}
use Rattle.std.specs.Option.{is_some}
use Rattle.std.specs.Prelude.{IfSome}
use Rattle.cbor_model.specs.Formats.{may_begin_key}
use Rattle.cbor_model.specs.Raw.{Raw, RawPairs, no_raw_pairs, raw_pair}
use Rattle.cbor_model.specs.Reader.{Reads, item_at, key_at}
use Rattle.cbor_model.specs.Reader as reader
use Rattle.cbor_model.proofs.facts.Reader.{ok_is}
use Rattle.cbor_read.specs.Source.{Input}
use Rattle.cbor_io.specs.Error.{code_of, offset_of}
use Rattle.cbor_io.specs.declared.error.Error.{Error}
use Rattle.cbor_io.specs.declared.error.ErrorCode.{ErrorCode}
use Rattle.cbor_io.specs.declared.read_error.ReadErrorCode.{ReadErrorCode}
use Rattle.cbor_decode.specs.Gives.{Limits, Step}
use Rattle.cbor_decode.specs.Heads.{remaining_of}
use Rattle.cbor_decode.specs.declared.cursor.Remaining.{Remaining}
use Rattle.cbor_decode.specs.declared.cursor.Remaining.TheVariants.{Counted}
use Rattle.cbor_decode.specs.declared.formats.Formats.{Formats}
use Rattle.cbor_decode.proofs.facts.Steps.{step_then}
use Rattle.cbor_decode_as.specs.MapAccesses.{pairs_at, IsKey, IsNextKey, IsMapEnd}
use Rattle.cbor_decode_as.specs.Collections.{IsHeadOf, RefusesHeadOf, TakesEndOf}
use Rattle.cbor_de.specs.Structs.{IsAny, AreFieldsOf, FieldOf, IsMapOf, MeansOneField}
use Rattle.cbor_decode_as.specs.Takes.{formats_of, raws, IsRead, IsNotRead, Refuses}
use Rattle.cbor_de.specs.declared.field.Field.{Field}
use Rattle.cbor_de.specs.declared.field.Field.TheVariants.{Known, Unknown}
use Rattle.cbor_decode_as.proofs.facts.Maps.{append_pairs, PairsSoFar, PairsDone, pairs_end, pairs_rest, first_pair, last, another, NoKey}
use Rattle.cbor_decode_as.proofs.facts.Readings.{refuses_map, refuses_then, refuses_by}
use Rattle.cbor_decode_as.proofs.facts.Refusals.{refuses_on}
use Rattle.cbor_de.proofs.structs.Slots.{Slots, none_yet, all_of, AreHeld, all_held, Has, LacksAt, ValueAt, reads_at, put, fill, filled, IsOther, Gathered, gathered_none, gathered_set, gathered_other, gathered_twice, gathered_value, gathered_missing, gathered_all, gathered_follows}
use Rattle.cbor_de.proofs.parts.WholeMaps.{NoPairs, map_begins, map_goes_on, key_lacks, map_takes, map_refused, map_end_refused, map_end_twice, no_map_read}
use Rattle.cbor_decode.specs.declared.cursor.Collection.TheVariants as collection

-- ---- after a key

-- a pair after those before, of which P holds
pub record PairAt (P : List (Raw × Raw) → Type 0) (key : Raw → Type 0) (value : Reads Raw) (rs : RawPairs) : Type 0 where
  pub front : List (Raw × Raw)
  pub a : Raw
  pub b : Raw
  pub after : List ℕ
  pub more : RawPairs
  pub holds : P front
  pub named : key a
  pub is : value ≡ Ok (b, after)
  pub same : rs ≡ append_pairs front (raw_pair a b more)

some_is : (x y : reader.Remaining) → Some x ≡ Some y → x ≡ y
some_is x y e = cc

no_some : (x : reader.Remaining) → Some x ≡ None → ⊥
no_some x e = absurd cc

module _ {K : Type 0} (s0 : Input) (P : List (Raw × Raw) → Type 0) (f : Formats) (levels : ℕ) (all : Remaining) (keys : Raw → K → Type 0) (r new : Remaining) (k : K) where
  -- the key after the pairs so far
  pub record KeyTaken (l : Limits) (bs rest : List ℕ) : Type 0 where
    pub mid : List ℕ
    pub so : PairsSoFar P (formats_of f) levels (remaining_of all) (remaining_of r) l bs mid
    pub key : IsNextKey keys (formats_of f) levels (remaining_of r) (remaining_of new) k l mid rest

  pub pair_at_key : (l : Limits) (bs mid rest : List ℕ) (rs : RawPairs) → KeyTaken l bs mid → pairs_at (formats_of f) l levels (remaining_of all) bs ≡ Ok (rs, rest) → PairAt P (λ a. keys a k) (item_at (raws (formats_of f) l) levels mid) rs
  pair_at_key l bs mid rest rs h is =
      let p = item_at (raws (formats_of f) l) levels in
      let w = pairs_rest P (formats_of f) levels (remaining_of all) (remaining_of r) l bs h.mid rest rs h.so is in
      elim (first_pair (formats_of f) l levels (remaining_of r) h.mid w.more rest w.is) [
        | last n e ↦ absurd (no_some (remaining_of new) (ap (λ (q : Option reader.Remaining × List ℕ). q.0) (ok_is (Some (remaining_of new), h.key.start) (None, rest) (sym h.key.next ∙ n))))
        | another beyond start a at b after more n key value e ↦
            let here = ap (λ (q : Option reader.Remaining × List ℕ). q.1) (ok_is (Some beyond, start) (Some (remaining_of new), h.key.start) (sym n ∙ h.key.next)) in
            let key' : key_at (may_begin_key (formats_of f)) p h.key.start ≡ Ok (a, at) = subst (λ (bs : List ℕ). key_at (may_begin_key (formats_of f)) p bs ≡ Ok (a, at)) here key in
            let both = ok_is (a, at) (h.key.key.item, mid) (sym key' ∙ h.key.key.is) in
            record {
              front = w.front;
              a = a;
              b = b;
              after = after;
              more = more;
              holds = w.holds;
              named = subst (λ (a : Raw). keys a k) (sym (ap (λ (q : Raw × List ℕ). q.0) both)) h.key.key.means;
              is = subst (λ (bs : List ℕ). p bs ≡ Ok (b, after)) (ap (λ (q : Raw × List ℕ). q.1) both) value;
              same = w.same ∙ ap (append_pairs w.front) e;
            }
      ]

  module _ (s t : Input) (one : Step s0 s (PairsSoFar P (formats_of f) levels (remaining_of all) (remaining_of r))) (two : Step s t (IsKey keys (formats_of f) levels (remaining_of r) (remaining_of new) (Some k))) where
    pub key_taken : Step s0 t KeyTaken
    key_taken = step_then s0 s t (PairsSoFar P (formats_of f) levels (remaining_of all) (remaining_of r)) (IsNextKey keys (formats_of f) levels (remaining_of r) (remaining_of new) k) KeyTaken
        (λ l bs mid rest so key. record { mid = mid; so = so; key = key }) one two

    module _ {A : Type 0} (pairs : RawPairs → A → Type 0) (allowed : ReadErrorCode → Bool) (c : ErrorCode) (at : ℕ) where
      abbrev None_read : Limits → List ℕ → Type 0
      None_read = NoPairs pairs (formats_of f) levels (remaining_of all)

      -- no pairs are read where the value isn't that they need
      key_unread : {V : Type 0} {w : Input} (values : Raw → V → Type 0) → ((front : List (Raw × Raw)) (a b : Raw) (more : RawPairs) (x : A) → P front → keys a k → pairs (append_pairs front (raw_pair a b more)) x → (v : V) × values b v)
          → Refuses allowed t w c at (λ l bs. IsNotRead values (item_at (raws (formats_of f) l) levels bs)) → Refuses allowed s0 w c at None_read
      key_unread values needs none = refuses_then allowed s0 c at t KeyTaken (λ l bs. IsNotRead values (item_at (raws (formats_of f) l) levels bs)) None_read
          (λ l bs mid key n rs rest x is means.
          let p = pair_at_key l bs mid rest rs key is in
          let v = needs p.front p.a p.b p.more x p.holds p.named (subst (λ (rs : RawPairs). pairs rs x) p.same means) in
          n v.0 p.after (record { item = p.b; is = p.is; means = v.1 })) key_taken none

      -- nor where they exclude the key
      key_excluded : ((front : List (Raw × Raw)) (a b : Raw) (more : RawPairs) (x : A) → P front → keys a k → pairs (append_pairs front (raw_pair a b more)) x → ⊥) → Refuses allowed s0 t c at None_read
      key_excluded excludes = refuses_by allowed s0 c at t KeyTaken None_read
          (λ l bs mid key rs rest x is means.
          let p = pair_at_key l bs mid rest rs key is in
          excludes p.front p.a p.b p.more x p.holds p.named (subst (λ (rs : RawPairs). pairs rs x) p.same means)) key_taken

  -- nor where they exclude the end
  end_excluded : {A : Type 0} (pairs : RawPairs → A → Type 0) (allowed : ReadErrorCode → Bool) (c : ErrorCode) (at : ℕ) (s t : Input)
      → Step s0 s (PairsSoFar P (formats_of f) levels (remaining_of all) (remaining_of r)) → Step s t (IsMapEnd (remaining_of r))
      → ((front : List (Raw × Raw)) (x : A) → P front → pairs (append_pairs front no_raw_pairs) x → ⊥) → Refuses allowed s0 t c at (NoPairs pairs (formats_of f) levels (remaining_of all))
  end_excluded pairs allowed c at s t one two excludes = refuses_by allowed s0 c at t (PairsDone P (formats_of f) levels (remaining_of all)) (NoPairs pairs (formats_of f) levels (remaining_of all))
      (λ l bs rest d rs after x is means.
      let same = ap (λ (q : RawPairs × List ℕ). q.0) (ok_is (rs, after) (append_pairs d.front no_raw_pairs, rest) (sym is ∙ d.is)) in
      excludes d.front x d.holds (subst (λ (rs : RawPairs). pairs rs x) same means))
      (step_then s0 s t (PairsSoFar P (formats_of f) levels (remaining_of all) (remaining_of r)) (IsMapEnd (remaining_of r)) (PairsDone P (formats_of f) levels (remaining_of all))
      (λ l bs mid rest so e. pairs_end P (formats_of f) levels (remaining_of all) (remaining_of r) l bs mid rest so e) one two)

-- ---- structs

module _ {S : Type 0} (keyed : Raw → Field → Type 0) (fields : List (FieldOf S)) where
  -- What a loop over the fields of a struct knows. The struct's item begins at s, in these formats and
  -- with so many levels outside of it; the fields that remain begin at t, with so many levels inside.
  pub record StructSoFar (slots : Slots fields) (s : Input) (f : Formats) (outer : ℕ) (t : Input) (g : Formats) (levels : ℕ) (r : Remaining) : Type 0 where
    pub first : Input
    pub deep : ℕ
    pub all : Remaining
    pub head : Step s first (λ l bs rest. IsHeadOf collection.Map (formats_of f) l (item_at (raws (formats_of f) l) outer bs) deep all rest)
    pub so_far : Step first t (PairsSoFar (Gathered keyed fields slots) (formats_of f) deep (remaining_of all) (remaining_of r))
    pub formats : g ≡ f
    pub inside : levels ≡ deep

  -- No struct is at s.
  abbrev pub NoStruct : (ReadErrorCode → Bool) → Input → Input → Formats → ℕ → ErrorCode → ℕ → Type 0
  NoStruct allowed s t f outer c at = Refuses allowed s t c at (λ l bs. IsNotRead (IsMapOf keyed fields) (item_at (raws (formats_of f) l) outer bs))

  -- A struct is at s, and is read as x.
  abbrev pub ReadsStruct : Input → Input → Formats → ℕ → S → Type 0
  ReadsStruct s t f outer x = Step s t (λ l bs rest. IsRead (IsMapOf keyed fields) (item_at (raws (formats_of f) l) outer bs) x rest)

  -- after the head no field was read
  pub struct_begins : {s t : Input} {f g : Formats} {outer levels : ℕ} {all : Remaining}
      → Step s t (λ l bs rest. IsHeadOf collection.Map (formats_of f) l (item_at (raws (formats_of f) l) outer bs) levels all rest) → g ≡ f → StructSoFar (none_yet fields) s f outer t g levels all
  struct_begins {s} {t} {f} {g} {outer} {levels} {all} head formats = record {
    first = t;
    deep = levels;
    all = all;
    head = head;
    so_far = map_begins t (Gathered keyed fields (none_yet fields)) f levels all (gathered_none keyed fields);
    formats = formats;
    inside = refl;
  }

  -- no map is there
  pub no_struct : {w : Input} (allowed : ReadErrorCode → Bool) (s : Input) (f : Formats) (outer : ℕ) (e : Error) → RefusesHeadOf collection.Map allowed (formats_of f) outer s w e → NoStruct allowed s w f outer (code_of e) (offset_of e)
  no_struct allowed s f outer e = no_map_read (AreFieldsOf keyed fields) allowed (formats_of f) outer s e

  module _ {slots : Slots fields} {s : Input} {f : Formats} {outer : ℕ} {t : Input} {g : Formats} {levels : ℕ} {r : Remaining} (so : StructSoFar slots s f outer t g levels r) where
    abbrev P : List (Raw × Raw) → Type 0
    P = Gathered keyed fields slots

    -- the fields are no struct's
    none_refused : {w : Input} (allowed : ReadErrorCode → Bool) (c : ErrorCode) (at : ℕ) → Refuses allowed so.first w c at (NoPairs (AreFieldsOf keyed fields) (formats_of f) so.deep (remaining_of so.all)) → NoStruct allowed s w f outer c at
    none_refused allowed c at = map_refused so.first P f so.deep so.all (AreFieldsOf keyed fields) outer s allowed c at so.head

    -- no key is there that means a field or none, nor the end
    pub no_field_named : {w : Input} (allowed : ReadErrorCode → Bool) (c : ErrorCode) (at : ℕ) → Refuses allowed t w c at (NoKey keyed (formats_of g) levels (remaining_of r)) → NoStruct allowed s w f outer c at
    no_field_named allowed c at none =
        none_refused allowed c at
        (key_lacks so.first P f so.deep so.all g levels so.formats so.inside (λ (f : Formats). keyed) (λ (f : Formats). IsAny) r t (AreFieldsOf keyed fields) allowed c at
        (λ front more x holds means. gathered_follows keyed fields slots front more x holds means) so.so_far none)

    -- ---- after a key

    module _ (next : Option Field) (field : Field) (named : next ≡ Some field) {u : Input} (new : Remaining) (key : Step t u (IsKey keyed (formats_of g) levels (remaining_of r) (remaining_of new) next)) where
      key_there : Step t u (IsKey keyed (formats_of g) levels (remaining_of r) (remaining_of new) (Some field))
      key_there = subst (λ (o : Option Field). Step t u (IsKey keyed (formats_of g) levels (remaining_of r) (remaining_of new) o)) named key

      pub key_here : Step t u (IsKey keyed (formats_of f) so.deep (remaining_of r) (remaining_of new) (Some field))
      key_here =
          let there = subst (λ (g : Formats). Step t u (IsKey keyed (formats_of g) levels (remaining_of r) (remaining_of new) (Some field))) so.formats key_there in
          subst (λ (n : ℕ). Step t u (IsKey keyed (formats_of f) n (remaining_of r) (remaining_of new) (Some field))) so.inside there

      -- a field that was read is there again
      pub field_twice : (allowed : ReadErrorCode → Bool) (c : ErrorCode) (at : ℕ) (i : ℕ) → field ≡ Known i → Has true fields i slots → NoStruct allowed s u f outer c at
      field_twice allowed c at i is some =
          none_refused allowed c at
          (key_excluded so.first P f so.deep so.all keyed r new field t u so.so_far key_here (AreFieldsOf keyed fields) allowed c at
          (λ front a b more x holds key means. gathered_twice keyed fields slots front a b i more x some holds (subst (λ (field : Field). keyed a field) is key) means))

      module _ {h : Formats} {n : ℕ} (formats : h ≡ g) (inside : n ≡ levels) where
        -- the value isn't read that the struct needs there
        value_unread : {V : Type 0} {w : Input} (values : Formats → Raw → V → Type 0) (allowed : ReadErrorCode → Bool) (c : ErrorCode) (at : ℕ)
            → ((front : List (Raw × Raw)) (a b : Raw) (more : RawPairs) (x : S) → P front → keyed a field → AreFieldsOf keyed fields (append_pairs front (raw_pair a b more)) x → (v : V) × values f b v)
            → Refuses allowed u w c at (λ l bs. IsNotRead (values h) (item_at (raws (formats_of h) l) n bs)) → NoStruct allowed s w f outer c at
        value_unread {w = w} values allowed c at needs none =
            let one = subst (λ (h : Formats). Refuses allowed u w c at (λ l bs. IsNotRead (values h) (item_at (raws (formats_of h) l) n bs))) (formats ∙ so.formats) none in
            let two = subst (λ (n : ℕ). Refuses allowed u w c at (λ l bs. IsNotRead (values f) (item_at (raws (formats_of f) l) n bs))) (inside ∙ so.inside) one in
            none_refused allowed c at (key_unread so.first P f so.deep so.all keyed r new field t u so.so_far key_here (AreFieldsOf keyed fields) allowed c at (values f) needs two)

        -- the value of a field isn't read
        pub field_unread : {V : Type 0} {w : Input} (values : Formats → Raw → V → Type 0) (allowed : ReadErrorCode → Bool) (c : ErrorCode) (at : ℕ) (i : ℕ) → field ≡ Known i → Has false fields i slots
            → ((b : Raw) (v : ValueAt fields i) → reads_at fields i b v → (v : V) × values f b v)
            → Refuses allowed u w c at (λ l bs. IsNotRead (values h) (item_at (raws (formats_of h) l) n bs)) → NoStruct allowed s w f outer c at
        field_unread values allowed c at i is missing means_so =
            value_unread values allowed c at
            (λ front a b more x holds key means.
            let v = gathered_value keyed fields slots front a b i more x missing holds (subst (λ (field : Field). keyed a field) is key) means in
            means_so b v.0 v.1)

        -- the value of another key isn't there
        pub other_unread : {w : Input} (allowed : ReadErrorCode → Bool) (c : ErrorCode) (at : ℕ) → Refuses allowed u w c at (λ l bs. IsNotRead IsAny (item_at (raws (formats_of h) l) n bs)) → NoStruct allowed s w f outer c at
        other_unread allowed c at = value_unread (λ (f : Formats). IsAny) allowed c at (λ front a b more x holds key means. (tt, tt))

        module _ {w : Input} {last : Remaining} {k : Formats} {m : ℕ} (formats' : k ≡ h) (inside' : m ≡ n) (remaining : last ≡ new) where
          value_taken : {V : Type 0} (values : Formats → Raw → V → Type 0) (v : V) (slots' : Slots fields)
              → ((front : List (Raw × Raw)) (a b : Raw) → P front → keyed a field → values f b v → Gathered keyed fields slots' (front ++ (a, b) ∷ []))
              → Step u w (λ l bs rest. IsRead (values h) (item_at (raws (formats_of h) l) n bs) v rest) → StructSoFar slots' s f outer w k m last
          value_taken values v slots' on value = record {
            first = so.first;
            deep = so.deep;
            all = so.all;
            head = so.head;
            so_far = subst (λ (r : Remaining). Step so.first w (PairsSoFar (Gathered keyed fields slots') (formats_of f) so.deep (remaining_of so.all) (remaining_of r))) (sym remaining)
                (map_goes_on so.first P f so.deep so.all g levels so.formats so.inside (λ (f : Formats). keyed) values r t new u field h n (formats ∙ so.formats) (inside ∙ so.inside)
                (Gathered keyed fields slots') w v on so.so_far key_there value);
            formats = formats' ∙ formats ∙ so.formats;
            inside = inside' ∙ inside ∙ so.inside;
          }

          -- a field was read
          pub field_read : MeansOneField keyed → {V : Type 0} (values : Formats → Raw → V → Type 0) (v : V) (i : ℕ) → field ≡ Known i → Has false fields i slots
              → (x : ValueAt fields i) → ((b : Raw) → values f b v → reads_at fields i b x)
              → Step u w (λ l bs rest. IsRead (values h) (item_at (raws (formats_of h) l) n bs) v rest) → StructSoFar (put fields i x slots) s f outer w k m last
          field_read one values v i is missing x means_so =
              value_taken values v (put fields i x slots)
              (λ front a b holds key means. gathered_set keyed fields slots front a b one i x missing holds (subst (λ (field : Field). keyed a field) is key) (means_so b means))

          -- the value of another key was passed over
          pub other_passed : MeansOneField keyed → IsOther 0 fields field → Step u w (λ l bs rest. IsRead IsAny (item_at (raws (formats_of h) l) n bs) tt rest) → StructSoFar slots s f outer w k m last
          other_passed one other = value_taken (λ (f : Formats). IsAny) tt slots (λ front a b holds key means. gathered_other keyed fields slots front a b one field other holds key)

    -- ---- at the end

    module _ (next : Option Field) (none : next ≡ None) {u : Input} (new : Remaining) (key : Step t u (IsKey keyed (formats_of g) levels (remaining_of r) (remaining_of new) next)) where
      pub end_here : Step t u (IsMapEnd (remaining_of r))
      end_here = subst (λ (o : Option Field). Step t u (IsKey keyed (formats_of g) levels (remaining_of r) (remaining_of new) o)) none key

      -- a field is missing
      pub field_missing : (allowed : ReadErrorCode → Bool) (c : ErrorCode) (at : ℕ) (i : ℕ) → LacksAt fields i slots → NoStruct allowed s u f outer c at
      field_missing allowed c at i missing =
          none_refused allowed c at
          (end_excluded so.first P f so.deep so.all keyed r new Unknown (AreFieldsOf keyed fields) allowed c at t u so.so_far end_here
          (λ front x holds means. gathered_missing keyed fields slots front i x missing holds means))

      -- the end isn't there, which can't be
      pub end_unread : (allowed : ReadErrorCode → Bool) (w : Input) (e : Error) → new ≡ Counted 0 → TakesEndOf collection.Map allowed new u w (Err e) → NoStruct allowed s w f outer (code_of e) (offset_of e)
      end_unread allowed w e nothing h = map_end_refused so.first P f so.deep so.all (AreFieldsOf keyed fields) outer s allowed t u w r new e nothing so.head so.so_far end_here h

      -- all fields were read, or what stands for them is there
      pub struct_held : {w z : Input} (x : S) → AreHeld fields slots x → new ≡ Counted 0 → TakesEndOf collection.Map (λ c. false) new u w (Ok tt) → z ≡ w → ReadsStruct s z f outer x
      struct_held {w} {z} x all nothing ended is =
          map_takes so.first P f so.deep so.all (AreFieldsOf keyed fields) outer s t w z r x (λ front holds. gathered_all keyed fields slots front x all holds)
          so.head so.so_far (map_end_twice (remaining_of r) new t u w nothing end_here ended) is

      -- all fields were read
      pub struct_read : {w z : Input} (x : S) → slots ≡ all_of fields x → new ≡ Counted 0 → TakesEndOf collection.Map (λ c. false) new u w (Ok tt) → z ≡ w → ReadsStruct s z f outer x
      struct_read x all = struct_held x (all_held fields slots x all)

  -- ---- fields that are read once into their slots

  -- What a field's key is known by, which `next_field` answered.
  module _ {slots : Slots fields} {s : Input} {f : Formats} {outer : ℕ} {t : Input} {g : Formats} {levels : ℕ} {r : Remaining} where
    pub record FieldNamed (so : StructSoFar slots s f outer t g levels r) (field : Field) (new : Remaining) (u : Input) (h : Formats) (n : ℕ) : Type 0 where
      pub named : Step t u (IsKey keyed (formats_of g) levels (remaining_of r) (remaining_of new) (Some field))
      pub formats : h ≡ g
      pub inside : n ≡ levels

    pub field_named : (so : StructSoFar slots s f outer t g levels r) (next : Option Field) (field : Field) → next ≡ Some field → {u : Input} (new : Remaining)
        → Step t u (IsKey keyed (formats_of g) levels (remaining_of r) (remaining_of new) next) → {h : Formats} {n : ℕ} → h ≡ g → n ≡ levels → FieldNamed so field new u h n
    field_named so next field is new key formats inside = record { named = key_there so next field is new key; formats = formats; inside = inside }

    module _ {so : StructSoFar slots s f outer t g levels r} {field : Field} {new : Remaining} {u : Input} {h : Formats} {n : ℕ} (key : FieldNamed so field new u h n) where
      module _ (i : ℕ) (is : field ≡ Known i) (values : Formats → Raw → ValueAt fields i → Type 0) where
        -- a field isn't read into its slot: it is there again, or its value isn't read
        pub field_not_once : {w : Input} (allowed : ReadErrorCode → Bool) (c : ErrorCode) (at : ℕ)
            → {A : Type 0} (slot : Option A) → ((b : Bool) → is_some slot ≡ b → Has b fields i slots)
            → ((b : Raw) (v : ValueAt fields i) → reads_at fields i b v → values f b v)
            → Refuses allowed u w c at (λ l bs. is_some slot ≡ false → IsNotRead (values h) (item_at (raws (formats_of h) l) n bs)) → NoStruct allowed s w f outer c at
        field_not_once allowed c at None has means_so none =
            field_unread so (Some field) field refl new key.named key.formats key.inside values allowed c at i is (has false refl) (λ b v means. (v, means_so b v means)) (refuses_map allowed u c at _ _ (λ l bs none. none refl) none)
        field_not_once allowed c at (Some x) has means_so none =
            refuses_on (field_twice so (Some field) field refl new key.named allowed c at i is (has true refl)) none.took

        -- a field is read into its slot
        pub field_once : MeansOneField keyed → {w : Input} {last : Remaining} {k : Formats} {m : ℕ} → k ≡ h → m ≡ n → last ≡ new → Has false fields i slots → (slot : Option (ValueAt fields i)) → is_some slot ≡ true
            → ((b : Raw) (v : ValueAt fields i) → values f b v → reads_at fields i b v)
            → IfSome slot (λ v. Step u w (λ l bs rest. IsRead (values h) (item_at (raws (formats_of h) l) n bs) v rest)) → StructSoFar (fill fields i slot slots) s f outer w k m last
        field_once one formats inside remaining missing None some means_so read = absurd cc
        field_once one {w} {last} {k} {m} formats inside remaining missing (Some v) some means_so read =
            subst (λ (slots : Slots fields). StructSoFar slots s f outer w k m last) (filled fields i v slots)
            (field_read so (Some field) field refl new key.named key.formats key.inside formats inside remaining one values v i is missing v (λ b means. means_so b v means) read)
