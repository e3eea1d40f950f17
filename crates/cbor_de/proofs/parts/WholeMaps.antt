-- A whole map, from its head to its end.
use Rattle.std.proofs.Common.{◌≡◌, ℕ, Bool, List, [], ◌∷◌, ◌++◌, Some, None, Ok, Err, sym, ap, subst, ◌∙◌}
use Rattle.cbor_model.specs.Formats as model
use Rattle.cbor_model.specs.Raw.{Raw, RawPairs, no_raw_pairs}
use Rattle.cbor_model.specs.Readable.{PassesTags}
use Rattle.cbor_model.specs.Refusal.{end_in_map}
use Rattle.cbor_model.specs.Reader.{Fault, item_at}
use Rattle.cbor_model.specs.Reader as reader
use Rattle.cbor_model.proofs.facts.Reader.{ok_is}
use Rattle.cbor_read.specs.Source.{Input}
use Rattle.cbor_io.specs.Error.{code_of, offset_of}
use Rattle.cbor_io.specs.declared.error.Error.{Error}
use Rattle.cbor_io.specs.declared.error.ErrorCode.{ErrorCode}
use Rattle.cbor_io.specs.declared.read_error.ReadErrorCode.{ReadErrorCode}
use Rattle.cbor_decode.specs.Cursor.{ended_at}
use Rattle.cbor_decode.specs.Gives.{Limits, Step}
use Rattle.cbor_decode.specs.Heads.{remaining_of}
use Rattle.cbor_decode.specs.declared.cursor.Remaining.{Remaining}
use Rattle.cbor_decode.specs.declared.cursor.Remaining.TheVariants.{Counted}
use Rattle.cbor_decode.proofs.facts.Steps.{step_same, step_then}
use Rattle.cbor_decode.specs.declared.formats.Formats.{Formats}
use Rattle.cbor_decode_as.specs.MapAccesses.{pairs_at, IsKey, IsNextKey, IsMapEnd}
use Rattle.cbor_decode_as.specs.Collections.{IsHeadOf, IsHeld, RefusesHeadOf, TakesEndOf}
use Rattle.cbor_decode_as.specs.Maps.{AsMap}
use Rattle.cbor_decode_as.specs.Takes.{formats_of, raws, IsRead, IsNotRead, Refuses}
use Rattle.cbor_decode_as.proofs.facts.Collections.{held_none, held_read, none_as_one}
use Rattle.cbor_decode_as.proofs.facts.Readings.{refuses_map, refuses_then, refuses_fault}
use Rattle.cbor_decode_as.proofs.facts.Maps.{append_pairs, PairsSoFar, pairs_begin, pairs_go_on, pairs_end, pairs_rest, NoKey, no_key_rest, no_value_rest, PairMayFollow}
use Rattle.cbor_decode.specs.declared.cursor.Collection.TheVariants as collection

-- ---- the end

-- nothing is taken after the end
pub map_end_twice : (r : reader.Remaining) (new : Remaining) (t u w : Input) → new ≡ Counted 0 → Step t u (IsMapEnd r) → Step u w (λ l bs rest. ended_at end_in_map (remaining_of new) bs ≡ Ok (tt, rest)) → Step t w (IsMapEnd r)
unfolding ended_at
map_end_twice r new t u w is one two = step_then t u w (IsMapEnd r) (λ l bs rest. ended_at end_in_map (remaining_of new) bs ≡ Ok (tt, rest)) (IsMapEnd r)
    (λ l bs mid rest e done.
    let here : ended_at end_in_map (reader.counted 0) mid ≡ Ok (tt, rest) = subst (λ (r : Remaining). ended_at end_in_map (remaining_of r) mid ≡ Ok (tt, rest)) is done in
    e ∙ ap (λ (p : Unit {0} × List ℕ). Ok (None, p.1)) (ok_is (tt, mid) (tt, rest) here)) one two

-- no end is refused where nothing remains
none_remains : (new : Remaining) (bs : List ℕ) (f : Fault) → new ≡ Counted 0 → ended_at end_in_map (remaining_of new) bs ≡ Err f → ⊥
unfolding ended_at
none_remains new bs f is e =
    let here : ended_at end_in_map (reader.counted 0) bs ≡ Err f = subst (λ (r : Remaining). ended_at end_in_map (remaining_of r) bs ≡ Err f) is e in
    absurd cc

no_end_refused : (allowed : ReadErrorCode → Bool) (s u w : Input) (new : Remaining) (e : Error) (P : Limits → List ℕ → List ℕ → Type 0) (N : Limits → List ℕ → Type 0) → new ≡ Counted 0 → Step s u P → TakesEndOf collection.Map allowed new u w (Err e) → Refuses allowed s w (code_of e) (offset_of e) N
no_end_refused allowed s u w new e P N is step h =
    refuses_then allowed s (code_of e) (offset_of e) u P (λ l bs. ⊥) N (λ l bs mid p none. absurd none) step
    (refuses_fault allowed (λ l. ended_at end_in_map (remaining_of new)) u e (λ l bs. ⊥) (λ l bs f stops. none_remains new bs f is stops) h.0 h.1)

-- ---- the pairs

-- the pairs of all aren't read as anything
abbrev pub NoPairs : {A : Type 0} → (RawPairs → A → Type 0) → model.Formats → ℕ → reader.Remaining → Limits → List ℕ → Type 0
NoPairs {A} pairs f levels all l bs = (rs : RawPairs) (rest : List ℕ) (x : A) → pairs_at f l levels all bs ≡ Ok (rs, rest) → pairs rs x → ⊥

-- what P says of the pairs before is followed by a pair that is read, or by none
abbrev pub Follows : {K V A : Type 0} → (List (Raw × Raw) → Type 0) → (Raw → K → Type 0) → (Raw → V → Type 0) → (RawPairs → A → Type 0) → Type 0
Follows {A = A} P keys values pairs = (front : List (Raw × Raw)) (more : RawPairs) (x : A) → P front → pairs (append_pairs front more) x → PairMayFollow keys values more

module _ (s0 : Input) (P : List (Raw × Raw) → Type 0) (f : Formats) (levels : ℕ) (all : Remaining) where
  abbrev pub So : (List (Raw × Raw) → Type 0) → Remaining → Limits → List ℕ → List ℕ → Type 0
  So Q r = PairsSoFar Q (formats_of f) levels (remaining_of all) (remaining_of r)

  pub map_begins : P [] → Step s0 s0 (So P all)
  map_begins holds = step_same s0 (So P all) (λ l bs. pairs_begin P (formats_of f) levels (remaining_of all) l bs holds)

  module _ (g : Formats) (inside : ℕ) (formats : g ≡ f) (same : inside ≡ levels) {K V : Type 0} (keys : Formats → Raw → K → Type 0) (values : Formats → Raw → V → Type 0) (r : Remaining) (s : Input) where
    abbrev KeyIs : Remaining → K → Limits → List ℕ → List ℕ → Type 0
    KeyIs new k l bs rest = IsNextKey (keys f) (formats_of f) levels (remaining_of r) (remaining_of new) k l bs rest

    keyed : (new : Remaining) (t : Input) (k : K) → Step s t (IsKey (keys g) (formats_of g) inside (remaining_of r) (remaining_of new) (Some k)) → Step s t (KeyIs new k)
    keyed new t k h =
        let h' = subst (λ (g : Formats). Step s t (IsKey (keys g) (formats_of g) inside (remaining_of r) (remaining_of new) (Some k))) formats h in
        subst (λ (n : ℕ). Step s t (IsKey (keys f) (formats_of f) n (remaining_of r) (remaining_of new) (Some k))) same h'

    -- the key after the pairs so far
    record KeyTaken (new : Remaining) (k : K) (l : Limits) (bs rest : List ℕ) : Type 0 where
      mid : List ℕ
      so : So P r l bs mid
      key : KeyIs new k l mid rest

    key_taken : (new : Remaining) (t : Input) (k : K) → Step s0 s (So P r) → Step s t (IsKey (keys g) (formats_of g) inside (remaining_of r) (remaining_of new) (Some k)) → Step s0 t (KeyTaken new k)
    key_taken new t k one two = step_then s0 s t (So P r) (KeyIs new k) (KeyTaken new k) (λ l bs mid rest so key. record { mid = mid; so = so; key = key }) one (keyed new t k two)

    module _ (new : Remaining) (t : Input) (k : K) (h : Formats) (deep : ℕ) (formats' : h ≡ f) (same' : deep ≡ levels) where
      pub map_goes_on : (Q : List (Raw × Raw) → Type 0) (u : Input) (v : V) → ((front : List (Raw × Raw)) (a b : Raw) → P front → keys f a k → values f b v → Q (front ++ (a, b) ∷ []))
          → Step s0 s (So P r) → Step s t (IsKey (keys g) (formats_of g) inside (remaining_of r) (remaining_of new) (Some k)) → Step t u (λ l bs rest. IsRead (values h) (item_at (raws (formats_of h) l) deep bs) v rest) → Step s0 u (So Q new)
      map_goes_on Q u v on one two three =
          let three' = subst (λ (h : Formats). Step t u (λ l bs rest. IsRead (values h) (item_at (raws (formats_of h) l) deep bs) v rest)) formats' three in
          let value = subst (λ (n : ℕ). Step t u (λ l bs rest. IsRead (values f) (item_at (raws (formats_of f) l) n bs) v rest)) same' three' in
          step_then s0 t u (KeyTaken new k) (λ l bs rest. IsRead (values f) (item_at (raws (formats_of f) l) levels bs) v rest) (So Q new)
          (λ l bs mid rest key value.
          pairs_go_on P (formats_of f) levels (remaining_of all) (keys f) (values f) k v Q on (remaining_of r) (remaining_of new) l bs key.mid rest key.so
          (record { mid = mid; key = key.key; value = value })) (key_taken new t k one two) value

      pub value_lacks : {A : Type 0} {w : Input} (pairs : RawPairs → A → Type 0) (allowed : ReadErrorCode → Bool) (c : ErrorCode) (at : ℕ) → Follows P (keys f) (values f) pairs
          → Step s0 s (So P r) → Step s t (IsKey (keys g) (formats_of g) inside (remaining_of r) (remaining_of new) (Some k)) → Refuses allowed t w c at (λ l bs. IsNotRead (values h) (item_at (raws (formats_of h) l) deep bs)) → Refuses allowed s0 w c at (NoPairs pairs (formats_of f) levels (remaining_of all))
      value_lacks {w = w} pairs allowed c at follows one two three =
          let three' = subst (λ (h : Formats). Refuses allowed t w c at (λ l bs. IsNotRead (values h) (item_at (raws (formats_of h) l) deep bs))) formats' three in
          let value = subst (λ (n : ℕ). Refuses allowed t w c at (λ l bs. IsNotRead (values f) (item_at (raws (formats_of f) l) n bs))) same' three' in
          refuses_then allowed s0 c at t (KeyTaken new k) (λ l bs. IsNotRead (values f) (item_at (raws (formats_of f) l) levels bs)) (NoPairs pairs (formats_of f) levels (remaining_of all))
          (λ l bs mid key none rs rest x is means.
          let w = pairs_rest P (formats_of f) levels (remaining_of all) (remaining_of r) l bs key.mid rest rs key.so is in
          no_value_rest (keys f) (values f) (formats_of f) levels (remaining_of r) l key.mid
          (record { behind = remaining_of new; start = key.key.start; key = key.key.key.item; mid = mid; next = key.key.next; is = key.key.key.is; none = none })
          w.more rest w.is (follows w.front w.more x w.holds (subst (λ (rs : RawPairs). pairs rs x) w.same means))) (key_taken new t k one two) value

    pub key_lacks : {A : Type 0} {w : Input} (pairs : RawPairs → A → Type 0) (allowed : ReadErrorCode → Bool) (c : ErrorCode) (at : ℕ) → Follows P (keys f) (values f) pairs
        → Step s0 s (So P r) → Refuses allowed s w c at (NoKey (keys g) (formats_of g) inside (remaining_of r)) → Refuses allowed s0 w c at (NoPairs pairs (formats_of f) levels (remaining_of all))
    key_lacks {w = w} pairs allowed c at follows one two =
        let two' = subst (λ (g : Formats). Refuses allowed s w c at (NoKey (keys g) (formats_of g) inside (remaining_of r))) formats two in
        let key = subst (λ (n : ℕ). Refuses allowed s w c at (NoKey (keys f) (formats_of f) n (remaining_of r))) same two' in
        refuses_then allowed s0 c at s (So P r) (NoKey (keys f) (formats_of f) levels (remaining_of r)) (NoPairs pairs (formats_of f) levels (remaining_of all))
        (λ l bs mid so none rs rest x is means.
        let w = pairs_rest P (formats_of f) levels (remaining_of all) (remaining_of r) l bs mid rest rs so is in
        no_key_rest (keys f) (values f) (formats_of f) levels (remaining_of r) l mid none w.more rest w.is (follows w.front w.more x w.holds (subst (λ (rs : RawPairs). pairs rs x) w.same means))) one key

  -- ---- the map

  module _ {A : Type 0} (pairs : RawPairs → A → Type 0) (outer : ℕ) (s : Input) where
    abbrev Head : Limits → List ℕ → List ℕ → Type 0
    Head l bs rest = IsHeadOf collection.Map (formats_of f) l (item_at (raws (formats_of f) l) outer bs) levels all rest

    abbrev IsMapRead : A → Limits → List ℕ → List ℕ → Type 0
    IsMapRead x l bs rest = IsRead (PassesTags (AsMap pairs)) (item_at (raws (formats_of f) l) outer bs) x rest

    abbrev ArePairsAt : A → Limits → List ℕ → List ℕ → Type 0
    ArePairsAt x l bs rest = (rs : RawPairs) × (pairs_at (formats_of f) l levels (remaining_of all) bs ≡ Ok (rs, rest)) × pairs rs x

    pub map_takes : (t u w : Input) (r : Remaining) (x : A) → ((front : List (Raw × Raw)) → P front → pairs (append_pairs front no_raw_pairs) x)
        → Step s s0 Head → Step s0 t (So P r) → Step t u (IsMapEnd (remaining_of r)) → w ≡ u → Step s w (IsMapRead x)
    map_takes t u w r x on head so end is =
        let both = step_then s0 t u (So P r) (IsMapEnd (remaining_of r)) (ArePairsAt x)
        (λ l bs mid rest h e.
        let d = pairs_end P (formats_of f) levels (remaining_of all) (remaining_of r) l bs mid rest h e in
        (append_pairs d.front no_raw_pairs, d.is, on d.front d.holds)) so end in
        let all_read = step_then s s0 u Head (ArePairsAt x) (IsMapRead x)
        (λ l bs mid rest h d. held_read collection.Map pairs (formats_of f) l (item_at (raws (formats_of f) l) outer bs) levels all mid h d.0 rest x d.1 d.2) head both in
        subst (λ (w : Input). Step s w (IsMapRead x)) (sym is) all_read

    pub map_refused : {w : Input} (allowed : ReadErrorCode → Bool) (k : ErrorCode) (at : ℕ) → Step s s0 Head → Refuses allowed s0 w k at (NoPairs pairs (formats_of f) levels (remaining_of all))
        → Refuses allowed s w k at (λ l bs. IsNotRead (PassesTags (AsMap pairs)) (item_at (raws (formats_of f) l) outer bs))
    map_refused allowed k at head none = refuses_then allowed s k at s0 Head (NoPairs pairs (formats_of f) levels (remaining_of all)) (λ l bs. IsNotRead (PassesTags (AsMap pairs)) (item_at (raws (formats_of f) l) outer bs))
        (λ l bs mid h n. held_none collection.Map pairs (formats_of f) l (item_at (raws (formats_of f) l) outer bs) levels all mid h n) head none

    -- nothing remains, so that the end can't be refused
    pub map_end_refused : (allowed : ReadErrorCode → Bool) (t u w : Input) (r new : Remaining) (e : Error) → new ≡ Counted 0
        → Step s s0 Head → Step s0 t (So P r) → Step t u (IsMapEnd (remaining_of r)) → TakesEndOf collection.Map allowed new u w (Err e) → Refuses allowed s w (code_of e) (offset_of e) (λ l bs. IsNotRead (PassesTags (AsMap pairs)) (item_at (raws (formats_of f) l) outer bs))
    map_end_refused allowed t u w r new e none head so end h =
        let one = step_then s s0 t Head (So P r) (λ l bs rest. Unit {0}) (λ l bs mid rest a b. tt) head so in
        let two = step_then s t u (λ l bs rest. Unit {0}) (IsMapEnd (remaining_of r)) (λ l bs rest. Unit {0}) (λ l bs mid rest a b. tt) one end in
        no_end_refused allowed s u w new e (λ l bs rest. Unit {0}) (λ l bs. IsNotRead (PassesTags (AsMap pairs)) (item_at (raws (formats_of f) l) outer bs)) none two h

-- no map is there
pub no_map_read : {A : Type 0} {w : Input} (pairs : RawPairs → A → Type 0) (allowed : ReadErrorCode → Bool) (f : model.Formats) (levels : ℕ) (s : Input) (e : Error) → RefusesHeadOf collection.Map allowed f levels s w e → Refuses allowed s w (code_of e) (offset_of e) (λ l bs. IsNotRead (PassesTags (AsMap pairs)) (item_at (raws f l) levels bs))
no_map_read pairs allowed f levels s e h = refuses_map allowed s (code_of e) (offset_of e) (λ l bs. IsNotRead (PassesTags (IsHeld collection.Map)) (item_at (raws f l) levels bs)) (λ l bs. IsNotRead (PassesTags (AsMap pairs)) (item_at (raws f l) levels bs)) (λ l bs none. none_as_one collection.Map pairs (item_at (raws f l) levels bs) none) h
