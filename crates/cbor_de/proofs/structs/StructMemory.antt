-- Where memory is asked for to read a struct: what a call that ran out of it says of the whole.
use Rattle.std.proofs.Common.{◌≡◌, inl, inr, ℕ, List, [], ◌∷◌, Option, Some, None, Ok, sym, ap, subst, ◌∙◌}
use Rattle.cbor_model.specs.Raw as raw
use Rattle.cbor_model.specs.Raw.{Length, Raw, RawPairs, no_raw_pairs, raw_pair}
use Rattle.cbor_model.specs.Readable.{untagged}
use Rattle.cbor_model.specs.Reader.{item_at}
use Rattle.cbor_model.specs.Reader as reader
use Rattle.cbor_model.proofs.facts.Reader.{ok_is}
use Rattle.cbor_read.specs.Source.{Asks, Input}
use Rattle.cbor_io.specs.declared.error.Error.{Error}
use Rattle.cbor_decode.specs.Gives.{Limits, Step}
use Rattle.cbor_decode.specs.Heads.{remaining_of}
use Rattle.cbor_decode.specs.declared.cursor.Remaining.{Remaining}
use Rattle.cbor_decode.specs.declared.formats.Formats.{Formats}
use Rattle.cbor_decode.specs.declared.head.Head.TheVariants as head
use Rattle.cbor_decode.proofs.facts.Steps.{step_then}
use Rattle.cbor_decode_as.specs.Begins.{MemoryForOther}
use Rattle.cbor_decode_as.specs.MapAccesses.{IsKey, IsMapEnd, IsNextKey, MemoryForKey, pairs_at}
use Rattle.cbor_decode_as.specs.Collections.{IsHeadOf}
use Rattle.cbor_decode_as.specs.Strings.{IsAskedString}
use Rattle.cbor_decode_as.specs.Takes.{IsRead, MemoryFor, formats_of, raws}
use Rattle.cbor_decode_as.proofs.facts.Maps.{PairsDone, PairsSoFar, another, append_pairs, first_pair, last, pairs_end, pairs_rest}
use Rattle.cbor_decode_as.proofs.facts.Collections.{held_is, other_none}
use Rattle.cbor_decode_as.proofs.facts.Readings.{OutOfMemoryAt, memory_by, memory_then}
use Rattle.cbor_de.specs.Structs.{AreFields, AreFieldsOf, FieldOf, IsMapOf}
use Rattle.cbor_de.specs.StructMemory.{AsksForFields, AsksForPair, AsksForValue, InMap, SomePair}
use Rattle.cbor_de.specs.declared.field.Field.{Field}
use Rattle.cbor_de.proofs.structs.Slots.{Gathered, LacksAt, Slots, gathered_missing}
use Rattle.cbor_de.proofs.structs.Structs.{KeyTaken, StructSoFar, end_here, key_here, key_taken, pair_at_key}
use Rattle.cbor_decode.specs.declared.cursor.Collection.TheVariants as collection

-- ---- pairs

module _ (P : Raw → Raw → Type 0) where
  some_behind : (front : List (Raw × Raw)) (a b : Raw) (more : RawPairs) → P a b → SomePair P (append_pairs front (raw_pair a b more))
  some_behind [] a b more h = inl h
  some_behind (p ∷ front) a b more h = inr (some_behind front a b more h)

  in_map : (r : Raw) (l : Length) (rs : RawPairs) → untagged r ≡ raw.map l rs → SomePair P rs → InMap P (untagged r)
  in_map r l rs is h = subst (InMap P) (sym is) h

-- each key of a struct means a field, or none
keys_at : (keyed : Raw → Field → Type 0) (front : List (Raw × Raw)) (k v : Raw) (more : RawPairs) → AreFields keyed (append_pairs front (raw_pair k v more)) → (field : Field) × keyed k field
keys_at keyed [] k v more h = h.0
keys_at keyed (p ∷ front) k v more h = keys_at keyed front k v more h.1

-- ---- structs

module _ {S : Type 0} (keyed : Raw → Field → Type 0) (fields : List (FieldOf S)) (a : Asks) (values : ℕ → Raw → Type 0) where
  abbrev P : Raw → Raw → Type 0
  P = AsksForPair keyed a values

  -- What is said of the struct at the front.
  abbrev Asked : Formats → ℕ → Limits → List ℕ → Type 0
  Asked f outer l bs = (x : S) (rest : List ℕ) → (got : IsRead (IsMapOf keyed fields) (item_at (raws (formats_of f) l) outer bs) x rest) → AsksForFields keyed a values got.item

  -- ---- its head

  pub head_asked : (f : Formats) (outer : ℕ) (s : Input) (e : Error) → MemoryForOther head.Map outer s e → MemoryFor (AsksForFields keyed a values) (formats_of f) (IsMapOf keyed fields) outer s e
  head_asked f outer s e h out bs reports x rest got = absurd (other_none collection.Map (AreFieldsOf keyed fields) (formats_of f) _ outer bs (h out bs reports) x rest got)

  module _ {slots : Slots fields} {s : Input} {f : Formats} {outer : ℕ} {t : Input} {g : Formats} {levels : ℕ} {r : Remaining} (so : StructSoFar keyed fields slots s f outer t g levels r) where
    abbrev Q : List (Raw × Raw) → Type 0
    Q = Gathered keyed fields slots

    abbrev Head : Limits → List ℕ → List ℕ → Type 0
    Head l bs rest = IsHeadOf collection.Map (formats_of f) l (item_at (raws (formats_of f) l) outer bs) so.deep so.all rest

    -- the map's head, and what is known of what follows it
    record Behind (R : Limits → List ℕ → List ℕ → Type 0) (l : Limits) (bs rest : List ℕ) : Type 0 where
      mid : List ℕ
      head : Head l bs mid
      then : R l mid rest

    behind : (R : Limits → List ℕ → List ℕ → Type 0) (u : Input) → Step so.first u R → Step s u (Behind R)
    behind R u step = step_then s so.first u Head R (Behind R) (λ l bs mid rest h k. record { mid = mid; head = h; then = k }) so.head step

    abbrev Pairs : Limits → List ℕ → RawPairs → List ℕ → Type 0
    Pairs l mid rs rest = pairs_at (formats_of f) l so.deep (remaining_of so.all) mid ≡ Ok (rs, rest)

    -- what is said of the map's pairs is said of it
    of_pairs : (l : Limits) (bs mid : List ℕ) → Head l bs mid → ((rs : RawPairs) (rest : List ℕ) (x : S) → Pairs l mid rs rest → AreFieldsOf keyed fields rs x → SomePair P rs) → Asked f outer l bs
    of_pairs l bs mid h on x rest got =
        let m = held_is collection.Map (AreFieldsOf keyed fields) (formats_of f) l (item_at (raws (formats_of f) l) outer bs) so.deep so.all mid h x rest got in
        in_map P got.item h.len m.rs m.same (on m.rs rest x m.is m.means)

    -- ---- a key

    abbrev NextAsks : Formats → ℕ → Limits → List ℕ → Type 0
    NextAsks g levels l bs =
        ((k : Field) (after : reader.Remaining) (rest : List ℕ) → (next : IsNextKey keyed (formats_of g) levels (remaining_of r) after k l bs rest) → IsAskedString a next.key.item)
        × ((rest : List ℕ) → IsMapEnd (remaining_of r) l bs rest → ⊥)

    key_behind : (l : Limits) (bs here : List ℕ) → Behind (PairsSoFar Q (formats_of f) so.deep (remaining_of so.all) (remaining_of r)) l bs here → NextAsks f so.deep l here → Asked f outer l bs
    key_behind l bs here b asks = of_pairs l bs b.mid b.head (λ rs rest x is means.
        let w = pairs_rest Q (formats_of f) so.deep (remaining_of so.all) (remaining_of r) l b.mid here rest rs b.then is in
        elim (first_pair (formats_of f) l so.deep (remaining_of r) here w.more rest w.is) [
          | last n e ↦ absurd (asks.1 rest n)
          | another behind start k mid v after more n key value e ↦
              let fields' : AreFieldsOf keyed fields (append_pairs w.front (raw_pair k v more)) x = subst (λ (q : RawPairs). AreFieldsOf keyed fields q x) (w.same ∙ ap (append_pairs w.front) e) means in
              let named = keys_at keyed w.front k v more fields'.keys in
              let asked = asks.0 named.0 behind mid (record { start = start; next = n; key = record { item = k; is = key; means = named.1 } }) in
              subst (SomePair P) (sym (w.same ∙ ap (append_pairs w.front) e)) (some_behind P w.front k v more (inl asked))
        ])

    pub key_asked : (e : Error) → MemoryForKey (IsAskedString a) (formats_of g) keyed levels r t e → MemoryFor (AsksForFields keyed a values) (formats_of f) (IsMapOf keyed fields) outer s e
    key_asked e h =
        let there = subst (λ (g : Formats). OutOfMemoryAt (NextAsks g levels) t e) so.formats h in
        let here = subst (λ (n : ℕ). OutOfMemoryAt (NextAsks f n) t e) so.inside there in
        memory_then s t e (Behind (PairsSoFar Q (formats_of f) so.deep (remaining_of so.all) (remaining_of r))) (NextAsks f so.deep) (Asked f outer) key_behind
        (behind (PairsSoFar Q (formats_of f) so.deep (remaining_of so.all) (remaining_of r)) t so.so_far) here

    -- ---- a value

    module _ (next : Option Field) (field : Field) (named : next ≡ Some field) {u : Input} (new : Remaining) (key : Step t u (IsKey keyed (formats_of g) levels (remaining_of r) (remaining_of new) next)) where
      abbrev Key : Limits → List ℕ → List ℕ → Type 0
      Key = KeyTaken so.first Q f so.deep so.all keyed r new field

      to_key : Step s u (Behind Key)
      to_key = behind Key u (key_taken so.first Q f so.deep so.all keyed r new field t u so.so_far (key_here keyed fields so next field named new key))

      -- what is asked for it, where the struct is read
      pub value_asked : {h : Formats} {n : ℕ} → h ≡ g → n ≡ levels → (e : Error) (V : Formats → ℕ → Limits → List ℕ → Type 0)
          → ((l : Limits) (here : List ℕ) (front : List (Raw × Raw)) (k v : Raw) (more : RawPairs) (x : S) (after : List ℕ) → Q front → keyed k field → item_at (raws (formats_of f) l) so.deep here ≡ Ok (v, after) → AreFieldsOf keyed fields (append_pairs front (raw_pair k v more)) x → V f so.deep l here → AsksForValue a values field v)
          → OutOfMemoryAt (V h n) u e → MemoryFor (AsksForFields keyed a values) (formats_of f) (IsMapOf keyed fields) outer s e
      value_asked {h} {n} formats inside e V on asked =
          let there = subst (λ (g : Formats). OutOfMemoryAt (V g n) u e) (formats ∙ so.formats) asked in
          let here = subst (λ (n : ℕ). OutOfMemoryAt (V f n) u e) (inside ∙ so.inside) there in
          memory_then s u e (Behind Key) (V f so.deep) (Asked f outer)
          (λ l bs here b asks. of_pairs l bs b.mid b.head (λ rs rest x is means.
          let p = pair_at_key so.first Q f so.deep so.all keyed r new field l b.mid here rest rs b.then is in
          let all = subst (λ (q : RawPairs). AreFieldsOf keyed fields q x) p.same means in
          let asked = on l here p.front p.a p.b p.more x p.after p.holds p.named p.is all asks in
          subst (SomePair P) (sym p.same) (some_behind P p.front p.a p.b p.more (inr (field, p.named, asked))))) to_key here

    -- ---- the end

    module _ (next : Option Field) (none : next ≡ None) {u : Input} (new : Remaining) (key : Step t u (IsKey keyed (formats_of g) levels (remaining_of r) (remaining_of new) next)) where
      abbrev Done : Limits → List ℕ → List ℕ → Type 0
      Done = PairsDone Q (formats_of f) so.deep (remaining_of so.all)

      to_end : Step s u (Behind Done)
      to_end = behind Done u (step_then so.first t u (PairsSoFar Q (formats_of f) so.deep (remaining_of so.all) (remaining_of r)) (IsMapEnd (remaining_of r)) Done
          (λ l bs mid rest sofar e. pairs_end Q (formats_of f) so.deep (remaining_of so.all) (remaining_of r) l bs mid rest sofar e) so.so_far (end_here keyed fields so next none new key))

      -- a field is missing, so that no struct is read
      pub missing_asked : (e : Error) (i : ℕ) → LacksAt fields i slots → MemoryFor (AsksForFields keyed a values) (formats_of f) (IsMapOf keyed fields) outer s e
      missing_asked e i lacks = memory_by s u e (Behind Done) (Asked f outer)
          (λ l bs rest b. of_pairs l bs b.mid b.head (λ rs after x is means.
          let same = ap (λ (q : RawPairs × List ℕ). q.0) (ok_is (rs, after) (append_pairs b.then.front no_raw_pairs, rest) (sym is ∙ b.then.is)) in
          absurd (gathered_missing keyed fields slots b.then.front i x lacks b.then.holds (subst (λ (q : RawPairs). AreFieldsOf keyed fields q x) same means)))) to_end
