-- That an item which is passed over has a string in chunks, by what is read of its parts.
use Rattle.std.proofs.Common.{◌≡◌, ◌∙◌, ◌⊎◌, inl, inr, ℕ, zero, suc, ◌<◌, Bool, true, false, cond, List, ◌∷◌, length, Option, Some, None, Ok, Err, refl, sym, ap, subst, arith}
use Rattle.cbor_model.specs.Formats.{Formats, may_begin_key}
use Rattle.cbor_model.specs.Head.{HeadWidth}
use Rattle.cbor_model.specs.Raw as raw
use Rattle.cbor_model.specs.Raw.{Raw, Raws, RawPairs, Length, joined}
use Rattle.cbor_model.specs.Refusal.{end_in_array, end_in_map}
use Rattle.cbor_model.specs.Reader.{Fault, Reads, Reading, ◌>>=◌, byte_at, Remaining, next_at, Parts, go_on, parts_by, parts_at, key_at, pair_at, items_of, pairs_of, chunks_at, string_chunks_at, checked_text, text_chunks_at, array_at, map_at, tag_at, after_first, item_by, item_at, inside}
use Rattle.cbor_model.specs.Value.{value}
use Rattle.cbor_model.proofs.facts.Reader.{ok_is, bind_ok, taken, next_taken, pair_taken, parts_by-fuel, key_read}
use Rattle.cbor_read.specs.Source.{Input}
use Rattle.cbor_decode.specs.Gives.{Limits, limits, values, Step}
use Rattle.cbor_decode.specs.HasChunks.{HasChunks, SomeHasChunks, SomePairHasChunks, raws, AllRead}
use Rattle.cbor_decode.specs.Heads.{behind_head, first_at, head_at, passed}
use Rattle.cbor_decode.specs.declared.head.Head.{Head}
use Rattle.cbor_decode.specs.declared.head.Head.TheVariants as head
use Rattle.cbor_decode.proofs.Heads.{first_behind}
use Rattle.cbor_decode.proofs.Items.{first_some}
use Rattle.cbor_decode.proofs.Mapped.{along, value_seen}
use Rattle.cbor_decode.proofs.Steps.{same_limits, step_map, step_then}

-- ---- what is read of a part

-- a part is read, and where has holds of it, Q holds
pub record Within {B : Type 0} (has : B → Type 0) (read : Reads B) (Q : Type 0) : Type 0 where
  pub part : B
  pub rest : List ℕ
  pub is : read ≡ Ok (part, rest)
  pub on : has part → Q

-- Where the whole is read, the part is.
abbrev pub Leads : {A B : Type 0} → (A → Type 0) → (Limits → List ℕ → Reads A) → (B → Type 0) → (Limits → List ℕ → Reads B) → Limits → List ℕ → List ℕ → Type 0
Leads {A = A} has read has' read' l bs mid = (x : A) (rest : List ℕ) → read l bs ≡ Ok (x, rest) → Within has' (read' l mid) (has x)

pub leads_same : {A : Type 0} (has : A → Type 0) (read : Limits → List ℕ → Reads A) (l : Limits) (bs : List ℕ) → Leads has read has read l bs bs
leads_same has read l bs x rest is = record { part = x; rest = rest; is = is; on = λ h. h }

pub leads_then : {A B C : Type 0} (has : A → Type 0) (read : Limits → List ℕ → Reads A) (has' : B → Type 0) (read' : Limits → List ℕ → Reads B) (has'' : C → Type 0) (read'' : Limits → List ℕ → Reads C)
    (l : Limits) (bs mid rest : List ℕ) → Leads has read has' read' l bs mid → Leads has' read' has'' read'' l mid rest → Leads has read has'' read'' l bs rest
leads_then has read has' read' has'' read'' l bs mid rest one two x after is =
    let w = one x after is in
    let v = two w.part w.rest w.is in
    record { part = v.part; rest = v.rest; is = v.is; on = λ h. w.on (v.on h) }

-- what holds of all that is read of the part holds of all that is read of the whole
pub all_then : {A B : Type 0} (has : A → Type 0) (read : Limits → List ℕ → Reads A) (has' : B → Type 0) (read' : Limits → List ℕ → Reads B) (s t : Input) → Step s t (Leads has read has' read') → AllRead has' read' t → AllRead has read s
all_then has read has' read' s t step all = λ bs reports x rest is.
    let one = step.reported bs reports in
    let same = same_limits s t bs one.rest step.took.room one.total in
    let w = one.holds x rest is in
    w.on (all one.rest one.reports w.part w.rest (subst (λ (l : Limits). read' l one.rest ≡ Ok (w.part, w.rest)) (sym same) w.is))

pub all_same : {A B : Type 0} (has : A → Type 0) (read : Limits → List ℕ → Reads A) (has' : B → Type 0) (read' : Limits → List ℕ → Reads B) (s : Input) → ((l : Limits) (bs : List ℕ) → Leads has read has' read' l bs bs) → AllRead has' read' s → AllRead has read s
all_same has read has' read' s leads all = λ bs reports x rest is.
    let w = leads (limits s bs) bs x rest is in
    w.on (all bs reports w.part w.rest w.is)

-- ---- a part and others

abbrev pub Either : {A B : Type 0} → (A → Type 0) → (B → Type 0) → A × B → Type 0
Either ha hb p = ha p.0 ⊎ hb p.1

abbrev pub both_at : {A B : Type 0} → (List ℕ → Reads A) → (List ℕ → Reads B) → List ℕ → Reads (A × B)
both_at first others bs = first bs >>= (λ a. others a.1 >>= (λ b. Ok ((a.0, b.0), b.1)))

module _ {A B : Type 0} (first : List ℕ → Reads A) (others : List ℕ → Reads B) where
  record BothRead (bs : List ℕ) (x : A × B) : Type 0 where
    a : A
    mid : List ℕ
    b : B
    rest : List ℕ
    first_is : first bs ≡ Ok (a, mid)
    others_is : others mid ≡ Ok (b, rest)
    made : (a, b) ≡ x

  both_read : (bs : List ℕ) (x : A × B) (rest : List ℕ) → both_at first others bs ≡ Ok (x, rest) → BothRead bs x
  both_read bs x rest is =
      let one = bind_ok {B = (A × B) × List ℕ} (first bs) (λ a. others a.1 >>= (λ b. Ok ((a.0, b.0), b.1))) (x, rest) is in
      let two = bind_ok {B = (A × B) × List ℕ} (others one.0.1) (λ b. Ok ((one.0.0, b.0), b.1)) (x, rest) one.2 in
      record {
        a = one.0.0;
        mid = one.0.1;
        b = two.0.0;
        rest = two.0.1;
        first_is = one.1;
        others_is = two.1;
        made = ap (λ (p : (A × B) × List ℕ). p.0) (ok_is ((one.0.0, two.0.0), two.0.1) (x, rest) two.2);
      }

  both_is : (bs mid rest : List ℕ) (a : A) (b : B) → first bs ≡ Ok (a, mid) → others mid ≡ Ok (b, rest) → both_at first others bs ≡ Ok ((a, b), rest)
  both_is bs mid rest a b p q = ap (λ (r : Reads A). r >>= (λ a. others a.1 >>= (λ b. Ok ((a.0, b.0), b.1)))) p ∙ ap (λ (r : Reads B). r >>= (λ b. Ok ((a, b.0), b.1))) q

  module _ (ha : A → Type 0) (hb : B → Type 0) where
    first_of : (bs : List ℕ) (x : A × B) (rest : List ℕ) → both_at first others bs ≡ Ok (x, rest) → Within ha (first bs) (Either ha hb x)
    first_of bs x rest is =
        let r = both_read bs x rest is in
        record { part = r.a; rest = r.mid; is = r.first_is; on = λ h. let here : Either ha hb (r.a, r.b) = inl h in subst (λ (p : A × B). Either ha hb p) r.made here }

    others_of : (bs after : List ℕ) → ((a : A) (mid : List ℕ) → first bs ≡ Ok (a, mid) → mid ≡ after) → (x : A × B) (rest : List ℕ) → both_at first others bs ≡ Ok (x, rest) → Within hb (others after) (Either ha hb x)
    others_of bs after ends x rest is =
        let r = both_read bs x rest is in
        record {
          part = r.b;
          rest = r.rest;
          is = subst (λ (m : List ℕ). others m ≡ Ok (r.b, r.rest)) (ends r.a r.mid r.first_is) r.others_is;
          on = λ h. let here : Either ha hb (r.a, r.b) = inr h in subst (λ (p : A × B). Either ha hb p) r.made here;
        }

-- ---- parts one after the other

-- what was read of parts of which one comes
record NextRead {Part Whole : Type 0} (ps : Parts Part Whole) (behind : Remaining) (more : List ℕ) (x : Whole) : Type 0 where
  part : Part
  after : List ℕ
  others : Whole
  rest : List ℕ
  part_is : ps.part more ≡ Ok (part, after)
  others_is : parts_at ps behind after ≡ Ok (others, rest)
  made : ps.add part others ≡ x

next_read : {Part Whole : Type 0} (ps : Parts Part Whole) → ((bs : List ℕ) (x : Part × List ℕ) → ps.part bs ≡ Ok x → length x.1 < length bs) → (remaining behind : Remaining) (bs more : List ℕ) → next_at ps.ends remaining bs ≡ Ok (Some behind, more) → (x : Whole) (rest : List ℕ) → parts_at ps remaining bs ≡ Ok (x, rest) → NextRead ps behind more x
unfolding parts_by
next_read {Part = Part} {Whole = Whole} ps takes remaining behind bs more next x rest is =
    let others = parts_by ps (length bs) in
    let n = bind_ok {B = Whole × List ℕ} (next_at ps.ends remaining bs) (λ n. go_on ps others n.0 n.1) (x, rest) is in
    let same : n.0 ≡ (Some behind, more) = ok_is n.0 (Some behind, more) (sym n.1 ∙ next) in
    let go : go_on ps others (Some behind) more ≡ Ok (x, rest) = subst (λ (n : Option Remaining × List ℕ). go_on ps others n.0 n.1 ≡ Ok (x, rest)) same n.2 in
    let one = bind_ok {B = Whole × List ℕ} (ps.part more) (λ first. others behind first.1 >>= (λ rest. Ok (ps.add first.0 rest.0, rest.1))) (x, rest) go in
    let two = bind_ok {B = Whole × List ℕ} (others behind one.0.1) (λ rest. Ok (ps.add one.0.0 rest.0, rest.1)) (x, rest) one.2 in
    let shorter : length one.0.1 < length bs = omega (arith, takes more one.0 one.1, next_taken ps.ends remaining bs (Some behind, more) next) in
    let fuel = parts_by-fuel ps takes (length bs) (suc (length one.0.1)) behind one.0.1 shorter (omega arith) in
    record {
      part = one.0.0;
      after = one.0.1;
      others = two.0.0;
      rest = two.0.1;
      part_is = one.1;
      others_is = sym fuel ∙ two.1;
      made = ap (λ (p : Whole × List ℕ). p.0) (ok_is (ps.add one.0.0 two.0.0, two.0.1) (x, rest) two.2);
    }

-- an item begins with its first byte
item_first : {Item Items Pairs : Type 0} (m : Reading Item Items Pairs) (levels b : ℕ) (bs : List ℕ) → item_at m levels (b ∷ bs) ≡ after_first m (inside m levels) b bs
unfolding item_at item_by byte_at
item_first m zero b bs = refl
item_first m (suc levels) b bs = refl

item_behind : {Item Items Pairs : Type 0} (m : Reading Item Items Pairs) (levels b : ℕ) (bs mid : List ℕ) → byte_at bs ≡ Ok (b, mid) → item_at m levels bs ≡ after_first m (inside m levels) b mid
unfolding item_at item_by
item_behind m zero b bs mid is = rw is refl
item_behind m (suc levels) b bs mid is = rw is refl

module _ (f : Formats) (levels : ℕ) where
  abbrev pub item : Limits → List ℕ → Reads Raw
  item l = item_at (raws f l) levels

  abbrev pub items : Remaining → Limits → List ℕ → Reads Raws
  items r l = parts_at (items_of (raws f l) (item_at (raws f l) levels)) r

  abbrev pub pairs : Remaining → Limits → List ℕ → Reads RawPairs
  pairs r l = parts_at (pairs_of (raws f l) (item_at (raws f l) levels)) r

  abbrev pub behind_first : ℕ → Limits → List ℕ → Reads Raw
  behind_first b l = after_first (raws f l) (inside (raws f l) levels) b

  -- an item that begins with b, and those after it
  abbrev pub FirstItem : ℕ → Remaining → Limits → List ℕ → Reads (Raw × Raws)
  FirstItem b behind l = both_at (behind_first b l) (items behind l)

  -- a value, and the pairs after it
  abbrev pub FirstValue : Remaining → Limits → List ℕ → Reads (Raw × RawPairs)
  FirstValue behind l = both_at (item l) (pairs behind l)

  -- a key that begins with b, its value, and the pairs after it
  abbrev pub FirstKey : ℕ → Remaining → Limits → List ℕ → Reads (Raw × (Raw × RawPairs))
  FirstKey b behind l = both_at (behind_first b l) (FirstValue behind l)

  abbrev pub ItemHas : Raw × Raws → Type 0
  ItemHas = Either HasChunks SomeHasChunks

  abbrev pub ValueHas : Raw × RawPairs → Type 0
  ValueHas = Either HasChunks SomePairHasChunks

  abbrev pub KeyHas : Raw × (Raw × RawPairs) → Type 0
  KeyHas = Either HasChunks ValueHas

  -- ---- where what was passed over ends

  passed_to : (read : Reads Raw) (rest after : List ℕ) (r : Raw) → read ≡ Ok (r, rest) → passed (along (λ (r : Raw). r) read) ≡ Ok (tt, after) → rest ≡ after
  passed_to (Ok x) rest after r is to = ap (λ (p : Raw × List ℕ). p.1) (sym (ok_is x (r, rest) is)) ∙ ap (λ (p : Unit {0} × List ℕ). p.1) (ok_is (tt, x.1) (tt, after) to)
  passed_to (Err d) rest after r is to = absurd cc

  passed_along : {A B : Type 0} (h : A → B) (k : A → A) (read : Reads A) → passed (along h read) ≡ passed (along k read)
  passed_along h k (Ok x) = refl
  passed_along h k (Err d) = refl

  item_ends : (l : Limits) (bs after : List ℕ) → passed (item_at (values f l) levels bs) ≡ Ok (tt, after) → (r : Raw) (rest : List ℕ) → item l bs ≡ Ok (r, rest) → rest ≡ after
  item_ends l bs after to r rest is =
      passed_to (item l bs) rest after r is (sym (passed_along value (λ (r : Raw). r) (item l bs)) ∙ sym (ap (λ r. passed r) (value_seen f l levels bs)) ∙ to)

  first_ends : (l : Limits) (b : ℕ) (mid after : List ℕ) → passed (after_first (values f l) (inside (values f l) levels) b mid) ≡ Ok (tt, after) → (r : Raw) (rest : List ℕ) → behind_first b l mid ≡ Ok (r, rest) → rest ≡ after
  first_ends l b mid after to r rest is =
      item_ends l (b ∷ mid) after (ap (λ r. passed r) (item_first (values f l) levels b mid) ∙ to) r rest (item_first (raws f l) levels b mid ∙ is)

  -- ---- items

  items_next : (remaining behind : Remaining) (b : ℕ) (l : Limits) (bs mid : List ℕ) → first_at end_in_array remaining bs ≡ Ok (Some (behind, b), mid) → Leads SomeHasChunks (items remaining) ItemHas (FirstItem b behind) l bs mid
  items_next remaining behind b l bs mid first x rest is =
      let n = next_read (items_of (raws f l) (item l)) (taken (raws f l) levels) remaining behind bs (b ∷ mid) (first_some end_in_array remaining behind b bs mid first) x rest is in
      let here : behind_first b l mid ≡ Ok (n.part, n.after) = sym (item_first (raws f l) levels b mid) ∙ n.part_is in
      record {
        part = (n.part, n.others);
        rest = n.rest;
        is = both_is (behind_first b l) (items behind l) mid n.after n.rest n.part n.others here n.others_is;
        on = λ h. subst SomeHasChunks n.made h;
      }

  -- another item comes
  pub item_begins : (s0 s t : Input) (all remaining behind : Remaining) (b : ℕ) → Step s0 s (Leads SomeHasChunks (items all) SomeHasChunks (items remaining)) → Step s t (λ l bs mid. first_at end_in_array remaining bs ≡ Ok (Some (behind, b), mid)) → Step s0 t (Leads SomeHasChunks (items all) ItemHas (FirstItem b behind))
  item_begins s0 s t all remaining behind b =
      step_then s0 s t (Leads SomeHasChunks (items all) SomeHasChunks (items remaining)) (λ l bs mid. first_at end_in_array remaining bs ≡ Ok (Some (behind, b), mid)) (Leads SomeHasChunks (items all) ItemHas (FirstItem b behind))
      (λ l bs rest mid so_far first. leads_then SomeHasChunks (items all) SomeHasChunks (items remaining) ItemHas (FirstItem b behind) l bs rest mid so_far (items_next remaining behind b l rest mid first))

  -- it has a string in chunks
  pub item_has : (s0 t : Input) (all behind : Remaining) (b : ℕ) → Step s0 t (Leads SomeHasChunks (items all) ItemHas (FirstItem b behind)) → AllRead HasChunks (behind_first b) t → AllRead SomeHasChunks (items all) s0
  item_has s0 t all behind b step has =
      all_then SomeHasChunks (items all) ItemHas (FirstItem b behind) s0 t step
      (all_same ItemHas (FirstItem b behind) HasChunks (behind_first b) t (λ l bs. first_of (behind_first b l) (items behind l) HasChunks SomeHasChunks bs) has)

  -- it was passed over
  pub item_done : (s0 t u : Input) (all behind : Remaining) (b : ℕ) → Step s0 t (Leads SomeHasChunks (items all) ItemHas (FirstItem b behind)) → Step t u (λ l mid after. passed (after_first (values f l) (inside (values f l) levels) b mid) ≡ Ok (tt, after)) → Step s0 u (Leads SomeHasChunks (items all) SomeHasChunks (items behind))
  item_done s0 t u all behind b =
      step_then s0 t u (Leads SomeHasChunks (items all) ItemHas (FirstItem b behind)) (λ l mid after. passed (after_first (values f l) (inside (values f l) levels) b mid) ≡ Ok (tt, after)) (Leads SomeHasChunks (items all) SomeHasChunks (items behind))
      (λ l bs mid after begun to. leads_then SomeHasChunks (items all) ItemHas (FirstItem b behind) SomeHasChunks (items behind) l bs mid after begun
      (others_of (behind_first b l) (items behind l) HasChunks SomeHasChunks mid after (first_ends l b mid after to)))

  -- ---- pairs

  -- what was read of a pair
  record PairRead (l : Limits) (bs : List ℕ) (kv : Raw × Raw) (after : List ℕ) : Type 0 where
    at_value : List ℕ
    key_is : item l bs ≡ Ok (kv.0, at_value)
    value_is : item l at_value ≡ Ok (kv.1, after)

  pair_read : (l : Limits) (bs : List ℕ) (kv : Raw × Raw) (after : List ℕ) → pair_at (may_begin_key f) (item l) bs ≡ Ok (kv, after) → PairRead l bs kv after
  unfolding pair_at
  pair_read l bs kv after is =
      let k = bind_ok {B = (Raw × Raw) × List ℕ} (key_at (may_begin_key f) (item l) bs) (λ k. item l k.1 >>= (λ v. Ok ((k.0, v.0), v.1))) (kv, after) is in
      let v = bind_ok {B = (Raw × Raw) × List ℕ} (item l k.0.1) (λ v. Ok ((k.0.0, v.0), v.1)) (kv, after) k.2 in
      let same = ok_is ((k.0.0, v.0.0), v.0.1) (kv, after) v.2 in
      let key : item l bs ≡ Ok (k.0.0, k.0.1) = (key_read (may_begin_key f) (item l) bs k.0 k.1).1 in
      record {
        at_value = k.0.1;
        key_is = subst (λ (p : (Raw × Raw) × List ℕ). item l bs ≡ Ok (p.0.0, k.0.1)) same key;
        value_is = subst (λ (p : (Raw × Raw) × List ℕ). item l k.0.1 ≡ Ok (p.0.1, p.1)) same v.1;
      }

  pairs_next : (remaining behind : Remaining) (b : ℕ) (l : Limits) (bs mid : List ℕ) → first_at end_in_map remaining bs ≡ Ok (Some (behind, b), mid) → Leads SomePairHasChunks (pairs remaining) KeyHas (FirstKey b behind) l bs mid
  pairs_next remaining behind b l bs mid first x rest is =
      let n = next_read (pairs_of (raws f l) (item l)) (pair_taken (may_begin_key f) (item l) (taken (raws f l) levels)) remaining behind bs (b ∷ mid) (first_some end_in_map remaining behind b bs mid first) x rest is in
      let kv = pair_read l (b ∷ mid) n.part n.after n.part_is in
      let key : behind_first b l mid ≡ Ok (n.part.0, kv.at_value) = sym (item_first (raws f l) levels b mid) ∙ kv.key_is in
      record {
        part = (n.part.0, (n.part.1, n.others));
        rest = n.rest;
        is = both_is (behind_first b l) (FirstValue behind l) mid kv.at_value n.rest n.part.0 (n.part.1, n.others) key
            (both_is (item l) (pairs behind l) kv.at_value n.after n.rest n.part.1 n.others kv.value_is n.others_is);
        on = λ h. subst SomePairHasChunks n.made h;
      }

  -- another key comes
  pub key_begins : (s0 s t : Input) (all remaining behind : Remaining) (b : ℕ) → Step s0 s (Leads SomePairHasChunks (pairs all) SomePairHasChunks (pairs remaining)) → Step s t (λ l bs mid. first_at end_in_map remaining bs ≡ Ok (Some (behind, b), mid)) → Step s0 t (Leads SomePairHasChunks (pairs all) KeyHas (FirstKey b behind))
  key_begins s0 s t all remaining behind b =
      step_then s0 s t (Leads SomePairHasChunks (pairs all) SomePairHasChunks (pairs remaining)) (λ l bs mid. first_at end_in_map remaining bs ≡ Ok (Some (behind, b), mid)) (Leads SomePairHasChunks (pairs all) KeyHas (FirstKey b behind))
      (λ l bs rest mid so_far first. leads_then SomePairHasChunks (pairs all) SomePairHasChunks (pairs remaining) KeyHas (FirstKey b behind) l bs rest mid so_far (pairs_next remaining behind b l rest mid first))

  -- it has a string in chunks
  pub key_has : (s0 t : Input) (all behind : Remaining) (b : ℕ) → Step s0 t (Leads SomePairHasChunks (pairs all) KeyHas (FirstKey b behind)) → AllRead HasChunks (behind_first b) t → AllRead SomePairHasChunks (pairs all) s0
  key_has s0 t all behind b step has =
      all_then SomePairHasChunks (pairs all) KeyHas (FirstKey b behind) s0 t step
      (all_same KeyHas (FirstKey b behind) HasChunks (behind_first b) t (λ l bs. first_of (behind_first b l) (FirstValue behind l) HasChunks ValueHas bs) has)

  -- it was passed over
  pub key_done : (s0 t u : Input) (all behind : Remaining) (b : ℕ) → Step s0 t (Leads SomePairHasChunks (pairs all) KeyHas (FirstKey b behind)) → Step t u (λ l mid after. passed (after_first (values f l) (inside (values f l) levels) b mid) ≡ Ok (tt, after)) → Step s0 u (Leads SomePairHasChunks (pairs all) ValueHas (FirstValue behind))
  key_done s0 t u all behind b =
      step_then s0 t u (Leads SomePairHasChunks (pairs all) KeyHas (FirstKey b behind)) (λ l mid after. passed (after_first (values f l) (inside (values f l) levels) b mid) ≡ Ok (tt, after)) (Leads SomePairHasChunks (pairs all) ValueHas (FirstValue behind))
      (λ l bs mid after begun to. leads_then SomePairHasChunks (pairs all) KeyHas (FirstKey b behind) ValueHas (FirstValue behind) l bs mid after begun
      (others_of (behind_first b l) (FirstValue behind l) HasChunks ValueHas mid after (first_ends l b mid after to)))

  -- the value has a string in chunks
  pub value_has : (s0 u : Input) (all behind : Remaining) → Step s0 u (Leads SomePairHasChunks (pairs all) ValueHas (FirstValue behind)) → AllRead HasChunks item u → AllRead SomePairHasChunks (pairs all) s0
  value_has s0 u all behind step has =
      all_then SomePairHasChunks (pairs all) ValueHas (FirstValue behind) s0 u step
      (all_same ValueHas (FirstValue behind) HasChunks item u (λ l bs. first_of (item l) (pairs behind l) HasChunks SomePairHasChunks bs) has)

  -- it was passed over
  pub value_done : (s0 u w : Input) (all behind : Remaining) → Step s0 u (Leads SomePairHasChunks (pairs all) ValueHas (FirstValue behind)) → Step u w (λ l mid after. passed (item_at (values f l) levels mid) ≡ Ok (tt, after)) → Step s0 w (Leads SomePairHasChunks (pairs all) SomePairHasChunks (pairs behind))
  value_done s0 u w all behind =
      step_then s0 u w (Leads SomePairHasChunks (pairs all) ValueHas (FirstValue behind)) (λ l mid after. passed (item_at (values f l) levels mid) ≡ Ok (tt, after)) (Leads SomePairHasChunks (pairs all) SomePairHasChunks (pairs behind))
      (λ l bs mid after begun to. leads_then SomePairHasChunks (pairs all) ValueHas (FirstValue behind) SomePairHasChunks (pairs behind) l bs mid after begun
      (others_of (item l) (pairs behind l) HasChunks SomePairHasChunks mid after (item_ends l mid after to)))

  -- ---- an item

  -- by what follows its first byte
  pub item_has_first : (s t : Input) (b : ℕ) → Step s t (λ l bs mid. byte_at bs ≡ Ok (b, mid)) → AllRead HasChunks (behind_first b) t → AllRead HasChunks item s
  item_has_first s t b step = all_then HasChunks item HasChunks (behind_first b) s t
      (step_map s t (λ l bs mid. byte_at bs ≡ Ok (b, mid)) (Leads HasChunks item HasChunks (behind_first b))
      (λ l bs mid first x rest is. record { part = x; rest = rest; is = sym (item_behind (raws f l) levels b bs mid first) ∙ is; on = λ h. h }) step)

  -- by what follows its head
  pub first_has : (s t : Input) (b : ℕ) (h : Head) → Step s t (λ l bs rest. (w : HeadWidth) × (head_at b bs ≡ Ok ((w, h), rest))) → ((w : HeadWidth) → AllRead HasChunks (λ l. behind_head (raws f l) (inside (raws f l) levels) w h) t) → AllRead HasChunks (behind_first b) s
  first_has s t b h step all = λ bs reports x rest is.
      let l = limits s bs in
      let one = step.reported bs reports in
      let same = same_limits s t bs one.rest step.took.room one.total in
      let inner = inside (raws f l) levels in
      let here : behind_first b l bs ≡ behind_head (raws f l) inner one.holds.0 h one.rest = first_behind (raws f l) inner b bs ∙ rw one.holds.1 refl in
      all one.holds.0 one.rest one.reports x rest (subst (λ (l : Limits). behind_head (raws f l) (inside (raws f l) levels) one.holds.0 h one.rest ≡ Ok (x, rest)) (sym same) (sym here ∙ is))

  -- whatever the head's width, what is read after it has a string in chunks
  abbrev pub AfterHead : Input → Head → Type 0
  AfterHead s h = (w : HeadWidth) → AllRead HasChunks (λ l. behind_head (raws f l) (inside (raws f l) levels) w h) s

  pub head_is : (s : Input) (h h' : Head) → h ≡ h' → AfterHead s h' → AfterHead s h
  head_is s h h' is all = subst (λ (h : Head). AfterHead s h) (sym is) all

  -- ---- strings in chunks

  pub byte_chunks_has : (s : Input) (w : HeadWidth) → AllRead HasChunks (λ l. behind_head (raws f l) (inside (raws f l) levels) w (head.Bytes None)) s
  unfolding string_chunks_at
  byte_chunks_has s w bs reports x rest is =
      let l = limits s bs in
      let one = bind_ok {B = Raw × List ℕ} (chunks_at (raws f l).exceeds 0 2 bs) (λ cs. Ok (raw.bytes_chunks cs.0, cs.1)) (x, rest) is in
      subst HasChunks (ap (λ (p : Raw × List ℕ). p.0) (ok_is (raw.bytes_chunks one.0.0, one.0.1) (x, rest) one.2)) tt

  checked_is : (c : Bool) (r x : Raw) (bs rest : List ℕ) (d : Fault) → ◌≡◌ {A = Reads Raw} (cond c (Ok (r, bs)) (Err d)) (Ok (x, rest)) → r ≡ x
  checked_is true r x bs rest d is = ap (λ (p : Raw × List ℕ). p.0) (ok_is (r, bs) (x, rest) is)
  checked_is false r x bs rest d is = absurd cc

  pub text_chunks_has : (s : Input) (w : HeadWidth) → AllRead HasChunks (λ l. behind_head (raws f l) (inside (raws f l) levels) w (head.Text None)) s
  unfolding text_chunks_at checked_text
  text_chunks_has s w bs reports x rest is =
      let l = limits s bs in
      let one = bind_ok {B = Raw × List ℕ} (chunks_at (raws f l).exceeds 0 3 bs) (λ cs. checked_text (raws f l) (raw.text_chunks cs.0) (joined cs.0) cs.1) (x, rest) is in
      subst HasChunks (checked_is ((raws f l).is_text (joined one.0.0)) (raw.text_chunks one.0.0) x one.0.1 rest _ one.2) tt

-- ---- what lies one level further in

made_within : {A : Type 0} (has : A → Type 0) (make : A → Raw) (read : Reads A) → ((a : A) → has a → HasChunks (make a)) → (x : Raw) (rest : List ℕ) → along make read ≡ Ok (x, rest) → Within has read (HasChunks x)
made_within has make read on x rest is =
    let one = bind_ok {B = Raw × List ℕ} read (λ a. Ok (make a.0, a.1)) (x, rest) is in
    record {
      part = one.0.0;
      rest = one.0.1;
      is = one.1;
      on = λ h. subst HasChunks (ap (λ (p : Raw × List ℕ). p.0) (ok_is (make one.0.0, one.0.1) (x, rest) one.2)) (on one.0.0 h);
    }

module _ (f : Formats) (levels left : ℕ) (is : levels ≡ suc left) where
  one_in : (l : Limits) → inside (raws f l) levels ≡ Some (item_at (raws f l) left)
  one_in l = ap (inside (raws f l)) is

  pub array_has : (s : Input) (r : Remaining) → AllRead SomeHasChunks (items f left r) s → (n : Length) → AllRead HasChunks (λ l. array_at (raws f l) (inside (raws f l) levels) n r) s
  unfolding array_at
  array_has s r all n = all_same HasChunks (λ l. array_at (raws f l) (inside (raws f l) levels) n r) SomeHasChunks (items f left r) s (λ l bs x rest got.
      made_within SomeHasChunks (raw.array n) (items f left r l bs) (λ a h. h) x rest (subst (λ (i : Option (List ℕ → Reads Raw)). array_at (raws f l) i n r bs ≡ Ok (x, rest)) (one_in l) got)) all

  pub map_has : (s : Input) (r : Remaining) → AllRead SomePairHasChunks (pairs f left r) s → (n : Length) → AllRead HasChunks (λ l. map_at (raws f l) (inside (raws f l) levels) n r) s
  unfolding map_at
  map_has s r all n = all_same HasChunks (λ l. map_at (raws f l) (inside (raws f l) levels) n r) SomePairHasChunks (pairs f left r) s (λ l bs x rest got.
      made_within SomePairHasChunks (raw.map n) (pairs f left r l bs) (λ a h. h) x rest (subst (λ (i : Option (List ℕ → Reads Raw)). map_at (raws f l) i n r bs ≡ Ok (x, rest)) (one_in l) got)) all

  pub tag_has : (s : Input) (n : ℕ) → AllRead HasChunks (item f left) s → (w : HeadWidth) → AllRead HasChunks (λ l. tag_at (raws f l) (inside (raws f l) levels) w n) s
  unfolding tag_at
  tag_has s n all w = all_same HasChunks (λ l. tag_at (raws f l) (inside (raws f l) levels) w n) HasChunks (item f left) s (λ l bs x rest got.
      made_within HasChunks (raw.tag w n) (item f left l bs) (λ a h. h) x rest (subst (λ (i : Option (List ℕ → Reads Raw)). tag_at (raws f l) i w n bs ≡ Ok (x, rest)) (one_in l) got)) all
