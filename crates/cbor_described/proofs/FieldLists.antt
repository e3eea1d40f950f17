-- Lists of fields: the fields of a view, and what a call on a field adds to what is known of a struct.
use Rattle.std.proofs.Common.{◌≡◌, ◌≤◌, ◌⊎◌, inl, inr, ℕ, zero, suc, ◌+◌, ◌++◌, Bool, true, false, List, [], ◌∷◌, length, Option, Some, None, Ok, Err, refl, sym, ap, subst, ◌∙◌, arith}
use Rattle.std.specs.Option.{is_some}
use Rattle.std.specs.Prelude.{Result, IfErr, IsErrAnd, MatchBool}
use Rattle.cbor_model.specs.Formats as model
use Rattle.cbor_model.specs.Reader.{item_at}
use Rattle.cbor_read.specs.Source.{Input, TookSome}
use Rattle.cbor_io.specs.Error.{code_of, offset_of}
use Rattle.cbor_io.specs.declared.error.Error.{Error}
use Rattle.cbor_io.specs.declared.error.ErrorCode.{ErrorCode}
use Rattle.cbor_io.specs.declared.read_error.ReadErrorCode.{ReadErrorCode}
use Rattle.cbor_decode.specs.Gives.{Limits, Step}
use Rattle.cbor_decode.specs.declared.formats.Formats.{Formats}
use Rattle.cbor_decode.specs.declared.cursor.Remaining.{Remaining}
use Rattle.cbor_de.specs.Fields.{Slots, none_yet, AreHeld}
use Rattle.cbor_described.specs.FieldLists.{over, NamesLacking, ReadBefore, slots_over, FieldTaken, FieldRefused, MemoryForField, MemoryForSlot, TakesSlot, TakesField}
use Rattle.cbor_decode_as.specs.Collections.{IsHeadOf}
use Rattle.cbor_model.specs.Raw.{Raw}
use Rattle.cbor_de.specs.Structs.{FieldOf, IsAny, IsMapOf, MeansOneField}
use Rattle.cbor_decode_as.specs.Takes.{TakesItem, formats_of, raws, IsRead, IsNotRead, Refuses}
use Rattle.cbor_decode_as.proofs.facts.Refusals.{refuses_on}
use Rattle.cbor_decode_as.proofs.facts.Readings.{OutOfMemoryAt, refuses_map}
use Rattle.cbor_de.specs.declared.field.Field.{Field}
use Rattle.cbor_de.specs.declared.field.Field.TheVariants.{Known}
use Rattle.cbor_de.proofs.facts.Structs.{Has, LacksAt, ValueAt, reads_at, put}
use Rattle.cbor_de.proofs.facts.Structs.{StructSoFar, NoStruct, FieldNamed, struct_begins, field_read, field_twice, field_unread, other_passed, other_unread}
use Rattle.cbor_de.proofs.facts.Structs.{known_other}
use Rattle.cbor_decode.specs.declared.cursor.Collection.TheVariants as collection

pair_is : {A B : Type 0} (p : A × B) (a : A) (b : B) → p.0 ≡ a → p.1 ≡ b → p ≡ (a, b)
pair_is p a b one two = ap (λ x. (x, p.1)) one ∙ ap (λ y. (a, y)) two

bool_cases : (b : Bool) → (b ≡ true) ⊎ (b ≡ false)
bool_cases true = inl refl
bool_cases false = inr refl

-- ---- the fields of a view

module _ {S T : Type 0} (view : S → T) where
  pub length_over : (fields : List (FieldOf T)) → length (over view fields) ≡ length fields
  length_over [] = refl
  length_over (d ∷ fields) = ap suc (length_over fields)

  pub none_over : (fields : List (FieldOf T)) → slots_over view fields (none_yet fields) ≡ none_yet (over view fields)
  none_over [] = refl
  none_over (d ∷ fields) = ap (λ rest. (None, rest)) (none_over fields)

  pub held_over : (fields : List (FieldOf T)) (slots : Slots fields) (x : S) → AreHeld fields slots (view x) → AreHeld (over view fields) (slots_over view fields slots) x
  held_over [] slots x h = tt
  held_over (d ∷ fields) slots x h = (h.0, held_over fields slots.1 x h.1)

  pub lacking_over : (fields : List (FieldOf T)) (names : List (List ℕ)) (slots : Slots fields) (code : ErrorCode)
      → NamesLacking fields names slots code → NamesLacking (over view fields) names (slots_over view fields slots) code
  lacking_over [] names slots code h = h
  lacking_over (d ∷ fields) [] slots code h = h
  lacking_over (d ∷ fields) (name ∷ names) slots code (inl h) = inl h
  lacking_over (d ∷ fields) (name ∷ names) slots code (inr h) = inr (h.0, lacking_over fields names slots.1 code h.1)

  pub read_over : (fields : List (FieldOf T)) (i : ℕ) (slots : Slots fields) → ReadBefore (over view fields) i (slots_over view fields slots) → ReadBefore fields i slots
  read_over [] i slots h = h
  read_over (d ∷ fields) zero slots h = h
  read_over (d ∷ fields) (suc i) slots h = read_over fields i slots.1 h

  module _ (f : model.Formats) (levels : ℕ) where
    pub taken_over : (fields : List (FieldOf T)) (i : ℕ) (old new : Slots fields) (s t : Input)
        → FieldTaken f levels fields i old new s t → FieldTaken f levels (over view fields) i (slots_over view fields old) (slots_over view fields new) s t
    taken_over [] i old new s t h = h
    taken_over (d ∷ fields) zero old new s t h = (h.0, ap (slots_over view fields) h.1, h.2)
    taken_over (d ∷ fields) (suc i) old new s t h = (h.0, taken_over fields i old.1 new.1 s t h.1)

    pub refused_over : (allowed : ReadErrorCode → Bool) (fields : List (FieldOf T)) (i : ℕ) (old : Slots fields) (s t : Input) (e : Error)
        → FieldRefused f levels allowed fields i old s t e → FieldRefused f levels allowed (over view fields) i (slots_over view fields old) s t e
    refused_over allowed [] i old s t e h = h
    refused_over allowed (d ∷ fields) zero old s t e h = h
    refused_over allowed (d ∷ fields) (suc i) old s t e h = refused_over allowed fields i old.1 s t e h

-- ---- the call on a field, by those in front of it

-- what is known of the fields of two lists
abbrev joined : {S : Type 0} → (front back : List (FieldOf S)) → Slots front → Slots back → Slots (front ++ back)
joined [] back f b = b
joined (d ∷ front) back f b = (f.0, joined front back f.1 b)

module _ {S : Type 0} (f : model.Formats) (levels : ℕ) (allowed : ReadErrorCode → Bool) where
  -- a field after these
  pub slot_taken : (front : List (FieldOf S)) (d : FieldOf S) (back : List (FieldOf S)) (i : ℕ) → i ≡ length front → (fs : Slots front) (o o' : Option d.Value) (bs : Slots back) (s t : Input) (r : Result (Unit {0}) Error)
      → TakesSlot f levels allowed d.reads o o' s t r → TakesField f levels allowed (front ++ d ∷ back) i (joined front (d ∷ back) fs (o, bs)) (joined front (d ∷ back) fs (o', bs)) s t r
  slot_taken [] d back zero is fs o o' bs s t (Ok u) h = (h.0, refl, h.1)
  slot_taken [] d back zero is fs o o' bs s t (Err e) h = h
  slot_taken [] d back (suc i) is fs o o' bs s t r h = absurd (omega (arith, is))
  slot_taken (x ∷ front) d back zero is fs o o' bs s t r h = absurd (omega (arith, is))
  slot_taken (x ∷ front) d back (suc i) is fs o o' bs s t (Ok u) h =
      let before : i ≡ length front = omega (arith, is) in
      (refl, slot_taken front d back i before fs.1 o o' bs s t (Ok u) h)
  slot_taken (x ∷ front) d back (suc i) is fs o o' bs s t (Err e) h =
      let before : i ≡ length front = omega (arith, is) in
      slot_taken front d back i before fs.1 o o' bs s t (Err e) h

  -- one of the others after them
  module _ {T : Type 0} (view : S → T) (fields : List (FieldOf T)) where
    pub taken_behind : (front : List (FieldOf S)) (i j : ℕ) → i ≡ length front + j → (fs : Slots front) (old new : Slots fields) (s t : Input) (r : Result (Unit {0}) Error)
        → TakesField f levels allowed fields j old new s t r → TakesField f levels allowed (front ++ over view fields) i (joined front (over view fields) fs (slots_over view fields old)) (joined front (over view fields) fs (slots_over view fields new)) s t r
    taken_behind [] i j is fs old new s t (Ok u) h =
        let same : j ≡ i = omega (arith, is) in
        taken_over view f levels fields i old new s t (subst (λ (i : ℕ). FieldTaken f levels fields i old new s t) same h)
    taken_behind [] i j is fs old new s t (Err e) h =
        let same : j ≡ i = omega (arith, is) in
        refused_over view f levels allowed fields i old s t e (subst (λ (i : ℕ). FieldRefused f levels allowed fields i old s t e) same h)
    taken_behind (d ∷ front) zero j is fs old new s t r h = absurd (omega (arith, is))
    taken_behind (d ∷ front) (suc i) j is fs old new s t (Ok u) h =
        let before : i ≡ length front + j = omega (arith, is) in
        (refl, taken_behind front i j before fs.1 old new s t (Ok u) h)
    taken_behind (d ∷ front) (suc i) j is fs old new s t (Err e) h =
        let before : i ≡ length front + j = omega (arith, is) in
        taken_behind front i j before fs.1 old new s t (Err e) h

-- one of the others after them was read before
pub read_behind : {S T : Type 0} (view : S → T) (fields : List (FieldOf T)) (front : List (FieldOf S)) (i j : ℕ) → i ≡ length front + j → (fs : Slots front) (slots : Slots fields)
    → ReadBefore (front ++ over view fields) i (joined front (over view fields) fs (slots_over view fields slots)) → ReadBefore fields j slots
read_behind view fields [] i j is fs slots h =
    let same : i ≡ j = omega (arith, is) in
    read_over view fields j slots (subst (λ (i : ℕ). ReadBefore (over view fields) i (slots_over view fields slots)) same h)
read_behind view fields (d ∷ front) zero j is fs slots h = absurd (omega (arith, is))
read_behind view fields (d ∷ front) (suc i) j is fs slots h =
    let before : i ≡ length front + j = omega (arith, is) in
    read_behind view fields front i j before fs.1 slots h

-- the same, of what is said of an Err
pub twice_behind : {S T C : Type 0} (view : S → T) (fields : C → List (FieldOf T)) (front : C → List (FieldOf S)) (i j : ℕ) → ((k : C) → i ≡ length (front k) + j) → (fs : (k : C) → Slots (front k)) (slots : (k : C) → Slots (fields k)) (P : Error → Type 0) (r : Result (Unit {0}) Error)
    → IfErr r (λ e. (k : C) → ReadBefore (fields k) j (slots k) → P e)
    → IfErr r (λ e. (k : C) → ReadBefore (front k ++ over view (fields k)) i (joined (front k) (over view (fields k)) (fs k) (slots_over view (fields k) (slots k))) → P e)
twice_behind view fields front i j is fs slots P (Ok u) h = h
twice_behind view fields front i j is fs slots P (Err e) h = λ k before. h k (read_behind view (fields k) (front k) i j (is k) (fs k) (slots k) before)

-- ---- memory

-- what is asked for those behind these
abbrev behind_these : {S : Type 0} → List (FieldOf S) → (ℕ → Raw → Type 0) → ℕ → Raw → Type 0
behind_these [] asks = asks
behind_these (d ∷ front) asks = behind_these front (λ j. asks (suc j))

module _ (f : model.Formats) (levels : ℕ) (s : Input) (e : Error) where
  memory_over : {S T : Type 0} (view : S → T) (fields : List (FieldOf T)) (asks : ℕ → Raw → Type 0) (i : ℕ) (slots : Slots fields)
      → MemoryForField f levels asks fields i slots s e → MemoryForField f levels asks (over view fields) i (slots_over view fields slots) s e
  memory_over view [] asks i slots h = h
  memory_over view (d ∷ fields) asks zero slots h = h
  memory_over view (d ∷ fields) asks (suc i) slots h = memory_over view fields (λ j. asks (suc j)) i slots.1 h

  pub slot_memory : {S : Type 0} (front : List (FieldOf S)) (d : FieldOf S) (back : List (FieldOf S)) (asks : ℕ → Raw → Type 0) (i : ℕ) → i ≡ length front → (fs : Slots front) (o : Option d.Value) (bs : Slots back)
      → MemoryForSlot f levels (asks (length front)) d.reads o s e → MemoryForField f levels asks (front ++ d ∷ back) i (joined front (d ∷ back) fs (o, bs)) s e
  slot_memory [] d back asks zero is fs o bs h = h
  slot_memory [] d back asks (suc i) is fs o bs h = absurd (omega (arith, is))
  slot_memory (x ∷ front) d back asks zero is fs o bs h = absurd (omega (arith, is))
  slot_memory (x ∷ front) d back asks (suc i) is fs o bs h = slot_memory front d back (λ j. asks (suc j)) i (omega (arith, is)) fs.1 o bs h

  pub memory_behind : {S T : Type 0} (view : S → T) (fields : List (FieldOf T)) (front : List (FieldOf S)) (asks : ℕ → Raw → Type 0) (i j : ℕ) → i ≡ length front + j → (fs : Slots front) (old : Slots fields)
      → MemoryForField f levels (behind_these front asks) fields j old s e → MemoryForField f levels asks (front ++ over view fields) i (joined front (over view fields) fs (slots_over view fields old)) s e
  memory_behind view fields [] asks i j is fs old h =
      let same : j ≡ i = omega (arith, is) in
      memory_over view fields asks i old (subst (λ (i : ℕ). MemoryForField f levels asks fields i old s e) same h)
  memory_behind view fields (d ∷ front) asks zero j is fs old h = absurd (omega (arith, is))
  memory_behind view fields (d ∷ front) asks (suc i) j is fs old h = memory_behind view fields front (λ j. asks (suc j)) i j (omega (arith, is)) fs.1 old h

-- what is said of it for the i-th field
abbrev pub FieldAsks : {S : Type 0} → model.Formats → ℕ → Limits → List ℕ → (ℕ → Raw → Type 0) → (fields : List (FieldOf S)) → ℕ → Slots fields → Type 0
FieldAsks f levels l bs asks [] i slots = (v : Unit {0}) (after : List ℕ) → (got : IsRead IsAny (item_at (raws f l) levels bs) v after) → asks i got.item
FieldAsks f levels l bs asks (d ∷ fields) zero slots = is_some slots.0 ≡ false → (v : d.Value) (after : List ℕ) → (got : IsRead d.reads (item_at (raws f l) levels bs) v after) → asks 0 got.item
FieldAsks f levels l bs asks (d ∷ fields) (suc i) slots = FieldAsks f levels l bs (λ j. asks (suc j)) fields i slots.1

module _ {S : Type 0} (f : model.Formats) (levels : ℕ) where
  pub field_asks : (asks : ℕ → Raw → Type 0) (fields : List (FieldOf S)) (i : ℕ) (slots : Slots fields) (s : Input) (e : Error) → MemoryForField f levels asks fields i slots s e → OutOfMemoryAt (λ l bs. FieldAsks f levels l bs asks fields i slots) s e
  field_asks asks [] i slots s e h = h
  field_asks asks (d ∷ fields) zero slots s e h = λ out bs reports none. h none out bs reports
  field_asks asks (d ∷ fields) (suc i) slots s e h = field_asks (λ j. asks (suc j)) fields i slots.1 s e h

  -- of the value that is there
  pub value_asks : (asks : ℕ → Raw → Type 0) (fields : List (FieldOf S)) (i : ℕ) (slots : Slots fields) (l : Limits) (bs after : List ℕ) (r : Raw) → item_at (raws f l) levels bs ≡ Ok (r, after)
      → (Has true fields i slots → ⊥) → (Has false fields i slots → (v : ValueAt fields i) × reads_at fields i r v) → FieldAsks f levels l bs asks fields i slots → asks i r
  value_asks asks [] i slots l bs after r is twice value h = h tt after (record { item = r; is = is; means = tt })
  value_asks asks (d ∷ fields) zero slots l bs after r is twice value h = elim (bool_cases (is_some slots.0)) [
    | inl some ↦ absurd (twice some)
    | inr none ↦ (let v = value none in h none v.0 after (record { item = r; is = is; means = v.1 }))
  ]
  value_asks asks (d ∷ fields) (suc i) slots l bs after r is twice value h = value_asks (λ j. asks (suc j)) fields i slots.1 l bs after r is twice value h

-- what a call ran out of memory for where nothing was at hand
pub memory_from : {S H : Type 0} (fields : Formats → List (FieldOf S)) (slots : (f : Formats) → H → Slots (fields f)) (g : Formats) (left : ℕ) (asks : ℕ → Raw → Type 0) (held kept : H) → kept ≡ held → (s m : Input) → m ≡ s → (i : ℕ) (e : Error)
    → MemoryForField (formats_of g) left asks (fields g) i (slots g kept) m e → MemoryForField (formats_of g) left asks (fields g) i (slots g held) s e
memory_from {H = H} fields slots g left asks held kept same s m here i e h =
    subst (λ (x : H). MemoryForField (formats_of g) left asks (fields g) i (slots g x) s e) same
    (subst (λ (x : Input). MemoryForField (formats_of g) left asks (fields g) i (slots g kept) x e) here h)

-- ---- a field that is at hand

module _ {S : Type 0} (f : model.Formats) (levels : ℕ) (allowed : ReadErrorCode → Bool) where
  pub slot_here : (front : List (FieldOf S)) (d : FieldOf S) (back : List (FieldOf S)) (i : ℕ) → i ≡ length front → (fs : Slots front) (o o' : Option d.Value) (bs : Slots back) (s t : Input) (b : Bool)
      → MatchBool b (TakesSlot f levels allowed d.reads o o' s t (Ok tt)) (t ≡ s)
      → MatchBool b (FieldTaken f levels (front ++ d ∷ back) i (joined front (d ∷ back) fs (o, bs)) (joined front (d ∷ back) fs (o', bs)) s t) (t ≡ s)
  slot_here front d back i is fs o o' bs s t true h = slot_taken f levels allowed front d back i is fs o o' bs s t (Ok tt) h
  slot_here front d back i is fs o o' bs s t false h = h

  pub others_here : {T : Type 0} (view : S → T) (fields : List (FieldOf T)) (front : List (FieldOf S)) (i j : ℕ) → i ≡ length front + j → (fs : Slots front) (old new : Slots fields) (s t : Input) (b : Bool)
      → MatchBool b (FieldTaken f levels fields j old new s t) (t ≡ s)
      → MatchBool b (FieldTaken f levels (front ++ over view fields) i (joined front (over view fields) fs (slots_over view fields old)) (joined front (over view fields) fs (slots_over view fields new)) s t) (t ≡ s)
  others_here view fields front i j is fs old new s t true h = taken_behind f levels allowed view fields front i j is fs old new s t (Ok tt) h
  others_here view fields front i j is fs old new s t false h = h

-- what a call gave where nothing was at hand
pub taken_from : {S H : Type 0} (fields : Formats → List (FieldOf S)) (slots : (f : Formats) → H → Slots (fields f)) (allowed : ReadErrorCode → Bool) (f g : Formats) → g ≡ f → (levels left : ℕ) → left ≡ levels → (held kept new : H) → kept ≡ held → (s m t : Input) → m ≡ s → (i : ℕ) (r : Result (Unit {0}) Error)
    → TakesField (formats_of g) left allowed (fields g) i (slots g kept) (slots g new) m t r → TakesField (formats_of f) levels allowed (fields f) i (slots f held) (slots f new) s t r
taken_from {S} {H} fields slots allowed f g formats levels left inside held kept new same s m t here i r h =
    subst (λ (x : Formats). TakesField (formats_of x) levels allowed (fields x) i (slots x held) (slots x new) s t r) formats
    (subst (λ (n : ℕ). TakesField (formats_of g) n allowed (fields g) i (slots g held) (slots g new) s t r) inside
    (subst (λ (x : H). TakesField (formats_of g) left allowed (fields g) i (slots g x) (slots g new) s t r) same
    (subst (λ (x : Input). TakesField (formats_of g) left allowed (fields g) i (slots g kept) (slots g new) x t r) here h)))

-- ---- which field a call was for

module _ {S : Type 0} (f : model.Formats) (levels : ℕ) where
  record WasRead (fields : List (FieldOf S)) (i : ℕ) (old new : Slots fields) (s t : Input) : Type 0 where
    x : ValueAt fields i
    none : Has false fields i old
    same : new ≡ put fields i x old
    read : Step s t (λ l bs rest. IsRead (reads_at fields i) (item_at (raws f l) levels bs) x rest)

  record WasPassed (fields : List (FieldOf S)) (i : ℕ) (old new : Slots fields) (s t : Input) : Type 0 where
    beyond : length fields ≤ i
    same : new ≡ old
    read : Step s t (λ l bs rest. IsRead IsAny (item_at (raws f l) levels bs) tt rest)

  taken_is : (fields : List (FieldOf S)) (i : ℕ) (old new : Slots fields) (s t : Input) → FieldTaken f levels fields i old new s t → WasRead fields i old new s t ⊎ WasPassed fields i old new s t
  taken_is [] i old new s t h = inr (record { beyond = omega arith; same = refl; read = h })
  taken_is (d ∷ fields) zero old new s t h = inl (record { x = h.2.0; none = h.0; same = pair_is new (Some h.2.0) old.1 h.2.1 h.1; read = h.2.2 })
  taken_is (d ∷ fields) (suc i) old new s t h = elim (taken_is fields i old.1 new.1 s t h.1) [
    | inl w ↦ inl (record { x = w.x; none = w.none; same = pair_is new old.0 (put fields i w.x old.1) h.0 w.same; read = w.read })
    | inr w ↦ inr (record { beyond = omega (arith, w.beyond); same = pair_is new old.0 old.1 h.0 w.same; read = w.read })
  ]

  abbrev NotRead : (ReadErrorCode → Bool) → (fields : List (FieldOf S)) → ℕ → Slots fields → Input → Input → Error → Type 0
  NotRead allowed fields i old s t e =
      (Has true fields i old × TookSome s t)
      ⊎ ((Has false fields i old × Refuses allowed s t (code_of e) (offset_of e) (λ l bs. IsNotRead (reads_at fields i) (item_at (raws f l) levels bs)))
      ⊎ ((length fields ≤ i) × Refuses allowed s t (code_of e) (offset_of e) (λ l bs. IsNotRead IsAny (item_at (raws f l) levels bs))))

  refused_is : (allowed : ReadErrorCode → Bool) (fields : List (FieldOf S)) (i : ℕ) (old : Slots fields) (s t : Input) (e : Error) → FieldRefused f levels allowed fields i old s t e → NotRead allowed fields i old s t e
  refused_is allowed [] i old s t e h = inr (inr (omega arith, h))
  refused_is allowed (d ∷ fields) zero old s t e h = elim (bool_cases (is_some old.0)) [
    | inl some ↦ inl (some, h.took)
    | inr none ↦ inr (inl (none, refuses_map allowed s (code_of e) (offset_of e) (λ l bs. is_some old.0 ≡ false → IsNotRead d.reads (item_at (raws f l) levels bs)) (λ l bs. IsNotRead d.reads (item_at (raws f l) levels bs)) (λ l bs unread. unread none) h))
  ]
  refused_is allowed (d ∷ fields) (suc i) old s t e h = elim (refused_is allowed fields i old.1 s t e h) [
    | inl some ↦ inl some
    | inr (inl none) ↦ inr (inl none)
    | inr (inr beyond) ↦ inr (inr (let b = beyond.0 in omega (arith, b), beyond.1))
  ]

-- of an empty list, an item was passed over
pub passed_on : (f : model.Formats) (levels : ℕ) (allowed : ReadErrorCode → Bool) (i : ℕ) (s t : Input) (r : Result (Unit {0}) Error) → TakesItem allowed f IsAny levels s t r → TakesField {S = Unit {0}} f levels allowed [] i tt tt s t r
passed_on f levels allowed i s t (Ok u) h = h
passed_on f levels allowed i s t (Err e) h = h

-- a field that wasn't read, and may not be absent
pub lacking_is : {S : Type 0} (fields : List (FieldOf S)) (names : List (List ℕ)) (slots : Slots fields) (code : ErrorCode) → NamesLacking fields names slots code → (i : ℕ) × LacksAt fields i slots
lacking_is [] names slots code h = absurd h
lacking_is (d ∷ fields) [] slots code h = absurd h
lacking_is (d ∷ fields) (name ∷ names) slots code (inl h) = (0, h.0)
lacking_is (d ∷ fields) (name ∷ names) slots code (inr h) = let w = lacking_is fields names slots.1 code h.1 in (suc w.0, w.1)

-- ---- what a call adds

module _ {S : Type 0} (keyed : Raw → Field → Type 0) (fields : List (FieldOf S)) where
  -- after the head no field was read
  pub begins_with : (slots : Slots fields) → slots ≡ none_yet fields → {s t : Input} {f g : Formats} {outer levels : ℕ} {all : Remaining}
      → Step s t (λ l bs rest. IsHeadOf collection.Map (formats_of f) l (item_at (raws (formats_of f) l) outer bs) levels all rest) → g ≡ f → StructSoFar keyed fields slots s f outer t g levels all
  begins_with slots none {s} {t} {f} {g} {outer} {levels} {all} head formats =
      subst (λ (slots : Slots fields). StructSoFar keyed fields slots s f outer t g levels all) (sym none) (struct_begins keyed fields head formats)

  -- an Err reports that no struct is there
  pub unread : {w : Input} (allowed : ReadErrorCode → Bool) (f : Formats) (levels : ℕ) (s t : Input) (e : Error) (r : Result S Error) → IsErrAnd r (λ x. x ≡ e)
      → NoStruct keyed fields allowed s w f levels (code_of e) (offset_of e) → t ≡ w → TakesItem allowed (formats_of f) (IsMapOf keyed fields) levels s t r
  unread allowed f levels s t e (Ok x) is none same = absurd is
  unread {w} allowed f levels s t e (Err x) is none same =
      subst (λ (t : Input). NoStruct keyed fields allowed s t f levels (code_of x) (offset_of x)) (sym same)
      (subst (λ (x : Error). NoStruct keyed fields allowed s w f levels (code_of x) (offset_of x)) (sym is) none)

  module _ {slots : Slots fields} {s : Input} {f : Formats} {outer : ℕ} {t : Input} {g : Formats} {levels : ℕ} {r : Remaining} {so : StructSoFar keyed fields slots s f outer t g levels r}
      {field : Field} {new : Remaining} {u : Input} {h : Formats} {n : ℕ} (key : FieldNamed keyed fields so field new u h n) (i : ℕ) (is : field ≡ Known i) where
    -- the value of a known field was taken
    pub value_in : MeansOneField keyed → {w : Input} {last : Remaining} {k : Formats} {m : ℕ} → k ≡ h → m ≡ n → last ≡ new → (slots' : Slots fields) → FieldTaken (formats_of h) n fields i slots slots' u w → StructSoFar keyed fields slots' s f outer w k m last
    value_in one {w} {last} {k} {m} formats inside remaining slots' taken = elim (taken_is (formats_of h) n fields i slots slots' u w taken) [
      | inl v ↦ subst (λ (slots : Slots fields). StructSoFar keyed fields slots s f outer w k m last) (sym v.same)
          (field_read keyed fields so (Some field) field refl new key.named key.formats key.inside formats inside remaining one (λ (f : Formats). reads_at fields i) v.x i is v.none v.x (λ b means. means) v.read)
      | inr v ↦ subst (λ (slots : Slots fields). StructSoFar keyed fields slots s f outer w k m last) (sym v.same)
          (other_passed keyed fields so (Some field) field refl new key.named key.formats key.inside formats inside remaining one (known_other fields is v.beyond) v.read)
    ]

    -- or wasn't
    pub value_not_in : {w : Input} (allowed : ReadErrorCode → Bool) (e : Error) → FieldRefused (formats_of h) n allowed fields i slots u w e → NoStruct keyed fields allowed s w f outer (code_of e) (offset_of e)
    value_not_in {w} allowed e refused = elim (refused_is (formats_of h) n allowed fields i slots u w e refused) [
      | inl some ↦ refuses_on (field_twice keyed fields so (Some field) field refl new key.named allowed (code_of e) (offset_of e) i is some.0) some.1
      | inr (inl none) ↦ field_unread keyed fields so (Some field) field refl new key.named key.formats key.inside (λ (f : Formats). reads_at fields i) allowed (code_of e) (offset_of e) i is none.0 (λ b v means. (v, means)) none.1
      | inr (inr beyond) ↦ other_unread keyed fields so (Some field) field refl new key.named key.formats key.inside allowed (code_of e) (offset_of e) beyond.1
    ]
