-- The fields of a struct that were read so far.
use Rattle.std.proofs.Common.{◌≡◌, inl, inr, ℕ, ℤ, zero, suc, ◌+◌, ◌<◌, Bool, true, false, List, [], ◌∷◌, ◌++◌, Option, Some, None, refl, sym, ap, subst, ◌∙◌, arith}
use Rattle.std.specs.Option.{is_some}
use Rattle.cbor_model.specs.Raw as raw
use Rattle.cbor_model.specs.Raw.{Raw, RawPairs, no_raw_pairs, raw_pair}
use Rattle.cbor_model.specs.Readable.{untagged}
use Rattle.cbor_de.specs.Structs.{IsAny, IsField, IsLabelled, IsKeyedBy, IsKeyed, MeansOneField, place_in, AreFields, Absent, Once, IsFieldRead, IfAbsent, refused, taken, IsFieldOr, FieldOf, HasFields, AreFieldsOf}
use Rattle.cbor_de.specs.declared.field.Field.{Field}
use Rattle.cbor_de.specs.declared.field.Field.TheVariants.{Known, Unknown}
pub use Rattle.cbor_de.specs.Fields.{Slots, none_yet, all_of, AreHeld}
use Rattle.cbor_de.specs.Fields.{IsHeld, Lacks}
use Rattle.cbor_parts.specs.Keys.{Keys}
use Rattle.cbor_decode_as.proofs.facts.Enums.{identifier_one, label_one}
use Rattle.cbor_decode_as.proofs.facts.Maps.{append_pairs, PairMayFollow}

-- ---- a key means one field

some_one : (i j : ℕ) → Some i ≡ Some j → i ≡ j
some_one i j e = cc

one_place : (p q : Field) → place_in p ≡ place_in q → p ≡ q
one_place (Known i) (Known j) e = ap Known (some_one i j e)
one_place (Known i) Unknown e = absurd cc
one_place Unknown (Known j) e = absurd cc
one_place Unknown Unknown e = refl

-- a name or a number means one field at the most, and so does a label
pub field_one : (names : List (List ℕ)) → MeansOneField (IsField names)
field_one names r p q one two = one_place p q (identifier_one names (untagged r) (place_in p) (place_in q) one two)

labelled_one : (labels : List ℤ) → MeansOneField (IsLabelled labels)
labelled_one labels r p q one two = one_place p q (label_one labels (untagged r) (place_in p) (place_in q) one two)

keyed_by_one : (names : List (List ℕ)) (labels : Option (List ℤ)) → MeansOneField (IsKeyedBy names labels)
keyed_by_one names None = field_one names
keyed_by_one names (Some labels) = labelled_one labels

pub keyed_one : (keys : Keys) → MeansOneField (IsKeyed keys)
keyed_one keys = keyed_by_one keys.names keys.labels

-- ---- one field

-- the pairs before
abbrev pub whole : List (Raw × Raw) → RawPairs
whole front = append_pairs front no_raw_pairs

-- with one more
abbrev pub pushed : List (Raw × Raw) → Raw → Raw → RawPairs
pushed front a b = whole (front ++ (a, b) ∷ [])

-- these and those after
abbrev pub behind : List (Raw × Raw) → Raw → Raw → RawPairs → RawPairs
behind front a b rs = append_pairs front (raw_pair a b rs)

module _ (keyed : Raw → Field → Type 0) where
  other_field : MeansOneField keyed → (r : Raw) (field : Field) (i : ℕ) → (field ≡ Known i → ⊥) → keyed r field → keyed r (Known i) → ⊥
  other_field one r field i other this that = other (one r field (Known i) this that)

  module _ (i : ℕ) where
    abbrev Names : Raw → Type 0
    Names a = keyed a (Known i)

    absent_more : (front : List (Raw × Raw)) (a b : Raw) → Absent keyed i (whole front) → (Names a → ⊥) → Absent keyed i (pushed front a b)
    absent_more [] a b h n = (n, tt)
    absent_more (p ∷ front) a b h n = (h.0, absent_more front a b h.1 n)

    once_more : (front : List (Raw × Raw)) (a b v : Raw) → Once keyed i (whole front) v → (Names a → ⊥) → Once keyed i (pushed front a b) v
    once_more [] a b v h n = absurd h
    once_more (p ∷ front) a b v (inl h) n = inl (h.0, h.1, absent_more front a b h.2 n)
    once_more (p ∷ front) a b v (inr h) n = inr (h.0, once_more front a b v h.1 n)

    once_first : (front : List (Raw × Raw)) (a b : Raw) → Absent keyed i (whole front) → Names a → Once keyed i (pushed front a b) b
    once_first [] a b h k = inl (k, refl, tt)
    once_first (p ∷ front) a b h k = inr (h.0, once_first front a b h.1 k)

    absent_rest : (front : List (Raw × Raw)) (a b : Raw) (rs : RawPairs) → Names a → Absent keyed i (behind front a b rs) → ⊥
    absent_rest [] a b rs k h = h.0 k
    absent_rest (p ∷ front) a b rs k h = absent_rest front a b rs k h.1

    twice : (front : List (Raw × Raw)) (a b v w : Raw) (rs : RawPairs) → Once keyed i (whole front) v → Names a → Once keyed i (behind front a b rs) w → ⊥
    twice [] a b v w rs o k h = o
    twice (p ∷ front) a b v w rs (inl o) k (inl h) = absent_rest front a b rs k h.2
    twice (p ∷ front) a b v w rs (inl o) k (inr h) = h.0 o.0
    twice (p ∷ front) a b v w rs (inr o) k (inl h) = o.0 h.0
    twice (p ∷ front) a b v w rs (inr o) k (inr h) = twice front a b v w rs o.1 k h.1

    never : (rs : RawPairs) (v : Raw) → Absent keyed i rs → Once keyed i rs v → ⊥
    never no_raw_pairs v h o = o
    never (raw_pair k w rs) v h (inl o) = h.0 o.0
    never (raw_pair k w rs) v h (inr o) = never rs v h.1 o.1

    -- the value is the one after the key
    its_value : (front : List (Raw × Raw)) (a b v : Raw) (rs : RawPairs) → Absent keyed i (whole front) → Names a → Once keyed i (behind front a b rs) v → b ≡ v
    its_value [] a b v rs h k (inl o) = o.1
    its_value [] a b v rs h k (inr o) = absurd (o.0 k)
    its_value (p ∷ front) a b v rs h k (inl o) = absurd (h.0 o.0)
    its_value (p ∷ front) a b v rs h k (inr o) = its_value front a b v rs h.1 k o.1

    module _ {A : Type 0} (reads : Raw → A → Type 0) where
      -- what is known of the field after some pairs: it is absent, or it is there once and read as x
      abbrev pub Slot : Option A → RawPairs → Type 0
      Slot None rs = Absent keyed i rs
      Slot (Some x) rs = IsFieldRead keyed i reads rs x

      slot_other : (front : List (Raw × Raw)) (a b : Raw) (o : Option A) → (Names a → ⊥) → Slot o (whole front) → Slot o (pushed front a b)
      slot_other front a b None n h = absent_more front a b h n
      slot_other front a b (Some x) n h = (h.0, once_more front a b h.0 h.1 n, h.2)

      slot_set : (front : List (Raw × Raw)) (a b : Raw) (o : Option A) (x : A) → is_some o ≡ false → Names a → reads b x → Slot o (whole front) → Slot (Some x) (pushed front a b)
      slot_set front a b None x none k read h = (b, once_first front a b h k, read)
      slot_set front a b (Some y) x none k read h = absurd cc

      slot_twice : (front : List (Raw × Raw)) (a b : Raw) (rs : RawPairs) (o : Option A) (y : A) → is_some o ≡ true → Names a → Slot o (whole front) → IsFieldRead keyed i reads (behind front a b rs) y → ⊥
      slot_twice front a b rs None y some k h all = absurd cc
      slot_twice front a b rs (Some x) y some k h all = twice front a b h.0 all.0 rs h.1 k all.1

      slot_missing : (rs : RawPairs) (o : Option A) (y : A) → is_some o ≡ false → Slot o rs → IsFieldRead keyed i reads rs y → ⊥
      slot_missing rs None y none h all = never rs all.0 h all.1
      slot_missing rs (Some x) y none h all = absurd cc

      slot_value : (front : List (Raw × Raw)) (a b : Raw) (rs : RawPairs) (o : Option A) (y : A) → is_some o ≡ false → Names a → Slot o (whole front) → IsFieldRead keyed i reads (behind front a b rs) y → reads b y
      slot_value front a b rs None y none k h all = subst (λ (r : Raw). reads r y) (sym (its_value front a b all.0 rs h k all.1)) all.2
      slot_value front a b rs (Some x) y none k h all = absurd cc

      -- a field whose key is there is read
      is_there : (front : List (Raw × Raw)) (a b : Raw) (rs : RawPairs) (missing : IfAbsent A) (y : A) → Names a → IsFieldOr missing keyed i reads (behind front a b rs) y → IsFieldRead keyed i reads (behind front a b rs) y
      is_there front a b rs refused y k h = h
      is_there front a b rs (taken z) y k (inl h) = h
      is_there front a b rs (taken z) y k (inr h) = absurd (absent_rest front a b rs k h.0)

      slot_lacks : (rs : RawPairs) (missing : IfAbsent A) (o : Option A) (y : A) → Lacks missing o → Slot o rs → IsFieldOr missing keyed i reads rs y → ⊥
      slot_lacks rs refused o y lacks h all = slot_missing rs o y lacks h all
      slot_lacks rs (taken z) o y lacks h all = lacks

      slot_all : (rs : RawPairs) (missing : IfAbsent A) (o : Option A) (y : A) → IsHeld o missing y → Slot o rs → IsFieldOr missing keyed i reads rs y
      slot_all rs refused None y is h = absurd is
      slot_all rs (taken z) None y is h = inr (h, is)
      slot_all rs refused (Some x) y is h = subst (λ (y : A). IsFieldRead keyed i reads rs y) is h
      slot_all rs (taken z) (Some x) y is h = inl (subst (λ (y : A). IsFieldRead keyed i reads rs y) is h)

known_one : (i j : ℕ) → Known i ≡ Known j → i ≡ j
known_one i j e = cc

unknown_one : (i : ℕ) → Unknown ≡ Known i → ⊥
unknown_one i e = absurd cc

-- what isn't the i-th field
pub not_known : {field : Field} {n x i : ℕ} → field ≡ Known n → x ≡ n → (x ≡ i → ⊥) → field ≡ Known i → ⊥
not_known {field} {n} {x} {i} is same other e = other (same ∙ known_one n i (sym is ∙ e))

pub not_unknown : {field : Field} {i : ℕ} → field ≡ Unknown → field ≡ Known i → ⊥
not_unknown {field} {i} is e = unknown_one i (sym is ∙ e)

module _ (keyed : Raw → Field → Type 0) where
  -- ---- keys

  keys_more : (front : List (Raw × Raw)) (a b : Raw) (field : Field) → AreFields keyed (whole front) → keyed a field → AreFields keyed (pushed front a b)
  keys_more [] a b field h key = ((field, key), tt)
  keys_more (p ∷ front) a b field h key = (h.0, keys_more front a b field h.1 key)

  keys_rest : (front : List (Raw × Raw)) (rs : RawPairs) → AreFields keyed (append_pairs front rs) → AreFields keyed rs
  keys_rest [] rs h = h
  keys_rest (p ∷ front) rs h = keys_rest front rs h.1

  keys_follow : (rs : RawPairs) → AreFields keyed rs → PairMayFollow keyed IsAny rs
  keys_follow no_raw_pairs h = tt
  keys_follow (raw_pair k v rs) h = (h.0, (tt, tt))

-- ---- all fields

module _ {S : Type 0} where
  -- whether the i-th field was read
  abbrev pub Has : Bool → (fields : List (FieldOf S)) → ℕ → Slots fields → Type 0
  Has b [] i slots = ⊥
  Has b (d ∷ fields) zero slots = is_some slots.0 ≡ b
  Has b (d ∷ fields) (suc i) slots = Has b fields i slots.1

  -- the i-th field wasn't read, and may not be absent
  abbrev pub LacksAt : (fields : List (FieldOf S)) → ℕ → Slots fields → Type 0
  LacksAt [] i slots = ⊥
  LacksAt (d ∷ fields) zero slots = Lacks d.missing slots.0
  LacksAt (d ∷ fields) (suc i) slots = LacksAt fields i slots.1

  abbrev pub ValueAt : List (FieldOf S) → ℕ → Type 0
  ValueAt [] i = ⊥
  ValueAt (d ∷ fields) zero = d.Value
  ValueAt (d ∷ fields) (suc i) = ValueAt fields i

  abbrev pub reads_at : (fields : List (FieldOf S)) (i : ℕ) → Raw → ValueAt fields i → Type 0
  reads_at [] i r v = ⊥
  reads_at (d ∷ fields) zero r v = d.reads r v
  reads_at (d ∷ fields) (suc i) r v = reads_at fields i r v

  -- with the i-th field read as this
  abbrev pub put : (fields : List (FieldOf S)) (i : ℕ) → ValueAt fields i → Slots fields → Slots fields
  put [] i v slots = slots
  put (d ∷ fields) zero v slots = (Some v, slots.1)
  put (d ∷ fields) (suc i) v slots = (slots.0, put fields i v slots.1)

  -- with this in the i-th field's slot
  abbrev pub fill : (fields : List (FieldOf S)) (i : ℕ) → Option (ValueAt fields i) → Slots fields → Slots fields
  fill [] i o slots = slots
  fill (d ∷ fields) zero o slots = (o, slots.1)
  fill (d ∷ fields) (suc i) o slots = (slots.0, fill fields i o slots.1)

  pub filled : (fields : List (FieldOf S)) (i : ℕ) (v : ValueAt fields i) (slots : Slots fields) → put fields i v slots ≡ fill fields i (Some v) slots
  filled [] i v slots = refl
  filled (d ∷ fields) zero v slots = refl
  filled (d ∷ fields) (suc i) v slots = ap (λ (rest : Slots fields). (slots.0, rest)) (filled fields i v slots.1)

  -- each field was read
  read_held : (fields : List (FieldOf S)) (x : S) → AreHeld fields (all_of fields x) x
  read_held [] x = tt
  read_held (d ∷ fields) x = (refl, read_held fields x)

  pub all_held : (fields : List (FieldOf S)) (slots : Slots fields) (x : S) → slots ≡ all_of fields x → AreHeld fields slots x
  all_held fields slots x is = subst (λ (slots : Slots fields). AreHeld fields slots x) (sym is) (read_held fields x)

  -- none of the fields, from the k-th on
  abbrev pub IsOther : ℕ → List (FieldOf S) → Field → Type 0
  IsOther k [] field = Unit {0}
  IsOther k (d ∷ fields) field = (field ≡ Known k → ⊥) × IsOther (suc k) fields field

  before : (j k : ℕ) (fields : List (FieldOf S)) → j < k → IsOther k fields (Known j)
  before j k [] below = tt
  before j k (d ∷ fields) below = ((λ e. absurd (omega (arith, below, known_one j k e))), before j (suc k) fields (omega (arith, below)))

  module _ (keyed : Raw → Field → Type 0) where
    abbrev Hold : ℕ → (fields : List (FieldOf S)) → Slots fields → RawPairs → Type 0
    Hold k [] slots rs = Unit {0}
    Hold k (d ∷ fields) slots rs = Slot keyed k d.reads slots.0 rs × Hold (suc k) fields slots.1 rs

    hold_none : (k : ℕ) (fields : List (FieldOf S)) → Hold k fields (none_yet fields) no_raw_pairs
    hold_none k [] = tt
    hold_none k (d ∷ fields) = (tt, hold_none (suc k) fields)

    module _ (front : List (Raw × Raw)) (a b : Raw) where
      hold_other : MeansOneField keyed → (k : ℕ) (fields : List (FieldOf S)) (slots : Slots fields) (field : Field) → IsOther k fields field → keyed a field → Hold k fields slots (whole front) → Hold k fields slots (pushed front a b)
      hold_other one k [] slots field other key h = tt
      hold_other one k (d ∷ fields) slots field other key h = (
        slot_other keyed k d.reads front a b slots.0 (other_field keyed one a field k other.0 key) h.0,
        hold_other one (suc k) fields slots.1 field other.1 key h.1,
      )

      hold_set : MeansOneField keyed → (k i j : ℕ) (fields : List (FieldOf S)) (slots : Slots fields) (v : ValueAt fields i) → j ≡ k + i → Has false fields i slots → keyed a (Known j) → reads_at fields i b v
          → Hold k fields slots (whole front) → Hold k fields (put fields i v slots) (pushed front a b)
      hold_set one k i j [] slots v at none key read h = absurd none
      hold_set one k zero j (d ∷ fields) slots v at none key read h =
          let here : j ≡ k = omega (arith, at) in (
            slot_set keyed k d.reads front a b slots.0 v none (subst (λ (j : ℕ). keyed a (Known j)) here key) read h.0,
            hold_other one (suc k) fields slots.1 (Known j) (before j (suc k) fields (omega (arith, at))) key h.1,
          )
      hold_set one k (suc i) j (d ∷ fields) slots v at none key read h = (
        slot_other keyed k d.reads front a b slots.0 (other_field keyed one a (Known j) k (λ e. absurd (omega (arith, at, known_one j k e))) key) h.0,
        hold_set one (suc k) i j fields slots.1 v (omega (arith, at)) none key read h.1,
      )

      module _ (rs : RawPairs) (x : S) where
        hold_twice : (k i j : ℕ) (fields : List (FieldOf S)) (slots : Slots fields) → j ≡ k + i → Has true fields i slots → keyed a (Known j)
            → Hold k fields slots (whole front) → HasFields keyed k fields (behind front a b rs) x → ⊥
        hold_twice k i j [] slots at some key h all = some
        hold_twice k zero j (d ∷ fields) slots at some key h all =
            let here : j ≡ k = omega (arith, at) in
            let k_here = subst (λ (j : ℕ). keyed a (Known j)) here key in
            slot_twice keyed k d.reads front a b rs slots.0 (d.of x) some k_here h.0 (is_there keyed k d.reads front a b rs d.missing (d.of x) k_here all.0)
        hold_twice k (suc i) j (d ∷ fields) slots at some key h all = hold_twice (suc k) i j fields slots.1 (omega (arith, at)) some key h.1 all.1

        hold_value : (k i j : ℕ) (fields : List (FieldOf S)) (slots : Slots fields) → j ≡ k + i → Has false fields i slots → keyed a (Known j)
            → Hold k fields slots (whole front) → HasFields keyed k fields (behind front a b rs) x → (v : ValueAt fields i) × reads_at fields i b v
        hold_value k i j [] slots at none key h all = absurd none
        hold_value k zero j (d ∷ fields) slots at none key h all =
            let here : j ≡ k = omega (arith, at) in
            let k_here = subst (λ (j : ℕ). keyed a (Known j)) here key in
            (d.of x, slot_value keyed k d.reads front a b rs slots.0 (d.of x) none k_here h.0 (is_there keyed k d.reads front a b rs d.missing (d.of x) k_here all.0))
        hold_value k (suc i) j (d ∷ fields) slots at none key h all = hold_value (suc k) i j fields slots.1 (omega (arith, at)) none key h.1 all.1

    hold_missing : (rs : RawPairs) (x : S) (k i : ℕ) (fields : List (FieldOf S)) (slots : Slots fields) → LacksAt fields i slots → Hold k fields slots rs → HasFields keyed k fields rs x → ⊥
    hold_missing rs x k i [] slots none h all = none
    hold_missing rs x k zero (d ∷ fields) slots none h all = slot_lacks keyed k d.reads rs d.missing slots.0 (d.of x) none h.0 all.0
    hold_missing rs x k (suc i) (d ∷ fields) slots none h all = hold_missing rs x (suc k) i fields slots.1 none h.1 all.1

    hold_all : (rs : RawPairs) (x : S) (k : ℕ) (fields : List (FieldOf S)) (slots : Slots fields) → AreHeld fields slots x → Hold k fields slots rs → HasFields keyed k fields rs x
    hold_all rs x k [] slots is h = tt
    hold_all rs x k (d ∷ fields) slots is h = (slot_all keyed k d.reads rs d.missing slots.0 (d.of x) is.0 h.0, hold_all rs x (suc k) fields slots.1 is.1 h.1)

    -- ---- the pairs so far

    module _ (fields : List (FieldOf S)) where
      -- Each key of the pairs before means a field, or none, and this is known of the fields.
      pub record Gathered (slots : Slots fields) (front : List (Raw × Raw)) : Type 0 where
        pub keys : AreFields keyed (whole front)
        pub hold : Hold 0 fields slots (whole front)

      pub gathered_none : Gathered (none_yet fields) []
      gathered_none = record { keys = tt; hold = hold_none 0 fields }

      module _ (slots : Slots fields) (front : List (Raw × Raw)) (a b : Raw) where
        pub gathered_set : MeansOneField keyed → (i : ℕ) (v : ValueAt fields i) → Has false fields i slots → Gathered slots front → keyed a (Known i) → reads_at fields i b v → Gathered (put fields i v slots) (front ++ (a, b) ∷ [])
        gathered_set one i v none h key read = record {
          keys = keys_more keyed front a b (Known i) h.keys key;
          hold = hold_set front a b one 0 i i fields slots v (omega arith) none key read h.hold;
        }

        pub gathered_other : MeansOneField keyed → (field : Field) → IsOther 0 fields field → Gathered slots front → keyed a field → Gathered slots (front ++ (a, b) ∷ [])
        gathered_other one field other h key = record {
          keys = keys_more keyed front a b field h.keys key;
          hold = hold_other front a b one 0 fields slots field other key h.hold;
        }

        pub gathered_twice : (i : ℕ) (rs : RawPairs) (x : S) → Has true fields i slots → Gathered slots front → keyed a (Known i) → AreFieldsOf keyed fields (behind front a b rs) x → ⊥
        gathered_twice i rs x some h key all = hold_twice front a b rs x 0 i i fields slots (omega arith) some key h.hold all.read

        pub gathered_value : (i : ℕ) (rs : RawPairs) (x : S) → Has false fields i slots → Gathered slots front → keyed a (Known i) → AreFieldsOf keyed fields (behind front a b rs) x → (v : ValueAt fields i) × reads_at fields i b v
        gathered_value i rs x none h key all = hold_value front a b rs x 0 i i fields slots (omega arith) none key h.hold all.read

      pub gathered_missing : (slots : Slots fields) (front : List (Raw × Raw)) (i : ℕ) (x : S) → LacksAt fields i slots → Gathered slots front → AreFieldsOf keyed fields (whole front) x → ⊥
      gathered_missing slots front i x none h all = hold_missing (whole front) x 0 i fields slots none h.hold all.read

      pub gathered_all : (slots : Slots fields) (front : List (Raw × Raw)) (x : S) → AreHeld fields slots x → Gathered slots front → AreFieldsOf keyed fields (whole front) x
      gathered_all slots front x is h = record {
        keys = h.keys;
        read = hold_all (whole front) x 0 fields slots is h.hold;
      }

      pub gathered_follows : (slots : Slots fields) (front : List (Raw × Raw)) (more : RawPairs) (x : S) → Gathered slots front → AreFieldsOf keyed fields (append_pairs front more) x → PairMayFollow keyed IsAny more
      gathered_follows slots front more x h all = keys_follow keyed more (keys_rest keyed front more all.keys)
