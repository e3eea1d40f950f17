-- The items of a tuple, one after the other.
use Rattle.std.proofs.Common.{List, [], ◌∷◌, ◌++◌}
use Rattle.cbor_model.specs.Raw as raw
use Rattle.cbor_model.specs.Raw.{Raw, Raws, no_raws}
use Rattle.cbor_decode_as.specs.Arrays.{FirstThen, AreNone}
use Rattle.cbor_decode_as.proofs.arrays.Sequences.{append, MustFollow}

-- nothing was read
abbrev pub Empty : List Raw → Type 0
Empty [] = Unit {0}
Empty (r ∷ rs) = ⊥

-- an item that is read as x was read, and then those of which others holds
abbrev pub Then : {A : Type 0} → (Raw → A → Type 0) → A → (List Raw → Type 0) → List Raw → Type 0
Then reads x others [] = ⊥
Then reads x others (r ∷ rs) = reads r x × others rs

-- ---- one more item

pub one_more : {A : Type 0} (reads : Raw → A → Type 0) (x : A) (r : Raw) → reads r x → (front : List Raw) → Empty front → Then reads x Empty (front ++ r ∷ [])
one_more reads x r k [] h = (k, tt)
one_more reads x r k (q ∷ front) h = absurd h

pub then_more : {A : Type 0} (reads : Raw → A → Type 0) (x : A) (some others : List Raw → Type 0) (r : Raw) → ((front : List Raw) → some front → others (front ++ r ∷ [])) → (front : List Raw) → Then reads x some front → Then reads x others (front ++ r ∷ [])
then_more reads x some others r on [] h = absurd h
then_more reads x some others r on (q ∷ front) h = (h.0, on front h.1)

-- ---- all items

pub none_all : (front : List Raw) → Empty front → AreNone (append front no_raws)
none_all [] h = tt
none_all (q ∷ front) h = absurd h

pub then_all : {A : Type 0} (reads : Raw → A → Type 0) (x : A) (some : List Raw → Type 0) (others : Raws → Type 0) → ((front : List Raw) → some front → others (append front no_raws)) → (front : List Raw) → Then reads x some front → FirstThen reads x others (append front no_raws)
then_all reads x some others on [] h = absurd h
then_all reads x some others on (q ∷ front) h = (h.0, on front h.1)

-- ---- what has to follow

-- Where the items were read, and those that follow are the rest of a tuple, M holds of these.
pub empty_rest : (M : Raws → Type 0) (others : Raws → Type 0) → ((more : Raws) → others more → M more) → (front : List Raw) (more : Raws) → Empty front → others (append front more) → M more
empty_rest M others on [] more h means = on more means
empty_rest M others on (q ∷ front) more h means = absurd h

pub then_rest : {A : Type 0} (reads : Raw → A → Type 0) (x y : A) (some : List Raw → Type 0) (others M : Raws → Type 0) → ((front : List Raw) (more : Raws) → some front → others (append front more) → M more)
    → (front : List Raw) (more : Raws) → Then reads x some front → FirstThen reads y others (append front more) → M more
then_rest reads x y some others M on [] more h means = absurd h
then_rest reads x y some others M on (q ∷ front) more h means = on front more h.1 means.1

pub first_follows : {A : Type 0} (reads : Raw → A → Type 0) (x : A) (others : Raws → Type 0) (more : Raws) → FirstThen reads x others more → MustFollow reads more
first_follows reads x others no_raws h = absurd h
first_follows reads x others (raw.raw r rs) h = (x, h.0)
