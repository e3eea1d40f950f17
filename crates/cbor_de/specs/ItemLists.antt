-- The items that remain of an array, as a tuple.
use Rattle.std.specs.Prelude.{◌≡◌, ◌⊎◌, ◌++◌, ℕ, Bool, List, Result, Ok, Err, Some, codes}
use Rattle.std.specs.Fmt.{decimal}
use Rattle.cbor_model.specs.Formats.{Formats, all_formats}
use Rattle.cbor_model.specs.Raw.{Raw, Raws}
use Rattle.cbor_model.specs.Reader as reader
use Rattle.cbor_model.specs.Reader.{Reads}
use Rattle.cbor_io.specs.declared.error.Error.{Error}
use Rattle.cbor_io.specs.declared.error.ErrorCode.TheVariants.{OutOfMemory}
use Rattle.cbor_io.specs.declared.read_error.ReadErrorCode.{ReadErrorCode}
use Rattle.cbor_io.specs.Error.{IsMessageOf, code_of, offset_of}
use Rattle.cbor_read.specs.Source.{Input}
use Rattle.cbor_decode.specs.Gives.{Reports, ReportsIo, Step, limits}
use Rattle.cbor_decode.specs.Heads.{remaining_of}
use Rattle.cbor_decode.specs.declared.cursor.Remaining.{Remaining}
use Rattle.cbor_decode_as.specs.Accesses.{IsEnd, IsNextItem, items_at}
use Rattle.cbor_decode_as.specs.Arrays.{AsArray, as_array_same, first_then_same}
use Rattle.cbor_decode_as.specs.Enums.{part_then, no_part}
use Rattle.cbor_decode_as.specs.Takes.{ExcusedBy, Refuses, ReportsIfAny}

-- The items that are read mean x, and the rest follows them.
pub record AreItems {A : Type 0} (items : Raws → A → Type 0) (read : Reads Raws) (x : A) (rest : List ℕ) : Type 0 where
  pub all : Raws
  pub is : read ≡ Ok (all, rest)
  pub meaning : items all x

-- no items that mean something are at the front
abbrev pub AreNoItems : {A : Type 0} → (Raws → A → Type 0) → Reads Raws → Type 0
AreNoItems {A} items read = (x : A) (rest : List ℕ) → AreItems items read x rest → ⊥

-- What the items mean that remain of an array; or that no such items are there.
abbrev pub TakesItems : {A : Type 0} → (ReadErrorCode → Bool) → Formats → (Raws → A → Type 0) → ℕ
    → Remaining → Input → Input → Result A Error → Type 0
TakesItems refusals f items levels remaining s t (Ok x) =
    Step s t (λ l bs rest. AreItems items (items_at f l levels (remaining_of remaining) bs) x rest)
TakesItems refusals f items levels remaining s t (Err e) =
    Refuses refusals s t (code_of e) (offset_of e)
    (λ l bs. AreNoItems items (items_at f l levels (remaining_of remaining) bs))

-- ---- too few items

-- the text of the error of an array that has so many items, and has to have so many
abbrev pub length_text : ℕ → ℕ → List ℕ
length_text found expected = codes "invalid length " ++ decimal found ++ codes ", expected " ++ decimal expected

-- Where no item comes of an array of which so much remains, that is reported by this text.
abbrev pub ReportsShort : (ReadErrorCode → Bool) → List ℕ → Remaining → Input → Error → Type 0
ReportsShort refusals text remaining s e = (bs : List ℕ) → Reports s bs
    → (rest : List ℕ) → IsEnd (remaining_of remaining) (limits s bs) bs rest
    → ExcusedBy (ReportsIo refusals) (code_of e) (offset_of e)
    ⊎ (IsMessageOf (Some text) (code_of e) × (offset_of e ≡ 0))

-- no item comes of an array of which so much remains
abbrev pub NoneComes : Remaining → Input → Type 0
NoneComes remaining s = (bs : List ℕ) → Reports s bs
    → (rest : List ℕ) × IsEnd (remaining_of remaining) (limits s bs) bs rest

-- Where memory ran out, the next item that is read as something is one for which memory may be asked.
abbrev pub MemoryForItem : {A : Type 0} → (Raw → Type 0) → Formats → (Raw → A → Type 0) → ℕ → Remaining
    → Input → Error → Type 0
MemoryForItem {A} asks f reads levels remaining s e = code_of e ≡ OutOfMemory
    → (bs : List ℕ) → Reports s bs → (x : A) (after : reader.Remaining) (rest : List ℕ)
    → (next : IsNextItem reads f levels (remaining_of remaining) after x (limits s bs) bs rest)
    → asks next.item.item

-- ---- the fault

-- The fault of the items that remain of an array and of its end, if the error reports one, whatever formats
-- their keys are of.
abbrev pub ItemsFault : (ReadErrorCode → Bool) → ℕ → Remaining → Input → Error → Type 0
ItemsFault refusals levels remaining s e =
    ReportsIfAny refusals (λ l. items_at all_formats l levels (remaining_of remaining)) s e

-- ---- laws

-- what items are read as by one list, they are read as by the other
abbrev pub AreSame : {A : Type 0} → (one two : Raws → A → Type 0) → Type 0
AreSame {A} one two = (rs : Raws) (x : A) → one rs x → two rs x

pub none_same : AreSame no_part no_part
none_same rs u h = h

pub then_same : {A B : Type 0} {one two : Raw → A → Type 0} {some others : Raws → B → Type 0}
    → ((r : Raw) (x : A) → one r x → two r x) → AreSame some others
    → AreSame (part_then one some) (part_then two others)
then_same {one = one} {two = two} {some = some} {others = others} on rest rs y h =
    first_then_same one two y.0 (λ more. some more y.1) (λ more. others more y.1) (λ r. on r y.0)
    (λ more. rest more y.1) rs h

-- and so is an array of them, as a tuple whose parts they are
pub tuple_same : {T A : Type 0} {one two : Raws → A → Type 0} (parts : T → A) → AreSame one two
    → (r : Raw) (t : T) → AsArray (λ rs t. one rs (parts t)) r t → AsArray (λ rs t. two rs (parts t)) r t
tuple_same {one = one} {two = two} parts on r t h =
    as_array_same (λ rs t. one rs (parts t)) (λ rs t. two rs (parts t)) (λ rs t. on rs (parts t)) r t h
