-- The words for accesses: what opens one, and what a call on it takes. They speak of the deserializer
-- before and after, and of what remains; `Accesses`, `MapAccesses` and `Variants` of `cbor_decode_as`
-- say the same of inputs.
use Rattle.std.specs.Prelude.{◌≡◌, ◌⊎◌, ◌<◌, ◌≤◌, ℕ, Bool, List, Option, MatchOption, Result}
use Rattle.cbor_model.specs.Formats.{Formats}
use Rattle.cbor_model.specs.Raw.{Raw}
use Rattle.cbor_model.specs.Reader.{item_at}
use Rattle.cbor_io.specs.declared.error.Error.{Error}
use Rattle.cbor_io.specs.declared.read_error.ReadErrorCode.{ReadErrorCode}
use Rattle.cbor_read.specs.Source.{Input}
use Rattle.cbor_decode.specs.Gives.{Step}
use Rattle.cbor_decode.specs.Steps as step
use Rattle.cbor_decode.specs.declared.cursor.Collection.{Collection}
use Rattle.cbor_decode.specs.declared.cursor.Remaining.{Remaining}
use Rattle.cbor_decode.specs.declared.cursor.Remaining.TheVariants.{Counted}
use Rattle.cbor_decode.specs.declared.head.Head.{Head}
use Rattle.cbor_decode_as.specs.Accesses as arrays
use Rattle.cbor_decode_as.specs.Accesses.{most_left}
use Rattle.cbor_decode_as.specs.Begins as begins
use Rattle.cbor_decode_as.specs.BeginsEnum as begins_enum
use Rattle.cbor_decode_as.specs.Collections as collections
use Rattle.cbor_decode_as.specs.MapAccesses as maps
use Rattle.cbor_decode_as.specs.Takes as input
use Rattle.cbor_decode_as.specs.Takes.{WhateverTaken, WhereTotal, formats_of, raws}
use Rattle.cbor_decode_as.specs.Contents as contents
use Rattle.cbor_decode_as.specs.Enums.{Content}
use Rattle.cbor_decode_as.specs.Variants as variants
use Rattle.cbor_decode_as.specs.declared.variant.Form.{Form}
use Rattle.cbor_de.specs.ItemLists as lists
use Rattle.cbor_de.specs.declared.de.Deserializer.{Deserializer}

-- ---- what opens one

-- Refused, so many levels are left, the same formats are read, and some bytes were taken.
abbrev pub Rests : {R : Type 0} → (R → Input) → ℕ → Deserializer R → Deserializer R → Type 0
Rests seen outer old last =
    (last.decoder.levels ≡ outer)
    × (last.decoder.formats ≡ old.decoder.formats)
    × step.TookSome seen old.decoder last.decoder

-- the heads of an array or a map were taken
abbrev pub Opens : {R : Type 0} → (R → Input) → Collection → Deserializer R → Deserializer R
    → Remaining → Type 0
Opens seen of old now remaining =
    let f = formats_of old.decoder.formats in
    Step (seen old.decoder.source) (seen now.decoder.source) (λ l bs rest. collections.IsHeadOf of f l (item_at (raws f l) old.decoder.levels bs) now.decoder.levels remaining rest)

abbrev pub RefusesOpening : {R : Type 0} → (R → Input) → Collection → (ReadErrorCode → Bool)
    → Deserializer R → Error → Type 0
RefusesOpening seen of refusals old e =
    let s = seen old.decoder.source in
    WhateverTaken s (collections.RefusesHeadOf of refusals (formats_of old.decoder.formats) old.decoder.levels s) e

-- such a head alone was taken, whatever follows it
abbrev pub Begins : {R : Type 0} → (R → Input) → (Remaining → Head) → Deserializer R
    → Deserializer R → Remaining → Type 0
Begins seen kind old now remaining = Step (seen old.decoder.source) (seen now.decoder.source) (λ l bs rest. begins.Begins kind old.decoder.levels now.decoder.levels remaining bs rest)

abbrev pub RefusesBeginning : {R : Type 0} → (R → Input) → (ReadErrorCode → Bool)
    → (Remaining → Head) → Deserializer R → Error → Type 0
RefusesBeginning seen refusals kind old e =
    let s = seen old.decoder.source in
    WhateverTaken s (begins.RefusesBeginning kind refusals old.decoder.levels s) e

-- Where memory ran out, it was asked for the message on an item of another kind.
abbrev pub MemoryForOther : {R : Type 0} → (R → Input) → (Remaining → Head) → Deserializer R → Error
    → Type 0
MemoryForOther seen kind old e =
    begins.MemoryForOther kind old.decoder.levels (seen old.decoder.source) e

-- A refusal reports the fault of the item at the front; or it is a message, where one of another kind
-- stands there.
abbrev pub BeginningFault : {R : Type 0} → (R → Input) → (ReadErrorCode → Bool) → (Remaining → Head)
    → Deserializer R → Error → Type 0
BeginningFault seen refusals kind old e =
    begins.BeginningFault kind refusals old.decoder.levels (seen old.decoder.source) e

-- an enum was taken up to its identifier, which is one of the names
abbrev pub OpensVariant : {R : Type 0} → (R → Input) → List (List ℕ) → Deserializer R
    → Deserializer R → ℕ → Form → Type 0
OpensVariant seen names old now index form =
    let f = formats_of old.decoder.formats in
    Step (seen old.decoder.source) (seen now.decoder.source) (λ l bs rest. variants.IsVariantHead f names l (item_at (raws f l) old.decoder.levels bs) now.decoder.levels index form rest)

abbrev pub RefusesVariant : {R : Type 0} → (R → Input) → (ReadErrorCode → Bool) → List (List ℕ)
    → Deserializer R → Error → Type 0
RefusesVariant seen refusals names old e =
    let s = seen old.decoder.source in
    WhateverTaken s (variants.RefusesVariant refusals (formats_of old.decoder.formats) names old.decoder.levels s) e

-- the same, whatever follows
abbrev pub BeginsVariant : {R : Type 0} → (R → Input) → List (List ℕ) → Deserializer R
    → Deserializer R → ℕ → Form → Type 0
BeginsVariant seen names old now index form = Step (seen old.decoder.source) (seen now.decoder.source) (λ l bs rest. begins_enum.BeginsVariant (formats_of old.decoder.formats) names l old.decoder.levels now.decoder.levels index form bs rest)

abbrev pub RefusesVariantHead : {R : Type 0} → (R → Input) → (ReadErrorCode → Bool)
    → List (List ℕ) → Deserializer R → Error → Type 0
RefusesVariantHead seen refusals names old e =
    let s = seen old.decoder.source in
    WhateverTaken s (begins_enum.RefusesVariantHead refusals (formats_of old.decoder.formats) names old.decoder.levels s) e

-- A refusal reports the fault of the item at the front, if it reports one.
abbrev pub VariantFault : {R : Type 0} → (R → Input) → (ReadErrorCode → Bool) → Deserializer R
    → Error → Type 0
VariantFault seen refusals old e =
    input.ItemFault refusals old.decoder.levels (seen old.decoder.source) e

-- Where memory ran out, it was asked for the identifier, or for a message on what stands there.
abbrev pub MemoryForVariant : {R : Type 0} → (R → Input) → (Raw → Type 0) → List (List ℕ)
    → Deserializer R → Error → Type 0
MemoryForVariant seen asks names old e =
    begins_enum.MemoryForVariant asks (formats_of old.decoder.formats) names old.decoder.levels (seen old.decoder.source) e

-- what stands before the parts of a variant of several was taken
abbrev pub OpensParts : {R : Type 0} → (R → Input) → Form → Deserializer R → Deserializer R
    → Remaining → Type 0
OpensParts seen form old now remaining =
    let f = formats_of old.decoder.formats in
    Step (seen old.decoder.source) (seen now.decoder.source) (λ l bs rest. variants.IsPartsHead f l (variants.content_at f l old.decoder.levels form bs) now.decoder.levels remaining rest)

abbrev pub RefusesParts : {R : Type 0} → (R → Input) → (ReadErrorCode → Bool) → Form
    → Deserializer R → Error → Type 0
RefusesParts seen refusals form old e =
    let s = seen old.decoder.source in
    WhateverTaken s (variants.RefusesParts refusals (formats_of old.decoder.formats) old.decoder.levels form s) e

-- the same, whatever follows
abbrev pub BeginsParts : {R : Type 0} → (R → Input) → Form → Deserializer R → Deserializer R
    → Remaining → Type 0
BeginsParts seen form old now remaining = Step (seen old.decoder.source) (seen now.decoder.source) (λ l bs rest. begins_enum.BeginsParts old.decoder.levels form now.decoder.levels remaining bs rest)

abbrev pub RefusesPartsHead : {R : Type 0} → (R → Input) → (ReadErrorCode → Bool) → Form
    → Deserializer R → Error → Type 0
RefusesPartsHead seen refusals form old e =
    let s = seen old.decoder.source in
    WhateverTaken s (begins_enum.RefusesPartsHead refusals old.decoder.levels form s) e

-- The refusal is one of what stands before the parts.
abbrev pub PartsFault : {R : Type 0} → (R → Input) → (ReadErrorCode → Bool) → Form → Deserializer R
    → Error → Type 0
PartsFault seen refusals form old e =
    contents.PartsFault refusals old.decoder.levels form (seen old.decoder.source) e

-- Where memory ran out, it was asked for a message.
abbrev pub MemoryForParts : {R : Type 0} → (R → Input) → Form → Deserializer R → Error → Type 0
MemoryForParts seen form old e =
    contents.MemoryForParts old.decoder.levels form (seen old.decoder.source) e

-- ---- what a call on one takes

abbrev pub TakesNext : {R A : Type 0} → (R → Input) → (ReadErrorCode → Bool) → (Raw → A → Type 0)
    → Remaining → Remaining → Deserializer R → Deserializer R → Result (Option A) Error → Type 0
TakesNext seen refusals reads remaining behind old new result =
    arrays.TakesNext refusals (formats_of old.decoder.formats) reads old.decoder.levels remaining behind (seen old.decoder.source) (seen new.decoder.source) result

-- Where memory ran out, the next item that is read as something is one for which memory may be asked.
abbrev pub MemoryForNext : {R A : Type 0} → (R → Input) → (Raw → Type 0) → (Raw → A → Type 0)
    → Remaining → Deserializer R → Error → Type 0
MemoryForNext seen asks reads remaining old e =
    arrays.MemoryForNext asks (formats_of old.decoder.formats) reads old.decoder.levels remaining (seen old.decoder.source) e

-- The error reports that neither an item comes nor the end; or it is one of the item that comes, as its
-- type's.
abbrev pub NextFault : {R : Type 0} → (R → Input) → (ReadErrorCode → Bool) → Bool → Bool → Remaining
    → Deserializer R → Error → Type 0
NextFault seen refusals passes_over total remaining old e =
    arrays.NextFault refusals (input.ReportsItem passes_over total refusals (formats_of old.decoder.formats) old.decoder.levels) remaining (seen old.decoder.source) e

-- A message where no item comes; or as of the next item.
abbrev pub MissingOrNextFault : {R : Type 0} → (R → Input) → (ReadErrorCode → Bool) → Bool → Bool
    → Remaining → Deserializer R → Error → Type 0
MissingOrNextFault seen refusals passes_over total remaining old e =
    (input.IsMessage e × lists.NoneComes remaining (seen old.decoder.source))
    ⊎ NextFault seen refusals passes_over total remaining old e

-- Where memory ran out, the next item that is read as something is one for which memory may be asked; or no
-- item comes.
abbrev pub MemoryForItem : {R A : Type 0} → (R → Input) → (Raw → Type 0) → (Raw → A → Type 0)
    → Remaining → Deserializer R → Error → Type 0
MemoryForItem seen asks reads remaining old e =
    lists.MemoryForItem asks (formats_of old.decoder.formats) reads old.decoder.levels remaining (seen old.decoder.source) e

-- Where a type's refusals report the faults of the bytes: the fault of the items that remain and of the end, if
-- the error reports one.
abbrev pub ItemsFault : {R : Type 0} → (R → Input) → (ReadErrorCode → Bool) → Bool → Remaining
    → Deserializer R → Error → Type 0
ItemsFault seen refusals reports_faults remaining old e =
    WhereTotal reports_faults (lists.ItemsFault refusals old.decoder.levels remaining (seen old.decoder.source) e)

abbrev pub TakesPart : {R A : Type 0} → (R → Input) → (ReadErrorCode → Bool) → (Raw → A → Type 0)
    → Remaining → Remaining → Deserializer R → Deserializer R → Result A Error → Type 0
TakesPart seen refusals reads remaining behind old new result =
    arrays.TakesPart refusals (formats_of old.decoder.formats) reads old.decoder.levels remaining behind (seen old.decoder.source) (seen new.decoder.source) result

abbrev pub TakesKey : {R A : Type 0} → (R → Input) → (ReadErrorCode → Bool) → (Raw → A → Type 0)
    → Remaining → Remaining → Deserializer R → Deserializer R → Result (Option A) Error → Type 0
TakesKey seen refusals reads remaining behind old new result =
    maps.TakesKey refusals (formats_of old.decoder.formats) reads old.decoder.levels remaining behind (seen old.decoder.source) (seen new.decoder.source) result

-- the same of the next key
abbrev pub MemoryForKey : {R A : Type 0} → (R → Input) → (Raw → Type 0) → (Raw → A → Type 0)
    → Remaining → Deserializer R → Error → Type 0
MemoryForKey seen asks reads remaining old e =
    maps.MemoryForKey asks (formats_of old.decoder.formats) reads old.decoder.levels remaining (seen old.decoder.source) e

abbrev pub KeyFault : {R : Type 0} → (R → Input) → (ReadErrorCode → Bool) → Bool → Bool → Remaining
    → Deserializer R → Error → Type 0
KeyFault seen refusals passes_over total remaining old e =
    let f = formats_of old.decoder.formats in
    maps.KeyFault refusals (input.ReportsItem passes_over total refusals f old.decoder.levels) f remaining (seen old.decoder.source) e

-- The error reports that neither a key comes that may begin as it does nor the end; or the fault of the key
-- that comes, if it reports one.
abbrev pub NameFault : {R : Type 0} → (R → Input) → (ReadErrorCode → Bool) → Remaining → Deserializer R
    → Error → Type 0
NameFault seen refusals remaining old e =
    maps.KeyFault refusals (input.ItemFault refusals old.decoder.levels) (formats_of old.decoder.formats) remaining (seen old.decoder.source) e

-- The same, of the key that comes where its type's refusals report the faults of the bytes.
abbrev pub OwnKeyFault : {R : Type 0} → (R → Input) → (ReadErrorCode → Bool) → Bool → Remaining
    → Deserializer R → Error → Type 0
OwnKeyFault seen refusals reports_faults remaining old e =
    maps.KeyFault refusals (λ s e. WhereTotal reports_faults (input.ItemFault refusals old.decoder.levels s e)) (formats_of old.decoder.formats) remaining (seen old.decoder.source) e

abbrev pub TakesContent : {R A : Type 0} → (R → Input) → (ReadErrorCode → Bool)
    → (Content → A → Type 0) → Form → Deserializer R → Deserializer R → Result A Error → Type 0
TakesContent seen refusals reads form old new result =
    variants.TakesContent refusals (formats_of old.decoder.formats) reads old.decoder.levels form (seen old.decoder.source) (seen new.decoder.source) result

-- ---- the content of a variant, refused

-- A refusal reports the fault of the content, if it reports one.
abbrev pub ContentFault : {R : Type 0} → (R → Input) → (ReadErrorCode → Bool) → Form
    → Deserializer R → Error → Type 0
ContentFault seen refusals form old e =
    contents.ContentFault refusals old.decoder.levels form (seen old.decoder.source) e

-- Where memory ran out, it was asked for a message on what stands in the place of null.
abbrev pub MemoryForNull : {R : Type 0} → (R → Input) → Form → Deserializer R → Error → Type 0
MemoryForNull seen form old e =
    contents.MemoryForNull (formats_of old.decoder.formats) old.decoder.levels form (seen old.decoder.source) e

-- what a type's refusal reports of the item at the front, by what is said of the type
abbrev pub TypeFault : Bool → Bool → Bool → (ReadErrorCode → Bool) → Formats → ℕ → Input → Error
    → Type 0
TypeFault passes_over total reports_faults refusals f levels s e =
    input.ReportsItem passes_over total refusals f levels s e
    × WhereTotal reports_faults (input.ItemFault refusals levels s e)

-- The refusal is one of the one part, as its type's, or of what stands there in its place or behind it.
abbrev pub PartFault : {R A : Type 0} → (R → Input) → (ReadErrorCode → Bool) → Bool → Bool → Bool
    → (Raw → A → Type 0) → Form → Deserializer R → Error → Type 0
PartFault seen refusals passes_over total reports_faults reads form old e =
    let f = formats_of old.decoder.formats in
    let levels = old.decoder.levels in
    contents.PartFault refusals (TypeFault passes_over total reports_faults refusals f levels) reads f levels form (seen old.decoder.source) e

-- Where memory ran out, it was asked for the part that is read as something, or for a message.
abbrev pub MemoryForPart : {R A : Type 0} → (R → Input) → (Raw → Type 0) → (Raw → A → Type 0)
    → Form → Deserializer R → Error → Type 0
MemoryForPart seen asks reads form old e =
    contents.MemoryForPart asks (formats_of old.decoder.formats) reads old.decoder.levels form (seen old.decoder.source) e

-- ---- loops

-- Fewer can still be read, so that a loop ends.
abbrev pub Fewer : {R : Type 0} → (R → Input) → Remaining → Remaining → Deserializer R
    → Deserializer R → Type 0
Fewer seen remaining behind old new =
    most_left behind (seen new.decoder.source) < most_left remaining (seen old.decoder.source)

-- No more can still be read.
abbrev pub NoMore : {R : Type 0} → (R → Input) → Remaining → Remaining → Deserializer R
    → Deserializer R → Type 0
NoMore seen remaining behind old new =
    most_left behind (seen new.decoder.source) ≤ most_left remaining (seen old.decoder.source)

-- Nothing remains after the last, and fewer after another.
abbrev pub Ends : {R A : Type 0} → (R → Input) → Remaining → Remaining → Deserializer R
    → Deserializer R → Option A → Type 0
Ends seen remaining behind old new next =
    MatchOption next (behind ≡ Counted 0) (λ x. Fewer seen remaining behind old new)
