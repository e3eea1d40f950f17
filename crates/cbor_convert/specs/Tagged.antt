-- Items with their outermost tags (RFC 7049, section 2.4).
use Rattle.std.specs.Prelude.{⊤, ◌≡◌, ◌<◌, ℕ, false, List, [], ◌∷◌, ◌++◌, Option, Some, None, codes}
use Rattle.std.specs.Fmt.{decimal}
use Rattle.cbor_model.specs.Document.{Doc, tagged}
use Rattle.cbor_model.specs.Raw as raw
use Rattle.cbor_model.specs.Raw.{Raw}
use Rattle.cbor_read.specs.Source.{Input}
use Rattle.cbor_decode.specs.Gives.{Step}
use Rattle.cbor_decode_as.specs.Tags.{begins_tag}

-- a document within this tag, or as it is
abbrev pub tagged_document : Option ℕ → Doc → Doc
tagged_document (Some n) d = tagged n d
tagged_document None d = d

-- a tag and what is read within it; or, without a tag, what is read
abbrev pub IsTagged : {A : Type 0} → (Raw → A → Type 0) → Raw → Option ℕ → A → Type 0
IsTagged reads (raw.tag w n r) tag x = (tag ≡ Some n) × reads r x
IsTagged reads r tag x = (tag ≡ None) × reads r x

-- P holds of what an item's outermost tag is of, or of the item where it has no tag.
abbrev pub WithinTag : (Raw → Type 0) → Raw → Type 0
WithinTag P (raw.tag w n r) = P r
WithinTag P r = P r

-- the words for an item that isn't within this tag
abbrev pub tag_expected : ℕ → List ℕ
tag_expected n = codes "invalid type: expected tag " ++ decimal n

-- of two readings of which one reads what the other does, so is the second within tags
pub same_tagged : {A : Type 0} (one two : Raw → A → Type 0)
    → ((r : Raw) (x : A) → one r x → two r x)
    → (r : Raw) (tag : Option ℕ) (x : A) → IsTagged one r tag x → IsTagged two r tag x
same_tagged one two on (raw.unsigned w n) tag x h = (h.0, on _ x h.1)
same_tagged one two on (raw.negative w n) tag x h = (h.0, on _ x h.1)
same_tagged one two on (raw.bytes c) tag x h = (h.0, on _ x h.1)
same_tagged one two on (raw.text c) tag x h = (h.0, on _ x h.1)
same_tagged one two on (raw.bytes_chunks cs) tag x h = (h.0, on _ x h.1)
same_tagged one two on (raw.text_chunks cs) tag x h = (h.0, on _ x h.1)
same_tagged one two on (raw.array l rs) tag x h = (h.0, on _ x h.1)
same_tagged one two on (raw.map l ps) tag x h = (h.0, on _ x h.1)
same_tagged one two on (raw.tag w n r) tag x h = (h.0, on r x h.1)
same_tagged one two on (raw.simple s) tag x h = (h.0, on _ x h.1)
same_tagged one two on (raw.float w bits) tag x h = (h.0, on _ x h.1)

-- the bytes begin with no tag's head, or there are none
abbrev pub BeginsNoTag : List ℕ → Type 0
BeginsNoTag [] = ⊤
BeginsNoTag (b ∷ bs) = (b < 256) × (begins_tag b ≡ false)

-- no tag is at the front, and nothing was taken
abbrev pub StandsNoTag : Input → Input → Type 0
StandsNoTag s t = Step s t (λ l bs rest. (rest ≡ bs) × BeginsNoTag bs)
