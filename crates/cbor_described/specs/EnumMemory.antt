-- For which items memory may be asked to read an enum by its variants.
use Rattle.std.specs.Prelude.{⊤, ◌≡◌, ◌⊎◌, ℕ, zero, suc, List, [], ◌∷◌, refl}
use Rattle.std.proofs.Common.{inl, inr}
use Rattle.cbor_model.specs.Formats.{Formats, all_formats}
use Rattle.cbor_model.specs.Head.{no_bytes}
use Rattle.cbor_model.specs.Raw as raw
use Rattle.cbor_model.specs.Raw.{Raw, Raws, definite, no_raws, raw_pair, no_raw_pairs}
use Rattle.cbor_model.specs.Readable.{untagged}
use Rattle.cbor_io.specs.Error.{code_of}
use Rattle.cbor_io.specs.declared.error.Error.{Error}
use Rattle.cbor_io.specs.declared.error.ErrorCode.TheVariants.{OutOfMemory}
use Rattle.cbor_read.specs.Source.{Asks, Input}
use Rattle.cbor_decode.specs.Gives.{Reports, limits}
use Rattle.cbor_decode_as.specs.Enums.{Content, alone, one, parts, IsVariant}
use Rattle.cbor_decode_as.specs.Strings.{IsAskedString}
use Rattle.cbor_decode_as.specs.Variants.{IsContent, IsItemsOf, content_at}
use Rattle.cbor_decode_as.specs.declared.variant.Form.{Form}

-- ---- contents

-- Where memory ran out, the content that means something is one for which memory may be asked.
abbrev pub MemoryForContent : {A : Type 0} → (Content → Type 0) → Formats → (Content → A → Type 0) → ℕ
    → Form → Input → Error → Type 0
MemoryForContent {A} asks f means left form s e = code_of e ≡ OutOfMemory → (bs : List ℕ) → Reports s bs
    → (x : A) (rest : List ℕ)
    → (got : IsContent means (content_at f (limits s bs) left form bs) x rest) → asks got.content

-- no content asks for memory
abbrev pub AsksNone : Content → Type 0
AsksNone c = ⊥

-- it has one part, for which memory may be asked as this says
abbrev pub AsksForPart : (Raw → Type 0) → Content → Type 0
AsksForPart asks alone = ⊥
AsksForPart asks (one r) = asks r
AsksForPart asks (parts no_raws) = ⊥
AsksForPart asks (parts (raw.raw r rs)) = asks r

-- it has parts, as a tuple has: any of them may ask
abbrev pub AsksForParts : Content → Type 0
AsksForParts c = (rs : Raws) × IsItemsOf c rs

-- the first variant's content as this says, and another's as one of those do
abbrev pub asks_either : (Content → Type 0) → (ℕ → Content → Type 0) → ℕ → Content → Type 0
asks_either this those zero c = this c
asks_either this those (suc i) c = those i c

-- no variant is left
abbrev pub asks_no_variant : ℕ → Content → Type 0
asks_no_variant i c = ⊥

-- ---- the enum

-- P holds of what names the variant: the first item of an array, the key of a map of one pair, or the item
-- itself. Of an enum within tags nothing is said.
abbrev pub IsNamedBy : (Raw → Type 0) → Raw → Type 0
IsNamedBy P (raw.array l (raw.raw r rs)) = P r
IsNamedBy P (raw.map (definite no_bytes) (raw_pair k r no_raw_pairs)) = P k
IsNamedBy P (raw.tag w n r) = ⊤
IsNamedBy P r = P r

-- Memory may be asked for to read the enum: it is a variant, in one of the formats, and what names it is a
-- string for which memory is asked, or its content asks for memory.
pub record AsksForEnum (names : List (List ℕ)) (a : Asks) (asks : ℕ → Content → Type 0) (r : Raw) : Type 0 where
  pub index : ℕ
  pub content : Content
  pub variant : IsVariant all_formats names (untagged r) (index, content)
  pub asked : IsNamedBy (IsAskedString a) r ⊎ asks index content

-- ---- examples

-- {0: 7} of a variant of no part asks for none, though its source may ask for each string
unit_asks_none : (a : Asks) → AsksForEnum ((0x61 ∷ []) ∷ []) a (asks_either AsksNone asks_no_variant)
    (raw.map (definite no_bytes) (raw_pair (raw.unsigned no_bytes 0) (raw.unsigned no_bytes 7) no_raw_pairs)) → ⊥
unit_asks_none a h = by h.index h.asked
  where
    by : (i : ℕ) → IsNamedBy (IsAskedString a) (raw.map (definite no_bytes) (raw_pair (raw.unsigned no_bytes 0) (raw.unsigned no_bytes 7) no_raw_pairs)) ⊎ asks_either AsksNone asks_no_variant i h.content → ⊥
    by i (inl name) = name.string
    by zero (inr none) = none
    by (suc i) (inr none) = none
