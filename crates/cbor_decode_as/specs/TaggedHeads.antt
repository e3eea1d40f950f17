-- The head of an item within its tags.
use Rattle.std.specs.Prelude.{◌≡◌, ℕ, zero, suc, List, [], ◌∷◌, Option, Some, None, Bool, Result}
use Rattle.std.specs.Prelude.{Ok, Err, refl}
use Rattle.std.specs.Prelude.{◌+◌, length}
use Rattle.cbor_model.specs.Formats.{Formats, all_formats}
use Rattle.cbor_model.specs.Head.{HeadWidth}
use Rattle.cbor_model.specs.Plain.{Val}
use Rattle.cbor_model.specs.Raw.{Raw, tag}
use Rattle.cbor_model.specs.Refusal.{too_deep, unassigned_code}
use Rattle.cbor_model.specs.Reader.{Reads, ◌>>=◌, before, item_at, inside, within, byte_at}
use Rattle.cbor_model.specs.Reader.{number_behind}
use Rattle.cbor_io.specs.declared.read_error.ReadError.{ReadError}
use Rattle.cbor_io.specs.declared.read_error.ReadErrorCode.{ReadErrorCode}
use Rattle.cbor_io.specs.Error.{code_of, offset_of}
use Rattle.cbor_io.specs.declared.error.Error.{Error}
use Rattle.cbor_io.specs.declared.error.ErrorCode.TheVariants.{UnexpectedCode}
use Rattle.cbor_read.specs.Source.{Asks, Input}
use Rattle.cbor_decode.specs.Gives.{Limits, limits, values, ReportsIo, Step, Stopped, Reports}
use Rattle.cbor_decode.specs.HasChunks.{AllRead, AsksWhere, HasChunks}
use Rattle.cbor_decode.specs.Heads.{opening_at, head_at, head_of, after_head, behind_head}
use Rattle.cbor_decode.specs.declared.cursor.Remaining.TheVariants.{Counted}
use Rattle.cbor_decode.specs.declared.head.Head.{Head}
use Rattle.cbor_decode.specs.declared.head.Head.TheVariants.{Array, Break, Tag}
use Rattle.cbor_decode.specs.declared.refusal.Refused.{Refused}
use Rattle.cbor_decode_as.specs.Kinds.{head_kind}
use Rattle.cbor_decode_as.specs.Kinds as kind
use Rattle.cbor_decode_as.specs.Takes.{FaultOrMessage, IsMessage, raws}
use Rattle.cbor_decode_as.specs.declared.head.HeadAt.{HeadAt}

-- an item within these tags
abbrev pub tagged : List (HeadWidth × ℕ) → Raw → Raw
tagged [] r = r
tagged (t ∷ ts) r = tag t.0 t.1 (tagged ts r)

-- what is read of an item within these tags
abbrev pub in_tags : List (HeadWidth × ℕ) → Reads Raw → Reads Raw
in_tags ts read = read >>= (λ r. Ok (tagged ts r.0, r.1))

-- The reading goes on after the head of the item within all tags, where so many levels are left.
pub record IsTaggedHead (f : Formats) (l : Limits) (read : Reads Raw) (left : ℕ) (h : Head) (rest : List ℕ) : Type 0 where
  pub tags : List (HeadWidth × ℕ)
  pub width : HeadWidth
  pub inner : head_kind h ≡ kind.tag → ⊥
  pub is : read ≡ in_tags tags (behind_head (raws f l) (inside (raws f l) left) width h rest)

-- the item one level further in
abbrev pub item_inside : Formats → Limits → ℕ → List ℕ → Reads Raw
item_inside f l levels bs = within (inside (raws f l) levels) bs (λ p. p bs)

-- The head of the item that is read was taken, and so many levels are left; or why not.
abbrev pub TakesTaggedHead : (ReadErrorCode → Bool) → Formats → (Limits → List ℕ → Reads Raw) → Input
    → Input → ℕ → ReadError → Result Head Refused → Type 0
TakesTaggedHead refusals f read s t left kept (Ok h) =
    Step s t (λ l bs rest. IsTaggedHead f l (read l bs) left h rest)
TakesTaggedHead refusals f read s t left kept (Err r) = Stopped refusals read s t kept r

-- The head of the item at the front was taken, where so many levels are left; or why not.
abbrev pub TakesItemHead : (ReadErrorCode → Bool) → Formats → ℕ → Input → Input → ReadError
    → Result Head Refused → Type 0
TakesItemHead refusals f levels s t kept r =
    (left : ℕ) × TakesTaggedHead refusals f (λ l. item_at (raws f l) levels) s t left kept r

-- the same of the item one level further in
abbrev pub TakesHeadInside : (ReadErrorCode → Bool) → Formats → ℕ → Input → Input → ReadError
    → Result Head Refused → Type 0
TakesHeadInside refusals f levels s t kept r =
    (left : ℕ) × TakesTaggedHead refusals f (λ l. item_inside f l levels) s t left kept r

-- what was found, as its head
abbrev pub found_head : Result HeadAt Refused → Result Head Refused
found_head (Ok found) = Ok found.head
found_head (Err r) = Err r

-- ---- the head alone, whatever follows it

-- After a tag's head the head one level further in, if a level is left; no other head is a tag's.
abbrev pub opened_by : ℕ → Option (List ℕ → Reads (ℕ × Head)) → Head → List ℕ → Reads (ℕ × Head)
opened_by levels inner (Tag n) bs = within inner bs (λ p. p bs)
opened_by levels inner h bs = Ok ((levels, h), bs)

abbrev pub opened_from : ℕ → Option (List ℕ → Reads (ℕ × Head)) → List ℕ → Reads (ℕ × Head)
opened_from levels inner bs = opening_at bs >>= (λ h. opened_by levels inner h.0.1 h.1)

-- The first head that is no tag's, after the heads of tags, each a level further in; and how many
-- levels are left there, of so many.
unfoldable pub opened_at : ℕ → List ℕ → Reads (ℕ × Head)
opened_at zero = opened_from zero None
opened_at (suc left) = opened_from (suc left) (Some (opened_at left))

-- that head one level further in, if a level is left
abbrev pub opened_inside : ℕ → List ℕ → Reads (ℕ × Head)
opened_inside zero bs = Err (before too_deep bs)
opened_inside (suc left) bs = opened_at left bs

-- Behind the heads of some tags stands a head of which P holds.
pub record HasHead (P : Head → Type 0) (levels : ℕ) (bs : List ℕ) : Type 0 where
  pub left : ℕ
  pub head : Head
  pub rest : List ℕ
  pub is : opened_at levels bs ≡ Ok ((left, head), rest)
  pub holds : P head

-- The error of an item of another kind, by its head, behind which this offset is: a message, but for a
-- break, which is no item.
abbrev pub IsMismatch : Head → ℕ → Error → Type 0
IsMismatch Break at e = (code_of e ≡ UnexpectedCode) × (offset_of e ≡ at)
IsMismatch h at e = IsMessage e

-- such a head is at the front
abbrev pub AtHead : (Head → Type 0) → ℕ → Input → Type 0
AtHead P levels s = (bs : List ℕ) → Reports s bs → HasHead P levels bs

-- ---- what follows it

-- what follows a head, with keys of any formats, where so many levels are left
abbrev pub behind_any : ℕ → Head → Limits → List ℕ → Reads Val
behind_any left h l = after_head all_formats l (inside (values all_formats l) left) h

-- It may ask for memory to pass over what follows the head: for whole parts, or where all that may be
-- read there as it is spelled has a string in chunks.
abbrev pub AsksBehind : Asks → HeadAt → Input → Type 0
AsksBehind a found s = AsksWhere a ((w : HeadWidth) → AllRead HasChunks
    (λ l. behind_head (raws all_formats l) (inside (raws all_formats l) found.levels) w found.head) s)

-- A refusal after a head reports the fault of what follows it; of an item that is whole it is a message.
abbrev pub RefusesBehind : (ReadErrorCode → Bool) → HeadAt → Input → Error → Type 0
RefusesBehind refusals found s e = (bs : List ℕ) → Reports s bs → FaultOrMessage (ReportsIo refusals) (code_of e) (s.offset + length bs) (offset_of e) (behind_any found.levels found.head (limits s bs) bs)

-- what follows the head is whole
abbrev pub StandsBehind : HeadAt → Input → Type 0
StandsBehind found s = (bs : List ℕ) → Reports s bs → (v : Val) × (rest : List ℕ) × (behind_any found.levels found.head (limits s bs) bs ≡ Ok (v, rest))

-- ---- examples

-- 82 01: an array of two items, of which the first is there
cut_off : opened_at 127 (0x82 ∷ 0x01 ∷ []) ≡ Ok ((127, Array (Counted 2)), 0x01 ∷ [])
unfolding opened_at byte_at head_at head_of number_behind
cut_off = refl

-- c1 82 01: the same within a tag
in_a_tag : opened_at 127 (0xc1 ∷ 0x82 ∷ 0x01 ∷ []) ≡ Ok ((126, Array (Counted 2)), 0x01 ∷ [])
unfolding opened_at byte_at head_at head_of number_behind
in_a_tag = refl

-- c1 82: no level is left for what the tag is of
tag_too_deep : opened_at 0 (0xc1 ∷ 0x82 ∷ []) ≡ Err (record { why = too_deep; left = 1 })
unfolding opened_at byte_at head_at head_of number_behind
tag_too_deep = refl

-- 1c is no head
no_head : opened_at 127 (0x1c ∷ []) ≡ Err (record { why = unassigned_code; left = 0 })
unfolding opened_at byte_at head_at head_of number_behind
no_head = refl
