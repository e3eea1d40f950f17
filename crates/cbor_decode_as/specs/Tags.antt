-- Tags at the front of what is read (RFC 7049, section 2.4).
use Rattle.std.specs.Prelude.{◌≡◌, ℕ, zero, suc, ◌+◌, ◌%◌, Bool, true, false, List, [], ◌∷◌, Option}
use Rattle.std.specs.Prelude.{Some, None}
use Rattle.std.specs.Prelude.{Result, Ok, Err, nat_lt, if◌then◌else◌, refl}
use Rattle.cbor_model.specs.Formats.{Formats}
use Rattle.cbor_model.specs.Head.{HeadWidth}
use Rattle.cbor_model.specs.Refusal.{too_deep}
use Rattle.cbor_model.specs.Reader.{Reads, ◌>>=◌, before, number_behind, item_at, inside, tag_at}
use Rattle.cbor_io.specs.declared.error.Error.{Error}
use Rattle.cbor_io.specs.declared.read_error.ReadErrorCode.{ReadErrorCode}
use Rattle.cbor_read.specs.Source.{Input, TookSome}
use Rattle.cbor_decode.specs.Gives.{Limits, Step, Stopped}
use Rattle.cbor_decode.specs.declared.refusal.Refused.{Refused}
use Rattle.cbor_model.specs.Raw.{Raw}
use Rattle.cbor_io.specs.declared.read_error.ReadError.{ReadError}
use Rattle.cbor_decode_as.specs.TaggedHeads.{in_tags}
use Rattle.cbor_decode_as.specs.Takes.{raws, ReportsFault}

-- whether a tag's head begins with this byte
abbrev pub begins_tag : ℕ → Bool
begins_tag b =
    if nat_lt b 0xc0 then false
    else (if nat_lt b 0xdc then true
    else false)

-- The first byte of a tag's head, if one stands at the front. No tag takes nothing.
abbrev pub tag_first_at : List ℕ → Reads (Option ℕ)
tag_first_at [] = Ok (None, [])
tag_first_at (b ∷ bs) = if begins_tag b then Ok (Some b, bs) else Ok (None, b ∷ bs)

-- the number of a tag, after whose head a level is left
abbrev pub entered_at : ℕ → ℕ → List ℕ → Reads (Option ℕ)
entered_at zero n bs = Err (before too_deep bs)
entered_at (suc left) n bs = Ok (Some n, bs)

-- what follows that first byte
abbrev pub tag_behind : ℕ → Option ℕ → List ℕ → Reads (Option ℕ)
tag_behind levels None bs = Ok (None, bs)
tag_behind levels (Some b) bs = number_behind (b % 32) bs >>= (λ n. entered_at levels n.0 n.1)

-- The number of the tag whose head stands at the front, if one does, where so many levels are left.
abbrev pub tag_head_at : ℕ → List ℕ → Reads (Option ℕ)
tag_head_at levels bs = tag_first_at bs >>= (λ o. tag_behind levels o.0 o.1)

-- What a call gave for the tag at the front; or the fault that it reports, and some bytes were taken.
abbrev pub ReadsTag : (ReadErrorCode → Bool) → ℕ → Input → Input → Result (Option ℕ) Error → Type 0
ReadsTag refusals levels s t (Ok o) = Step s t (λ l bs rest. tag_head_at levels bs ≡ Ok (o, rest))
ReadsTag refusals levels s t (Err e) =
    TookSome s t × ReportsFault refusals (λ l. tag_head_at levels) s e

-- the item at the front is the tag of this number, of the item that follows its head
abbrev pub TagIs : Formats → ℕ → ℕ → Input → Input → Type 0
TagIs f levels n s t = Step s t (λ l bs rest.
    (w : HeadWidth) × (item_at (raws f l) levels bs ≡ tag_at (raws f l) (inside (raws f l) levels) w n rest))

-- one level fewer after a tag's head, and as many as before else
abbrev pub LevelsBehind : {E : Type 0} → Result (Option ℕ) E → ℕ → ℕ → Type 0
LevelsBehind (Ok (Some n)) old new = old ≡ new + 1
LevelsBehind (Ok None) old new = new ≡ old
LevelsBehind (Err e) old new = new ≡ old

-- The reading goes on after all tags, where so many levels are left.
pub record IsBehindTags (f : Formats) (l : Limits) (read : Reads Raw) (left : ℕ) (rest : List ℕ) : Type 0 where
  pub tags : List (HeadWidth × ℕ)
  pub is : read ≡ in_tags tags (item_at (raws f l) left rest)
  pub none : tag_first_at rest ≡ Ok (None, rest)

-- all tags were taken, or why not
abbrev pub PassesAll : (ReadErrorCode → Bool) → Formats → ℕ → Input → Input → ℕ → ReadError
    → Result (Unit {0}) Refused → Type 0
PassesAll refusals f levels s t left kept (Ok u) = Step s t
    (λ l bs rest. IsBehindTags f l (item_at (raws f l) levels bs) left rest)
PassesAll refusals f levels s t left kept (Err r) =
    Stopped refusals (λ l. item_at (raws f l) levels) s t kept r

-- ---- all tags, whatever follows them

-- after a tag's head what is read one level further in; without one no more
abbrev pub passed_by : ℕ → (List ℕ → Reads ℕ) → Option ℕ → List ℕ → Reads ℕ
passed_by levels inner None bs = Ok (levels, bs)
passed_by levels inner (Some n) bs = inner bs

abbrev pub passed_from : ℕ → (List ℕ → Reads ℕ) → List ℕ → Reads ℕ
passed_from levels inner bs = tag_head_at levels bs >>= (λ o. passed_by levels inner o.0 o.1)

-- After the heads of all tags at the front, each a level further in: how many levels are left, of so
-- many.
unfoldable pub passed_at : ℕ → List ℕ → Reads ℕ
passed_at zero = passed_from zero (λ bs. Err (before too_deep bs))
passed_at (suc left) = passed_from (suc left) (passed_at left)

-- ---- examples

-- d8 18 41: tag 24, of a byte string
tag_of_bytes : tag_head_at 127 (0xd8 ∷ 0x18 ∷ 0x41 ∷ []) ≡ Ok (Some 24, 0x41 ∷ [])
unfolding number_behind
tag_of_bytes = refl

-- dc is no tag's head
no_tag : tag_head_at 127 (0xdc ∷ []) ≡ Ok (None, 0xdc ∷ [])
no_tag = refl

-- c1 d8 18 82: two tags, and the first byte after them stays
two_tags : passed_at 127 (0xc1 ∷ 0xd8 ∷ 0x18 ∷ 0x82 ∷ []) ≡ Ok (125, 0x82 ∷ [])
unfolding passed_at number_behind
two_tags = refl
