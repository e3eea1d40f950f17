-- The head of an array or a map, whatever follows it.
use Rattle.std.specs.Prelude.{◌≡◌, ◌≢◌, ◌⊎◌, ℕ, ◌+◌, Bool, List, [], ◌∷◌, Result, Ok, Err, refl, Some}
use Rattle.cbor_model.specs.Reader.{byte_at, number_behind}
use Rattle.cbor_io.specs.declared.error.Error.{Error}
use Rattle.cbor_io.specs.declared.error.ErrorCode.TheVariants.{OutOfMemory}
use Rattle.cbor_io.specs.declared.read_error.ReadErrorCode.{ReadErrorCode}
use Rattle.cbor_io.specs.Error.{code_of, offset_of}
use Rattle.cbor_read.specs.Source.{Input}
use Rattle.cbor_decode.specs.Gives.{Step, Reports}
use Rattle.cbor_decode.specs.Heads.{head_at, head_of}
use Rattle.cbor_decode.specs.declared.cursor.Remaining.{Remaining}
use Rattle.cbor_decode.specs.declared.cursor.Remaining.TheVariants.{Counted, ToBreak}
use Rattle.cbor_decode.specs.declared.head.Head.{Head}
use Rattle.cbor_decode.specs.declared.head.Head.TheVariants.{Array, Map, Break, Text}
use Rattle.cbor_decode_as.specs.TaggedHeads.{opened_at}
use Rattle.cbor_decode_as.specs.Takes.{IsMessage, Refuses, ReportsFault, any_item}

-- The heads of some tags, each a level further in, and then a head of this kind stand before the
-- rest: an array's or a map's, of which so much remains. Of so many levels so many are left for its
-- parts.
abbrev pub Begins : (Remaining → Head) → ℕ → ℕ → Remaining → List ℕ → List ℕ → Type 0
Begins kind levels left remaining bs rest =
    opened_at levels bs ≡ Ok ((left + 1, kind remaining), rest)

-- no such head is at the front, or no level is left for the parts
abbrev pub NoneBegins : (Remaining → Head) → ℕ → List ℕ → Type 0
NoneBegins kind levels bs = (left : ℕ) (remaining : Remaining) (rest : List ℕ)
    → Begins kind levels left remaining bs rest → ⊥

abbrev pub RefusesBeginning : (Remaining → Head) → (ReadErrorCode → Bool) → ℕ → Input → Input
    → Error → Type 0
RefusesBeginning kind refusals levels s t e =
    Refuses refusals s t (code_of e) (offset_of e) (λ l bs. NoneBegins kind levels bs)

-- The head of this kind was taken; or none is there.
abbrev pub TakesBeginning : (Remaining → Head) → (ReadErrorCode → Bool) → ℕ → Input → Input → ℕ
    → Result Remaining Error → Type 0
TakesBeginning kind refusals levels s t left (Ok remaining) =
    Step s t (λ l bs rest. Begins kind levels left remaining bs rest)
TakesBeginning kind refusals levels s t left (Err e) = RefusesBeginning kind refusals levels s t e

-- ---- memory

-- Behind the heads of some tags stands a head of another kind, and no break.
pub record OtherBegins (kind : Remaining → Head) (levels : ℕ) (bs : List ℕ) : Type 0 where
  pub left : ℕ
  pub head : Head
  pub rest : List ℕ
  pub is : opened_at levels bs ≡ Ok ((left, head), rest)
  pub other : (remaining : Remaining) → head ≢ kind remaining
  pub unbroken : head ≢ Break

-- Where memory ran out, it was asked for the message on an item of another kind.
abbrev pub MemoryForOther : (Remaining → Head) → ℕ → Input → Error → Type 0
MemoryForOther kind levels s e = code_of e ≡ OutOfMemory → (bs : List ℕ) → Reports s bs
    → OtherBegins kind levels bs

-- ---- the fault

-- A refusal reports the fault of the item at the front; or it is a message, where one of another kind
-- stands there.
abbrev pub BeginningFault : (Remaining → Head) → (ReadErrorCode → Bool) → ℕ → Input → Error → Type 0
BeginningFault kind refusals levels s e = ReportsFault refusals (any_item levels) s e
    ⊎ (IsMessage e × ((bs : List ℕ) → Reports s bs → OtherBegins kind levels bs))

-- ---- examples

-- 82 01 begins an array of two items, though the second isn't there
cut_off : Begins Array 127 126 (Counted 2) (0x82 ∷ 0x01 ∷ []) (0x01 ∷ [])
unfolding opened_at byte_at head_at head_of number_behind
cut_off = refl

-- so does c1 82 01, one level further in
in_a_tag : Begins Array 127 125 (Counted 2) (0xc1 ∷ 0x82 ∷ 0x01 ∷ []) (0x01 ∷ [])
unfolding opened_at byte_at head_at head_of number_behind
in_a_tag = refl

-- 9f begins an array of indefinite length, and a1 a map of one pair
open_array : Begins Array 127 126 ToBreak (0x9f ∷ []) []
unfolding opened_at byte_at head_at head_of
open_array = refl

one_pair : Begins Map 127 126 (Counted 1) (0xa1 ∷ []) []
unfolding opened_at byte_at head_at head_of number_behind
one_pair = refl

-- 1c begins no array
no_head : NoneBegins Array 127 (0x1c ∷ [])
unfolding opened_at byte_at head_at head_of number_behind
no_head left remaining rest is = absurd cc

-- 61 61 begins a text, and no array
a_text : OtherBegins Array 127 (0x61 ∷ 0x61 ∷ [])
unfolding opened_at byte_at head_at head_of number_behind
a_text = record {
  left = 127;
  head = Text (Some 1);
  rest = 0x61 ∷ [];
  is = refl;
  other = λ remaining same. absurd cc;
  unbroken = λ same. absurd cc;
}

-- of an array of which no more is there no message is made
no_text : OtherBegins Array 127 [] → ⊥
unfolding opened_at byte_at
no_text other = absurd cc
