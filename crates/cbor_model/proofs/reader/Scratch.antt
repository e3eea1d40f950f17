-- What a scratch changes.
use Rattle.std.proofs.Common.{◌≡◌, ℕ, ◌^◌, ◌<◌, ◌≤◌, List, [], ◌++◌, length, Ok, Some, None, refl}
use Rattle.std.proofs.Common.{sym, ap, subst, ◌∙◌, arith, inl, inr}
use Rattle.std.proofs.lemmas.List.{append-nil}
use Rattle.cbor_model.specs.Raw.{AreBytes, longest_joined}
use Rattle.cbor_model.specs.Spelling.{spell}
use Rattle.cbor_model.specs.Acceptable.{max_depth}
use Rattle.cbor_model.specs.Plain.{Val}
use Rattle.cbor_model.specs.Reader.{values_in, values_within, item_at, read_value, read_value_in}
use Rattle.cbor_model.specs.Laws.{SpellsValue, IsScratchTooSmall}
use Rattle.cbor_model.proofs.reader.Agrees.{Agrees, agrees_bind, item_agrees}
use Rattle.cbor_model.proofs.reader.Bytes.{spelled_bytes}
use Rattle.cbor_model.proofs.order.Apart.{one_spelling}
use Rattle.cbor_model.proofs.reader.Whole.{found_fits, read_whole}

pub same_with_scratch : (room : ℕ) (bs : List ℕ)
    → Agrees (read_value_in (Some room) bs) (read_value bs)
unfolding read_value_in
same_with_scratch room bs =
    let m = values_in (length bs) (Some room) in
    let m' = values_within (length bs) in
    agrees_bind (item_at m max_depth bs) (item_at m' max_depth bs) _ _
    (item_agrees m max_depth bs)
    (λ x. inl refl)

-- what was read with a scratch fits it
read_fits : (room : ℕ) (bs : List ℕ) (v : Val) (spelt : SpellsValue bs v)
    → read_value_in (Some room) bs ≡ Ok v → longest_joined spelt.item ≤ room
read_fits room bs v spelt read =
    let fits = subst AreBytes spelt.spelled (spelled_bytes spelt.item spelt.acceptable.fits) in
    let found = found_fits (Some room) bs v fits read in
    let r = found.0.item in
    let same : spell r ++ [] ≡ spell spelt.item =
    append-nil (spell r) ∙ found.0.spelled ∙ sym spelt.spelled in
    let one = one_spelling r spelt.item [] found.0.acceptable.fits spelt.acceptable.fits same in
    omega (arith, found.1, ap longest_joined one.0)

pub scratch_need : (room : ℕ) (bs : List ℕ) (v : Val) → length bs < 2 ^ 64
    → (spelt : SpellsValue bs v)
    → (longest_joined spelt.item ≤ room → read_value_in (Some room) bs ≡ Ok v)
    × (room < longest_joined spelt.item → IsScratchTooSmall (read_value_in (Some room) bs))
scratch_need room bs v short spelt =
    (λ enough. read_whole (Some room) bs v short spelt enough, too_small)
  where
    too_small : room < longest_joined spelt.item → IsScratchTooSmall (read_value_in (Some room) bs)
    too_small less =
        elim (same_with_scratch room bs) [
          | inr small ↦ small
          | inl same ↦
              let read = same ∙ read_whole None bs v short spelt tt in
              absurd (omega (arith, less, read_fits room bs v spelt read))
        ]
