-- What the reference reader reads as an item is spelled so and acceptable, and what is spelled so it
-- reads.
use Rattle.std.proofs.Common.{◌≡◌, ℕ, ◌^◌, ◌<◌, ◌≤◌, ◌↔◌, Bool, List, ◌++◌, length, Option, None, Ok, IsUtf8, refl, sym, ap, subst, ◌∙◌, arith}
use Rattle.cbor_model.specs.Raw as raw
use Rattle.cbor_model.specs.Raw.{Raw, Raws, no_raws, RawPairs, no_raw_pairs, raw_pair, AreBytes}
use Rattle.cbor_model.specs.Spelling.{spell}
use Rattle.cbor_model.specs.Acceptable.{FitsScratch, IsAcceptableWithin}
use Rattle.cbor_model.specs.Formats.{Formats, all_formats, IsAllowedKey, HasAllowedKeys}
use Rattle.cbor_model.specs.Reader.{item_at}
use Rattle.cbor_model.specs.RawReader.{raws_where, raws_in, Begins}
use Rattle.std.proofs.lemmas.Bool.{lt-ltb}
use Rattle.cbor_model.proofs.reader.MadeItems.{made, made_all, made_pairs}
use Rattle.cbor_model.proofs.reader.FoundParts.{Passes, MayBeKey}
use Rattle.cbor_model.proofs.reader.Found.{found}
use Rattle.cbor_model.proofs.reader.FirstBytes.{EachKey-map, key_begins, begun_allows, all_allowed}
use Rattle.cbor_model.proofs.reader.Again.{HasRoom, lets, again}
use Rattle.cbor_model.proofs.reader.Whole.{grows, fits_joins, joins_fit, none_fits}
use Rattle.cbor_model.proofs.reader.Texts.{EachText-map, IsUtf8-from_valid_len, valid_len-from_IsUtf8}

-- items are made of themselves
module _ (has_room : ℕ → ℕ → Bool) (is_text : List ℕ → Bool) (exceeds allows : ℕ → Bool) where
  mutual
    unfolding made

    pub made-itself : (r : Raw) → made (raws_where has_room is_text exceeds allows) r ≡ r
    made-itself (raw.unsigned w n) = refl
    made-itself (raw.negative w n) = refl
    made-itself (raw.bytes c) = refl
    made-itself (raw.text c) = refl
    made-itself (raw.bytes_chunks cs) = refl
    made-itself (raw.text_chunks cs) = refl
    made-itself (raw.array l rs) = ap (raw.array l) (made_all-itself rs)
    made-itself (raw.map l ps) = ap (raw.map l) (made_pairs-itself ps)
    made-itself (raw.tag w n r) = ap (raw.tag w n) (made-itself r)
    made-itself (raw.simple s) = refl
    made-itself (raw.float w bits) = refl

    pub made_all-itself : (rs : Raws) → made_all (raws_where has_room is_text exceeds allows) rs ≡ rs
    made_all-itself no_raws = refl
    made_all-itself (raw.raw r rs) = ap (λ (i : Raw). raw.raw i (made_all (raws_where has_room is_text exceeds allows) rs)) (made-itself r) ∙ ap (raw.raw r) (made_all-itself rs)

    pub made_pairs-itself : (ps : RawPairs) → made_pairs (raws_where has_room is_text exceeds allows) ps ≡ ps
    made_pairs-itself no_raw_pairs = refl
    made_pairs-itself (raw_pair k v ps) =
        let m = raws_where has_room is_text exceeds allows in
        ap (λ (i : Raw). raw_pair i (made m v) (made_pairs m ps)) (made-itself k) ∙ ap (λ (i : Raw). raw_pair k i (made_pairs m ps)) (made-itself v) ∙ ap (raw_pair k v) (made_pairs-itself ps)

pub item_found : (f : Formats) (total : ℕ) (most : Option ℕ) (levels : ℕ) (bs rest : List ℕ) (r : Raw) → AreBytes bs → item_at (raws_in f total most) levels bs ≡ Ok (r, rest) → Begins levels bs r rest × HasAllowedKeys f r
item_found f total most levels bs rest r fits is =
    let m = raws_in f total most in
    let got = found m (none_fits most) levels bs (r, rest) fits is in
    let same : got.item ≡ r = sym (made-itself m.has_room m.is_text m.exceeds m.allows got.item) ∙ got.made_is in
    let keys = EachKey-map (MayBeKey m) (IsAllowedKey f) (begun_allows f) got.item got.fits got.keys in (
      record {
        spelled = got.parts ∙ ap (λ (i : Raw). spell i ++ rest) same;
        acceptable = rw (sym same) (record { fits = got.fits; nests = got.nests; texts = EachText-map (Passes m) IsUtf8 IsUtf8-from_valid_len got.item got.texts });
      },
      subst (HasAllowedKeys f) same keys,
    )

-- and its chunks fit the scratch
pub item_fits : (f : Formats) (total : ℕ) (most : Option ℕ) (levels : ℕ) (bs rest : List ℕ) (r : Raw) → AreBytes bs → item_at (raws_in f total most) levels bs ≡ Ok (r, rest) → FitsScratch most r
item_fits f total most levels bs rest r fits is =
    let m = raws_in f total most in
    let got = found m (none_fits most) levels bs (r, rest) fits is in
    let same : got.item ≡ r = sym (made-itself m.has_room m.is_text m.exceeds m.allows got.item) ∙ got.made_is in
    subst (FitsScratch most) same (joins_fit most got.item got.joins)

-- in an input shorter than 2^64 a text that fits what is left has room
room_in : (f : Formats) (total : ℕ) (most : Option ℕ) → total < 2 ^ 64 → HasRoom (raws_in f total most) total
room_in f total most short left n fits within = lt-ltb _ _ (omega arith)

pub item_again : (f : Formats) (total : ℕ) (most : Option ℕ) (levels : ℕ) (bs rest : List ℕ) (r : Raw) → total < 2 ^ 64 → length bs ≤ total → FitsScratch most r → Begins levels bs r rest → HasAllowedKeys f r → item_at (raws_in f total most) levels bs ≡ Ok (r, rest)
item_again f total most levels bs rest r short within fits b allowed =
    let m = raws_in f total most in
    let texts = EachText-map IsUtf8 (Passes m) valid_len-from_IsUtf8 r b.acceptable.texts in
    let keys = EachKey-map (IsAllowedKey f) (MayBeKey m) (key_begins f) r b.acceptable.fits allowed in
    let read = again m total (room_in f total most short) (grows most) r levels rest b.acceptable.fits b.acceptable.nests (lets m (grows most) r texts keys (fits_joins most r fits)) (omega (arith, ap length b.spelled, within)) in
    ap (item_at m levels) b.spelled ∙ read ∙ ap (λ (i : Raw). Ok (i, rest)) (made-itself m.has_room m.is_text m.exceeds m.allows r)

-- ---- the laws

pub key_rule : (f : Formats) (levels : ℕ) (bytes rest : List ℕ) (r : Raw) → AreBytes bytes → length bytes < 2 ^ 64
    → (item_at (raws_in f (length bytes) None) levels bytes ≡ Ok (r, rest)) ↔ (Begins levels bytes r rest × HasAllowedKeys f r)
key_rule f levels bytes rest r fits short = (
  λ is. item_found f (length bytes) None levels bytes rest r fits is,
  λ h. item_again f (length bytes) None levels bytes rest r short (omega arith) tt h.0 h.1,
)

pub following_is_unread : (levels : ℕ) (r : Raw) (rest : List ℕ) → IsAcceptableWithin levels r → length (spell r ++ rest) < 2 ^ 64
    → item_at (raws_in all_formats (length (spell r ++ rest)) None) levels (spell r ++ rest) ≡ Ok (r, rest)
following_is_unread levels r rest good short =
    item_again all_formats (length (spell r ++ rest)) None levels (spell r ++ rest) rest r short (omega arith) tt (record { spelled = refl; acceptable = good }) (all_allowed r)
