-- A whole input: what the reference reader reads is spelled so, and what is spelled so it reads.
use Rattle.std.proofs.Common.{◌≡◌, ℕ, ◌-◌, ◌^◌, ◌<◌, ◌≤◌, cond, eqb, List, [], ◌++◌, length, Ok, Err}
use Rattle.std.proofs.Common.{IsUtf8, sym, ap, ◌∙◌, arith, inl, inr, Option, None, Some, false}
use Rattle.std.proofs.Common.{refl}
use Rattle.std.proofs.lemmas.Bool.{eqb-true, lt-ltb, le-ltb, ltb-false}
use Rattle.std.proofs.lemmas.List.{append-nil, nil_from_length}
use Rattle.cbor_model.specs.Raw.{Raw, AreBytes, longest_joined}
use Rattle.cbor_model.specs.Spelling.{spell}
use Rattle.cbor_model.specs.Acceptable.{IsAcceptableWithin, max_depth, FitsScratch}
use Rattle.cbor_model.specs.Value.{value}
use Rattle.cbor_model.specs.Plain.{Val}
use Rattle.cbor_model.specs.Formats.{all_formats, IsAllowedKey}
use Rattle.cbor_model.specs.Refusal.{trailing_data}
use Rattle.cbor_model.specs.Reader.{Fault, values_in, exceeds_most, item_at, read_value_in}
use Rattle.cbor_model.specs.Laws.{SpellsValue}
use Rattle.cbor_model.proofs.reader.MadeItems.{made, made-value}
use Rattle.cbor_model.proofs.reader.ReaderSteps.{bind_ok, chosen, ok_is, not_ok}
use Rattle.cbor_model.proofs.reader.FirstBytes.{EachKey-map, key_begins, all_allowed}
use Rattle.cbor_model.proofs.reader.FoundParts.{Passes, MayBeKey}
use Rattle.cbor_model.proofs.reader.Found.{found}
use Rattle.cbor_model.proofs.reader.Again.{HasRoom, Grows, lets, again}
use Rattle.cbor_model.proofs.reader.Texts.{EachText-map, IsUtf8-from_valid_len, valid_len-from_IsUtf8}

-- more follows
abbrev trailing : Val × List ℕ → Fault
trailing x = record { why = trailing_data; left = length x.1 - 1 }

-- no chunks fit each scratch
pub none_fits : (most : Option ℕ) → exceeds_most most 0 ≡ false
none_fits None = refl
none_fits (Some most) = le-ltb most 0 (omega arith)

-- chunks that are joined fit
pub joins_fit : (room : Option ℕ) (r : Raw) → exceeds_most room (longest_joined r) ≡ false
    → FitsScratch room r
joins_fit None r joins = tt
joins_fit (Some most) r joins = ltb-false most (longest_joined r) joins

-- what is read is spelled so, and its chunks fit the scratch
pub found_fits : (most : Option ℕ) (bs : List ℕ) (v : Val) → AreBytes bs
    → read_value_in most bs ≡ Ok v → (spelt : SpellsValue bs v) × FitsScratch most spelt.item
unfolding read_value_in
found_fits most bs v fits is =
    let m = values_in (length bs) most in
    let ends = λ (x : Val × List ℕ). cond (eqb (length x.1) 0) (Ok x.0) (Err (trailing x)) in
    let read = bind_ok (item_at m max_depth bs) ends v is in
    let x = read.0 in
    elim (chosen (eqb (length x.1) 0) (Ok x.0) (Err (trailing x)) (Ok v) read.2) [
      | inr more ↦ not_ok (trailing x) v more.1
      | inl ended ↦
          let got = found m (none_fits most) max_depth bs x fits read.1 in
          let nothing : x.1 ≡ [] = nil_from_length x.1 (eqb-true _ _ ended.0) in (
            record {
              item = got.item;
              acceptable = record {
                fits = got.fits;
                nests = got.nests;
                texts = EachText-map (Passes m) IsUtf8 IsUtf8-from_valid_len got.item got.texts;
              };
              spelled = sym (got.parts ∙ ap (λ (t : List ℕ). spell got.item ++ t) nothing
                  ∙ append-nil (spell got.item));
              valued = sym (ok_is x.0 v ended.1) ∙ sym got.made_is
                  ∙ made-value all_formats (length bs) most got.item;
            },
            joins_fit most got.item got.joins,
          )
    ]

pub found_whole : (most : Option ℕ) (bs : List ℕ) (v : Val) → AreBytes bs
    → read_value_in most bs ≡ Ok v → SpellsValue bs v
found_whole most bs v fits is = (found_fits most bs v fits is).0

-- in an input shorter than 2^64 a text that fits what is left has room
has_room : (total : ℕ) (most : Option ℕ) → total < 2 ^ 64 → HasRoom (values_in total most) total
has_room total most short left n fits within = lt-ltb _ _ (omega arith)

pub grows : (most : Option ℕ) → Grows (exceeds_most most)
grows None a b few holds = refl
grows (Some most) a b few holds = le-ltb most a (omega (arith, few, ltb-false most b holds))

-- chunks that fit are joined
pub fits_joins : (room : Option ℕ) (r : Raw) → FitsScratch room r
    → exceeds_most room (longest_joined r) ≡ false
fits_joins None r fits = refl
fits_joins (Some most) r fits = le-ltb most (longest_joined r) fits

pub read_whole : (most : Option ℕ) (bs : List ℕ) (v : Val) → length bs < 2 ^ 64
    → (spelt : SpellsValue bs v) → FitsScratch most spelt.item → read_value_in most bs ≡ Ok v
unfolding read_value_in
read_whole most bs v short spelt fits =
    let r = spelt.item in
    let m = values_in (length bs) most in
    let same : spell r ++ [] ≡ bs = append-nil (spell r) ∙ spelt.spelled in
    let texts = EachText-map IsUtf8 (Passes m) valid_len-from_IsUtf8 r spelt.acceptable.texts in
    let keys = EachKey-map (IsAllowedKey all_formats) (MayBeKey m) (key_begins all_formats) r spelt.acceptable.fits (all_allowed r) in
    let good = lets m (grows most) r texts keys (fits_joins most r fits) in
    let read =
    again m (length bs) (has_room (length bs) most short) (grows most) r max_depth []
    spelt.acceptable.fits spelt.acceptable.nests good (omega (arith, ap length same)) in
    let whole_read : item_at m max_depth bs ≡ Ok (made m r, []) =
    ap (item_at m max_depth) (sym same) ∙ read in
    rw whole_read (ap (λ (w : Val). Ok w) (made-value all_formats (length bs) most r ∙ sym spelt.valued))

-- an acceptable item in front of other bytes is read as its value
pub value_again : (levels total : ℕ) (most : Option ℕ) (r : Raw) (rest : List ℕ) → total < 2 ^ 64
    → length (spell r ++ rest) ≤ total → FitsScratch most r → IsAcceptableWithin levels r
    → item_at (values_in total most) levels (spell r ++ rest) ≡ Ok (value r, rest)
value_again levels total most r rest short within fits good =
    let m = values_in total most in
    let texts = EachText-map IsUtf8 (Passes m) valid_len-from_IsUtf8 r good.texts in
    let keys = EachKey-map (IsAllowedKey all_formats) (MayBeKey m) (key_begins all_formats) r good.fits (all_allowed r) in
    again m total (has_room total most short) (grows most) r levels rest good.fits good.nests
    (lets m (grows most) r texts keys (fits_joins most r fits)) within
    ∙ ap (λ (v : Val). Ok (v, rest)) (made-value all_formats total most r)
