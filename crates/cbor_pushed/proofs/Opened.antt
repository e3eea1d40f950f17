-- Arrays, maps and tags after their heads.
use Rattle.std.proofs.Common.{◌≡◌, ◌∙◌, ◌<◌, ◌+◌, ◌-◌, ◌/◌, ◌%◌, ℕ, suc, false, eqb, List, ◌∷◌, ◌++◌, length, drop, Ok, refl, sym, ap, arith}
use Rattle.std.proofs.lemmas.Bool.{ne_eqb}
use Rattle.std.proofs.lemmas.List.{append_assoc}
use Rattle.cbor_model.specs.Head.{behind, info}
use Rattle.cbor_model.specs.Raw.{AreBytes, definite, indefinite}
use Rattle.cbor_model.specs.Reader.{byte_at, number_behind, width_of, counted, to_break, parts_at, items_of, pairs_of, array_at, map_at, tag_at, content_at, after_first, item_by, item_at}
use Rattle.cbor_model.proofs.facts.HeadNumbers.{number_behind_found, number_behind_again}
use Rattle.cbor_decode.specs.Heads.{passed}
use Rattle.cbor_decode.specs.declared.cursor.Remaining.TheVariants.{Counted, ToBreak}
use Rattle.cbor_pushed.specs.Rests.{reading, rest_at}
use Rattle.cbor_pushed.specs.Scanned.{IsNumber, HasHead, last}
use Rattle.cbor_pushed.specs.declared.rest.Rest.{Rest}
use Rattle.cbor_pushed.specs.declared.rest.Rest.TheVariants.{Items, Pairs}
use Rattle.cbor_pushed.proofs.GoesOn.{one, passed_map}

-- a number is read so whatever is added
pub number_more : (low n : ℕ) (bs rest more : List ℕ) → AreBytes bs → number_behind low bs ≡ Ok (n, rest) → number_behind low (bs ++ more) ≡ Ok (n, rest ++ more)
number_more low n bs rest more fits is =
    let got = number_behind_found low bs (n, rest) fits is in
    let w = width_of low in
    let parts : bs ++ more ≡ behind w n ++ (rest ++ more) = ap (λ (l : List ℕ). l ++ more) got.parts ∙ append_assoc (behind w n) rest more in
    ap (λ (k : ℕ). number_behind k (bs ++ more)) got.is_low ∙ ap (number_behind (info w n)) parts ∙ number_behind_again w n (rest ++ more) got.fits

module _ (total levels b n : ℕ) (bs rest : List ℕ) (small : b % 32 < 28) (is : number_behind (b % 32) bs ≡ Ok (n, rest)) where
  no_31 : eqb (b % 32) 31 ≡ false
  no_31 = ne_eqb (b % 32) 31 (λ e. omega arith)

  array_opens : b / 32 ≡ 4 → passed (item_at (reading total) (suc levels) (b ∷ bs)) ≡ rest_at total levels (Items (Counted n)) rest
  unfolding item_at item_by byte_at after_first content_at array_at rest_at
  array_opens major =
      rw (major, no_31, is) (passed_map (parts_at (items_of (reading total) (item_at (reading total) levels)) (counted n) rest) ((reading total).array (definite (width_of (b % 32)))))

  map_opens : b / 32 ≡ 5 → passed (item_at (reading total) (suc levels) (b ∷ bs)) ≡ rest_at total levels (Pairs (Counted n)) rest
  unfolding item_at item_by byte_at after_first content_at map_at rest_at
  map_opens major =
      rw (major, no_31, is) (passed_map (parts_at (pairs_of (reading total) (item_at (reading total) levels)) (counted n) rest) ((reading total).map (definite (width_of (b % 32)))))

  tag_opens : b / 32 ≡ 6 → passed (item_at (reading total) (suc levels) (b ∷ bs)) ≡ rest_at total levels (Items (Counted 1)) rest
  unfolding item_at item_by byte_at after_first content_at tag_at
  tag_opens major =
      rw (major, is) (passed_map (item_at (reading total) levels rest) ((reading total).tag (width_of (b % 32)) n)) ∙ sym (one total levels rest)

module _ (b : ℕ) (bs : List ℕ) (n left : ℕ) (fits : AreBytes bs) (is : IsNumber (b % 32) bs (n, left)) where
  after : (more : List ℕ) → drop (length bs - left + 1) (b ∷ bs) ++ more ≡ last left bs ++ more
  after more = let e : length bs - left + 1 ≡ suc (length bs - left) = omega arith in rw e refl

  opens : (rest : Rest) → ((total levels : ℕ) (more : List ℕ) → passed (item_at (reading total) (suc levels) ((b ∷ bs) ++ more)) ≡ rest_at total levels rest (last left bs ++ more))
      → HasHead (b ∷ bs) rest (length bs - left + 1)
  opens rest whole = record {
    some = omega arith;
    within = omega arith;
    whole = λ total levels more. whole total levels more ∙ ap (rest_at total levels rest) (sym (after more));
  }

  pub counted_array : b / 32 ≡ 4 → HasHead (b ∷ bs) (Items (Counted n)) (length bs - left + 1)
  counted_array major = opens (Items (Counted n)) (λ total levels more. array_opens total levels b n (bs ++ more) (last left bs ++ more) is.0 (number_more (b % 32) n bs (last left bs) more fits is.1) major)

  pub counted_map : b / 32 ≡ 5 → HasHead (b ∷ bs) (Pairs (Counted n)) (length bs - left + 1)
  counted_map major = opens (Pairs (Counted n)) (λ total levels more. map_opens total levels b n (bs ++ more) (last left bs ++ more) is.0 (number_more (b % 32) n bs (last left bs) more fits is.1) major)

  pub counted_tag : b / 32 ≡ 6 → HasHead (b ∷ bs) (Items (Counted 1)) (length bs - left + 1)
  counted_tag major = opens (Items (Counted 1)) (λ total levels more. tag_opens total levels b n (bs ++ more) (last left bs ++ more) is.0 (number_more (b % 32) n bs (last left bs) more fits is.1) major)

-- the first byte of an indefinite length
pub endless_array : (bs : List ℕ) → HasHead (0x9f ∷ bs) (Items ToBreak) 1
unfolding item_at item_by byte_at after_first content_at array_at rest_at
endless_array bs = record {
  some = omega arith;
  within = omega arith;
  whole = λ total levels more. passed_map (parts_at (items_of (reading total) (item_at (reading total) levels)) to_break (bs ++ more)) ((reading total).array indefinite);
}

pub endless_map : (bs : List ℕ) → HasHead (0xbf ∷ bs) (Pairs ToBreak) 1
unfolding item_at item_by byte_at after_first content_at map_at rest_at
endless_map bs = record {
  some = omega arith;
  within = omega arith;
  whole = λ total levels more. passed_map (parts_at (pairs_of (reading total) (item_at (reading total) levels)) to_break (bs ++ more)) ((reading total).map indefinite);
}
