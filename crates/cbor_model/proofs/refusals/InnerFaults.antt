-- The fault of an item inside an array, a map or a tag is the fault of the whole.
use Rattle.std.proofs.Common.{◌≡◌, ◌⊎◌, ℕ, zero, suc, ◌<◌, ◌≤◌, List, [], ◌∷◌, ◌++◌, Some}
use Rattle.std.proofs.Common.{None, Result, Ok, Err, refl, ap, ◌∙◌, arith, inr}
use Rattle.cbor_model.specs.Head.{HeadWidth, limit, head}
use Rattle.cbor_model.specs.Raw.{definite, Raws, count}
use Rattle.cbor_model.specs.Refusal.{too_deep}
use Rattle.cbor_model.specs.Reader.{Fault, Reads, ◌>>=◌, Reading, ended, before, counted, to_break}
use Rattle.cbor_model.specs.Reader.{next_at, Parts, go_on, parts_by, parts_at, items_of, pairs_of}
use Rattle.cbor_model.specs.Reader.{array_at, map_at, tag_at, content_at, after_first, item_by}
use Rattle.cbor_model.specs.Reader.{item_at, byte_at, inside as inner_of}
use Rattle.cbor_model.specs.Wanted.{Opening, array_head, map_head, tag_head, indefinite_array}
use Rattle.cbor_model.specs.Wanted.{indefinite_map, opening, IsOpening, HasPlace, IsWanted}
use Rattle.cbor_model.specs.Wanted.{at_first, inside}
use Rattle.cbor_model.proofs.reader.FirstBytes.{IsBegun, head_begun}
use Rattle.cbor_model.proofs.reader.Again.{length_again, numbered_again, indefinite_array_again}
use Rattle.cbor_model.proofs.reader.Again.{indefinite_map_again, item_at-inside}
use Rattle.cbor_model.proofs.refusals.FaultMeaning.{IsClosed}

pub err_bind : {A B : Type 0} (r : Result A Fault) (g : A → Result B Fault) (f : Fault) → r ≡ Err f → (r >>= g) ≡ Err f
err_bind r g f is = rw is refl

pub ok_bind : {A B : Type 0} (r : Result A Fault) (g : A → Result B Fault) (x : A) → r ≡ Ok x → (r >>= g) ≡ g x
ok_bind r g x is = rw is refl

-- an item is asked for: no break would end what is open, or there is none
abbrev pub Comes : Opening → Raws → List ℕ → Type 0
Comes o items bs = IsClosed o (count items) ⊎ IsBegun bs

-- the same at the innermost opening, if there is one
abbrev pub LastComes : {k : ℕ} {p : List ℕ} → IsWanted k p → List ℕ → Type 0
LastComes at_first bs = Unit {0}
LastComes (inside k before o items wanted opens fits place) bs = Comes o items bs

pub last_comes : {k : ℕ} {p : List ℕ} (w : IsWanted k p) (bs : List ℕ) → IsBegun bs → LastComes w bs
last_comes at_first bs starts = tt
last_comes (inside k before o items wanted opens fits place) bs starts = inr starts

pub opening_begun : (o : Opening) → IsOpening o → IsBegun (opening o)
opening_begun (array_head w n) small = head_begun 4 w n _ (omega arith) small
opening_begun (map_head w n) small = head_begun 5 w n _ (omega arith) small
opening_begun (tag_head w n) small = head_begun 6 w n _ (omega arith) small
opening_begun indefinite_array small = record { first = 0x9f; others = []; is = refl; no_break = refl }
opening_begun indefinite_map small = record { first = 0xbf; others = []; is = refl; no_break = refl }

pub place_le : (o : Opening) (k n : ℕ) → k ≤ n → HasPlace o n → HasPlace o k
place_le (array_head w c) k n few place = omega (arith, few, place)
place_le (map_head w c) k n few place = omega (arith, few, place)
place_le (tag_head w c) k n few place = omega (arith, few, place)
place_le indefinite_array k n few place = tt
place_le indefinite_map k n few place = tt

pub front_begun : (a b : List ℕ) → IsBegun a → IsBegun (a ++ b)
front_begun a b starts = record { first = starts.first; others = starts.others ++ b; is = ap (λ (t : List ℕ). t ++ b) starts.is; no_break = starts.no_break }

-- a part comes
pub counted_step : {Part Whole : Type 0} (ps : Parts Part Whole) (fuel left : ℕ) (bs : List ℕ)
    → parts_by ps (suc fuel) (counted (suc left)) bs ≡ go_on ps (parts_by ps fuel) (Some (counted left)) bs
unfolding parts_by next_at
counted_step ps fuel left bs = refl

pub break_step : {Part Whole : Type 0} (ps : Parts Part Whole) (fuel : ℕ) (bs : List ℕ) → IsBegun bs
    → parts_by ps (suc fuel) to_break bs ≡ go_on ps (parts_by ps fuel) (Some to_break) bs
unfolding parts_by next_at
break_step ps fuel bs starts = rw (starts.is, starts.no_break) refl

-- an array, a map or a tag, by its parts
module _ {Item Items Pairs : Type 0} (m : Reading Item Items Pairs) where
  abbrev p_of : ℕ → List ℕ → Reads Item
  p_of l = item_at m l

  pub none_err : (l : ℕ) → item_at m l [] ≡ Err ended
  unfolding item_at item_by byte_at
  none_err zero = refl
  none_err (suc l) = refl

  pub array_err : (l : ℕ) (w : HeadWidth) (n : ℕ) (bs : List ℕ) (f : Fault) → n < limit w → parts_at (items_of m (p_of l)) (counted n) bs ≡ Err f → item_at m (suc l) (head 4 w n ++ bs) ≡ Err f
  unfolding array_at content_at
  array_err l w n bs f small is =
      item_at-inside m (suc l) _ ∙ length_again m (inner_of m (suc l)) 4 (λ w n. array_at m (Some (p_of l)) (definite w) (counted n)) _ w n bs small refl
      ∙ err_bind (parts_at (items_of m (p_of l)) (counted n) bs) _ f is

  pub indefinite_array_err : (l : ℕ) (bs : List ℕ) (f : Fault) → parts_at (items_of m (p_of l)) to_break bs ≡ Err f → item_at m (suc l) (0x9f ∷ bs) ≡ Err f
  unfolding array_at
  indefinite_array_err l bs f is = item_at-inside m (suc l) _ ∙ indefinite_array_again m (p_of l) bs ∙ err_bind (parts_at (items_of m (p_of l)) to_break bs) _ f is

  pub map_err : (l : ℕ) (w : HeadWidth) (n : ℕ) (bs : List ℕ) (f : Fault) → n < limit w → parts_at (pairs_of m (p_of l)) (counted n) bs ≡ Err f → item_at m (suc l) (head 5 w n ++ bs) ≡ Err f
  unfolding map_at content_at
  map_err l w n bs f small is =
      item_at-inside m (suc l) _ ∙ length_again m (inner_of m (suc l)) 5 (λ w n. map_at m (Some (p_of l)) (definite w) (counted n)) _ w n bs small refl
      ∙ err_bind (parts_at (pairs_of m (p_of l)) (counted n) bs) _ f is

  pub indefinite_map_err : (l : ℕ) (bs : List ℕ) (f : Fault) → parts_at (pairs_of m (p_of l)) to_break bs ≡ Err f → item_at m (suc l) (0xbf ∷ bs) ≡ Err f
  unfolding map_at
  indefinite_map_err l bs f is = item_at-inside m (suc l) _ ∙ indefinite_map_again m (p_of l) bs ∙ err_bind (parts_at (pairs_of m (p_of l)) to_break bs) _ f is

  pub tag_err : (l : ℕ) (w : HeadWidth) (n : ℕ) (bs : List ℕ) (f : Fault) → n < limit w → p_of l bs ≡ Err f → item_at m (suc l) (head 6 w n ++ bs) ≡ Err f
  unfolding tag_at content_at
  tag_err l w n bs f small is =
      item_at-inside m (suc l) _ ∙ numbered_again m (inner_of m (suc l)) 6 (tag_at m (Some (p_of l))) w n bs small refl
      ∙ err_bind (p_of l bs) _ f is

  pub deep_err : (o : Opening) (bs : List ℕ) → IsOpening o → item_at m 0 (opening o ++ bs) ≡ Err (before too_deep bs)
  unfolding array_at map_at tag_at content_at item_at item_by byte_at after_first
  deep_err (array_head w n) bs small = length_again m None 4 (λ w n. array_at m None (definite w) (counted n)) _ w n bs small refl
  deep_err (map_head w n) bs small = length_again m None 5 (λ w n. map_at m None (definite w) (counted n)) _ w n bs small refl
  deep_err (tag_head w n) bs small = numbered_again m None 6 (tag_at m None) w n bs small refl
  deep_err indefinite_array bs small = refl
  deep_err indefinite_map bs small = refl
