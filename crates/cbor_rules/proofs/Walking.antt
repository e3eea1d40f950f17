-- Steps of going through bytes.
use Rattle.std.proofs.Common.{◌≡◌, ℕ, zero, suc, ◌∷◌, ◌/◌, ◌%◌, subst, ◌+◌, ◌-◌, ◌<◌, ◌≤◌, Bool, true, false, cond, List, [], length, take, drop, Ok, Err, Option, Some, None, refl, sym, ap, ◌∙◌, arith}
use Rattle.std.specs.Prelude.{IsErr, ◌&&◌}
use Rattle.std.proofs.lemmas.Bool.{ne_eqb, le-leb, lt-leb}
use Rattle.std.proofs.lemmas.List.{drop-drop, length-drop}
use Rattle.cbor_model.specs.Raw.{FloatWidth}
use Rattle.cbor_rules.specs.Features.{number, indefinite_length, float_bits, key, nth_item}
use Rattle.cbor_rules.specs.Rules.{Terms, under, only, broken, is_reached}
use Rattle.cbor_rules.specs.Walk as model
use Rattle.cbor_rules.specs.Walk.{Sought, departure_from, found, and_then, seen, unless_broken, is_break, with_number, all_walk, open_walk, chunk_walk, chunk_content, chunks_walk, pairs_walk, content_walk, past, float_walk, simple_walk, inside_walk, indefinite_walk, head_walk}
use Rattle.cbor_model.specs.Reader.{Reads, number_behind, width_of}
use Rattle.cbor_rules.specs.declared.settings.Rules.{Rules}
use Rattle.cbor_rules.specs.declared.settings.Rule.{Rule}
use Rattle.cbor_rules.specs.declared.settings.Rule.TheVariants.{DefiniteLengths, MostItems}
use Rattle.cbor_rules.specs.declared.walk.Walk.{Walk}
use Rattle.cbor_rules.specs.declared.walk.Walk.TheVariants.{Passed, Departed, Stopped, NoMemory}
use Rattle.cbor_rules.specs.Walks.{last, walk_view, HadMemory, IsWithin, IsAfter}

pub last_all : (bs : List ℕ) → bs ≡ last (length bs) bs
last_all bs = let none : length bs - length bs ≡ 0 = omega arith in sym (ap (λ (n : ℕ). drop n bs) none)

pub length-last : (n : ℕ) (bs : List ℕ) → n ≤ length bs → length (last n bs) ≡ n
length-last n bs le = omega (arith, length-drop (length bs - n) bs)

pub last-last : (k n : ℕ) (bs : List ℕ) → k ≤ n → n ≤ length bs → last k (last n bs) ≡ last k bs
last-last k n bs few le =
    let m : (length bs - n) + (length (last n bs) - k) ≡ length bs - k = omega (arith, length-last n bs le) in
    drop-drop (length (last n bs) - k) (length bs - n) bs ∙ ap (λ (n : ℕ). drop n bs) m

-- what is left of the last bytes is left of all
pub view-last : (left : ℕ) (bs : List ℕ) (r : Walk) → left ≤ length bs → IsWithin (length (last left bs)) r → walk_view (last left bs) r ≡ walk_view bs r
view-last left bs (Passed k) le few = ap model.passed (last-last k left bs (omega (arith, few, length-last left bs le)) le)
view-last left bs (Departed rule k) le few = refl
view-last left bs Stopped le few = refl
view-last left bs NoMemory le few = refl

pub within-last : (left : ℕ) (bs : List ℕ) (r : Walk) → left ≤ length bs → IsWithin (length (last left bs)) r → IsWithin (length bs) r
within-last left bs (Passed k) le few = omega (arith, few, le, length-last left bs le)
within-last left bs (Departed rule k) le few = omega (arith, few, le, length-last left bs le)
within-last left bs Stopped le few = tt
within-last left bs NoMemory le few = tt

-- past a feature that breaks a rule, or none
pub seen_broken : (rule : Rule) (o : Option Rule) (left : ℕ) (w : model.Walk) → o ≡ Some rule → unless_broken o left w ≡ model.departed rule left
seen_broken rule o left w is = rw is refl

pub seen_kept : (o : Option Rule) (left : ℕ) (w : model.Walk) → o ≡ None → unless_broken o left w ≡ w
seen_kept o left w is = rw is refl

-- after a number, or where there is none
pub number_on : (go : ℕ → List ℕ → model.Walk) (r : Reads ℕ) (n : ℕ) (rest : List ℕ) → r ≡ Ok (n, rest) → with_number go r ≡ go n rest
number_on go r n rest is = rw is refl

pub number_end : (go : ℕ → List ℕ → model.Walk) (r : Reads ℕ) → IsErr r → with_number go r ≡ model.stopped
number_end go (Ok x) is = absurd cc
number_end go (Err d) is = refl

-- what is no want of memory
pub had_memory : (r : Walk) → (r ≡ NoMemory → ⊥) → HadMemory r
had_memory (Passed left) other = tt
had_memory (Departed rule left) other = tt
had_memory Stopped other = tt
had_memory NoMemory other = absurd (other refl)

-- what isn't passed is answered
abbrev pub IsOther : Walk → Type 0
IsOther r = (left : ℕ) → r ≡ Passed left → ⊥

pub other_view : (r : Walk) (bs cs : List ℕ) → IsOther r → walk_view bs r ≡ walk_view cs r
other_view (Passed left) bs cs other = absurd (other left refl)
other_view (Departed rule left) bs cs other = refl
other_view Stopped bs cs other = refl
other_view NoMemory bs cs other = refl

other_then : (r : Walk) (bs : List ℕ) (go : List ℕ → model.Walk) → IsOther r → and_then (walk_view bs r) go ≡ walk_view bs r
other_then (Passed left) bs go other = absurd (other left refl)
other_then (Departed rule left) bs go other = refl
other_then Stopped bs go other = refl
other_then NoMemory bs go other = refl

one_less : (n i : ℕ) → i < n → n - i ≡ suc (n - (i + 1))
one_less n i lt = omega (arith, lt)

-- ---- items and pairs

-- a break ends here, and one byte less is left
pub after_break : (rest bs : List ℕ) → 1 ≤ length rest → length rest ≤ length bs → rest ≡ last (length rest) bs → drop 1 rest ≡ last (length rest - 1) bs
after_break rest bs some le is =
    let m : (length bs - length rest) + 1 ≡ length bs - (length rest - 1) = omega (arith, some, le) in
    ap (drop 1) is ∙ drop-drop 1 (length bs - length rest) bs ∙ ap (λ (n : ℕ). drop n bs) m

module _ (p : List ℕ → model.Walk) (n i : ℕ) (lt : i < n) (rest : List ℕ) where
  pub all_begin : all_walk p (n - i) rest ≡ and_then (p rest) (all_walk p (n - (i + 1)))
  unfolding all_walk
  all_begin = rw (one_less n i lt) refl

  pub all_step : (mid : List ℕ) → p rest ≡ model.passed mid → all_walk p (n - i) rest ≡ all_walk p (n - (i + 1)) mid
  all_step mid is = all_begin ∙ ap (λ (w : model.Walk). and_then w (all_walk p (n - (i + 1)))) is

  pub all_other : (bs : List ℕ) (r : Walk) → p rest ≡ walk_view rest r → IsOther r → all_walk p (n - i) rest ≡ walk_view bs r
  all_other bs r is other =
      all_begin
      ∙ ap (λ (w : model.Walk). and_then w (all_walk p (n - (i + 1)))) is
      ∙ other_then r rest (all_walk p (n - (i + 1))) other
      ∙ other_view r rest bs other

module _ (sought : Sought) (p : List ℕ → model.Walk) (n i : ℕ) (lt : i < n) (rest : List ℕ) where
  pub open_break : is_break rest ≡ true → open_walk sought p (n - i) i rest ≡ model.passed (drop 1 rest)
  unfolding open_walk
  open_break ends = rw (one_less n i lt) (rw ends refl)

  -- what follows an item
  abbrev pub behind_item : List ℕ → model.Walk
  behind_item mid = seen sought (nth_item i) (length mid) (open_walk sought p (n - (i + 1)) (i + 1) mid)

  module _ (on : is_break rest ≡ false) where
    pub open_begin : open_walk sought p (n - i) i rest ≡ and_then (p rest) behind_item
    unfolding open_walk
    open_begin = rw (one_less n i lt) (rw on refl)

    pub open_other : (bs : List ℕ) (r : Walk) → p rest ≡ walk_view rest r → IsOther r → open_walk sought p (n - i) i rest ≡ walk_view bs r
    open_other bs r is other =
        open_begin
        ∙ ap (λ (w : model.Walk). and_then w behind_item) is
        ∙ other_then r rest behind_item other
        ∙ other_view r rest bs other

    module _ (mid : List ℕ) (is : p rest ≡ model.passed mid) where
      pub open_item : open_walk sought p (n - i) i rest ≡ behind_item mid
      open_item = open_begin ∙ ap (λ (w : model.Walk). and_then w behind_item) is

      pub open_departs : (rule : Rule) → found sought (nth_item i) ≡ Some rule → open_walk sought p (n - i) i rest ≡ model.departed rule (length mid)
      open_departs rule breaks = open_item ∙ seen_broken rule (found sought (nth_item i)) (length mid) _ breaks

      pub open_step : found sought (nth_item i) ≡ None → open_walk sought p (n - i) i rest ≡ open_walk sought p (n - (i + 1)) (i + 1) mid
      open_step keeps = open_item ∙ seen_kept (found sought (nth_item i)) (length mid) _ keeps

module _ (sought : Sought) (p : List ℕ → model.Walk) (is_open : Bool) (n i : ℕ) (lt : i < n) (earlier : List (List ℕ)) (rest : List ℕ) where
  pub pairs_break : (is_open && is_break rest) ≡ true → pairs_walk sought p is_open (n - i) earlier rest ≡ model.passed (drop 1 rest)
  unfolding pairs_walk
  pairs_break ends = rw (one_less n i lt) (rw ends refl)

  -- what follows a key
  abbrev pub behind_key : List ℕ → model.Walk
  behind_key at_value =
      let k = take (length rest - length at_value) rest in
      seen sought (key earlier k) (length at_value) (and_then (p at_value) (pairs_walk sought p is_open (n - (i + 1)) (k ∷ earlier)))

  module _ (on : (is_open && is_break rest) ≡ false) where
    pub pairs_begin : pairs_walk sought p is_open (n - i) earlier rest ≡ and_then (p rest) behind_key
    unfolding pairs_walk
    pairs_begin = rw (one_less n i lt) (rw on refl)

    pub pairs_other : (bs : List ℕ) (r : Walk) → p rest ≡ walk_view rest r → IsOther r → pairs_walk sought p is_open (n - i) earlier rest ≡ walk_view bs r
    pairs_other bs r is other =
        pairs_begin
        ∙ ap (λ (w : model.Walk). and_then w behind_key) is
        ∙ other_then r rest behind_key other
        ∙ other_view r rest bs other

    module _ (at_value k : List ℕ) (is : p rest ≡ model.passed at_value) (key_is : k ≡ take (length rest - length at_value) rest) where
      pairs_key : pairs_walk sought p is_open (n - i) earlier rest ≡ seen sought (key earlier k) (length at_value) (and_then (p at_value) (pairs_walk sought p is_open (n - (i + 1)) (k ∷ earlier)))
      pairs_key =
          pairs_begin
          ∙ ap (λ (w : model.Walk). and_then w behind_key) is
          ∙ ap (λ (k : List ℕ). seen sought (key earlier k) (length at_value) (and_then (p at_value) (pairs_walk sought p is_open (n - (i + 1)) (k ∷ earlier)))) (sym key_is)

      pub pairs_departs : (rule : Rule) → found sought (key earlier k) ≡ Some rule → pairs_walk sought p is_open (n - i) earlier rest ≡ model.departed rule (length at_value)
      pairs_departs rule breaks = pairs_key ∙ seen_broken rule (found sought (key earlier k)) (length at_value) _ breaks

      module _ (keeps : found sought (key earlier k) ≡ None) where
        pairs_value : pairs_walk sought p is_open (n - i) earlier rest ≡ and_then (p at_value) (pairs_walk sought p is_open (n - (i + 1)) (k ∷ earlier))
        pairs_value = pairs_key ∙ seen_kept (found sought (key earlier k)) (length at_value) _ keeps

        pub pairs_step : (more : List ℕ) → p at_value ≡ model.passed more → pairs_walk sought p is_open (n - i) earlier rest ≡ pairs_walk sought p is_open (n - (i + 1)) (k ∷ earlier) more
        pairs_step more is' = pairs_value ∙ ap (λ (w : model.Walk). and_then w (pairs_walk sought p is_open (n - (i + 1)) (k ∷ earlier))) is'

        pub pairs_value_other : (bs : List ℕ) (r : Walk) → p at_value ≡ walk_view at_value r → IsOther r → pairs_walk sought p is_open (n - i) earlier rest ≡ walk_view bs r
        pairs_value_other bs r is' other =
            pairs_value
            ∙ ap (λ (w : model.Walk). and_then w (pairs_walk sought p is_open (n - (i + 1)) (k ∷ earlier))) is'
            ∙ other_then r at_value (pairs_walk sought p is_open (n - (i + 1)) (k ∷ earlier)) other
            ∙ other_view r at_value bs other

-- where all are passed
pub all_end : (p : List ℕ → model.Walk) (n i : ℕ) (rest : List ℕ) → n ≤ i → all_walk p (n - i) rest ≡ model.passed rest
unfolding all_walk
all_end p n i rest le = let none : n - i ≡ 0 = omega (arith, le) in ap (λ (k : ℕ). all_walk p k rest) none

pub open_end : (sought : Sought) (p : List ℕ → model.Walk) (n i : ℕ) (rest : List ℕ) → n ≤ i → open_walk sought p (n - i) i rest ≡ model.stopped
unfolding open_walk
open_end sought p n i rest le = let none : n - i ≡ 0 = omega (arith, le) in ap (λ (k : ℕ). open_walk sought p k i rest) none

-- an item that is one too many breaks its rule, or none
pub item_broken : (terms : Terms) (i : ℕ) → is_reached terms.rules.most_items i ≡ true → broken terms (nth_item i) ≡ Some MostItems
item_broken terms i is = rw is refl

pub item_kept : (terms : Terms) (i : ℕ) → is_reached terms.rules.most_items i ≡ false → broken terms (nth_item i) ≡ None
item_kept terms i is = rw is refl

pub pairs_end : (sought : Sought) (p : List ℕ → model.Walk) (is_open : Bool) (n i : ℕ) (earlier : List (List ℕ)) (rest : List ℕ) → n ≤ i → pairs_walk sought p is_open (n - i) earlier rest ≡ cond is_open model.stopped (model.passed rest)
unfolding pairs_walk
pairs_end sought p is_open n i earlier rest le = let none : n - i ≡ 0 = omega (arith, le) in ap (λ (k : ℕ). pairs_walk sought p is_open k earlier rest) none

-- ---- an item

pub on_first : (sought : Sought) (fuel : ℕ) (bs : List ℕ) (b : ℕ) (rest : List ℕ) (r : Walk) → bs ≡ b ∷ rest → length bs ≤ fuel → ((fuel : ℕ) → length rest ≤ fuel → content_walk sought (model.walk sought fuel) (b / 32) (b % 32) rest ≡ walk_view rest r) → IsWithin (length rest) r → model.walk sought fuel bs ≡ walk_view bs r
unfolding model.walk
on_first sought zero bs b rest r is enough walks few = absurd (omega (arith, ap length is, enough))
on_first sought (suc fuel) bs b rest r is enough walks few =
    let view : walk_view rest r ≡ walk_view (b ∷ rest) r = ap (λ (t : List ℕ). walk_view t r) (last_all-but b rest) ∙ view-last (length rest) (b ∷ rest) r (omega arith) (subst (λ (t : List ℕ). IsWithin (length t) r) (last_all-but b rest) few) in
    ap (model.walk sought (suc fuel)) is ∙ walks fuel (omega (arith, ap length is, enough)) ∙ view ∙ ap (λ (t : List ℕ). walk_view t r) (sym is)
  where
    last_all-but : (b : ℕ) (rest : List ℕ) → rest ≡ last (length rest) (b ∷ rest)
    last_all-but b rest = let one : suc (length rest) - length rest ≡ 1 = omega arith in sym (ap (λ (n : ℕ). drop n (b ∷ rest)) one)

pub no_first : (sought : Sought) (fuel : ℕ) (bs : List ℕ) → length bs ≡ 0 → model.walk sought fuel bs ≡ model.stopped
unfolding model.walk
no_first sought zero bs none = refl
no_first sought (suc fuel) [] none = refl
no_first sought (suc fuel) (b ∷ bs) none = absurd (omega (arith, none))

-- ---- the rest of the bytes

-- what goes on with the rest
pub rest_last : (rest : List ℕ) (left : ℕ) (bs : List ℕ) (r : Walk) (go : List ℕ → model.Walk) (fuel : ℕ) → rest ≡ last left bs → left ≤ length bs → length bs ≤ fuel → (length rest ≤ fuel → go rest ≡ walk_view rest r) → IsWithin (length rest) r → go (last left bs) ≡ walk_view bs r
rest_last rest left bs r go fuel is le enough walks few =
    let fewer : length rest ≤ fuel = omega (arith, ap length is, length-last left bs le, le, enough) in
    ap go (sym is) ∙ walks fewer ∙ ap (λ (t : List ℕ). walk_view t r) is ∙ view-last left bs r le (subst (λ (t : List ℕ). IsWithin (length t) r) is few)

-- what a part of the bytes leaves, all of them do
pub view_rest : (rest bs : List ℕ) (r : Walk) → length rest ≤ length bs → rest ≡ last (length rest) bs → IsWithin (length rest) r → walk_view rest r ≡ walk_view bs r
view_rest rest bs r le is few = ap (λ (t : List ℕ). walk_view t r) is ∙ view-last (length rest) bs r le (subst (λ (t : List ℕ). IsWithin (length t) r) is few)

pub within_rest : (rest bs : List ℕ) (r : Walk) → length rest ≤ length bs → IsWithin (length rest) r → IsWithin (length bs) r
within_rest rest bs (Passed k) le few = omega (arith, few, le)
within_rest rest bs (Departed rule k) le few = omega (arith, few, le)
within_rest rest bs Stopped le few = tt
within_rest rest bs NoMemory le few = tt

-- the rest after a part of the rest
pub next_rest : (next rest bs : List ℕ) (left : ℕ) → next ≡ last left rest → left ≤ length rest → length rest ≤ length bs → rest ≡ last (length rest) bs → (length next ≤ length bs) × (next ≡ last (length next) bs)
next_rest next rest bs left is le within is_last =
    let long : length next ≡ left = ap length is ∙ length-last left rest le in (
      omega (arith, long, le, within),
      is ∙ ap (last left) is_last ∙ last-last left (length rest) bs le within ∙ ap (λ (n : ℕ). last n bs) (sym long),
    )

-- the key before the rest
pub key_of : (k : List ℕ) (left : ℕ) (rest : List ℕ) → k ≡ take (length rest - left) rest → left ≤ length rest → k ≡ take (length rest - length (last left rest)) rest
key_of k left rest is le = is ∙ ap (λ (n : ℕ). take (length rest - n) rest) (sym (length-last left rest le))

pub key_at : (k at_value : List ℕ) (left : ℕ) (rest : List ℕ) → k ≡ take (length rest - left) rest → at_value ≡ last left rest → left ≤ length rest → k ≡ take (length rest - length at_value) rest
key_at k at_value left rest is value_is le = is ∙ ap (λ (n : ℕ). take (length rest - n) rest) (sym (ap length value_is ∙ length-last left rest le))

-- ---- features

-- what is no rule is none
pub none_of : (o : Option Rule) → ((rule : Rule) → o ≡ Some rule → ⊥) → o ≡ None
none_of None none = refl
none_of (Some rule) none = absurd (none rule refl)

-- past a float
module _ (bs : List ℕ) (left : ℕ) (r : Walk) (le : left ≤ length bs) where
  pub after_view : (o : Option Rule) → IsAfter o left r → unless_broken o (length (last left bs)) (model.passed (last left bs)) ≡ walk_view bs r
  after_view None is = rw is refl
  after_view (Some rule) is = rw is (ap (model.departed rule) (length-last left bs le))

  pub after_within : (o : Option Rule) → IsAfter o left r → IsWithin (length bs) r
  after_within None is = rw is le
  after_within (Some rule) is = rw is le

pub after_memory : (left : ℕ) (r : Walk) (o : Option Rule) → IsAfter o left r → HadMemory r
after_memory left r None is = rw is tt
after_memory left r (Some rule) is = rw is tt

pub float_on : (sought : Sought) (w : FloatWidth) (low bits left : ℕ) (bs : List ℕ) (r : Walk) → number_behind low bs ≡ Ok (bits, last left bs) → left ≤ length bs → IsAfter (found sought (float_bits w bits)) left r → float_walk sought w low bs ≡ walk_view bs r
float_on sought w low bits left bs r is le after =
    number_on (λ bits rest. seen sought (float_bits w bits) (length rest) (model.passed rest)) (number_behind low bs) bits (last left bs) is
    ∙ after_view bs left r le (found sought (float_bits w bits)) after

-- ---- what follows a first byte

-- an indefinite length breaks its rule, or none
pub indefinite_broken : (terms : Terms) → terms.rules.definite_lengths ≡ true → broken terms indefinite_length ≡ Some DefiniteLengths
indefinite_broken terms is = rw is refl

pub indefinite_kept : (terms : Terms) → terms.rules.definite_lengths ≡ false → broken terms indefinite_length ≡ None
indefinite_kept terms is = rw is refl

-- where nothing has a tag, the tags that stand are the same as none
pub simple_only : (rules : Rules) (tags : List ℕ) (low : ℕ) (bs : List ℕ) → simple_walk (departure_from (under rules tags)) low bs ≡ simple_walk (departure_from (only rules)) low bs
unfolding simple_walk
simple_only rules tags low bs = refl

module _ (sought : Sought) (p : List ℕ → model.Walk) (k low : ℕ) (bs : List ℕ) where
  pub on_simple : k ≡ 7 → content_walk sought p k low bs ≡ simple_walk sought low bs
  unfolding content_walk
  on_simple is = rw is refl

  pub on_indefinite : (k ≡ 7 → ⊥) → low ≡ 31 → content_walk sought p k low bs ≡ indefinite_walk sought p k bs
  unfolding content_walk
  on_indefinite not_7 is = rw (ne_eqb k 7 not_7, is) refl

  pub on_head : (k ≡ 7 → ⊥) → (low ≡ 31 → ⊥) → content_walk sought p k low bs ≡ head_walk sought p k low bs
  unfolding content_walk
  on_head not_7 not_31 = rw (ne_eqb k 7 not_7, ne_eqb low 31 not_31) refl

module _ (sought : Sought) (p : List ℕ → model.Walk) (k : ℕ) (bs : List ℕ) where
  pub indefinite_departs : (rule : Rule) → found sought indefinite_length ≡ Some rule → indefinite_walk sought p k bs ≡ model.departed rule (length bs)
  unfolding indefinite_walk
  indefinite_departs rule breaks = seen_broken rule (found sought indefinite_length) (length bs) _ breaks

  pub indefinite_pairs : found sought indefinite_length ≡ None → k ≡ 5 → indefinite_walk sought p k bs ≡ pairs_walk sought p true (length bs) [] bs
  unfolding indefinite_walk
  indefinite_pairs keeps five = seen_kept (found sought indefinite_length) (length bs) _ keeps ∙ rw five refl

  pub indefinite_items : found sought indefinite_length ≡ None → k ≡ 4 → indefinite_walk sought p k bs ≡ open_walk sought p (length bs) 0 bs
  unfolding indefinite_walk
  indefinite_items keeps four = seen_kept (found sought indefinite_length) (length bs) _ keeps ∙ rw four refl

  pub indefinite_chunks : found sought indefinite_length ≡ None → (k ≡ 5 → ⊥) → (k ≡ 4 → ⊥) → indefinite_walk sought p k bs ≡ chunks_walk sought k (length bs) 0 bs
  unfolding indefinite_walk
  indefinite_chunks keeps not_5 not_4 = seen_kept (found sought indefinite_length) (length bs) _ keeps ∙ rw (ne_eqb k 5 not_5, ne_eqb k 4 not_4) refl

  module _ (n : ℕ) where
    pub in_integer : k ≤ 1 → inside_walk sought p k n bs ≡ model.passed bs
    unfolding inside_walk
    in_integer le = rw (le-leb k 1 le) refl

    pub in_string : 1 < k → k ≤ 3 → inside_walk sought p k n bs ≡ past n bs
    unfolding inside_walk
    in_string lt le = rw (lt-leb k 1 lt, le-leb k 3 le) refl

    pub in_array : k ≡ 4 → inside_walk sought p k n bs ≡ all_walk p n bs
    unfolding inside_walk
    in_array is = rw is refl

    pub in_map : k ≡ 5 → inside_walk sought p k n bs ≡ pairs_walk sought p false n [] bs
    unfolding inside_walk
    in_map is = rw is refl

    pub in_tag : 5 < k → inside_walk sought p k n bs ≡ p bs
    unfolding inside_walk
    in_tag lt =
        let not_4 : k ≡ 4 → ⊥ = λ is. omega (arith, lt, is) in
        let not_5 : k ≡ 5 → ⊥ = λ is. omega (arith, lt, is) in
        let not_1 : 1 < k = omega (arith, lt) in
        let not_3 : 3 < k = omega (arith, lt) in
        rw (lt-leb k 1 not_1, lt-leb k 3 not_3, ne_eqb k 4 not_4, ne_eqb k 5 not_5) refl

-- past a head, whose number breaks a rule or none
module _ (sought : Sought) (p : List ℕ → model.Walk) (major low n left : ℕ) (bs : List ℕ) (is : number_behind low bs ≡ Ok (n, last left bs)) where
  head_on : head_walk sought p major low bs ≡ seen sought (number major (width_of low) n) (length (last left bs)) (inside_walk sought p major n (last left bs))
  head_on = number_on (λ n rest. seen sought (number major (width_of low) n) (length rest) (inside_walk sought p major n rest)) (number_behind low bs) n (last left bs) is

  pub head_departs : (rule : Rule) → found sought (number major (width_of low) n) ≡ Some rule → head_walk sought p major low bs ≡ model.departed rule (length (last left bs))
  head_departs rule breaks = head_on ∙ seen_broken rule (found sought (number major (width_of low) n)) (length (last left bs)) _ breaks

  pub head_keeps : found sought (number major (width_of low) n) ≡ None → head_walk sought p major low bs ≡ inside_walk sought p major n (last left bs)
  head_keeps keeps = head_on ∙ seen_kept (found sought (number major (width_of low) n)) (length (last left bs)) _ keeps

pub head_end : (sought : Sought) (p : List ℕ → model.Walk) (major low : ℕ) (bs : List ℕ) → IsErr (number_behind low bs) → head_walk sought p major low bs ≡ model.stopped
head_end sought p major low bs is = number_end (λ n rest. seen sought (number major (width_of low) n) (length rest) (inside_walk sought p major n rest)) (number_behind low bs) is
