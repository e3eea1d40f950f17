-- Steps of going through bytes.
use Rattle.std.proofs.Common.{◌≡◌, ℕ, zero, suc, ◌∷◌, ◌/◌, ◌%◌, subst, ◌+◌, ◌-◌, ◌<◌, ◌≤◌, true, false, List, [], length, take, drop, Ok, Err, Ordering, Less, Equal, Greater, refl, sym, ap, ◌∙◌, arith}
use Rattle.std.specs.Prelude.{nat_lt, IsErr}
use Rattle.std.proofs.lemmas.Bool.{ne_eqb, eq-eqb}
use Rattle.std.proofs.lemmas.List.{drop-drop, length-drop}
use Rattle.cbor_strict.specs.Departure.{floor}
use Rattle.cbor_model.specs.Major.{major_of}
use Rattle.cbor_model.specs.Order.{lex}
use Rattle.cbor_model.specs.Reader.{Reads, number_behind, width_of}
use Rattle.cbor_model.specs.Value.{by_order}
use Rattle.cbor_strict.specs.Walk as model
use Rattle.cbor_strict.specs.Walk.{and_then, past, on_shortest, with_shortest, with_count, integer_walk, string_walk, simple_walk, all_walk, pairs_walk, content_walk}
use Rattle.cbor_model.proofs.reader.Majors.{each_major}
use Rattle.cbor_strict.specs.declared.walk.Walk.{Walk}
use Rattle.cbor_strict.specs.declared.walk.Walk.TheVariants.{Passed, Departed, Stopped}
use Rattle.cbor_strict.specs.Walks.{last, walk_view, IsWithin}

pub last_all : (bs : List ℕ) → bs ≡ last (length bs) bs
last_all bs = let none : length bs - length bs ≡ 0 = omega arith in sym (ap (λ (n : ℕ). drop n bs) none)

pub length-last : (n : ℕ) (bs : List ℕ) → n ≤ length bs → length (last n bs) ≡ n
length-last n bs le = omega (arith, length-drop (length bs - n) bs)

pub last-last : (k n : ℕ) (bs : List ℕ) → k ≤ n → n ≤ length bs → last k (last n bs) ≡ last k bs
last-last k n bs few le =
    let m : (length bs - n) + (length (last n bs) - k) ≡ length bs - k = omega (arith, length-last n bs le) in
    drop-drop (length (last n bs) - k) (length bs - n) bs ∙ ap (λ (n : ℕ). drop n bs) m

-- what is left of the last bytes is left of all
pub view-last : (left : ℕ) (bs : List ℕ) (r : Walk) → left ≤ length bs → IsWithin (length (last left bs)) r → walk_view (last left bs) r ≡ walk_view bs r
view-last left bs (Passed k) le few = ap model.passed (last-last k left bs (omega (arith, few, length-last left bs le)) le)
view-last left bs (Departed k) le few = refl
view-last left bs Stopped le few = refl

pub within-last : (left : ℕ) (bs : List ℕ) (r : Walk) → left ≤ length bs → IsWithin (length (last left bs)) r → IsWithin (length bs) r
within-last left bs (Passed k) le few = omega (arith, few, le, length-last left bs le)
within-last left bs (Departed k) le few = omega (arith, few, le, length-last left bs le)
within-last left bs Stopped le few = tt

-- ---- what follows a first byte

-- after a number, whose head is the shortest or isn't
shortest_on : (go : ℕ → List ℕ → model.Walk) (low n : ℕ) (bs rest : List ℕ) → number_behind low bs ≡ Ok (n, rest) → nat_lt n (floor (width_of low)) ≡ false → with_shortest go low bs ≡ go n rest
shortest_on go low n bs rest is short = rw (is, short) refl

shortest_off : (go : ℕ → List ℕ → model.Walk) (low n : ℕ) (bs rest : List ℕ) → number_behind low bs ≡ Ok (n, rest) → nat_lt n (floor (width_of low)) ≡ true → with_shortest go low bs ≡ model.departed (length rest)
shortest_off go low n bs rest is long = rw (is, long) refl

shortest_end : (go : ℕ → List ℕ → model.Walk) (low : ℕ) (bs : List ℕ) → IsErr (number_behind low bs) → with_shortest go low bs ≡ model.stopped
shortest_end go low bs is = by_read (number_behind low bs) is
  where
    by_read : (r : Reads ℕ) → IsErr r → on_shortest go (width_of low) r ≡ model.stopped
    by_read (Ok x) is = absurd cc
    by_read (Err d) is = refl

-- likewise a count
counted : (go : ℕ → List ℕ → model.Walk) (low : ℕ) (bs : List ℕ) → (low ≡ 31 → ⊥) → with_count go low bs ≡ with_shortest go low bs
counted go low bs not_31 = rw (ne_eqb low 31 not_31) refl

-- a string whose head is the shortest
pub on_bytes : (low n : ℕ) (bs rest : List ℕ) → (low ≡ 31 → ⊥) → number_behind low bs ≡ Ok (n, rest) → nat_lt n (floor (width_of low)) ≡ false → string_walk low bs ≡ past n rest
on_bytes low n bs rest not_31 is short = counted past low bs not_31 ∙ shortest_on past low n bs rest is short

module _ (p : List ℕ → model.Walk) (k low : ℕ) (bs : List ℕ) (below : k < 8) where
  module _ (n : ℕ) (rest : List ℕ) (not_31 : low ≡ 31 → ⊥) (is : number_behind low bs ≡ Ok (n, rest)) where
    module _ (short : nat_lt n (floor (width_of low)) ≡ false) where
      pub on_array : k ≡ 4 → content_walk p (major_of k) low bs ≡ all_walk p n rest
      unfolding content_walk
      on_array four = rw four (counted (all_walk p) low bs not_31 ∙ shortest_on (all_walk p) low n bs rest is short)

      pub on_map : k ≡ 5 → content_walk p (major_of k) low bs ≡ pairs_walk p n [] rest
      unfolding content_walk
      on_map five = rw five (counted (λ n. pairs_walk p n []) low bs not_31 ∙ shortest_on (λ n. pairs_walk p n []) low n bs rest is short)

      pub on_tag : k ≡ 6 → content_walk p (major_of k) low bs ≡ p rest
      unfolding content_walk
      on_tag six = rw six (shortest_on (λ n. p) low n bs rest is short)

    pub on_long : nat_lt n (floor (width_of low)) ≡ true → k < 7 → content_walk p (major_of k) low bs ≡ model.departed (length rest)
    unfolding content_walk
    on_long long small =
        let at = λ (go : ℕ → List ℕ → model.Walk). shortest_off go low n bs rest is long in
        let at' = λ (go : ℕ → List ℕ → model.Walk). counted go low bs not_31 ∙ at go in
        each_major (λ k t. k < 7 → content_walk p t low bs ≡ model.departed (length rest))
        (λ lt. at (λ n bs. model.passed bs)) (λ lt. at (λ n bs. model.passed bs)) (λ lt. at' past) (λ lt. at' past) (λ lt. at' (all_walk p)) (λ lt. at' (λ n. pairs_walk p n [])) (λ lt. at (λ n. p)) (λ lt. absurd (omega (arith, lt))) k below small

  pub on_end : (low ≡ 31 → ⊥) → IsErr (number_behind low bs) → k < 7 → content_walk p (major_of k) low bs ≡ model.stopped
  unfolding content_walk
  on_end not_31 is small =
      let at = λ (go : ℕ → List ℕ → model.Walk). shortest_end go low bs is in
      let at' = λ (go : ℕ → List ℕ → model.Walk). counted go low bs not_31 ∙ at go in
      each_major (λ k t. k < 7 → content_walk p t low bs ≡ model.stopped)
      (λ lt. at (λ n bs. model.passed bs)) (λ lt. at (λ n bs. model.passed bs)) (λ lt. at' past) (λ lt. at' past) (λ lt. at' (all_walk p)) (λ lt. at' (λ n. pairs_walk p n [])) (λ lt. at (λ n. p)) (λ lt. absurd (omega (arith, lt))) k below small

  pub on_open : low ≡ 31 → 2 ≤ k → k < 6 → content_walk p (major_of k) low bs ≡ model.departed (length bs)
  unfolding content_walk
  on_open is least small =
      let at = eq-eqb low 31 is in
      each_major (λ k t. 2 ≤ k → k < 6 → content_walk p t low bs ≡ model.departed (length bs))
      (λ le lt. absurd (omega (arith, le))) (λ le lt. absurd (omega (arith, le))) (λ le lt. rw at refl) (λ le lt. rw at refl) (λ le lt. rw at refl) (λ le lt. rw at refl) (λ le lt. absurd (omega (arith, lt))) (λ le lt. absurd (omega (arith, lt))) k below least small

  pub on_none : low ≡ 31 → k ≡ 6 → content_walk p (major_of k) low bs ≡ model.stopped
  unfolding content_walk number_behind
  on_none is six = rw (six, is) refl

  pub on_integer : k < 2 → content_walk p (major_of k) low bs ≡ integer_walk low bs
  unfolding content_walk
  on_integer small =
      each_major (λ k t. k < 2 → content_walk p t low bs ≡ integer_walk low bs)
      (λ lt. refl) (λ lt. refl) (λ lt. absurd (omega (arith, lt))) (λ lt. absurd (omega (arith, lt))) (λ lt. absurd (omega (arith, lt))) (λ lt. absurd (omega (arith, lt))) (λ lt. absurd (omega (arith, lt))) (λ lt. absurd (omega (arith, lt))) k below small

  pub on_string : 2 ≤ k → k < 4 → content_walk p (major_of k) low bs ≡ string_walk low bs
  unfolding content_walk
  on_string least small =
      each_major (λ k t. 2 ≤ k → k < 4 → content_walk p t low bs ≡ string_walk low bs)
      (λ le lt. absurd (omega (arith, le))) (λ le lt. absurd (omega (arith, le))) (λ le lt. refl) (λ le lt. refl) (λ le lt. absurd (omega (arith, lt))) (λ le lt. absurd (omega (arith, lt))) (λ le lt. absurd (omega (arith, lt))) (λ le lt. absurd (omega (arith, lt))) k below least small

  pub on_simple : k ≡ 7 → content_walk p (major_of k) low bs ≡ simple_walk low bs
  unfolding content_walk
  on_simple seven = rw seven refl

-- ---- items and pairs

-- what isn't passed is answered
abbrev pub IsOther : Walk → Type 0
IsOther r = (left : ℕ) → r ≡ Passed left → ⊥

pub other_view : (r : Walk) (bs cs : List ℕ) → IsOther r → walk_view bs r ≡ walk_view cs r
other_view (Passed left) bs cs other = absurd (other left refl)
other_view (Departed left) bs cs other = refl
other_view Stopped bs cs other = refl

other_then : (r : Walk) (bs : List ℕ) (go : List ℕ → model.Walk) → IsOther r → and_then (walk_view bs r) go ≡ walk_view bs r
other_then (Passed left) bs go other = absurd (other left refl)
other_then (Departed left) bs go other = refl
other_then Stopped bs go other = refl

one_less : (n i : ℕ) → i < n → n - i ≡ suc (n - (i + 1))
one_less n i lt = omega (arith, lt)

-- past one item as past each of one
pub one_item : (p : List ℕ → model.Walk) (n : ℕ) (bs : List ℕ) → n ≡ 1 → all_walk p n bs ≡ p bs
unfolding all_walk
one_item p n bs one = ap (λ (k : ℕ). all_walk p k bs) one ∙ by (p bs)
  where
    by : (w : model.Walk) → and_then w (all_walk p 0) ≡ w
    by (model.passed rest) = refl
    by (model.departed left) = refl
    by model.stopped = refl

module _ (p : List ℕ → model.Walk) (n i : ℕ) (lt : i < n) where
  pub all_step : (rest mid : List ℕ) → p rest ≡ model.passed mid → all_walk p (n - i) rest ≡ all_walk p (n - (i + 1)) mid
  unfolding all_walk
  all_step rest mid is = ap (λ (k : ℕ). all_walk p k rest) (one_less n i lt) ∙ ap (λ (w : model.Walk). and_then w (all_walk p (n - (i + 1)))) is

  pub all_other : (rest bs : List ℕ) (r : Walk) → p rest ≡ walk_view rest r → IsOther r → all_walk p (n - i) rest ≡ walk_view bs r
  unfolding all_walk
  all_other rest bs r is other =
      ap (λ (k : ℕ). all_walk p k rest) (one_less n i lt)
      ∙ ap (λ (w : model.Walk). and_then w (all_walk p (n - (i + 1)))) is
      ∙ other_then r rest (all_walk p (n - (i + 1))) other
      ∙ other_view r rest bs other

  -- what follows a key
  abbrev behind_key : List ℕ → List ℕ → List ℕ → model.Walk
  behind_key before rest at_value =
      let key = take (length rest - length at_value) rest in
      model.above before key (length at_value) (and_then (p at_value) (pairs_walk p (n - (i + 1)) key))

  pairs_begin : (before rest : List ℕ) → pairs_walk p (n - i) before rest ≡ and_then (p rest) (behind_key before rest)
  unfolding pairs_walk
  pairs_begin before rest = ap (λ (k : ℕ). pairs_walk p k before rest) (one_less n i lt)

  pub pairs_other : (before rest bs : List ℕ) (r : Walk) → p rest ≡ walk_view rest r → IsOther r → pairs_walk p (n - i) before rest ≡ walk_view bs r
  pairs_other before rest bs r is other =
      pairs_begin before rest
      ∙ ap (λ (w : model.Walk). and_then w (behind_key before rest)) is
      ∙ other_then r rest (behind_key before rest) other
      ∙ other_view r rest bs other

  module _ (before rest at_value key : List ℕ) (is : p rest ≡ model.passed at_value) (key_is : key ≡ take (length rest - length at_value) rest) where
    pairs_key : pairs_walk p (n - i) before rest ≡ model.above before key (length at_value) (and_then (p at_value) (pairs_walk p (n - (i + 1)) key))
    pairs_key =
        pairs_begin before rest
        ∙ ap (λ (w : model.Walk). and_then w (behind_key before rest)) is
        ∙ ap (λ (k : List ℕ). model.above before k (length at_value) (and_then (p at_value) (pairs_walk p (n - (i + 1)) k))) (sym key_is)

    pub pairs_departs : (lex before key ≡ Less → ⊥) → pairs_walk p (n - i) before rest ≡ model.departed (length at_value)
    pairs_departs not_less = pairs_key ∙ by_order-not (lex before key) not_less
      where
        by_order-not : (o : Ordering) → (o ≡ Less → ⊥) → by_order o (and_then (p at_value) (pairs_walk p (n - (i + 1)) key)) (model.departed (length at_value)) (model.departed (length at_value)) ≡ model.departed (length at_value)
        by_order-not Less not_less = absurd (not_less refl)
        by_order-not Equal not_less = refl
        by_order-not Greater not_less = refl

    module _ (less : lex before key ≡ Less) where
      pairs_value : pairs_walk p (n - i) before rest ≡ and_then (p at_value) (pairs_walk p (n - (i + 1)) key)
      pairs_value = pairs_key ∙ ap (λ (o : Ordering). by_order o (and_then (p at_value) (pairs_walk p (n - (i + 1)) key)) (model.departed (length at_value)) (model.departed (length at_value))) less

      pub pairs_step : (more : List ℕ) → p at_value ≡ model.passed more → pairs_walk p (n - i) before rest ≡ pairs_walk p (n - (i + 1)) key more
      pairs_step more is' = pairs_value ∙ ap (λ (w : model.Walk). and_then w (pairs_walk p (n - (i + 1)) key)) is'

      pub pairs_value_other : (bs : List ℕ) (r : Walk) → p at_value ≡ walk_view at_value r → IsOther r → pairs_walk p (n - i) before rest ≡ walk_view bs r
      pairs_value_other bs r is' other =
          pairs_value
          ∙ ap (λ (w : model.Walk). and_then w (pairs_walk p (n - (i + 1)) key)) is'
          ∙ other_then r at_value (pairs_walk p (n - (i + 1)) key) other
          ∙ other_view r at_value bs other

pub all_end : (p : List ℕ → model.Walk) (n i : ℕ) (rest : List ℕ) → n ≤ i → all_walk p (n - i) rest ≡ model.passed rest
unfolding all_walk
all_end p n i rest le = let none : n - i ≡ 0 = omega (arith, le) in ap (λ (k : ℕ). all_walk p k rest) none

pub pairs_end : (p : List ℕ → model.Walk) (n i : ℕ) (before rest : List ℕ) → n ≤ i → pairs_walk p (n - i) before rest ≡ model.passed rest
unfolding pairs_walk
pairs_end p n i before rest le = let none : n - i ≡ 0 = omega (arith, le) in ap (λ (k : ℕ). pairs_walk p k before rest) none

-- ---- an item

pub on_first : (fuel : ℕ) (bs : List ℕ) (b : ℕ) (rest : List ℕ) (r : Walk) → bs ≡ b ∷ rest → length bs ≤ fuel → ((fuel : ℕ) → length rest ≤ fuel → content_walk (model.walk fuel) (major_of (b / 32)) (b % 32) rest ≡ walk_view rest r) → IsWithin (length rest) r → model.walk fuel bs ≡ walk_view bs r
unfolding model.walk
on_first zero bs b rest r is enough walks few = absurd (omega (arith, ap length is, enough))
on_first (suc fuel) bs b rest r is enough walks few =
    let view : walk_view rest r ≡ walk_view (b ∷ rest) r = ap (λ (t : List ℕ). walk_view t r) (last_all-but b rest) ∙ view-last (length rest) (b ∷ rest) r (omega arith) (subst (λ (t : List ℕ). IsWithin (length t) r) (last_all-but b rest) few) in
    ap (model.walk (suc fuel)) is ∙ walks fuel (omega (arith, ap length is, enough)) ∙ view ∙ ap (λ (t : List ℕ). walk_view t r) (sym is)
  where
    last_all-but : (b : ℕ) (rest : List ℕ) → rest ≡ last (length rest) (b ∷ rest)
    last_all-but b rest = let one : suc (length rest) - length rest ≡ 1 = omega arith in sym (ap (λ (n : ℕ). drop n (b ∷ rest)) one)

pub no_first : (fuel : ℕ) (bs : List ℕ) → length bs ≡ 0 → model.walk fuel bs ≡ model.stopped
unfolding model.walk
no_first zero bs none = refl
no_first (suc fuel) [] none = refl
no_first (suc fuel) (b ∷ bs) none = absurd (omega (arith, none))

-- ---- the rest of the bytes

-- what goes on with the rest
pub rest_last : (rest : List ℕ) (left : ℕ) (bs : List ℕ) (r : Walk) (go : List ℕ → model.Walk) (fuel : ℕ) → rest ≡ last left bs → left ≤ length bs → length bs ≤ fuel → (length rest ≤ fuel → go rest ≡ walk_view rest r) → IsWithin (length rest) r → go (last left bs) ≡ walk_view bs r
rest_last rest left bs r go fuel is le enough walks few =
    let fewer : length rest ≤ fuel = omega (arith, ap length is, length-last left bs le, le, enough) in
    ap go (sym is) ∙ walks fewer ∙ ap (λ (t : List ℕ). walk_view t r) is ∙ view-last left bs r le (subst (λ (t : List ℕ). IsWithin (length t) r) is few)

-- what a part of the bytes leaves, all of them do
pub view_rest : (rest bs : List ℕ) (r : Walk) → length rest ≤ length bs → rest ≡ last (length rest) bs → IsWithin (length rest) r → walk_view rest r ≡ walk_view bs r
view_rest rest bs r le is few = ap (λ (t : List ℕ). walk_view t r) is ∙ view-last (length rest) bs r le (subst (λ (t : List ℕ). IsWithin (length t) r) is few)

pub within_rest : (rest bs : List ℕ) (r : Walk) → length rest ≤ length bs → IsWithin (length rest) r → IsWithin (length bs) r
within_rest rest bs (Passed k) le few = omega (arith, few, le)
within_rest rest bs (Departed k) le few = omega (arith, few, le)
within_rest rest bs Stopped le few = tt

-- the rest after a part of the rest
pub next_rest : (next rest bs : List ℕ) (left : ℕ) → next ≡ last left rest → left ≤ length rest → length rest ≤ length bs → rest ≡ last (length rest) bs → (length next ≤ length bs) × (next ≡ last (length next) bs)
next_rest next rest bs left is le within is_last =
    let long : length next ≡ left = ap length is ∙ length-last left rest le in (
      omega (arith, long, le, within),
      is ∙ ap (last left) is_last ∙ last-last left (length rest) bs le within ∙ ap (λ (n : ℕ). last n bs) (sym long),
    )

-- the key before the rest
pub key_of : (key : List ℕ) (left : ℕ) (rest : List ℕ) → key ≡ take (length rest - left) rest → left ≤ length rest → key ≡ take (length rest - length (last left rest)) rest
key_of key left rest is le = is ∙ ap (λ (n : ℕ). take (length rest - n) rest) (sym (length-last left rest le))

pub key_at : (key at_value : List ℕ) (left : ℕ) (rest : List ℕ) → key ≡ take (length rest - left) rest → at_value ≡ last left rest → left ≤ length rest → key ≡ take (length rest - length at_value) rest
key_at key at_value left rest is value_is le = is ∙ ap (λ (n : ℕ). take (length rest - n) rest) (sym (ap length value_is ∙ length-last left rest le))

-- what isn't departed has no departure
pub undeparted : (bs : List ℕ) (r : Walk) (left : ℕ) → walk_view bs r ≡ model.departed left → ((left : ℕ) → r ≡ Departed left → ⊥) → ⊥
undeparted bs (Passed k) left is none = cc
undeparted bs (Departed k) left is none = none k refl
undeparted bs Stopped left is none = cc
