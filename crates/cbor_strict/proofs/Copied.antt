-- Copies of lemmas that are private below.
use Rattle.std.proofs.Common.{◌≡◌, ℕ, ◌+◌, ◌*◌, ◌≤◌, Bool, true, false, cond, eqb, ltb, List, ◌∷◌, ◌++◌, length, refl, sym, ap, ◌∙◌, append_assoc, arith, Ordering}
use Rattle.std.specs.Int.{Width, w8, w16, w32, w64, byte_len}
use Rattle.std.proofs.lemmas.List.{length-drop}
use Rattle.cbor_model.specs.Head.{HeadWidth, info, head, behind, least}
use Rattle.cbor_model.specs.Acceptable.{IsAcceptable}
use Rattle.cbor_model.specs.Canonical.{KeysAscend, IsOrdered, canonical, canon}
use Rattle.cbor_model.specs.Laws.{SpellsValue}
use Rattle.cbor_model.specs.Order.{val_cmp}
use Rattle.cbor_model.specs.Plain.{Val, Pairs, no_pairs, pair}
use Rattle.cbor_model.specs.Reader.{Reads, number_at, number_behind}
use Rattle.cbor_model.specs.Value.{put, by_order}
use Rattle.cbor_model.proofs.order.HeadOrder.{least-cases}
use Rattle.cbor_model.proofs.order.Pairs.{Less-trans, Greater-from_Less}
use Rattle.cbor_model.proofs.values.ReadsBack.{followed_by, reads_back}
use Rattle.cbor_model.proofs.reader.BytesTaken.{Leaves}
use Rattle.cbor_strict.specs.Departure.{floor}
use Rattle.std.specs.declared.cmp.Ordering.TheVariants.{Less}

pub followed_by-none : (ps : Pairs) → followed_by ps no_pairs ≡ ps
followed_by-none no_pairs = refl
followed_by-none (pair k v ps) = ap (pair k v) (followed_by-none ps)

pub followed_by_assoc : (ps qs rs : Pairs) → followed_by (followed_by ps qs) rs ≡ followed_by ps (followed_by qs rs)
followed_by_assoc no_pairs qs rs = refl
followed_by_assoc (pair k v ps) qs rs = ap (pair k v) (followed_by_assoc ps qs rs)

-- the first of ascending keys is less than each later one
pub first_less : (l w k v : Val) (before ps : Pairs) → KeysAscend (pair l w (followed_by before (pair k v ps))) → val_cmp l k ≡ Less
first_less l w k v no_pairs ps ascend = ascend.0
first_less l w k v (pair m x before) ps ascend = Less-trans l m k ascend.0 (first_less m x k v before ps ascend.1)

-- a key above all the others goes to the end
pub put-last : (k v : Val) (before ps : Pairs) → KeysAscend (followed_by before (pair k v ps)) → put k v before ≡ followed_by before (pair k v no_pairs)
put-last k v no_pairs ps ascend = refl
put-last k v (pair l w before) ps ascend =
    let above = Greater-from_Less l k (first_less l w k v before ps ascend) in
    ap (λ (o : Ordering). by_order o (pair k v (pair l w before)) (pair k v before) (pair l w (put k v before))) above
    ∙ ap (pair l w) (put-last k v before ps ascend.1)

pub floor-least-le : (n : ℕ) → floor (least n) ≤ n
floor-least-le n = least-cases (λ w. floor w ≤ n) n (omega arith) (λ a. a) (λ b. b) (λ c. c) (λ d. d)

-- two parts, one after the other
pub two_parts : (bs a more b rest : List ℕ) → bs ≡ a ++ more → more ≡ b ++ rest → bs ≡ (a ++ b) ++ rest
two_parts bs a more b rest first second = first ∙ ap (λ (t : List ℕ). a ++ t) second ∙ sym (append_assoc a b rest)

-- the head of this major type, and what stands after its first byte
pub whole_head : (major low n : ℕ) (w : HeadWidth) (bs rest : List ℕ) → low ≡ info w n
    → bs ≡ behind w n ++ rest → ((32 * major + low) ∷ bs) ≡ head major w n ++ rest
whole_head major low n w bs rest low_is parts =
    ap (λ (i : ℕ). (32 * major + i) ∷ bs) low_is ∙ ap (λ (t : List ℕ). (32 * major + info w n) ∷ t) parts

Leaves-cond : {A : Type 0} (n : ℕ) (b : Bool) (x y : Reads A) → Leaves n x → Leaves n y → Leaves n (cond b x y)
Leaves-cond n true x y one other = one
Leaves-cond n false x y one other = other

number_leaves : (w : Width) (n : ℕ) (bs : List ℕ) → length bs ≤ n → Leaves n (number_at w bs)
number_leaves w n bs few = Leaves-cond n (ltb (length bs) (byte_len w)) _ _ tt (omega (arith, length-drop (byte_len w) bs))

pub number_behind_leaves : (low n : ℕ) (bs : List ℕ) → length bs ≤ n → Leaves n (number_behind low bs)
unfolding number_behind
number_behind_leaves low n bs few =
    Leaves-cond n (ltb low 24) _ _ few
    (Leaves-cond n (eqb low 24) _ _ (number_leaves w8 n bs few)
    (Leaves-cond n (eqb low 25) _ _ (number_leaves w16 n bs few)
    (Leaves-cond n (eqb low 26) _ _ (number_leaves w32 n bs few)
    (Leaves-cond n (eqb low 27) _ _ (number_leaves w64 n bs few) tt))))

pub spells_canon : (v : Val) → IsOrdered v → IsAcceptable (canonical v) → SpellsValue (canon v) v
unfolding canon
spells_canon v ordered good = record { item = canonical v; acceptable = good; spelled = refl; valued = sym (reads_back v ordered) }
