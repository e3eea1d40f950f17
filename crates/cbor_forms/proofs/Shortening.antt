-- Values whose numbers are rewritten, one after the other.
use Rattle.std.proofs.Common.{◌≡◌, ◌∙◌, ℕ, zero, suc, ◌+◌, ◌<◌, ◌≤◌, List, [], ◌∷◌, ◌++◌, length, map}
use Rattle.std.proofs.Common.{take, drop, get_or, refl, sym, ap, ap₂, subst, arith, add-one, drop-cons}
use Rattle.std.specs.Prelude.{Result, Ok, Err, IfErr, IsErrAnd}
use Rattle.std.proofs.Math.Seq.{take-suc}
use Rattle.std.proofs.lemmas.List.{map-append, take_all, drop_all}
use Rattle.cbor_model.specs.Plain.{Val, val, pair}
use Rattle.cbor_io.specs.declared.error.Error.{Error}
use Rattle.cbor_io.specs.declared.error.ErrorCode.{ErrorCode}
use Rattle.cbor_io.specs.declared.error.ErrorCode.TheVariants.{Message, OutOfMemory}
use Rattle.cbor_value.specs.declared.Value.{Value}
use Rattle.cbor_value.specs.View.{view, views, vals_of, pairs_of, pair_views}
use Rattle.cbor_forms.specs.Shortened.{rewritten, all_rewritten, pairs_rewritten}
use Rattle.cbor_forms.specs.Shortened.{Allows, AllowsAll, AllowsPairs}
use Rattle.cbor_forms.specs.Shortened.{IsRefusedBy, IsNotRewritten, SaysReason, IsReasonCode}
use Rattle.cbor_forms.specs.declared.values.Form.{Form}

-- ---- one after the other

abbrev pub both_views : Value × Value → Val × Val
both_views p = (view p.0, view p.1)

abbrev pub other : Form → Value → Val
other form v = rewritten form (view v)

abbrev pub both_other : Form → Value × Value → Val × Val
both_other form p = (rewritten form (view p.0), rewritten form (view p.1))

pub one_more : {A B : Type 0} (f g : A → B) (ys xs : List A) (i : ℕ) (y x : A) → i < length xs
    → x ≡ get_or xs i x → f y ≡ g x → map f ys ≡ map g (take i xs)
    → map f (ys ++ y ∷ []) ≡ map g (take (i + 1) xs)
one_more f g ys xs i y x lt is same before =
    let more : take (i + 1) xs ≡ take i xs ++ x ∷ [] =
    rw add-one (take-suc xs i x lt ∙ ap (λ z. take i xs ++ z ∷ []) (sym is)) in
    map-append f ys (y ∷ [])
    ∙ ap₂ (λ a b. a ++ b ∷ []) before same
    ∙ sym (map-append g (take i xs) (x ∷ []))
    ∙ ap (map g) (sym more)

listed : (form : Form) (xs : List Value)
    → vals_of (map (other form) xs) ≡ all_rewritten form (views xs)
unfolding rewritten
listed form [] = refl
listed form (x ∷ xs) = ap (val (other form x)) (listed form xs)

pairs_listed : (form : Form) (xs : List (Value × Value))
    → pairs_of (map (both_other form) xs) ≡ pairs_rewritten form (pair_views xs)
unfolding rewritten
pairs_listed form [] = refl
pairs_listed form (x ∷ xs) = ap (pair (other form x.0) (other form x.1)) (pairs_listed form xs)

pub all_listed : (form : Form) (ys xs : List Value) (i : ℕ) → length xs ≤ i
    → map view ys ≡ map (other form) (take i xs) → views ys ≡ all_rewritten form (views xs)
all_listed form ys xs i past same =
    ap vals_of (same ∙ ap (map (other form)) (take_all i xs past)) ∙ listed form xs

pub all_pairs_listed : (form : Form) (ys xs : List (Value × Value)) (i : ℕ) → length xs ≤ i
    → map both_views ys ≡ map (both_other form) (take i xs)
    → pair_views ys ≡ pairs_rewritten form (pair_views xs)
all_pairs_listed form ys xs i past same =
    ap pairs_of (same ∙ ap (map (both_other form)) (take_all i xs past)) ∙ pairs_listed form xs

-- ---- keys that stay apart

pub cons_at : {A : Type 0} → (xs : List A) (i : ℕ) (x : A) → i < length xs → x ≡ get_or xs i x
    → drop i xs ≡ x ∷ drop (i + 1) xs
cons_at xs i x lt is =
    rw add-one (drop-cons xs i x lt ∙ ap (λ y. y ∷ drop (suc i) xs) (sym is))

pub allows_at : (form : Form) (vs : List Value) (i : ℕ) (v : Value) → i < length vs
    → v ≡ get_or vs i v → AllowsAll form (views vs) → Allows form (view v)
allows_at form [] i v lt is all = absurd (omega arith)
allows_at form (w ∷ ws) zero v lt is all =
    subst (λ (x : Value). Allows form (view x)) (sym is) all.0
allows_at form (w ∷ ws) (suc i) v lt is all = allows_at form ws i v (omega arith) is all.1

pub allows_from : (form : Form) (vs : List Value) (i : ℕ) (v : Value) → i < length vs
    → v ≡ get_or vs i v → Allows form (view v) → AllowsAll form (views (drop (i + 1) vs))
    → AllowsAll form (views (drop i vs))
allows_from form vs i v lt is here after =
    subst (λ (xs : List Value). AllowsAll form (views xs)) (sym (cons_at vs i v lt is))
    (here, after)

pub allows_none : (form : Form) (vs : List Value) (i : ℕ) → length vs ≤ i
    → AllowsAll form (views (drop i vs))
allows_none form vs i past =
    subst (λ (xs : List Value). AllowsAll form (views xs)) (sym (drop_all i vs past)) tt

pub pair_allows_at : (form : Form) (ps : List (Value × Value)) (i : ℕ) (p : Value × Value)
    → i < length ps → p ≡ get_or ps i p → AllowsPairs form (pair_views ps)
    → Allows form (view p.0) × Allows form (view p.1)
pair_allows_at form [] i p lt is all = absurd (omega arith)
pair_allows_at form (q ∷ qs) zero p lt is all =
    subst (λ (x : Value × Value). Allows form (view x.0) × Allows form (view x.1)) (sym is)
    (all.0, all.1)
pair_allows_at form (q ∷ qs) (suc i) p lt is all =
    pair_allows_at form qs i p (omega arith) is all.2

pub pair_allows_from : (form : Form) (ps : List (Value × Value)) (i : ℕ) (p : Value × Value)
    → i < length ps → p ≡ get_or ps i p → Allows form (view p.0) → Allows form (view p.1)
    → AllowsPairs form (pair_views (drop (i + 1) ps)) → AllowsPairs form (pair_views (drop i ps))
pair_allows_from form ps i p lt is key value after =
    subst (λ (xs : List (Value × Value)). AllowsPairs form (pair_views xs))
    (sym (cons_at ps i p lt is)) (key, value, after)

pub allows_no_pairs : (form : Form) (ps : List (Value × Value)) (i : ℕ) → length ps ≤ i
    → AllowsPairs form (pair_views (drop i ps))
allows_no_pairs form ps i past =
    subst (λ (xs : List (Value × Value)). AllowsPairs form (pair_views xs))
    (sym (drop_all i ps past)) tt

-- ---- refusals

-- what is refused is so with all that it lies in
code_within : (form : Form) (code : ErrorCode) (P Q : Type 0) → (Q → P)
    → IsRefusedBy form code P → IsRefusedBy form code Q
code_within form (Message text) P Q inside refused =
    (refused.0, λ allows. refused.1 (inside allows))
code_within form OutOfMemory P Q inside refused = tt
code_within form _ P Q inside refused = absurd refused

pub refused_within : (form : Form) (e : Error) (P Q : Type 0) → (Q → P)
    → IsNotRewritten form P e → IsNotRewritten form Q e
refused_within form e P Q inside refused =
    (code_within form e.code P Q inside refused.0, refused.1)

code_of_reason : (form : Form) (code : ErrorCode) (P : Type 0) → (P → ⊥)
    → IsReasonCode form code → IsRefusedBy form code P
code_of_reason form (Message text) P not words = (words, not)
code_of_reason form OutOfMemory P not words = tt
code_of_reason form _ P not words = absurd words

pub refused_for : (form : Form) (e : Error) (P : Type 0) → (P → ⊥) → SaysReason form e
    → IsNotRewritten form P e
refused_for form e P not says = (code_of_reason form e.code P not says.0, says.1)

pub refused_at : {T : Type 0} (form : Form) (r : Result T Error) (e : Error) (P Q : Type 0)
    → (Q → P) → IsErrAnd r (λ y. y ≡ e) → IsNotRewritten form P e
    → IfErr r (IsNotRewritten form Q)
refused_at form (Ok x) e P Q inside is refused = tt
refused_at form (Err y) e P Q inside is refused =
    refused_within form y P Q inside (subst (IsNotRewritten form P) (sym is) refused)
