-- What is left in a sink before the first number of a value that isn't stored.
use Rattle.std.proofs.Common.{◌≡◌, ◌⊎◌, inl, inr, ℕ, ℤ, ◌+◌, ◌<◌, ◌≤◌, Bool, List, [], length, drop, get_or, Option, refl, sym, ap, subst, ◌∙◌}
use Rattle.std.proofs.lemmas.List.{drop_all}
use Rattle.std.specs.Io.KnownBytes.{Appends}
use Rattle.std.proofs.KnownBytes.{Appends-nil}
use Rattle.cbor_model.specs.Head.{short}
use Rattle.cbor_model.specs.Plain as plain
use Rattle.cbor_model.specs.Plain.{Val, Pairs, pair_count}
use Rattle.cbor_model.specs.Canonical.{canon, IsStorable, IsStorableInteger}
use Rattle.cbor_model.specs.Document.{Doc, document_of, documents_of, document_pairs_of, document_bytes, doc_count, doc_pair_count, IsStorableDocument}
use Rattle.cbor_model.specs.Unstored.{StandsBefore, StandsBeforeAny, StandsBeforePairs, GoesOn}
use Rattle.cbor_model.proofs.facts.Documents.{document_is_canonical, storable_document, all_stored, documents_counted, pairs_counted}
use Rattle.cbor_io.specs.Write.{AppendsBeginning}
use Rattle.cbor_value.specs.declared.Value.{Value}
use Rattle.cbor_value.specs.View.{view, views, pair_views}
use Rattle.cbor_value.proofs.facts.Views.{count_views}
use Rattle.cbor_ser.specs.Serialized.{EndsBefore}
use Rattle.cbor_ser.proofs.Beginnings.{began_more, began_then}
use Rattle.cbor_ser.proofs.Writing.{cons_at}

-- Some of the bytes stand in the sink, and the others are still to come before such a number.
pub record Later (P : List ℕ → Type 0) (old : Option (List ℕ)) (front : List ℕ) (now : Option (List ℕ)) : Type 0 where
  pub back : List ℕ
  pub stands : P back
  pub left : (new : Option (List ℕ)) → AppendsBeginning back now new → AppendsBeginning front old new

pub at_first : (P : List ℕ → Type 0) (old : Option (List ℕ)) (front : List ℕ) → P front → Later P old front old
at_first P old front h = record { back = front; stands = h; left = λ new x. x }

-- ---- a number, and what follows a head

pub integer_before : {W : Type 0} (written : W → Option (List ℕ)) (z : ℤ) (old new : W) → ((IsStorableInteger z → ⊥) → new ≡ old) → EndsBefore (document_of (plain.integer z)) (written old) (written new)
unfolding document_of
integer_before {W = W} written z old new kept p l front h =
    subst (λ (bs : List ℕ). AppendsBeginning bs (written old) (written new)) (sym h.1)
    (subst (λ (w : W). AppendsBeginning [] (written old) (written w)) (sym (kept h.0))
    (record { front = []; rest = []; whole = refl; written = Appends-nil (written old) }))

module _ (P : List ℕ → Type 0) where
  pub head_stopped : (old new : Option (List ℕ)) (start front : List ℕ) → AppendsBeginning start old new → GoesOn start front P → AppendsBeginning front old new
  head_stopped old new start front a h = subst (λ (bs : List ℕ). AppendsBeginning bs old new) (sym h.1) (began_more h.0 a)

  pub head_then : (old mid new : Option (List ℕ)) (start front : List ℕ) → Appends old mid start → ((back : List ℕ) → P back → AppendsBeginning back mid new) → GoesOn start front P → AppendsBeginning front old new
  head_then old mid new start front a next h =
      subst (λ (bs : List ℕ). AppendsBeginning bs old new) (sym h.1) (began_then old mid new start h.0 a (next h.0 h.2))

  other_start : (start other front : List ℕ) → start ≡ other → GoesOn start front P → GoesOn other front P
  other_start start other front same h = subst (λ (s : List ℕ). GoesOn s front P) same h

pub tag_goes_on : (n : ℕ) (v : Val) (p l : Bool) (front : List ℕ) → StandsBefore (document_of (plain.tag n v)) p l front → GoesOn (short 6 n) front (StandsBefore (document_of v) p l)
unfolding document_of
tag_goes_on n v p l front h = h

pub array_goes_on : (vs : List Value) (p l : Bool) (front : List ℕ) → StandsBefore (document_of (plain.array (views vs))) p l front → GoesOn (short 4 (length vs)) front (StandsBeforeAny (documents_of (views vs)) p l)
unfolding document_of
array_goes_on vs p l front h =
    other_start (StandsBeforeAny (documents_of (views vs)) p l) (short 4 (doc_count (documents_of (views vs)))) (short 4 (length vs)) front
    (ap (λ (n : ℕ). short 4 n) (documents_counted (views vs) ∙ count_views vs)) h

pub map_goes_on : (ps : Pairs) (n : ℕ) (p l : Bool) (front : List ℕ) → n ≡ pair_count ps → StandsBefore (document_of (plain.map ps)) p l front → GoesOn (short 5 n) front (StandsBeforePairs (document_pairs_of ps) p l)
unfolding document_of
map_goes_on ps n p l front counted h =
    other_start (StandsBeforePairs (document_pairs_of ps) p l) (short 5 (doc_pair_count (document_pairs_of ps))) (short 5 n) front
    (ap (λ (k : ℕ). short 5 k) (pairs_counted ps ∙ sym counted)) h

-- ---- one document, and then others

abbrev First : Doc → Bool → Bool → (List ℕ → Type 0) → List ℕ → Type 0
First d p l P front = StandsBefore d p l front ⊎ (IsStorableDocument d × GoesOn (document_bytes d p l) front P)

module _ (v : Val) (p l : Bool) (P : List ℕ → Type 0) (old now new : Option (List ℕ)) (front : List ℕ) where
  pub passed : IsStorable v → Appends now new (canon v) → Later (First (document_of v) p l P) old front now → Later P old front new
  passed s a h =
      let bytes = document_bytes (document_of v) p l in
      let added : Appends now new bytes = subst (λ (bs : List ℕ). Appends now new bs) (sym (document_is_canonical v p l)) a in
      elim h.stands [
        | inl x ↦ absurd (all_stored (document_of v) p l h.back (storable_document v s) x)
        | inr y ↦ record {
          back = y.1.0;
          stands = y.1.2;
          left = λ next more. h.left next (subst (λ (bs : List ℕ). AppendsBeginning bs now next) (sym y.1.1) (began_then now new next bytes y.1.0 added more));
        }
      ]

  pub refused : EndsBefore (document_of v) now new → AppendsBeginning (canon v) now new → Later (First (document_of v) p l P) old front now → AppendsBeginning front old new
  refused ends a h =
      let bytes = document_bytes (document_of v) p l in
      let began : AppendsBeginning bytes now new = subst (λ (bs : List ℕ). AppendsBeginning bs now new) (sym (document_is_canonical v p l)) a in
      h.left new (elim h.stands [
        | inl x ↦ ends p l h.back x
        | inr y ↦ subst (λ (bs : List ℕ). AppendsBeginning bs now new) (sym y.1.1) (began_more y.1.0 began)
      ])

pub first_item : (vs : List Value) (i : ℕ) (v : Value) (p l : Bool) (old now : Option (List ℕ)) (front : List ℕ) → i < length vs → v ≡ get_or vs i v
    → Later (StandsBeforeAny (documents_of (views (drop i vs))) p l) old front now
    → Later (First (document_of (view v)) p l (StandsBeforeAny (documents_of (views (drop (i + 1) vs))) p l)) old front now
unfolding document_of
first_item vs i v p l old now front lt is h = subst (λ (xs : List Value). Later (StandsBeforeAny (documents_of (views xs)) p l) old front now) (cons_at vs i v lt is) h

pub no_items_left : (vs : List Value) (i : ℕ) (p l : Bool) (old now : Option (List ℕ)) (front : List ℕ) → length vs ≤ i → Later (StandsBeforeAny (documents_of (views (drop i vs))) p l) old front now → ⊥
unfolding document_of
no_items_left vs i p l old now front past h =
    let none : Later (StandsBeforeAny (documents_of (views [])) p l) old front now =
    subst (λ (xs : List Value). Later (StandsBeforeAny (documents_of (views xs)) p l) old front now) (drop_all i vs past) h in
    none.stands

abbrev pub Behind : Val → Bool → Bool → (List ℕ → Type 0) → List ℕ → Type 0
Behind v p l P = First (document_of v) p l P

pub first_pair : (ps : List (Value × Value)) (i : ℕ) (e : Value × Value) (p l : Bool) (old now : Option (List ℕ)) (front : List ℕ) → i < length ps → e ≡ get_or ps i e
    → Later (StandsBeforePairs (document_pairs_of (pair_views (drop i ps))) p l) old front now
    → Later (Behind (view e.0) p l (Behind (view e.1) p l (StandsBeforePairs (document_pairs_of (pair_views (drop (i + 1) ps))) p l))) old front now
unfolding document_of
first_pair ps i e p l old now front lt is h = subst (λ (xs : List (Value × Value)). Later (StandsBeforePairs (document_pairs_of (pair_views xs)) p l) old front now) (cons_at ps i e lt is) h

pub no_pairs_left : (ps : List (Value × Value)) (i : ℕ) (p l : Bool) (old now : Option (List ℕ)) (front : List ℕ) → length ps ≤ i → Later (StandsBeforePairs (document_pairs_of (pair_views (drop i ps))) p l) old front now → ⊥
unfolding document_of
no_pairs_left ps i p l old now front past h =
    let none : Later (StandsBeforePairs (document_pairs_of (pair_views [])) p l) old front now =
    subst (λ (xs : List (Value × Value)). Later (StandsBeforePairs (document_pairs_of (pair_views xs)) p l) old front now) (drop_all i ps past) h in
    none.stands
