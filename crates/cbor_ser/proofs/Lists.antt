-- Lists and maps of documents, one item after the other.
use Rattle.std.proofs.Common.{◌≡◌, ℕ, suc, ◌+◌, ◌<◌, ◌≤◌, List, [], ◌∷◌, length, drop, get_or, refl, sym, ap}
use Rattle.std.proofs.lemmas.List.{drop_all}
use Rattle.cbor_model.specs.Document.{Doc, docs, doc_pairs, doc_count, doc_pair_count}
use Rattle.cbor_model.specs.Parts.{Part, item, in_turn, items}
use Rattle.cbor_ser.proofs.Writing.{cons_at}

pub count_docs : {A : Type 0} (f : A → Doc) (xs : List A) → length xs ≡ doc_count (docs f xs)
count_docs f [] = refl
count_docs f (x ∷ xs) = ap suc (count_docs f xs)

pub count_doc_pairs : {K V : Type 0} (f : K → Doc) (g : V → Doc) (es : List (K × V)) → length es ≡ doc_pair_count (doc_pairs f g es)
count_doc_pairs f g [] = refl
count_doc_pairs f g (e ∷ es) = ap suc (count_doc_pairs f g es)

-- the next item, and then those after it
pub next_item : {A : Type 0} (f : A → Doc) (end : Part) (xs : List A) (i : ℕ) (x : A) → i < length xs → x ≡ get_or xs i x
    → in_turn (item (f x)) (items (docs f (drop (i + 1) xs)) end) ≡ items (docs f (drop i xs)) end
next_item f end xs i x lt is = ap (λ ys. items (docs f ys) end) (sym (cons_at xs i x lt is))

pub no_item : {A : Type 0} (f : A → Doc) (end : Part) (xs : List A) (i : ℕ) → length xs ≤ i → end ≡ items (docs f (drop i xs)) end
no_item f end xs i past = ap (λ ys. items (docs f ys) end) (sym (drop_all i xs past))
