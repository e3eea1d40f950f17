-- Values and their pairs as documents, one after the other.
use Rattle.std.proofs.Common.{◌≡◌, ◌∙◌, ℕ, ◌+◌, ◌<◌, ◌≤◌, List, length, drop, get_or, Some, sym, ap}
use Rattle.std.proofs.lemmas.List.{drop_all}
use Rattle.cbor_model.specs.Plain.{Pairs, pair_count}
use Rattle.cbor_model.specs.Document.{document_of, documents_of, document_pairs_of, doc_count, doc_pair_count}
use Rattle.cbor_model.specs.Parts.{item, in_turn, array_head, map_head, items, pairs, ending}
use Rattle.cbor_model.proofs.facts.Documents.{documents_counted, pairs_counted}
use Rattle.cbor_value.specs.declared.Value.{Value}
use Rattle.cbor_value.specs.View.{view, views, pair_views}
use Rattle.cbor_value.proofs.facts.Views.{count_views}
use Rattle.cbor_ser.proofs.Writing.{cons_at}

pub list_head : (vs : List Value) → array_head (Some (length vs)) ≡ array_head (Some (doc_count (documents_of (views vs))))
list_head vs = ap (λ n. array_head (Some n)) (sym (documents_counted (views vs) ∙ count_views vs))

pub pairs_head : (ps : Pairs) (n : ℕ) → n ≡ pair_count ps → map_head (Some n) ≡ map_head (Some (doc_pair_count (document_pairs_of ps)))
pairs_head ps n counted = ap (λ n. map_head (Some n)) (counted ∙ sym (pairs_counted ps))

pub next_value : (vs : List Value) (i : ℕ) (v : Value) → i < length vs → v ≡ get_or vs i v
    → in_turn (item (document_of (view v))) (items (documents_of (views (drop (i + 1) vs))) (ending (Some 0))) ≡ items (documents_of (views (drop i vs))) (ending (Some 0))
unfolding document_of
next_value vs i v lt is = ap (λ (xs : List Value). items (documents_of (views xs)) (ending (Some 0))) (sym (cons_at vs i v lt is))

pub no_value : (vs : List Value) (i : ℕ) → length vs ≤ i → ending (Some 0) ≡ items (documents_of (views (drop i vs))) (ending (Some 0))
unfolding document_of
no_value vs i past = ap (λ (xs : List Value). items (documents_of (views xs)) (ending (Some 0))) (sym (drop_all i vs past))

pub next_pair : (ps : List (Value × Value)) (i : ℕ) (p : Value × Value) → i < length ps → p ≡ get_or ps i p
    → in_turn (item (document_of (view p.0))) (in_turn (item (document_of (view p.1))) (pairs (document_pairs_of (pair_views (drop (i + 1) ps))) (ending (Some 0)))) ≡ pairs (document_pairs_of (pair_views (drop i ps))) (ending (Some 0))
unfolding document_of
next_pair ps i p lt is = ap (λ (xs : List (Value × Value)). pairs (document_pairs_of (pair_views xs)) (ending (Some 0))) (sym (cons_at ps i p lt is))

pub no_pair : (ps : List (Value × Value)) (i : ℕ) → length ps ≤ i → ending (Some 0) ≡ pairs (document_pairs_of (pair_views (drop i ps))) (ending (Some 0))
unfolding document_of
no_pair ps i past = ap (λ (xs : List (Value × Value)). pairs (document_pairs_of (pair_views xs)) (ending (Some 0))) (sym (drop_all i ps past))
