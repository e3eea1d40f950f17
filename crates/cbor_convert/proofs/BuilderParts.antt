-- One part more in a builder.
use Rattle.std.proofs.Common.{◌≡◌, ℕ, List, [], ◌∷◌, ◌++◌, refl, ap, sym, ◌∙◌, Option, Some}
use Rattle.std.specs.Option.{option_map}
use Rattle.cbor_model.specs.Plain.{Val, Vals, no_vals, val, Pairs, no_pairs, pair}
use Rattle.cbor_model.specs.Document.{Doc, Docs, no_docs, doc, DocPairs, no_doc_pairs, doc_pair, Fields, no_fields, field, AreStorableDocuments, AreStorableDocumentPairs, AreStorableFields, IsStorableDocument}
use Rattle.cbor_value.specs.declared.Value.{Value}
use Rattle.cbor_value.specs.View.{view, views, pair_views}
use Rattle.cbor_convert.specs.Meaning.{value_of, values_of}
use Rattle.std.specs.Prelude.{Result, Ok, Err, MatchResult}
use Rattle.cbor_io.specs.declared.error.Error.{Error}
use Rattle.cbor_convert.specs.declared.variants.SerializeTupleVariant.{SerializeTupleVariant}
use Rattle.cbor_convert.specs.declared.variants.SerializeStructVariant.{SerializeStructVariant}
use Rattle.cbor_convert.specs.Builders.{HoldsItems, Lists, HoldsParts, HoldsFields, doc_values, by_names, push_doc, push_pair}
use Rattle.cbor_convert.proofs.Meanings.{values_none, values_doc}

-- ---- values

abbrev push_val : Vals → Val → Vals
push_val no_vals v = val v no_vals
push_val (val w vs) v = val w (push_val vs v)

views_push : (vs : List Value) (v : Value) → views (vs ++ v ∷ []) ≡ push_val (views vs) (view v)
views_push [] v = refl
views_push (w ∷ vs) v = ap (val (view w)) (views_push vs v)

values_push : (ds : Docs) (d : Doc) → values_of (push_doc ds d) ≡ push_val (values_of ds) (value_of d)
values_push no_docs d = values_doc d no_docs ∙ ap (val (value_of d)) values_none ∙ ap (λ (vs : Vals). push_val vs (value_of d)) (sym values_none)
values_push (doc e ds) d = values_doc e (push_doc ds d) ∙ ap (val (value_of e)) (values_push ds d) ∙ ap (λ (vs : Vals). push_val vs (value_of d)) (sym (values_doc e ds))

pub item_held : (ds : Docs) (d : Doc) (vs ws : List Value) (v : Value) → ws ≡ vs ++ v ∷ [] → view v ≡ value_of d → views vs ≡ values_of ds → views ws ≡ values_of (push_doc ds d)
item_held ds d vs ws v pushed is held =
    ap views pushed ∙ views_push vs v ∙ ap (push_val (views vs)) is ∙ ap (λ (us : Vals). push_val us (value_of d)) held ∙ sym (values_push ds d)

pub items_stored : (ds : Docs) (d : Doc) → AreStorableDocuments ds → IsStorableDocument d → AreStorableDocuments (push_doc ds d)
items_stored no_docs d all one = (one, tt)
items_stored (doc e ds) d all one = (all.0, items_stored ds d all.1 one)

-- ---- keys and values

abbrev push_vals : Pairs → Val → Val → Pairs
push_vals no_pairs k v = pair k v no_pairs
push_vals (pair l w ps) k v = pair l w (push_vals ps k v)

pair_views_push : (ps : List (Value × Value)) (k v : Value) → pair_views (ps ++ (k, v) ∷ []) ≡ push_vals (pair_views ps) (view k) (view v)
pair_views_push [] k v = refl
pair_views_push (p ∷ ps) k v = ap (pair (view p.0) (view p.1)) (pair_views_push ps k v)

both_same : (a b c d : Val) (ps : Pairs) → a ≡ c → b ≡ d → push_vals ps a b ≡ push_vals ps c d
both_same a b c d ps one two = ap (λ (x : Val). push_vals ps x b) one ∙ ap (push_vals ps c) two

doc_values_push : (ps : DocPairs) (k v : Doc) → doc_values (push_pair ps k v) ≡ push_vals (doc_values ps) (value_of k) (value_of v)
doc_values_push no_doc_pairs k v = refl
doc_values_push (doc_pair l w ps) k v = ap (pair (value_of l) (value_of w)) (doc_values_push ps k v)

pub pair_held : (ps : DocPairs) (k d : Doc) (qs rs : List (Value × Value)) (key v : Value) → rs ≡ qs ++ (key, v) ∷ [] → view key ≡ value_of k → view v ≡ value_of d → pair_views qs ≡ doc_values ps → pair_views rs ≡ doc_values (push_pair ps k d)
pair_held ps k d qs rs key v pushed one two held =
    ap pair_views pushed ∙ pair_views_push qs key v ∙ both_same _ _ _ _ (pair_views qs) one two ∙ ap (λ (us : Pairs). push_vals us (value_of k) (value_of d)) held ∙ sym (doc_values_push ps k d)

pub pairs_stored : (ps : DocPairs) (k d : Doc) → AreStorableDocumentPairs ps → IsStorableDocument k → IsStorableDocument d → AreStorableDocumentPairs (push_pair ps k d)
pairs_stored no_doc_pairs k d all key one = (key, one, tt)
pairs_stored (doc_pair l w ps) k d all key one = (all.0, all.1, pairs_stored ps k d all.2 key one)

pub named_stored : (fs : Fields) → AreStorableDocumentPairs (by_names fs) → AreStorableFields fs
named_stored no_fields h = tt
named_stored (field i n d fs) h = (h.1, named_stored fs h.2)

-- the key that was waiting
pub key_is : (o : Option Value) (key : Value) (k : Doc) → o ≡ Some key → option_map view o ≡ Some (value_of k) → view key ≡ value_of k
key_is o key k is held = let same : Some (view key) ≡ Some (value_of k) = sym (ap (option_map view) is) ∙ held in cc

-- ---- of a variant

pub parts_held : (n : List ℕ) (ds es : Docs) (b : SerializeTupleVariant) (r : Result (Unit {0}) Error) → b.variant.now ≡ n
    → MatchResult r (λ _. HoldsItems es b.parts) (λ _. HoldsItems ds b.parts) → MatchResult r (λ _. HoldsParts n es b) (λ _. HoldsParts n ds b)
parts_held n ds es b (Ok x) name h = record { name = name; parts = h }
parts_held n ds es b (Err e) name h = record { name = name; parts = h }

pub fields_held : (n : List ℕ) (ps qs : DocPairs) (b : SerializeStructVariant) (r : Result (Unit {0}) Error) → b.variant.now ≡ n
    → MatchResult r (λ _. Lists qs b.fields) (λ _. Lists ps b.fields) → MatchResult r (λ _. HoldsFields n qs b) (λ _. HoldsFields n ps b)
fields_held n ps qs b (Ok x) name h = record { name = name; fields = h }
fields_held n ps qs b (Err e) name h = record { name = name; fields = h }
