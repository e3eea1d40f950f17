-- The values of documents, kind by kind.
use Rattle.std.proofs.Common.{◌≡◌, ℕ, List, false, refl, ap}
use Rattle.cbor_model.specs.Plain as plain
use Rattle.cbor_model.specs.Plain.{no_vals, val, Pairs, no_pairs, pair}
use Rattle.cbor_model.specs.Value.{value, pairs, put}
use Rattle.cbor_model.specs.FiniteMap.{put_all}
use Rattle.cbor_model.specs.Document.{Doc, Docs, no_docs, doc, DocPairs, no_doc_pairs, doc_pair, Fields, no_fields, field, Length, text, sequence, mapping, structure, tuple_variant, struct_variant, raw_of, raw_pairs_of, raw_fields_of}
use Rattle.cbor_convert.specs.Meaning.{value_of, values_of}
use Rattle.cbor_convert.specs.Builders.{doc_values, by_names}

pub value_text : (b : List ℕ) → value_of (text b) ≡ plain.text b
unfolding value_of value raw_of
value_text b = refl

pub values_none : values_of no_docs ≡ no_vals
unfolding values_of value raw_of
values_none = refl

pub values_doc : (d : Doc) (ds : Docs) → values_of (doc d ds) ≡ val (value_of d) (values_of ds)
unfolding value_of values_of value raw_of
values_doc d ds = refl

pub value_sequence : (l : Length) (ds : Docs) → value_of (sequence l ds) ≡ plain.array (values_of ds)
unfolding value_of values_of value raw_of
value_sequence l ds = refl

pairs_put : (ps : DocPairs) (before : Pairs) → pairs (raw_pairs_of ps false false) before ≡ put_all (doc_values ps) before
unfolding value_of value raw_of
pairs_put no_doc_pairs before = refl
pairs_put (doc_pair k v ps) before = pairs_put ps (put (value_of k) (value_of v) before)

pub value_mapping : (l : Length) (ps : DocPairs) → value_of (mapping l ps) ≡ plain.map (put_all (doc_values ps) no_pairs)
unfolding value_of value raw_of
value_mapping l ps = ap plain.map (pairs_put ps no_pairs)

fields_put : (fs : Fields) (before : Pairs) → pairs (raw_fields_of fs false false) before ≡ put_all (doc_values (by_names fs)) before
unfolding value_of value raw_of
fields_put no_fields before = refl
fields_put (field i n d fs) before = fields_put fs (put (value_of (text n)) (value_of d) before)

pub value_structure : (fs : Fields) → value_of (structure fs) ≡ plain.map (put_all (doc_values (by_names fs)) no_pairs)
unfolding value_of value raw_of
value_structure fs = ap plain.map (fields_put fs no_pairs)

pub value_tuple : (i : ℕ) (n : List ℕ) (ds : Docs) → value_of (tuple_variant i n ds) ≡ plain.map (pair (plain.text n) (plain.array (values_of ds)) no_pairs)
unfolding value_of values_of value raw_of
value_tuple i n ds = refl

pub value_struct : (i : ℕ) (n : List ℕ) (fs : Fields) → value_of (struct_variant i n fs) ≡ plain.map (pair (plain.text n) (value_of (structure fs)) no_pairs)
unfolding value_of value raw_of
value_struct i n fs = refl
