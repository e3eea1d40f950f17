-- What the builders of values hold.
use Rattle.std.specs.Prelude.{◌≡◌, ℕ, List, None, Some, IsSome}
use Rattle.std.specs.Option.{option_map}
use Rattle.cbor_model.specs.Plain.{Pairs, no_pairs, pair}
use Rattle.cbor_model.specs.Document.{Doc, Docs, no_docs, doc, DocPairs, no_doc_pairs, doc_pair}
use Rattle.cbor_model.specs.Document.{Fields, no_fields, field, text, IsStorableDocument}
use Rattle.cbor_model.specs.Document.{AreStorableDocuments, AreStorableDocumentPairs}
use Rattle.cbor_value.specs.View.{view, views, pair_views}
use Rattle.cbor_convert.specs.Meaning.{value_of, values_of}
use Rattle.cbor_convert.specs.declared.list.SerializeVec.{SerializeVec}
use Rattle.cbor_convert.specs.declared.map.SerializeMap.{SerializeMap}
use Rattle.cbor_convert.specs.declared.pairs.PairList.{PairList}
use Rattle.cbor_convert.specs.declared.variants.SerializeTupleVariant.{SerializeTupleVariant}
use Rattle.cbor_convert.specs.declared.variants.SerializeStructVariant.{SerializeStructVariant}

-- ---- one more at the end

abbrev pub push_doc : Docs → Doc → Docs
push_doc no_docs d = doc d no_docs
push_doc (doc e ds) d = doc e (push_doc ds d)

abbrev pub push_pair : DocPairs → Doc → Doc → DocPairs
push_pair no_doc_pairs k v = doc_pair k v no_doc_pairs
push_pair (doc_pair l w ps) k v = doc_pair l w (push_pair ps k v)

-- ---- maps

-- the values of keys and values, one after the other
abbrev pub doc_values : DocPairs → Pairs
doc_values no_doc_pairs = no_pairs
doc_values (doc_pair k v ps) = pair (value_of k) (value_of v) (doc_values ps)

-- fields by their names
abbrev pub by_names : Fields → DocPairs
by_names no_fields = no_doc_pairs
by_names (field i n d fs) = doc_pair (text n) d (by_names fs)

-- a pair or the end is due
abbrev pub AwaitsKey : SerializeMap → Type 0
AwaitsKey b = b.key ≡ None

-- a value is due
abbrev pub AwaitsValue : SerializeMap → Type 0
AwaitsValue b = IsSome b.key

-- ---- what a builder holds

-- the values of these documents
pub record HoldsItems (ds : Docs) (b : SerializeVec) : Type 0 where
  pub values : views b.items.items ≡ values_of ds
  pub storable : AreStorableDocuments ds

-- the values of these keys and values
pub record Lists (ps : DocPairs) (list : PairList) : Type 0 where
  pub values : pair_views list.pairs.items ≡ doc_values ps
  pub storable : AreStorableDocumentPairs ps

abbrev pub HoldsPairs : DocPairs → SerializeMap → Type 0
HoldsPairs ps b = Lists ps b.list

-- and that of a key, which waits for its value
pub record HoldsKey (ps : DocPairs) (k : Doc) (b : SerializeMap) : Type 0 where
  pub before : HoldsPairs ps b
  pub key : option_map view b.key ≡ Some (value_of k)
  pub storable : IsStorableDocument k

-- a variant of this name, and the values of its parts
pub record HoldsParts (n : List ℕ) (ds : Docs) (b : SerializeTupleVariant) : Type 0 where
  pub name : b.variant.now ≡ n
  pub parts : HoldsItems ds b.parts

-- a variant of this name, and its fields
pub record HoldsFields (n : List ℕ) (ps : DocPairs) (b : SerializeStructVariant) : Type 0 where
  pub name : b.variant.now ≡ n
  pub fields : Lists ps b.fields
