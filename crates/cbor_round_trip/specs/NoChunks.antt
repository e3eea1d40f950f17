-- Documents whose items hold no string in chunks: those that hold no such item of another encoder.
use Rattle.std.specs.Prelude.{◌≡◌}
use Rattle.cbor_model.specs.Document.{Doc, Docs, DocPairs, Fields, sequence, mapping, structure}
use Rattle.cbor_model.specs.Document.{newtype_variant, tuple_variant, struct_variant, tagged, encoded}
use Rattle.cbor_model.specs.Document.{no_docs, doc, no_doc_pairs, doc_pair, no_fields, field}
use Rattle.cbor_model.specs.Raw.{longest_joined}

-- nothing is joined of what was encoded elsewhere
abbrev mutual
  pub HasNoChunks : Doc → Type 0
  HasNoChunks (sequence l ds) = HaveNoChunks ds
  HasNoChunks (mapping l ps) = PairsHaveNoChunks ps
  HasNoChunks (structure fs) = FieldsHaveNoChunks fs
  HasNoChunks (newtype_variant i n d) = HasNoChunks d
  HasNoChunks (tuple_variant i n ds) = HaveNoChunks ds
  HasNoChunks (struct_variant i n fs) = FieldsHaveNoChunks fs
  HasNoChunks (tagged n d) = HasNoChunks d
  HasNoChunks (encoded r) = longest_joined r ≡ 0
  HasNoChunks _ = Unit {0}

  pub HaveNoChunks : Docs → Type 0
  HaveNoChunks no_docs = Unit {0}
  HaveNoChunks (doc d ds) = HasNoChunks d × HaveNoChunks ds

  pub PairsHaveNoChunks : DocPairs → Type 0
  PairsHaveNoChunks no_doc_pairs = Unit {0}
  PairsHaveNoChunks (doc_pair k v ps) = HasNoChunks k × HasNoChunks v × PairsHaveNoChunks ps

  pub FieldsHaveNoChunks : Fields → Type 0
  FieldsHaveNoChunks no_fields = Unit {0}
  FieldsHaveNoChunks (field i n d fs) = HasNoChunks d × FieldsHaveNoChunks fs
