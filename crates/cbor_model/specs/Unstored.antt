-- What stands before the first number that CBOR doesn't store.
use Rattle.std.specs.Prelude.{◌≡◌, ◌⊎◌, ℕ, List, [], ◌++◌, Bool, Some}
use Rattle.cbor_model.specs.Head.{short}
use Rattle.cbor_model.specs.Spelling.{spell}
use Rattle.cbor_model.specs.Canonical.{IsStorableInteger}
use Rattle.cbor_model.specs.Document.{Doc, Docs, DocPairs, Fields, integer, sequence, mapping}
use Rattle.cbor_model.specs.Document.{structure, newtype_variant, tuple_variant, struct_variant}
use Rattle.cbor_model.specs.Document.{tagged, no_docs, doc, no_doc_pairs, doc_pair, no_fields, field}
use Rattle.cbor_model.specs.Document.{identifier, document_bytes, IsStorableDocument, doc_count}
use Rattle.cbor_model.specs.Document.{doc_pair_count, field_count}
use Rattle.cbor_model.specs.Parts.{Part, item, field_part, in_turn, part_bytes, IsStorablePart}
use Rattle.cbor_model.specs.Parts.{array_start, map_start, newtype_start, tuple_start, struct_start}
use Rattle.cbor_model.specs.Parts.{said}

-- the bytes go on after this start, with bytes of this kind
abbrev pub GoesOn : List ℕ → List ℕ → (List ℕ → Type 0) → Type 0
GoesOn start front P = (back : List ℕ) × (front ≡ start ++ back) × P back

-- These bytes stand before the document's first number that isn't stored, by the settings `packed`
-- and `legacy`: all that comes before it is stored.
abbrev mutual
  pub StandsBefore : Doc → Bool → Bool → List ℕ → Type 0
  StandsBefore (integer z) packed legacy front = (IsStorableInteger z → ⊥) × (front ≡ [])
  StandsBefore (sequence l ds) packed legacy front =
      GoesOn (array_start (said l (doc_count ds))) front (StandsBeforeAny ds packed legacy)
  StandsBefore (mapping l ps) packed legacy front =
      GoesOn (map_start (said l (doc_pair_count ps))) front (StandsBeforePairs ps packed legacy)
  StandsBefore (structure fs) packed legacy front =
      GoesOn (map_start (Some (field_count fs))) front (StandsBeforeFields fs packed legacy)
  StandsBefore (newtype_variant i n d) packed legacy front =
      GoesOn (newtype_start i n packed legacy) front (StandsBefore d packed legacy)
  StandsBefore (tuple_variant i n ds) packed legacy front =
      GoesOn (tuple_start i n (doc_count ds) packed legacy) front (StandsBeforeAny ds packed legacy)
  StandsBefore (struct_variant i n fs) packed legacy front =
      GoesOn (struct_start i n packed legacy ++ map_start (Some (field_count fs))) front
      (StandsBeforeFields fs packed legacy)
  StandsBefore (tagged n d) packed legacy front =
      GoesOn (short 6 n) front (StandsBefore d packed legacy)
  StandsBefore _ packed legacy front = ⊥

  pub StandsBeforeAny : Docs → Bool → Bool → List ℕ → Type 0
  StandsBeforeAny no_docs packed legacy front = ⊥
  StandsBeforeAny (doc d ds) packed legacy front = StandsBefore d packed legacy front
      ⊎ (IsStorableDocument d
      × GoesOn (document_bytes d packed legacy) front (StandsBeforeAny ds packed legacy))

  pub StandsBeforePairs : DocPairs → Bool → Bool → List ℕ → Type 0
  StandsBeforePairs no_doc_pairs packed legacy front = ⊥
  StandsBeforePairs (doc_pair k v ps) packed legacy front = StandsBefore k packed legacy front
      ⊎ (IsStorableDocument k
      × GoesOn (document_bytes k packed legacy) front (λ back. StandsBefore v packed legacy back
      ⊎ (IsStorableDocument v
      × GoesOn (document_bytes v packed legacy) back (StandsBeforePairs ps packed legacy))))

  pub StandsBeforeFields : Fields → Bool → Bool → List ℕ → Type 0
  StandsBeforeFields no_fields packed legacy front = ⊥
  StandsBeforeFields (field i n d fs) packed legacy front =
      GoesOn (spell (identifier packed i n)) front (StandsBefore d packed legacy)
      ⊎ (IsStorableDocument d
      × GoesOn (spell (identifier packed i n) ++ document_bytes d packed legacy) front
      (StandsBeforeFields fs packed legacy))

-- what stands before the first number of a part that isn't stored
abbrev pub StandsBeforeIn : Part → Bool → Bool → List ℕ → Type 0
StandsBeforeIn (item d) packed legacy front = StandsBefore d packed legacy front
StandsBeforeIn (field_part i n d) packed legacy front =
    GoesOn (spell (identifier packed i n)) front (StandsBefore d packed legacy)
StandsBeforeIn (in_turn p q) packed legacy front = StandsBeforeIn p packed legacy front
    ⊎ (IsStorablePart p
    × GoesOn (part_bytes p packed legacy) front (StandsBeforeIn q packed legacy))
StandsBeforeIn _ packed legacy front = ⊥
