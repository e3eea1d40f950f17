-- A struct is read as it was where a pair more stands in its map, whose key names none of its fields.
use Rattle.std.proofs.Common.{◌≡◌, ◌∙◌, ℕ, suc, List, [], ◌∷◌, Some, None, inl, inr, sym, subst}
use Rattle.cbor_decode_as.specs.Identifiers.{IsFirst, IsIdentifier, IsPlace}
use Rattle.cbor_model.specs.Raw as raw
use Rattle.cbor_model.specs.Raw.{Raw, RawPairs, Length, map}
use Rattle.cbor_model.specs.Readable.{untagged}
use Rattle.cbor_de.specs.Structs.{Absent, AreFields, IsField, FieldOf, HasFields, IfAbsent, IsFieldOr, IsStruct, Once, refused, taken}
use Rattle.cbor_de.specs.declared.field.Field.TheVariants.{Unknown}
use Rattle.cbor_de.specs.NewFields.{HasNewField, here, later}

module _ (names : List (List ℕ)) where
  no_place : (i : ℕ) (content b c : List ℕ) → content ≡ b → IsPlace names b None → content ≡ c → IsFirst names c i → ⊥
  no_place i content b c is none other first = none i (subst (λ (n : List ℕ). IsFirst names n i) (sym other ∙ is) first)

  not_known : (r : Raw) (i : ℕ) → IsIdentifier names r None → IsIdentifier names r (Some i) → ⊥
  not_known (raw.unsigned w n) i none some = let e = none ∙ sym some in absurd cc
  not_known (raw.bytes c) i none some = no_place i c.bytes none.0 some.0 none.1 none.2 some.1 some.2
  not_known (raw.text c) i none some = no_place i c.bytes none.0 some.0 none.1 none.2 some.1 some.2
  not_known (raw.bytes_chunks cs) i none some = no_place i (raw.joined cs) none.0 some.0 none.1 none.2 some.1 some.2
  not_known (raw.text_chunks cs) i none some = no_place i (raw.joined cs) none.0 some.0 none.1 none.2 some.1 some.2
  not_known (raw.negative w n) i none some = absurd none
  not_known _ i none some = absurd none.1

  keys : {ps qs : RawPairs} → HasNewField names ps qs → AreFields (IsField names) ps → AreFields (IsField names) qs
  keys (here new) h = ((Unknown, new), h)
  keys (later more) h = (h.0, keys more h.1)

  absent : {ps qs : RawPairs} (i : ℕ) → HasNewField names ps qs → Absent (IsField names) i ps → Absent (IsField names) i qs
  absent i (here {k} new) h = (not_known (untagged k) i new, h)
  absent i (later more) h = (h.0, absent i more h.1)

  once : {ps qs : RawPairs} (i : ℕ) (v : Raw) → HasNewField names ps qs → Once (IsField names) i ps v → Once (IsField names) i qs v
  once i v (here {k} new) h = inr (not_known (untagged k) i new, h)
  once i v (later more) (inl a) = inl (a.0, a.1, absent i more a.2)
  once i v (later more) (inr b) = inr (b.0, once i v more b.1)

  one_field : {A : Type 0} {ps qs : RawPairs} (missing : IfAbsent A) (i : ℕ) (reads : Raw → A → Type 0) (x : A) → HasNewField names ps qs
      → IsFieldOr missing (IsField names) i reads ps x → IsFieldOr missing (IsField names) i reads qs x
  one_field refused i reads x more h = (h.0, once i h.0 more h.1, h.2)
  one_field (taken m) i reads x more (inl a) = inl (a.0, once i a.0 more a.1, a.2)
  one_field (taken m) i reads x more (inr b) = inr (absent i more b.0, b.1)

  fields : {S : Type 0} {ps qs : RawPairs} (i : ℕ) (ds : List (FieldOf S)) (x : S) → HasNewField names ps qs
      → HasFields (IsField names) i ds ps x → HasFields (IsField names) i ds qs x
  fields i [] x more h = h
  fields i (d ∷ ds) x more h = (one_field d.missing i d.reads (d.of x) more h.0, fields (suc i) ds x more h.1)

  pub new_field_passed : {S : Type 0} {ps qs : RawPairs} (ds : List (FieldOf S)) (l m : Length) (x : S) → HasNewField names ps qs
      → IsStruct names ds (map l ps) x → IsStruct names ds (map m qs) x
  new_field_passed ds l m x more h = record { keys = keys more h.keys; read = fields 0 ds x more h.read }
