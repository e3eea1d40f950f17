-- How deep a document nests, by its parts.
use Rattle.std.proofs.Common.{◌≡◌, ℕ, suc, Bool, true, false, List, [], ◌∷◌, Option, Some, None, refl, arith}
use Rattle.std.specs.Prelude.{IfSome, ℤ, pos, negsuc}
use Rattle.cbor_model.specs.Canonical.{canonical_integer}
use Rattle.cbor_model.specs.Document.{Doc, Docs, Fields, Length, bool, bytes, docs, field, identifier, integer, newtype_variant, no_fields, null, raw_of, sequence, structure, text, unit_variant}
use Rattle.cbor_model.specs.Raw.{depth}
use Rattle.cbor_ser.specs.PartLists.{field_if}
use Rattle.cbor_round_trip.specs.Nesting.{FieldsNestWithin, ItemsNestWithin, NestsWithin}

of_integer : (z : ℤ) → depth (canonical_integer z) ≡ 0
of_integer (pos n) = refl
of_integer (negsuc n) = refl

of_identifier : (packed : Bool) (i : ℕ) (name : List ℕ) → depth (identifier packed i name) ≡ 0
of_identifier false i name = refl
of_identifier true i name = refl

module _ (n : ℕ) where
  -- ---- what has no parts

  pub null_nests : NestsWithin n null
  unfolding raw_of
  null_nests packed legacy = omega arith

  pub bool_nests : (b : Bool) → NestsWithin n (bool b)
  unfolding raw_of
  bool_nests b packed legacy = omega arith

  pub integer_nests : (z : ℤ) → NestsWithin n (integer z)
  unfolding raw_of
  integer_nests z packed legacy = omega (arith, of_integer z)

  pub bytes_nest : (b : List ℕ) → NestsWithin n (bytes b)
  unfolding raw_of
  bytes_nest b packed legacy = omega arith

  pub text_nests : (b : List ℕ) → NestsWithin n (text b)
  unfolding raw_of
  text_nests b packed legacy = omega arith

  pub unit_variant_nests : (i : ℕ) (name : List ℕ) → NestsWithin n (unit_variant i name)
  unfolding raw_of
  unit_variant_nests i name packed legacy = omega (arith, of_identifier packed i name)

  -- ---- what has one

  pub newtype_variant_nests : (i : ℕ) (name : List ℕ) (d : Doc) → NestsWithin n d → NestsWithin (suc n) (newtype_variant i name d)
  unfolding raw_of
  newtype_variant_nests i name d h packed false = let inner = h packed false in omega arith
  newtype_variant_nests i name d h packed true = let inner = h packed true in omega (arith, of_identifier packed i name)

  -- ---- items

  pub items_nest : {A : Type 0} (document : A → Doc) (xs : List A) → ((x : A) → NestsWithin n (document x)) → ItemsNestWithin n (docs document xs)
  unfolding raw_of
  items_nest document [] each packed legacy = omega arith
  items_nest document (x ∷ xs) each packed legacy =
      let one = each x packed legacy in
      let others = items_nest document xs each packed legacy in
      omega arith

  pub sequence_nests : (l : Length) (ds : Docs) → ItemsNestWithin n ds → NestsWithin (suc n) (sequence l ds)
  unfolding raw_of
  sequence_nests l ds each packed legacy = let all = each packed legacy in omega arith

  -- ---- fields

  pub no_fields_nest : FieldsNestWithin n no_fields
  unfolding raw_of
  no_fields_nest packed legacy = omega arith

  pub field_nests : (i : ℕ) (name : List ℕ) (d : Doc) (others : Fields) → NestsWithin n d → FieldsNestWithin n others → FieldsNestWithin n (field i name d others)
  unfolding raw_of
  field_nests i name d others h rest packed legacy =
      let one = h packed legacy in
      let more = rest packed legacy in
      omega (arith, of_identifier packed i name)

  -- a field that may be absent
  pub field_if_nests : (i : ℕ) (name : List ℕ) (d : Option Doc) (others : Fields) → IfSome d (NestsWithin n) → FieldsNestWithin n others → FieldsNestWithin n (field_if i name d others)
  field_if_nests i name None others h rest = rest
  field_if_nests i name (Some d) others h rest = field_nests i name d others h rest

  pub structure_nests : (fs : Fields) → FieldsNestWithin n fs → NestsWithin (suc n) (structure fs)
  unfolding raw_of
  structure_nests fs each packed legacy = let all = each packed legacy in omega arith
