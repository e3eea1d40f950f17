-- Lists of fields, with their names.
use Rattle.std.proofs.Common.{◌≡◌, ◌+◌, ◌<◌, ℕ, zero, suc, List, [], ◌∷◌, length, get_or, refl, sym, ap, ◌∙◌, arith, add-one, Bor, Option, Some, None, true, false}
use Rattle.std.specs.Prelude.{map}
use Rattle.cbor_model.specs.Document.{Doc, Fields, field, field_count, struct_variant}
use Rattle.cbor_model.specs.Parts.{in_turn, map_head, struct_head, fields, parts}
use Rattle.std.specs.Option.{is_some}
use Rattle.cbor_ser.specs.PartLists.{name_in, field_if}

-- the head of a variant, and its fields
pub variant_head_of : (i : ℕ) (name : List ℕ) (fs : Fields) (n : ℕ) → n ≡ field_count fs → in_turn (in_turn (struct_head i name) (map_head (Some n))) (fields fs) ≡ parts (struct_variant i name fs)
variant_head_of i name fs n counted = ap (λ n. in_turn (in_turn (struct_head i name) (map_head (Some n))) (fields fs)) counted

module _ (i : ℕ) (o : Option Doc) (ns : List (List ℕ)) (others : ℕ → Fields) where
  -- a field that is written, and those after it
  pub written_then : (d : Doc) → o ≡ Some d → field i (name_in ns i) d (others (i + 1)) ≡ field_if i (name_in ns i) o (others (suc i))
  written_then d is =
      ap (λ (k : ℕ). field i (name_in ns i) d (others k)) (add-one i)
      ∙ ap (λ (o : Option Doc). field_if i (name_in ns i) o (others (suc i))) (sym is)

  -- the same of one that is left out
  pub left_out : o ≡ None → others (i + 1) ≡ field_if i (name_in ns i) o (others (suc i))
  left_out is = ap others (add-one i) ∙ ap (λ (o : Option Doc). field_if i (name_in ns i) o (others (suc i))) (sym is)

-- a field is written where it has a document
pub has_document : (o : Option Doc) → is_some o ≡ true → (d : Doc) × (o ≡ Some d)
has_document None h = absurd cc
has_document (Some d) h = (d, refl)

pub no_document : (o : Option Doc) → is_some o ≡ false → o ≡ None
no_document None h = refl
no_document (Some d) h = absurd cc

-- and counts then
pub one_written : (i : ℕ) (n : List ℕ) (o : Option Doc) (others : Fields) → is_some o ≡ true → field_count (field_if i n o others) ≡ suc (field_count others)
one_written i n None others h = absurd cc
one_written i n (Some d) others h = refl

pub none_written : (i : ℕ) (n : List ℕ) (o : Option Doc) (others : Fields) → is_some o ≡ false → field_count (field_if i n o others) ≡ field_count others
none_written i n None others h = refl
none_written i n (Some d) others h = absurd cc

-- the name in a place
pub named_at : (names : List (Bor (List ℕ))) (i : ℕ) (none : Bor (List ℕ)) → i < length names → (get_or names i none).now ≡ name_in (map (λ n. n.now) names) i
named_at [] i none h = absurd (omega (arith, h))
named_at (n ∷ names) zero none h = refl
named_at (n ∷ names) (suc i) none h = named_at names i none (omega (arith, h))
