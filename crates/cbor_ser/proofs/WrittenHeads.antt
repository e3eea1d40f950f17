-- What precedes the parts of a variant, and a field, put together from heads and identifiers.
use Rattle.std.proofs.Common.{◌≡◌, ℕ, ◌+◌, ◌^◌, ◌<◌, Bool, List, ◌++◌, suc, Some, true, false, refl, sym, ap, ◌∙◌, inr, arith}
use Rattle.cbor_model.specs.Head.{short}
use Rattle.cbor_model.specs.InMemory.{IsTextString}
use Rattle.cbor_model.specs.Spelling.{spell}
use Rattle.cbor_model.specs.Document.{Doc, unit_variant, raw_of, document_bytes, identifier, IsStorableDocument}
use Rattle.cbor_ser.specs.Documents.{key_document}
use Rattle.cbor_ser.specs.Narrowed.{narrowed}
use Rattle.cbor_model.specs.Parts.{Part, item, in_turn, array_head, map_head, newtype_head, tuple_head, struct_head, field_part, part_bytes, newtype_start, tuple_start, struct_start}
use Rattle.cbor_ser.specs.declared.serializer.Settings.{Settings}
use Rattle.cbor_ser.proofs.WriteSteps.{Same}

-- the array in which the parts of a variant follow its identifier
abbrev legacy_head : ℕ → ℕ → List ℕ → Part
legacy_head len i n = in_turn (array_head (Some len)) (item (unit_variant i n))

-- the map of a variant's name, or of its number, and what it holds
abbrev key_head : Bool → ℕ → List ℕ → Part
key_head by_number i n = in_turn (map_head (Some 1)) (item (key_document by_number i n))

key_bytes : (packed legacy b : Bool) (i : ℕ) (n : List ℕ) → document_bytes (narrowed b (key_document packed i n)) packed legacy ≡ spell (identifier packed i n)
unfolding document_bytes raw_of
key_bytes false legacy b i n = refl
key_bytes true legacy b i n = refl

key_storable : (packed : Bool) (i : ℕ) (n : List ℕ) → i < 2 ^ 64 → IsStorableDocument (key_document packed i n)
key_storable false i n fits = tt
key_storable true i n fits = fits

-- what identifies a field or a variant under these settings
pub key_same : (s : Settings) (i : ℕ) (n : List ℕ) → i < 2 ^ 64 → IsTextString n → Same s (item (key_document s.packed i n)) (item (unit_variant i n))
unfolding part_bytes document_bytes raw_of
key_same s i n fits fits' = record {
  same = key_bytes s.packed s.legacy s.shortest i n;
  storable = λ h. tt;
  unstorable = λ h. key_storable s.packed i n fits;
  in_range = λ h. (fits, fits');
  before = λ front h. absurd h;
}

pub newtype_legacy : (s : Settings) (i : ℕ) (n : List ℕ) → s.legacy ≡ true → Same s (legacy_head 2 i n) (newtype_head i n)
unfolding part_bytes document_bytes raw_of
newtype_legacy s i n is = record {
  same = ap (newtype_start i n s.packed) (sym is);
  storable = λ h. tt;
  unstorable = λ h. (tt, tt);
  in_range = λ h. h.1;
  before = λ front h. absurd h;
}

pub newtype_named : (s : Settings) (i : ℕ) (n : List ℕ) → s.legacy ≡ false → i < 2 ^ 64 → Same s (key_head false i n) (newtype_head i n)
unfolding part_bytes document_bytes raw_of
newtype_named s i n is fits = record {
  same = ap (newtype_start i n s.packed) (sym is);
  storable = λ h. tt;
  unstorable = λ h. (tt, tt);
  in_range = λ h. (fits, h.1);
  before = λ front h. absurd h;
}

pub tuple_legacy : (s : Settings) (i : ℕ) (n : List ℕ) (len : ℕ) → s.legacy ≡ true → Same s (legacy_head (len + 1) i n) (tuple_head i n len)
unfolding part_bytes document_bytes raw_of
tuple_legacy s i n len is = let more : len + 1 ≡ suc len = omega arith in record {
  same = ap (λ (k : ℕ). short 4 k ++ spell (identifier s.packed i n)) more ∙ ap (tuple_start i n len s.packed) (sym is);
  storable = λ h. tt;
  unstorable = λ h. (tt, tt);
  in_range = λ h. (h.1.0, h.1.1, omega (arith, h.0));
  before = λ front h. absurd h;
}

pub tuple_named : (s : Settings) (i : ℕ) (n : List ℕ) (len : ℕ) → s.legacy ≡ false → i < 2 ^ 64 → suc len < 2 ^ 64
    → Same s (in_turn (key_head false i n) (array_head (Some len))) (tuple_head i n len)
unfolding part_bytes document_bytes raw_of
tuple_named s i n len is fits fits' = record {
  same = ap (tuple_start i n len s.packed) (sym is);
  storable = λ h. tt;
  unstorable = λ h. ((tt, tt), tt);
  in_range = λ h. (fits, h.0.1, fits');
  before = λ front h. absurd h;
}

pub struct_legacy : (s : Settings) (i : ℕ) (n : List ℕ) → s.legacy ≡ true → Same s (legacy_head 2 i n) (struct_head i n)
unfolding part_bytes document_bytes raw_of
struct_legacy s i n is = record {
  same = ap (struct_start i n s.packed) (sym is);
  storable = λ h. tt;
  unstorable = λ h. (tt, tt);
  in_range = λ h. h.1;
  before = λ front h. absurd h;
}

pub struct_identified : (s : Settings) (i : ℕ) (n : List ℕ) → s.legacy ≡ false → i < 2 ^ 64 → IsTextString n → Same s (key_head s.packed i n) (struct_head i n)
unfolding part_bytes
struct_identified s i n is fits fits' = record {
  same = ap (λ xs. short 5 1 ++ xs) (key_bytes s.packed s.legacy s.shortest i n) ∙ ap (struct_start i n s.packed) (sym is);
  storable = λ h. tt;
  unstorable = λ h. (tt, key_storable s.packed i n fits);
  in_range = λ h. (fits, fits');
  before = λ front h. absurd h;
}

pub field_same : (s : Settings) (i : ℕ) (n : List ℕ) (d : Doc) → Same s (in_turn (item (unit_variant i n)) (item d)) (field_part i n d)
unfolding part_bytes document_bytes raw_of
field_same s i n d = record {
  same = refl;
  storable = λ h. h.1;
  unstorable = λ h. (tt, h);
  in_range = λ h. (h.0.0, h.0.1, h.1);
  before = λ front h. inr (tt, h);
}
