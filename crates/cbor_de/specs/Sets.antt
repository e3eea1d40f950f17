-- What sets are read as.
use Rattle.std.specs.Prelude.{◌≡◌, ℕ, List, [], ◌∷◌, pos, refl}
use Rattle.std.specs.BTreeSet.{insert_key}
use Rattle.std.specs.Ordering.{nat_cmp}
use Rattle.std.specs.declared.cmp.Ordering.{Ordering}
use Rattle.cbor_model.specs.Head.{no_bytes}
use Rattle.cbor_model.specs.Raw as raw
use Rattle.cbor_model.specs.Raw.{Raw, Raws, no_raws}
use Rattle.cbor_model.specs.Readable.{IsInteger}
use Rattle.cbor_decode_as.specs.Arrays.{AreRead, are_read_same}

-- the keys, with these items put in one after the other: of equal items the first stays
abbrev pub put_items : {A : Type 0} → (A → A → Ordering) → List A → List A → List A
put_items cmp keys [] = keys
put_items cmp keys (x ∷ xs) = put_items cmp (insert_key cmp keys x) xs

-- Each item is read, and these keys are made of them.
pub record AreKeys {A : Type 0} (cmp : A → A → Ordering) (reads : Raw → A → Type 0) (rs : Raws)
    (keys : List A) : Type 0 where
  pub items : List A
  pub read : AreRead reads rs items
  pub put : keys ≡ put_items cmp [] items

-- ---- laws

pub are_keys_same : {A : Type 0} (cmp : A → A → Ordering) (one two : Raw → A → Type 0)
    → ((r : Raw) (x : A) → one r x → two r x)
    → (rs : Raws) (keys : List A) → AreKeys cmp one rs keys → AreKeys cmp two rs keys
are_keys_same cmp one two on rs keys h = record {
  items = h.items;
  read = are_read_same one two on rs h.items h.read;
  put = h.put;
}

-- ---- examples

-- a number from 0
abbrev IsNumber : Raw → ℕ → Type 0
IsNumber r n = IsInteger r (pos n)

-- [3, 1, 3] makes the set of 1 and 3
in_order : AreKeys nat_cmp IsNumber
    (raw.raw (raw.unsigned no_bytes 3)
    (raw.raw (raw.unsigned no_bytes 1) (raw.raw (raw.unsigned no_bytes 3) no_raws)))
    (1 ∷ 3 ∷ [])
in_order = record { items = 3 ∷ 1 ∷ 3 ∷ []; read = (refl, (refl, (refl, tt))); put = refl }
