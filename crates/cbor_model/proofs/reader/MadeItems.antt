-- What a reading makes of an item.
use Rattle.std.proofs.Common.{◌≡◌, ℕ, Option, refl, ap, ◌∙◌}
use Rattle.cbor_model.specs.Raw as raw
use Rattle.cbor_model.specs.Raw.{Raw, Raws, no_raws, RawPairs, no_raw_pairs, raw_pair}
use Rattle.cbor_model.specs.Plain as plain
use Rattle.cbor_model.specs.Plain.{val, no_pairs}
use Rattle.cbor_model.specs.Value.{value, values, pairs, put}
use Rattle.cbor_model.specs.Formats.{Formats}
use Rattle.cbor_model.specs.Reader.{Reading, values_of}

unfoldable mutual
  pub made : {Item Items Pairs : Type 0} → Reading Item Items Pairs → Raw → Item
  made m (raw.unsigned w n) = m.unsigned w n
  made m (raw.negative w n) = m.negative w n
  made m (raw.bytes c) = m.bytes c
  made m (raw.text c) = m.text c
  made m (raw.bytes_chunks cs) = m.bytes_chunks cs
  made m (raw.text_chunks cs) = m.text_chunks cs
  made m (raw.array l rs) = m.array l (made_all m rs)
  made m (raw.map l ps) = m.map l (made_pairs m ps)
  made m (raw.tag w n r) = m.tag w n (made m r)
  made m (raw.simple s) = m.simple s
  made m (raw.float w bits) = m.float w bits

  pub made_all : {Item Items Pairs : Type 0} → Reading Item Items Pairs → Raws → Items
  made_all m no_raws = m.no_items
  made_all m (raw.raw r rs) = m.item (made m r) (made_all m rs)

  pub made_pairs : {Item Items Pairs : Type 0} → Reading Item Items Pairs → RawPairs → Pairs
  made_pairs m no_raw_pairs = m.no_pairs
  made_pairs m (raw_pair k v ps) = m.pair (made m k) (made m v) (made_pairs m ps)

-- values are made so
mutual
  unfolding made value

  pub made-value : (f : Formats) (total : ℕ) (most : Option ℕ) (r : Raw) → made (values_of f total most) r ≡ value r
  made-value f total most (raw.unsigned w n) = refl
  made-value f total most (raw.negative w n) = refl
  made-value f total most (raw.bytes c) = refl
  made-value f total most (raw.text c) = refl
  made-value f total most (raw.bytes_chunks cs) = refl
  made-value f total most (raw.text_chunks cs) = refl
  made-value f total most (raw.array l rs) = ap plain.array (made_all-values f total most rs)
  made-value f total most (raw.map l ps) = ap plain.map (made_pairs-pairs f total most ps no_pairs)
  made-value f total most (raw.tag w n r) = ap (plain.tag n) (made-value f total most r)
  made-value f total most (raw.simple s) = refl
  made-value f total most (raw.float w bits) = refl

  pub made_all-values : (f : Formats) (total : ℕ) (most : Option ℕ) (rs : Raws) → made_all (values_of f total most) rs ≡ values rs
  made_all-values f total most no_raws = refl
  made_all-values f total most (raw.raw r rs) =
      ap (λ (v : plain.Val). val v (made_all (values_of f total most) rs)) (made-value f total most r) ∙ ap (val (value r)) (made_all-values f total most rs)

  pub made_pairs-pairs : (f : Formats) (total : ℕ) (most : Option ℕ) (ps : RawPairs) (before : plain.Pairs) → made_pairs (values_of f total most) ps before ≡ pairs ps before
  made_pairs-pairs f total most no_raw_pairs before = refl
  made_pairs-pairs f total most (raw_pair k v ps) before =
      ap (λ (l : plain.Val). made_pairs (values_of f total most) ps (put l (made (values_of f total most) v) before)) (made-value f total most k)
      ∙ ap (λ (w : plain.Val). made_pairs (values_of f total most) ps (put (value k) w before)) (made-value f total most v)
      ∙ made_pairs-pairs f total most ps (put (value k) (value v) before)
