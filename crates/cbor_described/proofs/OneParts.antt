-- Contents of one part, which is read as another type.
use Rattle.cbor_model.specs.Raw as raw
use Rattle.cbor_model.specs.Raw.{Raw, no_raws}
use Rattle.cbor_decode_as.specs.Enums.{Content, IsPart, alone, one, parts}

module _ {A B : Type 0} (reads : Raw → B → Type 0) (of : A → B) where
  pub is_part : (c : Content) (y : A) → IsPart (λ r y. reads r (of y)) c y → IsPart reads c (of y)
  is_part alone y h = h
  is_part (one r) y h = h
  is_part (parts no_raws) y h = h
  is_part (parts (raw.raw r rs)) y h = h

  pub part_is : (c : Content) (y : A) → IsPart reads c (of y) → IsPart (λ r y. reads r (of y)) c y
  part_is alone y h = h
  part_is (one r) y h = h
  part_is (parts no_raws) y h = h
  part_is (parts (raw.raw r rs)) y h = h
