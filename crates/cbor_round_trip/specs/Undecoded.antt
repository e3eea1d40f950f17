-- Items that aren't decoded are read back as the bytes that encode them.
use Rattle.std.proofs.Common.{◌≡◌, ◌∙◌, ℕ, List, sym, ap}
use Rattle.cbor_model.specs.Document.{encoded, raw_of}
use Rattle.cbor_model.specs.Encoding.{Encodes, encoded_item}
use Rattle.cbor_round_trip.specs.ReadBack.{IsReadBack}

-- the bytes encode an item
abbrev pub IsEncoded : List ℕ → Type 0
IsEncoded bytes = Encodes bytes (encoded_item bytes)

pub encoded_back : {A : Type 0} {items : A → List ℕ}
    → IsReadBack (λ v. encoded (encoded_item (items v))) (λ c r v. Encodes (items v) r) (λ v. IsEncoded (items v)) (Unit {0})
unfolding raw_of
encoded_back {items = items} = record {
  itself = λ v fit l p g. fit;
  alone = λ v w fit l p g h. ap (λ (b : List ℕ). encoded (encoded_item b)) (sym h.spelled ∙ fit.spelled);
  single = λ d c r v w h k. ap (λ (b : List ℕ). encoded (encoded_item b)) (sym h.spelled ∙ k.spelled);
}
