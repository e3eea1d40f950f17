-- A list of bytes, which is written as one of numbers.
use Rattle.std.proofs.Common.{◌≤◌, ◌-◌, ◌^◌, ℕ, suc, List, [], ◌∷◌, arith}
use Rattle.std.specs.Prelude.{pos}
use Rattle.std.specs.List.{AllByRecursion}
use Rattle.cbor_model.specs.Document.{AreStorableDocuments, docs, integer}
use Rattle.cbor_model.specs.Raw.{AreBytes}

pub bytes_fit : (xs : List ℕ) → AreBytes xs → AllByRecursion (λ n. n ≤ 2 ^ 8 - 1) xs
bytes_fit [] h = tt
bytes_fit (x ∷ xs) h = (let here = h 0 in omega arith, bytes_fit xs (λ i. h (suc i)))

pub bytes_stored : (xs : List ℕ) → AreBytes xs → AreStorableDocuments (docs (λ x. integer (pos x)) xs)
bytes_stored [] h = tt
bytes_stored (x ∷ xs) h = (let here = h 0 in omega arith, bytes_stored xs (λ i. h (suc i)))
