-- What a refused reading leaves.
use Rattle.std.proofs.Common.{◌≡◌, ◌∙◌, ◌+◌, ℕ, Bool, List, ◌++◌, length, Option, None, Some, Err, refl, sym}
use Rattle.std.specs.Io.KnownBytes.{Consumes}
use Rattle.cbor_model.specs.Formats.{Formats}
use Rattle.cbor_model.specs.Raw.{Raw}
use Rattle.cbor_io.specs.declared.error.Error.{Error}
use Rattle.cbor_io.specs.declared.read_error.ReadErrorCode.{ReadErrorCode}
use Rattle.cbor_read.specs.Source.{Input}
use Rattle.cbor_decode_as.specs.Takes.{TakesItem}

some_is : (x y : List ℕ) → Some x ≡ Some y → x ≡ y
some_is x y e = cc

left_of : (a b : Option (List ℕ)) (some bs : List ℕ) → a ≡ Some bs → Consumes a b some → (rest : List ℕ) × (bs ≡ some ++ rest) × (b ≡ Some rest)
left_of None b some bs is h = absurd cc
left_of (Some xs) None some bs is h = absurd h
left_of (Some xs) (Some ys) some bs is h = (ys, some_is bs xs (sym is) ∙ h, refl)

-- An item was refused: some of the bytes that were to come are gone from their front, the others are
-- to come, and the offset counts those that are gone.
pub refused_left : {A : Type 0} (refusals : ReadErrorCode → Bool) (f : Formats) (reads : Raw → A → Type 0) (levels : ℕ) (s t : Input) (e : Error) (bs : List ℕ) → TakesItem refusals f reads levels s t (Err e) → s.to_come ≡ Some bs
    → (some : List ℕ) × (rest : List ℕ) × (bs ≡ some ++ rest) × (t.to_come ≡ Some rest) × (t.offset ≡ s.offset + length some)
refused_left refusals f reads levels s t e bs refused is =
    let took = refused.took in
    let left = left_of s.to_come t.to_come took.some bs is took.bytes in
    (took.some, left.0, left.1, left.2, took.count)
