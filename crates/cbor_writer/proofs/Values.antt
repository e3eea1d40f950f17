-- A document that is a value's, of which the writer has a front, or all.
use Rattle.std.proofs.Common.{ℕ, List, Option, Result, Ok, Err, IfErr, inl}
use Rattle.cbor_model.specs.Plain.{Val}
use Rattle.cbor_model.specs.Canonical.{canon, IsStorable}
use Rattle.cbor_model.specs.InRange.{IsInRange}
use Rattle.cbor_io.specs.Write.{AppendsBeginning, IsFault, Wrote}
use Rattle.cbor_io.specs.declared.error.Error.{Error}
use Rattle.cbor_ser.specs.Serialized.{WroteValue, ValueRefused}

module _ {W : Type 0} {contents : W → Option (List ℕ)} {old new : W} (v : Val) where
  pub value_begun : {T : Type 0} (e : Error) → AppendsBeginning (canon v) (contents old) (contents new)
      → ValueRefused (λ _ e. IsFault e) new v e
      → WroteValue {T = T} contents (λ _ e. IsFault e) old v new (Err e)
  value_begun e some refused =
      record {
        storable = tt;
        in_range = tt;
        written = record { ok = tt; err = some };
        refused = refused;
      }

  pub value_through : {T : Type 0} (r : Result T Error) → IsStorable v → IsInRange v
      → Wrote (contents old) (canon v) (contents new) r → IfErr r IsFault
      → WroteValue contents (λ _ e. IsFault e) old v new r
  value_through (Ok x) storable in_range written refused =
      record { storable = storable; in_range = in_range; written = written; refused = tt }
  value_through (Err e) storable in_range written refused =
      record { storable = tt; in_range = tt; written = written; refused = inl refused }
