use Rattle.std.proofs.Common.{◌≡◌, refl, List, ℕ, Err, length}
use Rattle.cbor_model.specs.Head.{no_bytes}
use Rattle.cbor_model.specs.Major.{major_of}
use Rattle.cbor_model.specs.Refusal.{unassigned_code}
use Rattle.cbor_model.specs.Reader.{number_behind}
use Rattle.cbor_io.specs.Head.{major_number}
use Rattle.cbor_io.specs.declared.head.Major.{Major}
use Rattle.cbor_io.specs.declared.head.Major.TheVariants.{UnsignedInteger, NegativeInteger, ByteString, TextString, Array, Map, Tag, Simple}
use Rattle.cbor_io.specs.declared.read_error.ReadErrorCode.TheVariants.{UnassignedCode}
use Rattle.cbor_decode.specs.Heads.{head_of, simple_head}
use Rattle.cbor_decode.proofs.Steps.{step_same}
use Rattle.cbor_decode.proofs.SourceCalls.{fault_stops}
use Rattle.cbor_decode.proofs.Decoder.indefinite.Goals as goal

pub returns-in-ByteString-clause-read : goal.returns-in-ByteString-clause-read
unfolding head_of
returns-in-ByteString-clause-read g c = step_same _ _ (λ l bs. (no_bytes, rw c.in-ByteString.is refl))

pub returns-in-TextString-clause-read : goal.returns-in-TextString-clause-read
unfolding head_of
returns-in-TextString-clause-read g c = step_same _ _ (λ l bs. (no_bytes, rw c.in-TextString.is refl))

pub returns-in-Array-clause-read : goal.returns-in-Array-clause-read
unfolding head_of
returns-in-Array-clause-read g c = step_same _ _ (λ l bs. (no_bytes, rw c.in-Array.is refl))

pub returns-in-Map-clause-read : goal.returns-in-Map-clause-read
unfolding head_of
returns-in-Map-clause-read g c = step_same _ _ (λ l bs. (no_bytes, rw c.in-Map.is refl))

pub returns-in-Simple-clause-read : goal.returns-in-Simple-clause-read
unfolding head_of simple_head
returns-in-Simple-clause-read g c = step_same _ _ (λ l bs. (no_bytes, rw c.in-Simple.is refl))

-- the other major types have no indefinite lengths
none_left : (m : Major) → (m ≡ ByteString → ⊥) → (m ≡ TextString → ⊥) → (m ≡ Array → ⊥) → (m ≡ Map → ⊥) → (m ≡ Simple → ⊥) → (bs : List ℕ) → head_of (major_of (major_number m)) 31 bs ≡ Err (record { why = unassigned_code; left = length bs })
unfolding head_of number_behind
none_left UnsignedInteger b t a p s bs = refl
none_left NegativeInteger b t a p s bs = refl
none_left ByteString b t a p s bs = absurd (b refl)
none_left TextString b t a p s bs = absurd (t refl)
none_left Array b t a p s bs = absurd (a refl)
none_left Map b t a p s bs = absurd (p refl)
none_left Tag b t a p s bs = refl
none_left Simple b t a p s bs = absurd (s refl)

pub returns-in_default-clause-read : goal.returns-in_default-clause-read
returns-in_default-clause-read g c =
    let d = c.in_default in
    let stops = fault_stops g.R.Source.refusals (g.R.Source.source c.args.self.now.source) (λ l. head_of (major_of (major_number c.args.major)) 31) _ _ UnassignedCode unassigned_code (λ at end r h. h) in
    rw c.refuse.ensures.source (stops (λ l bs. none_left c.args.major d.not-ByteString d.not-TextString d.not-Array d.not-Map d.not-Simple bs) c.refuse.ensures.refused c.refuse.ensures.kept)
