use Rattle.std.proofs.Common.{rules, ◌≡◌, ◌∙◌, ◌+◌, ◌/◌, ◌%◌, ℕ, Bool, List, length, Err, refl, sym, ap, arith}
use Rattle.std.proofs.lemmas.Result.{err_from_is_err_and}
use Rattle.cbor_model.specs.Refusal.{unexpected_code}
use Rattle.cbor_model.specs.Reader.{number_behind, chunk_at, exceeds_most}
use Rattle.cbor_io.specs.Head.{major_number}
use Rattle.cbor_io.specs.declared.head.Major.{Major}
use Rattle.cbor_io.specs.declared.head.Major.TheVariants.{UnsignedInteger, NegativeInteger, ByteString, TextString, Array, Map, Tag, Simple}
use Rattle.cbor_io.specs.declared.read_error.ReadErrorCode.TheVariants.{UnexpectedCode}
use Rattle.cbor_decode.specs.Gives.{Limits}
use Rattle.cbor_read.proofs.facts.Sources.{some_then}
use Rattle.cbor_decode.proofs.Steps.{stopped_map}
use Rattle.cbor_decode.proofs.SourceCalls.{fault_stops, source_stops}
use Rattle.cbor_decode.proofs.Chunk.{no_chunk, chunk_number, chunk_joined, chunk_refused}
use Rattle.cbor_decode.proofs.Decoder.chunk.Goals.{then-ne-via-then-ne, then-ne-via-else-ne+then-low-ge28}
use Rattle.cbor_decode.proofs.Decoder.chunk.Goals as goal

major_is : (m k : Major) → major_number m ≡ major_number k → m ≡ k
major_is UnsignedInteger UnsignedInteger e = refl
major_is NegativeInteger NegativeInteger e = refl
major_is ByteString ByteString e = refl
major_is TextString TextString e = refl
major_is Array Array e = refl
major_is Map Map e = refl
major_is Tag Tag e = refl
major_is Simple Simple e = refl
major_is m k e = absurd (search rules)

pub returns-then-ne-clause-read : goal.returns-then-ne-clause-read
returns-then-ne-clause-read g c =
    let s = g.R.Source.source c.args.self.now.source in
    let first = c.args.first in
    let major = major_number c.args.major in
    let joins : (Limits → ℕ → Bool) = λ l n. exceeds_most l.room (length s.buffer + n) in
    let stops : ((l : Limits) (bs : List ℕ) → chunk_at (joins l) major first bs ≡ Err (record { why = unexpected_code; left = length bs })) = elim c.then-ne.branch [
      | then-ne-via-then-ne w ↦
          let other : (c.of.result ≡ c.args.major → ⊥) = search rules in
          λ l bs. no_chunk (joins l) major first bs (λ is chunk. other (major_is c.of.result c.args.major (c.of.ensures ∙ is)))
      | then-ne-via-else-ne+then-low-ge28 w ↦ λ l bs. no_chunk (joins l) major first bs (λ is chunk. absurd (omega (arith, chunk, w.if-low-ge28.true)))
    ] in
    rw c.refuse.ensures.source (fault_stops g.R.Source.refusals s (λ l. chunk_at (joins l) major first) _ _ UnexpectedCode unexpected_code (λ at end r h. h) stops c.refuse.ensures.refused c.refuse.ensures.kept)

pub returns-in_err-n-clause-read : goal.returns-in_err-n-clause-read
returns-in_err-n-clause-read g c =
    let passed = err_from_is_err_and c.from_residual.result c.from_residual.ensures.1 in
    let s = g.R.Source.source c.args.self.now.source in
    let same : c.of.result ≡ c.args.major = search rules in
    let major : c.args.first / 32 ≡ major_number c.args.major = sym c.of.ensures ∙ ap major_number same in
    rw (passed.1, passed.2) (stopped_map g.R.Source.refusals (λ l. number_behind (c.args.first % 32)) (λ l. chunk_at (λ n. exceeds_most l.room (length s.buffer + n)) (major_number c.args.major) c.args.first) s _ _
    (λ l bs f is. chunk_number (λ n. exceeds_most l.room (length s.buffer + n)) (major_number c.args.major) c.args.first bs f major (omega (arith, c.if-low-ge28.false)) is) c.in_err-n.ensures.read)

pub returns-in-Ok-clause-read : goal.returns-in-Ok-clause-read
returns-in-Ok-clause-read g c =
    let same : c.of.result ≡ c.args.major = search rules in
    let major : c.args.first / 32 ≡ major_number c.args.major = sym c.of.ensures ∙ ap major_number same in
    chunk_joined g.R.Source.refusals (major_number c.args.major) c.args.first c.in_ok-n.n _ _ _ major (omega (arith, c.if-low-ge28.false)) c.in_ok-n.ensures.buffer c.in_ok-n.ensures.read c.in-Ok.ensures.ok c.in-Ok.ensures.fits

pub returns-in-Err-clause-read : goal.returns-in-Err-clause-read
returns-in-Err-clause-read g c =
    let same : c.of.result ≡ c.args.major = search rules in
    let major : c.args.first / 32 ≡ major_number c.args.major = sym c.of.ensures ∙ ap major_number same in
    let stops = chunk_refused g.R.Source.refusals (major_number c.args.major) c.args.first c.in_ok-n.n _ _ _ major (omega (arith, c.if-low-ge28.false)) c.in_ok-n.ensures.buffer c.in_ok-n.ensures.read c.in-Err.refusal c.in-Err.ensures.err in
    rw c.keep.ensures.source (source_stops g.R.Source.refusals _ _ _ _ c.in-Err.refusal c.keep.ensures.refused c.keep.ensures.kept (some_then _ _ _ c.in_ok-n.ensures.read.took c.in-Err.ensures.err.refused.moved) stops)
