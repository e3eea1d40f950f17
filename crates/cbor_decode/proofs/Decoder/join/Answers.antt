use Rattle.std.proofs.Common.{◌≡◌, ◌∙◌, ◌+◌, ℕ, List, [], ◌++◌, length, Ok, refl, sym, ap, subst, arith, length-append}
use Rattle.std.proofs.lemmas.Result.{err_from_is_err_and}
use Rattle.cbor_model.specs.Reader.{Reads, byte_at, chunk_at, chunks_at, exceeds_most}
use Rattle.cbor_io.specs.Head.{major_number}
use Rattle.cbor_decode.specs.Gives.{Limits}
use Rattle.cbor_decode.specs.Heads.{joined_of}
use Rattle.cbor_decode.specs.Strings.{content}
use Rattle.cbor_decode.proofs.Steps.{step_map, step_then, stopped_then, none_step}
use Rattle.cbor_decode.proofs.Chunks.{with_bytes, BytesSoFar, break_ends, chunk_goes_on, byte_faulted, chunk_faulted}
use Rattle.cbor_decode.proofs.Decoder.join.Goals as goal

abbrev all : ℕ → Limits → List ℕ → Reads (List ℕ)
all major l bs = joined_of (chunks_at (exceeds_most l.room) 0 major bs)

-- the bytes so far, and the first byte after them
record Behind (major : ℕ) (front : List ℕ) (b : ℕ) (l : Limits) (bs mid : List ℕ) : Type 0 where
  rest : List ℕ
  so_far : BytesSoFar (exceeds_most l.room) major front bs rest
  first : byte_at rest ≡ Ok (b, mid)

pub chunks-init : goal.chunks-init
chunks-init g c =
    let s = g.R.Source.source c.args.self.now.source in
    let t = g.R.Source.source c.clear_buffer.new.self in
    let b = c.clear_buffer.ensures.bytes in
    let major = major_number c.args.major in
    record {
      so_far = step_map s t (λ l bs rest. bs ≡ rest) (λ l bs rest. BytesSoFar (exceeds_most l.room) major t.buffer bs rest) (λ l bs rest same. rw c.clear_buffer.ensures.empty (ap (λ (x : List ℕ). with_bytes [] (chunks_at (exceeds_most l.room) 0 major x)) (sym same))) (none_step s t b.bytes b.count b.room);
      counted = omega (arith, ap length c.clear_buffer.ensures.empty);
      levels = refl;
      formats = refl;
    }

pub returns-in_err-first-clause-read : goal.returns-in_err-first-clause-read
returns-in_err-first-clause-read g c =
    let passed = err_from_is_err_and c.from_residual.result c.from_residual.ensures.1 in
    let s = g.R.Source.source c.chunks.self.source in
    let major = major_number c.args.major in
    rw (passed.1, passed.2) (stopped_then g.R.Source.refusals (λ l. byte_at) (all major) _ s _ _ (λ l bs rest. BytesSoFar (exceeds_most l.room) major s.buffer bs rest)
    (λ l bs rest f so_far is. byte_faulted (exceeds_most l.room) major s.buffer bs rest f is so_far) c.chunks.invariant.so_far c.in_err-first.ensures.read)

pub returns-in_err-chunk-clause-read : goal.returns-in_err-chunk-clause-read
returns-in_err-chunk-clause-read g c =
    let passed = err_from_is_err_and c.from_residual-in_err-chunk.result c.from_residual-in_err-chunk.ensures.1 in
    let s = g.R.Source.source c.chunks.self.source in
    let t = g.R.Source.source c.byte.new.self.source in
    let major = major_number c.args.major in
    let b = c.in_ok-first.first in
    let same : length t.buffer ≡ length s.buffer = ap length c.in_ok-first.ensures.buffer in
    let begun = step_then _ s t (λ l bs rest. BytesSoFar (exceeds_most l.room) major s.buffer bs rest) (λ l rest mid. byte_at rest ≡ Ok (b, mid)) (Behind major s.buffer b) (λ l bs rest mid so_far first. record { rest = rest; so_far = so_far; first = first }) c.chunks.invariant.so_far c.in_ok-first.ensures.read in
    rw (passed.1, passed.2) (stopped_then g.R.Source.refusals (λ l. chunk_at (λ n. exceeds_most l.room (length t.buffer + n)) major b) (all major) _ t _ _ (Behind major s.buffer b)
    (λ l bs mid f h is. chunk_faulted (exceeds_most l.room) major s.buffer bs h.rest mid b f c.if-first.false h.first (ap (λ (k : ℕ). chunk_at (λ n. exceeds_most l.room (k + n)) major b mid) (sym same) ∙ is) h.so_far) begun c.in_err-chunk.ensures.read)

pub chunks-preserved : goal.chunks-preserved
chunks-preserved g c =
    let s = g.R.Source.source c.chunks.self.source in
    let t = g.R.Source.source c.byte.new.self.source in
    let u = g.R.Source.source c.chunk.new.self.source in
    let major = major_number c.args.major in
    let b = c.in_ok-first.first in
    let got = c.in_ok-chunk.ensures.read in
    let kept : t.buffer ≡ s.buffer = c.in_ok-first.ensures.buffer in
    let same : length t.buffer ≡ length s.buffer = ap length kept in
    let buffer : u.buffer ≡ s.buffer ++ got.some = got.buffer ∙ ap (λ (x : List ℕ). x ++ got.some) kept in
    let begun = step_then _ s t (λ l bs rest. BytesSoFar (exceeds_most l.room) major s.buffer bs rest) (λ l rest mid. byte_at rest ≡ Ok (b, mid)) (Behind major s.buffer b) (λ l bs rest mid so_far first. record { rest = rest; so_far = so_far; first = first }) c.chunks.invariant.so_far c.in_ok-first.ensures.read in
    record {
      so_far = step_then _ t u (Behind major s.buffer b) (λ l mid after. content (chunk_at (λ n. exceeds_most l.room (length t.buffer + n)) major b mid) ≡ Ok (got.some, after)) (λ l bs rest. BytesSoFar (exceeds_most l.room) major u.buffer bs rest)
          (λ l bs mid after h is. rw buffer (chunk_goes_on (exceeds_most l.room) major s.buffer got.some bs h.rest mid after b c.if-first.false h.first (ap (λ (k : ℕ). content (chunk_at (λ n. exceeds_most l.room (k + n)) major b mid)) (sym same) ∙ is) h.so_far)) begun got.step;
      counted = omega (arith, ap length buffer, length-append s.buffer got.some, c.chunks.invariant.counted, got.counted, c.in_ok-first.ensures.taken.further);
      levels = c.in_ok-chunk.ensures.settings.levels ∙ c.in_ok-first.ensures.settings.levels ∙ c.chunks.invariant.levels;
      formats = c.in_ok-chunk.ensures.settings.formats ∙ c.in_ok-first.ensures.settings.formats ∙ c.chunks.invariant.formats;
    }

pub chunks-smaller : goal.chunks-smaller
chunks-smaller g c = omega (arith, c.in_ok-chunk.ensures.read.counted, c.in_ok-first.ensures.taken.further, c.in_ok-first.ensures.taken.counted)

pub returns-then-first-clause-read : goal.returns-then-first-clause-read
returns-then-first-clause-read g c =
    let s = g.R.Source.source c.chunks.self.source in
    let t = g.R.Source.source c.byte.new.self.source in
    let major = major_number c.args.major in
    let kept : t.buffer ≡ s.buffer = c.in_ok-first.ensures.buffer in
    step_then _ s t (λ l bs rest. BytesSoFar (exceeds_most l.room) major s.buffer bs rest) (λ l rest after. byte_at rest ≡ Ok (c.in_ok-first.first, after)) _
    (λ l bs rest after so_far is. break_ends (exceeds_most l.room) major s.buffer bs rest after (subst (λ (b : ℕ). byte_at rest ≡ Ok (b, after)) c.if-first.true is) so_far ∙ ap (λ (x : List ℕ). Ok (x, after)) (sym kept)) c.chunks.invariant.so_far c.in_ok-first.ensures.read
