-- What a source took, and then more.
use Rattle.std.proofs.Common.{◌≡◌, ℕ, ◌+◌, ◌≤◌, List, [], ◌++◌, length}
use Rattle.std.proofs.Common.{Option, ap, ◌∙◌}
use Rattle.std.proofs.Common.{length-append, arith, take, drop}
use Rattle.std.proofs.KnownBytes.{Consumes-trans}
use Rattle.cbor_read.specs.Source.{Input, Took, TookKept, Stays, Skipped, Buffered}
use Rattle.cbor_buffered.specs.Block.{ahead_input}
use Rattle.cbor_buffered.proofs.BlockBytes.{advanced, taken_length}
use Rattle.cbor_buffered.proofs.Refusals.{stays_kept}

-- ---- more

kept_trans : (s t u : Input) (p q : List ℕ) → TookKept s t p → TookKept t u q
    → TookKept s u (p ++ q)
kept_trans s t u p q h w = record {
  bytes = Consumes-trans s.to_come t.to_come u.to_come p q h.bytes w.bytes;
  count = omega (arith, length-append p q, h.count, w.count);
  room = w.room ∙ h.room;
  kept = w.kept ∙ h.kept;
}

-- a block may have been read before the next bytes are taken
pub kept_then : (s t u : Input) (q : List ℕ) → Stays s t → TookKept t u q → TookKept s u q
kept_then s t u q h w = kept_trans s t u [] q (stays_kept s t h) w

pub kept_more : (s t u v : Input) (p q : List ℕ) → TookKept s t p → Stays t u → TookKept u v q
    → TookKept s v (p ++ q)
kept_more s t u v p q h w k = kept_trans s t v p q h (kept_then t u v q w k)

pub skipped_more : (s t u v : Input) (k m n : ℕ) (q : List ℕ) → n ≡ k + m → length q ≡ m
    → Skipped s t k → Stays t u → TookKept u v q → Skipped s v n
skipped_more s t u v k m n q e len h w taken =
    let next = kept_then t u v q w taken in
    record {
      some = h.some ++ q;
      len = omega (arith, length-append h.some q, h.len, len, e);
      bytes = Consumes-trans s.to_come t.to_come v.to_come h.some q h.bytes next.bytes;
      count = omega (arith, h.count, next.count, len, e);
      room = next.room ∙ h.room;
    }

pub took_it : (s t : Input) (p : List ℕ) → TookKept s t p → Took s t p
took_it s t p h = record { bytes = h.bytes; count = h.count; room = h.room }

-- some of a block went to the buffer's end, once it was read
pub joined : (s : Input) (rem : Option (List ℕ)) (b buffer after part : List ℕ)
    (t n e f start : ℕ) → t + n ≤ e → e ≤ f → f ≤ length b
    → Stays s (ahead_input (drop t (take f b)) rem buffer (start + t)) → after ≡ buffer ++ part
    → part ≡ take n (drop t (take e b))
    → Buffered s (ahead_input (drop (t + n) (take f b)) rem after (start + (t + n))) n
joined s rem b buffer after part t n e f start within counted fits w joins same =
    let len = taken_length b t n e within (omega arith) in
    let took = kept_then s _ _ (take n (drop t (take e b))) w
    (advanced rem b buffer t n e f start within counted fits) in
    record {
      some = take n (drop t (take e b));
      len = len;
      bytes = took.bytes;
      count = took.count ∙ ap (λ m. s.offset + m) len;
      room = took.room;
      buffered = joins ∙ ap (λ l. l ++ part) w.kept ∙ ap (λ l. s.buffer ++ l) same;
    }
