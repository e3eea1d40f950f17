-- What stays where a call that appends was refused.
use Rattle.std.proofs.Common.{◌≡◌, ℕ, List, [], ◌++◌, length, refl, sym, ap, subst}
use Rattle.std.proofs.Common.{◌∙◌, append_assoc, append-nil, length-append, add-zero, arith}
use Rattle.std.specs.Io.KnownBytes.{Consumes}
use Rattle.std.proofs.KnownBytes.{Consumes-nil, Consumes-trans}
use Rattle.cbor_read.specs.Source.{Input, TookKept, Stays, Buffered, Lengthened}
use Rattle.cbor_read.proofs.ReaderSteps.{stays_kept}

-- nothing was taken, and nothing changed
pub none_taken : (s t : Input) (old new : List ℕ) → t.to_come ≡ s.to_come → t.offset ≡ s.offset
    → new ≡ old → Lengthened s t old new
none_taken s t old new same at stays = record {
  some = [];
  lost = [];
  bytes = subst (λ b. Consumes s.to_come b []) (sym same) (Consumes-nil s.to_come);
  count = at ∙ sym (add-zero s.offset);
  behind = stays ∙ sym (append-nil old);
}

-- what was taken is lost, and the buffer stays
pub all_lost : (s t u : Input) (p : List ℕ) → TookKept s t p → u.to_come ≡ t.to_come
    → u.offset ≡ t.offset → u.buffer ≡ t.buffer → Lengthened s u s.buffer u.buffer
all_lost s t u p h same at stays = record {
  some = [];
  lost = p;
  bytes = subst (λ b. Consumes s.to_come b p) (sym same) h.bytes;
  count = at ∙ h.count;
  behind = stays ∙ h.kept ∙ sym (append-nil s.buffer);
}

-- no byte could be taken
pub none_came : (s t : Input) → Stays s t → Lengthened s t s.buffer t.buffer
none_came s t h = all_lost s t t [] (stays_kept s t h) refl refl refl

-- some bytes went to the buffer, and then the next were refused
pub joined_then : (s t u : Input) (k : ℕ) → Buffered s t k → Lengthened t u t.buffer u.buffer
    → Lengthened s u s.buffer u.buffer
joined_then s t u k h w =
    let parts = append_assoc h.some w.some w.lost in
    record {
      some = h.some ++ w.some;
      lost = w.lost;
      bytes = subst (Consumes s.to_come u.to_come) (sym parts)
          (Consumes-trans s.to_come t.to_come u.to_come h.some (w.some ++ w.lost) h.bytes w.bytes);
      count = omega (
        arith,
        ap length parts,
        length-append h.some (w.some ++ w.lost),
        h.len,
        h.count,
        w.count,
      );
      behind = w.behind ∙ ap (λ x. x ++ w.some) h.buffered
          ∙ append_assoc s.buffer h.some w.some;
    }
