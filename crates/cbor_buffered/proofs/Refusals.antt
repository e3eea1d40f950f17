-- How a call that took nothing was refused.
use Rattle.std.proofs.Common.{◌≡◌, ℕ, ◌+◌, ◌-◌, ◌^◌, ◌<◌, ◌≤◌, List, [], length}
use Rattle.std.proofs.Common.{Option, Some, None, IfSome}
use Rattle.std.proofs.Common.{drop, take}
use Rattle.std.proofs.Common.{sym, ap, subst, ◌∙◌, add-zero, arith}
use Rattle.std.proofs.KnownBytes.{Consumes-nil, Consumes-kept}
use Rattle.cbor_io.specs.ReadError.{why, place, HasNoPlace}
use Rattle.std.specs.declared.io.Error.{Error}
use Rattle.cbor_io.specs.declared.read_error.ReadError.{ReadError}
use Rattle.cbor_read.specs.Source.{Input, TookKept, TookSome, Stays, IsOfSource}
use Rattle.cbor_read.specs.Source.{RefusedByte, reader_refusals}
pub use Rattle.cbor_read.proofs.facts.Sources.{stays_same, stays_then}
use Rattle.cbor_io.specs.declared.read_error.ReadErrorCode.TheVariants.{LengthOutOfRange}
use Rattle.cbor_io.specs.declared.read_error.ReadErrorCode.TheVariants.{Io}
use Rattle.cbor_io.specs.declared.read_error.ReadErrorCode.TheVariants.{EofWhileParsingValue}
use Rattle.cbor_buffered.specs.Block.{ahead_input, RefusedHere}
use Rattle.cbor_buffered.proofs.BlockBytes.{some_to_come, count_ahead}

pub stays_kept : (s t : Input) → Stays s t → TookKept s t []
stays_kept s t w = record {
  bytes = Consumes-kept s.to_come s.to_come t.to_come [] (Consumes-nil s.to_come) w.bytes;
  count = w.count ∙ sym (add-zero s.offset);
  room = w.room;
  kept = w.kept;
}

pub stays_some : (s t : Input) → Stays s t → TookSome s t
stays_some s t w =
    let none = stays_kept s t w in
    record { some = []; bytes = none.bytes; count = none.count; room = none.room }

-- the reader reported a fault
pub fault_byte : (s t : Input) (fault : Error) (e : ReadError) → why e ≡ Io fault → place e ≡ 0
    → Stays s t → RefusedByte reader_refusals s t e
fault_byte s t fault e q at w = record {
  refused = record {
    code = ap reader_refusals q;
    kind = subst IsOfSource (sym q) tt;
    moved = stays_some s t w;
    nowhere = λ h. at;
    ended = λ h. absurd (cc);
    limit = λ h. absurd (cc);
  };
  stays = w;
  room = λ h. absurd (cc);
  ended = λ h. absurd (cc);
  memory = λ h. absurd (cc);
}

-- another byte is there, which the offset can't count
pub past_offsets : (s : Input) (rem : Option (List ℕ)) (b buffer : List ℕ) (t f start : ℕ)
    (e : ReadError) → why e ≡ LengthOutOfRange → place e ≡ 2 ^ 64 - 1 → start + t ≡ 2 ^ 64 - 1
    → t < f → f ≤ length b → Stays s (ahead_input (drop t (take f b)) rem buffer (start + t))
    → RefusedByte reader_refusals s (ahead_input (drop t (take f b)) rem buffer (start + t)) e
past_offsets s rem b buffer t f start e q at last more within w = record {
  refused = record {
    code = ap reader_refusals q;
    kind = subst IsOfSource (sym q) tt;
    moved = stays_some s (ahead_input (drop t (take f b)) rem buffer (start + t)) w;
    nowhere = λ h. absurd (subst HasNoPlace q h);
    ended = λ h. absurd (cc);
    limit = λ h. (
      at,
      last,
      some_to_come rem (drop t (take f b))
          (omega (arith, count_ahead b t f within)),
    );
  };
  stays = w;
  room = λ h. absurd (cc);
  ended = λ h. absurd (cc);
  memory = λ h. absurd (cc);
}

none_of_them : (a : Option (List ℕ)) (n offset at : ℕ) → 0 < n → at ≡ offset
    → IfSome a (λ bs. bs ≡ []) → IfSome a (λ bs. (length bs < n) × (at ≡ offset + length bs))
none_of_them None n offset at some same none = tt
none_of_them (Some bs) n offset at some same none =
    let len = ap length none in
    (omega (arith, len, some), omega (arith, len, same))

-- none is left, and one was wanted at least
pub ended_here : (s t : Input) (n : ℕ) (e : ReadError) → 0 < n → why e ≡ EofWhileParsingValue
    → place e ≡ t.offset → Stays s t → IfSome s.to_come (λ bs. bs ≡ []) → RefusedHere s t n e
ended_here s t n e some q at w none = record {
  refused = record {
    code = ap reader_refusals q;
    kind = subst IsOfSource (sym q) tt;
    moved = stays_some s t w;
    nowhere = λ h. absurd (subst HasNoPlace q h);
    ended = λ h. none_of_them s.to_come n s.offset (place e) some (at ∙ w.count) none;
    limit = λ h. absurd (cc);
  };
  stays = w;
}
