-- One text written after the other.
use Rattle.std.proofs.Common.{◌≡◌, ℕ, List, [], ◌++◌, refl, sym, subst, append-nil, append_assoc, Ok, Err, Result}
use Rattle.std.proofs.Output.{writes_in_calls_nil, writes_in_calls_single, writes_in_calls_append}
use Rattle.std.specs.Fmt.{WritesInCalls}
use Rattle.std.specs.Result.{IsOk, OnOk}
use Rattle.std.specs.declared.fmt.Error.{Error}
use Rattle.cbor_diagnostic.specs.Prints.{Prints}

-- what a call of a formatter or a writer answers
abbrev pub Answer : Type 0
Answer = Result (Unit {0}) Error

-- ---- one call

pub one_call : {W : Type 0} (took : W → List ℕ → W → Type 0) (w : W) (bs : List ℕ) (v : W) → took w bs v → WritesInCalls took w bs v
one_call took w bs v t = writes_in_calls_single took w bs v t

pub last_call : {W : Type 0} (took : W → List ℕ → W → Type 0) (w : W) (bs : List ℕ) (v : W) (r : Answer) → (IsOk r → took w bs v) → OnOk r (WritesInCalls took w bs v)
last_call took w bs v (Ok x) h = one_call took w bs v (h refl)
last_call took w bs v (Err e) h = tt

-- ---- one after the other

pub wrote_then : {W : Type 0} {took : W → List ℕ → W → Type 0} {w u v : W} {a b : List ℕ} → WritesInCalls took w a u → WritesInCalls took u b v → WritesInCalls took w (a ++ b) v
wrote_then {took = took} p q = writes_in_calls_append took _ _ _ _ _ p q

pub same_text : {W : Type 0} {took : W → List ℕ → W → Type 0} {w v : W} {a b : List ℕ} → a ≡ b → WritesInCalls took w a v → WritesInCalls took w b v
same_text {took = took} {w = w} {v = v} e p = subst (λ (bs : List ℕ). WritesInCalls took w bs v) e p

-- ---- any text of a kind

pub prints_text : {W : Type 0} (took : W → List ℕ → W → Type 0) (w v : W) (IsOne : List ℕ → Type 0) (bs : List ℕ) (r : Answer) → IsOne bs → OnOk r (WritesInCalls took w bs v) → OnOk r (Prints took IsOne w v)
prints_text took w v IsOne bs (Ok x) is wrote = record { text = bs; is = is; wrote = wrote }
prints_text took w v IsOne bs (Err e) is wrote = tt

pub prints_also : {W : Type 0} (took : W → List ℕ → W → Type 0) (w v : W) (IsOne IsAlso : List ℕ → Type 0) (r : Answer) → ((bs : List ℕ) → IsOne bs → IsAlso bs) → OnOk r (Prints took IsOne w v) → OnOk r (Prints took IsAlso w v)
prints_also took w v IsOne IsAlso (Ok x) also h = record { text = h.text; is = also h.text h.is; wrote = h.wrote }
prints_also took w v IsOne IsAlso (Err e) also h = tt

-- What was written so far, with a text of what is left, is a text of the whole.
pub record SoFar {W : Type 0} (took : W → List ℕ → W → Type 0) (IsWhole IsRest : List ℕ → Type 0) (old new : W) : Type 0 where
  pub done : List ℕ
  pub wrote : WritesInCalls took old done new
  pub whole : (rest : List ℕ) → IsRest rest → IsWhole (done ++ rest)

pub begun : {W : Type 0} (took : W → List ℕ → W → Type 0) (IsWhole : List ℕ → Type 0) (w : W) → SoFar took IsWhole IsWhole w w
begun took IsWhole w = record { done = []; wrote = writes_in_calls_nil took w; whole = λ rest h. h }

-- one more text, where it goes with what is left after it
pub more : {W : Type 0} {took : W → List ℕ → W → Type 0} {IsWhole IsRest : List ℕ → Type 0} {w u v : W} (IsLess : List ℕ → Type 0) (bs : List ℕ) → SoFar took IsWhole IsRest w u
    → WritesInCalls took u bs v → ((rest : List ℕ) → IsLess rest → IsRest (bs ++ rest)) → SoFar took IsWhole IsLess w v
more {IsWhole = IsWhole} IsLess bs so_far wrote goes = record {
  done = so_far.done ++ bs;
  wrote = wrote_then so_far.wrote wrote;
  whole = λ rest h. subst IsWhole (sym (append_assoc so_far.done bs rest)) (so_far.whole (bs ++ rest) (goes rest h));
}

pub finished : {W : Type 0} {took : W → List ℕ → W → Type 0} {IsWhole IsRest : List ℕ → Type 0} {w v : W} → SoFar took IsWhole IsRest w v → IsRest [] → Prints took IsWhole w v
finished {IsWhole = IsWhole} so_far none = record {
  text = so_far.done;
  is = subst IsWhole (append-nil so_far.done) (so_far.whole [] none);
  wrote = so_far.wrote;
}
