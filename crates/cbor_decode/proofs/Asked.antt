-- Where memory may be asked for.
use Rattle.std.proofs.Common.{◌≡◌, inl, inr, true, Result, Ok, Err, IfErr}
use Rattle.cbor_io.specs.declared.read_error.ReadError.{ReadError}
use Rattle.cbor_read.specs.Source.{Asks, MemoryWhere}
use Rattle.cbor_decode.specs.Gives.{ReportsNoMemory}
use Rattle.cbor_decode.specs.HasChunks.{AsksWhere}
use Rattle.cbor_decode.specs.Memory.{MemoryOnly}
use Rattle.cbor_decode.specs.declared.refusal.Refused.{Refused}
use Rattle.cbor_decode.specs.declared.refusal.Refused.TheVariants as refused
use Rattle.cbor_decode.proofs.Memory.{asked_on, kept_asked, none_asked, on_err}

-- a refusal of the source to skip
pub whole_asked : (asks : Asks) (kept : ReadError) (r : Refused) (e : ReadError) → r ≡ refused.Kept → kept ≡ e → MemoryWhere asks.whole e → MemoryOnly (asks.whole ≡ true) kept r
whole_asked asks kept r e is keeps h = kept_asked (asks.whole ≡ true) kept r e is keeps h

-- what is never for lack of memory
pub none_asked_all : {X : Type 0} (P : Type 0) (kept : ReadError) (r : Result X Refused) → IfErr r (ReportsNoMemory kept) → IfErr r (MemoryOnly P kept)
none_asked_all P kept (Ok x) h = tt
none_asked_all P kept (Err r) h = none_asked P kept r h

-- what follows where memory may be asked for
pub asks_on : (asks : Asks) (P Q : Type 0) → (P → Q) → AsksWhere asks P → AsksWhere asks Q
asks_on asks P Q on (inl whole) = inl whole
asks_on asks P Q on (inr both) = inr (both.0, on both.1)

pub asked_where : (asks : Asks) (P Q : Type 0) (kept : ReadError) (r : Refused) → (P → Q) → MemoryOnly (AsksWhere asks P) kept r → MemoryOnly (AsksWhere asks Q) kept r
asked_where asks P Q kept r on = asked_on (AsksWhere asks P) (AsksWhere asks Q) kept r (asks_on asks P Q on)

-- memory is asked for in the one case only where it is in the other
pub err_asks : {X : Type 0} (asks : Asks) (P Q : Type 0) (kept : ReadError) (r : Result X Refused) → (P → Q) → IfErr r (MemoryOnly (AsksWhere asks P) kept) → IfErr r (MemoryOnly (AsksWhere asks Q) kept)
err_asks asks P Q kept r on = on_err r (MemoryOnly (AsksWhere asks P) kept) (MemoryOnly (AsksWhere asks Q) kept) (λ e. asked_where asks P Q kept e on)

pub err_whole : {X : Type 0} (asks : Asks) (Q : Type 0) (kept : ReadError) (r : Result X Refused) → IfErr r (MemoryOnly (asks.whole ≡ true) kept) → IfErr r (MemoryOnly (AsksWhere asks Q) kept)
err_whole asks Q kept r = on_err r (MemoryOnly (asks.whole ≡ true) kept) (MemoryOnly (AsksWhere asks Q) kept) (λ e. asked_on (asks.whole ≡ true) (AsksWhere asks Q) kept e (λ is. inl is))

pub err_joined : {X : Type 0} (asks : Asks) (Q : Type 0) (kept : ReadError) (r : Result X Refused) → Q → IfErr r (MemoryOnly (asks.joined ≡ true) kept) → IfErr r (MemoryOnly (AsksWhere asks Q) kept)
err_joined asks Q kept r q = on_err r (MemoryOnly (asks.joined ≡ true) kept) (MemoryOnly (AsksWhere asks Q) kept) (λ e. asked_on (asks.joined ≡ true) (AsksWhere asks Q) kept e (λ is. inr (is, q)))
