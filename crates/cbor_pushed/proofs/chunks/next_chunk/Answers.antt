use Rattle.std.proofs.Common.{◌≡◌, ◌-◌, ℕ, List, length, Err, sym, subst, arith}
use Rattle.cbor_model.specs.Raw.{AreBytes}
use Rattle.cbor_model.specs.Reader.{ended}
use Rattle.cbor_model.proofs.facts.HeadNumbers.{AreBytes-rest}
use Rattle.cbor_pushed.specs.Scanned.{HasChunk, chunks_to, last}
use Rattle.cbor_pushed.proofs.Chunked.{none_come, number_cut, content_cut, whole_chunk}
use Rattle.cbor_pushed.proofs.Lasts.{empty_list, length-last}
use Rattle.cbor_pushed.proofs.chunks.next_chunk.Goals as goal

pub returns-in_default : goal.returns-in_default
returns-in_default c = λ have.
    let none = empty_list c.args.bytes.now c.in_default.ensures.cases in
    subst (λ (l : List ℕ). chunks_to have c.args.major l ≡ Err ended) (sym none) (none_come have c.args.major)

pub returns-in_default-number : goal.returns-in_default-number
returns-in_default-number c = λ have.
    let b = c.in-Some.first.now in
    let cut = number_cut c.args.major b c.in-Some.behind.now c.if-first-major.false c.if-first-ge28.false have (c.in_default-number.ensures c.if-first-ge28.false) in
    subst (λ (l : List ℕ). chunks_to have c.args.major l ≡ Err ended) (sym c.in-Some.ensures.cases.0) cut

pub returns-then-left-n : goal.returns-then-left-n
returns-then-left-n c = λ have.
    let b = c.in-Some.first.now in
    let bs = c.in-Some.behind.now in
    let n = c.in-Some-number.n in
    let left = c.in-Some-number.left in
    let is = c.in-Some-number.ensures in
    let cut = content_cut c.args.major b bs c.if-first-major.false c.if-first-ge28.false n (last left bs) is.1 have (omega (arith, length-last left bs is.2, c.if-left-n.true)) in
    subst (λ (l : List ℕ). chunks_to have c.args.major l ≡ Err ended) (sym c.in-Some.ensures.cases.0) cut

pub returns : goal.returns
returns c =
    let b = c.in-Some.first.now in
    let bs = c.in-Some.behind.now in
    let n = c.in-Some-number.n in
    let left = c.in-Some-number.left in
    let all : AreBytes c.args.bytes.now = λ i. omega (arith, c.type_inv.bytes i) in
    let fits = AreBytes-rest b bs (subst AreBytes c.in-Some.ensures.cases.0 all) in
    let whole = whole_chunk c.args.major b bs fits c.if-first-major.false n left c.in-Some-number.ensures c.if-left-n.false in
    subst (λ (l : List ℕ). HasChunk c.args.major (length l - (left - n)) l) (sym c.in-Some.ensures.cases.0) whole
