use Rattle.std.proofs.Common.{◌≡◌, ◌∙◌, ◌-◌, ◌%◌, ℕ, Ok, sym, ap, arith}
use Rattle.std.proofs.lemmas.Result.{err_from_is_err_and}
use Rattle.cbor_model.specs.Major.{major_of}
use Rattle.cbor_model.specs.Reader.{number_behind}
use Rattle.cbor_io.specs.Head.{major_number}
use Rattle.cbor_io.specs.declared.head.Major.TheVariants.{UnsignedInteger, NegativeInteger, ByteString, TextString, Array, Map, Tag}
use Rattle.cbor_decode.specs.Heads.{head_at, head_of, simple_head}
use Rattle.cbor_decode.proofs.Steps.{step_map, step_same, stopped_map, head_map}
use Rattle.cbor_decode.proofs.ShortHeads.{short_head}
use Rattle.cbor_decode.proofs.Heads.{is_tag, first_simple, first_indefinite, first_stops, first_is}
use Rattle.cbor_decode.proofs.Decoder.head.Goals as goal

pub returns-in-96-to-119-clause-read : goal.returns-in-96-to-119-clause-read
returns-in-96-to-119-clause-read g c =
    let here = c.in-96-to-119 in
    step_same _ _ (λ l bs. short_head c.args.first (c.args.first - 96) TextString (λ e. absurd cc) (omega (arith, here)) (omega (arith, here)) (omega (arith, here)) bs)

pub returns-in-Simple-clause-read : goal.returns-in-Simple-clause-read
returns-in-Simple-clause-read g c =
    head_map g.R.Source.refusals (simple_head (c.args.first % 32)) (head_at c.args.first) _ _ _ _ (λ bs. first_simple c.args.first bs (sym c.in-Simple.ensures)) c.simple.ensures.read

pub returns-then-low-eq-INDEFINITE-clause-read : goal.returns-then-low-eq-INDEFINITE-clause-read
returns-then-low-eq-INDEFINITE-clause-read g c =
    let major = c.of-major.ensures in
    head_map g.R.Source.refusals (head_of (major_of (major_number c.of-major.result)) 31) (head_at c.args.first) _ _ _ _
    (λ bs. first_indefinite c.args.first bs c.if-low-eq-INDEFINITE.true ∙ ap (λ (k : ℕ). head_of (major_of k) 31 bs) (sym major)) c.indefinite.ensures.read

pub returns-in_err-n-clause-read : goal.returns-in_err-n-clause-read
returns-in_err-n-clause-read g c =
    let passed = err_from_is_err_and c.from_residual.result c.from_residual.ensures.1 in
    rw (passed.1, passed.2) (stopped_map g.R.Source.refusals (λ l. number_behind (c.args.first % 32)) (λ l. head_at c.args.first) _ _ _ (λ l bs f is. first_stops c.args.first bs f c.of-major.result c.in_default-major.not-Simple c.if-low-eq-INDEFINITE.false c.of-major.ensures is) c.in_err-n.ensures.read)

pub returns-in-UnsignedInteger-clause-read : goal.returns-in-UnsignedInteger-clause-read
returns-in-UnsignedInteger-clause-read g c =
    step_map _ _ (λ l bs rest. number_behind (c.args.first % 32) bs ≡ Ok (c.in_ok-n.n, rest)) _ (λ l bs rest is. first_is c.args.first bs rest c.in_ok-n.n UnsignedInteger (λ e. absurd cc) c.if-low-eq-INDEFINITE.false c.in-UnsignedInteger.ensures is) c.in_ok-n.ensures.read

pub returns-in-NegativeInteger-clause-read : goal.returns-in-NegativeInteger-clause-read
returns-in-NegativeInteger-clause-read g c =
    step_map _ _ (λ l bs rest. number_behind (c.args.first % 32) bs ≡ Ok (c.in_ok-n.n, rest)) _ (λ l bs rest is. first_is c.args.first bs rest c.in_ok-n.n NegativeInteger (λ e. absurd cc) c.if-low-eq-INDEFINITE.false c.in-NegativeInteger.ensures is) c.in_ok-n.ensures.read

pub returns-in-ByteString-clause-read : goal.returns-in-ByteString-clause-read
returns-in-ByteString-clause-read g c =
    step_map _ _ (λ l bs rest. number_behind (c.args.first % 32) bs ≡ Ok (c.in_ok-n.n, rest)) _ (λ l bs rest is. first_is c.args.first bs rest c.in_ok-n.n ByteString (λ e. absurd cc) c.if-low-eq-INDEFINITE.false c.in-ByteString.ensures is) c.in_ok-n.ensures.read

pub returns-in-TextString-clause-read : goal.returns-in-TextString-clause-read
returns-in-TextString-clause-read g c =
    step_map _ _ (λ l bs rest. number_behind (c.args.first % 32) bs ≡ Ok (c.in_ok-n.n, rest)) _ (λ l bs rest is. first_is c.args.first bs rest c.in_ok-n.n TextString (λ e. absurd cc) c.if-low-eq-INDEFINITE.false c.in-TextString.ensures is) c.in_ok-n.ensures.read

pub returns-in-Array-clause-read : goal.returns-in-Array-clause-read
returns-in-Array-clause-read g c =
    step_map _ _ (λ l bs rest. number_behind (c.args.first % 32) bs ≡ Ok (c.in_ok-n.n, rest)) _ (λ l bs rest is. first_is c.args.first bs rest c.in_ok-n.n Array (λ e. absurd cc) c.if-low-eq-INDEFINITE.false c.in-Array.ensures is) c.in_ok-n.ensures.read

pub returns-in-Map-clause-read : goal.returns-in-Map-clause-read
returns-in-Map-clause-read g c =
    step_map _ _ (λ l bs rest. number_behind (c.args.first % 32) bs ≡ Ok (c.in_ok-n.n, rest)) _ (λ l bs rest is. first_is c.args.first bs rest c.in_ok-n.n Map (λ e. absurd cc) c.if-low-eq-INDEFINITE.false c.in-Map.ensures is) c.in_ok-n.ensures.read

pub returns-in_default-major-2-clause-read : goal.returns-in_default-major-2-clause-read
returns-in_default-major-2-clause-read g c =
    let d = c.in_default-major-2 in
    let six = is_tag c.of-major.result c.in_default-major.not-Simple d.not-UnsignedInteger d.not-NegativeInteger d.not-ByteString d.not-TextString d.not-Array d.not-Map in
    step_map _ _ (λ l bs rest. number_behind (c.args.first % 32) bs ≡ Ok (c.in_ok-n.n, rest)) _ (λ l bs rest is. first_is c.args.first bs rest c.in_ok-n.n Tag (λ e. absurd cc) c.if-low-eq-INDEFINITE.false (sym six ∙ c.of-major.ensures) is) c.in_ok-n.ensures.read
