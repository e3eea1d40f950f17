use Rattle.std.proofs.Common.{◌+◌, ◌^◌, ◌<◌, arith, length, subst}
use Rattle.cbor_model.specs.Raw.{AreBytes}
use Rattle.cbor_model.specs.Canonical.{canon}
use Rattle.cbor_convert.specs.Meaning.{value_of}
use Rattle.cbor_forms.specs.Shortened.{shortened}
use Rattle.cbor_forms.specs.declared.values.Form.TheVariants.{Core}
use Rattle.cbor_rules.proofs.ReadBack.{in_reading, in_writing, is_read, readable, unwritten}
use Rattle.cbor_rules.proofs.written.write_and_read_deterministic.Goals as goal

pub returns-in_err-bytes-clause-read_back : goal.returns-in_err-bytes-clause-read_back
returns-in_err-bytes-clause-read_back g c stored kept nests =
    unwritten Core _ _ _ c.from_residual.result _ c.from_residual.ensures.1 c.in_err-bytes.ensures.refused stored kept

pub returns-in_err-bytes-clause-refused : goal.returns-in_err-bytes-clause-refused
returns-in_err-bytes-clause-refused g c =
    in_writing Core canon (g.T.Serialize.document c.args.value.now) c.from_residual.result _ c.from_residual.ensures.1 c.in_err-bytes.ensures.refused

pub returns-clause-read_back : goal.returns-clause-read_back
returns-clause-read_back g c stored kept =
    let d = g.T.Serialize.document c.args.value.now in
    let v = shortened (value_of d) in
    let bytes = c.in_ok-bytes.bytes in
    let short : length bytes.items + 1 < 2 ^ 64 = omega (arith, bytes.small) in
    let are = subst AreBytes c.deref.ensures.value c.are_bytes.ensures.bytes in
    let written = c.in_ok-bytes.ensures.deterministic in
    let every = rw c.deref-2.ensures.value at c.from_slice_with.ensures.answers.every in
    is_read _ bytes.items v short are c.in_ok-bytes.ensures.encoded
    (λ is. c.deterministic_written_is_accepted.ensures.kept bytes.items v (omega (arith, short)) is (c.shortened_has_shortest_floats.ensures _, written.written))
    c.from_slice_with.result every

pub returns-clause-readable : goal.returns-clause-readable
returns-clause-readable g c =
    let d = g.T.Serialize.document c.args.value.now in
    let v = shortened (value_of d) in
    let bytes = c.in_ok-bytes.bytes in
    let short : length bytes.items + 1 < 2 ^ 64 = omega (arith, bytes.small) in
    let are = subst AreBytes c.deref.ensures.value c.are_bytes.ensures.bytes in
    let written = c.in_ok-bytes.ensures.deterministic in
    let found = rw c.deref-2.ensures.value at c.from_slice_with.ensures.answers.found in
    readable Core canon d _ (c.in_ok-bytes.ensures.storable, c.in_ok-bytes.ensures.kept) bytes.items short are written.written c.in_ok-bytes.ensures.encoded
    (λ is. c.deterministic_written_is_accepted.ensures.kept bytes.items v (omega (arith, short)) is (c.shortened_has_shortest_floats.ensures _, written.written))
    c.from_slice_with.result found

pub returns-clause-refused : goal.returns-clause-refused
returns-clause-refused g c =
    let d = g.T.Serialize.document c.args.value.now in
    let v = shortened (value_of d) in
    let bytes = c.in_ok-bytes.bytes in
    let short : length bytes.items + 1 < 2 ^ 64 = omega (arith, bytes.small) in
    let are = subst AreBytes c.deref.ensures.value c.are_bytes.ensures.bytes in
    let written = c.in_ok-bytes.ensures.deterministic in
    let first = rw c.deref-2.ensures.value at c.from_slice_with.ensures.answers.first in
    let departed = rw c.deref-2.ensures.value at c.from_slice_with.ensures.answers.departed in
    in_reading Core canon d _ (c.in_ok-bytes.ensures.storable, c.in_ok-bytes.ensures.kept) bytes.items short are written.written c.in_ok-bytes.ensures.encoded
    (λ is. c.deterministic_written_is_accepted.ensures.kept bytes.items v (omega (arith, short)) is (c.shortened_has_shortest_floats.ensures _, written.written))
    c.from_slice_with.result first departed
