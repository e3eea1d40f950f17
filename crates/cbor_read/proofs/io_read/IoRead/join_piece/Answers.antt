use Rattle.std.proofs.Common.{rules, refl}
use Rattle.cbor_read.specs.Sources.{input_of_reader}
use Rattle.cbor_read.proofs.Lengthened.{all_lost}
use Rattle.cbor_read.proofs.io_read.IoRead.join_piece.Goals as goal

pub returns-then-count-eq0-clause-kept : goal.returns-then-count-eq0-clause-kept
returns-then-count-eq0-clause-kept g c = all_lost _ _ _ _ c.in_ok-count.ensures.took.1 refl refl refl

pub returns-in_err-extend_from_slice-clause-kept : goal.returns-in_err-extend_from_slice-clause-kept
returns-in_err-extend_from_slice-clause-kept g c =
    let taken = c.take_piece.new.self in
    let left = input_of_reader g.R.Read.remaining
    (record {
      reader = taken.reader;
      buffer = c.extend_from_slice.new.self;
      peeked = taken.peeked;
      offset = taken.offset;
    }) in
    search (
      rules,
      all_lost _ _ left _ c.in_ok-count.ensures.took.1 refl refl
          c.in_err-extend_from_slice.ensures.items,
    )
