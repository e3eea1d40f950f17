use Rattle.std.proofs.Common.{rules, sym, take, arith}
use Rattle.cbor_serde_de.proofs.kept.Kept.take_some.Goals as goal

pub returns-in-Ok-extend_from_slice : goal.returns-in-Ok-extend_from_slice
returns-in-Ok-extend_from_slice g c = record {
  more = record {
    some = take c.in-Ok.count c.read.new.buf;
    taken = c.in-Ok.ensures.bytes.0;
    kept = search (rules, c.in-Ok-extend_from_slice.ensures.items);
  };
  count = sym c.in-Ok.ensures.bound.1;
  ended = λ none. c.in-Ok.ensures.bytes.1 none (omega arith);
}
