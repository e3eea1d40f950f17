-- The line has the bytes that were taken, and each was counted.
use Rattle.std.proofs.Common.{◌≡◌, ◌+◌, ◌-◌, ◌^◌, length}
use Rattle.std.specs.Io.KnownBytes.{Consumes}
use Rattle.cbor_tool.specs.RunSteps.{IsInLine}
use Rattle.cbor_tool.proofs.program.read_line.Given as goal

abbrev pub invariant-bytes : goal.invariant-bytes
invariant-bytes g l = record {
  in_line : IsInLine l.line.items;
  counted : l.taken ≡ l.initial.taken + length l.line.items;
  consumed : Consumes (g.R.Read.remaining l.initial.reader)
      (g.R.Read.remaining l.reader) l.line.items;
}

abbrev pub decreases-bytes : goal.decreases-bytes
decreases-bytes g l = 2 ^ 64 - l.taken
