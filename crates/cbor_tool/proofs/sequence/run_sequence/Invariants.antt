-- Each item that was taken was answered.
use Rattle.std.proofs.Common.{◌≡◌, ℕ, ◌-◌, ◌^◌, List, false}
use Rattle.cbor_model.specs.Acceptable.{max_depth}
use Rattle.cbor_model.specs.Formats.{all_formats}
use Rattle.serde_cbor.specs.Gives.{Gave}
use Rattle.serde_cbor.specs.Sources.{input_of_reader}
use Rattle.serde_cbor.specs.Streams.{standing}
use Rattle.cbor_tool.proofs.Sequences.{SoFar}
use Rattle.cbor_tool.proofs.sequence.run_sequence.Given as goal

abbrev pub invariant-items : goal.invariant-items
invariant-items g l = record {
  far : (input : List ℕ) → Gave (g.R.Read.remaining l.fn.reader) input
      → SoFar l.fn.form input (standing (input_of_reader g.R.Read.remaining) l.stream).input
      (g.W.Write.contents l.initial.writer) (g.W.Write.contents l.writer);
  levels : (standing (input_of_reader g.R.Read.remaining) l.stream).levels ≡ max_depth;
  formats : (standing (input_of_reader g.R.Read.remaining) l.stream).formats ≡ all_formats;
  going : (standing (input_of_reader g.R.Read.remaining) l.stream).done ≡ false;
}

abbrev pub decreases-items : goal.decreases-items
decreases-items g l = 2 ^ 64 - (standing (input_of_reader g.R.Read.remaining) l.stream).input.offset
