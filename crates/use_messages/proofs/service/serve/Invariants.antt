-- Each request that was taken has its reply.
use Rattle.std.proofs.Common.{◌≡◌, ℕ, ◌-◌, ◌^◌, List}
use Rattle.serde_cbor.specs.Gives.{Gave}
use Rattle.serde_cbor.specs.Sources.{input_of_reader}
use Rattle.serde_cbor.specs.Streams.{standing}
use Rattle.use_messages.proofs.Requests.{reads, reply}
use Rattle.use_messages.proofs.Serving.{HasServed}
use Rattle.use_messages.proofs.service.serve.Given as goal

abbrev pub invariant-requests : goal.invariant-requests
invariant-requests g l = record {
  served : (bytes : List ℕ) → Gave (g.R.Read.remaining l.fn.reader) bytes
      → HasServed reads reply bytes (standing (input_of_reader g.R.Read.remaining) l.stream)
      (g.W.Write.contents l.initial.writer) (g.W.Write.contents l.writer);
  at : l.at ≡ (standing (input_of_reader g.R.Read.remaining) l.stream).input.offset;
}

abbrev pub decreases-requests : goal.decreases-requests
decreases-requests g l = 2 ^ 64 - (standing (input_of_reader g.R.Read.remaining) l.stream).input.offset
