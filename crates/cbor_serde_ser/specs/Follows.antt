-- Where a writer stands that was sent these events; for private clauses.
use Rattle.std.specs.Prelude.{◌≡◌, Some, option_and_then}
use Rattle.serde.specs.Event.{Log}
use Rattle.cbor_serde_ser.specs.Document.{State, start, run}
use Rattle.cbor_serde_options.specs.declared.options.Options.{Options}

-- Where the events are known, they lead from the beginning to this state. (An equation, as a ghost
-- field wants it.)
abbrev pub Follows : Options → Log → State → Type 0
Follows o log s = option_and_then (run o start) log ≡ option_and_then (λ es. Some s) log
