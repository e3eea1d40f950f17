-- What each request is answered.
use Rattle.std.specs.Prelude.{◌+◌}
use Rattle.std.specs.String.{string_len}
use Rattle.use_messages.specs.declared.messages.Reply.{Reply}
use Rattle.use_messages.specs.declared.messages.Reply.TheVariants.{Pong, Sum, Length}
use Rattle.use_messages.specs.declared.messages.Request.{Request}
use Rattle.use_messages.specs.declared.messages.Request.TheVariants.{Ping, Add, Measure}

abbrev pub reply_to : Request → Reply
reply_to Ping = Pong
reply_to (Add x y) = Sum (x + y)
reply_to (Measure text) = Length (string_len text)
