-- As which request an item is read, and the bytes of the reply to it.
use Rattle.std.proofs.Common.{ℕ, List, false}
use Rattle.serde_cbor.specs.Document.{document_bytes}
use Rattle.serde_cbor.specs.Raw.{Raw}
use Rattle.serde_cbor.specs.Readable.{Context}
use Rattle.use_messages.specs.Replies.{reply_to}
use Rattle.use_messages.specs.declared.messages.Request.{Request}
use Rattle.use_messages.specs.contracts.messages.ReplySerialize.TheImpl as replies
use Rattle.use_messages.specs.contracts.messages.RequestReadable.TheImpl as requests

abbrev pub reads : Context → Raw → Request → Type 0
reads = requests.ghosts.reads

abbrev pub reply : Request → List ℕ
reply q = document_bytes (replies.ghosts.document (reply_to q)) false false
