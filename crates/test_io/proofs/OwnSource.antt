-- What proves a source of one's own.
use Rattle.std.proofs.Common.{◌≡◌, ℕ, List, length, sym}
use Rattle.std.proofs.lemmas.Str.{utf8_valid_len-IsUtf8}
use Rattle.std.specs.Str.{IsUtf8}
use Rattle.std.specs.Str.Lossy.{utf8_valid_len}
-- a call that appends was refused, and took nothing
pub use Rattle.cbor_read.proofs.facts.Sources.{none_taken}

-- a text is UTF-8 up to its end
pub all_valid : (b : List ℕ) → IsUtf8 b → length b ≡ utf8_valid_len b
all_valid b is = sym (utf8_valid_len-IsUtf8 b is)
