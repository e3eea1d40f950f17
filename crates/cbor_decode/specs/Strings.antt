-- Chunks that are joined in the buffer of a source.
use Rattle.std.specs.Prelude.{◌≡◌, ℕ, Bool, List, ◌++◌, length, Result, Ok, Err, ◌+◌, ◌-◌}
use Rattle.std.specs.Prelude.{◌≤◌}
use Rattle.std.specs.Prelude.{String, ◌==◌, if◌then◌else◌}
use Rattle.std.specs.Global.{Global}
use Rattle.std.specs.Str.Lossy.{utf8_valid_len}
use Rattle.std.specs.String.{string_bytes}
use Rattle.cbor_model.specs.Plain.{Val, text}
use Rattle.cbor_model.specs.Raw.{Chunk}
use Rattle.cbor_model.specs.Reader.{Reads, ◌>>=◌}
use Rattle.cbor_model.specs.Refusal.{invalid_utf8}
use Rattle.cbor_io.specs.declared.read_error.ReadError.{ReadError}
use Rattle.cbor_io.specs.declared.read_error.ReadErrorCode.{ReadErrorCode}
use Rattle.cbor_read.specs.Source.{Input}
use Rattle.cbor_decode.specs.Gives.{Limits, Step, Stopped}
use Rattle.cbor_decode.specs.declared.refusal.Refused.{Refused}

-- the value of a text
abbrev pub text_view : String Global → Val
text_view s = text (string_bytes s)

-- the bytes of a chunk that is read
abbrev pub content : Reads Chunk → Reads (List ℕ)
content read = read >>= (λ c. Ok (c.0.bytes, c.1))

-- A chunk was read after so many bytes of chunks, and its bytes were joined to the buffer; or why not.
pub record ChunkStep (read : Limits → ℕ → List ℕ → Reads Chunk) (s t : Input) : Type 0 where
  pub some : List ℕ
  pub buffer : t.buffer ≡ s.buffer ++ some
  pub step : Step s t (λ l bs rest. content (read l (length s.buffer) bs) ≡ Ok (some, rest))
  pub counted : s.offset + length some ≤ t.offset

abbrev pub ChunkGives : (ReadErrorCode → Bool) → (Limits → ℕ → List ℕ → Reads Chunk) → Input
    → Input → ReadError → Result (Unit {0}) Refused → Type 0
ChunkGives refusals read s t kept (Ok u) = ChunkStep read s t
ChunkGives refusals read s t kept (Err r) =
    Stopped refusals (λ l. read l (length s.buffer)) s t kept r

-- ---- texts of which nothing is kept

-- how many of the bytes that are read stand from the first on that isn't UTF-8
abbrev pub bad_of : Reads (List ℕ) → Reads ℕ
bad_of read = read >>= (λ b. Ok (length b.0 - utf8_valid_len b.0, b.1))

-- After a text of which so many bytes stand from the first on that isn't UTF-8.
abbrev pub checked_by : ℕ → List ℕ → Reads (Unit {0})
checked_by bad bs =
    if bad == 0 then Ok (tt, bs)
    else Err (record { why = invalid_utf8; left = length bs + bad })
