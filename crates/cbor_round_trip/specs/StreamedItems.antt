-- The items whose values a stream has given, of bytes that begin with them one after the other.
use Rattle.std.specs.Prelude.{◌≡◌, ℕ, List, length, flat_map}
use Rattle.cbor_model.specs.Acceptable.{max_depth}
use Rattle.cbor_model.specs.Plain.{Val}
use Rattle.cbor_model.specs.Raw.{Raw}
use Rattle.cbor_model.specs.Spelling.{spell}
use Rattle.cbor_model.specs.Value.{value}
use Rattle.cbor_de.specs.Items.{ItemsBegin}
use Rattle.cbor_de.specs.Streamed.{HasStreamed}
use Rattle.cbor_de.specs.Streams.{Stream}

-- A stream over a reader that gave these bytes, of a type that stands for the items' values, has
-- given the values of these items and no error. The rest is still to come, at this offset.
pub record HasStreamedItems {A : Type 0} (view : A → Val) (bytes : List ℕ) (items : List Raw)
    (s : Stream) : Type 0 where
  pub values : List A
  pub given : HasStreamed (λ r x. view x ≡ value r) bytes values s
  pub begin : ItemsBegin max_depth bytes items given.rest
  pub place : s.input.offset ≡ length (flat_map spell items)
