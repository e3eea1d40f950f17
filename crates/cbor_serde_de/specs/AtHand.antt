-- What is read by the bytes at hand.
use Rattle.std.specs.Prelude.{◌≡◌, ◌<◌, ◌+◌, ◌∷◌, ◌++◌, ℕ, suc, List, length}
use Rattle.cbor_model.specs.Raw.{AreBytes}
use Rattle.cbor_decode.specs.declared.cursor.Remaining.TheVariants.{Counted}
use Rattle.cbor_serde_de.specs.declared.cbor.Cbor.{Cbor}

-- a text of up to 23 bytes stands in front: its head, and then its bytes
pub record BeginsText (ahead text : List ℕ) : Type 0 where
  pub rest : List ℕ
  pub parts : ahead ≡ (0x60 + length text) ∷ (text ++ rest)
  pub small : length text < 24
  pub are_bytes : AreBytes text

-- one of those that remain of what is innermost was counted, and nothing else changed
pub record CountsDown (old new : Cbor) : Type 0 where
  pub left : ℕ
  pub due : old.innermost.remaining ≡ Counted (suc left)
  pub counted : new ≡ record old { innermost = record old.innermost { remaining = Counted left } }
