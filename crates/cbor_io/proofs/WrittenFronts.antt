-- What was written of some bytes, front by front.
use Rattle.std.proofs.Common.{◌≡◌, ℕ, ◌-◌, List, ◌++◌, length, take, drop, Option, ap, ◌∙◌}
use Rattle.std.proofs.Common.{append_assoc, length-drop, take-append-drop}
use Rattle.std.proofs.Math.Seq.{take-length}
use Rattle.std.specs.Io.KnownBytes.{Appends}
use Rattle.std.proofs.KnownBytes.{Appends-trans}

-- Of the bytes, the front was written, and the rest is left.
pub record WritesFront (bytes rest : List ℕ) (old new : Option (List ℕ)) : Type 0 where
  pub front : List ℕ
  pub parts : front ++ rest ≡ bytes
  pub written : Appends old new front

-- a range up to the end
range_to_end : (count : ℕ) (bytes : List ℕ)
    → take (length bytes - count) (drop count bytes) ≡ drop count bytes
range_to_end count bytes = rw (← length-drop count bytes) (take-length (drop count bytes))

pub WritesFront-more : (bytes rest : List ℕ) (count : ℕ) (a b c : Option (List ℕ))
    → WritesFront bytes rest a b → Appends b c (take count rest)
    → WritesFront bytes (take (length rest - count) (drop count rest)) a c
WritesFront-more bytes rest count a b c before more =
    record {
      front = before.front ++ take count rest;
      parts = append_assoc before.front (take count rest)
          (take (length rest - count) (drop count rest))
          ∙ ap (λ l. before.front ++ (take count rest ++ l)) (range_to_end count rest)
          ∙ ap (λ l. before.front ++ l) (take-append-drop count rest) ∙ before.parts;
      written = Appends-trans a b c before.front (take count rest) before.written more;
    }
