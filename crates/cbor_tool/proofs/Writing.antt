-- What was written of some bytes, and of a line's answer.
use Rattle.std.proofs.Common.{◌≡◌, ℕ, ◌-◌, List, [], ◌∷◌, ◌++◌, length, take, drop, Option, refl}
use Rattle.std.proofs.Common.{ap, ◌∙◌, append_assoc, append-nil, length-drop, take-append-drop}
use Rattle.std.proofs.Math.Seq.{take-length}
use Rattle.std.specs.Io.KnownBytes.{Appends, Keeps}
use Rattle.std.proofs.KnownBytes.{Appends-trans, Appends-kept}
use Rattle.cbor_tool.specs.Answer.{Answered, IsAnswer}
use Rattle.cbor_tool.specs.Run.{AppendsAnswers, AppendsUpTo}

-- ---- bytes, front by front

-- Of the bytes, the front was written, and the rest is left.
pub record WritesFront (bytes rest : List ℕ) (writer writer' : Option (List ℕ)) : Type 0 where
  pub front : List ℕ
  pub parts : front ++ rest ≡ bytes
  pub written : Appends writer writer' front

-- a range up to the end
range_to_end : (count : ℕ) (bytes : List ℕ)
    → take (length bytes - count) (drop count bytes) ≡ drop count bytes
range_to_end count bytes = rw (← length-drop count bytes) (take-length (drop count bytes))

pub WritesFront-more : (bytes rest : List ℕ) (count : ℕ) (a b c : Option (List ℕ))
    → WritesFront bytes rest a b → Appends b c (take count rest)
    → WritesFront bytes (take (length rest - count) (drop count rest)) a c
WritesFront-more bytes rest count a b c before more =
    record {
      front = before.front ++ take count rest;
      parts = append_assoc before.front (take count rest)
          (take (length rest - count) (drop count rest))
          ∙ ap (λ l. before.front ++ (take count rest ++ l)) (range_to_end count rest)
          ∙ ap (λ l. before.front ++ l) (take-append-drop count rest) ∙ before.parts;
      written = Appends-trans a b c before.front (take count rest) before.written more;
    }

-- ---- a line's answer

module _ (A : Answered) where
  pub AppendsUpTo-whole : (line answer bytes : List ℕ) (a b c : Option (List ℕ))
      → IsAnswer A line answer → bytes ≡ answer ++ 0x0a ∷ [] → Appends a b bytes → Keeps b c
      → AppendsUpTo A [] line a c
  AppendsUpTo-whole line answer bytes a b c is parts grown kept =
      record {
        output = [];
        begun = bytes;
        answers = refl;
        begins = record { missing = []; whole = (answer, [], is, append-nil bytes ∙ parts, refl) };
        written = Appends-kept a b c bytes grown kept;
      }

  pub AppendsUpTo-append : (before : List (List ℕ)) (last : List ℕ) (a b c : Option (List ℕ))
      → AppendsAnswers A before a b → AppendsUpTo A [] last b c
      → AppendsUpTo A before last a c
  AppendsUpTo-append before last a b c (output, are, grown) up =
      record {
        output = output;
        begun = up.begun;
        answers = are;
        begins = up.begins;
        written = Appends-trans a b c output up.begun grown (rw up.answers at up.written);
      }
