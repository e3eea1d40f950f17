-- Lines, taken one after the other, are the lines of all that was taken.
use Rattle.std.proofs.Common.{◌≡◌, ◌≢◌, ℕ, ◌==◌, false, List, [], ◌∷◌, ◌++◌, refl, sym, ap, ◌∙◌}
use Rattle.std.proofs.Common.{append_assoc, append-nil}
use Rattle.std.proofs.lemmas.Bool.{ne_eqb}
use Rattle.std.proofs.lemmas.List.Elements.{All-head, All-tail}
use Rattle.cbor_tool.specs.Answer.{lines}
use Rattle.cbor_tool.specs.Run.{ended_lines}
use Rattle.cbor_tool.specs.RunSteps.{IsInLine}

not_end : (b : ℕ) (line : List ℕ) → IsInLine (b ∷ line) → (b == 0x0a) ≡ false
not_end b line h = ne_eqb b 0x0a (All-head (λ x. x ≢ 0x0a) b line h)

after_first : (b : ℕ) (line : List ℕ) → IsInLine (b ∷ line) → IsInLine line
after_first b line h = All-tail (λ x. x ≢ 0x0a) b line h

pub lines-line : (line rest : List ℕ) → IsInLine line
    → lines (line ++ 0x0a ∷ rest) ≡ line ∷ lines rest
lines-line [] rest h = refl
lines-line (b ∷ line) rest h =
    rw (not_end b line h, lines-line line rest (after_first b line h)) refl

pub lines-last : (b : ℕ) (line : List ℕ) → IsInLine (b ∷ line) → lines (b ∷ line) ≡ (b ∷ line) ∷ []
lines-last b [] h = rw (not_end b [] h) refl
lines-last b (x ∷ line) h =
    rw (not_end b (x ∷ line) h, lines-last x line (after_first b (x ∷ line) h)) refl

pub ended_lines-line : (line rest : List ℕ) → IsInLine line
    → ended_lines (line ++ 0x0a ∷ rest) ≡ line ∷ ended_lines rest
ended_lines-line [] rest h = refl
ended_lines-line (b ∷ line) rest h =
    rw (not_end b line h, ended_lines-line line rest (after_first b line h)) refl

pub ended_lines-last : (line : List ℕ) → IsInLine line → ended_lines line ≡ []
ended_lines-last [] h = refl
ended_lines-last (b ∷ line) h =
    rw (not_end b line h, ended_lines-last line (after_first b line h)) refl

-- bytes that end where a line ends
pub record IsWhole (bytes : List ℕ) : Type 0 where
  pub before : (more : List ℕ) → lines (bytes ++ more) ≡ lines bytes ++ lines more
  pub ended_before : (more : List ℕ) → ended_lines (bytes ++ more) ≡ lines bytes ++ ended_lines more

pub IsWhole-nil : IsWhole []
IsWhole-nil = record { before = λ more. refl; ended_before = λ more. refl }

pub ended_lines-whole : (bytes : List ℕ) → IsWhole bytes → ended_lines bytes ≡ lines bytes
ended_lines-whole bytes whole = ap ended_lines (sym (append-nil bytes)) ∙ whole.ended_before []
    ∙ append-nil (lines bytes)

pub lines-whole_line : (bytes line : List ℕ) → IsWhole bytes → IsInLine line
    → lines (bytes ++ (line ++ 0x0a ∷ [])) ≡ lines bytes ++ line ∷ []
lines-whole_line bytes line whole h = whole.before (line ++ 0x0a ∷ [])
    ∙ ap (λ l. lines bytes ++ l) (lines-line line [] h)

pub IsWhole-line : (bytes line : List ℕ) → IsWhole bytes → IsInLine line
    → IsWhole (bytes ++ (line ++ 0x0a ∷ []))
IsWhole-line bytes line whole h =
    let apart : (more : List ℕ)
    → (bytes ++ (line ++ 0x0a ∷ [])) ++ more ≡ bytes ++ (line ++ 0x0a ∷ more) =
    λ more. append_assoc bytes (line ++ 0x0a ∷ []) more
    ∙ ap (λ l. bytes ++ l) (append_assoc line (0x0a ∷ []) more) in
    record {
      before = λ more.
          ap lines (apart more) ∙ whole.before (line ++ 0x0a ∷ more)
          ∙ ap (λ l. lines bytes ++ l) (lines-line line more h)
          ∙ sym (append_assoc (lines bytes) (line ∷ []) (lines more))
          ∙ ap (λ l. l ++ lines more) (sym (lines-whole_line bytes line whole h));
      ended_before = λ more.
          ap ended_lines (apart more) ∙ whole.ended_before (line ++ 0x0a ∷ more)
          ∙ ap (λ l. lines bytes ++ l) (ended_lines-line line more h)
          ∙ sym (append_assoc (lines bytes) (line ∷ []) (ended_lines more))
          ∙ ap (λ l. l ++ ended_lines more) (sym (lines-whole_line bytes line whole h));
    }
