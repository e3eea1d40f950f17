-- What makes a text the answer to a line, and answers that follow others.
use Rattle.std.proofs.Common.{◌≡◌, ◌⊎◌, ℕ, List, [], ◌∷◌, ◌++◌, Option, None, Result, Ok, Err, inl, inr}
use Rattle.std.proofs.Common.{refl, sym, ap, ◌∙◌, arith, append_assoc}
use Rattle.std.specs.Prelude.{codes, IfErr}
use Rattle.std.specs.Io.KnownBytes.{Appends, Keeps}
use Rattle.std.proofs.KnownBytes.{Appends-nil, Appends-trans, Appends-kept}
use Rattle.hex.specs.Hex.{decode_of}
use Rattle.hex.specs.declared.error.FromHexError.{FromHexError}
use Rattle.cbor_model.specs.Plain.{Val}
use Rattle.cbor_model.specs.Canonical.{IsStorable}
use Rattle.cbor_model.specs.Refusal.{Refusal, words, at_offset, end_in_value, end_in_array, end_in_map, length_out_of_range, invalid_utf8, unassigned_code, unexpected_code, trailing_data, too_deep, scratch_too_small, wrong_struct_format}
use Rattle.cbor_model.specs.Allowed.{limits_of}
use Rattle.cbor_model.specs.Value.{value}
use Rattle.cbor_model.specs.Laws.{SpellsValue}
use Rattle.cbor_tool.specs.Answer.{hex, Answered, IsAnswer, AreAnswers, IsRefusalText, strict_words}
use Rattle.cbor_tool.specs.Answer.{refused, hexadecimal, not_hexadecimal}
use Rattle.cbor_model.specs.Document.{document_of, IsStorableDocument}
use Rattle.cbor_model.proofs.facts.Laws.{value_is_storable}
use Rattle.cbor_model.proofs.facts.Documents.{storable_document}
use Rattle.serde_cbor.specs.declared.error.ErrorCode.{ErrorCode}
use Rattle.serde_cbor.specs.declared.error.ErrorCode.TheVariants.{Message, OutOfMemory}
use Rattle.serde_cbor.specs.declared.error.Error.{Error}
use Rattle.serde_cbor.specs.Error.{code_of, offset_of, code_text, error_text, IsOutOfMemory}
use Rattle.serde_cbor.specs.FirstRefusal.{refusal_code, ReportsFirst}
use Rattle.serde_cbor.specs.StrictRefusals.{StrictRefusal, ordinary, not_canonical}
use Rattle.serde_cbor.specs.StrictAnswers.{strict_code}
use Rattle.serde_cbor.specs.Written.{IsRefusedBy, IsNotWritten}
use Rattle.cbor_tool.specs.Run.{AppendsAnswers}
use Rattle.cbor_tool.specs.declared.program.Mode.{Mode}
use Rattle.cbor_tool.specs.declared.program.Preset.{Preset}
use Rattle.cbor_tool.specs.declared.program.Mode.TheVariants.{Lenient, Strict, Diagnose}
use Rattle.cbor_tool.specs.declared.program.Mode.TheVariants.{DiagnosePretty, ByRules}
use Rattle.cbor_tool.specs.RunSteps.{answered_in, shown_in, IsRefusalIn, SpellsIn, ReportsIn}
use Rattle.cbor_tool.proofs.Hexadecimal.{IsHexOf-decoded, decode_of-hex}

-- ---- one answer

-- a refusal's code has its words
words_of : (why : Refusal) → code_text (refusal_code why) ≡ words why
words_of end_in_value = refl
words_of end_in_array = refl
words_of end_in_map = refl
words_of length_out_of_range = refl
words_of invalid_utf8 = refl
words_of unassigned_code = refl
words_of unexpected_code = refl
words_of trailing_data = refl
words_of too_deep = refl
words_of scratch_too_small = refl
words_of wrong_struct_format = refl

-- and so in strict reading
strict_words_of : (why : StrictRefusal) → code_text (strict_code why) ≡ strict_words why
strict_words_of (ordinary why) = words_of why
strict_words_of not_canonical = refl

-- the text of an error that reports the first refusal
pub ordinary_text : (bytes : List ℕ) (e : Error) → ReportsFirst (limits_of None) bytes e
    → IsRefusalText bytes (error_text e)
ordinary_text bytes e reports =
    let place : offset_of e ≡ reports.offset = omega (arith, reports.at) in
    record {
      why = reports.why;
      offset = reports.offset;
      first = reports.first;
      is = ap (λ c. code_text c ++ at_offset (offset_of e)) reports.code
          ∙ ap (λ t. t ++ at_offset (offset_of e)) (words_of reports.why)
          ∙ ap (λ n. words reports.why ++ at_offset n) place;
    }

refusal_text : (mode : Mode) (bytes : List ℕ) (e : Error) → ReportsIn mode bytes e
    → IsRefusalIn mode bytes (error_text e)
refusal_text Lenient bytes e reports = ordinary_text bytes e reports
refusal_text Strict bytes e reports = record {
  why = reports.why;
  offset = offset_of e;
  first = reports.first;
  is = ap (λ c. code_text c ++ at_offset (offset_of e)) reports.code
      ∙ ap (λ t. t ++ at_offset (offset_of e)) (strict_words_of reports.why);
}
refusal_text Diagnose bytes e reports = ordinary_text bytes e reports
refusal_text DiagnosePretty bytes e reports = ordinary_text bytes e reports
refusal_text (ByRules preset) bytes e reports = ordinary_text bytes e reports

-- what wasn't read is answered with the refusal
pub answered_refused : (mode : Mode) (bytes text : List ℕ) (e : Error)
    → IsOutOfMemory e ⊎ ReportsIn mode bytes e
    → ((v : Val) → SpellsIn mode bytes v → IsOutOfMemory e)
    → (code_of e ≡ OutOfMemory → ⊥) → text ≡ codes "error: " ++ error_text e
    → shown_in mode bytes text
answered_refused mode bytes text e (inl memory) accepted ne is = absurd (ne memory.0)
answered_refused mode bytes text e (inr reports) accepted ne is =
    refused (error_text e) (λ v spelt. ne (accepted v spelt).0) (refusal_text mode bytes e reports) is

-- what is shown is the answer, but by rules
pub answered_shown : (mode : Mode) → ((preset : Preset) → mode ≡ ByRules preset → ⊥) → (bytes text : List ℕ) → shown_in mode bytes text → answered_in mode bytes text
answered_shown Lenient other bytes text h = h
answered_shown Strict other bytes text h = h
answered_shown Diagnose other bytes text h = h
answered_shown DiagnosePretty other bytes text h = h
answered_shown (ByRules preset) other bytes text h = absurd (other preset refl)

-- lack of memory is reported at no offset
no_refusal : (why : Refusal) → refusal_code why ≡ OutOfMemory → ⊥
no_refusal end_in_value is = cc
no_refusal end_in_array is = cc
no_refusal end_in_map is = cc
no_refusal length_out_of_range is = cc
no_refusal invalid_utf8 is = cc
no_refusal unassigned_code is = cc
no_refusal unexpected_code is = cc
no_refusal trailing_data is = cc
no_refusal too_deep is = cc
no_refusal scratch_too_small is = cc
no_refusal wrong_struct_format is = cc

no_strict_refusal : (why : StrictRefusal) → strict_code why ≡ OutOfMemory → ⊥
no_strict_refusal (ordinary why) is = no_refusal why is
no_strict_refusal not_canonical is = cc

reported : (mode : Mode) (bytes : List ℕ) (e : Error) → ReportsIn mode bytes e
    → code_of e ≡ OutOfMemory → ⊥
reported Lenient bytes e reports is = no_refusal reports.why (sym reports.code ∙ is)
reported Strict bytes e reports is = no_strict_refusal reports.why (sym reports.code ∙ is)
reported Diagnose bytes e reports is = no_refusal reports.why (sym reports.code ∙ is)
reported DiagnosePretty bytes e reports is = no_refusal reports.why (sym reports.code ∙ is)
reported (ByRules preset) bytes e reports is = no_refusal reports.why (sym reports.code ∙ is)

pub memory_reported : (mode : Mode) (bytes : List ℕ) (e : Error) → IsOutOfMemory e ⊎ ReportsIn mode bytes e
    → code_of e ≡ OutOfMemory → IsOutOfMemory e
memory_reported mode bytes e (inl memory) is = memory
memory_reported mode bytes e (inr reports) is = absurd (reported mode bytes e reports is)

pub IsAnswer-decoded : (A : Answered) (line bytes text : List ℕ) → decode_of line ≡ Ok bytes
    → A bytes text → IsAnswer A line text
IsAnswer-decoded A line bytes text e h = hexadecimal bytes (IsHexOf-decoded line bytes e) h

pub IsAnswer-not_hexadecimal : (A : Answered) (line text : List ℕ) (e : FromHexError) → decode_of line ≡ Err e
    → text ≡ codes "error: not hexadecimal" → IsAnswer A line text
IsAnswer-not_hexadecimal A line text e failed is =
    not_hexadecimal (λ bytes h. let read = decode_of-hex line bytes h in cc) is

-- ---- a value that was read is written, unless memory runs out

-- what is read is storable
storable : (bytes : List ℕ) (v : Val) → SpellsValue bytes v → IsStorable v
storable bytes v spells = rw spells.valued (value_is_storable spells.item spells.acceptable.fits)

storable_in : (mode : Mode) (bytes : List ℕ) (v : Val) → SpellsIn mode bytes v → IsStorable v
storable_in Lenient bytes v spells = storable bytes v spells
storable_in Strict bytes v spells = spells.stored
storable_in Diagnose bytes v spells = storable bytes v spells
storable_in DiagnosePretty bytes v spells = storable bytes v spells
storable_in (ByRules preset) bytes v spells = storable bytes v spells

code_of_refusal : (code : ErrorCode) (storable : Type 0) → storable → IsRefusedBy code storable → code ≡ OutOfMemory
code_of_refusal OutOfMemory storable fits h = refl
code_of_refusal (Message text) storable fits h = absurd (h.1 fits)
code_of_refusal _ storable fits h = absurd h

pub out_of_memory : (v : Val) (e : Error) → IsStorable v → IsNotWritten (IsStorableDocument (document_of v)) e → IsOutOfMemory e
out_of_memory v e stored h =
    (code_of_refusal (code_of e) (IsStorableDocument (document_of v)) (storable_document v stored) h.0, h.1)

pub IsOutOfMemory-not_written : (mode : Mode) (bytes : List ℕ) (v : Val) (e : Error) → SpellsIn mode bytes v → IsNotWritten (IsStorableDocument (document_of v)) e → IsOutOfMemory e
IsOutOfMemory-not_written mode bytes v e spells h = out_of_memory v e (storable_in mode bytes v spells) h

pub err_weaker : {T : Type 0} {P Q : Error → Type 0} (r : Result T Error) → ((e : Error) → P e → Q e) → IfErr r P → IfErr r Q
err_weaker (Ok x) on h = tt
err_weaker (Err e) on h = on e h

-- ---- answers that follow others

module _ (A : Answered) where
  AreAnswers-append : (first second : List (List ℕ)) (a b : List ℕ) → AreAnswers A first a
      → AreAnswers A second b → AreAnswers A (first ++ second) (a ++ b)
  AreAnswers-append [] second a b none h = rw none h
  AreAnswers-append (line ∷ first) second a b (answer, others, is, parts, rest) h = (
    answer,
    others ++ b,
    is,
    ap (λ l. l ++ b) parts
        ∙ append_assoc answer (0x0a ∷ others) b,
    AreAnswers-append first second others b rest h,
  )

  pub AppendsAnswers-nil : (known : Option (List ℕ)) → AppendsAnswers A [] known known
  AppendsAnswers-nil known = ([], refl, Appends-nil known)

  pub AppendsAnswers-append : (first second : List (List ℕ)) (a b c : Option (List ℕ))
      → AppendsAnswers A first a b → AppendsAnswers A second b c → AppendsAnswers A (first ++ second) a c
  AppendsAnswers-append first second a b c (some, are, grown) (more, are', grown') = (
    some ++ more,
    AreAnswers-append first second some more are are',
    Appends-trans a b c some more grown grown',
  )

  pub AppendsAnswers-kept : (answered : List (List ℕ)) (a b c : Option (List ℕ))
      → AppendsAnswers A answered a b → Keeps b c → AppendsAnswers A answered a c
  AppendsAnswers-kept answered a b c (output, are, grown) kept =
      (output, are, Appends-kept a b c output grown kept)

  pub AppendsAnswers-one : (line answer : List ℕ) (a b c : Option (List ℕ)) → IsAnswer A line answer
      → Appends a b (answer ++ 0x0a ∷ []) → Keeps b c → AppendsAnswers A (line ∷ []) a c
  AppendsAnswers-one line answer a b c is grown kept =
      (answer ++ 0x0a ∷ [], (answer, [], is, refl, refl), Appends-kept a b c _ grown kept)
