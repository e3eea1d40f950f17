-- Why a run stops, and what it has done by then.
use Rattle.std.proofs.Common.{◌≡◌, ◌≢◌, ℕ, ◌+◌, ◌==◌, Bool, true, false, List, [], ◌∷◌, ◌++◌}
use Rattle.std.proofs.Common.{length, ◌⊎◌, Option, inl, inr, refl, sym, ap, subst, ◌∙◌, arith}
use Rattle.std.proofs.Common.{append_assoc, append-nil, length-append}
use Rattle.std.specs.Prelude.{IfSome, None, Some}
use Rattle.std.specs.Io.KnownBytes.{Consumes, IsAtEnd}
use Rattle.std.proofs.KnownBytes.{Consumes-nil, Consumes-kept, Consumes-trans}
use Rattle.std.proofs.lemmas.List.Elements.{All-append, All-cons, All-nil}
use Rattle.std.proofs.lemmas.Bool.{eqb-true}
use Rattle.std.proofs.lemmas.Bool.Decides.{nat_tests}
use Rattle.cbor_tool.specs.Answer.{lines, Answered}
use Rattle.serde_cbor.specs.declared.error.ErrorCode.{ErrorCode}
use Rattle.serde_cbor.specs.declared.error.ErrorCode.TheVariants.{Io, OutOfMemory, LengthOutOfRange}
use Rattle.serde_cbor.specs.declared.error.Error.{Error}
use Rattle.serde_cbor.specs.Error.{code_of, offset_of, IsOutOfMemory}
use Rattle.cbor_tool.specs.declared.program.End.TheVariants.{Newline, Input}
use Rattle.cbor_tool.specs.Run.{AppendsAnswers, IsStoppedBy, IsStopped, ended_lines}
use Rattle.cbor_tool.specs.RunSteps.{IsInLine, IsNextLine, StopsAtByteBy, StopsAtByte, StopsReadingBy}
use Rattle.cbor_tool.specs.RunSteps.{StopsReading, StopsAnsweringBy, StopsAnswering}
use Rattle.cbor_tool.proofs.Lines.{IsWhole, IsWhole-nil, IsWhole-line, lines-last, ended_lines-last}
use Rattle.cbor_tool.proofs.Lines.{ended_lines-whole, lines-whole_line}
use Rattle.cbor_tool.proofs.Answers.{AppendsAnswers-nil, AppendsAnswers-append, AppendsAnswers-kept}
use Rattle.cbor_tool.proofs.Writing.{AppendsUpTo-append}

pub IsInLine-more : (line : List ℕ) (b : ℕ) → IsInLine line → b ≢ 0x0a → IsInLine (line ++ b ∷ [])
IsInLine-more line b h ne =
    All-append (λ x. x ≢ 0x0a) line (b ∷ []) h
    (All-cons (λ x. x ≢ 0x0a) b [] ne (All-nil (λ x. x ≢ 0x0a)))

pub not_empty : (n : ℕ) (items : List ℕ) (is_empty : Bool) → n ≡ length items → is_empty ≡ (n == 0)
    → is_empty ≡ false → items ≢ []
not_empty n items is_empty long tested is none = let zero : n ≡ 0 = long
    ∙ ap length none in grind (arith, nat_tests)

pub empty : (n : ℕ) (items : List ℕ) (is_empty : Bool) → n ≡ length items → is_empty ≡ (n == 0)
    → is_empty ≡ true → items ≡ []
empty n [] is_empty long tested is = refl
empty n (x ∷ items) is_empty long tested is = let zero = eqb-true n 0 (sym tested ∙ is) in
    absurd (omega arith)

-- a reader that is at its end gave all that it had
IfSome-consumed : (a b : Option (List ℕ)) (bytes : List ℕ) (P : List ℕ → Type 0)
    → Consumes a b bytes → IsAtEnd b → P bytes → IfSome a P
IfSome-consumed None b bytes P consumed end h = tt
IfSome-consumed (Some xs) None bytes P consumed end h = absurd consumed
IfSome-consumed (Some xs) (Some ys) bytes P consumed end h =
    rw (consumed ∙ ap (λ l. bytes ++ l) end ∙ append-nil bytes) h

-- ---- reading

reading_by : (code : ErrorCode) (offset : ℕ) (line : List ℕ) (start count : ℕ)
    (a b c : Option (List ℕ)) → IsInLine line → count ≡ start + length line
    → Consumes a b line → StopsAtByteBy code offset count b c → StopsReadingBy code offset start a c
reading_by (Io fault) offset line start count a b c in_line counted consumed (is, kept) = (
  is,
  record {
    line = line;
    in_line = in_line;
    consumed = Consumes-kept a b c line consumed kept;
  },
)
reading_by LengthOutOfRange offset line start count a b c in_line counted consumed
    (is, full, (past, more)) = (
      is,
      record {
        line = line;
        past = past;
        in_line = in_line;
        sum = sym counted ∙ full;
        consumed = Consumes-trans a b c line (past ∷ []) consumed more;
      },
    )
reading_by _ offset line start count a b c in_line counted consumed h = absurd h

pub StopsReading-at_byte : (e : Error) (line : List ℕ) (start count : ℕ) (a b c : Option (List ℕ))
    → IsInLine line → count ≡ start + length line
    → Consumes a b line → StopsAtByte e count b c → StopsReading e start a c
StopsReading-at_byte e = reading_by (code_of e) (offset_of e)

not_nil : (line : List ℕ) (b : ℕ) → line ++ b ∷ [] ≢ []
not_nil [] b = λ h. cc
not_nil (x ∷ line) b = λ h. cc

pub StopsReading-out_of_memory : (e : Error) (line : List ℕ) (byte start : ℕ)
    (a b c : Option (List ℕ)) → IsInLine line → byte ≢ 0x0a
    → Consumes a b line → Consumes b c (byte ∷ []) → IsOutOfMemory e → StopsReading e start a c
StopsReading-out_of_memory e line byte start a b c in_line ne consumed more (code, offset) =
    subst (λ (k : ErrorCode). StopsReadingBy k (offset_of e) start a c) (sym code) (
      offset,
      record {
        line = line ++ byte ∷ [];
        in_line = IsInLine-more line byte in_line ne;
        begun = not_nil line byte;
        consumed = Consumes-trans a b c line (byte ∷ []) consumed more;
      },
    )

-- ---- the run

module _ (A : Answered) where
  -- The whole lines of some bytes were taken and answered.
  pub record HasAnswered (count : ℕ) (a b w w' : Option (List ℕ)) : Type 0 where
    pub bytes : List ℕ
    pub whole : IsWhole bytes
    pub counted : count ≡ length bytes
    pub consumed : Consumes a b bytes
    pub written : AppendsAnswers A (lines bytes) w w'

  pub HasAnswered-none : (a w : Option (List ℕ)) → HasAnswered 0 a a w w
  HasAnswered-none a w =
      record {
        bytes = [];
        whole = IsWhole-nil;
        counted = refl;
        consumed = Consumes-nil a;
        written = AppendsAnswers-nil A w;
      }

  pub HasAnswered-line : (line : List ℕ) (count count' : ℕ) (a b c w w' w'' : Option (List ℕ))
      → HasAnswered count a b w w'
      → IsNextLine Newline line count count' b c → AppendsAnswers A (line ∷ []) w' w''
      → HasAnswered count' a c w w''
  HasAnswered-line line count count' a b c w w' w'' before (in_line, few, counted, taken) answered =
      let bytes = before.bytes in
      let start = before.counted in
      record {
        bytes = bytes ++ (line ++ 0x0a ∷ []);
        whole = IsWhole-line bytes line before.whole in_line;
        counted = omega (
          arith,
          length-append bytes (line ++ 0x0a ∷ []),
          length-append line (0x0a ∷ []),
        );
        consumed = Consumes-trans a b c bytes (line ++ 0x0a ∷ []) before.consumed taken;
        written = rw (lines-whole_line bytes line before.whole in_line)
            (AppendsAnswers-append A (lines bytes) (line ∷ []) w w' w'' before.written answered);
      }

  begun_line : (bytes line : List ℕ) → IsWhole bytes → IsInLine line → line ≢ []
      → lines (bytes ++ line) ≡ lines bytes ++ line ∷ []
  begun_line bytes [] whole h ne = absurd (ne refl)
  begun_line bytes (b ∷ line) whole h ne = whole.before (b ∷ line)
      ∙ ap (λ l. lines bytes ++ l) (lines-last b line h)

  ended_before : (bytes line : List ℕ) → IsWhole bytes → IsInLine line
      → ended_lines (bytes ++ line) ≡ lines bytes
  ended_before bytes line whole h = whole.ended_before line
      ∙ ap (λ l. lines bytes ++ l) (ended_lines-last line h) ∙ append-nil (lines bytes)

  -- all is answered, where the last line was
  pub AppendsAnswers-all : (line : List ℕ) (count count' : ℕ) (a b c w w' w'' : Option (List ℕ))
      → HasAnswered count a b w w'
      → IsNextLine Input line count count' b c → line ≢ [] → AppendsAnswers A (line ∷ []) w' w''
      → IfSome a (λ input. AppendsAnswers A (lines input) w w'')
  AppendsAnswers-all line count count' a b c w w' w'' before (in_line, taken, end) ne answered =
      IfSome-consumed a c (before.bytes ++ line) (λ input. AppendsAnswers A (lines input) w w'')
      (Consumes-trans a b c before.bytes line before.consumed taken) end
      (rw (begun_line before.bytes line before.whole in_line ne)
      (AppendsAnswers-append A (lines before.bytes) (line ∷ []) w w' w'' before.written answered))

  -- all is answered, where no last line was begun
  pub AppendsAnswers-whole : (line : List ℕ) (count count' : ℕ) (a b c w w' : Option (List ℕ))
      → HasAnswered count a b w w'
      → IsNextLine Input line count count' b c → line ≡ []
      → IfSome a (λ input. AppendsAnswers A (lines input) w w')
  AppendsAnswers-whole line count count' a b c w w' before (in_line, taken, end) none =
      IfSome-consumed a c before.bytes (λ input. AppendsAnswers A (lines input) w w')
      (rw append-nil at (Consumes-trans a b c before.bytes [] before.consumed (rw none at taken))) end
      before.written

  stopped_reading_by : (code : ErrorCode) (offset count : ℕ) (a b c w w' : Option (List ℕ))
      → HasAnswered count a b w w'
      → StopsReadingBy code offset count b c → IsStoppedBy A code offset a c w w'
  stopped_reading_by (Io fault) offset count a b c w w' before (is, s) = (
    is,
    inl (record {
      taken = before.bytes ++ s.line;
      consumed = Consumes-trans a b c before.bytes s.line before.consumed s.consumed;
      written = rw (ended_before before.bytes s.line before.whole s.in_line) before.written;
    }),
  )
  stopped_reading_by OutOfMemory offset count a b c w w' before (is, s) = (
    is,
    record {
      taken = before.bytes ++ s.line;
      before = lines before.bytes;
      last = s.line;
      begun = begun_line before.bytes s.line before.whole s.in_line s.begun;
      consumed = Consumes-trans a b c before.bytes s.line before.consumed s.consumed;
      written = before.written;
    },
  )
  stopped_reading_by LengthOutOfRange offset count a b c w w' before (is, s) = (
    is,
    record {
      taken = before.bytes ++ s.line;
      past = s.past;
      count = length-append before.bytes s.line ∙ ap (λ n. n + length s.line) (sym before.counted)
          ∙ s.sum;
      consumed = rw append_assoc
          (Consumes-trans a b c before.bytes (s.line ++ s.past ∷ []) before.consumed s.consumed);
      written = rw (ended_before before.bytes s.line before.whole s.in_line) before.written;
    },
  )
  stopped_reading_by _ offset count a b c w w' before h = absurd h

  pub IsStopped-reading : (e : Error) (count : ℕ) (a b c w w' : Option (List ℕ))
      → HasAnswered count a b w w'
      → StopsReading e count b c → IsStopped A e a c w w'
  IsStopped-reading e = stopped_reading_by (code_of e) (offset_of e)

  -- the lines before one, and that line, were taken
  record AtLine (before : List (List ℕ)) (last : List ℕ)
      (reader reader' : Option (List ℕ)) : Type 0 where
    taken : List ℕ
    begun : lines taken ≡ before ++ last ∷ []
    ended : (ended_lines taken ≡ lines taken) ⊎ IsAtEnd reader'
    consumed : Consumes reader reader' taken

  stopped_answering_by : (code : ErrorCode) (offset : ℕ) (before : List (List ℕ)) (last : List ℕ)
      (a b w w' w'' : Option (List ℕ)) → AtLine before last a b
      → AppendsAnswers A before w w' → StopsAnsweringBy A code offset last w' w''
      → IsStoppedBy A code offset a b w w''
  stopped_answering_by (Io fault) offset before last a b w w' w'' at written (is, up) = (
    is,
    inr (record {
      taken = at.taken;
      before = before;
      last = last;
      begun = at.begun;
      ended = at.ended;
      consumed = at.consumed;
      written = AppendsUpTo-append A before last w w' w'' written up;
    }),
  )
  stopped_answering_by OutOfMemory offset before last a b w w' w'' at written (is, kept) = (
    is,
    record {
      taken = at.taken;
      before = before;
      last = last;
      begun = at.begun;
      consumed = at.consumed;
      written = AppendsAnswers-kept A before w w' w'' written kept;
    },
  )
  stopped_answering_by _ offset before last a b w w' w'' at written h = absurd h

  pub IsStopped-at_line : (e : Error) (line : List ℕ) (count count' : ℕ)
      (a b c w w' w'' : Option (List ℕ)) → HasAnswered count a b w w'
      → IsNextLine Newline line count count' b c → StopsAnswering A e line w' w''
      → IsStopped A e a c w w''
  IsStopped-at_line e line count count' a b c w w' w'' before (in_line, few, counted, taken) h =
      let whole = IsWhole-line before.bytes line before.whole in_line in
      let at : AtLine (lines before.bytes) line a c = record {
        taken = before.bytes ++ (line ++ 0x0a ∷ []);
        begun = lines-whole_line before.bytes line before.whole in_line;
        ended = inl (ended_lines-whole (before.bytes ++ (line ++ 0x0a ∷ [])) whole);
        consumed = Consumes-trans a b c before.bytes (line ++ 0x0a ∷ []) before.consumed taken;
      } in
      stopped_answering_by (code_of e) (offset_of e)
      (lines before.bytes) line a c w w' w'' at before.written h

  pub IsStopped-at_last : (e : Error) (line : List ℕ) (count count' : ℕ)
      (a b c w w' w'' : Option (List ℕ)) → HasAnswered count a b w w'
      → IsNextLine Input line count count' b c → line ≢ [] → StopsAnswering A e line w' w''
      → IsStopped A e a c w w''
  IsStopped-at_last e line count count' a b c w w' w'' before (in_line, taken, end) ne h =
      let at : AtLine (lines before.bytes) line a c = record {
        taken = before.bytes ++ line;
        begun = begun_line before.bytes line before.whole in_line ne;
        ended = inr end;
        consumed = Consumes-trans a b c before.bytes line before.consumed taken;
      } in
      stopped_answering_by (code_of e) (offset_of e)
      (lines before.bytes) line a c w w' w'' at before.written h
