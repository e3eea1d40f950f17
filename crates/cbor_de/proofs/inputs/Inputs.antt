-- A whole input.
use Rattle.std.proofs.Common.{◌≡◌, ◌⊎◌, inl, inr, ◌+◌, ℕ, Bool, List, [], ◌∷◌, length, Result, Ok, Err, IfOk, IfErr, refl, sym, ap, subst, ◌∙◌, arith}
use Rattle.std.proofs.lemmas.List.{append-nil}
use Rattle.cbor_model.specs.Raw.{Raw, AreBytes}
use Rattle.cbor_model.specs.Acceptable.{max_depth, FitsScratch}
use Rattle.cbor_model.specs.Formats.{Formats}
use Rattle.cbor_model.specs.RawReader.{Begins}
use Rattle.cbor_model.specs.Readable.{SpellsAs}
use Rattle.cbor_model.specs.Reader.{Fault, item_at}
use Rattle.cbor_model.proofs.facts.Reader.{ok_is, item_found, item_again}
use Rattle.cbor_read.specs.Source.{Input}
use Rattle.cbor_io.specs.Error.{code_of, offset_of, IsOutOfMemory}
use Rattle.cbor_io.specs.declared.error.Error.{Error}
use Rattle.cbor_io.specs.declared.error.ErrorCode.{ErrorCode}
use Rattle.cbor_io.specs.declared.error.ErrorCode.TheVariants as code
use Rattle.cbor_io.specs.declared.read_error.ReadErrorCode.{ReadErrorCode}
use Rattle.cbor_decode.specs.Gives.{Limits, limits, Reports, Step, ReportsIo, Ends, end_at, IsMemoryOrFault, IsMemoryOrFaultBy}
use Rattle.cbor_decode.specs.AtEnd.{EndTakes, EndRefused}
use Rattle.cbor_decode_as.specs.Takes.{raws, IsRead, IsNotRead, ExcusedBy, MemoryFor, Refuses}
use Rattle.cbor_de.specs.Whole.{IsWholeRead, ReadsAll}
use Rattle.cbor_decode_as.proofs.facts.Refusals.{excused_or}

module _ {A : Type 0} (allowed : ReadErrorCode → Bool) (f : Formats) (reads : Raw → A → Type 0) (levels : ℕ) where
  abbrev Front : Limits → List ℕ → A → List ℕ → Type 0
  Front l bs x rest = IsRead reads (item_at (raws f l) levels bs) x rest

  pub all_refused : {t : Input} (s : Input) (e : Error) → Refuses allowed s t (code_of e) (offset_of e) (λ l bs. IsNotRead reads (item_at (raws f l) levels bs)) → ReadsAll allowed f reads levels s (Err e)
  all_refused s e h bs reports = elim (h.reported bs reports) [
    | inl excused ↦ inl excused
    | inr none ↦ inr (λ x got. none x [] got)
  ]

  -- one item isn't followed by other bytes and by none
  only_rest : (l : Limits) (bs rest : List ℕ) (x y : A) → Front l bs x rest → Front l bs y [] → rest ≡ []
  only_rest l bs rest x y one other = ap (λ (p : Raw × List ℕ). p.1) (ok_is (one.item, rest) (other.item, []) (sym one.is ∙ other.is))

  ended_not : (rest : List ℕ) (fault : Fault) → rest ≡ [] → end_at rest ≡ Err fault → ⊥
  ended_not [] fault e is = absurd cc
  ended_not (b ∷ rest) fault e is = absurd cc

  pub all_read : (s t : Input) (x : A) (u : Unit {0}) → Step s t (λ l bs rest. Front l bs x rest) → Ends allowed t (Ok u) → ReadsAll allowed f reads levels s (Ok x)
  all_read s t x u step ends bs reports =
      let got = step.reported bs reports in
      subst (λ (rest : List ℕ). Front (limits s bs) bs x rest) (ends got.rest got.reports) got.holds

  or_other : (D : Type 0) (k : ErrorCode) (at : ℕ) (l : Limits) (bs rest : List ℕ) (x : A) → Front l bs x rest → ExcusedBy D k at ⊎ ((fault : Fault) × (end_at rest ≡ Err fault)) → ExcusedBy D k at ⊎ ((y : A) → Front l bs y [] → ⊥)
  or_other D k at l bs rest x one (inl e) = inl e
  or_other D k at l bs rest x one (inr h) = inr (λ y other. ended_not rest h.0 (only_rest l bs rest x y one other) h.1)

  pub all_trailing : (s t : Input) (x : A) (e : Error) → Step s t (λ l bs rest. Front l bs x rest) → Ends allowed t (Err e) → ReadsAll allowed f reads levels s (Err e)
  all_trailing s t x e step ends bs reports =
      let got = step.reported bs reports in
      or_other (ReportsIo allowed) (code_of e) (offset_of e) (limits s bs) bs got.rest x got.holds
      (excused_or (ReportsIo allowed) (code_of e) (t.offset + length got.rest) (offset_of e) (end_at got.rest) (ends got.rest got.reports))

-- the end is refused for no lack of memory
pub end_other : (allowed : ReadErrorCode → Bool) (s t : Input) (e : Error) → EndTakes allowed s t (Err e) → code_of e ≡ code.OutOfMemory → ⊥
end_other allowed s t e takes is = subst (λ (k : ErrorCode). EndRefused allowed k (offset_of e) s t) is takes

-- ---- by the definitions

module _ {A : Type 0} (allowed : ReadErrorCode → Bool) (f : Formats) (reads : Raw → A → Type 0) (s : Input) (bs : List ℕ) (reports : Reports s bs) (begins : s.offset ≡ 0) (fits : AreBytes bs) where
  spells : (x : A) → IsWholeRead f reads max_depth s bs x → SpellsAs f reads bs x
  spells x got =
      let l = limits s bs in
      let b = item_found f l.total l.room max_depth bs [] got.item fits got.is in
      record { item = got.item; acceptable = b.0.acceptable; keys = b.1; spelled = sym (b.0.spelled ∙ append-nil _); means = got.means }

  is_read : (x : A) → (spelt : SpellsAs f reads bs x) → FitsScratch s.room spelt.item → IsWholeRead f reads max_depth s bs x
  is_read x spelt room =
      let l = limits s bs in
      let b : Begins max_depth bs spelt.item [] = record { spelled = sym (append-nil _ ∙ spelt.spelled); acceptable = spelt.acceptable } in
      record { item = spelt.item; is = item_again f l.total l.room max_depth bs [] spelt.item reports.short (omega (arith, begins)) room b spelt.keys; means = spelt.means }

  pub found : (r : Result A Error) → ReadsAll allowed f reads max_depth s r → IfOk r (SpellsAs f reads bs)
  found (Ok x) h = spells x (h bs reports)
  found (Err e) h = tt

  pub excused_memory : (D : Type 0) → (D → ⊥) → (k : ErrorCode) (at : ℕ) → ExcusedBy D k at → (k ≡ code.OutOfMemory) × (at ≡ 0)
  excused_memory D none (code.Message m) at h = absurd h
  excused_memory D none (code.Io e) at h = absurd (none h.0)
  excused_memory D none code.ScratchTooSmall at h = absurd h
  excused_memory D none code.EofWhileParsingValue at h = absurd h
  excused_memory D none code.EofWhileParsingArray at h = absurd h
  excused_memory D none code.EofWhileParsingMap at h = absurd h
  excused_memory D none code.LengthOutOfRange at h = absurd h
  excused_memory D none code.InvalidUtf8 at h = absurd h
  excused_memory D none code.UnassignedCode at h = absurd h
  excused_memory D none code.UnexpectedCode at h = absurd h
  excused_memory D none code.TrailingData at h = absurd h
  excused_memory D none code.ArrayTooShort at h = absurd h
  excused_memory D none code.ArrayTooLong at h = absurd h
  excused_memory D none code.RecursionLimitExceeded at h = absurd h
  excused_memory D none code.WrongEnumFormat at h = absurd h
  excused_memory D none code.WrongStructFormat at h = absurd h
  excused_memory D none code.NotCanonical at h = absurd h
  excused_memory D none code.OutOfMemory at h = (refl, h)

  pub memory_or_fault : (D : Type 0) (k : ErrorCode) (at : ℕ) → ExcusedBy D k at → IsMemoryOrFaultBy k × (at ≡ 0)
  memory_or_fault D (code.Message m) at h = absurd h
  memory_or_fault D (code.Io e) at h = (tt, h.1)
  memory_or_fault D code.ScratchTooSmall at h = absurd h
  memory_or_fault D code.EofWhileParsingValue at h = absurd h
  memory_or_fault D code.EofWhileParsingArray at h = absurd h
  memory_or_fault D code.EofWhileParsingMap at h = absurd h
  memory_or_fault D code.LengthOutOfRange at h = absurd h
  memory_or_fault D code.InvalidUtf8 at h = absurd h
  memory_or_fault D code.UnassignedCode at h = absurd h
  memory_or_fault D code.UnexpectedCode at h = absurd h
  memory_or_fault D code.TrailingData at h = absurd h
  memory_or_fault D code.ArrayTooShort at h = absurd h
  memory_or_fault D code.ArrayTooLong at h = absurd h
  memory_or_fault D code.RecursionLimitExceeded at h = absurd h
  memory_or_fault D code.WrongEnumFormat at h = absurd h
  memory_or_fault D code.WrongStructFormat at h = absurd h
  memory_or_fault D code.NotCanonical at h = absurd h
  memory_or_fault D code.OutOfMemory at h = (tt, h)

  -- where the item is there, a refusal is excused
  is_excused : (e : Error) (x : A) (spelt : SpellsAs f reads bs x) → FitsScratch s.room spelt.item → ReadsAll allowed f reads max_depth s (Err e) → ExcusedBy (ReportsIo allowed) (code_of e) (offset_of e)
  is_excused e x spelt room h = elim (h bs reports) [
    | inl is ↦ is
    | inr none ↦ absurd (none x (is_read x spelt room))
  ]

  pub accepted : (ReportsIo allowed → ⊥) → (x : A) (spelt : SpellsAs f reads bs x) → FitsScratch s.room spelt.item → (r : Result A Error) → ReadsAll allowed f reads max_depth s r → IfErr r IsOutOfMemory
  accepted device x spelt room (Ok y) h = tt
  accepted device x spelt room (Err e) h = excused_memory (ReportsIo allowed) device (code_of e) (offset_of e) (is_excused e x spelt room h)

  -- where memory ran out for the item that is there, it may be asked for that item
  asked_for : (asks : Raw → Type 0) (x : A) (spelt : SpellsAs f reads bs x) → FitsScratch s.room spelt.item → (e : Error) → MemoryFor asks f reads max_depth s e → code_of e ≡ code.OutOfMemory → asks spelt.item
  unfolding is_read
  asked_for asks x spelt room e h is = h is bs reports x [] (is_read x spelt room)

  pub asked : (ReportsIo allowed → ⊥) → (asks : Raw → Type 0) (x : A) (spelt : SpellsAs f reads bs x) → FitsScratch s.room spelt.item → (r : Result A Error) → ReadsAll allowed f reads max_depth s r → IfErr r (MemoryFor asks f reads max_depth s) → IfErr r (λ e. asks spelt.item)
  asked device asks x spelt room (Ok y) read h = tt
  asked device asks x spelt room (Err e) read h =
      asked_for asks x spelt room e h (excused_memory (ReportsIo allowed) device (code_of e) (offset_of e) (is_excused e x spelt room read)).0

  pub asked_or_fault : (asks : Raw → Type 0) (x : A) (spelt : SpellsAs f reads bs x) → FitsScratch s.room spelt.item → (r : Result A Error) → IfErr r (MemoryFor asks f reads max_depth s) → IfErr r (λ e. IsOutOfMemory e → asks spelt.item)
  asked_or_fault asks x spelt room (Ok y) h = tt
  asked_or_fault asks x spelt room (Err e) h = λ is. asked_for asks x spelt room e h is.0

  pub accepted_or_fault : (x : A) (spelt : SpellsAs f reads bs x) → FitsScratch s.room spelt.item → (r : Result A Error) → ReadsAll allowed f reads max_depth s r → IfErr r IsMemoryOrFault
  accepted_or_fault x spelt room (Ok y) h = tt
  accepted_or_fault x spelt room (Err e) h = memory_or_fault (ReportsIo allowed) (code_of e) (offset_of e) (is_excused e x spelt room h)
