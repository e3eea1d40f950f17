-- Readings of one input answer alike.
use Rattle.std.proofs.Common.{◌≡◌, ◌^◌, ◌<◌, ◌⊎◌, ℕ, List, [], length, Option, Some, None, Result, Ok}
use Rattle.std.proofs.Common.{Err, IfOk, IfErr, sym, ap, ◌∙◌, subst, inl, inr}
use Rattle.std.proofs.lemmas.List.{append-nil}
use Rattle.cbor_model.specs.Allowed.{limits_of}
use Rattle.cbor_model.specs.Formats.{Formats, all_formats}
use Rattle.cbor_model.specs.Laws.{SpellsValue}
use Rattle.cbor_model.specs.Plain.{Val}
use Rattle.cbor_model.specs.Raw.{Raw, AreBytes}
use Rattle.cbor_model.specs.Readable.{Context, SpellsAs}
use Rattle.cbor_model.specs.Value.{value}
use Rattle.cbor_model.proofs.facts.Laws.{one_spelling}
use Rattle.cbor_model.proofs.facts.Refusals.{spelled_allows_none}
use Rattle.cbor_io.specs.declared.error.Error.{Error}
use Rattle.cbor_io.specs.declared.error.ErrorCode.TheVariants.{ScratchTooSmall}
use Rattle.cbor_io.specs.Error.{code_of, IsOutOfMemory}
use Rattle.cbor_value.specs.View.{view}
use Rattle.cbor_value.specs.declared.Value.{Value}
use Rattle.cbor_decode.specs.FirstRefusal.{ReportsFirst}
use Rattle.cbor_decode.specs.Gives.{IsMemoryOrFault, IsMemoryOrFaultBy}
use Rattle.cbor_decode.proofs.facts.FirstRefusal.{same_error, without_scratch}
use Rattle.cbor_read.specs.Source.{Lends}
use Rattle.cbor_decode_as.specs.Takes.{lending}
use Rattle.cbor_de.specs.Alike.{IsReading, IsOfSource, AreAlike, SourcesAgree}
use Rattle.cbor_de.specs.Alike.{IsReadAsBoth, OwnedAgree}
use Rattle.cbor_de.proofs.values.Values.{spelled_value}

-- ---- what the calls answer

-- an answer from a slice, of the clauses `found` and `first` at a `Value`
pub reading : (scratch : Option ℕ) (bs : List ℕ) (r : Result Value Error)
    → IfOk r (SpellsAs all_formats (λ r x. view x ≡ value r) bs)
    → IfErr r (λ e. IsOutOfMemory e ⊎ ReportsFirst (limits_of scratch) bs e) → IsReading scratch bs r
reading scratch bs (Ok v) found first = spelled_value bs v found
reading scratch bs (Err e) found (inl memory) = inl (subst IsMemoryOrFaultBy (sym memory.0) tt, memory.1)
reading scratch bs (Err e) found (inr first) = inr first

-- and one from a reader
pub reading_of_reader : (bs : List ℕ) (r : Result Value Error)
    → IfOk r (SpellsAs all_formats (λ r x. view x ≡ value r) bs)
    → IfErr r (λ e. IsMemoryOrFault e ⊎ ReportsFirst (limits_of None) bs e) → IsReading None bs r
reading_of_reader bs (Ok v) found first = spelled_value bs v found
reading_of_reader bs (Err e) found first = first

-- ---- two of them

-- bytes spell the value of one item
one_value : (bs : List ℕ) (v w : Val) → SpellsValue bs v → SpellsValue bs w → v ≡ w
one_value bs v w a b =
    let one = one_spelling a.item b.item [] a.acceptable.fits b.acceptable.fits (append-nil _ ∙ a.spelled ∙ sym b.spelled) in
    a.valued ∙ ap value one.0 ∙ sym b.valued

-- without a scratch, or as without one
plain : (scratch : Option ℕ) (bs : List ℕ) (e : Error) → AreBytes bs → ReportsFirst (limits_of scratch) bs e
    → (code_of e ≡ ScratchTooSmall) ⊎ ReportsFirst (limits_of None) bs e
plain None bs e fits t = inr t
plain (Some room) bs e fits t = without_scratch room bs e fits t

-- bytes that spell a value are refused for reasons of the source alone
no_first : (scratch : Option ℕ) (bs : List ℕ) (v : Val) (e : Error) → AreBytes bs → length bs < 2 ^ 64
    → SpellsValue bs v → IsMemoryOrFault e ⊎ ReportsFirst (limits_of scratch) bs e → IsOfSource e
no_first scratch bs v e fits short spelt (inl fault) = inl fault
no_first scratch bs v e fits short spelt (inr t) =
    elim (plain scratch bs e fits t) [
      | inl small ↦ inr small
      | inr first ↦ absurd (spelled_allows_none None bs v short spelt tt first.why first.first.place first.offset first.first.allowed)
    ]

two_errors : (scratch scratch' : Option ℕ) (bs : List ℕ) (e f : Error) → AreBytes bs
    → IsMemoryOrFault e ⊎ ReportsFirst (limits_of scratch) bs e
    → IsMemoryOrFault f ⊎ ReportsFirst (limits_of scratch') bs f → AreAlike (Err e) (Err f)
two_errors scratch scratch' bs e f fits (inl fault) other = inl (inl fault)
two_errors scratch scratch' bs e f fits (inr t) (inl fault) = inr (inl (inl fault))
two_errors scratch scratch' bs e f fits (inr t) (inr t') =
    elim (plain scratch bs e fits t) [
      | inl small ↦ inl (inr small)
      | inr first ↦
          elim (plain scratch' bs f fits t') [
            | inl small ↦ inr (inl (inr small))
            | inr first' ↦ inr (inr (same_error (limits_of None) bs e f first first'))
          ]
    ]

pub sources_agree : SourcesAgree
sources_agree scratch scratch' bs (Ok v) (Ok w) fits short one other = one_value bs (view v) (view w) one other
sources_agree scratch scratch' bs (Ok v) (Err f) fits short one other = no_first scratch' bs (view v) f fits short one other
sources_agree scratch scratch' bs (Err e) (Ok w) fits short one other = no_first scratch bs (view w) e fits short other one
sources_agree scratch scratch' bs (Err e) (Err f) fits short one other = two_errors scratch scratch' bs e f fits one other

-- ---- as types that borrow nothing

-- what one source reads of an input, another may read of it too
lent : {A : Type 0} (reads reads' : Raw → A → Type 0) (bs : List ℕ) (x : A) → ((r : Raw) → reads r x → reads' r x)
    → SpellsAs all_formats reads bs x → SpellsAs all_formats reads' bs x
lent reads reads' bs x same s =
    record { item = s.item; acceptable = s.acceptable; keys = s.keys; spelled = s.spelled; means = same s.item s.means }

-- the one item that is read as each is read as both
both : {A : Type 0} (reads : Raw → A → Type 0) (bs : List ℕ) (x y : A) → SpellsAs all_formats reads bs x
    → SpellsAs all_formats reads bs y → SpellsAs all_formats (IsReadAsBoth reads) bs (x, y)
both reads bs x y s t =
    let one = one_spelling s.item t.item [] s.acceptable.fits t.acceptable.fits (append-nil _ ∙ s.spelled ∙ sym t.spelled) in
    record {
      item = s.item;
      acceptable = s.acceptable;
      keys = s.keys;
      spelled = s.spelled;
      means = (s.means, subst (λ (r : Raw). reads r y) (sym one.0) t.means);
    }

pub owned_agree : {A : Type 0} (reads : Context → Raw → A → Type 0)
    → ((f : Formats) (a b : Lends) (r : Raw) (x : A) → reads (lending f a) r x → reads (lending f b) r x)
    → OwnedAgree reads
owned_agree reads same a b bs (Ok x) (Ok y) one other =
    both (reads (lending all_formats a)) bs x y one
    (lent (reads (lending all_formats b)) (reads (lending all_formats a)) bs y (λ r. same all_formats b a r y) other)
owned_agree reads same a b bs (Ok x) (Err f) one other =
    other x (lent (reads (lending all_formats a)) (reads (lending all_formats b)) bs x (λ r. same all_formats a b r x) one)
owned_agree reads same a b bs (Err e) (Ok y) one other =
    one y (lent (reads (lending all_formats b)) (reads (lending all_formats a)) bs y (λ r. same all_formats b a r y) other)
owned_agree reads same a b bs (Err e) (Err f) one other = tt
