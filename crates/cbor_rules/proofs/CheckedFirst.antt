-- Reading once the bytes were gone over by the rules, as items that are all read.
use Rattle.std.proofs.Common.{◌≡◌, ◌⊎◌, inl, inr, ℕ, List, Bool, true, false, None, refl, sym, subst, Ok, Err}
use Rattle.std.specs.Prelude.{⊤, Result, IfErr, IsErrAnd, MatchResult}
use Rattle.cbor_model.specs.Allowed.{Limits, IsAllowed, limits_of}
use Rattle.cbor_model.specs.Formats.{all_formats}
use Rattle.cbor_model.specs.Laws.{SpellsValue}
use Rattle.cbor_model.specs.Plain.{Val}
use Rattle.cbor_model.specs.Raw.{Raw, IsWellFormed}
use Rattle.cbor_model.specs.Readable.{SpellsAs}
use Rattle.cbor_model.specs.Refusal as why
use Rattle.cbor_model.specs.Spelling.{spell}
use Rattle.cbor_model.specs.Value.{value}
use Rattle.cbor_model.proofs.facts.Reader.{all_allowed}
use Rattle.cbor_io.specs.declared.error.Error.{Error}
use Rattle.cbor_io.specs.Error.{IsOutOfMemory}
use Rattle.cbor_read.specs.Source.{Input}
use Rattle.cbor_decode.specs.FirstRefusal.{ReportsFirst, refusal_code}
use Rattle.cbor_decode.specs.Gives.{ReportsNoForm}
use Rattle.cbor_decode.specs.HasChunks.{AsksWhere, HasChunks}
use Rattle.cbor_decode_as.specs.Takes.{WhereTotal}
use Rattle.cbor_de.specs.Forms.{MayReport, WrongForms}
use Rattle.cbor_de.specs.Whole.{ReportsOwn, from_slice_asks}
use Rattle.cbor_de.proofs.facts.Forms.{plain}
use Rattle.cbor_rules.specs.Answers.{IfDeparts, IfUnread, ReportsItsDeparture, SpellsByRules, SpellsDeparting}
use Rattle.cbor_rules.specs.Checked.{AsksToCheck, EncodeNone, ReportsFirstRefusal}
use Rattle.cbor_rules.specs.Rules.{Terms, Keeps, is_unique}
use Rattle.cbor_rules.specs.Unique.{HasPair}
use Rattle.cbor_rules.specs.declared.answers.Departure.{Departure}
use Rattle.cbor_rules.specs.declared.answers.Refusal.{Refusal}
use Rattle.cbor_rules.specs.declared.answers.Refusal.TheVariants.{Unread, Departs}
use Rattle.cbor_rules.specs.declared.settings.Rules.{Rules}
use Rattle.cbor_rules.proofs.Canonical.{one_item}
use Rattle.cbor_rules.proofs.KeptRules.{none_where_kept}
use Rattle.cbor_rules.proofs.Reading.{where_any}

-- ---- a refusal that is passed on

module _ {T : Type 0} (P : Refusal → Type 0) where
  pub passed_on : (r : Result T Refusal) (e : Refusal) → IsErrAnd r (λ x. x ≡ e) → P e → IfErr r P
  passed_on (Ok x) e is holds = tt
  passed_on (Err x) e is holds = subst P (sym is) holds

  pub passed_err : (r : Result T Refusal) (e : Refusal) → IsErrAnd r (λ x. x ≡ e) → P e → IsErrAnd r P
  passed_err (Ok x) e is holds = absurd is
  passed_err (Err x) e is holds = subst P (sym is) holds

  pub match_passed : (Q : T → Type 0) (r : Result T Refusal) (e : Refusal) → IsErrAnd r (λ x. x ≡ e) → P e → MatchResult r Q P
  match_passed Q (Ok x) e is holds = absurd is
  match_passed Q (Err x) e is holds = subst P (sym is) holds

-- ---- an item that is read whatever it is

abbrev any : {A : Type 0} → Raw → A → Type 0
any r x = ⊤

abbrev pub read_any : {A : Type 0} (bs : List ℕ) (v : Val) → SpellsValue bs v → (x : A) → SpellsAs all_formats any bs x
read_any bs v spelt x = record { item = spelt.item; acceptable = spelt.acceptable; keys = all_allowed spelt.item; spelled = spelt.spelled; means = tt }

abbrev pub any_by_rules : {A B : Type 0} (terms : Terms) (reads : Raw → A → Type 0) (bs : List ℕ) (x : A) → SpellsByRules terms reads bs x → (y : B) → SpellsByRules terms any bs y
any_by_rules terms reads bs x kept y = record {
  spelt = record { item = kept.spelt.item; acceptable = kept.spelt.acceptable; keys = kept.spelt.keys; spelled = kept.spelt.spelled; means = tt };
  keeps = kept.keeps;
}

-- ---- what going over the bytes refuses

never : false ≡ true → ⊥
never is = absurd cc

-- memory for it
pub asks_to_check : (rules : Rules) (r : Raw) (e : Refusal) → IfUnread (λ e. AsksWhere from_slice_asks (HasChunks r) ⊎ ((is_unique rules.keys ≡ true) × HasPair r)) e → IfUnread (λ e. AsksToCheck rules r) e
asks_to_check rules r (Unread e) (inl (inl whole)) = absurd (never whole)
asks_to_check rules r (Unread e) (inl (inr joined)) = inl joined.1
asks_to_check rules r (Unread e) (inr key) = inr key
asks_to_check rules r (Departs d) asked = tt

pub asks_besides : (A : Type 0) (rules : Rules) (r : Raw) (e : Refusal) → IfUnread (λ e. AsksToCheck rules r) e → IfUnread (λ e. A ⊎ AsksToCheck rules r) e
asks_besides A rules r (Unread e) asked = inr asked
asks_besides A rules r (Departs d) asked = tt

-- a departing item is an item
pub refused_first : (terms : Terms) (bs : List ℕ) (e : Refusal) → EncodeNone bs → IfUnread (λ e. IsOutOfMemory e ⊎ ReportsFirst (limits_of None) bs e) e → IfDeparts (SpellsDeparting terms bs) e → ReportsFirstRefusal bs e
refused_first terms bs (Unread e) none first departed = first
refused_first terms bs (Departs d) none first departed = absurd (none departed.tree departed.spelt)

-- where a type promises it
pub unread_where : (b : Bool) (P : Error → Type 0) (e : Refusal) → IfUnread P e → IfUnread (λ e. WhereTotal b (P e)) e
unread_where b P (Unread e) holds = where_any b holds
unread_where b P (Departs d) holds = tt

-- the first refusal of the bytes is the first fault that they allow
pub first_is_own : (b : Bool) (bs : List ℕ) (e : Refusal) → IfUnread (λ e. IsOutOfMemory e ⊎ ReportsFirst (limits_of None) bs e) e → IfUnread (ReportsOwn b IsOutOfMemory None bs) e
first_is_own b bs (Unread e) holds = where_any b (λ is. holds)
first_is_own b bs (Departs d) holds = tt

-- an item is refused for want of memory
pub wanted_memory : (terms : Terms) (r : Raw) (P : Error → Type 0) (e : Refusal) → ReportsItsDeparture terms r e → IfUnread (λ e. IsOutOfMemory e ⊎ P e) e
wanted_memory terms r P (Unread e) out = inl out
wanted_memory terms r P (Departs d) is = tt

-- no refusal of bytes is one of a form
formless : (l : Limits) (bs : List ℕ) (w : why.Refusal) (place offset : ℕ) → IsAllowed l bs w place offset → ReportsNoForm (refusal_code w)
formless l bs why.end_in_value place offset allowed = tt
formless l bs why.end_in_array place offset allowed = tt
formless l bs why.end_in_map place offset allowed = tt
formless l bs why.length_out_of_range place offset allowed = tt
formless l bs why.invalid_utf8 place offset allowed = tt
formless l bs why.unassigned_code place offset allowed = tt
formless l bs why.unexpected_code place offset allowed = tt
formless l bs why.trailing_data place offset allowed = tt
formless l bs why.too_deep place offset allowed = tt
formless l bs why.scratch_too_small place offset allowed = tt
formless l bs why.wrong_struct_format place offset allowed = absurd allowed

pub no_form : (forms : WrongForms) (s : Input) (l : Limits) (bs : List ℕ) (e : Refusal) → IfUnread (λ e. IsOutOfMemory e ⊎ ReportsFirst l bs e) e → IfUnread (MayReport forms all_formats s) e
no_form forms s l bs (Unread e) (inl out) = plain forms all_formats s e (subst ReportsNoForm (sym out.0) tt)
no_form forms s l bs (Unread e) (inr f) = plain forms all_formats s e (subst ReportsNoForm (sym f.code) (formless l bs f.why f.first.place f.offset f.first.allowed))
no_form forms s l bs (Departs d) h = tt

-- ---- what going over the bytes passes

module _ {A : Type 0} (terms : Terms) (bs : List ℕ) (x : A) (kept : SpellsByRules terms any bs x) where
  keeps_so : (r : Raw) → IsWellFormed r → spell r ≡ bs → Keeps terms r
  keeps_so r fits is = subst (Keeps terms) (one_item bs kept.spelt.item r kept.spelt.acceptable.fits fits kept.spelt.spelled is) kept.keeps

  pub none_departs : (d : Departure) → SpellsDeparting terms bs d → ⊥
  none_departs d departing =
      absurd (let none = (none_where_kept terms departing.spelt.item).1 (keeps_so departing.spelt.item departing.spelt.acceptable.fits departing.spelt.spelled) in let some = departing.departs in cc)

  pub encode_one : EncodeNone bs → ⊥
  encode_one none = none (value kept.spelt.item) (record { item = kept.spelt.item; acceptable = kept.spelt.acceptable; spelled = kept.spelt.spelled; valued = refl })

  pub read_by_rules : {B : Type 0} (reads : Raw → B → Type 0) (y : B) → SpellsAs all_formats reads bs y → SpellsByRules terms reads bs y
  read_by_rules reads y found = record { spelt = found; keeps = keeps_so found.item found.acceptable.fits found.spelled }
