-- Reading by rules over the ordinary reading.
use Rattle.std.proofs.Common.{◌≡◌, ℕ, List, Bool, true, false, Some, None, refl, sym, subst, Ok, Err, ◌∙◌}
use Rattle.std.specs.Prelude.{Option, Result, IfErr, IsErrAnd, MatchResult}
use Rattle.cbor_model.specs.Formats.{all_formats}
use Rattle.cbor_model.specs.Raw.{Raw, IsWellFormed}
use Rattle.cbor_model.specs.Readable.{SpellsAs}
use Rattle.cbor_model.specs.Spelling.{spell}
use Rattle.cbor_model.specs.Value.{value}
use Rattle.cbor_decode_as.specs.Takes.{WhereTotal}
use Rattle.cbor_rules.specs.Answers.{SpellsByRules, SpellsDeparting}
use Rattle.cbor_rules.specs.Rules.{Terms, first_departure}
use Rattle.cbor_io.specs.declared.error.Error.{Error}
use Rattle.cbor_rules.specs.declared.answers.Departure.{Departure}
use Rattle.cbor_rules.specs.declared.answers.Refusal.{Refusal}
use Rattle.cbor_rules.specs.declared.answers.Refusal.TheVariants.{Unread}
use Rattle.cbor_rules.proofs.KeptRules.{none_where_kept}

-- where a type reads every item, a promise that always holds
pub where_any : {P : Type 0} (total : Bool) → P → WhereTotal total P
where_any false p = tt
where_any true p = p

-- ---- what is refused unread

module _ {T : Type 0} (P : Refusal → Type 0) where
  pub only_unread : (r : Result T Refusal) (e : Error) → IsErrAnd r (λ x. x ≡ Unread e) → P (Unread e) → IfErr r P
  only_unread (Ok x) e is holds = tt
  only_unread (Err x) e is holds = subst P (sym is) holds

  pub match_unread : (Q : T → Type 0) (r : Result T Refusal) (e : Error) → IsErrAnd r (λ x. x ≡ Unread e) → P (Unread e) → MatchResult r Q P
  match_unread Q (Ok x) e is holds = absurd is
  match_unread Q (Err x) e is holds = subst P (sym is) holds

-- ---- what is read

module _ {A : Type 0} (terms : Terms) (reads : Raw → A → Type 0) (bs : List ℕ) (o : Option Departure) (reports : (r : Raw) → IsWellFormed r → spell r ≡ bs → o ≡ first_departure terms r) (x : A) where
  -- what is kept departs nowhere
  pub kept_none : SpellsByRules terms reads bs x → o ≡ None
  kept_none s = reports s.spelt.item s.spelt.acceptable.fits s.spelt.spelled ∙ (none_where_kept terms s.spelt.item).1 s.keeps

  module _ (found : SpellsAs all_formats reads bs x) where
    pub departing : (d : Departure) → o ≡ Some d → SpellsDeparting terms bs d
    departing d is = record {
      tree = value found.item;
      spelt = record { item = found.item; acceptable = found.acceptable; spelled = found.spelled; valued = refl };
      departs = sym (reports found.item found.acceptable.fits found.spelled) ∙ is;
    }

    pub by_rules : o ≡ None → SpellsByRules terms reads bs x
    by_rules is = record { spelt = found; keeps = (none_where_kept terms found.item).0 (sym (reports found.item found.acceptable.fits found.spelled) ∙ is) }
