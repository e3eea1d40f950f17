-- An item that is read at the front of the bytes that are to come, and what the walk over its bytes says.
use Rattle.std.proofs.Common.{◌≡◌, ◌≢◌, ◌∙◌, ◌≤◌, ◌+◌, ◌-◌, ℕ, List, [], ◌++◌, length, take, drop, Option, Some, None, inl, inr, sym, ap, subst, arith, length-drop}
use Rattle.std.specs.Prelude.{Result, Ok, Err, OnErr}
use Rattle.std.proofs.Math.Seq.{take-append-add, take-append_seam}
use Rattle.std.proofs.lemmas.Bool.{cases_lt}
use Rattle.cbor_model.specs.Acceptable.{max_depth}
use Rattle.cbor_model.specs.Formats.{all_formats}
use Rattle.cbor_model.specs.Raw.{Raw, IsWellFormed}
use Rattle.cbor_model.specs.RawReader.{Begins}
use Rattle.cbor_model.specs.Spelling.{spell}
use Rattle.cbor_model.proofs.facts.Laws.{one_spelling}
use Rattle.cbor_de.specs.ItemTaken.{BeginsAs}
use Rattle.cbor_rules.specs.NextItem.{BeginsByRules, BeginsDeparting, EndsAt, GivesItem, Items, counted_from, departure_from, to_come}
use Rattle.cbor_rules.specs.Rules.{first_departure}
use Rattle.cbor_rules.specs.declared.answers.Departure.{Departure}
use Rattle.cbor_rules.proofs.KeptRules.{none_where_kept}

-- ---- one item stands at the front

module _ (r s : Raw) (a b : List ℕ) (fits : IsWellFormed r) (fits' : IsWellFormed s) where
  shorter : spell r ++ a ≡ spell s ++ b → length (spell r) ≤ length (spell s) → r ≡ s
  shorter is most =
      let more = length (spell s) - length (spell r) in
      let long : length (spell r) + more ≡ length (spell s) = omega (arith, most) in
      let begins : spell r ++ take more a ≡ spell s =
      sym (take-append-add (spell r) a more) ∙ ap (λ n. take n (spell r ++ a)) long ∙ ap (take (length (spell s))) is ∙ take-append_seam (spell s) b in
      (one_spelling r s (take more a) fits fits' begins).0

one_front : (r s : Raw) (a b : List ℕ) → IsWellFormed r → IsWellFormed s → spell r ++ a ≡ spell s ++ b → r ≡ s
one_front r s a b fits fits' is = elim (cases_lt (length (spell r)) (length (spell s))) [
  | inl less ↦ shorter r s a b fits fits' is (omega (arith, less))
  | inr most ↦ sym (shorter s r b a fits' fits (sym is) most)
]

-- ---- the item that was read

module _ {A : Type 0} (reads : Raw → A → Type 0) (s : Items) (x : A) (end : ℕ) (ends : EndsAt reads s.input s.taken x end)
    (bytes : List ℕ) (cut : bytes ≡ take (end - s.taken) (to_come s)) where
  abbrev item : Raw
  item = ends.read.item

  spelled : spell item ≡ bytes
  spelled =
      let long : end - s.taken ≡ length (spell item) = omega (arith, ends.long) in
      sym (cut ∙ ap (λ n. take n (to_come s)) long ∙ ap (take (length (spell item))) ends.read.begins.spelled ∙ take-append_seam (spell item) (drop end s.input))

  -- no other acceptable item is to come
  same_item : (r : Raw) (rest : List ℕ) → Begins max_depth (to_come s) r rest → item ≡ r
  same_item r rest begins =
      one_front item r (drop end s.input) rest ends.read.begins.acceptable.fits begins.acceptable.fits (sym ends.read.begins.spelled ∙ begins.spelled)

  pub read_as : (r : Raw) (rest : List ℕ) → Begins max_depth (to_come s) r rest → reads r x
  read_as r rest begins = subst (λ (r : Raw). reads r x) (same_item r rest begins) ends.read.means

  -- what holds of each item of these bytes
  pub of_item : (P : Raw → Type 0) → ((r : Raw) → IsWellFormed r → spell r ≡ bytes → P r) → (r : Raw) (rest : List ℕ) → Begins max_depth (to_come s) r rest → P r
  of_item P holds r rest begins = subst P (same_item r rest begins) (holds item ends.read.begins.acceptable.fits spelled)

  module _ (o : Option Departure) (reports : (r : Raw) → IsWellFormed r → spell r ≡ bytes → o ≡ first_departure s.terms r) where
    departure_is : o ≡ first_departure s.terms item
    departure_is = reports item ends.read.begins.acceptable.fits spelled

    -- ---- it departs

    module _ (d : Departure) (is : o ≡ Some d) where
      departs : departure_from s.taken s.terms item ≡ Some (record { rule = d.rule; offset = s.taken + d.offset })
      departs = ap (counted_from s.taken) (sym departure_is ∙ is)

      pub departs_so : (r : Raw) (rest : List ℕ) → Begins max_depth (to_come s) r rest
          → departure_from s.taken s.terms r ≡ Some (record { rule = d.rule; offset = s.taken + d.offset })
      departs_so r rest begins = ap (departure_from s.taken s.terms) (sym (same_item r rest begins)) ∙ departs

      pub departing : BeginsDeparting s (record { rule = d.rule; offset = s.taken + d.offset })
      departing = record { item = item; rest = drop end s.input; begins = ends.read.begins; departs = departs }

      pub not_by_rules : (y : A) (rest : List ℕ) → BeginsByRules s.terms reads (to_come s) y rest → ⊥
      not_by_rules y rest front =
          let none = (none_where_kept s.terms front.read.item).1 front.keeps in
          let same = same_item front.read.item rest front.read.begins in
          let both : Some d ≡ None = sym is ∙ departure_is ∙ ap (first_departure s.terms) same ∙ none in
          absurd cc

    -- ---- it keeps the rules

    pub given : (t : Items) → t ≡ record s { taken = end } → o ≡ None → GivesItem reads s t x
    given t after is =
        let keeps = (none_where_kept s.terms item).0 (sym departure_is ∙ is) in
        let left : drop end s.input ≡ to_come t = sym (ap to_come after) in
        record {
          front = record { read = subst (λ (rest : List ℕ). BeginsAs all_formats max_depth reads (to_come s) x rest) left ends.read; keeps = keeps };
          took = after ∙ ap (λ (n : ℕ). record s { taken = n }) ends.long;
        }

-- ---- the end

-- bytes are to come where not all were taken
pub more_to_come : (s : Items) → s.taken ≤ length s.input → (s.taken ≢ length s.input) → to_come s ≢ []
more_to_come s within more ends = more (omega (arith, within, ap length ends, length-drop s.taken s.input))

pub on_err_always : {A E : Type 0} (r : Result A E) {P : Type 0} → P → OnErr r P
on_err_always (Ok x) p = tt
on_err_always (Err e) p = p
