-- Strict reading over the ordinary one.
use Rattle.std.proofs.Common.{◌≡◌, ℕ, ◌^◌, ◌<◌, ◌≤◌, Bool, true, false, List, [], length, take, None, refl, sym, ap, subst, ◌∙◌, arith, inl, inr}
use Rattle.std.proofs.lemmas.Bool.{cases_lt}
use Rattle.std.proofs.lemmas.List.{length-take}
use Rattle.cbor_model.specs.Raw.{Raw, AreBytes}
use Rattle.cbor_model.specs.Spelling.{spell}
use Rattle.cbor_model.specs.Acceptable.{IsAcceptable, max_depth}
use Rattle.cbor_model.specs.Allowed.{limits_of, IsFirstRefusal}
use Rattle.cbor_model.specs.Formats.{all_formats}
use Rattle.cbor_model.specs.Plain.{Val}
use Rattle.cbor_model.specs.Readable.{SpellsAs}
use Rattle.cbor_model.specs.Value.{value}
use Rattle.cbor_model.specs.Canonical.{IsOrdered, canonical, canon}
use Rattle.cbor_model.specs.Laws.{SpellsValue}
use Rattle.cbor_model.proofs.reader.Bytes.{spelled_bytes}
use Rattle.cbor_model.proofs.values.Canonical.{value_is_canonical}
use Rattle.cbor_model.proofs.facts.Reader.{all_allowed}
use Rattle.cbor_io.specs.declared.error.Error.{Error}
use Rattle.cbor_io.specs.declared.error.ErrorCode.TheVariants.{NotCanonical}
use Rattle.cbor_io.specs.Error.{code_of, offset_of, IsOutOfMemory}
use Rattle.cbor_decode.specs.FirstRefusal.{ReportsFirst}
use Rattle.cbor_decode_as.specs.Takes.{WhereTotal}
use Rattle.cbor_strict.specs.Departure.{ShowsDeparture}
use Rattle.cbor_strict.specs.Walk.{passed, departed, walk_of}
use Rattle.cbor_strict.specs.Strict.{SpellsCanonically, SpellsCanonicallyAs, IsFirstShown}
use Rattle.cbor_strict.specs.StrictRefusals.{ordinary, not_canonical}
use Rattle.cbor_strict.specs.StrictAnswers.{ReportsFirstStrictly, ReportsItsDeparture}
use Rattle.cbor_strict.proofs.Clean.{clean, canonical_clean}
use Rattle.cbor_strict.proofs.Departed.{item_departs, none_departs, shown_departs, departed_shows}
use Rattle.cbor_strict.proofs.Strict.{enough, none_listed, listed_none, walk_whole, first_of_front, to_front}
use Rattle.cbor_strict.proofs.Copied.{spells_canon}
use Rattle.cbor_strict.proofs.WalkFronts.{Below, walk_fewer}
use Rattle.cbor_strict.proofs.FirstRefusals.{departs_alone, departs_before, fault_before}

-- where a type reads every item, a promise that always holds
pub where_any : {P : Type 0} (total : Bool) → P → WhereTotal total P
where_any false p = tt
where_any true p = p

-- ---- what is read

-- an item whose spelling shows no departure is the canonical one
module _ (bs : List ℕ) (r : Raw) (short : length bs < 2 ^ 64) (good : IsAcceptable r) (spelled : spell r ≡ bs) (none : (j : ℕ) → ShowsDeparture bs j → ⊥) where
  pub item_is : r ≡ canonical (value r)
  item_is =
      let fits : AreBytes bs = subst AreBytes spelled (spelled_bytes r good.fits) in
      let nowhere = none_listed r (λ i has.
      let d = item_departs r (enough bs r) good.fits (omega arith) i has in
      let s = departed_shows bs d.0 fits (walk_whole bs r spelled ∙ d.1) in
      none s.0 s.2.shows) in
      clean 0 r good.fits nowhere

  pub item_canonical : SpellsCanonically bs (value r)
  unfolding canon
  item_canonical =
      let small : length (spell r) < 2 ^ 64 = omega (arith, ap length spelled, short) in
      let made = value_is_canonical max_depth r good small in
      record { stored = made.0; ordered = made.1; acceptable = made.2; spelled = sym (ap spell item_is) ∙ spelled }

pub read_canonically : {A : Type 0} (reads : Raw → A → Type 0) (bs : List ℕ) (x : A) → length bs < 2 ^ 64 → SpellsAs all_formats reads bs x → ((j : ℕ) → ShowsDeparture bs j → ⊥) → SpellsCanonicallyAs reads bs x
read_canonically reads bs x short spelt none = record {
  tree = value spelt.item;
  spelt = item_canonical bs spelt.item short spelt.acceptable spelt.spelled none;
  means = subst (λ (r : Raw). reads r x) (item_is bs spelt.item short spelt.acceptable spelt.spelled none) spelt.means;
}

-- and the other way round
pub spells_as : {A : Type 0} (reads : Raw → A → Type 0) (bs : List ℕ) (x : A) → SpellsCanonicallyAs reads bs x → SpellsAs all_formats reads bs x
unfolding canon
spells_as reads bs x c = record {
  item = canonical c.tree;
  acceptable = c.spelt.acceptable;
  keys = all_allowed (canonical c.tree);
  spelled = c.spelt.spelled;
  means = c.means;
}

-- a canonical spelling shows none
pub canonical_shows_none : (bs : List ℕ) (v : Val) → SpellsCanonically bs v → (j : ℕ) → ShowsDeparture bs j → ⊥
unfolding canon
canonical_shows_none bs v spelt j shows =
    let r = canonical v in
    let d = shown_departs bs j shows in
    let past : walk_of bs ≡ passed [] = walk_whole bs r spelt.spelled ∙ none_departs r (enough bs r) spelt.acceptable.fits (omega arith) (canonical_clean 0 v spelt.ordered) in
    let no : passed [] ≡ departed d.0 = sym past ∙ d.1 in
    cc

-- it spells the value
pub spells_value : (bs : List ℕ) (v : Val) → SpellsCanonically bs v → SpellsValue bs v
unfolding canon
spells_value bs v spelt = subst (λ (b : List ℕ). SpellsValue b v) spelt.spelled (spells_canon v spelt.ordered spelt.acceptable)

-- what is read of any type is an item's value
pub value_spelled : {A : Type 0} (reads : Raw → A → Type 0) (bs : List ℕ) (x : A) → (spelt : SpellsAs all_formats reads bs x) → SpellsValue bs (value spelt.item)
value_spelled reads bs x spelt = record { item = spelt.item; acceptable = spelt.acceptable; spelled = spelt.spelled; valued = refl }

-- and the canonical item departs nowhere, so that only lack of memory is reported of it
pub memory_only : (v : Val) (e : Error) → IsOrdered v → ReportsItsDeparture (canonical v) e → IsOutOfMemory e
memory_only v e ordered (inl memory) = memory
memory_only v e ordered (inr departs) = absurd (listed_none (canonical v) (canonical_clean 0 v ordered) (offset_of e) departs.1.departs)

-- ---- what is refused

-- nothing is shown by no bytes
pub nothing_shown : (bs : List ℕ) (e : Error) (j : ℕ) → IsOutOfMemory e → IsFirstShown (take (offset_of e) bs) j → ⊥
nothing_shown bs e j memory shown =
    let d = shown_departs (take (offset_of e) bs) j shown.shows in
    let few = walk_fewer (length (take (offset_of e) bs)) (take (offset_of e) bs) in
    let left : d.0 < length (take (offset_of e) bs) = subst (Below (length (take (offset_of e) bs))) d.1 few in
    omega (arith, left, length-take (offset_of e) bs, memory.1)

-- none in the bytes before an offset, and each is after it
pub each_behind : (bs : List ℕ) (offset : ℕ) → ((j : ℕ) → ShowsDeparture (take offset bs) j → ⊥) → (i : ℕ) → ShowsDeparture bs i → offset < i
each_behind bs offset none i shows =
    elim (cases_lt offset i) [
      | inl above ↦ above
      | inr le ↦ absurd (none i (to_front offset bs i le shows))
    ]

-- of an item that is read, a departure is the first refusal
pub read_departs : {A : Type 0} (reads : Raw → A → Type 0) (bs : List ℕ) (x : A) (e : Error) → length bs < 2 ^ 64 → SpellsAs all_formats reads bs x → code_of e ≡ NotCanonical → IsFirstShown bs (offset_of e) → ReportsFirstStrictly bs e
read_departs reads bs x e short spelt code shown = record {
  why = not_canonical;
  code = code;
  first = departs_alone bs (value spelt.item) (offset_of e) short (value_spelled reads bs x spelt) shown;
}

-- a departure before the offset that ordinary reading reported, or at it
pub departs_earlier : (bs : List ℕ) (reported e : Error) → ReportsFirst (limits_of None) bs reported → code_of e ≡ NotCanonical → IsFirstShown (take (offset_of reported) bs) (offset_of e) → ReportsFirstStrictly bs e
departs_earlier bs reported e reports code shown =
    let early : offset_of e ≤ reports.offset = omega (arith, reports.at, shown.shows.within, length-take (offset_of reported) bs) in
    record {
      why = not_canonical;
      code = code;
      first = departs_before bs reports.why reports.offset reports.first (offset_of e) early (first_of_front (offset_of reported) bs (offset_of e) shown);
    }

-- or none
pub fault_earlier : (bs : List ℕ) (e : Error) → AreBytes bs → ReportsFirst (limits_of None) bs e → ((i : ℕ) → ShowsDeparture bs i → offset_of e < i) → ReportsFirstStrictly bs e
fault_earlier bs e fits reports none =
    let same : reports.offset ≡ offset_of e = omega (arith, reports.at) in
    record {
      why = ordinary reports.why;
      code = reports.code;
      first = fault_before bs reports.why (offset_of e) (subst (IsFirstRefusal (limits_of None) bs reports.why) same reports.first) fits none;
    }
