-- What a form's call writes is read by the form's rules, or refused for its depth alone.
use Rattle.std.proofs.Common.{◌≡◌, ◌∙◌, ◌+◌, ◌^◌, ◌<◌, ◌≤◌, ℕ, zero, suc, true, List, [], ◌∷◌, ◌++◌, length, None, inl, inr, refl, sym, ap, subst, arith}
use Rattle.std.proofs.lemmas.Bool.{cases_lt}
use Rattle.std.proofs.lemmas.List.{append-nil}
use Rattle.std.specs.Prelude.{◌⊎◌, Result, Ok, Err, IfErr, IfOk, IsErrAnd, MatchResult, OnOk}
use Rattle.cbor_model.specs.Acceptable.{IsAcceptable, max_depth}
use Rattle.cbor_model.specs.Allowed.{IsAllowed, IsFirstRefusal, limits_of}
use Rattle.cbor_model.specs.Canonical.{canonical}
use Rattle.cbor_model.specs.Document.{Doc, IsStorableDocument}
use Rattle.cbor_model.specs.Laws.{SpellsValue}
use Rattle.cbor_model.specs.Plain.{Val}
use Rattle.cbor_model.specs.Raw.{AreBytes, Raw, depth}
use Rattle.cbor_model.specs.Refusal.{Refusal as Why, too_deep}
use Rattle.cbor_model.specs.Spelling.{spell}
use Rattle.cbor_model.specs.Value.{value}
use Rattle.cbor_model.proofs.facts.Laws.{one_spelling, value_is_canonical}
use Rattle.cbor_model.proofs.facts.Refusals.{spelled_allows_none}
use Rattle.cbor_io.specs.declared.error.Error.{Error}
use Rattle.cbor_io.specs.declared.error.ErrorCode.{ErrorCode}
use Rattle.cbor_io.specs.declared.error.ErrorCode.TheVariants.{Message, OutOfMemory}
use Rattle.cbor_io.specs.Error.{IsOutOfMemory, code_of, offset_of}
use Rattle.cbor_decode.specs.FirstRefusal.{ReportsFirst, refusal_code}
use Rattle.cbor_decode_as.specs.Takes.{WhereTotal}
use Rattle.cbor_convert.specs.Meaning.{value_of}
use Rattle.cbor_forms.specs.Deterministic.{IsNotWrittenIn, IsRefusedBy}
use Rattle.cbor_forms.specs.FormEncoding.{SpellsAtDepth}
use Rattle.cbor_forms.specs.Shortened.{Allows, rewritten}
use Rattle.cbor_forms.specs.declared.values.Form.{Form}
use Rattle.cbor_value.specs.View.{view}
use Rattle.cbor_value.specs.declared.Value.{Value}
use Rattle.cbor_rules.specs.Answers.{IfDeparts, IfUnread, IsMemory, ReportsItsDeparture, SpellsByRules, SpellsDeparting}
use Rattle.cbor_rules.specs.Presets.{IsReadBack}
use Rattle.cbor_rules.specs.Rules.{Keeps, only}
use Rattle.cbor_rules.specs.NotReadBack.{IsNestedTooDeep, IsNotReadBack, IsReadable, IsWritable}
use Rattle.cbor_rules.specs.declared.answers.Departure.{Departure}
use Rattle.cbor_rules.specs.declared.answers.Refusal.{Refusal}
use Rattle.cbor_rules.specs.declared.answers.Refusal.TheVariants.{Unread, Departs}
use Rattle.cbor_rules.specs.declared.settings.Rules.{Rules}
use Rattle.cbor_rules.proofs.Deep.{only_too_deep}
use Rattle.cbor_rules.proofs.KeptRules.{none_where_kept}
use Rattle.cbor_rules.proofs.Reading.{match_unread, only_unread}

-- what a form allows is refused for lack of memory alone
by_memory : (form : Form) (k : ErrorCode) (S A : Type 0) → S → A → IsRefusedBy form k S A → k ≡ OutOfMemory
by_memory form (Message text) S A stored allowed (inl h) = absurd (h.1 stored)
by_memory form (Message text) S A stored allowed (inr h) = absurd (h.1 allowed)
by_memory form OutOfMemory S A stored allowed h = refl
by_memory form _ S A stored allowed h = absurd h

pub unwritten : (form : Form) (S A : Type 0) (v : Val) (result : Result Value Refusal) (e : Error) → IsErrAnd result (λ x. x ≡ Unread e)
    → IsNotWrittenIn form S A e → S → A → MatchResult result (λ x. view x ≡ v) IsMemory
unwritten form S A v result e is refused stored allowed =
    match_unread IsMemory (λ x. view x ≡ v) result e is (by_memory form (code_of e) S A stored allowed refused.0, refused.1)

-- what keeps the rules is read
module _ (rules : Rules) (bytes : List ℕ) (v : Val) (spelt : SpellsValue bytes v) (keeps : Keeps (only rules) spelt.item) where
  pub read_back : (result : Result Value Refusal)
      → MatchResult result (λ x. view x ≡ value spelt.item) (λ r. WhereTotal true (ReportsItsDeparture (only rules) spelt.item r))
      → MatchResult result (λ x. view x ≡ v) IsMemory
  read_back (Ok x) is = is ∙ sym spelt.valued
  read_back (Err (Unread e)) memory = memory
  read_back (Err (Departs d)) departs = absurd (let none = (none_where_kept (only rules) spelt.item).1 keeps in let some = departs in cc)

AreBytes-more : (bs : List ℕ) → AreBytes bs → AreBytes (bs ++ (0 ∷ []))
AreBytes-more [] are zero = omega arith
AreBytes-more [] are (suc i) = omega arith
AreBytes-more (b ∷ bs) are zero = are 0
AreBytes-more (b ∷ bs) are (suc i) = AreBytes-more bs (λ j. are (suc j)) i

-- ---- what bytes are read as that spell an item of some depth

module _ (rules : Rules) (bytes : List ℕ) (v : Val) (short : length bytes + 1 < 2 ^ 64) (are : AreBytes bytes) (deep : SpellsAtDepth bytes v)
    (keeps : (is : SpellsValue bytes v) → Keeps (only rules) is.item) where
  -- an acceptable item that they spell is that item
  as_value : (item : Raw) → IsAcceptable item → spell item ≡ bytes → SpellsValue bytes v
  as_value item acceptable spelled =
      let same : item ≡ deep.item = (one_spelling item deep.item [] acceptable.fits deep.acceptable.fits (append-nil (spell item) ∙ spelled ∙ sym deep.spelled)).0 in
      record { item = item; acceptable = acceptable; spelled = spelled; valued = deep.valued ∙ ap value (sym same) }

  -- where they spell an acceptable item, it nests at most 127 levels
  is_shallow : (is : SpellsValue bytes v) → depth (canonical v) ≤ max_depth
  is_shallow is =
      let nests = (value_is_canonical max_depth is.item is.acceptable (omega (arith, short, ap length is.spelled))).2.nests in
      subst (λ (w : Val). depth (canonical w) ≤ max_depth) (sym is.valued) nests

  -- and so where they are read; what nests so is read as itself, unless memory runs out
  pub where_read : (result : Result Value Refusal) → IfOk result (SpellsByRules (only rules) (λ r x. view x ≡ value r) bytes) → OnOk result (depth (canonical v) ≤ max_depth)
  where_read (Err e) found = tt
  where_read (Ok x) found = let s = found.spelt in is_shallow (as_value s.item s.acceptable s.spelled)

  shallow : depth (canonical v) ≤ max_depth → SpellsValue bytes v
  shallow le =
      let a = deep.acceptable in
      let nests = a.nests in
      record { item = deep.item; acceptable = record { fits = a.fits; nests = omega (arith, nests, le); texts = a.texts }; spelled = deep.spelled; valued = deep.valued }

  pub is_read : (result : Result Value Refusal)
      → ((w : Val) (is : SpellsValue bytes w) → MatchResult result (λ x. view x ≡ value is.item) (λ r. WhereTotal true (ReportsItsDeparture (only rules) is.item r)))
      → IsReadBack v result
  is_read result every le = read_back rules bytes v (shallow le) (keeps (shallow le)) result (every v (shallow le))

  departs_never : (d : Departure) → SpellsDeparting (only rules) bytes d → ⊥
  unfolding as_value
  departs_never d departing =
      let s = departing.spelt in
      let is = keeps (as_value s.item s.acceptable s.spelled) in
      absurd (let none = (none_where_kept (only rules) s.item).1 is in let some = departing.departs in cc)

  -- where it nests at most 127 levels, they allow no refusal
  none_allowed : depth (canonical v) ≤ max_depth → (why : Why) (place offset : ℕ) → IsAllowed (limits_of None) bytes why place offset → ⊥
  none_allowed le why place offset allowed =
      spelled_allows_none None bytes v (omega (arith, short)) (shallow le) tt why place offset allowed

  too_deep_alone : (why : Why) (place offset : ℕ) → IsAllowed (limits_of None) bytes why place offset → why ≡ too_deep
  too_deep_alone why place offset allowed =
      only_too_deep (depth (canonical v)) deep.item deep.acceptable (omega (arith, short, ap length deep.spelled))
      (AreBytes-more (spell deep.item) (subst AreBytes (sym deep.spelled) are)) why place offset
      (subst (λ (bs : List ℕ). IsAllowed (limits_of None) bs why place offset) (sym deep.spelled) allowed)

  nested_too_deep : (e : Error) → ReportsFirst (limits_of None) bytes e → IsNestedTooDeep v bytes e
  nested_too_deep e r =
      let is = too_deep_alone r.why r.first.place r.offset r.first.allowed in
      let at : r.offset ≡ offset_of e = omega (arith, r.at) in record {
        deeper = elim (cases_lt max_depth (depth (canonical v))) [
          | inl lt ↦ lt
          | inr le ↦ absurd (none_allowed le r.why r.first.place r.offset r.first.allowed)
        ];
        code = r.code ∙ ap refusal_code is;
        first = subst (λ (n : ℕ). IsFirstRefusal (limits_of None) bytes too_deep n) at
            (subst (λ (w : Why). IsFirstRefusal (limits_of None) bytes w r.offset) is r.first);
      }

-- ---- what is refused

module _ (form : Form) (encoding : Val → List ℕ) (d : Doc) where
  -- in writing
  pub in_writing : (result : Result Value Refusal) (e : Error) → IsErrAnd result (λ x. x ≡ Unread e)
      → IsNotWrittenIn form (IsStorableDocument d) (Allows form (value_of d)) e → IfErr result (IsNotReadBack form encoding d)
  in_writing result e is refused = only_unread (IsNotReadBack form encoding d) result e is (inl refused)

  -- for lack of memory
  no_memory : (e : Error) → IsOutOfMemory e → IsNotWrittenIn form (IsStorableDocument d) (Allows form (value_of d)) e
  no_memory e memory =
      (subst (λ k. IsRefusedBy form k (IsStorableDocument d) (Allows form (value_of d))) (sym memory.0) tt, memory.1)

  -- in reading
  module _ (rules : Rules) (writable : IsWritable form d) (bytes : List ℕ) (short : length bytes + 1 < 2 ^ 64) (are : AreBytes bytes)
      (written : bytes ≡ encoding (rewritten form (value_of d))) (deep : SpellsAtDepth bytes (rewritten form (value_of d)))
      (keeps : (is : SpellsValue bytes (rewritten form (value_of d))) → Keeps (only rules) is.item) where
    pub readable : (result : Result Value Refusal) → IfOk result (SpellsByRules (only rules) (λ r x. view x ≡ value r) bytes) → OnOk result (IsReadable form d)
    readable result found = and_so result (where_read rules bytes (rewritten form (value_of d)) short are deep keeps result found)
      where
        and_so : (r : Result Value Refusal) → OnOk r (depth (canonical (rewritten form (value_of d))) ≤ max_depth) → OnOk r (IsReadable form d)
        and_so (Ok x) le = (writable, le)
        and_so (Err e) le = tt

    pub in_reading : (result : Result Value Refusal)
        → IfErr result (IfUnread (λ e. WhereTotal true (IsOutOfMemory e ⊎ ReportsFirst (limits_of None) bytes e)))
        → IfErr result (IfDeparts (SpellsDeparting (only rules) bytes)) → IfErr result (IsNotReadBack form encoding d)
    in_reading (Ok x) first departed = tt
    in_reading (Err (Unread e)) (inl memory) departed = inl (no_memory e memory)
    in_reading (Err (Unread e)) (inr first) departed =
        inr (writable, subst (λ (bs : List ℕ). IsNestedTooDeep (rewritten form (value_of d)) bs e) written (nested_too_deep rules bytes (rewritten form (value_of d)) short are deep keeps e first))
    in_reading (Err (Departs departure)) first departed = departs_never rules bytes (rewritten form (value_of d)) short are deep keeps departure departed
