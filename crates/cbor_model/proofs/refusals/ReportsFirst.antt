-- What the reader reports is allowed, and the first that is.
use Rattle.std.proofs.Common.{◌≡◌, ◌⊎◌, ℕ, ◌+◌, ◌-◌, ◌≤◌}
use Rattle.std.proofs.Common.{cond, List, [], ◌∷◌, ◌++◌, length, Option, Ok, Err, refl}
use Rattle.std.proofs.Common.{sym, ap, subst, ◌∙◌, append_assoc, arith, inl, inr, IsUtf8}
use Rattle.std.proofs.lemmas.Bool.{cases_lt}
use Rattle.std.proofs.lemmas.List.{length-append}
use Rattle.cbor_model.specs.Spelling.{spell}
use Rattle.cbor_model.specs.Refusal.{Refusal, end_in_value, end_in_array, end_in_map}
use Rattle.cbor_model.specs.Refusal.{length_out_of_range, invalid_utf8, unassigned_code}
use Rattle.cbor_model.specs.Refusal.{unexpected_code, trailing_data, too_deep, scratch_too_small}
use Rattle.cbor_model.specs.Refusal.{wrong_struct_format}
use Rattle.cbor_model.specs.Reader.{Fault, Reads, Reading, item_at, whole}
use Rattle.cbor_model.specs.Wanted.{StandsInIndefiniteArray, StandsInIndefiniteMap}
use Rattle.cbor_model.specs.Allowed.{Limits, IsInvalidUtf8, IsStrayBreak, IsNoChunk, IsEnd}
use Rattle.cbor_model.specs.Allowed.{IsAllowed, IsFirstRefusal, IsBefore}
use Rattle.cbor_model.proofs.reader.ReaderSteps.{not_ok}
use Rattle.cbor_model.proofs.reader.FoundParts.{Passes}
use Rattle.cbor_model.proofs.reader.Found.{found}
use Rattle.cbor_model.proofs.refusals.FaultMeaning.{Meaning, IsClosedBreak}
use Rattle.cbor_model.proofs.refusals.NoFronts.{break_hard, no_open_array}
use Rattle.cbor_model.proofs.refusals.NoFronts.{no_open_map}
use Rattle.cbor_model.proofs.refusals.TextPlaces.{one_place, one_fault}
use Rattle.cbor_model.proofs.reader.Texts.{EachText-map}
use Rattle.cbor_model.proofs.refusals.EarlierRefusals.{Special, array_begins}
use Rattle.cbor_model.proofs.refusals.EarlierRefusals.{map_begins}
use Rattle.cbor_model.proofs.refusals.ReadingRules as passing
use Rattle.cbor_model.proofs.refusals.ReadingRules.{Rules}
use Rattle.cbor_model.proofs.refusals.ReportsAllowed as rows
use Rattle.cbor_model.proofs.refusals.ReportsAllowed.{Precedes}
use Rattle.cbor_model.proofs.refusals.ReportsEnds as ends

-- a refusal that isn't an end, with its place
special_allowed : (l : Limits) (b : List ℕ) (why : Refusal) (left n : ℕ) → Special l b why left n → (place : ℕ) × (place ≤ n) × IsAllowed l b why place (length b - left)
special_allowed l b length_out_of_range left n s = (s.0, s.2, (s.3, omega (arith, s.1)))
special_allowed l b invalid_utf8 left n s =
    let offset_is : s.1 ≡ length b - left = omega (arith, s.2) in
    (s.0, s.3, subst (IsInvalidUtf8 b s.0) offset_is s.4)
special_allowed l b too_deep left n s = (s.0, s.2, (s.3, omega (arith, s.1)))
special_allowed l b scratch_too_small left n s = (s.0, s.2, (s.3, omega (arith, s.1)))
special_allowed l b end_in_value left n s = absurd s
special_allowed l b end_in_array left n s = absurd s
special_allowed l b end_in_map left n s = absurd s
special_allowed l b unassigned_code left n s = absurd s
special_allowed l b unexpected_code left n s = absurd s
special_allowed l b trailing_data left n s = absurd s
special_allowed l b wrong_struct_format left n s = absurd s

special_no_end : (l : Limits) (b : List ℕ) (why : Refusal) (left n : ℕ) → Special l b why left n → IsEnd why → ⊥
special_no_end l b end_in_value left n s e = s
special_no_end l b end_in_array left n s e = s
special_no_end l b end_in_map left n s e = s
special_no_end l b _ left n s e = e

module _ {Item Items Pairs : Type 0} (m : Reading Item Items Pairs) (total : ℕ) (scratch : Option ℕ) (rules : Rules m total scratch) where
  abbrev lim : ℕ → List ℕ → Limits
  lim l bytes = passing.lim m total scratch rules l bytes

  abbrev Cond : ℕ → List ℕ → Type 0
  Cond l bytes = passing.Cond m total scratch rules l bytes

  abbrev Bad : ℕ → List ℕ → Fault → ℕ → Type 0
  Bad l bytes f n = passing.Bad m total scratch rules l bytes f n

  abbrev Refuses : ℕ → List ℕ → ℕ → Type 0
  Refuses L bytes n = passing.Refuses m total scratch rules L bytes n

  abbrev Answers : ℕ → List ℕ → Refusal → ℕ → ℕ → Type 0
  Answers L b why place offset = rows.Answers m total scratch rules L b why place offset

  -- ---- what the reader reports is allowed

  reported_allowed : (L : ℕ) (b : List ℕ) (why : Refusal) (left : ℕ) → Cond L b → item_at m L b ≡ Err (record { why = why; left = left }) → Meaning (lim L b) b why left → (place : ℕ) × IsAllowed (lim L b) b why place (length b - left)
  reported_allowed L b end_in_value left cond is e = (length b, (record { ends = record { whole = refl; begins = e.1 }; no_array = no_array; no_map = no_map }, omega (arith, e.0)))
    where
      f : Fault
      f = record { why = end_in_value; left = left }

      never : (why : Refusal) → (end_in_value ≡ why → ⊥) → Answers L b why (length b) (length b) → ⊥
      never why other a = by_how a.fault (one_fault (whole (item_at m L b)) a.fault f a.is (rows.whole_err m total scratch rules (item_at m L b) f is)) a.how
        where
          by_how : (g : Fault) → g ≡ f → ((g.why ≡ why) × (length b + g.left ≡ length b)) ⊎ ((n : ℕ) × Precedes n why (length b) × Special (lim L b) b g.why g.left n) → ⊥
          by_how g same (inl met) = other (sym (ap (λ (h : Fault). h.why) same) ∙ met.0)
          by_how g same (inr s) = subst (λ (h : Fault). Special (lim L b) b h.why h.left s.0) same s.2

      no_array : StandsInIndefiniteArray b → ⊥
      no_array s = never end_in_array (λ e. cc) (ends.answers_in_array m total scratch rules L b cond s)

      no_map : StandsInIndefiniteMap b → ⊥
      no_map s = never end_in_map (λ e. cc) (ends.answers_in_map m total scratch rules L b cond s)
  reported_allowed L b end_in_array left cond is e = (length b, (record { ends = record { whole = refl; begins = array_begins b e.1 }; stands = e.1 }, omega (arith, e.0)))
  reported_allowed L b end_in_map left cond is e = (length b, (record { ends = record { whole = refl; begins = map_begins b e.1 }; stands = e.1 }, omega (arith, e.0)))
  reported_allowed L b length_out_of_range left cond is e = (e.0, (e.2, omega (arith, e.1)))
  reported_allowed L b invalid_utf8 left cond is e =
      let offset_is : e.1.0 ≡ length b - left = omega (arith, e.1.1) in
      (e.0, subst (IsInvalidUtf8 b e.0) offset_is e.1.2)
  reported_allowed L b unassigned_code left cond is e = (e.0, (e.2, omega (arith, e.1)))
  reported_allowed L b unexpected_code left cond is e = (e.0, (either e.2, omega (arith, e.1)))
    where
      either : IsClosedBreak b e.0 ⊎ IsNoChunk b e.0 → IsStrayBreak b e.0 ⊎ IsNoChunk b e.0
      either (inr c) = inr c
      either (inl c) = inl (record {
        no_array = no_open_array c.before (break_hard c.before c.closed);
        no_map = no_open_map c.before (break_hard c.before c.closed);
        at = record {
          levels = c.levels;
          before = c.before;
          wanted = c.wanted;
          first = c.first;
        };
      })
  reported_allowed L b trailing_data left cond is e = absurd e
  reported_allowed L b too_deep left cond is e = (e.0, (e.2, omega (arith, e.1)))
  reported_allowed L b scratch_too_small left cond is e = (e.0, (e.2, omega (arith, e.1)))
  reported_allowed L b wrong_struct_format left cond is e = absurd e

  -- more follows a whole item
  more_allowed : (L : ℕ) (b : List ℕ) (x : Item) (rest : List ℕ) (f : Fault) → Cond L b → item_at m L b ≡ Ok (x, rest) → whole (item_at m L b) ≡ Err f → (place : ℕ) × IsAllowed (lim L b) b f.why place (length b - f.left)
  more_allowed L b x [] f cond is fails = absurd (not_ok f x (sym fails ∙ none is))
    where
      none : {r : Reads Item} → r ≡ Ok (x, []) → whole r ≡ Ok x
      none is = rw is refl
  more_allowed L b x (byte ∷ rest) f cond is fails =
      let got = found m rules.none_fits L b (x, byte ∷ rest) cond.1 is in
      let g : Fault = record { why = trailing_data; left = length (byte ∷ rest) - 1 } in
      let same : g ≡ f = one_fault (whole (item_at m L b)) g f (ends.whole_trailing m total scratch rules x byte rest (item_at m L b) is) fails in
      let front = spell got.item ++ (byte ∷ []) in
      subst (λ (h : Fault). (place : ℕ) × IsAllowed (lim L b) b h.why place (length b - h.left)) same (
        length front,
        (
          record {
            item = got.item;
            byte = byte;
            acceptable = record { fits = got.fits; nests = got.nests; texts = EachText-map (Passes m) IsUtf8 rules.utf8 got.item got.texts };
            first = record { rest = rest; parts = got.parts ∙ sym (append_assoc (spell got.item) (byte ∷ []) rest); long = refl };
          },
          omega (arith, ap length got.parts, length-append (spell got.item) (byte ∷ rest), length-append (spell got.item) (byte ∷ [])),
        ),
      )

  pub allowed : (L : ℕ) (b : List ℕ) (f : Fault) → Cond L b → whole (item_at m L b) ≡ Err f → (place : ℕ) × IsAllowed (lim L b) b f.why place (length b - f.left)
  allowed L b f cond fails = by_result (item_at m L b) refl
    where
      by_result : (res : Reads Item) → item_at m L b ≡ res → (place : ℕ) × IsAllowed (lim L b) b f.why place (length b - f.left)
      by_result (Ok x) is = more_allowed L b x.0 x.1 f cond is fails
      by_result (Err g) is =
          let same : g ≡ f = one_fault (whole (item_at m L b)) g f (rows.whole_err m total scratch rules (item_at m L b) g is) fails in
          subst (λ (h : Fault). (place : ℕ) × IsAllowed (lim L b) b h.why place (length b - h.left)) same (reported_allowed L b g.why g.left cond is (passing.reports_err m total scratch rules L b g cond is))

  -- ---- and the first that is

  pub first_refusal : (L : ℕ) (b : List ℕ) (f : Fault) → Cond L b → whole (item_at m L b) ≡ Err f → IsFirstRefusal (lim L b) b f.why (length b - f.left)
  first_refusal L b f cond fails =
      let here = allowed L b f cond fails in
      record {
        place = here.0;
        allowed = here.1;
        first = λ why' place' offset' a. comes here.0 here.1 why' place' offset' a (ends.answers m total scratch rules L b why' place' offset' cond a);
      }
    where
      by_how : (place : ℕ) → IsAllowed (lim L b) b f.why place (length b - f.left) → (why' : Refusal) (place' offset' : ℕ) → IsAllowed (lim L b) b why' place' offset'
          → ((f.why ≡ why') × (offset' + f.left ≡ length b)) ⊎ ((n : ℕ) × Precedes n why' place' × Special (lim L b) b f.why f.left n)
          → ((why' ≡ f.why) × (place' ≡ place) × (offset' ≡ length b - f.left)) ⊎ IsBefore f.why place why' place'
      by_how place ok why' place' offset' a (inl met) =
          let offset_is : offset' ≡ length b - f.left = omega (arith, met.1) in
          let moved : IsAllowed (lim L b) b f.why place' (length b - f.left) = subst (λ (w : Refusal). IsAllowed (lim L b) b w place' (length b - f.left)) (sym met.0) (subst (IsAllowed (lim L b) b why' place') offset_is a) in
          inl (sym met.0, one_place (lim L b) b f.why place' place (length b - f.left) moved ok, offset_is)
      by_how place ok why' place' offset' a (inr s) =
          let at = special_allowed (lim L b) b f.why f.left s.0 s.2 in
          let place_is : place ≡ at.0 = one_place (lim L b) b f.why place at.0 (length b - f.left) ok at.2 in
          let le : place ≤ s.0 = omega (arith, place_is, at.1) in
          inr (by_order s.1 le (special_no_end (lim L b) b f.why f.left s.0 s.2))
        where
          by_order : Precedes s.0 why' place' → place ≤ s.0 → (IsEnd f.why → ⊥) → IsBefore f.why place why' place'
          by_order (inl lt) le no_end = inl (omega (arith, lt, le))
          by_order (inr tie) le no_end =
              elim (cases_lt place place') [
                | inl lt ↦ inl lt
                | inr ge ↦ inr (omega (arith, ge, le, tie.0), no_end, tie.1)
              ]

      comes : (place : ℕ) → IsAllowed (lim L b) b f.why place (length b - f.left) → (why' : Refusal) (place' offset' : ℕ) → IsAllowed (lim L b) b why' place' offset' → Answers L b why' place' offset'
          → ((why' ≡ f.why) × (place' ≡ place) × (offset' ≡ length b - f.left)) ⊎ IsBefore f.why place why' place'
      comes place ok why' place' offset' a ans =
          let same : ans.fault ≡ f = one_fault (whole (item_at m L b)) ans.fault f ans.is fails in
          by_how place ok why' place' offset' a
          (subst (λ (g : Fault). ((g.why ≡ why') × (offset' + g.left ≡ length b)) ⊎ ((n : ℕ) × Precedes n why' place' × Special (lim L b) b g.why g.left n)) same ans.how)

  -- the fault lies within the bytes
  pub left_within : (L : ℕ) (b : List ℕ) (f : Fault) → Cond L b → whole (item_at m L b) ≡ Err f → (length b - f.left) + f.left ≡ length b
  left_within L b f cond fails =
      let here = allowed L b f cond fails in
      let ans = ends.answers m total scratch rules L b f.why here.0 (length b - f.left) cond here.1 in
      let same : ans.fault ≡ f = one_fault (whole (item_at m L b)) ans.fault f ans.is fails in
      by_how ans.fault same ans.how
    where
      within : (l : Limits) (why : Refusal) (left n : ℕ) → Special l b why left n → left ≤ length b
      within l length_out_of_range left n s = omega (arith, s.1)
      within l invalid_utf8 left n s = omega (arith, s.2)
      within l too_deep left n s = omega (arith, s.1)
      within l scratch_too_small left n s = omega (arith, s.1)
      within l end_in_value left n s = absurd s
      within l end_in_array left n s = absurd s
      within l end_in_map left n s = absurd s
      within l unassigned_code left n s = absurd s
      within l unexpected_code left n s = absurd s
      within l trailing_data left n s = absurd s
      within l wrong_struct_format left n s = absurd s

      by_how : (g : Fault) → g ≡ f → ((g.why ≡ f.why) × ((length b - f.left) + g.left ≡ length b)) ⊎ ((n : ℕ) × Precedes n f.why (allowed L b f cond fails).0 × Special (lim L b) b g.why g.left n) → (length b - f.left) + f.left ≡ length b
      by_how g same (inl met) = ap (λ (h : Fault). (length b - f.left) + h.left) (sym same) ∙ met.1
      by_how g same (inr s) = omega (arith, within (lim L b) g.why g.left s.0 s.2, ap (λ (h : Fault). h.left) same)

  -- where a value is read, no refusal is allowed
  pub none_allowed : (L : ℕ) (b : List ℕ) (x : Item) → Cond L b → whole (item_at m L b) ≡ Ok x → (why : Refusal) (place offset : ℕ) → IsAllowed (lim L b) b why place offset → ⊥
  none_allowed L b x cond reads why place offset a =
      let ans = ends.answers m total scratch rules L b why place offset cond a in
      not_ok ans.fault x (sym ans.is ∙ reads)
