-- What a fault says of the bytes: an item is wanted where it stands, and what stands there is at fault.
use Rattle.std.proofs.Common.{◌≡◌, ℕ, zero, suc, ◌+◌, ◌-◌, ◌*◌, ◌/◌, ◌%◌, ◌^◌, ◌<◌, ◌≤◌, Bool, true}
use Rattle.std.proofs.Common.{false, cond, eqb, List, [], ◌∷◌, ◌++◌, length, Option, Some, None, Ok, Err}
use Rattle.std.proofs.Common.{refl, sym, ap, subst, ◌∙◌, append_assoc, arith, inl, inr}
use Rattle.std.specs.Str.{IsValidUpTo}
use Rattle.std.specs.Str.Lossy.{utf8_valid_len}
use Rattle.std.proofs.lemmas.Bool.{eqb-true, eqb-false}
use Rattle.std.proofs.lemmas.List.{append-nil, length-append}
use Rattle.cbor_model.specs.Head.{HeadWidth, limit, head}
use Rattle.cbor_model.specs.Major.{major_of}
use Rattle.cbor_model.specs.Raw as raw
use Rattle.cbor_model.specs.Raw.{Length, definite, indefinite, Raw, Raws, no_raws, count, AreBytes}
use Rattle.cbor_model.specs.Raw.{AreWellFormed}
use Rattle.cbor_model.specs.Spelling.{spell, spell_all}
use Rattle.cbor_model.specs.Refusal.{too_deep}
use Rattle.cbor_model.specs.Reader.{Reads, ◌>>=◌, Reading, width_of, number_behind, with_number}
use Rattle.cbor_model.specs.Reader.{with_length, string_at, text_at, string_chunks_at}
use Rattle.cbor_model.specs.Reader.{text_chunks_at, Remaining, counted, to_break, next_at, Parts, go_on}
use Rattle.cbor_model.specs.Reader.{parts_by, parts_at, key_at, pair_at, items_of, pairs_of}
use Rattle.cbor_model.specs.Reader.{array_at, map_at, tag_at, content_at, after_first, item_by, item_at}
use Rattle.cbor_model.specs.Reader.{byte_at}
use Rattle.cbor_model.specs.Wanted.{Opening, array_head, map_head, tag_head, indefinite_array}
use Rattle.cbor_model.specs.Wanted.{indefinite_map, opening, IsOpening, at_first}
use Rattle.cbor_model.specs.Allowed.{Limits, IsOver}
use Rattle.cbor_model.proofs.reader.ReaderSteps.{number_behind_found, AreBytes-rest, first_is, key_is, key_read}
use Rattle.cbor_model.proofs.reader.FirstBytes.{begun, begun-length}
use Rattle.cbor_model.proofs.reader.Majors.{each_major}
use Rattle.cbor_model.proofs.reader.FoundParts.{whole_head, Finds}
use Rattle.cbor_model.proofs.reader.Found.{found, pair_found}
use Rattle.cbor_model.proofs.refusals.Wanted.{IsFrame, frame, all_of, count-all_of, all_of_fit, spell-all_of, paired, beginning_behind}
use Rattle.cbor_model.proofs.refusals.Completion.{nothing_begins, head_cut}
use Rattle.cbor_model.proofs.refusals.FaultMeaning.{Meaning, IsClosed, Reports, Reports-bind, Reports-cond, NoEnd, reported_behind}
use Rattle.cbor_model.proofs.refusals.LeafFaults.{Reports-number_behind, unassigned_here, unassigned_in, Reports-simple}
use Rattle.cbor_model.proofs.refusals.LeafFaults.{Reports-string, Reports-text, Reports-string_chunks}
use Rattle.cbor_model.proofs.refusals.LeafFaults.{Reports-text_chunks}

-- one more item after those of a frame
abbrev pub with_last : Raws → Raw → Raws
with_last rs r = all_of rs (raw.raw r no_raws)

pub last-fit : (rs : Raws) (r : Raw) → AreWellFormed rs → raw.IsWellFormed r → AreWellFormed (with_last rs r)
last-fit rs r fits fit = all_of_fit rs (raw.raw r no_raws) fits (fit, tt)

pub last-count : (rs : Raws) (r : Raw) → count (with_last rs r) ≡ suc (count rs)
last-count rs r = omega (arith, count-all_of rs (raw.raw r no_raws))

pub last-bytes : (o : Opening) (rs : Raws) (r : Raw) (rest : List ℕ) → frame o (with_last rs r) ++ rest ≡ frame o rs ++ (spell r ++ rest)
unfolding spell
last-bytes o rs r rest = ap (λ (t : List ℕ). (opening o ++ t) ++ rest) (spell-all_of rs (raw.raw r no_raws)) ∙ parts (opening o) (spell_all rs) (spell r) rest
  where
    parts : (a b c d : List ℕ) → (a ++ (b ++ (c ++ []))) ++ d ≡ (a ++ b) ++ (c ++ d)
    parts a b c d = simp append_assoc

pub frame_none : (o : Opening) (bs : List ℕ) → frame o no_raws ++ bs ≡ opening o ++ bs
unfolding spell
frame_none o bs = ap (λ (t : List ℕ). t ++ bs) (append-nil (opening o))

-- what is reported of bytes is reported of them after a frame
reports_behind : {A : Type 0} (o : Opening) (items : Raws) (is_frame : IsFrame o items) (start levels : ℕ) (scratch : Option ℕ) (bs : List ℕ) (r : Reads A) → NoEnd o items is_frame bs
    → Reports (record { start = start + length (frame o items); levels = levels; scratch = scratch }) bs r
    → Reports (record { start = start; levels = suc levels; scratch = scratch }) (frame o items ++ bs) r
reports_behind o items is_frame start levels scratch bs (Ok x) no_end reported = tt
reports_behind o items is_frame start levels scratch bs (Err f) no_end reported = reported_behind o items is_frame start levels scratch bs f.why f.left no_end reported

-- a break, or a part
abbrev next_or : Bool → ℕ → List ℕ → Reads (Option Remaining)
next_or last b bs = cond last (Ok (None, bs)) (Ok (Some to_break, b ∷ bs))

Reports-next : {Part Whole : Type 0} (l : Limits) (bytes : List ℕ) (ps : Parts Part Whole) (others : Remaining → List ℕ → Reads Whole) (b : ℕ) (bs : List ℕ) (last : Bool)
    → (last ≡ false → Reports l bytes (go_on ps others (Some to_break) (b ∷ bs)))
    → Reports l bytes (next_or last b bs >>= (λ next. go_on ps others next.0 next.1))
Reports-next l bytes ps others b bs true other = tt
Reports-next l bytes ps others b bs false other = other refl

module _ {Item Items Pairs : Type 0} (m : Reading Item Items Pairs) (total : ℕ) (scratch : Option ℕ)
    (far : (left n : ℕ) → left ≤ total → m.has_room left n ≡ false → 2 ^ 64 ≤ (total - left) + n)
    (no_text : (b : List ℕ) → m.is_text b ≡ false → IsValidUpTo b (utf8_valid_len b))
    (over : (n : ℕ) → m.exceeds n ≡ true → IsOver scratch n)
    (none_fits : m.exceeds 0 ≡ false)
    (every : (b : ℕ) → m.allows b ≡ true)
  where
    abbrev pub limits : ℕ → ℕ → Limits
    limits start levels = record { start = start; levels = levels; scratch = scratch }

    -- what a reader of what lies one level further in reports
    abbrev pub ReportsInside : (List ℕ → Reads Item) → ℕ → Type 0
    ReportsInside p levels = (start : ℕ) (bs : List ℕ) → start + length bs ≡ total → AreBytes bs → Reports (limits start levels) bs (p bs)

    abbrev InnerReports : Option (List ℕ → Reads Item) → ℕ → Type 0
    InnerReports None zero = Unit {0}
    InnerReports (Some p) (suc inside) = ReportsInside p inside × Finds m p inside
    InnerReports _ _ = ⊥

    -- after the items of an array
    abbrev Follows : Opening → ℕ → Remaining → Type 0
    Follows (array_head w n) many (counted k) = many + k ≡ n
    Follows indefinite_array many to_break = Unit {0}
    Follows _ many remaining = ⊥

    -- after so many pairs of a map
    abbrev FollowsPairs : Opening → ℕ → Remaining → Type 0
    FollowsPairs (map_head w n) many (counted k) = many + k ≡ n
    FollowsPairs indefinite_map many to_break = Unit {0}
    FollowsPairs _ many remaining = ⊥

    at_place : (start : ℕ) (a b : List ℕ) → start + length (a ++ b) ≡ total → (start + length a) + length b ≡ total
    at_place start a b is = omega (arith, is, length-append a b)

    module _ (p : List ℕ → Reads Item) (inside : ℕ) (reports : ReportsInside p inside) (finds : Finds m p inside) (start : ℕ) where
      abbrev l : Limits
      l = limits start (suc inside)

      -- an item after those of a frame
      item_reports : (o : Opening) (rs : Raws) (is_frame : IsFrame o rs) (bs : List ℕ) → NoEnd o rs is_frame bs → start + length (frame o rs ++ bs) ≡ total → AreBytes bs
          → Reports l (frame o rs ++ bs) (p bs)
      item_reports o rs is_frame bs no_end at_total fits =
          reports_behind o rs is_frame start inside scratch bs (p bs) no_end (reports (start + length (frame o rs)) bs (at_place start (frame o rs) bs at_total) fits)

      items_report : (o : Opening) (fuel : ℕ) (remaining : Remaining) (rs : Raws) (bs : List ℕ) → IsOpening o → AreWellFormed rs → Follows o (count rs) remaining → start + length (frame o rs ++ bs) ≡ total → AreBytes bs → length bs < fuel
          → Reports l (frame o rs ++ bs) (parts_by (items_of m p) fuel remaining bs)
      unfolding parts_by next_at
      items_report o zero remaining rs bs opens rs_fit follows at_total fits enough = absurd (omega arith)
      items_report o (suc fuel) (counted zero) rs bs opens rs_fit follows at_total fits enough = tt
      items_report (array_head w n) (suc fuel) (counted (suc k)) rs bs opens rs_fit follows at_total fits enough =
          let o = array_head w n in
          let is_frame : IsFrame o rs = record { opens = opens; fits = rs_fit; place = omega (arith, follows) } in
          Reports-bind l (frame o rs ++ bs) (p bs) _ (item_reports o rs is_frame bs (inl tt) at_total fits) (λ first got.
          let one = finds bs first fits got in
          let rs' = with_last rs one.item in
          let moved : frame o rs' ++ first.1 ≡ frame o rs ++ bs = last-bytes o rs one.item first.1 ∙ ap (λ (t : List ℕ). frame o rs ++ t) (sym one.parts) in
          Reports-bind l (frame o rs ++ bs) (parts_by (items_of m p) fuel (counted k) first.1) _
          (subst (λ (t : List ℕ). Reports l t (parts_by (items_of m p) fuel (counted k) first.1)) moved
          (items_report o fuel (counted k) rs' first.1 opens (last-fit rs one.item rs_fit one.fits) (omega (arith, follows, last-count rs one.item)) (ap (λ (t : List ℕ). start + length t) moved ∙ at_total) one.rest_fits
          (omega (arith, enough, begun-length (spell one.item) (begun one.item one.fits), ap length one.parts, length-append (spell one.item) first.1))))
          (λ rest got'. tt))
      items_report indefinite_array (suc fuel) to_break rs [] opens rs_fit follows at_total fits enough =
          (refl, record { levels = 0; before = []; items = rs; wanted = at_first; fits = rs_fit; parts = append-nil (frame indefinite_array rs) })
      items_report indefinite_array (suc fuel) to_break rs (b ∷ bs) opens rs_fit follows at_total fits enough =
          let o = indefinite_array in
          let here = b ∷ bs in
          let is_frame : IsFrame o rs = record { opens = tt; fits = rs_fit; place = tt } in
          Reports-next l (frame o rs ++ here) (items_of m p) (parts_by (items_of m p) fuel) b bs (eqb b 0xff) (λ other.
          Reports-bind l (frame o rs ++ here) (p here) _ (item_reports o rs is_frame here (inr (λ more is. eqb-false _ _ other (first_of' b bs more is))) at_total fits) (λ first got.
          let one = finds here first fits got in
          let rs' = with_last rs one.item in
          let moved : frame o rs' ++ first.1 ≡ frame o rs ++ here = last-bytes o rs one.item first.1 ∙ ap (λ (t : List ℕ). frame o rs ++ t) (sym one.parts) in
          Reports-bind l (frame o rs ++ here) (parts_by (items_of m p) fuel to_break first.1) _
          (subst (λ (t : List ℕ). Reports l t (parts_by (items_of m p) fuel to_break first.1)) moved
          (items_report o fuel to_break rs' first.1 opens (last-fit rs one.item rs_fit one.fits) tt (ap (λ (t : List ℕ). start + length t) moved ∙ at_total) one.rest_fits
          (omega (arith, enough, begun-length (spell one.item) (begun one.item one.fits), ap length one.parts, length-append (spell one.item) first.1))))
          (λ rest got'. tt)))
        where
          first_of' : (b : ℕ) (bs more : List ℕ) → (b ∷ bs) ≡ 0xff ∷ more → b ≡ 0xff
          first_of' b bs more is = cc
      items_report (array_head w n) (suc fuel) to_break rs bs opens rs_fit follows at_total fits enough = absurd follows
      items_report (map_head w n) (suc fuel) _ rs bs opens rs_fit follows at_total fits enough = absurd follows
      items_report (tag_head w n) (suc fuel) _ rs bs opens rs_fit follows at_total fits enough = absurd follows
      items_report indefinite_array (suc fuel) (counted (suc k)) rs bs opens rs_fit follows at_total fits enough = absurd follows
      items_report indefinite_map (suc fuel) _ rs bs opens rs_fit follows at_total fits enough = absurd follows

      -- ---- pairs

      -- after a key a value has its place, and no break
      abbrev TakesValue : Opening → Raws → Type 0
      TakesValue o rs = (k : Raw) → raw.IsWellFormed k → IsFrame o (with_last rs k) × IsClosed o (count (with_last rs k))

      key_reports : (o : Opening) (rs : Raws) (is_frame : IsFrame o rs) (bs : List ℕ) → NoEnd o rs is_frame bs → start + length (frame o rs ++ bs) ≡ total → AreBytes bs
          → Reports l (frame o rs ++ bs) (key_at m.allows p bs)
      unfolding key_at
      key_reports o rs is_frame [] no_end at_total fits = (refl, beginning_behind o rs [] is_frame nothing_begins)
      key_reports o rs is_frame (b ∷ bs) no_end at_total fits =
          subst (λ (r : Reads Item). Reports l (frame o rs ++ (b ∷ bs)) r) (sym (key_is m.allows p (b ∷ bs) (every b)))
          (item_reports o rs is_frame (b ∷ bs) no_end at_total fits)

      pair_reports : (o : Opening) (rs : Raws) (is_frame : IsFrame o rs) → TakesValue o rs → (bs : List ℕ) → NoEnd o rs is_frame bs → start + length (frame o rs ++ bs) ≡ total → AreBytes bs
          → Reports l (frame o rs ++ bs) (pair_at m.allows p bs)
      unfolding pair_at
      pair_reports o rs is_frame takes bs no_end at_total fits =
          Reports-bind l (frame o rs ++ bs) (key_at m.allows p bs) _ (key_reports o rs is_frame bs no_end at_total fits) (λ k got.
          let key = finds bs k fits (key_read m.allows p bs k got).1 in
          let rs' = with_last rs key.item in
          let moved : frame o rs' ++ k.1 ≡ frame o rs ++ bs = last-bytes o rs key.item k.1 ∙ ap (λ (t : List ℕ). frame o rs ++ t) (sym key.parts) in
          Reports-bind l (frame o rs ++ bs) (p k.1) _
          (subst (λ (t : List ℕ). Reports l t (p k.1)) moved
          (item_reports o rs' (takes key.item key.fits).0 k.1 (inl (takes key.item key.fits).1) (ap (λ (t : List ℕ). start + length t) moved ∙ at_total) key.rest_fits))
          (λ v got'. tt))

      -- a pair, and those after it
      pairs_after : (o : Opening) (fuel : ℕ) (remaining : Remaining) (n : ℕ) (rs : Raws) (bs : List ℕ) → IsOpening o → AreWellFormed rs → count rs ≡ 2 * n → (is_frame : IsFrame o rs) → TakesValue o rs → NoEnd o rs is_frame bs → start + length (frame o rs ++ bs) ≡ total → AreBytes bs → length bs ≤ fuel
          → ((rs' : Raws) (more : List ℕ) → AreWellFormed rs' → count rs' ≡ 2 * suc n → start + length (frame o rs' ++ more) ≡ total → AreBytes more → length more < fuel → Reports l (frame o rs' ++ more) (parts_by (pairs_of m p) fuel remaining more))
          → Reports l (frame o rs ++ bs) (go_on (pairs_of m p) (parts_by (pairs_of m p) fuel) (Some remaining) bs)
      pairs_after o fuel remaining n rs bs opens rs_fit many is_frame takes no_end at_total fits enough others =
          Reports-bind l (frame o rs ++ bs) (pair_at m.allows p bs) _ (pair_reports o rs is_frame takes bs no_end at_total fits) (λ first got.
          let one = pair_found m none_fits p inside finds bs first fits got in
          let k = one.key.item in
          let v = one.value.item in
          let rs' = with_last (with_last rs k) v in
          let moved : frame o rs' ++ first.1 ≡ frame o rs ++ bs =
          last-bytes o (with_last rs k) v first.1
          ∙ ap (λ (t : List ℕ). frame o (with_last rs k) ++ t) (sym one.value.parts)
          ∙ last-bytes o rs k one.at_value
          ∙ ap (λ (t : List ℕ). frame o rs ++ t) (sym one.key.parts) in
          Reports-bind l (frame o rs ++ bs) (parts_by (pairs_of m p) fuel remaining first.1) _
          (subst (λ (t : List ℕ). Reports l t (parts_by (pairs_of m p) fuel remaining first.1)) moved
          (others rs' first.1 (last-fit (with_last rs k) v (last-fit rs k rs_fit one.key.fits) one.value.fits)
          (omega (arith, many, last-count (with_last rs k) v, last-count rs k))
          (ap (λ (t : List ℕ). start + length t) moved ∙ at_total) one.value.rest_fits
          (omega (arith, enough, begun-length (spell k) (begun k one.key.fits), ap length one.key.parts, length-append (spell k) one.at_value, ap length one.value.parts, length-append (spell v) first.1))))
          (λ rest got'. tt))

      pairs_report : (o : Opening) (fuel : ℕ) (remaining : Remaining) (n : ℕ) (rs : Raws) (bs : List ℕ) → IsOpening o → AreWellFormed rs → count rs ≡ 2 * n → FollowsPairs o n remaining → start + length (frame o rs ++ bs) ≡ total → AreBytes bs → length bs < fuel
          → Reports l (frame o rs ++ bs) (parts_by (pairs_of m p) fuel remaining bs)
      unfolding parts_by next_at
      pairs_report o zero remaining n rs bs opens rs_fit many follows at_total fits enough = absurd (omega arith)
      pairs_report o (suc fuel) (counted zero) n rs bs opens rs_fit many follows at_total fits enough = tt
      pairs_report (map_head w k) (suc fuel) (counted (suc left)) n rs bs opens rs_fit many follows at_total fits enough =
          let o = map_head w k in
          let is_frame : IsFrame o rs = record { opens = opens; fits = rs_fit; place = omega (arith, follows, many) } in
          pairs_after o fuel (counted left) n rs bs opens rs_fit many is_frame
          (λ key key_fits. (record { opens = opens; fits = last-fit rs key rs_fit key_fits; place = omega (arith, follows, many, last-count rs key) }, tt))
          (inl tt) at_total fits (omega (arith, enough))
          (λ rs' more rs'_fit many' at_total' more_fit enough'. pairs_report o fuel (counted left) (suc n) rs' more opens rs'_fit many' (omega (arith, follows)) at_total' more_fit enough')
      pairs_report indefinite_map (suc fuel) to_break n rs [] opens rs_fit many follows at_total fits enough =
          let ps = paired n rs rs_fit many in
          (refl, record { levels = 0; before = []; pairs = ps.pairs; wanted = at_first; fits = ps.fits; parts = append-nil (frame indefinite_map rs) ∙ ap (λ (t : List ℕ). 0xbf ∷ t) (sym ps.spelled) })
      pairs_report indefinite_map (suc fuel) to_break n rs (b ∷ bs) opens rs_fit many follows at_total fits enough =
          let o = indefinite_map in
          let here = b ∷ bs in
          let is_frame : IsFrame o rs = record { opens = tt; fits = rs_fit; place = tt } in
          Reports-next l (frame o rs ++ here) (pairs_of m p) (parts_by (pairs_of m p) fuel) b bs (eqb b 0xff) (λ other.
          pairs_after o fuel to_break n rs here opens rs_fit many is_frame
          (λ key key_fits. (record { opens = tt; fits = last-fit rs key rs_fit key_fits; place = tt }, odd (count (with_last rs key)) n (last-count rs key ∙ ap suc many)))
          (inr (λ more is. eqb-false _ _ other (first_of' b bs more is))) at_total fits (omega (arith, enough))
          (λ rs' more rs'_fit many' at_total' more_fit enough'. pairs_report o fuel to_break (suc n) rs' more opens rs'_fit many' tt at_total' more_fit enough'))
        where
          first_of' : (b : ℕ) (bs more : List ℕ) → (b ∷ bs) ≡ 0xff ∷ more → b ≡ 0xff
          first_of' b bs more is = cc

          odd : (c n : ℕ) → c ≡ suc (2 * n) → c % 2 ≡ 1
          odd c n is = omega (arith, is)
      pairs_report (array_head w k) (suc fuel) _ n rs bs opens rs_fit many follows at_total fits enough = absurd follows
      pairs_report (map_head w k) (suc fuel) to_break n rs bs opens rs_fit many follows at_total fits enough = absurd follows
      pairs_report (tag_head w k) (suc fuel) _ n rs bs opens rs_fit many follows at_total fits enough = absurd follows
      pairs_report indefinite_array (suc fuel) _ n rs bs opens rs_fit many follows at_total fits enough = absurd follows
      pairs_report indefinite_map (suc fuel) (counted (suc left)) n rs bs opens rs_fit many follows at_total fits enough = absurd follows

    -- ---- arrays, maps and tags

    -- an opening where no level is left
    pub deep_here : (start : ℕ) (o : Opening) (bs : List ℕ) → IsOpening o → Meaning (limits start 0) (opening o ++ bs) too_deep (length bs)
    deep_here start o bs opens = (
      length (opening o),
      omega (arith, length-append (opening o) bs),
      record {
        opens = o;
        deep = omega arith;
        fits = opens;
        at = record {
          levels = 0;
          before = [];
          wanted = at_first;
          first = record { rest = bs; parts = refl; long = refl };
        };
      },
    )

    module _ (start : ℕ) where
      array_reports : (inner : Option (List ℕ → Reads Item)) (levels : ℕ) → InnerReports inner levels → (o : Opening) (len : Length) (remaining : Remaining) (bs : List ℕ) → IsOpening o → Follows o 0 remaining
          → start + length (opening o ++ bs) ≡ total → AreBytes bs → Reports (limits start levels) (opening o ++ bs) (array_at m inner len remaining bs)
      unfolding array_at
      array_reports None zero reports o len remaining bs opens follows at_total fits = deep_here start o bs opens
      array_reports None (suc levels) reports o len remaining bs opens follows at_total fits = absurd reports
      array_reports (Some p) zero reports o len remaining bs opens follows at_total fits = absurd reports
      array_reports (Some p) (suc inside) reports o len remaining bs opens follows at_total fits =
          let l = limits start (suc inside) in
          let same = frame_none o bs in
          Reports-bind l (opening o ++ bs) (parts_at (items_of m p) remaining bs) _
          (subst (λ (t : List ℕ). Reports l t (parts_at (items_of m p) remaining bs)) same
          (items_report p inside reports.0 reports.1 start o (suc (length bs)) remaining no_raws bs opens tt follows (ap (λ (t : List ℕ). start + length t) same ∙ at_total) fits (omega arith)))
          (λ items got. tt)

      map_reports : (inner : Option (List ℕ → Reads Item)) (levels : ℕ) → InnerReports inner levels → (o : Opening) (len : Length) (remaining : Remaining) (bs : List ℕ) → IsOpening o → FollowsPairs o 0 remaining
          → start + length (opening o ++ bs) ≡ total → AreBytes bs → Reports (limits start levels) (opening o ++ bs) (map_at m inner len remaining bs)
      unfolding map_at
      map_reports None zero reports o len remaining bs opens follows at_total fits = deep_here start o bs opens
      map_reports None (suc levels) reports o len remaining bs opens follows at_total fits = absurd reports
      map_reports (Some p) zero reports o len remaining bs opens follows at_total fits = absurd reports
      map_reports (Some p) (suc inside) reports o len remaining bs opens follows at_total fits =
          let l = limits start (suc inside) in
          let same = frame_none o bs in
          Reports-bind l (opening o ++ bs) (parts_at (pairs_of m p) remaining bs) _
          (subst (λ (t : List ℕ). Reports l t (parts_at (pairs_of m p) remaining bs)) same
          (pairs_report p inside reports.0 reports.1 start o (suc (length bs)) remaining 0 no_raws bs opens tt refl follows (ap (λ (t : List ℕ). start + length t) same ∙ at_total) fits (omega arith)))
          (λ pairs got. tt)

      tag_reports : (inner : Option (List ℕ → Reads Item)) (levels : ℕ) → InnerReports inner levels → (w : HeadWidth) (n : ℕ) (bs : List ℕ) → n < limit w
          → start + length (head 6 w n ++ bs) ≡ total → AreBytes bs → Reports (limits start levels) (head 6 w n ++ bs) (tag_at m inner w n bs)
      unfolding tag_at
      tag_reports None zero reports w n bs small at_total fits = deep_here start (tag_head w n) bs small
      tag_reports None (suc levels) reports w n bs small at_total fits = absurd reports
      tag_reports (Some p) zero reports w n bs small at_total fits = absurd reports
      tag_reports (Some p) (suc inside) reports w n bs small at_total fits =
          let l = limits start (suc inside) in
          let o = tag_head w n in
          let same = frame_none o bs in
          let is_frame : IsFrame o no_raws = record { opens = small; fits = tt; place = omega arith } in
          Reports-bind l (head 6 w n ++ bs) (p bs) _
          (subst (λ (t : List ℕ). Reports l t (p bs)) same
          (item_reports p inside reports.0 reports.1 start o no_raws is_frame bs (inl tt) (ap (λ (t : List ℕ). start + length t) same ∙ at_total) fits))
          (λ item got. tt)

      -- ---- items

      -- a number, and what is reported after it
      numbered_reports : {A : Type 0} (levels major low : ℕ) (read : HeadWidth → ℕ → List ℕ → Reads A) → major ≤ 6 → low < 32 → (2 ≤ major → major ≤ 5 → low ≡ 31 → ⊥)
          → ((w : HeadWidth) (n : ℕ) (bs : List ℕ) → n < limit w → start + length (head major w n ++ bs) ≡ total → AreBytes bs → Reports (limits start levels) (head major w n ++ bs) (read w n bs))
          → (bs : List ℕ) → start + suc (length bs) ≡ total → AreBytes bs → Reports (limits start levels) ((32 * major + low) ∷ bs) (with_number read low bs)
      numbered_reports levels major low read at_most small no_31 each bs at_total fits =
          let l = limits start levels in
          let bytes = (32 * major + low) ∷ bs in
          Reports-bind l bytes (number_behind low bs) _
          (Reports-number_behind l bytes low bs fits (head_cut major low bs at_most) (λ least. unassigned_here l (32 * major + low) bs (unassigned_in major low at_most least small no_31)))
          (λ n got.
          let w = width_of low in
          let behind = number_behind_found low bs n fits got in
          let is : bytes ≡ head major w n.0 ++ n.1 = whole_head major low n.0 w bs n.1 behind.is_low behind.parts in
          subst (λ (t : List ℕ). Reports l t (read w n.0 n.1)) (sym is)
          (each w n.0 n.1 behind.fits (omega (arith, at_total, ap length is)) behind.rest_fits))

      -- a length, and what is reported after it, or after none
      length_reports : {A : Type 0} (levels major low : ℕ) (read : HeadWidth → ℕ → List ℕ → Reads A) (others : List ℕ → Reads A) → major ≤ 6 → low < 32
          → ((w : HeadWidth) (n : ℕ) (bs : List ℕ) → n < limit w → start + length (head major w n ++ bs) ≡ total → AreBytes bs → Reports (limits start levels) (head major w n ++ bs) (read w n bs))
          → ((bs : List ℕ) → start + suc (length bs) ≡ total → AreBytes bs → Reports (limits start levels) ((32 * major + 31) ∷ bs) (others bs))
          → (bs : List ℕ) → start + suc (length bs) ≡ total → AreBytes bs → Reports (limits start levels) ((32 * major + low) ∷ bs) (with_length read others low bs)
      length_reports levels major low read others at_most small each none bs at_total fits =
          let l = limits start levels in
          let bytes = (32 * major + low) ∷ bs in
          Reports-cond l bytes (eqb low 31) _ _
          (λ is. subst (λ (k : ℕ). Reports l ((32 * major + k) ∷ bs) (others bs)) (sym (eqb-true _ _ is)) (none bs at_total fits))
          (λ other. numbered_reports levels major low read at_most small (λ least most. eqb-false _ _ other) each bs at_total fits)

      content_reports : (inner : Option (List ℕ → Reads Item)) (levels : ℕ) → InnerReports inner levels → (major low : ℕ) (bs : List ℕ) → major < 8 → low < 32
          → start + suc (length bs) ≡ total → AreBytes bs → Reports (limits start levels) ((32 * major + low) ∷ bs) (content_at m inner (major_of major) low bs)
      unfolding content_at
      content_reports inner levels reports major low bs known small at_total fits =
          each_major (λ k t. Reports l ((32 * k + low) ∷ bs) (content_at m inner t low bs))
          (numbered_reports levels 0 low (λ w n bs. Ok (m.unsigned w n, bs)) (omega arith) small (λ least. absurd (omega arith)) (λ w n bs fit at_total fits. tt) bs at_total fits)
          (numbered_reports levels 1 low (λ w n bs. Ok (m.negative w n, bs)) (omega arith) small (λ least. absurd (omega arith)) (λ w n bs fit at_total fits. tt) bs at_total fits)
          (length_reports levels 2 low (string_at m) (string_chunks_at m) (omega arith) small
          (λ w n bs fit at_total fits. Reports-string m total scratch far no_text over none_fits l w n bs fits fit)
          (λ bs at_total fits. Reports-string_chunks m total scratch far no_text over none_fits l refl bs fits) bs at_total fits)
          (length_reports levels 3 low (text_at m) (text_chunks_at m) (omega arith) small
          (λ w n bs fit at_total fits. Reports-text m total scratch far no_text over none_fits start levels w n bs at_total fits fit)
          (λ bs at_total fits. Reports-text_chunks m total scratch far no_text over none_fits l refl bs fits) bs at_total fits)
          (length_reports levels 4 low (λ w n. array_at m inner (definite w) (counted n)) (array_at m inner indefinite to_break) (omega arith) small
          (λ w n bs fit at_total fits. array_reports inner levels reports (array_head w n) (definite w) (counted n) bs fit (omega arith) at_total fits)
          (λ bs at_total fits. array_reports inner levels reports indefinite_array indefinite to_break bs tt tt at_total fits) bs at_total fits)
          (length_reports levels 5 low (λ w n. map_at m inner (definite w) (counted n)) (map_at m inner indefinite to_break) (omega arith) small
          (λ w n bs fit at_total fits. map_reports inner levels reports (map_head w n) (definite w) (counted n) bs fit (omega arith) at_total fits)
          (λ bs at_total fits. map_reports inner levels reports indefinite_map indefinite to_break bs tt tt at_total fits) bs at_total fits)
          (numbered_reports levels 6 low (tag_at m inner) (omega arith) small (λ least most. absurd (omega arith)) (λ w n bs fit at_total fits. tag_reports inner levels reports w n bs fit at_total fits) bs at_total fits)
          (Reports-simple m l low bs fits small)
          major known
        where
          l : Limits
          l = limits start levels

      by_reports : (inner : Option (List ℕ → Reads Item)) (levels : ℕ) → InnerReports inner levels → (bs : List ℕ) → start + length bs ≡ total → AreBytes bs → Reports (limits start levels) bs (item_by m inner bs)
      unfolding item_by byte_at after_first
      by_reports inner levels reports [] at_total fits = (refl, nothing_begins)
      by_reports inner levels reports (b ∷ bs) at_total fits =
          let below : b / 32 < 8 = omega (arith, fits 0) in
          subst (λ (c : ℕ). Reports (limits start levels) (c ∷ bs) (content_at m inner (major_of (b / 32)) (b % 32) bs)) (sym (first_is b))
          (content_reports inner levels reports (b / 32) (b % 32) bs below (omega arith) at_total (AreBytes-rest b bs fits))

    -- where the reader reports a fault, an item is wanted, and what stands there is at fault
    pub reported : (levels : ℕ) → ReportsInside (item_at m levels) levels
    unfolding item_at
    reported zero start bs at_total fits = by_reports start None zero tt bs at_total fits
    reported (suc levels) start bs at_total fits = by_reports start (Some (item_at m levels)) (suc levels) (reported levels, found m none_fits levels) bs at_total fits
