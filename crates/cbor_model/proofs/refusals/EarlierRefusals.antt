-- The reference reader, on its way to a refusal that is allowed: it comes there, or reports another whose
-- place lies before.
use Rattle.std.specs.List.{AllByRecursion}
use Rattle.std.proofs.Common.{◌≡◌, ◌⊎◌, ℕ, suc, ◌+◌, ◌*◌, ◌≤◌}
use Rattle.std.proofs.Common.{List, [], ◌∷◌, ◌++◌, length, Option, refl, sym, ap}
use Rattle.std.proofs.Common.{subst, ◌∙◌, append_assoc, arith, inl, inr}
use Rattle.std.proofs.lemmas.List.{append-nil, length-append}
use Rattle.cbor_model.specs.Head.{head}
use Rattle.cbor_model.specs.Raw as raw
use Rattle.cbor_model.specs.Raw.{Raw, Raws, no_raws, RawPairs, Chunk, IsChunk, joined, indefinite}
use Rattle.cbor_model.specs.Raw.{count, AreBytes, IsWellFormed}
use Rattle.cbor_model.specs.Spelling.{spell, break}
use Rattle.cbor_model.specs.Refusal.{Refusal, end_in_value, end_in_array, end_in_map}
use Rattle.cbor_model.specs.Refusal.{length_out_of_range, invalid_utf8, unassigned_code}
use Rattle.cbor_model.specs.Refusal.{unexpected_code, trailing_data, too_deep, scratch_too_small}
use Rattle.cbor_model.specs.Refusal.{wrong_struct_format}
use Rattle.cbor_model.specs.Wanted.{Opening, array_head, map_head, tag_head, indefinite_array}
use Rattle.cbor_model.specs.Wanted.{indefinite_map, opening, IsOpening}
use Rattle.cbor_model.specs.Wanted.{StandsInIndefiniteArray, StandsInIndefiniteMap}
use Rattle.cbor_model.specs.Allowed.{AreFirst, IsProperBeginning, IsOfStrings, chunks_begun, Limits}
use Rattle.cbor_model.specs.Allowed.{IsOver, IsLengthOutOfRange, IsInvalidUtf8, IsTooDeep}
use Rattle.cbor_model.specs.Allowed.{IsOverScratch}
use Rattle.cbor_model.proofs.refusals.Wanted.{IsFrame, frame, flat, flat_fit, spell-flat, beginning_behind}
use Rattle.cbor_model.proofs.refusals.Wanted.{beginning_wanted, GoesOn, on_wanted, on_item}
use Rattle.cbor_model.proofs.refusals.Completion.{nothing_begins, headed, chunked, and_then, and_then-fit, and_then-bytes}
use Rattle.cbor_model.proofs.refusals.FaultMeaning as reported_rows
use Rattle.cbor_model.proofs.refusals.FaultMeaning.{Meaning, Reports, IsClosedBreak}
use Rattle.cbor_model.proofs.refusals.NoFronts.{proper_out, on_fits, hard_out, unassigned_hard, no_chunk_hard}
use Rattle.cbor_model.proofs.refusals.NoFronts.{break_hard}

-- ---- where a map or an array is open

pub array_begins : (p : List ℕ) → StandsInIndefiniteArray p → IsProperBeginning p
array_begins p s =
    let b = beginning_wanted s.levels s.before (frame indefinite_array s.items ++ []) s.wanted (beginning_behind indefinite_array s.items [] (record { opens = tt; fits = s.fits; place = tt }) nothing_begins) in
    subst IsProperBeginning (ap (λ (t : List ℕ). s.before ++ t) (append-nil (frame indefinite_array s.items)) ∙ sym s.parts) b

pub map_begins : (p : List ℕ) → StandsInIndefiniteMap p → IsProperBeginning p
map_begins p s =
    let items = flat s.pairs in
    let b = beginning_wanted s.levels s.before (frame indefinite_map items ++ []) s.wanted (beginning_behind indefinite_map items [] (record { opens = tt; fits = flat_fit s.pairs s.fits; place = tt }) nothing_begins) in
    subst IsProperBeginning (ap (λ (t : List ℕ). s.before ++ t) (append-nil (frame indefinite_map items) ∙ ap (λ (t : List ℕ). 0xbf ∷ t) (spell-flat s.pairs)) ∙ sym s.parts) b

-- ---- what goes on

opening_on : (o : Opening) → IsOpening o → GoesOn (opening o)
unfolding spell
opening_on (array_head w n) small = headed 4 w n (omega arith) small
opening_on (map_head w n) small = headed 5 w n (omega arith) small
opening_on (tag_head w n) small = headed 6 w n (omega arith) small
opening_on indefinite_array small = record { item = raw.array indefinite no_raws; fits = (tt, tt); more = break; spelled = refl }
opening_on indefinite_map small = record { item = raw.map indefinite raw.no_raw_pairs; fits = (tt, tt); more = break; spelled = refl }

chunk_on : (major : ℕ) (cs : List Chunk) (c : Chunk) → IsOfStrings major → AllByRecursion IsChunk cs → IsChunk c → GoesOn (chunks_begun major cs ++ head major c.width (length c.bytes))
chunk_on major cs c of_strings fits fit =
    let on = chunked major (and_then cs c) of_strings (and_then-fit cs c fits fit) in
    record {
      item = on.item;
      fits = on.fits;
      more = c.bytes ++ (break ++ on.more);
      spelled = on.spelled ∙ ap (λ (t : List ℕ). (((32 * major + 31) ∷ t) ++ break) ++ on.more) (and_then-bytes major cs c)
          ∙ parts (chunks_begun major cs) (head major c.width (length c.bytes)) c.bytes break on.more;
    }
  where
    parts : (a b c d e : List ℕ) → ((a ++ (b ++ c)) ++ d) ++ e ≡ (a ++ b) ++ (c ++ (d ++ e))
    parts a b c d e = simp append_assoc

-- ---- the refusals that need no fault of spelling, with a bound on their place

abbrev pub Within : ℕ → ℕ → List ℕ → (ℕ → Type 0) → Type 0
Within n left bytes Row = (j : ℕ) × (j + left ≡ length bytes) × (j ≤ n) × Row j

abbrev pub Special : Limits → List ℕ → Refusal → ℕ → ℕ → Type 0
Special l bytes length_out_of_range left n = Within n left bytes (IsLengthOutOfRange l.start bytes)
Special l bytes invalid_utf8 left n = (place : ℕ) × (offset : ℕ) × (offset + left ≡ length bytes) × (place ≤ n) × IsInvalidUtf8 bytes place offset
Special l bytes too_deep left n = Within n left bytes (IsTooDeep l.levels bytes)
Special l bytes scratch_too_small left n = Within n left bytes (IsOverScratch l.scratch bytes)
Special l bytes _ left n = ⊥

pub special_more : (l : Limits) (bytes : List ℕ) (why : Refusal) (left n k : ℕ) → n ≤ k → Special l bytes why left n → Special l bytes why left k
special_more l bytes length_out_of_range left n k few s = (s.0, s.1, omega (arith, few, s.2), s.3)
special_more l bytes invalid_utf8 left n k few s = (s.0, s.1, s.2, omega (arith, few, s.3), s.4)
special_more l bytes too_deep left n k few s = (s.0, s.1, omega (arith, few, s.2), s.3)
special_more l bytes scratch_too_small left n k few s = (s.0, s.1, omega (arith, few, s.2), s.3)
special_more l bytes end_in_value left n k few s = absurd s
special_more l bytes end_in_array left n k few s = absurd s
special_more l bytes end_in_map left n k few s = absurd s
special_more l bytes unassigned_code left n k few s = absurd s
special_more l bytes unexpected_code left n k few s = absurd s
special_more l bytes trailing_data left n k few s = absurd s
special_more l bytes wrong_struct_format left n k few s = absurd s

range_more : (start start' : ℕ) (bytes : List ℕ) (j : ℕ) → start ≤ start' → IsLengthOutOfRange start bytes j → IsLengthOutOfRange start' bytes j
range_more start start' bytes j le r = record {
  width = r.width;
  n = r.n;
  fits = r.fits;
  at = record {
    levels = r.levels;
    before = r.before;
    wanted = r.wanted;
    first = r.first;
  };
  far = omega (arith, r.far, le);
}

pub special_behind : (o : Opening) (items : Raws) → IsFrame o items → (start start' levels : ℕ) (scratch : Option ℕ) (bytes : List ℕ) (why : Refusal) (left n : ℕ) → start' ≤ start + length (frame o items)
    → Special (record { start = start'; levels = levels; scratch = scratch }) bytes why left n
    → Special (record { start = start; levels = suc levels; scratch = scratch }) (frame o items ++ bytes) why left (length (frame o items) + n)
special_behind o items f start start' levels scratch bytes length_out_of_range left n le s =
    (length (frame o items) + s.0, reported_rows.at_behind o items f left bytes s.0 s.1, omega (arith, s.2), reported_rows.range_behind o items f start bytes s.0 (range_more start' (start + length (frame o items)) bytes s.0 le s.3))
special_behind o items f start start' levels scratch bytes invalid_utf8 left n le s =
    (length (frame o items) + s.0, length (frame o items) + s.1, reported_rows.at_behind o items f left bytes s.1 s.2, omega (arith, s.3), reported_rows.utf8_behind o items f bytes s.0 s.1 s.4)
special_behind o items f start start' levels scratch bytes too_deep left n le s =
    (length (frame o items) + s.0, reported_rows.at_behind o items f left bytes s.0 s.1, omega (arith, s.2), reported_rows.deep_behind o items f levels bytes s.0 s.3)
special_behind o items f start start' levels scratch bytes scratch_too_small left n le s =
    (length (frame o items) + s.0, reported_rows.at_behind o items f left bytes s.0 s.1, omega (arith, s.2), reported_rows.scratch_behind o items f scratch bytes s.0 s.3)
special_behind o items f start start' levels scratch bytes end_in_value left n le s = absurd s
special_behind o items f start start' levels scratch bytes end_in_array left n le s = absurd s
special_behind o items f start start' levels scratch bytes end_in_map left n le s = absurd s
special_behind o items f start start' levels scratch bytes unassigned_code left n le s = absurd s
special_behind o items f start start' levels scratch bytes unexpected_code left n le s = absurd s
special_behind o items f start start' levels scratch bytes trailing_data left n le s = absurd s
special_behind o items f start start' levels scratch bytes wrong_struct_format left n le s = absurd s

-- what is reported where a whole item stands
pub reported_within : (l : Limits) (r : Raw) (rest : List ℕ) (why : Refusal) (left : ℕ) → IsWellFormed r → Meaning l (spell r ++ rest) why left → Special l (spell r ++ rest) why left (length (spell r))
reported_within l r rest end_in_value left fits e = absurd (proper_out (spell r ++ rest) [] r rest e.1 fits (append-nil (spell r ++ rest)) (omega (arith, length-append (spell r) rest)))
reported_within l r rest end_in_array left fits e = absurd (proper_out (spell r ++ rest) [] r rest (array_begins (spell r ++ rest) e.1) fits (append-nil (spell r ++ rest)) (omega (arith, length-append (spell r) rest)))
reported_within l r rest end_in_map left fits e = absurd (proper_out (spell r ++ rest) [] r rest (map_begins (spell r ++ rest) e.1) fits (append-nil (spell r ++ rest)) (omega (arith, length-append (spell r) rest)))
reported_within l r rest length_out_of_range left fits e =
    let row = e.2 in
    let on = on_wanted row.levels row.before (head 3 row.width row.n) row.wanted (headed 3 row.width row.n (omega arith) row.fits) in
    (e.0, e.1, omega (arith, on_fits (row.before ++ head 3 row.width row.n) row.first.rest r rest on fits (sym row.first.parts), row.first.long), row)
reported_within l r rest invalid_utf8 left fits e =
    let row = e.1.2 in
    let on = on_wanted row.levels row.before (spell row.item) row.wanted (on_item row.item row.fits) in
    (e.0, e.1.0, e.1.1, omega (arith, on_fits (row.before ++ spell row.item) row.first.rest r rest on fits (sym row.first.parts), row.first.long), row)
reported_within l r rest unassigned_code left fits e =
    let row = e.2 in
    absurd (hard_out unassigned_code (row.before ++ (row.byte ∷ [])) row.first.rest r rest (unassigned_hard row.levels row.before row.byte row.wanted row.unassigned) fits (sym row.first.parts))
reported_within l r rest unexpected_code left fits e = absurd (either e.2)
  where
    either : IsClosedBreak (spell r ++ rest) e.0 ⊎ Rattle.cbor_model.specs.Allowed.IsNoChunk (spell r ++ rest) e.0 → ⊥
    either (inl b) = hard_out unexpected_code (b.before ++ (0xff ∷ [])) b.first.rest r rest (break_hard b.before b.closed) fits (sym b.first.parts)
    either (inr c) = hard_out unexpected_code (c.before ++ (chunks_begun c.major c.chunks ++ (c.byte ∷ []))) c.first.rest r rest (no_chunk_hard (spell r ++ rest) e.0 c) fits (sym c.first.parts)
reported_within l r rest trailing_data left fits e = absurd e
reported_within l r rest too_deep left fits e =
    let row = e.2 in
    let on = on_wanted row.levels row.before (opening row.opens) row.wanted (opening_on row.opens row.fits) in
    (e.0, e.1, omega (arith, on_fits (row.before ++ opening row.opens) row.first.rest r rest on fits (sym row.first.parts), row.first.long), row)
reported_within l r rest scratch_too_small left fits e =
    let row = e.2 in
    let x = chunks_begun row.major row.chunks ++ head row.major row.next.width (length row.next.bytes) in
    let on = on_wanted row.levels row.before x row.wanted (chunk_on row.major row.chunks row.next row.of_strings row.fits row.next_fits) in
    (e.0, e.1, omega (arith, on_fits (row.before ++ x) row.first.rest r rest on fits (sym row.first.parts), row.first.long), row)
reported_within l r rest wrong_struct_format left fits e = absurd e
