-- A walk over an item's encoding reports the first of its features that is looked for, or else goes past it.
use Rattle.std.proofs.Common.{◌≡◌, ℕ, zero, suc, ◌+◌, ◌*◌, ◌-◌, ◌<◌, ◌≤◌, Bool, true, false, List, [], ◌∷◌, ◌++◌, length, take, Option, Some, None, Ok, refl, sym, ap, subst, ◌∙◌, append_assoc, arith}
use Rattle.std.specs.Prelude.{◌&&◌, flat_map}
use Rattle.std.specs.List.{AllByRecursion}
use Rattle.std.specs.Int.{w16, w32, w64, to_be_bytes}
use Rattle.std.proofs.lemmas.Bool.{le-ltb, ne_eqb}
use Rattle.std.proofs.lemmas.List.{append-nil, length-append, take_at, drop_at}
use Rattle.cbor_model.specs.Head.{HeadWidth, two_bytes, four_bytes, eight_bytes, limit, info, behind, head}
use Rattle.cbor_model.specs.Raw as raw
use Rattle.cbor_model.specs.Raw.{Chunk, IsChunk, definite, indefinite, Raw, Raws, no_raws, RawPairs, no_raw_pairs, raw_pair, false_item, true_item, null_item, undefined_item, FloatWidth, half, single, double, count, pair_count, depth, depth_all, depth_pairs, IsWellFormed, AreWellFormed, ArePairsWellFormed}
use Rattle.cbor_model.specs.Spelling.{spell, spell_all, spell_pairs, chunk, break, float_spelling}
use Rattle.cbor_model.proofs.facts.HeadNumbers.{info-below, width_of-info, number_behind_again, high_of, low_of}
use Rattle.cbor_rules.specs.Features.{Feature, number, indefinite_length, simple_item, float_bits, key, nth_item, chunk_to, Place, place, head_end, number_place, chunk_places, features, all_features, open_features, pair_features}
use Rattle.cbor_rules.specs.Rules.{departure_or}
use Rattle.cbor_model.specs.Reader.{number_behind}
use Rattle.cbor_rules.specs.Walk.{Sought, departure_from, any_key, found, float_walk, Walk, passed, departed, and_then, unless_broken, seen, past, is_break, simple_walk, all_walk, open_walk, chunk_walk, chunk_content, chunks_walk, pairs_walk, inside_walk, indefinite_walk, head_walk, content_walk, walk}
use Rattle.cbor_rules.specs.declared.settings.Rule.{Rule}
use Rattle.cbor_rules.specs.declared.answers.Departure.{Departure}
use Rattle.cbor_rules.proofs.Walking.{on_head, in_integer, in_string, in_array, in_map, in_tag}

-- a departure is answered, by how many bytes of the total are left; or else these bytes are left
abbrev pub Answers : ℕ → List ℕ → Option Departure → Walk → Type 0
Answers total rest None w = w ≡ passed rest
Answers total rest (Some d) w = (left : ℕ) × (d.offset + left ≡ total) × (w ≡ departed d.rule left)

-- the first of the places that is looked for
abbrev pub found_in : Sought → List Place → Option Departure
found_in sought [] = None
found_in sought (p ∷ ps) = departure_or p.offset (found_in sought ps) (found sought p.feature)

-- of these features the first that is looked for is answered
abbrev pub Reports : Sought → ℕ → List Place → List ℕ → Walk → Type 0
Reports sought total ps rest w = Answers total rest (found_in sought ps) w

module _ (sought : Sought) (total : ℕ) where
  reports_same : (ps : List Place) (rest : List ℕ) (w u : Walk) → w ≡ u → Reports sought total ps rest u → Reports sought total ps rest w
  reports_same ps rest w u same reports = subst (λ (w : Walk). Reports sought total ps rest w) (sym same) reports

  -- with nothing after it
  reports_bare : (ps : List Place) (rest : List ℕ) (w : Walk) → Reports sought total (ps ++ []) rest w → Reports sought total ps rest w
  reports_bare ps rest w reports = subst (λ (qs : List Place). Reports sought total qs rest w) (append-nil ps) reports

  reports_then : (ps qs : List Place) (mid rest : List ℕ) (w : Walk) (go : List ℕ → Walk) → Reports sought total ps mid w → Reports sought total qs rest (go mid) → Reports sought total (ps ++ qs) rest (and_then w go)
  reports_then [] qs mid rest w go one other = subst (λ (w : Walk). Reports sought total qs rest (and_then w go)) (sym one) other
  reports_then (p ∷ ps) qs mid rest w go one other = by (found sought p.feature) one (λ one. reports_then ps qs mid rest w go one other)
    where
      by : (o : Option Rule) → Answers total mid (departure_or p.offset (found_in sought ps) o) w → (Reports sought total ps mid w → Reports sought total (ps ++ qs) rest (and_then w go)) → Answers total rest (departure_or p.offset (found_in sought (ps ++ qs)) o) (and_then w go)
      by None one more = more one
      by (Some rule) one more = (one.0, one.1, ap (λ (w : Walk). and_then w go) one.2)

  seen_reports : (at left : ℕ) (f : Feature) (qs : List Place) (rest : List ℕ) (others : Walk) → at + left ≡ total → Reports sought total qs rest others → Reports sought total (place at f ∷ qs) rest (seen sought f left others)
  seen_reports at left f qs rest others is reports = by (found sought f)
    where
      by : (o : Option Rule) → Answers total rest (departure_or at (found_in sought qs) o) (unless_broken o left others)
      by None = reports
      by (Some rule) = (left, is, refl)

  -- past what is not looked for
  unseen_reports : (at : ℕ) (f : Feature) (rest : List ℕ) → found sought f ≡ None → Reports sought total (place at f ∷ []) rest (passed rest)
  unseen_reports at f rest none = rw none refl

-- no rule is about them
false_found : (sought : Sought) → found sought (simple_item false_item) ≡ None
false_found (departure_from terms) = refl
false_found any_key = refl

true_found : (sought : Sought) → found sought (simple_item true_item) ≡ None
true_found (departure_from terms) = refl
true_found any_key = refl

null_found : (sought : Sought) → found sought (simple_item null_item) ≡ None
null_found (departure_from terms) = refl
null_found any_key = refl

-- ---- heads

-- what follows the bytes a
behind_end : (at : ℕ) (a bs : List ℕ) (total : ℕ) → at + length (a ++ bs) ≡ total → at + length a + length bs ≡ total
behind_end at a bs total is = omega (arith, length-append a bs, is)

-- a head, content and others after it
regrouped : (total at : ℕ) (a b rest : List ℕ) → at + length ((a ++ b) ++ rest) ≡ total → at + length (a ++ (b ++ rest)) ≡ total
regrouped total at a b rest is = ap (λ (t : List ℕ). at + length t) (sym (append_assoc a b rest)) ∙ is

-- past a first byte, the walk is at what follows it
at_content : (sought : Sought) (fuel major : ℕ) (w : HeadWidth) (n : ℕ) (bs : List ℕ) → n < limit w → walk sought (suc fuel) (head major w n ++ bs) ≡ content_walk sought (walk sought fuel) major (info w n) (behind w n ++ bs)
unfolding walk
at_content sought fuel major w n bs fits =
    let small : info w n < 32 = omega (arith, info-below w n fits) in
    rw (high_of major (info w n) small, low_of major (info w n) small) refl

module _ (sought : Sought) (fuel at major : ℕ) (w : HeadWidth) (n : ℕ) (fits : n < limit w) (at_most : major ≤ 6) (qs : List Place) (bs rest : List ℕ) (total : ℕ)
    (is : at + length (head major w n ++ bs) ≡ total)
    (reports : Reports sought total qs rest (inside_walk sought (walk sought fuel) major n bs))
  where
    number_reports : Reports sought total (number_place at major w n ∷ qs) rest (head_walk sought (walk sought fuel) major (info w n) (behind w n ++ bs))
    number_reports = rw (number_behind_again w n bs fits, width_of-info w n fits) (seen_reports sought total (head_end at major w n) (length bs) (number major w n) qs rest (inside_walk sought (walk sought fuel) major n bs) (behind_end at (head major w n) bs total is) reports)

    head_reports : Reports sought total (number_place at major w n ∷ qs) rest (walk sought (suc fuel) (head major w n ++ bs))
    head_reports =
        let not_7 : major ≡ 7 → ⊥ = λ is. omega (arith, is, at_most) in
        let not_31 : info w n ≡ 31 → ⊥ = λ is. omega (arith, is, info-below w n fits) in
        reports_same sought total (number_place at major w n ∷ qs) rest _ _
        (at_content sought fuel major w n bs fits ∙ on_head sought (walk sought fuel) major (info w n) (behind w n ++ bs) not_7 not_31)
        number_reports

past_again : (b rest : List ℕ) → past (length b) (b ++ rest) ≡ passed rest
past_again b rest = rw (le-ltb (length (b ++ rest)) (length b) (omega (arith, length-append b rest)), drop_at b rest (length b) refl) refl

module _ (sought : Sought) (total : ℕ) where
  -- a definite string, an item or a chunk
  string_reports : (fuel at major : ℕ) (c : Chunk) (rest : List ℕ) → IsChunk c → 2 ≤ major → major ≤ 3 → at + length (chunk major c ++ rest) ≡ total → Reports sought total (number_place at major c.width (length c.bytes) ∷ []) rest (walk sought (suc fuel) (chunk major c ++ rest))
  string_reports fuel at major c rest fits least most is =
      let w = c.width in
      let n = length c.bytes in
      let front = head major w n in
      reports_same sought total (number_place at major w n ∷ []) rest _ _ (ap (walk sought (suc fuel)) (append_assoc front c.bytes rest))
      (head_reports sought fuel at major w n fits.0 (omega (arith, most)) [] (c.bytes ++ rest) rest total (regrouped total at front c.bytes rest is)
      (in_string sought (walk sought fuel) major (c.bytes ++ rest) n (omega (arith, least)) most ∙ past_again c.bytes rest))

-- ---- breaks

pub and_false : (b : Bool) → (b && false) ≡ false
and_false false = refl
and_false true = refl

-- no encoding begins with the break
head-no_break : (major : ℕ) (w : HeadWidth) (n : ℕ) (bs : List ℕ) → major ≤ 6 → n < limit w → is_break (head major w n ++ bs) ≡ false
head-no_break major w n bs at_most fits =
    ne_eqb (32 * major + info w n) 0xff (λ same. omega (arith, same, at_most, info-below w n fits))

no_break : (r : Raw) (more : List ℕ) → IsWellFormed r → is_break (spell r ++ more) ≡ false
unfolding spell
no_break (raw.unsigned w n) more fits = head-no_break 0 w n more (omega arith) fits
no_break (raw.negative w n) more fits = head-no_break 1 w n more (omega arith) fits
no_break (raw.bytes c) more fits = head-no_break 2 c.width (length c.bytes) [] (omega arith) fits.0
no_break (raw.text c) more fits = head-no_break 3 c.width (length c.bytes) [] (omega arith) fits.0
no_break (raw.bytes_chunks cs) more fits = refl
no_break (raw.text_chunks cs) more fits = refl
no_break (raw.array (definite w) rs) more fits = head-no_break 4 w (count rs) [] (omega arith) fits.0
no_break (raw.array indefinite rs) more fits = refl
no_break (raw.map (definite w) ps) more fits = head-no_break 5 w (pair_count ps) [] (omega arith) fits.0
no_break (raw.map indefinite ps) more fits = refl
no_break (raw.tag w n r) more fits = head-no_break 6 w n [] (omega arith) fits.0
no_break (raw.simple false_item) more fits = refl
no_break (raw.simple true_item) more fits = refl
no_break (raw.simple null_item) more fits = refl
no_break (raw.simple undefined_item) more fits = refl
no_break (raw.float half bits) more fits = refl
no_break (raw.float single bits) more fits = refl
no_break (raw.float double bits) more fits = refl

-- an indefinite length ends by a break, and how many steps there may be after the items
abbrev closing : Bool → List ℕ → List ℕ
closing false rest = rest
closing true rest = 0xff ∷ rest

abbrev Closes : Bool → ℕ → Type 0
Closes false extra = extra ≡ 0
Closes true extra = 0 < extra

module _ (sought : Sought) (p : List ℕ → Walk) where
  pairs_closed : (is_open : Bool) (m : ℕ) (earlier : List (List ℕ)) (rest : List ℕ) → Closes is_open m → pairs_walk sought p is_open m earlier (closing is_open rest) ≡ passed rest
  unfolding pairs_walk
  pairs_closed false zero earlier rest closes = refl
  pairs_closed false (suc m) earlier rest closes = absurd (omega (arith, closes))
  pairs_closed true zero earlier rest closes = absurd (omega (arith, closes))
  pairs_closed true (suc m) earlier rest closes = refl

  open_next : (m earlier : ℕ) (bs : List ℕ) → is_break bs ≡ false → open_walk sought p (suc m) earlier bs ≡ and_then (p bs) (λ rest. seen sought (nth_item earlier) (length rest) (open_walk sought p m (earlier + 1) rest))
  unfolding open_walk
  open_next m earlier bs none = rw none refl

  pairs_next : (is_open : Bool) (m : ℕ) (earlier : List (List ℕ)) (bs : List ℕ) → is_break bs ≡ false → pairs_walk sought p is_open (suc m) earlier bs ≡ and_then (p bs) (λ at_value. let k = take (length bs - length at_value) bs in seen sought (key earlier k) (length at_value) (and_then (p at_value) (pairs_walk sought p is_open m (k ∷ earlier))))
  unfolding pairs_walk
  pairs_next is_open m earlier bs none = rw (none, and_false is_open) refl

-- ---- the chunks of a string

-- an item takes a byte at the least, so a step for each byte is enough
chunks-le : (major : ℕ) (cs : List Chunk) → length cs ≤ length (flat_map (chunk major) cs)
chunks-le major [] = omega arith
chunks-le major (c ∷ cs) = omega (arith, chunks-le major cs, length-append (chunk major c) (flat_map (chunk major) cs))

pub some : (r : Raw) → 0 < length (spell r)
unfolding spell
some (raw.unsigned w n) = omega arith
some (raw.negative w n) = omega arith
some (raw.bytes c) = omega arith
some (raw.text c) = omega arith
some (raw.bytes_chunks cs) = omega arith
some (raw.text_chunks cs) = omega arith
some (raw.array (definite w) rs) = omega arith
some (raw.array indefinite rs) = omega arith
some (raw.map (definite w) ps) = omega arith
some (raw.map indefinite ps) = omega arith
some (raw.tag w n r) = omega arith
some (raw.simple s) = omega arith
some (raw.float half bits) = omega arith
some (raw.float single bits) = omega arith
some (raw.float double bits) = omega arith

count-le : (rs : Raws) → count rs ≤ length (spell_all rs)
unfolding spell
count-le no_raws = omega arith
count-le (raw.raw r rs) = omega (arith, some r, count-le rs, length-append (spell r) (spell_all rs))

pair_count-le : (ps : RawPairs) → pair_count ps ≤ length (spell_pairs ps)
unfolding spell
pair_count-le no_raw_pairs = omega arith
pair_count-le (raw_pair k v ps) =
    omega (arith, some k, pair_count-le ps, length-append (spell k) (spell v ++ spell_pairs ps), length-append (spell v) (spell_pairs ps))

module _ (sought : Sought) (major : ℕ) (most : major ≤ 3) where
  -- past the first byte of a chunk
  at_chunk : (c : Chunk) (sum : ℕ) (go : ℕ → List ℕ → Walk) (more : List ℕ) → IsChunk c → chunk_walk sought major sum go (chunk major c ++ more) ≡ chunk_content sought major (info c.width (length c.bytes)) sum go (behind c.width (length c.bytes) ++ (c.bytes ++ more))
  at_chunk c sum go more fits =
      let small : info c.width (length c.bytes) < 32 = omega (arith, info-below c.width (length c.bytes) fits.0) in
      let begins = head-no_break major c.width (length c.bytes) [] (omega (arith, most)) fits.0 in
      rw (begins, low_of major (info c.width (length c.bytes)) small)
      (ap (chunk_content sought major (info c.width (length c.bytes)) sum go) (append_assoc (behind c.width (length c.bytes)) c.bytes more))

  -- and past the chunk
  chunk_reports : (c : Chunk) (sum at : ℕ) (go : ℕ → List ℕ → Walk) (qs : List Place) (more rest : List ℕ) (total : ℕ) → IsChunk c → at + length (chunk major c ++ more) ≡ total → Reports sought total qs rest (go (sum + length c.bytes) more)
      → Reports sought total (number_place at major c.width (length c.bytes) ∷ (place (head_end at major c.width (length c.bytes)) (chunk_to (sum + length c.bytes)) ∷ qs)) rest (chunk_walk sought major sum go (chunk major c ++ more))
  chunk_reports c sum at go qs more rest total fits is reports =
      let w = c.width in
      let n = length c.bytes in
      let bs = c.bytes ++ more in
      let end = behind_end at (head major w n) bs total (regrouped total at (head major w n) c.bytes more is) in
      let last = seen_reports sought total (head_end at major w n) (length bs) (chunk_to (sum + n)) qs rest (go (sum + n) more) end reports in
      reports_same sought total (number_place at major w n ∷ (place (head_end at major w n) (chunk_to (sum + n)) ∷ qs)) rest
      (chunk_walk sought major sum go (chunk major c ++ more)) (chunk_content sought major (info w n) sum go (behind w n ++ bs)) (at_chunk c sum go more fits)
      (rw (number_behind_again w n bs fits.0, width_of-info w n fits.0)
      (seen_reports sought total (head_end at major w n) (length bs) (number major w n) (place (head_end at major w n) (chunk_to (sum + n)) ∷ qs) rest (and_then (past n bs) (λ more. seen sought (chunk_to (sum + n)) (length bs) (go (sum + n) more))) end
      (rw (past_again c.bytes more) last)))

  chunks_walked : (cs : List Chunk) (m sum at : ℕ) (rest : List ℕ) (total : ℕ) → AllByRecursion IsChunk cs → length cs < m → at + length (flat_map (chunk major) cs ++ (0xff ∷ rest)) ≡ total → Reports sought total (chunk_places at major sum cs) rest (chunks_walk sought major m sum (flat_map (chunk major) cs ++ (0xff ∷ rest)))
  unfolding chunks_walk
  chunks_walked [] zero sum at rest total fits few is = absurd (omega (arith, few))
  chunks_walked [] (suc m) sum at rest total fits few is = refl
  chunks_walked (c ∷ cs) zero sum at rest total fits few is = absurd (omega (arith, few))
  chunks_walked (c ∷ cs) (suc m) sum at rest total fits few is =
      let one = chunk major c in
      let more = flat_map (chunk major) cs ++ (0xff ∷ rest) in
      let within = regrouped total at one (flat_map (chunk major) cs) (0xff ∷ rest) is in
      reports_same sought total (chunk_places at major sum (c ∷ cs)) rest _ _ (ap (chunk_walk sought major sum (chunks_walk sought major m)) (append_assoc one (flat_map (chunk major) cs) (0xff ∷ rest)))
      (chunk_reports c sum at (chunks_walk sought major m) (chunk_places (at + length one) major (sum + length c.bytes) cs) more rest total fits.0 within
      (chunks_walked cs m (sum + length c.bytes) (at + length one) rest total fits.1 (omega (arith, few)) (behind_end at one more total within)))

-- what stands between the first byte of an indefinite length and what follows its break
closed : (a rest : List ℕ) → (a ++ break) ++ rest ≡ a ++ (0xff ∷ rest)
closed a rest = append_assoc a break rest

-- a string in chunks
open_chunks : (sought : Sought) (major : ℕ) (cs : List Chunk) (at : ℕ) (rest : List ℕ) (total : ℕ) → major ≤ 3 → AllByRecursion IsChunk cs → at + suc (length ((flat_map (chunk major) cs ++ break) ++ rest)) ≡ total → Reports sought total (place (suc at) indefinite_length ∷ chunk_places (suc at) major 0 cs) rest (seen sought indefinite_length (length ((flat_map (chunk major) cs ++ break) ++ rest)) (chunks_walk sought major (length ((flat_map (chunk major) cs ++ break) ++ rest)) 0 ((flat_map (chunk major) cs ++ break) ++ rest)))
open_chunks sought major cs at rest total most fits is =
    let strings = flat_map (chunk major) cs in
    let bs = (strings ++ break) ++ rest in
    let same = closed strings rest in
    let end : suc at + length bs ≡ total = omega (arith, is) in
    seen_reports sought total (suc at) (length bs) indefinite_length (chunk_places (suc at) major 0 cs) rest _ end
    (reports_same sought total (chunk_places (suc at) major 0 cs) rest _ _ (ap (chunks_walk sought major (length bs) 0) same)
    (chunks_walked sought major most cs (length bs) 0 (suc at) rest total fits
    (omega (arith, chunks-le major cs, ap length same, length-append strings (0xff ∷ rest)))
    (ap (λ (t : List ℕ). suc at + length t) (sym same) ∙ end)))

-- ---- keys

-- the key that stands before the rest
key_taken : (k rest : List ℕ) → take (length (k ++ rest) - length rest) (k ++ rest) ≡ k
key_taken k rest = take_at k rest (length (k ++ rest) - length rest) (omega (arith, length-append k rest))

pair_parts : (k v more rest : List ℕ) → (k ++ (v ++ more)) ++ rest ≡ k ++ (v ++ (more ++ rest))
pair_parts k v more rest = simp append_assoc

-- ---- floats

module _ (sought : Sought) (total at : ℕ) (rest : List ℕ) where
  float_reports : (f : FloatWidth) (bits left : ℕ) (low : ℕ) (bs : List ℕ) → number_behind low bs ≡ Ok (bits, rest) → left + length rest ≡ total → Reports sought total (place left (float_bits f bits) ∷ []) rest (float_walk sought f low bs)
  float_reports f bits left low bs read is = rw read (seen_reports sought total left (length rest) (float_bits f bits) [] rest (passed rest) is refl)

-- ---- items

mutual
  unfolding spell features content_walk indefinite_walk simple_walk walk all_walk open_walk

  pub walked : (sought : Sought) (r : Raw) (fuel at : ℕ) (rest : List ℕ) (total : ℕ) → IsWellFormed r → suc (depth r) < fuel → at + length (spell r ++ rest) ≡ total → Reports sought total (features at r) rest (walk sought fuel (spell r ++ rest))
  walked sought r zero at rest total fits nests is = absurd (omega (arith, nests))
  walked sought (raw.unsigned w n) (suc fuel) at rest total fits nests is =
      head_reports sought fuel at 0 w n fits (omega arith) [] rest rest total is (in_integer sought (walk sought fuel) 0 rest n (omega arith))
  walked sought (raw.negative w n) (suc fuel) at rest total fits nests is =
      head_reports sought fuel at 1 w n fits (omega arith) [] rest rest total is (in_integer sought (walk sought fuel) 1 rest n (omega arith))
  walked sought (raw.bytes c) (suc fuel) at rest total fits nests is =
      string_reports sought total fuel at 2 c rest fits (omega arith) (omega arith) is
  walked sought (raw.text c) (suc fuel) at rest total fits nests is =
      string_reports sought total fuel at 3 c rest fits (omega arith) (omega arith) is
  walked sought (raw.bytes_chunks cs) (suc fuel) at rest total fits nests is = open_chunks sought 2 cs at rest total (omega arith) fits is
  walked sought (raw.text_chunks cs) (suc fuel) at rest total fits nests is = open_chunks sought 3 cs at rest total (omega arith) fits is
  walked sought (raw.array (definite w) rs) (suc fuel) at rest total fits nests is =
      let n = count rs in
      let front = head 4 w n in
      let items = spell_all rs in
      let within = regrouped total at front items rest is in
      reports_same sought total (number_place at 4 w n ∷ all_features (head_end at 4 w n) rs) rest _ _ (ap (walk sought (suc fuel)) (append_assoc front items rest))
      (head_reports sought fuel at 4 w n fits.0 (omega arith) (all_features (head_end at 4 w n) rs) (items ++ rest) rest total within
      (reports_same sought total (all_features (head_end at 4 w n) rs) rest _ _ (in_array sought (walk sought fuel) 4 (items ++ rest) n refl)
      (all_walked sought rs fuel (head_end at 4 w n) rest total fits.1 (omega (arith, nests)) (behind_end at front (items ++ rest) total within))))
  walked sought (raw.array indefinite rs) (suc fuel) at rest total fits nests is =
      let bs = (spell_all rs ++ break) ++ rest in
      let same = closed (spell_all rs) rest in
      let end : suc at + length bs ≡ total = omega (arith, is) in
      let inside = open_walked sought rs (length bs) 0 fuel (suc at) rest total fits.1 (omega (arith, nests))
      (omega (arith, count-le rs, ap length same, length-append (spell_all rs) (0xff ∷ rest)))
      (ap (λ (t : List ℕ). suc at + length t) (sym same) ∙ end) in
      seen_reports sought total (suc at) (length bs) indefinite_length (open_features (suc at) 0 rs) rest _ end
      (reports_same sought total (open_features (suc at) 0 rs) rest _ _ (ap (open_walk sought (walk sought fuel) (length bs) 0) same) inside)
  walked sought (raw.map (definite w) ps) (suc fuel) at rest total fits nests is =
      let n = pair_count ps in
      let front = head 5 w n in
      let items = spell_pairs ps in
      let within = regrouped total at front items rest is in
      reports_same sought total (number_place at 5 w n ∷ pair_features (head_end at 5 w n) [] ps) rest _ _ (ap (walk sought (suc fuel)) (append_assoc front items rest))
      (head_reports sought fuel at 5 w n fits.0 (omega arith) (pair_features (head_end at 5 w n) [] ps) (items ++ rest) rest total within
      (reports_same sought total (pair_features (head_end at 5 w n) [] ps) rest _ _ (in_map sought (walk sought fuel) 5 (items ++ rest) n refl)
      (pairs_walked sought ps [] false 0 n fuel (head_end at 5 w n) rest total fits.1 (omega (arith, nests)) refl (omega arith) (behind_end at front (items ++ rest) total within))))
  walked sought (raw.map indefinite ps) (suc fuel) at rest total fits nests is =
      let bs = (spell_pairs ps ++ break) ++ rest in
      let same = closed (spell_pairs ps) rest in
      let end : suc at + length bs ≡ total = omega (arith, is) in
      let inside = pairs_walked sought ps [] true (length bs - pair_count ps) (length bs) fuel (suc at) rest total fits.1 (omega (arith, nests))
      (omega (arith, pair_count-le ps, ap length same, length-append (spell_pairs ps) (0xff ∷ rest)))
      (omega (arith, pair_count-le ps, ap length same, length-append (spell_pairs ps) (0xff ∷ rest)))
      (ap (λ (t : List ℕ). suc at + length t) (sym same) ∙ end) in
      seen_reports sought total (suc at) (length bs) indefinite_length (pair_features (suc at) [] ps) rest _ end
      (reports_same sought total (pair_features (suc at) [] ps) rest _ _ (ap (pairs_walk sought (walk sought fuel) true (length bs) []) same) inside)
  walked sought (raw.tag w n r) (suc fuel) at rest total fits nests is =
      let front = head 6 w n in
      let item = spell r in
      let within = regrouped total at front item rest is in
      reports_same sought total (number_place at 6 w n ∷ features (head_end at 6 w n) r) rest _ _ (ap (walk sought (suc fuel)) (append_assoc front item rest))
      (head_reports sought fuel at 6 w n fits.0 (omega arith) (features (head_end at 6 w n) r) (item ++ rest) rest total within
      (reports_same sought total (features (head_end at 6 w n) r) rest _ _ (in_tag sought (walk sought fuel) 6 (item ++ rest) n (omega arith))
      (walked sought r fuel (head_end at 6 w n) rest total fits.1 (omega (arith, nests)) (behind_end at front (item ++ rest) total within))))
  walked sought (raw.simple false_item) (suc fuel) at rest total fits nests is = unseen_reports sought total (suc at) (simple_item false_item) rest (false_found sought)
  walked sought (raw.simple true_item) (suc fuel) at rest total fits nests is = unseen_reports sought total (suc at) (simple_item true_item) rest (true_found sought)
  walked sought (raw.simple null_item) (suc fuel) at rest total fits nests is = unseen_reports sought total (suc at) (simple_item null_item) rest (null_found sought)
  walked sought (raw.simple undefined_item) (suc fuel) at rest total fits nests is =
      seen_reports sought total (suc at) (length rest) (simple_item undefined_item) [] rest (passed rest) (omega (arith, is)) refl
  walked sought (raw.float half bits) (suc fuel) at rest total fits nests is =
      float_reports sought total at rest half bits (at + length (float_spelling half bits)) 25 (to_be_bytes w16 bits ++ rest) (number_behind_again two_bytes bits rest fits) (behind_end at (float_spelling half bits) rest total is)
  walked sought (raw.float single bits) (suc fuel) at rest total fits nests is =
      float_reports sought total at rest single bits (at + length (float_spelling single bits)) 26 (to_be_bytes w32 bits ++ rest) (number_behind_again four_bytes bits rest fits) (behind_end at (float_spelling single bits) rest total is)
  walked sought (raw.float double bits) (suc fuel) at rest total fits nests is =
      float_reports sought total at rest double bits (at + length (float_spelling double bits)) 27 (to_be_bytes w64 bits ++ rest) (number_behind_again eight_bytes bits rest fits) (behind_end at (float_spelling double bits) rest total is)

  all_walked : (sought : Sought) (rs : Raws) (fuel at : ℕ) (rest : List ℕ) (total : ℕ) → AreWellFormed rs → suc (depth_all rs) < fuel → at + length (spell_all rs ++ rest) ≡ total → Reports sought total (all_features at rs) rest (all_walk (walk sought fuel) (count rs) (spell_all rs ++ rest))
  all_walked sought no_raws fuel at rest total fits nests is = refl
  all_walked sought (raw.raw r rs) fuel at rest total fits nests is =
      let p = walk sought fuel in
      let one = spell r in
      let items = spell_all rs in
      let more = items ++ rest in
      let within = regrouped total at one items rest is in
      rw (append_assoc one items rest)
      (reports_then sought total (features at r) (all_features (at + length one) rs) more rest (p (one ++ more)) (all_walk p (count rs))
      (walked sought r fuel at more total fits.0 (omega (arith, nests)) within)
      (all_walked sought rs fuel (at + length one) rest total fits.1 (omega (arith, nests)) (behind_end at one more total within)))

  open_walked : (sought : Sought) (rs : Raws) (m earlier fuel at : ℕ) (rest : List ℕ) (total : ℕ) → AreWellFormed rs → suc (depth_all rs) < fuel → count rs < m → at + length (spell_all rs ++ (0xff ∷ rest)) ≡ total → Reports sought total (open_features at earlier rs) rest (open_walk sought (walk sought fuel) m earlier (spell_all rs ++ (0xff ∷ rest)))
  open_walked sought rs zero earlier fuel at rest total fits nests few is = absurd (omega (arith, few))
  open_walked sought no_raws (suc m) earlier fuel at rest total fits nests few is = refl
  open_walked sought (raw.raw r rs) (suc m) earlier fuel at rest total fits nests few is =
      let p = walk sought fuel in
      let one = spell r in
      let items = spell_all rs in
      let more = items ++ (0xff ∷ rest) in
      let here = at + length one in
      let within = regrouped total at one items (0xff ∷ rest) is in
      let end = behind_end at one more total within in
      let behind_item = place here (nth_item earlier) ∷ open_features here (earlier + 1) rs in
      rw (append_assoc one items (0xff ∷ rest))
      (reports_same sought total (features at r ++ behind_item) rest _ _ (open_next sought p m earlier (one ++ more) (no_break r more fits.0))
      (reports_then sought total (features at r) behind_item more rest (p (one ++ more)) _
      (walked sought r fuel at more total fits.0 (omega (arith, nests)) within)
      (seen_reports sought total here (length more) (nth_item earlier) (open_features here (earlier + 1) rs) rest (open_walk sought p m (earlier + 1) more) end
      (open_walked sought rs m (earlier + 1) fuel here rest total fits.1 (omega (arith, nests)) (omega (arith, few)) end))))

  pairs_walked : (sought : Sought) (ps : RawPairs) (earlier : List (List ℕ)) (is_open : Bool) (extra m fuel at : ℕ) (rest : List ℕ) (total : ℕ) → ArePairsWellFormed ps → suc (depth_pairs ps) < fuel → Closes is_open extra → m ≡ pair_count ps + extra → at + length (spell_pairs ps ++ closing is_open rest) ≡ total → Reports sought total (pair_features at earlier ps) rest (pairs_walk sought (walk sought fuel) is_open m earlier (spell_pairs ps ++ closing is_open rest))
  pairs_walked sought no_raw_pairs earlier is_open extra m fuel at rest total fits nests closes steps is =
      let same : extra ≡ m = omega (arith, steps) in
      pairs_closed sought (walk sought fuel) is_open m earlier rest (subst (Closes is_open) same closes)
  pairs_walked sought (raw_pair k v ps) earlier is_open extra zero fuel at rest total fits nests closes steps is = absurd (omega (arith, steps))
  pairs_walked sought (raw_pair k v ps) earlier is_open extra (suc m) fuel at rest total fits nests closes steps is =
      let p = walk sought fuel in
      let k_bytes = spell k in
      let one = spell v in
      let more = spell_pairs ps ++ closing is_open rest in
      let at_value = one ++ more in
      let here = at + length k_bytes in
      let there = at + length k_bytes + length one in
      let within : at + length (k_bytes ++ at_value) ≡ total = ap (λ (t : List ℕ). at + length t) (sym (pair_parts k_bytes one (spell_pairs ps) (closing is_open rest))) ∙ is in
      let within_value : here + length at_value ≡ total = behind_end at k_bytes at_value total within in
      let within_more : there + length more ≡ total = behind_end here one more total within_value in
      let behind_key = place here (key earlier k_bytes) ∷ (features here v ++ pair_features there (k_bytes ∷ earlier) ps) in
      rw (pair_parts k_bytes one (spell_pairs ps) (closing is_open rest))
      (reports_same sought total (features at k ++ behind_key) rest _ _ (pairs_next sought p is_open m earlier (k_bytes ++ at_value) (no_break k at_value fits.0))
      (reports_then sought total (features at k) behind_key at_value rest (p (k_bytes ++ at_value)) _
      (walked sought k fuel at at_value total fits.0 (omega (arith, nests)) within)
      (subst (λ (t : List ℕ). Reports sought total behind_key rest (seen sought (key earlier t) (length at_value) (and_then (p at_value) (pairs_walk sought p is_open m (t ∷ earlier))))) (sym (key_taken k_bytes at_value))
      (seen_reports sought total here (length at_value) (key earlier k_bytes) (features here v ++ pair_features there (k_bytes ∷ earlier) ps) rest (and_then (p at_value) (pairs_walk sought p is_open m (k_bytes ∷ earlier))) within_value
      (reports_then sought total (features here v) (pair_features there (k_bytes ∷ earlier) ps) more rest (p at_value) (pairs_walk sought p is_open m (k_bytes ∷ earlier))
      (walked sought v fuel here more total fits.1 (omega (arith, nests)) within_value)
      (pairs_walked sought ps (k_bytes ∷ earlier) is_open extra m fuel there rest total fits.2 (omega (arith, nests)) closes (omega (arith, steps)) within_more))))))
