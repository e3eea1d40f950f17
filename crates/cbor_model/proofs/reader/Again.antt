-- What is spelled is read.
use Rattle.std.proofs.Common.{◌≡◌, ℕ, zero, suc, ◌+◌, ◌*◌, ◌<◌, ◌≤◌, true, false, eqb, List, [], ◌∷◌, ◌++◌, length, Option, Some, Ok, refl, sym, ap, ◌∙◌, append_assoc, arith, None, Bool}
use Rattle.std.specs.Prelude.{flat_map}
use Rattle.std.specs.List.{AllByRecursion}
use Rattle.std.specs.Int.{w16, w32, w64}
use Rattle.std.proofs.lemmas.Bool.{ne_eqb, eq-eqb, lt-ltb}
use Rattle.std.proofs.lemmas.List.{length-append}
use Rattle.cbor_model.specs.Head.{HeadWidth, limit, info, head, behind}
use Rattle.cbor_model.specs.Major.{major_of}
use Rattle.cbor_model.specs.Raw as raw
use Rattle.cbor_model.specs.Raw.{Length, definite, indefinite, Raw, Raws, no_raws, RawPairs, no_raw_pairs, raw_pair, Chunk, joined, Simple, false_item, true_item, null_item, undefined_item, FloatWidth, half, single, double, float_limit, count, pair_count, depth, depth_all, depth_pairs, IsChunk, IsWellFormed, AreWellFormed, ArePairsWellFormed, EachText, EachTextOfAll, EachTextOfPairs, EachKey, EachKeyOfAll, EachKeyOfPairs, longest_joined, longest_joined_all, longest_joined_pairs}
use Rattle.cbor_model.specs.Spelling.{spell, spell_all, spell_pairs, chunk, simple_byte, float_spelling, break}
use Rattle.cbor_model.specs.Refusal.{Refusal, end_in_array, end_in_map}
use Rattle.cbor_model.specs.Reader.{Reads, ◌>>=◌, Reading, byte_at, with_number, with_length, float_at, simple_at, string_at, checked_text, text_at, content_of_chunk, chunk_at, chunks_by, string_chunks_at, text_chunks_at, Remaining, counted, to_break, next_at, Parts, parts_by, parts_at, pair_at, items_of, pairs_of, array_at, map_at, tag_at, content_at, after_first, item_by, item_at, inside}
use Rattle.cbor_model.proofs.reader.MadeItems.{made, made_all, made_pairs}
use Rattle.cbor_model.proofs.reader.ReaderSteps.{bytes_again, wide16, wide32, wide64, number_again, info-below, width_of-info, number_behind_again, high_of, low_of, BeginsWith, key_is}
use Rattle.cbor_model.proofs.reader.FoundParts.{Passes, MayBeKey}
use Rattle.cbor_model.proofs.reader.FirstBytes.{IsBegun, begun, begun-length, head-no_break, begins_front}

-- each text that fits what is left has room, where no more than so many bytes are left
abbrev pub HasRoom : {Item Items Pairs : Type 0} → Reading Item Items Pairs → ℕ → Type 0
HasRoom m total = (left n : ℕ) → n ≤ left → left ≤ total → m.has_room left n ≡ true

-- no chunks are too long where longer ones aren't
abbrev pub Grows : (ℕ → Bool) → Type 0
Grows exceeds = (a b : ℕ) → a ≤ b → exceeds b ≡ false → exceeds a ≡ false

-- chunks of these bytes are joined
abbrev pub Joins : {Item Items Pairs : Type 0} → Reading Item Items Pairs → List ℕ → Type 0
Joins m b = m.exceeds (length b) ≡ false

-- each text and each key passes, and each chunked string is joined
abbrev mutual
  pub Lets : {Item Items Pairs : Type 0} → Reading Item Items Pairs → Raw → Type 0
  Lets m (raw.text c) = Passes m c.bytes
  Lets m (raw.bytes_chunks cs) = Joins m (joined cs)
  Lets m (raw.text_chunks cs) = Passes m (joined cs) × Joins m (joined cs)
  Lets m (raw.array l rs) = LetsAll m rs
  Lets m (raw.map l ps) = LetsPairs m ps
  Lets m (raw.tag w n r) = Lets m r
  Lets m _ = Unit {0}

  pub LetsAll : {Item Items Pairs : Type 0} → Reading Item Items Pairs → Raws → Type 0
  LetsAll m no_raws = Unit {0}
  LetsAll m (raw.raw r rs) = Lets m r × LetsAll m rs

  pub LetsPairs : {Item Items Pairs : Type 0} → Reading Item Items Pairs → RawPairs → Type 0
  LetsPairs m no_raw_pairs = Unit {0}
  LetsPairs m (raw_pair k v ps) = MayBeKey m k × Lets m k × Lets m v × LetsPairs m ps

module _ {Item Items Pairs : Type 0} (m : Reading Item Items Pairs) (grows : Grows m.exceeds) where
  mutual
    pub lets : (r : Raw) → EachText (Passes m) r → EachKey (MayBeKey m) r
        → m.exceeds (longest_joined r) ≡ false → Lets m r
    lets (raw.text c) texts keys joins = texts
    lets (raw.bytes_chunks cs) texts keys joins = joins
    lets (raw.text_chunks cs) texts keys joins = (texts, joins)
    lets (raw.array l rs) texts keys joins = lets_all rs texts keys joins
    lets (raw.map l ps) texts keys joins = lets_pairs ps texts keys joins
    lets (raw.tag w n r) texts keys joins = lets r texts keys joins
    lets _ texts keys joins = tt

    lets_all : (rs : Raws) → EachTextOfAll (Passes m) rs → EachKeyOfAll (MayBeKey m) rs
        → m.exceeds (longest_joined_all rs) ≡ false → LetsAll m rs
    lets_all no_raws texts keys joins = tt
    lets_all (raw.raw r rs) texts keys joins =
        let most = longest_joined_all (raw.raw r rs) in (
          lets r texts.0 keys.0 (grows (longest_joined r) most (omega arith) joins),
          lets_all rs texts.1 keys.1 (grows (longest_joined_all rs) most (omega arith) joins),
        )

    lets_pairs : (ps : RawPairs) → EachTextOfPairs (Passes m) ps → EachKeyOfPairs (MayBeKey m) ps
        → m.exceeds (longest_joined_pairs ps) ≡ false → LetsPairs m ps
    lets_pairs no_raw_pairs texts keys joins = tt
    lets_pairs (raw_pair k v ps) texts keys joins =
        let most = longest_joined_pairs (raw_pair k v ps) in (
          keys.0,
          lets k texts.0 keys.1 (grows (longest_joined k) most (omega arith) joins),
          lets v texts.1 keys.2 (grows (longest_joined v) most (omega arith) joins),
          lets_pairs ps texts.2 keys.3 (grows (longest_joined_pairs ps) most (omega arith) joins),
        )

-- ---- what remains of an array or a map

-- what remains before n parts of this length, and what follows them
abbrev remaining_of : Length → ℕ → Remaining
remaining_of (definite w) n = counted n
remaining_of indefinite n = to_break

abbrev after_parts : Length → List ℕ → List ℕ
after_parts (definite w) rest = rest
after_parts indefinite rest = 0xff ∷ rest

-- a part comes where its spelling does, and none where the parts end
next_again : (why : Refusal) (l : Length) (n : ℕ) (bs rest : List ℕ) → IsBegun bs → next_at why (remaining_of l (suc n)) (bs ++ rest) ≡ Ok (Some (remaining_of l n), bs ++ rest)
unfolding next_at
next_again why (definite w) n bs rest starts = refl
next_again why indefinite n bs rest starts = rw (starts.is, starts.no_break) refl

next_ends : (why : Refusal) (l : Length) (rest : List ℕ) → next_at why (remaining_of l 0) (after_parts l rest) ≡ Ok (None, rest)
unfolding next_at
next_ends why (definite w) rest = refl
next_ends why indefinite rest = refl

parts_end : {Part Whole : Type 0} (ps : Parts Part Whole) (fuel : ℕ) (l : Length) (rest : List ℕ) → parts_by ps (suc fuel) (remaining_of l 0) (after_parts l rest) ≡ Ok (ps.none, rest)
unfolding parts_by
parts_end ps fuel l rest = rw (next_ends ps.ends l rest) refl

-- parts, once the first of them is read and the others
part_before : {Part Whole : Type 0} (ps : Parts Part Whole) (fuel n : ℕ) (l : Length) (bs more rest : List ℕ) (first : Part) (others : Whole) → next_at ps.ends (remaining_of l (suc n)) bs ≡ Ok (Some (remaining_of l n), bs) → ps.part bs ≡ Ok (first, more)
    → parts_by ps fuel (remaining_of l n) more ≡ Ok (others, rest) → parts_by ps (suc fuel) (remaining_of l (suc n)) bs ≡ Ok (ps.add first others, rest)
unfolding parts_by
part_before ps fuel n l bs more rest first others comes read all = rw (comes, read, all) refl

-- ---- counts

pub count-le : (rs : Raws) → AreWellFormed rs → count rs ≤ length (spell_all rs)
unfolding spell
count-le no_raws fits = omega arith
count-le (raw.raw r rs) fits = omega (arith, begun-length (spell r) (begun r fits.0), count-le rs fits.1, length-append (spell r) (spell_all rs))

pub pair_count-le : (ps : RawPairs) → ArePairsWellFormed ps → pair_count ps ≤ length (spell_pairs ps)
unfolding spell
pair_count-le no_raw_pairs fits = omega arith
pair_count-le (raw_pair k v ps) fits =
    omega (arith, begun-length (spell k) (begun k fits.0), pair_count-le ps fits.2, length-append (spell k) (spell v ++ spell_pairs ps), length-append (spell v) (spell_pairs ps))

pub chunk_count-le : (major : ℕ) (cs : List Chunk) → length cs ≤ length (flat_map (chunk major) cs)
chunk_count-le major [] = omega arith
chunk_count-le major (c ∷ cs) =
    omega (arith, chunk_count-le major cs, length-append (chunk major c) (flat_map (chunk major) cs), length-append (head major c.width (length c.bytes)) c.bytes)

-- ---- chunks

-- three parts after another
behind_parts : (a b c rest : List ℕ) → ((a ++ b) ++ c) ++ rest ≡ a ++ (b ++ (c ++ rest))
behind_parts a b c rest = simp append_assoc

pub chunk_again : (exceeds : ℕ → Bool) (major : ℕ) (c : Chunk) (rest : List ℕ) → IsChunk c → exceeds (length c.bytes) ≡ false → chunk_at exceeds major (32 * major + info c.width (length c.bytes)) (behind c.width (length c.bytes) ++ (c.bytes ++ rest)) ≡ Ok (c, rest)
unfolding chunk_at content_of_chunk
chunk_again exceeds major c rest fits joins =
    let w = c.width in
    let n = length c.bytes in
    let below : info w n < 28 = info-below w n fits.0 in
    let small : info w n < 32 = omega arith in
    rw (high_of major (info w n) small, low_of major (info w n) small, eq-eqb major major refl, lt-ltb (info w n) 28 below, number_behind_again w n (c.bytes ++ rest) fits.0, bytes_again c.bytes rest, joins, width_of-info w n fits.0) refl

chunks_again : (exceeds : ℕ → Bool) → Grows exceeds → (have major : ℕ) (cs : List Chunk) (fuel : ℕ) (rest : List ℕ) → major ≤ 6 → AllByRecursion IsChunk cs → exceeds (have + length (joined cs)) ≡ false → length cs < fuel → chunks_by exceeds have major fuel (flat_map (chunk major) cs ++ (0xff ∷ rest)) ≡ Ok (cs, rest)
unfolding chunks_by byte_at
chunks_again exceeds grows have major cs zero rest at_most fits joins enough = absurd (omega arith)
chunks_again exceeds grows have major [] (suc fuel) rest at_most fits joins enough = refl
chunks_again exceeds grows have major (c ∷ cs) (suc fuel) rest at_most fits joins enough =
    let w = c.width in
    let n = length c.bytes in
    let more = flat_map (chunk major) cs ++ (0xff ∷ rest) in
    let long : have + length (joined (c ∷ cs)) ≡ have + n + length (joined cs) = omega (arith, length-append c.bytes (joined cs)) in
    let joins' : exceeds (have + n + length (joined cs)) ≡ false = ap exceeds (sym long) ∙ joins in
    let others : chunks_by exceeds (have + n) major fuel more ≡ Ok (cs, rest) = chunks_again exceeds grows (have + n) major cs fuel rest at_most fits.1 joins' (omega arith) in
    let one = chunk_again (λ n. exceeds (have + n)) major c more fits.0 (grows (have + n) (have + n + length (joined cs)) (omega arith) joins') in
    ap (λ (t : List ℕ). chunks_by exceeds have major (suc fuel) ((32 * major + info w n) ∷ t)) (behind_parts (behind w n) c.bytes (flat_map (chunk major) cs) (0xff ∷ rest))
    ∙ rw (head-no_break major w n at_most fits.0.0, one, others) refl

-- ---- items

pub item_at-inside : {Item Items Pairs : Type 0} (m : Reading Item Items Pairs) (levels : ℕ) (bs : List ℕ) → item_at m levels bs ≡ item_by m (inside m levels) bs
unfolding item_at
item_at-inside m zero bs = refl
item_at-inside m (suc levels) bs = refl

module _ {Item Items Pairs : Type 0} (m : Reading Item Items Pairs) where
  -- past a head, the reader is at the content
  pub head_again : (inner : Option (List ℕ → Reads Item)) (major : ℕ) (w : HeadWidth) (n : ℕ) (bs : List ℕ) → n < limit w → item_by m inner ((32 * major + info w n) ∷ bs) ≡ content_at m inner (major_of major) (info w n) bs
  unfolding item_by byte_at after_first
  head_again inner major w n bs fits =
      let small : info w n < 32 = omega (arith, info-below w n fits) in
      rw (high_of major (info w n) small, low_of major (info w n) small) refl

  pub numbered_again : (inner : Option (List ℕ → Reads Item)) (major : ℕ) (read : HeadWidth → ℕ → List ℕ → Reads Item) (w : HeadWidth) (n : ℕ) (rest : List ℕ) → n < limit w → content_at m inner (major_of major) ≡ with_number read → item_by m inner (head major w n ++ rest) ≡ read w n rest
  numbered_again inner major read w n rest fits is = head_again inner major w n (behind w n ++ rest) fits ∙ rw (is, number_behind_again w n rest fits, width_of-info w n fits) refl

  pub length_again : (inner : Option (List ℕ → Reads Item)) (major : ℕ) (read : HeadWidth → ℕ → List ℕ → Reads Item) (others : List ℕ → Reads Item) (w : HeadWidth) (n : ℕ) (rest : List ℕ) → n < limit w → content_at m inner (major_of major) ≡ with_length read others → item_by m inner (head major w n ++ rest) ≡ read w n rest
  length_again inner major read others w n rest fits is =
      let not_31 : eqb (info w n) 31 ≡ false = ne_eqb (info w n) 31 (λ same. omega (arith, info-below w n fits)) in
      head_again inner major w n (behind w n ++ rest) fits ∙ rw (is, not_31, number_behind_again w n rest fits, width_of-info w n fits) refl

  simple_again : (inner : Option (List ℕ → Reads Item)) (s : Simple) (rest : List ℕ) → item_by m inner (simple_byte s ∷ rest) ≡ Ok (m.simple s, rest)
  unfolding item_by byte_at after_first content_at simple_at
  simple_again inner false_item rest = refl
  simple_again inner true_item rest = refl
  simple_again inner null_item rest = refl
  simple_again inner undefined_item rest = refl

  float_again : (inner : Option (List ℕ → Reads Item)) (f : FloatWidth) (n : ℕ) (rest : List ℕ) → n < float_limit f → item_by m inner (float_spelling f n ++ rest) ≡ Ok (m.float f n, rest)
  unfolding item_by byte_at after_first content_at simple_at float_at
  float_again inner half n rest lt = ap (λ r. r >>= (λ n. Ok (m.float half n.0, n.1))) (number_again w16 (float_limit half) wide16 n rest lt)
  float_again inner single n rest lt = ap (λ r. r >>= (λ n. Ok (m.float single n.0, n.1))) (number_again w32 (float_limit single) wide32 n rest lt)
  float_again inner double n rest lt = ap (λ r. r >>= (λ n. Ok (m.float double n.0, n.1))) (number_again w64 (float_limit double) wide64 n rest lt)

  string_again : (c : Chunk) (rest : List ℕ) → string_at m c.width (length c.bytes) (c.bytes ++ rest) ≡ Ok (m.bytes c, rest)
  unfolding string_at
  string_again c rest = rw (bytes_again c.bytes rest) refl

  text_again : (c : Chunk) (rest : List ℕ) → m.has_room (length (c.bytes ++ rest)) (length c.bytes) ≡ true → Passes m c.bytes → text_at m c.width (length c.bytes) (c.bytes ++ rest) ≡ Ok (m.text c, rest)
  unfolding text_at checked_text
  text_again c rest room passes = rw (room, bytes_again c.bytes rest, passes) refl

  -- chunks after their first byte, in a reader with this much fuel
  all_chunks_again : Grows m.exceeds → (major : ℕ) (cs : List Chunk) (rest : List ℕ) → major ≤ 6 → AllByRecursion IsChunk cs → Joins m (joined cs) → chunks_by m.exceeds 0 major (suc (length (flat_map (chunk major) cs ++ (0xff ∷ rest)))) (flat_map (chunk major) cs ++ (0xff ∷ rest)) ≡ Ok (cs, rest)
  all_chunks_again grows major cs rest at_most fits joins =
      let none : 0 + length (joined cs) ≡ length (joined cs) = omega arith in
      chunks_again m.exceeds grows 0 major cs _ rest at_most fits (ap m.exceeds none ∙ joins) (omega (arith, chunk_count-le major cs, length-append (flat_map (chunk major) cs) (0xff ∷ rest)))

  string_chunks_again : Grows m.exceeds → (inner : Option (List ℕ → Reads Item)) (cs : List Chunk) (rest : List ℕ) → AllByRecursion IsChunk cs → Joins m (joined cs) → item_by m inner (0x5f ∷ (flat_map (chunk 2) cs ++ (0xff ∷ rest))) ≡ Ok (m.bytes_chunks cs, rest)
  unfolding item_by byte_at after_first content_at string_chunks_at
  string_chunks_again grows inner cs rest fits joins = rw (all_chunks_again grows 2 cs rest (omega arith) fits joins) refl

  text_chunks_again : Grows m.exceeds → (inner : Option (List ℕ → Reads Item)) (cs : List Chunk) (rest : List ℕ) → AllByRecursion IsChunk cs → Passes m (joined cs) → Joins m (joined cs) → item_by m inner (0x7f ∷ (flat_map (chunk 3) cs ++ (0xff ∷ rest))) ≡ Ok (m.text_chunks cs, rest)
  unfolding item_by byte_at after_first content_at text_chunks_at checked_text
  text_chunks_again grows inner cs rest fits passes joins = rw (all_chunks_again grows 3 cs rest (omega arith) fits joins, passes) refl

  -- ---- what lies one level further in, by a reader p that reads it

  -- an array, once its items are read
  array_again : (p : List ℕ → Reads Item) (l : Length) (remaining : Remaining) (bs rest : List ℕ) (items : Items) → parts_at (items_of m p) remaining bs ≡ Ok (items, rest) → array_at m (Some p) l remaining bs ≡ Ok (m.array l items, rest)
  unfolding array_at
  array_again p l remaining bs rest items is = rw is refl

  map_again : (p : List ℕ → Reads Item) (l : Length) (remaining : Remaining) (bs rest : List ℕ) (pairs : Pairs) → parts_at (pairs_of m p) remaining bs ≡ Ok (pairs, rest) → map_at m (Some p) l remaining bs ≡ Ok (m.map l pairs, rest)
  unfolding map_at
  map_again p l remaining bs rest pairs is = rw is refl

  tag_again : (p : List ℕ → Reads Item) (w : HeadWidth) (n : ℕ) (bs rest : List ℕ) (item : Item) → p bs ≡ Ok (item, rest) → tag_at m (Some p) w n bs ≡ Ok (m.tag w n item, rest)
  unfolding tag_at
  tag_again p w n bs rest item is = rw is refl

  pub indefinite_array_again : (p : List ℕ → Reads Item) (bs : List ℕ) → item_by m (Some p) (0x9f ∷ bs) ≡ array_at m (Some p) indefinite to_break bs
  unfolding item_by byte_at after_first content_at
  indefinite_array_again p bs = refl

  pub indefinite_map_again : (p : List ℕ → Reads Item) (bs : List ℕ) → item_by m (Some p) (0xbf ∷ bs) ≡ map_at m (Some p) indefinite to_break bs
  unfolding item_by byte_at after_first content_at
  indefinite_map_again p bs = refl

  pub pair_again : (p : List ℕ → Reads Item) (bs at_value more : List ℕ) (k v : Item) → BeginsWith m.allows bs → p bs ≡ Ok (k, at_value) → p at_value ≡ Ok (v, more) → pair_at m.allows p bs ≡ Ok ((k, v), more)
  unfolding pair_at
  pair_again p bs at_value more k v may key val = rw (key_is m.allows p bs may, key, val) refl

-- a key and a value, and the pairs after them
pair_parts : (k v more rest : List ℕ) → (k ++ (v ++ more)) ++ rest ≡ k ++ (v ++ (more ++ rest))
pair_parts k v more rest = simp append_assoc

-- a head, and parts after it
within_head : (a b rest : List ℕ) (total : ℕ) → length ((a ++ b) ++ rest) ≤ total → length (b ++ rest) ≤ total
within_head a b rest total within = omega (arith, length-append (a ++ b) rest, length-append a b, length-append b rest)

-- a first byte, and parts after it up to the break
within_break : (first : ℕ) (parts rest : List ℕ) (total : ℕ) → length ((first ∷ (parts ++ break)) ++ rest) ≤ total → length (parts ++ (0xff ∷ rest)) ≤ total
within_break first parts rest total within = omega (arith, ap length (append_assoc parts break rest))

module _ {Item Items Pairs : Type 0} (m : Reading Item Items Pairs) (total : ℕ) (room : HasRoom m total) (grows : Grows m.exceeds) where
  mutual
    unfolding spell content_at made

    -- what is spelled is read, where each text has room and passes
    pub again : (r : Raw) (levels : ℕ) (rest : List ℕ) → IsWellFormed r → depth r ≤ levels → Lets m r → length (spell r ++ rest) ≤ total → item_at m levels (spell r ++ rest) ≡ Ok (made m r, rest)
    again (raw.unsigned w n) levels rest fits nests texts within = item_at-inside m levels _ ∙ numbered_again m (inside m levels) 0 (λ w n bs. Ok (m.unsigned w n, bs)) w n rest fits refl
    again (raw.negative w n) levels rest fits nests texts within = item_at-inside m levels _ ∙ numbered_again m (inside m levels) 1 (λ w n bs. Ok (m.negative w n, bs)) w n rest fits refl
    again (raw.bytes c) levels rest fits nests texts within =
        ap (item_at m levels) (append_assoc (head 2 c.width (length c.bytes)) c.bytes rest) ∙ item_at-inside m levels _ ∙ length_again m (inside m levels) 2 (string_at m) _ c.width (length c.bytes) (c.bytes ++ rest) fits.0 refl ∙ string_again m c rest
    again (raw.text c) levels rest fits nests texts within =
        let b = c.bytes in
        let front = head 3 c.width (length b) in
        let fits_room = room (length (b ++ rest)) (length b) (omega (arith, length-append b rest)) (within_head front b rest total within) in
        ap (item_at m levels) (append_assoc front b rest) ∙ item_at-inside m levels _ ∙ length_again m (inside m levels) 3 (text_at m) _ c.width (length b) (b ++ rest) fits.0 refl ∙ text_again m c rest fits_room texts
    again (raw.bytes_chunks cs) levels rest fits nests texts within =
        ap (λ (t : List ℕ). item_at m levels (0x5f ∷ t)) (append_assoc (flat_map (chunk 2) cs) break rest) ∙ item_at-inside m levels _ ∙ string_chunks_again m grows (inside m levels) cs rest fits texts
    again (raw.text_chunks cs) levels rest fits nests texts within =
        ap (λ (t : List ℕ). item_at m levels (0x7f ∷ t)) (append_assoc (flat_map (chunk 3) cs) break rest) ∙ item_at-inside m levels _ ∙ text_chunks_again m grows (inside m levels) cs rest fits texts.0 texts.1
    again (raw.array l rs) zero rest fits nests texts within = absurd (omega (arith, nests))
    again (raw.array (definite w) rs) (suc levels) rest fits nests texts within =
        let front = head 4 w (count rs) in
        let items = spell_all rs in
        let bs = items ++ rest in
        ap (item_at m (suc levels)) (append_assoc front items rest)
        ∙ item_at-inside m (suc levels) _
        ∙ length_again m (inside m (suc levels)) 4 (λ w n. array_at m (Some (item_at m levels)) (definite w) (counted n)) _ w (count rs) bs fits.0 refl
        ∙ array_again m (item_at m levels) (definite w) (counted (count rs)) bs rest (made_all m rs) (all_again rs (definite w) levels rest (suc (length bs)) fits.1 (omega (arith, nests)) texts (within_head front items rest total within) (omega (arith, count-le rs fits.1, length-append items rest)))
    again (raw.array indefinite rs) (suc levels) rest fits nests texts within =
        let items = spell_all rs in
        let bs = items ++ (0xff ∷ rest) in
        ap (λ (t : List ℕ). item_at m (suc levels) (0x9f ∷ t)) (append_assoc items break rest)
        ∙ item_at-inside m (suc levels) _
        ∙ indefinite_array_again m (item_at m levels) bs
        ∙ array_again m (item_at m levels) indefinite to_break bs rest (made_all m rs) (all_again rs indefinite levels rest (suc (length bs)) fits.1 (omega (arith, nests)) texts (within_break 0x9f items rest total within) (omega (arith, count-le rs fits.1, length-append items (0xff ∷ rest))))
    again (raw.map l ps) zero rest fits nests texts within = absurd (omega (arith, nests))
    again (raw.map (definite w) ps) (suc levels) rest fits nests texts within =
        let front = head 5 w (pair_count ps) in
        let pairs = spell_pairs ps in
        let bs = pairs ++ rest in
        ap (item_at m (suc levels)) (append_assoc front pairs rest)
        ∙ item_at-inside m (suc levels) _
        ∙ length_again m (inside m (suc levels)) 5 (λ w n. map_at m (Some (item_at m levels)) (definite w) (counted n)) _ w (pair_count ps) bs fits.0 refl
        ∙ map_again m (item_at m levels) (definite w) (counted (pair_count ps)) bs rest (made_pairs m ps) (pairs_again ps (definite w) levels rest (suc (length bs)) fits.1 (omega (arith, nests)) texts (within_head front pairs rest total within) (omega (arith, pair_count-le ps fits.1, length-append pairs rest)))
    again (raw.map indefinite ps) (suc levels) rest fits nests texts within =
        let pairs = spell_pairs ps in
        let bs = pairs ++ (0xff ∷ rest) in
        ap (λ (t : List ℕ). item_at m (suc levels) (0xbf ∷ t)) (append_assoc pairs break rest)
        ∙ item_at-inside m (suc levels) _
        ∙ indefinite_map_again m (item_at m levels) bs
        ∙ map_again m (item_at m levels) indefinite to_break bs rest (made_pairs m ps) (pairs_again ps indefinite levels rest (suc (length bs)) fits.1 (omega (arith, nests)) texts (within_break 0xbf pairs rest total within) (omega (arith, pair_count-le ps fits.1, length-append pairs (0xff ∷ rest))))
    again (raw.tag w n r) zero rest fits nests texts within = absurd (omega (arith, nests))
    again (raw.tag w n r) (suc levels) rest fits nests texts within =
        let front = head 6 w n in
        let item = spell r in
        ap (item_at m (suc levels)) (append_assoc front item rest)
        ∙ item_at-inside m (suc levels) _
        ∙ numbered_again m (inside m (suc levels)) 6 (tag_at m (Some (item_at m levels))) w n (item ++ rest) fits.0 refl
        ∙ tag_again m (item_at m levels) w n (item ++ rest) rest (made m r) (again r levels rest fits.1 (omega (arith, nests)) texts (within_head front item rest total within))
    again (raw.simple s) levels rest fits nests texts within = item_at-inside m levels _ ∙ simple_again m (inside m levels) s rest
    again (raw.float f n) levels rest fits nests texts within = item_at-inside m levels _ ∙ float_again m (inside m levels) f n rest fits

    pub all_again : (rs : Raws) (l : Length) (levels : ℕ) (rest : List ℕ) (fuel : ℕ) → AreWellFormed rs → depth_all rs ≤ levels → LetsAll m rs → length (spell_all rs ++ after_parts l rest) ≤ total → count rs < fuel
        → parts_by (items_of m (item_at m levels)) fuel (remaining_of l (count rs)) (spell_all rs ++ after_parts l rest) ≡ Ok (made_all m rs, rest)
    all_again rs l levels rest zero fits nests texts within enough = absurd (omega arith)
    all_again no_raws l levels rest (suc fuel) fits nests texts within enough = parts_end (items_of m (item_at m levels)) fuel l rest
    all_again (raw.raw r rs) l levels rest (suc fuel) fits nests texts within enough =
        let one = spell r in
        let more = spell_all rs ++ after_parts l rest in
        let regrouped = append_assoc one (spell_all rs) (after_parts l rest) in
        let within_one : length (one ++ more) ≤ total = omega (arith, ap length regrouped) in
        let within_more : length more ≤ total = omega (arith, length-append one more) in
        let ps = items_of m (item_at m levels) in
        ap (parts_by ps (suc fuel) (remaining_of l (suc (count rs)))) regrouped
        ∙ part_before ps fuel (count rs) l (one ++ more) more rest (made m r) (made_all m rs)
        (next_again end_in_array l (count rs) one more (begun r fits.0))
        (again r levels more fits.0 (omega (arith, nests)) texts.0 within_one)
        (all_again rs l levels rest fuel fits.1 (omega (arith, nests)) texts.1 within_more (omega arith))

    pub pairs_again : (ps : RawPairs) (l : Length) (levels : ℕ) (rest : List ℕ) (fuel : ℕ) → ArePairsWellFormed ps → depth_pairs ps ≤ levels → LetsPairs m ps → length (spell_pairs ps ++ after_parts l rest) ≤ total → pair_count ps < fuel
        → parts_by (pairs_of m (item_at m levels)) fuel (remaining_of l (pair_count ps)) (spell_pairs ps ++ after_parts l rest) ≡ Ok (made_pairs m ps, rest)
    pairs_again ps l levels rest zero fits nests texts within enough = absurd (omega arith)
    pairs_again no_raw_pairs l levels rest (suc fuel) fits nests texts within enough = parts_end (pairs_of m (item_at m levels)) fuel l rest
    pairs_again (raw_pair k v ps) l levels rest (suc fuel) fits nests texts within enough =
        let p = item_at m levels in
        let tail = after_parts l rest in
        let more = spell_pairs ps ++ tail in
        let at_value = spell v ++ more in
        let regrouped = pair_parts (spell k) (spell v) (spell_pairs ps) tail in
        let within_key : length (spell k ++ at_value) ≤ total = omega (arith, ap length regrouped) in
        let within_value : length at_value ≤ total = omega (arith, length-append (spell k) at_value) in
        let within_more : length more ≤ total = omega (arith, length-append (spell v) more) in
        ap (parts_by (pairs_of m p) (suc fuel) (remaining_of l (suc (pair_count ps)))) regrouped
        ∙ part_before (pairs_of m p) fuel (pair_count ps) l (spell k ++ at_value) more rest (made m k, made m v) (made_pairs m ps)
        (next_again end_in_map l (pair_count ps) (spell k) at_value (begun k fits.0))
        (pair_again m p (spell k ++ at_value) at_value more (made m k) (made m v)
        (begins_front m.allows (spell k) at_value texts.0)
        (again k levels at_value fits.0 (omega (arith, nests)) texts.1 within_key)
        (again v levels more fits.1 (omega (arith, nests)) texts.2 within_value))
        (pairs_again ps l levels rest fuel fits.2 (omega (arith, nests)) texts.3 within_more (omega arith))
