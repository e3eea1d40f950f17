-- Where bytes can be no front of a spelling: the reader that lets all pass refuses them.
use Rattle.std.specs.Prelude.{flat_map}
use Rattle.std.proofs.Common.{◌≡◌, ◌⊎◌, ℕ, suc, ◌+◌, ◌*◌, ◌<◌, ◌≤◌, true, false, List, [], ◌∷◌}
use Rattle.std.proofs.Common.{◌++◌, length, Err, refl, sym, ap, subst, ◌∙◌, append_assoc, arith}
use Rattle.std.proofs.Common.{inl, inr}
use Rattle.std.proofs.lemmas.Bool.{cases_lt, ne_eqb}
use Rattle.std.proofs.lemmas.List.{append-nil, length-append}
use Rattle.cbor_model.specs.Head.{head}
use Rattle.cbor_model.specs.Raw as raw
use Rattle.cbor_model.specs.Raw.{Raw, Raws, no_raws, RawPairs, no_raw_pairs, raw_pair, definite}
use Rattle.cbor_model.specs.Raw.{indefinite, count, depth, depth_all, depth_pairs, IsWellFormed}
use Rattle.cbor_model.specs.Spelling.{spell, spell_all, spell_pairs, break, chunk}
use Rattle.cbor_model.specs.Refusal.{Refusal, unassigned_code, unexpected_code}
use Rattle.cbor_model.specs.Reader.{Fault, before as reported_at, item_at}
use Rattle.cbor_model.specs.Wanted.{Opening, opening, IsWanted, at_first, inside}
use Rattle.cbor_model.specs.Wanted.{StandsInIndefiniteArray, StandsInIndefiniteMap}
use Rattle.cbor_model.specs.Allowed.{IsProperBeginning, IsUnassigned, IsNoChunk, chunks_begun}
use Rattle.cbor_model.proofs.reader.ReaderSteps.{not_ok}
use Rattle.cbor_model.proofs.reader.FirstBytes.{IsBegun}
use Rattle.cbor_model.proofs.order.Apart.{raw_items, item_again, same_beginning}
use Rattle.cbor_model.proofs.refusals.Wanted.{frame, GoesOn, beginning_wanted, on_wanted, on_item}
use Rattle.cbor_model.proofs.refusals.Completion.{nothing_begins, chunks_cut}
use Rattle.cbor_model.proofs.refusals.FaultMeaning.{StandsClosed}
use Rattle.cbor_model.proofs.refusals.InnerFaults.{LastComes, last_comes}
use Rattle.cbor_model.proofs.refusals.Passage.{Passage}
use Rattle.cbor_model.proofs.refusals.ReachedPlaces.{through}
use Rattle.cbor_model.proofs.refusals.WantedFaults.{unassigned_err, break_err, no_chunk_err}

-- ---- depth

mutual
  unfolding spell

  pub depth-le : (r : Raw) → depth r ≤ length (spell r)
  depth-le (raw.array (definite w) rs) = omega (arith, depth_all-le rs, length-append (head 4 w (count rs)) (spell_all rs))
  depth-le (raw.array indefinite rs) = omega (arith, depth_all-le rs, length-append (spell_all rs) break)
  depth-le (raw.map (definite w) ps) = omega (arith, depth_pairs-le ps, length-append (head 5 w (raw.pair_count ps)) (spell_pairs ps))
  depth-le (raw.map indefinite ps) = omega (arith, depth_pairs-le ps, length-append (spell_pairs ps) break)
  depth-le (raw.tag w n r) = omega (arith, depth-le r, length-append (head 6 w n) (spell r))
  depth-le _ = omega arith

  depth_all-le : (rs : Raws) → depth_all rs ≤ length (spell_all rs)
  depth_all-le no_raws = omega arith
  depth_all-le (raw.raw r rs) = omega (arith, depth-le r, depth_all-le rs, length-append (spell r) (spell_all rs))

  depth_pairs-le : (ps : RawPairs) → depth_pairs ps ≤ length (spell_pairs ps)
  depth_pairs-le no_raw_pairs = omega arith
  depth_pairs-le (raw_pair k v ps) = omega (arith, depth-le k, depth-le v, depth_pairs-le ps, length-append (spell k) (spell v ++ spell_pairs ps), length-append (spell v) (spell_pairs ps))

-- ---- fronts of lists

-- of two fronts of one list, the longer goes on from the shorter
pub record GoesPast (a b c d : List ℕ) : Type 0 where
  pub between : List ℕ
  pub longer : a ≡ c ++ between
  pub rest : d ≡ between ++ b

pub goes_past : (a b c d : List ℕ) → a ++ b ≡ c ++ d → length c ≤ length a → GoesPast a b c d
goes_past a b [] d same few = record { between = a; longer = refl; rest = sym same }
goes_past [] b (y ∷ c) d same few = absurd (omega arith)
goes_past (x ∷ a) b (y ∷ c) d same few =
    let head_is : x ≡ y = cc in
    let tail_is : a ++ b ≡ c ++ d = cc in
    let g = goes_past a b c d tail_is (omega (arith, few)) in
    record { between = g.between; longer = ap (λ (k : ℕ). k ∷ a) head_is ∙ ap (λ (t : List ℕ). y ∷ t) g.longer; rest = g.rest }

-- ---- the reader that lets all pass

-- the reader that lets all pass comes to each place
pub record Goes (k : ℕ) (p : List ℕ) (w : IsWanted k p) (L : ℕ) (bs : List ℕ) : Type 0 where
  pub left : ℕ
  pub refuses : (f : Fault) → LastComes w bs → item_at raw_items left bs ≡ Err f → item_at raw_items L (p ++ bs) ≡ Err f

some : (o : Opening) → 0 < length (opening o)
some (Opening.array_head w n) = omega arith
some (Opening.map_head w n) = omega arith
some (Opening.tag_head w n) = omega arith
some Opening.indefinite_array = omega arith
some Opening.indefinite_map = omega arith

raw_passage : Passage raw_items (λ l bs. length bs ≤ l) (λ l bs f n. ⊥)
raw_passage = record {
  every = λ b. refl;
  rest_cond = λ l a b few. omega (arith, few, length-append a b);
  inner_cond = λ l o b few. omega (arith, few, some o, length-append (opening o) b);
  bad_behind = λ l o items is_frame bs f n bad. bad;
  bad_more = λ l bs f n k few bad. bad;
  passes = λ l r rest fits few. inl (r, item_again r l rest fits (omega (arith, few, depth-le r, length-append (spell r) rest)));
  deep = λ o bs opens few. absurd (no_room o bs few);
}
  where
    no_room : (o : Opening) (bs : List ℕ) → length (opening o ++ bs) ≤ 0 → ⊥
    no_room o bs few = omega (arith, few, some o, length-append (opening o) bs)

pub raw_goes : (k : ℕ) (p : List ℕ) (w : IsWanted k p) (L : ℕ) (bs : List ℕ) → length (p ++ bs) ≤ L → Goes k p w L bs
raw_goes k p w L bs enough =
    elim (through raw_passage k p w L bs enough) [
      | inl fails ↦ absurd fails.bad
      | inr goes ↦ record { left = goes.left; refuses = λ f comes is. goes.refuses f comes is }
    ]

raw_through : (k : ℕ) (p : List ℕ) (w : IsWanted k p) (L : ℕ) (bs : List ℕ) (f : Fault) → length (p ++ bs) ≤ L → LastComes w bs → ((l : ℕ) → item_at raw_items l bs ≡ Err f)
    → item_at raw_items L (p ++ bs) ≡ Err f
raw_through k p w L bs f enough comes each =
    let goes = raw_goes k p w L bs enough in
    goes.refuses f comes (each goes.left)

-- ---- fronts that no spelling has

-- bytes after which the reader refuses the last of them, whatever follows
pub record IsHard (why : Refusal) (u : List ℕ) : Type 0 where
  pub levels : ℕ
  pub before : List ℕ
  pub here : List ℕ
  pub byte : ℕ
  pub wanted : IsWanted levels before
  pub begins : IsProperBeginning (before ++ here)
  pub comes : (bs : List ℕ) → LastComes wanted (here ++ (byte ∷ bs))
  pub refuses : (l : ℕ) (bs : List ℕ) → item_at raw_items l (here ++ (byte ∷ bs)) ≡ Err (reported_at why bs)
  pub parts : u ≡ before ++ (here ++ (byte ∷ []))

hard-bytes : (before here : List ℕ) (byte : ℕ) (bs : List ℕ) → (before ++ (here ++ (byte ∷ []))) ++ bs ≡ before ++ (here ++ (byte ∷ bs))
hard-bytes before here byte bs = simp append_assoc

pub hard_raw : (why : Refusal) (u : List ℕ) → IsHard why u → (L : ℕ) (bs : List ℕ) → length (u ++ bs) ≤ L → item_at raw_items L (u ++ bs) ≡ Err (reported_at why bs)
hard_raw why u h L bs enough =
    let same : u ++ bs ≡ h.before ++ (h.here ++ (h.byte ∷ bs)) = ap (λ (t : List ℕ). t ++ bs) h.parts ∙ hard-bytes h.before h.here h.byte bs in
    ap (item_at raw_items L) same
    ∙ raw_through h.levels h.before h.wanted L (h.here ++ (h.byte ∷ bs)) (reported_at why bs) (omega (arith, enough, ap length same)) (h.comes bs) (λ l. h.refuses l bs)

nothing_more : (r s : Raw) (more : List ℕ) → IsWellFormed r → IsWellFormed s → spell s ≡ spell r ++ more → more ≡ []
nothing_more r s more fits fits' same = sym (same_beginning s r [] more fits' fits (append-nil (spell s) ∙ same)).1

front_empty : (a c : List ℕ) → a ++ c ≡ [] → (a ≡ []) × (c ≡ [])
front_empty [] c e = (refl, e)
front_empty (x ∷ a) c e = absurd cc

-- a proper beginning goes on to no whole spelling within it
pub proper_out : (u bs : List ℕ) (r : Raw) (rest : List ℕ) → IsProperBeginning u → IsWellFormed r → u ++ bs ≡ spell r ++ rest → length (spell r) ≤ length u → ⊥
proper_out u bs r rest b fits same few =
    let past = goes_past u bs (spell r) rest same few in
    let s = b.begins.item in
    let is : spell s ≡ spell r ++ (past.between ++ b.begins.more) = b.begins.whole ∙ ap (λ (t : List ℕ). t ++ b.begins.more) past.longer ∙ append_assoc (spell r) past.between b.begins.more in
    b.more (front_empty past.between b.begins.more (nothing_more r s (past.between ++ b.begins.more) fits b.begins.fits is)).1

-- a beginning lies within a whole spelling
pub on_fits : (u bs : List ℕ) (r : Raw) (rest : List ℕ) → GoesOn u → IsWellFormed r → u ++ bs ≡ spell r ++ rest → length u ≤ length (spell r)
on_fits u bs r rest on fits same =
    elim (cases_lt (length (spell r)) (length u)) [
      | inr le ↦ le
      | inl lt ↦
          let past = goes_past u bs (spell r) rest same (omega (arith, lt)) in
          let s = on.item in
          let is : spell s ≡ spell r ++ (past.between ++ on.more) = on.spelled ∙ ap (λ (t : List ℕ). t ++ on.more) past.longer ∙ append_assoc (spell r) past.between on.more in
          let none = (front_empty past.between on.more (nothing_more r s (past.between ++ on.more) fits on.fits is)).0 in
          omega (arith, ap length past.longer, length-append (spell r) past.between, ap length none)
    ]

-- and no spelling has such a front
pub hard_out : (why : Refusal) (u bs : List ℕ) (r : Raw) (rest : List ℕ) → IsHard why u → IsWellFormed r → u ++ bs ≡ spell r ++ rest → ⊥
hard_out why u bs r rest h fits same =
    elim (cases_lt (length (h.before ++ h.here)) (length (spell r))) [
      | inl lt ↦ inside_it (goes_past (spell r) rest u bs (sym same) (omega (arith, lt, ap length h.parts, length-append h.before (h.here ++ (h.byte ∷ [])), length-append h.here (h.byte ∷ []), length-append h.before h.here)))
      | inr le ↦ proper_out (h.before ++ h.here) (h.byte ∷ bs) r rest h.begins fits (sym whole ∙ same) le
    ]
  where
    whole : u ++ bs ≡ (h.before ++ h.here) ++ (h.byte ∷ bs)
    whole = ap (λ (t : List ℕ). t ++ bs) h.parts ∙ hard-bytes h.before h.here h.byte bs ∙ sym (append_assoc h.before h.here (h.byte ∷ bs))

    inside_it : GoesPast (spell r) rest u bs → ⊥
    inside_it past =
        let L = length (spell r) in
        let reads = item_again r L [] fits (depth-le r) in
        let fails = hard_raw why u h L past.between (omega (arith, ap length past.longer)) in
        not_ok (reported_at why past.between) (r, []) (sym fails ∙ ap (item_at raw_items L) (sym past.longer ∙ sym (append-nil (spell r))) ∙ reads)

-- ---- which bytes are so

not_255 : (b : ℕ) → IsUnassigned b → b ≡ 0xff → ⊥
not_255 b (inl i) is = omega (arith, i)
not_255 b (inr (inl i)) is = omega (arith, i)
not_255 b (inr (inr (inl i))) is = omega (arith, i)
not_255 b (inr (inr (inr (inl i)))) is = omega (arith, i)
not_255 b (inr (inr (inr (inr (inl i))))) is = omega (arith, i)
not_255 b (inr (inr (inr (inr (inr (inl i)))))) is = omega (arith, i)
not_255 b (inr (inr (inr (inr (inr (inr (inl i))))))) is = omega (arith, i)
not_255 b (inr (inr (inr (inr (inr (inr (inr (inl i)))))))) is = omega (arith, i)
not_255 b (inr (inr (inr (inr (inr (inr (inr (inr (inl i))))))))) is = omega (arith, i)
not_255 b (inr (inr (inr (inr (inr (inr (inr (inr (inr i))))))))) is = omega (arith, i)

pub unassigned_begun : (b : ℕ) (bs : List ℕ) → IsUnassigned b → IsBegun (b ∷ bs)
unassigned_begun b bs is = record { first = b; others = bs; is = refl; no_break = ne_eqb b 0xff (not_255 b is) }

wanted_begins : (k : ℕ) (p : List ℕ) → IsWanted k p → IsProperBeginning p
wanted_begins k p w = subst IsProperBeginning (append-nil p) (beginning_wanted k p [] w nothing_begins)

pub unassigned_hard : (k : ℕ) (p : List ℕ) (b : ℕ) → IsWanted k p → IsUnassigned b → IsHard unassigned_code (p ++ (b ∷ []))
unassigned_hard k p b w is = record {
  levels = k;
  before = p;
  here = [];
  byte = b;
  wanted = w;
  begins = beginning_wanted k p [] w nothing_begins;
  comes = λ bs. last_comes w (b ∷ bs) (unassigned_begun b bs is);
  refuses = λ l bs. unassigned_err raw_items l b bs is;
  parts = refl;
}

pub chunks_begun-begun : (major : ℕ) (cs : List raw.Chunk) (bs : List ℕ) → Rattle.cbor_model.specs.Allowed.IsOfStrings major → IsBegun (chunks_begun major cs ++ bs)
chunks_begun-begun major cs bs of_strings = record {
  first = 32 * major + 31;
  others = flat_map (chunk major) cs ++ bs;
  is = refl;
  no_break = ne_eqb (32 * major + 31) 0xff (no_ff of_strings);
}
  where
    no_ff : Rattle.cbor_model.specs.Allowed.IsOfStrings major → 32 * major + 31 ≡ 0xff → ⊥
    no_ff (inl two) is = omega arith
    no_ff (inr three) is = omega arith

pub no_chunk_hard : (bytes : List ℕ) (j : ℕ) → (r : IsNoChunk bytes j) → IsHard unexpected_code (r.before ++ (chunks_begun r.major r.chunks ++ (r.byte ∷ [])))
no_chunk_hard bytes j r = record {
  levels = r.levels;
  before = r.before;
  here = chunks_begun r.major r.chunks;
  byte = r.byte;
  wanted = r.wanted;
  begins = subst (λ (t : List ℕ). IsProperBeginning (r.before ++ t)) (append-nil (chunks_begun r.major r.chunks)) (beginning_wanted r.levels r.before (chunks_begun r.major r.chunks ++ []) r.wanted (chunks_cut r.major r.chunks r.of_strings r.fits));
  comes = λ bs. last_comes r.wanted (chunks_begun r.major r.chunks ++ (r.byte ∷ bs)) (chunks_begun-begun r.major r.chunks (r.byte ∷ bs) r.of_strings);
  refuses = λ l bs. elim (no_chunk_err raw_items l r.major r.chunks r.byte bs r.of_strings r.fits r.no_break r.no_chunk) [
    | inl fails ↦ absurd (never fails.over.1)
    | inr is ↦ is
  ];
  parts = refl;
}
  where
    never : false ≡ true → ⊥
    never e = cc

pub break_hard : (p : List ℕ) → (p ≡ []) ⊎ StandsClosed p → IsHard unexpected_code (p ++ (0xff ∷ []))
break_hard p (inl none) = record {
  levels = 0;
  before = [];
  here = [];
  byte = 0xff;
  wanted = at_first;
  begins = nothing_begins;
  comes = λ bs. tt;
  refuses = λ l bs. break_err raw_items l bs;
  parts = ap (λ (t : List ℕ). t ++ (0xff ∷ [])) none;
}
break_hard p (inr s) = record {
  levels = suc s.levels;
  before = s.before ++ frame s.opens s.items;
  here = [];
  byte = 0xff;
  wanted = inside s.levels s.before s.opens s.items s.wanted s.is_frame.opens s.is_frame.fits s.is_frame.place;
  begins = beginning_wanted (suc s.levels) (s.before ++ frame s.opens s.items) [] (inside s.levels s.before s.opens s.items s.wanted s.is_frame.opens s.is_frame.fits s.is_frame.place) nothing_begins;
  comes = λ bs. inl s.closed;
  refuses = λ l bs. break_err raw_items l bs;
  parts = ap (λ (t : List ℕ). t ++ (0xff ∷ [])) s.parts;
}

-- where an array or a map is open, a break is none of these
pub no_open_array : (p : List ℕ) → IsHard unexpected_code (p ++ (0xff ∷ [])) → StandsInIndefiniteArray p → ⊥
unfolding spell
no_open_array p h s =
    let on = on_wanted s.levels s.before (spell (raw.array indefinite s.items)) s.wanted (on_item (raw.array indefinite s.items) (tt, s.fits)) in
    let same : p ++ (0xff ∷ []) ≡ s.before ++ spell (raw.array indefinite s.items) = ap (λ (t : List ℕ). t ++ (0xff ∷ [])) s.parts ∙ append_assoc s.before (0x9f ∷ spell_all s.items) (0xff ∷ []) in
    hard_out unexpected_code (p ++ (0xff ∷ [])) on.more on.item [] h on.fits (ap (λ (t : List ℕ). t ++ on.more) same ∙ sym on.spelled ∙ sym (append-nil (spell on.item)))

pub no_open_map : (p : List ℕ) → IsHard unexpected_code (p ++ (0xff ∷ [])) → StandsInIndefiniteMap p → ⊥
unfolding spell
no_open_map p h s =
    let on = on_wanted s.levels s.before (spell (raw.map indefinite s.pairs)) s.wanted (on_item (raw.map indefinite s.pairs) (tt, s.fits)) in
    let same : p ++ (0xff ∷ []) ≡ s.before ++ spell (raw.map indefinite s.pairs) = ap (λ (t : List ℕ). t ++ (0xff ∷ [])) s.parts ∙ append_assoc s.before (0xbf ∷ spell_pairs s.pairs) (0xff ∷ []) in
    hard_out unexpected_code (p ++ (0xff ∷ [])) on.more on.item [] h on.fits (ap (λ (t : List ℕ). t ++ on.more) same ∙ sym on.spelled ∙ sym (append-nil (spell on.item)))
