-- What a step that reads gives: an item, items, pairs, chunks, and the parts of an array or a map.
use Rattle.std.proofs.Common.{◌≡◌, ℕ, zero, suc, ◌+◌, ◌*◌, ◌/◌, ◌%◌, ◌<◌, ◌≤◌, Bool, true, false}
use Rattle.std.proofs.Common.{cond, eqb, ltb, ◌&&◌, List, [], ◌∷◌, ◌++◌, length, Option, Some, None}
use Rattle.std.proofs.Common.{Ok, refl, sym, ap, subst, ◌∙◌, append_assoc, arith, inl, inr, Err}
use Rattle.std.specs.Prelude.{flat_map, max}
use Rattle.std.specs.List.{AllByRecursion}
use Rattle.std.proofs.lemmas.Bool.{eqb-true, cases_lt}
use Rattle.std.proofs.lemmas.List.{length-append}
use Rattle.cbor_model.specs.Head.{HeadWidth, limit, info, head, behind}
use Rattle.cbor_model.specs.Raw.{Raw, Raws, RawPairs}
use Rattle.cbor_model.specs.Raw.{Chunk, joined}
use Rattle.cbor_model.specs.Raw.{count, pair_count, depth, depth_all}
use Rattle.cbor_model.specs.Raw.{depth_pairs, AreBytes, IsChunk, IsWellFormed, AreWellFormed}
use Rattle.cbor_model.specs.Raw.{ArePairsWellFormed, EachText, EachTextOfAll, EachTextOfPairs}
use Rattle.cbor_model.specs.Raw.{EachKey, EachKeyOfAll, EachKeyOfPairs}
use Rattle.cbor_model.specs.Raw.{longest_joined, longest_joined_all, longest_joined_pairs}
use Rattle.cbor_model.specs.Spelling.{spell, spell_all, spell_pairs, chunk}
use Rattle.cbor_model.specs.Spelling.{break}
use Rattle.cbor_model.specs.Refusal.{unexpected_code}
use Rattle.cbor_model.specs.Refusal.{scratch_too_small}
use Rattle.cbor_model.specs.Reader.{Reads, ◌>>=◌, Reading, ended, before, byte_at, bytes_at}
use Rattle.cbor_model.specs.Reader.{width_of, number_behind}
use Rattle.cbor_model.specs.Reader.{begins_chunk}
use Rattle.cbor_model.specs.Reader.{content_of_chunk, chunk_at, chunks_by}
use Rattle.cbor_model.specs.Reader.{Remaining, counted, to_break}
use Rattle.cbor_model.specs.Reader.{next_at, Parts, go_on, parts_by}
use Rattle.cbor_model.proofs.reader.MadeItems.{made, made_all, made_pairs}
use Rattle.cbor_model.proofs.reader.ReaderSteps.{AreBytes-rest, bind_ok, chosen, ok_is, read_as}
use Rattle.cbor_model.proofs.reader.ReaderSteps.{not_ok, bytes_found}
use Rattle.cbor_model.proofs.reader.ReaderSteps.{number_behind_found, first_is}
use Rattle.cbor_model.proofs.reader.ReaderSteps.{BeginsWith}

-- the reading lets the text pass
abbrev pub Passes : {Item Items Pairs : Type 0} → Reading Item Items Pairs → List ℕ → Type 0
Passes m b = m.is_text b ≡ true

-- the reading lets the key pass, by its first byte
abbrev pub MayBeKey : {Item Items Pairs : Type 0} → Reading Item Items Pairs → Raw → Type 0
MayBeKey m k = BeginsWith m.allows (spell k)

-- what is read of bs at that depth at the most
pub record IsItem {Item Items Pairs : Type 0} (m : Reading Item Items Pairs) (levels : ℕ) (bs : List ℕ) (x : Item × List ℕ) : Type 0 where
  pub item : Raw
  pub made_is : made m item ≡ x.0
  pub parts : bs ≡ spell item ++ x.1
  pub fits : IsWellFormed item
  pub nests : depth item ≤ levels
  pub texts : EachText (Passes m) item
  pub keys : EachKey (MayBeKey m) item
  pub joins : m.exceeds (longest_joined item) ≡ false
  pub rest_fits : AreBytes x.1

pub record AreItems {Item Items Pairs : Type 0} (m : Reading Item Items Pairs) (levels n : ℕ) (bs : List ℕ) (x : Items × List ℕ) : Type 0 where
  pub items : Raws
  pub made_is : made_all m items ≡ x.0
  pub parts : bs ≡ spell_all items ++ x.1
  pub count_is : count items ≡ n
  pub fits : AreWellFormed items
  pub nests : depth_all items ≤ levels
  pub texts : EachTextOfAll (Passes m) items
  pub keys : EachKeyOfAll (MayBeKey m) items
  pub joins : m.exceeds (longest_joined_all items) ≡ false
  pub rest_fits : AreBytes x.1

pub record ArePairs {Item Items Pairs : Type 0} (m : Reading Item Items Pairs) (levels n : ℕ) (bs : List ℕ) (x : Pairs × List ℕ) : Type 0 where
  pub pairs : RawPairs
  pub made_is : made_pairs m pairs ≡ x.0
  pub parts : bs ≡ spell_pairs pairs ++ x.1
  pub count_is : pair_count pairs ≡ n
  pub fits : ArePairsWellFormed pairs
  pub nests : depth_pairs pairs ≤ levels
  pub texts : EachTextOfPairs (Passes m) pairs
  pub keys : EachKeyOfPairs (MayBeKey m) pairs
  pub joins : m.exceeds (longest_joined_pairs pairs) ≡ false
  pub rest_fits : AreBytes x.1

-- a key and a value
pub record IsPair {Item Items Pairs : Type 0} (m : Reading Item Items Pairs) (levels : ℕ) (bs : List ℕ) (x : (Item × Item) × List ℕ) : Type 0 where
  pub at_value : List ℕ
  pub key : IsItem m levels bs (x.0.0, at_value)
  pub allowed : MayBeKey m key.item
  pub value : IsItem m levels at_value (x.0.1, x.1)

-- So many parts, or parts up to the break, which is taken too.
abbrev pub Ended : {Whole : Type 0} → (ℕ → List ℕ → Whole × List ℕ → Type 0) → Remaining → List ℕ
    → Whole × List ℕ → Type 0
Ended Are (counted n) bs x = Are n bs x
Ended Are to_break bs x = (n : ℕ) × Are n bs (x.0, 0xff ∷ x.1)

-- what remains before a part, where this remains after it
abbrev pub before_next : Remaining → Remaining
before_next (counted n) = counted (suc n)
before_next to_break = to_break

-- a chunk with the first byte b
pub record IsChunkOf (exceeds : ℕ → Bool) (major b : ℕ) (bs : List ℕ) (x : Chunk × List ℕ) : Type 0 where
  pub parts : (b ∷ bs) ≡ chunk major x.0 ++ x.1
  pub fits : IsChunk x.0
  pub joins : exceeds (length x.0.bytes) ≡ false
  pub rest_fits : AreBytes x.1

-- chunks up to the break, which is taken too, after so many bytes of chunks
pub record AreChunks (exceeds : ℕ → Bool) (have major : ℕ) (bs : List ℕ) (x : List Chunk × List ℕ) : Type 0 where
  pub parts : bs ≡ flat_map (chunk major) x.0 ++ (0xff ∷ x.1)
  pub fits : AllByRecursion IsChunk x.0
  pub joins : exceeds (have + length (joined x.0)) ≡ false
  pub rest_fits : AreBytes x.1

abbrev pub Finds : {Item Items Pairs : Type 0} → Reading Item Items Pairs → (List ℕ → Reads Item)
    → ℕ → Type 0
Finds {Item = Item} m p levels = (bs : List ℕ) (x : Item × List ℕ) → AreBytes bs → p bs ≡ Ok x → IsItem m levels bs x

-- a reader of what lies one level further in
abbrev pub FindsInside : {Item Items Pairs : Type 0} → Reading Item Items Pairs
    → Option (List ℕ → Reads Item) → ℕ → Type 0
FindsInside m None levels = Unit {0}
FindsInside m (Some p) levels = (inside : ℕ) × (suc inside ≤ levels) × Finds m p inside

-- two parts, one after the other
pub two_parts : (bs a more b rest : List ℕ) → bs ≡ a ++ more → more ≡ b ++ rest → bs ≡ (a ++ b) ++ rest
two_parts bs a more b rest first second = first ∙ ap (λ (t : List ℕ). a ++ t) second ∙ sym (append_assoc a b rest)

-- a head and what stands after it, which is that long
pub behind_head : (major : ℕ) (w : HeadWidth) (n k : ℕ) (bs b rest : List ℕ) → bs ≡ b ++ rest → k ≡ n
    → head major w n ++ bs ≡ (head major w k ++ b) ++ rest
behind_head major w n k bs b rest parts long =
    two_parts (head major w n ++ bs) (head major w k) bs b rest (ap (λ (n : ℕ). head major w n ++ bs) (sym long)) parts

-- a first byte, and parts up to the break
pub behind_first : (first : ℕ) (bs parts rest : List ℕ) → bs ≡ parts ++ (0xff ∷ rest)
    → (first ∷ bs) ≡ (first ∷ (parts ++ break)) ++ rest
behind_first first bs parts rest is = ap (λ (t : List ℕ). first ∷ t) (is ∙ sym (append_assoc parts break rest))

-- the longer of two is joined where both are
pub both_join : (exceeds : ℕ → Bool) (a b : ℕ) → exceeds a ≡ false → exceeds b ≡ false
    → exceeds (max a b) ≡ false
both_join exceeds a b one other =
    elim (cases_lt a b) [
      | inl lt ↦
          let is : max a b ≡ b = omega (arith, lt) in
          ap exceeds is ∙ other
      | inr le ↦
          let is : max a b ≡ a = omega (arith, le) in
          ap exceeds is ∙ one
    ]

-- ---- chunks

pub both_hold : (a b : Bool) → (a && b) ≡ true → (a ≡ true) × (b ≡ true)
both_hold true b e = (refl, e)
both_hold false b e = absurd cc

-- the head of this major type, and what stands after its first byte
pub whole_head : (major low n : ℕ) (w : HeadWidth) (bs rest : List ℕ) → low ≡ info w n
    → bs ≡ behind w n ++ rest → ((32 * major + low) ∷ bs) ≡ head major w n ++ rest
whole_head major low n w bs rest low_is parts =
    ap (λ (i : ℕ). (32 * major + i) ∷ bs) low_is ∙ ap (λ (t : List ℕ). (32 * major + info w n) ∷ t) parts

pub chunk_found : (exceeds : ℕ → Bool) (major b : ℕ) (bs : List ℕ) (x : Chunk × List ℕ) → AreBytes bs
    → chunk_at exceeds major b bs ≡ Ok x → IsChunkOf exceeds major b bs x
unfolding chunk_at content_of_chunk
chunk_found exceeds major b bs x fits is =
    elim (chosen (begins_chunk major b) _ _ _ is) [
      | inr other ↦ not_ok (before unexpected_code bs) x other.1
      | inl this ↦
          let w = width_of (b % 32) in
          let is_major : b / 32 ≡ major = eqb-true _ _ (both_hold (eqb (b / 32) major) (ltb (b % 32) 28) this.0).0 in
          let first : b ≡ 32 * major + b % 32 = omega (arith, first_is b, is_major) in
          let step = bind_ok (number_behind (b % 32) bs) (λ n. content_of_chunk exceeds w n.0 n.1) x this.1 in
          let n = step.0.0 in
          let got = number_behind_found (b % 32) bs step.0 fits step.1 in
          let step' = bind_ok (bytes_at n step.0.1) (λ c. cond (exceeds n) (Err (before scratch_too_small step.0.1)) (Ok (record { width = w; bytes = c.0 }, c.1))) x step.2 in
          let c = step'.0 in
          let got' = bytes_found n step.0.1 c got.rest_fits step'.1 in
          let long : length c.0 ≡ n = got'.long in
          let small : n < limit w = got.fits in
          elim (chosen (exceeds n) _ _ _ step'.2) [
            | inl more ↦ not_ok (before scratch_too_small step.0.1) x more.1
            | inr holds ↦ read_as (IsChunkOf exceeds major b bs) (record { width = w; bytes = c.0 }, c.1) x holds.1 (record {
              parts = ap (λ (c : ℕ). c ∷ bs) first ∙ whole_head major (b % 32) n w bs step.0.1 got.is_low got.parts ∙ behind_head major w n (length c.0) step.0.1 c.0 c.1 got'.parts long;
              fits = (omega (arith, long, small), got'.fits);
              joins = ap exceeds long ∙ holds.0;
              rest_fits = got'.rest_fits;
            })
          ]
    ]

pub chunks_found : (exceeds : ℕ → Bool) (have major fuel : ℕ) (bs : List ℕ) (x : List Chunk × List ℕ)
    → exceeds have ≡ false → AreBytes bs → chunks_by exceeds have major fuel bs ≡ Ok x
    → AreChunks exceeds have major bs x
unfolding chunks_by byte_at
chunks_found exceeds have major zero bs x before_fits fits is = not_ok ended x is
chunks_found exceeds have major (suc fuel) [] x before_fits fits is = not_ok ended x is
chunks_found exceeds have major (suc fuel) (b ∷ bs) x before_fits fits is =
    let rest_fits = AreBytes-rest b bs fits in
    elim (chosen (eqb b 0xff) _ _ _ is) [
      | inl last ↦
          let none : have + 0 ≡ have = omega arith in
          read_as (AreChunks exceeds have major (b ∷ bs)) ([], bs) x last.1 (record {
            parts = ap (λ (c : ℕ). c ∷ bs) (eqb-true _ _ last.0);
            fits = tt;
            joins = ap exceeds none ∙ before_fits;
            rest_fits = rest_fits;
          })
      | inr other ↦
          let step = bind_ok (chunk_at (λ n. exceeds (have + n)) major b bs) (λ c. chunks_by exceeds (have + length c.0.bytes) major fuel c.1 >>= (λ cs. Ok (c.0 ∷ cs.0, cs.1))) x other.1 in
          let c = step.0 in
          let got = chunk_found (λ n. exceeds (have + n)) major b bs c rest_fits step.1 in
          let step' = bind_ok (chunks_by exceeds (have + length c.0.bytes) major fuel c.1) (λ cs. Ok (c.0 ∷ cs.0, cs.1)) x step.2 in
          let cs = step'.0 in
          let got' =
          chunks_found exceeds (have + length c.0.bytes) major fuel c.1 cs got.joins
          got.rest_fits step'.1 in
          let n = have + length c.0.bytes in
          let long : have + length (joined (c.0 ∷ cs.0)) ≡ n + length (joined cs.0) =
          omega (arith, length-append c.0.bytes (joined cs.0)) in
          read_as (AreChunks exceeds have major (b ∷ bs)) (c.0 ∷ cs.0, cs.1) x step'.2 (record {
            parts = two_parts (b ∷ bs) (chunk major c.0) c.1 (flat_map (chunk major) cs.0) (0xff ∷ cs.1) got.parts got'.parts;
            fits = (got.fits, got'.fits);
            joins = ap exceeds long ∙ got'.joins;
            rest_fits = got'.rest_fits;
          })
    ]

-- ---- the parts of an array or a map

module _ {Part Whole : Type 0} (ps : Parts Part Whole) (Is : List ℕ → Part × List ℕ → Type 0) (Are : ℕ → List ℕ → Whole × List ℕ → Type 0)
    (fit : (bs : List ℕ) (x : Part × List ℕ) → Is bs x → AreBytes x.1)
    (found : (bs : List ℕ) (x : Part × List ℕ) → AreBytes bs → ps.part bs ≡ Ok x → Is bs x)
    (nothing : (bs : List ℕ) → AreBytes bs → Are 0 bs (ps.none, bs))
    (added : (n : ℕ) (bs more rest : List ℕ) (first : Part) (others : Whole) → Is bs (first, more) → Are n more (others, rest) → Are (suc n) bs (ps.add first others, rest))
  where
    -- one part, and those after it
    one_found : (fuel : ℕ) (remaining : Remaining) (bs : List ℕ) (x : Whole × List ℕ) → AreBytes bs
        → ((more : List ℕ) (y : Whole × List ℕ) → AreBytes more → parts_by ps fuel remaining more ≡ Ok y → Ended Are remaining more y)
        → go_on ps (parts_by ps fuel) (Some remaining) bs ≡ Ok x → Ended Are (before_next remaining) bs x
    one_found fuel remaining bs x fits others is =
        let a = bind_ok (ps.part bs) (λ first. parts_by ps fuel remaining first.1 >>= λ rest. Ok (ps.add first.0 rest.0, rest.1)) x is in
        let b = bind_ok (parts_by ps fuel remaining a.0.1) (λ rest. Ok (ps.add a.0.0 rest.0, rest.1)) x a.2 in
        let one = found bs a.0 fits a.1 in
        read_as (Ended Are (before_next remaining) bs) (ps.add a.0.0 b.0.0, b.0.1) x b.2 (behind_one remaining a.0.1 b.0 bs a.0.0 one (others a.0.1 b.0 (fit bs a.0 one) b.1))
      where
        behind_one : (remaining : Remaining) (more : List ℕ) (y : Whole × List ℕ) (bs : List ℕ) (first : Part)
            → Is bs (first, more) → Ended Are remaining more y
            → Ended Are (before_next remaining) bs (ps.add first y.0, y.1)
        behind_one (counted n) more y bs first one all = added n bs more y.1 first y.0 one all
        behind_one to_break more y bs first one all = (suc all.0, added all.0 bs more (0xff ∷ y.1) first y.0 one all.1)

    pub parts_found : (fuel : ℕ) (remaining : Remaining) (bs : List ℕ) (x : Whole × List ℕ)
        → AreBytes bs → parts_by ps fuel remaining bs ≡ Ok x → Ended Are remaining bs x
    unfolding parts_by next_at
    parts_found zero remaining bs x fits is = not_ok ended x is
    parts_found (suc fuel) (counted zero) bs x fits is = read_as (Are 0 bs) (ps.none, bs) x is (nothing bs fits)
    parts_found (suc fuel) (counted (suc n)) bs x fits is = one_found fuel (counted n) bs x fits (parts_found fuel (counted n)) is
    parts_found (suc fuel) to_break [] x fits is = not_ok _ x is
    parts_found (suc fuel) to_break (b ∷ bs) x fits is =
        let step = bind_ok (cond (eqb b 0xff) (Ok (None, bs)) (Ok (Some to_break, b ∷ bs))) (λ next. go_on ps (parts_by ps fuel) next.0 next.1) x is in
        elim (chosen (eqb b 0xff) _ _ _ step.1) [
          | inl last ↦
              let same = ok_is (None, bs) step.0 last.1 in
              read_as (Ended Are to_break (b ∷ bs)) (ps.none, bs) x (ap (λ (n : Option Remaining × List ℕ). go_on ps (parts_by ps fuel) n.0 n.1) same ∙ step.2)
              (0, subst (λ (c : ℕ). Are 0 (c ∷ bs) (ps.none, 0xff ∷ bs)) (sym (eqb-true _ _ last.0)) (nothing (0xff ∷ bs) (subst (λ (c : ℕ). AreBytes (c ∷ bs)) (eqb-true _ _ last.0) fits)))
          | inr other ↦
              let same = ok_is (Some to_break, b ∷ bs) step.0 other.1 in
              one_found fuel to_break (b ∷ bs) x fits (parts_found fuel to_break) (ap (λ (n : Option Remaining × List ℕ). go_on ps (parts_by ps fuel) n.0 n.1) same ∙ step.2)
        ]
