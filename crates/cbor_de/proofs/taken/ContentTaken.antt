-- The content of a variant that was taken is spelled so, and content that is spelled so is taken.
use Rattle.std.proofs.Common.{◌≡◌, ◌⊎◌, inl, inr, ℕ, zero, suc, ◌<◌, ◌≤◌, ◌^◌, Bool, List, [], ◌∷◌, length, Option, Some, None, Result, Ok, Err, refl, sym, ap, subst, ◌∙◌, arith}
use Rattle.std.specs.Prelude.{MatchResult}
use Rattle.cbor_model.specs.Acceptable.{FitsScratch}
use Rattle.cbor_model.specs.Formats.{Formats}
use Rattle.cbor_model.specs.Raw as raw
use Rattle.cbor_model.specs.Raw.{Raw, Raws, no_raws, AreBytes, longest_joined}
use Rattle.cbor_model.specs.Readable.{IsUnit, PassesTags}
use Rattle.cbor_model.specs.Refusal.{end_in_array}
use Rattle.cbor_model.specs.Reader as reader
use Rattle.cbor_model.specs.Reader.{Reads, ◌>>=◌, Parts, go_on, item_at, items_of, next_at, parts_by}
use Rattle.cbor_model.proofs.facts.Reader.{bind_ok, ok_is, taken}
use Rattle.cbor_io.specs.Error.{code_of, offset_of}
use Rattle.cbor_io.specs.declared.error.Error.{Error}
use Rattle.cbor_io.specs.declared.read_error.ReadErrorCode.{ReadErrorCode}
use Rattle.cbor_read.specs.Source.{Input}
use Rattle.cbor_decode.specs.Gives.{Limits, ReportsIo, Reports, limits}
use Rattle.cbor_decode.specs.Heads.{remaining_of}
use Rattle.cbor_decode.specs.declared.cursor.Remaining.{Remaining}
use Rattle.cbor_decode.specs.declared.cursor.Remaining.TheVariants.{Counted, ToBreak}
use Rattle.cbor_decode_as.specs.Accesses.{TakesPart, items_at}
use Rattle.cbor_decode_as.specs.Arrays.{FirstThen, AreNone}
use Rattle.cbor_decode_as.specs.Enums.{Content, alone, one, parts, IsNothing, IsPart}
use Rattle.cbor_decode_as.specs.Takes.{ExcusedBy, raws}
use Rattle.cbor_decode_as.specs.Variants.{IsContent, TakesContent, content_at}
use Rattle.cbor_decode_as.specs.declared.variant.Form.{Form}
use Rattle.cbor_decode_as.specs.declared.variant.Form.TheVariants as form
use Rattle.cbor_de.specs.ContentTaken.{BeginsOnly, LacksOnly, TookOnly, UnitTaken}
use Rattle.cbor_de.specs.ItemTaken.{BeginsAsNone, TookItem}
use Rattle.cbor_de.specs.PartTaken.{Comes}
use Rattle.cbor_de.proofs.taken.PartTaken.{comes, comes_again, element_taken, ends, ends_again}
use Rattle.cbor_de.proofs.taken.Taken.{read_again}
use Rattle.cbor_de.proofs.taken.VariantTaken.{found, again}

-- ---- one item of an array, and its end

module _ (f : Formats) (l : Limits) (levels : ℕ) where
  abbrev item : List ℕ → Reads Raw
  item bs = item_at (raws f l) levels bs

  abbrev all : Parts Raw Raws
  all = items_of (raws f l) (item_at (raws f l) levels)

  abbrev others : ℕ → Option reader.Remaining × List ℕ → Reads Raws
  others fuel next = go_on all (parts_by all fuel) next.0 next.1

  abbrev put : Raw → Raws × List ℕ → Reads Raws
  put r rs = Ok (raw.raw r rs.0, rs.1)

  abbrev behind_first : ℕ → reader.Remaining → Raw × List ℕ → Reads Raws
  behind_first fuel remaining first = parts_by all fuel remaining first.1 >>= put first.0

  none_is_some : {B : Type 0} (r : Raw) (rs : Raws) → no_raws ≡ raw.raw r rs → B
  none_is_some r rs is = absurd cc

  first_same : (r q : Raw) (rs qs : Raws) → raw.raw r rs ≡ raw.raw q qs → r ≡ q
  first_same r q rs qs is = cc

  others_same : (r q : Raw) (rs qs : Raws) → raw.raw r rs ≡ raw.raw q qs → rs ≡ qs
  others_same r q rs qs is = cc

  abbrev items_same : (rs qs : Raws) (bs rest : List ℕ) → ◌≡◌ {A = Reads Raws} (Ok (rs, bs)) (Ok (qs, rest)) → (rs ≡ qs) × (bs ≡ rest)
  items_same rs qs bs rest is =
      let both = ok_is (rs, bs) (qs, rest) is in
      (ap (λ (p : Raws × List ℕ). p.0) both, ap (λ (p : Raws × List ℕ). p.1) both)

  -- no item that is read is the end
  none_left : (fuel : ℕ) (remaining : reader.Remaining) (bs rest : List ℕ) → parts_by all fuel remaining bs ≡ Ok (no_raws, rest) → next_at end_in_array remaining bs ≡ Ok (None, rest)
  unfolding parts_by
  none_left zero remaining bs rest is = absurd cc
  none_left (suc fuel) remaining bs rest is =
      let next = bind_ok (next_at end_in_array remaining bs) (others fuel) (no_raws, rest) is in
      by next.0 next.1 next.2
    where
      by : (o : Option reader.Remaining × List ℕ) → next_at end_in_array remaining bs ≡ Ok o → others fuel o ≡ Ok (no_raws, rest) → next_at end_in_array remaining bs ≡ Ok (None, rest)
      by (None, after) at is = at ∙ ap (λ (xs : List ℕ). Ok (None, xs)) (items_same no_raws no_raws after rest is).1
      by (Some behind, after) at is =
          let first = bind_ok (item after) (behind_first fuel behind) (no_raws, rest) is in
          let more = bind_ok (parts_by all fuel behind first.0.1) (put first.0.0) (no_raws, rest) first.2 in
          none_is_some first.0.0 more.0.0 (sym (items_same (raw.raw first.0.0 more.0.0) no_raws more.0.1 rest more.2).0)

  -- one item that is read comes, and then the end
  record Only (r : Raw) (remaining : reader.Remaining) (bs rest : List ℕ) : Type 0 where
    behind : reader.Remaining
    start : List ℕ
    mid : List ℕ
    next : next_at end_in_array remaining bs ≡ Ok (Some behind, start)
    first : item start ≡ Ok (r, mid)
    end : next_at end_in_array behind mid ≡ Ok (None, rest)

  only_read : (fuel : ℕ) (r : Raw) (remaining : reader.Remaining) (bs rest : List ℕ) → parts_by all fuel remaining bs ≡ Ok (raw.raw r no_raws, rest) → Only r remaining bs rest
  unfolding parts_by
  only_read zero r remaining bs rest is = absurd cc
  only_read (suc fuel) r remaining bs rest is =
      let next = bind_ok (next_at end_in_array remaining bs) (others fuel) (raw.raw r no_raws, rest) is in
      by next.0 next.1 next.2
    where
      by : (o : Option reader.Remaining × List ℕ) → next_at end_in_array remaining bs ≡ Ok o → others fuel o ≡ Ok (raw.raw r no_raws, rest) → Only r remaining bs rest
      by (None, after) at is = none_is_some r no_raws (items_same no_raws (raw.raw r no_raws) after rest is).0
      by (Some behind, after) at is =
          let first = bind_ok (item after) (behind_first fuel behind) (raw.raw r no_raws, rest) is in
          let more = bind_ok (parts_by all fuel behind first.0.1) (put first.0.0) (raw.raw r no_raws, rest) first.2 in
          let same = items_same (raw.raw first.0.0 more.0.0) (raw.raw r no_raws) more.0.1 rest more.2 in
          let none = others_same first.0.0 r more.0.0 no_raws same.0 in
          let last : parts_by all fuel behind first.0.1 ≡ Ok (no_raws, rest) = more.1 ∙ ap (λ (rs : Raws). Ok (rs, more.0.1)) none ∙ ap (λ (xs : List ℕ). Ok (no_raws, xs)) same.1 in
          record {
            behind = behind;
            start = after;
            mid = first.0.1;
            next = at;
            first = first.1 ∙ ap (λ (q : Raw). Ok (q, first.0.1)) (first_same first.0.0 r more.0.0 no_raws same.0);
            end = none_left fuel behind first.0.1 rest last;
          }

  none_again : (fuel : ℕ) (remaining : reader.Remaining) (bs rest : List ℕ) → next_at end_in_array remaining bs ≡ Ok (None, rest) → parts_by all (suc fuel) remaining bs ≡ Ok (no_raws, rest)
  unfolding parts_by
  none_again fuel remaining bs rest is = ap (λ (read : Reads (Option reader.Remaining)). read >>= others fuel) is

  only_again : (r : Raw) (remaining behind : reader.Remaining) (bs mid rest : List ℕ) → next_at end_in_array remaining bs ≡ Ok (Some behind, bs) → item bs ≡ Ok (r, mid) → next_at end_in_array behind mid ≡ Ok (None, rest)
      → items_at f l levels remaining bs ≡ Ok (raw.raw r no_raws, rest)
  unfolding parts_by
  only_again r remaining behind [] mid rest next first end = let few = taken (raws f l) levels [] (r, mid) first in absurd (omega (arith, few))
  only_again r remaining behind (b ∷ bs) mid rest next first end =
      ap (λ (read : Reads (Option reader.Remaining)). read >>= others (suc (length bs))) next
      ∙ ap (λ (read : Reads Raw). read >>= behind_first (suc (length bs)) behind) first
      ∙ ap (λ (read : Reads Raws). read >>= put r) (none_again (length bs) behind mid rest end)

-- what remains, as the cursor has it
remaining_is : (q : reader.Remaining) → (r : Remaining) × (q ≡ remaining_of r)
remaining_is (reader.counted n) = (Counted n, refl)
remaining_is reader.to_break = (ToBreak, refl)

-- ---- the content

-- of one item, or of an array of one, this is the meaning
record OfOne {A : Type 0} (reads : Raw → A → Type 0) (means : Content → A → Type 0) : Type 0 where
  of_one : (r : Raw) (x : A) → means (one r) x → reads r x
  to_one : (r : Raw) (x : A) → reads r x → means (one r) x
  of_parts : (rs : Raws) (x : A) → means (parts rs) x → FirstThen reads x AreNone rs
  to_parts : (r : Raw) (x : A) → reads r x → means (parts (raw.raw r no_raws)) x

module _ {A : Type 0} (f : Formats) (l : Limits) (reads : Raw → A → Type 0) (means : Content → A → Type 0) (same : OfOne reads means) (levels : ℕ) (bs : List ℕ) (x : A) (rest : List ℕ) where
  content_same : (c d : Content) (mid : List ℕ) → ◌≡◌ {A = Reads Content} (Ok (c, mid)) (Ok (d, rest)) → (c ≡ d) × (mid ≡ rest)
  content_same c d mid is =
      let both = ok_is (c, mid) (d, rest) is in
      (ap (λ (p : Content × List ℕ). p.0) both, ap (λ (p : Content × List ℕ). p.1) both)

  in_map : AreBytes bs → IsContent means (content_at f l levels form.Map bs) x rest → BeginsOnly f levels reads form.Map bs x rest
  in_map fits h =
      let got = bind_ok (item_at (raws f l) levels bs) (λ r. Ok (one r.0, r.1)) (h.content, rest) h.is in
      let both = content_same (one got.0.0) h.content got.0.1 got.2 in
      let meaning = same.of_one got.0.0 x (subst (λ (c : Content). means c x) (sym both.0) h.meaning) in
      record {
        behind = got.0.1;
        part = found f l reads levels bs x got.0.1 fits (record { item = got.0.0; is = got.1; means = meaning });
        whole = both.1;
      }

  in_array : (remaining : Remaining) → AreBytes bs → IsContent means (content_at f l levels (form.Array remaining) bs) x rest → BeginsOnly f levels reads (form.Array remaining) bs x rest
  in_array remaining fits h =
      let got = bind_ok (items_at f l levels (remaining_of remaining) bs) (λ rs. Ok (parts rs.0, rs.1)) (h.content, rest) h.is in
      let both = content_same (parts got.0.0) h.content got.0.1 got.2 in
      let meaning = same.of_parts got.0.0 x (subst (λ (c : Content). means c x) (sym both.0) h.meaning) in
      by got.0.0 (got.1 ∙ ap (λ (xs : List ℕ). Ok (got.0.0, xs)) both.1) meaning
    where
      by : (rs : Raws) → items_at f l levels (remaining_of remaining) bs ≡ Ok (rs, rest) → FirstThen reads x AreNone rs → BeginsOnly f levels reads (form.Array remaining) bs x rest
      by no_raws is m = absurd m
      by (raw.raw r (raw.raw q qs)) is m = absurd m.1
      by (raw.raw r no_raws) is m =
          let o = only_read f l levels (suc (length bs)) r (remaining_of remaining) bs rest is in
          let left = remaining_is o.behind in
          let next = comes end_in_array remaining left.0 bs o.start (o.next ∙ ap (λ (q : reader.Remaining). Ok (Some q, o.start)) left.1) in
          let first = subst (λ (xs : List ℕ). item_at (raws f l) levels xs ≡ Ok (r, o.mid)) (sym next.1) o.first in
          let end = subst (λ (q : reader.Remaining). next_at end_in_array q o.mid ≡ Ok (None, rest)) left.1 o.end in
          record {
            behind = o.mid;
            part = found f l reads levels bs x o.mid fits (record { item = r; is = first; means = m.0 });
            whole = (left.0, next.0, ends end_in_array left.0 o.mid rest end);
          }

  map_again : l.total < 2 ^ 64 → length bs ≤ l.total → (b : BeginsOnly f levels reads form.Map bs x rest) → FitsScratch l.room b.part.item
      → IsContent means (content_at f l levels form.Map bs) x rest
  map_again short within b room =
      let read = again f l reads levels bs x b.behind short within b.part room in
      record {
        content = one read.item;
        is = ap (λ (read : Reads Raw). read >>= (λ r. Ok (one r.0, r.1))) read.is ∙ ap (λ (xs : List ℕ). Ok (one read.item, xs)) b.whole;
        meaning = same.to_one read.item x read.means;
      }

  array_again : (remaining : Remaining) → l.total < 2 ^ 64 → length bs ≤ l.total → (b : BeginsOnly f levels reads (form.Array remaining) bs x rest) → FitsScratch l.room b.part.item
      → IsContent means (content_at f l levels (form.Array remaining) bs) x rest
  array_again remaining short within b room =
      let read = again f l reads levels bs x b.behind short within b.part room in
      let left = b.whole.0 in
      let items = only_again f l levels read.item (remaining_of remaining) (remaining_of left) bs b.behind rest (comes_again end_in_array remaining left bs b.whole.1) read.is (ends_again end_in_array left b.behind rest b.whole.2) in
      record {
        content = parts (raw.raw read.item no_raws);
        is = ap (λ (read : Reads Raws). read >>= (λ rs. Ok (parts rs.0, rs.1))) items;
        meaning = same.to_parts read.item x read.means;
      }

-- ---- one part

one_part : {A : Type 0} (reads : Raw → A → Type 0) → OfOne reads (IsPart reads)
one_part reads = record {
  of_one = λ r x m. m;
  to_one = λ r x m. m;
  of_parts = λ rs x m. m;
  to_parts = λ r x m. (m, tt);
}

module _ {A : Type 0} (refusals : ReadErrorCode → Bool) (f : Formats) (reads : Raw → A → Type 0) (levels : ℕ) (s t : Input) (bytes : List ℕ) (reports : Reports s bytes) (fits : AreBytes bytes) where
  only_found : (form : Form) (x : A) (rest : List ℕ) → IsContent (IsPart reads) (content_at f (limits s bytes) levels form bytes) x rest → BeginsOnly f levels reads form bytes x rest
  only_found (form.Array remaining) x rest h = in_array f (limits s bytes) reads (IsPart reads) (one_part reads) levels bytes x rest remaining fits h
  only_found form.Map x rest h = in_map f (limits s bytes) reads (IsPart reads) (one_part reads) levels bytes x rest fits h
  only_found form.Alone x rest h = absurd (subst (λ (c : Content). IsPart reads c x) (sym (ap (λ (p : Content × List ℕ). p.0) (ok_is (alone, bytes) (h.content, rest) h.is))) h.meaning)

  only_there : (form : Form) (x : A) (rest : List ℕ) → (b : BeginsOnly f levels reads form bytes x rest) → FitsScratch s.room b.part.item → IsContent (IsPart reads) (content_at f (limits s bytes) levels form bytes) x rest
  only_there (form.Array remaining) x rest b room = array_again f (limits s bytes) reads (IsPart reads) (one_part reads) levels bytes x rest remaining reports.short (omega arith) b room
  only_there form.Map x rest b room = map_again f (limits s bytes) reads (IsPart reads) (one_part reads) levels bytes x rest reports.short (omega arith) b room
  only_there form.Alone x rest b room = absurd b.whole

  pub newtype_taken : (form : Form) (r : Result A Error) → TakesContent refusals f (IsPart reads) levels form s t r
      → MatchResult r (TookOnly f levels reads form s t bytes)
      (λ e. ExcusedBy (ReportsIo refusals) (code_of e) (offset_of e) ⊎ LacksOnly f levels reads form s bytes)
  newtype_taken form (Ok x) step =
      let got = step.reported bytes reports in
      record { rest = got.rest; begins = only_found form x got.rest got.holds; reports = got.reports; count = got.total }
  newtype_taken form (Err e) h = elim (h.reported bytes reports) [
    | inl excused ↦ inl excused
    | inr none ↦ inr (λ x rest b room. none x rest (only_there form x rest b room))
  ]

  -- ---- a part of several

  pub part_taken : (remaining behind : Remaining) (r : Result A Error) → TakesPart refusals f reads levels remaining behind s t r
      → MatchResult r (λ x. Comes remaining behind bytes × TookItem f levels reads s t bytes x)
      (λ e. ExcusedBy (ReportsIo refusals) (code_of e) (offset_of e) ⊎ ((left : Remaining) → Comes remaining left bytes → BeginsAsNone f levels reads s bytes))
  part_taken remaining behind (Ok x) step =
      element_taken refusals f reads levels remaining behind s t bytes reports fits (Ok (Some x)) step
  part_taken remaining behind (Err e) h = elim (h.reported bytes reports) [
    | inl excused ↦ inl excused
    | inr none ↦ inr (λ after next x rest b room. none x (remaining_of after) rest (record {
      start = bytes;
      next = comes_again end_in_array remaining after bytes next;
      item = read_again refusals f reads levels s t bytes reports fits x rest b room;
    }))
  ]

-- ---- no part

no_part : OfOne (PassesTags IsUnit) IsNothing
no_part = record {
  of_one = λ r x m. m;
  to_one = λ r x m. m;
  of_parts = λ rs x m. m;
  to_parts = λ r x m. (m, tt);
}

-- null and undefined have no chunks
unit_fits : (room : Option ℕ) (r : Raw) → PassesTags IsUnit r tt → FitsScratch room r
unit_fits None r is = tt
unit_fits (Some room) r is = by r is
  where
    by : (r : Raw) → PassesTags IsUnit r tt → longest_joined r ≤ room
    by (raw.unsigned w n) is = absurd is
    by (raw.negative w n) is = absurd is
    by (raw.bytes c) is = absurd is
    by (raw.text c) is = absurd is
    by (raw.bytes_chunks cs) is = absurd is
    by (raw.text_chunks cs) is = absurd is
    by (raw.array l rs) is = absurd is
    by (raw.map l ps) is = absurd is
    by (raw.tag w n r) is = by r is
    by (raw.simple s) is = omega arith
    by (raw.float w bits) is = absurd is

pub unit_taken : UnitTaken
unit_taken refusals f levels (form.Array remaining) s t bytes (Ok u) reports fits step =
    let got = step.reported bytes reports in
    record { rest = got.rest; begins = in_array f (limits s bytes) (PassesTags IsUnit) IsNothing no_part levels bytes tt got.rest remaining fits got.holds; reports = got.reports; count = got.total }
unit_taken refusals f levels (form.Array remaining) s t bytes (Err e) reports fits h = elim (h.reported bytes reports) [
  | inl excused ↦ inl excused
  | inr none ↦ inr (λ rest b. none tt rest (array_again f (limits s bytes) (PassesTags IsUnit) IsNothing no_part levels bytes tt rest remaining reports.short (omega arith) b (unit_fits s.room b.part.item b.part.means)))
]
unit_taken refusals f levels form.Map s t bytes (Ok u) reports fits step =
    let got = step.reported bytes reports in
    record { rest = got.rest; begins = in_map f (limits s bytes) (PassesTags IsUnit) IsNothing no_part levels bytes tt got.rest fits got.holds; reports = got.reports; count = got.total }
unit_taken refusals f levels form.Map s t bytes (Err e) reports fits h = elim (h.reported bytes reports) [
  | inl excused ↦ inl excused
  | inr none ↦ inr (λ rest b. none tt rest (map_again f (limits s bytes) (PassesTags IsUnit) IsNothing no_part levels bytes tt rest reports.short (omega arith) b (unit_fits s.room b.part.item b.part.means)))
]
unit_taken refusals f levels form.Alone s t bytes (Ok u) reports fits step =
    let got = step.reported bytes reports in
    let same = ap (λ (p : Content × List ℕ). p.1) (ok_is (alone, bytes) (got.holds.content, got.rest) got.holds.is) in
    record { rest = got.rest; begins = same; reports = got.reports; count = got.total }
unit_taken refusals f levels form.Alone s t bytes (Err e) reports fits h = elim (h.reported bytes reports) [
  | inl excused ↦ inl excused
  | inr none ↦ inr (λ rest same. none tt rest (record { content = alone; is = ap (λ (xs : List ℕ). Ok (alone, xs)) same; meaning = tt }))
]
