-- What the bytes must be where a fault is reported, and that the same is reported after an opening and whole
-- items.
use Rattle.std.proofs.Common.{◌≡◌, ◌⊎◌, ℕ, suc, ◌+◌, ◌%◌, Bool, true, false, cond, List, []}
use Rattle.std.proofs.Common.{◌∷◌, ◌++◌, length, Option, Result, Ok, Err, refl, sym, ap, ◌∙◌}
use Rattle.std.proofs.Common.{append_assoc, arith, inl, inr}
use Rattle.std.proofs.lemmas.List.{append-nil, length-append}
use Rattle.cbor_model.specs.Head.{head}
use Rattle.cbor_model.specs.Raw.{Raws, count}
use Rattle.cbor_model.specs.Spelling.{spell, spell_all, spell_pairs}
use Rattle.cbor_model.specs.Refusal.{Refusal, end_in_value, end_in_array, end_in_map}
use Rattle.cbor_model.specs.Refusal.{length_out_of_range, invalid_utf8, unassigned_code}
use Rattle.cbor_model.specs.Refusal.{unexpected_code, trailing_data, too_deep, scratch_too_small}
use Rattle.cbor_model.specs.Refusal.{wrong_struct_format}
use Rattle.cbor_model.specs.Reader.{Fault, ◌>>=◌}
use Rattle.cbor_model.specs.Wanted.{Opening, indefinite_array, indefinite_map, opening, IsWanted}
use Rattle.cbor_model.specs.Wanted.{StandsInIndefiniteArray, StandsInIndefiniteMap}
use Rattle.cbor_model.specs.Allowed.{AreFirst, IsProperBeginning, chunks_begun, Limits}
use Rattle.cbor_model.specs.Allowed.{IsLengthOutOfRange, IsInvalidUtf8, IsUnassignedCode, IsNoChunk}
use Rattle.cbor_model.specs.Allowed.{IsTooDeep, IsOverScratch}
use Rattle.cbor_model.proofs.refusals.Wanted.{IsFrame, frame, beginning_behind, wanted_behind}

-- nothing is open that a break would end
abbrev pub IsClosed : Opening → ℕ → Type 0
IsClosed indefinite_array items = ⊥
IsClosed indefinite_map items = items % 2 ≡ 1
IsClosed _ items = Unit {0}

pub record StandsClosed (p : List ℕ) : Type 0 where
  pub levels : ℕ
  pub before : List ℕ
  pub opens : Opening
  pub items : Raws
  pub wanted : IsWanted levels before
  pub is_frame : IsFrame opens items
  pub closed : IsClosed opens (count items)
  pub parts : p ≡ before ++ frame opens items

-- a break at the very beginning, or where nothing is open
pub record IsClosedBreak (bytes : List ℕ) (j : ℕ) : Type 0 where
  pub levels : ℕ
  pub before : List ℕ
  pub wanted : IsWanted levels before
  pub closed : (before ≡ []) ⊎ StandsClosed before
  pub first : AreFirst j bytes (before ++ (0xff ∷ []))

-- so many bytes are left after the place
abbrev pub At : ℕ → List ℕ → (ℕ → Type 0) → Type 0
At left bytes Row = (j : ℕ) × (j + left ≡ length bytes) × Row j

abbrev pub Meaning : Limits → List ℕ → Refusal → ℕ → Type 0
Meaning l bytes end_in_value left = (left ≡ 0) × IsProperBeginning bytes
Meaning l bytes end_in_array left = (left ≡ 0) × StandsInIndefiniteArray bytes
Meaning l bytes end_in_map left = (left ≡ 0) × StandsInIndefiniteMap bytes
Meaning l bytes length_out_of_range left = At left bytes (IsLengthOutOfRange l.start bytes)
Meaning l bytes invalid_utf8 left = (place : ℕ) × At left bytes (IsInvalidUtf8 bytes place)
Meaning l bytes unassigned_code left = At left bytes (IsUnassignedCode bytes)
Meaning l bytes unexpected_code left = At left bytes (λ j. IsClosedBreak bytes j ⊎ IsNoChunk bytes j)
Meaning l bytes trailing_data left = ⊥
Meaning l bytes too_deep left = At left bytes (IsTooDeep l.levels bytes)
Meaning l bytes scratch_too_small left = At left bytes (IsOverScratch l.scratch bytes)
Meaning l bytes wrong_struct_format left = ⊥

-- where a fault is reported, the bytes are as it says
abbrev pub Reports : {A : Type 0} → Limits → List ℕ → Result A Fault → Type 0
Reports l bytes (Ok x) = Unit {0}
Reports l bytes (Err f) = Meaning l bytes f.why f.left

pub Reports-bind : {A B : Type 0} (l : Limits) (bytes : List ℕ) (r : Result A Fault) (f : A → Result B Fault)
    → Reports l bytes r → ((x : A) → r ≡ Ok x → Reports l bytes (f x)) → Reports l bytes (r >>= f)
Reports-bind l bytes (Ok x) f reported each = each x refl
Reports-bind l bytes (Err d) f reported each = reported

pub Reports-cond : {A : Type 0} (l : Limits) (bytes : List ℕ) (b : Bool) (x y : Result A Fault)
    → (b ≡ true → Reports l bytes x) → (b ≡ false → Reports l bytes y) → Reports l bytes (cond b x y)
Reports-cond l bytes true x y one other = one refl
Reports-cond l bytes false x y one other = other refl

-- ---- after a frame

module _ (o : Opening) (items : Raws) (is_frame : IsFrame o items) where
  abbrev pre : List ℕ
  pre = frame o items

  -- the first bytes, where others precede them
  abbrev pub first_behind : (bytes before x : List ℕ) (j : ℕ) → AreFirst j bytes (before ++ x)
      → AreFirst (length pre + j) (pre ++ bytes) ((pre ++ before) ++ x)
  first_behind bytes before x j first = record {
    rest = first.rest;
    parts = ap (λ (t : List ℕ). pre ++ t) first.parts ∙ regrouped pre before x first.rest;
    long = length_behind pre before x j first.long;
  }
    where
      regrouped : (a b c d : List ℕ) → a ++ ((b ++ c) ++ d) ≡ ((a ++ b) ++ c) ++ d
      regrouped a b c d = simp append_assoc

      length_behind : (a b c : List ℕ) (j : ℕ) → length (b ++ c) ≡ j → length ((a ++ b) ++ c) ≡ length a + j
      length_behind a b c j long = omega (arith, length-append (a ++ b) c, length-append a b, length-append b c, long)

  array_behind : (p : List ℕ) → StandsInIndefiniteArray p → StandsInIndefiniteArray (pre ++ p)
  array_behind p s = record {
    levels = suc s.levels;
    before = pre ++ s.before;
    items = s.items;
    wanted = wanted_behind o items s.levels s.before is_frame s.wanted;
    fits = s.fits;
    parts = ap (λ (t : List ℕ). pre ++ t) s.parts ∙ sym (append_assoc pre s.before (0x9f ∷ spell_all s.items));
  }

  map_behind : (p : List ℕ) → StandsInIndefiniteMap p → StandsInIndefiniteMap (pre ++ p)
  map_behind p s = record {
    levels = suc s.levels;
    before = pre ++ s.before;
    pairs = s.pairs;
    wanted = wanted_behind o items s.levels s.before is_frame s.wanted;
    fits = s.fits;
    parts = ap (λ (t : List ℕ). pre ++ t) s.parts ∙ sym (append_assoc pre s.before (0xbf ∷ spell_pairs s.pairs));
  }

  pub range_behind : (start : ℕ) (bytes : List ℕ) (j : ℕ) → IsLengthOutOfRange (start + length pre) bytes j
      → IsLengthOutOfRange start (pre ++ bytes) (length pre + j)
  range_behind start bytes j r = record {
    width = r.width;
    n = r.n;
    fits = r.fits;
    at = record {
      levels = suc r.levels;
      before = pre ++ r.before;
      wanted = wanted_behind o items r.levels r.before is_frame r.wanted;
      first = first_behind bytes r.before (head 3 r.width r.n) j r.first;
    };
    far = omega (arith, r.far);
  }

  pub utf8_behind : (bytes : List ℕ) (j offset : ℕ) → IsInvalidUtf8 bytes j offset
      → IsInvalidUtf8 (pre ++ bytes) (length pre + j) (length pre + offset)
  utf8_behind bytes j offset r = record {
    item = r.item;
    text = r.text;
    valid = r.valid;
    fits = r.fits;
    text_is = r.text_is;
    longest = r.longest;
    at = record {
      levels = suc r.levels;
      before = pre ++ r.before;
      wanted = wanted_behind o items r.levels r.before is_frame r.wanted;
      first = first_behind bytes r.before (spell r.item) j r.first;
    };
    offset_is = omega (arith, r.offset_is);
  }

  unassigned_behind : (bytes : List ℕ) (j : ℕ) → IsUnassignedCode bytes j
      → IsUnassignedCode (pre ++ bytes) (length pre + j)
  unassigned_behind bytes j r = record {
    byte = r.byte;
    unassigned = r.unassigned;
    at = record {
      levels = suc r.levels;
      before = pre ++ r.before;
      wanted = wanted_behind o items r.levels r.before is_frame r.wanted;
      first = first_behind bytes r.before (r.byte ∷ []) j r.first;
    };
  }

  no_chunk_behind : (bytes : List ℕ) (j : ℕ) → IsNoChunk bytes j → IsNoChunk (pre ++ bytes) (length pre + j)
  no_chunk_behind bytes j r = record {
    major = r.major;
    chunks = r.chunks;
    byte = r.byte;
    of_strings = r.of_strings;
    fits = r.fits;
    no_break = r.no_break;
    no_chunk = r.no_chunk;
    at = record {
      levels = suc r.levels;
      before = pre ++ r.before;
      wanted = wanted_behind o items r.levels r.before is_frame r.wanted;
      first = first_behind bytes r.before (chunks_begun r.major r.chunks ++ (r.byte ∷ [])) j r.first;
    };
  }

  pub deep_behind : (most : ℕ) (bytes : List ℕ) (j : ℕ) → IsTooDeep most bytes j
      → IsTooDeep (suc most) (pre ++ bytes) (length pre + j)
  deep_behind most bytes j r = record {
    opens = r.opens;
    deep = omega (arith, r.deep);
    fits = r.fits;
    at = record {
      levels = suc r.levels;
      before = pre ++ r.before;
      wanted = wanted_behind o items r.levels r.before is_frame r.wanted;
      first = first_behind bytes r.before (opening r.opens) j r.first;
    };
  }

  pub scratch_behind : (scratch : Option ℕ) (bytes : List ℕ) (j : ℕ) → IsOverScratch scratch bytes j
      → IsOverScratch scratch (pre ++ bytes) (length pre + j)
  scratch_behind scratch bytes j r = record {
    major = r.major;
    chunks = r.chunks;
    next = r.next;
    rest = r.rest;
    of_strings = r.of_strings;
    fits = r.fits;
    next_fits = r.next_fits;
    over = r.over;
    at = record {
      levels = suc r.levels;
      before = pre ++ r.before;
      wanted = wanted_behind o items r.levels r.before is_frame r.wanted;
      first = first_behind bytes r.before (chunks_begun r.major r.chunks ++ head r.major r.next.width (length r.next.bytes)) j r.first;
    };
    whole = r.whole;
  }

  -- the bytes don't begin with a break, or nothing is open here that it would end
  abbrev pub NoEnd : List ℕ → Type 0
  NoEnd bytes = IsClosed o (count items) ⊎ ((more : List ℕ) → bytes ≡ 0xff ∷ more → ⊥)

  break_behind : (bytes : List ℕ) (j : ℕ) → NoEnd bytes → IsClosedBreak bytes j
      → IsClosedBreak (pre ++ bytes) (length pre + j)
  break_behind bytes j no_end r = record {
    levels = suc r.levels;
    before = pre ++ r.before;
    wanted = wanted_behind o items r.levels r.before is_frame r.wanted;
    closed = inr (closed_behind r.closed no_end);
    first = first_behind bytes r.before (0xff ∷ []) j r.first;
  }
    where
      at_start : r.before ≡ [] → bytes ≡ 0xff ∷ r.first.rest
      at_start none = r.first.parts ∙ ap (λ (t : List ℕ). (t ++ (0xff ∷ [])) ++ r.first.rest) none

      closed_behind : (r.before ≡ []) ⊎ StandsClosed r.before → NoEnd bytes → StandsClosed (pre ++ r.before)
      closed_behind (inr s) no_end = record {
        levels = suc s.levels;
        before = pre ++ s.before;
        opens = s.opens;
        items = s.items;
        wanted = wanted_behind o items s.levels s.before is_frame s.wanted;
        is_frame = s.is_frame;
        closed = s.closed;
        parts = ap (λ (t : List ℕ). pre ++ t) s.parts ∙ sym (append_assoc pre s.before (frame s.opens s.items));
      }
      closed_behind (inl none) (inr not) = absurd (not r.first.rest (at_start none))
      closed_behind (inl none) (inl closed) = record {
        levels = 0;
        before = [];
        opens = o;
        items = items;
        wanted = IsWanted.at_first;
        is_frame = is_frame;
        closed = closed;
        parts = ap (λ (t : List ℕ). pre ++ t) none ∙ append-nil pre;
      }

  pub at_behind : (left : ℕ) (bytes : List ℕ) (j : ℕ) → j + left ≡ length bytes → (length pre + j) + left ≡ length (pre ++ bytes)
  at_behind left bytes j is = omega (arith, is, length-append pre bytes)

  pub reported_behind : (start levels : ℕ) (scratch : Option ℕ) (bytes : List ℕ) (why : Refusal) (left : ℕ) → NoEnd bytes
      → Meaning (record { start = start + length pre; levels = levels; scratch = scratch }) bytes why left
      → Meaning (record { start = start; levels = suc levels; scratch = scratch }) (pre ++ bytes) why left
  reported_behind start levels scratch bytes end_in_value left no_end e = (e.0, beginning_behind o items bytes is_frame e.1)
  reported_behind start levels scratch bytes end_in_array left no_end e = (e.0, array_behind bytes e.1)
  reported_behind start levels scratch bytes end_in_map left no_end e = (e.0, map_behind bytes e.1)
  reported_behind start levels scratch bytes length_out_of_range left no_end e =
      (length pre + e.0, at_behind left bytes e.0 e.1, range_behind start bytes e.0 e.2)
  reported_behind start levels scratch bytes invalid_utf8 left no_end e =
      (length pre + e.0, (length pre + e.1.0, at_behind left bytes e.1.0 e.1.1, utf8_behind bytes e.0 e.1.0 e.1.2))
  reported_behind start levels scratch bytes unassigned_code left no_end e =
      (length pre + e.0, at_behind left bytes e.0 e.1, unassigned_behind bytes e.0 e.2)
  reported_behind start levels scratch bytes unexpected_code left no_end e =
      (length pre + e.0, at_behind left bytes e.0 e.1, either e.2)
    where
      either : IsClosedBreak bytes e.0 ⊎ IsNoChunk bytes e.0
          → IsClosedBreak (pre ++ bytes) (length pre + e.0) ⊎ IsNoChunk (pre ++ bytes) (length pre + e.0)
      either (inl b) = inl (break_behind bytes e.0 no_end b)
      either (inr c) = inr (no_chunk_behind bytes e.0 c)
  reported_behind start levels scratch bytes trailing_data left no_end e = absurd e
  reported_behind start levels scratch bytes too_deep left no_end e =
      (length pre + e.0, at_behind left bytes e.0 e.1, deep_behind levels bytes e.0 e.2)
  reported_behind start levels scratch bytes scratch_too_small left no_end e =
      (length pre + e.0, at_behind left bytes e.0 e.1, scratch_behind scratch bytes e.0 e.2)
  reported_behind start levels scratch bytes wrong_struct_format left no_end e = absurd e
