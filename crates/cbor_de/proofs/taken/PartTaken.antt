-- The next part of an array or a map, or its end, by the definitions.
use Rattle.std.proofs.Common.{◌≡◌, ◌≢◌, ◌⊎◌, inl, inr, ℕ, zero, suc, ◌+◌, Bool, true, false, cond, List, [], ◌∷◌, length, Option, Some, None, Result, Ok, Err, eqb, refl, sym, ap, subst, ◌∙◌, arith}
use Rattle.std.specs.Prelude.{MatchResult}
use Rattle.std.proofs.lemmas.Bool.{eqb-true}
use Rattle.cbor_model.specs.Formats.{Formats, may_begin_key}
use Rattle.cbor_model.specs.Raw.{Raw, AreBytes}
use Rattle.cbor_model.specs.Refusal.{Refusal, end_in_array, end_in_map, trailing_data}
use Rattle.cbor_model.specs.Reader as reader
use Rattle.cbor_model.specs.Reader.{Fault, Reads, before, item_at, key_at, next_at}
use Rattle.cbor_model.proofs.facts.Reader.{ok_is, key_read, key_is}
use Rattle.cbor_io.specs.Error.{code_of, offset_of}
use Rattle.cbor_io.specs.declared.error.Error.{Error}
use Rattle.cbor_io.specs.declared.read_error.ReadErrorCode.{ReadErrorCode}
use Rattle.cbor_read.specs.Source.{Input}
use Rattle.cbor_decode.specs.Cursor.{ended_at}
use Rattle.cbor_decode.specs.Gives.{ReportsIo, Reports, limits}
use Rattle.cbor_decode.specs.Heads.{remaining_of}
use Rattle.cbor_decode.specs.declared.cursor.Remaining.{Remaining}
use Rattle.cbor_decode.specs.declared.cursor.Remaining.TheVariants.{Counted, ToBreak}
use Rattle.cbor_decode_as.specs.Accesses.{TakesNext}
use Rattle.cbor_decode_as.specs.MapAccesses.{TakesKey}
use Rattle.cbor_decode_as.specs.Takes.{ExcusedBy, IsRead, raws}
use Rattle.cbor_decode_as.proofs.facts.Refusals.{excused_or}
use Rattle.cbor_de.specs.PartTaken.{ArrayEndTaken, BeginsKey, Comes, Ends, LacksKey, LacksNext, MapEndTaken, TookKey, TookNext}
use Rattle.cbor_de.proofs.taken.Taken.{read_again, took}

-- ---- what remains

abbrev Next : Type 0
Next = Reads (Option reader.Remaining)

same_next : (x y : Option reader.Remaining) (bs mid : List ℕ) → ◌≡◌ {A = Next} (Ok (x, bs)) (Ok (y, mid)) → (x ≡ y) × (bs ≡ mid)
same_next x y bs mid is =
    let both = ok_is (x, bs) (y, mid) is in
    (ap (λ (p : Option reader.Remaining × List ℕ). p.0) both, ap (λ (p : Option reader.Remaining × List ℕ). p.1) both)

some_none : {B : Type 0} (r : reader.Remaining) → Some r ≡ None → B
some_none r is = absurd cc

none_some : {B : Type 0} (r : reader.Remaining) → None ≡ Some r → B
none_some r is = absurd cc

some_is : (q r : reader.Remaining) → Some q ≡ Some r → q ≡ r
some_is q r is = cc

-- one fewer is left of a count
fewer : (n : ℕ) (behind : Remaining) (bs : List ℕ) → reader.counted n ≡ remaining_of behind → Comes (Counted (suc n)) behind bs
fewer n (Counted m) bs is = let same : n ≡ m = cc in omega (arith, same)
fewer n ToBreak bs is = absurd cc

to_break : (behind : Remaining) (b : ℕ) (bs : List ℕ) → reader.to_break ≡ remaining_of behind → b ≢ 0xff → Comes ToBreak behind (b ∷ bs)
to_break (Counted m) b bs is other = absurd cc
to_break ToBreak b bs is other = other

-- the byte at the front of an indefinite length
pub data AtFront (why : Refusal) (b : ℕ) (bs : List ℕ) : Type 0 where
  break : b ≡ 0xff → next_at why reader.to_break (b ∷ bs) ≡ Ok (None, bs) → AtFront why b bs
  other : b ≢ 0xff → next_at why reader.to_break (b ∷ bs) ≡ Ok (Some reader.to_break, b ∷ bs) → AtFront why b bs

at_front : (why : Refusal) (b : ℕ) (bs : List ℕ) → AtFront why b bs
unfolding next_at
at_front why b bs = by (eqb b 255) refl
  where
    by : (t : Bool) → eqb b 255 ≡ t → AtFront why b bs
    by true is = break (eqb-true b 255 is) (rw is refl)
    by false is = other (λ same. absurd (true_false (sym (eqb-same same) ∙ is))) (rw is refl)
      where
        true_false : true ≡ false → ⊥
        true_false e = absurd cc

        eqb-same : b ≡ 255 → eqb b 255 ≡ true
        eqb-same e = rw e refl

-- A part comes where the reference reader says so,
pub comes : (why : Refusal) (remaining behind : Remaining) (bs mid : List ℕ) → next_at why (remaining_of remaining) bs ≡ Ok (Some (remaining_of behind), mid) → Comes remaining behind bs × (bs ≡ mid)
unfolding next_at
comes why (Counted zero) behind bs mid is = none_some (remaining_of behind) (same_next None (Some (remaining_of behind)) bs mid is).0
comes why (Counted (suc n)) behind bs mid is =
    let same = same_next (Some (reader.counted n)) (Some (remaining_of behind)) bs mid is in
    (fewer n behind bs (some_is (reader.counted n) (remaining_of behind) same.0), same.1)
comes why ToBreak behind [] mid is = absurd cc
comes why ToBreak behind (b ∷ bs) mid is = elim (at_front why b bs) [
  | break at here ↦ none_some (remaining_of behind) (same_next None (Some (remaining_of behind)) bs mid (sym here ∙ is)).0
  | other at here ↦
      let same = same_next (Some reader.to_break) (Some (remaining_of behind)) (b ∷ bs) mid (sym here ∙ is) in
      (to_break behind b bs (some_is reader.to_break (remaining_of behind) same.0) at, same.1)
]

-- and where one comes it says so.
pub comes_again : (why : Refusal) (remaining behind : Remaining) (bs : List ℕ) → Comes remaining behind bs → next_at why (remaining_of remaining) bs ≡ Ok (Some (remaining_of behind), bs)
unfolding next_at
comes_again why (Counted zero) (Counted m) bs is = absurd (omega (arith, is))
comes_again why (Counted (suc n)) (Counted m) bs is =
    let same : n ≡ m = omega (arith, is) in
    ap (λ (k : ℕ). Ok (Some (reader.counted k), bs)) same
comes_again why (Counted zero) ToBreak bs is = absurd is
comes_again why (Counted (suc n)) ToBreak bs is = absurd is
comes_again why ToBreak (Counted m) bs is = absurd is
comes_again why ToBreak ToBreak [] is = absurd is
comes_again why ToBreak ToBreak (b ∷ bs) is = elim (at_front why b bs) [
  | break at here ↦ absurd (is at)
  | other at here ↦ here
]

-- So of the end.
pub ends : (why : Refusal) (remaining : Remaining) (bs mid : List ℕ) → next_at why (remaining_of remaining) bs ≡ Ok (None, mid) → Ends remaining bs mid
unfolding next_at
ends why (Counted zero) bs mid is = (refl, (same_next None None bs mid is).1)
ends why (Counted (suc n)) bs mid is = some_none (reader.counted n) (same_next (Some (reader.counted n)) None bs mid is).0
ends why ToBreak [] mid is = absurd cc
ends why ToBreak (b ∷ bs) mid is = elim (at_front why b bs) [
  | break at here ↦
      let rest = (same_next None None bs mid (sym here ∙ is)).1 in
      ap (λ (x : ℕ). x ∷ bs) at ∙ ap (λ (xs : List ℕ). 0xff ∷ xs) rest
  | other at here ↦ some_none reader.to_break (same_next (Some reader.to_break) None (b ∷ bs) mid (sym here ∙ is)).0
]

pub ends_again : (why : Refusal) (remaining : Remaining) (bs mid : List ℕ) → Ends remaining bs mid → next_at why (remaining_of remaining) bs ≡ Ok (None, mid)
unfolding next_at
ends_again why (Counted zero) bs mid is = ap (λ (xs : List ℕ). Ok (None, xs)) is.1
ends_again why (Counted (suc n)) bs mid is = absurd (omega (arith, is.0))
ends_again why ToBreak bs mid is = rw is refl

-- ---- the end

end_is : (bs mid : List ℕ) → ◌≡◌ {A = Reads (Unit {0})} (Ok (tt, bs)) (Ok (tt, mid)) → bs ≡ mid
end_is bs mid is = ap (λ (p : Unit {0} × List ℕ). p.1) (ok_is (tt, bs) (tt, mid) is)

pub ended : (why : Refusal) (remaining : Remaining) (bs mid : List ℕ) → ended_at why (remaining_of remaining) bs ≡ Ok (tt, mid) → Ends remaining bs mid
unfolding ended_at
ended why (Counted zero) bs mid is = (refl, end_is bs mid is)
ended why (Counted (suc n)) bs mid is = absurd cc
ended why ToBreak [] mid is = absurd cc
ended why ToBreak (b ∷ bs) mid is = by (eqb b 255) refl is
  where
    chosen : Bool → Reads (Unit {0})
    chosen t = cond t (Ok (tt, bs)) (Err (before trailing_data bs))

    not_ok : (f : Fault) → ◌≡◌ {A = Reads (Unit {0})} (Err f) (Ok (tt, mid)) → ⊥
    not_ok f e = absurd cc

    by : (t : Bool) → eqb b 255 ≡ t → chosen (eqb b 255) ≡ Ok (tt, mid) → b ∷ bs ≡ 0xff ∷ mid
    by true at e =
        let rest = end_is bs mid (sym (ap chosen at) ∙ e) in
        ap (λ (x : ℕ). x ∷ bs) (eqb-true b 255 at) ∙ ap (λ (xs : List ℕ). 0xff ∷ xs) rest
    by false at e = absurd (not_ok (before trailing_data bs) (sym (ap chosen at) ∙ e))

pub no_end : (why : Refusal) (remaining : Remaining) (bs : List ℕ) (f : Fault) → ended_at why (remaining_of remaining) bs ≡ Err f → (mid : List ℕ) → Ends remaining bs mid → ⊥
unfolding ended_at
no_end why (Counted zero) bs f is mid end = absurd cc
no_end why (Counted (suc n)) bs f is mid end = omega (arith, end.0)
no_end why ToBreak bs f is mid end =
    let here : ended_at why reader.to_break bs ≡ Ok (tt, mid) = rw end refl in
    absurd (both here is)
  where
    both : {x : Reads (Unit {0})} → x ≡ Ok (tt, mid) → x ≡ Err f → ⊥
    both a b = absurd cc

pub array_end_taken : ArrayEndTaken
array_end_taken refusals remaining s t bytes (Ok u) reports step =
    let got = step.reported bytes reports in
    record { rest = got.rest; ends = ended end_in_array remaining bytes got.rest got.holds; reports = got.reports; count = got.total }
array_end_taken refusals remaining s t bytes (Err e) reports h =
    elim (excused_or (ReportsIo refusals) (code_of e) (s.offset + length bytes) (offset_of e) (ended_at end_in_array (remaining_of remaining) bytes) (h.1 bytes reports)) [
      | inl excused ↦ inl excused
      | inr fault ↦ inr (no_end end_in_array remaining bytes fault.0 fault.1)
    ]

pub map_end_taken : MapEndTaken
map_end_taken refusals remaining s t bytes (Ok u) reports step =
    let got = step.reported bytes reports in
    record { rest = got.rest; ends = ended end_in_map remaining bytes got.rest got.holds; reports = got.reports; count = got.total }
map_end_taken refusals remaining s t bytes (Err e) reports h =
    elim (excused_or (ReportsIo refusals) (code_of e) (s.offset + length bytes) (offset_of e) (ended_at end_in_map (remaining_of remaining) bytes) (h.1 bytes reports)) [
      | inl excused ↦ inl excused
      | inr fault ↦ inr (no_end end_in_map remaining bytes fault.0 fault.1)
    ]

-- ---- the next item, and the next key

module _ {A : Type 0} (refusals : ReadErrorCode → Bool) (f : Formats) (reads : Raw → A → Type 0) (levels : ℕ) (remaining behind : Remaining) (s t : Input) (bytes : List ℕ) (reports : Reports s bytes) (fits : AreBytes bytes) where
  abbrev Read : List ℕ → A → List ℕ → Type 0
  Read start x rest = IsRead reads (item_at (raws f (limits s bytes)) levels start) x rest

  pub element_taken : (r : Result (Option A) Error) → TakesNext refusals f reads levels remaining behind s t r
      → MatchResult r (TookNext f levels reads remaining behind s t bytes)
      (λ e. ExcusedBy (ReportsIo refusals) (code_of e) (offset_of e) ⊎ LacksNext f levels reads remaining s bytes)
  element_taken (Ok (Some x)) step =
      let got = step.reported bytes reports in
      let next = comes end_in_array remaining behind bytes got.holds.start got.holds.next in
      let read = subst (λ (start : List ℕ). Read start x got.rest) (sym next.1) got.holds.item in
      (next.0, took refusals f reads levels s t bytes reports fits x got.rest read got.reports got.total)
  element_taken (Ok None) step =
      let got = step.reported bytes reports in
      record { rest = got.rest; ends = ends end_in_array remaining bytes got.rest got.holds; reports = got.reports; count = got.total }
  element_taken (Err e) h = elim (h.reported bytes reports) [
    | inl excused ↦ inl excused
    | inr none ↦ inr (record {
      no_end = λ rest end. none None (remaining_of behind) rest (ends_again end_in_array remaining bytes rest end);
      no_item = λ after next x rest b room. none (Some x) (remaining_of after) rest (record {
        start = bytes;
        next = comes_again end_in_array remaining after bytes next;
        item = read_again refusals f reads levels s t bytes reports fits x rest b room;
      });
    })
  ]

  abbrev ReadKey : List ℕ → A → List ℕ → Type 0
  ReadKey start x rest = IsRead reads (key_at (may_begin_key f) (item_at (raws f (limits s bytes)) levels) start) x rest

  begins_key : (bs : List ℕ) (p : List ℕ → Reads Raw) (y : Raw × List ℕ) → key_at (may_begin_key f) p bs ≡ Ok y → BeginsKey f bs
  begins_key [] p y is = (key_read (may_begin_key f) p [] y is).0
  begins_key (b ∷ bs) p y is = (key_read (may_begin_key f) p (b ∷ bs) y is).0

  key_here : (bs : List ℕ) (p : List ℕ → Reads Raw) → BeginsKey f bs → key_at (may_begin_key f) p bs ≡ p bs
  key_here [] p may = absurd may
  key_here (b ∷ bs) p may = key_is (may_begin_key f) p (b ∷ bs) may

  begins : (x : A) (rest : List ℕ) → ReadKey bytes x rest → BeginsKey f bytes × Read bytes x rest
  begins x rest read =
      let p = item_at (raws f (limits s bytes)) levels in
      let key = key_read (may_begin_key f) p bytes (read.item, rest) read.is in
      (begins_key bytes p (read.item, rest) read.is, record { item = read.item; is = key.1; means = read.means })

  pub key_taken : (r : Result (Option A) Error) → TakesKey refusals f reads levels remaining behind s t r
      → MatchResult r (TookKey f levels reads remaining behind s t bytes)
      (λ e. ExcusedBy (ReportsIo refusals) (code_of e) (offset_of e) ⊎ LacksKey f levels reads remaining s bytes)
  key_taken (Ok (Some x)) step =
      let got = step.reported bytes reports in
      let next = comes end_in_map remaining behind bytes got.holds.start got.holds.next in
      let key = begins x got.rest (subst (λ (start : List ℕ). ReadKey start x got.rest) (sym next.1) got.holds.key) in
      (next.0, key.0, took refusals f reads levels s t bytes reports fits x got.rest key.1 got.reports got.total)
  key_taken (Ok None) step =
      let got = step.reported bytes reports in
      record { rest = got.rest; ends = ends end_in_map remaining bytes got.rest got.holds; reports = got.reports; count = got.total }
  key_taken (Err e) h = elim (h.reported bytes reports) [
    | inl excused ↦ inl excused
    | inr none ↦ inr (record {
      no_end = λ rest end. none None (remaining_of behind) rest (ends_again end_in_map remaining bytes rest end);
      no_key = λ after next may x rest b room.
          let read = read_again refusals f reads levels s t bytes reports fits x rest b room in
          none (Some x) (remaining_of after) rest (record {
            start = bytes;
            next = comes_again end_in_map remaining after bytes next;
            key = record {
              item = read.item;
              is = key_here bytes (item_at (raws f (limits s bytes)) levels) may ∙ read.is;
              means = read.means;
            };
          });
    })
  ]
