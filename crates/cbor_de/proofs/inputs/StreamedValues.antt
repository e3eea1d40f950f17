-- What a stream over a reader has given, one call after the other.
use Rattle.std.proofs.Common.{◌≡◌, ◌∙◌, ◌≤◌, ◌⊎◌, ◌+◌, ℕ, Bool, true, false, suc, List, [], ◌∷◌, ◌++◌, length, Option, None, IfSome, Ok, Err, inl, inr, refl, sym, ap, subst, length-append, arith}
use Rattle.cbor_model.specs.Acceptable.{max_depth, FitsScratch}
use Rattle.cbor_model.specs.Formats.{Formats, all_formats}
use Rattle.cbor_model.specs.Raw.{Raw, AreBytes}
use Rattle.cbor_model.specs.Readable.{Context}
use Rattle.cbor_model.specs.Spelling.{spell}
use Rattle.cbor_model.proofs.facts.Laws.{one_spelling}
use Rattle.cbor_io.specs.Error.{code_of, offset_of}
use Rattle.cbor_io.specs.declared.error.Error.{Error}
use Rattle.cbor_io.specs.declared.error.ErrorCode.{ErrorCode}
use Rattle.cbor_io.specs.declared.error.ErrorCode.TheVariants.{Io, OutOfMemory}
use Rattle.cbor_read.specs.Source.{Lends, reader_refusals, start_of_reader}
use Rattle.cbor_decode.specs.Gives.{Gave, IsMemoryOrFault, IsMemoryOrFaultBy, ReportsIo}
use Rattle.cbor_decode_as.specs.Takes.{ExcusedBy, lending}
use Rattle.cbor_de.specs.ItemTaken.{BeginsAs, BeginsAsNone, TookItem}
use Rattle.cbor_de.specs.Streamed.{AreMostValues, HasStreamed, ValuesBegin}
use Rattle.cbor_de.specs.Streams.{Stream, GivesError, GivesItem, GivesNone, begun}
use Rattle.cbor_de.specs.Whole.{from_reader_context}
use Rattle.cbor_de.proofs.taken.Taken.{item_taken}

-- ---- lists of values

-- the one front of a list begins the other
fronts : (xs ys a b : List ℕ) → xs ++ a ≡ ys ++ b
    → ((m : List ℕ) × (xs ++ m ≡ ys) × (a ≡ m ++ b)) ⊎ ((m : List ℕ) × (ys ++ m ≡ xs) × (b ≡ m ++ a))
fronts [] ys a b e = inl (ys, refl, e)
fronts (x ∷ xs) [] a b e = inr (x ∷ xs, refl, sym e)
fronts (x ∷ xs) (y ∷ ys) a b e =
    let same : x ≡ y = cc in
    let tails : xs ++ a ≡ ys ++ b = cc in
    elim (fronts xs ys a b tails) [
      | inl h ↦ inl (h.0, (let t = h.1 in cc), h.2)
      | inr h ↦ inr (h.0, (let t = h.1 in cc), h.2)
    ]

suffix : (front rest : List ℕ) → AreBytes (front ++ rest) → AreBytes rest
suffix [] rest h = h
suffix (b ∷ front) rest h = suffix front rest (λ i. h (suc i))

memory_or_fault : (code : ErrorCode) (at : ℕ) → ExcusedBy (ReportsIo reader_refusals) code at → IsMemoryOrFaultBy code × (at ≡ 0)
memory_or_fault OutOfMemory at h = (tt, h)
memory_or_fault (Io fault) at h = (tt, h.1)
memory_or_fault _ at h = absurd h

module _ {A : Type 0} (reads : Raw → A → Type 0) where
  -- one item stands at the front, so one rest follows it
  one_rest : (bytes : List ℕ) (x y : A) (u v : List ℕ) → BeginsAs all_formats max_depth reads bytes x u → BeginsAs all_formats max_depth reads bytes y v → u ≡ v
  one_rest bytes x y u v a b =
      elim (fronts (spell a.item) (spell b.item) u v (sym a.begins.spelled ∙ b.begins.spelled)) [
        | inl h ↦ h.2 ∙ ap (λ l. l ++ v) (one_spelling a.item b.item h.0 a.begins.acceptable.fits b.begins.acceptable.fits h.1).1
        | inr h ↦ sym (h.2 ∙ ap (λ l. l ++ u) (one_spelling b.item a.item h.0 b.begins.acceptable.fits a.begins.acceptable.fits h.1).1)
      ]

  -- a list of values after which none stands is the longest
  pub longest : (xs : List A) (bytes rest : List ℕ) → ValuesBegin reads bytes xs rest → ((y : A) (after : List ℕ) → BeginsAs all_formats max_depth reads rest y after → ⊥)
      → (ys : List A) (after : List ℕ) → ValuesBegin reads bytes ys after → length ys ≤ length xs
  longest xs bytes rest are none [] after h = omega arith
  longest [] bytes rest are none (y ∷ ys) after h = absurd (none y h.0 (subst (λ (bs : List ℕ). BeginsAs all_formats max_depth reads bs y h.0) are h.1))
  longest (x ∷ xs) bytes rest are none (y ∷ ys) after h =
      let same = one_rest bytes y x h.0 are.0 h.1 are.1 in
      let fewer = longest xs are.0 rest are.2 none ys after (subst (λ (bs : List ℕ). ValuesBegin reads bs ys after) same h.2) in
      omega arith

  one_more : (bytes : List ℕ) (xs : List A) (x : A) (mid rest : List ℕ) → ValuesBegin reads bytes xs mid
      → BeginsAs all_formats max_depth reads mid x rest → ValuesBegin reads bytes (xs ++ x ∷ []) rest
  one_more bytes [] x mid rest are one = (rest, subst (λ (bs : List ℕ). BeginsAs all_formats max_depth reads bs x rest) (sym are) one, refl)
  one_more bytes (y ∷ ys) x mid rest are one = (are.0, are.1, one_more are.0 ys x mid rest are.2 one)

-- ---- the calls of a stream

-- a reader lends nothing
abbrev lends : Lends
lends = record { whole = false; joined = false }

module _ {A : Type 0} (reads : Context → Raw → A → Type 0) (bytes : List ℕ) where
  abbrev read_as : Raw → A → Type 0
  read_as = reads from_reader_context

  abbrev by : Formats → Raw → A → Type 0
  by f = reads (lending f lends)

  -- before the first
  pub none_streamed : (remaining : Option (List ℕ)) → Gave remaining bytes → HasStreamed read_as bytes [] (begun (start_of_reader remaining) max_depth all_formats)
  none_streamed remaining gave = record {
    rest = bytes;
    begin = refl;
    reports = record { is = gave.reported; short = omega (arith, gave.short) };
    are_bytes = gave.are_bytes;
    place = omega arith;
    room = refl;
    levels = refl;
    formats = refl;
    going = refl;
  }

  module _ (values : List A) (s t : Stream) (far : HasStreamed read_as bytes values s) where
    took : (x : A) → GivesItem reader_refusals by x s t → TookItem all_formats max_depth read_as s.input t.input far.rest x
    took x given =
        let here = item_taken reader_refusals s.formats (by s.formats) s.levels s.input t.input far.rest far.reports far.are_bytes (Ok x) given.item in
        let deep = subst (λ (n : ℕ). TookItem s.formats n (by s.formats) s.input t.input far.rest x) far.levels here in
        subst (λ (f : Formats). TookItem f max_depth (by f) s.input t.input far.rest x) far.formats deep

    -- after another value
    pub one_streamed : (x : A) → GivesItem reader_refusals by x s t → t.input.room ≡ None → HasStreamed read_as bytes (values ++ x ∷ []) t
    one_streamed x given room =
        let took = took x given in
        let spelled = took.read.begins.spelled in
        let lengths = ap length spelled ∙ length-append (spell took.read.item) took.rest in
        record {
          rest = took.rest;
          begin = one_more read_as bytes values x far.rest took.rest far.begin took.read;
          reports = took.reports;
          are_bytes = suffix (spell took.read.item) took.rest (subst AreBytes spelled far.are_bytes);
          place = omega (arith, took.count, far.place, lengths);
          room = room;
          levels = given.levels ∙ far.levels;
          formats = given.formats ∙ far.formats;
          going = given.done;
        }

    -- at the end
    pub all_streamed : GivesNone s t → ValuesBegin read_as bytes values []
    all_streamed none =
        elim none.why [
          | inl done ↦ absurd (true_false (sym done ∙ far.going))
          | inr end ↦
              let none : far.rest ≡ [] = subst (λ (o : Option (List ℕ)). IfSome o (λ bs. bs ≡ [])) far.reports.is end in
              subst (λ (bs : List ℕ). ValuesBegin read_as bytes values bs) none far.begin
        ]
      where
        true_false : true ≡ false → ⊥
        true_false e = absurd cc

    abbrev Why : Formats → ℕ → Error → Type 0
    Why f levels e = ExcusedBy (ReportsIo reader_refusals) (code_of e) (offset_of e) ⊎ BeginsAsNone f levels (by f) s.input far.rest

    -- after an error
    pub most_streamed : (total : Bool) (e : Error) → GivesError reader_refusals by total e s t → IsMemoryOrFault e ⊎ AreMostValues read_as bytes values far.rest
    most_streamed total e given =
        let why = item_taken reader_refusals s.formats (by s.formats) s.levels s.input t.input far.rest far.reports far.are_bytes (Err e) (record {
          took = given.refused.took;
          reported = λ bs reported. elim (given.refused.reported bs reported) [ inl excused ↦ inl excused | inr none ↦ inr none.1 ];
        }) in
        elim (subst (λ (f : Formats). Why f max_depth e) far.formats (subst (λ (n : ℕ). Why s.formats n e) far.levels why)) [
          | inl excused ↦ inl (memory_or_fault (code_of e) (offset_of e) excused)
          | inr none ↦ inr (record {
            begin = far.begin;
            most = longest read_as values bytes far.rest far.begin
                (λ y others begins. none y others begins (subst (λ (most : Option ℕ). FitsScratch most begins.item) (sym far.room) tt));
          })
        ]
