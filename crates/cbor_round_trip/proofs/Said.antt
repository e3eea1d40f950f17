-- What bytes say that are one item, as it is written, and as it is read from a slice.
use Rattle.std.proofs.Common.{◌≡◌, ◌∙◌, ◌⊎◌, ◌≤◌, ◌<◌, ◌^◌, ℕ, Bool, true, false, List, [], ◌∷◌, length, Option, Some, None, Result, Ok, Err, IfOk, MatchResult, Vec, inl, inr, refl, sym, ap, subst, append-nil, arith}
use Rattle.std.specs.Global.{Global}
use Rattle.std.specs.Io.KnownBytes.{Consumes}
use Rattle.cbor_model.specs.Acceptable.{FitsScratch, max_depth}
use Rattle.cbor_model.specs.Document.{Doc, document_bytes, raw_of, IsDocumentInRange, IsStorableDocument}
use Rattle.cbor_model.specs.Formats.{Formats, HasAllowedKeys, all_formats}
use Rattle.cbor_model.specs.Raw.{AreBytes, Raw, depth}
use Rattle.cbor_model.specs.Readable.{Context}
use Rattle.cbor_model.specs.Spelling.{spell}
use Rattle.cbor_model.proofs.facts.Laws.{document_is_acceptable, one_spelling}
use Rattle.cbor_io.specs.Error.{IsOutOfMemory, code_of, offset_of}
use Rattle.cbor_io.specs.declared.error.Error.{Error}
use Rattle.cbor_io.specs.declared.error.ErrorCode.{ErrorCode}
use Rattle.cbor_io.specs.declared.error.ErrorCode.TheVariants.{Io, LengthOutOfRange, OutOfMemory, TrailingData}
use Rattle.cbor_read.specs.Source.{Input, Lends, fixed_refusals, start_of_slice}
use Rattle.cbor_decode.specs.AtEnd.{EndRefused}
use Rattle.cbor_decode.specs.Gives.{Ends, ReportsIo}
use Rattle.cbor_decode_as.specs.Takes.{ExcusedBy, TakesItem, lending}
use Rattle.cbor_de.specs.ItemTaken.{BeginsAs, BeginsAsNone, ItemTaken, TookItem}
use Rattle.cbor_round_trip.specs.NoChunks.{HasNoChunks}
use Rattle.cbor_round_trip.specs.ReadBack.{IsWrittenReadBack}
use Rattle.cbor_round_trip.specs.Said.{SaysOnlyWithin, SaysWithin}
use Rattle.cbor_round_trip.proofs.NoChunks.{no_chunks}

-- a slice lends definite strings alone
abbrev lends : Lends
lends = record { whole = true; joined = false }

-- ---- what was written

module _ {A : Type 0} {document : A → Doc} {reads : Context → Raw → A → Type 0} {fits : A → Type 0} (law : IsWrittenReadBack document reads fits)
    (packed legacy : Bool) (levels : ℕ) (within : levels ≤ max_depth) (x : A) (fit : fits x) (plain : depth (raw_of (document x) packed legacy) ≤ levels) (unchunked : HasNoChunks (document x)) where
  -- within as many levels as it nests, or more, it says what was written
  pub says_written : (bytes : List ℕ) → IsStorableDocument (document x) → IsDocumentInRange (document x) → bytes ≡ document_bytes (document x) packed legacy
      → SaysOnlyWithin levels document (reads (lending all_formats lends)) bytes x
  unfolding document_bytes
  says_written bytes stored range is =
      let r = raw_of (document x) packed legacy in
      let good = document_is_acceptable levels (document x) packed legacy stored range plain in
      let spelt = law.itself x fit lends packed legacy stored range (omega (arith, plain, within)) in
      let same = (one_spelling spelt.item r [] spelt.acceptable.fits good.fits (append-nil (spell spelt.item) ∙ spelt.spelled)).0 in
      record {
        itself = record {
          item = r;
          begins = record { spelled = is ∙ sym (append-nil (spell r)); acceptable = good };
          keys = subst (HasAllowedKeys all_formats) same spelt.keys;
          means = subst (λ (item : Raw). reads (lending all_formats lends) item x) same spelt.means;
        };
        fits = (let none = no_chunks (document x) packed legacy unchunked in omega arith);
        alone = λ y says. law.alone x y fit lends packed legacy stored range (record {
          item = says.item;
          acceptable = record {
            fits = says.begins.acceptable.fits;
            nests = omega (arith, says.begins.acceptable.nests, within);
            texts = says.begins.acceptable.texts;
          };
          keys = says.keys;
          spelled = sym (append-nil (spell says.item)) ∙ sym says.begins.spelled ∙ is;
          means = says.means;
        });
      }

  -- so does what a call wrote
  pub vec_says_written : (r : Result (Vec ℕ Global) Error) → IfOk r (λ v. IsStorableDocument (document x)) → IfOk r (λ v. IsDocumentInRange (document x))
      → IfOk r (λ v. v.items ≡ document_bytes (document x) packed legacy)
      → IfOk r (λ v. SaysOnlyWithin levels document (reads (lending all_formats lends)) v.items x)
  vec_says_written (Ok v) stored range is = says_written v.items stored range is
  vec_says_written (Err e) stored range is = tt

-- ---- what is read from a slice, with a scratch

memory_alone : (code : ErrorCode) (at : ℕ) → ExcusedBy (ReportsIo fixed_refusals) code at → (code ≡ OutOfMemory) × (at ≡ 0)
memory_alone OutOfMemory at h = (refl, h)
memory_alone (Io fault) at h = let e = h.0.1 in absurd cc
memory_alone _ at h = absurd h

none_left : (b : ℕ) (left : Option (List ℕ)) → Consumes (Some []) left (b ∷ []) → ⊥
none_left b None h = h
none_left b (Some rest) h = absurd cc

ended : (code : ErrorCode) (at : ℕ) (t u : Input) → t.to_come ≡ Some [] → EndRefused fixed_refusals code at t u → ⊥
ended TrailingData at t u none h = none_left h.byte u.to_come (subst (λ (left : Option (List ℕ)). Consumes left u.to_come (h.byte ∷ [])) none h.took.bytes)
ended (Io fault) at t u none h = let e = h.0 in absurd cc
ended LengthOutOfRange at t u none h = let e = h.0 in absurd cc
ended _ at t u none h = absurd h

module _ {A : Type 0} (reads : Context → Raw → A → Type 0) where
  abbrev as_read : Raw → A → Type 0
  as_read = reads (lending all_formats lends)

  module _ (law : ItemTaken reads) (bytes : List ℕ) (room levels : ℕ) (are : AreBytes bytes) (short : length bytes < 2 ^ 64)
      {s : Input} (t : Input) {f : Formats} {left : ℕ} (begun : s ≡ start_of_slice bytes (Some room)) (deep : left ≡ levels) (formats : f ≡ all_formats) where
    taken : (r : Result A Error) → TakesItem fixed_refusals f (reads (lending f lends)) left s t r
        → MatchResult r (TookItem all_formats levels as_read (start_of_slice bytes (Some room)) t bytes)
        (λ e. ExcusedBy (ReportsIo fixed_refusals) (code_of e) (offset_of e) ⊎ BeginsAsNone all_formats levels as_read (start_of_slice bytes (Some room)) bytes)
    taken r given =
        let here = subst (λ (x : Input). TakesItem fixed_refusals f (reads (lending f lends)) left x t r) begun given in
        let within = subst (λ (n : ℕ). TakesItem fixed_refusals f (reads (lending f lends)) n (start_of_slice bytes (Some room)) t r) deep here in
        law fixed_refusals all_formats lends levels (start_of_slice bytes (Some room)) t bytes r (record { is = refl; short = omega (arith, short) }) are
        (subst (λ (g : Formats). TakesItem fixed_refusals g (reads (lending g lends)) levels (start_of_slice bytes (Some room)) t r) formats within)

    -- an item, and nothing behind it
    pub whole_read : (x : A) → TakesItem fixed_refusals f (reads (lending f lends)) left s t (Ok x) → Ends fixed_refusals t (Ok tt) → SaysWithin levels as_read bytes x
    whole_read x given end =
        let took = taken (Ok x) given in
        subst (λ (rest : List ℕ). BeginsAs all_formats levels as_read bytes x rest) (end took.rest took.reports) took.read

    module _ (e : Error) (x : A) (says : SaysWithin levels as_read bytes x) where
      -- what says a value is refused for lack of memory alone, where the scratch is long enough
      pub front_refused : FitsScratch (Some room) says.item → TakesItem fixed_refusals f (reads (lending f lends)) left s t (Err e) → IsOutOfMemory e
      front_refused fits given = elim (taken (Err e) given) [
        | inl excused ↦ memory_alone (code_of e) (offset_of e) excused
        | inr none ↦ absurd (none x [] says fits)
      ]

      -- and nothing is found behind it
      pub end_refused : (y : A) (u : Input) → TakesItem fixed_refusals f (reads (lending f lends)) left s t (Ok y) → EndRefused fixed_refusals (code_of e) (offset_of e) t u → IsOutOfMemory e
      end_refused y u given end =
          let took = taken (Ok y) given in
          let same = sym took.read.begins.spelled ∙ says.begins.spelled ∙ append-nil _ in
          let nothing = (one_spelling took.read.item says.item took.rest took.read.begins.acceptable.fits says.begins.acceptable.fits same).1 in
          absurd (ended (code_of e) (offset_of e) t u (took.reports.is ∙ ap Some nothing) end)
