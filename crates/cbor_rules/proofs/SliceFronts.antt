-- The item at the front of what is left of a slice: what reading takes of it, and how it is refused.
use Rattle.std.proofs.Common.{◌≡◌, ◌∙◌, ◌⊎◌, ◌≤◌, ◌<◌, ◌^◌, ◌+◌, ℕ, Bool, true, false, List, [], ◌++◌, length, drop, None, Result, Ok, Err, MatchResult, inl, inr, refl, sym, ap, subst, arith}
use Rattle.std.proofs.Math.Seq.{drop-append_seam}
use Rattle.std.proofs.lemmas.List.{drop-drop, get_or-drop, length-append, length-drop}
use Rattle.cbor_model.specs.Acceptable.{max_depth}
use Rattle.cbor_model.specs.Formats.{Formats, all_formats}
use Rattle.cbor_model.specs.Raw.{AreBytes, Raw}
use Rattle.cbor_model.specs.RawReader.{Begins}
use Rattle.cbor_model.specs.Readable.{Context}
use Rattle.cbor_model.specs.Reader.{Reads, item_at}
use Rattle.cbor_model.specs.Spelling.{spell}
use Rattle.cbor_model.specs.Value.{value}
use Rattle.cbor_model.proofs.facts.Reader.{all_allowed, item_again, item_found}
use Rattle.cbor_io.specs.Error.{IsOutOfMemory, code_of, offset_of}
use Rattle.cbor_io.specs.declared.error.Error.{Error}
use Rattle.cbor_io.specs.declared.error.ErrorCode.{ErrorCode}
use Rattle.cbor_io.specs.declared.error.ErrorCode.TheVariants.{Io, Message, OutOfMemory}
use Rattle.cbor_read.specs.Source.{Input, Lends, slice_input, slice_refusals}
use Rattle.cbor_decode.specs.FirstRefusal.{ReportsFirst}
use Rattle.cbor_decode.specs.Gives.{FailsBy, IsMemoryOrFault, Limits, Reports, ReportsIo, limits, values}
use Rattle.cbor_decode.proofs.facts.FirstRefusal.{item_first}
use Rattle.cbor_decode.proofs.facts.Readings.{along, value_seen}
use Rattle.cbor_decode_as.specs.Takes.{ExcusedBy, FaultOrMessage, IsMessage, IsMessageBy, MemoryFor, ReportsFault, ReportsItem, TakesItem, WhereTotal, lending, raws}
use Rattle.cbor_decode_as.proofs.facts.Refusals.{excused_or, item_passes, item_total}
use Rattle.cbor_de.specs.FirstOfItem.{bounds_of}
use Rattle.cbor_de.specs.ItemTaken.{BeginsAs, BeginsAsNone, ItemTaken, TookItem}
use Rattle.cbor_de.specs.Whole.{BeginsUnread}
use Rattle.cbor_rules.specs.NextItem.{EndsAt}

AreBytes-drop : (n : ℕ) (bs : List ℕ) → AreBytes bs → AreBytes (drop n bs)
AreBytes-drop n bs h i = rw get_or-drop (h (n + i))

where_map : {P Q : Type 0} (b : Bool) → (P → Q) → WhereTotal b P → WhereTotal b Q
where_map false f h = tt
where_map true f h = f h

-- a slice has no device: what excuses a refusal is that memory ran out
memory_alone : (code : ErrorCode) (at : ℕ) → ExcusedBy (ReportsIo slice_refusals) code at → (code ≡ OutOfMemory) × (at ≡ 0)
memory_alone OutOfMemory at h = (refl, h)
memory_alone (Io fault) at h = let e = h.0.1 in absurd cc
memory_alone _ at h = absurd h

message_or_memory : (e : Error) (code : ErrorCode) → code_of e ≡ code → IsMessageBy (ReportsIo slice_refusals) code (offset_of e) → IsOutOfMemory e ⊎ IsMessage e
message_or_memory e (Message m) is h = inr (rw is tt, h)
message_or_memory e OutOfMemory is h = inl (is, h)
message_or_memory e (Io fault) is h = let e = h.0.1 in absurd cc
message_or_memory e _ is h = absurd h

-- a slice lends definite strings alone
abbrev lends : Lends
lends = record { whole = true; joined = false }

module _ (bs : List ℕ) (n : ℕ) (within : n ≤ length bs) (are : AreBytes bs) (short : length bs < 2 ^ 64) where
  abbrev here : Input
  here = slice_input bs n [] None

  abbrev left : List ℕ
  left = drop n bs

  abbrev bounds : Limits
  bounds = limits here left

  reports : Reports here left
  reports = record { is = refl; short = omega (arith, length-drop n bs, within, short) }

  -- the reference reader reads the item that is there
  read_here : (item : Raw) (rest : List ℕ) → Begins max_depth left item rest → item_at (raws all_formats bounds) max_depth left ≡ Ok (item, rest)
  read_here item rest begins =
      let short = reports.short in
      item_again all_formats (n + length left) None max_depth left rest item short (omega arith) tt begins (all_allowed item)

  value_here : (item : Raw) (rest : List ℕ) → Begins max_depth left item rest → item_at (values all_formats bounds) max_depth left ≡ Ok (value item, rest)
  value_here item rest begins = value_seen all_formats bounds max_depth left ∙ ap (along value) (read_here item rest begins)

  module _ {A : Type 0} (reads : Context → Raw → A → Type 0) {s : Input} {f : Formats} {levels : ℕ}
      (begun : s ≡ here) (formats : f ≡ all_formats) (deep : levels ≡ max_depth) where
    abbrev as_read : Raw → A → Type 0
    as_read = reads (lending all_formats lends)

    taken : ItemTaken reads → (t : Input) (r : Result A Error) → TakesItem slice_refusals f (reads (lending f lends)) levels s t r
        → MatchResult r (TookItem all_formats max_depth as_read here t left)
        (λ e. ExcusedBy (ReportsIo slice_refusals) (code_of e) (offset_of e) ⊎ BeginsAsNone all_formats max_depth as_read here left)
    taken law t r given =
        let from = subst (λ (x : Input). TakesItem slice_refusals f (reads (lending f lends)) levels x t r) begun given in
        let inside = subst (λ (n : ℕ). TakesItem slice_refusals f (reads (lending f lends)) n here t r) deep from in
        law slice_refusals all_formats lends max_depth here t left r reports (AreBytes-drop n bs are)
        (subst (λ (g : Formats). TakesItem slice_refusals g (reads (lending g lends)) max_depth here t r) formats inside)

    -- ---- read

    rest_is : (front rest : List ℕ) (end : ℕ) → left ≡ front ++ rest → end ≡ n + length front → rest ≡ drop end bs
    rest_is front rest end parts count =
        sym (drop-append_seam front rest) ∙ ap (drop (length front)) (sym parts) ∙ drop-drop (length front) n bs ∙ ap (λ (k : ℕ). drop k bs) (sym count)

    -- it ends where its bytes do
    pub item_ends : ItemTaken reads → (t : Input) (x : A) (end : ℕ) → end ≡ t.offset → TakesItem slice_refusals f (reads (lending f lends)) levels s t (Ok x) → EndsAt as_read bs n x end
    item_ends law t x end counted given =
        let took = taken law t (Ok x) given in
        let count : end ≡ n + length (spell took.read.item) = counted ∙ took.count in
        let parts = took.read.begins.spelled in
        let total : length left ≡ length (spell took.read.item) + length took.rest = ap length parts ∙ length-append (spell took.read.item) took.rest in
        record {
          read = subst (λ (rest : List ℕ). BeginsAs all_formats max_depth as_read left x rest) (rest_is (spell took.read.item) took.rest end parts count) took.read;
          long = count;
          within = omega (arith, count, total, length-drop n bs);
        }

    -- ---- refused

    module _ (e : Error) where
      -- where such an item is there, for lack of memory alone
      pub item_refused : ItemTaken reads → (t : Input) (x : A) (rest : List ℕ) → BeginsAs all_formats max_depth as_read left x rest
          → TakesItem slice_refusals f (reads (lending f lends)) levels s t (Err e) → IsOutOfMemory e
      item_refused law t x rest front given = elim (taken law t (Err e) given) [
        | inl excused ↦ memory_alone (code_of e) (offset_of e) excused
        | inr none ↦ absurd (none x rest front tt)
      ]

      -- where memory ran out for one, it may be asked for that one
      pub item_asked : (asks : Raw → Type 0) (x : A) (rest : List ℕ) (front : BeginsAs all_formats max_depth as_read left x rest)
          → IsOutOfMemory e → MemoryFor asks f (reads (lending f lends)) levels s e → asks front.item
      item_asked asks x rest front ran_out memory =
          let from = subst (λ (x : Input). MemoryFor asks f (reads (lending f lends)) levels x e) begun memory in
          let inside = subst (λ (n : ℕ). MemoryFor asks f (reads (lending f lends)) n here e) deep from in
          let all = subst (λ (g : Formats). MemoryFor asks g (reads (lending g lends)) max_depth here e) formats inside in
          all ran_out.0 left reports x rest (record { item = front.item; is = read_here front.item rest front.begins; means = front.means })

      abbrev First : Type 0
      First = ReportsFirst (bounds_of max_depth here) left e

      -- the fault that is met is the first refusal
      by_fault : FailsBy (ReportsIo slice_refusals) (code_of e) (n + length left) (offset_of e) (item_at (values all_formats bounds) max_depth left) → IsOutOfMemory e ⊎ First
      by_fault h = without_device (item_first max_depth here left (AreBytes-drop n bs are) e (ReportsIo slice_refusals) h)
        where
          without_device : IsOutOfMemory e ⊎ ((ReportsIo slice_refusals × IsMemoryOrFault e) ⊎ First) → IsOutOfMemory e ⊎ First
          without_device (inl memory) = inl memory
          without_device (inr (inl fault)) = let is = fault.0.1 in absurd cc
          without_device (inr (inr first)) = inr first

      -- an item that isn't read, by a message; and what is no item, by its first refusal
      abbrev Refuses : Type 0
      Refuses = (IsMessage e × BeginsUnread as_read None left) ⊎ (First × (BeginsUnread as_read None left → ⊥))

      unread : (item : Raw) (rest : List ℕ) → Begins max_depth left item rest → IsMessage e
          → ExcusedBy (ReportsIo slice_refusals) (code_of e) (offset_of e) ⊎ BeginsAsNone all_formats max_depth as_read here left → IsOutOfMemory e ⊎ Refuses
      unread item rest begins message (inl excused) = inl (memory_alone (code_of e) (offset_of e) excused)
      unread item rest begins message (inr none) = inr (inl (
        message,
        record {
          item = item;
          rest = rest;
          begins = begins;
          joins = tt;
          unread = λ x means. none x rest (record { item = item; begins = begins; keys = all_allowed item; means = means }) tt;
        },
      ))

      refuses : (read : Reads Raw) → item_at (raws all_formats bounds) max_depth left ≡ read
          → FaultOrMessage (ReportsIo slice_refusals) (code_of e) (n + length left) (offset_of e) (along value read)
          → ExcusedBy (ReportsIo slice_refusals) (code_of e) (offset_of e) ⊎ BeginsAsNone all_formats max_depth as_read here left → IsOutOfMemory e ⊎ Refuses
      refuses (Ok x) is message none = elim (message_or_memory e (code_of e) refl message) [
        | inl memory ↦ inl memory
        | inr told ↦ unread x.0 x.1 (item_found all_formats (n + length left) None max_depth left x.1 x.0 (AreBytes-drop n bs are) is).0 told none
      ]
      refuses (Err fault) is failed none =
          let met : Err fault ≡ item_at (values all_formats bounds) max_depth left = sym (value_seen all_formats bounds max_depth left ∙ ap (along value) is) in
          elim (by_fault (subst (FailsBy (ReportsIo slice_refusals) (code_of e) (n + length left) (offset_of e)) met failed)) [
            | inl memory ↦ inl memory
            | inr first ↦ inr (inr (first, λ u. let both = sym is ∙ read_here u.item u.rest u.begins in absurd cc))
          ]

      module _ (passes_over total : Bool) (given : ReportsItem passes_over total slice_refusals f levels s e) where
        reported : ReportsItem passes_over total slice_refusals all_formats max_depth here e
        reported =
            let from = subst (λ (x : Input). ReportsItem passes_over total slice_refusals f levels x e) begun given in
            let inside = subst (λ (n : ℕ). ReportsItem passes_over total slice_refusals f n here e) deep from in
            subst (λ (g : Formats). ReportsItem passes_over total slice_refusals g max_depth here e) formats inside

        abbrev Fault : Type 0
        Fault = ReportsFault slice_refusals (λ l. item_at (values all_formats l) max_depth) here e

        -- a type that reads every item reports the first refusal
        pub refused_first : WhereTotal total (IsOutOfMemory e ⊎ First)
        refused_first = where_map total (λ (fault : Fault). by_fault (fault left reports)) (item_total passes_over total slice_refusals all_formats max_depth here e reported)

        -- where an item is there, for lack of memory alone
        pub refused_every : (item : Raw) (rest : List ℕ) → Begins max_depth left item rest → WhereTotal total (IsOutOfMemory e)
        refused_every item rest begins = where_map total by (item_total passes_over total slice_refusals all_formats max_depth here e reported)
          where
            by : Fault → IsOutOfMemory e
            by fault = elim (excused_or (ReportsIo slice_refusals) (code_of e) (n + length left) (offset_of e) (item_at (values all_formats bounds) max_depth left) (fault left reports)) [
              | inl excused ↦ memory_alone (code_of e) (offset_of e) excused
              | inr met ↦ absurd (let both = sym (value_here item rest begins) ∙ met.1 in cc)
            ]

        -- a type that passes over an item that it doesn't read refuses it by a message
        pub refused_unread : ItemTaken reads → (t : Input) → TakesItem slice_refusals f (reads (lending f lends)) levels s t (Err e) → WhereTotal passes_over (IsOutOfMemory e ⊎ Refuses)
        refused_unread law t taking = where_map passes_over
            (λ whole. refuses (item_at (raws all_formats bounds) max_depth left) refl
            (subst (FaultOrMessage (ReportsIo slice_refusals) (code_of e) (n + length left) (offset_of e)) (value_seen all_formats bounds max_depth left) (whole left reports))
            (taken law t (Err e) taking))
            (item_passes passes_over total slice_refusals all_formats max_depth here e reported)
