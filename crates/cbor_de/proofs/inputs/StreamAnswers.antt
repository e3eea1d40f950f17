-- What a stream gives, from its steps.
use Rattle.std.proofs.Common.{◌≡◌, ◌≢◌, ◌∙◌, inl, inr, ◌⊎◌, ◌+◌, ◌-◌, ℕ, Bool, true, false, List, [], ◌∷◌, ◌++◌, map, length, Option, Result, Ok, Err, IfSome, refl, sym, ap, ap₂, subst, arith}
use Rattle.std.specs.Prelude.{flat_map}
use Rattle.std.specs.Iterator.{Yields}
use Rattle.std.specs.List.{AllByRecursion}
use Rattle.cbor_model.specs.Acceptable.{max_depth, FitsScratch}
use Rattle.cbor_model.specs.Allowed as model
use Rattle.cbor_model.specs.Formats.{Formats, all_formats}
use Rattle.cbor_model.specs.Plain.{Val}
use Rattle.cbor_model.specs.Raw.{Raw, AreBytes}
use Rattle.cbor_model.specs.RawReader.{Begins}
use Rattle.cbor_model.specs.Reader.{Fault, Reads, item_at}
use Rattle.cbor_model.specs.Spelling.{spell}
use Rattle.cbor_model.specs.Value.{value}
use Rattle.cbor_model.proofs.facts.Reader.{item_found, item_again, all_allowed}
use Rattle.cbor_io.specs.declared.error.Error.{Error}
use Rattle.cbor_io.specs.declared.read_error.ReadErrorCode.{ReadErrorCode}
use Rattle.cbor_io.specs.Error.{code_of, offset_of, IsOutOfMemory}
use Rattle.cbor_read.specs.Source.{Input}
use Rattle.cbor_decode.specs.FirstRefusal.{ReportsFirst}
use Rattle.cbor_decode.specs.Gives.{Limits, limits, Reports, Step, ReportsIo, FailsBy, IsMemoryOrFault, values}
use Rattle.cbor_decode.proofs.facts.FirstRefusal.{item_limits, item_first}
use Rattle.cbor_decode_as.specs.Takes.{raws, IsRead, WhereTotal, ReportsFault}
use Rattle.cbor_de.proofs.facts.Readings.{along, value_seen}
use Rattle.cbor_decode_as.proofs.facts.Refusals.{excused_or}
use Rattle.cbor_de.proofs.facts.Readings.{where_map}
use Rattle.cbor_de.specs.Items.{AreMostItems}
use Rattle.cbor_de.specs.Streams.{Stream, StreamGives, GivesNone, GivesItem, GivesError, begun}
use Rattle.cbor_de.specs.StreamAnswers.{AreReadAs, IsExcused, IsFault, Rejected, Faulty, limits_at, AnswersTo, StreamAnswers}
use Rattle.cbor_de.proofs.taken.ItemFronts.{behind_bytes}
use Rattle.cbor_de.proofs.taken.Items.{most_behind, first_begins, no_items, none_behind}

-- a stream over these bytes, of an input that ends there
record Over (levels end : ℕ) (room : Option ℕ) (s : Stream) (bs : List ℕ) : Type 0 where
  going : s.done ≡ false
  levels_is : s.levels ≡ levels
  formats : s.formats ≡ all_formats
  reports : Reports s.input bs
  bytes : AreBytes bs
  end_is : s.input.offset + length bs ≡ end
  room_is : s.input.room ≡ room

not_done : (b : Bool) → (b ≡ true → ⊥) → b ≡ false
not_done true none = absurd (none refl)
not_done false none = refl

not_both : (read : Reads Val) (x : Val × List ℕ) → read ≡ Ok x → (f : Fault) → read ≡ Err f → ⊥
not_both read x is f fails = let both : Ok x ≡ Err f = sym is ∙ fails in cc

module _ {A : Type 0} (reads : Formats → Raw → A → Type 0) (total : Bool) (refusals : ReadErrorCode → Bool) (levels end : ℕ) (room : Option ℕ) where
  abbrev Device : Type 0
  Device = ReportsIo refusals

  abbrev Gives : Stream → Option (Result A Error) → Stream → Type 0
  Gives = StreamGives refusals reads total

  abbrev Answers : List Raw → List ℕ → List (Result A Error) → Type 0
  Answers = AnswersTo (reads all_formats) total Device levels end room

  abbrev Here : Limits
  Here = record { total = end; room = room }

  here : (s : Stream) (bs : List ℕ) → Over levels end room s bs → limits s.input bs ≡ Here
  here s bs o = ap₂ (λ (n : ℕ) (r : Option ℕ). record { total = n; room = r }) o.end_is o.room_is

  -- what is read there is read at these limits
  raw_here : (s : Stream) (bs : List ℕ) → Over levels end room s bs → item_at (raws s.formats (limits s.input bs)) s.levels bs ≡ item_at (raws all_formats Here) levels bs
  raw_here s bs o =
      ap (λ (f : Formats). item_at (raws f (limits s.input bs)) s.levels bs) o.formats
      ∙ ap (λ (l : Limits). item_at (raws all_formats l) s.levels bs) (here s bs o)
      ∙ ap (λ (n : ℕ). item_at (raws all_formats Here) n bs) o.levels_is

  value_here : (s : Stream) (bs : List ℕ) → Over levels end room s bs → item_at (values s.formats (limits s.input bs)) s.levels bs ≡ item_at (values all_formats Here) levels bs
  value_here s bs o =
      ap (λ (f : Formats). item_at (values f (limits s.input bs)) s.levels bs) o.formats
      ∙ ap (λ (l : Limits). item_at (values all_formats l) s.levels bs) (here s bs o)
      ∙ ap (λ (n : ℕ). item_at (values all_formats Here) n bs) o.levels_is

  -- ---- an item

  -- what follows an item that was given
  record After (t : Stream) (bs : List ℕ) (x : A) : Type 0 where
    item : Raw
    rest : List ℕ
    begins : Begins levels bs item rest
    means : reads all_formats item x
    over : Over levels end room t rest

  after : (s t : Stream) (bs : List ℕ) (x : A) → Over levels end room s bs → GivesItem refusals reads x s t → After t bs x
  after s t bs x o h =
      let item : Step s.input t.input (λ l bs rest. IsRead (reads s.formats) (item_at (raws s.formats l) s.levels bs) x rest) = h.item in
      let got = item.reported bs o.reports in
      let r = got.holds.item in
      let read : item_at (raws all_formats Here) levels bs ≡ Ok (r, got.rest) = sym (raw_here s bs o) ∙ got.holds.is in
      let here = (item_found all_formats end room levels bs got.rest r o.bytes read).0 in
      record {
        item = r;
        rest = got.rest;
        begins = here;
        means = subst (λ (f : Formats). reads f r x) o.formats got.holds.means;
        over = record {
          going = h.done;
          levels_is = h.levels ∙ o.levels_is;
          formats = h.formats ∙ o.formats;
          reports = got.reports;
          bytes = behind_bytes (spell r) got.rest (subst AreBytes here.spelled o.bytes);
          end_is = got.total ∙ o.end_is;
          room_is = item.took.room ∙ o.room_is;
        };
      }

  -- an item that was given before the items is none of them
  no_item_before : (s t : Stream) (bs rest : List ℕ) (x : A) → Over levels end room s bs → AreMostItems levels bs [] rest → GivesItem refusals reads x s t → ⊥
  no_item_before s t bs rest x o are h =
      let a = after s t bs x o h in
      none_behind levels bs [] rest are a.item a.rest (subst (λ (y : List ℕ). Begins levels y a.item a.rest) are.begin.spelled a.begins)

  -- ---- an error

  -- what bounds the item at the front of what is to come
  bounds : (s : Stream) (bs : List ℕ) → Over levels end room s bs → item_limits levels s.input ≡ limits_at (reads all_formats) total Device levels end room bs
  bounds s bs o =
      let start : s.input.offset ≡ end - length bs = omega (arith, o.end_is) in
      ap₂ (λ (n : ℕ) (r : Option ℕ). record { start = n; levels = levels; scratch = r }) start o.room_is

  first_there : (s : Stream) (bs : List ℕ) (e : Error) → Over levels end room s bs
      → IsOutOfMemory e ⊎ ((Device × IsMemoryOrFault e) ⊎ ReportsFirst (item_limits levels s.input) bs e)
      → IsOutOfMemory e ⊎ ((Device × IsMemoryOrFault e) ⊎ ReportsFirst (limits_at (reads all_formats) total Device levels end room bs) bs e)
  first_there s bs e o (inl memory) = inl memory
  first_there s bs e o (inr (inl fault)) = inr (inl fault)
  first_there s bs e o (inr (inr first)) = inr (inr (subst (λ (l : model.Limits). ReportsFirst l bs e) (bounds s bs o) first))

  -- the reader reads the item at the front
  is_read : (s : Stream) (bs : List ℕ) (r : Raw) (more : List ℕ) → Over levels end room s bs → FitsScratch room r → Begins levels bs r more → item_at (raws all_formats Here) levels bs ≡ Ok (r, more)
  is_read s bs r more o fits b =
      item_again all_formats end room levels bs more r (omega (arith, o.reports.short, o.end_is)) (omega (arith, o.end_is)) fits b (all_allowed r)

  reports_fault : (s t : Stream) (bs : List ℕ) (e : Error) → Over levels end room s bs → GivesError refusals reads total e s t → WhereTotal total (FailsBy Device (code_of e) end (offset_of e) (item_at (values all_formats Here) levels bs))
  reports_fault s t bs e o h = where_map total (λ (reports : ReportsFault refusals (λ l. item_at (values s.formats l) s.levels) s.input e).
      subst (λ (n : ℕ). FailsBy Device (code_of e) n (offset_of e) (item_at (values all_formats Here) levels bs)) o.end_is
      (subst (λ (r : Reads Val). FailsBy Device (code_of e) (s.input.offset + length bs) (offset_of e) r) (value_here s bs o) (reports bs o.reports))) h.fault

  -- and so the first refusal of an item there
  reports_first : (s : Stream) (bs : List ℕ) (e : Error) → Over levels end room s bs
      → WhereTotal total (FailsBy Device (code_of e) end (offset_of e) (item_at (values all_formats Here) levels bs))
      → Faulty (reads all_formats) total Device levels end room bs e
  reports_first s bs e o h = where_map total (λ (fails : FailsBy Device (code_of e) end (offset_of e) (item_at (values all_formats Here) levels bs)).
      first_there s bs e o
      (item_first levels s.input bs o.bytes e Device
      (subst (λ (l : Limits). FailsBy Device (code_of e) l.total (offset_of e) (item_at (values all_formats l) levels bs)) (sym (here s bs o)) fails))) h

  -- where an item is at the front, it isn't read as the type, or the error is excused
  unread : (s t : Stream) (bs : List ℕ) (r : Raw) (more : List ℕ) (e : Error) → Over levels end room s bs → FitsScratch room r → Begins levels bs r more → GivesError refusals reads total e s t → Rejected (reads all_formats) total Device levels end room r e
  unread s t bs r more e o fits b h =
      let is = is_read s bs r more o fits b in
      let value_is : item_at (values all_formats Here) levels bs ≡ Ok (value r, more) = value_seen all_formats Here levels bs ∙ ap (along value) is in
      record {
        not = elim (h.refused.reported bs o.reports) [
          | inl x ↦ inl x
          | inr n ↦ inr (λ x means. n.1 x more (record { item = r; is = raw_here s bs o ∙ is; means = subst (λ (f : Formats). reads f r x) (sym o.formats) means }))
        ];
        excused = where_map total (λ (fails : FailsBy Device (code_of e) end (offset_of e) (item_at (values all_formats Here) levels bs)).
            elim (excused_or Device (code_of e) end (offset_of e) (item_at (values all_formats Here) levels bs) fails) [
              | inl x ↦ x
              | inr f ↦ absurd (not_both _ _ value_is f.0 f.1)
            ]) (reports_fault s t bs e o h);
      }

  -- and where nothing is to come
  fault_at_end : (s t : Stream) (e : Error) → Over levels end room s [] → GivesError refusals reads total e s t → IsFault Device e
  fault_at_end s t e o h = elim (h.refused.reported [] o.reports) [
    | inl x ↦ (x, h.at_end o.reports)
    | inr n ↦ absurd (n.0 refl)
  ]

  last : (s t : Stream) (bs rest : List ℕ) (items : List Raw) (e : Error) → Over levels end room s bs → AreMostItems levels bs items rest → AllByRecursion (FitsScratch room) items → GivesError refusals reads total e s t → Answers items rest (Err e ∷ [])
  last s t bs rest (r ∷ rs) e o are fits h = unread s t bs r (flat_map spell rs ++ rest) e o fits.0 (first_begins levels bs r rs rest are) h
  last s t bs [] [] e o are fits h = fault_at_end s t e (subst (Over levels end room s) are.begin.spelled o) h
  last s t bs (b ∷ rest) [] e o are fits h =
      reports_first s (b ∷ rest) e (subst (Over levels end room s) are.begin.spelled o) (reports_fault s t (b ∷ rest) e (subst (Over levels end room s) are.begin.spelled o) h)

  -- ---- the end

  nothing_left : (s t : Stream) (bs : List ℕ) → Over levels end room s bs → GivesNone s t → bs ≡ []
  nothing_left s t bs o h = elim h.why [
    | inl done ↦ let on : false ≡ true = sym o.going ∙ done in absurd cc
    | inr none ↦ subst (λ (x : Option (List ℕ)). IfSome x (λ bs. bs ≡ [])) o.reports.is none
  ]

  none : (s t : Stream) (bs rest : List ℕ) (items : List Raw) → Over levels end room s bs → AreMostItems levels bs items rest → GivesNone s t → Answers items rest []
  none s t bs rest items o are h =
      let empty = no_items levels items rest (subst (λ (x : List ℕ). AreMostItems levels x items rest) (nothing_left s t bs o h) are) in
      subst (λ (i : List Raw). Answers i rest []) (sym empty.0)
      (subst (λ (x : List ℕ). Answers [] x []) (sym empty.1) tt)

  -- ---- all calls

  run : (answers : List (Result A Error)) (s t u : Stream) (bs rest : List ℕ) (items : List Raw) → Over levels end room s bs → AreMostItems levels bs items rest → AllByRecursion (FitsScratch room) items → Yields Gives s answers t → GivesNone t u → Answers items rest answers
  run [] s t u bs rest items o are fits all ends = none s u bs rest items o are (subst (λ (x : Stream). GivesNone x u) (sym all) ends)
  run (Ok x ∷ answers) s t u bs rest [] o are fits all ends = absurd (no_item_before s all.0 bs rest x o are all.1)
  run (Ok x ∷ answers) s t u bs rest (r ∷ rs) o are fits all ends =
      let a = after s all.0 bs x o all.1 in
      let b = most_behind levels bs r a.item rs rest a.rest are a.begins in
      (subst (λ (i : Raw). reads all_formats i x) (sym b.0) a.means, run answers all.0 t u a.rest rest rs a.over b.1 fits.1 all.2 ends)
  run (Err e ∷ []) s t u bs rest items o are fits all ends = last s all.0 bs rest items e o are fits all.1
  run (Err e ∷ (Ok x ∷ answers)) s t u bs rest items o are fits all ends =
      let on : false ≡ true = sym all.2.1.going ∙ all.1.done in absurd cc
  run (Err e ∷ (Err f ∷ answers)) s t u bs rest items o are fits all ends =
      let on : false ≡ true = sym all.2.1.going ∙ all.1.done in absurd cc

  -- items, and then an error
  run_to_error : (xs : List A) (s t u : Stream) (e : Error) (bs rest : List ℕ) (items : List Raw) → Over levels end room s bs → AreMostItems levels bs items rest → AllByRecursion (FitsScratch room) items → Yields Gives s (map Ok xs) t → GivesError refusals reads total e t u → Answers items rest (map Ok xs ++ Err e ∷ [])
  run_to_error [] s t u e bs rest items o are fits all error = last s u bs rest items e o are fits (subst (λ (x : Stream). GivesError refusals reads total e x u) (sym all) error)
  run_to_error (x ∷ xs) s t u e bs rest [] o are fits all error = absurd (no_item_before s all.0 bs rest x o are all.1)
  run_to_error (x ∷ xs) s t u e bs rest (r ∷ rs) o are fits all error =
      let a = after s all.0 bs x o all.1 in
      let b = most_behind levels bs r a.item rs rest a.rest are a.begins in
      (subst (λ (i : Raw). reads all_formats i x) (sym b.0) a.means, run_to_error xs all.0 t u e a.rest rest rs a.over b.1 fits.1 all.2 error)

  -- a further item is one of the items
  run_to_item : (xs : List A) (s t u : Stream) (x : A) (bs rest : List ℕ) (items : List Raw) → Over levels end room s bs → AreMostItems levels bs items rest → Yields Gives s (map Ok xs) t → GivesItem refusals reads x t u → items ≢ []
  run_to_item [] s t u x bs rest [] o are all item none = no_item_before s u bs rest x o are (subst (λ (y : Stream). GivesItem refusals reads x y u) (sym all) item)
  run_to_item (y ∷ xs) s t u x bs rest [] o are all item none = no_item_before s all.0 bs rest y o are all.1
  run_to_item xs s t u x bs rest (r ∷ rs) o are all item none = absurd cc

pub stream_answers : {A : Type 0} (reads : Formats → Raw → A → Type 0) (total : Bool) → StreamAnswers reads total
stream_answers reads total refusals s bytes rest items answers going formats reports fits are room drains =
    let end = s.input.offset + length bytes in
    let o : Over s.levels end s.input.room s bytes = record { going = going; levels_is = refl; formats = formats; reports = reports; bytes = fits; end_is = refl; room_is = refl } in
    run reads total refusals s.levels end s.input.room answers s drains.1.0 drains.0 bytes rest items o are room drains.1.1 drains.1.2

-- what calls give is what steps between the places where the stream stands give
pub yields_along : {S A B : Type 0} (steps : B → Option A → B → Type 0) (at : S → B) (xs : List A) (s t : S) → Yields (λ p r q. steps (at p) r (at q)) s xs t → Yields steps (at s) xs (at t)
yields_along steps at [] s t h = ap at h
yields_along steps at (x ∷ xs) s t h = (at h.0, h.1, yields_along steps at xs h.0 t h.2)

-- ---- a loop that keeps the items, up to the first error

-- a stream that begins
pub record Begun (source : Input) (s : Stream) : Type 0 where
  pub going : s.done ≡ false
  pub input : s.input ≡ source
  pub levels : s.levels ≡ max_depth
  pub formats : s.formats ≡ all_formats

pub begun_is : (source : Input) (s : Stream) → s ≡ begun source max_depth all_formats → Begun source s
begun_is source s is = record {
  going = ap (λ (x : Stream). x.done) is;
  input = ap (λ (x : Stream). x.input) is;
  levels = ap (λ (x : Stream). x.levels) is;
  formats = ap (λ (x : Stream). x.formats) is;
}

begun_over : (source : Input) (s : Stream) (bs : List ℕ) → Begun source s → Reports source bs → AreBytes bs → Over max_depth (source.offset + length bs) source.room s bs
begun_over source s bs b reports fits = record {
  going = b.going;
  levels_is = b.levels;
  formats = b.formats;
  reports = subst (λ (x : Input). Reports x bs) (sym b.input) reports;
  bytes = fits;
  end_is = ap (λ (x : Input). x.offset + length bs) b.input;
  room_is = ap (λ (x : Input). x.room) b.input;
}

module _ {A : Type 0} (reads : Formats → Raw → A → Type 0) (total : Bool) (refusals : ReadErrorCode → Bool) where
  -- where all answers are items, each is read, and nothing is left
  all_read : (end : ℕ) (room : Option ℕ) (xs : List A) (items : List Raw) (rest : List ℕ) → AnswersTo (reads all_formats) total (ReportsIo refusals) max_depth end room items rest (map Ok xs) → (rest ≡ []) × AreReadAs (reads all_formats) items xs
  all_read end room [] [] [] h = (refl, tt)
  all_read end room [] [] (b ∷ rest) h = absurd h
  all_read end room [] (r ∷ rs) rest h = absurd h
  all_read end room (x ∷ xs) [] [] h = absurd h
  all_read end room (x ∷ xs) [] (b ∷ rest) h = absurd h
  all_read end room (x ∷ xs) (r ∷ rs) rest h = let more = all_read end room xs rs rest h.1 in (more.0, (h.0, more.1))

  -- what was given before the end
  pub items_given : (source : Input) (s t u : Stream) (yielded : List (Result A Error)) (xs : List A) → Begun source s → yielded ≡ map Ok xs → Yields (StreamGives refusals reads total) s yielded t → GivesNone t u
      → (bs rest : List ℕ) (items : List Raw) → Reports source bs → AreBytes bs → AreMostItems max_depth bs items rest → AllByRecursion (FitsScratch source.room) items → (rest ≡ []) × AreReadAs (reads all_formats) items xs
  items_given source s t u yielded xs b is all ends bs rest items reports fits are room =
      let end = source.offset + length bs in
      let given = run reads total refusals max_depth end source.room yielded s t u bs rest items (begun_over source s bs b reports fits) are room all ends in
      all_read end source.room xs items rest (subst (AnswersTo (reads all_formats) total (ReportsIo refusals) max_depth end source.room items rest) is given)

  -- what was given before an error, and the error
  pub error_given : (source : Input) (s t u : Stream) (yielded : List (Result A Error)) (xs : List A) (e : Error) → Begun source s → yielded ≡ map Ok xs → Yields (StreamGives refusals reads total) s yielded t → GivesError refusals reads total e t u
      → (bs rest : List ℕ) (items : List Raw) → Reports source bs → AreBytes bs → AreMostItems max_depth bs items rest → AllByRecursion (FitsScratch source.room) items
      → AnswersTo (reads all_formats) total (ReportsIo refusals) max_depth (source.offset + length bs) source.room items rest (map Ok xs ++ Err e ∷ [])
  error_given source s t u yielded xs e b is all error bs rest items reports fits are room =
      let all' = subst (λ (ys : List (Result A Error)). Yields (StreamGives refusals reads total) s ys t) is all in
      run_to_error reads total refusals max_depth (source.offset + length bs) source.room xs s t u e bs rest items (begun_over source s bs b reports fits) are room all' error

  -- where another was given, there are items
  pub item_given : (source : Input) (s t u : Stream) (yielded : List (Result A Error)) (xs : List A) (x : A) → Begun source s → yielded ≡ map Ok xs → Yields (StreamGives refusals reads total) s yielded t → GivesItem refusals reads x t u
      → (bs rest : List ℕ) (items : List Raw) → Reports source bs → AreBytes bs → AreMostItems max_depth bs items rest → items ≢ []
  item_given source s t u yielded xs x b is all item bs rest items reports fits are =
      let all' = subst (λ (ys : List (Result A Error)). Yields (StreamGives refusals reads total) s ys t) is all in
      run_to_item reads total refusals max_depth (source.offset + length bs) source.room xs s t u x bs rest items (begun_over source s bs b reports fits) are all' item
