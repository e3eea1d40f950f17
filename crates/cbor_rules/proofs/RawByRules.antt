-- What is taken of a source by rules that are looked at as its bytes come.
use Rattle.std.proofs.Common.{◌+◌, Ok, IfSome, true, false, Option, ◌≡◌, ◌≢◌, ◌∙◌, ◌<◌, ◌≤◌, ◌^◌, ℕ, Bool, List, [], ◌∷◌, ◌++◌, length, take, drop, Some, None, inl, inr, refl, sym, ap, subst, arith, append-nil}
use Rattle.std.proofs.lemmas.List.{length-append, nil_from_length, take-append-drop, take-append-le}
use Rattle.std.specs.Io.KnownBytes.{Consumes, Keeps}
use Rattle.std.proofs.Math.Decide.{dec_le}
use Rattle.std.proofs.Math.Seq.{take-append_seam}
use Rattle.cbor_model.specs.Encoding.{IsEncoding}
use Rattle.cbor_model.specs.Formats.{all_formats}
use Rattle.cbor_model.specs.Raw.{Raw, IsWellFormed}
use Rattle.cbor_model.specs.RawReader.{Begins}
use Rattle.cbor_model.specs.Spelling.{spell}
use Rattle.cbor_model.proofs.facts.Reader.{all_allowed, is_encoding, item_again, ok_is}
use Rattle.cbor_io.specs.Error.{IsOutOfMemory, code_of, offset_of}
use Rattle.cbor_io.specs.declared.error.Error.{Error}
use Rattle.cbor_io.specs.declared.error.ErrorCode.{ErrorCode}
use Rattle.cbor_io.specs.declared.read_error.ReadError.{ReadError}
use Rattle.cbor_io.specs.ReadError.{error_code, place, why}
use Rattle.cbor_io.specs.declared.read_error.ReadErrorCode.{ReadErrorCode}
use Rattle.cbor_io.specs.declared.read_error.ReadErrorCode.TheVariants as reading
use Rattle.cbor_model.specs.Reader.{Reads}
use Rattle.cbor_read.specs.Source.{Input, RefusedByte, Stays, TookKept}
use Rattle.cbor_read.proofs.facts.Sources.{kept_some, some_then}
use Rattle.cbor_decode.specs.Gives.{Limits, Reports, ReportsIo}
use Rattle.cbor_decode.proofs.facts.Steps.{byte_refused, taken_step, took_stays}
use Rattle.cbor_decode_as.specs.Takes.{ExcusedBy}
use Rattle.cbor_decode_as.proofs.facts.Refusals.{excused_or}
use Rattle.cbor_pushed.proofs.facts.Scans.{none_of_none}
use Rattle.cbor_pushed.specs.ItemAtFront.{HasItem, HasNoItem}
use Rattle.cbor_raw.specs.Gathered.{GathersNone, IsWhole}
use Rattle.cbor_rules.specs.Answers.{IfDeparts, IfUnread}
use Rattle.cbor_rules.specs.declared.answers.Refusal.{Refusal}
use Rattle.cbor_rules.specs.declared.answers.Refusal.TheVariants.{Unread, Departs}
use Rattle.cbor_rules.specs.NextItem.{departure_from}
use Rattle.cbor_rules.specs.RawByRules.{ReportsDepartureOrFault, GathersByRules, IsSourceFaultBy, MayBegin, ShowsDeparture}
use Rattle.cbor_rules.specs.Rules.{Terms, first_departure}
use Rattle.cbor_rules.specs.declared.answers.Departure.{Departure}
use Rattle.cbor_rules.proofs.KeptRules.{none_where_kept}

-- one acceptable item is at the front of bytes
pub one_item : (levels : ℕ) (bs : List ℕ) → length bs < 2 ^ 64 → (one other : Raw) (rest left : List ℕ) → Begins levels bs one rest → Begins levels bs other left → one ≡ other
one_item levels bs short one other rest left first second =
    let read = item_again all_formats (length bs) None levels bs rest one short (omega arith) tt first (all_allowed one) in
    let again = item_again all_formats (length bs) None levels bs left other short (omega arith) tt second (all_allowed other) in
    ap (λ (p : Raw × List ℕ). p.0) (ok_is (one, rest) (other, left) (sym read ∙ again))

-- one that begins with bytes at whose front none is goes on behind them
module _ (levels : ℕ) (front more : List ℕ) (item : Raw) (rest : List ℕ) (none : HasNoItem levels front) (begins : Begins levels (front ++ more) item rest) where
  by_length : Dec (length front ≤ length (spell item)) → spell item ≡ front ++ drop (length front) (spell item)
  by_length (yes longer) =
      let same : take (length front) (spell item) ≡ front =
      sym (take-append-le (length front) (spell item) rest longer) ∙ ap (take (length front)) (sym begins.spelled) ∙ take-append_seam front more in
      sym (take-append-drop (length front) (spell item)) ∙ ap (λ (l : List ℕ). l ++ drop (length front) (spell item)) same
  by_length (no shorter) =
      let n = length (spell item) in
      let within : n ≤ length front = omega (arith, shorter) in
      let same : take n front ≡ spell item = sym (take-append-le n front more within) ∙ ap (take n) begins.spelled ∙ take-append_seam (spell item) rest in
      absurd (none item (drop n front) (record {
        spelled = sym (take-append-drop n front) ∙ ap (λ (l : List ℕ). l ++ drop n front) same;
        acceptable = begins.acceptable;
      }))

  pub goes_on : spell item ≡ front ++ drop (length front) (spell item)
  goes_on = by_length (dec_le (length front) (length (spell item)))

-- bytes that an item takes up are its encoding
module _ (levels : ℕ) (bytes : List ℕ) (has : HasItem levels bytes (length bytes)) where
  pub whole_spelled : bytes ≡ spell has.item
  whole_spelled =
      let begins = has.begins in
      let nothing : has.rest ≡ [] = nil_from_length has.rest (omega (arith, has.ends, ap length begins.spelled, length-append (spell has.item) has.rest)) in
      begins.spelled ∙ ap (λ (l : List ℕ). spell has.item ++ l) nothing ∙ append-nil (spell has.item)

  pub whole_encodes : length bytes < 2 ^ 64 → IsEncoding bytes
  whole_encodes short =
      let good = has.begins.acceptable in
      is_encoding bytes has.item short (record { spelled = sym whole_spelled; fits = good.fits; texts = good.texts })

  -- whatever follows them
  whole_begins : (more : List ℕ) → Begins levels (bytes ++ more) has.item more
  whole_begins more = record { spelled = ap (λ (l : List ℕ). l ++ more) whole_spelled; acceptable = has.begins.acceptable }

  whole_is : (more : List ℕ) (item : Raw) (rest : List ℕ) → length (bytes ++ more) < 2 ^ 64 → Begins levels (bytes ++ more) item rest → spell item ≡ bytes
  whole_is more item rest short begins =
      ap spell (one_item levels (bytes ++ more) short item has.item rest more begins (whole_begins more)) ∙ sym whole_spelled

-- bytes that show a departure of each item that they begin
module _ (terms : Terms) (levels : ℕ) (front : List ℕ) (start : ℕ) (d : Departure) (shown : (item : Raw) (more : List ℕ) → IsWellFormed item → spell item ≡ front ++ more → departure_from start terms item ≡ Some d) where
  of_front : MayBegin levels front → (more : List ℕ) (item : Raw) (rest : List ℕ) → length (front ++ more) < 2 ^ 64 → Begins levels (front ++ more) item rest → departure_from start terms item ≡ Some d
  of_front (inl whole) more item rest short begins =
      shown item [] begins.acceptable.fits (whole_is levels front whole more item rest short begins ∙ sym (append-nil front))
  of_front (inr unfinished) more item rest short begins =
      shown item (drop (length front) (spell item)) begins.acceptable.fits (goes_on levels front more item rest unfinished.no_item begins)

-- an error that says that memory ran out is excused
out_of_memory : (refusals : ReadErrorCode → Bool) (e : Error) → IsOutOfMemory e → ExcusedBy (ReportsIo refusals) (code_of e) (offset_of e)
out_of_memory refusals e memory = subst (λ (k : ErrorCode). ExcusedBy (ReportsIo refusals) k (offset_of e)) (sym memory.0) memory.1

-- so many bytes were taken
module _ (s t : Input) (front : List ℕ) (took : TookKept s t front) where
  pub shows_departure : (terms : Terms) (levels : ℕ) (d : Departure) → MayBegin levels front
      → ((item : Raw) (more : List ℕ) → IsWellFormed item → spell item ≡ front ++ more → departure_from s.offset terms item ≡ Some d)
      → ShowsDeparture terms levels s t d
  shows_departure terms levels d may shown = record {
    front = front;
    took = took;
    may_begin = may;
    departs = of_front terms levels front s.offset d shown may;
  }

  pub gathers : (terms : Terms) (levels : ℕ) → HasItem levels front (length front)
      → ((item : Raw) → IsWellFormed item → spell item ≡ front → first_departure terms item ≡ None)
      → GathersByRules terms levels s t front
  gathers terms levels has kept = record {
    gathered = record { took = took; item = has };
    keeps = (none_where_kept terms has.item).0 (kept has.item has.begins.acceptable.fits (sym (whole_spelled levels front has)));
  }

  -- and memory ran out
  pub without_memory : (refusals : ReadErrorCode → Bool) (levels : ℕ) (e : Error) → IsOutOfMemory e → GathersNone refusals levels s t e
  without_memory refusals levels e memory = record {
    took = kept_some s t front took;
    reported = λ bs reports. inl (out_of_memory refusals e memory);
  }

-- what comes of an acceptable item that is to come
module _ (terms : Terms) (refusals : ReadErrorCode → Bool) (levels : ℕ) (s t : Input) (bs : List ℕ) (item : Raw) (rest : List ℕ) (reports : Reports s bs) (begins : Begins levels bs item rest) where
  pub taken_is : (bytes : List ℕ) → GathersByRules terms levels s t bytes → bytes ≡ spell item
  taken_is bytes got =
      let took = got.gathered.took in
      let step = (taken_step s t bytes took.bytes took.count took.room).reported bs reports in
      sym (whole_is levels bytes got.gathered.item step.rest item rest (omega (arith, reports.short, ap length step.holds)) (subst (λ (l : List ℕ). Begins levels l item rest) step.holds begins))

  pub departure_is : (d : Departure) → ShowsDeparture terms levels s t d → departure_from s.offset terms item ≡ Some d
  departure_is d shows =
      let took = shows.took in
      let step = (taken_step s t shows.front took.bytes took.count took.room).reported bs reports in
      shows.departs step.rest item rest (omega (arith, reports.short, ap length step.holds)) (subst (λ (l : List ℕ). Begins levels l item rest) step.holds begins)

  pub fault_is : (e : Error) → GathersNone refusals levels s t e → ExcusedBy (ReportsIo refusals) (code_of e) (offset_of e)
  fault_is e none = elim (none.reported bs reports) [ inl excused ↦ excused | inr absent ↦ absurd (absent item rest begins) ]

-- ---- after a byte was seen

-- known bytes that stay are the same
kept_bytes : (a b : Option (List ℕ)) (bs : List ℕ) → Keeps a b → a ≡ Some bs → b ≡ Some bs
kept_bytes None b bs keeps is = absurd cc
kept_bytes (Some xs) None bs keeps is = absurd keeps
kept_bytes (Some xs) (Some ys) bs keeps is = ap Some keeps ∙ is

kept_then : (a b c : Option (List ℕ)) (bs : List ℕ) → Keeps a b → Consumes b c bs → Consumes a c bs
kept_then None b c bs keeps more = tt
kept_then (Some xs) None c bs keeps more = absurd keeps
kept_then (Some xs) (Some ys) None bs keeps more = more
kept_then (Some xs) (Some ys) (Some zs) bs keeps more = sym keeps ∙ more

-- nothing was taken, and then some
module _ (s m : Input) (stays : Stays s m) where
  reports_on : (bs : List ℕ) → Reports s bs → Reports m bs
  reports_on bs reports = record {
    is = kept_bytes s.to_come m.to_come bs stays.bytes reports.is;
    short = omega (arith, stays.count, reports.short);
  }

  took_on : (t : Input) (bytes : List ℕ) → TookKept m t bytes → TookKept s t bytes
  took_on t bytes took = record {
    bytes = kept_then s.to_come m.to_come t.to_come bytes stays.bytes took.bytes;
    count = omega (arith, stays.count, took.count);
    room = took.room ∙ stays.room;
    kept = took.kept ∙ stays.kept;
  }

  pub gathers_on : (terms : Terms) (levels : ℕ) (t : Input) (bytes : List ℕ) → GathersByRules terms levels m t bytes → GathersByRules terms levels s t bytes
  gathers_on terms levels t bytes got = record {
    gathered = record { took = took_on t bytes got.gathered.took; item = got.gathered.item };
    keeps = got.keeps;
  }

  pub shows_on : (terms : Terms) (levels : ℕ) (t : Input) (d : Departure) → ShowsDeparture terms levels m t d → ShowsDeparture terms levels s t d
  shows_on terms levels t d shows = record {
    front = shows.front;
    took = took_on t shows.front shows.took;
    may_begin = shows.may_begin;
    departs = subst (λ (n : ℕ). (more : List ℕ) (item : Raw) (rest : List ℕ) → length (shows.front ++ more) < 2 ^ 64 → Begins levels (shows.front ++ more) item rest → departure_from n terms item ≡ Some d) stays.count shows.departs;
  }

  pub none_on : (refusals : ReadErrorCode → Bool) (levels : ℕ) (t : Input) (e : Error) → GathersNone refusals levels m t e → GathersNone refusals levels s t e
  none_on refusals levels t e none = record {
    took = some_then s m t (took_stays s m stays) none.took;
    reported = λ bs reports. none.reported bs (reports_on bs reports);
  }

-- what is excused, and isn't lack of memory, is a fault of the source
not_memory : (Device : Type 0) (w : ReadErrorCode) (at : ℕ) → (w ≢ reading.OutOfMemory) → ExcusedBy Device (error_code w) at → IsSourceFaultBy Device (error_code w) at
not_memory Device (reading.Io fault) at other by = by
not_memory Device reading.OutOfMemory at other by = absurd (other refl)
not_memory Device _ at other by = absurd by

-- a byte that was looked for wasn't had
module _ (refusals : ReadErrorCode → Bool) (s m : Input) (q : ReadError) (h : RefusedByte refusals s m q) (e : Error) (is : (code_of e ≡ error_code (why q)) × (offset_of e ≡ place q)) where
  by_device : (P : ErrorCode → ℕ → Type 0) → P (error_code (why q)) (place q) → P (code_of e) (offset_of e)
  by_device P holds = subst (λ (c : ErrorCode). P c (offset_of e)) (sym is.0) (subst (λ (n : ℕ). P (error_code (why q)) n) (sym is.1) holds)

  excused : (bs : List ℕ) → Reports s bs → ExcusedBy (ReportsIo refusals) (error_code (why q)) (place q)
  excused bs reports =
      let read : Limits → List ℕ → Reads (Unit {0}) = λ l x. Ok (tt, x) in
      let fails = (byte_refused refusals s m q read h).reported bs reports in
      elim (excused_or (ReportsIo refusals) (error_code (why q)) (s.offset + length bs) (place q) (Ok (tt, bs)) fails) [
        | inl x ↦ x
        | inr x ↦ let wrong = x.1 in absurd cc
      ]

  pub look_refused : (levels : ℕ) → GathersNone refusals levels s m e
  look_refused levels = record {
    took = h.refused.moved;
    reported = λ bs reports. inl (by_device (ExcusedBy (ReportsIo refusals)) (excused bs reports));
  }

  pub look_failed : (bs : List ℕ) → Reports s bs → IsSourceFaultBy (ReportsIo refusals) (code_of e) (offset_of e)
  look_failed bs reports =
      by_device (IsSourceFaultBy (ReportsIo refusals)) (not_memory (ReportsIo refusals) (why q) (place q) h.memory (excused bs reports))

-- none is to come
pub none_to_come : (levels : ℕ) (s : Input) (bs : List ℕ) (item : Raw) (rest : List ℕ) → IfSome s.to_come (λ l. l ≡ []) → Reports s bs → Begins levels bs item rest → ⊥
none_to_come levels s bs item rest ends reports begins =
    let nothing : bs ≡ [] = subst (λ (o : Option (List ℕ)). IfSome o (λ l. l ≡ [])) reports.is ends in
    none_of_none levels item rest (subst (λ (l : List ℕ). Begins levels l item rest) nothing begins)

-- so that no byte is seen
pub none_seen : (s : Input) (b : ℕ) → IfSome s.to_come (λ bs. take 1 bs ≡ b ∷ []) → Reports s [] → ⊥
none_seen s b front reports =
    let seen : take 1 [] ≡ b ∷ [] = subst (λ (o : Option (List ℕ)). IfSome o (λ bs. take 1 bs ≡ b ∷ [])) reports.is front in
    absurd cc

-- and no item taken
pub none_taken : (terms : Terms) (levels : ℕ) (s t : Input) (bytes : List ℕ) → GathersByRules terms levels s t bytes → Reports s [] → ⊥
none_taken terms levels s t bytes got reports =
    let took = got.gathered.took in
    let step = (taken_step s t bytes took.bytes took.count took.room).reported [] reports in
    let item = got.gathered.item.item in
    none_of_none levels item step.rest (subst (λ (l : List ℕ). Begins levels l item step.rest) (sym step.holds) (whole_begins levels bytes got.gathered.item step.rest))

-- ---- refusals

pub may_begin : (levels : ℕ) (bytes : List ℕ) (whole : Bool) → IsWhole levels bytes whole → MayBegin levels bytes
may_begin levels bytes true item = inl item
may_begin levels bytes false item = inr item

pub not_both : (b : Bool) → b ≡ true → b ≡ false → ⊥
not_both true h e = absurd cc
not_both false h e = absurd cc

pub if_departs : (P Q : Departure → Type 0) → ((d : Departure) → P d → Q d) → (r : Refusal) → IfDeparts P r → IfDeparts Q r
if_departs P Q then (Unread e) h = tt
if_departs P Q then (Departs d) h = then d h

pub if_unread : (P Q : Error → Type 0) → ((e : Error) → P e → Q e) → (r : Refusal) → IfUnread P r → IfUnread Q r
if_unread P Q then (Unread e) h = then e h
if_unread P Q then (Departs d) h = tt

-- what comes of an acceptable item that is to come, where none was taken
pub refusal_is : (terms : Terms) (refusals : ReadErrorCode → Bool) (levels : ℕ) (s t : Input) (bs : List ℕ) (item : Raw) (rest : List ℕ) → Reports s bs → Begins levels bs item rest
    → (r : Refusal) → IfDeparts (ShowsDeparture terms levels s t) r → IfUnread (GathersNone refusals levels s t) r → ReportsDepartureOrFault refusals s.offset terms item r
refusal_is terms refusals levels s t bs item rest reports begins (Unread e) departed unread = fault_is terms refusals levels s t bs item rest reports begins e unread
refusal_is terms refusals levels s t bs item rest reports begins (Departs d) departed unread = departure_is terms refusals levels s t bs item rest reports begins d departed
