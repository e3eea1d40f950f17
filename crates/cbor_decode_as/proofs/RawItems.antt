-- The item at the front of bytes, as a decoder of them passes over it.
use Rattle.std.proofs.Common.{◌≡◌, ◌⊎◌, inl, inr, ◌∙◌, ◌+◌, ◌<◌, ◌≤◌, ◌^◌, ℕ, Bool, true, List, ◌++◌, length, take, drop, Option, Some, Result, Ok, Err, IfOk, IfSome, refl, sym, ap, subst, arith}
use Rattle.std.proofs.lemmas.Bool.{le-ltb, lt-ltb}
use Rattle.std.proofs.lemmas.List.{append_assoc, length-append, length-take, take-append-drop}
use Rattle.std.proofs.Math.Seq.{take-append_seam}
use Rattle.cbor_model.specs.Encoding.{IsEncoding}
use Rattle.cbor_model.specs.Formats.{Formats}
use Rattle.cbor_model.specs.Plain.{Val}
use Rattle.cbor_model.specs.Raw.{Raw, AreBytes}
use Rattle.cbor_model.specs.RawReader.{raws_in}
use Rattle.cbor_model.specs.Reader.{Fault, Reads, bytes_at, item_at}
use Rattle.cbor_model.specs.Spelling.{spell}
use Rattle.cbor_model.specs.Value.{value}
use Rattle.cbor_model.proofs.facts.Reader.{is_encoding, item_again, item_fits, item_found, ok_is, taken}
use Rattle.cbor_io.specs.Error.{IsOutOfMemory, code_of, offset_of}
use Rattle.cbor_io.specs.declared.error.Error.{Error}
use Rattle.cbor_io.specs.declared.error.ErrorCode.{ErrorCode}
use Rattle.cbor_io.specs.declared.error.ErrorCode.TheVariants as code
use Rattle.cbor_io.specs.declared.read_error.ReadError.{ReadError}
use Rattle.cbor_io.specs.declared.read_error.ReadErrorCode.{ReadErrorCode}
use Rattle.cbor_read.specs.Source.{Input, Lends, RefusedPart, Took, TookSome, start_of_slice}
use Rattle.cbor_decode.specs.Gives.{IsErrorOf, Reports, Limits, ReportsIo, Step, Stopped, limits, values}
use Rattle.cbor_decode.specs.Heads.{passed}
use Rattle.cbor_decode.specs.declared.refusal.Refused.{Refused}
use Rattle.cbor_decode.specs.declared.refusal.Refused.TheVariants as refused
use Rattle.cbor_decode.proofs.facts.Readings.{along, value_seen}
use Rattle.cbor_decode.proofs.facts.Steps.{passed_stops, passed_was, refused_stops, source_stops, stopped_map, taken_step}
use Rattle.cbor_decode_as.specs.RawItems.{FindsEnd, IsLentItem, NoneWithin, ShowsFront, StandsWithin}
use Rattle.cbor_decode_as.specs.Takes.{ExcusedBy, IsNotRead, IsRead, Refuses, lending, raws}
use Rattle.cbor_decode_as.proofs.numbers.Scalars.{excused_or, reported_by}

-- what is read as a value is read as it is spelled
seen_was : (read : Reads Raw) (v : Val) (rest : List ℕ) → along value read ≡ Ok (v, rest) → (r : Raw) × (read ≡ Ok (r, rest))
seen_was (Ok x) v rest e = (x.0, ap (λ (p : Val × List ℕ). Ok (x.0, p.1)) (ok_is (value x.0, x.1) (v, rest) e))
seen_was (Err f) v rest e = absurd cc

-- what excuses a refusal where there is no device is that memory ran out
memory_alone : (D : Type 0) → (D → ⊥) → (e : Error) (k : ErrorCode) → code_of e ≡ k → ExcusedBy D k (offset_of e) → IsOutOfMemory e
memory_alone D none e code.OutOfMemory is h = (is, h)
memory_alone D none e (code.Io fault) is h = absurd (none h.0)
memory_alone D none e _ is h = absurd h

module _ (f : Formats) (levels : ℕ) (room : Option ℕ) (bytes : List ℕ) (fits : AreBytes bytes) (short : length bytes < 2 ^ 64) where
  abbrev start : Input
  start = start_of_slice bytes room

  reports : Reports start bytes
  reports = record { is = refl; short = omega (arith, short) }

  abbrev front : Reads Raw
  front = item_at (raws f (limits start bytes)) levels bytes

  -- an item that was read stands there
  stands : (r : Raw) (rest : List ℕ) → front ≡ Ok (r, rest) → StandsWithin f levels room bytes (length (spell r))
  stands r rest is =
      let l = limits start bytes in
      let found = item_found f l.total l.room levels bytes rest r fits is in
      record { item = r; rest = rest; begins = found.0; keys = found.1; fits = item_fits f l.total l.room levels bytes rest r fits is; ends = refl }

  pub item_passed : (t : Input) → Step start t (λ l bs rest. passed (item_at (values f l) levels bs) ≡ Ok (tt, rest))
      → StandsWithin f levels room bytes t.offset
  item_passed t step =
      let l = limits start bytes in
      let got = step.reported bytes reports in
      let read = passed_was (item_at (values f l) levels bytes) got.rest got.holds in
      let spelt = seen_was front read.0 got.rest (sym (value_seen f l levels bytes) ∙ read.1) in
      let begins = (item_found f l.total l.room levels bytes got.rest spelt.0 fits spelt.1).0 in
      subst (StandsWithin f levels room bytes) (omega (arith, got.total, ap length begins.spelled, length-append (spell spelt.0) got.rest)) (stands spelt.0 got.rest spelt.1)

  -- where a fault is met, none stands there
  none_at_fault : (d : Fault) → item_at (values f (limits start bytes)) levels bytes ≡ Err d → NoneWithin f levels room bytes
  none_at_fault d is item rest begins keys joins =
      let l = limits start bytes in
      let again = item_again f l.total l.room levels bytes rest item reports.short (omega arith) joins begins keys in
      let both : ◌≡◌ {A = Reads Val} (Err d) (along value (Ok (item, rest))) = sym is ∙ value_seen f l levels bytes ∙ ap (along value) again in
      cc

  pub none_passed : {t : Input} (allowed : ReadErrorCode → Bool) → (ReportsIo allowed → ⊥) → (kept : ReadError) (r : Refused) (e : Error) → IsErrorOf kept r e
      → Stopped allowed (λ l bs. passed (item_at (values f l) levels bs)) start t kept r
      → IsOutOfMemory e ⊎ NoneWithin f levels room bytes
  none_passed {t = t} allowed no_device kept r e is stopped =
      let read : (Limits → List ℕ → Reads Val) = λ l. item_at (values f l) levels in
      let met = stopped_map {t = t} allowed (λ l bs. passed (item_at (values f l) levels bs)) read start kept r (λ l bs fault. passed_stops (item_at (values f l) levels bs) fault) stopped in
      let fault = reported_by {t = t} allowed read start kept r e is met bytes reports in
      elim (excused_or (ReportsIo allowed) (code_of e) (start.offset + length bytes) (offset_of e) (read (limits start bytes) bytes) fault) [
        | inl excused ↦ inl (memory_alone (ReportsIo allowed) no_device e (code_of e) refl excused)
        | inr d ↦ inr (none_at_fault d.0 d.1)
      ]

-- where an item was found, it ends within the bytes
pub ends_within : (f : Formats) (levels : ℕ) (room : Option ℕ) (bytes : List ℕ) (r : Result ℕ Error) → FindsEnd f levels room bytes r → IfOk r (λ n. n ≤ length bytes)
ends_within f levels room bytes (Ok n) there = omega (arith, there.ends, ap length there.begins.spelled, length-append (spell there.item) there.rest)
ends_within f levels room bytes (Err e) none = tt

-- ---- what is at hand of a source

some_is : {A : Type 0} (x y : A) → Some x ≡ Some y → x ≡ y
some_is x y e = cc

-- fronts of one list that have one length are one
one_front : (a b rest more : List ℕ) → length a ≡ length b → a ++ rest ≡ b ++ more → a ≡ b
one_front a b rest more len is =
    sym (take-append_seam a rest) ∙ ap (take (length a)) is ∙ ap (λ (n : ℕ). take n (b ++ more)) len ∙ take-append_seam b more

front_within : (hand bs : List ℕ) → take (length hand) bs ≡ hand → length hand ≤ length bs
front_within hand bs is = omega (arith, ap length is, length-take (length hand) bs)

module _ (f : Formats) (levels : ℕ) (lends : Lends) (s : Input) (hand : List ℕ) (shows : ShowsFront lends s hand) where
  abbrev lent_items : Raw → List ℕ → Type 0
  lent_items = IsLentItem (lending f lends)

  -- where none stands among them, none is lent
  pub none_lent : NoneWithin f levels s.room hand → (bs : List ℕ) → Reports s bs → IsNotRead lent_items (item_at (raws f (limits s bs)) levels bs)
  none_lent none bs reports x rest read =
      let same : bs ≡ hand = some_is bs hand (sym reports.is ∙ shows.all read.means.lent) in
      let l = limits s bs in
      let is = subst (λ (b : List ℕ). item_at (raws f l) levels b ≡ Ok (read.item, rest)) same read.is in
      let found = item_found f l.total l.room levels hand rest read.item shows.bytes is in
      none read.item rest found.0 found.1 (item_fits f l.total l.room levels hand rest read.item shows.bytes is)

  not_found : (e : Error) → (code_of e ≡ code.OutOfMemory → ⊥) → FindsEnd f levels s.room hand (Err e) → NoneWithin f levels s.room hand
  not_found e other (inl memory) = absurd (other memory.0)
  not_found e other (inr none) = none

  module _ (allowed : ReadErrorCode → Bool) (e : Error) (found : FindsEnd f levels s.room hand (Err e)) where
    abbrev NotLent : Input → Error → Type 0
    NotLent t e' = Refuses allowed s t (code_of e') (offset_of e') (λ l bs. IsNotRead lent_items (item_at (raws f l) levels bs))

    -- whatever is told of it, where memory didn't run out
    pub refused_lent : (e' : Error) (t : Input) → (code_of e ≡ code.OutOfMemory → ⊥) → TookSome s t → NotLent t e'
    refused_lent e' t other took = record { took = took; reported = λ bs given. inr (none_lent (not_found e other found) bs given) }

    -- and where it did
    pub memory_lent : (t : Input) → TookSome s t → code_of e ≡ code.OutOfMemory → NotLent t e
    memory_lent t took is = record { took = took; reported = λ bs given. by_found found bs given }
      where
        by_found : FindsEnd f levels s.room hand (Err e) → (bs : List ℕ) → Reports s bs
            → ExcusedBy (ReportsIo allowed) (code_of e) (offset_of e) ⊎ IsNotRead lent_items (item_at (raws f (limits s bs)) levels bs)
        by_found (inl memory) bs given = inl (subst (λ (k : ErrorCode). ExcusedBy (ReportsIo allowed) k (offset_of e)) (sym is) memory.1)
        by_found (inr none) bs given = inr (none_lent none bs given)

  -- the item that was found, and the bytes that were taken of the front
  module _ (n : ℕ) (there : StandsWithin f levels s.room hand n) (part : List ℕ) (long : length part ≡ n) where
    encoded_part : (bs rest : List ℕ) → take (length hand) bs ≡ hand → bs ≡ part ++ rest → (part ≡ spell there.item) × (bs ≡ spell there.item ++ rest)
    encoded_part bs rest front parts =
        let whole : bs ≡ hand ++ drop (length hand) bs = sym (take-append-drop (length hand) bs) ∙ ap (λ (l : List ℕ). l ++ drop (length hand) bs) front in
        let at : part ++ rest ≡ spell there.item ++ (there.rest ++ drop (length hand) bs) =
        sym parts ∙ whole ∙ ap (λ (l : List ℕ). l ++ drop (length hand) bs) there.begins.spelled ∙ append_assoc (spell there.item) there.rest (drop (length hand) bs) in
        let same = one_front part (spell there.item) rest (there.rest ++ drop (length hand) bs) (long ∙ there.ends) at in
        (same, parts ∙ ap (λ (l : List ℕ). l ++ rest) same)

    pub part_lent : (bs rest : List ℕ) → Reports s bs → lends.whole ≡ true → IfSome s.to_come (λ bs. take (length hand) bs ≡ hand) → bs ≡ part ++ rest
        → IsRead lent_items (item_at (raws f (limits s bs)) levels bs) part rest
    part_lent bs rest reports lent front parts =
        let l = limits s bs in
        let shown = subst (λ (o : Option (List ℕ)). IfSome o (λ bs. take (length hand) bs ≡ hand)) reports.is front in
        let is = encoded_part bs rest shown parts in
        let good = there.begins.acceptable in
        record {
          item = there.item;
          is = item_again f l.total l.room levels bs rest there.item reports.short (omega arith) there.fits (record { spelled = is.1; acceptable = good }) there.keys;
          means = record { lent = lent; encodes = record { spelled = sym is.0; fits = good.fits; texts = good.texts } };
        }

-- ---- what is taken of the front

module _ (f : Formats) (levels : ℕ) (lends : Lends) (s t : Input) (hand : List ℕ) (shows : ShowsFront lends s hand) (n : ℕ) (there : StandsWithin f levels s.room hand n) where
  -- the front was taken, and lent
  pub lent_step : (part : List ℕ) → length part ≡ n → lends.whole ≡ true → Took s t part → Step s t (λ l bs rest. IsRead (IsLentItem (lending f lends)) (item_at (raws f l) levels bs) part rest)
  lent_step part long lent took =
      let step = taken_step s t part took.bytes took.count took.room in
      record {
        took = step.took;
        reported = λ bs given.
            let one = step.reported bs given in
            record { rest = one.rest; reports = one.reports; total = one.total; holds = part_lent f levels lends s hand shows n there part long bs one.rest given lent shows.front one.holds };
      }

  -- an item is a byte long at the least
  pub some_there : 0 < n
  some_there =
      let begins = there.begins in
      let read = item_again f (length hand) s.room levels hand there.rest there.item shows.short (omega arith) there.fits begins there.keys in
      let less = taken (raws_in f (length hand) s.room) levels hand (there.item, there.rest) read in
      omega (arith, less, there.ends, ap length begins.spelled, length-append (spell there.item) there.rest)

  -- what is lent of the front encodes the item
  pub front_encodes : (part : List ℕ) → lends.whole ≡ true → IfSome s.to_come (λ bs. part ≡ take n bs) → IsEncoding part
  front_encodes part lent front =
      let is : part ≡ take n hand = subst (λ (o : Option (List ℕ)). IfSome o (λ bs. part ≡ take n bs)) (shows.all lent) front in
      let begins = there.begins in
      let same : part ≡ spell there.item = is ∙ ap (take n) begins.spelled ∙ ap (λ (k : ℕ). take k (spell there.item ++ there.rest)) there.ends ∙ take-append_seam (spell there.item) there.rest in
      is_encoding part there.item (omega (arith, shows.short, ap length same, ap length begins.spelled, length-append (spell there.item) there.rest))
      (record { spelled = sym same; fits = begins.acceptable.fits; texts = begins.acceptable.texts })

  -- the front wasn't
  pub front_refused : (allowed : ReadErrorCode → Bool) (refusal : ReadError) (kept : ReadError) (r : Refused) (e : Error) → RefusedPart allowed s t n refusal
      → r ≡ refused.Kept → kept ≡ refusal → IsErrorOf kept r e → (N : Limits → List ℕ → Type 0) → Refuses allowed s t (code_of e) (offset_of e) N
  front_refused allowed refusal kept r e part is keeps made N =
      let read : (Limits → List ℕ → Reads (List ℕ)) = λ l. bytes_at n in
      let stops = refused_stops allowed s t n refusal read (λ l bs few. rw (lt-ltb (length bs) n few) refl) part.1 part.0 in
      let stopped = source_stops {t = t} allowed s read kept r refusal is keeps part.0.moved stops in
      let fault = reported_by {t = t} allowed read s kept r e made stopped in
      record {
        took = part.0.moved;
        reported = λ bs given.
            let shown = subst (λ (o : Option (List ℕ)). IfSome o (λ bs. take (length hand) bs ≡ hand)) given.is shows.front in
            let enough : n ≤ length bs = omega (arith, there.ends, ap length there.begins.spelled, length-append (spell there.item) there.rest, front_within hand bs shown) in
            elim (excused_or (ReportsIo allowed) (code_of e) (s.offset + length bs) (offset_of e) (bytes_at n bs) (fault bs given)) [
              | inl excused ↦ inl excused
              | inr d ↦ absurd (no_fault bs d.0 enough d.1)
            ];
      }
    where
      no_fault : (bs : List ℕ) (d : Fault) → n ≤ length bs → bytes_at n bs ≡ Err d → ⊥
      no_fault bs d enough is =
          let given : bytes_at n bs ≡ Ok (take n bs, drop n bs) = rw (le-ltb (length bs) n enough) refl in
          let both : ◌≡◌ {A = Reads (List ℕ)} (Ok (take n bs, drop n bs)) (Err d) = sym given ∙ is in
          cc
