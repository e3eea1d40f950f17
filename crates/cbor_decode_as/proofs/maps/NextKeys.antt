-- The next key of a map.
use Rattle.std.proofs.Common.{◌≡◌, ℕ, ◌≤◌, Bool, true, false, List, Option, Some, None, Ok, Err, sym, ap, ap₂, subst, ◌∙◌, arith}
use Rattle.cbor_model.specs.Formats as model
use Rattle.cbor_model.specs.Formats.{may_begin_key}
use Rattle.cbor_model.specs.Raw.{Raw}
use Rattle.cbor_model.specs.Refusal.{end_in_map}
use Rattle.cbor_model.specs.Reader.{Fault, Reads, next_at, key_at, item_at}
use Rattle.cbor_model.specs.Reader as reader
use Rattle.cbor_model.proofs.facts.Reader.{ok_is, taken, key_read, key_is}
use Rattle.cbor_read.specs.Source.{Input}
use Rattle.cbor_io.specs.Error.{code_of, offset_of}
use Rattle.cbor_io.specs.declared.error.Error.{Error}
use Rattle.cbor_io.specs.declared.error.ErrorCode.{ErrorCode}
use Rattle.cbor_io.specs.declared.error.ErrorCode.TheVariants.{OutOfMemory}
use Rattle.cbor_io.specs.declared.read_error.ReadError.{ReadError}
use Rattle.cbor_io.specs.declared.read_error.ReadErrorCode.{ReadErrorCode}
use Rattle.cbor_decode.specs.Cursor.{behind_next}
use Rattle.cbor_decode.specs.Gives.{Limits, Reports, Step, Stopped, IsErrorOf, limits}
use Rattle.cbor_decode.specs.Heads.{remaining_of}
use Rattle.cbor_decode.specs.declared.cursor.Remaining.{Remaining}
use Rattle.cbor_decode.specs.declared.refusal.Refused.{Refused}
use Rattle.cbor_decode.proofs.facts.Steps.{some_then, step_map, step_then}
use Rattle.cbor_decode.specs.declared.formats.Formats.{Formats}
use Rattle.cbor_decode_as.specs.MapAccesses.{Comes, key_front, IsKey, IsNextKey, MemoryForKey}
use Rattle.cbor_decode_as.specs.Takes.{formats_of, raws, IsRead, IsNotRead, MemoryFor, Refuses}
use Rattle.cbor_decode_as.proofs.maps.PairsRead.{NoKey}
use Rattle.cbor_decode_as.proofs.refused.Refusing.{refuses_map, refuses_then, refuses_stopped}

-- ---- a key may begin

not_both : {A : Type 0} (read : Reads A) (x : A × List ℕ) (f : Fault) → read ≡ Ok x → read ≡ Err f → ⊥
not_both (Ok y) x f is other = absurd cc
not_both (Err g) x f is other = absurd cc

none_some : (x : reader.Remaining) → None ≡ Some x → ⊥
none_some x e = absurd cc

module _ (f : model.Formats) where
  -- nothing is taken
  pub front_stays : (bs rest : List ℕ) → key_front f bs ≡ Ok (tt, rest) → bs ≡ rest
  front_stays bs rest is = ap (λ (p : Unit {0} × List ℕ). p.1) (ok_is (tt, bs) (tt, rest) (key_read (may_begin_key f) (λ key. Ok (tt, key)) bs (tt, rest) is).1)

  -- a key that may begin so is read as an item
  pub key_behind : (p : List ℕ → Reads Raw) (bs rest : List ℕ) → key_front f bs ≡ Ok (tt, rest) → key_at (may_begin_key f) p bs ≡ p bs
  key_behind p bs rest is = key_is (may_begin_key f) p bs (key_read (may_begin_key f) (λ key. Ok (tt, key)) bs (tt, rest) is).0

  -- a key that is read may begin so
  front_of_key : (p : List ℕ → Reads Raw) (bs : List ℕ) (x : Raw × List ℕ) → key_at (may_begin_key f) p bs ≡ Ok x → key_front f bs ≡ Ok (tt, bs)
  front_of_key p bs x is = key_is (may_begin_key f) (λ key. Ok (tt, key)) bs (key_read (may_begin_key f) p bs x is).0

-- neither a key comes that may begin so nor the end
abbrev pub NonePairs : model.Formats → reader.Remaining → Limits → List ℕ → Type 0
NonePairs f r l bs = (more : Bool) (after : reader.Remaining) (rest : List ℕ) → Comes f r after more bs rest → ⊥

module _ (s m : Input) (f : model.Formats) (old new : Remaining) where
  abbrev Next : Bool → Limits → List ℕ → List ℕ → Type 0
  Next more l bs rest = next_at end_in_map (remaining_of old) bs ≡ Ok (behind_next new more, rest)

  module _ (more : Bool) where
    pub pair_comes : (t : Input) → more ≡ true → Step s m (Next more) → Step m t (λ l bs rest. key_front f bs ≡ Ok (tt, rest)) → Step s t (λ l bs rest. Comes f (remaining_of old) (remaining_of new) true bs rest)
    pair_comes t is one two =
        step_then s m t (Next more) (λ l bs rest. key_front f bs ≡ Ok (tt, rest)) (λ l bs rest. Comes f (remaining_of old) (remaining_of new) true bs rest)
        (λ l bs mid rest next front.
        let same = front_stays f mid rest front in
        let next' = next ∙ ap (λ (b : Bool). Ok (behind_next new b, mid)) is in
        (next' ∙ ap (λ (bs : List ℕ). Ok (Some (remaining_of new), bs)) same, subst (λ (bs : List ℕ). key_front f bs ≡ Ok (tt, rest)) same front)) one two

    pub none_comes : more ≡ false → Step s m (Next more) → Step s m (λ l bs rest. Comes f (remaining_of old) (remaining_of new) false bs rest)
    none_comes is = step_map s m (Next more) (λ l bs rest. Comes f (remaining_of old) (remaining_of new) false bs rest)
        (λ l bs rest next. next ∙ ap (λ (b : Bool). Ok (behind_next new b, rest)) is)

    -- a key that may not begin so is no pair's
    not_front : (l : Limits) (bs mid : List ℕ) → more ≡ true → Next more l bs mid → ((rest : List ℕ) → key_front f mid ≡ Ok (tt, rest) → ⊥) → NonePairs f (remaining_of old) l bs
    not_front l bs mid is next none false after rest comes =
        let next' = next ∙ ap (λ (b : Bool). Ok (behind_next new b, mid)) is in
        none_some (remaining_of new) (ap (λ (p : Option reader.Remaining × List ℕ). p.0) (ok_is (None, rest) (Some (remaining_of new), mid) (sym comes ∙ next')))
    not_front l bs mid is next none true after rest comes =
        let next' = next ∙ ap (λ (b : Bool). Ok (behind_next new b, mid)) is in
        let at = ap (λ (p : Option reader.Remaining × List ℕ). p.1) (ok_is (Some after, rest) (Some (remaining_of new), mid) (sym comes.0 ∙ next')) in
        none rest (subst (λ (bs : List ℕ). key_front f bs ≡ Ok (tt, rest)) at comes.1)

    pub front_refused : {w : Input} (allowed : ReadErrorCode → Bool) (kept : ReadError) (r : Refused) (e : Error) → more ≡ true → Step s m (Next more)
        → IsErrorOf kept r e → Stopped allowed (λ l. key_front f) m w kept r → Refuses allowed s w (code_of e) (offset_of e) (NonePairs f (remaining_of old))
    front_refused allowed kept r e is step reports stops =
        refuses_then allowed s (code_of e) (offset_of e) m (Next more) (λ l bs. (rest : List ℕ) → key_front f bs ≡ Ok (tt, rest) → ⊥) (NonePairs f (remaining_of old))
        (λ l bs mid next none. not_front l bs mid is next none) step
        (refuses_stopped allowed (λ l. key_front f) m kept r e (λ l bs. (rest : List ℕ) → key_front f bs ≡ Ok (tt, rest) → ⊥) (λ l bs fault stops rest front. not_both (key_front f bs) (tt, rest) fault front stops) reports stops)

  pub next_refused : {w : Input} (allowed : ReadErrorCode → Bool) (kept : ReadError) (r : Refused) (e : Error)
      → IsErrorOf kept r e → Stopped allowed (λ l. next_at end_in_map (remaining_of old)) s w kept r → Refuses allowed s w (code_of e) (offset_of e) (NonePairs f (remaining_of old))
  next_refused allowed kept r e reports stops =
      refuses_stopped allowed (λ l. next_at end_in_map (remaining_of old)) s kept r e (NonePairs f (remaining_of old)) none reports stops
    where
      none : (l : Limits) (bs : List ℕ) (fault : Fault) → next_at end_in_map (remaining_of old) bs ≡ Err fault → NonePairs f (remaining_of old) l bs
      none l bs fault is false after rest comes = not_both (next_at end_in_map (remaining_of old) bs) (None, rest) fault comes is
      none l bs fault is true after rest comes = not_both (next_at end_in_map (remaining_of old) bs) (Some after, rest) fault comes.0 is

-- ---- the key

module _ (s m : Input) (old new : Remaining) (more : Bool) where
  abbrev There : Formats → Limits → List ℕ → List ℕ → Type 0
  There f l bs rest = Comes (formats_of f) (remaining_of old) (remaining_of new) true bs rest

  pub there : (f : Formats) → more ≡ true → Step s m (λ l bs rest. Comes (formats_of f) (remaining_of old) (remaining_of new) more bs rest) → Step s m (There f)
  there f is = subst (λ (b : Bool). Step s m (λ l bs rest. Comes (formats_of f) (remaining_of old) (remaining_of new) b bs rest)) is

  pub end_there : (f : Formats) → more ≡ false → Step s m (λ l bs rest. Comes (formats_of f) (remaining_of old) (remaining_of new) more bs rest) → Step s m (λ l bs rest. next_at end_in_map (remaining_of old) bs ≡ Ok (None, rest))
  end_there f is = subst (λ (b : Bool). Step s m (λ l bs rest. Comes (formats_of f) (remaining_of old) (remaining_of new) b bs rest)) is

  module _ {K : Type 0} (reads : Formats → Raw → K → Type 0) (f g : Formats) (levels inside : ℕ) (formats : g ≡ f) (same : inside ≡ levels) where
    -- what isn't read isn't the next key
    not_key : (l : Limits) (bs mid : List ℕ) → There f l bs mid → IsNotRead (reads f) (item_at (raws (formats_of f) l) levels mid) → NoKey (reads f) (formats_of f) levels (remaining_of old) l bs
    not_key l bs mid is none None after rest h = none_some (remaining_of new) (ap (λ (p : Option reader.Remaining × List ℕ). p.0) (ok_is (None, rest) (Some (remaining_of new), mid) (sym h ∙ is.0)))
    not_key l bs mid is none (Some x) after rest h =
        let both = ok_is (Some after, h.start) (Some (remaining_of new), mid) (sym h.next ∙ is.0) in
        let p = item_at (raws (formats_of f) l) levels in
        let read = (key_read (may_begin_key (formats_of f)) p h.start (h.key.item, rest) h.key.is).1 in
        let at = ap (λ (p : Option reader.Remaining × List ℕ). p.1) both in
        none x rest (record { item = h.key.item; is = subst (λ (bs : List ℕ). p bs ≡ Ok (h.key.item, rest)) at read; means = h.key.means })

    pub key_refused : {w : Input} (allowed : ReadErrorCode → Bool) (k : ErrorCode) (at : ℕ) → Step s m (There f) → Refuses allowed m w k at (λ l bs. IsNotRead (reads g) (item_at (raws (formats_of g) l) inside bs)) → Refuses allowed s w k at (NoKey (reads f) (formats_of f) levels (remaining_of old))
    key_refused {w = w} allowed k at step h =
        let h' : Refuses allowed m w k at (λ l bs. IsNotRead (reads f) (item_at (raws (formats_of f) l) inside bs)) = subst (λ (g : Formats). Refuses allowed m w k at (λ l bs. IsNotRead (reads g) (item_at (raws (formats_of g) l) inside bs))) formats h in
        let here : Refuses allowed m w k at (λ l bs. IsNotRead (reads f) (item_at (raws (formats_of f) l) levels bs)) = subst (λ (n : ℕ). Refuses allowed m w k at (λ l bs. IsNotRead (reads f) (item_at (raws (formats_of f) l) n bs))) same h' in
        refuses_then allowed s k at m (There f) (λ l bs. IsNotRead (reads f) (item_at (raws (formats_of f) l) levels bs)) (NoKey (reads f) (formats_of f) levels (remaining_of old))
        (λ l bs mid is none. not_key l bs mid is none) step here

    key_asked : (asks : Raw → Type 0) (e : Error) (step : Step s m (There f)) → MemoryFor asks (formats_of g) (reads g) inside m e → code_of e ≡ OutOfMemory → (bs : List ℕ) → Reports s bs → (x : K) (after : reader.Remaining) (rest : List ℕ) → (next : IsNextKey (reads f) (formats_of f) levels (remaining_of old) after x (limits s bs) bs rest) → asks next.key.item
    key_asked asks e step memory out bs reports x after rest next =
        let first = step.reported bs reports in
        let both = ok_is (Some after, next.start) (Some (remaining_of new), first.rest) (sym next.next ∙ first.holds.0) in
        let item = next.key.item in
        let read = (key_read (may_begin_key (formats_of f)) (item_at (raws (formats_of f) (limits s bs)) levels) next.start (item, rest) next.key.is).1 in
        let at = subst (λ (mid : List ℕ). item_at (raws (formats_of f) (limits s bs)) levels mid ≡ Ok (item, rest)) (ap (λ (p : Option reader.Remaining × List ℕ). p.1) both) read in
        let kept : limits m first.rest ≡ limits s bs = ap₂ (λ (n : ℕ) (r : Option ℕ). record { total = n; room = r }) first.total step.took.room in
        let within = subst (λ (l : Limits). item_at (raws (formats_of f) l) levels first.rest ≡ Ok (item, rest)) (sym kept) at in
        let level = subst (λ (n : ℕ). item_at (raws (formats_of f) (limits m first.rest)) n first.rest ≡ Ok (item, rest)) (sym same) within in
        let is = subst (λ (h : Formats). item_at (raws (formats_of h) (limits m first.rest)) inside first.rest ≡ Ok (item, rest)) (sym formats) level in
        memory out first.rest first.reports x rest (record { item = item; is = is; means = subst (λ (h : Formats). reads h item x) (sym formats) next.key.means })

    -- where memory runs out in it, it is one for which memory may be asked
    pub key_asks : (asks : Raw → Type 0) (e : Error) → Step s m (There f) → MemoryFor asks (formats_of g) (reads g) inside m e → MemoryForKey asks (formats_of f) (reads f) levels old s e
    key_asks asks e step memory out bs reports = (
      λ x after rest next. key_asked asks e step memory out bs reports x after rest next,
      λ rest end. none_some (remaining_of new) (ap (λ (p : Option reader.Remaining × List ℕ). p.0) (ok_is (None, rest) (Some (remaining_of new), (step.reported bs reports).rest) (sym end ∙ (step.reported bs reports).holds.0))),
    )

    module _ (t : Input) (x : K) where
      pub key_next : Step s m (There f) → Step m t (λ l bs rest. IsRead (reads g) (item_at (raws (formats_of g) l) inside bs) x rest) → Step s t (IsKey (reads f) (formats_of f) levels (remaining_of old) (remaining_of new) (Some x))
      key_next one two =
          step_then s m t (There f) (λ l bs rest. IsRead (reads g) (item_at (raws (formats_of g) l) inside bs) x rest) (IsKey (reads f) (formats_of f) levels (remaining_of old) (remaining_of new) (Some x))
          (λ l bs mid rest is h.
          let h' : IsRead (reads f) (item_at (raws (formats_of f) l) inside mid) x rest = subst (λ (g : Formats). IsRead (reads g) (item_at (raws (formats_of g) l) inside mid) x rest) formats h in
          let h'' : IsRead (reads f) (item_at (raws (formats_of f) l) levels mid) x rest = subst (λ (n : ℕ). IsRead (reads f) (item_at (raws (formats_of f) l) n mid) x rest) same h' in
          record {
            start = mid;
            next = is.0;
            key = record { item = h''.item; is = key_behind (formats_of f) (item_at (raws (formats_of f) l) levels) mid mid is.1 ∙ h''.is; means = h''.means };
          }) one two

      -- what takes no byte is no key
      pub no_key_taken : (allowed : ReadErrorCode → Bool) (k : ErrorCode) (at : ℕ) (N : Limits → List ℕ → Type 0) → Step s m (There f) → Step m t (λ l bs rest. IsRead (reads g) (item_at (raws (formats_of g) l) inside bs) x rest) → t.offset ≤ m.offset → Refuses allowed s t k at N
      no_key_taken allowed k at N one two few = record {
        took = some_then s m t one.took two.took;
        reported = λ bs reports.
            let first = one.reported bs reports in
            let second = two.reported first.rest first.reports in
            let moved = taken (raws (formats_of g) _) inside first.rest (second.holds.item, second.rest) second.holds.is in
            absurd (omega (arith, moved, second.total, few));
      }

-- no key comes that may begin so
pub none_is_key : {K : Type 0} {w : Input} (reads : Raw → K → Type 0) (f : model.Formats) (levels : ℕ) (r : reader.Remaining) (allowed : ReadErrorCode → Bool) (s : Input) (k : ErrorCode) (at : ℕ)
    → Refuses allowed s w k at (NonePairs f r) → Refuses allowed s w k at (NoKey reads f levels r)
none_is_key {K} reads f levels r allowed s k at = refuses_map allowed s k at (NonePairs f r) (NoKey reads f levels r) on
  where
    on : (l : Limits) (bs : List ℕ) → NonePairs f r l bs → NoKey reads f levels r l bs
    on l bs none None after rest h = none false after rest h
    on l bs none (Some x) after rest h = none true after h.start (h.next, front_of_key f (item_at (raws f l) levels) h.start (h.key.item, rest) h.key.is)
