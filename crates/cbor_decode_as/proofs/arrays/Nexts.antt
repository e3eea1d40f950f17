-- The next item of an array.
use Rattle.std.proofs.Common.{◌≡◌, ℕ, ◌≤◌, Bool, true, List, Option, Some, None, Ok, sym, ap, ap₂, subst, ◌∙◌, arith}
use Rattle.cbor_model.specs.Formats as model
use Rattle.cbor_model.specs.Raw.{Raw}
use Rattle.cbor_model.specs.Refusal.{end_in_array}
use Rattle.cbor_model.specs.Reader.{next_at, item_at}
use Rattle.cbor_model.specs.Reader as reader
use Rattle.cbor_model.proofs.facts.Reader.{ok_is, taken}
use Rattle.cbor_read.specs.Source.{Input}
use Rattle.cbor_io.specs.Error.{code_of}
use Rattle.cbor_io.specs.declared.error.Error.{Error}
use Rattle.cbor_io.specs.declared.error.ErrorCode.TheVariants.{OutOfMemory}
use Rattle.cbor_io.specs.declared.error.ErrorCode.{ErrorCode}
use Rattle.cbor_io.specs.declared.read_error.ReadErrorCode.{ReadErrorCode}
use Rattle.cbor_decode.specs.Cursor.{behind_next}
use Rattle.cbor_decode.specs.Gives.{Limits, Reports, Step, limits}
use Rattle.cbor_decode.specs.Heads.{remaining_of}
use Rattle.cbor_decode.specs.declared.cursor.Remaining.{Remaining}
use Rattle.cbor_decode.proofs.facts.Steps.{some_then, step_map, step_then}
use Rattle.cbor_decode.specs.declared.formats.Formats.{Formats}
use Rattle.cbor_decode_as.specs.Accesses.{IsNext, IsNextItem, IsEnd, MemoryForNext}
use Rattle.cbor_decode_as.specs.Takes.{formats_of, raws, IsRead, IsNotRead, MemoryFor, Refuses}
use Rattle.cbor_decode_as.proofs.refused.Refusing.{refuses_map, refuses_by, refuses_then}
use Rattle.cbor_decode_as.proofs.arrays.Sequences.{NoNext}

-- ---- a part comes

some_is : (x y : reader.Remaining) → Some x ≡ Some y → x ≡ y
some_is x y e = cc

no_some : (x : reader.Remaining) → None ≡ Some x → ⊥
no_some x e = absurd cc

module _ (s m : Input) (old new : Remaining) (more : Bool) where
  abbrev Comes : Limits → List ℕ → List ℕ → Type 0
  Comes l bs rest = next_at end_in_array (remaining_of old) bs ≡ Ok (Some (remaining_of new), rest)

  pub comes : more ≡ true → Step s m (λ l bs rest. next_at end_in_array (remaining_of old) bs ≡ Ok (behind_next new more, rest)) → Step s m Comes
  comes is = step_map s m (λ l bs rest. next_at end_in_array (remaining_of old) bs ≡ Ok (behind_next new more, rest)) Comes
      (λ l bs rest h. h ∙ ap (λ (b : Bool). Ok (behind_next new b, rest)) is)

  module _ {A : Type 0} (reads : Formats → Raw → A → Type 0) (f g : Formats) (levels inside : ℕ) (formats : g ≡ f) (same : inside ≡ levels) where
    -- what isn't read isn't the next item
    not_next : (l : Limits) (bs mid : List ℕ) → Comes l bs mid → IsNotRead (reads f) (item_at (raws (formats_of f) l) levels mid) → NoNext (reads f) (formats_of f) levels (remaining_of old) l bs
    not_next l bs mid is none None after rest h = no_some (remaining_of new) (ap (λ (p : Option reader.Remaining × List ℕ). p.0) (ok_is (None, rest) (Some (remaining_of new), mid) (sym h ∙ is)))
    not_next l bs mid is none (Some x) after rest h =
        let both = ok_is (Some after, h.start) (Some (remaining_of new), mid) (sym h.next ∙ is) in
        none x rest (subst (λ (bs : List ℕ). IsRead (reads f) (item_at (raws (formats_of f) l) levels bs) x rest) (ap (λ (p : Option reader.Remaining × List ℕ). p.1) both) h.item)

    pub item_refused : {w : Input} (allowed : ReadErrorCode → Bool) (k : ErrorCode) (at : ℕ) → Step s m Comes → Refuses allowed m w k at (λ l bs. IsNotRead (reads g) (item_at (raws (formats_of g) l) inside bs)) → Refuses allowed s w k at (NoNext (reads f) (formats_of f) levels (remaining_of old))
    item_refused {w = w} allowed k at step h =
        let h' : Refuses allowed m w k at (λ l bs. IsNotRead (reads f) (item_at (raws (formats_of f) l) inside bs)) = subst (λ (g : Formats). Refuses allowed m w k at (λ l bs. IsNotRead (reads g) (item_at (raws (formats_of g) l) inside bs))) formats h in
        let here : Refuses allowed m w k at (λ l bs. IsNotRead (reads f) (item_at (raws (formats_of f) l) levels bs)) = subst (λ (n : ℕ). Refuses allowed m w k at (λ l bs. IsNotRead (reads f) (item_at (raws (formats_of f) l) n bs))) same h' in
        refuses_then allowed s k at m Comes (λ l bs. IsNotRead (reads f) (item_at (raws (formats_of f) l) levels bs)) (NoNext (reads f) (formats_of f) levels (remaining_of old))
        (λ l bs mid is none. not_next l bs mid is none) step here

    item_asked : (asks : Raw → Type 0) (e : Error) (step : Step s m Comes) → MemoryFor asks (formats_of g) (reads g) inside m e → code_of e ≡ OutOfMemory → (bs : List ℕ) → Reports s bs → (x : A) (after : reader.Remaining) (rest : List ℕ) → (next : IsNextItem (reads f) (formats_of f) levels (remaining_of old) after x (limits s bs) bs rest) → asks next.item.item
    item_asked asks e step memory out bs reports x after rest next =
        let first = step.reported bs reports in
        let both = ok_is (Some after, next.start) (Some (remaining_of new), first.rest) (sym next.next ∙ first.holds) in
        let item = next.item.item in
        let at = subst (λ (mid : List ℕ). item_at (raws (formats_of f) (limits s bs)) levels mid ≡ Ok (item, rest)) (ap (λ (p : Option reader.Remaining × List ℕ). p.1) both) next.item.is in
        let kept : limits m first.rest ≡ limits s bs = ap₂ (λ (n : ℕ) (r : Option ℕ). record { total = n; room = r }) first.total step.took.room in
        let within = subst (λ (l : Limits). item_at (raws (formats_of f) l) levels first.rest ≡ Ok (item, rest)) (sym kept) at in
        let level = subst (λ (n : ℕ). item_at (raws (formats_of f) (limits m first.rest)) n first.rest ≡ Ok (item, rest)) (sym same) within in
        let is = subst (λ (h : Formats). item_at (raws (formats_of h) (limits m first.rest)) inside first.rest ≡ Ok (item, rest)) (sym formats) level in
        memory out first.rest first.reports x rest (record { item = item; is = is; means = subst (λ (h : Formats). reads h item x) (sym formats) next.item.means })

    -- where memory runs out in it, it is one for which memory may be asked
    pub item_asks : (asks : Raw → Type 0) (e : Error) → Step s m Comes → MemoryFor asks (formats_of g) (reads g) inside m e → MemoryForNext asks (formats_of f) (reads f) levels old s e
    item_asks asks e step memory out bs reports = (
      λ x after rest next. item_asked asks e step memory out bs reports x after rest next,
      λ rest end. no_some (remaining_of new) (ap (λ (p : Option reader.Remaining × List ℕ). p.0) (ok_is (None, rest) (Some (remaining_of new), (step.reported bs reports).rest) (sym end ∙ (step.reported bs reports).holds))),
    )

    module _ (t : Input) (x : A) where
      pub item_next : Step s m Comes → Step m t (λ l bs rest. IsRead (reads g) (item_at (raws (formats_of g) l) inside bs) x rest) → Step s t (IsNext (reads f) (formats_of f) levels (remaining_of old) (remaining_of new) (Some x))
      item_next one two =
          step_then s m t Comes (λ l bs rest. IsRead (reads g) (item_at (raws (formats_of g) l) inside bs) x rest) (IsNext (reads f) (formats_of f) levels (remaining_of old) (remaining_of new) (Some x))
          (λ l bs mid rest is h. record {
            start = mid;
            next = is;
            item =
                let h' : IsRead (reads f) (item_at (raws (formats_of f) l) inside mid) x rest = subst (λ (g : Formats). IsRead (reads g) (item_at (raws (formats_of g) l) inside mid) x rest) formats h in
                subst (λ (n : ℕ). IsRead (reads f) (item_at (raws (formats_of f) l) n mid) x rest) same h';
          }) one two

      -- what takes no byte is no item
      pub nothing_taken : (allowed : ReadErrorCode → Bool) (k : ErrorCode) (at : ℕ) (N : Limits → List ℕ → Type 0) → Step s m Comes → Step m t (λ l bs rest. IsRead (reads g) (item_at (raws (formats_of g) l) inside bs) x rest) → t.offset ≤ m.offset → Refuses allowed s t k at N
      nothing_taken allowed k at N one two few = record {
        took = some_then s m t one.took two.took;
        reported = λ bs reports.
            let first = one.reported bs reports in
            let second = two.reported first.rest first.reports in
            let moved = taken (raws (formats_of g) _) inside first.rest (second.holds.item, second.rest) second.holds.is in
            absurd (omega (arith, moved, second.total, few));
      }

-- ---- a part that has to come

-- no item comes that is read
abbrev pub NoPart : {A : Type 0} → (Raw → A → Type 0) → model.Formats → ℕ → reader.Remaining → Limits → List ℕ → Type 0
NoPart {A} reads f levels r l bs = (x : A) (after : reader.Remaining) (rest : List ℕ) → IsNextItem reads f levels r after x l bs rest → ⊥

module _ {A : Type 0} (allowed : ReadErrorCode → Bool) (reads : Raw → A → Type 0) (f : model.Formats) (levels : ℕ) (r : reader.Remaining) (s : Input) (k : ErrorCode) (at : ℕ) where
  -- none is left
  pub part_missing : (t : Input) → Step s t (IsEnd r) → Refuses allowed s t k at (NoPart reads f levels r)
  part_missing t end = refuses_by allowed s k at t (IsEnd r) (NoPart reads f levels r)
      (λ l bs mid e x after rest h. no_some after (ap (λ (p : Option reader.Remaining × List ℕ). p.0) (ok_is (None, mid) (Some after, h.start) (sym e ∙ h.next)))) end

  pub part_refused : {w : Input} → Refuses allowed s w k at (NoNext reads f levels r) → Refuses allowed s w k at (NoPart reads f levels r)
  part_refused h = refuses_map allowed s k at (NoNext reads f levels r) (NoPart reads f levels r) (λ l bs none x after rest n. none (Some x) after rest n) h
