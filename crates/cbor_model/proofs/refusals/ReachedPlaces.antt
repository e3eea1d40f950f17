-- A reader goes through the openings and whole items that precede a place where an item is wanted,
-- and refuses there what it refuses of an item; or it refuses what lies before.
use Rattle.std.proofs.Common.{◌≡◌, ◌⊎◌, ℕ, zero, suc, ◌+◌, ◌≤◌, List, ◌++◌, length, Err, sym, ap}
use Rattle.std.proofs.Common.{subst, ◌∙◌, append_assoc, arith, inl, inr}
use Rattle.std.proofs.lemmas.List.{length-append}
use Rattle.cbor_model.specs.Spelling.{spell_all}
use Rattle.cbor_model.specs.Refusal.{too_deep}
use Rattle.cbor_model.specs.Reader.{Fault, Reading, before, item_at}
use Rattle.cbor_model.specs.Wanted.{opening, IsWanted, at_first, inside}
use Rattle.cbor_model.proofs.refusals.Wanted.{IsFrame, frame}
use Rattle.cbor_model.proofs.refusals.InnerFaults.{Comes, LastComes, last_comes, opening_begun, front_begun}
use Rattle.cbor_model.proofs.refusals.InnerFaults.{deep_err}
use Rattle.cbor_model.proofs.refusals.Passage.{Passage}
use Rattle.cbor_model.proofs.refusals.PassedOpenings.{frame_through}

module _ {Item Items Pairs : Type 0} {m : Reading Item Items Pairs} {Cond : ℕ → List ℕ → Type 0}
    {Bad : ℕ → List ℕ → Fault → ℕ → Type 0} (pass : Passage m Cond Bad) where
  pub bad_wanted : (k : ℕ) (q : List ℕ) → IsWanted k q → (L r : ℕ) (bs : List ℕ) (f : Fault) (n : ℕ) → L ≡ k + r → Bad r bs f n → Bad L (q ++ bs) f (length q + n)
  bad_wanted k q at_first L r bs f n levels bad =
      let same : r ≡ L = omega arith in
      pass.bad_more L bs f n (0 + n) (omega arith) (subst (λ (j : ℕ). Bad j bs f n) same bad)
  bad_wanted k q (inside j before o items wanted opens fits place) L r bs f n levels bad =
      let pre = frame o items in
      let one = pass.bad_behind r o items (record { opens = opens; fits = fits; place = place }) bs f n bad in
      let all = bad_wanted j before wanted L (suc r) (pre ++ bs) f (length pre + n) (omega (arith, levels)) one in
      pass.bad_more L ((before ++ pre) ++ bs) f (length before + (length pre + n)) (length (before ++ pre) + n) (omega (arith, length-append before pre))
      (subst (λ (t : List ℕ). Bad L t f (length before + (length pre + n))) (sym (append_assoc before pre bs)) all)

  -- what lies before the place is refused
  pub record FaultBefore (L : ℕ) (bytes : List ℕ) (n : ℕ) : Type 0 where
    pub fault : Fault
    pub is : item_at m L bytes ≡ Err fault
    pub bad : Bad L bytes fault n

  -- or the place is reached
  pub record Reached (k : ℕ) (p : List ℕ) (Last : Type 0) (L : ℕ) (bs : List ℕ) : Type 0 where
    pub left : ℕ
    pub levels : L ≡ k + left
    pub cond : Cond left bs
    pub refuses : (f : Fault) → Last → item_at m left bs ≡ Err f → item_at m L (p ++ bs) ≡ Err f

  pub through : (k : ℕ) (p : List ℕ) (w : IsWanted k p) (L : ℕ) (bs : List ℕ) → Cond L (p ++ bs) → FaultBefore L (p ++ bs) (length p) ⊎ Reached k p (LastComes w bs) L bs
  through k p at_first L bs cond = inr (record { left = L; levels = omega arith; cond = cond; refuses = λ f last is. is })
  through k p (inside j before o items wanted opens fits place) L bs cond =
      let pre = frame o items in
      let here = pre ++ bs in
      let assoc : (before ++ pre) ++ bs ≡ before ++ here = append_assoc before pre bs in
      elim (through j before wanted L here (subst (Cond L) assoc cond)) [
        | inl fails ↦ inl (record {
          fault = fails.fault;
          is = ap (item_at m L) assoc ∙ fails.is;
          bad = pass.bad_more L ((before ++ pre) ++ bs) fails.fault (length before) (length (before ++ pre)) (omega (arith, length-append before pre)) (subst (λ (t : List ℕ). Bad L t fails.fault (length before)) (sym assoc) fails.bad);
        })
        | inr goes ↦ by_level goes.left goes.levels goes.cond goes.refuses
      ]
    where
      pre : List ℕ
      pre = frame o items

      is_frame : IsFrame o items
      is_frame = record { opens = opens; fits = fits; place = place }

      assoc : (before ++ frame o items) ++ bs ≡ before ++ (frame o items ++ bs)
      assoc = append_assoc before (frame o items) bs

      inner : frame o items ++ bs ≡ opening o ++ (spell_all items ++ bs)
      inner = append_assoc (opening o) (spell_all items) bs

      begins : LastComes wanted (frame o items ++ bs)
      begins = last_comes wanted (frame o items ++ bs) (front_begun (frame o items) bs (front_begun (opening o) (spell_all items) (opening_begun o opens)))

      refused : (left : ℕ) (f : Fault) (n : ℕ) → L ≡ j + left → item_at m left (frame o items ++ bs) ≡ Err f → n ≤ length (frame o items) → Bad left (frame o items ++ bs) f n
          → ((f : Fault) → LastComes wanted (frame o items ++ bs) → item_at m left (frame o items ++ bs) ≡ Err f → item_at m L (before ++ (frame o items ++ bs)) ≡ Err f)
          → FaultBefore L ((before ++ frame o items) ++ bs) (length (before ++ frame o items))
      refused left f n levels is few bad refuses = record {
        fault = f;
        is = ap (item_at m L) assoc ∙ refuses f begins is;
        bad = subst (λ (t : List ℕ). Bad L t f (length (before ++ frame o items))) (sym assoc)
            (pass.bad_more L (before ++ (frame o items ++ bs)) f (length before + n) (length (before ++ frame o items)) (omega (arith, few, length-append before (frame o items)))
            (bad_wanted j before wanted L left (frame o items ++ bs) f n levels bad));
      }

      by_level : (left : ℕ) → L ≡ j + left → Cond left (frame o items ++ bs)
          → ((f : Fault) → LastComes wanted (frame o items ++ bs) → item_at m left (frame o items ++ bs) ≡ Err f → item_at m L (before ++ (frame o items ++ bs)) ≡ Err f)
          → FaultBefore L ((before ++ frame o items) ++ bs) (length (before ++ frame o items)) ⊎ Reached (suc j) (before ++ frame o items) (Comes o items bs) L bs
      by_level zero levels cond refuses =
          let rest = spell_all items ++ bs in
          let f = before' rest in
          inl (refused 0 f (length (opening o)) levels (ap (item_at m 0) inner ∙ deep_err m o rest opens) (omega (arith, length-append (opening o) (spell_all items)))
          (subst (λ (t : List ℕ). Bad 0 t f (length (opening o))) (sym inner) (pass.deep o rest opens (subst (Cond 0) inner cond))) refuses)
        where
          before' : List ℕ → Fault
          before' rest = record { why = too_deep; left = length rest }
      by_level (suc r) levels cond refuses =
          elim (frame_through pass r o items bs is_frame cond) [
            | inl bad ↦ inl (refused (suc r) bad.0 (length (frame o items)) levels bad.1 (omega arith) bad.2 refuses)
            | inr each ↦ inr (record {
              left = r;
              levels = omega (arith, levels);
              cond = pass.rest_cond r (spell_all items) bs (pass.inner_cond r o (spell_all items ++ bs) (subst (Cond (suc r)) inner cond));
              refuses = λ f comes is. ap (item_at m L) assoc ∙ refuses f begins (each f (comes, is));
            })
          ]
