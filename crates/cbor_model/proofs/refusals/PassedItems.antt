-- A reader goes through the items of an array that precede a place where one is wanted.
use Rattle.std.proofs.Common.{◌≡◌, ◌⊎◌, ℕ, zero, suc, ◌+◌, ◌<◌, ◌≤◌, List, ◌++◌, length, Some, Err}
use Rattle.std.proofs.Common.{sym, ap, subst, ◌∙◌, append_assoc, arith, inl, inr}
use Rattle.std.proofs.lemmas.List.{length-append}
use Rattle.cbor_model.specs.Raw as raw
use Rattle.cbor_model.specs.Raw.{Raw, Raws, no_raws, count, IsWellFormed, AreWellFormed}
use Rattle.cbor_model.specs.Spelling.{spell, spell_all}
use Rattle.cbor_model.specs.Reader.{Fault, Reads, Reading, Remaining, counted, to_break, Parts}
use Rattle.cbor_model.specs.Reader.{go_on, parts_by, items_of, item_at}
use Rattle.cbor_model.specs.Wanted.{Opening, array_head, map_head, tag_head, indefinite_array}
use Rattle.cbor_model.specs.Wanted.{indefinite_map, HasPlace}
use Rattle.cbor_model.proofs.reader.FirstBytes.{IsBegun, begun}
use Rattle.cbor_model.proofs.refusals.Wanted.{IsFrame, frame}
use Rattle.cbor_model.proofs.refusals.FaultMeaning.{IsClosed}
use Rattle.cbor_model.proofs.refusals.Faults.{with_last, last-fit, last-count, last-bytes}
use Rattle.cbor_model.proofs.refusals.Passage.{Passage, Out, refused_behind, out_map, first_err, rest_err}
use Rattle.cbor_model.proofs.refusals.Passage.{behind_one, frame-length}
use Rattle.cbor_model.proofs.refusals.InnerFaults.{place_le, front_begun, counted_step, break_step}

module _ {Item Items Pairs : Type 0} {m : Reading Item Items Pairs} {Cond : ℕ → List ℕ → Type 0}
    {Bad : ℕ → List ℕ → Fault → ℕ → Type 0} (pass : Passage m Cond Bad) (l : ℕ) where
  abbrev p : List ℕ → Reads Item
  p = item_at m l

  -- an item, and those after it
  one_through : (o : Opening) (fuel : ℕ) (remaining remaining' : Remaining) (rs : Raws) (r : Raw) (more bytes : List ℕ) (n : ℕ) (Last : Fault → Type 0) → IsFrame o rs → IsWellFormed r → Cond l (spell r ++ more)
      → frame o rs ++ (spell r ++ more) ≡ bytes → length (frame o rs) + length (spell r) ≤ n
      → parts_by (items_of m p) (suc fuel) remaining (spell r ++ more) ≡ go_on (items_of m p) (parts_by (items_of m p) fuel) (Some remaining') (spell r ++ more)
      → Out pass l bytes n Last (parts_by (items_of m p) fuel remaining' more)
      → Out pass l bytes n Last (parts_by (items_of m p) (suc fuel) remaining (spell r ++ more))
  one_through o fuel remaining remaining' rs r more bytes n Last is_frame fits cond same few step others =
      elim (pass.passes l r more fits cond) [
        | inr bad ↦ inl (bad.0, step ∙ first_err (items_of m p) fuel remaining' (spell r ++ more) bad.0 bad.1, refused_behind pass l o rs r more bytes bad.0 n is_frame bad.2 same few)
        | inl ok ↦
            out_map pass l bytes n Last (parts_by (items_of m p) fuel remaining' more) (parts_by (items_of m p) (suc fuel) remaining (spell r ++ more))
            (λ f is. step ∙ rest_err (items_of m p) fuel remaining' (spell r ++ more) more ok.0 f ok.1 is) others
      ]

  abbrev pub Asks : Opening → Remaining → ℕ → Type 0
  Asks (array_head w k) (counted left) n = n < left
  Asks indefinite_array to_break n = Unit {0}
  Asks _ _ _ = ⊥

  asks_step : {Part Whole : Type 0} (ps : Parts Part Whole) (o : Opening) (fuel : ℕ) (remaining : Remaining) (n : ℕ) (bs : List ℕ) → Asks o remaining n → IsBegun bs
      → parts_by ps (suc fuel) remaining bs ≡ go_on ps (parts_by ps fuel) (Some (behind_one remaining)) bs
  asks_step ps (array_head w k) fuel (counted zero) n bs asks starts = absurd (omega (arith, asks))
  asks_step ps (array_head w k) fuel (counted (suc left)) n bs asks starts = counted_step ps fuel left bs
  asks_step ps indefinite_array fuel to_break n bs asks starts = break_step ps fuel bs starts
  asks_step ps (array_head w k) fuel to_break n bs asks starts = absurd asks
  asks_step ps (map_head w k) fuel remaining n bs asks starts = absurd asks
  asks_step ps (tag_head w k) fuel remaining n bs asks starts = absurd asks
  asks_step ps indefinite_array fuel (counted left) n bs asks starts = absurd asks
  asks_step ps indefinite_map fuel remaining n bs asks starts = absurd asks

  asks_less : (o : Opening) (remaining : Remaining) (n : ℕ) → Asks o remaining (suc n) → Asks o (behind_one remaining) n
  asks_less (array_head w k) (counted zero) n asks = absurd (omega (arith, asks))
  asks_less (array_head w k) (counted (suc left)) n asks = omega (arith, asks)
  asks_less indefinite_array to_break n asks = tt
  asks_less (array_head w k) to_break n asks = absurd asks
  asks_less (map_head w k) remaining n asks = absurd asks
  asks_less (tag_head w k) remaining n asks = absurd asks
  asks_less indefinite_array (counted left) n asks = absurd asks
  asks_less indefinite_map remaining n asks = absurd asks

  -- what is asked for at last
  pub asked_last : (o : Opening) (fuel : ℕ) (remaining : Remaining) (bs : List ℕ) (f : Fault) → Asks o remaining 0 → IsClosed o 0 ⊎ IsBegun bs → p bs ≡ Err f → parts_by (items_of m p) (suc fuel) remaining bs ≡ Err f
  asked_last (array_head w k) fuel (counted zero) bs f asks comes is = absurd (omega (arith, asks))
  asked_last (array_head w k) fuel (counted (suc left)) bs f asks comes is = counted_step (items_of m p) fuel left bs ∙ first_err (items_of m p) fuel (counted left) bs f is
  asked_last indefinite_array fuel to_break bs f asks (inr starts) is = break_step (items_of m p) fuel bs starts ∙ first_err (items_of m p) fuel to_break bs f is
  asked_last indefinite_array fuel to_break bs f asks (inl closed) is = absurd closed
  asked_last (array_head w k) fuel to_break bs f asks comes is = absurd asks
  asked_last (map_head w k) fuel remaining bs f asks comes is = absurd asks
  asked_last (tag_head w k) fuel remaining bs f asks comes is = absurd asks
  asked_last indefinite_array fuel (counted left) bs f asks comes is = absurd asks
  asked_last indefinite_map fuel remaining bs f asks comes is = absurd asks

  -- the items that are read make up the frame with those to come
  pub items_through : (o : Opening) (bs : List ℕ) (Last : Fault → Type 0) → ((fuel : ℕ) (remaining : Remaining) (f : Fault) → Asks o remaining 0 → Last f → parts_by (items_of m p) (suc fuel) remaining bs ≡ Err f)
      → (fuel : ℕ) (remaining : Remaining) (rs items : Raws) (bytes : List ℕ) (n : ℕ) → IsFrame o rs → AreWellFormed items → HasPlace o (count rs + count items) → Asks o remaining (count items) → count items < fuel
      → Cond l (spell_all items ++ bs) → frame o rs ++ (spell_all items ++ bs) ≡ bytes → length (frame o rs) + length (spell_all items) ≤ n
      → Out pass l bytes n Last (parts_by (items_of m p) fuel remaining (spell_all items ++ bs))
  unfolding spell
  items_through o bs Last asked zero remaining rs items bytes n is_frame fits place asks enough cond same few = absurd (omega arith)
  items_through o bs Last asked (suc fuel) remaining rs no_raws bytes n is_frame fits place asks enough cond same few = inr (λ f last. asked fuel remaining f asks last)
  items_through o bs Last asked (suc fuel) remaining rs (raw.raw r items) bytes n is_frame fits place asks enough cond same few =
      let more = spell_all items ++ bs in
      let assoc = append_assoc (spell r) (spell_all items) bs in
      let cond' = subst (Cond l) assoc cond in
      let same' : frame o rs ++ (spell r ++ more) ≡ bytes = ap (λ (t : List ℕ). frame o rs ++ t) (sym assoc) ∙ same in
      let rs' = with_last rs r in
      let counts : count rs + suc (count items) ≡ count rs' + count items = omega (arith, last-count rs r) in
      let is_frame' : IsFrame o rs' = record { opens = is_frame.opens; fits = last-fit rs r is_frame.fits fits.0; place = place_le o (count rs') (count rs + suc (count items)) (omega (arith, last-count rs r)) place } in
      let long = frame-length o rs r in
      subst (λ (t : List ℕ). Out pass l bytes n Last (parts_by (items_of m p) (suc fuel) remaining t)) (sym assoc)
      (one_through o fuel remaining (behind_one remaining) rs r more bytes n Last is_frame fits.0 cond' same' (omega (arith, few, length-append (spell r) (spell_all items)))
      (asks_step (items_of m p) o fuel remaining (suc (count items)) (spell r ++ more) asks (front_begun (spell r) more (begun r fits.0)))
      (items_through o bs Last asked fuel (behind_one remaining) rs' items bytes n is_frame' fits.1 (subst (HasPlace o) counts place) (asks_less o remaining (count items) asks) (omega (arith, enough)) (pass.rest_cond l (spell r) more cond')
      (last-bytes o rs r more ∙ same') (omega (arith, long, few, length-append (spell r) (spell_all items)))))
