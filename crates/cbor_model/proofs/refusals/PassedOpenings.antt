-- A reader goes through an array, a map or a tag as far as a place where an item is wanted, or to
-- the end of input there.
use Rattle.std.proofs.Common.{◌≡◌, ℕ, suc, ◌*◌, List, [], ◌∷◌, ◌++◌, length, Err, refl, sym}
use Rattle.std.proofs.Common.{ap, subst, ◌∙◌, append_assoc, arith, inr}
use Rattle.std.proofs.lemmas.List.{append-nil, length-append}
use Rattle.cbor_model.specs.Raw as raw
use Rattle.cbor_model.specs.Raw.{Raws, no_raws, count, AreWellFormed}
use Rattle.cbor_model.specs.Spelling.{spell, spell_all}
use Rattle.cbor_model.specs.Refusal.{end_in_array, end_in_map}
use Rattle.cbor_model.specs.Reader.{Fault, Reads, Reading, Remaining, counted, to_break, next_at}
use Rattle.cbor_model.specs.Reader.{parts_by, parts_at, items_of, pairs_of, item_at}
use Rattle.cbor_model.specs.Wanted.{Opening, array_head, map_head, tag_head, indefinite_array}
use Rattle.cbor_model.specs.Wanted.{indefinite_map, opening}
use Rattle.cbor_model.proofs.reader.Again.{count-le}
use Rattle.cbor_model.proofs.refusals.Wanted.{IsFrame, frame}
use Rattle.cbor_model.proofs.refusals.Faults.{frame_none}
use Rattle.cbor_model.proofs.refusals.Passage.{Passage, Out, AsksItem, out_map}
use Rattle.cbor_model.proofs.refusals.InnerFaults.{Comes, array_err, indefinite_array_err, map_err}
use Rattle.cbor_model.proofs.refusals.InnerFaults.{indefinite_map_err, tag_err}
use Rattle.cbor_model.proofs.refusals.PassedItems.{Asks, asked_last, items_through}
use Rattle.cbor_model.proofs.refusals.PassedPairs.{AsksPairs, key_last, pairs_through}

module _ {Item Items Pairs : Type 0} {m : Reading Item Items Pairs} {Cond : ℕ → List ℕ → Type 0}
    {Bad : ℕ → List ℕ → Fault → ℕ → Type 0} (pass : Passage m Cond Bad) (l : ℕ) where
  abbrev p : List ℕ → Reads Item
  p = item_at m l

  pub frame_through : (o : Opening) (items : Raws) (bs : List ℕ) → IsFrame o items → Cond (suc l) (frame o items ++ bs)
      → Out pass l (frame o items ++ bs) (length (frame o items)) (AsksItem pass l (Comes o items bs) bs) (item_at m (suc l) (frame o items ++ bs))
  unfolding spell
  frame_through (array_head w k) items bs is_frame cond =
      let o = array_head w k in
      let here = spell_all items ++ bs in
      let assoc : frame o items ++ bs ≡ opening o ++ here = append_assoc (opening o) (spell_all items) bs in
      out_map pass l (frame o items ++ bs) (length (frame o items)) (AsksItem pass l (Comes o items bs) bs) (parts_at (items_of m p) (counted k) here) (item_at m (suc l) (frame o items ++ bs))
      (λ f is. ap (item_at m (suc l)) assoc ∙ array_err m l w k here f is_frame.opens is)
      (items_through pass l o bs (AsksItem pass l (Comes o items bs) bs) (λ fuel remaining f asks last. asked_last pass l o fuel remaining bs f asks last.0 last.1) (suc (length here)) (counted k) no_raws items (frame o items ++ bs) (length (frame o items)) (record { opens = is_frame.opens; fits = tt; place = omega (arith, is_frame.place) }) is_frame.fits (omega (arith, is_frame.place)) (omega (arith, is_frame.place))
      (omega (arith, count-le items is_frame.fits, length-append (spell_all items) bs)) (pass.inner_cond l o here (subst (Cond (suc l)) assoc cond)) (frame_none o here ∙ sym assoc)
      (omega (arith, length-append (opening o) [], length-append (opening o) (spell_all items))))
  frame_through (map_head w k) items bs is_frame cond =
      let o = map_head w k in
      let here = spell_all items ++ bs in
      let assoc : frame o items ++ bs ≡ opening o ++ here = append_assoc (opening o) (spell_all items) bs in
      out_map pass l (frame o items ++ bs) (length (frame o items)) (AsksItem pass l (Comes o items bs) bs) (parts_at (pairs_of m p) (counted k) here) (item_at m (suc l) (frame o items ++ bs))
      (λ f is. ap (item_at m (suc l)) assoc ∙ map_err m l w k here f is_frame.opens is)
      (pairs_through pass l o bs (count items) (AsksItem pass l (Comes o items bs) bs) (λ fuel remaining j f asks even last. key_last pass l o fuel remaining j (count items) bs f asks even last.0 last.1) (λ j f odd last. last.1) (suc (length here)) (counted k) no_raws items (frame o items ++ bs) (length (frame o items)) 0 (record { opens = is_frame.opens; fits = tt; place = omega (arith, is_frame.place) }) refl (omega arith) is_frame.fits is_frame.place is_frame.place
      (omega (arith, count-le items is_frame.fits, length-append (spell_all items) bs)) (pass.inner_cond l o here (subst (Cond (suc l)) assoc cond)) (frame_none o here ∙ sym assoc)
      (omega (arith, length-append (opening o) [], length-append (opening o) (spell_all items))))
  frame_through (tag_head w k) no_raws bs is_frame cond =
      let o = tag_head w k in
      inr (λ f last. ap (item_at m (suc l)) (frame_none o bs) ∙ tag_err m l w k bs f is_frame.opens last.1)
  frame_through (tag_head w k) (raw.raw r items) bs is_frame cond = absurd (omega (arith, is_frame.place))
  frame_through indefinite_array items bs is_frame cond =
      let o = indefinite_array in
      let here = spell_all items ++ bs in
      out_map pass l (frame o items ++ bs) (length (frame o items)) (AsksItem pass l (Comes o items bs) bs) (parts_at (items_of m p) to_break here) (item_at m (suc l) (frame o items ++ bs))
      (λ f is. indefinite_array_err m l here f is)
      (items_through pass l o bs (AsksItem pass l (Comes o items bs) bs) (λ fuel remaining f asks last. asked_last pass l o fuel remaining bs f asks last.0 last.1) (suc (length here)) to_break no_raws items (frame o items ++ bs) (length (frame o items)) (record { opens = tt; fits = tt; place = tt }) is_frame.fits tt tt
      (omega (arith, count-le items is_frame.fits, length-append (spell_all items) bs)) (pass.inner_cond l o here cond) refl (omega arith))
  frame_through indefinite_map items bs is_frame cond =
      let o = indefinite_map in
      let here = spell_all items ++ bs in
      out_map pass l (frame o items ++ bs) (length (frame o items)) (AsksItem pass l (Comes o items bs) bs) (parts_at (pairs_of m p) to_break here) (item_at m (suc l) (frame o items ++ bs))
      (λ f is. indefinite_map_err m l here f is)
      (pairs_through pass l o bs (count items) (AsksItem pass l (Comes o items bs) bs) (λ fuel remaining j f asks even last. key_last pass l o fuel remaining j (count items) bs f asks even last.0 last.1) (λ j f odd last. last.1) (suc (length here)) to_break no_raws items (frame o items ++ bs) (length (frame o items)) 0 (record { opens = tt; fits = tt; place = tt }) refl (omega arith) is_frame.fits tt tt
      (omega (arith, count-le items is_frame.fits, length-append (spell_all items) bs)) (pass.inner_cond l o here cond) refl (omega arith))

  -- the end, where an array or a map is open
  pub array_ends : (items : Raws) → AreWellFormed items → Cond (suc l) (0x9f ∷ spell_all items)
      → Out pass l (0x9f ∷ spell_all items) (length (0x9f ∷ spell_all items)) (λ f. f ≡ record { why = end_in_array; left = 0 }) (item_at m (suc l) (0x9f ∷ spell_all items))
  unfolding spell parts_by next_at
  array_ends items fits cond =
      let o = indefinite_array in
      let bytes = 0x9f ∷ spell_all items in
      let none = append-nil (spell_all items) in
      let here = spell_all items ++ [] in
      let Last = λ (f : Fault). f ≡ record { why = end_in_array; left = 0 } in
      out_map pass l bytes (length bytes) Last (parts_at (items_of m p) to_break here) (item_at m (suc l) bytes)
      (λ f is. indefinite_array_err m l (spell_all items) f (ap (parts_at (items_of m p) to_break) (sym none) ∙ is))
      (items_through pass l o [] Last (λ fuel remaining f asks last. ends_array fuel remaining f asks last) (suc (length here)) to_break no_raws items bytes (length bytes) (record { opens = tt; fits = tt; place = tt }) fits tt tt
      (omega (arith, count-le items fits, length-append (spell_all items) [])) (subst (Cond l) (sym none) (pass.inner_cond l o (spell_all items) cond)) (ap (λ (t : List ℕ). 0x9f ∷ t) none) (omega arith))
    where
      ends_array : (fuel : ℕ) (remaining : Remaining) (f : Fault) → Asks pass l indefinite_array remaining 0 → f ≡ record { why = end_in_array; left = 0 } → parts_by (items_of m p) (suc fuel) remaining [] ≡ Err f
      ends_array fuel (counted left) f asks last = absurd asks
      ends_array fuel to_break f asks last = ap (λ (f : Fault). Err f) (sym last)

  pub map_ends : (j : ℕ) (items : Raws) → AreWellFormed items → count items ≡ 2 * j → Cond (suc l) (0xbf ∷ spell_all items)
      → Out pass l (0xbf ∷ spell_all items) (length (0xbf ∷ spell_all items)) (λ f. f ≡ record { why = end_in_map; left = 0 }) (item_at m (suc l) (0xbf ∷ spell_all items))
  unfolding spell parts_by next_at
  map_ends j items fits even cond =
      let o = indefinite_map in
      let bytes = 0xbf ∷ spell_all items in
      let none = append-nil (spell_all items) in
      let here = spell_all items ++ [] in
      let Last = λ (f : Fault). f ≡ record { why = end_in_map; left = 0 } in
      out_map pass l bytes (length bytes) Last (parts_at (pairs_of m p) to_break here) (item_at m (suc l) bytes)
      (λ f is. indefinite_map_err m l (spell_all items) f (ap (parts_at (pairs_of m p) to_break) (sym none) ∙ is))
      (pairs_through pass l o [] (count items) Last (λ fuel remaining j f asks even last. ends_map fuel remaining f asks last) (λ k f odd last. absurd (omega (arith, even, odd))) (suc (length here)) to_break no_raws items bytes (length bytes) 0 (record { opens = tt; fits = tt; place = tt }) refl (omega arith) fits tt tt
      (omega (arith, count-le items fits, length-append (spell_all items) [])) (subst (Cond l) (sym none) (pass.inner_cond l o (spell_all items) cond)) (ap (λ (t : List ℕ). 0xbf ∷ t) none) (omega arith))
    where
      ends_map : (fuel : ℕ) (remaining : Remaining) (f : Fault) → AsksPairs pass l indefinite_map remaining 0 → f ≡ record { why = end_in_map; left = 0 } → parts_by (pairs_of m p) (suc fuel) remaining [] ≡ Err f
      ends_map fuel (counted left) f asks last = absurd asks
      ends_map fuel to_break f asks last = ap (λ (f : Fault). Err f) (sym last)
