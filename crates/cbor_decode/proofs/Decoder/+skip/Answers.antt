mod Memory
use Rattle.std.proofs.Common.{◌≡◌, ◌∙◌, ℕ, Option, Some, None, Ok, true, false, refl, sym, ap, subst, arith, rules}
use Rattle.std.proofs.lemmas.Result.{err_from_is_err_and}
use Rattle.cbor_model.specs.Formats.{Formats, may_begin_key}
use Rattle.cbor_model.specs.Head.{no_bytes}
use Rattle.cbor_model.specs.Raw.{indefinite}
use Rattle.cbor_model.specs.Refusal.{end_in_array, end_in_map, too_deep, wrong_struct_format}
use Rattle.cbor_model.specs.Reader.{byte_at, array_at, map_at, tag_at, parts_at, after_first, item_at, inside}
use Rattle.cbor_read.specs.Source.{Input}
use Rattle.cbor_io.specs.declared.read_error.ReadErrorCode.TheVariants.{RecursionLimitExceeded, WrongStructFormat}
use Rattle.cbor_decode.specs.declared.head.Head.TheVariants as head
use Rattle.cbor_decode.specs.Decoder.{formats_of}
use Rattle.cbor_decode.specs.Gives.{values, Step, Stopped, Gives}
use Rattle.cbor_decode.specs.Heads.{after_head, head_at, remaining_of, first_at, first_of_next, passed}
use Rattle.cbor_decode.proofs.Steps.{subst_both, step_same, step_then, stopped_map, stopped_then, gives_then}
use Rattle.cbor_decode.proofs.SourceCalls.{fault_stops, first_stops}
use Rattle.cbor_decode.proofs.Heads.{value_after, value_stops_at}
use Rattle.cbor_decode.proofs.Inside.{array_too_deep, map_too_deep, tag_too_deep, value_first, value_stops}
use Rattle.cbor_decode.proofs.Skipped.{gives_same, items, pairs, ItemsSoFar, PairsSoFar, PartBegun, part_begins, item_passed, item_stops, items_cut, items_end, KeyPassed, key_passed, pair_passed, key_refused, key_stops, pairs_cut, pairs_end, array_passed, map_passed, tag_passed}
use Rattle.cbor_decode.proofs.Skipped as skipped
use Rattle.cbor_decode.proofs.SkippedChunks as chunks
use Rattle.cbor_decode.proofs.SkippedChunks.{leads_same}
use Rattle.cbor_decode.specs.HasChunks.{SomeHasChunks, SomePairHasChunks}
use Rattle.cbor_decode.proofs.Decoder.+skip.Goals as goal
use Rattle.cbor_decode.proofs.Decoder.+skip.Answers.Memory as memory

-- ---- an item

pub skip-returns-in_err-first-clause-read : goal.skip-returns-in_err-first-clause-read
skip-returns-in_err-first-clause-read g t c =
    let f = formats_of c.args.self.now.formats in
    let levels = c.args.self.now.levels in
    let is_err = err_from_is_err_and c.from_residual.result c.from_residual.ensures.1 in
    rw (is_err.1, is_err.2) (stopped_map g.R.Source.refusals (λ l. byte_at) (λ l bs. passed (item_at (values f l) levels bs)) _ _ _ (λ l bs d is. ap (λ r. passed r) (value_stops f l levels bs d is)) c.in_err-first.ensures.read)

pub skip-returns-clause-read : goal.skip-returns-clause-read
skip-returns-clause-read g t c =
    let f = formats_of c.args.self.now.formats in
    let levels = c.args.self.now.levels in
    let b = c.in_ok-first.first in
    let given = subst_both (λ (f : Formats) (n : ℕ). Gives g.R.Source.refusals (λ u. u) (λ l bs. passed (after_first (values f l) (inside (values f l) n) b bs)) (g.R.Source.source c.byte.new.self.source) (g.R.Source.source c.skip_from.new.self.source) c.skip_from.new.self.refusal c.skip_from.result) (ap formats_of c.in_ok-first.ensures.settings.formats) c.in_ok-first.ensures.settings.levels c.skip_from.ensures.read in
    gives_then g.R.Source.refusals (λ u. u) (λ l bs. passed (after_first (values f l) (inside (values f l) levels) b bs)) (λ l bs. passed (item_at (values f l) levels bs)) _ _ _ _ _ (λ l bs mid. byte_at bs ≡ Ok (b, mid))
    (λ l bs mid is. ap (λ r. passed r) (value_first f l levels b bs mid is)) c.in_ok-first.ensures.read given

pub skip_from-returns-in_err-head-clause-read : goal.skip_from-returns-in_err-head-clause-read
skip_from-returns-in_err-head-clause-read g t c =
    let f = formats_of c.args.self.now.formats in
    let levels = c.args.self.now.levels in
    let is_err = err_from_is_err_and c.from_residual.result c.from_residual.ensures.1 in
    rw (is_err.1, is_err.2) (stopped_map g.R.Source.refusals (λ l. head_at c.args.first) (λ l bs. passed (after_first (values f l) (inside (values f l) levels) c.args.first bs)) _ _ _ (λ l bs d is. ap (λ r. passed r) (value_stops_at f l (inside (values f l) levels) c.args.first bs d is)) c.in_err-head.ensures.read)

pub skip_from-returns-clause-read : goal.skip_from-returns-clause-read
skip_from-returns-clause-read g t c =
    let f = formats_of c.args.self.now.formats in
    let levels = c.args.self.now.levels in
    let h = c.in_ok-head.head in
    let given = subst_both (λ (f : Formats) (n : ℕ). Gives g.R.Source.refusals (λ u. u) (λ l bs. passed (after_head f l (inside (values f l) n) h bs)) (g.R.Source.source c.head.new.self.source) (g.R.Source.source c.skip_of.new.self.source) c.skip_of.new.self.refusal c.skip_of.result) (ap formats_of c.in_ok-head.ensures.settings.formats) c.in_ok-head.ensures.settings.levels c.skip_of.ensures.read in
    gives_then g.R.Source.refusals (λ u. u) (λ l bs. passed (after_head f l (inside (values f l) levels) h bs)) (λ l bs. passed (after_first (values f l) (inside (values f l) levels) c.args.first bs)) _ _ _ _ _ _
    (λ l bs mid is. ap (λ r. passed r) (value_after f l (inside (values f l) levels) c.args.first is.0 h bs mid is.1)) c.in_ok-head.ensures.read given

-- ---- one level further in

pub skip_array-returns-in_err-enter-clause-read : goal.skip_array-returns-in_err-enter-clause-read
skip_array-returns-in_err-enter-clause-read g t c =
    let f = formats_of c.args.self.now.formats in
    let levels = c.args.self.now.levels in
    let r = remaining_of c.args.remaining in
    let is_err = err_from_is_err_and c.from_residual.result c.from_residual.ensures.1 in
    let e = c.in_err-enter.ensures in
    rw (is_err.1, is_err.2, e.source) (fault_stops g.R.Source.refusals (g.R.Source.source c.args.self.now.source) (λ l bs. passed (array_at (values f l) (inside (values f l) levels) indefinite r bs)) _ _ RecursionLimitExceeded too_deep (λ at end r h. h)
    (λ l bs. ap (λ r. passed r) (array_too_deep f l levels r bs e.none.0)) e.refused e.kept)

pub skip_map-returns-in_err-enter-clause-read : goal.skip_map-returns-in_err-enter-clause-read
skip_map-returns-in_err-enter-clause-read g t c =
    let f = formats_of c.args.self.now.formats in
    let levels = c.args.self.now.levels in
    let r = remaining_of c.args.remaining in
    let is_err = err_from_is_err_and c.from_residual.result c.from_residual.ensures.1 in
    let e = c.in_err-enter.ensures in
    rw (is_err.1, is_err.2, e.source) (fault_stops g.R.Source.refusals (g.R.Source.source c.args.self.now.source) (λ l bs. passed (map_at (values f l) (inside (values f l) levels) indefinite r bs)) _ _ RecursionLimitExceeded too_deep (λ at end r h. h)
    (λ l bs. ap (λ r. passed r) (map_too_deep f l levels r bs e.none.0)) e.refused e.kept)

pub skip_tagged-returns-in_err-enter-clause-read : goal.skip_tagged-returns-in_err-enter-clause-read
skip_tagged-returns-in_err-enter-clause-read g t c =
    let f = formats_of c.args.self.now.formats in
    let levels = c.args.self.now.levels in
    let is_err = err_from_is_err_and c.from_residual.result c.from_residual.ensures.1 in
    let e = c.in_err-enter.ensures in
    rw (is_err.1, is_err.2, e.source) (fault_stops g.R.Source.refusals (g.R.Source.source c.args.self.now.source) (λ l bs. passed (tag_at (values f l) (inside (values f l) levels) no_bytes c.args.tag bs)) _ _ RecursionLimitExceeded too_deep (λ at end r h. h)
    (λ l bs. ap (λ r. passed r) (tag_too_deep f l levels c.args.tag bs e.none.0)) e.refused e.kept)

pub skip_array-returns-clause-read : goal.skip_array-returns-clause-read
skip_array-returns-clause-read g t c =
    let f = formats_of c.args.self.now.formats in
    let levels = c.args.self.now.levels in
    let left = c.enter.new.self.levels in
    let r = remaining_of c.args.remaining in
    let given = subst_both (λ (f : Formats) (s : Input). Gives g.R.Source.refusals (λ u. u) (λ l bs. passed (parts_at (items f left r l) r bs)) s (g.R.Source.source c.skip_items-passed.new.self.source) c.skip_items-passed.new.self.refusal c.skip_items-passed.result) (ap formats_of c.in_ok-enter.ensures.formats) (ap g.R.Source.source c.in_ok-enter.ensures.source) c.skip_items-passed.ensures.read in
    gives_same g.R.Source.refusals (λ u. u) (λ l bs. passed (parts_at (items f left r l) r bs)) (λ l bs. passed (array_at (values f l) (inside (values f l) levels) indefinite r bs)) _ _ _ _
    (λ l bs. array_passed f l levels left (omega (arith, c.in_ok-enter.ensures.inside)) r bs) given

pub skip_map-returns-clause-read : goal.skip_map-returns-clause-read
skip_map-returns-clause-read g t c =
    let f = formats_of c.args.self.now.formats in
    let levels = c.args.self.now.levels in
    let left = c.enter.new.self.levels in
    let r = remaining_of c.args.remaining in
    let given = subst_both (λ (f : Formats) (s : Input). Gives g.R.Source.refusals (λ u. u) (λ l bs. passed (parts_at (pairs f left r l) r bs)) s (g.R.Source.source c.skip_pairs-passed.new.self.source) c.skip_pairs-passed.new.self.refusal c.skip_pairs-passed.result) (ap formats_of c.in_ok-enter.ensures.formats) (ap g.R.Source.source c.in_ok-enter.ensures.source) c.skip_pairs-passed.ensures.read in
    gives_same g.R.Source.refusals (λ u. u) (λ l bs. passed (parts_at (pairs f left r l) r bs)) (λ l bs. passed (map_at (values f l) (inside (values f l) levels) indefinite r bs)) _ _ _ _
    (λ l bs. map_passed f l levels left (omega (arith, c.in_ok-enter.ensures.inside)) r bs) given

pub skip_tagged-returns-clause-read : goal.skip_tagged-returns-clause-read
skip_tagged-returns-clause-read g t c =
    let f = formats_of c.args.self.now.formats in
    let levels = c.args.self.now.levels in
    let left = c.enter.new.self.levels in
    let n = c.args.tag in
    let given = subst_both (λ (f : Formats) (s : Input). Gives g.R.Source.refusals (λ u. u) (λ l bs. passed (item_at (values f l) left bs)) s (g.R.Source.source c.skip-passed.new.self.source) c.skip-passed.new.self.refusal c.skip-passed.result) (ap formats_of c.in_ok-enter.ensures.formats) (ap g.R.Source.source c.in_ok-enter.ensures.source) c.skip-passed.ensures.read in
    gives_same g.R.Source.refusals (λ u. u) (λ l bs. passed (item_at (values f l) left bs)) (λ l bs. passed (tag_at (values f l) (inside (values f l) levels) no_bytes n bs)) _ _ _ _
    (λ l bs. tag_passed f l levels left (omega (arith, c.in_ok-enter.ensures.inside)) n bs) given

pub skip_array-overflow_add-self : goal.skip_array-overflow_add-self
skip_array-overflow_add-self g t c = omega (arith, c.skip_items-passed.ensures.settings.levels, c.in_ok-enter.ensures.below)

pub skip_map-overflow_add-self : goal.skip_map-overflow_add-self
skip_map-overflow_add-self g t c = omega (arith, c.skip_pairs-passed.ensures.settings.levels, c.in_ok-enter.ensures.below)

pub skip_tagged-overflow_add-self : goal.skip_tagged-overflow_add-self
skip_tagged-overflow_add-self g t c = omega (arith, c.skip-passed.ensures.settings.levels, c.in_ok-enter.ensures.below)

-- ---- items

pub skip_items-items-init : goal.skip_items-items-init
skip_items-items-init g t c = record {
  so_far = step_same _ _ (λ l bs. refl);
  leads =
      let r = chunks.items (formats_of c.args.self.now.formats) c.args.self.now.levels (remaining_of c.args.remaining) in
      step_same _ _ (λ l bs. leads_same SomeHasChunks r l bs);
  levels = refl;
  formats = refl;
}

pub skip_items-returns-in_err-first-clause-read : goal.skip_items-returns-in_err-first-clause-read
skip_items-returns-in_err-first-clause-read g t c =
    let f = formats_of c.args.self.now.formats in
    let levels = c.args.self.now.levels in
    let is_err = err_from_is_err_and c.from_residual.result c.from_residual.ensures.1 in
    let all = remaining_of c.args.remaining in
    let r = remaining_of c.items.remaining in
    rw (is_err.1, is_err.2) (stopped_then g.R.Source.refusals (λ l. first_at end_in_array r) (λ l bs. passed (parts_at (items f levels all l) all bs)) _ _ _ _
    (ItemsSoFar f levels all r) (λ l bs rest d so_far is. items_cut f levels all r l bs rest d so_far is) c.items.invariant.so_far c.in_err-first.ensures.read)

pub skip_items-returns-in_err-skip_from-clause-read : goal.skip_items-returns-in_err-skip_from-clause-read
skip_items-returns-in_err-skip_from-clause-read g t c =
    let f = formats_of c.args.self.now.formats in
    let levels = c.args.self.now.levels in
    let is_err = err_from_is_err_and c.from_residual-in_err-skip_from.result c.from_residual-in_err-skip_from.ensures.1 in
    let s0 = g.R.Source.source c.args.self.now.source in
    let s = g.R.Source.source c.items.self.source in
    let t = g.R.Source.source c.next.new.self.source in
    let all = remaining_of c.args.remaining in
    let r = remaining_of c.items.remaining in
    let behind = remaining_of c.next.new.remaining in
    let b = c.in-Some.first in
    let same : c.next.new.self.levels ≡ levels = c.in_ok-first.ensures.settings.levels ∙ c.items.invariant.levels in
    let same_formats : formats_of c.next.new.self.formats ≡ f = ap formats_of (c.in_ok-first.ensures.settings.formats ∙ c.items.invariant.formats) in
    let first = subst (λ (o : Option ℕ). Step s t (λ l rest mid. first_at end_in_array r rest ≡ Ok (first_of_next c.next.new.remaining o, mid))) c.in-Some.is c.in_ok-first.ensures.read in
    let begun = step_then s0 s t (ItemsSoFar f levels all r) (λ l rest mid. first_at end_in_array r rest ≡ Ok (Some (behind, b), mid)) (PartBegun (items f levels all) all behind b)
    (λ l bs rest mid so_far is. part_begins (items f levels all) all r behind b l bs rest mid so_far is) c.items.invariant.so_far first in
    let stops = subst_both (λ (f : Formats) (n : ℕ). Stopped g.R.Source.refusals (λ l bs. passed (after_first (values f l) (inside (values f l) n) b bs)) t (g.R.Source.source c.skip_from.new.self.source) c.skip_from.new.self.refusal c.in_err-skip_from.field-0.0) same_formats same c.in_err-skip_from.ensures.read in
    rw (is_err.1, is_err.2) (stopped_then g.R.Source.refusals (λ l bs. passed (after_first (values f l) (inside (values f l) levels) b bs)) (λ l bs. passed (parts_at (items f levels all l) all bs)) s0 t c.skip_from.new.self.refusal c.in_err-skip_from.field-0.0 (PartBegun (items f levels all) all behind b)
    (λ l bs mid d h is. item_stops f levels all behind b l bs mid d h is) begun stops)

pub skip_items-items-preserved : goal.skip_items-items-preserved
skip_items-items-preserved g t c =
    let f = formats_of c.args.self.now.formats in
    let levels = c.args.self.now.levels in
    let s0 = g.R.Source.source c.args.self.now.source in
    let s = g.R.Source.source c.items.self.source in
    let t = g.R.Source.source c.next.new.self.source in
    let u = g.R.Source.source c.skip_from.new.self.source in
    let all = remaining_of c.args.remaining in
    let r = remaining_of c.items.remaining in
    let behind = remaining_of c.next.new.remaining in
    let b = c.in-Some.first in
    let same : c.next.new.self.levels ≡ levels = c.in_ok-first.ensures.settings.levels ∙ c.items.invariant.levels in
    let same_formats : formats_of c.next.new.self.formats ≡ f = ap formats_of (c.in_ok-first.ensures.settings.formats ∙ c.items.invariant.formats) in
    let first = subst (λ (o : Option ℕ). Step s t (λ l rest mid. first_at end_in_array r rest ≡ Ok (first_of_next c.next.new.remaining o, mid))) c.in-Some.is c.in_ok-first.ensures.read in
    let begun = step_then s0 s t (ItemsSoFar f levels all r) (λ l rest mid. first_at end_in_array r rest ≡ Ok (Some (behind, b), mid)) (PartBegun (items f levels all) all behind b)
    (λ l bs rest mid so_far is. part_begins (items f levels all) all r behind b l bs rest mid so_far is) c.items.invariant.so_far first in
    let item = subst_both (λ (f : Formats) (n : ℕ). Step t u (λ l mid after. passed (after_first (values f l) (inside (values f l) n) b mid) ≡ Ok (tt, after))) same_formats same c.in_ok-skip_from.ensures.read in
    record {
      so_far = step_then s0 t u (PartBegun (items f levels all) all behind b) (λ l mid after. passed (after_first (values f l) (inside (values f l) levels) b mid) ≡ Ok (tt, after)) (ItemsSoFar f levels all behind)
          (λ l bs mid after h is. item_passed f levels all behind b l bs mid after h is) begun item;
      leads = chunks.item_done f levels s0 t u all behind b (chunks.item_begins f levels s0 s t all r behind b c.items.invariant.leads first) item;
      levels = c.in_ok-skip_from.ensures.settings.levels ∙ same;
      formats = c.in_ok-skip_from.ensures.settings.formats ∙ c.in_ok-first.ensures.settings.formats ∙ c.items.invariant.formats;
    }

pub skip_items-returns-clause-read : goal.skip_items-returns-clause-read
skip_items-returns-clause-read g t c =
    let f = formats_of c.args.self.now.formats in
    let levels = c.args.self.now.levels in
    let s0 = g.R.Source.source c.args.self.now.source in
    let s = g.R.Source.source c.items.self.source in
    let t = g.R.Source.source c.next.new.self.source in
    let all = remaining_of c.args.remaining in
    let r = remaining_of c.items.remaining in
    let none : c.in_ok-first.field-0 ≡ None = search rules in
    let last = subst (λ (o : Option ℕ). Step s t (λ l rest mid. first_at end_in_array r rest ≡ Ok (first_of_next c.next.new.remaining o, mid))) none c.in_ok-first.ensures.read in
    step_then s0 s t (ItemsSoFar f levels all r) (λ l rest mid. first_at end_in_array r rest ≡ Ok (None, mid)) _
    (λ l bs rest after so_far is. items_end f levels all r l bs rest after so_far is) c.items.invariant.so_far last

-- ---- pairs

pub skip_pairs-pairs-init : goal.skip_pairs-pairs-init
skip_pairs-pairs-init g t c =
    record {
      so_far = step_same _ _ (λ l bs. refl);
      leads =
          let r = chunks.pairs (formats_of c.args.self.now.formats) c.args.self.now.levels (remaining_of c.args.remaining) in
          step_same _ _ (λ l bs. leads_same SomePairHasChunks r l bs);
      levels = refl;
      formats = refl;
    }

pub skip_pairs-returns-in_err-first-clause-read : goal.skip_pairs-returns-in_err-first-clause-read
skip_pairs-returns-in_err-first-clause-read g t c =
    let f = formats_of c.args.self.now.formats in
    let levels = c.args.self.now.levels in
    let is_err = err_from_is_err_and c.from_residual.result c.from_residual.ensures.1 in
    let all = remaining_of c.args.remaining in
    let r = remaining_of c.pairs.remaining in
    rw (is_err.1, is_err.2) (stopped_then g.R.Source.refusals (λ l. first_at end_in_map r) (λ l bs. passed (parts_at (pairs f levels all l) all bs)) _ _ _ _
    (PairsSoFar f levels all r) (λ l bs rest d so_far is. pairs_cut f levels all r l bs rest d so_far is) c.pairs.invariant.so_far c.in_err-first.ensures.read)

pub skip_pairs-returns-then-not-may_begin_key-clause-read : goal.skip_pairs-returns-then-not-may_begin_key-clause-read
skip_pairs-returns-then-not-may_begin_key-clause-read g t c =
    let f = formats_of c.args.self.now.formats in
    let levels = c.args.self.now.levels in
    let s0 = g.R.Source.source c.args.self.now.source in
    let s = g.R.Source.source c.pairs.self.source in
    let t = g.R.Source.source c.next.new.self.source in
    let all = remaining_of c.args.remaining in
    let r = remaining_of c.pairs.remaining in
    let behind = remaining_of c.next.new.remaining in
    let b = c.in-Some.first in
    let same : c.next.new.self.levels ≡ levels = c.in_ok-first.ensures.settings.levels ∙ c.pairs.invariant.levels in
    let same_formats : formats_of c.next.new.self.formats ≡ f = ap formats_of (c.in_ok-first.ensures.settings.formats ∙ c.pairs.invariant.formats) in
    let first = subst (λ (o : Option ℕ). Step s t (λ l rest mid. first_at end_in_map r rest ≡ Ok (first_of_next c.next.new.remaining o, mid))) c.in-Some.is c.in_ok-first.ensures.read in
    let begun = step_then s0 s t (PairsSoFar f levels all r) (λ l rest mid. first_at end_in_map r rest ≡ Ok (Some (behind, b), mid)) (PartBegun (pairs f levels all) all behind b)
    (λ l bs rest mid so_far is. part_begins (pairs f levels all) all r behind b l bs rest mid so_far is) c.pairs.invariant.so_far first in
    let other : may_begin_key f b ≡ false = sym (c.if-not-may_begin_key.ensures ∙ ap (λ (f : Formats). may_begin_key f b) same_formats) in
    rw c.refuse_back.ensures.source (first_stops g.R.Source.refusals s0 t (λ l bs. passed (parts_at (pairs f levels all l) all bs)) _ _ WrongStructFormat wrong_struct_format (λ at end r h. h) (PartBegun (pairs f levels all) all behind b)
    (λ l bs mid h. key_refused f levels all behind b l bs mid h other) begun c.refuse_back.ensures.refused c.refuse_back.ensures.kept)

pub skip_pairs-returns-in_err-skip_from-clause-read : goal.skip_pairs-returns-in_err-skip_from-clause-read
skip_pairs-returns-in_err-skip_from-clause-read g t c =
    let f = formats_of c.args.self.now.formats in
    let levels = c.args.self.now.levels in
    let is_err = err_from_is_err_and c.from_residual-in_err-skip_from.result c.from_residual-in_err-skip_from.ensures.1 in
    let s0 = g.R.Source.source c.args.self.now.source in
    let s = g.R.Source.source c.pairs.self.source in
    let t = g.R.Source.source c.next.new.self.source in
    let all = remaining_of c.args.remaining in
    let r = remaining_of c.pairs.remaining in
    let behind = remaining_of c.next.new.remaining in
    let b = c.in-Some.first in
    let same : c.next.new.self.levels ≡ levels = c.in_ok-first.ensures.settings.levels ∙ c.pairs.invariant.levels in
    let same_formats : formats_of c.next.new.self.formats ≡ f = ap formats_of (c.in_ok-first.ensures.settings.formats ∙ c.pairs.invariant.formats) in
    let first = subst (λ (o : Option ℕ). Step s t (λ l rest mid. first_at end_in_map r rest ≡ Ok (first_of_next c.next.new.remaining o, mid))) c.in-Some.is c.in_ok-first.ensures.read in
    let begun = step_then s0 s t (PairsSoFar f levels all r) (λ l rest mid. first_at end_in_map r rest ≡ Ok (Some (behind, b), mid)) (PartBegun (pairs f levels all) all behind b)
    (λ l bs rest mid so_far is. part_begins (pairs f levels all) all r behind b l bs rest mid so_far is) c.pairs.invariant.so_far first in
    let may : may_begin_key f b ≡ true = sym (c.if-not-may_begin_key.ensures ∙ ap (λ (f : Formats). may_begin_key f b) same_formats) in
    let stops = subst_both (λ (f : Formats) (n : ℕ). Stopped g.R.Source.refusals (λ l bs. passed (after_first (values f l) (inside (values f l) n) b bs)) t (g.R.Source.source c.skip_from.new.self.source) c.skip_from.new.self.refusal c.in_err-skip_from.field-0.0) same_formats same c.in_err-skip_from.ensures.read in
    rw (is_err.1, is_err.2) (stopped_then g.R.Source.refusals (λ l bs. passed (after_first (values f l) (inside (values f l) levels) b bs)) (λ l bs. passed (parts_at (pairs f levels all l) all bs)) s0 t c.skip_from.new.self.refusal c.in_err-skip_from.field-0.0 (PartBegun (pairs f levels all) all behind b)
    (λ l bs mid d h is. key_stops f levels all behind b l bs mid d h may is) begun stops)

pub skip_pairs-returns-in_err-skip-clause-read : goal.skip_pairs-returns-in_err-skip-clause-read
skip_pairs-returns-in_err-skip-clause-read g t c =
    let f = formats_of c.args.self.now.formats in
    let levels = c.args.self.now.levels in
    let is_err = err_from_is_err_and c.from_residual-in_err-skip.result c.from_residual-in_err-skip.ensures.1 in
    let s0 = g.R.Source.source c.args.self.now.source in
    let s = g.R.Source.source c.pairs.self.source in
    let t = g.R.Source.source c.next.new.self.source in
    let all = remaining_of c.args.remaining in
    let r = remaining_of c.pairs.remaining in
    let behind = remaining_of c.next.new.remaining in
    let b = c.in-Some.first in
    let same : c.next.new.self.levels ≡ levels = c.in_ok-first.ensures.settings.levels ∙ c.pairs.invariant.levels in
    let same_formats : formats_of c.next.new.self.formats ≡ f = ap formats_of (c.in_ok-first.ensures.settings.formats ∙ c.pairs.invariant.formats) in
    let first = subst (λ (o : Option ℕ). Step s t (λ l rest mid. first_at end_in_map r rest ≡ Ok (first_of_next c.next.new.remaining o, mid))) c.in-Some.is c.in_ok-first.ensures.read in
    let begun = step_then s0 s t (PairsSoFar f levels all r) (λ l rest mid. first_at end_in_map r rest ≡ Ok (Some (behind, b), mid)) (PartBegun (pairs f levels all) all behind b)
    (λ l bs rest mid so_far is. part_begins (pairs f levels all) all r behind b l bs rest mid so_far is) c.pairs.invariant.so_far first in
    let may : may_begin_key f b ≡ true = sym (c.if-not-may_begin_key.ensures ∙ ap (λ (f : Formats). may_begin_key f b) same_formats) in
    let u = g.R.Source.source c.skip_from.new.self.source in
    let key = subst_both (λ (f : Formats) (n : ℕ). Step t u (λ l mid after. passed (after_first (values f l) (inside (values f l) n) b mid) ≡ Ok (tt, after))) same_formats same c.in_ok-skip_from.ensures.read in
    let read = step_then s0 t u (PartBegun (pairs f levels all) all behind b) (λ l mid after. passed (after_first (values f l) (inside (values f l) levels) b mid) ≡ Ok (tt, after)) (KeyPassed f levels all behind)
    (λ l bs mid after h is. key_passed f levels all behind b l bs mid after h may is) begun key in
    let same' : c.skip_from.new.self.levels ≡ levels = c.in_ok-skip_from.ensures.settings.levels ∙ same in
    let same_formats' : formats_of c.skip_from.new.self.formats ≡ f = ap formats_of c.in_ok-skip_from.ensures.settings.formats ∙ same_formats in
    let stops = subst_both (λ (f : Formats) (n : ℕ). Stopped g.R.Source.refusals (λ l bs. passed (item_at (values f l) n bs)) u (g.R.Source.source c.skip.new.self.source) c.skip.new.self.refusal c.in_err-skip.field-0.0) same_formats' same' c.in_err-skip.ensures.read in
    rw (is_err.1, is_err.2) (stopped_then g.R.Source.refusals (λ l bs. passed (item_at (values f l) levels bs)) (λ l bs. passed (parts_at (pairs f levels all l) all bs)) s0 u c.skip.new.self.refusal c.in_err-skip.field-0.0 (KeyPassed f levels all behind)
    (λ l bs mid d h is. skipped.value_stops f levels all behind l bs mid d h is) read stops)

pub skip_pairs-pairs-preserved : goal.skip_pairs-pairs-preserved
skip_pairs-pairs-preserved g t c =
    let f = formats_of c.args.self.now.formats in
    let levels = c.args.self.now.levels in
    let s0 = g.R.Source.source c.args.self.now.source in
    let s = g.R.Source.source c.pairs.self.source in
    let t = g.R.Source.source c.next.new.self.source in
    let all = remaining_of c.args.remaining in
    let r = remaining_of c.pairs.remaining in
    let behind = remaining_of c.next.new.remaining in
    let b = c.in-Some.first in
    let same : c.next.new.self.levels ≡ levels = c.in_ok-first.ensures.settings.levels ∙ c.pairs.invariant.levels in
    let same_formats : formats_of c.next.new.self.formats ≡ f = ap formats_of (c.in_ok-first.ensures.settings.formats ∙ c.pairs.invariant.formats) in
    let first = subst (λ (o : Option ℕ). Step s t (λ l rest mid. first_at end_in_map r rest ≡ Ok (first_of_next c.next.new.remaining o, mid))) c.in-Some.is c.in_ok-first.ensures.read in
    let begun = step_then s0 s t (PairsSoFar f levels all r) (λ l rest mid. first_at end_in_map r rest ≡ Ok (Some (behind, b), mid)) (PartBegun (pairs f levels all) all behind b)
    (λ l bs rest mid so_far is. part_begins (pairs f levels all) all r behind b l bs rest mid so_far is) c.pairs.invariant.so_far first in
    let may : may_begin_key f b ≡ true = sym (c.if-not-may_begin_key.ensures ∙ ap (λ (f : Formats). may_begin_key f b) same_formats) in
    let u = g.R.Source.source c.skip_from.new.self.source in
    let key = subst_both (λ (f : Formats) (n : ℕ). Step t u (λ l mid after. passed (after_first (values f l) (inside (values f l) n) b mid) ≡ Ok (tt, after))) same_formats same c.in_ok-skip_from.ensures.read in
    let read = step_then s0 t u (PartBegun (pairs f levels all) all behind b) (λ l mid after. passed (after_first (values f l) (inside (values f l) levels) b mid) ≡ Ok (tt, after)) (KeyPassed f levels all behind)
    (λ l bs mid after h is. key_passed f levels all behind b l bs mid after h may is) begun key in
    let same' : c.skip_from.new.self.levels ≡ levels = c.in_ok-skip_from.ensures.settings.levels ∙ same in
    let same_formats' : formats_of c.skip_from.new.self.formats ≡ f = ap formats_of c.in_ok-skip_from.ensures.settings.formats ∙ same_formats in
    let w = g.R.Source.source c.skip.new.self.source in
    let value = subst_both (λ (f : Formats) (n : ℕ). Step u w (λ l mid after. passed (item_at (values f l) n mid) ≡ Ok (tt, after))) same_formats' same' c.in_ok-skip.ensures.read in
    record {
      so_far = step_then s0 u w (KeyPassed f levels all behind) (λ l mid after. passed (item_at (values f l) levels mid) ≡ Ok (tt, after)) (PairsSoFar f levels all behind)
          (λ l bs mid after h is. pair_passed f levels all behind l bs mid after h is) read value;
      leads = chunks.value_done f levels s0 u w all behind (chunks.key_done f levels s0 t u all behind b (chunks.key_begins f levels s0 s t all r behind b c.pairs.invariant.leads first) key) value;
      levels = c.in_ok-skip.ensures.settings.levels ∙ same';
      formats = c.in_ok-skip.ensures.settings.formats ∙ c.in_ok-skip_from.ensures.settings.formats ∙ c.in_ok-first.ensures.settings.formats ∙ c.pairs.invariant.formats;
    }

pub skip_pairs-returns-clause-read : goal.skip_pairs-returns-clause-read
skip_pairs-returns-clause-read g t c =
    let f = formats_of c.args.self.now.formats in
    let levels = c.args.self.now.levels in
    let s0 = g.R.Source.source c.args.self.now.source in
    let s = g.R.Source.source c.pairs.self.source in
    let t = g.R.Source.source c.next.new.self.source in
    let all = remaining_of c.args.remaining in
    let r = remaining_of c.pairs.remaining in
    let none : c.in_ok-first.field-0 ≡ None = search rules in
    let last = subst (λ (o : Option ℕ). Step s t (λ l rest mid. first_at end_in_map r rest ≡ Ok (first_of_next c.next.new.remaining o, mid))) none c.in_ok-first.ensures.read in
    step_then s0 s t (PairsSoFar f levels all r) (λ l rest mid. first_at end_in_map r rest ≡ Ok (None, mid)) _
    (λ l bs rest after so_far is. pairs_end f levels all r l bs rest after so_far is) c.pairs.invariant.so_far last

-- ---- memory

pub skip-returns-clause-memory : goal.skip-returns-clause-memory
skip-returns-clause-memory = memory.skip-returns-clause-memory

pub skip_from-returns-clause-memory : goal.skip_from-returns-clause-memory
skip_from-returns-clause-memory = memory.skip_from-returns-clause-memory

pub skip_array-returns-clause-memory : goal.skip_array-returns-clause-memory
skip_array-returns-clause-memory = memory.skip_array-returns-clause-memory

pub skip_map-returns-clause-memory : goal.skip_map-returns-clause-memory
skip_map-returns-clause-memory = memory.skip_map-returns-clause-memory

pub skip_tagged-returns-clause-memory : goal.skip_tagged-returns-clause-memory
skip_tagged-returns-clause-memory = memory.skip_tagged-returns-clause-memory

pub skip_items-returns-in_err-skip_from-clause-memory : goal.skip_items-returns-in_err-skip_from-clause-memory
skip_items-returns-in_err-skip_from-clause-memory = memory.skip_items-returns-in_err-skip_from-clause-memory

pub skip_pairs-returns-in_err-skip_from-clause-memory : goal.skip_pairs-returns-in_err-skip_from-clause-memory
skip_pairs-returns-in_err-skip_from-clause-memory = memory.skip_pairs-returns-in_err-skip_from-clause-memory

pub skip_pairs-returns-in_err-skip-clause-memory : goal.skip_pairs-returns-in_err-skip-clause-memory
skip_pairs-returns-in_err-skip-clause-memory = memory.skip_pairs-returns-in_err-skip-clause-memory

pub skip_of-returns-in-Bytes-Some-clause-memory : goal.skip_of-returns-in-Bytes-Some-clause-memory
skip_of-returns-in-Bytes-Some-clause-memory = memory.skip_of-returns-in-Bytes-Some-clause-memory

pub skip_of-returns-in-Text-Some-clause-memory : goal.skip_of-returns-in-Text-Some-clause-memory
skip_of-returns-in-Text-Some-clause-memory = memory.skip_of-returns-in-Text-Some-clause-memory

pub skip_of-returns-in-Bytes-None-clause-memory : goal.skip_of-returns-in-Bytes-None-clause-memory
skip_of-returns-in-Bytes-None-clause-memory = memory.skip_of-returns-in-Bytes-None-clause-memory

pub skip_of-returns-in-Text-None-clause-memory : goal.skip_of-returns-in-Text-None-clause-memory
skip_of-returns-in-Text-None-clause-memory = memory.skip_of-returns-in-Text-None-clause-memory

pub skip_of-returns-in-Array-clause-memory : goal.skip_of-returns-in-Array-clause-memory
skip_of-returns-in-Array-clause-memory = memory.skip_of-returns-in-Array-clause-memory

pub skip_of-returns-in-Map-clause-memory : goal.skip_of-returns-in-Map-clause-memory
skip_of-returns-in-Map-clause-memory = memory.skip_of-returns-in-Map-clause-memory

pub skip_of-returns-in-Tag-clause-memory : goal.skip_of-returns-in-Tag-clause-memory
skip_of-returns-in-Tag-clause-memory = memory.skip_of-returns-in-Tag-clause-memory
