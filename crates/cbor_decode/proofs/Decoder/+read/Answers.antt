mod Values
use Rattle.std.proofs.Common.{◌≡◌, ◌∙◌, ◌++◌, ◌∷◌, ℕ, List, [], map, Option, Some, None, Ok, true, false, refl, sym, ap, subst, arith, rules}
use Rattle.std.proofs.lemmas.Result.{err_from_is_err_and}
use Rattle.std.proofs.lemmas.List.{map_push}
use Rattle.cbor_model.specs.Formats.{Formats, may_begin_key}
use Rattle.cbor_model.specs.Head.{no_bytes}
use Rattle.cbor_model.specs.Raw.{indefinite}
use Rattle.cbor_model.specs.Refusal.{end_in_array, end_in_map, too_deep, wrong_struct_format}
use Rattle.cbor_model.specs.Plain.{Val, Vals, Pairs, no_pairs}
use Rattle.cbor_model.specs.Plain as plain
use Rattle.cbor_model.specs.FiniteMap.{put_all}
use Rattle.cbor_model.specs.Value.{put}
use Rattle.cbor_model.specs.Reader.{Reads, counted, array_at, map_at, tag_at, parts_at, items_of, pairs_of, after_first, item_at, inside}
use Rattle.cbor_read.specs.Source.{Input}
use Rattle.cbor_read.proofs.facts.Sources.{some_then}
use Rattle.cbor_io.specs.declared.read_error.ReadErrorCode.TheVariants.{RecursionLimitExceeded, WrongStructFormat}
use Rattle.cbor_value.specs.View.{view, views, map_view, pair_views}
use Rattle.cbor_value.proofs.facts.Views.{put_all-push}
use Rattle.cbor_decode.specs.Decoder.{formats_of}
use Rattle.cbor_decode.specs.Gives.{Limits, values, Step, Stopped, Gives}
use Rattle.cbor_decode.specs.Heads.{remaining_of, made_of, first_at, first_of_next}
use Rattle.cbor_decode.proofs.Steps.{subst_both, gives_seen, step_same, step_map, step_then, stopped_map, stopped_then, memory_stops}
use Rattle.cbor_decode.proofs.SourceCalls.{fault_stops, first_stops}
use Rattle.cbor_decode.proofs.Items.{SoFar, one_read, one_stops, items_begin, ItemBegun, item_begins, goes_on, faulted, cut, is_done}
use Rattle.cbor_decode.proofs.Pairs.{PairsSoFar, pairs_begin, KeyBegun, key_begins, KeyRead, key_ends, pairs_go_on, key_refused, key_faulted, value_faulted, pairs_cut, pairs_done}
use Rattle.cbor_decode.proofs.Inside.{array_too_deep, map_too_deep, tag_too_deep, array_inside, map_inside, tag_inside, array_stops, map_stops, tag_stops}
use Rattle.cbor_decode.proofs.Decoder.+read.Goals as goal
use Rattle.cbor_decode.proofs.Decoder.+read.Answers.Values as of_values

-- ---- array

pub array-returns-in_err-enter-clause-read : goal.array-returns-in_err-enter-clause-read
array-returns-in_err-enter-clause-read g t c =
    let f = formats_of c.args.self.now.formats in
    let passed = err_from_is_err_and c.from_residual.result c.from_residual.ensures.1 in
    let e = c.in_err-enter.ensures in
    rw (passed.1, passed.2, e.source) (fault_stops g.R.Source.refusals (g.R.Source.source c.args.self.now.source) (λ l. array_at (values f l) (inside (values f l) c.args.self.now.levels) indefinite (remaining_of c.args.remaining)) _ _ RecursionLimitExceeded too_deep (λ at end r h. h)
    (λ l bs. array_too_deep f l c.args.self.now.levels (remaining_of c.args.remaining) bs e.none.0) e.refused e.kept)

-- ---- map

pub map-returns-in_err-enter-clause-read : goal.map-returns-in_err-enter-clause-read
map-returns-in_err-enter-clause-read g t c =
    let f = formats_of c.args.self.now.formats in
    let passed = err_from_is_err_and c.from_residual.result c.from_residual.ensures.1 in
    let e = c.in_err-enter.ensures in
    rw (passed.1, passed.2, e.source) (fault_stops g.R.Source.refusals (g.R.Source.source c.args.self.now.source) (λ l. map_at (values f l) (inside (values f l) c.args.self.now.levels) indefinite (remaining_of c.args.remaining)) _ _ RecursionLimitExceeded too_deep (λ at end r h. h)
    (λ l bs. map_too_deep f l c.args.self.now.levels (remaining_of c.args.remaining) bs e.none.0) e.refused e.kept)

-- ---- tagged

pub tagged-returns-in_err-enter-clause-read : goal.tagged-returns-in_err-enter-clause-read
tagged-returns-in_err-enter-clause-read g t c =
    let f = formats_of c.args.self.now.formats in
    let passed = err_from_is_err_and c.from_residual.result c.from_residual.ensures.1 in
    let e = c.in_err-enter.ensures in
    rw (passed.1, passed.2, e.source) (fault_stops g.R.Source.refusals (g.R.Source.source c.args.self.now.source) (λ l. tag_at (values f l) (inside (values f l) c.args.self.now.levels) no_bytes c.args.tag) _ _ RecursionLimitExceeded too_deep (λ at end r h. h)
    (λ l bs. tag_too_deep f l c.args.self.now.levels c.args.tag bs e.none.0) e.refused e.kept)

pub array-returns-clause-read : goal.array-returns-clause-read
array-returns-clause-read g t c =
    let f = formats_of c.args.self.now.formats in
    let levels = c.args.self.now.levels in
    let left = c.enter.new.self.levels in
    let r = remaining_of c.args.remaining in
    let read : (Limits → List ℕ → Reads Vals) = λ l. parts_at (items_of (values f l) (item_at (values f l) left)) r in
    let given = subst_both (λ (f : Formats) (s : Input). Gives g.R.Source.refusals (λ v. views v.items) (λ l. parts_at (items_of (values f l) (item_at (values f l) left)) r) s (g.R.Source.source c.all_items-items.new.self.source) c.all_items-items.new.self.refusal c.all_items-items.result) (ap formats_of c.in_ok-enter.ensures.formats) (ap g.R.Source.source c.in_ok-enter.ensures.source) c.all_items-items.ensures.read in
    gives_seen g.R.Source.refusals (λ v. views v.items) (λ v. plain.array (views v.items)) read (λ l. array_at (values f l) (inside (values f l) levels) indefinite r) _ _ _ _
    (λ l bs rest v is. array_inside f l levels left r bs rest (views v.items) c.in_ok-enter.ensures.inside is) (λ l bs d is. array_stops f l levels left r bs d c.in_ok-enter.ensures.inside is) given

pub map-returns-clause-read : goal.map-returns-clause-read
map-returns-clause-read g t c =
    let f = formats_of c.args.self.now.formats in
    let levels = c.args.self.now.levels in
    let left = c.enter.new.self.levels in
    let r = remaining_of c.args.remaining in
    let read : (Limits → List ℕ → Reads Pairs) = λ l bs. made_of (parts_at (pairs_of (values f l) (item_at (values f l) left)) r bs) in
    let given = subst_both (λ (f : Formats) (s : Input). Gives g.R.Source.refusals map_view (λ l bs. made_of (parts_at (pairs_of (values f l) (item_at (values f l) left)) r bs)) s (g.R.Source.source c.pairs-map.new.self.source) c.pairs-map.new.self.refusal c.pairs-map.result) (ap formats_of c.in_ok-enter.ensures.formats) (ap g.R.Source.source c.in_ok-enter.ensures.source) c.pairs-map.ensures.read in
    gives_seen g.R.Source.refusals map_view (λ m. plain.map (map_view m)) read (λ l. map_at (values f l) (inside (values f l) levels) indefinite r) _ _ _ _
    (λ l bs rest m is. map_inside f l levels left r bs rest (map_view m) c.in_ok-enter.ensures.inside is) (λ l bs d is. map_stops f l levels left r bs d c.in_ok-enter.ensures.inside is) given

pub tagged-returns-clause-read : goal.tagged-returns-clause-read
tagged-returns-clause-read g t c =
    let f = formats_of c.args.self.now.formats in
    let levels = c.args.self.now.levels in
    let left = c.enter.new.self.levels in
    let tag = c.args.tag in
    let read : (Limits → List ℕ → Reads Val) = λ l. item_at (values f l) left in
    let given = subst_both (λ (f : Formats) (s : Input). Gives g.R.Source.refusals (λ b. view b.value) (λ l. item_at (values f l) left) s (g.R.Source.source c.boxed-value.new.self.source) c.boxed-value.new.self.refusal c.boxed-value.result) (ap formats_of c.in_ok-enter.ensures.formats) (ap g.R.Source.source c.in_ok-enter.ensures.source) c.boxed-value.ensures.read in
    gives_seen g.R.Source.refusals (λ b. view b.value) (λ b. plain.tag tag (view b.value)) read (λ l. tag_at (values f l) (inside (values f l) levels) no_bytes tag) _ _ _ _
    (λ l bs rest b is. tag_inside f l levels left tag bs rest (view b.value) c.in_ok-enter.ensures.inside is) (λ l bs d is. tag_stops f l levels left tag bs d c.in_ok-enter.ensures.inside is) given

pub boxed-returns-clause-read : goal.boxed-returns-clause-read
boxed-returns-clause-read g t c =
    let f = formats_of c.args.self.now.formats in
    let same : view c.in_ok-value.value ≡ view c.in_ok-new.field-0.value = ap view (sym c.in_ok-new.ensures.ok) in
    step_map _ _ (λ l bs rest. item_at (values f l) c.args.self.now.levels bs ≡ Ok (view c.in_ok-value.value, rest)) _ (λ l bs rest is. is ∙ ap (λ (v : Val). Ok (v, rest)) same) c.in_ok-value.ensures.read

-- ---- a level is given back

pub array-overflow_add-self : goal.array-overflow_add-self
array-overflow_add-self g t c = omega (arith, c.all_items-items.ensures.settings.levels, c.in_ok-enter.ensures.below)

pub map-overflow_add-self : goal.map-overflow_add-self
map-overflow_add-self g t c = omega (arith, c.pairs-map.ensures.settings.levels, c.in_ok-enter.ensures.below)

pub tagged-overflow_add-self : goal.tagged-overflow_add-self
tagged-overflow_add-self g t c = omega (arith, c.boxed-value.ensures.settings.levels, c.in_ok-enter.ensures.below)

-- ---- an item alone

pub one_item-returns-in_err-item-clause-read : goal.one_item-returns-in_err-item-clause-read
one_item-returns-in_err-item-clause-read g t c =
    let f = formats_of c.args.self.now.formats in
    let levels = c.args.self.now.levels in
    let passed = err_from_is_err_and c.from_residual.result c.from_residual.ensures.1 in
    rw (passed.1, passed.2) (stopped_map g.R.Source.refusals (λ l. item_at (values f l) levels) (λ l. parts_at (items_of (values f l) (item_at (values f l) levels)) (counted 1)) _ _ _ (λ l bs d is. one_stops f l levels bs d is) c.in_err-item.ensures.read)

pub one_item-returns-clause-read : goal.one_item-returns-clause-read
one_item-returns-clause-read g t c =
    let f = formats_of c.args.self.now.formats in
    let levels = c.args.self.now.levels in
    let v = view c.in_ok-item.item in
    let items = c.push_reserved.new.self.items in
    let one : plain.val v plain.no_vals ≡ views items = rw (c.push_reserved.ensures.items, c.reserve_exact.ensures.items, c.new-items.ensures.items) refl in
    let s = g.R.Source.source c.args.self.now.source in
    let t = g.R.Source.source c.value.new.self.source in
    step_map s t (λ l bs rest. item_at (values f l) levels bs ≡ Ok (v, rest)) (λ l bs rest. parts_at (items_of (values f l) (item_at (values f l) levels)) (counted 1) bs ≡ Ok (views items, rest))
    (λ l bs rest is. one_read f l levels bs rest v is ∙ ap (λ (vs : Vals). Ok (vs, rest)) one) c.in_ok-item.ensures.read

-- ---- items

pub items-items-init : goal.items-items-init
items-items-init g t c =
    let f = formats_of c.args.self.now.formats in
    record {
      so_far = step_same _ _ (λ l bs. items_begin f c.args.self.now.levels (remaining_of c.args.remaining) (map view c.new-items.result.items) l bs (search rules));
      levels = refl;
      formats = refl;
    }

pub items-returns-in_err-first-clause-read : goal.items-returns-in_err-first-clause-read
items-returns-in_err-first-clause-read g t c =
    let f = formats_of c.args.self.now.formats in
    let passed = err_from_is_err_and c.from_residual.result c.from_residual.ensures.1 in
    let r = remaining_of c.items.remaining in
    rw (passed.1, passed.2) (stopped_then g.R.Source.refusals (λ l. first_at end_in_array r) (λ l. parts_at (items_of (values f l) (item_at (values f l) c.args.self.now.levels)) (remaining_of c.args.remaining)) _ _ _ _
    (SoFar f c.args.self.now.levels (remaining_of c.args.remaining) (map view c.items.items.items) r)
    (λ l bs rest d so_far is. cut f c.args.self.now.levels (remaining_of c.args.remaining) (map view c.items.items.items) r l bs rest d so_far is) c.items.invariant.so_far c.in_err-first.ensures.read)

pub items-returns-in_err-item-clause-read : goal.items-returns-in_err-item-clause-read
items-returns-in_err-item-clause-read g t c =
    let f = formats_of c.args.self.now.formats in
    let passed = err_from_is_err_and c.from_residual-in_err-item.result c.from_residual-in_err-item.ensures.1 in
    let levels = c.args.self.now.levels in
    let s0 = g.R.Source.source c.args.self.now.source in
    let s = g.R.Source.source c.items.self.source in
    let t = g.R.Source.source c.next.new.self.source in
    let all = remaining_of c.args.remaining in
    let front = map view c.items.items.items in
    let r = remaining_of c.items.remaining in
    let behind = remaining_of c.next.new.remaining in
    let b = c.in-Some.first in
    let same : c.next.new.self.levels ≡ levels = c.in_ok-first.ensures.settings.levels ∙ c.items.invariant.levels in
    let same_formats : formats_of c.next.new.self.formats ≡ f = ap formats_of (c.in_ok-first.ensures.settings.formats ∙ c.items.invariant.formats) in
    let first = subst (λ (o : Option ℕ). Step s t (λ l rest mid. first_at end_in_array r rest ≡ Ok (first_of_next c.next.new.remaining o, mid))) c.in-Some.is c.in_ok-first.ensures.read in
    let begun = step_then s0 s t (SoFar f levels all front r) (λ l rest mid. first_at end_in_array r rest ≡ Ok (Some (behind, b), mid)) (ItemBegun f levels all front behind b)
    (λ l bs rest mid so_far is. item_begins f levels all front r behind b l bs rest mid so_far is) c.items.invariant.so_far first in
    let stops = subst_both (λ (f : Formats) (n : ℕ). Stopped g.R.Source.refusals (λ l. after_first (values f l) (inside (values f l) n) b) t (g.R.Source.source c.value_from.new.self.source) c.value_from.new.self.refusal c.in_err-item.field-0.0) same_formats same c.in_err-item.ensures.read in
    rw (passed.1, passed.2) (stopped_then g.R.Source.refusals (λ l. after_first (values f l) (inside (values f l) levels) b) (λ l. parts_at (items_of (values f l) (item_at (values f l) levels)) all) s0 t c.value_from.new.self.refusal c.in_err-item.field-0.0 (ItemBegun f levels all front behind b)
    (λ l bs mid d h is. faulted f levels all front behind b l bs mid d h is) begun stops)

pub items-items-preserved : goal.items-items-preserved
items-items-preserved g t c =
    let f = formats_of c.args.self.now.formats in
    let levels = c.args.self.now.levels in
    let s0 = g.R.Source.source c.args.self.now.source in
    let s = g.R.Source.source c.items.self.source in
    let t = g.R.Source.source c.next.new.self.source in
    let all = remaining_of c.args.remaining in
    let front = map view c.items.items.items in
    let r = remaining_of c.items.remaining in
    let behind = remaining_of c.next.new.remaining in
    let b = c.in-Some.first in
    let v = view c.in_ok-item.item in
    let same : c.next.new.self.levels ≡ levels = c.in_ok-first.ensures.settings.levels ∙ c.items.invariant.levels in
    let same_formats : formats_of c.next.new.self.formats ≡ f = ap formats_of (c.in_ok-first.ensures.settings.formats ∙ c.items.invariant.formats) in
    let pushed : map view c.push.new.items.items ≡ front ++ v ∷ [] = rw c.in_ok-push.ensures.items (map_push _ c.items.items.items c.in_ok-item.item) in
    let first = subst (λ (o : Option ℕ). Step s t (λ l rest mid. first_at end_in_array r rest ≡ Ok (first_of_next c.next.new.remaining o, mid))) c.in-Some.is c.in_ok-first.ensures.read in
    let begun = step_then s0 s t (SoFar f levels all front r) (λ l rest mid. first_at end_in_array r rest ≡ Ok (Some (behind, b), mid)) (ItemBegun f levels all front behind b)
    (λ l bs rest mid so_far is. item_begins f levels all front r behind b l bs rest mid so_far is) c.items.invariant.so_far first in
    let u = g.R.Source.source c.value_from.new.self.source in
    let item = subst_both (λ (f : Formats) (n : ℕ). Step t u (λ l mid after. after_first (values f l) (inside (values f l) n) b mid ≡ Ok (v, after))) same_formats same c.in_ok-item.ensures.read in
    record {
      so_far = step_then s0 t u (ItemBegun f levels all front behind b) (λ l mid after. after_first (values f l) (inside (values f l) levels) b mid ≡ Ok (v, after)) (SoFar f levels all (map view c.push.new.items.items) behind)
          (λ l bs mid after h is. rw pushed (goes_on f levels all front behind b l bs mid after v h is)) begun item;
      levels = c.in_ok-item.ensures.settings.levels ∙ same;
      formats = c.in_ok-item.ensures.settings.formats ∙ c.in_ok-first.ensures.settings.formats ∙ c.items.invariant.formats;
    }

pub items-returns-in_err-push-clause-read : goal.items-returns-in_err-push-clause-read
items-returns-in_err-push-clause-read g t c =
    let passed = err_from_is_err_and c.from_residual-in_err-push.result c.from_residual-in_err-push.ensures.1 in
    let begun = some_then _ _ _ c.items.invariant.so_far.took c.in_ok-first.ensures.read.took in
    rw (passed.1, passed.2) (memory_stops _ c.in_err-push.ensures.refused (some_then _ _ _ begun c.in_ok-item.ensures.read.took))

pub items-returns-clause-read : goal.items-returns-clause-read
items-returns-clause-read g t c =
    let f = formats_of c.args.self.now.formats in
    let levels = c.args.self.now.levels in
    let s0 = g.R.Source.source c.args.self.now.source in
    let s = g.R.Source.source c.items.self.source in
    let t = g.R.Source.source c.next.new.self.source in
    let all = remaining_of c.args.remaining in
    let front = map view c.items.items.items in
    let r = remaining_of c.items.remaining in
    let none : c.in_ok-first.field-0 ≡ None = search rules in
    let last = subst (λ (o : Option ℕ). Step s t (λ l rest mid. first_at end_in_array r rest ≡ Ok (first_of_next c.next.new.remaining o, mid))) none c.in_ok-first.ensures.read in
    step_then s0 s t (SoFar f levels all front r) (λ l rest mid. first_at end_in_array r rest ≡ Ok (None, mid)) _
    (λ l bs rest after so_far is. is_done f levels all front r l bs rest after so_far is) c.items.invariant.so_far last

-- ---- pairs

pub pairs-pairs-init : goal.pairs-pairs-init
pairs-pairs-init g t c =
    let f = formats_of c.args.self.now.formats in
    record {
      so_far = step_same _ _ (λ l bs. pairs_begin f c.args.self.now.levels (remaining_of c.args.remaining) (put_all (pair_views c.new-pairs.result.items) no_pairs) l bs (search rules));
      levels = refl;
      formats = refl;
    }

pub pairs-returns-in_err-first-clause-read : goal.pairs-returns-in_err-first-clause-read
pairs-returns-in_err-first-clause-read g t c =
    let f = formats_of c.args.self.now.formats in
    let passed = err_from_is_err_and c.from_residual.result c.from_residual.ensures.1 in
    let levels = c.args.self.now.levels in
    let all = remaining_of c.args.remaining in
    let earlier = put_all (pair_views c.pairs.pairs.items) no_pairs in
    let r = remaining_of c.pairs.remaining in
    rw (passed.1, passed.2) (stopped_then g.R.Source.refusals (λ l. first_at end_in_map r) (λ l bs. made_of (parts_at (pairs_of (values f l) (item_at (values f l) levels)) all bs)) _ _ _ _
    (PairsSoFar f levels all earlier r) (λ l bs rest d so_far is. pairs_cut f levels all earlier r l bs rest d so_far is) c.pairs.invariant.so_far c.in_err-first.ensures.read)

pub pairs-returns-in_err-key-clause-read : goal.pairs-returns-in_err-key-clause-read
pairs-returns-in_err-key-clause-read g t c =
    let f = formats_of c.args.self.now.formats in
    let passed = err_from_is_err_and c.from_residual-in_err-key.result c.from_residual-in_err-key.ensures.1 in
    let levels = c.args.self.now.levels in
    let s0 = g.R.Source.source c.args.self.now.source in
    let s = g.R.Source.source c.pairs.self.source in
    let t = g.R.Source.source c.next.new.self.source in
    let all = remaining_of c.args.remaining in
    let earlier = put_all (pair_views c.pairs.pairs.items) no_pairs in
    let r = remaining_of c.pairs.remaining in
    let behind = remaining_of c.next.new.remaining in
    let b = c.in-Some.first in
    let same : c.next.new.self.levels ≡ levels = c.in_ok-first.ensures.settings.levels ∙ c.pairs.invariant.levels in
    let same_formats : formats_of c.next.new.self.formats ≡ f = ap formats_of (c.in_ok-first.ensures.settings.formats ∙ c.pairs.invariant.formats) in
    let may : may_begin_key f b ≡ true = sym (c.if-not-may_begin_key.ensures ∙ ap (λ (f : Formats). may_begin_key f b) same_formats) in
    let first = subst (λ (o : Option ℕ). Step s t (λ l rest mid. first_at end_in_map r rest ≡ Ok (first_of_next c.next.new.remaining o, mid))) c.in-Some.is c.in_ok-first.ensures.read in
    let begun = step_then s0 s t (PairsSoFar f levels all earlier r) (λ l rest mid. first_at end_in_map r rest ≡ Ok (Some (behind, b), mid)) (KeyBegun f levels all earlier behind b)
    (λ l bs rest mid so_far is. key_begins f levels all earlier r behind b l bs rest mid so_far is) c.pairs.invariant.so_far first in
    let stops = subst_both (λ (f : Formats) (n : ℕ). Stopped g.R.Source.refusals (λ l. after_first (values f l) (inside (values f l) n) b) t (g.R.Source.source c.value_from.new.self.source) c.value_from.new.self.refusal c.in_err-key.field-0.0) same_formats same c.in_err-key.ensures.read in
    rw (passed.1, passed.2) (stopped_then g.R.Source.refusals (λ l. after_first (values f l) (inside (values f l) levels) b) (λ l bs. made_of (parts_at (pairs_of (values f l) (item_at (values f l) levels)) all bs)) s0 t c.value_from.new.self.refusal c.in_err-key.field-0.0 (KeyBegun f levels all earlier behind b)
    (λ l bs mid d h is. key_faulted f levels all earlier behind b l bs mid d h may is) begun stops)

pub pairs-returns-then-not-may_begin_key-clause-read : goal.pairs-returns-then-not-may_begin_key-clause-read
pairs-returns-then-not-may_begin_key-clause-read g t c =
    let f = formats_of c.args.self.now.formats in
    let levels = c.args.self.now.levels in
    let s0 = g.R.Source.source c.args.self.now.source in
    let s = g.R.Source.source c.pairs.self.source in
    let t = g.R.Source.source c.next.new.self.source in
    let all = remaining_of c.args.remaining in
    let earlier = put_all (pair_views c.pairs.pairs.items) no_pairs in
    let r = remaining_of c.pairs.remaining in
    let behind = remaining_of c.next.new.remaining in
    let b = c.in-Some.first in
    let same : c.next.new.self.levels ≡ levels = c.in_ok-first.ensures.settings.levels ∙ c.pairs.invariant.levels in
    let same_formats : formats_of c.next.new.self.formats ≡ f = ap formats_of (c.in_ok-first.ensures.settings.formats ∙ c.pairs.invariant.formats) in
    let first = subst (λ (o : Option ℕ). Step s t (λ l rest mid. first_at end_in_map r rest ≡ Ok (first_of_next c.next.new.remaining o, mid))) c.in-Some.is c.in_ok-first.ensures.read in
    let begun = step_then s0 s t (PairsSoFar f levels all earlier r) (λ l rest mid. first_at end_in_map r rest ≡ Ok (Some (behind, b), mid)) (KeyBegun f levels all earlier behind b)
    (λ l bs rest mid so_far is. key_begins f levels all earlier r behind b l bs rest mid so_far is) c.pairs.invariant.so_far first in
    let other : may_begin_key f b ≡ false = sym (c.if-not-may_begin_key.ensures ∙ ap (λ (f : Formats). may_begin_key f b) same_formats) in
    rw c.refuse_back.ensures.source (first_stops g.R.Source.refusals s0 t (λ l bs. made_of (parts_at (pairs_of (values f l) (item_at (values f l) levels)) all bs)) _ _ WrongStructFormat wrong_struct_format (λ at end r h. h) (KeyBegun f levels all earlier behind b)
    (λ l bs mid h. key_refused f levels all earlier behind b l bs mid h other) begun c.refuse_back.ensures.refused c.refuse_back.ensures.kept)

pub pairs-returns-in_err-value-clause-read : goal.pairs-returns-in_err-value-clause-read
pairs-returns-in_err-value-clause-read g t c =
    let f = formats_of c.args.self.now.formats in
    let passed = err_from_is_err_and c.from_residual-in_err-value.result c.from_residual-in_err-value.ensures.1 in
    let levels = c.args.self.now.levels in
    let s0 = g.R.Source.source c.args.self.now.source in
    let s = g.R.Source.source c.pairs.self.source in
    let t = g.R.Source.source c.next.new.self.source in
    let all = remaining_of c.args.remaining in
    let earlier = put_all (pair_views c.pairs.pairs.items) no_pairs in
    let r = remaining_of c.pairs.remaining in
    let behind = remaining_of c.next.new.remaining in
    let b = c.in-Some.first in
    let same : c.next.new.self.levels ≡ levels = c.in_ok-first.ensures.settings.levels ∙ c.pairs.invariant.levels in
    let same_formats : formats_of c.next.new.self.formats ≡ f = ap formats_of (c.in_ok-first.ensures.settings.formats ∙ c.pairs.invariant.formats) in
    let may : may_begin_key f b ≡ true = sym (c.if-not-may_begin_key.ensures ∙ ap (λ (f : Formats). may_begin_key f b) same_formats) in
    let first = subst (λ (o : Option ℕ). Step s t (λ l rest mid. first_at end_in_map r rest ≡ Ok (first_of_next c.next.new.remaining o, mid))) c.in-Some.is c.in_ok-first.ensures.read in
    let begun = step_then s0 s t (PairsSoFar f levels all earlier r) (λ l rest mid. first_at end_in_map r rest ≡ Ok (Some (behind, b), mid)) (KeyBegun f levels all earlier behind b)
    (λ l bs rest mid so_far is. key_begins f levels all earlier r behind b l bs rest mid so_far is) c.pairs.invariant.so_far first in
    let k = view c.in_ok-key.key in
    let u = g.R.Source.source c.value_from.new.self.source in
    let key = subst_both (λ (f : Formats) (n : ℕ). Step t u (λ l mid after. after_first (values f l) (inside (values f l) n) b mid ≡ Ok (k, after))) same_formats same c.in_ok-key.ensures.read in
    let read = step_then s0 t u (KeyBegun f levels all earlier behind b) (λ l mid after. after_first (values f l) (inside (values f l) levels) b mid ≡ Ok (k, after)) (KeyRead f levels all earlier behind k)
    (λ l bs mid after h is. key_ends f levels all earlier behind b k l bs mid after h may is) begun key in
    let same' : c.value_from.new.self.levels ≡ levels = c.in_ok-key.ensures.settings.levels ∙ same in
    let same_formats' : formats_of c.value_from.new.self.formats ≡ f = ap formats_of c.in_ok-key.ensures.settings.formats ∙ same_formats in
    let stops = subst_both (λ (f : Formats) (n : ℕ). Stopped g.R.Source.refusals (λ l. item_at (values f l) n) u (g.R.Source.source c.value.new.self.source) c.value.new.self.refusal c.in_err-value.field-0.0) same_formats' same' c.in_err-value.ensures.read in
    rw (passed.1, passed.2) (stopped_then g.R.Source.refusals (λ l. item_at (values f l) levels) (λ l bs. made_of (parts_at (pairs_of (values f l) (item_at (values f l) levels)) all bs)) s0 u c.value.new.self.refusal c.in_err-value.field-0.0 (KeyRead f levels all earlier behind k)
    (λ l bs mid d h is. value_faulted f levels all earlier behind k l bs mid d h is) read stops)

pub pairs-pairs-preserved : goal.pairs-pairs-preserved
pairs-pairs-preserved g t c =
    let f = formats_of c.args.self.now.formats in
    let levels = c.args.self.now.levels in
    let s0 = g.R.Source.source c.args.self.now.source in
    let s = g.R.Source.source c.pairs.self.source in
    let t = g.R.Source.source c.next.new.self.source in
    let all = remaining_of c.args.remaining in
    let earlier = put_all (pair_views c.pairs.pairs.items) no_pairs in
    let r = remaining_of c.pairs.remaining in
    let behind = remaining_of c.next.new.remaining in
    let b = c.in-Some.first in
    let same : c.next.new.self.levels ≡ levels = c.in_ok-first.ensures.settings.levels ∙ c.pairs.invariant.levels in
    let same_formats : formats_of c.next.new.self.formats ≡ f = ap formats_of (c.in_ok-first.ensures.settings.formats ∙ c.pairs.invariant.formats) in
    let may : may_begin_key f b ≡ true = sym (c.if-not-may_begin_key.ensures ∙ ap (λ (f : Formats). may_begin_key f b) same_formats) in
    let first = subst (λ (o : Option ℕ). Step s t (λ l rest mid. first_at end_in_map r rest ≡ Ok (first_of_next c.next.new.remaining o, mid))) c.in-Some.is c.in_ok-first.ensures.read in
    let begun = step_then s0 s t (PairsSoFar f levels all earlier r) (λ l rest mid. first_at end_in_map r rest ≡ Ok (Some (behind, b), mid)) (KeyBegun f levels all earlier behind b)
    (λ l bs rest mid so_far is. key_begins f levels all earlier r behind b l bs rest mid so_far is) c.pairs.invariant.so_far first in
    let k = view c.in_ok-key.key in
    let u = g.R.Source.source c.value_from.new.self.source in
    let key = subst_both (λ (f : Formats) (n : ℕ). Step t u (λ l mid after. after_first (values f l) (inside (values f l) n) b mid ≡ Ok (k, after))) same_formats same c.in_ok-key.ensures.read in
    let read = step_then s0 t u (KeyBegun f levels all earlier behind b) (λ l mid after. after_first (values f l) (inside (values f l) levels) b mid ≡ Ok (k, after)) (KeyRead f levels all earlier behind k)
    (λ l bs mid after h is. key_ends f levels all earlier behind b k l bs mid after h may is) begun key in
    let same' : c.value_from.new.self.levels ≡ levels = c.in_ok-key.ensures.settings.levels ∙ same in
    let same_formats' : formats_of c.value_from.new.self.formats ≡ f = ap formats_of c.in_ok-key.ensures.settings.formats ∙ same_formats in
    let v = view c.in_ok-value.value in
    let w = g.R.Source.source c.value.new.self.source in
    let value = subst_both (λ (f : Formats) (n : ℕ). Step u w (λ l mid after. item_at (values f l) n mid ≡ Ok (v, after))) same_formats' same' c.in_ok-value.ensures.read in
    let pushed : put_all (pair_views c.push.new.items.items) no_pairs ≡ put k v earlier = rw c.in_ok-push.ensures.items (put_all-push c.pairs.pairs.items c.in_ok-key.key c.in_ok-value.value no_pairs) in
    record {
      so_far = step_then s0 u w (KeyRead f levels all earlier behind k) (λ l mid after. item_at (values f l) levels mid ≡ Ok (v, after)) (PairsSoFar f levels all (put_all (pair_views c.push.new.items.items) no_pairs) behind)
          (λ l bs mid after h is. rw pushed (pairs_go_on f levels all earlier behind k v l bs mid after h is)) read value;
      levels = c.in_ok-value.ensures.settings.levels ∙ same';
      formats = c.in_ok-value.ensures.settings.formats ∙ c.in_ok-key.ensures.settings.formats ∙ c.in_ok-first.ensures.settings.formats ∙ c.pairs.invariant.formats;
    }

pub pairs-returns-in_err-push-clause-read : goal.pairs-returns-in_err-push-clause-read
pairs-returns-in_err-push-clause-read g t c =
    let passed = err_from_is_err_and c.from_residual-in_err-push.result c.from_residual-in_err-push.ensures.1 in
    let begun = some_then _ _ _ c.pairs.invariant.so_far.took c.in_ok-first.ensures.read.took in
    let key = some_then _ _ _ begun c.in_ok-key.ensures.read.took in
    rw (passed.1, passed.2) (memory_stops _ c.in_err-push.ensures.refused (some_then _ _ _ key c.in_ok-value.ensures.read.took))

pub pairs-returns-clause-read : goal.pairs-returns-clause-read
pairs-returns-clause-read g t c = memory_stops _ refl (some_then _ _ _ c.pairs.invariant.so_far.took c.in_ok-first.ensures.read.took)

pub pairs-returns-in-Ok-clause-read : goal.pairs-returns-in-Ok-clause-read
pairs-returns-in-Ok-clause-read g t c =
    let f = formats_of c.args.self.now.formats in
    let levels = c.args.self.now.levels in
    let s0 = g.R.Source.source c.args.self.now.source in
    let s = g.R.Source.source c.pairs.self.source in
    let t = g.R.Source.source c.next.new.self.source in
    let all = remaining_of c.args.remaining in
    let earlier = put_all (pair_views c.pairs.pairs.items) no_pairs in
    let r = remaining_of c.pairs.remaining in
    let none : c.in_ok-first.field-0 ≡ None = search rules in
    let last = subst (λ (o : Option ℕ). Step s t (λ l rest mid. first_at end_in_map r rest ≡ Ok (first_of_next c.next.new.remaining o, mid))) none c.in_ok-first.ensures.read in
    let listed : map_view c.in-Ok.map ≡ earlier = c.in-Ok.ensures.listed in
    step_then s0 s t (PairsSoFar f levels all earlier r) (λ l rest mid. first_at end_in_map r rest ≡ Ok (None, mid)) _
    (λ l bs rest after so_far is. pairs_done f levels all earlier r l bs rest after so_far is ∙ ap (λ (p : Pairs). Ok (p, after)) (sym listed)) c.pairs.invariant.so_far last

-- ---- values

pub value-returns-in_err-first-clause-read : goal.value-returns-in_err-first-clause-read
value-returns-in_err-first-clause-read = of_values.value-returns-in_err-first-clause-read

pub value-returns-clause-read : goal.value-returns-clause-read
value-returns-clause-read = of_values.value-returns-clause-read

pub value_from-returns-in_err-head-in_default-clause-read : goal.value_from-returns-in_err-head-in_default-clause-read
value_from-returns-in_err-head-in_default-clause-read = of_values.value_from-returns-in_err-head-in_default-clause-read

pub value_from-returns-in_ok-head-in_default-clause-read : goal.value_from-returns-in_ok-head-in_default-clause-read
value_from-returns-in_ok-head-in_default-clause-read = of_values.value_from-returns-in_ok-head-in_default-clause-read

pub value_of-returns-in_err-bytes-in-Bytes-Some-clause-read : goal.value_of-returns-in_err-bytes-in-Bytes-Some-clause-read
value_of-returns-in_err-bytes-in-Bytes-Some-clause-read = of_values.value_of-returns-in_err-bytes-in-Bytes-Some-clause-read

pub value_of-returns-in_err-byte_chunks-in-Bytes-None-clause-read : goal.value_of-returns-in_err-byte_chunks-in-Bytes-None-clause-read
value_of-returns-in_err-byte_chunks-in-Bytes-None-clause-read = of_values.value_of-returns-in_err-byte_chunks-in-Bytes-None-clause-read

pub value_of-returns-in_ok-bytes-in-Bytes-Some-clause-read : goal.value_of-returns-in_ok-bytes-in-Bytes-Some-clause-read
value_of-returns-in_ok-bytes-in-Bytes-Some-clause-read = of_values.value_of-returns-in_ok-bytes-in-Bytes-Some-clause-read

pub value_of-returns-in_ok-byte_chunks-in-Bytes-None-clause-read : goal.value_of-returns-in_ok-byte_chunks-in-Bytes-None-clause-read
value_of-returns-in_ok-byte_chunks-in-Bytes-None-clause-read = of_values.value_of-returns-in_ok-byte_chunks-in-Bytes-None-clause-read

pub value_of-returns-in_err-text-in-Text-Some-clause-read : goal.value_of-returns-in_err-text-in-Text-Some-clause-read
value_of-returns-in_err-text-in-Text-Some-clause-read = of_values.value_of-returns-in_err-text-in-Text-Some-clause-read

pub value_of-returns-in_ok-text-in-Text-Some-clause-read : goal.value_of-returns-in_ok-text-in-Text-Some-clause-read
value_of-returns-in_ok-text-in-Text-Some-clause-read = of_values.value_of-returns-in_ok-text-in-Text-Some-clause-read

pub value_of-returns-in_err-text_chunks-in-Text-None-clause-read : goal.value_of-returns-in_err-text_chunks-in-Text-None-clause-read
value_of-returns-in_err-text_chunks-in-Text-None-clause-read = of_values.value_of-returns-in_err-text_chunks-in-Text-None-clause-read

pub value_of-returns-in_ok-text_chunks-in-Text-None-clause-read : goal.value_of-returns-in_ok-text_chunks-in-Text-None-clause-read
value_of-returns-in_ok-text_chunks-in-Text-None-clause-read = of_values.value_of-returns-in_ok-text_chunks-in-Text-None-clause-read

pub value_of-returns-in_err-array-in-Array-clause-read : goal.value_of-returns-in_err-array-in-Array-clause-read
value_of-returns-in_err-array-in-Array-clause-read = of_values.value_of-returns-in_err-array-in-Array-clause-read

pub value_of-returns-in_ok-array-in-Array-clause-read : goal.value_of-returns-in_ok-array-in-Array-clause-read
value_of-returns-in_ok-array-in-Array-clause-read = of_values.value_of-returns-in_ok-array-in-Array-clause-read

pub value_of-returns-in_err-map-in-Map-clause-read : goal.value_of-returns-in_err-map-in-Map-clause-read
value_of-returns-in_err-map-in-Map-clause-read = of_values.value_of-returns-in_err-map-in-Map-clause-read

pub value_of-returns-in_ok-map-in-Map-clause-read : goal.value_of-returns-in_ok-map-in-Map-clause-read
value_of-returns-in_ok-map-in-Map-clause-read = of_values.value_of-returns-in_ok-map-in-Map-clause-read

pub value_of-returns-in_err-tagged-in-Tag-clause-read : goal.value_of-returns-in_err-tagged-in-Tag-clause-read
value_of-returns-in_err-tagged-in-Tag-clause-read = of_values.value_of-returns-in_err-tagged-in-Tag-clause-read

pub value_of-returns-in_ok-tagged-in-Tag-clause-read : goal.value_of-returns-in_ok-tagged-in-Tag-clause-read
value_of-returns-in_ok-tagged-in-Tag-clause-read = of_values.value_of-returns-in_ok-tagged-in-Tag-clause-read

-- ---- memory

pub value-returns-clause-memory : goal.value-returns-clause-memory
value-returns-clause-memory = of_values.value-returns-clause-memory

pub value_from-returns-in_ok-head-in_default-clause-memory : goal.value_from-returns-in_ok-head-in_default-clause-memory
value_from-returns-in_ok-head-in_default-clause-memory = of_values.value_from-returns-in_ok-head-in_default-clause-memory

pub value_of-returns-in_err-bytes-in-Bytes-Some-clause-memory : goal.value_of-returns-in_err-bytes-in-Bytes-Some-clause-memory
value_of-returns-in_err-bytes-in-Bytes-Some-clause-memory = of_values.value_of-returns-in_err-bytes-in-Bytes-Some-clause-memory

pub value_of-returns-in_err-byte_chunks-in-Bytes-None-clause-memory : goal.value_of-returns-in_err-byte_chunks-in-Bytes-None-clause-memory
value_of-returns-in_err-byte_chunks-in-Bytes-None-clause-memory = of_values.value_of-returns-in_err-byte_chunks-in-Bytes-None-clause-memory

pub value_of-returns-in_err-text-in-Text-Some-clause-memory : goal.value_of-returns-in_err-text-in-Text-Some-clause-memory
value_of-returns-in_err-text-in-Text-Some-clause-memory = of_values.value_of-returns-in_err-text-in-Text-Some-clause-memory

pub value_of-returns-in_err-text_chunks-in-Text-None-clause-memory : goal.value_of-returns-in_err-text_chunks-in-Text-None-clause-memory
value_of-returns-in_err-text_chunks-in-Text-None-clause-memory = of_values.value_of-returns-in_err-text_chunks-in-Text-None-clause-memory

pub value_of-returns-in_err-array-in-Array-clause-memory : goal.value_of-returns-in_err-array-in-Array-clause-memory
value_of-returns-in_err-array-in-Array-clause-memory = of_values.value_of-returns-in_err-array-in-Array-clause-memory

pub value_of-returns-in_err-map-in-Map-clause-memory : goal.value_of-returns-in_err-map-in-Map-clause-memory
value_of-returns-in_err-map-in-Map-clause-memory = of_values.value_of-returns-in_err-map-in-Map-clause-memory

pub value_of-returns-in_err-tagged-in-Tag-clause-memory : goal.value_of-returns-in_err-tagged-in-Tag-clause-memory
value_of-returns-in_err-tagged-in-Tag-clause-memory = of_values.value_of-returns-in_err-tagged-in-Tag-clause-memory
