-- For what memory runs out.
use Rattle.std.proofs.Common.{◌≡◌, ◌∙◌, ℕ, Option, None, Ok, IfErr, ap, subst, arith, rules}
use Rattle.std.proofs.lemmas.Result.{err_from_is_err_and}
use Rattle.cbor_model.specs.Formats.{Formats}
use Rattle.cbor_model.specs.Head.{HeadWidth}
use Rattle.cbor_model.specs.Raw.{Length}
use Rattle.cbor_model.specs.Refusal.{end_in_array, end_in_map}
use Rattle.cbor_model.specs.Reader.{array_at, map_at, tag_at, after_first, inside}
use Rattle.cbor_read.specs.Source.{Input}
use Rattle.cbor_decode.specs.declared.head.Head.TheVariants as head
use Rattle.cbor_decode.specs.Decoder.{formats_of}
use Rattle.cbor_decode.specs.Gives.{values, Step}
use Rattle.cbor_decode.specs.Heads.{length_of, remaining_of, first_at, first_of_next, passed}
use Rattle.cbor_decode.proofs.Steps.{subst_both}
use Rattle.cbor_decode.proofs.Skipped.{items, pairs}
use Rattle.cbor_decode.proofs.SkippedChunks as chunks
use Rattle.cbor_decode.proofs.Asked.{asked_where, err_asks, err_whole, err_joined}
use Rattle.cbor_decode.specs.HasChunks.{HasChunks, SomeHasChunks, SomePairHasChunks, AllRead, AsksWhere, raws}
use Rattle.cbor_decode.specs.Memory.{MemoryOnly}
use Rattle.cbor_read.specs.Source.{asks_for}
use Rattle.cbor_decode.proofs.Decoder.+skip.Goals as goal

-- ---- memory

pub skip-returns-clause-memory : goal.skip-returns-clause-memory
skip-returns-clause-memory g t c =
    let f = formats_of c.args.self.now.formats in
    let levels = c.args.self.now.levels in
    let b = c.in_ok-first.first in
    let asks = asks_for g.R.Source.refusals g.R.Source.lends in
    let s = g.R.Source.source c.args.self.now.source in
    let t = g.R.Source.source c.byte.new.self.source in
    let kept = c.skip_from.new.self.refusal in
    let given = subst_both (λ (f : Formats) (n : ℕ). IfErr c.skip_from.result (MemoryOnly (AsksWhere asks (AllRead HasChunks (chunks.behind_first f n b) t)) kept)) (ap formats_of c.in_ok-first.ensures.settings.formats) c.in_ok-first.ensures.settings.levels c.skip_from.ensures.memory in
    err_asks asks (AllRead HasChunks (chunks.behind_first f levels b) t) (AllRead HasChunks (chunks.item f levels) s) kept c.skip_from.result (chunks.item_has_first f levels s t b c.in_ok-first.ensures.read) given

pub skip_from-returns-clause-memory : goal.skip_from-returns-clause-memory
skip_from-returns-clause-memory g t c =
    let f = formats_of c.args.self.now.formats in
    let levels = c.args.self.now.levels in
    let b = c.args.first in
    let h = c.in_ok-head.head in
    let asks = asks_for g.R.Source.refusals g.R.Source.lends in
    let s = g.R.Source.source c.args.self.now.source in
    let t = g.R.Source.source c.head.new.self.source in
    let kept = c.skip_of.new.self.refusal in
    let given = subst_both (λ (f : Formats) (n : ℕ). IfErr c.skip_of.result (MemoryOnly (AsksWhere asks (chunks.AfterHead f n t h)) kept)) (ap formats_of c.in_ok-head.ensures.settings.formats) c.in_ok-head.ensures.settings.levels c.skip_of.ensures.memory in
    err_asks asks (chunks.AfterHead f levels t h) (AllRead HasChunks (chunks.behind_first f levels b) s) kept c.skip_of.result (chunks.first_has f levels s t b h c.in_ok-head.ensures.read) given

pub skip_array-returns-clause-memory : goal.skip_array-returns-clause-memory
skip_array-returns-clause-memory g t c =
    let f = formats_of c.args.self.now.formats in
    let levels = c.args.self.now.levels in
    let left = c.enter.new.self.levels in
    let r = remaining_of c.args.remaining in
    let asks = asks_for g.R.Source.refusals g.R.Source.lends in
    let s = g.R.Source.source c.args.self.now.source in
    let kept = c.skip_items-passed.new.self.refusal in
    let result = c.skip_items-passed.result in
    let given = subst_both (λ (f : Formats) (s : Input). IfErr result (MemoryOnly (AsksWhere asks (AllRead SomeHasChunks (chunks.items f left r) s)) kept)) (ap formats_of c.in_ok-enter.ensures.formats) (ap g.R.Source.source c.in_ok-enter.ensures.source) c.skip_items-passed.ensures.memory in
    err_asks asks (AllRead SomeHasChunks (chunks.items f left r) s) ((n : Length) → AllRead HasChunks (λ l. array_at (raws f l) (inside (raws f l) levels) n r) s) kept result
    (chunks.array_has f levels left (omega (arith, c.in_ok-enter.ensures.inside)) s r) given

pub skip_map-returns-clause-memory : goal.skip_map-returns-clause-memory
skip_map-returns-clause-memory g t c =
    let f = formats_of c.args.self.now.formats in
    let levels = c.args.self.now.levels in
    let left = c.enter.new.self.levels in
    let r = remaining_of c.args.remaining in
    let asks = asks_for g.R.Source.refusals g.R.Source.lends in
    let s = g.R.Source.source c.args.self.now.source in
    let kept = c.skip_pairs-passed.new.self.refusal in
    let result = c.skip_pairs-passed.result in
    let given = subst_both (λ (f : Formats) (s : Input). IfErr result (MemoryOnly (AsksWhere asks (AllRead SomePairHasChunks (chunks.pairs f left r) s)) kept)) (ap formats_of c.in_ok-enter.ensures.formats) (ap g.R.Source.source c.in_ok-enter.ensures.source) c.skip_pairs-passed.ensures.memory in
    err_asks asks (AllRead SomePairHasChunks (chunks.pairs f left r) s) ((n : Length) → AllRead HasChunks (λ l. map_at (raws f l) (inside (raws f l) levels) n r) s) kept result
    (chunks.map_has f levels left (omega (arith, c.in_ok-enter.ensures.inside)) s r) given

pub skip_tagged-returns-clause-memory : goal.skip_tagged-returns-clause-memory
skip_tagged-returns-clause-memory g t c =
    let f = formats_of c.args.self.now.formats in
    let levels = c.args.self.now.levels in
    let left = c.enter.new.self.levels in
    let n = c.args.tag in
    let asks = asks_for g.R.Source.refusals g.R.Source.lends in
    let s = g.R.Source.source c.args.self.now.source in
    let kept = c.skip-passed.new.self.refusal in
    let result = c.skip-passed.result in
    let given = subst_both (λ (f : Formats) (s : Input). IfErr result (MemoryOnly (AsksWhere asks (AllRead HasChunks (chunks.item f left) s)) kept)) (ap formats_of c.in_ok-enter.ensures.formats) (ap g.R.Source.source c.in_ok-enter.ensures.source) c.skip-passed.ensures.memory in
    err_asks asks (AllRead HasChunks (chunks.item f left) s) ((w : HeadWidth) → AllRead HasChunks (λ l. tag_at (raws f l) (inside (raws f l) levels) w n) s) kept result
    (chunks.tag_has f levels left (omega (arith, c.in_ok-enter.ensures.inside)) s n) given

pub skip_items-returns-in_err-skip_from-clause-memory : goal.skip_items-returns-in_err-skip_from-clause-memory
skip_items-returns-in_err-skip_from-clause-memory g t c =
    let f = formats_of c.args.self.now.formats in
    let levels = c.args.self.now.levels in
    let is_err = err_from_is_err_and c.from_residual-in_err-skip_from.result c.from_residual-in_err-skip_from.ensures.1 in
    let s0 = g.R.Source.source c.args.self.now.source in
    let s = g.R.Source.source c.items.self.source in
    let t = g.R.Source.source c.next.new.self.source in
    let all = remaining_of c.args.remaining in
    let r = remaining_of c.items.remaining in
    let behind = remaining_of c.next.new.remaining in
    let b = c.in-Some.first in
    let asks = asks_for g.R.Source.refusals g.R.Source.lends in
    let kept = c.skip_from.new.self.refusal in
    let same : c.next.new.self.levels ≡ levels = c.in_ok-first.ensures.settings.levels ∙ c.items.invariant.levels in
    let same_formats : formats_of c.next.new.self.formats ≡ f = ap formats_of (c.in_ok-first.ensures.settings.formats ∙ c.items.invariant.formats) in
    let first = subst (λ (o : Option ℕ). Step s t (λ l rest mid. first_at end_in_array r rest ≡ Ok (first_of_next c.next.new.remaining o, mid))) c.in-Some.is c.in_ok-first.ensures.read in
    let begun = chunks.item_begins f levels s0 s t all r behind b c.items.invariant.leads first in
    let given = subst_both (λ (f : Formats) (n : ℕ). MemoryOnly (AsksWhere asks (AllRead HasChunks (chunks.behind_first f n b) t)) kept c.in_err-skip_from.field-0.0) same_formats same c.in_err-skip_from.ensures.memory in
    rw (is_err.1, is_err.2) (asked_where asks (AllRead HasChunks (chunks.behind_first f levels b) t) (AllRead SomeHasChunks (chunks.items f levels all) s0) kept c.in_err-skip_from.field-0.0 (chunks.item_has f levels s0 t all behind b begun) given)

pub skip_pairs-returns-in_err-skip_from-clause-memory : goal.skip_pairs-returns-in_err-skip_from-clause-memory
skip_pairs-returns-in_err-skip_from-clause-memory g t c =
    let f = formats_of c.args.self.now.formats in
    let levels = c.args.self.now.levels in
    let is_err = err_from_is_err_and c.from_residual-in_err-skip_from.result c.from_residual-in_err-skip_from.ensures.1 in
    let s0 = g.R.Source.source c.args.self.now.source in
    let s = g.R.Source.source c.pairs.self.source in
    let t = g.R.Source.source c.next.new.self.source in
    let all = remaining_of c.args.remaining in
    let r = remaining_of c.pairs.remaining in
    let behind = remaining_of c.next.new.remaining in
    let b = c.in-Some.first in
    let asks = asks_for g.R.Source.refusals g.R.Source.lends in
    let kept = c.skip_from.new.self.refusal in
    let same : c.next.new.self.levels ≡ levels = c.in_ok-first.ensures.settings.levels ∙ c.pairs.invariant.levels in
    let same_formats : formats_of c.next.new.self.formats ≡ f = ap formats_of (c.in_ok-first.ensures.settings.formats ∙ c.pairs.invariant.formats) in
    let first = subst (λ (o : Option ℕ). Step s t (λ l rest mid. first_at end_in_map r rest ≡ Ok (first_of_next c.next.new.remaining o, mid))) c.in-Some.is c.in_ok-first.ensures.read in
    let begun = chunks.key_begins f levels s0 s t all r behind b c.pairs.invariant.leads first in
    let given = subst_both (λ (f : Formats) (n : ℕ). MemoryOnly (AsksWhere asks (AllRead HasChunks (chunks.behind_first f n b) t)) kept c.in_err-skip_from.field-0.0) same_formats same c.in_err-skip_from.ensures.memory in
    rw (is_err.1, is_err.2) (asked_where asks (AllRead HasChunks (chunks.behind_first f levels b) t) (AllRead SomePairHasChunks (chunks.pairs f levels all) s0) kept c.in_err-skip_from.field-0.0 (chunks.key_has f levels s0 t all behind b begun) given)

pub skip_pairs-returns-in_err-skip-clause-memory : goal.skip_pairs-returns-in_err-skip-clause-memory
skip_pairs-returns-in_err-skip-clause-memory g t c =
    let f = formats_of c.args.self.now.formats in
    let levels = c.args.self.now.levels in
    let is_err = err_from_is_err_and c.from_residual-in_err-skip.result c.from_residual-in_err-skip.ensures.1 in
    let s0 = g.R.Source.source c.args.self.now.source in
    let s = g.R.Source.source c.pairs.self.source in
    let t = g.R.Source.source c.next.new.self.source in
    let u = g.R.Source.source c.skip_from.new.self.source in
    let all = remaining_of c.args.remaining in
    let r = remaining_of c.pairs.remaining in
    let behind = remaining_of c.next.new.remaining in
    let b = c.in-Some.first in
    let asks = asks_for g.R.Source.refusals g.R.Source.lends in
    let kept = c.skip.new.self.refusal in
    let same : c.next.new.self.levels ≡ levels = c.in_ok-first.ensures.settings.levels ∙ c.pairs.invariant.levels in
    let same_formats : formats_of c.next.new.self.formats ≡ f = ap formats_of (c.in_ok-first.ensures.settings.formats ∙ c.pairs.invariant.formats) in
    let first = subst (λ (o : Option ℕ). Step s t (λ l rest mid. first_at end_in_map r rest ≡ Ok (first_of_next c.next.new.remaining o, mid))) c.in-Some.is c.in_ok-first.ensures.read in
    let key = subst_both (λ (f : Formats) (n : ℕ). Step t u (λ l mid after. passed (after_first (values f l) (inside (values f l) n) b mid) ≡ Ok (tt, after))) same_formats same c.in_ok-skip_from.ensures.read in
    let same' : c.skip_from.new.self.levels ≡ levels = c.in_ok-skip_from.ensures.settings.levels ∙ same in
    let same_formats' : formats_of c.skip_from.new.self.formats ≡ f = ap formats_of c.in_ok-skip_from.ensures.settings.formats ∙ same_formats in
    let begun = chunks.key_done f levels s0 t u all behind b (chunks.key_begins f levels s0 s t all r behind b c.pairs.invariant.leads first) key in
    let given = subst_both (λ (f : Formats) (n : ℕ). MemoryOnly (AsksWhere asks (AllRead HasChunks (chunks.item f n) u)) kept c.in_err-skip.field-0.0) same_formats' same' c.in_err-skip.ensures.memory in
    rw (is_err.1, is_err.2) (asked_where asks (AllRead HasChunks (chunks.item f levels) u) (AllRead SomePairHasChunks (chunks.pairs f levels all) s0) kept c.in_err-skip.field-0.0 (chunks.value_has f levels s0 u all behind begun) given)

pub skip_of-returns-in-Bytes-Some-clause-memory : goal.skip_of-returns-in-Bytes-Some-clause-memory
skip_of-returns-in-Bytes-Some-clause-memory g t c = err_whole (asks_for g.R.Source.refusals g.R.Source.lends) (chunks.AfterHead (formats_of c.args.self.now.formats) c.args.self.now.levels (g.R.Source.source c.args.self.now.source) c.args.head) c.skip_bytes.new.self.refusal c.skip_bytes.result c.skip_bytes.ensures.memory

pub skip_of-returns-in-Text-Some-clause-memory : goal.skip_of-returns-in-Text-Some-clause-memory
skip_of-returns-in-Text-Some-clause-memory g t c = err_whole (asks_for g.R.Source.refusals g.R.Source.lends) (chunks.AfterHead (formats_of c.args.self.now.formats) c.args.self.now.levels (g.R.Source.source c.args.self.now.source) c.args.head) c.skip_text.new.self.refusal c.skip_text.result c.skip_text.ensures.memory

pub skip_of-returns-in-Bytes-None-clause-memory : goal.skip_of-returns-in-Bytes-None-clause-memory
skip_of-returns-in-Bytes-None-clause-memory g t c =
    let f = formats_of c.args.self.now.formats in
    let levels = c.args.self.now.levels in
    let s = g.R.Source.source c.args.self.now.source in
    let is_head : c.args.head ≡ head.Bytes None = search rules in
    err_joined (asks_for g.R.Source.refusals g.R.Source.lends) (chunks.AfterHead f levels s c.args.head) c.skip_byte_chunks.new.self.refusal c.skip_byte_chunks.result
    (chunks.head_is f levels s c.args.head (head.Bytes None) is_head (chunks.byte_chunks_has f levels s)) c.skip_byte_chunks.ensures.memory

pub skip_of-returns-in-Text-None-clause-memory : goal.skip_of-returns-in-Text-None-clause-memory
skip_of-returns-in-Text-None-clause-memory g t c =
    let f = formats_of c.args.self.now.formats in
    let levels = c.args.self.now.levels in
    let s = g.R.Source.source c.args.self.now.source in
    let is_head : c.args.head ≡ head.Text None = search rules in
    err_joined (asks_for g.R.Source.refusals g.R.Source.lends) (chunks.AfterHead f levels s c.args.head) c.skip_text_chunks.new.self.refusal c.skip_text_chunks.result
    (chunks.head_is f levels s c.args.head (head.Text None) is_head (chunks.text_chunks_has f levels s)) c.skip_text_chunks.ensures.memory

pub skip_of-returns-in-Array-clause-memory : goal.skip_of-returns-in-Array-clause-memory
skip_of-returns-in-Array-clause-memory g t c =
    let f = formats_of c.args.self.now.formats in
    let levels = c.args.self.now.levels in
    let s = g.R.Source.source c.args.self.now.source in
    let r = c.in-Array.remaining in
    let is_head : c.args.head ≡ head.Array r = search rules in
    err_asks (asks_for g.R.Source.refusals g.R.Source.lends) ((n : Length) → AllRead HasChunks (λ l. array_at (raws f l) (inside (raws f l) levels) n (remaining_of r)) s) (chunks.AfterHead f levels s c.args.head) c.skip_array.new.self.refusal c.skip_array.result
    (λ all. chunks.head_is f levels s c.args.head (head.Array r) is_head (λ w. all (length_of w r))) c.skip_array.ensures.memory

pub skip_of-returns-in-Map-clause-memory : goal.skip_of-returns-in-Map-clause-memory
skip_of-returns-in-Map-clause-memory g t c =
    let f = formats_of c.args.self.now.formats in
    let levels = c.args.self.now.levels in
    let s = g.R.Source.source c.args.self.now.source in
    let r = c.in-Map.remaining in
    let is_head : c.args.head ≡ head.Map r = search rules in
    err_asks (asks_for g.R.Source.refusals g.R.Source.lends) ((n : Length) → AllRead HasChunks (λ l. map_at (raws f l) (inside (raws f l) levels) n (remaining_of r)) s) (chunks.AfterHead f levels s c.args.head) c.skip_map.new.self.refusal c.skip_map.result
    (λ all. chunks.head_is f levels s c.args.head (head.Map r) is_head (λ w. all (length_of w r))) c.skip_map.ensures.memory

pub skip_of-returns-in-Tag-clause-memory : goal.skip_of-returns-in-Tag-clause-memory
skip_of-returns-in-Tag-clause-memory g t c =
    let f = formats_of c.args.self.now.formats in
    let levels = c.args.self.now.levels in
    let s = g.R.Source.source c.args.self.now.source in
    let n = c.in-Tag.tag in
    let is_head : c.args.head ≡ head.Tag n = search rules in
    err_asks (asks_for g.R.Source.refusals g.R.Source.lends) ((w : HeadWidth) → AllRead HasChunks (λ l. tag_at (raws f l) (inside (raws f l) levels) w n) s) (chunks.AfterHead f levels s c.args.head) c.skip_tagged.new.self.refusal c.skip_tagged.result
    (λ all. chunks.head_is f levels s c.args.head (head.Tag n) is_head all) c.skip_tagged.ensures.memory
