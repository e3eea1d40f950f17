-- Values, by their first bytes and heads.
use Rattle.std.proofs.Common.{◌≡◌, IfErr, ◌∙◌, ℕ, map, Some, None, Ok, sym, ap, rules}
use Rattle.std.proofs.lemmas.Result.{err_from_is_err_and}
use Rattle.cbor_model.specs.Formats.{Formats, all_formats}
use Rattle.cbor_model.specs.Head.{no_bytes}
use Rattle.cbor_model.specs.Raw.{indefinite}
use Rattle.cbor_model.specs.Plain.{Val}
use Rattle.cbor_model.specs.Plain as plain
use Rattle.cbor_model.specs.Reader.{text_at, text_chunks_at, byte_at, bytes_at, string_at, string_chunks_at, chunks_at, exceeds_most, array_at, map_at, tag_at, after_first, item_at, inside}
use Rattle.cbor_value.specs.View.{view, views, map_view}
use Rattle.cbor_value.proofs.facts.Views.{view_text, view_bytes, view_array, view_map, view_tag}
use Rattle.cbor_decode.specs.declared.head.Head.TheVariants as head
use Rattle.cbor_decode.specs.Decoder.{formats_of}
use Rattle.cbor_decode.specs.Gives.{values, Gives}
use Rattle.cbor_decode.specs.Heads.{after_head, head_at, remaining_of, joined_of}
use Rattle.cbor_decode.specs.Strings.{text_view}
use Rattle.cbor_decode.proofs.Steps.{subst_both, step_map, stopped_map, gives_then}
use Rattle.cbor_decode.proofs.Heads.{value_after, value_stops_at}
use Rattle.cbor_decode.proofs.Inside.{value_first, value_stops, bytes_read, bytes_stop, chunks_read, chunks_stop}
use Rattle.cbor_decode.specs.Memory.{IsStoredHead, MemoryOnly, ReadsStored}
use Rattle.cbor_decode.proofs.Memory.{stored, on_err, head_stored, first_stored}
use Rattle.cbor_decode.proofs.Decoder.+read.Goals as goal

-- ---- values

pub value-returns-in_err-first-clause-read : goal.value-returns-in_err-first-clause-read
value-returns-in_err-first-clause-read g t c =
    let f = formats_of c.args.self.now.formats in
    let passed = err_from_is_err_and c.from_residual.result c.from_residual.ensures.1 in
    rw (passed.1, passed.2) (stopped_map g.R.Source.refusals (λ l. byte_at) (λ l. item_at (values f l) c.args.self.now.levels) _ _ _ (λ l bs d is. value_stops f l c.args.self.now.levels bs d is) c.in_err-first.ensures.read)

pub value-returns-clause-read : goal.value-returns-clause-read
value-returns-clause-read g t c =
    let f = formats_of c.args.self.now.formats in
    let levels = c.args.self.now.levels in
    let b = c.in_ok-first.first in
    let given = subst_both (λ (f : Formats) (n : ℕ). Gives g.R.Source.refusals view (λ l. after_first (values f l) (inside (values f l) n) b) (g.R.Source.source c.byte.new.self.source) (g.R.Source.source c.value_from.new.self.source) c.value_from.new.self.refusal c.value_from.result) (ap formats_of c.in_ok-first.ensures.settings.formats) c.in_ok-first.ensures.settings.levels c.value_from.ensures.read in
    gives_then g.R.Source.refusals view (λ l. after_first (values f l) (inside (values f l) levels) b) (λ l. item_at (values f l) levels) _ _ _ _ _ (λ l bs mid. byte_at bs ≡ Ok (b, mid))
    (λ l bs mid is. value_first f l levels b bs mid is) c.in_ok-first.ensures.read given

pub value_from-returns-in_err-head-in_default-clause-read : goal.value_from-returns-in_err-head-in_default-clause-read
value_from-returns-in_err-head-in_default-clause-read g t c =
    let f = formats_of c.args.self.now.formats in
    let passed = err_from_is_err_and c.from_residual.result c.from_residual.ensures.1 in
    let levels = c.args.self.now.levels in
    rw (passed.1, passed.2) (stopped_map g.R.Source.refusals (λ l. head_at c.args.first) (λ l. after_first (values f l) (inside (values f l) levels) c.args.first) _ _ _ (λ l bs d is. value_stops_at f l (inside (values f l) levels) c.args.first bs d is) c.in_err-head-in_default.ensures.read)

pub value_from-returns-in_ok-head-in_default-clause-read : goal.value_from-returns-in_ok-head-in_default-clause-read
value_from-returns-in_ok-head-in_default-clause-read g t c =
    let f = formats_of c.args.self.now.formats in
    let levels = c.args.self.now.levels in
    let h = c.in_ok-head-in_default.head in
    let given = subst_both (λ (f : Formats) (n : ℕ). Gives g.R.Source.refusals view (λ l. after_head f l (inside (values f l) n) h) (g.R.Source.source c.head.new.self.source) (g.R.Source.source c.value_of.new.self.source) c.value_of.new.self.refusal c.value_of.result) (ap formats_of c.in_ok-head-in_default.ensures.settings.formats) c.in_ok-head-in_default.ensures.settings.levels c.value_of.ensures.read in
    gives_then g.R.Source.refusals view (λ l. after_head f l (inside (values f l) levels) h) (λ l. after_first (values f l) (inside (values f l) levels) c.args.first) _ _ _ _ _ _
    (λ l bs mid is. value_after f l (inside (values f l) levels) c.args.first is.0 h bs mid is.1) c.in_ok-head-in_default.ensures.read given

pub value_of-returns-in_err-bytes-in-Bytes-Some-clause-read : goal.value_of-returns-in_err-bytes-in-Bytes-Some-clause-read
value_of-returns-in_err-bytes-in-Bytes-Some-clause-read g t c =
    let passed = err_from_is_err_and c.from_residual.result c.from_residual.ensures.1 in
    let n = c.in-Bytes-Some.n in
    let is_head : c.args.head ≡ head.Bytes (Some n) = search rules in
    rw (passed.1, passed.2, is_head) (stopped_map g.R.Source.refusals (λ l. bytes_at n) (λ l. string_at (values all_formats l) no_bytes n) _ _ _ (λ l bs d is. bytes_stop l n bs d is) c.in_err-bytes-in-Bytes-Some.ensures.read)

pub value_of-returns-in_err-byte_chunks-in-Bytes-None-clause-read : goal.value_of-returns-in_err-byte_chunks-in-Bytes-None-clause-read
value_of-returns-in_err-byte_chunks-in-Bytes-None-clause-read g t c =
    let passed = err_from_is_err_and c.from_residual-in_err-byte_chunks-in-Bytes-None.result c.from_residual-in_err-byte_chunks-in-Bytes-None.ensures.1 in
    let is_head : c.args.head ≡ head.Bytes None = search rules in
    rw (passed.1, passed.2, is_head) (stopped_map g.R.Source.refusals (λ l bs. joined_of (chunks_at (exceeds_most l.room) 0 2 bs)) (λ l. string_chunks_at (values all_formats l)) _ _ _ (λ l bs d is. chunks_stop l bs d is) c.in_err-byte_chunks-in-Bytes-None.ensures.read)

pub value_of-returns-in_ok-bytes-in-Bytes-Some-clause-read : goal.value_of-returns-in_ok-bytes-in-Bytes-Some-clause-read
value_of-returns-in_ok-bytes-in-Bytes-Some-clause-read g t c =
    let n = c.in-Bytes-Some.n in
    let b = c.in_ok-bytes-in-Bytes-Some.field-0.items in
    let is_head : c.args.head ≡ head.Bytes (Some n) = search rules in
    step_map _ _ (λ l bs rest. bytes_at n bs ≡ Ok (b, rest)) _ (λ l bs rest is. rw is_head (bytes_read l n bs b rest is ∙ ap (λ (v : Val). Ok (v, rest)) (sym (view_bytes c.in_ok-bytes-in-Bytes-Some.field-0)))) c.in_ok-bytes-in-Bytes-Some.ensures.read

pub value_of-returns-in_ok-byte_chunks-in-Bytes-None-clause-read : goal.value_of-returns-in_ok-byte_chunks-in-Bytes-None-clause-read
value_of-returns-in_ok-byte_chunks-in-Bytes-None-clause-read g t c =
    let b = c.in_ok-byte_chunks-in-Bytes-None.field-0.items in
    let is_head : c.args.head ≡ head.Bytes None = search rules in
    step_map _ _ (λ l bs rest. joined_of (chunks_at (exceeds_most l.room) 0 2 bs) ≡ Ok (b, rest)) _ (λ l bs rest is. rw is_head (chunks_read l bs b rest is ∙ ap (λ (v : Val). Ok (v, rest)) (sym (view_bytes c.in_ok-byte_chunks-in-Bytes-None.field-0)))) c.in_ok-byte_chunks-in-Bytes-None.ensures.read

pub value_of-returns-in_err-text-in-Text-Some-clause-read : goal.value_of-returns-in_err-text-in-Text-Some-clause-read
value_of-returns-in_err-text-in-Text-Some-clause-read g t c =
    let passed = err_from_is_err_and c.from_residual-in_err-text-in-Text-Some.result c.from_residual-in_err-text-in-Text-Some.ensures.1 in
    let is_head : c.args.head ≡ head.Text (Some c.in-Text-Some.n) = search rules in
    rw (passed.1, passed.2, is_head) c.in_err-text-in-Text-Some.ensures.read

pub value_of-returns-in_ok-text-in-Text-Some-clause-read : goal.value_of-returns-in_ok-text-in-Text-Some-clause-read
value_of-returns-in_ok-text-in-Text-Some-clause-read g t c =
    let v = c.in_ok-text-in-Text-Some.field-0 in
    let is_head : c.args.head ≡ head.Text (Some c.in-Text-Some.n) = search rules in
    step_map _ _ (λ l bs rest. text_at (values all_formats l) no_bytes c.in-Text-Some.n bs ≡ Ok (text_view v, rest)) _ (λ l bs rest is. rw is_head (is ∙ ap (λ (x : Val). Ok (x, rest)) (sym (view_text v)))) c.in_ok-text-in-Text-Some.ensures.read

pub value_of-returns-in_err-text_chunks-in-Text-None-clause-read : goal.value_of-returns-in_err-text_chunks-in-Text-None-clause-read
value_of-returns-in_err-text_chunks-in-Text-None-clause-read g t c =
    let passed = err_from_is_err_and c.from_residual-in_err-text_chunks-in-Text-None.result c.from_residual-in_err-text_chunks-in-Text-None.ensures.1 in
    let is_head : c.args.head ≡ head.Text None = search rules in
    rw (passed.1, passed.2, is_head) c.in_err-text_chunks-in-Text-None.ensures.read

pub value_of-returns-in_ok-text_chunks-in-Text-None-clause-read : goal.value_of-returns-in_ok-text_chunks-in-Text-None-clause-read
value_of-returns-in_ok-text_chunks-in-Text-None-clause-read g t c =
    let v = c.in_ok-text_chunks-in-Text-None.field-0 in
    let is_head : c.args.head ≡ head.Text None = search rules in
    step_map _ _ (λ l bs rest. text_chunks_at (values all_formats l) bs ≡ Ok (text_view v, rest)) _ (λ l bs rest is. rw is_head (is ∙ ap (λ (x : Val). Ok (x, rest)) (sym (view_text v)))) c.in_ok-text_chunks-in-Text-None.ensures.read

pub value_of-returns-in_err-array-in-Array-clause-read : goal.value_of-returns-in_err-array-in-Array-clause-read
value_of-returns-in_err-array-in-Array-clause-read g t c =
    let passed = err_from_is_err_and c.from_residual-in_err-array-in-Array.result c.from_residual-in_err-array-in-Array.ensures.1 in
    let is_head : c.args.head ≡ head.Array c.in-Array.remaining = search rules in
    rw (passed.1, passed.2, is_head) c.in_err-array-in-Array.ensures.read

pub value_of-returns-in_ok-array-in-Array-clause-read : goal.value_of-returns-in_ok-array-in-Array-clause-read
value_of-returns-in_ok-array-in-Array-clause-read g t c =
    let f = formats_of c.args.self.now.formats in
    let v = c.in_ok-array-in-Array.field-0 in
    let is_head : c.args.head ≡ head.Array c.in-Array.remaining = search rules in
    step_map _ _ (λ l bs rest. array_at (values f l) (inside (values f l) c.args.self.now.levels) indefinite (remaining_of c.in-Array.remaining) bs ≡ Ok (plain.array (views v.items), rest)) _ (λ l bs rest is. rw is_head (is ∙ ap (λ (x : Val). Ok (x, rest)) (sym (view_array v)))) c.in_ok-array-in-Array.ensures.read

pub value_of-returns-in_err-map-in-Map-clause-read : goal.value_of-returns-in_err-map-in-Map-clause-read
value_of-returns-in_err-map-in-Map-clause-read g t c =
    let passed = err_from_is_err_and c.from_residual-in_err-map-in-Map.result c.from_residual-in_err-map-in-Map.ensures.1 in
    let is_head : c.args.head ≡ head.Map c.in-Map.remaining = search rules in
    rw (passed.1, passed.2, is_head) c.in_err-map-in-Map.ensures.read

pub value_of-returns-in_ok-map-in-Map-clause-read : goal.value_of-returns-in_ok-map-in-Map-clause-read
value_of-returns-in_ok-map-in-Map-clause-read g t c =
    let f = formats_of c.args.self.now.formats in
    let v = c.in_ok-map-in-Map.field-0 in
    let is_head : c.args.head ≡ head.Map c.in-Map.remaining = search rules in
    step_map _ _ (λ l bs rest. map_at (values f l) (inside (values f l) c.args.self.now.levels) indefinite (remaining_of c.in-Map.remaining) bs ≡ Ok (plain.map (map_view v), rest)) _ (λ l bs rest is. rw is_head (is ∙ ap (λ (x : Val). Ok (x, rest)) (sym (view_map v)))) c.in_ok-map-in-Map.ensures.read

pub value_of-returns-in_err-tagged-in-Tag-clause-read : goal.value_of-returns-in_err-tagged-in-Tag-clause-read
value_of-returns-in_err-tagged-in-Tag-clause-read g t c =
    let passed = err_from_is_err_and c.from_residual-in_err-tagged-in-Tag.result c.from_residual-in_err-tagged-in-Tag.ensures.1 in
    let is_head : c.args.head ≡ head.Tag c.in-Tag.tag = search rules in
    rw (passed.1, passed.2, is_head) c.in_err-tagged-in-Tag.ensures.read

pub value_of-returns-in_ok-tagged-in-Tag-clause-read : goal.value_of-returns-in_ok-tagged-in-Tag-clause-read
value_of-returns-in_ok-tagged-in-Tag-clause-read g t c =
    let f = formats_of c.args.self.now.formats in
    let v = c.in_ok-tagged-in-Tag.field-0 in
    let is_head : c.args.head ≡ head.Tag c.in-Tag.tag = search rules in
    step_map _ _ (λ l bs rest. tag_at (values f l) (inside (values f l) c.args.self.now.levels) no_bytes c.in-Tag.tag bs ≡ Ok (plain.tag c.in-Tag.tag (view v.value), rest)) _ (λ l bs rest is. rw is_head (is ∙ ap (λ (x : Val). Ok (x, rest)) (sym (view_tag c.in-Tag.tag v)))) c.in_ok-tagged-in-Tag.ensures.read

-- ---- memory

pub value-returns-clause-memory : goal.value-returns-clause-memory
value-returns-clause-memory g t c =
    let f = formats_of c.args.self.now.formats in
    let levels = c.args.self.now.levels in
    let b = c.in_ok-first.first in
    let s = g.R.Source.source c.args.self.now.source in
    let m = g.R.Source.source c.byte.new.self.source in
    let kept = c.value_from.new.self.refusal in
    let given = subst_both (λ (f : Formats) (n : ℕ). IfErr c.value_from.result (MemoryOnly (ReadsStored (λ l. after_first (values f l) (inside (values f l) n) b) m) kept)) (ap formats_of c.in_ok-first.ensures.settings.formats) c.in_ok-first.ensures.settings.levels c.value_from.ensures.memory in
    on_err c.value_from.result (MemoryOnly (ReadsStored (λ l. after_first (values f l) (inside (values f l) levels) b) m) kept) (MemoryOnly (ReadsStored (λ l. item_at (values f l) levels) s) kept)
    (λ e. first_stored f levels b s m kept e c.in_ok-first.ensures.read) given

pub value_from-returns-in_ok-head-in_default-clause-memory : goal.value_from-returns-in_ok-head-in_default-clause-memory
value_from-returns-in_ok-head-in_default-clause-memory g t c =
    let f = formats_of c.args.self.now.formats in
    let levels = c.args.self.now.levels in
    let h = c.in_ok-head-in_default.head in
    let s = g.R.Source.source c.args.self.now.source in
    let m = g.R.Source.source c.head.new.self.source in
    let kept = c.value_of.new.self.refusal in
    on_err c.value_of.result (MemoryOnly (IsStoredHead h) kept) (MemoryOnly (ReadsStored (λ l. after_first (values f l) (inside (values f l) levels) c.args.first) s) kept)
    (λ e. head_stored f levels c.args.first s m h kept e c.in_ok-head-in_default.ensures.read) c.value_of.ensures.memory

pub value_of-returns-in_err-bytes-in-Bytes-Some-clause-memory : goal.value_of-returns-in_err-bytes-in-Bytes-Some-clause-memory
value_of-returns-in_err-bytes-in-Bytes-Some-clause-memory g t c =
    let passed = err_from_is_err_and c.from_residual.result c.from_residual.ensures.1 in
    let is_head : c.args.head ≡ head.Bytes (Some c.in-Bytes-Some.n) = search rules in
    rw (passed.1, passed.2, is_head) (stored _ c.bytes.new.self.refusal _ tt)

pub value_of-returns-in_err-byte_chunks-in-Bytes-None-clause-memory : goal.value_of-returns-in_err-byte_chunks-in-Bytes-None-clause-memory
value_of-returns-in_err-byte_chunks-in-Bytes-None-clause-memory g t c =
    let passed = err_from_is_err_and c.from_residual-in_err-byte_chunks-in-Bytes-None.result c.from_residual-in_err-byte_chunks-in-Bytes-None.ensures.1 in
    let is_head : c.args.head ≡ head.Bytes None = search rules in
    rw (passed.1, passed.2, is_head) (stored _ c.byte_chunks.new.self.refusal _ tt)

pub value_of-returns-in_err-text-in-Text-Some-clause-memory : goal.value_of-returns-in_err-text-in-Text-Some-clause-memory
value_of-returns-in_err-text-in-Text-Some-clause-memory g t c =
    let passed = err_from_is_err_and c.from_residual-in_err-text-in-Text-Some.result c.from_residual-in_err-text-in-Text-Some.ensures.1 in
    let is_head : c.args.head ≡ head.Text (Some c.in-Text-Some.n) = search rules in
    rw (passed.1, passed.2, is_head) (stored _ c.text.new.self.refusal _ tt)

pub value_of-returns-in_err-text_chunks-in-Text-None-clause-memory : goal.value_of-returns-in_err-text_chunks-in-Text-None-clause-memory
value_of-returns-in_err-text_chunks-in-Text-None-clause-memory g t c =
    let passed = err_from_is_err_and c.from_residual-in_err-text_chunks-in-Text-None.result c.from_residual-in_err-text_chunks-in-Text-None.ensures.1 in
    let is_head : c.args.head ≡ head.Text None = search rules in
    rw (passed.1, passed.2, is_head) (stored _ c.text_chunks.new.self.refusal _ tt)

pub value_of-returns-in_err-array-in-Array-clause-memory : goal.value_of-returns-in_err-array-in-Array-clause-memory
value_of-returns-in_err-array-in-Array-clause-memory g t c =
    let passed = err_from_is_err_and c.from_residual-in_err-array-in-Array.result c.from_residual-in_err-array-in-Array.ensures.1 in
    let is_head : c.args.head ≡ head.Array c.in-Array.remaining = search rules in
    rw (passed.1, passed.2, is_head) (stored _ c.array.new.self.refusal _ tt)

pub value_of-returns-in_err-map-in-Map-clause-memory : goal.value_of-returns-in_err-map-in-Map-clause-memory
value_of-returns-in_err-map-in-Map-clause-memory g t c =
    let passed = err_from_is_err_and c.from_residual-in_err-map-in-Map.result c.from_residual-in_err-map-in-Map.ensures.1 in
    let is_head : c.args.head ≡ head.Map c.in-Map.remaining = search rules in
    rw (passed.1, passed.2, is_head) (stored _ c.map.new.self.refusal _ tt)

pub value_of-returns-in_err-tagged-in-Tag-clause-memory : goal.value_of-returns-in_err-tagged-in-Tag-clause-memory
value_of-returns-in_err-tagged-in-Tag-clause-memory g t c =
    let passed = err_from_is_err_and c.from_residual-in_err-tagged-in-Tag.result c.from_residual-in_err-tagged-in-Tag.ensures.1 in
    let is_head : c.args.head ≡ head.Tag c.in-Tag.tag = search rules in
    rw (passed.1, passed.2, is_head) (stored _ c.tagged.new.self.refusal _ tt)
