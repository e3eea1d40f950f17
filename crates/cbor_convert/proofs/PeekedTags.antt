-- A tag before which a byte was looked at.
use Rattle.std.proofs.Common.{◌≡◌, ◌∙◌, ℕ, Bool, List, [], Option, Some, None, Result, Ok, Err, IfOk, IfSome, sym, ap, subst}
use Rattle.cbor_model.specs.Head.{HeadWidth}
use Rattle.cbor_model.specs.Reader.{item_at, inside, tag_at}
use Rattle.cbor_io.specs.declared.error.Error.{Error}
use Rattle.cbor_io.specs.declared.read_error.ReadErrorCode.{ReadErrorCode}
use Rattle.cbor_read.specs.Source.{Input, Stays}
use Rattle.cbor_decode.specs.Gives.{Limits, Step}
use Rattle.cbor_decode.specs.declared.formats.Formats.{Formats}
use Rattle.cbor_decode.proofs.facts.Steps.{none_step, some_then, step_then, took_stays}
use Rattle.cbor_decode_as.specs.Tags.{ReadsTag, TagIs, tag_head_at}
use Rattle.cbor_decode_as.specs.Takes.{ReportsFault, formats_of, raws}
use Rattle.cbor_convert.proofs.Tags.{reported_then}

-- it stood there before, where as many levels were left and the same formats were read
pub tag_peeked : (s m t : Input) → Stays s m → (f g : Formats) → g ≡ f → (levels left : ℕ) → left ≡ levels → (r : Result (Option ℕ) Error)
    → IfOk r (λ o. IfSome o (λ n. TagIs (formats_of g) left n m t)) → IfOk r (λ o. IfSome o (λ n. TagIs (formats_of f) levels n s t))
tag_peeked s m t stays f g same levels left as_many (Ok (Some n)) tag =
    let P : Limits → List ℕ → List ℕ → Type 0 = λ l bs rest. (w : HeadWidth) × (item_at (raws (formats_of f) l) levels bs ≡ tag_at (raws (formats_of f) l) (inside (raws (formats_of f) l) levels) w n rest) in
    let formats = subst (λ (h : Formats). TagIs (formats_of h) left n m t) same tag in
    let here = subst (λ (k : ℕ). TagIs (formats_of f) k n m t) as_many formats in
    step_then s m t (λ l bs rest. bs ≡ rest) P P (λ l bs mid rest there is. subst (λ (q : List ℕ). P l q rest) (sym there) is) (none_step s m stays.bytes stays.count stays.room) here
tag_peeked s m t stays f g same levels left as_many (Ok None) tag = tt
tag_peeked s m t stays f g same levels left as_many (Err e) tag = tt

-- what was read of it, or why it wasn't
pub read_peeked : (allowed : ReadErrorCode → Bool) (s m t : Input) → Stays s m → (levels left : ℕ) → left ≡ levels → (r : Result (Option ℕ) Error)
    → ReadsTag allowed left m t r → ReadsTag allowed levels s t r
read_peeked allowed s m t stays levels left as_many (Ok o) h =
    let here = subst (λ (k : ℕ). Step m t (λ l bs rest. tag_head_at k bs ≡ Ok (o, rest))) as_many h in
    step_then s m t (λ l bs rest. bs ≡ rest) (λ l bs rest. tag_head_at levels bs ≡ Ok (o, rest)) (λ l bs rest. tag_head_at levels bs ≡ Ok (o, rest))
    (λ l bs mid rest same is. subst (λ (q : List ℕ). tag_head_at levels q ≡ Ok (o, rest)) (sym same) is) (none_step s m stays.bytes stays.count stays.room) here
read_peeked allowed s m t stays levels left as_many (Err e) h =
    let here = subst (λ (k : ℕ). ReportsFault allowed (λ l. tag_head_at k) m e) as_many h.1 in
    let reported = reported_then allowed (λ l. tag_head_at levels) (λ l. tag_head_at levels) s m e (λ l bs rest. bs ≡ rest)
    (λ l bs mid f same stops. subst (λ (q : List ℕ). tag_head_at levels q ≡ Err f) (sym same) stops) (none_step s m stays.bytes stays.count stays.room) here in
    (some_then s m t (took_stays s m stays) h.0, reported)

-- at the end no tag is
pub none_at_end : (allowed : ReadErrorCode → Bool) (s m : Input) → Stays s m → (levels : ℕ) → IfSome s.to_come (λ bs. bs ≡ []) → ReadsTag allowed levels s m (Ok None)
none_at_end allowed s m stays levels ended =
    let step = none_step s m stays.bytes stays.count stays.room in
    record {
      took = step.took;
      reported = λ bs reports.
          let got = step.reported bs reports in
          let none = subst (λ (o : Option (List ℕ)). IfSome o (λ bs. bs ≡ [])) reports.is ended in
          record { rest = got.rest; reports = got.reports; total = got.total; holds = ap (tag_head_at levels) none ∙ ap (λ (q : List ℕ). Ok (None, q)) (sym none ∙ got.holds) };
    }
