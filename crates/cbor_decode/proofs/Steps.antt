-- One step of reading after another.
use Rattle.std.proofs.Common.{◌≡◌, ◌≢◌, ℕ, ◌+◌, ◌<◌, Bool, true, List, [], ◌∷◌, ◌++◌, length, Option, Some, None, Result, Ok, Err, IfSome, sym, ap, ap₂, subst, ◌∙◌, refl, arith, length-append}
use Rattle.std.specs.Io.KnownBytes.{Consumes, Keeps}
use Rattle.cbor_model.specs.Reader.{Fault, Reads, ended}
use Rattle.cbor_io.specs.declared.error.ErrorCode.{ErrorCode}
use Rattle.cbor_io.specs.declared.error.ErrorCode.TheVariants as code
use Rattle.cbor_io.specs.declared.read_error.ReadError.{ReadError}
use Rattle.cbor_io.specs.declared.read_error.ReadErrorCode.{ReadErrorCode}
use Rattle.cbor_io.specs.declared.read_error.ReadErrorCode.TheVariants as reading
use Rattle.cbor_io.specs.ReadError.{why, place, error_code, HasNoPlace}
use Rattle.cbor_read.specs.Source.{Input, TookKept, TookSome, Stays, RefusedCall, RefusedByte, TooFew, AtLimit, IsOfSource}
use Rattle.cbor_read.proofs.facts.Sources.{kept_none, kept_some, some_then}
use Rattle.cbor_decode.specs.declared.refusal.Refused.{Refused as Reason}
use Rattle.cbor_decode.specs.declared.refusal.Refused.TheVariants as refused
use Rattle.cbor_model.specs.Head.{HeadWidth}
use Rattle.cbor_decode.specs.declared.head.Head.{Head}
use Rattle.cbor_decode.specs.Heads.{HeadGives}
use Rattle.cbor_decode.specs.Gives.{FailsBy, Reports, Limits, limits, Advances, Step, ReportsIo, Stops, ReportsWhy, Stopped, Gives}

-- an error of one reading is one of another with the same fault
pub passed_on : {A B : Type 0} (D : Type 0) (k : ErrorCode) (end offset : ℕ) (part : Result A Fault) (all : Result B Fault) → ((f : Fault) → part ≡ Err f → all ≡ Err f) → FailsBy D k end offset part → FailsBy D k end offset all
passed_on D (code.Message s) end offset part all on h = h
passed_on D (code.Io e) end offset part all on h = h
passed_on D code.ScratchTooSmall end offset part all on h = (h.0, h.1, on _ h.2)
passed_on D code.EofWhileParsingValue end offset part all on h = (h.0, h.1, on _ h.2)
passed_on D code.EofWhileParsingArray end offset part all on h = (h.0, h.1, on _ h.2)
passed_on D code.EofWhileParsingMap end offset part all on h = (h.0, h.1, on _ h.2)
passed_on D code.LengthOutOfRange end offset part all on h = (h.0, h.1, on _ h.2)
passed_on D code.InvalidUtf8 end offset part all on h = (h.0, h.1, on _ h.2)
passed_on D code.UnassignedCode end offset part all on h = (h.0, h.1, on _ h.2)
passed_on D code.UnexpectedCode end offset part all on h = (h.0, h.1, on _ h.2)
passed_on D code.TrailingData end offset part all on h = (h.0, h.1, on _ h.2)
passed_on D code.ArrayTooShort end offset part all on h = h
passed_on D code.ArrayTooLong end offset part all on h = h
passed_on D code.RecursionLimitExceeded end offset part all on h = (h.0, h.1, on _ h.2)
passed_on D code.WrongEnumFormat end offset part all on h = h
passed_on D code.WrongStructFormat end offset part all on h = (h.0, h.1, on _ h.2)
passed_on D code.NotCanonical end offset part all on h = h
passed_on D code.OutOfMemory end offset part all on h = h

-- what holds at two places holds at two others that are equal
pub subst_both : {A B : Type 0} (P : A → B → Type 0) {a a' : A} {b b' : B} → a ≡ a' → b ≡ b' → P a b → P a' b'
subst_both P {a' = a'} {b = b} p q h = subst (P a') q (subst (λ x. P x b) p h)

-- ---- what was taken

consumes_none : (a b : Option (List ℕ)) → Keeps a b → Consumes a b []
consumes_none None b h = tt
consumes_none (Some xs) None h = absurd h
consumes_none (Some xs) (Some ys) h = sym h

pub took_none : (s : Input) → TookSome s s
took_none s = kept_some s s [] (kept_none s)

pub took_same : {s t : Input} → t ≡ s → TookSome s t
took_same {s = s} is = subst (TookSome s) (sym is) (took_none s)

-- a byte at the least was taken, and then more
pub advances_some : (s m t : Input) → Advances s m → TookSome m t → Advances s t
advances_some s m t first more = record { further = omega (arith, first.further, more.count); counted = first.counted }

-- where nothing was taken
pub took_stays : (s t : Input) → Stays s t → TookSome s t
took_stays s t h = record { some = []; bytes = consumes_none s.to_come t.to_come h.bytes; count = omega (arith, h.count); room = h.room }

-- ---- steps

-- a step changes nothing of the limits
pub same_limits : (s t : Input) (bs rest : List ℕ) → t.room ≡ s.room → t.offset + length rest ≡ s.offset + length bs → limits t rest ≡ limits s bs
same_limits s t bs rest room total = ap₂ (λ (n : ℕ) (r : Option ℕ). record { total = n; room = r }) total room

pub step_same : (s : Input) (P : Limits → List ℕ → List ℕ → Type 0) → ((l : Limits) (bs : List ℕ) → P l bs bs) → Step s s P
step_same s P holds = record {
  took = took_none s;
  reported = λ bs reports. record { rest = bs; reports = reports; total = refl; holds = holds (limits s bs) bs };
}

pub step_map : (s t : Input) (P Q : Limits → List ℕ → List ℕ → Type 0) → ((l : Limits) (bs rest : List ℕ) → P l bs rest → Q l bs rest) → Step s t P → Step s t Q
step_map s t P Q f h = record {
  took = h.took;
  reported = λ bs reports.
      let one = h.reported bs reports in
      record { rest = one.rest; reports = one.reports; total = one.total; holds = f (limits s bs) bs one.rest one.holds };
}

pub step_then : (s t u : Input) (P Q W : Limits → List ℕ → List ℕ → Type 0) → ((l : Limits) (bs mid rest : List ℕ) → P l bs mid → Q l mid rest → W l bs rest) → Step s t P → Step t u Q → Step s u W
step_then s t u P Q W f h k = record {
  took = some_then s t u h.took k.took;
  reported = λ bs reports.
      let one = h.reported bs reports in
      let two = k.reported one.rest one.reports in
      let same = same_limits s t bs one.rest h.took.room one.total in
      record {
        rest = two.rest;
        reports = two.reports;
        total = two.total ∙ one.total;
        holds = f (limits s bs) bs one.rest two.rest one.holds (subst (λ (l : Limits). Q l one.rest two.rest) same two.holds);
      };
}

-- what stops after a step stops the whole
pub stops_then : {A B : Type 0} (allowed : ReadErrorCode → Bool) (read : Limits → List ℕ → Reads A) (read' : Limits → List ℕ → Reads B) (s t : Input) (e : ReadError) (P : Limits → List ℕ → List ℕ → Type 0)
    → ((bs mid : List ℕ) (f : Fault) → P (limits s bs) bs mid → read (limits s bs) mid ≡ Err f → read' (limits s bs) bs ≡ Err f) → Step s t P → Stops allowed read t e → Stops allowed read' s e
stops_then allowed read read' s t e P on h k = record {
  reported = λ bs reports.
      let one = h.reported bs reports in
      let same = same_limits s t bs one.rest h.took.room one.total in
      let D = ReportsIo allowed in
      let c = error_code (why e) in
      let fails = k.reported one.rest one.reports in
      let total = subst (λ (n : ℕ). FailsBy D c n (place e) (read (limits t one.rest) one.rest)) one.total fails in
      let here = subst (λ (l : Limits). FailsBy D c (s.offset + length bs) (place e) (read l one.rest)) same total in
      passed_on D c (s.offset + length bs) (place e) (read (limits s bs) one.rest) (read' (limits s bs) bs) (λ f. on bs one.rest f one.holds) here;
}

stops_at : {A B : Type 0} (allowed : ReadErrorCode → Bool) (read : Limits → List ℕ → Reads A) (read' : Limits → List ℕ → Reads B) (s : Input) (e : ReadError)
    → ((bs : List ℕ) (f : Fault) → read (limits s bs) bs ≡ Err f → read' (limits s bs) bs ≡ Err f) → Stops allowed read s e → Stops allowed read' s e
stops_at allowed read read' s e on h = record {
  reported = λ bs reports.
      passed_on (ReportsIo allowed) (error_code (why e)) (s.offset + length bs) (place e) (read (limits s bs) bs) (read' (limits s bs) bs) (on bs) (h.reported bs reports);
}

-- what is kept is kept on the way out
kept_on : {A B : Type 0} (allowed : ReadErrorCode → Bool) (read : Limits → List ℕ → Reads A) (read' : Limits → List ℕ → Reads B) (s t : Input) (kept : ReadError) (r : Reason)
    → ((e : ReadError) → Stops allowed read t e → Stops allowed read' s e) → ReportsWhy allowed read t kept r → ReportsWhy allowed read' s kept r
kept_on allowed read read' s t kept refused.OutOfMemory on h = tt
kept_on allowed read read' s t kept refused.Kept on h = on kept h

-- what is reported of a part is reported of the whole
pub why_then : {A B : Type 0} (allowed : ReadErrorCode → Bool) (read : Limits → List ℕ → Reads A) (read' : Limits → List ℕ → Reads B) (s t : Input) (kept : ReadError) (r : Reason) (P : Limits → List ℕ → List ℕ → Type 0)
    → ((l : Limits) (bs mid : List ℕ) (f : Fault) → P l bs mid → read l mid ≡ Err f → read' l bs ≡ Err f) → Step s t P → ReportsWhy allowed read t kept r → ReportsWhy allowed read' s kept r
why_then allowed read read' s t kept r P on step = kept_on allowed read read' s t kept r (λ e. stops_then allowed read read' s t e P (λ bs. on (limits s bs) bs) step)

pub why_map : {A B : Type 0} (allowed : ReadErrorCode → Bool) (read : Limits → List ℕ → Reads A) (read' : Limits → List ℕ → Reads B) (s : Input) (kept : ReadError) (r : Reason)
    → ((l : Limits) (bs : List ℕ) (f : Fault) → read l bs ≡ Err f → read' l bs ≡ Err f) → ReportsWhy allowed read s kept r → ReportsWhy allowed read' s kept r
why_map allowed read read' s kept r on = kept_on allowed read read' s s kept r (λ e. stops_at allowed read read' s e (λ bs. on (limits s bs) bs))

pub stopped_then : {A B : Type 0} {u : Input} (allowed : ReadErrorCode → Bool) (read : Limits → List ℕ → Reads A) (read' : Limits → List ℕ → Reads B) (s t : Input) (kept : ReadError) (r : Reason) (P : Limits → List ℕ → List ℕ → Type 0)
    → ((l : Limits) (bs mid : List ℕ) (f : Fault) → P l bs mid → read l mid ≡ Err f → read' l bs ≡ Err f) → Step s t P → Stopped allowed read t u kept r → Stopped allowed read' s u kept r
stopped_then {u = u} allowed read read' s t kept r P on step h = record {
  took = some_then s t u step.took h.took;
  reported = why_then allowed read read' s t kept r P on step h.reported;
}

-- readings that are compared at these limits alone
pub stopped_at : {A B : Type 0} {t : Input} (allowed : ReadErrorCode → Bool) (read : Limits → List ℕ → Reads A) (read' : Limits → List ℕ → Reads B) (s : Input) (kept : ReadError) (r : Reason)
    → ((bs : List ℕ) (f : Fault) → read (limits s bs) bs ≡ Err f → read' (limits s bs) bs ≡ Err f) → Stopped allowed read s t kept r → Stopped allowed read' s t kept r
stopped_at allowed read read' s kept r on h = record {
  took = h.took;
  reported = kept_on allowed read read' s s kept r (λ e. stops_at allowed read read' s e on) h.reported;
}

-- the same at all limits
pub stopped_map : {A B : Type 0} {t : Input} (allowed : ReadErrorCode → Bool) (read : Limits → List ℕ → Reads A) (read' : Limits → List ℕ → Reads B) (s : Input) (kept : ReadError) (r : Reason)
    → ((l : Limits) (bs : List ℕ) (f : Fault) → read l bs ≡ Err f → read' l bs ≡ Err f) → Stopped allowed read s t kept r → Stopped allowed read' s t kept r
stopped_map allowed read read' s kept r on = stopped_at allowed read read' s kept r (λ bs. on (limits s bs) bs)

-- memory ran out after some bytes
pub memory_stops : {A : Type 0} {allowed : ReadErrorCode → Bool} {read : Limits → List ℕ → Reads A} {s t : Input} {kept : ReadError} (r : Reason) → r ≡ refused.OutOfMemory → TookSome s t → Stopped allowed read s t kept r
memory_stops refused.OutOfMemory is took = record { took = took; reported = tt }
memory_stops refused.Kept is took = absurd cc

-- a reading after a step, which is the rest of another at these limits
pub gives_at : {X A : Type 0} (allowed : ReadErrorCode → Bool) (view : X → A) (read read' : Limits → List ℕ → Reads A) (s t u : Input) (kept : ReadError) (r : Result X Reason) (P : Limits → List ℕ → List ℕ → Type 0)
    → ((bs mid : List ℕ) → P (limits s bs) bs mid → read' (limits s bs) bs ≡ read (limits s bs) mid) → Step s t P → Gives allowed view read t u kept r → Gives allowed view read' s u kept r
gives_at allowed view read read' s t u kept (Ok x) P same h k = record {
  took = some_then s t u h.took k.took;
  reported = λ bs reports.
      let one = h.reported bs reports in
      let two = k.reported one.rest one.reports in
      let limits_same = same_limits s t bs one.rest h.took.room one.total in
      record {
        rest = two.rest;
        reports = two.reports;
        total = two.total ∙ one.total;
        holds = same bs one.rest one.holds ∙ subst (λ (l : Limits). read l one.rest ≡ Ok (view x, two.rest)) limits_same two.holds;
      };
}
gives_at allowed view read read' s t u kept (Err r) P same h k = record {
  took = some_then s t u h.took k.took;
  reported = kept_on allowed read read' s t kept r (λ e. stops_then allowed read read' s t e P (λ bs mid f p is. same bs mid p ∙ is) h) k.reported;
}

-- the same at all limits
pub gives_then : {X A : Type 0} (allowed : ReadErrorCode → Bool) (view : X → A) (read read' : Limits → List ℕ → Reads A) (s t u : Input) (kept : ReadError) (r : Result X Reason) (P : Limits → List ℕ → List ℕ → Type 0)
    → ((l : Limits) (bs mid : List ℕ) → P l bs mid → read' l bs ≡ read l mid) → Step s t P → Gives allowed view read t u kept r → Gives allowed view read' s u kept r
gives_then allowed view read read' s t u kept r P same h k = gives_at allowed view read read' s t u kept r P (λ bs. same (limits s bs) bs) h k

pub gives_map : {X A : Type 0} (allowed : ReadErrorCode → Bool) (view : X → A) (read read' : Limits → List ℕ → Reads A) (s t : Input) (kept : ReadError) (r : Result X Reason)
    → ((l : Limits) (bs : List ℕ) → read' l bs ≡ read l bs) → Gives allowed view read s t kept r → Gives allowed view read' s t kept r
gives_map allowed view read read' s t kept (Ok x) same h = step_map s t (λ l bs rest. read l bs ≡ Ok (view x, rest)) (λ l bs rest. read' l bs ≡ Ok (view x, rest)) (λ l bs rest is. same l bs ∙ is) h
gives_map allowed view read read' s t kept (Err r) same h = stopped_map allowed read read' s kept r (λ l bs f is. same l bs ∙ is) h

-- what is read is seen otherwise
pub gives_seen : {X A B : Type 0} (allowed : ReadErrorCode → Bool) (view : X → A) (view' : X → B) (read : Limits → List ℕ → Reads A) (read' : Limits → List ℕ → Reads B) (s t : Input) (kept : ReadError) (r : Result X Reason)
    → ((l : Limits) (bs rest : List ℕ) (x : X) → read l bs ≡ Ok (view x, rest) → read' l bs ≡ Ok (view' x, rest)) → ((l : Limits) (bs : List ℕ) (f : Fault) → read l bs ≡ Err f → read' l bs ≡ Err f)
    → Gives allowed view read s t kept r → Gives allowed view' read' s t kept r
gives_seen allowed view view' read read' s t kept (Ok x) seen on h = step_map s t (λ l bs rest. read l bs ≡ Ok (view x, rest)) (λ l bs rest. read' l bs ≡ Ok (view' x, rest)) (λ l bs rest. seen l bs rest x) h
gives_seen allowed view view' read read' s t kept (Err r) seen on h = stopped_map allowed read read' s kept r on h

-- ---- calls of a source

-- bytes were taken from a source that reports bs
record Taken (b : Option (List ℕ)) (p bs : List ℕ) : Type 0 where
  rest : List ℕ
  is : b ≡ Some rest
  parts : bs ≡ p ++ rest

taken : (a b : Option (List ℕ)) (p bs : List ℕ) → a ≡ Some bs → Consumes a b p → Taken b p bs
taken None b p bs e h = absurd cc
taken (Some xs) None p bs e h = absurd h
taken (Some xs) (Some ys) p bs e h = record { rest = ys; is = refl; parts = some_is bs xs (sym e) ∙ h }
  where
    some_is : (x y : List ℕ) → Some x ≡ Some y → x ≡ y
    some_is x y e = cc

-- what was taken, seen as a step
pub taken_step : (s t : Input) (p : List ℕ) → Consumes s.to_come t.to_come p → t.offset ≡ s.offset + length p → t.room ≡ s.room → Step s t (λ l bs rest. bs ≡ p ++ rest)
taken_step s t p h count room = record {
  took = record { some = p; bytes = h; count = count; room = room };
  reported = λ bs reports.
      let got = taken s.to_come t.to_come p bs reports.is h in
      let total : t.offset + length got.rest ≡ s.offset + length bs = omega (arith, count, ap length got.parts, length-append p got.rest) in
      record { rest = got.rest; reports = record { is = got.is; short = omega (arith, total, reports.short) }; total = total; holds = got.parts };
}

pub kept_step : (s t : Input) (p : List ℕ) → TookKept s t p → Step s t (λ l bs rest. bs ≡ p ++ rest)
kept_step s t p h = taken_step s t p h.bytes h.count h.room

pub none_step : (s t : Input) → Keeps s.to_come t.to_come → t.offset ≡ s.offset → t.room ≡ s.room → Step s t (λ l bs rest. bs ≡ rest)
none_step s t h count room =
    taken_step s t [] (consumes_none s.to_come t.to_come h) (omega (arith, count)) room

-- too few bytes are to come
few : (s : Input) (n at : ℕ) (bs : List ℕ) → s.to_come ≡ Some bs → TooFew s n at → (length bs < n) × (at ≡ s.offset + length bs)
few s n at bs is h = subst (λ (o : Option (List ℕ)). IfSome o (λ bs. (length bs < n) × (at ≡ s.offset + length bs))) is h

-- a source that reports fewer than 2^64 bytes isn't at its limit
no_limit : (s t : Input) (at : ℕ) (bs : List ℕ) → Reports s bs → TookSome s t → AtLimit t at → ⊥
no_limit s t at bs reports moved h =
    let got = taken s.to_come t.to_come moved.some bs reports.is moved.bytes in
    let more = subst (λ (o : Option (List ℕ)). IfSome o (λ bs. bs ≢ [])) got.is h.2 in
    not_empty got.rest more (omega (arith, reports.short, moved.count, h.1, ap length got.parts, length-append moved.some got.rest))
  where
    not_empty : (bs : List ℕ) → bs ≢ [] → length bs ≡ 0 → ⊥
    not_empty [] more none = more refl
    not_empty (b ∷ bs) more none = absurd (omega arith)

-- how a call of a source is refused stops any reading, but for the end of input
refused_by : {A : Type 0} (allowed : ReadErrorCode → Bool) (s t : Input) (n : ℕ) (k : ReadErrorCode) (at : ℕ) (read : Result A Fault) (bs : List ℕ) → Reports s bs → (length bs < n → read ≡ Err ended)
    → allowed k ≡ true → IsOfSource k → k ≢ reading.ScratchTooSmall → (HasNoPlace k → at ≡ 0) → (k ≡ reading.EofWhileParsingValue → TooFew s n at) → (k ≡ reading.LengthOutOfRange → ⊥) → FailsBy (ReportsIo allowed) (error_code k) (s.offset + length bs) at read
refused_by allowed s t n (reading.Io fault) at read bs reports end ok kind room nowhere ends limit = ((fault, ok), nowhere tt)
refused_by allowed s t n reading.ScratchTooSmall at read bs reports end ok kind room nowhere ends limit = absurd (room refl)
refused_by allowed s t n reading.EofWhileParsingValue at read bs reports end ok kind room nowhere ends limit =
    let h = few s n at bs reports.is (ends refl) in
    (0, omega (arith, h.1), end h.0)
refused_by allowed s t n reading.EofWhileParsingArray at read bs reports end ok kind room nowhere ends limit = absurd kind
refused_by allowed s t n reading.EofWhileParsingMap at read bs reports end ok kind room nowhere ends limit = absurd kind
refused_by allowed s t n reading.LengthOutOfRange at read bs reports end ok kind room nowhere ends limit = absurd (limit refl)
refused_by allowed s t n reading.InvalidUtf8 at read bs reports end ok kind room nowhere ends limit = absurd kind
refused_by allowed s t n reading.UnassignedCode at read bs reports end ok kind room nowhere ends limit = absurd kind
refused_by allowed s t n reading.UnexpectedCode at read bs reports end ok kind room nowhere ends limit = absurd kind
refused_by allowed s t n reading.TrailingData at read bs reports end ok kind room nowhere ends limit = absurd kind
refused_by allowed s t n reading.RecursionLimitExceeded at read bs reports end ok kind room nowhere ends limit = absurd kind
refused_by allowed s t n reading.WrongStructFormat at read bs reports end ok kind room nowhere ends limit = absurd kind
refused_by allowed s t n reading.OutOfMemory at read bs reports end ok kind room nowhere ends limit = nowhere tt

pub refused_stops : {A : Type 0} (allowed : ReadErrorCode → Bool) (s t : Input) (n : ℕ) (e : ReadError) (read : Limits → List ℕ → Reads A) → ((l : Limits) (bs : List ℕ) → length bs < n → read l bs ≡ Err ended) → why e ≢ reading.ScratchTooSmall → RefusedCall allowed s t n e → Stops allowed read s e
refused_stops allowed s t n e read end room h = record {
  reported = λ bs reports.
      refused_by allowed s t n (why e) (place e) (read (limits s bs) bs) bs reports (end (limits s bs) bs) h.code h.kind room h.nowhere h.ended (λ q. no_limit s t (place e) bs reports h.moved (h.limit q));
}

pub byte_refused : {A : Type 0} (allowed : ReadErrorCode → Bool) (s t : Input) (e : ReadError) (read : Limits → List ℕ → Reads A) → RefusedByte allowed s t e → Stops allowed read s e
byte_refused allowed s t e read h = refused_stops allowed s t 0 e read (λ l bs short. absurd (omega arith)) h.room h.refused

-- the end was met, where this reading stops
pub at_end : (s : Input) (bs : List ℕ) → Reports s bs → IfSome s.to_come (λ bs. bs ≡ []) → bs ≡ []
at_end s bs reports h = subst (λ (o : Option (List ℕ)). IfSome o (λ bs. bs ≡ [])) reports.is h

-- a head that is read as another is
pub head_map : (allowed : ReadErrorCode → Bool) (read read' : List ℕ → Reads (HeadWidth × Head)) (s t : Input) (kept : ReadError) (r : Result Head Reason)
    → ((bs : List ℕ) → read' bs ≡ read bs) → HeadGives allowed read s t kept r → HeadGives allowed read' s t kept r
head_map allowed read read' s t kept (Ok h) same given = step_map s t (λ l bs rest. (w : HeadWidth) × (read bs ≡ Ok ((w, h), rest))) (λ l bs rest. (w : HeadWidth) × (read' bs ≡ Ok ((w, h), rest))) (λ l bs rest is. (is.0, same bs ∙ is.1)) given
head_map allowed read read' s t kept (Err r) same given = stopped_map allowed (λ l. read) (λ l. read') s kept r (λ l bs f is. same bs ∙ is) given
