-- Heads that were taken are spelled so, and heads that are spelled so are taken.
use Rattle.std.proofs.Common.{◌≡◌, ◌⊎◌, inl, inr, ℕ, zero, suc, ◌+◌, ◌*◌, ◌/◌, ◌%◌, ◌<◌, Bool, true, false, cond, eqb, List, [], ◌∷◌, ◌++◌, length, Some, None, Result, Ok, Err, refl, sym, ap, ap₂, subst, ◌∙◌, append_assoc, zero-add, arith}
use Rattle.std.specs.Prelude.{MatchResult}
use Rattle.std.specs.Int.{w16, w32, w64}
use Rattle.std.proofs.lemmas.Bool.{eqb-true, ne_eqb}
use Rattle.cbor_model.specs.Head.{HeadWidth, no_bytes, info, behind, head as first_bytes, limit}
use Rattle.cbor_model.specs.Major.{major_of}
use Rattle.cbor_model.specs.Raw.{AreBytes}
use Rattle.cbor_model.specs.Reader.{Fault, Reads, ◌>>=◌, byte_at, number_at, number_behind, width_of}
use Rattle.cbor_model.proofs.facts.Reader.{ok_is}
use Rattle.cbor_model.proofs.facts.HeadNumbers.{AreBytes-rest, info-below, width_of-info, number_behind_found, number_behind_again, high_of, low_of}
use Rattle.cbor_value.specs.declared.Float.TheVariants.{Half, Single, Double}
use Rattle.cbor_io.specs.declared.error.Error.{Error}
use Rattle.cbor_io.specs.declared.read_error.ReadErrorCode.{ReadErrorCode}
use Rattle.cbor_io.specs.Error.{code_of, offset_of}
use Rattle.cbor_read.specs.Source.{Input}
use Rattle.cbor_decode.specs.Gives.{ReportsIo, Reports}
use Rattle.cbor_decode.specs.Heads.{opening_at, head_at, head_of, number_head, length_head, simple_head}
use Rattle.cbor_decode.specs.declared.cursor.Remaining.{Remaining}
use Rattle.cbor_decode.specs.declared.cursor.Remaining.TheVariants.{Counted, ToBreak}
use Rattle.cbor_decode.specs.declared.head.Head.{Head}
use Rattle.cbor_decode.specs.declared.head.Head.TheVariants as head
use Rattle.cbor_decode_as.specs.Kinds.{head_kind}
use Rattle.cbor_decode_as.specs.Kinds as kind
use Rattle.cbor_decode_as.specs.TaggedHeads.{opened_at, opened_inside}
use Rattle.cbor_decode_as.specs.Takes.{ExcusedBy}
use Rattle.cbor_decode_as.proofs.facts.TaggedHeads.{opened_here, opened_stops, opened_in_tag}
use Rattle.cbor_decode_as.specs.Begins.{TakesBeginning}
use Rattle.cbor_de.specs.HeadsTaken.{parts_head, FitsHead, tag_heads, FitTags, BeginsBy, TookHeads, NoHeads}

-- ---- one head that is read

-- how the head is spelled, of those that hold other items
abbrev pub IsHead : HeadWidth → Head → List ℕ → List ℕ → Type 0
IsHead w (head.Array r) bs rest = FitsHead w r × (bs ≡ parts_head 4 w r ++ rest)
IsHead w (head.Map r) bs rest = FitsHead w r × (bs ≡ parts_head 5 w r ++ rest)
IsHead w (head.Tag n) bs rest = (n < limit w) × (bs ≡ first_bytes 6 w n ++ rest) × AreBytes rest
IsHead w _ bs rest = Unit {0}

abbrev Spelled : List ℕ → Reads (HeadWidth × Head) → Type 0
Spelled bs read = (w : HeadWidth) (h : Head) (rest : List ℕ) → read ≡ Ok ((w, h), rest) → IsHead w h bs rest

module _ (bs : List ℕ) where
  spelled_ok : (w : HeadWidth) (h : Head) (rest : List ℕ) → IsHead w h bs rest → Spelled bs (Ok ((w, h), rest))
  spelled_ok w h rest is v k after e = subst (λ (p : (HeadWidth × Head) × List ℕ). IsHead p.0.0 p.0.1 bs p.1) (ok_is ((w, h), rest) ((v, k), after) e) is

  spelled_err : (e : Fault) → Spelled bs (Err e)
  spelled_err e v k rest is = absurd cc

  spelled_of : {A : Type 0} (read : Reads A) (w : HeadWidth) (make : A → Head) → ((x : A) (rest : List ℕ) → read ≡ Ok (x, rest) → IsHead w (make x) bs rest) → Spelled bs (read >>= (λ x. Ok ((w, make x.0), x.1)))
  spelled_of (Ok x) w make p = spelled_ok w (make x.0) x.1 (p x.0 x.1 refl)
  spelled_of (Err e) w make p = spelled_err e

  either : (c : Bool) (x y : Reads (HeadWidth × Head)) → (c ≡ true → Spelled bs x) → (c ≡ false → Spelled bs y) → Spelled bs (cond c x y)
  either true x y a b = a refl
  either false x y a b = b refl

spelled_simple : (all : List ℕ) (low : ℕ) (bs : List ℕ) → Spelled all (simple_head low bs)
unfolding simple_head
spelled_simple all low bs =
    either all (eqb low 20) _ _ (λ _. spelled_ok all no_bytes (head.Bool false) bs tt) (λ _.
    either all (eqb low 21) _ _ (λ _. spelled_ok all no_bytes (head.Bool true) bs tt) (λ _.
    either all (eqb low 22) _ _ (λ _. spelled_ok all no_bytes head.Null bs tt) (λ _.
    either all (eqb low 23) _ _ (λ _. spelled_ok all no_bytes head.Undefined bs tt) (λ _.
    either all (eqb low 25) _ _ (λ _. spelled_of all (number_at w16 bs) no_bytes (λ n. head.Float (Half n)) (λ x rest e. tt)) (λ _.
    either all (eqb low 26) _ _ (λ _. spelled_of all (number_at w32 bs) no_bytes (λ n. head.Float (Single n)) (λ x rest e. tt)) (λ _.
    either all (eqb low 27) _ _ (λ _. spelled_of all (number_at w64 bs) no_bytes (λ n. head.Float (Double n)) (λ x rest e. tt)) (λ _.
    either all (eqb low 31) _ _ (λ _. spelled_ok all no_bytes head.Break bs tt) (λ _. spelled_err all _))))))))

module _ (b : ℕ) (bs : List ℕ) (fits : AreBytes bs) where
  abbrev low : ℕ
  low = b % 32

  -- a head with a number
  record Numbered (k n : ℕ) (rest : List ℕ) : Type 0 where
    below : n < limit (width_of low)
    spelled : b ∷ bs ≡ first_bytes k (width_of low) n ++ rest
    rest_fits : AreBytes rest

  numbered : (k n : ℕ) (rest : List ℕ) → b / 32 ≡ k → number_behind low bs ≡ Ok (n, rest) → Numbered k n rest
  numbered k n rest major is =
      let got = number_behind_found low bs (n, rest) fits is in
      let is_low = got.is_low in
      let first : b ≡ 32 * k + info (width_of low) n = omega (arith, major, is_low) in
      record { below = got.fits; spelled = ap₂ (λ (x : ℕ) (xs : List ℕ). x ∷ xs) first got.parts; rest_fits = got.rest_fits }

  spelled_number : (make : ℕ → Head) → ((n : ℕ) (rest : List ℕ) → number_behind low bs ≡ Ok (n, rest) → IsHead (width_of low) (make n) (b ∷ bs) rest) → Spelled (b ∷ bs) (number_head make low bs)
  spelled_number make = spelled_of (b ∷ bs) (number_behind low bs) (width_of low) make

  spelled_length : (make : ℕ → Head) (h : Head) → ((n : ℕ) (rest : List ℕ) → number_behind low bs ≡ Ok (n, rest) → IsHead (width_of low) (make n) (b ∷ bs) rest) → (low ≡ 31 → IsHead no_bytes h (b ∷ bs) bs)
      → Spelled (b ∷ bs) (length_head make h low bs)
  spelled_length make h counted indefinite =
      either (b ∷ bs) (eqb low 31) _ _ (λ e. spelled_ok (b ∷ bs) no_bytes h bs (indefinite (eqb-true low 31 e))) (λ _. spelled_number make counted)

  spelled_major : (k : ℕ) → b < 256 → b / 32 ≡ k → Spelled (b ∷ bs) (head_of (major_of k) low bs)
  unfolding head_of
  spelled_major zero byte is = spelled_number head.Unsigned (λ n rest read. tt)
  spelled_major (suc zero) byte is = spelled_number head.Negative (λ n rest read. tt)
  spelled_major (suc (suc zero)) byte is = spelled_length (λ n. head.Bytes (Some n)) (head.Bytes None) (λ n rest read. tt) (λ e. tt)
  spelled_major (suc (suc (suc zero))) byte is = spelled_length (λ n. head.Text (Some n)) (head.Text None) (λ n rest read. tt) (λ e. tt)
  spelled_major (suc (suc (suc (suc zero)))) byte is =
      spelled_length (λ n. head.Array (Counted n)) (head.Array ToBreak)
      (λ n rest read. let got = numbered 4 n rest is read in (got.below, got.spelled))
      (λ e. let first : b ≡ 159 = omega (arith, is, e) in (tt, ap (λ (x : ℕ). x ∷ bs) first))
  spelled_major (suc (suc (suc (suc (suc zero))))) byte is =
      spelled_length (λ n. head.Map (Counted n)) (head.Map ToBreak)
      (λ n rest read. let got = numbered 5 n rest is read in (got.below, got.spelled))
      (λ e. let first : b ≡ 191 = omega (arith, is, e) in (tt, ap (λ (x : ℕ). x ∷ bs) first))
  spelled_major (suc (suc (suc (suc (suc (suc zero)))))) byte is = spelled_number head.Tag (λ n rest read. let got = numbered 6 n rest is read in (got.below, got.spelled, got.rest_fits))
  spelled_major (suc (suc (suc (suc (suc (suc (suc zero))))))) byte is = spelled_simple (b ∷ bs) low bs
  spelled_major (suc (suc (suc (suc (suc (suc (suc (suc k)))))))) byte is = absurd (omega (arith, byte, is))

head_spelled : (bs : List ℕ) → AreBytes bs → Spelled bs (opening_at bs)
unfolding byte_at head_at
head_spelled [] fits w h rest is = absurd cc
head_spelled (b ∷ bs) fits w h rest is = spelled_major b bs (AreBytes-rest b bs fits) (b / 32) (fits 0) refl w h rest is

-- ---- one head that is spelled

module _ (w : HeadWidth) (n : ℕ) (rest : List ℕ) (fits : n < limit w) where
  below : info w n < 28
  below = info-below w n fits

  first_again : (k : ℕ) → opening_at (first_bytes k w n ++ rest) ≡ head_of (major_of k) (info w n) (behind w n ++ rest)
  unfolding byte_at head_at
  first_again k =
      let lt : info w n < 32 = omega (arith, below) in
      ap₂ (λ (m l : ℕ). head_of (major_of m) l (behind w n ++ rest)) (high_of k (info w n) lt) (low_of k (info w n) lt)

  number_again : (make : ℕ → Head) → number_head make (info w n) (behind w n ++ rest) ≡ Ok ((w, make n), rest)
  number_again make =
      ap (λ (read : Reads ℕ). read >>= (λ x. Ok ((width_of (info w n), make x.0), x.1))) (number_behind_again w n rest fits)
      ∙ ap (λ (v : HeadWidth). Ok ((v, make n), rest)) (width_of-info w n fits)

  length_again : (make : ℕ → Head) (h : Head) → length_head make h (info w n) (behind w n ++ rest) ≡ Ok ((w, make n), rest)
  length_again make h =
      let not : eqb (info w n) 31 ≡ false = ne_eqb (info w n) 31 (λ e. omega (arith, below, e)) in
      ap (λ (c : Bool). cond c (Ok ((no_bytes, h), behind w n ++ rest)) (number_head make (info w n) (behind w n ++ rest))) not ∙ number_again make

  array_again : opening_at (first_bytes 4 w n ++ rest) ≡ Ok ((w, head.Array (Counted n)), rest)
  unfolding head_of
  array_again = first_again 4 ∙ length_again (λ n. head.Array (Counted n)) (head.Array ToBreak)

  map_again : opening_at (first_bytes 5 w n ++ rest) ≡ Ok ((w, head.Map (Counted n)), rest)
  unfolding head_of
  map_again = first_again 5 ∙ length_again (λ n. head.Map (Counted n)) (head.Map ToBreak)

  tag_again : opening_at (first_bytes 6 w n ++ rest) ≡ Ok ((w, head.Tag n), rest)
  unfolding head_of
  tag_again = first_again 6 ∙ number_again head.Tag

-- ---- all heads

pub fault_read : {A : Type 0} (read : Reads A) (x : A × List ℕ) (f : Fault) → read ≡ Err f → read ≡ Ok x → ⊥
fault_read (Ok y) x f is other = absurd cc
fault_read (Err g) x f is other = absurd cc

pub tag_or_other : (h : Head) → ((n : ℕ) × (h ≡ head.Tag n)) ⊎ (head_kind h ≡ kind.tag → ⊥)
tag_or_other (head.Unsigned n) = inr (λ e. cc)
tag_or_other (head.Negative n) = inr (λ e. cc)
tag_or_other (head.Bytes n) = inr (λ e. cc)
tag_or_other (head.Text n) = inr (λ e. cc)
tag_or_other (head.Array r) = inr (λ e. cc)
tag_or_other (head.Map r) = inr (λ e. cc)
tag_or_other (head.Tag n) = inl (n, refl)
tag_or_other (head.Bool b) = inr (λ e. cc)
tag_or_other head.Null = inr (λ e. cc)
tag_or_other head.Undefined = inr (λ e. cc)
tag_or_other (head.Float f) = inr (λ e. cc)
tag_or_other head.Break = inr (λ e. cc)

-- heads of one kind, which is that of a major type
pub record IsKind (k : Remaining → Head) (major : ℕ) : Type 0 where
  pub spelled : (w : HeadWidth) (r : Remaining) (bs rest : List ℕ) → IsHead w (k r) bs rest → FitsHead w r × (bs ≡ parts_head major w r ++ rest)
  pub again : (w : HeadWidth) (r : Remaining) (rest : List ℕ) → FitsHead w r → (v : HeadWidth) × (opening_at (parts_head major w r ++ rest) ≡ Ok ((v, k r), rest))
  pub no_tag : (r : Remaining) → head_kind (k r) ≡ kind.tag → ⊥

module _ (k : Remaining → Head) (major : ℕ) (is_kind : IsKind k major) where
  -- what is read one level further in, where a level is left
  abbrev Deeper : ℕ → ℕ → Remaining → List ℕ → List ℕ → Type 0
  Deeper levels left r mid rest = (next : ℕ) × (levels ≡ suc next) × BeginsBy major next left r mid rest

  one_more : (levels left n : ℕ) (w : HeadWidth) (r : Remaining) (bs mid rest : List ℕ) → n < limit w → bs ≡ first_bytes 6 w n ++ mid → Deeper levels left r mid rest → BeginsBy major levels left r bs rest
  one_more levels left n w r bs mid rest fits is deeper =
      let h = deeper.2 in
      let inside = h.inside in
      let level = deeper.1 in
      record {
        tags = (w, n) ∷ h.tags;
        width = h.width;
        tags_fit = (fits, h.tags_fit);
        fits = h.fits;
        spelled = is ∙ ap (λ (x : List ℕ). first_bytes 6 w n ++ x) h.spelled ∙ sym (append_assoc (first_bytes 6 w n) (tag_heads h.tags) (parts_head major h.width r ++ rest));
        inside = omega (arith, inside, level);
      }

  here : (levels left : ℕ) (w : HeadWidth) (r : Remaining) (h : Head) (bs mid rest : List ℕ) → ◌≡◌ {A = (ℕ × Head) × List ℕ} ((levels, h), mid) ((left + 1, k r), rest) → IsHead w h bs mid → BeginsBy major levels left r bs rest
  here levels left w r h bs mid rest same is =
      let at = subst (λ (p : (ℕ × Head) × List ℕ). IsHead w p.0.1 bs p.1) same is in
      let got = is_kind.spelled w r bs rest at in
      record { tags = []; width = w; tags_fit = tt; fits = got.0; spelled = got.1; inside = ap (λ (p : (ℕ × Head) × List ℕ). p.0.0) same ∙ sym (zero-add (left + 1)) }

  step : (levels left : ℕ) (r : Remaining) (bs rest : List ℕ) → AreBytes bs → opened_at levels bs ≡ Ok ((left + 1, k r), rest)
      → ((mid : List ℕ) → AreBytes mid → opened_inside levels mid ≡ Ok ((left + 1, k r), rest) → Deeper levels left r mid rest) → BeginsBy major levels left r bs rest
  step levels left r bs rest fits is deeper = by (opening_at bs) refl
    where
      by : (read : Reads (HeadWidth × Head)) → opening_at bs ≡ read → BeginsBy major levels left r bs rest
      by (Err e) at = absurd (fault_read (opened_at levels bs) ((left + 1, k r), rest) e (opened_stops levels bs e at) is)
      by (Ok ((w, h), mid)) at =
          let spelled = head_spelled bs fits w h mid at in
          elim (tag_or_other h) [
            | inl tag ↦
                let here = subst (λ (x : Head). IsHead w x bs mid) tag.1 spelled in
                let first = subst (λ (x : Head). opening_at bs ≡ Ok ((w, x), mid)) tag.1 at in
                one_more levels left tag.0 w r bs mid rest here.0 here.1 (deeper mid here.2 (sym (opened_in_tag levels tag.0 bs mid w first) ∙ is))
            | inr other ↦ here levels left w r h bs mid rest (ok_is ((levels, h), mid) ((left + 1, k r), rest) (sym (opened_here levels bs mid w h other at) ∙ is)) spelled
          ]

  pub heads_spelled : (levels left : ℕ) (r : Remaining) (bs rest : List ℕ) → AreBytes bs → opened_at levels bs ≡ Ok ((left + 1, k r), rest) → BeginsBy major levels left r bs rest
  heads_spelled zero left r bs rest fits is = step zero left r bs rest fits is (λ mid f e. absurd cc)
  heads_spelled (suc next) left r bs rest fits is = step (suc next) left r bs rest fits is (λ mid f e. (next, refl, heads_spelled next left r mid rest f e))

  again : (tags : List (HeadWidth × ℕ)) (levels left : ℕ) (w : HeadWidth) (r : Remaining) (bs rest : List ℕ) → FitTags tags → FitsHead w r → bs ≡ tag_heads tags ++ (parts_head major w r ++ rest) → levels ≡ length tags + (left + 1)
      → opened_at levels bs ≡ Ok ((left + 1, k r), rest)
  again [] levels left w r bs rest tags fits is inside =
      let first = is_kind.again w r rest fits in
      let level : levels ≡ left + 1 = omega (arith, inside) in
      opened_here levels bs rest first.0 (k r) (is_kind.no_tag r) (ap opening_at is ∙ first.1) ∙ ap (λ (n : ℕ). Ok ((n, k r), rest)) level
  again (t ∷ ts) levels left w r bs rest tags fits is inside =
      let tail = tag_heads ts ++ (parts_head major w r ++ rest) in
      let split : bs ≡ first_bytes 6 t.0 t.1 ++ tail = is ∙ append_assoc (first_bytes 6 t.0 t.1) (tag_heads ts) (parts_head major w r ++ rest) in
      let level : levels ≡ suc (length ts + (left + 1)) = omega (arith, inside) in
      opened_in_tag levels t.1 bs tail t.0 (ap opening_at split ∙ tag_again t.0 t.1 tail tags.0)
      ∙ ap (λ (n : ℕ). opened_inside n tail) level
      ∙ again ts (length ts + (left + 1)) left w r tail rest tags.1 fits refl refl

  pub heads_taken : (refusals : ReadErrorCode → Bool) (levels left : ℕ) (s t : Input) (bytes : List ℕ) (r : Result Remaining Error) → Reports s bytes → AreBytes bytes → TakesBeginning k refusals levels s t left r
      → MatchResult r (TookHeads major levels left s t bytes) (λ e. ExcusedBy (ReportsIo refusals) (code_of e) (offset_of e) ⊎ NoHeads major levels bytes)
  heads_taken refusals levels left s t bytes (Ok remaining) reports fits step =
      let got = step.reported bytes reports in
      record { rest = got.rest; begins = heads_spelled levels left remaining bytes got.rest fits got.holds; reports = got.reports; count = got.total }
  heads_taken refusals levels left s t bytes (Err e) reports fits h = elim (h.reported bytes reports) [
    | inl excused ↦ inl excused
    | inr none ↦ inr (λ deep remaining rest b. none deep remaining rest (again b.tags levels deep b.width remaining bytes rest b.tags_fit b.fits b.spelled b.inside))
  ]

-- ---- arrays, and maps

array_first : (w : HeadWidth) (r : Remaining) (rest : List ℕ) → FitsHead w r → (v : HeadWidth) × (opening_at (parts_head 4 w r ++ rest) ≡ Ok ((v, head.Array r), rest))
unfolding byte_at head_at head_of
array_first w (Counted n) rest fits = (w, array_again w n rest fits)
array_first w ToBreak rest fits = (no_bytes, refl)

map_first : (w : HeadWidth) (r : Remaining) (rest : List ℕ) → FitsHead w r → (v : HeadWidth) × (opening_at (parts_head 5 w r ++ rest) ≡ Ok ((v, head.Map r), rest))
unfolding byte_at head_at head_of
map_first w (Counted n) rest fits = (w, map_again w n rest fits)
map_first w ToBreak rest fits = (no_bytes, refl)

pub arrays : IsKind head.Array 4
arrays = record {
  spelled = λ w r bs rest is. is;
  again = array_first;
  no_tag = λ r e. cc;
}

pub maps : IsKind head.Map 5
maps = record {
  spelled = λ w r bs rest is. is;
  again = map_first;
  no_tag = λ r e. cc;
}
