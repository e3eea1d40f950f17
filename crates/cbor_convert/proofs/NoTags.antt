-- What begins with no tag's first byte is no tag.
use Rattle.std.proofs.Common.{◌≡◌, ◌∙◌, ◌/◌, ◌%◌, ◌<◌, ◌≤◌, ℕ, zero, suc, Bool, true, false, cond, eqb, ltb, List, [], ◌∷◌, Option, Some, None, Ok, Err, refl, sym, ap, subst, arith}
use Rattle.std.proofs.lemmas.Bool.{eqb-true, ltb-true, ltb-false}
use Rattle.std.specs.Int.{w16, w32, w64}
use Rattle.cbor_model.specs.Formats.{Formats}
use Rattle.cbor_model.specs.Head.{HeadWidth, no_bytes}
use Rattle.cbor_model.specs.Major.{major_of}
use Rattle.cbor_model.specs.Raw as raw
use Rattle.cbor_model.specs.Raw.{Raw}
use Rattle.cbor_model.specs.Reader.{Fault, Reads, ◌>>=◌, byte_at, number_at, number_behind, width_of, item_at, item_by, inside, after_first, content_at, tag_at, Reading}
use Rattle.cbor_model.proofs.facts.Reader.{ok_is}
use Rattle.cbor_value.specs.declared.Float.TheVariants.{Half, Single, Double}
use Rattle.cbor_decode.specs.Gives.{Limits}
use Rattle.cbor_decode.specs.Heads.{head_at, head_of, number_head, length_head, simple_head, behind_head}
use Rattle.cbor_decode.specs.declared.head.Head.{Head}
use Rattle.cbor_decode.specs.declared.head.Head.TheVariants as head
use Rattle.cbor_decode.specs.declared.cursor.Remaining.TheVariants.{Counted, ToBreak}
use Rattle.cbor_decode_as.specs.Kinds.{head_kind}
use Rattle.cbor_decode_as.specs.Kinds as kind
use Rattle.cbor_decode_as.specs.Tags.{begins_tag, tag_head_at, tag_behind, entered_at}
use Rattle.cbor_convert.specs.Tagged.{BeginsNoTag}
use Rattle.cbor_decode_as.specs.Takes.{raws}
use Rattle.cbor_decode_as.proofs.facts.Items.{kinds, item_opened}

abbrev NoTagAt : Reads (HeadWidth × Head) → Type 0
NoTagAt read = (w : HeadWidth) (h : Head) (rest : List ℕ) → read ≡ Ok ((w, h), rest) → head_kind h ≡ kind.tag → ⊥

ok_other : (w : HeadWidth) (h : Head) (bs : List ℕ) → (head_kind h ≡ kind.tag → ⊥) → NoTagAt (Ok ((w, h), bs))
ok_other w h bs other v k rest is = subst (λ (q : Head). head_kind q ≡ kind.tag → ⊥) (ap (λ (p : (HeadWidth × Head) × List ℕ). p.0.1) (ok_is ((w, h), bs) ((v, k), rest) is)) other

err_other : (e : Fault) → NoTagAt (Err e)
err_other e v k rest is = absurd cc

made_other : {A : Type 0} (read : Reads A) (w : HeadWidth) (make : A → Head) → ((x : A) (rest : List ℕ) → read ≡ Ok (x, rest) → head_kind (make x) ≡ kind.tag → ⊥) → NoTagAt (read >>= (λ x. Ok ((w, make x.0), x.1)))
made_other (Ok x) w make other = ok_other w (make x.0) x.1 (other x.0 x.1 refl)
made_other (Err e) w make other = err_other e

either : (c : Bool) (x y : Reads (HeadWidth × Head)) → NoTagAt x → NoTagAt y → NoTagAt (cond c x y)
either true x y a b = a
either false x y a b = b

simple_other : (low : ℕ) (bs : List ℕ) → NoTagAt (simple_head low bs)
unfolding simple_head
simple_other low bs =
    either (eqb low 20) _ _ (ok_other no_bytes (head.Bool false) bs (λ e. absurd cc))
    (either (eqb low 21) _ _ (ok_other no_bytes (head.Bool true) bs (λ e. absurd cc))
    (either (eqb low 22) _ _ (ok_other no_bytes head.Null bs (λ e. absurd cc))
    (either (eqb low 23) _ _ (ok_other no_bytes head.Undefined bs (λ e. absurd cc))
    (either (eqb low 25) _ _ (made_other (number_at w16 bs) no_bytes (λ n. head.Float (Half n)) (λ x rest is e. absurd cc))
    (either (eqb low 26) _ _ (made_other (number_at w32 bs) no_bytes (λ n. head.Float (Single n)) (λ x rest is e. absurd cc))
    (either (eqb low 27) _ _ (made_other (number_at w64 bs) no_bytes (λ n. head.Float (Double n)) (λ x rest is e. absurd cc))
    (either (eqb low 31) _ _ (ok_other no_bytes head.Break bs (λ e. absurd cc)) (err_other _))))))))

number_other : (make : ℕ → Head) (low : ℕ) (bs : List ℕ) → ((n : ℕ) (rest : List ℕ) → number_behind low bs ≡ Ok (n, rest) → head_kind (make n) ≡ kind.tag → ⊥) → NoTagAt (number_head make low bs)
number_other make low bs = made_other (number_behind low bs) (width_of low) make

length_other : (make : ℕ → Head) (h : Head) (low : ℕ) (bs : List ℕ) → ((n : ℕ) → head_kind (make n) ≡ kind.tag → ⊥) → (head_kind h ≡ kind.tag → ⊥) → NoTagAt (length_head make h low bs)
length_other make h low bs counted other = either (eqb low 31) _ _ (ok_other no_bytes h bs other) (number_other make low bs (λ n rest is. counted n))

-- no number is after such a first byte
no_number : (low n : ℕ) (bs rest : List ℕ) → 28 ≤ low → number_behind low bs ≡ Ok (n, rest) → ⊥
unfolding number_behind
no_number low n bs rest from is = by (ltb low 24) (eqb low 24) (eqb low 25) (eqb low 26) (eqb low 27) refl refl refl refl refl _ _ _ _ _ _ is
  where
    by : (a b c d e : Bool) → ltb low 24 ≡ a → eqb low 24 ≡ b → eqb low 25 ≡ c → eqb low 26 ≡ d → eqb low 27 ≡ e → (x y z u v : Reads ℕ) (f : Fault) → cond a x (cond b y (cond c z (cond d u (cond e v (Err f))))) ≡ Ok (n, rest) → ⊥
    by true b c d e p q r s t x y z u v f is = omega (arith, ltb-true low 24 p, from)
    by false true c d e p q r s t x y z u v f is = omega (arith, eqb-true low 24 q, from)
    by false false true d e p q r s t x y z u v f is = omega (arith, eqb-true low 25 r, from)
    by false false false true e p q r s t x y z u v f is = omega (arith, eqb-true low 26 s, from)
    by false false false false true p q r s t x y z u v f is = omega (arith, eqb-true low 27 t, from)
    by false false false false false p q r s t x y z u v f is = absurd cc

major_other : (k low : ℕ) (bs : List ℕ) → k < 8 → (k ≡ 6 → 28 ≤ low) → NoTagAt (head_of (major_of k) low bs)
unfolding head_of
major_other zero low bs below tag = number_other head.Unsigned low bs (λ n rest is e. absurd cc)
major_other (suc zero) low bs below tag = number_other head.Negative low bs (λ n rest is e. absurd cc)
major_other (suc (suc zero)) low bs below tag = length_other (λ n. head.Bytes (Some n)) (head.Bytes None) low bs (λ n e. absurd cc) (λ e. absurd cc)
major_other (suc (suc (suc zero))) low bs below tag = length_other (λ n. head.Text (Some n)) (head.Text None) low bs (λ n e. absurd cc) (λ e. absurd cc)
major_other (suc (suc (suc (suc zero)))) low bs below tag = length_other (λ n. head.Array (Counted n)) (head.Array ToBreak) low bs (λ n e. absurd cc) (λ e. absurd cc)
major_other (suc (suc (suc (suc (suc zero))))) low bs below tag = length_other (λ n. head.Map (Counted n)) (head.Map ToBreak) low bs (λ n e. absurd cc) (λ e. absurd cc)
major_other (suc (suc (suc (suc (suc (suc zero)))))) low bs below tag = number_other head.Tag low bs (λ n rest is e. no_number low n bs rest (tag refl) is)
major_other (suc (suc (suc (suc (suc (suc (suc zero))))))) low bs below tag = simple_other low bs
major_other (suc (suc (suc (suc (suc (suc (suc (suc k)))))))) low bs below tag = absurd (omega (arith, below))

other_byte : (b : ℕ) → begins_tag b ≡ false → 0xc0 ≤ b → b < 0xe0 → 28 ≤ b % 32
other_byte b is from to = by (ltb b 0xc0) (ltb b 0xdc) refl refl is
  where
    by : (x y : Bool) → ltb b 0xc0 ≡ x → ltb b 0xdc ≡ y → cond x false (cond y true false) ≡ false → 28 ≤ b % 32
    by true y low high h = absurd (omega (arith, ltb-true b 0xc0 low, from))
    by false true low high h = absurd cc
    by false false low high h = omega (arith, ltb-false b 0xdc high, from, to)

head_other : (b : ℕ) (bs : List ℕ) → b < 256 → begins_tag b ≡ false → NoTagAt (head_at b bs)
unfolding head_at
head_other b bs byte none = major_other (b / 32) (b % 32) bs (omega (arith, byte)) (λ six. other_byte b none (omega (arith, six)) (omega (arith, six)))

-- what is read after a head
record Headed (f : Formats) (l : Limits) (levels b : ℕ) (bs : List ℕ) (r : Raw) (rest : List ℕ) : Type 0 where
  width : HeadWidth
  head : Head
  mid : List ℕ
  at : head_at b bs ≡ Ok ((width, head), mid)
  is : behind_head (raws f l) (inside (raws f l) levels) width head mid ≡ Ok (r, rest)

headed : (f : Formats) (l : Limits) (levels b : ℕ) (bs : List ℕ) (r : Raw) (rest : List ℕ) → item_at (raws f l) levels (b ∷ bs) ≡ Ok (r, rest) → Headed f l levels b bs r rest
unfolding byte_at
headed f l levels b bs r rest is = by (head_at b bs) refl (sym (item_opened (raws f l) levels (b ∷ bs)) ∙ is)
  where
    by : (read : Reads (HeadWidth × Head)) → head_at b bs ≡ read → (read >>= (λ h. behind_head (raws f l) (inside (raws f l) levels) h.0.0 h.0.1 h.1)) ≡ Ok (r, rest) → Headed f l levels b bs r rest
    by (Ok x) at is = record { width = x.0.0; head = x.0.1; mid = x.1; at = at; is = is }
    by (Err e) at is = absurd cc

pub no_tag_item : (f : Formats) (l : Limits) (levels : ℕ) (bs rest : List ℕ) (w : HeadWidth) (n : ℕ) (q : Raw) → BeginsNoTag bs → item_at (raws f l) levels bs ≡ Ok (raw.tag w n q, rest) → ⊥
unfolding byte_at
no_tag_item f l levels [] rest w n q begins is = none_there (sym (item_opened (raws f l) levels []) ∙ is)
  where
    none_there : {e : Fault} → ◌≡◌ {A = Reads Raw} (Err e) (Ok (raw.tag w n q, rest)) → ⊥
    none_there h = absurd cc
no_tag_item f l levels (b ∷ bs) rest w n q begins is =
    let h = headed f l levels b bs (raw.tag w n q) rest is in
    head_other b bs begins.0 begins.1 h.width h.head h.mid h.at
    (sym (kinds f l (inside (raws f l) levels) h.width h.mid h.head (raw.tag w n q) rest h.is))

-- ---- a tag whose head can't be read

pub tag_byte : (b : ℕ) → begins_tag b ≡ true → (b / 32 ≡ 6) × (b % 32 < 28)
tag_byte b is = by (ltb b 0xc0) (ltb b 0xdc) refl refl is
  where
    by : (x y : Bool) → ltb b 0xc0 ≡ x → ltb b 0xdc ≡ y → cond x false (cond y true false) ≡ true → (b / 32 ≡ 6) × (b % 32 < 28)
    by true y low high is = absurd cc
    by false false low high is = absurd cc
    by false true low high is =
        let from = ltb-false b 0xc0 low in
        let to = ltb-true b 0xdc high in
        (omega (arith, from, to), omega (arith, from, to))

module _ {Item Items Pairs : Type 0} (m : Reading Item Items Pairs) where
  pub item_first : (levels b : ℕ) (mid : List ℕ) → item_at m levels (b ∷ mid) ≡ after_first m (inside m levels) b mid
  unfolding item_at item_by byte_at
  item_first zero b mid = refl
  item_first (suc levels) b mid = refl

  pub tag_first : (inner : Option (List ℕ → Reads Item)) (b : ℕ) (mid : List ℕ) → b / 32 ≡ 6 → b % 32 < 28 → after_first m inner b mid ≡ (number_behind (b % 32) mid >>= (λ n. tag_at m inner (width_of (b % 32)) n.0 n.1))
  unfolding after_first content_at
  tag_first inner b mid six low = rw six refl

  not_entered : (levels : ℕ) (w : HeadWidth) (read : Reads ℕ) (e : Fault) → (read >>= (λ n. entered_at levels n.0 n.1)) ≡ Err e → (read >>= (λ n. tag_at m (inside m levels) w n.0 n.1)) ≡ Err e
  unfolding tag_at
  not_entered zero w (Ok x) e is = err (sym (err_is _ e is))
    where
      err_is : (x y : Fault) → ◌≡◌ {A = Reads (Option ℕ)} (Err x) (Err y) → x ≡ y
      err_is x y h = cc

      err : {x y : Fault} → y ≡ x → ◌≡◌ {A = Reads Item} (Err x) (Err y)
      err h = ap (λ (f : Fault). Err f) (sym h)
  not_entered (suc left) w (Ok x) e is = absurd cc
  not_entered levels w (Err f) e is = ap (λ (f : Fault). Err f) (err_is f e is)
    where
      err_is : (x y : Fault) → ◌≡◌ {A = Reads (Option ℕ)} (Err x) (Err y) → x ≡ y
      err_is x y h = cc

  pub tag_stops : (levels : ℕ) (bs : List ℕ) (e : Fault) → tag_head_at levels bs ≡ Err e → item_at m levels bs ≡ Err e
  tag_stops levels [] e is = absurd cc
  tag_stops levels (b ∷ mid) e is = by (begins_tag b) refl is
    where
      by : (t : Bool) → begins_tag b ≡ t → (cond {A = Reads (Option ℕ)} t (Ok (Some b, mid)) (Ok (None, b ∷ mid)) >>= (λ o. tag_behind levels o.0 o.1)) ≡ Err e → item_at m levels (b ∷ mid) ≡ Err e
      by true begins h =
          let byte = tag_byte b begins in
          item_first levels b mid ∙ tag_first (inside m levels) b mid byte.0 byte.1 ∙ not_entered levels (width_of (b % 32)) (number_behind (b % 32) mid) e h
      by false begins h = absurd cc
