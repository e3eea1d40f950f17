-- How an enum begins.
use Rattle.std.proofs.Common.{◌≡◌, ◌∙◌, ◌/◌, ◌%◌, ◌<◌, ◌≤◌, ℕ, zero, suc, Bool, true, false, cond, eqb, ltb, List, [], ◌∷◌, Some, None, Ok, Err, refl, sym, ap, subst, arith}
use Rattle.std.proofs.lemmas.Bool.{eqb-true, eqb-false, ltb-true, ltb-false}
use Rattle.std.specs.Int.{w16, w32, w64}
use Rattle.cbor_model.specs.Formats.{Formats}
use Rattle.cbor_model.specs.Head.{HeadWidth, no_bytes, one_byte, two_bytes, four_bytes, eight_bytes}
use Rattle.cbor_model.specs.Major.{major_of}
use Rattle.cbor_model.specs.Raw.{Raw}
use Rattle.cbor_model.specs.Reader.{Fault, Reads, ◌>>=◌, byte_at, number_at, number_behind, width_of, item_at, inside}
use Rattle.cbor_model.proofs.facts.Reader.{ok_is}
use Rattle.cbor_value.specs.declared.Float.TheVariants.{Half, Single, Double}
use Rattle.cbor_decode.specs.Gives.{Limits}
use Rattle.cbor_decode.specs.Heads.{head_at, head_of, number_head, length_head, simple_head, behind_head}
use Rattle.cbor_decode.specs.declared.head.Head.{Head}
use Rattle.cbor_decode.specs.declared.head.Head.TheVariants as head
use Rattle.cbor_decode.specs.declared.cursor.Remaining.TheVariants.{Counted, ToBreak}
use Rattle.cbor_decode_as.specs.Kinds.{kind_of, head_kind}
use Rattle.cbor_decode_as.specs.Kinds as kind
use Rattle.cbor_decode_as.specs.Tags.{begins_tag}
use Rattle.cbor_decode_as.specs.Takes.{raws}
use Rattle.cbor_decode_as.specs.Variants.{HasShape, shape_of}
use Rattle.cbor_decode_as.specs.declared.variant.Shape.{Shape}
use Rattle.cbor_decode_as.specs.declared.variant.Shape.TheVariants as shape
use Rattle.cbor_decode_as.proofs.heads.OfKind.{kinds}
use Rattle.cbor_decode.proofs.facts.Heads.{item_opened}

-- ---- first bytes

abbrev chosen : (x y u z m : Bool) → Shape
chosen x y u z m = cond x shape.Alone (cond y shape.Array (cond u shape.Unassigned (cond z shape.Array (cond m shape.Map shape.Alone))))

pub array_byte : (b : ℕ) → shape_of b ≡ shape.Array → (128 ≤ b) × (b < 160)
array_byte b is = by (ltb b 0x80) (ltb b 0x9c) (ltb b 0x9f) (eqb b 0x9f) (eqb b 0xa1) refl refl refl is
  where
    by : (x y u z m : Bool) → ltb b 0x80 ≡ x → ltb b 0x9c ≡ y → eqb b 0x9f ≡ z → chosen x y u z m ≡ shape.Array → (128 ≤ b) × (b < 160)
    by true y u z m low high last h = absurd cc
    by false true u z m low high last h = (ltb-false b 0x80 low, omega (arith, ltb-true b 0x9c high))
    by false false true z m low high last h = absurd cc
    by false false false true m low high last h = (ltb-false b 0x80 low, omega (arith, eqb-true b 0x9f last))
    by false false false false true low high last h = absurd cc
    by false false false false false low high last h = absurd cc

pub map_byte : (b : ℕ) → shape_of b ≡ shape.Map → b ≡ 0xa1
map_byte b is = by (ltb b 0x80) (ltb b 0x9c) (ltb b 0x9f) (eqb b 0x9f) (eqb b 0xa1) refl is
  where
    by : (x y u z m : Bool) → eqb b 0xa1 ≡ m → chosen x y u z m ≡ shape.Map → b ≡ 0xa1
    by true y u z m one h = absurd cc
    by false true u z m one h = absurd cc
    by false false true z m one h = absurd cc
    by false false false true m one h = absurd cc
    by false false false false true one h = eqb-true b 0xa1 one
    by false false false false false one h = absurd cc

-- neither an array nor a map of one pair
alone_byte : (b : ℕ) → shape_of b ≡ shape.Alone → (128 ≤ b → b < 160 → ⊥) × (b ≡ 0xa1 → ⊥)
alone_byte b is = by (ltb b 0x80) (ltb b 0x9c) (ltb b 0x9f) (eqb b 0x9f) (eqb b 0xa1) refl refl refl refl is
  where
    by : (x y u z m : Bool) → ltb b 0x80 ≡ x → ltb b 0x9f ≡ u → eqb b 0x9f ≡ z → eqb b 0xa1 ≡ m → chosen x y u z m ≡ shape.Alone → (128 ≤ b → b < 160 → ⊥) × (b ≡ 0xa1 → ⊥)
    by true y u z m low high last one h = let l = ltb-true b 0x80 low in ((λ from to. absurd (omega (arith, l, from))), (λ e. absurd (omega (arith, l, e))))
    by false true u z m low high last one h = absurd cc
    by false false true z m low high last one h = absurd cc
    by false false false true m low high last one h = absurd cc
    by false false false false true low high last one h = absurd cc
    by false false false false false low high last one h =
        let least = ltb-false b 0x9f high in
        let other = eqb-false b 0x9f last in
        ((λ from to. other (omega (arith, least, to))), eqb-false b 0xa1 one)

-- no item begins so
pub unassigned_byte : (b : ℕ) → shape_of b ≡ shape.Unassigned → (0x9c ≤ b) × (b < 0x9f)
unassigned_byte b is = by (ltb b 0x80) (ltb b 0x9c) (ltb b 0x9f) (eqb b 0x9f) (eqb b 0xa1) refl refl is
  where
    by : (x y u z m : Bool) → ltb b 0x9c ≡ y → ltb b 0x9f ≡ u → chosen x y u z m ≡ shape.Unassigned → (0x9c ≤ b) × (b < 0x9f)
    by true y u z m low high h = absurd cc
    by false true u z m low high h = absurd cc
    by false false true z m low high h = (ltb-false b 0x9c low, ltb-true b 0x9f high)
    by false false false true m low high h = absurd cc
    by false false false false true low high h = absurd cc
    by false false false false false low high h = absurd cc

-- no tag's first byte
other_byte : (b : ℕ) → begins_tag b ≡ false → 0xc0 ≤ b → b < 0xe0 → 28 ≤ b % 32
other_byte b is from to = by (ltb b 0xc0) (ltb b 0xdc) refl refl is
  where
    by : (x y : Bool) → ltb b 0xc0 ≡ x → ltb b 0xdc ≡ y → cond x false (cond y true false) ≡ false → 28 ≤ b % 32
    by true y low high h = absurd (omega (arith, ltb-true b 0xc0 low, from))
    by false true low high h = absurd cc
    by false false low high h = omega (arith, ltb-false b 0xdc high, from, to)

-- ---- heads

-- neither an array's nor a tag's, nor that of a map of one pair
abbrev pub Plain : HeadWidth → Head → Type 0
Plain w (head.Array r) = ⊥
Plain w (head.Tag n) = ⊥
Plain w (head.Map (Counted n)) = w ≡ no_bytes → n ≡ 1 → ⊥
Plain w _ = Unit {0}

abbrev PlainAt : Reads (HeadWidth × Head) → Type 0
PlainAt read = (w : HeadWidth) (h : Head) (rest : List ℕ) → read ≡ Ok ((w, h), rest) → Plain w h

plain_ok : (w : HeadWidth) (h : Head) (bs : List ℕ) → Plain w h → PlainAt (Ok ((w, h), bs))
plain_ok w h bs p v k rest is = subst (λ (q : HeadWidth × Head). Plain q.0 q.1) (ap (λ (p : (HeadWidth × Head) × List ℕ). p.0) (ok_is ((w, h), bs) ((v, k), rest) is)) p

plain_err : (e : Fault) → PlainAt (Err e)
plain_err e v k rest is = absurd cc

plain_of : {A : Type 0} (read : Reads A) (w : HeadWidth) (make : A → Head) → ((x : A) (rest : List ℕ) → read ≡ Ok (x, rest) → Plain w (make x)) → PlainAt (read >>= (λ x. Ok ((w, make x.0), x.1)))
plain_of (Ok x) w make p = plain_ok w (make x.0) x.1 (p x.0 x.1 refl)
plain_of (Err e) w make p = plain_err e

either : (c : Bool) (x y : Reads (HeadWidth × Head)) → (c ≡ true → PlainAt x) → (c ≡ false → PlainAt y) → PlainAt (cond c x y)
either true x y a b = a refl
either false x y a b = b refl

plain_simple : (low : ℕ) (bs : List ℕ) → PlainAt (simple_head low bs)
unfolding simple_head
plain_simple low bs =
    either (eqb low 20) _ _ (λ _. plain_ok no_bytes (head.Bool false) bs tt) (λ _.
    either (eqb low 21) _ _ (λ _. plain_ok no_bytes (head.Bool true) bs tt) (λ _.
    either (eqb low 22) _ _ (λ _. plain_ok no_bytes head.Null bs tt) (λ _.
    either (eqb low 23) _ _ (λ _. plain_ok no_bytes head.Undefined bs tt) (λ _.
    either (eqb low 25) _ _ (λ _. plain_of (number_at w16 bs) no_bytes (λ n. head.Float (Half n)) (λ x rest e. tt)) (λ _.
    either (eqb low 26) _ _ (λ _. plain_of (number_at w32 bs) no_bytes (λ n. head.Float (Single n)) (λ x rest e. tt)) (λ _.
    either (eqb low 27) _ _ (λ _. plain_of (number_at w64 bs) no_bytes (λ n. head.Float (Double n)) (λ x rest e. tt)) (λ _.
    either (eqb low 31) _ _ (λ _. plain_ok no_bytes head.Break bs tt) (λ _. plain_err _))))))))

plain_number : (make : ℕ → Head) (low : ℕ) (bs : List ℕ) → ((n : ℕ) (rest : List ℕ) → number_behind low bs ≡ Ok (n, rest) → Plain (width_of low) (make n)) → PlainAt (number_head make low bs)
plain_number make low bs = plain_of (number_behind low bs) (width_of low) make

plain_length : (make : ℕ → Head) (h : Head) (low : ℕ) (bs : List ℕ) → ((n : ℕ) (rest : List ℕ) → number_behind low bs ≡ Ok (n, rest) → Plain (width_of low) (make n)) → Plain no_bytes h → PlainAt (length_head make h low bs)
plain_length make h low bs counted other = either (eqb low 31) _ _ (λ _. plain_ok no_bytes h bs other) (λ _. plain_number make low bs counted)

-- the number of a head that has no bytes after it
least_number : (low n : ℕ) (bs rest : List ℕ) → width_of low ≡ no_bytes → number_behind low bs ≡ Ok (n, rest) → n ≡ low
unfolding number_behind
least_number low n bs rest width is = by (ltb low 24) (eqb low 24) (eqb low 25) (eqb low 26) width _ is
  where
    by : (a b c d : Bool) → cond a no_bytes (cond b one_byte (cond c two_bytes (cond d four_bytes eight_bytes))) ≡ no_bytes → (other : Reads ℕ) → cond a (Ok (low, bs)) other ≡ Ok (n, rest) → n ≡ low
    by true b c d w other is = sym (ap (λ (p : ℕ × List ℕ). p.0) (ok_is (low, bs) (n, rest) is))
    by false true c d w other is = absurd cc
    by false false true d w other is = absurd cc
    by false false false true w other is = absurd cc
    by false false false false w other is = absurd cc

-- no number is after such a first byte
no_number : (low n : ℕ) (bs rest : List ℕ) → 28 ≤ low → number_behind low bs ≡ Ok (n, rest) → ⊥
unfolding number_behind
no_number low n bs rest from is = by (ltb low 24) (eqb low 24) (eqb low 25) (eqb low 26) (eqb low 27) refl refl refl refl refl _ _ _ _ _ _ is
  where
    by : (a b c d e : Bool) → ltb low 24 ≡ a → eqb low 24 ≡ b → eqb low 25 ≡ c → eqb low 26 ≡ d → eqb low 27 ≡ e → (x y z u v : Reads ℕ) (f : Fault) → cond a x (cond b y (cond c z (cond d u (cond e v (Err f))))) ≡ Ok (n, rest) → ⊥
    by true b c d e p q r s t x y z u v f is = omega (arith, ltb-true low 24 p, from)
    by false true c d e p q r s t x y z u v f is = omega (arith, eqb-true low 24 q, from)
    by false false true d e p q r s t x y z u v f is = omega (arith, eqb-true low 25 r, from)
    by false false false true e p q r s t x y z u v f is = omega (arith, eqb-true low 26 s, from)
    by false false false false true p q r s t x y z u v f is = omega (arith, eqb-true low 27 t, from)
    by false false false false false p q r s t x y z u v f is = absurd cc

plain_major : (k low : ℕ) (bs : List ℕ) → k < 8 → (k ≡ 4 → ⊥) → (k ≡ 5 → width_of low ≡ no_bytes → (n : ℕ) (rest : List ℕ) → number_behind low bs ≡ Ok (n, rest) → n ≡ 1 → ⊥) → (k ≡ 6 → (n : ℕ) (rest : List ℕ) → number_behind low bs ≡ Ok (n, rest) → ⊥)
    → PlainAt (head_of (major_of k) low bs)
unfolding head_of
plain_major zero low bs below array map tag = plain_number head.Unsigned low bs (λ n rest read. tt)
plain_major (suc zero) low bs below array map tag = plain_number head.Negative low bs (λ n rest read. tt)
plain_major (suc (suc zero)) low bs below array map tag = plain_length (λ n. head.Bytes (Some n)) (head.Bytes None) low bs (λ n rest read. tt) tt
plain_major (suc (suc (suc zero))) low bs below array map tag = plain_length (λ n. head.Text (Some n)) (head.Text None) low bs (λ n rest read. tt) tt
plain_major (suc (suc (suc (suc zero)))) low bs below array map tag = absurd (array refl)
plain_major (suc (suc (suc (suc (suc zero))))) low bs below array map tag = plain_length (λ n. head.Map (Counted n)) (head.Map ToBreak) low bs (λ n rest read width one. map refl width n rest read one) tt
plain_major (suc (suc (suc (suc (suc (suc zero)))))) low bs below array map tag = plain_number head.Tag low bs (λ n rest read. tag refl n rest read)
plain_major (suc (suc (suc (suc (suc (suc (suc zero))))))) low bs below array map tag = plain_simple low bs
plain_major (suc (suc (suc (suc (suc (suc (suc (suc k)))))))) low bs below array map tag = absurd (omega (arith, below))

pub alone_head : (b : ℕ) (bs : List ℕ) → b < 256 → shape_of b ≡ shape.Alone → begins_tag b ≡ false → PlainAt (head_at b bs)
unfolding head_at
alone_head b bs byte is none =
    let alone = alone_byte b is in
    plain_major (b / 32) (b % 32) bs (omega (arith, byte)) (λ e. alone.0 (omega (arith, e)) (omega (arith, e)))
    (λ five width n rest read one. alone.1 (omega (arith, five, least_number (b % 32) n bs rest width read, one)))
    (λ six n rest read. no_number (b % 32) n bs rest (other_byte b none (omega (arith, six)) (omega (arith, six))) read)

-- ---- arrays

pub array_kind_at : (b : ℕ) (bs rest : List ℕ) (w : HeadWidth) (h : Head) → b / 32 ≡ 4 → head_at b bs ≡ Ok ((w, h), rest) → head_kind h ≡ kind.array
unfolding head_at head_of
array_kind_at b bs rest w h four is = by (eqb (b % 32) 31) (number_behind (b % 32) bs) (rw four at is)
  where
    by : (c : Bool) (read : Reads ℕ) → cond {A = Reads (HeadWidth × Head)} c (Ok ((no_bytes, head.Array ToBreak), bs)) (read >>= (λ n. Ok ((width_of (b % 32), head.Array (Counted n.0)), n.1))) ≡ Ok ((w, h), rest) → head_kind h ≡ kind.array
    by true read is = ap (λ (p : (HeadWidth × Head) × List ℕ). head_kind p.0.1) (sym (ok_is _ ((w, h), rest) is))
    by false (Ok n) is = ap (λ (p : (HeadWidth × Head) × List ℕ). head_kind p.0.1) (sym (ok_is _ ((w, h), rest) is))
    by false (Err e) is = absurd cc

-- what is read after a head
pub record Headed (f : Formats) (l : Limits) (levels b : ℕ) (bs : List ℕ) (r : Raw) (rest : List ℕ) : Type 0 where
  pub width : HeadWidth
  pub head : Head
  pub mid : List ℕ
  pub at : head_at b bs ≡ Ok ((width, head), mid)
  pub is : behind_head (raws f l) (inside (raws f l) levels) width head mid ≡ Ok (r, rest)

pub headed : (f : Formats) (l : Limits) (levels b : ℕ) (bs : List ℕ) (r : Raw) (rest : List ℕ) → item_at (raws f l) levels (b ∷ bs) ≡ Ok (r, rest) → Headed f l levels b bs r rest
unfolding byte_at
headed f l levels b bs r rest is = by (head_at b bs) refl (sym (item_opened (raws f l) levels (b ∷ bs)) ∙ is)
  where
    by : (read : Reads (HeadWidth × Head)) → head_at b bs ≡ read → (read >>= (λ h. behind_head (raws f l) (inside (raws f l) levels) h.0.0 h.0.1 h.1)) ≡ Ok (r, rest) → Headed f l levels b bs r rest
    by (Ok x) at is = record { width = x.0.0; head = x.0.1; mid = x.1; at = at; is = is }
    by (Err e) at is = absurd cc

pub array_first : (f : Formats) (l : Limits) (levels b : ℕ) (bs rest : List ℕ) (r : Raw) → shape_of b ≡ shape.Array → item_at (raws f l) levels (b ∷ bs) ≡ Ok (r, rest) → kind_of r ≡ kind.array
array_first f l levels b bs rest r begins is =
    let byte = array_byte b begins in
    let h = headed f l levels b bs r rest is in
    kinds f l (inside (raws f l) levels) h.width h.mid h.head r rest h.is ∙ array_kind_at b bs h.mid h.width h.head (omega (arith, byte)) h.at

unassigned_head : (b : ℕ) (bs rest : List ℕ) (w : HeadWidth) (h : Head) → b / 32 ≡ 4 → 28 ≤ b % 32 → (b % 32 ≡ 31 → ⊥) → head_at b bs ≡ Ok ((w, h), rest) → ⊥
unfolding head_at head_of
unassigned_head b bs rest w h four least other is = by (eqb (b % 32) 31) refl (number_behind (b % 32) bs) refl (rw four at is)
  where
    by : (c : Bool) → eqb (b % 32) 31 ≡ c → (read : Reads ℕ) → number_behind (b % 32) bs ≡ read → cond {A = Reads (HeadWidth × Head)} c (Ok ((no_bytes, head.Array ToBreak), bs)) (read >>= (λ n. Ok ((width_of (b % 32), head.Array (Counted n.0)), n.1))) ≡ Ok ((w, h), rest) → ⊥
    by true last read at is = other (eqb-true (b % 32) 31 last)
    by false last (Ok n) at is = no_number (b % 32) n.0 bs n.1 least at
    by false last (Err e) at is = absurd cc

-- no item begins with such a byte
pub unassigned_first : (f : Formats) (l : Limits) (levels b : ℕ) (bs rest : List ℕ) (r : Raw) → shape_of b ≡ shape.Unassigned → item_at (raws f l) levels (b ∷ bs) ≡ Ok (r, rest) → ⊥
unassigned_first f l levels b bs rest r begins is =
    let byte = unassigned_byte b begins in
    let h = headed f l levels b bs r rest is in
    unassigned_head b bs h.mid h.width h.head (omega (arith, byte)) (omega (arith, byte)) (λ last. omega (arith, byte, last)) h.at

pub map_head_at : (bs : List ℕ) → head_at 0xa1 bs ≡ Ok ((no_bytes, head.Map (Counted 1)), bs)
unfolding head_at head_of number_behind
map_head_at bs = refl

pub map_first : (f : Formats) (l : Limits) (levels b : ℕ) (bs rest : List ℕ) (r : Raw) → shape_of b ≡ shape.Map → item_at (raws f l) levels (b ∷ bs) ≡ Ok (r, rest) → kind_of r ≡ kind.map
map_first f l levels b bs rest r begins is =
    let h = headed f l levels b bs r rest is in
    let here = sym h.at ∙ ap (λ (n : ℕ). head_at n bs) (map_byte b begins) ∙ map_head_at bs in
    kinds f l (inside (raws f l) levels) h.width h.mid h.head r rest h.is
    ∙ ap (λ (p : (HeadWidth × Head) × List ℕ). head_kind p.0.1) (ok_is ((h.width, h.head), h.mid) ((no_bytes, head.Map (Counted 1)), bs) here)

-- an item that begins so is an array
pub array_begins : (f : Formats) (l : Limits) (levels : ℕ) (bs rest : List ℕ) (r : Raw) → HasShape shape.Array bs → item_at (raws f l) levels bs ≡ Ok (r, rest) → kind_of r ≡ kind.array
array_begins f l levels [] rest r begins is = absurd begins
array_begins f l levels (b ∷ bs) rest r begins is = array_first f l levels b bs rest r begins.0 is
