-- What the first byte of an item says of its kind, and of the shape of an enum.
use Rattle.std.proofs.Common.{◌≡◌, ◌∙◌, ◌/◌, ◌%◌, ◌<◌, ◌≤◌, ℕ, zero, suc, Bool, true, false, cond, eqb, ltb, List, Some, None, Ok, Err, refl, sym, ap, arith}
use Rattle.std.proofs.lemmas.Bool.{eqb-true, eqb-false, ltb-true, ltb-false, lt-ltb}
use Rattle.std.specs.Int.{w16, w32, w64}
use Rattle.cbor_model.specs.Head.{HeadWidth, no_bytes, one_byte, two_bytes, four_bytes, eight_bytes}
use Rattle.cbor_model.specs.Major.{Major, major_of}
use Rattle.cbor_model.specs.Major as major
use Rattle.cbor_model.specs.Reader.{Fault, Reads, ◌>>=◌, number_at, number_behind, width_of}
use Rattle.cbor_model.proofs.facts.Reader.{ok_is}
use Rattle.cbor_decode.specs.Heads.{head_of, length_head, simple_head}
use Rattle.cbor_decode.specs.declared.cursor.Remaining.TheVariants.{Counted, ToBreak}
use Rattle.cbor_decode.specs.declared.head.Head.{Head}
use Rattle.cbor_decode.specs.declared.head.Head.TheVariants as head
use Rattle.cbor_decode_as.specs.Kinds.{Kind, head_kind}
use Rattle.cbor_decode_as.specs.Kinds as kind
use Rattle.cbor_decode_as.specs.Variants.{shape_of}

-- ---- heads

-- of which major type a head of this kind is
abbrev pub major_of_kind : Kind → Major
major_of_kind kind.unsigned = major.unsigned
major_of_kind kind.negative = major.negative
major_of_kind kind.bytes = major.bytes
major_of_kind kind.text = major.text
major_of_kind kind.array = major.array
major_of_kind kind.map = major.map
major_of_kind kind.tag = major.tag
major_of_kind k = major.simple

-- a head that is read so is of this major type
abbrev pub IsOf : Major → Reads (HeadWidth × Head) → Type 0
IsOf k read = (w : HeadWidth) (h : Head) (rest : List ℕ) → read ≡ Ok ((w, h), rest) → major_of_kind (head_kind h) ≡ k

is_of : (k : Major) (w : HeadWidth) (h : Head) (bs : List ℕ) → major_of_kind (head_kind h) ≡ k → IsOf k (Ok ((w, h), bs))
is_of k w h bs of v g rest is = ap (λ (p : (HeadWidth × Head) × List ℕ). major_of_kind (head_kind p.0.1)) (sym (ok_is ((w, h), bs) ((v, g), rest) is)) ∙ of

none_of : (k : Major) (e : Fault) → IsOf k (Err e)
none_of k e v g rest is = absurd cc

made_of : (k : Major) (read : Reads ℕ) (w : HeadWidth) (make : ℕ → Head) → ((n : ℕ) → major_of_kind (head_kind (make n)) ≡ k) → IsOf k (read >>= (λ n. Ok ((w, make n.0), n.1)))
made_of k (Ok x) w make of = is_of k w (make x.0) x.1 (of x.0)
made_of k (Err e) w make of = none_of k e

bind_of : (k : Major) (read : Reads ℕ) (g : ℕ × List ℕ → Reads (HeadWidth × Head)) → ((x : ℕ × List ℕ) → IsOf k (g x)) → IsOf k (read >>= g)
bind_of k (Ok x) g of = of x
bind_of k (Err e) g of = none_of k e

either_of : (k : Major) (c : Bool) (x y : Reads (HeadWidth × Head)) → IsOf k x → IsOf k y → IsOf k (cond c x y)
either_of k true x y a b = a
either_of k false x y a b = b

simple_of : (low : ℕ) (bs : List ℕ) → IsOf major.simple (simple_head low bs)
unfolding simple_head
simple_of low bs =
    let k = major.simple in
    either_of k (eqb low 20) _ _ (is_of k no_bytes (head.Bool false) bs refl)
    (either_of k (eqb low 21) _ _ (is_of k no_bytes (head.Bool true) bs refl)
    (either_of k (eqb low 22) _ _ (is_of k no_bytes head.Null bs refl)
    (either_of k (eqb low 23) _ _ (is_of k no_bytes head.Undefined bs refl)
    (either_of k (eqb low 25) _ _ (bind_of k (number_at w16 bs) _ (λ x. is_of k no_bytes _ x.1 refl))
    (either_of k (eqb low 26) _ _ (bind_of k (number_at w32 bs) _ (λ x. is_of k no_bytes _ x.1 refl))
    (either_of k (eqb low 27) _ _ (bind_of k (number_at w64 bs) _ (λ x. is_of k no_bytes _ x.1 refl))
    (either_of k (eqb low 31) _ _ (is_of k no_bytes head.Break bs refl) (none_of k _))))))))

length_of : (k : Major) (make : ℕ → Head) (h : Head) (low : ℕ) (bs : List ℕ) → ((n : ℕ) → major_of_kind (head_kind (make n)) ≡ k) → major_of_kind (head_kind h) ≡ k → IsOf k (length_head make h low bs)
length_of k make h low bs counted other = either_of k (eqb low 31) _ _ (is_of k no_bytes h bs other) (made_of k (number_behind low bs) (width_of low) make counted)

pub head_is : (k : Major) (low : ℕ) (bs : List ℕ) → IsOf k (head_of k low bs)
unfolding head_of
head_is major.unsigned low bs = made_of major.unsigned (number_behind low bs) (width_of low) head.Unsigned (λ n. refl)
head_is major.negative low bs = made_of major.negative (number_behind low bs) (width_of low) head.Negative (λ n. refl)
head_is major.bytes low bs = length_of major.bytes (λ n. head.Bytes (Some n)) (head.Bytes None) low bs (λ n. refl) refl
head_is major.text low bs = length_of major.text (λ n. head.Text (Some n)) (head.Text None) low bs (λ n. refl) refl
head_is major.array low bs = length_of major.array (λ n. head.Array (Counted n)) (head.Array ToBreak) low bs (λ n. refl) refl
head_is major.map low bs = length_of major.map (λ n. head.Map (Counted n)) (head.Map ToBreak) low bs (λ n. refl) refl
head_is major.tag low bs = made_of major.tag (number_behind low bs) (width_of low) head.Tag (λ n. refl)
head_is major.simple low bs = simple_of low bs

-- the number of a head that has no bytes after it
pub least_number : (low n : ℕ) (bs rest : List ℕ) → width_of low ≡ no_bytes → number_behind low bs ≡ Ok (n, rest) → n ≡ low
unfolding number_behind
least_number low n bs rest width is = by (ltb low 24) (eqb low 24) (eqb low 25) (eqb low 26) width _ is
  where
    by : (a b c d : Bool) → cond a no_bytes (cond b one_byte (cond c two_bytes (cond d four_bytes eight_bytes))) ≡ no_bytes → (other : Reads ℕ) → cond a (Ok (low, bs)) other ≡ Ok (n, rest) → n ≡ low
    by true b c d w other is = sym (ap (λ (p : ℕ × List ℕ). p.0) (ok_is (low, bs) (n, rest) is))
    by false true c d w other is = absurd cc
    by false false true d w other is = absurd cc
    by false false false true w other is = absurd cc
    by false false false false w other is = absurd cc

-- no number is after such a first byte
pub no_number : (low n : ℕ) (bs rest : List ℕ) → 28 ≤ low → number_behind low bs ≡ Ok (n, rest) → ⊥
unfolding number_behind
no_number low n bs rest from is = by (ltb low 24) (eqb low 24) (eqb low 25) (eqb low 26) (eqb low 27) refl refl refl refl refl _ _ _ _ _ _ is
  where
    by : (a b c d e : Bool) → ltb low 24 ≡ a → eqb low 24 ≡ b → eqb low 25 ≡ c → eqb low 26 ≡ d → eqb low 27 ≡ e → (x y z u v : Reads ℕ) (f : Fault) → cond a x (cond b y (cond c z (cond d u (cond e v (Err f))))) ≡ Ok (n, rest) → ⊥
    by true b c d e p q r s t x y z u v f is = omega (arith, ltb-true low 24 p, from)
    by false true c d e p q r s t x y z u v f is = omega (arith, eqb-true low 24 q, from)
    by false false true d e p q r s t x y z u v f is = omega (arith, eqb-true low 25 r, from)
    by false false false true e p q r s t x y z u v f is = omega (arith, eqb-true low 26 s, from)
    by false false false false true p q r s t x y z u v f is = omega (arith, eqb-true low 27 t, from)
    by false false false false false p q r s t x y z u v f is = absurd cc

-- ---- first bytes

-- a first byte of these major types begins an identifier alone
abbrev pub IsLow : Major → Type 0
IsLow major.unsigned = Unit {0}
IsLow major.negative = Unit {0}
IsLow major.bytes = Unit {0}
IsLow major.text = Unit {0}
IsLow k = ⊥

pub low_number : (n : ℕ) → IsLow (major_of n) → n < 4
low_number zero low = omega arith
low_number (suc zero) low = omega arith
low_number (suc (suc zero)) low = omega arith
low_number (suc (suc (suc zero))) low = omega arith
low_number (suc (suc (suc (suc zero)))) low = absurd low
low_number (suc (suc (suc (suc (suc zero))))) low = absurd low
low_number (suc (suc (suc (suc (suc (suc zero)))))) low = absurd low
low_number (suc (suc (suc (suc (suc (suc (suc zero))))))) low = absurd low
low_number (suc (suc (suc (suc (suc (suc (suc (suc n)))))))) low = absurd low

pub array_number : (n : ℕ) → major_of n ≡ major.array → n ≡ 4
array_number zero is = absurd cc
array_number (suc zero) is = absurd cc
array_number (suc (suc zero)) is = absurd cc
array_number (suc (suc (suc zero))) is = absurd cc
array_number (suc (suc (suc (suc zero)))) is = refl
array_number (suc (suc (suc (suc (suc zero))))) is = absurd cc
array_number (suc (suc (suc (suc (suc (suc zero)))))) is = absurd cc
array_number (suc (suc (suc (suc (suc (suc (suc zero))))))) is = absurd cc
array_number (suc (suc (suc (suc (suc (suc (suc (suc n)))))))) is = absurd cc

pub map_number : (n : ℕ) → major_of n ≡ major.map → n ≡ 5
map_number zero is = absurd cc
map_number (suc zero) is = absurd cc
map_number (suc (suc zero)) is = absurd cc
map_number (suc (suc (suc zero))) is = absurd cc
map_number (suc (suc (suc (suc zero)))) is = absurd cc
map_number (suc (suc (suc (suc (suc zero))))) is = refl
map_number (suc (suc (suc (suc (suc (suc zero)))))) is = absurd cc
map_number (suc (suc (suc (suc (suc (suc (suc zero))))))) is = absurd cc
map_number (suc (suc (suc (suc (suc (suc (suc (suc n)))))))) is = absurd cc

pub low_shape : (b : ℕ) → b < 128 → shape_of b ≡ shape_of 0
low_shape b low = rw (lt-ltb b 0x80 low) refl

pub array_shape : (b : ℕ) → b / 32 ≡ 4 → (28 ≤ b % 32 → b % 32 ≡ 31) → shape_of b ≡ shape_of 0x80
array_shape b four low = by (shape_of 0) (shape_of 0x80) (shape_of 0x9c) (shape_of 0xa1) (ltb b 0x80) (ltb b 0x9c) (ltb b 0x9f) (eqb b 0x9f) (eqb b 0xa1) refl refl refl refl
  where
    by : {S : Type 0} (alone array none pair : S) (x y u z m : Bool) → ltb b 0x80 ≡ x → ltb b 0x9c ≡ y → ltb b 0x9f ≡ u → eqb b 0x9f ≡ z → cond x alone (cond y array (cond u none (cond z array (cond m pair alone)))) ≡ array
    by alone array none pair true y u z m p q r s = absurd (omega (arith, ltb-true b 0x80 p, four))
    by alone array none pair false true u z m p q r s = refl
    by alone array none pair false false true z m p q r s =
        let least = ltb-false b 0x9c q in
        let below = ltb-true b 0x9f r in
        let last = low (omega (arith, least, below, four)) in
        absurd (omega (arith, below, four, last))
    by alone array none pair false false false true m p q r s = refl
    by alone array none pair false false false false m p q r s =
        let least = ltb-false b 0x9f r in
        absurd (eqb-false b 0x9f s (omega (arith, least, four)))
