-- What the first byte of an item says, and what is read after a head.
use Rattle.std.proofs.Common.{◌≡◌, ℕ, ◌/◌, ◌%◌, Bool, true, false, cond, eqb, List, Option, Some, None, Result, Ok, Err, refl, sym, ap, ◌∙◌}
use Rattle.std.specs.Int.{w16, w32, w64}
use Rattle.std.proofs.lemmas.Bool.{ne_eqb}
use Rattle.cbor_model.specs.Formats.{Formats}
use Rattle.cbor_model.specs.Head.{HeadWidth, no_bytes}
use Rattle.cbor_model.specs.Major as major
use Rattle.cbor_model.specs.Major.{major_of}
use Rattle.cbor_model.specs.Refusal.{unassigned_code, unexpected_code}
use Rattle.cbor_model.specs.Plain.{Val}
use Rattle.cbor_model.specs.Reader.{Fault, Reads, Reading, ◌>>=◌, before, width_of, number_at, number_behind, with_number, with_length, simple_at, float_at, string_at, string_chunks_at, text_at, text_chunks_at, checked_text, array_at, map_at, tag_at, content_at, after_first}
use Rattle.cbor_io.specs.Head.{major_number}
use Rattle.cbor_io.specs.declared.head.Major.{Major}
use Rattle.cbor_io.specs.declared.head.Major.TheVariants.{UnsignedInteger, NegativeInteger, ByteString, TextString, Array, Map, Tag, Simple}
use Rattle.cbor_value.specs.declared.Float.TheVariants.{Half, Single, Double}
use Rattle.cbor_decode.specs.declared.head.Head.{Head}
use Rattle.cbor_decode.specs.declared.head.Head.TheVariants as head
use Rattle.cbor_decode.specs.declared.cursor.Remaining.TheVariants.{Counted, ToBreak}
use Rattle.cbor_decode.specs.Gives.{Limits, values}
use Rattle.cbor_decode.specs.Heads.{number_head, length_head, simple_head, head_of, head_at, behind_head, after_head}

-- ---- major types

pub is_tag : (m : Major) → (m ≡ Simple → ⊥) → (m ≡ UnsignedInteger → ⊥) → (m ≡ NegativeInteger → ⊥) → (m ≡ ByteString → ⊥) → (m ≡ TextString → ⊥) → (m ≡ Array → ⊥) → (m ≡ Map → ⊥) → major_number m ≡ 6
is_tag UnsignedInteger s u n b t a m = absurd (u refl)
is_tag NegativeInteger s u n b t a m = absurd (n refl)
is_tag ByteString s u n b t a m = absurd (b refl)
is_tag TextString s u n b t a m = absurd (t refl)
is_tag Array s u n b t a m = absurd (a refl)
is_tag Map s u n b t a m = absurd (m refl)
is_tag Tag s u n b t a m = refl
is_tag Simple s u n b t a m = absurd (s refl)

-- ---- first bytes

-- the head that says this number, of a major type but simple
abbrev pub definite_head : Major → ℕ → Head
definite_head UnsignedInteger n = head.Unsigned n
definite_head NegativeInteger n = head.Negative n
definite_head ByteString n = head.Bytes (Some n)
definite_head TextString n = head.Text (Some n)
definite_head Array n = head.Array (Counted n)
definite_head Map n = head.Map (Counted n)
definite_head _ n = head.Tag n

other_head : (t : Major) (low : ℕ) (bs : List ℕ) → (t ≡ Simple → ⊥) → eqb low 31 ≡ false → head_of (major_of (major_number t)) low bs ≡ with_number (λ w n rest. Ok ((w, definite_head t n), rest)) low bs
unfolding head_of
other_head UnsignedInteger low bs other short = refl
other_head NegativeInteger low bs other short = refl
other_head ByteString low bs other short = rw short refl
other_head TextString low bs other short = rw short refl
other_head Array low bs other short = rw short refl
other_head Map low bs other short = rw short refl
other_head Tag low bs other short = refl
other_head Simple low bs other short = absurd (other refl)

module _ (first : ℕ) (bs : List ℕ) where
  pub first_simple : first / 32 ≡ 7 → head_at first bs ≡ simple_head (first % 32) bs
  unfolding head_at head_of
  first_simple is = rw is refl

  pub first_indefinite : first % 32 ≡ 31 → head_at first bs ≡ head_of (major_of (first / 32)) 31 bs
  unfolding head_at
  first_indefinite is = rw is refl

  first_definite : (t : Major) → (t ≡ Simple → ⊥) → (first % 32 ≡ 31 → ⊥) → major_number t ≡ first / 32 → head_at first bs ≡ with_number (λ w n rest. Ok ((w, definite_head t n), rest)) (first % 32) bs
  unfolding head_at
  first_definite t other short major = ap (λ (k : ℕ). head_of (major_of k) (first % 32) bs) (sym major) ∙ other_head t (first % 32) bs other (ne_eqb (first % 32) 31 short)

  pub first_stops : (f : Fault) (t : Major) → (t ≡ Simple → ⊥) → (first % 32 ≡ 31 → ⊥) → major_number t ≡ first / 32 → number_behind (first % 32) bs ≡ Err f → head_at first bs ≡ Err f
  first_stops f t other short major is = first_definite t other short major ∙ rw is refl

  -- a head of this major type
  pub first_is : (rest : List ℕ) (n : ℕ) (t : Major) → (t ≡ Simple → ⊥) → (first % 32 ≡ 31 → ⊥) → major_number t ≡ first / 32 → number_behind (first % 32) bs ≡ Ok (n, rest)
      → (w : HeadWidth) × (head_at first bs ≡ Ok ((w, definite_head t n), rest))
  first_is rest n t other short major number = (width_of (first % 32), first_definite t other short major ∙ rw number refl)

-- ---- what is read after a head

-- a test in the first of two steps
bind_cond : {A B : Type 0} (c : Bool) (x y : Reads A) (f : A × List ℕ → Reads B) (x' y' : Reads B) → x' ≡ (x >>= f) → y' ≡ (y >>= f) → cond c x' y' ≡ (cond c x y >>= f)
bind_cond true x y f x' y' a b = a
bind_cond false x y f x' y' a b = b

bind_bind : {A B C : Type 0} (x : Reads A) (f : A × List ℕ → Reads B) (g : B × List ℕ → Reads C) → (x >>= (λ y. f y >>= g)) ≡ ((x >>= f) >>= g)
bind_bind (Ok x) f g = refl
bind_bind (Err e) f g = refl

abbrev failed : {A : Type 0} → Fault → Result A Fault
failed f = Err f

-- which of two faults
which : {A : Type 0} (c : Bool) (bs : List ℕ) → failed {A = A} (before (cond c unexpected_code unassigned_code) bs) ≡ cond c (Err (before unexpected_code bs)) (Err (before unassigned_code bs))
which true bs = refl
which false bs = refl

module _ {Item Items Pairs : Type 0} (m : Reading Item Items Pairs) (inner : Option (List ℕ → Reads Item)) where
  abbrev behind : (HeadWidth × Head) × List ℕ → Reads Item
  behind h = behind_head m inner h.0.0 h.0.1 h.1

  float_behind : (low : ℕ) (bs : List ℕ) → float_at m low bs ≡ (cond (eqb low 25) (number_at w16 bs >>= (λ n. Ok ((no_bytes, head.Float (Half n.0)), n.1)))
      (cond (eqb low 26) (number_at w32 bs >>= (λ n. Ok ((no_bytes, head.Float (Single n.0)), n.1)))
      (cond (eqb low 27) (number_at w64 bs >>= (λ n. Ok ((no_bytes, head.Float (Double n.0)), n.1)))
      (cond (eqb low 31) (Ok ((no_bytes, head.Break), bs)) (Err (before unassigned_code bs))))) >>= behind)
  unfolding float_at
  float_behind low bs =
      bind_cond (eqb low 25) _ _ behind _ _ (bind_bind (number_at w16 bs) (λ n. Ok ((no_bytes, head.Float (Half n.0)), n.1)) behind)
      (bind_cond (eqb low 26) _ _ behind _ _ (bind_bind (number_at w32 bs) (λ n. Ok ((no_bytes, head.Float (Single n.0)), n.1)) behind)
      (bind_cond (eqb low 27) _ _ behind _ _ (bind_bind (number_at w64 bs) (λ n. Ok ((no_bytes, head.Float (Double n.0)), n.1)) behind)
      (which (eqb low 31) bs ∙ bind_cond (eqb low 31) (Ok ((no_bytes, head.Break), bs)) (Err (before unassigned_code bs)) behind (Err (before unexpected_code bs)) (Err (before unassigned_code bs)) refl refl)))

  simple_behind : (low : ℕ) (bs : List ℕ) → simple_at m low bs ≡ (simple_head low bs >>= behind)
  unfolding simple_at simple_head
  simple_behind low bs =
      bind_cond (eqb low 20) _ _ behind _ _ refl
      (bind_cond (eqb low 21) _ _ behind _ _ refl
      (bind_cond (eqb low 22) _ _ behind _ _ refl
      (bind_cond (eqb low 23) _ _ behind _ _ refl
      (float_behind low bs))))

  numbered_behind : (make : ℕ → Head) (low : ℕ) (bs : List ℕ) → with_number (λ w n bs. behind_head m inner w (make n) bs) low bs ≡ (number_head make low bs >>= behind)
  numbered_behind make low bs = bind_bind (number_behind low bs) (λ n. Ok ((width_of low, make n.0), n.1)) behind

  length_behind : (make : ℕ → Head) (other : Head) (low : ℕ) (bs : List ℕ) → with_length (λ w n bs. behind_head m inner w (make n) bs) (behind_head m inner no_bytes other) low bs ≡ (length_head make other low bs >>= behind)
  length_behind make other low bs = bind_cond (eqb low 31) _ _ behind _ _ refl (numbered_behind make low bs)

  content_behind : (t : major.Major) (low : ℕ) (bs : List ℕ) → content_at m inner t low bs ≡ (head_of t low bs >>= behind)
  unfolding content_at head_of
  content_behind major.unsigned = numbered_behind head.Unsigned
  content_behind major.negative = numbered_behind head.Negative
  content_behind major.bytes = length_behind (λ n. head.Bytes (Some n)) (head.Bytes None)
  content_behind major.text = length_behind (λ n. head.Text (Some n)) (head.Text None)
  content_behind major.array = length_behind (λ n. head.Array (Counted n)) (head.Array ToBreak)
  content_behind major.map = length_behind (λ n. head.Map (Counted n)) (head.Map ToBreak)
  content_behind major.tag = numbered_behind head.Tag
  content_behind major.simple = simple_behind

  -- the item of this first byte is read after its head
  pub first_behind : (b : ℕ) (bs : List ℕ) → after_first m inner b bs ≡ (head_at b bs >>= behind)
  unfolding after_first head_at
  first_behind b bs = content_behind (major_of (b / 32)) (b % 32) bs

-- ---- values

-- of no width is a value's own
pub value_behind : (f : Formats) (l : Limits) (inner : Option (List ℕ → Reads Val)) (w : HeadWidth) (h : Head) (bs : List ℕ) → behind_head (values f l) inner w h bs ≡ after_head f l inner h bs
unfolding string_at string_chunks_at text_at text_chunks_at checked_text array_at map_at tag_at
value_behind f l inner w (head.Unsigned n) bs = refl
value_behind f l inner w (head.Negative n) bs = refl
value_behind f l inner w (head.Bytes (Some n)) bs = refl
value_behind f l inner w (head.Bytes None) bs = refl
value_behind f l inner w (head.Text (Some n)) bs = refl
value_behind f l inner w (head.Text None) bs = refl
value_behind f l inner w (head.Array r) bs = refl
value_behind f l inner w (head.Map r) bs = refl
value_behind f l inner w (head.Tag n) bs = refl
value_behind f l inner w (head.Bool false) bs = refl
value_behind f l inner w (head.Bool true) bs = refl
value_behind f l inner w head.Null bs = refl
value_behind f l inner w head.Undefined bs = refl
value_behind f l inner w (head.Float (Half n)) bs = refl
value_behind f l inner w (head.Float (Single n)) bs = refl
value_behind f l inner w (head.Float (Double n)) bs = refl
value_behind f l inner w head.Break bs = refl

-- the value of this first byte is read after its head
pub value_after : (f : Formats) (l : Limits) (inner : Option (List ℕ → Reads Val)) (b : ℕ) (w : HeadWidth) (h : Head) (bs rest : List ℕ) → head_at b bs ≡ Ok ((w, h), rest) → after_first (values f l) inner b bs ≡ after_head f l inner h rest
value_after f l inner b w h bs rest is = first_behind (values f l) inner b bs ∙ rw is (value_behind f l inner w h rest)

pub value_stops_at : (f : Formats) (l : Limits) (inner : Option (List ℕ → Reads Val)) (b : ℕ) (bs : List ℕ) (d : Fault) → head_at b bs ≡ Err d → after_first (values f l) inner b bs ≡ Err d
value_stops_at f l inner b bs d is = first_behind (values f l) inner b bs ∙ rw is refl
