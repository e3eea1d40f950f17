-- Of keys that are neither arrays, maps nor tags CTAP2's order is that of the bytes.
use Rattle.std.proofs.Common.{pos, negsuc, ◌≡◌, ◌∙◌, sym, ap, ap₂, refl, arith, ℕ, suc, ◌+◌, ◌*◌, ◌-◌, ◌^◌, ◌<◌, ◌≤◌, Bool, true, false, cond, ltb, leb, List, [], ◌∷◌, ◌++◌, length, nat_cmp, Ordering, Less, Equal, Greater}
use Rattle.std.specs.Cmp.{nat_cmp_is}
use Rattle.std.specs.Ordering.{ordering_then, MatchOrdering}
use Rattle.std.proofs.lemmas.Bool.{cond_both, ltb-true, ltb-false}
use Rattle.std.proofs.lemmas.Cmp.{ranked}
use Rattle.std.proofs.lemmas.List.{length-append}
use Rattle.cbor_model.specs.Canonical.{canonical, canon}
use Rattle.cbor_model.specs.Head.{HeadWidth, no_bytes, one_byte, two_bytes, four_bytes, eight_bytes, limit, info, behind, head, least}
use Rattle.cbor_model.specs.Order.{lex, major_type, magnitude, bool_code, float_code, body, val_cmp}
use Rattle.cbor_model.specs.Plain.{Val, null, bool, integer, float, bytes, text, array, map, tag}
use Rattle.cbor_model.specs.Raw.{half, single, double}
use Rattle.cbor_model.specs.Spelling.{spell}
use Rattle.cbor_model.proofs.facts.HeadNumbers.{high_of}
use Rattle.cbor_model.proofs.facts.Laws.{byte_order}
use Rattle.cbor_model.proofs.facts.Order.{majors_differ, majors_same}
use Rattle.cbor_forms.specs.LengthFirst.{by_length}
use Rattle.cbor_rules.specs.Presets.{IsPlain, TypeFirstIsBytewise}
use Rattle.cbor_rules.specs.Rules.{major}

-- ---- heads

info_least : (n : ℕ) → info (least n) n < 32
info_least n =
    cond_both (ltb n 24) _ _ (λ w. info w n < 32) (λ e. omega (arith, ltb-true n 24 e))
    (λ a. cond_both (ltb n (2 ^ 8)) _ _ (λ w. info w n < 32) (λ e. omega arith)
    (λ b. cond_both (ltb n (2 ^ 16)) _ _ (λ w. info w n < 32) (λ e. omega arith)
    (λ c. cond_both (ltb n (2 ^ 32)) _ _ (λ w. info w n < 32) (λ e. omega arith) (λ d. omega arith))))

-- the major type that a head says
pub head_major : (m n : ℕ) (bs : List ℕ) → major (head m (least n) n ++ bs) ≡ m
head_major m n bs = high_of m (info (least n) n) (info_least n)

-- how many bytes follow the first
abbrev argument_length : HeadWidth → ℕ
argument_length no_bytes = 0
argument_length one_byte = 1
argument_length two_bytes = 2
argument_length four_bytes = 4
argument_length eight_bytes = 8

argument_length-is : (w : HeadWidth) (n : ℕ) → length (behind w n) ≡ argument_length w
argument_length-is no_bytes n = refl
argument_length-is one_byte n = refl
argument_length-is two_bytes n = refl
argument_length-is four_bytes n = refl
argument_length-is eight_bytes n = refl

within : (w : HeadWidth) (n : ℕ) → n < limit w → argument_length (least n) ≤ argument_length w
within w n lt =
    cond_both (ltb n 24) _ _ (λ u. argument_length u ≤ argument_length w) (λ e. omega arith)
    (λ a. cond_both (ltb n (2 ^ 8)) _ _ (λ u. argument_length u ≤ argument_length w) (λ e. one w lt a)
    (λ b. cond_both (ltb n (2 ^ 16)) _ _ (λ u. argument_length u ≤ argument_length w) (λ e. two w lt b)
    (λ c. cond_both (ltb n (2 ^ 32)) _ _ (λ u. argument_length u ≤ argument_length w) (λ e. four w lt c) (λ d. eight w lt d))))
  where
    one : (w : HeadWidth) → n < limit w → ltb n 24 ≡ false → 1 ≤ argument_length w
    one no_bytes lt a = absurd (omega (arith, lt, ltb-false n 24 a))
    one one_byte lt a = omega arith
    one two_bytes lt a = omega arith
    one four_bytes lt a = omega arith
    one eight_bytes lt a = omega arith

    two : (w : HeadWidth) → n < limit w → ltb n (2 ^ 8) ≡ false → 2 ≤ argument_length w
    two no_bytes lt a = absurd (omega (arith, lt, ltb-false n (2 ^ 8) a))
    two one_byte lt a = absurd (omega (arith, lt, ltb-false n (2 ^ 8) a))
    two two_bytes lt a = omega arith
    two four_bytes lt a = omega arith
    two eight_bytes lt a = omega arith

    four : (w : HeadWidth) → n < limit w → ltb n (2 ^ 16) ≡ false → 4 ≤ argument_length w
    four no_bytes lt a = absurd (omega (arith, lt, ltb-false n (2 ^ 16) a))
    four one_byte lt a = absurd (omega (arith, lt, ltb-false n (2 ^ 16) a))
    four two_bytes lt a = absurd (omega (arith, lt, ltb-false n (2 ^ 16) a))
    four four_bytes lt a = omega arith
    four eight_bytes lt a = omega arith

    eight : (w : HeadWidth) → n < limit w → ltb n (2 ^ 32) ≡ false → 8 ≤ argument_length w
    eight no_bytes lt a = absurd (omega (arith, lt, ltb-false n (2 ^ 32) a))
    eight one_byte lt a = absurd (omega (arith, lt, ltb-false n (2 ^ 32) a))
    eight two_bytes lt a = absurd (omega (arith, lt, ltb-false n (2 ^ 32) a))
    eight four_bytes lt a = absurd (omega (arith, lt, ltb-false n (2 ^ 32) a))
    eight eight_bytes lt a = omega arith

most : (n : ℕ) → argument_length (least n) ≤ 8
most n =
    cond_both (ltb n 24) _ _ (λ u. argument_length u ≤ 8) (λ e. omega arith)
    (λ a. cond_both (ltb n (2 ^ 8)) _ _ (λ u. argument_length u ≤ 8) (λ e. omega arith)
    (λ b. cond_both (ltb n (2 ^ 16)) _ _ (λ u. argument_length u ≤ 8) (λ e. omega arith)
    (λ c. cond_both (ltb n (2 ^ 32)) _ _ (λ u. argument_length u ≤ 8) (λ e. omega arith) (λ d. omega arith))))

-- a greater number takes no fewer
argument_length_up : (n m : ℕ) → n ≤ m → argument_length (least n) ≤ argument_length (least m)
argument_length_up n m le =
    let P : HeadWidth → Type 0 = λ (w : HeadWidth). argument_length (least n) ≤ argument_length w in
    cond_both (ltb m 24) _ _ P (λ e. within no_bytes n (omega (arith, le, ltb-true m 24 e)))
    (λ a. cond_both (ltb m (2 ^ 8)) _ _ P (λ e. within one_byte n (omega (arith, le, ltb-true m (2 ^ 8) e)))
    (λ b. cond_both (ltb m (2 ^ 16)) _ _ P (λ e. within two_bytes n (omega (arith, le, ltb-true m (2 ^ 16) e)))
    (λ c. cond_both (ltb m (2 ^ 32)) _ _ P (λ e. within four_bytes n (omega (arith, le, ltb-true m (2 ^ 32) e))) (λ d. most n))))

-- ---- encodings

-- the number that follows the major type in a value's list
abbrev size : Val → ℕ
size null = 22
size (bool b) = bool_code b
size (integer z) = magnitude z
size (float w bits) = float_code w
size (bytes b) = length b
size (text b) = length b
size _ = 0

-- the length of what is encoded of that major type with that number
abbrev len : ℕ → ℕ → ℕ
len k s = cond (leb k 1) (suc (argument_length (least s))) (cond (leb k 3) (suc (argument_length (least s)) + s) (1 + 2 * (s - 24) + 2 * (s - 26)))

len_up : (k s t : ℕ) → s ≤ t → len k s ≤ len k t
len_up k s t le = by (leb k 1) (leb k 3)
  where
    by : (b c : Bool) → cond b (suc (argument_length (least s))) (cond c (suc (argument_length (least s)) + s) (1 + 2 * (s - 24) + 2 * (s - 26))) ≤ cond b (suc (argument_length (least t))) (cond c (suc (argument_length (least t)) + t) (1 + 2 * (t - 24) + 2 * (t - 26)))
    by true c = omega (arith, argument_length_up s t le)
    by false true = omega (arith, argument_length_up s t le, le)
    by false false = omega (arith, le)

len-is : (v : Val) → IsPlain v → length (canon v) ≡ len (major_type v) (size v)
unfolding canon canonical spell
len-is null plain = refl
len-is (bool true) plain = refl
len-is (bool false) plain = refl
len-is (integer (pos n)) plain = ap suc (argument_length-is (least n) n)
len-is (integer (negsuc n)) plain = ap suc (argument_length-is (least n) n)
len-is (float half bits) plain = refl
len-is (float single bits) plain = refl
len-is (float double bits) plain = refl
len-is (bytes b) plain =
    let n = length b in omega (arith, length-append (head 2 (least n) n) b, argument_length-is (least n) n)
len-is (text b) plain =
    let n = length b in omega (arith, length-append (head 3 (least n) n) b, argument_length-is (least n) n)
len-is (array vs) plain = absurd plain
len-is (map ps) plain = absurd plain
len-is (tag n v) plain = absurd plain

pub major-is : (v : Val) → IsPlain v → major (canon v) ≡ major_type v
unfolding canon canonical spell
major-is null plain = refl
major-is (bool true) plain = refl
major-is (bool false) plain = refl
major-is (integer (pos n)) plain = high_of 0 (info (least n) n) (info_least n)
major-is (integer (negsuc n)) plain = high_of 1 (info (least n) n) (info_least n)
major-is (float half bits) plain = refl
major-is (float single bits) plain = refl
major-is (float double bits) plain = refl
major-is (bytes b) plain = head_major 2 (length b) b
major-is (text b) plain = head_major 3 (length b) b
major-is (array vs) plain = absurd plain
major-is (map ps) plain = absurd plain
major-is (tag n v) plain = absurd plain

-- ---- the order

-- what follows the number
abbrev more : Val → List ℕ
more (float w bits) = bits ∷ []
more (bytes b) = b
more (text b) = b
more _ = []

body-is : (v : Val) → IsPlain v → body v ≡ size v ∷ more v
body-is null plain = refl
body-is (bool b) plain = refl
body-is (integer (pos n)) plain = refl
body-is (integer (negsuc n)) plain = refl
body-is (float w bits) plain = refl
body-is (bytes b) plain = refl
body-is (text b) plain = refl
body-is (array vs) plain = absurd plain
body-is (map ps) plain = absurd plain
body-is (tag n v) plain = absurd plain

-- of one major type the number decides first
decides : (a b : Val) → IsPlain a → IsPlain b → major_type a ≡ major_type b → (o : Ordering) → o ≡ nat_cmp (size a) (size b) → val_cmp a b ≡ ordering_then o (lex (more a) (more b))
decides a b plain plain' same o is =
    majors_same a b same
    ∙ ap₂ lex (body-is a plain) (body-is b plain')
    ∙ ap (λ (o : Ordering). ordering_then o (lex (more a) (more b))) (sym is)

-- lengths that go with the numbers change nothing
module _ (la lb sa sb : ℕ) (l : Ordering) (up : sa ≤ sb → la ≤ lb) (down : sb ≤ sa → lb ≤ la) (less : sa < sb → l ≡ Less) (greater : sb < sa → l ≡ Greater) where
  lengths : (o p : Ordering) → MatchOrdering o (la < lb) (la ≡ lb) (lb < la) → MatchOrdering p (sa < sb) (sa ≡ sb) (sb < sa) → ordering_then o l ≡ l
  lengths Equal p is is' = refl
  lengths Less Less is is' = sym (less is')
  lengths Less Equal is is' = absurd (omega (arith, is, down (omega (arith, is'))))
  lengths Less Greater is is' = absurd (omega (arith, is, down (omega (arith, is'))))
  lengths Greater Less is is' = absurd (omega (arith, is, up (omega (arith, is'))))
  lengths Greater Equal is is' = absurd (omega (arith, is, up (omega (arith, is'))))
  lengths Greater Greater is is' = sym (greater is')

module _ (a b : Val) (plain : IsPlain a) (plain' : IsPlain b) (l : Ordering) (is : val_cmp a b ≡ l) where
  lengths_same : major_type a ≡ major_type b → by_length (canon a) (canon b) ≡ ordering_then (nat_cmp (length (canon a)) (length (canon b))) l → by_length (canon a) (canon b) ≡ l
  lengths_same same by =
      let la = length (canon a) in
      let lb = length (canon b) in
      let sa = size a in
      let sb = size b in
      let a-is = len-is a plain in
      let b-is : lb ≡ len (major_type a) sb = len-is b plain' ∙ ap (λ (k : ℕ). len k sb) (sym same) in
      by
      ∙ lengths la lb sa sb l
      (λ le. omega (arith, a-is, b-is, len_up (major_type a) sa sb le))
      (λ le. omega (arith, a-is, b-is, len_up (major_type a) sb sa le))
      (λ lt. sym is ∙ decides a b plain plain' same Less (nat_cmp_is sa sb Less lt))
      (λ lt. sym is ∙ decides a b plain plain' same Greater (nat_cmp_is sa sb Greater lt))
      (nat_cmp la lb) (nat_cmp sa sb) (ranked la lb (nat_cmp la lb) refl) (ranked sa sb (nat_cmp sa sb) refl)

  majors : (o : Ordering) → o ≡ nat_cmp (major_type a) (major_type b) → MatchOrdering o (major_type a < major_type b) (major_type a ≡ major_type b) (major_type b < major_type a) → by_length (canon a) (canon b) ≡ ordering_then (nat_cmp (length (canon a)) (length (canon b))) l → ordering_then o (by_length (canon a) (canon b)) ≡ l
  majors Less o-is ranks by = o-is ∙ majors_differ a b (λ same. omega (arith, ranks, same)) ∙ is
  majors Equal o-is ranks by = lengths_same ranks by
  majors Greater o-is ranks by = o-is ∙ majors_differ a b (λ same. omega (arith, ranks, same)) ∙ is

pub type_first : TypeFirstIsBytewise
type_first a b plain plain' stored stored' held held' =
    let l = lex (canon a) (canon b) in
    ap₂ (λ (x y : ℕ). ordering_then (nat_cmp x y) (by_length (canon a) (canon b))) (major-is a plain) (major-is b plain')
    ∙ majors a b plain plain' l (byte_order a b stored stored' held held')
    (nat_cmp (major_type a) (major_type b)) refl
    (ranked (major_type a) (major_type b) (nat_cmp (major_type a) (major_type b)) refl) refl
