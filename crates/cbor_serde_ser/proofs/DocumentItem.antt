-- The document of events is one acceptable item.
use Rattle.std.proofs.Common.{◌≡◌, ◌<◌, ◌+◌, ◌-◌, ◌^◌, ℕ, zero, suc, ℤ, pos, negsuc, List, [], ◌∷◌, ◌++◌, length, Bool, true, false, Option, Some, None, option_and_then, refl, ap, ◌∙◌, subst, sym, arith, append_assoc, append-nil}
use Rattle.std.specs.Prelude.{not, ◌&&◌, ◌==◌, nat_lt, if◌then◌else◌, option_map, is_some, encode_utf8, to_bits}
use Rattle.std.specs.Str.{is_utf8}
use Rattle.std.specs.List.{list_all}
use Rattle.std.specs.Int.{w16, w32, w64, to_be_bytes, from_be_bytes, byte_at, bytes_high_first}
use Rattle.std.specs.Float.{Float, binary32, binary64, round_to_format}
use Rattle.std.proofs.lemmas.Bool.{ltb-true}
use Rattle.std.proofs.lemmas.Str.{IsUtf8-from_is_utf8}
use Rattle.std.proofs.lemmas.Nat.{be_bytes_2, be_bytes_4, be_bytes_8}
use Rattle.cbor_model.specs.Head.{short, least}
use Rattle.std.proofs.Math.Nat.{le-max_left}
use Rattle.cbor_model.specs.Raw.{Raw, Raws, no_raws, raw, count, depth, AreBytes, unsigned, negative, bytes, text, simple, float, half, single, double, false_item, true_item, null_item}
use Rattle.cbor_model.specs.Acceptable.{IsAcceptableWithin}
use Rattle.cbor_model.specs.Spelling.{spell, spell_all}
use Rattle.cbor_model.specs.Canonical.{chunk_of}
use Rattle.cbor_model.specs.Parts.{array_start, map_start, end_of}
use Rattle.serde.specs.Event as event
use Rattle.serde.specs.Spelling.{spelled}
use Rattle.serde.specs.declared.name.NameKind.TheVariants.{Field, Variant}
use Rattle.serde.specs.Event.{Event, Log}
use Rattle.cbor_serde_options.specs.IntegerKeys.{key_number, negative as negative_key, positive, magnitude}
use Rattle.cbor_serde_options.specs.declared.options.Options.{Options}
use Rattle.cbor_serde_ser.specs.declared.level.Level.{Level}
use Rattle.cbor_serde_ser.specs.Floats.{half_of, half_or_single, single_bytes, is_single}
use Rattle.cbor_serde_ser.specs.Document.{State, start, after_item, is_full, item, named, opens, closed, ends, joined, begins, map_opens, is_field, taken, then_taken, step, run, whole, is_empty, left_is_zero, document, is_bytes, is_text, is_count, may_come, string, integer, stored, integer_or_text, name_bytes, IsItem, AreBytesOf}
use Rattle.cbor_serde_ser.proofs.Due.{AreFine, Due}
use Rattle.cbor_serde_ser.proofs.Levels.{levels_left, Completes, took, fits_least, IsCount, fronts, ended_due}

-- What completes what is open makes it one acceptable item.
abbrev Good : State → Type 0
Good s = (bs : List ℕ) → Completes s.outer s.level bs → IsItem (s.bytes ++ bs)

-- ---- tests

and_left : (a b : Bool) → (a && b) ≡ true → a ≡ true
and_left true b e = refl
and_left false b e = absurd cc

and_right : (a b : Bool) → (a && b) ≡ true → b ≡ true
and_right true b e = e
and_right false b e = absurd cc

state_is : (s t : State) → Some s ≡ Some t → s ≡ t
state_is s t e = cc

no_state : {B : Type 0} (t : State) → None ≡ Some t → B
no_state t e = absurd cc

if_true : (b : Bool) (x : Option State) (t : State) → (if b then x else None) ≡ Some t → (b ≡ true) × (x ≡ Some t)
if_true true x t e = (refl, e)
if_true false x t e = no_state t e

if_false : (b : Bool) (x : Option State) (t : State) → (if b then None else x) ≡ Some t → (b ≡ false) × (x ≡ Some t)
if_false true x t e = no_state t e
if_false false x t e = (refl, e)

-- ---- whole items of no depth

record Leaf (bs : List ℕ) : Type 0 where
  pub item : Raw
  pub fine : IsAcceptableWithin 0 item
  pub spelled : bs ≡ spell item

all_bytes : (bs : List ℕ) → list_all (λ b. nat_lt b 256) bs ≡ true → AreBytes bs
all_bytes [] e i = omega arith
all_bytes (b ∷ bs) e zero = ltb-true b 256 (and_left (nat_lt b 256) (list_all (λ b. nat_lt b 256) bs) e)
all_bytes (b ∷ bs) e (suc i) = all_bytes bs (and_right (nat_lt b 256) (list_all (λ b. nat_lt b 256) bs) e) i

short_content : (bs : List ℕ) → is_bytes bs ≡ true → length bs < 2 ^ 64
short_content bs e = ltb-true (length bs) (2 ^ 64) (and_left (nat_lt (length bs) (2 ^ 64)) (list_all (λ b. nat_lt b 256) bs) e)

byte_content : (bs : List ℕ) → is_bytes bs ≡ true → AreBytes bs
byte_content bs e = all_bytes bs (and_right (nat_lt (length bs) (2 ^ 64)) (list_all (λ b. nat_lt b 256) bs) e)

bytes_leaf : (bs : List ℕ) → is_bytes bs ≡ true → Leaf (string 2 bs)
unfolding spell
bytes_leaf bs e = record {
  item = bytes (chunk_of bs);
  fine = record { fits = (fits_least (length bs) (short_content bs e), byte_content bs e); nests = omega arith; texts = tt };
  spelled = refl;
}

text_leaf : (bs : List ℕ) → is_text bs ≡ true → Leaf (string 3 bs)
unfolding spell
text_leaf bs e =
    let is : is_bytes bs ≡ true = and_left (is_bytes bs) (is_utf8 bs) e in
    record {
      item = text (chunk_of bs);
      fine = record { fits = (fits_least (length bs) (short_content bs is), byte_content bs is); nests = omega arith; texts = IsUtf8-from_is_utf8 bs (and_right (is_bytes bs) (is_utf8 bs) e) };
      spelled = refl;
    }

unsigned_leaf : (n : ℕ) → n < 2 ^ 64 → Leaf (short 0 n)
unfolding spell
unsigned_leaf n small = record { item = unsigned (least n) n; fine = record { fits = fits_least n small; nests = omega arith; texts = tt }; spelled = refl }

negative_leaf : (n : ℕ) → n < 2 ^ 64 → Leaf (short 1 n)
unfolding spell
negative_leaf n small = record { item = negative (least n) n; fine = record { fits = fits_least n small; nests = omega arith; texts = tt }; spelled = refl }

-- ---- floats

byte_small : (k n : ℕ) → byte_at k n < 256
byte_small zero n = omega arith
byte_small (suc k) n = omega arith

number_bytes : (k n : ℕ) → AreBytes (bytes_high_first k n)
number_bytes zero n i = omega arith
number_bytes (suc k) n zero = byte_small k n
number_bytes (suc k) n (suc i) = number_bytes k n i

below_2 : (n : ℕ) → from_be_bytes w16 (to_be_bytes w16 n) < 2 ^ 16
below_2 n = omega arith

below_4 : (n : ℕ) → from_be_bytes w32 (to_be_bytes w32 n) < 2 ^ 32
below_4 n = omega arith

below_8 : (n : ℕ) → from_be_bytes w64 (to_be_bytes w64 n) < 2 ^ 64
below_8 n = omega arith

half_leaf : (n : ℕ) → Leaf (0xf9 ∷ to_be_bytes w16 n)
unfolding spell
half_leaf n =
    let m = from_be_bytes w16 (to_be_bytes w16 n) in
    record {
      item = float half m;
      fine = record { fits = below_2 n; nests = omega arith; texts = tt };
      spelled = ap (λ z. 0xf9 ∷ z) (sym (be_bytes_2 (to_be_bytes w16 n) m refl (number_bytes 2 n) refl));
    }

single_leaf : (n : ℕ) → Leaf (0xfa ∷ to_be_bytes w32 n)
unfolding spell
single_leaf n =
    let m = from_be_bytes w32 (to_be_bytes w32 n) in
    record {
      item = float single m;
      fine = record { fits = below_4 n; nests = omega arith; texts = tt };
      spelled = ap (λ z. 0xfa ∷ z) (sym (be_bytes_4 (to_be_bytes w32 n) m refl (number_bytes 4 n) refl));
    }

double_leaf : (n : ℕ) → Leaf (0xfb ∷ to_be_bytes w64 n)
unfolding spell
double_leaf n =
    let m = from_be_bytes w64 (to_be_bytes w64 n) in
    record {
      item = float double m;
      fine = record { fits = below_8 n; nests = omega arith; texts = tt };
      spelled = ap (λ z. 0xfb ∷ z) (sym (be_bytes_8 (to_be_bytes w64 n) m refl (number_bytes 8 n) refl));
    }

half_or_single_leaf : (n : ℕ) (h : Option ℕ) → Leaf (half_or_single n h)
half_or_single_leaf n None = single_leaf n
half_or_single_leaf n (Some h) = half_leaf h

double_bytes_leaf : (b : Bool) (x y : Float) → Leaf (if b then single_bytes true x else (0xfb ∷ to_be_bytes w64 (to_bits binary64 y)))
double_bytes_leaf true x y = half_or_single_leaf (to_bits binary32 x) (half_of (to_bits binary32 x))
double_bytes_leaf false x y = double_leaf (to_bits binary64 y)

-- ---- numbers and names

bytes_are : (a b : List ℕ) → Some a ≡ Some b → a ≡ b
bytes_are a b e = cc

stored_by : (major n : ℕ) (b : Bool) (bs : List ℕ) → nat_lt n (2 ^ 64) ≡ b → (if b then Some (short major n) else None) ≡ Some bs → (n < 2 ^ 64 → Leaf (short major n)) → Leaf bs
stored_by major n true bs is e leaf = subst (λ z. Leaf z) (bytes_are (short major n) bs e) (leaf (ltb-true n (2 ^ 64) is))
stored_by major n false bs is e leaf = absurd cc

stored_leaf : (z : ℤ) (bs : List ℕ) → stored z ≡ Some bs → Leaf bs
stored_leaf (pos n) bs e = stored_by 0 n (nat_lt n (2 ^ 64)) bs refl e (unsigned_leaf n)
stored_leaf (negsuc n) bs e = stored_by 1 n (nat_lt n (2 ^ 64)) bs refl e (negative_leaf n)

integers_are : (a b : ℤ) → Some a ≡ Some b → a ≡ b
integers_are a b e = cc

no_integer : {B : Type 0} (z : ℤ) → None ≡ Some z → B
no_integer z e = absurd cc

positive_by : (n : ℕ) (b : Bool) (z : ℤ) → nat_lt n (2 ^ 64) ≡ b → (if b then Some (pos n) else None) ≡ Some z → Leaf (integer z)
positive_by n true z is e = subst (λ y. Leaf (integer y)) (integers_are (pos n) z e) (unsigned_leaf n (ltb-true n (2 ^ 64) is))
positive_by n false z is e = no_integer z e

negative_by : (n : ℕ) (b : Bool) (z : ℤ) → nat_lt n (2 ^ 64) ≡ b → (if b then Some (negsuc n) else None) ≡ Some z → Leaf (integer z)
negative_by n true z is e = subst (λ y. Leaf (integer y)) (integers_are (negsuc n) z e) (negative_leaf n (ltb-true n (2 ^ 64) is))
negative_by n false z is e = no_integer z e

positive_leaf : (x : Option ℕ) (z : ℤ) → option_and_then positive x ≡ Some z → Leaf (integer z)
positive_leaf None z e = no_integer z e
positive_leaf (Some n) z e = positive_by n (nat_lt n (2 ^ 64)) z refl e

negative_key_leaf : (x : Option ℕ) (z : ℤ) → option_and_then negative_key x ≡ Some z → Leaf (integer z)
negative_key_leaf None z e = no_integer z e
negative_key_leaf (Some zero) z e = no_integer z e
negative_key_leaf (Some (suc n)) z e = negative_by n (nat_lt n (2 ^ 64)) z refl e

signed_key_leaf : (b : Bool) (x y : Option ℕ) (z : ℤ) → (if b then option_and_then negative_key x else option_and_then positive y) ≡ Some z → Leaf (integer z)
signed_key_leaf true x y z e = negative_key_leaf x z e
signed_key_leaf false x y z e = positive_leaf y z e

key_leaf : (bs : List ℕ) (z : ℤ) → key_number bs ≡ Some z → Leaf (integer z)
key_leaf [] z e = no_integer z e
key_leaf (b ∷ bs) z e = signed_key_leaf (b == 45) (magnitude bs) (magnitude (b ∷ bs)) z e

name_by : (bs : List ℕ) (x : Option ℤ) → is_text bs ≡ true → ((z : ℤ) → x ≡ Some z → Leaf (integer z)) → Leaf (integer_or_text bs x)
name_by bs None is key = text_leaf bs is
name_by bs (Some z) is key = key z refl

name_leaf : (as_integer : Bool) (bs : List ℕ) → is_text bs ≡ true → Leaf (name_bytes as_integer bs)
name_leaf true bs is = name_by bs (key_number bs) is (key_leaf bs)
name_leaf false bs is = text_leaf bs is

-- ---- what keeps it good

grown : (s : State) (l : Level) (r : Raw) (bs : List ℕ) → bs ≡ spell r → IsAcceptableWithin (levels_left s.outer) r → after_item s.level ≡ Some l → Good s → Good (record s { level = l; bytes = s.bytes ++ bs })
grown s l r bs is fine e good more due =
    subst (λ z. IsItem z) (sym (append_assoc s.bytes bs more ∙ ap (λ z. s.bytes ++ (z ++ more)) is))
    (good (spell r ++ more) (took s.outer s.level l r more e fine due))

item_by : (s t : State) (x : Option Level) (bs : List ℕ) → Leaf bs → after_item s.level ≡ x → option_map (λ l. record s { level = l; bytes = s.bytes ++ bs }) x ≡ Some t → Good s → Good t
item_by s t None bs leaf e is good = no_state t is
item_by s t (Some l) bs leaf e is good =
    let after : State = record s { level = l; bytes = s.bytes ++ bs } in
    subst (λ (u : State). Good u) (state_is after t is)
    (grown s l leaf.item bs leaf.spelled (record { fits = leaf.fine.fits; nests = omega (arith, leaf.fine.nests); texts = leaf.fine.texts }) e good)

item_good : (s t : State) (bs : List ℕ) → Leaf bs → item s bs ≡ Some t → Good s → Good t
item_good s t bs leaf is good = item_by s t (after_item s.level) bs leaf refl (if_false s.flattens _ t is).1 good

stored_good : (s t : State) (z : ℤ) (x : Option (List ℕ)) → stored z ≡ x → option_and_then (item s) x ≡ Some t → Good s → Good t
stored_good s t z None e is good = no_state t is
stored_good s t z (Some bs) e is good = item_good s t bs (stored_leaf z bs e) is good

-- ---- arrays and maps

abbrev start_of : Bool → Option ℕ → List ℕ
start_of is_map n = if is_map then map_start n else array_start n

count_is : (n : Option ℕ) → is_count n ≡ true → IsCount n
count_is None e = tt
count_is (Some n) e = ltb-true n (2 ^ 64) e

-- a level that begins
abbrev fresh : Bool → Bool → Option ℕ → Level
fresh drops is_map n = record { left = n; is_map = is_map; at_value = false; flat = 0; drops_names = drops }

nested : (s : State) (after : Level) (n : Option ℕ) (drops is_map : Bool) → IsCount n → length s.outer < 127 → after_item s.level ≡ Some after → Good s
    → Good (record s { level = fresh drops is_map n; outer = after ∷ s.outer; bytes = s.bytes ++ start_of is_map n })
nested s after n drops is_map small deep e good more due =
    let whole = fronts is_map (levels_left s.outer) (levels_left (after ∷ s.outer)) n more due.0 (omega (arith, deep)) small due.1 in
    subst (λ z. IsItem z) (ap (λ z. s.bytes ++ z) (sym whole.bytes) ∙ sym (append_assoc s.bytes (start_of is_map n) more))
    (good (spell whole.item ++ due.0) (took s.outer s.level after whole.item due.0 e whole.fine due.2))

opens_by : (s t : State) (x : Option Level) (n : Option ℕ) (drops is_map : Bool) → IsCount n → length s.outer < 127 → after_item s.level ≡ x
    → option_map (λ after. record s { level = fresh drops is_map n; outer = after ∷ s.outer; bytes = s.bytes ++ start_of is_map n }) x ≡ Some t → Good s → Good t
opens_by s t None n drops is_map small deep e is good = no_state t is
opens_by s t (Some after) n drops is_map small deep e is good =
    let inner : State = record s { level = fresh drops is_map n; outer = after ∷ s.outer; bytes = s.bytes ++ start_of is_map n } in
    subst (λ (u : State). Good u) (state_is inner t is) (nested s after n drops is_map small deep e good)

opens_good : (s t : State) (n : Option ℕ) (drops is_map : Bool) → opens s (start_of is_map n) (fresh drops is_map n) ≡ Some t → Good s → Good t
opens_good s t n drops is_map is good =
    let tests = if_true (is_count n && (not s.flattens && nat_lt (length s.outer) 127)) _ t is in
    let few = and_right (not s.flattens) (nat_lt (length s.outer) 127) (and_right (is_count n) (not s.flattens && nat_lt (length s.outer) 127) tests.0) in
    opens_by s t (after_item s.level) n drops is_map (count_is n (and_left (is_count n) (not s.flattens && nat_lt (length s.outer) 127) tests.0)) (ltb-true (length s.outer) 127 few) refl tests.1 good

flat_same : (outer : List Level) (l : Level) (n : ℕ) (bs : List ℕ) → Completes outer (record l { flat = n }) bs → Completes outer l bs
flat_same [] l n bs due = due
flat_same (o ∷ os) l n bs due = due

closed_good : (s t : State) (outer : List Level) → s.outer ≡ outer → is_full s.level ≡ true → closed s outer ≡ Some t → Good s → Good t
closed_good s t [] e full is good = no_state t is
closed_good s t (l ∷ ls) e full is good =
    let around : State = record s { bytes = s.bytes ++ end_of s.level.left; level = l; outer = ls } in
    let left = s.level.left in
    subst (λ (u : State). Good u) (state_is around t is) (λ more due.
    subst (λ z. IsItem z) (sym (append_assoc s.bytes (end_of left) more))
    (good (end_of left ++ more) (subst (λ (ms : List Level). Completes ms s.level (end_of left ++ more)) (sym e)
    (more, ended_due (levels_left (l ∷ ls)) s.level.at_value s.level.is_map left more full, due))))

ends_by : (s t : State) (b : Bool) → (if b then (if is_full s.level then closed s s.outer else None) else Some (record s { level = record s.level { flat = s.level.flat - 1 } })) ≡ Some t → Good s → Good t
ends_by s t true is good =
    let full = if_true (is_full s.level) (closed s s.outer) t is in
    closed_good s t s.outer refl full.0 full.1 good
ends_by s t false is good =
    let less : State = record s { level = record s.level { flat = s.level.flat - 1 } } in
    subst (λ (u : State). Good u) (state_is less t is) (λ more due. good more (flat_same s.outer s.level (s.level.flat - 1) more due))

ends_good : (s t : State) → ends s ≡ Some t → Good s → Good t
ends_good s t is good = ends_by s t (s.level.flat == 0) is good

joined_good : (s t : State) → joined s ≡ Some t → Good s → Good t
joined_good s t is good =
    let more_flat : State = record s { flattens = false; level = record s.level { flat = s.level.flat + 1 } } in
    subst (λ (u : State). Good u) (state_is more_flat t (if_true (nat_lt (s.level.flat + 1) (2 ^ 64)) (Some more_flat) t is).1)
    (λ more due. good more (flat_same s.outer s.level (s.level.flat + 1) more due))

map_opens_good : (arrays : Bool) (s t : State) (n : Option ℕ) → map_opens arrays s n ≡ Some t → Good s → Good t
map_opens_good true s t n is good =
    let waits : State = record s { begun = Some n } in
    subst (λ (u : State). Good u) (state_is waits t is) good
map_opens_good false s t n is good = opens_good s t n false true is good

map_by : (arrays : Bool) (s t : State) (b : Bool) (n : Option ℕ) → (if b then joined s else map_opens arrays s n) ≡ Some t → Good s → Good t
map_by arrays s t true n is good = joined_good s t is good
map_by arrays s t false n is good = map_opens_good arrays s t n is good

begins_good : (is_field : Bool) (s t : State) (x : Option (Option ℕ)) → begins is_field s x ≡ Some t → Good s → Good t
begins_good b s t None is good = subst (λ (u : State). Good u) (state_is s t is) good
begins_good true s t (Some n) is good = opens_good (record s { begun = None }) t n true false is good
begins_good false s t (Some n) is good = opens_good (record s { begun = None }) t n false true is good

named_good : (o : Options) (s t : State) (name : List ℕ) → named o s name ≡ Some t → Good s → Good t
named_good o s t name is good =
    let tests = if_true (is_text name) (item s (name_bytes o.integer_keys name)) t is in
    item_good s t _ (name_leaf o.integer_keys name tests.0) tests.1 good

field_by : (o : Options) (s t : State) (b : Bool) (name : List ℕ) → (if b then Some s else named o s name) ≡ Some t → Good s → Good t
field_by o s t true name is good = subst (λ (u : State). Good u) (state_is s t is) good
field_by o s t false name is good = named_good o s t name is good

-- ---- events

simple_leaf : (b : Bool) → Leaf ((if b then 0xf5 else 0xf4) ∷ [])
unfolding spell
simple_leaf true = record { item = simple true_item; fine = record { fits = tt; nests = omega arith; texts = tt }; spelled = refl }
simple_leaf false = record { item = simple false_item; fine = record { fits = tt; nests = omega arith; texts = tt }; spelled = refl }

null_leaf : Leaf (0xf6 ∷ [])
unfolding spell
null_leaf = record { item = simple null_item; fine = record { fits = tt; nests = omega arith; texts = tt }; spelled = refl }

nothing_by : (s t : State) (b : Bool) → (if b then Some (record s { flattens = false }) else item s (0xf6 ∷ [])) ≡ Some t → Good s → Good t
nothing_by s t true is good =
    let next : State = record s { flattens = false } in
    subst (λ (u : State). Good u) (state_is next t is) good
nothing_by s t false is good = item_good s t (0xf6 ∷ []) null_leaf is good

taken_good : (o : Options) (s t : State) (e : Event) → may_come e ≡ true → taken o s e ≡ Some t → Good s → Good t
taken_good o s t (event.boolean b) h is good = item_good s t _ (simple_leaf b) is good
taken_good o s t (event.signed z) h is good = stored_good s t z (stored z) refl is good
taken_good o s t (event.unsigned n) h is good = stored_good s t (pos n) (stored (pos n)) refl is good
taken_good o s t (event.single x) h is good = item_good s t _ (half_or_single_leaf (to_bits binary32 x) (if o.shortest_floats then half_of (to_bits binary32 x) else None)) is good
taken_good o s t (event.double x) h is good = item_good s t _ (double_bytes_leaf (o.shortest_floats && is_single x) (round_to_format binary32 x) x) is good
taken_good o s t (event.character c) h is good = item_good s t _ (text_leaf (encode_utf8 c) h) is good
taken_good o s t (event.text bs) h is good = item_good s t _ (text_leaf bs h) is good
taken_good o s t (event.octets bs) h is good = item_good s t _ (bytes_leaf bs h) is good
taken_good o s t event.nothing h is good = nothing_by s t s.flattens is good
taken_good o s t (event.unit_variant name case) h is good = named_good o s t (spelled case Variant name) is good
taken_good o s t (event.seq_begins n) h is good = opens_good s t n false false is good
taken_good o s t event.seq_ends h is good = ends_good s t is good
taken_good o s t (event.map_begins n) h is good = map_by o.structs_as_arrays s t s.flattens n is good
taken_good o s t event.map_ends h is good = ends_good s t is good
taken_good o s t (event.field_key name case) h is good = field_by o s t s.level.drops_names (spelled case Field name) is good
taken_good o s t (event.variant_key name case) h is good = named_good o s t (spelled case Variant name) is good
taken_good o s t event.key_begins h is good = subst (λ (u : State). Good u) (state_is s t is) good
taken_good o s t event.key_ends h is good = subst (λ (u : State). Good u) (state_is s t is) good
taken_good o s t event.flattens h is good =
    let next : State = record s { flattens = true } in
    subst (λ (u : State). Good u) (state_is next t (if_false o.structs_as_arrays (Some next) t is).1) good

settled_good : (o : Options) (s t : State) (e : Event) (x : Option State) → may_come e ≡ true → begins (is_field o e) s s.begun ≡ x → then_taken o e x ≡ Some t → Good s → Good t
settled_good o s t e None h settled is good = no_state t is
settled_good o s t e (Some u) h settled is good = taken_good o u t e h is (begins_good (is_field o e) s u s.begun settled good)

step_good : (o : Options) (s t : State) (e : Event) → step o s e ≡ Some t → Good s → Good t
step_good o s t e is good =
    let comes = if_true (may_come e) (then_taken o e (begins (is_field o e) s s.begun)) t is in
    settled_good o s t e (begins (is_field o e) s s.begun) comes.0 refl comes.1 good

run_by : (o : Options) (s t : State) (e : Event) (x : Option State) (rest : State → Option State) → step o s e ≡ x → option_and_then rest x ≡ Some t
    → ((u : State) → rest u ≡ Some t → Good u → Good t) → Good s → Good t
run_by o s t e None rest step_is is go good = no_state t is
run_by o s t e (Some u) rest step_is is go good = go u is (step_good o s u e step_is good)

run_good : (o : Options) (s t : State) (es : List Event) → run o s es ≡ Some t → Good s → Good t
run_good o s t [] is good = subst (λ (u : State). Good u) (state_is s t is) good
run_good o s t (e ∷ es) is good = run_by o s t e (step o s e) (λ u. run o u es) refl is (λ u rest h. run_good o u t es rest h) good

-- ---- the document

one_of : (rs : Raws) (bs : List ℕ) → AreFine 127 rs → count rs ≡ 1 → bs ≡ spell_all rs ++ ([] ++ []) → IsItem bs
unfolding spell
one_of no_raws bs fine one is = absurd (omega (arith, one))
one_of (raw r no_raws) bs fine one is = record {
  item = r;
  acceptable = record { fits = fine.fits.0; nests = omega (arith, le-max_left (depth r) 0, fine.nest); texts = fine.texts.0 };
  spelled = sym (is ∙ (append-nil (spell r ++ []) ∙ append-nil (spell r)));
}
one_of (raw r (raw q qs)) bs fine one is = absurd (omega (arith, one))

start_good : Good start
start_good bs due = one_of due.items bs due.fine due.due due.bytes

finished : (at_value is_map : Bool) (left : Option ℕ) → not at_value ≡ true → left_is_zero left ≡ true → Due 127 left is_map at_value [] []
finished at_value is_map None a z = absurd cc
finished true is_map (Some n) a z = absurd cc
finished false is_map (Some n) a z = ended_due 127 false is_map (Some n) [] z

completed : (outer : List Level) (l : Level) → is_empty outer ≡ true → not l.at_value ≡ true → left_is_zero l.left ≡ true → Completes outer l []
completed [] l e a z = finished l.at_value l.is_map l.left a z
completed (o ∷ os) l e a z = absurd cc

bytes_if : (b : Bool) (x y : List ℕ) → (if b then Some x else None) ≡ Some y → (b ≡ true) × (x ≡ y)
bytes_if true x y e = (refl, bytes_are x y e)
bytes_if false x y e = absurd cc

whole_item : (s : State) (bs : List ℕ) → whole s ≡ Some bs → Good s → IsItem bs
whole_item s bs is good =
    let zero_left = left_is_zero s.level.left in
    let tests = bytes_if (is_empty s.outer && (not s.flattens && (not s.level.at_value && zero_left))) s.bytes bs is in
    let empty = and_left (is_empty s.outer) (not s.flattens && (not s.level.at_value && zero_left)) tests.0 in
    let rest = and_right (not s.flattens) (not s.level.at_value && zero_left) (and_right (is_empty s.outer) (not s.flattens && (not s.level.at_value && zero_left)) tests.0) in
    subst (λ z. IsItem z) (append-nil s.bytes ∙ tests.1)
    (good [] (completed s.outer s.level empty (and_left (not s.level.at_value) zero_left rest) (and_right (not s.level.at_value) zero_left rest)))

document_by : (o : Options) (es : List Event) (x : Option State) (bs : List ℕ) → run o start es ≡ x → option_and_then whole x ≡ Some bs → IsItem bs
document_by o es None bs ran is = absurd cc
document_by o es (Some t) bs ran is = whole_item t bs is (run_good o start t es ran start_good)

pub document_item : (o : Options) (es : List Event) (bs : List ℕ) → document o es ≡ Some bs → IsItem bs
unfolding document
document_item o es bs is = document_by o es (run o start es) bs refl is

-- what was sent is one
pub log_item : (o : Options) (log : Log) (bs : List ℕ) → AreBytesOf o log bs → IsItem bs
log_item o None bs is = absurd is
log_item o (Some es) bs is = document_item o es bs is
