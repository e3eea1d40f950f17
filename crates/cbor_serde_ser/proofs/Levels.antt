-- What is still due where arrays and maps are open.
use Rattle.std.proofs.Common.{◌≡◌, ◌≤◌, ◌-◌, ◌<◌, ◌^◌, ℕ, suc, List, [], ◌∷◌, ◌++◌, length, Bool, true, false, Option, Some, None, refl, ap, ◌∙◌, subst, sym, arith, append_assoc}
use Rattle.std.specs.Prelude.{not, ◌&&◌, nat_lt, if◌then◌else◌, option_map}
use Rattle.std.proofs.lemmas.Bool.{ltb-true}
use Rattle.cbor_model.specs.Head.{HeadWidth, no_bytes, one_byte, two_bytes, four_bytes, limit, least, head}
use Rattle.cbor_model.specs.Raw.{Raw, no_raws, no_raw_pairs, count, pair_count, array, map, definite, indefinite}
use Rattle.cbor_model.specs.Acceptable.{IsAcceptableWithin}
use Rattle.cbor_model.specs.Spelling.{spell, spell_all, spell_pairs, break}
use Rattle.cbor_model.specs.Parts.{array_start, map_start, end_of}
use Rattle.cbor_serde_ser.specs.Document.{after_item, counted_down, none_left}
use Rattle.cbor_serde_ser.specs.declared.level.Level.{Level}
use Rattle.cbor_serde_ser.proofs.Due.{Items, Pairs, Whole, Due, took_item, took_key}

level_is : (x y : Level) → Some x ≡ Some y → x ≡ y
level_is x y e = cc

no_level : {B : Type 0} (x : Level) → None ≡ Some x → B
no_level x e = absurd cc

took_by : (d : ℕ) (is_map : Bool) (left behind : Option ℕ) (r : Raw) (bs rest : List ℕ) → counted_down left ≡ Some behind → IsAcceptableWithin d r → Due d behind is_map is_map bs rest → Whole d is_map left (spell r ++ bs) rest
took_by d false left behind r bs rest e h due = took_item d left behind r bs rest e h due
took_by d true left behind r bs rest e h due = took_key d left behind r bs rest e h due

took_counted : (d : ℕ) (l m : Level) (x : Option (Option ℕ)) (r : Raw) (bs rest : List ℕ) → counted_down l.left ≡ x → option_map (λ left. record l { left = left; at_value = l.is_map }) x ≡ Some m
    → IsAcceptableWithin d r → Due d m.left m.is_map m.at_value bs rest → Whole d l.is_map l.left (spell r ++ bs) rest
took_counted d l m None r bs rest e is h due = no_level m is
took_counted d l m (Some behind) r bs rest e is h due =
    let after : Level = record l { left = behind; at_value = l.is_map } in
    took_by d l.is_map l.left behind r bs rest e h (subst (λ (k : Level). Due d k.left k.is_map k.at_value bs rest) (sym (level_is after m is)) due)

took_at : (d : ℕ) (l m : Level) (at_value : Bool) (r : Raw) (bs rest : List ℕ)
    → (if at_value then Some (record l { at_value = false }) else option_map (λ left. record l { left = left; at_value = l.is_map }) (counted_down l.left)) ≡ Some m
    → IsAcceptableWithin d r → Due d m.left m.is_map m.at_value bs rest → Due d l.left l.is_map at_value (spell r ++ bs) rest
took_at d l m true r bs rest is h due =
    let after : Level = record l { at_value = false } in
    record { value = r; fine = h; behind = bs; bytes = refl; then = subst (λ (k : Level). Due d k.left k.is_map k.at_value bs rest) (sym (level_is after m is)) due }
took_at d l m false r bs rest is h due = took_counted d l m (counted_down l.left) r bs rest refl is h due

-- an item came
pub took_due : (d : ℕ) (l m : Level) (r : Raw) (bs rest : List ℕ) → after_item l ≡ Some m → IsAcceptableWithin d r
    → Due d m.left m.is_map m.at_value bs rest → Due d l.left l.is_map l.at_value (spell r ++ bs) rest
took_due d l m r bs rest is h due = took_at d l m l.at_value r bs rest is h due

-- how many levels may still be opened
abbrev pub levels_left : List Level → ℕ
levels_left outer = 127 - length outer

-- These bytes complete what is open.
abbrev pub Completes : List Level → Level → List ℕ → Type 0
Completes [] l bs = Due 127 l.left l.is_map l.at_value bs []
Completes (o ∷ os) l bs = (rest : List ℕ) × Due (levels_left (o ∷ os)) l.left l.is_map l.at_value bs rest × Completes os o rest

pub took : (outer : List Level) (l m : Level) (r : Raw) (bs : List ℕ) → after_item l ≡ Some m → IsAcceptableWithin (levels_left outer) r → Completes outer m bs → Completes outer l (spell r ++ bs)
took [] l m r bs is h due = took_due 127 l m r bs [] is h due
took (o ∷ os) l m r bs is h due = (due.0, took_due (levels_left (o ∷ os)) l m r bs due.0 is h due.1, due.2)

-- ---- the least width

in_first : (n : ℕ) (b : Bool) (u w : HeadWidth) → nat_lt n (limit u) ≡ b → n < limit w → n < limit (if b then u else w)
in_first n true u w is other = ltb-true n (limit u) is
in_first n false u w is other = other

pub fits_least : (n : ℕ) → n < 2 ^ 64 → n < limit (least n)
fits_least n below =
    in_first n (nat_lt n (limit no_bytes)) no_bytes _ refl
    (in_first n (nat_lt n (limit one_byte)) one_byte _ refl
    (in_first n (nat_lt n (limit two_bytes)) two_bytes _ refl
    (in_first n (nat_lt n (limit four_bytes)) four_bytes _ refl below)))

-- ---- arrays and maps

abbrev pub IsCount : Option ℕ → Type 0
IsCount None = Unit {0}
IsCount (Some n) = n < 2 ^ 64

-- A whole item stands in front of what follows it.
pub record Fronts (d : ℕ) (bs rest : List ℕ) : Type 0 where
  pub item : Raw
  pub fine : IsAcceptableWithin d item
  pub bytes : bs ≡ spell item ++ rest

array_fronts : (d e : ℕ) (n : Option ℕ) (bs rest : List ℕ) → suc e ≤ d → IsCount n → Items e n bs rest → Fronts d (array_start n ++ bs) rest
unfolding spell
array_fronts d e None bs rest deep small due =
    record {
      item = array indefinite due.items;
      fine = record { fits = (tt, due.fine.fits); nests = omega (arith, deep, due.fine.nest); texts = due.fine.texts };
      bytes = ap (λ z. 0x9f ∷ z) (due.bytes ∙ sym (append_assoc (spell_all due.items) break rest));
    }
array_fronts d e (Some n) bs rest deep small due =
    record {
      item = array (definite (least (count due.items))) due.items;
      fine = record { fits = (fits_least (count due.items) (omega (arith, small, due.due)), due.fine.fits); nests = omega (arith, deep, due.fine.nest); texts = due.fine.texts };
      bytes = rw (sym due.due, due.bytes) (sym (append_assoc (head 4 (least (count due.items)) (count due.items)) (spell_all due.items) rest));
    }

map_fronts : (d e : ℕ) (n : Option ℕ) (bs rest : List ℕ) → suc e ≤ d → IsCount n → Pairs e n bs rest → Fronts d (map_start n ++ bs) rest
unfolding spell
map_fronts d e None bs rest deep small due =
    record {
      item = map indefinite due.pairs;
      fine = record { fits = (tt, due.fine.fits); nests = omega (arith, deep, due.fine.nest); texts = due.fine.texts };
      bytes = ap (λ z. 0xbf ∷ z) (due.bytes ∙ sym (append_assoc (spell_pairs due.pairs) break rest));
    }
map_fronts d e (Some n) bs rest deep small due =
    record {
      item = map (definite (least (pair_count due.pairs))) due.pairs;
      fine = record { fits = (fits_least (pair_count due.pairs) (omega (arith, small, due.due)), due.fine.fits); nests = omega (arith, deep, due.fine.nest); texts = due.fine.texts };
      bytes = rw (sym due.due, due.bytes) (sym (append_assoc (head 5 (least (pair_count due.pairs)) (pair_count due.pairs)) (spell_pairs due.pairs) rest));
    }

-- ---- the end

no_more : (n : Option ℕ) (d : ℕ) (is_map : Bool) (bs : List ℕ) → none_left n ≡ true → Whole d is_map n (end_of n ++ bs) bs
unfolding spell
no_more None d false bs e = record { items = no_raws; fine = record { fits = tt; nest = omega arith; texts = tt }; due = tt; bytes = refl }
no_more None d true bs e = record { pairs = no_raw_pairs; fine = record { fits = tt; nest = omega arith; texts = tt }; due = tt; bytes = refl }
no_more (Some n) d false bs e = record { items = no_raws; fine = record { fits = tt; nest = omega arith; texts = tt }; due = grind (arith, e); bytes = refl }
no_more (Some n) d true bs e = record { pairs = no_raw_pairs; fine = record { fits = tt; nest = omega arith; texts = tt }; due = grind (arith, e); bytes = refl }

pub ended_due : (d : ℕ) (at_value is_map : Bool) (left : Option ℕ) (bs : List ℕ) → (not at_value && none_left left) ≡ true → Due d left is_map at_value (end_of left ++ bs) bs
ended_due d true is_map left bs e = absurd cc
ended_due d false is_map left bs e = no_more left d is_map bs e

pub fronts : (is_map : Bool) (d e : ℕ) (n : Option ℕ) (bs rest : List ℕ) → suc e ≤ d → IsCount n → Whole e is_map n bs rest → Fronts d ((if is_map then map_start n else array_start n) ++ bs) rest
fronts false d e n bs rest deep small due = array_fronts d e n bs rest deep small due
fronts true d e n bs rest deep small due = map_fronts d e n bs rest deep small due
