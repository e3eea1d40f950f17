-- What is still due of an item that is written part by part.
use Rattle.std.proofs.Common.{◌≡◌, ◌≤◌, ℕ, zero, suc, List, ◌++◌, Bool, true, false, Option, Some, None, IsUtf8, ap, ◌∙◌, subst, sym, append_assoc}
use Rattle.std.proofs.Math.Nat.{max-le}
use Rattle.cbor_model.specs.Raw.{Raw, Raws, raw, RawPairs, raw_pair, count, pair_count, AreWellFormed, ArePairsWellFormed, depth_all, depth_pairs, EachTextOfAll, EachTextOfPairs}
use Rattle.cbor_model.specs.Acceptable.{IsAcceptableWithin}
use Rattle.cbor_model.specs.Spelling.{spell, spell_all, spell_pairs}
use Rattle.cbor_model.specs.Parts.{end_of}
use Rattle.cbor_serde_ser.specs.Document.{counted_down}

-- acceptable within so many levels
pub record AreFine (d : ℕ) (rs : Raws) : Type 0 where
  pub fits : AreWellFormed rs
  pub nest : depth_all rs ≤ d
  pub texts : EachTextOfAll IsUtf8 rs

pub record ArePairsFine (d : ℕ) (ps : RawPairs) : Type 0 where
  pub fits : ArePairsWellFormed ps
  pub nest : depth_pairs ps ≤ d
  pub texts : EachTextOfPairs IsUtf8 ps

-- as many as are due, where a count was declared
abbrev pub AreDue : Option ℕ → ℕ → Type 0
AreDue None n = Unit {0}
AreDue (Some m) n = n ≡ m

-- the items that are due, the end, and what follows
pub record Items (d : ℕ) (left : Option ℕ) (bs rest : List ℕ) : Type 0 where
  pub items : Raws
  pub fine : AreFine d items
  pub due : AreDue left (count items)
  pub bytes : bs ≡ spell_all items ++ (end_of left ++ rest)

-- the pairs
pub record Pairs (d : ℕ) (left : Option ℕ) (bs rest : List ℕ) : Type 0 where
  pub pairs : RawPairs
  pub fine : ArePairsFine d pairs
  pub due : AreDue left (pair_count pairs)
  pub bytes : bs ≡ spell_pairs pairs ++ (end_of left ++ rest)

abbrev pub Whole : ℕ → Bool → Option ℕ → List ℕ → List ℕ → Type 0
Whole d false left bs rest = Items d left bs rest
Whole d true left bs rest = Pairs d left bs rest

-- a value, and then the rest
pub record Valued (d : ℕ) (is_map : Bool) (left : Option ℕ) (bs rest : List ℕ) : Type 0 where
  pub value : Raw
  pub fine : IsAcceptableWithin d value
  pub behind : List ℕ
  pub bytes : bs ≡ spell value ++ behind
  pub then : Whole d is_map left behind rest

abbrev pub Due : ℕ → Option ℕ → Bool → Bool → List ℕ → List ℕ → Type 0
Due d left is_map false bs rest = Whole d is_map left bs rest
Due d left is_map true bs rest = Valued d is_map left bs rest

some_is : (x y : Option ℕ) → Some x ≡ Some y → x ≡ y
some_is x y e = cc

none_some : {B : Type 0} (x : Option ℕ) → None ≡ Some x → B
none_some x e = absurd cc

due_more : (left behind : Option ℕ) (n : ℕ) → counted_down left ≡ Some behind → AreDue behind n → AreDue left (suc n)
due_more None behind n e h = tt
due_more (Some zero) behind n e h = none_some behind e
due_more (Some (suc m)) behind n e h = ap suc (subst (λ o. AreDue o n) (sym (some_is (Some m) behind e)) h)

same_end : (left behind : Option ℕ) → counted_down left ≡ Some behind → end_of behind ≡ end_of left
same_end None behind e = ap end_of (sym (some_is None behind e))
same_end (Some zero) behind e = none_some behind e
same_end (Some (suc m)) behind e = ap end_of (sym (some_is (Some m) behind e))

one_more : (d : ℕ) (r : Raw) (rs : Raws) → IsAcceptableWithin d r → AreFine d rs → AreFine d (raw r rs)
one_more d r rs h hs = record { fits = (h.fits, hs.fits); nest = max-le h.nests hs.nest; texts = (h.texts, hs.texts) }

one_pair_more : (d : ℕ) (k v : Raw) (ps : RawPairs) → IsAcceptableWithin d k → IsAcceptableWithin d v → ArePairsFine d ps → ArePairsFine d (raw_pair k v ps)
one_pair_more d k v ps hk hv hs = record { fits = (hk.fits, hv.fits, hs.fits); nest = max-le (max-le hk.nests hv.nests) hs.nest; texts = (hk.texts, hv.texts, hs.texts) }

-- an item of an array
pub took_item : (d : ℕ) (left behind : Option ℕ) (r : Raw) (bs rest : List ℕ) → counted_down left ≡ Some behind → IsAcceptableWithin d r → Items d behind bs rest → Items d left (spell r ++ bs) rest
unfolding spell
took_item d left behind r bs rest e h due =
    record {
      items = raw r due.items;
      fine = one_more d r due.items h due.fine;
      due = due_more left behind (count due.items) e due.due;
      bytes = ap (λ z. spell r ++ z) (due.bytes ∙ ap (λ z. spell_all due.items ++ (z ++ rest)) (same_end left behind e)) ∙ sym (append_assoc (spell r) (spell_all due.items) (end_of left ++ rest));
    }

-- a key of a map, whose value is due then
pub took_key : (d : ℕ) (left behind : Option ℕ) (r : Raw) (bs rest : List ℕ) → counted_down left ≡ Some behind → IsAcceptableWithin d r → Valued d true behind bs rest → Pairs d left (spell r ++ bs) rest
unfolding spell
took_key d left behind r bs rest e h due =
    let ps = due.then.pairs in
    let v = due.value in
    let is : bs ≡ spell v ++ (spell_pairs ps ++ (end_of left ++ rest)) = due.bytes ∙ ap (λ z. spell v ++ z) (due.then.bytes ∙ ap (λ z. spell_pairs ps ++ (z ++ rest)) (same_end left behind e)) in
    record {
      pairs = raw_pair r v ps;
      fine = one_pair_more d r v ps h due.fine due.then.fine;
      due = due_more left behind (pair_count ps) e due.then.due;
      bytes = ap (λ z. spell r ++ z) is ∙ (ap (λ z. spell r ++ z) (sym (append_assoc (spell v) (spell_pairs ps) (end_of left ++ rest))) ∙ sym (append_assoc (spell r) (spell v ++ spell_pairs ps) (end_of left ++ rest)));
    }
