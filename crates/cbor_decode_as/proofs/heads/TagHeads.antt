-- Tags at the front.
use Rattle.std.proofs.Common.{◌≡◌, ◌∙◌, ◌+◌, ◌/◌, ◌%◌, ◌<◌, ℕ, zero, suc, Bool, true, false, List, [], ◌∷◌, length, cond, ltb, ap₂, IfSome, Option, Some, None, Ok, Err, refl, ap, arith}
use Rattle.std.proofs.lemmas.Bool.{ltb-true, ltb-false}
use Rattle.cbor_model.specs.Formats.{Formats}
use Rattle.cbor_model.specs.Head.{HeadWidth}
use Rattle.cbor_model.specs.Refusal.{too_deep}
use Rattle.cbor_model.specs.Reader.{Fault, Reads, Reading, ◌>>=◌, byte_at, number_behind, width_of, item_at, item_by, inside, after_first, content_at, tag_at}
use Rattle.cbor_model.proofs.facts.Reader.{ok_is}
use Rattle.cbor_read.specs.Source.{Input}
use Rattle.cbor_decode.specs.Gives.{Step}
use Rattle.cbor_decode.proofs.facts.Steps.{step_map}
use Rattle.cbor_decode_as.specs.Tags.{begins_tag, tag_first_at, entered_at, tag_behind, tag_head_at, TagIs}
use Rattle.cbor_decode_as.specs.Takes.{raws}

-- ---- parts

-- a first byte was taken
pub first_some : (levels b : ℕ) (bs mid : List ℕ) → tag_first_at bs ≡ Ok (Some b, mid) → tag_head_at levels bs ≡ (number_behind (b % 32) mid >>= (λ n. entered_at levels n.0 n.1))
first_some levels b bs mid is = rw is refl

pub first_none : (levels : ℕ) (bs rest : List ℕ) → tag_first_at bs ≡ Ok (None, rest) → tag_head_at levels bs ≡ Ok (None, rest)
first_none levels bs rest is = rw is refl

pub first_stops : (levels : ℕ) (bs : List ℕ) (e : Fault) → tag_first_at bs ≡ Err e → tag_head_at levels bs ≡ Err e
first_stops levels bs e is = rw is refl

-- the number after it
pub record Numbered (b n : ℕ) (bs rest : List ℕ) : Type 0 where
  pub mid : List ℕ
  pub first : tag_first_at bs ≡ Ok (Some b, mid)
  pub number : number_behind (b % 32) mid ≡ Ok (n, rest)

pub number_stops : (levels b : ℕ) (bs mid : List ℕ) (e : Fault) → tag_first_at bs ≡ Ok (Some b, mid) → number_behind (b % 32) mid ≡ Err e → tag_head_at levels bs ≡ Err e
number_stops levels b bs mid e first stops = first_some levels b bs mid first ∙ rw stops refl

pub no_level : (levels b n : ℕ) (bs rest : List ℕ) → levels ≡ 0 → Numbered b n bs rest → tag_head_at levels bs ≡ Err (record { why = too_deep; left = length rest })
no_level levels b n bs rest none h = first_some levels b bs h.mid h.first ∙ rw (h.number, none) refl

pub one_entered : (levels left b n : ℕ) (bs rest : List ℕ) → levels ≡ left + 1 → Numbered b n bs rest → tag_head_at levels bs ≡ Ok (Some n, rest)
one_entered levels left b n bs rest is h =
    let next : levels ≡ suc left = omega (arith, is) in
    first_some levels b bs h.mid h.first ∙ rw (h.number, next) refl

-- ---- the item

-- whether the byte begins a tag's head
pub tag_byte : (b : ℕ) → begins_tag b ≡ true → (b / 32 ≡ 6) × (b % 32 < 28)
tag_byte b is = by (ltb b 0xc0) (ltb b 0xdc) refl refl is
  where
    by : (x y : Bool) → ltb b 0xc0 ≡ x → ltb b 0xdc ≡ y → cond x false (cond y true false) ≡ true → (b / 32 ≡ 6) × (b % 32 < 28)
    by true y low high is = absurd cc
    by false false low high is = absurd cc
    by false true low high is =
        let from = ltb-false b 0xc0 low in
        let to = ltb-true b 0xdc high in
        (omega (arith, from, to), omega (arith, from, to))

module _ {Item Items Pairs : Type 0} (m : Reading Item Items Pairs) where
  tag_content : (inner : Option (List ℕ → Reads Item)) (b n : ℕ) (mid rest : List ℕ) → b / 32 ≡ 6 → b % 32 < 28 → number_behind (b % 32) mid ≡ Ok (n, rest) → after_first m inner b mid ≡ tag_at m inner (width_of (b % 32)) n rest
  unfolding after_first content_at
  tag_content inner b n mid rest six low is = rw (six, is) refl

  pub item_first : (levels b : ℕ) (mid : List ℕ) → item_at m levels (b ∷ mid) ≡ after_first m (inside m levels) b mid
  unfolding item_at item_by byte_at
  item_first zero b mid = refl
  item_first (suc levels) b mid = refl

none_some : {A : Type 0} (n : ℕ) (bs rest : List ℕ) → ◌≡◌ {A = Reads (Option ℕ)} (Ok (None, bs)) (Ok (Some n, rest)) → A
none_some n bs rest is = absurd (differ (ap (λ (q : Option ℕ × List ℕ). q.0) (ok_is (None, bs) (Some n, rest) is)))
  where
    differ : None ≡ Some n → ⊥
    differ e = absurd cc

some_is : (x y : ℕ) → Some x ≡ Some y → x ≡ y
some_is x y e = cc

-- the number of a tag that is entered
entered : (levels k : ℕ) (read : Reads ℕ) (rest : List ℕ) → (read >>= (λ n. entered_at levels n.0 n.1)) ≡ Ok (Some k, rest) → read ≡ Ok (k, rest)
entered zero k (Ok x) rest is = absurd cc
entered (suc left) k (Ok x) rest is =
    let both = ok_is (Some x.0, x.1) (Some k, rest) is in
    ap₂ (λ (a : ℕ) (b : List ℕ). Ok (a, b)) (some_is x.0 k (ap (λ (q : Option ℕ × List ℕ). q.0) both)) (ap (λ (q : Option ℕ × List ℕ). q.1) both)
entered levels k (Err e) rest is = absurd cc

module _ {Item Items Pairs : Type 0} (m : Reading Item Items Pairs) (levels n : ℕ) where
  abbrev IsTag : List ℕ → List ℕ → Type 0
  IsTag bs rest = (w : HeadWidth) × (item_at m levels bs ≡ tag_at m (inside m levels) w n rest)

  pub tag_item : (bs rest : List ℕ) → tag_head_at levels bs ≡ Ok (Some n, rest) → IsTag bs rest
  tag_item [] rest is = none_some n [] rest is
  tag_item (b ∷ mid) rest is = by (begins_tag b) refl is
    where
      by : (t : Bool) → begins_tag b ≡ t → (cond {A = Reads (Option ℕ)} t (Ok (Some b, mid)) (Ok (None, b ∷ mid)) >>= (λ o. tag_behind levels o.0 o.1)) ≡ Ok (Some n, rest) → IsTag (b ∷ mid) rest
      by true begins h =
          let byte = tag_byte b begins in
          let number = entered levels n (number_behind (b % 32) mid) rest h in
          (width_of (b % 32), item_first m levels b mid ∙ tag_content m (inside m levels) b n mid rest byte.0 byte.1 number)
      by false begins h = none_some n (b ∷ mid) rest h

-- the item of which the tag's head was taken
pub tag_is : (f : Formats) (levels : ℕ) (s t : Input) (o : Option ℕ) → Step s t (λ l bs rest. tag_head_at levels bs ≡ Ok (o, rest)) → IfSome o (λ n. TagIs f levels n s t)
tag_is f levels s t None step = tt
tag_is f levels s t (Some n) step =
    step_map s t (λ l bs rest. tag_head_at levels bs ≡ Ok (Some n, rest)) (λ l bs rest. IsTag (raws f l) levels n bs rest) (λ l bs rest is. tag_item (raws f l) levels n bs rest is) step
