-- Steps of reading: bytes, numbers, and the number after a first byte.
use Rattle.std.proofs.Common.{◌≡◌, ℕ, suc, ◌+◌, ◌*◌, ◌/◌, ◌%◌, ◌^◌, ◌<◌, ◌≤◌, Bool, true, false}
use Rattle.std.proofs.Common.{cond, ltb, eqb, List, [], ◌∷◌, ◌++◌, length, take, drop, Result, Ok}
use Rattle.std.proofs.Common.{Err, refl, sym, ap, subst, ◌∙◌, arith, inl, inr, ◌⊎◌}
use Rattle.std.specs.Int.{Width, w8, w16, w32, w64, byte_len, from_be_bytes, to_be_bytes}
use Rattle.std.proofs.lemmas.Bool.{cases_lt, ltb-false, ltb-true, le-ltb, lt-ltb, eqb-true}
use Rattle.std.proofs.lemmas.Bool.{eqb-false}
use Rattle.std.proofs.lemmas.List.{take_at, drop_at, take-append-drop, length-append, length-take}
use Rattle.std.proofs.lemmas.List.{get_or-drop, get_or-take, get_or_past}
use Rattle.std.proofs.lemmas.Nat.{be_bytes_2, be_bytes_4, be_bytes_8, from_be_bytes-to_be_bytes_2}
use Rattle.std.proofs.lemmas.Nat.{from_be_bytes-to_be_bytes_4, from_be_bytes-to_be_bytes_8}
use Rattle.cbor_model.specs.Head.{HeadWidth, no_bytes, one_byte, two_bytes, four_bytes, eight_bytes}
use Rattle.cbor_model.specs.Head.{limit, info, behind}
use Rattle.cbor_model.specs.Raw.{AreBytes}
use Rattle.cbor_model.specs.Refusal.{unassigned_code}
use Rattle.cbor_model.specs.Reader.{Fault, ◌>>=◌, ended, before, bytes_at, number_at, width_of}
use Rattle.cbor_model.specs.Reader.{number_behind, key_at}

pub AreBytes-drop : (n : ℕ) (bs : List ℕ) → AreBytes bs → AreBytes (drop n bs)
AreBytes-drop n bs h i = rw get_or-drop (h (n + i))

pub AreBytes-take : (n : ℕ) (bs : List ℕ) → AreBytes bs → AreBytes (take n bs)
AreBytes-take n bs h i =
    elim (cases_lt i n) [
      | inl lt ↦ rw (get_or-take n bs i 0 lt) (h i)
      | inr le ↦ rw (get_or_past (take n bs) i 0 (omega (arith, length-take n bs))) (omega arith)
    ]

pub AreBytes-rest : (b : ℕ) (bs : List ℕ) → AreBytes (b ∷ bs) → AreBytes bs
AreBytes-rest b bs h i = h (suc i)

-- ---- results

-- the value of a step that did not fail
pub bind_ok : {A B : Type 0} (r : Result A Fault) (f : A → Result B Fault) (y : B)
    → (r >>= f) ≡ Ok y → (x : A) × (r ≡ Ok x) × (f x ≡ Ok y)
bind_ok (Ok x) f y e = (x, refl, e)
bind_ok (Err d) f y e = absurd cc

-- which way a test went
pub chosen : {A : Type 0} (b : Bool) (x y z : A) → cond b x y ≡ z
    → ((b ≡ true) × (x ≡ z)) ⊎ ((b ≡ false) × (y ≡ z))
chosen true x y z e = inl (refl, e)
chosen false x y z e = inr (refl, e)

-- what holds at k where the first is done, and else where the other is, holds at the number
pub at_number : {A : Type 0} (P : ℕ → Type 0) (n k : ℕ) (x y z : A) → cond (eqb n k) x y ≡ z
    → (x ≡ z → P k) → ((n ≡ k → ⊥) → y ≡ z → P n) → P n
at_number P n k x y z e at_k other =
    elim (chosen (eqb n k) x y z e) [
      | inl is ↦ subst P (sym (eqb-true n k is.0)) (at_k is.1)
      | inr not ↦ other (eqb-false n k not.0) not.1
    ]

abbrev pub done : {A : Type 0} → A → Result A Fault
done x = Ok x

pub ok_is : {A : Type 0} (x y : A) → done x ≡ done y → x ≡ y
ok_is x y e = cc

-- what holds of a value holds of what is read as it
pub read_as : {A : Type 0} (P : A → Type 0) (x y : A) → done x ≡ done y → P x → P y
read_as P x y e p = subst P (ok_is x y e) p

pub not_ok : {A : Type 0} {B : Type 0} (d : Fault) (x : A) → Err d ≡ done x → B
not_ok d x e = absurd cc

-- a key begins with a byte that it may begin with
abbrev pub BeginsWith : (ℕ → Bool) → List ℕ → Type 0
BeginsWith allows [] = ⊥
BeginsWith allows (b ∷ bs) = allows b ≡ true

-- what is read as a key begins so, and is read by p
pub key_read : {Item : Type 0} (allows : ℕ → Bool) (p : List ℕ → Result (Item × List ℕ) Fault) (bs : List ℕ)
    (x : Item × List ℕ) → key_at allows p bs ≡ Ok x → BeginsWith allows bs × (p bs ≡ Ok x)
unfolding key_at
key_read allows p [] x is = not_ok ended x is
key_read allows p (b ∷ bs) x is =
    elim (chosen (allows b) _ _ _ is) [
      | inl may ↦ may
      | inr other ↦ not_ok _ x other.1
    ]

pub key_is : {Item : Type 0} (allows : ℕ → Bool) (p : List ℕ → Result (Item × List ℕ) Fault) (bs : List ℕ)
    → BeginsWith allows bs → key_at allows p bs ≡ p bs
unfolding key_at
key_is allows p [] may = absurd may
key_is allows p (b ∷ bs) may = rw may refl

-- ---- bytes

-- what reading n bytes took
pub record AreTaken (n : ℕ) (bs : List ℕ) (x : List ℕ × List ℕ) : Type 0 where
  pub parts : bs ≡ x.0 ++ x.1
  pub long : length x.0 ≡ n
  pub fits : AreBytes x.0
  pub rest_fits : AreBytes x.1

pub bytes_found : (n : ℕ) (bs : List ℕ) (x : List ℕ × List ℕ) → AreBytes bs → bytes_at n bs ≡ Ok x
    → AreTaken n bs x
bytes_found n bs x fits e =
    elim (chosen (ltb (length bs) n) (Err ended) (Ok (take n bs, drop n bs)) (Ok x) e) [
      | inl too_few ↦ not_ok ended x too_few.1
      | inr enough ↦
          let long : n ≤ length bs = ltb-false _ _ enough.0 in
          read_as (AreTaken n bs) (take n bs, drop n bs) x enough.1 (record {
            parts = sym (take-append-drop n bs);
            long = omega (arith, length-take n bs);
            fits = AreBytes-take n bs fits;
            rest_fits = AreBytes-drop n bs fits;
          })
    ]

pub bytes_again : (b rest : List ℕ) → bytes_at (length b) (b ++ rest) ≡ Ok (b, rest)
bytes_again b rest =
    let long : ltb (length (b ++ rest)) (length b) ≡ false = le-ltb _ _ (omega (arith, length-append b rest)) in
    rw (long, take_at b rest (length b) refl, drop_at b rest (length b) refl) refl

-- ---- numbers

-- numbers below the bound are the bytes of this width, to and fro
pub record IsWide (w : Width) (bound : ℕ) : Type 0 where
  pub len : (n : ℕ) → length (to_be_bytes w n) ≡ byte_len w
  pub back : (bs : List ℕ) → length bs ≡ byte_len w → AreBytes bs
      → to_be_bytes w (from_be_bytes w bs) ≡ bs
  pub again : (n : ℕ) → n < bound → from_be_bytes w (to_be_bytes w n) ≡ n
  pub below : (bs : List ℕ) → AreBytes bs → from_be_bytes w bs < bound

one_back : (bs : List ℕ) → length bs ≡ 1 → AreBytes bs → to_be_bytes w8 (from_be_bytes w8 bs) ≡ bs
one_back [] len fits = absurd (omega arith)
one_back (b ∷ []) len fits = ap (λ (c : ℕ). c ∷ []) (omega (arith, fits 0))
one_back (b ∷ c ∷ bs) len fits = absurd (omega arith)

pub wide8 : IsWide w8 (2 ^ 8)
wide8 = record {
  len = λ n. refl;
  back = one_back;
  again = λ n lt. omega (arith, lt);
  below = λ bs fits. omega (arith, fits 0);
}

pub wide16 : IsWide w16 (2 ^ 16)
wide16 = record {
  len = λ n. refl;
  back = λ bs len fits. be_bytes_2 bs _ len fits refl;
  again = λ n lt. from_be_bytes-to_be_bytes_2 n lt;
  below = λ bs fits. omega (arith, fits 0, fits 1);
}

pub wide32 : IsWide w32 (2 ^ 32)
wide32 = record {
  len = λ n. refl;
  back = λ bs len fits. be_bytes_4 bs _ len fits refl;
  again = λ n lt. from_be_bytes-to_be_bytes_4 n lt;
  below = λ bs fits. omega (arith, fits 0, fits 1, fits 2, fits 3);
}

pub wide64 : IsWide w64 (2 ^ 64)
wide64 = record {
  len = λ n. refl;
  back = λ bs len fits. be_bytes_8 bs _ len fits refl;
  again = λ n lt. from_be_bytes-to_be_bytes_8 n lt;
  below = λ bs fits. omega (arith, fits 0, fits 1, fits 2, fits 3, fits 4, fits 5, fits 6, fits 7);
}

-- what reading a number of that width took
pub record IsTaken (w : Width) (bound : ℕ) (bs : List ℕ) (x : ℕ × List ℕ) : Type 0 where
  pub parts : bs ≡ to_be_bytes w x.0 ++ x.1
  pub fits : x.0 < bound
  pub rest_fits : AreBytes x.1

pub number_found : (w : Width) (bound : ℕ) → IsWide w bound → (bs : List ℕ) (x : ℕ × List ℕ)
    → AreBytes bs → number_at w bs ≡ Ok x → IsTaken w bound bs x
number_found w bound wide bs x fits is =
    elim (chosen (ltb (length bs) (byte_len w)) (Err ended) (Ok (from_be_bytes w (take (byte_len w) bs), drop (byte_len w) bs)) (Ok x) is) [
      | inl too_few ↦ not_ok ended x too_few.1
      | inr enough ↦
          let long : byte_len w ≤ length bs = ltb-false _ _ enough.0 in
          let front : to_be_bytes w (from_be_bytes w (take (byte_len w) bs)) ≡ take (byte_len w) bs = wide.back (take (byte_len w) bs) (omega (arith, length-take (byte_len w) bs)) (AreBytes-take (byte_len w) bs fits) in
          read_as (IsTaken w bound bs) (from_be_bytes w (take (byte_len w) bs), drop (byte_len w) bs) x enough.1 (record {
            parts = rw front (sym (take-append-drop (byte_len w) bs));
            fits = wide.below _ (AreBytes-take (byte_len w) bs fits);
            rest_fits = AreBytes-drop (byte_len w) bs fits;
          })
    ]

pub number_again : (w : Width) (bound : ℕ) → IsWide w bound → (n : ℕ) (rest : List ℕ) → n < bound
    → number_at w (to_be_bytes w n ++ rest) ≡ Ok (n, rest)
number_again w bound wide n rest lt =
    let len = wide.len n in
    let long : ltb (length (to_be_bytes w n ++ rest)) (byte_len w) ≡ false = le-ltb _ _ (omega (arith, length-append (to_be_bytes w n) rest)) in
    rw (long, take_at (to_be_bytes w n) rest (byte_len w) len, drop_at (to_be_bytes w n) rest (byte_len w) len, wide.again n lt) refl

-- ---- the number after a first byte

-- what reading took after the first byte, in that width
pub record IsBehind (w : HeadWidth) (low : ℕ) (bs : List ℕ) (x : ℕ × List ℕ) : Type 0 where
  pub is_low : low ≡ info w x.0
  pub parts : bs ≡ behind w x.0 ++ x.1
  pub fits : x.0 < limit w
  pub rest_fits : AreBytes x.1

pub info-below : (w : HeadWidth) (n : ℕ) → n < limit w → info w n < 28
info-below no_bytes n lt = omega (arith, lt)
info-below one_byte n lt = omega arith
info-below two_bytes n lt = omega arith
info-below four_bytes n lt = omega arith
info-below eight_bytes n lt = omega arith

pub width_of-info : (w : HeadWidth) (n : ℕ) → n < limit w → width_of (info w n) ≡ w
width_of-info no_bytes n lt = rw (lt-ltb n 24 lt) refl
width_of-info one_byte n lt = refl
width_of-info two_bytes n lt = refl
width_of-info four_bytes n lt = refl
width_of-info eight_bytes n lt = refl

-- a number of one width
wide_behind : (h : HeadWidth) (w : Width) (low : ℕ) → IsWide w (limit h)
    → ((n : ℕ) → behind h n ≡ to_be_bytes w n) → ((n : ℕ) → low ≡ info h n)
    → (bs : List ℕ) (x : ℕ × List ℕ) → AreBytes bs → number_at w bs ≡ Ok x → IsBehind h low bs x
wide_behind h w low wide same low_is bs x fits is =
    let got = number_found w (limit h) wide bs x fits is in
    record {
      is_low = low_is x.0;
      parts = got.parts ∙ ap (λ (t : List ℕ). t ++ x.1) (sym (same x.0));
      fits = got.fits;
      rest_fits = got.rest_fits;
    }

pub number_behind_found : (low : ℕ) (bs : List ℕ) (x : ℕ × List ℕ)
    → AreBytes bs → number_behind low bs ≡ Ok x → IsBehind (width_of low) low bs x
unfolding number_behind
number_behind_found low bs x fits is =
    elim (chosen (ltb low 24) _ _ _ is) [
      | inl small ↦
          let lt : low < 24 = ltb-true _ _ small.0 in
          subst (λ (w : HeadWidth). IsBehind w low bs x) (sym (width_of-info no_bytes low lt))
          (read_as (IsBehind no_bytes low bs) (low, bs) x small.1
          (record { is_low = refl; parts = refl; fits = lt; rest_fits = fits }))
      | inr more ↦
          at_number P low 24 _ _ _ more.1
          (wide_behind one_byte w8 24 wide8 (λ n. refl) (λ n. refl) bs x fits) (λ not_24 more.
          at_number P low 25 _ _ _ more
          (wide_behind two_bytes w16 25 wide16 (λ n. refl) (λ n. refl) bs x fits) (λ not_25 more.
          at_number P low 26 _ _ _ more
          (wide_behind four_bytes w32 26 wide32 (λ n. refl) (λ n. refl) bs x fits) (λ not_26 more.
          at_number P low 27 _ _ _ more
          (wide_behind eight_bytes w64 27 wide64 (λ n. refl) (λ n. refl) bs x fits)
          (λ not_27 none. not_ok (before unassigned_code bs) x none))))
    ]
  where
    P : ℕ → Type 0
    P low = IsBehind (width_of low) low bs x

pub number_behind_again : (w : HeadWidth) (n : ℕ) (rest : List ℕ) → n < limit w
    → number_behind (info w n) (behind w n ++ rest) ≡ Ok (n, rest)
unfolding number_behind
number_behind_again no_bytes n rest lt = rw (lt-ltb n 24 lt) refl
number_behind_again one_byte n rest lt = number_again w8 (2 ^ 8) wide8 n rest lt
number_behind_again two_bytes n rest lt = number_again w16 (2 ^ 16) wide16 n rest lt
number_behind_again four_bytes n rest lt = number_again w32 (2 ^ 32) wide32 n rest lt
number_behind_again eight_bytes n rest lt = number_again w64 (2 ^ 64) wide64 n rest lt

-- ---- first bytes

pub high_of : (major low : ℕ) → low < 32 → (32 * major + low) / 32 ≡ major
high_of major low lt = omega (arith, lt)

pub low_of : (major low : ℕ) → low < 32 → (32 * major + low) % 32 ≡ low
low_of major low lt = omega (arith, lt)

pub first_is : (b : ℕ) → b ≡ 32 * (b / 32) + b % 32
first_is b = omega arith
