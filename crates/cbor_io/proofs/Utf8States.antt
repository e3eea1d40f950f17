-- What is read from one boundary to the next is UTF-8.
use Rattle.std.proofs.Common.{◌≡◌, ℕ, suc, ◌+◌, ◌-◌, ◌*◌, ◌/◌, ◌<◌, ◌≤◌, ◌⊎◌, Bool, true, false}
use Rattle.std.proofs.Common.{cond, List, [], ◌∷◌, ◌++◌, refl, sym, ◌∙◌, subst, inl, inr, arith}
use Rattle.std.proofs.Common.{nat_eq, lt-ltb, le-ltb, le-leb, leb-true, eqb-true}
use Rattle.std.proofs.lemmas.Bool.{and_parts, and_from}
use Rattle.std.proofs.lemmas.Str.{encode_ascii, IsUtf8-nil}
use Rattle.std.specs.Str.{IsAscii, IsUtf8}
use Rattle.std.specs.Int.{is_in_range, IsInRange}
use lib.Utf8.{scalar, encode, next, low_scalar}
use Rattle.cbor_io.specs.Utf8.{Utf8State, boundary, one_tail, two_tails, three_tails, after_e0}
use Rattle.cbor_io.specs.Utf8.{after_ed, after_f0, after_f4, invalid, after_first, follows}
use Rattle.cbor_io.specs.Utf8.{after_byte, after_bytes, place}

pub inside : (least most b : ℕ) → IsInRange least most b → is_in_range least most b ≡ true
inside least most b r = and_from _ _ (le-leb _ _ r.0) (le-leb _ _ r.1)

in_range : (least most b : ℕ) → is_in_range least most b ≡ true → IsInRange least most b
in_range least most b e = let p = and_parts _ _ e in (leb-true _ _ p.0, leb-true _ _ p.1)

-- ---- one character in front of a text

pub encode_two : (c : ℕ) → 0x80 ≤ c → c < 0x800 → encode c ≡ (192 + c / 64) ∷ next c ∷ []
unfolding encode
encode_two c l h = rw (le-ltb c 128 l, lt-ltb c 2048 h)

pub encode_three : (c : ℕ) → 0x800 ≤ c → c < 0x1_0000
    → encode c ≡ (224 + c / 4096) ∷ next (c / 64) ∷ next c ∷ []
unfolding encode
encode_three c l h = rw (le-ltb c 128 (omega arith), le-ltb c 2048 l, lt-ltb c 65536 h)

pub encode_four : (c : ℕ) → 0x1_0000 ≤ c
    → encode c ≡ (240 + c / 262144) ∷ next (c / 4096) ∷ next (c / 64) ∷ next c ∷ []
unfolding encode
encode_four c l =
    rw (le-ltb c 128 (omega arith), le-ltb c 2048 (omega arith), le-ltb c 65536 l)

high_scalar : (c : ℕ) → 0xe000 ≤ c → c < 0x11_0000 → scalar c ≡ true
high_scalar c l h = rw (le-ltb c 55296 (omega arith), le-leb 57344 c l, lt-ltb c 1114112 h)

in_front : (c : ℕ) (bytes bs : List ℕ) → scalar c ≡ true → encode c ≡ bytes → IsUtf8 bs
    → IsUtf8 (bytes ++ bs)
in_front c bytes bs ok e u = (c ∷ u.0, (rw ok u.1.0, λ i. e i ++ u.1.1 i))

-- ---- what may follow in a state

abbrev Then : ℕ → ℕ → (List ℕ → Type 0) → List ℕ → Type 0
Then least most Rest [] = ⊥
Then least most Rest (b ∷ bs) = IsInRange least most b × Rest bs

abbrev OneTail : List ℕ → Type 0
OneTail = Then 0x80 0xbf IsUtf8

abbrev TwoTails : List ℕ → Type 0
TwoTails = Then 0x80 0xbf OneTail

abbrev Completes : Utf8State → List ℕ → Type 0
Completes boundary = IsUtf8
Completes one_tail = OneTail
Completes two_tails = TwoTails
Completes three_tails = Then 0x80 0xbf TwoTails
Completes after_e0 = Then 0xa0 0xbf OneTail
Completes after_ed = Then 0x80 0x9f OneTail
Completes after_f0 = Then 0x90 0xbf TwoTails
Completes after_f4 = Then 0x80 0x8f TwoTails
Completes invalid = λ _. ⊥

-- ---- a character, from its first byte

one_byte : (b : ℕ) (bs : List ℕ) → IsInRange 0x00 0x7f b → IsUtf8 bs → IsUtf8 (b ∷ bs)
one_byte b bs r u =
    in_front b (b ∷ []) bs (low_scalar b (omega arith)) (encode_ascii b (omega arith)) u

two_bytes : (b : ℕ) (bs : List ℕ) → IsInRange 0xc2 0xdf b → OneTail bs → IsUtf8 (b ∷ bs)
two_bytes b [] r h = absurd h
two_bytes b (y ∷ ys) r h =
    let c = (b - 192) * 64 + (y - 128) in
    let p : 192 + c / 64 ≡ b = omega (arith, h.0) in
    let q : next c ≡ y = omega (arith, h.0) in
    in_front c (b ∷ y ∷ []) ys (low_scalar c (omega (arith, h.0)))
    (encode_two c (omega (arith, h.0)) (omega (arith, h.0)) ∙ (λ k. p k ∷ q k ∷ [])) h.1

-- the upper bits of a code of three bytes: no shorter form, and no surrogate
abbrev InThree : ℕ → Type 0
InThree high = (32 ≤ high) × ((high < 864) ⊎ (896 ≤ high))

three_bytes : (least most b : ℕ) (bs : List ℕ) → IsInRange 0xe0 0xef b
    → (0x80 ≤ least) × (most ≤ 0xbf)
    → ((y : ℕ) → IsInRange least most y → InThree ((b - 224) * 64 + (y - 128)))
    → Then least most OneTail bs → IsUtf8 (b ∷ bs)
three_bytes least most b [] r m high h = absurd h
three_bytes least most b (y ∷ []) r m high h = absurd h.1
three_bytes least most b (y ∷ z ∷ zs) r m high h =
    let c = (b - 224) * 4096 + (y - 128) * 64 + (z - 128) in
    let k = high y h.0 in
    let u = h.1.0 in
    let p : 224 + c / 4096 ≡ b = omega (arith, h.0, u) in
    let q : next (c / 64) ≡ y = omega (arith, h.0, u) in
    let t : next c ≡ z = omega (arith, h.0, u) in
    let below : c < 0x1_0000 = omega (arith, h.0, u) in
    let ok : scalar c ≡ true =
    elim k.1 [
      | inl a ↦ low_scalar c (omega (arith, h.0, u))
      | inr a ↦ high_scalar c (omega (arith, h.0, u)) (omega arith)
    ] in
    in_front c (b ∷ y ∷ z ∷ []) zs ok
    (encode_three c (omega (arith, k.0, h.0, u)) below ∙ (λ i. p i ∷ q i ∷ t i ∷ [])) h.1.1

-- the upper bits of a code of four bytes
abbrev InFour : ℕ → Type 0
InFour high = (16 ≤ high) × (high < 272)

four_bytes : (least most b : ℕ) (bs : List ℕ) → 0xf0 ≤ b → (0x80 ≤ least) × (most ≤ 0xbf)
    → ((y : ℕ) → IsInRange least most y → InFour ((b - 240) * 64 + (y - 128)))
    → Then least most TwoTails bs → IsUtf8 (b ∷ bs)
four_bytes least most b [] r m high h = absurd h
four_bytes least most b (y ∷ []) r m high h = absurd h.1
four_bytes least most b (y ∷ z ∷ []) r m high h = absurd h.1.1
four_bytes least most b (y ∷ z ∷ w ∷ ws) r m high h =
    let c = (b - 240) * 262144 + (y - 128) * 4096 + (z - 128) * 64 + (w - 128) in
    let k = high y h.0 in
    let u = h.1.0 in
    let v = h.1.1.0 in
    let e : c / 64 ≡ (b - 240) * 4096 + (y - 128) * 64 + (z - 128) = omega (arith, h.0, u, v) in
    let p : 240 + c / 262144 ≡ b = omega (arith, h.0, u, v) in
    let q : next (c / 4096) ≡ y = omega (arith, h.0, u, v) in
    let t : next (c / 64) ≡ z = rw e (omega (arith, h.0, u, v)) in
    let s : next c ≡ w = omega (arith, h.0, u, v) in
    let above : 0x1_0000 ≤ c = omega (arith, k, h.0, u, v) in
    let below : c < 0x11_0000 = omega (arith, k, h.0, u, v) in
    in_front c (b ∷ y ∷ z ∷ w ∷ []) ws (high_scalar c (omega arith) below)
    (encode_four c above ∙ (λ i. p i ∷ q i ∷ t i ∷ s i ∷ [])) h.1.1.1

-- ---- one byte back

-- by the cases of a test
split : (t : Bool) (s u : Utf8State) (bs : List ℕ) (X : Type 0) → Completes (cond t s u) bs
    → (t ≡ true → Completes s bs → X) → (Completes u bs → X) → X
split true s u bs X h passed failed = passed refl h
split false s u bs X h passed failed = failed h

-- by the cases of a range
by_range : (least most b : ℕ) (s u : Utf8State) (bs : List ℕ) (X : Type 0)
    → Completes (cond (is_in_range least most b) s u) bs
    → (IsInRange least most b → Completes s bs → X) → (Completes u bs → X) → X
by_range least most b s u bs X h passed failed =
    split (is_in_range least most b) s u bs X h (λ e. passed (in_range least most b e)) failed

-- by the cases of one byte
by_byte : (n b : ℕ) (s u : Utf8State) (bs : List ℕ) (X : Type 0)
    → Completes (cond (nat_eq b n) s u) bs
    → (b ≡ n → Completes s bs → X) → (Completes u bs → X) → X
by_byte n b s u bs X h passed failed =
    split (nat_eq b n) s u bs X h (λ e. passed (eqb-true b n e)) failed

three_wide : (b : ℕ) (bs : List ℕ) → IsInRange 0xe1 0xec b ⊎ IsInRange 0xee 0xef b
    → TwoTails bs → IsUtf8 (b ∷ bs)
three_wide b bs (inl r) =
    three_bytes 0x80 0xbf b bs (omega arith) (omega arith)
    (λ y q. (omega arith, inl (omega arith)))
three_wide b bs (inr r) =
    three_bytes 0x80 0xbf b bs (omega arith) (omega arith)
    (λ y q. (omega arith, inr (omega arith)))

first_of_four : (b : ℕ) (bs : List ℕ) → Completes (
    cond (nat_eq b 0xf0) after_f0 (cond (is_in_range 0xf1 0xf3 b) three_tails
    (cond (nat_eq b 0xf4) after_f4 invalid))) bs → IsUtf8 (b ∷ bs)
first_of_four b bs h =
    let X = IsUtf8 (b ∷ bs) in
    by_byte 0xf0 b _ _ bs X h (λ e.
    four_bytes 0x90 0xbf b bs (omega arith) (omega arith) (λ y q. (omega arith, omega arith)))
    (λ g. by_range 0xf1 0xf3 b _ _ bs X g (λ r.
    four_bytes 0x80 0xbf b bs (omega arith) (omega arith) (λ y q. (omega arith, omega arith)))
    (λ f. by_byte 0xf4 b _ _ bs X f (λ e.
    four_bytes 0x80 0x8f b bs (omega arith) (omega arith) (λ y q. (omega arith, omega arith)))
    (λ u. absurd u)))

first_back : (b : ℕ) (bs : List ℕ) → Completes (after_first b) bs → IsUtf8 (b ∷ bs)
first_back b bs h =
    let X = IsUtf8 (b ∷ bs) in
    by_range 0x00 0x7f b _ _ bs X h (one_byte b bs)
    (λ h1. by_range 0xc2 0xdf b _ _ bs X h1 (two_bytes b bs)
    (λ h2. by_byte 0xe0 b _ _ bs X h2 (λ e.
    three_bytes 0xa0 0xbf b bs (omega arith) (omega arith)
    (λ y q. (omega arith, inl (omega arith))))
    (λ h3. by_range 0xe1 0xec b _ _ bs X h3 (λ r. three_wide b bs (inl r))
    (λ h4. by_byte 0xed b _ _ bs X h4 (λ e.
    three_bytes 0x80 0x9f b bs (omega arith) (omega arith)
    (λ y q. (omega arith, inl (omega arith))))
    (λ h5. by_range 0xee 0xef b _ _ bs X h5 (λ r. three_wide b bs (inr r))
    (first_of_four b bs))))))

later_back : (least most : ℕ) (s : Utf8State) (b : ℕ) (bs : List ℕ)
    → Completes (follows least most s b) bs → IsInRange least most b × Completes s bs
later_back least most s b bs h =
    by_range least most b _ _ bs (IsInRange least most b × Completes s bs) h (λ r u. (r, u))
    (λ u. absurd u)

back : (s : Utf8State) (b : ℕ) (bs : List ℕ) → Completes (after_byte s b) bs
    → Completes s (b ∷ bs)
back boundary b bs h = first_back b bs h
back one_tail b bs h = later_back 0x80 0xbf boundary b bs h
back two_tails b bs h = later_back 0x80 0xbf one_tail b bs h
back three_tails b bs h = later_back 0x80 0xbf two_tails b bs h
back after_e0 b bs h = later_back 0xa0 0xbf one_tail b bs h
back after_ed b bs h = later_back 0x80 0x9f one_tail b bs h
back after_f0 b bs h = later_back 0x90 0xbf two_tails b bs h
back after_f4 b bs h = later_back 0x80 0x8f two_tails b bs h
back invalid b bs h = h

pub Completes-from_end : (s : Utf8State) (bs : List ℕ) → after_bytes s bs ≡ boundary
    → Completes s bs
Completes-from_end s [] e = subst (λ t. Completes t []) (sym e) IsUtf8-nil
Completes-from_end s (b ∷ bs) e = back s b bs (Completes-from_end (after_byte s b) bs e)

pub IsUtf8-from_end : (bs : List ℕ) → after_bytes boundary bs ≡ boundary → IsUtf8 bs
IsUtf8-from_end bs e = Completes-from_end boundary bs e

-- ---- the states on the way

pub after_bytes-append : (s : Utf8State) (xs ys : List ℕ)
    → after_bytes s (xs ++ ys) ≡ after_bytes (after_bytes s xs) ys
after_bytes-append s [] ys = refl
after_bytes-append s (x ∷ xs) ys = after_bytes-append (after_byte s x) xs ys

pub after_ascii : (bs : List ℕ) → IsAscii bs → after_bytes boundary bs ≡ boundary
after_ascii [] h = refl
after_ascii (b ∷ bs) h =
    let low : b < 128 = h 0 in
    rw (inside 0x00 0x7f b (omega arith, omega arith)) (after_ascii bs (λ i. h (suc i)))

pub place_boundary : (s : Utf8State) → place s ≡ 6 → s ≡ boundary
place_boundary boundary e = refl
place_boundary one_tail e = absurd (omega arith)
place_boundary two_tails e = absurd (omega arith)
place_boundary three_tails e = absurd (omega arith)
place_boundary after_e0 e = absurd (omega arith)
place_boundary after_ed e = absurd (omega arith)
place_boundary after_f0 e = absurd (omega arith)
place_boundary after_f4 e = absurd (omega arith)
place_boundary invalid e = absurd (omega arith)
