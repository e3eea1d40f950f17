-- The bytes of a character lead from one boundary to the next.
use Rattle.std.proofs.Common.{◌≡◌, ℕ, ◌+◌, ◌/◌, ◌<◌, ◌≤◌, ◌≢◌, true, false, cond, List, [], ◌∷◌}
use Rattle.std.proofs.Common.{◌&&◌, refl, ap, ap₂, ◌∙◌, subst, inl, inr, arith, le-leb, ne_eqb}
use Rattle.std.proofs.Common.{nat_le}
use Rattle.std.proofs.lemmas.Bool.{cases_lt, cases_eq, and_parts, lt-leb}
use Rattle.std.proofs.lemmas.Str.{encode_ascii}
use Rattle.std.specs.Str.{IsUtf8}
use Rattle.std.specs.Int.{is_in_range, IsInRange}
use lib.Utf8.{scalar, scalars, encode, encodes, next, scalar_cases}
use Rattle.cbor_io.specs.Utf8.{Utf8State, boundary, one_tail, two_tails, three_tails, invalid}
use Rattle.cbor_io.specs.Utf8.{after_first, follows, after_byte, after_bytes}
use Rattle.cbor_io.proofs.Utf8States.{encode_two, encode_three, encode_four, after_bytes-append}
use Rattle.cbor_io.proofs.Utf8States.{inside}

-- ---- one byte on

below : (least most b : ℕ) → b < least → is_in_range least most b ≡ false
below least most b l = ap (λ t. t && nat_le b most) (lt-leb least b l)

above : (least most b : ℕ) → (least ≤ b) × (most < b) → is_in_range least most b ≡ false
above least most b l = ap₂ (λ s t. s && t) (le-leb least b l.0) (lt-leb b most l.1)

first_one : (b : ℕ) → IsInRange 0xc2 0xdf b → after_first b ≡ one_tail
first_one b r = rw (above 0x00 0x7f b (omega arith, omega arith), inside 0xc2 0xdf b r) refl

first_two : (b : ℕ) → IsInRange 0xe1 0xef b → b ≢ 0xed → after_first b ≡ two_tails
first_two b r n =
    elim (cases_lt b 0xed) [
      | inl l ↦ rw (
        above 0x00 0x7f b (omega arith, omega arith),
        above 0xc2 0xdf b (omega arith, omega arith),
        ne_eqb b 0xe0 (λ e. omega arith),
        inside 0xe1 0xec b (omega arith, omega arith),
      ) refl
      | inr l ↦ rw (
        above 0x00 0x7f b (omega arith, omega arith),
        above 0xc2 0xdf b (omega arith, omega arith),
        ne_eqb b 0xe0 (λ e. omega arith),
        above 0xe1 0xec b (omega arith, omega arith),
        ne_eqb b 0xed n,
        inside 0xee 0xef b (omega arith, omega arith),
      ) refl
    ]

first_three : (b : ℕ) → IsInRange 0xf1 0xf3 b → after_first b ≡ three_tails
first_three b r =
    rw (
      above 0x00 0x7f b (omega arith, omega arith),
      above 0xc2 0xdf b (omega arith, omega arith),
      ne_eqb b 0xe0 (λ e. omega arith),
      above 0xe1 0xec b (omega arith, omega arith),
      ne_eqb b 0xed (λ e. omega arith),
      above 0xee 0xef b (omega arith, omega arith),
      ne_eqb b 0xf0 (λ e. omega arith),
      inside 0xf1 0xf3 b r,
    ) refl

follows_is : (least most : ℕ) (s : Utf8State) (b : ℕ) → IsInRange least most b
    → follows least most s b ≡ s
follows_is least most s b r = ap (λ t. cond t s invalid) (inside least most b r)

-- ---- the later bytes of a character

last_one : (b : ℕ) → IsInRange 0x80 0xbf b → (s : Utf8State) → s ≡ one_tail
    → after_byte s b ≡ boundary
last_one b r s e = ap (λ t. after_byte t b) e ∙ follows_is 0x80 0xbf boundary b r

last_two : (y z : ℕ) → IsInRange 0x80 0xbf y → IsInRange 0x80 0xbf z → (s : Utf8State)
    → s ≡ two_tails → after_bytes s (y ∷ z ∷ []) ≡ boundary
last_two y z r q s e =
    last_one z q (after_byte s y)
    (ap (λ t. after_byte t y) e ∙ follows_is 0x80 0xbf one_tail y r)

-- ---- characters

later : (c : ℕ) → IsInRange 0x80 0xbf (next c)
later c = (omega arith, omega arith)

two_long : (c : ℕ) → 0x80 ≤ c → c < 0x800 → after_bytes boundary (encode c) ≡ boundary
two_long c l h =
    rw (encode_two c l h)
    (last_one (next c) (later c) _ (first_one (192 + c / 64) (omega arith, omega arith)))

three_long : (c : ℕ) → 0x800 ≤ c → c < 0x1_0000 → scalar c ≡ true
    → after_bytes boundary (encode c) ≡ boundary
three_long c l h ok =
    let b = 224 + c / 4096 in
    let y = next (c / 64) in
    let z = next c in
    rw (encode_three c l h)
    (elim (cases_eq b 0xe0) [
      | inl e ↦ last_one z (later c) _
          (ap (λ n. after_byte (after_first n) y) e
          ∙ follows_is 0xa0 0xbf one_tail y (omega arith, omega arith))
      | inr n ↦ elim (cases_eq b 0xed) [
        | inl e ↦ elim (scalar_cases c ok) [
          | inl low ↦ last_one z (later c) _
              (ap (λ n. after_byte (after_first n) y) e
              ∙ follows_is 0x80 0x9f one_tail y (omega arith, omega arith))
          | inr high ↦ absurd (omega arith)
        ]
        | inr m ↦ last_two y z (later (c / 64)) (later c) _
            (first_two b (omega arith, omega arith) m)
      ]
    ])

four_long : (c : ℕ) → 0x1_0000 ≤ c → c < 0x11_0000 → after_bytes boundary (encode c) ≡ boundary
four_long c l h =
    let b = 240 + c / 262144 in
    let y = next (c / 4096) in
    rw (encode_four c l)
    (last_two (next (c / 64)) (next c) (later (c / 64)) (later c) _
    (elim (cases_eq b 0xf0) [
      | inl e ↦ ap (λ n. after_byte (after_first n) y) e
          ∙ follows_is 0x90 0xbf two_tails y (omega arith, omega arith)
      | inr n ↦ elim (cases_eq b 0xf4) [
        | inl e ↦ ap (λ n. after_byte (after_first n) y) e
            ∙ follows_is 0x80 0x8f two_tails y (omega arith, omega arith)
        | inr m ↦ ap (λ s. after_byte s y) (first_three b (omega arith, omega arith))
            ∙ follows_is 0x80 0xbf two_tails y (later (c / 4096))
      ]
    ]))

one_char : (c : ℕ) → scalar c ≡ true → after_bytes boundary (encode c) ≡ boundary
one_char c ok =
    elim (cases_lt c 0x80) [
      | inl a ↦ rw (encode_ascii c a, inside 0x00 0x7f c (omega arith, omega arith)) refl
      | inr a ↦ elim (cases_lt c 0x800) [
        | inl b ↦ two_long c a b
        | inr b ↦ elim (cases_lt c 0x1_0000) [
          | inl d ↦ three_long c b d ok
          | inr d ↦ four_long c d
              (elim (scalar_cases c ok) [ inl low ↦ omega arith | inr high ↦ high.1 ])
        ]
      ]
    ]

chars : (cs : List ℕ) → scalars cs ≡ true → after_bytes boundary (encodes cs) ≡ boundary
chars [] ok = refl
chars (c ∷ cs) ok =
    let p = and_parts (scalar c) (scalars cs) ok in
    after_bytes-append boundary (encode c) (encodes cs)
    ∙ ap (λ s. after_bytes s (encodes cs)) (one_char c p.0) ∙ chars cs p.1

pub IsUtf8-ends : (bs : List ℕ) → IsUtf8 bs → after_bytes boundary bs ≡ boundary
IsUtf8-ends bs u = subst (λ l. after_bytes boundary l ≡ boundary) u.1.1 (chars u.0 u.1.0)
