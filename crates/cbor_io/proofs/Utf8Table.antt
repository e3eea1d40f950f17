-- The table of rows, one by one.
use Rattle.std.proofs.Common.{◌≡◌, ℕ, zero, suc, ◌/◌, ◌%◌, ◌^◌, ◌<◌, Bool, true, false, ◌&&◌, T}
use Rattle.std.proofs.Common.{eqb, List, get_or, sym, ap, ◌∙◌, subst, inl, inr, arith, eqb→eq}
use Rattle.std.proofs.lemmas.Bool.{cases_eq}
use Rattle.cbor_io.specs.Utf8.{Utf8State, boundary, one_tail, two_tails, three_tails, after_e0}
use Rattle.cbor_io.specs.Utf8.{after_ed, after_f0, after_f4, invalid, after_byte, place}

abbrev pub all_below : (ℕ → Bool) → ℕ → Bool
all_below p zero = true
all_below p (suc n) = p n && all_below p n

left : (a b : Bool) → T (a && b) → T a
left true b t = tt
left false b t = absurd t

right : (a b : Bool) → T (a && b) → T b
right true b t = t
right false b t = absurd t

pub each_below : (p : ℕ → Bool) (n i : ℕ) → T (all_below p n) → i < n → T (p i)
each_below p zero i t l = absurd (omega arith)
each_below p (suc n) i t l =
    elim (cases_eq i n) [
      | inl e ↦ subst (λ m. T (p m)) (sym e) (left _ _ t)
      | inr d ↦ each_below p n i (right (p n) _ t) (omega arith)
    ]

-- the row of the byte b has the right state for s
abbrev pub leads : List ℕ → Utf8State → ℕ → Bool
leads rows s b = eqb (get_or rows b 0 / 2 ^ (place s % 64) % 64) (place (after_byte s b))

-- the table is right
pub record AreRows (rows : List ℕ) : Type 0 where
  pub right : (s : Utf8State) → T (all_below (leads rows s) 256)

pub AreRows-at : (rows : List ℕ) → AreRows rows → (s : Utf8State) (state b : ℕ) → b < 256
    → state ≡ place s
    → get_or rows b 0 / 2 ^ (state % 64) % 64 ≡ place (after_byte s b)
AreRows-at rows r s state b l e =
    ap (λ n. get_or rows b 0 / 2 ^ (n % 64) % 64) e
    ∙ eqb→eq _ _ (each_below (leads rows s) 256 b (r.right s) l)

-- computed state by state
abbrev pub Computed : List ℕ → Utf8State → Type 0
Computed rows s = T (all_below (leads rows s) 256)

pub AreRows-computed : (rows : List ℕ) → Computed rows boundary → Computed rows one_tail
    → Computed rows two_tails → Computed rows three_tails → Computed rows after_e0
    → Computed rows after_ed → Computed rows after_f0 → Computed rows after_f4
    → Computed rows invalid → AreRows rows
AreRows-computed rows a b c d e f g h i = record { right = by }
  where
    by : (s : Utf8State) → Computed rows s
    by boundary = a
    by one_tail = b
    by two_tails = c
    by three_tails = d
    by after_e0 = e
    by after_ed = f
    by after_f0 = g
    by after_f4 = h
    by invalid = i
