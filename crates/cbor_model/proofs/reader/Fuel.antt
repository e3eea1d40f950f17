-- What the readers with fuel read doesn't depend on it, once it is above the number of bytes.
use Rattle.std.proofs.Common.{◌≡◌, ℕ, zero, suc, ◌<◌, ◌≤◌, Bool, true, false, cond, eqb, List, [], ◌∷◌, length, Option, Some, None, Result, Ok, Err, refl, ap, arith, ◌+◌}
use Rattle.cbor_model.specs.Reader.{Fault, Reads, ◌>>=◌, byte_at, chunk_at, chunks_by, Remaining, next_at, Parts, go_on, parts_by, key_at, pair_at}
use Rattle.cbor_model.proofs.reader.ReaderSteps.{bind_ok, ok_is, key_read}
use Rattle.cbor_model.proofs.reader.BytesTaken.{chunk_taken, next_taken}

bind_same : {A B : Type 0} (r : Result A Fault) (f g : A → Result B Fault) → ((x : A) → r ≡ Ok x → f x ≡ g x) → (r >>= f) ≡ (r >>= g)
bind_same (Ok x) f g each = each x refl
bind_same (Err d) f g each = refl

cond_same : {A : Type 0} (b : Bool) (x x' y y' : A) → x ≡ x' → y ≡ y' → cond b x y ≡ cond b x' y'
cond_same true x x' y y' one other = one
cond_same false x x' y y' one other = other

pub chunks_by-fuel : (exceeds : ℕ → Bool) (have major f g : ℕ) (bs : List ℕ) → length bs < f → length bs < g → chunks_by exceeds have major f bs ≡ chunks_by exceeds have major g bs
unfolding chunks_by byte_at
chunks_by-fuel exceeds have major zero g bs enough enough' = absurd (omega arith)
chunks_by-fuel exceeds have major (suc f) zero bs enough enough' = absurd (omega arith)
chunks_by-fuel exceeds have major (suc f) (suc g) [] enough enough' = refl
chunks_by-fuel exceeds have major (suc f) (suc g) (b ∷ bs) enough enough' =
    cond_same (eqb b 0xff) _ _ _ _ refl
    (bind_same (chunk_at (λ n. exceeds (have + n)) major b bs) _ _ (λ c is.
    let few = chunk_taken (λ n. exceeds (have + n)) major b bs c is in
    let others = chunks_by-fuel exceeds (have + length c.0.bytes) major f g c.1 (omega arith) (omega arith) in
    rw others refl))

module _ {Part Whole : Type 0} (ps : Parts Part Whole) (takes : (bs : List ℕ) (x : Part × List ℕ) → ps.part bs ≡ Ok x → length x.1 < length bs) where
  go_on-fuel : (n : ℕ) (others others' : Remaining → List ℕ → Reads Whole) → ((remaining : Remaining) (bs : List ℕ) → length bs < n → others remaining bs ≡ others' remaining bs) → (next : Option Remaining) (bs : List ℕ) → length bs ≤ n → go_on ps others next bs ≡ go_on ps others' next bs
  go_on-fuel n others others' same None bs few = refl
  go_on-fuel n others others' same (Some remaining) bs few =
      bind_same (ps.part bs) _ _ (λ first is.
      let fewer = takes bs first is in
      let each : others remaining first.1 ≡ others' remaining first.1 = same remaining first.1 (omega arith) in
      rw each refl)

  pub parts_by-fuel : (f g : ℕ) (remaining : Remaining) (bs : List ℕ) → length bs < f → length bs < g → parts_by ps f remaining bs ≡ parts_by ps g remaining bs
  unfolding parts_by
  parts_by-fuel zero g remaining bs enough enough' = absurd (omega arith)
  parts_by-fuel (suc f) zero remaining bs enough enough' = absurd (omega arith)
  parts_by-fuel (suc f) (suc g) remaining bs enough enough' =
      bind_same (next_at ps.ends remaining bs) _ _ (λ next is.
      let few = next_taken ps.ends remaining bs next is in
      go_on-fuel (length bs) (parts_by ps f) (parts_by ps g) (λ remaining more fewer. parts_by-fuel f g remaining more (omega arith) (omega arith)) next.0 next.1 few)

-- a key and a value take a byte at the least
pub pair_taken : {Item : Type 0} (allows : ℕ → Bool) (p : List ℕ → Reads Item) → ((bs : List ℕ) (x : Item × List ℕ) → p bs ≡ Ok x → length x.1 < length bs) → (bs : List ℕ) (x : (Item × Item) × List ℕ) → pair_at allows p bs ≡ Ok x → length x.1 < length bs
unfolding pair_at
pair_taken allows p takes bs x is =
    let a = bind_ok (key_at allows p bs) (λ k. p k.1 >>= λ v. Ok ((k.0, v.0), v.1)) x is in
    let b = bind_ok (p a.0.1) (λ v. Ok ((a.0.0, v.0), v.1)) x a.2 in
    let fewer = takes bs a.0 (key_read allows p bs a.0 a.1).1 in
    let fewest = takes a.0.1 b.0 b.1 in
    let same = ok_is ((a.0.0, b.0.0), b.0.1) x b.2 in
    omega (arith, ap (λ (y : (_ × _) × List ℕ). length y.1) same)
