-- Two spellings at the front of the same bytes are one item's.
use Rattle.std.proofs.Common.{◌≡◌, ◌⊎◌, inl, inr, ℕ, suc, ◌<◌, ◌≤◌, List, [], ◌∷◌, ◌++◌, length, refl, sym, ap, ◌∙◌, arith}
use Rattle.std.proofs.lemmas.Bool.{cases_lt}
use Rattle.std.proofs.lemmas.List.{append_cancel_left}
use Rattle.cbor_model.specs.Raw.{Raw, AreBytes, IsWellFormed}
use Rattle.cbor_model.specs.Spelling.{spell}
use Rattle.cbor_model.proofs.facts.Laws.{one_spelling}

-- what follows in bytes are bytes
pub behind_bytes : (front rest : List ℕ) → AreBytes (front ++ rest) → AreBytes rest
behind_bytes [] rest fits = fits
behind_bytes (b ∷ front) rest fits = behind_bytes front rest (λ i. fits (suc i))

-- one list begins another
record Begins (a b : List ℕ) : Type 0 where
  more : List ℕ
  is : a ++ more ≡ b

-- of two fronts of one list, the shorter begins the other
shorter_begins : (a b x y : List ℕ) → a ++ x ≡ b ++ y → length a ≤ length b → Begins a b
shorter_begins [] b x y same short = record { more = b; is = refl }
shorter_begins (p ∷ a) [] x y same short = absurd (omega arith)
shorter_begins (p ∷ a) (q ∷ b) x y same short =
    let first : p ≡ q = cc in
    let others : a ++ x ≡ b ++ y = cc in
    let more = shorter_begins a b x y others (omega arith) in
    record { more = more.more; is = ap (λ (l : List ℕ). p ∷ l) more.is ∙ ap (λ (n : ℕ). n ∷ b) first }

pub same_beginning : (r s : Raw) (x y : List ℕ) → IsWellFormed r → IsWellFormed s → spell r ++ x ≡ spell s ++ y → (r ≡ s) × (x ≡ y)
same_beginning r s x y fits fits' same = one (cases_lt (length (spell s)) (length (spell r)))
  where
    from_same : (r ≡ s) → (r ≡ s) × (x ≡ y)
    from_same is = (is, append_cancel_left (spell r) x y (same ∙ ap (λ (t : Raw). spell t ++ y) (sym is)))

    one : (length (spell s) < length (spell r)) ⊎ (length (spell r) ≤ length (spell s)) → (r ≡ s) × (x ≡ y)
    one (inl longer) =
        let b = shorter_begins (spell s) (spell r) y x (sym same) (omega arith) in
        from_same (sym (one_spelling s r b.more fits' fits b.is).0)
    one (inr short) =
        let b = shorter_begins (spell r) (spell s) x y same short in
        from_same (one_spelling r s b.more fits fits' b.is).0
