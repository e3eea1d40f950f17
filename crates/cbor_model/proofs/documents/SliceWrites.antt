-- A slice that refuses a piece holds a prefix of all pieces, and where all fit it holds them all.
use Rattle.std.proofs.Common.{◌≡◌, ℕ, ◌-◌, ◌≤◌, Bool, true, false, List, [], ◌∷◌, ◌++◌, length, cond, refl, ap, ◌∙◌, append_assoc, arith}
use Rattle.std.specs.Prelude.{nat_lt}
use Rattle.std.proofs.lemmas.Bool.{ltb-true}
use Rattle.std.proofs.lemmas.List.{length-append}
use Rattle.cbor_model.specs.SliceWrites.{held, whole}

abbrev begins : List ℕ → List ℕ → Type 0
begins front all = (rest : List ℕ) × (front ++ rest ≡ all)

pub holds_beginning : (room : ℕ) (ps : List (List ℕ)) → begins (held room ps) (whole ps)
holds_beginning room [] = ([], refl)
holds_beginning room (p ∷ ps) = by_fit (nat_lt room (length p)) (holds_beginning (room - length p) ps)
  where
    by_fit : (b : Bool) → begins (held (room - length p) ps) (whole ps) → begins (cond b [] (p ++ held (room - length p) ps)) (p ++ whole ps)
    by_fit true h = (p ++ whole ps, refl)
    by_fit false h = (h.0, append_assoc p (held (room - length p) ps) h.0 ∙ ap (λ (z : List ℕ). p ++ z) h.1)

pub holds_all : (room : ℕ) (ps : List (List ℕ)) → length (whole ps) ≤ room → held room ps ≡ whole ps
holds_all room [] fits = refl
holds_all room (p ∷ ps) fits =
    let parts = length-append p (whole ps) in
    by_fit (nat_lt room (length p)) refl (holds_all (room - length p) ps (omega arith))
  where
    by_fit : (b : Bool) → nat_lt room (length p) ≡ b → held (room - length p) ps ≡ whole ps → cond b [] (p ++ held (room - length p) ps) ≡ p ++ whole ps
    by_fit true is h = absurd (omega (arith, ltb-true room (length p) is, length-append p (whole ps), fits))
    by_fit false is h = ap (λ (z : List ℕ). p ++ z) h
