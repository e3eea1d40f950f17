-- The byte at the front, of which nothing is taken.
use Rattle.std.proofs.Common.{◌≡◌, ℕ, List, [], ◌∷◌, take, Option, Some, IfSome, MatchOption, sym, ap, subst}
use Rattle.cbor_read.specs.Source.{Input, Stays}
use Rattle.cbor_decode.specs.Gives.{Step}
use Rattle.cbor_decode.proofs.facts.Steps.{none_step}

-- what is said of the byte at the front
abbrev pub Front : Input → Option ℕ → Type 0
Front s o = MatchOption o (IfSome s.to_come (λ bs. bs ≡ [])) (λ b. IfSome s.to_come (λ bs. take 1 bs ≡ b ∷ []))

-- the byte stands at the front, and nothing was taken
pub record IsFirst (b : ℕ) (bs rest : List ℕ) : Type 0 where
  pub others : List ℕ
  pub is : bs ≡ b ∷ others
  pub same : rest ≡ bs

stands : (b : ℕ) (bs rest : List ℕ) → take 1 bs ≡ b ∷ [] → bs ≡ rest → IsFirst b bs rest
stands b [] rest front same = absurd cc
stands b (c ∷ bs) rest front same = record { others = bs; is = ap (λ (n : ℕ). n ∷ bs) (one_is c b front); same = sym same }
  where
    one_is : (x y : ℕ) → x ∷ [] ≡ y ∷ [] → x ≡ y
    one_is x y e = cc

front_is : (s : Input) (o : Option ℕ) (b : ℕ) (bs : List ℕ) → o ≡ Some b → s.to_come ≡ Some bs → Front s o → take 1 bs ≡ b ∷ []
front_is s o b bs some is h =
    let h' : IfSome s.to_come (λ bs. take 1 bs ≡ b ∷ []) = subst (Front s) some h in
    subst (λ (x : Option (List ℕ)). IfSome x (λ bs. take 1 bs ≡ b ∷ [])) is h'

pub front_step : (s t : Input) (o : Option ℕ) (b : ℕ) → o ≡ Some b → Stays s t → Front s o → Step s t (λ l bs rest. IsFirst b bs rest)
front_step s t o b some h front =
    let step = none_step s t h.bytes h.count h.room in
    record {
      took = step.took;
      reported = λ bs reports.
          let got = step.reported bs reports in
          record { rest = got.rest; reports = got.reports; total = got.total; holds = stands b bs got.rest (front_is s o b bs some reports.is front) got.holds };
    }
