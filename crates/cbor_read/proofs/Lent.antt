-- Less said of what a borrow leaves. Assumes `Logic`.
use Rattle.std.specs.Prelude.{⊤}
use mathlib.Core.Option.{none}
use seplogic.Ra.Ura.{Ura}
use base.Logic.{SProp, all, all_i, emp, emp∗, ent, ex_e, ex_i, sep, snd∗, via, wand, wand_i}
use borrow.Fn.Refines.{Gives, Turns}
use base.Fml.{GName}
use types.Logic.{Logic, sem}
use denote.RattleType.{RattleType}
use denote.Follow.{follows_by, follows_so, such_by}

module _ {M : Type 1} {𝓤 : Ura M} (𝓛 : Logic 𝓤) (R : RattleType) (γ : GName) (P Q : R.Denot → Type 0) where
  pub rests_less : ((v : R.Denot) → P v → Q v)
      → ent 𝓤 (sem 𝓛 (follows_so R R γ none (λ _ _. ⊤) P)) (sem 𝓛 (follows_so R R γ none (λ _ _. ⊤) Q))
  unfolding such_by
  rests_less less = ex_e 𝓤 _ (λ s. ex_i 𝓤
      (λ (t : (p : (R.Denot → R.Denot) × R.Denot) × ((w : R.Denot) → ⊤) × Q p.1). sem 𝓛 (follows_by R.Denot R.Denot R.coded.code R.coded.code γ none t.0.0 t.0.1))
      (s.0, s.1, less s.0.1 s.2))

-- A method's clauses give its trait's, each at the same result.
pub meets_by : {M : Type 1} (𝓤 : Ura M) (R X : Type 0) (D D' : R → X → SProp 𝓤) → ((r : R) (e : X) → ent 𝓤 (D r e) (D' r e))
    → Gives 𝓤 (emp 𝓤) (Unit {0}) (λ g. emp 𝓤) (λ g. Turns 𝓤 R X D D')
meets_by 𝓤 R X D D' less =
    let W : SProp 𝓤 = Turns 𝓤 R X D D' in
    let kept : ent 𝓤 (emp 𝓤) W = all_i 𝓤 (λ (r : R). all 𝓤 (λ (e : X). wand 𝓤 (D r e) (D' r e))) (λ r. all_i 𝓤 (λ (e : X). wand 𝓤 (D r e) (D' r e)) (λ e.
    wand_i 𝓤 (emp 𝓤) (D r e) (D' r e) (via 𝓤 (D r e) (snd∗ 𝓤 (emp 𝓤) (D r e)) (less r e)))) in
    via 𝓤 (sep 𝓤 (emp 𝓤) W) (via 𝓤 W kept (emp∗ 𝓤 W)) (ex_i 𝓤 (λ (g : Unit {0}). sep 𝓤 (emp 𝓤) W) tt)
