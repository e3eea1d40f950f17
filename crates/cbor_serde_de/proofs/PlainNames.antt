-- A name that is spelled as it is, and has no aliases.
use Rattle.std.proofs.Common.{◌≡◌, ◌↔◌, ℕ, Bool, true, false, List, [], length, IsTrue, Any, inl, inr, Bor, refl, sym, ◌∙◌, ap, subst, arith}
use Rattle.std.specs.Prelude.{◌<◌, ◌+◌, nat_eq, get_or, Option, Some, None, IfSome, MatchBool}
use Rattle.std.specs.Str.{IsUtf8}
use Rattle.std.specs.Cmp.Lexicographic.{pointwise, same_text, other_text}
use Rattle.serde.specs.Names.{StandsFor, NoneBelow, Finds}
use Rattle.serde.proofs.Finding.{first_or_past}
use Rattle.serde.specs.Spelling.{spelled}
use Rattle.serde.specs.declared.name.Case.TheVariants.{AsIs}
use Rattle.serde.specs.declared.name.Name.{Name}
use Rattle.serde.proofs.Spellings.{spelled-AsIs}

none_alike : (key : List ℕ) → Any (λ (a : Bor (List ℕ)). a.now ≡ key) [] → ⊥
none_alike key any = omega (arith, any.2)

spelled_so : (n : Name) (key : List ℕ) → n.skipped ≡ false → n.aliases.now ≡ [] → n.case ≡ AsIs → (n.name.now ≡ key) ↔ StandsFor key n
spelled_so n key shown none as_is =
    let plain : spelled n.case n.kind n.name.now ≡ n.name.now = ap (λ k. spelled k n.kind n.name.now) as_is ∙ spelled-AsIs n.kind n.name.now in (
      (λ is. (shown, inl (sym (plain ∙ is)))),
      (λ h. elim h.1 [
        | inl is ↦ sym (is ∙ plain)
        | inr any ↦ absurd (none_alike key (subst (λ names. Any (λ a. a.now ≡ key) names) none any))
      ]),
    )

same_bytes : (x y key : List ℕ) (b : Bool) → x ≡ y → b ≡ pointwise nat_eq x key → IsTrue b ↔ (y ≡ key)
same_bytes x y key true is e = ((λ h. sym is ∙ same_text x key e), (λ h. refl))
same_bytes x y key false is e = ((λ h. absurd cc), (λ h. absurd (other_text x key e (is ∙ h))))

-- a key of these bytes
pub stands_for : (n : Name) (key x : List ℕ) (b : Bool) → n.skipped ≡ false → n.aliases.now ≡ [] → n.case ≡ AsIs → x ≡ n.name.now → b ≡ pointwise nat_eq x key → IsTrue b ↔ StandsFor key n
stands_for n key x b shown none as_is is e =
    let spelled_is = spelled_so n key shown none as_is in
    let same = same_bytes x n.name.now key b is e in
    ((λ h. spelled_is.0 (same.0 h)), (λ h. same.1 (spelled_is.1 h)))

-- it stands for the name at this place alone, of those up to it
pub first_of : (o : Option Bool) (names : List Name) (key : List ℕ) (at : ℕ) (d : Name) → at < length names → NoneBelow names key at
    → IfSome o (λ b. IsTrue b ↔ StandsFor key (get_or names at d)) → IfSome o (λ b. MatchBool b (Finds names key at) (NoneBelow names key (at + 1)))
first_of None names key at d inside below fits = tt
first_of (Some b) names key at d inside below fits = first_or_past b names key at d inside below fits

-- such a name is UTF-8
pub utf8_key : (x key : List ℕ) (b : Bool) → IsUtf8 x → b ≡ pointwise nat_eq x key → IsTrue b → IsUtf8 key
utf8_key x key true utf8 e h = subst IsUtf8 (same_text x key e) utf8
utf8_key x key false utf8 e h = absurd cc
