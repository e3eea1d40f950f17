-- Words of these bytes, and no others.
use Rattle.std.proofs.Common.{◌≡◌, ◌<◌, ◌≤◌, ℕ, Bool, true, List, [], ◌∷◌, length, map, slice_index_or, String, string_bytes, sym, ap, ap₂, ◌∙◌, arith}
use Rattle.std.specs.Global.{Global}
use Rattle.std.specs.Str.{bytes_eq}
use Rattle.std.proofs.lemmas.Slice.Eq.{bytes_eq-Decides}

abbrev Word : Type 0
Word = String Global

-- a word that was compared with these bytes
pub is_word : (word : Word) (text bytes : List ℕ) (test : Bool) → text ≡ string_bytes word → test ≡ bytes_eq text bytes → test ≡ true → string_bytes word ≡ bytes
is_word word text bytes test is compared same = sym is ∙ (bytes_eq-Decides text bytes).0 (sym compared ∙ same)

pub one_word : (words : List Word) (u : Word) (a : List ℕ) → 1 ≤ length words → length words < 2 → u ≡ slice_index_or words 0 u → string_bytes u ≡ a → map string_bytes words ≡ a ∷ []
one_word [] u a some few is same = absurd (omega (arith, some))
one_word (x ∷ []) u a some few is same = ap (λ (p : List ℕ). p ∷ []) (ap string_bytes (sym is) ∙ same)
one_word (x ∷ y ∷ words) u a some few is same = absurd (omega (arith, few))

pub two_words : (words : List Word) (u v : Word) (a b : List ℕ) → 2 ≤ length words → length words < 3 → u ≡ slice_index_or words 0 u → v ≡ slice_index_or words 1 v → string_bytes u ≡ a → string_bytes v ≡ b → map string_bytes words ≡ a ∷ b ∷ []
two_words [] u v a b some few is is' same same' = absurd (omega (arith, some))
two_words (x ∷ []) u v a b some few is is' same same' = absurd (omega (arith, some))
two_words (x ∷ y ∷ []) u v a b some few is is' same same' =
    ap₂ (λ (p q : List ℕ). p ∷ q ∷ []) (ap string_bytes (sym is) ∙ same) (ap string_bytes (sym is') ∙ same')
two_words (x ∷ y ∷ z ∷ words) u v a b some few is is' same same' = absurd (omega (arith, few))

pub three_words : (words : List Word) (u v w : Word) (a b c : List ℕ) → 3 ≤ length words → length words < 4 → u ≡ slice_index_or words 0 u → v ≡ slice_index_or words 1 v → w ≡ slice_index_or words 2 w → string_bytes u ≡ a → string_bytes v ≡ b → string_bytes w ≡ c → map string_bytes words ≡ a ∷ b ∷ c ∷ []
three_words [] u v w a b c some few is is' is'' same same' same'' = absurd (omega (arith, some))
three_words (x ∷ words) u v w a b c some few is is' is'' same same' same'' =
    ap₂ (λ (p : List ℕ) (ps : List (List ℕ)). p ∷ ps) (ap string_bytes (sym is) ∙ same)
    (two_words words v w b c (omega (arith, some)) (omega (arith, few)) is' is'' same' same'')
