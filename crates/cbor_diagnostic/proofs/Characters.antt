-- The digits of bytes, and escapes.
use Rattle.std.proofs.Common.{◌≡◌, ℕ, ◌+◌, ◌<◌, Bool, true, false, cond, List, [], ◌∷◌, ◌++◌, length, get_or, take, flat_map, Option, Some, None, sym, ap, ◌∙◌, append-nil, codes, encode_utf8}
use Rattle.std.proofs.lemmas.Grind.{flat_map-append}
use Rattle.std.proofs.lemmas.List.{take_more}
use Rattle.std.specs.Char.{is_control}
use Rattle.cbor_diagnostic.specs.Texts.{hex_byte, escape_letter, escaped, escaped_with}

-- one element more
pub flat_map_next : (f : ℕ → List ℕ) (xs : List ℕ) (i : ℕ) → i < length xs → flat_map f (take i xs) ++ f (get_or xs i 0) ≡ flat_map f (take (i + 1) xs)
flat_map_next f xs i lt =
    sym (ap (flat_map f) (take_more xs i 0 lt) ∙ flat_map-append f (take i xs) (get_or xs i 0 ∷ []) ∙ ap (λ (ys : List ℕ). flat_map f (take i xs) ++ ys) (append-nil (f (get_or xs i 0))))

pub flat_map_push : (f : ℕ → List ℕ) (xs : List ℕ) (x : ℕ) → flat_map f xs ++ f x ≡ flat_map f (xs ++ x ∷ [])
flat_map_push f xs x = sym (flat_map-append f xs (x ∷ []) ∙ ap (λ (ys : List ℕ). flat_map f xs ++ ys) (append-nil (f x)))

pub by_letter : (c : ℕ) (o : Option ℕ) → o ≡ escape_letter c → escaped_with o c ≡ escaped c
by_letter c o e = ap (λ (x : Option ℕ). escaped_with x c) e

pub control_text : (c : ℕ) (b : Bool) → b ≡ is_control c → b ≡ true → codes "\\u00" ++ hex_byte c ≡ escaped_with None c
control_text c b e t = ap (λ (x : Bool). cond x (codes "\\u00" ++ hex_byte c) (encode_utf8 c)) (sym t ∙ e)

pub plain_text : (c : ℕ) (b : Bool) → b ≡ is_control c → b ≡ false → encode_utf8 c ≡ escaped_with None c
plain_text c b e f = ap (λ (x : Bool). cond x (codes "\\u00" ++ hex_byte c) (encode_utf8 c)) (sym f ∙ e)
