-- A path to a value within a value, as JSON Pointer has it (RFC 6901): a token names a text key of
-- a map, or a position in an array.
use Rattle.std.specs.Prelude.{◌≡◌, ℕ, ◌^◌, ◌==◌, ◌&&◌, nat_lt, List, [], ◌∷◌, Option, Some, None}
use Rattle.std.specs.Prelude.{if◌then◌else◌, option_and_then, codes, refl}
use Rattle.std.specs.Fmt.{decimal, digits}
use Rattle.std.specs.Str.{bytes_eq}
use Rattle.std.specs.Str.Parse.{digits_value}
use Rattle.cbor_model.specs.Plain.{Val, text, array, map}
use Rattle.cbor_value.specs.Lookup.{value_of, item_at}

-- a byte before the first token
abbrev pub onto : ℕ → List (List ℕ) → List (List ℕ)
onto x [] = (x ∷ []) ∷ []
onto x (t ∷ ts) = (x ∷ t) ∷ ts

-- what stands between the slashes
unfoldable pub tokens : List ℕ → List (List ℕ)
tokens [] = [] ∷ []
tokens (x ∷ rest) = if x == 47 then [] ∷ tokens rest else onto x (tokens rest)

-- the text that a token stands for: ~1 is a slash, and ~0 a tilde
unfoldable pub unescape : List ℕ → List ℕ
unescape [] = []
unescape (x ∷ []) = x ∷ []
unescape (x ∷ y ∷ rest) =
    if x == 126 && y == 49 then 47 ∷ unescape rest else
    if x == 126 && y == 48 then 126 ∷ unescape rest else
    x ∷ unescape (y ∷ rest)

-- the number below 2^64 that a token is in decimal, with no leading zero
unfoldable pub position_of : List ℕ → Option ℕ
position_of t =
    let n = digits_value 10 t in
    if nat_lt n (2 ^ 64) && bytes_eq t (decimal n) then Some n else None

-- what a token names in a value
abbrev pub step : List ℕ → Val → Option Val
step t (map ps) = value_of (text (unescape t)) (map ps)
step t (array vs) = option_and_then (λ i. item_at i vs) (position_of t)
step t _ = None

-- what the tokens lead to, one after the other
abbrev pub walk : List (List ℕ) → Val → Option Val
walk [] v = Some v
walk (t ∷ ts) v = option_and_then (walk ts) (step t v)

-- what the path leads to: it is empty, or begins with a slash
abbrev pub pointer : List ℕ → Val → Option Val
pointer [] v = Some v
pointer (x ∷ rest) v = if x == 47 then walk (tokens rest) v else None

-- ---- examples

-- RFC 6901, section 5, has the paths "/foo/0", "/", "/a~1b" and "/m~0n"
two_tokens : tokens (codes "foo/0") ≡ codes "foo" ∷ codes "0" ∷ []
unfolding tokens
two_tokens = refl

empty_token : tokens (codes "") ≡ codes "" ∷ []
unfolding tokens
empty_token = refl

slash : unescape (codes "a~1b") ≡ codes "a/b"
unfolding unescape
slash = refl

tilde : unescape (codes "m~0n") ≡ codes "m~n"
unfolding unescape
tilde = refl

-- section 4: ~01 is ~1, and never a slash
tilde_one : unescape (codes "~01") ≡ codes "~1"
unfolding unescape
tilde_one = refl

twelve : position_of (codes "12") ≡ Some 12
unfolding position_of digits
twelve = refl

leading_zero : position_of (codes "01") ≡ None
unfolding position_of digits
leading_zero = refl
