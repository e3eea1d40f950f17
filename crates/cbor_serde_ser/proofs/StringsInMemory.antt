-- The strings that a program holds may be sent.
use Rattle.std.proofs.Common.{◌≡◌, ◌<◌, ◌^◌, ℕ, suc, Bool, true, false, List, [], ◌∷◌, length, refl}
use Rattle.std.specs.Prelude.{◌&&◌, nat_lt}
use Rattle.std.specs.Str.{is_utf8}
use Rattle.std.specs.List.{list_all}
use Rattle.std.proofs.lemmas.Bool.{lt-ltb}
use Rattle.std.proofs.lemmas.Str.{is_utf8-from_IsUtf8}
use Rattle.cbor_model.specs.Raw.{AreBytes}
use Rattle.cbor_model.specs.InMemory.{IsByteString, IsTextString}
use Rattle.cbor_serde_ser.specs.Document.{is_bytes, is_text}

both : (a b : Bool) → a ≡ true → b ≡ true → (a && b) ≡ true
both true b e f = f
both false b e f = absurd cc

all_small : (bs : List ℕ) → AreBytes bs → list_all (λ b. nat_lt b 256) bs ≡ true
all_small [] h = refl
all_small (b ∷ bs) h = both (nat_lt b 256) (list_all (λ b. nat_lt b 256) bs) (lt-ltb b 256 (h 0)) (all_small bs (λ i. h (suc i)))

pub bytes_pass : (bs : List ℕ) → IsByteString bs → is_bytes bs ≡ true
bytes_pass bs h = both (nat_lt (length bs) (2 ^ 64)) (list_all (λ b. nat_lt b 256) bs) (lt-ltb (length bs) (2 ^ 64) h.0) (all_small bs h.1)

pub text_passes : (bs : List ℕ) → IsTextString bs → is_text bs ≡ true
text_passes bs h = both (is_bytes bs) (is_utf8 bs) (bytes_pass bs h.0) (is_utf8-from_IsUtf8 bs h.1)

pub count_passes : (n : ℕ) → n < 2 ^ 64 → nat_lt n (2 ^ 64) ≡ true
count_passes n h = lt-ltb n (2 ^ 64) h
