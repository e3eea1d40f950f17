-- The texts of an item, and the two tests of UTF-8.
use Rattle.std.specs.Prelude.{◌==◌}
use Rattle.std.proofs.Common.{◌≡◌, ℕ, zero, suc, Bool, true, false, cond, List, length, take}
use Rattle.std.proofs.Common.{IsUtf8, refl, ap, subst, ◌∙◌}
use Rattle.std.specs.Str.{is_utf8}
use Rattle.std.specs.Str.Lossy.{utf8_valid_len, valid_len_up_to}
use Rattle.std.proofs.lemmas.Bool.{eqb-true, eq-eqb}
use Rattle.std.proofs.Math.Seq.{take-length}
use Rattle.std.proofs.lemmas.Str.{utf8_valid_len-IsUtf8, IsUtf8-from_is_utf8, IsUtf8-nil}
use Rattle.cbor_model.specs.Raw as raw
use Rattle.cbor_model.specs.Raw.{Raw, Raws, no_raws, RawPairs, no_raw_pairs, raw_pair, EachText}
use Rattle.cbor_model.specs.Raw.{EachTextOfAll, EachTextOfPairs, joined}

module _ (P Q : List ℕ → Type 0) (weaker : (b : List ℕ) → P b → Q b) where
  mutual
    pub EachText-map : (r : Raw) → EachText P r → EachText Q r
    EachText-map (raw.text c) texts = weaker c.bytes texts
    EachText-map (raw.text_chunks cs) texts = weaker (joined cs) texts
    EachText-map (raw.array l rs) texts = EachTextOfAll-map rs texts
    EachText-map (raw.map l ps) texts = EachTextOfPairs-map ps texts
    EachText-map (raw.tag w n r) texts = EachText-map r texts
    EachText-map _ texts = tt

    pub EachTextOfAll-map : (rs : Raws) → EachTextOfAll P rs → EachTextOfAll Q rs
    EachTextOfAll-map no_raws texts = tt
    EachTextOfAll-map (raw.raw r rs) texts = (EachText-map r texts.0, EachTextOfAll-map rs texts.1)

    pub EachTextOfPairs-map : (ps : RawPairs) → EachTextOfPairs P ps → EachTextOfPairs Q ps
    EachTextOfPairs-map no_raw_pairs texts = tt
    EachTextOfPairs-map (raw_pair k v ps) texts = (EachText-map k texts.0, EachText-map v texts.1, EachTextOfPairs-map ps texts.2)

module _ (P : List ℕ → Type 0) (each : (b : List ℕ) → P b) where
  mutual
    pub EachText-from_each : (r : Raw) → EachText P r
    EachText-from_each (raw.text c) = each c.bytes
    EachText-from_each (raw.text_chunks cs) = each (joined cs)
    EachText-from_each (raw.array l rs) = EachTextOfAll-from_each rs
    EachText-from_each (raw.map l ps) = EachTextOfPairs-from_each ps
    EachText-from_each (raw.tag w n r) = EachText-from_each r
    EachText-from_each _ = tt

    pub EachTextOfAll-from_each : (rs : Raws) → EachTextOfAll P rs
    EachTextOfAll-from_each no_raws = tt
    EachTextOfAll-from_each (raw.raw r rs) = (EachText-from_each r, EachTextOfAll-from_each rs)

    pub EachTextOfPairs-from_each : (ps : RawPairs) → EachTextOfPairs P ps
    EachTextOfPairs-from_each no_raw_pairs = tt
    EachTextOfPairs-from_each (raw_pair k v ps) = (EachText-from_each k, EachText-from_each v, EachTextOfPairs-from_each ps)

-- ---- UTF-8

passed_or : (P : ℕ → Type 0) (b : Bool) (x y : ℕ) → (b ≡ true → P x) → P y → P (cond b x y)
passed_or P true x y p q = p refl
passed_or P false x y p q = q

-- the front that is found is UTF-8
pub valid_front : (bs : List ℕ) (n : ℕ) → IsUtf8 (take (valid_len_up_to bs n) bs)
valid_front bs zero = IsUtf8-nil
valid_front bs (suc n) =
    passed_or (λ (k : ℕ). IsUtf8 (take k bs)) (is_utf8 (take (suc n) bs)) (suc n) (valid_len_up_to bs n) (λ passed. IsUtf8-from_is_utf8 _ passed) (valid_front bs n)

pub IsUtf8-from_valid_len : (bs : List ℕ) → (utf8_valid_len bs == length bs) ≡ true → IsUtf8 bs
unfolding utf8_valid_len
IsUtf8-from_valid_len bs whole =
    let long : valid_len_up_to bs (length bs) ≡ length bs = eqb-true _ _ whole in
    subst (λ (t : List ℕ). IsUtf8 t) (ap (λ (k : ℕ). take k bs) long ∙ take-length bs) (valid_front bs (length bs))

pub valid_len-from_IsUtf8 : (bs : List ℕ) → IsUtf8 bs → (utf8_valid_len bs == length bs) ≡ true
valid_len-from_IsUtf8 bs text = eq-eqb _ _ (utf8_valid_len-IsUtf8 bs text)
