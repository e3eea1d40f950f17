-- Items that aren't decoded, as their bytes.
use Rattle.std.proofs.Common.{◌≡◌, ◌∙◌, ◌<◌, ◌^◌, ℕ, List, [], ◌++◌, length, refl, sym, ap, append-nil, arith}
use Rattle.std.proofs.lemmas.List.{length-append, nil_from_length}
use Rattle.cbor_model.specs.Encoding.{IsEncoding}
use Rattle.cbor_model.specs.Raw.{Raw}
use Rattle.cbor_model.specs.Reader.{Reads}
use Rattle.cbor_model.specs.Spelling.{spell}
use Rattle.cbor_model.proofs.facts.Reader.{is_encoding}
use Rattle.cbor_decode_as.specs.Takes.{IsNotRead}
use Rattle.cbor_pushed.specs.ItemAtFront.{HasItem}

-- what isn't read as bytes isn't read as what is seen as them
pub none_seen : {A B : Type 0} (reads : Raw → A → Type 0) (seen : B → A) (read : Reads Raw) → IsNotRead reads read → IsNotRead (λ r x. reads r (seen x)) read
none_seen reads seen read none x rest got = none (seen x) rest (record { item = got.item; is = got.is; means = got.means })

-- bytes that are an item, with none behind it, encode it
pub gathered_encodes : {levels : ℕ} (bytes : List ℕ) → length bytes < 2 ^ 64 → HasItem levels bytes (length bytes) → IsEncoding bytes
gathered_encodes bytes short has =
    let begins = has.begins in
    let nothing : has.rest ≡ [] = nil_from_length has.rest (omega (arith, has.ends, ap length begins.spelled, length-append (spell has.item) has.rest)) in
    let same : bytes ≡ spell has.item = begins.spelled ∙ ap (λ (l : List ℕ). spell has.item ++ l) nothing ∙ append-nil (spell has.item) in
    is_encoding bytes has.item short (record { spelled = sym same; fits = begins.acceptable.fits; texts = begins.acceptable.texts })
