-- Bytes that encode one item are its spelling, and its spelling encodes it.
use Rattle.std.proofs.Common.{◌≡◌, ◌∙◌, ◌^◌, ◌<◌, ◌-◌, ℕ, Bool, true, false, cond, eqb, List, [], ◌∷◌, ◌++◌, length, None, Result, Ok, Err, IsUtf8, refl, sym, ap, subst, append-nil, arith}
use Rattle.std.specs.Prelude.{is_ok}
use Rattle.cbor_model.specs.Encoding.{Encodes, IsEncoding, encoded_item, item_of, item_or_null}
use Rattle.cbor_model.specs.Formats.{all_formats}
use Rattle.cbor_model.specs.Raw.{Raw, AreBytes, IsWellFormed, EachText}
use Rattle.cbor_model.specs.RawReader.{raws_in}
use Rattle.cbor_model.specs.Reader.{Reads, Fault, item_at, whole}
use Rattle.cbor_model.specs.Refusal.{trailing_data}
use Rattle.cbor_model.specs.Spelling.{spell}
use Rattle.std.proofs.Math.Dec.{eqb-suc-zero}
use Rattle.cbor_model.proofs.reader.FirstBytes.{all_allowed}
use Rattle.cbor_model.proofs.reader.RawReader.{item_again, item_found}
use Rattle.cbor_model.proofs.documents.InDocuments.{depth-le}

no_more : (bs : List ℕ) → length bs ≡ 0 → bs ≡ []
no_more [] none = refl
no_more (b ∷ bs) none = absurd (omega (arith, none))

-- what was read whole was read, and nothing is left
read_whole : (read : Reads Raw) → is_ok (whole read) ≡ true → read ≡ Ok (item_or_null (whole read), [])
read_whole (Err f) is = absurd cc
read_whole (Ok (r, [])) is = refl
read_whole (Ok (r, b ∷ bs)) is = absurd (refused (eqb (length (b ∷ bs)) 0) (Ok r) (Err (record { why = trailing_data; left = length (b ∷ bs) - 1 })) (eqb-suc-zero (length bs)) refl is)
  where
    refused : (c : Bool) (x y : Result Raw Fault) → c ≡ false → is_ok y ≡ false → is_ok (cond c x y) ≡ true → ⊥
    refused true x y not_all stops is = cc
    refused false x y not_all stops is = cc

pub encoding_of : (bs : List ℕ) → AreBytes bs → IsEncoding bs → Encodes bs (encoded_item bs)
unfolding item_of
encoding_of bs fits is =
    let read = read_whole (item_at (raws_in all_formats (length bs) None) (length bs) bs) is in
    let begins = (item_found all_formats (length bs) None (length bs) bs [] (encoded_item bs) fits read).0 in
    record {
      spelled = sym (begins.spelled ∙ append-nil (spell (encoded_item bs)));
      fits = begins.acceptable.fits;
      texts = begins.acceptable.texts;
    }

pub is_encoding : (bs : List ℕ) (r : Raw) → length bs < 2 ^ 64 → Encodes bs r → IsEncoding bs
unfolding item_of
is_encoding bs r short e =
    let deep = depth-le r in
    let read = item_again all_formats (length bs) None (length bs) bs [] r short (omega arith) tt
    (record { spelled = sym (append-nil (spell r) ∙ e.spelled); acceptable = record { fits = e.fits; nests = omega (arith, deep, ap length e.spelled); texts = e.texts } })
    (all_allowed r) in
    ap (λ (read : Reads Raw). is_ok (whole read)) read
