-- No spelling of a well-formed item begins another's.
use Rattle.std.proofs.Common.{◌≡◌, ℕ, ◌+◌, ◌≤◌, true, false, List, [], ◌++◌, length, Ok, refl, sym, ap, subst, ◌∙◌, arith}
use Rattle.std.proofs.lemmas.List.{append-nil}
use Rattle.cbor_model.specs.Raw.{Raw, Raws, RawPairs, depth, IsWellFormed, EachKey}
use Rattle.cbor_model.specs.Spelling.{spell}
use Rattle.cbor_model.specs.Reader.{Reading, item_at}
use Rattle.cbor_model.proofs.reader.ReaderSteps.{ok_is, BeginsWith}
use Rattle.cbor_model.specs.RawReader.{raws_where}
use Rattle.cbor_model.proofs.reader.FirstBytes.{IsBegun, begun, EachKey-map, EachKey-from_each}
use Rattle.cbor_model.proofs.reader.RawReader.{made-itself}
use Rattle.cbor_model.proofs.reader.FoundParts.{Passes, MayBeKey}
use Rattle.cbor_model.proofs.reader.Again.{lets, again}
use Rattle.cbor_model.proofs.reader.Texts.{EachText-from_each}

-- items as they are spelled, of any texts and keys
abbrev pub raw_items : Reading Raw Raws RawPairs
raw_items = raws_where (λ left n. true) (λ b. true) (λ n. false) (λ b. true)

begins_any : (bs : List ℕ) → IsBegun bs → BeginsWith (λ b. true) bs
begins_any bs starts = subst (BeginsWith (λ b. true)) (sym starts.is) refl

-- each key begins so
keys_begin : (r : Raw) → IsWellFormed r → EachKey (MayBeKey raw_items) r
keys_begin r fits =
    EachKey-map (λ k. Unit {0}) (MayBeKey raw_items) (λ k fits any. begins_any (spell k) (begun k fits)) r fits
    (EachKey-from_each (λ k. Unit {0}) (λ k. tt) r)

-- reading gives the item itself
pub item_again : (r : Raw) (levels : ℕ) (rest : List ℕ) → IsWellFormed r → depth r ≤ levels → item_at raw_items levels (spell r ++ rest) ≡ Ok (r, rest)
item_again r levels rest fits nests =
    again raw_items (length (spell r ++ rest)) (λ left n few within. refl) (λ a b few holds. refl) r levels rest fits nests (lets raw_items (λ a b few holds. refl) r (EachText-from_each (Passes raw_items) (λ b. refl) r) (keys_begin r fits) refl) (omega arith)
    ∙ ap (λ (i : Raw). Ok (i, rest)) (made-itself raw_items.has_room raw_items.is_text raw_items.exceeds raw_items.allows r)

-- where two spellings begin the same bytes, they are one item's
pub same_beginning : (r s : Raw) (x y : List ℕ) → IsWellFormed r → IsWellFormed s → spell r ++ x ≡ spell s ++ y → (r ≡ s) × (x ≡ y)
same_beginning r s x y fits fits' same =
    let levels = depth r + depth s in
    let one = item_again r levels x fits (omega arith) in
    let other = item_again s levels y fits' (omega arith) in
    let both : (r, x) ≡ (s, y) = ok_is (r, x) (s, y) (sym one ∙ ap (item_at raw_items levels) same ∙ other) in
    (ap (λ (p : Raw × List ℕ). p.0) both, ap (λ (p : Raw × List ℕ). p.1) both)

-- no spelling begins another, and equal spellings are one item's
pub one_spelling : (r s : Raw) (more : List ℕ) → IsWellFormed r → IsWellFormed s → spell r ++ more ≡ spell s → (r ≡ s) × (more ≡ [])
one_spelling r s more fits fits' same = same_beginning r s more [] fits fits' (same ∙ sym (append-nil (spell s)))
