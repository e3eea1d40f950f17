-- More bytes behind those that were gone through.
use Rattle.std.proofs.Common.{◌≡◌, ◌∙◌, ◌<◌, ◌≤◌, ◌+◌, ◌^◌, ℕ, Bool, true, false, cond, List, [], ◌∷◌, ◌++◌, length, drop, Option, Some, None, Result, Ok, Err, IfOk, IfSome, refl, sym, ap, subst, arith, inl, inr}
use Rattle.std.proofs.lemmas.Bool.{cases_lt}
use Rattle.std.proofs.lemmas.List.{append_assoc, length-append, drop-append-le}
use Rattle.cbor_model.specs.Reader.{item_at}
use Rattle.cbor_model.specs.Spelling.{spell}
use Rattle.cbor_model.proofs.facts.Reader.{taken}
use Rattle.cbor_io.specs.declared.error.Error.{Error}
use Rattle.cbor_decode.specs.Heads.{passed}
use Rattle.cbor_decode.proofs.facts.Steps.{passed_was}
use Rattle.cbor_pushed.specs.ItemAtFront.{FindsItem, HasItem, HasNoItem}
use Rattle.cbor_pushed.specs.Rests.{all_at, reading}
use Rattle.cbor_pushed.specs.Scanned.{ChunksPassed, Follows, InChunks, HasScanned, chunks_to}
use Rattle.cbor_pushed.specs.declared.rest.Rest.{Rest}
use Rattle.cbor_pushed.specs.declared.scan.Scan.{Scan}
use Rattle.cbor_pushed.proofs.ForGood.{is_front}
use Rattle.cbor_pushed.proofs.ScanSteps.{passed_again}

in_chunks_more : (major n : ℕ) (bs piece : List ℕ) → InChunks major n bs → InChunks major n (bs ++ piece)
in_chunks_more major n bs piece i = record {
  of_strings = i.of_strings;
  tail = i.tail ++ piece;
  begins = ap (λ (l : List ℕ). l ++ piece) i.begins;
  some = i.some;
  within = omega (arith, i.within, length-append bs piece);
  have = i.have;
  stops = λ more f h.
      let rest : drop n (bs ++ piece) ++ more ≡ drop n bs ++ (piece ++ more) = ap (λ (l : List ℕ). l ++ more) (drop-append-le n bs piece i.within) ∙ append_assoc (drop n bs) piece more in
      ap (chunks_to 0 major) (append_assoc i.tail piece more) ∙ i.stops (piece ++ more) f (ap (chunks_to i.have major) (sym rest) ∙ h);
}

chunks_more : (n : ℕ) (bs piece : List ℕ) → ChunksPassed n bs → ChunksPassed n (bs ++ piece)
chunks_more n bs piece (inl none) = inl none
chunks_more n bs piece (inr i) = inr (i.0, in_chunks_more i.0 n bs piece i.1)

module _ (levels at chunks : ℕ) (innermost : Rest) (around : List Rest) where
  stands_more : (front piece : List ℕ) → HasScanned levels at chunks innermost around front → HasScanned levels at chunks innermost around (front ++ piece)
  stands_more front piece s =
      let behind : drop at (front ++ piece) ≡ drop at front ++ piece = drop-append-le at front piece s.within in
      record {
        within = omega (arith, s.within, length-append front piece);
        nested = s.nested;
        passed_chunks = subst (ChunksPassed chunks) (sym behind) (chunks_more chunks (drop at front) piece s.passed_chunks);
        same = λ more short.
            let P : List ℕ → List ℕ → Type 0 = λ all here. passed (item_at (reading (length all)) levels all) ≡ all_at (length all) levels around innermost here in
            let all : (front ++ piece) ++ more ≡ front ++ (piece ++ more) = append_assoc front piece more in
            let here : drop at (front ++ piece) ++ more ≡ drop at front ++ (piece ++ more) = ap (λ (l : List ℕ). l ++ more) behind ∙ append_assoc (drop at front) piece more in
            let fits : length (front ++ (piece ++ more)) < 2 ^ 64 = subst (λ (l : List ℕ). length l < 2 ^ 64) all short in
            subst (λ (l : List ℕ). P l (drop at (front ++ piece) ++ more)) (sym all) (subst (λ (l : List ℕ). P (front ++ (piece ++ more)) l) (sym here) (s.same (piece ++ more) fits));
      }

  -- behind those that were taken, where memory was had for them
  pub pushed_stands : (had : Bool) (start : ℕ) (old new piece : List ℕ) → new ≡ cond had (old ++ piece) old → start ≤ length old → HasScanned levels at chunks innermost around (drop start old)
      → (start ≤ length new) × HasScanned levels at chunks innermost around (drop start new)
  pushed_stands true start old new piece is within s =
      let here : drop start new ≡ drop start old ++ piece = ap (λ (l : List ℕ). drop start l) is ∙ drop-append-le start old piece within in (
        omega (arith, within, ap length is, length-append old piece),
        subst (HasScanned levels at chunks innermost around) (sym here) (stands_more (drop start old) piece s),
      )
  pushed_stands false start old new piece is within s =
      (omega (arith, within, ap length is), subst (λ (l : List ℕ). HasScanned levels at chunks innermost around (drop start l)) (sym is) s)

-- a scan stands where it stood
pub follows_more : (levels : ℕ) (scan : Scan) (front piece : List ℕ) → Follows levels scan front → Follows levels scan (front ++ piece)
follows_more levels scan = stands_more levels scan.at scan.chunks scan.innermost scan.around.items

-- an item has a byte at the least
item_within : (levels : ℕ) (front : List ℕ) (n : ℕ) → length front < 2 ^ 64 → HasItem levels front n → (0 < n) × (n ≤ length front)
item_within levels front n short h =
    let read = passed_again levels (length front) front h.rest h.item short (omega arith) h.begins in
    let v = passed_was (item_at (reading (length front)) levels front) h.rest read in
    let fewer = taken (reading (length front)) levels front (v.0, h.rest) v.1 in
    let long = omega_long h in
    (omega (arith, fewer, long, h.ends), omega (arith, long, h.ends))
  where
    omega_long : (h : HasItem levels front n) → length front ≡ length (spell h.item) + length h.rest
    omega_long h = ap length h.begins.spelled ∙ length-append (spell h.item) h.rest

pub found_within : (levels : ℕ) (front : List ℕ) (r : Result (Option ℕ) Error) → length front < 2 ^ 64 → FindsItem levels front r → IfOk r (λ o. IfSome o (λ n. (0 < n) × (n ≤ length front)))
found_within levels front (Ok (Some n)) short h = item_within levels front n short h
found_within levels front (Ok None) short h = tt
found_within levels front (Err e) short h = tt

-- no item has no byte
pub none_of_none : (levels : ℕ) → HasNoItem levels []
none_of_none levels item rest begins =
    let within = item_within levels [] (length (spell item)) (omega arith) (record { item = item; rest = rest; begins = begins; ends = refl }) in
    absurd (omega (arith, within.0, within.1))

-- an item that the last byte makes whole ends there
pub ends_last : (levels b end : ℕ) (front : List ℕ) → HasNoItem levels front → HasItem levels (front ++ (b ∷ [])) end → end ≡ length (front ++ (b ∷ []))
ends_last levels b end front none h =
    elim (cases_lt (length front) end) [
      | inl longer ↦ omega (arith, longer, h.ends, ap length h.begins.spelled, length-append (spell h.item) h.rest, length-append front (b ∷ []))
      | inr shorter ↦
          absurd (none h.item (drop (length (spell h.item)) front)
          (record { spelled = is_front (spell h.item) h.rest front (b ∷ []) (sym h.begins.spelled) (omega (arith, shorter, h.ends)); acceptable = h.begins.acceptable }))
    ]
