-- What moves within a slice, so that no byte is lost.
use Rattle.std.proofs.Common.{◌≡◌, ℕ, ◌+◌, ◌-◌, ◌≤◌, List, ◌++◌, length, drop, take, sym, ap, subst}
use Rattle.std.proofs.Common.{◌⊎◌, inl, inr, ◌∙◌, append_assoc, take-append-drop, length-take-le}
use Rattle.std.proofs.Common.{length-drop, arith}
use Rattle.std.proofs.Math.Seq.{take-add, take-append-add, take-append_seam, drop-append_seam}
use Rattle.std.proofs.lemmas.List.{drop-drop, drop-take, take-take}
use Rattle.std.proofs.lemmas.List.Sorted.{IsPermutation-append_comm, IsPermutation-append_left}
use Rattle.std.proofs.lemmas.List.Sorted.{IsPermutation-append_right, IsPermutation-trans}
use Rattle.std.proofs.lemmas.List.Sorted.{length_permutation}
use Rattle.std.proofs.lemmas.Slice.{take-put_mid, drop-put_mid}
use Rattle.std.specs.List.Sorted.{IsPermutation}
use borrow.Rule.Slice.PartMut.{put_mid}
use Rattle.cbor_read.proofs.ReaderSteps.{filled_more}

-- ---- parts change places

-- the outer ones of three
ends_exchanged : (xs ys zs : List ℕ) → IsPermutation (xs ++ (ys ++ zs)) (zs ++ (ys ++ xs))
ends_exchanged xs ys zs =
    IsPermutation-trans (xs ++ (ys ++ zs)) ((ys ++ zs) ++ xs) (zs ++ (ys ++ xs))
    (IsPermutation-append_comm xs (ys ++ zs))
    (subst (IsPermutation ((ys ++ zs) ++ xs)) (append_assoc zs ys xs)
    (IsPermutation-append_left xs (ys ++ zs) (zs ++ ys) (IsPermutation-append_comm ys zs)))

-- a list is its first n elements, those up to gap, and those after
three_parts : (bytes : List ℕ) (gap n : ℕ) → n ≤ gap
    → take n bytes ++ (drop n (take gap bytes) ++ drop gap bytes) ≡ bytes
three_parts bytes gap n within =
    sym (append_assoc (take n bytes) (drop n (take gap bytes)) (drop gap bytes))
    ∙ ap (λ l. (l ++ drop n (take gap bytes)) ++ drop gap bytes)
    (sym (take-take n gap bytes within))
    ∙ ap (λ l. l ++ drop gap bytes) (take-append-drop n (take gap bytes))
    ∙ take-append-drop gap bytes

pub exchanged : (bytes after : List ℕ) (gap n : ℕ) → n ≤ gap
    → after ≡ drop gap bytes ++ (drop n (take gap bytes) ++ take n bytes)
    → IsPermutation bytes after
exchanged bytes after gap n within is =
    subst (IsPermutation bytes) (sym is)
    (subst (λ l. IsPermutation l (drop gap bytes ++ (drop n (take gap bytes) ++ take n bytes)))
    (three_parts bytes gap n within)
    (ends_exchanged (take n bytes) (drop n (take gap bytes)) (drop gap bytes)))

pub rotated : (bytes after : List ℕ) (gap : ℕ) → after ≡ drop gap bytes ++ take gap bytes
    → IsPermutation bytes after
rotated bytes after gap is =
    subst (IsPermutation bytes) (sym is)
    (subst (λ l. IsPermutation l (drop gap bytes ++ take gap bytes)) (take-append-drop gap bytes)
    (IsPermutation-append_comm (take gap bytes) (drop gap bytes)))

-- what lies between the two parts that change places stays where it is
pub between_stays : (bytes after : List ℕ) (gap n : ℕ) → n ≤ gap → length bytes ≡ gap + n
    → after ≡ drop gap bytes ++ (drop n (take gap bytes) ++ take n bytes)
    → drop n (take gap after) ≡ drop n (take gap bytes)
between_stays bytes after gap n within long is =
    let part = drop gap bytes in
    let between = drop n (take gap bytes) in
    let few : length part ≡ n = length-drop gap bytes ∙ (omega (arith, long)) in
    let rest : length between ≡ gap - n =
    length-drop n (take gap bytes)
    ∙ ap (λ (k : ℕ). k - n) (length-take-le gap bytes (omega (arith, long))) in
    let up : gap ≡ length part + length between = omega (arith, few, rest, within) in
    let kept : take gap after ≡ part ++ between =
    ap (take gap) is
    ∙ ap (λ (k : ℕ). take k (part ++ (between ++ take n bytes))) up
    ∙ take-append-add part (between ++ take n bytes) (length between)
    ∙ ap (λ (l : List ℕ). part ++ l) (take-append_seam between (take n bytes)) in
    ap (drop n) kept
    ∙ ap (λ (k : ℕ). drop k (part ++ between)) (sym few)
    ∙ drop-append_seam part between

-- ---- a part of a slice comes down

-- The k bytes of xs from `to` on became ys: what followed the first gap of them is at the front,
-- and all are there.
pub record BroughtToFront (xs ys : List ℕ) (to k gap : ℕ) : Type 0 where
  pub front : take (length (take k (drop to xs)) - gap) ys ≡ drop gap (take k (drop to xs))
  pub permutation : IsPermutation (take k (drop to xs)) ys

part_len : (xs : List ℕ) (to k : ℕ) → to + k ≤ length xs → length (take k (drop to xs)) ≡ k
part_len xs to k within =
    length-take-le k (drop to xs) (omega (arith, length-drop to xs))

brought_len : (xs ys : List ℕ) (to k gap : ℕ) → to + k ≤ length xs → BroughtToFront xs ys to k gap
    → length ys ≡ k
brought_len xs ys to k gap within h =
    length_permutation (take k (drop to xs)) ys h.permutation ∙ part_len xs to k within

-- nothing comes down, or from where it stands
pub stays_front : (xs : List ℕ) (to from n : ℕ) → (n ≡ 0) ⊎ ((n ≡ 0 → ⊥) × (to ≡ from))
    → take (to + n) xs ≡ take to xs ++ take n (drop from xs)
stays_front xs to from n (inl none) =
    take-add to n xs
    ∙ ap (λ m. take to xs ++ take m (drop to xs)) none
    ∙ sym (ap (λ m. take to xs ++ take m (drop from xs)) none)
stays_front xs to from n (inr there) =
    take-add to n xs ∙ ap (λ m. take to xs ++ take n (drop m xs)) there.1

pub down_front : (xs ys : List ℕ) (to from n k : ℕ) → to ≤ from → from + n ≤ length xs
    → k ≡ from + n - to → BroughtToFront xs ys to k (from - to)
    → take (to + n) (put_mid to k xs ys) ≡ take to xs ++ take n (drop from xs)
down_front xs ys to from n k order within is h =
    let gap : ℕ = from - to in
    let whole : k ≡ gap + n = omega arith in
    let len : length (take k (drop to xs)) ≡ k = part_len xs to k (omega arith) in
    let left : length (take k (drop to xs)) - gap ≡ n = omega arith in
    let back : to + gap ≡ from = omega arith in
    filled_more to k n xs ys (omega arith)
    (omega (arith, brought_len xs ys to k gap (omega arith) h))
    ∙ ap (λ l. take to xs ++ l)
    (ap (λ m. take m ys) (sym left) ∙ h.front ∙ ap (λ m. drop gap (take m (drop to xs))) whole
    ∙ drop-take gap n (drop to xs) ∙ ap (take n) (drop-drop gap to xs ∙ ap (λ m. drop m xs) back))

pub down_permutation : (xs ys : List ℕ) (to from n k : ℕ) → to ≤ from → from + n ≤ length xs
    → k ≡ from + n - to → BroughtToFront xs ys to k (from - to)
    → IsPermutation (take (from + n) xs) (take (from + n) (put_mid to k xs ys))
down_permutation xs ys to from n k order within is h =
    let len : length ys ≡ k = brought_len xs ys to k (from - to) (omega arith) h in
    let whole : to + k ≡ from + n = omega arith in
    subst (IsPermutation (take (from + n) xs))
    (sym (take-put_mid to k xs ys (from + n) (omega arith) (omega arith)))
    (subst (λ l. IsPermutation l (take to xs ++ ys))
    (sym (take-add to k xs) ∙ ap (λ m. take m xs) whole)
    (IsPermutation-append_right (take to xs) (take k (drop to xs)) ys h.permutation))

pub down_rest : (xs ys : List ℕ) (to from n k : ℕ) → to ≤ from → from + n ≤ length xs
    → k ≡ from + n - to → BroughtToFront xs ys to k (from - to)
    → drop (from + n) (put_mid to k xs ys) ≡ drop (from + n) xs
down_rest xs ys to from n k order within is h =
    drop-put_mid to k xs ys (from + n) (omega arith) (omega arith)
    (brought_len xs ys to k (from - to) (omega arith) h)
