-- What a reader lets pass on its way to a place where an item is wanted, and what it refuses there.
use Rattle.std.proofs.Common.{◌≡◌, ◌⊎◌, ℕ, zero, suc, ◌+◌, ◌≤◌, true, List, [], ◌++◌, length, Some}
use Rattle.std.proofs.Common.{Ok, Err, refl, ap, subst, arith, inl, inr}
use Rattle.std.proofs.lemmas.List.{append-nil, length-append}
use Rattle.cbor_model.specs.Raw.{Raw, Raws, IsWellFormed}
use Rattle.cbor_model.specs.Spelling.{spell}
use Rattle.cbor_model.specs.Refusal.{too_deep}
use Rattle.cbor_model.specs.Reader.{Fault, Reads, Reading, before, Remaining, counted, to_break}
use Rattle.cbor_model.specs.Reader.{Parts, go_on, parts_by, item_at}
use Rattle.cbor_model.specs.Wanted.{Opening, opening, IsOpening}
use Rattle.cbor_model.proofs.refusals.Wanted.{IsFrame, frame}
use Rattle.cbor_model.proofs.refusals.Faults.{with_last, last-bytes}

-- A reader on its way through bytes that meet Cond, where so many levels are left: it passes each
-- whole item, or refuses within it. Of a refusal Bad says that its place lies among the first n
-- bytes.
pub record Passage {Item Items Pairs : Type 0} (m : Reading Item Items Pairs) (Cond : ℕ → List ℕ → Type 0) (Bad : ℕ → List ℕ → Fault → ℕ → Type 0) : Type 0 where
  pub every : (b : ℕ) → m.allows b ≡ true
  pub rest_cond : (l : ℕ) (a b : List ℕ) → Cond l (a ++ b) → Cond l b
  pub inner_cond : (l : ℕ) (o : Opening) (b : List ℕ) → Cond (suc l) (opening o ++ b) → Cond l b
  pub bad_behind : (l : ℕ) (o : Opening) (items : Raws) → IsFrame o items → (bs : List ℕ) (f : Fault) (n : ℕ) → Bad l bs f n → Bad (suc l) (frame o items ++ bs) f (length (frame o items) + n)
  pub bad_more : (l : ℕ) (bs : List ℕ) (f : Fault) (n k : ℕ) → n ≤ k → Bad l bs f n → Bad l bs f k
  pub passes : (l : ℕ) (r : Raw) (rest : List ℕ) → IsWellFormed r → Cond l (spell r ++ rest)
      → ((x : Item) × (item_at m l (spell r ++ rest) ≡ Ok (x, rest))) ⊎ ((f : Fault) × (item_at m l (spell r ++ rest) ≡ Err f) × Bad l (spell r ++ rest) f (length (spell r)))
  pub deep : (o : Opening) (bs : List ℕ) → IsOpening o → Cond 0 (opening o ++ bs) → Bad 0 (opening o ++ bs) (before too_deep bs) (length (opening o))

module _ {Item Items Pairs : Type 0} {m : Reading Item Items Pairs} {Cond : ℕ → List ℕ → Type 0}
    {Bad : ℕ → List ℕ → Fault → ℕ → Type 0} (pass : Passage m Cond Bad) (l : ℕ) where
  abbrev p : List ℕ → Reads Item
  p = item_at m l

  -- what lies before is refused, or what comes last
  abbrev pub Out : {A : Type 0} → (bytes : List ℕ) → ℕ → (Fault → Type 0) → Reads A → Type 0
  Out bytes n Last r =
      ((f : Fault) × (r ≡ Err f) × Bad (suc l) bytes f n)
      ⊎ ((f : Fault) → Last f → r ≡ Err f)

  -- an item is asked for, and refused
  abbrev pub AsksItem : Type 0 → List ℕ → Fault → Type 0
  AsksItem Comes bs f = Comes × (p bs ≡ Err f)

  -- an item that is refused, after those that are read
  pub refused_behind : (o : Opening) (rs : Raws) (r : Raw) (rest bytes : List ℕ) (f : Fault) (n : ℕ) → IsFrame o rs → Bad l (spell r ++ rest) f (length (spell r))
      → frame o rs ++ (spell r ++ rest) ≡ bytes → length (frame o rs) + length (spell r) ≤ n → Bad (suc l) bytes f n
  refused_behind o rs r rest bytes f n is_frame bad same few =
      subst (λ (t : List ℕ). Bad (suc l) t f n) same
      (pass.bad_more (suc l) (frame o rs ++ (spell r ++ rest)) f (length (frame o rs) + length (spell r)) n few
      (pass.bad_behind l o rs is_frame (spell r ++ rest) f (length (spell r)) bad))

  -- what fails where another does
  pub out_map : {A B : Type 0} (bytes : List ℕ) (n : ℕ) (Last : Fault → Type 0) (r : Reads A) (r' : Reads B) → ((f : Fault) → r ≡ Err f → r' ≡ Err f)
      → Out bytes n Last r → Out bytes n Last r'
  out_map bytes n Last r r' each (inl bad) = inl (bad.0, each bad.0 bad.1, bad.2)
  out_map bytes n Last r r' each (inr asked) = inr (λ f a. each f (asked f a))

-- ---- the parts of an array or a map

pub first_err : {Part Whole : Type 0} (ps : Parts Part Whole) (fuel : ℕ) (remaining : Remaining) (bs : List ℕ) (f : Fault) → ps.part bs ≡ Err f → go_on ps (parts_by ps fuel) (Some remaining) bs ≡ Err f
first_err ps fuel remaining bs f is = rw is refl

pub rest_err : {Part Whole : Type 0} (ps : Parts Part Whole) (fuel : ℕ) (remaining : Remaining) (bs more : List ℕ) (first : Part) (f : Fault) → ps.part bs ≡ Ok (first, more) → parts_by ps fuel remaining more ≡ Err f → go_on ps (parts_by ps fuel) (Some remaining) bs ≡ Err f
rest_err ps fuel remaining bs more first f is is' = rw (is, is') refl

abbrev pub behind_one : Remaining → Remaining
behind_one (counted zero) = counted zero
behind_one (counted (suc left)) = counted left
behind_one to_break = to_break

pub frame-length : (o : Opening) (rs : Raws) (r : Raw) → length (frame o (with_last rs r)) ≡ length (frame o rs) + length (spell r)
frame-length o rs r =
    omega (arith, ap length (append-nil (frame o (with_last rs r))), ap length (last-bytes o rs r []), ap length (append-nil (spell r)), length-append (frame o rs) (spell r ++ []))
