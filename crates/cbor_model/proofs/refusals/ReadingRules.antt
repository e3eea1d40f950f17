-- The reader passes a whole item, or reports a refusal that isn't one of spelling within it; and so
-- it comes to each place where an item is wanted.
use Rattle.std.proofs.Common.{◌≡◌, ◌⊎◌, ℕ, suc, ◌+◌, ◌-◌, ◌*◌, ◌^◌, ◌≤◌, true, false, cond, List}
use Rattle.std.proofs.Common.{[], ◌∷◌, ◌++◌, length, Option, Ok, Err, refl, sym, ap, subst, ◌∙◌}
use Rattle.std.proofs.Common.{arith, inl, inr, IsUtf8}
use Rattle.std.specs.Str.{IsValidUpTo}
use Rattle.std.specs.Str.Lossy.{utf8_valid_len}
use Rattle.std.proofs.lemmas.List.{length-append}
use Rattle.cbor_model.specs.Raw.{Raw, Raws, count, AreBytes, IsWellFormed, AreWellFormed}
use Rattle.cbor_model.specs.Spelling.{spell, spell_all}
use Rattle.cbor_model.specs.Refusal.{end_in_array, end_in_map, too_deep}
use Rattle.cbor_model.specs.Reader.{Fault, Reads, Reading, before as reported_at, item_at}
use Rattle.cbor_model.specs.Wanted.{Opening, opening, IsOpening, IsWanted, at_first}
use Rattle.cbor_model.specs.Allowed.{Limits, IsOver}
use Rattle.cbor_model.proofs.order.Apart.{same_beginning}
use Rattle.cbor_model.proofs.reader.Found.{found}
use Rattle.cbor_model.proofs.refusals.Wanted.{IsFrame, frame}
use Rattle.cbor_model.proofs.refusals.FaultMeaning.{Meaning, Reports}
use Rattle.cbor_model.proofs.refusals.Faults.{reported}
use Rattle.cbor_model.proofs.refusals.InnerFaults.{LastComes}
use Rattle.cbor_model.proofs.refusals.Passage.{Passage}
use Rattle.cbor_model.proofs.refusals.PassedOpenings.{array_ends, map_ends}
use Rattle.cbor_model.proofs.refusals.ReachedPlaces.{FaultBefore, Reached, through, bad_wanted}
use Rattle.cbor_model.proofs.refusals.EarlierRefusals.{Special, special_more, special_behind, reported_within}

-- What a reading lets pass, in an input of this length, with a scratch of this length or none: a
-- text that ends before 2^64, and is UTF-8; chunks that fit; and each key.
pub record Rules {Item Items Pairs : Type 0} (m : Reading Item Items Pairs) (total : ℕ) (scratch : Option ℕ) : Type 0 where
  pub far : (left n : ℕ) → left ≤ total → m.has_room left n ≡ false → 2 ^ 64 ≤ (total - left) + n
  pub out : (left n : ℕ) → left ≤ total → 2 ^ 64 ≤ (total - left) + n → m.has_room left n ≡ false
  pub no_text : (b : List ℕ) → m.is_text b ≡ false → IsValidUpTo b (utf8_valid_len b)
  pub not_text : (b : List ℕ) (n : ℕ) → IsValidUpTo b n → m.is_text b ≡ false
  pub utf8 : (b : List ℕ) → m.is_text b ≡ true → IsUtf8 b
  pub over : (n : ℕ) → m.exceeds n ≡ true → IsOver scratch n
  pub exceeds_over : (n : ℕ) → IsOver scratch n → m.exceeds n ≡ true
  pub none_fits : m.exceeds 0 ≡ false
  pub every : (b : ℕ) → m.allows b ≡ true

AreBytes-back : (a b : List ℕ) → AreBytes (a ++ b) → AreBytes b
AreBytes-back [] b fits i = fits i
AreBytes-back (x ∷ a) b fits i = AreBytes-back a b (λ j. fits (suc j)) i

module _ {Item Items Pairs : Type 0} (m : Reading Item Items Pairs) (total : ℕ) (scratch : Option ℕ) (rules : Rules m total scratch) where
  abbrev pub lim : ℕ → List ℕ → Limits
  lim l bytes = record { start = total - length bytes; levels = l; scratch = scratch }

  abbrev pub Cond : ℕ → List ℕ → Type 0
  Cond l bytes = (length bytes ≤ total) × AreBytes bytes

  abbrev pub Bad : ℕ → List ℕ → Fault → ℕ → Type 0
  Bad l bytes f n = Special (lim l bytes) bytes f.why f.left n

  -- what the reader reports of bytes
  pub reports : (l : ℕ) (bytes : List ℕ) → Cond l bytes → Reports (lim l bytes) bytes (item_at m l bytes)
  reports l bytes cond = reported m total scratch rules.far rules.no_text rules.over rules.none_fits rules.every l (total - length bytes) bytes (omega (arith, cond.0)) cond.1

  pub reports_err : (l : ℕ) (bytes : List ℕ) (f : Fault) → Cond l bytes → item_at m l bytes ≡ Err f → Meaning (lim l bytes) bytes f.why f.left
  reports_err l bytes f cond is = subst (λ (r : Reads Item). Reports (lim l bytes) bytes r) is (reports l bytes cond)

  pub rest_cond : (l : ℕ) (a b : List ℕ) → Cond l (a ++ b) → Cond l b
  rest_cond l a b cond = (omega (arith, cond.0, length-append a b), AreBytes-back a b cond.1)

  pub inner_cond : (l : ℕ) (o : Opening) (b : List ℕ) → Cond (suc l) (opening o ++ b) → Cond l b
  inner_cond l o b cond = (omega (arith, cond.0, length-append (opening o) b), AreBytes-back (opening o) b cond.1)

  pub bad_behind : (l : ℕ) (o : Opening) (items : Raws) → IsFrame o items → (bs : List ℕ) (f : Fault) (n : ℕ) → Bad l bs f n → Bad (suc l) (frame o items ++ bs) f (length (frame o items) + n)
  bad_behind l o items is_frame bs f n bad =
      special_behind o items is_frame (total - length (frame o items ++ bs)) (total - length bs) l scratch bs f.why f.left n (omega (arith, length-append (frame o items) bs)) bad

  pub bad_more : (l : ℕ) (bs : List ℕ) (f : Fault) (n k : ℕ) → n ≤ k → Bad l bs f n → Bad l bs f k
  bad_more l bs f n k few bad = special_more (lim l bs) bs f.why f.left n k few bad

  pub passes : (l : ℕ) (r : Raw) (rest : List ℕ) → IsWellFormed r → Cond l (spell r ++ rest)
      → ((x : Item) × (item_at m l (spell r ++ rest) ≡ Ok (x, rest))) ⊎ ((f : Fault) × (item_at m l (spell r ++ rest) ≡ Err f) × Bad l (spell r ++ rest) f (length (spell r)))
  passes l r rest fits cond = by_result (item_at m l (spell r ++ rest)) refl
    where
      bytes : List ℕ
      bytes = spell r ++ rest

      by_result : (res : Reads Item) → item_at m l (spell r ++ rest) ≡ res
          → ((x : Item) × (item_at m l (spell r ++ rest) ≡ Ok (x, rest))) ⊎ ((f : Fault) × (item_at m l (spell r ++ rest) ≡ Err f) × Bad l (spell r ++ rest) f (length (spell r)))
      by_result (Ok x) is =
          let got = found m rules.none_fits l (spell r ++ rest) x cond.1 is in
          let same = (same_beginning r got.item rest x.1 fits got.fits got.parts).1 in
          inl (x.0, is ∙ ap (λ (t : List ℕ). Ok (x.0, t)) (sym same))
      by_result (Err f) is = inr (f, is, reported_within (lim l (spell r ++ rest)) r rest f.why f.left fits (reports_err l (spell r ++ rest) f cond is))

  pub deep : (o : Opening) (bs : List ℕ) → IsOpening o → Cond 0 (opening o ++ bs) → Bad 0 (opening o ++ bs) (reported_at too_deep bs) (length (opening o))
  deep o bs opens cond = (
    length (opening o),
    omega (arith, length-append (opening o) bs),
    omega arith,
    record {
      opens = o;
      deep = omega arith;
      fits = opens;
      at = record {
        levels = 0;
        before = [];
        wanted = at_first;
        first = record { rest = bs; parts = refl; long = refl };
      };
    },
  )

  pub passage : Passage m Cond Bad
  passage = record {
    every = rules.every;
    rest_cond = rest_cond;
    inner_cond = inner_cond;
    bad_behind = bad_behind;
    bad_more = bad_more;
    passes = passes;
    deep = deep;
  }

  abbrev pub Refuses : ℕ → List ℕ → ℕ → Type 0
  Refuses L bytes n = FaultBefore passage L bytes n

  abbrev pub Reaches : ℕ → List ℕ → Type 0 → ℕ → List ℕ → Type 0
  Reaches k p Last L bs = Reached passage k p Last L bs

  pub goes_through : (k : ℕ) (p : List ℕ) (w : IsWanted k p) (L : ℕ) (bs : List ℕ) → Cond L (p ++ bs) → Refuses L (p ++ bs) (length p) ⊎ Reaches k p (LastComes w bs) L bs
  goes_through = through passage

  -- what is refused after a path, and the ends where an array or a map is open
  pub bad_path : (k : ℕ) (q : List ℕ) → IsWanted k q → (L r : ℕ) (bs : List ℕ) (f : Fault) (n : ℕ) → L ≡ k + r → Bad r bs f n → Bad L (q ++ bs) f (length q + n)
  bad_path = bad_wanted passage

  pub array_end : (l : ℕ) (items : Raws) → AreWellFormed items → Cond (suc l) (0x9f ∷ spell_all items)
      → ((f : Fault) × (item_at m (suc l) (0x9f ∷ spell_all items) ≡ Err f) × Bad (suc l) (0x9f ∷ spell_all items) f (length (0x9f ∷ spell_all items)))
      ⊎ ((f : Fault) → f ≡ record { why = end_in_array; left = 0 } → item_at m (suc l) (0x9f ∷ spell_all items) ≡ Err f)
  array_end = array_ends passage

  pub map_end : (l j : ℕ) (items : Raws) → AreWellFormed items → count items ≡ 2 * j → Cond (suc l) (0xbf ∷ spell_all items)
      → ((f : Fault) × (item_at m (suc l) (0xbf ∷ spell_all items) ≡ Err f) × Bad (suc l) (0xbf ∷ spell_all items) f (length (0xbf ∷ spell_all items)))
      ⊎ ((f : Fault) → f ≡ record { why = end_in_map; left = 0 } → item_at m (suc l) (0xbf ∷ spell_all items) ≡ Err f)
  map_end = map_ends passage
