-- A tag's head that was taken is spelled so, and one that is spelled so is taken where a level is left.
use Rattle.std.proofs.Common.{◌≡◌, inl, inr, ℕ, zero, suc, ◌+◌, ◌*◌, ◌%◌, ◌<◌, ◌≤◌, Bool, true, false, cond, ltb, List, [], ◌∷◌, ◌++◌, length, Option, Some, None, Ok, Err, refl, sym, ap, ap₂, subst, ◌∙◌, arith}
use Rattle.std.proofs.lemmas.Bool.{ltb-true, ltb-false}
use Rattle.cbor_model.specs.Head.{HeadWidth, info, behind, head, limit}
use Rattle.cbor_model.specs.Raw.{AreBytes}
use Rattle.cbor_model.specs.Reader.{Fault, Reads, ◌>>=◌, number_behind, width_of}
use Rattle.cbor_model.proofs.facts.Reader.{bind_ok, ok_is}
use Rattle.cbor_model.proofs.facts.HeadNumbers.{AreBytes-rest, info-below, number_behind_found, number_behind_again}
use Rattle.cbor_io.specs.Error.{code_of, offset_of}
use Rattle.cbor_decode.specs.Gives.{ReportsIo, Reports}
use Rattle.cbor_decode_as.specs.Tags.{begins_tag, entered_at, tag_head_at}
use Rattle.cbor_decode_as.proofs.facts.Refusals.{excused_or}
use Rattle.cbor_de.specs.TagTaken.{BeginsTag, BeginsByTag, LacksTag, TagTaken}

-- ---- the first byte

pub begins_is : (b : ℕ) → begins_tag b ≡ true → (0xc0 ≤ b) × (b ≤ 0xdb)
begins_is b is = by (ltb b 0xc0) (ltb b 0xdc) refl refl is
  where
    by : (x y : Bool) → ltb b 0xc0 ≡ x → ltb b 0xdc ≡ y → cond x false (cond y true false) ≡ true → (0xc0 ≤ b) × (b ≤ 0xdb)
    by true y low high is = absurd cc
    by false false low high is = absurd cc
    by false true low high is =
        let from = ltb-false b 0xc0 low in
        let to = ltb-true b 0xdc high in
        (omega (arith, from), omega (arith, to))

pub begins_not : (b : ℕ) → begins_tag b ≡ false → (0xc0 ≤ b) × (b ≤ 0xdb) → ⊥
begins_not b is range = by (ltb b 0xc0) (ltb b 0xdc) refl refl is
  where
    by : (x y : Bool) → ltb b 0xc0 ≡ x → ltb b 0xdc ≡ y → cond x false (cond y true false) ≡ false → ⊥
    by true y low high is = omega (arith, ltb-true b 0xc0 low, range.0)
    by false true low high is = cc
    by false false low high is = omega (arith, ltb-false b 0xdc high, range.1)

-- ---- the number, and the level

-- what follows the first byte of a tag's head
abbrev pub Behind : ℕ → ℕ → List ℕ → Reads (Option ℕ)
Behind levels b bs = number_behind (b % 32) bs >>= (λ n. entered_at levels n.0 n.1)

abbrev pub HeadBy : ℕ → ℕ → List ℕ → Bool → Reads (Option ℕ)
HeadBy levels b bs t = cond {A = Reads (Option ℕ)} t (Behind levels b bs) (Ok (None, b ∷ bs))

pub by_first : (levels b : ℕ) (bs : List ℕ) (t : Bool) → begins_tag b ≡ t → tag_head_at levels (b ∷ bs) ≡ HeadBy levels b bs t
by_first levels b bs true is = rw is refl
by_first levels b bs false is = rw is refl

-- a level was left
record Entered (levels n m : ℕ) (bs rest : List ℕ) : Type 0 where
  level : 0 < levels
  same : n ≡ m
  behind : bs ≡ rest

entered : (levels n m : ℕ) (bs rest : List ℕ) → entered_at levels n bs ≡ Ok (Some m, rest) → Entered levels n m bs rest
entered zero n m bs rest is = absurd cc
entered (suc left) n m bs rest is =
    let both = ok_is (Some n, bs) (Some m, rest) is in
    record { level = omega arith; same = some_is n m (ap (λ (p : Option ℕ × List ℕ). p.0) both); behind = ap (λ (p : Option ℕ × List ℕ). p.1) both }
  where
    some_is : (x y : ℕ) → Some x ≡ Some y → x ≡ y
    some_is x y e = cc

entered_some : (levels n : ℕ) (bs rest : List ℕ) → entered_at levels n bs ≡ Ok (None, rest) → ⊥
entered_some zero n bs rest is = absurd cc
entered_some (suc left) n bs rest is = some_none (ap (λ (p : Option ℕ × List ℕ). p.0) (ok_is (Some n, bs) (None, rest) is))
  where
    some_none : Some n ≡ None → ⊥
    some_none e = absurd cc

not_entered : (levels n : ℕ) (bs : List ℕ) (f : Fault) → entered_at levels n bs ≡ Err f → levels ≡ 0
not_entered zero n bs f is = refl
not_entered (suc left) n bs f is = absurd cc

-- ---- a head

module _ (levels b : ℕ) (bs : List ℕ) (fits : AreBytes (b ∷ bs)) where
  -- that was taken
  taken : (n : ℕ) (rest : List ℕ) → begins_tag b ≡ true → Behind levels b bs ≡ Ok (Some n, rest) → BeginsByTag n (b ∷ bs) rest × (0 < levels)
  taken n rest is read =
      let range = begins_is b is in
      let number = bind_ok (number_behind (b % 32) bs) (λ n. entered_at levels n.0 n.1) (Some n, rest) read in
      let got = number_behind_found (b % 32) bs number.0 (AreBytes-rest b bs fits) number.1 in
      let left = entered levels number.0.0 n number.0.1 rest number.2 in
      let low = got.is_low in
      let first : b ≡ 32 * 6 + info (width_of (b % 32)) number.0.0 = omega (arith, range.0, range.1, low) in
      let spelled : b ∷ bs ≡ head 6 (width_of (b % 32)) number.0.0 ++ number.0.1 = ap₂ (λ (x : ℕ) (xs : List ℕ). x ∷ xs) first got.parts in (
        record {
          width = width_of (b % 32);
          fits = subst (λ (m : ℕ). m < limit (width_of (b % 32))) left.same got.fits;
          spelled = spelled ∙ ap₂ (λ (m : ℕ) (xs : List ℕ). head 6 (width_of (b % 32)) m ++ xs) left.same left.behind;
        },
        left.level,
      )

  -- that is there
  number_there : (w : HeadWidth) (n : ℕ) (rest : List ℕ) → n < limit w → b ∷ bs ≡ head 6 w n ++ rest → number_behind (b % 32) bs ≡ Ok (n, rest)
  number_there w n rest below is =
      let first : b ≡ 32 * 6 + info w n = head_is b (32 * 6 + info w n) bs (behind w n ++ rest) is in
      let small = info-below w n below in
      let low : b % 32 ≡ info w n = omega (arith, first, small) in
      let others : bs ≡ behind w n ++ rest = tail_is b (32 * 6 + info w n) bs (behind w n ++ rest) is in
      ap₂ (λ (l : ℕ) (xs : List ℕ). number_behind l xs) low others ∙ number_behind_again w n rest below
    where
      head_is : (x y : ℕ) (xs ys : List ℕ) → x ∷ xs ≡ y ∷ ys → x ≡ y
      head_is x y xs ys e = cc

      tail_is : (x y : ℕ) (xs ys : List ℕ) → x ∷ xs ≡ y ∷ ys → xs ≡ ys
      tail_is x y xs ys e = cc

  -- that wasn't taken
  lacking : (f : Fault) → begins_tag b ≡ true → Behind levels b bs ≡ Err f → LacksTag levels (b ∷ bs)
  lacking f is read = record {
    begins = begins_is b is;
    whole = λ n rest tagged.
        let number = number_there tagged.width n rest tagged.fits tagged.spelled in
        not_entered levels n rest f (ap (λ (r : Reads ℕ). r >>= (λ n. entered_at levels n.0 n.1)) (sym number) ∙ read);
  }

-- ---- the call

none_some : (n : ℕ) → None ≡ Some n → ⊥
none_some n e = absurd cc

pub tag_ok : (levels : ℕ) (bs : List ℕ) (n : ℕ) (rest : List ℕ) → AreBytes bs → tag_head_at levels bs ≡ Ok (Some n, rest) → BeginsByTag n bs rest × (0 < levels)
tag_ok levels [] n rest fits is = absurd (none_some n (ap (λ (p : Option ℕ × List ℕ). p.0) (ok_is (None, []) (Some n, rest) is)))
tag_ok levels (b ∷ bs) n rest fits is = by (begins_tag b) refl
  where
    by : (t : Bool) → begins_tag b ≡ t → BeginsByTag n (b ∷ bs) rest × (0 < levels)
    by true first = taken levels b bs fits n rest first (sym (by_first levels b bs true first) ∙ is)
    by false first = absurd (none_some n (ap (λ (p : Option ℕ × List ℕ). p.0) (ok_is (None, b ∷ bs) (Some n, rest) (sym (by_first levels b bs false first) ∙ is))))

pub tag_none : (levels : ℕ) (bs rest : List ℕ) → tag_head_at levels bs ≡ Ok (None, rest) → (BeginsTag bs → ⊥) × (bs ≡ rest)
tag_none levels [] rest is = ((λ h. h), ap (λ (p : Option ℕ × List ℕ). p.1) (ok_is (None, []) (None, rest) is))
tag_none levels (b ∷ bs) rest is = by (begins_tag b) refl
  where
    by : (t : Bool) → begins_tag b ≡ t → (BeginsTag (b ∷ bs) → ⊥) × (b ∷ bs ≡ rest)
    by true first =
        let number = bind_ok (number_behind (b % 32) bs) (λ n. entered_at levels n.0 n.1) (None, rest) (sym (by_first levels b bs true first) ∙ is) in
        absurd (entered_some levels number.0.0 number.0.1 rest number.2)
    by false first = ((λ range. begins_not b first range), ap (λ (p : Option ℕ × List ℕ). p.1) (ok_is (None, b ∷ bs) (None, rest) (sym (by_first levels b bs false first) ∙ is)))

tag_err : (levels : ℕ) (bs : List ℕ) (f : Fault) → AreBytes bs → tag_head_at levels bs ≡ Err f → LacksTag levels bs
tag_err levels [] f fits is = absurd cc
tag_err levels (b ∷ bs) f fits is = by (begins_tag b) refl
  where
    by : (t : Bool) → begins_tag b ≡ t → LacksTag levels (b ∷ bs)
    by true first = lacking levels b bs fits f first (sym (by_first levels b bs true first) ∙ is)
    by false first = absurd (not_err (sym (by_first levels b bs false first) ∙ is))
      where
        not_err : ◌≡◌ {A = Reads (Option ℕ)} (Ok (None, b ∷ bs)) (Err f) → ⊥
        not_err e = absurd cc

pub tag_taken : TagTaken
tag_taken refusals levels s t bytes (Ok (Some n)) reports fits step =
    let got = step.reported bytes reports in
    let tag = tag_ok levels bytes n got.rest fits got.holds in
    record { rest = got.rest; tagged = tag.0; level = tag.1; reports = got.reports; count = got.total }
tag_taken refusals levels s t bytes (Ok None) reports fits step =
    let got = step.reported bytes reports in
    let tag = tag_none levels bytes got.rest got.holds in
    let total : t.offset + length bytes ≡ s.offset + length bytes = ap (λ (xs : List ℕ). t.offset + length xs) tag.1 ∙ got.total in
    record { none = tag.0; reports = subst (λ (xs : List ℕ). Reports t xs) (sym tag.1) got.reports; count = omega (arith, total) }
tag_taken refusals levels s t bytes (Err e) reports fits h =
    elim (excused_or (ReportsIo refusals) (code_of e) (s.offset + length bytes) (offset_of e) (tag_head_at levels bytes) (h.1 bytes reports)) [
      | inl excused ↦ inl excused
      | inr fault ↦ inr (tag_err levels bytes fault.0 fits fault.1)
    ]
