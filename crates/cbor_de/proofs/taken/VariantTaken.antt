-- An enum that was taken up to its identifier is spelled so, and one that is spelled so is taken.
use Rattle.std.proofs.Common.{◌≡◌, inl, inr, ℕ, zero, suc, ◌+◌, ◌*◌, ◌%◌, ◌<◌, ◌≤◌, ◌^◌, Bool, true, false, cond, ltb, eqb, List, [], ◌∷◌, ◌++◌, length, Option, Some, None, Ok, Err, refl, sym, ap, ap₂, subst, ◌∙◌, append_assoc, zero-add, arith}
use Rattle.std.proofs.Common.{lit<}
use Rattle.std.proofs.lemmas.Bool.{eqb-true, lt-ltb, le-ltb}
use Rattle.std.proofs.lemmas.List.{length-append}
use Rattle.cbor_model.specs.Acceptable.{FitsScratch}
use Rattle.cbor_model.specs.Formats.{Formats, may_begin_key}
use Rattle.cbor_model.specs.Head.{HeadWidth, info, behind, head as first_bytes, limit}
use Rattle.cbor_model.specs.Raw as raw
use Rattle.cbor_model.specs.Raw.{Raw, AreBytes, IsWellFormed}
use Rattle.cbor_model.specs.Readable.{untagged}
use Rattle.cbor_model.specs.Refusal.{end_in_array, too_deep}
use Rattle.cbor_model.specs.Spelling.{spell}
use Rattle.cbor_model.specs.Reader.{Reads, ◌>>=◌, before, byte_at, item_at, number_behind}
use Rattle.cbor_model.proofs.facts.Reader.{bind_ok, ok_is, item_found, item_again, key_read, key_is}
use Rattle.cbor_model.proofs.facts.HeadNumbers.{info-below, low_of, number_behind_again}
use Rattle.cbor_decode.specs.Gives.{Limits, limits}
use Rattle.cbor_decode.specs.Heads.{opening_at}
use Rattle.cbor_decode.specs.declared.cursor.Remaining.{Remaining}
use Rattle.cbor_decode.specs.declared.cursor.Remaining.TheVariants.{Counted, ToBreak}
use Rattle.cbor_decode.specs.declared.head.Head.TheVariants as kind
use Rattle.cbor_decode_as.specs.BeginsEnum.{BeginsAlone, BeginsForm, BeginsInArray, BeginsInMap, BeginsVariant}
use Rattle.cbor_decode_as.specs.Enums.{IsName}
use Rattle.cbor_decode_as.specs.Identifiers.{IsIdentifier}
use Rattle.cbor_decode_as.specs.MapAccesses.{key_front}
use Rattle.cbor_decode_as.specs.Tags.{begins_tag, entered_at, passed_at, passed_by, passed_from, tag_head_at}
use Rattle.cbor_decode_as.specs.Takes.{IsRead, raws}
use Rattle.cbor_decode_as.specs.Variants.{HasShape, one_in, shape_of}
use Rattle.cbor_decode_as.specs.declared.variant.Form.{Form}
use Rattle.cbor_decode_as.specs.declared.variant.Form.TheVariants as form
use Rattle.cbor_decode_as.proofs.facts.TaggedHeads.{opened_here}
use Rattle.cbor_de.specs.HeadsTaken.{BeginsBy, FitsHead, FitTags, parts_head, tag_heads}
use Rattle.cbor_de.specs.ItemTaken.{BeginsAs}
use Rattle.cbor_de.specs.PartTaken.{BeginsKey}
use Rattle.cbor_de.specs.TagTaken.{BeginsTag}
use Rattle.cbor_de.specs.VariantTaken.{BeginsEnum, BeginsInTags, Identifies, OpensForm, TupleTaken, VariantTaken}
use Rattle.cbor_de.proofs.taken.HeadsTaken.{arrays, heads_spelled, heads_taken}
use Rattle.cbor_de.proofs.taken.ItemFronts.{behind_bytes}
use Rattle.cbor_de.proofs.taken.PartTaken.{comes, comes_again}
use Rattle.cbor_de.proofs.taken.TagTaken.{begins_is, begins_not, by_first, tag_none, tag_ok}

-- ---- tags

-- the first byte of a tag's head begins one
tag_range : (w : HeadWidth) (n : ℕ) (rest : List ℕ) → n < limit w → BeginsTag (first_bytes 6 w n ++ rest)
tag_range w n rest fits = let small = info-below w n fits in (omega arith, omega (arith, small))

begins_yes : (b : ℕ) → (0xc0 ≤ b) × (b ≤ 0xdb) → begins_tag b ≡ true
begins_yes b range = by (begins_tag b) refl
  where
    by : (t : Bool) → begins_tag b ≡ t → begins_tag b ≡ true
    by true is = is
    by false is = absurd (begins_not b is range)

-- a tag's head is read where a level is left,
tag_again : (left n : ℕ) (w : HeadWidth) (rest : List ℕ) → n < limit w → tag_head_at (suc left) (first_bytes 6 w n ++ rest) ≡ Ok (Some n, rest)
tag_again left n w rest fits =
    let small = info-below w n fits in
    let first : ℕ = 32 * 6 + info w n in
    let number : number_behind (first % 32) (behind w n ++ rest) ≡ Ok (n, rest) =
    ap (λ (low : ℕ). number_behind low (behind w n ++ rest)) (low_of 6 (info w n) (omega (arith, small))) ∙ number_behind_again w n rest fits in
    by_first (suc left) first (behind w n ++ rest) true (begins_yes first (tag_range w n rest fits))
    ∙ ap (λ (read : Reads ℕ). read >>= (λ n. entered_at (suc left) n.0 n.1)) number

-- and where none begins nothing is.
no_tag_read : (levels : ℕ) (bs : List ℕ) → (BeginsTag bs → ⊥) → tag_head_at levels bs ≡ Ok (None, bs)
no_tag_read levels [] none = refl
no_tag_read levels (b ∷ bs) none = by (begins_tag b) refl
  where
    by : (t : Bool) → begins_tag b ≡ t → tag_head_at levels (b ∷ bs) ≡ Ok (None, b ∷ bs)
    by true is = absurd (none (begins_is b is))
    by false is = by_first levels b bs false is

abbrev passing : ℕ → List ℕ → Reads ℕ
passing zero bs = Err (before too_deep bs)
passing (suc left) bs = passed_at left bs

passed_is : (levels : ℕ) (bs : List ℕ) → passed_at levels bs ≡ passed_from levels (passing levels) bs
unfolding passed_at
passed_is zero bs = refl
passed_is (suc left) bs = refl

-- all tags at the front
record Passed (levels inner : ℕ) (bs start : List ℕ) : Type 0 where
  tags : BeginsInTags levels inner bs start
  none : BeginsTag start → ⊥
  fits : AreBytes start

passed_step : (levels inner : ℕ) (bs start : List ℕ) → AreBytes bs → passed_at levels bs ≡ Ok (inner, start)
    → ((mid : List ℕ) → AreBytes mid → passing levels mid ≡ Ok (inner, start) → (next : ℕ) × (levels ≡ suc next) × Passed next inner mid start)
    → Passed levels inner bs start
passed_step levels inner bs start fits is deeper =
    let got = bind_ok (tag_head_at levels bs) (λ o. passed_by levels (passing levels) o.0 o.1) (inner, start) (sym (passed_is levels bs) ∙ is) in
    by got.0 got.1 got.2
  where
    by : (o : Option ℕ × List ℕ) → tag_head_at levels bs ≡ Ok o → passed_by levels (passing levels) o.0 o.1 ≡ Ok (inner, start) → Passed levels inner bs start
    by (None, mid) at others =
        let tag = tag_none levels bs mid at in
        let both = ok_is (levels, mid) (inner, start) others in
        let same : bs ≡ start = tag.1 ∙ ap (λ (p : ℕ × List ℕ). p.1) both in
        let level : levels ≡ inner = ap (λ (p : ℕ × List ℕ). p.0) both in
        record {
          tags = record { tags = []; tags_fit = tt; spelled = same; inside = level ∙ sym (zero-add inner) };
          none = subst (λ (x : List ℕ). BeginsTag x → ⊥) same tag.0;
          fits = subst AreBytes same fits;
        }
    by (Some n, mid) at others =
        let tag = (tag_ok levels bs n mid fits at).0 in
        let w = tag.width in
        let h = deeper mid (behind_bytes (first_bytes 6 w n) mid (subst AreBytes tag.spelled fits)) others in
        let more = h.2.tags in
        let inside = more.inside in
        let level = h.1 in
        record {
          tags = record {
            tags = (w, n) ∷ more.tags;
            tags_fit = (tag.fits, more.tags_fit);
            spelled = tag.spelled ∙ ap (λ (x : List ℕ). first_bytes 6 w n ++ x) more.spelled ∙ sym (append_assoc (first_bytes 6 w n) (tag_heads more.tags) start);
            inside = omega (arith, inside, level);
          };
          none = h.2.none;
          fits = h.2.fits;
        }

passed_found : (levels inner : ℕ) (bs start : List ℕ) → AreBytes bs → passed_at levels bs ≡ Ok (inner, start) → Passed levels inner bs start
passed_found zero inner bs start fits is = passed_step zero inner bs start fits is (λ mid f e. absurd cc)
passed_found (suc next) inner bs start fits is = passed_step (suc next) inner bs start fits is (λ mid f e. (next, refl, passed_found next inner mid start f e))

passed_again : (tags : List (HeadWidth × ℕ)) (levels inner : ℕ) (bs start : List ℕ) → FitTags tags → bs ≡ tag_heads tags ++ start → levels ≡ length tags + inner → (BeginsTag start → ⊥)
    → passed_at levels bs ≡ Ok (inner, start)
passed_again [] levels inner bs start fits is inside none =
    let level : levels ≡ inner = omega (arith, inside) in
    ap₂ passed_at level is ∙ passed_is inner start
    ∙ ap (λ (read : Reads (Option ℕ)). read >>= (λ o. passed_by inner (passing inner) o.0 o.1)) (no_tag_read inner start none)
passed_again (t ∷ ts) levels inner bs start fits is inside none =
    let tail = tag_heads ts ++ start in
    let left = length ts + inner in
    let split : bs ≡ first_bytes 6 t.0 t.1 ++ tail = is ∙ append_assoc (first_bytes 6 t.0 t.1) (tag_heads ts) start in
    let level : levels ≡ suc left = omega (arith, inside) in
    ap₂ passed_at level split ∙ passed_is (suc left) (first_bytes 6 t.0 t.1 ++ tail)
    ∙ ap (λ (read : Reads (Option ℕ)). read >>= (λ o. passed_by (suc left) (passing (suc left)) o.0 o.1)) (tag_again left t.1 t.0 tail fits.0)
    ∙ passed_again ts left inner tail start fits.1 refl refl none

-- ---- the first byte

-- What stands of each shape is of that of one first byte: 00, 80, 9c and a1.
abbrev chosen : {S : Type 0} → S → S → S → S → Bool → Bool → Bool → Bool → Bool → S
chosen alone array none pair low counted unassigned indefinite one =
    cond low alone (cond counted array (cond unassigned none (cond indefinite array (cond one pair alone))))

abbrev tests : {S : Type 0} → S → S → S → S → ℕ → S
tests alone array none pair b = chosen alone array none pair (ltb b 0x80) (ltb b 0x9c) (ltb b 0x9f) (eqb b 0x9f) (eqb b 0xa1)

shape_is : (b : ℕ) → shape_of b ≡ tests (shape_of 0) (shape_of 0x80) (shape_of 0x9c) (shape_of 0xa1) b
shape_is b = refl

shape_alone : (b : ℕ) → b < 0x80 → shape_of b ≡ shape_of 0
shape_alone b low =
    shape_is b
    ∙ ap (λ (t : Bool). chosen (shape_of 0) (shape_of 0x80) (shape_of 0x9c) (shape_of 0xa1) t (ltb b 0x9c) (ltb b 0x9f) (eqb b 0x9f) (eqb b 0xa1)) (lt-ltb b 0x80 low)

shape_array : (b : ℕ) → 0x80 ≤ b → b < 0x9c → shape_of b ≡ shape_of 0x80
shape_array b from to =
    shape_is b
    ∙ ap₂ (λ (t u : Bool). chosen (shape_of 0) (shape_of 0x80) (shape_of 0x9c) (shape_of 0xa1) t u (ltb b 0x9f) (eqb b 0x9f) (eqb b 0xa1)) (le-ltb b 0x80 from) (lt-ltb b 0x9c to)

-- only a1 begins a map of one pair
map_first : (b : ℕ) → shape_of b ≡ shape_of 0xa1 → b ≡ 0xa1
map_first b is = by (ltb b 0x80) (ltb b 0x9c) (ltb b 0x9f) (eqb b 0x9f) (eqb b 0xa1) refl (sym (shape_is b) ∙ is)
  where
    by : (p q r s t : Bool) → eqb b 0xa1 ≡ t → chosen (shape_of 0) (shape_of 0x80) (shape_of 0x9c) (shape_of 0xa1) p q r s t ≡ shape_of 0xa1 → b ≡ 0xa1
    by true q r s t pair e = absurd cc
    by false true r s t pair e = absurd cc
    by false false true s t pair e = absurd cc
    by false false false true t pair e = absurd cc
    by false false false false true pair e = eqb-true b 0xa1 pair
    by false false false false false pair e = absurd cc

-- an identifier's first byte, which is below 80
abbrev Low : List ℕ → Type 0
Low [] = ⊥
Low (b ∷ bs) = b < 0x80

low_shape : (bs : List ℕ) → Low bs → HasShape (shape_of 0) bs
low_shape [] low = absurd low
low_shape (b ∷ bs) low = (shape_alone b low, omega (arith, low))

low_no_tag : (bs : List ℕ) → Low bs → BeginsTag bs → ⊥
low_no_tag [] low tag = tag
low_no_tag (b ∷ bs) low tag = omega (arith, low, tag.0)

identifier_low : (names : List (List ℕ)) (r : Raw) (place : Option ℕ) (rest : List ℕ) → IsWellFormed r → IsIdentifier names r place → Low (spell r ++ rest)
unfolding spell
identifier_low names (raw.unsigned w n) place rest fits is = let small = info-below w n fits in omega (arith, small)
identifier_low names (raw.negative w n) place rest fits is = absurd is
identifier_low names (raw.bytes c) place rest fits is = let small = info-below c.width (length c.bytes) fits.0 in omega (arith, small)
identifier_low names (raw.text c) place rest fits is = let small = info-below c.width (length c.bytes) fits.0 in omega (arith, small)
identifier_low names (raw.bytes_chunks cs) place rest fits is = lit< tt
identifier_low names (raw.text_chunks cs) place rest fits is = lit< tt
identifier_low names (raw.array l rs) place rest fits is = absurd is.1
identifier_low names (raw.map l ps) place rest fits is = absurd is.1
identifier_low names (raw.tag w n r) place rest fits is = absurd is.1
identifier_low names (raw.simple s) place rest fits is = absurd is.1
identifier_low names (raw.float w bits) place rest fits is = absurd is.1

-- an identifier is no tag
identifier_plain : (names : List (List ℕ)) (r : Raw) (place : Option ℕ) → IsIdentifier names r place → IsIdentifier names (untagged r) place
identifier_plain names (raw.unsigned w n) place is = is
identifier_plain names (raw.negative w n) place is = is
identifier_plain names (raw.bytes c) place is = is
identifier_plain names (raw.text c) place is = is
identifier_plain names (raw.bytes_chunks cs) place is = is
identifier_plain names (raw.text_chunks cs) place is = is
identifier_plain names (raw.array l rs) place is = is
identifier_plain names (raw.map l ps) place is = is
identifier_plain names (raw.tag w n r) place is = absurd is.1
identifier_plain names (raw.simple s) place is = is
identifier_plain names (raw.float w bits) place is = is

-- an item that begins with no tag is none
untagged_is : (r : Raw) (rest : List ℕ) → IsWellFormed r → (BeginsTag (spell r ++ rest) → ⊥) → untagged r ≡ r
unfolding spell
untagged_is (raw.unsigned w n) rest fits none = refl
untagged_is (raw.negative w n) rest fits none = refl
untagged_is (raw.bytes c) rest fits none = refl
untagged_is (raw.text c) rest fits none = refl
untagged_is (raw.bytes_chunks cs) rest fits none = refl
untagged_is (raw.text_chunks cs) rest fits none = refl
untagged_is (raw.array l rs) rest fits none = refl
untagged_is (raw.map l ps) rest fits none = refl
untagged_is (raw.tag w n r) rest fits none = absurd (none (tag_range w n (spell r ++ rest) fits.0))
untagged_is (raw.simple s) rest fits none = refl
untagged_is (raw.float w bits) rest fits none = refl

-- ---- one item

module _ {A : Type 0} (f : Formats) (l : Limits) (reads : Raw → A → Type 0) (levels : ℕ) (bs : List ℕ) (x : A) (rest : List ℕ) where
  -- what the reference reader reads there is spelled there,
  pub found : AreBytes bs → IsRead reads (item_at (raws f l) levels bs) x rest → BeginsAs f levels reads bs x rest
  found fits read =
      let b = item_found f l.total l.room levels bs rest read.item fits read.is in
      record { item = read.item; begins = b.0; keys = b.1; means = read.means }

  -- and what is spelled there it reads.
  pub again : l.total < 2 ^ 64 → length bs ≤ l.total → (b : BeginsAs f levels reads bs x rest) → FitsScratch l.room b.item
      → IsRead reads (item_at (raws f l) levels bs) x rest
  again short within b room = record {
    item = b.item;
    is = item_again f l.total l.room levels bs rest b.item short within room b.begins b.keys;
    means = b.means;
  }

-- what such an item means otherwise
means_so : {A : Type 0} (f : Formats) (levels : ℕ) (reads means : Raw → A → Type 0) (bs : List ℕ) (x : A) (rest : List ℕ)
    → (b : BeginsAs f levels reads bs x rest) → means b.item x → BeginsAs f levels means bs x rest
means_so f levels reads means bs x rest b m = record { item = b.item; begins = b.begins; keys = b.keys; means = m }

-- ---- the forms

module _ (f : Formats) (names : List (List ℕ)) (l : Limits) (inner left index : ℕ) where
  -- an enum that has no tag, up to its identifier
  record Opened (form : Form) (start rest : List ℕ) : Type 0 where
    name : List ℕ
    opens : OpensForm f form inner left start name
    identifier : BeginsAs f left (Identifies names form) name index rest

  -- ---- in an array

  array_head : (all : Remaining) (start items : List ℕ) → (BeginsTag start → ⊥) → (b : BeginsBy 4 inner left all start items) → b.tags ≡ []
  array_head all start items none b = by b.tags b.tags_fit b.spelled
    where
      by : (tags : List (HeadWidth × ℕ)) → FitTags tags → start ≡ tag_heads tags ++ (parts_head 4 b.width all ++ items) → tags ≡ []
      by [] fits is = refl
      by (t ∷ ts) fits is =
          let tail = tag_heads ts ++ (parts_head 4 b.width all ++ items) in
          let split : start ≡ first_bytes 6 t.0 t.1 ++ tail = is ∙ append_assoc (first_bytes 6 t.0 t.1) (tag_heads ts) (parts_head 4 b.width all ++ items) in
          absurd (none (subst BeginsTag (sym split) (tag_range t.0 t.1 tail fits.0)))

  in_array : (remaining : Remaining) (start rest : List ℕ) → AreBytes start → (BeginsTag start → ⊥) → BeginsInArray f names l inner left index remaining start rest → Opened (form.Array remaining) start rest
  in_array remaining start rest fits none h =
      let b = heads_spelled kind.Array 4 arrays inner left h.all start h.items fits h.head in
      let no_tags = array_head h.all start h.items none b in
      let spelled : start ≡ parts_head 4 b.width h.all ++ h.items = subst (λ (tags : List (HeadWidth × ℕ)). start ≡ tag_heads tags ++ (parts_head 4 b.width h.all ++ h.items)) no_tags b.spelled in
      let inside : inner ≡ 0 + (left + 1) = subst (λ (tags : List (HeadWidth × ℕ)). inner ≡ length tags + (left + 1)) no_tags b.inside in
      let next = comes end_in_array h.all remaining h.items h.first h.next in
      let read = subst (λ (bs : List ℕ). IsRead (IsName names) (item_at (raws f l) left bs) index rest) (sym next.1) h.name in
      record {
        name = h.items;
        opens = (h.read, record { width = b.width; all = h.all; fits = b.fits; spelled = spelled; level = inside ∙ zero-add (left + 1); comes = next.0 });
        identifier = found f l (IsName names) left h.items index rest (behind_bytes (parts_head 4 b.width h.all) h.items (subst AreBytes spelled fits)) read;
      }

  -- ---- in a map

  one_is : (bs key : List ℕ) → inner ≡ suc left → (one_in inner bs >>= (λ u. key_front f u.1)) ≡ Ok (tt, key) → key_front f bs ≡ Ok (tt, key)
  one_is bs key level is = subst (λ (n : ℕ). (one_in n bs >>= (λ u. key_front f u.1)) ≡ Ok (tt, key)) level is

  front_is : (bs key : List ℕ) → key_front f bs ≡ Ok (tt, key) → BeginsKey f bs × (bs ≡ key)
  front_is bs key is =
      let got = key_read (may_begin_key f) (λ key. Ok (tt, key)) bs (tt, key) is in
      (begins bs is, ap (λ (p : Unit {0} × List ℕ). p.1) (ok_is (tt, bs) (tt, key) got.1))
    where
      begins : (bs : List ℕ) → key_front f bs ≡ Ok (tt, key) → BeginsKey f bs
      begins [] is = (key_read (may_begin_key f) (λ key. Ok (tt, key)) [] (tt, key) is).0
      begins (b ∷ bs) is = (key_read (may_begin_key f) (λ key. Ok (tt, key)) (b ∷ bs) (tt, key) is).0

  front_again : (bs : List ℕ) → BeginsKey f bs → key_front f bs ≡ Ok (tt, bs)
  front_again [] may = absurd may
  front_again (b ∷ bs) may = key_is (may_begin_key f) (λ key. Ok (tt, key)) (b ∷ bs) may

  in_map : (start rest : List ℕ) → AreBytes start → BeginsInMap f names l inner left index start rest → Opened form.Map start rest
  unfolding byte_at
  in_map [] rest fits h = absurd h.shape
  in_map (b ∷ bs) rest fits h =
      let first = map_first b h.shape.0 in
      let level = h.level in
      let key = front_is bs h.key (one_is bs h.key (omega (arith, level)) h.head) in
      let read = subst (λ (bs : List ℕ). IsRead (IsName names) (item_at (raws f l) left bs) index rest) (sym key.1) h.name in
      record {
        name = bs;
        opens = (h.read, ap (λ (n : ℕ). n ∷ bs) first, level, key.0);
        identifier = found f l (IsName names) left bs index rest (λ i. fits (suc i)) read;
      }

  -- ---- alone

  in_none : (start rest : List ℕ) → AreBytes start → (BeginsTag start → ⊥) → BeginsAlone f names l inner left index start rest → Opened form.Alone start rest
  in_none start rest fits none h =
      let read = subst (λ (n : ℕ). IsRead (IsName names) (item_at (raws f l) n start) index rest) (sym h.level) h.name in
      let b = found f l (IsName names) left start index rest fits read in
      let plain = untagged_is b.item rest b.begins.acceptable.fits (subst (λ (bs : List ℕ). BeginsTag bs → ⊥) b.begins.spelled none) in
      record {
        name = start;
        opens = (h.read, refl, sym h.level);
        identifier = means_so f left (IsName names) (Identifies names form.Alone) start index rest b (subst (λ (r : Raw). IsIdentifier names r (Some index)) plain b.means);
      }

  opened : (form : Form) (start rest : List ℕ) → AreBytes start → (BeginsTag start → ⊥) → BeginsForm f names l inner left index form start rest → Opened form start rest
  opened (form.Array remaining) start rest fits none h = in_array remaining start rest fits none h
  opened form.Map start rest fits none h = in_map start rest fits h
  opened form.Alone start rest fits none h = in_none start rest fits none h

  -- ---- and again

  -- An enum that has no tag is taken up to its identifier.
  record Again (form : Form) (start rest : List ℕ) : Type 0 where
    begins : BeginsForm f names l inner left index form start rest
    no_tag : BeginsTag start → ⊥

  -- a head's first byte has the shape of an array
  array_shape : (w : HeadWidth) (all : Remaining) (items : List ℕ) → FitsHead w all → HasShape (shape_of 0x80) (parts_head 4 w all ++ items) × (BeginsTag (parts_head 4 w all ++ items) → ⊥)
  array_shape w (Counted n) items fits =
      let small = info-below w n fits in
      ((shape_array (32 * 4 + info w n) (omega arith) (omega (arith, small)), omega (arith, small)), λ tag. let from = tag.0 in omega (arith, small, from))
  array_shape w ToBreak items fits = ((refl, lit< tt), λ tag. let from = tag.0 in omega (arith, from))

  array_again : (remaining : Remaining) (start name rest : List ℕ) → OpensForm f (form.Array remaining) inner left start name → IsRead (IsName names) (item_at (raws f l) left name) index rest
      → Again (form.Array remaining) start rest
  array_again remaining start name rest opens read =
      let o = opens.1 in
      let shaped = array_shape o.width o.all name o.fits in
      let first = arrays.again o.width o.all name o.fits in
      record {
        begins = record {
          read = opens.0;
          shape = subst (λ (bs : List ℕ). HasShape (shape_of 0x80) bs) (sym o.spelled) shaped.0;
          all = o.all;
          items = name;
          head = opened_here inner start name first.0 (kind.Array o.all) (arrays.no_tag o.all) (ap opening_at o.spelled ∙ first.1) ∙ ap (λ (n : ℕ). Ok ((n, kind.Array o.all), name)) o.level;
          first = name;
          next = comes_again end_in_array o.all remaining name o.comes;
          name = read;
        };
        no_tag = subst (λ (bs : List ℕ). BeginsTag bs → ⊥) (sym o.spelled) shaped.1;
      }

  map_again : (name rest : List ℕ) → f.standard_enums ≡ true → inner ≡ left + 1 → BeginsKey f name → IsRead (IsName names) (item_at (raws f l) left name) index rest
      → Again form.Map (0xa1 ∷ name) rest
  unfolding byte_at
  map_again name rest allowed level may read =
      let deep : inner ≡ suc left = omega (arith, level) in
      record {
        begins = record {
          read = allowed;
          shape = (refl, lit< tt);
          level = level;
          key = name;
          head = ap (λ (n : ℕ). one_in n name >>= (λ u. key_front f u.1)) deep ∙ front_again name may;
          name = read;
        };
        no_tag = λ tag. let from = tag.0 in omega (arith, from);
      }

  alone_again : (name rest : List ℕ) → (opens : OpensForm f form.Alone inner left name name) → (b : BeginsAs f left (Identifies names form.Alone) name index rest) → IsRead (Identifies names form.Alone) (item_at (raws f l) left name) index rest
      → Again form.Alone name rest
  alone_again name rest opens b read =
      let low = subst Low (sym b.begins.spelled) (identifier_low names b.item (Some index) rest b.begins.acceptable.fits b.means) in
      let named : IsRead (IsName names) (item_at (raws f l) left name) index rest = record { item = read.item; is = read.is; means = identifier_plain names read.item (Some index) read.means } in
      record {
        begins = record {
          read = opens.0;
          shape = low_shape name low;
          level = sym opens.2;
          name = subst (λ (n : ℕ). IsRead (IsName names) (item_at (raws f l) n name) index rest) (sym opens.2) named;
        };
        no_tag = low_no_tag name low;
      }

  form_again : l.total < 2 ^ 64 → (form : Form) (start name rest : List ℕ) → length start ≤ l.total → OpensForm f form inner left start name → (b : BeginsAs f left (Identifies names form) name index rest) → FitsScratch l.room b.item
      → Again form start rest
  form_again short (form.Array remaining) start name rest within opens b room =
      let spelled = ap length opens.1.spelled in
      let fewer : length name ≤ l.total = omega (arith, within, spelled, length-append (parts_head 4 opens.1.width opens.1.all) name) in
      array_again remaining start name rest opens (again f l (IsName names) left name index rest short fewer b room)
  form_again short form.Map start name rest within opens b room =
      let spelled = ap length opens.1 in
      let fewer : length name ≤ l.total = omega (arith, within, spelled) in
      subst (λ (bs : List ℕ). Again form.Map bs rest) (sym opens.1) (map_again name rest opens.0 opens.2 opens.3 (again f l (IsName names) left name index rest short fewer b room))
  form_again short form.Alone start name rest within opens b room =
      let spelled = ap length opens.1 in
      let fewer : length name ≤ l.total = omega (arith, within, spelled) in
      subst (λ (bs : List ℕ). Again form.Alone bs rest) (sym opens.1) (alone_again name rest (opens.0, refl, opens.2) b (again f l (Identifies names form.Alone) left name index rest short fewer b room))

-- ---- the call

enum_found : (f : Formats) (names : List (List ℕ)) (l : Limits) (levels left index : ℕ) (form : Form) (bs rest : List ℕ) → AreBytes bs
    → BeginsVariant f names l levels left index form bs rest → BeginsEnum f names levels left index form bs rest
enum_found f names l levels left index form bs rest fits h =
    let p = passed_found levels h.inner bs h.start fits h.tags in
    let o = opened f names l h.inner left index form h.start rest p.fits p.none h.begins in
    record { inner = h.inner; start = h.start; tags = p.tags; name = o.name; opens = o.opens; identifier = o.identifier }

enum_again : (f : Formats) (names : List (List ℕ)) (l : Limits) (levels left index : ℕ) (form : Form) (bs rest : List ℕ) → l.total < 2 ^ 64 → length bs ≤ l.total
    → (b : BeginsEnum f names levels left index form bs rest) → FitsScratch l.room b.identifier.item → BeginsVariant f names l levels left index form bs rest
enum_again f names l levels left index form bs rest short within b room =
    let tags = b.tags in
    let spelled = ap length tags.spelled in
    let fewer : length b.start ≤ l.total = omega (arith, within, spelled, length-append (tag_heads tags.tags) b.start) in
    let a = form_again f names l b.inner left index short form b.start b.name rest fewer b.opens b.identifier room in
    record {
      inner = b.inner;
      start = b.start;
      tags = passed_again tags.tags levels b.inner bs b.start tags.tags_fit tags.spelled tags.inside a.no_tag;
      begins = a.begins;
    }

pub variant_taken : VariantTaken
variant_taken refusals f names levels left s t bytes (Ok v) reports fits step =
    let got = step.reported bytes reports in
    record {
      rest = got.rest;
      begins = enum_found f names (limits s bytes) levels left v.0 v.1 bytes got.rest fits got.holds;
      reports = got.reports;
      count = got.total;
    }
variant_taken refusals f names levels left s t bytes (Err e) reports fits h = elim (h.reported bytes reports) [
  | inl excused ↦ inl excused
  | inr none ↦ inr (λ deep index form rest b room. none deep index form rest (enum_again f names (limits s bytes) levels deep index form bytes rest reports.short (omega arith) b room))
]

-- ---- the parts of a variant of several

pub tuple_taken : TupleTaken
tuple_taken refusals levels left (form.Array all) s t bytes (Ok remaining) reports fits step =
    let got = step.reported bytes reports in
    record { rest = got.rest; begins = (got.holds.0, got.holds.1, sym got.holds.2); reports = got.reports; count = got.total }
tuple_taken refusals levels left (form.Array all) s t bytes (Err e) reports fits h = elim (h.reported bytes reports) [
  | inl excused ↦ inl excused
  | inr none ↦ inr (λ deep remaining rest b. none deep remaining rest (b.0, b.1, sym b.2))
]
tuple_taken refusals levels left form.Map s t bytes (Ok remaining) reports fits step =
    let got = heads_taken kind.Array 4 arrays refusals levels left s t bytes (Ok remaining) reports fits step in
    record { rest = got.rest; begins = got.begins; reports = got.reports; count = got.count }
tuple_taken refusals levels left form.Map s t bytes (Err e) reports fits h =
    heads_taken kind.Array 4 arrays refusals levels left s t bytes (Err e) reports fits h
tuple_taken refusals levels left form.Alone s t bytes (Ok remaining) reports fits step =
    absurd (step.reported bytes reports).holds
tuple_taken refusals levels left form.Alone s t bytes (Err e) reports fits h = elim (h.reported bytes reports) [
  | inl excused ↦ inl excused
  | inr none ↦ inr (λ deep remaining rest b. b)
]
