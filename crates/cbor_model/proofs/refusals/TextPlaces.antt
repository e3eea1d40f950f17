-- No item is wanted within a text that stands where one is wanted; so a fault in a text has one place.
use Rattle.std.specs.Prelude.{flat_map}
use Rattle.std.proofs.Common.{◌≡◌, ◌⊎◌, ℕ, zero, suc, ◌+◌, ◌<◌, ◌≤◌, true, false}
use Rattle.std.proofs.Common.{List, [], ◌∷◌, ◌++◌, length, None, Result, Ok, Err, refl, sym, ap, subst}
use Rattle.std.proofs.Common.{◌∙◌, append_assoc, arith, inl, inr}
use Rattle.std.proofs.lemmas.Bool.{cases_lt}
use Rattle.std.proofs.lemmas.List.{append-nil, length-append, nil_from_length}
use Rattle.cbor_model.specs.Head.{head}
use Rattle.cbor_model.specs.Raw as raw
use Rattle.cbor_model.specs.Raw.{Raw, Raws, Chunk, joined, AreBytes, IsWellFormed}
use Rattle.cbor_model.specs.Spelling.{spell, spell_all, break, chunk}
use Rattle.cbor_model.specs.Refusal.{Refusal, end_in_value, end_in_array, end_in_map}
use Rattle.cbor_model.specs.Refusal.{length_out_of_range, invalid_utf8, unassigned_code}
use Rattle.cbor_model.specs.Refusal.{unexpected_code, trailing_data, too_deep, scratch_too_small}
use Rattle.cbor_model.specs.Refusal.{wrong_struct_format}
use Rattle.cbor_model.specs.Reader.{Fault, Reads, before as reported_at, item_at}
use Rattle.cbor_model.specs.Wanted.{Opening, array_head, map_head, tag_head, indefinite_array}
use Rattle.cbor_model.specs.Wanted.{indefinite_map, opening, IsWanted, at_first, inside}
use Rattle.cbor_model.specs.Allowed.{IsTextOf, IsInvalidUtf8, IsUnassigned, Limits, IsAllowed}
use Rattle.cbor_model.proofs.reader.ReaderSteps.{info-below}
use Rattle.cbor_model.proofs.reader.Bytes.{AreBytes-append, spelled_bytes}
use Rattle.cbor_model.proofs.order.Apart.{raw_items, same_beginning}
use Rattle.cbor_model.proofs.reader.Found.{found}
use Rattle.cbor_model.proofs.refusals.Wanted.{frame, on_wanted, on_item}
use Rattle.cbor_model.proofs.refusals.FaultMeaning.{Meaning, Reports}
use Rattle.cbor_model.proofs.refusals.LeafFaults.{joined-le}
use Rattle.cbor_model.proofs.refusals.Faults.{reported}
use Rattle.cbor_model.proofs.refusals.NoFronts.{goes_past, raw_goes, hard_out, hard_raw, unassigned_hard, Goes}
use Rattle.cbor_model.proofs.refusals.InnerFaults.{LastComes, last_comes}

pub one_fault : {A : Type 0} (r : Result A Fault) (f g : Fault) → r ≡ Err f → r ≡ Err g → f ≡ g
one_fault r f g is is' = cc

-- ---- first bytes

-- what begins a path begins with an opening
wanted_first : (k : ℕ) (p : List ℕ) → IsWanted k p → (p ≡ []) ⊎ ((b : ℕ) × (rest : List ℕ) × (p ≡ b ∷ rest) × (128 ≤ b))
wanted_first k p at_first = inl refl
wanted_first k p (inside j before o items wanted opens fits place) =
    elim (wanted_first j before wanted) [
      | inr some ↦ inr (some.0, some.1 ++ frame o items, ap (λ (t : List ℕ). t ++ frame o items) some.2, some.3)
      | inl none ↦ inr (of_opening o (spell_all items) (before ++ frame o items) (ap (λ (t : List ℕ). t ++ frame o items) none))
    ]
  where
    of_opening : (o : Opening) (x q : List ℕ) → q ≡ opening o ++ x → (b : ℕ) × (rest : List ℕ) × (q ≡ b ∷ rest) × (128 ≤ b)
    of_opening (array_head w n) x q is = (_, _, is, omega arith)
    of_opening (map_head w n) x q is = (_, _, is, omega arith)
    of_opening (tag_head w n) x q is = (_, _, is, omega arith)
    of_opening indefinite_array x q is = (0x9f, x, is, omega arith)
    of_opening indefinite_map x q is = (0xbf, x, is, omega arith)

-- and a text with none
text_first : (t : Raw) (b : List ℕ) → IsWellFormed t → IsTextOf t b → (c : ℕ) × (rest : List ℕ) × (spell t ≡ c ∷ rest) × (c < 128)
unfolding spell
text_first (raw.text c) b fits is = (_, _, refl, omega (arith, info-below c.width (length c.bytes) fits.0))
text_first (raw.text_chunks cs) b fits is = (_, _, refl, omega arith)
text_first _ b fits is = absurd is

-- a text is longer than its bytes
text_longer : (t : Raw) (b : List ℕ) → IsTextOf t b → length b < length (spell t)
unfolding spell
text_longer (raw.text c) b is = omega (arith, ap length is, length-append (head 3 c.width (length c.bytes)) c.bytes)
text_longer (raw.text_chunks cs) b is = omega (arith, ap length is, joined-le 3 cs, length-append (flat_map (chunk 3) cs) break)
text_longer _ b is = absurd is

-- ---- the reader that lets all pass

AreBytes-front : (a b : List ℕ) → AreBytes (a ++ b) → AreBytes a
AreBytes-front [] b fits i = omega arith
AreBytes-front (x ∷ a) b fits zero = fits 0
AreBytes-front (x ∷ a) b fits (suc i) = AreBytes-front a b (λ j. fits (suc j)) i

raw_reported : (l : ℕ) (bs : List ℕ) (f : Fault) → AreBytes bs → item_at raw_items l bs ≡ Err f → Meaning (record { start = 0; levels = l; scratch = None }) bs f.why f.left
raw_reported l bs f fits is =
    subst (λ (r : Reads Raw). Reports (record { start = 0; levels = l; scratch = None }) bs r) is
    (reported raw_items (length bs) None (λ left n le no. absurd (never no)) (λ b no. absurd (never no)) (λ n no. never (sym no)) refl (λ b. refl) l 0 bs (omega arith) fits)
  where
    never : true ≡ false → ⊥
    never e = cc

one_byte_fits : AreBytes (0x1c ∷ [])
one_byte_fits zero = omega arith
one_byte_fits (suc i) = omega arith

same_last : (a b : List ℕ) (x y : ℕ) → a ++ (x ∷ []) ≡ b ++ (y ∷ []) → a ≡ b
same_last [] [] x y is = refl
same_last [] (z ∷ []) x y is = absurd cc
same_last [] (z ∷ w ∷ b) x y is = absurd cc
same_last (z ∷ []) [] x y is = absurd cc
same_last (z ∷ w ∷ a) [] x y is = absurd cc
same_last (z ∷ a) (w ∷ b) x y is =
    let first : z ≡ w = cc in
    let others : a ++ (x ∷ []) ≡ b ++ (y ∷ []) = cc in
    ap (λ (k : ℕ). k ∷ a) first ∙ ap (λ (t : List ℕ). w ∷ t) (same_last a b x y others)

unassigned_1c : IsUnassigned 0x1c
unassigned_1c = inl (omega arith, omega arith)

within_text : (k : ℕ) (p : List ℕ) (w : IsWanted k p) (j : ℕ) (y z : List ℕ) (t : Raw) (b : List ℕ) → IsWanted j (p ++ y) → IsWellFormed t → IsTextOf t b → y ++ z ≡ spell t → (y ≡ [] → ⊥) → (z ≡ [] → ⊥) → ⊥
within_text k p w j y z t b wanted fits is parts some more = by_result (item_at raw_items goes.left here) refl
  where
    here : List ℕ
    here = y ++ (0x1c ∷ [])

    bytes_fit : AreBytes here
    bytes_fit = AreBytes-append y (0x1c ∷ []) (AreBytes-front y z (subst AreBytes (sym parts) (spelled_bytes t fits))) one_byte_fits

    L : ℕ
    L = length (p ++ here)

    goes : Goes k p w L here
    goes = raw_goes k p w L here (omega arith)

    first : (c : ℕ) × (rest : List ℕ) × (spell t ≡ c ∷ rest) × (c < 128)
    first = text_first t b fits is

    -- y begins as the text does
    begun_y : (y : List ℕ) → y ++ z ≡ spell t → (y ≡ [] → ⊥) → (rest : List ℕ) × (y ≡ first.0 ∷ rest)
    begun_y [] parts some = absurd (some refl)
    begun_y (x ∷ y) parts some =
        let same : (x ∷ (y ++ z)) ≡ first.0 ∷ first.1 = parts ∙ first.2 in
        let head_is : x ≡ first.0 = cc in
        (y, ap (λ (k : ℕ). k ∷ y) head_is)

    starts : (rest : List ℕ) × (y ≡ first.0 ∷ rest)
    starts = begun_y y parts some

    comes : LastComes w here
    comes = last_comes w here (record {
      first = first.0;
      others = starts.0 ++ (0x1c ∷ []);
      is = ap (λ (t : List ℕ). t ++ (0x1c ∷ [])) starts.1;
      no_break = Rattle.std.proofs.lemmas.Bool.ne_eqb first.0 0xff (λ same. omega (arith, first.3));
    })

    refused : item_at raw_items L (p ++ here) ≡ Err (reported_at unassigned_code [])
    refused =
        let h = unassigned_hard j (p ++ y) 0x1c wanted unassigned_1c in
        let same : ((p ++ y) ++ (0x1c ∷ [])) ++ [] ≡ p ++ here = append-nil ((p ++ y) ++ (0x1c ∷ [])) ∙ append_assoc p y (0x1c ∷ []) in
        ap (item_at raw_items L) (sym same) ∙ hard_raw unassigned_code ((p ++ y) ++ (0x1c ∷ [])) h L [] (omega (arith, ap length same))

    -- an item isn't wanted after y
    not_wanted : (i : ℕ) → IsWanted i y → ⊥
    not_wanted i wanted_y =
        elim (wanted_first i y wanted_y) [
          | inl none ↦ some none
          | inr other ↦
              let same : (other.0 ∷ other.1) ≡ first.0 ∷ starts.0 = sym other.2 ∙ starts.1 in
              let head_is : other.0 ≡ first.0 = cc in
              omega (arith, other.3, first.3, head_is)
        ]

    by_why : (why : Refusal) (left : ℕ) → why ≡ unassigned_code → left ≡ 0 → Meaning (record { start = 0; levels = goes.left; scratch = None }) here why left → ⊥
    by_why unassigned_code left why_is none e =
        let row = e.2 in
        let front = row.before ++ (row.byte ∷ []) in
        let no_rest : row.first.rest ≡ [] = nil_from_length row.first.rest (omega (arith, e.1, none, row.first.long, ap length row.first.parts, length-append front row.first.rest)) in
        let same : here ≡ front = row.first.parts ∙ ap (λ (t : List ℕ). front ++ t) no_rest ∙ append-nil front in
        not_wanted row.levels (subst (IsWanted row.levels) (sym (same_last y row.before 0x1c row.byte same)) row.wanted)
    by_why end_in_value left why_is none e = cc
    by_why end_in_array left why_is none e = cc
    by_why end_in_map left why_is none e = cc
    by_why length_out_of_range left why_is none e = cc
    by_why invalid_utf8 left why_is none e = cc
    by_why unexpected_code left why_is none e = cc
    by_why trailing_data left why_is none e = cc
    by_why too_deep left why_is none e = cc
    by_why scratch_too_small left why_is none e = cc
    by_why wrong_struct_format left why_is none e = cc

    -- an item that ends with the byte
    whole_item : (s : Raw) → IsWellFormed s → here ≡ spell s → ⊥
    whole_item s s_fits same =
        let on = on_wanted k p (spell s) w (on_item s s_fits) in
        let u = (p ++ y) ++ (0x1c ∷ []) in
        let bytes : u ++ on.more ≡ spell on.item ++ [] =
        ap (λ (t : List ℕ). t ++ on.more) (append_assoc p y (0x1c ∷ []) ∙ ap (λ (t : List ℕ). p ++ t) same) ∙ sym on.spelled ∙ sym (append-nil (spell on.item)) in
        hard_out unassigned_code u on.more on.item [] (unassigned_hard j (p ++ y) 0x1c wanted unassigned_1c) on.fits bytes

    -- an item that ends before it
    shorter_item : (s : Raw) (x : ℕ) (rest : List ℕ) → IsWellFormed s → here ≡ spell s ++ (x ∷ rest) → ⊥
    shorter_item s x rest s_fits same =
        let past = goes_past y (0x1c ∷ []) (spell s) (x ∷ rest) same (omega (arith, ap length same, length-append y (0x1c ∷ []), length-append (spell s) (x ∷ rest))) in
        let is : spell t ++ [] ≡ spell s ++ (past.between ++ z) = append-nil (spell t) ∙ sym parts ∙ ap (λ (q : List ℕ). q ++ z) past.longer ∙ append_assoc (spell s) past.between z in
        more (empty_back past.between z (sym (same_beginning t s [] (past.between ++ z) fits s_fits is).1))
      where
        empty_back : (a c : List ℕ) → a ++ c ≡ [] → c ≡ []
        empty_back [] c e = e
        empty_back (x ∷ a) c e = absurd cc

    by_rest : (s : Raw) (rest : List ℕ) → IsWellFormed s → here ≡ spell s ++ rest → ⊥
    by_rest s [] s_fits same = whole_item s s_fits (same ∙ append-nil (spell s))
    by_rest s (x ∷ rest) s_fits same = shorter_item s x rest s_fits same

    by_result : (res : Reads Raw) → item_at raw_items goes.left here ≡ res → ⊥
    by_result (Ok x) got =
        let item = found raw_items refl goes.left here x bytes_fit got in
        by_rest item.item x.1 item.fits item.parts
    by_result (Err f) got =
        let same : f ≡ reported_at unassigned_code [] = one_fault (item_at raw_items L (p ++ here)) f (reported_at unassigned_code []) (goes.refuses f comes got) refused in
        by_why f.why f.left (ap (λ (h : Fault). h.why) same) (ap (λ (h : Fault). h.left) same) (raw_reported goes.left here f bytes_fit got)

-- ---- the place of a fault in a text

-- of two, the one that doesn't come later
text_order : (b : List ℕ) (place place' offset : ℕ) → (r : IsInvalidUtf8 b place offset) → (r' : IsInvalidUtf8 b place' offset) → length r.before ≤ length r'.before → place ≡ place'
text_order b place place' offset r r' le =
    let rest = r.first.rest in
    let rest' = r'.first.rest in
    let parts : b ≡ r.before ++ (spell r.item ++ rest) = r.first.parts ∙ append_assoc r.before (spell r.item) rest in
    let parts' : b ≡ r'.before ++ (spell r'.item ++ rest') = r'.first.parts ∙ append_assoc r'.before (spell r'.item) rest' in
    let past = goes_past r'.before (spell r'.item ++ rest') r.before (spell r.item ++ rest) (sym parts' ∙ parts) le in
    by_between past.between past.longer past.rest
  where
    end_is : place ≡ length r.before + length (spell r.item)
    end_is = omega (arith, r.first.long, length-append r.before (spell r.item))

    end_is' : place' ≡ length r'.before + length (spell r'.item)
    end_is' = omega (arith, r'.first.long, length-append r'.before (spell r'.item))

    by_between : (y : List ℕ) → r'.before ≡ r.before ++ y → spell r.item ++ r.first.rest ≡ y ++ (spell r'.item ++ r'.first.rest) → place ≡ place'
    by_between [] longer same =
        let one = (same_beginning r.item r'.item r.first.rest r'.first.rest r.fits r'.fits same).0 in
        omega (arith, end_is, end_is', ap length (longer ∙ append-nil r.before), ap (λ (i : Raw). length (spell i)) one)
    by_between (c ∷ y) longer same =
        let short : length (c ∷ y) < length (spell r.item) =
        omega (arith, end_is, end_is', ap length longer, length-append r.before (c ∷ y), r.offset_is, r'.offset_is, r'.longest.short, r.longest.short, text_longer r'.item r'.text r'.text_is, text_longer r.item r.text r.text_is) in
        let past = goes_past (spell r.item) r.first.rest (c ∷ y) (spell r'.item ++ r'.first.rest) same (omega (arith, short)) in
        absurd (within_text r.levels r.before r.wanted r'.levels (c ∷ y) past.between r.item r.text (subst (IsWanted r'.levels) longer r'.wanted) r.fits r.text_is (sym past.longer) (λ none. cc)
        (λ none. omega (arith, short, ap length past.longer, length-append (c ∷ y) past.between, ap length none)))

pub text_place : (b : List ℕ) (place place' offset : ℕ) → IsInvalidUtf8 b place offset → IsInvalidUtf8 b place' offset → place ≡ place'
text_place b place place' offset r r' =
    elim (cases_lt (length r'.before) (length r.before)) [
      | inr le ↦ text_order b place place' offset r r' le
      | inl lt ↦ sym (text_order b place' place offset r' r (omega (arith, lt)))
    ]

-- a refusal has one place
pub one_place : (l : Limits) (b : List ℕ) (why : Refusal) (place place' offset : ℕ) → IsAllowed l b why place offset → IsAllowed l b why place' offset → place ≡ place'
one_place l b invalid_utf8 place place' offset a a' = text_place b place place' offset a a'
one_place l b wrong_struct_format place place' offset a a' = absurd a
one_place l b end_in_value place place' offset a a' = sym a.1 ∙ a'.1
one_place l b end_in_array place place' offset a a' = sym a.1 ∙ a'.1
one_place l b end_in_map place place' offset a a' = sym a.1 ∙ a'.1
one_place l b length_out_of_range place place' offset a a' = sym a.1 ∙ a'.1
one_place l b unassigned_code place place' offset a a' = sym a.1 ∙ a'.1
one_place l b unexpected_code place place' offset a a' = sym a.1 ∙ a'.1
one_place l b trailing_data place place' offset a a' = sym a.1 ∙ a'.1
one_place l b too_deep place place' offset a a' = sym a.1 ∙ a'.1
one_place l b scratch_too_small place place' offset a a' = sym a.1 ∙ a'.1
