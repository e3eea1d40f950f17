-- The variant that an item is.
use Rattle.std.proofs.Common.{◌≡◌, ◌∙◌, ℕ, ℤ, pos, negsuc, zero, suc, Bool, true, List, [], ◌∷◌, ◌++◌, Option, Some, None, Ok, Err, refl, sym, ap, subst}
use Rattle.cbor_model.specs.Formats.{Formats}
use Rattle.cbor_model.specs.Raw as raw
use Rattle.cbor_model.specs.Raw.{Raw, Raws, Length, no_raws}
use Rattle.cbor_model.specs.Readable.{untagged, PassesTags, IsString}
use Rattle.cbor_model.specs.Refusal.{end_in_array}
use Rattle.cbor_model.specs.Reader.{Reads, ◌>>=◌, item_at, next_at}
use Rattle.cbor_model.specs.Reader as reader
use Rattle.cbor_model.proofs.facts.Reader.{ok_is}
use Rattle.cbor_read.specs.Source.{Input}
use Rattle.cbor_io.specs.Error.{code_of, offset_of}
use Rattle.cbor_io.specs.declared.error.Error.{Error}
use Rattle.cbor_io.specs.declared.read_error.ReadErrorCode.{ReadErrorCode}
use Rattle.cbor_decode.specs.Gives.{Limits, Step}
use Rattle.cbor_decode.specs.Heads.{remaining_of}
use Rattle.cbor_decode.specs.declared.cursor.Remaining.{Remaining}
use Rattle.cbor_decode.proofs.facts.Steps.{step_map, step_then}
use Rattle.cbor_decode_as.specs.Accesses.{items_at, IsNextItem}
use Rattle.cbor_decode_as.specs.Collections.{IsHeadOf, IsHeld, RefusesHeadOf, one_of}
use Rattle.cbor_decode_as.specs.Enums.{IsVariant, IsName, Content, alone, one, parts, reads_names}
use Rattle.cbor_decode_as.specs.Identifiers.{MeansPlace, IsIdentifier, IsLabel, IsPlaceNumber, IsFirst, IsPlace}
use Rattle.cbor_decode_as.specs.Kinds.{kind_of}
use Rattle.cbor_decode_as.specs.Kinds as kind
use Rattle.cbor_decode_as.specs.TaggedHeads.{in_tags, tagged}
use Rattle.cbor_decode_as.specs.Takes.{raws, IsRead, IsNotRead, Refuses}
use Rattle.cbor_decode_as.specs.Variants.{IsVariantHead, HasShape, IsAlone, RefusesShaped}
use Rattle.cbor_decode_as.specs.declared.variant.Form.TheVariants as form
use Rattle.cbor_decode_as.specs.declared.variant.Shape.TheVariants as shape
use Rattle.cbor_decode_as.proofs.arrays.Nexts.{NoPart}
use Rattle.cbor_decode_as.proofs.refused.Refusing.{refuses_map, refuses_then}
use Rattle.cbor_decode_as.proofs.numbers.Scalars.{within_tags, untagged-tagged}
use Rattle.cbor_decode_as.proofs.arrays.Sequences.{MustFollow, no_part_rest, begins, goes_on, with_front}
use Rattle.cbor_decode_as.proofs.arrays.Tuples.{Empty}
use Rattle.cbor_decode_as.proofs.enums.VariantHeads.{array_begins}
use Rattle.cbor_decode_as.proofs.enums.VariantParts.{Next, none_read, as_parts, parts_are}
use Rattle.cbor_decode.specs.declared.cursor.Collection.TheVariants as collection

-- ---- identifiers

-- a string's bytes are its only ones
string_one : (r : Raw) (a b : List ℕ) → IsString r a → IsString r b → a ≡ b
string_one (raw.unsigned w n) x y h k = absurd h
string_one (raw.negative w n) x y h k = absurd h
string_one (raw.bytes c) x y h k = sym h ∙ k
string_one (raw.text c) x y h k = sym h ∙ k
string_one (raw.bytes_chunks cs) x y h k = sym h ∙ k
string_one (raw.text_chunks cs) x y h k = sym h ∙ k
string_one (raw.array l rs) x y h k = absurd h
string_one (raw.map l ps) x y h k = absurd h
string_one (raw.tag w n r) x y h k = absurd h
string_one (raw.simple s) x y h k = absurd h
string_one (raw.float w bits) x y h k = absurd h

first_one : {A : Type 0} (names : List A) (b : A) (i j : ℕ) → IsFirst names b i → IsFirst names b j → i ≡ j
first_one [] b i j h k = absurd h
first_one (n ∷ ns) b zero zero h k = refl
first_one (n ∷ ns) b zero (suc j) h k = absurd (k.0 h)
first_one (n ∷ ns) b (suc i) zero h k = absurd (h.0 k)
first_one (n ∷ ns) b (suc i) (suc j) h k = ap suc (first_one ns b i j h.1 k.1)

pub place_one : {A : Type 0} (names : List A) (b : A) (p q : Option ℕ) → IsPlace names b p → IsPlace names b q → p ≡ q
place_one names b None None h k = refl
place_one names b None (Some j) h k = absurd (h j k)
place_one names b (Some i) None h k = absurd (k i h)
place_one names b (Some i) (Some j) h k = ap (λ (n : ℕ). Some n) (first_one names b i j h k)

-- a number means one place at the most
abbrev pub NumberedOne : (ℤ → Option ℕ → Type 0) → Type 0
NumberedOne numbered = (z : ℤ) (p q : Option ℕ) → numbered z p → numbered z q → p ≡ q

module _ (numbered : ℤ → Option ℕ → Type 0) (one : NumberedOne numbered) (names : List (List ℕ)) where
  named_one : (r : Raw) (p q : Option ℕ) → (b : List ℕ) × IsString r b × IsPlace names b p → (b : List ℕ) × IsString r b × IsPlace names b q → p ≡ q
  named_one r p q h k = place_one names h.0 p q h.2 (subst (λ (b : List ℕ). IsPlace names b q) (string_one r k.0 h.0 k.1 h.1) k.2)

  -- an item means one place
  means_one : (r : Raw) (p q : Option ℕ) → MeansPlace numbered names r p → MeansPlace numbered names r q → p ≡ q
  means_one (raw.unsigned w n) p q h k = one (pos n) p q h k
  means_one (raw.negative w n) p q h k = one (negsuc n) p q h k
  means_one (raw.bytes c) p q h k = named_one (raw.bytes c) p q h k
  means_one (raw.text c) p q h k = named_one (raw.text c) p q h k
  means_one (raw.bytes_chunks cs) p q h k = named_one (raw.bytes_chunks cs) p q h k
  means_one (raw.text_chunks cs) p q h k = named_one (raw.text_chunks cs) p q h k
  means_one (raw.array l rs) p q h k = named_one (raw.array l rs) p q h k
  means_one (raw.map l ps) p q h k = named_one (raw.map l ps) p q h k
  means_one (raw.tag w n r) p q h k = named_one (raw.tag w n r) p q h k
  means_one (raw.simple s) p q h k = named_one (raw.simple s) p q h k
  means_one (raw.float w bits) p q h k = named_one (raw.float w bits) p q h k

numbered_one : (names : List (List ℕ)) → NumberedOne (IsPlaceNumber names)
numbered_one names (pos n) p q h k = h ∙ sym k
numbered_one names (negsuc n) p q h k = absurd h

-- an item is one label
pub label_one : (labels : List ℤ) (r : Raw) (p q : Option ℕ) → IsLabel labels r p → IsLabel labels r q → p ≡ q
label_one labels = means_one (IsPlace labels) (λ z. place_one labels z) []

module _ (names : List (List ℕ)) where
  -- an item names one place
  pub identifier_one : (r : Raw) (p q : Option ℕ) → IsIdentifier names r p → IsIdentifier names r q → p ≡ q
  identifier_one = means_one (IsPlaceNumber names) (numbered_one names) names

  some_none : (i : ℕ) → Some i ≡ None → ⊥
  some_none i e = absurd cc

  pub name_one : (r : Raw) (i j : ℕ) → IsName names r i → IsName names r j → i ≡ j
  name_one r i j h k = some_is i j (identifier_one (untagged r) (Some i) (Some j) h k)
    where
      some_is : (x y : ℕ) → Some x ≡ Some y → x ≡ y
      some_is x y e = cc

  -- what names no place is no name
  pub not_named : (f : Formats) (l : Limits) (levels : ℕ) (bs rest : List ℕ) → IsRead (PassesTags (IsIdentifier names)) (item_at (raws f l) levels bs) None rest → IsNotRead (IsName names) (item_at (raws f l) levels bs)
  not_named f l levels bs rest h i after got =
      let both = ok_is (h.item, rest) (got.item, after) (sym h.is ∙ got.is) in
      let name = subst (λ (r : Raw). IsName names r i) (sym (ap (λ (p : Raw × List ℕ). p.0) both)) got.means in
      some_none i (identifier_one (untagged h.item) (Some i) None name h.means)

  pub none_named : {w : Input} (allowed : ReadErrorCode → Bool) (f : Formats) (levels : ℕ) (s : Input) (e : Error) → Refuses allowed s w (code_of e) (offset_of e) (λ l bs. IsNotRead (PassesTags (IsIdentifier names)) (item_at (raws f l) levels bs))
      → Refuses allowed s w (code_of e) (offset_of e) (λ l bs. IsNotRead (IsName names) (item_at (raws f l) levels bs))
  none_named allowed f levels s e = refuses_map allowed s (code_of e) (offset_of e) (λ l bs. IsNotRead (PassesTags (IsIdentifier names)) (item_at (raws f l) levels bs)) (λ l bs. IsNotRead (IsName names) (item_at (raws f l) levels bs))
      (λ l bs none i rest got. none (Some i) rest (record { item = got.item; is = got.is; means = got.means }))

  pub name_read : (f : Formats) (levels i : ℕ) (s t : Input) → Step s t (λ l bs rest. IsRead (PassesTags (IsIdentifier names)) (item_at (raws f l) levels bs) (Some i) rest) → Step s t (λ l bs rest. IsRead (IsName names) (item_at (raws f l) levels bs) i rest)
  name_read f levels i s t = step_map s t (λ l bs rest. IsRead (PassesTags (IsIdentifier names)) (item_at (raws f l) levels bs) (Some i) rest) (λ l bs rest. IsRead (IsName names) (item_at (raws f l) levels bs) i rest)
      (λ l bs rest h. record { item = h.item; is = h.is; means = h.means })

-- ---- an identifier alone

module _ (f : Formats) (names : List (List ℕ)) where
  -- an identifier is a variant without content
  name_variant : (r : Raw) (i : ℕ) → reads_names f ≡ true → IsIdentifier names r (Some i) → IsVariant f names r (i, alone)
  name_variant (raw.unsigned w n) i read h = (read, h, refl)
  name_variant (raw.negative w n) i read h = absurd h
  name_variant (raw.bytes c) i read h = (read, h, refl)
  name_variant (raw.text c) i read h = (read, h, refl)
  name_variant (raw.bytes_chunks cs) i read h = (read, h, refl)
  name_variant (raw.text_chunks cs) i read h = (read, h, refl)
  name_variant (raw.array l rs) i read h = absurd h.1
  name_variant (raw.map l ps) i read h = absurd h.1
  name_variant (raw.tag w n r) i read h = absurd h.1
  name_variant (raw.simple s) i read h = absurd h.1
  name_variant (raw.float w bits) i read h = absurd h.1

  pub alone_here : (l : Limits) (levels i : ℕ) (bs rest : List ℕ) → reads_names f ≡ true → IsRead (IsName names) (item_at (raws f l) levels bs) i rest → IsVariantHead f names l (item_at (raws f l) levels bs) levels i form.Alone rest
  alone_here l levels i bs rest read h = record {
    whole = λ c. h.item;
    is = h.is;
    variant = λ c after is. subst (λ (c : Content). IsVariant f names (untagged h.item) (i, c)) (ap (λ (p : Content × List ℕ). p.0) (ok_is (alone, rest) (c, after) is)) (name_variant (untagged h.item) i read h.means);
  }

  pub alone_taken : (levels left i : ℕ) (s t : Input) → left ≡ levels → reads_names f ≡ true → Step s t (λ l bs rest. IsRead (IsName names) (item_at (raws f l) levels bs) i rest) → Step s t (λ l bs rest. IsAlone bs → IsVariantHead f names l (item_at (raws f l) levels bs) left i form.Alone rest)
  alone_taken levels left i s t same read = step_map s t (λ l bs rest. IsRead (IsName names) (item_at (raws f l) levels bs) i rest) (λ l bs rest. IsAlone bs → IsVariantHead f names l (item_at (raws f l) levels bs) left i form.Alone rest)
      (λ l bs rest h _. subst (λ (n : ℕ). IsVariantHead f names l (item_at (raws f l) levels bs) n i form.Alone rest) (sym same) (alone_here l levels i bs rest read h))

  -- ---- an array

  -- the identifier is first
  array_follows : (n : Length) (rs : Raws) (v : ℕ × Content) → IsVariant f names (raw.array n rs) v → MustFollow (IsName names) rs
  array_follows n no_raws v h = h.1.1
  array_follows n (raw.raw r rs) v h = (v.0, h.1)

  record ArrayRead (n : Length) (read : Reads Raws) (r : Raw) (rest : List ℕ) : Type 0 where
    rs : Raws
    is : read ≡ Ok (rs, rest)
    same : r ≡ raw.array n rs

  array_is : (n : Length) (read : Reads Raws) (r : Raw) (rest : List ℕ) → one_of collection.Array n read ≡ Ok (r, rest) → ArrayRead n read r rest
  array_is n (Ok x) r rest is =
      let both = ok_is (raw.array n x.0, x.1) (r, rest) is in
      record { rs = x.0; is = ap (λ (p : Raw × List ℕ). Ok (x.0, p.1)) both; same = sym (ap (λ (p : Raw × List ℕ). p.0) both) }
  array_is n (Err e) r rest is = absurd cc

  module _ (l : Limits) (read : Reads Raw) (left : ℕ) (all : Remaining) (mid : List ℕ) (h : IsHeadOf collection.Array f l read left all mid) where
    -- without an identifier it is no variant
    no_array_variant : NoPart (IsName names) f left (remaining_of all) l mid → IsNotRead (PassesTags (IsVariant f names)) read
    no_array_variant none v rest got =
        let w = within_tags h.tags (one_of collection.Array h.len (items_at f l left (remaining_of all) mid)) got.item rest (sym h.is ∙ got.is) in
        let a = array_is h.len (items_at f l left (remaining_of all) mid) w.item rest w.is in
        let means : IsVariant f names (untagged (tagged h.tags w.item)) v = subst (λ (i : Raw). IsVariant f names (untagged i) v) w.wrapped got.means in
        let within : IsVariant f names (untagged w.item) v = subst (λ (i : Raw). IsVariant f names i v) (untagged-tagged h.tags w.item) means in
        let array : IsVariant f names (raw.array h.len a.rs) v = subst (λ (i : Raw). IsVariant f names (untagged i) v) a.same within in
        no_part_rest (IsName names) f left (remaining_of all) l mid none a.rs rest a.is (array_follows h.len a.rs v array)

    array_whole : Raw → Content → Raw
    array_whole r alone = r
    array_whole r (one x) = r
    array_whole r (parts rs) = tagged h.tags (raw.array h.len (raw.raw r rs))

    first_put : (r : Raw) (others : Reads Raws) → in_tags h.tags (one_of collection.Array h.len (with_front (r ∷ []) others)) ≡ (as_parts others >>= (λ c. Ok (array_whole r c.0, c.1)))
    unfolding array_whole
    first_put r (Ok x) = refl
    first_put r (Err e) = refl

    only_front : (r : Raw) (front : List Raw) (q : Raw) → Empty front → q ≡ r → front ++ q ∷ [] ≡ r ∷ []
    only_front r [] q h is = ap (λ (x : Raw). x ∷ []) is
    only_front r (x ∷ front) q h is = absurd h

    pub array_variant_here : (behind : Remaining) (i : ℕ) (start rest : List ℕ) → f.legacy_enums ≡ true → next_at end_in_array (remaining_of all) mid ≡ Ok (Some (remaining_of behind), start) → IsRead (IsName names) (item_at (raws f l) left start) i rest
        → IsVariantHead f names l read left i (form.Array behind) rest
    unfolding array_whole
    array_variant_here behind i start rest legacy next name =
        let r = name.item in
        let n : IsNextItem (λ (q x : Raw). q ≡ x) f left (remaining_of all) (remaining_of behind) r l mid rest = record { start = start; next = next; item = record { item = r; is = name.is; means = refl } } in
        let so = goes_on Empty f left (remaining_of all) (λ (q x : Raw). q ≡ x) r (λ front. front ≡ r ∷ []) (λ front q h is. only_front r front q h is) (remaining_of all) (remaining_of behind) l mid mid rest (begins Empty f left (remaining_of all) l mid tt) n in
        let same = subst (λ (front : List Raw). with_front front (items_at f l left (remaining_of behind) rest) ≡ items_at f l left (remaining_of all) mid) so.holds so.same in
        record {
          whole = array_whole r;
          is = h.is ∙ ap (λ (x : Reads Raws). in_tags h.tags (one_of collection.Array h.len x)) (sym same) ∙ first_put r (items_at f l left (remaining_of behind) rest);
          variant = λ c after is.
              let p = parts_are (items_at f l left (remaining_of behind) rest) c after is in
              let v : IsVariant f names (raw.array h.len (raw.raw r p.rs)) (i, parts p.rs) = (legacy, name.means, refl) in
              let t = subst (λ (x : Raw). IsVariant f names x (i, parts p.rs)) (sym (untagged-tagged h.tags (raw.array h.len (raw.raw r p.rs)))) v in
              subst (λ (c : Content). IsVariant f names (untagged (array_whole r c)) (i, c)) (sym p.same) t;
        }

  -- an item of this kind is an array's
  array_items : (r : Raw) → kind_of r ≡ kind.array → (rs : Raws) × (IsHeld collection.Array) (untagged r) rs
  array_items (raw.unsigned w n) is = absurd cc
  array_items (raw.negative w n) is = absurd cc
  array_items (raw.bytes c) is = absurd cc
  array_items (raw.text c) is = absurd cc
  array_items (raw.bytes_chunks cs) is = absurd cc
  array_items (raw.text_chunks cs) is = absurd cc
  array_items (raw.array l rs) is = (rs, refl)
  array_items (raw.map l ps) is = absurd cc
  array_items (raw.tag w n r) is = absurd cc
  array_items (raw.simple raw.false_item) is = absurd cc
  array_items (raw.simple raw.true_item) is = absurd cc
  array_items (raw.simple raw.null_item) is = absurd cc
  array_items (raw.simple raw.undefined_item) is = absurd cc
  array_items (raw.float w bits) is = absurd cc

  module _ (allowed : ReadErrorCode → Bool) (levels : ℕ) (s : Input) (e : Error) where
    abbrev Nothing : Limits → List ℕ → Type 0
    Nothing l bs = HasShape shape.Array bs → IsNotRead (PassesTags (IsVariant f names)) (item_at (raws f l) levels bs)

    pub no_array : {w : Input} → RefusesHeadOf collection.Array allowed f levels s w e → RefusesShaped (HasShape shape.Array) allowed f names levels s w e
    no_array = refuses_map allowed s (code_of e) (offset_of e) (λ l bs. IsNotRead (PassesTags (IsHeld collection.Array)) (item_at (raws f l) levels bs)) Nothing
        (λ l bs none begins v rest got.
        let i = array_items got.item (array_begins f l levels bs rest got.item begins got.is) in
        none i.0 rest (record { item = got.item; is = got.is; means = i.1 }))

    module _ (a : Input) (left : ℕ) (all : Remaining) (head : Step s a (λ l bs rest. IsHeadOf collection.Array f l (item_at (raws f l) levels bs) left all rest)) where
      abbrev Head : Limits → List ℕ → List ℕ → Type 0
      Head l bs rest = IsHeadOf collection.Array f l (item_at (raws f l) levels bs) left all rest

      -- no item comes
      pub no_first : {w : Input} → Refuses allowed a w (code_of e) (offset_of e) (λ l bs. (after : reader.Remaining) (rest : List ℕ) → next_at end_in_array (remaining_of all) bs ≡ Ok (Some after, rest) → ⊥) → RefusesShaped (HasShape shape.Array) allowed f names levels s w e
      no_first = refuses_then allowed s (code_of e) (offset_of e) a Head (λ l bs. (after : reader.Remaining) (rest : List ℕ) → next_at end_in_array (remaining_of all) bs ≡ Ok (Some after, rest) → ⊥) Nothing
          (λ l bs mid h none _. no_array_variant l (item_at (raws f l) levels bs) left all mid h (λ x after rest n. none after n.start n.next)) head

      -- one comes that is no identifier
      pub no_first_name : {w : Input} (b : Input) (behind : Remaining) → Step a b (Next (IsName names) f left all behind) → Refuses allowed b w (code_of e) (offset_of e) (λ l bs. IsNotRead (IsName names) (item_at (raws f l) left bs)) → RefusesShaped (HasShape shape.Array) allowed f names levels s w e
      no_first_name b behind next none =
          refuses_then allowed s (code_of e) (offset_of e) a Head (NoPart (IsName names) f left (remaining_of all)) Nothing
          (λ l bs mid h none _. no_array_variant l (item_at (raws f l) levels bs) left all mid h none) head
          (refuses_then allowed a (code_of e) (offset_of e) b (Next (IsName names) f left all behind) (λ l bs. IsNotRead (IsName names) (item_at (raws f l) left bs)) (NoPart (IsName names) f left (remaining_of all))
          (λ l bs mid next none. none_read (IsName names) f left all behind allowed a e l bs mid next none) next none)

  record NextName (left : ℕ) (all behind : Remaining) (i : ℕ) (l : Limits) (bs rest : List ℕ) : Type 0 where
    start : List ℕ
    next : next_at end_in_array (remaining_of all) bs ≡ Ok (Some (remaining_of behind), start)
    name : IsRead (IsName names) (item_at (raws f l) left start) i rest

  pub array_variant_taken : (levels left outer i : ℕ) (all behind : Remaining) (s a b t : Input) → outer ≡ left → f.legacy_enums ≡ true → Step s a (λ l bs rest. IsHeadOf collection.Array f l (item_at (raws f l) levels bs) left all rest)
      → Step a b (Next (IsName names) f left all behind) → Step b t (λ l bs rest. IsRead (IsName names) (item_at (raws f l) left bs) i rest)
      → Step s t (λ l bs rest. HasShape shape.Array bs → IsVariantHead f names l (item_at (raws f l) levels bs) outer i (form.Array behind) rest)
  array_variant_taken levels left outer i all behind s a b t same legacy head next name =
      step_then s a t (λ l bs rest. IsHeadOf collection.Array f l (item_at (raws f l) levels bs) left all rest) (NextName left all behind i) (λ l bs rest. HasShape shape.Array bs → IsVariantHead f names l (item_at (raws f l) levels bs) outer i (form.Array behind) rest)
      (λ l bs mid rest h n _. subst (λ (k : ℕ). IsVariantHead f names l (item_at (raws f l) levels bs) k i (form.Array behind) rest) (sym same)
      (array_variant_here l (item_at (raws f l) levels bs) left all mid h behind i n.start rest legacy n.next n.name)) head
      (step_then a b t (Next (IsName names) f left all behind) (λ l bs rest. IsRead (IsName names) (item_at (raws f l) left bs) i rest) (NextName left all behind i)
      (λ l bs mid rest next name. record { start = mid; next = next; name = name }) next name)
