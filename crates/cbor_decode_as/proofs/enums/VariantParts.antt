-- The content of a variant.
use Rattle.std.proofs.Common.{◌≡◌, ℕ, Bool, false, List, ◌∷◌, Option, Some, Result, Ok, Err, refl, sym, ap, subst, ◌∙◌, ◌<◌, arith}
use Rattle.std.specs.Prelude.{IfErr}
use Rattle.cbor_model.specs.Formats as model
use Rattle.cbor_model.specs.Raw as raw
use Rattle.cbor_model.specs.Raw.{Raw, Raws, no_raws}
use Rattle.cbor_model.specs.Readable.{PassesTags, IsUnit}
use Rattle.cbor_model.specs.Refusal.{end_in_array}
use Rattle.cbor_model.specs.Reader.{Reads, ◌>>=◌, next_at, item_at}
use Rattle.cbor_model.specs.Reader as reader
use Rattle.cbor_model.proofs.facts.Reader.{ok_is}
use Rattle.cbor_read.specs.Source.{Input}
use Rattle.cbor_io.specs.Error.{code_of, offset_of}
use Rattle.cbor_io.specs.declared.error.Error.{Error}
use Rattle.cbor_io.specs.declared.read_error.ReadErrorCode.{ReadErrorCode}
use Rattle.cbor_decode.specs.Cursor.{ended_at}
use Rattle.cbor_decode.specs.Gives.{Limits, Step}
use Rattle.cbor_decode.specs.Heads.{remaining_of}
use Rattle.cbor_decode.specs.declared.cursor.Remaining.{Remaining}
use Rattle.cbor_decode.proofs.facts.Steps.{step_same, step_map, step_then}
use Rattle.cbor_decode.specs.declared.formats.Formats.{Formats}
use Rattle.cbor_decode_as.specs.Accesses.{items_at, IsEnd, IsNextItem}
use Rattle.cbor_decode_as.specs.Collections.{IsHeadOf, IsHeld, RefusesHeadOf, TakesEndOf, TakesHeadOf, one_of}
use Rattle.cbor_decode_as.specs.Arrays.{AsArray, AreNone, FirstThen}
use Rattle.cbor_decode_as.specs.Enums.{Content, alone, one, parts, IsPart, IsNothing}
use Rattle.cbor_decode_as.specs.TaggedHeads.{in_tags, tagged}
use Rattle.cbor_decode_as.specs.Takes.{formats_of, raws, IsRead, IsNotRead, Refuses, TakesItem}
use Rattle.cbor_decode_as.specs.Variants.{content_at, IsContent, IsNoContent, IsItemsOf, IsPartsHead, RefusesParts, Coming, TakesContent, TakesParts, IsInside, IsEntered}
use Rattle.cbor_decode_as.specs.declared.variant.Form.{Form}
use Rattle.cbor_decode_as.specs.declared.variant.Form.TheVariants as form
use Rattle.cbor_decode_as.proofs.heads.FirstByte.{IsFirst}
use Rattle.cbor_decode_as.proofs.arrays.Nexts.{NoPart}
use Rattle.cbor_decode_as.proofs.refused.Refusing.{refuses_map, refuses_then}
use Rattle.cbor_decode_as.proofs.numbers.Scalars.{untagged-tagged}
use Rattle.cbor_decode_as.proofs.arrays.Sequences.{append, no_part_rest, begins, goes_on, is_done}
use Rattle.cbor_decode_as.proofs.arrays.Tuples.{Empty, Then, one_more, none_all, then_all, then_rest, empty_rest, first_follows}
use Rattle.cbor_decode_as.proofs.arrays.WholeArrays.{NoItems, end_step, end_lacks, loop_begins, part_goes_on}
use Rattle.cbor_decode.specs.declared.cursor.Collection.TheVariants as collection

-- ---- the form of an error

-- nothing is said of it
pub untold : {A : Type 0} (r : Result A Error) → IfErr r (λ e. Unit {0})
untold (Ok x) = tt
untold (Err e) = tt

-- ---- the items of a content

-- of the items that are read the content is made
abbrev pub as_parts : Reads Raws → Reads Content
as_parts read = read >>= (λ rs. Ok (parts rs.0, rs.1))

pub record Parts (read : Reads Raws) (c : Content) (rest : List ℕ) : Type 0 where
  pub rs : Raws
  pub is : read ≡ Ok (rs, rest)
  pub same : c ≡ parts rs

pub parts_are : (read : Reads Raws) (c : Content) (rest : List ℕ) → as_parts read ≡ Ok (c, rest) → Parts read c rest
parts_are (Ok x) c rest is =
    let both = ok_is (parts x.0, x.1) (c, rest) is in
    record { rs = x.0; is = ap (λ (p : Content × List ℕ). Ok (x.0, p.1)) both; same = sym (ap (λ (p : Content × List ℕ). p.0) both) }
parts_are (Err f) c rest is = absurd cc

-- a content of one item
abbrev pub as_one : Reads Raw → Reads Content
as_one read = read >>= (λ r. Ok (one r.0, r.1))

pub record One (read : Reads Raw) (c : Content) (rest : List ℕ) : Type 0 where
  pub item : Raw
  pub is : read ≡ Ok (item, rest)
  pub same : c ≡ one item

pub one_is : (read : Reads Raw) (c : Content) (rest : List ℕ) → as_one read ≡ Ok (c, rest) → One read c rest
one_is (Ok x) c rest is =
    let both = ok_is (one x.0, x.1) (c, rest) is in
    record { item = x.0; is = ap (λ (p : Content × List ℕ). Ok (x.0, p.1)) both; same = sym (ap (λ (p : Content × List ℕ). p.0) both) }
one_is (Err f) c rest is = absurd cc

-- ---- one item that is left of an array

-- the first item, and none after it
abbrev pub Only : {A : Type 0} → (Raw → A → Type 0) → Raws → A → Type 0
Only reads rs x = FirstThen reads x AreNone rs

pub no_only : {A : Type 0} (reads : Raw → A → Type 0) (f : model.Formats) (levels : ℕ) (all : Remaining) (l : Limits) (bs : List ℕ)
    → NoItems (Only reads) f levels (remaining_of all) l bs → IsNoContent (IsPart reads) (content_at f l levels (form.Array all) bs)
no_only reads f levels all l bs none x rest got =
    let p = parts_are (items_at f l levels (remaining_of all) bs) got.content rest got.is in
    none p.rs rest x p.is (subst (λ (c : Content). IsPart reads c x) p.same got.meaning)

pub only_here : {A : Type 0} (reads : Raw → A → Type 0) (f : model.Formats) (levels : ℕ) (all behind : Remaining) (x : A) (l : Limits) (bs a b rest : List ℕ)
    → next_at end_in_array (remaining_of all) bs ≡ Ok (Some (remaining_of behind), a) → IsRead reads (item_at (raws f l) levels a) x b → IsEnd (remaining_of behind) l b rest
    → IsContent (IsPart reads) (content_at f l levels (form.Array all) bs) x rest
only_here reads f levels all behind x l bs a b rest next item end =
    let so = begins Empty f levels (remaining_of all) l bs tt in
    let so1 = goes_on Empty f levels (remaining_of all) reads x (Then reads x Empty) (λ front i h m. one_more reads x i m front h) (remaining_of all) (remaining_of behind) l bs bs b so (record { start = a; next = next; item = item }) in
    let d = is_done (Then reads x Empty) f levels (remaining_of all) (remaining_of behind) l bs b rest so1 end in
    record {
      content = parts (append d.front no_raws);
      is = ap as_parts d.is;
      meaning = then_all reads x Empty AreNone none_all d.front d.holds;
    }

module _ {A : Type 0} (reads : Raw → A → Type 0) (f : model.Formats) (levels : ℕ) (all behind : Remaining) where
  abbrev pub Next : Limits → List ℕ → List ℕ → Type 0
  Next l bs rest = next_at end_in_array (remaining_of all) bs ≡ Ok (Some (remaining_of behind), rest)

  abbrev pub Item : A → Limits → List ℕ → List ℕ → Type 0
  Item x l bs rest = IsRead reads (item_at (raws f l) levels bs) x rest

  record NextItem (x : A) (l : Limits) (bs rest : List ℕ) : Type 0 where
    start : List ℕ
    next : Next l bs start
    item : Item x l start rest

  item_next : (s a b : Input) (x : A) → Step s a Next → Step a b (Item x) → Step s b (NextItem x)
  item_next s a b x = step_then s a b Next (Item x) (NextItem x) (λ l bs mid rest next item. record { start = mid; next = next; item = item })

  pub only_taken : (s a b t : Input) (x : A) → Step s a Next → Step a b (Item x) → Step b t (λ l bs rest. ended_at end_in_array (remaining_of behind) bs ≡ Ok (tt, rest))
      → Step s t (λ l bs rest. IsContent (IsPart reads) (content_at f l levels (form.Array all) bs) x rest)
  only_taken s a b t x first second third =
      step_then s b t (NextItem x) (IsEnd (remaining_of behind)) (λ l bs rest. IsContent (IsPart reads) (content_at f l levels (form.Array all) bs) x rest)
      (λ l bs mid rest n end. only_here reads f levels all behind x l bs n.start mid rest n.next n.item end) (item_next s a b x first second) (end_step behind b t third)

  module _ (allowed : ReadErrorCode → Bool) (s : Input) (e : Error) where
    abbrev pub RefusesOnly : Input → Type 0
    RefusesOnly t = Refuses allowed s t (code_of e) (offset_of e) (λ l bs. IsNoContent (IsPart reads) (content_at f l levels (form.Array all) bs))

    -- no item is there
    no_part : (l : Limits) (bs : List ℕ) → NoPart reads f levels (remaining_of all) l bs → NoItems (Only reads) f levels (remaining_of all) l bs
    no_part l bs none rs rest x is means = no_part_rest reads f levels (remaining_of all) l bs none rs rest is (first_follows reads x AreNone rs means)

    pub none_comes : {w : Input} → Refuses allowed s w (code_of e) (offset_of e) (λ l bs. (after : reader.Remaining) (rest : List ℕ) → next_at end_in_array (remaining_of all) bs ≡ Ok (Some after, rest) → ⊥) → RefusesOnly w
    none_comes h = refuses_map allowed s (code_of e) (offset_of e) (λ l bs. (after : reader.Remaining) (rest : List ℕ) → next_at end_in_array (remaining_of all) bs ≡ Ok (Some after, rest) → ⊥) (λ l bs. IsNoContent (IsPart reads) (content_at f l levels (form.Array all) bs))
        (λ l bs none. no_only reads f levels all l bs (no_part l bs (λ x after rest n. none after n.start n.next))) h

    pub none_read : (l : Limits) (bs mid : List ℕ) → Next l bs mid → IsNotRead reads (item_at (raws f l) levels mid) → NoPart reads f levels (remaining_of all) l bs
    none_read l bs mid next none x after rest n =
        let both = ok_is (Some after, n.start) (Some (remaining_of behind), mid) (sym n.next ∙ next) in
        let at = ap (λ (p : Option reader.Remaining × List ℕ). p.1) both in
        none x rest (subst (λ (start : List ℕ). IsRead reads (item_at (raws f l) levels start) x rest) at n.item)

    pub item_lacks : {w : Input} (a : Input) → Step s a Next → Refuses allowed a w (code_of e) (offset_of e) (λ l bs. IsNotRead reads (item_at (raws f l) levels bs)) → RefusesOnly w
    item_lacks a first h = refuses_then allowed s (code_of e) (offset_of e) a Next (λ l bs. IsNotRead reads (item_at (raws f l) levels bs)) (λ l bs. IsNoContent (IsPart reads) (content_at f l levels (form.Array all) bs))
        (λ l bs mid next none. no_only reads f levels all l bs (no_part l bs (none_read l bs mid next none))) first h

-- items are left where the end is due
pub end_left : {A : Type 0} (reads : Raw → A → Type 0) (f : Formats) (levels : ℕ) (all behind : Remaining) (allowed : ReadErrorCode → Bool) (s a b t : Input) (x : A) (e : Error)
    → Step s a (Next reads (formats_of f) levels all behind) → Step a b (Item reads (formats_of f) levels all behind x) → TakesEndOf collection.Array allowed behind b t (Err e)
    → Refuses allowed s t (code_of e) (offset_of e) (λ l bs. IsNoContent (IsPart reads) (content_at (formats_of f) l levels (form.Array all) bs))
end_left reads f levels all behind allowed s a b t x e first second third =
    let so = loop_begins s Empty f f levels levels refl refl all tt in
    let next = step_then s a b (Next reads (formats_of f) levels all behind) (Item reads (formats_of f) levels all behind x) (IsNextItem reads (formats_of f) levels (remaining_of all) (remaining_of behind) x)
    (λ l bs mid rest next item. record { start = mid; next = next; item = item }) first second in
    let so1 = part_goes_on s Empty f f levels levels refl refl all (λ f. reads) all s (Then reads x Empty) behind b x (λ front i h m. one_more reads x i m front h) so next in
    refuses_map allowed s (code_of e) (offset_of e) (NoItems (Only reads) (formats_of f) levels (remaining_of all)) (λ l bs. IsNoContent (IsPart reads) (content_at (formats_of f) l levels (form.Array all) bs))
    (λ l bs none. no_only reads (formats_of f) levels all l bs none)
    (end_lacks s (Then reads x Empty) f f levels levels refl refl all (Only reads) allowed behind b t e
    (λ front more y h means. then_rest reads x y Empty AreNone AreNone (empty_rest AreNone AreNone (λ more means. means)) front more h means) so1 third)

-- ---- one item, and none

pub one_taken : {A : Type 0} (reads : Raw → A → Type 0) (f : model.Formats) (levels : ℕ) (s t : Input) (x : A)
    → Step s t (λ l bs rest. IsRead reads (item_at (raws f l) levels bs) x rest) → Step s t (λ l bs rest. IsContent (IsPart reads) (content_at f l levels form.Map bs) x rest)
one_taken reads f levels s t x = step_map s t (λ l bs rest. IsRead reads (item_at (raws f l) levels bs) x rest) (λ l bs rest. IsContent (IsPart reads) (content_at f l levels form.Map bs) x rest)
    (λ l bs rest h. record { content = one h.item; is = ap as_one h.is; meaning = h.means })

pub one_refused : {A : Type 0} {w : Input} (reads : Raw → A → Type 0) (f : model.Formats) (levels : ℕ) (s : Input) (allowed : ReadErrorCode → Bool) (e : Error)
    → Refuses allowed s w (code_of e) (offset_of e) (λ l bs. IsNotRead reads (item_at (raws f l) levels bs)) → Refuses allowed s w (code_of e) (offset_of e) (λ l bs. IsNoContent (IsPart reads) (content_at f l levels form.Map bs))
one_refused reads f levels s allowed e = refuses_map allowed s (code_of e) (offset_of e) (λ l bs. IsNotRead reads (item_at (raws f l) levels bs)) (λ l bs. IsNoContent (IsPart reads) (content_at f l levels form.Map bs))
    (λ l bs none x rest got.
    let o = one_is (item_at (raws f l) levels bs) got.content rest got.is in
    none x rest (record { item = o.item; is = o.is; means = subst (λ (c : Content). IsPart reads c x) o.same got.meaning }))

-- either, as the call answers
pub one_answer : {A : Type 0} (reads : Raw → A → Type 0) (f : model.Formats) (levels : ℕ) (s t : Input) (allowed : ReadErrorCode → Bool) (r : Result A Error)
    → TakesItem allowed f reads levels s t r → TakesContent allowed f (IsPart reads) levels form.Map s t r
one_answer reads f levels s t allowed (Ok x) h = one_taken reads f levels s t x h
one_answer reads f levels s t allowed (Err e) h = one_refused reads f levels s allowed e h

module _ (f : model.Formats) (levels : ℕ) (s t : Input) (allowed : ReadErrorCode → Bool) where
  -- a null or undefined
  abbrev Null : Raw → Unit {0} → Type 0
  Null = PassesTags IsUnit

  nothing : (c : Content) (u : Unit {0}) → IsPart Null c u → IsNothing c u
  nothing alone u h = tt
  nothing (one r) u h = h
  nothing (parts rs) u h = h

  nothing_taken : (k : Form) (u : Unit {0}) → Step s t (λ l bs rest. IsContent (IsPart Null) (content_at f l levels k bs) u rest) → Step s t (λ l bs rest. IsContent IsNothing (content_at f l levels k bs) u rest)
  nothing_taken k u = step_map s t (λ l bs rest. IsContent (IsPart Null) (content_at f l levels k bs) u rest) (λ l bs rest. IsContent IsNothing (content_at f l levels k bs) u rest)
      (λ l bs rest h. record { content = h.content; is = h.is; meaning = nothing h.content u h.meaning })

  nothing_refused : {w : Input} (k : Form) (e : Error) → ((l : Limits) (bs rest : List ℕ) (c : Content) (u : Unit {0}) → content_at f l levels k bs ≡ Ok (c, rest) → IsNothing c u → IsPart Null c u)
      → Refuses allowed s w (code_of e) (offset_of e) (λ l bs. IsNoContent (IsPart Null) (content_at f l levels k bs)) → Refuses allowed s w (code_of e) (offset_of e) (λ l bs. IsNoContent IsNothing (content_at f l levels k bs))
  nothing_refused k e back = refuses_map allowed s (code_of e) (offset_of e) (λ l bs. IsNoContent (IsPart Null) (content_at f l levels k bs)) (λ l bs. IsNoContent IsNothing (content_at f l levels k bs))
      (λ l bs none u rest got. none u rest (record { content = got.content; is = got.is; meaning = back l bs rest got.content u got.is got.meaning }))

  pub nothing_in_array : (all : Remaining) (r : Result (Unit {0}) Error) → TakesContent allowed f (IsPart Null) levels (form.Array all) s t r → TakesContent allowed f IsNothing levels (form.Array all) s t r
  nothing_in_array all (Ok u) h = nothing_taken (form.Array all) u h
  nothing_in_array all (Err e) h = nothing_refused (form.Array all) e
      (λ l bs rest c u is means.
      let p = parts_are (items_at f l levels (remaining_of all) bs) c rest is in
      subst (λ (c : Content). IsPart Null c u) (sym p.same) (subst (λ (c : Content). IsNothing c u) p.same means)) h

  pub nothing_in_map : (r : Result (Unit {0}) Error) → TakesItem allowed f Null levels s t r → TakesContent allowed f IsNothing levels form.Map s t r
  nothing_in_map (Ok u) h = nothing_taken form.Map u (one_taken Null f levels s t u h)
  nothing_in_map (Err e) h = nothing_refused form.Map e
      (λ l bs rest c u is means.
      let o = one_is (item_at (raws f l) levels bs) c rest is in
      subst (λ (c : Content). IsPart Null c u) (sym o.same) (subst (λ (c : Content). IsNothing c u) o.same means)) (one_refused Null f levels s allowed e h)

-- ---- the items of a content

-- items are a level further in than the enum
pub parts_inside : (k : Form) (left inner outer : ℕ) → IsInside k left outer → IsEntered k left inner → inner < outer
parts_inside form.Alone left inner outer at h = absurd h
parts_inside (form.Array r) left inner outer at h = omega (arith, at, h)
parts_inside form.Map left inner outer at h = omega (arith, at, h)

-- an array's own items
pub parts_here : (f : model.Formats) (levels : ℕ) (all : Remaining) (s : Input) → Step s s (λ l bs rest. IsPartsHead f l (content_at f l levels (form.Array all) bs) levels all rest)
parts_here f levels all s = step_same s (λ l bs rest. IsPartsHead f l (content_at f l levels (form.Array all) bs) levels all rest)
    (λ l bs. record { whole = parts; is = refl; items = λ rs. refl })

-- an array within the content
one_array : (tags : _) (len : raw.Length) (read : Reads Raws) → as_one (in_tags tags (one_of collection.Array len read)) ≡ (read >>= (λ rs. Ok (one (tagged tags (raw.array len rs.0)), rs.1)))
one_array tags len (Ok x) = refl
one_array tags len (Err e) = refl

pub array_here : (f : model.Formats) (levels inner : ℕ) (remaining : Remaining) (s t : Input)
    → Step s t (λ l bs rest. IsHeadOf collection.Array f l (item_at (raws f l) levels bs) inner remaining rest) → Step s t (λ l bs rest. IsPartsHead f l (content_at f l levels form.Map bs) inner remaining rest)
array_here f levels inner remaining s t = step_map s t (λ l bs rest. IsHeadOf collection.Array f l (item_at (raws f l) levels bs) inner remaining rest) (λ l bs rest. IsPartsHead f l (content_at f l levels form.Map bs) inner remaining rest)
    (λ l bs rest h. record {
      whole = λ rs. one (tagged h.tags (raw.array h.len rs));
      is = ap as_one h.is ∙ one_array h.tags h.len (items_at f l inner (remaining_of remaining) rest);
      items = λ rs. subst (λ (i : Raw). AsArray (λ rs items. rs ≡ items) i rs) (sym (untagged-tagged h.tags (raw.array h.len rs))) refl;
    })

pub no_array_here : {w : Input} (f : model.Formats) (levels : ℕ) (s : Input) (allowed : ReadErrorCode → Bool) (e : Error) → RefusesHeadOf collection.Array allowed f levels s w e → RefusesParts allowed f levels form.Map s w e
no_array_here f levels s allowed e = refuses_map allowed s (code_of e) (offset_of e) (λ l bs. IsNotRead (PassesTags (IsHeld collection.Array)) (item_at (raws f l) levels bs)) (λ l bs. IsNoContent IsItemsOf (content_at f l levels form.Map bs))
    (λ l bs none rs rest got.
    let o = one_is (item_at (raws f l) levels bs) got.content rest got.is in
    none rs rest (record { item = o.item; is = o.is; means = subst (λ (c : Content). IsItemsOf c rs) o.same got.meaning }))

-- ---- whether an item comes

last_left : (behind : reader.Remaining) (bs : List ℕ) → Coming (reader.counted 0) behind false bs bs
unfolding next_at
last_left behind bs = (bs, refl)

pub none_left : (s : Input) (behind : reader.Remaining) → Step s s (λ l bs rest. Coming (reader.counted 0) behind false bs rest)
none_left s behind = step_same s (λ l bs rest. Coming (reader.counted 0) behind false bs rest) (λ l bs. last_left behind bs)

break_left : (behind : reader.Remaining) (mid bs rest : List ℕ) → bs ≡ 0xff ∷ mid → Coming reader.to_break behind false bs rest
unfolding next_at
break_left behind mid bs rest e = (mid, rw e refl)

pub break_comes : (s t : Input) (behind : reader.Remaining) (b : ℕ) → b ≡ 0xff → Step s t (λ l bs rest. IsFirst b bs rest) → Step s t (λ l bs rest. Coming reader.to_break behind false bs rest)
break_comes s t behind b is = step_map s t (λ l bs rest. IsFirst b bs rest) (λ l bs rest. Coming reader.to_break behind false bs rest)
    (λ l bs rest h. break_left behind h.others bs rest (h.is ∙ ap (λ (n : ℕ). n ∷ h.others) is))

pub parts_answer : (f : model.Formats) (levels inner : ℕ) (s t : Input) (allowed : ReadErrorCode → Bool) (r : Result Remaining Error) → TakesHeadOf collection.Array allowed f levels s t inner r → TakesParts allowed f levels form.Map s t inner r
parts_answer f levels inner s t allowed (Ok remaining) h = array_here f levels inner remaining s t h
parts_answer f levels inner s t allowed (Err e) h = no_array_here f levels s allowed e h
