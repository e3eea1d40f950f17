-- Lists of variants: what the answers of the calls on parts, on contents and on an enum add.
use Rattle.std.proofs.Common.{inr, ◌≡◌, ℕ, zero, suc, ◌-◌, Bool, List, Result, Ok, Err, refl, sym, ap, subst, ◌∙◌, arith}
use Rattle.cbor_model.specs.Formats as model
use Rattle.cbor_model.specs.Raw.{Raws}
use Rattle.cbor_model.specs.Reader.{Reads, ◌>>=◌, item_at}
use Rattle.cbor_model.proofs.facts.Reader.{ok_is}
use Rattle.cbor_read.specs.Source.{Input, TookSome}
use Rattle.cbor_io.specs.Error.{code_of, offset_of}
use Rattle.cbor_io.specs.declared.error.Error.{Error}
use Rattle.cbor_io.specs.declared.read_error.ReadErrorCode.{ReadErrorCode}
use Rattle.cbor_decode.specs.Gives.{Step}
use Rattle.cbor_decode.specs.Heads.{remaining_of}
use Rattle.cbor_decode.specs.declared.cursor.Remaining.{Remaining}
use Rattle.cbor_decode.specs.declared.formats.Formats.{Formats}
use Rattle.cbor_decode.proofs.facts.Steps.{step_same, step_map, step_then}
use Rattle.cbor_decode_as.specs.Accesses.{items_at}
use Rattle.cbor_decode_as.specs.Enums.{Content, alone, AreParts, IsNothing}
use Rattle.cbor_described.specs.OneOfs.{either}
use Rattle.cbor_de.specs.ItemLists.{AreItems, AreNoItems, TakesItems}
use Rattle.cbor_decode_as.specs.Takes.{formats_of, raws, Refuses}
use Rattle.cbor_decode_as.specs.Variants.{content_at, IsVariantHead, IsContent, IsNoContent, TakesContent, IsItemsOf, IsPartsHead, RefusesParts}
use Rattle.cbor_decode_as.specs.Variants.{IsEntered, ReportsAlone}
use Rattle.cbor_decode_as.specs.declared.variant.Form.{Form}
use Rattle.cbor_decode_as.specs.declared.variant.Form.TheVariants as form
use Rattle.cbor_described.specs.declared.variant_list.OneOf.{OneOf}
use Rattle.cbor_described.specs.declared.variant_list.OneOf.TheVariants.{This, Other}
use Rattle.cbor_de.proofs.facts.Enums.{TakesEnum, variant_is, content_read, content_unread, has_items, items_read, items_made}
use Rattle.cbor_decode_as.proofs.facts.Readings.{refuses_map, refuses_then}

-- ---- contents

module _ (f : model.Formats) (left : ℕ) (form : Form) (allowed : ReadErrorCode → Bool) (s t : Input) where
  -- what was read is read as what is made of it, and nothing else is
  module _ {A B : Type 0} (one : Content → A → Type 0) (two : Content → B → Type 0) where
    pub content_made : (x : A) (y : B) → ((c : Content) → one c x → two c y) → TakesContent allowed f one left form s t (Ok x) → TakesContent allowed f two left form s t (Ok y)
    content_made x y on = step_map s t (λ l bs rest. IsContent one (content_at f l left form bs) x rest) (λ l bs rest. IsContent two (content_at f l left form bs) y rest)
        (λ l bs rest got. record { content = got.content; is = got.is; meaning = on got.content got.meaning })

    pub content_not_made : (e : Error) → ((c : Content) (y : B) → two c y → (x : A) × one c x) → TakesContent allowed f one left form s t (Err e) → TakesContent allowed f two left form s t (Err e)
    content_not_made e back = refuses_map allowed s (code_of e) (offset_of e) (λ l bs. IsNoContent one (content_at f l left form bs)) (λ l bs. IsNoContent two (content_at f l left form bs))
        (λ l bs none y rest got. let x = back got.content y got.meaning in none x.0 rest (record { content = got.content; is = got.is; meaning = x.1 }))

  -- where nothing has a meaning
  pub no_meaning : {A : Type 0} (e : Error) → TookSome s t → TakesContent {A = A} allowed f (λ c x. ⊥) left form s t (Err e)
  no_meaning e took = record { took = took; reported = λ bs reports. inr (λ x rest got. got.meaning) }

-- An identifier alone has no part, and nothing of it is left to take.
pub nothing_alone : (f : model.Formats) (left : ℕ) (s : Input) (allowed : ReadErrorCode → Bool) → TakesContent allowed f IsNothing left form.Alone s s (Ok tt)
nothing_alone f left s allowed = step_same s (λ l bs rest. IsContent IsNothing (content_at f l left form.Alone bs) tt rest) (λ l bs. record { content = alone; is = refl; meaning = tt })

-- the variants
module _ {V W : Type 0} (this : Content → V → Type 0) (those : ℕ → Content → W → Type 0) where
  needs_this : (c : Content) (y : OneOf V W) → either this those 0 c y → (x : V) × this c x
  needs_this c (This v) h = (v, h)
  needs_this c (Other w) h = absurd h

  needs_other : (i : ℕ) (c : Content) (y : OneOf V W) → either this those (suc i) c y → (x : W) × those i c x
  needs_other i c (This v) h = absurd h
  needs_other i c (Other w) h = (w, h)

  module _ (f : model.Formats) (left : ℕ) (form : Form) (allowed : ReadErrorCode → Bool) (s t : Input) where
    pub this_read : (v : V) → TakesContent allowed f this left form s t (Ok v) → TakesContent allowed f (either this those 0) left form s t (Ok (This v))
    this_read v = content_made f left form allowed s t this (either this those 0) v (This v) (λ c h. h)

    pub this_unread : (e : Error) → TakesContent allowed f this left form s t (Err e) → TakesContent allowed f (either this those 0) left form s t (Err e)
    this_unread e = content_not_made f left form allowed s t this (either this those 0) e needs_this

    pub other_read : (i : ℕ) → (i ≡ 0 → ⊥) → (w : W) → TakesContent allowed f (those (i - 1)) left form s t (Ok w) → TakesContent allowed f (either this those i) left form s t (Ok (Other w))
    other_read zero some w h = absurd (some refl)
    other_read (suc i) some w h =
        let before : suc i - 1 ≡ i = omega arith in
        content_made f left form allowed s t (those i) (either this those (suc i)) w (Other w) (λ c h. h) (subst (λ (i : ℕ). TakesContent allowed f (those i) left form s t (Ok w)) before h)

    pub other_unread : (i : ℕ) → (i ≡ 0 → ⊥) → (e : Error) → TakesContent allowed f (those (i - 1)) left form s t (Err e) → TakesContent allowed f (either this those i) left form s t (Err e)
    other_unread zero some e h = absurd (some refl)
    other_unread (suc i) some e h =
        let before : suc i - 1 ≡ i = omega arith in
        content_not_made f left form allowed s t (those i) (either this those (suc i)) e (needs_other i) (subst (λ (i : ℕ). TakesContent {A = W} allowed f (those i) left form s t (Err e)) before h)

-- ---- several parts

abbrev put : (Raws → Content) → Reads Raws → Reads Content
put whole read = read >>= (λ rs. Ok (whole rs.0, rs.1))

made_parts : (whole : Raws → Content) (read : Reads Raws) (c : Content) (rest : List ℕ) → put whole read ≡ Ok (c, rest) → (rs : Raws) × (read ≡ Ok (rs, rest)) × (c ≡ whole rs)
made_parts whole (Ok x) c rest is =
    let both = ok_is (whole x.0, x.1) (c, rest) is in
    (x.0, ap (λ (p : Content × List ℕ). Ok (x.0, p.1)) both, sym (ap (λ (p : Content × List ℕ). p.0) both))
made_parts whole (Err e) c rest is = absurd cc

module _ {A : Type 0} (items : Raws → A → Type 0) (f : model.Formats) (left : ℕ) (form : Form) (allowed : ReadErrorCode → Bool) (s : Input) where
  -- the content has no parts
  pub no_parts : {w : Input} (e : Error) → RefusesParts allowed f left form s w e → Refuses allowed s w (code_of e) (offset_of e) (λ l bs. IsNoContent (AreParts items) (content_at f l left form bs))
  no_parts e = refuses_map allowed s (code_of e) (offset_of e) (λ l bs. IsNoContent IsItemsOf (content_at f l left form bs)) (λ l bs. IsNoContent (AreParts items) (content_at f l left form bs))
      (λ l bs none y rest got. let rs = has_items items got.content y got.meaning in none rs.0 rest (record { content = got.content; is = got.is; meaning = rs.1 }))

  module _ (m t : Input) (inner : ℕ) (r : Remaining) (head : Step s m (λ l bs rest. IsPartsHead f l (content_at f l left form bs) inner r rest)) where
    pub parts_meant : (y : A) → TakesItems allowed f items inner r m t (Ok y) → TakesContent allowed f (AreParts items) left form s t (Ok y)
    parts_meant y = step_then s m t (λ l bs rest. IsPartsHead f l (content_at f l left form bs) inner r rest) (λ l bs rest. AreItems items (items_at f l inner (remaining_of r) bs) y rest) (λ l bs rest. IsContent (AreParts items) (content_at f l left form bs) y rest)
        (λ l bs mid rest p got. record {
          content = p.whole got.all;
          is = p.is ∙ ap (put p.whole) got.is;
          meaning = items_made items (p.whole got.all) got.all y (p.items got.all) got.meaning;
        }) head

    pub parts_not_meant : (e : Error) → TakesItems allowed f items inner r m t (Err e) → TakesContent allowed f (AreParts items) left form s t (Err e)
    parts_not_meant e = refuses_then allowed s (code_of e) (offset_of e) m (λ l bs rest. IsPartsHead f l (content_at f l left form bs) inner r rest) (λ l bs. AreNoItems items (items_at f l inner (remaining_of r) bs)) (λ l bs. IsNoContent (AreParts items) (content_at f l left form bs))
        (λ l bs mid p none y rest got.
        let w = made_parts p.whole (items_at f l inner (remaining_of r) mid) got.content rest (sym p.is ∙ got.is) in
        let here = subst (λ (c : Content). AreParts items c y) w.2 got.meaning in
        none y rest (record { all = w.0; is = w.1; meaning = items_read items (p.whole w.0) w.0 y (p.items w.0) here })) head

-- ---- an enum

-- what the content of the variant in this place gave
module _ {E : Type 0} (names : List (List ℕ)) (means : Formats → ℕ → Content → E → Type 0) (f : Formats) (outer : ℕ) (s a t : Input) (i left : ℕ) (form : Form) (g : Formats) (formats : g ≡ f) (allowed : ReadErrorCode → Bool) where
  pub enum_answer : Step s a (λ l bs rest. IsVariantHead (formats_of f) names l (item_at (raws (formats_of f) l) outer bs) left i form rest) → (q : Result E Error) → TakesContent allowed (formats_of g) (means g i) left form a t q → TakesEnum names (means f) allowed f outer s t q
  enum_answer head (Ok x) h = content_read (variant_is names (means f) i head formats refl) (λ f. means f i) x x (λ c m. m) h refl
  enum_answer head (Err e) h = content_unread (variant_is names (means f) i head formats refl) (λ f. means f i) (λ c x m. (x, m)) t e (Err e) h refl refl

-- An enum that was entered is no identifier alone.
pub entered_reports : (text : List ℕ) (f : Form) (left inner : ℕ) (e : Error) → IsEntered f left inner → ReportsAlone text f e
entered_reports text (form.Array remaining) left inner e entered = tt
entered_reports text form.Map left inner e entered = tt
entered_reports text form.Alone left inner e entered = absurd entered
