-- Which fault of the bytes the content of a variant reports, and so the enum.
use Rattle.std.proofs.Common.{◌≡◌, ℕ, zero, suc, Bool, true, false, IfErr, List, length, Option, Some, None, Result, Ok, Err, refl, sym, ap, subst}
use Rattle.cbor_model.specs.Formats.{Formats, all_formats}
use Rattle.cbor_model.specs.Plain.{Val, Vals, Pairs}
use Rattle.cbor_model.specs.Raw.{Raw, Raws, RawPairs}
use Rattle.cbor_model.specs.Refusal.{Refusal, end_in_array}
use Rattle.cbor_model.specs.Value.{value}
use Rattle.cbor_model.specs.Reader.{Fault, Reads, Reading, ◌>>=◌, Parts, go_on, next_at, parts_at, parts_by, items_of, item_at}
use Rattle.cbor_model.specs.Reader as reader
use Rattle.cbor_read.specs.Source.{Input}
use Rattle.cbor_io.specs.declared.error.Error.{Error}
use Rattle.cbor_io.specs.declared.read_error.ReadErrorCode.{ReadErrorCode}
use Rattle.cbor_decode.specs.Gives.{Limits, Step, values}
use Rattle.cbor_decode.specs.Heads.{passed, remaining_of}
use Rattle.cbor_decode.specs.declared.cursor.Remaining.{Remaining}
use Rattle.cbor_decode.proofs.facts.Readings.{along, value_seen}
use Rattle.cbor_decode_as.specs.Accesses.{items_at}
use Rattle.cbor_decode_as.specs.BeginsEnum.{BeginsParts, BeginsVariant}
use Rattle.cbor_decode_as.specs.Contents.{ContentFault, any_content}
use Rattle.cbor_decode_as.specs.Takes.{ItemFault, WhereTotal, any_item, raws}
use Rattle.cbor_decode_as.specs.declared.variant.Form.{Form}
use Rattle.cbor_decode_as.specs.declared.variant.Form.TheVariants as form
use Rattle.cbor_de.specs.ItemLists.{ItemsFault}
use Rattle.cbor_decode_as.proofs.facts.Enums.{content_fault, part_content}
use Rattle.cbor_de.proofs.facts.Faults.{array_begins, array_fault, if_any_then}
use Rattle.cbor_described.specs.Contents.{OwnContentFault}

-- where it is claimed
pub where_then : {P Q : Type 0} (b : Bool) → (P → Q) → WhereTotal b P → WhereTotal b Q
where_then true on h = on h
where_then false on h = tt

-- ---- items as values

-- the same bytes are read as something else, or the same fault is met
abbrev Sees : {A B : Type 0} → Reads A → Reads B → Type 0
Sees {B = B} (Ok x) seen = (y : B) × (seen ≡ Ok (y, x.1))
Sees (Err d) seen = seen ≡ Err d

bound : {A B C D : Type 0} (read : Reads A) (seen : Reads B) (f : A × List ℕ → Reads C) (g : B × List ℕ → Reads D) → Sees read seen → ((x : A × List ℕ) (y : B) → Sees (f x) (g (y, x.1))) → Sees (read >>= f) (seen >>= g)
bound {B = B} {D = D} (Ok x) seen f g h each = subst (λ (read : Reads B). Sees {B = D} (f x) (read >>= g)) (sym h.1) (each x h.0)
bound {B = B} (Err d) seen f g is each = ap (λ (read : Reads B). read >>= g) is

module _ {A B As Bs : Type 0} (ends : Refusal) (none : As) (add : A → As → As) (p : List ℕ → Reads A) (nil : Bs) (put : B → Bs → Bs) (q : List ℕ → Reads B) (each : (bs : List ℕ) → Sees (p bs) (q bs)) where
  abbrev one : Parts A As
  one = record { ends = ends; part = p; none = none; add = add }

  abbrev two : Parts B Bs
  two = record { ends = ends; part = q; none = nil; add = put }

  another : (others : reader.Remaining → List ℕ → Reads As) (seen : reader.Remaining → List ℕ → Reads Bs) → ((r : reader.Remaining) (bs : List ℕ) → Sees (others r bs) (seen r bs)) → (next : Option reader.Remaining) (bs : List ℕ) → Sees (go_on one others next bs) (go_on two seen next bs)
  another others seen more None bs = (nil, refl)
  another others seen more (Some r) bs =
      bound (p bs) (q bs) _ _ (each bs) (λ first y. bound (others r first.1) (seen r first.1) _ _ (more r first.1) (λ rest z. (put y z, refl)))

  went : (others : reader.Remaining → List ℕ → Reads As) (seen : reader.Remaining → List ℕ → Reads Bs) → ((r : reader.Remaining) (bs : List ℕ) → Sees (others r bs) (seen r bs)) → (next : Reads (Option reader.Remaining)) → Sees (next >>= (λ n. go_on one others n.0 n.1)) (next >>= (λ n. go_on two seen n.0 n.1))
  went others seen more (Ok n) = another others seen more n.0 n.1
  went others seen more (Err d) = refl

  parts : (fuel : ℕ) (r : reader.Remaining) (bs : List ℕ) → Sees (parts_by one fuel r bs) (parts_by two fuel r bs)
  unfolding parts_by
  parts zero r bs = refl
  parts (suc fuel) r bs = went (parts_by one fuel) (parts_by two fuel) (parts fuel) (next_at ends r bs)

module _ (l : Limits) (left : ℕ) where
  abbrev bytes : Reading Raw Raws RawPairs
  bytes = raws all_formats l

  abbrev vals : Reading Val Vals (Pairs → Pairs)
  vals = values all_formats l

  item : (bs : List ℕ) → Sees (item_at bytes left bs) (any_item left l bs)
  item bs = subst (λ (read : Reads Val). Sees (item_at bytes left bs) read) (sym (value_seen all_formats l left bs)) (by (item_at bytes left bs))
    where
      by : (read : Reads Raw) → Sees read (along value read)
      by (Ok x) = (value x.0, refl)
      by (Err d) = refl

  -- what stops the items that remain stops them as values
  items_stop : (r : reader.Remaining) (bs : List ℕ) (d : Fault) → items_at all_formats l left r bs ≡ Err d → passed (parts_at (items_of vals (any_item left l)) r bs) ≡ Err d
  items_stop r bs d is =
      let seen = parts end_in_array bytes.no_items bytes.item (item_at bytes left) vals.no_items vals.item (any_item left l) item (suc (length bs)) r bs in
      ap (λ (read : Reads Vals). passed read) (subst (λ (read : Reads Raws). Sees read (parts_at (items_of vals (any_item left l)) r bs)) is seen)

-- ---- the parts of a variant

-- those that remain of the enum's array
in_array : (l : Limits) (left inner : ℕ) (all r : Remaining) (bs mid : List ℕ) (d : Fault) → BeginsParts left (form.Array all) inner r bs mid → items_at all_formats l inner (remaining_of r) mid ≡ Err d → any_content left (form.Array all) l bs ≡ Err d
in_array l left inner all r bs mid d same stops =
    items_stop l left (remaining_of all) bs d
    (subst (λ (r : Remaining). items_at all_formats l left (remaining_of r) bs ≡ Err d) same.0
    (subst (λ (n : ℕ). items_at all_formats l n (remaining_of r) bs ≡ Err d) same.1
    (subst (λ (bs : List ℕ). items_at all_formats l inner (remaining_of r) bs ≡ Err d) same.2 stops)))

-- the fault of the items that remain is the content's
pub parts_told : (allowed : ReadErrorCode → Bool) (left inner : ℕ) (k : Form) (r : Remaining) (s m : Input) (e : Error) → Step s m (λ l bs rest. BeginsParts left k inner r bs rest) → ItemsFault allowed inner r m e → ContentFault allowed left k s e
parts_told allowed left inner (form.Array all) r s m e step h = if_any_then allowed s e m (λ l bs rest. BeginsParts left (form.Array all) inner r bs rest) (λ l. items_at all_formats l inner (remaining_of r)) (any_content left (form.Array all))
    (λ l bs mid d same stops. in_array l left inner all r bs mid d same stops) step h
parts_told allowed left inner form.Map r s m e step h =
    part_content allowed (ItemFault allowed left) (λ (r : Raw) (x : Unit {0}). Unit {0}) all_formats left form.Map s e (λ t h. h) (array_fault allowed e left inner r s m (array_begins left inner r s m step) h)
parts_told allowed left inner form.Alone r s m e step h = if_any_then allowed s e m (λ l bs rest. BeginsParts left form.Alone inner r bs rest) (λ l. items_at all_formats l inner (remaining_of r)) (any_content left form.Alone)
    (λ l bs mid d none stops. absurd none) step h

-- ---- the enum

-- where its content reports the faults of the bytes
pub enum_told : {A : Type 0} (allowed : ReadErrorCode → Bool) (f : Formats) (names : List (List ℕ)) (levels left i : ℕ) (k : Form) (s t : Input) (b : Bool) (r : Result A Error) → Step s t (λ l bs rest. BeginsVariant f names l levels left i k bs rest) → IfErr r (OwnContentFault allowed b left k t) → IfErr r (λ e. WhereTotal b (ItemFault allowed levels s e))
enum_told allowed f names levels left i k s t b (Ok x) step h = tt
enum_told allowed f names levels left i k s t b (Err e) step h = where_then b (content_fault allowed f names levels left i k s t e step) h
