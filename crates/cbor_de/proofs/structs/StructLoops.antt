-- A struct whose fields are read by `once` and `required`: what a loop over them knows, and what each
-- call adds.
use Rattle.std.proofs.Common.{◌≡◌, ◌<◌, ◌≤◌, ℕ, zero, suc, ◌+◌, Bool, true, false, List, [], ◌∷◌, length, Option, Some, None, Result, Ok, Err, refl, sym, ap, subst, ◌∙◌, arith}
use Rattle.std.specs.Option.{is_some}
use Rattle.std.specs.Prelude.{IfSome, IsErrAnd, MatchOption}
use Rattle.cbor_model.specs.Reader.{item_at}
use Rattle.cbor_read.specs.Source.{Input, TookSome}
use Rattle.cbor_io.specs.Error.{code_of, offset_of}
use Rattle.cbor_io.specs.declared.error.Error.{Error}
use Rattle.cbor_io.specs.declared.read_error.ReadErrorCode.{ReadErrorCode}
use Rattle.cbor_decode.specs.Gives.{Limits, Advances, Step}
use Rattle.cbor_decode.proofs.facts.Steps.{advances_some}
use Rattle.cbor_decode.specs.Heads.{remaining_of}
use Rattle.cbor_decode.specs.declared.cursor.Remaining.TheVariants.{Counted}
use Rattle.cbor_decode.specs.declared.formats.Formats.{Formats}
use Rattle.cbor_decode_as.specs.Accesses.{most_left}
use Rattle.cbor_decode_as.specs.Identifiers.{texts}
use Rattle.cbor_decode_as.specs.MapAccesses.{IsKey}
use Rattle.cbor_decode_as.specs.Collections.{IsHeadOf, RefusesHeadOf, TakesEndOf}
use Rattle.cbor_de.specs.Structs.{IsAny, IsField, FieldOf, IsStruct}
use Rattle.cbor_decode_as.specs.Takes.{TakesItem, formats_of, raws, IsRead, IsNotRead, Refuses, WhateverTaken}
use Rattle.cbor_de.specs.declared.de.Deserializer.{Deserializer}
use Rattle.cbor_de.specs.declared.field.Field.{Field}
use Rattle.cbor_de.specs.declared.field.Field.TheVariants.{Known, Unknown}
use Rattle.cbor_de.specs.declared.structure.StructAccess.{StructAccess}
use Rattle.cbor_decode_as.proofs.facts.Maps.{NoKey}
use Rattle.cbor_decode_as.proofs.facts.Readings.{refuses_map}
use Rattle.cbor_de.proofs.structs.Slots.{field_one, Slots, none_yet, all_of, Has, LacksAt, ValueAt, reads_at, fill, IsOther}
use Rattle.cbor_de.proofs.structs.Structs.{StructSoFar, NoStruct, struct_begins, no_struct, no_field_named, FieldNamed, field_named, field_once, field_not_once, other_passed, other_unread, field_missing, end_unread, struct_read}
use Rattle.cbor_decode.specs.declared.cursor.Collection.TheVariants as collection

-- ---- which field is meant

known_one : (i j : ℕ) → Known i ≡ Known j → i ≡ j
known_one i j e = cc

module _ {S : Type 0} where
  -- there is an i-th field
  abbrev pub HasField : List (FieldOf S) → ℕ → Type 0
  HasField [] i = ⊥
  HasField (d ∷ fields) zero = Unit {0}
  HasField (d ∷ fields) (suc i) = HasField fields i

  abbrev slot_at : (fields : List (FieldOf S)) (i : ℕ) → Slots fields → Option (ValueAt fields i)
  slot_at [] i slots = None
  slot_at (d ∷ fields) zero slots = slots.0
  slot_at (d ∷ fields) (suc i) slots = slot_at fields i slots.1

  has_at : (fields : List (FieldOf S)) (i : ℕ) (slots : Slots fields) (b : Bool) → HasField fields i → is_some (slot_at fields i slots) ≡ b → Has b fields i slots
  has_at [] i slots b h is = h
  has_at (d ∷ fields) zero slots b h is = is
  has_at (d ∷ fields) (suc i) slots b h is = has_at fields i slots.1 b h is

  others : (k n : ℕ) (fields : List (FieldOf S)) (field : Field) → field ≡ Known n → k + length fields ≤ n → IsOther k fields field
  others k n [] field is beyond = tt
  others k n (d ∷ fields) field is beyond =
      ((λ e. absurd (omega (arith, beyond, known_one n k (sym is ∙ e)))), others (suc k) n fields field is (omega (arith, beyond)))

  -- a number that no field has
  pub known_other : (fields : List (FieldOf S)) {field : Field} {n : ℕ} → field ≡ Known n → length fields ≤ n → IsOther 0 fields field
  known_other fields {field} {n} is beyond = others 0 n fields field is (omega (arith, beyond))

  unknown : (k : ℕ) (fields : List (FieldOf S)) (field : Field) → field ≡ Unknown → IsOther k fields field
  unknown k [] field is = tt
  unknown k (d ∷ fields) field is = ((λ e. absurd (cc)), unknown (suc k) fields field is)

  pub unknown_other : (fields : List (FieldOf S)) {field : Field} → field ≡ Unknown → IsOther 0 fields field
  unknown_other fields {field} is = unknown 0 fields field is

-- what was taken for a slot's value
slot_took : {A : Type 0} {s t : Input} (P : A → Limits → List ℕ → List ℕ → Type 0) (slot : Option A) → is_some slot ≡ true → IfSome slot (λ v. Step s t (P v)) → TookSome s t
slot_took P None some read = absurd cc
slot_took P (Some v) some read = read.took

-- ---- what is known

module _ {S : Type 0} {R : Type 0} (names : List (List ℕ)) (fields : List (FieldOf S)) (source : R → Input) where
  -- What a loop over the fields knows, between two of them. The deserializer was `de` before the
  -- struct, the access `begun` before the loop, and it is `now`.
  pub record FieldsSoFar (de : Deserializer R) (begun now : StructAccess R) (slots : Slots fields) : Type 0 where
    pub same : now.de.ghost_name ≡ begun.de.ghost_name
    pub outer : now.outer ≡ begun.outer
    pub levels : now.de.now.decoder.levels ≡ begun.de.now.decoder.levels
    pub formats : now.de.now.decoder.formats ≡ de.decoder.formats
    pub named : texts now.names.now ≡ names
    pub due : now.value_due ≡ false
    pub advances : Advances (source de.decoder.source) (source now.de.now.decoder.source)
    pub so_far : StructSoFar (IsField names) fields slots (source de.decoder.source) de.decoder.formats de.decoder.levels
        (source now.de.now.decoder.source) now.de.now.decoder.formats now.de.now.decoder.levels now.remaining

  -- the same where a field was named whose value comes
  pub record FieldDue (de : Deserializer R) (begun now : StructAccess R) (slots : Slots fields) (field : Field) : Type 0 where
    pub before : StructAccess R
    pub was : FieldsSoFar de begun before slots
    pub same : now.de.ghost_name ≡ before.de.ghost_name
    pub outer : now.outer ≡ before.outer
    pub listed : now.names ≡ before.names
    pub key : FieldNamed (IsField names) fields was.so_far field now.remaining (source now.de.now.decoder.source) now.de.now.decoder.formats now.de.now.decoder.levels

  -- the same where no pair remains
  pub record FieldsEnded (de : Deserializer R) (begun now : StructAccess R) (slots : Slots fields) : Type 0 where
    pub before : StructAccess R
    pub was : FieldsSoFar de begun before slots
    pub next : Step (source before.de.now.decoder.source) (source now.de.now.decoder.source)
        (IsKey (IsField names) (formats_of before.de.now.decoder.formats) before.de.now.decoder.levels (remaining_of before.remaining) (remaining_of now.remaining) None)
    pub nothing : now.remaining ≡ Counted 0

  -- what an Err has to say
  not_read : {w : Input} (allowed : ReadErrorCode → Bool) (de : Deserializer R) (e : Error) (t : Input) (r : Result S Error) → IsErrAnd r (λ x. x ≡ e) → t ≡ w
      → NoStruct (IsField names) fields allowed (source de.decoder.source) w de.decoder.formats de.decoder.levels (code_of e) (offset_of e)
      → TakesItem allowed (formats_of de.decoder.formats) (IsStruct names fields) de.decoder.levels (source de.decoder.source) t r
  not_read allowed de e t (Ok x) is same none = absurd is
  not_read {w} allowed de e t (Err x) is same none =
      subst (λ (t : Input). NoStruct (IsField names) fields allowed (source de.decoder.source) t de.decoder.formats de.decoder.levels (code_of x) (offset_of x)) (sym same)
      (subst (λ (x : Error). NoStruct (IsField names) fields allowed (source de.decoder.source) w de.decoder.formats de.decoder.levels (code_of x) (offset_of x)) (sym is) none)

  -- ---- the map's head

  -- no map is there
  pub no_fields : (de : Deserializer R) (allowed : ReadErrorCode → Bool) (e : Error) → WhateverTaken (source de.decoder.source) (RefusesHeadOf collection.Map allowed (formats_of de.decoder.formats) de.decoder.levels (source de.decoder.source)) e
      → (t : Input) (r : Result S Error) → IsErrAnd r (λ x. x ≡ e) → TookSome (source de.decoder.source) t → TakesItem allowed (formats_of de.decoder.formats) (IsStruct names fields) de.decoder.levels (source de.decoder.source) t r
  no_fields de allowed e none t r is took = not_read allowed de e t r is refl (no_struct (IsField names) fields allowed (source de.decoder.source) de.decoder.formats de.decoder.levels e (none t took))

  pub fields_begin : {de : Deserializer R} {begun : StructAccess R}
      → Step (source de.decoder.source) (source begun.de.now.decoder.source)
      (λ l bs rest. IsHeadOf collection.Map (formats_of de.decoder.formats) l (item_at (raws (formats_of de.decoder.formats) l) de.decoder.levels bs) begun.de.now.decoder.levels begun.remaining rest)
      → begun.de.now.decoder.formats ≡ de.decoder.formats → texts begun.names.now ≡ names → begun.value_due ≡ false → Advances (source de.decoder.source) (source begun.de.now.decoder.source) → FieldsSoFar de begun begun (none_yet fields)
  fields_begin head formats named due advances = record {
    same = refl;
    outer = refl;
    levels = refl;
    formats = formats;
    named = named;
    due = due;
    advances = advances;
    so_far = struct_begins (IsField names) fields head formats;
  }

module _ {S : Type 0} {R : Type 0} {names : List (List ℕ)} {fields : List (FieldOf S)} {source : R → Input} {de : Deserializer R} {begun now : StructAccess R} {slots : Slots fields} where
  -- ---- the next key

  module _ (i : FieldsSoFar names fields source de begun now slots) where
    -- no key is there that names a field or none, nor the end
    pub none_named : {w : Input} (allowed : ReadErrorCode → Bool) (e : Error)
        → Refuses allowed (source now.de.now.decoder.source) w (code_of e) (offset_of e) (NoKey (IsField (texts now.names.now)) (formats_of now.de.now.decoder.formats) now.de.now.decoder.levels (remaining_of now.remaining))
        → (t : Input) (r : Result S Error) → IsErrAnd r (λ x. x ≡ e) → t ≡ w → TakesItem allowed (formats_of de.decoder.formats) (IsStruct names fields) de.decoder.levels (source de.decoder.source) t r
    none_named {w} allowed e none t r is same =
        let by_names = subst (λ (ns : List (List ℕ)). Refuses allowed (source now.de.now.decoder.source) w (code_of e) (offset_of e) (NoKey (IsField ns) (formats_of now.de.now.decoder.formats) now.de.now.decoder.levels (remaining_of now.remaining))) i.named none in
        not_read names fields source allowed de e t r is same (no_field_named (IsField names) fields i.so_far allowed (code_of e) (offset_of e) by_names)

    -- the next key by the names of the struct
    key_by_names : (next : Option Field) (new : StructAccess R)
        → Step (source now.de.now.decoder.source) (source new.de.now.decoder.source)
        (IsKey (IsField (texts now.names.now)) (formats_of now.de.now.decoder.formats) now.de.now.decoder.levels (remaining_of now.remaining) (remaining_of new.remaining) next)
        → Step (source now.de.now.decoder.source) (source new.de.now.decoder.source)
        (IsKey (IsField names) (formats_of now.de.now.decoder.formats) now.de.now.decoder.levels (remaining_of now.remaining) (remaining_of new.remaining) next)
    key_by_names next new key = subst (λ (ns : List (List ℕ)). Step (source now.de.now.decoder.source) (source new.de.now.decoder.source)
        (IsKey (IsField ns) (formats_of now.de.now.decoder.formats) now.de.now.decoder.levels (remaining_of now.remaining) (remaining_of new.remaining) next)) i.named key

    module _ {next : Option Field} (new : StructAccess R) (key : Step (source now.de.now.decoder.source) (source new.de.now.decoder.source)
        (IsKey (IsField (texts now.names.now)) (formats_of now.de.now.decoder.formats) now.de.now.decoder.levels (remaining_of now.remaining) (remaining_of new.remaining) next)) where
      pub field_due : {field : Field} → next ≡ Some field → new.de.ghost_name ≡ now.de.ghost_name → new.outer ≡ now.outer → new.names ≡ now.names
          → new.de.now.decoder.formats ≡ now.de.now.decoder.formats → new.de.now.decoder.levels ≡ now.de.now.decoder.levels → FieldDue names fields source de begun new slots field
      field_due {field} is same outer listed formats inside = record {
        before = now;
        was = i;
        same = same;
        outer = outer;
        listed = listed;
        key = field_named (IsField names) fields i.so_far next field is new.remaining (key_by_names next new key) formats inside;
      }

      pub fields_ended : next ≡ None → MatchOption next (new.remaining ≡ Counted 0) (λ k. most_left new.remaining (source new.de.now.decoder.source) < most_left now.remaining (source now.de.now.decoder.source))
          → FieldsEnded names fields source de begun new slots
      fields_ended is remains = record {
        before = now;
        was = i;
        next = subst (λ (next : Option Field). Step (source now.de.now.decoder.source) (source new.de.now.decoder.source)
            (IsKey (IsField names) (formats_of now.de.now.decoder.formats) now.de.now.decoder.levels (remaining_of now.remaining) (remaining_of new.remaining) next)) is (key_by_names next new key);
        nothing = rw is at remains;
      }

  -- ---- a field's value

  module _ {field : Field} (d : FieldDue names fields source de begun now slots field) where
    -- The value isn't read of the i-th field, or the field is there again.
    pub field_refused : {w : Input} (i : ℕ) → HasField fields i → field ≡ Known i → (allowed : ReadErrorCode → Bool) (e : Error)
        → Refuses allowed (source now.de.now.decoder.source) w (code_of e) (offset_of e)
        (λ l bs. Has false fields i slots → IsNotRead (reads_at fields i) (item_at (raws (formats_of now.de.now.decoder.formats) l) now.de.now.decoder.levels bs))
        → (t : Input) (r : Result S Error) → IsErrAnd r (λ x. x ≡ e) → t ≡ w → TakesItem allowed (formats_of de.decoder.formats) (IsStruct names fields) de.decoder.levels (source de.decoder.source) t r
    field_refused i h is allowed e none t r err same =
        not_read names fields source allowed de e t r err same
        (field_not_once (IsField names) fields d.key i is (λ (f : Formats). reads_at fields i) allowed (code_of e) (offset_of e) (slot_at fields i slots) (λ b is. has_at fields i slots b h is)
        (λ b v means. means) (refuses_map allowed _ (code_of e) (offset_of e) _ _ (λ l bs none is. none (has_at fields i slots false h is)) none))

    -- Nor is the value there of another key.
    pub other_refused : {w : Input} (allowed : ReadErrorCode → Bool) (e : Error)
        → Refuses allowed (source now.de.now.decoder.source) w (code_of e) (offset_of e)
        (λ l bs. IsNotRead IsAny (item_at (raws (formats_of now.de.now.decoder.formats) l) now.de.now.decoder.levels bs))
        → (t : Input) (r : Result S Error) → IsErrAnd r (λ x. x ≡ e) → t ≡ w → TakesItem allowed (formats_of de.decoder.formats) (IsStruct names fields) de.decoder.levels (source de.decoder.source) t r
    other_refused allowed e none t r err same =
        not_read names fields source allowed de e t r err same
        (other_unread (IsField names) fields d.was.so_far (Some field) field refl now.remaining d.key.named d.key.formats d.key.inside allowed (code_of e) (offset_of e) none)

    module _ {after : StructAccess R} (same : after.de.ghost_name ≡ now.de.ghost_name) (outer : after.outer ≡ now.outer) (listed : after.names ≡ now.names) (due : after.value_due ≡ false)
        (formats : after.de.now.decoder.formats ≡ now.de.now.decoder.formats) (inside : after.de.now.decoder.levels ≡ now.de.now.decoder.levels) (remaining : after.remaining ≡ now.remaining) where
      goes_on : {slots' : Slots fields}
          → StructSoFar (IsField names) fields slots' (source de.decoder.source) de.decoder.formats de.decoder.levels (source after.de.now.decoder.source) after.de.now.decoder.formats after.de.now.decoder.levels after.remaining
          → TookSome (source now.de.now.decoder.source) (source after.de.now.decoder.source) → FieldsSoFar names fields source de begun after slots'
      goes_on so took = record {
        same = same ∙ d.same ∙ d.was.same;
        outer = outer ∙ d.outer ∙ d.was.outer;
        levels = inside ∙ d.key.inside ∙ d.was.levels;
        formats = formats ∙ d.key.formats ∙ d.was.formats;
        named = ap (λ names. texts names.now) (listed ∙ d.listed) ∙ d.was.named;
        due = due;
        advances = advances_some _ _ _ (advances_some _ _ _ d.was.advances d.key.named.took) took;
        so_far = so;
      }

      -- the i-th field was read into its slot
      pub field_taken : (i : ℕ) → field ≡ Known i → Has false fields i slots → (slot : Option (ValueAt fields i)) → is_some slot ≡ true
          → IfSome slot (λ v. Step (source now.de.now.decoder.source) (source after.de.now.decoder.source)
          (λ l bs rest. IsRead (reads_at fields i) (item_at (raws (formats_of now.de.now.decoder.formats) l) now.de.now.decoder.levels bs) v rest))
          → FieldsSoFar names fields source de begun after (fill fields i slot slots)
      field_taken i is missing slot some read =
          goes_on (field_once (IsField names) fields d.key i is (λ (f : Formats). reads_at fields i) (field_one names) formats inside remaining missing slot some (λ b v means. means) read) (slot_took (λ v l bs rest. IsRead (reads_at fields i) (item_at (raws (formats_of now.de.now.decoder.formats) l) now.de.now.decoder.levels bs) v rest) slot some read)

      -- the value of another key was passed over
      pub other_taken : IsOther 0 fields field → Step (source now.de.now.decoder.source) (source after.de.now.decoder.source)
          (λ l bs rest. IsRead IsAny (item_at (raws (formats_of now.de.now.decoder.formats) l) now.de.now.decoder.levels bs) tt rest)
          → FieldsSoFar names fields source de begun after slots
      other_taken other read =
          goes_on (other_passed (IsField names) fields d.was.so_far (Some field) field refl now.remaining d.key.named d.key.formats d.key.inside formats inside remaining (field_one names) other read) read.took

  -- ---- the end

  module _ (d : FieldsEnded names fields source de begun now slots) where
    -- the i-th field is missing
    pub field_absent : (i : ℕ) → LacksAt fields i slots → (allowed : ReadErrorCode → Bool) (e : Error)
        → (t : Input) (r : Result S Error) → IsErrAnd r (λ x. x ≡ e) → t ≡ source now.de.now.decoder.source → TakesItem allowed (formats_of de.decoder.formats) (IsStruct names fields) de.decoder.levels (source de.decoder.source) t r
    field_absent i missing allowed e t r err same =
        not_read names fields source allowed de e t r err same
        (field_missing (IsField names) fields d.was.so_far None refl now.remaining d.next allowed (code_of e) (offset_of e) i missing)

    -- after each `required`
    pub field_required : {after : StructAccess R} → after.de.now.decoder.source ≡ now.de.now.decoder.source → after.remaining ≡ now.remaining → FieldsEnded names fields source de begun after slots
    field_required {after} same remaining = record {
      before = d.before;
      was = d.was;
      next = rw (same, remaining) d.next;
      nothing = remaining ∙ d.nothing;
    }

    -- the end isn't there, which can't be
    pub end_refused : {w : Input} (allowed : ReadErrorCode → Bool) (e : Error) → TakesEndOf collection.Map allowed now.remaining (source now.de.now.decoder.source) w (Err e)
        → (t : Input) (r : Result S Error) → IsErrAnd r (λ x. x ≡ e) → t ≡ w → TakesItem allowed (formats_of de.decoder.formats) (IsStruct names fields) de.decoder.levels (source de.decoder.source) t r
    end_refused {w} allowed e h t r err same =
        not_read names fields source allowed de e t r err same
        (end_unread (IsField names) fields d.was.so_far None refl now.remaining d.next allowed w e d.nothing h)

    -- all fields were read
    pub fields_read : {w z : Input} (x : S) → slots ≡ all_of fields x → TakesEndOf collection.Map (λ c. false) now.remaining (source now.de.now.decoder.source) w (Ok tt) → z ≡ w
        → Step (source de.decoder.source) z (λ l bs rest. IsRead (IsStruct names fields) (item_at (raws (formats_of de.decoder.formats) l) de.decoder.levels bs) x rest)
    fields_read x all end is = struct_read (IsField names) fields d.was.so_far None refl now.remaining d.next x all d.nothing end is
