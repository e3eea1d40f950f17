-- What the calls of a serializer leave, put together.
use Rattle.std.proofs.Common.{◌≡◌, ℕ, List, [], ◌++◌, Option, refl, sym, ap, ◌∙◌, subst, ◌⊎◌, inl, inr, ℤ, pos, negsuc, FitsSigned, arith, append-nil, Some, None, Bool, false, Vec}
use Rattle.std.specs.Prelude.{Result, Ok, Err, IfErr, IfSome, OnOk, OnErr}
use Rattle.std.specs.Option.{IsSomeAnd}
use Rattle.std.specs.Result.{IsErr, IsErrAnd, IsOk}
use Rattle.std.specs.Int.{w64}
use Rattle.std.proofs.lemmas.Int.{ints}
use Rattle.std.specs.Io.KnownBytes.{Appends}
use Rattle.std.proofs.KnownBytes.{Appends-nil, Appends-trans}
use Rattle.cbor_model.specs.Plain.{Val}
use Rattle.cbor_model.specs.Canonical.{canon, IsStorable, IsStorableInteger}
use Rattle.cbor_model.specs.InMemory.{IsInMemory}
use Rattle.cbor_model.specs.Document.{Doc, document_of, document_bytes, IsStorableDocument, IsDocumentInRange}
use Rattle.cbor_model.specs.Parts.{Part, item, in_turn, ending, parts, part_bytes, IsStorablePart, IsPartInRange}
use Rattle.cbor_model.proofs.facts.Documents.{parts_bytes, storable_parts, parts_storable, parts_in_range, before_parts, part_stored, all_stored, document_is_canonical, storable_document, storable_value, document_in_range, value_in_range}
use Rattle.cbor_value.specs.declared.Float.{Float}
use Rattle.cbor_value.specs.declared.Float.TheVariants.{Half, Single, Double}
use Rattle.cbor_value.specs.View.{float_view}
use Rattle.cbor_io.specs.declared.error.Error.{Error}
use Rattle.cbor_io.specs.Write.{AppendsBeginning, Wrote, HasRoomFor, TakesWhatFits}
use Rattle.cbor_ser.specs.Written.{IsUnstorable, DocumentRefused}
use Rattle.cbor_ser.specs.Narrowed.{narrowed, narrowed_part}
use Rattle.cbor_model.specs.Unstored.{StandsBefore, StandsBeforeIn}
use Rattle.cbor_ser.specs.Serialized.{Added, Stopped, Stepped, Serialized, Spells, bytes_under, WroteValues, StopsBefore, EndsBefore}
use Rattle.cbor_ser.specs.declared.serializer.Settings.{Settings}
use Rattle.cbor_ser.specs.declared.serializer.Serializer.{Serializer}
use Rattle.cbor_ser.proofs.Narrowed.{wide, part_storable, parts_narrowed}
use Rattle.cbor_ser.proofs.Beginnings.{began_more, began_then, room_behind, room_first, refused_room}

-- ---- what is always stored

pub float_storable : (f : Float) → IsStorable (float_view f)
float_storable (Half bits) = tt
float_storable (Single bits) = tt
float_storable (Double bits) = tt

pub integer_storable : (z : ℤ) → FitsSigned w64 z → IsStorableInteger z
integer_storable (pos n) fits = omega (arith, ints, fits)
integer_storable (negsuc n) fits = omega (arith, ints, fits)

pub always : {T E : Type 0} (r : Result T E) → OnOk r (Unit {0})
always (Ok x) = tt
always (Err e) = tt

-- what follows from what a step's refusal is
pub if_refused : {T E A : Type 0} {P Q : A → Type 0} (r : Result T E) (o : Option A) → ((a : A) → P a → Q a) → OnErr r (IsSomeAnd o P) → OnErr r (IsSomeAnd o Q)
if_refused (Ok x) o f h = tt
if_refused (Err e) (Some a) f h = f a h
if_refused (Err e) None f h = h

pub refused_so : {T E A : Type 0} {P Q : A → Type 0} (r : Result T E) (o : Option A) → ((a : A) → P a → Q a) → IsSomeAnd o P → OnErr r (IsSomeAnd o Q)
refused_so (Ok x) o f h = tt
refused_so (Err e) (Some a) f h = f a h
refused_so (Err e) None f h = h

-- ---- the same part, put otherwise

pub record Same (s : Settings) (f g : Part) : Type 0 where
  pub same : bytes_under s f ≡ bytes_under s g
  pub storable : IsStorablePart f → IsStorablePart g
  pub unstorable : IsStorablePart g → IsStorablePart f
  pub in_range : IsPartInRange f → IsPartInRange g
  pub before : (front : List ℕ) → StandsBeforeIn (narrowed_part s.shortest g) s.packed s.legacy front
      → StandsBeforeIn (narrowed_part s.shortest f) s.packed s.legacy front

-- a document is its parts
parts_same : (s : Settings) (d : Doc) → Same s (parts d) (item d)
unfolding part_bytes
parts_same s d = record {
  same = ap (λ (p : Part). part_bytes p s.packed s.legacy) (parts_narrowed s.shortest d) ∙ parts_bytes (narrowed s.shortest d) s.packed s.legacy;
  storable = storable_parts d;
  unstorable = parts_storable d;
  in_range = parts_in_range d;
  before = λ front h. subst (λ (p : Part). StandsBeforeIn p s.packed s.legacy front) (sym (parts_narrowed s.shortest d)) (before_parts s.packed s.legacy (narrowed s.shortest d) front h);
}

pub added_then : {W : Type 0} {written : W → Option (List ℕ)} {references : W → List ℕ} {capacity : W → Option ℕ} {old mid new : Serializer W} {f g : Part} → Added written references capacity old f mid → Added written references capacity mid g new → Added written references capacity old (in_turn f g) new
unfolding part_bytes
added_then {written = written} {old = old} {mid = mid} {new = new} {f = f} {g = g} a b = record {
  appended = Appends-trans (written old.writer) (written mid.writer) (written new.writer) (bytes_under old.settings f) (bytes_under old.settings g) a.appended
      (subst (λ (s : Settings). Appends (written mid.writer) (written new.writer) (bytes_under s g)) a.settings b.appended);
  settings = b.settings ∙ a.settings;
  same_references = b.same_references ∙ a.same_references;
  same_capacity = b.same_capacity ∙ a.same_capacity;
  storable = (a.storable, b.storable);
  in_range = (a.in_range, b.in_range);
}

-- after a part there is room for the rest
room_then : {W : Type 0} {written : W → Option (List ℕ)} {references : W → List ℕ} {capacity : W → Option ℕ} {old mid : Serializer W} (f g : Part) → Added written references capacity old f mid → HasRoomFor (capacity old.writer) (written old.writer) (bytes_under old.settings f ++ bytes_under old.settings g)
    → HasRoomFor (capacity mid.writer) (written mid.writer) (bytes_under mid.settings g)
room_then {written = written} {capacity = capacity} {old = old} {mid = mid} f g a room =
    subst (λ (s : Settings). HasRoomFor (capacity mid.writer) (written mid.writer) (bytes_under s g)) (sym a.settings)
    (subst (λ (c : Option ℕ). HasRoomFor c (written mid.writer) (bytes_under old.settings g)) (sym a.same_capacity)
    (room_behind (capacity old.writer) (written old.writer) (written mid.writer) (bytes_under old.settings f) (bytes_under old.settings g) a.appended room))

-- ---- a document whose floats stay as they are

-- the bytes of a document, by the settings that its serializer began with
bytes_as_set : {s : Settings} (d : Doc) (p l : Bool) → s ≡ record { packed = p; legacy = l; shortest = false } → bytes_under s (item d) ≡ document_bytes d p l
unfolding part_bytes
bytes_as_set d p l begun = ap (λ (s : Settings). bytes_under s (item d)) begun ∙ ap (λ (d : Doc). document_bytes d p l) (wide d)

stands_as_set : {s : Settings} (d : Doc) (p l : Bool) (front : List ℕ) → s ≡ record { packed = p; legacy = l; shortest = false } → StandsBefore d p l front → StandsBeforeIn (narrowed_part s.shortest (item d)) s.packed s.legacy front
stands_as_set d p l front begun stands =
    subst (λ (s : Settings). StandsBeforeIn (narrowed_part s.shortest (item d)) s.packed s.legacy front) (sym begun)
    (subst (λ (d : Doc). StandsBefore d p l front) (sym (wide d)) stands)

-- a value's
canonical_as_set : (s : Settings) (v : Val) → narrowed s.shortest (document_of v) ≡ document_of v → bytes_under s (item (document_of v)) ≡ canon v
unfolding part_bytes
canonical_as_set s v same = ap (λ (d : Doc). document_bytes d s.packed s.legacy) same ∙ document_is_canonical v s.packed s.legacy

-- ---- a document in a vector that was empty

pub vector_holds : {A : Type 0} {old new : Serializer (Vec ℕ A)} (d : Doc) (p l : Bool) → old.writer.items ≡ [] → old.settings ≡ record { packed = p; legacy = l; shortest = false }
    → Added (λ v. Some v.items) (λ _. []) (λ _. None) old (item d) new → new.writer.items ≡ document_bytes d p l
unfolding part_bytes
vector_holds {old = old} {new = new} d p l empty begun h =
    h.appended ∙ ap (λ xs. xs ++ bytes_under old.settings (item d)) empty ∙ bytes_as_set d p l begun

-- ---- what the calls leave

module _ {W : Type 0} {written : W → Option (List ℕ)} {refuses : W → Error → Type 0} {references : W → List ℕ} {capacity : W → Option ℕ} where
  -- these bytes were written, which are the part's
  pub serialized : {T : Type 0} {old new : Serializer W} {bytes : List ℕ} (part : Part) (r : Result T Error) → Spells old.settings part bytes → new.settings ≡ old.settings
      → references new.writer ≡ references old.writer → capacity new.writer ≡ capacity old.writer → Wrote (written old.writer) bytes (written new.writer) r
      → IfErr r (refuses new.writer) → TakesWhatFits (capacity old.writer) (written old.writer) bytes r → Serialized written refuses references capacity old part new r
  serialized {old = old} {new = new} part (Ok x) spells kept same_references same_capacity w refused fits = record {
    ok = record {
      appended = subst (λ bs. Appends (written old.writer) (written new.writer) bs) (sym spells.same) w.ok;
      settings = kept;
      same_references = same_references;
      same_capacity = same_capacity;
      storable = spells.storable;
      in_range = spells.in_range;
    };
    err = tt;
  }
  serialized {T = T} {old = old} {new = new} part (Err e) spells kept same_references same_capacity w refused fits = record {
    ok = tt;
    err = record {
      appended = subst (λ bs. AppendsBeginning bs (written old.writer) (written new.writer)) (sym spells.same) w.err;
      before = λ front h. absurd (part_stored (narrowed_part old.settings.shortest part) old.settings.packed old.settings.legacy front (part_storable old.settings.shortest part spells.storable) h);
      settings = kept;
      same_references = same_references;
      same_capacity = same_capacity;
      refused = inl refused;
      no_room = λ storable room. refused_room {T = T} (Err e) refl fits (subst (λ bs. HasRoomFor (capacity old.writer) (written old.writer) bs) spells.same room);
    };
  }

  stopped_within : {old mid new : Serializer W} {f g : Part} {e : Error} → Added written references capacity old f mid → Stopped written refuses references capacity mid g new e → StopsBefore old.settings (in_turn f g) (written old.writer) (written new.writer)
  unfolding part_bytes
  stopped_within {old = old} {mid = mid} {new = new} {f = f} {g = g} a b front h = elim h [
    | inl x ↦ absurd (part_stored (narrowed_part old.settings.shortest f) old.settings.packed old.settings.legacy front (part_storable old.settings.shortest f a.storable) x)
    | inr y ↦ subst (λ bs. AppendsBeginning bs (written old.writer) (written new.writer)) (sym y.1.1)
        (began_then (written old.writer) (written mid.writer) (written new.writer) (bytes_under old.settings f) y.1.0 a.appended
        (b.before y.1.0 (subst (λ (s : Settings). StandsBeforeIn (narrowed_part s.shortest g) s.packed s.legacy y.1.0) (sym a.settings) y.1.2)))
  ]

  stopped_earlier : {old new : Serializer W} {f : Part} (g : Part) {e : Error} → Stopped written refuses references capacity old f new e → StopsBefore old.settings (in_turn f g) (written old.writer) (written new.writer)
  unfolding part_bytes
  stopped_earlier {old = old} {new = new} g b front h = elim h [
    | inl x ↦ b.before front x
    | inr y ↦ subst (λ bs. AppendsBeginning bs (written old.writer) (written new.writer)) (sym y.1.1) (began_more y.1.0 b.appended)
  ]

  pub stopped_then : {old mid new : Serializer W} {f g : Part} {e : Error} → Added written references capacity old f mid → Stopped written refuses references capacity mid g new e → Stopped written refuses references capacity old (in_turn f g) new e
  unfolding part_bytes
  stopped_then {old = old} {mid = mid} {new = new} {f = f} {g = g} a b = record {
    appended = began_then (written old.writer) (written mid.writer) (written new.writer) (bytes_under old.settings f) (bytes_under old.settings g) a.appended
        (subst (λ (s : Settings). AppendsBeginning (bytes_under s g) (written mid.writer) (written new.writer)) a.settings b.appended);
    before = stopped_within a b;
    settings = b.settings ∙ a.settings;
    same_references = b.same_references ∙ a.same_references;
    same_capacity = b.same_capacity ∙ a.same_capacity;
    refused = elim b.refused [ inl r ↦ inl r | inr u ↦ inr ((λ h. u.0 h.1), u.1) ];
    no_room = λ storable room. b.no_room storable.1 (room_then f g a room);
  }

  pub stopped_before : {old new : Serializer W} {f : Part} (g : Part) {e : Error} → Stopped written refuses references capacity old f new e → Stopped written refuses references capacity old (in_turn f g) new e
  unfolding part_bytes
  stopped_before {old = old} {f = f} g b = record {
    appended = began_more (bytes_under old.settings g) b.appended;
    before = stopped_earlier g b;
    settings = b.settings;
    same_references = b.same_references;
    same_capacity = b.same_capacity;
    refused = elim b.refused [ inl r ↦ inl r | inr u ↦ inr ((λ h. u.0 h.0), u.1) ];
    no_room = λ storable room. b.no_room storable.0 (room_first (capacity old.writer) (written old.writer) (bytes_under old.settings f) (bytes_under old.settings g) room);
  }

  -- a part was appended, and then the rest
  pub and_then : {T : Type 0} {old mid new : Serializer W} {f g : Part} {r : Result T Error} → Added written references capacity old f mid → Serialized written refuses references capacity mid g new r → Serialized written refuses references capacity old (in_turn f g) new r
  and_then {r = Ok x} a h = record { ok = added_then a h.ok; err = tt }
  and_then {r = Err e} a h = record { ok = tt; err = stopped_then a h.err }

  -- the exit of a `?`, before more parts
  pub stops : {T : Type 0} {old new : Serializer W} {f g : Part} {e : Error} {r : Result T Error} → IsErrAnd r (λ x. x ≡ e) → Stopped written refuses references capacity old f new e → Serialized written refuses references capacity old (in_turn f g) new r
  stops {r = Ok x} is h = absurd is
  stops {old = old} {new = new} {f = f} {g = g} {r = Err x} is h = record { ok = tt; err = stopped_before g (subst (λ z. Stopped written refuses references capacity old f new z) (sym is) h) }

  -- the exit of a `?` at the last part
  pub stops_last : {T : Type 0} {old new : Serializer W} {f : Part} {e : Error} {r : Result T Error} → IsErrAnd r (λ x. x ≡ e) → Stopped written refuses references capacity old f new e → Serialized written refuses references capacity old f new r
  stops_last {r = Ok x} is h = absurd is
  stops_last {old = old} {new = new} {f = f} {r = Err x} is h = record { ok = tt; err = subst (λ z. Stopped written refuses references capacity old f new z) (sym is) h }

  pub same_part : {T : Type 0} {old new : Serializer W} {f g : Part} {r : Result T Error} → Same old.settings f g → Serialized written refuses references capacity old f new r → Serialized written refuses references capacity old g new r
  same_part {old = old} {new = new} {r = Ok x} is h = record {
    ok = record {
      appended = subst (λ bs. Appends (written old.writer) (written new.writer) bs) is.same h.ok.appended;
      settings = h.ok.settings;
      same_references = h.ok.same_references;
      same_capacity = h.ok.same_capacity;
      storable = is.storable h.ok.storable;
      in_range = is.in_range h.ok.in_range;
    };
    err = tt;
  }
  same_part {old = old} {new = new} {r = Err e} is h = record {
    ok = tt;
    err = record {
      appended = subst (λ bs. AppendsBeginning bs (written old.writer) (written new.writer)) is.same h.err.appended;
      before = λ front x. h.err.before front (is.before front x);
      settings = h.err.settings;
      same_references = h.err.same_references;
      same_capacity = h.err.same_capacity;
      refused = elim h.err.refused [ inl r ↦ inl r | inr u ↦ inr ((λ g. u.0 (is.unstorable g)), u.1) ];
      no_room = λ storable room. h.err.no_room (is.unstorable storable) (subst (λ bs. HasRoomFor (capacity old.writer) (written old.writer) bs) (sym is.same) room);
    };
  }

  -- a part that is the same
  pub same : {T : Type 0} {old new : Serializer W} {f g : Part} {r : Result T Error} → f ≡ g → Serialized written refuses references capacity old f new r → Serialized written refuses references capacity old g new r
  same {old = old} {new = new} {r = r} is h = subst (λ p. Serialized written refuses references capacity old p new r) is h

  pub by_parts : {T : Type 0} {old new : Serializer W} {d : Doc} {r : Result T Error} → Serialized written refuses references capacity old (parts d) new r → Serialized written refuses references capacity old (item d) new r
  by_parts {old = old} {d = d} h = same_part (parts_same old.settings d) h

  -- no byte was to be written
  pub nothing_is : {old : Serializer W} (part : Part) → bytes_under old.settings part ≡ [] → IsStorablePart part → IsPartInRange part → Serialized {T = Unit {0}} written refuses references capacity old part old (Ok tt)
  nothing_is {old = old} part none storable in_range = record {
    ok = record {
      appended = subst (λ bs. Appends (written old.writer) (written old.writer) bs) (sym none) (Appends-nil (written old.writer));
      settings = refl;
      same_references = refl;
      same_capacity = refl;
      storable = storable;
      in_range = in_range;
    };
    err = tt;
  }

  -- a value's canonical spelling was written, which is that of its document
  pub serialized_value : {T : Type 0} {old new : Serializer W} (v : Val) (r : Result T Error) → narrowed old.settings.shortest (document_of v) ≡ document_of v → new.settings ≡ old.settings → references new.writer ≡ references old.writer → capacity new.writer ≡ capacity old.writer → OnOk r (IsStorable v) → OnOk r (IsInMemory v)
      → Wrote (written old.writer) (canon v) (written new.writer) r → IfErr r (λ e. refuses new.writer e ⊎ IsUnstorable v e)
      → (IsStorable v → TakesWhatFits (capacity old.writer) (written old.writer) (canon v) r) → EndsBefore (document_of v) (written old.writer) (written new.writer) → Serialized written refuses references capacity old (item (document_of v)) new r
  unfolding part_bytes
  serialized_value {old = old} {new = new} v (Ok x) unchanged kept same_references same_capacity storable in_range w refused fits before = record {
    ok = record {
      appended = subst (λ bs. Appends (written old.writer) (written new.writer) bs) (sym (canonical_as_set old.settings v unchanged)) w.ok;
      settings = kept;
      same_references = same_references;
      same_capacity = same_capacity;
      storable = storable_document v storable;
      in_range = document_in_range v in_range;
    };
    err = tt;
  }
  serialized_value {T = T} {old = old} {new = new} v (Err e) unchanged kept same_references same_capacity storable in_range w refused fits before = record {
    ok = tt;
    err = record {
      appended = subst (λ bs. AppendsBeginning bs (written old.writer) (written new.writer)) (sym (canonical_as_set old.settings v unchanged)) w.err;
      before = λ front h. before old.settings.packed old.settings.legacy front (subst (λ (d : Doc). StandsBefore d old.settings.packed old.settings.legacy front) unchanged h);
      settings = kept;
      same_references = same_references;
      same_capacity = same_capacity;
      refused = elim refused [ inl r ↦ inl r | inr u ↦ inr ((λ h. u.0 (storable_value v h)), u.1) ];
      no_room = λ storable room. refused_room {T = T} (Err e) refl (fits (storable_value v storable))
          (subst (λ bs. HasRoomFor (capacity old.writer) (written old.writer) bs) (canonical_as_set old.settings v unchanged) room);
    };
  }

  -- the last part, where a declared length needs no end
  pub last : {T : Type 0} {old new : Serializer W} {f : Part} {r : Result T Error} → Serialized written refuses references capacity old f new r → Serialized written refuses references capacity old (in_turn f (ending (Some 0))) new r
  unfolding part_bytes
  last {old = old} {f = f} h = same_part (record {
    same = sym (append-nil (bytes_under old.settings f));
    storable = λ h. (h, tt);
    unstorable = λ h. h.0;
    in_range = λ h. (h, tt);
    before = λ front h. elim h [ inl x ↦ x | inr y ↦ absurd y.1.2 ];
  }) h

  -- ---- a document, by the settings that its serializer began with

  pub document_wrote : {T : Type 0} {old new : Serializer W} {d : Doc} {r : Result T Error} (p l : Bool) → old.settings ≡ record { packed = p; legacy = l; shortest = false }
      → Serialized written refuses references capacity old (item d) new r → Wrote (written old.writer) (document_bytes d p l) (written new.writer) r
  unfolding part_bytes
  document_wrote {old = old} {new = new} {d = d} {r = Ok x} p l begun h = record {
    ok = subst (λ bs. Appends (written old.writer) (written new.writer) bs) (bytes_as_set d p l begun) h.ok.appended;
    err = tt;
  }
  document_wrote {old = old} {new = new} {d = d} {r = Err e} p l begun h = record {
    ok = tt;
    err = subst (λ bs. AppendsBeginning bs (written old.writer) (written new.writer)) (bytes_as_set d p l begun) h.err.appended;
  }

  pub document_before : {T : Type 0} {old new : Serializer W} {d : Doc} {r : Result T Error} (p l : Bool) → old.settings ≡ record { packed = p; legacy = l; shortest = false }
      → Serialized written refuses references capacity old (item d) new r → (front : List ℕ) → StandsBefore d p l front → AppendsBeginning front (written old.writer) (written new.writer)
  document_before {d = d} {r = Ok x} p l begun h front stands = absurd (all_stored d p l front h.ok.storable stands)
  document_before {old = old} {d = d} {r = Err e} p l begun h front stands = h.err.before front (stands_as_set d p l front begun stands)

  pub document_refused : {T : Type 0} {old new : Serializer W} {d : Doc} {r : Result T Error} → Serialized written refuses references capacity old (item d) new r → IfErr r (DocumentRefused refuses new.writer d)
  document_refused {r = Ok x} h = tt
  document_refused {r = Err e} h = h.err.refused

  pub document_fits : {T : Type 0} {old new : Serializer W} {d : Doc} {r : Result T Error} (p l : Bool) → old.settings ≡ record { packed = p; legacy = l; shortest = false }
      → Serialized written refuses references capacity old (item d) new r → IsStorableDocument d → TakesWhatFits (capacity old.writer) (written old.writer) (document_bytes d p l) r
  unfolding part_bytes
  document_fits {r = Ok x} p l begun h storable = record { taken = λ room. refl }
  document_fits {old = old} {d = d} {r = Err e} p l begun h storable = record {
    taken = λ room. absurd (h.err.no_room storable (subst (λ bs. HasRoomFor (capacity old.writer) (written old.writer) bs) (sym (bytes_as_set d p l begun)) room));
  }

-- ---- steps, which leave their error with the caller

module _ {W : Type 0} {written : W → Option (List ℕ)} {refuses : W → Error → Type 0} {references : W → List ℕ} {capacity : W → Option ℕ} where
  -- these bytes were written, which are the part's
  pub stepped : {T E : Type 0} {old new : Serializer W} {bytes : List ℕ} {o : Option Error} (part : Part) (done : Result T E) → Spells old.settings part bytes → new.settings ≡ old.settings
      → references new.writer ≡ references old.writer → capacity new.writer ≡ capacity old.writer → Wrote (written old.writer) bytes (written new.writer) done
      → OnErr done (IsSomeAnd o (refuses new.writer)) → TakesWhatFits (capacity old.writer) (written old.writer) bytes done → Stepped written refuses references capacity old part new done o
  stepped {T = T} part (Ok x) spells kept same_references same_capacity w refused fits = record {
    ok = (serialized {refuses = refuses} {T = T} part (Ok x) spells kept same_references same_capacity (record { ok = w.ok; err = tt }) tt (record { taken = λ room. fits.taken room })).ok;
    err = tt;
  }
  stepped {T = T} {o = o} part (Err x) spells kept same_references same_capacity w refused fits = record {
    ok = tt;
    err = if_refused {T = T} (Err x) o (λ e refused. (serialized {refuses = refuses} {T = T} part (Err e) spells kept same_references same_capacity (record { ok = tt; err = w.err }) refused (record { taken = λ room. fits.taken room })).err) refused;
  }

  -- a part was appended, and then the rest
  pub step_then : {T E : Type 0} {old mid new : Serializer W} {f g : Part} {done : Result T E} {o : Option Error} → Added written references capacity old f mid
      → Stepped written refuses references capacity mid g new done o → Stepped written refuses references capacity old (in_turn f g) new done o
  step_then {done = Ok x} a h = record { ok = added_then a h.ok; err = tt }
  step_then {T = T} {done = Err x} {o = o} a h = record { ok = tt; err = if_refused {T = T} (Err x) o (λ e b. stopped_then a b) h.err }

  -- the exit of a `?`, before more parts
  pub step_stops : {T E : Type 0} {old new : Serializer W} {f : Part} (g : Part) {done : Result T E} {o : Option Error} → IsErr done
      → IsSomeAnd o (Stopped written refuses references capacity old f new) → Stepped written refuses references capacity old (in_turn f g) new done o
  step_stops g {done = Ok x} is h = cc
  step_stops g {done = Err x} {o = Some e} is h = record { ok = tt; err = stopped_before g h }
  step_stops g {done = Err x} {o = None} is h = absurd h

  -- the same part, put otherwise
  pub same_step : {T E : Type 0} {old new : Serializer W} {f g : Part} {done : Result T E} {o : Option Error} → f ≡ g
      → Stepped written refuses references capacity old f new done o → Stepped written refuses references capacity old g new done o
  same_step {old = old} {new = new} {done = done} {o = o} is h = subst (λ p. Stepped written refuses references capacity old p new done o) is h

  pub same_part_step : {T E : Type 0} {old new : Serializer W} {f g : Part} {done : Result T E} {o : Option Error} → Same old.settings f g
      → Stepped written refuses references capacity old f new done o → Stepped written refuses references capacity old g new done o
  same_part_step {T = T} {done = Ok x} is h = record { ok = (same_part {refuses = refuses} {T = T} {r = Ok x} is (record { ok = h.ok; err = tt })).ok; err = tt }
  same_part_step {T = T} {done = Err x} {o = o} is h = record {
    ok = tt;
    err = if_refused {T = T} (Err x) o (λ e b. (same_part {refuses = refuses} {T = T} {r = Err e} is (record { ok = tt; err = b })).err) h.err;
  }

  -- a document is its parts
  pub step_by_parts : {T E : Type 0} {old new : Serializer W} {d : Doc} {done : Result T E} {o : Option Error}
      → Stepped written refuses references capacity old (parts d) new done o → Stepped written refuses references capacity old (item d) new done o
  step_by_parts {old = old} {d = d} h = same_part_step (parts_same old.settings d) h

  -- no byte was to be written
  pub nothing_step : {E : Type 0} {old : Serializer W} {o : Option Error} (part : Part) → bytes_under old.settings part ≡ [] → IsStorablePart part → IsPartInRange part
      → Stepped {T = Unit {0}} {E = E} written refuses references capacity old part old (Ok tt) o
  nothing_step part none storable in_range = record { ok = (nothing_is {refuses = refuses} part none storable in_range).ok; err = tt }

  -- the answer of a call whose steps left this refusal
  pub answered : {T U E : Type 0} {old new : Serializer W} {f : Part} {done : Result T E} {o : Option Error} {r : Result U Error} → OnOk done (IsOk r)
      → OnErr done (IfSome o (λ e. r ≡ Err e)) → Stepped written refuses references capacity old f new done o → Serialized written refuses references capacity old f new r
  answered {done = Ok x} {r = Ok y} ok err h = record { ok = h.ok; err = tt }
  answered {done = Ok x} {r = Err e} ok err h = cc
  answered {done = Err x} {o = None} ok err h = absurd h.err
  answered {old = old} {new = new} {f = f} {done = Err x} {o = Some e} ok err h =
      subst (λ z. Serialized written refuses references capacity old f new z) (sym err) (record { ok = tt; err = h.err })

-- ---- a document that is a value's, written to a sink

canon_is : (v : Val) (d : Doc) → d ≡ document_of v → document_bytes d false false ≡ canon v
canon_is v d is = ap (λ (z : Doc). document_bytes z false false) is ∙ document_is_canonical v false false

pub wrote_values : {T W : Type 0} {written : W → Option (List ℕ)} {refuses : W → Error → Type 0} {old new : W} (d : Doc) (r : Result T Error)
    → OnOk r (IsStorableDocument d) → OnOk r (IsDocumentInRange d) → Wrote (written old) (document_bytes d false false) (written new) r
    → IfErr r (DocumentRefused refuses new d) → WroteValues written refuses old d new r
wrote_values {T = T} {written = written} {old = old} {new = new} d (Ok x) storable in_range wrote refused v is = record {
  storable = storable_value v (subst IsStorableDocument is storable);
  in_range = value_in_range v (subst IsDocumentInRange is in_range);
  written = subst (λ bs. Wrote {T = T} {E = Error} (written old) bs (written new) (Ok x)) (canon_is v d is) wrote;
  refused = tt;
}
wrote_values {T = T} {written = written} {old = old} {new = new} d (Err e) storable in_range wrote refused v is = record {
  storable = tt;
  in_range = tt;
  written = subst (λ bs. Wrote {T = T} {E = Error} (written old) bs (written new) (Err e)) (canon_is v d is) wrote;
  refused = elim refused [ inl r ↦ inl r | inr u ↦ inr ((λ h. u.0 (subst IsStorableDocument (sym is) (storable_document v h))), u.1) ];
}

-- ---- a sink that was lent

pub references_stay : {T W : Type 0} {written : W → Option (List ℕ)} {refuses : W → Error → Type 0} {references : W → List ℕ} {capacity : W → Option ℕ} {old new : Serializer W} {f : Part} {r : Result T Error}
    → Serialized written refuses references capacity old f new r → references new.writer ≡ references old.writer
references_stay {r = Ok x} h = h.ok.same_references
references_stay {r = Err e} h = h.err.same_references

pub capacity_stays : {T W : Type 0} {written : W → Option (List ℕ)} {refuses : W → Error → Type 0} {references : W → List ℕ} {capacity : W → Option ℕ} {old new : Serializer W} {f : Part} {r : Result T Error}
    → Serialized written refuses references capacity old f new r → capacity new.writer ≡ capacity old.writer
capacity_stays {r = Ok x} h = h.ok.same_capacity
capacity_stays {r = Err e} h = h.err.same_capacity
