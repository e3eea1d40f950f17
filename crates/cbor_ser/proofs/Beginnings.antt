-- What was written, put together from its parts.
use Rattle.std.proofs.Common.{◌≡◌, ℕ, List, [], ◌++◌, Option, refl, sym, ap, ◌∙◌, append_assoc, subst, None, Some, length, length-append, arith}
use Rattle.std.specs.Prelude.{Result, Ok, Err, OnOk, OnErr, IfErr, IfSome}
use Rattle.std.specs.Result.{IsErr, IsOk, IsErrAnd}
use Rattle.std.specs.Option.{IsSomeAnd}
use Rattle.std.specs.Io.KnownBytes.{Appends}
use Rattle.std.proofs.KnownBytes.{Appends-nil, Appends-trans}
use Rattle.cbor_io.specs.declared.error.Error.{Error}
use Rattle.cbor_io.specs.Write.{AppendsBeginning, Wrote, HasRoomFor, TakesWhatFits}

pub began_more : {old new : Option (List ℕ)} {f : List ℕ} (g : List ℕ) → AppendsBeginning f old new → AppendsBeginning (f ++ g) old new
began_more g h = record {
  front = h.front;
  rest = h.rest ++ g;
  whole = sym (append_assoc h.front h.rest g) ∙ ap (λ (z : List ℕ). z ++ g) h.whole;
  written = h.written;
}

pub began_then : (old mid new : Option (List ℕ)) (f g : List ℕ) → Appends old mid f → AppendsBeginning g mid new → AppendsBeginning (f ++ g) old new
began_then old mid new f g a h = record {
  front = f ++ h.front;
  rest = h.rest;
  whole = append_assoc f h.front h.rest ∙ ap (λ (z : List ℕ). f ++ z) h.whole;
  written = Appends-trans old mid new f h.front a h.written;
}

-- a part is written, and then the rest
pub and_then : {T E : Type 0} (old mid new : Option (List ℕ)) (f g : List ℕ) (r : Result T E) → Appends old mid f → Wrote mid g new r → Wrote old (f ++ g) new r
and_then old mid new f g (Ok x) a h = record { ok = Appends-trans old mid new f g a h.ok; err = tt }
and_then old mid new f g (Err x) a h = record { ok = tt; err = began_then old mid new f g a h.err }

-- the exit of a `?`, with more to come
pub stops : {T E : Type 0} {old new : Option (List ℕ)} {f : List ℕ} (g : List ℕ) (r : Result T E) → IsErr r → AppendsBeginning f old new → Wrote old (f ++ g) new r
stops g (Ok x) e h = cc
stops g (Err x) e h = record { ok = tt; err = began_more g h }

-- the exit of a `?` at the last part
pub stopped : {T E : Type 0} {old new : Option (List ℕ)} {f : List ℕ} (r : Result T E) → IsErr r → AppendsBeginning f old new → Wrote old f new r
stopped (Ok x) e h = cc
stopped (Err x) e h = record { ok = tt; err = h }

-- the same bytes, put together otherwise
pub same_bytes : {T E : Type 0} {old new : Option (List ℕ)} {f g : List ℕ} {r : Result T E} → f ≡ g → Wrote old f new r → Wrote old g new r
same_bytes {old = old} {new = new} {r = r} e h = subst (λ (bs : List ℕ). Wrote old bs new r) e h

-- nothing was to be written
pub nothing : {E : Type 0} {sink : Option (List ℕ)} → Wrote {T = Unit {0}} {E = E} sink [] sink (Ok tt)
nothing {sink = sink} = record { ok = Appends-nil sink; err = tt }

-- ---- the room for what is written

-- after what was written there is room for the rest
pub room_behind : (capacity : Option ℕ) (old mid : Option (List ℕ)) (f g : List ℕ) → Appends old mid f → HasRoomFor capacity old (f ++ g) → HasRoomFor capacity mid g
room_behind None old mid f g a room = absurd room
room_behind (Some most) None mid f g a room = absurd room
room_behind (Some most) (Some xs) None f g a room = absurd a
room_behind (Some most) (Some xs) (Some ys) f g a room = omega (arith, ap length a, length-append xs f, length-append f g)

-- there is room for the first part of what there is room for
pub room_first : (capacity : Option ℕ) (old : Option (List ℕ)) (f g : List ℕ) → HasRoomFor capacity old (f ++ g) → HasRoomFor capacity old f
room_first None old f g room = absurd room
room_first (Some most) None f g room = absurd room
room_first (Some most) (Some xs) f g room = omega (arith, length-append f g)

-- the same, at a sink that has kept its capacity
pub room_after : (capacity now : Option ℕ) (old mid : Option (List ℕ)) (f g : List ℕ) → now ≡ capacity → Appends old mid f → HasRoomFor capacity old (f ++ g) → HasRoomFor now mid g
room_after capacity now old mid f g same a room = subst (λ (c : Option ℕ). HasRoomFor c mid g) (sym same) (room_behind capacity old mid f g a room)

-- there is room for the same bytes, put together otherwise
pub same_room : (capacity : Option ℕ) (old : Option (List ℕ)) {f g : List ℕ} → f ≡ g → HasRoomFor capacity old f → HasRoomFor capacity old g
same_room capacity old e room = subst (λ (bs : List ℕ). HasRoomFor capacity old bs) e room

-- nothing that was refused had room
pub refused_room : {T E : Type 0} {capacity : Option ℕ} {old : Option (List ℕ)} {f : List ℕ} (r : Result T E) → IsErr r → TakesWhatFits capacity old f r → HasRoomFor capacity old f → ⊥
refused_room (Ok x) e fits room = cc
refused_room (Err x) e fits room = let taken = fits.taken room in cc

-- a part was written, and then the rest
pub fits_then : {T E : Type 0} (capacity now : Option ℕ) (old mid : Option (List ℕ)) (f g : List ℕ) (r : Result T E) → now ≡ capacity → Appends old mid f → TakesWhatFits now mid g r → TakesWhatFits capacity old (f ++ g) r
fits_then capacity now old mid f g r same a fits = record { taken = λ room. fits.taken (room_after capacity now old mid f g same a room) }

-- nor had what was to follow it
pub refused_at : {U V : Type 0} {capacity : Option ℕ} {old : Option (List ℕ)} {e : V} (f g : List ℕ) → TakesWhatFits {T = U} {E = V} capacity old f (Err e) → HasRoomFor capacity old (f ++ g) → ⊥
refused_at {U = U} {V = V} {capacity = capacity} {old = old} {e = e} f g fits room = refused_room {T = U} {E = V} (Err e) refl fits (room_first capacity old f g room)

-- the exit of a `?`, with more to come
pub fits_stops : {T E U V : Type 0} {capacity : Option ℕ} {old : Option (List ℕ)} {f : List ℕ} {e : V} (g : List ℕ) (r : Result T E) → TakesWhatFits {T = U} {E = V} capacity old f (Err e) → TakesWhatFits capacity old (f ++ g) r
fits_stops {U = U} {V = V} {capacity = capacity} {old = old} {f = f} {e = e} g r fits =
    record { taken = λ room. absurd (refused_at {U = U} {V = V} f g fits room) }

-- the same bytes, put together otherwise
pub same_fits : {T E : Type 0} {capacity : Option ℕ} {old : Option (List ℕ)} {f g : List ℕ} {r : Result T E} → f ≡ g → TakesWhatFits capacity old f r → TakesWhatFits capacity old g r
same_fits {capacity = capacity} {old = old} {r = r} e h = subst (λ (bs : List ℕ). TakesWhatFits capacity old bs r) e h

-- ---- a call whose steps answered `done`, and left this refusal

pub reported : {T E : Type 0} {old new : Option (List ℕ)} {f : List ℕ} (P : Error → Type 0) (done : Result T E) (kept : Option Error) (r : Result (Unit {0}) Error)
    → OnOk done (IsOk r) → OnErr done (IfSome kept (λ e. r ≡ Err e)) → OnErr done (IsSomeAnd kept P) → Wrote old f new done → Wrote old f new r
reported P (Ok x) kept (Ok y) ok err refused h = record { ok = h.ok; err = tt }
reported P (Ok x) kept (Err e) ok err refused h = cc
reported P (Err x) None r ok err refused h = absurd refused
reported {old = old} {new = new} {f = f} P (Err x) (Some e) r ok err refused h =
    subst (λ (z : Result (Unit {0}) Error). Wrote old f new z) (sym err) (record { ok = tt; err = h.err })

pub reported_refused : {T E : Type 0} (P : Error → Type 0) (done : Result T E) (kept : Option Error) (r : Result (Unit {0}) Error)
    → OnOk done (IsOk r) → OnErr done (IfSome kept (λ e. r ≡ Err e)) → OnErr done (IsSomeAnd kept P) → IfErr r P
reported_refused P (Ok x) kept (Ok y) ok err refused = tt
reported_refused P (Ok x) kept (Err e) ok err refused = cc
reported_refused P (Err x) None r ok err refused = absurd refused
reported_refused P (Err x) (Some e) r ok err refused = subst (λ (z : Result (Unit {0}) Error). IfErr z P) (sym err) refused

pub reported_ok : {T E : Type 0} (P : Error → Type 0) (Q : Type 0) (done : Result T E) (kept : Option Error) (r : Result (Unit {0}) Error)
    → OnErr done (IfSome kept (λ e. r ≡ Err e)) → OnErr done (IsSomeAnd kept P) → OnOk done Q → OnOk r Q
reported_ok P Q (Ok x) kept (Ok y) err refused h = h
reported_ok P Q (Ok x) kept (Err e) err refused h = tt
reported_ok P Q (Err x) None r err refused h = absurd refused
reported_ok P Q (Err x) (Some e) r err refused h = subst (λ (z : Result (Unit {0}) Error). OnOk z Q) (sym err) tt

-- what can't be was refused for its own reason
pub reported_why : {T E : Type 0} (P : Error → Type 0) (Q : Type 0) (done : Result T E) (kept : Option Error) (r : Result (Unit {0}) Error)
    → OnErr done (IfSome kept (λ e. r ≡ Err e)) → OnOk done Q → (Q → ⊥) → IsSomeAnd kept P → IsErrAnd r P
reported_why P Q (Ok x) kept r err stored not says = absurd (not stored)
reported_why P Q (Err x) None r err stored not says = absurd says
reported_why P Q (Err x) (Some e) r err stored not says = subst (λ (z : Result (Unit {0}) Error). IsErrAnd z P) (sym err) says

pub reported_fits : {T E : Type 0} {capacity : Option ℕ} {old : Option (List ℕ)} {f : List ℕ} (done : Result T E) (r : Result (Unit {0}) Error)
    → OnOk done (IsOk r) → TakesWhatFits capacity old f done → TakesWhatFits capacity old f r
reported_fits (Ok x) r ok fits = record { taken = λ room. ok }
reported_fits {T = T} {E = E} (Err x) r ok fits = record { taken = λ room. absurd (refused_room {T = T} {E = E} (Err x) refl fits room) }
