-- For a type's own `serialize`: what its calls leave, put together.
use Rattle.std.proofs.Common.{◌≡◌, ℕ, List, [], ◌∷◌, Option, subst, sym, ap, refl}
use Rattle.std.specs.Prelude.{Result, Ok, Err, OnErr, map}
use Rattle.std.specs.Result.{IsErrAnd}
use Rattle.cbor_model.specs.Document.{Doc, docs, doc}
use Rattle.cbor_model.specs.Parts.{Part, in_turn}
use Rattle.cbor_io.specs.declared.error.Error.{Error}
use Rattle.cbor_ser.specs.Serialized.{Added, Stopped, Serialized}
use Rattle.cbor_ser.specs.declared.serializer.Serializer.{Serializer}
use Rattle.cbor_ser.proofs.WriteSteps as steps
pub use Rattle.cbor_ser.proofs.WriteSteps.{by_parts}

same_error : {U : Type 0} {x y : Error} {q : Result U Error} → q ≡ Err x → q ≡ Err y → x ≡ y
same_error a b = cc

module _ {W : Type 0} {written : W → Option (List ℕ)} {refuses : W → Error → Type 0} {references : W → List ℕ} {capacity : W → Option ℕ} where
  -- a part was appended, and then the rest
  pub and_then : {T : Type 0} {old mid new : Serializer W} {f f' g : Part} {r : Result T Error}
      → Added written references capacity old f' mid → f' ≡ f → Serialized written refuses references capacity mid g new r → Serialized written refuses references capacity old (in_turn f g) new r
  and_then {old = old} {mid = mid} a same h = steps.and_then (subst (λ p. Added written references capacity old p mid) same a) h

  -- the exit of a `?` after which more was to come
  pub stops : {T : Type 0} {old mid new : Serializer W} {f f' g : Part} {e : Error} {r : Result T Error}
      → Stopped written refuses references capacity old f' mid e → f' ≡ f → IsErrAnd r (λ x. x ≡ e) → new ≡ mid → Serialized written refuses references capacity old (in_turn f g) new r
  stops {old = old} {mid = mid} {f = f} {g = g} {e = e} {r = r} h same given now =
      subst (λ z. Serialized written refuses references capacity old (in_turn f g) z r) (sym now) (steps.stops given (subst (λ p. Stopped written refuses references capacity old p mid e) same h))

  -- the exit of a `?` at the head
  pub head_stops : {T U : Type 0} {old new : Serializer W} {f g : Part} {e : Error} {q : Result U Error} {r : Result T Error}
      → OnErr q (Serialized written refuses references capacity old f new q) → q ≡ Err e → IsErrAnd r (λ x. x ≡ e) → Serialized written refuses references capacity old (in_turn f g) new r
  head_stops {q = Ok x} h is given = cc
  head_stops {old = old} {new = new} {f = f} {q = Err y} h is given = steps.stops given (subst (λ z. Stopped written refuses references capacity old f new z) (same_error {q = Err y} refl is) h.err)

  -- the call that ends it all
  pub ends : {T : Type 0} {old mid new : Serializer W} {f' f : Part} {r : Result T Error}
      → Serialized written refuses references capacity old f' mid r → f' ≡ f → new ≡ mid → Serialized written refuses references capacity old f new r
  ends {old = old} {mid = mid} {f = f} {r = r} h same now =
      subst (λ z. Serialized written refuses references capacity old f z r) (sym now) (subst (λ p. Serialized written refuses references capacity old p mid r) same h)

-- the documents of a list whose items are documents already, as in a fold
pub docs_of : {A : Type 0} (f : A → Doc) (xs : List A) → docs (λ d. d) (map f xs) ≡ docs f xs
docs_of f [] = refl
docs_of f (x ∷ xs) = ap (λ ds. doc (f x) ds) (docs_of f xs)
