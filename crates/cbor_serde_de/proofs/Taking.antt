-- Taking bytes of a reader, one call after the other.
use Rattle.std.proofs.Common.{◌≡◌, ◌⊎◌, inl, inr, ◌∙◌, ℕ, false, List, [], ◌∷◌, ◌++◌, length, Option, Result, Ok, Err, refl, sym, ap, subst, arith}
use Rattle.std.specs.Prelude.{MatchResult}
use Rattle.std.proofs.Common.{append-nil, append_assoc}
use Rattle.std.proofs.KnownBytes.{Consumes-nil, Consumes-trans}
use Rattle.cbor_io.specs.declared.error.Category.TheVariants as category
use Rattle.cbor_io.specs.declared.error.Error.{Error}
use Rattle.cbor_io.specs.Error.{IsOutOfMemory, category_of, code_of}
use Rattle.cbor_decode.specs.FirstRefusal.{ReportsFirst}
use Rattle.cbor_decode.specs.Gives.{IsMemoryOrFaultBy}
use Rattle.cbor_serde_de.specs.Fronts.{item_limits}
use Rattle.cbor_serde_de.specs.Readers.{Fails, Gave, KeepsMore, TakesItem, TakesOnly, TookMissing, TookPiece}
use Rattle.cbor_serde_de.specs.declared.kept.Kept.{Kept}

module _ {R : Type 0} (remaining : R → Option (List ℕ)) where
  -- nothing was taken
  pub keeps_same : (k : Kept R) → KeepsMore remaining k k
  keeps_same k = record {
    some = [];
    taken = Consumes-nil (remaining k.reader);
    kept = sym (append-nil k.bytes.items);
  }

  -- some bytes, and then more
  pub keeps_then : (a b c : Kept R) → KeepsMore remaining a b → KeepsMore remaining b c → KeepsMore remaining a c
  keeps_then a b c first then = record {
    some = first.some ++ then.some;
    taken = Consumes-trans (remaining a.reader) (remaining b.reader) (remaining c.reader) first.some then.some first.taken then.taken;
    kept = then.kept ∙ ap (λ l. l ++ then.some) first.kept ∙ append_assoc a.bytes.items first.some then.some;
  }

  pub gave_then : (a b c : Kept R) → KeepsMore remaining a b → Gave remaining b c → Gave remaining a c
  gave_then a b c first then = record {
    some = first.some ++ then.some;
    taken = Consumes-trans (remaining a.reader) (remaining b.reader) (remaining c.reader) first.some then.some first.taken then.taken;
  }

  -- after some bytes were taken no more could be
  pub fails_then : (a b c : Kept R) (e : Error) → KeepsMore remaining a b → Fails remaining b c e → Fails remaining a c e
  fails_then a b c e first then = (then.0, gave_then a b c first then.1)

  pub keeps_gave : (a b : Kept R) → KeepsMore remaining a b → Gave remaining a b
  keeps_gave a b h = record { some = h.some; taken = h.taken }

  -- ---- the item at the front

  -- the bytes that are kept begin with none, and aren't too few for one
  pub faulty : (levels : ℕ) (a b : Kept R) (e : Error) → KeepsMore remaining a b → IsOutOfMemory e ⊎ ReportsFirst (item_limits levels) b.bytes.items e
      → (category_of (code_of e) ≡ category.Eof → ⊥) → TakesItem remaining levels a b (Err e)
  faulty levels a b e more (inl memory) other = inl ((subst IsMemoryOrFaultBy (sym memory.0) tt, memory.1), keeps_gave a b more)
  faulty levels a b e more (inr first) other = inr (record { more = more; reports = first; ended = λ eof. absurd (other eof) })

  -- they are too few, and no more come
  pub ended : (levels : ℕ) (a b c : Kept R) (e : Error) → KeepsMore remaining a b → IsOutOfMemory e ⊎ ReportsFirst (item_limits levels) b.bytes.items e
      → TookMissing remaining b c false → TakesItem remaining levels a c (Err e)
  ended levels a b c e more (inl memory) none =
      inl ((subst IsMemoryOrFaultBy (sym memory.0) tt, memory.1), keeps_gave a c (keeps_then a b c more none.more))
  ended levels a b c e more (inr first) none =
      let end = none.none refl in
      let same : c.bytes.items ≡ b.bytes.items = none.more.kept ∙ ap (λ l. b.bytes.items ++ l) end.0 ∙ append-nil b.bytes.items in
      inr (record {
        more = keeps_then a b c more none.more;
        reports = subst (λ (bytes : List ℕ). ReportsFirst (item_limits levels) bytes e) (sym same) first;
        ended = λ eof. end.1;
      })

  -- no byte came
  pub none_took : (a b : Kept R) (n : ℕ) → TookPiece remaining a b n → n ≡ 0 → TookMissing remaining a b false
  none_took a b n took zero = record { more = took.more; none = λ is. (empty took.more.some (took.count ∙ zero), took.ended zero) }
    where
      empty : (l : List ℕ) → length l ≡ 0 → l ≡ []
      empty [] e = refl
      empty (x ∷ l) e = absurd (omega (arith, e))

  -- some bytes, and then others, or a failure
  pub after_more : {X : Type 0} (a b c : Kept R) (r : Result X Error) → KeepsMore remaining a b → MatchResult r (λ x. KeepsMore remaining b c) (Fails remaining b c)
      → MatchResult r (λ x. KeepsMore remaining a c) (Fails remaining a c)
  after_more a b c (Ok x) first then = keeps_then a b c first then
  after_more a b c (Err e) first then = fails_then a b c e first then

  pub only_then : (levels : ℕ) (a b c : Kept R) → KeepsMore remaining a b → (r : Result (Unit {0}) Error) → TakesOnly remaining levels b c r → TakesOnly remaining levels a c r
  only_then levels a b c more (Ok u) h = record { more = keeps_then a b c more h.more; item = h.item; ended = h.ended }
  only_then levels a b c more (Err e) (inl h) = inl (record { more = keeps_then a b c more h.more; rest = h.rest })
  only_then levels a b c more (Err e) (inr (inl h)) = inr (inl (fails_then a b c e more h))
  only_then levels a b c more (Err e) (inr (inr h)) =
      inr (inr (record { more = keeps_then a b c more h.more; reports = h.reports; ended = h.ended }))
