-- Writing values one after the other.
use Rattle.std.proofs.Common.{◌≡◌, ℕ, zero, suc, ◌+◌, ◌<◌, ◌≤◌, List, [], ◌∷◌, ◌++◌, length, drop, get_or, refl, sym, ap, ◌∙◌, subst, arith, add-one, drop-cons, ◌⊎◌, inl, inr, Option, None, Some, Result, Ok, Err}
use Rattle.std.specs.Option.{IsSomeAnd}
use Rattle.std.specs.Result.{OnErr}
use Rattle.std.proofs.lemmas.List.{drop_all}
use Rattle.cbor_model.specs.Head.{short}
use Rattle.cbor_model.specs.Spelling.{spell, spell_all, spell_pairs}
use Rattle.cbor_model.specs.Plain.{Val, array, map, tag, Vals, Pairs, count, pair_count}
use Rattle.cbor_model.specs.Canonical.{canon, canonical, canonical_all, canonical_pairs, IsStorable, AreStorable, ArePairsStorable}
use Rattle.cbor_model.proofs.facts.Canonical.{count_canonical, pair_count_canonical}
pub use Rattle.cbor_model.proofs.facts.Documents.{document_is_canonical}
use Rattle.cbor_io.specs.declared.error.ErrorCode.{ErrorCode}
use Rattle.cbor_io.specs.declared.error.ErrorCode.TheVariants.{Message, OutOfMemory}
use Rattle.cbor_io.specs.declared.error.Error.{Error}
use Rattle.cbor_value.specs.declared.Value.{Value}
use Rattle.cbor_value.specs.View.{view, views, pair_views}
use Rattle.cbor_io.specs.Error.{IsOutOfMemory}
use Rattle.cbor_ser.specs.Written.{IsRefusedBy, IsNotWritten, IsUnstorable, IsUnstorableCode, SaysUnstorable}

-- ---- heads with what follows

pub array_spelled : (vs : Vals) (n : ℕ) → n ≡ count vs → short 4 n ++ spell_all (canonical_all vs) ≡ canon (array vs)
unfolding canon canonical spell
array_spelled vs n counted = ap (λ (k : ℕ). short 4 k ++ spell_all (canonical_all vs)) (counted ∙ sym (count_canonical vs))

pub map_spelled : (ps : Pairs) (n : ℕ) → n ≡ pair_count ps → short 5 n ++ spell_pairs (canonical_pairs ps) ≡ canon (map ps)
unfolding canon canonical spell
map_spelled ps n counted = ap (λ (k : ℕ). short 5 k ++ spell_pairs (canonical_pairs ps)) (counted ∙ sym (pair_count_canonical ps))

pub tag_spelled : (n : ℕ) (v : Val) → short 6 n ++ canon v ≡ canon (tag n v)
unfolding canon canonical spell
tag_spelled n v = refl

-- ---- one more item, or pair

pub cons_at : {A : Type 0} → (xs : List A) (i : ℕ) (x : A) → i < length xs → x ≡ get_or xs i x → drop i xs ≡ x ∷ drop (i + 1) xs
cons_at xs i x lt is = rw add-one (drop-cons xs i x lt ∙ ap (λ y. y ∷ drop (suc i) xs) (sym is))

pub storable_at : (vs : List Value) (i : ℕ) (v : Value) → i < length vs → v ≡ get_or vs i v → AreStorable (views vs) → IsStorable (view v)
storable_at [] i v lt is all = absurd (omega arith)
storable_at (w ∷ ws) zero v lt is all = subst (λ (x : Value). IsStorable (view x)) (sym is) all.0
storable_at (w ∷ ws) (suc i) v lt is all = storable_at ws i v (omega arith) is all.1

pub storable_from : (vs : List Value) (i : ℕ) (v : Value) → i < length vs → v ≡ get_or vs i v → IsStorable (view v) → AreStorable (views (drop (i + 1) vs)) → AreStorable (views (drop i vs))
storable_from vs i v lt is here after = subst (λ (xs : List Value). AreStorable (views xs)) (sym (cons_at vs i v lt is)) (here, after)

pub item_spelled : (vs : List Value) (i : ℕ) (v : Value) → i < length vs → v ≡ get_or vs i v
    → canon (view v) ++ spell_all (canonical_all (views (drop (i + 1) vs))) ≡ spell_all (canonical_all (views (drop i vs)))
unfolding canon canonical spell
item_spelled vs i v lt is = ap (λ (xs : List Value). spell_all (canonical_all (views xs))) (sym (cons_at vs i v lt is))

pub none_spelled : (vs : List Value) (i : ℕ) → length vs ≤ i → [] ≡ spell_all (canonical_all (views (drop i vs)))
unfolding canon canonical spell
none_spelled vs i past = ap (λ (xs : List Value). spell_all (canonical_all (views xs))) (sym (drop_all i vs past))

pub key_storable_at : (ps : List (Value × Value)) (i : ℕ) (p : Value × Value) → i < length ps → p ≡ get_or ps i p → ArePairsStorable (pair_views ps) → IsStorable (view p.0)
key_storable_at [] i p lt is all = absurd (omega arith)
key_storable_at (q ∷ qs) zero p lt is all = subst (λ (x : Value × Value). IsStorable (view x.0)) (sym is) all.0
key_storable_at (q ∷ qs) (suc i) p lt is all = key_storable_at qs i p (omega arith) is all.2

pub value_storable_at : (ps : List (Value × Value)) (i : ℕ) (p : Value × Value) → i < length ps → p ≡ get_or ps i p → ArePairsStorable (pair_views ps) → IsStorable (view p.1)
value_storable_at [] i p lt is all = absurd (omega arith)
value_storable_at (q ∷ qs) zero p lt is all = subst (λ (x : Value × Value). IsStorable (view x.1)) (sym is) all.1
value_storable_at (q ∷ qs) (suc i) p lt is all = value_storable_at qs i p (omega arith) is all.2

pub pair_storable_from : (ps : List (Value × Value)) (i : ℕ) (p : Value × Value) → i < length ps → p ≡ get_or ps i p → IsStorable (view p.0) → IsStorable (view p.1)
    → ArePairsStorable (pair_views (drop (i + 1) ps)) → ArePairsStorable (pair_views (drop i ps))
pair_storable_from ps i p lt is key value after = subst (λ (xs : List (Value × Value)). ArePairsStorable (pair_views xs)) (sym (cons_at ps i p lt is)) (key, value, after)

pub pair_spelled : (ps : List (Value × Value)) (i : ℕ) (p : Value × Value) → i < length ps → p ≡ get_or ps i p
    → canon (view p.0) ++ (canon (view p.1) ++ spell_pairs (canonical_pairs (pair_views (drop (i + 1) ps)))) ≡ spell_pairs (canonical_pairs (pair_views (drop i ps)))
unfolding canon canonical spell
pair_spelled ps i p lt is = ap (λ (xs : List (Value × Value)). spell_pairs (canonical_pairs (pair_views xs))) (sym (cons_at ps i p lt is))

pub no_pair_spelled : (ps : List (Value × Value)) (i : ℕ) → length ps ≤ i → [] ≡ spell_pairs (canonical_pairs (pair_views (drop i ps)))
unfolding canon canonical spell
no_pair_spelled ps i past = ap (λ (xs : List (Value × Value)). spell_pairs (canonical_pairs (pair_views xs))) (sym (drop_all i ps past))

-- ---- refusals

-- Where a value isn't stored, what it lies in isn't either.
pub unstorable_with : (v w : Val) (e : Error) → (IsStorable w → IsStorable v) → IsUnstorable v e → IsUnstorable w e
unstorable_with v w e inside refused = (λ all. refused.0 (inside all), refused.1)

-- One of the sink's errors stays one, and a value that is refused is refused with all that it lies in.
inside_with : {Sink : Type 0} (v w : Val) (e : Error) → (IsStorable w → IsStorable v) → Sink ⊎ IsUnstorable v e → Sink ⊎ IsUnstorable w e
inside_with v w e inside (inl x) = inl x
inside_with v w e inside (inr x) = inr (unstorable_with v w e inside x)

kept_with : (Sink : Error → Type 0) (v w : Val) (kept : Option Error) → (IsStorable w → IsStorable v)
    → IsSomeAnd kept (λ e. Sink e ⊎ IsUnstorable v e) → IsSomeAnd kept (λ e. Sink e ⊎ IsUnstorable w e)
kept_with Sink v w None inside refused = refused
kept_with Sink v w (Some e) inside refused = inside_with v w e inside refused

pub refused_inside : {T E : Type 0} (Sink : Error → Type 0) (v w : Val) (kept : Option Error) (r : Result T E) → (IsStorable w → IsStorable v)
    → IsSomeAnd kept (λ e. Sink e ⊎ IsUnstorable v e) → OnErr r (IsSomeAnd kept (λ e. Sink e ⊎ IsUnstorable w e))
refused_inside Sink v w kept (Ok x) inside refused = tt
refused_inside Sink v w kept (Err x) inside refused = kept_with Sink v w kept inside refused

-- What isn't storable is not written; nor is anything for which a vector finds no memory.
not_written_code : (code : ErrorCode) (S : Type 0) → (S → ⊥) → IsUnstorableCode code → IsRefusedBy code S
not_written_code (Message text) S unstorable says = (says, unstorable)
not_written_code OutOfMemory S unstorable says = tt
not_written_code _ S unstorable says = absurd says

no_memory_with : (code : ErrorCode) (S : Type 0) → code ≡ OutOfMemory → IsRefusedBy code S
no_memory_with code S is = subst (λ (x : ErrorCode). IsRefusedBy x S) (sym is) tt

pub not_written : (S : Type 0) (e : Error) → IsOutOfMemory e ⊎ ((S → ⊥) × SaysUnstorable e) → IsNotWritten S e
not_written S e (inl memory) = (no_memory_with e.code S memory.0, memory.1)
not_written S e (inr unstorable) = (not_written_code e.code S unstorable.0 unstorable.1.0, unstorable.1.1)
