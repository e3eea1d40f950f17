-- Which field a message names as missing.
use Rattle.std.proofs.Common.{◌≡◌, ◌<◌, ◌≤◌, inl, inr, ℕ, suc, ◌-◌, List, [], ◌∷◌, length, map, take, drop, get_or, Option, Some, None, Bor, sym, subst, arith}
use Rattle.std.proofs.lemmas.List.{length-drop, take_all}
use Rattle.std.proofs.Math.Seq.{drop-cons}
use Rattle.cbor_io.specs.declared.error.ErrorCode.{ErrorCode}
use Rattle.cbor_io.specs.Error.{IsMessageOf}
use Rattle.cbor_de.specs.Fields.{Slots, IsHeld, Lacks}
use Rattle.cbor_de.specs.Structs.{FieldOf, IfAbsent, missing_text}
use Rattle.cbor_de.specs.Structs as absent
use Rattle.cbor_described.specs.FieldLists.{NamesLacking}

-- what is held isn't lacking
pub held_not_lacking : {A : Type 0} (missing : IfAbsent A) (held : Option A) (x : A) → IsHeld held missing x → Lacks missing held → ⊥
held_not_lacking absent.refused (Some y) x h lacks = absurd cc
held_not_lacking absent.refused None x h lacks = h
held_not_lacking (absent.taken m) held x h lacks = lacks

-- where the names have no i-th
abbrev pub no_name : Bor (List ℕ)
no_name = record { ref_ptr = (0, 0); now = [] }

module _ {S : Type 0} (names : List (Bor (List ℕ))) (none : Bor (List ℕ)) (d : FieldOf S) (fields : List (FieldOf S)) (slots : Slots (d ∷ fields)) (code : ErrorCode) (i : ℕ) (some : i < length names) where
  by_name : NamesLacking (d ∷ fields) (map (λ n. n.now) (get_or names i none ∷ drop (suc i) names)) slots code → NamesLacking (d ∷ fields) (map (λ n. n.now) (drop i names)) slots code
  by_name = subst (λ (ns : List (Bor (List ℕ))). NamesLacking (d ∷ fields) (map (λ n. n.now) ns) slots code) (sym (drop-cons names i none some))

  -- the first one is, by the i-th name
  pub names_first : Lacks d.missing slots.0 → IsMessageOf (Some (missing_text (get_or names i none).now)) code → NamesLacking (d ∷ fields) (map (λ n. n.now) (drop i names)) slots code
  names_first lacks text = by_name (inl (lacks, text))

  -- one of the others is
  pub names_later : (x : d.Value) → IsHeld slots.0 d.missing x → NamesLacking fields (map (λ n. n.now) (drop (suc i) names)) slots.1 code → NamesLacking (d ∷ fields) (map (λ n. n.now) (drop i names)) slots code
  names_later x held later = by_name (inr (held_not_lacking d.missing slots.0 x held, later))

-- by the names from the i-th on, as a slice
pub names_behind : {S : Type 0} (names : List (Bor (List ℕ))) (fields : List (FieldOf S)) (slots : Slots fields) (code : ErrorCode) (i : ℕ)
    → NamesLacking fields (map (λ n. n.now) (take (length names - i) (drop i names))) slots code → NamesLacking fields (map (λ n. n.now) (drop i names)) slots code
names_behind names fields slots code i =
    subst (λ (ns : List (Bor (List ℕ))). NamesLacking fields (map (λ n. n.now) ns) slots code) (take_all (length names - i) (drop i names) (omega (arith, length-drop i names)))
