-- What is appended to a log.
use Rattle.std.proofs.Common.{◌≡◌, ◌∙◌, ℕ, List, [], ◌∷◌, ◌++◌, Option, None, Some, Result, Ok, Err, inl, inr, refl, sym, subst, append-nil}
use Rattle.std.specs.Prelude.{IfOk, OnOk}
use Rattle.std.specs.Io.KnownBytes.{Appends}
use Rattle.std.specs.Str.{bytes_eq}
use Rattle.std.proofs.lemmas.Slice.Eq.{bytes_eq-Decides}
use Rattle.serde_cbor.specs.Acceptable.{max_depth}
use Rattle.serde_cbor.specs.Canonical.{canon}
use Rattle.serde_cbor.specs.Laws.{SpellsValue}
use Rattle.serde_cbor.specs.Plain.{Val}
use Rattle.serde_cbor.specs.Raw.{Raw}
use Rattle.serde_cbor.specs.Spelling.{spell}
use Rattle.serde_cbor.specs.Value.{value}
use Rattle.serde_cbor.proofs.facts.Sequences.{each_joined}
use Rattle.serde_cbor.proofs.facts.Filled.{has_more, has_same, put_again}
use Rattle.serde_cbor.specs.declared.error.Error.{Error}
use Rattle.use_content_store.specs.declared.store.Put.{Put}
use Rattle.use_content_store.specs.declared.store.Put.TheVariants.{Stored, Collision}
use Rattle.use_content_store.specs.declared.store.Store.{Store}
use Rattle.use_content_store.specs.Log.{HoldsJust, IsLog, KeepsLog}
use Rattle.use_content_store.specs.Store.{HoldsTheSame, Puts, address, at, written}

-- the value of one item more
pub holds_more : (s t : Store) (items : List Raw) (r : Raw) → HoldsJust s items → Puts s (value r) t Stored → HoldsJust t (items ++ r ∷ [])
holds_more s t items r just puts = has_more (λ q. address (value q)) (λ q. canon (value q)) (at s) (at t) items r just puts.0 bytes_eq bytes_eq-Decides puts.1

module _ (s t : Store) (v : Val) (old new : Option (List ℕ)) (read : SpellsValue (canon v) v) where
  unchanged : HoldsTheSame s t → Appends old new [] → KeepsLog s t old new
  unchanged same wrote items log =
      let holds = has_same (λ r. address (value r)) (λ r. canon (value r)) (at s) (at t) items same log.1 in
      ([], wrote, subst (λ (rs : List Raw). IsLog rs t) (sym (append-nil items)) (log.0, holds))

  grown : Puts s v t Stored → Appends old new (canon v) → KeepsLog s t old new
  grown puts wrote items log =
      let holds = holds_more s t items read.item log.1 (subst (λ (w : Val). Puts s w t Stored) read.valued puts) in
      let acceptable = each_joined max_depth items (read.item ∷ []) log.0 (read.acceptable, tt) in
      (read.item ∷ [], subst (Appends old new) (sym read.spelled ∙ sym (append-nil (spell read.item))) wrote, (acceptable, holds))

  keeps : (o : Option (List ℕ)) → at s (address v) ≡ o → (put : Put) → Puts s v t put → Appends old new (written o v) → KeepsLog s t old new
  keeps None is Stored puts wrote = grown puts wrote
  keeps None is Collision puts wrote = absurd (puts.1 (inl is))
  keeps (Some other) is Collision puts wrote = unchanged puts.0 wrote
  keeps (Some other) is Stored (inl none, puts) wrote = absurd (let never = sym none ∙ is in cc)
  keeps (Some other) is Stored (inr held, puts) wrote = unchanged (λ q. puts q ∙ sym (put_again bytes_eq bytes_eq-Decides (at s) (address v) (canon v) held q)) wrote

  pub keeps_log : (r : Result Put Error) → IfOk r (Puts s v t) → OnOk r (Appends old new (written (at s (address v)) v)) → OnOk r (KeepsLog s t old new)
  keeps_log (Ok put) puts wrote = keeps (at s (address v)) refl put puts wrote
  keeps_log (Err e) puts wrote = tt
