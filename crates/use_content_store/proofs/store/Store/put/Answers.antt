use Rattle.std.proofs.Common.{◌∙◌, ℕ, List, Some, ap, inl, inr, refl, rules, sym}
use Rattle.std.specs.BTreeMap.{get}
use Rattle.std.specs.Cmp.Lexicographic.{slice_cmp}
use Rattle.std.specs.Ordering.{nat_cmp}
use Rattle.std.specs.Prelude.{option_map}
use Rattle.std.specs.Str.{bytes_eq}
use Rattle.std.proofs.lemmas.Map.Text.{is_eq-slice_cmp}
use Rattle.std.proofs.lemmas.Slice.Eq.{bytes_eq-Decides}
use Rattle.use_content_store.specs.Store.{at}
use Rattle.serde_cbor.proofs.facts.Filled.{mapped_pick, put_again}
use Rattle.serde_cbor.proofs.facts.Sequences.{all_written}
use Rattle.use_content_store.proofs.store.Store.put.Goals as goal

pub returns-then-has-clause-ok : goal.returns-then-has-clause-ok
returns-then-has-clause-ok g c =
    let here = c.has.ensures.0 (search rules) ∙ ap Some c.deref.ensures.value in
    rw (sym c.in_ok-hash.ensures.hash, sym c.in_ok-hash.ensures.bytes) (inr here, put_again bytes_eq bytes_eq-Decides (at c.args.self.now) c.in_ok-hash.hash c.in_ok-hash.bytes.items here)

pub returns-in_err-insert-clause-part : goal.returns-in_err-insert-clause-part
returns-in_err-insert-clause-part g c =
    let all = all_written (rw (c.deref-2.ensures.value, c.in_ok-hash.ensures.bytes) at c.in_ok-write_all.ensures.written.ok) in search (rules, all)

pub returns-clause-ok : goal.returns-clause-ok
returns-clause-ok g c =
    let now = λ (q : List ℕ). ap (option_map (λ b. b.items)) (c.in_ok-insert.ensures.updates.0 q) ∙ mapped_pick (λ b. b.items) _ _ (is_eq-slice_cmp c.in_ok-hash.hash q) c.in_ok-hash.bytes (get (slice_cmp nat_cmp) c.args.self.now.entries q) in
    rw (sym c.in_ok-hash.ensures.hash, sym c.in_ok-hash.ensures.bytes) (inl (c.is_free.ensures.0 (search rules)), now)
