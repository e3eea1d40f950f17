-- What bytes that encode a message canonically say of a record, and what is signed of one.
use Rattle.std.proofs.Common.{◌≡◌, ◌∙◌, ℕ, ◌<◌, List, [], Some, Bool, ap, sym, subst, lit<}
use Rattle.std.specs.Prelude.{ℤ, codes}
use Rattle.cbor_model.proofs.facts.Laws.{equal_bytes}
use Rattle.serde_cbor.specs.Canonical.{canon}
use Rattle.serde_cbor.specs.Laws.{ValueIsInRange}
use Rattle.serde_cbor.specs.Plain.{Val, bytes, text, array, no_vals, val, Pairs}
use Rattle.serde_cbor.specs.Strict.{SpellsCanonically}
use Rattle.serde_cbor.proofs.facts.Canonical.{one_value, spelled_in_range}
use Rattle.use_signed_record.specs.Record.{message, signed_bytes, algorithm_of, Check, IsChecked, UnlessNone, ContentIsSigned}

module _ {input : List ℕ} {v : Val} (whole : SpellsCanonically input v) {algorithm : ℤ} {h : List ℕ} {u : Pairs} {p s : List ℕ} (is : v ≡ message h u p s) where
  -- where the header of a record that the input encodes stands
  pub stands_here : {P : Type 0} → ((w : Val) → SpellsCanonically h w → algorithm_of w ≡ Some algorithm → P) → UnlessNone input algorithm P
  stands_here so header payload signature r =
      let same : message h u p s ≡ message (canon header) r.unprotected payload signature = sym is ∙ one_value whole r.whole in
      let here : canon header ≡ h = cc in
      so header (subst (λ (b : List ℕ). SpellsCanonically b header) here r.protected) r.named

  -- a record, and what a check says of it
  pub checked : {w : Val} → SpellsCanonically h w → (check : Check) (says : Bool) (payload signed : List ℕ) → algorithm_of w ≡ Some algorithm
      → payload ≡ p → signed ≡ signed_bytes h p → check signed s says → IsChecked check input algorithm w payload says
  checked {w} inner check says payload signed named copied made said = rw copied (record {
    signature = s;
    is_record = record {
      unprotected = u;
      whole = subst (SpellsCanonically input) (is ∙ ap (λ (b : List ℕ). message b u p s) (sym inner.spelled)) whole;
      protected = subst (λ (b : List ℕ). SpellsCanonically b w) (sym inner.spelled) inner;
      named = named;
    };
    said = subst (λ (b : List ℕ). check b s says) (made ∙ ap (λ (b : List ℕ). signed_bytes b p) (sym inner.spelled)) said;
  })

-- ---- the law

-- ["Signature1", h, h'', p]
abbrev signed_array : List ℕ → List ℕ → Val
signed_array h p = array (val (text (codes "Signature1")) (val (bytes h) (val (bytes []) (val (bytes p) no_vals))))

same_parts : (h k p q : List ℕ) → signed_array h p ≡ signed_array k q → (h ≡ k) × (p ≡ q)
same_parts h k p q same = (cc, cc)

pub content_is_signed : ValueIsInRange → ContentIsSigned
content_is_signed law one other a b h k p q s t short short' r r' = (
  λ same.
      let m = spelled_in_range law short r.whole in
      let n = spelled_in_range law short' r'.whole in
      let both = same_parts (canon h) (canon k) p q (equal_bytes (signed_array (canon h) p) (signed_array (canon k) q)
      (tt, (tt, (tt, (tt, tt)))) (tt, (tt, (tt, (tt, tt))))
      (lit< tt, (lit< tt, (m.1.1.0, (lit< tt, (m.1.1.1.1.0, tt))))) (lit< tt, (lit< tt, (n.1.1.0, (lit< tt, (n.1.1.1.1.0, tt))))) same) in
      (one_value r.protected (subst (λ (x : List ℕ). SpellsCanonically x k) (sym both.0) r'.protected), both.1),
  λ e. ap (λ (v : Val). signed_bytes (canon v) p) e.0 ∙ ap (signed_bytes (canon k)) e.1,
)
