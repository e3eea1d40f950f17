-- The parts of a message, as they are found.
use Rattle.std.proofs.Common.{◌≡◌, ◌∙◌, ℕ, List, [], ◌∷◌, Some, length, get_or, ap, sym, arith}
use Rattle.cbor_value.specs.View.{view, views}
use Rattle.cbor_value.specs.declared.Value.{Value}
use Rattle.cbor_value.proofs.facts.Views.{count_views}
use Rattle.serde_cbor.specs.Contents.{as_bytes, as_array, as_map, as_tag}
use Rattle.serde_cbor.specs.Plain.{Val, Pairs, array, bytes, count, map, no_vals, tag, val}
use Rattle.serde_cbor.proofs.facts.Values.{holds_array, holds_bytes, holds_map, holds_tag}
use Rattle.use_signed_record.specs.Record.{message}

is_tagged : (v w : Val) (n : ℕ) (items : List Value) → Some (n, w) ≡ as_tag v → Some (views items) ≡ as_array w → v ≡ tag n (array (views items))
is_tagged v w n items tagged listed = holds_tag v n w tagged ∙ ap (tag n) (holds_array w (views items) listed)

-- a message has four
pub four_items : (v w : Val) (n : ℕ) (items : List Value) → Some (n, w) ≡ as_tag v → Some (views items) ≡ as_array w
    → (h : List ℕ) (u : Pairs) (p s : List ℕ) → v ≡ message h u p s → length items ≡ 4
four_items v w n items tagged listed h u p s is =
    let same : tag n (array (views items)) ≡ message h u p s = sym (is_tagged v w n items tagged listed) ∙ is in
    let all : views items ≡ val (bytes h) (val (map u) (val (bytes p) (val (bytes s) no_vals))) = cc in
    sym (count_views items) ∙ ap count all

-- and what four hold are its parts
pub found : (v w : Val) (n : ℕ) (items : List Value) → Some (n, w) ≡ as_tag v → Some (views items) ≡ as_array w → (a b c d : Value) (h p s : List ℕ) (u : Pairs)
    → Some h ≡ as_bytes (view a) → Some u ≡ as_map (view b) → Some p ≡ as_bytes (view c) → Some s ≡ as_bytes (view d) → n ≡ 18 → length items ≡ 4
    → a ≡ get_or items 0 a → b ≡ get_or items 1 b → c ≡ get_or items 2 c → d ≡ get_or items 3 d → v ≡ message h u p s
found v w n (e ∷ f ∷ g ∷ x ∷ []) tagged listed a b c d h p s u ha ub pc sd sign1 len i j k l =
    let all = is_tagged v w n (e ∷ f ∷ g ∷ x ∷ []) tagged listed in
    let ea = holds_bytes (view a) h ha in let eb = holds_map (view b) u ub in let ec = holds_bytes (view c) p pc in let ed = holds_bytes (view d) s sd in cc
found v w n _ tagged listed a b c d h p s u ha ub pc sd sign1 len i j k l = absurd (omega arith)
