-- Reading all that a source has to give.
use Rattle.std.proofs.Common.{◌≡◌, ◌∙◌, ℕ, List, [], ◌∷◌, length, Ok, Err, sym, ap, arith, eqb, false}
use Rattle.std.proofs.lemmas.Bool.{ne_eqb}
use Rattle.cbor_model.specs.Formats.{all_formats}
use Rattle.cbor_model.specs.Plain.{Val, Vals, Pairs}
use Rattle.cbor_model.specs.Refusal.{trailing_data}
use Rattle.cbor_model.specs.Acceptable.{max_depth}
use Rattle.cbor_model.specs.Reader.{Fault, Reads, Reading, ◌>>=◌, values_in, item_at, whole, read_value_in}
use Rattle.cbor_model.proofs.facts.Reader.{ok_is}
use Rattle.cbor_read.specs.Source.{Input}
use Rattle.cbor_decode.specs.Gives.{limits, values, end_at, whole_at}

-- what the limits are where nothing was taken
from_start : (s : Input) (bs : List ℕ) → s.offset ≡ 0 → values all_formats (limits s bs) ≡ values_in (length bs) s.room
from_start s bs zero = ap (λ (n : ℕ). values_in n s.room) (omega (arith, zero))

abbrev behind : Reads Val → Reads Val
behind read = read >>= (λ v. end_at v.1 >>= (λ u. Ok (v.0, u.1)))

abbrev okay : Val → List ℕ → Reads Val
okay v rest = Ok (v, rest)

same_value : (v w : Val) (bs rest : List ℕ) → okay v bs ≡ okay w rest → v ≡ w
same_value v w bs rest e = ap (λ (p : Val × List ℕ). p.0) (ok_is (v, bs) (w, rest) e)

abbrev failed : Fault → Reads Val
failed f = Err f

same_fault : (c d : Fault) → failed c ≡ Err d → c ≡ d
same_fault c d e = cc

of_value : (read : Reads Val) (v : Val) (rest : List ℕ) → behind read ≡ Ok (v, rest) → whole read ≡ Ok v
of_value (Ok (w, [])) v rest e = ap (λ (x : Val). Ok x) (same_value w v [] rest e)
of_value (Ok (w, b ∷ bs)) v rest e = absurd cc
of_value (Err f) v rest e = absurd cc

of_fault : (read : Reads Val) (f : Fault) → behind read ≡ Err f → whole read ≡ Err f
of_fault (Ok (w, [])) f e = absurd cc
of_fault (Ok (w, b ∷ bs)) f e =
    let some : eqb (length (b ∷ bs)) 0 ≡ false = ne_eqb (length (b ∷ bs)) 0 (λ none. absurd (omega (arith, none))) in
    rw some (ap (λ (n : ℕ). Err (record { why = trailing_data; left = n })) (omega arith) ∙ ap (λ (g : Fault). Err g) (same_fault (record { why = trailing_data; left = length bs }) f e))
of_fault (Err g) f e = ap (λ (h : Fault). Err h) (same_fault g f e)

module _ (s : Input) (bs : List ℕ) (zero : s.offset ≡ 0) where
  abbrev item : Reads Val
  item = item_at (values_in (length bs) s.room) max_depth bs

  as_item : behind item ≡ whole_at all_formats max_depth (limits s bs) bs
  as_item = ap (λ (m : Reading Val Vals (Pairs → Pairs)). behind (item_at m max_depth bs)) (sym (from_start s bs zero))

  pub value_in : (v : Val) (rest : List ℕ) → whole_at all_formats max_depth (limits s bs) bs ≡ Ok (v, rest) → read_value_in s.room bs ≡ Ok v
  unfolding read_value_in
  value_in v rest e = of_value item v rest (as_item ∙ e)

  pub fault_in : (f : Fault) → whole_at all_formats max_depth (limits s bs) bs ≡ Err f → read_value_in s.room bs ≡ Err f
  unfolding read_value_in
  fault_in f e = of_fault item f (as_item ∙ e)
