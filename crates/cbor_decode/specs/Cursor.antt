-- What remains of an array or a map, as a reader counts it.
use Rattle.std.specs.Prelude.{◌≡◌, ℕ, zero, suc, ◌-◌, ◌<◌, Bool, true, false, List, [], ◌∷◌, Option}
use Rattle.std.specs.Prelude.{Some, None, Ok, Err, ◌==◌, if◌then◌else◌, refl}
use Rattle.cbor_model.specs.Refusal.{Refusal, trailing_data, end_in_array}
use Rattle.cbor_model.specs.Reader.{Reads, before}
use Rattle.cbor_model.specs.Reader as reader
use Rattle.cbor_decode.specs.Heads.{remaining_of}
use Rattle.cbor_decode.specs.declared.cursor.Remaining.{Remaining}
use Rattle.cbor_decode.specs.declared.cursor.Remaining.TheVariants.{Counted, ToBreak}

-- what remains after the next part, if one comes
abbrev pub behind_next : Remaining → Bool → Option reader.Remaining
behind_next remaining false = None
behind_next remaining true = Some (remaining_of remaining)

-- Whether another part comes of what remains, and what remains then: nothing where none comes.
abbrev pub Counts : Remaining → Bool → Remaining → Type 0
Counts (Counted n) true left = (0 < n) × (left ≡ Counted (n - 1))
Counts (Counted n) false left = (n ≡ 0) × (left ≡ Counted 0)
Counts ToBreak true left = left ≡ ToBreak
Counts ToBreak false left = left ≡ Counted 0

-- The end of a collection of which so much remains. A break that ends it is taken; another part is
-- trailing data, of which one byte is taken where no count was declared.
unfoldable pub ended_at : Refusal → reader.Remaining → List ℕ → Reads (Unit {0})
ended_at why (reader.counted zero) bs = Ok (tt, bs)
ended_at why (reader.counted (suc n)) bs = Err (before trailing_data bs)
ended_at why reader.to_break [] = Err (record { why = why; left = 0 })
ended_at why reader.to_break (b ∷ bs) =
    if b == 0xff then Ok (tt, bs) else Err (before trailing_data bs)

-- ---- examples

-- 04 ff in the place of a break
item_for_break : ended_at end_in_array reader.to_break (0x04 ∷ 0xff ∷ [])
    ≡ Err (record { why = trailing_data; left = 1 })
unfolding ended_at
item_for_break = refl
