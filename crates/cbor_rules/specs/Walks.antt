-- What going through bytes answers.
use Rattle.std.specs.Prelude.{⊤, true, ◌≡◌, ◌+◌, ◌-◌, ◌<◌, ◌≤◌, ℕ, List, length, drop, Option}
use Rattle.std.specs.Prelude.{Some, None, Result, Ok, Err, IsErr}
use Rattle.cbor_model.specs.Head.{limit}
use Rattle.cbor_model.specs.Raw.{half, single, double}
use Rattle.cbor_model.specs.Reader.{number_behind, width_of}
use Rattle.cbor_value.specs.declared.Float.{Float}
use Rattle.cbor_value.specs.declared.Float.TheVariants.{Half, Single, Double}
use Rattle.cbor_rules.specs.Features.{Feature, float_bits}
use Rattle.cbor_rules.specs.Rules.{is_unique}
use Rattle.cbor_rules.specs.Walk as model
use Rattle.cbor_rules.specs.declared.settings.Rule.{Rule}
use Rattle.cbor_rules.specs.declared.settings.Rules.{Rules}
use Rattle.cbor_rules.specs.declared.walk.Walk.{Walk}
use Rattle.cbor_rules.specs.declared.walk.Walk.TheVariants.{Passed, Departed, Stopped, NoMemory}

-- the last n of the bytes
abbrev pub last : ℕ → List ℕ → List ℕ
last n bs = drop (length bs - n) bs

abbrev pub walk_view : List ℕ → Walk → model.Walk
walk_view bs (Passed left) = model.passed (last left bs)
walk_view bs (Departed rule left) = model.departed rule left
walk_view bs Stopped = model.stopped
walk_view bs NoMemory = model.stopped

-- memory didn't run out
abbrev pub HadMemory : Walk → Type 0
HadMemory NoMemory = ⊥
HadMemory _ = ⊤

abbrev pub IsDeparted : model.Walk → Type 0
IsDeparted (model.departed rule left) = ⊤
IsDeparted _ = ⊥

-- Memory runs out only where each value may be a key once and there is a key: where the model that
-- looks for any departs, with fuel for all of the bytes.
abbrev pub EndsForMemory : Rules → List ℕ → (ℕ → List ℕ → model.Walk) → Walk → Type 0
EndsForMemory rules bs go NoMemory =
    (is_unique rules.keys ≡ true) × ((fuel : ℕ) → length bs ≤ fuel → IsDeparted (go fuel bs))
EndsForMemory rules bs go _ = ⊤

-- no more than so many bytes are left
abbrev pub IsWithin : ℕ → Walk → Type 0
IsWithin n (Passed left) = left ≤ n
IsWithin n (Departed rule left) = left ≤ n
IsWithin n Stopped = ⊤
IsWithin n NoMemory = ⊤

-- The answer is that of the model, with fuel for all of the bytes, unless memory ran out.
abbrev pub Walks : List ℕ → (ℕ → List ℕ → model.Walk) → Walk → Type 0
Walks bs go r = HadMemory r → (fuel : ℕ) → length bs ≤ fuel → go fuel bs ≡ walk_view bs r

-- a number, and how many bytes are left after it
abbrev pub IsNumber : ℕ → List ℕ → ℕ × ℕ → Type 0
IsNumber low bs n =
    (low < 28) × (number_behind low bs ≡ Ok (n.0, last n.1 bs)) × (n.1 ≤ length bs)
    × (n.0 < limit (width_of low))

abbrev pub StopsNumber : ℕ → List ℕ → Type 0
StopsNumber low bs = IsErr (number_behind low bs)

-- a float as a feature
abbrev pub float_feature : Float → Feature
float_feature (Half bits) = float_bits half bits
float_feature (Single bits) = float_bits single bits
float_feature (Double bits) = float_bits double bits

-- It passes, or departs from the rule that is broken, with so many bytes left.
abbrev pub IsAfter : Option Rule → ℕ → Walk → Type 0
IsAfter None left r = r ≡ Passed left
IsAfter (Some rule) left r = r ≡ Departed rule left

-- What comes of a chunk: how many bytes the string has with it, and how many are left; or the
-- answer.
abbrev pub chunk_view : (ℕ → List ℕ → model.Walk) → List ℕ → Result (ℕ × ℕ) Walk → model.Walk
chunk_view go bs (Ok r) = go r.0 (last r.1 bs)
chunk_view go bs (Err w) = walk_view bs w

-- With a chunk as many bytes are counted as it has at the most.
abbrev pub IsChunkWithin : ℕ → ℕ → Result (ℕ × ℕ) Walk → Type 0
IsChunkWithin sum n (Ok r) = (r.0 + r.1 ≤ sum + n) × (r.1 ≤ n)
IsChunkWithin sum n (Err w) = IsWithin n w × HadMemory w
