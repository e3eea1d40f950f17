-- What going through bytes answers.
use Rattle.std.specs.Prelude.{⊤, ◌≡◌, ◌-◌, ◌<◌, ◌≤◌, ℕ, List, length, drop, Option, Some, None, Ok}
use Rattle.std.specs.Prelude.{IsErr}
use Rattle.cbor_model.specs.Reader.{number_behind}
use Rattle.cbor_strict.specs.Departure.{ShowsDeparture}
use Rattle.cbor_strict.specs.Strict.{IsFirstShown}
use Rattle.cbor_strict.specs.Walk as model
use Rattle.cbor_strict.specs.declared.walk.Walk.{Walk}
use Rattle.cbor_strict.specs.declared.walk.Walk.TheVariants.{Passed, Departed, Stopped}

-- the last n of the bytes
abbrev pub last : ℕ → List ℕ → List ℕ
last n bs = drop (length bs - n) bs

abbrev pub walk_view : List ℕ → Walk → model.Walk
walk_view bs (Passed left) = model.passed (last left bs)
walk_view bs (Departed left) = model.departed left
walk_view bs Stopped = model.stopped

-- no more than so many bytes are left
abbrev pub IsWithin : ℕ → Walk → Type 0
IsWithin n (Passed left) = left ≤ n
IsWithin n (Departed left) = left ≤ n
IsWithin n Stopped = ⊤

-- The answer is that of the model, with fuel for all of the bytes.
abbrev pub Walks : List ℕ → (ℕ → List ℕ → model.Walk) → Walk → Type 0
Walks bs go r = (fuel : ℕ) → length bs ≤ fuel → go fuel bs ≡ walk_view bs r

-- a number, and how many bytes are left after it
abbrev pub IsNumber : ℕ → List ℕ → ℕ × ℕ → Type 0
IsNumber low bs n = (low < 28) × (number_behind low bs ≡ Ok (n.0, last n.1 bs)) × (n.1 ≤ length bs)

abbrev pub StopsNumber : ℕ → List ℕ → Type 0
StopsNumber low bs = IsErr (number_behind low bs)

-- The first offset at which the bytes show a departure; or none does.
abbrev pub ReportsDeparture : List ℕ → Option ℕ → Type 0
ReportsDeparture bs (Some j) = IsFirstShown bs j
ReportsDeparture bs None = (j : ℕ) → ShowsDeparture bs j → ⊥
