-- What a map ends as, once a `&mut` into it has ended.
use Rattle.std.specs.Prelude.{◌≡◌, Option, OnSome}
use Rattle.std.specs.Borrow.{Fml, MutBor, LendsSo}
use Rattle.cbor_model.specs.Canonical.{KeysAscend}
use Rattle.cbor_model.specs.Plain.{Val}
use Rattle.cbor_model.specs.Value.{put}
use Rattle.cbor_value.specs.declared.Map.{Map}
use Rattle.cbor_value.specs.declared.Value.{Value}
use Rattle.cbor_value.specs.Rows.{map_row, value_row}
use Rattle.cbor_value.specs.View.{view, map_view}

-- the map has the last value written through r under the key, and else what it had; at `None` it
-- stays as it is
abbrev pub LendsValue : MutBor Map → Val → Option (MutBor Value) → Fml
LendsValue m k r = LendsSo map_row value_row m r
    (λ n w. KeysAscend (map_view m.now)
    → OnSome r (map_view n ≡ put k (view w) (map_view m.now)))
    (λ n. n ≡ m.now)
