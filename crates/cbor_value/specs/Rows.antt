-- The types that a `Value` holds, as the logic holds them, for the clauses on what a `&mut` lends.
use denote.RattleType.{RattleType}
use Rattle.std.specs.Borrow.{u8}
use Rattle.std.specs.contracts.alloc.Global as global
use Rattle.std.specs.contracts.vec.Vec as vec
use Rattle.std.specs.contracts.string.String as text
use Rattle.std.specs.contracts.impls.GlobalAllocator.TheImpl.{ghosts}
use Rattle.cbor_value.specs.contracts.Value as value
use Rattle.cbor_value.specs.contracts.Map as map

abbrev pub value_row : RattleType
value_row = value.the_row

abbrev pub map_row : RattleType
map_row = map.the_row

abbrev pub array_row : RattleType
array_row = vec.the_row value.the_row global.the_row ghosts

abbrev pub bytes_row : RattleType
bytes_row = vec.the_row u8 global.the_row ghosts

abbrev pub text_row : RattleType
text_row = text.the_row global.the_row ghosts
