-- What a `Value` stands for: a plain tree.
use Rattle.std.specs.FinMap.{FinMap}
use Rattle.std.specs.Prelude.{ℕ, List, [], ◌∷◌, map, string_bytes, box_value}
use Rattle.std.specs.Ordering.{ordering_then}
use Rattle.std.specs.declared.cmp.Ordering.{Ordering}
use Rattle.cbor_model.specs.Canonical.{IsOrdered}
use Rattle.cbor_model.specs.FiniteMap.{finite_map}
use Rattle.cbor_model.specs.Raw.{half, single, double}
use Rattle.cbor_model.specs.Order.{flat, val_cmp}
use Rattle.cbor_model.specs.Plain as plain
use Rattle.cbor_model.specs.Plain.{Val, Vals, no_vals, val, Pairs, no_pairs, pair}
use Rattle.cbor_value.specs.declared.Float.{Float}
use Rattle.cbor_value.specs.declared.Float.TheVariants.{Half, Single, Double}
use Rattle.cbor_value.specs.declared.Map.{Map, fold-Map}
use Rattle.cbor_value.specs.declared.Value.{Value, fold-Value}
use Rattle.cbor_value.specs.declared.Value.TheOpen.{Value-F, Map-F}

abbrev pub float_view : Float → Val
float_view (Half bits) = plain.float half bits
float_view (Single bits) = plain.float single bits
float_view (Double bits) = plain.float double bits

abbrev pub vals_of : List Val → Vals
vals_of [] = no_vals
vals_of (v ∷ vs) = val v (vals_of vs)

abbrev pub pairs_of : List (Val × Val) → Pairs
pairs_of [] = no_pairs
pairs_of (p ∷ ps) = pair p.0 p.1 (pairs_of ps)

-- one level, where what lies inside is a plain tree already
abbrev pub view_step : Value-F Val Pairs → Val
view_step Value-F.Null = plain.null
view_step (Value-F.Bool b) = plain.bool b
view_step (Value-F.Integer z) = plain.integer z
view_step (Value-F.Float f) = float_view f
view_step (Value-F.Bytes v) = plain.bytes v.items
view_step (Value-F.Text s) = plain.text (string_bytes s)
view_step (Value-F.Array v) = plain.array (vals_of v.items)
view_step (Value-F.Map m) = plain.map m
view_step (Value-F.Tag n b) = plain.tag n (box_value b)

abbrev pub map_step : Map-F Val Pairs → Pairs
map_step m = pairs_of m.pairs.items

abbrev pub view : Value → Val
view = fold-Value Val Pairs view_step map_step

-- the pairs of a map, in the order in which it lists them
abbrev pub map_view : Map → Pairs
map_view = fold-Map Val Pairs view_step map_step

abbrev pub views : List Value → Vals
views vs = vals_of (map view vs)

abbrev pub pair_views : List (Value × Value) → Pairs
pair_views ps = pairs_of (map (λ p. (view p.0, view p.1)) ps)

-- the finite map that a map's pairs list, where their keys ascend
abbrev pub map_of : Map → FinMap val_cmp Val
map_of m = finite_map (map_view m)

-- the keys of the map, and of each map in its keys and values, strictly ascend
abbrev pub IsMapOrdered : Map → Type 0
IsMapOrdered m = IsOrdered (plain.map (map_view m))

-- the maps in the pair's key and value list their keys in order
abbrev pub IsPairOrdered : Value × Value → Type 0
IsPairOrdered p = IsOrdered (view p.0) × IsOrdered (view p.1)

-- the list of numbers by which values are compared
unfoldable pub flat_of : Value → List ℕ
flat_of v = flat (view v)

unfoldable pub flat_of_float : Float → List ℕ
flat_of_float f = flat (float_view f)

-- the order of two pairs, by their keys and then by their values
abbrev pub pair_order : Value × Value → Value × Value → Ordering
pair_order p q = ordering_then (val_cmp (view p.0) (view q.0)) (val_cmp (view p.1) (view q.1))
