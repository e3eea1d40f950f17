-- What lists of values stand for.
use Rattle.std.proofs.Common.{◌≡◌, suc, List, [], ◌∷◌, length, refl, ap, ◌∙◌, rules}
use Rattle.std.specs.Prelude.{String, Vec, Box, ℕ}
use Rattle.std.specs.Global.{Global}
use Rattle.std.specs.String.{string_bytes}
use Rattle.cbor_model.specs.Plain.{text, bytes, array, map, tag, count, pair_count}
use Rattle.cbor_value.specs.declared.Map.{Map, out-Map}
use Rattle.cbor_value.specs.declared.Value.{Value, Text, Bytes, Array, Tag, the_lemmas}
use Rattle.cbor_value.specs.declared.Value.{Map as of_map}
use Rattle.cbor_value.specs.View.{view, map_view, views, pair_views}

pub count_views : (vs : List Value) → count (views vs) ≡ length vs
count_views [] = refl
count_views (v ∷ vs) = ap suc (count_views vs)

pub pair_count_pair_views : (ps : List (Value × Value)) → pair_count (pair_views ps) ≡ length ps
pair_count_pair_views [] = refl
pair_count_pair_views (p ∷ ps) = ap suc (pair_count_pair_views ps)

pub map_view_is : (m : Map) → map_view m ≡ pair_views (out-Map m).pairs.items
map_view_is m = search (rules, the_lemmas)

pub pair_count_map_view : (m : Map) → pair_count (map_view m) ≡ length (out-Map m).pairs.items
pair_count_map_view m = ap pair_count (map_view_is m) ∙ pair_count_pair_views (out-Map m).pairs.items

pub view_bytes : (b : Vec ℕ Global) → view (Bytes b) ≡ bytes b.items
view_bytes b = search (rules, the_lemmas)

pub view_array : (vs : Vec Value Global) → view (Array vs) ≡ array (views vs.items)
view_array vs = search (rules, the_lemmas)

pub view_map : (m : Map) → view (of_map m) ≡ map (map_view m)
view_map m = search (rules, the_lemmas)

pub view_tag : (n : ℕ) (b : Box Value Global) → view (Tag n b) ≡ tag n (view b.value)
view_tag n b = search (rules, the_lemmas)

pub view_text : (s : String Global) → view (Text s) ≡ text (string_bytes s)
view_text s = search (rules, the_lemmas)
