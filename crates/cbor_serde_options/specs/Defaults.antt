-- What is encoded and read where nothing else is chosen.
use Rattle.std.specs.Prelude.{false}
use Rattle.cbor_serde_options.specs.declared.options.Options.{Options}

-- fields by their names, structs as maps, floats in their own width, and 127 levels
abbrev pub default_options : Options
default_options = record { integer_keys = false; structs_as_arrays = false; shortest_floats = false; levels = 127 }
