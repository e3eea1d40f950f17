-- The parts of structs and variants, as values.
use Rattle.std.specs.Prelude.{Option}
use Rattle.cbor_parts.specs.declared.Optional.{Optional}
use Rattle.cbor_parts.specs.declared.OrDefault.{OrDefault}
use Rattle.cbor_parts.specs.declared.Newtype.{Newtype}
use Rattle.cbor_parts.specs.declared.Tuple.{Tuple}
use Rattle.cbor_parts.specs.declared.Struct.{Struct}
use Rattle.cbor_parts.specs.declared.Labelled.{Labelled}

-- the one part of a variant
abbrev pub newtype : {A : Type 0} → A → Newtype A
newtype x = record { 0 = x }

-- the parts of a variant of several
abbrev pub tuple : {F : Type 0} → F → Tuple F
tuple xs = record { 0 = xs }

-- the named fields of a variant
abbrev pub structure : {N F : Type 0} → F → Struct N F
structure xs = record { 0 = xs }

-- the fields of a struct whose keys are labels
abbrev pub under_labels : {L F : Type 0} → F → Labelled L F
under_labels xs = record { 0 = xs }

-- a field that may be absent
abbrev pub optional : {A : Type 0} → Option A → Optional A
optional x = record { 0 = x }

-- a field that is the default where it is absent
abbrev pub or_default : {A : Type 0} → A → OrDefault A
or_default x = record { 0 = x }
