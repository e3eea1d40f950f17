-- How deep documents nest.
use Rattle.std.specs.Prelude.{◌≤◌, ℕ, Bool}
use Rattle.cbor_model.specs.Document.{Doc, Docs, Fields, raw_of, raws_of, raw_fields_of}
use Rattle.cbor_model.specs.Raw.{depth, depth_all, depth_pairs}

-- Under each of the writer's settings the document's item nests so many levels at most.
abbrev pub NestsWithin : ℕ → Doc → Type 0
NestsWithin n d = (packed legacy : Bool) → depth (raw_of d packed legacy) ≤ n

-- Each of the items does.
abbrev pub ItemsNestWithin : ℕ → Docs → Type 0
ItemsNestWithin n ds = (packed legacy : Bool) → depth_all (raws_of ds packed legacy) ≤ n

-- Each of the fields does.
abbrev pub FieldsNestWithin : ℕ → Fields → Type 0
FieldsNestWithin n fs = (packed legacy : Bool) → depth_pairs (raw_fields_of fs packed legacy) ≤ n
