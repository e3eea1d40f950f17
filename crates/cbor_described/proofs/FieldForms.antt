-- What is reported of a wrong form, of the values of fields.
use Rattle.std.proofs.Common.{◌⊎◌, IfErr, Result, Ok, Err, inl, inr}
use Rattle.cbor_model.specs.Formats.{Formats}
use Rattle.cbor_io.specs.declared.error.Error.{Error}
use Rattle.cbor_read.specs.Source.{Input}
use Rattle.cbor_de.specs.Forms.{WrongForms, never, reported, any_of, MayReport}
use Rattle.cbor_de.proofs.facts.Forms.{of_left, of_right}

-- of the first field
pub of_first : {A : Type 0} (a b c : WrongForms) (f : Formats) (s : Input) (r : Result A Error) → IfErr r (MayReport b f s) → IfErr r (MayReport (any_of a (any_of b c)) f s)
of_first a b c f s (Ok x) h = h
of_first a b c f s (Err e) h = of_right a (any_of b c) f s e (of_left b c f s e h)

more : {A B C : Type 0} → A ⊎ C → A ⊎ (B ⊎ C)
more (inl a) = inl a
more (inr c) = inr (inr c)

-- of the others, or of an item that no field is made of
one_more : (a b c : WrongForms) (f : Formats) (s : Input) (e : Error) → MayReport (any_of a c) f s e → MayReport (any_of a (any_of b c)) f s e
one_more never b c f s e h = of_right b c f s e h
one_more (reported P) never c f s e h = h
one_more (reported P) (reported Q) never f s e h = of_left (reported P) (reported Q) f s e h
one_more (reported P) (reported Q) (reported R) f s e (inl h) = inl h
one_more (reported P) (reported Q) (reported R) f s e (inr r) = inr (record { place = r.place; took = r.took; holds = more r.holds })

pub of_others : {A : Type 0} (a b c : WrongForms) (f : Formats) (s : Input) (r : Result A Error) → IfErr r (MayReport (any_of a c) f s) → IfErr r (MayReport (any_of a (any_of b c)) f s)
of_others a b c f s (Ok x) h = h
of_others a b c f s (Err e) h = one_more a b c f s e h
