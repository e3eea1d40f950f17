-- What may be absent.
use Rattle.std.specs.Prelude.{Option, Some, None}
use Rattle.cbor_model.specs.Raw.{Raw}
use Rattle.cbor_model.specs.Readable.{IsOptional}

-- what is read as x is read so wherever the same is read as its content
pub same_optional : {A : Type 0} (reads reads' : Raw → A → Type 0)
    → ((r : Raw) (y : A) → reads r y → reads' r y)
    → (r : Raw) (x : Option A) → IsOptional reads r x → IsOptional reads' r x
same_optional reads reads' same r None is = is
same_optional reads reads' same r (Some y) is = (is.0, same r y is.1)
