-- What a text is read as that is lent or owned.
use Rattle.std.specs.Prelude.{◌≡◌, Bool, true, false}
use Rattle.std.specs.Cow.{cow_str_bytes}
use Rattle.std.specs.Global.{Global}
use Rattle.std.specs.declared.borrow.CowStr.{CowStr}
use Rattle.std.specs.declared.borrow.CowStr.TheVariants.{Borrowed, Owned}
use Rattle.cbor_model.specs.Raw.{Raw}
use Rattle.cbor_model.specs.Readable.{Context, IsText, is_lent}

abbrev pub is_borrowed : CowStr Global → Bool
is_borrowed (Borrowed s) = true
is_borrowed (Owned s) = false

-- the text, lent where the source lends it for the input's life
abbrev pub IsCowText : Context → Raw → CowStr Global → Type 0
IsCowText c r s = IsText r (cow_str_bytes s) × (is_borrowed s ≡ is_lent c r)
