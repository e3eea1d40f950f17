-- What a document means.
use Rattle.std.specs.Prelude.{◌≡◌, false, Result, IfOk, OnOk, IfErr}
use Rattle.cbor_model.specs.Plain.{Val, Vals}
use Rattle.cbor_model.specs.Value.{value, values}
use Rattle.cbor_model.specs.Document.{Doc, Docs, raw_of, raws_of, IsStorableDocument}
use Rattle.cbor_io.specs.declared.error.Error.{Error}
use Rattle.cbor_ser.specs.Written.{IsNotWritten}
use Rattle.cbor_value.specs.declared.Value.{Value}
use Rattle.cbor_value.specs.View.{view}

-- The value of a document: that of its item, where fields and variants have their names and enums
-- are in the map form.
unfoldable pub value_of : Doc → Val
value_of d = value (raw_of d false false)

unfoldable pub values_of : Docs → Vals
values_of ds = values (raws_of ds false false)

-- Ok is the document's value, and an Err reports that it isn't storable, or that memory ran out.
pub record Makes (d : Doc) (result : Result Value Error) : Type 0 where
  pub made : IfOk result (λ v. view v ≡ value_of d)
  pub storable : OnOk result (IsStorableDocument d)
  pub refused : IfErr result (IsNotWritten (IsStorableDocument d))
