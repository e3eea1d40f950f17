-- What is within tag 1 (RFC 8949, section 3.4.2).
use Rattle.std.specs.Prelude.{◌≡◌, ◌-◌, ◌^◌, refl}
use Rattle.cbor_model.specs.Document as doc
use Rattle.cbor_model.specs.Document.{Doc, document_of}
use Rattle.cbor_model.specs.Plain.{Val, integer, float}
use Rattle.cbor_model.specs.Raw.{double}
use Rattle.cbor_model.specs.Readable.{IsWithin}
use Rattle.cbor_value.specs.View.{float_view}
use Rattle.cbor_value.specs.declared.Float.TheVariants.{Double}
use Rattle.cbor_tags.specs.declared.time.EpochTime.{EpochTime}
use Rattle.cbor_tags.specs.declared.time.EpochTime.TheVariants.{Seconds, Float}

-- Seconds are an integer that 64 bits hold, or a float, in its width and with its bits.
abbrev pub IsSeconds : Val → EpochTime → Type 0
IsSeconds (integer z) (Seconds s) = (z ≡ s) × IsWithin (2 ^ 63 - 1) z
IsSeconds (float w bits) (Float f) = float_view f ≡ float w bits
IsSeconds _ _ = ⊥

-- what they are written as
abbrev pub seconds_document : EpochTime → Doc
seconds_document (Seconds s) = doc.integer s
seconds_document (Float f) = document_of (float_view f)

-- 1363896240.5 (Appendix A)
with_parts : IsSeconds (float double 0x41d452d9ec200000) (Float (Double 0x41d452d9ec200000))
with_parts = refl
