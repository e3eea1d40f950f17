-- What is written of a time is read as that time.
use Rattle.std.proofs.Common.{◌≡◌, ◌∙◌, ◌-◌, ◌^◌, Bool, pos, negsuc, refl, ap, sym}
use Rattle.cbor_model.specs.Document.{integer, raw_of, document_of}
use Rattle.cbor_model.specs.Plain as plain
use Rattle.cbor_model.specs.Plain.{Val}
use Rattle.cbor_model.specs.Readable.{IsWithin}
use Rattle.cbor_model.specs.Value.{value}
use Rattle.cbor_value.specs.declared.Float.TheVariants.{Half, Single, Double}
use Rattle.cbor_round_trip.specs.ReadBack.{IsReadBack}
use Rattle.cbor_tags.specs.declared.time.EpochTime.{EpochTime}
use Rattle.cbor_tags.specs.declared.time.EpochTime.TheVariants.{Seconds, Float}
use Rattle.cbor_tags.specs.Times.{IsSeconds, seconds_document}

-- an `i64` lies in its range
abbrev pub HasRange : EpochTime → Type 0
HasRange (Seconds s) = IsWithin (2 ^ 63 - 1) s
HasRange (Float f) = Unit {0}

itself : (t : EpochTime) → HasRange t → (p g : Bool) → IsSeconds (value (raw_of (seconds_document t) p g)) t
unfolding raw_of document_of value
itself (Seconds (pos n)) fit p g = (refl, fit)
itself (Seconds (negsuc n)) fit p g = (refl, fit)
itself (Float (Half bits)) fit p g = refl
itself (Float (Single bits)) fit p g = refl
itself (Float (Double bits)) fit p g = refl

-- a value is one number of seconds at the most, as it is written
one_time : (v : Val) (t u : EpochTime) → IsSeconds v t → IsSeconds v u → seconds_document t ≡ seconds_document u
one_time (plain.integer z) (Seconds s) (Seconds r) h k = ap integer (sym h.0 ∙ k.0)
one_time (plain.integer z) (Seconds s) (Float f) h k = absurd k
one_time (plain.integer z) (Float f) u h k = absurd h
one_time (plain.float w bits) (Float f) (Float e) h k = ap document_of (h ∙ sym k)
one_time (plain.float w bits) (Float f) (Seconds s) h k = absurd k
one_time (plain.float w bits) (Seconds s) u h k = absurd h
one_time _ t u h k = absurd h

pub seconds_back : IsReadBack seconds_document (λ c r t. IsSeconds (value r) t) HasRange (Unit {0})
seconds_back = record {
  itself = λ t fit l p g. itself t fit p g;
  alone = λ t u fit l p g h. one_time (value (raw_of (seconds_document t) p g)) u t h (itself t fit p g);
  single = λ d c r t u h k. one_time (value r) t u h k;
}
