-- An item whose bytes were taken is read as them.
use Rattle.std.proofs.Common.{◌≡◌, ◌∙◌, ◌+◌, ◌<◌, ◌^◌, ℕ, List, [], ◌++◌, length, take, Option, None, refl, sym, ap, arith, append-nil}
use Rattle.std.proofs.lemmas.List.{length-append, nil_from_length}
use Rattle.std.proofs.Math.Seq.{take-append_seam}
use Rattle.cbor_model.specs.Acceptable.{FitsScratch, IsAcceptableWithin}
use Rattle.cbor_model.specs.Encoding.{IsEncoding}
use Rattle.cbor_model.specs.Formats.{Formats, all_formats, HasAllowedKeys}
use Rattle.cbor_model.specs.Raw.{Raw, AreBytes}
use Rattle.cbor_model.specs.RawReader.{Begins, raws_in}
use Rattle.cbor_model.specs.Reader.{item_at}
use Rattle.cbor_model.specs.Spelling.{spell}
use Rattle.cbor_model.proofs.facts.Reader.{all_allowed, is_encoding, item_again, ok_is, taken}
use Rattle.cbor_read.specs.Source.{Input, TookKept}
use Rattle.cbor_decode.specs.Gives.{Limits, Step, limits}
use Rattle.cbor_decode.proofs.facts.Steps.{taken_step}
use Rattle.cbor_decode_as.specs.RawItems.{NoneWithin, StandsWithin}
use Rattle.cbor_decode_as.specs.Takes.{IsNotRead, IsRead, raws}
use Rattle.cbor_pushed.specs.ItemAtFront.{HasItem}
use Rattle.cbor_raw.specs.Gathered.{IsBytesOf, ReadsNone}
use Rattle.cbor_raw.proofs.NotReadFurther.{none_within_behind}

module _ (levels : ℕ) (item : Raw) (good : IsAcceptableWithin levels item) where
  abbrev bytes : List ℕ
  bytes = spell item

  -- an item is a byte long at the least
  pub some_bytes : length bytes < 2 ^ 64 → 0 < length bytes
  some_bytes short =
      let read = item_again all_formats (length bytes) None levels bytes [] item short (omega arith) tt (record { spelled = sym (append-nil bytes); acceptable = good }) (all_allowed item) in
      omega (arith, taken (raws_in all_formats (length bytes) None) levels bytes (item, []) read)

  pub part_encodes : (part : List ℕ) → part ≡ bytes → length part < 2 ^ 64 → IsEncoding part
  part_encodes part is short = is_encoding part item short (record { spelled = sym is; fits = good.fits; texts = good.texts })

  module _ (f : Formats) (s t : Input) (part : List ℕ) (took : TookKept s t part) (is : part ≡ bytes) (keys : HasAllowedKeys f item) (joins : FitsScratch s.room item) where
    pub kept_step : Step s t (λ l bs rest. IsRead IsBytesOf (item_at (raws f l) levels bs) part rest)
    kept_step =
        let step = taken_step s t part took.bytes took.count took.room in
        record {
          took = step.took;
          reported = λ bs given.
              let one = step.reported bs given in
              let l = limits s bs in
              record {
                rest = one.rest;
                reports = one.reports;
                total = one.total;
                holds = record {
                  item = item;
                  is = item_again f l.total l.room levels bs one.rest item given.short (omega arith) joins (record { spelled = one.holds ∙ ap (λ (p : List ℕ). p ++ one.rest) is; acceptable = good }) keys;
                  means = record { spelled = sym is; fits = good.fits; texts = good.texts };
                };
              };
        }

-- what is at hand up to the item's end
pub front_is : (f : Formats) (levels : ℕ) (room : Option ℕ) (hand : List ℕ) (n : ℕ) → (there : StandsWithin f levels room hand n) → take n hand ≡ spell there.item
front_is f levels room hand n there =
    let begins = there.begins in
    ap (take n) begins.spelled ∙ ap (λ (k : ℕ). take k (spell there.item ++ there.rest)) there.ends ∙ take-append_seam (spell there.item) there.rest

-- bytes that an item takes up
module _ (levels : ℕ) (bytes : List ℕ) (short : length bytes < 2 ^ 64) (has : HasItem levels bytes (length bytes)) where
  pub alone_begins : Begins levels bytes has.item []
  alone_begins =
      let begins = has.begins in
      let nothing : has.rest ≡ [] = nil_from_length has.rest (omega (arith, has.ends, ap length begins.spelled, length-append (spell has.item) has.rest)) in
      record { spelled = begins.spelled ∙ ap (λ (l : List ℕ). spell has.item ++ l) nothing; acceptable = begins.acceptable }

  -- are those of the item that stands there
  pub whole_is : (f : Formats) (room : Option ℕ) (end : ℕ) → (there : StandsWithin f levels room bytes end) → bytes ≡ spell there.item
  whole_is f room end there =
      let one = item_again all_formats (length bytes) None levels bytes [] has.item short (omega arith) tt alone_begins (all_allowed has.item) in
      let other = item_again all_formats (length bytes) None levels bytes there.rest there.item short (omega arith) tt there.begins (all_allowed there.item) in
      let same = ok_is (has.item, []) (there.item, there.rest) (sym one ∙ other) in
      alone_begins.spelled ∙ append-nil (spell has.item) ∙ ap (λ (p : Raw × List ℕ). spell p.0) same

  -- where none of these formats stands there, or none whose chunks fit, none is read
  pub none_gathered : (f : Formats) (s : Input) → AreBytes bytes → NoneWithin f levels s.room bytes → (rest : List ℕ) → s.offset + length (bytes ++ rest) < 2 ^ 64
      → IsNotRead IsBytesOf (item_at (raws f (limits s (bytes ++ rest))) levels (bytes ++ rest))
  none_gathered f s fits none rest counted x left got =
      none_within_behind f levels s.room bytes fits none has.item alone_begins s.offset (s.offset + length (bytes ++ rest)) rest refl counted got.item left got.is

-- where nothing is read as an item, none is read as its bytes
pub unread_bytes : (f : Formats) (levels : ℕ) (l : Limits) (bs : List ℕ) → ReadsNone levels l bs → IsNotRead IsBytesOf (item_at (raws f l) levels bs)
unread_bytes f levels l bs none x rest got = none f l.room got.item rest got.is
