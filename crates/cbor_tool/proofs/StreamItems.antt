-- What a stream gives, by the definitions.
use Rattle.std.proofs.Common.{◌≡◌, ◌⊎◌, ℕ, Bool, List, Ok, Err, inl, inr, subst}
use Rattle.serde_cbor.specs.Error.{code_of, offset_of}
use Rattle.serde_cbor.specs.Acceptable.{max_depth}
use Rattle.serde_cbor.specs.Formats.{Formats, all_formats}
use Rattle.serde_cbor.specs.Gives.{ReportsIo, Reports}
use Rattle.serde_cbor.specs.ItemTaken.{BeginsAsNone, ItemTaken, TookItem}
use Rattle.serde_cbor.specs.Raw.{Raw, AreBytes}
use Rattle.serde_cbor.specs.Readable.{Context}
use Rattle.serde_cbor.specs.Source.{Lends, reader_refusals}
use Rattle.serde_cbor.specs.Streams.{Stream, GivesError, GivesItem}
use Rattle.serde_cbor.specs.Takes.{ExcusedBy, lending}
use Rattle.serde_cbor.specs.declared.error.Error.{Error}

module _ {M : Type 0} (reads : Context → Raw → M → Type 0) (law : ItemTaken reads) (l : Lends) (s t : Stream)
    (rest : List ℕ) (deep : s.levels ≡ max_depth) (formats : s.formats ≡ all_formats) (reports : Reports s.input rest) (bytes : AreBytes rest) where
  pub item_given : (m : M) → GivesItem reader_refusals (λ f. reads (lending f l)) m s t
      → TookItem all_formats max_depth (reads (lending all_formats l)) s.input t.input rest m
  item_given m given =
      let took = law reader_refusals s.formats l s.levels s.input t.input rest (Ok m) reports bytes given.item in
      let as_deep = subst (λ (n : ℕ). TookItem s.formats n (reads (lending s.formats l)) s.input t.input rest m) deep took in
      subst (λ (f : Formats). TookItem f max_depth (reads (lending f l)) s.input t.input rest m) formats as_deep

  abbrev Why : Formats → ℕ → Error → Type 0
  Why f levels e = ExcusedBy (ReportsIo reader_refusals) (code_of e) (offset_of e) ⊎ BeginsAsNone f levels (reads (lending f l)) s.input rest

  pub error_given : (total : Bool) (e : Error) → GivesError reader_refusals (λ f. reads (lending f l)) total e s t → Why all_formats max_depth e
  error_given total e given =
      let why = law reader_refusals s.formats l s.levels s.input t.input rest (Err e) reports bytes (record {
        took = given.refused.took;
        reported = λ bs reported. elim (given.refused.reported bs reported) [ inl excused ↦ inl excused | inr none ↦ inr none.1 ];
      }) in
      subst (λ (f : Formats). Why f max_depth e) formats (subst (λ (n : ℕ). Why s.formats n e) deep why)
