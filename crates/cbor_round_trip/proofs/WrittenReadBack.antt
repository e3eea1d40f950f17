-- What is written of a value whose item is read back.
use Rattle.std.proofs.Common.{◌≡◌, ◌≤◌, Bool, refl, sym, subst, ◌∙◌, arith, []}
use Rattle.std.proofs.lemmas.List.{append-nil}
use Rattle.cbor_model.specs.Document.{Doc, raw_of, document_bytes, IsStorableDocument, IsDocumentInRange}
use Rattle.cbor_model.specs.Acceptable.{IsAcceptableWithin, max_depth}
use Rattle.cbor_model.specs.Formats.{Formats, all_formats}
use Rattle.cbor_model.specs.Raw.{Raw, depth}
use Rattle.cbor_model.specs.Readable.{Context, SpellsAs}
use Rattle.cbor_model.specs.Spelling.{spell}
use Rattle.cbor_model.proofs.facts.Laws.{document_is_acceptable, one_spelling}
use Rattle.cbor_model.proofs.facts.Reader.{all_allowed}
use Rattle.cbor_read.specs.Source.{Lends}
use Rattle.cbor_decode_as.specs.Takes.{lending}
use Rattle.cbor_round_trip.specs.ReadBack.{IsReadBack, IsWrittenReadBack, ReadsOneValue}

module _ {A : Type 0} (document : A → Doc) (reads : Context → Raw → A → Type 0) (fits : A → Type 0) (determined : Type 0) (law : IsReadBack document reads fits determined) where
  spelled : (x : A) → fits x → (l : Lends) (p g : Bool) → IsStorableDocument (document x) → IsDocumentInRange (document x)
      → depth (raw_of (document x) p g) ≤ max_depth
      → SpellsAs all_formats (reads (lending all_formats l)) (document_bytes (document x) p g) x
  unfolding document_bytes
  spelled x fit l p g stored range nests = record {
    item = raw_of (document x) p g;
    acceptable = document_is_acceptable max_depth (document x) p g stored range nests;
    keys = all_allowed (raw_of (document x) p g);
    spelled = refl;
    means = law.itself x fit l p g;
  }

  -- the bytes spell that item alone
  item_is : (d : Doc) (p g : Bool) (r : Raw) → IsStorableDocument d → IsDocumentInRange d
      → IsAcceptableWithin max_depth r → spell r ≡ document_bytes d p g → r ≡ raw_of d p g
  unfolding document_bytes
  item_is d p g r stored range good same =
      let written = document_is_acceptable (depth (raw_of d p g)) d p g stored range (omega arith) in
      (one_spelling r (raw_of d p g) [] good.fits written.fits (append-nil (spell r) ∙ same)).0

  alone : (x y : A) → fits x → (l : Lends) (p g : Bool) → IsStorableDocument (document x) → IsDocumentInRange (document x)
      → SpellsAs all_formats (reads (lending all_formats l)) (document_bytes (document x) p g) y → document y ≡ document x
  alone x y fit l p g stored range reported =
      let same = item_is (document x) p g reported.item stored range reported.acceptable reported.spelled in
      law.alone x y fit l p g (subst (λ (r : Raw). reads (lending all_formats l) r y) same reported.means)

  pub written : IsWrittenReadBack document reads fits
  written = record { itself = spelled; alone = alone }

  -- two readings of one input are of one item, which is read as one value
  pub one_value : ((f : Formats) (a b : Lends) (r : Raw) (x : A) → reads (lending f a) r x → reads (lending f b) r x)
      → ReadsOneValue document reads determined
  one_value same d a b bytes x y one other =
      let item = (one_spelling one.item other.item [] one.acceptable.fits other.acceptable.fits (append-nil _ ∙ one.spelled ∙ sym other.spelled)).0 in
      law.single d (lending all_formats b) other.item x y
      (subst (λ (r : Raw). reads (lending all_formats b) r x) item (same all_formats a b one.item x one.means)) other.means
