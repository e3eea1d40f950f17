-- What is written is read back.
use Rattle.std.proofs.Common.{◌≡◌, ◌≤◌, ◌∙◌, ℕ, Bool, List, sym, subst}
use Rattle.std.specs.Prelude.{◌↔◌}
use Rattle.cbor_model.specs.Acceptable.{max_depth}
use Rattle.cbor_model.specs.Document.{Doc, raw_of, document_bytes, IsStorableDocument}
use Rattle.cbor_model.specs.Document.{IsDocumentInRange}
use Rattle.cbor_model.specs.Formats.{all_formats}
use Rattle.cbor_model.specs.Raw.{Raw, depth}
use Rattle.cbor_model.specs.Readable.{Context, SpellsAs}
use Rattle.cbor_read.specs.Source.{Lends}
use Rattle.cbor_decode_as.specs.Takes.{lending}

-- The item of a value's document is read as that value, and as no value of another document: under
-- each of the writer's settings, in all formats, whatever the source lends. And where the defaults of
-- absent fields are determined, any item is read as values of one document.
pub record IsReadBack {A : Type 0} (document : A → Doc) (reads : Context → Raw → A → Type 0) (fits : A → Type 0) (determined : Type 0) : Type 0 where
  pub itself : (x : A) → fits x → (l : Lends) (packed legacy : Bool)
      → reads (lending all_formats l) (raw_of (document x) packed legacy) x
  pub alone : (x y : A) → fits x → (l : Lends) (packed legacy : Bool)
      → reads (lending all_formats l) (raw_of (document x) packed legacy) y
      → document y ≡ document x
  pub single : determined → (c : Context) (r : Raw) (x y : A) → reads c r x → reads c r y
      → document x ≡ document y

-- What the bytes are read as that are written of a value. They are read where they nest no deeper than
-- what is read.
pub record IsWrittenReadBack {A : Type 0} (document : A → Doc) (reads : Context → Raw → A → Type 0) (fits : A → Type 0) : Type 0 where
  pub itself : (x : A) → fits x → (l : Lends) (packed legacy : Bool)
      → IsStorableDocument (document x) → IsDocumentInRange (document x)
      → depth (raw_of (document x) packed legacy) ≤ max_depth
      → SpellsAs all_formats (reads (lending all_formats l)) (document_bytes (document x) packed legacy) x
  pub alone : (x y : A) → fits x → (l : Lends) (packed legacy : Bool)
      → IsStorableDocument (document x) → IsDocumentInRange (document x)
      → SpellsAs all_formats (reads (lending all_formats l)) (document_bytes (document x) packed legacy) y
      → document y ≡ document x

-- What is written and read as a part of it is read back as the part is.
pub by_part : {A B : Type 0} (part : B → A) {document : A → Doc} {reads : Context → Raw → A → Type 0} {fits : A → Type 0} {determined : Type 0}
    → IsReadBack document reads fits determined
    → IsReadBack (λ x. document (part x)) (λ c r x. reads c r (part x)) (λ x. fits (part x)) determined
by_part part law = record {
  itself = λ x fit l p g. law.itself (part x) fit l p g;
  alone = λ x y fit l p g h. law.alone (part x) (part y) fit l p g h;
  single = λ d c r x y h k. law.single d c r (part x) (part y) h k;
}

-- Where more is asked of a value, it is read back too.
pub asking_more : {A : Type 0} {document : A → Doc} {reads : Context → Raw → A → Type 0} {fits more : A → Type 0} {determined : Type 0}
    → ((x : A) → more x → fits x) → IsReadBack document reads fits determined → IsReadBack document reads more determined
asking_more less law = record {
  itself = λ x fit l p g. law.itself x (less x fit) l p g;
  alone = λ x y fit l p g h. law.alone x y (less x fit) l p g h;
  single = law.single;
}

-- Where more is asked of defaults, it is read back too.
pub where_determined : {A : Type 0} {document : A → Doc} {reads : Context → Raw → A → Type 0} {fits : A → Type 0} {determined more : Type 0}
    → (more → determined) → IsReadBack document reads fits determined → IsReadBack document reads fits more
where_determined less law = record {
  itself = law.itself;
  alone = law.alone;
  single = λ d. law.single (less d);
}

-- What is written and read as something that is read back is so too.
pub as_alike : {A : Type 0} {document document' : A → Doc} {reads reads' : Context → Raw → A → Type 0} {fits : A → Type 0} {determined : Type 0}
    → ((x : A) → document x ≡ document' x)
    → ((c : Context) (r : Raw) (x : A) → reads c r x ↔ reads' c r x)
    → IsReadBack document' reads' fits determined → IsReadBack document reads fits determined
as_alike {document = document} {reads' = reads'} same alike law = record {
  itself = λ x fit l p g.
      let c = lending all_formats l in
      (alike c (raw_of (document x) p g) x).1 (subst (λ (d : Doc). reads' c (raw_of d p g) x) (sym (same x)) (law.itself x fit l p g));
  alone = λ x y fit l p g h.
      let c = lending all_formats l in
      let reported = (alike c (raw_of (document x) p g) y).0 h in
      same y ∙ law.alone x y fit l p g (subst (λ (d : Doc). reads' c (raw_of d p g) y) (same x) reported) ∙ sym (same x);
  single = λ d c r x y h k. same x ∙ law.single d c r x y ((alike c r x).0 h) ((alike c r y).0 k) ∙ sym (same y);
}

-- ---- one value

-- Two readings of one input, by sources that lend this and that, are values of one document, where the
-- defaults of absent fields are determined: so a type reads an item as one value.
abbrev pub ReadsOneValue : {A : Type 0} → (A → Doc) → (Context → Raw → A → Type 0) → Type 0 → Type 0
ReadsOneValue {A} document reads determined = determined → (a b : Lends) (bytes : List ℕ) (x y : A)
    → SpellsAs all_formats (reads (lending all_formats a)) bytes x
    → SpellsAs all_formats (reads (lending all_formats b)) bytes y
    → document x ≡ document y
