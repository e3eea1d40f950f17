-- What is made of what was read.
use Rattle.std.proofs.Common.{ℕ, Bool, Result, Ok, Err, Vec, Global}
use Rattle.cbor_model.specs.Formats.{Formats}
use Rattle.cbor_model.specs.Raw as raw
use Rattle.cbor_model.specs.Raw.{Raw, Raws}
use Rattle.cbor_model.specs.Readable.{PassesTags, untagged}
use Rattle.cbor_model.specs.Reader.{item_at}
use Rattle.cbor_io.specs.Error.{code_of, offset_of}
use Rattle.cbor_io.specs.declared.error.Error.{Error}
use Rattle.cbor_io.specs.declared.read_error.ReadErrorCode.{ReadErrorCode}
use Rattle.cbor_read.specs.Source.{Input}
use Rattle.cbor_decode.proofs.facts.Steps.{step_map}
use Rattle.cbor_decode_as.specs.Arrays.{AsArray, AreRead, items_in}
use Rattle.cbor_decode_as.specs.Takes.{TakesItem, IsRead, IsNotRead, raws}
use Rattle.cbor_decode_as.proofs.facts.Readings.{refuses_map}

-- what items are read as, made into another value
pub as_array : {A B : Type 0} (one : Raws → A → Type 0) (two : Raws → B → Type 0) (x : A) (y : B) → ((rs : Raws) → one rs x → two rs y)
    → (r : Raw) → AsArray one r x → AsArray two r y
as_array one two x y on (raw.unsigned w n) h = h
as_array one two x y on (raw.negative w n) h = h
as_array one two x y on (raw.bytes c) h = h
as_array one two x y on (raw.text c) h = h
as_array one two x y on (raw.bytes_chunks cs) h = h
as_array one two x y on (raw.text_chunks cs) h = h
as_array one two x y on (raw.array l rs) h = on rs h
as_array one two x y on (raw.map l ps) h = h
as_array one two x y on (raw.tag w n r) h = h
as_array one two x y on (raw.simple s) h = h
as_array one two x y on (raw.float w bits) h = h

-- where items are read as y, they are read as an x too
pub in_array : {A B : Type 0} (one : Raws → A → Type 0) (two : Raws → B → Type 0) (y : B) → ((rs : Raws) → two rs y → (x : A) × one rs x)
    → (r : Raw) → AsArray two r y → (x : A) × AsArray one r x
in_array one two y of (raw.unsigned w n) h = absurd h
in_array one two y of (raw.negative w n) h = absurd h
in_array one two y of (raw.bytes c) h = absurd h
in_array one two y of (raw.text c) h = absurd h
in_array one two y of (raw.bytes_chunks cs) h = absurd h
in_array one two y of (raw.text_chunks cs) h = absurd h
in_array one two y of (raw.array l rs) h = of rs h
in_array one two y of (raw.map l ps) h = absurd h
in_array one two y of (raw.tag w n r) h = absurd h
in_array one two y of (raw.simple s) h = absurd h
in_array one two y of (raw.float w bits) h = absurd h

module _ {A B : Type 0} (allowed : ReadErrorCode → Bool) (f : Formats) (levels : ℕ) (s t : Input) (one : Raws → A → Type 0) (two : Raws → B → Type 0) where
  -- of the items of an array that was taken
  pub array_made : (x : A) (y : B) → ((rs : Raws) → one rs x → two rs y)
      → TakesItem allowed f (PassesTags (AsArray one)) levels s t (Ok x) → TakesItem allowed f (PassesTags (AsArray two)) levels s t (Ok y)
  array_made x y on = step_map s t
      (λ l bs rest. IsRead (PassesTags (AsArray one)) (item_at (raws f l) levels bs) x rest)
      (λ l bs rest. IsRead (PassesTags (AsArray two)) (item_at (raws f l) levels bs) y rest)
      (λ l bs rest read. record { item = read.item; is = read.is; means = as_array one two x y on (untagged read.item) read.means })

  -- of no such items
  pub none_made : (e : Error) → ((rs : Raws) (y : B) → two rs y → (x : A) × one rs x)
      → TakesItem allowed f (PassesTags (AsArray one)) levels s t (Err e) → TakesItem allowed f (PassesTags (AsArray two)) levels s t (Err e)
  none_made e of = refuses_map allowed s (code_of e) (offset_of e)
      (λ l bs. IsNotRead (PassesTags (AsArray one)) (item_at (raws f l) levels bs))
      (λ l bs. IsNotRead (PassesTags (AsArray two)) (item_at (raws f l) levels bs))
      (λ l bs none y rest read.
      let made = in_array one two y (λ rs. of rs y) (untagged read.item) read.means in
      none made.0 rest (record { item = read.item; is = read.is; means = made.1 }))

-- the items of a vector are the vector
pub vector_made : {A : Type 0} (allowed : ReadErrorCode → Bool) (f : Formats) (reads : Raw → A → Type 0) (levels : ℕ) (s t : Input) (r : Result (Vec A Global) Error)
    → TakesItem allowed f (PassesTags (AsArray (AreRead reads))) levels s t (items_in r)
    → TakesItem allowed f (PassesTags (AsArray (λ rs v. AreRead reads rs v.items))) levels s t r
vector_made allowed f reads levels s t (Ok v) h = array_made allowed f levels s t (AreRead reads) (λ rs w. AreRead reads rs w.items) v.items v (λ rs k. k) h
vector_made allowed f reads levels s t (Err e) h = none_made allowed f levels s t (AreRead reads) (λ rs w. AreRead reads rs w.items) e (λ rs w k. (w.items, k)) h
