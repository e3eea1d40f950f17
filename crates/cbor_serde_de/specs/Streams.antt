-- What a stream gives of what its reader has to give.
use Rattle.std.specs.Prelude.{◌≡◌, ◌≢◌, ◌⊎◌, ℕ, Bool, true, false, List, [], Option, Some, None}
use Rattle.std.specs.Prelude.{Result, Ok, Err, IfSome}
use Rattle.std.specs.Io.KnownBytes.{Consumes, IsAtEnd, Keeps, prepend_known}
use Rattle.cbor_model.specs.Acceptable.{IsAcceptableWithin}
use Rattle.cbor_model.specs.Raw.{Raw}
use Rattle.cbor_model.specs.RawReader.{Begins}
use Rattle.cbor_model.specs.Spelling.{spell}
use Rattle.cbor_io.specs.declared.error.Category.TheVariants as category
use Rattle.cbor_io.specs.declared.error.Error.{Error}
use Rattle.cbor_io.specs.Error.{category_of, code_of}
use Rattle.cbor_serde_options.specs.declared.options.Options.{Options}
use Rattle.cbor_serde_de.specs.Fronts.{IsOwn, RefusesFront}
use Rattle.cbor_serde_de.specs.declared.stream.Stream.{Stream}

-- The bytes to come, where the reader reports those that it has left; whether no more is given; and
-- by which options.
pub record Standing : Type 0 where
  pub to_come : Option (List ℕ)
  pub done : Bool
  pub options : Options

abbrev pub standing : {R T : Type 0} → (R → Option (List ℕ)) → Stream R T → Standing
standing remaining s = record {
  to_come = prepend_known s.kept.bytes.items (remaining s.kept.reader);
  done = s.is_done;
  options = s.options;
}

-- where a stream stands that gave nothing yet
abbrev pub begun : Option (List ℕ) → Options → Standing
begun remaining options = record { to_come = remaining; done = false; options = options }

-- No item: after an error, or where nothing is to come. It stays so.
pub record GivesNone (s t : Standing) : Type 0 where
  pub why : (s.done ≡ true) ⊎ IsAtEnd s.to_come
  pub stays : Keeps s.to_come t.to_come
  pub done : t.done ≡ true
  pub options : t.options ≡ s.options

-- Just one acceptable item was taken from the front.
pub record GivesItem (s t : Standing) : Type 0 where
  pub going : s.done ≡ false
  pub item : Raw
  pub acceptable : IsAcceptableWithin s.options.levels item
  pub taken : Consumes s.to_come t.to_come (spell item)
  pub done : t.done ≡ false
  pub options : t.options ≡ s.options

-- An acceptable item stands at the front of the bytes.
pub record BeginsItem (levels : ℕ) (bytes : List ℕ) : Type 0 where
  pub item : Raw
  pub rest : List ℕ
  pub begins : Begins levels bytes item rest

-- No such item stands there, and the error is one that the bytes allow. That they end is no error
-- before the first of them.
pub record RefusesNext (levels : ℕ) (bytes : List ℕ) (e : Error) : Type 0 where
  pub front : RefusesFront levels bytes e
  pub some : category_of (code_of e) ≡ category.Eof → bytes ≢ []

-- An error: memory's, the reader's or the type's; or of the item at the front, which the type
-- doesn't read; or of what stands in its place. No more is given.
pub record GivesError (e : Error) (s t : Standing) : Type 0 where
  pub going : s.done ≡ false
  pub why : IsOwn e ⊎ IfSome s.to_come (λ bytes. BeginsItem s.options.levels bytes ⊎ RefusesNext s.options.levels bytes e)
  pub done : t.done ≡ true
  pub options : t.options ≡ s.options

-- what a call of `next` gives
abbrev pub StreamGives : {T : Type 0} → Standing → Option (Result T Error) → Standing → Type 0
StreamGives s None t = GivesNone s t
StreamGives s (Some (Ok x)) t = GivesItem s t
StreamGives s (Some (Err e)) t = GivesError e s t
