-- What is taken of a reader, and what stands at the front of that.
use Rattle.std.specs.Prelude.{◌≡◌, ◌⊎◌, ◌≤◌, ℕ, Bool, false, IsTrue, List, [], ◌++◌, length}
use Rattle.std.specs.Prelude.{Option, Result, Ok, Err}
use Rattle.std.specs.Io.KnownBytes.{Consumes, IsAtEnd}
use Rattle.cbor_io.specs.declared.error.Category.TheVariants as category
use Rattle.cbor_io.specs.declared.error.Error.{Error}
use Rattle.cbor_io.specs.Error.{category_of, code_of}
use Rattle.cbor_decode.specs.FirstRefusal.{ReportsFirst}
use Rattle.cbor_decode.specs.Gives.{IsMemoryOrFault}
use Rattle.cbor_serde_de.specs.Fronts.{HasItem, IsItem, RefusesRest, item_limits}
use Rattle.cbor_serde_de.specs.declared.kept.Kept.{Kept}

-- ---- what a reader gives

-- Some of the bytes that the reader had left were taken, and stand after those that were kept.
pub record KeepsMore {R : Type 0} (remaining : R → Option (List ℕ)) (old new : Kept R) : Type 0 where
  pub some : List ℕ
  pub taken : Consumes (remaining old.reader) (remaining new.reader) some
  pub kept : new.bytes.items ≡ old.bytes.items ++ some

-- Some of the bytes that the reader had left were taken.
pub record Gave {R : Type 0} (remaining : R → Option (List ℕ)) (old new : Kept R) : Type 0 where
  pub some : List ℕ
  pub taken : Consumes (remaining old.reader) (remaining new.reader) some

-- no memory, or a fault of the reader, after some of its bytes were taken
abbrev pub Fails : {R : Type 0} → (R → Option (List ℕ)) → Kept R → Kept R → Error → Type 0
Fails remaining old new e = IsMemoryOrFault e × Gave remaining old new

-- So many bytes were taken; none only at the reader's end.
pub record TookPiece {R : Type 0} (remaining : R → Option (List ℕ)) (old new : Kept R) (n : ℕ)
    : Type 0 where
  pub more : KeepsMore remaining old new
  pub count : length more.some ≡ n
  pub ended : n ≡ 0 → IsAtEnd (remaining new.reader)

-- Bytes were taken, and as many are kept at the least where that is answered.
pub record Filled {R : Type 0} (remaining : R → Option (List ℕ)) (old new : Kept R) (end : ℕ)
    (is_filled : Bool) : Type 0 where
  pub more : KeepsMore remaining old new
  pub enough : IsTrue is_filled → end ≤ length new.bytes.items

-- Bytes were taken; none only at the reader's end.
pub record TookMissing {R : Type 0} (remaining : R → Option (List ℕ)) (old new : Kept R)
    (came : Bool) : Type 0 where
  pub more : KeepsMore remaining old new
  pub none : came ≡ false → (more.some ≡ []) × IsAtEnd (remaining new.reader)

-- ---- an item

-- An item stands at the front of what is kept, after bytes were taken.
pub record KeepsItem {R : Type 0} (remaining : R → Option (List ℕ)) (levels : ℕ) (old new : Kept R)
    (end : ℕ) : Type 0 where
  pub more : KeepsMore remaining old new
  pub item : HasItem levels new.bytes.items end

-- None does, after bytes were taken: the error is the first refusal that the kept ones allow, and
-- the end of input only where the reader is at its end.
pub record KeepsFault {R : Type 0} (remaining : R → Option (List ℕ)) (levels : ℕ) (old new : Kept R)
    (e : Error) : Type 0 where
  pub more : KeepsMore remaining old new
  pub reports : ReportsFirst (item_limits levels) new.bytes.items e
  pub ended : category_of (code_of e) ≡ category.Eof → IsAtEnd (remaining new.reader)

abbrev pub TakesItem : {R : Type 0} → (R → Option (List ℕ)) → ℕ → Kept R → Kept R
    → Result ℕ Error → Type 0
TakesItem remaining levels old new (Ok end) = KeepsItem remaining levels old new end
TakesItem remaining levels old new (Err e) =
    Fails remaining old new e ⊎ KeepsFault remaining levels old new e

-- What is kept is one item, and the reader is at its end.
pub record KeepsWhole {R : Type 0} (remaining : R → Option (List ℕ)) (levels : ℕ) (old new : Kept R)
    : Type 0 where
  pub more : KeepsMore remaining old new
  pub item : IsItem levels new.bytes.items
  pub ended : IsAtEnd (remaining new.reader)

-- More is kept than the item at the front, which is the error.
pub record KeepsRest {R : Type 0} (remaining : R → Option (List ℕ)) (levels : ℕ) (old new : Kept R)
    (e : Error) : Type 0 where
  pub more : KeepsMore remaining old new
  pub rest : RefusesRest levels new.bytes.items e

abbrev pub TakesOnly : {R : Type 0} → (R → Option (List ℕ)) → ℕ → Kept R → Kept R
    → Result (Unit {0}) Error → Type 0
TakesOnly remaining levels old new (Ok u) = KeepsWhole remaining levels old new
TakesOnly remaining levels old new (Err e) =
    KeepsRest remaining levels old new e ⊎ TakesItem remaining levels old new (Err e)
