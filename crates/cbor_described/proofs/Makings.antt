-- What is read by a description of its parts.
use Rattle.std.proofs.Common.{◌≡◌, ℕ, Bool, IfErr, Result, Ok, Err, sym, subst}
use Rattle.cbor_model.specs.Formats as model
use Rattle.cbor_model.specs.Raw.{Raw}
use Rattle.cbor_model.specs.Reader.{item_at}
use Rattle.cbor_read.specs.Source.{Input}
use Rattle.cbor_io.specs.Error.{code_of, offset_of}
use Rattle.cbor_io.specs.declared.error.Error.{Error}
use Rattle.cbor_io.specs.declared.read_error.ReadErrorCode.{ReadErrorCode}
use Rattle.cbor_decode.proofs.facts.Steps.{step_map}
use Rattle.cbor_decode_as.specs.Takes.{MemoryFor, TakesItem, raws, IsRead, IsNotRead}
use Rattle.cbor_decode_as.proofs.facts.Readings.{refuses_map}

-- Parts that are read by these names, or keys, are read as what is made of them, and where none are nothing is.
module _ {S P K : Type 0} (parts : S → P) (reads : K → Raw → P → Type 0) (allowed : ReadErrorCode → Bool) (f : model.Formats) (levels : ℕ) (s t : Input) {given names : K} (named : given ≡ names) where
  pub made : (p : P) (x : S) → parts x ≡ p → TakesItem allowed f (reads given) levels s t (Ok p) → TakesItem allowed f (λ r x. reads names r (parts x)) levels s t (Ok x)
  made p x is = step_map s t (λ l bs rest. IsRead (reads given) (item_at (raws f l) levels bs) p rest) (λ l bs rest. IsRead (λ r x. reads names r (parts x)) (item_at (raws f l) levels bs) x rest)
      (λ l bs rest read. record {
        item = read.item;
        is = read.is;
        means = subst (λ (names : K). reads names read.item (parts x)) named (subst (λ (p : P). reads given read.item p) (sym is) read.means);
      })

  pub not_made : (e : Error) → TakesItem {A = P} allowed f (reads given) levels s t (Err e) → TakesItem {A = S} allowed f (λ r x. reads names r (parts x)) levels s t (Err e)
  not_made e = refuses_map allowed s (code_of e) (offset_of e) (λ l bs. IsNotRead (reads given) (item_at (raws f l) levels bs)) (λ l bs. IsNotRead (λ r x. reads names r (parts x)) (item_at (raws f l) levels bs))
      (λ l bs none x rest read. none (parts x) rest (record {
        item = read.item;
        is = read.is;
        means = subst (λ (names : K). reads names read.item (parts x)) (sym named) read.means;
      }))

-- What is read as one thing is read as another, and where nothing is the one nothing is the other.
module _ {A B : Type 0} (one : Raw → A → Type 0) (two : Raw → B → Type 0) (allowed : ReadErrorCode → Bool) (f : model.Formats) (levels : ℕ) (s t : Input) where
  pub read_as : (x : A) (y : B) → ((r : Raw) → one r x → two r y) → TakesItem allowed f one levels s t (Ok x) → TakesItem allowed f two levels s t (Ok y)
  read_as x y on = step_map s t (λ l bs rest. IsRead one (item_at (raws f l) levels bs) x rest) (λ l bs rest. IsRead two (item_at (raws f l) levels bs) y rest)
      (λ l bs rest read. record { item = read.item; is = read.is; means = on read.item read.means })

  pub not_read_as : (e : Error) → ((r : Raw) (y : B) → two r y → (x : A) × one r x) → TakesItem {A = A} allowed f one levels s t (Err e) → TakesItem {A = B} allowed f two levels s t (Err e)
  not_read_as e back = refuses_map allowed s (code_of e) (offset_of e) (λ l bs. IsNotRead one (item_at (raws f l) levels bs)) (λ l bs. IsNotRead two (item_at (raws f l) levels bs))
      (λ l bs none y rest read. let x = back read.item y read.means in none x.0 rest (record { item = read.item; is = read.is; means = x.1 }))

-- of what is said of an error
pub err_map : {A : Type 0} (P Q : Error → Type 0) (r : Result A Error) → ((e : Error) → P e → Q e) → IfErr r P → IfErr r Q
err_map P Q (Ok x) on h = tt
err_map P Q (Err e) on h = on e h

-- ---- memory

-- Where it ran out, the item is one for which it may be asked; also of what is made of the parts.
module _ (f : model.Formats) (levels : ℕ) (s : Input) (e : Error) where
  pub memory_made : {S P : Type 0} (parts : S → P) (asks : Raw → Type 0) (reads : Raw → P → Type 0) → MemoryFor asks f reads levels s e → MemoryFor asks f (λ r x. reads r (parts x)) levels s e
  memory_made parts asks reads h out bs reports x rest got = h out bs reports (parts x) rest (record { item = got.item; is = got.is; means = got.means })

  pub memory_named : {S P K : Type 0} (parts : S → P) (asks : K → Raw → Type 0) (reads : K → Raw → P → Type 0) {given names : K} → given ≡ names → MemoryFor (asks given) f (reads given) levels s e → MemoryFor (asks names) f (λ r x. reads names r (parts x)) levels s e
  memory_named {K = K} parts asks reads {names = names} named h = memory_made parts (asks names) (reads names) (subst (λ (k : K). MemoryFor (asks k) f (reads k) levels s e) named h)

  pub memory_as : {A B : Type 0} (asks : Raw → Type 0) (one : Raw → A → Type 0) (two : Raw → B → Type 0) → ((r : Raw) (y : B) → two r y → (x : A) × one r x) → MemoryFor asks f one levels s e → MemoryFor asks f two levels s e
  memory_as asks one two back h out bs reports y rest got =
      let x = back got.item y got.means in
      h out bs reports x.0 rest (record { item = got.item; is = got.is; means = x.1 })
