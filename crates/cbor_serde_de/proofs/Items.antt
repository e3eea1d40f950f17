-- What is read of a reader's bytes, by what is kept of them.
use Rattle.std.proofs.Common.{◌≡◌, ◌⊎◌, inl, inr, ◌∙◌, ℕ, ◌≤◌, List, [], ◌∷◌, ◌++◌, length, drop, Option, None, Some, IfSome, Result, Ok, Err}
use Rattle.std.specs.Prelude.{IfErr, MatchResult, OnOk, false, true}
use Rattle.std.proofs.Common.{◌+◌, ◌<◌, refl, sym, ap, subst, append-nil, append_assoc, arith}
use Rattle.std.proofs.KnownBytes.{Consumes-whole}
use Rattle.std.proofs.Math.Seq.{drop-append_seam}
use Rattle.std.proofs.lemmas.List.{length-append}
use Rattle.std.specs.Io.KnownBytes.{Consumes, IsAtEnd, Keeps, prepend_known}
use Rattle.cbor_model.specs.Acceptable.{IsAcceptableWithin}
use Rattle.cbor_model.specs.Raw.{Raw}
use Rattle.cbor_model.specs.Spelling.{spell}
use Rattle.cbor_io.specs.declared.error.Category.TheVariants as category
use Rattle.cbor_io.specs.declared.error.Error.{Error}
use Rattle.cbor_io.specs.declared.error.ErrorCode.{ErrorCode}
use Rattle.cbor_io.specs.declared.error.ErrorCode.TheVariants.{TrailingData}
use Rattle.cbor_io.specs.declared.error.ErrorCode.TheVariants as code
use Rattle.cbor_io.specs.Error.{category_of, code_of, offset_of}
use Rattle.cbor_decode.specs.FirstRefusal.{ReportsFirst}
use Rattle.cbor_decode.specs.Gives.{IsMemoryOrFaultBy}
use Rattle.cbor_serde_de.specs.Fronts.{HasItem, IsEmptyEnd, IsItem, IsOwn, MayRefuse, RefusesFront, RefusesRest, item_limits}
use Rattle.cbor_serde_de.specs.Readers.{KeepsFault, KeepsMore, KeepsWhole, TakesItem, TakesOnly}
use Rattle.cbor_serde_de.specs.Streams.{BeginsItem, RefusesNext, Standing, StreamGives}
use Rattle.cbor_serde_de.specs.declared.kept.Kept.{Kept}

-- ---- one item

pub within : (levels : ℕ) (bytes : List ℕ) (end : ℕ) → HasItem levels bytes end → end ≤ length bytes
within levels bytes end h =
    omega (arith, h.ends, ap length h.begins.spelled, length-append (spell h.item) h.rest)

abbrev code_is : Error → Type 0
code_is e = code_of e ≡ TrailingData

-- a byte stands behind the item
behind : (levels : ℕ) (e : Error) (all : List ℕ) (item : Raw) (rest : List ℕ) → all ≡ spell item ++ rest → IsAcceptableWithin levels item → length (spell item) < length all
    → code_is e → offset_of e ≡ length (spell item) + 1 → RefusesRest levels all e
behind levels e all item [] is acceptable more code at = absurd (omega (arith, more, ap length is, length-append (spell item) []))
behind levels e all item (b ∷ rest) is acceptable more code at =
    record { item = item; byte = b; rest = rest; begins = record { spelled = is; acceptable = acceptable }; code = code; at = at }

pub rest_behind : (levels : ℕ) (e : Error) (all bytes some : List ℕ) (end : ℕ) → all ≡ bytes ++ some → HasItem levels bytes end → end < length all
    → code_is e → offset_of e ≡ end + 1 → RefusesRest levels all e
rest_behind levels e all bytes some end parts h more code at =
    behind levels e all h.item (h.rest ++ some) (parts ∙ ap (λ l. l ++ some) h.begins.spelled ∙ append_assoc (spell h.item) h.rest some) h.begins.acceptable
    (omega (arith, more, h.ends)) code (at ∙ ap (λ n. n + 1) h.ends)

-- nothing does
none_behind : (levels : ℕ) (bytes : List ℕ) (item : Raw) (rest : List ℕ) → bytes ≡ spell item ++ rest → IsAcceptableWithin levels item → length bytes ≤ length (spell item) → IsItem levels bytes
none_behind levels bytes item [] is acceptable short = record { item = item; spelled = is ∙ append-nil (spell item); acceptable = acceptable }
none_behind levels bytes item (b ∷ rest) is acceptable short = absurd (omega (arith, short, ap length is, length-append (spell item) (b ∷ rest)))

pub whole_item : (levels : ℕ) (bytes : List ℕ) (end : ℕ) → HasItem levels bytes end → length bytes ≤ end → IsItem levels bytes
whole_item levels bytes end h short = none_behind levels bytes h.item h.rest h.begins.spelled h.begins.acceptable (omega (arith, short, h.ends))

-- the bytes before and those to come, whose first refusal is reported
front_given : (levels : ℕ) (e : Error) (a b : Option (List ℕ)) (some : List ℕ) → Consumes a b some → ReportsFirst (item_limits levels) some e
    → (category_of (code_of e) ≡ category.Eof → IsAtEnd b) → IfSome a (λ bytes. RefusesFront levels bytes e)
front_given levels e None b some taken first ended = tt
front_given levels e (Some xs) None some taken first ended = absurd taken
front_given levels e (Some xs) (Some ys) some taken first ended =
    record { taken = some; rest = ys; parts = taken; reports = first; ended = ended }

rest_given : (levels : ℕ) (e : Error) (a b : Option (List ℕ)) (some : List ℕ) → Consumes a b some → RefusesRest levels some e
    → IfSome a (λ bytes. RefusesRest levels bytes e)
rest_given levels e None b some taken h = tt
rest_given levels e (Some xs) None some taken h = absurd taken
rest_given levels e (Some xs) (Some ys) some taken h = record {
  item = h.item;
  byte = h.byte;
  rest = h.rest ++ ys;
  begins = record {
    spelled = taken ∙ ap (λ l. l ++ ys) h.begins.spelled ∙ append_assoc (spell h.item) (h.byte ∷ h.rest) ys;
    acceptable = h.begins.acceptable;
  };
  code = h.code;
  at = h.at;
}

if_some : (a : Option (List ℕ)) (P Q : List ℕ → Type 0) → ((bytes : List ℕ) → P bytes → Q bytes) → IfSome a P → IfSome a Q
if_some None P Q on h = tt
if_some (Some bytes) P Q on h = on bytes h

module _ {R : Type 0} (remaining : R → Option (List ℕ)) (levels : ℕ) (old new : Kept R) where
  -- what is kept was taken where nothing was kept before
  all_taken : old.bytes.items ≡ [] → (more : KeepsMore remaining old new) → more.some ≡ new.bytes.items
  all_taken none more = sym (more.kept ∙ ap (λ l. l ++ more.some) none)

  consumed : old.bytes.items ≡ [] → KeepsMore remaining old new → Consumes (remaining old.reader) (remaining new.reader) new.bytes.items
  consumed none more = subst (λ l. Consumes (remaining old.reader) (remaining new.reader) l) (all_taken none more) more.taken

  pub whole_given : old.bytes.items ≡ [] → KeepsWhole remaining levels old new → IfSome (remaining old.reader) (IsItem levels)
  whole_given none h =
      Consumes-whole (remaining old.reader) (remaining new.reader) new.bytes.items (IsItem levels) (consumed none h.more) h.ended h.item

  -- a fault of the whole input
  pub fault_given : (e : Error) → old.bytes.items ≡ [] → TakesOnly remaining levels old new (Err e)
      → IsOwn e ⊎ IfSome (remaining old.reader) (λ bytes. MayRefuse levels bytes e)
  fault_given e none (inl rest) =
      inr (if_some (remaining old.reader) (λ bytes. RefusesRest levels bytes e) (λ bytes. MayRefuse levels bytes e) (λ bytes h. inr (inl h))
      (rest_given levels e (remaining old.reader) (remaining new.reader) new.bytes.items (consumed none rest.more) rest.rest))
  fault_given e none (inr (inl fails)) = inl (inl fails.0.0)
  fault_given e none (inr (inr fault)) =
      inr (if_some (remaining old.reader) (λ bytes. RefusesFront levels bytes e) (λ bytes. MayRefuse levels bytes e) (λ bytes h. inr (inr h))
      (front_given levels e (remaining old.reader) (remaining new.reader) new.bytes.items (consumed none fault.more) fault.reports fault.ended))

  -- the type doesn't read the item
  pub unread_given : (e : Error) → IfSome (remaining old.reader) (IsItem levels) → IfSome (remaining old.reader) (λ bytes. MayRefuse levels bytes e)
  unread_given e h = if_some (remaining old.reader) (IsItem levels) (λ bytes. MayRefuse levels bytes e) (λ bytes item. inl item) h

  -- ---- items one after the other

  abbrev before : Option (List ℕ)
  before = prepend_known old.bytes.items (remaining old.reader)

  -- what was taken stays to come
  kept_known : (a b : Option (List ℕ)) (xs ys some : List ℕ) → Consumes a b some → ys ≡ xs ++ some → Keeps (prepend_known xs a) (prepend_known ys b)
  kept_known None b xs ys some taken kept = tt
  kept_known (Some us) None xs ys some taken kept = absurd taken
  kept_known (Some us) (Some bs) xs ys some taken kept =
      ap (λ l. l ++ bs) kept ∙ append_assoc xs some bs ∙ ap (λ l. xs ++ l) (sym taken)

  pub keeps_known : KeepsMore remaining old new → Keeps before (prepend_known new.bytes.items (remaining new.reader))
  keeps_known more = kept_known (remaining old.reader) (remaining new.reader) old.bytes.items new.bytes.items more.some more.taken more.kept

  -- the item at the front is taken
  front_taken : (a b : Option (List ℕ)) (bytes rest : List ℕ) (end : ℕ) (h : HasItem levels bytes end) → Keeps a (prepend_known bytes b) → rest ≡ drop end bytes
      → Consumes a (prepend_known rest b) (spell h.item)
  front_taken None b bytes rest end h keeps is = tt
  front_taken (Some xs) None bytes rest end h keeps is = absurd keeps
  front_taken (Some xs) (Some ys) bytes rest end h keeps is =
      let behind : rest ≡ h.rest = is ∙ ap (λ l. drop end l) h.begins.spelled ∙ ap (λ n. drop n (spell h.item ++ h.rest)) h.ends ∙ drop-append_seam (spell h.item) h.rest in
      sym keeps ∙ ap (λ l. l ++ ys) h.begins.spelled ∙ append_assoc (spell h.item) h.rest ys ∙ ap (λ l. spell h.item ++ (l ++ ys)) (sym behind)

  pub item_taken : (end : ℕ) (h : HasItem levels new.bytes.items end) (b : Option (List ℕ)) (rest : List ℕ) → KeepsMore remaining old new
      → b ≡ remaining new.reader → rest ≡ drop end new.bytes.items → Consumes before (prepend_known rest b) (spell h.item)
  item_taken end h b rest more same is =
      subst (λ (b : Option (List ℕ)). Consumes before (prepend_known rest b) (spell h.item)) (sym same)
      (front_taken before (remaining new.reader) new.bytes.items rest end h (keeps_known more) is)

  -- it stands there
  item_stands : (a b : Option (List ℕ)) (bytes : List ℕ) (end : ℕ) → HasItem levels bytes end → Keeps a (prepend_known bytes b) → IfSome a (BeginsItem levels)
  item_stands None b bytes end h keeps = tt
  item_stands (Some xs) None bytes end h keeps = absurd keeps
  item_stands (Some xs) (Some ys) bytes end h keeps = record {
    item = h.item;
    rest = h.rest ++ ys;
    begins = record {
      spelled = sym keeps ∙ ap (λ l. l ++ ys) h.begins.spelled ∙ append_assoc (spell h.item) h.rest ys;
      acceptable = h.begins.acceptable;
    };
  }

  pub item_unread : (end : ℕ) → HasItem levels new.bytes.items end → KeepsMore remaining old new → IfSome before (BeginsItem levels)
  item_unread end h more = item_stands before (remaining new.reader) new.bytes.items end h (keeps_known more)

  -- none does
  none_stands : (e : Error) (a b : Option (List ℕ)) (bytes : List ℕ) → Keeps a (prepend_known bytes b) → ReportsFirst (item_limits levels) bytes e
      → (category_of (code_of e) ≡ category.Eof → IsAtEnd b) → (IsEmptyEnd bytes e → ⊥) → IfSome a (λ bytes. RefusesNext levels bytes e)
  none_stands e None b bytes keeps first ended some = tt
  none_stands e (Some xs) None bytes keeps first ended some = absurd keeps
  none_stands e (Some xs) (Some ys) [] keeps first ended some = record {
    front = record { taken = []; rest = ys; parts = sym keeps; reports = first; ended = ended };
    some = λ eof none. some (eof, refl);
  }
  none_stands e (Some xs) (Some ys) (b ∷ bytes) keeps first ended some = record {
    front = record { taken = b ∷ bytes; rest = ys; parts = sym keeps; reports = first; ended = ended };
    some = λ eof none. absurd (cons_is b (bytes ++ ys) (keeps ∙ none));
  }
    where
      cons_is : (b : ℕ) (bs : List ℕ) → b ∷ bs ≡ [] → ⊥
      cons_is b bs e = cc

  pub none_given : (e : Error) → KeepsFault remaining levels old new e → (IsEmptyEnd new.bytes.items e → ⊥) → IfSome before (λ bytes. RefusesNext levels bytes e)
  none_given e h some = none_stands e before (remaining new.reader) new.bytes.items (keeps_known h.more) h.reports h.ended some

  -- nothing is to come
  pub none_known : (a b : Option (List ℕ)) (bytes : List ℕ) → Keeps a (prepend_known bytes b) → bytes ≡ [] → IsAtEnd b → IsAtEnd a
  none_known None b bytes keeps none end = tt
  none_known (Some xs) None bytes keeps none end = absurd keeps
  none_known (Some xs) (Some ys) bytes keeps none end = sym keeps ∙ ap (λ l. l ++ ys) none ∙ end

  -- ---- what a stream gives

  -- an item that the type reads, or doesn't
  pub gives_front : {X : Type 0} (s t : Standing) (r : Result X Error) (item : Raw) → s.done ≡ false → IsAcceptableWithin s.options.levels item
      → Consumes s.to_come t.to_come (spell item) → IfSome s.to_come (BeginsItem s.options.levels) → t.options ≡ s.options
      → MatchResult r (λ x. t.done ≡ false) (λ e. t.done ≡ true) → StreamGives s (Some r) t
  gives_front s t (Ok x) item going acceptable taken stands options done =
      record { going = going; item = item; acceptable = acceptable; taken = taken; done = done; options = options }
  gives_front s t (Err e) item going acceptable taken stands options done = record {
    going = going;
    why = inr (if_some s.to_come (BeginsItem s.options.levels) (λ bytes. BeginsItem s.options.levels bytes ⊎ RefusesNext s.options.levels bytes e) (λ bytes h. inl h) stands);
    done = done;
    options = options;
  }

  abbrev Why : Error → Type 0
  Why e = IsOwn e ⊎ IfSome before (λ bytes. BeginsItem levels bytes ⊎ RefusesNext levels bytes e)

  -- an error
  pub gives_fault : (e fault : Error) → TakesItem remaining levels old new (Err fault) → IsOwn e ⊎ ((e ≡ fault) × (IsEmptyEnd new.bytes.items fault → ⊥)) → Why e
  gives_fault e fault taken (inl own) = inl own
  gives_fault e fault (inl fails) (inr other) = subst Why (sym other.0) (inl (inl fails.0.0))
  gives_fault e fault (inr h) (inr other) =
      subst Why (sym other.0)
      (inr (if_some before (λ bytes. RefusesNext levels bytes fault) (λ bytes. BeginsItem levels bytes ⊎ RefusesNext levels bytes fault) (λ bytes next. inr next)
      (none_given fault h other.1)))

  no_end : (k : ErrorCode) → IsMemoryOrFaultBy k → category_of k ≡ category.Eof → ⊥
  no_end (code.Io fault) h e = absurd cc
  no_end code.OutOfMemory h e = absurd cc
  no_end _ h e = absurd h

  -- no item, where nothing is to come
  pub gives_none : (fault : Error) → TakesItem remaining levels old new (Err fault) → IsEmptyEnd new.bytes.items fault
      → IsAtEnd before × Keeps before (prepend_known new.bytes.items (remaining new.reader))
  gives_none fault (inl fails) empty = absurd (no_end (code_of fault) fails.0.0 empty.0)
  gives_none fault (inr h) empty =
      let keeps = keeps_known h.more in (none_known before (remaining new.reader) new.bytes.items keeps empty.1 (h.ended empty.0), keeps)

-- whatever is answered
pub found_of : {X : Type 0} (r : Result X Error) (P : Type 0) → P → OnOk r P
found_of (Ok x) P h = h
found_of (Err e) P h = tt

pub refused_of : {X : Type 0} (r : Result X Error) (Q : Error → Type 0) → ((e : Error) → Q e) → IfErr r Q
refused_of (Ok x) Q h = tt
refused_of (Err e) Q h = h e
