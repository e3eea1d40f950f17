-- Items of any source that are read once their bytes keep the rules.
use Rattle.std.proofs.Common.{◌≡◌, ℕ, ◌∙◌, Bool, List, [], None, Err, sym, subst, append-nil}
use Rattle.cbor_model.specs.Acceptable.{IsAcceptable, max_depth}
use Rattle.cbor_model.specs.Formats.{all_formats}
use Rattle.cbor_model.specs.Raw.{Raw, IsWellFormed}
use Rattle.cbor_model.specs.RawReader.{Begins}
use Rattle.cbor_model.specs.Readable.{SpellsAs}
use Rattle.cbor_model.specs.Spelling.{spell}
use Rattle.cbor_model.proofs.facts.Laws.{one_spelling}
use Rattle.cbor_io.specs.declared.error.Error.{Error}
use Rattle.cbor_io.specs.declared.read_error.ReadErrorCode.{ReadErrorCode}
use Rattle.cbor_io.specs.Error.{IsFurther, IsOutOfMemory}
use Rattle.cbor_read.specs.Source.{Input, start_of_slice}
use Rattle.cbor_decode.specs.Gives.{Reports}
use Rattle.cbor_de.specs.Forms.{MayReport, WrongForms}
use Rattle.cbor_de.specs.Whole.{Answers}
use Rattle.cbor_rules.specs.RawByRules.{GathersByRules}
use Rattle.cbor_rules.specs.Rules.{Terms}
use Rattle.cbor_rules.specs.Streams.{TakesItem, RefusesAs}
use Rattle.cbor_rules.proofs.RawByRules.{taken_is, whole_spelled}

-- ---- the one item of bytes

-- bytes encode one item
one_item_of : (bs : List ℕ) (r s : Raw) → IsWellFormed r → IsWellFormed s → spell r ≡ bs → spell s ≡ bs → r ≡ s
one_item_of bs r s fits fits' is is' = (one_spelling r s [] fits fits' (append-nil (spell r) ∙ is ∙ sym is')).0

module _ {A : Type 0} (reads : Raw → A → Type 0) (bytes : List ℕ) (item : Raw) (good : IsAcceptable item) (is : spell item ≡ bytes) where
  pub read_so : (x : A) → SpellsAs all_formats reads bytes x → reads item x
  read_so x found = subst (λ (r : Raw). reads r x) (one_item_of bytes found.item item found.acceptable.fits good.fits found.spelled is) found.means

-- ---- bytes that were taken

module _ (terms : Terms) (s t : Input) (bytes : List ℕ) (taken : GathersByRules terms max_depth s t bytes) where
  abbrev item : Raw
  item = taken.gathered.item.item

  abbrev good : IsAcceptable item
  good = taken.gathered.item.begins.acceptable

  pub item_spelled : spell item ≡ bytes
  item_spelled = sym (whole_spelled max_depth bytes taken.gathered.item)

  pub is_read : {A : Type 0} (reads : Raw → A → Type 0) (x : A) → SpellsAs all_formats reads bytes x → reads item x
  is_read reads x found = read_so reads bytes item good item_spelled x found

  pub takes_item : {A : Type 0} (reads : Raw → A → Type 0) (x : A) → SpellsAs all_formats reads bytes x → TakesItem reads terms s t x
  takes_item reads x found = record { bytes = bytes; taken = taken; read = is_read reads x found }

  -- reading them as a type refused the item
  pub refuses_taken : {A : Type 0} (passes_over total reports_faults : Bool) (forms : WrongForms) (reads : Raw → A → Type 0) (asks : Raw → Type 0) (alone e : Error) → IsFurther s.offset alone e
      → Answers passes_over total reports_faults reads asks IsOutOfMemory None bytes (Err alone) → MayReport forms all_formats (start_of_slice bytes None) alone
      → RefusesAs passes_over total reports_faults forms reads asks s.offset item e
  refuses_taken passes_over total reports_faults forms reads asks alone e further answers form = record {
    alone = alone;
    further = further;
    answers = subst (λ (b : List ℕ). Answers passes_over total reports_faults reads asks IsOutOfMemory None b (Err alone)) (sym item_spelled) answers;
    form = subst (λ (b : List ℕ). MayReport forms all_formats (start_of_slice b None) alone) (sym item_spelled) form;
  }

  -- they are those of the item that is to come
  pub item_is : (refusals : ReadErrorCode → Bool) (bs : List ℕ) (next : Raw) (rest : List ℕ) → Reports s bs → Begins max_depth bs next rest → item ≡ next
  item_is refusals bs next rest reports begins =
      one_item_of bytes item next good.fits begins.acceptable.fits item_spelled (sym (taken_is terms refusals max_depth s t bs next rest reports begins bytes taken))
