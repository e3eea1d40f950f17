-- What is known of a run over a sequence between two items, and at its end.
use Rattle.std.proofs.Common.{◌≡◌, ◌⊎◌, inl, inr, ℕ, suc, ◌+◌, ◌-◌, false, List, [], ◌∷◌, ◌++◌, map, length, Option, None, IfSome, refl, sym, ap, subst, ◌∙◌, append_assoc, append-nil, length-append, arith}
use Rattle.std.specs.Prelude.{flat_map}
use Rattle.std.specs.List.{AllByRecursion}
use Rattle.std.specs.Io.KnownBytes.{Appends}
use Rattle.std.proofs.KnownBytes.{Appends-nil, Appends-trans, Appends-kept}
use Rattle.cbor_model.specs.Acceptable.{max_depth, IsAcceptableWithin}
use Rattle.cbor_model.specs.Formats.{all_formats}
use Rattle.cbor_model.specs.Canonical.{IsStorable}
use Rattle.cbor_model.specs.Plain.{Val}
use Rattle.cbor_model.specs.Raw.{Raw, AreBytes}
use Rattle.cbor_model.specs.Spelling.{spell}
use Rattle.cbor_model.specs.Value.{value}
use Rattle.cbor_model.proofs.facts.Laws.{value_is_storable}
use Rattle.cbor_value.specs.declared.Value.{Value}
use Rattle.serde_cbor.specs.View.{view}
use Rattle.serde_cbor.specs.FirstRefusal.{ReportsFirst}
use Rattle.serde_cbor.specs.Gives.{Gave, ReportsIo, Reports, IsMemoryOrFault, IsMemoryOrFaultBy}
use Rattle.serde_cbor.specs.ItemTaken.{TookItem}
use Rattle.serde_cbor.specs.Items.{ItemsBegin}
use Rattle.serde_cbor.specs.Source.{Input, Lends, reader_refusals, start_of_reader}
use Rattle.serde_cbor.specs.Error.{IsOutOfMemory}
use Rattle.serde_cbor.specs.declared.error.Error.{Error}
use Rattle.cbor_tool.specs.declared.sequence.Form.{Form}
use Rattle.cbor_tool.specs.Sequence.{IsShown, AreShown, AnswersSequence, StopsSequence, failed, refused}
use Rattle.cbor_tool.specs.SequenceSteps.{AppendsAnswer, FailsAnswering}

pub memory_excuses : (e : Error) → IsOutOfMemory e → IsMemoryOrFault e
memory_excuses e h = (subst IsMemoryOrFaultBy (sym h.0) tt, h.1)

-- a reader lends nothing
abbrev pub lends : Lends
lends = record { whole = false; joined = false }

-- what was taken can be written
pub storable_taken : (s t : Input) (rest : List ℕ) (x : Value) → TookItem all_formats max_depth (λ r v. view v ≡ value r) s t rest x → IsStorable (view x)
storable_taken s t rest x took = rw took.read.means (value_is_storable took.read.item took.read.begins.acceptable.fits)

-- ---- one more

map-append : {A B : Type 0} (f : A → B) (xs ys : List A) → map f (xs ++ ys) ≡ map f xs ++ map f ys
map-append f [] ys = refl
map-append f (x ∷ xs) ys = ap (λ l. f x ∷ l) (map-append f xs ys)

shown_more : (form : Form) (vs : List Val) (v : Val) (a b : List ℕ) → AreShown form vs a → IsShown form v b → AreShown form (vs ++ v ∷ []) (a ++ b)
shown_more form [] v a b none is = rw none (b, [], is, refl, sym (append-nil b))
shown_more form (w ∷ vs) v a b (answer, others, first, rest, parts) is = (
  answer,
  others ++ b,
  first,
  shown_more form vs v others b rest is,
  ap (λ l. l ++ b) parts ∙ append_assoc answer others b,
)

acceptable_more : (items : List Raw) (r : Raw) → AllByRecursion (IsAcceptableWithin max_depth) items → IsAcceptableWithin max_depth r → AllByRecursion (IsAcceptableWithin max_depth) (items ++ r ∷ [])
acceptable_more [] r each last = (last, tt)
acceptable_more (s ∷ items) r each last = (each.0, acceptable_more items r each.1 last)

spelled_more : (items : List Raw) (r : Raw) (rest : List ℕ) → flat_map spell items ++ (spell r ++ rest) ≡ flat_map spell (items ++ r ∷ []) ++ rest
spelled_more [] r rest = ap (λ l. l ++ rest) (sym (append-nil (spell r)))
spelled_more (s ∷ items) r rest =
    append_assoc (spell s) (flat_map spell items) (spell r ++ rest) ∙ ap (λ l. spell s ++ l) (spelled_more items r rest)
    ∙ sym (append_assoc (spell s) (flat_map spell (items ++ r ∷ [])) rest)

suffix : (front rest : List ℕ) → AreBytes (front ++ rest) → AreBytes rest
suffix [] rest h = h
suffix (b ∷ front) rest h = suffix front rest (λ i. h (suc i))

-- ---- so far

-- The items that were taken were answered, and these bytes are to come.
pub record SoFar (form : Form) (input : List ℕ) (s : Input) (old new : Option (List ℕ)) : Type 0 where
  pub items : List Raw
  pub rest : List ℕ
  pub begin : ItemsBegin max_depth input items rest
  pub reports : Reports s rest
  pub are_bytes : AreBytes rest
  pub place : s.offset + length rest ≡ length input
  pub output : List ℕ
  pub shown : AreShown form (map value items) output
  pub written : Appends old new output

pub none_yet : (form : Form) (input : List ℕ) (remaining old : Option (List ℕ)) → Gave remaining input → SoFar form input (start_of_reader remaining) old old
none_yet form input remaining old gave = record {
  items = [];
  rest = input;
  begin = record { acceptable = tt; spelled = refl };
  reports = record { is = gave.reported; short = omega (arith, gave.short) };
  are_bytes = gave.are_bytes;
  place = omega arith;
  output = [];
  shown = refl;
  written = Appends-nil old;
}

module _ (form : Form) (input : List ℕ) (s : Input) (old new : Option (List ℕ)) (far : SoFar form input s old new) where
  pub all_answered : IfSome s.to_come (λ bs. bs ≡ []) → AnswersSequence form input old new
  all_answered end =
      let none : far.rest ≡ [] = subst (λ (o : Option (List ℕ)). IfSome o (λ bs. bs ≡ [])) far.reports.is end in
      record {
        items = far.items;
        are = subst (λ (bs : List ℕ). ItemsBegin max_depth input far.items bs) none far.begin;
        output = far.output;
        shown = far.shown;
        written = far.written;
      }

  pub refused_behind : (e : Error) → s.room ≡ None → IsOutOfMemory e ⊎ ((ReportsIo reader_refusals × IsMemoryOrFault e) ⊎ ReportsFirst (record { start = s.offset; levels = max_depth; scratch = s.room }) far.rest e) → StopsSequence form e input old new
  refused_behind e room why = record {
    items = far.items;
    rest = far.rest;
    begin = far.begin;
    output = far.output;
    begun = [];
    shown = far.shown;
    written = subst (Appends old new) (sym (append-nil far.output)) far.written;
    why = elim why [
      | inl memory ↦ failed (memory_excuses e memory) (inl refl)
      | inr (inl fault) ↦ failed fault.1 (inl refl)
      | inr (inr first) ↦ refused refl (subst (λ (n : ℕ). ReportsFirst (record { start = n; levels = max_depth; scratch = None }) far.rest e) (omega (arith, far.place))
          (subst (λ (o : Option ℕ). ReportsFirst (record { start = s.offset; levels = max_depth; scratch = o }) far.rest e) room first))
    ];
  }

  module _ (t : Input) (x : Value) (took : TookItem all_formats max_depth (λ r v. view v ≡ value r) s t far.rest x) (new' : Option (List ℕ)) where
    pub one_more : AppendsAnswer form (view x) new new' → SoFar form input t old new'
    one_more more =
        let r = took.read.item in
        let spelled = took.read.begins.spelled in
        let lengths = ap length spelled ∙ length-append (spell r) took.rest in
        record {
          items = far.items ++ r ∷ [];
          rest = took.rest;
          begin = record {
            acceptable = acceptable_more far.items r far.begin.acceptable took.read.begins.acceptable;
            spelled = far.begin.spelled ∙ ap (λ (l : List ℕ). flat_map spell far.items ++ l) spelled ∙ spelled_more far.items r took.rest;
          };
          reports = took.reports;
          are_bytes = suffix (spell r) took.rest (subst AreBytes spelled far.are_bytes);
          place = omega (arith, took.count, far.place, lengths);
          output = far.output ++ more.answer;
          shown = subst (λ (vs : List Val). AreShown form vs (far.output ++ more.answer)) (sym (map-append value far.items (r ∷ [])))
              (shown_more form (map value far.items) (value r) far.output more.answer far.shown (subst (λ (v : Val). IsShown form v more.answer) took.read.means more.shown));
          written = Appends-trans old new new' far.output more.answer far.written more.written;
        }

    pub failed_behind : (e : Error) → FailsAnswering form (view x) e new new' → StopsSequence form e input old new'
    failed_behind e fails = elim fails.written [
      | inl kept ↦ record {
        items = far.items;
        rest = far.rest;
        begin = far.begin;
        output = far.output;
        begun = [];
        shown = far.shown;
        written = subst (Appends old new') (sym (append-nil far.output)) (Appends-kept old new new' far.output far.written kept);
        why = failed fails.why (inl refl);
      }
      | inr part ↦ record {
        items = far.items;
        rest = far.rest;
        begin = far.begin;
        output = far.output;
        begun = part.begun;
        shown = far.shown;
        written = Appends-trans old new new' far.output part.begun far.written part.written;
        why = failed fails.why (inr (record {
          item = took.read.item;
          after = took.rest;
          begins = took.read.begins;
          missing = part.missing;
          shown = subst (λ (v : Val). IsShown form v (part.begun ++ part.missing)) took.read.means part.shown;
        }));
      }
    ]
