-- Items that are cut off: those that are whole, and what refuses the rest.
use Rattle.std.proofs.Common.{◌≡◌, ◌∙◌, ◌⊎◌, ◌<◌, ◌^◌, ℕ, List, [], ◌∷◌, ◌++◌, length, None, inl, inr, refl, sym, ap, subst, append-nil, append_assoc, length-append, arith}
use Rattle.std.specs.Prelude.{◌≢◌, flat_map}
use Rattle.std.specs.List.{AllByRecursion}
use Rattle.std.proofs.lemmas.Grind.{flat_map-append}
use Rattle.cbor_model.specs.Acceptable.{IsAcceptable, max_depth}
use Rattle.cbor_model.specs.Allowed.{AreFirst, IsAllowed, StandsAt, chunks_begun, limits_of}
use Rattle.cbor_model.specs.Raw as raw
use Rattle.cbor_model.specs.Raw.{Raw, null_item}
use Rattle.cbor_model.specs.Refusal.{Refusal, end_in_value, end_in_array, end_in_map, length_out_of_range, invalid_utf8}
use Rattle.cbor_model.specs.Refusal.{unassigned_code, unexpected_code, trailing_data, too_deep, scratch_too_small, wrong_struct_format}
use Rattle.cbor_model.specs.Spelling.{spell}
use Rattle.cbor_model.specs.Value.{value}
use Rattle.cbor_model.specs.Wanted.{opening}
use Rattle.cbor_model.proofs.facts.Laws.{one_spelling}
use Rattle.cbor_model.proofs.facts.Refusals.{spelled_allows_none}
use Rattle.cbor_io.specs.Error.{category_of, code_of}
use Rattle.cbor_io.specs.declared.error.Category.TheVariants.{Eof}
use Rattle.cbor_io.specs.declared.error.Error.{Error}
use Rattle.cbor_io.specs.declared.error.ErrorCode.{ErrorCode}
use Rattle.cbor_io.specs.declared.error.ErrorCode.TheVariants.{Io, LengthOutOfRange, OutOfMemory}
use Rattle.cbor_decode.specs.FirstRefusal.{ReportsFirst, refusal_code}
use Rattle.cbor_decode.specs.Gives.{IsMemoryOrFault, IsMemoryOrFaultBy}
use Rattle.cbor_de.specs.Items.{AreItems, AreMostItems}
use Rattle.cbor_round_trip.specs.CutOff.{IsCutTo, IsPartOfFirst, SaysCutOff, bounds_at}
use Rattle.cbor_round_trip.proofs.ItemLists.{each_behind, each_front, fronts, longest_items}

-- ---- the cut

abbrev Cut : List Raw → List ℕ → Type 0
Cut items bytes = (whole : List Raw) × (rest : List ℕ) × IsCutTo items bytes whole rest

cut_behind : (r : Raw) (items : List Raw) (bytes others : List ℕ) → bytes ≡ spell r ++ others → Cut items others → Cut (r ∷ items) bytes
cut_behind r items bytes others e c = (
  r ∷ c.0,
  c.1,
  record {
    behind = c.2.behind;
    are = ap (λ l. r ∷ l) c.2.are;
    parts = e ∙ ap (λ l. spell r ++ l) c.2.parts ∙ sym (append_assoc (spell r) (flat_map spell c.0) c.1);
    part = c.2.part;
  },
)

-- at the end of the first item, or before it
cut_within : (r : Raw) (items : List Raw) (bytes missing m : List ℕ) → bytes ++ m ≡ spell r → missing ≡ m ++ flat_map spell items
    → (missing ≡ flat_map spell items → Cut items []) → Cut (r ∷ items) bytes
cut_within r items bytes missing [] first e behind =
    cut_behind r items bytes [] (sym (append-nil bytes) ∙ first ∙ sym (append-nil (spell r))) (behind e)
cut_within r items bytes missing (b ∷ m) first e behind =
    ([], bytes, record { behind = r ∷ items; are = refl; parts = refl; part = (b ∷ m, (λ none. cc), first) })

-- where the bytes of items are cut off, some are whole, and of the next a part is there
pub cut_off : (items : List Raw) (bytes missing : List ℕ) → bytes ++ missing ≡ flat_map spell items
    → (whole : List Raw) × (rest : List ℕ) × IsCutTo items bytes whole rest
cut_off [] [] missing e = ([], [], record { behind = []; are = refl; parts = refl; part = refl })
cut_off [] (b ∷ bytes) missing e = absurd cc
cut_off (r ∷ items) bytes missing e = elim (fronts bytes (spell r) missing (flat_map spell items) e) [
  | inl h ↦ cut_within r items bytes missing h.0 h.1 h.2 (λ whole. cut_off items [] missing whole)
  | inr h ↦ cut_behind r items bytes h.0 (sym h.1) (cut_off items h.0 missing (sym h.2))
]

-- ---- what is left

-- A front of an item's bytes, and not all of them.
record IsProperFront (rest : List ℕ) : Type 0 where
  pub item : Raw
  pub acceptable : IsAcceptable item
  pub missing : List ℕ
  pub some : missing ≢ []
  pub spelled : rest ++ missing ≡ spell item
  pub short : length (spell item) < 2 ^ 64

left : (behind : List Raw) (rest : List ℕ) → AllByRecursion IsAcceptable behind → length (flat_map spell behind) < 2 ^ 64
    → IsPartOfFirst behind rest → IsProperFront rest
unfolding spell
left [] rest acceptable short part = record {
  item = raw.simple null_item;
  acceptable = record { fits = tt; nests = omega arith; texts = tt };
  missing = 0xf6 ∷ [];
  some = λ none. cc;
  spelled = ap (λ l. l ++ (0xf6 ∷ [])) part;
  short = omega arith;
}
left (r ∷ behind) rest acceptable short part = record {
  item = r;
  acceptable = acceptable.0;
  missing = part.0;
  some = part.1;
  spelled = part.2;
  short = omega (arith, length-append (spell r) (flat_map spell behind));
}

module _ (rest : List ℕ) (f : IsProperFront rest) where
  no_item : (r : Raw) (end : List ℕ) → IsAcceptable r → rest ≡ spell r ++ end → ⊥
  no_item r end acceptable e =
      let whole = sym (append_assoc (spell r) end f.missing) ∙ ap (λ l. l ++ f.missing) (sym e) ∙ f.spelled in
      f.some (none_behind end f.missing (one_spelling r f.item (end ++ f.missing) acceptable.fits f.acceptable.fits whole).1)
    where
      none_behind : (xs ys : List ℕ) → xs ++ ys ≡ [] → ys ≡ []
      none_behind [] ys h = h
      none_behind (x ∷ xs) ys h = absurd cc

  -- what stands in the rest stands in the item
  first_too : (j : ℕ) (front : List ℕ) → AreFirst j rest front → AreFirst j (spell f.item) front
  first_too j front a = record {
    rest = a.rest ++ f.missing;
    parts = sym f.spelled ∙ ap (λ l. l ++ f.missing) a.parts ∙ append_assoc front a.rest f.missing;
    long = a.long;
  }

  stands_too : (j : ℕ) (here : List ℕ) → StandsAt rest j here → StandsAt (spell f.item) j here
  stands_too j here a = record { levels = a.levels; before = a.before; wanted = a.wanted; first = first_too j (a.before ++ here) a.first }

  none : (why : Refusal) (place offset : ℕ) → IsAllowed (limits_of None) (spell f.item) why place offset → ⊥
  none = spelled_allows_none None (spell f.item) (value f.item) f.short (record { item = f.item; acceptable = f.acceptable; spelled = refl; valued = refl }) tt

  -- no refusal of the rest but that it goes on beyond the end
  refused : (start : ℕ) (e : Error) (why : Refusal) (place offset : ℕ) → code_of e ≡ refusal_code why
      → IsAllowed (bounds_at start) rest why place offset → (SaysCutOff e → ⊥) → ⊥
  unfolding stands_too
  refused start e end_in_value place offset code a not = not (inl (ap category_of code))
  refused start e end_in_array place offset code a not = not (inl (ap category_of code))
  refused start e end_in_map place offset code a not = not (inl (ap category_of code))
  refused start e length_out_of_range place offset code a not = not (inr code)
  refused start e invalid_utf8 place offset code a not = none invalid_utf8 place offset (record {
    item = a.item;
    text = a.text;
    valid = a.valid;
    fits = a.fits;
    text_is = a.text_is;
    longest = a.longest;
    at = stands_too place (spell a.item) a.at;
    offset_is = a.offset_is;
  })
  refused start e unassigned_code place offset code a not = none unassigned_code place offset
      (record { byte = a.0.byte; unassigned = a.0.unassigned; at = stands_too place (a.0.byte ∷ []) a.0.at }, a.1)
  refused start e unexpected_code place offset code (inl a, is) not = none unexpected_code place offset
      (inl (record { at = stands_too place (0xff ∷ []) a.at; no_array = a.no_array; no_map = a.no_map }), is)
  refused start e unexpected_code place offset code (inr a, is) not = none unexpected_code place offset (
    inr (record {
      major = a.major;
      chunks = a.chunks;
      byte = a.byte;
      of_strings = a.of_strings;
      fits = a.fits;
      no_break = a.no_break;
      no_chunk = a.no_chunk;
      at = stands_too place (chunks_begun a.major a.chunks ++ (a.byte ∷ [])) a.at;
    }),
    is,
  )
  refused start e trailing_data place offset code a not = none trailing_data place offset (
    record {
      item = a.0.item;
      byte = a.0.byte;
      acceptable = a.0.acceptable;
      first = first_too place (spell a.0.item ++ (a.0.byte ∷ [])) a.0.first;
    },
    a.1,
  )
  refused start e too_deep place offset code a not = none too_deep place offset
      (record { opens = a.0.opens; fits = a.0.fits; at = stands_too place (opening a.0.opens) a.0.at; deep = a.0.deep }, a.1)
  refused start e scratch_too_small place offset code a not = absurd a.0.over
  refused start e wrong_struct_format place offset code a not = absurd a

-- ---- items that are cut off

module _ {log : List ℕ} {items : List Raw} {bytes : List ℕ} {whole : List Raw} {rest : List ℕ}
    (are : AreItems max_depth log items) (short : length log < 2 ^ 64) (c : IsCutTo items bytes whole rest) where
  each : AllByRecursion IsAcceptable (whole ++ c.behind)
  each = subst (AllByRecursion IsAcceptable) c.are are.acceptable

  rest_is : IsProperFront rest
  rest_is =
      let lengths = ap length (are.spelled ∙ append-nil (flat_map spell items) ∙ ap (flat_map spell) c.are ∙ flat_map-append spell whole c.behind) in
      left c.behind rest (each_behind max_depth whole c.behind each) (omega (arith, lengths, short, length-append (flat_map spell whole) (flat_map spell c.behind))) c.part

  -- the whole items are the longest list that begins the bytes that are left
  pub whole_are_most : AreMostItems max_depth bytes whole rest
  whole_are_most = longest_items max_depth (record { acceptable = each_front max_depth whole c.behind each; spelled = c.parts }) (no_item rest rest_is)

  -- what follows them is refused first for its end
  pub rest_goes_on : (start : ℕ) (e : Error) → ReportsFirst (bounds_at start) rest e → (SaysCutOff e → ⊥) → ⊥
  rest_goes_on start e reports not = refused rest rest_is start e reports.why reports.first.place reports.offset reports.code reports.first.allowed not

-- ---- what an error says

no_cut : (code : ErrorCode) → IsMemoryOrFaultBy code → (category_of code ≡ Eof) ⊎ (code ≡ LengthOutOfRange) → ⊥
no_cut OutOfMemory h (inl e) = absurd cc
no_cut OutOfMemory h (inr e) = absurd cc
no_cut (Io fault) h (inl e) = absurd cc
no_cut (Io fault) h (inr e) = absurd cc
no_cut _ h cut = absurd h

-- where memory ran out, or the reader failed, it doesn't say that anything is cut off
pub excused_no_cut : (e : Error) → IsMemoryOrFault e → SaysCutOff e → ⊥
excused_no_cut e failed cut = no_cut (code_of e) failed.0 cut
