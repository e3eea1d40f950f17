-- What `deserialize` takes, by the definitions.
use Rattle.std.proofs.Common.{◌≡◌, ◌⊎◌, inl, inr, ℕ, ◌+◌, Bool, List, ◌++◌, length, Result, Ok, Err, ap, arith}
use Rattle.std.specs.Prelude.{MatchResult}
use Rattle.std.proofs.lemmas.List.{length-append}
use Rattle.cbor_model.specs.Acceptable.{FitsScratch}
use Rattle.cbor_model.specs.Raw.{Raw, AreBytes}
use Rattle.cbor_model.specs.Reader.{item_at}
use Rattle.cbor_model.specs.Formats.{Formats}
use Rattle.cbor_model.specs.Spelling.{spell}
use Rattle.cbor_model.proofs.facts.Reader.{item_found, item_again}
use Rattle.cbor_read.specs.Source.{Input}
use Rattle.cbor_io.specs.Error.{code_of, offset_of}
use Rattle.cbor_io.specs.declared.error.Error.{Error}
use Rattle.cbor_io.specs.declared.read_error.ReadErrorCode.{ReadErrorCode}
use Rattle.cbor_decode.specs.Gives.{limits, ReportsIo, Reports}
use Rattle.cbor_decode_as.specs.Takes.{ExcusedBy, IsRead, TakesItem, raws}
use Rattle.cbor_de.specs.ItemTaken.{BeginsAs, BeginsAsNone, TookItem}

module _ {A : Type 0} (refusals : ReadErrorCode → Bool) (f : Formats) (reads : Raw → A → Type 0) (levels : ℕ) (s t : Input) (bytes : List ℕ) (reports : Reports s bytes) (fits : AreBytes bytes) where
  -- what the reference reader read, the source took
  pub took : (x : A) (rest : List ℕ) → IsRead reads (item_at (raws f (limits s bytes)) levels bytes) x rest → Reports t rest
      → t.offset + length rest ≡ s.offset + length bytes → TookItem f levels reads s t bytes x
  took x rest read reported total =
      let l = limits s bytes in
      let b = item_found f l.total l.room levels bytes rest read.item fits read.is in
      let parts : length bytes ≡ length (spell read.item ++ rest) = ap length b.0.spelled in
      record {
        rest = rest;
        read = record { item = read.item; begins = b.0; keys = b.1; means = read.means };
        reports = reported;
        count = omega (arith, total, parts, length-append (spell read.item) rest);
      }

  -- and what stands there it reads
  pub read_again : (x : A) (rest : List ℕ) → (b : BeginsAs f levels reads bytes x rest) → FitsScratch s.room b.item
      → IsRead reads (item_at (raws f (limits s bytes)) levels bytes) x rest
  read_again x rest b room =
      let l = limits s bytes in
      record {
        item = b.item;
        is = item_again f l.total l.room levels bytes rest b.item reports.short (omega arith) room b.begins b.keys;
        means = b.means;
      }

  pub item_taken : (r : Result A Error) → TakesItem refusals f reads levels s t r
      → MatchResult r (TookItem f levels reads s t bytes)
      (λ e. ExcusedBy (ReportsIo refusals) (code_of e) (offset_of e) ⊎ BeginsAsNone f levels reads s bytes)
  item_taken (Ok x) step =
      let got = step.reported bytes reports in
      took x got.rest got.holds got.reports got.total
  item_taken (Err e) h = elim (h.reported bytes reports) [
    | inl excused ↦ inl excused
    | inr none ↦ inr (λ x rest b room. none x rest (read_again x rest b room))
  ]
