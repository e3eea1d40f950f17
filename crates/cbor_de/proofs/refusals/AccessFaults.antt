-- The fault of an item, a key or a name that came, as an access reports it.
use Rattle.std.proofs.Common.{◌≡◌, ℕ, Bool, true, Some, Ok, subst}
use Rattle.cbor_model.specs.Formats as model
use Rattle.cbor_model.specs.Refusal.{end_in_array, end_in_map}
use Rattle.cbor_model.specs.Reader.{next_at}
use Rattle.cbor_read.specs.Source.{Input}
use Rattle.cbor_io.specs.declared.error.Error.{Error}
use Rattle.cbor_io.specs.declared.read_error.ReadErrorCode.{ReadErrorCode}
use Rattle.cbor_decode.specs.Gives.{Step}
use Rattle.cbor_decode.specs.Heads.{remaining_of}
use Rattle.cbor_decode.specs.declared.cursor.Remaining.{Remaining}
use Rattle.cbor_decode.specs.declared.formats.Formats.{Formats}
use Rattle.cbor_decode.proofs.facts.Steps.{step_map}
use Rattle.cbor_decode_as.specs.Accesses.{NextComes}
use Rattle.cbor_decode_as.specs.MapAccesses.{Comes, KeyComes}
use Rattle.cbor_decode_as.specs.Takes.{ItemFault, ReportsItem, formats_of}

module _ (passes_over total : Bool) (allowed : ReadErrorCode → Bool) (f g : Formats) (old new : Remaining) (s m : Input) (levels inside : ℕ) (e : Error) (formats : g ≡ f) (same : inside ≡ levels) where
  of_item : ReportsItem passes_over total allowed (formats_of g) inside m e → ReportsItem passes_over total allowed (formats_of f) levels m e
  of_item h =
      subst (λ (x : Formats). ReportsItem passes_over total allowed (formats_of x) levels m e) formats
      (subst (λ (n : ℕ). ReportsItem passes_over total allowed (formats_of g) n m e) same h)

  pub item_comes : Step s m (λ l bs rest. next_at end_in_array (remaining_of old) bs ≡ Ok (Some (remaining_of new), rest)) → ReportsItem passes_over total allowed (formats_of g) inside m e → NextComes old s (λ t. ReportsItem passes_over total allowed (formats_of f) levels t e)
  item_comes step h = record { behind = new; place = m; step = step; holds = of_item h }

  pub key_comes : Step s m (λ l bs rest. Comes (formats_of f) (remaining_of old) (remaining_of new) true bs rest) → ReportsItem passes_over total allowed (formats_of g) inside m e → KeyComes old s (λ t. ReportsItem passes_over total allowed (formats_of f) levels t e)
  key_comes step h = record {
    behind = new;
    place = m;
    step = step_map s m (λ l bs rest. Comes (formats_of f) (remaining_of old) (remaining_of new) true bs rest) (λ l bs rest. next_at end_in_map (remaining_of old) bs ≡ Ok (Some (remaining_of new), rest)) (λ l bs rest comes. comes.0) step;
    holds = of_item h;
  }

pub name_comes : (allowed : ReadErrorCode → Bool) (f : model.Formats) (old new : Remaining) (s m : Input) (levels inside : ℕ) (e : Error) → inside ≡ levels → Step s m (λ l bs rest. Comes f (remaining_of old) (remaining_of new) true bs rest) → ItemFault allowed inside m e → KeyComes old s (λ t. ItemFault allowed levels t e)
name_comes allowed f old new s m levels inside e same step h = record {
  behind = new;
  place = m;
  step = step_map s m (λ l bs rest. Comes f (remaining_of old) (remaining_of new) true bs rest) (λ l bs rest. next_at end_in_map (remaining_of old) bs ≡ Ok (Some (remaining_of new), rest)) (λ l bs rest comes. comes.0) step;
  holds = subst (λ (n : ℕ). ItemFault allowed n m e) same h;
}
