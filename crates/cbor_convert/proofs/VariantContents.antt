-- What a variant holds, under its name.
use Rattle.std.proofs.Common.{◌≡◌, ℕ, List, ap, sym, ◌∙◌}
use Rattle.std.specs.Prelude.{Result, Ok, Err, IfOk, IfErr}
use Rattle.cbor_model.specs.Plain as plain
use Rattle.cbor_model.specs.Plain.{Val, pair, no_pairs}
use Rattle.cbor_model.specs.Document.{Doc, Docs, Fields, sequence, structure, declared, tuple_variant, struct_variant, IsStorableDocument}
use Rattle.cbor_io.specs.declared.error.Error.{Error}
use Rattle.cbor_io.specs.Error.{IsOutOfMemory}
use Rattle.cbor_value.specs.declared.Value.{Value}
use Rattle.cbor_value.specs.View.{view}
use Rattle.cbor_convert.specs.Meaning.{Makes, value_of}
use Rattle.cbor_convert.proofs.MemoryAnswers.{refused_memory}
use Rattle.cbor_convert.proofs.Meanings.{value_sequence, value_tuple, value_struct}

abbrev under : List ℕ → Val → Val
under n v = plain.map (pair (plain.text n) v no_pairs)

by_name : {d f : Doc} {r : Result Value Error} (n : List ℕ) (content : Value) → Makes d (Ok content) → under n (value_of d) ≡ value_of f → (IsStorableDocument d → IsStorableDocument f)
    → IfOk r (λ v. view v ≡ under n (view content)) → IfErr r IsOutOfMemory → Makes f r
by_name {r = Ok v} n content held same stored made memory = record { made = made ∙ ap (under n) held.made ∙ same; storable = stored held.storable; refused = tt }
by_name {f = f} {r = Err e} n content held same stored made memory = record { made = tt; storable = tt; refused = refused_memory (IsStorableDocument f) e memory }

pub named_tuple : {r : Result Value Error} {content : Value} (i : ℕ) (n : List ℕ) (ds : Docs) → Makes (sequence declared ds) (Ok content)
    → IfOk r (λ v. view v ≡ under n (view content)) → IfErr r IsOutOfMemory → Makes (tuple_variant i n ds) r
named_tuple {content = content} i n ds held made memory =
    by_name n content held (ap (under n) (value_sequence declared ds) ∙ sym (value_tuple i n ds)) (λ h. h) made memory

pub named_struct : {r : Result Value Error} {content : Value} (i : ℕ) (n : List ℕ) (fs : Fields) → Makes (structure fs) (Ok content)
    → IfOk r (λ v. view v ≡ under n (view content)) → IfErr r IsOutOfMemory → Makes (struct_variant i n fs) r
named_struct {content = content} i n fs held made memory = by_name n content held (sym (value_struct i n fs)) (λ h. h) made memory
