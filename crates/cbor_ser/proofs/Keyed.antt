-- Fields by their names or their labels.
use Rattle.std.proofs.Common.{◌≡◌, ◌∙◌, ◌++◌, ◌<◌, ℕ, ℤ, zero, suc, List, [], ◌∷◌, length, get_or, inl, inr, refl, sym, ap, arith, append_assoc, Option, Some, None}
use Rattle.std.specs.Prelude.{Ok, IfSome}
use Rattle.cbor_model.specs.Document.{Doc, Fields, no_fields, field, field_count, doc_pair_count, integer}
use Rattle.cbor_model.specs.Parts.{Part, nothing, item, in_turn, map_head, ending, parts, pairs, part_bytes}
use Rattle.cbor_io.specs.declared.error.Error.{Error}
use Rattle.cbor_ser.specs.Labels.{label_in, labelled_pairs, keyed_part, keyed_fields, keyed_document}
use Rattle.cbor_ser.specs.Narrowed.{narrowed_part}
use Rattle.cbor_ser.specs.Serialized.{Stepped, bytes_under}
use Rattle.cbor_ser.specs.declared.serializer.Settings.{Settings}
use Rattle.cbor_ser.specs.declared.serializer.Serializer.{Serializer}
use Rattle.cbor_ser.proofs.WriteSteps.{Same, nothing_step}

-- the label in a place
pub labelled_at : (labels : List ℤ) (i : ℕ) (none : ℤ) → i < length labels → get_or labels i none ≡ label_in labels i
labelled_at [] i none h = absurd (omega (arith, h))
labelled_at (l ∷ labels) zero none h = refl
labelled_at (l ∷ labels) (suc i) none h = labelled_at labels i none (omega (arith, h))

-- there are as many pairs as fields
count_labelled : (labels : List ℤ) (fs : Fields) → field_count fs ≡ doc_pair_count (labelled_pairs labels fs)
count_labelled labels no_fields = refl
count_labelled labels (field i n d fs) = ap suc (count_labelled labels fs)

-- the head, and the fields
pub head_of : (labels : Option (List ℤ)) (fs : Fields) (n : ℕ) → n ≡ field_count fs → in_turn (map_head (Some n)) (keyed_fields labels fs) ≡ parts (keyed_document labels fs)
head_of None fs n counted = ap (λ n. in_turn (map_head (Some n)) (keyed_fields None fs)) counted
head_of (Some labels) fs n counted = ap (λ n. in_turn (map_head (Some n)) (pairs (labelled_pairs labels fs) (ending (Some 0)))) (counted ∙ count_labelled labels fs)

same_itself : (s : Settings) (f : Part) → Same s f f
same_itself s f = record { same = refl; storable = λ h. h; unstorable = λ h. h; in_range = λ h. h; before = λ front h. h }

-- a part, another, and the rest
regrouped : (s : Settings) (f g h : Part) → Same s (in_turn (in_turn f g) h) (in_turn f (in_turn g h))
unfolding part_bytes
regrouped s f g h =
    let grouped = append_assoc (bytes_under s f) (bytes_under s g) in
    record {
      same = grouped (bytes_under s h);
      storable = λ x. (x.0.0, (x.0.1, x.1));
      unstorable = λ x. ((x.0, x.1.0), x.1.1);
      in_range = λ x. (x.0.0, (x.0.1, x.1));
      before = λ front x. elim x [
        | inl y ↦ inl (inl y)
        | inr y ↦ elim y.1.2 [
          | inl z ↦ inl (inr (y.0, (y.1.0, y.1.1, z)))
          | inr z ↦ inr ((y.0, z.0), (z.1.0, y.1.1 ∙ ap (λ bs. part_bytes (narrowed_part s.shortest f) s.packed s.legacy ++ bs) z.1.1 ∙ sym (grouped z.1.0), z.1.2))
        ]
      ];
    }

-- a field, and those after it
pub field_then : (s : Settings) (labels : Option (List ℤ)) (i : ℕ) (n : List ℕ) (d : Doc) (fs : Fields) → Same s (in_turn (keyed_part labels i n d) (keyed_fields labels fs)) (keyed_fields labels (field i n d fs))
field_then s None i n d fs = same_itself s (keyed_fields None (field i n d fs))
field_then s (Some labels) i n d fs = regrouped s (item (integer (label_in labels i))) (item d) (keyed_fields (Some labels) fs)

-- no field
pub no_field : {W E : Type 0} {written : W → Option (List ℕ)} {refuses : W → Error → Type 0} {references : W → List ℕ} {capacity : W → Option ℕ} {old : Serializer W} {o : Option Error} (labels : Option (List ℤ))
    → Stepped {T = Unit {0}} {E = E} written refuses references capacity old (keyed_fields labels no_fields) old (Ok tt) o
unfolding part_bytes
no_field None = nothing_step nothing refl tt tt
no_field (Some labels) = nothing_step (ending (Some 0)) refl tt tt

-- what holds of whatever there is
pub each_held : {A : Type 0} {Q : A → Type 0} (o : Option A) → ((a : A) → Q a) → IfSome o Q
each_held None f = tt
each_held (Some a) f = f a
