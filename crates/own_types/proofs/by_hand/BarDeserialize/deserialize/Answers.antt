use Rattle.std.proofs.Common.{rules, ℕ, List, [], ◌∷◌, refl, ℤ, FitsSigned, w64, Bool, String, arith}
use Rattle.std.proofs.lemmas.Int.{to_z-of_z}
use Rattle.std.specs.Prelude.{map}
use Rattle.std.specs.Global.{Global}
use Rattle.std.specs.String.{string_bytes}
use Rattle.serde_cbor.specs.Raw.{Raw}
use Rattle.serde_cbor.specs.Readable.{PassesTags, IsSigned, IsBool, IsText}
use Rattle.serde_cbor.specs.Structs.{IsStruct, field}
use Rattle.serde_cbor.specs.Enums.{Content, variants, unit, newtype, tuple, part_then, no_part}
use Rattle.own_types.specs.declared.by_hand.TheConstants.{BAR, POINT}
use Rattle.own_types.specs.declared.by_hand.Bar.{Bar}
use Rattle.own_types.specs.declared.by_hand.Point.{Point}
use Rattle.own_types.specs.declared.by_hand.Bar.TheVariants as bar
use Rattle.serde_cbor.proofs.facts.Enums.{variant_is, variant_unread, unit_read, unit_unread, newtype_read, newtype_unread, tuple_begins, tuple_unread, part_read, part_unread, parts_left, parts_read}
use Rattle.own_types.proofs.by_hand.BarDeserialize.deserialize.Goals as goal

abbrev names : List (List ℕ)
names = map (λ n. n.now) BAR.now

abbrev number : Raw → ℤ → Type 0
number = PassesTags (IsSigned 9223372036854775807)

abbrev text : Raw → String Global → Type 0
text = PassesTags (λ r s. IsText r (string_bytes s))

abbrev flag : Raw → Bool → Type 0
flag = PassesTags IsBool

abbrev point : Raw → Point → Type 0
point = IsStruct (map (λ n. n.now) POINT.now) (field number (λ p. p.x) ∷ field number (λ p. p.y) ∷ [])

abbrev means : ℕ → Content → Bar → Type 0
means = variants (unit bar.Empty ∷ newtype number bar.Number ∷ tuple (part_then text (part_then flag no_part)) (λ y. bar.Flag y.0 y.1.0) ∷ newtype point (λ p. bar.Point p.x p.y) ∷ [])

pub returns-in_err-access-clause-read : goal.returns-in_err-access-clause-read
returns-in_err-access-clause-read g c = variant_unread names means c.args.de.now.decoder.formats _ _ _ _ c.in_err-access.ensures.refused c.from_residual.ensures.1 (search rules)

pub returns-in_err-unit-in-0-clause-read : goal.returns-in_err-unit-in-0-clause-read
returns-in_err-unit-in-0-clause-read g c =
    let so = variant_is names means 0 c.in_ok-access.ensures.head c.in_ok-access.ensures.formats (search rules) in
    unit_unread so bar.Empty refl _ _ _ c.in_err-unit-in-0.ensures.read c.from_residual-in_err-unit-in-0.ensures.1 (search rules)

pub returns-in_ok-unit-in-0-clause-read : goal.returns-in_ok-unit-in-0-clause-read
returns-in_ok-unit-in-0-clause-read g c =
    let so = variant_is names means 0 c.in_ok-access.ensures.head c.in_ok-access.ensures.formats (search rules) in
    unit_read so bar.Empty refl c.in_ok-unit-in-0.ensures.read (search rules)

pub returns-in_err-number-in-1-clause-read : goal.returns-in_err-number-in-1-clause-read
returns-in_err-number-in-1-clause-read g c =
    let so = variant_is names means 1 c.in_ok-access.ensures.head c.in_ok-access.ensures.formats (search rules) in
    newtype_unread so (λ f. number) _ refl _ _ _ c.in_err-number-in-1.ensures.read c.from_residual-in_err-number-in-1.ensures.1 (search rules)

pub returns-in_ok-number-in-1-clause-read : goal.returns-in_ok-number-in-1-clause-read
returns-in_ok-number-in-1-clause-read g c =
    let so = variant_is names means 1 c.in_ok-access.ensures.head c.in_ok-access.ensures.formats (search rules) in
    let fits : FitsSigned w64 c.in_ok-number-in-1.number = search rules in
    rw (to_z-of_z w64 c.in_ok-number-in-1.number fits) (newtype_read so (λ f. number) _ refl _ c.in_ok-number-in-1.ensures.read (search rules))

pub returns-in_err-parts-in-2-clause-read : goal.returns-in_err-parts-in-2-clause-read
returns-in_err-parts-in-2-clause-read g c =
    let so = variant_is names means 2 c.in_ok-access.ensures.head c.in_ok-access.ensures.formats (search rules) in
    tuple_unread so _ _ refl _ _ _ c.in_err-parts-in-2.ensures.refused c.from_residual-in_err-parts-in-2.ensures.1 (search rules)

pub returns-in_err-name-in-2-clause-read : goal.returns-in_err-name-in-2-clause-read
returns-in_err-name-in-2-clause-read g c =
    let so = variant_is names means 2 c.in_ok-access.ensures.head c.in_ok-access.ensures.formats (search rules) in
    let parts = tuple_begins so _ _ refl c.in_ok-parts-in-2.ensures.head c.in_ok-parts-in-2.ensures.settings.formats in
    part_unread (λ f. text) _ parts _ _ _ c.in_err-name-in-2.ensures.read c.from_residual-in_err-name-in-2.ensures.1 (search rules)

pub returns-in_err-flag-in-2-clause-read : goal.returns-in_err-flag-in-2-clause-read
returns-in_err-flag-in-2-clause-read g c =
    let so = variant_is names means 2 c.in_ok-access.ensures.head c.in_ok-access.ensures.formats (search rules) in
    let parts = tuple_begins so _ _ refl c.in_ok-parts-in-2.ensures.head c.in_ok-parts-in-2.ensures.settings.formats in
    let part0 = part_read (λ f. text) _ parts _ c.in_ok-name-in-2.ensures.read c.in_ok-name-in-2.ensures.settings.formats c.in_ok-name-in-2.ensures.settings.levels in
    part_unread (λ f. flag) _ part0 _ _ _ c.in_err-flag-in-2.ensures.read c.from_residual-in_err-flag-in-2.ensures.1 (search rules)

pub returns-in_err-end-in-2-clause-read : goal.returns-in_err-end-in-2-clause-read
returns-in_err-end-in-2-clause-read g c =
    let so = variant_is names means 2 c.in_ok-access.ensures.head c.in_ok-access.ensures.formats (search rules) in
    let parts = tuple_begins so _ _ refl c.in_ok-parts-in-2.ensures.head c.in_ok-parts-in-2.ensures.settings.formats in
    let part0 = part_read (λ f. text) _ parts _ c.in_ok-name-in-2.ensures.read c.in_ok-name-in-2.ensures.settings.formats c.in_ok-name-in-2.ensures.settings.levels in
    let part1 = part_read (λ f. flag) _ part0 _ c.in_ok-flag-in-2.ensures.read c.in_ok-flag-in-2.ensures.settings.formats c.in_ok-flag-in-2.ensures.settings.levels in
    parts_left part1 g.R.Source.refusals _ _ _ c.in_err-end-in-2.ensures.read c.from_residual-in_err-end-in-2.ensures.1 (search rules)

pub returns-in_ok-end-in-2-clause-read : goal.returns-in_ok-end-in-2-clause-read
returns-in_ok-end-in-2-clause-read g c =
    let so = variant_is names means 2 c.in_ok-access.ensures.head c.in_ok-access.ensures.formats (search rules) in
    let parts = tuple_begins so _ _ refl c.in_ok-parts-in-2.ensures.head c.in_ok-parts-in-2.ensures.settings.formats in
    let part0 = part_read (λ f. text) _ parts _ c.in_ok-name-in-2.ensures.read c.in_ok-name-in-2.ensures.settings.formats c.in_ok-name-in-2.ensures.settings.levels in
    let part1 = part_read (λ f. flag) _ part0 _ c.in_ok-flag-in-2.ensures.read c.in_ok-flag-in-2.ensures.settings.formats c.in_ok-flag-in-2.ensures.settings.levels in
    parts_read part1 c.in_ok-end-in-2.ensures.read (search rules)

pub returns-in_err-point-in_default-clause-read : goal.returns-in_err-point-in_default-clause-read
returns-in_err-point-in_default-clause-read g c =
    let so = variant_is names means 3 c.in_ok-access.ensures.head c.in_ok-access.ensures.formats (omega (arith, c.in_default, c.index.ensures, c.in_ok-access.ensures.below)) in
    newtype_unread so (λ f. point) (λ p. bar.Point p.x p.y) refl _ _ _ c.in_err-point-in_default.ensures.read c.from_residual-in_err-point-in_default.ensures.1 (search rules)

pub returns-in_ok-point-in_default-clause-read : goal.returns-in_ok-point-in_default-clause-read
returns-in_ok-point-in_default-clause-read g c =
    let so = variant_is names means 3 c.in_ok-access.ensures.head c.in_ok-access.ensures.formats (omega (arith, c.in_default, c.index.ensures, c.in_ok-access.ensures.below)) in
    let read = c.in_ok-point-in_default.point in
    let x : FitsSigned w64 read.x = search rules in
    let y : FitsSigned w64 read.y = search rules in
    rw (to_z-of_z w64 read.x x, to_z-of_z w64 read.y y) (newtype_read so (λ f. point) (λ p. bar.Point p.x p.y) refl _ c.in_ok-point-in_default.ensures.read (search rules))
