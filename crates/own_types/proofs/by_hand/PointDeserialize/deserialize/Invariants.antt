use Rattle.std.proofs.Common.{ℕ, List, [], ◌∷◌}
use Rattle.std.specs.Prelude.{map}
use Rattle.serde_cbor.specs.Readable.{PassesTags, IsSigned}
use Rattle.serde_cbor.specs.Accesses.{most_left}
use Rattle.serde_cbor.specs.Structs.{FieldOf, field}
use Rattle.own_types.specs.declared.by_hand.TheConstants.{POINT}
use Rattle.own_types.specs.declared.by_hand.Point.{Point}
use Rattle.serde_cbor.proofs.facts.Structs.{FieldsSoFar}
use Rattle.own_types.proofs.by_hand.PointDeserialize.deserialize.Given as goal

abbrev pub names : List (List ℕ)
names = map (λ n. n.now) POINT.now

abbrev pub fields : List (FieldOf Point)
fields = field (PassesTags (IsSigned 9223372036854775807)) (λ p. p.x) ∷ field (PassesTags (IsSigned 9223372036854775807)) (λ p. p.y) ∷ []

abbrev pub invariant-fields : goal.invariant-fields
invariant-fields g l = FieldsSoFar names fields g.R.Source.source l.fn.de l.initial.access l.access (l.x, (l.y, tt))

abbrev pub decreases-fields : goal.decreases-fields
decreases-fields g l = most_left l.access.remaining (g.R.Source.source l.access.de.now.decoder.source)
