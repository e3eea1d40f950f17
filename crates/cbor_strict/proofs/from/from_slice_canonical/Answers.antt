use Rattle.cbor_strict.proofs.AtValue.{found, accepted, departs}
use Rattle.cbor_strict.proofs.from.from_slice_canonical.Goals as goal

pub returns-clause-found : goal.returns-clause-found
returns-clause-found c = found c.args.slice.now c.from_slice_canonical_as.result c.from_slice_canonical_as.ensures.answers.found

pub returns-clause-accepted : goal.returns-clause-accepted
returns-clause-accepted c = λ v spelt.
    accepted c.args.slice.now c.from_slice_canonical_as.result c.from_slice_canonical_as.ensures.answers.every v spelt

pub returns-clause-departs : goal.returns-clause-departs
returns-clause-departs c = λ v spelt.
    departs c.args.slice.now c.from_slice_canonical_as.result c.from_slice_canonical_as.ensures.answers.every v spelt
