use Rattle.test_maps.proofs.in_place.replace.Goals as goal

pub returns-in-Some : goal.returns-in-Some
returns-in-Some c =
    λ ascend there. rw c.in-Some.is at (c.get_mut.follows.holds c.args.value ascend)
