-- How many arrays and maps are open.
use Rattle.std.proofs.Common.{◌≡◌, ◌<◌, List, length, true, reverse, subst, sym}
use Rattle.std.specs.Prelude.{nat_lt}
use Rattle.std.proofs.lemmas.Bool.{lt-ltb}
use Rattle.std.proofs.lemmas.List.{length-reverse}
use Rattle.cbor_serde_ser.specs.declared.level.Level.{Level}

pub few_around : (levels : List Level) → length levels < 127 → nat_lt (length (reverse levels)) 127 ≡ true
few_around levels few = lt-ltb (length (reverse levels)) 127 (subst (λ n. n < 127) (sym (length-reverse levels)) few)
