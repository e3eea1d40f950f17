-- What the steps of a run over a sequence do.
use Rattle.std.specs.Prelude.{◌⊎◌, List, ◌++◌, ℕ, Option}
use Rattle.std.specs.Io.KnownBytes.{Appends, Keeps}
use Rattle.cbor_model.specs.Plain.{Val}
use Rattle.serde_cbor.specs.Gives.{IsMemoryOrFault}
use Rattle.serde_cbor.specs.declared.error.Error.{Error}
use Rattle.cbor_tool.specs.declared.sequence.Form.{Form}
use Rattle.cbor_tool.specs.Sequence.{IsShown}

-- the answer to an item of this value was written
pub record AppendsAnswer (form : Form) (v : Val) (old new : Option (List ℕ)) : Type 0 where
  pub answer : List ℕ
  pub shown : IsShown form v answer
  pub written : Appends old new answer

-- a prefix of it was
pub record AppendsPrefix (form : Form) (v : Val) (old new : Option (List ℕ)) : Type 0 where
  pub begun : List ℕ
  pub missing : List ℕ
  pub shown : IsShown form v (begun ++ missing)
  pub written : Appends old new begun

-- Memory ran out, or the writer failed, once nothing was written of the answer, or a prefix.
pub record FailsAnswering (form : Form) (v : Val) (e : Error) (old new : Option (List ℕ)) : Type 0
  where
    pub why : IsMemoryOrFault e
    pub written : Keeps old new ⊎ AppendsPrefix form v old new
