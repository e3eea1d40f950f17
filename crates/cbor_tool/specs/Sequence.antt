-- What the program answers to the items of a sequence (RFC 8742).
use Rattle.std.specs.Prelude.{◌≡◌, ◌⊎◌, ℕ, ◌-◌, List, [], ◌∷◌, ◌++◌, length, map}
use Rattle.std.specs.Prelude.{Option, Some, None}
use Rattle.std.specs.Io.KnownBytes.{Appends}
use Rattle.cbor_model.specs.Acceptable.{max_depth}
use Rattle.cbor_model.specs.Allowed.{Limits}
use Rattle.cbor_model.specs.Canonical.{canon}
use Rattle.cbor_model.specs.Plain.{Val}
use Rattle.cbor_model.specs.Raw.{Raw}
use Rattle.cbor_model.specs.RawReader.{Begins}
use Rattle.cbor_model.specs.Value.{value}
use Rattle.cbor_diagnostic.specs.Notation.{IsNotation, pretty}
use Rattle.serde_cbor.specs.Items.{ItemsBegin, AreItems}
use Rattle.serde_cbor.specs.declared.error.Error.{Error}
use Rattle.serde_cbor.specs.FirstRefusal.{ReportsFirst}
use Rattle.serde_cbor.specs.Gives.{IsMemoryOrFault}
use Rattle.cbor_tool.specs.declared.sequence.Form.{Form}
use Rattle.cbor_tool.specs.declared.sequence.Form.TheVariants.{Canonical, Notation}
use Rattle.cbor_tool.specs.declared.sequence.Form.TheVariants.{PrettyNotation}

-- one line of diagnostic notation, or several
pub record IsLine (indent : Option ℕ) (v : Val) (out : List ℕ) : Type 0 where
  pub text : List ℕ
  pub notation : IsNotation indent v text
  pub ended : out ≡ text ++ 0x0a ∷ []

-- what is answered to an item of this value
abbrev pub IsShown : Form → Val → List ℕ → Type 0
IsShown Canonical v out = out ≡ canon v
IsShown Notation v out = IsLine None v out
IsShown PrettyNotation v out = IsLine pretty v out

-- one answer for each of the values, in their order
abbrev pub AreShown : Form → List Val → List ℕ → Type 0
AreShown form [] output = output ≡ []
AreShown form (v ∷ vs) output = (answer others : List ℕ) × IsShown form v answer
    × AreShown form vs others × (output ≡ answer ++ others)

-- The input is a sequence of acceptable items. Their answers were written, and nothing else.
pub record AnswersSequence (form : Form) (input : List ℕ) (old new : Option (List ℕ)) : Type 0 where
  pub items : List Raw
  pub are : AreItems max_depth input items
  pub output : List ℕ
  pub shown : AreShown form (map value items) output
  pub written : Appends old new output

-- a prefix of the answer to an item that begins these bytes
pub record BeginsAnswer (form : Form) (rest begun : List ℕ) : Type 0 where
  pub item : Raw
  pub after : List ℕ
  pub begins : Begins max_depth rest item after
  pub missing : List ℕ
  pub shown : IsShown form (value item) (begun ++ missing)

-- what bounds an item that begins where these bytes do, of an input of so many
abbrev pub limits_behind : ℕ → List ℕ → Limits
limits_behind all rest = record { start = all - length rest; levels = max_depth; scratch = None }

-- Why a run stopped before these bytes: memory ran out, or a device failed, and of the next answer
-- this was written; or the error reports the first refusal that they allow, and nothing was.
pub data StopsBefore (form : Form) (e : Error) (all : ℕ) (rest begun : List ℕ) : Type 0 where
  failed : IsMemoryOrFault e → (begun ≡ []) ⊎ BeginsAnswer form rest begun
      → StopsBefore form e all rest begun
  refused : begun ≡ [] → ReportsFirst (limits_behind all rest) rest e
      → StopsBefore form e all rest begun

-- Some acceptable items begin the input. Their answers were written, and of the next what the reason
-- says.
pub record StopsSequence (form : Form) (e : Error) (input : List ℕ) (old new : Option (List ℕ))
    : Type 0 where
  pub items : List Raw
  pub rest : List ℕ
  pub begin : ItemsBegin max_depth input items rest
  pub output : List ℕ
  pub begun : List ℕ
  pub shown : AreShown form (map value items) output
  pub written : Appends old new (output ++ begun)
  pub why : StopsBefore form e (length input) rest begun
