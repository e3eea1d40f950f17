-- What a service has read and written.
use Rattle.std.specs.Prelude.{◌≡◌, ◌⊎◌, ℕ, ◌+◌, List, [], ◌∷◌, ◌++◌, length, flat_map, Option}
use Rattle.std.specs.Prelude.{Result, Ok, Err}
use Rattle.std.specs.Io.KnownBytes.{Appends}
use Rattle.serde_cbor.specs.Gives.{IsMemoryOrFault}
use Rattle.serde_cbor.specs.Raw.{Raw}
use Rattle.serde_cbor.specs.Streamed.{AreMostValues, ValuesBegin}
use Rattle.serde_cbor.specs.declared.error.Error.{Error}
use Rattle.use_messages.specs.declared.service.Stopped.{Stopped}
use Rattle.use_messages.specs.declared.service.Stopped.TheVariants.{Broken, Unsent}

-- ---- what was served, of the bytes that a reader gives, to a writer

module _ {M : Type 0} (reads : Raw → M → Type 0) (reply : M → List ℕ) (bytes : List ℕ)
    (old new : Option (List ℕ)) where
  -- All the bytes are messages, and the reply to each was written.
  pub record ServedAll : Type 0 where
    pub messages : List M
    pub are : ValuesBegin reads bytes messages []
    pub written : Appends old new (flat_map reply messages)

  -- Each message of a list that the bytes begin with has its reply, and the rest stands at this
  -- offset: the list is the longest, or memory ran out there or the reader failed.
  pub record ServedUpTo (at : ℕ) (e : Error) : Type 0 where
    pub messages : List M
    pub rest : List ℕ
    pub are : ValuesBegin reads bytes messages rest
    pub place : at + length rest ≡ length bytes
    pub written : Appends old new (flat_map reply messages)
    pub broken : IsMemoryOrFault e ⊎ AreMostValues reads bytes messages rest

  -- Each message but the last that was read has its reply, and of the last one's a prefix was
  -- written.
  pub record ServedButOne : Type 0 where
    pub messages : List M
    pub last : M
    pub rest : List ℕ
    pub are : ValuesBegin reads bytes (messages ++ last ∷ []) rest
    pub front : List ℕ
    pub missing : List ℕ
    pub whole : front ++ missing ≡ reply last
    pub written : Appends old new (flat_map reply messages ++ front)

  abbrev pub Serves : Result (Unit {0}) Stopped → Type 0
  Serves (Ok u) = ServedAll
  Serves (Err (Broken at e)) = ServedUpTo at e
  Serves (Err (Unsent e)) = ServedButOne
