-- For which items it may take memory to pass over them: those that have a string in chunks.
use Rattle.std.specs.Prelude.{⊤, ◌≡◌, ℕ, Bool, true, List, Ok, ◌⊎◌}
use Rattle.cbor_model.specs.Formats as model
use Rattle.cbor_model.specs.Raw.{Raw, Raws, no_raws, raw, RawPairs, no_raw_pairs, raw_pair}
use Rattle.cbor_model.specs.Raw.{bytes_chunks, text_chunks, array, map, tag}
use Rattle.cbor_model.specs.RawReader.{raws_in}
use Rattle.cbor_model.specs.Reader.{Reads, Reading}
use Rattle.cbor_io.specs.declared.read_error.ReadErrorCode.{ReadErrorCode}
use Rattle.cbor_read.specs.Source.{Input, Lends, Asks, asks_for}
use Rattle.cbor_decode.specs.Decoder.{formats_of}
use Rattle.cbor_decode.specs.Gives.{Limits, limits, Reports}
use Rattle.cbor_decode.specs.declared.formats.Formats.{Formats}

-- an item that has a string in chunks, at any level
abbrev mutual
  pub HasChunks : Raw → Type 0
  HasChunks (bytes_chunks cs) = ⊤
  HasChunks (text_chunks cs) = ⊤
  HasChunks (array l rs) = SomeHasChunks rs
  HasChunks (map l ps) = SomePairHasChunks ps
  HasChunks (tag w n r) = HasChunks r
  HasChunks _ = ⊥

  -- one of the items is such
  pub SomeHasChunks : Raws → Type 0
  SomeHasChunks no_raws = ⊥
  SomeHasChunks (raw r rs) = HasChunks r ⊎ SomeHasChunks rs

  -- one of the keys and values is such
  pub SomePairHasChunks : RawPairs → Type 0
  SomePairHasChunks no_raw_pairs = ⊥
  SomePairHasChunks (raw_pair k v ps) = HasChunks k ⊎ (HasChunks v ⊎ SomePairHasChunks ps)

-- ---- what is read from a source

-- the reading of items as they are spelled, in these formats and within these limits
abbrev pub raws : model.Formats → Limits → Reading Raw Raws RawPairs
raws f l = raws_in f l.total l.room

abbrev pub raws_by : Formats → Limits → Reading Raw Raws RawPairs
raws_by f l = raws (formats_of f) l

-- of all that is read from s, P holds
abbrev pub AllRead : {A : Type 0} → (A → Type 0) → (Limits → List ℕ → Reads A) → Input → Type 0
AllRead {A = A} P read s = (bs : List ℕ) → Reports s bs → (x : A) (rest : List ℕ) → read (limits s bs) bs ≡ Ok (x, rest) → P x

-- ---- memory

-- memory may be asked for to skip bytes, or, where P holds, to join chunks
abbrev pub AsksWhere : Asks → Type 0 → Type 0
AsksWhere asks P = (asks.whole ≡ true) ⊎ ((asks.joined ≡ true) × P)

abbrev pub AsksForWhole : (ReadErrorCode → Bool) → Lends → Type 0
AsksForWhole refusals lends = (asks_for refusals lends).whole ≡ true

-- memory may be asked for to skip bytes, or to join chunks of what is read from s
abbrev pub AsksToSkip : {A : Type 0} → (ReadErrorCode → Bool) → Lends → (A → Type 0) → (Limits → List ℕ → Reads A) → Input → Type 0
AsksToSkip refusals lends chunks read s = AsksWhere (asks_for refusals lends) (AllRead chunks read s)
