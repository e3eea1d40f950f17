-- Which head and which item is an array, or a map.
use Rattle.std.proofs.Common.{◌≡◌, ◌≢◌, refl, sym, ap, ◌∙◌}
use Rattle.cbor_model.specs.Raw as raw
use Rattle.cbor_model.specs.Raw.{Raw, Length}
use Rattle.cbor_model.specs.Readable.{untagged}
use Rattle.cbor_decode.specs.declared.cursor.Collection.{Collection}
use Rattle.cbor_decode.specs.declared.cursor.Collection.TheVariants as collection
use Rattle.cbor_decode.specs.declared.cursor.Remaining.{Remaining}
use Rattle.cbor_decode.specs.declared.head.Head.{Head}
use Rattle.cbor_decode.specs.declared.head.Head.TheVariants as head
use Rattle.cbor_decode_as.specs.Collections.{AsOne, HeldBy, head_of, raw_of}
use Rattle.cbor_decode_as.specs.Kinds.{Kind, kind_of, head_kind}
use Rattle.cbor_decode_as.specs.Kinds as kind
use Rattle.cbor_decode_as.proofs.heads.ItemsBehind.{within_none}

abbrev pub kind_in : Collection → Kind
kind_in collection.Array = kind.array
kind_in collection.Map = kind.map

-- ---- heads

no_array : (h : Head) → ((r : Remaining) → h ≢ head.Array r) → kind.array ≢ head_kind h
no_array (head.Unsigned n) other e = absurd cc
no_array (head.Negative n) other e = absurd cc
no_array (head.Bytes n) other e = absurd cc
no_array (head.Text n) other e = absurd cc
no_array (head.Array n) other e = other n refl
no_array (head.Map n) other e = absurd cc
no_array (head.Tag n) other e = absurd cc
no_array (head.Bool n) other e = absurd cc
no_array head.Null other e = absurd cc
no_array head.Undefined other e = absurd cc
no_array (head.Float n) other e = absurd cc
no_array head.Break other e = absurd cc

no_map : (h : Head) → ((r : Remaining) → h ≢ head.Map r) → kind.map ≢ head_kind h
no_map (head.Unsigned n) other e = absurd cc
no_map (head.Negative n) other e = absurd cc
no_map (head.Bytes n) other e = absurd cc
no_map (head.Text n) other e = absurd cc
no_map (head.Array n) other e = absurd cc
no_map (head.Map n) other e = other n refl
no_map (head.Tag n) other e = absurd cc
no_map (head.Bool n) other e = absurd cc
no_map head.Null other e = absurd cc
no_map head.Undefined other e = absurd cc
no_map (head.Float n) other e = absurd cc
no_map head.Break other e = absurd cc

-- a head that isn't that of one is of another kind
pub no_head : (of : Collection) (h : Head) → ((r : Remaining) → h ≢ head_of of r) → kind_in of ≢ head_kind h
no_head collection.Array = no_array
no_head collection.Map = no_map

pub not_tag : (of : Collection) (r : Remaining) → head_kind (head_of of r) ≢ kind.tag
not_tag collection.Array r is = absurd cc
not_tag collection.Map r is = absurd cc

-- ---- items

pub untagged_one : (of : Collection) (n : Length) (rs : HeldBy of) → untagged (raw_of of n rs) ≡ raw_of of n rs
untagged_one collection.Array n rs = refl
untagged_one collection.Map n rs = refl

module _ {A : Type 0} where
  pub as_one : (of : Collection) (held : HeldBy of → A → Type 0) (n : Length) (rs : HeldBy of) (x : A) → held rs x → AsOne of held (raw_of of n rs) x
  as_one collection.Array held n rs x h = h
  as_one collection.Map held n rs x h = h

  pub one_holds : (of : Collection) (held : HeldBy of → A → Type 0) (n : Length) (rs : HeldBy of) (x : A) → AsOne of held (raw_of of n rs) x → held rs x
  one_holds collection.Array held n rs x h = h
  one_holds collection.Map held n rs x h = h

  -- what is read as one holds something, within its tags
  pub some_held : (of : Collection) (held : HeldBy of → A → Type 0) (r : Raw) (x : A) → AsOne of held r x → (n : Length) × (rs : HeldBy of) × (r ≡ raw_of of n rs)
  some_held collection.Array held (raw.unsigned w m) x h = absurd h
  some_held collection.Array held (raw.negative w m) x h = absurd h
  some_held collection.Array held (raw.bytes c) x h = absurd h
  some_held collection.Array held (raw.text c) x h = absurd h
  some_held collection.Array held (raw.bytes_chunks cs) x h = absurd h
  some_held collection.Array held (raw.text_chunks cs) x h = absurd h
  some_held collection.Array held (raw.array n rs) x h = (n, rs, refl)
  some_held collection.Array held (raw.map n rs) x h = absurd h
  some_held collection.Array held (raw.tag w m r) x h = absurd h
  some_held collection.Array held (raw.simple s) x h = absurd h
  some_held collection.Array held (raw.float w bits) x h = absurd h
  some_held collection.Map held (raw.unsigned w m) x h = absurd h
  some_held collection.Map held (raw.negative w m) x h = absurd h
  some_held collection.Map held (raw.bytes c) x h = absurd h
  some_held collection.Map held (raw.text c) x h = absurd h
  some_held collection.Map held (raw.bytes_chunks cs) x h = absurd h
  some_held collection.Map held (raw.text_chunks cs) x h = absurd h
  some_held collection.Map held (raw.array n rs) x h = absurd h
  some_held collection.Map held (raw.map n rs) x h = (n, rs, refl)
  some_held collection.Map held (raw.tag w m r) x h = absurd h
  some_held collection.Map held (raw.simple s) x h = absurd h
  some_held collection.Map held (raw.float w bits) x h = absurd h

pub one_is : (of : Collection) (n : Length) (rs : HeldBy of) → kind_of (raw_of of n rs) ≡ kind_in of
one_is collection.Array n rs = refl
one_is collection.Map n rs = refl

-- an item without a tag that is read as one is of its kind
pub one_kind : (of : Collection) {A : Type 0} (held : HeldBy of → A → Type 0) (r : Raw) (x : A) → AsOne of held (untagged r) x → kind_of r ≢ kind.tag → kind_of r ≡ kind_in of
one_kind of held r x h other =
    let one = some_held of held (untagged r) x h in
    ap kind_of (sym (within_none r other) ∙ one.2) ∙ one_is of one.0 one.1
