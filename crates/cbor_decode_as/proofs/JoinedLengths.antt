-- An item's strings in chunks, joined, are no longer than the item.
use Rattle.std.specs.Prelude.{flat_map}
use Rattle.std.proofs.Common.{◌≤◌, ℕ, List, [], ◌∷◌, ◌++◌, length, Option, None, Some, IfSome, arith}
use Rattle.std.proofs.lemmas.List.{length-append}
use Rattle.cbor_model.specs.Formats.{Formats}
use Rattle.cbor_model.specs.Head.{head}
use Rattle.cbor_model.specs.Raw as raw
use Rattle.cbor_model.specs.Raw.{definite, indefinite, Raw, Raws, no_raws, RawPairs, no_raw_pairs, raw_pair, Chunk, joined, longest_joined, longest_joined_all, longest_joined_pairs}
use Rattle.cbor_model.specs.Spelling.{spell, spell_all, spell_pairs, chunk, break}
use Rattle.cbor_decode_as.specs.RawItems.{StandsWithin}

joined-le : (major : ℕ) (cs : List Chunk) → length (joined cs) ≤ length (flat_map (chunk major) cs)
joined-le major [] = omega arith
joined-le major (c ∷ cs) =
    omega (arith, joined-le major cs, length-append c.bytes (joined cs), length-append (chunk major c) (flat_map (chunk major) cs), length-append (head major c.width (length c.bytes)) c.bytes)

mutual
  unfolding spell

  longest_joined-le : (r : Raw) → longest_joined r ≤ length (spell r)
  longest_joined-le (raw.bytes_chunks cs) = omega (arith, joined-le 2 cs, length-append (flat_map (chunk 2) cs) break)
  longest_joined-le (raw.text_chunks cs) = omega (arith, joined-le 3 cs, length-append (flat_map (chunk 3) cs) break)
  longest_joined-le (raw.array (definite w) rs) = omega (arith, longest_joined_all-le rs, length-append (head 4 w (raw.count rs)) (spell_all rs))
  longest_joined-le (raw.array indefinite rs) = omega (arith, longest_joined_all-le rs, length-append (spell_all rs) break)
  longest_joined-le (raw.map (definite w) ps) = omega (arith, longest_joined_pairs-le ps, length-append (head 5 w (raw.pair_count ps)) (spell_pairs ps))
  longest_joined-le (raw.map indefinite ps) = omega (arith, longest_joined_pairs-le ps, length-append (spell_pairs ps) break)
  longest_joined-le (raw.tag w n r) = omega (arith, longest_joined-le r, length-append (head 6 w n) (spell r))
  longest_joined-le _ = omega arith

  longest_joined_all-le : (rs : Raws) → longest_joined_all rs ≤ length (spell_all rs)
  longest_joined_all-le no_raws = omega arith
  longest_joined_all-le (raw.raw r rs) = omega (arith, longest_joined-le r, longest_joined_all-le rs, length-append (spell r) (spell_all rs))

  longest_joined_pairs-le : (ps : RawPairs) → longest_joined_pairs ps ≤ length (spell_pairs ps)
  longest_joined_pairs-le no_raw_pairs = omega arith
  longest_joined_pairs-le (raw_pair k v ps) =
      omega (arith, longest_joined-le k, longest_joined-le v, longest_joined_pairs-le ps, length-append (spell k) (spell v ++ spell_pairs ps), length-append (spell v) (spell_pairs ps))

-- an item that is no longer than the room fits it
pub stands_in_room : (f : Formats) (levels : ℕ) (room : Option ℕ) (bytes : List ℕ) (end : ℕ) → StandsWithin f levels None bytes end → IfSome room (λ most. end ≤ most) → StandsWithin f levels room bytes end
stands_in_room f levels None bytes end there enough = there
stands_in_room f levels (Some most) bytes end there enough =
    record { item = there.item; rest = there.rest; begins = there.begins; keys = there.keys; fits = omega (arith, enough, there.ends, longest_joined-le there.item); ends = there.ends }
