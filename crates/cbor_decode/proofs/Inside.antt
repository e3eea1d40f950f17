-- What lies one level further in, and strings.
use Rattle.std.proofs.Common.{◌≡◌, ◌+◌, ℕ, zero, suc, List, Some, Ok, Err, refl, ap, arith, length}
use Rattle.cbor_model.specs.Formats.{Formats, all_formats}
use Rattle.cbor_model.specs.Head.{no_bytes}
use Rattle.cbor_model.specs.Raw.{Chunk, joined, indefinite}
use Rattle.cbor_model.specs.Plain.{Val, Vals, Pairs, no_pairs}
use Rattle.cbor_model.specs.Plain as plain
use Rattle.cbor_model.specs.Refusal.{too_deep}
use Rattle.cbor_model.specs.Reader.{Fault, Reads, ◌>>=◌, byte_at, bytes_at, string_at, string_chunks_at, chunks_at, exceeds_most, array_at, map_at, tag_at, parts_at, items_of, pairs_of, after_first, item_at, item_by, inside, Remaining}
use Rattle.cbor_model.proofs.facts.Reader.{ok_is}
use Rattle.cbor_decode.specs.Gives.{Limits, values}
use Rattle.cbor_decode.specs.Heads.{made_of, joined_of}

-- ---- no level is left

pub array_too_deep : (f : Formats) (l : Limits) (levels : ℕ) (r : Remaining) (bs : List ℕ) → levels ≡ 0 → array_at (values f l) (inside (values f l) levels) indefinite r bs ≡ Err (record { why = too_deep; left = length bs })
unfolding array_at
array_too_deep f l levels r bs none = rw none refl

pub map_too_deep : (f : Formats) (l : Limits) (levels : ℕ) (r : Remaining) (bs : List ℕ) → levels ≡ 0 → map_at (values f l) (inside (values f l) levels) indefinite r bs ≡ Err (record { why = too_deep; left = length bs })
unfolding map_at
map_too_deep f l levels r bs none = rw none refl

pub tag_too_deep : (f : Formats) (l : Limits) (levels n : ℕ) (bs : List ℕ) → levels ≡ 0 → tag_at (values f l) (inside (values f l) levels) no_bytes n bs ≡ Err (record { why = too_deep; left = length bs })
unfolding tag_at
tag_too_deep f l levels n bs none = rw none refl

-- ---- a level is left

one_in : (f : Formats) (l : Limits) (levels left : ℕ) → levels ≡ left + 1 → inside (values f l) levels ≡ Some (item_at (values f l) left)
one_in f l levels left is = ap (λ (n : ℕ). inside (values f l) n) next
  where
    next : levels ≡ suc left
    next = omega (arith, is)

module _ (f : Formats) (l : Limits) (levels left : ℕ) where
  pub array_inside : (r : Remaining) (bs rest : List ℕ) (vs : Vals) → levels ≡ left + 1 → parts_at (items_of (values f l) (item_at (values f l) left)) r bs ≡ Ok (vs, rest) → array_at (values f l) (inside (values f l) levels) indefinite r bs ≡ Ok (plain.array vs, rest)
  unfolding array_at
  array_inside r bs rest vs is read = rw (one_in f l levels left is, read) refl

  pub array_stops : (r : Remaining) (bs : List ℕ) (d : Fault) → levels ≡ left + 1 → parts_at (items_of (values f l) (item_at (values f l) left)) r bs ≡ Err d → array_at (values f l) (inside (values f l) levels) indefinite r bs ≡ Err d
  unfolding array_at
  array_stops r bs d is read = rw (one_in f l levels left is, read) refl

  abbrev as_map : Reads (Pairs → Pairs) → Reads Val
  as_map read = read >>= (λ pairs. Ok (plain.map (pairs.0 no_pairs), pairs.1))

  made_read : (read : Reads (Pairs → Pairs)) (ps : Pairs) (rest : List ℕ) → made_of read ≡ Ok (ps, rest) → as_map read ≡ Ok (plain.map ps, rest)
  made_read (Ok x) ps rest e = ap (λ (p : Pairs × List ℕ). Ok (plain.map p.0, p.1)) (ok_is (x.0 no_pairs, x.1) (ps, rest) e)
  made_read (Err d) ps rest e = absurd cc

  made_stops : (read : Reads (Pairs → Pairs)) (d : Fault) → made_of read ≡ Err d → as_map read ≡ Err d
  made_stops (Ok x) d e = absurd cc
  made_stops (Err g) d e = cc

  pub map_inside : (r : Remaining) (bs rest : List ℕ) (ps : Pairs) → levels ≡ left + 1 → made_of (parts_at (pairs_of (values f l) (item_at (values f l) left)) r bs) ≡ Ok (ps, rest) → map_at (values f l) (inside (values f l) levels) indefinite r bs ≡ Ok (plain.map ps, rest)
  unfolding map_at
  map_inside r bs rest ps is read = rw (one_in f l levels left is) (made_read (parts_at (pairs_of (values f l) (item_at (values f l) left)) r bs) ps rest read)

  pub map_stops : (r : Remaining) (bs : List ℕ) (d : Fault) → levels ≡ left + 1 → made_of (parts_at (pairs_of (values f l) (item_at (values f l) left)) r bs) ≡ Err d → map_at (values f l) (inside (values f l) levels) indefinite r bs ≡ Err d
  unfolding map_at
  map_stops r bs d is read = rw (one_in f l levels left is) (made_stops (parts_at (pairs_of (values f l) (item_at (values f l) left)) r bs) d read)

  pub tag_inside : (n : ℕ) (bs rest : List ℕ) (v : Val) → levels ≡ left + 1 → item_at (values f l) left bs ≡ Ok (v, rest) → tag_at (values f l) (inside (values f l) levels) no_bytes n bs ≡ Ok (plain.tag n v, rest)
  unfolding tag_at
  tag_inside n bs rest v is read = rw (one_in f l levels left is, read) refl

  pub tag_stops : (n : ℕ) (bs : List ℕ) (d : Fault) → levels ≡ left + 1 → item_at (values f l) left bs ≡ Err d → tag_at (values f l) (inside (values f l) levels) no_bytes n bs ≡ Err d
  unfolding tag_at
  tag_stops n bs d is read = rw (one_in f l levels left is, read) refl

-- ---- the first byte of an item

pub value_first : (f : Formats) (l : Limits) (levels b : ℕ) (bs mid : List ℕ) → byte_at bs ≡ Ok (b, mid) → item_at (values f l) levels bs ≡ after_first (values f l) (inside (values f l) levels) b mid
unfolding item_at item_by
value_first f l zero b bs mid is = rw is refl
value_first f l (suc levels) b bs mid is = rw is refl

pub value_stops : (f : Formats) (l : Limits) (levels : ℕ) (bs : List ℕ) (d : Fault) → byte_at bs ≡ Err d → item_at (values f l) levels bs ≡ Err d
unfolding item_at item_by
value_stops f l zero bs d is = rw is refl
value_stops f l (suc levels) bs d is = rw is refl

-- ---- byte strings

pub bytes_read : (l : Limits) (n : ℕ) (bs b rest : List ℕ) → bytes_at n bs ≡ Ok (b, rest) → string_at (values all_formats l) no_bytes n bs ≡ Ok (plain.bytes b, rest)
unfolding string_at
bytes_read l n bs b rest is = rw is refl

pub bytes_stop : (l : Limits) (n : ℕ) (bs : List ℕ) (f : Fault) → bytes_at n bs ≡ Err f → string_at (values all_formats l) no_bytes n bs ≡ Err f
unfolding string_at
bytes_stop l n bs f is = rw is refl

abbrev as_bytes : Reads (List Chunk) → Reads Val
as_bytes read = read >>= (λ cs. Ok (plain.bytes (joined cs.0), cs.1))

of_joined : (read : Reads (List Chunk)) (b rest : List ℕ) → joined_of read ≡ Ok (b, rest) → as_bytes read ≡ Ok (plain.bytes b, rest)
of_joined (Ok cs) b rest h = ap (λ (p : List ℕ × List ℕ). Ok (plain.bytes p.0, p.1)) (ok_is (joined cs.0, cs.1) (b, rest) h)
of_joined (Err f) b rest h = absurd cc

of_fault : (read : Reads (List Chunk)) (f : Fault) → joined_of read ≡ Err f → as_bytes read ≡ Err f
of_fault (Ok cs) f h = absurd cc
of_fault (Err g) f h = cc

pub chunks_read : (l : Limits) (bs b rest : List ℕ) → joined_of (chunks_at (exceeds_most l.room) 0 2 bs) ≡ Ok (b, rest) → string_chunks_at (values all_formats l) bs ≡ Ok (plain.bytes b, rest)
unfolding string_chunks_at
chunks_read l bs b rest is = of_joined (chunks_at (exceeds_most l.room) 0 2 bs) b rest is

pub chunks_stop : (l : Limits) (bs : List ℕ) (f : Fault) → joined_of (chunks_at (exceeds_most l.room) 0 2 bs) ≡ Err f → string_chunks_at (values all_formats l) bs ≡ Err f
unfolding string_chunks_at
chunks_stop l bs f is = of_fault (chunks_at (exceeds_most l.room) 0 2 bs) f is
