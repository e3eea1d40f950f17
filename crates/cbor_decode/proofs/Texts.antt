-- Texts after their heads.
use Rattle.std.proofs.Common.{◌≡◌, ◌+◌, ◌-◌, ◌^◌, ℕ, List, length, Ok, Err, refl, ap, subst, arith, ltb, Bool, true, false}
use Rattle.cbor_model.specs.Formats.{all_formats}
use Rattle.cbor_model.specs.Head.{no_bytes}
use Rattle.cbor_model.specs.Plain as plain
use Rattle.cbor_model.specs.Raw.{Chunk, joined}
use Rattle.cbor_model.specs.Refusal.{length_out_of_range}
use Rattle.cbor_model.specs.Reader.{Fault, Reads, ◌>>=◌, bytes_at, chunks_at, checked_text, text_at, text_chunks_at, exceeds_most}
use Rattle.cbor_model.proofs.facts.Reader.{ok_is}
use Rattle.cbor_read.specs.Source.{Input}
use Rattle.cbor_decode.specs.Gives.{Limits, limits, values}
use Rattle.cbor_decode.specs.Heads.{joined_of}

-- ---- of a length

-- the place of a text, where so many bytes are left
ends_at : (s : Input) (bs : List ℕ) (n : ℕ) (b : Bool) → ltb (s.offset + n) (2 ^ 64) ≡ b → ltb ((limits s bs).total - length bs + n) (2 ^ 64) ≡ b
ends_at s bs n b h = subst (λ (k : ℕ). ltb (k + n) (2 ^ 64) ≡ b) (omega arith) h

pub no_room : (s : Input) (bs : List ℕ) (n : ℕ) → ltb (s.offset + n) (2 ^ 64) ≡ false → text_at (values all_formats (limits s bs)) no_bytes n bs ≡ Err (record { why = length_out_of_range; left = length bs })
unfolding text_at
no_room s bs n h = rw (ends_at s bs n false h) refl

pub has_room : (s : Input) (bs b rest : List ℕ) (n : ℕ) → ltb (s.offset + n) (2 ^ 64) ≡ true → bytes_at n bs ≡ Ok (b, rest) → text_at (values all_formats (limits s bs)) no_bytes n bs ≡ checked_text (values all_formats (limits s bs)) (plain.text b) b rest
unfolding text_at
has_room s bs b rest n h is = rw (ends_at s bs n true h, is) refl

pub text_stop : (s : Input) (bs : List ℕ) (n : ℕ) (f : Fault) → ltb (s.offset + n) (2 ^ 64) ≡ true → bytes_at n bs ≡ Err f → text_at (values all_formats (limits s bs)) no_bytes n bs ≡ Err f
unfolding text_at
text_stop s bs n f h is = rw (ends_at s bs n true h, is) refl

-- ---- in chunks

-- the bytes of the chunks, where they could be read
of_joined : (l : Limits) (read : Reads (List Chunk)) (b after : List ℕ) → joined_of read ≡ Ok (b, after)
    → (read >>= (λ cs. checked_text (values all_formats l) (plain.text (joined cs.0)) (joined cs.0) cs.1)) ≡ checked_text (values all_formats l) (plain.text b) b after
of_joined l (Ok cs) b after h = ap (λ (p : List ℕ × List ℕ). checked_text (values all_formats l) (plain.text p.0) p.0 p.1) (ok_is (joined cs.0, cs.1) (b, after) h)
of_joined l (Err f) b after h = absurd cc

of_fault : (l : Limits) (read : Reads (List Chunk)) (f : Fault) → joined_of read ≡ Err f → (read >>= (λ cs. checked_text (values all_formats l) (plain.text (joined cs.0)) (joined cs.0) cs.1)) ≡ Err f
of_fault l (Ok cs) f h = absurd cc
of_fault l (Err g) f h = cc

pub text_joined : (l : Limits) (bs b after : List ℕ) → joined_of (chunks_at (exceeds_most l.room) 0 3 bs) ≡ Ok (b, after) → text_chunks_at (values all_formats l) bs ≡ checked_text (values all_formats l) (plain.text b) b after
unfolding text_chunks_at
text_joined l bs b after h = of_joined l (chunks_at (exceeds_most l.room) 0 3 bs) b after h

pub text_fault : (l : Limits) (bs : List ℕ) (f : Fault) → joined_of (chunks_at (exceeds_most l.room) 0 3 bs) ≡ Err f → text_chunks_at (values all_formats l) bs ≡ Err f
unfolding text_chunks_at
text_fault l bs f h = of_fault l (chunks_at (exceeds_most l.room) 0 3 bs) f h
