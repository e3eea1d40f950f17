-- What a slice that is rewritten is once a part of it was lent.
use Rattle.std.specs.Prelude.{◌≡◌, ℕ, ◌+◌, [], drop}
use Rattle.std.specs.Borrow.{RattleType}
use mir.Syntax.{named}
use Rattle.cbor_read.specs.contracts.mut_slice_read.MutSliceRead as mut_slice
use Rattle.cbor_read.specs.declared.mut_slice_read.MutSliceRead.{MutSliceRead}

-- The source's type, for clauses on what it is afterwards. `named 0` is the place of the slice's
-- lifetime in the signature.
abbrev pub mut_slice_row : RattleType
mut_slice_row = mut_slice.the_row (record { mir = named 0; lft = [] })

-- Some bytes went from the slice's front, and the others stay.
pub record CutOff (s t : MutSliceRead) : Type 0 where
  pub some : ℕ
  pub before : t.before ≡ s.before + some
  pub same : t.slice.now ≡ drop some s.slice.now
