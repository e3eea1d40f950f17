use Rattle.std.proofs.Common.{arith, ◌≡◌, ◌+◌, ◌-◌, length, sym, ap, ◌∙◌}
use Rattle.std.proofs.lemmas.List.{drop-drop}
use Rattle.std.proofs.lemmas.Slice.{drop-put_mid}
use Rattle.cbor_io.proofs.write.slice_write.SliceWriteWrite.write_all.Goals as goal

pub returns-clause-behind : goal.returns-clause-behind
returns-clause-behind c =
    let s = c.args.self.now in
    let n = length c.args.buf.now in
    let copied = c.copy_from_slice.new.self in
    let len : length copied ≡ s.count + n - s.count = ap length c.copy_from_slice.ensures.after
    ∙ omega arith in
    drop-put_mid s.count (s.count + n - s.count) s.slice.now copied (s.count + n)
    (omega arith) s.within len
    ∙ sym (drop-drop n s.count s.slice.now)
