use Rattle.std.proofs.Common.{◌<◌, [], length, inl, sym, ap, append-nil, arith}
use Rattle.std.proofs.lemmas.List.{length-append}
use Rattle.cbor_serde_de.proofs.Items.{rest_behind, within}
use Rattle.cbor_serde_de.proofs.Taking.{keeps_same}
use Rattle.cbor_serde_de.proofs.kept.Kept.end_behind.Goals as goal

pub returns-then-end-len : goal.returns-then-end-len
returns-then-end-len g c =
    let bytes = c.args.self.now.bytes.items in
    inl (record {
      more = keeps_same g.R.Read.remaining c.args.self.now;
      rest = rest_behind c.args.levels c.at.result bytes bytes [] c.args.end (sym (append-nil bytes)) c.requires (omega arith) c.at.ensures.code c.at.ensures.offset;
    })

pub returns-in-Ok : goal.returns-in-Ok
returns-in-Ok g c =
    let bytes = c.args.self.now.bytes.items in
    let all = c.take.new.self.bytes.items in
    let piece = c.in-Ok.ensures in
    let more : c.args.end < length all = omega (arith, within c.args.levels bytes c.args.end c.requires, piece.count, ap length piece.more.kept, length-append bytes piece.more.some) in
    inl (record {
      more = piece.more;
      rest = rest_behind c.args.levels c.at-in-Ok.result all bytes piece.more.some c.args.end piece.more.kept c.requires more c.at-in-Ok.ensures.code c.at-in-Ok.ensures.offset;
    })
