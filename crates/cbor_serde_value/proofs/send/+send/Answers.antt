use Rattle.std.proofs.Common.{Some, sym, subst}
use Rattle.std.proofs.lemmas.Result.{on_ok_weaker}
use Rattle.serde.specs.Event.{Logs, seq_begins}
use Rattle.cbor_value.proofs.facts.Views.{count_views}
use Rattle.cbor_serde_value.proofs.send.+send.Goals as goal

pub send_array-returns : goal.send_array-returns
send_array-returns g t c =
    let first = g.S.Serializer.written c.begin_seq.new.self in
    let begun = subst (λ n. Logs (g.S.Serializer.written c.args.out.now) first (seq_begins (Some n))) (sym (count_views c.args.items.now)) c.in_ok-begin_seq.ensures in
    on_ok_weaker c.end_seq.result (λ e. (first, g.S.Serializer.written c.send_items.new.out, begun, c.in_ok-send_items.ensures, e)) c.end_seq.ensures
