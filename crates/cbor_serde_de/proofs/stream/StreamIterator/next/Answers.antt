use Rattle.std.proofs.Common.{ap, inr, subst, sym}
use Rattle.std.specs.Io.KnownBytes.{Keeps, prepend_known}
use Rattle.cbor_serde_de.proofs.Items.{gives_fault, gives_front, gives_none, item_taken, item_unread}
use Rattle.cbor_serde_de.specs.Streams.{standing}
use Rattle.cbor_serde_de.proofs.stream.StreamIterator.next.Goals as goal

pub returns-in-Ok-clause-steps : goal.returns-in-Ok-clause-steps
returns-in-Ok-clause-steps g c =
    let remaining = g.R.Read.remaining in
    let levels = c.args.self.now.options.levels in
    let old = c.args.self.now.kept in
    let mid = c.next_item.new.self in
    let new = c.read_front.new.self in
    let h = c.in-Ok.ensures in
    gives_front remaining levels old mid (standing remaining c.args.self.now) (standing remaining new) c.read_front.result h.item.item c.if-self.false h.item.begins.acceptable
    (item_taken remaining levels old mid c.in-Ok.end h.item (remaining new.kept.reader) new.kept.bytes.items h.more (ap remaining c.read_front.ensures.reader) c.read_front.ensures.bytes)
    (item_unread remaining levels old mid c.in-Ok.end h.item h.more) c.read_front.ensures.options c.read_front.ensures.done

pub returns-in-Some-clause-steps : goal.returns-in-Some-clause-steps
returns-in-Some-clause-steps g c = record {
  going = c.if-self.false;
  why = gives_fault g.R.Read.remaining c.args.self.now.options.levels c.args.self.now.kept c.next_item.new.self c.in-Some.error c.in-Err.fault c.in-Err.ensures c.in-Some.ensures.fault;
  done = c.end_by.ensures.done;
  options = c.end_by.ensures.options;
}

pub returns-in-None-clause-steps : goal.returns-in-None-clause-steps
returns-in-None-clause-steps g c =
    let remaining = g.R.Read.remaining in
    let old = c.args.self.now.kept in
    let none = gives_none remaining c.args.self.now.options.levels old c.next_item.new.self c.in-Err.fault c.in-Err.ensures c.in-None.ensures.fault in
    record {
      why = inr none.0;
      stays = subst (λ k. Keeps (prepend_known old.bytes.items (remaining old.reader)) (prepend_known k.bytes.items (remaining k.reader))) (sym c.end_by.ensures.kept) none.1;
      done = c.end_by.ensures.done;
      options = c.end_by.ensures.options;
    }
