use Rattle.std.proofs.Common.{refl, sym, subst}
use Rattle.cbor_pushed.proofs.facts.Scans.{none_of_none}
use Rattle.cbor_read.specs.Source.{TookKept}
use Rattle.cbor_read.proofs.facts.Sources.{kept_none}
use Rattle.cbor_raw.proofs.Gathering.{took_more}
use Rattle.cbor_raw.proofs.gather.gather.Goals as goal

pub bytes-init : goal.bytes-init
bytes-init g c =
    let s = g.R.Source.source c.args.decoder.now.source in
    record {
      took = subst (TookKept s s) (sym c.new-bytes.ensures.items) (kept_none s);
      settings = record { levels = refl; formats = refl };
      follows = c.new-scan.ensures _ c.new-bytes.result.items;
      none = rw c.new-bytes.ensures.items (none_of_none _);
    }

pub returns-in-Ok-true-clause-ok : goal.returns-in-Ok-true-clause-ok
returns-in-Ok-true-clause-ok g c =
    let more = rw c.in-Ok-true.field-0-test at c.in-Ok-true.ensures.ok in
    record {
      took = took_more _ _ _ _ more.took _ c.bytes.invariant.took;
      item = rw c.bytes.invariant.settings.levels at more.item;
    }
