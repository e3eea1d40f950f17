use Rattle.std.proofs.Common.{refl, sym, subst}
use Rattle.cbor_io.specs.Error.{IsOutOfMemory}
use Rattle.cbor_pushed.proofs.facts.Scans.{none_of_none}
use Rattle.cbor_read.specs.Source.{TookKept}
use Rattle.cbor_read.proofs.facts.Sources.{kept_none}
use Rattle.cbor_raw.specs.Gathered.{GathersNone}
use Rattle.cbor_raw.proofs.facts.Gathered.{took_more}
use Rattle.cbor_rules.specs.RawByRules.{ShowsDeparture}
use Rattle.cbor_rules.specs.Rules.{under}
use Rattle.cbor_rules.proofs.RawByRules.{gathers, if_departs, if_unread, may_begin, not_both, shows_departure, without_memory}
use Rattle.cbor_rules.proofs.raw.item_by_rules.Goals as goal
use Rattle.cbor_rules.proofs.raw.item_by_rules.Goals.{then-is_whole+in-Ok-depart, else-is_whole+else-is_power_of_two}

pub bytes-init : goal.bytes-init
bytes-init g c =
    let s = g.R.Source.source c.args.de.now.decoder.source in
    record {
      took = subst (TookKept s s) (sym c.new-bytes.ensures.items) (kept_none s);
      settings = record { levels = refl; formats = refl };
      follows = c.new-scan.ensures _ c.new-bytes.result.items;
      none = rw c.new-bytes.ensures.items (none_of_none _);
    }

pub returns-in-Err-depart-clause-departed : goal.returns-in-Err-depart-clause-departed
returns-in-Err-depart-clause-departed g c =
    let s = g.R.Source.source c.args.de.now.decoder.source in
    let t = g.R.Source.source c.take_more.new.de.decoder.source in
    let levels = c.args.de.now.decoder.levels in
    let terms = under c.args.rules c.args.tags.now in
    let front = c.take_more.new.bytes.items in
    let took = took_more _ _ _ _ c.in-Ok.ensures.ok.took s c.bytes.invariant.took in
    let item = rw c.bytes.invariant.settings.levels at c.in-Ok.ensures.ok.item in
    if_departs _ (ShowsDeparture terms levels s t) (λ d shown. shows_departure s t front took terms levels d (may_begin levels front c.in-Ok.is_whole item) (rw (c.deref.ensures.value, c.offset-start.ensures) at shown)) c.in-Err-depart.refusal c.in-Err-depart.ensures.shown

pub returns-in-Err-depart-clause-unread : goal.returns-in-Err-depart-clause-unread
returns-in-Err-depart-clause-unread g c =
    let s = g.R.Source.source c.args.de.now.decoder.source in
    let t = g.R.Source.source c.take_more.new.de.decoder.source in
    let levels = c.args.de.now.decoder.levels in
    let took = took_more _ _ _ _ c.in-Ok.ensures.ok.took s c.bytes.invariant.took in
    if_unread IsOutOfMemory (GathersNone g.R.Source.refusals levels s t) (λ e memory. without_memory s t c.take_more.new.bytes.items took g.R.Source.refusals levels e memory) c.in-Err-depart.refusal c.in-Err-depart.ensures.memory

pub returns-then-is_whole-2-clause-found : goal.returns-then-is_whole-2-clause-found
returns-then-is_whole-2-clause-found g c =
    let s = g.R.Source.source c.args.de.now.decoder.source in
    let t = g.R.Source.source c.take_more.new.de.decoder.source in
    let levels = c.args.de.now.decoder.levels in
    let terms = under c.args.rules c.args.tags.now in
    let bytes = c.take_more.new.bytes.items in
    let took = took_more _ _ _ _ c.in-Ok.ensures.ok.took s c.bytes.invariant.took in
    let item = rw (c.bytes.invariant.settings.levels, c.if-is_whole-2.true) at c.in-Ok.ensures.ok.item in
    elim c.if-is_whole.branch [
      | then-is_whole+in-Ok-depart w ↦ gathers s t bytes took terms levels item (rw w.deref.ensures.value at w.in-Ok-depart.ensures.kept)
      | else-is_whole+else-is_power_of_two w ↦ absurd (not_both c.in-Ok.is_whole c.if-is_whole-2.true w.if-is_whole.false)
    ]
