use Rattle.cbor_de.proofs.parts.ItemLists.{none_left}
use Rattle.cbor_de.proofs.parts.ArrayFaults.{end_err}
use Rattle.cbor_de.proofs.item_list.UnitReadItems.read_items.Goals as goal

pub returns-clause-read : goal.returns-clause-read
returns-clause-read g c =
    let old = c.args.de.now.decoder in
    none_left old.formats old.levels c.args.remaining g.R.Source.refusals (g.R.Source.source old.source) (g.R.Source.source c.end.new.decoder.source) c.end.result c.end.ensures.read

pub returns-clause-fault : goal.returns-clause-fault
returns-clause-fault g c =
    let old = c.args.de.now.decoder in
    end_err g.R.Source.refusals old.levels c.args.remaining (g.R.Source.source old.source) (g.R.Source.source c.end.new.decoder.source) c.end.result c.end.ensures.read
