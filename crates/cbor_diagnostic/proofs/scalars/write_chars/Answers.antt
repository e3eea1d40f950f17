use Rattle.std.proofs.Common.{flat_map, sym, ap, ◌∙◌, map-id}
use Rattle.std.proofs.lemmas.Iterator.{YieldsList-from_chars}
use Rattle.std.proofs.lemmas.Iterator.Consumers.{YieldsList-end}
use Rattle.cbor_diagnostic.specs.Texts.{escaped}
use Rattle.cbor_diagnostic.proofs.Printing.{wrote_then, same_text}
use Rattle.cbor_diagnostic.proofs.Characters.{flat_map_push}
use Rattle.cbor_diagnostic.proofs.scalars.write_chars.Goals as goal

pub loop-c-preserved : goal.loop-c-preserved
loop-c-preserved g c = same_text (flat_map_push escaped c.loop-c.yielded c.in-Some.c) (wrote_then c.loop-c.invariant c.in_ok-write_char.ensures)

pub returns : goal.returns
returns g c =
    let end = YieldsList-end (YieldsList-from_chars c.args.text.now c.utf8.text cc) c.loop-c.yielded _ c.loop-c.yielded_by _ _ c.in-None.is c.next.ensures.steps in
    same_text (ap (flat_map escaped) (sym (map-id c.loop-c.yielded) ∙ end.0)) c.loop-c.invariant
