use Rattle.std.proofs.Common.{◌∙◌, sym, ap}
use Rattle.std.specs.Option.{option_map}
use Rattle.cbor_value.specs.View.{view}
use Rattle.test_cbor.proofs.Lookups.{ascends, found, not_found}
use Rattle.test_cbor.proofs.lookup.text_in.Goals as goal

pub returns-in-Some : goal.returns-in-Some
returns-in-Some c =
    let value = c.args.value.now in
    let m = c.in-Map.map in
    found value m c.in-Map.is (view c.args.key.now) (view c.in-Some.found.now) c.text_of.result
    (sym (c.get.ensures (ascends value m c.in-Map.is c.requires)) ∙ ap (option_map (λ v. view v.now)) c.in-Some.is)
    c.text_of.ensures

pub returns-in-None : goal.returns-in-None
returns-in-None c text =
    let value = c.args.value.now in
    let m = c.in-Map.map in
    not_found value m c.in-Map.is (view c.args.key.now) text
    (sym (c.get.ensures (ascends value m c.in-Map.is c.requires)) ∙ ap (option_map (λ v. view v.now)) c.in-None.is)
