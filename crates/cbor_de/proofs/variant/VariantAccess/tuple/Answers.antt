use Rattle.std.proofs.Common.{refl}
use Rattle.cbor_decode_as.proofs.facts.Enums.{parts_inside}
use Rattle.cbor_de.proofs.variant.VariantAccess.tuple.Goals as goal

pub returns-in-Ok : goal.returns-in-Ok
returns-in-Ok g c = (
  (refl, (λ w. refl), tt),
  record {
    rests = tt;
    same_reference = refl;
    head = c.in-Ok.ensures.read;
    refused = tt;
    opened = c.in-Ok.ensures.opened;
    unopened = tt;
    alone = tt;
    fault = tt;
    memory = tt;
    no_form = tt;
    settings = record {
      outer = refl;
      inside = parts_inside c.args.self.form c.args.self.de.now.decoder.levels c.parts.new.decoder.levels c.args.self.outer c.requires c.in-Ok.ensures.inside;
      formats = c.in-Ok.ensures.formats;
    };
  },
)
