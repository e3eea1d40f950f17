use Rattle.std.proofs.Common.{◌≡◌, ℕ, List, refl}
use Rattle.cbor_model.specs.Readable.{PassesTags}
use Rattle.cbor_parts.specs.declared.OneOf6.{OneOf6}
use Rattle.cbor_decode_as.specs.Identifiers.{texts}
use Rattle.cbor_decode_as.specs.Takes.{context, formats_of}
use Rattle.cbor_decode_as.specs.Enums.{IsEnum}
use Rattle.cbor_described.specs.OneOfs.{either, no_variant, list6}
use Rattle.cbor_described.proofs.Makings.{memory_made, not_made}
use Rattle.cbor_described.proofs.one_of_to_eight.OneOf6ReadParts.read_parts.Goals as goal

pub returns-in-Err-clause-read : goal.returns-in-Err-clause-read
returns-in-Err-clause-read g c =
    let old = c.args.de.now.decoder in
    let k = context old.formats g.R.Source.lends in
    let same : texts c.args.keys.now.names.now ≡ texts c.args.keys.now.names.now = refl in
    not_made (λ (x : OneOf6 g.row.A.Denot g.row.B.Denot g.row.C.Denot g.row.D.Denot g.row.E.Denot g.row.F.Denot). list6 x) (λ (names : List (List ℕ)). PassesTags (IsEnum k.formats names (either (g.A.Variant.means k) (either (g.B.Variant.means k) (either (g.C.Variant.means k) (either (g.D.Variant.means k) (either (g.E.Variant.means k) (either (g.F.Variant.means k) no_variant)))))))) g.R.Source.refusals (formats_of old.formats) old.levels (g.R.Source.source old.source) (g.R.Source.source c.read_variants.new.de.decoder.source)
    same c.in-Err.e c.in-Err.ensures.read

pub returns-in-Err-clause-memory : goal.returns-in-Err-clause-memory
returns-in-Err-clause-memory g c =
    let old = c.args.de.now.decoder in
    memory_made (formats_of old.formats) old.levels (g.R.Source.source old.source) c.in-Err.e (λ (x : OneOf6 g.row.A.Denot g.row.B.Denot g.row.C.Denot g.row.D.Denot g.row.E.Denot g.row.F.Denot). list6 x) _ _ c.in-Err.ensures.memory
