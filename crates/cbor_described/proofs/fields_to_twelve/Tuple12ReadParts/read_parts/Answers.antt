use Rattle.std.proofs.Common.{◌≡◌, [], ◌∷◌, refl}
use Rattle.cbor_parts.specs.Keys.{Keys, keys_of}
use Rattle.cbor_decode_as.specs.Takes.{context, formats_of}
use Rattle.cbor_de.specs.Structs.{IsKeyed, IsMapOf, field_or}
use Rattle.cbor_described.proofs.Makings.{memory_made, not_made}
use Rattle.cbor_described.proofs.fields_to_twelve.Tuple12ReadParts.read_parts.Goals as goal

pub returns-in-Err-clause-read : goal.returns-in-Err-clause-read
returns-in-Err-clause-read g c =
    let old = c.args.de.now.decoder in
    let k = context old.formats g.R.Source.lends in
    let same : keys_of c.args.keys.now ≡ keys_of c.args.keys.now = refl in
    not_made (λ (x : g.row.A.Denot × g.row.B.Denot × g.row.C.Denot × g.row.D.Denot × g.row.E.Denot × g.row.F.Denot × g.row.G.Denot × g.row.H.Denot × g.row.I.Denot × g.row.J.Denot × g.row.K.Denot × g.row.L.Denot). (x.0, x.1, x.2, x.3, (x.4, x.5, x.6, x.7, (x.8, x.9, x.10, x.11, tt)))) (λ (keys : Keys). IsMapOf {S = g.row.A.Denot × g.row.B.Denot × g.row.C.Denot × g.row.D.Denot × (g.row.E.Denot × g.row.F.Denot × g.row.G.Denot × g.row.H.Denot × (g.row.I.Denot × g.row.J.Denot × g.row.K.Denot × g.row.L.Denot × Unit {0}))} (IsKeyed keys) (field_or (g.A.FieldType.reads k) g.A.FieldType.missing (λ p. p.0) ∷ field_or (g.B.FieldType.reads k) g.B.FieldType.missing (λ p. p.1) ∷ field_or (g.C.FieldType.reads k) g.C.FieldType.missing (λ p. p.2) ∷ field_or (g.D.FieldType.reads k) g.D.FieldType.missing (λ p. p.3) ∷ field_or (g.E.FieldType.reads k) g.E.FieldType.missing (λ p. p.4.0) ∷ field_or (g.F.FieldType.reads k) g.F.FieldType.missing (λ p. p.4.1) ∷ field_or (g.G.FieldType.reads k) g.G.FieldType.missing (λ p. p.4.2) ∷ field_or (g.H.FieldType.reads k) g.H.FieldType.missing (λ p. p.4.3) ∷ field_or (g.I.FieldType.reads k) g.I.FieldType.missing (λ p. p.4.4.0) ∷ field_or (g.J.FieldType.reads k) g.J.FieldType.missing (λ p. p.4.4.1) ∷ field_or (g.K.FieldType.reads k) g.K.FieldType.missing (λ p. p.4.4.2) ∷ field_or (g.L.FieldType.reads k) g.L.FieldType.missing (λ p. p.4.4.3) ∷ [])) g.R.Source.refusals (formats_of old.formats) old.levels (g.R.Source.source old.source) (g.R.Source.source c.read_fields.new.de.decoder.source)
    same c.in-Err.e c.in-Err.ensures.read

pub returns-in-Err-clause-memory : goal.returns-in-Err-clause-memory
returns-in-Err-clause-memory g c =
    let old = c.args.de.now.decoder in
    memory_made (formats_of old.formats) old.levels (g.R.Source.source old.source) c.in-Err.e (λ (x : g.row.A.Denot × g.row.B.Denot × g.row.C.Denot × g.row.D.Denot × g.row.E.Denot × g.row.F.Denot × g.row.G.Denot × g.row.H.Denot × g.row.I.Denot × g.row.J.Denot × g.row.K.Denot × g.row.L.Denot). (x.0, x.1, x.2, x.3, (x.4, x.5, x.6, x.7, (x.8, x.9, x.10, x.11, tt)))) _ _ c.in-Err.ensures.memory
