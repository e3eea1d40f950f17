use Rattle.cbor_ser.proofs.Keyed.{no_field}
use Rattle.cbor_ser.proofs.part_list.UnitWriteFields.write_fields.Goals as goal

pub returns : goal.returns
returns g c = no_field (g.K.SerializeKeys.labels c.args._keys)
