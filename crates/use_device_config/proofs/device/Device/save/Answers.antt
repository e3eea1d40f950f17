use Rattle.std.proofs.Common.{true, false, arith}
use Rattle.serde_cbor.proofs.facts.Documents.{refused_for_memory}
use Rattle.serde_cbor.proofs.facts.Said.{vec_says_written}
use Rattle.use_device_config.specs.Configs.{most_levels}
use Rattle.use_device_config.proofs.Saved.{config_nests, config_unchunked}
use Rattle.use_device_config.proofs.device.Device.save.Goals as goal

pub returns-clause-says : goal.returns-clause-says
returns-clause-says c =
    let x = c.args.self.now.config in
    let wrote = c.to_vec_packed.ensures in
    vec_says_written c.written_reads_back_as.ensures true false most_levels (omega arith) x c.are_in_range.ensures.fits (config_nests x true false) (config_unchunked x)
    c.to_vec_packed.result wrote.storable wrote.in_range wrote.written

pub returns-clause-memory : goal.returns-clause-memory
returns-clause-memory c = refused_for_memory c.to_vec_packed.result c.are_in_range.ensures.storable c.to_vec_packed.ensures.refused
