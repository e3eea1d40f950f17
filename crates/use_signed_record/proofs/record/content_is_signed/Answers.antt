use Rattle.use_signed_record.proofs.Records.{content_is_signed}
use Rattle.use_signed_record.proofs.record.content_is_signed.Goals as goal

pub returns : goal.returns
returns c = content_is_signed c.value_is_in_range.ensures
