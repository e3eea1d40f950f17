use Rattle.use_content_store.proofs.Law.{opens_whole}
use Rattle.use_content_store.proofs.log.cut_off_anywhere.Goals as goal

pub returns : goal.returns
returns c = opens_whole c.one_longest_list.ensures
