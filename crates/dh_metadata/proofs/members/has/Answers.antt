use Rattle.std.proofs.Common.{◌∙◌}
use Rattle.dh_metadata.proofs.MemberLemmas.{search_finds}
use Rattle.dh_metadata.proofs.members.has.Goals as goal

pub returns : goal.returns
returns c = c.is_ok.ensures.value ∙ search_finds c.args.sorted.now c.args.n c.binary_search.result c.requires c.binary_search.ensures.position
