use Rattle.std.proofs.Common.{rules}
use Rattle.dh_categories.proofs.single.with_one_more.Goals as goal

pub returns-in-At : goal.returns-in-At
returns-in-At c = search rules
