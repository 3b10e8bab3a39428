use Rattle.std.proofs.Common.{◌∙◌, sym}
use Rattle.table_build.proofs.LeftLemmas.{all-there}
use Rattle.table_build.proofs.left.are_settled.Goals as goal

pub returns-then-is_found : goal.returns-then-is_found
returns-then-is_found c = λ is.
    all-there c.args.writes.now c.args.years.now.entries _ (c.is_found.ensures c.if-is_found.true) (sym c.all_tell.ensures ∙ is)
