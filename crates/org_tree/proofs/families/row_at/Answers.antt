use Rattle.org_tree.proofs.KinLemmas.{level_of-HasLevel}
use Rattle.org_tree.proofs.families.row_at.Goals as goal

pub returns : goal.returns
returns c =
    let level = level_of-HasLevel c.args.units.now c.requires.tree c.args.unit _ c.requires.in_range (c.requires.levels.each c.args.unit c.requires.in_range) in
    cc
