use Rattle.expr_lang.proofs.MakingLemmas.{put_next_leaf}
use Rattle.expr_lang.proofs.build.put_leaf.Goals as goal

pub returns : goal.returns
returns c =
    put_next_leaf c.args.at c.args.leaf.now c.leaf_known-known.result c.in_ok-branch.branch c.args.making.now c.branch_of.new.items c.branch_of.new.places
    c.put.result c.put.new.making c.requires c.leaf_known-known.ensures c.in_ok-branch.ensures c.put.ensures
