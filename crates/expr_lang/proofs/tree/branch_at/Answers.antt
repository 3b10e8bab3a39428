use Rattle.std.proofs.lemmas.Option.{slice_get-get_or}
use Rattle.std.specs.Prelude.{slice_index_or}
use Rattle.expr_lang.specs.declared.tree.Branch.TheVariants as branch
use Rattle.expr_lang.proofs.BranchLemmas.{step_at}
use Rattle.expr_lang.proofs.tree.branch_at.Goals as goal

pub returns-clause-shape : goal.returns-clause-shape
returns-clause-shape c =
    (step_at c.args.items.now c.args.branches.now c.args.n (slice_index_or c.args.branches.now c.args.n (branch.Number 0))
    (slice_get-get_or c.args.branches.now c.args.n (branch.Number 0) c.requires.within) c.requires.sound).0

pub returns-clause-earlier : goal.returns-clause-earlier
returns-clause-earlier c =
    (step_at c.args.items.now c.args.branches.now c.args.n (slice_index_or c.args.branches.now c.args.n (branch.Number 0))
    (slice_get-get_or c.args.branches.now c.args.n (branch.Number 0) c.requires.within) c.requires.sound).1
