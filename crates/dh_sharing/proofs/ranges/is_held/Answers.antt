use Rattle.std.proofs.Common.{ℕ, sym, subst, arith}
use Rattle.dh_sharing.specs.Ranges.{IsCount}
use Rattle.dh_sharing.proofs.RangeLemmas.{within-last, within-none}
use Rattle.dh_sharing.proofs.ranges.is_held.Goals as goal

pub returns-then-begun-eq0 : goal.returns-then-begun-eq0
returns-then-begun-eq0 c =
    sym (within-none c.args.parts.now c.args.order (subst (λ (v : ℕ). IsCount c.args.parts.now c.args.order v) c.if-begun-eq0.true c.begun_by-begun.ensures))

pub returns : goal.returns
returns c =
    sym (within-last c.args.parts.now c.args.order c.begun_by-begun.result c.requires c.begun_by-begun.ensures (omega arith))
