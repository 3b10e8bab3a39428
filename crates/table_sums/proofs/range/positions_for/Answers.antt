use Rattle.std.proofs.Common.{◌+◌, ◌∙◌, min, subst, sym, ap}
use Rattle.dh_base.specs.declared.plain.Need.{Need}
use Rattle.table_sums.specs.Parts.{AreEnough}
use Rattle.table_sums.proofs.PartLemmas.{upto-most, min-few}
use Rattle.table_sums.proofs.range.positions_for.Goals as goal

pub returns-in-All-clause-few : goal.returns-in-All-clause-few
returns-in-All-clause-few c = λ all. c.positions-positions.ensures.least 8 all

pub returns-in-All-clause-enough : goal.returns-in-All-clause-enough
returns-in-All-clause-enough c =
    subst (λ (need : Need). AreEnough need c.args.list.now c.positions-positions.result) (sym c.in-All.is) c.positions-positions.ensures

pub returns-in-Upto-clause-few : goal.returns-in-Upto-clause-few
returns-in-Upto-clause-few c = λ all.
    min-few (c.from.result + 1) c.positions-positions.result c.min.result 8 c.min.ensures (c.positions-positions.ensures.least 8 all)

pub returns-in-Upto-clause-enough : goal.returns-in-Upto-clause-enough
returns-in-Upto-clause-enough c =
    subst (λ (need : Need). AreEnough need c.args.list.now c.min.result) (sym c.in-Upto.is)
    (λ part. upto-most part c.in-Upto.most c.positions-positions.result c.min.result c.args.list.now c.positions-positions.ensures (c.min.ensures
    ∙ ap (λ n. min (n + 1) c.positions-positions.result) c.from.ensures))
