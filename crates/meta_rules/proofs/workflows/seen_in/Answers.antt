use Rattle.std.proofs.Common.{subst}
use Rattle.std.proofs.lemmas.List.{take_all}
use Rattle.dh_metadata.specs.declared.records.DataSet.{DataSet}
use Rattle.meta_rules.specs.Seen.{TakesSet, HaveSeen}
use Rattle.meta_rules.proofs.SeenLemmas.{HaveSeen-more}
use Rattle.meta_rules.proofs.workflows.seen_in.Goals as goal

pub loop-set-preserved : goal.loop-set-preserved
loop-set-preserved c =
    HaveSeen-more c.args.sets.now c.loop-set.set-index c.set-item.result c.args.count c.loop-set.seen.items c.take_set.new.seen.items c.loop-set-test.true
    c.loop-set.invariant
    (subst (λ (d : DataSet). TakesSet c.loop-set.seen.items c.take_set.new.seen.items d) c.set-item.is c.take_set.ensures)

pub returns : goal.returns
returns c =
    subst (λ sets. HaveSeen sets c.args.count c.loop-set.seen.items) (take_all c.loop-set.set-index c.args.sets.now c.loop-set-test.false)
    c.loop-set.invariant
