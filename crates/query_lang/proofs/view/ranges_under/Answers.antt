use Rattle.std.proofs.Common.{ℕ, List, sym, subst}
use Rattle.std.proofs.lemmas.List.{take_all}
use Rattle.query_lang.specs.View.{Covers}
use Rattle.query_lang.proofs.LoopLemmas.{covers-joined, covers-more}
use Rattle.query_lang.proofs.view.ranges_under.Goals as goal

pub loop-unit-preserved : goal.loop-unit-preserved
loop-unit-preserved c =
    covers-more c.args.tree.now c.args.units.now c.loop-unit.intervals.items c.push.new.self.items c.loop-unit.unit-index c.interval.result
    c.loop-unit-test.true c.interval.ensures.members c.in_ok-push.ensures.items c.loop-unit.invariant

pub returns : goal.returns
returns c =
    let covers : Covers c.args.tree.now c.args.units.now c.loop-unit.intervals.items =
    subst (λ (units : List ℕ). Covers c.args.tree.now units c.loop-unit.intervals.items)
    (take_all c.loop-unit.unit-index c.args.units.now c.loop-unit-test.false) c.loop-unit.invariant in
    covers-joined c.args.tree.now c.args.units.now c.deref.result.now c.of.result c.of.ensures.members
    (subst (λ (ranges : List (ℕ × ℕ)). Covers c.args.tree.now c.args.units.now ranges) (sym c.deref.ensures.value) covers)
