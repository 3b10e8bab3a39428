use Rattle.std.proofs.Common.{◌∙◌, ◌++◌, sym, ap}
use Rattle.std.specs.List.{filter_map}
use Rattle.dh_changes.specs.World.{facts}
use Rattle.table_build.specs.Placed.{placed_by}
use Rattle.table_build.proofs.LoopLemmas.{listed-more, listed-no-more}
use Rattle.table_build.proofs.placed.place_writes.Goals.{in-Some+in_ok-push, in_default}
use Rattle.table_build.proofs.placed.place_writes.Goals as goal

pub loop-write-preserved : goal.loop-write-preserved
loop-write-preserved c =
    let find = placed_by c.args.meta.now (facts c.args.world.now) c.args.year.now in
    let list = c.args.writes.now in
    let at = c.loop-write.write-index in
    let x = c.write-item.result in
    let old = c.loop-write.placed.items in
    let new = c.match-placed_by.placed.items in
    let whole = c.args.placed.now.items ++ filter_map find list in
    elim c.match-placed_by.branch [
      | in-Some+in_ok-push w ↦
          listed-more find list at x c.loop-write-test.true c.write-item.is w.in-Some.row old new whole (sym c.placed_by.ensures ∙ w.in-Some.is)
          (ap (λ v. v.items) w.placed-is ∙ w.in_ok-push.ensures.items) c.loop-write.invariant
      | in_default w ↦
          listed-no-more find list at x c.loop-write-test.true c.write-item.is old new whole (sym c.placed_by.ensures ∙ w.in_default.is)
          (ap (λ v. v.items) w.placed-is) c.loop-write.invariant
    ]
