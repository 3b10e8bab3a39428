use Rattle.std.proofs.Common.{◌≤◌, sym, ◌∙◌, arith}
use Rattle.dh_periods.proofs.RunLemmas.{run_of-none, run_of-more}
use Rattle.dh_periods.proofs.windows.run_of.Goals as goal

pub loop-place-init : goal.loop-place-init
loop-place-init c = c.in_ok-periods.ensures.items ∙ sym (run_of-none c.args.kind c.args.start)

pub loop-place-preserved : goal.loop-place-preserved
loop-place-preserved c =
    let from : c.args.start ≤ c.loop-place.place = omega arith in
    let more = run_of-more c.args.kind c.args.start c.loop-place.place from in
    let before = c.loop-place.invariant in
    let nth = c.period_nth.ensures in
    c.in_ok-push.ensures.items ∙ rw (before, nth) (sym more)
