use Rattle.table_sums.proofs.PartLemmas.{run-none, run-more}
use Rattle.std.proofs.Common.{◌∙◌, ◌++◌, ◌∷◌, [], ap, arith}
use Rattle.table_sums.proofs.range.push_rows.Goals as goal

pub loop-place-init : goal.loop-place-init
loop-place-init g c = run-none c.args.rows.now c.args.low c.args.found.now.items

pub loop-place-preserved : goal.loop-place-preserved
loop-place-preserved g c =
    run-more c.args.rows.now c.args.low c.loop-place.place c.args.found.now.items c.loop-place.found.items c.push.new.self.items (omega arith)
    (omega (arith, c.requires.within)) c.loop-place.invariant
    (λ d. c.in_ok-push.ensures.items ∙ ap (λ row. c.loop-place.found.items ++ row ∷ []) (c.row.ensures.row d))
