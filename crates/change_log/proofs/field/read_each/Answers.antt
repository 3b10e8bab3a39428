use Rattle.std.proofs.Common.{◌∙◌, Some, sym, ap}
use Rattle.std.proofs.lemmas.Result.{err_from_is_err_and}
use Rattle.change_log.specs.ReadWords.{times_at}
use Rattle.change_log.proofs.Counting.{goes_on, fails, is_done}
use Rattle.change_log.proofs.field.read_each.Goals as goal

pub returns-in_err-read : goal.returns-in_err-read
returns-in_err-read g c =
    let form = g.T.Field.form in
    let p = err_from_is_err_and c.from_residual.result c.from_residual.ensures.1 in
    rw (p.1, p.2) (fails form c.loop.all.items c.args.count c.loop.counter c.loop.rest.now c.read.new.rest.now
    (times_at c.args.count form c.args.rest.now.now) c.in_err-read.field-0.0 c.loop-test.true c.in_err-read.ensures c.loop.invariant)

pub loop-preserved : goal.loop-preserved
loop-preserved g c =
    let form = g.T.Field.form in
    rw c.in_ok-push.ensures.items
    (goes_on form c.loop.all.items c.args.count c.loop.counter c.loop.rest.now c.in_ok-read.field-0 c.read.new.rest.now
    (times_at c.args.count form c.args.rest.now.now) c.loop-test.true c.in_ok-read.ensures c.loop.invariant)

pub returns : goal.returns
returns g c =
    let form = g.T.Field.form in
    is_done form c.loop.all.items c.args.count c.loop.counter c.loop.rest.now (times_at c.args.count form c.args.rest.now.now) c.loop-test.false c.loop.invariant
    ∙ ap (λ xs. Some (xs, c.loop.rest.now)) (sym c.from.ensures)
