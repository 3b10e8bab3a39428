use Rattle.std.proofs.Common.{rules, ◌≡◌, Err, ap}
use Rattle.http_wire.proofs.BodyLemmas.{reads_taken, reads_sized_stop}
use Rattle.http_wire.proofs.body.read_sized.Goals as goal

pub returns-in_err-wait_for-clause-reads : goal.returns-in_err-wait_for-clause-reads
returns-in_err-wait_for-clause-reads g c =
    let is : c.from_residual.result ≡ Err c.in_err-wait_for.field-0.0 = search rules in
    rw is (reads_sized_stop c.args.end c.args.count c.in_err-wait_for.field-0.0 c.wait_for.ensures.gains c.in_err-wait_for.ensures.short
    c.in_err-wait_for.ensures.stops
    (λ e. c.in_err-wait_for.ensures.over (ap Err e)))

pub returns-clause-reads : goal.returns-clause-reads
returns-clause-reads g c =
    reads_taken c.args.end c.args.count c.take_sized.result c.wait_for.ensures.gains c.wait_for.ensures.within c.in_ok-wait_for.ensures.enough
    c.take_sized.ensures.content c.take_sized.ensures.rest c.take_sized.ensures.same c.take_sized.ensures.memory
