use Rattle.std.proofs.Common.{◌≡◌, ◌-◌}
use Rattle.change_log.specs.ReadWords.{times_at}
use Rattle.change_log.proofs.Counting.{with_front}
use Rattle.change_log.proofs.field.read_each.Given as goal

abbrev pub invariant-loop : goal.invariant-loop
invariant-loop g l =
    with_front l.all.items (times_at (l.count - l.counter) g.T.Field.form l.rest.now) ≡ times_at l.count g.T.Field.form l.fn.rest.now
