use Rattle.std.proofs.Common.{ap, arith}
use Rattle.change_log.specs.declared.limits.Limits.{Limits}
use Rattle.offline_replies.proofs.samples.report.report_of.Goals as goal

pub tables_of_all-requires-clause-free : goal.tables_of_all-requires-clause-free
tables_of_all-requires-clause-free c = c.requires.full

pub tables_of_all-requires-clause-more : goal.tables_of_all-requires-clause-more
tables_of_all-requires-clause-more c =
    let most = ap (λ (l : Limits). l.updates) c.requires.limits in
    omega (arith, most, c.requires.ticket)
