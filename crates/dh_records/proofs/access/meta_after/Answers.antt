use Rattle.dh_records.specs.Access.{meta_after}
use Rattle.dh_records.proofs.AccessLaws.{is_after}
use Rattle.dh_records.proofs.access.meta_after.Goals as goal

pub returns-clause-after : goal.returns-clause-after
unfolding meta_after
returns-clause-after c = λ log. is_after log c.args.meta.now
