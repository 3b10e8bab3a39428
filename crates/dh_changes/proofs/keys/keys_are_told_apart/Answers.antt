use Rattle.dh_changes.proofs.KeyLemmas.{same_value_key-Decides, same_approval_key-Decides, same_reg_key-Decides}
use Rattle.dh_changes.proofs.keys.keys_are_told_apart.Goals as goal

pub returns-clause-values : goal.returns-clause-values
returns-clause-values c = same_value_key-Decides

pub returns-clause-approvals : goal.returns-clause-approvals
returns-clause-approvals c = same_approval_key-Decides

pub returns-clause-registrations : goal.returns-clause-registrations
returns-clause-registrations c = same_reg_key-Decides
