use Rattle.std.proofs.Common.{rules}
use Rattle.import_forms.proofs.enrollment.BundleEventInner.put_inside.Goals as goal

pub returns-in-Ok : goal.returns-in-Ok
returns-in-Ok c = search rules
