use Rattle.std.proofs.Common.{rules}
use Rattle.json_read.proofs.form.read_at.Goals as goal

pub returns-in_ok-step-in-Err : goal.returns-in_ok-step-in-Err
returns-in_ok-step-in-Err g c = search rules
