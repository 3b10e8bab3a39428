use Rattle.std.proofs.Common.{rules}
use Rattle.json_read.proofs.form.read_list.Goals as goal

pub returns-in-Some : goal.returns-in-Some
returns-in-Some g c = search rules
