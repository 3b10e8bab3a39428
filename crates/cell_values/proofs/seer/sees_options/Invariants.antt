use Rattle.std.proofs.Common.{◌≡◌, true, take}
use Rattle.cell_values.specs.Seen.{sees_options}
use Rattle.cell_values.proofs.seer.sees_options.Given as goal

abbrev pub invariant-loop-option : goal.invariant-loop-option
invariant-loop-option l = sees_options l.meta l.user (take l.option-index l.options) ≡ true
