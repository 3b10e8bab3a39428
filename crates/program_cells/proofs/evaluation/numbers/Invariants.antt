use Rattle.std.proofs.Common.{◌≡◌, ◌++◌, map, drop}
use Rattle.std.specs.Prelude.{option_map}
use Rattle.std.specs.Option.{option_to_list}
use Rattle.program_cells.specs.Code.{gathered}
use Rattle.program_cells.proofs.evaluation.numbers.Given as goal

abbrev pub invariant-loop-each : goal.invariant-loop-each
invariant-loop-each l =
    gathered (map (option_map option_to_list) l.found)
    ≡ option_map (λ more. l.numbers.items ++ more) (gathered (map (option_map option_to_list) (drop l.each-index l.found)))
