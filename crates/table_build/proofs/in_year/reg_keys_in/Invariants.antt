use Rattle.std.proofs.Common.{◌≡◌, take}
use Rattle.std.specs.List.{filter}
use Rattle.table_build.specs.InYear.{is_reg_key_in}
use Rattle.table_build.proofs.in_year.reg_keys_in.Given as goal

abbrev pub invariant-loop-key : goal.invariant-loop-key
invariant-loop-key l = l.found.items ≡ filter (is_reg_key_in l.year) (take l.key-index l.keys)
