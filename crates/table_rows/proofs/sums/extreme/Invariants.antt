use Rattle.std.proofs.Common.{◌≡◌, map, take}
use Rattle.table_rows.specs.Samples.{numbered, number_of}
use Rattle.table_rows.specs.Values.{choice_of, left_of}
use Rattle.table_rows.proofs.sums.extreme.Given as goal

abbrev pub invariant-loop-sample : goal.invariant-loop-sample
invariant-loop-sample l = l.found ≡ left_of (choice_of l.greatest) (map number_of (numbered (take l.sample-index l.samples)))
