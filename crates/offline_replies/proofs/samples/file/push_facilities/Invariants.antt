use Rattle.std.proofs.Common.{◌≡◌, ◌++◌}
use Rattle.offline_replies.specs.File.{each_below, facility}
use Rattle.offline_replies.proofs.samples.file.push_facilities.Given as goal

abbrev pub invariant-loop-n : goal.invariant-loop-n
invariant-loop-n l = l.text.items ≡ l.fn.text.items ++ each_below facility l.n
