use Rattle.std.proofs.Common.{arith, ◌≡◌, ◌<◌, ◌++◌, List, ℕ, length, drop, take, min}
use Rattle.std.proofs.lemmas.Grind.{common_steps}
use Rattle.dh_outside.proofs.ReadLemmas.{read_moved, read_end}
use Rattle.dh_outside.proofs.memory.copy_from.Goals as goal

pub returns-clause-moved : goal.returns-clause-moved
returns-clause-moved c =
    let into : List ℕ = c.copy_from_slice.new.self ++ drop c.min-count.result c.args.into.now in
    let front : take c.min-count.result into ≡ take c.min-count.result (drop c.args.at c.args.bytes.now) = grind (arith, common_steps) in
    read_moved c.args.bytes.now into c.args.at c.min-count.result front

pub returns-clause-end : goal.returns-clause-end
returns-clause-end c none some =
    let count : c.min-count.result ≡ min (length (drop c.args.at c.args.bytes.now)) (length c.args.into.now) = grind (arith, common_steps) in
    let room : 0 < length c.args.into.now = grind (arith, common_steps) in
    read_end c.args.bytes.now c.args.at c.min-count.result (length c.args.into.now) count none room
