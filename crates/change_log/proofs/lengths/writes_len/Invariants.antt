use Rattle.std.proofs.Common.{◌≡◌, ◌+◌, length, take}
use Rattle.std.specs.List.{flat_map}
use Rattle.change_log.specs.Words.{capped}
use Rattle.change_log.specs.Bytes.{write_bytes}
use Rattle.change_log.proofs.lengths.writes_len.Given as goal

abbrev pub invariant-loop-write : goal.invariant-loop-write
invariant-loop-write l = l.len ≡ capped (4 + length (flat_map write_bytes (take l.write-index l.writes)))
