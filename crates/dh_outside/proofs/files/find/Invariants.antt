use Rattle.std.proofs.Common.{◌≡◌, drop}
use Rattle.dh_outside.specs.Files.{file_named, pairs_of}
use Rattle.dh_outside.proofs.files.find.Given as goal

abbrev pub invariant-loop-file : goal.invariant-loop-file
invariant-loop-file l = file_named (pairs_of l.files) l.name ≡ file_named (pairs_of (drop l.file-index l.files)) l.name
