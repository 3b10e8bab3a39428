use Rattle.std.proofs.Common.{◌≡◌, [], ◌++◌, drop}
use Rattle.query_lang.specs.Once.{pieces_from}
use Rattle.query_lang.proofs.once.pieces.Given as goal

abbrev pub invariant-loop-byte : goal.invariant-loop-byte
invariant-loop-byte l = l.found.items ++ pieces_from l.piece (drop l.byte-index l.text) ≡ pieces_from [] l.text
