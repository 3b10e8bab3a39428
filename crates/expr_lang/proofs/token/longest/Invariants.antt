use Rattle.std.proofs.Common.{◌≡◌, ◌≤◌, length, drop}
use Rattle.expr_lang.specs.Token.{longest_from, no_front}
use Rattle.expr_lang.proofs.token.longest.Given as goal

abbrev pub invariant-loop-n : goal.invariant-loop-n
invariant-loop-n l =
    (longest_from l.best l.allowed (drop l.n l.symbols) l.bytes ≡ longest_from no_front l.allowed l.symbols l.bytes) × (l.best.len ≤ length l.bytes)
