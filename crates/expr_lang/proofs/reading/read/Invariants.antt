use Rattle.std.proofs.Common.{◌≡◌, ◌+◌, ◌≤◌, length, drop}
use Rattle.expr_lang.specs.Reading.{most_words, read_rest, read_text}
use Rattle.expr_lang.proofs.reading.read.Given as goal

abbrev pub invariant-loop-most : goal.invariant-loop-most
invariant-loop-most l =
    (read_rest l.place l.most l.reader l.at (drop l.at l.text) ≡ read_text l.place l.text) × (l.at ≤ length l.text) × (l.reader.opened + l.most ≤ most_words)

abbrev pub decreases-loop-most : goal.decreases-loop-most
decreases-loop-most l = l.most
