use Rattle.std.proofs.Common.{◌∙◌, ◌+◌, length}
use Rattle.change_log.specs.Held.{changes_of}
use Rattle.change_log.proofs.LogLemmas.{passed-more}
use Rattle.change_log.proofs.held.limit_passed.Goals as goal

pub returns : goal.returns
returns c =
    c.limit_over.ensures (length (changes_of c.args.held.now) + 1)
    ∙ passed-more c.args.limits.now (changes_of c.args.held.now) c.args.change.now c.args.held.now.writes c.args.held.now.bytes c.requires.held.writes
    c.requires.held.bytes
