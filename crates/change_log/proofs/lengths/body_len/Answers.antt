use Rattle.std.proofs.Common.{◌∙◌, ap, length}
use Rattle.change_log.specs.Words.{listed, capped}
use Rattle.std.specs.Int.{w32}
use Rattle.change_log.specs.Bytes.{write_bytes}
use Rattle.change_log.proofs.Sizes.{body-length}
use Rattle.change_log.proofs.lengths.body_len.Goals as goal

pub returns : goal.returns
returns c = λ number.
    body-length number c.args.change.now c.head_len.result c.writes_len.result c.saturating_add.result (c.head_len.ensures.value number)
    (c.writes_len.ensures ∙ ap (λ xs. capped (length (listed w32 write_bytes xs))) c.as_slice.ensures) c.saturating_add.ensures
