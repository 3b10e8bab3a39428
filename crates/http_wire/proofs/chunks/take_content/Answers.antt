use Rattle.std.proofs.Common.{arith}
use Rattle.http_wire.proofs.ChunkLemmas.{content_taken}
use Rattle.http_wire.proofs.chunks.take_content.Goals as goal

pub returns-clause-runs : goal.returns-clause-runs
returns-clause-runs c =
    content_taken c.args.chunks.now c.args.bytes.now c.extend.new.content c.min-count.result c.args.left c.requires.place (omega arith) (omega arith)
    (omega arith)
    (c.in_ok-extend.ensures {u = tt})
