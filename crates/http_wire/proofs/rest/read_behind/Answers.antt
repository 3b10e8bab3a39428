use Rattle.http_wire.proofs.RestLemmas.{reads_behind_head}
use Rattle.http_wire.proofs.rest.read_behind.Goals as goal

pub returns-in-Err-clause-reads : goal.returns-in-Err-clause-reads
returns-in-Err-clause-reads g c =
    reads_behind_head (g.S.Source.left c.args.source.now) (g.S.Source.source_talk c.args.source.now) c.args.bytes.now.items c.args.read.now c.args.end
    c.in-Err.error c.fault_of.result c.fault_of.ensures c.in-Err.ensures
