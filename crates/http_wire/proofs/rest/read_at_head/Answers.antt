use Rattle.std.proofs.Common.{refl}
use Rattle.http_wire.proofs.RestLemmas.{reads_behind, reads_behind_stop}
use Rattle.http_wire.proofs.rest.read_at_head.Goals as goal

pub returns-in-Ok-clause-reads : goal.returns-in-Ok-clause-reads
returns-in-Ok-clause-reads g c =
    reads_behind c.args.head c.in-Ok.body _ c.requires.within c.requires.says refl c.in-Ok.ensures.reads

pub returns-in-Err-clause-reads : goal.returns-in-Err-clause-reads
returns-in-Err-clause-reads g c = reads_behind_stop c.args.head c.in-Err.error c.requires.within c.requires.says c.in-Err.ensures.reads
