use Rattle.dh_outside.specs.Pieces.{IsSpent}
use Rattle.http_wire.proofs.OpeningLaws.{opening_head}
use Rattle.http_wire.proofs.RestLemmas.{opens_some, reads_some, reads_some_stop, reads_stop}
use Rattle.http_wire.proofs.rest.read_next.Goals as goal

pub read_behind-requires-clause-within : goal.read_behind-requires-clause-within
read_behind-requires-clause-within g c =
    (opening_head c.find_head.new.bytes.items c.in-Some.end
    (opens_some c.find_head.new.bytes.items (IsSpent (g.S.Source.left c.find_head.new.source) c.find_head.new.read) c.in-Ok.found c.in-Some.end c.in-Some.is
    c.in-Ok.ensures.opens)).1

pub returns-in-Ok-read_behind-clause-reads : goal.returns-in-Ok-read_behind-clause-reads
returns-in-Ok-read_behind-clause-reads g c =
    reads_some c.in-Some.end c.in-Ok-read_behind.request c.in-Ok.ensures.skims c.in-Ok.ensures.front
    (opens_some c.find_head.new.bytes.items (IsSpent (g.S.Source.left c.find_head.new.source) c.find_head.new.read) c.in-Ok.found c.in-Some.end c.in-Some.is
    c.in-Ok.ensures.opens)
    c.in-Ok-read_behind.ensures.reads

pub returns-in-Err-read_behind-clause-reads : goal.returns-in-Err-read_behind-clause-reads
returns-in-Err-read_behind-clause-reads g c =
    reads_some_stop c.in-Some.end c.in-Err-read_behind.error c.in-Ok.ensures.skims c.in-Ok.ensures.front
    (opens_some c.find_head.new.bytes.items (IsSpent (g.S.Source.left c.find_head.new.source) c.find_head.new.read) c.in-Ok.found c.in-Some.end c.in-Some.is
    c.in-Ok.ensures.opens)
    c.in-Err-read_behind.ensures.reads

pub returns-in-Err-clause-reads : goal.returns-in-Err-clause-reads
returns-in-Err-clause-reads g c = reads_stop c.in-Err.error c.in-Err.ensures.skims c.in-Err.ensures.front c.in-Err.ensures.opens
