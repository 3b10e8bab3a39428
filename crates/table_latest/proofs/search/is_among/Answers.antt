use Rattle.std.proofs.Common.{sym}
use Rattle.table_latest.proofs.SearchLemmas.{among-found, among-missing}
use Rattle.table_latest.proofs.search.is_among.Goals as goal

pub returns-in-Ok : goal.returns-in-Ok
returns-in-Ok g c =
    sym (among-found g.K.Ord.cmp c.requires.total c.args.keys.now c.args.key.now c.in-Ok.field-0 c.in-Ok.ensures.bound c.in-Ok.ensures.ok)

pub returns-in-Err : goal.returns-in-Err
returns-in-Err g c =
    sym (among-missing g.K.Ord.cmp c.requires.total c.args.keys.now c.args.key.now c.in-Err.field-0 c.requires.rise c.in-Err.ensures.position)
