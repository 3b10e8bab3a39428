use Rattle.table_latest.proofs.SearchLemmas.{cut-found, cut-missing}
use Rattle.table_latest.proofs.search.cut_at.Goals as goal

pub returns-in-Ok : goal.returns-in-Ok
returns-in-Ok g c =
    cut-found g.K.Ord.cmp c.requires.total c.args.keys.now c.args.key.now c.in-Ok.at c.requires.rise c.in-Ok.ensures.bound c.in-Ok.ensures.ok

pub returns-in-Err : goal.returns-in-Err
returns-in-Err g c =
    cut-missing g.K.Ord.cmp c.requires.total c.args.keys.now c.args.key.now c.in-Err.at c.requires.rise c.in-Err.ensures.bound c.in-Err.ensures.position
