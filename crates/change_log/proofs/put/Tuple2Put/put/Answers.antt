use Rattle.change_log.proofs.Growing.{both_put, both_hold}
use Rattle.change_log.proofs.put.Tuple2Put.put.Goals as goal

pub returns-clause-grown : goal.returns-clause-grown
returns-clause-grown g c =
    let pair = c.args.self.now in
    both_put c.put-2.result c.args.out.now.items c.put.new.out.items c.put-2.new.out.items (g.A.Put.bytes pair.0) (g.B.Put.bytes pair.1)
    c.in_ok-put.ensures.grown c.put-2.ensures.grown

pub returns-clause-valid : goal.returns-clause-valid
returns-clause-valid g c = both_hold _ c.put-2.result c.in_ok-put.ensures.valid c.put-2.ensures.valid
