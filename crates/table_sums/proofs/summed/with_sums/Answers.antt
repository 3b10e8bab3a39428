use Rattle.std.proofs.Common.{length}
use Rattle.std.proofs.lemmas.Bool.{leb-true}
use Rattle.table_rows.proofs.StoreLemmas.{store-holds, true_from}
use Rattle.table_sums.proofs.StoreLemmas.{no-rows}
use Rattle.table_sums.proofs.summed.with_sums.Goals as goal

pub of-requires-clause-rise : goal.of-requires-clause-rise
of-requires-clause-rise c = (store-holds c.args.rows.now c.args.events.items c.args.regs.items c.args.years.items (true_from _ c.requires)).rows_rise

pub of-requires-clause-few : goal.of-requires-clause-few
of-requires-clause-few c =
    leb-true (length c.args.rows.now) 4194304 (store-holds c.args.rows.now c.args.events.items c.args.regs.items c.args.years.items (true_from _
    c.requires)).few_rows

pub of-rest-requires : goal.of-rest-requires
of-rest-requires c =
    rw (c.new.ensures.items, c.new-2.ensures.items)
    (no-rows c.args.rows.now c.args.events.items c.args.regs.items c.args.years.items
    (store-holds c.args.rows.now c.args.events.items c.args.regs.items c.args.years.items (true_from _ c.requires)))
