use Rattle.std.proofs.Common.{◌≡◌, ◌∙◌, ap, subst, IfOk}
use Rattle.cell_values.specs.Reporting.{rate_of}
use Rattle.table_rows.specs.Events.{regs_of}
use Rattle.cell_values.proofs.SeenLemmas.{rate-of_set}
use Rattle.cell_values.specs.Seen.{seen_regs, is_reg_seen}
use Rattle.cell_values.proofs.rates.planned_rate.Goals as goal

pub returns : goal.returns
returns g c periods due =
    let s = c.args.source.now.store.now in
    let r = c.args.source.now.meta.now in
    let user = c.args.source.now.seer.now.user in
    let asked = c.args.plan.now.asked in
    let units = c.args.units.now in
    let regs = g.S.RowStore.regs s in
    subst (λ v. IfOk c.rate.result (λ value. value ≡ v))
    (ap (λ us. rate_of r asked.which asked.set periods us (seen_regs r user (regs_of asked.set regs)) units.alone) c.as_slice.ensures
    ∙ rate-of_set r asked.which asked.set periods units.units (is_reg_seen r user) regs units.alone)
    (c.rate.ensures asked.which asked.set (seen_regs r user (regs_of asked.set regs)) periods c.requires.plan due)
