use Rattle.std.proofs.Common.{◌==◌, ℕ, Bool, sym}
use Rattle.table_rows.specs.declared.event.ItemValue.{ItemValue}
use Rattle.std.proofs.lemmas.Bool.{eq-eqb, ne_eqb}
use Rattle.program_cells.proofs.LoopLemmas.{find-here, find-past}
use Rattle.program_cells.proofs.items.entry_of.Goals as goal

pub returns-then-entry-n : goal.returns-then-entry-n
returns-then-entry-n c =
    let named : ℕ × ItemValue → Bool = λ entry. entry.0 == c.args.n in
    sym (find-here named c.args.entries.now c.loop-entry.entry-index _ c.loop-entry-test.true c.loop-entry.invariant (eq-eqb _ _ c.if-entry-n.true))

pub loop-entry-preserved : goal.loop-entry-preserved
loop-entry-preserved c =
    let named : ℕ × ItemValue → Bool = λ entry. entry.0 == c.args.n in
    find-past named c.args.entries.now c.loop-entry.entry-index _ c.loop-entry-test.true c.loop-entry.invariant (ne_eqb _ _ c.if-entry-n.false)
