use Rattle.std.proofs.Common.{◌∙◌}
use Rattle.table_latest.specs.Latest.{touched_in}
use Rattle.table_latest.proofs.LaterLemmas.{none-ordered, nothing-over}
use Rattle.table_latest.proofs.latest.Latest.none.Goals as goal

pub of-requires : goal.of-requires
of-requires c =
    none-ordered (touched_in (record { rows = c.new.result; events = c.new-2.result; regs = c.new-3.result })) c.new.ensures.items c.new-2.ensures.items
    c.new-3.ensures.items

pub returns-clause-nothing : goal.returns-clause-nothing
returns-clause-nothing c =
    nothing-over c.of.result
    (c.of.ensures.touched ∙ (λ i. record { rows = c.new.ensures.items i; events = c.new-2.ensures.items i; regs = c.new-3.ensures.items i }))
    (c.of.ensures.holds
    ∙ (λ i. record { rows = c.in_ok-store.ensures.rows i; events = c.in_ok-store.ensures.events i; regs = c.in_ok-store.ensures.regs i }))
