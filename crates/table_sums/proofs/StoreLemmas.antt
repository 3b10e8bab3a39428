-- A store of no rows and no events.
use Rattle.std.proofs.Common.{◌≡◌, true, ℤ, List, [], refl}
use Rattle.std.proofs.lemmas.Bool.{and_from}
use Rattle.table_rows.specs.declared.event.EventRow.{EventRow}
use Rattle.table_rows.specs.declared.event.RegRow.{RegRow}
use Rattle.table_rows.specs.declared.row.Row.{Row}
use Rattle.table_rows.specs.Store.{is_store}
use Rattle.table_rows.proofs.StoreLemmas.{Holds}

pub no-rows : (rows : List Row) (events : List EventRow) (regs : List RegRow) (years : List ℤ) → Holds rows events regs years
    → is_store [] [] regs years ≡ true
unfolding is_store
no-rows rows events regs years h =
    and_from _ _ refl (and_from _ _ refl (and_from _ _ h.few_regs (and_from _ _ refl (and_from _ _ refl (and_from _ _ h.regs_rise
    (and_from _ _ h.years_rise (and_from _ _ refl (and_from _ _ h.reg_days refl))))))))
