-- What is worked out once for a reporting rate, before its cells.
use Rattle.std.specs.Prelude.{ℕ, List}
use Rattle.dh_metadata.specs.declared.held.Records.{Records}
use Rattle.table_rows.specs.declared.event.RegRow.{RegRow}
use Rattle.table_rows.specs.Events.{regs_of}
use Rattle.cell_values.specs.Prepared.{AreReports}
use Rattle.cell_values.specs.declared.rates.RatePlan.{RatePlan}
use Rattle.cell_values.specs.Seen.{seen_regs}

-- the plan has the reports of the rate, from what the user sees of the data set's registrations
abbrev pub IsRatePlan : Records → ℕ → List RegRow → RatePlan → Type 0
IsRatePlan r user regs plan = AreReports r plan.asked.which plan.asked.set (seen_regs r user (regs_of plan.asked.set regs)) plan.reports
