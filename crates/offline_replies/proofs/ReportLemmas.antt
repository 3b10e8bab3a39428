-- The years of samples, and their total.
use Rattle.std.proofs.Common.{◌≡◌, ℕ, ◌<◌, List, [], ◌∷◌, length, Bool, false, Option, None, Result, Ok, Err, IfOk, refl, arith, ap, ◌∙◌}
use Rattle.dh_base.specs.Fractions.{Fraction}
use Rattle.dh_base.specs.declared.memory.Memory.{Memory}
use Rattle.dh_periods.specs.declared.name.PeriodName.{PeriodName}
use Rattle.dh_periods.specs.Texts.{period_of, read_name, read_ending}
use Rattle.dh_periods.specs.Days.{is_listed}
use Rattle.dh_metadata.specs.declared.held.Records.{Records}
use Rattle.table_rows.specs.declared.row.Row.{Row}
use Rattle.cell_values.specs.Seen.{seen}
use Rattle.cell_values.specs.Cells.{cell_of, aggregate_of}
use Rattle.offline_replies.specs.Report.{years, total_for}

two-years : length years ≡ 2
unfolding years period_of read_name read_ending is_listed
two-years = refl

-- there are years
pub some_years : (periods : List PeriodName) → periods ≡ years → 0 < length periods
some_years periods is = omega (arith, ap (λ (l : List PeriodName). length l) is, two-years)

-- the value of a cell over the years, as the user sees it
pub total_same : (result : Result (Option Fraction) Memory) (r : Records) (rows : List Row) (seer user element unit : ℕ) (periods : List PeriodName)
    (units : List ℕ) (alone : Bool)
    → seer ≡ user → periods ≡ years → units ≡ unit ∷ [] → alone ≡ false
    → IfOk result (λ total. total ≡ aggregate_of r (seen r seer rows) (cell_of element None None periods units alone))
    → IfOk result (λ total. total ≡ total_for r rows user element unit)
unfolding total_for
total_same (Ok total) r rows seer user element unit periods units alone who when where_it not is =
    is ∙ ap (λ u. aggregate_of r (seen r u rows) (cell_of element None None periods units alone)) who
    ∙ ap (λ ps. aggregate_of r (seen r user rows) (cell_of element None None ps units alone)) when
    ∙ ap (λ us. aggregate_of r (seen r user rows) (cell_of element None None years us alone)) where_it
    ∙ ap (λ b. aggregate_of r (seen r user rows) (cell_of element None None years (unit ∷ []) b)) not
total_same (Err e) r rows seer user element unit periods units alone who when where_it not is = tt
