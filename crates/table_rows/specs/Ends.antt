-- How the samples that count are found in one pass.
use Rattle.std.specs.Prelude.{ℕ, ◌+◌, Bool, not, ◌||◌, nat_eq, if◌then◌else◌, ℤ, ◌+ℤ◌, ◌-ℤ◌, List, [], ◌∷◌, Option, Some, None}
use Rattle.std.specs.Ordering.{is_gt}
use Rattle.std.specs.declared.cmp.Ordering.{Ordering}
use Rattle.dh_periods.specs.declared.name.PeriodName.{PeriodName}
use Rattle.table_rows.specs.Order.{period_cmp}
use Rattle.table_rows.specs.declared.ends.End.{End}
use Rattle.table_rows.specs.declared.ends.End.TheVariants.{First, Last}
use Rattle.table_rows.specs.declared.ends.Found.{Found}
use Rattle.table_rows.specs.declared.ends.Run.{Run}
use Rattle.table_rows.specs.declared.sample.Sample.{Sample}
use Rattle.table_rows.specs.Samples.{backwards, has_number, number_of, same_series}

-- the order of periods in which the sample that counts goes beyond the others
abbrev pub order_of : End → PeriodName → PeriodName → Ordering
order_of Last = period_cmp
order_of First = backwards

abbrev pub run_with : ℤ → ℕ → ℕ → Run
run_with micros series best = record { micros = micros; series = series; best = best }

-- a sample is the first of its series
abbrev pub begins_series : Run → Sample → Sample → Bool
begins_series run best sample = nat_eq run.series 0 || not (same_series sample.series best.series)

-- a sample more: it has no number, or it begins a series, or it goes beyond the best of its series, or it doesn't
abbrev pub next_run : (PeriodName → PeriodName → Ordering) → Run → Sample → Sample → ℕ → Run
next_run order run best sample at =
    if not (has_number sample) then run
    else if begins_series run best sample then run_with (run.micros +ℤ number_of sample) (run.series + 1) at
    else if is_gt (order sample.period best.period) then run_with ((run.micros -ℤ number_of best) +ℤ number_of sample) run.series at
    else run

abbrev pub found_if_any : List Sample → ℤ → ℕ → Option Found
found_if_any [] micros series = None
found_if_any (sample ∷ samples) micros series = Some (record { micros = micros; series = series })
