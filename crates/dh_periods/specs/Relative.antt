-- Relative periods: what a name stands for on a day.
use Rattle.std.specs.Prelude.{ℕ, zero, suc, ◌+◌, ◌-◌, ◌*◌, ◌≤◌, ◌≡◌, if◌then◌else◌, Option, Some, None, option_map, List, [], ◌∷◌, ◌++◌, bytes_eq, codes, ℤ}
use Rattle.std.specs.Prelude.{pos, ◌+ℤ◌, unsigned_abs}
use Rattle.dh_periods.specs.declared.kind.PeriodType.{PeriodType}
use Rattle.dh_periods.specs.declared.kind.PeriodType.TheVariants.{Daily, Weekly, Monthly, BiMonthly, Quarterly, SixMonthly, SixMonthlyApril, Yearly}
use Rattle.dh_periods.specs.declared.kind.PeriodType.TheVariants.{FinancialApril, FinancialJuly, FinancialOct}
use Rattle.dh_periods.specs.declared.name.PeriodName.{PeriodName}
use Rattle.dh_periods.specs.declared.windows.Stretch.{Stretch}
use Rattle.dh_periods.specs.declared.windows.Stretch.TheVariants.{Before, OfYear}
use Rattle.dh_periods.specs.Calendar.{year_with}
use Rattle.dh_periods.specs.Places.{nth_period, place_with}

-- what stands beside a name in a table
abbrev pub beside : List (List ℕ × Stretch) → List ℕ → Option Stretch
beside [] name = None
beside (entry ∷ more) name = if bytes_eq name entry.0 then Some entry.1 else beside more name

-- one period: that of the day, or the one before it
abbrev pub single_named : List ℕ → Option Stretch
single_named name =
    if bytes_eq name (codes "TODAY") then Some (Before Daily 0 1)
    else (if bytes_eq name (codes "YESTERDAY") then Some (Before Daily 1 1)
    else (if bytes_eq name (codes "THIS_WEEK") then Some (Before Weekly 0 1)
    else (if bytes_eq name (codes "LAST_WEEK") then Some (Before Weekly 1 1)
    else (if bytes_eq name (codes "THIS_MONTH") then Some (Before Monthly 0 1)
    else (if bytes_eq name (codes "LAST_MONTH") then Some (Before Monthly 1 1)
    else (if bytes_eq name (codes "THIS_QUARTER") then Some (Before Quarterly 0 1)
    else (if bytes_eq name (codes "LAST_QUARTER") then Some (Before Quarterly 1 1)
    else (if bytes_eq name (codes "THIS_YEAR") then Some (Before Yearly 0 1)
    else (if bytes_eq name (codes "LAST_YEAR") then Some (Before Yearly 1 1)
    else None)))))))))

-- several: those before that of the day, or all of the day's year
abbrev pub several_named : List ℕ → Option Stretch
several_named name =
    if bytes_eq name (codes "LAST_3_MONTHS") then Some (Before Monthly 3 3)
    else (if bytes_eq name (codes "LAST_6_MONTHS") then Some (Before Monthly 6 6)
    else (if bytes_eq name (codes "LAST_12_MONTHS") then Some (Before Monthly 12 12)
    else (if bytes_eq name (codes "LAST_4_QUARTERS") then Some (Before Quarterly 4 4)
    else (if bytes_eq name (codes "LAST_5_YEARS") then Some (Before Yearly 5 5)
    else (if bytes_eq name (codes "MONTHS_THIS_YEAR") then Some (OfYear Monthly 12)
    else (if bytes_eq name (codes "QUARTERS_THIS_YEAR") then Some (OfYear Quarterly 4)
    else None))))))

abbrev pub some_or : Option Stretch → Option Stretch → Option Stretch
some_or (Some r) other = Some r
some_or None other = other

unfoldable pub relative_named : List ℕ → Option Stretch
relative_named name = some_or (single_named name) (several_named name)

-- how far a relative period reaches back
abbrev pub IsReach : PeriodType → ℕ → Type 0
IsReach Daily back = back ≤ 1
IsReach Weekly back = back ≤ 1
IsReach Monthly back = back ≤ 12
IsReach BiMonthly back = ⊥
IsReach Quarterly back = back ≤ 4
IsReach SixMonthly back = ⊥
IsReach SixMonthlyApril back = ⊥
IsReach Yearly back = back ≤ 5
IsReach FinancialApril back = ⊥
IsReach FinancialJuly back = ⊥
IsReach FinancialOct back = ⊥

-- the periods of a year
abbrev pub IsYearRun : PeriodType → ℕ → Type 0
IsYearRun Monthly count = count ≡ 12
IsYearRun Quarterly count = count ≡ 4
IsYearRun _ count = ⊥

abbrev pub HasReach : Stretch → Type 0
HasReach (Before kind back count) = IsReach kind back × (count ≤ back + 1)
HasReach (OfYear kind count) = IsYearRun kind count

-- so many periods of a type from a place on, oldest first
unfoldable pub run_of : PeriodType → ℕ → ℕ → List PeriodName
run_of kind start zero = []
run_of kind start (suc count) = run_of kind start count ++ nth_period kind (start + count) ∷ []

-- the periods that a relative period stands for on the nth day since 1 January 1900
abbrev pub periods_on : ℕ → Stretch → List PeriodName
periods_on n (Before kind back count) = run_of kind (place_with kind n - back) count
periods_on n (OfYear kind count) = run_of kind (count * (year_with n - 1900)) count

-- the periods that a name stands for on a day
unfoldable pub relative_of : List ℕ → ℤ → Option (List PeriodName)
relative_of name day = option_map (periods_on (unsigned_abs (day +ℤ pos 25567))) (relative_named name)
