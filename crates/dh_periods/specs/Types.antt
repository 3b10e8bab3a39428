-- The types of periods: what each is called, and how its periods lie in a year.
use Rattle.std.specs.Prelude.{ℕ, ◌≤◌, List, [], ◌∷◌, Option, find, bytes_eq}
use lib.Chars.{codes}
use Rattle.dh_periods.specs.declared.kind.PeriodType.{PeriodType}
use Rattle.dh_periods.specs.declared.kind.PeriodType.TheVariants.{Daily, Weekly, Monthly, BiMonthly, Quarterly, SixMonthly, SixMonthlyApril, Yearly}
use Rattle.dh_periods.specs.declared.kind.PeriodType.TheVariants.{FinancialApril, FinancialJuly, FinancialOct}
use Rattle.dh_periods.specs.declared.kind.Shape.{Shape}
use Rattle.dh_periods.specs.declared.kind.Shape.TheVariants.{Day, Week, Months}

-- a day, a week, or so many months, the year's first of which begins so many months after January
abbrev pub shape_of : PeriodType → Shape
shape_of Daily = Day
shape_of Weekly = Week
shape_of Monthly = Months 1 0
shape_of BiMonthly = Months 2 0
shape_of Quarterly = Months 3 0
shape_of SixMonthly = Months 6 0
shape_of SixMonthlyApril = Months 6 3
shape_of Yearly = Months 12 0
shape_of FinancialApril = Months 12 3
shape_of FinancialJuly = Months 12 6
shape_of FinancialOct = Months 12 9

-- the months of a period are at most a year, and it begins by October
abbrev pub IsShape : Shape → Type 0
IsShape Day = Unit {0}
IsShape Week = Unit {0}
IsShape (Months count opening) = (1 ≤ count) × (count ≤ 12) × (opening ≤ 9)

-- the name of a type
abbrev pub type_name : PeriodType → List ℕ
type_name Daily = codes "Daily"
type_name Weekly = codes "Weekly"
type_name Monthly = codes "Monthly"
type_name BiMonthly = codes "BiMonthly"
type_name Quarterly = codes "Quarterly"
type_name SixMonthly = codes "SixMonthly"
type_name SixMonthlyApril = codes "SixMonthlyApril"
type_name Yearly = codes "Yearly"
type_name FinancialApril = codes "FinancialApril"
type_name FinancialJuly = codes "FinancialJuly"
type_name FinancialOct = codes "FinancialOct"

-- all types, in their order
abbrev pub all_types : List PeriodType
all_types = Daily ∷ Weekly ∷ Monthly ∷ BiMonthly ∷ Quarterly ∷ SixMonthly ∷ SixMonthlyApril ∷ Yearly ∷ FinancialApril ∷ FinancialJuly ∷ FinancialOct ∷ []

-- the type of that name
unfoldable pub type_named : List ℕ → Option PeriodType
type_named name = find (λ kind. bytes_eq (type_name kind) name) all_types
