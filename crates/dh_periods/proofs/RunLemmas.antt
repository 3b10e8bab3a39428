-- Which places have a period, and the runs of periods that relative periods stand for.
use Rattle.std.proofs.Common.{◌≡◌, ℕ, suc, ◌+◌, ◌-◌, ◌*◌, ◌/◌, ◌%◌, ◌<◌, ◌≤◌, true, List, [], ◌∷◌, ◌++◌, refl, sym, ap, subst, ◌∙◌, arith, Some, None, ℤ}
use Rattle.std.proofs.Common.{pos, ◌+ℤ◌}
use Rattle.std.specs.Prelude.{unsigned_abs, Bool, false, Option, IfSome, if◌then◌else◌}
use Rattle.std.proofs.lemmas.Bool.{and_from, le-leb, eq-eqb}
use Rattle.dh_periods.specs.declared.kind.PeriodType.{PeriodType}
use Rattle.dh_periods.specs.declared.kind.PeriodType.TheVariants.{Daily, Weekly, Monthly, BiMonthly, Quarterly, SixMonthly, SixMonthlyApril, Yearly}
use Rattle.dh_periods.specs.declared.kind.PeriodType.TheVariants.{FinancialApril, FinancialJuly, FinancialOct}
use Rattle.dh_periods.specs.declared.kind.Shape.{Shape}
use Rattle.dh_periods.specs.declared.kind.Shape.TheVariants.{Day, Week, Months}
use Rattle.dh_periods.specs.declared.name.PeriodName.{PeriodName}
use Rattle.dh_periods.specs.declared.windows.Stretch.{Stretch}
use Rattle.dh_periods.specs.declared.windows.Stretch.TheVariants.{Before, OfYear}
use Rattle.dh_periods.specs.Calendar.{month_length, days_before_month, month_place, first_week, weeks_in_year, month_with, year_with}
use Rattle.dh_periods.specs.Types.{shape_of}
use Rattle.dh_periods.specs.Days.{is_in_year_as, is_listed}
use Rattle.dh_periods.specs.Places.{nth_as, nth_period, place_with}
use Rattle.dh_periods.specs.Relative.{IsReach, IsYearRun, HasReach, run_of, periods_on, single_named, several_named, some_or, relative_named, relative_of}
use Rattle.dh_periods.proofs.CalendarLemmas.{days_before_month-next, days_before_month-zero, days_before_month-later, month_with-bounds, month_with-before}
use Rattle.dh_periods.proofs.JiffLemmas.{days_before_month-end}
use Rattle.dh_periods.proofs.ListedLemmas.{listed-from}
use Rattle.dh_periods.proofs.PlaceLemmas.{nth_as-kind}

pub run_of-none : (kind : PeriodType) (start : ℕ) → run_of kind start (start - start) ≡ []
unfolding run_of
run_of-none kind start = let none : start - start ≡ 0 = omega arith in rw none refl

pub run_of-more : (kind : PeriodType) (start place : ℕ) → start ≤ place
    → run_of kind start (place + 1 - start) ≡ run_of kind start (place - start) ++ nth_period kind place ∷ []
unfolding run_of
run_of-more kind start place h =
    let more : place + 1 - start ≡ suc (place - start) = omega arith in
    let back : start + (place - start) ≡ place = omega arith in
    rw (more, back) refl

-- the places of the days and weeks of the years to 2100, and of the periods of months
HasPeriod : Shape → ℕ → Type 0
HasPeriod Day i = year_with i ≤ 2100
HasPeriod Week i = year_with (7 * i + 3) ≤ 2100
HasPeriod (Months count opening) i = (1 ≤ 12 / count) × (1900 + i / (12 / count) ≤ 2100) × (i % (12 / count) < 12 / count)

in-year : (s : Shape) (kind : PeriodType) (i : ℕ) → HasPeriod s i → is_in_year_as s (nth_as s kind i) ≡ true
unfolding HasPeriod
in-year Day kind i h =
    let k = month_with i in
    let b = month_with-bounds i in
    let next = days_before_month-next k in
    let d = i - days_before_month k + 1 in
    and_from _ _ (le-leb 1 (k % 12 + 1) (omega arith))
    (and_from _ _ (le-leb (k % 12 + 1) 12 (omega arith))
    (and_from _ _ (le-leb 1 d (omega arith)) (le-leb d (month_length (1900 + k / 12) (k % 12 + 1)) (omega arith))))
in-year Week kind i h =
    let y = year_with (7 * i + 3) in
    let b = month_with-bounds (7 * i + 3) in
    let from = days_before_month-later (month_place y 1) (month_with (7 * i + 3)) (omega arith) in
    let to = days_before_month-later (month_with (7 * i + 3) + 1) (month_place (y + 1) 1) (omega arith) in
    let low : first_week y ≤ i = omega arith in
    let high : i < first_week (y + 1) = omega arith in
    let n = i - first_week y + 1 in
    and_from _ _ (le-leb 1 n (omega arith)) (and_from _ _ (le-leb n (weeks_in_year y) (omega arith)) (eq-eqb 1 1 refl))
in-year (Months count opening) kind i h =
    let n = i % (12 / count) + 1 in
    and_from _ _ (le-leb 1 n (omega arith)) (and_from _ _ (le-leb n (12 / count) (omega arith)) (eq-eqb 1 1 refl))

year-as : (s : Shape) (kind : PeriodType) (i : ℕ) → HasPeriod s i → (1900 ≤ (nth_as s kind i).year) × ((nth_as s kind i).year ≤ 2100)
unfolding HasPeriod
year-as Day kind i h = (omega arith, h)
year-as Week kind i h = (omega arith, h)
year-as (Months count opening) kind i h = (omega arith, h.1)

nth-shape : (s : Shape) (kind : PeriodType) (i : ℕ) → s ≡ shape_of kind → HasPeriod s i → is_listed (nth_period kind i) ≡ true
unfolding nth_period
nth-shape s kind i same h =
    let p : PeriodName = nth_as s kind i in
    let year = year-as s kind i h in
    let shape : s ≡ shape_of p.kind = same ∙ sym (ap shape_of (nth_as-kind s kind i)) in
    let P : Shape → Type 0 = λ t. is_in_year_as t p ≡ true in
    let there = listed-from p year.0 year.1 (subst P shape (in-year s kind i h)) in
    let Q : Shape → Type 0 = λ t. is_listed (nth_as t kind i) ≡ true in
    subst Q same there

-- a day of the years to 2099
record IsDay (n : ℕ) : Type 0 where
  pub from : 3652 ≤ n
  pub to : n ≤ 73_048

month-range : (n : ℕ) → IsDay n → (117 ≤ month_with n) × (month_with n < 2412)
month-range n h =
    let b = month_with-bounds n in
    let early = days_before_month-later 0 (month_with n + 1) (omega arith) in
    let last = days_before_month-later 2412 2421 (omega arith) in
    let end = days_before_month-end in
    (omega (arith, days_before_month-zero, h.from), month_with-before 2412 n (omega (arith, h.to)))

-- the places from so many before that of a day to that of the day have periods
Reaches : PeriodType → ℕ → Type 0
Reaches kind n = (back i : ℕ) → IsReach kind back → place_with kind n - back ≤ i → i ≤ place_with kind n → is_listed (nth_period kind i) ≡ true

reaches : (kind : PeriodType) (n : ℕ) → IsDay n → Reaches kind n
unfolding Reaches place_with HasPeriod
reaches Daily n day back i near from to =
    let at : i ≤ n = to in
    let top = day.to in
    let last = days_before_month-later 2412 2421 (omega arith) in
    let end = days_before_month-end in
    let b = month_with-before 2412 i (omega arith) in
    nth-shape Day Daily i refl (omega arith)
reaches Weekly n day back i near from to =
    let at : i ≤ n / 7 = to in
    let top = day.to in
    let last = days_before_month-later 2412 2421 (omega arith) in
    let end = days_before_month-end in
    let b = month_with-before 2412 (7 * i + 3) (omega arith) in
    nth-shape Week Weekly i refl (omega arith)
reaches Monthly n day back i near from to =
    let m = month-range n day in
    let at : i ≤ (month_with n - 0) / 1 = to in
    nth-shape (Months 1 0) Monthly i refl (omega arith, omega arith, omega arith)
reaches Quarterly n day back i near from to =
    let m = month-range n day in
    let at : i ≤ (month_with n - 0) / 3 = to in
    nth-shape (Months 3 0) Quarterly i refl (omega arith, omega arith, omega arith)
reaches Yearly n day back i near from to =
    let m = month-range n day in
    let at : i ≤ (month_with n - 0) / 12 = to in
    nth-shape (Months 12 0) Yearly i refl (omega arith, omega arith, omega arith)
reaches BiMonthly n day back i near from to = absurd near
reaches SixMonthly n day back i near from to = absurd near
reaches SixMonthlyApril n day back i near from to = absurd near
reaches FinancialApril n day back i near from to = absurd near
reaches FinancialJuly n day back i near from to = absurd near
reaches FinancialOct n day back i near from to = absurd near

-- the same of the periods of the day's year
reaches-year : (kind : PeriodType) (count n i : ℕ) → IsDay n → IsYearRun kind count → count * (year_with n - 1900) ≤ i
    → i < count * (year_with n - 1900) + count → is_listed (nth_period kind i) ≡ true
unfolding HasPeriod
reaches-year Monthly count n i day has from to =
    let m = month-range n day in
    let P : ℕ → Type 0 = λ c. i < c * (year_with n - 1900) + c in
    let at : i < 12 * (year_with n - 1900) + 12 = subst P has to in
    nth-shape (Months 1 0) Monthly i refl (omega arith, omega arith, omega arith)
reaches-year Quarterly count n i day has from to =
    let m = month-range n day in
    let P : ℕ → Type 0 = λ c. i < c * (year_with n - 1900) + c in
    let at : i < 4 * (year_with n - 1900) + 4 = subst P has to in
    nth-shape (Months 3 0) Quarterly i refl (omega arith, omega arith, omega arith)
reaches-year Daily count n i day has from to = absurd has
reaches-year Weekly count n i day has from to = absurd has
reaches-year BiMonthly count n i day has from to = absurd has
reaches-year SixMonthly count n i day has from to = absurd has
reaches-year SixMonthlyApril count n i day has from to = absurd has
reaches-year Yearly count n i day has from to = absurd has
reaches-year FinancialApril count n i day has from to = absurd has
reaches-year FinancialJuly count n i day has from to = absurd has
reaches-year FinancialOct count n i day has from to = absurd has

-- and the place of the day is far enough from the first
far-enough : (kind : PeriodType) (n back : ℕ) → IsDay n → IsReach kind back → (back ≤ place_with kind n) × (place_with kind n ≤ 80000)
unfolding place_with
far-enough Daily n back day near = let a = day.from in let b = day.to in let at : back ≤ 1 = near in (omega arith, omega arith)
far-enough Weekly n back day near = let a = day.from in let b = day.to in let at : back ≤ 1 = near in (omega arith, omega arith)
far-enough Monthly n back day near = let m = month-range n day in let at : back ≤ 12 = near in (omega arith, omega arith)
far-enough Quarterly n back day near = let m = month-range n day in let at : back ≤ 4 = near in (omega arith, omega arith)
far-enough Yearly n back day near = let m = month-range n day in let at : back ≤ 5 = near in (omega arith, omega arith)
far-enough BiMonthly n back day near = absurd near
far-enough SixMonthly n back day near = absurd near
far-enough SixMonthlyApril n back day near = absurd near
far-enough FinancialApril n back day near = absurd near
far-enough FinancialJuly n back day near = absurd near
far-enough FinancialOct n back day near = absurd near

pub before-listed : (kind : PeriodType) (n back count p : ℕ) → 3652 ≤ n → n ≤ 73_048 → IsReach kind back → count ≤ back + 1 → p ≡ place_with kind n → (i : ℕ)
    → p - back ≤ i → i < p - back + count → is_listed (nth_period kind i) ≡ true
unfolding Reaches
before-listed kind n back count p low high near few same i from to =
    let day : IsDay n = record { from = low; to = high } in
    let far = far-enough kind n back day near in
    reaches kind n day back i near (omega arith) (omega arith)

pub back-in : (kind : PeriodType) (n back p : ℕ) → 3652 ≤ n → n ≤ 73_048 → IsReach kind back → p ≡ place_with kind n → back ≤ p
back-in kind n back p low high near same =
    let day : IsDay n = record { from = low; to = high } in
    let far = far-enough kind n back day near in
    omega arith

pub year-listed : (kind : PeriodType) (count n y : ℕ) → 3652 ≤ n → n ≤ 73_048 → IsYearRun kind count → y ≡ year_with n - 1900 → (i : ℕ) → count * y ≤ i
    → i < count * y + count → is_listed (nth_period kind i) ≡ true
year-listed kind count n y low high has same i from to =
    let day : IsDay n = record { from = low; to = high } in
    reaches-year kind count n i day has (rw (← same) from) (rw (← same) to)

-- a name's periods, and no name
pub relative_of-some : (name : List ℕ) (day : ℤ) (n : ℕ) (r : Stretch) (xs : List PeriodName) → pos n ≡ day +ℤ pos 25567 → Some r ≡ relative_named name
    → xs ≡ periods_on n r → Some xs ≡ relative_of name day
unfolding relative_of
relative_of-some name day n r xs place named is =
    let same : n ≡ unsigned_abs (day +ℤ pos 25567) = ap unsigned_abs place in
    rw (← named, ← same, is) refl

pub relative_of-none : (name : List ℕ) (day : ℤ) → None ≡ relative_named name → None ≡ relative_of name day
unfolding relative_of
relative_of-none name day none = rw (← none) refl

-- a name of one period, and one of several
pub named-single : (name : List ℕ) (found : Stretch) → Some found ≡ single_named name → Some found ≡ relative_named name
unfolding relative_named
named-single name found is = ap (λ o. some_or o (several_named name)) is

pub named-several : (name : List ℕ) (found : Option Stretch) → None ≡ single_named name → found ≡ several_named name → found ≡ relative_named name
unfolding relative_named
named-several name found none is = is ∙ ap (λ o. some_or o (several_named name)) none

-- ---- how far the named ones reach back

record IsNear (found : Option Stretch) : Type 0 where
  is : IfSome found HasReach

nothing : IsNear None
nothing = record { is = tt }

named-if : (test : Bool) (found : Stretch) (rest : Option Stretch) → HasReach found → IsNear rest → IsNear (if test then Some found else rest)
named-if true found rest here others = record { is = here }
named-if false found rest here others = others

one_of : (o p : Option Stretch) → IsNear o → IsNear p → IsNear (some_or o p)
one_of (Some r) p h k = h
one_of None p h k = k

single-reach : (name : List ℕ) → IsNear (single_named name)
single-reach name =
    named-if _ (Before Daily 0 1) _ (omega arith, omega arith)
    (named-if _ (Before Daily 1 1) _ (omega arith, omega arith)
    (named-if _ (Before Weekly 0 1) _ (omega arith, omega arith)
    (named-if _ (Before Weekly 1 1) _ (omega arith, omega arith)
    (named-if _ (Before Monthly 0 1) _ (omega arith, omega arith)
    (named-if _ (Before Monthly 1 1) _ (omega arith, omega arith)
    (named-if _ (Before Quarterly 0 1) _ (omega arith, omega arith)
    (named-if _ (Before Quarterly 1 1) _ (omega arith, omega arith)
    (named-if _ (Before Yearly 0 1) _ (omega arith, omega arith)
    (named-if _ (Before Yearly 1 1) _ (omega arith, omega arith) nothing)))))))))

several-reach : (name : List ℕ) → IsNear (several_named name)
several-reach name =
    named-if _ (Before Monthly 3 3) _ (omega arith, omega arith)
    (named-if _ (Before Monthly 6 6) _ (omega arith, omega arith)
    (named-if _ (Before Monthly 12 12) _ (omega arith, omega arith)
    (named-if _ (Before Quarterly 4 4) _ (omega arith, omega arith)
    (named-if _ (Before Yearly 5 5) _ (omega arith, omega arith)
    (named-if _ (OfYear Monthly 12) _ refl
    (named-if _ (OfYear Quarterly 4) _ refl nothing))))))

pub relative-reach : (name : List ℕ) (found : Stretch) → Some found ≡ relative_named name → HasReach found
unfolding relative_named
relative-reach name found is =
    let near : IsNear (Some found) = subst IsNear (sym is) (one_of (single_named name) (several_named name) (single-reach name) (several-reach name)) in
    near.is
