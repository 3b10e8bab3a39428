-- Each row, registration and event is of one of the years.
use Rattle.std.proofs.Common.{◌≡◌, ◌∙◌, ◌+◌, ◌-◌, ◌/◌, ◌%◌, ◌<◌, ℕ, true, List, [], ◌∷◌, ◌++◌, ◌||◌}
use Rattle.std.proofs.Common.{map, Option, Some, None, Bool, false, subst, inl, inr, refl, sym, ap, arith, ℤ, pos, neg_ℤ, ◌-ℤ◌}
use Rattle.std.proofs.Common.{◌+ℤ◌, ◌≤ℤ◌}
use Rattle.std.specs.Prelude.{option_map, unsigned_abs, int_le}
use Rattle.std.specs.FinMap.{int_cmp-IsAntisymmetric}
use Rattle.std.specs.List.{AllByRecursion, filter_map, list_all, list_any, cons_option}
use Rattle.std.specs.Ordering.{int_cmp, int_eq}
use Rattle.std.proofs.lemmas.Bool.{and_parts, and_from, le-leb}
use Rattle.std.proofs.lemmas.Bool.Decides.{Decides-int_eq}
use Rattle.std.proofs.lemmas.Cmp.{int_cmp_total}
use Rattle.std.proofs.lemmas.Int.{ints}
use Rattle.dh_periods.specs.declared.kind.PeriodType.TheVariants.{Daily}
use Rattle.dh_periods.specs.declared.name.PeriodName.{PeriodName}
use Rattle.dh_periods.specs.Calendar.{month_length, days_before_month, month_place, month_with, year_with, unix_day}
use Rattle.dh_periods.specs.Days.{is_listed, first_place, end_place, first_day, last_day}
use Rattle.dh_periods.specs.Places.{containing_of}
use Rattle.dh_periods.proofs.CalendarLemmas.{days_before_month-next, month_with-bounds, month_with-before}
use Rattle.dh_periods.proofs.ContainingLemmas.{containing_of-has, unix_day-place}
use Rattle.dh_periods.proofs.HeldLemmas.{int_le-yes}
use Rattle.dh_periods.proofs.ListedLemmas.{listed-from}
use Rattle.table_rows.specs.declared.row.Row.{Row}
use Rattle.table_rows.specs.declared.event.EventRow.{EventRow}
use Rattle.table_rows.specs.declared.event.RegRow.{RegRow}
use Rattle.table_rows.specs.Events.{has_days}
use Rattle.table_rows.specs.Store.{is_store}
use Rattle.table_rows.proofs.StoreLemmas.{store-holds}
use Rattle.dh_base.specs.Limits.{is_day}
use Rattle.table_sums.specs.Years.{period_year, day_year, is_row_in, is_event_in, is_reg_in, is_year_if_any, have_years}
use Rattle.table_sums.specs.YearParts.{AreOfYears, listed_as}
use Rattle.table_build.specs.Years.{row_year, reg_year, event_year, years_of}
use Rattle.table_build.proofs.DayLemmas.{last-month}
use Rattle.table_build.proofs.EachLemmas.{every, list_all-each}
use Rattle.table_build.proofs.MemberLemmas.{IsIn, each-member, in_order-has}

-- ---- each day has a year

nth-day : ℕ → PeriodName
nth-day n = record { kind = Daily; year = year_with n; number = month_with n % 12 + 1; day = n - days_before_month (month_with n) + 1 }

day-listed : (n : ℕ) → n < 73_414 → is_listed (nth-day n) ≡ true
unfolding nth-day
day-listed n less =
    let k = month_with n in
    let b = month_with-bounds n in
    let next = days_before_month-next k in
    let end = last-month in
    let early : k < 2412 = month_with-before 2412 n (omega (arith, end, less)) in
    let d = n - days_before_month k + 1 in
    listed-from (nth-day n) (omega arith) (omega arith)
    (and_from _ _ (le-leb 1 (k % 12 + 1) (omega arith))
    (and_from _ _ (le-leb (k % 12 + 1) 12 (omega arith))
    (and_from _ _ (le-leb 1 d (omega arith)) (le-leb d (month_length (1900 + k / 12) (k % 12 + 1)) (omega arith)))))

day-place : (n : ℕ) → first_place (nth-day n) ≡ n
unfolding nth-day first_place
day-place n =
    let k = month_with n in
    let b = month_with-bounds n in
    let back : month_place (1900 + k / 12) (k % 12 + 1) ≡ k = omega arith in
    let same : days_before_month (month_place (1900 + k / 12) (k % 12 + 1)) ≡ days_before_month k = ap days_before_month back in
    omega (arith, same, b.0)

day-end : (n : ℕ) → end_place (nth-day n) ≡ first_place (nth-day n) + 1
unfolding nth-day first_place end_place
day-end n = refl

day-first : (n : ℕ) → first_day (nth-day n) ≡ unix_day n
unfolding first_day
day-first n = ap unix_day (day-place n)

day-last : (n : ℕ) → last_day (nth-day n) ≡ unix_day (n + 1) -ℤ pos 1
unfolding last_day
day-last n = ap (λ m. unix_day m -ℤ pos 1) (day-end n ∙ ap (λ m. m + 1) (day-place n))

day-found : (n : ℕ) → n < 73_414 → containing_of Daily (unix_day n) (unix_day n) ≡ Some (nth-day n)
unfolding nth-day
day-found n less =
    let first = day-first n in
    let last = day-last n in
    containing_of-has Daily (unix_day n) (unix_day n) (nth-day n) (day-listed n less) refl (
      omega (arith, ints),
      omega (arith, ints),
      omega (
        arith,
        ints,
      ),
    )

pub day-has_year : (day : ℤ) → is_day day ≡ true → (year : ℤ) × (day_year day ≡ Some year)
unfolding day_year
day-has_year day is =
    let parts = and_parts (int_le (neg_ℤ (pos 25567)) day) (int_le day (pos 47846)) is in
    let from : neg_ℤ (pos 25567) ≤ℤ day = int_le-yes (neg_ℤ (pos 25567)) day parts.0 in
    let to : day ≤ℤ pos 47846 = int_le-yes day (pos 47846) parts.1 in
    let n = unsigned_abs (day +ℤ pos 25567) in
    let place : pos n ≡ day +ℤ pos 25567 = unix_day-place day from in
    let at : unix_day n ≡ day = omega (arith, ints) in
    let less : n < 73_414 = omega (arith, ints) in
    (period_year (nth-day n), ap (λ d. option_map period_year (containing_of Daily d d)) (sym at) ∙ ap (option_map period_year) (day-found n less))

-- ---- members

every-to : {X : Type 0} (P Q : X → Type 0) (xs : List X) → ((x : X) → P x → Q x) → AllByRecursion P xs → AllByRecursion Q xs
every-to P Q [] to all = tt
every-to P Q (x ∷ xs) to all = (to x all.0, every-to P Q xs to all.1)

pub in-map : {A B : Type 0} (f : A → B) (x : A) (xs : List A) → IsIn x xs → IsIn (f x) (map f xs)
in-map f x [] is = absurd is
in-map f x (y ∷ ys) (inl same) = inl (ap f same)
in-map f x (y ∷ ys) (inr later) = inr (in-map f x ys later)

pub in-option : {A B : Type 0} (f : A → Option B) (x : A) (b : B) (xs : List A) → f x ≡ Some b → IsIn x xs → IsIn b (filter_map f xs)
in-option f x b [] is there = absurd there
in-option {B = B} f x b (y ∷ ys) is (inl same) = subst (λ (o : Option B). IsIn b (cons_option o (filter_map f ys))) (sym is ∙ ap f same) (inl refl)
in-option {B = B} f x b (y ∷ ys) is (inr later) = later_in (f y) (in-option f x b ys is later)
  where
    later_in : (o : Option B) → IsIn b (filter_map f ys) → IsIn b (cons_option o (filter_map f ys))
    later_in (Some c) in_rest = inr in_rest
    later_in None in_rest = in_rest

pub in-left : {A : Type 0} (x : A) (xs ys : List A) → IsIn x xs → IsIn x (xs ++ ys)
in-left x [] ys is = absurd is
in-left x (z ∷ xs) ys (inl same) = inl same
in-left x (z ∷ xs) ys (inr later) = inr (in-left x xs ys later)

pub in-right : {A : Type 0} (x : A) (xs ys : List A) → IsIn x ys → IsIn x (xs ++ ys)
in-right x [] ys is = is
in-right x (z ∷ xs) ys is = inr (in-right x xs ys is)

in-any : (year : ℤ) (years : List ℤ) → IsIn year years → list_any (int_eq year) years ≡ true
in-any year [] is = absurd is
in-any year (y ∷ ys) (inl same) = ap (λ b. b || list_any (int_eq year) ys) ((Decides-int_eq year y).1 same)
in-any year (y ∷ ys) (inr later) = ap (λ b. int_eq year y || b) (in-any year ys later) ∙ or_true (int_eq year y)
  where
    or_true : (b : Bool) → (b || true) ≡ true
    or_true true = refl
    or_true false = refl

years-have : (rows : List Row) (regs : List RegRow) (events : List EventRow) (year : ℤ)
    → IsIn year (map row_year rows ++ (map reg_year regs ++ filter_map event_year events)) → list_any (int_eq year) (years_of rows regs events) ≡ true
unfolding years_of
years-have rows regs events year is =
    in-any year (years_of rows regs events)
    (in_order-has int_cmp (λ y. y) int_cmp_total int_cmp-IsAntisymmetric (λ y. Unit {0}) (λ x y p q same. same)
    (map row_year rows ++ (map reg_year regs ++ filter_map event_year events)) year (every _) is)

-- ---- all have years

module _ (rows : List Row) (events : List EventRow) (regs : List RegRow) where
  rows-have : have_years is_row_in (years_of rows regs events) rows ≡ true
  unfolding row_year
  rows-have =
      list_all-each (λ row. list_any (λ year. is_row_in year row) (years_of rows regs events)) rows
      (every-to (λ row. IsIn row rows) (λ row. list_any (λ year. is_row_in year row) (years_of rows regs events) ≡ true) rows (λ row there.
      years-have rows regs events (row_year row)
      (in-left (row_year row) (map row_year rows) (map reg_year regs ++ filter_map event_year events) (in-map row_year row rows there)))
      (each-member rows))

  regs-have : have_years is_reg_in (years_of rows regs events) regs ≡ true
  unfolding reg_year
  regs-have =
      list_all-each (λ reg. list_any (λ year. is_reg_in year reg) (years_of rows regs events)) regs
      (every-to (λ reg. IsIn reg regs) (λ reg. list_any (λ year. is_reg_in year reg) (years_of rows regs events) ≡ true) regs (λ reg there.
      years-have rows regs events (reg_year reg)
      (in-right (reg_year reg) (map row_year rows) (map reg_year regs ++ filter_map event_year events)
      (in-left (reg_year reg) (map reg_year regs) (filter_map event_year events) (in-map reg_year reg regs there))))
      (each-member regs))

  event-has : (event : EventRow) → has_days event ≡ true → IsIn event events
      → list_any (λ year. is_event_in year event) (years_of rows regs events) ≡ true
  unfolding event_year has_days
  event-has event days there =
      let found = day-has_year event.day (and_parts (is_day event.day) _ days).0 in
      ap (λ o. list_any (is_year_if_any o) (years_of rows regs events)) found.1
      ∙ years-have rows regs events found.0
      (in-right found.0 (map row_year rows) (map reg_year regs ++ filter_map event_year events)
      (in-right found.0 (map reg_year regs) (filter_map event_year events) (in-option event_year event found.0 events found.1 there)))

  events-each : (list : List EventRow) → list_all has_days list ≡ true → AllByRecursion (λ event. IsIn event events) list
      → AllByRecursion (λ event. list_any (λ year. is_event_in year event) (years_of rows regs events) ≡ true) list
  events-each [] days there = tt
  events-each (event ∷ list) days there =
      let parts = and_parts (has_days event) (list_all has_days list) days in
      (event-has event parts.0 there.0, events-each list parts.1 there.1)

  -- the lists of a store are of their years
  pub listed-years : (years : List ℤ) → years ≡ years_of rows regs events → is_store rows events regs years ≡ true
      → AreOfYears (listed_as rows events regs) years
  listed-years years is store =
      let days = (store-holds rows events regs years store).event_days in
      record {
        store = store;
        rows = ap (λ ys. have_years is_row_in ys rows) is ∙ rows-have;
        events = ap (λ ys. have_years is_event_in ys events) is
            ∙ list_all-each (λ event. list_any (λ year. is_event_in year event) (years_of rows regs events)) events (events-each events days (each-member
            events));
        regs = ap (λ ys. have_years is_reg_in ys regs) is ∙ regs-have;
      }
